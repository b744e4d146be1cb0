-- The one table of moves: what is due at each point of a call, and what it does.
use Rattle.std.specs.Prelude.{ℕ, Option, Some, None, option_map}
use Rattle.heap_model.specs.declared.heap.Heap.{Heap}
use Rattle.core_machine.specs.declared.point.Point.{Point}
use Rattle.core_machine.specs.declared.point.Point.TheVariants as points
use Rattle.core_machine.specs.declared.step.Step.{Step}
use Rattle.core_machine.specs.seat.Seat.{Seat}
pub use Rattle.core_machine.specs.Move.{Move, plain_move, seat_after}
pub use Rattle.core_machine.specs.seat.MakingMoves.{grant_move, spine_full_entry, withdraw_move, refusal_step, placing_move, listing_step, listing_move, takes_some, claim_move, inside_first_group, give_back_move, full_entry, refusal_looks, refusal_move, word_store, due_store, store_move, bears_black_of, hand_run, is_last_birth, birth_move, made_entry, last_birth_move, bearing_move, making_move}
pub use Rattle.core_machine.specs.seat.AccessMoves.{access_move}
pub use Rattle.core_machine.specs.seat.HandshakeMoves.{local_move, polling_move, leaving_move}
pub use Rattle.core_machine.specs.seat.Collecting.{collecting_move}

-- the move that is due at a point; none where no call is in flight
abbrev pub move_at : Heap → ℕ → Seat → Point → Option Move
move_at heap number seat points.Idle = None
move_at heap number seat (points.Making point) = Some (making_move heap number seat point)
move_at heap number seat points.Local = Some (local_move number seat)
move_at heap number seat (points.Access point) = Some (access_move heap number seat point)
move_at heap number seat (points.Polling point) = Some (polling_move number seat point)
move_at heap number seat (points.Collecting point) = Some (collecting_move number seat point)
move_at heap number seat (points.Leaving point) = Some (leaving_move number seat point)

-- the seat's next move; none exactly where no call is in flight
abbrev pub next_move : Heap → ℕ → Seat → Option Move
next_move heap number seat = move_at heap number seat seat.point

-- the one step that the seat makes next
abbrev pub due_step : Heap → ℕ → Seat → Option Step
due_step heap number seat = option_map (λ move. move.step) (next_move heap number seat)

-- the seat after its next move that found this word; as it is where none is due
abbrev pub seat_after_due : Seat → Option Move → ℕ → Seat
seat_after_due seat None found = seat
seat_after_due seat (Some move) found = seat_after move found
