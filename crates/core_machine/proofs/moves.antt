-- What is asked of each move of a seat, a file for each call.
pub mod Array
pub mod Birth
pub mod Collect
pub mod Compare
pub mod Gather
pub mod Get
pub mod Leave
pub mod Open
pub mod Standing
pub mod Poll
pub mod Set
pub mod Spine
pub mod Local
pub mod Walk
use Rattle.std.proofs.Common.{◌≡◌, ℕ, ◌^◌, ◌<◌, Option, Some, None, length, refl, subst}
use Rattle.std.specs.Prelude.{IfSome, option_map}
use Rattle.core_machine.proofs.Terms.{Heap, IsHeap, Granting, Withdrawing, Gathering, GivingBack, Refusing, Placing, Listing, Storing, Bearing, Point, LoadingMeta, Walking}
use Rattle.core_machine.proofs.Terms.{LoadingSpot, Indexing, Getting, Naming, LoadingOld, ShadingOld, ShadingNew, Swapping, Move, next_move, due_step, seat_after, Step, Nears, owes}
use Rattle.core_machine.proofs.Terms.{steps_left, FoundPointsWithin, address_of, Fits, Seat, Command, MayBegin, after_begin}
use Rattle.core_machine.proofs.kinds.{point_kind}
use Rattle.core_machine.proofs.seat_lemmas.FittingEntries.{fits_with_entries}
use Rattle.heap_model.specs.declared.command.Command.TheVariants as commands
use Rattle.core_machine.proofs.moves.Standing.{MoveStands, PointStands, BeginStands, CommandStands}

-- the move that is due
pub due_move_stands : (heap : Heap) (number : ℕ) (seat : Seat) → IsHeap heap → number < 16 → Fits heap seat → IfSome (next_move heap number seat) (MoveStands heap number seat seat.point)
due_move_stands heap number seat limits few fits = (point_kind seat.point).stands heap number seat
    record { limits = limits; few = few; fits = fits; point_is = refl; hand = fits.at_point; way = fits.way_at_point; answer = fits.answer_at_point }

-- so it is with a move that is known
pub due_stands : (heap : Heap) (number : ℕ) (seat : Seat) (move : Move) → IsHeap heap → number < 16 → Fits heap seat → next_move heap number seat ≡ Some move → MoveStands heap number seat seat.point move
due_stands heap number seat move limits few fits due = subst (λ m. IfSome m (MoveStands heap number seat seat.point)) due (due_move_stands heap number seat limits few fits)

-- the seat's data fit together after it, with its entries, where the word that it found leads within the heap
pub due_fits : (heap : Heap) (number : ℕ) (seat : Seat) (move : Move) (found : ℕ) → IsHeap heap → number < 16 → Fits heap seat → next_move heap number seat ≡ Some move
    → found < 2 ^ 64 → FoundPointsWithin heap (address_of move.step) found → Fits heap (seat_after move found)
due_fits heap number seat move found limits few fits due small led =
    fits_with_entries heap (move.told found) (move.adds found) ((due_stands heap number seat move limits few fits due).fits found small led)

-- fewer steps are left after it, whatever word it found, and no more entries are added than were owed
pub due_nears : (heap : Heap) (number : ℕ) (seat : Seat) (move : Move) (found : ℕ) → IsHeap heap → number < 16 → Fits heap seat → next_move heap number seat ≡ Some move
    → Nears heap (seat_after move found) (owes seat) (steps_left heap seat) (length (move.adds found))
due_nears heap number seat move found limits few fits due = (due_stands heap number seat move limits few fits due).near found

-- a step that is due is a move's
pub due_step_is_moves : (heap : Heap) (number : ℕ) (seat : Seat) (step : Step) → due_step heap number seat ≡ Some step → (move : Move) × (next_move heap number seat ≡ Some move) × (move.step ≡ step)
due_step_is_moves heap number seat step due = by (next_move heap number seat) refl due
  where
    by : (next : Option Move) → next_move heap number seat ≡ next → option_map (λ m. m.step) next ≡ Some step → (move : Move) × (next_move heap number seat ≡ Some move) × (move.step ≡ step)
    by None is due = cc
    by (Some move) is due = (move, is, cc)

-- each begin stands, by the command
begin_at : (command : Command) → CommandStands command
begin_at (commands.New d fields) = Gather.command_stands_for_new d fields
begin_at (commands.Array d cells) = Array.command_stands_for_array d cells
begin_at (commands.Get d r i) = Open.begin_stands_at_access (commands.Get d r i) tt
begin_at (commands.Set r i v) = Open.begin_stands_at_access (commands.Set r i v) tt
begin_at (commands.Cas r i a v) = Open.begin_stands_at_access (commands.Cas r i a v) tt
begin_at (commands.Num d n) = λ heap number seat ready. Local.local_begin_stands (commands.Num d n) heap number seat ready tt
begin_at (commands.Nil d) = λ heap number seat ready. Local.local_begin_stands (commands.Nil d) heap number seat ready tt
begin_at (commands.Copy d r) = λ heap number seat ready. Local.local_begin_stands (commands.Copy d r) heap number seat ready tt
begin_at (commands.Same a b) = λ heap number seat ready. Local.local_begin_stands (commands.Same a b) heap number seat ready tt
begin_at (commands.Len r) = Open.begin_stands_at_access (commands.Len r) tt
begin_at commands.Poll = Poll.command_stands_for_poll
begin_at commands.Collect = λ heap number seat ready. absurd ready.may.served
begin_at commands.Leave = Leave.command_stands_for_leave

-- the begin of a command that may be begun
pub begin_stands : (heap : Heap) (number : ℕ) (seat : Seat) (command : Command) → IsHeap heap → Fits heap seat → MayBegin seat command
    → BeginStands heap number seat command (after_begin heap seat command)
begin_stands heap number seat command limits fits may = begin_at command heap number seat record { limits = limits; fits = fits; may = may }
