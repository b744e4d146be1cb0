-- A seat that is behind, and the answers that tell that it is waited for.
use Rattle.std.specs.Prelude.{ℕ, Option, Some, None, Result, Ok, Err}
use Rattle.heap_model.specs.declared.calls.collect.CollectReply.{CollectReply}
use Rattle.heap_model.specs.declared.calls.collect.CollectReply.TheVariants as notes
use Rattle.heap_model.specs.declared.calls.collector_calls.Turn.{Turn}
use Rattle.heap_model.specs.declared.calls.collector_calls.Turn.TheVariants as turns
use Rattle.heap_model.specs.declared.reply.Reply.{Reply}
use Rattle.heap_model.specs.declared.reply.Reply.TheVariants as replies
use Rattle.heap_model.specs.declared.reply.TurnReply.{TurnReply}
use Rattle.heap_model.specs.declared.reply.TurnReply.TheVariants as results
use Rattle.heap_model.specs.declared.behind.Behind.{Behind}

-- the seat that has answered this, while this is the phase
abbrev pub behind_of : ℕ → ℕ → ℕ → Behind
behind_of seat answered phase = record { seat = seat; answered = answered; phase = phase }

-- the reply that this seat is waited for
abbrev pub as_reply : Behind → Reply
as_reply behind = replies.Waits behind.seat behind.answered behind.phase

-- the reply of the collector that it is
abbrev pub as_turn_reply : Behind → TurnReply
as_turn_reply behind = results.Waits behind.seat behind.answered behind.phase

-- what a collect comes to by it
abbrev pub as_collect_reply : Behind → CollectReply
as_collect_reply behind = notes.Waits behind.seat behind.answered behind.phase

-- what a turn comes to by it
abbrev pub as_turn : Behind → Turn
as_turn behind = turns.Waits behind.seat behind.answered behind.phase

-- the seat that a reply tells to be waited for
abbrev pub behind_in_reply : Reply → Option Behind
behind_in_reply (replies.Waits seat answered phase) = Some (behind_of seat answered phase)
behind_in_reply _ = None

-- the seat that a reply of the collector tells to be waited for
abbrev pub behind_in_turn_reply : TurnReply → Option Behind
behind_in_turn_reply (results.Waits seat answered phase) = Some (behind_of seat answered phase)
behind_in_turn_reply _ = None

-- the seat for which a turn waits
abbrev pub behind_in_turn : Turn → Option Behind
behind_in_turn (turns.Waits seat answered phase) = Some (behind_of seat answered phase)
behind_in_turn _ = None

-- what a collect has come to: the cycle that has ended, or the seat that it waits for
abbrev pub ended_or_behind : CollectReply → Result ℕ Behind
ended_or_behind (notes.Cycle cycle) = Ok cycle
ended_or_behind (notes.Waits seat answered phase) = Err (behind_of seat answered phase)
