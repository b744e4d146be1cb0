-- What C is told of a seat's replies. No other reply than those that are named comes to the calls that are shown so.
use Rattle.std.specs.Prelude.{ℕ, Result, Ok, Err}
use Rattle.heap_model.specs.declared.id.Id.TheVariants as ids
use Rattle.heap_model.specs.declared.id.Value.{Value}
use Rattle.heap_model.specs.declared.id.Value.TheVariants as values
use Rattle.heap_model.specs.declared.reply.Reply.{Reply}
use Rattle.heap_model.specs.declared.reply.Reply.TheVariants as replies
use Rattle.fodderpause_c.specs.Codes.{refusal_code}
use Rattle.fodderpause_c.specs.declared.codes.TheConstants.{DONE, NO_OBJECT, NO_FIELD, FULL, SPINE_FULL}
use Rattle.fodderpause_c.specs.declared.phases.Phase.{Phase}
use Rattle.fodderpause_c.specs.declared.refusal.Refusal.{Refusal}
use Rattle.fodderpause_c.specs.declared.replies.Cell.{Cell}
use Rattle.fodderpause_c.specs.declared.replies.Made.{Made}
use Rattle.fodderpause_c.specs.declared.replies.Number.{Number}
use Rattle.fodderpause_c.specs.declared.replies.SetsLeft.{SetsLeft}
use Rattle.fodderpause_c.specs.declared.replies.Swap.{Swap}
use Rattle.fodderpause_c.specs.declared.replies.TheConstants.{NIL, NUMBER, OBJECT, BOARD}

-- a code alone
abbrev pub made_with : ℕ → Made
made_with code = record { code = code; seat = 0; count = 0; need = 0; found = 0 }

-- the object that was made, or what was needed and what was found
abbrev pub made_shown : Result Reply Refusal → Made
made_shown (Ok (replies.Made (ids.Made seat count))) = record { code = DONE; seat = seat; count = count; need = 0; found = 0 }
made_shown (Ok (replies.Full need found)) = record { code = FULL; seat = 0; count = 0; need = need; found = found }
made_shown (Ok (replies.SpineFull need used)) = record { code = SPINE_FULL; seat = 0; count = 0; need = need; found = used }
made_shown (Ok _) = made_with DONE
made_shown (Err refusal) = made_with (refusal_code refusal)

-- a code alone
abbrev pub cell_with : ℕ → Cell
cell_with code = record { code = code; kind = NIL; number = 0; seat = 0; stamp = 0 }

-- a cell with this value and this stamp
abbrev pub cell_holding : Value → ℕ → Cell
cell_holding values.Nil stamp = record { code = DONE; kind = NIL; number = 0; seat = 0; stamp = stamp }
cell_holding (values.Number number) stamp = record { code = DONE; kind = NUMBER; number = number; seat = 0; stamp = stamp }
cell_holding (values.Object ids.Board) stamp = record { code = DONE; kind = BOARD; number = 0; seat = 0; stamp = stamp }
cell_holding (values.Object (ids.Made seat count)) stamp = record { code = DONE; kind = OBJECT; number = count; seat = seat; stamp = stamp }

-- the cell that was read
abbrev pub cell_shown : Result Reply Refusal → Cell
cell_shown (Ok (replies.Got value stamp)) = cell_holding value stamp
cell_shown (Ok replies.NoObject) = cell_with NO_OBJECT
cell_shown (Ok replies.NoField) = cell_with NO_FIELD
cell_shown (Ok _) = cell_with DONE
cell_shown (Err refusal) = cell_with (refusal_code refusal)

-- whether it was swapped, and the stamp that was there
abbrev pub swap_shown : Result Reply Refusal → Swap
swap_shown (Ok (replies.Was stamp)) = record { code = DONE; swapped = 1; stamp = stamp }
swap_shown (Ok (replies.Now stamp)) = record { code = DONE; swapped = 0; stamp = stamp }
swap_shown (Ok replies.NoObject) = record { code = NO_OBJECT; swapped = 0; stamp = 0 }
swap_shown (Ok replies.NoField) = record { code = NO_FIELD; swapped = 0; stamp = 0 }
swap_shown (Ok _) = record { code = DONE; swapped = 0; stamp = 0 }
swap_shown (Err refusal) = record { code = refusal_code refusal; swapped = 0; stamp = 0 }

-- the stamp that was there, the length, 1 for the same, or 0
abbrev pub number_shown : Result Reply Refusal → Number
number_shown (Ok (replies.Was stamp)) = record { code = DONE; number = stamp }
number_shown (Ok (replies.Length length)) = record { code = DONE; number = length }
number_shown (Ok replies.Yes) = record { code = DONE; number = 1 }
number_shown (Ok replies.NoObject) = record { code = NO_OBJECT; number = 0 }
number_shown (Ok replies.NoField) = record { code = NO_FIELD; number = 0 }
number_shown (Ok _) = record { code = DONE; number = 0 }
number_shown (Err refusal) = record { code = refusal_code refusal; number = 0 }

-- the phase that a poll told
abbrev pub poll_shown : Result Reply Refusal → Phase
poll_shown (Ok (replies.Phase phase)) = record { code = DONE; phase = phase }
poll_shown (Ok _) = record { code = DONE; phase = 0 }
poll_shown (Err refusal) = record { code = refusal_code refusal; phase = 0 }

-- how many objects are left
abbrev pub left_shown : Result ℕ Refusal → Number
left_shown (Ok left) = record { code = DONE; number = left }
left_shown (Err refusal) = record { code = refusal_code refusal; number = 0 }

-- how many sets are left
abbrev pub sets_shown : Result ℕ Refusal → SetsLeft
sets_shown (Ok left) = record { code = DONE; sets = left }
sets_shown (Err refusal) = record { code = refusal_code refusal; sets = 0 }
