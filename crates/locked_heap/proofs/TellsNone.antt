-- Entries that answer no command of a seat.
use Rattle.std.specs.Prelude.{if◌then◌else◌}
use Rattle.std.proofs.Common.{◌≡◌, ◌≢◌, ℕ, ◌==◌, true, List, [], ◌∷◌, ◌++◌, inl, inr, refl, sym, ap, ◌∙◌, arith}
use Rattle.std.specs.List.{AllByRecursion}
use Rattle.std.proofs.lemmas.Bool.{ne_eqb}
use Rattle.std.proofs.lemmas.Bool.Decides.{eqb_tells}
use Rattle.heap_model.specs.declared.calls.collect.CollectReply.{CollectReply}
use Rattle.heap_model.specs.declared.calls.collect.CollectReply.TheVariants as notes
use Rattle.heap_model.specs.declared.calls.collect.Inner.{Inner}
use Rattle.heap_model.specs.declared.calls.collect.Inner.TheVariants as inners
use Rattle.heap_model.specs.declared.command.Command.{Command}
use Rattle.heap_model.specs.declared.command.Command.TheVariants as commands
use Rattle.heap_model.specs.declared.entry.Entry.{Entry}
use Rattle.heap_model.specs.declared.entry.Entry.TheVariants.{Said, Answers}
use Rattle.heap_model.specs.declared.reply.Reply.{Reply}
use Rattle.heap_model.specs.declared.reply.Reply.TheVariants as replies
use Rattle.heap_model.specs.account.Noting.{is_collectors}
use Rattle.core_machine.specs.machine.Calls.{IsBeside}
use Rattle.core_machine.specs.machine.InnerCalls.{inner_entries}
use Rattle.core_machine.specs.declared.table.address.Address.TheVariants.{Phase}
use Rattle.core_machine.specs.seat.Looks.{noted_reply}
use Rattle.core_machine.specs.table.Layout.{at}
use Rattle.heap_model.specs.declared.heap.Heap.{Heap}
use Rattle.heap_model.specs.runs.Told.{commands_told, waits_told}
use Rattle.heap_record.proofs.TellsOne.{commands_told_of_append, waits_told_of_append, TellsNone, TellsOne, tells_none_beside_reply, waits_of, tells_one_of_note}
use Rattle.locked_heap.specs.Locked.{IsQuiet}

-- nothing answers no command
pub tells_none_of_empty : (number : ℕ) → TellsNone number []
tells_none_of_empty number = record { commands = refl; waits = refl }

none_then : (number : ℕ) (front behind : List Entry) → TellsNone number front → TellsNone number behind → TellsNone number (front ++ behind)
none_then number front behind first more = record {
  commands = commands_told_of_append number front behind ∙ ap (λ (l : List Command). l ++ commands_told number behind) first.commands ∙ more.commands;
  waits = omega (arith, waits_told_of_append number front behind, first.waits, more.waits);
}

-- those of the collector answer none
pub tells_none_of_collectors : (number : ℕ) (added : List Entry) → AllByRecursion (λ entry. is_collectors entry ≡ true) added → TellsNone number added
tells_none_of_collectors number [] own = tells_none_of_empty number
tells_none_of_collectors number (Said q command reply ∷ added) own = absurd (cc own.0)
tells_none_of_collectors number (entry ∷ added) own = let more = tells_none_of_collectors number added own.1 in record { commands = more.commands; waits = more.waits }

-- a reply to another seat answers none of this one
none_said : (number other : ℕ) (command : Command) (reply : Reply) → number ≢ other → TellsNone number (Said other command reply ∷ [])
none_said number other command reply apart = record {
  commands = rw (ne_eqb other number (λ same. apart (sym same))) refl;
  waits = waits_none command reply;
}
  where
    waits_none : (command : Command) (reply : Reply) → waits_told number (Said other command reply ∷ []) ≡ 0
    waits_none commands.Collect (replies.Waits behind answered p) = rw (ne_eqb other number (λ same. apart (sym same))) refl
    waits_none command reply = refl

-- a call of another seat
pub tells_none_of_others_call : (number other : ℕ) (before : List Entry) (command : Command) (reply : Reply) → number ≢ other → AllByRecursion (IsBeside other) before → TellsNone number (before ++ Said other command reply ∷ [])
tells_none_of_others_call number other before command reply apart beside =
    none_then number before (Said other command reply ∷ []) (tells_none_beside_reply number other before beside) (none_said number other command reply apart)

-- an inner call that tells no reply, and any of another seat
none_answered : (number other p answered : ℕ) → TellsNone number (if p == answered then [] else Answers other p ∷ [])
none_answered number other p answered = elim (eqb_tells p answered) [
  | inl same ↦ rw same.0 (tells_none_of_empty number)
  | inr apart ↦ rw apart.0 (record { commands = refl; waits = refl })
]

pub tells_none_of_others_inner : (heap : Heap) (words : List ℕ) (number other answered : ℕ) (inner : Inner) → IsQuiet inner → TellsNone number (inner_entries heap words other answered inner)
tells_none_of_others_inner heap words number other answered inners.Look quiet = tells_none_of_empty number
tells_none_of_others_inner heap words number other answered inners.Answer quiet = none_answered number other (at heap words Phase) answered
tells_none_of_others_inner heap words number other answered (inners.Behind behind) quiet = tells_none_of_empty number
tells_none_of_others_inner heap words number other answered (inners.Note reply) quiet = absurd quiet

pub tells_none_of_others_note : (heap : Heap) (words : List ℕ) (number other answered : ℕ) (came : CollectReply) → number ≢ other → TellsNone number (inner_entries heap words other answered (inners.Note came))
tells_none_of_others_note heap words number other answered came apart = none_said number other commands.Collect (noted_reply came) apart

-- one that tells a reply answers the seat's collect
pub tells_one_by_note : (heap : Heap) (words : List ℕ) (number answered : ℕ) (came : CollectReply) → TellsOne number commands.Collect (waits_of came) (inner_entries heap words number answered (inners.Note came))
tells_one_by_note heap words number answered came = tells_one_of_note number [] came tt
