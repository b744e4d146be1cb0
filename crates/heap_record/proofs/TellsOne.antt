-- What entries of a party tell of a seat's commands: none, or one.
use Rattle.std.proofs.Common.{◌≡◌, ◌≢◌, ℕ, ◌+◌, List, [], ◌∷◌, ◌++◌, length, filter, refl, ap, ◌∙◌, length-append, arith}
use Rattle.std.specs.List.{AllByRecursion}
use Rattle.std.proofs.lemmas.Bool.{eq-eqb}
use Rattle.std.proofs.lemmas.Grind.{flat_map-append}
use Rattle.std.proofs.lemmas.List.Elements.{filter-append}
use Rattle.heap_model.specs.declared.calls.collect.CollectReply.{CollectReply}
use Rattle.heap_model.specs.declared.calls.collect.CollectReply.TheVariants as notes
use Rattle.heap_model.specs.declared.command.Command.{Command}
use Rattle.heap_model.specs.declared.command.Command.TheVariants as commands
use Rattle.heap_model.specs.declared.entry.Entry.{Entry}
use Rattle.heap_model.specs.declared.entry.Entry.TheVariants.{Said, Takes, GivesBack, Answers}
use Rattle.heap_model.specs.declared.reply.Reply.{Reply}
use Rattle.heap_model.specs.runs.Told.{command_told, commands_told, is_wait_of, waits_told}
use Rattle.core_machine.specs.machine.Calls.{IsBeside}
use Rattle.core_machine.specs.seat.Looks.{noted_reply}

-- more entries tell more
pub commands_told_of_append : (number : ℕ) (front behind : List Entry) → commands_told number (front ++ behind) ≡ commands_told number front ++ commands_told number behind
commands_told_of_append number front behind = flat_map-append (command_told number) front behind

pub waits_told_of_append : (number : ℕ) (front behind : List Entry) → waits_told number (front ++ behind) ≡ waits_told number front + waits_told number behind
waits_told_of_append number front behind =
    ap (length {A = Entry}) (filter-append (is_wait_of number) front behind) ∙ length-append (filter (is_wait_of number) front) (filter (is_wait_of number) behind)

-- no command of the seat is answered
pub record TellsNone (number : ℕ) (told : List Entry) : Type 0 where
  pub commands : commands_told number told ≡ []
  pub waits : waits_told number told ≡ 0

-- entries beside a reply answer none
pub tells_none_beside_reply : (number other : ℕ) (before : List Entry) → AllByRecursion (IsBeside other) before → TellsNone number before
tells_none_beside_reply number other [] beside = record { commands = refl; waits = refl }
tells_none_beside_reply number other (Takes q count ∷ before) beside = let more = tells_none_beside_reply number other before beside.1 in record { commands = more.commands; waits = more.waits }
tells_none_beside_reply number other (GivesBack q count ∷ before) beside = let more = tells_none_beside_reply number other before beside.1 in record { commands = more.commands; waits = more.waits }
tells_none_beside_reply number other (Answers q phase ∷ before) beside = let more = tells_none_beside_reply number other before beside.1 in record { commands = more.commands; waits = more.waits }
tells_none_beside_reply number other (_ ∷ before) beside = absurd beside.0

-- one command is answered, with so many waits
pub record TellsOne (number : ℕ) (command : Command) (waits : ℕ) (told : List Entry) : Type 0 where
  pub commands : commands_told number told ≡ command ∷ []
  pub counted : waits_told number told ≡ waits

-- a reply behind what stands beside it answers its own
one_behind : (number : ℕ) (before : List Entry) (command : Command) (reply : Reply) (waits : ℕ) → AllByRecursion (IsBeside number) before → waits_told number (Said number command reply ∷ []) ≡ waits
    → TellsOne number command waits (before ++ Said number command reply ∷ [])
one_behind number before command reply waits beside counted =
    let none = tells_none_beside_reply number number before beside in
    let said : commands_told number (Said number command reply ∷ []) ≡ command ∷ [] = rw (eq-eqb number number refl) refl in
    record {
      commands = commands_told_of_append number before (Said number command reply ∷ []) ∙ ap (λ (l : List Command). l ++ commands_told number (Said number command reply ∷ [])) none.commands ∙ said;
      counted = omega (arith, waits_told_of_append number before (Said number command reply ∷ []), none.waits, counted);
    }

said_once : (number : ℕ) (command : Command) (reply : Reply) → command ≢ commands.Collect → waits_told number (Said number command reply ∷ []) ≡ 0
said_once number commands.Collect reply once = absurd (once refl)
said_once number _ reply once = refl

-- so does a whole call
pub tells_one_of_call : (number : ℕ) (before : List Entry) (command : Command) (reply : Reply) → command ≢ commands.Collect → AllByRecursion (IsBeside number) before
    → TellsOne number command 0 (before ++ Said number command reply ∷ [])
tells_one_of_call number before command reply once beside = one_behind number before command reply 0 beside (said_once number command reply once)

-- how many waits a reply to a collect is
abbrev pub waits_of : CollectReply → ℕ
waits_of (notes.Cycle cycle) = 0
waits_of (notes.Waits other answered phase) = 1

said_noted : (number : ℕ) (came : CollectReply) → waits_told number (Said number commands.Collect (noted_reply came) ∷ []) ≡ waits_of came
said_noted number (notes.Cycle cycle) = refl
said_noted number (notes.Waits other answered phase) = rw (eq-eqb number number refl) refl

-- and a collect
pub tells_one_of_note : (number : ℕ) (before : List Entry) (came : CollectReply) → AllByRecursion (IsBeside number) before
    → TellsOne number commands.Collect (waits_of came) (before ++ Said number commands.Collect (noted_reply came) ∷ [])
tells_one_of_note number before came beside = one_behind number before commands.Collect (noted_reply came) (waits_of came) beside (said_noted number came)
