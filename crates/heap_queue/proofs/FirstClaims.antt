-- A making of the queue tells nothing before its claims.
use Rattle.std.proofs.Common.{ℕ, List, [], ◌∷◌, ◌++◌, refl, sym, ap, ◌∙◌, subst, append_assoc}
use Rattle.heap_model.specs.calls.SeatCalls.{Adds, takes_of}
use Rattle.heap_model.specs.calls.SeatState.{SeatState}
use Rattle.heap_model.specs.declared.command.Command.{Command}
use Rattle.heap_model.specs.declared.command.Command.TheVariants.{New}
use Rattle.heap_model.specs.declared.entry.Entry.{Entry}
use Rattle.heap_model.specs.declared.entry.Entry.TheVariants.{Said, Takes}
use Rattle.heap_model.specs.declared.id.Id.{Id}
use Rattle.heap_model.specs.declared.reply.Reply.{Reply}
use Rattle.heap_model.specs.declared.reply.Reply.TheVariants.{Made}
use Rattle.heap_queue.specs.Grows.{MakesFirst, MakesAtOnce}

-- more entries behind the first change nothing
pub makes_first_more : (log more : List Entry) → MakesFirst log → MakesFirst (log ++ more)
makes_first_more [] more makes = absurd makes
makes_first_more (Takes number count ∷ log) more makes = tt
makes_first_more (Said number command (Made id) ∷ log) more makes = makes
makes_first_more (entry ∷ log) more makes = absurd makes

-- its claims come before its reply
takes_first : (number : ℕ) (counts : List ℕ) (id : Id) → MakesFirst (takes_of number counts ++ Said number (New 15 2) (Made id) ∷ [])
takes_first number [] id = refl
takes_first number (count ∷ counts) id = tt

-- a node is made
pub makes_at_once : {old new : SeatState} (id : Id) → Adds old new (New 15 2) (Made id) → MakesAtOnce old new
makes_at_once {old} {new} id adds =
    let claims = adds.comes in
    let said : List Entry = Said old.number (New 15 2) (Made id) ∷ [] in
    record {
      added = adds.before ++ said;
      told = adds.entries;
      makes = subst (λ (before : List Entry). MakesFirst (before ++ said)) (sym claims.2) (takes_first old.number claims.0 id);
    }

-- and then another call
pub at_once_more : {old now new : SeatState} {command : Command} {reply : Reply} → MakesAtOnce old now → Adds now new command reply → MakesAtOnce old new
at_once_more {old} {now} {new} {command} {reply} one adds =
    let more : List Entry = adds.before ++ Said now.number command reply ∷ [] in
    record {
      added = one.added ++ more;
      told = adds.entries ∙ (ap (λ (log : List Entry). log ++ more) one.told ∙ append_assoc old.mine one.added more);
      makes = makes_first_more one.added more one.makes;
    }
