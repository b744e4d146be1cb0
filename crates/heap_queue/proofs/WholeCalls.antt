-- A log goes on by whole calls.
use Rattle.std.proofs.Common.{◌≡◌, zero, inl, inr, List, [], ◌∷◌, ◌++◌, Option, Some, None, refl, sym, ap, ◌∙◌, subst}
use Rattle.heap_model.specs.declared.command.Command.{Command}
use Rattle.heap_model.specs.declared.command.Command.TheVariants.{New, Get, Set, Copy}
use Rattle.heap_model.specs.declared.entry.Entry.{Entry}
use Rattle.heap_model.specs.declared.entry.Entry.TheVariants.{Said}
use Rattle.heap_model.specs.declared.id.Value.TheVariants.{Nil}
use Rattle.heap_model.specs.declared.reply.Reply.{Reply}
use Rattle.heap_model.specs.declared.reply.Reply.TheVariants as replies
use Rattle.heap_queue.specs.declared.replies.PutReply.TheVariants as puts
use Rattle.heap_queue.specs.declared.replies.TakeReply.TheVariants as takes
use Rattle.heap_queue.specs.Calls.{Call, PutCall, TakeCall, ends, if_refused, if_ends, calls_in, IsWhole, over}
use Rattle.heap_queue.specs.Histories.{IsQueueLog, place_after, Leads}
use Rattle.heap_queue.specs.Laws.{CallsLeadOn}
use Rattle.heap_queue.specs.Places.{Place, MakesNode, SetsLast, Waits, Rests, PutValue, PutLast, PutNext, PutHelps, PutLinks, PutSwings, TakeLast, TakeNext, TakeHelps, TakeValue, TakeUnlinks, TakeCopies, IsStep, IsDue, after}

-- a step of a call is due
step_is_due : (place : Place) (command : Command) → IsStep place command → IsDue place command
step_is_due Waits command step = absurd step
step_is_due Rests command step = inr step
step_is_due place command step = step

-- the call that a reply ends is the one that is said
pub ended_is : (one call : Call) → Some one ≡ Some call → one ≡ call
ended_is one call same = cc

refused_is : (one call : Call) (reply : Reply) → if_refused one reply ≡ Some call → one ≡ call
refused_is one call replies.NoObject same = cc
refused_is one call replies.NoField same = cc
refused_is one call reply same = absurd (cc)

-- where a call ends, the seat stands where it stands when that is over
over_there : (place : Place) (command : Command) (reply : Reply) (call : Call) → ends place command reply ≡ Some call → after place command reply ≡ over call
over_there MakesNode command (replies.Full need found) call same = ap over (ended_is _ call same)
over_there MakesNode command reply call same = absurd (cc)
over_there SetsLast command reply call same = ap over (ended_is _ call same)
over_there Rests (New d fields) (replies.Full need found) call same = ap over (ended_is _ call same)
over_there Rests (Get d r zero) (replies.Got value stamp) call same = absurd (cc)
over_there Rests (Get d r zero) reply call same = ap over (refused_is (TakeCall takes.NoQueue) call reply same)
over_there Rests command reply call same = absurd (cc)
over_there PutValue (Set r i v) (replies.Was stamp) call same = absurd (cc)
over_there PutValue (Set r i v) reply call same = ap over (refused_is (PutCall v puts.NoQueue) call reply same)
over_there PutValue command reply call same = absurd (cc)
over_there (PutLast v) command (replies.Got value stamp) call same = absurd (cc)
over_there (PutLast v) command reply call same = ap over (refused_is (PutCall v puts.NoQueue) call reply same)
over_there (PutNext v) command (replies.Got value stamp) call same = absurd (cc)
over_there (PutNext v) command reply call same = ap over (refused_is (PutCall v puts.NoQueue) call reply same)
over_there (PutHelps v stamp) command reply call same = ap over (ended_is _ call same)
over_there (PutLinks v) command (replies.Now stamp) call same = ap over (ended_is _ call same)
over_there (PutLinks v) command (replies.Was stamp) call same = absurd (cc)
over_there (PutLinks v) command reply call same = ap over (refused_is (PutCall v puts.NoQueue) call reply same)
over_there (PutSwings v) command reply call same = ap over (ended_is _ call same)
over_there TakeLast command (replies.Got value stamp) call same = absurd (cc)
over_there TakeLast command reply call same = ap over (refused_is (TakeCall takes.NoQueue) call reply same)
over_there TakeNext command (replies.Got Nil stamp) call same = ap over (ended_is _ call same)
over_there TakeNext command (replies.Got value stamp) call same = absurd (cc)
over_there TakeNext command reply call same = ap over (refused_is (TakeCall takes.NoQueue) call reply same)
over_there (TakeHelps stamp) command reply call same = ap over (ended_is _ call same)
over_there TakeValue command (replies.Got value stamp) call same = absurd (cc)
over_there TakeValue command reply call same = ap over (refused_is (TakeCall takes.NoQueue) call reply same)
over_there TakeUnlinks command (replies.Now stamp) call same = ap over (ended_is _ call same)
over_there TakeUnlinks command (replies.Was stamp) call same = absurd (cc)
over_there TakeUnlinks command reply call same = ap over (refused_is (TakeCall takes.NoQueue) call reply same)
over_there TakeCopies (Copy d r) reply call same = ap over (ended_is _ call same)
over_there TakeCopies command reply call same = absurd (cc)
over_there place command reply call same = absurd (cc)

-- a whole call leads from where it begins to where it is over, and is the one call that ends in it
pub whole_leads : (place : Place) (log : List Entry) (call : Call) → IsWhole place log call → Leads place log (over call) (call ∷ [])
whole_leads place [] call whole = absurd whole
whole_leads place (Said number command reply ∷ log) call (step, rest) = elim rest as (λ _. Leads place (Said number command reply ∷ log) (over call) (call ∷ [])) [
  | inl last ↦ subst (λ (x : List Entry). Leads place (Said number command reply ∷ x) (over call) (call ∷ [])) (sym last.1)
      record { due = (step_is_due place command step, tt); stands = over_there place command reply call last.0; ended = ap (λ (o : Option Call). if_ends o []) last.0 }
  | inr more ↦ let leads = whole_leads (after place command reply) log call more.1 in
      record { due = (step_is_due place command step, leads.due); stands = leads.stands; ended = ap (λ (o : Option Call). if_ends o (calls_in (after place command reply) log)) more.0 ∙ leads.ended }
]
whole_leads place (entry ∷ log) call whole = let leads = whole_leads place log call whole in record { due = leads.due; stands = leads.stands; ended = leads.ended }

-- a call before others, and some more
if_ends-append : (o : Option Call) (calls more : List Call) → if_ends o (calls ++ more) ≡ if_ends o calls ++ more
if_ends-append None calls more = refl
if_ends-append (Some call) calls more = refl

-- one log behind another
pub leads_then : (place : Place) (log more : List Entry) (last : Place) (calls : List Call) → IsQueueLog place log → Leads (place_after place log) more last calls → Leads place (log ++ more) last (calls_in place log ++ calls)
leads_then place [] more last calls due then_ = then_
leads_then place (Said number command reply ∷ log) more last calls due then_ =
    let leads = leads_then (after place command reply) log more last calls due.1 then_ in record {
      due = (due.0, leads.due);
      stands = leads.stands;
      ended = ap (if_ends (ends place command reply)) leads.ended ∙ if_ends-append (ends place command reply) (calls_in (after place command reply) log) calls;
    }
leads_then place (entry ∷ log) more last calls due then_ = let leads = leads_then place log more last calls due then_ in record { due = leads.due; stands = leads.stands; ended = leads.ended }

pub calls_lead_on : CallsLeadOn
calls_lead_on place begins log added calls call leads whole =
    subst (λ (x : List Call). Leads place (log ++ added) (over call) (x ++ call ∷ [])) leads.ended
    (leads_then place log added (over call) (call ∷ []) leads.due (subst (λ (p : Place). Leads p added (over call) (call ∷ [])) (sym leads.stands) (whole_leads begins added call whole)))
