-- The log of a seat goes on by polls, settings and whole puts and takes.
use Rattle.std.proofs.Common.{◌≡◌, ℕ, inl, inr, List, [], ◌∷◌, ◌++◌, refl, sym, ap, ◌∙◌, subst, append_assoc, append-nil, arith}
use Rattle.heap_model.specs.declared.entry.Entry.{Entry}
use Rattle.heap_queue.specs.declared.queue_command.QueueCommand.{QueueCommand}
use Rattle.heap_queue.specs.declared.queue_command.QueueCommand.TheVariants.{Put, Take}
use Rattle.heap_queue.specs.Calls.{Call, PutRefused, PutCall, TookInto, TakeCall, over}
use Rattle.heap_queue.specs.Effects.{start}
use Rattle.heap_queue.specs.Histories.{Leads}
use Rattle.heap_queue.specs.Places.{Place, Waits, Rests}
use Rattle.heap_queue.specs.Serving.{IsCallOf, AnswersBy, IsPolled, ServesBy, ServesEach, ServesScript, first_calls, HasFound, HasCome, sets_number}
use Rattle.heap_queue.proofs.WholeCalls.{leads_then, whole_leads}

-- one log behind another
pub leads_on : (place between last : Place) (log more : List Entry) (calls later : List Call) → Leads place log between calls → Leads between more last later → Leads place (log ++ more) last (calls ++ later)
leads_on place between last log more calls later one behind =
    subst (λ (x : List Call). Leads place (log ++ more) last (x ++ later)) one.ended
    (leads_then place log more last later one.due (subst (λ (p : Place). Leads p more last later) (sym one.stands) behind))

-- no entry leads nowhere else
pub leads_nowhere : (place : Place) → Leads place [] place []
leads_nowhere place = record { due = tt; stands = refl; ended = refl }

-- a poll leaves a seat where it rests, and where it waits
pub polled_rests : (number : ℕ) (log : List Entry) → IsPolled number log → Leads Rests log Rests []
polled_rests number log (p, inl told) = subst (λ (l : List Entry). Leads Rests l Rests []) (sym told) (record { due = (inl tt, tt); stands = refl; ended = refl })
polled_rests number log (p, inr told) = subst (λ (l : List Entry). Leads Rests l Rests []) (sym told) (record { due = (inl tt, tt); stands = refl; ended = refl })

pub polled_waits : (number : ℕ) (log : List Entry) → IsPolled number log → Leads Waits log Waits []
polled_waits number log (p, inl told) = subst (λ (l : List Entry). Leads Waits l Waits []) (sym told) (record { due = (tt, tt); stands = refl; ended = refl })
polled_waits number log (p, inr told) = subst (λ (l : List Entry). Leads Waits l Waits []) (sym told) (record { due = (tt, tt); stands = refl; ended = refl })

-- so does what is said before a call
set_rests : (number : ℕ) (command : QueueCommand) → Leads Rests (sets_number number command) Rests []
set_rests number (Put n) = record { due = (inl (omega arith, omega arith), tt); stands = refl; ended = refl }
set_rests number Take = leads_nowhere Rests

-- a put or a take is over where the seat rests
over_rests : (command : QueueCommand) (call : Call) → IsCallOf command call → over call ≡ Rests
over_rests (Put n) (PutRefused need found) is = refl
over_rests (Put n) (PutCall v reply) is = refl
over_rests (Put n) call is = absurd is
over_rests Take (TookInto d) is = refl
over_rests Take (TakeCall reply) is = refl
over_rests Take call is = absurd is

-- a command of a script leads from where the seat rests to where it rests, by its one call
pub answered_rests : (number : ℕ) (command : QueueCommand) (call : Call) (log : List Entry) → AnswersBy number command call log → Leads Rests log Rests (call ∷ [])
answered_rests number command call log answers =
    subst (λ (l : List Entry). Leads Rests l Rests (call ∷ [])) (sym answers.log_is)
    (leads_on Rests Rests Rests (sets_number number command) answers.calling [] (call ∷ []) (set_rests number command)
    (subst (λ (p : Place). Leads Rests answers.calling p (call ∷ [])) (over_rests command call answers.asked) (whole_leads Rests answers.calling call answers.whole)))

pub served_rests : (number : ℕ) (command : QueueCommand) (call : Call) (log : List Entry) → ServesBy number command call log → Leads Rests log Rests (call ∷ [])
served_rests number command call log serves =
    subst (λ (l : List Entry). Leads Rests l Rests (call ∷ [])) (sym serves.log_is)
    (leads_on Rests Rests Rests serves.answering serves.polling (call ∷ []) [] (answered_rests number command call serves.answering serves.answered) (polled_rests number serves.polling serves.polled))

-- and so do all commands of a script, by its calls
pub each_rests : (number : ℕ) (commands : List QueueCommand) (calls : List Call) (log : List Entry) → ServesEach number commands calls log → Leads Rests log Rests calls
each_rests number [] [] log none = subst (λ (l : List Entry). Leads Rests l Rests []) (sym none) (leads_nowhere Rests)
each_rests number [] (call ∷ calls) log serves = absurd serves
each_rests number (command ∷ commands) [] log serves = absurd serves
each_rests number (command ∷ commands) (call ∷ calls) log (one, rest, is, first, more) =
    subst (λ (l : List Entry). Leads Rests l Rests (call ∷ calls)) (sym is)
    (leads_on Rests Rests Rests one rest (call ∷ []) calls (served_rests number command call one first) (each_rests number commands calls rest more))

-- one command more
pub each_more : (number : ℕ) (commands : List QueueCommand) (command : QueueCommand) (calls : List Call) (call : Call) (log more : List Entry) → ServesEach number commands calls log → ServesBy number command call more
    → ServesEach number (commands ++ command ∷ []) (calls ++ call ∷ []) (log ++ more)
each_more number [] command [] call log more none serves = (more, [], ap (λ (l : List Entry). l ++ more) none ∙ sym (append-nil more), serves, refl)
each_more number [] command (other ∷ calls) call log more none serves = absurd none
each_more number (first ∷ commands) command [] call log more none serves = absurd none
each_more number (first ∷ commands) command (other ∷ calls) call log more (one, rest, is, begins, each) serves =
    (one, rest ++ more, ap (λ (l : List Entry). l ++ more) is ∙ append_assoc one rest more, begins, each_more number commands command calls call rest more each serves)

-- a seat that has found the queue and then served its script
pub has_come : (number : ℕ) (script : List QueueCommand) (opening serving : List Entry) → HasFound number opening → ServesScript number script serving → HasCome number script (opening ++ serving)
has_come number script opening serving found (calls, served) = record {
  opening = opening;
  found = found;
  calls = calls;
  serving = serving;
  served = served;
  log_is = refl;
  leads = leads_on (start 0 number) Rests Rests opening serving (first_calls number) calls found.leads (each_rests number script calls serving served);
}
