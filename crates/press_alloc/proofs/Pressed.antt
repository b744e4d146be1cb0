-- What the reply of a press tells.
use Rattle.std.proofs.Common.{◌≡◌, ℕ, ◌<◌, true, List, inr, Result, Ok, Err, sym, subst}
use Rattle.std.specs.Prelude.{OnOk, IfOk}
use Rattle.heap_model.specs.declared.command.Command.{Command}
use Rattle.heap_model.specs.declared.command.Command.TheVariants.{Collect}
use Rattle.heap_model.specs.declared.entry.Entry.{Entry}
use Rattle.heap_model.specs.declared.fault.Memory.{Memory}
use Rattle.heap_model.specs.declared.heap.Heap.{Heap}
use Rattle.heap_model.specs.declared.reply.Reply.{Reply}
use Rattle.heap_model.specs.account.Account.{IsLegal}
use Rattle.press_alloc.specs.Calls.{AddsCall}
use Rattle.press_alloc.specs.Presses.{IsAllocation, RefusesSpace}
use Rattle.press_alloc.specs.Refusals.{HasNoFragments, HasNoWords, HasCollected}
use Rattle.press_alloc.proofs.Refused.{fragments_are_too_few, words_are_too_few, refusal_has_collected}

-- a refusal by it is right, and comes behind a cycle
pub record IsFinal (heap : Heap) (old new : List Entry) (reply : Reply) : Type 0 where
  pub fragments : HasNoFragments heap new reply
  pub words : HasNoWords heap new reply
  pub cycle : HasCollected heap old new reply

-- so it is where the command was made again behind a collect
pub third_call_is_final : (heap now : Heap) (number : ℕ) (command : Command) (old refused collected new : List Entry) (refusal answer : Reply) (result : Result Reply Memory)
    → number < heap.seats → IsAllocation command → RefusesSpace refusal → AddsCall old refused number command refusal → AddsCall refused collected number Collect answer
    → OnOk result (now ≡ heap) → IfOk result (AddsCall collected new number command) → OnOk result (IsLegal now true new) → IfOk result (IsFinal now old new)
third_call_is_final heap now number command old refused collected new refusal answer (Ok reply) within allocates refuses first collects same again legal =
    let there : number < now.seats = subst (λ (h : Heap). number < h.seats) (sym same) within in
    let calls = inr (record { refusal = refusal; refused = refused; first = first; refuses = refuses; answer = answer; collected = collected; collects = collects; again = again }) in
    record {
      fragments = fragments_are_too_few now number there command allocates old new reply legal calls;
      words = words_are_too_few now number there command allocates old new reply legal calls;
      cycle = refusal_has_collected now number there command allocates old new reply legal calls;
    }
third_call_is_final heap now number command old refused collected new refusal answer (Err memory) within allocates refuses first collects same again legal = tt
