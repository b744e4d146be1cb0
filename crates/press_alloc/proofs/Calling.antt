-- After a refusal and after a collect the seat may be given the command again.
use Rattle.std.proofs.Common.{◌≡◌, ℕ, ◌+◌, ◌<◌, false, List, ◌∷◌, [], ◌++◌, length, refl, sym, ap, ◌∙◌, subst}
use Rattle.std.proofs.lemmas.List.Sums.{fold-append}
use Rattle.heap_model.specs.declared.command.Command.{Command}
use Rattle.heap_model.specs.declared.command.Command.TheVariants.{New, Array, Collect}
use Rattle.heap_model.specs.declared.entry.Entry.{Entry}
use Rattle.heap_model.specs.declared.entry.Entry.TheVariants.{Said}
use Rattle.heap_model.specs.declared.heap.Heap.{Heap}
use Rattle.heap_model.specs.declared.reply.Reply.{Reply}
use Rattle.heap_model.specs.declared.reply.Reply.TheVariants.{Full, SpineFull}
use Rattle.heap_model.specs.Limits.{name_limit}
use Rattle.heap_model.specs.account.Cycles.{graph_of}
use Rattle.heap_model.specs.calls.SeatCalls.{HasNumber}
use Rattle.heap_model.specs.graph.Graph.{Graph, opening}
use Rattle.heap_model.specs.graph.Growth.{after_entry, after_reply}
use Rattle.heap_model.specs.graph.Objects.{graph_seat}
use Rattle.heap_model.proofs.Histories.{graph_after-more}
use Rattle.press_alloc.specs.Calls.{seat_state_of, MayCall, AddsCall}
use Rattle.press_alloc.specs.Presses.{IsAllocation, RefusesSpace}
use Rattle.press_alloc.proofs.Silence.{graph_stays}

-- a refusal of space changes no graph
refusal_changes_nothing : (g : Graph) (number : ℕ) (command : Command) (reply : Reply) → IsAllocation command → RefusesSpace reply → after_reply g number command reply ≡ g
refusal_changes_nothing g number (New d fields) (Full need found) allocates refuses = refl
refusal_changes_nothing g number (New d fields) (SpineFull need used) allocates refuses = refl
refusal_changes_nothing g number (New d fields) reply allocates refuses = absurd refuses
refusal_changes_nothing g number (Array d cells) (Full need found) allocates refuses = refl
refusal_changes_nothing g number (Array d cells) (SpineFull need used) allocates refuses = refl
refusal_changes_nothing g number (Array d cells) reply allocates refuses = absurd refuses
refusal_changes_nothing g number command reply allocates refuses = absurd allocates

module _ (heap : Heap) (old new : List Entry) (number : ℕ) where
  -- a call changes the graph by its reply alone
  graph_after_call : (command : Command) (reply : Reply) → AddsCall old new number command reply → graph_of heap new ≡ after_reply (graph_of heap old) number command reply
  graph_after_call command reply adds =
      ap (graph_of heap) adds.told ∙ fold-append after_entry (opening heap) old (adds.before ++ Said number command reply ∷ [])
      ∙ graph_after-more (graph_of heap old) adds.before (Said number command reply)
      ∙ ap (λ g. after_reply g number command reply) (graph_stays (graph_of heap old) adds.before adds.one_reply)

  -- so one that is refused for want of space doesn't change it
  pub graph_after_refusal : (command : Command) (reply : Reply) → IsAllocation command → RefusesSpace reply → AddsCall old new number command reply → graph_of heap new ≡ graph_of heap old
  graph_after_refusal command reply allocates refuses adds = graph_after_call command reply adds ∙ refusal_changes_nothing (graph_of heap old) number command reply allocates refuses

  -- nor does a collect
  pub graph_after_collect : (reply : Reply) → AddsCall old new number Collect reply → graph_of heap new ≡ graph_of heap old
  graph_after_collect reply adds = graph_after_call Collect reply adds

  -- where the graph stays, the seat has as many names left
  has_number_again : graph_of heap new ≡ graph_of heap old → (command : Command) → IsAllocation command → HasNumber (seat_state_of heap old number) command → HasNumber (seat_state_of heap new number) command
  has_number_again same (New d fields) allocates has = subst (λ g. length (graph_seat g number).objects + 1 < name_limit) (sym same) has
  has_number_again same (Array d cells) allocates has = subst (λ g. length (graph_seat g number).objects + 1 < name_limit) (sym same) has
  has_number_again same command allocates has = absurd allocates

  -- it may collect then
  collect_may : graph_of heap new ≡ graph_of heap old → (command : Command) → MayCall heap old number command → MayCall heap new number Collect
  collect_may same command may = record {
    within = may.within;
    present = subst (λ g. (graph_seat g number).left ≡ false) (sym same) may.present;
    in_range = tt;
    numbered = tt;
  }

  -- and make the command again
  again_may : graph_of heap new ≡ graph_of heap old → (command : Command) → IsAllocation command → MayCall heap old number command → MayCall heap new number command
  again_may same command allocates may = record {
    within = may.within;
    present = subst (λ g. (graph_seat g number).left ≡ false) (sym same) may.present;
    in_range = may.in_range;
    numbered = has_number_again same command allocates may.numbered;
  }

module _ (heap : Heap) (old refused : List Entry) (number : ℕ) (command : Command) (refusal : Reply)
    (may : MayCall heap old number command) (allocates : IsAllocation command) (refuses : RefusesSpace refusal) (first : AddsCall old refused number command refusal) where
  -- so a seat that is refused may collect
  pub refused_may_collect : (now : Heap) → now ≡ heap → MayCall now refused number Collect
  refused_may_collect now same =
      subst (λ h. MayCall h refused number Collect) (sym same) (collect_may heap old refused number (graph_after_refusal heap old refused number command refusal allocates refuses first) command may)

  -- and try again behind that
  pub collected_may_try_again : (collected : List Entry) (answer : Reply) → AddsCall refused collected number Collect answer → (now : Heap) → now ≡ heap → MayCall now collected number command
  collected_may_try_again collected answer collects now same =
      let kept = graph_after_collect heap refused collected number answer collects ∙ graph_after_refusal heap old refused number command refusal allocates refuses first in
      subst (λ h. MayCall h collected number command) (sym same) (again_may heap old collected number kept command allocates may)
