-- What is counted of a play is the same with answers to commands of the collector or without them.
use Rattle.std.proofs.Common.{◌≡◌, ℕ, List, [], ◌∷◌, refl, sym, ap, ◌∙◌, arith, cond, sum_by}
use Rattle.std.specs.List.{range_with_len}
use Rattle.std.proofs.lemmas.List.Sums.{sum_by-cons}
use Rattle.heap_model.specs.declared.heap.Heap.{Heap}
use Rattle.heap_model.specs.declared.id.Id.{Id}
use Rattle.heap_model.specs.declared.entry.Entry.{Entry}
use Rattle.heap_model.specs.account.Effects.{effect_of, is_of}
use Rattle.heap_model.specs.account.Space.{fragments_gained, fragments_lost, words_granted, words_returned, taken_of, spent_of, fragments_unborn}
use Rattle.heap_model.specs.account.Windows.{is_reply_to, begins_cycle, up_to_reply, since_reply, up_to_cycle, since_cycle}
use Rattle.heap_model.specs.account.PhaseCounts.{phase, last_answer, has_left, is_leave_of}
use Rattle.heap_model.specs.account.Cycles.{graph_of, brings, all_bring, bound, spine_bound}
use Rattle.heap_model.specs.account.Turned.{without_turned, TurnedCountNothing, TurnedHoldNobody}
use Rattle.heap_model.specs.graph.Graph.{opening}
use Rattle.heap_model.specs.graph.Sizes.{fragments_of_all, spine_words_of_all}
use Rattle.heap_model.proofs.account_lemmas.WithoutTurned.{sum_without_turned, any_without_turned, up_to_last_without_turned, after_last_without_turned, graph_after_without_turned}

-- the counts are the same
module _ (history : List Entry) where
  pub gained_without_turned : (heap : Heap) → fragments_gained heap (without_turned history) ≡ fragments_gained heap history
  gained_without_turned heap = omega (arith, sum_without_turned (λ e. (effect_of e).taken) (λ c r. refl) history)

  pub lost_without_turned : fragments_lost (without_turned history) ≡ fragments_lost history
  lost_without_turned = omega (arith, sum_without_turned (λ e. (effect_of e).given) (λ c r. refl) history, sum_without_turned (λ e. (effect_of e).freed) (λ c r. refl) history)

  pub granted_without_turned : words_granted (without_turned history) ≡ words_granted history
  granted_without_turned = sum_without_turned (λ e. (effect_of e).words) (λ c r. refl) history

  pub returned_without_turned : words_returned (without_turned history) ≡ words_returned history
  returned_without_turned = sum_without_turned (λ e. (effect_of e).returned) (λ c r. refl) history

  pub phase_without_turned : phase (without_turned history) ≡ phase history
  phase_without_turned = sum_without_turned (λ e. (effect_of e).phases) (λ c r. refl) history

  module _ (number : ℕ) where
    pub taken_without_turned : taken_of number (without_turned history) ≡ taken_of number history
    taken_without_turned = sum_without_turned _ (λ c r. refl) history

    pub spent_without_turned : spent_of number (without_turned history) ≡ spent_of number history
    spent_without_turned =
        omega (arith, sum_without_turned (λ e. cond (is_of number e) (effect_of e).given 0) (λ c r. refl) history, sum_without_turned (λ e. cond (is_of number e) (effect_of e).born 0) (λ c r. refl) history)

    pub last_answer_without_turned : last_answer number (without_turned history) ≡ last_answer number history
    last_answer_without_turned = sum_without_turned _ (λ c r. refl) history

    pub left_without_turned : has_left number (without_turned history) ≡ has_left number history
    left_without_turned = any_without_turned (is_leave_of number) (λ c r. refl) history

  pub graph_without_turned : (heap : Heap) → graph_of heap (without_turned history) ≡ graph_of heap history
  graph_without_turned heap = graph_after_without_turned (opening heap) history

pub turned_count_nothing : TurnedCountNothing
turned_count_nothing history = record { gained_stay = gained_without_turned history; lost_stay = lost_without_turned history; granted_stay = granted_without_turned history; returned_stay = returned_without_turned history }

pub turned_hold_nobody : TurnedHoldNobody
turned_hold_nobody number answer p history is = record {
  present = sym (left_without_turned history number) ∙ is.present;
  answered = sym (last_answer_without_turned history number) ∙ is.answered;
  here = sym (phase_without_turned history) ∙ is.here;
}

-- what a cycle leaves is the same
module _ (history : List Entry) where
  cycle_begun : up_to_cycle (without_turned history) ≡ without_turned (up_to_cycle history)
  cycle_begun = up_to_last_without_turned begins_cycle (λ c r. refl) history

  cycle_since : since_cycle (without_turned history) ≡ without_turned (since_cycle history)
  cycle_since = after_last_without_turned begins_cycle (λ c r. refl) history

  unborn : (number : ℕ) → fragments_unborn number (without_turned history) ≡ fragments_unborn number history
  unborn number = rw (taken_without_turned history number, spent_without_turned history number) refl

bring : (history : List Entry) (number : ℕ) → brings number (without_turned history) ≡ brings number history
bring history number =
    rw (up_to_last_without_turned (is_reply_to number) (λ c r. refl) history, after_last_without_turned (is_reply_to number) (λ c r. refl) history)
    (omega (arith, unborn (up_to_reply number history) number, taken_without_turned (since_reply number history) number))

bring_all : (heap : Heap) (history : List Entry) → all_bring heap (without_turned history) ≡ all_bring heap history
bring_all heap history = among (range_with_len 0 heap.seats)
  where
    among : (numbers : List ℕ) → sum_by (λ number. brings number (without_turned history)) numbers ≡ sum_by (λ number. brings number history) numbers
    among [] = refl
    among (number ∷ numbers) =
        omega (arith, sum_by-cons (λ n. brings n (without_turned history)) number numbers, sum_by-cons (λ n. brings n history) number numbers, bring history number, among numbers)

module _ (heap : Heap) (history : List Entry) where
  pub cycle_graph_without_turned : graph_of heap (up_to_cycle (without_turned history)) ≡ graph_of heap (up_to_cycle history)
  cycle_graph_without_turned = ap (graph_of heap) (cycle_begun history) ∙ graph_without_turned (up_to_cycle history) heap

  pub bound_without_turned : (reached : List Id) → bound heap reached (without_turned history) ≡ bound heap reached history
  bound_without_turned reached = omega (
    arith,
    ap (λ g. fragments_of_all g reached) cycle_graph_without_turned,
    ap (all_bring heap) (cycle_begun history),
    bring_all heap (up_to_cycle history),
    ap (λ es. sum_by (λ e. (effect_of e).taken) es) (cycle_since history),
    sum_without_turned (λ e. (effect_of e).taken) (λ c r. refl) (since_cycle history),
  )

  pub spine_bound_without_turned : (reached : List Id) → spine_bound heap reached (without_turned history) ≡ spine_bound heap reached history
  spine_bound_without_turned reached = omega (
    arith,
    ap (λ g. spine_words_of_all g reached) cycle_graph_without_turned,
    ap (λ es. words_granted es) (cycle_since history),
    granted_without_turned (since_cycle history),
  )
