-- Where a cycle is about to end, no more spine words are in use than what was reached when it began and the arrays that were made since have.
use Rattle.std.proofs.Common.{◌≡◌, ◌≢◌, ℕ, ◌+◌, ◌*◌, ◌≤◌, Bool, true, false, not, is_some, List, refl, sym, ap, ◌∙◌, subst, arith}
use Rattle.std.specs.Prelude.{if◌then◌else◌}
use Rattle.std.proofs.lemmas.List.Sums.{fold-append}
use Rattle.core_rule.proofs.Terms.{graph_of, spine_bound, words_granted, words_returned, begins_cycle, up_to_cycle, since_cycle, Entry, Heap, Id, Graph, opening, after_entry}
use Rattle.core_rule.proofs.Terms.{graph_after, AcceptsAll, node, IsMade, IsReach, spine_words_at, State, Book, id_at, dead_weight, dead_sum, kept_sum, words_of_object, nodes_in}
use Rattle.core_rule.proofs.Terms.{returning, Owner, Kept, Dead, Rule}
use Rattle.heap_model.proofs.account_lemmas.Windows.{window_sections_make_whole}
use Rattle.core_machine.proofs.table_lemmas.Free.{sum_of_nothing_is_zero}
use Rattle.core_rule.specs.footprint.Footprint.{is_among, is_inside}
use Rattle.core_rule.proofs.footprint.Closed.{legal_in_two_sections}
use Rattle.core_rule.proofs.footprint.Inside.{contains_by_test}
use Rattle.core_rule.proofs.kept.NewWords.{spine_words_stay_after_history}
use Rattle.core_rule.proofs.reach.ReachLists.{reached_is_made}
use Rattle.core_rule.proofs.kept.WordSums.{kept_sum_within_both, words_new, words_among, new_words_within_granted, kept_words_within_sizes}
use Rattle.core_rule.proofs.growth.LaterGraphs.{accepts_later}

-- where nothing is to be freed, no words are
none_to_free : (heap : Heap) (weight : ℕ → ℕ) (owner : ℕ → Owner) → ((f i k : ℕ) → owner f ≢ Dead i k) → dead_sum heap weight owner ≡ 0
none_to_free heap weight owner none = sum_of_nothing_is_zero (16 * heap.groups) (λ f. dead_weight weight (owner f)) (λ f below. by (owner f) (none f))
  where
    by : (o : Owner) → ((i k : ℕ) → o ≢ Dead i k) → dead_weight weight o ≡ 0
    by (Dead i k) none = absurd (none i k refl)
    by _ none = refl

module _ (heap : Heap) (state : State) (book : Book) (rule : Rule heap state book) (begun : List Id) (reach : IsReach (graph_of heap (up_to_cycle book.history)) begun) where
  abbrev earlier : Graph
  earlier = graph_of heap (up_to_cycle book.history)

  abbrev later : List Entry
  later = since_cycle book.history

  abbrev now : Graph
  now = graph_of heap book.history

  accepts : AcceptsAll earlier later
  accepts = accepts_later (opening heap) (up_to_cycle book.history) later (legal_in_two_sections heap book.history begun rule.heap_stands.legal.objects reach)

  grown : graph_after earlier later ≡ now
  grown = sym (fold-append after_entry (opening heap) (up_to_cycle book.history) later) ∙ ap (graph_of heap) (window_sections_make_whole begins_cycle book.history)

  -- what was made then has its words still
  words_then : (id : Id) → IsMade earlier id → spine_words_at now id ≡ spine_words_at earlier id
  words_then id made = subst (λ g. spine_words_at g id ≡ spine_words_at earlier id) grown (spine_words_stay_after_history earlier later accepts id made)

  -- what is inside was reached then, or wasn't made
  inside_words : (i : ℕ) → is_inside earlier begun (id_at book.made i) ≡ true
      → words_of_object (nodes_in heap book) i ≤ words_among heap state.words now book.made book.owner book.fragments rule.heap_stands.ids rule.heap_stands.objects begun i
      + words_new heap state.words now book.made book.owner book.fragments rule.heap_stands.ids rule.heap_stands.objects earlier i
  inside_words i inside = by (is_among begun (id_at book.made i)) (is_some (node earlier (id_at book.made i))) inside
    where
      by : (among there : Bool) → (if among then true else not there) ≡ true
          → words_of_object (nodes_in heap book) i ≤ (if among then words_of_object (nodes_in heap book) i else 0) + (if there then 0 else words_of_object (nodes_in heap book) i)
      by true there inside = omega arith
      by false false inside = omega arith
      by false true inside = absurd (cc inside)

  module _ (kept : (f i k : ℕ) → book.owner f ≡ Kept i k → is_inside earlier begun (id_at book.made i) ≡ true) where
    -- so what is kept has no more than those
    kept_within : kept_sum heap (words_of_object (nodes_in heap book)) book.owner ≤ spine_bound heap begun book.history
    kept_within =
        let old = rule.heap_stands in
        let both = kept_sum_within_both heap book.owner (words_of_object (nodes_in heap book)) (words_among heap state.words now book.made book.owner book.fragments old.ids old.objects begun)
        (words_new heap state.words now book.made book.owner book.fragments old.ids old.objects earlier) (λ f i is. inside_words i (kept f i 0 is)) in
        let reached = kept_words_within_sizes heap state.words now book.made book.owner book.fragments old.ids old.objects earlier words_then begun
        (λ id among. reached_is_made earlier id ((reach.reached id).0 (contains_by_test begun id among))) in
        let since = new_words_within_granted heap state.words now book.made book.owner book.fragments old.ids old.objects earlier later accepts grown in
        omega (arith, both, reached, since)

    -- and where nothing is to be freed or returned any more, so is what is in use
    pub words_used_within_bound : ((f i k : ℕ) → book.owner f ≢ Dead i k) → returning state.collector.stage ≡ 0 → words_granted book.history ≤ words_returned book.history + spine_bound heap begun book.history
    words_used_within_bound alive none =
        omega (arith, rule.space.budgets.told, kept_within, none_to_free heap (words_of_object (nodes_in heap book)) book.owner alive, none)
