-- What was inside stays so by a step that begins no cycle, and what is new is inside.
use Rattle.std.proofs.Common.{◌≡◌, ℕ, ◌<◌, ◌≤◌, ◌⊎◌, inl, inr, true, false, Bool, List, length, refl, sym, ap, ◌∙◌, subst, arith}
use Rattle.std.proofs.lemmas.Bool.{cases_lt}
use Rattle.core_rule.proofs.Terms.{Heap, Id, graph_of, up_to_cycle, since_cycle, begins_cycle, Graph, IsReach, IsMade, State, Book, id_at, object_number, Owner, Kept, Rule}
use Rattle.heap_model.proofs.account_lemmas.Windows.{window_sections_make_whole}
use Rattle.core_rule.specs.footprint.Footprint.{is_inside, is_among}
use Rattle.core_rule.proofs.book.BookGoing.{BookGoesOn}
use Rattle.core_rule.proofs.footprint.Closed.{legal_in_two_sections}
use Rattle.core_rule.proofs.book.Going.{OwnerGoes, stays, taken_becomes_kept, borne_becomes_kept}
use Rattle.core_rule.proofs.footprint.Inside.{later_made_is_inside, contains_by_test}
use Rattle.core_rule.proofs.reach.ReachLists.{reached_is_made}
use Rattle.core_rule.proofs.growth.LaterGraphs.{each_object_stays}

-- what is kept was so, or is of a new object
pub kept_before_or_new : (made : ℕ) (o later : Owner) (i k : ℕ) → OwnerGoes made o later → later ≡ Kept i k → (o ≡ Kept i k) ⊎ (made ≤ i)
kept_before_or_new made _ _ i k (stays o) is = inl is
kept_before_or_new made _ _ i k (taken_becomes_kept number j m above) is = let same : j ≡ i = cc in inr (omega (arith, above, same))
kept_before_or_new made _ _ i k (borne_becomes_kept number j m above) is = let same : j ≡ i = cc in inr (omega (arith, above, same))
kept_before_or_new made _ _ i k _ is = absurd (cc is)

module _ (heap : Heap) (state new : State) (book now : Book) (rule : Rule heap state book) (after : Rule heap new now) (goes : BookGoesOn heap state book now)
    (begun : List Id) (reach : IsReach (graph_of heap (up_to_cycle book.history)) begun) where
  abbrev earlier : Graph
  earlier = graph_of heap (up_to_cycle book.history)

  abbrev inside : Id → Bool
  inside = is_inside earlier begun

  -- the id of a new object wasn't in the graph
  new_unmade : (i : ℕ) → length book.made ≤ i → i < length now.made → ¬ IsMade (graph_of heap book.history) (id_at now.made i)
  new_unmade i above below made =
      let ids = rule.heap_stands.ids in
      let numbered = ids.numbered (id_at now.made i) made in
      let j : ℕ = object_number book.made (id_at now.made i) in
      let same : id_at now.made j ≡ id_at now.made i = goes.made j numbered.0 ∙ numbered.1 in
      let one : object_number now.made (id_at now.made j) ≡ j = after.heap_stands.ids.distinct j (omega (arith, numbered.0, above, below)) in
      let other : object_number now.made (id_at now.made i) ≡ i = after.heap_stands.ids.distinct i below in
      let both : j ≡ i = sym one ∙ ap (object_number now.made) same ∙ other in
      omega (arith, both, numbered.0, above)

  -- nor when the cycle began
  new_before : (i : ℕ) → length book.made ≤ i → i < length now.made → ¬ IsMade earlier (id_at now.made i)
  new_before i above below made = new_unmade i above below
      (subst (λ h. IsMade (graph_of heap h) (id_at now.made i)) (window_sections_make_whole begins_cycle book.history)
      (each_object_stays heap (up_to_cycle book.history) (since_cycle book.history) (id_at now.made i) (legal_in_two_sections heap book.history begun rule.heap_stands.legal.objects reach) made).0)

  kept_below : (f i k : ℕ) → now.owner f ≡ Kept i k → i < length now.made
  kept_below f i k owned = (after.heap_stands.objects.back f i k owned).0

  -- so it is inside, and wasn't reached then
  new_inside : (i : ℕ) → length book.made ≤ i → i < length now.made → inside (id_at now.made i) ≡ true
  new_inside i above below = later_made_is_inside earlier begun (id_at now.made i) (new_before i above below)

  pub new_is_not_begun : (f i k : ℕ) → now.owner f ≡ Kept i k → length book.made ≤ i → is_among begun (id_at now.made i) ≡ false
  new_is_not_begun f i k owned above = by (is_among begun (id_at now.made i)) refl
    where
      by : (b : Bool) → is_among begun (id_at now.made i) ≡ b → b ≡ false
      by true among = absurd (new_before i above (kept_below f i k owned) (reached_is_made earlier (id_at now.made i) ((reach.reached (id_at now.made i)).0 (contains_by_test begun (id_at now.made i) among))))
      by false other = refl

  -- what is kept was kept as the same object's, or is inside
  pub kept_cases : (f i k : ℕ) → now.owner f ≡ Kept i k → ((book.owner f ≡ Kept i k) × (i < length book.made) × (id_at now.made i ≡ id_at book.made i)) ⊎ (inside (id_at now.made i) ≡ true)
  kept_cases f i k owned = elim (cases_lt i (length book.made)) [
    | inl below ↦ elim (kept_before_or_new (length book.made) (book.owner f) (now.owner f) i k (goes.owners.each f) owned) [
      | inl was ↦ inl (was, below, goes.made i below)
      | inr above ↦ absurd (omega (arith, below, above))
    ]
    | inr above ↦ inr (new_inside i (omega (arith, above)) (kept_below f i k owned))
  ]

  pub kept_stays_inside : (f i k : ℕ) → now.owner f ≡ Kept i k → (book.owner f ≡ Kept i k → i < length book.made → inside (id_at book.made i) ≡ true) → inside (id_at now.made i) ≡ true
  kept_stays_inside f i k owned was = elim (kept_cases f i k owned) [
    | inl old ↦ subst (λ id. inside id ≡ true) (sym old.2) (was old.0 old.1)
    | inr its ↦ its
  ]
