-- The spine words of kept objects: those of what was reached when a cycle began, and those of what was made since.
use Rattle.std.proofs.Common.{◌≡◌, ◌⊎◌, ℕ, zero, suc, ◌+◌, ◌*◌, ◌<◌, ◌≤◌, ◌==◌, Bool, true, false, is_some, List, [], ◌∷◌, length, Option, Some, None, inl, inr, refl, sym, ap, ◌∙◌, subst, arith}
use Rattle.std.specs.Option.{option_map_or}
use Rattle.std.specs.Prelude.{if◌then◌else◌}
use Rattle.std.proofs.lemmas.Bool.{cases_Bool}
use Rattle.std.proofs.lemmas.Bool.Decides.{eqb_tells}
use Rattle.std.proofs.lemmas.List.Sums.{sum_by-cons}
use Rattle.heap_words.specs.declared.spot.Spot.{Spot}
use Rattle.core_rule.proofs.Terms.{effect_of, words_granted, Entry, Heap, Id, Graph, Node, after_entry, graph_after, AcceptsAll, node, IsMade, spine_words_of, spine_words_at}
use Rattle.core_rule.proofs.Terms.{spine_words_of_all, sum_upto, fragment_at, id_at, object_number, kept_weight, kept_sum, words_of_object, AreMade, Objects, node_in, node_at}
use Rattle.core_rule.proofs.Terms.{Owner, Kept}
use Rattle.core_machine.proofs.table_lemmas.Free.{sum_of_nothing_is_zero, sum_upto-none}
use Rattle.core_rule.specs.footprint.Footprint.{is_among}
use Rattle.core_rule.proofs.kept.NewWords.{entry_makes_one, spine_words_stay_after_history}
use Rattle.core_rule.proofs.graph.Numbering.{same_id_test_decides}
use Rattle.core_rule.proofs.lists.SumLemmas.{sum-suc, sum_le, sum_plus}

-- a number at one position alone is no more in a sum
sum_at_one : (n at c : ℕ) → sum_upto n (λ f. if at == f then c else 0) ≤ c
sum_at_one zero at c = omega (arith, sum_upto-none (λ f. if at == f then c else 0))
sum_at_one (suc n) at c = elim (eqb_tells at n) as (λ _. sum_upto (suc n) (λ f. if at == f then c else 0) ≤ c) [
  | inl here ↦
      let before = sum_of_nothing_is_zero n (λ f. if at == f then c else 0) (λ f below. elim (eqb_tells at f) as (λ _. (if at == f then c else 0) ≡ 0) [
        | inl same ↦ absurd (omega (arith, same.1, here.1, below))
        | inr apart ↦ rw apart.0 refl
      ]) in
      let last : (if at == n then c else 0) ≡ c = rw here.0 refl in
      omega (arith, sum-suc n (λ f. if at == f then c else 0), before, last)
  | inr apart ↦
      let last : (if at == n then c else 0) ≡ 0 = rw apart.0 refl in
      omega (arith, sum-suc n (λ f. if at == f then c else 0), sum_at_one n at c, last)
]

-- an object has as many spine words whether it is there or not
words_in_node : (o : Option Node) → spine_words_of (node_in o) ≡ option_map_or spine_words_of o 0
words_in_node None = refl
words_in_node (Some object) = refl

-- a fragment is a kept object's first one, or has no weight
pub head_or_none : (o : Owner) → ((i : ℕ) × (o ≡ Kept i 0)) ⊎ ((weight : ℕ → ℕ) → kept_weight weight o ≡ 0)
head_or_none (Kept i k) = elim (eqb_tells k 0) as (λ _. ((j : ℕ) × (Kept i k ≡ Kept j 0)) ⊎ ((weight : ℕ → ℕ) → kept_weight weight (Kept i k) ≡ 0)) [
  | inl first ↦ inl (i, ap (Kept i) first.1)
  | inr behind ↦ inr (λ weight. rw behind.0 refl)
]
head_or_none _ = inr (λ weight. refl)

module _ (heap : Heap) (owner : ℕ → Owner) where
  -- kept weights are no more than two others together, where that is so of each kept object
  pub kept_sum_within_both : (w u v : ℕ → ℕ) → ((f i : ℕ) → owner f ≡ Kept i 0 → w i ≤ u i + v i) → kept_sum heap w owner ≤ kept_sum heap u owner + kept_sum heap v owner
  kept_sum_within_both w u v each =
      let both = sum_plus (16 * heap.groups) (λ f. kept_weight u (owner f) + kept_weight v (owner f)) (λ f. kept_weight u (owner f)) (λ f. kept_weight v (owner f)) (λ f below. refl) in
      let less = sum_le (16 * heap.groups) (λ f. kept_weight w (owner f)) (λ f. kept_weight u (owner f) + kept_weight v (owner f)) (λ f below. by f) in
      omega (arith, both, less)
    where
      by : (f : ℕ) → kept_weight w (owner f) ≤ kept_weight u (owner f) + kept_weight v (owner f)
      by f = elim (head_or_none (owner f)) [
        | inl head ↦ rw head.1 (each f head.0 head.1)
        | inr none ↦ omega (arith, none w)
      ]

  -- nothing where no kept object has any
  pub kept_none : (w : ℕ → ℕ) → ((f i : ℕ) → owner f ≡ Kept i 0 → w i ≡ 0) → kept_sum heap w owner ≡ 0
  kept_none w each = sum_of_nothing_is_zero (16 * heap.groups) (λ f. kept_weight w (owner f)) (λ f below. elim (head_or_none (owner f)) [ inl head ↦ rw head.1 (each f head.0 head.1) | inr none ↦ none w ])

module _ (heap : Heap) (words : List ℕ) (g : Graph) (made : List Id) (owner : ℕ → Owner) (fragments : ℕ → List ℕ) {spines : ℕ → Spot} (ids : AreMade g made) (objects : Objects heap words g made owner fragments spines) where
  -- the weight of one object is counted once
  one_kept : (n c : ℕ) → kept_sum heap (λ i. if i == n then c else 0) owner ≤ c
  one_kept n c =
      let first : ℕ = fragment_at (fragments n) 0 in
      let less = sum_le (16 * heap.groups) (λ f. kept_weight (λ i. if i == n then c else 0) (owner f)) (λ f. if first == f then c else 0) (λ f below.
      elim (head_or_none (owner f)) [ inl head ↦ rw head.1 (at_first f head.0 head.1) | inr none ↦ omega (arith, none (λ i. if i == n then c else 0)) ]) in
      omega (arith, less, sum_at_one (16 * heap.groups) first c)
    where
      at_first : (f i : ℕ) → owner f ≡ Kept i 0 → (if i == n then c else 0) ≤ (if fragment_at (fragments n) 0 == f then c else 0)
      at_first f i is = elim (eqb_tells i n) as (λ _. (if i == n then c else 0) ≤ (if fragment_at (fragments n) 0 == f then c else 0)) [
        | inl same ↦ elim (eqb_tells (fragment_at (fragments n) 0) f) as (λ _. (if i == n then c else 0) ≤ (if fragment_at (fragments n) 0 == f then c else 0)) [
          | inl here ↦ rw (same.0, here.0) (omega arith)
          | inr there ↦ absurd (there.1 (sym ((objects.back f i 0 is).3 ∙ ap (λ j. fragment_at (fragments j) 0) same.1)))
        ]
        | inr apart ↦ rw apart.0 (omega arith)
      ]

  abbrev nodes : ℕ → Node
  nodes = node_at g made

  -- the words of the objects that weren't made in an earlier graph, and those of some ids
  abbrev pub words_new : Graph → ℕ → ℕ
  words_new earlier i = if is_some (node earlier (id_at made i)) then 0 else words_of_object nodes i

  abbrev pub words_among : List Id → ℕ → ℕ
  words_among xs i = if is_among xs (id_at made i) then words_of_object nodes i else 0

  -- of what one more entry makes no more is kept than it is granted
  new_step : (earlier now : Graph) (new : Id) (c : ℕ) (i : ℕ) → i < length made → ((id : Id) → IsMade now id → IsMade earlier id ⊎ ((id ≡ new) × (spine_words_at g id ≡ c)))
      → words_new earlier i ≤ words_new now i + (if i == object_number made new then c else 0)
  new_step earlier now new c i below others = elim (cases_Bool (is_some (node now (id_at made i)))) as (λ _. words_new earlier i ≤ words_new now i + (if i == object_number made new then c else 0)) [
    | inr unmade ↦ rw unmade (before (is_some (node earlier (id_at made i))))
    | inl made_now ↦ elim (others (id_at made i) made_now) as (λ _. words_new earlier i ≤ words_new now i + (if i == object_number made new then c else 0)) [
      | inl was ↦ rw was (omega arith)
      | inr its ↦
          let number : i ≡ object_number made new = sym (ids.distinct i below) ∙ ap (object_number made) its.0 in
          let has : words_of_object nodes i ≡ c = words_in_node (node g (id_at made i)) ∙ its.1 in
          let here : (if i == object_number made new then c else 0) ≡ c = elim (eqb_tells i (object_number made new)) as (λ _. (if i == object_number made new then c else 0) ≡ c) [
            | inl same ↦ rw same.0 refl
            | inr apart ↦ absurd (apart.1 number)
          ] in
          omega (arith, here, has, less (is_some (node earlier (id_at made i))))
    ]
  ]
    where
      before : (b : Bool) → (if b then 0 else words_of_object nodes i) ≤ words_of_object nodes i + (if i == object_number made new then c else 0)
      before true = omega arith
      before false = omega arith

      less : (b : Bool) → (if b then 0 else words_of_object nodes i) ≤ words_of_object nodes i
      less true = omega arith
      less false = omega arith

  -- what was made since a graph has no more words than were granted since
  pub new_words_within_granted : (earlier : Graph) (later : List Entry) → AcceptsAll earlier later → graph_after earlier later ≡ g → kept_sum heap (words_new earlier) owner ≤ words_granted later
  new_words_within_granted earlier [] accepts same =
      omega (
        arith,
        kept_none heap owner (words_new earlier) (λ f i is.
            let there : is_some (node earlier (id_at made i)) ≡ true = subst (λ h. IsMade h (id_at made i)) (sym same) (ids.in_graph i (objects.back f i 0 is).0) in
            rw there refl),
      )
  new_words_within_granted earlier (entry ∷ later) accepts same =
      let makes = entry_makes_one earlier entry accepts.0 in
      let now : Graph = after_entry earlier entry in
      let c : ℕ = (effect_of entry).words in
      let others : (id : Id) → IsMade now id → IsMade earlier id ⊎ ((id ≡ makes.new) × (spine_words_at g id ≡ c)) = λ id there. elim (makes.others id there) [
        | inl was ↦ inl was
        | inr its ↦ inr (its.0, subst (λ h. spine_words_at h id ≡ c) same (spine_words_stay_after_history now later accepts.1 id there ∙ its.1))
      ] in
      let summands = kept_sum_within_both heap owner (words_new earlier) (words_new now) (λ i. if i == object_number made makes.new then c else 0) (λ f i is. new_step earlier now makes.new c i (objects.back f i 0 is).0 others) in
      omega (arith, summands, one_kept (object_number made makes.new) c, new_words_within_granted now later accepts.1 same, sum_by-cons (λ e. (effect_of e).words) entry later)

  -- what is kept of some ids has no more words than their objects
  pub kept_words_within_sizes : (earlier : Graph) → ((id : Id) → IsMade earlier id → spine_words_at g id ≡ spine_words_at earlier id) → (xs : List Id) → ((id : Id) → is_among xs id ≡ true → IsMade earlier id)
      → kept_sum heap (words_among xs) owner ≤ spine_words_of_all earlier xs
  kept_words_within_sizes earlier stay [] all = omega (arith, kept_none heap owner (words_among []) (λ f i is. refl))
  kept_words_within_sizes earlier stay (x ∷ xs) all =
      let n : ℕ = object_number made x in
      let c : ℕ = spine_words_at earlier x in
      let summands = kept_sum_within_both heap owner (words_among (x ∷ xs)) (λ i. if i == n then c else 0) (words_among xs) (λ f i is. by i (objects.back f i 0 is).0) in
      omega (arith, summands, one_kept n c, kept_words_within_sizes earlier stay xs (λ id there. all id (rest id there)), sum_by-cons (spine_words_at earlier) x xs)
    where
      rest : (id : Id) → is_among xs id ≡ true → is_among (x ∷ xs) id ≡ true
      rest id there = elim (same_id_test_decides id x) as (λ _. is_among (x ∷ xs) id ≡ true) [
        | inl same ↦ rw same.0 refl
        | inr apart ↦ rw apart.0 there
      ]

      its : is_among (x ∷ xs) x ≡ true
      its = elim (same_id_test_decides x x) as (λ _. is_among (x ∷ xs) x ≡ true) [
        | inl same ↦ rw same.0 refl
        | inr apart ↦ absurd (apart.1 refl)
      ]

      by : (i : ℕ) → i < length made → words_among (x ∷ xs) i ≤ (if i == object_number made x then spine_words_at earlier x else 0) + words_among xs i
      by i below = elim (same_id_test_decides (id_at made i) x) as (λ _. words_among (x ∷ xs) i ≤ (if i == object_number made x then spine_words_at earlier x else 0) + words_among xs i) [
        | inl same ↦
            let number : i ≡ object_number made x = sym (ids.distinct i below) ∙ ap (object_number made) same.1 in
            let has : words_of_object nodes i ≡ spine_words_at earlier x = words_in_node (node g (id_at made i)) ∙ ap (spine_words_at g) same.1 ∙ stay x (all x its) in
            let here : (if i == object_number made x then spine_words_at earlier x else 0) ≡ spine_words_at earlier x
            = elim (eqb_tells i (object_number made x)) as (λ _. (if i == object_number made x then spine_words_at earlier x else 0) ≡ spine_words_at earlier x) [
              | inl one ↦ rw one.0 refl
              | inr apart ↦ absurd (apart.1 number)
            ] in
            rw same.0 (omega (arith, here, has))
        | inr apart ↦ rw apart.0 (omega arith)
      ]
