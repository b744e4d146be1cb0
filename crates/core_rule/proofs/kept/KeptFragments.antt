-- A kept object has as many fragments as it is to have.
use Rattle.std.proofs.Common.{◌≡◌, ℕ, suc, ◌*◌, ◌<◌, ◌≤◌, inl, inr, List, [], ◌∷◌, length, get_or, refl, sym, ap, ◌∙◌, subst, arith}
use Rattle.std.proofs.lemmas.Bool.{cases_lt}
use Rattle.std.proofs.lemmas.Bool.Decides.{eqb_tells}
use Rattle.heap_words.specs.declared.spot.Spot.{Spot}
use Rattle.core_rule.proofs.Terms.{Heap, Id, Graph, fragments_at, tally, sum_upto, id_at, AreMade, Objects, IsKept, Owner, Free, Kept, one_at}
use Rattle.core_machine.proofs.table_lemmas.Free.{sum_of_same_functions, sum_of_nothing_is_zero}
use Rattle.core_rule.proofs.graph.SameNodes.{made_node_has_size}
use Rattle.core_rule.proofs.lists.Members.{position_of, element_is_tallied, element_stands_at_position}
use Rattle.core_rule.proofs.lists.Tallies.{one_at_same_is_one, one_at_other_is_none, one_at_within_one, sum_of_tallies_is_length}
use Rattle.core_rule.proofs.owners.Handed.{none_or_some}

-- whether a fragment is one of the object of this number
abbrev pub object_bit : ℕ → Owner → ℕ
object_bit n (Kept i k) = one_at i n
object_bit n _ = 0

-- where no two positions have the same number, each number stands once at most
once_each : (fs : List ℕ) → ((j k : ℕ) → j < length fs → k < length fs → get_or fs j 0 ≡ get_or fs k 0 → j ≡ k) → (f : ℕ) → tally f fs ≤ 1
once_each [] apart f = omega arith
once_each (x ∷ xs) apart f = elim (none_or_some (tally f xs)) as (λ _. tally f (x ∷ xs) ≤ 1) [
  | inl none ↦ omega (arith, none, one_at_within_one x f)
  | inr some ↦ elim (eqb_tells x f) as (λ _. tally f (x ∷ xs) ≤ 1) [
    | inl e ↦ absurd (first_again (element_stands_at_position f xs some) e.1)
    | inr e ↦ omega (arith, one_at_other_is_none x f e.1, once_each xs (λ j k p q same. omega (arith, apart (suc j) (suc k) (omega (arith, p)) (omega (arith, q)) same)) f)
  ]
]
  where
    first_again : (position_of f xs < length xs) × (get_or xs (position_of f xs) 0 ≡ f) → x ≡ f → ⊥
    first_again position e =
        let same : 0 ≡ suc (position_of f xs) = apart 0 (suc (position_of f xs)) (omega arith) (omega (arith, position.0)) (e ∙ sym position.1) in
        omega (arith, same)

module _ (heap : Heap) (words : List ℕ) (g : Graph) (made : List Id) (owner : ℕ → Owner) (fragments : ℕ → List ℕ) {spines : ℕ → Spot} (ids : AreMade g made) (objects : Objects heap words g made owner fragments spines) where
  -- what isn't kept has no fragment
  pub unkept_has_no_fragments : (n : ℕ) → (n < length made → IsKept owner fragments n → ⊥) → sum_upto (16 * heap.groups) (λ f. object_bit n (owner f)) ≡ 0
  unkept_has_no_fragments n gone = sum_of_nothing_is_zero (16 * heap.groups) (λ f. object_bit n (owner f)) (λ f less. by f (owner f) refl)
    where
      by : (f : ℕ) (o : Owner) → owner f ≡ o → object_bit n o ≡ 0
      by f (Kept i k) is = one_at_other_is_none i n (λ same. let back = objects.back f i k is in gone (subst (λ j. j < length made) same back.0) (subst (λ j. IsKept owner fragments j) same back.1))
      by f _ is = refl

  module _ (n : ℕ) (within : n < length made) (kept : IsKept owner fragments n) where
    fragments_once : (f : ℕ) → tally f (fragments n) ≤ 1
    fragments_once = once_each (fragments n) (λ j k p q same. same_position j k (sym ((objects.kept n within kept).owned j p) ∙ ap owner same ∙ (objects.kept n within kept).owned k q))
      where
        same_position : (j k : ℕ) → Kept n j ≡ Kept n k → j ≡ k
        same_position j k e = cc e

    -- a fragment of the object is one of its list
    is_among_fragments : (f : ℕ) → object_bit n (owner f) ≡ tally f (fragments n)
    is_among_fragments f = elim (none_or_some (tally f (fragments n))) as (λ _. object_bit n (owner f) ≡ tally f (fragments n)) [
      | inl none ↦ by (owner f) refl none ∙ sym none
      | inr some ↦
          let position = element_stands_at_position f (fragments n) some in
          let its : owner f ≡ Kept n (position_of f (fragments n)) = subst (λ x. owner x ≡ Kept n (position_of f (fragments n))) position.1 ((objects.kept n within kept).owned (position_of f (fragments n)) position.0) in
          omega (arith, ap (object_bit n) its, one_at_same_is_one n n refl, fragments_once f, some)
    ]
      where
        there : (i k : ℕ) → i ≡ n → owner f ≡ Kept i k → 1 ≤ tally f (fragments n)
        there i k same is =
            let back = objects.back f i k is in
            subst (λ j. 1 ≤ tally f (fragments j)) same (subst (λ x. 1 ≤ tally x (fragments i)) (sym back.3) (element_is_tallied (fragments i) k back.2))

        by : (o : Owner) → owner f ≡ o → tally f (fragments n) ≡ 0 → object_bit n o ≡ 0
        by (Kept i k) is none = one_at_other_is_none i n (λ same. omega (arith, there i k same is, none))
        by _ is none = refl

    -- they are as many as the graph's object has
    pub fragment_count_is_size : ((f : ℕ) → 16 * heap.groups ≤ f → owner f ≡ Free) → sum_upto (16 * heap.groups) (λ f. object_bit n (owner f)) ≡ fragments_at g (id_at made n)
    fragment_count_is_size outside =
        sum_of_same_functions (16 * heap.groups) (λ f. object_bit n (owner f)) (λ f. tally f (fragments n)) (λ f less. is_among_fragments f) ∙ sum_of_tallies_is_length (16 * heap.groups) (fragments n) below
        ∙ (objects.kept n within kept).whole ∙ made_node_has_size _ (ids.in_graph n within)
      where
        below : (f : ℕ) → 1 ≤ tally f (fragments n) → f < 16 * heap.groups
        below f there = elim (cases_lt f (16 * heap.groups)) [
          | inl less ↦ less
          | inr past ↦ absurd (let none : object_bit n (owner f) ≡ 0 = ap (object_bit n) (outside f past) in omega (arith, is_among_fragments f, none, there))
        ]
