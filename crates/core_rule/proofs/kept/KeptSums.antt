-- The fragments of kept objects among some ids, counted object by object.
use Rattle.std.proofs.Common.{◌≡◌, ◌≢◌, ℕ, ◌+◌, ◌*◌, ◌<◌, ◌≤◌, ◌⊎◌, inl, inr, false, List, [], ◌∷◌, length, get_or, AllPairs, Contains, refl, sym, ap, ◌∙◌, subst, arith, suc}
use Rattle.std.proofs.lemmas.Bool.{cases_lt}
use Rattle.std.proofs.lemmas.Bool.Decides.{eqb_tells}
use Rattle.std.proofs.lemmas.List.Sums.{sum_by-cons}
use Rattle.heap_words.specs.declared.spot.Spot.{Spot}
use Rattle.core_rule.proofs.Terms.{Heap, Id, Board, Made, Graph, IsBefore, fragments_at, fragments_of_all, sum_upto, fragment_at, id_at, object_number, AreMade, Objects, IsKept}
use Rattle.core_rule.proofs.Terms.{Owner, Free, Taken, Borne, Kept, Dead}
use Rattle.core_machine.proofs.table_lemmas.Free.{sum_of_nothing_is_zero}
use Rattle.core_rule.specs.footprint.Footprint.{is_among, kept_bit}
use Rattle.core_rule.proofs.kept.KeptFragments.{object_bit, unkept_has_no_fragments, fragment_count_is_size}
use Rattle.core_rule.proofs.graph.Numbering.{same_id_test_decides, id_at_own_number}
use Rattle.core_rule.proofs.lists.SumLemmas.{sum_plus}
use Rattle.core_rule.proofs.lists.Tallies.{one_at_same_is_one, one_at_other_is_none}

-- no id is before itself
not_before_itself : (id : Id) → IsBefore id id → ⊥
not_before_itself Board before = before
not_before_itself (Made number count) (inl less) = omega (arith, less)
not_before_itself (Made number count) (inr less) = omega (arith, less.1)

-- the first id of a list in order isn't among the others
not_among : (x : Id) (xs : List Id) → ((i : ℕ) → i < length xs → (y : Id) → IsBefore x (get_or xs i y)) → is_among xs x ≡ false
not_among x [] before = refl
not_among x (y ∷ xs) before = elim (same_id_test_decides x y) as (λ _. is_among (y ∷ xs) x ≡ false) [
  | inl same ↦ absurd (not_before_itself x (subst (λ z. IsBefore x z) (sym same.1) (before 0 (omega arith) y)))
  | inr apart ↦ rw apart.0 (not_among x xs (λ i below z. before (suc i) (omega (arith, below)) z))
]

pub first_apart : (x : Id) (xs : List Id) → AllPairs IsBefore (x ∷ xs) → is_among xs x ≡ false
first_apart x xs pairs = not_among x xs (λ i below y. pairs 0 (suc i) y (omega arith) (omega (arith, below)))

pub rest_ordered : (x : Id) (xs : List Id) → AllPairs IsBefore (x ∷ xs) → AllPairs IsBefore xs
rest_ordered x xs pairs i j y less below = pairs (suc i) (suc j) y (omega (arith, less)) (omega (arith, below))

-- whether the object's first fragment is its own
first_tells : (n : ℕ) (o : Owner) → (o ≡ Kept n 0) ⊎ (o ≢ Kept n 0)
first_tells n (Kept i k) = elim (eqb_tells i n) [
  | inl same ↦ elim (eqb_tells k 0) [
    | inl first ↦ inl (cc (same.1, first.1))
    | inr behind ↦ inr (λ e. behind.1 (cc e))
  ]
  | inr apart ↦ inr (λ e. apart.1 (cc e))
]
first_tells n Free = inr (λ e. cc e)
first_tells n (Taken number) = inr (λ e. cc e)
first_tells n (Borne number) = inr (λ e. cc e)
first_tells n (Dead i k) = inr (λ e. cc e)

module _ (heap : Heap) (words : List ℕ) (g : Graph) (made : List Id) (owner : ℕ → Owner) (fragments : ℕ → List ℕ) {spines : ℕ → Spot} (ids : AreMade g made) (objects : Objects heap words g made owner fragments spines) where
  -- a fragment is of an object among some ids where it is of the first one's or of the others'
  among_summands : (x : Id) (xs : List Id) → is_among xs x ≡ false → (o : Owner) → ((i k : ℕ) → o ≡ Kept i k → i < length made)
      → kept_bit (is_among (x ∷ xs)) made o ≡ object_bit (object_number made x) o + kept_bit (is_among xs) made o
  among_summands x xs apart (Kept i k) within = elim (same_id_test_decides (id_at made i) x) as (λ _. kept_bit (is_among (x ∷ xs)) made (Kept i k) ≡ object_bit (object_number made x) (Kept i k) + kept_bit (is_among xs) made (Kept i k)) [
    | inl same ↦
        let number : i ≡ object_number made x = sym (ids.distinct i (within i k refl)) ∙ ap (object_number made) same.1 in
        let others : is_among xs (id_at made i) ≡ false = ap (is_among xs) same.1 ∙ apart in
        rw (same.0, others, one_at_same_is_one i (object_number made x) number) refl
    | inr other ↦
        let number : i ≢ object_number made x = λ e. other.1 (ap (id_at made) e ∙ id_at_own_number made x (subst (λ j. j < length made) e (within i k refl))) in
        rw (other.0, one_at_other_is_none i (object_number made x) number) (omega arith)
  ]
  among_summands x xs apart Free within = omega arith
  among_summands x xs apart (Taken number) within = omega arith
  among_summands x xs apart (Borne number) within = omega arith
  among_summands x xs apart (Dead i k) within = omega arith

  among_sum : (x : Id) (xs : List Id) → is_among xs x ≡ false → sum_upto (16 * heap.groups) (λ f. kept_bit (is_among (x ∷ xs)) made (owner f))
      ≡ sum_upto (16 * heap.groups) (λ f. object_bit (object_number made x) (owner f)) + sum_upto (16 * heap.groups) (λ f. kept_bit (is_among xs) made (owner f))
  among_sum x xs apart = sum_plus (16 * heap.groups) (λ f. kept_bit (is_among (x ∷ xs)) made (owner f)) (λ f. object_bit (object_number made x) (owner f)) (λ f. kept_bit (is_among xs) made (owner f))
      (λ f less. among_summands x xs apart (owner f) (λ i k is. (objects.back f i k is).0))

  none_among : (o : Owner) → kept_bit (is_among []) made o ≡ 0
  none_among (Kept i k) = refl
  none_among _ = refl

  among_none : sum_upto (16 * heap.groups) (λ f. kept_bit (is_among []) made (owner f)) ≡ 0
  among_none = sum_of_nothing_is_zero (16 * heap.groups) (λ f. kept_bit (is_among []) made (owner f)) (λ f less. none_among (owner f))

  module _ (outside : (f : ℕ) → 16 * heap.groups ≤ f → owner f ≡ Free) where
    -- a kept object's fragments are those of the graph's
    kept_size : (x : Id) → object_number made x < length made → IsKept owner fragments (object_number made x)
        → sum_upto (16 * heap.groups) (λ f. object_bit (object_number made x) (owner f)) ≡ fragments_at g x
    kept_size x within kept =
        let its : id_at made (object_number made x) ≡ x = id_at_own_number made x within in
        fragment_count_is_size heap words g made owner fragments ids objects (object_number made x) within kept outside ∙ ap (fragments_at g) its

    -- and at most these where it may not be kept
    most_size : (x : Id) → sum_upto (16 * heap.groups) (λ f. object_bit (object_number made x) (owner f)) ≤ fragments_at g x
    most_size x = elim (cases_lt (object_number made x) (length made)) [
      | inl within ↦ elim (first_tells (object_number made x) (owner (fragment_at (fragments (object_number made x)) 0))) [
        | inl kept ↦ omega (arith, kept_size x within kept)
        | inr gone ↦ omega (arith, unkept_has_no_fragments heap words g made owner fragments ids objects (object_number made x) (λ below kept. gone kept))
      ]
      | inr past ↦ omega (arith, unkept_has_no_fragments heap words g made owner fragments ids objects (object_number made x) (λ below kept. omega (arith, below, past)))
    ]

    -- what is kept of some ids is no more than their objects have
    pub kept_sum_within_sizes : (xs : List Id) → AllPairs IsBefore xs → sum_upto (16 * heap.groups) (λ f. kept_bit (is_among xs) made (owner f)) ≤ fragments_of_all g xs
    kept_sum_within_sizes [] pairs = omega (arith, among_none)
    kept_sum_within_sizes (x ∷ xs) pairs = omega (arith, sum_by-cons (fragments_at g) x xs, among_sum x xs (first_apart x xs pairs), most_size x, kept_sum_within_sizes xs (rest_ordered x xs pairs))

    -- and as much, where all are kept
    pub kept_sum_is_sizes : (xs : List Id) → AllPairs IsBefore xs → ((id : Id) → Contains xs id → (object_number made id < length made) × IsKept owner fragments (object_number made id))
        → sum_upto (16 * heap.groups) (λ f. kept_bit (is_among xs) made (owner f)) ≡ fragments_of_all g xs
    kept_sum_is_sizes [] pairs all = among_none
    kept_sum_is_sizes (x ∷ xs) pairs all =
        let first = all x (0, omega arith, refl) in
        omega (arith, sum_by-cons (fragments_at g) x xs, among_sum x xs (first_apart x xs pairs), kept_size x first.0 first.1, kept_sum_is_sizes xs (rest_ordered x xs pairs) (λ id its. all id (suc its.0, omega (arith, its.1), its.2)))
