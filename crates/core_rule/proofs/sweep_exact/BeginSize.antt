-- What is inside where a cycle begins is what is reached, and what the seats have.
use Rattle.std.specs.Prelude.{is_some}
use Rattle.std.proofs.Common.{◌≡◌, ℕ, zero, suc, ◌+◌, ◌*◌, ◌<◌, ◌≤◌, inl, inr, true, List, [], ◌∷◌, length, AllPairs, refl, arith}
use Rattle.std.proofs.lemmas.Bool.{cases_Bool, cases_lt}
use Rattle.heap_words.specs.declared.spot.Spot.{Spot}
use Rattle.core_rule.proofs.Terms.{Heap, Id, Graph, node, IsBefore, fragments_of_all, tally, sum_upto, id_at, Holding, fragments_in_hand, AreMade, Objects, Owner, Free, Taken}
use Rattle.core_rule.proofs.Terms.{Borne, Kept, Dead, IsSeated, OwnersStand, one_at, holds_bit, bears_bit}
use Rattle.core_machine.proofs.table_lemmas.Free.{sum_of_same_functions, sum_of_nothing_is_zero, sum_upto-none}
use Rattle.core_rule.specs.footprint.Footprint.{is_among, is_inside, inside_bit, kept_bit}
use Rattle.core_rule.proofs.kept.KeptSums.{kept_sum_within_sizes}
use Rattle.core_rule.proofs.lists.SumLemmas.{sum-suc, sum_plus}
use Rattle.core_rule.proofs.lists.Tallies.{sum_of_outside_is_none, sum_of_inside_is_one}

-- a list has numbers below n no more often than it is long
sum_tally-le : (n : ℕ) (fs : List ℕ) → sum_upto n (λ f. tally f fs) ≤ length fs
sum_tally-le n [] = omega (arith, sum_of_nothing_is_zero n (λ f. tally f []) (λ f less. refl))
sum_tally-le n (x ∷ xs) =
    let both : sum_upto n (λ f. tally f (x ∷ xs)) ≡ sum_upto n (λ f. one_at x f) + sum_upto n (λ f. tally f xs)
    = sum_plus n (λ f. tally f (x ∷ xs)) (λ f. one_at x f) (λ f. tally f xs) (λ f less. refl) in
    elim (cases_lt x n) [
      | inl within ↦ omega (arith, both, sum_of_inside_is_one n x within, sum_tally-le n xs)
      | inr past ↦ omega (arith, both, sum_of_outside_is_none n x past, sum_tally-le n xs)
    ]

-- whether a seat has the fragment
abbrev seat_bit : Owner → ℕ
seat_bit (Taken number) = 1
seat_bit (Borne number) = 1
seat_bit _ = 0

-- whether this seat has it
abbrev own_bit : ℕ → Owner → ℕ
own_bit number o = holds_bit number o + bears_bit number o

-- a seat that there is has it
one_has : (seats : ℕ) (o : Owner) → IsSeated seats o → seat_bit o ≡ sum_upto seats (λ number. own_bit number o)
one_has seats (Taken r) below =
    let same : sum_upto seats (λ number. own_bit number (Taken r)) ≡ sum_upto seats (λ number. one_at r number)
    = sum_of_same_functions seats (λ number. own_bit number (Taken r)) (λ number. one_at r number) (λ number less. omega arith) in
    omega (arith, same, sum_of_inside_is_one seats r below)
one_has seats (Borne r) below =
    let same : sum_upto seats (λ number. own_bit number (Borne r)) ≡ sum_upto seats (λ number. one_at r number)
    = sum_of_same_functions seats (λ number. own_bit number (Borne r)) (λ number. one_at r number) (λ number less. omega arith) in
    omega (arith, same, sum_of_inside_is_one seats r below)
one_has seats Free none = omega (arith, sum_of_nothing_is_zero seats (λ number. own_bit number Free) (λ number less. omega arith))
one_has seats (Kept i k) none = omega (arith, sum_of_nothing_is_zero seats (λ number. own_bit number (Kept i k)) (λ number less. omega arith))
one_has seats (Dead i k) none = omega (arith, sum_of_nothing_is_zero seats (λ number. own_bit number (Dead i k)) (λ number less. omega arith))

module _ (n : ℕ) (owner : ℕ → Owner) where
  -- a seat has no more than its reserve and what it has in hand
  seat_has : (number : ℕ) (reserve hand body : List ℕ) → Holding owner number reserve hand body
      → sum_upto n (λ f. own_bit number (owner f)) ≤ length reserve + length (fragments_in_hand hand body)
  seat_has number reserve hand body holding =
      let both = sum_plus n (λ f. own_bit number (owner f)) (λ f. tally f reserve) (λ f. tally f (fragments_in_hand hand body)) (λ f less. omega (arith, holding.held f, holding.borne f)) in
      omega (arith, both, sum_tally-le n reserve, sum_tally-le n (fragments_in_hand hand body))

  -- what each seat has, together
  seats_have : (own : ℕ → ℕ) (seats : ℕ) → ((number : ℕ) → number < seats → sum_upto n (λ f. own_bit number (owner f)) ≤ own number)
      → sum_upto n (λ f. sum_upto seats (λ number. own_bit number (owner f))) ≤ sum_upto seats own
  seats_have own zero each = omega (arith, sum_of_nothing_is_zero n (λ f. sum_upto 0 (λ number. own_bit number (owner f))) (λ f less. sum_upto-none (λ number. own_bit number (owner f))))
  seats_have own (suc seats) each =
      let both = sum_plus n (λ f. sum_upto (suc seats) (λ number. own_bit number (owner f))) (λ f. sum_upto seats (λ number. own_bit number (owner f))) (λ f. own_bit seats (owner f))
      (λ f less. sum-suc seats (λ number. own_bit number (owner f))) in
      omega (arith, both, sum-suc seats own, each seats (omega arith), seats_have own seats (λ number less. each number (omega (arith, less))))

-- where a cycle begins every object was made, so what is inside is among what is reached, or a seat has it
inside_summands : (g : Graph) (made begun : List Id) → AreMade g made → (o : Owner) → ((i k : ℕ) → o ≡ Kept i k → i < length made)
    → inside_bit (is_inside g begun) made o ≡ seat_bit o + kept_bit (is_among begun) made o
inside_summands g made begun ids (Kept i k) within = elim (cases_Bool (is_among begun (id_at made i)))
    as (λ _. inside_bit (is_inside g begun) made (Kept i k) ≡ seat_bit (Kept i k) + kept_bit (is_among begun) made (Kept i k)) [
      | inl among ↦ rw among refl
      | inr away ↦ let its : is_some (node g (id_at made i)) ≡ true = ids.in_graph i (within i k refl) in rw (away, its) refl
    ]
inside_summands g made begun ids Free within = refl
inside_summands g made begun ids (Taken number) within = refl
inside_summands g made begun ids (Borne number) within = refl
inside_summands g made begun ids (Dead i k) within = refl

-- what is inside where a cycle begins is no more than what the seats have and what is reached
pub inside_within_held_and_reached : (heap : Heap) (words : List ℕ) (g : Graph) (made : List Id) (owner : ℕ → Owner) (fragments : ℕ → List ℕ) {spines : ℕ → Spot} → AreMade g made → Objects heap words g made owner fragments spines
    → ((f : ℕ) → 16 * heap.groups ≤ f → owner f ≡ Free) → OwnersStand heap.seats owner
    → (reserve hand body : ℕ → List ℕ) → ((number : ℕ) → number < heap.seats → Holding owner number (reserve number) (hand number) (body number))
    → (begun : List Id) → AllPairs IsBefore begun
    → sum_upto (16 * heap.groups) (λ f. inside_bit (is_inside g begun) made (owner f))
    ≤ sum_upto heap.seats (λ number. length (reserve number) + length (fragments_in_hand (hand number) (body number))) + fragments_of_all g begun
inside_within_held_and_reached heap words g made owner fragments ids objects outside owners reserve hand body holding begun ordered =
    let n : ℕ = 16 * heap.groups in
    let summands = sum_plus n (λ f. inside_bit (is_inside g begun) made (owner f)) (λ f. seat_bit (owner f)) (λ f. kept_bit (is_among begun) made (owner f))
    (λ f less. inside_summands g made begun ids (owner f) (λ i k is. (objects.back f i k is).0)) in
    let seats = sum_of_same_functions n (λ f. seat_bit (owner f)) (λ f. sum_upto heap.seats (λ number. own_bit number (owner f))) (λ f less. one_has heap.seats (owner f) (owners.seated f)) in
    let own = seats_have n owner (λ number. length (reserve number) + length (fragments_in_hand (hand number) (body number))) heap.seats
    (λ number below. seat_has n owner number (reserve number) (hand number) (body number) (holding number below)) in
    let kept = kept_sum_within_sizes heap words g made owner fragments ids objects outside begun ordered in
    omega (arith, summands, seats, own, kept)
