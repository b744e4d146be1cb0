-- What a cycle leaves where its marks are cleared: no more than its bound, and no less than what is kept of what was reached when it began.
use Rattle.std.proofs.Common.{◌≡◌, ◌≢◌, ℕ, ◌+◌, ◌*◌, ◌/◌, ◌<◌, ◌≤◌, inl, inr, Bool, true, List, length, AllPairs, Contains, arith}
use Rattle.std.proofs.lemmas.Bool.{cases_Bool}
use Rattle.std.proofs.lemmas.Bool.Decides.{nat_tests}
use Rattle.core_rule.proofs.Terms.{Entry, Heap, Id, fragments_gained, fragments_lost, Graph, IsBefore, fragments_of_all, sum_upto, id_at, object_number, AreUsed, AreMade, Objects}
use Rattle.core_rule.proofs.Terms.{IsKept, Owner, Free, Taken, Borne, Kept, Dead}
use Rattle.heap_words.specs.declared.spot.Spot.{Spot}
use Rattle.core_machine.proofs.table_lemmas.Free.{sum_of_same_functions}
use Rattle.core_rule.specs.footprint.Footprint.{is_among, inside_bit, kept_bit, in_groups_before, ClearedWithin}
use Rattle.core_rule.proofs.kept.Clears.{all_taken_is_inside}
use Rattle.core_rule.proofs.footprint.Inside.{contains_by_test}
use Rattle.core_rule.proofs.kept.KeptSums.{kept_sum_is_sizes}
use Rattle.core_rule.proofs.lists.SumLemmas.{sum_le}

-- where all that is kept is inside, and nothing is to be freed, no more is in use than the bound of what is inside
pub used_within_bound : (heap : Heap) (made : List Id) (owner : ℕ → Owner) (inside : Id → Bool) → ((f i k : ℕ) → owner f ≡ Kept i k → inside (id_at made i) ≡ true) → ((f i k : ℕ) → owner f ≢ Dead i k)
    → (history : List Entry) (most : ℕ) → AreUsed heap owner history → sum_upto (16 * heap.groups) (λ f. inside_bit inside made (owner f)) ≤ most
    → fragments_gained heap history ≤ fragments_lost history + most
used_within_bound heap made owner inside kept_inside none_dead history most used within = omega (arith, used, within, all_taken_is_inside heap made owner inside kept_inside none_dead)

-- what was counted is within the bound
pub kept_count_within_bound : (heap : Heap) (made begun : List Id) (owner : ℕ → Owner) (most group kept : ℕ) → ClearedWithin heap made begun owner most group kept → kept ≤ most
kept_count_within_bound heap made begun owner most group kept cleared = omega (arith, cleared.at_most)

module _ (made begun both : List Id) (all : (id : Id) → Contains both id → is_among begun id ≡ true) where
  -- what is kept of fewer ids is no more
  fewer_kept : (o : Owner) → kept_bit (is_among both) made o ≤ kept_bit (is_among begun) made o
  fewer_kept (Kept i k) = elim (cases_Bool (is_among both (id_at made i))) as (λ _. kept_bit (is_among both) made (Kept i k) ≤ kept_bit (is_among begun) made (Kept i k)) [
    | inl among ↦ rw (among, all (id_at made i) (contains_by_test both (id_at made i) among)) (omega arith)
    | inr not_among ↦ rw not_among (omega arith)
  ]
  fewer_kept Free = omega arith
  fewer_kept (Taken number) = omega arith
  fewer_kept (Borne number) = omega arith
  fewer_kept (Dead i k) = omega arith

-- what is kept of what was reached when the cycle began was counted
pub reached_kept_is_counted : (heap : Heap) (words : List ℕ) (g : Graph) (made : List Id) (owner : ℕ → Owner) (fragments : ℕ → List ℕ) {spines : ℕ → Spot} → AreMade g made → Objects heap words g made owner fragments spines
    → ((f : ℕ) → 16 * heap.groups ≤ f → owner f ≡ Free) → (begun both : List Id) (most kept : ℕ) → ClearedWithin heap made begun owner most heap.groups kept
    → AllPairs IsBefore both → ((id : Id) → Contains both id → is_among begun id ≡ true)
    → ((id : Id) → Contains both id → (object_number made id < length made) × IsKept owner fragments (object_number made id)) → fragments_of_all g both ≤ kept
reached_kept_is_counted heap words g made owner fragments ids objects outside begun both most kept cleared ordered among all =
    let size = kept_sum_is_sizes heap words g made owner fragments ids objects outside both ordered all in
    let fewer = sum_le (16 * heap.groups) (λ f. kept_bit (is_among both) made (owner f)) (λ f. kept_bit (is_among begun) made (owner f)) (λ f less. fewer_kept made begun both among (owner f)) in
    let whole = sum_of_same_functions (16 * heap.groups) (in_groups_before heap.groups (λ f. kept_bit (is_among begun) made (owner f))) (λ f. kept_bit (is_among begun) made (owner f))
    (λ f less. let its : f / 16 < heap.groups = omega (arith, less) in grind (arith, nat_tests, its)) in
    omega (arith, size, fewer, whole, cleared.at_least)
