-- What is inside, and what is still to be cleared, grow by no more than what a step takes.
use Rattle.std.specs.Prelude.{if◌then◌else◌, nat_lt}
use Rattle.std.proofs.Common.{◌≡◌, ℕ, ◌+◌, ◌-◌, ◌*◌, ◌/◌, ◌<◌, ◌≤◌, inl, inr, Bool, true, false, List, ◌++◌, length, refl, arith}
use Rattle.std.proofs.lemmas.List.Sums.{sum_by-append}
use Rattle.heap_model.specs.declared.account.effect.Effect.{Effect}
use Rattle.core_rule.proofs.Terms.{Entry, Heap, Id, effect_of, total, sum_upto, id_at, AreUsed, Owner, Free, Taken, Borne, Kept, Dead, taken_bit}
use Rattle.core_rule.specs.footprint.Footprint.{is_among, inside_bit, kept_bit, in_groups_before, in_groups_from, ClearedWithin}
use Rattle.core_rule.proofs.book.Going.{OwnerGoes, stays, is_taken, is_given, is_borne, taken_becomes_kept, borne_becomes_kept, is_settled, is_freed, OwnersGoOn, MadeGoesOn}
use Rattle.core_rule.proofs.lists.SumLemmas.{sum_le, sum_plus}

-- a test counts once at most
pub test_counts_once : (b : Bool) → (if b then 1 else 0) ≤ 1
test_counts_once true = omega arith
test_counts_once false = omega arith

test_less : (b : Bool) (now was : ℕ) → now ≤ was → (if b then now else 0) ≤ (if b then was else 0)
test_less true now was less = less
test_less false now was less = omega arith

test_later : (b : Bool) (now was more : ℕ) → now ≤ was + more → (if b then 0 else now) ≤ (if b then 0 else was) + more
test_later true now was more less = omega arith
test_later false now was more less = less

-- what was added to a history is added to its sums
pub total_of_appended : (summand : Effect → ℕ) (history added : List Entry) → total summand (history ++ added) ≡ total summand history + total summand added
total_of_appended summand history added = sum_by-append (λ e. summand (effect_of e)) history added

-- a number of each fragment that grows only where the fragment is taken grows by no more than what is taken
module _ (heap : Heap) (count : ℕ) (owner now : ℕ → Owner) (history added : List Entry) (goes : OwnersGoOn count owner now) (used : AreUsed heap owner history) (used_now : AreUsed heap now (history ++ added)) where
  taken_grows : sum_upto (16 * heap.groups) (λ f. taken_bit (now f)) ≤ sum_upto (16 * heap.groups) (λ f. taken_bit (owner f)) + total (λ e. e.taken) added
  taken_grows = omega (
    arith,
    used,
    used_now,
    total_of_appended (λ e. e.taken) history added,
    total_of_appended (λ e. e.given) history added,
    total_of_appended (λ e. e.freed) history added,
  )

  pub weight_grows : (weight later : ℕ → ℕ) → ((f : ℕ) → later f ≤ weight f + (taken_bit (now f) - taken_bit (owner f))) → sum_upto (16 * heap.groups) later ≤ sum_upto (16 * heap.groups) weight + total (λ e. e.taken) added
  weight_grows weight later each = elim goes.one_way [
    | inl fewer ↦
        let less : sum_upto (16 * heap.groups) later ≤ sum_upto (16 * heap.groups) weight = sum_le (16 * heap.groups) later weight (λ f below. omega (arith, each f, fewer f)) in
        omega (arith, less)
    | inr more ↦
        let old = sum_plus (16 * heap.groups) (λ f. later f + taken_bit (owner f)) later (λ f. taken_bit (owner f)) (λ f below. refl) in
        let new = sum_plus (16 * heap.groups) (λ f. weight f + taken_bit (now f)) weight (λ f. taken_bit (now f)) (λ f below. refl) in
        let less = sum_le (16 * heap.groups) (λ f. later f + taken_bit (owner f)) (λ f. weight f + taken_bit (now f)) (λ f below. omega (arith, each f, more f)) in
        omega (arith, old, new, less, taken_grows)
  ]

module _ (made made_now : List Id) (ids : MadeGoesOn made made_now) where
  -- what is inside of a fragment's owner grows only where the fragment is taken
  inside_goes : (inside : Id → Bool) (o later : Owner) → ((i k : ℕ) → o ≡ Kept i k → i < length made) → OwnerGoes (length made) o later
      → inside_bit inside made_now later ≤ inside_bit inside made o + (taken_bit later - taken_bit o)
  inside_goes inside _ _ within (stays (Kept i k)) = rw (ids i (within i k refl)) (omega arith)
  inside_goes inside _ _ within (stays Free) = omega arith
  inside_goes inside _ _ within (stays (Taken number)) = omega arith
  inside_goes inside _ _ within (stays (Borne number)) = omega arith
  inside_goes inside _ _ within (stays (Dead i k)) = omega arith
  inside_goes inside _ _ within (is_taken number) = omega arith
  inside_goes inside _ _ within (is_given number) = omega arith
  inside_goes inside _ _ within (is_borne number) = omega arith
  inside_goes inside _ _ within (taken_becomes_kept number i k new) = omega (arith, test_counts_once (inside (id_at made_now i)))
  inside_goes inside _ _ within (borne_becomes_kept number i k new) = omega (arith, test_counts_once (inside (id_at made_now i)))
  inside_goes inside _ _ within (is_settled i k) = omega arith
  inside_goes inside _ _ within (is_freed i k) = omega arith

  -- what is kept of some ids doesn't grow, where no new object has one of them
  kept_goes : (begun : List Id) (o later : Owner) → ((i k : ℕ) → o ≡ Kept i k → i < length made) → ((i k : ℕ) → later ≡ Kept i k → length made ≤ i → is_among begun (id_at made_now i) ≡ false)
      → OwnerGoes (length made) o later → kept_bit (is_among begun) made_now later ≤ kept_bit (is_among begun) made o
  kept_goes begun _ _ within new (stays Free) = omega arith
  kept_goes begun _ _ within new (stays (Taken number)) = omega arith
  kept_goes begun _ _ within new (stays (Borne number)) = omega arith
  kept_goes begun _ _ within new (stays (Kept i k)) = rw (ids i (within i k refl)) (omega arith)
  kept_goes begun _ _ within new (stays (Dead i k)) = omega arith
  kept_goes begun _ _ within new (is_taken number) = omega arith
  kept_goes begun _ _ within new (is_given number) = omega arith
  kept_goes begun _ _ within new (is_borne number) = omega arith
  kept_goes begun _ _ within new (taken_becomes_kept number i k above) = rw (new i k refl above) (omega arith)
  kept_goes begun _ _ within new (borne_becomes_kept number i k above) = rw (new i k refl above) (omega arith)
  kept_goes begun _ _ within new (is_settled i k) = omega arith
  kept_goes begun _ _ within new (is_freed i k) = omega arith

module _ (heap : Heap) (made made_now : List Id) (owner now : ℕ → Owner) (goes : OwnersGoOn (length made) owner now) (ids : MadeGoesOn made made_now)
    (within : (f i k : ℕ) → owner f ≡ Kept i k → i < length made) where
  module _ (history added : List Entry) (used : AreUsed heap owner history) (used_now : AreUsed heap now (history ++ added)) where
    -- what is inside grows by no more than what was taken
    pub inside_grows_within_taken : (inside : Id → Bool)
        → sum_upto (16 * heap.groups) (λ f. inside_bit inside made_now (now f)) ≤ sum_upto (16 * heap.groups) (λ f. inside_bit inside made (owner f)) + total (λ e. e.taken) added
    inside_grows_within_taken inside = weight_grows heap (length made) owner now history added goes used used_now (λ f. inside_bit inside made (owner f)) (λ f. inside_bit inside made_now (now f))
        (λ f. inside_goes made made_now ids inside (owner f) (now f) (within f) (goes.each f))

    -- so does what is taken in the groups that are still to be cleared
    pub to_clear_grows : (group : ℕ)
        → sum_upto (16 * heap.groups) (in_groups_from group (λ f. taken_bit (now f))) ≤ sum_upto (16 * heap.groups) (in_groups_from group (λ f. taken_bit (owner f))) + total (λ e. e.taken) added
    to_clear_grows group = weight_grows heap (length made) owner now history added goes used used_now (in_groups_from group (λ f. taken_bit (owner f))) (in_groups_from group (λ f. taken_bit (now f)))
        (λ f. test_later (nat_lt (f / 16) group) (taken_bit (now f)) (taken_bit (owner f)) (taken_bit (now f) - taken_bit (owner f)) (omega arith))

  module _ (begun : List Id) (new : (f i k : ℕ) → now f ≡ Kept i k → length made ≤ i → is_among begun (id_at made_now i) ≡ false) where
    -- what is kept of what was reached when the cycle began doesn't grow
    pub kept_falls : (group : ℕ)
        → sum_upto (16 * heap.groups) (in_groups_before group (λ f. kept_bit (is_among begun) made_now (now f))) ≤ sum_upto (16 * heap.groups) (in_groups_before group (λ f. kept_bit (is_among begun) made (owner f)))
    kept_falls group = sum_le (16 * heap.groups) (in_groups_before group (λ f. kept_bit (is_among begun) made_now (now f))) (in_groups_before group (λ f. kept_bit (is_among begun) made (owner f))) (λ f below.
        test_less (nat_lt (f / 16) group) (kept_bit (is_among begun) made_now (now f)) (kept_bit (is_among begun) made (owner f))
        (kept_goes made made_now ids begun (owner f) (now f) (within f) (new f) (goes.each f)))

    -- what is counted while marks are cleared goes on to be right
    pub cleared_within_goes_on : (history added : List Entry) → AreUsed heap owner history → AreUsed heap now (history ++ added) → (most group kept : ℕ)
        → ClearedWithin heap made begun owner most group kept → ClearedWithin heap made_now begun now (most + total (λ e. e.taken) added) group kept
    cleared_within_goes_on history added used used_now most group kept cleared = record {
      at_most = omega (arith, cleared.at_most, to_clear_grows history added used used_now group);
      at_least = omega (arith, cleared.at_least, kept_falls group);
    }
