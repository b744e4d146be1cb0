-- The fragments of a list that pass a test, and those of a group.
use Rattle.std.specs.List.{range_with_len, list_all}
use Rattle.std.proofs.Common.{◌≡◌, ◌≢◌, ℕ, zero, suc, ◌+◌, ◌/◌, ◌<◌, ◌≤◌, ◌⊎◌, inl, inr, Bool, true, false, not, cond, List, [], ◌∷◌, length, filter, refl, sym, ap, ◌∙◌, arith, ◌*◌}
use Rattle.std.proofs.lemmas.Bool.{false≢true, true≢false, eq-eqb}
use Rattle.std.proofs.lemmas.Bool.Decides.{eqb_tells}
use Rattle.std.proofs.lemmas.List.Filters.{length-filter_both}
use Rattle.core_rule.proofs.Terms.{in_group, out_of_group, inside_group, outside_group, tally, first_group_of, sum_upto, one_at}
use Rattle.core_machine.proofs.table_lemmas.Bits.{true_or_false}
use Rattle.core_machine.proofs.table_lemmas.Free.{sum_of_nothing_is_zero}
use Rattle.core_rule.proofs.lists.SumLemmas.{sum_in_two_summands}
use Rattle.core_rule.proofs.lists.Tallies.{one_at_same_is_one, one_at_other_is_none, sum_of_tallies_is_length}

-- a number of things is none where it isn't one or more
pub zero_where_not_positive : (n : ℕ) → (1 ≤ n → ⊥) → n ≡ 0
zero_where_not_positive zero none = refl
zero_where_not_positive (suc n) none = absurd (none (omega arith))

tally-cond : (f x : ℕ) (xs : List ℕ) (b : Bool) → tally f (cond b (x ∷ xs) xs) ≡ cond {A = ℕ} b (one_at x f) 0 + tally f xs
tally-cond f x xs true = refl
tally-cond f x xs false = omega arith

cond_zero : (b : Bool) → cond {A = ℕ} b 0 0 ≡ 0
cond_zero true = refl
cond_zero false = refl

kept_too : (b c : Bool) (one t u : ℕ) → u ≡ cond {A = ℕ} c t 0 → (one ≡ 0) ⊎ (b ≡ c) → cond {A = ℕ} b one 0 + u ≡ cond {A = ℕ} c (one + t) 0
kept_too true true one t u e same = omega (arith, e)
kept_too false false one t u e same = omega (arith, e)
kept_too true false one t u e (inl none) = omega (arith, e, none)
kept_too true false one t u e (inr same) = absurd (true≢false same)
kept_too false true one t u e (inl none) = omega (arith, e, none)
kept_too false true one t u e (inr same) = absurd (false≢true same)

same_or_none : (p : ℕ → Bool) (x f : ℕ) → (one_at x f ≡ 0) ⊎ (p x ≡ p f)
same_or_none p x f = elim (eqb_tells x f) as (λ _. (one_at x f ≡ 0) ⊎ (p x ≡ p f)) [
  | inl same ↦ inr (ap p same.1)
  | inr apart ↦ inl (one_at_other_is_none x f apart.1)
]

-- a fragment stands in the filtered list where it passes, as often as before
tally-filter : (p : ℕ → Bool) (f : ℕ) (xs : List ℕ) → tally f (filter p xs) ≡ cond {A = ℕ} (p f) (tally f xs) 0
tally-filter p f [] = sym (cond_zero (p f))
tally-filter p f (x ∷ xs) = tally-cond f x (filter p xs) (p x) ∙ kept_too (p x) (p f) (one_at x f) (tally f xs) (tally f (filter p xs)) (tally-filter p f xs) (same_or_none p x f)

pub tally-filter_yes : (p : ℕ → Bool) (f : ℕ) (xs : List ℕ) → p f ≡ true → tally f (filter p xs) ≡ tally f xs
tally-filter_yes p f xs passes = tally-filter p f xs ∙ rw passes refl

pub tally-filter_no : (p : ℕ → Bool) (f : ℕ) (xs : List ℕ) → p f ≡ false → tally f (filter p xs) ≡ 0
tally-filter_no p f xs fails = tally-filter p f xs ∙ rw fails refl

-- a range has each of its numbers once, and no other
pub tally-range_below : (f a n : ℕ) → f < a → tally f (range_with_len a n) ≡ 0
tally-range_below f a zero low = refl
tally-range_below f a (suc n) low =
    omega (arith, one_at_other_is_none a f (λ e. omega (arith, e)), tally-range_below f (a + 1) n (omega arith))

pub tally-range : (f a n : ℕ) → a ≤ f → f < a + n → tally f (range_with_len a n) ≡ 1
tally-range f a zero low high = absurd (omega arith)
tally-range f a (suc n) low high = elim (eqb_tells a f) as (λ _. tally f (range_with_len a (suc n)) ≡ 1) [
  | inl same ↦ omega (arith, one_at_same_is_one a f same.1, tally-range_below f (a + 1) n (omega (arith, same.1)))
  | inr apart ↦ omega (arith, one_at_other_is_none a f apart.1, tally-range f (a + 1) n (omega (arith, apart.1)) (omega arith))
]

pub tally-range_above : (f a n : ℕ) → a + n ≤ f → tally f (range_with_len a n) ≡ 0
tally-range_above f a zero high = refl
tally-range_above f a (suc n) high =
    omega (arith, one_at_other_is_none a f (λ e. omega (arith, e)), tally-range_above f (a + 1) n (omega arith))

module _ (g f : ℕ) (xs : List ℕ) where
  -- what is inside a group has all that is of the group
  pub inside_group_has_own_fragments : f / 16 ≡ g → tally f (inside_group g xs) ≡ tally f xs
  inside_group_has_own_fragments here = tally-filter_yes (in_group g) f xs (elim (eqb_tells (f / 16) g) as (λ _. in_group g f ≡ true) [
    | inl same ↦ same.0
    | inr apart ↦ absurd (apart.1 here)
  ])

  pub inside_group_has_no_other : f / 16 ≢ g → tally f (inside_group g xs) ≡ 0
  inside_group_has_no_other away = tally-filter_no (in_group g) f xs (elim (eqb_tells (f / 16) g) as (λ _. in_group g f ≡ false) [
    | inl same ↦ absurd (away same.1)
    | inr apart ↦ apart.0
  ])

  outside_group-here : f / 16 ≡ g → tally f (outside_group g xs) ≡ 0
  outside_group-here here = tally-filter_no (out_of_group g) f xs (elim (eqb_tells (f / 16) g) as (λ _. out_of_group g f ≡ false) [
    | inl same ↦ ap not same.0
    | inr apart ↦ absurd (apart.1 here)
  ])

  outside_group-away : f / 16 ≢ g → tally f (outside_group g xs) ≡ tally f xs
  outside_group-away away = tally-filter_yes (out_of_group g) f xs (elim (eqb_tells (f / 16) g) as (λ _. out_of_group g f ≡ true) [
    | inl same ↦ absurd (away same.1)
    | inr apart ↦ ap not apart.0
  ])

  -- inside and outside together are the list
  pub inside_and_outside_tallies_make_whole : tally f (inside_group g xs) + tally f (outside_group g xs) ≡ tally f xs
  inside_and_outside_tallies_make_whole = elim (eqb_tells (f / 16) g) as (λ _. tally f (inside_group g xs) + tally f (outside_group g xs) ≡ tally f xs) [
    | inl same ↦ omega (arith, inside_group_has_own_fragments same.1, outside_group-here same.1)
    | inr apart ↦ omega (arith, inside_group_has_no_other apart.1, outside_group-away apart.1)
  ]

-- so are their lengths
pub inside_and_outside_lengths_make_whole : (g : ℕ) (xs : List ℕ) → length (inside_group g xs) + length (outside_group g xs) ≡ length xs
inside_and_outside_lengths_make_whole g xs = length-filter_both (in_group g) (out_of_group g) (λ x. refl) xs

-- a list of fragments of one group, each counted in the group
pub group_tallies_are_length : (g : ℕ) (fs : List ℕ) → ((f : ℕ) → 1 ≤ tally f fs → f / 16 ≡ g) → sum_upto 16 (λ j. tally (16 * g + j) fs) ≡ length fs
group_tallies_are_length g fs here =
    let all : sum_upto (16 * g + 16) (λ f. tally f fs) ≡ length fs = sum_of_tallies_is_length (16 * g + 16) fs (λ f there. omega (arith, here f there)) in
    let before : sum_upto (16 * g) (λ f. tally f fs) ≡ 0 = sum_of_nothing_is_zero (16 * g) (λ f. tally f fs) (λ f below. zero_where_not_positive (tally f fs) (λ there. omega (arith, here f there, below))) in
    let summands : sum_upto (16 * g + 16) (λ f. tally f fs) ≡ sum_upto (16 * g) (λ f. tally f fs) + sum_upto 16 (λ j. tally (16 * g + j) fs) = sum_in_two_summands (16 * g) 16 (λ f. tally f fs) in
    omega (arith, all, before, summands)

-- the first group of a hand has a fragment of it
pub inside_first_group_is_some : (hand : List ℕ) → 0 < length hand → 1 ≤ length (inside_group (first_group_of hand) hand)
inside_first_group_is_some [] some = absurd (omega (arith, some))
inside_first_group_is_some (f ∷ hand) some = let here : in_group (f / 16) f ≡ true = eq-eqb (f / 16) (f / 16) refl in rw here (omega arith)

-- a filter that all pass keeps the list
pub filter_keeps_all : (p : ℕ → Bool) (xs : List ℕ) → list_all p xs ≡ true → filter p xs ≡ xs
filter_keeps_all p [] all = refl
filter_keeps_all p (x ∷ xs) all = elim (true_or_false (p x)) as (λ _. filter p (x ∷ xs) ≡ x ∷ xs) [
  | inl passes ↦ rw passes (ap (λ ys. x ∷ ys) (filter_keeps_all p xs (rw passes at all)))
  | inr fails ↦ absurd (false≢true (rw fails at all))
]
