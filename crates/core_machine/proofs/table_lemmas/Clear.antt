-- The clear fragments of a group, one by one.
use Rattle.std.proofs.Common.{◌≡◌, ℕ, zero, suc, ◌+◌, ◌*◌, ◌≤◌, true, false, cond, List, [], ◌∷◌, ◌++◌, length, filter, refl, ap, ◌∙◌, append-nil, add-zero, arith}
use Rattle.std.specs.List.{range_with_len}
use Rattle.std.proofs.lemmas.List.Elements.{filter-append}
use Rattle.std.proofs.lemmas.List.FromFn.{length-range_with_len}
use Rattle.core_machine.proofs.Terms.{is_clear, clear_among}
use Rattle.core_machine.proofs.table_lemmas.Filters.{length-filter_le}

range_suc : (a n : ℕ) → range_with_len a (suc n) ≡ range_with_len a n ++ (a + n) ∷ []
range_suc a zero = rw add-zero refl
range_suc a (suc n) =
    let e : a + 1 + n ≡ a + suc n = omega arith in
    ap (λ (l : List ℕ). a ∷ l) (range_suc (a + 1) n ∙ ap (λ (m : ℕ). range_with_len (a + 1) n ++ m ∷ []) e)

-- a range with one number more
range_more : (a n : ℕ) → range_with_len a (n + 1) ≡ range_with_len a n ++ (a + n) ∷ []
range_more a n = let e : n + 1 ≡ suc n = omega arith in rw e (range_suc a n)

-- one fragment more of a group
pub clear_among-more : (group word count : ℕ)
    → clear_among group word (count + 1)
    ≡ clear_among group word count ++ cond (is_clear word (16 * group + count)) ((16 * group + count) ∷ []) []
unfolding clear_among
clear_among-more group word count =
    let step = ap (filter (is_clear word)) (range_more (16 * group) count) in
    step ∙ filter-append (is_clear word) (range_with_len (16 * group) count) ((16 * group + count) ∷ [])

-- the fragment whose taken bit isn't set is among them
pub clear_among-clear : (group word count : ℕ) → is_clear word (16 * group + count) ≡ true
    → clear_among group word (count + 1) ≡ clear_among group word count ++ (16 * group + count) ∷ []
clear_among-clear group word count clear = rw (clear_among-more group word count, clear) refl

-- one whose taken bit is set isn't
pub clear_among-taken : (group word count : ℕ) → is_clear word (16 * group + count) ≡ false
    → clear_among group word (count + 1) ≡ clear_among group word count
clear_among-taken group word count taken = rw (clear_among-more group word count, taken) (append-nil _)

pub clear_among-zero : (group word : ℕ) → clear_among group word 0 ≡ []
unfolding clear_among
clear_among-zero group word = refl

-- they are no more than the fragments that were looked at
pub length-clear_among : (group word count : ℕ) → length (clear_among group word count) ≤ count
unfolding clear_among
length-clear_among group word count =
    omega (arith, length-filter_le (is_clear word) (range_with_len (16 * group) count), length-range_with_len (16 * group) count)
