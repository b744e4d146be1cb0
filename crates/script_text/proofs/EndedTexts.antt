-- A text is what is written of its lines, but for a line feed at its end.
use Rattle.std.proofs.Common.{◌≡◌, ◌==◌, ℕ, ◌+◌, ◌<◌, ◌≤◌, inl, inr, List, [], ◌∷◌, ◌++◌, length, codes, refl, subst, Bool, true, false, cond, ap, arith, length-append}
use Rattle.std.specs.List.{onto_first, slice_split}
use Rattle.std.proofs.lemmas.Bool.{eqb-true}
use Rattle.std.proofs.lemmas.List.Splits.{length-slice_split}
use Rattle.script_text.specs.Migration.{IsEnded, lines_in_second}
use Rattle.script_text.specs.Text.{lines_of, text_of}
use Rattle.script_text.proofs.TextLemmas.{without_empty_last-step}

-- a byte more in front of a text begins a line more, or goes in front of the first
lines_of-step : (x : ℕ) (xs : List ℕ) → lines_of (x ∷ xs) ≡ cond (x == 10) ([] ∷ lines_of xs) (onto_first x (lines_of xs))
lines_of-step x xs =
    let some : 0 < length (slice_split (λ b. b == 10) xs) = omega (arith, length-slice_split (λ b. b == 10) xs) in
    without_empty_last-step x (slice_split (λ b. b == 10) xs) (lines_of xs) (x == 10) some refl

ended_more : (x : ℕ) (xs written : List ℕ) → IsEnded xs written → IsEnded (x ∷ xs) (x ∷ written)
ended_more x xs written (inl same) = inl (ap (λ bs. x ∷ bs) same)
ended_more x xs written (inr more) = inr (ap (λ bs. x ∷ bs) more)

onto_first_ends : (x : ℕ) (xs : List ℕ) (lines : List (List ℕ)) → IsEnded xs (text_of lines) → IsEnded (x ∷ xs) (text_of (onto_first x lines))
onto_first_ends x [] [] ended = inr refl
onto_first_ends x (y ∷ ys) [] (inl same) = absurd (cc)
onto_first_ends x (y ∷ ys) [] (inr more) = absurd (cc)
onto_first_ends x xs (line ∷ lines) ended = ended_more x xs (text_of (line ∷ lines)) ended

-- one byte more in front
ended_with : (x : ℕ) (xs : List ℕ) (b : Bool) → (x == 10) ≡ b → IsEnded xs (text_of (lines_of xs)) → IsEnded (x ∷ xs) (text_of (cond b ([] ∷ lines_of xs) (onto_first x (lines_of xs))))
ended_with x xs true feed ended = rw (eqb-true x 10 feed) (ended_more 10 xs (text_of (lines_of xs)) ended)
ended_with x xs false other ended = onto_first_ends x xs (lines_of xs) ended

pub text_of_lines_is_ended : (text : List ℕ) → IsEnded text (text_of (lines_of text))
text_of_lines_is_ended [] = inl refl
text_of_lines_is_ended (x ∷ xs) = rw (lines_of-step x xs) (ended_with x xs (x == 10) refl (text_of_lines_is_ended xs))

-- so it is one byte longer at most
ended_is_short : (text ended : List ℕ) → IsEnded text ended → length ended ≤ length text + 1
ended_is_short text ended (inl same) = omega (arith, ap (length {A = ℕ}) same)
ended_is_short text ended (inr more) = omega (arith, ap (length {A = ℕ}) more, length-append text (10 ∷ []))

-- and in version 2, with a first line that is as long, four bytes longer
pub second_is_short : (header first heap : List ℕ) (more : List (List ℕ)) (version : ℕ) (text : List ℕ) → lines_of text ≡ first ∷ heap ∷ more → length header ≡ length first →
    length (text_of (lines_in_second header version (first ∷ heap ∷ more))) ≤ length text + 4
second_is_short header first heap more version text is same = by (version == 2) where
  whole : length (text_of (first ∷ heap ∷ more)) ≤ length text + 1
  whole = subst (λ (ls : List (List ℕ)). length (text_of ls) ≤ length text + 1) is (ended_is_short text (text_of (lines_of text)) (text_of_lines_is_ended text))

  counted : (one two : List ℕ) → length (text_of (one ∷ two ∷ more)) ≡ length one + (length two + (length (text_of more) + 2))
  counted one two =
      omega (arith, length-append (one ++ 10 ∷ []) (text_of (two ∷ more)), length-append one (10 ∷ []), length-append (two ++ 10 ∷ []) (text_of more), length-append two (10 ∷ []))

  by : (b : Bool) → length (text_of (header ∷ cond b heap (heap ++ codes " 32") ∷ more)) ≤ length text + 4
  by true = omega (arith, whole, counted header heap, counted first heap, same)
  by false = omega (arith, whole, counted header (heap ++ codes " 32"), counted first heap, same, length-append heap (codes " 32"))
