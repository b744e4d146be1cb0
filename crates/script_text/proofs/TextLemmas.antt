-- The lines of a text, one after the other.
use Rattle.std.proofs.Common.{◌≡◌, ◌≢◌, ◌==◌, ℕ, ◌<◌, List, [], ◌∷◌, ◌++◌, length, Option, Some, None, MatchOption, IfSome, unwrap_or, codes, refl, sym, append_assoc, Bool, true, false, cond, ap, ◌∙◌, arith, Bor}
use Rattle.std.specs.List.{All, AllByRecursion, slice_split, onto_first, join_with_byte}
use Rattle.std.proofs.lemmas.Grind.{common_steps}
use Rattle.std.proofs.lemmas.List.Splits.{length-slice_split, slice_split_at, join_with_byte-slice_split}
use Rattle.heap_model.specs.declared.heap.Heap.{Heap}
use Rattle.script_text.specs.Text.{lines_of, without_empty_last, words_of, sentence, text_of}
use Rattle.script_text.specs.Words.{heap_words, heap_line}
use Rattle.script_text.proofs.Tokens.{IsAbove, IsAbove-lower, bytes_above_have_no_mark}

-- what is left after a line that more parts follow
without_empty_last-more : (line : List ℕ) (parts : List (List ℕ)) → 0 < length parts → without_empty_last (line ∷ parts) ≡ line ∷ without_empty_last parts
without_empty_last-more line [] h = absurd (omega arith)
without_empty_last-more line (part ∷ parts) h = refl

-- with one more byte in front, the parts but for an empty last one have that byte in front too
pub without_empty_last-step : (x : ℕ) (parts kept : List (List ℕ)) (b : Bool) → 0 < length parts → without_empty_last parts ≡ kept →
    without_empty_last (cond b ([] ∷ parts) (onto_first x parts)) ≡ cond b ([] ∷ kept) (onto_first x kept)
without_empty_last-step x parts kept true some e = rw (without_empty_last-more [] parts some) (ap (λ ps. [] ∷ ps) e)
without_empty_last-step x [] kept false some e = absurd (omega arith)
without_empty_last-step x ([] ∷ []) kept false some e = rw (← e) refl
without_empty_last-step x ((c ∷ cs) ∷ []) kept false some e = rw (← e) refl
without_empty_last-step x (part ∷ next ∷ more) kept false some e = rw (← e) refl

-- where a line feed ends the text, the lines are the parts before it
lines_of-ended : (front : List ℕ) → lines_of (front ++ 10 ∷ []) ≡ slice_split (λ b. b == 10) front
lines_of-ended [] = refl
lines_of-ended (x ∷ xs) =
    let some : 0 < length (slice_split (λ b. b == 10) (xs ++ 10 ∷ [])) = omega (arith, length-slice_split (λ b. b == 10) (xs ++ 10 ∷ [])) in
    without_empty_last-step x (slice_split (λ b. b == 10) (xs ++ 10 ∷ [])) (slice_split (λ b. b == 10) xs) (x == 10) some (lines_of-ended xs)

-- and where none does, all parts
lines_of-unended : (text : List ℕ) → 0 < length text → ((front : List ℕ) → text ≢ front ++ 10 ∷ []) → lines_of text ≡ slice_split (λ b. b == 10) text
lines_of-unended [] some unended = absurd (omega arith)
lines_of-unended (x ∷ []) some unended =
    let other : (x == 10) ≡ false = grind (arith, common_steps, unended []) in rw other refl
lines_of-unended (x ∷ y ∷ ys) some unended =
    let parts : 0 < length (slice_split (λ b. b == 10) (y ∷ ys)) = omega (arith, length-slice_split (λ b. b == 10) (y ∷ ys)) in
    let rest = lines_of-unended (y ∷ ys) (omega arith) (λ front e. unended (x ∷ front) (ap (λ bs. x ∷ bs) e)) in
    without_empty_last-step x (slice_split (λ b. b == 10) (y ∷ ys)) (slice_split (λ b. b == 10) (y ∷ ys)) (x == 10) parts rest

-- the lines of a text are the parts of what is left where a line feed at its end is taken off
pub lines_of-stripped : (text : Bor (List ℕ)) (front : Option (Bor (List ℕ))) → 0 < length text.now →
    MatchOption front ((before : List ℕ) → text.now ≢ before ++ 10 ∷ []) (λ before. text.now ≡ before.now ++ 10 ∷ []) →
    lines_of text.now ≡ slice_split (λ b. b == 10) (unwrap_or front text).now
lines_of-stripped text None some unended = lines_of-unended text.now some unended
lines_of-stripped text (Some before) some e = rw e (lines_of-ended before.now)

-- a line is the sentence of its words
pub sentence-words_of : (line : List ℕ) (words : List (List ℕ)) → words_of line ≡ words → line ≡ sentence words
sentence-words_of line words e = sym (join_with_byte-slice_split 32 line) ∙ ap (join_with_byte 32) e

-- so a line with the words of a heap line is that line
pub heap_line-words_of : (line : List ℕ) (version : ℕ) (heap : Option Heap) → IfSome heap (λ h. words_of line ≡ codes "heap" ∷ heap_words (record { version = version; heap = h })) →
    IfSome heap (λ h. line ≡ heap_line (record { version = version; heap = h }))
heap_line-words_of line version None e = tt
heap_line-words_of line version (Some heap) e = sentence-words_of line (codes "heap" ∷ heap_words (record { version = version; heap = heap })) e

-- lines without a line feed in them are the lines of their text
pub lines_of-text_of : (lines : List (List ℕ)) → AllByRecursion (IsAbove 31) lines → lines_of (text_of lines) ≡ lines
lines_of-text_of [] f = refl
lines_of-text_of (line ∷ lines) f =
    let apart : All (λ b. (b == 10) ≡ false) line = bytes_above_have_no_mark 10 line (IsAbove-lower 10 31 line (omega arith) f.0) in
    let some : 0 < length (slice_split (λ b. b == 10) (text_of lines)) = omega (arith, length-slice_split (λ b. b == 10) (text_of lines)) in
    rw (
      append_assoc line (10 ∷ []) (text_of lines),
      slice_split_at (λ b. b == 10) line 10 (text_of lines) apart refl,
      without_empty_last-more line (slice_split (λ b. b == 10) (text_of lines)) some,
      lines_of-text_of lines f.1,
    ) refl
