-- The two parts of a word.
use Rattle.std.proofs.Common.{◌≡◌, ◌==◌, ℕ, ◌<◌, List, [], ◌∷◌, ◌++◌, length, Some, None, refl, sym, ap, ◌∙◌, arith}
use Rattle.std.specs.List.{slice_split, join_with_byte}
use Rattle.std.proofs.lemmas.List.Splits.{length-slice_split, join_with_byte-slice_split}
use Rattle.reply_text.specs.read.Tokens.{pair_of, word_parts}

pair_of-Some : (parts : List (List ℕ)) (first second : List ℕ) → pair_of parts ≡ Some (first, second) → parts ≡ first ∷ second ∷ []
pair_of-Some [] first second e = cc
pair_of-Some (a ∷ []) first second e = cc
pair_of-Some (a ∷ b ∷ []) first second e =
    let same : ◌≡◌ {A = List ℕ × List ℕ} (a, b) (first, second) = cc in
    ap (λ (p : List ℕ × List ℕ). p.0 ∷ p.1 ∷ []) same
pair_of-Some (a ∷ b ∷ c ∷ more) first second e = cc

-- a word of two parts is these, with the mark between them
pub parted_word_is_joined : (mark : ℕ) (word first second : List ℕ) → word_parts mark word ≡ Some (first, second) → word ≡ first ++ mark ∷ second
parted_word_is_joined mark word first second e =
    sym (join_with_byte-slice_split mark word) ∙ ap (join_with_byte mark) (pair_of-Some (slice_split (λ b. b == mark) word) first second e)

pair_of-more : (first second : List ℕ) (more : List (List ℕ)) → 0 < length more → pair_of (first ∷ second ∷ more) ≡ None
pair_of-more first second [] some = absurd (omega arith)
pair_of-more first second (part ∷ more) some = refl

-- a word of three parts or more isn't one of two
pub many_parts_are_not_two : (mark : ℕ) (word first rest second more : List ℕ) → slice_split (λ b. b == mark) word ≡ first ∷ slice_split (λ b. b == mark) rest →
    slice_split (λ b. b == mark) rest ≡ second ∷ slice_split (λ b. b == mark) more → word_parts mark word ≡ None
many_parts_are_not_two mark word first rest second more e f =
    rw (e, f) (pair_of-more first second (slice_split (λ b. b == mark) more) (omega (arith, length-slice_split (λ b. b == mark) more)))
