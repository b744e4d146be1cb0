-- The words of a sentence, one after the other.
use Rattle.std.proofs.Common.{◌≡◌, ℕ, List, [], ◌∷◌, ◌++◌, sym, ap}
use Rattle.std.proofs.lemmas.List.{append-nil}
use Rattle.script_text.specs.Text.{sentence, words_with_spaces}

-- a sentence is its first word, and each other word after a space
pub sentence-cons : (word : List ℕ) (words : List (List ℕ)) → sentence (word ∷ words) ≡ word ++ words_with_spaces words
sentence-cons word [] = sym (append-nil word)
sentence-cons word (next ∷ words) = ap (λ (rest : List ℕ). word ++ 32 ∷ rest) (sentence-cons next words)
