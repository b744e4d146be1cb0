-- Lines and words of a text.
use Rattle.std.specs.Prelude.{ℕ, ◌==◌, List, [], ◌∷◌, ◌++◌}
use Rattle.std.specs.List.{flat_map, join_with_byte, slice_split}

-- the parts, but for a last one that is empty
abbrev pub without_empty_last : List (List ℕ) → List (List ℕ)
without_empty_last [] = []
without_empty_last (x ∷ y ∷ more) = x ∷ without_empty_last (y ∷ more)
without_empty_last ([] ∷ []) = []
without_empty_last ((b ∷ bs) ∷ []) = (b ∷ bs) ∷ []

-- the lines of a text: each ends with a line feed, which the last may lack
abbrev pub lines_of : List ℕ → List (List ℕ)
lines_of text = without_empty_last (slice_split (λ b. b == 10) text)

-- the words of a line: it is split at every space
abbrev pub words_of : List ℕ → List (List ℕ)
words_of line = slice_split (λ b. b == 32) line

-- the words with one space between two
abbrev pub sentence : List (List ℕ) → List ℕ
sentence words = join_with_byte 32 words

-- the words, each after a space
abbrev pub words_with_spaces : List (List ℕ) → List ℕ
words_with_spaces words = flat_map (λ word. 32 ∷ word) words

-- the lines, each with a line feed after it
abbrev pub text_of : List (List ℕ) → List ℕ
text_of lines = flat_map (λ line. line ++ 10 ∷ []) lines
