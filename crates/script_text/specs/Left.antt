-- What is left while a text is read.
use Rattle.std.specs.Prelude.{ℕ, List, [], Option, Some, None}

-- the parts of what is left, if anything is
abbrev pub parts_left : (List ℕ → List (List ℕ)) → Option (List ℕ) → List (List ℕ)
parts_left parts None = []
parts_left parts (Some rest) = parts rest
