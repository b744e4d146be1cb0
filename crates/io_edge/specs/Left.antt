-- What reads do to the bytes that are left in a source, where it tells them.
use Rattle.std.specs.Prelude.{◌≡◌, ℕ, ◌<◌, ◌≤◌, List, [], length, take, Option, None, Some, ⊤}
use Rattle.std.specs.Io.KnownBytes.{Consumes, IsAtEnd}

-- the first n of these bytes are the next that were left; n is 0 only at the end or without room
pub record Gives (old new : Option (List ℕ)) (into : List ℕ) (n : ℕ) : Type 0 where
  pub within : n ≤ length into
  pub next : Consumes old new (take n into)
  pub end : n ≡ 0 → 0 < length into → IsAtEnd new

-- these bytes are all that were left, and now none is
abbrev pub GivesAll : Option (List ℕ) → Option (List ℕ) → List ℕ → Type 0
GivesAll None new bytes = ⊤
GivesAll (Some left) new bytes = (bytes ≡ left) × (new ≡ Some [])

-- the next n bytes that were left are gone
abbrev pub LosesNext : Option (List ℕ) → Option (List ℕ) → ℕ → Type 0
LosesNext old new n = (bytes : List ℕ) × Consumes old new bytes × (length bytes ≡ n)

-- at most so many of the next bytes that were left are gone
abbrev pub LosesUpTo : Option (List ℕ) → Option (List ℕ) → ℕ → Type 0
LosesUpTo old new most = (n : ℕ) × (n ≤ most) × LosesNext old new n
