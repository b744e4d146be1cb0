-- What writes do to the bytes that a sink has taken, where it tells them.
use Rattle.std.specs.Prelude.{◌≡◌, ℕ, ◌<◌, ◌≤◌, List, ◌++◌, length, take, Option, None, Some, ⊤}

-- these bytes were appended; a sink may stop telling what it took, and then tells nothing again
abbrev pub Takes : Option (List ℕ) → Option (List ℕ) → List ℕ → Type 0
Takes old None bytes = ⊤
Takes None (Some new) bytes = ⊥
Takes (Some old) (Some new) bytes = new ≡ old ++ bytes

-- the first n bytes of the piece were appended, and at least one if it has any
pub record TakesSome (old new : Option (List ℕ)) (piece : List ℕ) (n : ℕ) : Type 0 where
  pub within : n ≤ length piece
  pub moves : 0 < length piece → 0 < n
  pub next : Takes old new (take n piece)

-- the bytes in front of the rest were appended
pub record TakesUpTo (old new : Option (List ℕ)) (bytes rest : List ℕ) : Type 0 where
  pub front : List ℕ
  pub parts : front ++ rest ≡ bytes
  pub next : Takes old new front

-- a front of the bytes was appended
abbrev pub TakesFront : Option (List ℕ) → Option (List ℕ) → List ℕ → Type 0
TakesFront old new bytes = (rest : List ℕ) × TakesUpTo old new bytes rest
