-- What a call holds of fragments, and how one buffer has both the hand and the body.
use Rattle.std.specs.Prelude.{ℕ, List, [], take, Option, Some, None}

-- the fragments that are claimed and not borne, and those of the object that is made
pub record HandAndBody : Type 0 where
  pub hand : List ℕ
  pub body : List ℕ

-- all that is held is the hand, or, once it is an object's, the first of it
abbrev pub hand_of : List ℕ → Option ℕ → List ℕ
hand_of held None = held
hand_of held (Some unborn) = take unborn held

-- what is held is an object's, or nothing is yet
abbrev pub body_of : List ℕ → Option ℕ → List ℕ
body_of held None = []
body_of held (Some unborn) = held
