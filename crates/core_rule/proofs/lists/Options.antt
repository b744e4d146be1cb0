-- What holds of the value that an option may have.
use Rattle.std.specs.Prelude.{unwrap_or}
use Rattle.std.proofs.Common.{◌≡◌, ℕ, Option, Some, None, IfSome, refl, subst}

-- what holds of some value goes on to hold
pub if_some_goes_on : {A : Type 0} (P Q : A → Type 0) → ((a : A) → P a → Q a) → (o : Option A) → IfSome o P → IfSome o Q
if_some_goes_on P Q more None holds = tt
if_some_goes_on P Q more (Some a) holds = more a holds

-- an option's value has what holds of it
pub holds_of_some : {A : Type 0} (P : A → Type 0) (o : Option A) (a : A) → o ≡ Some a → IfSome o P → P a
holds_of_some P None a is holds = cc
holds_of_some P (Some b) a is holds = let same : b ≡ a = cc in subst P same holds

-- what holds of the option's value, if it is the one
pub if_some_of_the_one : {A : Type 0} (P : A → Type 0) (o : Option A) (a : A) → o ≡ Some a → P a → IfSome o P
if_some_of_the_one P None a is holds = tt
if_some_of_the_one P (Some b) a is holds = let same : a ≡ b = cc in subst P same holds

pub if_some_of_none : {A : Type 0} (P : A → Type 0) (o : Option A) → o ≡ None → IfSome o P
if_some_of_none P None is = tt
if_some_of_none P (Some b) is = cc

-- what holds of whatever value the option has
pub if_some_of_all : {A : Type 0} (P : A → Type 0) (o : Option A) → ((a : A) → o ≡ Some a → P a) → IfSome o P
if_some_of_all P None each = tt
if_some_of_all P (Some a) each = each a refl

-- the number that an option holds
pub unwrapped_some_is_value : (o : Option ℕ) (x : ℕ) → o ≡ Some x → unwrap_or o 0 ≡ x
unwrapped_some_is_value None x is = cc
unwrapped_some_is_value (Some y) x is = cc
