-- Tests.
use Rattle.std.proofs.Common.{◌≡◌, ◌⊎◌, Bool, true, false, inl, inr, refl}

-- a test is true or false
pub true_or_false : (b : Bool) → (b ≡ true) ⊎ (b ≡ false)
true_or_false true = inl refl
true_or_false false = inr refl
