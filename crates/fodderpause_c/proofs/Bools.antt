-- Two tests that come out true together are the same.
use Rattle.std.proofs.Common.{◌≡◌, ◌↔◌, Bool, true, false, refl, sym}

pub same_bool : (a b : Bool) → (a ≡ true) ↔ (b ≡ true) → a ≡ b
same_bool true true both = refl
same_bool true false both = sym (both.0 refl)
same_bool false true both = both.1 refl
same_bool false false both = refl
