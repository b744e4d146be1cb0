-- Two numbers less than one turn of a ring apart.
use Rattle.std.proofs.Common.{◌≡◌, ℕ, suc, ◌+◌, ◌*◌, ◌/◌, ◌%◌, ◌<◌, ◌≤◌, inl, inr, mul-le-mul_right, suc-mul, div-add-mod', arith}
use Rattle.std.proofs.lemmas.Bool.Decides.{leb_tells}

-- where they leave the same remainder they are the same
pub same_remainder_same_turn : (a b n : ℕ) → a ≤ b → b < a + n → a % n ≡ b % n → a ≡ b
same_remainder_same_turn a b n le lt same =
    let whole_a = div-add-mod' a n in
    let whole_b = div-add-mod' b n in
    elim (leb_tells (b / n) (a / n)) as (λ _. a ≡ b) [
      | inl few ↦ near (a / n * n) (b / n * n) whole_a whole_b (mul-le-mul_right n few.1)
      | inr more ↦
          let further : suc (a / n) * n ≤ b / n * n = mul-le-mul_right n (omega (arith, more.1)) in
          absurd (far (a / n * n) (b / n * n) whole_a whole_b (omega (arith, suc-mul (a / n) n, further)))
    ]
  where
    near : (x y : ℕ) → x + a % n ≡ a → y + b % n ≡ b → y ≤ x → a ≡ b
    near x y p q below = let r : a % n ≡ b % n = same in omega (arith, le, p, q, r)

    far : (x y : ℕ) → x + a % n ≡ a → y + b % n ≡ b → x + n ≤ y → ⊥
    far x y p q above = let r : a % n ≡ b % n = same in omega (arith, lt, p, q, r)
