-- A number below one limit, and below a lower one.
use Rattle.std.proofs.Common.{◌≡◌, ℕ, ◌<◌, ◌≤◌, ◌^◌, List, Some, None, arith}
use Rattle.script_text.specs.Numbers.{number_below}
use Rattle.script_text.proofs.Numbers.{number_below-decimal, number_below-Some, number_below-None}

-- what is no number below the higher limit is none below the lower
pub number_below-lower_None : (low high : ℕ) (word : List ℕ) → low ≤ high → high ≤ 2 ^ 64 → number_below high word ≡ None → number_below low word ≡ None
number_below-lower_None low high word less fits none = number_below-None low word (λ n small e.
    let read : number_below high word ≡ Some n = rw e (number_below-decimal high n fits (omega arith)) in
    cc)

-- a number below both is the same number
pub number_below-lower_Some : (low high n : ℕ) (word : List ℕ) → low ≤ 2 ^ 64 → number_below high word ≡ Some n → n < low → number_below low word ≡ Some n
number_below-lower_Some low high n word fits read small = rw (number_below-Some high n word read).0 (number_below-decimal low n fits small)

-- and one that isn't below the lower is none there
pub number_below-past : (low high n : ℕ) (word : List ℕ) → high ≤ 2 ^ 64 → number_below high word ≡ Some n → low ≤ n → number_below low word ≡ None
number_below-past low high n word fits read large = number_below-None low word (λ m small e.
    let other : number_below high word ≡ Some m = rw e (number_below-decimal high m fits (let below = (number_below-Some high n word read).1 in omega arith)) in
    let same : n ≡ m = cc in
    omega arith)
