-- Words that are no numbers of a range.
use Rattle.std.proofs.Common.{◌≡◌, ℕ, ◌<◌, ◌≤◌, ◌^◌, List, Option, Some, None, decimal, ap, ◌∙◌, arith}
use Rattle.script_text.specs.Numbers.{number_below}
use Rattle.script_text.proofs.Numbers.{number_below-decimal}

-- what is no number is none of a range
pub no_number_is_not_within : (word : List ℕ) (found : Option ℕ) (least most : ℕ) → most < 2 ^ 32 → found ≡ number_below (2 ^ 64) word → found ≡ None → (n : ℕ) → word ≡ decimal n → least ≤ n → n ≤ most → ⊥
no_number_is_not_within word found least most small told none n spelled above below =
    let is : number_below (2 ^ 64) word ≡ Some n = ap (number_below (2 ^ 64)) spelled ∙ number_below-decimal (2 ^ 64) n (omega arith) (omega arith) in
    cc

-- nor is one that is outside
pub outside_is_not_within : (word : List ℕ) (number least most : ℕ) → most < 2 ^ 32 → Some number ≡ number_below (2 ^ 64) word → (least ≤ number → number ≤ most → ⊥) → (n : ℕ) → word ≡ decimal n → least ≤ n → n ≤ most → ⊥
outside_is_not_within word number least most small told out n spelled above below =
    let is : number_below (2 ^ 64) word ≡ Some n = ap (number_below (2 ^ 64)) spelled ∙ number_below-decimal (2 ^ 64) n (omega arith) (omega arith) in
    let same : number ≡ n = cc in
    out (omega arith) (omega arith)
