-- Sums over all numbers below one.
use Rattle.std.proofs.Common.{◌≡◌, ℕ, zero, suc, ◌+◌, ◌*◌, ◌<◌, ◌≤◌, ◌-◌, ◌%◌, refl, ap, subst, arith}
use Rattle.core_rule.proofs.Terms.{sum_upto}
use Rattle.core_machine.proofs.table_lemmas.Free.{sum_of_same_functions, sum_upto-none}

-- a sum of one more
pub sum-suc : (n : ℕ) (f : ℕ → ℕ) → sum_upto (suc n) f ≡ sum_upto n f + f n
unfolding sum_upto
sum-suc n f = refl

-- sums of numbers that are no more
pub sum_le : (n : ℕ) (f g : ℕ → ℕ) → ((i : ℕ) → i < n → f i ≤ g i) → sum_upto n f ≤ sum_upto n g
sum_le zero f g less = rw (sum_upto-none f, sum_upto-none g) (omega arith)
sum_le (suc n) f g less =
    let rest : sum_upto n f ≤ sum_upto n g = sum_le n f g (λ i below. less i (omega arith)) in
    let last : f n ≤ g n = less n (omega arith) in
    rw (sum-suc n f, sum-suc n g) (omega arith)

-- a sum of sums
pub sum_plus : (n : ℕ) (f g h : ℕ → ℕ) → ((i : ℕ) → i < n → f i ≡ g i + h i) → sum_upto n f ≡ sum_upto n g + sum_upto n h
sum_plus zero f g h same = rw (sum_upto-none f, sum_upto-none g, sum_upto-none h) refl
sum_plus (suc n) f g h same =
    let rest : sum_upto n f ≡ sum_upto n g + sum_upto n h = sum_plus n f g h (λ i below. same i (omega arith)) in
    let last : f n ≡ g n + h n = same n (omega arith) in
    rw (sum-suc n f, sum-suc n g, sum-suc n h) (omega arith)

-- a sum in two summands
pub sum_in_two_summands : (a b : ℕ) (f : ℕ → ℕ) → sum_upto (a + b) f ≡ sum_upto a f + sum_upto b (λ i. f (a + i))
sum_in_two_summands a zero f =
    let none : a + 0 ≡ a = omega arith in
    rw (none, sum_upto-none (λ i. f (a + i))) (omega arith)
sum_in_two_summands a (suc b) f =
    let rest : sum_upto (a + b) f ≡ sum_upto a f + sum_upto b (λ i. f (a + i)) = sum_in_two_summands a b f in
    let one : a + suc b ≡ suc (a + b) = omega arith in
    rw (one, sum-suc (a + b) f, sum-suc b (λ i. f (a + i))) (omega arith)

-- a sum of ones
pub sum_ones : (n : ℕ) (f : ℕ → ℕ) → ((i : ℕ) → i < n → f i ≡ 1) → sum_upto n f ≡ n
sum_ones zero f one = sum_upto-none f
sum_ones (suc n) f one =
    let rest : sum_upto n f ≡ n = sum_ones n f (λ i below. one i (omega arith)) in
    let last : f n ≡ 1 = one n (omega arith) in
    rw (sum-suc n f) (omega arith)

-- a sum over blocks of one size
pub sum_blocks : (size n : ℕ) (f : ℕ → ℕ) → sum_upto n (λ i. sum_upto size (λ j. f (size * i + j))) ≡ sum_upto (size * n) f
sum_blocks size zero f =
    let none : size * 0 ≡ 0 = omega arith in
    rw (none, sum_upto-none f, sum_upto-none (λ i. sum_upto size (λ j. f (size * i + j)))) refl
sum_blocks size (suc n) f =
    let rest = sum_blocks size n f in
    let more : size * suc n ≡ size * n + size = grind arith in
    rw (more, sum_in_two_summands (size * n) size f, sum-suc n (λ i. sum_upto size (λ j. f (size * i + j))), rest) refl

-- a sum that begins at c and wraps
pub sum_wrapped : (n c : ℕ) (f : ℕ → ℕ) → c < n → sum_upto n (λ j. f ((c + j) % n)) ≡ sum_upto n f
sum_wrapped n c f within =
    let whole : c + (n - c) ≡ n = omega (arith, within) in
    let turned : (n - c) + c ≡ n = omega (arith, within) in
    let summands : sum_upto (c + (n - c)) f ≡ sum_upto c f + sum_upto (n - c) (λ i. f (c + i)) = sum_in_two_summands c (n - c) f in
    let wrapped : sum_upto ((n - c) + c) (λ j. f ((c + j) % n)) ≡ sum_upto (n - c) (λ j. f ((c + j) % n)) + sum_upto c (λ i. f ((c + ((n - c) + i)) % n))
    = sum_in_two_summands (n - c) c (λ j. f ((c + j) % n)) in
    let first : sum_upto (n - c) (λ j. f ((c + j) % n)) ≡ sum_upto (n - c) (λ i. f (c + i))
    = sum_of_same_functions (n - c) (λ j. f ((c + j) % n)) (λ i. f (c + i)) (λ j below. ap f (mod_below (c + j) n (omega (arith, below, within)))) in
    let second : sum_upto c (λ i. f ((c + ((n - c) + i)) % n)) ≡ sum_upto c f
    = sum_of_same_functions c (λ i. f ((c + ((n - c) + i)) % n)) f (λ i below. ap f (mod_past i n (c + ((n - c) + i)) (omega (arith, within)) (omega (arith, below, within)))) in
    let left : sum_upto n (λ j. f ((c + j) % n)) ≡ sum_upto (n - c) (λ i. f (c + i)) + sum_upto c f
    = subst (λ m. sum_upto m (λ j. f ((c + j) % n)) ≡ sum_upto (n - c) (λ i. f (c + i)) + sum_upto c f) turned (omega (arith, wrapped, first, second)) in
    let right : sum_upto n f ≡ sum_upto c f + sum_upto (n - c) (λ i. f (c + i))
    = subst (λ m. sum_upto m f ≡ sum_upto c f + sum_upto (n - c) (λ i. f (c + i))) whole summands in
    omega (arith, left, right)
  where
    mod_below : (a m : ℕ) → a < m → a % m ≡ a
    mod_below a m below = grind (arith, below)

    mod_past : (i m a : ℕ) → a ≡ m + i → i < m → a % m ≡ i
    mod_past i m a e below = grind (arith, e, below)
