-- Components of a word that are put side by side by `|`, and single bits of sixteen.
use Rattle.std.proofs.Common.{◌≡◌, ℕ, ◌+◌, ◌*◌, ◌/◌, ◌%◌, ◌^◌, ◌<◌, bit_and, bit_or, refl, arith}
use Rattle.std.specs.Int.{bit_at}
use Rattle.std.proofs.lemmas.Nat.{one_shl, or_shifted, shl_whole}
use Rattle.std.proofs.lemmas.Nat.Bits.{shr_and_one}
use Rattle.heap_words.specs.Control.{taken_at}

-- below a multiple of 2^k there is room for k bits
or_above : (a n k b : ℕ) → a ≡ n * 2 ^ k → b < 2 ^ k → bit_or a b ≡ a + b
or_above a n k b e l = rw e (or_shifted n k b l)

-- the three components of a cell
pub cell_components : (k v s : ℕ) → v < 2 ^ 30 → s < 2 ^ 32
    → bit_or (bit_or (k * 2 ^ 62) (v * 2 ^ 32 % 2 ^ 64)) s ≡ k * 2 ^ 62 + v * 2 ^ 32 + s
cell_components k v s p q = rw (
  shl_whole v 30 32 64 p (omega arith),
  or_above (k * 2 ^ 62) k 62 (v * 2 ^ 32) refl (omega arith),
  or_above (k * 2 ^ 62 + v * 2 ^ 32) (k * 2 ^ 30 + v) 32 s (omega arith) q,
)

-- the four masks of a group
pub group_masks : (t b m s : ℕ) → t < 2 ^ 16 → b < 2 ^ 16 → m < 2 ^ 16 → s < 2 ^ 16
    → bit_or (bit_or (bit_or (s * 2 ^ 48 % 2 ^ 64) (m * 2 ^ 32 % 2 ^ 64)) (b * 2 ^ 16 % 2 ^ 64)) t
    ≡ s * 2 ^ 48 + m * 2 ^ 32 + b * 2 ^ 16 + t
group_masks t b m s p q r u = rw (
  shl_whole s 16 48 64 u (omega arith),
  shl_whole m 16 32 64 r (omega arith),
  shl_whole b 16 16 64 q (omega arith),
  or_above (s * 2 ^ 48) s 48 (m * 2 ^ 32) refl (omega arith),
  or_above (s * 2 ^ 48 + m * 2 ^ 32) (s * 2 ^ 16 + m) 32 (b * 2 ^ 16) (omega arith) (omega arith),
  or_above (s * 2 ^ 48 + m * 2 ^ 32 + b * 2 ^ 16) (s * 2 ^ 32 + m * 2 ^ 16 + b) 16 t (omega arith) p,
)

-- a bit below the sixteenth, shifted within sixteen bits
pub position_shift : (k : ℕ) → 1 * 2 ^ (k % 16) % 2 ^ 16 ≡ 2 ^ (k % 16)
position_shift k = one_shl (k % 16) 16 (omega arith)

-- a bit below the sixteenth, tested
pub position_test : (word k : ℕ) → bit_and (word / 2 ^ (k % 16)) 1 ≡ bit_at word (taken_at k)
position_test word k = shr_and_one word (k % 16)
