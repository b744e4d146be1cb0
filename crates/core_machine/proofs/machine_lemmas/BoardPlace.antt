-- The board stands in the first fragments of group 0, one to sixteen.
use Rattle.std.proofs.Common.{◌≡◌, ℕ, suc, ◌+◌, ◌-◌, ◌*◌, ◌/◌, ◌<◌, ◌≤◌, ◌^◌, take, sym, ap, ◌∙◌, arith}
use Rattle.std.specs.List.{range_with_len, All}
use Rattle.std.proofs.lemmas.List.{map-id}
use Rattle.std.proofs.lemmas.List.Elements.{All-nil, All-cons}
use Rattle.std.proofs.lemmas.List.FromFn.{take-map-range_with_len}
use Rattle.std.proofs.lemmas.Nat.Bits.{ones_shr}
use Rattle.std.proofs.Math.Pow.{pow_mono}
use Rattle.heap_model.specs.Board.{board_fragments}
use Rattle.core_machine.proofs.Terms.{Heap, IsHeap, AreFragments}
use Rattle.core_machine.specs.machine.Opening.{board, board_bits}

-- the first of the numbers from 0 on
pub take-range_with_len : (count n : ℕ) → n ≤ count → take n (range_with_len 0 count) ≡ range_with_len 0 n
take-range_with_len count n few = ap (take n) (sym (map-id (range_with_len 0 count))) ∙ take-map-range_with_len (λ (i : ℕ). i) 0 count n few ∙ map-id (range_with_len 0 n)

-- the lowest bits of sixteen
pub shifted_ones_are_lowest_bits : (n : ℕ) → n ≤ 16 → 65535 / 2 ^ (16 - n) ≡ 2 ^ n - 1
shifted_ones_are_lowest_bits n few =
    let rest : 16 - (16 - n) ≡ n = omega arith in
    ones_shr 16 (16 - n) (omega arith) ∙ ap (λ (k : ℕ). 2 ^ k - 1) rest

-- the board's bits are those of one group
pub board_bits_fit_group : (heap : Heap) → IsHeap heap → board_bits heap < 2 ^ 16
board_bits_fit_group heap limits =
    let most : 2 ^ board_fragments heap ≤ 2 ^ 16 = pow_mono {i = board_fragments heap} {j = 16} (omega (arith, limits.board_fits)) in
    omega (arith, most)

-- the board's fragments are the heap's
pub board_within : (heap : Heap) → IsHeap heap → AreFragments heap (board heap)
board_within heap limits = list (board_fragments heap) 0 (omega (arith, limits.board_fits)) where
  list : (n from : ℕ) → from + n ≤ 16 → All (λ fragment. fragment < 16 * heap.groups) (range_with_len from n)
  list Prim.Native.Nat.zero from few = All-nil (λ fragment. fragment < 16 * heap.groups)
  list (suc n) from few = All-cons (λ fragment. fragment < 16 * heap.groups) from (range_with_len (from + 1) n) (omega arith) (list n (from + 1) (omega arith))
