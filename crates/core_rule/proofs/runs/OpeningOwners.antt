-- Whose the fragments are when a heap opens: the board's are its own, the others nobody's.
use Rattle.std.specs.Int.{bit_at}
use Rattle.std.proofs.Common.{◌≡◌, ℕ, ◌+◌, ◌-◌, ◌*◌, ◌^◌, ◌<◌, ◌≤◌, nat_lt, if◌then◌else◌, inl, inr, [], refl, sym, ap, ◌∙◌, subst, arith}
use Rattle.std.proofs.lemmas.Bool.{cases_lt, lt-ltb, le-ltb}
use Rattle.std.proofs.lemmas.List.FromFn.{get_or-range_with_len}
use Rattle.std.proofs.lemmas.Nat.Bits.{bit_at_above, bit_at_ones, bit_at_ones_above, bit_at_cat_low, bit_at_cat_high}
use Rattle.heap_model.specs.Board.{board_fragments}
use Rattle.heap_model.specs.Heap.{IsHeap}
use Rattle.core_rule.proofs.Terms.{Heap, sum_upto, fragment_at, AreUsed, Owner, Free, Kept, IsBoards, IsSeated, OwnersStand, taken_bit, born_bit}
use Rattle.core_machine.specs.machine.Opening.{board, board_bits, board_group}
use Rattle.core_machine.proofs.machine_lemmas.BoardPlace.{board_bits_fit_group}
use Rattle.core_machine.proofs.table_lemmas.Free.{sum_of_nothing_is_zero}
use Rattle.core_rule.proofs.lists.SumLemmas.{sum_in_two_summands, sum_ones}

-- the first fragments are the board's
abbrev pub opening_owner : Heap → ℕ → Owner
opening_owner heap f = if nat_lt f (board_fragments heap) then Kept 0 f else Free

boards : (heap : Heap) (f : ℕ) → f < board_fragments heap → opening_owner heap f ≡ Kept 0 f
boards heap f below = rw (lt-ltb f (board_fragments heap) below) refl

pub beyond_board_is_free : (heap : Heap) (f : ℕ) → board_fragments heap ≤ f → opening_owner heap f ≡ Free
beyond_board_is_free heap f past = rw (le-ltb f (board_fragments heap) past) refl

pub opening_owner_cases : (heap : Heap) (P : Owner → Type 0) (f : ℕ) → (f < board_fragments heap → P (Kept 0 f)) → (board_fragments heap ≤ f → P Free) → P (opening_owner heap f)
opening_owner_cases heap P f kept free = elim (cases_lt f (board_fragments heap)) [
  | inl below ↦ subst P (sym (boards heap f below)) (kept below)
  | inr past ↦ subst P (sym (beyond_board_is_free heap f past)) (free past)
]

-- no seat has a fragment, and the first is the board's first
pub opening_owners_stand : (heap : Heap) → OwnersStand heap.seats (opening_owner heap)
opening_owners_stand heap = record {
  seated = λ f. opening_owner_cases heap (IsSeated heap.seats) f (λ below. tt) (λ past. tt);
  board = opening_owner_cases heap IsBoards 0 (λ below. (refl, refl)) (λ past. tt);
}

pub board_fragment_is_number : (heap : Heap) (k : ℕ) → k < board_fragments heap → fragment_at (board heap) k ≡ k
board_fragment_is_number heap k below = get_or-range_with_len 0 (board_fragments heap) k 0 below ∙ omega arith

-- the first of them is kept
pub opening_keeps_board : (heap : Heap) → opening_owner heap (fragment_at (board heap) 0) ≡ Kept 0 0
opening_keeps_board heap =
    let first : 0 < board_fragments heap = omega arith in
    ap (opening_owner heap) (board_fragment_is_number heap 0 first) ∙ boards heap 0 first

-- whether a fragment is one of the board's first ones
bit_of_board : (heap : Heap) (f : ℕ) (bit : Owner → ℕ) → bit Free ≡ 0 → bit (Kept 0 f) ≡ 1 → bit_at (board_bits heap) f ≡ bit (opening_owner heap f)
bit_of_board heap f bit none one = opening_owner_cases heap (λ o. bit_at (board_bits heap) f ≡ bit o) f
    (λ below. bit_at_ones (board_fragments heap) f below ∙ sym one) (λ past. bit_at_ones_above (board_fragments heap) f past ∙ sym none)

-- the group's word has the board's bits twice
group_is_two_masks : (heap : Heap) → board_group heap ≡ board_bits heap * 2 ^ 16 + board_bits heap
group_is_two_masks heap = omega arith

pub board_bit_is_taken_bit : (heap : Heap) (f : ℕ) → f < 16 → bit_at (board_group heap) f ≡ taken_bit (opening_owner heap f)
board_bit_is_taken_bit heap f within =
    ap (λ (word : ℕ). bit_at word f) (group_is_two_masks heap) ∙ bit_at_cat_low (board_bits heap) 16 (board_bits heap) f within ∙ bit_of_board heap f taken_bit refl refl

pub board_bit_is_born_bit : (heap : Heap) → IsHeap heap → (f : ℕ) → bit_at (board_group heap) (16 + f) ≡ born_bit (opening_owner heap f)
board_bit_is_born_bit heap limits f =
    let place : 16 + f - 16 ≡ f = omega arith in
    ap (λ (word : ℕ). bit_at word (16 + f)) (group_is_two_masks heap)
    ∙ bit_at_cat_high (board_bits heap) 16 (board_bits heap) (16 + f) (board_bits_fit_group heap limits) (omega arith)
    ∙ ap (bit_at (board_bits heap)) place ∙ bit_of_board heap f born_bit refl refl

-- none of the group is marked or scanned
pub board_bit_is_unmarked : (heap : Heap) → IsHeap heap → (i : ℕ) → 32 ≤ i → bit_at (board_group heap) i ≡ 0
board_bit_is_unmarked heap limits i past = bit_at_above (board_group heap) 32 i (omega (arith, board_bits_fit_group heap limits)) past

-- the board's are in use
pub opening_used : (heap : Heap) → IsHeap heap → AreUsed heap (opening_owner heap) []
opening_used heap limits = used (board_fragments heap) refl (omega (arith, limits.some_group, limits.board_fits))
  where
    used : (count : ℕ) → count ≡ board_fragments heap → count ≤ 16 * heap.groups → AreUsed heap (opening_owner heap) []
    used count is few =
        let summands : 16 * heap.groups ≡ count + (16 * heap.groups - count) = omega arith in
        let all = sum_in_two_summands count (16 * heap.groups - count) (λ f. taken_bit (opening_owner heap f)) in
        let kept = sum_ones count (λ f. taken_bit (opening_owner heap f)) (λ f below. ap taken_bit (boards heap f (omega (arith, is, below)))) in
        let free = sum_of_nothing_is_zero (16 * heap.groups - count) (λ f. taken_bit (opening_owner heap (count + f))) (λ f below. ap taken_bit (beyond_board_is_free heap (count + f) (omega (arith, is)))) in
        let sums : sum_upto (16 * heap.groups) (λ f. taken_bit (opening_owner heap f)) ≡ count = ap (λ n. sum_upto n (λ f. taken_bit (opening_owner heap f))) summands ∙ omega (arith, all, kept, free) in
        omega (arith, sums, is)
