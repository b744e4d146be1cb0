-- What stays true of all fragments of a list when it is joined or cut.
use Rattle.std.proofs.Common.{◌≡◌, ℕ, ◌*◌, ◌/◌, ◌<◌, List, length, get_or, subst, arith}
use Rattle.std.specs.List.{All, range_with_len}
use Rattle.std.proofs.lemmas.List.Elements.{All-filter, All-weaker, All-from_get_or}
use Rattle.std.proofs.lemmas.List.FromFn.{get_or-range_with_len, length-range_with_len}
use Rattle.core_machine.proofs.Terms.{Heap, is_clear, clear_among, clear_in, AreFragments}

-- all clear fragments of a group are of this group
pub clear_is_of_group : (group word : ℕ) → All (λ fragment. fragment / 16 ≡ group) (clear_in group word)
unfolding clear_among
clear_is_of_group group word =
    All-filter (is_clear word) (λ fragment. fragment / 16 ≡ group) (range_with_len (16 * group) 16)
    (All-from_get_or (λ fragment. fragment / 16 ≡ group) (range_with_len (16 * group) 16) 0
    (λ i within. of_range group i (subst (λ (n : ℕ). i < n) (length-range_with_len (16 * group) 16) within)))
  where
    of_range : (group i : ℕ) → i < 16 → get_or (range_with_len (16 * group) 16) i 0 / 16 ≡ group
    of_range group i within = rw (get_or-range_with_len (16 * group) 16 i 0 within) (omega arith)

-- fragments of a group of the heap are fragments of the heap
pub group_fragments_within_heap : (heap : Heap) (group : ℕ) (fragments : List ℕ) → group < heap.groups
    → All (λ fragment. fragment / 16 ≡ group) fragments → AreFragments heap fragments
group_fragments_within_heap heap group fragments within each =
    All-weaker (λ fragment. fragment / 16 ≡ group) (λ fragment. fragment < 16 * heap.groups) (λ fragment of_group. omega arith) fragments each

-- a group that a fragment of the heap is in
pub fragments_group_within_heap : (heap : Heap) (fragments : List ℕ) (i : ℕ) → i < length fragments → AreFragments heap fragments
    → get_or fragments i 0 / 16 < heap.groups
fragments_group_within_heap heap fragments i within each =
    let one : get_or fragments i 0 < 16 * heap.groups = each i 0 within in omega arith
