-- In which half each spine stands stays so where a seat gets other data, and where no more than words change.
use Rattle.std.proofs.Common.{◌≡◌, ℕ, ◌<◌, List, length, slice_set, sym, subst}
use Rattle.std.specs.Prelude.{IfSome}
use Rattle.core_rule.proofs.Terms.{Heap, Stage, State, Seat, at, spine_place, Book, HalvesStand, SpineOwner, CopyInHand, copy_in}
use Rattle.core_machine.specs.declared.table.address.Address.TheVariants.{Spot}
use Rattle.core_rule.proofs.halves.HalvesFrames.{holds_of_each_seat, if_some_of_each, InItsHalf}
use Rattle.core_rule.proofs.spines.SpineFrames.{SpinesLeft}

-- a seat gets other data, and its spine is in its half
pub halves_stand_with_seat : (heap : Heap) (state : State) (book : Book) (number : ℕ) (seat : Seat) → number < heap.seats → length state.seats ≡ heap.seats → InItsHalf heap state number seat
    → HalvesStand heap state book → HalvesStand heap (record state { seats = slice_set state.seats number seat }) book
halves_stand_with_seat heap state book number seat here seated own old = record {
  half = old.half;
  before = old.before;
  arrays = old.arrays;
  hands = λ r below. holds_of_each_seat (λ n s. InItsHalf heap state n s) state.seats number seat (subst (λ n. number < n) (sym seated) here) own r (λ apart. old.hands r below);
  swung = old.swung;
  copies = old.copies;
  copy = old.copy;
}

-- words change, but not that of the next spine's place, and the copy in progress is right
pub halves_stand_with_words : (heap : Heap) (state : State) (book : Book) (words : List ℕ) → at heap words Spot ≡ at heap state.words Spot → CopyInHand heap words book.spine_owner state.collector.stage
    → HalvesStand heap state book → HalvesStand heap (record state { words = words }) book
halves_stand_with_words heap state book words spot copy old = record {
  half = rw spot old.half;
  before = rw spot old.before;
  arrays = rw spot old.arrays;
  hands = rw spot old.hands;
  swung = rw spot old.swung;
  copies = rw spot old.copies;
  copy = copy;
}

-- the copy in progress is right where the collector has the spine words that it had, and its first ones equal those of the spine
pub copy_in_hand_where_left : (heap : Heap) (words now : List ℕ) (was later : ℕ → ℕ → SpineOwner) (stage : Stage) → SpinesLeft heap.seats was later
    → IfSome (copy_in stage) (λ copy. (j : ℕ) → j < copy.index → at heap now (spine_place copy.to j) ≡ at heap now (spine_place copy.from j))
    → CopyInHand heap words was stage → CopyInHand heap now later stage
copy_in_hand_where_left heap words now was later stage left copied old = record {
  placed = if_some_of_each (copy_in stage) (λ copy placed j less. left.stays _ _ _ (placed j less)) old.placed;
  own = λ half offset j is. old.own half offset j (left.own half offset j is);
  copied = copied;
}
