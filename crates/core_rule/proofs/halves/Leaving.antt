-- When a half is left, who has a place in one, and what stands where nothing is copied.
use Rattle.std.proofs.Common.{◌≡◌, ◌≢◌, ℕ, ◌%◌, ◌<◌, Bool, true, false, List, length, None, Some, inl, inr, refl, subst, arith}
use Rattle.core_rule.proofs.Terms.{cycle_phases, Heap, Stage, State, seat_at, Fits, Seat, Book, fragment_at, nodes_in, HalvesStand, AwaitsCopy, IsEarlyRange, IsLeaving, IsKept}
use Rattle.core_rule.proofs.Terms.{SpineOwner, Placed, CopyInHand, copy_in, HasPlace, next_spine}
use Rattle.heap_model.specs.PhasePlan.{marking as marking_phase}
use Rattle.core_machine.specs.declared.collector.stage.Stage.TheVariants as stages

-- no half is left in the phase of marking before the flip
pub marking_is_not_leaving : (phase : ℕ) (stage : Stage) → phase % cycle_phases ≡ marking_phase → stage ≢ stages.Advancing → ¬ IsLeaving phase stage
marking_is_not_leaving phase stage third before (inl flipped) = before flipped.1
marking_is_not_leaving phase stage third before (inr (inl copies)) = omega (arith, third, copies)
marking_is_not_leaving phase stage third before (inr (inr sweeps)) = omega (arith, third, sweeps)

-- a seat that has the place of a spine hasn't left
pub placed_seat_has_not_left : (heap : Heap) (seat : Seat) → Fits heap seat → HasPlace seat seat.point → seat.left ≡ false
placed_seat_has_not_left heap seat fits has = by seat.left refl
  where
    by : (left : Bool) → seat.left ≡ left → seat.left ≡ false
    by true gone = absurd (subst (HasPlace seat) (fits.gone gone).idle has)
    by false present = present

module _ (heap : Heap) (words : List ℕ) (spine_owner : ℕ → ℕ → SpineOwner) (stage : Stage) (none : copy_in stage ≡ None) where
  -- where nothing is copied the collector has no spine words
  pub uncopied_is_not_placed : CopyInHand heap words spine_owner stage → (half offset k : ℕ) → spine_owner half offset ≢ Placed heap.seats k
  uncopied_is_not_placed copy half offset k is = absurd (let one = copy.own half offset k is in let progress : copy_in stage ≡ Some one.copy = one.progress in cc (none, progress))

  -- and that is all that is asked then
  pub copy_in_hand_where_none : ((half offset k : ℕ) → spine_owner half offset ≢ Placed heap.seats k) → CopyInHand heap words spine_owner stage
  copy_in_hand_where_none away = record { placed = rw none tt; own = λ half offset k is. absurd (away half offset k is); copied = rw none tt }

module _ (heap : Heap) (state : State) (book : Book) (halves : HalvesStand heap state book) where
  -- where no array awaits a copy, all stand in the half of the next spine
  pub arrays_in_next_spine_half : ((f : ℕ) → ¬ AwaitsCopy state.collector.phase state.collector.stage f) → (i : ℕ) → i < length book.made → IsKept book.owner book.fragments i
      → (nodes_in heap book i).array ≡ true → (book.spines i).half ≡ (next_spine heap state.words).half
  arrays_in_next_spine_half never i below kept kind = elim (halves.arrays i below kept kind) as (λ _. (book.spines i).half ≡ (next_spine heap state.words).half) [
    | inl here ↦ here
    | inr waits ↦ absurd (never (fragment_at (book.fragments i) 0) waits)
  ]

  -- and so does the spine of a seat that claimed it since the flip, or while no half is left
  pub seat_spine_in_next_half : (r : ℕ) → r < heap.seats → ¬ IsEarlyRange state.collector.phase state.collector.stage (seat_at state r).answered → HasPlace (seat_at state r) (seat_at state r).point
      → (seat_at state r).spine.half ≡ (next_spine heap state.words).half
  seat_spine_in_next_half r below late has = elim (halves.hands r below has) as (λ _. (seat_at state r).spine.half ≡ (next_spine heap state.words).half) [
    | inl here ↦ here
    | inr early ↦ absurd (late early)
  ]
