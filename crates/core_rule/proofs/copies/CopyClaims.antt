-- The collector claims the place of a copy: it fits into the budget, and its words are the collector's.
use Rattle.std.proofs.Common.{◌≡◌, ℕ, ◌+◌, ◌-◌, ◌%◌, ◌^◌, ◌<◌, ◌≤◌, List, refl, ap, arith}
use Rattle.heap_words.specs.declared.spot.Spot.{Spot as Point}
use Rattle.core_rule.proofs.Terms.{Heap, graph_of, Node, Budget, State, seat_at, at, Book, of_seats, granted_at, placed_at, copying_words, node_at, SpineOwner, Placed, IsToCopy}
use Rattle.core_rule.proofs.Terms.{Rule, HeapStands, SeatStands, IsWordOf, next_spine}
use Rattle.core_machine.specs.declared.collector.stage.ArrayAt.{ArrayAt}
use Rattle.core_machine.specs.declared.collector.stage.Copying.TheVariants.{Claiming}
use Rattle.core_machine.specs.declared.collector.stage.SpineCopy.{SpineCopy}
use Rattle.core_machine.specs.declared.collector.stage.Stage.TheVariants as stages
use Rattle.core_machine.specs.declared.table.address.Address.TheVariants.{Spot}
use Rattle.core_rule.proofs.colours.LeadsFrames.{led_before_where_same, same_sources_ahead}
use Rattle.core_rule.proofs.copies.CopyWords.{HasCopy}
use Rattle.core_rule.proofs.copies.CopyingStages.{IsFree, copied_array_has_few_words, copying_is_leaving, no_word_is_collectors}
use Rattle.core_rule.proofs.copies.VisitsOn.{copying_stands_from_stage}
use Rattle.core_rule.proofs.frames.BesideFrames.{LeavesBeside, leaves_beside_word_aside, arrays_stay, heap_stands_beside, seat_stands_beside}
use Rattle.core_rule.proofs.lists.SumLemmas.{sum_le}
use Rattle.core_rule.proofs.budgets.OffsetWithin.{placed_within_granted, copied_words_within_kept}
use Rattle.core_rule.proofs.spines.SpineFrames.{spine_is_stored_by_words}
use Rattle.core_rule.proofs.spines.SpotClaims.{claim_cases, claimed_is_placed, words_claimed, owner_claimed, same_spines_after_spot_claim, spines_left_after_claim, places_stay_after_claim, spines_stand_after_claim}
use Rattle.core_rule.proofs.words.Addresses.{at-put_apart}

module _ (heap : Heap) (state : State) (book : Book) (rule : Rule heap state book) (array : ArrayAt) (from : Point) (claiming : state.collector.stage ≡ stages.Copying (Claiming array from)) where
  abbrev nodes : ℕ → Node
  nodes = node_at (graph_of heap book.history) book.made

  abbrev spot : Point
  spot = next_spine heap state.words

  pub claim_is_to_copy : IsToCopy nodes book.made book.owner book.colour book.spines spot.half array from
  claim_is_to_copy = copying_stands_from_stage heap state book rule (Claiming array from) claiming

  -- the words that are granted have room for it
  pub copy_fits_half : spot.offset + array.words ≤ heap.spine
  copy_fits_half =
      let budgets = rule.space.budgets in
      let level = budgets.leaving (copying_is_leaving heap state book rule (Claiming array from) claiming state.collector.stage) in
      let seats : of_seats heap state (placed_at spot.half) ≤ of_seats heap state granted_at
      = sum_le heap.seats (λ r. placed_at spot.half (seat_at state r) (seat_at state r).point) (λ r. granted_at (seat_at state r) (seat_at state r).point)
      (λ r below. placed_within_granted spot.half (seat_at state r) (seat_at state r).point) in
      let kept = copied_words_within_kept nodes book.spines spot.half heap state.words book.made book.owner book.colour book.fragments rule.heap_stands.control_words array from claim_is_to_copy in
      let none : copying_words state.collector.stage ≡ 0 = ap copying_words claiming in
      omega (arith, level, seats, kept, none, budgets.low)

  pub claimed_offset_is_small : spot.offset + array.words < 2 ^ 31
  claimed_offset_is_small = omega (arith, copy_fits_half, rule.machine.limits.spine_fits)

  -- the copy that begins
  abbrev pub copy : SpineCopy
  copy = record { array = array; from = from; to = spot; index = 0 }

  abbrev pub now : List ℕ
  now = words_claimed heap state book heap.seats array.words rule.machine.table

  abbrev pub owners : ℕ → ℕ → SpineOwner
  owners = owner_claimed heap state book heap.seats array.words rule.machine.table

  abbrev pub later : Book
  later = record book { spine_owner = owners }

  free : IsFree (stages.Copying (Claiming array from))
  free = record { of_copying = tt; few = copied_array_has_few_words heap state book rule (Claiming array from) claiming; none = refl; no_words = refl }

  -- its words are the collector's, and no others
  pub has_copy_after_claim : HasCopy heap now owners copy
  has_copy_after_claim = record {
    placed = claimed_is_placed heap.seats spot array.words book.spine_owner;
    own = λ half offset j. claim_cases heap.seats spot array.words book.spine_owner (λ o. o ≡ Placed heap.seats j → (j < array.words) × IsWordOf spot half offset j) half offset
        (λ is e. let position : offset - spot.offset ≡ j = cc in (omega (arith, position, is.from, is.upto), record { half_is = is.half_is; offset_is = omega (arith, position, is.from) }))
        (λ away e. absurd (no_word_is_collectors heap state book rule (Claiming array from) claiming free half offset j e));
    copied = λ j less. absurd (omega (arith, less));
  }

  beside : LeavesBeside heap state.words now
  beside = leaves_beside_word_aside heap state.words Spot ((at heap state.words Spot + array.words) % 2 ^ 64) (omega arith) (omega arith)

  pub budget_same_after_copy_claim : at heap now Budget ≡ at heap state.words Budget
  budget_same_after_copy_claim = at-put_apart heap state.words Spot Budget _ (λ e. omega (arith, e))

  -- the heap stands
  pub heap_stands_after_copy_claim : HeapStands heap now later
  heap_stands_after_copy_claim = heap_stands_beside heap state book rule now beside (arrays_stay heap state.words now book (same_spines_after_spot_claim heap state book heap.seats array.words rule.machine.table)) owners
      (λ f source x dark leads. led_before_where_same heap state.words now f (same_sources_ahead heap state.words Spot ((at heap state.words Spot + array.words) % 2 ^ 64) (omega arith) f) source x leads)
      (spines_stand_after_claim heap state book heap.seats array.words rule.machine.table rule.space.halves rule.heap_stands.spines claimed_offset_is_small (omega arith))

  -- and each seat
  pub seat_stands_after_copy_claim : (r : ℕ) → r < heap.seats → SeatStands heap now later r (seat_at state r)
  seat_stands_after_copy_claim r below = seat_stands_beside heap state book rule now beside (arrays_stay heap state.words now book (same_spines_after_spot_claim heap state book heap.seats array.words rule.machine.table)) owners r below
      (spines_left_after_claim heap state book heap.seats array.words rule.machine.table rule.space.halves r (λ e. omega (arith, e, below)))
      (spine_is_stored_by_words heap state.words now (seat_at state r) (same_spines_after_spot_claim heap state book heap.seats array.words rule.machine.table) (rule.seats_stand r below).own.spine.stored)
      (places_stay_after_claim heap state book heap.seats array.words rule.machine.table rule.space.halves)
