-- Each turn of copying leaves fewer turns of the cycle.
use Rattle.std.specs.Int.{bit_at}
use Rattle.std.specs.Option.{option_map_or}
use Rattle.std.specs.Prelude.{IfSome}
use Rattle.std.proofs.Common.{◌≡◌, ℕ, suc, ◌+◌, ◌-◌, ◌*◌, ◌<◌, ◌≤◌, true, List, length, Option, Some, None, inl, inr, refl, ap, ◌∙◌, subst, arith}
use Rattle.std.proofs.lemmas.Bool.Decides.{eqb_tells, leb_tells}
use Rattle.heap_words.specs.declared.spot.Spot.{Spot}
use Rattle.core_rule.proofs.Terms.{control_of, marked_at, marked_bit, spot_in, array_words, graph_of, Heap, FitsCopying, Stage, State, array_length_of, spine_words_in, Word, at, put, IsMarked, IsSized, node_at, Book, Rule, Colour, White, Grey, Black}
use Rattle.core_machine.specs.collector.Copying.{marked_bits_of, next_position_of, left_half, after_visited, after_seen, visit_on, after_inspected, after_located, copy_at}
use Rattle.core_machine.specs.collector.CopyingTurns.{visited, after_copying, copying_step}
use Rattle.core_machine.specs.collector.FitsTurns.{FitsVisit}
use Rattle.core_machine.specs.declared.collector.stage.ArrayAt.{ArrayAt}
use Rattle.core_machine.specs.declared.collector.stage.Copying.{Copying}
use Rattle.core_machine.specs.declared.collector.stage.Copying.TheVariants as copying
use Rattle.core_machine.specs.declared.collector.stage.SpineCopy.{SpineCopy}
use Rattle.core_machine.specs.declared.collector.stage.Stage.TheVariants as stages
use Rattle.core_machine.specs.declared.collector.stage.Visit.{Visit}
use Rattle.core_machine.proofs.table_lemmas.Addresses.{put_of_read_changes_nothing}
use Rattle.core_rule.proofs.copies.CopyingStages.{copying_is_after_marking, fits_copying_from}
use Rattle.core_rule.proofs.copies.InspectedWords.{marked_meta_begins_array}
use Rattle.core_rule.proofs.copies.VisitsOn.{copying_stands_from_stage}
use Rattle.core_rule.proofs.lists.SumLemmas.{sum-suc}
use Rattle.core_rule.proofs.turns.NextPositions.{next_position_is_not_before}
use Rattle.space_plan.specs.cycle_turns.ToldWords.{told_words, fragments_told, fragments_before}
use Rattle.space_plan.specs.cycle_turns.CopyingLeft.{visits_left, behind_visit, copying_left}
use Rattle.space_plan.specs.cycle_turns.CycleLeft.{left_in_phase, cycle_left_at, cycle_left}
use Rattle.space_plan.proofs.cycle_turns.Distinct.{told_before_fit}
use Rattle.space_plan.proofs.cycle_turns.Lefts.{StageLeavesFewer, fewer_left_at_stage, fewer_left_in_words_after}
use Rattle.space_plan.proofs.cycle_turns.Sums.{where_set_is_number, fragments_of_some_told, sum_of_more}
use Rattle.space_plan.proofs.cycle_turns.Writes.{Spares}

module _ (heap : Heap) (phase looked : ℕ) (words : List ℕ) where
  -- so many turns are left at a stage
  abbrev left_at : Stage → ℕ
  left_at stage = left_in_phase heap words phase looked stage

  -- from a later fragment on no more is left
  visits_fall : (group from later : ℕ) → from ≤ later → visits_left heap words group later ≤ visits_left heap words group from
  visits_fall group from later further = omega (arith, further, sum_of_more from later (λ g. fragments_told (told_words heap words g)) further)

  -- behind a group
  visited_leaves : (group : ℕ) → left_at (after_visited heap group) ≤ visits_left heap words (group + 1) (16 * (group + 1))
  visited_leaves group = elim (leb_tells (suc (group + 1)) heap.groups) as (λ _. left_at (after_visited heap group) ≤ visits_left heap words (group + 1) (16 * (group + 1))) [
    | inl more ↦ rw more.0 (omega arith)
    | inr last ↦ rw last.0 (omega arith)
  ]

  -- the next marked fragment, or the next group, has no more left than from this fragment on
  seen_leaves : (group marked from start : ℕ) (position : Option ℕ) → start ≡ 16 * group + from → from ≤ 16 → IfSome position (λ i. from ≤ i)
      → left_at (after_seen heap group marked position) ≤ visits_left heap words (group + 1) start
  seen_leaves group marked from start None is few after =
      let groups = visited_leaves group in
      let further = visits_fall (group + 1) start (16 * (group + 1)) (omega (arith, is, few)) in
      by _ _ _ groups further
    where
      by : (m n k : ℕ) → m ≤ n → n ≤ k → m ≤ k
      by m n k less more = omega (arith, less, more)
  seen_leaves group marked from start (Some position) is few after = visits_fall (group + 1) start (16 * group + position) (omega (arith, is, after))

  module _ (visit : Visit) (fits : FitsVisit heap visit) where
    -- behind a fragment no more than behind the visit
    visit_on_leaves : left_at (visit_on heap visit) ≤ behind_visit heap words visit
    visit_on_leaves = seen_leaves visit.group visit.marked (visit.position + 1) (visited visit + 1) (next_position_of visit.marked (visit.position + 1)) (omega arith) (omega (arith, fits.position_within))
        (next_position_is_not_before visit.marked (visit.position + 1))

    -- which is less than before it
    before_visit : behind_visit heap words visit < visits_left heap words (visit.group + 1) (visited visit)
    before_visit =
        let further = sum_of_more (visited visit) (visited visit + 1) (λ g. fragments_told (told_words heap words g)) (omega arith) in
        omega (arith, further, fits.group_within, fits.position_within)

  -- a copy comes to its next word, or is whole
  copy_leaves : (copy : SpineCopy) → left_at (copy_at copy) ≤ behind_visit heap words copy.array.visit + (1 + 2 * (copy.array.words - copy.index))
  copy_leaves copy = elim (leb_tells (suc copy.index) copy.array.words) as (λ _. left_at (copy_at copy) ≤ behind_visit heap words copy.array.visit + (1 + 2 * (copy.array.words - copy.index))) [
    | inl more ↦ rw more.0 (more_or_same (behind_visit heap words copy.array.visit) (1 + 2 * (copy.array.words - copy.index)) _ (omega arith))
    | inr whole ↦ rw whole.0 (more_or_same (behind_visit heap words copy.array.visit) 1 _ (omega arith))
  ]
    where
      more_or_same : (b m n : ℕ) → m ≤ n → b + m ≤ b + n
      more_or_same b m n less = omega (arith, less)

  located_leaves : (array : ArrayAt) (from : Spot) → FitsVisit heap array.visit → left_at (after_located heap phase array from) < behind_visit heap words array.visit + (3 + 2 * array.words)
  located_leaves array from fits = elim (eqb_tells from.half (left_half phase)) as (λ _. left_at (after_located heap phase array from) < behind_visit heap words array.visit + (3 + 2 * array.words)) [
    | inl left ↦ rw left.0 (by (behind_visit heap words array.visit))
    | inr other ↦ rw other.0 (past _ _ (visit_on_leaves array.visit fits))
  ]
    where
      by : (b : ℕ) → b + (2 + 2 * array.words) < b + (3 + 2 * array.words)
      by b = omega arith

      past : (m b : ℕ) → m ≤ b → m < b + (3 + 2 * array.words)
      past m b less = omega (arith, less)

  -- so few turns are left by the turn of this stage
  abbrev Leaves : Copying → ℕ → Type 0
  Leaves stage found = left_at (after_copying heap phase stage found) < copying_left heap words stage

  less_beside : (b m n : ℕ) → m < n → b + m < b + n
  less_beside b m n less = omega (arith, less)

  below_step : (l b m n : ℕ) → l ≤ b + m → m < n → l < b + n
  below_step l b m n less fewer = omega (arith, less, fewer)

  visiting_leaves_fewer : (group found : ℕ) → group < heap.groups → Leaves (copying.Visiting group) found
  visiting_leaves_fewer group found below =
      let next = seen_leaves group (marked_bits_of found) 0 (16 * group) (next_position_of (marked_bits_of found) 0) (omega arith) (omega arith) (next_position_is_not_before (marked_bits_of found) 0) in
      by _ (16 * heap.groups - 16 * group) (4 * (16 * heap.groups - fragments_before heap words (16 * group))) next
    where
      by : (m from seen : ℕ) → m ≤ heap.groups - (group + 1) + from + seen → m < heap.groups - group + from + seen
      by m from seen less = omega (arith, below, less)

  naming_leaves_fewer : (visit : Visit) (n found : ℕ) → Leaves (copying.Naming visit n) found
  naming_leaves_fewer visit n found = less_beside (behind_visit heap words visit) (3 + 2 * n) (4 + 2 * n) (omega arith)

  claiming_leaves_fewer : (array : ArrayAt) (from : Spot) (found : ℕ) → Leaves (copying.Claiming array from) found
  claiming_leaves_fewer array from found =
      below_step _ (behind_visit heap words array.visit) _ (2 + 2 * array.words) (copy_leaves (record { array = array; from = from; to = spot_in found; index = 0 })) (omega arith)

  loading_leaves_fewer : (copy : SpineCopy) (found : ℕ) → Leaves (copying.Loading copy) found
  loading_leaves_fewer copy found = less_beside (behind_visit heap words copy.array.visit) (2 * (copy.array.words - copy.index)) (1 + 2 * (copy.array.words - copy.index)) (omega arith)

  storing_leaves_fewer : (copy : SpineCopy) (word found : ℕ) → copy.index < copy.array.words → Leaves (copying.Storing copy word) found
  storing_leaves_fewer copy word found more =
      below_step _ (behind_visit heap words copy.array.visit) _ (2 * (copy.array.words - copy.index)) (copy_leaves (record copy { index = copy.index + 1 })) (omega (arith, more))

  swinging_leaves_fewer : (copy : SpineCopy) (found : ℕ) → FitsVisit heap copy.array.visit → Leaves (copying.Swinging copy) found
  swinging_leaves_fewer copy found fits = by _ _ (visit_on_leaves copy.array.visit fits)
    where
      by : (m b : ℕ) → m ≤ b → m < b + 1
      by m b less = omega (arith, less)

  -- an array of which the fragment tells pays for its copy
  array_leaves_fewer : (visit : Visit) (n : ℕ) → FitsVisit heap visit → told_words heap words (visited visit) ≡ n → 1 ≤ n → fragments_before heap words (visited visit + 1) ≤ 16 * heap.groups
      → behind_visit heap words visit + (4 + 2 * n) < visits_left heap words (visit.group + 1) (visited visit)
  array_leaves_fewer visit n fits told some fit =
      let one : visited visit + 1 ≡ suc (visited visit) = omega arith in
      let its : fragments_told (told_words heap words (visited visit)) ≡ n + 1 = ap fragments_told told ∙ fragments_of_some_told n some in
      let more : fragments_before heap words (visited visit + 1) ≡ fragments_before heap words (visited visit) + fragments_told (told_words heap words (visited visit))
      = ap (fragments_before heap words) one ∙ sum-suc (visited visit) (λ g. fragments_told (told_words heap words g)) in
      by (heap.groups - (visit.group + 1)) (fragments_before heap words (visited visit)) (fragments_before heap words (visited visit + 1)) (omega (arith, more, its)) fit (omega (arith, fits.group_within, fits.position_within))
    where
      by : (g before now : ℕ) → now ≡ before + (n + 1) → now ≤ 16 * heap.groups → visited visit < 16 * heap.groups
          → g + (16 * heap.groups - (visited visit + 1)) + 4 * (16 * heap.groups - now) + (4 + 2 * n) < g + (16 * heap.groups - visited visit) + 4 * (16 * heap.groups - before)
      by g before now is few below = omega (arith, is, few, below)

-- what holds of a turn of copying once the words it has found are those after it
copy_turn_leaves_fewer : (stage : Copying)
    → ((heap : Heap) (phase looked : ℕ) (words : List ℕ) (found : ℕ) → FitsCopying heap stage → left_in_phase heap words phase looked (after_copying heap phase stage found) < copying_left heap words stage)
    → ((heap : Heap) (words : List ℕ) → Spares heap words (copying_step stage)) → StageLeavesFewer (stages.Copying stage)
copy_turn_leaves_fewer stage leaves spares heap state book rule copies stepped =
    fewer_left_in_words_after heap state (stages.Copying stage) copies book rule state.collector.looked (after_copying heap state.collector.phase stage _) (spares heap state.words)
    (leaves heap state.collector.phase state.collector.looked _ _ (fits_copying_from heap state book rule stage copies))

module _ (heap : Heap) (state : State) (book : Book) (rule : Rule heap state book) (visit : Visit) (inspecting : state.collector.stage ≡ stages.Copying (copying.Inspecting visit)) where
  abbrev f : ℕ
  f = visited visit

  fits : FitsVisit heap visit
  fits = fits_copying_from heap state book rule (copying.Inspecting visit) inspecting

  within : f < 16 * heap.groups
  within = omega (arith, fits.group_within, fits.position_within)

  dark : IsMarked book.colour f
  dark = copying_stands_from_stage heap state book rule (copying.Inspecting visit) inspecting visit.position fits.is_marked

  set_where_dark : (c : Colour) → (c ≡ White → ⊥) → 1 ≤ marked_bit c
  set_where_dark White some = absurd (some refl)
  set_where_dark Grey some = omega arith
  set_where_dark Black some = omega arith

  -- an array's first fragment tells its spine words, of which it has some
  meta_is_told : (cells : ℕ) → array_length_of (at heap state.words (Word f 0)) ≡ Some cells → (told_words heap state.words f ≡ array_words cells) × (1 ≤ array_words cells)
  meta_is_told cells told =
      let begun = marked_meta_begins_array heap state book rule f (copying_is_after_marking heap state book rule (copying.Inspecting visit) inspecting) dark cells told in
      let set : 1 ≤ bit_at (control_of heap state.words f) (marked_at f) = omega (arith, rule.heap_stands.cycle.marks.marked f within, set_where_dark (book.colour f) dark) in
      let there = rule.heap_stands.objects.back f begun.0.index 0 begun.0.kept in
      let sized : IsSized true (length (node_at (graph_of heap book.history) book.made begun.0.index).cells)
      = subst (λ b. IsSized b (length (node_at (graph_of heap book.history) book.made begun.0.index).cells)) begun.0.is_array (rule.heap_stands.objects.kept begun.0.index there.0 there.1).sized in
      let many : array_words cells ≡ array_words (length (node_at (graph_of heap book.history) book.made begun.0.index).cells) = begun.0.as_many ∙ rw begun.0.is_array refl in
      (where_set_is_number (bit_at (control_of heap state.words f) (marked_at f)) (spine_words_in (at heap state.words (Word f 0))) set ∙ ap (λ o. option_map_or array_words o 0) told, omega (arith, many, sized))

  inspected_leaves : (cells : Option ℕ) → array_length_of (at heap state.words (Word f 0)) ≡ cells
      → left_in_phase heap state.words state.collector.phase state.collector.looked (after_inspected heap visit cells) < visits_left heap state.words (visit.group + 1) f
  inspected_leaves None told = by _ _ _ (visit_on_leaves heap state.collector.phase state.collector.looked state.words visit fits) (before_visit heap state.collector.phase state.collector.looked state.words visit fits)
    where
      by : (m n k : ℕ) → m ≤ n → n < k → m < k
      by m n k less more = omega (arith, less, more)
  inspected_leaves (Some cells) told =
      let its = meta_is_told cells told in
      array_leaves_fewer heap state.collector.phase state.collector.looked state.words visit (array_words cells) fits its.0 its.1 (told_before_fit heap state book rule (f + 1) (omega (arith, within)))

  inspecting_turn : cycle_left_at heap (put heap state.words (Word f 0) (at heap state.words (Word f 0))) state.collector.phase state.collector.looked (after_inspected heap visit (array_length_of (at heap state.words (Word f 0)))) < cycle_left heap state
  inspecting_turn = rw (put_of_read_changes_nothing heap state.words (Word f 0))
      (fewer_left_at_stage heap state (stages.Copying (copying.Inspecting visit)) inspecting state.words state.collector.looked _ (inspected_leaves (array_length_of (at heap state.words (Word f 0))) refl))

-- so each turn of copying does
pub copying_leaves_fewer : (stage : Copying) → StageLeavesFewer (stages.Copying stage)
copying_leaves_fewer (copying.Visiting group) = copy_turn_leaves_fewer (copying.Visiting group) (λ heap phase looked words found fits. visiting_leaves_fewer heap phase looked words group found fits) (λ heap words. tt)
copying_leaves_fewer (copying.Inspecting visit) = λ heap state book rule copies stepped. inspecting_turn heap state book rule visit copies
copying_leaves_fewer (copying.Naming visit n) = copy_turn_leaves_fewer (copying.Naming visit n) (λ heap phase looked words found fits. naming_leaves_fewer heap phase looked words visit n found) (λ heap words. tt)
copying_leaves_fewer (copying.Locating array) = copy_turn_leaves_fewer (copying.Locating array) (λ heap phase looked words found fits. located_leaves heap phase looked words array (spot_in found) fits.there) (λ heap words. tt)
copying_leaves_fewer (copying.Claiming array from) = copy_turn_leaves_fewer (copying.Claiming array from) (λ heap phase looked words found fits. claiming_leaves_fewer heap phase looked words array from found) (λ heap words. tt)
copying_leaves_fewer (copying.Loading copy) = copy_turn_leaves_fewer (copying.Loading copy) (λ heap phase looked words found fits. loading_leaves_fewer heap phase looked words copy found) (λ heap words. tt)
copying_leaves_fewer (copying.Storing copy word) = copy_turn_leaves_fewer (copying.Storing copy word) (λ heap phase looked words found fits. storing_leaves_fewer heap phase looked words copy word found fits.more) (λ heap words. tt)
copying_leaves_fewer (copying.Swinging copy) = copy_turn_leaves_fewer (copying.Swinging copy) (λ heap phase looked words found fits. swinging_leaves_fewer heap phase looked words copy found fits.0.array_fits.there) (λ heap words. tt)
