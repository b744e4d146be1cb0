-- Each turn of marking leaves fewer turns of the cycle.
use Rattle.std.specs.Int.{bit_at}
use Rattle.std.proofs.Common.{◌≡◌, ℕ, ◌+◌, ◌-◌, ◌*◌, ◌/◌, ◌<◌, ◌≤◌, Bool, true, List, Option, Some, None, refl, ap, ◌∙◌, bit_or, arith}
use Rattle.std.proofs.lemmas.Nat.Bits.{bit_at-lt}
use Rattle.core_rule.proofs.Terms.{blacken_bit_of, control_of, marked_at, scanned_at, Heap, IsBlackening, IsPassing, IsScanning, IsShading, IsSpreading, State, Control, Word, Spine, pointer_in, payload_in, spine_words_in, at, put}
use Rattle.core_rule.proofs.Terms.{Book, Grey, IsSeen, IsSeenWhole, IsSpineOf, WordPointsTo, MayMark, Marks, marked_bit, scanned_bit, Rule, turn_at, state_after_turn}
use Rattle.core_machine.specs.collector.Marking.{lowest_grey_of, after_pass, part_after, scan_step, scan_at, array_at, after_first_load, spine_step, after_address, after_spread}
use Rattle.core_machine.specs.declared.collector.stage.Scan.{Scan}
use Rattle.core_machine.specs.declared.collector.stage.SpineScan.{SpineScan}
use Rattle.core_machine.specs.declared.collector.stage.Stage.TheVariants as stages
use Rattle.core_machine.proofs.collector_lemmas.SpineTurns.{spine_scan_cases}
use Rattle.core_machine.proofs.table_lemmas.Addresses.{put_of_read_changes_nothing}
use Rattle.core_machine.proofs.table_lemmas.Grey.{grey_position_within_group}
use Rattle.core_rule.specs.turns.TurnsLeft.{scanned_count}
use Rattle.core_rule.proofs.colours.BlackenColours.{scanned_is_black, marks_after_blackening}
use Rattle.core_rule.proofs.lists.SumLemmas.{sum_ones}
use Rattle.core_rule.proofs.marking.GreyPositions.{lowest_is_grey}
use Rattle.space_plan.specs.cycle_turns.ToldWords.{where_set, told_words, scanned_words}
use Rattle.space_plan.specs.cycle_turns.CycleLeft.{left_in_phase}
use Rattle.space_plan.specs.cycle_turns.MarkingLeft.{scan_left}
use Rattle.space_plan.proofs.cycle_turns.Distinct.{scanned_words_fit}
use Rattle.space_plan.proofs.cycle_turns.Lefts.{StageLeavesFewer, fewer_left_at_stage, fewer_left_in_words_after, turn_loses_nothing}
use Rattle.space_plan.proofs.cycle_turns.LosesNothing.{LosesNothing, fewer_passes_left, scan_left_falls}
use Rattle.space_plan.proofs.cycle_turns.Sums.{where_set_is_number, where_set_grows, where_unset_is_none, sum_grows_at}
use Rattle.space_plan.proofs.cycle_turns.ScansLeft.{scan_begins, group_leaves, fewer_steps, first_load_leaves, shaded_leaves, addressed_leaves, word_behind_leaves, below_then, later_part}

module _ (heap : Heap) (state : State) (book : Book) (rule : Rule heap state book) where
  abbrev phase_now : ℕ
  phase_now = state.collector.phase

  abbrev looked_now : ℕ
  looked_now = state.collector.looked

  marks : Marks heap state.words book.colour
  marks = rule.heap_stands.cycle.marks

  -- a grey fragment isn't scanned
  grey_is_unscanned : (f : ℕ) → f < 16 * heap.groups → book.colour f ≡ Grey → bit_at (control_of heap state.words f) (scanned_at f) ≡ 0
  grey_is_unscanned f below grey = marks.scanned f below ∙ ap scanned_bit grey

  -- so not all are
  seen_few : (f : ℕ) → f < 16 * heap.groups → book.colour f ≡ Grey → scanned_count heap state.words < 16 * heap.groups
  seen_few f below grey =
      let less = sum_grows_at (16 * heap.groups) 1 f (λ g. bit_at (control_of heap state.words g) (scanned_at g)) (λ g. 1) below (λ g within. omega (arith, bit_at-lt (control_of heap state.words g) (scanned_at g)))
      (omega (arith, grey_is_unscanned f below grey)) in
      omega (arith, less, sum_ones (16 * heap.groups) (λ g. 1) (λ g within. refl))

  pass_finds : (group : ℕ) (found : Bool) → group < heap.groups → (position : Option ℕ) → lowest_grey_of (at heap state.words (Control group)) ≡ position
      → left_in_phase heap state.words phase_now looked_now (after_pass heap group found position) < left_in_phase heap state.words phase_now looked_now (stages.Passing group found)
  pass_finds group found below None is = group_leaves heap phase_now looked_now state.words group found below
  pass_finds group found below (Some position) is =
      let within = grey_position_within_group (at heap state.words (Control group)) position is in
      let here : (16 * group + position) / 16 ≡ group = omega (arith, within) in
      let grey = lowest_is_grey heap state.words book.colour group rule.machine.table below marks position is in
      let none : 16 * heap.groups - scanned_words heap state.words - 0 ≡ 16 * heap.groups - scanned_words heap state.words = omega arith in
      rw (here, none) (scan_begins heap.groups (16 * heap.groups) (scanned_count heap state.words) (16 * heap.groups - scanned_words heap state.words) group _ (seen_few (16 * group + position) (omega (arith, within, below)) grey))

  -- the spine words of a grey fragment that has a spine are left
  spine_is_left : (s : SpineScan) → s.scan.fragment < 16 * heap.groups → book.colour s.scan.fragment ≡ Grey → IsSpineOf heap state.words s
      → (told_words heap state.words s.scan.fragment ≡ s.words) × (s.words ≤ 16 * heap.groups - scanned_words heap state.words)
  spine_is_left s within grey spine =
      let f : ℕ = s.scan.fragment in
      let set : 1 ≤ bit_at (control_of heap state.words f) (marked_at f) = omega (arith, marks.marked f within, ap marked_bit grey) in
      let told : told_words heap state.words f ≡ s.words = omega (arith, where_set_is_number (bit_at (control_of heap state.words f) (marked_at f)) (spine_words_in (at heap state.words (Word f 0))) set, spine.as_many) in
      (told, omega (arith, told, scanned_words_fit heap state book rule f within (grey_is_unscanned f within grey)))

pub passing_leaves_fewer : (group : ℕ) (found : Bool) → StageLeavesFewer (stages.Passing group found)
passing_leaves_fewer group found heap state book rule passing stepped =
    let fits : IsPassing heap state.collector.phase state.collector.looked group = rw passing at rule.machine.collector_fit.at_stage in
    rw (put_of_read_changes_nothing heap state.words (Control group))
    (fewer_left_at_stage heap state (stages.Passing group found) passing state.words state.collector.looked (after_pass heap group found (lowest_grey_of (at heap state.words (Control group))))
    (pass_finds heap state book rule group found fits.group_within (lowest_grey_of (at heap state.words (Control group))) refl))

pub scanning_leaves_fewer : (scan : Scan) → StageLeavesFewer (stages.Scanning scan)
scanning_leaves_fewer scan heap state book rule scanning stepped =
    let fits : IsScanning heap state.collector.phase state.collector.looked scan = rw scanning at rule.machine.collector_fit.at_stage in
    let word : ℕ = at heap state.words (Word scan.fragment scan.part) in
    rw (put_of_read_changes_nothing heap state.words (Word scan.fragment scan.part))
    (fewer_left_at_stage heap state (stages.Scanning scan) scanning state.words state.collector.looked (after_first_load scan (array_at scan.part word) (part_after scan.part word) (pointer_in scan.part word))
    (first_load_leaves heap state.collector.phase state.collector.looked state.words scan (array_at scan.part word) (part_after scan.part word) (pointer_in scan.part word) (later_part scan.part word) fits.part_within))

pub shading_leaves_fewer : (scan : Scan) (target next : ℕ) → StageLeavesFewer (stages.Shading scan target next)
shading_leaves_fewer scan target next heap state book rule shading stepped =
    let fits : IsShading heap state.collector.phase state.collector.looked scan target next = rw shading at rule.machine.collector_fit.at_stage in
    fewer_left_in_words_after heap state (stages.Shading scan target next) shading book rule state.collector.looked (scan_at (scan_step scan) next) tt
    (shaded_leaves heap state.collector.phase state.collector.looked _ scan next fits.part_before fits.next_within)

pub addressing_leaves_fewer : (scan : Scan) (n : ℕ) → StageLeavesFewer (stages.Addressing scan n)
addressing_leaves_fewer scan n heap state book rule addressing stepped =
    rw (put_of_read_changes_nothing heap state.words (Word scan.fragment 2))
    (fewer_left_at_stage heap state (stages.Addressing scan n) addressing state.words state.collector.looked (after_address scan n (at heap state.words (Word scan.fragment 2)))
    (addressed_leaves heap state.collector.phase state.collector.looked state.words scan n _))

pub indexing_leaves_fewer : (s : SpineScan) → StageLeavesFewer (stages.Indexing s)
indexing_leaves_fewer s heap state book rule indexing stepped =
    let word : ℕ = at heap state.words (Spine s.spine.half (s.spine.offset + s.index)) in
    rw (put_of_read_changes_nothing heap state.words (Spine s.spine.half (s.spine.offset + s.index)))
    (fewer_left_at_stage heap state (stages.Indexing s) indexing state.words state.collector.looked (stages.Spreading (spine_step s) (payload_in word))
    (fewer_steps heap state.collector.phase state.collector.looked state.words s.scan s.index 0 1 (omega arith)))

pub spreading_leaves_fewer : (s : SpineScan) (target : ℕ) → StageLeavesFewer (stages.Spreading s target)
spreading_leaves_fewer s target heap state book rule spreading stepped =
    let fits : IsSpreading heap state.collector.phase state.collector.looked s target = rw spreading at rule.machine.collector_fit.at_stage in
    let seen : IsSeen heap state.words book.colour s.scan.fragment (4 + s.index) × IsSpineOf heap state.words s × WordPointsTo heap state.words s.scan.fragment (4 + s.index) target × MayMark book.owner book.colour book.fragments target
    = rw spreading at rule.marks_stand.heap_marks.scan in
    let left = spine_is_left heap state book rule s fits.on.fragment_within seen.0.grey seen.1 in
    let now : List ℕ = (state_after_turn heap state (turn_at heap state.collector (stages.Spreading s target))).words in
    let keeps : LosesNothing heap state.words now = turn_loses_nothing heap state (stages.Spreading s target) spreading book rule tt in
    fewer_left_at_stage heap state (stages.Spreading s target) spreading now state.collector.looked (after_spread s)
    (spine_scan_cases (λ stage. left_in_phase heap now state.collector.phase state.collector.looked stage < scan_left heap state.words s.scan s.index 0) _
    (λ more. below_then heap state.collector.phase state.collector.looked now _ _ _ (scan_left_falls heap state.words now keeps s.scan (s.index + 1) (s.index + 1) 1 (omega arith))
    (word_behind_leaves heap state.collector.phase state.collector.looked state.words s.scan s.index (s.index + 1) (omega arith) (omega (arith, left.1, fits.on.index_within))))
    (λ done. below_then heap state.collector.phase state.collector.looked now _ _ _ (scan_left_falls heap state.words now keeps s.scan s.words (told_words heap now s.scan.fragment) 1 (omega (arith, left.0, keeps.told s.scan.fragment fits.on.fragment_within)))
    (word_behind_leaves heap state.collector.phase state.collector.looked state.words s.scan s.index s.words fits.on.index_within left.1)))

-- a blacken scans one more fragment
pub blackening_leaves_fewer : (scan : Scan) → StageLeavesFewer (stages.Blackening scan)
blackening_leaves_fewer scan heap state book rule blackening stepped =
    let f : ℕ = scan.fragment in
    let fits : IsBlackening heap state.collector.phase state.collector.looked scan = rw blackening at rule.machine.collector_fit.at_stage in
    let seen : IsSeenWhole heap state.words book.colour f = rw blackening at rule.marks_stand.heap_marks.scan in
    let now : List ℕ = put heap state.words (Control (f / 16)) (bit_or (at heap state.words (Control (f / 16))) (blacken_bit_of f)) in
    let keeps : LosesNothing heap state.words now = turn_loses_nothing heap state (stages.Blackening scan) blackening book rule tt in
    let was : bit_at (control_of heap state.words f) (scanned_at f) ≡ 0 = grey_is_unscanned heap state book rule f fits.fragment_within seen.grey in
    let is : bit_at (control_of heap now f) (scanned_at f) ≡ 1 =
    (marks_after_blackening heap state.words book.owner book.colour f rule.machine.table fits.fragment_within seen.grey rule.heap_stands.cycle.marks).scanned f fits.fragment_within ∙ ap scanned_bit (scanned_is_black book.colour f) in
    let count : scanned_count heap state.words + 1 ≤ scanned_count heap now = sum_grows_at (16 * heap.groups) 1 f (λ g. bit_at (control_of heap state.words g) (scanned_at g)) (λ g. bit_at (control_of heap now g) (scanned_at g))
    fits.fragment_within keeps.scanned (omega (arith, was, is)) in
    let spine_words : scanned_words heap state.words + told_words heap state.words f ≤ scanned_words heap now = sum_grows_at (16 * heap.groups) (told_words heap state.words f) f
    (λ g. where_set (bit_at (control_of heap state.words g) (scanned_at g)) (told_words heap state.words g)) (λ g. where_set (bit_at (control_of heap now g) (scanned_at g)) (told_words heap now g)) fits.fragment_within
    (λ g below. where_set_grows (bit_at (control_of heap state.words g) (scanned_at g)) (bit_at (control_of heap now g) (scanned_at g)) (told_words heap state.words g) (told_words heap now g) (keeps.scanned g below) (keeps.told g below))
    (omega (
      arith,
      where_unset_is_none (bit_at (control_of heap state.words f) (scanned_at f)) (told_words heap state.words f) was,
      where_set_is_number (bit_at (control_of heap now f) (scanned_at f)) (told_words heap now f) (omega (arith, is)),
      keeps.told f fits.fragment_within,
    )) in
    fewer_left_at_stage heap state (stages.Blackening scan) blackening now state.collector.looked (stages.Passing (f / 16) true)
    (by _ _ (fewer_passes_left heap.groups (16 * heap.groups - scanned_count heap now) (16 * heap.groups - (scanned_count heap state.words + 1)) (16 * heap.groups - scanned_words heap now)
    (16 * heap.groups - scanned_words heap state.words - told_words heap state.words f) (f / 16) heap.groups (omega (arith, count)) (omega (arith, spine_words))))
  where
    by : (m n : ℕ) → m ≤ n → m < n + 1
    by m n less = omega (arith, less)

pub flipping_leaves_fewer : StageLeavesFewer stages.Flipping
flipping_leaves_fewer heap state book rule flipping stepped = fewer_left_at_stage heap state stages.Flipping flipping (state_after_turn heap state (turn_at heap state.collector stages.Flipping)).words state.collector.looked stages.Advancing (omega arith)
