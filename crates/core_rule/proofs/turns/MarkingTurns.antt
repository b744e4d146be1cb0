-- Each turn of marking leaves fewer turns.
use Rattle.std.proofs.Common.{suc, ◌≡◌, ℕ, ◌+◌, ◌-◌, ◌*◌, ◌/◌, ◌<◌, Bool, true, false, List, Option, Some, None, inl, inr, refl, sym, ap, ◌∙◌, subst, bit_or, arith}
use Rattle.std.proofs.lemmas.Bool.Decides.{leb_tells}
use Rattle.core_rule.proofs.Terms.{blacken_bit_of, spot_word, Heap, IsPassing, IsScanning, IsShading, IsBlackening, Stage, Control, Word, State, pointer_in, at, put, Book, Grey}
use Rattle.core_rule.proofs.Terms.{Marks, IsSeenWhole, IsFewWords, Rule}
use Rattle.heap_words.specs.Control.{shade_bit_of}
use Rattle.core_machine.specs.collector.Marking.{lowest_grey_of, after_last_group, after_group, after_pass, part_after, scan_step, scan_at, after_scan_load, array_at, after_first_load}
use Rattle.core_machine.specs.collector.Copying.{next_half}
use Rattle.core_machine.specs.declared.collector.stage.Scan.{Scan}
use Rattle.core_machine.specs.declared.collector.stage.Stage.TheVariants as stages
use Rattle.core_machine.specs.declared.table.address.Address.TheVariants.{Spot}
use Rattle.core_machine.proofs.table_lemmas.Addresses.{put_of_read_changes_nothing}
use Rattle.core_machine.proofs.table_lemmas.Grey.{grey_position_within_group}
use Rattle.core_rule.specs.turns.TurnsLeft.{scanned_count, next_pass, marking_left, scanning_left, stage_left}
use Rattle.core_rule.proofs.colours.BlackenColours.{with_scan, marks_after_blackening}
use Rattle.core_rule.proofs.colours.ShadeColours.{with_mark, marks_after_shade}
use Rattle.core_rule.proofs.marking.GreyPositions.{lowest_is_grey}
use Rattle.core_rule.proofs.marking.Scans.{scan_cases}
use Rattle.core_rule.proofs.turns.Lefts.{StageLeavesFewer, fewer_turns_left_at_stage}
use Rattle.core_rule.proofs.turns.ScannedCounts.{scanned_count_is_black_count, black_count_same_after_shade, black_count_grows_by_scan, grey_leaves_black_fewer}

-- the flip comes after all of it
and_flip : (less more : ℕ) → less < more → less + 1 < more + 1
and_flip less more fewer = omega (arith, fewer)

-- a scan begins: one fragment more counts as seen, which is more than the scan and the next pass take
scan_begins : (groups seen group again : ℕ) → seen < 16 * groups → marking_left groups (seen + 1) 2051 group (groups + 1) < marking_left groups seen 0 group again
scan_begins groups seen group again fewer =
    let one : 16 * groups - seen ≡ suc (16 * groups - (seen + 1)) = omega (arith, fewer) in
    rw one (grown (16 * groups - (seen + 1)))
  where
    grown : (m : ℕ) → m * (groups + 2060) + 2051 + (groups - group) + (groups + 1) < suc m * (groups + 2060) + 0 + (groups - group) + again
    grown m = let more : suc m * (groups + 2060) ≡ m * (groups + 2060) + (groups + 2060) = grind arith in omega (arith, more)

-- it goes on, and ends
less_of_scan : (groups seen scan later group again : ℕ) → later < scan → marking_left groups seen later group again < marking_left groups seen scan group again
less_of_scan groups seen scan later group again less = by ((16 * groups - seen) * (groups + 2060)) (groups - group)
  where
    by : (m g : ℕ) → m + later + g + again < m + scan + g + again
    by m g = omega (arith, less)

-- the next group's turn comes, or another pass begins, or marking has ended
next_group_less : (groups seen group again : ℕ) → group < groups → marking_left groups seen 0 (group + 1) again < marking_left groups seen 0 group again
next_group_less groups seen group again below = by ((16 * groups - seen) * (groups + 2060))
  where
    by : (m : ℕ) → m + 0 + (groups - (group + 1)) + again < m + 0 + (groups - group) + again
    by m = omega (arith, below)

next_pass_less : (groups seen group : ℕ) → group < groups → marking_left groups seen 0 0 0 < marking_left groups seen 0 group (groups + 1)
next_pass_less groups seen group below = by ((16 * groups - seen) * (groups + 2060))
  where
    by : (m : ℕ) → m + 0 + (groups - 0) + 0 < m + 0 + (groups - group) + (groups + 1)
    by m = omega (arith, below)

some_left : (groups seen group again : ℕ) → group < groups → 0 < marking_left groups seen 0 group again
some_left groups seen group again below = by ((16 * groups - seen) * (groups + 2060))
  where
    by : (m : ℕ) → 0 < m + 0 + (groups - group) + again
    by m = omega (arith, below)

module _ (heap : Heap) (phase looked : ℕ) (words : List ℕ) where
  last_group_leaves : (group : ℕ) (found : Bool) → group < heap.groups → stage_left heap words phase looked (after_last_group found) < stage_left heap words phase looked (stages.Passing group found)
  last_group_leaves group true below = and_flip _ _ (next_pass_less heap.groups (scanned_count heap words) group below)
  last_group_leaves group false below = and_flip 0 _ (some_left heap.groups (scanned_count heap words) group 0 below)

  group_leaves : (group : ℕ) (found : Bool) → group < heap.groups → stage_left heap words phase looked (after_group heap group found) < stage_left heap words phase looked (stages.Passing group found)
  group_leaves group found below = elim (leb_tells (suc (group + 1)) heap.groups) as (λ _. stage_left heap words phase looked (after_group heap group found) < stage_left heap words phase looked (stages.Passing group found)) [
    | inl more ↦ rw more.0 (and_flip _ _ (next_group_less heap.groups (scanned_count heap words) group (next_pass heap.groups found) below))
    | inr last ↦ rw last.0 (last_group_leaves group found below)
  ]

  -- a scan has made one step more
  pub scan_step_leaves_less : (scan : Scan) → scan.steps < 2051 → scanning_left heap words (scan_step scan) < scanning_left heap words scan
  scan_step_leaves_less scan few = and_flip _ _ (less_of_scan heap.groups (scanned_count heap words + 1) (2051 - scan.steps) (2051 - (scan.steps + 1)) (scan.fragment / 16) (heap.groups + 1) (omega (arith, few)))

  scan_at_leaves : (scan : Scan) (part : ℕ) → scan.steps < 2051 → stage_left heap words phase looked (scan_at (scan_step scan) part) < scanning_left heap words scan
  scan_at_leaves scan part few = scan_cases (λ stage. stage_left heap words phase looked stage < scanning_left heap words scan) (scan_step scan) part (scan_step_leaves_less scan few) (λ behind. scan_step_leaves_less scan few)

  scan_load_leaves : (scan : Scan) (next : ℕ) (found : Option ℕ) → scan.steps < 2051 → stage_left heap words phase looked (after_scan_load scan next found) < scanning_left heap words scan
  scan_load_leaves scan next None few = scan_at_leaves scan next few
  scan_load_leaves scan next (Some target) few = scan_step_leaves_less scan few

  first_load_leaves : (scan : Scan) (length : Option ℕ) (next : ℕ) (found : Option ℕ) → scan.steps < 2051
      → stage_left heap words phase looked (after_first_load scan length next found) < scanning_left heap words scan
  first_load_leaves scan None next found few = scan_load_leaves scan next found few
  first_load_leaves scan (Some cells) next found few = scan_step_leaves_less scan few

module _ (heap : Heap) (state : State) (book : Book) (rule : Rule heap state book) where
  abbrev phase : ℕ
  phase = state.collector.phase

  abbrev looked : ℕ
  looked = state.collector.looked

  marks : Marks heap state.words book.colour
  marks = rule.heap_stands.cycle.marks

  -- a grey fragment isn't scanned
  seen_few : (f : ℕ) → f < 16 * heap.groups → book.colour f ≡ Grey → scanned_count heap state.words < 16 * heap.groups
  seen_few f below grey = rw (scanned_count_is_black_count heap state.words book.colour marks) (grey_leaves_black_fewer (16 * heap.groups) book.colour f below grey)

  module _ (group : ℕ) (found : Bool) (below : group < heap.groups) where
    pass_finds : (position : Option ℕ) → lowest_grey_of (at heap state.words (Control group)) ≡ position
        → stage_left heap state.words phase looked (after_pass heap group found position) < stage_left heap state.words phase looked (stages.Passing group found)
    pass_finds None is = group_leaves heap phase looked state.words group found below
    pass_finds (Some position) is =
        let within = grey_position_within_group (at heap state.words (Control group)) position is in
        let here : (16 * group + position) / 16 ≡ group = omega (arith, within) in
        let grey = lowest_is_grey heap state.words book.colour group rule.machine.table below marks position is in
        rw here (and_flip _ _ (scan_begins heap.groups (scanned_count heap state.words) group (next_pass heap.groups found) (seen_few (16 * group + position) (omega (arith, within, below)) grey)))

  -- a shade scans nothing
  pub scanned_count_same_after_shade : (m : ℕ) → m < 16 * heap.groups
      → scanned_count heap (put heap state.words (Control (m / 16)) (bit_or (at heap state.words (Control (m / 16))) (shade_bit_of m))) ≡ scanned_count heap state.words
  scanned_count_same_after_shade m within =
      scanned_count_is_black_count heap _ (with_mark book.colour m) (marks_after_shade heap state.words book.owner book.colour m rule.machine.table within marks)
      ∙ black_count_same_after_shade (16 * heap.groups) book.colour m ∙ sym (scanned_count_is_black_count heap state.words book.colour marks)

  -- a blacken scans one
  blackened_count : (f : ℕ) → f < 16 * heap.groups → book.colour f ≡ Grey
      → scanned_count heap (put heap state.words (Control (f / 16)) (bit_or (at heap state.words (Control (f / 16))) (blacken_bit_of f))) ≡ scanned_count heap state.words + 1
  blackened_count f within grey =
      scanned_count_is_black_count heap _ (with_scan book.colour f) (marks_after_blackening heap state.words book.owner book.colour f rule.machine.table within grey marks)
      ∙ black_count_grows_by_scan (16 * heap.groups) book.colour f within grey ∙ ap (λ n. n + 1) (sym (scanned_count_is_black_count heap state.words book.colour marks))

pub pass_leaves_fewer : (group : ℕ) (found : Bool) → StageLeavesFewer (stages.Passing group found)
pass_leaves_fewer group found heap state book rule passing stepped =
    let fits : IsPassing heap state.collector.phase state.collector.looked group = rw passing at rule.machine.collector_fit.at_stage in
    let to : Stage = after_pass heap group found (lowest_grey_of (at heap state.words (Control group))) in
    rw (put_of_read_changes_nothing heap state.words (Control group))
    (fewer_turns_left_at_stage heap state (stages.Passing group found) state.words state.collector.looked to passing
    (pass_finds heap state book rule group found fits.group_within (lowest_grey_of (at heap state.words (Control group))) refl))

pub scan_leaves_fewer : (scan : Scan) → StageLeavesFewer (stages.Scanning scan)
scan_leaves_fewer scan heap state book rule scanning stepped =
    let fits : IsScanning heap state.collector.phase state.collector.looked scan = rw scanning at rule.machine.collector_fit.at_stage in
    let word : ℕ = at heap state.words (Word scan.fragment scan.part) in
    rw (put_of_read_changes_nothing heap state.words (Word scan.fragment scan.part))
    (fewer_turns_left_at_stage heap state (stages.Scanning scan) state.words state.collector.looked (after_first_load scan (array_at scan.part word) (part_after scan.part word) (pointer_in scan.part word)) scanning
    (first_load_leaves heap state.collector.phase state.collector.looked state.words scan (array_at scan.part word) (part_after scan.part word) (pointer_in scan.part word) (omega (arith, fits.few_steps, fits.part_within))))

pub shade_leaves_fewer : (scan : Scan) (target next : ℕ) → StageLeavesFewer (stages.Shading scan target next)
shade_leaves_fewer scan target next heap state book rule shading stepped =
    let fits : IsShading heap state.collector.phase state.collector.looked scan target next = rw shading at rule.machine.collector_fit.at_stage in
    let now : List ℕ = put heap state.words (Control (target / 16)) (bit_or (at heap state.words (Control (target / 16))) (shade_bit_of target)) in
    fewer_turns_left_at_stage heap state (stages.Shading scan target next) now state.collector.looked (scan_at (scan_step scan) next) shading
    (subst (λ n. stage_left heap now state.collector.phase state.collector.looked (scan_at (scan_step scan) next) < marking_left heap.groups (n + 1) (2051 - scan.steps) (scan.fragment / 16) (heap.groups + 1) + 1)
    (scanned_count_same_after_shade heap state book rule target fits.target_within)
    (scan_at_leaves heap state.collector.phase state.collector.looked now scan next (omega (arith, fits.few_steps, fits.part_within))))

pub blacken_leaves_fewer : (scan : Scan) → IsFewWords (stages.Blackening scan) → StageLeavesFewer (stages.Blackening scan)
blacken_leaves_fewer scan few heap state book rule blackening stepped =
    let fits : IsBlackening heap state.collector.phase state.collector.looked scan = rw blackening at rule.machine.collector_fit.at_stage in
    let seen : IsSeenWhole heap state.words book.colour scan.fragment = rw blackening at rule.marks_stand.heap_marks.scan in
    let now : List ℕ = put heap state.words (Control (scan.fragment / 16)) (bit_or (at heap state.words (Control (scan.fragment / 16))) (blacken_bit_of scan.fragment)) in
    fewer_turns_left_at_stage heap state (stages.Blackening scan) now state.collector.looked (stages.Passing (scan.fragment / 16) true) blackening
    (rw (blackened_count heap state book rule scan.fragment fits.fragment_within seen.grey)
    (and_flip _ _ (less_of_scan heap.groups (scanned_count heap state.words + 1) (2051 - scan.steps) 0 (scan.fragment / 16) (heap.groups + 1) (omega (arith, few)))))

pub flip_leaves_fewer : StageLeavesFewer stages.Flipping
flip_leaves_fewer heap state book rule flipping stepped =
    fewer_turns_left_at_stage heap state stages.Flipping (put heap state.words Spot (spot_word (record { half = next_half state.collector.phase; offset = 0 }))) state.collector.looked stages.Advancing flipping (omega arith)
