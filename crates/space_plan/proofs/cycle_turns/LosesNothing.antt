-- Where no fragment loses its scanned bit, and none tells fewer words than before, no more turns are left.
use Rattle.std.specs.Int.{bit_at}
use Rattle.std.proofs.Common.{ℕ, ◌+◌, ◌-◌, ◌*◌, ◌/◌, ◌<◌, ◌≤◌, List, arith}
use Rattle.std.proofs.Math.Nat.{mul-le-mul_right}
use Rattle.core_rule.proofs.Terms.{control_of, scanned_at, Heap, FitsCopying, Stage}
use Rattle.core_machine.specs.collector.CopyingTurns.{visited}
use Rattle.core_machine.specs.collector.FitsTurns.{FitsStage, FitsVisit}
use Rattle.core_machine.specs.declared.collector.stage.Copying.{Copying}
use Rattle.core_machine.specs.declared.collector.stage.Copying.TheVariants as copying
use Rattle.core_machine.specs.declared.collector.stage.Scan.{Scan}
use Rattle.core_machine.specs.declared.collector.stage.Stage.TheVariants as stages
use Rattle.core_machine.specs.declared.collector.stage.Visit.{Visit}
use Rattle.core_rule.specs.turns.TurnsLeft.{scanned_count}
use Rattle.core_rule.proofs.lists.SumLemmas.{sum_le}
use Rattle.space_plan.specs.cycle_turns.ToldWords.{told_words, scanned_words, fragments_before}
use Rattle.space_plan.specs.cycle_turns.CopyingLeft.{visits_left, behind_visit, copying_left}
use Rattle.space_plan.specs.cycle_turns.CycleLeft.{left_in_phase, phases_left, cycle_left_at}
use Rattle.space_plan.specs.cycle_turns.MarkingLeft.{passes_left, scan_left}
use Rattle.space_plan.proofs.cycle_turns.Sums.{where_set_grows, fragments_told_grow}

-- no fragment of the heap loses its scanned bit, and none tells fewer spine words
pub record LosesNothing (heap : Heap) (words now : List ℕ) : Type 0 where
  pub scanned : (f : ℕ) → f < 16 * heap.groups → bit_at (control_of heap words f) (scanned_at f) ≤ bit_at (control_of heap now f) (scanned_at f)
  pub told : (f : ℕ) → f < 16 * heap.groups → told_words heap words f ≤ told_words heap now f

-- with fewer fragments and spine words to come less is left of the passes
pub fewer_passes_left : (groups a b v w group again : ℕ) → a ≤ b → v ≤ w → passes_left groups a v group again ≤ passes_left groups b w group again
fewer_passes_left groups a b v w group again less few =
    let times : a * (groups + 10) ≤ b * (groups + 10) = mul-le-mul_right (groups + 10) less in
    by (a * (groups + 10)) (b * (groups + 10)) (groups - group) times
  where
    by : (m n g : ℕ) → m ≤ n → m + 2 * v + g + again + 1 ≤ n + 2 * w + g + again + 1
    by m n g more = omega (arith, more, few)

module _ (heap : Heap) (words now : List ℕ) (keeps : LosesNothing heap words now) where
  -- no fewer are scanned
  pub scanned_count_grows : scanned_count heap words ≤ scanned_count heap now
  scanned_count_grows = sum_le (16 * heap.groups) _ _ keeps.scanned

  -- with no fewer spine words
  pub scanned_words_grow : scanned_words heap words ≤ scanned_words heap now
  scanned_words_grow = sum_le (16 * heap.groups) _ _ (λ f below. where_set_grows _ _ _ _ (keeps.scanned f below) (keeps.told f below))

  -- and those before a fragment tell of no fewer fragments
  pub fragments_before_grow : (f : ℕ) → f ≤ 16 * heap.groups → fragments_before heap words f ≤ fragments_before heap now f
  fragments_before_grow f within = sum_le f _ _ (λ g below. fragments_told_grow _ _ (keeps.told g (omega (arith, below, within))))

  -- so no more is left of a scan
  pub scan_left_falls : (scan : Scan) (behind later steps : ℕ) → behind ≤ later → scan_left heap now scan later steps ≤ scan_left heap words scan behind steps
  scan_left_falls scan behind later steps further =
      let passes = fewer_passes_left heap.groups (16 * heap.groups - (scanned_count heap now + 1)) (16 * heap.groups - (scanned_count heap words + 1)) (16 * heap.groups - scanned_words heap now - later)
      (16 * heap.groups - scanned_words heap words - behind) (scan.fragment / 16) heap.groups (omega (arith, scanned_count_grows)) (omega (arith, scanned_words_grow, further)) in
      more _ _ passes
    where
      more : (m n : ℕ) → m ≤ n → m + steps ≤ n + steps
      more m n less = omega (arith, less)

  visits_left_fall : (group from : ℕ) → from ≤ 16 * heap.groups → visits_left heap now group from ≤ visits_left heap words group from
  visits_left_fall group from within = omega (arith, fragments_before_grow from within)

  behind_visit_falls : (visit : Visit) → FitsVisit heap visit → behind_visit heap now visit ≤ behind_visit heap words visit
  behind_visit_falls visit fits = visits_left_fall (visit.group + 1) (visited visit + 1) (omega (arith, fits.group_within, fits.position_within))

  copying_left_falls : (stage : Copying) → FitsCopying heap stage → copying_left heap now stage ≤ copying_left heap words stage
  copying_left_falls (copying.Visiting group) fits = visits_left_fall group (16 * group) (omega (arith, fits))
  copying_left_falls (copying.Inspecting visit) fits = visits_left_fall (visit.group + 1) (visited visit) (omega (arith, fits.group_within, fits.position_within))
  copying_left_falls (copying.Naming visit n) fits = omega (arith, behind_visit_falls visit fits.0)
  copying_left_falls (copying.Locating array) fits = omega (arith, behind_visit_falls array.visit fits.there)
  copying_left_falls (copying.Claiming array from) fits = omega (arith, behind_visit_falls array.visit fits.0.there)
  copying_left_falls (copying.Loading copy) fits = omega (arith, behind_visit_falls copy.array.visit fits.0.array_fits.there)
  copying_left_falls (copying.Storing copy word) fits = omega (arith, behind_visit_falls copy.array.visit fits.copies.array_fits.there)
  copying_left_falls (copying.Swinging copy) fits = omega (arith, behind_visit_falls copy.array.visit fits.0.array_fits.there)

  -- and of no stage
  pub left_in_phase_falls : (phase looked : ℕ) (stage : Stage) → FitsStage heap phase looked stage → left_in_phase heap now phase looked stage ≤ left_in_phase heap words phase looked stage
  left_in_phase_falls phase looked (stages.Passing group found) fits =
      fewer_passes_left heap.groups (16 * heap.groups - scanned_count heap now) (16 * heap.groups - scanned_count heap words) (16 * heap.groups - scanned_words heap now) (16 * heap.groups - scanned_words heap words)
      group _ (omega (arith, scanned_count_grows)) (omega (arith, scanned_words_grow))
  left_in_phase_falls phase looked (stages.Scanning scan) fits = scan_left_falls scan 0 0 _ (omega arith)
  left_in_phase_falls phase looked (stages.Shading scan target next) fits = scan_left_falls scan 0 0 _ (omega arith)
  left_in_phase_falls phase looked (stages.Addressing scan n) fits = scan_left_falls scan 0 0 _ (omega arith)
  left_in_phase_falls phase looked (stages.Indexing s) fits = scan_left_falls s.scan s.index s.index _ (omega arith)
  left_in_phase_falls phase looked (stages.Spreading s target) fits = scan_left_falls s.scan s.index s.index _ (omega arith)
  left_in_phase_falls phase looked (stages.Blackening scan) fits = scan_left_falls scan _ _ _ (keeps.told scan.fragment fits.fragment_within)
  left_in_phase_falls phase looked (stages.Copying stage) fits = copying_left_falls stage fits.1
  left_in_phase_falls phase looked _ fits = omega arith

  pub cycle_left_falls : (phase looked : ℕ) (stage : Stage) → FitsStage heap phase looked stage → cycle_left_at heap now phase looked stage ≤ cycle_left_at heap words phase looked stage
  cycle_left_falls phase looked stage fits = by _ _ (phases_left heap phase) (left_in_phase_falls phase looked stage fits)
    where
      by : (m n more : ℕ) → m ≤ n → m + 1 + more ≤ n + 1 + more
      by m n more less = omega (arith, less)
