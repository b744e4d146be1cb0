-- What is left of marking from group to group and within a scan, as numbers alone.
use Rattle.std.specs.Prelude.{if◌then◌else◌}
use Rattle.std.proofs.Common.{◌≡◌, ℕ, suc, ◌+◌, ◌-◌, ◌*◌, ◌/◌, ◌<◌, ◌≤◌, Bool, true, false, List, Option, Some, None, inl, inr, arith}
use Rattle.std.proofs.lemmas.Bool.Decides.{eqb_tells, leb_tells}
use Rattle.core_rule.proofs.Terms.{Heap, Stage, is_meta}
use Rattle.core_machine.specs.collector.Marking.{after_last_group, after_group, part_after, scan_step, scan_at, after_scan_load, after_first_load, after_address}
use Rattle.core_machine.specs.declared.collector.stage.Scan.{Scan}
use Rattle.core_machine.specs.declared.collector.stage.Stage.TheVariants as stages
use Rattle.core_machine.proofs.collector_lemmas.SpineTurns.{spine_scan_cases}
use Rattle.core_rule.specs.turns.TurnsLeft.{scanned_count}
use Rattle.core_rule.proofs.marking.Scans.{scan_cases}
use Rattle.space_plan.specs.cycle_turns.ToldWords.{told_words, scanned_words}
use Rattle.space_plan.specs.cycle_turns.CycleLeft.{left_in_phase}
use Rattle.space_plan.specs.cycle_turns.MarkingLeft.{passes_left, scan_left}
use Rattle.space_plan.proofs.cycle_turns.LosesNothing.{fewer_passes_left}

-- a scan begins: a fragment that isn't scanned pays for it, and for the next pass
pub scan_begins : (groups all seen spine_words group again : ℕ) → seen < all → passes_left groups (all - (seen + 1)) spine_words group groups + 9 < passes_left groups (all - seen) spine_words group again
scan_begins groups all seen spine_words group again fewer =
    let one : all - seen ≡ suc (all - (seen + 1)) = omega (arith, fewer) in
    rw one (grown (all - (seen + 1)) (groups - group))
  where
    grown : (m g : ℕ) → m * (groups + 10) + 2 * spine_words + g + groups + 1 + 9 < suc m * (groups + 10) + 2 * spine_words + g + again + 1
    grown m g = let more : suc m * (groups + 10) ≡ m * (groups + 10) + (groups + 10) = grind arith in omega (arith, more)

-- the next group's turn comes, or another pass begins, or marking has ended
next_group_less : (groups fragments spine_words group again : ℕ) → group < groups → passes_left groups fragments spine_words (group + 1) again < passes_left groups fragments spine_words group again
next_group_less groups fragments spine_words group again below = by (fragments * (groups + 10))
  where
    by : (m : ℕ) → m + 2 * spine_words + (groups - (group + 1)) + again + 1 < m + 2 * spine_words + (groups - group) + again + 1
    by m = omega (arith, below)

next_pass_less : (groups fragments spine_words group : ℕ) → group < groups → passes_left groups fragments spine_words 0 0 < passes_left groups fragments spine_words group groups
next_pass_less groups fragments spine_words group below = by (fragments * (groups + 10))
  where
    by : (m : ℕ) → m + 2 * spine_words + (groups - 0) + 0 + 1 < m + 2 * spine_words + (groups - group) + groups + 1
    by m = omega (arith, below)

flip_is_left : (groups fragments spine_words group again : ℕ) → group < groups → 1 < passes_left groups fragments spine_words group again
flip_is_left groups fragments spine_words group again below = by (fragments * (groups + 10))
  where
    by : (m : ℕ) → 1 < m + 2 * spine_words + (groups - group) + again + 1
    by m = omega (arith, below)

-- a later word comes after this one
pub later_part : (part word : ℕ) → part < part_after part word
later_part part word = elim (eqb_tells part 0) as (λ _. part < part_after part word) [
  | inl first ↦ rw first.0 (by (is_meta word) first.1)
  | inr behind ↦ rw behind.0 (omega arith)
]
  where
    by : (b : Bool) → part ≡ 0 → part < (if b then 2 else 1)
    by true first = omega (arith, first)
    by false first = omega (arith, first)

module _ (heap : Heap) (phase looked : ℕ) (words : List ℕ) where
  -- so many turns are left at a stage
  abbrev left_at : Stage → ℕ
  left_at stage = left_in_phase heap words phase looked stage

  last_group_leaves : (group : ℕ) (found : Bool) → group < heap.groups → left_at (after_last_group found) < left_at (stages.Passing group found)
  last_group_leaves group true below = next_pass_less heap.groups (16 * heap.groups - scanned_count heap words) (16 * heap.groups - scanned_words heap words) group below
  last_group_leaves group false below = flip_is_left heap.groups (16 * heap.groups - scanned_count heap words) (16 * heap.groups - scanned_words heap words) group 0 below

  pub group_leaves : (group : ℕ) (found : Bool) → group < heap.groups → left_at (after_group heap group found) < left_at (stages.Passing group found)
  group_leaves group found below = elim (leb_tells (suc (group + 1)) heap.groups) as (λ _. left_at (after_group heap group found) < left_at (stages.Passing group found)) [
    | inl more ↦ rw more.0 (next_group_less heap.groups (16 * heap.groups - scanned_count heap words) (16 * heap.groups - scanned_words heap words) group _ below)
    | inr last ↦ rw last.0 (last_group_leaves group found below)
  ]

  -- fewer steps are left of a scan that goes on, and of one with more spine words behind it
  pub fewer_steps : (scan : Scan) (behind m n : ℕ) → m < n → scan_left heap words scan behind m < scan_left heap words scan behind n
  fewer_steps scan behind m n less = by _
    where
      by : (b : ℕ) → b + m < b + n
      by b = omega (arith, less)

  -- a scan that is through has no more left than its last step, whatever spine words are behind it
  through_leaves : (scan : Scan) (behind steps : ℕ) → 1 ≤ steps → scan_left heap words scan behind 1 ≤ scan_left heap words scan 0 steps
  through_leaves scan behind steps some =
      let less = fewer_passes_left heap.groups (16 * heap.groups - (scanned_count heap words + 1)) (16 * heap.groups - (scanned_count heap words + 1)) (16 * heap.groups - scanned_words heap words - behind)
      (16 * heap.groups - scanned_words heap words - 0) (scan.fragment / 16) heap.groups (omega arith) (omega arith) in
      by _ _ less
    where
      by : (m n : ℕ) → m ≤ n → m + 1 ≤ n + steps
      by m n fewer = omega (arith, fewer, some)

  scan_at_leaves : (scan : Scan) (part : ℕ) → left_at (scan_at (scan_step scan) part) ≤ scan_left heap words scan 0 (2 * (4 - part) + 1)
  scan_at_leaves scan part = scan_cases (λ stage. left_at stage ≤ scan_left heap words scan 0 (2 * (4 - part) + 1)) (scan_step scan) part (same _)
      (λ behind. through_leaves scan (told_words heap words scan.fragment) (2 * (4 - part) + 1) (omega arith))
    where
      same : (m : ℕ) → m ≤ m
      same m = omega arith

  pub below_then : (l m n : ℕ) → l ≤ m → m < n → l < n
  below_then l m n less more = omega (arith, less, more)

  scan_load_leaves : (scan : Scan) (next : ℕ) (found : Option ℕ) → scan.part < next → scan.part < 4 → left_at (after_scan_load scan next found) < scan_left heap words scan 0 (2 * (4 - scan.part) + 1)
  scan_load_leaves scan next None later within = below_then _ _ _ (scan_at_leaves scan next) (fewer_steps scan 0 (2 * (4 - next) + 1) (2 * (4 - scan.part) + 1) (omega (arith, later, within)))
  scan_load_leaves scan next (Some target) later within = fewer_steps scan 0 (2 * (4 - scan.part)) (2 * (4 - scan.part) + 1) (omega arith)

  pub first_load_leaves : (scan : Scan) (length : Option ℕ) (next : ℕ) (found : Option ℕ) → scan.part < next → scan.part < 4
      → left_at (after_first_load scan length next found) < scan_left heap words scan 0 (2 * (4 - scan.part) + 1)
  first_load_leaves scan None next found later within = scan_load_leaves scan next found later within
  first_load_leaves scan (Some cells) next found later within = fewer_steps scan 0 2 (2 * (4 - scan.part) + 1) (omega (arith, within))

  pub shaded_leaves : (scan : Scan) (next : ℕ) → scan.part < next → next ≤ 4 → left_at (scan_at (scan_step scan) next) < scan_left heap words scan 0 (2 * (4 - scan.part))
  shaded_leaves scan next later within = below_then _ _ _ (scan_at_leaves scan next) (fewer_steps scan 0 (2 * (4 - next) + 1) (2 * (4 - scan.part)) (omega (arith, later, within)))

  pub addressed_leaves : (scan : Scan) (n found : ℕ) → left_at (after_address scan n found) < scan_left heap words scan 0 2
  addressed_leaves scan n found = spine_scan_cases (λ stage. left_at stage < scan_left heap words scan 0 2) _ (λ more. fewer_steps scan 0 1 2 (omega arith))
      (λ done. below_then _ _ _ (through_leaves scan (told_words heap words scan.fragment) 1 (omega arith)) (fewer_steps scan 0 1 2 (omega arith)))

  -- with one spine word more behind it, and with all, less is left of a scan, where that many are left
  pub word_behind_leaves : (scan : Scan) (i behind : ℕ) → i < behind → behind ≤ 16 * heap.groups - scanned_words heap words → scan_left heap words scan behind 1 < scan_left heap words scan i 0
  word_behind_leaves scan i behind less few = by ((16 * heap.groups - (scanned_count heap words + 1)) * (heap.groups + 10)) (16 * heap.groups - scanned_words heap words) (heap.groups - scan.fragment / 16) few
    where
      by : (m w g : ℕ) → behind ≤ w → m + 2 * (w - behind) + g + heap.groups + 1 + 1 < m + 2 * (w - i) + g + heap.groups + 1 + 0
      by m w g enough = omega (arith, less, enough)
