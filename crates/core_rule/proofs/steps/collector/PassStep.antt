-- A load of a group's control word keeps the rule: a grey fragment of it is scanned, or the next group's turn comes, or another pass, or marking ends.
use Rattle.std.proofs.Common.{◌≡◌, ◌≢◌, ℕ, suc, ◌+◌, ◌*◌, ◌≤◌, Bool, true, false, [], Option, Some, None, inl, inr, refl, sym, subst, arith, length}
use Rattle.std.proofs.lemmas.Bool.Decides.{leb_tells}
use Rattle.core_rule.proofs.Terms.{Heap, Collector, IsPassing, Stage, Control, State, IsMachine, at, put, Book, Grey, ScanStands, IsFewWords, PassStands, MarkingStands}
use Rattle.core_rule.proofs.Terms.{SweepStands, HasMarked, CollectorAgrees, Rule}
use Rattle.core_machine.specs.collector.FitsTurns.{FitsStage}
use Rattle.core_machine.specs.collector.Marking.{lowest_grey_of, after_last_group, after_group, after_pass}
use Rattle.core_machine.specs.declared.collector.stage.Stage.TheVariants as stages
use Rattle.core_rule.proofs.book.OwnersGo.{owners_go_on_by_settling}
use Rattle.core_rule.proofs.marking.MarkingStages.{OfMarking, marking_is_plain}
use Rattle.core_rule.proofs.marking.Marks.{marking_stands_at_stage, nothing_is_dead}
use Rattle.core_rule.proofs.marking.GreyPositions.{lowest_is_grey, pass_stands_at_next_group, nothing_is_grey, pass_stands_anew, is_seen_at_start}
use Rattle.core_rule.proofs.marking.SettledBook.{heap_stands_after_settling, seat_stands_after_settling, marking_stands_after_settling}
use Rattle.core_rule.proofs.dying.DyingWords.{settled_book}
use Rattle.core_rule.proofs.halves.HalvesFrames.{IsPlain}
use Rattle.core_rule.proofs.dying.Settling.{space_stands_after_settling}
use Rattle.core_rule.proofs.halves.StagesOn.{plain_stage_goes_on}
use Rattle.core_rule.proofs.steps.Assemble.{Keeps}
use Rattle.core_rule.proofs.steps.TurnSteps.{StageKeeps, after_turn, quiet, keeps_rule_by_load_turn, keeps_rule_by_load_with_book}
use Rattle.core_rule.proofs.steps.TurnKinds.{TurnKind, turn_kind_of_load, inside_after_pass}
use Rattle.core_rule.proofs.turns.MarkingTurns.{pass_leaves_fewer}

module _ (heap : Heap) (state : State) (book : Book) (rule : Rule heap state book) (group : ℕ) (found : Bool) (passing : state.collector.stage ≡ stages.Passing group found) where
  passes : IsPassing heap state.collector.phase state.collector.looked group
  passes = subst (FitsStage heap state.collector.phase state.collector.looked) passing rule.machine.collector_fit.at_stage

  goes_on : ¬ HasMarked state.collector.stage
  goes_on = subst HasMarked passing

  marks : MarkingStands heap state.words book.owner book.colour book.fragments state.collector.phase (stages.Passing group found)
  marks = subst (MarkingStands heap state.words book.owner book.colour book.fragments state.collector.phase) passing rule.marks_stand.heap_marks

  abbrev word : ℕ
  word = at heap state.words (Control group)

  abbrev goes_to : Stage → Collector
  goes_to stage = record state.collector { stage = stage }

  -- the rule is kept where this stage comes
  abbrev KeepsAt : Stage → Type 0
  KeepsAt stage = IsMachine heap (after_turn state (put heap state.words (Control group) word) (quiet (goes_to stage)))
      → Keeps heap state (after_turn state (put heap state.words (Control group) word) (quiet (goes_to stage))) book book.begun []

  collector_at : (stage : Stage) → CollectorAgrees heap (goes_to stage) book.history
  collector_at stage = record { log = rule.collector_stands.log; phase_told = rule.collector_stands.phase_told; looked = rule.collector_stands.looked }

  -- marking goes on, where a scan and a pass stand at the stage
  goes_further : (stage : Stage) → OfMarking stage → ScanStands heap state.words book.owner book.colour book.fragments stage → IsFewWords stage → PassStands book.colour stage
      → SweepStands heap book.owner book.colour state.collector.phase stage → KeepsAt stage
  goes_further stage on scan few pass sweep machine = keeps_rule_by_load_turn heap state book (Control group) (goes_to stage) rule machine (collector_at stage) record {
    heap_marks = marking_stands_at_stage heap state.words book.owner book.colour book.fragments state.collector.phase stage passes.marks.for_marking on marks.grey scan few pass sweep
        (nothing_is_dead heap state book rule passes.marks.for_marking goes_on);
    roots = λ r below is answered. rule.marks_stand.roots r below (record { phase = is.phase; goes_on = goes_on }) answered;
  } (plain_stage_goes_on heap state.words state.words book state.collector (goes_to stage) refl (subst IsPlain (sym passing) tt) (marking_is_plain stage on) (λ half offset. refl) rule.space.halves.copy)

  -- it ends where nothing is grey
  ends : ((f : ℕ) → book.colour f ≢ Grey) → KeepsAt stages.Flipping
  ends none machine = keeps_rule_by_load_with_book heap state book (Control group) (goes_to stages.Flipping) (settled_book book) rule machine refl
      (heap_stands_after_settling heap state book rule passes.marks goes_on none) (seat_stands_after_settling heap state book rule passes.marks goes_on none) (collector_at stages.Flipping)
      record { heap_marks = marking_stands_after_settling heap state book rule passes.marks goes_on none; roots = λ r below is. absurd (is.goes_on tt) }
      (space_stands_after_settling heap state book rule group found passing passes.marks.for_marking)
      record { made = λ i below. refl; owners = owners_go_on_by_settling (length book.made) book.owner book.colour; marked = λ f i k owned below marked. inl marked }

  module _ (none : lowest_grey_of word ≡ None) where
    -- the last group was seen
    behind_all : heap.groups ≤ group + 1 → (some : Bool) → found ≡ some → KeepsAt (after_last_group some)
    behind_all last true is = goes_further (stages.Passing 0 false) tt tt tt (pass_stands_anew book.colour) tt
    behind_all last false is =
        ends (nothing_is_grey heap state.words book.colour group rule.machine.table passes.group_within rule.heap_stands.cycle.marks none last
        (subst (λ b. PassStands book.colour (stages.Passing group b)) is marks.pass))

    after_none : KeepsAt (after_group heap group found)
    after_none = elim (leb_tells (suc (group + 1)) heap.groups) as (λ _. KeepsAt (after_group heap group found)) [
      | inl more ↦ rw more.0 (goes_further (stages.Passing (group + 1) found) tt tt tt
          (pass_stands_at_next_group heap state.words book.colour group rule.machine.table passes.group_within rule.heap_stands.cycle.marks none found marks.pass) tt)
      | inr all ↦ rw all.0 (behind_all (omega (arith, all.1)) found refl)
    ]

  passes_on : (position : Option ℕ) → lowest_grey_of word ≡ position → KeepsAt (after_pass heap group found position)
  passes_on None is = after_none is
  passes_on (Some position) is = goes_further (stages.Scanning (record { fragment = 16 * group + position; part = 0; steps = 0 })) tt (
    is_seen_at_start heap state.words book.colour (16 * group + position) (lowest_is_grey heap state.words book.colour group rule.machine.table passes.group_within rule.heap_stands.cycle.marks position is),
    λ later. absurd (omega (arith, later)),
  ) tt tt tt

pub pass_keeps : (group : ℕ) (found : Bool) → StageKeeps (stages.Passing group found)
pass_keeps group found heap state book rule passing machine = passes_on heap state book rule group found passing (lowest_grey_of (at heap state.words (Control group))) refl machine

-- all that is asked of it
pub turn_kind_of_passing : (group : ℕ) (found : Bool) → TurnKind (stages.Passing group found)
turn_kind_of_passing group found = turn_kind_of_load (stages.Passing group found) (λ heap collector. record { adds_none = refl; steps = λ word. refl; loaded = λ word. refl; beside = tt }) record {
  keeps = pass_keeps group found;
  fewer = λ few. pass_leaves_fewer group found;
  inside = λ heap state book rule cycle is. inside_after_pass heap state book rule cycle group found _;
  all = λ heap phase looked fits. fits.marks.all;
}
