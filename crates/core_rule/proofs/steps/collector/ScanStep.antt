-- The load of a word of a grey fragment keeps the rule.
use Rattle.std.specs.Option.{option_map_or}
use Rattle.std.proofs.Common.{◌≡◌, ℕ, ◌<◌, ◌≤◌, Option, Some, None, inl, inr, refl, sym, ap, ◌∙◌, subst, arith}
use Rattle.std.proofs.lemmas.Bool.Decides.{eqb_tells}
use Rattle.core_rule.proofs.Terms.{Heap, array_words, phase, IsScanning, Stage, Word, State, pointer_in, array_length_of, at, Book, WordPointsTo, IsBetween, IsSeen, IsKeptFragment}
use Rattle.core_rule.proofs.Terms.{ScanStands, IsFewWords, PassStands, MarkingStands, SweepStands, HasMarked, Rule}
use Rattle.core_machine.specs.collector.Marking.{part_after, scan_step, after_scan_load, array_at, after_first_load}
use Rattle.core_machine.specs.declared.collector.stage.Scan.{Scan}
use Rattle.core_machine.specs.declared.collector.stage.Stage.TheVariants as stages
use Rattle.core_rule.specs.marking.Sources.{TellsNoSpine}
use Rattle.core_rule.proofs.colours.SourceCases.{leads_by_word, word_pointer_of_lead}
use Rattle.core_rule.proofs.marking.MarkingStages.{OfMarking}
use Rattle.core_rule.proofs.marking.Marks.{marking_stands_at_stage, nothing_is_dead}
use Rattle.core_rule.proofs.marking.Scans.{scan_stands_at_word, pass_stands_while_scanning, sweep_stands_while_scanning, scan_is_of_marking}
use Rattle.core_rule.proofs.marking.ScannedWords.{grey_target_may_be_marked, next_part_comes_after, seen_up_to_next, array_length_is_objects, array_has_few_cells, sentinel_words_are_seen}
use Rattle.core_rule.proofs.steps.collector.ColourTurn.{keeps_rule_by_marking_load}
use Rattle.core_rule.proofs.steps.TurnSteps.{StageKeeps}
use Rattle.core_rule.proofs.turns.FewWords.{scan_has_few_words}
use Rattle.core_rule.proofs.steps.TurnKinds.{TurnKind, turn_kind_of_load, inside_after_scan}
use Rattle.core_rule.proofs.turns.MarkingTurns.{scan_leaves_fewer}

module _ (heap : Heap) (state : State) (book : Book) (rule : Rule heap state book) (scan : Scan) (scanning : state.collector.stage ≡ stages.Scanning scan) where
  abbrev f : ℕ
  f = scan.fragment

  abbrev word : ℕ
  word = at heap state.words (Word f scan.part)

  abbrev next : ℕ
  next = part_after scan.part word

  fits : IsScanning heap state.collector.phase state.collector.looked scan
  fits = rw scanning at rule.machine.collector_fit.at_stage

  scanned : IsSeen heap state.words book.colour f scan.part × (0 < scan.part → TellsNoSpine heap state.words f)
  scanned = rw scanning at rule.marks_stand.heap_marks.scan

  seen : IsSeen heap state.words book.colour f scan.part
  seen = scanned.0

  none_there : 0 < scan.part → TellsNoSpine heap state.words f
  none_there = scanned.1

  source_fragment : IsKeptFragment book.owner f
  source_fragment = rule.marks_stand.heap_marks.grey f seen.grey

  cycle : IsBetween 1 5 (phase book.history)
  cycle = let third = fits.marks.for_marking in let same = rule.collector_stands.phase_told in record { from = omega (arith, third, same); upto = omega (arith, third, same) }

  -- what is true of marking at a stage of it
  abbrev MarksNow : Stage → Type 0
  MarksNow stage = MarkingStands heap state.words book.owner book.colour book.fragments state.collector.phase stage × OfMarking stage

  -- the pass and what was born stand, wherever the scan goes on
  marks_after : (stage : Stage) → OfMarking stage → ScanStands heap state.words book.owner book.colour book.fragments stage → IsFewWords stage → PassStands book.colour stage
      → SweepStands heap book.owner book.colour state.collector.phase stage → MarksNow stage
  marks_after stage goes scans few passes sweeps = (
    marking_stands_at_stage heap state.words book.owner book.colour book.fragments state.collector.phase stage fits.marks.for_marking goes
        rule.marks_stand.heap_marks.grey scans few passes sweeps (nothing_is_dead heap state book rule fits.marks.for_marking (subst HasMarked scanning)),
    goes,
  )

  lead : (g : ℕ) → WordPointsTo heap state.words f scan.part g → pointer_in scan.part word ≡ Some g
  lead g leads = word_pointer_of_lead heap state.words f scan.part g fits.part_within leads

  few_steps : scan.steps ≤ 6
  few_steps = omega (arith, fits.few_steps, fits.part_within)

  -- what the word of a fragment without a spine leads to, if it leads anywhere, is marked next
  loaded : TellsNoSpine heap state.words f → (found : Option ℕ) → pointer_in scan.part word ≡ found → MarksNow (after_scan_load scan next found)
  loaded none None is = marks_after (after_scan_load scan next None) (scan_is_of_marking (scan_step scan) next)
      (scan_stands_at_word heap state.words book.owner book.colour book.fragments (scan_step scan) next none
      (seen_up_to_next heap state book rule f source_fragment state.words book.colour scan.part next (λ p g leads. leads) seen (λ g leads. absurd (cc (is, lead g leads))) (next_part_comes_after heap state book rule f source_fragment scan.part)))
      (scan_has_few_words (scan_step scan) next (omega (arith, few_steps)))
      (pass_stands_while_scanning book.colour (scan_step scan) next) (sweep_stands_while_scanning heap book.owner book.colour state.collector.phase (scan_step scan) next)
  loaded none (Some m) is = marks_after (stages.Shading (scan_step scan) m next) tt (
    seen,
    (λ g leads. inl (sym is ∙ lead g leads)),
    grey_target_may_be_marked heap state book rule f source_fragment cycle seen.grey scan.part m (leads_by_word heap state.words f scan.part m fits.fragment_within fits.part_within is),
    next_part_comes_after heap state book rule f source_fragment scan.part,
    none,
  )
      tt tt tt

  -- of a fragment whose first word is an array's meta the place of its spine is loaded next
  located : (cells : ℕ) → array_length_of (at heap state.words (Word f 0)) ≡ Some cells → MarksNow (stages.Addressing (scan_step scan) (array_words cells))
  located cells told =
      let first = array_length_is_objects heap state book rule f source_fragment cells told in
      marks_after (stages.Addressing (scan_step scan) (array_words cells)) tt
      (sentinel_words_are_seen heap state book rule f source_fragment seen.grey first.0 first.1, ap (λ length. option_map_or array_words length 0) (sym told))
      (omega (arith, array_has_few_cells heap state book rule f source_fragment first.1, first.2)) tt tt

  abbrev MarksAt : Option ℕ → Type 0
  MarksAt length = MarksNow (after_first_load scan length next (pointer_in scan.part word))

  -- so it is where the word is the fragment's first one
  at_first : (length : Option ℕ) → array_length_of (at heap state.words (Word f 0)) ≡ length → MarksAt length
  at_first None told = loaded (ap (λ length. option_map_or array_words length 0) told) (pointer_in scan.part word) refl
  at_first (Some cells) told = located cells told

  -- and behind that one
  goes_on : MarksAt (array_at scan.part word)
  goes_on = elim (eqb_tells scan.part 0) as (λ _. MarksAt (array_at scan.part word)) [
    | inl first ↦
        let same : array_at scan.part word ≡ array_length_of (at heap state.words (Word f 0)) = rw first.0 (ap (λ p. array_length_of (at heap state.words (Word f p))) first.1) in
        subst MarksAt (sym same) (at_first (array_length_of (at heap state.words (Word f 0))) refl)
    | inr later ↦
        let none : array_at scan.part word ≡ None = rw later.0 refl in
        subst MarksAt (sym none) (loaded (none_there (omega (arith, later.1))) (pointer_in scan.part word) refl)
  ]

pub scan_keeps : (scan : Scan) → StageKeeps (stages.Scanning scan)
scan_keeps scan heap state book rule scanning machine =
    let on = goes_on heap state book rule scan scanning in
    keeps_rule_by_marking_load heap state book rule (stages.Scanning scan) _ scanning (Word scan.fragment scan.part) machine on.0 tt on.1

-- all that is asked of it
pub turn_kind_of_scanning : (scan : Scan) → TurnKind (stages.Scanning scan)
turn_kind_of_scanning scan = turn_kind_of_load (stages.Scanning scan) (λ heap collector. record { adds_none = refl; steps = λ word. refl; loaded = λ word. refl; beside = tt }) record {
  keeps = scan_keeps scan;
  fewer = λ few. scan_leaves_fewer scan;
  inside = λ heap state book rule cycle is. inside_after_scan heap state book rule cycle scan is _ _;
  all = λ heap phase looked fits. fits.marks.all;
}
