-- What the collector comes to by a turn that begins no phase is inside, and what it counts is right.
use Rattle.std.specs.Prelude.{if◌then◌else◌}
use Rattle.std.proofs.Common.{◌≡◌, ℕ, ◌+◌, ◌%◌, ◌==◌, inl, inr, true, false, nat_lt, Bool, List, Option, Some, None, refl, sym, ap, ◌∙◌, subst, arith}
use Rattle.core_rule.proofs.Terms.{cycle_phases, Heap, Id, graph_of, phase, up_to_cycle, IsReach, turn_at, first_work, after_last_look, after_counted_look, after_look}
use Rattle.core_rule.proofs.Terms.{has_answered_of, IsScanning, IsIndexing, IsClearing, Stage, Control, Word, State, found_by, pointer_in, payload_in, at, spine_place, Book, Grey}
use Rattle.core_rule.proofs.Terms.{id_at, WordPointsTo, IsKeptFragment, ScanStands, Kept, Rule}
use Rattle.heap_model.specs.PhasePlan.{clearing as clearing_phase}
use Rattle.core_machine.specs.collector.Marking.{after_last_group, after_pass, scan_step, scan_at, after_scan_load, after_first_load, spine_step, spine_scan_at}
use Rattle.core_machine.specs.collector.Sweeping.{after_swept, after_examined, after_freed, after_cleared, taken_count_of}
use Rattle.core_machine.specs.declared.collector.stage.Scan.{Scan}
use Rattle.core_machine.specs.declared.collector.stage.SpineScan.{SpineScan}
use Rattle.core_machine.specs.declared.collector.stage.Stage.TheVariants as stages
use Rattle.core_machine.proofs.collector_lemmas.SpineTurns.{spine_scan_cases}
use Rattle.core_rule.specs.footprint.Footprint.{Footprint, StageStandsInside, ClearedWithin, is_inside}
use Rattle.core_rule.proofs.colours.SourceCases.{leads_by_word}
use Rattle.core_rule.proofs.kept.Clears.{cleared_within_next_group, cleared_within_at_begin}
use Rattle.core_rule.proofs.footprint.Named.{cell_target_is_inside}
use Rattle.core_rule.proofs.marking.Marks.{settled_phase_is_between}
use Rattle.core_rule.proofs.marking.ObjectEdges.{kept_leads_to_fragment_or_cell, fragment_is_kept}
use Rattle.core_rule.proofs.marking.Scans.{spine_word_leads_to_payload}
use Rattle.core_rule.proofs.marking.SweepMarks.{after_swept_either, after_cleared_either}
use Rattle.core_rule.proofs.turns.WorkCases.{first_work_cases}

-- a cycle under way: what was reached when it began has its footprint
pub record UnderWay (heap : Heap) (state : State) (book : Book) : Type 0 where
  pub begun : List Id
  pub reach : IsReach (graph_of heap (up_to_cycle book.history)) begun
  pub most : ℕ
  pub foot : Footprint heap state book begun (is_inside (graph_of heap (up_to_cycle book.history)) begun) most

module _ (heap : Heap) (state : State) (book : Book) (rule : Rule heap state book) (cycle : UnderWay heap state book) where
  abbrev inside : Id → Bool
  inside = is_inside (graph_of heap (up_to_cycle book.history)) cycle.begun

  -- it stands so at the stage
  abbrev pub Inside : Stage → Type 0
  Inside stage = StageStandsInside heap book.made cycle.begun inside book.owner cycle.most stage

  -- in the last phase all is inside that is kept, and nothing is to be freed
  begins_clearing : state.collector.phase % cycle_phases ≡ clearing_phase → ClearedWithin heap book.made cycle.begun book.owner cycle.most 0 0
  begins_clearing last =
      let told : phase book.history % cycle_phases ≡ clearing_phase = ap (λ p. p % cycle_phases) (sym rule.collector_stands.phase_told) ∙ last in
      cleared_within_at_begin heap book.made book.owner inside (λ f i k owned. cycle.foot.kept f i k owned (inr told))
      (rule.marks_stand.heap_marks.alive (λ settled. let between = settled_phase_is_between state.collector.phase state.collector.stage settled in omega (arith, between.upto, last)))
      cycle.begun cycle.most cycle.foot.size

  -- after a look
  work_inside : Inside (first_work state.collector.phase)
  work_inside = first_work_cases (λ stage turns. Inside stage) heap.groups state.collector.phase (λ marks. tt) (λ copies. tt) (λ sweeps. tt) begins_clearing (λ nothing. tt)

  pub inside_after_look : (found : ℕ) → Inside (after_look heap state.collector found).stage
  inside_after_look found = by (has_answered_of state.collector.phase found)
    where
      last : (b : Bool) → Inside (if b then record state.collector { looked = state.collector.looked + 1 } else after_last_look heap state.collector).stage
      last true = cycle.foot.stage
      last false = work_inside

      by : (b : Bool) → Inside (if b then after_counted_look heap state.collector else state.collector).stage
      by true = last (nat_lt (state.collector.looked + 1) heap.seats)
      by false = cycle.foot.stage

  -- after a pass
  pub inside_after_pass : (group : ℕ) (found : Bool) (position : Option ℕ) → Inside (after_pass heap group found position)
  inside_after_pass group found (Some position) = tt
  inside_after_pass group found None = by (nat_lt (group + 1) heap.groups)
    where
      last : (some : Bool) → Inside (after_last_group some)
      last true = tt
      last false = tt

      by : (b : Bool) → Inside (if b then stages.Passing (group + 1) found else after_last_group found)
      by true = tt
      by false = last found

  pub inside_scan_at : (scan : Scan) (part : ℕ) → Inside (scan_at scan part)
  inside_scan_at scan part = by (nat_lt part 4)
    where
      by : (b : Bool) → Inside (if b then stages.Scanning (record scan { part = part }) else stages.Blackening (record scan { part = part }))
      by true = tt
      by false = tt

  pub inside_spine_scan_at : (s : SpineScan) → Inside (spine_scan_at s)
  inside_spine_scan_at s = spine_scan_cases Inside s (λ more. tt) (λ done. tt)

  -- what a grey fragment leads to is inside, since its object is
  leads_inside : (f source target : ℕ) → book.colour f ≡ Grey → WordPointsTo heap state.words f source target → (i k : ℕ) → book.owner target ≡ Kept i k → inside (id_at book.made i) ≡ true
  leads_inside f source target grey leads i k owned =
      let kept_fragment : IsKeptFragment book.owner f = rule.marks_stand.heap_marks.grey f grey in
      let holder = cycle.foot.kept f kept_fragment.index kept_fragment.position kept_fragment.kept (inl (λ white. absurd (cc (grey, white)))) in
      elim (kept_leads_to_fragment_or_cell heap state book rule f kept_fragment.index kept_fragment.position kept_fragment.kept source target leads) as (λ _. inside (id_at book.made i) ≡ true) [
        | inl its ↦
            let same : Kept kept_fragment.index its.position ≡ Kept i k = sym (fragment_is_kept heap state book rule f kept_fragment.index kept_fragment.position kept_fragment.kept target its) ∙ owned in
            let index : kept_fragment.index ≡ i = cc in
            subst (λ n. inside (id_at book.made n) ≡ true) index holder
        | inr cell ↦ cell_target_is_inside heap state book rule cycle.begun cycle.reach kept_fragment.index target i k holder cell owned
      ]

  -- so is what a scanned word leads to
  word_inside : (scan : Scan) → state.collector.stage ≡ stages.Scanning scan → (next : ℕ) (found : Option ℕ) → pointer_in scan.part (at heap state.words (Word scan.fragment scan.part)) ≡ found
      → Inside (after_scan_load scan next found)
  word_inside scan scanning next None is = inside_scan_at (scan_step scan) next
  word_inside scan scanning next (Some target) is =
      let fits : IsScanning heap state.collector.phase state.collector.looked scan = rw scanning at rule.machine.collector_fit.at_stage in
      let stands = subst (ScanStands heap state.words book.owner book.colour book.fragments) scanning rule.marks_stand.heap_marks.scan in
      leads_inside scan.fragment scan.part target stands.0.grey (leads_by_word heap state.words scan.fragment scan.part target fits.fragment_within fits.part_within is)

  pub inside_after_scan : (scan : Scan) → state.collector.stage ≡ stages.Scanning scan → (length : Option ℕ) (next : ℕ)
      → Inside (after_first_load scan length next (pointer_in scan.part (at heap state.words (Word scan.fragment scan.part))))
  inside_after_scan scan scanning None next = word_inside scan scanning next (pointer_in scan.part (at heap state.words (Word scan.fragment scan.part))) refl
  inside_after_scan scan scanning (Some cells) next = tt

  -- and what a word of a spine names
  pub inside_after_index : (s : SpineScan) → state.collector.stage ≡ stages.Indexing s → Inside (stages.Spreading (spine_step s) (payload_in (at heap state.words (spine_place s.spine s.index))))
  inside_after_index s indexing =
      let fits : IsIndexing heap state.collector.phase state.collector.looked s = rw indexing at rule.machine.collector_fit.at_stage in
      let stands = subst (ScanStands heap state.words book.owner book.colour book.fragments) indexing rule.marks_stand.heap_marks.scan in
      leads_inside s.scan.fragment (4 + s.index) _ stands.0.grey (spine_word_leads_to_payload heap state.words s stands.1 fits.on.fragment_within fits.on.index_within)

  -- after a group of the sweep
  pub inside_after_swept : (group : ℕ) → Inside (after_swept heap group)
  inside_after_swept group = after_swept_either Inside heap group tt (λ all. tt)

  pub inside_after_examined : (group dead words : ℕ) (position : Option ℕ) → Inside (after_examined heap group dead words position)
  inside_after_examined group dead words (Some position) = tt
  inside_after_examined group dead words None = by (dead == 0)
    where
      by : (b : Bool) → Inside (if b then after_swept heap group else stages.Freeing group dead words)
      by true = inside_after_swept group
      by false = tt

  pub inside_after_freed : (group words : ℕ) → Inside (after_freed heap group words)
  inside_after_freed group words = by (words == 0)
    where
      by : (b : Bool) → Inside (if b then after_swept heap group else stages.Returning group words)
      by true = inside_after_swept group
      by false = tt

  -- after one of the clearing
  pub inside_after_cleared : (group kept : ℕ) → state.collector.stage ≡ stages.Clearing group kept → Inside (after_cleared heap group (kept + taken_count_of (at heap state.words (Control group))))
  inside_after_cleared group kept clearing =
      let fits : IsClearing heap state.collector.phase state.collector.looked group kept = rw clearing at rule.machine.collector_fit.at_stage in
      let stands : ClearedWithin heap book.made cycle.begun book.owner cycle.most group kept = subst Inside clearing cycle.foot.stage in
      let on = cleared_within_next_group heap state.words book.owner rule.heap_stands.control_words group fits.group_within book.made cycle.begun cycle.most kept stands in
      after_cleared_either Inside heap group (kept + taken_count_of (at heap state.words (Control group))) on
      (λ all. let last : group + 1 ≡ heap.groups = omega (arith, all, fits.group_within) in
      subst (λ n. ClearedWithin heap book.made cycle.begun book.owner cycle.most n (kept + taken_count_of (at heap state.words (Control group)))) last on)

-- so is the stage to which a turn leads
abbrev pub LeadsInside : Stage → Type 0
LeadsInside stage = (heap : Heap) (state : State) (book : Book) (rule : Rule heap state book) (cycle : UnderWay heap state book) → state.collector.stage ≡ stage
    → Inside heap state book rule cycle ((turn_at heap state.collector stage).told (found_by heap state (turn_at heap state.collector stage).step)).stage
