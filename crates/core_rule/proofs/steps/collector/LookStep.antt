-- The collector's look at a seat's answer keeps the rule.
use Rattle.std.specs.Prelude.{if◌then◌else◌}
use Rattle.std.proofs.Common.{◌≡◌, ℕ, suc, ◌+◌, ◌%◌, ◌<◌, ◌≤◌, Bool, true, false, List, inl, inr, refl, sym, ◌∙◌, subst, arith}
use Rattle.std.proofs.lemmas.Bool.Decides.{eqb_tells, leb_tells}
use Rattle.core_rule.proofs.Terms.{cycle_phases, Entry, Heap, phase, last_answer, has_left, Stage, Collector, has_answered_of, first_work, after_last_look, after_counted_look}
use Rattle.core_rule.proofs.Terms.{after_look, at, State, seat_at, Book, ScanStands, IsFewWords, PassStands, AwaitsCopy, SweepStands, HasMarked, Rule, MarksStand, CollectorAgrees}
use Rattle.heap_model.specs.PhasePlan.{marking as marking_phase, copying as copying_phase}
use Rattle.heap_words.specs.declared.phase.TheConstants.{LEFT}
use Rattle.core_machine.specs.declared.table.address.Address.TheVariants.{Answer}
use Rattle.core_machine.specs.declared.collector.stage.Copying.TheVariants.{Visiting}
use Rattle.core_machine.specs.declared.collector.stage.Stage.TheVariants as stages
use Rattle.core_machine.specs.seat.Fits.{FitsStage}
use Rattle.core_rule.proofs.marking.Marks.{settled_at_other_stage}
use Rattle.core_rule.proofs.marking.SweepMarks.{sweep_stands_unswept}
use Rattle.core_rule.proofs.halves.HalvesFrames.{StageGoesOn}
use Rattle.core_rule.proofs.halves.StagesOn.{IsIdle, idle_stage_goes_on}
use Rattle.core_rule.proofs.steps.Assemble.{last_answer_within_phase}
use Rattle.core_rule.proofs.turns.WorkCases.{first_work_cases}
use Rattle.core_rule.proofs.steps.TurnSteps.{StageKeeps, after_turn, keeps_rule_by_load_turn}
use Rattle.core_rule.proofs.steps.TurnKinds.{TurnKind, inside_after_look, only_loads, adds_nothing, stage_keeps_whole, on_bits_of_same_bits, on_spines_beside}
use Rattle.core_rule.proofs.turns.LookTurns.{look_leaves_fewer}
use Rattle.heap_model.specs.declared.calls.collector_calls.Turn.TheVariants as answers

-- the word of a seat that hasn't left tells that it has answered the phase
word_tells : (p answer : ℕ) → answer ≤ p → p < LEFT → has_answered_of p answer ≡ true → answer ≡ p
word_tells p answer near early seen = elim (eqb_tells answer p) [
  | inl same ↦ same.1
  | inr other ↦ elim (eqb_tells answer LEFT) [
    | inl left ↦ absurd (omega (arith, left.1, near, early))
    | inr neither ↦ absurd (cc (seen, other.0, neither.0))
  ]
]

module _ (heap : Heap) (collector : Collector) (history : List Entry) (stands : CollectorAgrees heap collector history) where
  -- it has seen so many seats, at whatever stage it stands then
  abbrev HasSeen : ℕ → Type 0
  HasSeen n = (number : ℕ) → number < n → number < heap.seats → has_left number history ≡ false → last_answer number history ≡ phase history

  stands_seen : (stage : Stage) (looked : ℕ) → HasSeen looked → CollectorAgrees heap (record collector { stage = stage; looked = looked }) history
  stands_seen stage looked seen = record { log = stands.log; phase_told = stands.phase_told; looked = seen }

  module _ (seen : has_left collector.looked history ≡ false → last_answer collector.looked history ≡ phase history) where
    -- the seats up to this one have answered
    more_seen : HasSeen (collector.looked + 1)
    more_seen number less below present = elim (eqb_tells number collector.looked) [
      | inl here ↦ subst (λ n. has_left n history ≡ false → last_answer n history ≡ phase history) (sym here.1) seen present
      | inr other ↦ stands.looked number (omega (arith, less, other.1)) below present
    ]

    on_seen : CollectorAgrees heap (after_counted_look heap collector) history
    on_seen = elim (leb_tells (suc (collector.looked + 1)) heap.seats) as (λ _. CollectorAgrees heap (after_counted_look heap collector) history) [
      | inl more ↦ rw more.0 (stands_seen collector.stage (collector.looked + 1) more_seen)
      | inr last ↦ rw last.0 (stands_seen _ heap.seats (λ number within below present. more_seen number (omega (arith, last.1, below)) below present))
    ]

  -- one more seat was looked at
  look_seen : (found : ℕ) → (has_answered_of collector.phase found ≡ true → has_left collector.looked history ≡ false → last_answer collector.looked history ≡ phase history)
      → CollectorAgrees heap (after_look heap collector found) history
  look_seen found tells = by (has_answered_of collector.phase found) tells
    where
      by : (b : Bool) → (b ≡ true → has_left collector.looked history ≡ false → last_answer collector.looked history ≡ phase history)
          → CollectorAgrees heap (if b then after_counted_look heap collector else collector) history
      by true seen = on_seen (seen refl)
      by false seen = stands

module _ (heap : Heap) (state : State) (book : Book) (rule : Rule heap state book) (looking : state.collector.stage ≡ stages.Looking) where
  -- marking and the spine space stand where the collector goes to
  record StandsAt (collector : Collector) : Type 0 where
    marks : MarksStand heap (after_turn state state.words collector) book.owner book.colour book.fragments
    spines : StageGoesOn heap state.words book state.collector collector

  -- of marking and of the spine space nothing changes, wherever it goes on
  stands_stage : (stage : Stage) (looked : ℕ) → (state.collector.phase % cycle_phases ≡ marking_phase → ¬ HasMarked stage) → (state.collector.phase % cycle_phases ≡ copying_phase → (f : ℕ) → AwaitsCopy state.collector.phase stage f) → IsIdle stage
      → ScanStands heap state.words book.owner book.colour book.fragments stage → IsFewWords stage → PassStands book.colour stage → SweepStands heap book.owner book.colour state.collector.phase stage
      → StandsAt (record state.collector { stage = stage; looked = looked })
  stands_stage stage looked goes awaits idle scan few pass sweep = record {
    marks = record {
      heap_marks = record {
        grey = rule.marks_stand.heap_marks.grey;
        scan = scan;
        few = few;
        pass = pass;
        sweep_stands = sweep;
        alive = λ going. rule.marks_stand.heap_marks.alive
            (λ settled. going (settled_at_other_stage state.collector.phase state.collector.stage stage (λ third. subst HasMarked looking) settled));
        after = λ settled. rule.marks_stand.heap_marks.after (settled_at_other_stage state.collector.phase stage state.collector.stage goes settled);
      };
      roots = λ r below marks answered. rule.marks_stand.roots r below record { phase = marks.phase; goes_on = subst HasMarked looking } answered;
    };
    spines = idle_stage_goes_on heap state.words state.words book state.collector (record state.collector { stage = stage; looked = looked }) refl
        record { from_before = λ third advances. absurd (cc (looking, advances)); to_before = λ third advances. goes third (subst HasMarked (sym advances) tt) }
        (subst IsIdle (sym looking) tt) idle (λ f waits. awaits (subst (λ stage. AwaitsCopy state.collector.phase stage f) looking waits) f) (λ half offset. refl) rule.space.halves.copy;
  }

  stands_looking : (looked : ℕ) → StandsAt (record state.collector { looked = looked })
  stands_looking looked = subst (λ stage. StandsAt (record state.collector { stage = stage; looked = looked })) (sym looking)
      (stands_stage stages.Looking looked (λ third e. e) (λ fourth f. fourth) tt tt tt tt tt)

  abbrev at_work : Stage → Collector
  at_work stage = record state.collector { looked = heap.seats; stage = stage }

  -- it begins the phase's work, or goes on to the next phase
  stands_last : StandsAt (after_last_look heap state.collector)
  stands_last = first_work_cases (λ stage most. StandsAt (at_work stage)) heap.groups state.collector.phase
      (λ third. stands_stage (stages.Passing 0 false) heap.seats (λ is e. e) (λ fourth. absurd (omega (arith, fourth, third))) tt tt tt (λ f grey. (f, grey, omega arith)) tt)
      (λ copies. stands_stage (stages.Copying (Visiting 0)) heap.seats (λ is e. e) (λ fourth f. omega arith) tt tt tt tt tt)
      (λ sweeps. stands_stage (stages.Sweeping 0) heap.seats (λ is e. e) (λ fourth. absurd (omega (arith, fourth, sweeps))) tt tt tt tt (λ f i k none. absurd (omega (arith, none))))
      (λ clears. stands_stage (stages.Clearing 0 0) heap.seats (λ is e. e) (λ fourth. absurd (omega (arith, fourth, clears))) tt tt tt tt (λ f none. absurd (omega (arith, none))))
      (λ nothing. stands_stage (first_work 0) heap.seats (λ third. absurd (nothing.unmarked third)) (λ fourth. absurd (nothing.uncopied fourth)) tt tt tt tt
      (sweep_stands_unswept heap book.owner book.colour state.collector.phase (first_work 0) tt nothing.unswept))

  stands_counted : StandsAt (after_counted_look heap state.collector)
  stands_counted = elim (leb_tells (suc (state.collector.looked + 1)) heap.seats) as (λ _. StandsAt (after_counted_look heap state.collector)) [
    | inl more ↦ rw more.0 (stands_looking (state.collector.looked + 1))
    | inr done ↦ rw done.0 stands_last
  ]

  look_stands : (found : ℕ) → StandsAt (after_look heap state.collector found)
  look_stands found = by (has_answered_of state.collector.phase found)
    where
      by : (b : Bool) → StandsAt (if b then after_counted_look heap state.collector else state.collector)
      by true = stands_counted
      by false = stands_looking state.collector.looked

-- a look at a seat's answer keeps the rule
pub look_keeps : StageKeeps stages.Looking
look_keeps heap state book rule looking machine =
    let collector : Collector = state.collector in
    let number : ℕ = collector.looked in
    let found : ℕ = at heap state.words (Answer number) in
    let below : number < heap.seats = subst (FitsStage heap collector.phase number) looking rule.machine.collector_fit.at_stage in
    let stands = rule.seats_stand number below in
    let told = stands.cycle.answers_told in
    let early : phase book.history < LEFT = omega (arith, rule.collector_stands.phase_told, rule.machine.collector_fit.phase_within) in
    let tells : has_answered_of collector.phase found ≡ true → has_left number book.history ≡ false → last_answer number book.history ≡ phase book.history
    = λ seen present. word_tells (phase book.history) (last_answer number book.history) (last_answer_within_phase heap state.words book number (seat_at state number) stands present) early
    (subst (λ w. has_answered_of (phase book.history) w ≡ true) (told.word ∙ rw (sym told.leaves ∙ present) (sym told.told))
    (subst (λ p. has_answered_of p found ≡ true) rule.collector_stands.phase_told seen)) in
    let after = look_stands heap state book rule looking found in
    keeps_rule_by_load_turn heap state book (Answer number) (after_look heap collector found) rule machine (look_seen heap collector book.history rule.collector_stands found tells)
    after.marks after.spines

-- its answer ends no cycle
no_end : (b : Bool) (seat answer p cycle kept : ℕ) → (if b then answers.Stepped else answers.Waits seat answer p) ≡ answers.Ended cycle kept → ⊥
no_end true seat answer p cycle kept same = cc same
no_end false seat answer p cycle kept same = cc same

-- all that is asked of it
pub turn_kind_of_looking : TurnKind stages.Looking
turn_kind_of_looking = record {
  keeps = stage_keeps_whole stages.Looking look_keeps;
  fewer = λ few. look_leaves_fewer;
  inside = λ heap state book rule cycle is. inside_after_look heap state book rule cycle _;
  shape = λ heap collector found. adds_nothing stages.Looking refl (no_end (has_answered_of collector.phase found) collector.looked found collector.phase);
  looked = λ heap phase looked fits. inl refl;
  bits = on_bits_of_same_bits stages.Looking (λ heap collector. only_loads (λ word. refl));
  spines = on_spines_beside stages.Looking (λ heap collector. tt);
}
