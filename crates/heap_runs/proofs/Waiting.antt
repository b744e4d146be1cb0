-- How a collect comes to its end: each turn that is a step alone leaves fewer turns, and where one waits for the seat itself, that answers.
use Rattle.std.proofs.Common.{◌≡◌, ℕ, ◌+◌, ◌-◌, ◌*◌, ◌==◌, ◌<◌, if◌then◌else◌, Bool, true, false, List, [], ◌∷◌, ◌++◌, inl, inr, refl, sym, ap, ◌∙◌, arith}
use Rattle.std.proofs.lemmas.Bool.Decides.{eqb_tells}
use Rattle.std.proofs.lemmas.List.Sums.{sum_by-append}
use Rattle.heap_model.specs.declared.calls.collect.Inner.TheVariants as inners
use Rattle.heap_model.specs.declared.calls.collector_calls.Turn.TheVariants as turns
use Rattle.heap_model.specs.declared.entry.Entry.{Entry}
use Rattle.heap_model.specs.declared.entry.Entry.TheVariants as entries
use Rattle.heap_model.specs.declared.heap.Heap.{Heap}
use Rattle.heap_model.specs.account.Effects.{effect_of}
use Rattle.heap_model.specs.account.PhaseCounts.{phase}
use Rattle.core_machine.specs.declared.collector.stage.Stage.{Stage}
use Rattle.core_machine.specs.declared.collector.stage.Stage.TheVariants as stages
use Rattle.core_machine.specs.declared.table.address.Address.TheVariants.{Phase}
use Rattle.core_machine.specs.collector.Collector.{Collector, has_answered_of, after_counted_look, turn_at, next_turn, after_look, look_answer}
use Rattle.core_machine.specs.machine.Machine.{State, seat_at, found_by}
use Rattle.core_machine.specs.seat.Seat.{Seat}
use Rattle.core_machine.specs.table.Layout.{at}
use Rattle.core_rule.specs.runs.Laws.{StandsFor}
use Rattle.core_rule.specs.turns.TurnsLeft.{turns_left, turns_left_at}
use Rattle.core_rule.proofs.parties.OneSeat.{others_same_after_inner}
use Rattle.core_rule.proofs.parties.Standing.{phase_word_is_phase, answered_is_last_answer, phase_word_is_near}
use Rattle.heap_record.specs.Recorded.{MakesInner, Recorded, MakesTurn}
use Rattle.heap_runs.specs.Collecting.{IsStillThere}
use Rattle.heap_runs.specs.MachineHeap.{IsBetweenCalls, run_state_of}
use Rattle.heap_runs.specs.PlayHeap.{TakesTurn}

-- how many phases the seat is behind, which is one at most, and how many turns are left
abbrev pub behind_by : Recorded → ℕ → ℕ
behind_by whole number = at whole.machine.heap whole.machine.state.words Phase - (seat_at whole.machine.state number).answered

abbrev pub left_for : Recorded → ℕ → ℕ
left_for whole number = 2 * turns_left whole.machine.heap whole.machine.state + behind_by whole number

-- a turn that waits looks at a seat, and the collector stays as it is
pub record Waiting (collector after : Collector) : Type 0 where
  pub looks : collector.stage ≡ stages.Looking
  pub stays : after ≡ collector

look_waits : (heap : Heap) (collector : Collector) (found other answer p : ℕ) → look_answer collector found ≡ turns.Waits other answer p → after_look heap collector found ≡ collector
look_waits heap collector found other answer p waits = by_answer (has_answered_of collector.phase found) waits
  where
    by_answer : (b : Bool) → (if b then turns.Stepped else turns.Waits collector.looked found collector.phase) ≡ turns.Waits other answer p
        → (if b then after_counted_look heap collector else collector) ≡ collector
    by_answer true waits = absurd (cc waits)
    by_answer false waits = refl

waits_at : (heap : Heap) (collector : Collector) (stage : Stage) (found other answer p : ℕ) → collector.stage ≡ stage → (turn_at heap collector stage).answer found ≡ turns.Waits other answer p
    → Waiting collector ((turn_at heap collector stage).told found)
waits_at heap collector stages.Looking found other answer p at_stage waits = record { looks = at_stage; stays = look_waits heap collector found other answer p waits }
waits_at heap collector _ found other answer p at_stage waits = absurd (cc waits)

-- while the collector looks at the seats, what is left doesn't hang on the words
looking_left : (heap : Heap) (one two : List ℕ) (p looked : ℕ) (stage : Stage) → stage ≡ stages.Looking → turns_left_at heap one p looked stage ≡ turns_left_at heap two p looked stage
looking_left heap one two p looked stage is = rw is refl

-- so a turn that waits leaves as many
pub record LooksStill (old new : Recorded) : Type 0 where
  pub looking : new.machine.state.collector.stage ≡ stages.Looking
  pub same : turns_left new.machine.heap new.machine.state ≡ turns_left old.machine.heap old.machine.state

pub waits_still : (old new : Recorded) (other answer p : ℕ) → MakesTurn old new (turns.Waits other answer p) → LooksStill old new
waits_still old new other answer p turned =
    let heap = old.machine.heap in
    let state = old.machine.state in
    let collector = state.collector in
    let turn = next_turn heap collector in
    let found = found_by heap state turn.step in
    let waiting = waits_at heap collector collector.stage found other answer p refl (sym turned.answered) in
    let after : new.machine.state.collector ≡ record (turn.told found) { log = (turn.told found).log ++ turn.adds } = ap (λ (s : State). s.collector) turned.after in
    let phases : new.machine.state.collector.phase ≡ collector.phase = ap (λ (c : Collector). c.phase) after ∙ ap (λ (c : Collector). c.phase) waiting.stays in
    let lookeds : new.machine.state.collector.looked ≡ collector.looked = ap (λ (c : Collector). c.looked) after ∙ ap (λ (c : Collector). c.looked) waiting.stays in
    let stage_is : new.machine.state.collector.stage ≡ collector.stage = ap (λ (c : Collector). c.stage) after ∙ ap (λ (c : Collector). c.stage) waiting.stays in
    record {
      looking = stage_is ∙ waiting.looks;
      same = rw (turned.same_heap, phases, lookeds, stage_is) (looking_left heap new.machine.state.words state.words collector.phase collector.looked collector.stage waiting.looks);
    }

-- a step leaves fewer, and the seat may be behind then
pub step_leaves_fewer_turns : (old new : Recorded) (number : ℕ) → StandsFor new.machine.heap new.machine.state [] new.history → IsBetweenCalls new.machine.heap new.machine.state new.history → IsStillThere new number
    → TakesTurn (run_state_of old) (run_state_of new) turns.Stepped → left_for new number < left_for old number
step_leaves_fewer_turns old new number s between present takes =
    let below : number < new.machine.heap.seats = omega (arith, present.within, s.stands.rule.machine.seated) in
    let fewer = takes.fewer refl in
    elim (phase_word_is_near new.machine.heap new.machine.state new.history s number below (between.all_idle number present.within) present.there) [
      | inl same ↦ omega (arith, same, fewer)
      | inr next ↦ omega (arith, next, fewer)
    ]

-- an answer leaves the phase
answer_phase : (number p answered : ℕ) → phase (if p == answered then [] else entries.Answers number p ∷ []) ≡ 0
answer_phase number p answered = elim (eqb_tells p answered) [
  | inl same ↦ rw same.0 refl
  | inr apart ↦ rw apart.0 refl
]

-- a turn that waits for the seat, and its answer, leave as many turns, and the seat isn't behind any more
pub answer_leaves_fewer_turns : (old now new : Recorded) (number answer p : ℕ) → StandsFor old.machine.heap old.machine.state [] old.history → StandsFor now.machine.heap now.machine.state [] now.history
    → StandsFor new.machine.heap new.machine.state [] new.history → IsBetweenCalls old.machine.heap old.machine.state old.history → IsStillThere old number
    → TakesTurn (run_state_of old) (run_state_of now) (turns.Waits number answer p) → MakesTurn old now (turns.Waits number answer p) → MakesInner now new number inners.Answer
    → left_for new number < left_for old number
answer_leaves_fewer_turns old now new number answer p one two three between present takes turned makes =
    let still = waits_still old now number answer p turned in
    let others = others_same_after_inner now.machine.heap now.machine.state new.machine.state number inners.Answer makes.plays in
    let collector : new.machine.state.collector ≡ now.machine.state.collector = others.collector in
    let same : turns_left new.machine.heap new.machine.state ≡ turns_left now.machine.heap now.machine.state
    = rw (makes.same_heap, collector) (looking_left now.machine.heap new.machine.state.words now.machine.state.words now.machine.state.collector.phase now.machine.state.collector.looked now.machine.state.collector.stage still.looking) in
    let below : number < old.machine.heap.seats = takes.waits.0 in
    let before : at old.machine.heap old.machine.state.words Phase ≡ p = phase_word_is_phase old.machine.heap old.machine.state old.history one ∙ takes.waits.1.here in
    let gave : (seat_at old.machine.state number).answered ≡ answer
    = answered_is_last_answer old.machine.heap old.machine.state old.history one number below (between.all_idle number present.within) ∙ takes.waits.1.answered in
    let told : List Entry = (if at now.machine.heap now.machine.state.words Phase == (seat_at now.machine.state number).answered then [] else entries.Answers number (at now.machine.heap now.machine.state.words Phase) ∷ []) in
    let phases : phase new.history ≡ phase now.history = ap phase makes.noted ∙ plain now.history told (answer_phase number (at now.machine.heap now.machine.state.words Phase) (seat_at now.machine.state number).answered) in
    let now_word = phase_word_is_phase now.machine.heap now.machine.state now.history two in
    let new_word = phase_word_is_phase new.machine.heap new.machine.state new.history three in
    let answers : (seat_at new.machine.state number).answered ≡ at now.machine.heap now.machine.state.words Phase = ap (λ (t : Seat). t.answered) makes.plays.seat in
    omega (arith, same, still.same, before, gave, takes.waits.2, phases, now_word, new_word, answers)
  where
    plain : (front more : List Entry) → phase more ≡ 0 → phase (front ++ more) ≡ phase front
    plain front more none = omega (arith, none, sum_by-append (λ e. (effect_of e).phases) front more)
