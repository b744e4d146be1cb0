-- A look that finds an answer leaves fewer turns, and so does the begin of the next phase.
use Rattle.std.specs.Prelude.{if◌then◌else◌}
use Rattle.std.proofs.Common.{suc, ◌≡◌, ℕ, ◌+◌, ◌-◌, ◌*◌, ◌%◌, ◌<◌, ◌≤◌, Bool, true, false, List, inl, inr, sym, subst, arith}
use Rattle.std.proofs.Math.Nat.{mul-le-mul_right}
use Rattle.std.proofs.lemmas.Bool.Decides.{leb_tells}
use Rattle.core_rule.proofs.Terms.{cycle_phases, Heap, Collector, has_answered_of, first_work, after_counted_look, HasLooked, State, at}
use Rattle.heap_model.specs.declared.calls.collector_calls.Turn.TheVariants.{Stepped, Waits}
use Rattle.core_machine.specs.declared.collector.stage.Stage.TheVariants as stages
use Rattle.core_machine.specs.declared.table.address.Address.TheVariants.{Answer}
use Rattle.core_machine.proofs.table_lemmas.Addresses.{put_of_read_changes_nothing}
use Rattle.core_rule.specs.turns.TurnsLeft.{scanned_count, fragment_most, sweep_most, work_most, stage_left, turns_left_at, turns_left}
use Rattle.core_rule.proofs.turns.Lefts.{StageLeavesFewer, fewer_turns_left_at_stage}
use Rattle.core_rule.proofs.turns.WorkCases.{first_work_cases}

-- what a phase is for begins with no more than the most turns of it
work_starts : (heap : Heap) (words : List ℕ) (phase looked : ℕ) → stage_left heap words phase looked (first_work phase) ≤ work_most heap.groups phase
work_starts heap words phase looked =
    first_work_cases (λ stage most. stage_left heap words phase looked stage ≤ most) heap.groups phase
    (λ marks. by ((16 * heap.groups - scanned_count heap words) * (heap.groups + 2060)) (16 * heap.groups * (heap.groups + 2060)) (mul-le-mul_right (heap.groups + 2060) (omega arith)))
    (λ copies. omega arith) (λ sweeps. omega arith) (λ clears. omega arith) (λ nothing. omega arith)
  where
    by : (m n : ℕ) → m ≤ n → m + 0 + (heap.groups - 0) + 0 + 1 ≤ n + heap.groups + 1
    by m n less = omega (arith, less)

-- of which no phase has more than these
work_few : (groups phase : ℕ) → 1 ≤ groups → work_most groups phase ≤ 16 * groups * fragment_most groups + sweep_most * groups
work_few groups phase some = first_work_cases (λ stage most. most ≤ 16 * groups * fragment_most groups + sweep_most * groups) groups phase
    (λ marks. by (16 * groups * fragment_most groups)) (λ copies. omega arith) (λ sweeps. omega arith) (λ clears. omega arith) (λ nothing. omega (arith, some))
  where
    by : (m : ℕ) → m + groups + 1 ≤ m + 19 * groups
    by m = omega (arith, some)

module _ (heap : Heap) (state : State) (looking : state.collector.stage ≡ stages.Looking) (below : state.collector.looked < heap.seats) where
  abbrev collector : Collector
  collector = state.collector

  abbrev LeavesFewer : Collector → Type 0
  LeavesFewer later = turns_left_at heap state.words later.phase later.looked later.stage < turns_left heap state

  -- one more seat has answered
  counted_leaves : LeavesFewer (after_counted_look heap collector)
  counted_leaves = elim (leb_tells (suc (collector.looked + 1)) heap.seats) as (λ _. LeavesFewer (after_counted_look heap collector)) [
    | inl more ↦ rw more.0 (subst (λ stage. turns_left_at heap state.words collector.phase (collector.looked + 1) stage < turns_left heap state) (sym looking)
        (fewer_turns_left_at_stage heap state stages.Looking state.words (collector.looked + 1) stages.Looking looking (on (work_most heap.groups collector.phase))))
    | inr all ↦ rw all.0 (fewer_turns_left_at_stage heap state stages.Looking state.words heap.seats (first_work collector.phase) looking
        (begun (work_most heap.groups collector.phase) (stage_left heap state.words collector.phase heap.seats (first_work collector.phase)) (work_starts heap state.words collector.phase heap.seats)))
  ]
    where
      on : (work : ℕ) → heap.seats - (collector.looked + 1) + work < heap.seats - collector.looked + work
      on work = omega (arith, below)

      begun : (work first : ℕ) → first ≤ work → first < heap.seats - collector.looked + work
      begun work first few = omega (arith, few, below)

  look_found : (b : Bool) (word : ℕ) → (if b then Stepped else Waits collector.looked word collector.phase) ≡ Stepped → LeavesFewer (if b then after_counted_look heap collector else collector)
  look_found true word stepped = counted_leaves
  look_found false word stepped = absurd (cc stepped)

pub look_leaves_fewer : StageLeavesFewer stages.Looking
look_leaves_fewer heap state book rule looking stepped =
    let below : state.collector.looked < heap.seats = rw looking at rule.machine.collector_fit.at_stage in
    let word : ℕ = at heap state.words (Answer state.collector.looked) in
    rw (put_of_read_changes_nothing heap state.words (Answer state.collector.looked)) (look_found heap state looking below (has_answered_of state.collector.phase word) word stepped)

pub advance_leaves_fewer : StageLeavesFewer stages.Advancing
advance_leaves_fewer heap state book rule advancing stepped =
    let fits : HasLooked heap.seats state.collector.phase state.collector.looked = rw advancing at rule.machine.collector_fit.at_stage in
    let p : ℕ = state.collector.phase in
    let one : 6 - p % cycle_phases ≡ suc (6 - (p + 1) % cycle_phases) = omega (arith, fits.goes_on) in
    rw (advancing, one) (by (6 - (p + 1) % cycle_phases) (16 * heap.groups * fragment_most heap.groups) (work_most heap.groups (p + 1)) (work_few heap.groups (p + 1) rule.machine.limits.some_group))
  where
    by : (k m work : ℕ) → work ≤ m + 19 * heap.groups → k * (heap.seats + m + 19 * heap.groups + 1) + (heap.seats - 0 + work) < suc k * (heap.seats + m + 19 * heap.groups + 1) + 0
    by k m work few =
        let more : suc k * (heap.seats + m + 19 * heap.groups + 1) ≡ k * (heap.seats + m + 19 * heap.groups + 1) + (heap.seats + m + 19 * heap.groups + 1) = grind arith in
        omega (arith, more, few)
