-- Looks and the begin of a phase leave fewer turns of the cycle; behind its end there are as many as a cycle has at most.
use Rattle.std.specs.Prelude.{if◌then◌else◌}
use Rattle.std.proofs.Common.{suc, ◌≡◌, ◌≢◌, ℕ, ◌+◌, ◌-◌, ◌*◌, ◌%◌, ◌<◌, ◌≤◌, Bool, true, false, List, inl, inr, refl, sym, ap, ◌∙◌, subst, arith}
use Rattle.std.proofs.lemmas.Bool.Decides.{leb_tells}
use Rattle.core_rule.proofs.Terms.{cycle_phases, Heap, Collector, has_answered_of, first_work, after_counted_look, HasLooked, State, at, sum_upto}
use Rattle.heap_model.specs.PhasePlan.{clearing}
use Rattle.heap_model.specs.declared.calls.collector_calls.Turn.TheVariants.{Stepped, Waits}
use Rattle.core_machine.specs.declared.collector.stage.Copying.TheVariants.{Visiting}
use Rattle.core_machine.specs.declared.collector.stage.Stage.TheVariants as stages
use Rattle.core_machine.specs.declared.table.address.Address.TheVariants.{Answer}
use Rattle.core_machine.proofs.collector_lemmas.Works.{work_cases}
use Rattle.core_machine.proofs.table_lemmas.Addresses.{put_of_read_changes_nothing}
use Rattle.core_rule.specs.turns.TurnsLeft.{scanned_count, sweep_most}
use Rattle.core_rule.proofs.lists.SumLemmas.{sum-suc}
use Rattle.space_plan.specs.cycle_turns.ToldWords.{scanned_words}
use Rattle.space_plan.specs.cycle_turns.CycleLeft.{phase_work, left_in_phase, phases_left, cycle_left_at, cycle_left}
use Rattle.space_plan.specs.cycle_turns.MarkingLeft.{passes_left}
use Rattle.space_plan.specs.cycle_turns.CycleTurns.{cycle_most}
use Rattle.space_plan.proofs.cycle_turns.Lefts.{StageLeavesFewer, fewer_left_at_stage}
use Rattle.space_plan.proofs.cycle_turns.LosesNothing.{fewer_passes_left}

-- marking begins with no more than its most turns
marking_begins : (groups fragments spine_words : ℕ) → passes_left groups (16 * groups - fragments) (16 * groups - spine_words) 0 0 ≤ 16 * groups * (groups + 12) + groups + 1
marking_begins groups fragments spine_words =
    let less = fewer_passes_left groups (16 * groups - fragments) (16 * groups) (16 * groups - spine_words) (16 * groups) 0 0 (omega arith) (omega arith) in
    by _ less (times (16 * groups))
  where
    times : (m : ℕ) → m * (groups + 12) ≡ m * (groups + 10) + 2 * m
    times m = grind arith

    by : (l : ℕ) → l ≤ 16 * groups * (groups + 10) + 2 * (16 * groups) + (groups - 0) + 0 + 1 → 16 * groups * (groups + 12) ≡ 16 * groups * (groups + 10) + 2 * (16 * groups) → l ≤ 16 * groups * (groups + 12) + groups + 1
    by l few is = omega (arith, few, is)

-- so does each phase's work
work_begins : (heap : Heap) (words : List ℕ) (phase looked : ℕ) → left_in_phase heap words phase looked (first_work phase) ≤ phase_work heap.groups phase
work_begins heap words phase looked =
    work_cases (λ stage most. left_in_phase heap words phase looked stage ≤ most) phase (stages.Passing 0 false) (stages.Copying (Visiting 0)) (stages.Sweeping 0) (stages.Clearing 0 0) stages.Advancing
    (16 * heap.groups * (heap.groups + 12) + heap.groups + 1) (81 * heap.groups) (sweep_most * heap.groups) heap.groups 0
    (λ marks. marking_begins heap.groups (scanned_count heap words) (scanned_words heap words)) (λ copies. omega arith) (λ sweeps. omega arith) (λ clears. omega arith) (λ nothing. omega arith)

-- one look more leaves fewer, and the last one the phase's work
fewer_looks : (seats looked work : ℕ) → looked < seats → seats - (looked + 1) + work < seats - looked + work
fewer_looks seats looked work below = omega (arith, below)

last_look : (seats looked work first : ℕ) → looked < seats → first ≤ work → first < seats - looked + work
last_look seats looked work first below few = omega (arith, few, below)

module _ (heap : Heap) (state : State) (looking : state.collector.stage ≡ stages.Looking) (below : state.collector.looked < heap.seats) where
  abbrev collector : Collector
  collector = state.collector

  abbrev LeavesFewer : Collector → Type 0
  LeavesFewer later = cycle_left_at heap state.words later.phase later.looked later.stage < cycle_left heap state

  -- one more seat has answered
  counted_leaves : LeavesFewer (after_counted_look heap collector)
  counted_leaves = elim (leb_tells (suc (collector.looked + 1)) heap.seats) as (λ _. LeavesFewer (after_counted_look heap collector)) [
    | inl more ↦ rw more.0 (subst (λ stage. cycle_left_at heap state.words collector.phase (collector.looked + 1) stage < cycle_left heap state) (sym looking)
        (fewer_left_at_stage heap state stages.Looking looking state.words (collector.looked + 1) stages.Looking (fewer_looks heap.seats collector.looked (phase_work heap.groups collector.phase) below)))
    | inr all ↦ rw all.0 (fewer_left_at_stage heap state stages.Looking looking state.words heap.seats (first_work collector.phase)
        (last_look heap.seats collector.looked (phase_work heap.groups collector.phase) _ below (work_begins heap state.words collector.phase heap.seats)))
  ]

  look_found : (b : Bool) (word : ℕ) → (if b then Stepped else Waits collector.looked word collector.phase) ≡ Stepped → LeavesFewer (if b then after_counted_look heap collector else collector)
  look_found true word stepped = counted_leaves
  look_found false word stepped = absurd (cc stepped)

pub looking_leaves_fewer : StageLeavesFewer stages.Looking
looking_leaves_fewer heap state book rule looking stepped =
    let below : state.collector.looked < heap.seats = rw looking at rule.machine.collector_fit.at_stage in
    let word : ℕ = at heap state.words (Answer state.collector.looked) in
    rw (put_of_read_changes_nothing heap state.words (Answer state.collector.looked)) (look_found heap state looking below (has_answered_of state.collector.phase word) word stepped)

-- a phase has the work of the phase of its number in a cycle
work_by_rest : (groups p q : ℕ) → p % cycle_phases ≡ q % cycle_phases → phase_work groups p ≡ phase_work groups q
work_by_rest groups p q same = rw same refl

-- the phases to come are the next one and those behind it
phases_go_on : (heap : Heap) (p : ℕ) → p % cycle_phases ≢ clearing → phases_left heap p ≡ phases_left heap (p + 1) + (heap.seats + 1 + phase_work heap.groups (p + 1))
phases_go_on heap p goes_on =
    let one : clearing - p % cycle_phases ≡ suc (clearing - (p + 1) % cycle_phases) = omega (arith, goes_on) in
    let next : clearing - (clearing - (p + 1) % cycle_phases) ≡ (p + 1) % cycle_phases = omega arith in
    let rest : (clearing - (clearing - (p + 1) % cycle_phases)) % cycle_phases ≡ (p + 1) % cycle_phases = omega arith in
    ap (λ n. sum_upto n (λ k. heap.seats + 1 + phase_work heap.groups (clearing - k))) one ∙ sum-suc (clearing - (p + 1) % cycle_phases) (λ k. heap.seats + 1 + phase_work heap.groups (clearing - k))
    ∙ ap (λ work. phases_left heap (p + 1) + (heap.seats + 1 + work)) (work_by_rest heap.groups (clearing - (clearing - (p + 1) % cycle_phases)) (p + 1) rest)

pub advancing_leaves_fewer : StageLeavesFewer stages.Advancing
advancing_leaves_fewer heap state book rule advancing stepped =
    let fits : HasLooked heap.seats state.collector.phase state.collector.looked = rw advancing at rule.machine.collector_fit.at_stage in
    rw advancing (by (phases_left heap state.collector.phase) (phases_left heap (state.collector.phase + 1)) (phase_work heap.groups (state.collector.phase + 1)) (phases_go_on heap state.collector.phase fits.goes_on))
  where
    by : (all rest work : ℕ) → all ≡ rest + (heap.seats + 1 + work) → heap.seats - 0 + work + 1 + rest < 0 + 1 + all
    by all rest work is = omega (arith, is)

-- those of a whole cycle
all_phases : (heap : Heap) → sum_upto 6 (λ k. heap.seats + 1 + phase_work heap.groups (clearing - k))
    ≡ 6 * (heap.seats + 1) + (16 * heap.groups * (heap.groups + 12) + heap.groups + 1) + 81 * heap.groups + 19 * heap.groups + heap.groups
unfolding sum_upto
all_phases heap = omega arith

-- where no cycle is under way, and no look was made, as many turns are left as a cycle has at most
pub cycle_begins_with_most : (heap : Heap) (words : List ℕ) (p : ℕ) → p % cycle_phases ≡ 0 → cycle_left_at heap words p 0 stages.Looking ≡ cycle_most heap
cycle_begins_with_most heap words p rests =
    let work : phase_work heap.groups p ≡ 0 = work_by_rest heap.groups p 0 rests in
    let phases : phases_left heap p ≡ 6 * (heap.seats + 1) + (16 * heap.groups * (heap.groups + 12) + heap.groups + 1) + 81 * heap.groups + 19 * heap.groups + heap.groups
    = ap (λ n. sum_upto (clearing - n) (λ k. heap.seats + 1 + phase_work heap.groups (clearing - k))) rests ∙ all_phases heap in
    by (phase_work heap.groups p) (phases_left heap p) work phases (times heap.groups)
  where
    times : (g : ℕ) → 16 * g * (g + 12) ≡ 16 * g * g + 192 * g
    times g = grind arith

    by : (work rest : ℕ) → work ≡ 0 → rest ≡ 6 * (heap.seats + 1) + (16 * heap.groups * (heap.groups + 12) + heap.groups + 1) + 81 * heap.groups + 19 * heap.groups + heap.groups
        → 16 * heap.groups * (heap.groups + 12) ≡ 16 * heap.groups * heap.groups + 192 * heap.groups → heap.seats - 0 + work + 1 + rest ≡ cycle_most heap
    by work rest none is product = omega (arith, none, is, product)
