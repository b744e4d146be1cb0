-- A collect that goes on: by turns and by answers of its seat.
use Rattle.std.proofs.Common.{◌≡◌, ◌≢◌, ℕ, zero, suc, ◌+◌, ◌*◌, ◌<◌, ◌≤◌, ◌==◌, if◌then◌else◌, List, [], ◌∷◌, ◌++◌, length, filter, inl, inr, refl, sym, ap, subst, ◌∙◌, append_assoc, length-append, arith}
use Rattle.std.specs.List.{AllByRecursion}
use Rattle.std.proofs.lemmas.List.{append-nil, append_cancel_left}
use Rattle.std.proofs.lemmas.Bool.Decides.{eqb_tells, leb_tells}
use Rattle.std.proofs.lemmas.List.Sums.{sum_by-append}
use Rattle.std.proofs.lemmas.List.Elements.{filter-append}
use Rattle.heap_model.specs.declared.calls.collect.Inner.{Inner}
use Rattle.heap_model.specs.declared.calls.collect.Inner.TheVariants as inners
use Rattle.heap_model.specs.declared.calls.collect.CollectReply.TheVariants as replies
use Rattle.heap_model.specs.declared.calls.collector_calls.Turn.{Turn}
use Rattle.heap_model.specs.declared.calls.collector_calls.Turn.TheVariants as turns
use Rattle.heap_model.specs.declared.entry.Entry.{Entry}
use Rattle.heap_model.specs.declared.entry.Entry.TheVariants as entries
use Rattle.heap_model.specs.declared.heap.Heap.{Heap}
use Rattle.heap_model.specs.PhasePlan.{cycle_phases, clearing}
use Rattle.heap_model.specs.account.Effects.{effect_of}
use Rattle.heap_model.specs.account.Noting.{is_collectors}
use Rattle.heap_model.specs.account.PhaseCounts.{phase}
use Rattle.heap_model.specs.calls.CollectorCalls.{ComesTo, StepsTo}
use Rattle.core_machine.specs.declared.table.address.Address.TheVariants.{Phase}
use Rattle.core_machine.specs.machine.InnerCalls.{inner_entries}
use Rattle.core_machine.specs.machine.Machine.{State, seat_at, Turns}
use Rattle.core_machine.specs.machine.Machine as machines
use Rattle.core_machine.specs.seat.Seat.{Seat}
use Rattle.core_machine.specs.table.Layout.{at}
use Rattle.heap_record.specs.Recorded.{MakesInner, Recorded, MakesTurn}
use Rattle.heap_runs.specs.Collecting.{IsStillThere, CollectGoesOn, EndsFor, StaysInCycle, IsUnderWayAt}
use Rattle.heap_runs.specs.MachineHeap.{run_state_of, MovesOn, MovesAll, CollectsMachine}
use Rattle.heap_runs.specs.Play.{TellsInCollect}
use Rattle.heap_runs.specs.PlayHeap.{TakesTurn, collector_state_of}
use Rattle.heap_runs.proofs.TurnFacts.{turn_adds_just_more, turn_adds_nothing, waiting_turn_shows}
use Rattle.core_rule.proofs.parties.Collectors.{all_are_collectors}
use Rattle.core_rule.proofs.parties.OneSeat.{others_same_after_inner}

-- moves after moves
pub moves_then : (n m : ℕ) (heap : Heap) (number : ℕ) (old now new : State) (first next : List Entry) → MovesAll m heap number old now first → MovesAll n heap number now new next
    → (k : ℕ) × MovesAll k heap number old new (first ++ next)
moves_then zero m heap number old now new first next made none =
    (m, subst (λ (s : State). MovesAll m heap number old s (first ++ next)) (sym none.0) (subst (λ (l : List Entry). MovesAll m heap number old now l) (sym (append-nil first) ∙ ap (λ (l : List Entry). first ++ l) (sym none.1)) made))
moves_then (suc n) m heap number old now new first next made more =
    let earlier = moves_then n m heap number old now more.0 first more.1 made more.3 in
    (suc earlier.0, (more.0, first ++ more.1, more.2, earlier.1, more.4, ap (λ (l : List Entry). first ++ l) more.5 ∙ sym (append_assoc first more.1 more.2)))

-- one move
pub one_move : (heap : Heap) (number : ℕ) (old new : State) (told : List Entry) → MovesOn heap number old new told → MovesAll 1 heap number old new told
one_move heap number old new told on = (old, [], told, (refl, refl), on, refl)

abbrev pub machine_none : (whole : Recorded) (number : ℕ) → CollectsMachine whole whole number
machine_none whole number = record { same_heap = refl; moves = 0; told = []; makes = (refl, refl); noted = sym (append-nil whole.history); listed = sym (append-nil whole.listed) }

abbrev pub machine_then : (old now new : Recorded) (number : ℕ) → CollectsMachine old now number → CollectsMachine now new number → CollectsMachine old new number
machine_then old now new number first next =
    let here : MovesAll next.moves old.machine.heap number now.machine.state new.machine.state next.told = subst (λ (h : Heap). MovesAll next.moves h number now.machine.state new.machine.state next.told) first.same_heap next.makes in
    let both = moves_then next.moves first.moves old.machine.heap number old.machine.state now.machine.state new.machine.state first.told next.told first.makes here in
    record {
      same_heap = next.same_heap ∙ first.same_heap;
      moves = both.0;
      told = first.told ++ next.told;
      makes = both.1;
      noted = next.noted ∙ ap (λ (l : List Entry). l ++ next.told) first.noted ∙ append_assoc old.history first.told next.told;
      listed = next.listed ∙ ap (λ (l : List Entry). l ++ next.told) first.listed ∙ append_assoc old.listed first.told next.told;
    }

abbrev pub machine_inner : (old new : Recorded) (number : ℕ) (inner : Inner) → MakesInner old new number inner → CollectsMachine old new number
machine_inner old new number inner makes =
    let told : List Entry = inner_entries old.machine.heap old.machine.state.words number (seat_at old.machine.state number).answered inner in
    record { same_heap = makes.same_heap; moves = 1; told = told; makes = one_move old.machine.heap number old.machine.state new.machine.state told (inl (inner, makes.plays, refl)); noted = makes.noted; listed = makes.listed }

abbrev pub machine_turn : (old new : Recorded) (number : ℕ) (turn : Turn) → MakesTurn old new turn → CollectsMachine old new number
machine_turn old new number turn turned =
    let told : List Entry = machines.entries old.machine.heap old.machine.state Turns in
    record { same_heap = turned.same_heap; moves = 1; told = told; makes = one_move old.machine.heap number old.machine.state new.machine.state told (inr (turned.can, turned.after, refl)); noted = turned.noted; listed = turned.listed }

pub quiet_more : (number : ℕ) (front behind : List Entry) → AllByRecursion (TellsInCollect number) front → AllByRecursion (TellsInCollect number) behind → AllByRecursion (TellsInCollect number) (front ++ behind)
quiet_more number [] behind quiet more = more
quiet_more number (entry ∷ front) behind quiet more = (quiet.0, quiet_more number front behind quiet.1 more)

-- the phase never falls
pub phase_onward : (before added after : List Entry) → after ≡ before ++ added → phase before ≤ phase after
phase_onward before added after is = omega (arith, ap phase is, sum_by-append (λ e. (effect_of e).phases) before added)

pub collect_goes_on_with_nothing : (whole : Recorded) (number : ℕ) → IsStillThere whole number → CollectGoesOn whole whole number
collect_goes_on_with_nothing whole number present =
    record { machine = machine_none whole number; quiet = tt; turns = 0; counted = omega arith; spare = omega arith; present = present; first_stays = refl; onward = omega arith }

unfoldable pub collect_goes_on_twice : (old now new : Recorded) (number : ℕ) → CollectGoesOn old now number → CollectGoesOn now new number → CollectGoesOn old new number
collect_goes_on_twice old now new number first next = record {
  machine = machine_then old now new number first.machine next.machine;
  quiet = quiet_more number first.machine.told next.machine.told first.quiet next.quiet;
  turns = first.turns + next.turns;
  counted = omega (arith, first.counted, next.counted);
  spare = omega (arith, first.spare, next.spare);
  present = next.present;
  first_stays = next.first_stays ∙ first.first_stays;
  onward = omega (arith, first.onward, next.onward);
}

steps_quiet : (number now later : ℕ) (entry : Entry) → StepsTo now entry later → TellsInCollect number entry
steps_quiet number now later (entries.Advance next) steps = refl
steps_quiet number now later (entries.Frees count) steps = refl
steps_quiet number now later (entries.Returns count) steps = refl
steps_quiet number now later (entries.Swings id) steps = refl
steps_quiet number now later _ steps = absurd steps

module _ (old new : Recorded) (number : ℕ) (turn : Turn) (takes : TakesTurn (run_state_of old) (run_state_of new) turn) where
  quiet_by : (turn : Turn) → ComesTo (collector_state_of (run_state_of old)) (collector_state_of (run_state_of new)) turn → AllByRecursion (TellsInCollect number) takes.added
  quiet_by turns.Stepped (inl none) = rw (turn_adds_nothing (run_state_of old) (run_state_of new) turn takes none.0) tt
  quiet_by turns.Stepped (inr steps) =
      rw (turn_adds_just_more (run_state_of old) (run_state_of new) turn takes (steps.0 ∷ []) steps.2) (steps_quiet number _ _ steps.0 steps.1, tt)
  quiet_by (turns.Waits other answer p) comes = rw (turn_adds_nothing (run_state_of old) (run_state_of new) turn takes comes.0.0) tt
  quiet_by (turns.Ended cycle kept) comes = rw (turn_adds_just_more (run_state_of old) (run_state_of new) turn takes (entries.Ends cycle kept ∷ []) comes.0) (tt, tt)

  -- by a turn
  pub collect_goes_on_by_turn : MakesTurn old new turn → IsStillThere old number → CollectGoesOn old new number
  collect_goes_on_by_turn turned present =
      let told : List Entry = machines.entries old.machine.heap old.machine.state Turns in
      let seats : new.machine.state.seats ≡ old.machine.state.seats = ap (λ (s : State). s.seats) turned.after in
      let same : seat_at new.machine.state number ≡ seat_at old.machine.state number = ap (λ (s : State). seat_at s number) turned.after in
      record {
        machine = machine_turn old new number turn turned;
        quiet = subst (AllByRecursion (TellsInCollect number)) (append_cancel_left old.history takes.added told (sym takes.entries ∙ turned.noted)) (quiet_by turn takes.turned.comes_to);
        turns = 1;
        counted = omega (arith, takes.turned.counted);
        spare = grown;
        present = record { within = omega (arith, present.within, ap (length {A = Seat}) seats); there = ap (λ (s : Seat). s.left) same ∙ present.there };
        first_stays = ap (λ (s : Seat). s.looks.first) same;
        onward = phase_onward old.history told new.history turned.noted;
      }
    where
      grown : old.spare + length old.history ≤ new.spare + length new.history
      grown =
          let longer = ap (length {A = Entry}) takes.entries ∙ length-append old.history takes.added in
          let filtered = ap (length {A = Entry}) (ap (filter is_collectors) takes.entries ∙ filter-append is_collectors old.history takes.added ∙ ap (λ es. filter is_collectors old.history ++ es) (all_are_collectors takes.added takes.own))
          ∙ length-append (filter is_collectors old.history) takes.added in
          omega (arith, takes.turned.spare, longer, filtered)

-- by an answer of the seat
pub collect_goes_on_by_answer : (old new : Recorded) (number : ℕ) → MakesInner old new number inners.Answer → IsStillThere old number → CollectGoesOn old new number
collect_goes_on_by_answer old new number makes present =
    let told : List Entry = inner_entries old.machine.heap old.machine.state.words number (seat_at old.machine.state number).answered inners.Answer in
    let others = others_same_after_inner old.machine.heap old.machine.state new.machine.state number inners.Answer makes.plays in
    record {
      machine = machine_inner old new number inners.Answer makes;
      quiet = answer_quiet (at old.machine.heap old.machine.state.words Phase) (seat_at old.machine.state number).answered;
      turns = 0;
      counted = omega (arith, makes.turns_stay);
      spare = makes.spare;
      present = record { within = omega (arith, present.within, others.seats); there = ap (λ (s : Seat). s.left) makes.plays.seat ∙ present.there };
      first_stays = ap (λ (s : Seat). s.looks.first) makes.plays.seat;
      onward = phase_onward old.history told new.history makes.noted;
    }
  where
    answer_quiet : (p answered : ℕ) → AllByRecursion (TellsInCollect number) (if p == answered then [] else entries.Answers number p ∷ [])
    answer_quiet p answered = elim (eqb_tells p answered) [
      | inl same ↦ rw same.0 tt
      | inr apart ↦ rw apart.0 (refl, tt)
    ]

-- nothing has ended where nothing happened
pub stays_in_cycle_with_nothing : (whole : Recorded) → StaysInCycle whole whole
stays_in_cycle_with_nothing whole cycle under = under

-- a step ends no cycle
steps_within : (now later : ℕ) (entry : Entry) → StepsTo now entry later → (cycle : ℕ) → now < cycle_phases * cycle → later < cycle_phases * cycle
steps_within now later (entries.Advance next) steps cycle under = omega (arith, under, steps.0, steps.2, apart)
  where
    apart : (cycle_phases * cycle ≡ next) → ⊥
    apart is = steps.1 (omega (arith, is))
steps_within now later (entries.Frees count) steps cycle under = omega (arith, under, steps.2)
steps_within now later (entries.Returns count) steps cycle under = omega (arith, under, steps.2)
steps_within now later (entries.Swings id) steps cycle under = omega (arith, under, steps.1)
steps_within now later _ steps cycle under = absurd steps

pub stays_in_cycle_by_turn : (old now new : Recorded) (turn : Turn) → StaysInCycle old now → TakesTurn (run_state_of now) (run_state_of new) turn → turn ≡ turns.Stepped → StaysInCycle old new
stays_in_cycle_by_turn old now new turn stays takes is cycle under = by (subst (ComesTo (collector_state_of (run_state_of now)) (collector_state_of (run_state_of new))) is takes.turned.comes_to)
  where
    by : ComesTo (collector_state_of (run_state_of now)) (collector_state_of (run_state_of new)) turns.Stepped → phase new.history < cycle_phases * cycle
    by (inl none) = omega (arith, none.1, stays cycle under)
    by (inr steps) = steps_within (phase now.history) (phase new.history) steps.0 steps.1 cycle (stays cycle under)

-- nor does a turn that waits, and an answer
pub stays_in_cycle_by_wait : (old now new : Recorded) (other answer p : ℕ) → StaysInCycle old now → TakesTurn (run_state_of now) (run_state_of new) (turns.Waits other answer p) → StaysInCycle old new
stays_in_cycle_by_wait old now new other answer p stays takes cycle under = omega (arith, takes.turned.comes_to.0.1, stays cycle under)

pub stays_in_cycle_by_answer : (old now new : Recorded) (number : ℕ) → StaysInCycle old now → MakesInner now new number inners.Answer → StaysInCycle old new
stays_in_cycle_by_answer old now new number stays makes cycle under =
    omega (arith, stays cycle under, ap phase makes.noted, sum_by-append (λ e. (effect_of e).phases) now.history told, none (at now.machine.heap now.machine.state.words Phase) (seat_at now.machine.state number).answered)
  where
    told : List Entry
    told = inner_entries now.machine.heap now.machine.state.words number (seat_at now.machine.state number).answered inners.Answer

    none : (p answered : ℕ) → phase (if p == answered then [] else entries.Answers number p ∷ []) ≡ 0
    none p answered = elim (eqb_tells p answered) [
      | inl same ↦ rw same.0 refl
      | inr apart ↦ rw apart.0 refl
    ]

-- a last turn that waits for another seat
pub ends_for_waiting : (old now new : Recorded) (number other answer p : ℕ) → CollectGoesOn old now number → TakesTurn (run_state_of now) (run_state_of new) (turns.Waits other answer p)
    → MakesTurn now new (turns.Waits other answer p) → other ≢ number → EndsFor old new number (replies.Waits other answer p)
unfolding collect_goes_on_twice collect_goes_on_by_turn
ends_for_waiting old now new number other answer p goes takes turned apart =
    let shows = waiting_turn_shows (run_state_of now) (run_state_of new) other answer p takes in
    let some : 0 < goes.turns + 1 = omega arith in
    record {
      ends = record {
        goes = collect_goes_on_twice old now new number goes (collect_goes_on_by_turn now new number (turns.Waits other answer p) takes turned goes.present);
        some = some;
        comes = (apart, takes.turned.last, shows.0, shows.2, shows.1);
        last = λ cycle is. absurd (cc is);
      };
      under_way = λ cycle is. absurd (cc is);
    }

-- a last turn that ends a cycle
pub ends_for_cycle : (old now new : Recorded) (number cycle kept : ℕ) → CollectGoesOn old now number → StaysInCycle old now → TakesTurn (run_state_of now) (run_state_of new) (turns.Ended cycle kept)
    → MakesTurn now new (turns.Ended cycle kept) → EndsFor old new number (replies.Cycle cycle)
unfolding collect_goes_on_twice collect_goes_on_by_turn
ends_for_cycle old now new number cycle kept goes stays takes turned =
    let comes = takes.turned.comes_to in
    let some : 0 < goes.turns + 1 = omega arith in
    record {
      ends = record {
        goes = collect_goes_on_twice old now new number goes (collect_goes_on_by_turn now new number (turns.Ended cycle kept) takes turned goes.present);
        some = some;
        comes = (kept, takes.turned.last, comes.2);
        last = λ other is. (goes.machine.told, kept, ap (λ (es : List Entry). goes.machine.told ++ es) (told_is ∙ ap (λ (n : ℕ). entries.Ends n kept ∷ []) (cc is)));
      };
      under_way = λ other is. under_way other is comes.1;
    }
  where
    told_is : machines.entries now.machine.heap now.machine.state Turns ≡ entries.Ends cycle kept ∷ []
    told_is =
        append_cancel_left now.history (machines.entries now.machine.heap now.machine.state Turns) (entries.Ends cycle kept ∷ [])
        (sym turned.noted ∙ takes.entries ∙ ap (λ (es : List Entry). now.history ++ es)
        (turn_adds_just_more (run_state_of now) (run_state_of new) (turns.Ended cycle kept) takes (entries.Ends cycle kept ∷ []) takes.turned.comes_to.0))

    under_way : (other : ℕ) → replies.Cycle cycle ≡ replies.Cycle other → phase now.history ≡ cycle_phases * cycle + clearing → IsUnderWayAt (phase old.history) other
    under_way other is at_end =
        let same : cycle ≡ other = cc is in (
          elim (leb_tells (cycle_phases * other) (phase old.history)) [
            | inl late ↦ omega (arith, late.1)
            | inr early ↦ absurd (let more = stays other (omega (arith, early.1)) in omega (arith, same, at_end, more))
          ],
          omega (arith, same, at_end, goes.onward),
        )
