-- A turn adds at most one entry, by what the rule says of the history with it.
use Rattle.std.proofs.Common.{◌/◌, ◌*◌, ◌≡◌, ℕ, ◌+◌, ◌-◌, ◌<◌, ◌^◌, true, false, List, [], ◌∷◌, ◌++◌, inl, inr, filter, refl, sym, ap, ◌∙◌, subst, arith}
use Rattle.std.specs.List.{AllByRecursion}
use Rattle.std.proofs.lemmas.List.{append-nil}
use Rattle.std.proofs.lemmas.List.Elements.{filter-append}
use Rattle.heap_model.specs.declared.calls.collector_calls.Turn.{Turn}
use Rattle.heap_model.specs.declared.calls.collector_calls.Turn.TheVariants as answers
use Rattle.core_rule.proofs.Terms.{Entry, Advance, Ends, Heap, IsLegal, effect_of, phase, Stage, turn_at, next_turn, State, found_by, Turns, entries, Book, EachEventKeeps}
use Rattle.core_rule.proofs.Terms.{IsToldBy, EachTurnComesTo, Rule}
use Rattle.heap_model.specs.account.Noting.{is_collectors}
use Rattle.heap_model.specs.calls.CollectorCalls.{CollectorState, AddsNone, ComesTo}
use Rattle.heap_model.proofs.Histories.{total-more}
use Rattle.core_machine.specs.declared.collector.stage.Stage.TheVariants as stages
use Rattle.core_machine.specs.collector.Collector.{TurnMove}
use Rattle.core_rule.proofs.entries.TurnShapes.{StepsInPhase, TurnShape, adds_nothing, adds_one, begins_phase, ends_cycle, shape_adds_collector_entries}
use Rattle.core_rule.proofs.steps.collector.{turn_kind_of_each_stage}
use Rattle.core_rule.proofs.runs.Plays.{keeps_space_of_each_entry}
use Rattle.core_rule.proofs.runs.Waits.{each_wait_is_behind}

-- what a turn adds is the collector's
pub turn_adds_collector_entries : (heap : Heap) (state : State) → AllByRecursion (λ entry. is_collectors entry ≡ true) (entries heap state Turns)
turn_adds_collector_entries heap state =
    let found : ℕ = found_by heap state (next_turn heap state.collector).step in
    shape_adds_collector_entries heap state.collector found state.collector.stage ((turn_kind_of_each_stage state.collector.stage).shape heap state.collector found)

module _ (heap : Heap) (state : State) (book : Book) (old new : CollectorState) (rule : Rule heap state book) where
  abbrev turn : TurnMove
  turn = next_turn heap state.collector

  abbrev found : ℕ
  found = found_by heap state turn.step

  module _ (told : IsToldBy book.history old) (then_ : IsToldBy (book.history ++ turn.adds) new) where
    adds_none : turn.adds ≡ [] → AddsNone old new
    adds_none none =
        let same : book.history ++ turn.adds ≡ book.history = rw none (append-nil book.history) in
        (then_.log_told ∙ ap (filter is_collectors) same ∙ sym told.log_told, then_.phase_told ∙ ap phase same ∙ sym told.phase_told)

    quiet_comes : turn.adds ≡ [] → ((cycle kept : ℕ) → turn.answer found ≡ answers.Ended cycle kept → ⊥) → (answer : Turn) → turn.answer found ≡ answer → ComesTo old new answer
    quiet_comes none goes_on answers.Stepped is = inl (adds_none none)
    quiet_comes none goes_on (answers.Waits seat answer p) is =
        let waits = each_wait_is_behind heap state book seat answer p rule is in
        let here : p ≡ phase book.history = sym waits.1.here in
        let within : state.collector.phase < 2 ^ 64 - 1 = rule.machine.collector_fit.phase_within in
        let same : state.collector.phase ≡ phase book.history = rule.collector_stands.phase_told in
        (adds_none none, omega (arith, waits.0, rule.machine.limits.seats_fit), here ∙ sym told.phase_told, waits.2, λ left. omega (arith, left, waits.2, here, within, same))
    quiet_comes none goes_on (answers.Ended cycle kept) is = absurd (goes_on cycle kept is)

    begins_comes : (p : ℕ) → turn.adds ≡ Advance p ∷ [] → IsLegal heap false (book.history ++ turn.adds) → ComesTo old new answers.Stepped
    begins_comes p adds legal =
        let with_it : book.history ++ turn.adds ≡ book.history ++ Advance p ∷ [] = ap (λ es. book.history ++ es) adds in
        let begins = (keeps_space_of_each_entry heap false [] book.history [] (Advance p) (subst (IsLegal heap false) with_it legal).space).begins in
        let next : p ≡ old.phase + 1 = begins.0 ∙ ap (λ n. n + 1) (sym told.phase_told) in
        let phases : phase (book.history ++ Advance p ∷ []) ≡ phase book.history + 1 = total-more (λ e. e.phases) book.history (Advance p) in
        let later : new.phase ≡ p = then_.phase_told ∙ ap phase with_it ∙ phases ∙ sym begins.0 in
        let log : new.log ≡ old.log ++ Advance p ∷ []
        = then_.log_told ∙ ap (filter is_collectors) with_it ∙ filter-append is_collectors book.history (Advance p ∷ []) ∙ ap (λ es. es ++ Advance p ∷ []) (sym told.log_told) in
        inr (Advance p, (next, begins.1, later), log)

    one_comes : (entry : Entry) → StepsInPhase heap entry → turn.adds ≡ entry ∷ [] → IsLegal heap false (book.history ++ turn.adds) → ComesTo old new answers.Stepped
    one_comes entry kind adds legal =
        let with_it : book.history ++ turn.adds ≡ book.history ++ entry ∷ [] = ap (λ es. book.history ++ es) adds in
        let sweeps = (keeps_space_of_each_entry heap false [] book.history [] entry (subst (IsLegal heap false) with_it legal).space).sweeps in
        let phases : phase (book.history ++ entry ∷ []) ≡ phase book.history + (effect_of entry).phases = total-more (λ e. e.phases) book.history entry in
        let later : new.phase ≡ old.phase = omega (arith, then_.phase_told ∙ ap phase with_it ∙ phases, told.phase_told, kind.mute.no_phase) in
        let alone : filter is_collectors (entry ∷ []) ≡ entry ∷ [] = rw kind.its refl in
        let log : new.log ≡ old.log ++ entry ∷ []
        = then_.log_told ∙ ap (filter is_collectors) with_it ∙ filter-append is_collectors book.history (entry ∷ []) ∙ ap (λ es. filter is_collectors book.history ++ es) alone ∙ ap (λ es. es ++ entry ∷ []) (sym told.log_told) in
        inr (entry, kind.steps book.history old.phase new.phase told.phase_told later sweeps, log)

    ends_comes : (cycle kept : ℕ) → turn.adds ≡ Ends cycle kept ∷ [] → IsLegal heap false (book.history ++ turn.adds) → ComesTo old new (answers.Ended cycle kept)
    ends_comes cycle kept adds legal =
        let with_it : book.history ++ turn.adds ≡ book.history ++ Ends cycle kept ∷ [] = ap (λ es. book.history ++ es) adds in
        let ends = (keeps_space_of_each_entry heap false [] book.history [] (Ends cycle kept) (subst (IsLegal heap false) with_it legal).space).ends in
        let phases : phase (book.history ++ Ends cycle kept ∷ []) ≡ phase book.history + 1 = total-more (λ e. e.phases) book.history (Ends cycle kept) in
        let last : old.phase ≡ 7 * cycle + 6 = told.phase_told ∙ ends.0.0 in
        let later : new.phase ≡ 7 * cycle + 7 = omega (arith, then_.phase_told ∙ ap phase with_it ∙ phases, ends.0.0) in
        let log : new.log ≡ old.log ++ Ends cycle kept ∷ []
        = then_.log_told ∙ ap (filter is_collectors) with_it ∙ filter-append is_collectors book.history (Ends cycle kept ∷ []) ∙ ap (λ es. es ++ Ends cycle kept ∷ []) (sym told.log_told) in
        (log, last, later)

    -- the turn that is due is the one of its stage
    module _ (stage : Stage) (is : state.collector.stage ≡ stage) where
      due_adds : (added : List Entry) → (turn_at heap state.collector stage).adds ≡ added → turn.adds ≡ added
      due_adds added adds = subst (λ s. (turn_at heap state.collector s).adds ≡ added) (sym is) adds

      answered : ComesTo old new ((turn_at heap state.collector stage).answer found) → ComesTo old new (turn.answer found)
      answered comes = subst (λ s. ComesTo old new ((turn_at heap state.collector s).answer found)) (sym is) comes

    comes : (stage : Stage) → state.collector.stage ≡ stage → IsLegal heap false (book.history ++ turn.adds) → TurnShape heap state.collector found stage → ComesTo old new (turn.answer found)
    comes _ is legal (adds_nothing stage none goes_on) =
        quiet_comes (due_adds stage is [] none) (subst (λ s. (cycle kept : ℕ) → (turn_at heap state.collector s).answer found ≡ answers.Ended cycle kept → ⊥) (sym is) goes_on) (turn.answer found) refl
    comes _ is legal begins_phase = answered stages.Advancing is (begins_comes (state.collector.phase + 1) (due_adds stages.Advancing is _ refl) legal)
    comes _ is legal (adds_one stage entry kind adds stepped) = answered stage is (subst (ComesTo old new) (sym stepped) (one_comes entry kind (due_adds stage is _ adds) legal))
    comes _ is legal (ends_cycle kept) = answered (stages.Ending kept) is (ends_comes (state.collector.phase / 7) kept (due_adds (stages.Ending kept) is _ refl) legal)

pub each_turn_comes_to : EachEventKeeps → EachTurnComesTo
each_turn_comes_to each heap state book old new stands can told then_ =
    let after = each heap state book Turns stands can in (
      turn_adds_collector_entries heap state,
      comes heap state book old new stands.rule told then_ state.collector.stage refl (subst (IsLegal heap false) after.grown after.stands.rule.heap_stands.legal)
          ((turn_kind_of_each_stage state.collector.stage).shape heap state.collector (found_by heap state (next_turn heap state.collector).step)),
    )
