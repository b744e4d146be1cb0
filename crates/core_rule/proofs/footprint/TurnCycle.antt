-- What stands of a cycle goes on by each turn of the collector.
use Rattle.std.specs.List.{list_any}
use Rattle.std.proofs.Common.{◌≡◌, ◌≢◌, ℕ, ◌+◌, ◌%◌, ◌/◌, ◌==◌, inl, inr, Bool, true, false, List, [], ◌∷◌, refl, sym, ap, ◌∙◌, arith}
use Rattle.std.proofs.lemmas.Bool.Decides.{eqb_tells}
use Rattle.core_rule.proofs.Terms.{cycle_phases, Entry, Advance, Ends, Heap, Id, graph_of, bound, phase, up_to_cycle, begins_cycle, turn_at, HasCleared, Stage, State}
use Rattle.core_rule.proofs.Terms.{state_after_turn, found_by, Book, id_at, Kept, Dead, born_bit, Rule}
use Rattle.heap_model.specs.PhasePlan.{rest as resting, clearing as clearing_phase, sweep as sweep_phase, barriers as barriers_phase}
use Rattle.heap_model.proofs.Histories.{total-more}
use Rattle.core_machine.specs.declared.collector.stage.Stage.TheVariants as stages
use Rattle.core_rule.specs.footprint.Footprint.{Footprint, CycleStands, is_inside}
use Rattle.core_rule.specs.Stands.{Stands}
use Rattle.core_rule.proofs.footprint.CarryCycle.{cycle_stands_carried}
use Rattle.core_rule.proofs.footprint.CycleBegins.{stands_after_cycle_begin}
use Rattle.core_rule.proofs.footprint.FootprintGoes.{footprint_goes_on, stage_stands_inside_still, old_value_is_inside}
use Rattle.core_rule.proofs.footprint.Mute.{AreMute, mute_begin_no_cycle, mute_tell_no_phase}
use Rattle.core_rule.proofs.kept.WeightGrowth.{total_of_appended}
use Rattle.core_rule.proofs.looks.Stays.{all_looks_stand_after_turn}
use Rattle.core_rule.proofs.entries.TurnShapes.{TurnShape, adds_nothing, adds_one, begins_phase, ends_cycle}
use Rattle.core_rule.proofs.steps.Assemble.{Keeps}
use Rattle.core_rule.proofs.steps.collector.{turn_kind_of_each_stage}

module _ (heap : Heap) (state : State) (book : Book) (stands : Stands heap state book) where
  abbrev rule : Rule heap state book
  rule = stands.rule

  -- the state after the turn of a stage
  abbrev pub after : Stage → State
  after stage = state_after_turn heap state (turn_at heap state.collector stage)

  abbrev pub TurnKept : Stage → Type 0
  TurnKept stage = Keeps heap state (after stage) book book.begun (turn_at heap state.collector stage).adds

  -- the cycle goes on where none begins, and the last phase does once all that is kept is inside
  on_cycle : (stage : Stage) → state.collector.stage ≡ stage → (keeps : TurnKept stage) → list_any begins_cycle (turn_at heap state.collector stage).adds ≡ false
      → (phase keeps.now.history % cycle_phases ≢ resting → phase book.history % cycle_phases ≢ resting)
      → ((begun : List Id) (inside : Id → Bool) (most : ℕ) → Footprint heap state book begun inside most → phase keeps.now.history % cycle_phases ≡ clearing_phase → (f i k : ℕ) → book.owner f ≡ Kept i k → inside (id_at book.made i) ≡ true)
      → CycleStands heap (after stage) keeps.now
  on_cycle stage is keeps none runs last = cycle_stands_carried heap state (after stage) book keeps.now (turn_at heap state.collector stage).adds keeps.grown none runs stands.cycle (λ begun reach foot.
      let most : ℕ = bound heap begun book.history in
      footprint_goes_on heap state (after stage) book keeps.now (turn_at heap state.collector stage).adds rule keeps.rule keeps.grown keeps.goes begun reach most foot
      (last begun (is_inside (graph_of heap (up_to_cycle book.history)) begun) most foot)
      (old_value_is_inside heap state (after stage) book keeps.now (turn_at heap state.collector stage).adds rule keeps.rule keeps.grown keeps.goes begun reach most foot)
      (stage_stands_inside_still heap state (after stage) book keeps.now (turn_at heap state.collector stage).adds rule keeps.rule keeps.grown keeps.goes begun reach most
      ((turn_at heap state.collector stage).told (found_by heap state (turn_at heap state.collector stage).step)).stage ((turn_kind_of_each_stage stage).inside heap state book rule record { begun = begun; reach = reach; most = most; foot = foot } is)))

  -- by a turn that begins no phase
  mute_stands : (stage : Stage) → state.collector.stage ≡ stage → AreMute (turn_at heap state.collector stage).adds → (keeps : TurnKept stage) → Stands heap (after stage) keeps.now
  mute_stands stage is mute keeps =
      let same : phase keeps.now.history ≡ phase book.history
      = omega (arith, ap phase keeps.grown, total_of_appended (λ e. e.phases) book.history (turn_at heap state.collector stage).adds, mute_tell_no_phase (turn_at heap state.collector stage).adds mute) in
      record {
        rule = keeps.rule;
        cycle = on_cycle stage is keeps (mute_begin_no_cycle (turn_at heap state.collector stage).adds mute) (λ running rests. running (ap (λ p. p % cycle_phases) same ∙ rests))
            (λ begun inside most foot ends f i k owned. foot.kept f i k owned (inr (ap (λ p. p % cycle_phases) (sym same) ∙ ends)));
        looks = all_looks_stand_after_turn heap state book.history keeps.now.history stage stands.looks keeps.grown;
      }

  -- by one that begins the next phase
  abbrev next : ℕ
  next = state.collector.phase + 1

  next_phase : (keeps : TurnKept stages.Advancing) → phase keeps.now.history ≡ phase book.history + 1
  next_phase keeps = ap phase keeps.grown ∙ total-more (λ e. e.phases) book.history (Advance next)

  -- once the sweep is over all that is kept is marked
  swept_inside : state.collector.stage ≡ stages.Advancing → (keeps : TurnKept stages.Advancing) → (begun : List Id) (inside : Id → Bool) (most : ℕ) → Footprint heap state book begun inside most
      → phase keeps.now.history % cycle_phases ≡ clearing_phase → (f i k : ℕ) → book.owner f ≡ Kept i k → inside (id_at book.made i) ≡ true
  swept_inside is keeps begun inside most foot ends f i k owned =
      let told = rule.collector_stands.phase_told in
      let sweeps : state.collector.phase % cycle_phases ≡ sweep_phase = omega (arith, ends, next_phase keeps, told) in
      foot.kept f i k owned (inl (λ white.
      let dead = (rule.marks_stand.heap_marks.after (inr (inr sweeps))).white_dead f record { born = ap born_bit owned; unmarked = white } in
      absurd (let both : Kept i k ≡ Dead dead.0 dead.1 = sym owned ∙ dead.2 in cc)))

  advance_stands : state.collector.stage ≡ stages.Advancing → (keeps : TurnKept stages.Advancing) → Stands heap (after stages.Advancing) keeps.now
  advance_stands is keeps = elim (eqb_tells (next % cycle_phases) barriers_phase) as (λ _. Stands heap (after stages.Advancing) keeps.now) [
    | inl begins ↦ stands_after_cycle_begin heap state (after stages.Advancing) book book.begun next stands keeps begins.0 is refl refl (λ r. refl) (all_looks_stand_after_turn heap state book.history keeps.now.history stages.Advancing stands.looks keeps.grown)
    | inr other ↦ record {
      rule = keeps.rule;
      cycle = on_cycle stages.Advancing is keeps (no_begin other.0)
          (λ running rests. other.1 (let told = rule.collector_stands.phase_told in omega (arith, rests, told)))
          (swept_inside is keeps);
      looks = all_looks_stand_after_turn heap state book.history keeps.now.history stages.Advancing stands.looks keeps.grown;
    }
  ]
    where
      no_begin : (next % cycle_phases == barriers_phase) ≡ false → list_any begins_cycle (Advance next ∷ []) ≡ false
      no_begin none = rw none refl

  -- by the one that ends the cycle
  end_stands : (kept : ℕ) → state.collector.stage ≡ stages.Ending kept → (keeps : TurnKept (stages.Ending kept)) → Stands heap (after (stages.Ending kept)) keeps.now
  end_stands kept is keeps =
      let entry : Entry = Ends (state.collector.phase / 7) kept in
      let fits : HasCleared heap state.collector.phase state.collector.looked kept = rw is at rule.machine.collector_fit.at_stage in
      let told = rule.collector_stands.phase_told in
      let grown : phase keeps.now.history ≡ phase book.history + 1 = ap phase keeps.grown ∙ total-more (λ e. e.phases) book.history entry in
      record {
        rule = keeps.rule;
        cycle = λ running. absurd (running (omega (arith, grown, told, fits.for_clearing)));
        looks = all_looks_stand_after_turn heap state book.history keeps.now.history (stages.Ending kept) stands.looks keeps.grown;
      }

  by_shape : (stage : Stage) → state.collector.stage ≡ stage → TurnShape heap state.collector (found_by heap state (turn_at heap state.collector stage).step) stage → (keeps : TurnKept stage)
      → Stands heap (after stage) keeps.now
  by_shape _ is (adds_nothing stage none goes_on) keeps = mute_stands stage is (rw none tt) keeps
  by_shape _ is (adds_one stage entry kind adds stepped) keeps = mute_stands stage is (rw adds (kind.mute, tt)) keeps
  by_shape _ is begins_phase keeps = advance_stands is keeps
  by_shape _ is (ends_cycle kept) keeps = end_stands kept is keeps

  -- so by each turn
  pub stands_after_turn : (stage : Stage) → state.collector.stage ≡ stage → (keeps : TurnKept stage) → Stands heap (after stage) keeps.now
  stands_after_turn stage is keeps = by_shape stage is ((turn_kind_of_each_stage stage).shape heap state.collector (found_by heap state (turn_at heap state.collector stage).step)) keeps
