-- What one turn of the collector adds and answers: nothing, the begin of a phase, one entry within a phase, or the end of the cycle.
use Rattle.std.specs.List.{AllByRecursion}
use Rattle.std.proofs.Common.{◌≡◌, ℕ, ◌+◌, ◌%◌, ◌/◌, true, List, [], ◌∷◌, refl, ap, ◌∙◌}
use Rattle.core_rule.proofs.Terms.{cycle_phases, Entry, Advance, Frees, Returns, Swings, Ends, Heap, Id, phase, Stage, Collector, turn_at}
use Rattle.heap_model.specs.declared.calls.collector_calls.Turn.TheVariants as answers
use Rattle.heap_model.specs.account.Noting.{is_collectors}
use Rattle.heap_model.specs.account.Sweep.{Sweeps}
use Rattle.heap_model.specs.calls.CollectorCalls.{StepsTo}
use Rattle.core_machine.specs.declared.collector.stage.Stage.TheVariants as stages
use Rattle.core_rule.proofs.footprint.Mute.{IsMute}
use Rattle.core_rule.proofs.runs.Plays.{IsPlain, freeing, returning, swinging, advancing, ending, MayPlay, keeps_space_of_plain}

-- the entry is the collector's and begins no phase, and by the rules a step that adds it stays in its phase
pub record StepsInPhase (heap : Heap) (entry : Entry) : Type 0 where
  pub mute : IsMute entry
  pub its : is_collectors entry ≡ true
  pub plain : IsPlain entry
  pub steps : (before : List Entry) (old later : ℕ) → old ≡ phase before → later ≡ old → Sweeps heap before entry → StepsTo old entry later

-- so it is with what is freed or returned, and with an array that swings
pub frees_steps_in_phase : (heap : Heap) (count : ℕ) → StepsInPhase heap (Frees count)
frees_steps_in_phase heap count =
    record { mute = record { no_begin = refl; no_phase = refl }; its = refl; plain = freeing count; steps = λ before old later here same sweeps. (ap (λ p. p % cycle_phases) here ∙ sweeps.0, sweeps.1, same) }

pub returns_steps_in_phase : (heap : Heap) (count : ℕ) → StepsInPhase heap (Returns count)
returns_steps_in_phase heap count =
    record { mute = record { no_begin = refl; no_phase = refl }; its = refl; plain = returning count; steps = λ before old later here same sweeps. (ap (λ p. p % cycle_phases) here ∙ sweeps.0, sweeps.1, same) }

pub swings_steps_in_phase : (heap : Heap) (id : Id) → StepsInPhase heap (Swings id)
swings_steps_in_phase heap id =
    record { mute = record { no_begin = refl; no_phase = refl }; its = refl; plain = swinging id; steps = λ before old later here same sweeps. (ap (λ p. p % cycle_phases) here ∙ sweeps.0, same) }

-- a turn adds nothing and ends no cycle, or adds an entry within a phase and is a step; or it begins a phase, or ends a cycle
pub data TurnShape (heap : Heap) (collector : Collector) (found : ℕ) : Stage → Type 0 where
  adds_nothing : (stage : Stage) → (turn_at heap collector stage).adds ≡ [] → ((cycle kept : ℕ) → (turn_at heap collector stage).answer found ≡ answers.Ended cycle kept → ⊥) → TurnShape heap collector found stage
  adds_one : (stage : Stage) (entry : Entry) → StepsInPhase heap entry → (turn_at heap collector stage).adds ≡ entry ∷ [] → (turn_at heap collector stage).answer found ≡ answers.Stepped → TurnShape heap collector found stage
  begins_phase : TurnShape heap collector found stages.Advancing
  ends_cycle : (kept : ℕ) → TurnShape heap collector found (stages.Ending kept)

-- so it is with a stage whatever the collector has found
abbrev pub HasShape : Stage → Type 0
HasShape stage = (heap : Heap) (collector : Collector) (found : ℕ) → TurnShape heap collector found stage

-- a step that adds nothing
pub shape_of_quiet_step : (heap : Heap) (collector : Collector) (found : ℕ) (stage : Stage) → (turn_at heap collector stage).adds ≡ [] → (turn_at heap collector stage).answer found ≡ answers.Stepped
    → TurnShape heap collector found stage
shape_of_quiet_step heap collector found stage none steps = adds_nothing stage none (λ cycle kept ended. absurd (let both = steps in cc (both, ended)))

-- what a turn adds is the collector's
pub shape_adds_collector_entries : (heap : Heap) (collector : Collector) (found : ℕ) (stage : Stage) → TurnShape heap collector found stage
    → AllByRecursion (λ entry. is_collectors entry ≡ true) (turn_at heap collector stage).adds
shape_adds_collector_entries heap collector found _ (adds_nothing stage none goes_on) = rw none tt
shape_adds_collector_entries heap collector found _ (adds_one stage entry kind adds stepped) = rw adds (kind.its, tt)
shape_adds_collector_entries heap collector found _ begins_phase = (refl, tt)
shape_adds_collector_entries heap collector found _ (ends_cycle kept) = (refl, tt)

-- and may stand in a play
pub shape_may_play : (heap : Heap) (before : List Entry) (collector : Collector) (found : ℕ) (stage : Stage) → TurnShape heap collector found stage → MayPlay heap before (turn_at heap collector stage).adds
shape_may_play heap before collector found _ (adds_nothing stage none goes_on) = rw none tt
shape_may_play heap before collector found _ (adds_one stage entry kind adds stepped) = rw adds (keeps_space_of_plain heap before entry kind.plain, tt)
shape_may_play heap before collector found _ begins_phase = (keeps_space_of_plain heap before (Advance (collector.phase + 1)) (advancing (collector.phase + 1)), tt)
shape_may_play heap before collector found _ (ends_cycle kept) = (keeps_space_of_plain heap before (Ends (collector.phase / 7) kept) (ending (collector.phase / 7) kept), tt)
