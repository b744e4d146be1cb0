-- The turns by which spines are copied into the other half.
use Rattle.std.specs.Prelude.{ℕ, ◌+◌, ◌*◌, List, [], ◌∷◌}
use Rattle.heap_words.specs.Spot.{spot_in, spot_word}
use Rattle.heap_model.specs.declared.calls.collector_calls.Turn.TheVariants.{Stepped}
use Rattle.heap_model.specs.declared.entry.Entry.{Entry}
use Rattle.heap_model.specs.declared.entry.Entry.TheVariants.{Swings}
use Rattle.heap_model.specs.declared.heap.Heap.{Heap}
use Rattle.heap_model.specs.Limits.{group_fragments}
use Rattle.core_machine.specs.declared.collector.stage.ArrayAt.{ArrayAt}
use Rattle.core_machine.specs.declared.collector.stage.Copying.{Copying}
use Rattle.core_machine.specs.declared.collector.stage.Copying.TheVariants as copying
use Rattle.core_machine.specs.declared.collector.stage.Stage.{Stage}
use Rattle.core_machine.specs.declared.collector.stage.Stage.TheVariants as stages
use Rattle.core_machine.specs.declared.collector.stage.Visit.{Visit}
use Rattle.core_machine.specs.declared.step.AccessStep.TheVariants.{NameLoad}
use Rattle.core_machine.specs.declared.step.CopyingStep.TheVariants.{FlipStore, CopyClaim, CopyLoad, CopyStore, SwingStore}
use Rattle.core_machine.specs.declared.step.SpineStep.TheVariants.{AddressLoad}
use Rattle.core_machine.specs.declared.step.Step.{Step}
use Rattle.core_machine.specs.declared.step.Step.TheVariants as steps
use Rattle.core_machine.specs.declared.step.TurningStep.TheVariants as turning
use Rattle.core_machine.specs.collector.Copying.{next_half, after_visit, visit_on, after_inspected, after_located, after_claimed, after_copied}
use Rattle.core_machine.specs.collector.TurnMove.{Collector, TurnMove, work_turn}
use Rattle.heap_words.specs.Loaded.{array_length_of}
use Rattle.core_machine.specs.table.Decode.{id_of}

-- the flip: the next spine begins at the first word of the other half
abbrev pub flip_turn : Collector → TurnMove
flip_turn collector = work_turn (steps.Copying (FlipStore (next_half collector.phase))) (λ word. record collector { stage = stages.Advancing })

-- the fragment at which a visit stands
abbrev pub visited : Visit → ℕ
visited visit = group_fragments * visit.group + visit.position

-- the array's first fragment
abbrev pub sentinel_at : ArrayAt → ℕ
sentinel_at array = visited array.visit

-- the step at each stage of copying
abbrev pub copying_step : Copying → Step
copying_step (copying.Visiting group) = steps.Turning (turning.GroupLoad group)
copying_step (copying.Inspecting visit) = steps.Turning (turning.MetaLoad (visited visit))
copying_step (copying.Naming visit words) = steps.Access (NameLoad (visited visit))
copying_step (copying.Locating array) = steps.Spine (AddressLoad (sentinel_at array))
copying_step (copying.Claiming array from) = steps.Copying (CopyClaim array.words)
copying_step (copying.Loading copy) = steps.Copying (CopyLoad copy.from.half (copy.from.offset + copy.index))
copying_step (copying.Storing copy word) = steps.Copying (CopyStore copy.to.half (copy.to.offset + copy.index) word)
copying_step (copying.Swinging copy) = steps.Copying (SwingStore (sentinel_at copy.array) (spot_word copy.to))

-- where copying goes on, in a phase, once this word was found
abbrev pub after_copying : Heap → ℕ → Copying → ℕ → Stage
after_copying heap phase (copying.Visiting group) found = after_visit heap group found
after_copying heap phase (copying.Inspecting visit) found = after_inspected heap visit (array_length_of found)
after_copying heap phase (copying.Naming visit words) found = stages.Copying (copying.Locating (record { visit = visit; words = words; id = id_of found }))
after_copying heap phase (copying.Locating array) found = after_located heap phase array (spot_in found)
after_copying heap phase (copying.Claiming array from) found = after_claimed array from found
after_copying heap phase (copying.Loading copy) found = stages.Copying (copying.Storing copy found)
after_copying heap phase (copying.Storing copy word) found = after_copied copy
after_copying heap phase (copying.Swinging copy) found = visit_on heap copy.array.visit

-- what a turn of copying tells: that an array swings to its copy
abbrev pub copying_adds : Copying → List Entry
copying_adds (copying.Swinging copy) = Swings copy.array.id ∷ []
copying_adds _ = []

-- the turn at each stage of copying
abbrev pub copying_turn : Heap → Collector → Copying → TurnMove
copying_turn heap collector stage = record {
  step = copying_step stage;
  told = λ found. record collector { stage = after_copying heap collector.phase stage found };
  adds = copying_adds stage;
  answer = λ found. Stepped;
  may = Unit {0};
}
