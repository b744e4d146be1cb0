-- The turns of the sweep and of the clearing, in the last two phases of a cycle.
use Rattle.std.specs.Prelude.{ℕ, ◌+◌, ◌*◌, [], ◌∷◌, count_ones}
use Rattle.heap_model.specs.declared.calls.collector_calls.Turn.TheVariants.{Stepped}
use Rattle.heap_model.specs.declared.entry.Entry.TheVariants.{Frees, Returns}
use Rattle.heap_model.specs.declared.heap.Heap.{Heap}
use Rattle.heap_model.specs.Limits.{group_fragments}
use Rattle.core_machine.specs.declared.step.CopyingStep.TheVariants.{BudgetReturn}
use Rattle.core_machine.specs.declared.step.Step.TheVariants.{Copying, Turning}
use Rattle.core_machine.specs.declared.step.TurningStep.TheVariants as turning
use Rattle.core_machine.specs.collector.Sweeping.{dead_bits_of, next_position_of, taken_count_of, after_swept, after_examined, after_freed, after_cleared}
use Rattle.core_machine.specs.collector.TurnMove.{Collector, TurnMove, work_turn}
use Rattle.core_machine.specs.table.Decode.{spine_words_in}

-- a group's control word is loaded for what is dead in it
abbrev pub sweep_turn : Heap → Collector → ℕ → TurnMove
sweep_turn heap collector group =
    work_turn (Turning (turning.GroupLoad group))
    (λ word. record collector { stage = after_examined heap group (dead_bits_of word) 0 (next_position_of (dead_bits_of word) 0) })

-- a dead fragment's first word is loaded: the spine words that it tells are counted, and the next one is looked at
abbrev pub examine_turn : Heap → Collector → ℕ → ℕ → ℕ → ℕ → TurnMove
examine_turn heap collector group dead position words =
    work_turn (Turning (turning.MetaLoad (group_fragments * group + position)))
    (λ word. record collector { stage = after_examined heap group dead (words + spine_words_in word) (next_position_of dead (position + 1)) })

-- the group's dead fragments are freed
abbrev pub free_turn : Heap → Collector → ℕ → ℕ → ℕ → TurnMove
free_turn heap collector group dead words = record {
  step = Turning (turning.Free group dead);
  told = λ word. record collector { stage = after_freed heap group words };
  adds = Frees (count_ones dead) ∷ [];
  answer = λ word. Stepped;
  may = Unit {0};
}

-- the spine words of the group's dead arrays are granted no longer
abbrev pub return_turn : Heap → Collector → ℕ → ℕ → TurnMove
return_turn heap collector group words = record {
  step = Copying (BudgetReturn words);
  told = λ word. record collector { stage = after_swept heap group };
  adds = Returns words ∷ [];
  answer = λ word. Stepped;
  may = Unit {0};
}

-- a group's marks are cleared, and its taken fragments are counted in the word as it was found
abbrev pub clear_turn : Heap → Collector → ℕ → ℕ → TurnMove
clear_turn heap collector group kept =
    work_turn (Turning (turning.Clear group)) (λ word. record collector { stage = after_cleared heap group (kept + taken_count_of word) })
