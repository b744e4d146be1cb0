-- The collector, and how it goes on from turn to turn.
use Rattle.std.specs.Prelude.{ℕ, ◌≢◌, ◌+◌, ◌-◌, ◌/◌, ◌%◌, ◌<◌, ◌^◌, ◌==◌, nat_lt, Bool, true, false, if◌then◌else◌, [], ◌∷◌}
use Rattle.heap_words.specs.declared.phase.TheConstants.{LEFT}
use Rattle.heap_model.specs.declared.heap.Heap.{Heap}
use Rattle.heap_model.specs.declared.calls.collector_calls.Turn.{Turn}
use Rattle.heap_model.specs.declared.calls.collector_calls.Turn.TheVariants.{Stepped, Ended}
use Rattle.heap_model.specs.declared.entry.Entry.TheVariants.{Advance, Ends}
use Rattle.heap_model.specs.Behind.{as_turn, behind_of}
use Rattle.heap_model.specs.PhasePlan.{cycle_phases, marking, copying as copying_phase, sweep, clearing}
use Rattle.core_machine.specs.declared.collector.stage.Copying.TheVariants.{Visiting}
use Rattle.core_machine.specs.declared.collector.stage.Stage.{Stage}
use Rattle.core_machine.specs.declared.collector.stage.Stage.TheVariants as stages
use Rattle.core_machine.specs.declared.step.Step.TheVariants.{Turning}
use Rattle.core_machine.specs.declared.step.TurningStep.TheVariants as turning
pub use Rattle.core_machine.specs.collector.TurnMove.{Collector, TurnMove, after_advance, quiet_turn, work_turn, collector_after}
pub use Rattle.core_machine.specs.collector.Marking.{lowest_grey_of, after_last_group, after_group, after_pass, part_after, scan_step, scan_at, after_scan_load, array_at, after_first_load, spine_step, spine_scan_at, after_address, after_spread}
pub use Rattle.core_machine.specs.collector.MarkingTurns.{pass_turn, scan_turn, shade_turn, address_turn, index_turn, spread_turn, blacken_turn}
pub use Rattle.core_machine.specs.collector.Copying.{marked_bits_of, left_half, next_half, after_visited, after_seen, after_visit, visit_on, after_inspected, after_located, copy_at, after_claimed, after_copied}
pub use Rattle.core_machine.specs.collector.CopyingTurns.{flip_turn, visited, sentinel_at, copying_step, after_copying, copying_adds, copying_turn}
pub use Rattle.core_machine.specs.collector.Sweeping.{dead_bits_of, next_position_of, taken_count_of, after_swept, after_examined, after_freed, after_cleared}
pub use Rattle.core_machine.specs.collector.SweepingTurns.{sweep_turn, examine_turn, free_turn, return_turn, clear_turn}

-- the collector at the opening
abbrev pub opening_collector : Collector
opening_collector = record { phase = 0; stage = stages.Looking; looked = 0; log = [] }

-- the seat with this word has answered the phase, or has left
abbrev pub has_answered_of : ℕ → ℕ → Bool
has_answered_of phase word = if word == phase then true else word == LEFT

-- one of five by what the phase is for: marking, copying, the sweep, the clearing, or nothing
abbrev pub by_work : {A : Type 0} → ℕ → A → A → A → A → A → A
by_work phase marks copies sweeps clears none =
    if phase % cycle_phases == marking then marks
    else if phase % cycle_phases == copying_phase then copies
    else if phase % cycle_phases == sweep then sweeps
    else if phase % cycle_phases == clearing then clears
    else none

-- the phase is for nothing
pub record IsForNothing (phase : ℕ) : Type 0 where
  pub unmarked : phase % cycle_phases ≢ marking
  pub uncopied : phase % cycle_phases ≢ copying_phase
  pub unswept : phase % cycle_phases ≢ sweep
  pub uncleared : phase % cycle_phases ≢ clearing

-- where every seat has answered: what the phase is for begins, or the next phase where it is for nothing
abbrev pub first_work : ℕ → Stage
first_work phase = by_work phase (stages.Passing 0 false) (stages.Copying (Visiting 0)) (stages.Sweeping 0) (stages.Clearing 0 0) stages.Advancing

-- the collector once every seat was seen to have answered
abbrev pub after_last_look : Heap → Collector → Collector
after_last_look heap collector = record collector { looked = heap.seats; stage = first_work collector.phase }

-- the collector once one more seat was seen to have answered
abbrev pub after_counted_look : Heap → Collector → Collector
after_counted_look heap collector =
    if nat_lt (collector.looked + 1) heap.seats then record collector { looked = collector.looked + 1 } else after_last_look heap collector

-- a seat's word was found: a seat that hasn't answered is looked at again
abbrev pub after_look : Heap → Collector → ℕ → Collector
after_look heap collector found = if has_answered_of collector.phase found then after_counted_look heap collector else collector

-- what a look answers: it waits where the seat hasn't answered
abbrev pub look_answer : Collector → ℕ → Turn
look_answer collector found =
    if has_answered_of collector.phase found then Stepped else as_turn (behind_of collector.looked found collector.phase)

-- the next seat's word is loaded
abbrev pub look_turn : Heap → Collector → TurnMove
look_turn heap collector =
    quiet_turn (Turning (turning.LookLoad collector.looked)) (after_look heap collector) (look_answer collector)

-- the next phase begins, as long as a word has numbers left for phases
abbrev pub advance_turn : Collector → TurnMove
advance_turn collector = record {
  step = Turning (turning.AdvanceStore (collector.phase + 1));
  told = λ found. after_advance collector;
  adds = Advance (collector.phase + 1) ∷ [];
  answer = λ found. Stepped;
  may = collector.phase < 2 ^ 64 - 2;
}

-- the cycle ends and the next phase begins: so many fragments were taken as the marks were cleared
abbrev pub end_turn : Collector → ℕ → TurnMove
end_turn collector kept = record {
  step = Turning (turning.EndAdvance (collector.phase + 1) kept);
  told = λ found. after_advance collector;
  adds = Ends (collector.phase / cycle_phases) kept ∷ [];
  answer = λ found. Ended (collector.phase / cycle_phases) kept;
  may = collector.phase < 2 ^ 64 - 2;
}

-- the turn at each stage
abbrev pub turn_at : Heap → Collector → Stage → TurnMove
turn_at heap collector stages.Looking = look_turn heap collector
turn_at heap collector (stages.Passing group found) = pass_turn heap collector group found
turn_at heap collector (stages.Scanning scan) = scan_turn collector scan
turn_at heap collector (stages.Shading scan target next) = shade_turn collector scan target next
turn_at heap collector (stages.Addressing scan words) = address_turn collector scan words
turn_at heap collector (stages.Indexing scan) = index_turn collector scan
turn_at heap collector (stages.Spreading scan target) = spread_turn collector scan target
turn_at heap collector (stages.Blackening scan) = blacken_turn collector scan
turn_at heap collector stages.Flipping = flip_turn collector
turn_at heap collector (stages.Copying stage) = copying_turn heap collector stage
turn_at heap collector (stages.Sweeping group) = sweep_turn heap collector group
turn_at heap collector (stages.Examining group dead position words) = examine_turn heap collector group dead position words
turn_at heap collector (stages.Freeing group dead words) = free_turn heap collector group dead words
turn_at heap collector (stages.Returning group words) = return_turn heap collector group words
turn_at heap collector (stages.Clearing group kept) = clear_turn heap collector group kept
turn_at heap collector (stages.Ending kept) = end_turn collector kept
turn_at heap collector stages.Advancing = advance_turn collector

-- the collector's next turn
abbrev pub next_turn : Heap → Collector → TurnMove
next_turn heap collector = turn_at heap collector collector.stage
