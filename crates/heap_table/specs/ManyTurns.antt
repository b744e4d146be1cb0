-- Many turns of the collector in one go: those of a phase's work are made while what is kept of the collector stays, and between them it stands in the view of its token alone.
use Rattle.std.specs.Prelude.{◌≡◌, ℕ, []}
use Rattle.atomic_table.specs.Seated.{TableId}
use Rattle.atomic_table.specs.Table.{Me}
use Rattle.heap_model.specs.declared.calls.collector_calls.Turn.{Turn}
use Rattle.heap_model.specs.declared.calls.collector_calls.Turn.TheVariants.{Stepped}
use Rattle.heap_model.specs.declared.heap.Heap.{Heap}
use Rattle.core_machine.specs.collector.Collector.{Collector, next_turn}
use Rattle.core_machine.specs.collector.FitsTurns.{CollectorFits}
use Rattle.core_machine.specs.declared.collector.stage.Stage.{Stage}
use Rattle.heap_table.specs.CollectorHeld.{CollectorHeld, IsTurned, KeepsToken}
use Rattle.heap_table.specs.Known.{CollectorKnown}
use Rattle.heap_table.specs.Told.{next_known, ToldAtTurn, TurnHasWord}
use Rattle.heap_table.specs.Views.{known_by}
use Rattle.heap_table.specs.declared.view.View.{View}

-- the collector that the view tells
abbrev pub collector_in : Me (Unit {0}) View → Collector
collector_in me = (known_by me.0).collector

-- the token is of this table, and its view tells a collector whose due turn has its word; closing has read nothing yet
pub record KeepsAhead (shared : TableId) (key : Heap) (mine : TableId) (me : Me (Unit {0}) View) (heap : Heap) : Type 0 where
  pub token : KeepsToken shared key mine me heap
  pub unread : (known_by me.0).closed ≡ []
  pub fits : CollectorFits heap (collector_in me)
  pub has_word : TurnHasWord heap (collector_in me)

-- the holder made its due turn, which found a word, and this is the turn's answer for that word
pub record MakesTurn (old new : CollectorHeld) (turn : Turn) : Type 0 where
  pub found : ℕ
  pub turned : IsTurned old new found
  pub answer : turn ≡ (next_turn old.heap old.known.collector).answer found
  pub told : ToldAtTurn old.heap old.known.collector found

-- the due turn was made on the table, for what is known: it is a step, and tells no entry
pub record Works (heap : Heap) (old new : CollectorKnown) (turn : Turn) : Type 0 where
  pub found : ℕ
  pub known_is : new ≡ next_known heap old found
  pub answer : turn ≡ (next_turn heap old.collector).answer found
  pub told : ToldAtTurn heap old.collector found
  pub steps : turn ≡ Stepped
  pub log_stays : new.collector.log ≡ old.collector.log

-- such a turn leads to this stage
pub record LeadsTo (heap : Heap) (old new : CollectorKnown) (next : Stage) : Type 0 where
  pub works : Works heap old new Stepped
  pub stage_is : new.collector ≡ record old.collector { stage = next }

-- the holder made such a turn: room for entries is as it was
pub record WorksOn (old new : CollectorHeld) (turn : Turn) : Type 0 where
  pub makes : MakesTurn old new turn
  pub steps : turn ≡ Stepped
  pub log_stays : new.known.collector.log ≡ old.known.collector.log
  pub spare_stays : new.spare ≡ old.spare
