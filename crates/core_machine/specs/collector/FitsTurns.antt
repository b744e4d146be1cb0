-- What is true of the collector's own data.
use Rattle.std.specs.Prelude.{ℕ, ◌≡◌, ◌≢◌, ◌+◌, ◌-◌, ◌*◌, ◌%◌, ◌<◌, ◌≤◌, ◌^◌, length}
use Rattle.std.specs.Int.{bit_at}
use Rattle.heap_model.specs.declared.heap.Heap.{Heap}
use Rattle.heap_model.specs.Limits.{group_fragments}
use Rattle.heap_model.specs.PhasePlan.{cycle_phases, marking, sweep, clearing}
use Rattle.core_machine.specs.collector.Collector.{Collector}
pub use Rattle.core_machine.specs.collector.FitsCopying.{spine_most, IsCopying, FitsVisit, FitsArrayAt, FitsCopy, FitsStoring, FitsCopying}
use Rattle.core_machine.specs.declared.collector.stage.Scan.{Scan}
use Rattle.core_machine.specs.declared.collector.stage.SpineScan.{SpineScan}
use Rattle.core_machine.specs.declared.collector.stage.Stage.{Stage}
use Rattle.core_machine.specs.declared.collector.stage.Stage.TheVariants as stages
use Rattle.core_machine.specs.table.Layout.{FitsSpot}

-- every seat has answered, and the phase isn't the last one of a cycle
pub record HasLooked (seats phase looked : ℕ) : Type 0 where
  pub all : looked ≡ seats
  pub goes_on : phase % cycle_phases ≢ clearing

-- every seat has answered, and marking is what this phase is for
pub record IsMarking (seats phase looked : ℕ) : Type 0 where
  pub all : looked ≡ seats
  pub for_marking : phase % cycle_phases ≡ marking

-- a pass stands before a group of the heap
pub record IsPassing (heap : Heap) (phase looked group : ℕ) : Type 0 where
  pub marks : IsMarking heap.seats phase looked
  pub group_within : group < heap.groups

-- a scan stands before a word of a fragment of the heap, and has made at most two steps for each of those before it
pub record IsScanning (heap : Heap) (phase looked : ℕ) (scan : Scan) : Type 0 where
  pub marks : IsMarking heap.seats phase looked
  pub fragment_within : scan.fragment < group_fragments * heap.groups
  pub part_within : scan.part < 4
  pub few_steps : scan.steps ≤ 2 * scan.part

-- a scan has loaded a word that leads to a fragment of the heap, and goes on behind it
pub record IsShading (heap : Heap) (phase looked : ℕ) (scan : Scan) (target next : ℕ) : Type 0 where
  pub marks : IsMarking heap.seats phase looked
  pub fragment_within : scan.fragment < group_fragments * heap.groups
  pub part_within : scan.part < 4
  pub target_within : target < group_fragments * heap.groups
  pub part_before : scan.part < next
  pub next_within : next ≤ 4
  pub few_steps : scan.steps ≤ 2 * scan.part + 1

-- a scan has loaded the meta of an array with so many spine words, by its first step
pub record IsAddressing (heap : Heap) (phase looked : ℕ) (scan : Scan) (words : ℕ) : Type 0 where
  pub marks : IsMarking heap.seats phase looked
  pub fragment_within : scan.fragment < group_fragments * heap.groups
  pub words_few : words ≤ spine_most
  pub first_step : scan.steps ≡ 1

-- a scan is at a word of an array's spine
pub record IsOnSpine (heap : Heap) (phase looked : ℕ) (s : SpineScan) : Type 0 where
  pub marks : IsMarking heap.seats phase looked
  pub fragment_within : s.scan.fragment < group_fragments * heap.groups
  pub words_few : s.words ≤ spine_most
  pub index_within : s.index < s.words
  pub spine_within : FitsSpot s.spine

-- it stands before the word; two steps led to the first one, and two to each further one
pub record IsIndexing (heap : Heap) (phase looked : ℕ) (s : SpineScan) : Type 0 where
  pub on : IsOnSpine heap phase looked s
  pub steps_made : s.scan.steps ≡ 2 + 2 * s.index

-- it has loaded the word, which names a fragment of the heap
pub record IsSpreading (heap : Heap) (phase looked : ℕ) (s : SpineScan) (target : ℕ) : Type 0 where
  pub on : IsOnSpine heap phase looked s
  pub target_within : target < group_fragments * heap.groups
  pub steps_made : s.scan.steps ≡ 3 + 2 * s.index

-- a scan of a fragment of the heap has seen to its four words, or to its spine
pub record IsBlackening (heap : Heap) (phase looked : ℕ) (scan : Scan) : Type 0 where
  pub marks : IsMarking heap.seats phase looked
  pub fragment_within : scan.fragment < group_fragments * heap.groups
  pub few_steps : scan.steps ≤ 2 + 2 * spine_most

-- the sweep stands before a group of the heap
pub record IsSweeping (heap : Heap) (phase looked group : ℕ) : Type 0 where
  pub all : looked ≡ heap.seats
  pub for_sweep : phase % cycle_phases ≡ sweep
  pub group_within : group < heap.groups

-- the sweep stands before a dead fragment of a group
pub record IsExamining (heap : Heap) (phase looked group dead position words : ℕ) : Type 0 where
  pub sweeps : IsSweeping heap phase looked group
  pub dead_within : dead < 2 ^ 16
  pub position_within : position < 16
  pub is_dead : bit_at dead position ≡ 1
  pub words_few : words ≤ spine_most * position

-- the sweep has looked at a group's dead fragments, of which there are some
pub record IsFreeing (heap : Heap) (phase looked group dead words : ℕ) : Type 0 where
  pub sweeps : IsSweeping heap phase looked group
  pub dead_within : dead < 2 ^ 16
  pub some_dead : dead ≢ 0
  pub words_few : words ≤ spine_most * group_fragments

-- the sweep has freed a group's dead fragments, whose arrays had some spine words
pub record IsReturning (heap : Heap) (phase looked group words : ℕ) : Type 0 where
  pub sweeps : IsSweeping heap phase looked group
  pub some_words : words ≢ 0
  pub words_few : words ≤ spine_most * group_fragments

-- the clearing stands before a group of the heap, and has counted no more fragments than those before it have
pub record IsClearing (heap : Heap) (phase looked group kept : ℕ) : Type 0 where
  pub all : looked ≡ heap.seats
  pub for_clearing : phase % cycle_phases ≡ clearing
  pub group_within : group < heap.groups
  pub kept_within : kept ≤ group_fragments * group

-- every group is cleared, and no more fragments than the heap has were counted
pub record HasCleared (heap : Heap) (phase looked kept : ℕ) : Type 0 where
  pub all : looked ≡ heap.seats
  pub for_clearing : phase % cycle_phases ≡ clearing
  pub kept_within : kept ≤ group_fragments * heap.groups

-- what is true at each stage: while it looks it stands before a seat of the heap, and at every other it has looked at all
abbrev pub FitsStage : Heap → ℕ → ℕ → Stage → Type 0
FitsStage heap phase looked stages.Looking = looked < heap.seats
FitsStage heap phase looked (stages.Passing group found) = IsPassing heap phase looked group
FitsStage heap phase looked (stages.Scanning scan) = IsScanning heap phase looked scan
FitsStage heap phase looked (stages.Shading scan target next) = IsShading heap phase looked scan target next
FitsStage heap phase looked (stages.Addressing scan words) = IsAddressing heap phase looked scan words
FitsStage heap phase looked (stages.Indexing s) = IsIndexing heap phase looked s
FitsStage heap phase looked (stages.Spreading s target) = IsSpreading heap phase looked s target
FitsStage heap phase looked (stages.Blackening scan) = IsBlackening heap phase looked scan
FitsStage heap phase looked stages.Flipping = IsMarking heap.seats phase looked
FitsStage heap phase looked (stages.Copying stage) = IsCopying heap.seats phase looked × FitsCopying heap stage
FitsStage heap phase looked (stages.Sweeping group) = IsSweeping heap phase looked group
FitsStage heap phase looked (stages.Examining group dead position words) = IsExamining heap phase looked group dead position words
FitsStage heap phase looked (stages.Freeing group dead words) = IsFreeing heap phase looked group dead words
FitsStage heap phase looked (stages.Returning group words) = IsReturning heap phase looked group words
FitsStage heap phase looked (stages.Clearing group kept) = IsClearing heap phase looked group kept
FitsStage heap phase looked (stages.Ending kept) = HasCleared heap phase looked kept
FitsStage heap phase looked stages.Advancing = HasLooked heap.seats phase looked

-- the collector's own data fit together
pub record CollectorFits (heap : Heap) (collector : Collector) : Type 0 where
  pub phase_within : collector.phase < 2 ^ 64 - 1
  pub phase_told : collector.phase ≤ length collector.log
  pub at_stage : FitsStage heap collector.phase collector.looked collector.stage
