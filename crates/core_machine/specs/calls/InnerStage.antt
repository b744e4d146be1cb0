-- Where an inner call of a collect stands, by what the seat has of its own and by what its own list got since the begin.
use Rattle.std.specs.Prelude.{◌≡◌, ◌≢◌, ℕ, ◌⊎◌, ◌++◌, List, [], ◌∷◌}
use Rattle.heap_model.specs.declared.calls.collect.CollectReply.{CollectReply}
use Rattle.heap_model.specs.declared.calls.collect.Inner.{Inner}
use Rattle.heap_model.specs.declared.calls.collect.Inner.TheVariants.{Look, Answer, Behind, Note}
use Rattle.heap_model.specs.declared.command.Command.TheVariants.{Collect}
use Rattle.heap_model.specs.declared.entry.Entry.{Entry}
use Rattle.heap_model.specs.declared.entry.Entry.TheVariants.{Said, Answers}
use Rattle.core_machine.specs.calls.Kept.{Kept, kept_of, IsUntold}
use Rattle.core_machine.specs.calls.OwnStage.{HasAsked}
use Rattle.core_machine.specs.declared.point.Collecting.{Collecting}
use Rattle.core_machine.specs.declared.point.Collecting.TheVariants.{Looking, Asking, Comparing, Noting}
use Rattle.core_machine.specs.declared.point.Point.{Point}
use Rattle.core_machine.specs.declared.point.Point.TheVariants as points
use Rattle.core_machine.specs.declared.point.Polling.{Polling}
use Rattle.core_machine.specs.declared.point.Polling.TheVariants as polling
use Rattle.core_machine.specs.declared.step.Step.{Step}
use Rattle.core_machine.specs.declared.step.Step.TheVariants as steps
use Rattle.core_machine.specs.declared.step.TurningStep.TheVariants.{LookLoad}
use Rattle.core_machine.specs.seat.Looks.{forgotten, looked, seen_phase, compared, MayNote, noted_reply}
use Rattle.core_machine.specs.seat.Seat.{Seat}

-- the phase was loaded, and looked at
pub record HasLooked (tells : Step → ℕ → Type 0) (before kept : Kept) (told : List Entry) : Type 0 where
  pub phase : ℕ
  pub found : tells steps.PollLoad phase
  pub kept_is : kept ≡ record before { looks = looked phase before.looks }
  pub none_told : told ≡ []

-- the phase was loaded, and the seat has answered it: this was told where it hadn't answered it before
pub record HasAnswered (tells : Step → ℕ → Type 0) (number : ℕ) (before kept : Kept) (told : List Entry) : Type 0 where
  pub phase : ℕ
  pub found : tells steps.PollLoad phase
  pub kept_is : kept ≡ record before { answered = phase; looks = seen_phase phase before.looks }
  pub told_is : ((phase ≡ before.answered) × (told ≡ [])) ⊎ ((phase ≢ before.answered) × (told ≡ Answers number phase ∷ []))

-- the phase was loaded, and then the other seat's word, and the two were compared
pub record HasCompared (tells : Step → ℕ → Type 0) (other : ℕ) (before kept : Kept) (told : List Entry) : Type 0 where
  pub phase : ℕ
  pub found : tells steps.PollLoad phase
  pub word : ℕ
  pub found_then : tells (steps.Turning (LookLoad other)) word
  pub kept_is : kept ≡ record before { looks = compared other phase word (seen_phase phase before.looks) }
  pub none_told : told ≡ []

-- the reply was told that what was found before allows
pub record HasNoted (tells : Step → ℕ → Type 0) (number : ℕ) (reply : CollectReply) (before kept : Kept) (told : List Entry) : Type 0 where
  pub allowed : MayNote before.looks reply
  pub phase : ℕ
  pub found : tells steps.PollLoad phase
  pub kept_is : kept ≡ record before { looks = forgotten (seen_phase phase before.looks) }
  pub told_is : told ≡ Said number Collect (noted_reply reply) ∷ []

-- the inner call is over
abbrev pub IsInnerOver : (Step → ℕ → Type 0) → ℕ → Kept → Kept → List Entry → Inner → Type 0
IsInnerOver tells number before kept told Look = HasLooked tells before kept told
IsInnerOver tells number before kept told Answer = HasAnswered tells number before kept told
IsInnerOver tells number before kept told (Behind other) = HasCompared tells other before kept told
IsInnerOver tells number before kept told (Note reply) = HasNoted tells number reply before kept told

-- at each point of an inner call but the answer
abbrev pub InnerCollecting : (Step → ℕ → Type 0) → Inner → Kept → Seat → List Entry → Collecting → Type 0
InnerCollecting tells inner before seat told Looking = (inner ≡ Look) × IsUntold before (kept_of seat) told
InnerCollecting tells inner before seat told (Asking other) = (inner ≡ Behind other) × IsUntold before (kept_of seat) told
InnerCollecting tells inner before seat told (Comparing other phase) = (inner ≡ Behind other) × HasAsked tells before (kept_of seat) phase told
InnerCollecting tells inner before seat told (Noting reply) = (inner ≡ Note reply) × IsUntold before (kept_of seat) told

-- at each point of the answer
abbrev pub InnerAnswering : (Step → ℕ → Type 0) → Kept → Seat → List Entry → Polling → Type 0
InnerAnswering tells before seat told polling.Asking = IsUntold before (kept_of seat) told
InnerAnswering tells before seat told polling.Shading = HasAsked tells before (kept_of seat) seat.asked told
InnerAnswering tells before seat told polling.Answering = HasAsked tells before (kept_of seat) seat.asked told

-- at each point
abbrev pub InnerStageAt : (Step → ℕ → Type 0) → ℕ → Inner → Kept → Seat → List Entry → Point → Type 0
InnerStageAt tells number inner before seat told points.Idle = IsInnerOver tells number before (kept_of seat) told inner
InnerStageAt tells number inner before seat told (points.Collecting point) = InnerCollecting tells inner before seat told point
InnerStageAt tells number inner before seat told (points.Polling point) = (inner ≡ Answer) × InnerAnswering tells before seat told point
InnerStageAt tells number inner before seat told (points.Making point) = ⊥
InnerStageAt tells number inner before seat told points.Local = ⊥
InnerStageAt tells number inner before seat told (points.Access point) = ⊥
InnerStageAt tells number inner before seat told (points.Leaving point) = ⊥

-- an inner call stands so that was begun by the old seat, where so much is told of each word that its steps have found
pub record OwnInnerStage (tells : Step → ℕ → Type 0) (number : ℕ) (inner : Inner) (old seat : Seat) (told : List Entry) : Type 0 where
  pub same : seat.command ≡ Collect
  pub mine : seat.mine ≡ old.mine ++ told
  pub stage : InnerStageAt tells number inner (kept_of old) seat told seat.point
