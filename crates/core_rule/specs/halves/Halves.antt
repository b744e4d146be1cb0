-- In which half of the spine space each spine stands: from a cycle's flip on they go over to the other one.
use Rattle.std.specs.Prelude.{◌≡◌, ◌≢◌, ℕ, ◌+◌, ◌/◌, ◌%◌, ◌<◌, ◌≤◌, ◌==◌, ◌⊎◌, Bool, true, false, nat_lt, if◌then◌else◌, length}
use Rattle.std.specs.Int.{bit_at}
use Rattle.heap_words.specs.declared.spot.Spot.{Spot}
use Rattle.heap_model.specs.declared.heap.Heap.{Heap}
use Rattle.heap_model.specs.Limits.{group_fragments}
use Rattle.heap_model.specs.PhasePlan.{cycle_phases, marking, copying as copying_phase, sweep}
use Rattle.heap_model.specs.account.Cycles.{graph_of}
use Rattle.heap_model.specs.account.Sweep.{HasSwung}
use Rattle.core_machine.specs.declared.collector.stage.Copying.{Copying}
use Rattle.core_machine.specs.declared.collector.stage.Copying.TheVariants as copying
use Rattle.core_machine.specs.declared.collector.stage.Stage.{Stage}
use Rattle.core_machine.specs.declared.collector.stage.Stage.TheVariants as stages
use Rattle.core_machine.specs.declared.collector.stage.Visit.{Visit}
use Rattle.core_machine.specs.machine.Machine.{State, seat_at}
use Rattle.core_rule.specs.Book.{Book, fragment_at, id_at}
use Rattle.core_rule.specs.objects.Objects.{IsKept, node_at}
use Rattle.core_rule.specs.owners.Owners.{Open}
use Rattle.core_rule.specs.copies.Replicas.{CopyingStands, CopyInHand}
use Rattle.core_rule.specs.spines.Spines.{HasPlace, next_spine}

-- whether the collector is about to begin the next phase: in that of marking it then stands behind the flip
abbrev pub is_advancing : Stage → Bool
is_advancing stages.Advancing = true
is_advancing _ = false

-- whether the phase's cycle has made its flip
abbrev pub has_flipped : ℕ → Stage → Bool
has_flipped phase stage = if phase % cycle_phases == marking then is_advancing stage else nat_lt marking (phase % cycle_phases)

-- the half in which spines get their places: it changes with each flip, of which each cycle so far has made one
abbrev pub half_at : ℕ → Stage → ℕ
half_at phase stage = (phase / cycle_phases + (if has_flipped phase stage then 1 else 0)) % 2

-- the flip was made, and the sweep's phase isn't over: spines may still be read in the half that was left
abbrev pub IsLeaving : ℕ → Stage → Type 0
IsLeaving phase stage = ((phase % cycle_phases ≡ marking) × (stage ≡ stages.Advancing)) ⊎ (phase % cycle_phases ≡ copying_phase) ⊎ (phase % cycle_phases ≡ sweep)

-- the word stands in the half of the next spine, before it
pub record IsBeforeNext (next : Spot) (half offset : ℕ) : Type 0 where
  pub here : half ≡ next.half
  pub before : offset < next.offset

-- the word stands in the half that was left, among as many first words as the budget has
pub record IsLeftBehind (heap : Heap) (next : Spot) (phase : ℕ) (stage : Stage) (half offset : ℕ) : Type 0 where
  pub leaving : IsLeaving phase stage
  pub a_half : half < 2
  pub other : half ≢ next.half
  pub before : offset < heap.spine

-- the visit has yet to come to the fragment, which was marked when it began
abbrev pub IsToVisit : Visit → ℕ → Type 0
IsToVisit visit f =
    (visit.group < f / group_fragments) ⊎ ((visit.group ≡ f / group_fragments) × (visit.position ≤ f % group_fragments) × (bit_at visit.marked (f % group_fragments) ≡ 1))

-- copying has yet to come to the fragment, or stands at it
abbrev pub AwaitsVisit : Copying → ℕ → Type 0
AwaitsVisit (copying.Visiting group) f = group ≤ f / group_fragments
AwaitsVisit (copying.Inspecting visit) f = IsToVisit visit f
AwaitsVisit (copying.Naming visit words) f = IsToVisit visit f
AwaitsVisit (copying.Locating array) f = IsToVisit array.visit f
AwaitsVisit (copying.Claiming array from) f = IsToVisit array.visit f
AwaitsVisit (copying.Loading copy) f = IsToVisit copy.array.visit f
AwaitsVisit (copying.Storing copy word) f = IsToVisit copy.array.visit f
AwaitsVisit (copying.Swinging copy) f = IsToVisit copy.array.visit f

-- the flip was made, and copying has yet to come to the fragment, or stands at it
abbrev pub AwaitsCopy : ℕ → Stage → ℕ → Type 0
AwaitsCopy phase stages.Looking f = phase % cycle_phases ≡ copying_phase
AwaitsCopy phase stages.Advancing f = phase % cycle_phases ≡ marking
AwaitsCopy phase (stages.Copying stage) f = AwaitsVisit stage f
AwaitsCopy phase _ f = ⊥

-- a seat's range may have been claimed before the flip: the seat hasn't answered the phase of copying yet
pub record IsEarlyRange (phase : ℕ) (stage : Stage) (answered : ℕ) : Type 0 where
  pub leaving : IsLeaving phase stage
  pub behind : answered % cycle_phases ≡ marking

-- what holds at the stages of copying
abbrev pub WhileCopying : (Copying → Type 0) → Stage → Type 0
WhileCopying P (stages.Copying stage) = P stage
WhileCopying P _ = Unit {0}

-- spines stand in the half of the next spine, but for those that may still stand in the one that was left
pub record HalvesStand (heap : Heap) (state : State) (book : Book) : Type 0 where
  pub half : (next_spine heap state.words).half ≡ half_at state.collector.phase state.collector.stage
  -- what is or was somebody's stands before the next spine, or in the half that was left
  pub before : (half offset : ℕ) → book.spine_owner half offset ≢ Open
      → IsBeforeNext (next_spine heap state.words) half offset ⊎ IsLeftBehind heap (next_spine heap state.words) state.collector.phase state.collector.stage half offset
  -- a kept array's spine may stand in the half that was left until copying comes to it
  pub arrays : (i : ℕ) → i < length book.made → IsKept book.owner book.fragments i → (node_at (graph_of heap book.history) book.made i).array ≡ true
      → ((book.spines i).half ≡ (next_spine heap state.words).half) ⊎ AwaitsCopy state.collector.phase state.collector.stage (fragment_at (book.fragments i) 0)
  -- a seat's new spine may stand there until the seat answers the phase of copying
  pub hands : (number : ℕ) → number < heap.seats → HasPlace (seat_at state number) (seat_at state number).point
      → ((seat_at state number).spine.half ≡ (next_spine heap state.words).half) ⊎ IsEarlyRange state.collector.phase state.collector.stage (seat_at state number).answered
  -- the spine of an array that has swung in this phase stands there no longer
  pub swung : state.collector.phase % cycle_phases ≡ copying_phase → (i : ℕ) → i < length book.made → IsKept book.owner book.fragments i → HasSwung (id_at book.made i) book.history
      → (book.spines i).half ≡ (next_spine heap state.words).half
  -- the copy in progress is right
  pub copies : WhileCopying
      (CopyingStands (node_at (graph_of heap book.history) book.made) book.made book.owner book.colour book.fragments book.spines (next_spine heap state.words).half) state.collector.stage
  pub copy : CopyInHand heap state.words book.spine_owner state.collector.stage
