-- What a cycle may leave: what was reached when it began, what was made since, and what the seats have.
use Rattle.std.specs.Prelude.{◌≡◌, ◌≢◌, ℕ, ◌+◌, ◌*◌, ◌/◌, ◌%◌, ◌<◌, ◌≤◌, ◌⊎◌, Bool, true, if◌then◌else◌, not, is_some, nat_lt, List, Some}
use Rattle.std.specs.List.{list_any}
use Rattle.heap_model.specs.declared.heap.Heap.{Heap}
use Rattle.heap_model.specs.declared.id.Id.{Id}
use Rattle.heap_model.specs.Limits.{group_fragments}
use Rattle.heap_model.specs.PhasePlan.{cycle_phases, rest, clearing}
use Rattle.heap_model.specs.account.Cycles.{graph_of, bound}
use Rattle.heap_model.specs.account.PhaseCounts.{phase}
use Rattle.heap_model.specs.account.Windows.{up_to_cycle}
use Rattle.heap_model.specs.graph.Graph.{Graph}
use Rattle.heap_model.specs.graph.Objects.{node}
use Rattle.heap_model.specs.graph.Reach.{IsReach}
use Rattle.core_machine.specs.declared.collector.stage.Stage.{Stage}
use Rattle.core_machine.specs.declared.collector.stage.Stage.TheVariants as stages
use Rattle.core_machine.specs.declared.point.Access.TheVariants.{ShadingOld}
use Rattle.core_machine.specs.declared.point.Point.TheVariants as points
use Rattle.core_machine.specs.machine.Machine.{State, seat_at}
use Rattle.core_machine.specs.machine.Sums.{sum_upto}
use Rattle.core_machine.specs.seat.Registers.{is_same_id}
use Rattle.heap_words.specs.Loaded.{head_of}
use Rattle.core_rule.specs.Book.{Book, id_at}
use Rattle.core_rule.specs.colours.Colours.{IsMarked}
use Rattle.core_rule.specs.owners.Owners.{Owner, Free, Taken, Borne, Kept, Dead, taken_bit}

-- whether the id is one of these
abbrev pub is_among : List Id → Id → Bool
is_among ids id = list_any (is_same_id id) ids

-- whether the id was reached when the cycle began, or is of an object that wasn't made then
abbrev pub is_inside : Graph → List Id → Id → Bool
is_inside earlier begun id = if is_among begun id then true else not (is_some (node earlier id))

-- whether a fragment counts as the cycle's: a seat has it, or it is a kept object's whose id is inside
abbrev pub inside_bit : (Id → Bool) → List Id → Owner → ℕ
inside_bit inside made Free = 0
inside_bit inside made (Taken number) = 1
inside_bit inside made (Borne number) = 1
inside_bit inside made (Kept i k) = if inside (id_at made i) then 1 else 0
inside_bit inside made (Dead i k) = 0

-- whether a fragment is a kept object's whose id is inside
abbrev pub kept_bit : (Id → Bool) → List Id → Owner → ℕ
kept_bit inside made (Kept i k) = if inside (id_at made i) then 1 else 0
kept_bit inside made _ = 0

-- a number of each fragment, counted in the groups before this one alone
abbrev pub in_groups_before : ℕ → (ℕ → ℕ) → ℕ → ℕ
in_groups_before group bit f = if nat_lt (f / group_fragments) group then bit f else 0

-- a number of each fragment, counted from this group on alone
abbrev pub in_groups_from : ℕ → (ℕ → ℕ) → ℕ → ℕ
in_groups_from group bit f = if nat_lt (f / group_fragments) group then 0 else bit f

-- what was counted while marks were cleared is enough and not too much
pub record ClearedWithin (heap : Heap) (made begun : List Id) (owner : ℕ → Owner) (most group kept : ℕ) : Type 0 where
  -- with what is taken in the groups still to come it is within the bound
  pub at_most : kept + sum_upto (group_fragments * heap.groups) (in_groups_from group (λ f. taken_bit (owner f))) ≤ most
  -- it is no less than the groups behind have of what was reached when the cycle began
  pub at_least : sum_upto (group_fragments * heap.groups) (in_groups_before group (λ f. kept_bit (is_among begun) made (owner f))) ≤ kept

-- what the collector is about to mark is inside; what it counts while it clears marks is right
abbrev pub StageStandsInside : Heap → List Id → List Id → (Id → Bool) → (ℕ → Owner) → ℕ → Stage → Type 0
StageStandsInside heap made begun inside owner most (stages.Shading scan target next) = (i k : ℕ) → owner target ≡ Kept i k → inside (id_at made i) ≡ true
StageStandsInside heap made begun inside owner most (stages.Spreading s target) = (i k : ℕ) → owner target ≡ Kept i k → inside (id_at made i) ≡ true
StageStandsInside heap made begun inside owner most (stages.Clearing group kept) = ClearedWithin heap made begun owner most group kept
StageStandsInside heap made begun inside owner most (stages.Ending kept) = ClearedWithin heap made begun owner most heap.groups kept
StageStandsInside heap made begun inside owner most _ = Unit {0}

-- the footprint of a cycle under way: what is or may come to be marked is inside, and what is inside is within the bound
pub record Footprint (heap : Heap) (state : State) (book : Book) (begun : List Id) (inside : Id → Bool) (most : ℕ) : Type 0 where
  -- what is marked is inside, and in the last phase all that is kept
  pub kept : (f i k : ℕ) → book.owner f ≡ Kept i k → IsMarked book.colour f ⊎ (phase book.history % cycle_phases ≡ clearing) → inside (id_at book.made i) ≡ true
  -- so is an old value that a set has loaded
  pub olds : (number f i k : ℕ) → number < heap.seats → (seat_at state number).point ≡ points.Access ShadingOld → head_of (seat_at state number).loaded ≡ Some f
      → book.owner f ≡ Kept i k → inside (id_at book.made i) ≡ true
  -- and what the collector is about to mark
  pub stage : StageStandsInside heap book.made begun inside book.owner most state.collector.stage
  -- what is inside is within the bound
  pub size : sum_upto (group_fragments * heap.groups) (λ f. inside_bit inside book.made (book.owner f)) ≤ most

-- while a cycle is under way, what was reached when it began has its footprint
abbrev pub CycleStands : Heap → State → Book → Type 0
CycleStands heap state book = phase book.history % cycle_phases ≢ rest → (begun : List Id) → IsReach (graph_of heap (up_to_cycle book.history)) begun
    → Footprint heap state book begun (is_inside (graph_of heap (up_to_cycle book.history)) begun) (bound heap begun book.history)
