-- The rule: a book stands for a state.
use Rattle.std.specs.Prelude.{ℕ, ◌<◌, false, List, length, drop}
use Rattle.heap_model.specs.declared.entry.Entry.{Entry}
use Rattle.heap_words.specs.declared.spot.Spot.{Spot}
use Rattle.heap_model.specs.declared.heap.Heap.{Heap}
use Rattle.heap_model.specs.declared.id.Id.{Id}
use Rattle.heap_model.specs.account.Account.{IsLegal}
use Rattle.heap_model.specs.account.Cycles.{graph_of}
use Rattle.heap_model.specs.graph.Graph.{Graph}
use Rattle.core_machine.specs.seat.Commands.{target_of}
use Rattle.core_machine.specs.machine.Machine.{State, seat_at}
use Rattle.core_machine.specs.seat.Seat.{Seat}
use Rattle.core_machine.specs.machine.Value.{IsMachine}
use Rattle.core_rule.specs.Book.{Book, Colour}
use Rattle.core_rule.specs.words.ControlWords.{Bits}
use Rattle.core_rule.specs.objects.Objects.{AreMade, Objects, node_at}
use Rattle.core_rule.specs.owners.Owners.{Owner, OwnersStand, SpineOwner}
use Rattle.core_rule.specs.spines.Spines.{SpinesStand, SpineInHand}
use Rattle.core_rule.specs.copies.Replicas.{AddressStands}
use Rattle.core_rule.specs.halves.Halves.{HalvesStand}
use Rattle.core_rule.specs.budgets.Budgets.{BudgetsStand, UsedStands}
use Rattle.core_rule.specs.graph.Registers.{Registers}
use Rattle.core_rule.specs.hand.Holding.{Holding, IsStored}
use Rattle.core_rule.specs.counts.Counts.{CountsAgree, OwnList, AreUsed}
use Rattle.heap_model.specs.account.PhaseCounts.{phase, last_answer, has_left}
use Rattle.core_rule.specs.cycle.Phases.{CollectorAgrees}
use Rattle.core_rule.specs.cycle.Cycle.{HeapInCycle, SeatInCycle}
use Rattle.core_rule.specs.hand.Together.{AreTogether}
use Rattle.core_rule.specs.ways.Ways.{WayStands}
use Rattle.core_rule.specs.gather.Gathers.{GathersRight, Began}
use Rattle.core_rule.specs.marking.Marking.{MarkingStands}
use Rattle.core_rule.specs.roots.Roots.{RootsAreReached}

-- what is true of the heap
pub record HeapStands (heap : Heap) (words : List ℕ) (book : Book) : Type 0 where
  pub control_words : Bits heap words book.owner
  pub owners : OwnersStand heap.seats book.owner
  pub ids : AreMade (graph_of heap book.history) book.made
  pub objects : Objects heap words (graph_of heap book.history) book.made book.owner book.fragments book.spines
  pub spines : SpinesStand heap words heap.seats (length book.made) (node_at (graph_of heap book.history) book.made) book.owner book.fragments book.spines book.spine_owner
  pub used : AreUsed heap book.owner book.history
  pub cycle : HeapInCycle heap words (phase book.history) book.owner book.colour book.fragments
  pub legal : IsLegal heap false book.history

-- what is true of what a seat has: its fragments, their order, what it has stored into them, and its new spine
pub record OwnStands (heap : Heap) (words : List ℕ) (owner : ℕ → Owner) (spine_owner : ℕ → ℕ → SpineOwner) (number : ℕ) (seat : Seat) : Type 0 where
  pub holding : Holding owner number seat.reserve seat.hand seat.body
  pub stored : IsStored heap words number seat
  pub together : AreTogether heap seat.cursor seat.tried seat.hand seat.body
  pub spine : SpineInHand heap words spine_owner number seat

-- what is true of what a seat names: its registers, the way that it is on, and the place of the spine on it
pub record NamesStand (heap : Heap) (words : List ℕ) (g : Graph) (made : List Id) (owner : ℕ → Owner) (fragments : ℕ → List ℕ) (spines : ℕ → Spot) (spine_owner : ℕ → ℕ → SpineOwner) (number : ℕ) (seat : Seat) : Type 0 where
  pub registers : Registers g made owner fragments number seat.registers seat.point (target_of seat.command)
  pub way : WayStands (node_at g made) made owner fragments seat seat.point
  pub address : AddressStands heap words (node_at g made) owner fragments spines spine_owner seat seat.point

-- what the history tells of a seat: its entries, its counts, its call in flight and what that has gathered
pub record ToldStands (heap : Heap) (g : Graph) (history : List Entry) (made : List Id) (owner : ℕ → Owner) (fragments : ℕ → List ℕ) (begun number : ℕ) (seat : Seat) : Type 0 where
  pub list : OwnList g history made owner fragments number seat
  pub counts : CountsAgree g history number seat
  pub began : Began history number begun seat.point
  pub gathers : GathersRight heap owner number (drop begun history) seat.cursor seat.tried seat.given
  pub used : UsedStands heap history number seat seat.point

-- what is true of a seat
pub record SeatStands (heap : Heap) (words : List ℕ) (book : Book) (number : ℕ) (seat : Seat) : Type 0 where
  pub own : OwnStands heap words book.owner book.spine_owner number seat
  pub names : NamesStand heap words (graph_of heap book.history) book.made book.owner book.fragments book.spines book.spine_owner number seat
  pub told : ToldStands heap (graph_of heap book.history) book.history book.made book.owner book.fragments (book.begun number) number seat
  pub cycle : SeatInCycle heap words (phase book.history) (last_answer number book.history) (has_left number book.history) book.owner book.colour number seat

-- what is true of the collector's marking, and of the roots to which it is to come
pub record MarksStand (heap : Heap) (state : State) (owner : ℕ → Owner) (colour : ℕ → Colour) (fragments : ℕ → List ℕ) : Type 0 where
  pub heap_marks : MarkingStands heap state.words owner colour fragments state.collector.phase state.collector.stage
  pub roots : (number : ℕ) → number < heap.seats → RootsAreReached heap state.words owner colour state.collector (seat_at state number)

-- what is true of the spine space: how much of it is granted, and where in it spines stand
pub record SpaceStands (heap : Heap) (state : State) (book : Book) : Type 0 where
  pub budgets : BudgetsStand heap state book
  pub halves : HalvesStand heap state book

-- the book stands for the state
pub record Rule (heap : Heap) (state : State) (book : Book) : Type 0 where
  pub machine : IsMachine heap state
  pub heap_stands : HeapStands heap state.words book
  pub seats_stand : (number : ℕ) → number < heap.seats → SeatStands heap state.words book number (seat_at state number)
  pub collector_stands : CollectorAgrees heap state.collector book.history
  pub marks_stand : MarksStand heap state book.owner book.colour book.fragments
  pub space : SpaceStands heap state book
