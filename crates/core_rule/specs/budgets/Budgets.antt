-- The spine words that are granted: those of arrays and of calls; and that those with a place in the next spine's half stand before it.
use Rattle.std.specs.Prelude.{◌≡◌, ℕ, ◌+◌, ◌*◌, ◌^◌, ◌<◌, ◌≤◌, ◌==◌, false, if◌then◌else◌, List}
use Rattle.heap_model.specs.declared.entry.Entry.{Entry}
use Rattle.heap_model.specs.declared.heap.Heap.{Heap}
use Rattle.heap_model.specs.Limits.{group_fragments}
use Rattle.heap_model.specs.PhasePlan.{barriers, copying as copying_phase}
use Rattle.heap_model.specs.graph.Graph.{Node}
use Rattle.heap_model.specs.graph.Sizes.{spine_words_of}
use Rattle.heap_model.specs.account.Cycles.{graph_of}
use Rattle.heap_model.specs.account.Refusals.{FindsSpine}
use Rattle.heap_model.specs.account.Space.{words_granted, words_returned}
use Rattle.heap_model.specs.account.Windows.{since_cycle}
use Rattle.heap_words.specs.declared.spot.Spot.{Spot}
use Rattle.core_machine.specs.declared.collector.stage.Copying.TheVariants as copying
use Rattle.core_machine.specs.declared.collector.stage.Stage.{Stage}
use Rattle.core_machine.specs.declared.collector.stage.Stage.TheVariants as stages
use Rattle.core_machine.specs.declared.point.Making.TheVariants.{Withdrawing, Gathering, GivingBack, Refusing, Placing, Listing, Storing, Bearing}
use Rattle.core_machine.specs.declared.point.Point.{Point}
use Rattle.core_machine.specs.declared.point.Point.TheVariants as points
use Rattle.core_machine.specs.declared.table.address.Address.TheVariants.{Budget}
use Rattle.core_machine.specs.machine.Machine.{State, seat_at}
use Rattle.core_machine.specs.machine.Sums.{sum_upto}
use Rattle.core_machine.specs.seat.Seat.{Seat, spine_need}
use Rattle.core_machine.specs.table.Layout.{at}
use Rattle.core_rule.specs.Book.{Book}
use Rattle.core_rule.specs.colours.Colours.{IsBetween}
use Rattle.core_rule.specs.halves.Halves.{IsLeaving}
use Rattle.core_rule.specs.objects.Objects.{node_at}
use Rattle.core_rule.specs.owners.Owners.{Owner, Kept, Dead}
use Rattle.core_rule.specs.spines.Spines.{next_spine}

-- the spine words that are granted to a seat's call
abbrev pub granted_at : Seat → Point → ℕ
granted_at seat (points.Making Gathering) = spine_need seat
granted_at seat (points.Making GivingBack) = spine_need seat
granted_at seat (points.Making Refusing) = spine_need seat
granted_at seat (points.Making Placing) = spine_need seat
granted_at seat (points.Making Listing) = spine_need seat
granted_at seat (points.Making Storing) = spine_need seat
granted_at seat (points.Making Bearing) = spine_need seat
granted_at seat _ = 0

-- the spine words of a seat's call that have their place in this half
abbrev pub placed_at : ℕ → Seat → Point → ℕ
placed_at half seat (points.Making Listing) = if seat.spine.half == half then spine_need seat else 0
placed_at half seat (points.Making Storing) = if seat.spine.half == half then spine_need seat else 0
placed_at half seat (points.Making Bearing) = if seat.spine.half == half then spine_need seat else 0
placed_at half seat _ = 0

-- the spine words that a seat has asked for and was refused, and hasn't taken back yet
abbrev pub refused_at : Seat → Point → ℕ
refused_at seat (points.Making Withdrawing) = spine_need seat
refused_at seat _ = 0

-- a number of each seat, summed over all
abbrev pub of_seats : Heap → State → (Seat → Point → ℕ) → ℕ
of_seats heap state number = sum_upto heap.seats (λ r. number (seat_at state r) (seat_at state r).point)

-- the weight of an object where the fragment is its first one, and kept
abbrev pub kept_weight : (ℕ → ℕ) → Owner → ℕ
kept_weight weight (Kept i k) = if k == 0 then weight i else 0
kept_weight weight _ = 0

-- the weight of an object where the fragment is its first one, and to be freed
abbrev pub dead_weight : (ℕ → ℕ) → Owner → ℕ
dead_weight weight (Dead i k) = if k == 0 then weight i else 0
dead_weight weight _ = 0

-- the weights of all kept objects
abbrev pub kept_sum : Heap → (ℕ → ℕ) → (ℕ → Owner) → ℕ
kept_sum heap weight owner = sum_upto (group_fragments * heap.groups) (λ f. kept_weight weight (owner f))

-- the weights of all objects that are to be freed
abbrev pub dead_sum : Heap → (ℕ → ℕ) → (ℕ → Owner) → ℕ
dead_sum heap weight owner = sum_upto (group_fragments * heap.groups) (λ f. dead_weight weight (owner f))

-- how many spine words an object has
abbrev pub words_of_object : (ℕ → Node) → ℕ → ℕ
words_of_object nodes i = spine_words_of (nodes i)

-- how many spine words an object has in this half
abbrev pub words_in_half : ℕ → (ℕ → Node) → (ℕ → Spot) → ℕ → ℕ
words_in_half half nodes spines i = if (spines i).half == half then spine_words_of (nodes i) else 0

-- the objects of the book, by their numbers
abbrev pub nodes_in : Heap → Book → ℕ → Node
nodes_in heap book = node_at (graph_of heap book.history) book.made

-- the spine words of arrays that the sweep has freed and is about to return
abbrev pub returning : Stage → ℕ
returning (stages.Returning group words) = words
returning _ = 0

-- the spine words of arrays that are to be freed or were freed, and that aren't returned yet
abbrev pub unreturned : Heap → State → Book → ℕ
unreturned heap state book = dead_sum heap (words_of_object (nodes_in heap book)) book.owner + returning state.collector.stage

-- the granted words: those of calls, of kept arrays, and of arrays that aren't returned yet
abbrev pub granted : Heap → State → Book → ℕ
granted heap state book = of_seats heap state granted_at + kept_sum heap (words_of_object (nodes_in heap book)) book.owner + unreturned heap state book

-- the words that a copy in progress has claimed
abbrev pub copying_words : Stage → ℕ
copying_words (stages.Copying (copying.Loading copy)) = copy.array.words
copying_words (stages.Copying (copying.Storing copy word)) = copy.array.words
copying_words (stages.Copying (copying.Swinging copy)) = copy.array.words
copying_words _ = 0

-- the words that have their places in this half: those of calls and of kept arrays, and those of a copy in progress
abbrev pub placed_words : Heap → State → Book → ℕ → ℕ
placed_words heap state book half =
    of_seats heap state (placed_at half) + kept_sum heap (words_in_half half (nodes_in heap book) book.spines) book.owner + copying_words state.collector.stage

-- the spine words that were returned since the last cycle began
abbrev pub returned_in_cycle : List Entry → ℕ
returned_in_cycle history = words_returned (since_cycle history)

-- the sweep has counted the spine words of its group's arrays that are to be freed, as far as it has looked
abbrev pub SweepCounts : (ℕ → ℕ) → (ℕ → Owner) → Stage → Type 0
SweepCounts words owner (stages.Examining group dead position counted) = counted ≡ sum_upto position (λ j. dead_weight words (owner (group_fragments * group + j)))
SweepCounts words owner (stages.Freeing group dead counted) = counted ≡ sum_upto group_fragments (λ j. dead_weight words (owner (group_fragments * group + j)))
SweepCounts words owner _ = Unit {0}

-- how the spine words that are granted stand to the budget word, the place of the next spine and the history
pub record BudgetsStand (heap : Heap) (state : State) (book : Book) : Type 0 where
  -- before the next spine stands what has its place in its half; and what isn't returned yet, until the flip leaves that behind
  pub level : ¬ IsLeaving state.collector.phase state.collector.stage
      → (next_spine heap state.words).offset ≡ placed_words heap state book (next_spine heap state.words).half + unreturned heap state book
  pub leaving : IsLeaving state.collector.phase state.collector.stage
      → (next_spine heap state.words).offset ≡ placed_words heap state book (next_spine heap state.words).half
  -- the budget word has what is granted, and what was refused and not taken back yet
  pub word : at heap state.words Budget ≡ granted heap state book + of_seats heap state refused_at
  -- what is granted and not a call's is what the history has granted and not returned
  pub told : words_granted book.history + of_seats heap state granted_at ≡ granted heap state book + words_returned book.history
  pub low : granted heap state book ≤ heap.spine
  -- a cycle returns no more than the budget, and nothing before its sweep
  pub returned : returned_in_cycle book.history + unreturned heap state book ≤ heap.spine
  pub early : IsBetween barriers copying_phase state.collector.phase → returned_in_cycle book.history ≡ 0
  pub counts : SweepCounts (words_of_object (nodes_in heap book)) book.owner state.collector.stage

-- a call that takes its spine words back has found a number that a run may show, below 2^32
abbrev pub UsedStands : Heap → List Entry → ℕ → Seat → Point → Type 0
UsedStands heap history number seat (points.Making Withdrawing) = FindsSpine heap false history number seat.used × (seat.used < 2 ^ 32)
UsedStands heap history number seat _ = Unit {0}
