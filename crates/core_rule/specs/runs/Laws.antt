-- The laws over every list of events.
use Rattle.std.specs.Prelude.{◌≡◌, ◌≢◌, ℕ, ◌+◌, ◌*◌, ◌%◌, ◌<◌, ◌≤◌, true, List, [], ◌∷◌, ◌++◌, length, filter, All, ◌==◌, if◌then◌else◌}
use Rattle.heap_model.specs.declared.heap.Heap.{Heap}
use Rattle.heap_model.specs.declared.entry.Entry.{Entry}
use Rattle.heap_model.specs.declared.entry.Entry.TheVariants.{Answers}
use Rattle.heap_model.specs.Heap.{IsHeap}
use Rattle.std.specs.List.{AllByRecursion}
use Rattle.heap_model.specs.account.Account.{IsLegal}
use Rattle.heap_model.specs.account.Noting.{is_collectors}
use Rattle.heap_model.specs.account.PhaseCounts.{phase, last_answer}
use Rattle.heap_model.specs.PhasePlan.{cycle_phases, marking}
use Rattle.heap_model.specs.account.Phases.{IsBehind}
use Rattle.heap_model.specs.account.Space.{fragments_gained, fragments_lost, words_granted, words_returned}
use Rattle.heap_model.specs.declared.calls.collector_calls.Turn.TheVariants.{Waits}
use Rattle.heap_model.specs.calls.CollectorCalls.{CollectorState, ComesTo}
use Rattle.core_machine.specs.declared.point.Point.TheVariants.{Idle}
use Rattle.core_machine.specs.machine.Calls.{free_count}
use Rattle.core_machine.specs.collector.Collector.{next_turn}
use Rattle.core_machine.specs.declared.collector.stage.Stage.TheVariants as stages
use Rattle.heap_model.specs.declared.calls.collect.Inner.{Inner}
use Rattle.heap_model.specs.declared.calls.collect.Inner.TheVariants.{Note}
use Rattle.heap_model.specs.declared.calls.collect.CollectReply.TheVariants as notes
use Rattle.core_machine.specs.declared.table.address.Address.TheVariants.{Phase, Answer, Budget}
use Rattle.core_machine.specs.table.Layout.{at}
use Rattle.core_machine.specs.machine.Machine.{State, seat_at, found_by, Event, Begins, BeginsInner, Steps, Turns, Can, state_after, entries, Run, state_after_all, history}
use Rattle.core_machine.specs.machine.Opening.{IsOpening}
use Rattle.core_rule.specs.Book.{Book, Colour}
use Rattle.core_rule.specs.colours.Colours.{HasBirthColour}
use Rattle.core_rule.specs.words.ControlWords.{IsBorn}
use Rattle.core_rule.specs.cycle.Flight.{IsRootMarked}
use Rattle.core_rule.specs.Rule.{Rule}
use Rattle.core_rule.specs.Stands.{Stands}
use Rattle.heap_model.specs.account.Cycles.{graph_of}
use Rattle.heap_model.specs.graph.Sizes.{spine_words_of}
use Rattle.heap_model.specs.Limits.{group_fragments}
use Rattle.core_machine.specs.table.Decode.{spine_words_in}
use Rattle.core_rule.specs.objects.Objects.{node_at}
use Rattle.core_rule.specs.owners.Owners.{Dead}

-- some book stands for the state, with the old history and then these entries
pub record StandsFor (heap : Heap) (state : State) (before added : List Entry) : Type 0 where
  pub book : Book
  pub grown : book.history ≡ before ++ added
  pub stands : Stands heap state book

-- from any state that a book stands for, each event that may happen gives a state that a book with its entries stands for
abbrev pub EachEventKeeps : Type 0
EachEventKeeps = (heap : Heap) (state : State) (book : Book) (event : Event) → Stands heap state book → Can heap state event
    → StandsFor heap (state_after heap state event) book.history (entries heap state event)

-- after every run from the opening a book with the run's history stands for the state
abbrev pub EveryRunKeeps : Type 0
EveryRunKeeps = (heap : Heap) (state : State) (events : List Event) → IsHeap heap → IsOpening heap state → Run heap state events
    → StandsFor heap (state_after_all heap state events) [] (history heap state events)

-- no other seat has a call in flight
abbrev pub IsAlone : State → ℕ → Type 0
IsAlone state number = (other : ℕ) → other < length state.seats → other ≢ number → (seat_at state other).point ≡ Idle

-- no seat has a call in flight
abbrev pub AllIdle : State → Type 0
AllIdle state = (number : ℕ) → number < length state.seats → (seat_at state number).point ≡ Idle

-- the other seat's word is `answer` now, and the phase is `p`
pub record IsBehindNow (heap : Heap) (words : List ℕ) (other answer p : ℕ) : Type 0 where
  pub word : at heap words (Answer other) ≡ answer
  pub here : at heap words Phase ≡ p

-- where a seat that was found to be behind is noted, it is so now
abbrev pub NotesNow : Heap → State → Inner → Type 0
NotesNow heap state (Note (notes.Waits other answer p)) = IsBehindNow heap state.words other answer p
NotesNow heap state _ = Unit {0}

-- the event is a seat's while no other has a call in flight, and notes only who is behind now, or is a turn between two calls
abbrev pub HappensAlone : Heap → State → Event → Type 0
HappensAlone heap state (Begins number command) = IsAlone state number
HappensAlone heap state (BeginsInner number inner) = IsAlone state number × NotesNow heap state inner
HappensAlone heap state (Steps number) = IsAlone state number
HappensAlone heap state Turns = AllIdle state

-- whole calls, one after another, and turns of the collector between them
abbrev pub OneCallAtATime : Heap → State → List Event → Type 0
OneCallAtATime heap state [] = Unit {0}
OneCallAtATime heap state (event ∷ events) = HappensAlone heap state event × OneCallAtATime heap (state_after heap state event) events

-- a run of whole calls, one after another, has a history that is legal as a play
abbrev pub WholeCallsPlay : Type 0
WholeCallsPlay = (heap : Heap) (state : State) (events : List Event) → IsHeap heap → IsOpening heap state → Run heap state events
    → OneCallAtATime heap state events → IsLegal heap true (history heap state events)

-- the fragments whose taken bit isn't set are those that are in no use
abbrev pub FreeIsUnused : Type 0
FreeIsUnused = (heap : Heap) (state : State) (book : Book) → Rule heap state book
    → free_count heap state.words + fragments_gained heap book.history ≡ 16 * heap.groups + fragments_lost book.history

-- between calls the budget word is the spine words that are in use, and these are no more than the heap has
abbrev pub WordsAreUsed : Type 0
WordsAreUsed = (heap : Heap) (state : State) (book : Book) → Rule heap state book → AllIdle state
    → (at heap state.words Budget + words_returned book.history ≡ words_granted book.history) × (at heap state.words Budget ≤ heap.spine)

-- where a turn answers that it waits for a seat, the history says of this seat that it hasn't left and is one phase behind
abbrev pub EachWaitIsBehind : Type 0
EachWaitIsBehind = (heap : Heap) (state : State) (book : Book) (seat answer p : ℕ) → Rule heap state book
    → (next_turn heap state.collector).answer (found_by heap state (next_turn heap state.collector).step) ≡ Waits seat answer p
    → (seat < heap.seats) × IsBehind seat answer p book.history × (answer + 1 ≡ p)

-- the fragment is an object's that is to be freed, and the word tells its spine words exactly where an array begins there
pub record IsDeadTold (heap : Heap) (book : Book) (f word : ℕ) : Type 0 where
  pub object : ℕ
  pub position : ℕ
  pub below : object < length book.made
  pub dead : book.owner f ≡ Dead object position
  pub told : spine_words_in word ≡ (if position == 0 then spine_words_of (node_at (graph_of heap book.history) book.made object) else 0)
  pub some : position ≡ 0 → (node_at (graph_of heap book.history) book.made object).array ≡ true → 0 < spine_words_in word
  pub only : 0 < spine_words_in word → (position ≡ 0) × ((node_at (graph_of heap book.history) book.made object).array ≡ true)

-- each fragment that the sweep examines is to be freed, and the word that its turn finds tells its array's spine words
abbrev pub EachDeadIsTold : Type 0
EachDeadIsTold = (heap : Heap) (state : State) (book : Book) (group dead position words : ℕ) → Rule heap state book → state.collector.stage ≡ stages.Examining group dead position words
    → IsDeadTold heap book (group_fragments * group + position) (found_by heap state (next_turn heap state.collector).step)

-- the collector's entries and its phase are those that the history tells
pub record IsToldBy (history : List Entry) (collector : CollectorState) : Type 0 where
  pub log_told : collector.log ≡ filter is_collectors history
  pub phase_told : collector.phase ≡ phase history

-- what a turn adds is the collector's, and the turn comes to what a turn of a collector may come to
abbrev pub EachTurnComesTo : Type 0
EachTurnComesTo = (heap : Heap) (state : State) (book : Book) (old new : CollectorState) → Stands heap state book → Can heap state Turns
    → IsToldBy book.history old → IsToldBy (book.history ++ entries heap state Turns) new
    → AllByRecursion (λ entry. is_collectors entry ≡ true) (entries heap state Turns)
    × ComesTo old new ((next_turn heap state.collector).answer (found_by heap state (next_turn heap state.collector).step))

-- where the entry is an answer to a phase in which marking begins, the objects that the seat's registers hold are marked
abbrev pub HasMarkedRoots : State → (ℕ → Colour) → Entry → Type 0
HasMarkedRoots state colour (Answers seat p) = p % cycle_phases ≡ marking → (r : ℕ) → IsRootMarked colour (seat_at state seat).registers r
HasMarkedRoots state colour _ = Unit {0}

-- each answer in which marking begins is given when the objects that its seat's registers hold are marked
abbrev pub EachAnswerIsMarked : Type 0
EachAnswerIsMarked = (heap : Heap) (state : State) (book : Book) (event : Event) → Rule heap state book → Can heap state event
    → All (HasMarkedRoots state book.colour) (entries heap state event)

-- an event that bears a fragment is a seat's step, which gives it the colour of the seat's births
abbrev pub EachBirthHasItsColour : Type 0
EachBirthHasItsColour = (heap : Heap) (state : State) (book : Book) (event : Event) (f : ℕ) → Rule heap state book → Can heap state event
    → f < 16 * heap.groups → ¬ IsBorn heap state.words f → IsBorn heap (state_after heap state event).words f
    → (number : ℕ) × (event ≡ Steps number) × HasBirthColour heap (state_after heap state event).words f (last_answer number book.history)
