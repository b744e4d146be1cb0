-- A turn of the collector keeps the rule, where the heap, each seat and the collector stand after it.
use Rattle.std.proofs.Common.{◌≡◌, ℕ, ◌/◌, ◌<◌, List, [], ◌++◌, refl, sym, ◌∙◌, subst}
use Rattle.std.proofs.lemmas.List.{append-nil}
use Rattle.core_rule.proofs.Terms.{Entry, Ends, Heap, cycle_phases, EndsCycle, Stage, Collector, turn_at, at, put, State, seat_at, state_after_turn, IsMachine, Book, HalvesStand}
use Rattle.core_rule.proofs.Terms.{CollectorAgrees, Rule, HeapStands, SeatStands, MarksStand, SpaceStands}
use Rattle.core_machine.specs.declared.table.address.Address.{Address}
use Rattle.core_machine.specs.declared.collector.stage.Stage.TheVariants as stages
use Rattle.core_machine.specs.collector.Collector.{TurnMove}
use Rattle.core_machine.proofs.table_lemmas.Addresses.{put_of_read_changes_nothing}
use Rattle.core_rule.proofs.book.BookGoing.{BookGoesOn, book_goes_on_with_history}
use Rattle.core_rule.proofs.budgets.BudgetSteps.{budgets_stand_with_log}
use Rattle.core_rule.proofs.budgets.BudgetFrames.{SameGrants, same_grants_recoloured}
use Rattle.core_rule.proofs.halves.HalvesFrames.{StageGoesOn, budgets_stand_after_turn, halves_stand_after_turn}
use Rattle.core_rule.proofs.spines.OtherWords.{LeavesSpines, leaves_spines_of_itself}
use Rattle.core_rule.proofs.steps.Assemble.{Keeps, keeps_rule_by_conjuncts}

-- a turn of the collector keeps the rule
abbrev pub TurnKeeps : Heap → State → Book → TurnMove → Type 0
TurnKeeps heap state book turn = IsMachine heap (state_after_turn heap state turn) → Keeps heap state (state_after_turn heap state turn) book book.begun turn.adds

-- so does the turn that is due at this stage
abbrev pub StageKeeps : Stage → Type 0
StageKeeps stage = (heap : Heap) (state : State) (book : Book) → Rule heap state book → state.collector.stage ≡ stage → TurnKeeps heap state book (turn_at heap state.collector stage)

-- where the collector is about to end a cycle, that may end
abbrev pub MayEnd : Heap → State → Book → Type 0
MayEnd heap state book = (kept : ℕ) → state.collector.stage ≡ stages.Ending kept → EndsCycle heap book.history (Ends (state.collector.phase / cycle_phases) kept)

-- the state after a turn
abbrev pub after_turn : State → List ℕ → Collector → State
after_turn state words collector = record state { words = words; collector = collector }

-- the spine space stands as before after a turn that leaves the spine words, where it leads to a stage at which that may be
pub space_stands_after_turn : (heap : Heap) (state : State) (book : Book) → Rule heap state book → (words : List ℕ) (collector : Collector) (now : Book)
    → LeavesSpines heap state.words words → SameGrants heap book now → StageGoesOn heap words now state.collector collector → SpaceStands heap (after_turn state words collector) now
space_stands_after_turn heap state book rule words collector now leaves grants on = record {
  budgets = budgets_stand_after_turn heap state book words collector now leaves grants on rule.space.budgets;
  halves = halves_stand_after_turn heap state book words collector now leaves grants on rule.space.halves;
}

-- the rule after a turn
pub keeps_rule_after_turn : (heap : Heap) (state : State) (book : Book) (words : List ℕ) (collector : Collector) (now : Book) (added : List Entry)
    → Rule heap state book → IsMachine heap (after_turn state words collector) → now.history ≡ book.history ++ added
    → HeapStands heap words now
    → ((r : ℕ) → r < heap.seats → SeatStands heap state.words book r (seat_at state r) → SeatStands heap words now r (seat_at state r))
    → CollectorAgrees heap collector now.history → MarksStand heap (after_turn state words collector) now.owner now.colour now.fragments
    → SpaceStands heap (after_turn state words collector) now → BookGoesOn heap state book now → Keeps heap state (after_turn state words collector) book now.begun added
keeps_rule_after_turn heap state book words collector now added rule machine grown heap_after seats collector_after marks space goes =
    keeps_rule_by_conjuncts now grown machine heap_after (λ r below. seats r below (rule.seats_stand r below)) collector_after marks space goes

-- the collector with no entry added
abbrev pub quiet : Collector → Collector
quiet collector = record collector { log = collector.log ++ [] }

-- the spine space takes no note of the collector's entries
quiet_halves : (heap : Heap) (state : State) (words : List ℕ) (collector : Collector) (book : Book) → HalvesStand heap (after_turn state words collector) book
    → HalvesStand heap (after_turn state words (quiet collector)) book
quiet_halves heap state words collector book old = record {
  half = old.half;
  before = old.before;
  arrays = old.arrays;
  hands = old.hands;
  swung = old.swung;
  copies = old.copies;
  copy = old.copy;
}

-- the rule after a load of the collector, with the book that stands then
pub keeps_rule_by_load_with_book : (heap : Heap) (state : State) (book : Book) (a : Address) (collector : Collector) (now : Book) → Rule heap state book
    → IsMachine heap (after_turn state (put heap state.words a (at heap state.words a)) (quiet collector)) → now.history ≡ book.history
    → HeapStands heap state.words now
    → ((r : ℕ) → r < heap.seats → SeatStands heap state.words book r (seat_at state r) → SeatStands heap state.words now r (seat_at state r))
    → CollectorAgrees heap collector now.history → MarksStand heap (after_turn state state.words collector) now.owner now.colour now.fragments
    → SpaceStands heap (after_turn state state.words collector) now → BookGoesOn heap state book now → Keeps heap state (after_turn state (put heap state.words a (at heap state.words a)) (quiet collector)) book now.begun []
keeps_rule_by_load_with_book heap state book a collector now rule machine told heap_after seats stands marks space goes =
    subst (λ words. IsMachine heap (after_turn state words (quiet collector)) → Keeps heap state (after_turn state words (quiet collector)) book now.begun []) (sym (put_of_read_changes_nothing heap state.words a))
    (λ same. keeps_rule_after_turn heap state book state.words (quiet collector) now [] rule same (told ∙ sym (append-nil book.history)) heap_after seats
    (subst (λ log. CollectorAgrees heap (record collector { log = log }) now.history) (sym (append-nil collector.log)) stands)
    record { heap_marks = marks.heap_marks; roots = λ r below is answered. marks.roots r below (record { phase = is.phase; goes_on = is.goes_on }) answered }
    record { budgets = budgets_stand_with_log heap (after_turn state state.words collector) now (collector.log ++ []) space.budgets; halves = quiet_halves heap state state.words collector now space.halves } goes) machine

-- and after one that leaves the book
pub keeps_rule_by_load_turn : (heap : Heap) (state : State) (book : Book) (a : Address) (collector : Collector) → Rule heap state book
    → IsMachine heap (after_turn state (put heap state.words a (at heap state.words a)) (quiet collector))
    → CollectorAgrees heap collector book.history → MarksStand heap (after_turn state state.words collector) book.owner book.colour book.fragments
    → StageGoesOn heap state.words book state.collector collector
    → Keeps heap state (after_turn state (put heap state.words a (at heap state.words a)) (quiet collector)) book book.begun []
keeps_rule_by_load_turn heap state book a collector rule machine agrees marks on =
    keeps_rule_by_load_with_book heap state book a collector book rule machine refl rule.heap_stands (λ r below seat_stands. seat_stands) agrees marks
    (space_stands_after_turn heap state book rule state.words collector book (leaves_spines_of_itself heap state.words) (same_grants_recoloured heap book book.colour book.begun) on)
    (book_goes_on_with_history heap state book book.history book.begun)
