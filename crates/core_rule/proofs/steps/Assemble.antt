-- A seat's step keeps the rule, where the heap, the seat and each other seat stand after it.
use Rattle.std.proofs.Common.{◌≡◌, ◌≢◌, ℕ, ◌<◌, ◌≤◌, List, ap, arith, [], ◌++◌, length, filter, slice_set, slice_index_or, refl, sym, false, ◌∙◌, subst, inl, inr}
use Rattle.std.proofs.lemmas.List.{append-nil}
use Rattle.std.proofs.lemmas.List.Elements.{filter-append}
use Rattle.core_rule.proofs.Terms.{Entry, Heap, graph_of, graph_seat, phase, last_answer, has_left, Point, Collector, Move, State, seat_at, state_after_move, found_by, Seat}
use Rattle.core_rule.proofs.Terms.{absent_seat, IsMachine, Book, IsMarked, CollectorAgrees, IsReached, Rule, HeapStands, SeatStands, MarksStand, SpaceStands}
use Rattle.core_machine.specs.declared.point.Making.{Making}
use Rattle.core_machine.specs.declared.point.Point.TheVariants as points
use Rattle.core_rule.specs.counts.Counts.{is_collectors}
use Rattle.core_rule.specs.roots.Roots.{RootsAreReached}
pub use Rattle.core_rule.proofs.entries.AtRest.{seat_fits, in_flight_has_not_left}
use Rattle.core_rule.proofs.entries.Begins.{begins, book_begun, heap_stands_after_begin, other_seat_stands_after_begin}
use Rattle.core_rule.proofs.entries.PhaseEntries.{phase_stays_by_seats, last_answer_grows, had_not_left}
use Rattle.core_rule.proofs.book.BookGoing.{BookGoesOn, book_goes_on_with_history}
use Rattle.core_rule.proofs.colours.SpineStays.{same_sources_of_itself}
use Rattle.core_rule.proofs.marking.Marks.{MarksGoOn, RootsGoOn, roots_hold_still, leaves_by_same_sources, marks_go_on}
use Rattle.core_rule.proofs.budgets.BudgetFrames.{stepped, SameGrants, same_grants_recoloured, budgets_stand_after_step}
use Rattle.core_rule.proofs.halves.HalvesFrames.{holds_of_each_seat, halves_stand_after_step}
use Rattle.core_rule.proofs.budgets.NoneMade.{SameWeights}
use Rattle.core_rule.proofs.spines.OtherWords.{LeavesSpines, leaves_places_of_spines, leaves_spines_of_itself}

-- where the history grows by entries of which none is the collector's, and the seats have answered as it says, the collector stands as before
collector_stays : (heap : Heap) (collector : Collector) (before added now : List Entry) → now ≡ before ++ added → filter is_collectors added ≡ []
    → ((number : ℕ) → number < heap.seats → has_left number now ≡ false → last_answer number now ≤ phase now)
    → CollectorAgrees heap collector before → CollectorAgrees heap collector now
collector_stays heap collector before added now grown none few stands =
    let same : phase now ≡ phase before = ap phase grown ∙ phase_stays_by_seats before added none in
    record {
      log = rw (grown, filter-append is_collectors before added, none, append-nil (filter is_collectors before)) stands.log;
      phase_told = stands.phase_told ∙ sym same;
      looked = λ number less below present.
          let was = stands.looked number less below (had_not_left number before added (ap (has_left number) (sym grown) ∙ present)) in
          let more : last_answer number before ≤ last_answer number now = subst (λ es. last_answer number before ≤ last_answer number es) (sym grown) (last_answer_grows number before added) in
          omega (arith, few number below present, was, same, more);
    }

-- a seat that hasn't left has answered no later phase than has begun
pub last_answer_within_phase : (heap : Heap) (words : List ℕ) (book : Book) (number : ℕ) (seat : Seat) → SeatStands heap words book number seat → has_left number book.history ≡ false
    → last_answer number book.history ≤ phase book.history
last_answer_within_phase heap words book number seat stands present =
    let told = stands.cycle.answers_told in
    elim (told.near (sym told.leaves ∙ present)) [
      | inl same ↦ omega (arith, told.told, same)
      | inr before ↦ omega (arith, told.told, before)
    ]

-- a book stands for the state after this one, whose history is the old one with these entries, whose calls began then, and to which the old one goes on
pub record Keeps (heap : Heap) (before state : State) (book : Book) (begun : ℕ → ℕ) (added : List Entry) : Type 0 where
  pub now : Book
  pub grown : now.history ≡ book.history ++ added
  pub calls : now.begun ≡ begun
  pub rule : Rule heap state now
  pub goes : BookGoesOn heap before book now

-- a book that has grown by them keeps it where each conjunct stands for it
pub keeps_rule_by_conjuncts : {heap : Heap} {before state : State} {book : Book} {added : List Entry} (now : Book) → now.history ≡ book.history ++ added → IsMachine heap state → HeapStands heap state.words now
    → ((r : ℕ) → r < heap.seats → SeatStands heap state.words now r (seat_at state r)) → CollectorAgrees heap state.collector now.history
    → MarksStand heap state now.owner now.colour now.fragments → SpaceStands heap state now → BookGoesOn heap before book now → Keeps heap before state book now.begun added
keeps_rule_by_conjuncts now grown machine heap_stands seats collector marks space goes = record {
  now = now;
  grown = grown;
  calls = refl;
  rule = record { machine = machine; heap_stands = heap_stands; seats_stand = seats; collector_stands = collector; marks_stand = marks; space = space };
  goes = goes;
}

-- a seat's move keeps the rule
abbrev pub MoveKeeps : Heap → State → Book → ℕ → Move → Type 0
MoveKeeps heap state book number move = IsMachine heap (state_after_move heap state number move)
    → Keeps heap state (state_after_move heap state number move) book book.begun (move.shows state.words (found_by heap state move.step))

-- so does the move that is due to any seat at this point
abbrev pub StepKeeps : Point → (Heap → ℕ → Seat → Move) → Type 0
StepKeeps point move = (heap : Heap) (state : State) (book : Book) (number : ℕ) → Rule heap state book → number < heap.seats
    → (seat_at state number).point ≡ point → MoveKeeps heap state book number (move heap number (seat_at state number))

-- a seat that makes an object hasn't left
pub making_seat_has_not_left : (heap : Heap) (state : State) (book : Book) (number : ℕ) (making : Making) → Rule heap state book → number < heap.seats
    → (seat_at state number).point ≡ points.Making making → (graph_seat (graph_of heap book.history) number).left ≡ false
making_seat_has_not_left heap state book number making rule here point_is =
    let stands = rule.seats_stand number here in
    stands.told.counts.leaves ∙ in_flight_has_not_left rule number here (λ idle. absurd (cc (point_is, idle)))

-- the spine space stands as before after a seat's step that asks for no spine words and gives none, and marks no less
pub space_stands_after_step : (heap : Heap) (state : State) (book : Book) (number : ℕ) → Rule heap state book → number < heap.seats → (words : List ℕ) (seat : Seat) (now : Book)
    → LeavesSpines heap state.words words → SameWeights (seat_at state number) seat → SameGrants heap book now → ((f : ℕ) → IsMarked book.colour f → IsMarked now.colour f)
    → SpaceStands heap (stepped state number words seat) now
space_stands_after_step heap state book number rule here words seat now leaves weights grants marked = record {
  budgets = budgets_stand_after_step heap state book number words seat now here rule.machine.seated leaves weights grants rule.space.budgets;
  halves = halves_stand_after_step heap state book number words seat now here rule.machine.seated (leaves_places_of_spines heap state.words words leaves) weights.range grants marked rule.space.halves;
}

-- the rule after a seat's step
pub keeps_rule_after_step : (heap : Heap) (state : State) (book : Book) (number : ℕ) (words : List ℕ) (seat : Seat) (now : Book) (added : List Entry)
    → Rule heap state book → number < heap.seats → IsMachine heap (record state { words = words; seats = slice_set state.seats number seat })
    → now.history ≡ book.history ++ added → filter is_collectors added ≡ []
    → HeapStands heap words now → SeatStands heap words now number seat
    → ((r : ℕ) → r < heap.seats → r ≢ number → SeatStands heap state.words book r (seat_at state r) → SeatStands heap words now r (seat_at state r))
    → MarksGoOn heap state book now words seat → SpaceStands heap (stepped state number words seat) now → BookGoesOn heap state book now
    → Keeps heap state (record state { words = words; seats = slice_set state.seats number seat }) book now.begun added
keeps_rule_after_step heap state book number words seat now added rule here machine grown none heap_after self others marks space goes =
    let stand : (r : ℕ) → r < heap.seats → SeatStands heap words now r (slice_index_or (slice_set state.seats number seat) r absent_seat)
    = λ r below. holds_of_each_seat (λ n s. SeatStands heap words now n s) state.seats number seat (subst (λ n. number < n) (sym rule.machine.seated) here) self r
    (λ apart. others r below apart (rule.seats_stand r below)) in
    keeps_rule_by_conjuncts now grown machine heap_after stand (collector_stays heap state.collector book.history added now.history grown none
    (λ r below present. last_answer_within_phase heap words now r (slice_index_or (slice_set state.seats number seat) r absent_seat) (stand r below) present) rule.collector_stands)
    record {
      heap_marks = marks.heap_on;
      roots = λ r below. holds_of_each_seat (λ n s. RootsAreReached heap words now.owner now.colour state.collector s) state.seats number seat (subst (λ n. number < n) (sym rule.machine.seated) here) marks.own_on r
          (λ apart is_marking answered. roots_hold_still (IsReached heap state.words book.owner book.colour) (IsReached heap words now.owner now.colour) (marks.reached_on is_marking) (seat_at state r)
          (rule.marks_stand.roots r below is_marking answered));
    } space goes

-- the rule after a begin, which leaves the words and the others
pub keeps_rule_after_begin : (heap : Heap) (state : State) (book : Book) (number : ℕ) (seat : Seat) (rule : Rule heap state book) (here : number < heap.seats) → IsMachine heap (record state { seats = slice_set state.seats number seat })
    → SeatStands heap state.words (book_begun heap state.words book number) number seat
    → seat.answered ≡ (seat_at state number).answered → SameWeights (seat_at state number) seat → RootsGoOn heap state book rule number here seat
    → Keeps heap state (record state { seats = slice_set state.seats number seat }) book (begins number (length book.history) book.begun) []
keeps_rule_after_begin heap state book number seat rule here machine self same weights roots =
    let begun : Book = book_begun heap state.words book number in
    keeps_rule_after_step heap state book number state.words seat begun [] rule here machine (sym (append-nil book.history)) refl
    (heap_stands_after_begin heap state.words book number rule.heap_stands) self (λ r below apart other. other_seat_stands_after_begin heap state.words book number r (seat_at state r) apart other)
    (marks_go_on heap state book rule number here state.words begun seat (leaves_by_same_sources heap state book rule state.words (same_sources_of_itself heap state.words)) same roots)
    (space_stands_after_step heap state book number rule here state.words seat begun (leaves_spines_of_itself heap state.words) weights (same_grants_recoloured heap book book.colour (begins number (length book.history) book.begun)) (λ f dark. dark))
    (book_goes_on_with_history heap state book book.history (begins number (length book.history) book.begun))
