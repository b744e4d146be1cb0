-- A seat's due step is allowed by the rule: one lemma for every kind of step.
use Rattle.std.proofs.Common.{suc, ◌≡◌, ℕ, ◌<◌, List, [], length, get_or, set, Option, Some, None, refl, sym, ap, subst, ◌∙◌, inl, inr, arith}
use Rattle.std.specs.Prelude.{IsSome, IfSome, option_map}
use Rattle.std.proofs.lemmas.Bool.Decides.{eqb_tells}
use Rattle.std.proofs.lemmas.List.{length-set, get_or-set_same, get_or-set_other, set-get_or, set-set}
use mathlib.Core.Option.{Option as Found, some, some-injective}
use lib.ListN.{get_elem?}
use Rattle.atomic_table.specs.Table.{State as Table, Allows, keeps}
use Rattle.atomic_table.proofs.Lists.{set_here, set_else}
use Rattle.heap_model.specs.declared.heap.Heap.{Heap}
use Rattle.core_machine.specs.declared.point.Point.{Point}
use Rattle.core_machine.specs.declared.point.Point.TheVariants as points
use Rattle.core_machine.specs.declared.step.Step.{Step}
use Rattle.core_machine.specs.declared.table.address.Address.{Address}
use Rattle.core_machine.specs.table.Layout.{index_of, at, put}
use Rattle.core_machine.specs.table.Decode.{FoundPointsWithin}
use Rattle.core_machine.specs.table.Operation.{address_of, word_after}
use Rattle.core_machine.specs.Moves.{Move, next_move, due_step, seat_after, seat_after_due}
use Rattle.core_machine.specs.machine.Machine.{State, seat_at, found_by, Begins, BeginsInner, Steps, state_after, state_after_due, entries}
use Rattle.core_machine.specs.seat.Fits.{Fits}
use Rattle.core_machine.specs.seat.Seat.{Seat, absent_seat}
use Rattle.core_machine.proofs.machine_lemmas.Runs.{due_word_in_table}
use Rattle.core_rule.specs.Book.{Book}
use Rattle.core_rule.specs.runs.Laws.{StandsFor}
use Rattle.core_rule.specs.cycle.Flight.{WhileAccess}
use Rattle.core_rule.specs.told.Found.{TellsFound, EachFoundIsTold}
use Rattle.core_rule.specs.told.Reached.{ReachesOwn, EachReachesOwn, HasReached}
use Rattle.core_rule.specs.Rule.{Rule}
use Rattle.core_rule.specs.Stands.{Stands}
use Rattle.core_rule.specs.told.Told.{IsAsTold, EachSeatIsAsTold}
use Rattle.core_rule.proofs.told.AsTold.{each_seat_is_as_told}
use Rattle.core_rule.proofs.told.FoundWords.{each_found_is_told}
use Rattle.core_rule.proofs.told.ReachedFields.{each_reaches_own}
use Rattle.core_rule.specs.runs.TableLaws.{EachStepHasItsWord}
use Rattle.core_rule.proofs.held.DueWords.{each_step_has_its_word}
use Rattle.core_rule.proofs.runs.KeptRuns.{event_keeps}
use Rattle.heap_table.specs.Begun.{MayHaveBegun, Same, Begun, BegunInner, next_seat, StepHasWord, NextHasWord}
use Rattle.heap_table.specs.Folded.{IsFolded, AllFolded}
use Rattle.heap_table.specs.Holds.{IsSeatOf, IsStateOf, Holds}
use Rattle.heap_table.specs.Told.{ToldAtStep, Tells}
use Rattle.heap_table.specs.Views.{seat_view}
use Rattle.heap_table.specs.declared.view.View.{View}
use Rattle.heap_table.specs.declared.view.View.TheVariants.{Spent}
use Rattle.heap_table.proofs.Knowers.{IsSeats, holder_is_seats, holder_is_not_spent}

-- the state with this seat in its position
abbrev pub with_seat : State → ℕ → Seat → State
with_seat state number seat = record state { seats = set state.seats number seat }

-- some book stands for the state also where the seat has begun a call
pub begun_stands : (heap : Heap) (state : State) (book : Book) (number : ℕ) (old seat : Seat) → Stands heap state book → number < length state.seats
    → seat_at state number ≡ old → MayHaveBegun heap number old seat → (next : Book) × Stands heap (with_seat state number seat) next
begun_stands heap state book number old seat stands there is (Same e) =
    (book, subst (λ (l : List Seat). Stands heap (record state { seats = l }) book) (sym (ap (set state.seats number) (e ∙ sym is) ∙ set-get_or state.seats number absent_seat)) stands)
begun_stands heap state book number old seat stands there is (Begun command may e) =
    let next = event_keeps heap state book (Begins number command) stands (there, rw is may) in
    (next.book, rw (e, ← is) next.stands)
begun_stands heap state book number old seat stands there is (BegunInner inner may e) =
    let next = event_keeps heap state book (BeginsInner number inner) stands (there, rw is may) in
    (next.book, rw (e, ← is) next.stands)

-- by the rule a seat's next step has its word
step_has_word : (heap : Heap) (state : State) (book : Book) (number : ℕ) → Stands heap state book → number < heap.seats → StepHasWord heap number (seat_at state number)
unfolding EachStepHasItsWord
step_has_word heap state book number stands within = each_step_has_its_word heap state book number stands.rule within

-- also where a call is begun first
pub next_step_has_word : (heap : Heap) (state : State) (book : Book) (number : ℕ) (old : Seat) → Stands heap state book → number < length state.seats → number < heap.seats
    → seat_at state number ≡ old → NextHasWord heap number old
next_step_has_word heap state book number old stands there within is seat begun =
    let next = begun_stands heap state book number old seat stands there is begun in
    subst (StepHasWord heap number) (get_or-set_same state.seats number seat absent_seat there)
    (step_has_word heap (with_seat state number seat) next.0 number next.1 within)

-- and tells of the word found
found_at_step : (heap : Heap) (state : State) (book : Book) (number : ℕ) → Stands heap state book → number < heap.seats → (step : Step) → due_step heap number (seat_at state number) ≡ Some step
    → TellsFound heap number (seat_at state number) (found_by heap state step)
unfolding EachFoundIsTold
found_at_step heap state book number stands within step due =
    subst (λ (o : Option Step). IfSome o (λ s. TellsFound heap number (seat_at state number) (found_by heap state s))) due (each_found_is_told heap state book number stands within)

-- the seat's data are what its own list tells
pub state_seat_is_as_told : (heap : Heap) (state : State) (book : Book) (number : ℕ) → Rule heap state book → number < heap.seats → IsAsTold heap number (seat_at state number)
unfolding EachSeatIsAsTold
state_seat_is_as_told heap state book number rule within = each_seat_is_as_told heap state book number rule within

-- and a call on an object has reached its own
reached_so : (heap : Heap) (state : State) (book : Book) (number : ℕ) (seat : Seat) (point : Point) → Stands heap state book → seat_at state number ≡ seat
    → WhileAccess (ReachesOwn heap book number seat) point → WhileAccess (HasReached heap number seat) point
reached_so heap state book number seat (points.Access point) stands here reaches = record { state = state; book = book; stands = stands; here = here; reaches = reaches }
reached_so heap state book number seat point stands here reaches = tt

seat_has_reached : (heap : Heap) (state : State) (book : Book) (number : ℕ) → Stands heap state book → number < heap.seats → WhileAccess (HasReached heap number (seat_at state number)) (seat_at state number).point
unfolding EachReachesOwn
seat_has_reached heap state book number stands within =
    reached_so heap state book number (seat_at state number) (seat_at state number).point stands refl (each_reaches_own heap state book number stands.rule within)

-- a word is read at its place
pub at_is_read_at_index : (heap : Heap) (words : List ℕ) (a : Address) → at heap words a ≡ get_or words (index_of heap a) 0
unfolding at
at_is_read_at_index heap words a = refl

-- what the due step does to the state: one word and the seat change
moved : (heap : Heap) (state : State) (number : ℕ) (seat : Seat) (step : Step) (move : Option Move) → option_map (λ m. m.step) move ≡ Some step
    → (state_after_due heap (with_seat state number seat) number move).words ≡ set state.words (index_of heap (address_of step)) (word_after step (get_or state.words (index_of heap (address_of step)) 0))
    × ((state_after_due heap (with_seat state number seat) number move).seats ≡ set state.seats number (seat_after_due seat move (get_or state.words (index_of heap (address_of step)) 0)))
    × ((state_after_due heap (with_seat state number seat) number move).collector ≡ state.collector)
unfolding at put
moved heap state number seat step None due = cc
moved heap state number seat step (Some move) due =
    let same : move.step ≡ step = cc in
    rw same (refl, set-set state.seats number seat (seat_after move (get_or state.words (index_of heap (address_of step)) 0)), refl)

due_some : (move : Option Move) (step : Step) → option_map (λ m. m.step) move ≡ Some step → IsSome move
due_some None step due = cc
due_some (Some move) step due = refl

-- the state in which one word and this seat's data are others is that of the words and views with the word and the view
state_stepped : (heap : Heap) (table : Table (Unit {0}) View) (number : ℕ) (old : Seat) (holds : Holds heap table) (its : IsSeats heap table (suc number) number old holds)
    (now : State) (index word : ℕ) (seat : Seat) → now.words ≡ set table.words index word → now.seats ≡ set holds.state.seats number seat
    → now.collector ≡ holds.state.collector → number < length holds.state.seats
    → IsStateOf heap (set table.words index word) (set table.views (suc number) (seat_view number seat)) now holds.known
state_stepped heap table number old holds its now index word seat words seats collector there = record {
  words_are = words;
  knows = set_else table.views (suc number) 0 (seat_view number seat) (λ e. omega arith) ∙ holds.is.knows;
  collector_is = collector ∙ holds.is.collector_is;
  counted = length-set table.views (suc number) (seat_view number seat) ∙ holds.is.counted;
  few = holds.is.few;
  seat_slots = holds.is.seat_slots;
  seats_are = λ s below. elim (eqb_tells s number) as (λ _. IsSeatOf heap holds.known.seats s (get_elem? (set table.views (suc number) (seat_view number seat)) (suc s)) (seat_at now s)) [
    | inl here ↦ seat_here s here.1
    | inr other ↦
        subst (λ (v : Found View). IsSeatOf heap holds.known.seats s v (seat_at now s)) (sym (set_else table.views (suc number) (suc s) (seat_view number seat) (λ e. other.1 (omega arith))))
        (subst (IsSeatOf heap holds.known.seats s (get_elem? table.views (suc s))) (sym (ap (λ (l : List Seat). get_or l s absent_seat) seats ∙ get_or-set_other holds.state.seats number s seat absent_seat other.1)) (holds.is.seats_are s below))
  ];
  spent = λ s kept folded. elim (eqb_tells s number) as (λ _. get_elem? (set table.views (suc number) (seat_view number seat)) (suc s) ≡ some Spent) [
    | inl here ↦ absurd (still_viewed (holds.is.spent number kept (subst (λ (n : ℕ). IsFolded holds.known.seats n kept) here.1 folded)))
    | inr other ↦ set_else table.views (suc number) (suc s) (seat_view number seat) (λ e. other.1 (omega arith)) ∙ holds.is.spent s kept folded
  ];
  gone = holds.is.gone;
  closed_are = rw its.unread refl;
  still = λ some_read. absurd (omega (arith, some_read, ap length its.unread));
}
  where
    still_viewed : get_elem? table.views (suc number) ≡ some Spent → ⊥
    still_viewed e = holder_is_not_spent number old (some-injective _ _ (sym e ∙ its.viewed))

    seat_here : (s : ℕ) → s ≡ number → IsSeatOf heap holds.known.seats s (get_elem? (set table.views (suc number) (seat_view number seat)) (suc s)) (seat_at now s)
    seat_here s e =
        subst (λ (v : Found View). IsSeatOf heap holds.known.seats s v (seat_at now s))
        (sym (ap (λ i. get_elem? (set table.views (suc number) (seat_view number seat)) (suc i)) e ∙ set_here table.views (suc number) (seat_view number seat) its.has_view))
        (sym e, sym (ap (λ (l : List Seat). get_or l s absent_seat) seats ∙ ap (λ i. get_or (set holds.state.seats number seat) i absent_seat) e ∙ get_or-set_same holds.state.seats number seat absent_seat there))

-- while this seat has a view, not every one was folded in
not_all : (heap : Heap) (table : Table (Unit {0}) View) (number : ℕ) (old : Seat) (holds : Holds heap table) (its : IsSeats heap table (suc number) number old holds) → AllFolded heap holds.known.seats → ⊥
not_all heap table number old holds its all = holder_is_not_spent number old (some-injective _ _ (sym (holds.is.spent number (all number its.within).0 (all number its.within).1) ∙ its.viewed))

module _ (heap : Heap) (number : ℕ) (old seat : Seat) (step : Step) (ahead : MayHaveBegun heap number old seat) (due : due_step heap number seat ≡ Some step) where
  module _ (table : Table (Unit {0}) View) (holds : Holds heap table) (its : IsSeats heap table (suc number) number old holds) where
    abbrev pub found : ℕ
    found = get_or table.words (index_of heap (address_of step)) 0

    there : number < length holds.state.seats
    there = rw holds.stands.rule.machine.seated its.within

    begun : (next : Book) × Stands heap (with_seat holds.state number seat) next
    begun = begun_stands heap holds.state holds.book number old seat holds.stands there its.seat_is ahead

    here : seat_at (with_seat holds.state number seat) number ≡ seat
    here = get_or-set_same holds.state.seats number seat absent_seat there

    due_here : due_step heap number (seat_at (with_seat holds.state number seat) number) ≡ Some step
    due_here = ap (due_step heap number) here ∙ due

    kept : StandsFor heap (state_after heap (with_seat holds.state number seat) (Steps number)) begun.0.history (entries heap (with_seat holds.state number seat) (Steps number))
    kept = event_keeps heap (with_seat holds.state number seat) begun.0 (Steps number) begun.1
        (due_some (next_move heap number (seat_at (with_seat holds.state number seat) number)) step due_here)

    abbrev now : State
    now = state_after_due heap (with_seat holds.state number seat) number (next_move heap number seat)

    stands : Stands heap (state_after_due heap (with_seat holds.state number seat) number (next_move heap number seat)) kept.book
    stands = subst (λ (s : State). Stands heap s kept.book)
        (ap (λ (s : Seat). state_after_due heap (with_seat holds.state number seat) number (next_move heap number s)) here) kept.stands

    words_now : now.words ≡ set table.words (index_of heap (address_of step)) (word_after step found)
    words_now = (moved heap holds.state number seat step (next_move heap number seat) due).0
        ∙ ap (λ (l : List ℕ). set l (index_of heap (address_of step)) (word_after step (get_or l (index_of heap (address_of step)) 0))) holds.is.words_are

    seats_now : now.seats ≡ set holds.state.seats number (next_seat heap number seat found)
    seats_now = (moved heap holds.state number seat step (next_move heap number seat) due).1
        ∙ ap (λ (l : List ℕ). set holds.state.seats number (next_seat heap number seat (get_or l (index_of heap (address_of step)) 0))) holds.is.words_are

    seat_now : seat_at now number ≡ next_seat heap number seat found
    seat_now = ap (λ (l : List Seat). get_or l number absent_seat) seats_now
        ∙ get_or-set_same holds.state.seats number (next_seat heap number seat found) absent_seat there

    there_now : number < length now.seats
    there_now = rw seats_now (omega (arith, there, length-set holds.state.seats number (next_seat heap number seat found)))

    -- the rule goes on
    pub holds_stepped : Holds heap (record {
      words = set table.words (index_of heap (address_of step)) (word_after step found);
      homes = table.homes;
      views = set table.views (suc number) (seat_view number (next_seat heap number seat found));
    })
    holds_stepped = record {
      state = now;
      known = holds.known;
      book = kept.book;
      is = state_stepped heap table number old holds its now (index_of heap (address_of step)) (word_after step found) (next_seat heap number seat found) words_now seats_now
          (moved heap holds.state number seat step (next_move heap number seat) due).2 there;
      stands = stands;
      late = λ all. absurd (not_all heap table number old holds its all);
    }

    -- and tells what it tells of the word found
    pub told_stepped : ToldAtStep heap number seat found
    told_stepped =
        let led = (due_word_in_table heap (with_seat holds.state number seat) number step begun.1.rule.machine (omega (arith, there, length-set holds.state.seats number seat)) due_here).1 in
        let is : found_by heap (with_seat holds.state number seat) step ≡ found =
        at_is_read_at_index heap holds.state.words (address_of step) ∙ ap (λ (l : List ℕ). get_or l (index_of heap (address_of step)) 0) holds.is.words_are in
        record {
          leads = subst (λ (n : ℕ). IfSome (next_move heap number seat) (λ m. FoundPointsWithin heap (address_of m.step) n)) is
              (subst (λ (s : Seat). IfSome (next_move heap number s) (λ m. FoundPointsWithin heap (address_of m.step) (found_by heap (with_seat holds.state number seat) step))) here led);
          fits = subst (Fits heap) seat_now (stands.rule.machine.fit number there_now);
          has_word = next_step_has_word heap now kept.book number (next_seat heap number seat found) stands there_now its.within seat_now;
          tells = subst (TellsFound heap number seat) is (subst (λ (s : Seat). TellsFound heap number s (found_by heap (with_seat holds.state number seat) step)) here
              (found_at_step heap (with_seat holds.state number seat) begun.0 number begun.1 its.within step due_here));
          own = subst (IsAsTold heap number) seat_now (state_seat_is_as_told heap now kept.book number stands.rule its.within);
          comes = subst (λ (s : Seat). WhileAccess (HasReached heap number s) s.point) seat_now (seat_has_reached heap now kept.book number stands its.within);
        }

  pub rule_allows_seat_step : (id : ℕ) → Allows (Holds heap) 0 id (seat_view number old, []) (index_of heap (address_of step)) (word_after step)
      (Tells (λ n. seat_view number (next_seat heap number seat n)) (ToldAtStep heap number seat) (seat_view number old, []))
  rule_allows_seat_step id table holds none_home at_ small =
      let first = holder_is_seats heap table id number old holds at_ in
      let its = subst (λ (i : ℕ). IsSeats heap table i number old holds) first.id_is first in
      let n = get_or table.words (index_of heap (address_of step)) 0 in (
        seat_view number (next_seat heap number seat n),
        keeps,
        tt,
        subst (λ (i : ℕ). Holds heap (record { words = set table.words (index_of heap (address_of step)) (word_after step n); homes = table.homes; views = set table.views i (seat_view number (next_seat heap number seat n)) }))
            (sym first.id_is) (holds_stepped table holds its),
        (refl, told_stepped table holds its),
      )
