-- A seat that answers a phase in which marking begins has marked the object of each of its registers.
use Rattle.std.specs.List.{AllByRecursion}
use Rattle.std.proofs.Common.{◌≡◌, ℕ, ◌%◌, true, List, [], ◌∷◌, All, subst}
use Rattle.std.proofs.lemmas.List.Elements.{All-nil, All-cons}
use Rattle.core_rule.proofs.Terms.{Entry, Said, Answers, Heap, cycle_phases, marking, State, seat_at, Begins, BeginsInner, Steps, Turns, entries, Colour, IsRootMarked, RootsStand}
use Rattle.core_rule.proofs.Terms.{WhilePolling, HasMarkedRoots, EachAnswerIsMarked}
use Rattle.heap_model.specs.declared.reply.Reply.TheVariants.{Phase}
use Rattle.heap_model.specs.account.Noting.{is_collectors}
use Rattle.core_machine.specs.declared.point.Point.TheVariants as points
use Rattle.core_machine.specs.declared.point.Polling.TheVariants.{Answering}
use Rattle.core_machine.specs.seat.HandshakeMoves.{phase_told}
use Rattle.core_rule.proofs.entries.PhasesTold.{told_cases}
use Rattle.core_rule.proofs.steps.Seats.{step_kind_of_each_point}
use Rattle.core_rule.proofs.entries.StepTells.{SeatTells, SeatShows, takes, gives, says, refuses, refuses_words, waits, shows_none, shows_one, shows_answer}
use Rattle.core_rule.proofs.runs.ComingTurns.{turn_adds_collector_entries}
use Rattle.core_rule.proofs.runs.Runs.{stepping_seat_is_there}

module _ (heap : Heap) (state : State) (colour : ℕ → Colour) where
  abbrev AreMarked : List Entry → Type 0
  AreMarked entries = All (HasMarkedRoots state colour) entries

  none_marked : AreMarked []
  none_marked = All-nil (HasMarkedRoots state colour)

  one_marked : (entry : Entry) → HasMarkedRoots state colour entry → AreMarked (entry ∷ [])
  one_marked entry marked = All-cons (HasMarkedRoots state colour) entry [] marked none_marked

  module _ (number : ℕ) (at_answer : (seat_at state number).point ≡ points.Polling Answering → (seat_at state number).asked % cycle_phases ≡ marking → (r : ℕ) → IsRootMarked colour (seat_at state number).registers r) where
    -- an entry that is no answer asks for nothing
    told_marked : (entry : Entry) → SeatTells number (seat_at state number) (seat_at state number).point entry → AreMarked (entry ∷ [])
    told_marked _ (takes count) = one_marked _ tt
    told_marked _ (gives count) = one_marked _ tt
    told_marked _ (says reply plain) = one_marked _ tt
    told_marked _ (refuses is) = one_marked _ tt
    told_marked _ (refuses_words is) = one_marked _ tt
    told_marked _ (waits other answered p is) = one_marked _ tt

    -- what a step shows
    shown_marked : (added : List Entry) → SeatShows number (seat_at state number) (seat_at state number).point added → AreMarked added
    shown_marked _ shows_none = none_marked
    shown_marked _ (shows_one entry tells) = told_marked entry tells
    shown_marked _ (shows_answer is) =
        All-cons (HasMarkedRoots state colour) (Answers number (seat_at state number).asked) (phase_told number (seat_at state number).command (seat_at state number).asked) (at_answer is)
        (told_cases AreMarked number (seat_at state number).command (seat_at state number).asked none_marked (one_marked (Said number (seat_at state number).command (Phase (seat_at state number).asked)) tt))

  -- what the collector adds is no answer
  collectors_marked : (added : List Entry) → AllByRecursion (λ entry. is_collectors entry ≡ true) added → AreMarked added
  collectors_marked [] its = none_marked
  collectors_marked (entry ∷ added) its = All-cons (HasMarkedRoots state colour) entry added (by entry its.0) (collectors_marked added its.1)
    where
      by : (one : Entry) → is_collectors one ≡ true → HasMarkedRoots state colour one
      by (Answers number p) its = absurd (cc its)
      by _ its = tt

pub each_answer_is_marked : EachAnswerIsMarked
each_answer_is_marked heap state book (Begins number command) rule can = none_marked heap state book.colour
each_answer_is_marked heap state book (BeginsInner number inner) rule can = none_marked heap state book.colour
each_answer_is_marked heap state book (Steps number) rule can =
    let stands = rule.seats_stand number (stepping_seat_is_there heap state book number rule can) in
    shown_marked heap state book.colour number
    (λ point_is. subst (λ point. (seat_at state number).asked % cycle_phases ≡ marking → WhilePolling (RootsStand book.colour (seat_at state number)) point) point_is stands.cycle.flight.roots)
    (entries heap state (Steps number)) ((step_kind_of_each_point (seat_at state number).point).shows heap state number)
each_answer_is_marked heap state book Turns rule can = collectors_marked heap state book.colour (entries heap state Turns) (turn_adds_collector_entries heap state)
