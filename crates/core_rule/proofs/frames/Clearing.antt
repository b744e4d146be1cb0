-- What stands of the heap and of each seat when a group's marks are cleared.
use Rattle.std.proofs.Common.{◌≡◌, ◌≢◌, ℕ, ◌%◌, ◌<◌, Bool, true, false, List, length, bit_and, refl, ap, ◌∙◌, arith}
use Rattle.core_rule.proofs.Terms.{cycle_phases, Heap, graph_of, phase, Point, Control, State, seat_at, IsAtRest, Seat, tally, at, put, Book, Colour, Coloured, BornColours}
use Rattle.core_rule.proofs.Terms.{RootsStand, WhilePolling, node_at, Borne, AnswerStands, Rule, HeapStands, SeatStands}
use Rattle.heap_model.specs.PhasePlan.{clearing as clearing_phase, marking as marking_phase}
use Rattle.core_machine.specs.declared.point.Point.TheVariants as points
use Rattle.core_machine.specs.declared.point.Polling.TheVariants.{Asking, Shading, Answering}
use Rattle.core_machine.specs.table.Operation.{marks_cleared}
use Rattle.core_rule.proofs.frames.SeatFrames.{names_stand_with_words}
use Rattle.core_rule.proofs.cycle.CycleFrames.{answers_agree_still}
use Rattle.core_rule.proofs.cycle.MakingCycle.{phase_same_after_control, answer_same_after_control}
use Rattle.core_rule.proofs.entries.AtRest.{seat_fits}
use Rattle.core_rule.proofs.hand.StoredFrames.{is_stored_after_control}
use Rattle.core_rule.proofs.marking.Marks.{each_seat_answered_phase}
use Rattle.core_rule.proofs.objects.ObjectFrames.{objects_after_control}
use Rattle.core_rule.proofs.owners.Seated.{borne_is_in_seat_body}
use Rattle.core_rule.proofs.spines.OtherWords.{LeavesSpines, leaves_spines_after_control}
use Rattle.core_rule.proofs.spines.SpineFrames.{spines_stand_with_words, spine_in_hand_with_words}
use Rattle.core_rule.proofs.words.SweepWords.{cleared_in, white_stays_when_cleared, marks_after_clearing, bits_after_clearing}
use Rattle.core_rule.proofs.dying.DeadWords.{dead_stay_after_control}

-- in the last phase nobody is about to answer that marking begins
nobody_marks : (now answer : ℕ) (colour : ℕ → Colour) (seat : Seat) → now % cycle_phases ≡ clearing_phase → seat.asked % cycle_phases ≡ marking_phase → (point : Point) → AnswerStands now answer seat.asked point
    → WhilePolling (RootsStand colour seat) point
nobody_marks now answer colour seat last begins (points.Polling Asking) asks = tt
nobody_marks now answer colour seat last begins (points.Polling Shading) asks = absurd (omega (arith, asks.now, begins, last))
nobody_marks now answer colour seat last begins (points.Polling Answering) asks = absurd (omega (arith, asks.now, begins, last))
nobody_marks now answer colour seat last begins _ asks = tt

module _ (heap : Heap) (state : State) (book : Book) (rule : Rule heap state book) (g : ℕ) (below : g < heap.groups) where
  abbrev word : ℕ
  word = bit_and (at heap state.words (Control g)) marks_cleared

  abbrev pub words_cleared : List ℕ
  words_cleared = put heap state.words (Control g) word

  abbrev colour : ℕ → Colour
  colour = cleared_in g book.colour

  -- the book after it
  abbrev pub book_cleared : Book
  book_cleared = record book { colour = colour }

  -- the spine words and the budget are as before
  pub leaves_spines_after_clearing : LeavesSpines heap state.words words_cleared
  leaves_spines_after_clearing = leaves_spines_after_control heap state.words word g below

  module _ (last : phase book.history % cycle_phases ≡ clearing_phase) where
    -- what is marked then was, and is born; of the last phase nothing else is said
    coloured : Coloured heap words_cleared book.owner colour book.fragments (phase book.history)
    coloured = record {
      rest = λ rests. absurd (omega (arith, rests, last));
      early = λ first. absurd (omega (arith, first, last));
      born = λ f marked. rule.heap_stands.cycle.coloured.born f (λ white. marked (white_stays_when_cleared g book.colour f white));
      black = λ making. absurd (omega (arith, making.upto, last));
      first = λ making. absurd (omega (arith, making.upto, last));
    }

    -- the heap stands
    pub heap_stands_after_clearing : HeapStands heap words_cleared book_cleared
    heap_stands_after_clearing = let old = rule.heap_stands in record {
      control_words = bits_after_clearing heap state.words g rule.machine.table below book.owner old.control_words;
      owners = old.owners;
      ids = old.ids;
      objects = objects_after_control heap state.words (graph_of heap book.history) book.made book.owner book.fragments book.spines g word below old.objects;
      spines = spines_stand_with_words heap state.words words_cleared leaves_spines_after_clearing heap.seats (length book.made) book.spines book.fragments book.spine_owner
          (node_at (graph_of heap book.history) book.made) book.owner (dead_stay_after_control heap state.words book.owner book.owner g word below (λ f i k is. is)) old.spines;
      used = old.used;
      cycle = record {
        word = phase_same_after_control heap state.words word g ∙ old.cycle.word;
        marks = marks_after_clearing heap state.words g rule.machine.table below book.colour old.cycle.marks;
        coloured = coloured;
      };
      legal = old.legal;
    }

    module _ (all : state.collector.looked ≡ heap.seats) where
      -- a seat that has left has borne nothing
      gone_bears_none : (r f : ℕ) → (seat_at state r).left ≡ true → book.owner f ≢ Borne r
      gone_bears_none r f left borne =
          let there = borne_is_in_seat_body heap state book rule r f borne in
          let idle = ((seat_fits rule r there.0).gone left).idle in
          let rest : IsAtRest (seat_at state r) = rw idle at (seat_fits rule r there.0).at_point in
          let bare : tally f (seat_at state r).body ≡ 0 = ap (tally f) rest.no_body in
          omega (arith, bare, there.1)

      -- another one has answered the last phase, so what it has borne is white, and stays so
      births : (r : ℕ) → r < heap.seats → BornColours book.owner colour r (seat_at state r).answered
      births r under = by (seat_at state r).left refl
        where
          by : (left : Bool) → (seat_at state r).left ≡ left → BornColours book.owner colour r (seat_at state r).answered
          by true left = record { dark = λ between f borne. absurd (gone_bears_none r f left borne); light = λ apart f borne. absurd (gone_bears_none r f left borne) }
          by false present =
              let answered = each_seat_answered_phase heap state book rule all r under present in
              record {
                dark = λ between. absurd (omega (arith, between.upto, answered, rule.collector_stands.phase_told, last));
                light = λ apart f borne. white_stays_when_cleared g book.colour f ((rule.seats_stand r under).cycle.births.light apart f borne);
              }

      -- so each seat stands
      pub seat_stands_after_clearing : (r : ℕ) → r < heap.seats → SeatStands heap state.words book r (seat_at state r) → SeatStands heap words_cleared book_cleared r (seat_at state r)
      seat_stands_after_clearing r under stands = record {
        own = record { holding = stands.own.holding; stored = is_stored_after_control heap state.words r (seat_at state r) g word below stands.own.stored; together = stands.own.together; spine = spine_in_hand_with_words heap state.words words_cleared book.spine_owner r (seat_at state r) leaves_spines_after_clearing stands.own.spine };
        names = names_stand_with_words heap state.words words_cleared leaves_spines_after_clearing.spines (graph_of heap book.history) book.made book.owner book.fragments book.spines book.spine_owner r (seat_at state r) stands.names;
        told = stands.told;
        cycle = record {
          answers_told = answers_agree_still heap state.words words_cleared (phase book.history) _ _ r (seat_at state r) (seat_at state r) record { answered = refl; left = refl; asked = refl }
              (answer_same_after_control heap state.words word g r (omega (arith, under, rule.machine.limits.seats_fit))) stands.cycle.answers_told;
          answer = stands.cycle.answer;
          flight = record {
            set = λ making. absurd (omega (arith, making.upto, last));
            shaded = λ making. absurd (omega (arith, making.upto, last));
            roots = λ begins. nobody_marks (phase book.history) (seat_at state r).answered colour (seat_at state r) last begins (seat_at state r).point stands.cycle.answer;
          };
          births = births r under;
        };
      }
