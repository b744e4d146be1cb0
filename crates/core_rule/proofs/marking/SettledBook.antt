-- The rule's conjuncts for the book once marking has ended.
use Rattle.std.proofs.Common.{◌≡◌, ◌≢◌, ℕ, ◌<◌, ◌≤◌, ◌%◌, Bool, true, false, length, drop, inl, inr, refl, sym, ap, ◌∙◌, subst, arith}
use Rattle.core_rule.proofs.Terms.{cycle_phases, Heap, graph_of, phase, IsMarking, State, seat_at, IsAtRest, Seat, tally, Book, White, Grey, AfterMarking, MarkingStands, Owner}
use Rattle.core_rule.proofs.Terms.{Borne, Kept, Dead, IsSeated, IsBoards, taken_bit, free_bit, born_bit, holds_bit, bears_bit, IsWhite, node_at, Rule, HeapStands, SeatStands}
use Rattle.core_rule.proofs.Terms.{HasMarked}
use Rattle.heap_model.specs.PhasePlan.{marking as marking_phase}
use Rattle.core_machine.specs.declared.collector.stage.Stage.TheVariants as stages
use Rattle.core_rule.proofs.colours.Births.{born_colours_stay}
use Rattle.core_rule.proofs.counts.CountMoves.{used_where_same_taken}
use Rattle.core_rule.proofs.cycle.CycleFrames.{coloured_stays}
use Rattle.core_rule.proofs.entries.AtRest.{seat_fits}
use Rattle.core_rule.proofs.gather.GatherMoves.{gathers_right_where_same_free}
use Rattle.core_rule.proofs.hand.HandMoves.{holding_stays}
use Rattle.core_rule.proofs.owners.Seated.{borne_is_in_seat_body}
use Rattle.core_rule.proofs.marking.Marks.{nothing_is_dead}
use Rattle.core_rule.proofs.dying.DyingWords.{settled_book, spines_stand_after_settling, spine_in_hand_after_settling, address_stands_after_settling}
use Rattle.core_rule.proofs.roots.SeatRoots.{seat_answered_the_phase, all_roots_are_marked, loaded_is_marked}
use Rattle.core_rule.proofs.marking.Settled.{settled_owner, holds_of_settled_owner, settled_bit_same, settled_kept_was_marked, settled_dead_was_or_white, settled_borne_was_borne, settled_white_is_dead}
use Rattle.core_rule.proofs.marking.SettledObjects.{objects_after_settling}
use Rattle.core_rule.proofs.marking.SettledSeats.{holds_value_after_settling, way_stands_after_settling, awaits_after_settling}
use Rattle.core_rule.proofs.marking.ObjectEdges.{kept_tells_spine_words}

module _ (heap : Heap) (state : State) (book : Book) (rule : Rule heap state book) (marks : IsMarking heap.seats state.collector.phase state.collector.looked)
    (goes_on : ¬ HasMarked state.collector.stage) (none : (f : ℕ) → book.colour f ≢ Grey) where
  abbrev now : Book
  now = settled_book book

  third : phase book.history % cycle_phases ≡ marking_phase
  third = let told = marks.for_marking in let same = rule.collector_stands.phase_told in omega (arith, told, same)

  -- a fact that tells no kept fragment from one that is to be freed stays
  same : (bit : Owner → ℕ) → ((i k : ℕ) → bit (Dead i k) ≡ bit (Kept i k)) → (f : ℕ) → bit (now.owner f) ≡ bit (book.owner f)
  same bit alike f = settled_bit_same bit alike (book.owner f) (book.colour f)

  -- the heap stands
  pub heap_stands_after_settling : HeapStands heap state.words now
  heap_stands_after_settling =
      let stands = rule.heap_stands in
      record {
        control_words = record {
          taken = λ f within. stands.control_words.taken f within ∙ sym (same taken_bit (λ i k. refl) f);
          born = λ f within. stands.control_words.born f within ∙ sym (same born_bit (λ i k. refl) f);
          outside = λ f past. ap (λ o. settled_owner o (book.colour f)) (stands.control_words.outside f past);
        };
        owners = record {
          seated = λ f. holds_of_settled_owner (IsSeated heap.seats) (λ i k seated. seated) (book.owner f) (book.colour f) (stands.owners.seated f);
          board = holds_of_settled_owner IsBoards (λ i k boards. boards) (book.owner 0) (book.colour 0) stands.owners.board;
        };
        ids = stands.ids;
        objects = objects_after_settling heap state book rule third none;
        spines = spines_stand_after_settling heap state.words book.owner book.colour book.fragments book.spine_owner heap.seats (length book.made) (node_at (graph_of heap book.history) book.made) book.spines
            (kept_tells_spine_words heap state book rule) stands.spines;
        used = used_where_same_taken heap book.owner now.owner book.history (same taken_bit (λ i k. refl)) stands.used;
        cycle = record {
          word = stands.cycle.word;
          marks = stands.cycle.marks;
          coloured = coloured_stays heap state.words state.words book.owner now.owner book.colour book.fragments (phase book.history) (λ making f part g born leads. inl leads)
              (λ f marked born. same born_bit (λ i k. refl) f ∙ born) (λ f i k is. (settled_kept_was_marked (book.owner f) (book.colour f) i k is).0) stands.cycle.coloured;
        };
        legal = stands.legal;
      }

  -- and each seat
  pub seat_stands_after_settling : (number : ℕ) → number < heap.seats → SeatStands heap state.words book number (seat_at state number) → SeatStands heap state.words now number (seat_at state number)
  seat_stands_after_settling number here stands =
      let seat : Seat = seat_at state number in
      let roots = all_roots_are_marked heap state book rule marks goes_on none number here in
      let loaded = loaded_is_marked heap state book rule marks goes_on none number here in
      record {
        own = record {
          holding = holding_stays book.owner now.owner number seat.reserve seat.hand seat.body
              record { held = same (holds_bit number) (λ i k. refl); borne = same (bears_bit number) (λ i k. refl) } stands.own.holding;
          stored = stands.own.stored;
          together = stands.own.together;
          spine = spine_in_hand_after_settling heap state.words book.owner book.colour book.fragments book.spine_owner number seat stands.own.spine;
        };
        names = record {
          registers = λ r awake. holds_value_after_settling book.made book.owner book.colour book.fragments _ _ (roots.registers r) (stands.names.registers r awake);
          way = way_stands_after_settling book.made book.owner book.colour book.fragments seat roots.registers loaded (node_at (graph_of heap book.history) book.made) seat.point stands.names.way;
          address = address_stands_after_settling heap state.words book.owner book.colour book.fragments book.spine_owner (node_at (graph_of heap book.history) book.made) book.spines seat seat.point stands.names.address;
        };
        told = record {
          list = record {
            awaited = stands.told.list.awaited;
            own = stands.told.list.own;
            awaits = awaits_after_settling book.made book.owner book.colour book.fragments seat roots.registers loaded (graph_of heap book.history) number seat.point stands.told.list.awaited stands.told.list.awaits;
          };
          counts = stands.told.counts;
          began = stands.told.began;
          gathers = gathers_right_where_same_free heap book.owner now.owner number (drop (book.begun number) book.history) seat.cursor seat.tried seat.given (same free_bit (λ i k. refl)) stands.told.gathers;
          used = stands.told.used;
        };
        cycle = record {
          answers_told = stands.cycle.answers_told;
          answer = stands.cycle.answer;
          flight = stands.cycle.flight;
          births = born_colours_stay book.owner now.owner book.colour book.colour number seat.answered (λ f borne. (settled_borne_was_borne (book.owner f) (book.colour f) number borne, refl)) stands.cycle.births;
        };
      }

  -- no seat has borne a white fragment
  borne_dark : (f number : ℕ) → book.colour f ≡ White → book.owner f ≢ Borne number
  borne_dark f number white borne = by (seat_at state number).left refl
    where
      there : (number < heap.seats) × (1 ≤ tally f (seat_at state number).body)
      there = borne_is_in_seat_body heap state book rule number f borne

      by : (left : Bool) → (seat_at state number).left ≡ left → ⊥
      by true left =
          let idle = ((seat_fits rule number there.0).gone left).idle in
          let rest : IsAtRest (seat_at state number) = rw idle at (seat_fits rule number there.0).at_point in
          let bare : tally f (seat_at state number).body ≡ 0 = ap (tally f) rest.no_body in
          omega (arith, bare, there.1)
      by false present =
          let answered = seat_answered_the_phase heap state book rule marks goes_on none number there.0 present in
          let dark = (rule.seats_stand number there.0).cycle.births.dark (record { from = omega (arith, answered, third); upto = omega (arith, answered, third) }) f borne in
          absurd (cc (dark, white))

  white_is_dead : (f : ℕ) → IsWhite now.owner book.colour f → (i : ℕ) × (k : ℕ) × (now.owner f ≡ Dead i k)
  white_is_dead f white =
      subst (λ c. born_bit (settled_owner (book.owner f) c) ≡ 1 → (i : ℕ) × (k : ℕ) × (settled_owner (book.owner f) c ≡ Dead i k)) (sym white.unmarked)
      (settled_white_is_dead (book.owner f) (λ number. borne_dark f number white.unmarked)) white.born

  -- what is white is to be freed, and nothing else
  after_settles : AfterMarking now.owner book.colour
  after_settles = record {
    no_grey = none;
    white_dead = white_is_dead;
    dead_white = λ f i k is. elim (settled_dead_was_or_white (book.owner f) (book.colour f) i k is) as (λ _. book.colour f ≡ White) [
      | inl before ↦ absurd (nothing_is_dead heap state book rule marks.for_marking goes_on f i k before)
      | inr white ↦ white
    ];
  }

  pub marking_stands_after_settling : MarkingStands heap state.words now.owner book.colour book.fragments state.collector.phase stages.Flipping
  marking_stands_after_settling = record {
    grey = λ f grey. absurd (none f grey);
    scan = tt;
    few = tt;
    pass = tt;
    sweep_stands = tt;
    alive = λ going. absurd (going (inl (marks.for_marking, tt)));
    after = λ ended. after_settles;
  }
