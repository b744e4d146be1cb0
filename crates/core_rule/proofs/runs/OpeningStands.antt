-- The rule holds when a heap opens.
use Rattle.std.proofs.Common.{◌≡◌, ◌≢◌, ℕ, zero, suc, ◌+◌, ◌%◌, ◌^◌, ◌<◌, inl, List, [], ◌∷◌, length, map, get_or, replicate, refl, sym, ap, ◌∙◌, subst, arith, inr}
use Rattle.std.proofs.lemmas.Bool.{lt-ltb}
use Rattle.std.proofs.lemmas.List.Elements.{All-replicate}
use Rattle.std.proofs.lemmas.List.FromFn.{get_or-map-range_with_len}
use Rattle.core_rule.proofs.Terms.{cycle_phases, Heap, Value, opening, Budget, Register, Collector, at, State, seat_at, Seat, absent_seat, IsMachine, White, StandsFor, unset}
use Rattle.core_rule.proofs.Terms.{MarkingStands, IsSettled, Dead, holds_bit, bears_bit, CollectorAgrees, Registers, Rule, SeatStands}
use Rattle.heap_model.specs.PhasePlan.{marking as marking_phase}
use Rattle.heap_model.specs.declared.graph.cell.Cell.{Cell}
use Rattle.heap_model.specs.declared.id.Id.TheVariants as ids
use Rattle.heap_model.specs.declared.id.Value.TheVariants as values
use Rattle.heap_model.specs.Heap.{IsHeap}
use Rattle.heap_model.specs.graph.Graph.{GraphSeat, unseen}
use Rattle.core_machine.specs.declared.table.address.Address.TheVariants.{Answer, Phase, Spot}
use Rattle.core_machine.specs.declared.point.Point.TheVariants as points
use Rattle.core_machine.specs.declared.seat.register.Register.TheVariants as registers
use Rattle.core_machine.specs.declared.collector.stage.Stage.TheVariants as stages
use Rattle.core_machine.specs.machine.Opening.{IsOpening, opening_seat, opening_word}
use Rattle.core_machine.proofs.machine_lemmas.OpeningMachine.{opening_is_machine}
use Rattle.core_rule.specs.graph.Registers as regs
use Rattle.core_rule.specs.looks.Looks.{LooksStand}
use Rattle.core_rule.proofs.hand.EmptyHand.{together_where_empty}
use Rattle.core_rule.proofs.gather.GatherMoves.{gathers_right_untried}
use Rattle.heap_model.proofs.graph_changes.GraphRegisters.{opening_graph_has_opening_seats}
use Rattle.core_rule.proofs.runs.OpeningObjects.{opening_made, opening_fragments, opening_are_made, opening_bits, opening_marks, opening_objects}
pub use Rattle.core_rule.proofs.runs.OpeningSpines.{opening_book}
use Rattle.core_rule.proofs.runs.OpeningSpines.{opening_spine_in_hand, opening_spines_stand, opening_budgets_stand, opening_halves_stand}
use Rattle.core_rule.proofs.runs.OpeningOwners.{opening_owner, opening_owner_cases, opening_owners_stand, opening_used, board_fragment_is_number, opening_keeps_board}

abbrev Now : Heap → Register → Value → Type 0
Now heap held value = regs.HoldsValue opening_made (opening_owner heap) (opening_fragments heap) held value

nil_registers : (heap : Heap) (n r : ℕ) → Now heap (get_or (replicate n registers.Nil) r registers.Nil) (get_or (replicate n unset) r unset).value
nil_registers heap zero r = refl
nil_registers heap (suc n) zero = refl
nil_registers heap (suc n) (suc r) = nil_registers heap n r

opening_held : (heap : Heap) (r : ℕ) → Now heap (get_or (registers.Object 0 ids.Board ∷ replicate 15 registers.Nil) r registers.Nil) (get_or (unseen (values.Object ids.Board) ∷ replicate 15 unset) r unset).value
opening_held heap zero = (refl, (omega arith, opening_keeps_board heap), sym (board_fragment_is_number heap 0 (omega arith)))
opening_held heap (suc r) = nil_registers heap 15 r

opening_registers : (heap : Heap) (number : ℕ) → number < heap.seats → Registers (opening heap) opening_made (opening_owner heap) (opening_fragments heap) number (opening_seat heap number).registers points.Idle 0
opening_registers heap number below r fresh = subst (λ (p : GraphSeat). Now heap (get_or (opening_seat heap number).registers r registers.Nil) (get_or p.registers r unset).value) (sym (opening_graph_has_opening_seats heap number below)) (opening_held heap r)

-- no seat has answered
opening_answer : (heap : Heap) (number : ℕ) → number < heap.seats → opening_word heap (Answer number) ≡ 0
opening_answer heap number below = rw (lt-ltb number heap.seats below) refl

-- a seat stands
opening_seat_stands : (heap : Heap) (words : List ℕ) (number : ℕ) → number < heap.seats → at heap words (Answer number) ≡ 0
    → SeatStands heap words (opening_book heap) number (opening_seat heap number)
opening_seat_stands heap words number below none_answered = record {
  own = record {
    holding = record {
      held = λ f. opening_owner_cases heap (λ o. 0 ≡ holds_bit number o) f (λ less. refl) (λ past. refl);
      borne = λ f. opening_owner_cases heap (λ o. 0 ≡ 0 + bears_bit number o) f (λ less. refl) (λ past. refl);
    };
    stored = λ u none. absurd (omega (arith, none));
    together = together_where_empty heap (opening_seat heap number).cursor 0 [] [] refl refl;
    spine = opening_spine_in_hand heap words number;
  };
  names = record { registers = opening_registers heap number below; way = tt; address = tt };
  told = record {
    list = record { awaited = []; own = refl; awaits = refl };
    counts = record {
      numbered = ap (λ (p : GraphSeat). length p.objects) (sym (opening_graph_has_opening_seats heap number below));
      stamped = ap (λ (p : GraphSeat). p.sets) (sym (opening_graph_has_opening_seats heap number below));
      seen = record { stamps = ap (λ (p : GraphSeat). map (λ (cell : Cell). cell.stamp) p.registers) (sym (opening_graph_has_opening_seats heap number below)); small = All-replicate (λ stamp. stamp < 2 ^ 32) 16 0 (omega arith) };
      leaves = ap (λ (p : GraphSeat). p.left) (opening_graph_has_opening_seats heap number below);
      unborn = refl;
    };
    began = record { earlier = omega arith; unanswered = λ busy. refl };
    gathers = gathers_right_untried heap (opening_owner heap) number [] (opening_seat heap number).cursor;
    used = tt;
  };
  cycle = record {
    answers_told = record { told = refl; leaves = refl; word = none_answered; near = λ present. inl refl; loaded = omega arith };
    answer = tt;
    flight = record { set = λ marking snapped. tt; shaded = λ marking. tt; roots = λ begins. tt };
    births = record { dark = λ between f borne. absurd (omega (arith, between.from)); light = λ apart f borne. refl };
  };
}

pub seat_at_opening : (heap : Heap) (state : State) (number : ℕ) → IsOpening heap state → number < heap.seats → seat_at state number ≡ opening_seat heap number
seat_at_opening heap state number opens below = ap (λ seats. get_or seats number absent_seat) opens.seats_open ∙ get_or-map-range_with_len (opening_seat heap) 0 heap.seats number number absent_seat below (omega arith)

-- the opening book stands for an opening state
opening_rule : (heap : Heap) (state : State) → IsHeap heap → IsMachine heap state → IsOpening heap state → Rule heap state (opening_book heap)
opening_rule heap state fits machine opens = record {
  machine = machine;
  heap_stands = record {
    control_words = opening_bits heap state.words fits opens.words_open;
    owners = opening_owners_stand heap;
    ids = opening_are_made heap;
    objects = opening_objects heap state.words fits opens.words_open;
    spines = opening_spines_stand heap state.words (opens.words_open Spot tt) heap.seats;
    used = opening_used heap fits;
    legal = record { objects = tt; space = tt };
    cycle = record {
      word = opens.words_open Phase tt;
      marks = opening_marks heap state.words fits opens.words_open;
      coloured = record {
        rest = λ rests f. refl;
        early = λ one f black. absurd (cc);
        born = λ f marked. absurd (marked refl);
        black = λ marking f part g black leads. absurd (cc);
        first = λ marking f i k keeps marked. marked;
      };
    };
  };
  seats_stand = λ number below. subst (λ (s : Seat). SeatStands heap state.words (opening_book heap) number s) (sym (seat_at_opening heap state number opens below))
      (opening_seat_stands heap state.words number below
      (opens.words_open (Answer number) (omega (arith, below, fits.seats_fit)) ∙ opening_answer heap number below));
  collector_stands = subst (λ (c : Collector). CollectorAgrees heap c []) (sym opens.nothing_done)
      record { log = refl; phase_told = refl; looked = λ number less. absurd (omega (arith, less)) };
  marks_stand = record {
    heap_marks = subst (λ (c : Collector). MarkingStands heap state.words (opening_owner heap) (λ f. White) (opening_fragments heap) c.phase c.stage) (sym opens.nothing_done) record {
      grey = λ f grey. absurd (cc);
      scan = tt;
      few = tt;
      pass = tt;
      sweep_stands = tt;
      alive = λ goes_on f i k. opening_owner_cases heap (λ o. o ≢ Dead i k) f (λ less is. cc) (λ past is. cc);
      after = λ settled. absurd (never settled);
    };
    roots = λ number below marks. absurd (subst (λ (c : Collector). c.phase % cycle_phases ≢ marking_phase) (sym opens.nothing_done) (λ e. omega (arith, e)) marks.phase);
  };
  space = record {
    budgets = opening_budgets_stand heap state (λ number below. seat_at_opening heap state number opens below) (opens.words_open Spot tt) opens.nothing_done (opens.words_open Budget tt);
    halves = opening_halves_stand heap state (λ number below. seat_at_opening heap state number opens below) (opens.words_open Spot tt) opens.nothing_done;
  };
}
  where
    never : ¬ IsSettled 0 stages.Looking
    never (inl ended) = ended.1
    never (inr (inl copies)) = omega (arith, copies)
    never (inr (inr sweeps)) = omega (arith, sweeps)

pub opening_stands : (heap : Heap) (state : State) → IsHeap heap → IsOpening heap state → StandsFor heap state [] []
opening_stands heap state fits opens = record {
  book = opening_book heap;
  grown = refl;
  stands = record {
    rule = opening_rule heap state fits (opening_is_machine heap state fits opens) opens;
    cycle = λ running. absurd (running refl);
    looks = λ number below. subst (λ (s : Seat). LooksStand heap [] number s.point s.looks) (sym (seat_at_opening heap state number opens below)) record { seen = omega arith; found = λ unnamed. record { first = tt; behind = tt }; asks = tt; compares = λ other p comparing. absurd (cc comparing) };
  };
}
