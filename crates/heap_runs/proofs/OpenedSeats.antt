-- The seats of a table that opens may run short scripts.
use Rattle.std.proofs.Common.{◌≡◌, ℕ, ◌<◌, List, [], length, map, None, sym, ap, subst, ◌∙◌, arith}
use Rattle.std.specs.Prelude.{All, slice_index_or}
use Rattle.std.specs.List.{range_with_len}
use Rattle.std.proofs.lemmas.List.{length-map, get_or-replicate}
use Rattle.std.proofs.lemmas.List.Elements.{All-nil}
use Rattle.std.proofs.lemmas.List.FromFn.{length-range_with_len, get_or-range_with_len}
use Rattle.std.proofs.Math.ListN.{get_or-map}
use Rattle.atomic_table.specs.Seated.{TableId}
use Rattle.heap_model.specs.Limits.{stamp_limit}
use Rattle.heap_model.specs.calls.SeatLaws.{IsOwn}
use Rattle.heap_model.specs.calls.SeatState.{own_graph_seat}
use Rattle.heap_model.specs.declared.command.Command.{Command}
use Rattle.heap_model.specs.declared.heap.Heap.{Heap}
use Rattle.heap_model.specs.graph.Graph.{GraphSeat, opening_graph_seat}
use Rattle.heap_model.specs.graph.Objects.{absent_graph_seat}
use Rattle.core_machine.specs.seat.Seat.{Seat}
use Rattle.heap_table.specs.CollectorHeld.{CollectorHeld}
use Rattle.heap_table.specs.Opened.{IsOpened}
use Rattle.heap_table.specs.SeatHeld.{SeatHeld}
use Rattle.mutator_seat.specs.Resting.{IsBetweenCalls, seat_state}
use Rattle.collector_turns.specs.Collector.{CollectorValue}
use Rattle.heap_runs.specs.RunningSeats.{MayRun}
use Rattle.heap_runs.specs.SeatWork.{IsOfScript, IsReadyToWork, script_at}

-- such a seat is between two calls
pub between_opened : (table : TableId) (heap : Heap) (held : SeatHeld) → IsOpened table heap held → IsBetweenCalls held
between_opened table heap held opened = record {
  idle = ap (λ (s : Seat). s.point) opened.seat_is;
  own = subst (λ (s : Seat). All (IsOwn held.number) s.mine) (sym opened.seat_is) (All-nil (IsOwn held.number));
  stamps = omega (arith, ap (λ (s : Seat). s.sets) opened.seat_is);
}

-- by its own entries, of which there are none, it is as at the opening
pub own_opened : (table : TableId) (heap : Heap) (held : SeatHeld) → IsOpened table heap held → held.number < heap.seats → own_graph_seat (seat_state held) ≡ opening_graph_seat
own_opened table heap held opened within =
    subst (λ (s : Seat). own_graph_seat (seat_state (record held { seat = s })) ≡ opening_graph_seat) (sym opened.seat_is)
    (subst (λ (h : Heap). own_graph_seat (record { heap = h; number = held.number; mine = []; spare = held.spare }) ≡ opening_graph_seat) (sym opened.heap_is)
    (get_or-replicate heap.seats held.number opening_graph_seat absent_graph_seat within))

-- the commands are of a script, and there are fewer than the stamps of a seat
abbrev pub IsShortScript : List Command → Type 0
IsShortScript commands = (length commands < stamp_limit) × All IsOfScript commands

-- and may work on its script
ready_opened : (table : TableId) (heap : Heap) (scripts : List (List Command)) (held : SeatHeld) → IsOpened table heap held → held.number < heap.seats → length scripts ≡ heap.seats
    → IsShortScript (script_at scripts held.number) → IsReadyToWork table heap scripts held
ready_opened table heap scripts held opened within seated short =
    let own = own_opened table heap held opened within in
    record {
      of_table = record { table_is = opened.table_is; heap_is = opened.heap_is };
      scripted = omega (arith, within, seated);
      may = record {
        present = ap (λ (g : GraphSeat). g.left) own;
        each = short.1;
        names = omega (arith, short.0, ap (λ (g : GraphSeat). length g.objects) own);
        stamps = omega (arith, short.0, ap (λ (g : GraphSeat). g.sets) own);
      };
    }

module _ (heap : Heap) (scripts : List (List Command)) (made : CollectorHeld) (holders : List SeatHeld) (heap_is : made.heap ≡ heap)
    (numbers : map (λ held. held.number) holders ≡ range_with_len 0 heap.seats) (opened : All (IsOpened made.table heap) holders) where
  pub holders_are_all_seats : length holders ≡ heap.seats
  holders_are_all_seats = sym (length-map holders (λ (held : SeatHeld). held.number)) ∙ ap length numbers ∙ length-range_with_len 0 heap.seats

  number_there : (k : ℕ) (d : SeatHeld) → k < length holders → (slice_index_or holders k d).number ≡ k
  number_there k d below =
      sym (get_or-map (λ (held : SeatHeld). held.number) holders k d) ∙ ap (λ l. slice_index_or l k d.number) numbers
      ∙ get_or-range_with_len 0 heap.seats k d.number (omega (arith, below, holders_are_all_seats)) ∙ omega arith

  -- each is between two calls
  pub all_between_calls : All IsBetweenCalls holders
  all_between_calls k d below = between_opened made.table heap (slice_index_or holders k d) (opened k d below)

  -- and they may run the scripts
  pub seats_may_run : (seats : List SeatHeld) (collector : CollectorValue) → seats ≡ holders → collector ≡ record { holder = made; last_turn = None } → length scripts ≡ heap.seats
      → ((number : ℕ) → number < heap.seats → IsShortScript (script_at scripts number)) → MayRun seats collector scripts
  seats_may_run seats collector same collector_is seated short =
      subst (λ l. MayRun l collector scripts) (sym same) (subst (λ v. MayRun holders v scripts) (sym collector_is) (record {
        numbers = numbers ∙ ap (λ (h : Heap). range_with_len 0 h.seats) (sym heap_is);
        ready = λ k d below.
            let held = slice_index_or holders k d in
            let within : held.number < heap.seats = omega (arith, number_there k d below, below, holders_are_all_seats) in
            subst (λ h. IsReadyToWork made.table h scripts held) (sym heap_is) (ready_opened made.table heap scripts held (opened k d below) within seated (short held.number within));
      }))
