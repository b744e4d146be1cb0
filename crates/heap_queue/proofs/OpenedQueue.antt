-- The seats of a table that opens may run a queue.
use Rattle.std.proofs.Common.{◌≡◌, ℕ, ◌+◌, ◌<◌, ◌≤◌, List, length, map, get_or, All, None, sym, ap, subst, ◌∙◌, arith}
use Rattle.std.specs.List.{range_with_len}
use Rattle.std.proofs.lemmas.List.{get_or-map, length-map}
use Rattle.std.proofs.lemmas.List.Elements.{All-get_or}
use Rattle.std.proofs.lemmas.List.FromFn.{get_or-range_with_len, length-range_with_len}
use Rattle.atomic_table.specs.Seated.{TableId}
use Rattle.heap_model.specs.declared.heap.Heap.{Heap}
use Rattle.heap_model.specs.graph.Graph.{GraphSeat}
use Rattle.core_machine.specs.seat.Seat.{Seat}
use Rattle.heap_table.specs.CollectorHeld.{CollectorHeld}
use Rattle.heap_table.specs.Opened.{IsOpened}
use Rattle.heap_table.specs.SeatHeld.{SeatHeld}
use Rattle.collector_turns.specs.Collector.{CollectorValue}
use Rattle.heap_runs.proofs.OpenedSeats.{own_opened}
use Rattle.heap_queue.specs.declared.queue_command.QueueCommand.{QueueCommand}
use Rattle.heap_queue.specs.Running.{IsQueueScript, IsUntouched, MayRunQueue}

-- where seats are numbered by their positions, their numbers are below their count
number_within : (seats : List SeatHeld) (count position : ℕ) (seat : SeatHeld) → map (λ one. one.number) seats ≡ range_with_len 0 count → position < length seats → (get_or seats position seat).number < count
number_within seats count position seat numbered few =
    let number : SeatHeld → ℕ = λ one. one.number in
    let below : position < count = omega (arith, few, ap (length {A = ℕ}) numbered, length-map seats number, length-range_with_len 0 count) in
    let its : (get_or seats position seat).number ≡ 0 + position = sym (get_or-map number seats position seat 0 few) ∙ ap (λ (l : List ℕ). get_or l position 0) numbered ∙ get_or-range_with_len 0 count position 0 below in
    omega (arith, its, below)

-- such a seat is untouched
untouched_opened : (table : TableId) (heap : Heap) (seat : SeatHeld) → IsOpened table heap seat → seat.number < heap.seats → IsUntouched table heap seat
untouched_opened table heap seat opened within = record {
  of_table = record { table_is = opened.table_is; heap_is = opened.heap_is };
  present = ap (λ (g : GraphSeat). g.left) (own_opened table heap seat opened within);
  silent = ap (λ (s : Seat). s.mine) opened.seat_is;
}

pub opened_queue : (heap : Heap) (made : CollectorHeld) (holders seats : List SeatHeld) (collector : CollectorValue) (scripts : List (List QueueCommand)) → made.heap ≡ heap
    → map (λ held. held.number) holders ≡ range_with_len 0 heap.seats → All (IsOpened made.table heap) holders → seats ≡ holders → collector ≡ record { holder = made; last_turn = None }
    → length scripts ≡ heap.seats → All IsQueueScript scripts → 2 ≤ heap.board → MayRunQueue seats collector scripts
opened_queue heap made holders seats collector scripts heap_is numbers opened same collector_is scripted fit two =
    subst (λ l. MayRunQueue l collector scripts) (sym same) (subst (λ one. MayRunQueue holders one scripts) (sym collector_is) (record {
      numbered = numbers ∙ ap (λ (h : Heap). range_with_len 0 h.seats) (sym heap_is);
      untouched = λ k d few.
          let seat = get_or holders k d in
          subst (λ h. IsUntouched made.table h seat) (sym heap_is) (untouched_opened made.table heap seat (All-get_or (IsOpened made.table heap) holders k d few opened) (number_within holders heap.seats k d numbers few));
      scripted = scripted ∙ ap (λ (h : Heap). h.seats) (sym heap_is);
      fit = fit;
      board = subst (λ (h : Heap). 2 ≤ h.board) (sym heap_is) two;
    }))
