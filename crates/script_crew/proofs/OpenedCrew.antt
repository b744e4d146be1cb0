-- The seats of a table that opens are a crew.
use Rattle.std.proofs.Common.{◌≡◌, ◌<◌, List, length, map, get_or, None, sym, ap, subst, ◌∙◌, arith}
use Rattle.std.specs.Prelude.{All}
use Rattle.std.specs.List.{range_with_len}
use Rattle.std.proofs.lemmas.List.{get_or_default}
use Rattle.std.proofs.lemmas.List.Elements.{All-get_or}
use Rattle.atomic_table.specs.Seated.{TableId}
use Rattle.heap_model.specs.declared.heap.Heap.{Heap}
use Rattle.heap_model.specs.graph.Graph.{GraphSeat}
use Rattle.heap_table.specs.CollectorHeld.{CollectorHeld}
use Rattle.heap_table.specs.Opened.{IsOpened}
use Rattle.heap_table.specs.SeatHeld.{SeatHeld}
use Rattle.collector_turns.specs.Collector.{CollectorValue}
use Rattle.heap_runs.proofs.OpenedSeats.{own_opened}
use Rattle.script_crew.specs.Crews.{IsCrew, IsFreshSeat}
use Rattle.script_crew.proofs.Joining.{number_is_position}

-- such a seat is fresh
fresh_opened : (table : TableId) (heap : Heap) (seat : SeatHeld) → IsOpened table heap seat → seat.number < heap.seats → IsFreshSeat table heap seat
fresh_opened table heap seat opened within =
    let own = own_opened table heap seat opened within in
    record {
      of_table = record { table_is = opened.table_is; heap_is = opened.heap_is };
      present = ap (λ (g : GraphSeat). g.left) own;
      no_objects = ap (λ (g : GraphSeat). length g.objects) own;
      no_sets = ap (λ (g : GraphSeat). g.sets) own;
    }

pub opened_crew : (heap : Heap) (made : CollectorHeld) (holders seats : List SeatHeld) (collector : CollectorValue) → made.heap ≡ heap → map (λ held. held.number) holders ≡ range_with_len 0 heap.seats
    → All (IsOpened made.table heap) holders → seats ≡ holders → collector ≡ record { holder = made; last_turn = None } → IsCrew seats collector
opened_crew heap made holders seats collector heap_is numbers opened same collector_is =
    subst (λ l. IsCrew l collector) (sym same) (subst (IsCrew holders) (sym collector_is) (record {
      numbered = numbers ∙ ap (λ (h : Heap). range_with_len 0 h.seats) (sym heap_is);
      fresh = λ k d few.
          let seat = get_or holders k d in
          let own = number_is_position holders heap.seats numbers k seat few (get_or_default holders k seat d few) in
          subst (λ h. IsFreshSeat made.table h seat) (sym heap_is) (fresh_opened made.table heap seat (All-get_or (IsOpened made.table heap) holders k d few opened) (omega (arith, own.0, own.1)));
    }))
