-- The logs of a closed table have few sets where each of its seats has done few.
use Rattle.std.proofs.Common.{◌≡◌, ◌∙◌, ℕ, ◌<◌, List, [], ◌∷◌, ◌++◌, length, map, get_or, sym, ap, subst, arith, zero-add}
use Rattle.std.specs.Prelude.{All}
use Rattle.std.specs.List.{range_with_len}
use Rattle.std.proofs.lemmas.List.{get_or-map, get_or_append_left, length-map}
use Rattle.std.proofs.lemmas.List.FromFn.{get_or-range_with_len, length-range_with_len}
use Rattle.atomic_table.specs.Seated.{TableId}
use Rattle.heap_model.specs.Limits.{stamp_limit}
use Rattle.heap_model.specs.Logs.{logs_of}
use Rattle.heap_model.specs.declared.entry.Entry.{Entry}
use Rattle.heap_model.specs.declared.heap.Heap.{Heap}
use Rattle.heap_model.specs.graph.Growth.{graph_after}
use Rattle.heap_model.specs.graph.Objects.{graph_seat, opening}
use Rattle.log_merge.specs.FewSets.{HaveFewSets}
use Rattle.log_merge.proofs.SetCounts.{few_by_seats}
use Rattle.heap_table.specs.Closed.{ClosedTable}
use Rattle.heap_table.specs.SeatHeld.{SeatHeld}
use Rattle.heap_runs.specs.Finishing.{HasGone, HasLogs, EndsUnused}
use Rattle.heap_runs.specs.SeatWork.{sets_of}

-- where there is a seat at a position, there is a first one
first_of : (seats : List SeatHeld) (position : ℕ) → position < length seats → SeatHeld
first_of [] position few = absurd (omega (arith, few))
first_of (seat ∷ seats) position few = seat

module _ (table : TableId) (heap : Heap) (seats : List SeatHeld) (before : List Entry) (closed : ClosedTable) (heap_is : closed.heap ≡ heap) (numbered : map (λ seat. seat.number) seats ≡ range_with_len 0 heap.seats)
    (logs : HasLogs seats before closed) (gone : All (HasGone table heap) seats) (few : All (λ seat. sets_of seat < stamp_limit) seats) where
  -- the seat of this number has done few by its log
  few_of_seat : (number : ℕ) → number < heap.seats → (graph_seat (graph_after (opening heap) (get_or closed.logs number [])) number).sets < stamp_limit
  few_of_seat number within =
      let mine = λ (seat : SeatHeld). seat.seat.mine in
      let number_of = λ (seat : SeatHeld). seat.number in
      let there : number < length seats = omega (arith, within, ap (length {A = ℕ}) numbered, length-map seats number_of, length-range_with_len 0 heap.seats) in
      let first = first_of seats number there in
      let seat = get_or seats number first in
      let its_number : seat.number ≡ number =
      sym (get_or-map number_of seats number first 0 there) ∙ ap (λ (l : List ℕ). get_or l number 0) numbered ∙ get_or-range_with_len 0 heap.seats number 0 within ∙ zero-add number in
      let its_log : get_or closed.logs number [] ≡ seat.seat.mine =
      ap (λ (l : List (List Entry)). get_or l number []) logs.logs_are ∙ get_or_append_left (map mine seats) _ [] number (omega (arith, there, length-map seats mine)) ∙ get_or-map mine seats number first [] there in
      let same : (graph_seat (graph_after (opening heap) (get_or closed.logs number [])) number).sets ≡ sets_of seat =
      ap (λ (l : List Entry). (graph_seat (graph_after (opening heap) l) number).sets) its_log
      ∙ ap (λ (h : Heap). (graph_seat (graph_after (opening h) seat.seat.mine) number).sets) (sym (gone number first there).heap_is)
      ∙ ap (λ n. (graph_seat (graph_after (opening seat.heap) seat.seat.mine) n).sets) (sym its_number) in
      let its : sets_of seat < stamp_limit = few number first there in
      omega (arith, same, its)

  pub logs_have_few_sets : EndsUnused closed → HaveFewSets closed.logs
  logs_have_few_sets unused = few_by_seats heap unused.one.history closed.logs (unused.one.logs_are ∙ ap (λ (h : Heap). logs_of h unused.one.history) heap_is) few_of_seat
