-- The seats of a run once the first of them has made the queue, or was refused its first node.
use Rattle.std.proofs.Common.{◌≡◌, ℕ, zero, suc, ◌<◌, ◌≤◌, inl, inr, cond, List, [], ◌∷◌, length, map, get_or, Option, Some, None, refl, sym, ap, ◌∙◌, subst, arith}
use Rattle.std.specs.Prelude.{All, slice_set}
use Rattle.std.specs.List.{range_with_len}
use Rattle.std.proofs.lemmas.Bool.Decides.{eqb_tells}
use Rattle.std.proofs.lemmas.List.Elements.{All-cons, All-tail, All-weaker}
use Rattle.atomic_table.specs.Seated.{TableId}
use Rattle.heap_model.specs.Heap.{IsHeap}
use Rattle.heap_model.specs.account.Space.{taken_of}
use Rattle.heap_model.specs.declared.entry.Entry.{Entry}
use Rattle.heap_model.specs.declared.heap.Heap.{Heap}
use Rattle.heap_model.specs.declared.refusal.Full.{Full}
use Rattle.heap_table.specs.SeatHeld.{SeatHeld}
use Rattle.mutator_seat.specs.Resting.{seat_state}
use Rattle.heap_runs.specs.CollectCall.{IsPresent}
use Rattle.heap_runs.specs.SeatWork.{IsOfTable, objects_of, sets_of}
use Rattle.heap_queue.specs.declared.queue_command.QueueCommand.{QueueCommand}
use Rattle.heap_queue.specs.Calls.{QueueMade}
use Rattle.heap_queue.specs.Effects.{start}
use Rattle.heap_queue.specs.Histories.{Leads}
use Rattle.heap_queue.specs.Opening.{HasOpened, OpensFirst, AreRefused}
use Rattle.heap_queue.specs.Places.{MakesNode, Rests, Waits}
use Rattle.heap_queue.specs.Running.{IsQueueScript, IsUntouched, script_at}
use Rattle.heap_queue.specs.Serving.{HasBegun, begin_place, first_calls}
use Rattle.heap_queue.specs.Working.{IsReadyToServe}
use Rattle.heap_queue.proofs.ClosedLogs.{as_many, number_is_place}
use Rattle.heap_queue.proofs.FirstSeat.{fresh}
use Rattle.heap_queue.proofs.ServingLogs.{leads_nowhere}

-- another seat than the first has begun where it has told nothing
none_told : (number k : ℕ) → number ≡ suc k → HasBegun number []
none_told number k is = record {
  leads = elim (eqb_tells number 0) as (λ _. Leads (start 0 number) [] (begin_place number) (first_calls number)) [
    | inl same ↦ absurd (omega (arith, same.1, is))
    | inr apart ↦ subst (λ first. Leads (cond first MakesNode Waits) [] (cond first Rests Waits) (cond first (QueueMade ∷ []) [])) (sym apart.0) (leads_nowhere Waits)
  ];
  at_once = λ first. absurd (omega (arith, first, is));
}

waits : (number k : ℕ) (log : List Entry) → number ≡ suc k → log ≡ [] → HasBegun number log
waits number k log is silent = subst (HasBegun number) (sym silent) (none_told number k is)

module _ (table : TableId) (heap : Heap) (n : ℕ) (first : SeatHeld) (of_table : IsOfTable table heap first) where
  -- the first of these seats stands in the place of the one that was there
  pub numbers_kept : (seats : List SeatHeld) → map (λ seat. seat.number) seats ≡ range_with_len 0 n → 0 < n → first.number ≡ 0 → map (λ seat. seat.number) (slice_set seats 0 first) ≡ range_with_len 0 n
  numbers_kept [] numbered some is = numbered
  numbers_kept (seat ∷ seats) numbered some is =
      ap (λ (m : ℕ). m ∷ map (λ (one : SeatHeld). one.number) seats) (is ∙ sym (number_is_place (seat ∷ seats) n numbered 0 seat some)) ∙ numbered

  all_so : (P : SeatHeld → Type 0) (seats : List SeatHeld) → All (IsUntouched table heap) seats → ((seat : SeatHeld) → IsUntouched table heap seat → P seat) → P first → All P (slice_set seats 0 first)
  all_so P [] all others its = λ k d few. absurd (omega (arith, few))
  all_so P (seat ∷ seats) all others its = All-cons P first seats its (All-weaker (IsUntouched table heap) P others seats (All-tail (IsUntouched table heap) seat seats all))

  -- all are of the table
  pub all_of_table : (seats : List SeatHeld) → All (IsUntouched table heap) seats → All (IsOfTable table heap) (slice_set seats 0 first)
  all_of_table seats all = all_so (IsOfTable table heap) seats all (λ seat untouched. untouched.of_table) of_table

  -- all are there
  pub all_present : (seats : List SeatHeld) → All (IsUntouched table heap) seats → IsPresent first → All IsPresent (slice_set seats 0 first)
  all_present seats all present = all_so IsPresent seats all (λ seat untouched. untouched.present) present

  -- none has taken a fragment where the first was refused its node
  pub are_refused : (seats : List SeatHeld) (full : Full) → 0 < length seats → All (IsUntouched table heap) seats → HasOpened first (Some full) → AreRefused (slice_set seats 0 first) full
  are_refused [] full some all opened = absurd (omega (arith, some))
  are_refused (seat ∷ seats) full some all opened = record {
    took = all_so (λ one. taken_of one.number one.seat.mine ≡ 0) (seat ∷ seats) all (λ one untouched. ap (taken_of one.number) untouched.silent)
        (ap (λ (m : ℕ). taken_of m first.seat.mine) opened.number_is ∙ opened.told.took);
    first = first;
    here = refl;
    refused = opened.told;
  }

  module _ (scripts : List (List QueueCommand)) (scripted : length scripts ≡ n) (fit : All IsQueueScript scripts) where
    -- a seat with few objects and sets that has begun may serve its script
    ready : (seat : SeatHeld) → IsOfTable table heap seat → seat.number < n → IsPresent seat → objects_of seat ≤ 1 → sets_of seat ≤ 3 → HasBegun seat.number seat.seat.mine → IsReadyToServe table heap scripts seat
    ready seat of_table below present objects sets begun =
        let within : seat.number < length scripts = omega (arith, below, scripted) in
        let its : IsQueueScript (script_at scripts seat.number) = fit seat.number [] within in
        record {
          of_table = of_table;
          scripted = within;
          may = record {
            in_range = its.1;
            may = record { present = present; names = omega (arith, objects, its.0); stamps = omega (arith, sets, its.0) };
            begun = begun;
          };
        }

    -- each may serve its script where the first has made the queue
    pub all_ready : (seats : List SeatHeld) → map (λ seat. seat.number) seats ≡ range_with_len 0 n → All (IsUntouched table heap) seats → HasOpened first None → 0 < n → All (IsReadyToServe table heap scripts) (slice_set seats 0 first)
    all_ready [] numbered all opened some = λ k d few. absurd (omega (arith, few))
    all_ready (seat ∷ seats) numbered all opened some = each
      where
        other : (k : ℕ) (d : SeatHeld) → k < length seats → IsReadyToServe table heap scripts (get_or seats k d)
        other k d few =
            let one = get_or seats k d in
            let untouched : IsUntouched table heap one = all (suc k) d (omega (arith, few)) in
            let below : suc k < n = omega (arith, few, as_many (seat ∷ seats) n numbered) in
            let place : one.number ≡ suc k = number_is_place (seat ∷ seats) n numbered (suc k) d below in
            let none = fresh (seat_state one) untouched.silent in
            ready one untouched.of_table (omega (arith, place, below)) untouched.present (omega (arith, none.0)) (omega (arith, none.1)) (waits one.number k one.seat.mine place untouched.silent)

        each : All (IsReadyToServe table heap scripts) (first ∷ seats)
        each zero d few =
            ready first of_table (omega (arith, opened.number_is, some)) opened.present opened.objects opened.sets (subst (λ (m : ℕ). HasBegun m first.seat.mine) (sym opened.number_is) opened.told)
        each (suc k) d few = other k d (omega (arith, few))

-- so it is of all seats of a collector's table once the first was opened by that table's name, whether its node was refused or not
module _ {table its_table : TableId} {heap its_heap named : Heap} {olds news : List SeatHeld} {refused : Option Full} (table_is : table ≡ its_table) (heap_is : heap ≡ its_heap) (named_is : named ≡ heap)
    (limits : IsHeap named) (opens : OpensFirst its_table its_heap olds news refused) (numbered : map (λ seat. seat.number) olds ≡ range_with_len 0 heap.seats) (untouched : All (IsUntouched table heap) olds) where
  opened : OpensFirst table heap olds news refused
  opened = subst (λ (h : Heap). OpensFirst table h olds news refused) (sym heap_is) (subst (λ (t : TableId). OpensFirst t its_heap olds news refused) (sym table_is) opens)

  some : 0 < heap.seats
  some = omega (arith, limits.some_seat, ap (λ (h : Heap). h.seats) named_is)

  pub still_numbered : map (λ seat. seat.number) news ≡ range_with_len 0 heap.seats
  still_numbered =
      ap (λ (l : List SeatHeld). map (λ (seat : SeatHeld). seat.number) l) opened.news_are
      ∙ numbers_kept table heap heap.seats opened.first opened.of_table olds numbered some opened.opened.number_is

  pub still_of_table : All (IsOfTable table heap) news
  still_of_table = subst (All (IsOfTable table heap)) (sym opened.news_are) (all_of_table table heap heap.seats opened.first opened.of_table olds untouched)

  pub still_present : All IsPresent news
  still_present = subst (All IsPresent) (sym opened.news_are) (all_present table heap heap.seats opened.first opened.of_table olds untouched opened.opened.present)

  pub refused_there : (full : Full) → refused ≡ Some full → AreRefused news full
  refused_there full is =
      subst (λ (l : List SeatHeld). AreRefused l full) (sym opened.news_are)
      (are_refused table heap heap.seats opened.first opened.of_table olds full (omega (arith, some, as_many olds heap.seats numbered)) untouched
      (subst (HasOpened opened.first) is opened.opened))

  pub ready_there : refused ≡ None → (scripts : List (List QueueCommand)) → length scripts ≡ heap.seats → All IsQueueScript scripts → All (IsReadyToServe its_table its_heap scripts) news
  ready_there is scripts scripted fit =
      subst (λ (h : Heap). All (IsReadyToServe its_table h scripts) news) heap_is
      (subst (λ (t : TableId). All (IsReadyToServe t heap scripts) news) table_is
      (subst (All (IsReadyToServe table heap scripts)) (sym opened.news_are)
      (all_ready table heap heap.seats opened.first opened.of_table scripts scripted fit olds numbered untouched (subst (HasOpened opened.first) is opened.opened) some)))
