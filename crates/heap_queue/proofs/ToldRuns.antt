-- What is told of a queue's run is told of each seat of it.
use Rattle.std.proofs.Common.{◌≡◌, ◌∙◌, ℕ, ◌<◌, ◌≤◌, List, [], ◌∷◌, length, map, filter, get_or, sym, ap, subst, arith, zero-add}
use Rattle.std.specs.Prelude.{slice_index_or}
use Rattle.std.specs.List.{range_with_len}
use Rattle.std.proofs.lemmas.List.{get_or-map, get_or_append_left, length-map}
use Rattle.std.proofs.lemmas.List.Elements.{All-get_or}
use Rattle.std.proofs.lemmas.List.FromFn.{get_or-map-range_with_len, get_or-range_with_len, length-map-range_with_len, length-range_with_len}
use Rattle.heap_model.specs.Logs.{log_of, logs_of}
use Rattle.heap_model.specs.account.Noting.{is_collectors}
use Rattle.heap_model.specs.declared.entry.Entry.{Entry}
use Rattle.heap_model.specs.declared.heap.Heap.{Heap}
use Rattle.heap_model.specs.graph.Legal.{IsObjectLegal}
use Rattle.script_text.specs.Text.{text_of}
use Rattle.heap_table.specs.SeatHeld.{SeatHeld}
use Rattle.log_merge.specs.Merging.{HasOrder}
use Rattle.heap_queue.specs.declared.queue_command.QueueCommand.{QueueCommand}
use Rattle.heap_queue.specs.declared.queue_run.QueueRan.{QueueRan}
use Rattle.heap_queue.specs.declared.told.ToldCall.{ToldCall}
use Rattle.heap_queue.specs.Effects.{AreQueueLegal, effects_of}
use Rattle.heap_queue.specs.Histories.{IsQueueHistory}
use Rattle.heap_queue.specs.QueueLines.{queue_lines}
use Rattle.heap_queue.specs.RunText.{HasRunQueue, TellsQueue, TellsSeat}
use Rattle.heap_queue.specs.Running.{script_at}
use Rattle.heap_queue.specs.Served.{HasServed}
use Rattle.heap_queue.specs.Telling.{effects_in, told_of}
use Rattle.heap_queue.specs.ToldBySeat.{TellEach}
use Rattle.heap_queue.proofs.QueueLaws.{effects_are_legal}
use Rattle.heap_queue.proofs.SeatsTold.{each_seat_is_told}

-- where there is a seat at a position, there is a first one
first_of : (seats : List SeatHeld) (position : ℕ) → position < length seats → SeatHeld
first_of [] position few = absurd (omega (arith, few))
first_of (seat ∷ seats) position few = seat

-- the logs that go together to a history have a seat's entries at its number
log_at : (heap : Heap) (history : List Entry) (number : ℕ) → number < heap.seats → slice_index_or (logs_of heap history) number [] ≡ log_of number history
log_at heap history number within =
    let log = λ (n : ℕ). log_of n history in
    get_or_append_left (map log (range_with_len 0 heap.seats)) (filter is_collectors history ∷ []) [] number (omega (arith, within, length-map-range_with_len log 0 heap.seats))
    ∙ get_or-map-range_with_len log 0 heap.seats number number [] within (omega arith)

module _ (heap : Heap) (scripts : List (List QueueCommand)) (ran : QueueRan) (is : HasRunQueue heap scripts ran) where
  abbrev seats : List SeatHeld
  seats = is.whole.seats

  -- some legal order has the logs
  pub has_order : HasOrder heap ran.closed.logs
  has_order =
      let one = is.whole.unused.one in
      let heap_is : ran.closed.heap ≡ heap = is.whole.of_heap ∙ is.of_heap in
      record {
        history = one.history;
        legal = subst (λ (h : Heap). IsObjectLegal h one.history) heap_is one.legal.objects;
        kept = one.logs_are ∙ ap (λ (h : Heap). logs_of h one.history) heap_is;
      }

  module _ (number : ℕ) (within : number < heap.seats) where
    few : number < length seats
    few = omega (arith, within, ap (λ (h : Heap). h.seats) is.of_heap, ap (length {A = ℕ}) is.whole.numbered, length-map seats (λ (seat : SeatHeld). seat.number), length-range_with_len 0 is.collector.holder.heap.seats)

    -- the seat of this number
    seat : SeatHeld
    seat = get_or seats number (first_of seats number few)

    its_number : seat.number ≡ number
    unfolding seat
    its_number =
        sym (get_or-map (λ (one : SeatHeld). one.number) seats number (first_of seats number few) 0 few)
        ∙ ap (λ (l : List ℕ). get_or l number 0) is.whole.numbered
        ∙ get_or-range_with_len 0 is.collector.holder.heap.seats number 0 (omega (arith, within, ap (λ (h : Heap). h.seats) is.of_heap))
        ∙ zero-add number

    its_log : slice_index_or ran.closed.logs number [] ≡ seat.seat.mine
    unfolding seat
    its_log =
        let mine = λ (one : SeatHeld). one.seat.mine in
        ap (λ (l : List (List Entry)). slice_index_or l number []) is.whole.logs.logs_are
        ∙ get_or_append_left (map mine seats) _ [] number (omega (arith, few, length-map seats mine))
        ∙ get_or-map mine seats number (first_of seats number few) [] few

    -- it has served its script
    has_served : HasServed number (script_at scripts number) (slice_index_or ran.closed.logs number [])
    unfolding seat
    has_served =
        subst (λ (log : List Entry). HasServed number (script_at scripts number) log) (sym its_log)
        (subst (λ (n : ℕ). HasServed n (script_at scripts n) seat.seat.mine) its_number
        (All-get_or (λ (one : SeatHeld). HasServed one.number (script_at scripts one.number) one.seat.mine) seats number (first_of seats number few) few is.whole.served))

  module _ (two : 2 ≤ heap.board) (history : List Entry) (legal : IsObjectLegal heap history) (kept : ran.closed.logs ≡ logs_of heap history) where
    is_queues : IsQueueHistory heap 0 history
    is_queues =
        subst (λ (h : Heap). IsQueueHistory h 0 history) is.of_heap
        (is.whole.orders history (subst (λ (h : Heap). IsObjectLegal h history) (sym is.of_heap) legal) (kept ∙ ap (λ (h : Heap). logs_of h history) (sym is.of_heap)))

    -- what the history tells of a seat
    seat_is_told : (number : ℕ) → number < heap.seats → TellsSeat number (script_at scripts number) (slice_index_or ran.closed.logs number []) (told_of heap 0 history)
    seat_is_told number within =
        let log_is : slice_index_or ran.closed.logs number [] ≡ log_of number history = ap (λ (l : List (List Entry)). slice_index_or l number []) kept ∙ log_at heap history number within in
        let served : HasServed number (script_at scripts number) (log_of number history) = subst (λ (log : List Entry). HasServed number (script_at scripts number) log) log_is (has_served number within) in
        let told = each_seat_is_told heap history number (script_at scripts number) legal within served in
        subst (λ (log : List Entry). TellsSeat number (script_at scripts number) log (told_of heap 0 history)) (sym log_is) (record {
          served = served.calls;
          ended = served.leads.ended;
          shown = told.0;
          each = subst (TellEach (script_at scripts number) served.calls) (sym told.0) told.1;
        })

    -- a text that tells this is one of the run
    pub text_tells_queue : (calls : List ToldCall) (text : List ℕ) → calls ≡ told_of heap 0 history → effects_in calls ≡ effects_of heap 0 history → text ≡ text_of (queue_lines heap calls) → TellsQueue heap scripts ran.closed text
    text_tells_queue calls text told effects rendered = record {
      history = history;
      objects = legal;
      logs = kept;
      calls = calls;
      told = told;
      rendered = rendered;
      legal = subst AreQueueLegal (sym effects) (effects_are_legal heap 0 history two is_queues);
      each = λ number within. subst (TellsSeat number (script_at scripts number) (slice_index_or ran.closed.logs number [])) (sym told) (seat_is_told number within);
    }
