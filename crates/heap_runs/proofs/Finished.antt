-- A table whose seats were folded in, whose last cycle has ended, and which was closed.
use Rattle.std.proofs.Common.{◌≡◌, ℕ, zero, suc, ◌<◌, true, List, [], ◌∷◌, ◌++◌, length, map, fold, None, refl, sym, ap, subst, ◌∙◌, append_assoc, arith}
use Rattle.std.specs.Prelude.{All}
use Rattle.std.specs.List.{AllByRecursion, range_with_len}
use Rattle.std.proofs.lemmas.List.{length-map}
use Rattle.std.proofs.lemmas.List.FromFn.{length-range_with_len}
use Rattle.std.proofs.lemmas.List.Elements.{recursion_from_All}
use Rattle.heap_model.specs.Heap.{IsHeap}
use Rattle.heap_model.specs.account.Turned.{is_of_heap}
use Rattle.heap_model.specs.declared.entry.Entry.{Entry}
use Rattle.heap_model.specs.declared.entry.Entry.TheVariants.{Ends}
use Rattle.heap_model.specs.declared.heap.Heap.{Heap}
use Rattle.core_machine.specs.seat.Seat.{Seat}
use Rattle.core_machine.specs.collector.Collector.{Collector}
use Rattle.core_rule.specs.sweep_exact.SweepLaws.{EachLastCycleBalances}
use Rattle.heap_table.specs.Closed.{ClosedTable, HasOneHistory, logs_known}
use Rattle.heap_table.specs.CollectorHeld.{CollectorHeld}
use Rattle.heap_table.specs.Folded.{IsFolded, AllFolded}
use Rattle.heap_table.specs.Known.{CollectorKnown}
use Rattle.heap_table.specs.SeatHeld.{SeatHeld}
use Rattle.heap_record.specs.LastCycle.{EndsWholeCycle}
use Rattle.collector_turns.specs.Collector.{CollectorValue, state_of}
use Rattle.collector_turns.specs.Turning.{TakesTurn, MakesRoom}
use Rattle.heap_runs.specs.Finishing.{HasGone, HasLogs, EndsUnused, folded_in}
use Rattle.heap_runs.proofs.Folding.{slots_of, folded_seats_are_slots, folding_keeps_collector, folded_phase_is_current}
use Rattle.heap_runs.proofs.TurnsKeep.{KeepsFolded, turns_keep_folded}
use Rattle.heap_runs.proofs.Unused.{known_logs_are_lists, history_ends_unused}

-- each of these seats stands in its slot
slot_has_seat : (seats : List SeatHeld) (n : ℕ) → n < length seats → (seat : Seat) × IsFolded (slots_of seats) n seat
slot_has_seat [] n below = absurd (omega (arith, below))
slot_has_seat (held ∷ seats) zero below = (held.seat, refl)
slot_has_seat (held ∷ seats) (suc n) below = slot_has_seat seats n (omega (arith, below))

module _ (start folded last : CollectorHeld) (seats : List SeatHeld) (begun ended : CollectorValue) (limits : IsHeap start.heap) (seat_slots : length start.known.seats ≡ start.heap.seats)
    (numbers : map (λ held. held.number) seats ≡ range_with_len 0 start.heap.seats) (folds : folded ≡ record start { known = fold folded_in start.known seats })
    (begins : begun ≡ record { holder = folded; last_turn = None }) (cycle : EndsWholeCycle state_of MakesRoom TakesTurn begun ended) (last_is : last ≡ ended.holder) where
  kept : KeepsFolded begun ended
  kept = turns_keep_folded cycle.turns begun ended cycle.made

  many : length seats ≡ start.heap.seats
  many = sym (length-map seats (λ (held : SeatHeld). held.number)) ∙ ap length numbers ∙ length-range_with_len 0 start.heap.seats

  pub heap_stays_the_same : last.heap ≡ start.heap
  heap_stays_the_same = ap (λ (h : CollectorHeld). h.heap) last_is ∙ kept.heap_stays ∙ ap (λ (v : CollectorValue). v.holder.heap) begins ∙ ap (λ (h : CollectorHeld). h.heap) folds

  known_begun : begun.holder.known ≡ fold folded_in start.known seats
  known_begun = ap (λ (v : CollectorValue). v.holder.known) begins ∙ ap (λ (h : CollectorHeld). h.known) folds

  seats_are : last.known.seats ≡ slots_of seats
  seats_are = ap (λ (h : CollectorHeld). h.known.seats) last_is ∙ kept.seats_stay ∙ ap (λ (k : CollectorKnown). k.seats) known_begun
      ∙ folded_seats_are_slots seats start.known (numbers ∙ ap (range_with_len 0) (sym seat_slots))

  -- every seat was folded in
  pub all_are_folded : AllFolded last.heap last.known.seats
  all_are_folded number below =
      let there = slot_has_seat seats number (omega (arith, below, many, ap (λ (h : Heap). h.seats) heap_stays_the_same)) in
      (there.0, subst (λ l. IsFolded l number there.0) (sym seats_are) there.1)

  collector_begun : begun.holder.known.collector ≡ start.known.collector
  collector_begun = ap (λ (k : CollectorKnown). k.collector) known_begun ∙ folding_keeps_collector seats start.known

  folded_is : last.known.folded ≡ start.known.collector.phase
  folded_is = ap (λ (h : CollectorHeld). h.known.folded) last_is ∙ kept.folded_stays ∙ ap (λ (k : CollectorKnown). k.folded) known_begun
      ∙ folded_phase_is_current seats start.known (omega (arith, many, limits.some_seat))

  log_is : last.known.collector.log ≡ start.known.collector.log ++ (cycle.earlier ++ Ends cycle.cycle cycle.kept ∷ [])
  log_is = ap (λ (h : CollectorHeld). h.known.collector.log) last_is ∙ cycle.told
      ∙ ap (λ (c : Collector). c.log ++ (cycle.earlier ++ Ends cycle.cycle cycle.kept ∷ [])) collector_begun

  module _ (closed : ClosedTable) (logs : closed.logs ≡ logs_known last.known) where
    known_logs : closed.logs ≡ map (λ held. held.seat.mine) seats ++ (start.known.collector.log ++ (cycle.earlier ++ Ends cycle.cycle cycle.kept ∷ [])) ∷ []
    known_logs = logs ∙ known_logs_are_lists last.known seats seats_are ∙ ap (λ (l : List Entry). map (λ held. held.seat.mine) seats ++ l ∷ []) log_is

    -- the logs are the seats' and the collector's
    pub has_logs_of_all : HasLogs seats start.known.collector.log closed
    has_logs_of_all = record { turned = cycle.earlier ++ Ends cycle.cycle cycle.kept ∷ []; own = with_end cycle.earlier cycle.own; logs_are = known_logs }
      where
        with_end : (front : List Entry) → AllByRecursion (λ entry. is_of_heap entry ≡ true) front → AllByRecursion (λ entry. is_of_heap entry ≡ true) (front ++ Ends cycle.cycle cycle.kept ∷ [])
        with_end [] own = (refl, tt)
        with_end (entry ∷ front) own = (own.0, with_end front own.1)

    -- and nothing is in use
    pub ends_unused_at_last : EachLastCycleBalances → HasOneHistory closed → closed.heap ≡ last.heap → closed.folded ≡ last.known.folded → All (HasGone start.table start.heap) seats → EndsUnused closed
    ends_unused_at_last balances one heap_closed folded_closed gone =
        let same : closed.heap ≡ start.heap = heap_closed ∙ heap_stays_the_same in
        history_ends_unused balances start.table closed seats (start.known.collector.log ++ cycle.earlier) cycle.cycle cycle.kept one
        (known_logs ∙ ap (λ (l : List Entry). map (λ held. held.seat.mine) seats ++ l ∷ []) (sym (append_assoc start.known.collector.log cycle.earlier (Ends cycle.cycle cycle.kept ∷ []))))
        (numbers ∙ ap (λ (h : Heap). range_with_len 0 h.seats) (sym same))
        (recursion_from_All (HasGone start.table closed.heap) seats (subst (λ (h : Heap). All (HasGone start.table h) seats) (sym same) gone))
        (omega (arith, cycle.began, folded_closed, folded_is, ap (λ (c : Collector). c.phase) collector_begun))
