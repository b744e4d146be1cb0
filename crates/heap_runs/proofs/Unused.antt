-- A table that is closed behind a cycle that began after every seat had left.
use Rattle.std.proofs.Common.{◌≡◌, ℕ, ◌+◌, ◌*◌, ◌<◌, ◌≤◌, true, false, List, [], ◌∷◌, ◌++◌, length, map, filter, inl, inr, refl, sym, ap, subst, ◌∙◌, arith}
use Rattle.std.specs.List.{AllByRecursion, range_with_len}
use Rattle.std.specs.Option.{option_map_or}
use Rattle.std.proofs.lemmas.Bool.Decides.{eqb_tells}
use Rattle.std.proofs.lemmas.List.{length-map}
use Rattle.std.proofs.lemmas.List.FromFn.{length-range_with_len}
use Rattle.atomic_table.specs.Seated.{TableId}
use Rattle.heap_model.specs.PhasePlan.{cycle_phases}
use Rattle.heap_model.specs.declared.entry.Entry.{Entry}
use Rattle.heap_model.specs.declared.entry.Entry.TheVariants.{Ends}
use Rattle.heap_model.specs.declared.heap.Heap.{Heap}
use Rattle.heap_model.specs.account.Effects.{is_of}
use Rattle.heap_model.specs.account.Noting.{is_collectors}
use Rattle.heap_model.specs.account.PhaseCounts.{has_left}
use Rattle.heap_model.specs.account.Space.{fragments_gained, fragments_lost, words_granted, words_returned}
use Rattle.core_machine.specs.seat.Seat.{Seat}
use Rattle.core_rule.specs.sweep_exact.SweepLaws.{EachLastCycleBalances}
use Rattle.heap_table.specs.Closed.{ClosedTable, HasOneHistory, logs_known}
use Rattle.heap_table.specs.Known.{CollectorKnown}
use Rattle.heap_table.specs.SeatHeld.{SeatHeld}
use Rattle.log_merge.proofs.SameLogs.{snoc_is_injective}
use Rattle.heap_runs.specs.Finishing.{HasGone, EndsUnused}
use Rattle.heap_runs.proofs.Behind.{gone_is_told, ends_behind_leaves}
use Rattle.heap_runs.proofs.Folding.{slots_of}

-- the logs in the slots of seats are the seats' own lists
logs_there : (seats : List SeatHeld) → map (λ slot. option_map_or (λ (seat : Seat). seat.mine) slot []) (slots_of seats) ≡ map (λ (held : SeatHeld). held.seat.mine) seats
logs_there [] = refl
logs_there (held ∷ seats) = ap (λ l. held.seat.mine ∷ l) (logs_there seats)

pub known_logs_are_lists : (known : CollectorKnown) (seats : List SeatHeld) → known.seats ≡ slots_of seats → logs_known known ≡ map (λ (held : SeatHeld). held.seat.mine) seats ++ known.collector.log ∷ []
known_logs_are_lists known seats seat_slots = ap (λ l. map (λ slot. option_map_or (λ (seat : Seat). seat.mine) slot []) l ++ known.collector.log ∷ []) seat_slots ∙ ap (λ l. l ++ known.collector.log ∷ []) (logs_there seats)

module _ (table : TableId) (heap : Heap) (history : List Entry) where
  -- of seats that follow one another, whose lists are their parts of the history, each has left by the history
  gone_from : (k : ℕ) (seats : List SeatHeld) → map (λ held. held.number) seats ≡ range_with_len k (length seats)
      → map (λ held. held.seat.mine) seats ≡ map (λ n. filter (is_of n) history) (range_with_len k (length seats)) → AllByRecursion (HasGone table heap) seats
      → (n : ℕ) → k ≤ n → n < k + length seats → has_left n history ≡ true
  gone_from k [] numbers parts gone n from to = absurd (omega (arith, from, to))
  gone_from k (held ∷ seats) numbers parts gone n from to =
      let number : held.number ≡ k = cc numbers in
      let mine : held.seat.mine ≡ filter (is_of k) history = cc parts in
      elim (eqb_tells n k) as (λ _. has_left n history ≡ true) [
        | inl same ↦ gone_is_told n history (subst (λ m. has_left m (filter (is_of m) history) ≡ true) (sym same.1) (rw (sym mine, sym number) gone.0.told))
        | inr apart ↦ gone_from (k + 1) seats (cc numbers) (cc parts) gone.1 n (omega (arith, from, apart.1)) (omega (arith, to))
      ]

-- its one history ends behind the leaves, and nothing is in use
pub history_ends_unused : EachLastCycleBalances → (table : TableId) (closed : ClosedTable) (seats : List SeatHeld) (earlier : List Entry) (cycle kept : ℕ) → HasOneHistory closed
    → closed.logs ≡ map (λ held. held.seat.mine) seats ++ (earlier ++ Ends cycle kept ∷ []) ∷ [] → map (λ held. held.number) seats ≡ range_with_len 0 closed.heap.seats
    → AllByRecursion (HasGone table closed.heap) seats → closed.folded ≤ cycle_phases * cycle → EndsUnused closed
history_ends_unused balances table closed seats earlier cycle kept one logs numbers gone began =
    let many : length seats ≡ closed.heap.seats = sym (length-map seats (λ (held : SeatHeld). held.number)) ∙ ap length numbers ∙ length-range_with_len 0 closed.heap.seats in
    let both = snoc_is_injective (map (λ held. held.seat.mine) seats) (map (λ n. filter (is_of n) one.history) (range_with_len 0 closed.heap.seats)) _ (filter is_collectors one.history) (sym logs ∙ one.logs_are) in
    let ends = ends_behind_leaves closed.heap false one.history one.legal closed.folded one.seats_before earlier cycle kept (sym both.1) began
    (λ n below. gone_from table closed.heap one.history 0 seats (numbers ∙ ap (range_with_len 0) (sym many)) (both.0 ∙ ap (λ m. map (λ n. filter (is_of n) one.history) (range_with_len 0 m)) (sym many)) gone n (omega arith) (omega (arith, below, many))) in
    let balance = balances closed.heap one.state one.book ends.before ends.cycle ends.kept one.stands.rule (one.its_history ∙ ends.last) ends.left in
    record {
      one = one;
      ends = ends;
      none_used = subst (λ h. fragments_gained closed.heap h ≡ fragments_lost h) one.its_history balance.0;
      all_returned = subst (λ h. words_granted h ≡ words_returned h) one.its_history balance.1;
    }
