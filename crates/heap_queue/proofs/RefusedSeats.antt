-- The seats of a run that was refused its queue leave, and the closed table shows that the board has all.
use Rattle.std.proofs.Common.{◌≡◌, ℕ, ◌*◌, ◌<◌, inl, inr, false, cond, List, [], ◌∷◌, ◌++◌, length, map, get_or, sym, ap, ◌∙◌, subst, append_assoc, arith}
use Rattle.std.specs.Prelude.{All}
use Rattle.std.specs.List.{range_with_len}
use Rattle.std.proofs.lemmas.Bool.{cases_lt}
use Rattle.std.proofs.lemmas.List.Elements.{AllZip-get_or, length_all_zip}
use Rattle.std.proofs.lemmas.List.Sums.{sum_by-append}
use Rattle.std.proofs.lemmas.Option.{get_or_from_slice_get, slice_get_within}
use Rattle.atomic_table.specs.Seated.{TableId}
use Rattle.heap_model.specs.Heap.{IsHeap}
use Rattle.heap_model.specs.Limits.{group_fragments}
use Rattle.heap_model.specs.Logs.{log_of, logs_of}
use Rattle.heap_model.specs.Needs.{record_fragments}
use Rattle.heap_model.specs.account.Account.{IsLegal}
use Rattle.heap_model.specs.account.Effects.{effect_of, is_of}
use Rattle.heap_model.specs.account.Space.{taken_of, spent_of}
use Rattle.heap_model.specs.calls.SeatCalls.{leave_entries}
use Rattle.heap_model.specs.declared.command.Command.TheVariants.{New}
use Rattle.heap_model.specs.declared.entry.Entry.{Entry}
use Rattle.heap_model.specs.declared.entry.Entry.TheVariants.{Said}
use Rattle.heap_model.specs.declared.heap.Heap.{Heap}
use Rattle.heap_model.specs.declared.refusal.Full.{Full}
use Rattle.heap_model.specs.declared.reply.Reply.TheVariants as replies
use Rattle.heap_table.specs.Closed.{ClosedTable, HasOneHistory}
use Rattle.heap_table.specs.SeatHeld.{SeatHeld}
use Rattle.heap_runs.specs.Finishing.{HasGone, HasLogs}
use Rattle.heap_runs.specs.SeatWork.{IsOfTable}
use Rattle.heap_runs.proofs.RunsEnd.{same_numbers}
use Rattle.core_rule.proofs.told.OwnLists.{total_of_own_entries}
use Rattle.heap_queue.specs.Leaving.{Leaves, EachLeaves}
use Rattle.heap_queue.specs.Opening.{AreRefused}
use Rattle.heap_queue.proofs.ClosedLogs.{as_many, number_is_place, log_there, none_past}
use Rattle.heap_queue.proofs.LeavingSeats.{has_gone, takes_no_more}
use Rattle.heap_queue.proofs.NoneTaken.{board_has_all}

module _ (olds news : List SeatHeld) (left : EachLeaves olds news) where
  together : length olds ≡ length news
  together = length_all_zip Leaves olds news left

  one_left : (k : ℕ) (d : SeatHeld) → k < length olds → Leaves (get_or olds k d) (get_or news k d)
  one_left k d few = AllZip-get_or Leaves olds news k d d left few

  -- the seats have the numbers that they had
  pub numbers_stay : map (λ seat. seat.number) news ≡ map (λ seat. seat.number) olds
  numbers_stay = same_numbers olds news (sym together) (λ k old new was now.
      let one = AllZip-get_or Leaves olds news k old new left (slice_get_within olds k old was) in
      sym (ap (λ (seat : SeatHeld). seat.number) (get_or_from_slice_get news k new new now)) ∙ (one.number_stays ∙ ap (λ (seat : SeatHeld). seat.number) (get_or_from_slice_get olds k old old was)))

  -- each has gone
  pub all_gone : (table : TableId) (heap : Heap) → All (IsOfTable table heap) olds → All (HasGone table heap) news
  all_gone table heap of_table k d few =
      let within : k < length olds = omega (arith, few, together) in
      has_gone table heap (get_or olds k d) (get_or news k d) (of_table k d within) (one_left k d within)

  module _ (heap : Heap) (limits : IsHeap heap) (numbered : map (λ seat. seat.number) olds ≡ range_with_len 0 heap.seats) (full : Full) (refused : AreRefused olds full) (before : List Entry) (closed : ClosedTable)
      (of_heap : closed.heap ≡ heap) (logs : HasLogs news before closed) (one : HasOneHistory closed) where
    legal : IsLegal heap false one.history
    legal = subst (λ (h : Heap). IsLegal h false one.history) of_heap one.legal

    many : length news ≡ heap.seats
    many = as_many news heap.seats (numbers_stay ∙ numbered)

    log : (k : ℕ) (d : SeatHeld) → k < heap.seats → log_of k one.history ≡ (get_or news k d).seat.mine
    log = log_there heap news (before ++ logs.turned) one.history many (sym logs.logs_are ∙ (one.logs_are ∙ ap (λ (h : Heap). logs_of h one.history) of_heap))

    -- the log of a seat, which took nothing before it left
    takes_none : (k : ℕ) → taken_of k one.history ≡ 0
    takes_none k = elim (cases_lt k heap.seats) [
      | inl below ↦ (
          let d = refused.first in
          let old = get_or olds k d in
          let within : k < length olds = omega (arith, below, many, together) in
          let gone = one_left k d within in
          let place : old.number ≡ k = number_is_place olds heap.seats numbered k d below in
          sym (total_of_own_entries k (λ e. e.taken) one.history) ∙ (ap (taken_of k) (log k d below ∙ gone.mine)
          ∙ takes_no_more k old.number gone.unborn old.seat.mine (ap (λ (n : ℕ). taken_of n old.seat.mine) (sym place) ∙ refused.took k d within)))
      | inr past ↦ sym (total_of_own_entries k (λ e. e.taken) one.history) ∙ ap (taken_of k) (none_past heap one.history legal.objects k past)
    ]

    -- the board has all
    pub board_has_each : group_fragments * heap.groups ≡ record_fragments heap.board
    board_has_each =
        let d = refused.first in
        let within : 0 < length olds = slice_get_within olds 0 d refused.here in
        let first : get_or olds 0 d ≡ d = get_or_from_slice_get olds 0 d d refused.here in
        let gone = one_left 0 d within in
        let its = refused.refused in
        let mine : (get_or olds 0 d).seat.mine ≡ its.before ++ Said its.number (New 15 2) (replies.Full 1 0) ∷ [] = ap (λ (s : SeatHeld). s.seat.mine) first ∙ its.log_is in
        let leaving = leave_entries (get_or olds 0 d).number gone.unborn in
        let whole : log_of 0 one.history ≡ its.before ++ Said its.number (New 15 2) (replies.Full 1 0) ∷ leaving
        = log 0 d (omega (arith, within, many, together)) ∙ (gone.mine ∙ (ap (λ (l : List Entry). l ++ leaving) mine ∙ append_assoc its.before (Said its.number (New 15 2) (replies.Full 1 0) ∷ []) leaving)) in
        let part = λ (f : Entry → ℕ). sum_by-append f its.before (Said its.number (New 15 2) (replies.Full 1 0) ∷ []) in
        let all : spent_of 0 (its.before ++ Said its.number (New 15 2) (replies.Full 1 0) ∷ []) ≡ 0 = subst (λ (l : List Entry). spent_of 0 l ≡ 0) its.log_is its.spent in
        let spent : spent_of 0 its.before ≡ 0
        = omega (arith, all, part (λ e. cond (is_of 0 e) (effect_of e).given 0), part (λ e. cond (is_of 0 e) (effect_of e).born 0)) in
        board_has_all heap one.history legal takes_none limits its.number its.before leaving spent whole
