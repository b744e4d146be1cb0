-- The spine words that a call finds to be in use are what a run may show, also once others' entries came.
use Rattle.std.proofs.Common.{◌≡◌, ℕ, false, List, [], ◌∷◌, ◌++◌, arith}
use Rattle.core_rule.proofs.Terms.{Entry, Heap, is_of, is_reply_to, since_reply, Withdrawing, Point, Seat, UsedStands}
use Rattle.heap_model.specs.account.Refusals.{FindsSpine}
use Rattle.heap_model.proofs.Histories.{total-more}
use Rattle.heap_model.proofs.account_lemmas.Windows.{after_last-no}
use Rattle.core_machine.specs.declared.point.Point.TheVariants as points
use Rattle.core_rule.proofs.counts.EffectSums.{total_but_grows_by_other}
use Rattle.core_rule.proofs.entries.Others.{is_no_reply_to_other}

module _ (heap : Heap) (number : ℕ) (history : List Entry) (entry : Entry) (other : is_of number entry ≡ false) where
  -- an entry of another makes what was found be missed or counted as far as it may
  finds_stays : (used : ℕ) → FindsSpine heap false history number used → FindsSpine heap false (history ++ entry ∷ []) number used
  finds_stays used finds =
      let since : since_reply number (history ++ entry ∷ []) ≡ since_reply number history ++ entry ∷ [] = after_last-no (is_reply_to number) history entry (is_no_reply_to_other number entry other) in
      let granted = total-more (λ e. e.words) history entry in
      let returned = total-more (λ e. e.returned) history entry in
      let others = total_but_grows_by_other number (λ e. e.words) (since_reply number history) entry other in
      let returned_since = total-more (λ e. e.returned) (since_reply number history) entry in
      rw since (omega (arith, finds.0, granted, returned, others), omega (arith, finds.1, granted, returned, returned_since))

  pub used_stands_after_other_entry : (seat : Seat) (point : Point) → UsedStands heap history number seat point → UsedStands heap (history ++ entry ∷ []) number seat point
  used_stands_after_other_entry seat (points.Making Withdrawing) used = (finds_stays seat.used used.0, used.1)
  used_stands_after_other_entry seat _ used = tt
