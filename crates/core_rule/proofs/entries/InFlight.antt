-- A call in flight: its point, and where it began.
use Rattle.std.proofs.Common.{◌≡◌, ℕ, ◌*◌, ◌≤◌, false, List, [], ◌∷◌, ◌++◌, length, drop, refl, subst, arith}
use Rattle.std.proofs.lemmas.List.{drop-append-le, length-append}
use Rattle.core_rule.proofs.Terms.{Entry, Heap, is_reply_to, Granting, Withdrawing, Gathering, GivingBack, Refusing, Placing, Listing, Bearing, Point, FitsPoint, Seat, Began}
use Rattle.core_rule.proofs.Terms.{IsAnswered, IsAwaited}
use Rattle.heap_model.proofs.account_lemmas.Windows.{any_with_entry_more}
use Rattle.core_machine.specs.declared.point.Making.{Making}
use Rattle.core_machine.specs.declared.point.Making.TheVariants.{Storing}
use Rattle.core_machine.specs.declared.point.Point.TheVariants as points

-- whoever makes an object has no reply yet
pub making_is_not_answered : (making : Making) (point : Point) → point ≡ points.Making making → ¬ IsAnswered point
making_is_not_answered making point is answered = subst IsAnswered is answered

-- and awaits no name
pub making_awaits_none : (making : Making) (point : Point) (d r : ℕ) → point ≡ points.Making making → ¬ IsAwaited point d r
making_awaits_none making point d r is awaited = subst (λ p. IsAwaited p d r) is awaited

-- no more groups are tried than there are
pub tried_within_groups : (heap : Heap) (seat : Seat) (point : Point) → FitsPoint heap seat point → seat.tried ≤ heap.groups
tried_within_groups heap seat points.Idle fits = omega (arith, fits.none_tried)
tried_within_groups heap seat (points.Access point) fits = omega (arith, fits.none_tried)
tried_within_groups heap seat (points.Polling point) fits = omega (arith, fits.none_tried)
tried_within_groups heap seat (points.Making Withdrawing) fits = omega (arith, fits.rests.none_tried)
tried_within_groups heap seat (points.Making Gathering) fits = omega (arith, fits.groups_left)
tried_within_groups heap seat (points.Making GivingBack) fits = omega (arith, fits.0.all_tried)
tried_within_groups heap seat (points.Making Refusing) fits = omega (arith, fits.0.all_tried)
tried_within_groups heap seat (points.Making Placing) fits = omega (arith, fits.0.0.none_tried)
tried_within_groups heap seat (points.Making Listing) fits = omega (arith, fits.0.0.none_tried)
tried_within_groups heap seat _ fits = omega (arith, fits.0.none_tried)

-- no more is stored than the object has
pub stored_within_body : (heap : Heap) (seat : Seat) (point : Point) → FitsPoint heap seat point → seat.stored ≤ 4 * length seat.body
stored_within_body heap seat points.Local fits = omega (arith, fits.0.none_stored)
stored_within_body heap seat (points.Leaving point) fits = omega (arith, fits.0.none_stored)
stored_within_body heap seat (points.Collecting point) fits = omega (arith, fits.0.none_stored)
stored_within_body heap seat (points.Making Granting) fits = omega (arith, fits.0.none_stored)
stored_within_body heap seat (points.Making Withdrawing) fits = omega (arith, fits.rests.none_stored)
stored_within_body heap seat (points.Making Placing) fits = omega (arith, fits.0.2.none_stored)
stored_within_body heap seat (points.Making Listing) fits = omega (arith, fits.0.2.none_stored)
stored_within_body heap seat (points.Making GivingBack) fits = omega (arith, fits.0.none_stored)
stored_within_body heap seat (points.Making Refusing) fits = omega (arith, fits.0.none_stored)
stored_within_body heap seat (points.Making Storing) fits = omega (arith, fits.2)
stored_within_body heap seat (points.Making Bearing) fits = omega (arith, fits.3)
stored_within_body heap seat _ fits = omega (arith, fits.none_stored)

-- the window of a call grows by the entry
pub window_grows_by_entry : (history : List Entry) (begun : ℕ) (entry : Entry) → begun ≤ length history → drop begun (history ++ entry ∷ []) ≡ drop begun history ++ entry ∷ []
window_grows_by_entry history begun entry earlier = drop-append-le begun history (entry ∷ []) earlier

-- a call goes on past an entry that is no reply to it
pub began_after_entry : (history : List Entry) (entry : Entry) (number begun : ℕ) (point now : Point) → is_reply_to number entry ≡ false → (¬ IsAnswered now → ¬ IsAnswered point)
    → Began history number begun point → Began (history ++ entry ∷ []) number begun now
began_after_entry history entry number begun point now no_reply busy began = record {
  earlier = rw (length-append history (entry ∷ [])) (omega (arith, began.earlier));
  unanswered = λ still. rw (window_grows_by_entry history begun entry began.earlier, any_with_entry_more (is_reply_to number) (drop begun history) entry, began.unanswered (busy still), no_reply) refl;
}

-- and where no entry is added
pub began_without_entry : (history : List Entry) (number begun : ℕ) (point now : Point) → ¬ IsAnswered point → Began history number begun point → Began history number begun now
began_without_entry history number begun point now busy began = record { earlier = began.earlier; unanswered = λ still. began.unanswered busy }

-- a seat that is told stands idle
pub began_idle_after_reply : (history : List Entry) (entry : Entry) (number begun : ℕ) (point : Point) → Began history number begun point → Began (history ++ entry ∷ []) number begun points.Idle
began_idle_after_reply history entry number begun point began = record {
  earlier = rw (length-append history (entry ∷ [])) (omega (arith, began.earlier));
  unanswered = λ busy. absurd (busy tt);
}
