-- What the storing and bearing of a record comes to, by whatever steps it was made.
use Rattle.std.proofs.Common.{◌≡◌, ℕ, ◌+◌, ◌*◌, ◌≤◌, List, [], ◌∷◌, ◌++◌, length, refl, sym, ap, subst, ◌∙◌, length-append, arith, inl, inr}
use Rattle.heap_model.specs.Needs.{need_of}
use Rattle.heap_model.specs.declared.command.Command.TheVariants.{New}
use Rattle.heap_model.specs.declared.entry.Entry.{Entry}
use Rattle.heap_model.specs.declared.entry.Entry.TheVariants.{Said}
use Rattle.heap_model.specs.declared.heap.Heap.{Heap}
use Rattle.heap_model.specs.declared.id.Id.{Id}
use Rattle.heap_model.specs.declared.id.Id.TheVariants.{Made as MadeBy}
use Rattle.heap_model.specs.declared.reply.Reply.{Reply}
use Rattle.heap_model.specs.declared.reply.Reply.TheVariants as replies
use Rattle.core_machine.specs.calls.Kept.{Kept, kept_of}
use Rattle.core_machine.specs.calls.Making.{name_after, HasStored}
use Rattle.core_machine.specs.calls.OwnStage.{StageAt}
use Rattle.core_machine.specs.calls.Replies.{StandsOn, IsMade}
use Rattle.core_machine.specs.declared.point.Making.TheVariants.{Storing}
use Rattle.core_machine.specs.declared.point.Point.TheVariants as points
use Rattle.core_machine.specs.declared.step.Step.{Step}
use Rattle.core_machine.specs.seat.Commands.{IsArrayCall}
use Rattle.core_machine.specs.seat.Fits.{FitsPoint}
use Rattle.core_machine.specs.seat.Seat.{Seat, no_spot}
use Rattle.heap_table.specs.Made.{Made, FoundIn, MakesSteps, IsSound}
use Rattle.heap_table.specs.SeatHeld.{SeatHeld}
use Rattle.heap_table.specs.StepLaws.{EachStageGoesAlong}
use Rattle.object_chain.specs.Bearing.{BeginsBearing, IsBorn, HoldsNewborn}
use Rattle.object_chain.proofs.MadeObjects.{brought, brought_has_object, WasAnswered, begun_call_was_answered, made_body_is_fragments, made_body_is_born, seat_holds_newborn, newborn_reply_is_told}

-- a call that has what a record needs is answered by its id
made_of : (tells : Step → ℕ → Type 0) (heap : Heap) (number d fields : ℕ) (before kept : Kept) (first : List Entry) (reply : Reply) → need_of (New d fields) ≤ length before.reserve
    → StandsOn tells heap number (New d fields) before kept first reply → (id : Id) × (reply ≡ replies.Made id) × IsMade tells heap number (New d fields) before kept first id
made_of tells heap number d fields before kept first (replies.Made id) enough stands = (id, refl, stands)
made_of tells heap number d fields before kept first (replies.Got value stamp) enough stands = absurd stands.a_get
made_of tells heap number d fields before kept first (replies.Was stamp) enough (inl stands) = absurd stands.a_set
made_of tells heap number d fields before kept first (replies.Was stamp) enough (inr stands) = absurd stands.compared.a_cas
made_of tells heap number d fields before kept first (replies.Now stamp) enough stands = absurd stands.compared.a_cas
made_of tells heap number d fields before kept first replies.Done enough stands = absurd stands.local
made_of tells heap number d fields before kept first replies.Yes enough stands = absurd stands.local
made_of tells heap number d fields before kept first replies.No enough stands = absurd stands.local
made_of tells heap number d fields before kept first (replies.Length n) enough stands = let e = stands.a_len in cc
made_of tells heap number d fields before kept first (replies.Phase p) enough stands = let e = stands.a_poll in cc
made_of tells heap number d fields before kept first (replies.Cycle j) enough stands = absurd stands
made_of tells heap number d fields before kept first (replies.Waits seat answered phase) enough stands = absurd stands
made_of tells heap number d fields before kept first replies.NoObject enough stands = absurd stands.local
made_of tells heap number d fields before kept first replies.NoField enough stands = absurd stands.names
made_of tells heap number d fields before kept first (replies.Full need found) enough stands =
    absurd (omega (arith, stands.too_few, stands.found_is, stands.shown_is, enough))
made_of tells heap number d fields before kept first (replies.SpineFull need used) enough stands = absurd stands.an_array

module _ (along : EachStageGoesAlong) (made : List Made) (old new : SeatHeld) (fragments : List ℕ) (fields d : ℕ) (begins : BeginsBearing old fragments fields d) (sound : IsSound old) (makes : MakesSteps old new made)
    (over : new.seat.point ≡ points.Idle) where
  abbrev tells : Step → ℕ → Type 0
  tells = FoundIn made

  abbrev before : Seat
  before = brought old.seat

  fits_there : FitsPoint old.heap old.seat (points.Making Storing)
  fits_there = subst (FitsPoint old.heap old.seat) begins.point_is sound.fits.at_point

  no_array : IsArrayCall old.seat.command → ⊥
  no_array an_array = subst IsArrayCall begins.command_is an_array

  begins_so : StageAt tells old.heap old.number (kept_of before) old.seat [] old.seat.point
  begins_so = subst (StageAt tells old.heap old.number (kept_of before) old.seat []) (sym begins.point_is)
      (brought_has_object tells old sound fits_there.0.whole (λ an_array. absurd (no_array an_array)), λ an_array. absurd (no_array an_array), λ k below. absurd (omega (arith, below, begins.none_stored)))

  was : WasAnswered tells old new (New d fields)
  was = begun_call_was_answered along [] made old new (New d fields) sound makes over begins.command_is begins_so

  needed : length old.seat.body ≡ need_of (New d fields)
  needed = fits_there.0.whole ∙ ap need_of begins.command_is

  is_made : (id : Id) × (was.answered.reply ≡ replies.Made id) × IsMade tells old.heap old.number (New d fields) (kept_of before) (kept_of new.seat) was.answered.first id
  is_made = made_of tells old.heap old.number d fields (kept_of before) (kept_of new.seat) was.answered.first was.answered.reply
      (omega (arith, length-append old.seat.body old.seat.reserve, needed)) was.answered.stands

  pub born_words_are_stored : HasStored tells (New d fields) (name_after old.number old.seat.made) no_spot fragments (4 * length fragments)
  born_words_are_stored = subst (λ (l : List ℕ). HasStored tells (New d fields) (name_after old.number old.seat.made) no_spot l (4 * length l))
      (made_body_is_fragments tells old new (New d fields) fragments was needed begins.body_is is_made) is_made.2.stored

  pub born_record_is_born : IsBorn made fragments
  born_record_is_born = made_body_is_born tells old new (New d fields) fragments was needed begins.body_is is_made made is_made.2.born is_made.2.last_born

  pub born_record_is_held : (id : Id) → MadeBy old.number old.seat.made ≡ id → new.seat.reserve ≡ old.seat.reserve → HoldsNewborn old new d fragments id
  born_record_is_held id is stays = seat_holds_newborn tells old new (New d fields) fragments was needed begins.body_is is_made id is over stays

  pub born_reply_is_told : (id : Id) → MadeBy old.number old.seat.made ≡ id → length new.seat.mine ≤ 1 + length old.seat.mine → new.seat.mine ≡ old.seat.mine ++ Said old.number (New d fields) (replies.Made id) ∷ []
  born_reply_is_told id is few = newborn_reply_is_told tells old new (New d fields) fragments was needed begins.body_is is_made id is few
