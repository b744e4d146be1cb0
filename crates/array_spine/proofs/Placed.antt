-- What the placing, storing and bearing of an array comes to, by whatever steps it was made.
use Rattle.std.proofs.Common.{◌≡◌, ℕ, ◌+◌, ◌*◌, ◌<◌, ◌≤◌, List, [], ◌∷◌, ◌++◌, length, refl, sym, ap, subst, ◌∙◌, inl, inr, length-append, arith}
use Rattle.std.proofs.lemmas.List.Elements.{Contains-append_cases, Contains-push_cases}
use Rattle.heap_words.specs.declared.spot.Spot.{Spot}
use Rattle.heap_model.specs.Needs.{need_of, spine_need_of}
use Rattle.heap_model.specs.declared.command.Command.{Command}
use Rattle.heap_model.specs.declared.command.Command.TheVariants.{Array}
use Rattle.heap_model.specs.declared.entry.Entry.{Entry}
use Rattle.heap_model.specs.declared.entry.Entry.TheVariants.{Said}
use Rattle.heap_model.specs.declared.heap.Heap.{Heap}
use Rattle.heap_model.specs.declared.id.Id.{Id}
use Rattle.heap_model.specs.declared.id.Id.TheVariants.{Made as MadeBy}
use Rattle.heap_model.specs.declared.reply.Reply.{Reply}
use Rattle.heap_model.specs.declared.reply.Reply.TheVariants as replies
use Rattle.core_machine.specs.calls.Kept.{Kept, kept_of, WasMade}
use Rattle.core_machine.specs.calls.Making.{HasSpine, name_after, HasStored, AreBorn}
use Rattle.core_machine.specs.calls.OwnStage.{StageAt}
use Rattle.core_machine.specs.calls.Replies.{StandsOn, IsMade}
use Rattle.core_machine.specs.declared.point.Making.TheVariants.{Placing}
use Rattle.core_machine.specs.declared.point.Point.TheVariants as points
use Rattle.core_machine.specs.declared.step.SpineStep.TheVariants.{BudgetAdd}
use Rattle.core_machine.specs.declared.step.Step.{Step}
use Rattle.core_machine.specs.declared.step.Step.TheVariants.{Spine}
use Rattle.core_machine.specs.seat.Fits.{FitsPoint}
use Rattle.core_machine.specs.seat.Seat.{Seat}
use Rattle.heap_table.specs.Made.{Made, FoundIn, MakesSteps, IsSound}
use Rattle.heap_table.specs.SeatHeld.{SeatHeld}
use Rattle.heap_table.specs.StepLaws.{EachStageGoesAlong}
use Rattle.object_chain.specs.Bearing.{IsBorn, HoldsNewborn}
use Rattle.object_chain.proofs.MadeObjects.{brought, brought_has_object, WasAnswered, begun_call_was_answered, made_body_is_fragments, made_body_is_born, seat_holds_newborn, newborn_reply_is_told}
use Rattle.array_spine.specs.Bearing.{BeginsPlacing, IsStored}

-- the words were asked for before, and so many were found to be in use
abbrev asked_for : ℕ → Made
asked_for words = record { step = Spine (BudgetAdd words); found = 0 }

-- what another step found than the one that asked was found by one of these
found_here : (words : ℕ) (made : List Made) (step : Step) (word : ℕ) → (Spine (BudgetAdd words) ≡ step → ⊥) → FoundIn (asked_for words ∷ made) step word → FoundIn made step word
found_here words made step word other here =
    elim (Contains-append_cases (asked_for words ∷ []) made (record { step = step; found = word }) here) as (λ _. FoundIn made step word) [ inl first ↦ absurd (apart first) | inr later ↦ later ]
  where
    apart : FoundIn (asked_for words ∷ []) step word → ⊥
    apart first = elim (Contains-push_cases [] (asked_for words) (record { step = step; found = word }) first) as (λ _. ⊥) [ inl none ↦ past none | inr same ↦ other (ap (λ (m : Made). m.step) same) ]
      where
        past : FoundIn [] step word → ⊥
        past none = let inside : none.0 < 0 = none.1 in omega (arith, inside)

-- what was made otherwise was made here
was_made_here : (words : ℕ) (made : List Made) (step : Step) → (Spine (BudgetAdd words) ≡ step → ⊥) → WasMade (FoundIn (asked_for words ∷ made)) step → WasMade (FoundIn made) step
was_made_here words made step other was = (was.0, found_here words made step was.0 other was.1)

spined_here : (words : ℕ) (made : List Made) (command : Command) (body : List ℕ) (spine : Spot) (listed : ℕ) → HasSpine (FoundIn (asked_for words ∷ made)) command body spine listed
    → HasSpine (FoundIn made) command body spine listed
spined_here words made command body spine listed has = record {
  word = has.word;
  told = found_here words made _ has.word (λ e. cc) has.told;
  place_is = has.place_is;
  lists = λ k below. was_made_here words made _ (λ e. cc) (has.lists k below);
}

are_born_here : (words : ℕ) (made : List Made) (hand body : List ℕ) (births : List (List ℕ)) → AreBorn (FoundIn (asked_for words ∷ made)) hand body births → AreBorn (FoundIn made) hand body births
are_born_here words made hand body [] are = are
are_born_here words made hand body (latest ∷ earlier) are = (
  record { group = are.0.group; black = are.0.black; of_group = are.0.of_group; made = was_made_here words made _ (λ e. cc) are.0.made },
  are_born_here words made (hand ++ latest) body earlier are.1,
)

-- a call that has what an array needs, and doesn't keep all that it has, is answered by its id
made_of : (tells : Step → ℕ → Type 0) (heap : Heap) (number d cells : ℕ) (before kept : Kept) (first : List Entry) (reply : Reply) → need_of (Array d cells) ≤ length before.reserve
    → length kept.reserve < length before.reserve → StandsOn tells heap number (Array d cells) before kept first reply
    → (id : Id) × (reply ≡ replies.Made id) × IsMade tells heap number (Array d cells) before kept first id
made_of tells heap number d cells before kept first (replies.Made id) enough fewer stands = (id, refl, stands)
made_of tells heap number d cells before kept first (replies.Got value stamp) enough fewer stands = absurd stands.a_get
made_of tells heap number d cells before kept first (replies.Was stamp) enough fewer (inl stands) = absurd stands.a_set
made_of tells heap number d cells before kept first (replies.Was stamp) enough fewer (inr stands) = absurd stands.compared.a_cas
made_of tells heap number d cells before kept first (replies.Now stamp) enough fewer stands = absurd stands.compared.a_cas
made_of tells heap number d cells before kept first replies.Done enough fewer stands = absurd stands.local
made_of tells heap number d cells before kept first replies.Yes enough fewer stands = absurd stands.local
made_of tells heap number d cells before kept first replies.No enough fewer stands = absurd stands.local
made_of tells heap number d cells before kept first (replies.Length n) enough fewer stands = let e = stands.a_len in cc
made_of tells heap number d cells before kept first (replies.Phase p) enough fewer stands = let e = stands.a_poll in cc
made_of tells heap number d cells before kept first (replies.Cycle j) enough fewer stands = absurd stands
made_of tells heap number d cells before kept first (replies.Waits seat answered phase) enough fewer stands = absurd stands
made_of tells heap number d cells before kept first replies.NoObject enough fewer stands = absurd stands.local
made_of tells heap number d cells before kept first replies.NoField enough fewer stands = absurd stands.names
made_of tells heap number d cells before kept first (replies.Full need found) enough fewer stands = absurd (omega (arith, stands.too_few, stands.found_is, stands.shown_is, enough))
made_of tells heap number d cells before kept first (replies.SpineFull need used) enough fewer stands = absurd (omega (arith, fewer, ap (λ (k : Kept). length k.reserve) stands.keeps))

module _ (along : EachStageGoesAlong) (made : List Made) (old new : SeatHeld) (fragments : List ℕ) (cells words d : ℕ) (begins : BeginsPlacing old fragments cells words d) (sound : IsSound old) (makes : MakesSteps old new made)
    (over : new.seat.point ≡ points.Idle) (stays : new.seat.reserve ≡ old.seat.reserve) where
  -- so many words were asked for before
  abbrev asked : ℕ
  asked = spine_need_of old.seat.command

  abbrev tells : Step → ℕ → Type 0
  tells = FoundIn (asked_for asked ∷ made)

  abbrev before : Seat
  before = brought old.seat

  fits_there : FitsPoint old.heap old.seat (points.Making Placing)
  fits_there = subst (FitsPoint old.heap old.seat) begins.point_is sound.fits.at_point

  begins_so : StageAt tells old.heap old.number (kept_of before) old.seat [] old.seat.point
  begins_so = subst (StageAt tells old.heap old.number (kept_of before) old.seat []) (sym begins.point_is)
      (brought_has_object tells old sound fits_there.0.0.whole (λ an_array. record { word = 0; told = (0, omega arith, refl); enough = omega (arith, begins.granted, begins.words_are) }))

  was : WasAnswered tells old new (Array d cells)
  was = begun_call_was_answered along (asked_for asked ∷ []) made old new (Array d cells) sound makes over begins.command_is begins_so

  needed : length old.seat.body ≡ need_of (Array d cells)
  needed = fits_there.0.0.whole ∙ ap need_of begins.command_is

  needed_words : spine_need_of (Array d cells) ≡ words
  needed_words = sym (ap spine_need_of begins.command_is) ∙ begins.words_are

  is_made : (id : Id) × (was.answered.reply ≡ replies.Made id) × IsMade tells old.heap old.number (Array d cells) (kept_of before) (kept_of new.seat) was.answered.first id
  is_made =
      let brings = length-append old.seat.body old.seat.reserve in
      made_of tells old.heap old.number d cells (kept_of before) (kept_of new.seat) was.answered.first was.answered.reply (omega (arith, brings, needed))
      (omega (arith, brings, needed, ap (length {A = ℕ}) stays)) was.answered.stands

  pub placed_words_are_stored : IsStored made (Array d cells) (name_after old.number old.seat.made) fragments words
  placed_words_are_stored =
      let is = is_made.2 in
      let body : is.body ≡ fragments = made_body_is_fragments tells old new (Array d cells) fragments was needed begins.body_is is_made in
      record {
        spine = is.spine;
        spined = subst (HasSpine (FoundIn made) (Array d cells) fragments is.spine) needed_words
            (subst (λ (l : List ℕ). HasSpine (FoundIn made) (Array d cells) l is.spine (spine_need_of (Array d cells))) body
            (spined_here asked made (Array d cells) is.body is.spine (spine_need_of (Array d cells)) (is.spined tt)));
        stored = subst (λ (l : List ℕ). HasStored (FoundIn made) (Array d cells) (name_after old.number old.seat.made) is.spine l (4 * length l)) body
            (λ k below. was_made_here asked made _ (λ e. cc) (is.stored k below));
      }

  pub placed_fragments_are_born : IsBorn made fragments
  placed_fragments_are_born =
      let is = is_made.2 in
      made_body_is_born tells old new (Array d cells) fragments was needed begins.body_is is_made made (record { births = is.born.births; are = are_born_here asked made is.last is.body is.born.births is.born.are })
      (was_made_here asked made _ (λ e. cc) is.last_born)

  pub placed_array_is_held : (id : Id) → MadeBy old.number old.seat.made ≡ id → HoldsNewborn old new d fragments id
  placed_array_is_held id is = seat_holds_newborn tells old new (Array d cells) fragments was needed begins.body_is is_made id is over stays

  pub placed_reply_is_told : (id : Id) → MadeBy old.number old.seat.made ≡ id → length new.seat.mine ≤ 1 + length old.seat.mine → new.seat.mine ≡ old.seat.mine ++ Said old.number (Array d cells) (replies.Made id) ∷ []
  placed_reply_is_told id is few = newborn_reply_is_told tells old new (Array d cells) fragments was needed begins.body_is is_made id is few
