-- What a gather comes to, by whatever steps it was made.
use Rattle.std.proofs.Common.{◌≡◌, ℕ, ◌+◌, ◌%◌, ◌<◌, ◌≤◌, true, false, List, [], ◌∷◌, ◌++◌, length, take, drop, refl, sym, ap, subst, ◌∙◌, inl, inr, append-nil, length-take, length-append, arith}
use Rattle.std.proofs.lemmas.List.Elements.{Contains-append_cases, Contains-push_cases}
use Rattle.heap_model.specs.Needs.{need_of, spine_need_of}
use Rattle.heap_model.specs.declared.command.Command.{Command}
use Rattle.heap_model.specs.declared.entry.Entry.{Entry}
use Rattle.heap_model.specs.declared.heap.Heap.{Heap}
use Rattle.core_machine.specs.calls.Claims.{AreOfTried, ClaimsGroup, IsGranted}
use Rattle.core_machine.specs.calls.Kept.{Kept, kept_of}
use Rattle.core_machine.specs.calls.Making.{HasObject}
use Rattle.core_machine.specs.calls.OwnStage.{StageAt, OwnStage}
use Rattle.core_machine.specs.declared.point.Making.TheVariants.{Refusing, Placing, Storing}
use Rattle.core_machine.specs.declared.point.Point.{Point}
use Rattle.core_machine.specs.declared.point.Point.TheVariants as points
use Rattle.core_machine.specs.declared.step.MakingStep.TheVariants.{Claim}
use Rattle.core_machine.specs.declared.step.SpineStep.TheVariants.{BudgetAdd}
use Rattle.core_machine.specs.declared.step.Step.{Step}
use Rattle.core_machine.specs.declared.step.Step.TheVariants.{Making, Spine}
use Rattle.core_machine.specs.seat.Commands.{IsArrayCall}
use Rattle.core_machine.specs.seat.Fits.{FitsPoint}
use Rattle.core_machine.specs.seat.Making.{settled_point, gather_next}
use Rattle.core_machine.specs.seat.Seat.{Seat, with_entries}
use Rattle.core_machine.proofs.call_lemmas.Awaits.{own_list_same_going_on}
use Rattle.core_machine.proofs.call_lemmas.GoingOn.{holds_of_every_group}
use Rattle.core_machine.proofs.own_stages.Claiming.{gathers_without_claim}
use Rattle.core_machine.proofs.own_stages.Gather.{going_on_keeps_command, stage_stands_going_on}
use Rattle.core_machine.proofs.seat_lemmas.Fitting.{object_need_within_limits}
use Rattle.core_machine.proofs.table_lemmas.Free.{claimed_group_has_none_clear}
use Rattle.heap_table.specs.Made.{Made, FoundIn, MakesSteps, IsSound}
use Rattle.heap_table.specs.SeatHeld.{SeatHeld}
use Rattle.heap_table.specs.StepLaws.{EachStageGoesAlong}
use Rattle.frag_claim.specs.Begins.{BeginsGathering}
use Rattle.frag_claim.specs.Due.{has_its_fragments}
use Rattle.frag_claim.specs.Gathered.{IsClaimed, HasGathered, IsExhausted, HasItsFragments, EndsClaiming}

-- what another step found than the one before these was found by one of these
found_behind : (asked : Made) (made : List Made) (step : Step) (word : ℕ) → (asked.step ≡ step → ⊥) → FoundIn (asked ∷ made) step word → FoundIn made step word
found_behind asked made step word other here =
    elim (Contains-append_cases (asked ∷ []) made (record { step = step; found = word }) here) as (λ _. FoundIn made step word) [ inl first ↦ absurd (apart first) | inr later ↦ later ]
  where
    apart : FoundIn (asked ∷ []) step word → ⊥
    apart first = elim (Contains-push_cases [] asked (record { step = step; found = word }) first) as (λ _. ⊥) [ inl none ↦ past none | inr same ↦ other (ap (λ (m : Made). m.step) same) ]
      where
        past : FoundIn [] step word → ⊥
        past none = let inside : none.0 < 0 = none.1 in omega (arith, inside)

-- the words were asked for before, and so many were found to be in use
abbrev asked_for : ℕ → Made
asked_for words = record { step = Spine (BudgetAdd words); found = 0 }

-- a claim was made here
is_claimed : (words : ℕ) (made : List Made) (claimed : List ℕ) (group : ℕ) → ClaimsGroup (FoundIn (asked_for words ∷ made)) claimed group → IsClaimed made claimed group
is_claimed words made claimed group claims = record {
  claim = record { word = claims.word; told = found_behind (asked_for words) made (Making (Claim group)) claims.word (λ e. cc) claims.told; got = claims.got };
  leaves = claimed_group_has_none_clear group claims.word;
}

no_entries : (seat : Seat) → with_entries seat [] ≡ seat
no_entries seat = ap (λ (mine : List Entry). record seat { mine = mine }) (append-nil seat.mine)

module _ (along : EachStageGoesAlong) (made : List Made) (old new : SeatHeld) (reserve : List ℕ) (cursor need_ : ℕ) (begins : BeginsGathering old reserve cursor need_) (sound : IsSound old) (makes : MakesSteps old new made) where
  abbrev before : Seat
  before = begins.before

  -- it asked for the spine words of its object before
  abbrev words : ℕ
  words = spine_need_of before.command

  abbrev tells : Step → ℕ → Type 0
  tells = FoundIn (asked_for words ∷ made)

  -- the call stands so where the gather begins
  begins_so : OwnStage tells old.heap old.number before.command before old.seat []
  begins_so =
      let next = gather_next old.heap before in
      let granted : IsArrayCall before.command → IsGranted tells old.heap before.command = λ an_array. record { word = 0; told = (0, omega arith, refl); enough = omega (arith, begins.granted an_array) } in
      let few : length before.reserve ≤ 15 = omega (arith, begins.few, ap (length {A = ℕ}) begins.reserve_is) in
      let none = gathers_without_claim tells old.heap old.number before.command (kept_of before) before.hand before.tried [] granted few begins.rests.empty_hand begins.rests.none_tried refl in
      let on = stage_stands_going_on tells old.heap old.number before [] [] begins.rests.none_given begins.rests.none_stored none in
      subst (λ (s : Seat). OwnStage tells old.heap old.number before.command before s []) (sym begins.goes_on) (record {
        same = going_on_keeps_command old.heap before;
        mine = own_list_same_going_on old.heap before ∙ sym (append-nil before.mine);
        stage = subst (λ (s : Seat). StageAt tells old.heap old.number (kept_of before) s [] next.point) (no_entries next) on;
      })

  -- and so where it has ended
  ends_so : (told : List Entry) × OwnStage tells old.heap old.number before.command before new.seat told
  ends_so = along (asked_for words ∷ []) made old.heap old.number before.command before old.seat new.seat [] sound.limits (omega (arith, sound.within, sound.limits.seats_fit)) sound.fits makes.leads begins_so

  -- the object has its fragments
  object_at : (point : Point) (told : List Entry) → has_its_fragments point ≡ true → StageAt tells old.heap old.number (kept_of before) new.seat told point
      → HasObject tells old.heap old.number new.seat.command (kept_of before) (kept_of new.seat) new.seat.body told
  object_at (points.Making Placing) told e stage = stage
  object_at (points.Making Storing) told e stage = stage.0
  object_at _ told e stage = absurd (differ e)
    where
      differ : false ≡ true → ⊥
      differ e = cc

  -- its command stays
  pub gather_keeps_command : new.seat.command ≡ old.seat.command
  gather_keeps_command = ends_so.1.same ∙ sym (going_on_keeps_command old.heap before) ∙ ap (λ (s : Seat). s.command) (sym begins.goes_on)

  need_is : need_of new.seat.command ≡ need_
  need_is = ap need_of ends_so.1.same ∙ begins.need_is

  pub has_gathered_enough : has_its_fragments new.seat.point ≡ true → HasGathered made old.heap.groups cursor need_ reserve new.seat.reserve new.seat.body
  has_gathered_enough e =
      let object = object_at new.seat.point ends_so.0 e ends_so.1.stage in
      record {
        claimed = object.claimed;
        tried = object.tried;
        claims = record {
          few = object.gathered.few;
          of_tried = subst (λ (n : ℕ). AreOfTried old.heap.groups n object.tried object.claimed) begins.cursor_is object.gathered.of_tried;
          claims = λ i below. is_claimed words made object.claimed ((cursor + i) % old.heap.groups)
              (subst (λ (n : ℕ). ClaimsGroup tells object.claimed ((n + i) % old.heap.groups)) begins.cursor_is (object.gathered.claims i below));
        };
        hand_is = object.body_is ∙ ap (λ (n : ℕ). take n (before.reserve ++ object.claimed)) need_is ∙ ap (λ (l : List ℕ). take need_ (l ++ object.claimed)) begins.reserve_is;
        rest_is = ap (λ (k : Kept). k.reserve) object.kept_is ∙ ap (λ (n : ℕ). drop n (before.reserve ++ object.claimed)) need_is ∙ ap (λ (l : List ℕ). drop need_ (l ++ object.claimed)) begins.reserve_is;
      }

  pub gathered_is_what_is_needed : has_its_fragments new.seat.point ≡ true → length new.seat.body ≡ need_
  gathered_is_what_is_needed e =
      let object = object_at new.seat.point ends_so.0 e ends_so.1.stage in
      let long = length-append before.reserve object.claimed in
      ap (length {A = ℕ}) object.body_is ∙ omega (arith, length-take (need_of new.seat.command) (before.reserve ++ object.claimed), long, object.enough, need_is)

  pub gathered_has_its_fragments : EndsClaiming new → has_its_fragments new.seat.point ≡ true → (hand : List ℕ) → hand ≡ new.seat.body → HasItsFragments old new hand
  gathered_has_its_fragments ends e hand is = record {
    same = gather_keeps_command;
    point_is = ends.settled e ∙ ap (λ (command : Command). points.Making (settled_point command)) gather_keeps_command;
    body_is = sym is;
    none_stored = ends.none_stored;
  }

  -- at the refusal all was claimed, and is given back
  pub refused_heap_is_exhausted : (found : ℕ) → IsSound new → new.seat.point ≡ points.Making Refusing → found ≡ length reserve + new.seat.given → IsExhausted made old.heap.groups reserve found × (found < need_)
  refused_heap_is_exhausted found sound_then is counted =
      let stage = subst (StageAt tells old.heap old.number (kept_of before) new.seat ends_so.0) is ends_so.1.stage in
      let up = stage.1 in
      let fits : FitsPoint new.heap new.seat (points.Making Refusing) = subst (FitsPoint new.heap new.seat) is sound_then.fits.at_point in
      let none = ap (length {A = ℕ}) fits.1 in
      let all = up.all in
      let kept = ap (length {A = ℕ}) begins.reserve_is in
      let few = up.too_few in
      let same_cursor = ap (λ (k : Kept). k.cursor) stage.0 ∙ begins.cursor_is in
      let same_groups = ap (λ (h : Heap). h.groups) makes.heap_stays in
      let within : cursor < old.heap.groups = omega (arith, sound_then.fits.own.cursor_within, same_cursor, same_groups) in (
        record {
          claimed = up.claimed;
          every = λ group below. holds_of_every_group old.heap.groups cursor old.heap.groups group (IsClaimed made up.claimed) within (omega arith) below
              (λ i less. is_claimed words made up.claimed ((cursor + i) % old.heap.groups)
              (subst (λ (n : ℕ). ClaimsGroup tells up.claimed ((n + i) % old.heap.groups)) begins.cursor_is (up.gathered.claims i less)));
          found_is = omega (arith, counted, all, none);
        },
        omega (arith, counted, all, none, kept, few, need_is),
      )

  -- and the reserve is as it was
  pub refused_keeps_reserve : new.seat.point ≡ points.Making Refusing → (reserve ≡ new.seat.reserve) × (cursor ≡ new.seat.cursor)
  refused_keeps_reserve is =
      let stage = subst (StageAt tells old.heap old.number (kept_of before) new.seat ends_so.0) is ends_so.1.stage in
      (sym (ap (λ (k : Kept). k.reserve) stage.0 ∙ begins.reserve_is), sym (ap (λ (k : Kept). k.cursor) stage.0 ∙ begins.cursor_is))

-- an object has at most 1,025 fragments
few_at : (held : SeatHeld) (point : Point) → has_its_fragments point ≡ true → FitsPoint held.heap held.seat point → length held.seat.body ≤ 1025
few_at held (points.Making Placing) e fits = let body = fits.0.0 in omega (arith, body.whole, object_need_within_limits held.seat.command body.makes.an_object body.makes.in_range)
few_at held (points.Making Storing) e fits = let body = fits.0 in omega (arith, body.whole, object_need_within_limits held.seat.command body.makes.an_object body.makes.in_range)
few_at held _ e fits = absurd (differ e)
  where
    differ : false ≡ true → ⊥
    differ e = cc

pub body_has_few_fragments : (held : SeatHeld) → IsSound held → has_its_fragments held.seat.point ≡ true → length held.seat.body ≤ 1025
body_has_few_fragments held sound e = few_at held held.seat.point e sound.fits.at_point
