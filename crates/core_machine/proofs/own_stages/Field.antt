-- A call reads or writes the field that it has reached.
use Rattle.std.proofs.Common.{◌≡◌, ℕ, List, [], ◌∷◌, ◌++◌, inl, Option, Some, None, refl, sym, subst}
use Rattle.std.specs.Prelude.{IsSome, unwrap_or}
use Rattle.core_machine.proofs.Terms.{head_of, stamp_of, Entry, Said, Heap, Kept, kept_of, IsUntold, StageAt, IsHeldOf, IsAnswered, Getting, Naming, LoadingOld, ShadingOld}
use Rattle.core_machine.proofs.Terms.{ShadingNew, Swapping, Object, Step, at_access, after_get, new_point_of, after_old_load, source_of, register_in, register_head, Seat}
use Rattle.core_machine.proofs.Terms.{with_entries, id_of, plain_of}
use Rattle.heap_model.specs.declared.id.Value.TheVariants as values
use Rattle.heap_model.specs.declared.reply.Reply.TheVariants as replies
use Rattle.core_machine.specs.calls.Reaching.{ReachesField}
use Rattle.core_machine.specs.declared.point.Point.TheVariants as points
use Rattle.core_machine.specs.declared.step.AccessStep.TheVariants.{NameLoad, GetLoad}
use Rattle.core_machine.specs.declared.step.Step.TheVariants as steps
use Rattle.core_machine.specs.seat.AccessMoves.{got_reply, got_adds, loaded_head_of, name_move, swap_move}
use Rattle.core_machine.proofs.call_lemmas.RepliesAlone.{get_replies_alone, set_replies_alone}
use Rattle.core_machine.proofs.moves.Standing.{IsAt}
use Rattle.core_machine.proofs.own_stages.Leading.{PointLeads, holds_with_nothing_told, holds_of_untold, reply_alone_answers}

module _ (tells : Step → ℕ → Type 0) where
  -- the register holds the object that was named
  named : (word found : ℕ) (head : Option ℕ) → IsSome head → tells (steps.Access (NameLoad (unwrap_or head 0))) found → IsHeldOf tells word (Object (unwrap_or head 0) (id_of found)) head
  named word found None some tell = cc
  named word found (Some head) some tell = (found, tell, refl)

  -- by what the seat keeps now
  pub kept_field : {before : Kept} (seat : Seat) {told : List Entry} → IsUntold before (kept_of seat) told → ReachesField tells seat.command before seat.reached seat.part
      → ReachesField tells seat.command (kept_of seat) seat.reached seat.part
  kept_field seat untold reaches = subst (λ (b : Kept). ReachesField tells seat.command b seat.reached seat.part) (sym untold.kept_stays) reaches

  module _ (heap : Heap) (number : ℕ) (before : Kept) (seat : Seat) (told : List Entry) (here : IsAt heap number seat (points.Access Getting)) (untold : IsUntold before (kept_of seat) told)
      (reaches : ReachesField tells seat.command before seat.reached seat.part) (found : ℕ) (tell : tells (steps.Access (GetLoad seat.reached seat.part)) found) where
    got_leads : (head : Option ℕ) → head_of found ≡ head
        → ((after_get seat found head).mine ≡ seat.mine) × ((after_get seat found head).command ≡ seat.command)
        × StageAt tells heap number before (with_entries (after_get seat found head) (got_adds number seat found head)) (told ++ got_adds number seat found head) (after_get seat found head).point
    got_leads None is = (
      refl,
      refl,
      holds_of_untold (λ b t. IsAnswered tells heap number seat.command b (kept_of (after_get seat found None)) (t ++ Said number seat.command (got_reply (plain_of found) found) ∷ [])) untold
          (reply_alone_answers tells heap number seat.command (kept_of seat) (kept_of (after_get seat found None)) (got_reply (plain_of found) found) (get_replies_alone seat.command here.way.0.1) (record {
            a_get = here.way.0.1;
            reached = seat.reached;
            part = seat.part;
            field = kept_field seat untold reaches;
            word = found;
            told = tell;
            stamp_is = refl;
            register = plain_of found;
            held = subst (IsHeldOf tells found (plain_of found)) (sym is) refl;
            value_is = refl;
            kept_is = refl;
          })),
    )
    got_leads (Some head) is = (refl, refl, (holds_with_nothing_told (IsUntold before (kept_of seat)) told untold, (reaches, tell)))

  -- the field was loaded
  pub point_leads_at_getting : PointLeads tells (points.Access Getting)
  point_leads_at_getting heap number before seat told here stage found tell =
      let got = got_leads heap number before seat told here stage.0 stage.1 found tell (head_of found) refl in
      record { kept = got.0; same = got.1; stage = got.2 }

  -- the name was loaded of what it refers to
  pub point_leads_at_naming : PointLeads tells (points.Access Naming)
  point_leads_at_naming heap number before seat told here stage found tell =
      let last = kept_of ((name_move number seat).told found) in
      let reply = replies.Got (values.Object (id_of found)) (stamp_of seat.loaded) in
      record {
        kept = refl;
        same = refl;
        stage = holds_of_untold (λ b t. IsAnswered tells heap number seat.command b last (t ++ Said number seat.command reply ∷ [])) stage.0
            (reply_alone_answers tells heap number seat.command (kept_of seat) last reply (get_replies_alone seat.command here.way.0.1) (record {
              a_get = here.way.0.1;
              reached = seat.reached;
              part = seat.part;
              field = kept_field seat stage.0 stage.1.0;
              word = seat.loaded;
              told = stage.1.1;
              stamp_is = refl;
              register = Object (loaded_head_of seat) (id_of found);
              held = named seat.loaded found (head_of seat.loaded) here.way.1 tell;
              value_is = refl;
              kept_is = refl;
            }));
      }

  -- the old value is dealt with
  old_leads_on : (heap : Heap) (number : ℕ) (before : Kept) (seat : Seat) (told : List Entry) (loaded : ℕ) → IsUntold before (kept_of seat) told → ReachesField tells seat.command before seat.reached seat.part
      → (new : Option ℕ) → StageAt tells heap number before (with_entries (at_access (record seat { loaded = loaded }) (new_point_of new)) []) (told ++ []) (points.Access (new_point_of new))
  old_leads_on heap number before seat told loaded untold reaches None = (holds_with_nothing_told (IsUntold before (kept_of seat)) told untold, reaches)
  old_leads_on heap number before seat told loaded untold reaches (Some head) = (holds_with_nothing_told (IsUntold before (kept_of seat)) told untold, reaches)

  old_found_leads : (heap : Heap) (number : ℕ) (before : Kept) (seat : Seat) (told : List Entry) (found : ℕ) → IsUntold before (kept_of seat) told → ReachesField tells seat.command before seat.reached seat.part
      → (head : Option ℕ) → ((after_old_load (record seat { loaded = found }) head).mine ≡ seat.mine) × ((after_old_load (record seat { loaded = found }) head).command ≡ seat.command)
      × StageAt tells heap number before (with_entries (after_old_load (record seat { loaded = found }) head) []) (told ++ []) (after_old_load (record seat { loaded = found }) head).point
  old_found_leads heap number before seat told found untold reaches None =
      (refl, refl, old_leads_on heap number before seat told found untold reaches (register_head (register_in seat.registers (source_of seat.command))))
  old_found_leads heap number before seat told found untold reaches (Some head) = (refl, refl, (holds_with_nothing_told (IsUntold before (kept_of seat)) told untold, reaches))

  -- it was loaded
  pub point_leads_at_loading_old : PointLeads tells (points.Access LoadingOld)
  point_leads_at_loading_old heap number before seat told here stage found tell =
      let old = old_found_leads heap number before seat told found stage.0 stage.1 (head_of found) in
      record { kept = old.0; same = old.1; stage = old.2 }

  -- it was shaded
  pub point_leads_at_shading_old : PointLeads tells (points.Access ShadingOld)
  point_leads_at_shading_old heap number before seat told here stage found tell = record {
    kept = refl;
    same = refl;
    stage = old_leads_on heap number before seat told seat.loaded stage.0 stage.1 (register_head (register_in seat.registers (source_of seat.command)));
  }

  -- the new value was shaded
  pub point_leads_at_shading_new : PointLeads tells (points.Access ShadingNew)
  point_leads_at_shading_new heap number before seat told here stage found tell =
      record { kept = refl; same = refl; stage = (holds_with_nothing_told (IsUntold before (kept_of seat)) told stage.0, stage.1) }

  -- the field got its new word
  pub point_leads_at_swapping : PointLeads tells (points.Access Swapping)
  point_leads_at_swapping heap number before seat told here stage found tell =
      let last = kept_of ((swap_move number seat).told found) in
      record {
        kept = refl;
        same = refl;
        stage = holds_of_untold (λ b t. IsAnswered tells heap number seat.command b last (t ++ Said number seat.command (replies.Was (stamp_of found)) ∷ [])) stage.0
            (reply_alone_answers tells heap number seat.command (kept_of seat) last (replies.Was (stamp_of found)) (set_replies_alone seat.command here.way.0.1) (inl (record {
              a_set = here.way.0.1;
              reached = seat.reached;
              part = seat.part;
              field = kept_field seat stage.0 stage.1;
              word = found;
              told = tell;
              stamp_is = refl;
              kept_is = refl;
            })));
      }
