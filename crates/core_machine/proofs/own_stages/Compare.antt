-- A compare and swap shades its values, and compares its field.
use Rattle.std.proofs.Common.{◌≡◌, ℕ, ◌==◌, Bool, true, false, List, [], ◌∷◌, ◌++◌, inl, inr, refl, sym, ap, subst}
use Rattle.std.proofs.lemmas.Bool.Decides.{eqb_tells}
use Rattle.core_machine.proofs.Terms.{stamp_of, Entry, Said, Heap, Reply, Kept, kept_of, IsUntold, StageAt, StandsOn, IsAnswered, ShadingSide, Replacing, Side, Step, after_side, after_replace, Seat, with_entries}
use Rattle.core_machine.specs.calls.Reaching.{ReachesField}
use Rattle.core_machine.specs.calls.FieldReplies.{IsCompared}
use Rattle.core_machine.specs.declared.point.Point.TheVariants as points
use Rattle.core_machine.specs.declared.point.Side.TheVariants as sides
use Rattle.core_machine.specs.declared.step.AccessStep.TheVariants.{CompareSwap}
use Rattle.core_machine.specs.declared.step.Step.TheVariants as steps
use Rattle.core_machine.specs.seat.AccessMoves.{new_word_of, old_word_of, replaced_reply, reply_entries}
use Rattle.core_machine.proofs.call_lemmas.RepliesAlone.{cas_replies_alone}
use Rattle.core_machine.proofs.moves.Compare.{offer_cases, side_keeps_list, replaced_keeps_list}
use Rattle.core_machine.proofs.moves.Standing.{IsAt}
use Rattle.core_machine.proofs.own_stages.Field.{kept_field}
use Rattle.core_machine.proofs.own_stages.Leading.{PointLeads, holds_with_nothing_told, holds_of_untold, reply_alone_answers}

side_same : (seat : Seat) (side : Side) → (after_side seat side).command ≡ seat.command
side_same seat sides.Expected = offer_cases (λ s. s.command ≡ seat.command) seat (λ some. refl) (λ none. refl)
side_same seat sides.New = refl

module _ (tells : Step → ℕ → Type 0) where
  side_stage : (heap : Heap) (number : ℕ) (before : Kept) (seat : Seat) (told : List Entry) → IsUntold before (kept_of seat) told → ReachesField tells seat.command before seat.reached seat.part → (side : Side)
      → StageAt tells heap number before (with_entries (after_side seat side) []) (told ++ []) (after_side seat side).point
  side_stage heap number before seat told untold reaches sides.Expected =
      let still = holds_with_nothing_told (IsUntold before (kept_of seat)) told untold in
      offer_cases (λ s. StageAt tells heap number before (with_entries s []) (told ++ []) s.point) seat (λ some. (still, reaches)) (λ none. (still, reaches))
  side_stage heap number before seat told untold reaches sides.New = (holds_with_nothing_told (IsUntold before (kept_of seat)) told untold, reaches)

  -- one of its values was shaded
  pub point_leads_at_shading_side : (side : Side) → PointLeads tells (points.Access (ShadingSide side))
  point_leads_at_shading_side side heap number before seat told here stage found tell =
      record { kept = side_keeps_list seat side; same = side_same seat side; stage = side_stage heap number before seat told stage.0 stage.1 side }

  module _ (heap : Heap) (number : ℕ) (before : Kept) (seat : Seat) (told : List Entry) (here : IsAt heap number seat (points.Access Replacing)) (untold : IsUntold before (kept_of seat) told)
      (reaches : ReachesField tells seat.command before seat.reached seat.part) (found : ℕ) (tell : tells (steps.Access (CompareSwap seat.reached seat.part (old_word_of seat) (new_word_of number seat))) found) where
    -- the field was compared, and had this word
    was_compared : (word : ℕ) → found ≡ word → IsCompared tells number seat.command (kept_of seat) word
    was_compared word is = record {
      a_cas = here.way.1;
      reached = seat.reached;
      part = seat.part;
      field = kept_field tells seat untold reaches;
      told = subst (tells (steps.Access (CompareSwap seat.reached seat.part (old_word_of seat) (new_word_of number seat)))) is tell;
    }

    -- where the seat stands then
    abbrev IsReplied : Bool → Type 0
    IsReplied same = StageAt tells heap number before (with_entries (after_replace seat same) (reply_entries number seat (replaced_reply found same)))
        (told ++ reply_entries number seat (replaced_reply found same)) (after_replace seat same).point

    -- the reply stands on what was found
    replied : (kept : Kept) (reply : Reply) → StandsOn tells heap number seat.command (kept_of seat) kept [] reply → IsAnswered tells heap number seat.command before kept (told ++ Said number seat.command reply ∷ [])
    replied kept reply stands =
        holds_of_untold (λ b t. IsAnswered tells heap number seat.command b kept (t ++ Said number seat.command reply ∷ [])) untold
        (reply_alone_answers tells heap number seat.command (kept_of seat) kept reply (cas_replies_alone seat.command here.way.1) stands)

    replaced_stage : IsReplied (found == old_word_of seat)
    replaced_stage = elim (eqb_tells found (old_word_of seat)) as (λ _. IsReplied (found == old_word_of seat)) [
      | inl e ↦ subst IsReplied (sym e.0) (replied _ _ (inr (record { compared = was_compared (old_word_of seat) e.1; stamp_is = ap stamp_of e.1; kept_is = refl })))
      | inr e ↦ subst IsReplied (sym e.0) (replied _ _ (record { word = found; compared = was_compared found refl; other = e.1; stamp_is = refl; keeps = refl }))
    ]

  -- the field was compared
  pub point_leads_at_replacing : PointLeads tells (points.Access Replacing)
  point_leads_at_replacing heap number before seat told here stage found tell = record {
    kept = replaced_keeps_list seat (found == old_word_of seat);
    same = replaced_same seat (found == old_word_of seat);
    stage = replaced_stage heap number before seat told here stage.0 stage.1 found tell;
  }
    where
      replaced_same : (seat : Seat) (same : Bool) → (after_replace seat same).command ≡ seat.command
      replaced_same seat true = refl
      replaced_same seat false = refl
