-- The steps of the inner calls of a collect but the answer, by the seat's own view.
use Rattle.std.proofs.Common.{◌≡◌, ℕ, List, [], ◌∷◌, ◌++◌, refl, sym, ap, subst, ◌∙◌, append-nil}
use Rattle.std.specs.Prelude.{IfSome}
use Rattle.heap_model.specs.declared.calls.collect.CollectReply.{CollectReply}
use Rattle.heap_model.specs.declared.calls.collect.Inner.{Inner}
use Rattle.heap_model.specs.declared.calls.collect.Inner.TheVariants as inners
use Rattle.core_machine.proofs.Terms.{Command, Entry, Said, Heap, Move, move_at, seat_after, Kept, kept_of, HasAsked, Point, Step, Seat, with_seen}
use Rattle.heap_model.specs.declared.command.Command.TheVariants as commands
use Rattle.core_machine.specs.calls.InnerStage.{IsInnerOver, InnerStageAt}
use Rattle.core_machine.specs.declared.point.Collecting.TheVariants.{Looking, Asking, Comparing, Noting}
use Rattle.core_machine.specs.declared.point.Point.TheVariants as points
use Rattle.core_machine.specs.seat.Collecting.{look_move, comparing_move, note_move}
use Rattle.core_machine.specs.seat.Looks.{compared, noted_reply}
use Rattle.core_machine.proofs.moves.Standing.{IsAt}
use Rattle.core_machine.proofs.own_stages.Leading.{holds_of_untold}

module _ (tells : Step → ℕ → Type 0) where
  -- the inner call goes on
  pub record Leads (number : ℕ) (inner : Inner) (before : Kept) (seat : Seat) (told : List Entry) (move : Move) (found : ℕ) : Type 0 where
    pub kept : (move.told found).mine ≡ seat.mine
    pub same : (move.told found).command ≡ seat.command
    pub stage : InnerStageAt tells number inner before (seat_after move found) (told ++ move.adds found) (seat_after move found).point

  abbrev pub LeadsOn : ℕ → Inner → Kept → Seat → List Entry → Move → Type 0
  LeadsOn number inner before seat told move = (found : ℕ) → tells move.step found → Leads number inner before seat told move found

  abbrev pub PointLeads : Point → Type 0
  PointLeads point =
      (heap : Heap) (number : ℕ) (inner : Inner) (before : Kept) (seat : Seat) (told : List Entry) → IsAt heap number seat point → seat.command ≡ commands.Collect
      → InnerStageAt tells number inner before seat told point → IfSome (move_at heap number seat point) (LeadsOn number inner before seat told)

  -- the phase was looked at
  pub inner_leads_at_looking : PointLeads (points.Collecting Looking)
  inner_leads_at_looking heap number inner before seat told here collects stage found tell =
      let last = kept_of ((look_move seat).told found) in
      record {
        kept = refl;
        same = refl;
        stage = subst (IsInnerOver tells number before last (told ++ [])) (sym stage.0)
            (holds_of_untold (λ b t. IsInnerOver tells number b last (t ++ []) inners.Look) stage.1 (record { phase = found; found = tell; kept_is = refl; none_told = refl }));
      }

  -- the phase was loaded that is to be compared
  pub inner_leads_at_look_asking : (other : ℕ) → PointLeads (points.Collecting (Asking other))
  inner_leads_at_look_asking other heap number inner before seat told here collects stage found tell = record {
    kept = refl;
    same = refl;
    stage = (stage.0, holds_of_untold (λ b t. HasAsked tells b (kept_of (with_seen found seat)) found (t ++ [])) stage.1 (record { told_of = tell; kept_is = refl; none_told = refl }));
  }

  -- the other seat's word was loaded
  pub inner_leads_at_comparing : (other phase : ℕ) → PointLeads (points.Collecting (Comparing other phase))
  inner_leads_at_comparing other phase heap number inner before seat told here collects stage found tell =
      let last = kept_of ((comparing_move seat other phase).told found) in
      let asked = stage.1 in
      record {
        kept = refl;
        same = refl;
        stage = subst (IsInnerOver tells number before last (told ++ [])) (sym stage.0) (record {
          phase = phase;
          found = asked.told_of;
          word = found;
          found_then = tell;
          kept_is = ap (λ (k : Kept). record k { looks = compared other phase found k.looks }) asked.kept_is;
          none_told = append-nil told ∙ asked.none_told;
        });
      }

  -- the reply was noted
  pub inner_leads_at_noting : (reply : CollectReply) → PointLeads (points.Collecting (Noting reply))
  inner_leads_at_noting reply heap number inner before seat told here collects stage found tell =
      let last = kept_of ((note_move number seat reply).told found) in
      record {
        kept = refl;
        same = refl;
        stage = subst (IsInnerOver tells number before last (told ++ Said number seat.command (noted_reply reply) ∷ [])) (sym stage.0)
            (holds_of_untold (λ b t. IsInnerOver tells number b last (t ++ Said number seat.command (noted_reply reply) ∷ []) (inners.Note reply)) stage.1 (record {
              allowed = here.hand.2;
              phase = found;
              found = tell;
              kept_is = refl;
              told_is = ap (λ (c : Command). Said number c (noted_reply reply) ∷ []) collects;
            }));
      }
