-- What each step of an inner call leads to by the seat's own view, whatever word it has found.
use Rattle.std.proofs.Common.{◌≡◌, ℕ, ◌<◌, List, [], ◌++◌, Option, Some, refl, sym, ap, subst, ◌∙◌, append-nil, append_assoc}
use Rattle.std.specs.Prelude.{IfSome}
use Rattle.core_machine.proofs.Terms.{IsHeap, Entry, Heap, Move, next_move, seat_after, kept_of, IsUntold, Point, Step, after_inner_begin, Fits, Seat}
use Rattle.heap_model.specs.declared.calls.collect.Inner.{Inner}
use Rattle.heap_model.specs.declared.calls.collect.Inner.TheVariants as inners
use Rattle.core_machine.specs.calls.InnerStage.{IsInnerOver, InnerStageAt, OwnInnerStage}
use Rattle.core_machine.specs.declared.point.Collecting.{Collecting}
use Rattle.core_machine.specs.declared.point.Collecting.TheVariants.{Looking, Asking, Comparing, Noting}
use Rattle.core_machine.specs.declared.point.Point.TheVariants as points
use Rattle.core_machine.specs.declared.point.Polling.{Polling}
use Rattle.core_machine.specs.declared.point.Polling.TheVariants as polling
use Rattle.core_machine.specs.seat.Collecting.{inner_point}
use Rattle.core_machine.proofs.own_stages.InnerLooks.{Leads, LeadsOn, PointLeads, inner_leads_at_looking, inner_leads_at_look_asking, inner_leads_at_comparing, inner_leads_at_noting}
use Rattle.core_machine.proofs.own_stages.InnerAnswer.{inner_leads_at_poll_asking, inner_leads_at_shading, inner_leads_at_answering}

module _ (tells : Step → ℕ → Type 0) where
  -- each move of an inner call, by the point
  collecting_leads : (point : Collecting) → PointLeads tells (points.Collecting point)
  collecting_leads Looking = inner_leads_at_looking tells
  collecting_leads (Asking other) = inner_leads_at_look_asking tells other
  collecting_leads (Comparing other phase) = inner_leads_at_comparing tells other phase
  collecting_leads (Noting reply) = inner_leads_at_noting tells reply

  polling_leads : (point : Polling) → PointLeads tells (points.Polling point)
  polling_leads polling.Asking = inner_leads_at_poll_asking tells
  polling_leads polling.Shading = inner_leads_at_shading tells
  polling_leads polling.Answering = inner_leads_at_answering tells

  leads_at : (point : Point) → PointLeads tells point
  leads_at points.Idle = λ heap number inner before seat told here collects stage. tt
  leads_at (points.Making point) = λ heap number inner before seat told here collects stage. absurd stage
  leads_at points.Local = λ heap number inner before seat told here collects stage. absurd stage
  leads_at (points.Access point) = λ heap number inner before seat told here collects stage. absurd stage
  leads_at (points.Polling point) = polling_leads point
  leads_at (points.Collecting point) = collecting_leads point
  leads_at (points.Leaving point) = λ heap number inner before seat told here collects stage. absurd stage

  -- an inner call that stands so goes on to stand so, whatever word its next step finds of which so much is told
  pub own_inner_leads : (heap : Heap) (number : ℕ) (inner : Inner) (old seat : Seat) (told : List Entry) (move : Move) (found : ℕ) → IsHeap heap → number < 16 → Fits heap seat
      → next_move heap number seat ≡ Some move → tells move.step found → OwnInnerStage tells number inner old seat told
      → OwnInnerStage tells number inner old (seat_after move found) (told ++ move.adds found)
  own_inner_leads heap number inner old seat told move found limits few fits next tell is =
      let leads : Leads tells number inner (kept_of old) seat told move found =
      subst (λ (m : Option Move). IfSome m (LeadsOn tells number inner (kept_of old) seat told)) next
      (leads_at seat.point heap number inner (kept_of old) seat told
      (record { limits = limits; few = few; fits = fits; point_is = refl; hand = fits.at_point; way = fits.way_at_point; answer = fits.answer_at_point }) is.same is.stage) found tell in
      record {
        same = leads.same ∙ is.same;
        mine = ap (λ (l : List Entry). l ++ move.adds found) (leads.kept ∙ is.mine) ∙ append_assoc old.mine told (move.adds found);
        stage = leads.stage;
      }

  -- an inner call that has begun stands so, and has told nothing
  pub own_inner_begins : (number : ℕ) (old : Seat) (inner : Inner) → OwnInnerStage tells number inner old (after_inner_begin old inner) []
  own_inner_begins number old inner = record { same = refl; mine = sym (append-nil old.mine); stage = by inner } where
    first : IsUntold (kept_of old) (kept_of old) []
    first = record { kept_stays = refl; none_told = refl }

    by : (inner : Inner) → InnerStageAt tells number inner (kept_of old) (after_inner_begin old inner) [] (inner_point inner)
    by inners.Look = (refl, first)
    by inners.Answer = (refl, first)
    by (inners.Behind other) = (refl, first)
    by (inners.Note reply) = (refl, first)

  -- without a point it is over
  pub idle_inner_is_over : (number : ℕ) (inner : Inner) (old seat : Seat) (told : List Entry) → OwnInnerStage tells number inner old seat told → seat.point ≡ points.Idle
      → IsInnerOver tells number (kept_of old) (kept_of seat) told inner
  idle_inner_is_over number inner old seat told is idle = subst (InnerStageAt tells number inner (kept_of old) seat told) idle is.stage
