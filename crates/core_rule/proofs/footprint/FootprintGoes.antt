-- How the footprint of a cycle goes on by a step that begins no cycle.
use Rattle.std.proofs.Common.{◌≡◌, ℕ, ◌+◌, ◌%◌, ◌<◌, inl, inr, true, Bool, List, ◌++◌, length, Some, subst, arith}
use Rattle.core_rule.proofs.Terms.{cycle_phases, Entry, Heap, Id, graph_of, phase, total, up_to_cycle, IsReach, Stage, ShadingOld, State, seat_at, head_of, Book, id_at, AreUsed}
use Rattle.core_rule.proofs.Terms.{Kept, Rule}
use Rattle.heap_model.specs.PhasePlan.{clearing as clearing_phase}
use Rattle.core_machine.specs.declared.collector.stage.Stage.TheVariants as stages
use Rattle.core_machine.specs.declared.point.Point.TheVariants as points
use Rattle.core_rule.specs.footprint.Footprint.{Footprint, StageStandsInside, is_inside}
use Rattle.core_rule.proofs.book.BookGoing.{BookGoesOn}
use Rattle.core_rule.proofs.footprint.Named.{named_is_inside}
use Rattle.core_rule.proofs.footprint.StaysInside.{kept_stays_inside, new_is_not_begun}
use Rattle.core_rule.proofs.kept.WeightGrowth.{inside_grows_within_taken, cleared_within_goes_on}

module _ (heap : Heap) (state new : State) (book now : Book) (added : List Entry) (rule : Rule heap state book) (after : Rule heap new now) (grown : now.history ≡ book.history ++ added)
    (goes : BookGoesOn heap state book now) (begun : List Id) (reach : IsReach (graph_of heap (up_to_cycle book.history)) begun) (most : ℕ) where
  abbrev inside : Id → Bool
  inside = is_inside (graph_of heap (up_to_cycle book.history)) begun

  abbrev taken : ℕ
  taken = total (λ e. e.taken) added

  within : (f i k : ℕ) → book.owner f ≡ Kept i k → i < length book.made
  within f i k owned = (rule.heap_stands.objects.back f i k owned).0

  used_now : AreUsed heap now.owner (book.history ++ added)
  used_now = subst (AreUsed heap now.owner) grown after.heap_stands.used

  -- what was said of a stage
  pub stage_stands_inside_still : (stage : Stage) → StageStandsInside heap book.made begun inside book.owner most stage → StageStandsInside heap now.made begun inside now.owner (most + taken) stage
  stage_stands_inside_still (stages.Shading scan target next) stands = λ i k owned. kept_stays_inside heap state new book now rule after goes begun reach target i k owned (λ was below. stands i k was)
  stage_stands_inside_still (stages.Spreading s target) stands = λ i k owned. kept_stays_inside heap state new book now rule after goes begun reach target i k owned (λ was below. stands i k was)
  stage_stands_inside_still (stages.Clearing group kept) stands =
      cleared_within_goes_on heap book.made now.made book.owner now.owner goes.owners goes.made within begun (new_is_not_begun heap state new book now rule after goes begun reach)
      book.history added rule.heap_stands.used used_now most group kept stands
  stage_stands_inside_still (stages.Ending kept) stands =
      cleared_within_goes_on heap book.made now.made book.owner now.owner goes.owners goes.made within begun (new_is_not_begun heap state new book now rule after goes begun reach)
      book.history added rule.heap_stands.used used_now most heap.groups kept stands
  stage_stands_inside_still _ stands = tt

  module _ (foot : Footprint heap state book begun inside most) where
    -- an old value that was loaded before
    pub old_value_is_inside : (number f i k : ℕ) → number < heap.seats → (seat_at state number).point ≡ points.Access ShadingOld → head_of (seat_at state number).loaded ≡ Some f
        → now.owner f ≡ Kept i k → inside (id_at now.made i) ≡ true
    old_value_is_inside number f i k here point_is loads owned =
        kept_stays_inside heap state new book now rule after goes begun reach f i k owned (λ was below. foot.olds number f i k here point_is loads was)

    -- the footprint goes on where all that is kept is inside in the last phase, and what sets and the collector have loaded is
    pub footprint_goes_on : (phase now.history % cycle_phases ≡ clearing_phase → (f i k : ℕ) → book.owner f ≡ Kept i k → inside (id_at book.made i) ≡ true)
        → ((number f i k : ℕ) → number < heap.seats → (seat_at new number).point ≡ points.Access ShadingOld → head_of (seat_at new number).loaded ≡ Some f
        → now.owner f ≡ Kept i k → inside (id_at now.made i) ≡ true)
        → StageStandsInside heap now.made begun inside now.owner (most + taken) new.collector.stage
        → Footprint heap new now begun inside (most + taken)
    footprint_goes_on last olds stage = record {
      kept = λ f i k owned why. kept_stays_inside heap state new book now rule after goes begun reach f i k owned (λ was below. elim why [
        | inl marked ↦ elim (goes.marked f i k owned below marked) [
          | inl before ↦ foot.kept f i k was (inl before)
          | inr named ↦ named_is_inside heap state book rule begun reach most foot f i k named was
        ]
        | inr ends ↦ last ends f i k was
      ]);
      olds = olds;
      stage = stage;
      size = let grows = inside_grows_within_taken heap book.made now.made book.owner now.owner goes.owners goes.made within book.history added rule.heap_stands.used used_now inside in omega (arith, foot.size, grows);
    }
