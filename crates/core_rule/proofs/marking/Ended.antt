-- Where the marking phase's last pass has found nothing grey: all that marking came to is marked, and so is what that leads to.
use Rattle.std.proofs.Common.{◌≡◌, ◌≢◌, ℕ, ◌<◌, ◌%◌, List, length, inl, inr, arith}
use Rattle.core_rule.proofs.Terms.{cycle_phases, Heap, graph_of, phase, State, Book, Colour, Grey, Black, fragment_at, IsMarked, WordPointsTo, IsKept, Owner, Kept, from_grey}
use Rattle.core_rule.proofs.Terms.{from_white, IsGuarded, IsReached, Rule}
use Rattle.heap_model.specs.PhasePlan.{marking as marking_phase}
use Rattle.core_rule.proofs.marking.Paths.{grey_or_black}
use Rattle.core_rule.proofs.ways.Chains.{holds_of_all_fragments}
use Rattle.core_rule.proofs.objects.SpinePlaces.{array_spine_fits_spot}

module _ (heap : Heap) (words : List ℕ) (owner : ℕ → Owner) (colour : ℕ → Colour) (none : (f : ℕ) → colour f ≢ Grey) where
  -- no path leaves a grey fragment
  nothing_guarded : (f : ℕ) → IsGuarded heap words owner colour f → ⊥
  nothing_guarded f (from_grey e _ grey leads white) = none e grey
  nothing_guarded f (from_white e _ path leads white) = nothing_guarded e path

  pub reached_is_marked : (f : ℕ) → IsReached heap words owner colour f → IsMarked colour f
  reached_is_marked f (inl marked) = marked
  reached_is_marked f (inr path) = absurd (nothing_guarded f path)

module _ (heap : Heap) (state : State) (book : Book) (rule : Rule heap state book) (third : phase book.history % cycle_phases ≡ marking_phase) (none : (f : ℕ) → book.colour f ≢ Grey) where
  -- what is marked is black
  is_black : (f : ℕ) → IsMarked book.colour f → book.colour f ≡ Black
  is_black f marked = elim (grey_or_black book.colour f marked) as (λ _. book.colour f ≡ Black) [
    | inl grey ↦ absurd (none f grey)
    | inr black ↦ black
  ]

  -- and leads to what is marked
  pub marked_leads_to_marked : (f source g : ℕ) → IsMarked book.colour f → WordPointsTo heap state.words f source g → IsMarked book.colour g
  marked_leads_to_marked f source g marked leads =
      rule.heap_stands.cycle.coloured.black (record { from = omega (arith, third); upto = omega (arith, third) }) f source g (is_black f marked) leads

  -- a kept object with a marked fragment is marked by its first
  pub first_fragment_is_marked : (f i k : ℕ) → book.owner f ≡ Kept i k → IsMarked book.colour f → IsMarked book.colour (fragment_at (book.fragments i) 0)
  first_fragment_is_marked f i k kept marked = rule.heap_stands.cycle.coloured.first (record { from = omega (arith, third); upto = omega (arith, third) }) f i k kept marked

  -- and then by all of them
  pub whole_object_is_marked : (i k : ℕ) → i < length book.made → IsKept book.owner book.fragments i → IsMarked book.colour (fragment_at (book.fragments i) 0)
      → k < length (book.fragments i) → IsMarked book.colour (fragment_at (book.fragments i) k)
  whole_object_is_marked i k below kept first within =
      let stands = rule.heap_stands in
      holds_of_all_fragments heap state.words (graph_of heap book.history) book.made book.owner book.fragments rule.machine.limits stands.control_words stands.ids stands.owners stands.objects i below kept
      (IsMarked book.colour) (array_spine_fits_spot rule i below kept) first (λ f source x marked leads. marked_leads_to_marked f source x marked leads) k within
