-- What a step does to the book: to what was made, to whose the fragments are, and to their colours.
use Rattle.std.proofs.Common.{◌≡◌, ℕ, ◌<◌, ◌⊎◌, List, length, Some, inl, inr, refl, sym, ◌∙◌, subst, arith}
use Rattle.std.proofs.lemmas.Bool.Decides.{eqb_tells}
use Rattle.core_rule.proofs.Terms.{Entry, Heap, graph_of, register_value, ShadingOld, State, seat_at, head_of, Book, Colour, IsMarked, Owner, Kept, SpineOwner}
use Rattle.core_machine.specs.declared.collector.stage.Scan.{Scan}
use Rattle.core_machine.specs.declared.collector.stage.SpineScan.{SpineScan}
use Rattle.core_machine.specs.declared.collector.stage.Stage.TheVariants as stages
use Rattle.core_machine.specs.declared.point.Point.TheVariants as points
use Rattle.core_rule.proofs.colours.ShadeColours.{with_mark, mark_keeps_other_colour}
use Rattle.core_rule.proofs.book.Going.{stays, OwnersGoOn, MadeGoesOn}
use Rattle.core_rule.proofs.ways.LoadedObjects.{RefersTo}

-- why a fragment comes to be marked: a register holds its object, a set has loaded it, or the collector's scan led to it, by a word of it or of its spine
pub data IsNamed (heap : Heap) (state : State) (book : Book) (f : ℕ) : Type 0 where
  by_register : (number r : ℕ) → RefersTo book.made book.owner book.fragments (register_value (graph_of heap book.history) number r) f → IsNamed heap state book f
  by_set : (number : ℕ) → number < heap.seats → (seat_at state number).point ≡ points.Access ShadingOld → head_of (seat_at state number).loaded ≡ Some f → IsNamed heap state book f
  by_scan : (scan : Scan) (next : ℕ) → state.collector.stage ≡ stages.Shading scan f next → IsNamed heap state book f
  by_spine : (s : SpineScan) → state.collector.stage ≡ stages.Spreading s f → IsNamed heap state book f

-- what is marked of the objects made before was so, or was named
abbrev pub ColoursGoOn : Heap → State → Book → (ℕ → Owner) → (ℕ → Colour) → Type 0
ColoursGoOn heap state book owner colour = (f i k : ℕ) → owner f ≡ Kept i k → i < length book.made → IsMarked colour f → IsMarked book.colour f ⊎ IsNamed heap state book f

-- how the book goes on by a step
pub record BookGoesOn (heap : Heap) (state : State) (book now : Book) : Type 0 where
  pub made : MadeGoesOn book.made now.made
  pub owners : OwnersGoOn (length book.made) book.owner now.owner
  pub marked : ColoursGoOn heap state book now.owner now.colour

-- whose fragments are stays so
pub same_owners_go_on : (made : ℕ) (owner : ℕ → Owner) → OwnersGoOn made owner owner
same_owners_go_on made owner = record { each = λ f. stays (owner f); one_way = inl (λ f. omega arith) }

module _ (heap : Heap) (state : State) (book : Book) where
  -- where whose they are goes on, with the colours that there were
  pub book_goes_on_with_owners : (history : List Entry) (begun : ℕ → ℕ) (owner : ℕ → Owner) → OwnersGoOn (length book.made) book.owner owner
      → BookGoesOn heap state book (record book { history = history; begun = begun; owner = owner })
  book_goes_on_with_owners history begun owner owners = record { made = λ i below. refl; owners = owners; marked = λ f i k owned below marked. inl marked }

  -- where nothing of the book changes but for what was told
  pub book_goes_on_with_history : (history : List Entry) (begun : ℕ → ℕ) → BookGoesOn heap state book (record book { history = history; begun = begun })
  book_goes_on_with_history history begun = book_goes_on_with_owners history begun book.owner (same_owners_go_on (length book.made) book.owner)

  -- where spine words get other owners alone
  pub book_goes_on_with_spine_owners : (spine_owner : ℕ → ℕ → SpineOwner) → BookGoesOn heap state book (record book { spine_owner = spine_owner })
  book_goes_on_with_spine_owners spine_owner = record { made = λ i below. refl; owners = same_owners_go_on (length book.made) book.owner; marked = λ f i k owned below marked. inl marked }

  -- where the colours go on, and whose the fragments are stays so
  pub book_goes_on_with_colours : (colour : ℕ → Colour) → ColoursGoOn heap state book book.owner colour → BookGoesOn heap state book (record book { colour = colour })
  book_goes_on_with_colours colour marked = record { made = λ i below. refl; owners = same_owners_go_on (length book.made) book.owner; marked = marked }

  -- where a fragment that was named is marked
  pub book_goes_on_with_mark : (f : ℕ) → IsNamed heap state book f → BookGoesOn heap state book (record book { colour = with_mark book.colour f })
  book_goes_on_with_mark f named = book_goes_on_with_colours (with_mark book.colour f) (λ x i k owned below marked. elim (eqb_tells x f) as (λ _. IsMarked book.colour x ⊎ IsNamed heap state book x) [
    | inl same ↦ inr (subst (IsNamed heap state book) (sym same.1) named)
    | inr other ↦ inl (λ white. marked (mark_keeps_other_colour book.colour f x other.1 ∙ white))
  ])
