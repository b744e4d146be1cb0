-- What a birth does to the colours of objects made before: nothing.
use Rattle.std.proofs.Common.{◌≡◌, ◌≢◌, ℕ, ◌<◌, ◌≤◌, ◌⊎◌, List, length, inl, sym, ◌∙◌}
use Rattle.core_rule.proofs.Terms.{Heap, State, tally, Book, Colour, White, IsMarked, Owner, Taken, Kept}
use Rattle.core_rule.proofs.colours.BirthColours.{painted, painted_cases}
use Rattle.core_rule.proofs.book.BookGoing.{IsNamed, ColoursGoOn}
use Rattle.core_rule.proofs.objects.ObjectFrames.{taken_is_not_kept}

pub painted_colours_go_on : (heap : Heap) (state : State) (book : Book) (owner : ℕ → Owner) (c : Colour) (fs : List ℕ) (number : ℕ) → ((f : ℕ) → 1 ≤ tally f fs → book.owner f ≡ Taken number)
    → ((f i k : ℕ) → owner f ≡ Kept i k → i < length book.made → book.owner f ≡ Kept i k) → ColoursGoOn heap state book owner (painted c book.colour fs)
painted_colours_go_on heap state book owner c fs number held was f i k owned less =
    painted_cases (λ colour. colour ≢ White → IsMarked book.colour f ⊎ IsNamed heap state book f) c book.colour fs f
    (λ there marked. absurd (taken_is_not_kept number i k (sym (held f there) ∙ was f i k owned less))) (λ away marked. inl marked)
