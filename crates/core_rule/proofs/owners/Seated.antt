-- What a seat has by its owner stands in the lists of a seat that there is.
use Rattle.std.proofs.Common.{◌≡◌, ℕ, ◌<◌, ◌≤◌, List, [], ◌∷◌, refl, ap, ◌∙◌, subst, arith}
use Rattle.core_rule.proofs.Terms.{Heap, tally, State, seat_at, Book, Holding, Owner, Borne, IsSeated, bears_bit, Rule}
use Rattle.core_rule.proofs.hand.Bodies.{body_tally_is_hand_and_borne}
use Rattle.core_rule.proofs.hand.HandMoves.{is_not_borne_by_seat}
use Rattle.core_rule.proofs.lists.Tallies.{one_at_same_is_one}

-- what a seat bears is in the body of its object
borne_in_body : (owner : ℕ → Owner) (number f : ℕ) (reserve hand body : List ℕ) → Holding owner number reserve hand body → owner f ≡ Borne number → 1 ≤ tally f body
borne_in_body owner number f reserve hand [] holding bears = absurd (is_not_borne_by_seat owner number reserve hand [] refl holding f bears)
borne_in_body owner number f reserve hand (x ∷ body) holding bears =
    let one : bears_bit number (owner f) ≡ 1 = ap (bears_bit number) bears ∙ one_at_same_is_one number number refl in
    omega (arith, body_tally_is_hand_and_borne owner number reserve hand (x ∷ body) holding (omega arith) f, one)

module _ (heap : Heap) (state : State) (book : Book) (rule : Rule heap state book) (number f : ℕ) where
  -- a borne one is of the object that such a seat makes
  pub borne_is_in_seat_body : book.owner f ≡ Borne number → (number < heap.seats) × (1 ≤ tally f (seat_at state number).body)
  borne_is_in_seat_body bears =
      let here : number < heap.seats = subst (IsSeated heap.seats) bears (rule.heap_stands.owners.seated f) in
      (here, borne_in_body book.owner number f (seat_at state number).reserve (seat_at state number).hand (seat_at state number).body (rule.seats_stand number here).own.holding bears)
