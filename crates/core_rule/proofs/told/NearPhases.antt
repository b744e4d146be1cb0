-- The phase word is near to what a seat has answered, and so is another seat's word.
use Rattle.std.proofs.Common.{◌≡◌, ℕ, ◌+◌, ◌<◌, ◌≤◌, Bool, true, false, refl, sym, ap, ◌∙◌, inl, inr, arith}
use Rattle.core_rule.proofs.Terms.{phase, Heap, State, seat_at, Seat, at, Book, IsNear, answer_word, Rule}
use Rattle.core_machine.specs.declared.table.address.Address.TheVariants.{Phase, Answer}
use Rattle.core_rule.specs.told.Found.{IsAnsweredOrNext, TellsAnswer}

-- the phase is at most one ahead of an answer that is near to it
near_next : (phase answer : ℕ) → IsNear phase answer → phase ≤ answer + 1
near_next phase answer (inl same) = omega (arith, same)
near_next phase answer (inr behind) = omega (arith, behind)

near_upto : (phase answer : ℕ) → IsNear phase answer → answer ≤ phase
near_upto phase answer (inl same) = omega (arith, same)
near_upto phase answer (inr behind) = omega (arith, behind)

answered_or_next : (found phase answer : ℕ) → found ≡ phase → IsNear phase answer → IsAnsweredOrNext answer found
answered_or_next found phase answer is (inl same) = inl (is ∙ sym same)
answered_or_next found phase answer is (inr behind) = inr (is ∙ sym behind)

module _ (heap : Heap) (state : State) (book : Book) (number : ℕ) (rule : Rule heap state book) (here : number < heap.seats) (present : (seat_at state number).left ≡ false) where
  abbrev seat : Seat
  seat = seat_at state number

  -- the answer of a seat that hasn't left is near
  near : IsNear (phase book.history) seat.answered
  near = (rule.seats_stand number here).cycle.answers_told.near present

  -- the phase word is near to what it has answered
  pub phase_word_is_near_answer : IsAnsweredOrNext seat.answered (at heap state.words Phase)
  phase_word_is_near_answer = answered_or_next (at heap state.words Phase) (phase book.history) seat.answered rule.heap_stands.cycle.word near

  -- another seat's word has its last answer, which is near to each phase that has begun just before
  pub answer_word_is_told : (other : ℕ) → other < heap.seats → seat.looks.seen ≤ phase book.history → TellsAnswer seat (at heap state.words (Answer other))
  answer_word_is_told other below begun = by (seat_at state other).left refl
    where
      by : (left : Bool) → (seat_at state other).left ≡ left → TellsAnswer seat (at heap state.words (Answer other))
      by true is =
          let told = (rule.seats_stand other below).cycle.answers_told in
          inl (told.word ∙ ap (λ l. answer_word l (seat_at state other).answered) is)
      by false is =
          let told = (rule.seats_stand other below).cycle.answers_told in
          let word : at heap state.words (Answer other) ≡ (seat_at state other).answered = told.word ∙ ap (λ l. answer_word l (seat_at state other).answered) is in
          inr record {
            behind = omega (arith, word, begun, near_next (phase book.history) (seat_at state other).answered (told.near is));
            ahead = omega (arith, word, near_upto (phase book.history) (seat_at state other).answered (told.near is), near_next (phase book.history) seat.answered near);
          }
