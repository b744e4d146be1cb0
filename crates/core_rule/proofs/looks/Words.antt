-- What another seat's word tells where it is below the phase.
use Rattle.std.proofs.Common.{◌≡◌, ℕ, ◌<◌, Bool, true, false, sym, ap, ◌∙◌, refl, arith}
use Rattle.heap_words.specs.declared.phase.TheConstants.{LEFT}
use Rattle.core_rule.proofs.Terms.{Heap, phase, last_answer, has_left, State, seat_at, at, Book, answer_word, Rule}
use Rattle.core_machine.specs.declared.table.address.Address.TheVariants.{Answer}

-- the seat hasn't left, and this is its last answer
pub word_is_last_answer : (heap : Heap) (state : State) (book : Book) → Rule heap state book → (other : ℕ) → other < heap.seats → (word : ℕ) → at heap state.words (Answer other) ≡ word
    → word < phase book.history → (has_left other book.history ≡ false) × (last_answer other book.history ≡ word)
word_is_last_answer heap state book rule other below word is less =
    by (seat_at state other).left refl
  where
    by : (left : Bool) → (seat_at state other).left ≡ left → (has_left other book.history ≡ false) × (last_answer other book.history ≡ word)
    by true gone =
        let told = (rule.seats_stand other below).cycle.answers_told in
        let early : phase book.history < LEFT = omega (arith, rule.collector_stands.phase_told, rule.machine.collector_fit.phase_within) in
        let left_word : word ≡ LEFT = sym is ∙ told.word ∙ ap (λ l. answer_word l (seat_at state other).answered) gone in
        absurd (omega (arith, early, left_word, less))
    by false there =
        let told = (rule.seats_stand other below).cycle.answers_told in
        (told.leaves ∙ there, told.told ∙ sym (ap (λ l. answer_word l (seat_at state other).answered) there) ∙ sym told.word ∙ is)
