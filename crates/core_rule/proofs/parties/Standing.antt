-- What the rule says of a machine whose seat has no call in flight, by the entries so far.
use Rattle.std.proofs.Common.{◌≡◌, ℕ, ◌+◌, ◌<◌, ◌≤◌, false, List, [], length, refl, sym, ap, subst, ◌∙◌, arith}
use Rattle.core_rule.proofs.Terms.{Heap, Command, Entry, graph_of, phase, last_answer, has_left, fragments_gained, fragments_lost, taken_of, spent_of, words_granted}
use Rattle.core_rule.proofs.Terms.{words_returned, graph_seat, Budget, State, seat_at, IsAtRest, FitsPoint, Seat, HasNumberLeft, at, StandsFor, AllIdle, WordsAreUsed}
use Rattle.core_rule.proofs.Terms.{fragments_in_hand, answer_word}
use Rattle.heap_model.specs.declared.command.Command.TheVariants as commands
use Rattle.heap_model.specs.calls.SeatCalls.{HasNumber}
use Rattle.core_machine.specs.declared.point.Point.TheVariants.{Idle}
use Rattle.core_machine.specs.declared.table.address.Address.TheVariants.{Phase, Answer}
use Rattle.core_machine.specs.machine.Calls.{IsPhaseNear}
use Rattle.core_rule.proofs.told.NearPhases.{phase_word_is_near_answer}

module _ (heap : Heap) (state : State) (told : List Entry) (s : StandsFor heap state [] told) where
  -- the phase word is the phase
  pub phase_word_is_phase : at heap state.words Phase ≡ phase told
  phase_word_is_phase = s.stands.rule.heap_stands.cycle.word ∙ ap phase s.grown

  -- no more fragments were lost than gained
  pub lost_within_gained : fragments_lost told ≤ fragments_gained heap told
  lost_within_gained = subst (λ es. fragments_lost es ≤ fragments_gained heap es) s.grown (omega (arith, s.stands.rule.heap_stands.used))

  -- the budget word is the spine words in use
  pub budget_word_is_words_used : WordsAreUsed → AllIdle state → (at heap state.words Budget + words_returned told ≡ words_granted told) × (at heap state.words Budget ≤ heap.spine)
  budget_word_is_words_used words idle =
      subst (λ es. (at heap state.words Budget + words_returned es ≡ words_granted es) × (at heap state.words Budget ≤ heap.spine)) s.grown (words heap state s.book s.stands.rule idle)

  pub seated : length state.seats ≡ heap.seats
  seated = s.stands.rule.machine.seated

  module _ (number : ℕ) (below : number < heap.seats) (idle : (seat_at state number).point ≡ Idle) where
    abbrev seat : Seat
    seat = seat_at state number

    -- what it has of its own is its reserve
    pub reserve_is_taken_unspent : spent_of number told + length seat.reserve ≡ taken_of number told
    reserve_is_taken_unspent =
        let rest : IsAtRest seat = subst (FitsPoint heap seat) idle (s.stands.rule.machine.fit number (rw seated below)).at_point in
        let unborn = (s.stands.rule.seats_stand number below).told.counts.unborn in
        let none : length (fragments_in_hand seat.hand seat.body) ≡ 0 = rw (rest.no_body, rest.empty_hand) refl in
        subst (λ es. spent_of number es + length seat.reserve ≡ taken_of number es) s.grown (omega (arith, unborn, none))

    pub answered_is_last_answer : seat.answered ≡ last_answer number told
    answered_is_last_answer = sym (s.stands.rule.seats_stand number below).cycle.answers_told.told ∙ ap (last_answer number) s.grown

    pub left_is_graphs_left : (graph_seat (graph_of heap told) number).left ≡ seat.left
    left_is_graphs_left = ap (λ es. (graph_seat (graph_of heap es) number).left) (sym s.grown) ∙ (s.stands.rule.seats_stand number below).told.counts.leaves

    pub made_is_object_count : seat.made ≡ length (graph_seat (graph_of heap told) number).objects
    made_is_object_count = (s.stands.rule.seats_stand number below).told.counts.numbered ∙ ap (λ es. length (graph_seat (graph_of heap es) number).objects) s.grown

    pub sets_are : seat.sets ≡ (graph_seat (graph_of heap told) number).sets
    sets_are = (s.stands.rule.seats_stand number below).told.counts.stamped ∙ ap (λ es. (graph_seat (graph_of heap es) number).sets) s.grown

    -- the phase word is the phase that the seat answered last, or the next
    pub phase_word_is_near : seat.left ≡ false → IsPhaseNear heap state number
    phase_word_is_near present = phase_word_is_near_answer heap state s.book number s.stands.rule below present

    pub has_number_left : (command : Command) → HasNumber (record { heap = heap; number = number; mine = told; spare = 0 }) command → HasNumberLeft seat.made seat.sets command
    has_number_left (commands.New d fields) has = rw made_is_object_count has
    has_number_left (commands.Array d cells) has = rw made_is_object_count has
    has_number_left (commands.Set r i v) has = rw sets_are has
    has_number_left (commands.Cas r i a v) has = rw sets_are has
    has_number_left _ has = tt

-- the word of a seat that hasn't left is its last answer
pub answer_word_is_answer : (heap : Heap) (state : State) (told : List Entry) → StandsFor heap state [] told → (number answer : ℕ) → number < heap.seats → has_left number told ≡ false → last_answer number told ≡ answer
    → at heap state.words (Answer number) ≡ answer
answer_word_is_answer heap state told s number answer below there last =
    let agree = (s.stands.rule.seats_stand number below).cycle.answers_told in
    let stays : (seat_at state number).left ≡ false = sym agree.leaves ∙ ap (has_left number) s.grown ∙ there in
    let gave : (seat_at state number).answered ≡ answer = sym agree.told ∙ ap (last_answer number) s.grown ∙ last in
    agree.word ∙ ap (λ b. answer_word b (seat_at state number).answered) stays ∙ gave
