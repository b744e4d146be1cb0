-- A turn that waits found a seat that is there, hasn't left, and is one phase behind.
use Rattle.std.proofs.Common.{◌≡◌, ◌≢◌, ℕ, ◌+◌, ◌<◌, Bool, true, false, if◌then◌else◌, List, refl, sym, ap, ◌∙◌, subst, inl, inr, arith}
use Rattle.std.proofs.lemmas.Bool.{false_from_ne_true}
use Rattle.std.proofs.lemmas.Bool.Decides.{eqb_tells}
use Rattle.heap_words.specs.declared.phase.TheConstants.{LEFT}
use Rattle.heap_model.specs.declared.calls.collector_calls.Turn.TheVariants.{Stepped, Waits}
use Rattle.core_rule.proofs.Terms.{Entry, Heap, Stage, Collector, has_answered_of, turn_at, at, State, found_by, seat_at, Seat, Book, EachWaitIsBehind, answer_word, Rule}
use Rattle.heap_model.specs.account.Phases.{IsBehind}
use Rattle.core_machine.specs.declared.table.address.Address.TheVariants.{Answer}
use Rattle.core_machine.specs.declared.collector.stage.Stage.TheVariants as stages
use Rattle.core_machine.specs.seat.Fits.{FitsStage}

-- a word that shows no answer is neither the phase nor that of a seat that has left
unanswered : (p word : ℕ) → has_answered_of p word ≡ false → (word ≢ p) × (word ≢ LEFT)
unanswered p word none = elim (eqb_tells word p) [
  | inl same ↦ absurd (cc (none, same.0))
  | inr other ↦ elim (eqb_tells word LEFT) [
    | inl left ↦ absurd (cc (none, other.0, left.0))
    | inr neither ↦ (other.1, neither.1)
  ]
]

-- the seat is there and hasn't left, and its answer is to the phase before this one
abbrev IsOneBehind : Heap → List Entry → ℕ → ℕ → ℕ → Type 0
IsOneBehind heap history seat answer p = (seat < heap.seats) × IsBehind seat answer p history × (answer + 1 ≡ p)

module _ (heap : Heap) (state : State) (book : Book) (rule : Rule heap state book) where
  abbrev collector : Collector
  collector = state.collector

  abbrev number : ℕ
  number = collector.looked

  abbrev word : ℕ
  word = at heap state.words (Answer number)

  -- the seat that was looked at is
  looked_behind : collector.stage ≡ stages.Looking → has_answered_of collector.phase word ≡ false → IsOneBehind heap book.history number word collector.phase
  looked_behind looking none =
      let below : number < heap.seats = subst (FitsStage heap collector.phase number) looking rule.machine.collector_fit.at_stage in
      let seat : Seat = seat_at state number in
      let told = (rule.seats_stand number below).cycle.answers_told in
      let here = rule.collector_stands.phase_told in
      let neither = unanswered collector.phase word none in
      let present : seat.left ≡ false = false_from_ne_true seat.left (λ gone. neither.1 (told.word ∙ ap (λ left. answer_word left seat.answered) gone)) in
      let is : word ≡ seat.answered = told.word ∙ ap (λ left. answer_word left seat.answered) present in
      elim (told.near present) [
        | inl same ↦ absurd (neither.0 (is ∙ same ∙ sym here))
        | inr before ↦ (below, record { present = told.leaves ∙ present; answered = told.told ∙ sym is; here = sym here }, omega (arith, is, before, here))
      ]

  -- so the one that a turn waits for is
  waits_behind : (seat answer p : ℕ) (stage : Stage) → collector.stage ≡ stage
      → (turn_at heap collector stage).answer (found_by heap state (turn_at heap collector stage).step) ≡ Waits seat answer p → IsOneBehind heap book.history seat answer p
  waits_behind seat answer p stages.Looking looking waits = by (has_answered_of collector.phase word) refl waits
    where
      by : (b : Bool) → has_answered_of collector.phase word ≡ b → (if b then Stepped else Waits number word collector.phase) ≡ Waits seat answer p → IsOneBehind heap book.history seat answer p
      by true seen same = absurd (cc same)
      by false none same =
          let which : seat ≡ number = cc same in
          let what : answer ≡ word = cc same in
          let when : p ≡ collector.phase = cc same in
          rw (which, what, when) (looked_behind looking none)
  waits_behind seat answer p _ stage waits = absurd (cc waits)

pub each_wait_is_behind : EachWaitIsBehind
each_wait_is_behind heap state book seat answer p rule waits = waits_behind heap state book rule seat answer p state.collector.stage refl waits
