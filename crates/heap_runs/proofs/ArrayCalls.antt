-- What a call that makes an array comes to on a machine between calls.
use Rattle.std.proofs.Common.{◌≡◌, ℕ, ◌+◌, ◌*◌, ◌%◌, ◌^◌, ◌≤◌, ◌⊎◌, length, inl, inr, sym, ap, ◌∙◌, arith}
use Rattle.std.proofs.lemmas.Bool.Decides.{leb_tells}
use Rattle.heap_model.specs.declared.command.Command.{Command}
use Rattle.heap_model.specs.declared.reply.Reply.{Reply}
use Rattle.heap_model.specs.declared.reply.Reply.TheVariants.{Made, SpineFull}
use Rattle.heap_model.specs.Heap.{IsHeap}
use Rattle.heap_model.specs.Needs.{spine_need_of}
use Rattle.heap_model.specs.account.Space.{need_of, fragments_gained, fragments_lost, taken_of, spent_of, words_granted, words_returned}
use Rattle.heap_model.specs.calls.SeatReplies.{next_id}
use Rattle.core_machine.specs.declared.table.address.Address.TheVariants.{Budget}
use Rattle.core_machine.specs.machine.Calls.{AnswersArray, IsRefused, IsSpineRefused, free_count, within_reach}
use Rattle.core_machine.specs.machine.Calls as machine
use Rattle.core_machine.specs.machine.Machine.{State, seat_at}
use Rattle.core_machine.specs.seat.Making.{next_object_id}
use Rattle.core_machine.specs.table.Layout.{at}
use Rattle.heap_record.specs.Recorded.{Recorded}
use Rattle.heap_runs.specs.MachineHeap.{run_state_of}
use Rattle.heap_runs.specs.PlayHeap.{PlayState, IsEnough, LacksWords, RefusesWords, RefusesFragments, AnswersArrayOnce, seat_state_of}

-- the three ways in which it ends
abbrev EndsOneWay : PlayState → ℕ → Command → Reply → Type 0
EndsOneWay state number command reply =
    (LacksWords state command × RefusesWords state command reply)
    ⊎ (((¬ LacksWords state command) × IsEnough state number command × (reply ≡ Made (next_id (seat_state_of state number))))
    ⊎ ((¬ LacksWords state command) × (¬ IsEnough state number command) × RefusesFragments state number command reply))

-- no two of them are one
answers_one_way : (state : PlayState) (number : ℕ) (command : Command) (reply : Reply) → EndsOneWay state number command reply → AnswersArrayOnce state number command reply
answers_one_way state number command reply (inl words) = record {
  made = (λ made. absurd (cc (sym made ∙ words.1.2)), λ both. absurd (both.0 words.0));
  no_words = (λ refuses. words.0, λ lacks. words.1);
  no_fragments = (λ refuses. absurd (cc (sym refuses.2 ∙ words.1.2)), λ both. absurd (both.0 words.0));
}
answers_one_way state number command reply (inr (inl made)) = record {
  made = (λ is. (made.0, made.1), λ both. made.2);
  no_words = (λ refuses. absurd (cc (sym refuses.2 ∙ made.2)), λ lacks. absurd (made.0 lacks));
  no_fragments = (λ refuses. absurd (cc (sym refuses.2 ∙ made.2)), λ both. absurd (both.1 made.1));
}
answers_one_way state number command reply (inr (inr full)) = record {
  made = (λ made. absurd (cc (sym made ∙ full.2.2)), λ both. absurd (full.1 both.1));
  no_words = (λ refuses. absurd (cc (sym refuses.2 ∙ full.2.2)), λ lacks. absurd (full.0 lacks));
  no_fragments = (λ refuses. (full.0, full.1), λ both. full.2);
}

module _ (old : Recorded) (new : State) (number : ℕ) (command : Command) (reply : Reply) (answer : AnswersArray old.machine.heap old.machine.state new number command reply) (limits : IsHeap old.machine.heap)
    (used : (at old.machine.heap old.machine.state.words Budget + words_returned old.history ≡ words_granted old.history) × (at old.machine.heap old.machine.state.words Budget ≤ old.machine.heap.spine))
    (had : spent_of number old.history + length (seat_at old.machine.state number).reserve ≡ taken_of number old.history)
    (free : free_count old.machine.heap old.machine.state.words + fragments_gained old.machine.heap old.history ≡ 16 * old.machine.heap.groups + fragments_lost old.history)
    (next : next_object_id number (seat_at old.machine.state number) ≡ next_id (seat_state_of (run_state_of old) number)) where
  abbrev here : PlayState
  here = run_state_of old

  -- what the refusal of spine words shows is what is in use
  words_refused : IsSpineRefused old.machine.heap old.machine.state new number command reply → RefusesWords here command reply
  words_refused refused =
      let few : at old.machine.heap old.machine.state.words Budget ≤ 16384 = omega (arith, used.1, limits.spine_fits) in
      let whole : at old.machine.heap old.machine.state.words Budget % 2 ^ 32 ≡ at old.machine.heap old.machine.state.words Budget = grind (arith, few) in
      (at old.machine.heap old.machine.state.words Budget, used.0, refused.shows ∙ ap (SpineFull (spine_need_of command)) whole)

  fragments_refused : IsRefused old.machine.heap old.machine.state new number command reply → RefusesFragments here number command reply
  fragments_refused refused = (within_reach old.machine.heap old.machine.state number, omega (arith, had, free), refused.shows)

  -- where enough spine words are left
  ends_beside : ¬ LacksWords here command → EndsOneWay here number command reply
  ends_beside enough =
      let granted : ¬ machine.LacksSpineWords old.machine.heap old.machine.state command = λ lacks. enough (omega (arith, lacks, used.0)) in
      elim (leb_tells (need_of command) (within_reach old.machine.heap old.machine.state number)) [
        | inl reach ↦ (let e = reach.1 in inr (inl (enough, omega (arith, e, had, free), answer.made granted e ∙ ap Made next)))
        | inr less ↦ (let l = less.1 in inr (inr (enough, λ most. omega (arith, l, most, had, free), fragments_refused (answer.refused granted l))))
      ]

  ends_one_way : EndsOneWay here number command reply
  ends_one_way = elim (leb_tells (words_granted old.history + spine_need_of command) (old.machine.heap.spine + words_returned old.history)) [
    | inl fits ↦ (let f = fits.1 in ends_beside (λ lacks. omega (arith, lacks, f)))
    | inr over ↦ (let o = over.1 in inl (o, words_refused (answer.spine_refused (omega (arith, o, used.0)))))
  ]

  pub answers_array_once : AnswersArrayOnce here number command reply
  answers_array_once = answers_one_way here number command reply ends_one_way
