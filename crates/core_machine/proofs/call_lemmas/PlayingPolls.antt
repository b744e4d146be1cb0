-- A poll that is made by itself, step by step.
use Rattle.std.proofs.Common.{◌≡◌, ℕ, ◌+◌, length, eqb, List, [], ◌∷◌, ◌++◌, inl, inr, sym, ap, subst, ◌∙◌, append_assoc}
use Rattle.std.specs.Prelude.{nat_lt}
use Rattle.core_machine.proofs.Terms.{Heap, Command, Entry, Said, Answers, Phase, MakesObject, IsRecordCall, IsArrayCall, at, Seat, with_seen, with_entries, polling_move}
use Rattle.core_machine.proofs.Terms.{State, seat_at, found_by, state_after_move}
use Rattle.heap_model.specs.declared.command.Command.TheVariants as commands
use Rattle.heap_model.specs.declared.reply.Reply.TheVariants as replies
use Rattle.core_machine.specs.declared.point.Point.TheVariants as points
use Rattle.core_machine.specs.declared.point.Polling.TheVariants.{Asking, Shading, Answering}
use Rattle.core_machine.specs.seat.HandshakeMoves.{poll_move, poll_adds}
use Rattle.core_machine.specs.seat.Handshake.{roots, answer_next, after_phase_load}
use Rattle.core_machine.proofs.seat_lemmas.PollingOver.{polling_over_cases}
use Rattle.core_machine.proofs.table_lemmas.Bits.{true_or_false}
use Rattle.core_machine.proofs.seat_lemmas.Fitting.{array_makes_object, record_makes_object}
use Rattle.core_machine.proofs.call_lemmas.Stages.{AloneStage}
use Rattle.core_machine.proofs.call_lemmas.Stages.{PointLeadsAlone}
use Rattle.core_machine.proofs.call_lemmas.PlayingEnds.{ended}

-- a poll makes no object
poll_makes_none : (command : Command) → command ≡ commands.Poll → MakesObject command → ⊥
poll_makes_none command polls makes = rw polls at makes

no_collect : (command : Command) → command ≡ commands.Collect → command ≡ commands.Poll → ⊥
no_collect command collects polls = cc

module _ (heap : Heap) (old : State) (number : ℕ) (command : Command) (now : State) (told_ : List Entry) where
  abbrev the_seat : Seat
  the_seat = seat_at now number

  -- the phase that is told is that of the begin
  same_phase : (p q : ℕ) → replies.Phase p ≡ replies.Phase q → p ≡ at heap old.words Phase → q ≡ at heap old.words Phase
  same_phase p q e is = let same : p ≡ q = cc in sym same ∙ is

  -- the answer is prepared, whatever comes next
  prepared : (new : State) (told : List Entry) (seat : Seat) → seat.asked ≡ at heap old.words Phase
      → AloneStage heap old new number command told (with_entries (answer_next seat) []) (with_entries (answer_next seat) []).point
  prepared new told seat is =
      elim (true_or_false (nat_lt seat.shaded (length (roots seat)))) as (λ _. AloneStage heap old new number command told (with_entries (answer_next seat) []) (with_entries (answer_next seat) []).point) [
        | inl more ↦ rw more is
        | inr all ↦ rw all is
      ]

  -- the phase was loaded
  alone_asked : (new : State) (found : ℕ) → the_seat.command ≡ command → the_seat.command ≡ commands.Poll → found ≡ at heap old.words Phase
      → AloneStage heap old new number command (told_ ++ poll_adds number the_seat found) (with_entries (after_phase_load (with_seen found the_seat) found) (poll_adds number the_seat found)) (after_phase_load (with_seen found the_seat) found).point
  alone_asked new found same polls is =
      let seen = with_seen found the_seat in
      elim (true_or_false (eqb found the_seat.answered))
      as (λ _. AloneStage heap old new number command (told_ ++ poll_adds number the_seat found) (with_entries (after_phase_load seen found) (poll_adds number the_seat found)) (after_phase_load seen found).point) [
        | inl known ↦ rw known (polling_over_cases (λ s more. AloneStage heap old new number command (told_ ++ more) (with_entries s more) s.point) number the_seat.command seen found
            (λ collects. absurd (no_collect the_seat.command collects polls))
            (λ tells. ended heap old number command told_ new the_seat (replies.Phase found) same (poll_makes_none the_seat.command polls) (λ refusal. absurd refusal) (λ a_poll p e. same_phase found p e is)))
        | inr anew ↦ rw anew (prepared new (told_ ++ []) (record seen { asked = found }) is)
      ]

-- the phase was loaded
pub asks_alone : PointLeadsAlone (points.Polling Asking)
asks_alone heap old number command now told here =
    let move = poll_move number (seat_at now number) in
    alone_asked heap old number command now told (state_after_move heap now number move) (found_by heap now move.step) here.same here.own.0 (ap (λ (words : List ℕ). at heap words Phase) here.alone)

-- a root was shaded
pub roots_alone : PointLeadsAlone (points.Polling Shading)
roots_alone heap old number command now told here =
    let seat = seat_at now number in
    prepared heap old number command now told (state_after_move heap now number (polling_move number seat Shading)) (told ++ []) (record seat { shaded = seat.shaded + 1 }) here.alone

-- the answer was stored
pub answers_alone : PointLeadsAlone (points.Polling Answering)
answers_alone heap old number command now told here =
    let seat = seat_at now number in
    let answer = Answers number seat.asked in
    polling_over_cases (λ s more. AloneStage heap old (state_after_move heap now number (polling_move number seat Answering)) number command (told ++ answer ∷ more) (with_entries s (answer ∷ more)) s.point)
    number seat.command (record seat { answered = seat.asked }) seat.asked
    (λ collects. absurd (no_collect seat.command collects here.own.0)) (λ tells. record {
      reply = replies.Phase seat.asked;
      before = told ++ answer ∷ [];
      last = ap (λ (c : Command). told ++ answer ∷ Said number c (replies.Phase seat.asked) ∷ []) here.same
          ∙ sym (append_assoc told (answer ∷ []) (Said number command (replies.Phase seat.asked) ∷ []));
      answer = λ a_record. absurd (poll_makes_none seat.command here.own.0 (record_makes_object seat.command (subst IsRecordCall (sym here.same) a_record)));
      array = λ an_array. absurd (poll_makes_none seat.command here.own.0 (array_makes_object seat.command (subst IsArrayCall (sym here.same) an_array)));
      refused = λ refusal. absurd refusal;
      phase = λ a_poll p e. same_phase heap old number command now told seat.asked p e here.alone;
    })
