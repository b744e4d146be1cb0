-- How a collect of a seat ends.
use Rattle.std.specs.Prelude.{min, nat_lt}
use Rattle.std.proofs.Common.{◌≡◌, ℕ, ◌+◌, ◌-◌, ◌*◌, ◌^◌, ◌<◌, ◌≤◌, List, ◌∷◌, ◌++◌, [], inl, inr, ap, ◌∙◌, append_assoc, arith}
use Rattle.std.proofs.lemmas.Bool.Decides.{nat_tests}
use Rattle.core_machine.proofs.table_lemmas.Bits.{true_or_false}
use Rattle.heap_model.specs.declared.calls.collect.CollectReply.{CollectReply}
use Rattle.heap_model.specs.declared.calls.collect.CollectReply.TheVariants.{Cycle, Waits}
use Rattle.heap_model.specs.declared.calls.collect.Inner.TheVariants.{Look, Note}
use Rattle.heap_model.specs.declared.command.Command.TheVariants.{Collect}
use Rattle.heap_model.specs.declared.entry.Entry.{Entry}
use Rattle.heap_model.specs.declared.entry.Entry.TheVariants.{Said}
use Rattle.heap_model.specs.declared.reply.Reply.{Reply}
use Rattle.core_machine.specs.declared.seat.looks.Looks.{Looks}
use Rattle.core_machine.specs.seat.Looks.{looked, noted_reply}
use Rattle.heap_table.specs.SeatHeld.{SeatHeld}
use Rattle.mutator_seat.specs.InnerCalls.{MakesInner}
use Rattle.mutator_seat.specs.Resting.{MakesRoom}
use Rattle.heap_runs.specs.CollectCall.{LooksAround, IsPatient, IsCauseOf, AnswersCollect, MayAnswer}
use Rattle.heap_runs.proofs.LooksOn.{makes_one_inner, same_seat_in_turn, same_seat_after_inner, looks_around_by_inner, looks_around_by_room, looks_around_in_turn}

-- as often as is counted, or as often more as the patience asks
patient_enough : (patience before now enough : ℕ) → enough ≡ min (before + patience) (2 ^ 64 - 1) → enough ≤ now → IsPatient patience before now
patient_enough patience before now enough is reached = elim (true_or_false (nat_lt (before + patience) (2 ^ 64 - 1))) as (λ _. IsPatient patience before now) [
  | inl few ↦ inl (grind (arith, nat_tests))
  | inr many ↦ inr (grind (arith, nat_tests))
]

-- a reply that the seat may give has its cause
cause_of : (patience target enough : ℕ) (old first found : SeatHeld) (reply : CollectReply) → MayAnswer target enough found.seat.looks reply → enough ≡ min (old.seat.looks.waits + patience) (2 ^ 64 - 1)
    → first.seat.looks.seen ≤ 7 * target → 7 * target < first.seat.looks.seen + 7 → IsCauseOf patience old first found reply
cause_of patience target enough old first found (Cycle cycle) may is behind such = record { behind = omega (arith, may.0, behind); first_such = omega (arith, may.0, such); ended = may.1.1 }
cause_of patience target enough old first found (Waits other answered phase) may is behind such = (patient_enough patience old.seat.looks.waits found.seat.looks.waits enough is may.0, may.1)

-- the reply is told behind the answers
told_then : (old set new answers : List Entry) (number other : ℕ) (reply : Reply) → set ≡ old ++ answers → other ≡ number → new ≡ set ++ Said other Collect reply ∷ []
    → new ≡ old ++ (answers ++ Said number Collect reply ∷ [])
told_then old set new answers number other reply grown same told =
    told ∙ ap (λ (l : List Entry). l ++ Said other Collect reply ∷ []) grown ∙ append_assoc old answers (Said other Collect reply ∷ []) ∙ ap (λ (n : ℕ). old ++ (answers ++ Said n Collect reply ∷ [])) same

module _ (patience target enough loaded : ℕ) (old ready first found set new : SeatHeld) (reply : CollectReply) where
  pub end_answers_collect : MakesRoom old ready → MakesInner ready first Look → first.seat.looks ≡ looked loaded ready.seat.looks → LooksAround first found → MakesRoom found set → MakesInner set new (Note reply)
      → MayAnswer target enough found.seat.looks reply → enough ≡ min (old.seat.looks.waits + patience) (2 ^ 64 - 1) → loaded ≤ 7 * target → 7 * target < loaded + 7
      → new.seat.mine ≡ set.seat.mine ++ Said set.number Collect (noted_reply reply) ∷ [] → new.seat.looks.waits ≡ set.seat.looks.waits → AnswersCollect patience old new reply
  end_answers_collect room look looks around room_two note may is behind such told waits =
      let seen : first.seat.looks.seen ≡ loaded = ap (λ (l : Looks). l.seen) looks in
      let to_found : LooksAround old found = looks_around_in_turn old first found (looks_around_by_inner old ready first Look tt room look) around in
      let to_set : LooksAround old set = looks_around_in_turn old found set to_found (looks_around_by_room found set room_two) in
      record {
        looked = first;
        looks = makes_one_inner old ready first Look room look;
        found = found;
        around = around;
        notes = makes_one_inner found set new (Note reply) room_two note;
        cause = cause_of patience target enough old first found reply may is (omega (arith, seen, behind)) (omega (arith, seen, such));
        same = same_seat_in_turn old set new to_set.same (same_seat_after_inner set new (Note reply) note);
        answers = to_set.answers;
        own = to_set.own;
        mine = told_then old.seat.mine set.seat.mine new.seat.mine to_set.answers old.number set.number (noted_reply reply) to_set.mine to_set.same.number_stays told;
        finds_stay = waits ∙ ap (λ (h : SeatHeld). h.seat.looks.waits) room_two;
        waits = omega (arith, to_set.waits, waits);
      }
