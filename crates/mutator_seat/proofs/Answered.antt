-- A whole call of a seat, by the steps that it has made.
use Rattle.std.proofs.Common.{◌≡◌, ℕ, ◌+◌, ◌*◌, ◌≤◌, ◌⊎◌, List, [], ◌∷◌, ◌++◌, length, Some, None, sym, ap, subst, ◌∙◌, append_assoc, arith}
use Rattle.heap_model.specs.Needs.{need_of}
use Rattle.heap_model.specs.declared.command.Command.{Command}
use Rattle.heap_model.specs.declared.command.Command.TheVariants.{Poll}
use Rattle.heap_model.specs.declared.entry.Entry.{Entry}
use Rattle.heap_model.specs.declared.entry.Entry.TheVariants.{Said}
use Rattle.heap_model.specs.declared.reply.Reply.{Reply}
use Rattle.heap_model.specs.declared.reply.Reply.TheVariants.{Phase}
use Rattle.core_machine.specs.calls.Kept.{kept_of}
use Rattle.core_machine.specs.calls.Owes.{owes}
use Rattle.core_machine.specs.calls.OwnStage.{OwnStage}
use Rattle.core_machine.specs.calls.Replies.{StandsOn, IsAnswered}
use Rattle.core_machine.specs.declared.point.Point.TheVariants.{Idle}
use Rattle.core_machine.specs.declared.step.Step.{Step}
use Rattle.core_machine.specs.machine.Calls.{last_reply_of}
use Rattle.core_machine.specs.machine.Machine.{MayBegin, after_begin}
use Rattle.core_machine.proofs.call_lemmas.CallEnd.{last_reply-said}
use Rattle.core_machine.proofs.moves.{begin_stands}
use Rattle.core_machine.proofs.moves.Standing.{BeginStands}
use Rattle.core_machine.proofs.own_stages.{own_begins}
use Rattle.core_machine.proofs.own_stages.End.{own_answered, comes_before}
use Rattle.heap_table.specs.Made.{Made, ToldIn, MakesSteps, IsSound}
use Rattle.heap_table.specs.SeatHeld.{SeatHeld}
use Rattle.heap_table.specs.StepLaws.{EachStageIsTold}
use Rattle.mutator_seat.specs.Calls.{begun, MakesCall}
use Rattle.mutator_seat.specs.Resting.{Rests}
use Rattle.mutator_seat.proofs.Causes.{keeps_whole_where_refused, reply_has_its_cause}
use Rattle.mutator_seat.proofs.KeptOn.{call_counts_so}

module _ (old : SeatHeld) (command : Command) (rests : Rests old) (may : MayBegin old.seat command) where
  abbrev sound : IsSound old
  sound = rests.sound

  stands : BeginStands old.heap old.number old.seat command (after_begin old.heap old.seat command)
  stands = begin_stands old.heap old.number old.seat command sound.limits sound.fits may

  -- the begin leaves data that fit together, and owes what there is room for
  pub begun_is_sound : (held : SeatHeld) → held ≡ begun old command → IsSound held
  begun_is_sound held is = subst IsSound (sym is) (record { limits = sound.limits; within = sound.within; fits = stands.fits })

  pub begun_has_room : (held : SeatHeld) → held ≡ begun old command → 2 * need_of command + 4 ≤ old.spare → owes held.seat + 2 ≤ held.spare
  begun_has_room held is room = subst (λ (h : SeatHeld). owes h.seat + 2 ≤ h.spare) (sym is) (enough (owes (begun old command).seat) (need_of command) old.spare stands.owed room)
    where
      enough : (owed need room : ℕ) → owed ≤ 2 * need + 2 → 2 * need + 4 ≤ room → owed + 2 ≤ room
      enough owed need room a b = omega arith

  module _ (told : EachStageIsTold) (new : SeatHeld) (made : List Made) (makes : MakesSteps (begun old command) new made) (over : new.seat.point ≡ Idle) where
    abbrev tells : Step → ℕ → Type 0
    tells = ToldIn old made

    ends : (told : List Entry) × OwnStage tells old.heap old.number command old.seat new.seat told
    ends = told old made command (begun old command).seat new.seat [] sound.limits (omega (arith, sound.within, sound.limits.seats_fit)) stands.fits makes.leads
        (own_begins tells old.heap old.number old.seat command sound.limits sound.fits may)

    answered : IsAnswered tells old.heap old.number command (kept_of old.seat) (kept_of new.seat) ends.0
    answered = own_answered tells old.heap old.number command old.seat new.seat ends.0 ends.1 over

    -- the phase that a poll has found is the one that was answered last, or the next
    near : command ≡ Poll → (p : ℕ) → answered.reply ≡ Phase p → (p ≡ old.seat.answered) ⊎ (p ≡ old.seat.answered + 1)
    near polls p is = let phase = subst (StandsOn tells old.heap old.number command (kept_of old.seat) (kept_of new.seat) answered.first) is answered.stands in phase.told.1

    call_made : MakesCall old new command answered.reply
    call_made = record {
      rested = rests;
      made = made;
      makes = makes;
      over = over;
      first = answered.first;
      told = ends.1.mine ∙ ap (λ (l : List Entry). old.seat.mine ++ l) answered.last;
      beside = answered.beside;
      comes = comes_before old.number (kept_of old.seat) command answered.reply answered.first answered.comes near;
      stands = answered.stands;
      room = omega (arith, makes.room_stays, ap (length {A = Entry}) stands.kept);
      no_more = makes.no_more;
      cause = reply_has_its_cause old new command made answered.first sound answered.reply answered.stands;
      refused = keeps_whole_where_refused old new command made answered.first answered.reply answered.stands;
      waits_stay = (call_counts_so tells old.heap old.number (kept_of old.seat) (kept_of new.seat) answered.first command answered.reply answered.stands).waits;
    }

    last_told : last_reply_of new.seat.mine ≡ Some answered.reply
    last_told = ap last_reply_of (ends.1.mine ∙ ap (λ (l : List Entry). old.seat.mine ++ l) answered.last ∙ sym (append_assoc old.seat.mine answered.first (Said old.number command answered.reply ∷ [])))
        ∙ last_reply-said (old.seat.mine ++ answered.first) old.number command answered.reply

    -- the call was made whole, and its reply is told by the last entry
    pub replied_call_is_made : (reply : Reply) → last_reply_of new.seat.mine ≡ Some reply → MakesCall old new command reply
    replied_call_is_made reply is = subst (MakesCall old new command) (same answered.reply reply (sym last_told ∙ is)) call_made
      where
        same : (a b : Reply) → Some a ≡ Some b → a ≡ b
        same a b e = cc

    pub call_has_some_reply : last_reply_of new.seat.mine ≡ None → ⊥
    call_has_some_reply none = absurd (differ answered.reply (sym last_told ∙ none))
      where
        differ : (a : Reply) → Some a ≡ None → ⊥
        differ a e = cc
