-- What a refusal leaves and what a reply shows, by what the call's steps found.
use Rattle.std.proofs.Common.{◌≡◌, ℕ, ◌+◌, ◌%◌, List, refl, sym, ap, subst, ◌∙◌, mod-eq_of_lt, arith}
use Rattle.heap_model.specs.Needs.{spine_need_of}
use Rattle.heap_model.specs.declared.command.Command.{Command}
use Rattle.heap_model.specs.declared.entry.Entry.{Entry}
use Rattle.heap_model.specs.declared.reply.Reply.{Reply}
use Rattle.heap_model.specs.declared.reply.Reply.TheVariants as replies
use Rattle.core_machine.specs.calls.Claims.{ClaimsGroup}
use Rattle.core_machine.specs.calls.Kept.{Kept, kept_of}
use Rattle.core_machine.specs.calls.Replies.{StandsOn, IsFull}
use Rattle.core_machine.specs.declared.step.SpineStep.TheVariants.{BudgetAdd}
use Rattle.core_machine.specs.declared.step.Step.TheVariants.{Spine}
use Rattle.core_machine.specs.machine.Calls.{KeepsOwn, IsPlaceRefusal}
use Rattle.core_machine.specs.seat.Local.{local_reply_of}
use Rattle.core_machine.specs.seat.Seat.{Seat}
use Rattle.core_machine.proofs.call_lemmas.GoingOn.{holds_of_every_group}
use Rattle.core_machine.proofs.call_lemmas.RepliesAlone.{refusal_leaves_registers, refusal_leaves_seen}
use Rattle.core_machine.proofs.table_lemmas.Free.{claimed_group_has_none_clear}
use Rattle.heap_table.specs.Made.{Made, FoundIn, ToldIn, IsSound}
use Rattle.heap_table.specs.SeatHeld.{SeatHeld}
use Rattle.frag_claim.specs.Gathered.{IsClaimed, IsExhausted}
use Rattle.mutator_seat.specs.Calls.{IsCauseOf, KeepsWhereRefused}

-- a seat that keeps these keeps its own
keeps_kept : (old new : Seat) (kept : Kept) → kept_of new ≡ kept → kept.registers ≡ old.registers → kept.seen ≡ old.seen → kept.reserve ≡ old.reserve → kept.cursor ≡ old.cursor → kept.made ≡ old.made → KeepsOwn old new
keeps_kept old new kept is registers seen reserve cursor made = record {
  registers_stay = ap (λ (k : Kept). k.registers) is ∙ registers;
  seen_stays = ap (λ (k : Kept). k.seen) is ∙ seen;
  reserve_stays = ap (λ (k : Kept). k.reserve) is ∙ reserve;
  cursor_stays = ap (λ (k : Kept). k.cursor) is ∙ cursor;
  made_stays = ap (λ (k : Kept). k.made) is ∙ made;
}

module _ (old new : SeatHeld) (command : Command) (made : List Made) (first : List Entry) where
  abbrev Stands : Reply → Type 0
  Stands reply = StandsOn (ToldIn old made) old.heap old.number command (kept_of old.seat) (kept_of new.seat) first reply

  pub keeps_whole_where_refused : (reply : Reply) → Stands reply → KeepsWhereRefused old new reply
  keeps_whole_where_refused replies.NoObject is =
      let refused : IsPlaceRefusal (local_reply_of old.seat.registers command) = subst IsPlaceRefusal is.reply_is tt in
      keeps_kept old.seat new.seat _ is.kept_is (refusal_leaves_registers old.seat.registers command refused) (refusal_leaves_seen old.seat.registers old.seat.seen command refused) refl refl refl
  keeps_whole_where_refused replies.NoField is = keeps_kept old.seat new.seat _ is.keeps refl refl refl refl refl
  keeps_whole_where_refused (replies.Full need found) is = keeps_kept old.seat new.seat _ is.keeps refl refl refl refl refl
  keeps_whole_where_refused (replies.SpineFull need used) is = keeps_kept old.seat new.seat _ is.keeps refl refl refl refl refl
  keeps_whole_where_refused _ is = tt

  -- every group was claimed
  claimed_at : (claimed : List ℕ) (group : ℕ) → ClaimsGroup (ToldIn old made) claimed group → IsClaimed made claimed group
  claimed_at claimed group claims = record {
    claim = record { word = claims.word; told = claims.told.0; got = claims.got };
    leaves = claimed_group_has_none_clear group claims.word;
  }

  exhausted : IsSound old → (need found : ℕ) → IsFull (ToldIn old made) old.heap old.number command (kept_of old.seat) (kept_of new.seat) need found
      → IsExhausted made old.heap.groups old.seat.reserve found
  exhausted sound need found is = record {
    claimed = is.claimed;
    every = λ group below. holds_of_every_group old.heap.groups old.seat.cursor old.heap.groups group (IsClaimed made is.claimed) sound.fits.own.cursor_within (omega arith) below
        (λ i less. claimed_at is.claimed ((old.seat.cursor + i) % old.heap.groups) (is.gathered.claims i less));
    found_is = is.found_is;
  }

  -- the spine words shown are the word that was found
  shown_whole : (need used : ℕ) → Stands (replies.SpineFull need used) → FoundIn made (Spine (BudgetAdd need)) used
  shown_whole need used is =
      let whole : is.word ≡ used = sym (is.used_is ∙ mod-eq_of_lt is.told.1) in
      subst (λ (n : ℕ). FoundIn made (Spine (BudgetAdd n)) used) (sym is.shown_is) (subst (λ (n : ℕ). FoundIn made (Spine (BudgetAdd (spine_need_of command))) n) whole is.told.0)

  pub reply_has_its_cause : IsSound old → (reply : Reply) → Stands reply → IsCauseOf made old reply
  reply_has_its_cause sound (replies.Phase p) is = is.told.0
  reply_has_its_cause sound (replies.Full need found) is = exhausted sound need found is
  reply_has_its_cause sound (replies.SpineFull need used) is = shown_whole need used is
  reply_has_its_cause sound _ is = tt
