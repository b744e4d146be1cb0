-- What a call leaves as it was, by its reply.
use Rattle.std.proofs.Common.{◌≡◌, ℕ, ◌+◌, ◌<◌, ◌⊎◌, List, [], ◌∷◌, ◌++◌, refl, sym, ap, subst, ◌∙◌, inl, inr, arith}
use Rattle.std.specs.List.{All, AllByRecursion}
use Rattle.std.proofs.lemmas.List.Elements.{All-append, All-push, All-weaker, All-from_recursion}
use Rattle.heap_model.specs.Command.{IsCommand}
use Rattle.heap_model.specs.Limits.{set_limit}
use Rattle.heap_model.specs.calls.SeatLaws.{IsOwn}
use Rattle.heap_model.specs.declared.command.Command.{Command}
use Rattle.heap_model.specs.declared.command.Command.TheVariants as commands
use Rattle.heap_model.specs.declared.entry.Entry.{Entry}
use Rattle.heap_model.specs.declared.entry.Entry.TheVariants.{Said, Takes, GivesBack, Answers}
use Rattle.heap_model.specs.declared.heap.Heap.{Heap}
use Rattle.heap_model.specs.declared.reply.Reply.{Reply}
use Rattle.heap_model.specs.declared.reply.Reply.TheVariants as replies
use Rattle.core_machine.specs.calls.Kept.{Kept, kept_of}
use Rattle.core_machine.specs.calls.Replies.{StandsOn}
use Rattle.core_machine.specs.declared.step.Step.{Step}
use Rattle.core_machine.specs.machine.Calls.{IsBeside}
use Rattle.core_machine.specs.seat.FitsAccess.{IsSet, IsCas}
use Rattle.core_machine.specs.machine.Machine.{MayBegin}
use Rattle.core_machine.specs.seat.Seat.{HasNumberLeft}
use Rattle.core_rule.specs.told.Told.{IsAsTold}
use Rattle.heap_table.specs.Made.{ToldIn, IsSound}
use Rattle.heap_table.specs.SeatHeld.{SeatHeld}
use Rattle.mutator_seat.specs.Calls.{MakesCall}
use Rattle.mutator_seat.specs.Resting.{Rests}

-- a command that may put a word into a field
abbrev PutsWord : Command → Type 0
PutsWord command = IsSet command ⊎ IsCas command

module _ (tells : Step → ℕ → Type 0) (heap : Heap) (number : ℕ) (before kept : Kept) (first : List Entry) where
  -- how often a seat was found behind, and the number of sets, which a set and a cas alone count up
  pub record CountsSo (command : Command) : Type 0 where
    pub waits : kept.looks.waits ≡ before.looks.waits
    pub sets : (kept.sets ≡ before.sets) ⊎ (PutsWord command × (kept.sets ≡ before.sets + 1))

  same_counts : (command : Command) (last : Kept) → kept ≡ last → last.looks.waits ≡ before.looks.waits → last.sets ≡ before.sets → CountsSo command
  same_counts command last is waits sets = record { waits = ap (λ (k : Kept). k.looks.waits) is ∙ waits; sets = inl (ap (λ (k : Kept). k.sets) is ∙ sets) }

  one_more : (command : Command) (last : Kept) → kept ≡ last → PutsWord command → last.looks.waits ≡ before.looks.waits → last.sets ≡ before.sets + 1 → CountsSo command
  one_more command last is puts waits sets = record { waits = ap (λ (k : Kept). k.looks.waits) is ∙ waits; sets = inr (puts, ap (λ (k : Kept). k.sets) is ∙ sets) }

  pub call_counts_so : (command : Command) (reply : Reply) → StandsOn tells heap number command before kept first reply → CountsSo command
  call_counts_so commands.Leave replies.Done is = same_counts commands.Leave _ is refl refl
  call_counts_so _ replies.Done is = same_counts _ _ is.kept_is refl refl
  call_counts_so command replies.Yes is = same_counts command _ is.kept_is refl refl
  call_counts_so command replies.No is = same_counts command _ is.kept_is refl refl
  call_counts_so command (replies.Made id) is =
      let between = is.has.kept_is in
      record {
        waits = ap (λ (k : Kept). k.looks.waits) is.kept_is ∙ ap (λ (k : Kept). k.looks.waits) between;
        sets = inl (ap (λ (k : Kept). k.sets) is.kept_is ∙ ap (λ (k : Kept). k.sets) between);
      }
  call_counts_so command (replies.Got value stamp) is = same_counts command _ is.kept_is refl refl
  call_counts_so command (replies.Was stamp) (inl is) = one_more command _ is.kept_is (inl is.a_set) refl refl
  call_counts_so command (replies.Was stamp) (inr is) = one_more command _ is.kept_is (inr is.compared.a_cas) refl refl
  call_counts_so command (replies.Now stamp) is = same_counts command _ is.keeps refl refl
  call_counts_so command (replies.Length n) is = same_counts command _ is.keeps refl refl
  call_counts_so command (replies.Phase p) is = same_counts command _ is.kept_is refl refl
  call_counts_so command (replies.Cycle j) is = absurd is
  call_counts_so command (replies.Waits other answered phase) is = absurd is
  call_counts_so command replies.NoObject is = same_counts command _ is.kept_is refl refl
  call_counts_so command replies.NoField is = same_counts command _ is.keeps refl refl
  call_counts_so command (replies.Full need found) is = same_counts command _ is.keeps refl refl
  call_counts_so command (replies.SpineFull need used) is = same_counts command _ is.keeps refl refl

-- one that may be begun has a stamp left
stamp_left : (made sets : ℕ) (command : Command) → PutsWord command → HasNumberLeft made sets command → sets + 1 < set_limit
stamp_left made sets (commands.Set r i v) puts left = left
stamp_left made sets (commands.Cas r i a v) puts left = left
stamp_left made sets _ (inl a_set) left = absurd a_set
stamp_left made sets _ (inr a_cas) left = absurd a_cas

-- entries that tell no reply are the seat's own
beside_own : (number : ℕ) (entry : Entry) → IsBeside number entry → IsOwn number entry
beside_own number (Takes other count) is = is
beside_own number (GivesBack other count) is = is
beside_own number (Answers other phase) is = is
beside_own number _ is = absurd is

-- so all entries of a call are
pub call_own : (number : ℕ) (command : Command) (reply : Reply) (mine first : List Entry) → IsCommand command → AllByRecursion (IsBeside number) first → All (IsOwn number) mine
    → All (IsOwn number) (mine ++ (first ++ Said number command reply ∷ []))
call_own number command reply mine first in_range beside own =
    All-append (IsOwn number) mine (first ++ Said number command reply ∷ []) own
    (All-push (IsOwn number) first (Said number command reply) (All-weaker (IsBeside number) (IsOwn number) (beside_own number) first (All-from_recursion (IsBeside number) first beside)) (refl, in_range))

-- a seat that rests rests again after a whole call
pub seat_rests_after_call : (old new : SeatHeld) (command : Command) (reply : Reply) → MayBegin old.seat command → MakesCall old new command reply → IsSound new → IsAsTold new.heap new.number new.seat → Rests new
seat_rests_after_call old new command reply may call sound told = record {
  between = record {
    idle = call.over;
    own = subst (λ (n : ℕ). All (IsOwn n) new.seat.mine) (sym call.makes.number_stays) (subst (All (IsOwn old.number)) (sym call.told) (call_own old.number command reply old.seat.mine call.first may.in_range call.beside call.rested.between.own));
    stamps = elim counts.sets as (λ _. new.seat.sets < set_limit) [
      | inl same ↦ omega (arith, same, call.rested.between.stamps)
      | inr more ↦ omega (arith, more.1, stamp_left old.seat.made old.seat.sets command more.0 may.numbered)
    ];
  };
  sound = sound;
  told = told;
}
  where
    counts : CountsSo (ToldIn old call.made) old.heap old.number (kept_of old.seat) (kept_of new.seat) call.first command
    counts = call_counts_so (ToldIn old call.made) old.heap old.number (kept_of old.seat) (kept_of new.seat) call.first command reply call.stands
