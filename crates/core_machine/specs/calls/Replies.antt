-- What a reply stands on, and what the seat keeps after it.
use Rattle.std.specs.Prelude.{◌≡◌, ◌≢◌, ℕ, ◌⊎◌, true, List, [], ◌∷◌, ◌++◌, length, replicate}
use Rattle.std.specs.List.{AllByRecursion}
use Rattle.heap_model.specs.Limits.{register_count}
use Rattle.heap_model.specs.calls.SeatCalls.{ComesBefore}
use Rattle.heap_model.specs.declared.command.Command.{Command}
use Rattle.heap_model.specs.declared.command.Command.TheVariants as commands
use Rattle.heap_model.specs.declared.entry.Entry.{Entry}
use Rattle.heap_model.specs.declared.entry.Entry.TheVariants.{Said, Answers}
use Rattle.heap_model.specs.declared.heap.Heap.{Heap}
use Rattle.heap_model.specs.declared.reply.Reply.{Reply}
use Rattle.heap_model.specs.declared.reply.Reply.TheVariants as replies
use Rattle.core_machine.specs.declared.seat.register.Register.TheVariants.{Nil}
use Rattle.core_machine.specs.declared.step.Step.{Step}
use Rattle.core_machine.specs.declared.step.Step.TheVariants as steps
use Rattle.core_machine.specs.calls.Kept.{Kept, kept_replied}
use Rattle.core_machine.specs.machine.Calls.{IsBeside}
use Rattle.core_machine.specs.seat.FitsHandshake.{IsLocal}
use Rattle.core_machine.specs.seat.Local.{local_reply_of, local_registers, local_seen}
pub use Rattle.core_machine.specs.calls.ObjectReplies.{IsMade, IsFull, IsSpineFull}
pub use Rattle.core_machine.specs.calls.FieldReplies.{IsHeldOf, IsGot, IsSetTo, IsSwapped, HasOther, HasNoField, HasLength}

-- the call looked at no word: the registers give the reply, and what they are after it
pub record AnswersLocally (command : Command) (before kept : Kept) (reply : Reply) : Type 0 where
  pub local : IsLocal before.registers command
  pub reply_is : reply ≡ local_reply_of before.registers command
  pub kept_is : kept ≡ kept_replied kept.looks.seen (record before { registers = local_registers before.registers command; seen = local_seen before.seen command })

-- a seat that has left keeps nothing
abbrev pub HasLeft : Kept → Kept → Type 0
HasLeft before kept = kept ≡ kept_replied kept.looks.seen (record before { registers = replicate register_count Nil; seen = replicate register_count 0; reserve = []; left = true })

-- the seat has left, or the registers are as the command says
abbrev pub IsDoneBy : Kept → Kept → Command → Type 0
IsDoneBy before kept commands.Leave = HasLeft before kept
IsDoneBy before kept command = AnswersLocally command before kept replies.Done

-- the phase was loaded, which the seat has answered now
pub record HasPhase (tells : Step → ℕ → Type 0) (command : Command) (before kept : Kept) (phase : ℕ) : Type 0 where
  pub a_poll : command ≡ commands.Poll
  pub told : tells steps.PollLoad phase
  pub kept_is : kept ≡ kept_replied phase (record before { answered = phase })

-- what each reply to a served command stands on
abbrev pub StandsOn : (Step → ℕ → Type 0) → Heap → ℕ → Command → Kept → Kept → List Entry → Reply → Type 0
StandsOn tells heap number command before kept told replies.Done = IsDoneBy before kept command
StandsOn tells heap number command before kept told replies.Yes = AnswersLocally command before kept replies.Yes
StandsOn tells heap number command before kept told replies.No = AnswersLocally command before kept replies.No
StandsOn tells heap number command before kept told (replies.Made id) = IsMade tells heap number command before kept told id
StandsOn tells heap number command before kept told (replies.Got value stamp) = IsGot tells command before kept value stamp
StandsOn tells heap number command before kept told (replies.Was stamp) = IsSetTo tells number command before kept stamp ⊎ IsSwapped tells number command before kept stamp
StandsOn tells heap number command before kept told (replies.Now stamp) = HasOther tells number command before kept stamp
StandsOn tells heap number command before kept told (replies.Length n) = HasLength tells command before kept n
StandsOn tells heap number command before kept told (replies.Phase p) = HasPhase tells command before kept p
StandsOn tells heap number command before kept told (replies.Cycle j) = ⊥
StandsOn tells heap number command before kept told (replies.Waits seat answered phase) = ⊥
StandsOn tells heap number command before kept told replies.NoObject = AnswersLocally command before kept replies.NoObject
StandsOn tells heap number command before kept told replies.NoField = HasNoField tells command before kept
StandsOn tells heap number command before kept told (replies.Full need found) = IsFull tells heap number command before kept need found
StandsOn tells heap number command before kept told (replies.SpineFull need used) = IsSpineFull tells heap command before kept need used

-- a poll answers the phase first where the seat hadn't answered it yet
abbrev pub AnswersFirst : ℕ → ℕ → Reply → List Entry → Type 0
AnswersFirst number last (replies.Phase p) first = ((p ≡ last) × (first ≡ [])) ⊎ ((p ≢ last) × (first ≡ Answers number p ∷ []))
AnswersFirst number last _ first = ⊥

-- the entries right before the reply, by what the seat had at the begin
abbrev pub ComesFirst : ℕ → Kept → Command → Reply → List Entry → Type 0
ComesFirst number before commands.Poll reply first = AnswersFirst number before.answered reply first
ComesFirst number before command reply first = ComesBefore number (length before.reserve) before.answered command reply first

-- the call was answered: its reply is its last entry and no other is one, and it stands on what was found
pub record IsAnswered (tells : Step → ℕ → Type 0) (heap : Heap) (number : ℕ) (command : Command) (before kept : Kept) (told : List Entry) : Type 0 where
  pub reply : Reply
  pub first : List Entry
  pub last : told ≡ first ++ Said number command reply ∷ []
  pub beside : AllByRecursion (IsBeside number) first
  pub comes : ComesFirst number before command reply first
  pub stands : StandsOn tells heap number command before kept first reply
