-- A call on an object is refused for want of it exactly where its register holds none.
use Rattle.std.proofs.Common.{◌≡◌, ℕ, List, Option, Some, None, refl, sym, ◌∙◌, inl, inr}
use Rattle.core_machine.proofs.Terms.{Command, Entry, Heap, Reply, Kept, AnswersLocally, IsDoneBy, StandsOn, Register, Step, MakesObject, IsArrayCall, object_of, IsLocal}
use Rattle.core_machine.proofs.Terms.{NamesObject, register_in, register_head}
use Rattle.heap_model.specs.declared.command.Command.TheVariants as commands
use Rattle.heap_model.specs.declared.reply.Reply.TheVariants as replies
use Rattle.core_machine.specs.calls.Reaching.{HasOpened, ReachesField}
use Rattle.core_machine.specs.seat.Local.{local_reply_of}

-- the first fragment of the object that the command's register holds
abbrev pub held_head : Kept → Command → Option ℕ
held_head before command = register_head (register_in before.registers (object_of command))

-- such a call looks at no word exactly where there is none, and then its reply is that
none_held : (before : Kept) (command : Command) → NamesObject command → IsLocal before.registers command → held_head before command ≡ None
none_held before (commands.Get d r i) names local = local
none_held before (commands.Set r i v) names local = local
none_held before (commands.Cas r i a v) names local = local
none_held before (commands.Len r) names local = local
none_held before _ names local = absurd names

none_replied : (registers : List Register) (command : Command) → NamesObject command → local_reply_of registers command ≡ replies.NoObject
none_replied registers (commands.Get d r i) names = refl
none_replied registers (commands.Set r i v) names = refl
none_replied registers (commands.Cas r i a v) names = refl
none_replied registers (commands.Len r) names = refl
none_replied registers _ names = absurd names

-- no command on an object makes one, leaves or polls
no_maker : (command : Command) → NamesObject command → MakesObject command → ⊥
no_maker (commands.New d fields) names makes = names
no_maker (commands.Array d cells) names makes = names
no_maker _ names makes = makes

no_array : (command : Command) → NamesObject command → IsArrayCall command → ⊥
no_array (commands.Array d cells) names an_array = names
no_array _ names an_array = an_array

no_poll : (command : Command) → NamesObject command → command ≡ commands.Poll → ⊥
no_poll command names polls = rw polls at names

done_locally : (before kept : Kept) (command : Command) → NamesObject command → IsDoneBy before kept command → AnswersLocally command before kept replies.Done
done_locally before kept commands.Leave names is = absurd names
done_locally before kept _ names is = is

module _ (tells : Step → ℕ → Type 0) (heap : Heap) (number : ℕ) (command : Command) (names : NamesObject command) (before kept : Kept) (first : List Entry) where
  -- an opened object was held
  opened_held : {G : Type 0} (head meta : ℕ) → HasOpened tells command before head meta → held_head before command ≡ None → G
  opened_held head meta opened none = absurd (differ (sym opened.holds ∙ none))
    where
      differ : Some head ≡ None → ⊥
      differ e = cc

  reached_held : {G : Type 0} (reached part : ℕ) → ReachesField tells command before reached part → held_head before command ≡ None → G
  reached_held reached part (inl is) none = opened_held is.head is.meta is.opened none
  reached_held reached part (inr is) none = opened_held is.head is.located.way.meta is.located.way.opened none

  -- without an object the reply says so
  pub reply_is_no_object : (reply : Reply) → StandsOn tells heap number command before kept first reply → held_head before command ≡ None → reply ≡ replies.NoObject
  reply_is_no_object replies.Done is none = (done_locally before kept command names is).reply_is ∙ none_replied before.registers command names
  reply_is_no_object replies.Yes is none = is.reply_is ∙ none_replied before.registers command names
  reply_is_no_object replies.No is none = is.reply_is ∙ none_replied before.registers command names
  reply_is_no_object (replies.Made id) is none = absurd (no_maker command names is.an_object)
  reply_is_no_object (replies.Got value stamp) is none = reached_held is.reached is.part is.field none
  reply_is_no_object (replies.Was stamp) (inl is) none = reached_held is.reached is.part is.field none
  reply_is_no_object (replies.Was stamp) (inr is) none = reached_held is.compared.reached is.compared.part is.compared.field none
  reply_is_no_object (replies.Now stamp) is none = reached_held is.compared.reached is.compared.part is.compared.field none
  reply_is_no_object (replies.Length n) is none = opened_held is.head is.meta is.opened none
  reply_is_no_object (replies.Phase p) is none = absurd (no_poll command names is.a_poll)
  reply_is_no_object (replies.Cycle j) is none = absurd is
  reply_is_no_object (replies.Waits other answered phase) is none = absurd is
  reply_is_no_object replies.NoObject is none = refl
  reply_is_no_object replies.NoField is none = opened_held is.head is.meta is.opened none
  reply_is_no_object (replies.Full need found) is none = absurd (no_maker command names is.an_object)
  reply_is_no_object (replies.SpineFull need used) is none = absurd (no_array command names is.an_array)

  -- and a reply that says so is without one
  pub no_object_is_held : StandsOn tells heap number command before kept first replies.NoObject → held_head before command ≡ None
  no_object_is_held is = none_held before command names is.local
