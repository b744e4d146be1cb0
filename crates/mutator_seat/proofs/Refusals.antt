-- When a call on an object is refused: for want of the object, and of the field.
use Rattle.std.proofs.Common.{◌≡◌, ℕ, ◌<◌, ◌≤◌, Option, Some, None, length, refl, sym, subst, inl, inr, arith}
use Rattle.std.specs.Prelude.{◌↔◌, IfSome}
use Rattle.heap_model.specs.calls.SeatState.{held_value, IsNoObject, HoldsNoObject, own_object}
use Rattle.heap_model.specs.declared.command.Command.{Command}
use Rattle.heap_model.specs.declared.command.Command.TheVariants as commands
use Rattle.heap_model.specs.declared.id.Value.{Value}
use Rattle.heap_model.specs.declared.id.Value.TheVariants as values
use Rattle.heap_model.specs.declared.refusal.NoObject.{NoObject}
use Rattle.heap_model.specs.declared.refusal.PlaceRefusal.TheVariants as refusals
use Rattle.heap_model.specs.declared.reply.Reply.{Reply}
use Rattle.heap_model.specs.declared.reply.Reply.TheVariants as replies
use Rattle.heap_model.specs.graph.Graph.{Node, Graph}
use Rattle.heap_model.specs.graph.Objects.{target_node}
use Rattle.core_machine.specs.calls.Kept.{Kept, kept_of}
use Rattle.core_machine.specs.calls.Reaching.{HasOpened, ReachesField}
use Rattle.core_machine.specs.calls.Replies.{StandsOn}
use Rattle.core_machine.specs.declared.point.Point.{Point}
use Rattle.core_machine.specs.declared.point.Point.TheVariants as points
use Rattle.core_machine.specs.declared.seat.register.Register.{Register}
use Rattle.core_machine.specs.declared.seat.register.Register.TheVariants as registers
use Rattle.core_machine.specs.declared.step.Step.{Step}
use Rattle.core_machine.specs.seat.Commands.{object_of, field_of, target_of}
use Rattle.core_machine.specs.seat.FitsAccess.{NamesObject, NamesField}
use Rattle.core_machine.specs.seat.Registers.{register_in, register_head, value_of}
use Rattle.core_machine.proofs.own_stages.Objects.{held_head, reply_is_no_object, no_object_is_held}
use Rattle.core_rule.specs.told.Found.{IsMetaOf}
use Rattle.core_rule.specs.graph.Registers.{IsAwaited}
use Rattle.heap_table.specs.SeatHeld.{SeatHeld}
use Rattle.heap_table.specs.Made.{ToldIn}
use Rattle.mutator_seat.specs.Calls.{MakesCall}
use Rattle.mutator_seat.specs.Replies.{AnswersGet, AnswersSet, IsReplyTo, AnswersCas}
use Rattle.mutator_seat.specs.Resting.{seat_state, Rests}
use Rattle.mutator_seat.proofs.Replied.{reply_is_to_command}

-- at rest each register holds what the seat's own list tells
not_awaited : (point : Point) (d r : ℕ) → point ≡ points.Idle → ¬ IsAwaited point d r
not_awaited point d r idle = subst (λ (p : Point). ¬ IsAwaited p d r) (sym idle) (λ none. none)

pub register_told : (held : SeatHeld) (r : ℕ) → Rests held → value_of (register_in held.seat.registers r) ≡ held_value (seat_state held) r
register_told held r rests = rests.told.registers r (not_awaited held.seat.point (target_of held.seat.command) r rests.between.idle)

-- a register has no first fragment where its value is no object
no_object_at : (register : Register) → register_head register ≡ None → IsNoObject (value_of register)
no_object_at registers.Nil e = tt
no_object_at (registers.Number n) e = tt
no_object_at (registers.Object head id) e = absurd (differ e)
  where
    differ : Some head ≡ None → ⊥
    differ e = cc

no_head_at : (register : Register) → IsNoObject (value_of register) → register_head register ≡ None
no_head_at registers.Nil none = refl
no_head_at (registers.Number n) none = refl
no_head_at (registers.Object head id) none = absurd none

no_target : (g : Graph) (value : Value) → IsNoObject value → target_node g value ≡ None
no_target g values.Nil none = refl
no_target g (values.Number n) none = refl
no_target g (values.Object id) none = absurd none

module _ (old new : SeatHeld) (command : Command) (reply : Reply) (call : MakesCall old new command reply) (names : NamesObject command) where
  abbrev Stands : Reply → Type 0
  Stands r = StandsOn (ToldIn old call.made) old.heap old.number command (kept_of old.seat) (kept_of new.seat) call.first r

  none_held : held_head (kept_of old.seat) command ≡ None → HoldsNoObject (seat_state old) (object_of command)
  none_held none = subst IsNoObject (register_told old (object_of command) call.rested) (no_object_at (register_in old.seat.registers (object_of command)) none)

  held_none : HoldsNoObject (seat_state old) (object_of command) → held_head (kept_of old.seat) command ≡ None
  held_none holds = no_head_at (register_in old.seat.registers (object_of command)) (subst IsNoObject (sym (register_told old (object_of command) call.rested)) holds)

  -- the call is refused for want of an object exactly where its register holds none
  pub refused_without : (reply ≡ replies.NoObject) ↔ HoldsNoObject (seat_state old) (object_of command)
  refused_without = (
    λ is. none_held (no_object_is_held (ToldIn old call.made) old.heap old.number command names (kept_of old.seat) (kept_of new.seat) call.first (subst Stands is call.stands)),
    λ holds. reply_is_no_object (ToldIn old call.made) old.heap old.number command names (kept_of old.seat) (kept_of new.seat) call.first reply call.stands (held_none holds),
  )

  -- without one it has no object of its own
  pub none_of_own : reply ≡ replies.NoObject → own_object (seat_state old) (object_of command) ≡ None
  none_of_own is = no_target _ (held_value (seat_state old) (object_of command)) (refused_without.0 is)

  -- the meta that was loaded tells the length of an object of its own
  pub meta_of_own : (head meta : ℕ) → HasOpened (ToldIn old call.made) command (kept_of old.seat) head meta → IfSome (own_object (seat_state old) (object_of command)) (λ object. IsMetaOf object meta)
  meta_of_own head meta opened = opened.told.1 (object_of command) opened.holds

-- a call on a field, of an object of the seat's own
abbrev pub IsOwnMeta : Option Node → ℕ → Type 0
IsOwnMeta own meta = IfSome own (λ object. IsMetaOf object meta)

reached_within : (tells : Step → ℕ → Type 0) (command : Command) (before : Kept) (object : Node) (reached part : ℕ)
    → ((head meta : ℕ) → HasOpened tells command before head meta → IsMetaOf object meta) → ReachesField tells command before reached part → field_of command < length object.cells
reached_within tells command before object reached part meta (inl way) = let is = meta way.head way.meta way.opened in omega (arith, way.within, is.length_is)
reached_within tells command before object reached part meta (inr way) = let is = meta way.head way.located.way.meta way.located.way.opened in omega (arith, way.located.way.within, is.length_is)

-- the replies of a call on a field
abbrev AnswersField : Reply → Type 0
AnswersField (replies.Got value stamp) = Unit {0}
AnswersField (replies.Was stamp) = Unit {0}
AnswersField (replies.Now stamp) = Unit {0}
AnswersField replies.NoObject = Unit {0}
AnswersField replies.NoField = Unit {0}
AnswersField _ = ⊥

get_field : (reply : Reply) → AnswersGet reply → AnswersField reply
get_field (replies.Got value stamp) answers = tt
get_field replies.NoObject answers = tt
get_field replies.NoField answers = tt
get_field _ answers = absurd answers

set_field : (reply : Reply) → AnswersSet reply → AnswersField reply
set_field (replies.Was stamp) answers = tt
set_field replies.NoObject answers = tt
set_field replies.NoField answers = tt
set_field _ answers = absurd answers

cas_field : (reply : Reply) → AnswersCas reply → AnswersField reply
cas_field (replies.Was stamp) answers = tt
cas_field (replies.Now stamp) answers = tt
cas_field replies.NoObject answers = tt
cas_field replies.NoField answers = tt
cas_field _ answers = absurd answers

field_answers : (command : Command) (reply : Reply) → NamesField command → IsReplyTo command reply → AnswersField reply
field_answers (commands.Get d r i) reply names is = get_field reply is
field_answers (commands.Set r i v) reply names is = set_field reply is
field_answers (commands.Cas r i a v) reply names is = cas_field reply is
field_answers _ reply names is = absurd names

module _ (old new : SeatHeld) (command : Command) (reply : Reply) (call : MakesCall old new command reply) (names : NamesObject command) (field : NamesField command) where
  abbrev tells : Step → ℕ → Type 0
  tells = ToldIn old call.made

  past_end : (object : Node) → ((head meta : ℕ) → HasOpened tells command (kept_of old.seat) head meta → IsMetaOf object meta) → reply ≡ replies.NoField → length object.cells ≤ field_of command
  past_end object meta is =
      let stands = subst (StandsOn tells old.heap old.number command (kept_of old.seat) (kept_of new.seat) call.first) is call.stands in
      let told = meta stands.head stands.meta stands.opened in
      omega (arith, stands.past, told.length_is)

  within_end : (object : Node) → ((head meta : ℕ) → HasOpened tells command (kept_of old.seat) head meta → IsMetaOf object meta) → (reply ≡ replies.NoObject → ⊥) → length object.cells ≤ field_of command
      → (r : Reply) → reply ≡ r → StandsOn tells old.heap old.number command (kept_of old.seat) (kept_of new.seat) call.first r → AnswersField r → r ≡ replies.NoField
  within_end object meta some past (replies.Got value stamp) is stands answers = absurd (omega (arith, past, reached_within tells command (kept_of old.seat) object stands.reached stands.part meta stands.field))
  within_end object meta some past (replies.Was stamp) is (inl stands) answers = absurd (omega (arith, past, reached_within tells command (kept_of old.seat) object stands.reached stands.part meta stands.field))
  within_end object meta some past (replies.Was stamp) is (inr stands) answers = absurd (omega (arith, past, reached_within tells command (kept_of old.seat) object stands.compared.reached stands.compared.part meta stands.compared.field))
  within_end object meta some past (replies.Now stamp) is stands answers = absurd (omega (arith, past, reached_within tells command (kept_of old.seat) object stands.compared.reached stands.compared.part meta stands.compared.field))
  within_end object meta some past replies.NoObject is stands answers = absurd (some is)
  within_end object meta some past replies.NoField is stands answers = refl
  within_end object meta some past _ is stands answers = absurd answers

  -- it is refused for want of the field exactly where the object is no longer
  by_own : (own : Option Node) → (reply ≡ replies.NoObject → own ≡ None) → ((head meta : ℕ) → HasOpened tells command (kept_of old.seat) head meta → IsOwnMeta own meta)
      → IfSome own (λ object. (reply ≡ replies.NoField) ↔ (length object.cells ≤ field_of command))
  by_own None none meta = tt
  by_own (Some object) none meta = (
    past_end object meta,
    λ past. within_end object meta (λ is. differ (none is)) past reply refl call.stands
        (field_answers command reply field (reply_is_to_command tells old.heap old.number command (kept_of old.seat) (kept_of new.seat) call.first reply call.stands)),
  )
    where
      differ : Some object ≡ None → ⊥
      differ e = cc

  pub refused_past : IfSome (own_object (seat_state old) (object_of command)) (λ object. (reply ≡ replies.NoField) ↔ (length object.cells ≤ field_of command))
  refused_past = by_own (own_object (seat_state old) (object_of command)) (none_of_own old new command reply call names) (meta_of_own old new command reply call names)
