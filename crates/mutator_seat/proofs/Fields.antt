-- What the calls on fields, lengths and comparisons tell of what is the seat's own, as the trait says it.
use Rattle.std.proofs.Common.{◌≡◌, ◌≢◌, ℕ, ◌≤◌, Bool, true, false, Option, Some, None, Result, Ok, Err, length, refl, sym, ap, subst, ◌∙◌, inl, inr}
use Rattle.std.specs.Prelude.{◌↔◌, IfOk, IfSome, IsTrue, IsErr}
use Rattle.heap_model.specs.calls.SeatReplies.{get_reply, set_reply, cas_reply, same_reply, len_reply}
use Rattle.heap_model.specs.calls.SeatState.{held_value, HoldsNoObject, own_object}
use Rattle.heap_model.specs.declared.command.Command.TheVariants as commands
use Rattle.heap_model.specs.declared.id.Value.{Value}
use Rattle.heap_model.specs.declared.id.Value.TheVariants as values
use Rattle.heap_model.specs.declared.refusal.NoObject.{NoObject}
use Rattle.heap_model.specs.declared.refusal.PlaceRefusal.{PlaceRefusal}
use Rattle.heap_model.specs.declared.refusal.PlaceRefusal.TheVariants as refusals
use Rattle.heap_model.specs.declared.reply.Reply.{Reply}
use Rattle.heap_model.specs.declared.reply.Reply.TheVariants as replies
use Rattle.heap_model.specs.declared.reply.Swapped.{Swapped}
use Rattle.heap_model.specs.declared.reply.Swapped.TheVariants as swaps
use Rattle.heap_model.specs.graph.Graph.{Node}
use Rattle.core_machine.specs.calls.Kept.{kept_of}
use Rattle.core_machine.specs.calls.Reaching.{HasOpened}
use Rattle.core_machine.specs.declared.point.Point.TheVariants as points
use Rattle.core_machine.specs.declared.seat.register.Register.TheVariants as registers
use Rattle.core_machine.specs.seat.Local.{answer_of}
use Rattle.core_machine.specs.seat.Registers.{register_in, value_of, is_same_value}
use Rattle.core_rule.proofs.graph.SameValues.{same_value_test_tells}
use Rattle.heap_table.specs.SeatHeld.{SeatHeld}
use Rattle.heap_table.specs.Made.{ToldIn}
use Rattle.mutator_seat.specs.Calls.{MakesCall}
use Rattle.mutator_seat.specs.Resting.{seat_state}
use Rattle.mutator_seat.specs.Swaps.{FindsBySwap}
use Rattle.mutator_seat.proofs.Refusals.{register_told, refused_without, none_of_own, IsOwnMeta, meta_of_own, refused_past}

-- a refusal is told by its reply
module _ {T : Type 0} (reply_of : Result T PlaceRefusal → Reply) (none : reply_of (Err refusals.NoObject) ≡ replies.NoObject) (past : reply_of (Err refusals.NoField) ≡ replies.NoField)
    (other : (value : T) → (reply_of (Ok value) ≢ replies.NoObject) × (reply_of (Ok value) ≢ replies.NoField)) where
  pub tells_none : (result : Result T PlaceRefusal) → (result ≡ Err refusals.NoObject) ↔ (reply_of result ≡ replies.NoObject)
  tells_none (Ok value) = (λ e. cc, λ e. absurd ((other value).0 e))
  tells_none (Err refusals.NoObject) = (λ e. none, λ e. refl)
  tells_none (Err refusals.NoField) = (λ e. cc, λ e. absurd (differ (sym past ∙ e)))
    where
      differ : replies.NoField ≡ replies.NoObject → ⊥
      differ e = cc

  pub tells_past : (result : Result T PlaceRefusal) → (result ≡ Err refusals.NoField) ↔ (reply_of result ≡ replies.NoField)
  tells_past (Ok value) = (λ e. cc, λ e. absurd ((other value).1 e))
  tells_past (Err refusals.NoObject) = (λ e. cc, λ e. absurd (differ (sym none ∙ e)))
    where
      differ : replies.NoObject ≡ replies.NoField → ⊥
      differ e = cc
  tells_past (Err refusals.NoField) = (λ e. past, λ e. refl)

  pub none_exactly : {P : Type 0} (result : Result T PlaceRefusal) → (reply_of result ≡ replies.NoObject) ↔ P → (result ≡ Err refusals.NoObject) ↔ P
  none_exactly result is = (λ e. is.0 ((tells_none result).0 e), λ p. (tells_none result).1 (is.1 p))

  pub past_exactly : (P : Node → Type 0) (own : Option Node) (result : Result T PlaceRefusal) → IfSome own (λ object. (reply_of result ≡ replies.NoField) ↔ P object)
      → IfSome own (λ object. (result ≡ Err refusals.NoField) ↔ P object)
  past_exactly P None result is = tt
  past_exactly P (Some object) result is = (λ e. is.0 ((tells_past result).0 e), λ p. (tells_past result).1 (is.1 p))

got_other : (cell : Value × ℕ) → (get_reply (Ok cell) ≢ replies.NoObject) × (get_reply (Ok cell) ≢ replies.NoField)
got_other cell = (λ e. cc, λ e. cc)

set_other : (stamp : ℕ) → (set_reply (Ok stamp) ≢ replies.NoObject) × (set_reply (Ok stamp) ≢ replies.NoField)
set_other stamp = (λ e. cc, λ e. cc)

swap_other : (swapped : Swapped) → (cas_reply (Ok swapped) ≢ replies.NoObject) × (cas_reply (Ok swapped) ≢ replies.NoField)
swap_other (swaps.Was stamp) = (λ e. cc, λ e. cc)
swap_other (swaps.Now stamp) = (λ e. cc, λ e. cc)

-- as the trait says it of a get
module _ (old new : SeatHeld) (d r i : ℕ) (result : Result (Value × ℕ) PlaceRefusal) (call : MakesCall old new (commands.Get d r i) (get_reply result)) where
  pub get_refused_without_object : (result ≡ Err refusals.NoObject) ↔ HoldsNoObject (seat_state old) r
  get_refused_without_object = none_exactly get_reply refl refl got_other result (refused_without old new (commands.Get d r i) (get_reply result) call tt)

  pub get_refused_past_end : IfSome (own_object (seat_state old) r) (λ object. (result ≡ Err refusals.NoField) ↔ (length object.cells ≤ i))
  get_refused_past_end = past_exactly get_reply refl refl got_other (λ object. length object.cells ≤ i) (own_object (seat_state old) r) result (refused_past old new (commands.Get d r i) (get_reply result) call tt tt)

-- of a set
module _ (old new : SeatHeld) (r i v : ℕ) (result : Result ℕ PlaceRefusal) (call : MakesCall old new (commands.Set r i v) (set_reply result)) where
  pub set_refused_without_object : (result ≡ Err refusals.NoObject) ↔ HoldsNoObject (seat_state old) r
  set_refused_without_object = none_exactly set_reply refl refl set_other result (refused_without old new (commands.Set r i v) (set_reply result) call tt)

  pub set_refused_past_end : IfSome (own_object (seat_state old) r) (λ object. (result ≡ Err refusals.NoField) ↔ (length object.cells ≤ i))
  set_refused_past_end = past_exactly set_reply refl refl set_other (λ object. length object.cells ≤ i) (own_object (seat_state old) r) result (refused_past old new (commands.Set r i v) (set_reply result) call tt tt)

-- of a cas
module _ (old new : SeatHeld) (r i a v : ℕ) (result : Result Swapped PlaceRefusal) (call : MakesCall old new (commands.Cas r i a v) (cas_reply result)) where
  pub cas_refused_without_object : (result ≡ Err refusals.NoObject) ↔ HoldsNoObject (seat_state old) r
  cas_refused_without_object = none_exactly cas_reply refl refl swap_other result (refused_without old new (commands.Cas r i a v) (cas_reply result) call tt)

  pub cas_refused_past_end : IfSome (own_object (seat_state old) r) (λ object. (result ≡ Err refusals.NoField) ↔ (length object.cells ≤ i))
  cas_refused_past_end = past_exactly cas_reply refl refl swap_other (λ object. length object.cells ≤ i) (own_object (seat_state old) r) result (refused_past old new (commands.Cas r i a v) (cas_reply result) call tt tt)

  pub cas_finds_by_swap : IfOk result (FindsBySwap old new (commands.Cas r i a v))
  cas_finds_by_swap = swap_finds result call
    where
      swap_finds : (result : Result Swapped PlaceRefusal) → MakesCall old new (commands.Cas r i a v) (cas_reply result) → IfOk result (FindsBySwap old new (commands.Cas r i a v))
      swap_finds (Ok (swaps.Was stamp)) call = record {
        made = call.made;
        makes = call.makes;
        found = elim call.stands [
          | inl is ↦ absurd is.a_set
          | inr is ↦ (is.compared, is.stamp_is)
        ];
      }
      swap_finds (Ok (swaps.Now stamp)) call = record {
        made = call.made;
        makes = call.makes;
        found = (call.stands.word, call.stands.compared, call.stands.other, call.stands.stamp_is);
      }
      swap_finds (Err refusal) call = tt

-- of a len
module _ (old new : SeatHeld) (r : ℕ) where
  pub len_refused_without_object : (result : Result ℕ NoObject) → MakesCall old new (commands.Len r) (len_reply result) → IsErr result ↔ HoldsNoObject (seat_state old) r
  len_refused_without_object (Ok n) call = (λ e. absurd (differ_err e), λ holds. absurd (differ ((refused_without old new (commands.Len r) (replies.Length n) call tt).1 holds)))
    where
      differ : replies.Length n ≡ replies.NoObject → ⊥
      differ e = cc

      differ_err : IsErr {T = ℕ} {E = NoObject} (Ok n) → ⊥
      differ_err e = cc
  len_refused_without_object (Err none) call = (λ e. (refused_without old new (commands.Len r) replies.NoObject call tt).0 refl, λ holds. refl)

  len_by : (own : Option Node) (result : Result ℕ NoObject) (call : MakesCall old new (commands.Len r) (len_reply result)) → (len_reply result ≡ replies.NoObject → own ≡ None)
      → ((head meta : ℕ) → HasOpened (ToldIn old call.made) (commands.Len r) (kept_of old.seat) head meta → IsOwnMeta own meta) → IfSome own (λ object. result ≡ Ok (length object.cells))
  len_by None result call none meta = tt
  len_by (Some object) (Ok n) call none meta = let told = meta call.stands.head call.stands.meta call.stands.opened in ap (λ (k : ℕ). Ok k) (call.stands.length_is ∙ told.length_is)
  len_by (Some object) (Err refusal) call none meta = absurd (differ (none refl))
    where
      differ : Some object ≡ None → ⊥
      differ e = cc

  pub len_is_own_length : (result : Result ℕ NoObject) → MakesCall old new (commands.Len r) (len_reply result) → IfSome (own_object (seat_state old) r) (λ object. result ≡ Ok (length object.cells))
  len_is_own_length result call =
      len_by (own_object (seat_state old) r) result call (none_of_own old new (commands.Len r) (len_reply result) call tt) (meta_of_own old new (commands.Len r) (len_reply result) call tt)

-- of a same
module _ (old new : SeatHeld) (a b : ℕ) where
  same_by : (u v : Value) (result : Bool) → same_reply result ≡ answer_of (is_same_value u v) → IsTrue result ↔ (u ≡ v)
  same_by u v true is = elim (same_value_test_tells u v) as (λ _. IsTrue true ↔ (u ≡ v)) [
    | inl same ↦ (λ e. same.1, λ e. refl)
    | inr other ↦ absurd (differ (is ∙ ap answer_of other.0))
  ]
    where
      differ : replies.Yes ≡ replies.No → ⊥
      differ e = cc
  same_by u v false is = elim (same_value_test_tells u v) as (λ _. IsTrue false ↔ (u ≡ v)) [
    | inl same ↦ absurd (differ (is ∙ ap answer_of same.0))
    | inr other ↦ (λ e. cc, λ e. absurd (other.1 e))
  ]
    where
      differ : replies.No ≡ replies.Yes → ⊥
      differ e = cc

  replied : (result : Bool) → MakesCall old new (commands.Same a b) (same_reply result)
      → same_reply result ≡ answer_of (is_same_value (value_of (register_in old.seat.registers a)) (value_of (register_in old.seat.registers b)))
  replied true call = call.stands.reply_is
  replied false call = call.stands.reply_is

  pub same_where_values_equal : (result : Bool) → MakesCall old new (commands.Same a b) (same_reply result) → IsTrue result ↔ (held_value (seat_state old) a ≡ held_value (seat_state old) b)
  same_where_values_equal result call =
      let u = register_told old a call.rested in
      let v = register_told old b call.rested in
      subst (λ (x : Value). IsTrue result ↔ (x ≡ held_value (seat_state old) b)) u
      (subst (λ (y : Value). IsTrue result ↔ (value_of (register_in old.seat.registers a) ≡ y)) v (same_by _ _ result (replied result call)))
