-- A seat's own list, and what it awaits.
use Rattle.std.specs.Prelude.{Some}
use Rattle.std.proofs.Common.{◌≡◌, ℕ, List, [], ◌++◌, filter, refl, sym, ap, ◌∙◌, subst, append_assoc}
use Rattle.std.proofs.lemmas.List.{append-nil}
use Rattle.core_rule.proofs.Terms.{Entry, Id, Value, is_of, register_value, Graph, Point, Register, Seat, object_head, OwnList, Awaits, IsAnswered, NamesKept, Owner}
use Rattle.heap_model.specs.declared.id.Value.TheVariants as values
use Rattle.core_machine.specs.declared.point.Making.{Making}
use Rattle.core_machine.specs.declared.point.Point.TheVariants as points
use Rattle.core_machine.specs.declared.point.Access.TheVariants.{Naming}
use Rattle.core_machine.specs.declared.seat.register.Register.TheVariants as registers
use Rattle.core_rule.specs.graph.Registers as regs

-- what is kept stays kept, under the same first fragment
pub record NamesStay (made now_made : List Id) (owner now_owner : ℕ → Owner) (fragments now_fragments : ℕ → List ℕ) : Type 0 where
  pub names : (id : Id) → NamesKept made owner fragments (values.Object id) → NamesKept now_made now_owner now_fragments (values.Object id)
  pub heads : (id : Id) → NamesKept made owner fragments (values.Object id) → object_head now_made now_fragments id ≡ object_head made fragments id

-- so a register that held a value holds it
module _ (made now_made : List Id) (owner now_owner : ℕ → Owner) (fragments now_fragments : ℕ → List ℕ) (stay : NamesStay made now_made owner now_owner fragments now_fragments) where
  pub holds_value_still : (held : Register) (value : Value) → regs.HoldsValue made owner fragments held value → regs.HoldsValue now_made now_owner now_fragments held value
  holds_value_still registers.Nil value holds = holds
  holds_value_still (registers.Number n) value holds = holds
  holds_value_still (registers.Object head id) value holds = (holds.0, stay.names id holds.1, holds.2 ∙ sym (stay.heads id holds.1))

module _ (g now : Graph) (made now_made : List Id) (owner now_owner : ℕ → Owner) (fragments now_fragments : ℕ → List ℕ) (number : ℕ) (seat : Seat)
    (stay : NamesStay made now_made owner now_owner fragments now_fragments) (same : (r : ℕ) → register_value now number r ≡ register_value g number r) where
  awaits_stay : (point : Point) (awaited : List Entry) → Awaits g made owner fragments number seat point awaited → Awaits now now_made now_owner now_fragments number seat point awaited
  awaits_stay (points.Access Naming) awaited waits = record {
    id = waits.id;
    kept = stay.names waits.id waits.kept;
    loads = waits.loads ∙ ap Some (sym (stay.heads waits.id waits.kept));
    held = same _ ∙ waits.held;
    told = waits.told;
  }
  awaits_stay _ awaited waits = waits

  -- another seat's list stays, and what it awaits
  pub own_list_stays : (history more : List Entry) → filter (is_of number) more ≡ filter (is_of number) history
      → OwnList g history made owner fragments number seat → OwnList now more now_made now_owner now_fragments number seat
  own_list_stays history more entries list = record {
    awaited = list.awaited;
    own = list.own ∙ sym entries;
    awaits = awaits_stay seat.point list.awaited list.awaits;
  }

-- where nothing is awaited, a seat's own list has all of its entries
pub own_list_is_all_told : {g : Graph} {history : List Entry} {made : List Id} {owner : ℕ → Owner} {fragments : ℕ → List ℕ} {number : ℕ} {seat : Seat} (list : OwnList g history made owner fragments number seat)
    → list.awaited ≡ [] → seat.mine ≡ filter (is_of number) history
own_list_is_all_told {g} {history} {made} {owner} {fragments} {number} {seat} list none = sym (append-nil seat.mine) ∙ (rw none at list.own)

module _ (g : Graph) (history : List Entry) (made : List Id) (owner : ℕ → Owner) (fragments : ℕ → List ℕ) (number : ℕ) (seat : Seat) where
  -- a seat that makes an object awaits nothing
  pub making_list_is_all_told : (making : Making) → seat.point ≡ points.Making making → OwnList g history made owner fragments number seat → seat.mine ≡ filter (is_of number) history
  making_list_is_all_told making point_is list = own_list_is_all_told list (subst (λ p. Awaits g made owner fragments number seat p list.awaited) point_is list.awaits)

  -- an idle seat awaits nothing
  pub idle_list_is_all_told : seat.point ≡ points.Idle → OwnList g history made owner fragments number seat → seat.mine ≡ filter (is_of number) history
  idle_list_is_all_told idle list = own_list_is_all_told list (subst (λ p. Awaits g made owner fragments number seat p list.awaited) idle list.awaits)

  -- a list that awaits nothing
  pub own_list_where_all_told : Awaits g made owner fragments number seat seat.point [] → seat.mine ≡ filter (is_of number) history → OwnList g history made owner fragments number seat
  own_list_where_all_told none own = record { awaited = []; own = append-nil seat.mine ∙ own; awaits = none }

  -- while an object is made
  pub own_list_of_making : (making : Making) → seat.point ≡ points.Making making → seat.mine ≡ filter (is_of number) history → OwnList g history made owner fragments number seat
  own_list_of_making making point_is own = own_list_where_all_told (subst (λ p. Awaits g made owner fragments number seat p []) (sym point_is) refl) own

module _ (g : Graph) (made : List Id) (owner : ℕ → Owner) (fragments : ℕ → List ℕ) (number : ℕ) (seat : Seat) where
  -- a call that isn't answered awaits nothing
  nothing_awaited : (point : Point) (awaited : List Entry) → ¬ IsAnswered point → Awaits g made owner fragments number seat point awaited → awaited ≡ []
  nothing_awaited (points.Access Naming) awaited busy awaits = absurd (busy tt)
  nothing_awaited _ awaited busy awaits = awaits

  module _ (history : List Entry) (busy : ¬ IsAnswered seat.point) (list : OwnList g history made owner fragments number seat) where
    -- so its own list has all of its entries
    pub busy_list_is_all_told : seat.mine ≡ filter (is_of number) history
    busy_list_is_all_told = own_list_is_all_told list (nothing_awaited seat.point list.awaited busy list.awaits)

    -- what is shown then is told at once, or awaited
    pub own_list_after_entry : (now : Graph) (later : List Entry) (new : Seat) (added awaited shown : List Entry) → new.mine ≡ seat.mine ++ added
        → added ++ awaited ≡ shown → filter (is_of number) later ≡ filter (is_of number) history ++ shown → Awaits now made owner fragments number new new.point awaited
        → OwnList now later made owner fragments number new
    own_list_after_entry now later new added awaited shown mine joined grown awaits = record {
      awaited = awaited;
      own = ap (λ (own : List Entry). own ++ awaited) mine ∙ append_assoc seat.mine added awaited ∙ ap (λ (x : List Entry). seat.mine ++ x) joined
          ∙ ap (λ (own : List Entry). own ++ shown) busy_list_is_all_told ∙ sym grown;
      awaits = awaits;
    }
