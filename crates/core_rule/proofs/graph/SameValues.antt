-- What registers hold, and whether two of them hold the same.
use Rattle.std.proofs.Common.{◌≡◌, ◌≢◌, ℕ, true, false, ◌⊎◌, inl, inr, List, None, refl, sym, subst}
use Rattle.std.proofs.lemmas.Bool.Decides.{eqb_tells}
use Rattle.core_rule.proofs.Terms.{Id, Value, target_node, Graph, Register, value_of, register_head, is_same_value, Owner, HoldsValue}
use Rattle.heap_model.specs.declared.id.Value.TheVariants as values
use Rattle.heap_model.specs.graph.Replies.{Compares}
use Rattle.core_machine.specs.declared.seat.register.Register.TheVariants as registers
use Rattle.core_machine.specs.seat.Local.{answer_of}
use Rattle.core_rule.proofs.graph.Numbering.{same_id_test_decides}

abbrev Tells : Value → Value → Type 0
Tells u v = ((is_same_value u v ≡ true) × (u ≡ v)) ⊎ ((is_same_value u v ≡ false) × (u ≢ v))

pub same_value_test_tells : (u v : Value) → Tells u v
same_value_test_tells values.Nil values.Nil = inl (refl, refl)
same_value_test_tells values.Nil (values.Number m) = inr (refl, λ e. cc)
same_value_test_tells values.Nil (values.Object b) = inr (refl, λ e. cc)
same_value_test_tells (values.Number n) values.Nil = inr (refl, λ e. cc)
same_value_test_tells (values.Number n) (values.Number m) = elim (eqb_tells n m) as (λ _. Tells (values.Number n) (values.Number m)) [
  | inl e ↦ inl (e.0, cc (e.1))
  | inr e ↦ inr (e.0, λ same. e.1 (cc))
]
same_value_test_tells (values.Number n) (values.Object b) = inr (refl, λ e. cc)
same_value_test_tells (values.Object a) values.Nil = inr (refl, λ e. cc)
same_value_test_tells (values.Object a) (values.Number m) = inr (refl, λ e. cc)
same_value_test_tells (values.Object a) (values.Object b) = elim (same_id_test_decides a b) as (λ _. Tells (values.Object a) (values.Object b)) [
  | inl e ↦ inl (e.0, cc (e.1))
  | inr e ↦ inr (e.0, λ same. e.1 (cc))
]

compares : (u v : Value) → Compares u v (answer_of (is_same_value u v))
compares u v = elim (same_value_test_tells u v) as (λ _. Compares u v (answer_of (is_same_value u v))) [
  | inl e ↦ rw e.0 e.1
  | inr e ↦ rw e.0 e.1
]

module _ (made : List Id) (owner : ℕ → Owner) (fragments : ℕ → List ℕ) where
  -- a register's value is the one that it holds
  pub held_value_is_value : (held : Register) (value : Value) → HoldsValue made owner fragments held value → value ≡ value_of held
  held_value_is_value registers.Nil value holds = holds
  held_value_is_value (registers.Number n) value holds = holds.0
  held_value_is_value (registers.Object head id) value holds = holds.0

  -- so two registers are compared as their values are
  pub compares_as_held : (a b : Register) (u v : Value) → HoldsValue made owner fragments a u → HoldsValue made owner fragments b v
      → Compares u v (answer_of (is_same_value (value_of a) (value_of b)))
  compares_as_held a b u v p number =
      subst (λ x. Compares x v (answer_of (is_same_value (value_of a) (value_of b)))) (sym (held_value_is_value a u p))
      (subst (λ y. Compares (value_of a) y (answer_of (is_same_value (value_of a) (value_of b)))) (sym (held_value_is_value b v number)) (compares (value_of a) (value_of b)))

  -- and one with no object refers to none
  pub held_value_targets_none : (g : Graph) (held : Register) (value : Value) → HoldsValue made owner fragments held value → register_head held ≡ None → target_node g value ≡ None
  held_value_targets_none g registers.Nil value holds none = subst (λ v. target_node g v ≡ None) (sym holds) refl
  held_value_targets_none g (registers.Number n) value holds none = subst (λ v. target_node g v ≡ None) (sym holds.0) refl
  held_value_targets_none g (registers.Object head id) value holds none = absurd (cc)
