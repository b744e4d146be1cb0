-- A seat's register gets another value: the graph after it, and what the registers hold.
use Rattle.std.proofs.Common.{◌≡◌, ◌≢◌, ℕ, ◌<◌, false, length, inl, inr, List, slice_index_or, slice_set, sym, subst}
use Rattle.std.proofs.lemmas.Bool.{cases_eq}
use Rattle.std.proofs.lemmas.List.{get_or-set_same, get_or-set_other}
use Rattle.core_rule.proofs.Terms.{Id, with_register, graph_seat, register_value, Graph, Register, Owner, HoldsValue}
use Rattle.core_machine.specs.declared.seat.register.Register.TheVariants as registers
use Rattle.heap_model.specs.declared.graph.cell.Cell.{Cell}
use Rattle.heap_model.proofs.graph_changes.PutRegister.{put_register_holds_value, other_registers_stay_by_put}

module _ (made : List Id) (owner : ℕ → Owner) (fragments : ℕ → List ℕ) (g : Graph) (number d : ℕ) (held : List Register) (new : Register) (within : d < length held) where
  -- one register holds its value anew, the others theirs
  pub holds_value_after_set : HoldsValue made owner fragments new (register_value g number d)
      → ((r : ℕ) → r ≢ d → HoldsValue made owner fragments (slice_index_or held r registers.Nil) (register_value g number r))
      → (r : ℕ) → HoldsValue made owner fragments (slice_index_or (slice_set held d new) r registers.Nil) (register_value g number r)
  holds_value_after_set here others r = elim (cases_eq r d) [
    | inl e ↦ subst (λ x. HoldsValue made owner fragments (slice_index_or (slice_set held d new) x registers.Nil) (register_value g number x)) (sym e)
        (subst (λ x. HoldsValue made owner fragments x (register_value g number d)) (sym (get_or-set_same held d new registers.Nil within)) here)
    | inr apart ↦ subst (λ x. HoldsValue made owner fragments x (register_value g number r)) (sym (get_or-set_other held d r new registers.Nil apart)) (others r apart)
  ]

-- the graph's register has the value, too
pub holds_value_after_put : (made : List Id) (owner : ℕ → Owner) (fragments : ℕ → List ℕ) (g : Graph) (number d : ℕ) (cell : Cell) (held : List Register) (new : Register)
    → (graph_seat g number).left ≡ false → d < length held → d < length (graph_seat g number).registers → HoldsValue made owner fragments new cell.value
    → ((r : ℕ) → r ≢ d → HoldsValue made owner fragments (slice_index_or held r registers.Nil) (register_value g number r))
    → (r : ℕ) → HoldsValue made owner fragments (slice_index_or (slice_set held d new) r registers.Nil) (register_value (with_register g number d cell) number r)
holds_value_after_put made owner fragments g number d cell held new present within room here others =
    holds_value_after_set made owner fragments (with_register g number d cell) number d held new within
    (subst (λ x. HoldsValue made owner fragments new x) (sym (put_register_holds_value g number d cell present room)) here)
    (λ r apart. subst (λ x. HoldsValue made owner fragments (slice_index_or held r registers.Nil) x) (sym (other_registers_stay_by_put g number d cell present r apart)) (others r apart))
