-- Which ids the registers of a graph hold: those of its roots.
use Rattle.std.proofs.Common.{◌≡◌, ℕ, inl, inr, List, length, get_or, ap, ◌∙◌, subst, arith}
use Rattle.std.proofs.lemmas.Bool.{cases_lt}
use Rattle.std.proofs.lemmas.List.{get_or_past, get_or_default}
use Rattle.std.proofs.lemmas.List.Elements.{Contains-get_or}
use Rattle.core_rule.proofs.Terms.{Id, Graph, graph_seat, register_value, absent_graph_seat, IsRoot, unset, IsRegistered}
use Rattle.heap_model.specs.declared.id.Value.TheVariants.{Object}
use Rattle.heap_model.specs.graph.Graph.{GraphSeat}
use Rattle.heap_model.specs.declared.graph.cell.Cell.{Cell}
use Rattle.std.specs.List.{Any}

-- a register of some seat holds the id
pub record RegisterHolds (g : Graph) (id : Id) : Type 0 where
  pub number : ℕ
  pub register : ℕ
  pub holds : register_value g number register ≡ Object id

-- what stands in a list, or else a default of which it doesn't hold, is an element
any_at : {A : Type 0} (P : A → Type 0) (xs : List A) (i : ℕ) (d : A) → ¬ P d → P (get_or xs i d) → Any P xs
any_at P xs i d none holds = elim (cases_lt i (length xs)) [
  | inl below ↦ let there = Contains-get_or xs i d below in (there.0, get_or xs i d, there.1, there.2, holds)
  | inr past ↦ absurd (none (subst P (get_or_past xs i d past) holds))
]

-- an id in a register is a root
pub register_id_is_root : (g : Graph) (id : Id) → RegisterHolds g id → IsRoot g id
register_id_is_root g id held =
    let registered : IsRegistered (graph_seat g held.number) id = any_at (λ (register : Cell). register.value ≡ Object id) (graph_seat g held.number).registers held.register unset (λ e. cc e) held.holds in
    elim (cases_lt held.number (length g.seats)) [
      | inl below ↦ (held.number, graph_seat g held.number, below, get_or_default g.seats held.number (graph_seat g held.number) absent_graph_seat below, registered)
      | inr past ↦ absurd (no_register (subst (λ (seat : GraphSeat). IsRegistered seat id) (get_or_past g.seats held.number absent_graph_seat past) registered))
    ]
  where
    no_register : IsRegistered absent_graph_seat id → ⊥
    no_register any = omega (arith, any.2)

-- and a root is in a register
pub root_is_in_register : (g : Graph) (id : Id) → IsRoot g id → RegisterHolds g id
root_is_in_register g id root =
    let seat : graph_seat g root.0 ≡ root.1 = get_or_default g.seats root.0 absent_graph_seat root.1 root.2 ∙ root.3 in
    let value : (get_or root.1.registers root.4.0 unset).value ≡ Object id
    = ap (λ (register : Cell). register.value) (get_or_default root.1.registers root.4.0 unset root.4.1 root.4.2 ∙ root.4.3) ∙ root.4.4 in
    record { number = root.0; register = root.4.0; holds = ap (λ (p : GraphSeat). (get_or p.registers root.4.0 unset).value) seat ∙ value }
