-- What is inside stays so as the graph grows: a register holds what is inside, and a cell of what is inside does.
use Rattle.std.proofs.Common.{◌≡◌, ℕ, ◌⊎◌, inl, inr, Bool, true, is_some, List, [], ◌∷◌, ◌++◌, sym, ap, ◌∙◌, subst}
use Rattle.std.proofs.lemmas.Bool.{cases_Bool, both_ways}
use Rattle.std.proofs.lemmas.List.Sums.{fold-append}
use Rattle.core_rule.proofs.Terms.{graph_of, begins_cycle, up_to_cycle, since_cycle, Entry, Heap, Id, Graph, opening, after_entry, graph_after, AcceptsAll, IsObjectLegal, node}
use Rattle.core_rule.proofs.Terms.{register_value, IsMade, Points, Reaches, from_register, from_cell, IsReach}
use Rattle.heap_model.specs.declared.id.Value.TheVariants.{Object}
use Rattle.heap_model.proofs.account_lemmas.Windows.{window_sections_make_whole}
use Rattle.core_rule.specs.footprint.Footprint.{is_inside}
use Rattle.core_rule.proofs.footprint.Inside.{begun_is_inside, later_made_is_inside, inside_made_is_begun}
use Rattle.core_rule.proofs.growth.EntryGrowth.{grows_by_entry}
use Rattle.core_rule.proofs.growth.Growing.{CameFrom, was_held, was_read, was_unmade, GrowsFrom, holder_is_made}
use Rattle.core_rule.proofs.growth.LaterGraphs.{made_stays_after_entry, accepts_later}
use Rattle.core_rule.proofs.growth.RegisterIds.{RegisterHolds, register_id_is_root}

-- registers hold what is inside, and so do cells of what is inside
record IsClosed (g : Graph) (inside : Id → Bool) : Type 0 where
  pub registers : (id : Id) → RegisterHolds g id → inside id ≡ true
  pub cells : (holder id : Id) → inside holder ≡ true → Points g holder id → inside id ≡ true

-- an object was made, or not
pub made_or_new : (g : Graph) (id : Id) → IsMade g id ⊎ ¬ IsMade g id
made_or_new g id = elim (cases_Bool (is_some (node g id))) [ inl made ↦ inl made | inr unmade ↦ inr (both_ways (is_some (node g id)) unmade) ]

-- a graph that grows stays closed, where what isn't made yet is inside
closed_grows : (g now : Graph) (inside : Id → Bool) → GrowsFrom g now → ((id : Id) → ¬ IsMade g id → inside id ≡ true) → IsClosed g inside → IsClosed now inside
closed_grows g now inside grows new closed = record {
  registers = λ id its. came id (grows.registers its.number its.register id its.holds);
  cells = λ holder id within points. elim (grows.cells holder id points) [ inl old ↦ closed.cells holder id within old | inr its ↦ closed.registers id its ];
}
  where
    came : (id : Id) → CameFrom g id → inside id ≡ true
    came id (was_held its) = closed.registers id its
    came id (was_read holder its points) = closed.cells holder id (closed.registers holder its) points
    came id (was_unmade unmade) = new id unmade

closed_after : (g : Graph) (history : List Entry) (inside : Id → Bool) → AcceptsAll g history → ((id : Id) → ¬ IsMade g id → inside id ≡ true) → IsClosed g inside
    → IsClosed (graph_after g history) inside
closed_after g [] inside accepts new closed = closed
closed_after g (entry ∷ history) inside accepts new closed =
    closed_after (after_entry g entry) history inside accepts.1 (λ id unmade. new id (λ made. unmade (made_stays_after_entry g entry accepts.0 id made)))
    (closed_grows g (after_entry g entry) inside (grows_by_entry g entry accepts.0) new closed)

-- it is closed when the cycle begins
closed_then : (g : Graph) (begun : List Id) → IsReach g begun → IsClosed g (is_inside g begun)
closed_then g begun reach = record {
  registers = λ id its. where_made id (λ made. from_register id made (register_id_is_root g id its));
  cells = λ holder id within points. where_made id (λ made.
      from_cell id made holder ((reach.reached holder).0 (inside_made_is_begun g begun holder within (holder_is_made g holder id points))) points);
}
  where
    where_made : (id : Id) → (IsMade g id → Reaches g id) → is_inside g begun id ≡ true
    where_made id reaches = elim (made_or_new g id) [
      | inl made ↦ begun_is_inside g begun id ((reach.reached id).1 (reaches made))
      | inr unmade ↦ later_made_is_inside g begun id unmade
    ]

module _ (heap : Heap) (history : List Entry) (begun : List Id) (legal : IsObjectLegal heap history) (reach : IsReach (graph_of heap (up_to_cycle history)) begun) where
  abbrev earlier : Graph
  earlier = graph_of heap (up_to_cycle history)

  abbrev now : Graph
  now = graph_of heap history

  pub legal_in_two_sections : IsObjectLegal heap (up_to_cycle history ++ since_cycle history)
  legal_in_two_sections = subst (IsObjectLegal heap) (sym (window_sections_make_whole begins_cycle history)) legal

  grown : graph_after earlier (since_cycle history) ≡ now
  grown = sym (fold-append after_entry (opening heap) (up_to_cycle history) (since_cycle history)) ∙ ap (graph_of heap) (window_sections_make_whole begins_cycle history)

  closed_now : IsClosed now (is_inside earlier begun)
  closed_now = subst (λ g. IsClosed g (is_inside earlier begun)) grown
      (closed_after earlier (since_cycle history) (is_inside earlier begun) (accepts_later (opening heap) (up_to_cycle history) (since_cycle history) legal_in_two_sections)
      (later_made_is_inside earlier begun) (closed_then earlier begun reach))

  -- what a register holds is inside
  pub register_ids_are_inside : (number r : ℕ) (id : Id) → register_value now number r ≡ Object id → is_inside earlier begun id ≡ true
  register_ids_are_inside number r id holds = closed_now.registers id (record { number = number; register = r; holds = holds })

  -- and so is what a cell of what is inside holds
  pub cell_ids_are_inside : (holder id : Id) → is_inside earlier begun holder ≡ true → Points now holder id → is_inside earlier begun id ≡ true
  cell_ids_are_inside = closed_now.cells
