-- What a register, a set or a scan names while a cycle is under way is inside.
use Rattle.std.specs.Option.{IsSomeAnd}
use Rattle.std.proofs.Common.{◌≡◌, ℕ, true, Bool, List, slice_get, Option, Some, None, sym, ap, ◌∙◌, subst}
use Rattle.std.proofs.lemmas.Option.{slice_get_within, get_or_from_slice_get}
use Rattle.heap_model.specs.declared.graph.cell.Cell.{Cell}
use Rattle.core_rule.proofs.Terms.{Heap, Id, Value, graph_of, up_to_cycle, Graph, Node, node, register_value, IsReach, PointsTo, State, Book, id_at, object_number, node_in, Kept}
use Rattle.core_rule.proofs.Terms.{Rule}
use Rattle.heap_model.specs.declared.id.Value.TheVariants as values
use Rattle.core_rule.specs.footprint.Footprint.{Footprint, StageStandsInside, is_inside}
use Rattle.core_rule.proofs.book.BookGoing.{IsNamed, by_register, by_set, by_scan, by_spine}
use Rattle.core_rule.proofs.footprint.Closed.{register_ids_are_inside, cell_ids_are_inside}
use Rattle.core_rule.proofs.graph.Numbering.{id_at_own_number}
use Rattle.core_rule.proofs.ways.LoadedObjects.{RefersTo, CellRefers}

-- an object points to what its cell holds
cell_points : (o : Option Node) (position : ℕ) (cell : Cell) (id : Id) → slice_get (node_in o).cells position ≡ Some cell → cell.value ≡ values.Object id → IsSomeAnd o (λ object. PointsTo object id)
cell_points None position cell id there is = absurd (cc there)
cell_points (Some object) position cell id there is =
    (position, cell, slice_get_within object.cells position cell there, get_or_from_slice_get object.cells position cell cell there, is)

-- a kept object's first fragment tells its id
pub referred_id_is_objects : (book : Book) (value : Value) (f i k : ℕ) (refers : RefersTo book.made book.owner book.fragments value f) → book.owner f ≡ Kept i k → refers.id ≡ id_at book.made i
referred_id_is_objects book value f i k refers owned =
    let n : ℕ = object_number book.made refers.id in
    let both : Kept n 0 ≡ Kept i k = sym refers.names.1 ∙ ap book.owner (sym refers.head) ∙ owned in
    let same : n ≡ i = cc in
    sym (id_at_own_number book.made refers.id refers.names.0) ∙ ap (id_at book.made) same

module _ (heap : Heap) (state : State) (book : Book) (rule : Rule heap state book) (begun : List Id) (reach : IsReach (graph_of heap (up_to_cycle book.history)) begun) where
  abbrev inside : Id → Bool
  inside = is_inside (graph_of heap (up_to_cycle book.history)) begun

  abbrev g : Graph
  g = graph_of heap book.history

  -- what a register refers to is inside
  pub register_inside : (number r f i k : ℕ) → RefersTo book.made book.owner book.fragments (register_value g number r) f → book.owner f ≡ Kept i k → inside (id_at book.made i) ≡ true
  register_inside number r f i k refers owned =
      subst (λ id. inside id ≡ true) (referred_id_is_objects book (register_value g number r) f i k refers owned)
      (register_ids_are_inside heap book.history begun rule.heap_stands.legal.objects reach number r refers.id refers.is)

  -- and what a cell of an object inside refers to
  pub cell_target_is_inside : (o f i k : ℕ) → inside (id_at book.made o) ≡ true → CellRefers g book.made book.owner book.fragments o f → book.owner f ≡ Kept i k → inside (id_at book.made i) ≡ true
  cell_target_is_inside o f i k holder cell owned =
      subst (λ id. inside id ≡ true) (referred_id_is_objects book cell.cell.value f i k cell.refers owned)
      (cell_ids_are_inside heap book.history begun rule.heap_stands.legal.objects reach (id_at book.made o) cell.refers.id holder
      (cell_points (node g (id_at book.made o)) cell.position cell.cell cell.refers.id cell.there cell.refers.is))

  -- so is what is marked by name
  pub named_is_inside : (most : ℕ) → Footprint heap state book begun inside most → (f i k : ℕ) → IsNamed heap state book f → book.owner f ≡ Kept i k → inside (id_at book.made i) ≡ true
  named_is_inside most foot f i k (by_register number r refers) owned = register_inside number r f i k refers owned
  named_is_inside most foot f i k (by_set number here point_is loads) owned = foot.olds number f i k here point_is loads owned
  named_is_inside most foot f i k (by_scan scan next shading) owned = subst (StageStandsInside heap book.made begun inside book.owner most) shading foot.stage i k owned
  named_is_inside most foot f i k (by_spine s spreading) owned = subst (StageStandsInside heap book.made begun inside book.owner most) spreading foot.stage i k owned
