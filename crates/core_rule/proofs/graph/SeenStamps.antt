-- Under which stamps a seat's registers are seen, as its registers and its point change.
use Rattle.std.proofs.Common.{◌≡◌, ℕ, ◌^◌, ◌<◌, false, List, [], ◌∷◌, ◌++◌, length, map, get_or, set, refl, sym, ap, ◌∙◌, arith}
use Rattle.std.proofs.lemmas.List.{map-set, get_or-map}
use Rattle.std.proofs.lemmas.List.Elements.{All-set}
use Rattle.heap_model.specs.declared.graph.cell.Cell.{Cell}
use Rattle.heap_model.specs.declared.id.Value.TheVariants as values
use Rattle.heap_model.specs.graph.Graph.{GraphSeat, unseen}
use Rattle.heap_model.specs.graph.Objects.{seen_stamp}
use Rattle.heap_model.proofs.graph_changes.GraphSeats.{party_with_seat_is_new}
use Rattle.core_machine.specs.declared.point.Access.TheVariants.{Naming}
use Rattle.core_machine.specs.declared.point.Point.TheVariants as points
use Rattle.core_machine.specs.seat.Registers.{seen_in}
use Rattle.core_rule.proofs.Terms.{Graph, Id, Made, Node, Owner, add, Point, Seat, Awaits, IsAnswered, SeenStands, stamps_at, with_register, graph_seat, unset}

-- no name is awaited there
abbrev pub IsUnnamed : Point → Type 0
IsUnnamed (points.Access Naming) = ⊥
IsUnnamed _ = Unit {0}

-- so it is where nothing is awaited, and at a call that isn't answered
pub awaits_none_is_unnamed : (g : Graph) (made : List Id) (owner : ℕ → Owner) (fragments : ℕ → List ℕ) (number : ℕ) (seat : Seat) (point : Point) → Awaits g made owner fragments number seat point [] → IsUnnamed point
awaits_none_is_unnamed g made owner fragments number seat (points.Access Naming) waits = absurd (cc (waits.told))
awaits_none_is_unnamed g made owner fragments number seat _ waits = tt

pub busy_is_unnamed : (point : Point) → ¬ IsAnswered point → IsUnnamed point
busy_is_unnamed (points.Access Naming) busy = absurd (busy tt)
busy_is_unnamed _ busy = tt

-- so the seat's own stamps are those under which its registers are seen
pub stamps_are_own : (seat : Seat) (point : Point) → IsUnnamed point → stamps_at seat point ≡ seat.seen
stamps_are_own seat (points.Access Naming) unnamed = absurd unnamed
stamps_are_own seat _ unnamed = refl

-- and they stay from one such point to another
pub stamps_stay : (old new : Seat) (from to : Point) → old.point ≡ from → new.point ≡ to → IsUnnamed from → IsUnnamed to → new.seen ≡ old.seen → stamps_at new new.point ≡ stamps_at old old.point
stamps_stay old new from to was is before after same = rw (was, is) (stamps_are_own new to after ∙ same ∙ sym (stamps_are_own old from before))

module _ (g : Graph) (number : ℕ) (seen : List ℕ) (stands : SeenStands g number seen) where
  -- the graph's registers are the same
  pub seen_of_same_registers : (now : Graph) → (graph_seat now number).registers ≡ (graph_seat g number).registers → SeenStands now number seen
  seen_of_same_registers now same = record { stamps = stands.stamps ∙ ap (map (λ (cell : Cell). cell.stamp)) (sym same); small = stands.small }

  -- a register gets another cell
  pub seen_of_set_register : (now : Graph) (d : ℕ) (cell : Cell) → (graph_seat now number).registers ≡ set (graph_seat g number).registers d cell → cell.stamp < 2 ^ 32 → SeenStands now number (set seen d cell.stamp)
  seen_of_set_register now d cell same small = record {
    stamps = ap (λ (l : List ℕ). set l d cell.stamp) stands.stamps ∙ sym (map-set (λ (c : Cell). c.stamp) (graph_seat g number).registers d cell) ∙ ap (map (λ (c : Cell). c.stamp)) (sym same);
    small = All-set (λ stamp. stamp < 2 ^ 32) seen d cell.stamp small stands.small;
  }

  pub seen_after_put : (d : ℕ) (cell : Cell) → (graph_seat g number).left ≡ false → cell.stamp < 2 ^ 32 → SeenStands (with_register g number d cell) number (set seen d cell.stamp)
  seen_after_put d cell present small =
      seen_of_set_register (with_register g number d cell) d cell
      (ap (λ (p : GraphSeat). p.registers) (party_with_seat_is_new g number (record (graph_seat g number) { registers = set (graph_seat g number).registers d cell }) present)) small

  -- or holds a new object, which was read from no field
  pub seen_after_add : (d : ℕ) (object : Node) → (graph_seat g number).left ≡ false → SeenStands (add g number d object) number (set seen d 0)
  seen_after_add d object present =
      let id : Id = Made number (length (graph_seat g number).objects) in
      let same = party_with_seat_is_new g number (record (graph_seat g number) { registers = set (graph_seat g number).registers d (unseen (values.Object id)); objects = (graph_seat g number).objects ++ object ∷ [] }) present in
      seen_of_set_register (add g number d object) d (unseen (values.Object id)) (ap (λ (p : GraphSeat). p.registers) same) (omega arith)

  -- each register was seen under its stamp in the graph, which has 32 bits
  pub seen_is_graphs : (r : ℕ) → r < length (graph_seat g number).registers → seen_in seen r ≡ seen_stamp g number r
  seen_is_graphs r within = ap (λ (l : List ℕ). get_or l r 0) stands.stamps ∙ get_or-map (λ (c : Cell). c.stamp) (graph_seat g number).registers r unset 0 within

  pub seen_is_small : (r : ℕ) → r < length seen → seen_in seen r < 2 ^ 32
  seen_is_small r within = stands.small r 0 within
