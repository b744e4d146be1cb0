-- A seat once marking has ended: what it names is kept then.
use Rattle.std.proofs.Common.{ℕ, List, IfSome, ap, subst}
use Rattle.core_rule.proofs.Terms.{ShadingSide, Replacing, Entry, Id, Value, Graph, Node, LoadingMeta, Walking, Indexing, Getting, LoadingOld, ShadingOld, ShadingNew, Swapping, Point, Register, object_of}
use Rattle.core_rule.proofs.Terms.{register_in, register_head, Seat, head_of, Colour, fragment_at, IsMarked, Awaits, IsKept, Owner, HoldsValue, OnWay, Finds, Locates, LoadedKept}
use Rattle.core_rule.proofs.Terms.{WayStands}
use Rattle.heap_model.specs.declared.id.Value.TheVariants as values
use Rattle.core_machine.specs.declared.point.Access.TheVariants.{LoadingSpot, Naming}
use Rattle.core_machine.specs.declared.point.Point.TheVariants as points
use Rattle.core_machine.specs.declared.seat.register.Register.TheVariants as registers
use Rattle.core_rule.proofs.lists.Options.{holds_of_some}
use Rattle.core_rule.proofs.marking.Settled.{settled_owners, marked_kept_stays_kept}
use Rattle.core_rule.proofs.marking.SettledObjects.{names_kept_after_settling}

module _ (made : List Id) (owner : ℕ → Owner) (colour : ℕ → Colour) (fragments : ℕ → List ℕ) where
  abbrev later : ℕ → Owner
  later = settled_owners owner colour

  -- a kept object whose first fragment is marked is kept
  kept_later : (i : ℕ) → IsKept owner fragments i → IsMarked colour (fragment_at (fragments i) 0) → IsKept later fragments i
  kept_later i kept marked = marked_kept_stays_kept (owner (fragment_at (fragments i) 0)) (colour (fragment_at (fragments i) 0)) i 0 kept marked

  -- a register whose object is marked holds its value
  pub holds_value_after_settling : (held : Register) (value : Value) → IfSome (register_head held) (IsMarked colour) → HoldsValue made owner fragments held value → HoldsValue made later fragments held value
  holds_value_after_settling registers.Nil value marked holds = holds
  holds_value_after_settling (registers.Number n) value marked holds = holds
  holds_value_after_settling (registers.Object head id) value marked holds = (holds.0, names_kept_after_settling made owner colour fragments (values.Object id) holds.1 (subst (IsMarked colour) holds.2 marked), holds.2)

  module _ (seat : Seat) (held : (r : ℕ) → IfSome (register_head (register_in seat.registers r)) (IsMarked colour)) (loaded : IfSome (head_of seat.loaded) (IsMarked colour)) where
    -- the object of a way is that of a register
    way_later : (index row : ℕ) → OnWay made owner fragments seat index row → OnWay made later fragments seat index row
    way_later index row way = record {
      below = way.below;
      kept = kept_later index way.kept (holds_of_some (IsMarked colour) _ _ (ap register_head way.holds) (held (object_of seat.command)));
      holds = way.holds;
      here = way.here;
    }

    finds_later : (nodes : ℕ → Node) → Finds nodes made owner fragments seat → Finds nodes made later fragments seat
    finds_later nodes finds = record { index = finds.index; row = finds.row; way = way_later finds.index finds.row finds.way; field = finds.field }

    locates_later : (nodes : ℕ → Node) → Locates nodes made owner fragments seat → Locates nodes made later fragments seat
    locates_later nodes locates = record {
      index = locates.index;
      way = way_later locates.index 0 locates.way;
      an_array = locates.an_array;
      within = locates.within;
      there = locates.there;
    }

    -- what it has loaded is kept
    old_later : LoadedKept made owner fragments seat → LoadedKept made later fragments seat
    old_later old = record {
      index = old.index;
      below = old.below;
      kept = kept_later old.index old.kept (holds_of_some (IsMarked colour) _ _ old.loads loaded);
      loads = old.loads;
    }

    -- so its way stands at its point
    pub way_stands_after_settling : (nodes : ℕ → Node) (point : Point) → WayStands nodes made owner fragments seat point → WayStands nodes made later fragments seat point
    way_stands_after_settling nodes (points.Access LoadingMeta) way = record { index = way.index; way = way_later way.index 0 way.way }
    way_stands_after_settling nodes (points.Access Walking) way = finds_later nodes way
    way_stands_after_settling nodes (points.Access LoadingSpot) way = locates_later nodes way
    way_stands_after_settling nodes (points.Access Indexing) way = locates_later nodes way
    way_stands_after_settling nodes (points.Access Getting) way = finds_later nodes way
    way_stands_after_settling nodes (points.Access LoadingOld) way = finds_later nodes way
    way_stands_after_settling nodes (points.Access ShadingOld) way = (finds_later nodes way.0, old_later way.1)
    way_stands_after_settling nodes (points.Access ShadingNew) way = (finds_later nodes way.0, λ some. old_later (way.1 some))
    way_stands_after_settling nodes (points.Access Swapping) way = (finds_later nodes way.0, λ some. old_later (way.1 some))
    way_stands_after_settling nodes (points.Access (ShadingSide side)) way = finds_later nodes way
    way_stands_after_settling nodes (points.Access Replacing) way = finds_later nodes way
    way_stands_after_settling nodes _ way = way

    -- and the name that its own list awaits
    pub awaits_after_settling : (g : Graph) (number : ℕ) (point : Point) (awaited : List Entry) → Awaits g made owner fragments number seat point awaited → Awaits g made later fragments number seat point awaited
    awaits_after_settling g number (points.Access Naming) awaited waits = record {
      id = waits.id;
      kept = names_kept_after_settling made owner colour fragments (values.Object waits.id) waits.kept (holds_of_some (IsMarked colour) _ _ waits.loads loaded);
      loads = waits.loads;
      held = waits.held;
      told = waits.told;
    }
    awaits_after_settling g number _ awaited waits = waits
