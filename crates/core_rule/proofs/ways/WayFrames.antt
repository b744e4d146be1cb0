-- A way goes on as before where its object does.
use Rattle.std.proofs.Common.{◌≡◌, ℕ, ◌+◌, ◌/◌, ◌%◌, ◌<◌, List, length, sym, ap, ◌∙◌}
use Rattle.std.specs.Prelude.{if◌then◌else◌}
use Rattle.core_rule.proofs.Terms.{ShadingSide, Replacing, Command, Id, Node, Point, LoadingMeta, Walking, Indexing, Getting, LoadingOld, ShadingOld, ShadingNew, Swapping, row_of, part_of, field_of, Seat}
use Rattle.core_rule.proofs.Terms.{id_at, IsKept, Owner, LoadedKept, OnWay, FieldAhead, Finds, Locates, WayStands}
use Rattle.core_machine.specs.declared.point.Point.TheVariants as points
use Rattle.core_machine.specs.declared.point.Access.TheVariants.{LoadingSpot}
use Rattle.heap_model.proofs.graph_changes.Shapes.{SameShape}

-- the object of this number is kept as before: under its id, in its fragments, of its kind and with as many cells
pub record ObjectStays (nodes now_nodes : ℕ → Node) (made now_made : List Id) (owner now_owner : ℕ → Owner) (fragments now_fragments : ℕ → List ℕ) (i : ℕ) : Type 0 where
  pub below : i < length now_made
  pub kept : IsKept now_owner now_fragments i
  pub id : id_at now_made i ≡ id_at made i
  pub fragments_stay : now_fragments i ≡ fragments i
  pub shape : SameShape (now_nodes i) (nodes i)

module _ (nodes now_nodes : ℕ → Node) (made now_made : List Id) (owner now_owner : ℕ → Owner) (fragments now_fragments : ℕ → List ℕ)
    (stay : (i : ℕ) → i < length made → IsKept owner fragments i → ObjectStays nodes now_nodes made now_made owner now_owner fragments now_fragments i) where
  way_stays : (seat : Seat) (index row : ℕ) → OnWay made owner fragments seat index row → OnWay now_made now_owner now_fragments seat index row
  way_stays seat index row way =
      let one = stay index way.below way.kept in
      record {
        below = one.below;
        kept = one.kept;
        holds = rw (one.fragments_stay, one.id) way.holds;
        here = rw one.fragments_stay way.here;
      }

  -- where the command's field stands
  ahead_stays : (now before : Node) (command : Command) (row links part : ℕ) → SameShape now before → FieldAhead before command row links part → FieldAhead now command row links part
  ahead_stays now before command row links part shape ahead = record {
    within = rw shape.cells ahead.within;
    leads = ahead.leads ∙ ap (λ a. if a then field_of command / 4 + 1 else row_of (field_of command)) (sym shape.kind);
    linked = λ an_array. ahead.linked (sym shape.kind ∙ an_array);
    there = ahead.there ∙ ap (λ a. if a then field_of command % 4 else part_of (field_of command)) (sym shape.kind);
  }

  finds_stays : (seat : Seat) → Finds nodes made owner fragments seat → Finds now_nodes now_made now_owner now_fragments seat
  finds_stays seat finds = record {
    index = finds.index;
    row = finds.row;
    way = way_stays seat finds.index finds.row finds.way;
    field = ahead_stays _ _ seat.command finds.row seat.links seat.part (stay finds.index finds.way.below finds.way.kept).shape finds.field;
  }

  locates_stays : (seat : Seat) → Locates nodes made owner fragments seat → Locates now_nodes now_made now_owner now_fragments seat
  locates_stays seat locates =
      let shape = (stay locates.index locates.way.below locates.way.kept).shape in
      record {
        index = locates.index;
        way = way_stays seat locates.index 0 locates.way;
        an_array = shape.kind ∙ locates.an_array;
        within = rw shape.cells locates.within;
        there = locates.there;
      }

  loaded_stays : (seat : Seat) → LoadedKept made owner fragments seat → LoadedKept now_made now_owner now_fragments seat
  loaded_stays seat loaded =
      let one = stay loaded.index loaded.below loaded.kept in
      record { index = loaded.index; below = one.below; kept = one.kept; loads = rw one.fragments_stay loaded.loads }

  -- a seat's way stays at its point
  pub way_stands_still : (seat : Seat) (point : Point) → WayStands nodes made owner fragments seat point → WayStands now_nodes now_made now_owner now_fragments seat point
  way_stands_still seat (points.Access LoadingMeta) way = record { index = way.index; way = way_stays seat way.index 0 way.way }
  way_stands_still seat (points.Access Walking) way = finds_stays seat way
  way_stands_still seat (points.Access LoadingSpot) way = locates_stays seat way
  way_stands_still seat (points.Access Indexing) way = locates_stays seat way
  way_stands_still seat (points.Access Getting) way = finds_stays seat way
  way_stands_still seat (points.Access LoadingOld) way = finds_stays seat way
  way_stands_still seat (points.Access ShadingOld) way = (finds_stays seat way.0, loaded_stays seat way.1)
  way_stands_still seat (points.Access ShadingNew) way = (finds_stays seat way.0, λ some. loaded_stays seat (way.1 some))
  way_stands_still seat (points.Access Swapping) way = (finds_stays seat way.0, λ some. loaded_stays seat (way.1 some))
  way_stands_still seat (points.Access (ShadingSide side)) way = finds_stays seat way
  way_stands_still seat (points.Access Replacing) way = finds_stays seat way
  way_stands_still seat _ way = way
