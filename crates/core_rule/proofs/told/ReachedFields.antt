-- What a call has reached is of the object that its register holds.
use Rattle.std.specs.Prelude.{if◌then◌else◌, option_map, unwrap_or}
use Rattle.std.proofs.Common.{◌≡◌, ℕ, ◌%◌, ◌<◌, Option, Some, refl, sym, ap, ◌∙◌, subst, arith}
use Rattle.core_rule.proofs.Terms.{ShadingSide, Replacing, Heap, Node, LoadingMeta, Walking, Indexing, Getting, LoadingOld, ShadingOld, ShadingNew, Swapping, Point, Word, State, seat_at, found_by, Move}
use Rattle.core_rule.proofs.Terms.{move_at, due_step, part_of, field_of, FitsWay, Seat, id_of, at, Book, fragment_at, id_at, object_number, Awaits, IsAwaitingName, WhileAccess}
use Rattle.core_rule.proofs.Terms.{node_at, IsAwaited, Rule, Kept, AccessStands, WayStands, Finds, Locates, SetsOut, OnWay}
use Rattle.heap_model.specs.declared.id.Value.TheVariants as values
use Rattle.core_machine.specs.declared.point.Access.{Access}
use Rattle.core_machine.specs.declared.point.Access.TheVariants.{LoadingSpot, Naming}
use Rattle.core_machine.specs.declared.point.Point.TheVariants as points
use Rattle.core_machine.specs.declared.step.AccessStep.TheVariants.{NameLoad}
use Rattle.core_machine.specs.declared.step.Step.{Step}
use Rattle.core_machine.specs.declared.step.Step.TheVariants as steps
use Rattle.core_machine.specs.seat.AccessMoves.{loaded_head_of}
use Rattle.core_machine.specs.seat.FitsAccess.{FitsAccess}
use Rattle.core_rule.specs.told.Reached.{IsOnObject, ReachesObject, ReachesArray, ReachesRow, IsFieldPlace, AwaitsName, ReachesOwn, EachReachesOwn, NamesReached, ReachesInBook}
use Rattle.core_rule.specs.Stands.{Stands}
use Rattle.core_rule.proofs.entries.AtRest.{seat_fits, point_awaits_none}
use Rattle.core_rule.proofs.graph.Numbering.{id_at_own_number}
use Rattle.core_rule.proofs.ways.AtObject.{way_object_is_registers}
use Rattle.core_rule.proofs.ways.KeptWords.{way_row_within_object, name_tells_id}
use Rattle.core_rule.proofs.graph.ToldGraph.{told_graph}

module _ (heap : Heap) (state : State) (book : Book) (number : ℕ) (rule : Rule heap state book) (here : number < heap.seats) where
  abbrev seat : Seat
  seat = seat_at state number

  abbrev nodes : ℕ → Node
  nodes = node_at (told_graph heap book) book.made

  -- what was reached on the way to an object's row is of the object that the register holds
  on_object : (point : Access) → seat.point ≡ points.Access point → ((d r : ℕ) → ¬ IsAwaited (points.Access point) d r) → (index row : ℕ) → OnWay book.made book.owner book.fragments seat index row
      → book.owner (fragment_at (book.fragments index) row) ≡ Kept index row → IsOnObject heap book number seat index row
  on_object point is free index row way owned = record {
    below = way.below;
    holds = way.holds;
    held = way_object_is_registers heap state book number rule here point is (λ d r. point_awaits_none seat.point (points.Access point) d r is (free d r)) index row way;
    owned = ap book.owner way.here ∙ owned;
    in_order = way.here;
  }

  -- the first fragment
  at_object : seat.point ≡ points.Access LoadingMeta → SetsOut book.made book.owner book.fragments seat → ReachesObject heap book number seat
  at_object is out = record { object = out.index; on = on_object LoadingMeta is (λ d r e. e) out.index 0 out.way out.way.kept }

  -- that of an array
  at_array : (point : Access) → seat.point ≡ points.Access point → ((d r : ℕ) → ¬ IsAwaited (points.Access point) d r) → Locates nodes book.made book.owner book.fragments seat → ReachesArray heap book number seat
  at_array point is free locates = record {
    object = locates.index;
    on = on_object point is free locates.index 0 locates.way locates.way.kept;
    an_array = locates.an_array;
    field = record { within = locates.within; part_is = locates.there ∙ ap (λ array. if array then field_of seat.command % 4 else part_of (field_of seat.command)) (sym locates.an_array) };
  }

  -- a row before the field's, or that
  at_row : (point : Access) → seat.point ≡ points.Access point → ((d r : ℕ) → ¬ IsAwaited (points.Access point) d r) → Finds nodes book.made book.owner book.fragments seat → ReachesRow heap book number seat seat.links
  at_row point is free finds =
      let ahead = way_row_within_object heap state.words (told_graph heap book) book.made book.owner book.fragments rule.machine.limits rule.heap_stands.control_words rule.heap_stands.ids rule.heap_stands.objects seat finds in
      record {
        object = finds.index;
        row = finds.row;
        on = on_object point is free finds.index finds.row finds.way ((rule.heap_stands.objects.kept finds.index finds.way.below finds.way.kept).owned finds.row (omega (arith, ahead)));
        field = record { within = finds.field.within; part_is = finds.field.there };
        ahead = finds.field.leads;
      }

  at_field : (point : Access) → seat.point ≡ points.Access point → ((d r : ℕ) → ¬ IsAwaited (points.Access point) d r) → seat.links ≡ 0 → Finds nodes book.made book.owner book.fragments seat → IsFieldPlace heap book number seat
  at_field point is free arrived finds = subst (ReachesRow heap book number seat) arrived (at_row point is free finds)

  -- the object whose name is awaited
  at_name : seat.point ≡ points.Access Naming → AwaitsName heap book number seat
  at_name is =
      let list = (rule.seats_stand number here).told.list in
      let awaits : IsAwaitingName (told_graph heap book) book.made book.owner book.fragments number seat list.awaited =
      subst (λ (p : Point). Awaits (told_graph heap book) book.made book.owner book.fragments number seat p list.awaited) is list.awaits in
      record {
        object = object_number book.made awaits.id;
        below = awaits.kept.0;
        kept = awaits.kept.1;
        loads = awaits.loads;
        held = awaits.held ∙ ap values.Object (sym (id_at_own_number book.made awaits.id awaits.kept.0));
      }

  reaches_in : (point : Access) → seat.point ≡ points.Access point → FitsAccess seat point → AccessStands nodes book.made book.owner book.fragments seat point → ReachesOwn heap book number seat point
  reaches_in LoadingMeta is fits way = at_object is way
  reaches_in Walking is fits way = at_row Walking is (λ d r e. e) way
  reaches_in LoadingSpot is fits way = at_array LoadingSpot is (λ d r e. e) way
  reaches_in Indexing is fits way = at_array Indexing is (λ d r e. e) way
  reaches_in Getting is fits way = at_field Getting is (λ d r e. e) fits.0.2.arrived way
  reaches_in Naming is fits way = at_name is
  reaches_in LoadingOld is fits way = at_field LoadingOld is (λ d r e. e) fits.0.2.arrived way
  reaches_in ShadingOld is fits way = at_field ShadingOld is (λ d r e. e) fits.0.2.arrived way.0
  reaches_in ShadingNew is fits way = at_field ShadingNew is (λ d r e. e) fits.0.2.arrived way.0
  reaches_in Swapping is fits way = at_field Swapping is (λ d r e. e) fits.0.2.arrived way.0
  reaches_in (ShadingSide side) is fits way = at_field (ShadingSide side) is (λ d r e. e) fits.0.2.arrived way
  reaches_in Replacing is fits way = at_field Replacing is (λ d r e. e) fits.2.arrived way

  reaches_at : (P : Access → Type 0) (point : Point) → seat.point ≡ point → FitsWay seat point → WayStands nodes book.made book.owner book.fragments seat point
      → ((reaching : Access) → seat.point ≡ points.Access reaching → ReachesOwn heap book number seat reaching → P reaching) → WhileAccess P point
  reaches_at P (points.Access point) is fits way goes = goes point is (reaches_in point is fits way)
  reaches_at P point is fits way goes = tt

  -- so it is at the seat's point, and so what follows
  reaches_so : (P : Access → Type 0) → ((reaching : Access) → seat.point ≡ points.Access reaching → ReachesOwn heap book number seat reaching → P reaching) → WhileAccess P seat.point
  reaches_so P goes = reaches_at P seat.point refl (seat_fits rule number here).way_at_point (rule.seats_stand number here).names.way goes

  pub reaches_own : WhileAccess (ReachesOwn heap book number seat) seat.point
  reaches_own = reaches_so (ReachesOwn heap book number seat) (λ reaching is reaches. reaches)

  -- the word that the load of a name finds is the object's name
  named_by : (awaits : AwaitsName heap book number seat) → id_of (at heap state.words (Word (loaded_head_of seat) 1)) ≡ id_at book.made awaits.object
  named_by awaits =
      ap (λ (o : Option ℕ). id_of (at heap state.words (Word (unwrap_or o 0) 1))) awaits.loads
      ∙ name_tells_id heap state.words (told_graph heap book) book.made book.owner book.fragments rule.machine.limits rule.heap_stands.control_words rule.heap_stands.ids rule.heap_stands.objects awaits.object awaits.below awaits.kept

  module _ (step : Step) (due : due_step heap number seat ≡ Some step) where
    names_at : (point : Access) → seat.point ≡ points.Access point → (reaches : ReachesOwn heap book number seat point) → NamesReached heap book number seat (found_by heap state step) point reaches
    names_at Naming is awaits =
        let same : steps.Access (NameLoad (loaded_head_of seat)) ≡ step = cc (sym (ap (λ (p : Point). option_map (λ (m : Move). m.step) (move_at heap number seat p)) is) ∙ due) in
        ap (λ (s : Step). id_of (found_by heap state s)) (sym same) ∙ named_by awaits
    names_at _ is reaches = tt

    -- and by the book so it is where the seat's due step finds its word
    pub due_word_reaches_in_book : Stands heap state book → WhileAccess (ReachesInBook heap number seat (found_by heap state step)) seat.point
    due_word_reaches_in_book stands = reaches_so (ReachesInBook heap number seat (found_by heap state step)) (λ reaching is reaches. record {
      there = record { state = state; book = book; stands = stands; here = refl; reaches = reaches };
      finds = rw due refl;
      names = names_at reaching is reaches;
    })

pub each_reaches_own : EachReachesOwn
unfolding EachReachesOwn
each_reaches_own heap state book number rule here = reaches_own heap state book number rule here
