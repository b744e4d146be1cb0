-- Loading the spine word that names a cell's fragment keeps the rule.
use Rattle.std.proofs.Common.{ℕ, ◌/◌, [], ◌++◌, refl, sym, subst, ◌+◌}
use Rattle.core_rule.proofs.Terms.{graph_of, Graph, Indexing, field_point_of, after_index, at_payload, field_of, Seat, seat_at, payload_in, at, spine_place}
use Rattle.core_rule.proofs.Terms.{ReadsSpine, Awaits, node_at, Finds, Locates, AccessStands}
use Rattle.core_machine.specs.declared.point.Access.{Access}
use Rattle.core_machine.specs.declared.point.Point.TheVariants as points
use Rattle.core_machine.specs.seat.AccessMoves.{index_move}
use Rattle.core_machine.specs.seat.FitsAccess.{SeatIsAtSentinel}
use Rattle.core_machine.proofs.seat_lemmas.FieldPoints.{field_point_cases}
use Rattle.core_rule.specs.roots.Roots.{AtCall}
use Rattle.core_rule.proofs.frames.SeatFrames.{AddressAt}
use Rattle.core_rule.proofs.cycle.Unwatched.{IsUnwatched}
use Rattle.core_rule.proofs.entries.AtRest.{seat_fits}
use Rattle.core_rule.proofs.roots.CallRoots.{IsReachedNow, roots_hold_at_call, payload_is_reached}
use Rattle.core_rule.proofs.steps.Assemble.{StepKeeps}
use Rattle.core_rule.proofs.steps.access.WaySteps.{on_way, keeps_rule_by_way_load}
use Rattle.core_rule.proofs.ways.OnwardWays.{finds_after_payload, names_cell, located_word_is_payload, old_kept_where_none, field_word_within_spine}
use Rattle.core_rule.proofs.steps.StepKinds.{StepKind, only_loads, comes_from_usual, field_point_is_usual, step_kind_of_way, birth_colour_where_none_borne}
use Rattle.core_rule.proofs.held.SpineThere.{held_word_is_there, indexed_word_is_held}

pub index_keeps : StepKeeps (points.Access Indexing) (λ heap number. index_move)
index_keeps heap state book number rule here point machine =
    let seat : Seat = seat_at state number in
    let g : Graph = graph_of heap book.history in
    let stands = rule.heap_stands in
    let names = (rule.seats_stand number here).names in
    let locates : Locates (node_at g book.made) book.made book.owner book.fragments seat = rw point at names.way in
    let fits : SeatIsAtSentinel seat = rw point at (seat_fits rule number here).way_at_point in
    let index : ℕ = locates.index in
    let way = locates.way in
    let k : ℕ = field_of seat.command / 4 in
    let reads : ReadsSpine heap state.words (node_at g book.made) book.owner book.fragments book.spines book.spine_owner seat = rw point at names.address in
    let its = names_cell heap state.words g book.made book.owner book.fragments rule.machine.limits stands.control_words stands.ids stands.objects book.spine_owner seat locates reads in
    let found : ℕ = payload_in (at heap state.words (spine_place seat.address k)) in
    let to : Access = field_point_of (record seat { reached = found }) seat.command in
    let new : Seat = on_way heap state book number rule here Indexing point (λ answered. answered) (λ d r awaited. awaited) found seat.links seat.part seat.address to in
    let finds : Finds (node_at g book.made) book.made book.owner book.fragments new
    = finds_after_payload heap state.words g book.made book.owner book.fragments rule.machine.limits stands.control_words stands.ids stands.objects seat seat.loaded to (seat.mine ++ []) fits.no_links locates its in
    let unloaded = old_kept_where_none book.made book.owner book.fragments new (rw fits.none_loaded refl) in
    let within = field_word_within_spine heap state.words g book.made book.owner book.fragments rule.machine.limits stands.control_words stands.ids stands.objects seat locates in
    keeps_rule_by_way_load heap state book number rule here Indexing point (λ answered. answered) (λ d r awaited. awaited) (spine_place seat.address k) found seat.links seat.part seat.address to
    (field_point_cases (λ to. Awaits g book.made book.owner book.fragments number new (points.Access to) []) seat seat.command refl (λ on. refl) (λ off. refl) (λ on some. refl) (λ on none some. refl) (λ none. refl))
    (field_point_cases (λ to. AccessStands (node_at g book.made) book.made book.owner book.fragments new to) seat seat.command finds (λ on. finds) (λ off. (finds, unloaded)) (λ on some. finds) (λ on none some. finds) (λ none. finds))
    (field_point_cases (λ to. AddressAt heap state.words book new (points.Access to)) seat seat.command reads (λ on. reads) (λ off. reads) (λ on some. reads) (λ on none some. reads) (λ none. reads))
    (field_point_cases (λ to. IsUnwatched new to) seat seat.command tt (λ on. tt) (λ off. off) (λ on some. tt) (λ on none some. none) (λ none. none))
    (λ marks roots.
    let comes : IsReachedNow heap state book found
    = subst (IsReachedNow heap state book) (sym (located_word_is_payload heap state.words g book.made book.owner book.fragments rule.machine.limits stands.control_words stands.ids stands.objects seat locates its))
    (payload_is_reached heap state book number rule here marks (roots_hold_at_call (IsReachedNow heap state book) seat Indexing point roots) index k way.below way.kept way.here locates.an_array within) in
    field_point_cases (λ to. AtCall (IsReachedNow heap state book) new to) seat seat.command comes (λ on. comes) (λ off. comes) (λ on some. comes) (λ on none some. comes) (λ none. comes))
    machine

-- all that is asked of it
pub step_kind_of_indexing : StepKind (points.Access Indexing)
step_kind_of_indexing = step_kind_of_way (points.Access Indexing) (λ heap number. index_move) (λ heap number seat. refl) (λ e. cc e) (λ heap number seat. tt) (λ heap number seat words found. refl) record {
  keeps = index_keeps;
  stays = λ heap number seat found point_is. record { looks = refl; elsewhere = tt };
  comes = λ heap number seat found. comes_from_usual _ (after_index seat found).point (field_point_is_usual (at_payload seat found) seat.command);
  words = record {
    bears = λ heap state book rule number here f within unborn. birth_colour_where_none_borne (points.Access Indexing) (λ heap number. index_move) (λ heap number seat. refl) heap state book rule number f within unborn (only_loads (λ word. refl));
    stores = λ heap number seat is. absurd is;
    there = λ heap state book rule number here point_is low.
        held_word_is_there heap state book rule (seat_at state number).address.half ((seat_at state number).address.offset + field_of (seat_at state number).command / 4) low (indexed_word_is_held heap state book rule number here point_is);
  };
  found = λ heap state book number stands here point_is. tt;
}
