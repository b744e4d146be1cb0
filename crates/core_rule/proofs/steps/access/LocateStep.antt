-- Loading the place of an array's spine keeps the rule.
use Rattle.std.proofs.Common.{◌≡◌, ℕ, inl, refl, sym, ap, ◌∙◌}
use Rattle.core_rule.proofs.Terms.{spot_in, graph_of, Graph, Word, Indexing, at, seat_at, Seat, fragment_at, node_at, Kept, Locates}
use Rattle.heap_words.specs.declared.spot.Spot.{Spot}
use Rattle.core_machine.specs.declared.point.Point.TheVariants as points
use Rattle.core_machine.specs.declared.point.Access.TheVariants.{LoadingSpot}
use Rattle.core_machine.specs.seat.AccessMoves.{locate_move}
use Rattle.core_rule.proofs.roots.CallRoots.{IsReachedNow, roots_hold_at_call}
use Rattle.core_rule.proofs.objects.SpinePlaces.{array_spine_fits_spot}
use Rattle.core_rule.proofs.steps.Assemble.{StepKeeps}
use Rattle.core_rule.proofs.steps.access.WaySteps.{keeps_rule_by_way_load}
use Rattle.core_rule.proofs.ways.KeptWords.{word_tells_spine_spot}
use Rattle.core_rule.proofs.ways.OnwardWays.{locates_at_point}
use Rattle.core_rule.proofs.ways.LoadedPlaces.{called_register_is_first}
use Rattle.core_rule.proofs.steps.StepKinds.{StepKind, only_loads, step_kind_of_way, on_words_of_plain_step}

pub locate_keeps : StepKeeps (points.Access LoadingSpot) (λ heap number. locate_move)
locate_keeps heap state book number rule here point machine =
    let seat : Seat = seat_at state number in
    let g : Graph = graph_of heap book.history in
    let stands = rule.heap_stands in
    let locates : Locates (node_at g book.made) book.made book.owner book.fragments seat = rw point at (rule.seats_stand number here).names.way in
    let index : ℕ = locates.index in
    let way = locates.way in
    let found : Spot = spot_in (at heap state.words (Word seat.reached 2)) in
    let spine : found ≡ book.spines index
    = ap (λ f. spot_in (at heap state.words (Word f 2))) way.here
    ∙ word_tells_spine_spot heap state.words g book.made book.owner book.fragments rule.machine.limits stands.control_words stands.ids stands.objects index way.below way.kept locates.an_array
    (array_spine_fits_spot rule index way.below way.kept locates.an_array) in
    keeps_rule_by_way_load heap state book number rule here LoadingSpot point (λ answered. answered) (λ d r awaited. awaited) (Word seat.reached 2) seat.reached seat.links seat.part found Indexing refl
    (locates_at_point (node_at g book.made) book.made book.owner book.fragments seat found Indexing _ locates)
    (λ i f calls is an_array.
    let head : f ≡ fragment_at (book.fragments index) 0 = called_register_is_first book.made book.owner book.fragments seat index 0 f way calls in
    let both : Kept index 0 ≡ Kept i 0 = sym way.kept ∙ ap book.owner (sym head) ∙ is in
    let same : index ≡ i = cc in inl (spine ∙ ap book.spines same))
    tt (λ marks roots. roots_hold_at_call (IsReachedNow heap state book) seat LoadingSpot point roots) machine

-- all that is asked of it
pub step_kind_of_locating : StepKind (points.Access LoadingSpot)
step_kind_of_locating = step_kind_of_way (points.Access LoadingSpot) (λ heap number. locate_move) (λ heap number seat. refl) (λ e. cc e) (λ heap number seat. tt) (λ heap number seat words found. refl) record {
  keeps = locate_keeps;
  stays = λ heap number seat found point_is. record { looks = refl; elsewhere = tt };
  comes = λ heap number seat found. tt;
  words = on_words_of_plain_step (points.Access LoadingSpot) (λ heap number. locate_move) (λ heap number seat. refl) (λ heap number seat is. is) (λ heap number seat low. low)
      (λ heap state book rule number here. only_loads (λ word. refl));
  found = λ heap state book number stands here point_is. tt;
}
