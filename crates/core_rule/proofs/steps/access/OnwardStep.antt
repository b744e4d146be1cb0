-- Going on by a fragment's first word keeps the rule.
use Rattle.std.proofs.Common.{◌≡◌, ℕ, ◌-◌, ◌<◌, Bool, true, false, [], refl, sym, ap, ◌∙◌, arith}
use Rattle.core_rule.proofs.Terms.{Side, side_register_of, register_head, Heap, graph_of, Graph, Word, Walking, at, link_of, State, seat_at, has_barrier_of, way_point_of, after_link, after_walk, Seat, with_entries}
use Rattle.core_rule.proofs.Terms.{IsMachine, Book, Awaits, IsAnswered, node_at, IsAwaited, ReadsSpine, Rule, Finds}
use Rattle.core_machine.specs.declared.point.Point.TheVariants as points
use Rattle.core_machine.specs.declared.point.Side.TheVariants.{Expected, New}
use Rattle.core_machine.specs.declared.point.Access.{Access}
use Rattle.core_machine.specs.seat.FitsAccess.{SeatIsOnWay}
use Rattle.core_machine.specs.seat.AccessMoves.{walk_move}
use Rattle.core_rule.specs.roots.Roots.{IsInMarking, AtCall, OfRoots}
use Rattle.core_rule.proofs.frames.SeatFrames.{AddressAt}
use Rattle.core_rule.proofs.steps.Assemble.{Keeps, StepKeeps, seat_fits}
use Rattle.core_rule.proofs.roots.CallRoots.{IsReachedNow, roots_hold_at_call, link_is_reached}
use Rattle.core_rule.proofs.steps.Loads.{loaded_state}
use Rattle.core_rule.proofs.steps.access.WaySteps.{on_way, keeps_rule_by_way_load}
use Rattle.core_rule.proofs.ways.LoadedPlaces.{record_reads_no_spine}
use Rattle.core_rule.proofs.ways.OnwardWays.{way_point_cases, after_walk_cases, access_stands_at_next, finds_at_point, finds_after_link}
use Rattle.core_rule.proofs.cycle.Unwatched.{IsUnwatched}
use Rattle.core_rule.proofs.steps.StepKinds.{StepKind, only_loads, comes_from_usual, walk_is_usual, stays_found_after_walk, tells_at_meta, step_kind_of_way, on_words_of_plain_step}

module _ (heap : Heap) (state : State) (book : Book) (number : ℕ) (rule : Rule heap state book) (here : number < heap.seats)
    (from : Access) (point : (seat_at state number).point ≡ points.Access from)
    (unanswered : ¬ IsAnswered (points.Access from)) (unnamed : (d r : ℕ) → ¬ IsAwaited (points.Access from) d r) (unloaded : (seat_at state number).loaded ≡ 0)
    (reaches : OfRoots (IsReachedNow heap state book) (seat_at state number) → IsReachedNow heap state book (seat_at state number).reached) where
  abbrev seat : Seat
  seat = seat_at state number

  abbrev g : Graph
  g = graph_of heap book.history

  -- the word that the step finds, and the state after it
  abbrev found_first : ℕ
  found_first = at heap state.words (Word seat.reached 0)

  abbrev gone : ℕ → ℕ → ℕ → Seat → Seat
  gone reached links part next = on_way heap state book number rule here from point unanswered unnamed reached links part seat.address (way_point_of next)

  -- a seat that goes on to this point
  goes_to : (reached links part : ℕ) (next : Seat) → has_barrier_of next ≡ has_barrier_of seat → ((side : Side) → side_register_of next side ≡ side_register_of seat side)
      → Finds (node_at g book.made) book.made book.owner book.fragments (gone reached links part next)
      → ReadsSpine heap state.words (node_at g book.made) book.owner book.fragments book.spines book.spine_owner seat
      → (IsInMarking state.collector → IsReachedNow heap state book seat.reached → IsReachedNow heap state book reached)
      → IsMachine heap (loaded_state heap state number (Word seat.reached 0) (gone reached links part next))
      → Keeps heap state (loaded_state heap state number (Word seat.reached 0) (gone reached links part next)) book book.begun []
  goes_to reached links part next same sides finds reads comes machine =
      let new : Seat = gone reached links part next in
      keeps_rule_by_way_load heap state book number rule here from point unanswered unnamed (Word seat.reached 0) reached links part seat.address (way_point_of next)
      (way_point_cases (λ point. Awaits g book.made book.owner book.fragments number new (points.Access point) []) next refl refl (λ on. refl) (λ off. refl)
      (λ on some. refl) (λ on none some. refl) (λ none. refl))
      (access_stands_at_next (node_at g book.made) book.made book.owner book.fragments new next unloaded finds)
      (way_point_cases (λ point. AddressAt heap state.words book new (points.Access point)) next tt reads (λ on. reads) (λ off. reads)
      (λ on some. reads) (λ on none some. reads) (λ none. reads))
      (way_point_cases (IsUnwatched new) next tt tt (λ on. tt) (λ off. sym same ∙ off) (λ on some. tt) (λ on none some. ap register_head (sym (sides Expected)) ∙ none)
      (λ none on. let is = none (same ∙ on) in (ap register_head (sym (sides Expected)) ∙ is.0, ap register_head (sym (sides New)) ∙ is.1)))
      (λ marks roots.
      let there = comes marks (reaches roots) in
      way_point_cases (AtCall (IsReachedNow heap state book) new) next there there (λ on. there) (λ off. there)
      (λ on some. there) (λ on none some. there) (λ none. there))
      machine

  -- the way goes on, or the field's fragment is reached
  pub keeps_rule_by_onward_step : (links part : ℕ) (finds : Finds (node_at g book.made) book.made book.owner book.fragments (record seat { links = links; part = part }))
      → (node_at g book.made finds.index).array ≡ false
      → IsMachine heap (loaded_state heap state number (Word seat.reached 0) (with_entries (after_walk (record seat { links = links; part = part }) found_first) []))
      → Keeps heap state (loaded_state heap state number (Word seat.reached 0) (with_entries (after_walk (record seat { links = links; part = part }) found_first) [])) book book.begun []
  keeps_rule_by_onward_step links part finds kind =
      let on : Seat = record seat { links = links; part = part } in
      let reads : ReadsSpine heap state.words (node_at g book.made) book.owner book.fragments book.spines book.spine_owner seat
      = record_reads_no_spine heap state.words (node_at g book.made) book.made book.owner book.fragments book.spines book.spine_owner on finds.index finds.row finds.way kind in
      after_walk_cases (λ s. IsMachine heap (loaded_state heap state number (Word seat.reached 0) (with_entries s []))
      → Keeps heap state (loaded_state heap state number (Word seat.reached 0) (with_entries s [])) book book.begun []) on found_first
      (λ arrived. goes_to seat.reached links part on refl (λ side. refl)
      (finds_at_point (node_at g book.made) book.made book.owner book.fragments on seat.loaded (way_point_of on) _ finds) reads (λ marks comes. comes))
      (λ more. goes_to (link_of found_first) (links - 1) part (after_link on found_first) refl (λ side. refl)
      (finds_after_link heap state.words g book.made book.owner book.fragments rule.machine.limits rule.heap_stands.control_words rule.heap_stands.ids rule.heap_stands.objects
      on seat.loaded (way_point_of (after_link on found_first)) _ more finds)
      reads (λ marks comes. link_is_reached heap state book number rule here marks comes links part more finds))

-- walking a link keeps the rule
pub walk_keeps : StepKeeps (points.Access Walking) (λ heap number. walk_move)
walk_keeps heap state book number rule here point machine =
    let finds : Finds (node_at (graph_of heap book.history) book.made) book.made book.owner book.fragments (seat_at state number)
    = rw point at (rule.seats_stand number here).names.way in
    let walks : SeatIsOnWay (seat_at state number) = rw point at (seat_fits rule number here).way_at_point in
    keeps_rule_by_onward_step heap state book number rule here Walking point (λ answered. answered) (λ d r awaited. awaited)
    walks.none_loaded (roots_hold_at_call (IsReachedNow heap state book) (seat_at state number) Walking point) (seat_at state number).links (seat_at state number).part finds (no_array finds walks.more) machine
  where
    -- to a cell of an array no link leads
    no_array : (finds : Finds (node_at (graph_of heap book.history) book.made) book.made book.owner book.fragments (seat_at state number)) → 0 < (seat_at state number).links
        → (node_at (graph_of heap book.history) book.made finds.index).array ≡ false
    no_array finds more = by (node_at (graph_of heap book.history) book.made finds.index).array refl
      where
        by : (b : Bool) → (node_at (graph_of heap book.history) book.made finds.index).array ≡ b → (node_at (graph_of heap book.history) book.made finds.index).array ≡ false
        by false is = is
        by true is = absurd (omega (arith, more, finds.field.linked is))

-- all that is asked of it
pub step_kind_of_walking : StepKind (points.Access Walking)
step_kind_of_walking = step_kind_of_way (points.Access Walking) (λ heap number. walk_move) (λ heap number seat. refl) (λ e. cc e) (λ heap number seat. tt) (λ heap number seat words found. refl) record {
  keeps = walk_keeps;
  stays = λ heap number seat found point_is. stays_found_after_walk seat found;
  comes = λ heap number seat found. comes_from_usual _ (after_walk seat found).point (walk_is_usual seat found);
  words = on_words_of_plain_step (points.Access Walking) (λ heap number. walk_move) (λ heap number seat. refl) (λ heap number seat is. is) (λ heap number seat low. low)
      (λ heap state book rule number here. only_loads (λ word. refl));
  found = λ heap state book number stands here point_is. tells_at_meta heap state book number stands here (λ idle. cc (point_is, idle)) Walking point_is (λ e. e) (λ d r e. e);
}
