-- The load of the old value of a set keeps the rule.
use Rattle.std.proofs.Common.{◌≡◌, ℕ, true, false, [], ◌++◌, Option, Some, None, inl, refl, sym, ap, ◌∙◌}
use Rattle.core_rule.proofs.Terms.{graph_of, Graph, Word, LoadingOld, ShadingOld, ShadingNew, Swapping, at, head_of, is_meta, seat_at, has_barrier_of, after_old_load}
use Rattle.core_rule.proofs.Terms.{register_head, Seat, with_entries, IsMachine, ReadsSpine, IsMarked, WordPointsTo, node_at, Finds}
use Rattle.core_machine.specs.declared.point.Point.TheVariants as points
use Rattle.core_machine.specs.declared.point.Access.{Access}
use Rattle.core_machine.specs.seat.FitsAccess.{SeatIsAtSet}
use Rattle.core_machine.specs.seat.AccessMoves.{old_move, new_register_of}
use Rattle.core_rule.specs.roots.Roots.{IsInMarking, OfRoots}
use Rattle.core_rule.proofs.steps.Assemble.{Keeps, StepKeeps, seat_fits}
use Rattle.core_rule.proofs.colours.SourceCases.{word_pointer_of_lead}
use Rattle.core_rule.proofs.steps.BarrierSteps.{new_point_cases, keeps_rule_by_leading_load}
use Rattle.core_rule.proofs.ways.LoadedObjects.{loaded_is_kept_head, field_word_is_not_fixed}
use Rattle.core_rule.proofs.ways.ArrayWords.{plain_pointer_is_head}
use Rattle.core_rule.proofs.steps.Loads.{went, loaded_state}
use Rattle.core_rule.proofs.ways.OnwardWays.{finds_at_point, old_kept_where_none}
use Rattle.core_rule.proofs.lists.Options.{if_some_of_none, if_some_of_the_one}
use Rattle.core_rule.proofs.roots.CallRoots.{IsReachedNow, roots_hold_at_call, field_target_is_reached}
use Rattle.core_rule.proofs.steps.StepKinds.{StepKind, only_loads, shows_none, looks_follow_old_load, looks_go_at_old_load, comes_from_old_load, on_words_of_plain_step}

-- loading the old value keeps the rule
pub old_keeps : StepKeeps (points.Access LoadingOld) (λ heap number. old_move)
old_keeps heap state book number rule here point machine =
    let seat : Seat = seat_at state number in
    let g : Graph = graph_of heap book.history in
    let old = rule.heap_stands in
    let fits : SeatIsAtSet seat × (has_barrier_of seat ≡ true) × (seat.loaded ≡ 0) = rw point at (seat_fits rule number here).way_at_point in
    let finds : Finds (node_at g book.made) book.made book.owner book.fragments seat = rw point at (rule.seats_stand number here).names.way in
    let found : ℕ = at heap state.words (Word seat.reached seat.part) in
    let plain : is_meta found ≡ false = field_word_is_not_fixed heap state.words g book.made book.owner book.fragments rule.machine.limits old.control_words old.ids old.objects seat fits.0.2.arrived finds in
    let new_head : Option ℕ = register_head (new_register_of seat) in
    let on = keeps_rule_by_leading_load heap state book number rule here LoadingOld point (λ answered. answered) (λ d r awaited. awaited) found in
    let reads : ReadsSpine heap state.words (node_at g book.made) book.owner book.fragments book.spines book.spine_owner seat = rw point at (rule.seats_stand number here).names.address in
    let at_next = λ (next : Access). finds_at_point (node_at g book.made) book.made book.owner book.fragments seat found next (seat.mine ++ []) finds in
    let leads : (x : ℕ) → WordPointsTo heap state.words seat.reached seat.part x → head_of found ≡ Some x = λ x leads. sym (plain_pointer_is_head seat.part found plain) ∙ word_pointer_of_lead heap state.words seat.reached seat.part x fits.0.2.part_within leads in
    let unloaded = λ (next : Access). old_kept_where_none book.made book.owner book.fragments (went seat seat.registers seat.seen seat.reached seat.links seat.part seat.address found (points.Access next) seat.looks []) in
    let reached = λ (marks : IsInMarking state.collector) (roots : OfRoots (IsReachedNow heap state book) seat). roots_hold_at_call (IsReachedNow heap state book) seat LoadingOld point roots in
    let goal = λ (o : Option ℕ). IsMachine heap (loaded_state heap state number (Word seat.reached seat.part) (with_entries (after_old_load (record seat { loaded = found }) o) []))
    → Keeps heap state (loaded_state heap state number (Word seat.reached seat.part) (with_entries (after_old_load (record seat { loaded = found }) o) [])) book book.begun [] in
    let by_head : (o : Option ℕ) → head_of found ≡ o → goal o = λ o. elim o as (λ x. head_of found ≡ x → goal x) [
      | None ↦ λ none. new_point_cases (λ next. IsMachine heap (loaded_state heap state number (Word seat.reached seat.part) (went seat seat.registers seat.seen seat.reached seat.links seat.part seat.address found (points.Access next) seat.looks []))
          → Keeps heap state (loaded_state heap state number (Word seat.reached seat.part) (went seat seat.registers seat.seen seat.reached seat.links seat.part seat.address found (points.Access next) seat.looks [])) book book.begun []) new_head
          (λ no_new. on Swapping (λ s. refl) reads (at_next Swapping, unloaded Swapping none) (λ making x lead. absurd (cc (none, leads x lead)))
          (λ is_on. (if_some_of_none (IsMarked book.colour) (head_of found) none, if_some_of_none (IsMarked book.colour) new_head no_new)) reached)
          (λ f some. on ShadingNew (λ s. refl) reads (at_next ShadingNew, unloaded ShadingNew none) (λ making x lead. absurd (cc (none, leads x lead))) (if_some_of_none (IsMarked book.colour) (head_of found) none) reached)
      | Some f ↦ λ some.
          let head = loaded_is_kept_head heap state.words g book.made book.owner book.fragments rule.machine.limits old.control_words old.ids old.objects seat fits.0.2.arrived finds f some in
          on ShadingOld (λ s. refl) reads (at_next ShadingOld, record { index = head.index; below = head.below; kept = head.kept; loads = some ∙ ap Some head.is })
          (λ making x lead. inl (leads x lead)) tt
          (λ marks roots. (reached marks roots, if_some_of_the_one (IsReachedNow heap state book) (head_of found) f some (field_target_is_reached heap state book number rule here marks (reached marks roots) fits.0.2.part_within plain f head some)))
    ] in
    by_head (head_of found) refl machine

-- all that is asked of it
pub step_kind_of_loading_old : StepKind (points.Access LoadingOld)
step_kind_of_loading_old = record {
  keeps = λ heap state book number rule here looks. old_keeps heap state book number rule here;
  shows = λ heap state number. shows_none;
  looks = record {
    follows = λ heap state number seat compares point_is. looks_follow_old_load heap state number seat _ tt (at heap state.words (Word seat.reached seat.part)) (head_of (at heap state.words (Word seat.reached seat.part)));
    goes = λ heap state book rule number point_is. looks_go_at_old_load heap state book rule number _ _ _ (λ named. cc (point_is, named));
    comes = λ heap number seat found point_is. comes_from_old_load (record seat { loaded = found }) (head_of found);
  };
  words = on_words_of_plain_step (points.Access LoadingOld) (λ heap number. old_move) (λ heap number seat. refl) (λ heap number seat is. is) (λ heap number seat low. low)
      (λ heap state book rule number here. only_loads (λ word. refl));
  found = λ heap state book number stands here point_is. tt;
}
