-- A look, and the comparison with another seat's word, keep the rule.
use Rattle.std.proofs.Common.{◌≡◌, ℕ, ◌<◌, [], filter, subst, refl}
use Rattle.core_rule.proofs.Terms.{Heap, is_of, State, seat_at, IsMachine, target_of, IsAtRest, IsSilent, Seat, with_entries, call_over, at, Book, IsAnswered, IsAwaited, Rule}
use Rattle.core_machine.specs.declared.point.Collecting.{Collecting}
use Rattle.core_machine.specs.declared.point.Collecting.TheVariants.{Looking, Asking, Comparing}
use Rattle.core_machine.specs.declared.point.Point.TheVariants as points
use Rattle.core_machine.specs.declared.table.address.Address.{Address}
use Rattle.core_machine.specs.declared.table.address.Address.TheVariants.{Phase, Answer}
use Rattle.core_machine.specs.seat.Collecting.{look_move, asking_move, comparing_move, FitsCollecting}
use Rattle.core_machine.specs.declared.seat.looks.Looks.{Looks}
use Rattle.core_machine.specs.seat.Looks.{looked, seen_phase, compared}
use Rattle.heap_model.specs.declared.command.Command.TheVariants as commands
use Rattle.core_rule.proofs.entries.AtRest.{seat_fits}
use Rattle.core_rule.proofs.entries.SeatLists.{own_list_is_all_told}
use Rattle.core_rule.proofs.steps.Assemble.{Keeps, StepKeeps}
use Rattle.core_rule.proofs.steps.Loads.{loaded_state}
use Rattle.core_rule.proofs.steps.QuietLoads.{keeps_rule_by_quiet_end, keeps_rule_by_quiet_move}
use Rattle.core_rule.proofs.steps.StepKinds.{StepKind, on_words_of_plain_step, only_loads, shows_none, looks_follow_phase_load, looks_follow_compare, looks_go_at_find, tells_at_poll, tells_at_comparing}
use Rattle.core_rule.proofs.looks.Finding.{looks_stand_after_look, looks_stand_while_comparing, looks_stand_after_compare}
use Rattle.core_rule.specs.looks.Looks.{LooksStand}

module _ (heap : Heap) (state : State) (book : Book) (number : ℕ) (rule : Rule heap state book) (here : number < heap.seats) (collecting : Collecting)
    (point : (seat_at state number).point ≡ points.Collecting collecting) where
  abbrev seat : Seat
  seat = seat_at state number

  fits : IsAtRest seat × (seat.command ≡ commands.Collect) × FitsCollecting heap seat collecting
  fits = rw point at (seat_fits rule number here).at_point

  silent : IsSilent seat
  silent = rw point at (seat_fits rule number here).answer_at_point

  told : seat.mine ≡ filter (is_of number) book.history
  told = own_list_is_all_told (rule.seats_stand number here).told.list (rw point at (rule.seats_stand number here).told.list.awaits)

  free : (r : ℕ) → ¬ IsAwaited seat.point (target_of seat.command) r
  free r awaited = subst (λ x. IsAwaited x (target_of seat.command) r) point awaited

  -- the call ends with what was found
  found_ends : (a : Address) (looks : Looks) → IsMachine heap (loaded_state heap state number a (with_entries (record (call_over seat) { looks = looks }) []))
      → Keeps heap state (loaded_state heap state number a (with_entries (record (call_over seat) { looks = looks }) [])) book book.begun []
  found_ends a looks = keeps_rule_by_quiet_end heap state book number rule here a looks (rw point tt) fits.0 silent (subst IsAnswered point) free told

  -- or goes on
  found_goes : (a : Address) (looks : Looks) (next : Collecting) → IsMachine heap (loaded_state heap state number a (with_entries (record seat { point = points.Collecting next; looks = looks }) []))
      → Keeps heap state (loaded_state heap state number a (with_entries (record seat { point = points.Collecting next; looks = looks }) [])) book book.begun []
  found_goes a looks = keeps_rule_by_quiet_move heap state book number rule here a looks (rw point tt) fits.0 silent (subst IsAnswered point) free told

pub look_keeps : StepKeeps (points.Collecting Looking) (λ heap number. look_move)
look_keeps heap state book number rule here point = found_ends heap state book number rule here Looking point Phase (looked (at heap state.words Phase) (seat_at state number).looks)

pub asking_keeps : (other : ℕ) → StepKeeps (points.Collecting (Asking other)) (λ heap number seat. asking_move seat other)
asking_keeps other heap state book number rule here point =
    found_goes heap state book number rule here (Asking other) point Phase (seen_phase (at heap state.words Phase) (seat_at state number).looks) (Comparing other (at heap state.words Phase))

pub comparing_keeps : (other p : ℕ) → StepKeeps (points.Collecting (Comparing other p)) (λ heap number seat. comparing_move seat other p)
comparing_keeps other p heap state book number rule here point =
    found_ends heap state book number rule here (Comparing other p) point (Answer other) (compared other p (at heap state.words (Answer other)) (seat_at state number).looks)

-- all that is asked of it
pub step_kind_of_looking : StepKind (points.Collecting Looking)
step_kind_of_looking = record {
  keeps = λ heap state book number rule here looks. look_keeps heap state book number rule here;
  shows = λ heap state number. shows_none;
  looks = record {
    follows = λ heap state number seat compares point_is. looks_follow_phase_load heap state _ _ refl refl;
    goes = λ heap state book rule number point_is. looks_go_at_find heap state book rule number _ (λ note. note)
        (looks_stand_after_look heap state book rule number (seat_at state number).point (seat_at state number).looks (λ named. cc (point_is, named)));
    comes = λ heap number seat found point_is. tt;
  };
  words = on_words_of_plain_step (points.Collecting Looking) (λ heap number. look_move) (λ heap number seat. refl) (λ heap number seat is. is) (λ heap number seat low. low)
      (λ heap state book rule number here. only_loads (λ word. refl));
  found = λ heap state book number stands here point_is. tells_at_poll heap state book number stands here (λ idle. cc (point_is, idle));
}

-- all that is asked of it
pub step_kind_of_look_asking : (other : ℕ) → StepKind (points.Collecting (Asking other))
step_kind_of_look_asking other = record {
  keeps = λ heap state book number rule here looks. asking_keeps other heap state book number rule here;
  shows = λ heap state number. shows_none;
  looks = record {
    follows = λ heap state number seat compares point_is. looks_follow_phase_load heap state _ _ refl refl;
    goes = λ heap state book rule number point_is. looks_go_at_find heap state book rule number _ (λ note. note)
        (λ was. looks_stand_while_comparing heap state book rule number other (seat_at state number).looks (subst (λ p. LooksStand heap book.history number p (seat_at state number).looks) point_is was));
    comes = λ heap number seat found point_is. tt;
  };
  words = on_words_of_plain_step (points.Collecting (Asking other)) (λ heap number seat. asking_move seat other) (λ heap number seat. refl) (λ heap number seat is. is) (λ heap number seat low. low)
      (λ heap state book rule number here. only_loads (λ word. refl));
  found = λ heap state book number stands here point_is. tells_at_poll heap state book number stands here (λ idle. cc (point_is, idle));
}

-- all that is asked of it
pub step_kind_of_comparing : (other : ℕ) (p : ℕ) → StepKind (points.Collecting (Comparing other p))
step_kind_of_comparing other p = record {
  keeps = λ heap state book number rule here looks. comparing_keeps other p heap state book number rule here;
  shows = λ heap state number. shows_none;
  looks = record {
    follows = λ heap state number seat compares point_is. looks_follow_compare heap state other p seat.looks (compares other p point_is);
    goes = λ heap state book rule number point_is. looks_go_at_find heap state book rule number _ (λ note. note)
        (λ was. looks_stand_after_compare heap state book rule number other p (seat_at state number).looks (subst (λ q. LooksStand heap book.history number q (seat_at state number).looks) point_is was));
    comes = λ heap number seat found point_is. tt;
  };
  words = on_words_of_plain_step (points.Collecting (Comparing other p)) (λ heap number seat. comparing_move seat other p) (λ heap number seat. refl) (λ heap number seat is. is) (λ heap number seat low. low)
      (λ heap state book rule number here. only_loads (λ word. refl));
  found = λ heap state book number stands here point_is. tells_at_comparing heap state book number stands here (λ idle. cc (point_is, idle)) other p point_is;
}
