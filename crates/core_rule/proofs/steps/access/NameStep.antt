-- Loading the name of what a get refers to keeps the rule.
use Rattle.std.specs.Prelude.{unwrap_or}
use Rattle.std.proofs.Common.{◌≡◌, ℕ, ◌<◌, List, [], ◌++◌, length, slice_set, Option, IsSome, refl, sym, ap, ◌∙◌, subst, arith}
use Rattle.std.proofs.lemmas.List.{append-nil}
use Rattle.core_rule.proofs.Terms.{Entry, Id, graph_of, register_value, Graph, Word, target_of, at, head_of, stamp_of, id_of, seat_at, Seat, no_spot, object_number, object_head}
use Rattle.core_rule.proofs.Terms.{IsAwaitingName, Registers, HoldsValue}
use Rattle.heap_model.specs.declared.id.Value.TheVariants as values
use Rattle.heap_model.specs.declared.reply.Reply.TheVariants.{Got}
use Rattle.core_machine.specs.seat.Looks.{forgotten}
use Rattle.core_machine.specs.declared.point.Point.TheVariants as points
use Rattle.core_machine.specs.declared.point.Access.TheVariants.{Naming}
use Rattle.core_machine.specs.declared.seat.register.Register.TheVariants as registers
use Rattle.core_machine.specs.seat.FitsAccess.{SeatIsAtGet}
use Rattle.core_machine.specs.seat.AccessMoves.{name_move, loaded_head_of, reply_entries}
use Rattle.core_rule.proofs.steps.Assemble.{StepKeeps, seat_fits}
use Rattle.core_rule.proofs.lists.Options.{holds_of_some}
use Rattle.core_rule.proofs.roots.CallRoots.{IsReachedNow, roots_hold_at_call, roots_hold_when_over}
use Rattle.core_rule.proofs.roots.RegisterRoots.{heads_hold_after_put}
use Rattle.core_rule.proofs.ways.KeptWords.{name_tells_id}
use Rattle.core_rule.proofs.steps.Loads.{went, seat_in_cycle_after_load, keeps_rule_by_silent_load, keeps_rule_by_forgetting_load}
use Rattle.core_rule.proofs.graph.Numbering.{id_at_own_number}
use Rattle.core_rule.proofs.graph.ObjectReplies.{target_within_registers}
use Rattle.core_rule.proofs.graph.PutRegister.{holds_value_after_set}
use Rattle.core_rule.proofs.steps.StepKinds.{StepKind, only_loads, shows_none, looks_follow_blind_step, looks_go_at_end, on_words_of_plain_step}

-- loading the name keeps the rule
pub name_keeps : StepKeeps (points.Access Naming) (λ heap. name_move)
name_keeps heap state book number rule here point machine =
    let seat : Seat = seat_at state number in
    let g : Graph = graph_of heap book.history in
    let d : ℕ = target_of seat.command in
    let at_name : ℕ = loaded_head_of seat in
    let found : ℕ = at heap state.words (Word at_name 1) in
    let stands = rule.seats_stand number here in
    let heap_stands = rule.heap_stands in
    let fits : SeatIsAtGet seat × IsSome (head_of seat.loaded) = rw point at (seat_fits rule number here).way_at_point in
    let gets = fits.0 in
    let awaits : IsAwaitingName g book.made book.owner book.fragments number seat stands.told.list.awaited = rw point at stands.told.list.awaits in
    let id : Id = awaits.id in
    let before : Registers g book.made book.owner book.fragments number seat.registers (points.Access Naming) d = rw point at stands.names.registers in
    let head : at_name ≡ object_head book.made book.fragments id = ap (λ (o : Option ℕ). unwrap_or o 0) awaits.loads in
    let name : id_of found ≡ id
    = ap (λ f. id_of (at heap state.words (Word f 1))) head
    ∙ name_tells_id heap state.words g book.made book.owner book.fragments rule.machine.limits heap_stands.control_words heap_stands.ids heap_stands.objects (object_number book.made id) awaits.kept.0 awaits.kept.1
    ∙ id_at_own_number book.made id awaits.kept.0 in
    let holds : HoldsValue book.made book.owner book.fragments (registers.Object at_name (id_of found)) (register_value g number d)
    = subst (λ x. HoldsValue book.made book.owner book.fragments (registers.Object at_name x) (register_value g number d)) (sym name) (awaits.held, awaits.kept, head) in
    let within : d < length seat.registers = omega (arith, (seat_fits rule number here).own.registers_whole, target_within_registers seat.command gets.1 gets.0.in_range) in
    let added : List Entry = reply_entries number seat (Got (values.Object (id_of found)) (stamp_of seat.loaded)) in
    let told : stands.told.list.awaited ≡ added = awaits.told ∙ ap (λ x. reply_entries number seat (Got (values.Object x) (stamp_of seat.loaded))) (sym name) in
    keeps_rule_by_forgetting_load heap state book number (Word at_name 1) (slice_set seat.registers d (registers.Object at_name (id_of found))) (slice_set seat.seen d (stamp_of seat.loaded)) added [] (rw point at (seat_fits rule number here).at_point) (rw point at (seat_fits rule number here).answer_at_point) (λ machine.
    keeps_rule_by_silent_load heap state book number rule here (Word at_name 1) (slice_set seat.registers d (registers.Object at_name (id_of found))) (slice_set seat.seen d (stamp_of seat.loaded)) 0 0 0 no_spot 0 points.Idle (forgotten seat.looks) added machine (rw point tt) tt (rw point refl)
    (λ r unawaited. holds_value_after_set book.made book.owner book.fragments g number d seat.registers (registers.Object at_name (id_of found)) within holds before r)
    (record {
      awaited = [];
      own = append-nil (seat.mine ++ added) ∙ ap (λ (x : List Entry). seat.mine ++ x) (sym told) ∙ stands.told.list.own;
      awaits = refl;
    })
    tt tt
    (record { earlier = stands.told.began.earlier; unanswered = λ busy. absurd (busy tt) })
    (seat_in_cycle_after_load heap state book number rule here (Word at_name 1) (slice_set seat.registers d (registers.Object at_name (id_of found))) (slice_set seat.seen d (stamp_of seat.loaded)) 0 0 0 no_spot 0 points.Idle (forgotten seat.looks) added machine tt)
    (λ marks roots. roots_hold_when_over (IsReachedNow heap state book) (went seat (slice_set seat.registers d (registers.Object at_name (id_of found))) (slice_set seat.seen d (stamp_of seat.loaded)) 0 0 0 no_spot 0 points.Idle (forgotten seat.looks) added) tt
    (heads_hold_after_put (IsReachedNow heap state book) seat.registers d (registers.Object at_name (id_of found)) within
    (subst (IsReachedNow heap state book) (sym head) (holds_of_some (IsReachedNow heap state book) (head_of seat.loaded) (object_head book.made book.fragments id) awaits.loads (roots_hold_at_call (IsReachedNow heap state book) seat Naming point roots)))
    roots.registers))) machine

-- all that is asked of it
pub step_kind_of_naming : StepKind (points.Access Naming)
step_kind_of_naming = record {
  keeps = λ heap state book number rule here looks. name_keeps heap state book number rule here;
  shows = λ heap state number. shows_none;
  looks = record {
    follows = λ heap state number seat compares point_is. looks_follow_blind_step heap state _ _ _ tt refl refl;
    goes = λ heap state book rule number point_is. looks_go_at_end heap number book.history (seat_at state number) _ [] refl refl (λ r apart. refl);
    comes = λ heap number seat found point_is. tt;
  };
  words = on_words_of_plain_step (points.Access Naming) (λ heap. name_move) (λ heap number seat. refl) (λ heap number seat is. is) (λ heap number seat low. low)
      (λ heap state book rule number here. only_loads (λ word. refl));
  found = λ heap state book number stands here point_is. tt;
}
