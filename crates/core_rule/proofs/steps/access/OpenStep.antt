-- Loading an object's length keeps the rule.
use Rattle.std.proofs.Common.{◌≡◌, ℕ, ◌+◌, ◌%◌, ◌<◌, ◌≤◌, ltb, false, [], ◌∷◌, length, Option, Some, None, refl, sym, ap, ◌∙◌, subst, arith}
use Rattle.std.specs.Prelude.{if◌then◌else◌}
use Rattle.std.proofs.lemmas.Bool.{cond_both, ltb-true, ltb-false, eq-eqb}
use Rattle.core_rule.proofs.Terms.{Command, Entry, Said, Heap, Id, Reply, KeepsSpace, graph_of, effect_of, no_effect, after_reply, Accepts, is_leave_of, Graph, Node, Word}
use Rattle.core_rule.proofs.Terms.{LoadingMeta, target_of, field_of, at, length_of, array_length_of, State, seat_at, row_of, part_of, meta_reply_of, after_meta, after_length, Seat}
use Rattle.core_rule.proofs.Terms.{no_spot, with_entries, IsMachine, Book, id_at, IsAnswered, node_at, cells_at, IsAwaited, Rule, SetsOut}
use Rattle.heap_model.specs.declared.command.Command.TheVariants as commands
use Rattle.heap_model.specs.declared.reply.Reply.TheVariants as replies
use Rattle.core_machine.specs.seat.Looks.{forgotten}
use Rattle.core_machine.specs.declared.point.Point.TheVariants as points
use Rattle.core_machine.specs.declared.point.Access.TheVariants.{LoadingSpot}
use Rattle.core_machine.specs.seat.FitsAccess.{NamesObject, NamesField, SeatIsAtHead}
use Rattle.core_machine.specs.seat.AccessMoves.{open_move, reply_entries, reply_entries_if}
use Rattle.core_rule.proofs.entries.AtRest.{seat_fits, spent_within_taken, taken_is_few_unspent}
use Rattle.core_rule.proofs.steps.Assemble.{Keeps, StepKeeps}
use Rattle.core_rule.proofs.ways.AtObject.{seat_is_present, way_object_is_registers, way_seat_is_at_rest}
use Rattle.core_rule.proofs.roots.CallRoots.{IsReachedNow, roots_hold_at_call}
use Rattle.core_rule.proofs.marking.Marks.{roots_hold_off_way}
use Rattle.core_rule.proofs.ways.KeptWords.{array_or_record_cases, meta_tells_length, meta_tells_array_length}
use Rattle.core_rule.proofs.steps.Loads.{seat_in_cycle_after_load, went, loaded_state, keeps_rule_by_telling_load, keeps_rule_by_forgetting_load}
use Rattle.core_rule.proofs.graph.ObjectReplies.{IsLen, accepts_length, accepts_no_field, graph_same_after_length, graph_same_after_no_field, keeps_space_of_length, keeps_space_of_no_field}
use Rattle.core_rule.proofs.steps.access.OnwardStep.{keeps_rule_by_onward_step}
use Rattle.core_rule.proofs.steps.access.WaySteps.{keeps_rule_by_way_load}
use Rattle.core_rule.proofs.entries.OwnEntries.{own_entries_grow}
use Rattle.core_rule.proofs.entries.PhaseEntries.{reply_is_no_leave}
use Rattle.heap_model.proofs.graph_changes.PutRegister.{only_registers_of_itself}
use Rattle.core_rule.proofs.entries.SeatLists.{own_list_after_entry}
use Rattle.core_rule.proofs.steps.StepKinds.{StepKind, only_loads, shows_reply_if, meta_reply_is_plain, looks_follow_meta, looks_go_at_meta, comes_from_usual, meta_is_usual, tells_at_meta, on_words_of_plain_step}

-- a meta answers a question for the length; a field goes on, or is none of the object's
meta_cases : (P : Option Reply → Type 0) (command : Command) (found : ℕ) → NamesObject command → (IsLen command → P (Some (replies.Length (length_of found))))
    → (NamesField command → field_of command < length_of found → P None) → (NamesField command → length_of found ≤ field_of command → P (Some replies.NoField))
    → P (meta_reply_of command found)
meta_cases P (commands.Len r) found is len more past = len tt
meta_cases P (commands.Get d r i) found is len more past =
    cond_both (ltb i (length_of found)) None (Some replies.NoField) P (λ e. more tt (ltb-true i (length_of found) e)) (λ e. past tt (ltb-false i (length_of found) e))
meta_cases P (commands.Set r i v) found is len more past =
    cond_both (ltb i (length_of found)) None (Some replies.NoField) P (λ e. more tt (ltb-true i (length_of found) e)) (λ e. past tt (ltb-false i (length_of found) e))
meta_cases P (commands.Cas r i a v) found is len more past =
    cond_both (ltb i (length_of found)) None (Some replies.NoField) P (λ e. more tt (ltb-true i (length_of found) e)) (λ e. past tt (ltb-false i (length_of found) e))
meta_cases P _ found is len more past = absurd is

module _ (heap : Heap) (state : State) (book : Book) (number : ℕ) (rule : Rule heap state book) (here : number < heap.seats)
    (point : (seat_at state number).point ≡ points.Access LoadingMeta) where
  -- the way stands at an object's first fragment
  set_out : SetsOut book.made book.owner book.fragments (seat_at state number)
  set_out = rw point at (rule.seats_stand number here).names.way

  -- a reply at the meta, which changes nothing of the graph
  met_keeps : (reply : Reply) → effect_of (Said number (seat_at state number).command reply) ≡ no_effect
      → after_reply (graph_of heap book.history) number (seat_at state number).command reply ≡ graph_of heap book.history
      → Accepts (graph_of heap book.history) (Said number (seat_at state number).command reply)
      → KeepsSpace heap false book.history (Said number (seat_at state number).command reply)
      → is_leave_of number (Said number (seat_at state number).command reply) ≡ false
      → IsMachine heap (loaded_state heap state number (Word (seat_at state number).reached 0)
      (went (seat_at state number) (seat_at state number).registers (seat_at state number).seen 0 0 0 no_spot 0 points.Idle (forgotten (seat_at state number).looks) (reply_entries number (seat_at state number) reply)))
      → Keeps heap state (loaded_state heap state number (Word (seat_at state number).reached 0)
      (went (seat_at state number) (seat_at state number).registers (seat_at state number).seen 0 0 0 no_spot 0 points.Idle (forgotten (seat_at state number).looks) (reply_entries number (seat_at state number) reply))) book book.begun (reply_entries number (seat_at state number) reply)
  met_keeps reply nothing stays accepts keeps stays_here machine =
      let seat : Seat = seat_at state number in
      let g : Graph = graph_of heap book.history in
      let stands = rule.seats_stand number here in
      let entry : Entry = Said number seat.command reply in
      keeps_rule_by_telling_load heap state book number rule here (Word seat.reached 0) seat.registers seat.seen 0 0 0 no_spot 0 points.Idle (forgotten (seat_at state number).looks) (entry ∷ []) machine seat.command reply nothing g stays (only_registers_of_itself g number)
      (rw point tt) tt
      accepts keeps (rw point at stands.told.counts.seen)
      (λ r unawaited. stands.names.registers r (subst (λ p. IsAwaited p (target_of seat.command) r) point))
      (own_list_after_entry g book.made book.owner book.fragments number seat book.history (subst IsAnswered point) stands.told.list g _ _ (entry ∷ []) [] (entry ∷ []) refl refl
      (own_entries_grow number book.history entry (eq-eqb number number refl)) refl)
      tt tt tt stays_here
      (seat_in_cycle_after_load heap state book number rule here (Word seat.reached 0) seat.registers seat.seen 0 0 0 no_spot 0 points.Idle (forgotten (seat_at state number).looks) (entry ∷ []) machine tt)
      (λ marks. roots_hold_off_way (IsReachedNow heap state book) seat (went seat seat.registers seat.seen 0 0 0 no_spot 0 points.Idle (forgotten (seat_at state number).looks) (entry ∷ [])) refl tt)

  -- the object has the field: the way of a record goes on by its links, and that of an array by its spine
  length_keeps : field_of (seat_at state number).command < length (cells_at (graph_of heap book.history) book.made set_out.index)
      → IsMachine heap (loaded_state heap state number (Word (seat_at state number).reached 0)
      (with_entries (after_length (seat_at state number) (at heap state.words (Word (seat_at state number).reached 0)) (array_length_of (at heap state.words (Word (seat_at state number).reached 0)))) []))
      → Keeps heap state (loaded_state heap state number (Word (seat_at state number).reached 0)
      (with_entries (after_length (seat_at state number) (at heap state.words (Word (seat_at state number).reached 0)) (array_length_of (at heap state.words (Word (seat_at state number).reached 0)))) [])) book book.begun []
  length_keeps within =
      let seat : Seat = seat_at state number in
      let g : Graph = graph_of heap book.history in
      let found : ℕ = at heap state.words (Word seat.reached 0) in
      let stands = rule.heap_stands in
      let opens : SeatIsAtHead seat = rw point at (seat_fits rule number here).way_at_point in
      let out = set_out in
      let index : ℕ = out.index in
      let way = out.way in
      let object : Node = node_at g book.made index in
      let reaches = roots_hold_at_call (IsReachedNow heap state book) seat LoadingMeta point in
      let cells : array_length_of found ≡ (if object.array then Some (length object.cells) else None)
      = ap (λ f. array_length_of (at heap state.words (Word f 0))) way.here
      ∙ meta_tells_array_length heap state.words g book.made book.owner book.fragments rule.machine.limits stands.control_words stands.ids stands.objects index way.below way.kept in
      let goes : Option ℕ → Type 0 = λ length. IsMachine heap (loaded_state heap state number (Word seat.reached 0) (with_entries (after_length seat found length) []))
      → Keeps heap state (loaded_state heap state number (Word seat.reached 0) (with_entries (after_length seat found length) [])) book book.begun [] in
      array_or_record_cases heap state.words g book.made book.owner book.fragments rule.machine.limits stands.control_words stands.ids stands.objects index way.below way.kept (goes (array_length_of found))
      (λ kind. let is : array_length_of found ≡ Some (length object.cells) = cells ∙ ap (λ b. if b then Some (length object.cells) else None) kind in subst goes (sym is)
      (keeps_rule_by_way_load heap state book number rule here LoadingMeta point (λ answered. answered) (λ d r awaited. awaited) (Word seat.reached 0) seat.reached 0 (field_of seat.command % 4) seat.address LoadingSpot refl
      record {
        index = index;
        way = record { below = way.below; kept = way.kept; holds = way.holds; here = way.here };
        an_array = kind;
        within = within;
        there = refl;
      }
      tt tt (λ marks roots. reaches roots)))
      (λ kind. let is : array_length_of found ≡ None = cells ∙ ap (λ b. if b then Some (length object.cells) else None) kind in subst goes (sym is)
      (keeps_rule_by_onward_step heap state book number rule here LoadingMeta point (λ answered. answered) (λ d r awaited. awaited)
      opens.none_loaded reaches (row_of (field_of seat.command)) (part_of (field_of seat.command)) record {
        index = index;
        row = 0;
        way = record { below = way.below; kept = way.kept; holds = way.holds; here = way.here };
        field = record { within = within; leads = (let row : 0 + row_of (field_of seat.command) ≡ row_of (field_of seat.command) = omega arith in row) ∙ rw kind refl; linked = λ array. absurd (cc (kind, array)); there = rw kind refl };
      } kind))

-- loading the length keeps the rule
pub open_keeps : StepKeeps (points.Access LoadingMeta) (λ heap. open_move)
open_keeps heap state book number rule here point machine =
    let seat : Seat = seat_at state number in
    let g : Graph = graph_of heap book.history in
    let found : ℕ = at heap state.words (Word seat.reached 0) in
    let opens : SeatIsAtHead seat = rw point at (seat_fits rule number here).way_at_point in
    let out = set_out heap state book number rule here point in
    let index : ℕ = out.index in
    let way = out.way in
    let id : Id = id_at book.made index in
    let size : length_of found ≡ length (cells_at g book.made index)
    = ap (λ f. length_of (at heap state.words (Word f 0))) way.here
    ∙ meta_tells_length heap state.words g book.made book.owner book.fragments rule.machine.limits rule.heap_stands.control_words rule.heap_stands.ids rule.heap_stands.objects index way.below way.kept in
    let present = seat_is_present heap state book number rule here LoadingMeta point in
    let made = rule.heap_stands.ids.in_graph index way.below in
    let held = way_object_is_registers heap state book number rule here LoadingMeta point (λ d r. subst (λ p. IsAwaited p d r) point) index 0 way in
    let enough = spent_within_taken heap state book number rule here (way_seat_is_at_rest heap state book number rule here LoadingMeta point) in
    let little = taken_is_few_unspent heap state book number rule here (way_seat_is_at_rest heap state book number rule here LoadingMeta point) in
    let leaves_none = λ (reply : Reply). reply_is_no_leave number number seat.command reply (λ leaves. subst NamesObject leaves opens.names) in
    let ends = λ (reply : Reply). keeps_rule_by_forgetting_load heap state book number (Word seat.reached 0) seat.registers seat.seen (reply_entries number seat reply) (reply_entries number seat reply) (rw point at (seat_fits rule number here).at_point) (rw point at (seat_fits rule number here).answer_at_point) in
    meta_cases (λ reply. IsMachine heap (loaded_state heap state number (Word seat.reached 0) (with_entries (after_meta seat found reply) (reply_entries_if number seat reply)))
    → Keeps heap state (loaded_state heap state number (Word seat.reached 0) (with_entries (after_meta seat found reply) (reply_entries_if number seat reply))) book book.begun (reply_entries_if number seat reply))
    seat.command found opens.names
    (λ len. ends (replies.Length (length_of found)) (met_keeps heap state book number rule here point (replies.Length (length_of found)) refl (graph_same_after_length g number (length_of found) seat.command len)
    (subst (λ n. Accepts g (Said number seat.command (replies.Length n))) (sym size) (accepts_length g number id seat.command opens.works.in_range present made held len))
    (keeps_space_of_length heap false book.history number enough little (length_of found) seat.command len) (leaves_none (replies.Length (length_of found)))))
    (λ field more. length_keeps heap state book number rule here point (omega (arith, more, size)))
    (λ field past. ends replies.NoField (met_keeps heap state book number rule here point replies.NoField refl (graph_same_after_no_field g number seat.command field)
    (accepts_no_field g number id seat.command opens.works.in_range present made held field (omega (arith, past, size)))
    (keeps_space_of_no_field heap false book.history number enough little seat.command field) (leaves_none replies.NoField)))
    machine

-- all that is asked of it
pub step_kind_of_loading_meta : StepKind (points.Access LoadingMeta)
step_kind_of_loading_meta = record {
  keeps = λ heap state book number rule here looks. open_keeps heap state book number rule here;
  shows = λ heap state number.
      shows_reply_if number (seat_at state number) (points.Access LoadingMeta) (meta_reply_of (seat_at state number).command (at heap state.words (Word (seat_at state number).reached 0))) (meta_reply_is_plain (seat_at state number).command (at heap state.words (Word (seat_at state number).reached 0)));
  looks = record {
    follows = λ heap state number seat compares point_is.
        looks_follow_meta heap state number seat _ tt (at heap state.words (Word seat.reached 0)) (meta_reply_of seat.command (at heap state.words (Word seat.reached 0)));
    goes = λ heap state book rule number point_is. looks_go_at_meta heap state book rule number (at heap state.words (Word (seat_at state number).reached 0)) (meta_reply_of (seat_at state number).command (at heap state.words (Word (seat_at state number).reached 0))) point_is _;
    comes = λ heap number seat found point_is.
        comes_from_usual _ (after_meta seat found (meta_reply_of seat.command found)).point (meta_is_usual seat found (meta_reply_of seat.command found));
  };
  words = on_words_of_plain_step (points.Access LoadingMeta) (λ heap. open_move) (λ heap number seat. refl) (λ heap number seat is. is) (λ heap number seat low. low)
      (λ heap state book rule number here. only_loads (λ word. refl));
  found = λ heap state book number stands here point_is. tells_at_meta heap state book number stands here (λ idle. cc (point_is, idle)) LoadingMeta point_is (λ e. e) (λ d r e. e);
}
