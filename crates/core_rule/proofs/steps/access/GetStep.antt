-- Loading a field keeps the rule.
use Rattle.std.proofs.Common.{◌≡◌, ℕ, ◌^◌, ◌<◌, false, List, [], ◌∷◌, length, get_or, slice_get, slice_set, slice_index_or, Option, Some, None, refl, sym, ap, ◌∙◌, subst, arith}
use Rattle.std.proofs.lemmas.Bool.{eq-eqb}
use Rattle.std.proofs.lemmas.Option.{slice_get-get_or}
use Rattle.heap_model.specs.declared.graph.cell.Cell.{Cell}
use Rattle.core_rule.proofs.Terms.{Entry, Said, Heap, Id, Value, Reply, with_register, graph_of, Accepts, register_value, graph_seat, Graph, unset, Word, Getting, Register}
use Rattle.core_rule.proofs.Terms.{target_of, field_of, at, head_of, is_meta, stamp_of, id_of, plain_of, State, seat_at, after_get, value_of, register_head, Seat, no_spot}
use Rattle.core_rule.proofs.Terms.{with_entries, IsMachine, Book, id_at, object_number, object_head, IsAnswered, NamesKept, node_at, cells_at, value_word, HoldsValue, IsAwaited}
use Rattle.core_rule.proofs.Terms.{Rule, Finds}
use Rattle.heap_model.specs.declared.id.Value.TheVariants as values
use Rattle.heap_model.specs.declared.reply.Reply.TheVariants.{Got}
use Rattle.heap_model.specs.Command.{IsCommand}
use Rattle.core_machine.specs.seat.Looks.{forgotten}
use Rattle.core_machine.specs.declared.point.Point.TheVariants as points
use Rattle.core_machine.specs.declared.point.Access.TheVariants.{Naming}
use Rattle.core_machine.specs.declared.seat.register.Register.TheVariants as registers
use Rattle.core_machine.specs.seat.FitsAccess.{SeatIsAtGet, IsGet}
use Rattle.core_machine.specs.seat.AccessMoves.{get_move, got_adds, got_shows, reply_entries}
use Rattle.core_rule.proofs.entries.AtRest.{seat_fits, spent_within_taken, taken_is_few_unspent}
use Rattle.core_rule.specs.roots.Roots.{IsInMarking}
use Rattle.core_rule.proofs.steps.Assemble.{Keeps, StepKeeps}
use Rattle.core_rule.proofs.ways.AtObject.{seat_is_present, way_object_is_registers, way_seat_is_at_rest}
use Rattle.heap_model.proofs.graph_changes.GraphRegisters.{has_sixteen_registers}
use Rattle.core_rule.proofs.lists.Options.{if_some_of_the_one, if_some_of_none}
use Rattle.core_rule.proofs.roots.CallRoots.{IsReachedNow, roots_hold_at_call, roots_hold_on_way, roots_hold_when_over, field_target_is_reached}
use Rattle.core_rule.proofs.roots.RegisterRoots.{heads_hold_after_put}
use Rattle.core_rule.proofs.ways.KeptWords.{named_value_has_room, name_tells_id, way_word_is_cell}
use Rattle.core_rule.proofs.steps.Loads.{seat_in_cycle_after_load, went, loaded_state, keeps_rule_by_telling_load, keeps_rule_by_forgetting_load}
use Rattle.core_rule.proofs.graph.Numbering.{id_at_own_number}
use Rattle.core_rule.proofs.graph.ObjectReplies.{accepts_got, graph_after_got, keeps_space_of_got, target_within_registers}
use Rattle.core_rule.proofs.entries.OwnEntries.{own_entries_grow}
use Rattle.core_rule.proofs.entries.PhaseEntries.{reply_is_no_leave}
use Rattle.core_rule.proofs.graph.SeenStamps.{seen_after_put}
use Rattle.core_rule.proofs.graph.PutRegister.{holds_value_after_put}
use Rattle.heap_model.proofs.graph_changes.PutRegister.{put_changes_only_registers, put_register_holds_value, other_registers_stay_by_put}
use Rattle.core_rule.proofs.entries.SeatLists.{own_list_after_entry}
use Rattle.core_rule.proofs.ways.LoadedObjects.{field_word_is_not_fixed}
use Rattle.core_rule.proofs.ways.Told.{HasRoom, named_head, register_plain, stamp_in-value, head_in-value, plain_in-value}
use Rattle.core_rule.proofs.steps.StepKinds.{StepKind, only_loads, shows_get, looks_follow_get, looks_go_at_get, comes_from_usual, get_is_usual, on_words_of_plain_step}

module _ (heap : Heap) (state : State) (book : Book) (number : ℕ) (rule : Rule heap state book) (here : number < heap.seats)
    (point : (seat_at state number).point ≡ points.Access Getting)
    (a_get : IsGet (seat_at state number).command) (ranges : IsCommand (seat_at state number).command) where
  held : (r : ℕ) → HoldsValue book.made book.owner book.fragments (slice_index_or (seat_at state number).registers r registers.Nil) (register_value (graph_of heap book.history) number r)
  held r = (rule.seats_stand number here).names.registers r (subst (λ p. IsAwaited p (target_of (seat_at state number).command) r) point)

  present : (graph_seat (graph_of heap book.history) number).left ≡ false
  present = seat_is_present heap state book number rule here Getting point

  in_graph : target_of (seat_at state number).command < length (graph_seat (graph_of heap book.history) number).registers
  in_graph = omega (arith, has_sixteen_registers heap book.history number present, target_within_registers (seat_at state number).command a_get ranges)

  in_seat : target_of (seat_at state number).command < length (seat_at state number).registers
  in_seat = omega (arith, (seat_fits rule number here).own.registers_whole, target_within_registers (seat_at state number).command a_get ranges)

  -- a number or nil stands in the register
  filled_keeps : (new : Register) (stamp : ℕ) → stamp < 2 ^ 32 → register_head new ≡ None → HoldsValue book.made book.owner book.fragments new (value_of new)
      → Accepts (graph_of heap book.history) (Said number (seat_at state number).command (Got (value_of new) stamp))
      → IsMachine heap (loaded_state heap state number (Word (seat_at state number).reached (seat_at state number).part)
      (went (seat_at state number) (slice_set (seat_at state number).registers (target_of (seat_at state number).command) new) (slice_set (seat_at state number).seen (target_of (seat_at state number).command) stamp) 0 0 0 no_spot 0 points.Idle (forgotten (seat_at state number).looks) (reply_entries number (seat_at state number) (Got (value_of new) stamp))))
      → Keeps heap state (loaded_state heap state number (Word (seat_at state number).reached (seat_at state number).part)
      (went (seat_at state number) (slice_set (seat_at state number).registers (target_of (seat_at state number).command) new) (slice_set (seat_at state number).seen (target_of (seat_at state number).command) stamp) 0 0 0 no_spot 0 points.Idle (forgotten (seat_at state number).looks) (reply_entries number (seat_at state number) (Got (value_of new) stamp))))
      book book.begun (reply_entries number (seat_at state number) (Got (value_of new) stamp))
  filled_keeps new stamp small none holds accepts machine =
      let seat : Seat = seat_at state number in
      let g : Graph = graph_of heap book.history in
      let stands = rule.seats_stand number here in
      let reply : Reply = Got (value_of new) stamp in
      let entry : Entry = Said number seat.command reply in
      let cell : Cell = record { value = value_of new; stamp = stamp } in
      keeps_rule_by_telling_load heap state book number rule here (Word seat.reached seat.part) (slice_set seat.registers (target_of seat.command) new) (slice_set seat.seen (target_of seat.command) stamp) 0 0 0 no_spot 0 points.Idle (forgotten (seat_at state number).looks) (entry ∷ []) machine
      seat.command reply refl (with_register g number (target_of seat.command) cell) (graph_after_got g number (value_of new) stamp seat.command a_get)
      (put_changes_only_registers g number (target_of seat.command) cell present) (rw point tt) tt accepts
      (keeps_space_of_got heap false book.history number (spent_within_taken heap state book number rule here (way_seat_is_at_rest heap state book number rule here Getting point)) (taken_is_few_unspent heap state book number rule here (way_seat_is_at_rest heap state book number rule here Getting point)) (value_of new) stamp seat.command a_get)
      (seen_after_put g number seat.seen (rw point at stands.told.counts.seen) (target_of seat.command) cell present small)
      (λ r unawaited. holds_value_after_put book.made book.owner book.fragments g number (target_of seat.command) cell seat.registers new present in_seat in_graph holds (λ x apart. held x) r)
      (own_list_after_entry g book.made book.owner book.fragments number seat book.history (subst IsAnswered point) stands.told.list (with_register g number (target_of seat.command) cell) _ _ (entry ∷ []) [] (entry ∷ []) refl refl
      (own_entries_grow number book.history entry (eq-eqb number number refl)) refl)
      tt tt tt (reply_is_no_leave number number seat.command reply (λ leaves. subst IsGet leaves a_get))
      (seat_in_cycle_after_load heap state book number rule here (Word seat.reached seat.part) (slice_set seat.registers (target_of seat.command) new) (slice_set seat.seen (target_of seat.command) stamp) 0 0 0 no_spot 0 points.Idle (forgotten (seat_at state number).looks) (entry ∷ []) machine tt)
      (λ marks roots. roots_hold_when_over (IsReachedNow heap state book) (went seat (slice_set seat.registers (target_of seat.command) new) (slice_set seat.seen (target_of seat.command) stamp) 0 0 0 no_spot 0 points.Idle (forgotten (seat_at state number).looks) (entry ∷ [])) tt
      (heads_hold_after_put (IsReachedNow heap state book) seat.registers (target_of seat.command) new in_seat (if_some_of_none (IsReachedNow heap state book) (register_head new) none) roots.registers))

  -- a reference awaits its object's name, and the history has the reply
  pending_keeps : (found : ℕ) (id : Id) → NamesKept book.made book.owner book.fragments (values.Object id) → head_of found ≡ Some (object_head book.made book.fragments id)
      → (IsInMarking state.collector → IsReachedNow heap state book (seat_at state number).reached → IsReachedNow heap state book (object_head book.made book.fragments id))
      → Accepts (graph_of heap book.history) (Said number (seat_at state number).command (Got (values.Object id) (stamp_of found)))
      → IsMachine heap (loaded_state heap state number (Word (seat_at state number).reached (seat_at state number).part)
      (went (seat_at state number) (seat_at state number).registers (seat_at state number).seen (seat_at state number).reached (seat_at state number).links (seat_at state number).part (seat_at state number).address found (points.Access Naming) (seat_at state number).looks []))
      → Keeps heap state (loaded_state heap state number (Word (seat_at state number).reached (seat_at state number).part)
      (went (seat_at state number) (seat_at state number).registers (seat_at state number).seen (seat_at state number).reached (seat_at state number).links (seat_at state number).part (seat_at state number).address found (points.Access Naming) (seat_at state number).looks []))
      book book.begun (reply_entries number (seat_at state number) (Got (values.Object id) (stamp_of found)))
  pending_keeps found id kept loads comes accepts machine =
      let seat : Seat = seat_at state number in
      let g : Graph = graph_of heap book.history in
      let d : ℕ = target_of seat.command in
      let value : Value = values.Object id in
      let stands = rule.seats_stand number here in
      let reply : Reply = Got value (stamp_of found) in
      let entry : Entry = Said number seat.command reply in
      let cell : Cell = record { value = value; stamp = stamp_of found } in
      keeps_rule_by_telling_load heap state book number rule here (Word seat.reached seat.part) seat.registers seat.seen seat.reached seat.links seat.part seat.address found (points.Access Naming) (seat_at state number).looks [] machine
      seat.command reply refl (with_register g number d cell) (graph_after_got g number value (stamp_of found) seat.command a_get) (put_changes_only_registers g number d cell present) (rw point tt) tt accepts
      (keeps_space_of_got heap false book.history number (spent_within_taken heap state book number rule here (way_seat_is_at_rest heap state book number rule here Getting point)) (taken_is_few_unspent heap state book number rule here (way_seat_is_at_rest heap state book number rule here Getting point)) value (stamp_of found) seat.command a_get)
      (seen_after_put g number seat.seen (rw point at stands.told.counts.seen) d cell present (omega arith))
      (λ r unawaited. subst (λ x. HoldsValue book.made book.owner book.fragments (slice_index_or seat.registers r registers.Nil) x) (sym (other_registers_stay_by_put g number d cell present r unawaited)) (held r))
      (own_list_after_entry g book.made book.owner book.fragments number seat book.history (subst IsAnswered point) stands.told.list (with_register g number d cell) _ _ [] (entry ∷ []) (entry ∷ []) refl refl
      (own_entries_grow number book.history entry (eq-eqb number number refl))
      (record { id = id; kept = kept; loads = loads; held = put_register_holds_value g number d cell present in_graph; told = refl }))
      tt tt tt (reply_is_no_leave number number seat.command reply (λ leaves. subst IsGet leaves a_get))
      (seat_in_cycle_after_load heap state book number rule here (Word seat.reached seat.part) seat.registers seat.seen seat.reached seat.links seat.part seat.address found (points.Access Naming) (seat_at state number).looks [] machine tt)
      (λ marks roots. roots_hold_on_way (IsReachedNow heap state book) seat (went seat seat.registers seat.seen seat.reached seat.links seat.part seat.address found (points.Access Naming) (seat_at state number).looks []) Naming refl refl
      (if_some_of_the_one (IsReachedNow heap state book) (head_of found) (object_head book.made book.fragments id) loads (comes marks (roots_hold_at_call (IsReachedNow heap state book) seat Getting point roots))) roots)

-- loading a field keeps the rule
pub get_keeps : StepKeeps (points.Access Getting) get_move
get_keeps heap state book number rule here point machine =
    let seat : Seat = seat_at state number in
    let g : Graph = graph_of heap book.history in
    let words : List ℕ = state.words in
    let field : ℕ = field_of seat.command in
    let found : ℕ = at heap words (Word seat.reached seat.part) in
    let head = object_head book.made book.fragments in
    let stands = rule.seats_stand number here in
    let heap_stands = rule.heap_stands in
    let bits = heap_stands.control_words in
    let fits : SeatIsAtGet seat × (seat.loaded ≡ 0) = rw point at (seat_fits rule number here).way_at_point in
    let gets = fits.0 in
    let finds : Finds (node_at g book.made) book.made book.owner book.fragments seat = rw point at stands.names.way in
    let index : ℕ = finds.index in
    let way = finds.way in
    let cell : Cell = get_or (cells_at g book.made index) field unset in
    let there : slice_get (cells_at g book.made index) field ≡ Some cell = slice_get-get_or (cells_at g book.made index) field unset finds.field.within in
    let named = heap_stands.objects.named index field way.below way.kept cell there in
    let room : HasRoom head cell.value = named_value_has_room heap words g book.made book.owner book.fragments rule.machine.limits bits cell.value named.0 in
    let word : found ≡ value_word head cell.value cell.stamp
    = way_word_is_cell heap words g book.made book.owner book.fragments rule.machine.limits bits heap_stands.ids heap_stands.objects seat finds gets.2.arrived cell there in
    let plain_word : is_meta found ≡ false = field_word_is_not_fixed heap words g book.made book.owner book.fragments rule.machine.limits bits heap_stands.ids heap_stands.objects seat gets.2.arrived finds in
    let stamp : stamp_of found ≡ cell.stamp = ap stamp_of word ∙ stamp_in-value head cell.value cell.stamp room named.1 in
    let plain : plain_of found ≡ register_plain cell.value = ap plain_of word ∙ plain_in-value head cell.value cell.stamp room named.1 in
    let loads : head_of found ≡ named_head head cell.value = ap head_of word ∙ head_in-value head cell.value cell.stamp room named.1 in
    let accepted : Accepts g (Said number seat.command (Got cell.value (stamp_of found)))
    = subst (λ s. Accepts g (Said number seat.command (Got cell.value s))) (sym stamp)
    (accepts_got g number (id_at book.made index) seat.command gets.0.in_range (seat_is_present heap state book number rule here Getting point)
    (heap_stands.ids.in_graph index way.below) (way_object_is_registers heap state book number rule here Getting point (λ d r. subst (λ p. IsAwaited p d r) point) index finds.row way)
    gets.1 cell there) in
    let goal = λ (o : Option ℕ). IsMachine heap (loaded_state heap state number (Word seat.reached seat.part) (with_entries (after_get seat found o) (got_adds number seat found o)))
    → Keeps heap state (loaded_state heap state number (Word seat.reached seat.part) (with_entries (after_get seat found o) (got_adds number seat found o))) book book.begun (got_shows heap number seat words found o) in
    let filled = filled_keeps heap state book number rule here point gets.1 gets.0.in_range (plain_of found) (stamp_of found) (omega arith) in
    let told : List Entry = reply_entries number seat (Got (value_of (plain_of found)) (stamp_of found)) in
    let ends = keeps_rule_by_forgetting_load heap state book number (Word seat.reached seat.part) (slice_set seat.registers (target_of seat.command) (plain_of found)) (slice_set seat.seen (target_of seat.command) (stamp_of found)) told told
    (rw point at (seat_fits rule number here).at_point) (rw point at (seat_fits rule number here).answer_at_point) in
    let by_value : (value : Value) → cell.value ≡ value → goal (named_head head value) = λ value. elim value as (λ v. cell.value ≡ v → goal (named_head head v)) [
      | values.Nil ↦ λ e. let is : plain_of found ≡ registers.Nil = plain ∙ ap register_plain e in
          ends (filled (ap register_head is) (subst (λ x. HoldsValue book.made book.owner book.fragments x (value_of x)) (sym is) refl)
          (subst (λ v. Accepts g (Said number seat.command (Got v (stamp_of found)))) (e ∙ sym (ap value_of is)) accepted))
      | values.Number n ↦ λ e. let is : plain_of found ≡ registers.Number n = plain ∙ ap register_plain e in
          ends (filled (ap register_head is) (subst (λ x. HoldsValue book.made book.owner book.fragments x (value_of x)) (sym is) (refl, subst (NamesKept book.made book.owner book.fragments) e named.0))
          (subst (λ v. Accepts g (Said number seat.command (Got v (stamp_of found)))) (e ∙ sym (ap value_of is)) accepted))
      | values.Object id ↦ λ e machine.
          let kept : NamesKept book.made book.owner book.fragments (values.Object id) = subst (NamesKept book.made book.owner book.fragments) e named.0 in
          let name : id_of (at heap words (Word (head id) 1)) ≡ id
          = name_tells_id heap words g book.made book.owner book.fragments rule.machine.limits bits heap_stands.ids heap_stands.objects (object_number book.made id) kept.0 kept.1
          ∙ id_at_own_number book.made id kept.0 in
          subst (λ x. Keeps heap state (loaded_state heap state number (Word seat.reached seat.part) (with_entries (after_get seat found (Some (head id))) [])) book book.begun (reply_entries number seat (Got (values.Object x) (stamp_of found)))) (sym name)
          (pending_keeps heap state book number rule here point gets.1 gets.0.in_range found id kept (loads ∙ ap (named_head head) e)
          (λ marks comes. field_target_is_reached heap state book number rule here marks comes gets.2.part_within plain_word (head id) record { index = object_number book.made id; below = kept.0; kept = kept.1; is = refl } (loads ∙ ap (named_head head) e))
          (subst (λ v. Accepts g (Said number seat.command (Got v (stamp_of found)))) e accepted) machine)
    ] in
    subst goal (sym loads) (by_value cell.value refl) machine

-- all that is asked of it
pub step_kind_of_getting : StepKind (points.Access Getting)
step_kind_of_getting = record {
  keeps = λ heap state book number rule here looks. get_keeps heap state book number rule here;
  shows = λ heap state number.
      shows_get number (seat_at state number) (points.Access Getting) heap state.words (at heap state.words (Word (seat_at state number).reached (seat_at state number).part)) (head_of (at heap state.words (Word (seat_at state number).reached (seat_at state number).part)));
  looks = record {
    follows = λ heap state number seat compares point_is. looks_follow_get heap state number seat _ tt (at heap state.words (Word seat.reached seat.part)) (head_of (at heap state.words (Word seat.reached seat.part)));
    goes = λ heap state book rule number point_is. looks_go_at_get heap state book rule number (at heap state.words (Word (seat_at state number).reached (seat_at state number).part)) (head_of (at heap state.words (Word (seat_at state number).reached (seat_at state number).part))) _;
    comes = λ heap number seat found point_is. comes_from_usual _ (after_get seat found (head_of found)).point (get_is_usual seat found (head_of found));
  };
  words = on_words_of_plain_step (points.Access Getting) get_move (λ heap number seat. refl) (λ heap number seat is. is) (λ heap number seat low. low)
      (λ heap state book rule number here. only_loads (λ word. refl));
  found = λ heap state book number stands here point_is. tt;
}
