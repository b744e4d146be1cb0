-- Putting a register's value into a field keeps the rule, where the reply tells the stamp before.
use Rattle.std.proofs.Common.{◌≡◌, ℕ, ◌+◌, ◌^◌, ◌<◌, false, List, [], ◌∷◌, get_or, slice_get, slice_set, Some, refl, sym, ap, ◌∙◌, subst, arith}
use Rattle.std.proofs.lemmas.Option.{slice_get-get_or}
use Rattle.heap_model.specs.declared.graph.cell.Cell.{Cell}
use Rattle.core_rule.proofs.Terms.{Entry, Heap, Id, Value, count_set, set_stamp, write, graph_of, after_reply, graph_seat, register_value}
use Rattle.core_rule.proofs.Terms.{node, phase, last_answer, has_left, Graph, Node, unset, Word, object_of, source_of, State, IsMachine, Book, Rule, IsAnswered, IsAwaited}
use Rattle.core_rule.proofs.Terms.{field_of, target_of, IsAtRest, IsSilent, at, put, InTable, stamp_of, seat_at, register_in, Seat, with_entries, fragment_at, SeenStands}
use Rattle.core_rule.proofs.Terms.{id_at, object_head, AreMade, NamesKept, Objects, node_at, value_word, HoldsValue, Finds, row_in, field_part}
use Rattle.heap_model.specs.declared.entry.Entry.TheVariants as entries
use Rattle.heap_model.specs.declared.id.Value.TheVariants as values
use Rattle.heap_model.specs.declared.reply.Reply.TheVariants as replies
use Rattle.heap_model.specs.graph.Replies.{Says}
use Rattle.core_machine.specs.declared.table.address.Address.{Address}
use Rattle.core_machine.specs.declared.point.Access.{Access}
use Rattle.core_machine.specs.declared.point.Point.TheVariants as points
use Rattle.core_machine.specs.seat.Access.{after_swap}
use Rattle.core_machine.specs.seat.AccessMoves.{new_word_of}
use Rattle.core_machine.specs.seat.FitsAccess.{WorksOnObject}
use Rattle.core_rule.proofs.steps.Assemble.{Keeps, seat_fits}
use Rattle.core_rule.proofs.entries.AtRest.{in_flight_has_not_left, spent_within_taken, taken_is_few_unspent}
use Rattle.heap_model.proofs.graph_changes.CellSet.{Sets, write_sets_cell}
use Rattle.core_rule.proofs.objects.CellWords.{stamp_of_value_word, register_word_is_value_word, register_names_kept}
use Rattle.core_rule.proofs.cycle.CycleHistory.{seat_in_cycle_after_own}
use Rattle.core_rule.proofs.entries.Legality.{legal_after_entry, keeps_space_of_plain_said}
use Rattle.core_rule.proofs.ways.KeptWords.{way_stands_at_field, way_word_is_cell}
use Rattle.core_rule.proofs.graph.FoundCells.{IsWrite, FindsCell}
use Rattle.core_rule.proofs.graph.SameNodes.{made_has_node}
use Rattle.core_rule.proofs.graph.SeenStamps.{busy_is_unnamed, stamps_are_own, seen_of_same_registers}
use Rattle.core_rule.proofs.objects.ObjectsSet.{are_made_after_set, same_shapes_after_set, objects_after_set, same_unkept_after_set}
use Rattle.core_rule.proofs.entries.PhaseEntries.{reply_is_no_leave}
use Rattle.core_rule.proofs.steps.ReplyStep.{keeps_in_cycle_when_idle}
use Rattle.core_rule.proofs.entries.SeatLists.{busy_list_is_all_told}
use Rattle.core_rule.proofs.hand.StoredFrames.{SameUnkept}
use Rattle.core_rule.proofs.frames.SeatFrames.{with_entry}
use Rattle.core_rule.proofs.marking.Marks.{marks_go_on_off_way}
use Rattle.core_rule.proofs.marking.SwapMarks.{leaves_marking_when_swapped}
use Rattle.core_rule.proofs.cycle.SwapCycle.{Writes, heap_in_cycle_after_swap, answer_same_after_swap, leaves_cycle_after_swap}
use Rattle.core_rule.proofs.cycle.Unwatched.{seat_in_cycle_apart}

module _ (heap : Heap) (state : State) (book : Book) (number : ℕ) (rule : Rule heap state book) (here : number < heap.seats)
    (from : Access) (point : (seat_at state number).point ≡ points.Access from)
    (unanswered : ¬ IsAnswered (points.Access from)) (unnamed : (d r : ℕ) → ¬ IsAwaited (points.Access from) d r)
    (finds : Finds (node_at (graph_of heap book.history) book.made) book.made book.owner book.fragments (seat_at state number)) (arrived : (seat_at state number).links ≡ 0) where
  abbrev seat : Seat
  seat = seat_at state number

  abbrev found : ℕ
  found = at heap state.words (Word seat.reached seat.part)

  abbrev g : Graph
  g = graph_of heap book.history

  pub field_registers_hold : (r : ℕ) → HoldsValue book.made book.owner book.fragments (register_in seat.registers r) (register_value g number r)
  field_registers_hold r = (rule.seats_stand number here).names.registers r (λ awaited. unnamed (target_of seat.command) r (subst (λ x. IsAwaited x (target_of seat.command) r) point awaited))

  object_refers : register_value g number (object_of seat.command) ≡ values.Object (id_at book.made finds.index)
  object_refers = (subst (λ h. HoldsValue book.made book.owner book.fragments h (register_value g number (object_of seat.command))) finds.way.holds (field_registers_hold (object_of seat.command))).0

  -- the field has a cell
  pub finds_cell : FindsCell g book.made book.owner book.fragments number seat.command found
  finds_cell =
      let stands = rule.heap_stands in
      let object : Node = node_at g book.made finds.index in
      let cell : Cell = get_or object.cells (field_of seat.command) unset in
      let has : slice_get object.cells (field_of seat.command) ≡ Some cell = slice_get-get_or object.cells (field_of seat.command) unset finds.field.within in
      let named = stands.objects.named finds.index (field_of seat.command) finds.way.below finds.way.kept cell has in
      let is_word = way_word_is_cell heap state.words g book.made book.owner book.fragments rule.machine.limits stands.control_words stands.ids stands.objects seat finds arrived cell has in
      record {
        id = id_at book.made finds.index;
        object = object;
        cell = cell;
        refers = object_refers;
        there = made_has_node (node g (id_at book.made finds.index)) (stands.ids.in_graph finds.index finds.way.below);
        has = has;
        names = named.0;
        small = named.1;
        is_word = is_word;
        stamp_is = ap stamp_of is_word ∙ stamp_of_value_word (object_head book.made book.fragments) cell.value cell.stamp named.1;
      }

  seat_is_busy : ¬ IsAnswered seat.point
  seat_is_busy answered = unanswered (subst IsAnswered point answered)

  pub own_stamps_stand : SeenStands g number seat.seen
  own_stamps_stand = subst (SeenStands g number) (stamps_are_own seat seat.point (busy_is_unnamed seat.point seat_is_busy)) (rule.seats_stand number here).told.counts.seen

  -- the seat after it
  abbrev pub seat_written : Seat
  seat_written = with_entries (after_swap seat) (entries.Said number seat.command (replies.Was (stamp_of found)) ∷ [])

  abbrev pub words_written : List ℕ
  words_written = put heap state.words (Word seat.reached seat.part) (new_word_of number seat)

  pub keeps_rule_by_write : WorksOnObject seat → seat.sets + 1 < 2 ^ 63 → IsWrite g number seat.command (stamp_of found) → (FindsCell g book.made book.owner book.fragments number seat.command found → (graph_seat g number).sets + 1 < 2 ^ 63 → Says g number seat.command (replies.Was (stamp_of found)))
      → Writes heap state book number → IsMachine heap (record state { words = words_written; seats = slice_set state.seats number seat_written })
      → Keeps heap state (record state { words = words_written; seats = slice_set state.seats number seat_written }) book book.begun (entries.Said number seat.command (replies.Was (stamp_of found)) ∷ [])
  keeps_rule_by_write works numbered is_write says writes machine =
      let stands = rule.seats_stand number here in
      let rest : IsAtRest seat = rw point at (seat_fits rule number here).at_point in
      let silent : IsSilent seat = rw point at (seat_fits rule number here).answer_at_point in
      let present : (graph_seat g number).left ≡ false = stands.told.counts.leaves ∙ in_flight_has_not_left rule number here (λ idle. absurd (cc (point, idle))) in
      let n : ℕ = finds.index in
      let i : ℕ = field_of seat.command in
      let id : Id = id_at book.made n in
      let object : Node = node_at g book.made n in
      let objects = rule.heap_stands.objects in
      let ids : AreMade g book.made = rule.heap_stands.ids in
      let there : node g id ≡ Some object = made_has_node (node g id) (ids.in_graph n finds.way.below) in
      let field : Address = Word (fragment_at (book.fragments n) (row_in object i)) (field_part object i) in
      let at_field : Word seat.reached seat.part ≡ field
      = way_stands_at_field heap state.words g book.made book.owner book.fragments rule.machine.limits rule.heap_stands.control_words ids objects seat finds arrived in
      let word : ℕ = new_word_of number seat in
      let stamp : ℕ = stamp_of found in
      let said : Entry = entries.Said number seat.command (replies.Was stamp) in
      let cell : Cell = record { value = register_value g number (source_of seat.command); stamp = set_stamp number ((graph_seat g number).sets + 1) } in
      let now : Graph = after_reply g number seat.command (replies.Was stamp) in
      let grown : now ≡ write (count_set g number) (values.Object id) i cell = is_write.grown ∙ ap (λ (x : Value). write (count_set g number) x i cell) object_refers in
      let sets : Sets g now number id i cell = subst (λ (x : Graph). Sets g x number id i cell) (sym grown) (write_sets_cell g number id i cell object present there) in
      let few : (graph_seat g number).sets + 1 < 2 ^ 63 = omega (arith, numbered, stands.told.counts.stamped) in
      let is_word : word ≡ value_word (object_head book.made book.fragments) cell.value cell.stamp
      = register_word_is_value_word book.made book.owner book.fragments (register_in seat.registers (source_of seat.command)) cell.value (set_stamp number (seat.sets + 1)) (field_registers_hold (source_of seat.command))
      ∙ ap (λ s. value_word (object_head book.made book.fragments) cell.value (set_stamp number (s + 1))) stands.told.counts.stamped in
      let small : cell.stamp < 2 ^ 32 = omega (arith, few, here, rule.machine.limits.seats_fit) in
      let names : NamesKept book.made book.owner book.fragments cell.value × (cell.stamp < 2 ^ 32)
      = (register_names_kept book.made book.owner book.fragments (register_in seat.registers (source_of seat.command)) cell.value (field_registers_hold (source_of seat.command)), small) in
      let inside : InTable heap field = subst (InTable heap) at_field ((seat_fits rule number here).way.reached_within, writes.part_small) in
      keeps_in_cycle_when_idle heap state book number words_written seat_written seat.command (replies.Was stamp) rule here machine
      refl (rw point tt) rest (busy_list_is_all_told g book.made book.owner book.fragments number seat book.history seat_is_busy stands.told.list)
      (legal_after_entry heap false book.history said rule.heap_stands.legal (present, works.in_range, says finds_cell few)
      (keeps_space_of_plain_said heap false book.history number seat.command (replies.Was stamp) refl tt tt (is_write.shows heap book.history)
      (spent_within_taken heap state book number rule here rest) (omega (arith, is_write.most, taken_is_few_unspent heap state book number rule here rest))))
      (subst (λ a. SameUnkept heap book.owner state.words (put heap state.words a word)) (sym at_field)
      (same_unkept_after_set heap state.words g now number book.made book.owner book.fragments book.spines n i cell word ids objects finds.way.below finds.way.kept sets finds.field.within inside.0))
      record {
        ids = are_made_after_set heap state.words g now number book.made book.owner book.fragments book.spines n i cell word ids objects finds.way.below finds.way.kept sets finds.field.within;
        objects = subst (λ a. Objects heap (put heap state.words a word) now book.made book.owner book.fragments book.spines) (sym at_field)
            (objects_after_set heap state.words g now number book.made book.owner book.fragments book.spines n i cell word ids objects finds.way.below finds.way.kept sets finds.field.within
            rule.machine.table inside.0 is_word names);
        shapes = same_shapes_after_set heap state.words g now number book.made book.owner book.fragments book.spines n i cell word ids objects finds.way.below finds.way.kept sets finds.field.within;
        others = sets.others;
      }
      record {
        idle = refl;
        reserve = refl;
        mine = refl;
        made = stands.told.counts.numbered ∙ sym sets.objects;
        sets = ap (λ s. s + 1) stands.told.counts.stamped ∙ sym sets.sets;
        left = sets.left ∙ stands.told.counts.leaves;
        seen = seen_of_same_registers g number seat.seen own_stamps_stand now sets.registers;
        registers = λ r. subst (λ (vs : List Cell). HoldsValue book.made book.owner book.fragments (register_in seat.registers r) (get_or vs r unset).value) (sym sets.registers) (field_registers_hold r);
      }
      (heap_in_cycle_after_swap heap state book number rule here writes cell.value cell.stamp (field_registers_hold (source_of seat.command)) names.0 small word is_word)
      (seat_in_cycle_after_own heap words_written book.owner book.colour book.history said refl number seat_written
      (seat_in_cycle_apart heap state.words words_written book.owner book.owner book.colour book.colour (phase book.history) (last_answer number book.history) (has_left number book.history)
      number seat seat_written record { answered = refl; left = refl; asked = sym silent.none_asked } tt
      (answer_same_after_swap heap state book number rule here writes cell.value cell.stamp (field_registers_hold (source_of seat.command)) names.0 small word is_word number here) stands.cycle.births stands.cycle)
      refl (reply_is_no_leave number number seat.command (replies.Was stamp) is_write.stays))
      (leaves_cycle_after_swap heap state book number rule here writes cell.value cell.stamp (field_registers_hold (source_of seat.command)) names.0 small word is_word)
      (marks_go_on_off_way heap state book rule number here words_written (with_entry book said) seat_written
      (leaves_marking_when_swapped heap state book number rule here writes cell.value cell.stamp (field_registers_hold (source_of seat.command)) names.0 small word is_word) refl refl tt)
