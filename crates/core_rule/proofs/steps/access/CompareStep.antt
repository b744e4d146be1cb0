-- The compare and swap keeps the rule: where the words are the same it puts its value into the field as a set does, and else it changes nothing.
use Rattle.std.specs.Prelude.{if◌then◌else◌, slice_set}
use Rattle.std.proofs.Common.{◌≡◌, ◌≢◌, ℕ, ◌==◌, ◌^◌, ◌<◌, Bool, true, false, [], ◌∷◌, length, Some, inl, inr, refl, sym, ap, ◌∙◌, subst, arith}
use Rattle.std.proofs.lemmas.Bool.{eq-eqb}
use Rattle.std.proofs.lemmas.Bool.Decides.{eqb_tells}
use Rattle.std.proofs.lemmas.List.{length-map}
use Rattle.heap_model.specs.declared.graph.cell.Cell.{Cell}
use Rattle.heap_model.specs.graph.Objects.{register_cell}
use Rattle.heap_model.proofs.graph_changes.GraphRegisters.{has_sixteen_registers}
use Rattle.heap_model.proofs.graph_changes.PutRegister.{only_registers_of_itself}
use Rattle.core_rule.proofs.Terms.{Entry, Said, Heap, graph_of, graph_seat, phase, State, Book, Rule, IsMachine, Graph, Word, Replacing, IsAnswered}
use Rattle.core_rule.proofs.Terms.{expected_of, register_value, register_in, register_head, seen_in, side_register_of, IsMarked, IsBetween, ShadedStands, WhileAccess, at, put, stamp_of}
use Rattle.core_rule.proofs.Terms.{pointer_in, seat_at, Seat, no_spot, with_entries, object_head, HoldsValue, SeenStands, NamesKept, node_at, value_word, Finds}
use Rattle.heap_model.specs.declared.reply.Reply.TheVariants as replies
use Rattle.core_machine.specs.declared.point.Point.TheVariants as points
use Rattle.core_machine.specs.declared.point.Side.TheVariants.{Expected}
use Rattle.core_machine.specs.seat.Access.{after_replace}
use Rattle.core_machine.specs.seat.AccessMoves.{replace_move, old_word_of, new_word_of, replaced_reply, reply_entries}
use Rattle.core_machine.specs.seat.FitsAccess.{SeatIsAtCas}
use Rattle.core_machine.specs.seat.Looks.{forgotten}
use Rattle.core_rule.proofs.steps.Assemble.{Keeps, StepKeeps, seat_fits}
use Rattle.core_rule.proofs.steps.WriteStep.{finds_cell, field_registers_hold, own_stamps_stand, keeps_rule_by_write}
use Rattle.core_rule.proofs.steps.Loads.{went, seat_in_cycle_after_load, keeps_rule_by_telling_load, keeps_rule_by_forgetting_load}
use Rattle.core_rule.proofs.entries.AtRest.{in_flight_has_not_left, spent_within_taken, taken_is_few_unspent}
use Rattle.core_rule.proofs.entries.OwnEntries.{own_entries_grow}
use Rattle.core_rule.proofs.entries.PhaseEntries.{reply_is_no_leave}
use Rattle.core_rule.proofs.entries.SeatLists.{own_list_after_entry}
use Rattle.core_rule.proofs.graph.CompareReplies.{expected_within_registers, cas_numbered, cas_is_write, cas_is_no_leave, says_was, accepts_now, graph_same_after_now, keeps_space_of_now}
use Rattle.core_rule.proofs.graph.FoundCells.{FindsCell}
use Rattle.core_rule.proofs.graph.SeenStamps.{seen_is_graphs, seen_is_small}
use Rattle.core_rule.proofs.objects.CellWords.{register_word_is_value_word, register_names_kept}
use Rattle.core_rule.proofs.ways.AtObject.{answer_is_near_phase}
use Rattle.core_rule.proofs.ways.KeptWords.{named_value_has_room}
use Rattle.core_rule.proofs.ways.SameCells.{same_cell_of_same_word}
use Rattle.core_rule.proofs.colours.SourceCases.{word_pointer_of_lead}
use Rattle.core_rule.proofs.cycle.Barriers.{making_is_between_barriers}
use Rattle.core_rule.proofs.cycle.FieldFrames.{field_tells_no_spine}
use Rattle.core_rule.proofs.cycle.SwapCycle.{Writes, register_word_leads}
use Rattle.core_rule.proofs.lists.Options.{holds_of_some}
use Rattle.core_rule.proofs.marking.Marks.{roots_hold_off_way}
use Rattle.core_rule.proofs.roots.CallRoots.{IsReachedNow}
use Rattle.core_rule.proofs.steps.StepKinds.{StepKind, SeatShows, beside, shows_plain, on_looks_of_reply, on_words_of_plain_step}

module _ (heap : Heap) (state : State) (book : Book) (number : ℕ) (rule : Rule heap state book) (here : number < heap.seats) (point : (seat_at state number).point ≡ points.Access Replacing) where
  abbrev seat : Seat
  seat = seat_at state number

  abbrev old : ℕ
  old = old_word_of seat

  abbrev found : ℕ
  found = at heap state.words (Word seat.reached seat.part)

  abbrev g : Graph
  g = graph_of heap book.history

  -- the cell that the register was read with
  abbrev expected : Cell
  expected = register_cell g number (expected_of seat.command)

  fits : SeatIsAtCas seat
  fits = rw point at (seat_fits rule number here).way_at_point

  finds : Finds (node_at g book.made) book.made book.owner book.fragments seat
  finds = rw point at (rule.seats_stand number here).names.way

  present : (graph_seat g number).left ≡ false
  present = (rule.seats_stand number here).told.counts.leaves ∙ in_flight_has_not_left rule number here (λ idle. absurd (cc (point, idle)))

  holds : (r : ℕ) → HoldsValue book.made book.owner book.fragments (register_in seat.registers r) (register_value g number r)
  holds = field_registers_hold heap state book number rule here Replacing point (λ answered. answered) (λ d r awaited. awaited) finds fits.2.arrived

  cell_found : FindsCell g book.made book.owner book.fragments number seat.command found
  cell_found = finds_cell heap state book number rule here Replacing point (λ answered. answered) (λ d r awaited. awaited) finds fits.2.arrived

  stamps : SeenStands g number seat.seen
  stamps = own_stamps_stand heap state book number rule here Replacing point (λ answered. answered) (λ d r awaited. awaited) finds fits.2.arrived

  -- its stamp has 32 bits, it names what is kept, and its word is the expected one
  sixteen : length (graph_seat g number).registers ≡ 16
  sixteen = has_sixteen_registers heap book.history number present

  seen_is : seen_in seat.seen (expected_of seat.command) ≡ expected.stamp
  seen_is = seen_is_graphs g number seat.seen stamps (expected_of seat.command) (omega (arith, sixteen, expected_within_registers seat.command fits.1 fits.0.in_range))

  stamp_small : expected.stamp < 2 ^ 32
  stamp_small =
      let long : length seat.seen ≡ 16 = ap length stamps.stamps ∙ length-map (graph_seat g number).registers (λ (c : Cell). c.stamp) ∙ sixteen in
      subst (λ s. s < 2 ^ 32) seen_is (seen_is_small g number seat.seen stamps (expected_of seat.command) (omega (arith, long, expected_within_registers seat.command fits.1 fits.0.in_range)))

  names : NamesKept book.made book.owner book.fragments expected.value
  names = register_names_kept book.made book.owner book.fragments (side_register_of seat Expected) expected.value (holds (expected_of seat.command))

  old_is : old ≡ value_word (object_head book.made book.fragments) expected.value expected.stamp
  old_is = register_word_is_value_word book.made book.owner book.fragments (side_register_of seat Expected) expected.value (seen_in seat.seen (expected_of seat.command)) (holds (expected_of seat.command))
      ∙ ap (value_word (object_head book.made book.fragments) expected.value) seen_is

  -- the words are the same exactly where the cells are
  same_cell : found ≡ old → cell_found.cell ≡ expected
  same_cell same =
      same_cell_of_same_word book.made book.owner book.fragments cell_found.cell expected cell_found.names names
      (named_value_has_room heap state.words g book.made book.owner book.fragments rule.machine.limits rule.heap_stands.control_words cell_found.cell.value cell_found.names)
      (named_value_has_room heap state.words g book.made book.owner book.fragments rule.machine.limits rule.heap_stands.control_words expected.value names)
      cell_found.small stamp_small (sym cell_found.is_word ∙ same ∙ old_is)

  other_cell : found ≢ old → cell_found.cell ≢ expected
  other_cell other same = other (cell_found.is_word ∙ ap (λ (c : Cell). value_word (object_head book.made book.fragments) c.value c.stamp) same ∙ sym old_is)

  -- where they are the same it may put its value into the field: what that leads to was shaded
  writes : found ≡ old → Writes heap state book number
  writes same =
      let p : ℕ = phase book.history in
      let flight = (rule.seats_stand number here).cycle.flight in
      let told : state.collector.phase ≡ p = rule.collector_stands.phase_told in
      let near = answer_is_near_phase heap state book number rule here Replacing point in
      let shaded : IsBetween 1 5 p → ShadedStands book.colour seat Replacing = subst (λ y. IsBetween 1 5 p → WhileAccess (ShadedStands book.colour seat) y) point flight.shaded in
      record {
        part_small = fits.2.part_within;
        no_spine = field_tells_no_spine heap state book rule number finds;
        new_marked = λ making. (shaded (record { from = omega (arith, making.from); upto = making.upto }) (making_is_between_barriers p seat.answered near making)).1;
        taken_marked = λ third x leads.
            let making : IsBetween 2 5 p = record { from = omega (arith, told, third); upto = omega (arith, told, third) } in
            let to : pointer_in seat.part old ≡ Some x = ap (pointer_in seat.part) (sym same) ∙ word_pointer_of_lead heap state.words seat.reached seat.part x fits.2.part_within leads in
            let of = register_word_leads heap state book rule seat.part (side_register_of seat Expected) expected.value expected.stamp old (holds (expected_of seat.command)) names stamp_small old_is in
            holds_of_some (IsMarked book.colour) (register_head (side_register_of seat Expected)) x (sym of ∙ to)
            (shaded (record { from = omega (arith, making.from); upto = making.upto }) (making_is_between_barriers p seat.answered near making)).0;
      }

  -- the state after it, by whether the words were the same
  abbrev state_then : Bool → State
  state_then same = record state {
    words = put heap state.words (Word seat.reached seat.part) (if same then new_word_of number seat else found);
    seats = slice_set state.seats number (with_entries (after_replace seat same) (reply_entries number seat (replaced_reply found same)));
  }

  abbrev KeepsThen : Bool → Type 0
  KeepsThen same = IsMachine heap (state_then same) → Keeps heap state (state_then same) book book.begun (reply_entries number seat (replaced_reply found same))

  swaps : found ≡ old → KeepsThen true
  swaps same =
      keeps_rule_by_write heap state book number rule here Replacing point (λ answered. answered) (λ d r awaited. awaited) finds fits.2.arrived fits.0
      (cas_numbered seat.command fits.1 seat.made seat.sets fits.0.numbered) (cas_is_write seat.command fits.1 g number (stamp_of found))
      (λ finds_it few. says_was seat.command fits.1 g book.made book.owner book.fragments number found cell_found (same_cell same) few) (writes same)

  stays : found ≢ old → KeepsThen false
  stays other =
      let stands = rule.seats_stand number here in
      let rest = rw point at (seat_fits rule number here).at_point in
      let entry : Entry = Said number seat.command (replies.Now (stamp_of found)) in
      keeps_rule_by_forgetting_load heap state book number (Word seat.reached seat.part) seat.registers seat.seen (entry ∷ []) (entry ∷ []) rest (rw point at (seat_fits rule number here).answer_at_point) (λ machine.
      keeps_rule_by_telling_load heap state book number rule here (Word seat.reached seat.part) seat.registers seat.seen 0 0 0 no_spot 0 points.Idle (forgotten seat.looks) (entry ∷ []) machine
      seat.command (replies.Now (stamp_of found)) refl g (graph_same_after_now seat.command fits.1 g number (stamp_of found)) (only_registers_of_itself g number) (rw point tt) tt
      (accepts_now seat.command fits.1 g book.made book.owner book.fragments number found present fits.0.in_range cell_found (other_cell other))
      (keeps_space_of_now seat.command fits.1 heap book.history number (stamp_of found) (spent_within_taken heap state book number rule here rest) (taken_is_few_unspent heap state book number rule here rest))
      stamps (λ r unawaited. holds r)
      (own_list_after_entry g book.made book.owner book.fragments number seat book.history (subst IsAnswered point) stands.told.list g _ _ (entry ∷ []) [] (entry ∷ []) refl refl
      (own_entries_grow number book.history entry (eq-eqb number number refl)) refl)
      tt tt tt (reply_is_no_leave number number seat.command (replies.Now (stamp_of found)) (cas_is_no_leave seat.command fits.1))
      (seat_in_cycle_after_load heap state book number rule here (Word seat.reached seat.part) seat.registers seat.seen 0 0 0 no_spot 0 points.Idle (forgotten seat.looks) (entry ∷ []) machine tt)
      (λ marks. roots_hold_off_way (IsReachedNow heap state book) seat (went seat seat.registers seat.seen 0 0 0 no_spot 0 points.Idle (forgotten seat.looks) (entry ∷ [])) refl tt))

  either_keeps : KeepsThen (found == old)
  either_keeps = elim (eqb_tells found old) as (λ _. KeepsThen (found == old)) [
    | inl e ↦ subst KeepsThen (sym e.0) (swaps e.1)
    | inr e ↦ subst KeepsThen (sym e.0) (stays e.1)
  ]

-- the compare and swap keeps the rule
pub compare_keeps : StepKeeps (points.Access Replacing) (λ heap. replace_move)
compare_keeps heap state book number rule here point = either_keeps heap state book number rule here point

module _ (number : ℕ) (seat : Seat) (found : ℕ) where
  -- what it tells, and what the seat is then, whether the words were the same or not
  replaced_shows : (same : Bool) → SeatShows number seat (points.Access Replacing) (reply_entries number seat (replaced_reply found same))
  replaced_shows true = shows_plain number seat (points.Access Replacing) _ tt
  replaced_shows false = shows_plain number seat (points.Access Replacing) _ tt

  replaced_forgets : (same : Bool) → (after_replace seat same).looks ≡ forgotten seat.looks
  replaced_forgets true = refl
  replaced_forgets false = refl

  replaced_is_over : (same : Bool) → (after_replace seat same).point ≡ points.Idle
  replaced_is_over true = refl
  replaced_is_over false = refl

-- all that is asked of it
pub step_kind_of_replacing : StepKind (points.Access Replacing)
step_kind_of_replacing = record {
  keeps = λ heap state book number rule here looks. compare_keeps heap state book number rule here;
  shows = λ heap state number. let seat : Seat = seat_at state number in let found : ℕ = at heap state.words (Word seat.reached seat.part) in replaced_shows number seat found (found == old_word_of seat);
  looks = on_looks_of_reply (points.Access Replacing) (λ heap. replace_move) (λ seat found. replaced_reply found (found == old_word_of seat)) (λ heap number seat. refl) (λ heap number seat. tt)
      (λ heap number seat found. replaced_forgets number seat found (found == old_word_of seat)) (λ heap number seat found. replaced_is_over number seat found (found == old_word_of seat)) (λ heap number seat words found. refl);
  words = on_words_of_plain_step (points.Access Replacing) (λ heap. replace_move) (λ heap number seat. refl) (λ heap number seat is. is) (λ heap number seat low. low)
      (λ heap state book rule number here. beside (λ g below e. omega (arith, e, below)));
  found = λ heap state book number stands here point_is. tt;
}
