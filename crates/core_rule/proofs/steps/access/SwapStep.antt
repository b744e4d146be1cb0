-- The swap of a set keeps the rule.
use Rattle.std.proofs.Common.{◌≡◌, ℕ, ◌+◌, ◌^◌, ◌<◌, false, List, Option, None, Result, Ok, inl, inr, refl, sym, ap, ◌∙◌, subst, arith}
use Rattle.heap_model.specs.declared.graph.cell.Cell.{Cell}
use Rattle.core_rule.proofs.Terms.{Command, Heap, Value, Reply, Id, Owner, graph_of, graph_seat, State, Book, Rule}
use Rattle.core_rule.proofs.Terms.{target_node, cell_or_refusal, cell_at, or_no_field, phase, Graph, Node, Word, Swapping, IsMarked, IsBetween, DeletionBarrier, FieldStands, ShadedStands, WhileAccess}
use Rattle.core_rule.proofs.Terms.{at, stamp_of, seat_at, has_barrier_of, Seat, HasNumberLeft, node_at, Finds, OldKept}
use Rattle.heap_model.specs.declared.command.Command.TheVariants as commands
use Rattle.heap_model.specs.declared.reply.Reply.TheVariants as replies
use Rattle.heap_model.specs.graph.Replies.{Says}
use Rattle.heap_model.specs.graph.Replies as says
use Rattle.core_machine.specs.declared.point.Point.TheVariants as points
use Rattle.core_machine.specs.seat.FitsAccess.{IsSet, SeatIsAtSet as FitsSets}
use Rattle.core_machine.specs.seat.AccessMoves.{swap_move}
use Rattle.core_rule.proofs.steps.Assemble.{StepKeeps}
use Rattle.core_rule.proofs.graph.FoundCells.{IsWrite, FindsCell}
use Rattle.core_rule.proofs.steps.WriteStep.{keeps_rule_by_write}
use Rattle.core_rule.proofs.entries.AtRest.{seat_fits}
use Rattle.core_rule.proofs.ways.AtObject.{answer_is_near_phase}
use Rattle.core_rule.proofs.cycle.Barriers.{making_is_between_barriers}
use Rattle.core_rule.proofs.cycle.FieldFrames.{field_tells_no_spine}
use Rattle.core_rule.proofs.cycle.SwapCycle.{Writes}
use Rattle.core_rule.proofs.steps.StepKinds.{StepKind, beside, shows_plain, on_looks_of_reply, on_words_of_plain_step}

-- a command that sets a field is a `set`
set_only : (P : Command → Type 0) → ((r i v : ℕ) → P (commands.Set r i v)) → (command : Command) → IsSet command → P command
set_only P set (commands.Set r i v) is = set r i v
set_only P set _ is = absurd is

module _ (command : Command) (is : IsSet command) where
  -- it has a number left
  set_numbered : (made sets : ℕ) → HasNumberLeft made sets command → sets + 1 < 2 ^ 63
  set_numbered made sets = set_only (λ c. HasNumberLeft made sets c → sets + 1 < 2 ^ 63) (λ r i v numbered. numbered) command is

  -- it puts its register's value into its field, shows no phase, and its seat may keep fifteen fragments
  set_is_write : (g : Graph) (number stamp : ℕ) → IsWrite g number command stamp
  set_is_write g number stamp = set_only (λ c. IsWrite g number c stamp) (λ r i v. record { grown = refl; shows = λ heap history. tt; most = refl; stays = λ e. cc e }) command is

  -- the graph answers the stamp that the cell had
  set_says : (g : Graph) (made : List Id) (owner : ℕ → Owner) (fragments : ℕ → List ℕ) (number word : ℕ) → FindsCell g made owner fragments number command word → (graph_seat g number).sets + 1 < 2 ^ 63
      → Says g number command (replies.Was (stamp_of word))
  set_says g made owner fragments number word =
      set_only (λ c. FindsCell g made owner fragments number c word → (graph_seat g number).sets + 1 < 2 ^ 63 → Says g number c (replies.Was (stamp_of word)))
      (λ r i v finds few.
      let found : cell_at g number r i ≡ Ok finds.cell
      = ap (λ (x : Value). cell_or_refusal (target_node g x) i) finds.refers ∙ ap (λ (o : Option Node). cell_or_refusal o i) finds.there ∙ ap (λ (c : Option Cell). or_no_field c) finds.has in
      subst (λ (x : Result Cell Reply). says.Sets (graph_seat g number).sets x (replies.Was (stamp_of word))) (sym found) (ap replies.Was finds.stamp_is, few))
      command is

-- at its swap a set may put its value into the field
swap_writes : (heap : Heap) (state : State) (book : Book) (number : ℕ) (rule : Rule heap state book) → number < heap.seats → (seat_at state number).point ≡ points.Access Swapping → (seat_at state number).part < 4
    → Finds (node_at (graph_of heap book.history) book.made) book.made book.owner book.fragments (seat_at state number) → Writes heap state book number
swap_writes heap state book number rule here point small finds =
    let seat : Seat = seat_at state number in
    let p : ℕ = phase book.history in
    let flight = (rule.seats_stand number here).cycle.flight in
    let near = answer_is_near_phase heap state book number rule here Swapping point in
    let same : state.collector.phase ≡ p = rule.collector_stands.phase_told in
    record {
      part_small = small;
      no_spine = field_tells_no_spine heap state book rule number finds;
      new_marked = λ making.
          let shaded : ShadedStands book.colour seat Swapping = subst (λ y. WhileAccess (ShadedStands book.colour seat) y) point (flight.shaded (record { from = omega (arith, making.from); upto = making.upto })) in
          (shaded (making_is_between_barriers p seat.answered near making)).1;
      taken_marked = λ third g leads.
          let making : IsBetween 2 5 p = record { from = omega (arith, same, third); upto = omega (arith, same, third) } in
          let snapped : IsBetween 2 5 seat.answered = elim near as (λ _. IsBetween 2 5 seat.answered) [
            | inl now ↦ record { from = omega (arith, same, third, now); upto = omega (arith, same, third, now) }
            | inr before ↦ record { from = omega (arith, same, third, before); upto = omega (arith, same, third, before) }
          ] in
          let watched : DeletionBarrier heap state.words book.colour seat.reached seat.part None
          = subst (λ x. WhileAccess (FieldStands heap state.words book.colour seat) x) point (flight.set making snapped) in
          elim (watched g leads) as (λ _. IsMarked book.colour g) [ inl none ↦ cc | inr marked ↦ marked ];
    }

-- the swap keeps the rule
pub swap_keeps : StepKeeps (points.Access Swapping) (λ heap. swap_move)
swap_keeps heap state book number rule here point =
    let seat : Seat = seat_at state number in
    let g : Graph = graph_of heap book.history in
    let fits : FitsSets seat × (has_barrier_of seat ≡ false → seat.loaded ≡ 0) = rw point at (seat_fits rule number here).way_at_point in
    let way : Finds (node_at g book.made) book.made book.owner book.fragments seat × OldKept book.made book.owner book.fragments seat = rw point at (rule.seats_stand number here).names.way in
    let found : ℕ = at heap state.words (Word seat.reached seat.part) in
    keeps_rule_by_write heap state book number rule here Swapping point (λ answered. answered) (λ d r awaited. awaited) way.0 fits.0.2.arrived fits.0.0
    (set_numbered seat.command fits.0.1 seat.made seat.sets fits.0.0.numbered) (set_is_write seat.command fits.0.1 g number (stamp_of found))
    (set_says seat.command fits.0.1 g book.made book.owner book.fragments number found) (swap_writes heap state book number rule here point fits.0.2.part_within way.0)

-- all that is asked of it
pub step_kind_of_swapping : StepKind (points.Access Swapping)
step_kind_of_swapping = record {
  keeps = λ heap state book number rule here looks. swap_keeps heap state book number rule here;
  shows = λ heap state number. shows_plain number (seat_at state number) (points.Access Swapping) _ tt;
  looks = on_looks_of_reply (points.Access Swapping) (λ heap. swap_move) (λ seat found. replies.Was (stamp_of found)) (λ heap number seat. refl) (λ heap number seat. tt)
      (λ heap number seat found. refl) (λ heap number seat found. refl) (λ heap number seat words found. refl);
  words = on_words_of_plain_step (points.Access Swapping) (λ heap. swap_move) (λ heap number seat. refl) (λ heap number seat is. is) (λ heap number seat low. low)
      (λ heap state book rule number here. beside (λ g below e. omega (arith, e, below)));
  found = λ heap state book number stands here point_is. tt;
}
