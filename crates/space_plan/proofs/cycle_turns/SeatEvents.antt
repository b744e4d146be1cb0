-- No event of a seat raises how many turns are left of a cycle.
use Rattle.std.specs.Int.{bit_at}
use Rattle.std.specs.Prelude.{IfSome, if◌then◌else◌, option_map}
use Rattle.std.proofs.Common.{◌≡◌, ℕ, ◌+◌, ◌*◌, ◌/◌, ◌<◌, ◌≤◌, Bool, true, false, Option, Some, None, refl, ap, ◌∙◌, subst, arith}
use Rattle.core_rule.proofs.Terms.{control_of, marked_at, Command, Heap, Point, Swapping, Replacing, move_at, due_step, refusal_step, is_last_birth, last_birth_move, birth_move, Move, Seat, State, seat_at}
use Rattle.core_rule.proofs.Terms.{state_after, state_after_due, Steps, Can, HasWord, address_of, Book, IsMarked, marked_bit, IsBorn, WhileAccess, spine_words_in, at, Word, row_of, field_of, Rule}
use Rattle.heap_model.specs.declared.command.Command.TheVariants as commands
use Rattle.core_machine.specs.declared.point.Access.{Access}
use Rattle.core_machine.specs.declared.point.Collecting.TheVariants as collectings
use Rattle.core_machine.specs.declared.point.Leaving.TheVariants as leavings
use Rattle.core_machine.specs.declared.point.Making.{Making}
use Rattle.core_machine.specs.declared.point.Making.TheVariants as makings
use Rattle.core_machine.specs.declared.point.Point.TheVariants as points
use Rattle.core_machine.specs.declared.point.Polling.TheVariants as pollings
use Rattle.core_machine.specs.declared.step.Step.{Step}
use Rattle.core_machine.specs.declared.step.Step.TheVariants as steps
use Rattle.core_machine.specs.seat.MakingMoves.{due_store}
use Rattle.core_machine.proofs.table_lemmas.Masks.{mask_is_small}
use Rattle.core_rule.specs.told.Reached.{ReachesOwn, IsFieldPlace}
use Rattle.core_rule.proofs.held.DueWords.{step_there}
use Rattle.core_rule.proofs.held.HeldWordLaws.{each_store_is_own}
use Rattle.core_rule.proofs.lists.GroupLists.{zero_where_not_positive}
use Rattle.core_rule.proofs.marking.ObjectEdges.{kept_tells_no_spine}
use Rattle.core_rule.proofs.runs.Runs.{stepping_seat_is_there}
use Rattle.core_rule.proofs.told.ReachedFields.{reaches_own}
use Rattle.space_plan.specs.cycle_turns.ToldWords.{told_words}
use Rattle.space_plan.specs.cycle_turns.CycleLeft.{cycle_left}
use Rattle.space_plan.proofs.cycle_turns.LosesNothing.{cycle_left_falls}
use Rattle.space_plan.proofs.cycle_turns.Sums.{set_where_some, where_set_of_none}
use Rattle.space_plan.proofs.cycle_turns.Writes.{Spares, step_loses_nothing}

module _ (heap : Heap) (state : State) (book : Book) (rule : Rule heap state book) where
  -- a fragment that tells spine words is marked by the book, and so born
  pub told_is_marked : (f : ℕ) → f < 16 * heap.groups → 1 ≤ told_words heap state.words f → IsMarked book.colour f
  told_is_marked f below some white =
      omega (arith, set_where_some (bit_at (control_of heap state.words f) (marked_at f)) (spine_words_in (at heap state.words (Word f 0))) some, rule.heap_stands.cycle.marks.marked f below, ap marked_bit white)

  untold_where_unborn : (f : ℕ) → f < 16 * heap.groups → ¬ IsBorn heap state.words f → told_words heap state.words f ≡ 0
  untold_where_unborn f below unborn =
      zero_where_not_positive (told_words heap state.words f) (λ some. unborn (rule.heap_stands.control_words.born f below ∙ rule.heap_stands.cycle.coloured.born f (told_is_marked f below some)))

  module _ (number : ℕ) (here : number < heap.seats) where
    abbrev seat : Seat
    seat = seat_at state number

    -- a step on a field meets a cell, no array's meta
    field_is_untold : IsFieldPlace heap book number seat → told_words heap state.words seat.reached ≡ 0
    field_is_untold reaches =
        where_set_of_none _ _ (kept_tells_no_spine heap state book rule seat.reached reaches.object reaches.row reaches.on.owned (λ kind.
        let row : reaches.row + 0 ≡ field_of seat.command / 4 + 1 = reaches.ahead ∙ ap (λ array. if array then field_of seat.command / 4 + 1 else row_of (field_of seat.command)) kind in
        omega (arith, row)))

    -- what holds of the step that is due at a point
    abbrev WhereDue : (Step → Type 0) → Point → Type 0
    WhereDue P point = IfSome (option_map (λ (m : Move). m.step) (move_at heap number seat point)) P

    abbrev DueSpares : Point → Type 0
    DueSpares point = WhereDue (Spares heap state.words) point

    refusal_spares : (command : Command) (n : ℕ) → Spares heap state.words (refusal_step command n)
    refusal_spares (commands.Array d cells) n = tt
    refusal_spares _ n = tt

    bearing_spares : (last : Bool) → Spares heap state.words (if last then last_birth_move number seat else birth_move seat).step
    bearing_spares true = tt
    bearing_spares false = tt

    -- a store goes to a fragment that isn't born
    store_spares : seat.point ≡ points.Making makings.Storing → WhereDue (λ step. HasWord heap (address_of step)) (points.Making makings.Storing) → DueSpares (points.Making makings.Storing)
    store_spares is there first =
        let due : due_step heap number seat ≡ Some (steps.Making (due_store number seat)) = ap (λ (p : Point). option_map (λ (m : Move). m.step) (move_at heap number seat p)) is in
        untold_where_unborn _ there.0 (each_store_is_own heap state book number _ _ _ rule here due).1

    making_spares : (making : Making) → seat.point ≡ points.Making making → WhereDue (λ step. HasWord heap (address_of step)) (points.Making making) → DueSpares (points.Making making)
    making_spares makings.GivingBack is there = mask_is_small _
    making_spares makings.Refusing is there = refusal_spares seat.command _
    making_spares makings.Storing is there = store_spares is there
    making_spares makings.Bearing is there = bearing_spares (is_last_birth seat)
    making_spares _ is there = tt

    access_spares : (access : Access) → seat.point ≡ points.Access access → DueSpares (points.Access access)
    access_spares Swapping is = λ first. field_is_untold (subst (WhileAccess (ReachesOwn heap book number seat)) is (reaches_own heap state book number rule here))
    access_spares Replacing is = λ first. field_is_untold (subst (WhileAccess (ReachesOwn heap book number seat)) is (reaches_own heap state book number rule here))
    access_spares _ is = tt

    due_spares : (point : Point) → seat.point ≡ point → WhereDue (λ step. HasWord heap (address_of step)) point → DueSpares point
    due_spares points.Idle is there = tt
    due_spares (points.Making making) is there = making_spares making is there
    due_spares points.Local is there = tt
    due_spares (points.Access access) is there = access_spares access is
    due_spares (points.Polling pollings.Asking) is there = tt
    due_spares (points.Polling pollings.Shading) is there = tt
    due_spares (points.Polling pollings.Answering) is there = tt
    due_spares (points.Collecting collectings.Looking) is there = tt
    due_spares (points.Collecting (collectings.Asking other)) is there = tt
    due_spares (points.Collecting (collectings.Comparing other phase)) is there = tt
    due_spares (points.Collecting (collectings.Noting reply)) is there = tt
    due_spares (points.Leaving leavings.Emptying) is there = mask_is_small _
    due_spares (points.Leaving leavings.Parting) is there = tt

    -- so its step leaves no more
    raises_nothing : (o : Option Move) → IfSome (option_map (λ (m : Move). m.step) o) (λ step. HasWord heap (address_of step)) → IfSome (option_map (λ (m : Move). m.step) o) (Spares heap state.words)
        → cycle_left heap (state_after_due heap state number o) ≤ cycle_left heap state
    raises_nothing None there spares = omega arith
    raises_nothing (Some move) there spares =
        cycle_left_falls heap state.words _ (step_loses_nothing heap state.words rule.machine.table move.step there spares) state.collector.phase state.collector.looked state.collector.stage rule.machine.collector_fit.at_stage

  pub seat_step_raises_nothing : (number : ℕ) → Can heap state (Steps number) → cycle_left heap (state_after heap state (Steps number)) ≤ cycle_left heap state
  seat_step_raises_nothing number can =
      let here : number < heap.seats = stepping_seat_is_there heap state book number rule can in
      let there = step_there heap state book rule number here in
      raises_nothing number here _ there (due_spares number here (seat_at state number).point refl there)
