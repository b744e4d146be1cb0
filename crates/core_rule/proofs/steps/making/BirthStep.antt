-- A birth of some fragments of an object keeps the rule.
use Rattle.std.proofs.Common.{◌≡◌, ◌≢◌, ℕ, ◌<◌, Bool, false, List, [], drop, bit_or, refl, sym, ap, ◌∙◌, arith, subst, length}
use Rattle.std.proofs.lemmas.List.{append-nil}
use Rattle.core_rule.proofs.Terms.{Heap, graph_of, Node, phase, last_answer, has_left, Control, Bearing, target_of, inside_group, outside_group, mask_of, at, put, State, seat_at}
use Rattle.core_rule.proofs.Terms.{last_group_of, before_run, Move, birth_move, is_last_birth, birth_bits_of, Seat, Book, Colour, White, fragment_at, IsMarked, node_at, Owner}
use Rattle.core_rule.proofs.Terms.{Borne, born_bit, owner_after, IsBoards, Rule}
use Rattle.core_machine.specs.declared.point.Point.TheVariants as points
use Rattle.core_machine.specs.Moves.{plain_move, bears_black_of, seat_after}
use Rattle.core_machine.specs.declared.step.Step.TheVariants as steps
use Rattle.core_machine.specs.declared.step.MakingStep.TheVariants.{Birth}
use Rattle.core_rule.proofs.cycle.FieldFrames.{watched_is_born}
use Rattle.core_rule.proofs.frames.SeatFrames.{seat_told_same_without_entry, kept_stays_with_owners, address_at_stays, seat_stands_where_left_alone, registers_stay_with_owners}
use Rattle.heap_model.proofs.graph_changes.SameParties.{same_party_of_same_graph}
use Rattle.core_rule.proofs.marking.MakingMarks.{leaves_marking_when_borne, bears_black_while_marking, bears_white_when_answered}
use Rattle.core_rule.proofs.marking.Marks.{marks_go_on_off_way}
use Rattle.core_rule.proofs.budgets.BudgetFrames.{same_grants_twice, same_grants_recoloured, same_told_of_itself}
use Rattle.core_rule.proofs.budgets.SameBooks.{same_grants_with_owners, same_dead_after_handing}
use Rattle.core_rule.proofs.spines.OtherWords.{leaves_spines_after_control}
use Rattle.core_rule.proofs.spines.SpineFrames.{spines_stand_with_budget, same_shape_of_itself, spine_in_hand_goes_on, spines_left_of_itself, spine_is_stored_still, places_stay_where_same}
use Rattle.core_rule.proofs.steps.Assemble.{in_flight_has_not_left, keeps_rule_after_step, space_stands_after_step, MoveKeeps, seat_fits}
use Rattle.core_rule.proofs.colours.Births.{birth_colour, are_borne_as_seat_bears, born_colours_from_are_borne}
use Rattle.core_rule.proofs.colours.BirthColours.{painted_cases}
use Rattle.core_rule.proofs.cycle.BirthCycle.{words_born, colours_born, born_group_within_heap, born_body_is_some, marked_stays_when_born, heap_in_cycle_after_birth, hand_run_is_inside_last_group, before_run_is_outside_last_group}
use Rattle.core_rule.proofs.book.BirthsGo.{painted_colours_go_on}
use Rattle.core_rule.proofs.book.OwnersGo.{owners_go_on_by_birth}
use Rattle.core_rule.proofs.hand.Bodies.{in_hand_ignores_hand}
use Rattle.core_rule.proofs.hand.ClaimOrder.{together_after_birth}
use Rattle.core_rule.proofs.words.ControlSteps.{bits_after_birth}
use Rattle.core_rule.proofs.counts.CountMoves.{used_after_birth, free_bit_same_after_birth}
use Rattle.core_rule.proofs.gather.GatherMoves.{gathers_right_where_same_free}
use Rattle.core_rule.proofs.owners.Handed.{handed_gains_bit, dead_was_dead_before_handing}
use Rattle.core_rule.proofs.hand.HandMoves.{hand_fragment_is_taken, hand_has_each_once, inside_group_fragment_is_taken, inside_group_has_each_once, holding_after_birth, same_hand_after_others_birth, hand_within_heap}
use Rattle.core_rule.proofs.cycle.MakingCycle.{answer_same_after_control, seat_in_cycle_after_control, are_borne_after_birth, other_borne_keeps_colour}
use Rattle.core_rule.proofs.objects.ObjectFrames.{borne_is_not_kept, taken_is_not_kept, objects_after_control, objects_with_same_kept, same_kept_after_taken_handed}
use Rattle.core_rule.proofs.entries.OwnEntries.{counts_agree_without_entry}
use Rattle.core_rule.proofs.owners.OwnerFrames.{owners_stand_after_handing}
use Rattle.core_rule.proofs.entries.SeatLists.{making_list_is_all_told, own_list_of_making}
use Rattle.core_rule.proofs.hand.StoredFrames.{is_stored_after_control}
use Rattle.core_rule.proofs.cycle.Unwatched.{seat_in_cycle_apart}
use Rattle.core_rule.proofs.dying.DeadWords.{dead_stay_after_control}

-- a step that bears these fragments of the hand, and leaves the rest
abbrev birth_of : Seat → List ℕ → List ℕ → Move
birth_of seat group_hand rest = plain_move (steps.Making (Birth (last_group_of seat.hand) (mask_of group_hand) (bears_black_of seat))) (λ found. record seat { hand = rest }) (λ found. [])

-- what the hand has of its last group, and the rest of it
abbrev inside_last_group : Seat → List ℕ
inside_last_group seat = inside_group (last_group_of seat.hand) seat.hand

abbrev group_rest : Seat → List ℕ
group_rest seat = outside_group (last_group_of seat.hand) seat.hand

-- a birth of what the hand has of its last group keeps the rule
group_birth_keeps : (heap : Heap) (state : State) (book : Book) (number : ℕ) → Rule heap state book → number < heap.seats
    → (seat_at state number).point ≡ points.Making Bearing
    → MoveKeeps heap state book number (birth_of (seat_at state number) (inside_last_group (seat_at state number)) (group_rest (seat_at state number)))
group_birth_keeps heap state book number rule here point machine =
    let seat : Seat = seat_at state number in
    let born : Seat = seat_after (birth_of seat (inside_last_group seat) (group_rest seat)) 0 in
    let stands = rule.seats_stand number here in
    let heap_stands = rule.heap_stands in
    let g : ℕ = last_group_of seat.hand in
    let group_hand : List ℕ = inside_group g seat.hand in
    let found : ℕ = at heap state.words (Control g) in
    let word : ℕ = bit_or found (birth_bits_of (bears_black_of seat) (mask_of group_hand)) in
    let owner : ℕ → Owner = owner_after (Borne number) book.owner group_hand in
    let below = born_group_within_heap heap state book number rule here point in
    let some = born_body_is_some heap state book number rule here point in
    let held = inside_group_fragment_is_taken book.owner number seat.reserve seat.hand seat.body stands.own.holding g in
    let once = inside_group_has_each_once book.owner number seat.reserve seat.hand seat.body stands.own.holding g in
    let inside = hand_within_heap heap state.words book.owner heap_stands.control_words number group_hand held in
    let kept = same_kept_after_taken_handed book.owner number group_hand (Borne number) (borne_is_not_kept number) held in
    let frees = free_bit_same_after_birth heap book.owner book.history number group_hand once inside heap_stands.used held in
    let black : Bool = bears_black_of seat in
    let nodes : ℕ → Node = node_at (graph_of heap book.history) book.made in
    let leaves = leaves_spines_after_control heap state.words word g below in
    let words : List ℕ = words_born heap state book number rule here point in
    let colour : ℕ → Colour = colours_born heap state book number rule here point in
    let marks = marked_stays_when_born heap state book number rule here point in
    keeps_rule_after_step heap state book number words born (record book { owner = owner; colour = colour }) []
    rule here machine (sym (append-nil book.history)) refl
    record {
      control_words = bits_after_birth heap state.words book.owner g rule.machine.table below heap_stands.control_words seat.hand number
          (hand_has_each_once book.owner number seat.reserve seat.hand seat.body stands.own.holding) (hand_fragment_is_taken book.owner number seat.reserve seat.hand seat.body stands.own.holding) (bears_black_of seat);
      owners = owners_stand_after_handing heap.seats book.owner heap_stands.owners (Borne number) group_hand here (λ there. subst IsBoards (held 0 there) heap_stands.owners.board);
      ids = heap_stands.ids;
      objects = objects_with_same_kept book.owner owner kept book.made book.fragments book.spines heap (put heap state.words (Control g) word) (graph_of heap book.history)
          (objects_after_control heap state.words (graph_of heap book.history) book.made book.owner book.fragments book.spines g word below heap_stands.objects);
      used = used_after_birth heap book.owner book.history number group_hand once inside heap_stands.used held;
      legal = heap_stands.legal;
      spines = spines_stand_with_budget heap state.words words leaves heap.seats (length book.made) book.spines book.fragments book.spine_owner nodes nodes book.owner owner kept (same_shape_of_itself nodes)
          (dead_stay_after_control heap state.words book.owner owner g word below (dead_was_dead_before_handing (Borne number) book.owner group_hand (λ i k e. cc))) heap_stands.spines;
      cycle = heap_in_cycle_after_birth heap state book number rule here point owner book.fragments (handed_gains_bit born_bit (Borne number) book.owner group_hand once refl (λ f there. ap born_bit (held f there)))
          (λ marking f i k keeps. painted_cases (λ c. c ≢ White → IsMarked colour (fragment_at (book.fragments i) 0)) (birth_colour black) book.colour group_hand f
          (λ there marked. absurd (taken_is_not_kept number i k (sym (held f there) ∙ kept.was f i k keeps)))
          (λ away marked. marks _ (heap_stands.cycle.coloured.first marking f i k (kept.was f i k keeps) marked)));
    }
    record {
      own = record {
        holding = holding_after_birth book.owner number seat.reserve seat.hand seat.body stands.own.holding g some;
        stored = is_stored_after_control heap state.words number seat g word below stands.own.stored;
        spine = spine_in_hand_goes_on heap state.words words book.spine_owner number seat born leaves record { has = λ has. has; had = λ has. has; need = refl; spine = refl; listed = refl; body = refl } stands.own.spine;
        together = together_after_birth heap seat.cursor seat.tried seat.hand seat.body (seat_fits rule number here).hand.hand_within some stands.own.together;
      };
      names = record {
        registers = registers_stay_with_owners book.owner owner kept book.made book.fragments (graph_of heap book.history) number seat.registers seat.point (target_of seat.command) stands.names.registers;
        way = rw point tt;
        address = rw point tt;
      };
      told = record {
        list = own_list_of_making (graph_of heap book.history) book.history book.made owner book.fragments number born Bearing point
            (append-nil seat.mine ∙ making_list_is_all_told (graph_of heap book.history) book.history book.made book.owner book.fragments number seat Bearing point stands.told.list);
        counts = counts_agree_without_entry (graph_of heap book.history) book.history number seat born refl refl (rw point refl) refl
            (rw (in_hand_ignores_hand (outside_group g seat.hand) seat.hand seat.body some) refl) stands.told.counts;
        began = stands.told.began;
        used = rw point tt;
        gathers = gathers_right_where_same_free heap book.owner owner number (drop (book.begun number) book.history) seat.cursor seat.tried seat.given frees stands.told.gathers;
      };
      cycle = seat_in_cycle_apart heap state.words words book.owner owner book.colour colour (phase book.history) (last_answer number book.history) (has_left number book.history) number
          seat born record { answered = refl; left = refl; asked = refl } (rw point tt)
          (answer_same_after_control heap state.words word g number (omega (arith, here, rule.machine.limits.seats_fit)))
          (born_colours_from_are_borne owner colour number seat (are_borne_after_birth book.owner book.colour group_hand number black (are_borne_as_seat_bears book.owner book.colour number seat stands.cycle.births))) stands.cycle;
    }
    (λ r under apart other. seat_stands_where_left_alone heap state.words words book (record book { owner = owner; colour = colour }) r (seat_at state r) record {
      calls = refl;
      party = same_party_of_same_graph (graph_of heap book.history) (graph_of heap book.history) r refl;
      told = seat_told_same_without_entry r book.history;
      kept = kept_stays_with_owners (graph_of heap book.history) book.made book.owner owner book.fragments kept;
      address = address_at_stays heap state.words words book (record book { owner = owner; colour = colour }) (seat_at state r)
          (kept_stays_with_owners (graph_of heap book.history) book.made book.owner owner book.fragments kept)
          (places_stay_where_same heap state.words words (length book.made) book.spines book.spine_owner leaves.spines) other.names.way other.names.address;
      hand = same_hand_after_others_birth book.owner r number group_hand apart held;
      stored = is_stored_after_control heap state.words r (seat_at state r) g word below other.own.stored;
      spines = spines_left_of_itself r book.spine_owner;
      spine_stored = spine_is_stored_still heap state.words words (seat_at state r) leaves other.own.spine.stored;
      gathers = gathers_right_where_same_free heap book.owner owner r (drop (book.begun r) book.history) (seat_at state r).cursor (seat_at state r).tried (seat_at state r).given frees other.told.gathers;
      cycle = seat_in_cycle_after_control heap state.words book.owner owner book.colour colour (phase book.history) (last_answer r book.history) (has_left r book.history) r (seat_at state r) g word below
          (omega (arith, under, rule.machine.limits.seats_fit)) marks (other_borne_keeps_colour book.owner book.colour group_hand number black r apart) (watched_is_born heap state book rule r under) other.cycle;
    } other)
    (marks_go_on_off_way heap state book rule number here words (record book { owner = owner; colour = colour }) born
    (leaves_marking_when_borne heap state book rule g word below (Borne number) group_hand (λ f there. ap born_bit (held f there)) (λ i k e. cc) black
    (bears_black_while_marking heap state book rule number here (in_flight_has_not_left rule number here (λ idle. absurd (cc (point, idle)))))
    (bears_white_when_answered heap state book rule number here (in_flight_has_not_left rule number here (λ idle. absurd (cc (point, idle)))))) refl refl (rw point tt))
    (space_stands_after_step heap state book number rule here words born (record book { owner = owner; colour = colour }) leaves
    record { granted = refl; placed = λ half. refl; refused = refl; range = record { had = λ has. has; spine = λ has. refl; answered = λ has. refl } }
    (same_grants_twice heap book (record book { owner = owner }) (record book { owner = owner; colour = colour })
    (same_grants_with_owners heap book book.history owner (same_told_of_itself book.history) kept (same_dead_after_handing (Borne number) book.owner group_hand (λ i k e. cc) (λ f i k there is. absurd (cc (held f there, is)))) (same_shape_of_itself nodes))
    (same_grants_recoloured heap (record book { owner = owner }) colour book.begun)) marks)
    record {
      made = λ i less. refl;
      owners = owners_go_on_by_birth (length book.made) book.owner group_hand number held;
      marked = painted_colours_go_on heap state book owner (birth_colour black) group_hand number held (λ f i k keeps less. kept.was f i k keeps);
    }

-- so does one of its last fragments, which are all of these
pub birth_keeps_rule : (heap : Heap) (state : State) (book : Book) (number : ℕ) → Rule heap state book → number < heap.seats
    → (seat_at state number).point ≡ points.Making Bearing → is_last_birth (seat_at state number) ≡ false → MoveKeeps heap state book number (birth_move (seat_at state number))
birth_keeps_rule heap state book number rule here point more =
    let seat : Seat = seat_at state number in
    subst (λ fs. MoveKeeps heap state book number (birth_of seat fs (before_run seat.hand))) (sym (hand_run_is_inside_last_group heap state book number rule here point))
    (subst (λ fs. MoveKeeps heap state book number (birth_of seat (inside_last_group seat) fs)) (sym (before_run_is_outside_last_group heap state book number rule here point))
    (group_birth_keeps heap state book number rule here point))
