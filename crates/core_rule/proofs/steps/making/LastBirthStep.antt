-- The last birth of an object keeps the rule.
use Rattle.std.proofs.Common.{eq-eqb, ◌≡◌, ℕ, ◌*◌, ◌<◌, ◌≤◌, Bool, List, [], ◌∷◌, length, drop, bit_or, refl, sym, ap, subst, arith, true}
use Rattle.core_rule.proofs.Terms.{Entry, Heap, Id, Made, add, graph_of, phase, last_answer, has_left, Graph, fresh, Control, Bearing, target_of, MakesObject, HasBody}
use Rattle.core_rule.proofs.Terms.{SpineIsListed, IsSilent, inside_group, mask_of, at, State, seat_at, last_group_of, next_object_id, after_last_birth, Move, last_birth_move}
use Rattle.core_rule.proofs.Terms.{made_entry, is_last_birth, birth_bits_of, Seat, spine_need, Book, AreMade, nodes_in, Rule, HasPlace}
use Rattle.core_machine.specs.declared.point.Point.TheVariants as points
use Rattle.core_machine.specs.Moves.{plain_move, bears_black_of, seat_after}
use Rattle.core_machine.specs.declared.step.Step.TheVariants as steps
use Rattle.core_machine.specs.declared.step.MakingStep.TheVariants.{LastBirth}
use Rattle.core_rule.proofs.objects.ObjectsGrowth.{old_spine_stays, NewBody, objects_after_growth}
use Rattle.core_rule.proofs.spines.SpineBirths.{gone_stays_at_birth, spine_in_hand_after_birth, spines_stand_after_birth, spines_left_after_birth}
use Rattle.core_rule.proofs.spines.SpineFrames.{PlacesStay, spine_is_stored_still}
use Rattle.core_rule.proofs.frames.SeatFrames.{KeptStays, address_at_stays, seat_told_same_after_other, seat_stands_where_left_alone}
use Rattle.heap_model.proofs.graph_changes.SameParties.{same_party_of_same_graph}
use Rattle.core_rule.proofs.graph.SeenStamps.{seen_after_add}
use Rattle.core_rule.proofs.steps.making.LastBirthSpace.{graph_is_grown, one_more_object_born, born_body_each_once, body_was_not_kept, born_body_is_new, made_is_one_longer, same_shapes_after_birth, new_spine_words_are_needed, space_stands_after_birth}
use Rattle.core_rule.proofs.cycle.FieldFrames.{watched_is_born}
use Rattle.core_rule.proofs.marking.LastBirthMarks.{book_born, marks_go_on_when_made}
use Rattle.core_rule.proofs.steps.Assemble.{making_seat_has_not_left, keeps_rule_after_step, MoveKeeps, seat_fits}
use Rattle.core_rule.proofs.colours.Births.{birth_colour, AreBorne, are_borne_as_seat_bears, born_colours_from_are_borne}
use Rattle.core_rule.proofs.cycle.BirthCycle.{words_born, born_group_within_heap, born_body_is_some, marked_stays_when_born, heap_in_cycle_after_birth, hand_run_is_inside_last_group}
use Rattle.core_rule.proofs.hand.Bodies.{body_is_own}
use Rattle.core_rule.proofs.counts.CountMoves.{used_where_same_taken}
use Rattle.core_rule.proofs.cycle.CycleHistory.{heap_in_cycle_after_entry, seat_in_cycle_after_own, seat_in_cycle_after_other}
use Rattle.core_rule.proofs.hand.EmptyHand.{together_where_empty}
use Rattle.core_rule.proofs.gather.GatherMoves.{gathers_right_untried, gathers_right_where_same_free}
use Rattle.heap_model.proofs.graph_changes.GraphGrowth.{other_party_stays_by_add}
use Rattle.heap_model.proofs.graph_changes.GraphRegisters.{has_sixteen_registers}
use Rattle.core_rule.proofs.graph.IdsGrowth.{OneMore, are_made_with_new, new_number_is_length}
use Rattle.core_rule.proofs.entries.InFlight.{making_awaits_none, began_idle_after_reply}
use Rattle.core_rule.proofs.book.BirthsGo.{painted_colours_go_on}
use Rattle.core_rule.proofs.book.OwnersGo.{owners_go_on_by_keeping}
use Rattle.core_rule.proofs.graph.Numbering.{id_stays_by_append}
use Rattle.core_rule.proofs.hand.HandMoves.{inside_group_fragment_is_taken}
use Rattle.core_rule.proofs.hand.MakingSeats.{needed_word_is_listed}
use Rattle.core_rule.proofs.owners.Keeping.{kept_by_others_was, body_fragment_is_kept_at_position, dead_was_dead_before_keeping}
use Rattle.core_rule.proofs.owners.KeptOwners.{free_bit_same_when_kept, taken_bit_same_when_kept, holding_reserve_when_kept, same_hand_when_kept, bits_when_kept}
use Rattle.core_rule.proofs.objects.LastBirth.{own_registers_hold_new}
use Rattle.core_rule.proofs.colours.LastColours.{born_bit_after_last_birth, own_borne_has_birth_colour, other_borne_stays, marked_object_has_marked_first}
use Rattle.core_rule.proofs.entries.MadeEntry.{used_after_made_entry, counts_agree_after_made, legal_after_made_entry}
use Rattle.core_rule.proofs.cycle.MakingCycle.{answer_same_after_control, seat_in_cycle_after_control}
use Rattle.core_rule.proofs.objects.NamesGrowth.{names_stay_after_growth, object_stays_after_growth, old_number_is_not_new}
use Rattle.core_rule.proofs.objects.ObjectFrames.{objects_after_control}
use Rattle.core_rule.proofs.entries.Others.{gathers_right_after_entry}
use Rattle.heap_model.proofs.graph_changes.OwnGraphs.{seat_is_not_other}
use Rattle.core_rule.proofs.entries.OwnEntries.{own_list_grows}
use Rattle.core_rule.proofs.owners.OwnerFrames.{owners_stand_after_keeping}
use Rattle.core_rule.proofs.owners.OwnerLemmas.{own_is_not_boards}
use Rattle.core_rule.proofs.entries.PhaseEntries.{reply_is_no_leave}
use Rattle.core_rule.proofs.entries.MakingCommands.{makes_array, size_made, made_command_in_range}
use Rattle.core_rule.proofs.entries.SeatLists.{making_list_is_all_told, own_list_where_all_told}
use Rattle.core_rule.proofs.spines.OtherWords.{leaves_spines_after_control}
use Rattle.core_rule.proofs.hand.StoredFrames.{is_stored_after_control}
use Rattle.core_rule.proofs.cycle.Unwatched.{seat_in_cycle_apart}
use Rattle.core_rule.proofs.dying.DeadWords.{dead_stay_after_control}

-- the step that bears these fragments of the hand, by which the object is made
abbrev last_birth_of : ℕ → Seat → List ℕ → Move
last_birth_of number seat group_hand =
    plain_move (steps.Making (LastBirth (last_group_of seat.hand) (mask_of group_hand) (bears_black_of seat))) (λ found. after_last_birth number seat) (λ found. made_entry number seat ∷ [])

-- the birth of what the hand has of its last group keeps the rule, where that is all
group_birth_keeps : (heap : Heap) (state : State) (book : Book) (number : ℕ) → Rule heap state book → number < heap.seats
    → (seat_at state number).point ≡ points.Making Bearing → is_last_birth (seat_at state number) ≡ true
    → MoveKeeps heap state book number (last_birth_of number (seat_at state number) (inside_group (last_group_of (seat_at state number).hand) (seat_at state number).hand))
group_birth_keeps heap state book number rule here point last machine =
    let seat : Seat = seat_at state number in
    let body : List ℕ = seat.body in
    let group : ℕ = last_group_of seat.hand in
    let group_hand : List ℕ = inside_group group seat.hand in
    let found : ℕ = at heap state.words (Control group) in
    let word : ℕ = bit_or found (birth_bits_of (bears_black_of seat) (mask_of group_hand)) in
    let words : List ℕ = words_born heap state book number rule here point in
    let entry : Entry = made_entry number seat in
    let id : Id = next_object_id number seat in
    let now : Book = book_born book number seat in
    let stands = rule.seats_stand number here in
    let present = making_seat_has_not_left heap state book number Bearing rule here point in
    let list = making_list_is_all_told (graph_of heap book.history) book.history book.made book.owner book.fragments number seat Bearing point stands.told.list in
    let at_point : HasBody seat × (0 < length seat.hand) × (length seat.hand ≤ length body) × (seat.stored ≡ 4 * length body) × SpineIsListed seat.command seat.spine seat.listed
    = rw point at (seat_fits rule number here).at_point in
    let has = at_point.0 in
    let silent : IsSilent seat = rw point at (seat_fits rule number here).answer_at_point in
    let below = born_group_within_heap heap state book number rule here point in
    let some = born_body_is_some heap state book number rule here point in
    let d : ℕ = target_of seat.command in
    let array : Bool = makes_array seat.command in
    let cells : ℕ = size_made seat.command in
    let ranges = made_command_in_range seat.command has.makes.an_object has.makes.in_range in
    let g : Graph = graph_of heap book.history in
    let grown : Graph = add g number d (fresh array cells) in
    let graph : graph_of heap now.history ≡ grown = graph_is_grown heap state book number rule here point in
    let ids : AreMade g book.made = rule.heap_stands.ids in
    let more : OneMore g grown id (fresh array cells) = one_more_object_born heap state book number rule here point in
    let once = born_body_each_once heap state book number rule here point in
    let unkept = body_was_not_kept heap state book number rule here point in
    let count : ℕ = length book.made in
    let new : NewBody heap state.words book.owner id array cells body seat.spine = born_body_is_new heap state book number rule here point in
    let has_place : 0 < spine_need seat → HasPlace seat seat.point
    = λ some_words. subst (HasPlace seat) (sym point) (needed_word_is_listed seat.command seat.spine seat.listed 0 has.makes.an_object at_point.4 some_words).0 in
    let leaves = leaves_spines_after_control heap state.words word group below in
    let kept_on : KeptStays g (graph_of heap now.history) book.made now.made book.owner now.owner book.fragments now.fragments = rw graph record {
      names = names_stay_after_growth book.made id book.owner book.fragments body unkept;
      objects = object_stays_after_growth g grown book.made id book.owner book.fragments (fresh array cells) body unkept ids more;
    } in
    let places : PlacesStay heap state.words words count book.spines now.spines book.spine_owner now.spine_owner = record {
      stay = λ i less. old_spine_stays book.spines count seat.spine i (λ e. omega (arith, e, less));
      gone = λ half offset is. gone_stays_at_birth number count (book.spine_owner half offset) is;
      as_were = λ half offset is. leaves.spines half offset;
    } in
    let after : Seat = seat_after (last_birth_of number seat group_hand) found in
    let black : Bool = bears_black_of seat in
    let births : AreBorne book.owner book.colour number black = are_borne_as_seat_bears book.owner book.colour number seat stands.cycle.births in
    let marks = marked_stays_when_born heap state book number rule here point in
    keeps_rule_after_step heap state book number words (seat_after (last_birth_move number seat) found) now (entry ∷ []) rule here machine refl refl
    record {
      control_words = bits_when_kept heap state.words book.owner number seat.reserve seat.hand body group (length book.made) (bears_black_of seat) rule.machine.table below
          rule.heap_stands.control_words stands.own.holding some last;
      owners = owners_stand_after_keeping heap.seats book.owner rule.heap_stands.owners (length book.made) body
          (λ there. own_is_not_boards number (book.owner 0) (body_is_own book.owner number seat.reserve seat.hand body stands.own.holding 0 there) rule.heap_stands.owners.board);
      ids = rw graph (are_made_with_new g grown book.made id (fresh array cells) ids more (omega (arith, here, rule.machine.limits.seats_fit), omega (arith, has.makes.numbered)));
      objects = rw graph (objects_after_control heap state.words grown now.made now.owner now.fragments now.spines group word below
          (objects_after_growth heap state.words g grown book.made id book.owner book.fragments book.spines array cells body seat.spine ids more new rule.heap_stands.objects));
      spines = rw (made_is_one_longer heap state book number rule here point) (spines_stand_after_birth count (nodes_in heap book) (nodes_in heap now) book.owner book.fragments body some unkept
          (same_shapes_after_birth heap state book number rule here point) heap state.words words heap.seats book.spines book.spine_owner number seat
          leaves stands.own.spine (new_spine_words_are_needed heap state book number rule here point) has_place (body_fragment_is_kept_at_position count body book.owner once 0 some)
          (dead_stay_after_control heap state.words book.owner now.owner group word below (dead_was_dead_before_keeping count body book.owner)) rule.heap_stands.spines);
      used = used_after_made_entry heap now.owner book.history number seat (used_where_same_taken heap book.owner now.owner book.history
          (taken_bit_same_when_kept book.owner number seat.reserve seat.hand body stands.own.holding some (length book.made)) rule.heap_stands.used);
      legal = legal_after_made_entry g book.history number seat stands.told.counts has.whole some present heap refl has.makes.an_object has.makes.in_range (seat_fits rule number here).own.small_reserve rule.heap_stands.legal;
      cycle = heap_in_cycle_after_entry heap words now.owner now.colour book.history entry refl now.fragments
          (heap_in_cycle_after_birth heap state book number rule here point now.owner now.fragments
          (born_bit_after_last_birth book.owner book.colour number seat.reserve seat.hand body stands.own.holding some group (length book.made) last black births)
          (marked_object_has_marked_first book.owner book.colour number seat.reserve seat.hand body stands.own.holding some group (length book.made) last black births
          heap state.words book.fragments (phase book.history) rule.heap_stands.cycle.coloured marks (λ f i k keeps. old_number_is_not_new book.made i (rule.heap_stands.objects.back f i k keeps).0)));
    }
    record {
      own = record {
        holding = holding_reserve_when_kept book.owner number seat.reserve seat.hand body stands.own.holding some (length book.made);
        stored = λ u none. absurd (omega (arith, none));
        together = together_where_empty heap seat.cursor 0 [] [] refl refl;
        spine = spine_in_hand_after_birth heap words book.spine_owner number count after (λ none. none);
      };
      names = record {
        registers = rw graph (λ r still. own_registers_hold_new g number d (fresh array cells) present book.made id book.owner book.fragments body unkept once some
            (new_number_is_length g grown book.made id (fresh array cells) ids more) seat.registers (omega (arith, (seat_fits rule number here).own.registers_whole, ranges.1))
            (omega (arith, has_sixteen_registers heap book.history number present, ranges.1)) (ap (Made number) stands.told.counts.numbered)
            (λ i. stands.names.registers i (making_awaits_none Bearing seat.point d i point)) r);
        way = tt;
        address = tt;
      };
      told = record {
        list = own_list_where_all_told (graph_of heap now.history) now.history now.made now.owner now.fragments number (seat_after (last_birth_move number seat) found) refl
            (own_list_grows number book.history seat.mine entry (eq-eqb number number refl) list);
        counts = rw graph (counts_agree_after_made g book.history number seat stands.told.counts has.whole some present d (fresh array cells) found
            (seen_after_add g number seat.seen (rw point at stands.told.counts.seen) d (fresh array cells) present));
        began = began_idle_after_reply book.history entry number (book.begun number) seat.point stands.told.began;
        used = tt;
        gathers = gathers_right_untried heap now.owner number (drop (book.begun number) now.history) seat.cursor;
      };
      cycle = seat_in_cycle_after_own heap words now.owner now.colour book.history entry refl number (seat_after (last_birth_move number seat) found)
          (seat_in_cycle_apart heap state.words words book.owner now.owner book.colour now.colour (phase book.history) (last_answer number book.history) (has_left number book.history) number
          seat (seat_after (last_birth_move number seat) found) record { answered = refl; left = refl; asked = sym silent.none_asked } tt
          (answer_same_after_control heap state.words word group number (omega (arith, here, rule.machine.limits.seats_fit)))
          (born_colours_from_are_borne now.owner now.colour number seat (own_borne_has_birth_colour book.owner book.colour number seat.reserve seat.hand body stands.own.holding some group (length book.made) last black births)) stands.cycle)
          refl (reply_is_no_leave number number seat.command _ (λ leaving. subst MakesObject leaving has.makes.an_object));
    }
    (λ r less apart other. seat_stands_where_left_alone heap state.words words book now r (seat_at state r) record {
      calls = refl;
      party = rw graph (same_party_of_same_graph g grown r (other_party_stays_by_add g number d (fresh array cells) present r apart));
      told = seat_told_same_after_other r book.history entry (seat_is_not_other number r apart);
      kept = kept_on;
      hand = same_hand_when_kept book.owner number seat.reserve seat.hand body stands.own.holding some (length book.made) r apart;
      stored = is_stored_after_control heap state.words r (seat_at state r) group word below other.own.stored;
      spines = spines_left_after_birth number count book.spine_owner r apart;
      spine_stored = spine_is_stored_still heap state.words words (seat_at state r) leaves other.own.spine.stored;
      address = address_at_stays heap state.words words book now (seat_at state r) kept_on places other.names.way other.names.address;
      gathers = gathers_right_after_entry heap now.owner r book.history (book.begun r) entry (seat_at state r).cursor (seat_at state r).tried (seat_at state r).given other.told.began.earlier
          (gathers_right_where_same_free heap book.owner now.owner r (drop (book.begun r) book.history) (seat_at state r).cursor (seat_at state r).tried (seat_at state r).given
          (free_bit_same_when_kept book.owner number seat.reserve seat.hand body stands.own.holding some (length book.made)) other.told.gathers);
      cycle = seat_in_cycle_after_other heap words now.owner now.colour book.history entry refl r (seat_at state r)
          (seat_in_cycle_after_control heap state.words book.owner now.owner book.colour now.colour (phase book.history) (last_answer r book.history) (has_left r book.history) r (seat_at state r) group word below
          (omega (arith, less, rule.machine.limits.seats_fit)) marks
          (other_borne_stays book.owner book.colour number seat.reserve seat.hand body stands.own.holding some group (length book.made) last black births r) (watched_is_born heap state book rule r less) other.cycle) (seat_is_not_other number r apart);
    } other)
    (marks_go_on_when_made heap state book number rule here point last found)
    (space_stands_after_birth heap state book number rule here point after (λ none. none) refl refl refl)
    record {
      made = λ i less. id_stays_by_append book.made id i less;
      owners = owners_go_on_by_keeping (length book.made) book.owner body number (λ f there. body_is_own book.owner number seat.reserve seat.hand body stands.own.holding f there);
      marked = painted_colours_go_on heap state book now.owner (birth_colour black) group_hand number (inside_group_fragment_is_taken book.owner number seat.reserve seat.hand body stands.own.holding group)
          (λ f i k keeps less. kept_by_others_was (length book.made) body book.owner f i k (λ same. omega (arith, same, less)) keeps);
    }

-- so does the birth of its last fragments, which are all of these
pub last_birth_keeps_rule : (heap : Heap) (state : State) (book : Book) (number : ℕ) → Rule heap state book → number < heap.seats
    → (seat_at state number).point ≡ points.Making Bearing → is_last_birth (seat_at state number) ≡ true → MoveKeeps heap state book number (last_birth_move number (seat_at state number))
last_birth_keeps_rule heap state book number rule here point last =
    subst (λ fs. MoveKeeps heap state book number (last_birth_of number (seat_at state number) fs)) (sym (hand_run_is_inside_last_group heap state book number rule here point))
    (group_birth_keeps heap state book number rule here point last)
