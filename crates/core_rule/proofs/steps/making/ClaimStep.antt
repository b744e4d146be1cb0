-- A claim keeps the rule.
use Rattle.core_rule.proofs.objects.BoardKept.{board_is_kept}
use Rattle.std.specs.Int.{bit_at}
use Rattle.std.proofs.Common.{◌≡◌, ◌≢◌, ℕ, ◌+◌, ◌*◌, ◌/◌, ◌<◌, ◌≤◌, List, [], ◌++◌, length, drop, bit_or, refl, sym, ap, ◌∙◌, subst, arith}
use Rattle.std.proofs.lemmas.List.{length-append}
use Rattle.core_rule.proofs.Terms.{taken_at, Entry, Heap, graph_of, graph_seat, phase, last_answer, has_left, Graph, Node, Control, Gathering, target_of, SeatIsGathering, clear_in}
use Rattle.core_rule.proofs.Terms.{tally, at, put, table_length, seat_at, next_group_of, after_claim, claim_move, takes_some, all_taken, Seat, spine_need, Bits, AreUsed}
use Rattle.core_rule.proofs.Terms.{GathersRight, fragments_in_hand, node_at, Owner, Free, Taken, Borne, free_bit, born_bit, owner_after}
use Rattle.core_machine.specs.declared.point.Point.TheVariants as points
use Rattle.core_machine.specs.Moves.{seat_after}
use Rattle.core_machine.proofs.table_lemmas.Owned.{clear_is_of_group}
use Rattle.core_machine.proofs.seat_lemmas.Fitting.{next_group_within_heap}
use Rattle.core_rule.specs.owners.Owners.{Kept as KeptFragment}
use Rattle.core_rule.specs.hand.Together.{AreTogether}
use Rattle.core_rule.proofs.cycle.FieldFrames.{watched_is_born}
use Rattle.core_rule.proofs.book.BookGoing.{book_goes_on_with_owners}
use Rattle.core_rule.proofs.book.OwnersGo.{owners_go_on_by_claim}
use Rattle.core_rule.proofs.frames.SeatFrames.{KeptStays, kept_stays_with_owners, address_at_stays, seat_stands_where_left_alone, registers_stay_with_owners}
use Rattle.heap_model.proofs.graph_changes.SameParties.{same_party_of_same_graph}
use Rattle.core_rule.proofs.marking.MakingMarks.{leaves_marking_when_handed}
use Rattle.core_rule.proofs.marking.Marks.{marks_go_on_off_way}
use Rattle.core_rule.proofs.budgets.SameBooks.{same_grants_with_owners, same_dead_after_handing}
use Rattle.core_rule.proofs.spines.OtherWords.{leaves_spines_after_control}
use Rattle.core_rule.proofs.spines.SpineFrames.{spines_stand_with_budget, same_shape_of_itself, spine_in_hand_away, spines_left_of_itself, spine_is_stored_still, places_stay_where_same}
use Rattle.core_rule.proofs.graph.SeenStamps.{stamps_stay}
use Rattle.core_rule.proofs.steps.Assemble.{making_seat_has_not_left, keeps_rule_after_step, space_stands_after_step, StepKeeps, seat_fits}
use Rattle.core_rule.proofs.colours.BirthColours.{marks_after_claim}
use Rattle.core_rule.proofs.hand.Bodies.{in_hand_is_hand}
use Rattle.core_rule.proofs.hand.ClaimOrder.{together_after_going_on, together_after_claim}
use Rattle.core_rule.proofs.frames.ClaimTold.{claim_is_told}
use Rattle.core_rule.proofs.words.ClearLemmas.{clear_tally_is_untaken_bit, clear_is_in_group, clear_has_each_once}
use Rattle.core_rule.proofs.words.ControlLemmas.{word_has_taken_bit}
use Rattle.core_rule.proofs.words.ControlSteps.{bits_after_claim, clear_is_free}
use Rattle.core_rule.proofs.counts.CountMoves.{free_bit_before_claim}
use Rattle.core_rule.proofs.hand.EmptyHand.{is_stored_where_none}
use Rattle.core_rule.proofs.hand.GoesOn.{holding_goes_on, held_length_goes_on, gathers_right_goes_on, stays_making_goes_on, unplaced_goes_on, same_weights_where_unplaced}
use Rattle.core_rule.proofs.hand.HandMoves.{holding_after_claim, same_hand_after_others_claim}
use Rattle.core_rule.proofs.entries.InFlight.{making_awaits_none, making_is_not_answered}
use Rattle.core_rule.proofs.cycle.MakingCycle.{answer_same_after_control, seat_in_cycle_after_control, seat_in_cycle_goes_on, heap_in_cycle_after_handing, was_borne_before}
use Rattle.core_rule.proofs.objects.ObjectFrames.{same_kept_after_handing, taken_is_not_kept, objects_after_control, objects_with_same_kept}
use Rattle.core_rule.proofs.owners.OwnerFrames.{owners_stand_after_handing}
use Rattle.core_rule.proofs.owners.OwnerLemmas.{free_bit_is_untaken}
use Rattle.core_rule.proofs.entries.SeatLists.{making_list_is_all_told, own_list_of_making}
use Rattle.core_rule.proofs.hand.StoredFrames.{is_stored_after_control}
use Rattle.core_rule.proofs.dying.DeadWords.{dead_stay_after_control}
use Rattle.core_rule.proofs.owners.Handed.{dead_was_dead_before_handing}
use Rattle.core_rule.proofs.steps.StepKinds.{StepKind, spares, shows_claim, claim_has_no_replies, comes_from_usual, claim_is_usual, stays_found_after_claim, on_looks_of_way, on_words_of_plain_step, born_bits_stay}
use Rattle.core_rule.proofs.words.WordBits.{claim_keeps_born_bits}

module _ (heap : Heap) (words : List ℕ) (owner : ℕ → Owner) (g : ℕ) (whole : length words ≡ table_length heap) (below : g < heap.groups) (bits : Bits heap words owner) where
  abbrev clear : List ℕ
  clear = clear_in g (at heap words (Control g))

  clear_within : (f : ℕ) → 1 ≤ tally f clear → f < 16 * heap.groups
  clear_within f there = omega (arith, clear_is_in_group g (at heap words (Control g)) f there, below)

  -- nothing of the group is free then
  none_free : (number : ℕ) (history : List Entry) → AreUsed heap owner history → (f : ℕ) → f / 16 ≡ g → free_bit (owner_after (Taken number) owner clear f) ≡ 0
  none_free number history used f here =
      let less : free_bit (owner f) ≡ free_bit (owner_after (Taken number) owner clear f) + tally f clear
      = free_bit_before_claim heap owner history number clear (λ x. clear_has_each_once g (at heap words (Control g)) x) clear_within used (clear_is_free heap words owner g whole below bits) f in
      let free : tally f clear ≡ free_bit (owner f)
      = clear_tally_is_untaken_bit g (at heap words (Control g)) f here ∙ free_bit_is_untaken (owner f) (bit_at (at heap words (Control g)) (taken_at f)) (word_has_taken_bit heap words owner g whole below bits f here) in
      omega (arith, less, free)

-- what is kept isn't free
no_board_free : (o : Owner) → o ≡ KeptFragment 0 0 → o ≡ Free → ⊥
no_board_free o kept free = let both : KeptFragment 0 0 ≡ Free = sym kept ∙ free in absurd (cc)

-- what was free is no object's
free_kept : (owner : ℕ → Owner) (f i k : ℕ) → owner f ≡ Free → owner f ≢ KeptFragment i k
free_kept owner f i k free kept = let both : Free ≡ KeptFragment i k = sym free ∙ kept in absurd (cc)

more_in_hand : (reserve hand body fs : List ℕ) → body ≡ [] → length reserve + length (fragments_in_hand (hand ++ fs) body) ≡ length reserve + length (fragments_in_hand hand body) + length fs
more_in_hand reserve hand body fs none = rw (in_hand_is_hand (hand ++ fs) body none, in_hand_is_hand hand body none, length-append hand fs) (omega arith)

holds_bears_none : {number r : ℕ} → Taken number ≢ Borne r
holds_bears_none e = cc

-- a claim keeps the rule
pub claim_keeps : StepKeeps (points.Making Gathering) claim_move
claim_keeps heap state book number rule here point machine =
    let seat : Seat = seat_at state number in
    let stands = rule.seats_stand number here in
    let heap_stands = rule.heap_stands in
    let g : ℕ = next_group_of heap seat in
    let found : ℕ = at heap state.words (Control g) in
    let fs : List ℕ = clear_in g found in
    let word : ℕ = bit_or found all_taken in
    let words : List ℕ = put heap state.words (Control g) word in
    let owner : ℕ → Owner = owner_after (Taken number) book.owner fs in
    let added : List Entry = takes_some number (length fs) in
    let history : List Entry = book.history ++ added in
    let g_of : Graph = graph_of heap book.history in
    let mid : Seat = record seat { hand = seat.hand ++ fs; tried = seat.tried + 1 } in
    let next : Seat = seat_after (claim_move heap number seat) found in
    let gathers : SeatIsGathering heap seat = rw point at (seat_fits rule number here).at_point in
    let below = next_group_within_heap heap seat (seat_fits rule number here).own.cursor_within in
    let once : (f : ℕ) → tally f fs ≤ 1 = λ f. clear_has_each_once g found f in
    let inside = clear_within heap state.words book.owner g rule.machine.table below heap_stands.control_words in
    let free = clear_is_free heap state.words book.owner g rule.machine.table below heap_stands.control_words in
    let kept = same_kept_after_handing (Taken number) book.owner fs (taken_is_not_kept number) (λ f i k there. free_kept book.owner f i k (free f there)) in
    let nodes : ℕ → Node = node_at g_of book.made in
    let leaves = leaves_spines_after_control heap state.words word g below in
    let unplaced = unplaced_goes_on heap mid gathers.makes.an_object in
    let stays = stays_making_goes_on heap mid in
    let same = stays.same in
    let present = making_seat_has_not_left heap state book number Gathering rule here point in
    let list = making_list_is_all_told g_of book.history book.made book.owner book.fragments number seat Gathering point stands.told.list in
    let tells = claim_is_told heap state book number fs rule here (making_is_not_answered Gathering seat.point point) present gathers.none_given once inside free
    (none_free heap state.words book.owner g rule.machine.table below heap_stands.control_words number book.history heap_stands.used) in
    let kept_on : KeptStays g_of (graph_of heap history) book.made book.made book.owner owner book.fragments book.fragments = rw tells.graph (kept_stays_with_owners g_of book.made book.owner owner book.fragments kept) in
    keeps_rule_after_step heap state book number words next (record book { history = history; owner = owner }) added
    rule here machine refl tells.log
    record {
      control_words = bits_after_claim heap state.words book.owner g rule.machine.table below heap_stands.control_words number;
      owners = owners_stand_after_handing heap.seats book.owner heap_stands.owners (Taken number) fs here (λ there. no_board_free (book.owner 0) (board_is_kept heap state book number rule here present (making_awaits_none Gathering seat.point (target_of seat.command) 0 point)) (free 0 there));
      ids = rw tells.graph heap_stands.ids;
      objects = rw tells.graph (objects_with_same_kept book.owner owner kept book.made book.fragments book.spines heap words g_of
          (objects_after_control heap state.words g_of book.made book.owner book.fragments book.spines g word below heap_stands.objects));
      spines = rw tells.graph (spines_stand_with_budget heap state.words words leaves heap.seats (length book.made) book.spines book.fragments book.spine_owner nodes nodes
          book.owner owner kept (same_shape_of_itself nodes)
          (dead_stay_after_control heap state.words book.owner owner g word below (dead_was_dead_before_handing (Taken number) book.owner fs (λ i k e. cc))) heap_stands.spines);
      used = tells.used;
      legal = tells.legal;
      cycle = tells.phases words owner book.colour book.fragments (heap_in_cycle_after_handing heap state.words book.owner book.colour book.fragments (phase book.history) g word (Taken number) fs below
          refl (λ f there. ap born_bit (free f there)) kept (marks_after_claim heap state.words book.colour g rule.machine.table below heap_stands.cycle.marks) heap_stands.cycle);
    }
    record {
      own = record {
        holding = holding_goes_on heap owner number mid gathers.no_body
            (holding_after_claim book.owner number seat.reserve seat.hand seat.body stands.own.holding fs once free gathers.no_body);
        stored = is_stored_where_none heap words number next (same.stored ∙ gathers.none_stored);
        spine = spine_in_hand_away heap state.words words book.spine_owner number seat next (λ has. rw point at has) unplaced.no_place stands.own.spine;
        together = together_after_going_on heap mid gathers.no_body (seat_fits rule number here).own.cursor_within (seat_fits rule number here).own.reserve_of_cursor
            (subst (λ b. AreTogether heap seat.cursor (seat.tried + 1) (seat.hand ++ fs) b) (sym gathers.no_body)
            (together_after_claim heap seat.cursor seat.tried seat.hand fs (seat_fits rule number here).own.cursor_within gathers.groups_left (clear_is_of_group g found)
            (subst (λ b. AreTogether heap seat.cursor seat.tried seat.hand b) gathers.no_body stands.own.together)));
      };
      names = record {
        registers = rw (tells.graph, same.registers) (λ r fresh. registers_stay_with_owners book.owner owner kept book.made book.fragments g_of number seat.registers seat.point (target_of seat.command) stands.names.registers r (making_awaits_none Gathering seat.point (target_of seat.command) r point));
        way = rw stays.point_is tt;
        address = rw stays.point_is tt;
      };
      told = record {
        list = own_list_of_making (graph_of heap history) history book.made owner book.fragments number next stays.making stays.point_is (ap (λ m. m ++ added) same.mine ∙ tells.own seat.mine list);
        counts = rw tells.graph (tells.counts next same.made same.sets (stamps_stay seat next (points.Making Gathering) (points.Making stays.making) point stays.point_is tt tt same.seen) same.left
            (held_length_goes_on heap mid gathers.no_body ∙ more_in_hand seat.reserve seat.hand seat.body fs gathers.no_body));
        began = tells.began next.point;
        used = unplaced.none_used heap history number;
        gathers = gathers_right_goes_on heap owner number (drop (book.begun number) history) mid gathers.none_given
            (subst (λ n. GathersRight heap owner number (drop (book.begun number) history) seat.cursor (seat.tried + 1) n) (sym gathers.none_given) tells.gathers);
      };
      cycle = tells.cycles words owner book.colour number next
          (seat_in_cycle_goes_on heap state.words words book.owner owner book.colour (phase book.history) (last_answer number book.history) (has_left number book.history) number seat next
          record { answered = same.answered; left = same.left; asked = same.asked } (rw stays.point_is tt)
          (answer_same_after_control heap state.words word g number (omega (arith, here, rule.machine.limits.seats_fit)))
          (λ f. was_borne_before (Taken number) book.owner fs number f holds_bears_none) stands.cycle);
    }
    (λ r under apart other. seat_stands_where_left_alone heap state.words words book (record book { history = history; owner = owner }) r (seat_at state r) record {
      calls = refl;
      party = same_party_of_same_graph g_of (graph_of heap history) r (ap (λ (x : Graph). graph_seat x r) tells.graph);
      told = tells.others r apart;
      kept = kept_on;
      hand = same_hand_after_others_claim book.owner r number fs apart free;
      stored = is_stored_after_control heap state.words r (seat_at state r) g word below other.own.stored;
      spines = spines_left_of_itself r book.spine_owner;
      spine_stored = spine_is_stored_still heap state.words words (seat_at state r) leaves other.own.spine.stored;
      address = address_at_stays heap state.words words book (record book { history = history; owner = owner }) (seat_at state r) kept_on
          (places_stay_where_same heap state.words words (length book.made) book.spines book.spine_owner leaves.spines) other.names.way other.names.address;
      gathers = tells.other_gathers r under apart;
      cycle = tells.cycles words owner book.colour r (seat_at state r)
          (seat_in_cycle_after_control heap state.words book.owner owner book.colour book.colour (phase book.history) (last_answer r book.history) (has_left r book.history) r (seat_at state r) g word below
          (omega (arith, under, rule.machine.limits.seats_fit)) (λ f marked. marked) (λ f borne. (was_borne_before (Taken number) book.owner fs r f holds_bears_none borne, refl)) (watched_is_born heap state book rule r under) other.cycle);
    } other)
    (marks_go_on_off_way heap state book rule number here words (record book { history = history; owner = owner }) next
    (leaves_marking_when_handed heap state book rule g word below (Taken number) fs (λ f there. ap born_bit (free f there)) (λ i k e. cc) refl) same.answered same.registers (rw stays.point_is tt))
    (space_stands_after_step heap state book number rule here words next (record book { history = history; owner = owner }) leaves
    (same_weights_where_unplaced (spine_need mid) seat next (rw point refl) (λ half. rw point refl) (rw point refl)
    record { granted = unplaced.granted; placed = unplaced.placed; refused = unplaced.refused; no_place = unplaced.no_place; none_used = unplaced.none_used })
    (same_grants_with_owners heap book history owner tells.spines kept (same_dead_after_handing (Taken number) book.owner fs (λ i k e. cc) (λ f i k there is. absurd (cc (free f there, is)))) (rw tells.graph (same_shape_of_itself nodes))) (λ f dark. dark))
    (book_goes_on_with_owners heap state book history book.begun owner (owners_go_on_by_claim (length book.made) book.owner fs number free))

-- all that is asked of it
pub step_kind_of_gathering : StepKind (points.Making Gathering)
step_kind_of_gathering = record {
  keeps = λ heap state book number rule here looks. claim_keeps heap state book number rule here;
  shows = λ heap state number. shows_claim number (seat_at state number) (points.Making Gathering) _;
  looks = on_looks_of_way (points.Making Gathering) claim_move (λ heap number seat. refl) record {
    unnamed = λ e. cc e;
    blind = λ heap number seat. tt;
    mute = λ heap number seat words found. claim_has_no_replies number _;
    stays = λ heap number seat found point_is. stays_found_after_claim heap seat found;
    comes = λ heap number seat found. comes_from_usual _ (after_claim heap seat found).point (claim_is_usual heap seat found);
  };
  words = on_words_of_plain_step (points.Making Gathering) claim_move (λ heap number seat. refl) (λ heap number seat is. is) (λ heap number seat low. low)
      (λ heap state book rule number here. spares _ refl (λ word i above below. born_bits_stay word _ (λ j small. claim_keeps_born_bits word j small) i above below));
  found = λ heap state book number stands here point_is. tt;
}
