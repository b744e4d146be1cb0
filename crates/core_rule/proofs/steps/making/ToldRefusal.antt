-- A call that makes an object is refused and over: that keeps the rule where the heap and each seat stand after the word that its last step changed.
use Rattle.std.proofs.Common.{◌≡◌, ◌≢◌, false, ℕ, ◌<◌, List, [], ◌∷◌, ◌++◌, length, drop, refl, sym, subst, arith, ap}
use Rattle.std.proofs.lemmas.Bool.{eq-eqb}
use Rattle.core_rule.proofs.Terms.{Entry, Said, Heap, Reply, KeepsSpace, graph_of, effect_of, no_effect, Accepts, graph_seat, phase, last_answer, has_left, Graph, MakesObject}
use Rattle.core_rule.proofs.Terms.{target_of, IsSilent, State, seat_at, IsMachine, Seat, seat_after_reply, Book, BudgetsStand, fragments_in_hand, Rule, HeapStands, SeatStands}
use Rattle.core_rule.proofs.Terms.{HasPlace}
use Rattle.core_machine.specs.declared.point.Making.{Making}
use Rattle.core_machine.specs.declared.point.Point.TheVariants as points
use Rattle.core_machine.specs.declared.seat.looks.Looks.{Looks}
use Rattle.core_rule.proofs.spines.OtherWords.{LeavesPlaces}
use Rattle.core_rule.proofs.spines.NoPlaces.{same_range_away}
use Rattle.core_rule.proofs.halves.HalvesFrames.{halves_stand_after_step}
use Rattle.core_rule.proofs.colours.LeadsFrames.{SameSources}
use Rattle.core_rule.proofs.cycle.CycleHistory.{seat_in_cycle_after_own}
use Rattle.core_rule.proofs.cycle.MakingCycle.{seat_in_cycle_goes_on}
use Rattle.core_rule.proofs.entries.InFlight.{making_awaits_none, began_idle_after_reply}
use Rattle.heap_model.proofs.graph_changes.OwnGraphs.{seat_is_not_other}
use Rattle.core_rule.proofs.entries.OwnEntries.{own_list_grows, counts_agree_after_own}
use Rattle.core_rule.proofs.entries.PhaseEntries.{reply_is_no_leave}
use Rattle.core_rule.proofs.entries.SeatLists.{making_list_is_all_told, own_list_where_all_told}
use Rattle.core_rule.proofs.book.BookGoing.{book_goes_on_with_history}
use Rattle.core_rule.proofs.frames.Replying.{effect_summand_is_none, heap_stands_after_reply, same_grants_after_reply, other_seat_stands_after_reply}
use Rattle.core_rule.proofs.frames.SeatFrames.{with_entry}
use Rattle.core_rule.proofs.gather.GatherMoves.{gathers_right_untried}
use Rattle.heap_model.proofs.graph_changes.Shapes.{SameNodes, same_nodes_of_equal}
use Rattle.core_rule.proofs.hand.EmptyHand.{together_where_empty, is_stored_where_none, holding_of_equal_hand}
use Rattle.core_rule.proofs.marking.Marks.{leaves_by_same_sources, marks_go_on_off_way}
use Rattle.core_rule.proofs.budgets.BudgetFrames.{stepped, SameGrants}
use Rattle.core_rule.proofs.spines.SpineFrames.{spine_in_hand_away}
use Rattle.core_rule.proofs.steps.Assemble.{Keeps, keeps_rule_after_step, seat_fits}

module _ (heap : Heap) (state : State) (book : Book) (number : ℕ) (rule : Rule heap state book) (here : number < heap.seats) (making : Making) (point : (seat_at state number).point ≡ points.Making making)
    (reply : Reply) (looks : Looks) (makes : MakesObject (seat_at state number).command) (nothing : effect_of (Said number (seat_at state number).command reply) ≡ no_effect)
    (graph : graph_of heap (book.history ++ Said number (seat_at state number).command reply ∷ []) ≡ graph_of heap book.history)
    (words : List ℕ) (heap_stands : HeapStands heap words book) (seats_stand : (r : ℕ) → r < heap.seats → SeatStands heap words book r (seat_at state r))
    (sources : (f : ℕ) → SameSources heap state.words words f) where
  abbrev seat : Seat
  seat = seat_at state number

  abbrev entry : Entry
  entry = Said number seat.command reply

  abbrev refused : Seat
  refused = record (seat_after_reply number seat reply) { looks = looks }

  -- the book after it
  abbrev pub book_refused : Book
  book_refused = with_entry book entry

  abbrev before : Graph
  before = graph_of heap book.history

  abbrev after : Graph
  after = graph_of heap book_refused.history

  nodes : SameNodes before after
  nodes = same_nodes_of_equal before after graph

  -- as many spine words are granted by the book
  pub same_grants_after_refusal : SameGrants heap book book_refused
  same_grants_after_refusal = same_grants_after_reply heap words book entry nothing nodes refl

  -- each other seat stands
  other_stands : (r : ℕ) → r < heap.seats → r ≢ number → SeatStands heap state.words book r (seat_at state r) → SeatStands heap words book_refused r (seat_at state r)
  other_stands r below apart other =
      other_seat_stands_after_reply heap words book entry nothing nodes r (seat_at state r) (seat_is_not_other number r apart) (ap (λ (x : Graph). graph_seat x r) graph) (seats_stand r below)

  -- so the refusal keeps the rule, where its entry may stand, nothing is in the hand and no spine has its place, and the budget stands
  pub keeps_rule_by_refusal : seat.hand ≡ [] → seat.body ≡ [] → ¬ HasPlace seat seat.point → Accepts before entry → KeepsSpace heap false book.history entry
      → LeavesPlaces heap state.words words → BudgetsStand heap (stepped state number words refused) book_refused → IsMachine heap (stepped state number words refused)
      → Keeps heap state (stepped state number words refused) book book.begun (entry ∷ [])
  keeps_rule_by_refusal empty bare no_place accepts keeps places budgets machine =
      let stands = seats_stand number here in
      let silent : IsSilent seat = rw point at (seat_fits rule number here).answer_at_point in
      let list = making_list_is_all_told before book.history book.made book.owner book.fragments number seat making point stands.told.list in
      let none_left : length (fragments_in_hand seat.hand seat.body) ≡ 0 = rw (bare, empty) refl in
      keeps_rule_after_step heap state book number words refused book_refused (entry ∷ []) rule here machine refl refl
      (heap_stands_after_reply heap words book entry nothing nodes accepts keeps heap_stands)
      record {
        own = record {
          holding = holding_of_equal_hand book.owner number seat.reserve seat.hand seat.body seat.reserve [] [] refl (sym empty) (sym bare) stands.own.holding;
          stored = is_stored_where_none heap words number refused refl;
          together = together_where_empty heap seat.cursor 0 [] [] refl refl;
          spine = spine_in_hand_away heap words words book.spine_owner number seat refused no_place (λ none. none) stands.own.spine;
        };
        names = record { registers = rw graph (λ r fresh. stands.names.registers r (making_awaits_none making seat.point (target_of seat.command) r point)); way = tt; address = tt };
        told = record {
          list = own_list_where_all_told after book_refused.history book.made book.owner book.fragments number refused refl (own_list_grows number book.history seat.mine entry (eq-eqb number number refl) list);
          counts = rw graph (counts_agree_after_own before before book.history number seat refused stands.told.counts entry (eq-eqb number number refl)
              stands.told.counts.numbered stands.told.counts.stamped (rw point at stands.told.counts.seen) stands.told.counts.leaves (omega (arith, none_left, effect_summand_is_none entry (λ e. e.born) nothing refl)));
          began = began_idle_after_reply book.history entry number (book.begun number) seat.point stands.told.began;
          gathers = gathers_right_untried heap book.owner number (drop (book.begun number) book_refused.history) seat.cursor;
          used = tt;
        };
        cycle = seat_in_cycle_after_own heap words book.owner book.colour book.history entry refl number refused
            (seat_in_cycle_goes_on heap words words book.owner book.owner book.colour (phase book.history) (last_answer number book.history) (has_left number book.history) number seat
            refused record { answered = refl; left = refl; asked = sym silent.none_asked } tt refl (λ f borne. borne) stands.cycle)
            refl (reply_is_no_leave number number seat.command _ (λ leaving. subst MakesObject leaving makes));
      }
      other_stands
      (marks_go_on_off_way heap state book rule number here words book_refused refused (leaves_by_same_sources heap state book rule words sources) refl refl tt)
      record {
        budgets = budgets;
        halves = halves_stand_after_step heap state book number words refused book_refused here rule.machine.seated places (same_range_away seat refused (λ none. none)) same_grants_after_refusal (λ f dark. dark) rule.space.halves;
      }
      (book_goes_on_with_history heap state book book_refused.history book.begun)
