-- What stands of the heap and of each seat when fragments of a group that a seat holds are given back.
use Rattle.std.proofs.Common.{◌≡◌, ◌≢◌, ℕ, ◌+◌, ◌<◌, ◌≤◌, false, List, [], ◌∷◌, ◌++◌, length, refl, ap, arith, ◌*◌, subst}
use Rattle.core_rule.proofs.Terms.{Entry, Heap, graph_of, graph_seat, phase, last_answer, has_left, taken_of, spent_of, Graph, Control, mask_of, tally, at, put, State, seat_at}
use Rattle.core_rule.proofs.Terms.{word_without_taken, Seat, Book, Bits, SeatInCycle, Owner, Free, Borne, Taken, born_bit, owner_after, IsBoards, node_at, Rule, HeapStands}
use Rattle.core_rule.proofs.Terms.{SeatStands}
use Rattle.heap_model.specs.declared.entry.Entry.TheVariants as entries
use Rattle.core_rule.proofs.marking.MakingMarks.{leaves_marking_when_handed}
use Rattle.core_rule.proofs.marking.Marks.{MarksGoOn, IsOffWay, marks_go_on_off_way}
use Rattle.core_rule.proofs.cycle.FieldFrames.{watched_is_born}
use Rattle.core_rule.proofs.colours.BirthColours.{marks_after_giving}
use Rattle.core_rule.proofs.counts.CountMoves.{used_after_giving}
use Rattle.core_rule.proofs.cycle.CycleFrames.{SameAnswer}
use Rattle.core_rule.proofs.cycle.CycleHistory.{seat_in_cycle_after_own, heap_in_cycle_after_entry, seat_in_cycle_after_other}
use Rattle.core_rule.proofs.gather.GatherSteps.{other_giving_gathers_right}
use Rattle.core_rule.proofs.hand.HandMoves.{hand_within_heap, same_hand_after_giving}
use Rattle.core_rule.proofs.entries.AtRest.{seat_fits}
use Rattle.core_rule.proofs.entries.InFlight.{tried_within_groups}
use Rattle.core_rule.proofs.cycle.MakingCycle.{seat_in_cycle_goes_on, answer_same_after_control, heap_in_cycle_after_handing, was_borne_before, seat_in_cycle_after_control}
use Rattle.core_rule.proofs.objects.ObjectFrames.{SameKept, objects_with_same_kept, same_kept_after_taken_handed, objects_after_control, free_is_not_kept}
use Rattle.core_rule.proofs.budgets.BudgetFrames.{SameGrants}
use Rattle.core_rule.proofs.budgets.SameBooks.{same_grants_with_owners, same_dead_after_handing}
use Rattle.core_rule.proofs.entries.ToldSpines.{seat_entry_tells_no_spine, same_told_after_entry}
use Rattle.core_rule.proofs.spines.OtherWords.{LeavesSpines, leaves_spines_after_control}
use Rattle.core_rule.proofs.spines.SpineFrames.{same_shape_of_itself, spines_stand_with_budget, spine_is_stored_still, spines_left_of_itself, places_stay_where_same}
use Rattle.heap_model.proofs.graph_changes.OwnGraphs.{seat_is_not_other}
use Rattle.core_rule.proofs.owners.OwnerFrames.{owners_stand_after_handing}
use Rattle.core_rule.proofs.frames.SeatFrames.{KeptStays, seat_told_same_after_other, kept_stays_with_owners, address_at_stays, seat_stands_where_left_alone}
use Rattle.heap_model.proofs.graph_changes.SameParties.{same_party_of_same_graph}
use Rattle.core_rule.proofs.entries.SpaceEntries.{graph_same_after_gives, legal_after_gives}
use Rattle.core_rule.proofs.hand.StoredFrames.{is_stored_after_control}
use Rattle.core_rule.proofs.cycle.Unwatched.{IsApart}
use Rattle.core_rule.proofs.dying.DeadWords.{dead_stay_after_control}
use Rattle.core_rule.proofs.owners.Handed.{dead_was_dead_before_handing}
use Rattle.core_rule.proofs.owners.DeadOwners.{free_is_not_dead}

free_bears_none : {r : ℕ} → Free ≢ Borne r
free_bears_none e = cc

module _ (heap : Heap) (state : State) (book : Book) (number : ℕ) (rule : Rule heap state book) (here : number < heap.seats) (g : ℕ) (fs : List ℕ) (below : g < heap.groups)
    (held : (f : ℕ) → 1 ≤ tally f fs → book.owner f ≡ Taken number) (once : (f : ℕ) → tally f fs ≤ 1) where
  abbrev word : ℕ
  word = word_without_taken (mask_of fs) (at heap state.words (Control g))

  abbrev pub words_given : List ℕ
  words_given = put heap state.words (Control g) word

  abbrev entry : Entry
  entry = entries.GivesBack number (length fs)

  abbrev owner : ℕ → Owner
  owner = owner_after Free book.owner fs

  -- the book after it
  abbrev pub book_given : Book
  book_given = record book { history = book.history ++ entry ∷ []; owner = owner }

  abbrev before : Graph
  before = graph_of heap book.history

  -- the graph is the same, and the same fragments are kept
  pub graph_same_after_giving : graph_of heap book_given.history ≡ before
  graph_same_after_giving = graph_same_after_gives heap book.history number (length fs)

  pub same_kept_after_giving : SameKept book.owner owner
  same_kept_after_giving = same_kept_after_taken_handed book.owner number fs Free free_is_not_kept held

  kept_on : KeptStays before (graph_of heap book_given.history) book.made book.made book.owner owner book.fragments book.fragments
  kept_on = rw graph_same_after_giving (kept_stays_with_owners before book.made book.owner owner book.fragments same_kept_after_giving)

  inside : (f : ℕ) → 1 ≤ tally f fs → f < 16 * heap.groups
  inside = hand_within_heap heap state.words book.owner rule.heap_stands.control_words number fs held

  -- the spine words and the budget are as before, and as many spine words are granted
  pub leaves_spines_after_giving : LeavesSpines heap state.words words_given
  leaves_spines_after_giving = leaves_spines_after_control heap state.words word g below

  pub same_grants_after_giving : SameGrants heap book book_given
  same_grants_after_giving = same_grants_with_owners heap book book_given.history owner (same_told_after_entry book.history entry (seat_entry_tells_no_spine entry refl refl)) same_kept_after_giving
      (same_dead_after_handing Free book.owner fs free_is_not_dead (λ f i k there is. absurd (cc (held f there, is)))) (rw graph_same_after_giving (same_shape_of_itself (node_at before book.made)))

  -- the heap stands
  pub heap_stands_after_giving : Bits heap words_given owner → (graph_seat before number).left ≡ false → 1 ≤ length fs → spent_of number book.history + length fs ≤ taken_of number book.history
      → HeapStands heap words_given book_given
  heap_stands_after_giving bits present some own =
      let stands = rule.heap_stands in
      record {
        control_words = bits;
        owners = owners_stand_after_handing heap.seats book.owner stands.owners Free fs tt (λ there. subst IsBoards (held 0 there) stands.owners.board);
        ids = rw graph_same_after_giving stands.ids;
        objects = rw graph_same_after_giving (objects_with_same_kept book.owner owner same_kept_after_giving book.made book.fragments book.spines heap words_given before
            (objects_after_control heap state.words before book.made book.owner book.fragments book.spines g word below stands.objects));
        spines = rw graph_same_after_giving (spines_stand_with_budget heap state.words words_given leaves_spines_after_giving heap.seats (length book.made) book.spines book.fragments book.spine_owner
            (node_at before book.made) (node_at before book.made) book.owner owner same_kept_after_giving (same_shape_of_itself (node_at before book.made))
            (dead_stay_after_control heap state.words book.owner owner g word below (dead_was_dead_before_handing Free book.owner fs free_is_not_dead)) stands.spines);
        used = used_after_giving heap book.owner book.history number fs once inside stands.used held;
        legal = legal_after_gives heap book.history number (length fs) stands.legal present some own;
        cycle = heap_in_cycle_after_entry heap words_given owner book.colour book.history entry refl book.fragments
            (heap_in_cycle_after_handing heap state.words book.owner book.colour book.fragments (phase book.history) g word Free fs below
            refl (λ f there. ap born_bit (held f there)) same_kept_after_giving (marks_after_giving heap state.words book.colour g fs rule.machine.table below stands.cycle.marks) stands.cycle);
      }

  -- the seat has its standing in the cycle, where it goes on with none of a set or an answer
  pub seat_in_cycle_after_giving : (now : Seat) → SameAnswer (seat_at state number) now → IsApart now.point
      → SeatInCycle heap words_given (phase book_given.history) (last_answer number book_given.history) (has_left number book_given.history) owner book.colour number now
  seat_in_cycle_after_giving now same apart =
      let cycle = (rule.seats_stand number here).cycle in
      seat_in_cycle_after_own heap words_given owner book.colour book.history entry refl number now
      (seat_in_cycle_goes_on heap state.words words_given book.owner owner book.colour (phase book.history) (last_answer number book.history) (has_left number book.history) number (seat_at state number) now same apart
      (answer_same_after_control heap state.words word g number (omega (arith, here, rule.machine.limits.seats_fit))) (λ f. was_borne_before Free book.owner fs number f free_bears_none) cycle) refl refl

  -- and marking goes on, where it is on no way
  pub marks_go_on_after_giving : (now : Seat) → now.answered ≡ (seat_at state number).answered → now.registers ≡ (seat_at state number).registers → IsOffWay now.point
      → MarksGoOn heap state book book_given words_given now
  marks_go_on_after_giving now =
      marks_go_on_off_way heap state book rule number here words_given book_given now (leaves_marking_when_handed heap state book rule g word below Free fs (λ f there. ap born_bit (held f there)) (λ i k e. cc) refl)

  -- each other seat stands
  pub other_seat_stands_after_giving : (r : ℕ) → r < heap.seats → r ≢ number → SeatStands heap state.words book r (seat_at state r) → SeatStands heap words_given book_given r (seat_at state r)
  other_seat_stands_after_giving r under apart other =
      let seat : Seat = seat_at state r in
      let fits = seat_fits rule r under in
      let away = seat_is_not_other number r apart in
      seat_stands_where_left_alone heap state.words words_given book book_given r seat record {
        calls = refl;
        party = same_party_of_same_graph before (graph_of heap book_given.history) r (ap (λ (g : Graph). graph_seat g r) graph_same_after_giving);
        told = seat_told_same_after_other r book.history entry away;
        kept = kept_on;
        hand = same_hand_after_giving book.owner r number fs apart held;
        stored = is_stored_after_control heap state.words r seat g word below other.own.stored;
        spines = spines_left_of_itself r book.spine_owner;
        spine_stored = spine_is_stored_still heap state.words words_given seat leaves_spines_after_giving other.own.spine.stored;
        address = address_at_stays heap state.words words_given book book_given seat kept_on
            (places_stay_where_same heap state.words words_given (length book.made) book.spines book.spine_owner leaves_spines_after_giving.spines) other.names.way other.names.address;
        gathers = other_giving_gathers_right heap book.owner book.history number fs once inside rule.heap_stands.used (book.begun r) other.told.began.earlier seat.cursor seat.tried seat.given held
            fits.own.cursor_within (tried_within_groups heap seat seat.point fits.at_point) r apart other.told.gathers;
        cycle = seat_in_cycle_after_other heap words_given owner book.colour book.history entry refl r seat
            (seat_in_cycle_after_control heap state.words book.owner owner book.colour book.colour (phase book.history) (last_answer r book.history) (has_left r book.history) r seat g word below
            (omega (arith, under, rule.machine.limits.seats_fit)) (λ f marked. marked) (λ f borne. (was_borne_before Free book.owner fs r f free_bears_none borne, refl)) (watched_is_born heap state book rule r under) other.cycle) away;
      } other
