-- What stands of the heap and of each seat when dead fragments of a group are freed.
use Rattle.std.proofs.Common.{◌≡◌, ℕ, ◌+◌, ◌*◌, ◌%◌, ◌^◌, ◌<◌, ◌≤◌, false, List, [], ◌∷◌, ◌++◌, length, inl, bit_and, refl, ap, ◌∙◌, arith}
use Rattle.core_rule.proofs.Terms.{cycle_phases, Entry, Frees, Heap, IsLegal, graph_of, phase, last_answer, has_left, fragments_gained, fragments_lost, Graph, opening, graph_seat}
use Rattle.core_rule.proofs.Terms.{Control, State, seat_at, sum_upto, Seat, tally, at, put, Book, IsMarked, AreUsed, HeapInCycle, AfterMarking, node_at, AreDead, Owner, Free}
use Rattle.core_rule.proofs.Terms.{taken_bit, born_bit, dead_bit, owner_after, Rule, HeapStands, SeatStands}
use Rattle.heap_model.specs.PhasePlan.{sweep as sweep_phase}
use Rattle.heap_model.proofs.Histories.{graph_after-more, total-more}
use Rattle.core_machine.specs.table.Operation.{free_mask_of}
use Rattle.core_rule.proofs.colours.LeadsFrames.{led_before_control_write}
use Rattle.core_rule.proofs.cycle.CycleFrames.{coloured_stays}
use Rattle.core_rule.proofs.cycle.CycleHistory.{heap_in_cycle_after_entry, seat_in_cycle_after_other}
use Rattle.core_rule.proofs.cycle.FieldFrames.{watched_is_born}
use Rattle.core_rule.proofs.cycle.MakingCycle.{was_borne_before, seat_in_cycle_after_control, phase_same_after_control}
use Rattle.core_rule.proofs.entries.AtRest.{seat_fits}
use Rattle.core_rule.proofs.entries.InFlight.{tried_within_groups}
use Rattle.core_rule.proofs.entries.Legality.{legal_after_entry, keeps_space_of_frees}
use Rattle.core_rule.proofs.frames.SeatFrames.{KeptStays, seat_told_same_after_other, kept_stays_with_owners, address_at_stays, seat_stands_where_left_alone}
use Rattle.heap_model.proofs.graph_changes.SameParties.{same_party_of_same_graph}
use Rattle.core_rule.proofs.gather.FreeGathers.{gathers_right_after_freeing}
use Rattle.core_rule.proofs.hand.StoredFrames.{is_stored_after_control}
use Rattle.core_rule.proofs.objects.ObjectFrames.{SameKept, objects_with_same_kept, objects_after_control}
use Rattle.core_rule.proofs.owners.DeadOwners.{bit_of_each_dead, set_bits_are_dead, same_kept_after_freeing_dead, same_hand_after_freeing, owners_stand_after_freeing, dead_was_dead_before_freeing}
use Rattle.core_rule.proofs.owners.Handed.{handed_sum_falls_by_list, handed_cases}
use Rattle.core_rule.proofs.owners.OwnerLemmas.{dead_bit_is_dead}
use Rattle.core_rule.proofs.budgets.BudgetFrames as budgets
use Rattle.core_rule.proofs.entries.ToldSpines.{same_told_after_entry}
use Rattle.core_rule.proofs.spines.OtherWords.{LeavesSpines, leaves_spines_after_control}
use Rattle.core_rule.proofs.spines.SpineFrames.{same_shape_of_itself, spines_stand_with_budget, spine_is_stored_still, spines_left_of_itself, places_stay_where_same}
use Rattle.core_rule.proofs.words.SetBits.{set_in, set_has_each_once, set_is_in_group}
use Rattle.core_rule.proofs.words.SweepWords.{bits_after_freeing, marks_after_freeing}
use Rattle.core_rule.proofs.dying.DeadWords.{dead_stay_after_control}

module _ (heap : Heap) (state : State) (book : Book) (rule : Rule heap state book) (g dead : ℕ) (below : g < heap.groups) (small : dead < 2 ^ 16) (are : AreDead book.owner g dead) where
  abbrev fs : List ℕ
  fs = set_in g dead

  abbrev word : ℕ
  word = bit_and (at heap state.words (Control g)) (free_mask_of dead)

  abbrev pub words_freed : List ℕ
  words_freed = put heap state.words (Control g) word

  abbrev entry : Entry
  entry = Frees (length fs)

  abbrev owner : ℕ → Owner
  owner = owner_after Free book.owner fs

  -- the book after it
  abbrev pub book_freed : Book
  book_freed = record book { history = book.history ++ entry ∷ []; owner = owner }

  abbrev before : Graph
  before = graph_of heap book.history

  pub graph_same_after_freeing : graph_of heap book_freed.history ≡ before
  graph_same_after_freeing = graph_after-more (opening heap) book.history entry

  are_dead : (f : ℕ) → 1 ≤ tally f fs → dead_bit (book.owner f) ≡ 1
  are_dead = set_bits_are_dead book.owner g dead small are

  inside : (f : ℕ) → 1 ≤ tally f fs → f < 16 * heap.groups
  inside f there = omega (arith, set_is_in_group g dead f there, below)

  pub same_kept_after_freeing : SameKept book.owner owner
  same_kept_after_freeing = same_kept_after_freeing_dead book.owner fs are_dead

  -- so what is kept stays kept
  kept_on : KeptStays before (graph_of heap book_freed.history) book.made book.made book.owner owner book.fragments book.fragments
  kept_on = rw graph_same_after_freeing (kept_stays_with_owners before book.made book.owner owner book.fragments same_kept_after_freeing)

  -- the spine words and the budget are as before, and the history tells of as many spine words
  pub leaves_spines_after_freeing : LeavesSpines heap state.words words_freed
  leaves_spines_after_freeing = leaves_spines_after_control heap state.words word g below

  pub same_told_after_freeing : budgets.SameTold book.history book_freed.history
  same_told_after_freeing = same_told_after_entry book.history entry record { granted = refl; returned = refl; begins_none = refl; swings_none = λ id e. absurd (cc) }

  -- as many fewer are taken
  fewer_taken : sum_upto (16 * heap.groups) (λ f. taken_bit (book.owner f)) ≡ sum_upto (16 * heap.groups) (λ f. taken_bit (owner f)) + length fs
  fewer_taken = handed_sum_falls_by_list taken_bit Free book.owner fs (set_has_each_once g dead) (16 * heap.groups) inside refl (λ f there. bit_of_each_dead taken_bit 1 (λ i k. refl) (book.owner f) (are_dead f there))

  used : AreUsed heap owner book_freed.history
  used = omega (
    arith,
    rule.heap_stands.used,
    fewer_taken,
    total-more (λ e. e.taken) book.history entry,
    total-more (λ e. e.given) book.history entry,
    total-more (λ e. e.freed) book.history entry,
  )

  room : fragments_lost book.history + length fs ≤ fragments_gained heap book.history
  room = omega (arith, rule.heap_stands.used, fewer_taken)

  module _ (sweeps : phase book.history % cycle_phases ≡ sweep_phase) (some : 1 ≤ length fs) (after : AfterMarking book.owner book.colour) where
    legal : IsLegal heap false book_freed.history
    legal = legal_after_entry heap false book.history entry rule.heap_stands.legal tt (keeps_space_of_frees heap false book.history (length fs) (sweeps, some, room))

    -- what is marked stays born
    marked_born : (f : ℕ) → IsMarked book.colour f → born_bit (book.owner f) ≡ 1 → born_bit (owner f) ≡ 1
    marked_born f marked born = handed_cases (λ o. born_bit o ≡ 1) Free book.owner fs f
        (λ there. let is = dead_bit_is_dead (book.owner f) (are_dead f there) in absurd (marked (after.dead_white f is.0 is.1 is.2))) (λ away. born)

    cycle : HeapInCycle heap words_freed (phase book.history) owner book.colour book.fragments
    cycle = let old = rule.heap_stands.cycle in record {
      word = phase_same_after_control heap state.words word g ∙ old.word;
      marks = marks_after_freeing heap state.words g rule.machine.table below book.colour old.marks dead small;
      coloured = coloured_stays heap state.words words_freed book.owner owner book.colour book.fragments (phase book.history)
          (λ making f source x born leads. inl (led_before_control_write heap state.words g word below f source x leads)) marked_born same_kept_after_freeing.was old.coloured;
    }

    -- the heap stands
    pub heap_stands_after_freeing : HeapStands heap words_freed book_freed
    heap_stands_after_freeing =
        let stands = rule.heap_stands in
        record {
          control_words = bits_after_freeing heap state.words g rule.machine.table below book.owner dead small are stands.control_words;
          owners = owners_stand_after_freeing book.owner fs are_dead heap.seats stands.owners;
          ids = rw graph_same_after_freeing stands.ids;
          objects = rw graph_same_after_freeing (objects_with_same_kept book.owner owner same_kept_after_freeing book.made book.fragments book.spines heap words_freed before
              (objects_after_control heap state.words before book.made book.owner book.fragments book.spines g word below stands.objects));
          spines = rw graph_same_after_freeing (spines_stand_with_budget heap state.words words_freed leaves_spines_after_freeing heap.seats (length book.made) book.spines book.fragments book.spine_owner
              (node_at before book.made) (node_at before book.made) book.owner owner same_kept_after_freeing (same_shape_of_itself (node_at before book.made))
              (dead_stay_after_control heap state.words book.owner owner g word below (dead_was_dead_before_freeing book.owner fs are_dead)) stands.spines);
          used = used;
          cycle = heap_in_cycle_after_entry heap words_freed owner book.colour book.history entry refl book.fragments cycle;
          legal = legal;
        }

  -- each seat stands
  pub seat_stands_after_freeing : (r : ℕ) → r < heap.seats → SeatStands heap state.words book r (seat_at state r) → SeatStands heap words_freed book_freed r (seat_at state r)
  seat_stands_after_freeing r under stands =
      let seat : Seat = seat_at state r in
      let fits = seat_fits rule r under in
      seat_stands_where_left_alone heap state.words words_freed book book_freed r seat record {
        calls = refl;
        party = same_party_of_same_graph before (graph_of heap book_freed.history) r (ap (λ (g : Graph). graph_seat g r) graph_same_after_freeing);
        told = seat_told_same_after_other r book.history entry refl;
        kept = kept_on;
        hand = same_hand_after_freeing book.owner fs are_dead r;
        stored = is_stored_after_control heap state.words r seat g word below stands.own.stored;
        spines = spines_left_of_itself r book.spine_owner;
        spine_stored = spine_is_stored_still heap state.words words_freed seat leaves_spines_after_freeing stands.own.spine.stored;
        address = address_at_stays heap state.words words_freed book book_freed seat kept_on
            (places_stay_where_same heap state.words words_freed (length book.made) book.spines book.spine_owner leaves_spines_after_freeing.spines) stands.names.way stands.names.address;
        gathers = gathers_right_after_freeing heap book.owner book.history fs (set_has_each_once g dead) inside are_dead (book.begun r) r seat.cursor seat.tried seat.given stands.told.began.earlier
            fits.own.cursor_within (tried_within_groups heap seat seat.point fits.at_point) stands.told.gathers;
        cycle = seat_in_cycle_after_other heap words_freed owner book.colour book.history entry refl r seat
            (seat_in_cycle_after_control heap state.words book.owner owner book.colour book.colour (phase book.history) (last_answer r book.history) (has_left r book.history) r seat g word below
            (omega (arith, under, rule.machine.limits.seats_fit)) (λ f marked. marked) (λ f borne. (was_borne_before Free book.owner fs r f (λ e. cc) borne, refl))
            (watched_is_born heap state book rule r under) stands.cycle) refl;
      } stands
