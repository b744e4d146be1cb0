-- The heap and each seat stand once an array has swung: a call that has loaded its old place reads a replica that the array has left.
use Rattle.std.proofs.Common.{◌≡◌, ◌≢◌, ◌⊎◌, ℕ, ◌+◌, ◌%◌, ◌<◌, false, List, inl, inr, refl, sym, ap, ◌∙◌, subst, arith}
use Rattle.std.proofs.lemmas.Bool.{cases_eq}
use Rattle.core_rule.proofs.Terms.{cycle_phases, spot_word, Entry, Heap, IsLegal, graph_of, phase, last_answer, has_left, Graph, graph_seat, Point, Word, Control, State, seat_at}
use Rattle.core_rule.proofs.Terms.{Seat, at, Book, IsBetween, HeapInCycle, SeatInCycle, node_at, AddressStands, HasLoaded, IsLeftReplica, Rule, HeapStands, SeatStands}
use Rattle.heap_model.specs.PhasePlan.{copying as copying_phase}
use Rattle.heap_words.specs.declared.spot.Spot.{Spot}
use Rattle.heap_model.proofs.Histories.{total-more}
use Rattle.core_machine.specs.declared.collector.stage.Copying.TheVariants.{Swinging}
use Rattle.core_machine.specs.declared.collector.stage.SpineCopy.{SpineCopy}
use Rattle.core_machine.specs.declared.collector.stage.Stage.TheVariants as stages
use Rattle.core_machine.specs.declared.point.Point.TheVariants as points
use Rattle.core_machine.specs.declared.table.address.Address.TheVariants.{Answer, Phase}
use Rattle.core_rule.proofs.colours.MarkWords.{marks_where_controls_same}
use Rattle.core_rule.proofs.copies.CopyingStages.{phase_is_copying}
use Rattle.core_rule.proofs.copies.SwungBook.{swung_is_to_copy, i, s, swung_array_is_kept, swung_first_within_heap, swung_spine_names_payload, led_before_swing, now, entry, book_swung, graph_same_after_swing, objects_after_swing, spines_stand_after_swing}
use Rattle.core_rule.proofs.copies.SwungWords.{left_word_is_gone, other_spine_stays_at_swing, placed_word_stays_at_swing, placed_before_swing, swung_word}
use Rattle.core_rule.proofs.cycle.CycleFrames.{coloured_stays, seat_in_cycle_where_watched}
use Rattle.core_rule.proofs.cycle.CycleHistory.{heap_in_cycle_after_entry, seat_in_cycle_after_other}
use Rattle.core_rule.proofs.entries.AtRest.{seat_fits, in_flight_has_not_left}
use Rattle.core_rule.proofs.entries.InFlight.{stored_within_body}
use Rattle.core_rule.proofs.entries.Others.{gathers_right_after_entry}
use Rattle.core_rule.proofs.frames.SeatFrames.{seat_told_same_after_other, kept_stays_with_owners, seat_stands_where_left_alone}
use Rattle.heap_model.proofs.graph_changes.SameParties.{same_party_of_same_graph}
use Rattle.core_rule.proofs.hand.HandMoves.{same_hand_of_itself}
use Rattle.core_rule.proofs.hand.StoredFrames.{is_stored_after_store}
use Rattle.core_rule.proofs.owners.OwnerLemmas.{own_is_not_kept}
use Rattle.core_rule.proofs.spines.SpineFrames.{SpinesLeft, same_kept_of_itself, spine_is_stored_by_words}
use Rattle.core_rule.proofs.words.Addresses.{at-put_apart, control_same_after_word, same_spines_after_word, SameSpines}
use Rattle.core_rule.proofs.words.ControlLemmas.{bits_where_controls_same}
use Rattle.core_rule.proofs.ways.LoadedPlaces.{while_loaded_goes_on}

module _ (heap : Heap) (state : State) (book : Book) (rule : Rule heap state book) (copy : SpineCopy) (swinging : state.collector.stage ≡ stages.Copying (Swinging copy)) where
  abbrev words : List ℕ
  words = now heap state book rule copy swinging

  abbrev later : Book
  later = book_swung heap state book rule copy swinging

  abbrev n : ℕ
  n = i heap state book rule copy swinging

  abbrev f : ℕ
  f = s heap state book rule copy swinging

  abbrev told : Entry
  told = entry heap state book rule copy swinging

  -- no control word, answer or spine word changes, nor the phase
  same_spines : SameSpines heap state.words words
  same_spines = same_spines_after_word heap state.words (spot_word copy.to) f 2 (swung_first_within_heap heap state book rule copy swinging) (omega arith)

  controls : (group : ℕ) → group < heap.groups → at heap words (Control group) ≡ at heap state.words (Control group)
  controls group below = control_same_after_word heap state.words (spot_word copy.to) f 2 group below

  answers : (r : ℕ) → r < heap.seats → at heap words (Answer r) ≡ at heap state.words (Answer r)
  answers r below = at-put_apart heap state.words (Word f 2) (Answer r) (spot_word copy.to) (λ e. omega (arith, e, below, rule.machine.limits.seats_fit))

  -- the heap stands
  cycle_swung : HeapInCycle heap words (phase book.history) book.owner book.colour book.fragments
  cycle_swung = let old = rule.heap_stands.cycle in record {
    word = at-put_apart heap state.words (Word f 2) Phase (spot_word copy.to) (λ e. omega (arith, e)) ∙ old.word;
    marks = marks_where_controls_same heap state.words words book.colour controls old.marks;
    coloured = coloured_stays heap state.words words book.owner book.owner book.colour book.fragments (phase book.history)
        (λ making x source y born leads. inl (led_before_swing heap state book rule copy swinging x source y leads)) (λ x marked born. born) (λ x j k keeps. keeps) old.coloured;
  }

  pub heap_stands_after_swing : IsLegal heap false later.history → HeapStands heap words later
  heap_stands_after_swing legal = let stands = rule.heap_stands in let graph = graph_same_after_swing heap state book rule copy swinging in record {
    control_words = bits_where_controls_same heap state.words words book.owner controls stands.control_words;
    owners = stands.owners;
    ids = rw graph stands.ids;
    objects = rw graph (objects_after_swing heap state book rule copy swinging);
    spines = rw graph (spines_stand_after_swing heap state book rule copy swinging);
    used = rw (total-more (λ e. e.given) book.history told, total-more (λ e. e.freed) book.history told, total-more (λ e. e.taken) book.history told) (omega (arith, stands.used));
    cycle = heap_in_cycle_after_entry heap words book.owner book.colour book.history told refl book.fragments cycle_swung;
    legal = legal;
  }

  -- what a party has it had
  pub parties_left : (r : ℕ) → r < heap.seats → SpinesLeft r book.spine_owner later.spine_owner
  parties_left r below = record {
    stays = λ half offset k is. placed_word_stays_at_swing heap.seats n (book.spine_owner half offset) r k (λ e. omega (arith, e, below)) is;
    own = λ half offset k is. (placed_before_swing heap.seats n (book.spine_owner half offset) r k is).0;
  }

  module _ (r : ℕ) (below : r < heap.seats) where
    abbrev seat : Seat
    seat = seat_at state r

    -- a call on its way has answered the phase of copying, or the one before
    is_late : seat.point ≢ points.Idle → IsBetween 3 4 seat.answered
    is_late busy =
        let agrees = (rule.seats_stand r below).cycle.answers_told in
        let fourth : phase book.history % cycle_phases ≡ copying_phase = ap (λ p. p % cycle_phases) (sym rule.collector_stands.phase_told) ∙ phase_is_copying heap state book rule (Swinging copy) swinging in
        elim (agrees.near (in_flight_has_not_left rule r below busy)) [
          | inl same ↦ record { from = omega (arith, same, fourth); upto = omega (arith, same, fourth) }
          | inr behind ↦ record { from = omega (arith, behind, fourth); upto = omega (arith, behind, fourth) }
        ]

    abbrev IsReplica : ℕ → Spot → Type 0
    IsReplica j address = IsLeftReplica heap words (node_at (graph_of heap book.history) book.made j) (book.fragments j) later.spine_owner seat.answered address

    -- what was left before is so yet
    replica_stays : (j : ℕ) → IsLeftReplica heap state.words (node_at (graph_of heap book.history) book.made j) (book.fragments j) book.spine_owner seat.answered seat.address → IsReplica j seat.address
    replica_stays j old = record {
      late = old.late;
      left = λ k less. ap (swung_word heap.seats n) (old.left k less);
      listed = λ k less. same_spines seat.address.half (seat.address.offset + k) ∙ old.listed k less;
    }

    -- the place where the array stood is left then
    place_left : seat.point ≢ points.Idle → seat.address ≡ book.spines n → IsReplica n seat.address
    place_left busy there = subst (IsReplica n) (sym there) record {
      late = is_late busy;
      left = λ k less. left_word_is_gone heap.seats n (book.spine_owner (book.spines n).half ((book.spines n).offset + k)) k
          (rule.heap_stands.spines.kept n k (swung_array_is_kept heap state book rule copy swinging).0 (swung_array_is_kept heap state book rule copy swinging).1 less);
      listed = λ k less. same_spines (book.spines n).half ((book.spines n).offset + k) ∙ swung_spine_names_payload heap state book rule copy swinging k less;
    }

    abbrev AddressAt : Point → Type 0
    AddressAt point = AddressStands heap words (node_at (graph_of heap book.history) book.made) book.owner book.fragments later.spines later.spine_owner seat point

    address_swung : (point : Point) → seat.point ≡ point
        → AddressStands heap state.words (node_at (graph_of heap book.history) book.made) book.owner book.fragments book.spines book.spine_owner seat point → AddressAt point
    address_swung point is = while_loaded_goes_on point (λ has reads j f calls kept an_array. elim (reads j f calls kept an_array) as (λ _. (seat.address ≡ later.spines j) ⊎ IsReplica j seat.address) [
      | inr replica ↦ inr (replica_stays j replica)
      | inl there ↦ elim (cases_eq j n) as (λ _. (seat.address ≡ later.spines j) ⊎ IsReplica j seat.address) [
        | inl same ↦ inr (subst (λ m. IsReplica m seat.address) (sym same) (place_left (λ idle. subst HasLoaded (sym is ∙ idle) has) (there ∙ ap book.spines same)))
        | inr other ↦ inl (there ∙ sym (other_spine_stays_at_swing n copy.to book.spines j other))
      ]
    ])

    cycle_seat : SeatInCycle heap words (phase book.history) (last_answer r book.history) (has_left r book.history) book.owner book.colour r seat
    cycle_seat = seat_in_cycle_where_watched heap state.words words book.owner book.owner book.colour book.colour (phase book.history) (last_answer r book.history) (has_left r book.history) r seat
        (answers r below) (λ x marked. marked) (λ x borne. (borne, refl)) (λ making reaching is watching x leads. inl (led_before_swing heap state book rule copy swinging seat.reached seat.part x leads))
        (rule.seats_stand r below).cycle

    -- and each seat stands
    pub seat_stands_after_swing : SeatStands heap state.words book r seat → SeatStands heap words later r seat
    seat_stands_after_swing stands =
        let fits = seat_fits rule r below in
        let graph = graph_same_after_swing heap state book rule copy swinging in
        seat_stands_where_left_alone heap state.words words book later r seat record {
          calls = refl;
          party = same_party_of_same_graph (graph_of heap book.history) (graph_of heap later.history) r (ap (λ (g : Graph). graph_seat g r) graph);
          told = seat_told_same_after_other r book.history told refl;
          kept = rw graph (kept_stays_with_owners (graph_of heap book.history) book.made book.owner book.owner book.fragments (same_kept_of_itself book.owner));
          hand = same_hand_of_itself r book.owner;
          stored = is_stored_after_store heap state.words book.owner r seat f 2 (spot_word copy.to) stands.own.holding (stored_within_body heap seat seat.point fits.at_point) (omega arith)
              (λ own. own_is_not_kept r n 0 (book.owner f) own (swung_is_to_copy heap state book rule copy swinging).found.begins.kept) stands.own.stored;
          spines = parties_left r below;
          spine_stored = spine_is_stored_by_words heap state.words words seat same_spines stands.own.spine.stored;
          address = rw graph (address_swung seat.point refl stands.names.address);
          gathers = gathers_right_after_entry heap book.owner r book.history (book.begun r) told seat.cursor seat.tried seat.given stands.told.began.earlier stands.told.gathers;
          cycle = seat_in_cycle_after_other heap words book.owner book.colour book.history told refl r seat cycle_seat refl;
        } stands
