-- What stands of the heap and of the seats at a step on the budget, the spot or a spine word: no fragment's word changes, no control word and no answer.
use Rattle.std.proofs.Common.{◌≡◌, ℕ, ◌*◌, ◌/◌, ◌%◌, ◌+◌, ◌<◌, ◌≤◌, List, length, inl, refl, ◌∙◌, arith}
use Rattle.core_rule.proofs.Terms.{Heap, graph_of, phase, last_answer, has_left, Graph, spine_words_of, Control, Word, State, seat_at, Seat, at, put, index_of, spine_place, Book}
use Rattle.core_rule.proofs.Terms.{Black, fragment_at, WordPointsTo, SeatInCycle, IsStored, IsKept, node_at, SpineOwner, Rule, HeapStands, SeatStands, SpinesStand}
use Rattle.core_machine.specs.declared.table.address.Address.{Address}
use Rattle.core_machine.specs.declared.table.address.Address.TheVariants.{Phase, Answer}
use Rattle.core_rule.proofs.colours.LeadsFrames.{led_before_where_same}
use Rattle.core_rule.proofs.colours.MarkWords.{marks_where_controls_same}
use Rattle.core_rule.proofs.cycle.CycleFrames.{seat_in_cycle_where_watched}
use Rattle.core_rule.proofs.cycle.FieldFrames.{watched_is_kept_fragment}
use Rattle.core_rule.proofs.entries.AtRest.{seat_fits}
use Rattle.core_rule.proofs.entries.InFlight.{stored_within_body}
use Rattle.core_rule.proofs.frames.SeatFrames.{seat_told_same_without_entry, kept_stays_with_owners, address_at_stays, seat_stands_where_left_alone}
use Rattle.heap_model.proofs.graph_changes.SameParties.{same_party_of_same_graph}
use Rattle.core_rule.proofs.hand.HandMoves.{same_hand_of_itself}
use Rattle.core_rule.proofs.marking.KeptSources.{same_sources_of_kept}
use Rattle.core_rule.proofs.objects.ObjectFrames.{objects_with_same_words}
use Rattle.core_rule.proofs.spines.SpineFrames.{same_kept_of_itself, SpinesLeft, SpineIsStored, PlacesStay}
use Rattle.core_rule.proofs.ways.KeptWords.{owned_within_heap}
use Rattle.core_rule.proofs.words.Addresses.{at-put_apart, SameSpines}
use Rattle.core_rule.proofs.words.ControlLemmas.{bits_where_controls_same}

-- the control words, the fragments' words, the phase and the answers are as before
pub record LeavesBeside (heap : Heap) (words now : List ℕ) : Type 0 where
  pub controls : (group : ℕ) → group < heap.groups → at heap now (Control group) ≡ at heap words (Control group)
  pub parts : (f part : ℕ) → f < 16 * heap.groups → part < 4 → at heap now (Word f part) ≡ at heap words (Word f part)
  pub phase_word : at heap now Phase ≡ at heap words Phase
  pub answers : (r : ℕ) → r < 16 → at heap now (Answer r) ≡ at heap words (Answer r)

-- so they are where a word behind the answers is written that is none of the fragments' and no control word
pub leaves_beside_word_aside : (heap : Heap) (words : List ℕ) (a : Address) (n : ℕ) → 17 ≤ index_of heap a → index_of heap a < 19 → LeavesBeside heap words (put heap words a n)
leaves_beside_word_aside heap words a n behind ahead = record {
  controls = λ group below. at-put_apart heap words a (Control group) n (λ e. omega (arith, e, ahead));
  parts = λ f part within fits. at-put_apart heap words a (Word f part) n (λ e. omega (arith, e, ahead));
  phase_word = at-put_apart heap words a Phase n (λ e. omega (arith, e, behind));
  answers = λ r few. at-put_apart heap words a (Answer r) n (λ e. omega (arith, e, behind, few));
}

pub leaves_beside_spine_word : (heap : Heap) (words : List ℕ) (a : Address) (n : ℕ) → 19 + 65 * heap.groups ≤ index_of heap a → LeavesBeside heap words (put heap words a n)
leaves_beside_spine_word heap words a n behind = record {
  controls = λ group below. at-put_apart heap words a (Control group) n (λ e. omega (arith, e, behind, below));
  parts = λ f part within fits. at-put_apart heap words a (Word f part) n (λ e. omega (arith, e, behind, within, fits));
  phase_word = at-put_apart heap words a Phase n (λ e. omega (arith, e, behind));
  answers = λ r few. at-put_apart heap words a (Answer r) n (λ e. omega (arith, e, behind, few));
}

-- the words of kept arrays' spines are as before
abbrev pub ArraysStay : Heap → List ℕ → List ℕ → Book → Type 0
ArraysStay heap words now book = (i j : ℕ) → i < length book.made → IsKept book.owner book.fragments i → j < spine_words_of (node_at (graph_of heap book.history) book.made i)
    → at heap now (spine_place (book.spines i) j) ≡ at heap words (spine_place (book.spines i) j)

-- so they are where every spine word is
pub arrays_stay : (heap : Heap) (words now : List ℕ) (book : Book) → SameSpines heap words now → ArraysStay heap words now book
arrays_stay heap words now book same i j below kept within = same _ _

module _ (heap : Heap) (state : State) (book : Book) (rule : Rule heap state book) (now : List ℕ) (beside : LeavesBeside heap state.words now) (spines : ArraysStay heap state.words now book) where
  abbrev g : Graph
  g = graph_of heap book.history

  -- the book with other owners of spine words
  abbrev pub with_spine_owner : (ℕ → ℕ → SpineOwner) → Book
  with_spine_owner spine_owner = record book { spine_owner = spine_owner }

  -- the heap stands, where black fragments lead where they led, and the spine words stand
  pub heap_stands_beside : (spine_owner : ℕ → ℕ → SpineOwner) → ((f source x : ℕ) → book.colour f ≡ Black → WordPointsTo heap now f source x → WordPointsTo heap state.words f source x)
      → SpinesStand heap now heap.seats (length book.made) (node_at g book.made) book.owner book.fragments book.spines spine_owner → HeapStands heap now (with_spine_owner spine_owner)
  heap_stands_beside spine_owner black spines_stand =
      let stands = rule.heap_stands in
      let coloured = stands.cycle.coloured in
      record {
        control_words = bits_where_controls_same heap state.words now book.owner beside.controls stands.control_words;
        owners = stands.owners;
        ids = stands.ids;
        objects = objects_with_same_words heap state.words now g book.made book.owner book.fragments book.spines
            (λ f i k part is fits. beside.parts f part (owned_within_heap heap state.words book.owner f i k stands.control_words is) fits) spines stands.objects;
        spines = spines_stand;
        used = stands.used;
        cycle = record {
          word = beside.phase_word ∙ stands.cycle.word;
          marks = marks_where_controls_same heap state.words now book.colour beside.controls stands.cycle.marks;
          coloured = record {
            rest = coloured.rest;
            early = coloured.early;
            born = coloured.born;
            black = λ making f source x dark leads. coloured.black making f source x dark (black f source x dark leads);
            first = coloured.first;
          };
        };
        legal = stands.legal;
      }

  -- a seat has its standing in the cycle
  cycle_beside : (r : ℕ) → r < heap.seats → SeatInCycle heap now (phase book.history) (last_answer r book.history) (has_left r book.history) book.owner book.colour r (seat_at state r)
  cycle_beside r below =
      seat_in_cycle_where_watched heap state.words now book.owner book.owner book.colour book.colour (phase book.history) (last_answer r book.history) (has_left r book.history) r (seat_at state r)
      (beside.answers r (omega (arith, below, rule.machine.limits.seats_fit))) (λ f marked. marked) (λ f borne. (borne, refl))
      (λ making reaching is watching x leads.
      let kept_fragment = watched_is_kept_fragment heap state book rule r below reaching is watching in
      inl (led_before_where_same heap state.words now (seat_at state r).reached (same_sources_of_kept heap state book rule now beside.parts spines (seat_at state r).reached kept_fragment.index kept_fragment.position kept_fragment.kept) (seat_at state r).part x leads))
      (rule.seats_stand r below).cycle

  -- what it has stored into its object stands
  stored_beside : (r : ℕ) → r < heap.seats → IsStored heap now r (seat_at state r)
  stored_beside r below u less =
      let seat : Seat = seat_at state r in
      let fits = seat_fits rule r below in
      let row : u / 4 < length seat.body = omega (arith, less, stored_within_body heap seat seat.point fits.at_point) in
      beside.parts (fragment_at seat.body (u / 4)) (u % 4) (fits.hand.body_within (u / 4) 0 row) (omega arith) ∙ (rule.seats_stand r below).own.stored u less

  -- and so does all of a seat that has its spine words, where what arrays have left stays as it is
  pub seat_stands_beside : (spine_owner : ℕ → ℕ → SpineOwner) (r : ℕ) → r < heap.seats → SpinesLeft r book.spine_owner spine_owner → SpineIsStored heap now (seat_at state r)
      → PlacesStay heap state.words now (length book.made) book.spines book.spines book.spine_owner spine_owner → SeatStands heap now (with_spine_owner spine_owner) r (seat_at state r)
  seat_stands_beside spine_owner r below left stored places =
      let stands = rule.seats_stand r below in
      let kept = kept_stays_with_owners g book.made book.owner book.owner book.fragments (same_kept_of_itself book.owner) in
      seat_stands_where_left_alone heap state.words now book (with_spine_owner spine_owner) r (seat_at state r) record {
        calls = refl;
        party = same_party_of_same_graph g g r refl;
        told = seat_told_same_without_entry r book.history;
        kept = kept;
        hand = same_hand_of_itself r book.owner;
        stored = stored_beside r below;
        spines = left;
        spine_stored = stored;
        address = address_at_stays heap state.words now book (with_spine_owner spine_owner) (seat_at state r) kept places stands.names.way stands.names.address;
        gathers = stands.told.gathers;
        cycle = cycle_beside r below;
      } stands
