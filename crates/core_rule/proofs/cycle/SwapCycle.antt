-- What a call puts into a field is marked while black fragments are made; so the colours and the other seats' sets stand.
use Rattle.std.specs.Prelude.{IfSome}
use Rattle.std.proofs.Common.{◌≡◌, ◌≢◌, ℕ, ◌%◌, ◌*◌, ◌^◌, ◌<◌, List, Some, inl, inr, refl, sym, ap, ◌∙◌, arith}
use Rattle.core_rule.proofs.Terms.{cycle_phases, marking, black_births, sweep, Heap, Value, Register, WordPointsTo, graph_of, phase, Word, at, put, head_of, pointer_in, is_meta, spine_words_in, State, seat_at, Seat, Book, object_head}
use Rattle.core_rule.proofs.Terms.{IsMarked, IsBetween, HeapInCycle, NamesKept, value_word, HoldsValue, Rule}
use Rattle.core_machine.specs.declared.table.address.Address.TheVariants.{Answer, Phase}
use Rattle.core_machine.specs.seat.AccessMoves.{new_register_of}
use Rattle.core_machine.specs.seat.Registers.{register_head as head_of_register}
use Rattle.core_rule.proofs.entries.AtRest.{seat_fits}
use Rattle.core_rule.proofs.words.Addresses.{at-put_apart, control_same_after_word}
use Rattle.core_rule.proofs.cycle.CycleFrames.{LeadsStay, LeavesCycle, coloured_stays}
use Rattle.core_rule.proofs.ways.KeptWords.{named_value_has_room}
use Rattle.core_rule.proofs.colours.LeadsFrames.{tells_no_spine_after_put, led_before_or_by_written}
use Rattle.core_rule.proofs.colours.NoSpines.{value_tells_no_spine}
use Rattle.core_rule.proofs.colours.SourceCases.{TellsNoSpine}
use Rattle.core_rule.proofs.ways.ArrayWords.{plain_pointer_is_head, value_word_is_not_fixed}
use Rattle.core_rule.proofs.ways.LoadedObjects.{register_head_is_named_head}
use Rattle.core_rule.proofs.colours.MarkWords.{marks_where_controls_same}
use Rattle.core_rule.proofs.lists.Options.{holds_of_some}
use Rattle.core_rule.proofs.ways.Told.{HasRoom, head_in-value}

-- a seat may put its new value into the field that its call has reached
pub record Writes (heap : Heap) (state : State) (book : Book) (number : ℕ) : Type 0 where
  -- the field is one of its fragment's four words, and no spine stands there
  pub part_small : (seat_at state number).part < 4
  pub no_spine : TellsNoSpine heap state.words (seat_at state number).reached
  -- the new value is marked while black fragments are made, and what the field leads to while the collector marks
  pub new_marked : IsBetween black_births sweep (phase book.history) → IfSome (head_of_register (new_register_of (seat_at state number))) (IsMarked book.colour)
  pub taken_marked : state.collector.phase % cycle_phases ≡ marking → (g : ℕ) → WordPointsTo heap state.words (seat_at state number).reached (seat_at state number).part g → IsMarked book.colour g

-- its fragment is one of the heap's
pub swap_within_heap : (heap : Heap) (state : State) (book : Book) (number : ℕ) → Rule heap state book → number < heap.seats → (seat_at state number).reached < 16 * heap.groups
swap_within_heap heap state book number rule here = (seat_fits rule number here).way.reached_within

-- the word of a register's value leads to its object
pub register_word_leads : (heap : Heap) (state : State) (book : Book) → Rule heap state book → (part : ℕ) (held : Register) (value : Value) (stamp word : ℕ) → HoldsValue book.made book.owner book.fragments held value
    → NamesKept book.made book.owner book.fragments value → stamp < 2 ^ 32 → word ≡ value_word (object_head book.made book.fragments) value stamp → pointer_in part word ≡ head_of_register held
register_word_leads heap state book rule part held value stamp word holds names small is_word =
    let head = object_head book.made book.fragments in
    let room = named_value_has_room heap state.words (graph_of heap book.history) book.made book.owner book.fragments rule.machine.limits rule.heap_stands.control_words value names in
    plain_pointer_is_head part word (ap is_meta is_word ∙ value_word_is_not_fixed head value stamp room small) ∙ ap head_of is_word ∙ head_in-value head value stamp room small
    ∙ sym (register_head_is_named_head book.made book.owner book.fragments held value holds)

module _ (heap : Heap) (state : State) (book : Book) (number : ℕ) (rule : Rule heap state book) (here : number < heap.seats)
    (writes : Writes heap state book number)
    (value : Value) (stamp : ℕ) (holds : HoldsValue book.made book.owner book.fragments (new_register_of (seat_at state number)) value)
    (names : NamesKept book.made book.owner book.fragments value) (small : stamp < 2 ^ 32) (word : ℕ) (is_word : word ≡ value_word (object_head book.made book.fragments) value stamp) where
  abbrev seat : Seat
  seat = seat_at state number

  abbrev p : ℕ
  p = phase book.history

  abbrev pub words_swapped : List ℕ
  words_swapped = put heap state.words (Word seat.reached seat.part) word

  room : HasRoom (object_head book.made book.fragments) value
  room = named_value_has_room heap state.words (graph_of heap book.history) book.made book.owner book.fragments rule.machine.limits rule.heap_stands.control_words value names

  -- the new word is a cell's, so the fragment has no spine after it either
  pub swapped_tells_no_spine : TellsNoSpine heap words_swapped seat.reached
  swapped_tells_no_spine = tells_no_spine_after_put heap state.words seat.reached seat.part word rule.machine.table (swap_within_heap heap state book number rule here)
      (ap spine_words_in is_word ∙ value_tells_no_spine (object_head book.made book.fragments) value stamp room small) writes.no_spine

  -- the new word leads to what is marked while black fragments are made
  new_marked : IsBetween 2 5 p → (x : ℕ) → pointer_in seat.part word ≡ Some x → IsMarked book.colour x
  new_marked making x leads =
      let new_leads = register_word_leads heap state book rule seat.part (new_register_of seat) value stamp word holds names small is_word in
      holds_of_some (IsMarked book.colour) (head_of_register (new_register_of seat)) x (sym new_leads ∙ leads) (writes.new_marked making)

  pub leads_stay_after_swap : LeadsStay heap state.words words_swapped book.owner book.colour p
  leads_stay_after_swap making f source x born leads = elim (led_before_or_by_written heap state.words seat.reached seat.part word (swap_within_heap heap state book number rule here) writes.part_small
      writes.no_spine swapped_tells_no_spine rule.machine.table f source x leads) [
        | inl before ↦ inl before
        | inr new ↦ inr (new_marked making x new.2)
      ]

  -- the heap stands
  pub heap_in_cycle_after_swap : HeapInCycle heap words_swapped p book.owner book.colour book.fragments
  heap_in_cycle_after_swap =
      let cycle = rule.heap_stands.cycle in
      record {
        word = at-put_apart heap state.words (Word seat.reached seat.part) Phase word (λ e. omega (arith, e)) ∙ cycle.word;
        marks = marks_where_controls_same heap state.words words_swapped book.colour (λ group below. control_same_after_word heap state.words word seat.reached seat.part group below) cycle.marks;
        coloured = coloured_stays heap state.words words_swapped book.owner book.owner book.colour book.fragments p leads_stay_after_swap (λ x marked born. born) (λ x i k keeps. keeps) cycle.coloured;
      }

  -- no answer changes
  pub answer_same_after_swap : (r : ℕ) → r < heap.seats → at heap words_swapped (Answer r) ≡ at heap state.words (Answer r)
  answer_same_after_swap r below = at-put_apart heap state.words (Word seat.reached seat.part) (Answer r) word (λ e. omega (arith, e, below, rule.machine.limits.seats_fit))

  -- and what the others need is left
  pub leaves_cycle_after_swap : (r : ℕ) → r < heap.seats → r ≢ number → LeavesCycle heap state.words words_swapped book.owner book.owner book.colour book.colour p r
  leaves_cycle_after_swap r below apart = record {
    answer = answer_same_after_swap r below;
    leads = leads_stay_after_swap;
    marks = λ f marked. marked;
    births = λ f borne. (borne, refl);
  }
