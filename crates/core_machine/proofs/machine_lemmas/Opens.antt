-- The words of a table that opens.
use Rattle.std.proofs.Common.{◌∷◌, replicate, suc, ◌≡◌, ◌≢◌, ℕ, ◌+◌, ◌*◌, ◌/◌, ◌%◌, ◌<◌, ◌≤◌, ◌^◌, List, map, length, replicate, get_or, ltb, true, false, refl, sym, ap, ◌∙◌, subst, inl, inr, arith}
use Rattle.std.proofs.lemmas.Bool.{lt-ltb, le-ltb}
use Rattle.std.proofs.lemmas.Bool.Decides.{eqb_tells, leb_tells}
use Rattle.std.proofs.lemmas.List.{get_or-replicate, get_or_past, length-replicate}
use Rattle.heap_words.specs.declared.phase.TheConstants.{LEFT}
use Rattle.heap_words.specs.Spot.{spot_word}
use Rattle.std.specs.List.{range_with_len, All}
use Rattle.std.proofs.lemmas.List.FromFn.{get_or-map-range_with_len, length-map-range_with_len}
use Rattle.std.proofs.lemmas.List.Elements.{All-nil, All-cons, All-replicate}
use Rattle.core_machine.proofs.Terms.{Heap, IsHeap, Address, Phase, Answer, Budget, Control, Word, table_length, index_of, InTable, at, put, Seat, absent_seat, Nil, Object}
use Rattle.core_machine.proofs.Terms.{pointer_in, IsWithinHeap, FoundPointsWithin, FitsRegister, Fits, IsMachine}
use Rattle.core_machine.specs.declared.table.address.Address.TheVariants.{Spot, Spine}
use Rattle.core_machine.specs.machine.Opening.{board, board_name, board_word, board_group, opening_word, opening_seat, with_left, with_board}
use Rattle.heap_model.specs.Board.{board_fields, board_fragments}
use Rattle.heap_model.specs.declared.id.Id.TheVariants.{Board}
use Rattle.core_machine.specs.collector.Collector.{Collector, opening_collector}
use Rattle.core_machine.specs.seat.Fits.{CollectorFits}
use Rattle.core_machine.proofs.machine_lemmas.BoardPlace.{board_within}
use Rattle.core_machine.proofs.seat_lemmas.Aside.{left_aside_is_absurd, empty_hand_fits, empty_way_fits}
use Rattle.core_machine.proofs.table_lemmas.Leading.{record_leads_within_heap, zero_leads_within_heap}
use Rattle.core_machine.proofs.table_lemmas.Addresses.{length-put, at-put_same, at-put_other}

-- another number hasn't
with_left-other : (heap : Heap) (n number word : ℕ) → number ≢ n → with_left heap n (Answer number) word ≡ with_left heap (n + 1) (Answer number) word
with_left-other heap n number word other =
    elim (leb_tells (suc number) n) as (λ _. with_left heap n (Answer number) word ≡ with_left heap (n + 1) (Answer number) word) [
      | inl below ↦ rw (below.0, lt-ltb number (n + 1) (omega arith)) refl
      | inr above ↦ rw (above.0, le-ltb number (n + 1) (omega arith)) refl
    ]

-- one number more has left
pub put_leaves_one_more : (heap : Heap) (words : List ℕ) (n : ℕ) (a : Address) (word : ℕ) → length words ≡ table_length heap → heap.seats ≤ n → n < 16
    → InTable heap a → at heap words a ≡ with_left heap n a word → at heap (put heap words (Answer n) LEFT) a ≡ with_left heap (n + 1) a word
put_leaves_one_more heap words n (Answer number) word table past within there is =
    elim (eqb_tells number n) as (λ _. at heap (put heap words (Answer n) LEFT) (Answer number) ≡ with_left heap (n + 1) (Answer number) word) [
      | inl here ↦
          let out : ltb number heap.seats ≡ false = le-ltb number heap.seats (omega arith) in
          let now : ltb number (n + 1) ≡ true = lt-ltb number (n + 1) (omega arith) in
          rw (out, now) (ap (λ (m : ℕ). at heap (put heap words (Answer n) LEFT) (Answer m)) here.1 ∙ at-put_same heap words (Answer n) LEFT table within)
      | inr other ↦
          at-put_other heap words (Answer n) (Answer number) LEFT within there (λ same. other.1 (cc same)) ∙ is ∙ with_left-other heap n number word other.1
    ]
put_leaves_one_more heap words n Phase word table past within there is = at-put_other heap words (Answer n) Phase LEFT within tt (λ e. cc) ∙ is
put_leaves_one_more heap words n Budget word table past within there is = at-put_other heap words (Answer n) Budget LEFT within tt (λ e. cc) ∙ is
put_leaves_one_more heap words n Spot word table past within there is = at-put_other heap words (Answer n) Spot LEFT within tt (λ e. cc) ∙ is
put_leaves_one_more heap words n (Control group) word table past within there is = at-put_other heap words (Answer n) (Control group) LEFT within there (λ e. cc) ∙ is
put_leaves_one_more heap words n (Word fragment part) word table past within there is = at-put_other heap words (Answer n) (Word fragment part) LEFT within there (λ e. cc) ∙ is
put_leaves_one_more heap words n (Spine half offset) word table past within there is = at-put_other heap words (Answer n) (Spine half offset) LEFT within there (λ e. cc) ∙ is

-- the next of the board's words
abbrev pub next_word : Heap → ℕ → ℕ
next_word heap position = board_word heap (position / 4) (position % 4)

-- another word isn't
with_board-other : (heap : Heap) (fragment part position word : ℕ) → 4 * fragment + part ≢ position
    → with_board heap position (Word fragment part) word ≡ with_board heap (position + 1) (Word fragment part) word
with_board-other heap fragment part position word other =
    elim (leb_tells (suc (4 * fragment + part)) position) as (λ _. with_board heap position (Word fragment part) word ≡ with_board heap (position + 1) (Word fragment part) word) [
      | inl below ↦ rw (below.0, lt-ltb (4 * fragment + part) (position + 1) (omega arith)) refl
      | inr above ↦ rw (above.0, le-ltb (4 * fragment + part) (position + 1) (omega arith)) refl
    ]

pub put_boards_one_more : (heap : Heap) (words : List ℕ) (position : ℕ) (a : Address) (word : ℕ) → length words ≡ table_length heap → 1 ≤ heap.groups → position < 64
    → InTable heap a → at heap words a ≡ with_board heap position a word
    → at heap (put heap words (Word (position / 4) (position % 4)) (next_word heap position)) a ≡ with_board heap (position + 1) a word
put_boards_one_more heap words position (Word fragment part) word table some within there is =
    elim (eqb_tells (4 * fragment + part) position) as (λ _. at heap (put heap words (Word (position / 4) (position % 4)) (next_word heap position)) (Word fragment part) ≡ with_board heap (position + 1) (Word fragment part) word) [
      | inl here ↦
          let f : position / 4 ≡ fragment = omega arith in
          let p : position % 4 ≡ part = omega arith in
          let now : ltb (4 * fragment + part) (position + 1) ≡ true = lt-ltb (4 * fragment + part) (position + 1) (omega arith) in
          rw (f, p, now) (at-put_same heap words (Word fragment part) (board_word heap fragment part) table there)
      | inr other ↦
          at-put_other heap words (Word (position / 4) (position % 4)) (Word fragment part) (next_word heap position) (omega arith, omega arith) there
          (λ same. other.1 (let f : fragment ≡ position / 4 = cc in let p : part ≡ position % 4 = cc in omega arith))
          ∙ is ∙ with_board-other heap fragment part position word other.1
    ]
put_boards_one_more heap words position (Answer number) word table some within there is = at-put_other heap words (Word (position / 4) (position % 4)) (Answer number) (next_word heap position) (omega arith, omega arith) there (λ e. cc) ∙ is
put_boards_one_more heap words position Phase word table some within there is = at-put_other heap words (Word (position / 4) (position % 4)) Phase (next_word heap position) (omega arith, omega arith) tt (λ e. cc) ∙ is
put_boards_one_more heap words position Budget word table some within there is = at-put_other heap words (Word (position / 4) (position % 4)) Budget (next_word heap position) (omega arith, omega arith) tt (λ e. cc) ∙ is
put_boards_one_more heap words position Spot word table some within there is = at-put_other heap words (Word (position / 4) (position % 4)) Spot (next_word heap position) (omega arith, omega arith) tt (λ e. cc) ∙ is
put_boards_one_more heap words position (Control group) word table some within there is = at-put_other heap words (Word (position / 4) (position % 4)) (Control group) (next_word heap position) (omega arith, omega arith) there (λ e. cc) ∙ is
put_boards_one_more heap words position (Spine half offset) word table some within there is = at-put_other heap words (Word (position / 4) (position % 4)) (Spine half offset) (next_word heap position) (omega arith, omega arith) there (λ e. cc) ∙ is

-- a list of one number reads as that number, and so it does past its end
read_same : (n i number : ℕ) → get_or (replicate n number) i number ≡ number
read_same n i number = elim (leb_tells (suc i) n) as (λ _. get_or (replicate n number) i number ≡ number) [
  | inl within ↦ get_or-replicate n i number number within.1
  | inr past ↦ get_or_past (replicate n number) i number (omega (arith, past.1, length-replicate n number))
]

-- a table of zeros
pub zeros_read_zero : (heap : Heap) (words : List ℕ) (a : Address) → words ≡ replicate (table_length heap) 0 → at heap words a ≡ 0
unfolding at
zeros_read_zero heap words a is = rw is (read_same (table_length heap) (index_of heap a) 0)

-- the word of the spot
abbrev pub spot_word_of : ℕ
spot_word_of = spot_word (record { half = 0; offset = 0 })

-- past the spot and the first control word, nothing else is written between
between : (heap : Heap) (left : List ℕ) (a : Address) (spot group : ℕ) → 1 ≤ heap.groups → InTable heap a → a ≢ Spot → a ≢ Control 0
    → at heap (put heap (put heap left Spot spot) (Control 0) group) a ≡ at heap left a
between heap left a spot group some within apart away =
    at-put_other heap (put heap left Spot spot) (Control 0) a group some within away ∙ at-put_other heap left Spot a spot tt within apart

module _ (heap : Heap) (zeros left words : List ℕ) (some : 1 ≤ heap.groups) (table : length left ≡ table_length heap) where
  -- the words, once all is written, are those of the opening
  pub words_are_opening_words : (a : Address) → InTable heap a → at heap zeros a ≡ 0 → at heap left a ≡ with_left heap 16 a (at heap zeros a)
      → at heap words a ≡ with_board heap (4 * board_fragments heap) a (at heap (put heap (put heap left Spot spot_word_of) (Control 0) (board_group heap)) a)
      → at heap words a ≡ opening_word heap a
  words_are_opening_words Phase within zero left_is is = is ∙ between heap left Phase spot_word_of (board_group heap) some within (λ e. cc) (λ e. cc) ∙ left_is ∙ zero
  words_are_opening_words Budget within zero left_is is = is ∙ between heap left Budget spot_word_of (board_group heap) some within (λ e. cc) (λ e. cc) ∙ left_is ∙ zero
  words_are_opening_words (Spine half offset) within zero left_is is = is ∙ between heap left (Spine half offset) spot_word_of (board_group heap) some within (λ e. cc) (λ e. cc) ∙ left_is ∙ zero
  words_are_opening_words Spot within zero left_is is =
      is ∙ at-put_other heap (put heap left Spot spot_word_of) (Control 0) Spot (board_group heap) some tt (λ e. cc) ∙ at-put_same heap left Spot spot_word_of table tt
  words_are_opening_words (Answer number) within zero left_is is =
      is ∙ between heap left (Answer number) spot_word_of (board_group heap) some within (λ e. cc) (λ e. cc) ∙ left_is ∙ answers number zero within
    where
      answers : (number : ℕ) → at heap zeros (Answer number) ≡ 0 → number < 16 → with_left heap 16 (Answer number) (at heap zeros (Answer number)) ≡ opening_word heap (Answer number)
      answers number zero within = rw (zero, lt-ltb number 16 within) refl
  words_are_opening_words (Control group) within zero left_is is =
      elim (eqb_tells group 0) as (λ _. at heap words (Control group) ≡ opening_word heap (Control group)) [
        | inl here ↦ rw here.0 (is ∙ ap (λ (g : ℕ). at heap (put heap (put heap left Spot spot_word_of) (Control 0) (board_group heap)) (Control g)) here.1 ∙ at-put_same heap (put heap left Spot spot_word_of) (Control 0) (board_group heap) (length-put heap left Spot spot_word_of ∙ table) some)
        | inr other ↦ rw other.0 (is ∙ between heap left (Control group) spot_word_of (board_group heap) some within (λ e. cc) (λ same. other.1 (cc same)) ∙ left_is ∙ zero)
      ]
  words_are_opening_words (Word fragment part) within zero left_is is =
      let rest = between heap left (Word fragment part) spot_word_of (board_group heap) some within (λ e. cc) (λ e. cc) ∙ left_is ∙ zero in
      elim (leb_tells (suc fragment) (board_fragments heap)) as (λ _. at heap words (Word fragment part) ≡ opening_word heap (Word fragment part)) [
        | inl board_ ↦ rw board_.0 (is ∙ rw (lt-ltb (4 * fragment + part) (4 * board_fragments heap) (omega arith)) refl)
        | inr past ↦ rw past.0 (is ∙ rw (le-ltb (4 * fragment + part) (4 * board_fragments heap) (omega arith)) rest)
      ]

-- every word of the opening leads within the heap
opening_leads : (heap : Heap) → IsHeap heap → (a : Address) → InTable heap a → FoundPointsWithin heap a (opening_word heap a)
opening_leads heap limits Phase there = tt
opening_leads heap limits (Answer number) there = tt
opening_leads heap limits Budget there = tt
opening_leads heap limits Spot there = tt
opening_leads heap limits (Control group) there = tt
opening_leads heap limits (Spine half offset) there = omega (arith, limits.some_group)
opening_leads heap limits (Word f part) there =
    elim (leb_tells (suc f) (board_fragments heap)) as (λ _. IsWithinHeap heap (pointer_in part (opening_word heap (Word f part)))) [
      | inl board_ ↦ rw board_.0 (record_leads_within_heap heap board_name (board_fields heap) (board heap) f part (omega arith) (omega arith) (omega (arith, limits.board_fits)) (omega (arith, limits.some_group)) (omega (arith, limits.groups_fit)) (board_within heap limits))
      | inr past ↦ rw past.0 (zero_leads_within_heap heap part)
    ]

-- a register at the opening
opening_registers : (heap : Heap) → 1 ≤ heap.groups → All (FitsRegister heap) (Object 0 Board ∷ replicate 15 Nil)
opening_registers heap some = All-cons (FitsRegister heap) (Object 0 Board) (replicate 15 Nil) (omega arith) (All-replicate (FitsRegister heap) 15 Nil tt)

-- a seat's data fit together at the opening
pub fits_open : (heap : Heap) (number : ℕ) → IsHeap heap → Fits heap (opening_seat heap number)
fits_open heap number limits = record {
  own = record {
    registers_whole = refl;
    registers_fit = opening_registers heap limits.some_group;
    cursor_within = omega (arith, limits.some_group);
    small_reserve = omega arith;
    reserve_of_cursor = All-nil (λ fragment. fragment / 16 ≡ number % heap.groups);
  };
  hand = empty_hand_fits heap;
  way = empty_way_fits heap limits.some_group;
  asked_small = omega arith;
  at_point = record { empty_hand = refl; no_body = refl; none_stored = refl; none_tried = refl; none_given = refl; no_spine = record { none_used = refl; no_place = refl; none_listed = refl } };
  way_at_point = record { none_reached = refl; no_links = refl; no_part = refl; no_address = refl; none_loaded = refl };
  answer_at_point = record { none_asked = refl; none_shaded = refl };
  gone = left_aside_is_absurd refl;
}

-- so do the collector's
collector_opens : (heap : Heap) → IsHeap heap → CollectorFits heap opening_collector
collector_opens heap limits = record { phase_within = omega arith; phase_told = omega arith; at_stage = omega (arith, limits.some_seat) }

-- a machine that opens is one
pub opened_is_machine : (heap : Heap) (words : List ℕ) (seats : List Seat) (collector : Collector) → IsHeap heap → length words ≡ table_length heap → All (λ word. word < 2 ^ 64) words
    → ((a : Address) → InTable heap a → at heap words a ≡ opening_word heap a)
    → seats ≡ map (opening_seat heap) (range_with_len 0 heap.seats) → collector ≡ opening_collector
    → IsMachine heap (record { words = words; seats = seats; collector = collector })
opened_is_machine heap words seats collector limits table wide opens opened here =
    let long : length seats ≡ heap.seats = ap length opened ∙ length-map-range_with_len (opening_seat heap) 0 heap.seats in
    record {
      limits = limits;
      table = table;
      wide = wide;
      leads = λ a there. subst (FoundPointsWithin heap a) (sym (opens a there)) (opening_leads heap limits a there);
      seated = long;
      fit = λ n within.
          let is : get_or seats n absent_seat ≡ opening_seat heap n = ap (λ (l : List Seat). get_or l n absent_seat) opened ∙ get_or-map-range_with_len (opening_seat heap) 0 heap.seats n n absent_seat (omega arith) (omega arith) in
          subst (Fits heap) (sym is) (fits_open heap n limits);
      collector_fit = subst (CollectorFits heap) (sym here) (collector_opens heap limits);
    }
