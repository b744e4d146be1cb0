-- A birth gives each fragment that it bears the colour of its seat's births.
use Rattle.std.specs.Int.{bit_at}
use Rattle.std.proofs.Common.{◌≡◌, ◌≢◌, ℕ, ◌*◌, ◌/◌, ◌%◌, ◌<◌, Bool, true, false, cond, max, List, bit_or, inl, inr, refl, sym, ap, ◌∙◌, subst, arith}
use Rattle.std.proofs.lemmas.Bool.Decides.{eqb_tells}
use Rattle.std.proofs.lemmas.Nat.Bits.{bit_at-lt}
use Rattle.core_rule.proofs.Terms.{born_at, marked_at, scanned_at, taken_at, Heap, last_answer, black_births, sweep, Control, State, seat_at, hand_run, last_group_of, Seat}
use Rattle.core_rule.proofs.Terms.{mask_of, at, put, birth_bits_of, Book, Colour, White, Grey, Black, IsBetween, HasColour, HasBirthColour, marked_bit, scanned_bit, IsBorn}
use Rattle.core_rule.proofs.Terms.{control_of, born_bit, Rule}
use Rattle.core_machine.specs.Moves.{bears_black_of}
use Rattle.core_machine.proofs.table_lemmas.Masks.{mask_is_small}
use Rattle.core_rule.proofs.colours.Births.{birth_colour}
use Rattle.core_rule.proofs.colours.MarkWords.{word_has_marked_bit, word_has_scanned_bit}
use Rattle.core_rule.proofs.cycle.Barriers.{black_births_are_between, between_bears_black}
use Rattle.core_rule.proofs.words.Addresses.{written_control_is_read, other_control_stays}
use Rattle.core_rule.proofs.words.MarkBits.{birth_sets_marked_bits, birth_sets_scanned_bits}
use Rattle.core_rule.proofs.words.WordBits.{birth_sets_born_bits}

-- a bit of a birth: it is that of the colour
coloured_bit : (bit : Colour → ℕ) → bit White ≡ 0 → bit Black ≡ 1 → (set was mine : ℕ) (black : Bool) → set ≡ max was (cond {A = ℕ} black mine 0) → was ≡ 0 → mine ≡ 1
    → set ≡ bit (birth_colour black)
coloured_bit bit none all set was mine true is clear one = omega (arith, is, clear, one, all)
coloured_bit bit none all set was mine false is clear one = omega (arith, is, clear, none)

module _ (heap : Heap) (state : State) (book : Book) (rule : Rule heap state book) (f : ℕ) (within : f < 16 * heap.groups) (unborn : ¬ IsBorn heap state.words f) where
  abbrev words : List ℕ
  words = state.words

  -- a word that is no control word leaves the fragment unborn
  word_bears_none : (now : List ℕ) → control_of heap now f ≡ control_of heap words f → ¬ IsBorn heap now f
  word_bears_none now same born = unborn (ap (λ w. bit_at w (born_at f)) (sym same) ∙ born)

  -- the fragment's control word is the one written where its group's was
  written_there : (g word : ℕ) → f / 16 ≡ g → control_of heap (put heap words (Control g) word) f ≡ word
  written_there g word same = rw same (written_control_is_read heap words word g rule.machine.table (omega (arith, same, within)))

  -- so a control word that bears the fragment is its group's
  control_bears : {A : Type 0} (g word : ℕ) → (f / 16 ≡ g → bit_at word (born_at f) ≡ 1 → A) → IsBorn heap (put heap words (Control g) word) f → A
  control_bears g word here born = elim (eqb_tells (f / 16) g) [
    | inl same ↦ here same.1 (subst (λ w. bit_at w (born_at f) ≡ 1) (written_there g word same.1) born)
    | inr apart ↦ absurd (word_bears_none (put heap words (Control g) word) (other_control_stays heap words word g (f / 16) apart.1) born)
  ]

  -- the fragment was white
  unmarked : book.colour f ≡ White
  unmarked = by (book.colour f) refl
    where
      none : born_bit (book.owner f) ≢ 1
      none born = unborn (rule.heap_stands.control_words.born f within ∙ born)

      by : (c : Colour) → book.colour f ≡ c → c ≡ White
      by White is = refl
      by Grey is = absurd (none (rule.heap_stands.cycle.coloured.born f (λ white. cc (is, white))))
      by Black is = absurd (none (rule.heap_stands.cycle.coloured.born f (λ white. cc (is, white))))

  module _ (number : ℕ) (here : number < heap.seats) where
    abbrev seat : Seat
    seat = seat_at state number

    abbrev g : ℕ
    g = last_group_of seat.hand

    abbrev bits : ℕ
    bits = mask_of (hand_run seat)

    abbrev found : ℕ
    found = at heap words (Control g)

    abbrev born_word : ℕ
    born_word = bit_or found (birth_bits_of (bears_black_of seat) bits)

    abbrev words_born : List ℕ
    words_born = put heap words (Control g) born_word

    -- a birth gives its colour
    bears : f / 16 ≡ g → bit_at born_word (born_at f) ≡ 1 → (black : Bool) → bears_black_of seat ≡ black → HasColour heap words_born f (birth_colour black)
    bears group born black is =
        let marks = rule.heap_stands.cycle.marks in
        let below : g < heap.groups = omega (arith, group, within) in
        let clear : bit_at found (born_at f) ≢ 1 = λ set. unborn (subst (λ h. bit_at (at heap words (Control h)) (born_at f) ≡ 1) (sym group) set) in
        let mine : bit_at bits (taken_at f) ≡ 1 = omega (arith, birth_sets_born_bits found (f % 16) (omega arith) bits (bears_black_of seat), born, clear, bit_at-lt found (born_at f)) in
        let there : control_of heap words_born f ≡ born_word = written_there g born_word group in
        record {
          marked = ap (λ w. bit_at w (marked_at f)) there
              ∙ coloured_bit marked_bit refl refl _ _ _ black (subst (λ (b : Bool). bit_at born_word (marked_at f) ≡ max (bit_at found (marked_at f)) (cond {A = ℕ} b (bit_at bits (taken_at f)) 0)) is
              (birth_sets_marked_bits found bits (mask_is_small (hand_run seat)) (f % 16) (omega arith) (bears_black_of seat)))
              (word_has_marked_bit heap words book.colour book.colour g 0 rule.machine.table below marks f group ∙ ap marked_bit unmarked) mine;
          scanned = ap (λ w. bit_at w (scanned_at f)) there
              ∙ coloured_bit scanned_bit refl refl _ _ _ black (subst (λ (b : Bool). bit_at born_word (scanned_at f) ≡ max (bit_at found (scanned_at f)) (cond {A = ℕ} b (bit_at bits (taken_at f)) 0)) is
              (birth_sets_scanned_bits found bits (mask_is_small (hand_run seat)) (f % 16) (omega arith) (bears_black_of seat)))
              (word_has_scanned_bit heap words book.colour book.colour g 0 rule.machine.table below marks f group ∙ ap scanned_bit unmarked) mine;
        }

    pub born_has_birth_colour : IsBorn heap words_born f → HasBirthColour heap words_born f (last_answer number book.history)
    born_has_birth_colour = control_bears g born_word (λ group born. record {
      dark = λ between. bears group born true (between_bears_black seat (subst (IsBetween black_births sweep) (rule.seats_stand number here).cycle.answers_told.told between));
      light = λ apart. by apart group born (bears_black_of seat) refl;
    })
      where
        by : ¬ IsBetween black_births sweep (last_answer number book.history) → f / 16 ≡ g → bit_at born_word (born_at f) ≡ 1 → (black : Bool) → bears_black_of seat ≡ black → HasColour heap words_born f White
        by apart group born true is = absurd (apart (subst (IsBetween black_births sweep) (sym (rule.seats_stand number here).cycle.answers_told.told) (black_births_are_between seat is)))
        by apart group born false is = bears group born false is
