-- The grey fragments of a group by its control word, and what a pass tells that finds one or none.
use Rattle.std.specs.Int.{bit_at}
use Rattle.std.proofs.Common.{◌≡◌, ◌≢◌, ℕ, ◌+◌, ◌*◌, ◌/◌, ◌%◌, ◌==◌, ◌<◌, ◌≤◌, if◌then◌else◌, Bool, true, false, List, length, Some, None, inl, inr, refl, sym, ap, ◌∙◌, arith}
use Rattle.std.proofs.lemmas.Bool.Decides.{eqb_tells}
use Rattle.core_rule.proofs.Terms.{is_grey, marked_at, scanned_at, Heap, Control, at, table_length, Colour, White, Grey, Black, Marks, marked_bit, scanned_bit, IsSeen, PassStands}
use Rattle.heap_words.specs.Control.{lowest_grey_of}
use Rattle.core_machine.specs.declared.collector.stage.Stage.TheVariants as stages
use Rattle.core_machine.proofs.table_lemmas.Grey.{grey_position_within_group, found_position_is_grey, none_found_none_grey}
use Rattle.core_rule.proofs.colours.MarkWords.{word_has_marked_bit, word_has_scanned_bit}

-- a fragment that is marked and not scanned is grey
grey_by_bits : (c : Colour) → marked_bit c ≡ 1 → scanned_bit c ≡ 0 → c ≡ Grey
grey_by_bits White marked scanned = absurd (cc)
grey_by_bits Grey marked scanned = refl
grey_by_bits Black marked scanned = absurd (cc)

-- the two bits that tell it
bits_of_grey : (m s : ℕ) → (if m == 1 then s == 0 else false) ≡ true → (m ≡ 1) × (s ≡ 0)
bits_of_grey m s is = elim (eqb_tells m 1) as (λ _. (m ≡ 1) × (s ≡ 0)) [
  | inl one ↦ elim (eqb_tells s 0) as (λ _. (m ≡ 1) × (s ≡ 0)) [
    | inl none ↦ (one.1, none.1)
    | inr some ↦ absurd (cc (is, one.0, some.0))
  ]
  | inr other ↦ absurd (cc (is, other.0))
]

module _ (heap : Heap) (words : List ℕ) (colour : ℕ → Colour) (group : ℕ) (whole : length words ≡ table_length heap) (below : group < heap.groups)
    (marks : Marks heap words colour) where
  abbrev word : ℕ
  word = at heap words (Control group)

  -- the word's grey positions are those of grey fragments
  grey_there : (f : ℕ) → f / 16 ≡ group → is_grey word f ≡ true → colour f ≡ Grey
  grey_there f here is =
      let bits = bits_of_grey (bit_at word (marked_at f)) (bit_at word (scanned_at f)) is in
      grey_by_bits (colour f) (sym (word_has_marked_bit heap words colour colour group 0 whole below marks f here) ∙ bits.0) (sym (word_has_scanned_bit heap words colour colour group 0 whole below marks f here) ∙ bits.1)

  grey_told : (f : ℕ) → f / 16 ≡ group → colour f ≡ Grey → is_grey word f ≡ true
  grey_told f here grey =
      let marked : bit_at word (marked_at f) ≡ 1 = word_has_marked_bit heap words colour colour group 0 whole below marks f here ∙ ap marked_bit grey in
      let scanned : bit_at word (scanned_at f) ≡ 0 = word_has_scanned_bit heap words colour colour group 0 whole below marks f here ∙ ap scanned_bit grey in
      rw (marked, scanned) refl

  -- the lowest one is
  pub lowest_is_grey : (position : ℕ) → lowest_grey_of word ≡ Some position → colour (16 * group + position) ≡ Grey
  lowest_is_grey position is =
      let within = grey_position_within_group word position is in
      let rest : (16 * group + position) % 16 ≡ position % 16 = omega arith in
      grey_there (16 * group + position) (omega (arith, within)) (rw rest (found_position_is_grey word position is))

  -- and where the word has none no fragment of the group is grey
  none_in_group : lowest_grey_of word ≡ None → (f : ℕ) → f / 16 ≡ group → colour f ≢ Grey
  none_in_group none f here grey =
      let rest : f % 16 % 16 ≡ f % 16 = omega arith in
      let missed : is_grey word (f % 16) ≡ false = none_found_none_grey word (f % 16) none (omega arith) in
      let not_there : is_grey word f ≡ false = rw rest at missed in
      let there : is_grey word f ≡ true = grey_told f here grey in
      absurd (cc (there, not_there))

  module _ (none : lowest_grey_of word ≡ None) where
    -- so a pass goes on behind it
    further : (x : ℕ) → colour x ≡ Grey → group ≤ x / 16 → group + 1 ≤ x / 16
    further x is from = elim (eqb_tells (x / 16) group) as (λ _. group + 1 ≤ x / 16) [
      | inl here ↦ absurd (none_in_group none x here.1 is)
      | inr apart ↦ omega (arith, from, apart.1)
    ]

    pub pass_stands_at_next_group : (found : Bool) → PassStands colour (stages.Passing group found) → PassStands colour (stages.Passing (group + 1) found)
    pass_stands_at_next_group true stands = tt
    pass_stands_at_next_group false stands = λ f grey. let some = stands f grey in (some.0, some.1, further some.0 some.1 some.2)

    -- and behind the last group nothing is grey, where it has found nothing
    pub nothing_is_grey : heap.groups ≤ group + 1 → PassStands colour (stages.Passing group false) → (f : ℕ) → colour f ≢ Grey
    nothing_is_grey last stands f grey =
        let some = stands f grey in
        let white : colour some.0 ≡ White = marks.outside some.0 (omega (arith, last, further some.0 some.1 some.2)) in
        absurd (cc (some.1, white))

-- another pass begins at the first group
pub pass_stands_anew : (colour : ℕ → Colour) → PassStands colour (stages.Passing 0 false)
pass_stands_anew colour f grey = (f, grey, omega arith)

-- of a grey fragment no word is seen to yet
pub is_seen_at_start : (heap : Heap) (words : List ℕ) (colour : ℕ → Colour) (f : ℕ) → colour f ≡ Grey → IsSeen heap words colour f 0
is_seen_at_start heap words colour f grey = record { grey = grey; seen = λ p g below leads. absurd (omega (arith, below)) }
