-- The colours after a birth, and the control words' bits of the colours after a claim, a give back and a birth.
use Rattle.std.specs.Int.{bit_at}
use Rattle.std.proofs.Common.{◌≡◌, ◌≢◌, ◌⊎◌, ℕ, suc, ◌+◌, ◌*◌, ◌/◌, ◌%◌, ◌<◌, ◌≤◌, if◌then◌else◌, nat_lt, inl, inr, max, cond, Bool, true, false, List, length, bit_or, refl, sym, ap, ◌∙◌, subst, arith}
use Rattle.std.proofs.lemmas.Bool.Decides.{nat_tests, leb_tells}
use Rattle.core_rule.proofs.Terms.{cycle_phases, marked_at, scanned_at, taken_at, Heap, Control, inside_group, mask_of, tally, at, put, table_length, all_taken, word_without_taken}
use Rattle.core_rule.proofs.Terms.{birth_bits_of, Seat, Colour, White, Grey, Black, fragment_at, Marks, WordPointsTo, IsMarked, IsBetween, Coloured, marked_bit, scanned_bit, Owner}
use Rattle.core_rule.proofs.Terms.{Kept, born_bit, IsNear}
use Rattle.core_machine.specs.seat.MakingMoves.{bears_black_of}
use Rattle.core_machine.proofs.table_lemmas.Masks.{mask_is_small}
use Rattle.core_rule.proofs.owners.Handed.{none_or_some}
use Rattle.core_rule.proofs.words.MarkBits.{claim_keeps_higher_bits, giving_keeps_higher_bits, birth_sets_marked_bits, birth_sets_scanned_bits}
use Rattle.core_rule.proofs.colours.Births.{birth_colour}
use Rattle.core_rule.proofs.colours.MarkWords.{marks_after_control_word, word_has_marked_bit, word_has_scanned_bit}
use Rattle.core_rule.proofs.words.MaskLemmas.{mask_bit_is_tally}
use Rattle.core_rule.proofs.owners.OwnerLemmas.{born_bit_within_one}
use Rattle.core_rule.proofs.lists.GroupLists.{inside_group_has_own_fragments, inside_group_has_no_other, inside_and_outside_tallies_make_whole}

-- the fragments of the list have this colour, the others their own
abbrev pub painted : Colour → (ℕ → Colour) → List ℕ → ℕ → Colour
painted c colour fs f = if nat_lt 0 (tally f fs) then c else colour f

pub painted_member_has_colour : (c : Colour) (colour : ℕ → Colour) (fs : List ℕ) (f : ℕ) → 1 ≤ tally f fs → painted c colour fs f ≡ c
painted_member_has_colour c colour fs f there = grind (arith, nat_tests, there)

pub painted_other_keeps_colour : (c : Colour) (colour : ℕ → Colour) (fs : List ℕ) (f : ℕ) → tally f fs ≡ 0 → painted c colour fs f ≡ colour f
painted_other_keeps_colour c colour fs f away = grind (arith, nat_tests, away)

-- a fact of the new colour, by two cases
pub painted_cases : (P : Colour → Type 0) (c : Colour) (colour : ℕ → Colour) (fs : List ℕ) (f : ℕ)
    → (1 ≤ tally f fs → P c) → (tally f fs ≡ 0 → P (colour f)) → P (painted c colour fs f)
painted_cases P c colour fs f there away = elim (none_or_some (tally f fs)) as (λ _. P (painted c colour fs f)) [
  | inl none ↦ rw (painted_other_keeps_colour c colour fs f none) (away none)
  | inr some ↦ rw (painted_member_has_colour c colour fs f some) (there some)
]

grey_apart : Grey ≢ White
grey_apart e = cc

black_apart : Black ≢ White
black_apart e = cc

-- births are white at rest and in the first phase
black_late : (n : ℕ) → (1 < n → n < 6 → ⊥) → (if nat_lt 1 n then nat_lt n 6 else false) ≡ false
black_late n none = elim (leb_tells 2 n) as (λ _. (if nat_lt 1 n then nat_lt n 6 else false) ≡ false) [
  | inl late ↦ rw late.0 (elim (leb_tells (suc n) 6) as (λ _. nat_lt n 6 ≡ false) [
    | inl early ↦ absurd (none late.1 early.1)
    | inr past ↦ past.0
  ])
  | inr early ↦ rw early.0 refl
]

pub bears_no_black_early : (phase : ℕ) (seat : Seat) → IsNear phase seat.answered → phase % cycle_phases ≤ 1 → bears_black_of seat ≡ false
bears_no_black_early phase seat near early = black_late (seat.answered % cycle_phases) (λ late below. elim near [
  | inl same ↦ omega (arith, early, same, late)
  | inr before ↦ omega (arith, early, before, late, below)
])

module _ (heap : Heap) (words now : List ℕ) (owner later : ℕ → Owner) (colour : ℕ → Colour) (fs : List ℕ) (black : Bool)
    (unborn : (f : ℕ) → 1 ≤ tally f fs → born_bit (owner f) ≡ 0) (born : (f : ℕ) → IsMarked colour f → born_bit (owner f) ≡ 1) where
  abbrev pub borne : ℕ → Colour
  borne = painted (birth_colour black) colour fs

  -- what is born was white
  pub born_was_white : (f : ℕ) → 1 ≤ tally f fs → colour f ≡ White
  born_was_white f there = by (colour f) refl
    where
      by : (c : Colour) → colour f ≡ c → c ≡ White
      by White is = refl
      by Grey is = absurd (omega (arith, unborn f there, born f (λ white. grey_apart (sym is ∙ white))))
      by Black is = absurd (omega (arith, unborn f there, born f (λ white. black_apart (sym is ∙ white))))

  -- what was marked stays so
  pub marked_stays_at_birth : (f : ℕ) → IsMarked colour f → IsMarked borne f
  marked_stays_at_birth f marked = painted_cases (λ c. c ≢ White) (birth_colour black) colour fs f (λ there. absurd (omega (arith, unborn f there, born f marked))) (λ away. marked)

  module _ (fragments now_fragments : ℕ → List ℕ) (phase : ℕ)
      (late : phase % cycle_phases ≤ 1 → black ≡ false)
      (bears : (f : ℕ) → born_bit (later f) ≡ born_bit (owner f) + tally f fs)
      (leads : (f source g : ℕ) → WordPointsTo heap now f source g → WordPointsTo heap words f source g)
      (ahead : black ≡ true → (f source g : ℕ) → 1 ≤ tally f fs → WordPointsTo heap words f source g → (1 ≤ tally g fs) ⊎ IsMarked colour g) where
    white_birth : phase % cycle_phases ≤ 1 → birth_colour black ≡ White
    white_birth early = ap birth_colour (late early)

    -- a black fragment was born black now, or was black
    black_birth : (b : Bool) → b ≡ black → (f source g : ℕ) → 1 ≤ tally f fs → birth_colour b ≡ Black → WordPointsTo heap words f source g → IsMarked borne g
    black_birth true is f source g there black_now to = elim (ahead (sym is) f source g there to) [
      | inl among ↦ λ white. black_apart (ap birth_colour is ∙ sym (painted_member_has_colour (birth_colour black) colour fs g among) ∙ white)
      | inr before ↦ marked_stays_at_birth g before
    ]
    black_birth false is f source g there black_now to = absurd (black_apart (sym black_now))

    -- so the colours are right
    pub coloured_after_birth : (IsBetween 1 5 phase → (f i k : ℕ) → later f ≡ Kept i k → IsMarked borne f → IsMarked borne (fragment_at (now_fragments i) 0))
        → Coloured heap words owner colour fragments phase → Coloured heap now later borne now_fragments phase
    coloured_after_birth first stands = record {
      rest = λ rests f. painted_cases (λ c. c ≡ White) (birth_colour black) colour fs f (λ there. white_birth (omega (arith, rests))) (λ away. stands.rest rests f);
      early = λ one f. painted_cases (λ c. c ≢ Black) (birth_colour black) colour fs f
          (λ there is. black_apart (sym is ∙ white_birth (omega (arith, one)))) (λ away. stands.early one f);
      born = λ f. painted_cases (λ c. c ≢ White → born_bit (later f) ≡ 1) (birth_colour black) colour fs f
          (λ there marked. omega (arith, bears f, unborn f there, there, born_bit_within_one (later f)))
          (λ away marked. omega (arith, bears f, stands.born f marked, away));
      black = λ marking f source g is to. painted_cases (λ c. c ≡ Black → IsMarked borne g) (birth_colour black) colour fs f
          (λ there now_black. black_birth black refl f source g there now_black (leads f source g to))
          (λ away was_black. marked_stays_at_birth g (stands.black marking f source g was_black (leads f source g to))) is;
      first = first;
    }

-- a claim changes no colour
pub marks_after_claim : (heap : Heap) (words : List ℕ) (colour : ℕ → Colour) (g : ℕ) → length words ≡ table_length heap → g < heap.groups → Marks heap words colour
    → Marks heap (put heap words (Control g) (bit_or (at heap words (Control g)) all_taken)) colour
marks_after_claim heap words colour g whole below marks =
    marks_after_control_word heap words colour colour g (bit_or (at heap words (Control g)) all_taken) whole below marks
    (λ f here. claim_keeps_higher_bits (at heap words (Control g)) (marked_at f) (omega arith) ∙ word_has_marked_bit heap words colour colour g 0 whole below marks f here)
    (λ f here. claim_keeps_higher_bits (at heap words (Control g)) (scanned_at f) (omega arith) ∙ word_has_scanned_bit heap words colour colour g 0 whole below marks f here)
    (λ f apart. refl)

-- nor does a give back
pub marks_after_giving : (heap : Heap) (words : List ℕ) (colour : ℕ → Colour) (g : ℕ) (fs : List ℕ) → length words ≡ table_length heap → g < heap.groups → Marks heap words colour
    → Marks heap (put heap words (Control g) (word_without_taken (mask_of fs) (at heap words (Control g)))) colour
marks_after_giving heap words colour g fs whole below marks =
    marks_after_control_word heap words colour colour g (word_without_taken (mask_of fs) (at heap words (Control g))) whole below marks
    (λ f here. giving_keeps_higher_bits (at heap words (Control g)) (mask_of fs) (mask_is_small fs) (marked_at f) (omega arith) (omega arith) ∙ word_has_marked_bit heap words colour colour g 0 whole below marks f here)
    (λ f here. giving_keeps_higher_bits (at heap words (Control g)) (mask_of fs) (mask_is_small fs) (scanned_at f) (omega arith) (omega arith) ∙ word_has_scanned_bit heap words colour colour g 0 whole below marks f here)
    (λ f apart. refl)

-- the mask has the bits of what is inside the group
birth_mask : (g f : ℕ) (fs : List ℕ) → f / 16 ≡ g → ((x : ℕ) → tally x fs ≤ 1) → bit_at (mask_of (inside_group g fs)) (taken_at f) ≡ tally f (inside_group g fs)
birth_mask g f fs here once =
    let position : 16 * g + f % 16 ≡ f = omega (arith, here) in
    let bit : bit_at (mask_of (inside_group g fs)) (taken_at f) ≡ tally f fs
    = subst (λ x. bit_at (mask_of (inside_group g fs)) (taken_at f) ≡ tally x fs) position (mask_bit_is_tally g (f % 16) fs (omega arith) (once (16 * g + f % 16))) in
    bit ∙ sym (inside_group_has_own_fragments g f fs here)

module _ (bit : Colour → ℕ) (none : bit White ≡ 0) (all : bit Black ≡ 1) (colour : ℕ → Colour) (fs : List ℕ) (f : ℕ) where
  -- the bit of the new colour
  bit_painted : (black : Bool) (set found masked : ℕ) → set ≡ max found (cond {A = ℕ} black masked 0) → found ≡ bit (colour f) → masked ≡ tally f fs → tally f fs ≤ 1
      → (1 ≤ tally f fs → colour f ≡ White) → set ≡ bit (painted (birth_colour black) colour fs f)
  bit_painted black set found masked is was tallied once white = painted_cases (λ c. set ≡ bit c) (birth_colour black) colour fs f
      (λ there. let blank : bit (colour f) ≡ 0 = ap bit (white there) ∙ none in by black is (omega (arith, was, blank)) (omega (arith, tallied, there, once)))
      (λ away. clear black is (omega (arith, tallied, away)))
    where
      by : (b : Bool) → set ≡ max found (cond {A = ℕ} b masked 0) → found ≡ 0 → masked ≡ 1 → set ≡ bit (birth_colour b)
      by true is zero one = omega (arith, is, zero, one, all)
      by false is zero one = omega (arith, is, zero, none)

      clear : (b : Bool) → set ≡ max found (cond {A = ℕ} b masked 0) → masked ≡ 0 → set ≡ bit (colour f)
      clear true is zero = omega (arith, is, zero, was)
      clear false is zero = omega (arith, is, was)

-- a birth gives its fragments its colour
pub marks_after_birth : (heap : Heap) (words : List ℕ) (colour : ℕ → Colour) (g : ℕ) (fs : List ℕ) (black : Bool) → length words ≡ table_length heap → g < heap.groups
    → ((f : ℕ) → tally f fs ≤ 1) → ((f : ℕ) → 1 ≤ tally f (inside_group g fs) → colour f ≡ White) → Marks heap words colour
    → Marks heap (put heap words (Control g) (bit_or (at heap words (Control g)) (birth_bits_of black (mask_of (inside_group g fs))))) (painted (birth_colour black) colour (inside_group g fs))
marks_after_birth heap words colour g fs black whole below once white marks =
    let found : ℕ = at heap words (Control g) in
    let coloured : ℕ → Colour = painted (birth_colour black) colour (inside_group g fs) in
    let word : ℕ = bit_or found (birth_bits_of black (mask_of (inside_group g fs))) in
    marks_after_control_word heap words colour coloured g word whole below marks
    (λ f here. bit_painted marked_bit refl refl colour (inside_group g fs) f black (bit_at word (marked_at f)) (bit_at found (marked_at f)) (bit_at (mask_of (inside_group g fs)) (taken_at f))
    (birth_sets_marked_bits found (mask_of (inside_group g fs)) (mask_is_small (inside_group g fs)) (f % 16) (omega arith) black)
    (word_has_marked_bit heap words colour colour g 0 whole below marks f here) (birth_mask g f fs here once) (inside_group_once f) (white f))
    (λ f here. bit_painted scanned_bit refl refl colour (inside_group g fs) f black (bit_at word (scanned_at f)) (bit_at found (scanned_at f)) (bit_at (mask_of (inside_group g fs)) (taken_at f))
    (birth_sets_scanned_bits found (mask_of (inside_group g fs)) (mask_is_small (inside_group g fs)) (f % 16) (omega arith) black)
    (word_has_scanned_bit heap words colour colour g 0 whole below marks f here) (birth_mask g f fs here once) (inside_group_once f) (white f))
    (λ f apart. painted_other_keeps_colour (birth_colour black) colour (inside_group g fs) f (inside_group_has_no_other g f fs apart))
  where
    inside_group_once : (f : ℕ) → tally f (inside_group g fs) ≤ 1
    inside_group_once f = omega (arith, once f, inside_and_outside_tallies_make_whole g f fs)
