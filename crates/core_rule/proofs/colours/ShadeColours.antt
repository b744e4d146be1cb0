-- A shade: one fragment's marked bit, and what becomes of the colours.
use Rattle.std.specs.Int.{bit_at}
use Rattle.std.specs.Prelude.{bit_or}
use Rattle.std.proofs.Common.{◌≡◌, ◌≢◌, ◌⊎◌, ℕ, ◌*◌, ◌/◌, ◌%◌, ◌<◌, ◌==◌, if◌then◌else◌, List, length, inl, inr, refl, sym, ap, ◌∙◌, subst, arith}
use Rattle.std.proofs.lemmas.Bool.{eq-eqb}
use Rattle.std.proofs.lemmas.Bool.Decides.{eqb_tells}
use Rattle.core_rule.proofs.Terms.{cycle_phases, marked_at, scanned_at, Heap, Control, at, put, table_length, Colour, White, Grey, Black, fragment_at, Marks, IsMarked, Coloured}
use Rattle.core_rule.proofs.Terms.{marked_bit, scanned_bit, Owner, Kept, born_bit}
use Rattle.heap_model.specs.PhasePlan.{rest as resting}
use Rattle.core_machine.specs.table.Operation.{shade_bit_of}
use Rattle.core_rule.proofs.colours.LeadsFrames.{led_before_control_write}
use Rattle.core_rule.proofs.colours.OneBit.{other_bit_stays, bit_is_set, bit_beside_stays}
use Rattle.core_rule.proofs.colours.MarkWords.{marks_after_control_word, word_has_marked_bit, word_has_scanned_bit}

-- what a shade makes of a colour
abbrev pub marked : Colour → Colour
marked White = Grey
marked Grey = Grey
marked Black = Black

-- the colours with one fragment marked
abbrev pub with_mark : (ℕ → Colour) → ℕ → ℕ → Colour
with_mark colour f x = if x == f then marked (colour x) else colour x

marked_some : (c : Colour) → marked c ≢ White
marked_some White none = cc
marked_some Grey none = cc
marked_some Black none = cc

marked_black : (c : Colour) → marked c ≡ Black → c ≡ Black
marked_black White none = cc
marked_black Grey none = cc
marked_black Black is = refl

marked_whole : (c : Colour) → marked_bit (marked c) ≡ 1
marked_whole White = refl
marked_whole Grey = refl
marked_whole Black = refl

scanned_same : (c : Colour) → scanned_bit (marked c) ≡ scanned_bit c
scanned_same White = refl
scanned_same Grey = refl
scanned_same Black = refl

module _ (colour : ℕ → Colour) (f : ℕ) where
  pub mark_marks_colour : with_mark colour f f ≡ marked (colour f)
  mark_marks_colour = rw (eq-eqb f f refl) refl

  pub mark_keeps_other_colour : (x : ℕ) → x ≢ f → with_mark colour f x ≡ colour x
  mark_keeps_other_colour x apart = elim (eqb_tells x f) as (λ _. with_mark colour f x ≡ colour x) [
    | inl same ↦ absurd (apart same.1)
    | inr other ↦ rw other.0 refl
  ]

  -- the fragment is marked
  pub mark_marks_fragment : IsMarked (with_mark colour f) f
  mark_marks_fragment white = marked_some (colour f) (sym mark_marks_colour ∙ white)

  -- and so is what was
  pub mark_keeps_marked : (x : ℕ) → IsMarked colour x → IsMarked (with_mark colour f) x
  mark_keeps_marked x was white = elim (eqb_tells x f) [
    | inl same ↦ mark_marks_fragment (subst (λ y. with_mark colour f y ≡ White) same.1 white)
    | inr other ↦ was (sym (mark_keeps_other_colour x other.1) ∙ white)
  ]

  -- no other is
  pub mark_was : (x : ℕ) → IsMarked (with_mark colour f) x → (x ≡ f) ⊎ IsMarked colour x
  mark_was x now = elim (eqb_tells x f) [
    | inl same ↦ inl same.1
    | inr other ↦ inr (λ white. now (mark_keeps_other_colour x other.1 ∙ white))
  ]

  -- nothing gets black
  mark_black : (x : ℕ) → with_mark colour f x ≡ Black → colour x ≡ Black
  mark_black x black = elim (eqb_tells x f) [
    | inl same ↦ subst (λ y. colour y ≡ Black) (sym same.1) (marked_black (colour f) (sym mark_marks_colour ∙ subst (λ y. with_mark colour f y ≡ Black) same.1 black))
    | inr other ↦ sym (mark_keeps_other_colour x other.1) ∙ black
  ]

module _ (heap : Heap) (words : List ℕ) (owner : ℕ → Owner) (colour : ℕ → Colour) (f : ℕ) (whole : length words ≡ table_length heap) (within : f < 16 * heap.groups) where
  abbrev pub shaded_words : List ℕ
  shaded_words = put heap words (Control (f / 16)) (bit_or (at heap words (Control (f / 16))) (shade_bit_of f))

  below : f / 16 < heap.groups
  below = omega (arith, within)

  marked_now : Marks heap words colour → (x : ℕ) → x / 16 ≡ f / 16 → bit_at (bit_or (at heap words (Control (f / 16))) (shade_bit_of f)) (marked_at x) ≡ marked_bit (with_mark colour f x)
  marked_now marks x here = elim (eqb_tells x f) as (λ _. bit_at (bit_or (at heap words (Control (f / 16))) (shade_bit_of f)) (marked_at x) ≡ marked_bit (with_mark colour f x)) [
    | inl same ↦ rw (same.1, mark_marks_colour colour f, marked_whole (colour f)) (bit_is_set (at heap words (Control (f / 16))) 32 f)
    | inr other ↦ bit_beside_stays (at heap words (Control (f / 16))) 32 f x (λ e. other.1 (omega (arith, e, here)))
        ∙ word_has_marked_bit heap words colour colour (f / 16) 0 whole below marks x here ∙ ap marked_bit (sym (mark_keeps_other_colour colour f x other.1))
  ]

  scanned_now : (x : ℕ) → scanned_bit (with_mark colour f x) ≡ scanned_bit (colour x)
  scanned_now x = elim (eqb_tells x f) as (λ _. scanned_bit (with_mark colour f x) ≡ scanned_bit (colour x)) [
    | inl same ↦ rw (same.1, mark_marks_colour colour f) (scanned_same (colour f))
    | inr other ↦ ap scanned_bit (mark_keeps_other_colour colour f x other.1)
  ]

  -- and the new colours
  pub marks_after_shade : Marks heap words colour → Marks heap shaded_words (with_mark colour f)
  marks_after_shade marks = marks_after_control_word heap words colour (with_mark colour f) (f / 16) (bit_or (at heap words (Control (f / 16))) (shade_bit_of f)) whole below marks
      (marked_now marks)
      (λ x here. other_bit_stays (at heap words (Control (f / 16))) 32 f (scanned_at x) (λ e. omega (arith, e)) ∙ word_has_scanned_bit heap words colour colour (f / 16) 0 whole below marks x here ∙ sym (scanned_now x))
      (λ x apart. mark_keeps_other_colour colour f x (λ e. apart (ap (λ y. y / 16) e)))

  -- which are right where it is a kept object's, whose first fragment is marked then, and the heap doesn't rest
  pub coloured_after_shade : (fragments : ℕ → List ℕ) (phase i k : ℕ) → owner f ≡ Kept i k → IsMarked (with_mark colour f) (fragment_at (fragments i) 0)
      → phase % cycle_phases ≢ resting → Coloured heap words owner colour fragments phase → Coloured heap shaded_words owner (with_mark colour f) fragments phase
  coloured_after_shade fragments phase i k kept first runs stands = record {
    rest = λ rests. absurd (runs rests);
    early = λ one x black. stands.early one x (mark_black colour f x black);
    born = λ x now. elim (mark_was colour f x now) [
      | inl same ↦ ap (λ y. born_bit (owner y)) same ∙ ap born_bit kept
      | inr was ↦ stands.born x was
    ];
    black = λ making x source g black leads. mark_keeps_marked colour f g
        (stands.black making x source g (mark_black colour f x black) (led_before_control_write heap words (f / 16) _ below x source g leads));
    first = λ making x j n keeps now. elim (mark_was colour f x now) [
      | inl same ↦
          let both : Kept j n ≡ Kept i k = sym keeps ∙ ap owner same ∙ kept in
          let index : j ≡ i = cc in
          subst (λ y. IsMarked (with_mark colour f) (fragment_at (fragments y) 0)) (sym index) first
      | inr was ↦ mark_keeps_marked colour f _ (stands.first making x j n keeps was)
    ];
  }
