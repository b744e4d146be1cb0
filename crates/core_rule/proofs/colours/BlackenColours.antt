-- A fragment gets black: one scanned bit, and what becomes of the colours.
use Rattle.std.specs.Int.{bit_at}
use Rattle.std.specs.Prelude.{bit_or}
use Rattle.std.proofs.Common.{◌≡◌, ◌≢◌, ◌⊎◌, ℕ, ◌*◌, ◌/◌, ◌%◌, ◌<◌, ◌==◌, if◌then◌else◌, List, length, inl, inr, refl, sym, ap, ◌∙◌, subst, arith}
use Rattle.std.proofs.lemmas.Bool.{eq-eqb}
use Rattle.std.proofs.lemmas.Bool.Decides.{eqb_tells}
use Rattle.core_rule.proofs.Terms.{cycle_phases, blacken_bit_of, marked_at, scanned_at, Heap, Control, at, put, table_length, Colour, White, Grey, Black, Marks, IsMarked}
use Rattle.core_rule.proofs.Terms.{WordPointsTo, Coloured, marked_bit, scanned_bit, Owner}
use Rattle.heap_model.specs.PhasePlan.{marking as marking_phase}
use Rattle.core_rule.proofs.colours.LeadsFrames.{led_before_control_write}
use Rattle.core_rule.proofs.colours.OneBit.{other_bit_stays, bit_is_set, bit_beside_stays}
use Rattle.core_rule.proofs.colours.MarkWords.{marks_after_control_word, word_has_marked_bit, word_has_scanned_bit}

-- the colours with one fragment black
abbrev pub with_scan : (ℕ → Colour) → ℕ → ℕ → Colour
with_scan colour f x = if x == f then Black else colour x

module _ (colour : ℕ → Colour) (f : ℕ) where
  pub scanned_is_black : with_scan colour f f ≡ Black
  scanned_is_black = rw (eq-eqb f f refl) refl

  pub scan_keeps_other_colour : (x : ℕ) → x ≢ f → with_scan colour f x ≡ colour x
  scan_keeps_other_colour x apart = elim (eqb_tells x f) as (λ _. with_scan colour f x ≡ colour x) [
    | inl same ↦ absurd (apart same.1)
    | inr other ↦ rw other.0 refl
  ]

  module _ (grey : colour f ≡ Grey) where
    -- the same are marked
    pub scan_keeps_marked : (x : ℕ) → IsMarked colour x → IsMarked (with_scan colour f) x
    scan_keeps_marked x was white = elim (eqb_tells x f) [
      | inl same ↦ let black : with_scan colour f x ≡ Black = subst (λ y. with_scan colour f y ≡ Black) (sym same.1) scanned_is_black in absurd (cc (black, white))
      | inr other ↦ was (sym (scan_keeps_other_colour x other.1) ∙ white)
    ]

    pub marked_before_scan : (x : ℕ) → IsMarked (with_scan colour f) x → IsMarked colour x
    marked_before_scan x now white = elim (eqb_tells x f) [
      | inl same ↦ let both : colour f ≡ White = subst (λ y. colour y ≡ White) same.1 white in absurd (cc (both, grey))
      | inr other ↦ now (scan_keeps_other_colour x other.1 ∙ white)
    ]

  -- what is black now was so, or is the fragment
  pub scan_black : (x : ℕ) → with_scan colour f x ≡ Black → (x ≡ f) ⊎ (colour x ≡ Black)
  scan_black x black = elim (eqb_tells x f) as (λ _. (x ≡ f) ⊎ (colour x ≡ Black)) [
    | inl same ↦ inl same.1
    | inr other ↦ inr (sym (scan_keeps_other_colour x other.1) ∙ black)
  ]

  -- what is grey now was so, and is another
  pub grey_before_scan : (x : ℕ) → with_scan colour f x ≡ Grey → colour x ≡ Grey
  grey_before_scan x grey = elim (eqb_tells x f) as (λ _. colour x ≡ Grey) [
    | inl same ↦ let black : with_scan colour f x ≡ Black = subst (λ y. with_scan colour f y ≡ Black) (sym same.1) scanned_is_black in absurd (cc (black, grey))
    | inr other ↦ sym (scan_keeps_other_colour x other.1) ∙ grey
  ]

module _ (heap : Heap) (words : List ℕ) (owner : ℕ → Owner) (colour : ℕ → Colour) (f : ℕ) (whole : length words ≡ table_length heap) (within : f < 16 * heap.groups) (grey : colour f ≡ Grey) where
  abbrev found : ℕ
  found = at heap words (Control (f / 16))

  abbrev pub black_words : List ℕ
  black_words = put heap words (Control (f / 16)) (bit_or found (blacken_bit_of f))

  below : f / 16 < heap.groups
  below = omega (arith, within)

  same_marked : (x : ℕ) → marked_bit (with_scan colour f x) ≡ marked_bit (colour x)
  same_marked x = elim (eqb_tells x f) as (λ _. marked_bit (with_scan colour f x) ≡ marked_bit (colour x)) [
    | inl same ↦ rw (same.1, scanned_is_black colour f, grey) refl
    | inr other ↦ ap marked_bit (scan_keeps_other_colour colour f x other.1)
  ]

  scanned_now : Marks heap words colour → (x : ℕ) → x / 16 ≡ f / 16 → bit_at (bit_or found (blacken_bit_of f)) (scanned_at x) ≡ scanned_bit (with_scan colour f x)
  scanned_now marks x here = elim (eqb_tells x f) as (λ _. bit_at (bit_or found (blacken_bit_of f)) (scanned_at x) ≡ scanned_bit (with_scan colour f x)) [
    | inl same ↦ rw (same.1, scanned_is_black colour f) (bit_is_set found 48 f)
    | inr other ↦ bit_beside_stays found 48 f x (λ e. other.1 (omega (arith, e, here)))
        ∙ word_has_scanned_bit heap words colour colour (f / 16) 0 whole below marks x here ∙ ap scanned_bit (sym (scan_keeps_other_colour colour f x other.1))
  ]

  -- and the new colours
  pub marks_after_blackening : Marks heap words colour → Marks heap black_words (with_scan colour f)
  marks_after_blackening marks = marks_after_control_word heap words colour (with_scan colour f) (f / 16) (bit_or found (blacken_bit_of f)) whole below marks
      (λ x here. other_bit_stays found 48 f (marked_at x) (λ e. omega (arith, e)) ∙ word_has_marked_bit heap words colour colour (f / 16) 0 whole below marks x here ∙ sym (same_marked x))
      (scanned_now marks)
      (λ x apart. scan_keeps_other_colour colour f x (λ e. apart (ap (λ y. y / 16) e)))

  -- which are right where it leads to marked fragments alone
  pub coloured_after_blackening : (fragments : ℕ → List ℕ) (phase : ℕ) → phase % cycle_phases ≡ marking_phase → ((source g : ℕ) → WordPointsTo heap words f source g → IsMarked colour g)
      → Coloured heap words owner colour fragments phase → Coloured heap black_words owner (with_scan colour f) fragments phase
  coloured_after_blackening fragments phase third seen stands = record {
    rest = λ rests. absurd (omega (arith, third, rests));
    early = λ one. absurd (omega (arith, third, one));
    born = λ x now. stands.born x (marked_before_scan colour f grey x now);
    black = λ making x source g black leads. scan_keeps_marked colour f grey g (elim (scan_black colour f x black) as (λ _. IsMarked colour g) [
      | inl same ↦ seen source g (subst (λ y. WordPointsTo heap words y source g) same (led_before_control_write heap words (f / 16) _ below x source g leads))
      | inr was ↦ stands.black making x source g was (led_before_control_write heap words (f / 16) _ below x source g leads)
    ]);
    first = λ making x i k keeps now. scan_keeps_marked colour f grey _ (stands.first making x i k keeps (marked_before_scan colour f grey x now));
  }
