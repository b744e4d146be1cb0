-- The word that tells the place of an array's spine is written anew: where the new place has the words that the old one has, every fragment leads where it led.
use Rattle.std.specs.Prelude.{if◌then◌else◌}
use Rattle.std.proofs.Common.{◌≡◌, ℕ, suc, ◌+◌, ◌-◌, ◌*◌, ◌<◌, List, length, Option, Some, None, inl, inr, nat_lt, refl, sym, ap, ◌∙◌, subst, arith}
use Rattle.std.proofs.lemmas.Bool.{cases_eq}
use Rattle.std.proofs.lemmas.Bool.Decides.{leb_tells}
use Rattle.heap_words.specs.declared.spot.Spot.{Spot}
use Rattle.core_rule.proofs.Terms.{spot_in, spot_word, Heap, Word, pointer_in, payload_in, spine_words_in, at, put, table_length, spine_place, FitsSpot, WordPointsTo}
use Rattle.core_rule.specs.marking.Sources.{spine_pointer, source_pointer}
use Rattle.core_rule.proofs.colours.LeadsFrames.{source_pointer_same, same_sources_beside}
use Rattle.core_rule.proofs.colours.SourceCases.{source_cases, source_is_word_pointer}
use Rattle.core_rule.proofs.ways.ArrayWords.{spot_in-word, fixed_word_has_no_head}
use Rattle.core_rule.proofs.words.Addresses.{written_word_is_read, other_part_stays, same_spines_after_word}

-- the word that tells a place leads nowhere
spot_nowhere : (spot : Spot) → FitsSpot spot → pointer_in 2 (spot_word spot) ≡ None
spot_nowhere spot fits = fixed_word_has_no_head spot.half spot.offset (omega (arith, fits.half_within)) (omega (arith, fits.offset_within))

module _ (heap : Heap) (words : List ℕ) (table : length words ≡ table_length heap) (s : ℕ) (inside : s < 16 * heap.groups) (from to : Spot) (from_fits : FitsSpot from) (to_fits : FitsSpot to)
    (was : at heap words (Word s 2) ≡ spot_word from)
    (copied : (k : ℕ) → k < spine_words_in (at heap words (Word s 0)) → at heap words (spine_place to k) ≡ at heap words (spine_place from k)) where
  abbrev pub words_swung : List ℕ
  words_swung = put heap words (Word s 2) (spot_word to)

  -- the first word stays
  pub first_swung : at heap words_swung (Word s 0) ≡ at heap words (Word s 0)
  first_swung = other_part_stays heap words (spot_word to) s 2 s 0 (λ e. omega (arith, e)) refl

  place_swung : spot_in (at heap words_swung (Word s 2)) ≡ to
  place_swung = ap spot_in (written_word_is_read heap words (spot_word to) s 2 table inside (omega arith)) ∙ spot_in-word to to_fits

  place_was : spot_in (at heap words (Word s 2)) ≡ from
  place_was = ap spot_in was ∙ spot_in-word from from_fits

  word_swung : (source : ℕ) → pointer_in source (at heap words_swung (Word s source)) ≡ pointer_in source (at heap words (Word s source))
  word_swung source = elim (cases_eq source 2) as (λ _. pointer_in source (at heap words_swung (Word s source)) ≡ pointer_in source (at heap words (Word s source))) [
    | inl third ↦ subst (λ p. pointer_in p (at heap words_swung (Word s p)) ≡ pointer_in p (at heap words (Word s p))) (sym third)
        (ap (pointer_in 2) (written_word_is_read heap words (spot_word to) s 2 table inside (omega arith)) ∙ spot_nowhere to to_fits ∙ sym (ap (pointer_in 2) was ∙ spot_nowhere from from_fits))
    | inr other ↦ ap (pointer_in source) (other_part_stays heap words (spot_word to) s 2 s source other refl)
  ]

  -- each word of the spine names what it named
  payload_swung : (k : ℕ) → k < spine_words_in (at heap words (Word s 0))
      → at heap words_swung (spine_place (spot_in (at heap words_swung (Word s 2))) k) ≡ at heap words (spine_place (spot_in (at heap words (Word s 2))) k)
  payload_swung k within =
      ap (λ (p : Spot). at heap words_swung (spine_place p k)) place_swung ∙ same_spines_after_word heap words (spot_word to) s 2 inside (omega arith) to.half (to.offset + k) ∙ copied k within
      ∙ sym (ap (λ (p : Spot). at heap words (spine_place p k)) place_was)

  abbrev pointer_by : ℕ → ℕ → ℕ → Option ℕ
  pointer_by first k word = if nat_lt k (spine_words_in first) then Some (payload_in word) else None

  spine_swung : (k : ℕ) → spine_pointer heap words_swung s k ≡ spine_pointer heap words s k
  spine_swung k =
      let now : ℕ = at heap words_swung (spine_place (spot_in (at heap words_swung (Word s 2))) k) in
      let before : ℕ = at heap words (spine_place (spot_in (at heap words (Word s 2))) k) in
      ap (λ first. pointer_by first k now) first_swung ∙ (elim (leb_tells (suc k) (spine_words_in (at heap words (Word s 0))))
      as (λ _. pointer_by (at heap words (Word s 0)) k now ≡ pointer_by (at heap words (Word s 0)) k before) [
        | inl within ↦ rw within.0 (ap (λ w. Some (payload_in w)) (payload_swung k within.1))
        | inr past ↦ rw past.0 refl
      ])

  here_swung : (source : ℕ) → source_pointer heap words_swung s source ≡ source_pointer heap words s source
  here_swung source = source_cases heap words s (λ o. source_pointer heap words_swung s source ≡ o) source
      (λ first. source_is_word_pointer heap words_swung s source first ∙ word_swung source)
      (λ behind. source_cases heap words_swung s (λ o. o ≡ spine_pointer heap words s (source - 4)) source (λ first. absurd (omega (arith, first, behind))) (λ late. spine_swung (source - 4)))

  -- so each source of each fragment leads where it led
  sources_swung : (f source : ℕ) → source_pointer heap words_swung f source ≡ source_pointer heap words f source
  sources_swung f source = elim (cases_eq f s) as (λ _. source_pointer heap words_swung f source ≡ source_pointer heap words f source) [
    | inl same ↦ subst (λ x. source_pointer heap words_swung x source ≡ source_pointer heap words x source) (sym same) (here_swung source)
    | inr other ↦ source_pointer_same heap words words_swung f (same_sources_beside heap words s 2 (spot_word to) inside (omega arith) f other) source
  ]

  pub led_before_moved_spine : (f source g : ℕ) → WordPointsTo heap words_swung f source g → WordPointsTo heap words f source g
  led_before_moved_spine f source g leads = record { within = leads.within; to = sym (sources_swung f source) ∙ leads.to }
