-- Where the sources of fragments lead once a word was written.
use Rattle.std.specs.Prelude.{if◌then◌else◌}
use Rattle.std.proofs.Common.{◌≡◌, ◌≢◌, ◌⊎◌, ℕ, suc, ◌+◌, ◌-◌, ◌*◌, ◌<◌, List, length, inl, inr, refl, ap, ◌∙◌, sym, subst, Option, Some, None, nat_lt, arith}
use Rattle.std.proofs.lemmas.Bool.{cases_eq}
use Rattle.std.proofs.lemmas.Bool.Decides.{leb_tells}
use Rattle.core_rule.proofs.Terms.{spot_in, Heap, Control, Word, at, put, index_of, table_length, spine_place, pointer_in, payload_in, spine_words_in, WordPointsTo}
use Rattle.core_machine.specs.declared.table.address.Address.{Address}
use Rattle.core_rule.specs.marking.Sources.{spine_pointer, source_pointer}
use Rattle.core_rule.proofs.colours.SourceCases.{TellsNoSpine, source_cases, source_is_word_pointer, leads_by_word, word_pointer_of_lead, source_is_of_word}
use Rattle.core_rule.proofs.words.Addresses.{at-put_apart, written_word_is_read, other_fragment_word_stays, other_part_stays}

-- the four words of the fragment are the same, and so are the words of its spine
pub record SameSources (heap : Heap) (words now : List ℕ) (f : ℕ) : Type 0 where
  pub parts : (part : ℕ) → part < 4 → at heap now (Word f part) ≡ at heap words (Word f part)
  pub spine : (k : ℕ) → k < spine_words_in (at heap words (Word f 0))
      → at heap now (spine_place (spot_in (at heap words (Word f 2))) k) ≡ at heap words (spine_place (spot_in (at heap words (Word f 2))) k)

-- where word k of a spine leads, by the fragment's first word and its spine's place
abbrev spine_by : Heap → List ℕ → ℕ → ℕ → ℕ → Option ℕ
spine_by heap words first place k = if nat_lt k (spine_words_in first) then Some (payload_in (at heap words (spine_place (spot_in place) k))) else None

module _ (heap : Heap) (words now : List ℕ) (f : ℕ) (same : SameSources heap words now f) where
  spine_same : (k : ℕ) → spine_pointer heap now f k ≡ spine_pointer heap words f k
  spine_same k =
      ap (λ first. spine_by heap now first (at heap now (Word f 2)) k) (same.parts 0 (omega arith))
      ∙ ap (λ place. spine_by heap now (at heap words (Word f 0)) place k) (same.parts 2 (omega arith)) ∙ by
    where
      by : spine_by heap now (at heap words (Word f 0)) (at heap words (Word f 2)) k ≡ spine_pointer heap words f k
      by = elim (leb_tells (suc k) (spine_words_in (at heap words (Word f 0)))) as (λ _. spine_by heap now (at heap words (Word f 0)) (at heap words (Word f 2)) k ≡ spine_pointer heap words f k) [
        | inl within ↦ rw within.0 (ap (λ w. Some (payload_in w)) (same.spine k within.1))
        | inr past ↦ rw past.0 refl
      ]

  -- then each source leads where it led
  pub source_pointer_same : (source : ℕ) → source_pointer heap now f source ≡ source_pointer heap words f source
  source_pointer_same source = source_cases heap words f (λ o. source_pointer heap now f source ≡ o) source
      (λ first. source_is_word_pointer heap now f source first ∙ ap (pointer_in source) (same.parts source first))
      (λ behind. source_cases heap now f (λ o. o ≡ spine_pointer heap words f (source - 4)) source (λ first. absurd (omega (arith, first, behind))) (λ late. spine_same (source - 4)))

  pub led_before_where_same : (source g : ℕ) → WordPointsTo heap now f source g → WordPointsTo heap words f source g
  led_before_where_same source g leads = record { within = leads.within; to = sym (source_pointer_same source) ∙ leads.to }

  pub leads_now_where_same : (source g : ℕ) → WordPointsTo heap words f source g → WordPointsTo heap now f source g
  leads_now_where_same source g leads = record { within = leads.within; to = source_pointer_same source ∙ leads.to }

  -- and there is no spine where there was none
  pub tells_no_spine_still : TellsNoSpine heap words f → TellsNoSpine heap now f
  tells_no_spine_still none = ap spine_words_in (same.parts 0 (omega arith)) ∙ none

-- the sources of all fragments stay where a word before the fragments' was written: the phase, an answer, the budget, the spot or a control word
pub same_sources_ahead : (heap : Heap) (words : List ℕ) (a : Address) (n : ℕ) → index_of heap a < 19 + heap.groups → (f : ℕ) → SameSources heap words (put heap words a n) f
same_sources_ahead heap words a n ahead f = record {
  parts = λ part below. at-put_apart heap words a (Word f part) n (λ e. omega (arith, e, ahead));
  spine = λ k within. at-put_apart heap words a (spine_place (spot_in (at heap words (Word f 2))) k) n (λ e. omega (arith, e, ahead));
}

-- those of other fragments stay where a word of a fragment was
pub same_sources_beside : (heap : Heap) (words : List ℕ) (a b n : ℕ) → a < 16 * heap.groups → b < 4 → (f : ℕ) → f ≢ a → SameSources heap words (put heap words (Word a b) n) f
same_sources_beside heap words a b n within below f apart = record {
  parts = λ part fits. other_fragment_word_stays heap words n a b f part below fits apart;
  spine = λ k inside. at-put_apart heap words (Word a b) (spine_place (spot_in (at heap words (Word f 2))) k) n (λ e. omega (arith, e, within, below));
}

-- a word ahead of the fragments' was written
pub led_before_ahead_write : (heap : Heap) (words : List ℕ) (a : Address) (n : ℕ) → index_of heap a < 19 + heap.groups → (f source g : ℕ)
    → WordPointsTo heap (put heap words a n) f source g → WordPointsTo heap words f source g
led_before_ahead_write heap words a n ahead f = led_before_where_same heap words (put heap words a n) f (same_sources_ahead heap words a n ahead f)

pub ahead_leads : (heap : Heap) (words : List ℕ) (a : Address) (n : ℕ) → index_of heap a < 19 + heap.groups → (f source g : ℕ)
    → WordPointsTo heap words f source g → WordPointsTo heap (put heap words a n) f source g
ahead_leads heap words a n ahead f = leads_now_where_same heap words (put heap words a n) f (same_sources_ahead heap words a n ahead f)

-- a control word was
pub led_before_control_write : (heap : Heap) (words : List ℕ) (group n : ℕ) → group < heap.groups → (f source g : ℕ) → WordPointsTo heap (put heap words (Control group) n) f source g → WordPointsTo heap words f source g
led_before_control_write heap words group n below = led_before_ahead_write heap words (Control group) n (omega (arith, below))

pub leads_after_control_write : (heap : Heap) (words : List ℕ) (group n : ℕ) → group < heap.groups → (f source g : ℕ) → WordPointsTo heap words f source g → WordPointsTo heap (put heap words (Control group) n) f source g
leads_after_control_write heap words group n below = ahead_leads heap words (Control group) n (omega (arith, below))

-- a fragment without a spine has none once one of its words was written by a word that is no array's meta
pub tells_no_spine_after_put : (heap : Heap) (words : List ℕ) (a b n : ℕ) → length words ≡ table_length heap → a < 16 * heap.groups → spine_words_in n ≡ 0
    → TellsNoSpine heap words a → TellsNoSpine heap (put heap words (Word a b) n) a
tells_no_spine_after_put heap words a b n whole within plain none = elim (cases_eq b 0) as (λ _. TellsNoSpine heap (put heap words (Word a b) n) a) [
  | inl first ↦ subst (λ p. TellsNoSpine heap (put heap words (Word a p) n) a) (sym first) (ap spine_words_in (written_word_is_read heap words n a 0 whole within (omega arith)) ∙ plain)
  | inr behind ↦ ap spine_words_in (other_part_stays heap words n a b a 0 (λ e. behind (sym e)) refl) ∙ none
]

-- a word of a fragment was written that had no spine before, and has none after it
module _ (heap : Heap) (words : List ℕ) (a b n : ℕ) (within : a < 16 * heap.groups) (below : b < 4) (before : TellsNoSpine heap words a) (after : TellsNoSpine heap (put heap words (Word a b) n) a) where
  abbrev now : List ℕ
  now = put heap words (Word a b) n

  -- what is so of a source of another fragment, and of another one of this, is so of each source but for the one that was written
  but_written : (P : ℕ → ℕ → Type 0) (f source : ℕ) → (f ≢ a → P f source) → (f ≡ a → source ≢ b → P f source) → P f source ⊎ ((f ≡ a) × (source ≡ b))
  but_written P f source beside other = elim (cases_eq f a) as (λ _. P f source ⊎ ((f ≡ a) × (source ≡ b))) [
    | inr apart ↦ inl (beside apart)
    | inl same ↦ elim (cases_eq source b) as (λ _. P f source ⊎ ((f ≡ a) × (source ≡ b))) [
      | inl here ↦ inr (same, here)
      | inr away ↦ inl (other same away)
    ]
  ]

  -- each source leads where it led, but for that one
  pub leads_but : (f source g : ℕ) → WordPointsTo heap now f source g → WordPointsTo heap words f source g ⊎ ((f ≡ a) × (source ≡ b))
  leads_but f source g leads = but_written (λ x y. WordPointsTo heap words x y g) f source
      (λ apart. led_before_where_same heap words now f (same_sources_beside heap words a b n within below f apart) source g leads)
      (λ same other.
      let first = source_is_of_word heap now f (subst (TellsNoSpine heap now) (sym same) after) source g leads in
      leads_by_word heap words f source g leads.within first (ap (pointer_in source) (sym (other_part_stays heap words n a b f source other same)) ∙ word_pointer_of_lead heap now f source g first leads))

  pub leads_now_or_is_written : (f source g : ℕ) → WordPointsTo heap words f source g → WordPointsTo heap now f source g ⊎ ((f ≡ a) × (source ≡ b))
  leads_now_or_is_written f source g leads = but_written (λ x y. WordPointsTo heap now x y g) f source
      (λ apart. leads_now_where_same heap words now f (same_sources_beside heap words a b n within below f apart) source g leads)
      (λ same other.
      let first = source_is_of_word heap words f (subst (TellsNoSpine heap words) (sym same) before) source g leads in
      leads_by_word heap now f source g leads.within first (ap (pointer_in source) (other_part_stays heap words n a b f source other same) ∙ word_pointer_of_lead heap words f source g first leads))

  -- so each lead is an old one or the new word's
  pub led_before_or_by_written : length words ≡ table_length heap → (f source g : ℕ) → WordPointsTo heap now f source g → WordPointsTo heap words f source g ⊎ ((f ≡ a) × (source ≡ b) × (pointer_in b n ≡ Some g))
  led_before_or_by_written whole f source g leads = elim (leads_but f source g leads) as (λ _. WordPointsTo heap words f source g ⊎ ((f ≡ a) × (source ≡ b) × (pointer_in b n ≡ Some g))) [
    | inl before ↦ inl before
    | inr new ↦ inr (new.0, new.1, written new.0 new.1)
  ]
    where
      written : f ≡ a → source ≡ b → pointer_in b n ≡ Some g
      written same here =
          let there : WordPointsTo heap now a b g = subst (λ x. WordPointsTo heap now x b g) same (subst (λ s. WordPointsTo heap now f s g) here leads) in
          ap (pointer_in b) (sym (written_word_is_read heap words n a b whole within below)) ∙ word_pointer_of_lead heap now a b g below there
