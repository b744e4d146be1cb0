-- A source of a fragment is one of its four words, or a word of its spine; and a fragment whose first word is no array's meta has no spine.
use Rattle.std.proofs.Common.{◌≡◌, ◌≢◌, ℕ, ◌+◌, ◌-◌, ◌*◌, ◌<◌, ◌≤◌, suc, List, Option, Some, None, inl, inr, nat_lt, refl, sym, ap, ◌∙◌, arith}
use Rattle.std.specs.Prelude.{if◌then◌else◌}
use Rattle.std.proofs.lemmas.Bool.{lt-ltb}
use Rattle.std.proofs.lemmas.Bool.Decides.{leb_tells}
use Rattle.core_rule.proofs.Terms.{spot_in, Heap, Word, at, spine_place, pointer_in, payload_in, spine_words_in, WordPointsTo}
pub use Rattle.core_rule.specs.marking.Sources.{TellsNoSpine}
use Rattle.core_rule.specs.marking.Sources.{spine_pointer, source_pointer}

none_below : (n k : ℕ) (o : Option ℕ) → n ≡ 0 → (if nat_lt k n then o else None) ≡ None
none_below n k o none = elim (leb_tells (suc k) n) as (λ _. (if nat_lt k n then o else None) ≡ None) [
  | inl below ↦ absurd (omega (arith, below.1, none))
  | inr past ↦ rw past.0 refl
]

module _ (heap : Heap) (words : List ℕ) (f : ℕ) where
  -- what is true of where a word leads and of where the spine's words lead is true of each source
  pub source_cases : (P : Option ℕ → Type 0) (source : ℕ) → (source < 4 → P (pointer_in source (at heap words (Word f source))))
      → (4 ≤ source → P (spine_pointer heap words f (source - 4))) → P (source_pointer heap words f source)
  source_cases P source word spine = elim (leb_tells (suc source) 4) as (λ _. P (source_pointer heap words f source)) [
    | inl first ↦ rw first.0 (word first.1)
    | inr behind ↦ rw behind.0 (spine (omega (arith, behind.1)))
  ]

  -- one of the four words leads as a source where it leads as a word
  pub source_is_word_pointer : (part : ℕ) → part < 4 → source_pointer heap words f part ≡ pointer_in part (at heap words (Word f part))
  source_is_word_pointer part below = source_cases (λ o. o ≡ pointer_in part (at heap words (Word f part))) part (λ first. refl) (λ behind. absurd (omega (arith, below, behind)))

  pub leads_by_word : (part g : ℕ) → f < 16 * heap.groups → part < 4 → pointer_in part (at heap words (Word f part)) ≡ Some g → WordPointsTo heap words f part g
  leads_by_word part g within below to = record { within = within; to = source_is_word_pointer part below ∙ to }

  pub word_pointer_of_lead : (part g : ℕ) → part < 4 → WordPointsTo heap words f part g → pointer_in part (at heap words (Word f part)) ≡ Some g
  word_pointer_of_lead part g below leads = sym (source_is_word_pointer part below) ∙ leads.to

  -- what leads is one of the four words, or one of the spine's
  pub lead_cases : (P : Type 0) (source g : ℕ) → (source < 4 → pointer_in source (at heap words (Word f source)) ≡ Some g → P)
      → (4 ≤ source → spine_pointer heap words f (source - 4) ≡ Some g → P) → WordPointsTo heap words f source g → P
  lead_cases P source g word spine leads = source_cases (λ o. o ≡ Some g → P) source word spine leads.to

  -- where there is no spine none of its words leads
  pub no_spine_word_leads : TellsNoSpine heap words f → (k g : ℕ) → spine_pointer heap words f k ≢ Some g
  no_spine_word_leads none k g to = let nowhere : None ≡ Some g = sym (none_below _ k _ none) ∙ to in absurd (cc nowhere)

  -- so what leads is one of the four words
  pub source_is_of_word : TellsNoSpine heap words f → (source g : ℕ) → WordPointsTo heap words f source g → source < 4
  source_is_of_word none source g = lead_cases (source < 4) source g (λ first to. first) (λ behind to. absurd (no_spine_word_leads none (source - 4) g to))

  -- a word of the spine leads as a source behind the four words, to the fragment that it names
  pub source_is_spine_pointer : (k : ℕ) → source_pointer heap words f (4 + k) ≡ spine_pointer heap words f k
  source_is_spine_pointer k = source_cases (λ o. o ≡ spine_pointer heap words f k) (4 + k) (λ first. absurd (omega (arith, first)))
      (λ behind. let same : 4 + k - 4 ≡ k = omega arith in ap (spine_pointer heap words f) same)

  pub spine_pointer_is_payload : (k : ℕ) → k < spine_words_in (at heap words (Word f 0))
      → spine_pointer heap words f k ≡ Some (payload_in (at heap words (spine_place (spot_in (at heap words (Word f 2))) k)))
  spine_pointer_is_payload k within = rw (lt-ltb k (spine_words_in (at heap words (Word f 0))) within) refl

  -- and no other
  pub spine_lead_is_payload : (k g : ℕ) → spine_pointer heap words f k ≡ Some g
      → (k < spine_words_in (at heap words (Word f 0))) × (g ≡ payload_in (at heap words (spine_place (spot_in (at heap words (Word f 2))) k)))
  spine_lead_is_payload k g to = elim (leb_tells (suc k) (spine_words_in (at heap words (Word f 0)))) as (λ _. (k < spine_words_in (at heap words (Word f 0))) × (g ≡ payload_in (at heap words (spine_place (spot_in (at heap words (Word f 2))) k)))) [
    | inl below ↦ (below.1, let both : Some g ≡ Some (payload_in (at heap words (spine_place (spot_in (at heap words (Word f 2))) k))) = sym to ∙ spine_pointer_is_payload k below.1 in cc)
    | inr past ↦ absurd (let nowhere : None ≡ Some g = sym (rw past.0 refl) ∙ to in cc nowhere)
  ]
