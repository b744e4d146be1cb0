-- Where the sources of a newborn array lead: by the words of its spine to its payload fragments.
use Rattle.std.proofs.Common.{◌≡◌, ◌≢◌, ℕ, zero, suc, ◌+◌, ◌-◌, ◌^◌, ◌<◌, ◌≤◌, false, eqb, List, length, get_or, Option, Some, None, refl, sym, ap, ◌∙◌, subst, arith}
use Rattle.core_rule.proofs.Terms.{spot_in, array_words, Heap, Word, pointer_in, payload_in, spine_words_in, at, spine_place, FitsSpot, array_word_of, spine_word, fragment_at}
use Rattle.core_rule.proofs.Terms.{WordPointsTo}
use Rattle.heap_words.specs.declared.name.Name.{Name}
use Rattle.heap_words.specs.declared.spot.Spot.{Spot}
use Rattle.core_rule.specs.marking.Sources.{spine_pointer}
use Rattle.core_rule.proofs.colours.NewbornLeads.{zero_leads_nowhere}
use Rattle.core_rule.proofs.colours.SourceCases.{TellsNoSpine, lead_cases, no_spine_word_leads, spine_lead_is_payload}
use Rattle.core_rule.proofs.ways.ArrayWords.{sentinel_leads_nowhere, spine_words_in-meta, spot_in-word, payload_in-word}

-- the words behind an array's first fragment are 0
behind_zero : (name : Name) (cells : ℕ) (spine : Spot) (k part : ℕ) → array_word_of name cells spine (suc k) part ≡ 0
behind_zero name cells spine k part = let later : eqb (suc k) 0 ≡ false = grind arith in rw later refl

nowhere : (o : Option ℕ) (g : ℕ) → o ≡ None → o ≢ Some g
nowhere o g none some = let both : None ≡ Some g = sym none ∙ some in absurd (cc both)

module _ (heap : Heap) (words : List ℕ) (name : Name) (cells : ℕ) (spine : Spot) (body : List ℕ) (owner : name.owner < 2 ^ 30) (count : name.count < 2 ^ 32) (few : cells ≤ 4096) (fits : FitsSpot spine)
    (whole : length body ≡ array_words cells + 1) (small : (i : ℕ) → i < length body → get_or body i 0 < 2 ^ 30)
    (stored : (k part : ℕ) → k < length body → part < 4 → at heap words (Word (fragment_at body k) part) ≡ array_word_of name cells spine k part)
    (listed : (j : ℕ) → j < array_words cells → at heap words (spine_place spine j) ≡ spine_word (fragment_at body (j + 1))) where
  -- none of its words leads anywhere
  array_nowhere : (k part : ℕ) → pointer_in part (array_word_of name cells spine k part) ≡ None
  array_nowhere zero part = sentinel_leads_nowhere name cells spine part owner count (omega (arith, few)) fits
  array_nowhere (suc k) part = ap (pointer_in part) (behind_zero name cells spine k part) ∙ zero_leads_nowhere part

  -- a payload fragment has no spine
  payload_no_spine : (k : ℕ) → suc k < length body → TellsNoSpine heap words (fragment_at body (suc k))
  payload_no_spine k below = ap spine_words_in (stored (suc k) 0 below (omega arith) ∙ behind_zero name cells spine k 0)

  -- each word of the spine names the next payload fragment
  sentinel_leads : (j g : ℕ) → spine_pointer heap words (fragment_at body 0) j ≡ Some g → (j + 1 < length body) × (g ≡ get_or body (j + 1) 0)
  sentinel_leads j g to =
      let its = spine_lead_is_payload heap words (fragment_at body 0) j g to in
      let as_many : spine_words_in (at heap words (Word (fragment_at body 0) 0)) ≡ array_words cells
      = ap spine_words_in (stored 0 0 (omega (arith, whole)) (omega arith)) ∙ spine_words_in-meta cells (omega (arith, few)) in
      let there : spot_in (at heap words (Word (fragment_at body 0) 2)) ≡ spine = ap spot_in (stored 0 2 (omega (arith, whole)) (omega arith)) ∙ spot_in-word spine fits in
      let within : j < array_words cells = subst (λ n. j < n) as_many its.0 in
      let more : j + 1 < length body = omega (arith, whole, within) in
      (more, its.1 ∙ ap (λ s. payload_in (at heap words (spine_place s j))) there ∙ ap payload_in (listed j within) ∙ payload_in-word (fragment_at body (j + 1)) (small (j + 1) more))

  behind_leads : (k j g : ℕ) → k < length body → spine_pointer heap words (fragment_at body k) j ≡ Some g → (k ≡ 0) × (j + 1 < length body) × (g ≡ get_or body (j + 1) 0)
  behind_leads zero j g below to = let next = sentinel_leads j g to in (refl, next.0, next.1)
  behind_leads (suc k) j g below to = absurd (no_spine_word_leads heap words (fragment_at body (suc k)) (payload_no_spine k below) j g to)

  -- so its first fragment leads to the others, and these nowhere
  pub array_first_leads_to_payload : (k source g : ℕ) → k < length body → WordPointsTo heap words (fragment_at body k) source g → (k ≡ 0) × (source - 4 + 1 < length body) × (g ≡ get_or body (source - 4 + 1) 0)
  array_first_leads_to_payload k source g below = lead_cases heap words (fragment_at body k) ((k ≡ 0) × (source - 4 + 1 < length body) × (g ≡ get_or body (source - 4 + 1) 0)) source g
      (λ first to. absurd (nowhere _ g (ap (pointer_in source) (stored k source below first) ∙ array_nowhere k source) to))
      (λ behind to. behind_leads k (source - 4) g below to)
