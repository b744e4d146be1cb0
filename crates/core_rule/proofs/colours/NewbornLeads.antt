-- Where the words of a newborn record lead.
use Rattle.std.proofs.Common.{◌≡◌, ◌≢◌, ℕ, zero, suc, ◌+◌, ◌^◌, ◌<◌, false, eqb, cond, inl, inr, List, length, get_or, Option, Some, None, refl, sym, ap, ◌∙◌, arith}
use Rattle.std.proofs.lemmas.Bool.{cases_lt, lt-ltb}
use Rattle.std.proofs.lemmas.Bool.Decides.{eqb_tells, leb_tells}
use Rattle.std.proofs.lemmas.List.{get_or_past}
use Rattle.heap_words.specs.declared.cell.Cell.{Cell}
use Rattle.heap_words.specs.declared.kind.Kind.TheVariants as kinds
use Rattle.heap_words.specs.declared.name.Name.{Name}
use Rattle.heap_words.specs.Name.{name_word}
use Rattle.core_rule.proofs.Terms.{pointer_in, head_of, first_pointer, reference_of, record_meta, link_after, record_word_of}
use Rattle.core_machine.proofs.table_lemmas.CellWords.{cell_of-cell_word}

-- a word of 0 leads nowhere
pub zero_leads_nowhere : (part : ℕ) → pointer_in part 0 ≡ None
zero_leads_nowhere zero = refl
zero_leads_nowhere (suc part) = let later : eqb (suc part) 0 ≡ false = grind arith in rw later refl

nowhere : (o : Option ℕ) (g : ℕ) → o ≡ None → o ≢ Some g
nowhere o g none some = let both : None ≡ Some g = sym none ∙ some in absurd (cc)

module _ (fragments : List ℕ) (small : (i : ℕ) → i < length fragments → get_or fragments i 0 < 2 ^ 30) where
  -- the fragment after the one at k
  abbrev pub IsNext : ℕ → ℕ → Type 0
  IsNext k g = (k + 1 < length fragments) × (g ≡ get_or fragments (k + 1) 0)

  next_small : (k : ℕ) → get_or fragments k 0 < 2 ^ 30
  next_small k = elim (cases_lt k (length fragments)) [
    | inl within ↦ small k within
    | inr past ↦ let none : get_or fragments k 0 ≡ 0 = get_or_past fragments k 0 past in omega (arith, none)
  ]

  -- what isn't 0 stands in the list
  next_there : (k g : ℕ) → get_or fragments k 0 ≢ 0 → k < length fragments
  next_there k g some = elim (cases_lt k (length fragments)) [
    | inl within ↦ within
    | inr past ↦ absurd (some (get_or_past fragments k 0 past))
  ]

  second_of : (n g : ℕ) → n ≡ get_or fragments 1 0 → cond {A = Option ℕ} (eqb n 0) None (Some n) ≡ Some g → IsNext 0 g
  second_of n g same = elim (eqb_tells n 0) as (λ _. cond {A = Option ℕ} (eqb n 0) None (Some n) ≡ Some g → IsNext 0 g) [
    | inl none ↦ λ leads. absurd (nowhere (cond {A = Option ℕ} (eqb n 0) None (Some n)) g (rw none.0 refl) leads)
    | inr some ↦ λ leads. let is : Some n ≡ Some g = rw some.0 at leads in
        (next_there 1 g (λ none. some.1 (same ∙ none)), let it : n ≡ g = cc in sym it ∙ same)
  ]

  meta_leads : (fields g : ℕ) → fields < 2 ^ 29 → pointer_in 0 (record_meta fields fragments) ≡ Some g → IsNext 0 g
  meta_leads fields g few leads =
      let word : pointer_in 0 (record_meta fields fragments) ≡ cond {A = Option ℕ} (eqb (get_or fragments 1 0) 0) None (Some (get_or fragments 1 0))
      = ap (λ (c : Cell). first_pointer c.kind c) (cell_of-cell_word kinds.Fixed fields (get_or fragments 1 0) (omega (arith, few)) (omega (arith, next_small 1)))
      ∙ rw (lt-ltb fields (2 ^ 29) few) refl in
      second_of (get_or fragments 1 0) g refl (sym word ∙ leads)

  pub name_leads : (name : Name) → name.owner < 2 ^ 30 → name.count < 2 ^ 32 → head_of (name_word name) ≡ None
  name_leads name owner count = ap (λ (c : Cell). reference_of c.kind c.value) (cell_of-cell_word kinds.Fixed name.owner name.count owner count)

  link_leads : (k g : ℕ) → pointer_in 0 (link_after fragments k) ≡ Some g → IsNext k g
  link_leads k g = elim (leb_tells (suc (k + 1)) (length fragments)) as (λ _. pointer_in 0 (link_after fragments k) ≡ Some g → IsNext k g) [
    | inl more ↦ λ leads.
        let word : pointer_in 0 (link_after fragments k) ≡ Some (get_or fragments (k + 1) 0)
        = rw more.0 (ap (λ (c : Cell). first_pointer c.kind c) (cell_of-cell_word kinds.Reference (get_or fragments (k + 1) 0) 0 (next_small (k + 1)) (omega arith))) in
        let is : Some (get_or fragments (k + 1) 0) ≡ Some g = sym word ∙ leads in
        (omega (arith, more.1), let it : get_or fragments (k + 1) 0 ≡ g = cc in sym it)
    | inr last ↦ λ leads.
        let none : link_after fragments k ≡ 0 = rw last.0 refl in
        absurd (nowhere (pointer_in 0 (link_after fragments k)) g (ap (pointer_in 0) none) leads)
  ]

  module _ (name : Name) (fields : ℕ) where
    pub newborn_word_is_link : (k : ℕ) → record_word_of name fields fragments (suc k) 0 ≡ link_after fragments (suc k)
    newborn_word_is_link k = let later : eqb (suc k) 0 ≡ false = grind arith in rw later refl

    head_zero : (part : ℕ) → record_word_of name fields fragments 0 (suc (suc part)) ≡ 0
    head_zero part =
        let some : eqb (suc (suc part)) 0 ≡ false = grind arith in
        let later : eqb (suc (suc part)) 1 ≡ false = grind arith in
        rw (some, later) refl

    part_zero : (k part : ℕ) → record_word_of name fields fragments (suc k) (suc part) ≡ 0
    part_zero k part =
        let later : eqb (suc k) 0 ≡ false = grind arith in
        let some : eqb (suc part) 0 ≡ false = grind arith in
        rw (later, some) refl

    no_lead : (part word g : ℕ) → word ≡ 0 → pointer_in part word ≢ Some g
    no_lead part word g none = nowhere (pointer_in part word) g (ap (pointer_in part) none ∙ zero_leads_nowhere part)

    -- by a meta or a link to the fragment after its own, and nowhere else
    pub newborn_leads_to_next : (k part g : ℕ) → name.owner < 2 ^ 30 → name.count < 2 ^ 32 → fields < 2 ^ 29
        → pointer_in part (record_word_of name fields fragments k part) ≡ Some g → IsNext k g
    newborn_leads_to_next zero zero g owner count few leads = meta_leads fields g few leads
    newborn_leads_to_next zero (suc zero) g owner count few leads = absurd (nowhere (head_of (name_word name)) g (name_leads name owner count) leads)
    newborn_leads_to_next zero (suc (suc part)) g owner count few leads = absurd (no_lead (suc (suc part)) _ g (head_zero part) leads)
    newborn_leads_to_next (suc k) zero g owner count few leads = link_leads (suc k) g (ap (pointer_in 0) (sym (newborn_word_is_link k)) ∙ leads)
    newborn_leads_to_next (suc k) (suc part) g owner count few leads = absurd (no_lead (suc part) _ g (part_zero k part) leads)
