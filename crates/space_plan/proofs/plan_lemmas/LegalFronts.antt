-- What the rules of space say within a history that keeps them.
use Rattle.std.proofs.Common.{◌≡◌, ℕ, ◌+◌, List, [], ◌∷◌, ◌++◌, inl, inr, true, false, append_assoc, refl, sym, ap, ◌∙◌, subst, arith}
use Rattle.std.specs.List.{list_any}
use Rattle.std.proofs.lemmas.Bool.{cases_Bool, or_parts}
use Rattle.std.proofs.lemmas.List.{append-nil}
use Rattle.heap_model.specs.declared.entry.Entry.{Entry}
use Rattle.heap_model.specs.declared.entry.Entry.TheVariants as entries
use Rattle.heap_model.specs.declared.heap.Heap.{Heap}
use Rattle.heap_model.specs.account.Effects.{effect_of}
use Rattle.heap_model.specs.account.PhaseCounts.{phase}
use Rattle.heap_model.specs.account.Account.{KeepsSpace, KeepsSpaceAfter}
use Rattle.heap_model.specs.account.Windows.{begins_cycle}
use Rattle.heap_model.proofs.Histories.{total-more}
use Rattle.heap_model.proofs.account_lemmas.Fronts.{front_keeps_rules, back_keeps_rules}
use Rattle.reply_text.specs.write.Counts.{is_end}

-- the phase stays the first one as long as no cycle begins
quiet_entry : (heap : Heap) (before : List Entry) (entry : Entry) → KeepsSpace heap true before entry → phase before ≡ 0 → begins_cycle entry ≡ false → (effect_of entry).phases ≡ 0
quiet_entry heap before (entries.Advance p) keeps zeroth other =
    let first : p ≡ 1 = omega (arith, keeps.begins.0, zeroth) in
    let there : begins_cycle (entries.Advance 1) ≡ false = subst (λ n. begins_cycle (entries.Advance n) ≡ false) first other in
    absurd (cc there)
quiet_entry heap before (entries.Ends cycle kept) keeps zeroth other = absurd (omega (arith, keeps.ends.0.0, zeroth))
quiet_entry heap before entry keeps zeroth other = refl

no_begin_no_phase : (heap : Heap) (before rest : List Entry) → KeepsSpaceAfter heap true before rest → phase before ≡ 0 → list_any begins_cycle rest ≡ false → phase (before ++ rest) ≡ 0
no_begin_no_phase heap before [] kept zeroth none = ap phase (append-nil before) ∙ zeroth
no_begin_no_phase heap before (entry ∷ rest) kept zeroth none =
    let parts = or_parts (begins_cycle entry) (list_any begins_cycle rest) none in
    ap phase (sym (append_assoc before (entry ∷ []) rest))
    ∙ no_begin_no_phase heap (before ++ entry ∷ []) rest kept.1 (omega (arith, total-more (λ e. e.phases) before entry, zeroth, quiet_entry heap before entry kept.0 zeroth parts.0)) parts.1

-- where a cycle ends, one has begun
pub begun_before_end : (heap : Heap) (front : List Entry) (entry : Entry) (rest : List Entry) → KeepsSpaceAfter heap true [] (front ++ entry ∷ rest) → is_end entry ≡ true → list_any begins_cycle front ≡ true
begun_before_end heap front entry rest kept ends = elim (cases_Bool (list_any begins_cycle front)) [
  | inl any ↦ any
  | inr none ↦ absurd (late entry (back_keeps_rules heap true [] front (entry ∷ rest) kept).0 ends (no_begin_no_phase heap [] front (front_keeps_rules heap true [] front (entry ∷ rest) kept) refl none))
]
  where
    late : (e : Entry) → KeepsSpace heap true front e → is_end e ≡ true → phase front ≡ 0 → ⊥
    late (entries.Ends cycle left) keeps ends zeroth = omega (arith, keeps.ends.0.0, zeroth)
    late e keeps ends zeroth = cc ends
