-- The collector's own entries, and what they leave.
use Rattle.std.proofs.Common.{◌≡◌, ℕ, List, [], ◌∷◌, ◌++◌, true, false, refl, sym, ◌∙◌}
use Rattle.std.proofs.lemmas.List.Elements.{filter-append}
use Rattle.core_rule.proofs.Terms.{effect_of, is_leave_of, Entry, Heap, Collector, Stage, CollectorAgrees}
use Rattle.core_rule.specs.counts.Counts.{is_collectors}
use Rattle.core_rule.proofs.entries.PhaseEntries.{phase_stays, answered_stays, left_stays}

-- the collector's phase and what it has seen are the history's still, at another stage and with an entry that begins no phase
pub collector_agrees_after_entry : (heap : Heap) (history : List Entry) (collector : Collector) (stage : Stage) (entry : Entry) → is_collectors entry ≡ true → (effect_of entry).phases ≡ 0
    → (effect_of entry).answers ≡ 0 → ((number : ℕ) → is_leave_of number entry ≡ false) → CollectorAgrees heap collector history
    → CollectorAgrees heap (record collector { stage = stage; log = collector.log ++ entry ∷ [] }) (history ++ entry ∷ [])
collector_agrees_after_entry heap history collector stage entry own none still gone stands = record {
  log = rw (filter-append is_collectors history (entry ∷ []), own, stands.log) refl;
  phase_told = stands.phase_told ∙ sym (phase_stays history entry none);
  looked = λ number less below present.
      answered_stays history entry number still ∙ stands.looked number less below (sym (left_stays history entry number (gone number)) ∙ present) ∙ sym (phase_stays history entry none);
}
