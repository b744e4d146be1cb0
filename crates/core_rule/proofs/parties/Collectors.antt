-- Entries of the collector alone.
use Rattle.std.proofs.Common.{◌≡◌, ◌≤◌, true, List, [], ◌∷◌, length, filter, refl, ap, arith}
use Rattle.std.proofs.lemmas.List.Sums.{sum_by-cons}
use Rattle.std.specs.List.{AllByRecursion}
use Rattle.core_rule.proofs.Terms.{Entry, Advance, effect_of, phase}
use Rattle.heap_model.specs.account.Noting.{is_collectors}

-- none of them is another's
pub all_are_collectors : (added : List Entry) → AllByRecursion (λ entry. is_collectors entry ≡ true) added → filter is_collectors added ≡ added
all_are_collectors [] own = refl
all_are_collectors (entry ∷ added) own = rw own.0 (ap (λ es. entry ∷ es) (all_are_collectors added own.1))

-- each phase has an entry of the collector
pub phase_within_collector_entries : (told : List Entry) → phase told ≤ length (filter is_collectors told)
phase_within_collector_entries [] = omega arith
phase_within_collector_entries (Advance p ∷ told) = omega (arith, sum_by-cons (λ e. (effect_of e).phases) (Advance p) told, phase_within_collector_entries told)
phase_within_collector_entries (entry ∷ told) = omega (arith, sum_by-cons (λ e. (effect_of e).phases) entry told, phase_within_collector_entries told)
