-- What stays of a seat's counts when the history grows by an entry that isn't its own.
use Rattle.std.specs.Prelude.{if◌then◌else◌, sum_by}
use Rattle.std.proofs.Common.{◌≡◌, ℕ, ◌+◌, ◌≤◌, List, [], ◌∷◌, ◌++◌, length, filter, drop, refl, ap, ◌∙◌, false, zero-add, arith}
use Rattle.std.proofs.lemmas.List.{append-nil}
use Rattle.std.proofs.lemmas.List.Elements.{filter-append}
use Rattle.std.proofs.lemmas.List.Sums.{sum_by-append}
use Rattle.heap_model.specs.declared.account.effect.Effect.{Effect}
use Rattle.core_rule.proofs.Terms.{Entry, Heap, effect_of, is_of, total_of, is_reply_to, Point, Began, GathersRight, Owner}
use Rattle.heap_model.specs.declared.entry.Entry.TheVariants as entries
use Rattle.heap_model.proofs.Histories.{total_of-more}
use Rattle.core_rule.proofs.entries.InFlight.{window_grows_by_entry, began_after_entry}

-- another's entry is no reply to the seat
pub is_no_reply_to_other : (r : ℕ) (entry : Entry) → is_of r entry ≡ false → is_reply_to r entry ≡ false
is_no_reply_to_other r (entries.Said number command reply) other = other
is_no_reply_to_other r _ other = refl

-- nothing is added to what the seat did
pub total_of_stays_by_other : (r : ℕ) (summand : Effect → ℕ) (history : List Entry) (entry : Entry) → is_of r entry ≡ false → total_of r summand (history ++ entry ∷ []) ≡ total_of r summand history
total_of_stays_by_other r summand history entry other = rw (total_of-more r summand history entry, other) (omega arith)

-- nor to its own entries
pub own_entries_stay_by_other : (r : ℕ) (history : List Entry) (entry : Entry) → is_of r entry ≡ false → filter (is_of r) (history ++ entry ∷ []) ≡ filter (is_of r) history
own_entries_stay_by_other r history entry other = rw (filter-append (is_of r) history (entry ∷ []), other, append-nil (filter (is_of r) history)) refl

-- a seat's call began where it did, and isn't answered by the entry
pub began_after_other_entry : (history : List Entry) (entry : Entry) (r begun : ℕ) (point : Point) → is_of r entry ≡ false → Began history r begun point
    → Began (history ++ entry ∷ []) r begun point
began_after_other_entry history entry r begun point other began = began_after_entry history entry r begun point point (is_no_reply_to_other r entry other) (λ busy. busy) began

-- sums over the window of a call only grow
pub sum_grows_by_entry : (f : Entry → ℕ) (history : List Entry) (entry : Entry) → sum_by f (history ++ entry ∷ []) ≡ sum_by f history + f entry
sum_grows_by_entry f history entry = sum_by-append f history (entry ∷ []) ∙ ap (λ n. sum_by f history + n) (zero-add (f entry))

-- a summand of an entry's effect, and nothing where it is the seat's
abbrev pub summand_but : ℕ → (Effect → ℕ) → Entry → ℕ
summand_but r summand entry = if is_of r entry then 0 else summand (effect_of entry)

-- so what a gather knows stays, whatever entry is added
pub gathers_right_after_entry : (heap : Heap) (owner : ℕ → Owner) (r : ℕ) (history : List Entry) (begun : ℕ) (entry : Entry) (cursor tried given : ℕ) → begun ≤ length history
    → GathersRight heap owner r (drop begun history) cursor tried given
    → GathersRight heap owner r (drop begun (history ++ entry ∷ [])) cursor tried given
gathers_right_after_entry heap owner r history begun entry cursor tried given earlier gathers =
    let window : drop begun (history ++ entry ∷ []) ≡ drop begun history ++ entry ∷ [] = window_grows_by_entry history begun entry earlier in
    rw window record {
      passed = omega (arith, gathers.passed, sum_grows_by_entry (λ e. (effect_of e).freed) (drop begun history) entry, sum_grows_by_entry (λ e. summand_but r (λ x. x.given) e) (drop begun history) entry);
      returned = omega (arith, gathers.returned, sum_grows_by_entry (λ e. summand_but r (λ x. x.taken) e) (drop begun history) entry);
    }
