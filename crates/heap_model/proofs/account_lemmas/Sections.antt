-- The sections of a history to which entries were added that all fail the test, and the place of an entry in a list.
use Rattle.std.specs.Prelude.{Contains, slice_index_or}
use Rattle.std.proofs.Common.{◌≡◌, ℕ, zero, suc, ◌+◌, ◌<◌, Bool, false, List, [], ◌∷◌, ◌++◌, length, sym, ap, ◌∙◌, append_assoc, arith}
use Rattle.std.specs.List.{list_any}
use Rattle.std.proofs.lemmas.Bool.{or_parts}
use Rattle.std.proofs.lemmas.List.{append-nil}
use Rattle.std.proofs.lemmas.List.Sums.{sum_by-append}
use Rattle.heap_model.specs.declared.account.effect.Effect.{Effect}
use Rattle.heap_model.specs.declared.entry.Entry.{Entry}
use Rattle.heap_model.specs.account.Effects.{effect_of}
use Rattle.heap_model.specs.account.Space.{total}
use Rattle.heap_model.specs.account.Windows.{up_to_last, after_last}
use Rattle.heap_model.proofs.account_lemmas.Windows.{up_to_last-no, after_last-no}

module _ (test : Entry → Bool) where
  -- the last entry that passes is where it was
  pub up_to_last_stays : (history added : List Entry) → list_any test added ≡ false → up_to_last test (history ++ added) ≡ up_to_last test history
  up_to_last_stays history [] none = ap (up_to_last test) (append-nil history)
  up_to_last_stays history (entry ∷ more) none =
      let parts = or_parts (test entry) (list_any test more) none in
      ap (up_to_last test) (sym (append_assoc history (entry ∷ []) more)) ∙ up_to_last_stays (history ++ entry ∷ []) more parts.1 ∙ up_to_last-no test history entry parts.0

  -- and they come after it
  pub after_last_grows : (history added : List Entry) → list_any test added ≡ false → after_last test (history ++ added) ≡ after_last test history ++ added
  after_last_grows history [] none = ap (after_last test) (append-nil history) ∙ sym (append-nil (after_last test history))
  after_last_grows history (entry ∷ more) none =
      let parts = or_parts (test entry) (list_any test more) none in
      ap (after_last test) (sym (append_assoc history (entry ∷ []) more)) ∙ after_last_grows (history ++ entry ∷ []) more parts.1
      ∙ ap (λ es. es ++ more) (after_last-no test history entry parts.0) ∙ append_assoc (after_last test history) (entry ∷ []) more

-- a count over both is the counts over each
pub total-append : (summand : Effect → ℕ) (front back : List Entry) → total summand (front ++ back) ≡ total summand front + total summand back
total-append summand front back = sum_by-append (λ e. summand (effect_of e)) front back

-- where the entry stands in the list
pub record IsAt (entry : Entry) (list : List Entry) : Type 0 where
  pub front : List Entry
  pub back : List Entry
  pub parts : list ≡ front ++ entry ∷ back

at_index : (list : List Entry) (entry : Entry) (k : ℕ) → k < length list → slice_index_or list k entry ≡ entry → IsAt entry list
at_index [] entry k below same = absurd (omega (arith, below))
at_index (first ∷ list) entry zero below same = record { front = []; back = list; parts = ap (λ e. e ∷ list) same }
at_index (first ∷ list) entry (suc k) below same =
    let at = at_index list entry k (omega (arith, below)) same in
    record { front = first ∷ at.front; back = at.back; parts = ap (λ es. first ∷ es) at.parts }

pub contained_is_at : (list : List Entry) (entry : Entry) → Contains list entry → IsAt entry list
contained_is_at list entry contained = at_index list entry contained.0 contained.1 contained.2
