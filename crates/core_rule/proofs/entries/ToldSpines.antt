-- An entry that grants and returns no spine words, begins no cycle and is no swing leaves what the history tells of spines.
use Rattle.std.proofs.Common.{◌≡◌, ◌≢◌, Bool, true, false, List, [], ◌∷◌, ◌++◌, Contains, inl, inr, refl, subst, arith}
use Rattle.std.proofs.lemmas.List.Elements.{Contains-push_cases}
use Rattle.core_rule.proofs.Terms.{Entry, Swings, Id, effect_of, after_last, begins_cycle, begins_phase, since_cycle, returned_in_cycle}
use Rattle.heap_model.specs.declared.entry.Entry.TheVariants as entries
use Rattle.heap_model.specs.account.Noting.{is_collectors}
use Rattle.heap_model.specs.account.Sweep.{HasSwung}
use Rattle.heap_model.proofs.account_lemmas.Windows.{after_last-no, after_last-yes}
use Rattle.core_rule.proofs.budgets.BudgetFrames.{SameTold, granted_words_stay, returned_words_stay}

-- nothing has swung by it
pub has_swung_before_entry : (history : List Entry) (entry : Entry) → ((id : Id) → entry ≢ Swings id) → (id : Id) → HasSwung id (history ++ entry ∷ []) → HasSwung id history
has_swung_before_entry history entry none id = by (begins_phase entry) refl
  where
    none_there : Contains [] (Swings id) → HasSwung id history
    none_there there = absurd (omega (arith, there.1))

    by : (b : Bool) → begins_phase entry ≡ b → HasSwung id (history ++ entry ∷ []) → HasSwung id history
    by true begins swung = none_there (subst (λ es. Contains es (Swings id)) (after_last-yes begins_phase history entry begins) swung)
    by false goes swung = elim (Contains-push_cases (after_last begins_phase history) entry (Swings id) (subst (λ es. Contains es (Swings id)) (after_last-no begins_phase history entry goes) swung)) [
      | inl there ↦ there
      | inr last ↦ absurd (none id last)
    ]

-- the cycle under way has returned as many words
pub returned_in_cycle_stays : (history : List Entry) (entry : Entry) → begins_cycle entry ≡ false → (effect_of entry).returned ≡ 0 → returned_in_cycle (history ++ entry ∷ []) ≡ returned_in_cycle history
returned_in_cycle_stays history entry goes none = rw (after_last-no begins_cycle history entry goes) (returned_words_stay (since_cycle history) entry none)

-- so no entry does that tells of none
pub record TellsNoSpine (entry : Entry) : Type 0 where
  pub granted : (effect_of entry).words ≡ 0
  pub returned : (effect_of entry).returned ≡ 0
  pub begins_none : begins_cycle entry ≡ false
  pub swings_none : (id : Id) → entry ≢ Swings id

pub same_told_after_entry : (history : List Entry) (entry : Entry) → TellsNoSpine entry → SameTold history (history ++ entry ∷ [])
same_told_after_entry history entry tells = record {
  granted = granted_words_stay history entry tells.granted;
  returned = returned_words_stay history entry tells.returned;
  in_cycle = returned_in_cycle_stays history entry tells.begins_none tells.returned;
  swung = has_swung_before_entry history entry tells.swings_none;
}

-- an entry of a seat is such a one where it grants no words
pub seat_entry_tells_no_spine : (entry : Entry) → is_collectors entry ≡ false → (effect_of entry).words ≡ 0 → TellsNoSpine entry
seat_entry_tells_no_spine (entries.Said number command reply) seats none = record { granted = none; returned = refl; begins_none = refl; swings_none = λ id e. absurd (cc) }
seat_entry_tells_no_spine (entries.Takes number count) seats none = record { granted = refl; returned = refl; begins_none = refl; swings_none = λ id e. absurd (cc) }
seat_entry_tells_no_spine (entries.GivesBack number count) seats none = record { granted = refl; returned = refl; begins_none = refl; swings_none = λ id e. absurd (cc) }
seat_entry_tells_no_spine (entries.Answers number p) seats none = record { granted = refl; returned = refl; begins_none = refl; swings_none = λ id e. absurd (cc) }
seat_entry_tells_no_spine _ seats none = absurd (cc)
