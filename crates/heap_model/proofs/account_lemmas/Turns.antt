-- The entries that begin a phase, and what they tell.
use Rattle.std.proofs.Common.{◌≡◌, ◌≢◌, ℕ, ◌+◌, ◌*◌, ◌/◌, ◌%◌, ◌<◌, List, [], ◌∷◌, ◌++◌, ◌⊎◌, inl, inr, refl, sym, ap, ◌∙◌, subst, arith, Bool, Some, Contains}
use Rattle.std.proofs.lemmas.Bool.{cases_lt}
use Rattle.std.proofs.lemmas.List.Elements.{Contains-append_left, Contains-push, Contains-push_cases}
use Rattle.heap_model.specs.PhasePlan.{cycle_phases, rest as resting}
use Rattle.heap_model.specs.declared.heap.Heap.{Heap}
use Rattle.heap_model.specs.declared.entry.Entry.{Entry}
use Rattle.heap_model.specs.declared.entry.Entry.TheVariants as entries
use Rattle.heap_model.specs.account.Effects.{effect_of}
use Rattle.heap_model.specs.account.PhaseCounts.{phase, AllAnswered, HasEnded, JustEnded}
use Rattle.heap_model.specs.account.Account.{KeepsSpace}
use Rattle.heap_model.specs.account.Noting.{ended_by}
use Rattle.heap_model.proofs.account_lemmas.Snoc.{equal_snocs_equal_last}

-- the next phase begins, which is no multiple of seven
pub record Advances (heap : Heap) (history : List Entry) (entry : Entry) : Type 0 where
  pub to : ℕ
  pub is : entry ≡ entries.Advance to
  pub next : to ≡ phase history + 1
  pub not_seven : to % cycle_phases ≢ resting
  pub all : AllAnswered heap history
  pub one : (effect_of entry).phases ≡ 1

-- a cycle ends
pub record Finishes (heap : Heap) (history : List Entry) (entry : Entry) : Type 0 where
  pub cycle : ℕ
  pub kept : ℕ
  pub is : entry ≡ entries.Ends cycle kept
  pub at : phase history ≡ 7 * cycle + 6
  pub all : AllAnswered heap history
  pub one : (effect_of entry).phases ≡ 1

-- the phase stays
pub record Stays (entry : Entry) : Type 0 where
  pub none : (effect_of entry).phases ≡ 0
  pub no_advance : (p : ℕ) → entry ≡ entries.Advance p → ⊥
  pub no_end : (cycle kept : ℕ) → entry ≡ entries.Ends cycle kept → ⊥

-- each entry is one of these
pub entry_turn_cases : (heap : Heap) (play : Bool) (history : List Entry) (entry : Entry) → KeepsSpace heap play history entry → Advances heap history entry ⊎ (Finishes heap history entry ⊎ Stays entry)
entry_turn_cases heap play history (entries.Advance p) keeps =
    inl (record { to = p; is = refl; next = keeps.begins.0; not_seven = keeps.begins.1; all = keeps.begins.2; one = refl })
entry_turn_cases heap play history (entries.Ends cycle kept) keeps =
    inr (inl (record { cycle = cycle; kept = kept; is = refl; at = keeps.ends.0.0; all = keeps.ends.0.1; one = refl }))
entry_turn_cases heap play history entry keeps = inr (inr (record { none = refl; no_advance = λ p e. cc e; no_end = λ cycle kept e. cc e }))

-- the cycles that have ended
pub ended_cycles_with_entry : (heap : Heap) (history : List Entry) (entry : Entry) → Advances heap history entry ⊎ (Finishes heap history entry ⊎ Stays entry) → (old new : ℕ) → old ≡ phase history
    → new ≡ old + (effect_of entry).phases → (cycle : ℕ) → (HasEnded cycle history → cycle < old / 7) × (cycle < old / 7 → HasEnded cycle history)
    → (HasEnded cycle (history ++ entry ∷ []) → cycle < new / 7) × (cycle < new / 7 → HasEnded cycle (history ++ entry ∷ []))
ended_cycles_with_entry heap history entry turns old new here then cycle told = (to, from turns)
  where
    earlier : HasEnded cycle history → HasEnded cycle (history ++ entry ∷ [])
    earlier ended = (ended.0, Contains-append_left history (entry ∷ []) (entries.Ends cycle ended.0) ended.1)

    to : HasEnded cycle (history ++ entry ∷ []) → cycle < new / 7
    to ended = elim (Contains-push_cases history entry (entries.Ends cycle ended.0) ended.1) [
      | inl past ↦ (let below = told.0 (ended.0, past) in omega (arith, below, then))
      | inr now ↦ (elim turns [
        | inl a ↦ absurd (cc (a.is, now))
        | inr (inl f) ↦ (let same : f.cycle ≡ cycle = cc (f.is, now) in omega (arith, same, f.at, f.one, here, then))
        | inr (inr s) ↦ absurd (s.no_end cycle ended.0 now)
      ])
    ]

    from : Advances heap history entry ⊎ (Finishes heap history entry ⊎ Stays entry) → cycle < new / 7 → HasEnded cycle (history ++ entry ∷ [])
    from (inl a) below = earlier (told.1 (omega (arith, below, a.next, a.not_seven, a.one, here, then)))
    from (inr (inl f)) below = elim (cases_lt cycle f.cycle) [
      | inl less ↦ earlier (told.1 (omega (arith, less, f.at, here)))
      | inr above ↦ (let same : cycle ≡ f.cycle = omega (arith, above, below, f.at, f.one, here, then) in
          (f.kept, subst (λ x. Contains (history ++ entry ∷ []) x) (f.is ∙ ap (λ n. entries.Ends n f.kept) (sym same)) (Contains-push history entry)))
    ]
    from (inr (inr s)) below = earlier (told.1 (omega (arith, below, s.none, then)))

-- the cycle that has just ended
pub just_ended_by_entry : (history : List Entry) (entry : Entry) (cycle : ℕ) → (JustEnded cycle (history ++ entry ∷ []) → ended_by entry ≡ Some cycle) × (ended_by entry ≡ Some cycle → JustEnded cycle (history ++ entry ∷ []))
just_ended_by_entry history entry cycle =
    (λ j. ap ended_by (equal_snocs_equal_last history j.0 entry (entries.Ends cycle j.1) j.2), from entry)
  where
    from : (entry : Entry) → ended_by entry ≡ Some cycle → JustEnded cycle (history ++ entry ∷ [])
    from (entries.Ends c kept) e = (history, kept, ap (λ n. history ++ entries.Ends n kept ∷ []) (cc e))
    from entry e = cc e
