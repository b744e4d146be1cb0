-- The entry of a reply that makes no object and tells no refusal: what it adds to the counts.
use Rattle.std.proofs.Common.{◌≡◌, ℕ, true, List, [], ◌∷◌, ◌++◌, refl, arith}
use Rattle.std.proofs.lemmas.Bool.{eq-eqb}
use Rattle.core_rule.proofs.Terms.{Command, Entry, Heap, Reply, is_of, made_by, taken_of, spent_of, AreUsed, Owner}
use Rattle.heap_model.specs.declared.entry.Entry.TheVariants as entries
use Rattle.heap_model.proofs.Histories.{total-more}
use Rattle.core_rule.proofs.entries.OwnEntries.{total_of_grows_by_own}

module _ (history : List Entry) (number : ℕ) (command : Command) (reply : Reply) where
  abbrev entry : Entry
  entry = entries.Said number command reply

  -- it is its seat's
  pub said_is_own : is_of number entry ≡ true
  said_is_own = eq-eqb number number refl

  -- it neither takes nor gives
  pub used_after_said : (heap : Heap) (owner : ℕ → Owner) → AreUsed heap owner history → AreUsed heap owner (history ++ entry ∷ [])
  used_after_said heap owner used =
      rw (total-more (λ e. e.given) history entry, total-more (λ e. e.freed) history entry, total-more (λ e. e.taken) history entry) (omega (arith, used))

  -- and spends nothing where it makes no object
  module _ (none : made_by command reply ≡ 0) where
    pub taken_stays_by_said : taken_of number (history ++ entry ∷ []) ≡ taken_of number history
    taken_stays_by_said = omega (arith, total_of_grows_by_own number (λ e. e.taken) history entry said_is_own)

    pub spent_stays_by_said : spent_of number (history ++ entry ∷ []) ≡ spent_of number history
    spent_stays_by_said = omega (arith, none, total_of_grows_by_own number (λ e. e.given) history entry said_is_own, total_of_grows_by_own number (λ e. e.born) history entry said_is_own)
