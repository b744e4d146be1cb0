-- A seat's counts when the history grows by an entry of its own.
use Rattle.std.proofs.Common.{◌≡◌, ℕ, ◌+◌, List, [], ◌∷◌, ◌++◌, filter, refl, sym, ◌∙◌, subst, true, arith, length}
use Rattle.std.proofs.lemmas.List.Elements.{filter-append}
use Rattle.heap_model.specs.declared.account.effect.Effect.{Effect}
use Rattle.core_rule.proofs.Terms.{Entry, effect_of, is_of, graph_seat, total_of, Graph, Seat, CountsAgree, fragments_in_hand, SeenStands, stamps_at}
use Rattle.heap_model.proofs.Histories.{total_of-more}

-- its own entries, and sums of what they did
pub own_entries_grow : (number : ℕ) (history : List Entry) (entry : Entry) → is_of number entry ≡ true → filter (is_of number) (history ++ entry ∷ []) ≡ filter (is_of number) history ++ entry ∷ []
own_entries_grow number history entry own = rw (filter-append (is_of number) history (entry ∷ []), own) refl

-- its own list grows as its section of the history does
pub own_list_grows : (number : ℕ) (history mine : List Entry) (entry : Entry) → is_of number entry ≡ true → mine ≡ filter (is_of number) history
    → mine ++ entry ∷ [] ≡ filter (is_of number) (history ++ entry ∷ [])
own_list_grows number history mine entry own was = rw (own_entries_grow number history entry own, was) refl

pub total_of_grows_by_own : (number : ℕ) (summand : Effect → ℕ) (history : List Entry) (entry : Entry) → is_of number entry ≡ true
    → total_of number summand (history ++ entry ∷ []) ≡ total_of number summand history + summand (effect_of entry)
total_of_grows_by_own number summand history entry own = rw (total_of-more number summand history entry, own) refl

-- what a seat has at hand
abbrev pub at_hand : Seat → ℕ
at_hand seat = length seat.reserve + length (fragments_in_hand seat.hand seat.body)

module _ (g grown : Graph) (history : List Entry) (number : ℕ) (seat now : Seat) (counts : CountsAgree g history number seat) where
  -- its counts once an entry of its own is added, by what that gave, made and took
  pub counts_agree_after_own : (entry : Entry) → is_of number entry ≡ true → now.made ≡ length (graph_seat grown number).objects → now.sets ≡ (graph_seat grown number).sets → SeenStands grown number (stamps_at now now.point)
      → (graph_seat grown number).left ≡ now.left → at_hand now + (effect_of entry).given + (effect_of entry).born ≡ at_hand seat + (effect_of entry).taken → CountsAgree grown (history ++ entry ∷ []) number now
  counts_agree_after_own entry own numbered stamped seen leaves sum = record {
    numbered = numbered;
    stamped = stamped;
    seen = seen;
    leaves = leaves;
    unborn = rw (
      total_of_grows_by_own number (λ e. e.given) history entry own,
      total_of_grows_by_own number (λ e. e.born) history entry own,
      total_of_grows_by_own number (λ e. e.taken) history entry own,
    ) (omega (arith, counts.unborn, sum));
  }

-- no entry is added
pub counts_agree_without_entry : (g : Graph) (history : List Entry) (number : ℕ) (seat now : Seat) → now.made ≡ seat.made → now.sets ≡ seat.sets → stamps_at now now.point ≡ stamps_at seat seat.point
    → now.left ≡ seat.left → at_hand now ≡ at_hand seat → CountsAgree g history number seat → CountsAgree g history number now
counts_agree_without_entry g history number seat now made sets seen left sum counts = record {
  numbered = made ∙ counts.numbered;
  stamped = sets ∙ counts.stamped;
  seen = subst (SeenStands g number) (sym seen) counts.seen;
  leaves = counts.leaves ∙ sym left;
  unborn = rw sum counts.unborn;
}
