-- What stands of the heap and of each seat when a seat tells a reply that makes nothing.
use Rattle.std.proofs.Common.{◌≡◌, ℕ, List, [], ◌∷◌, ◌++◌, false, refl, arith}
use Rattle.std.proofs.lemmas.List.{length-append}
use Rattle.heap_model.specs.declared.account.effect.Effect.{Effect}
use Rattle.core_rule.proofs.Terms.{Entry, Heap, KeepsSpace, graph_of, effect_of, no_effect, is_of, Accepts, graph_seat, Point, Seat, Book, Began, IsAnswered, HeapStands}
use Rattle.core_rule.proofs.Terms.{SeatStands}
use Rattle.core_rule.specs.counts.Counts.{is_collectors}
use Rattle.core_rule.proofs.entries.ToldSpines.{seat_entry_tells_no_spine, same_told_after_entry}
use Rattle.core_rule.proofs.cycle.CycleHistory.{heap_in_cycle_after_entry, seat_in_cycle_after_other}
use Rattle.core_rule.proofs.frames.EntryFrames.{UsesNothing, heap_stands_after_entry, other_seat_stands_after_entry, same_grants_after_entry, same_fragments_of_itself}
use Rattle.core_rule.proofs.entries.Legality.{legal_after_entry}
use Rattle.heap_model.proofs.graph_changes.Shapes.{SameNodes}
use Rattle.core_rule.proofs.budgets.BudgetFrames.{SameGrants}
use Rattle.core_rule.proofs.frames.SeatFrames.{with_entry}

-- no summand of its effect is anything
pub effect_summand_is_none : (entry : Entry) (summand : Effect → ℕ) → effect_of entry ≡ no_effect → summand no_effect ≡ 0 → summand (effect_of entry) ≡ 0
effect_summand_is_none entry summand nothing none = rw nothing none

-- a reply was told, and no other is to come
pub began_after_reply : (history : List Entry) (entry : Entry) (number begun : ℕ) (point now : Point) → IsAnswered now → Began history number begun point → Began (history ++ entry ∷ []) number begun now
began_after_reply history entry number begun point now answered began = record {
  earlier = rw (length-append history (entry ∷ [])) (omega (arith, began.earlier));
  unanswered = λ busy. absurd (busy answered);
}

module _ (heap : Heap) (words : List ℕ) (book : Book) (entry : Entry) (nothing : effect_of entry ≡ no_effect)
    (nodes : SameNodes (graph_of heap book.history) (graph_of heap (book.history ++ entry ∷ []))) where
  uses_nothing : UsesNothing entry
  uses_nothing = record {
    taken = effect_summand_is_none entry (λ e. e.taken) nothing refl;
    given = effect_summand_is_none entry (λ e. e.given) nothing refl;
    freed = effect_summand_is_none entry (λ e. e.freed) nothing refl;
  }

  -- the heap stands
  pub heap_stands_after_reply : Accepts (graph_of heap book.history) entry → KeepsSpace heap false book.history entry → HeapStands heap words book → HeapStands heap words (with_entry book entry)
  heap_stands_after_reply accepts keeps stands =
      heap_stands_after_entry heap words words (same_fragments_of_itself heap words) book entry nodes
      uses_nothing
      (legal_after_entry heap false book.history entry stands.legal accepts keeps)
      (heap_in_cycle_after_entry heap words book.owner book.colour book.history entry (effect_summand_is_none entry (λ e. e.phases) nothing refl) book.fragments stands.cycle) stands

  -- as many spine words are granted, where a seat tells it
  pub same_grants_after_reply : is_collectors entry ≡ false → SameGrants heap book (with_entry book entry)
  same_grants_after_reply seats = same_grants_after_entry heap words words (same_fragments_of_itself heap words) book entry nodes (same_told_after_entry book.history entry (seat_entry_tells_no_spine entry seats (effect_summand_is_none entry (λ e. e.words) nothing refl)))

  -- another seat stands
  pub other_seat_stands_after_reply : (r : ℕ) (seat : Seat) → is_of r entry ≡ false → graph_seat (graph_of heap (book.history ++ entry ∷ [])) r ≡ graph_seat (graph_of heap book.history) r
      → SeatStands heap words book r seat → SeatStands heap words (with_entry book entry) r seat
  other_seat_stands_after_reply r seat other graph_seat stands =
      other_seat_stands_after_entry heap words words (same_fragments_of_itself heap words) book entry nodes r seat other graph_seat
      (seat_in_cycle_after_other heap words book.owner book.colour book.history entry (effect_summand_is_none entry (λ e. e.phases) nothing refl) r seat stands.cycle other) stands
