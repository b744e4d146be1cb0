-- Books whose objects are as before tell of as many spine words.
use Rattle.std.proofs.Common.{◌≡◌, ◌≢◌, ℕ, ◌≤◌, List, refl}
use Rattle.core_rule.proofs.Terms.{Entry, Heap, graph_of, Book, nodes_in, node_at, tally, Owner, Dead, owner_after}
use Rattle.core_rule.proofs.owners.Handed.{handed_cases, dead_was_dead_before_handing}
use Rattle.heap_model.proofs.graph_changes.Shapes.{SameShape}
use Rattle.core_rule.proofs.objects.ObjectFrames.{SameKept}
use Rattle.core_rule.proofs.budgets.BudgetFrames.{SameDead, SameGrants, SameTold, same_dead_of_itself}
use Rattle.core_rule.proofs.spines.SpineFrames.{same_kept_of_itself}

-- what is to be freed is as before where fragments go to another owner that aren't to be freed, before or then
pub same_dead_after_handing : (o : Owner) (owner : ℕ → Owner) (fs : List ℕ) → ((i k : ℕ) → o ≢ Dead i k) → ((f i k : ℕ) → 1 ≤ tally f fs → owner f ≢ Dead i k) → SameDead owner (owner_after o owner fs)
same_dead_after_handing o owner fs undead alive = record {
  stays = λ f i k is. handed_cases (λ x. x ≡ Dead i k) o owner fs f (λ there. absurd (alive f i k there is)) (λ away. is);
  was = dead_was_dead_before_handing o owner fs undead;
}

-- a book with a longer history, whose objects have their shapes, and with other owners, by which the same is kept and is to be freed
pub same_grants_with_owners : (heap : Heap) (book : Book) (history : List Entry) (owner : ℕ → Owner) → SameTold book.history history → SameKept book.owner owner → SameDead book.owner owner
    → ((i : ℕ) → SameShape (node_at (graph_of heap history) book.made i) (nodes_in heap book i)) → SameGrants heap book (record book { history = history; owner = owner })
same_grants_with_owners heap book history owner told kept dead shapes = record {
  told = told;
  kept = kept;
  dead = dead;
  shapes = shapes;
  made = refl;
  fragments = refl;
  spines = refl;
  spine_owner = refl;
}

-- and with the same owners
pub same_grants_with_history : (heap : Heap) (book : Book) (history : List Entry) → SameTold book.history history
    → ((i : ℕ) → SameShape (node_at (graph_of heap history) book.made i) (nodes_in heap book i)) → SameGrants heap book (record book { history = history })
same_grants_with_history heap book history told shapes = same_grants_with_owners heap book history book.owner told (same_kept_of_itself book.owner) (same_dead_of_itself book.owner) shapes
