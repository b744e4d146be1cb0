-- Owners stand as they have to when fragments go to another one.
use Rattle.std.proofs.Common.{ℕ, ◌≤◌, List}
use Rattle.core_rule.proofs.Terms.{tally, Owner, IsSeated, IsBoards, OwnersStand, owner_after}
use Rattle.core_rule.proofs.owners.Handed.{handed_cases}
use Rattle.core_rule.proofs.owners.Keeping.{kept_by, kept_by_cases}

module _ (seats : ℕ) (owner : ℕ → Owner) (old : OwnersStand seats owner) where
  -- fragments go to nobody or to a seat, and the board's first isn't among them
  pub owners_stand_after_handing : (o : Owner) (fs : List ℕ) → IsSeated seats o → (1 ≤ tally 0 fs → ⊥) → OwnersStand seats (owner_after o owner fs)
  owners_stand_after_handing o fs seated others = record {
    seated = λ f. handed_cases (IsSeated seats) o owner fs f (λ there. seated) (λ away. old.seated f);
    board = handed_cases IsBoards o owner fs 0 (λ there. absurd (others there)) (λ away. old.board);
  }

  -- or to a new object
  pub owners_stand_after_keeping : (n : ℕ) (body : List ℕ) → (1 ≤ tally 0 body → ⊥) → OwnersStand seats (kept_by n body owner)
  owners_stand_after_keeping n body others = record {
    seated = λ f. kept_by_cases n body owner (IsSeated seats) f (λ there. tt) (λ away. old.seated f);
    board = kept_by_cases n body owner IsBoards 0 (λ there. absurd (others there)) (λ away. old.board);
  }
