-- Each position that was pushed is in the queue, or with the one pass that popped it.
use Rattle.std.specs.Prelude.{◌≡◌, ℕ, ◌+◌, ◌<◌, ◌≤◌, List, [], ◌∷◌, ◌++◌, sum_by}
use mathlib.Core.Option.{some}
use lib.ListN.{get_elem?}
use Rattle.script_crew.specs.declared.position_rule.Tally.{Tally}

-- the shares that there are: one for each seat that a heap may have, and one for the caller
abbrev pub all_shares : ℕ
all_shares = 17

-- the tally of a pass with so many shares, which has pushed and popped these positions, where those were pushed in all
abbrev pub tally : ℕ → List ℕ → List ℕ → List ℕ → Tally
tally shares pushed popped known = record { shares = shares; pushed = pushed; popped = popped; known = known }

-- what all passes have pushed, by a measure of positions
abbrev pub pushed_by_all : (ℕ → ℕ) → List Tally → ℕ
pushed_by_all measure all = sum_by (λ one. sum_by measure one.pushed) all

-- what all passes have popped, by a measure of positions
abbrev pub popped_by_all : (ℕ → ℕ) → List Tally → ℕ
popped_by_all measure all = sum_by (λ one. sum_by measure one.popped) all

-- a pass without a share has pushed and popped nothing, and one with a share knows what was pushed in all
pub record IsSound (all : List Tally) (one : Tally) : Type 0 where
  pub idle : one.shares ≡ 0 → (one.pushed ≡ []) × (one.popped ≡ [])
  pub known : 0 < one.shares → (measure : ℕ → ℕ) → sum_by measure one.known ≡ pushed_by_all measure all

-- by every measure, what was pushed is what was popped and what the queue holds
pub record KeepsPositions (items : List ℕ) (all : List Tally) : Type 0 where
  pub shares : sum_by (λ one. one.shares) all ≡ all_shares
  pub balanced : (measure : ℕ → ℕ) → pushed_by_all measure all ≡ popped_by_all measure all + sum_by measure items
  pub sound : (port : ℕ) (one : Tally) → get_elem? all port ≡ some one → IsSound all one

-- the pass has pushed one position more
abbrev pub HasPushed : Tally → ℕ → Tally → Type 0
HasPushed old position new = new ≡ tally old.shares (old.pushed ++ position ∷ []) old.popped (old.known ++ position ∷ [])

-- the pass has popped one position more, and by no measure more than was pushed in all
pub record HasPopped (old : Tally) (position : ℕ) (new : Tally) : Type 0 where
  pub one_more : new ≡ tally old.shares old.pushed (old.popped ++ position ∷ []) old.known
  pub within : (measure : ℕ → ℕ) → sum_by measure new.popped ≤ sum_by measure old.known

-- a pass with every share has pushed what it has popped and what the queue holds
abbrev pub Settles : Tally → List ℕ → Type 0
Settles one items = one.shares ≡ all_shares → (measure : ℕ → ℕ) → sum_by measure one.pushed ≡ sum_by measure one.popped + sum_by measure items
