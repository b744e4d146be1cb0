-- What a call finds that asks for too many spine words: a run may show it as it is.
use Rattle.std.proofs.Common.{ℕ, ◌<◌, false, arith}
use Rattle.core_rule.proofs.Terms.{Heap, Budget, State, seat_at, IsMachine, at, Book, BudgetsStand, next_spine}
use Rattle.heap_model.specs.account.Refusals.{FindsSpine}
use Rattle.core_rule.proofs.budgets.BudgetSteps.{HasWeights}
use Rattle.core_rule.proofs.budgets.WeightSums.{other_seat_sums_within_limit}

module _ (heap : Heap) (state : State) (book : Book) (machine : IsMachine heap state) (stands : BudgetsStand heap state book) (number : ℕ) (here : number < heap.seats) where
  -- a seat that has asked for nothing yet finds what arrays have, and what others have asked for
  pub finds_spine_by_budget : HasWeights (next_spine heap state.words).half (seat_at state number) 0 0 0 → FindsSpine heap false book.history number (at heap state.words Budget)
  finds_spine_by_budget none =
      let others = other_seat_sums_within_limit heap state machine number here none.given_is none.refused_is in
      (omega (arith, stands.told, stands.word), omega (arith, stands.told, stands.word, others, here))
