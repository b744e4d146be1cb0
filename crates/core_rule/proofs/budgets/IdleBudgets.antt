-- Between calls no spine words are granted to a call or taken back: the budget word is what the history tells.
use Rattle.std.proofs.Common.{◌≡◌, ℕ, ◌<◌, length, refl, sym, subst, arith}
use Rattle.core_rule.proofs.Terms.{Heap, Point, State, seat_at, Seat, of_seats, granted_at, refused_at, AllIdle, WordsAreUsed}
use Rattle.core_machine.specs.declared.point.Point.TheVariants.{Idle}
use Rattle.core_machine.proofs.table_lemmas.Free.{sum_of_nothing_is_zero}

-- what is nothing for every seat at rest comes to nothing
none_idle : (heap : Heap) (state : State) (number : Seat → Point → ℕ) → length state.seats ≡ heap.seats → AllIdle state → ((seat : Seat) → number seat Idle ≡ 0) → of_seats heap state number ≡ 0
none_idle heap state number seated idle none =
    sum_of_nothing_is_zero heap.seats (λ r. number (seat_at state r) (seat_at state r).point)
    (λ r below. subst (λ point. number (seat_at state r) point ≡ 0) (sym (idle r (subst (λ n. r < n) (sym seated) below))) (none (seat_at state r)))

pub words_are_used : WordsAreUsed
words_are_used heap state book rule idle =
    let budgets = rule.space.budgets in
    let granted = none_idle heap state granted_at rule.machine.seated idle (λ seat. refl) in
    let refused = none_idle heap state refused_at rule.machine.seated idle (λ seat. refl) in
    (omega (arith, budgets.word, budgets.told, granted, refused), omega (arith, budgets.word, budgets.low, refused))
