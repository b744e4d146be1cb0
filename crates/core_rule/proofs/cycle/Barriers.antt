-- The machine's tests of a seat's last answer are the rule's windows; and while black fragments are made each set's barrier is on.
use Rattle.std.proofs.Common.{◌≡◌, ℕ, ◌%◌, ◌<◌, true, false, inl, inr, arith, ◌≢◌, nat_lt, if◌then◌else◌}
use Rattle.std.proofs.lemmas.Bool.Decides.{nat_tests}
use Rattle.core_rule.proofs.Terms.{barriers, black_births, sweep, cycle_phases, has_barrier_of, Seat, IsBetween, IsNear}
use Rattle.heap_model.specs.PhasePlan.{rest as resting}
use Rattle.core_machine.specs.seat.MakingMoves.{bears_black_of}

-- the test of a number for a window
inside : (low high n : ℕ) → (if nat_lt low n then nat_lt n high else false) ≡ true → (low < n) × (n < high)
inside low high n is = grind (arith, nat_tests, is)

is_inside : (low high n : ℕ) → low < n → n < high → (if nat_lt low n then nat_lt n high else false) ≡ true
is_inside low high n above below = grind (arith, nat_tests, above, below)

module _ (seat : Seat) where
  -- a set's barrier is on from the answer to a cycle's phase of barriers on, up to that to its sweep
  pub barrier_is_between : has_barrier_of seat ≡ true → IsBetween barriers sweep seat.answered
  barrier_is_between on = let both = inside 0 6 (seat.answered % cycle_phases) on in record { from = omega (arith, both.0); upto = omega (arith, both.1) }

  pub between_has_barrier : IsBetween barriers sweep seat.answered → has_barrier_of seat ≡ true
  between_has_barrier between = is_inside 0 6 (seat.answered % cycle_phases) (omega (arith, between.from)) (omega (arith, between.upto))

  -- births are black from the answer to its phase of black births on
  pub black_births_are_between : bears_black_of seat ≡ true → IsBetween black_births sweep seat.answered
  black_births_are_between black = let both = inside 1 6 (seat.answered % cycle_phases) black in record { from = omega (arith, both.0); upto = omega (arith, both.1) }

  pub between_bears_black : IsBetween black_births sweep seat.answered → bears_black_of seat ≡ true
  between_bears_black between = is_inside 1 6 (seat.answered % cycle_phases) (omega (arith, between.from)) (omega (arith, between.upto))

module _ (phase answer : ℕ) (near : IsNear phase answer) where
  -- while black fragments are made the barrier of a seat's sets is on
  pub making_is_between_barriers : IsBetween black_births sweep phase → IsBetween barriers sweep answer
  making_is_between_barriers making = elim near [
    | inl same ↦ record { from = omega (arith, same, making.from); upto = omega (arith, same, making.upto) }
    | inr before ↦ record { from = omega (arith, before, making.from, making.upto); upto = omega (arith, before, making.from, making.upto) }
  ]

  -- a seat whose barrier is on runs a cycle
  pub barrier_is_not_resting : IsBetween barriers sweep answer → phase % cycle_phases ≢ resting
  barrier_is_not_resting on = elim near [
    | inl same ↦ λ rests. omega (arith, same, rests, on.from)
    | inr before ↦ λ rests. omega (arith, before, rests, on.upto)
  ]
