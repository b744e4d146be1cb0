-- How many spine words the calls of all seats have granted and refused at most.
use Rattle.std.proofs.Common.{◌≡◌, ℕ, zero, suc, ◌+◌, ◌*◌, ◌<◌, ◌≤◌, inl, inr, sym, subst, arith}
use Rattle.std.proofs.lemmas.Bool.Decides.{eqb_tells}
use Rattle.core_rule.proofs.Terms.{Command, Heap, spine_need_of, Withdrawing, Gathering, GivingBack, Refusing, Placing, Listing, Bearing, Point, State, seat_at, sum_upto, IsMachine}
use Rattle.core_rule.proofs.Terms.{FitsPoint, Seat, of_seats, granted_at, refused_at}
use Rattle.heap_model.specs.declared.command.Command.TheVariants as commands
use Rattle.heap_model.specs.Command.{IsCommand}
use Rattle.core_machine.specs.declared.point.Making.TheVariants.{Storing}
use Rattle.core_machine.specs.declared.point.Point.TheVariants as points
use Rattle.core_machine.proofs.table_lemmas.Free.{sum_upto-none}
use Rattle.core_rule.proofs.lists.SumLemmas.{sum-suc, sum_plus}

-- a command asks for at most as many spine words as the largest array has
pub spine_need_within_limit : (command : Command) → IsCommand command → spine_need_of command ≤ 1024
spine_need_within_limit (commands.Array d cells) range = omega (arith, range.1.1)
spine_need_within_limit _ range = omega arith

-- what a call has granted, and refused, is no more than that
weights_few : (heap : Heap) (seat : Seat) (point : Point) → FitsPoint heap seat point → granted_at seat point + refused_at seat point ≤ 1024
weights_few heap seat (points.Making Withdrawing) fits = omega (arith, spine_need_within_limit seat.command fits.makes.in_range)
weights_few heap seat (points.Making Gathering) fits = omega (arith, spine_need_within_limit seat.command fits.makes.in_range)
weights_few heap seat (points.Making GivingBack) fits = omega (arith, spine_need_within_limit seat.command fits.0.makes.in_range)
weights_few heap seat (points.Making Refusing) fits = omega (arith, spine_need_within_limit seat.command fits.0.makes.in_range)
weights_few heap seat (points.Making Placing) fits = omega (arith, spine_need_within_limit seat.command fits.0.0.makes.in_range)
weights_few heap seat (points.Making Listing) fits = omega (arith, spine_need_within_limit seat.command fits.0.0.makes.in_range)
weights_few heap seat (points.Making Storing) fits = omega (arith, spine_need_within_limit seat.command fits.0.makes.in_range)
weights_few heap seat (points.Making Bearing) fits = omega (arith, spine_need_within_limit seat.command fits.0.makes.in_range)
weights_few heap seat _ fits = omega arith

-- a sum of numbers of which each is few
sum_few : (n : ℕ) (f : ℕ → ℕ) → ((i : ℕ) → i < n → f i ≤ 1024) → sum_upto n f ≤ 1024 * n
sum_few zero f few = rw (sum_upto-none f) (omega arith)
sum_few (suc n) f few =
    let rest : sum_upto n f ≤ 1024 * n = sum_few n f (λ i below. few i (omega arith)) in
    let last : f n ≤ 1024 = few n (omega arith) in
    rw (sum-suc n f) (omega arith)

-- and of which one is nothing
sum_idle : (n at : ℕ) (f : ℕ → ℕ) → at < n → f at ≡ 0 → ((i : ℕ) → i < n → f i ≤ 1024) → sum_upto n f + 1024 ≤ 1024 * n
sum_idle zero at f here idle few = absurd (omega (arith, here))
sum_idle (suc n) at f here idle few =
    let last : f n ≤ 1024 = few n (omega arith) in
    rw (sum-suc n f) (elim (eqb_tells at n) as (λ _. sum_upto n f + f n + 1024 ≤ 1024 * suc n) [
      | inl same ↦ let none : f n ≡ 0 = subst (λ i. f i ≡ 0) same.1 idle in omega (arith, none, sum_few n f (λ i below. few i (omega arith)))
      | inr apart ↦ omega (arith, last, sum_idle n at f (omega (arith, here, apart.1)) idle (λ i below. few i (omega arith)))
    ])

module _ (heap : Heap) (state : State) (machine : IsMachine heap state) where
  abbrev both : ℕ → ℕ
  both r = granted_at (seat_at state r) (seat_at state r).point + refused_at (seat_at state r) (seat_at state r).point

  few : (r : ℕ) → r < heap.seats → both r ≤ 1024
  few r below = weights_few heap (seat_at state r) (seat_at state r).point (machine.fit r (subst (λ n. r < n) (sym machine.seated) below)).at_point

  all : sum_upto heap.seats both ≡ of_seats heap state granted_at + of_seats heap state refused_at
  all = sum_plus heap.seats both (λ r. granted_at (seat_at state r) (seat_at state r).point) (λ r. refused_at (seat_at state r) (seat_at state r).point) (λ r below. omega arith)

  -- all seats have at most so many granted and refused
  pub seat_sums_within_limit : of_seats heap state granted_at + of_seats heap state refused_at ≤ 1024 * heap.seats
  seat_sums_within_limit = omega (arith, all, sum_few heap.seats both few)

  -- and the others of one that has none
  pub other_seat_sums_within_limit : (number : ℕ) → number < heap.seats → granted_at (seat_at state number) (seat_at state number).point ≡ 0 → refused_at (seat_at state number) (seat_at state number).point ≡ 0
      → of_seats heap state granted_at + of_seats heap state refused_at + 1024 ≤ 1024 * heap.seats
  other_seat_sums_within_limit number here none wanted = omega (arith, all, sum_idle heap.seats number both here (omega (arith, none, wanted)) few)
