-- Where a way ends: a get loads its field; by the barrier a set loads or swaps it, and a compare and swap shades first or compares at once.
use Rattle.std.specs.Prelude.{IsSome}
use Rattle.std.proofs.Common.{◌≡◌, ℕ, Option, Some, None, true, false, inl, inr, refl, subst, sym}
use Rattle.core_machine.proofs.Terms.{Command, Set, Cas, Getting, LoadingOld, Swapping, ShadingSide, Replacing, Seat, has_barrier_of, field_point_of, register_head}
use Rattle.core_machine.proofs.Terms.{side_register_of, guard_point_of, expect_point_of}
use Rattle.core_machine.specs.declared.point.Access.{Access}
use Rattle.core_machine.specs.declared.point.Side.TheVariants as sides
use Rattle.core_machine.proofs.seat_lemmas.Aside.{left_aside_is_absurd}
use Rattle.core_machine.proofs.table_lemmas.Bits.{true_or_false}

-- by the two values of the compare and swap
pub guard_point_cases : (P : Access → Type 0) (seat : Seat) → (IsSome (register_head (side_register_of seat sides.Expected)) → P (ShadingSide sides.Expected))
    → (register_head (side_register_of seat sides.Expected) ≡ None → IsSome (register_head (side_register_of seat sides.New)) → P (ShadingSide sides.New))
    → (register_head (side_register_of seat sides.Expected) ≡ None → register_head (side_register_of seat sides.New) ≡ None → P Replacing) → P (guard_point_of seat)
guard_point_cases P seat expects offers compares = by (register_head (side_register_of seat sides.Expected)) (register_head (side_register_of seat sides.New)) refl refl where
  by : (old new : Option ℕ) → register_head (side_register_of seat sides.Expected) ≡ old → register_head (side_register_of seat sides.New) ≡ new → P (expect_point_of old new)
  by (Some head) new is of = expects (subst IsSome (sym is) refl)
  by None (Some head) is of = offers is (subst IsSome (sym of) refl)
  by None None is of = compares is of

module _ (P : Access → Type 0) (seat : Seat) where
  pub field_point_cases : (command : Command) → P Getting → (has_barrier_of seat ≡ true → P LoadingOld) → (has_barrier_of seat ≡ false → P Swapping)
      → (has_barrier_of seat ≡ true → IsSome (register_head (side_register_of seat sides.Expected)) → P (ShadingSide sides.Expected))
      → (has_barrier_of seat ≡ true → register_head (side_register_of seat sides.Expected) ≡ None → IsSome (register_head (side_register_of seat sides.New)) → P (ShadingSide sides.New))
      → ((has_barrier_of seat ≡ true → (register_head (side_register_of seat sides.Expected) ≡ None) × (register_head (side_register_of seat sides.New) ≡ None)) → P Replacing)
      → P (field_point_of seat command)
  field_point_cases (Set r i v) gets loads swaps expects offers compares =
      elim (true_or_false (has_barrier_of seat)) as (λ _. P (field_point_of seat (Set r i v))) [ inl on ↦ rw on (loads on) | inr off ↦ rw off (swaps off) ]
  field_point_cases (Cas r i a v) gets loads swaps expects offers compares =
      elim (true_or_false (has_barrier_of seat)) as (λ _. P (field_point_of seat (Cas r i a v))) [
        | inl on ↦ rw on (guard_point_cases P seat (expects on) (offers on) (λ old new. compares (λ is. (old, new))))
        | inr off ↦ rw off (compares (λ on. left_aside_is_absurd off on))
      ]
  field_point_cases _ gets loads swaps expects offers compares = gets
