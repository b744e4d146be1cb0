-- A seat gives back its reserve, and leaves.
use Rattle.std.proofs.Common.{◌≡◌, ℕ, ◌-◌, ◌/◌, ◌^◌, [], refl, arith, List, ◌∷◌, true, replicate}
use Rattle.std.proofs.lemmas.List.{length-replicate}
use Rattle.std.proofs.lemmas.List.Elements.{All-nil, All-replicate}
use Rattle.std.proofs.lemmas.Nat.{and_le_r}
use Rattle.std.specs.List.{All}
use Rattle.heap_model.specs.declared.command.Command.TheVariants as commands
use Rattle.core_machine.proofs.Terms.{Heap, Nil, IsAtRest, Fits, FitsRegister, Seat, mask_of}
use Rattle.core_machine.specs.declared.point.Leaving.TheVariants.{Emptying, Parting}
use Rattle.core_machine.specs.declared.point.Point.TheVariants as points
use Rattle.core_machine.specs.seat.HandshakeMoves.{empty_move, leave_move}
use Rattle.core_machine.specs.seat.Handshake.{after_emptying, after_leave, leave_point}
use Rattle.core_machine.proofs.call_lemmas.Awaits.{adds_where_none_awaited}
use Rattle.core_machine.proofs.moves.Standing.{PointStands, point_is_aside, BeginStands, CommandStands, ready_is_aside, ready_is_at_rest, resting_begin_stands}
use Rattle.core_machine.proofs.seat_lemmas.Aside.{IsAside, left_aside_is_absurd, fits_after_call}

-- the reserve was given back
fits_emptied : (heap : Heap) (seat : Seat) → Fits heap seat → IsAside heap seat → IsAtRest seat → seat.command ≡ commands.Leave → Fits heap (after_emptying seat)
fits_emptied heap seat fits aside rest leaves = record {
  own = record {
    registers_whole = fits.own.registers_whole;
    registers_fit = fits.own.registers_fit;
    cursor_within = fits.own.cursor_within;
    small_reserve = omega arith;
    reserve_of_cursor = All-nil (λ fragment. fragment / 16 ≡ seat.cursor);
  };
  hand = fits.hand;
  way = fits.way;
  asked_small = aside.asked_small;
  at_point = (rest, leaves, refl);
  way_at_point = aside.nowhere;
  answer_at_point = aside.silent;
  gone = left_aside_is_absurd aside.present;
}

-- nil fits everywhere
nils_fit : (heap : Heap) (n : ℕ) → All (FitsRegister heap) (replicate n Nil)
nils_fit heap n = All-replicate (FitsRegister heap) n Nil tt

-- the seat has left
fits_parted : (heap : Heap) (seat : Seat) → Fits heap seat → seat.reserve ≡ [] → Fits heap (after_leave seat)
fits_parted heap seat fits empty =
    fits_after_call heap (record seat { registers = replicate 16 Nil; seen = replicate 16 0; left = true }) (length-replicate 16 Nil) (nils_fit heap 16) fits.own.cursor_within fits.own.small_reserve fits.own.reserve_of_cursor
    (λ left. empty)

-- the reserve is given back
pub point_stands_at_emptying : PointStands (points.Leaving Emptying)
point_stands_at_emptying heap number seat here = record {
  step = record { in_table = here.fits.own.cursor_within; wide = λ found small. let le = and_le_r found (2 ^ 64 - 1 - mask_of seat.reserve) in omega arith; leads = λ found led. tt };
  fits = λ found small led. fits_emptied heap seat here.fits (point_is_aside heap number seat (points.Leaving Emptying) here (λ e. cc) here.way here.answer) here.hand.0 here.hand.1;
  near = λ found. record { fewer = omega arith; paid = omega arith };
  adds = λ now. adds_where_none_awaited heap now number seat (empty_move number seat) refl (rw here.point_is refl) refl refl;
}

-- the seat leaves
pub point_stands_at_parting : PointStands (points.Leaving Parting)
point_stands_at_parting heap number seat here = record {
  step = record { in_table = here.few; wide = λ found small. omega arith; leads = λ found led. tt };
  fits = λ found small led. fits_parted heap seat here.fits here.hand.2;
  near = λ found. record { fewer = omega arith; paid = omega arith };
  adds = λ now. adds_where_none_awaited heap now number seat (leave_move number seat) refl (rw here.point_is refl) refl refl;
}

-- a leave begins
pub command_stands_for_leave : CommandStands commands.Leave
command_stands_for_leave heap number seat ready = by seat.reserve refl where
  by : (reserve : List ℕ) → seat.reserve ≡ reserve → BeginStands heap number seat commands.Leave (record seat { command = commands.Leave; point = points.Leaving (leave_point reserve) })
  by [] is =
      let aside = ready_is_aside heap number seat commands.Leave ready in
      resting_begin_stands heap number seat commands.Leave ready (points.Leaving Parting) (ready_is_at_rest heap number seat commands.Leave ready, refl, is) aside.nowhere aside.silent (λ words. refl) (omega arith)
  by (fragment ∷ more) is =
      let aside = ready_is_aside heap number seat commands.Leave ready in
      resting_begin_stands heap number seat commands.Leave ready (points.Leaving Emptying) (ready_is_at_rest heap number seat commands.Leave ready, refl, rw is (omega arith)) aside.nowhere aside.silent (λ words. refl) (omega arith)
