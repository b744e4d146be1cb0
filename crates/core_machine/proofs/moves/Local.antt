-- A call that looks at no word tells its reply.
use Rattle.std.proofs.Common.{ℕ, ◌≡◌, false, length, refl, arith, List, ◌∙◌}
use Rattle.std.proofs.lemmas.List.{length-set}
use Rattle.std.proofs.lemmas.List.Elements.{All-set}
use Rattle.std.specs.List.{All}
use Rattle.heap_model.specs.Command.{IsCommand}
use Rattle.core_machine.proofs.Terms.{Command, Heap, local_move, Register, Nil, Number, PollLoad, Fits, FitsRegister, IsLocal, register_in, Seat, with_seen}
use Rattle.heap_model.specs.declared.command.Command.TheVariants as commands
use Rattle.core_machine.specs.declared.point.Point.TheVariants as points
use Rattle.core_machine.specs.seat.Local.{after_local, local_registers, local_seen}
use Rattle.core_machine.proofs.call_lemmas.Awaits.{adds_where_none_awaited}
use Rattle.core_machine.proofs.moves.Standing.{PointStands, call_point_has_not_left, BeginStands, IsReady, ready_is_aside, ready_is_at_rest, resting_begin_stands}
use Rattle.core_machine.proofs.seat_lemmas.Aside.{left_aside_is_absurd, fits_after_call}
use Rattle.core_machine.proofs.table_lemmas.StepStands.{load_step_stands}
use Rattle.core_machine.proofs.table_lemmas.WithinHeap.{each_register_fits}

-- the registers after a command that looks at no word
local_fit : (heap : Heap) (registers : List Register) (command : Command) → IsCommand command → All (FitsRegister heap) registers
    → All (FitsRegister heap) (local_registers registers command)
local_fit heap registers (commands.Num d n) range fit = All-set (FitsRegister heap) registers d (Number n) range.1 fit
local_fit heap registers (commands.Nil d) range fit = All-set (FitsRegister heap) registers d Nil tt fit
local_fit heap registers (commands.Copy d r) range fit = All-set (FitsRegister heap) registers d (register_in registers r) (each_register_fits heap registers r fit) fit
local_fit heap registers _ range fit = fit

local_whole : (registers : List Register) (command : Command) → length (local_registers registers command) ≡ length registers
local_whole registers (commands.Num d n) = length-set registers d (Number n)
local_whole registers (commands.Nil d) = length-set registers d Nil
local_whole registers (commands.Copy d r) = length-set registers d (register_in registers r)
local_whole registers _ = refl

-- the reply of a local command was told
fits_local : (heap : Heap) (seat : Seat) (found : ℕ) → Fits heap seat → seat.left ≡ false → IsCommand seat.command → Fits heap (after_local (with_seen found seat))
fits_local heap seat found fits present range =
    fits_after_call heap (record (with_seen found seat) { registers = local_registers seat.registers seat.command; seen = local_seen seat.seen seat.command }) (local_whole seat.registers seat.command ∙ fits.own.registers_whole)
    (local_fit heap seat.registers seat.command range fits.own.registers_fit) fits.own.cursor_within fits.own.small_reserve fits.own.reserve_of_cursor (left_aside_is_absurd present)

-- a reply is told
pub point_stands_at_local : PointStands points.Local
point_stands_at_local heap number seat here = record {
  step = load_step_stands heap PollLoad refl tt;
  fits = λ found small led. fits_local heap seat found here.fits (call_point_has_not_left heap number seat points.Local here (λ e. cc)) here.hand.1;
  near = λ found. record { fewer = omega arith; paid = omega arith };
  adds = λ now. adds_where_none_awaited heap now number seat (local_move number seat) refl (rw here.point_is refl) refl refl;
}

-- a call begins that looks at no word
pub local_begin_stands : (command : Command) → (heap : Heap) (number : ℕ) (seat : Seat) → IsReady heap seat command → IsLocal seat.registers command
    → BeginStands heap number seat command (record seat { command = command; point = points.Local })
local_begin_stands command heap number seat ready local =
    let aside = ready_is_aside heap number seat command ready in
    resting_begin_stands heap number seat command ready points.Local (ready_is_at_rest heap number seat command ready, ready.may.in_range, local) aside.nowhere aside.silent (λ words. refl) (omega arith)
