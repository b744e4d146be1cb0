-- What a seat has found it keeps on its ways, and as a call begins.
use Rattle.std.specs.Prelude.{if◌then◌else◌, Option, Some, None}
use Rattle.std.proofs.Common.{◌≡◌, ◌==◌, ◌++◌, ℕ, ◌+◌, Bool, true, false, refl, sym, subst}
use Rattle.core_rule.proofs.Terms.{Command, Heap, Point, Register, after_begin, way_point_of, after_link, after_walk, with_field_place, after_length, at_access, access_start}
use Rattle.core_rule.proofs.Terms.{gather_next, next_group_of, after_claim, after_budget, register_in, Seat, clear_in}
use Rattle.heap_model.specs.declared.command.Command.TheVariants as commands
use Rattle.core_machine.specs.declared.point.Collecting.TheVariants.{Noting}
use Rattle.core_machine.specs.declared.point.Point.TheVariants as points
use Rattle.core_machine.specs.declared.seat.register.Register.TheVariants as registers
use Rattle.core_machine.proofs.seat_lemmas.Fitting.{goes_on_cases, budget_cases}
use Rattle.core_rule.proofs.looks.Growth.{IsElsewhere}

-- the seat keeps what it has found, and stands at no inner call's own point
pub record StaysFound (seat now : Seat) : Type 0 where
  pub looks : now.looks ≡ seat.looks
  pub elsewhere : IsElsewhere now.point

-- the point is that of a note
abbrev pub IsNote : Point → Type 0
IsNote (points.Collecting (Noting reply)) = Unit {0}
IsNote _ = ⊥

pub elsewhere_is_no_note : (point : Point) → IsElsewhere point → ¬ IsNote point
elsewhere_is_no_note (points.Collecting point) elsewhere note = elsewhere
elsewhere_is_no_note _ elsewhere note = note

-- what stays on the ways of a seat
pub stays_gather : (heap : Heap) (seat : Seat) → StaysFound seat (gather_next heap seat)
stays_gather heap seat = goes_on_cases (λ s. StaysFound seat s) heap seat (λ enough. record { looks = refl; elsewhere = tt }) (λ few more. record { looks = refl; elsewhere = tt }) (λ few all. record { looks = refl; elsewhere = tt })

pub stays_found_after_claim : (heap : Heap) (seat : Seat) (found : ℕ) → StaysFound seat (after_claim heap seat found)
stays_found_after_claim heap seat found =
    let stays = stays_gather heap (record seat { hand = seat.hand ++ clear_in (next_group_of heap seat) found; tried = seat.tried + 1 }) in
    record { looks = stays.looks; elsewhere = stays.elsewhere }

pub stays_found_after_budget : (heap : Heap) (seat : Seat) (found : ℕ) → StaysFound seat (after_budget heap seat found)
stays_found_after_budget heap seat found = budget_cases (λ s. StaysFound seat s) heap seat found (λ many. record { looks = refl; elsewhere = tt }) (λ few. stays_gather heap seat)

pub stays_found_after_walk : (seat : Seat) (found : ℕ) → StaysFound seat (after_walk seat found)
stays_found_after_walk seat found = by (seat.links == 0)
  where
    by : (b : Bool) → StaysFound seat (if b then at_access seat (way_point_of seat) else at_access (after_link seat found) (way_point_of (after_link seat found)))
    by true = record { looks = refl; elsewhere = tt }
    by false = record { looks = refl; elsewhere = tt }

pub stays_found_after_length : (seat : Seat) (found : ℕ) (length : Option ℕ) → StaysFound seat (after_length seat found length)
stays_found_after_length seat found None = let stays = stays_found_after_walk (with_field_place seat) found in record { looks = stays.looks; elsewhere = stays.elsewhere }
stays_found_after_length seat found (Some cells) = record { looks = refl; elsewhere = tt }

pub stays_start : (seat : Seat) (held : Register) → StaysFound seat (access_start seat held)
stays_start seat (registers.Object head id) = record { looks = refl; elsewhere = tt }
stays_start seat registers.Nil = record { looks = refl; elsewhere = tt }
stays_start seat (registers.Number n) = record { looks = refl; elsewhere = tt }

-- a call that begins leaves what was found, and stands at no inner call's own point
pub stays_found_after_begin : (heap : Heap) (seat : Seat) (command : Command) → seat.point ≡ points.Idle → StaysFound seat (after_begin heap seat command)
stays_found_after_begin heap seat (commands.New d fields) idle =
    let stays = stays_gather heap (record seat { command = commands.New d fields }) in record { looks = stays.looks; elsewhere = stays.elsewhere }
stays_found_after_begin heap seat (commands.Array d cells) idle = record { looks = refl; elsewhere = tt }
stays_found_after_begin heap seat commands.Collect idle = record { looks = refl; elsewhere = subst IsElsewhere (sym idle) tt }
stays_found_after_begin heap seat (commands.Get d r i) idle =
    let stays = stays_start (record seat { command = commands.Get d r i }) (register_in seat.registers r) in record { looks = stays.looks; elsewhere = stays.elsewhere }
stays_found_after_begin heap seat (commands.Set r i v) idle =
    let stays = stays_start (record seat { command = commands.Set r i v }) (register_in seat.registers r) in record { looks = stays.looks; elsewhere = stays.elsewhere }
stays_found_after_begin heap seat (commands.Cas r i a v) idle =
    let stays = stays_start (record seat { command = commands.Cas r i a v }) (register_in seat.registers r) in record { looks = stays.looks; elsewhere = stays.elsewhere }
stays_found_after_begin heap seat (commands.Len r) idle =
    let stays = stays_start (record seat { command = commands.Len r }) (register_in seat.registers r) in record { looks = stays.looks; elsewhere = stays.elsewhere }
stays_found_after_begin heap seat _ idle = record { looks = refl; elsewhere = tt }
