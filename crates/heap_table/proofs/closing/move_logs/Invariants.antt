use Rattle.std.proofs.Common.{◌≡◌, ◌+◌, ◌≤◌, length, map, vec_len, vec_capacity}
use Rattle.heap_table.proofs.Histories.{IsMoving}
use Rattle.heap_table.proofs.closing.move_logs.Given as goal

abbrev pub invariant-loop-slot : goal.invariant-loop-slot
invariant-loop-slot l =
    IsMoving (map (λ log. log.items) l.fn.logs.items) l.fn.seat_slots.items (map (λ log. log.items) l.logs.items) l.slot-iterator.rest.items
    × (vec_capacity l.logs ≡ vec_capacity l.fn.logs) × (vec_len l.logs + length l.slot-iterator.rest.items ≡ vec_len l.fn.logs + vec_len l.fn.seat_slots) × (vec_len l.fn.logs + vec_len l.fn.seat_slots ≤ vec_capacity l.fn.logs)
