-- The numbers of ids, stamps and replies.
use Rattle.std.specs.Prelude.{◌≡◌, ℕ, ◌-◌, ◌<◌, ◌≤◌, ◌/◌, ◌%◌, ◌^◌, ◌⊎◌}
use Rattle.heap_model.specs.Limits.{last_seat, most_seats, name_limit, number_limit, stamp_limit}
use Rattle.heap_model.specs.Command.{IsWithin}
use Rattle.heap_model.specs.declared.id.Id.{Id}
use Rattle.heap_model.specs.declared.id.Id.TheVariants.{Board, Made}
use Rattle.heap_model.specs.declared.id.Value.{Value}
use Rattle.heap_model.specs.declared.id.Value.TheVariants as values

-- the board's id, or one of a seat that some heap has, even if this one has fewer
abbrev pub IsId : Id → Type 0
IsId Board = Unit {0}
IsId (Made seat count) = (seat ≤ last_seat) × (count < name_limit)

-- no set's stamp, or that of a set of such a seat, counted from 1 on
abbrev pub IsStamp : ℕ → Type 0
IsStamp stamp = (stamp ≡ 0) ⊎ (IsWithin 1 most_seats (stamp / stamp_limit) × (1 ≤ stamp % stamp_limit))

-- a value whose number or id is in its range
abbrev pub IsValue : Value → Type 0
IsValue values.Nil = Unit {0}
IsValue (values.Number n) = n ≤ number_limit - 1
IsValue (values.Object id) = IsId id

-- a seat that is waited for, what it answered and the phase, each in its range
abbrev pub IsWait : ℕ → ℕ → ℕ → Type 0
IsWait seat answered phase = (seat ≤ last_seat) × (answered < 2 ^ 64) × (phase < 2 ^ 64)

-- what is needed, and what was there instead, of 32 bits each
abbrev pub IsLack : ℕ → ℕ → Type 0
IsLack need number = (need < 2 ^ 32) × (number < 2 ^ 32)

-- the numbers of a space line, of 64 bits each
abbrev pub IsSpace : ℕ → ℕ → ℕ → ℕ → Type 0
IsSpace used total spine budget = (used < 2 ^ 64) × (total < 2 ^ 64) × (spine < 2 ^ 64) × (budget < 2 ^ 64)
