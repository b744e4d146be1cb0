-- What a history tells of the scripts that its seats were given.
use Rattle.std.specs.Prelude.{◌≡◌, ℕ, ◌==◌, Bool, true, false, if◌then◌else◌, List, [], ◌∷◌, ◌++◌, length, filter}
use Rattle.std.specs.List.{flat_map}
use Rattle.heap_model.specs.declared.command.Command.{Command}
use Rattle.heap_model.specs.declared.command.Command.TheVariants.{Collect, Leave}
use Rattle.heap_model.specs.declared.entry.Entry.{Entry}
use Rattle.heap_model.specs.declared.entry.Entry.TheVariants.{Said}
use Rattle.heap_model.specs.declared.reply.Reply.{Reply}
use Rattle.heap_model.specs.declared.reply.Reply.TheVariants.{Waits}
use Rattle.heap_model.specs.account.Windows.{up_to_last}

-- the seat's command that the entry answers, if it answers one
abbrev pub command_told : ℕ → Entry → List Command
command_told number (Said other command reply) = if other == number then command ∷ [] else []
command_told number _ = []

-- the seat's commands, in the order of their replies
abbrev pub commands_told : ℕ → List Entry → List Command
commands_told number history = flat_map (command_told number) history

-- the entry answers a collect of the seat: it waits for another one
abbrev pub is_wait_of : ℕ → Entry → Bool
is_wait_of number (Said other Collect (Waits behind answered phase)) = other == number
is_wait_of number _ = false

-- how often a collect of the seat was answered so
abbrev pub waits_told : ℕ → List Entry → ℕ
waits_told number history = length (filter (is_wait_of number) history)

-- the entry is a seat's leave
abbrev pub is_leave : Entry → Bool
is_leave (Said number Leave reply) = true
is_leave _ = false

-- the history up to its last leave
abbrev pub up_to_leaves : List Entry → List Entry
up_to_leaves history = up_to_last is_leave history

-- the last entry is a leave
pub record EndsWithLeave (history : List Entry) : Type 0 where
  pub before : List Entry
  pub number : ℕ
  pub reply : Reply
  pub last : history ≡ before ++ Said number Leave reply ∷ []
