-- The calls that allocation which collects first is made of.
use Rattle.std.specs.Prelude.{ℕ, ◌⊎◌}
use Rattle.heap_model.specs.declared.command.Command.{Command}
use Rattle.heap_model.specs.declared.command.Command.TheVariants.{New, Array, Collect}
use Rattle.heap_model.specs.declared.reply.Reply.{Reply}
use Rattle.heap_model.specs.declared.reply.Reply.TheVariants.{Full, SpineFull}

-- the command makes an object
abbrev pub IsAllocation : Command → Type 0
IsAllocation (New d fields) = Unit {0}
IsAllocation (Array d cells) = Unit {0}
IsAllocation _ = ⊥

-- the reply refuses space: fragments, or spine words
abbrev pub RefusesSpace : Reply → Type 0
RefusesSpace (Full need found) = Unit {0}
RefusesSpace (SpineFull need used) = Unit {0}
RefusesSpace _ = ⊥

-- three calls were made, each of which did this: the command was refused for want of space, the seat collected, and the command was made again
pub record CallsAgain {Whole : Type 0} (Calls : Whole → Whole → ℕ → Command → Reply → Type 0) (old new : Whole) (number : ℕ) (command : Command) (reply : Reply) : Type 0 where
  pub refusal : Reply
  pub refused : Whole
  pub first : Calls old refused number command refusal
  pub refuses : RefusesSpace refusal
  pub answer : Reply
  pub collected : Whole
  pub collects : Calls refused collected number Collect answer
  pub again : Calls collected new number command reply

-- the command was made once, and not refused for want of space, or it was refused so, and made again behind a collect
abbrev pub IsPressed : {Whole : Type 0} → (Whole → Whole → ℕ → Command → Reply → Type 0) → Whole → Whole → ℕ → Command → Reply → Type 0
IsPressed Calls old new number command reply = (Calls old new number command reply × ¬ RefusesSpace reply) ⊎ CallsAgain Calls old new number command reply
