-- A heap without a machine that serves what takes no fragments, as the tests have one.
use Rattle.std.specs.Prelude.{◌≡◌, Bool, true, false, List}
use Rattle.std.specs.List.{AllByRecursion}
use Rattle.heap_model.specs.declared.heap.Heap.{Heap}
use Rattle.heap_model.specs.declared.command.Command.{Command}
use Rattle.heap_model.specs.declared.command.Command.TheVariants as commands
use Rattle.heap_model.specs.declared.entry.Entry.{Entry}
use Rattle.heap_model.specs.declared.entry.Entry.TheVariants.{Said, Turned}
use Rattle.heap_model.specs.declared.reply.Reply.TheVariants.{Done}
use Rattle.heap_model.specs.account.Account.{IsLegal}
use Rattle.heap_model.specs.account.Cycles.{graph_of}
use Rattle.heap_model.specs.graph.Graph.{Graph}

-- the command changes registers alone, or leaves
abbrev pub is_plain : Command → Bool
is_plain (commands.Num d n) = true
is_plain (commands.Nil d) = true
is_plain (commands.Copy d r) = true
is_plain commands.Leave = true
is_plain _ = false

-- the entry tells that such a command was done, or what a command of the collector was answered
abbrev pub IsPlainEntry : Entry → Type 0
IsPlainEntry (Said number command Done) = is_plain command ≡ true
IsPlainEntry (Turned command reply) = Unit {0}
IsPlainEntry _ = ⊥

-- only such entries were told, rightly, and the graph is what they made of it
pub record IsGrowing (heap : Heap) (told : List Entry) (graph : Graph) : Type 0 where
  pub grown : graph ≡ graph_of heap told
  pub plain : AllByRecursion IsPlainEntry told
  pub legal : IsLegal heap true told
