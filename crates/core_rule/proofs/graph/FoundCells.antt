-- A call that puts a register's value into a field, and the cell that it finds there.
use Rattle.std.proofs.Common.{◌≡◌, ◌≢◌, ℕ, ◌^◌, ◌<◌, false, List, slice_get, Some}
use Rattle.heap_model.specs.account.Phases.{ShowsPhases}
use Rattle.heap_model.specs.declared.command.Command.TheVariants as commands
use Rattle.heap_model.specs.declared.graph.cell.Cell.{Cell}
use Rattle.heap_model.specs.declared.id.Value.TheVariants as values
use Rattle.heap_model.specs.declared.reply.Reply.TheVariants as replies
use Rattle.core_rule.proofs.Terms.{Command, Entry, Heap, Id, most_kept, set_cell, after_reply, register_value, node, Graph, Node, Owner, object_of, field_of, source_of, stamp_of, object_head, NamesKept, value_word}

-- the command puts its register's value into its field where the reply tells this stamp
pub record IsWrite (g : Graph) (number : ℕ) (command : Command) (stamp : ℕ) : Type 0 where
  pub grown : after_reply g number command (replies.Was stamp) ≡ set_cell g number (object_of command) (field_of command) (source_of command)
  pub shows : (heap : Heap) (history : List Entry) → ShowsPhases heap false history number command (replies.Was stamp)
  pub most : most_kept command ≡ 15
  pub stays : command ≢ commands.Leave

-- the cell that a call finds in its field
pub record FindsCell (g : Graph) (made : List Id) (owner : ℕ → Owner) (fragments : ℕ → List ℕ) (number : ℕ) (command : Command) (word : ℕ) : Type 0 where
  pub id : Id
  pub object : Node
  pub cell : Cell
  pub refers : register_value g number (object_of command) ≡ values.Object id
  pub there : node g id ≡ Some object
  pub has : slice_get object.cells (field_of command) ≡ Some cell
  pub names : NamesKept made owner fragments cell.value
  pub small : cell.stamp < 2 ^ 32
  pub is_word : word ≡ value_word (object_head made fragments) cell.value cell.stamp
  pub stamp_is : stamp_of word ≡ cell.stamp
