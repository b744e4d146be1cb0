-- The replies to commands that read or write an object, and that their entries may stand.
use Rattle.std.proofs.Common.{◌≡◌, ℕ, ◌+◌, ◌≤◌, Bool, List, length, slice_get, Option, Some, None, IsSome, refl, arith, ◌<◌}
use Rattle.std.proofs.lemmas.Bool.{false≢true}
use Rattle.std.proofs.lemmas.Option.{slice_get_past}
use Rattle.heap_model.specs.declared.graph.cell.Cell.{Cell}
use Rattle.core_rule.proofs.Terms.{Command, Entry, Said, Heap, Id, Value, Reply, KeepsSpace, most_kept, with_register, after_reply, Accepts, IsPresent, made_by, register_value}
use Rattle.core_rule.proofs.Terms.{node, cell_or_refusal, or_no_field, taken_of, spent_of, Graph, Node, target_of, object_of, field_of, node_in}
use Rattle.heap_model.specs.declared.command.Command.TheVariants as commands
use Rattle.heap_model.specs.declared.id.Value.TheVariants.{Object}
use Rattle.heap_model.specs.declared.reply.Reply.TheVariants as replies
use Rattle.heap_model.specs.Command.{IsCommand}
use Rattle.heap_model.specs.account.Phases.{ShowsPhases}
use Rattle.heap_model.specs.account.Refusals.{ShowsSpace, ShowsSpine}
use Rattle.heap_model.specs.graph.Replies.{length_reply}
use Rattle.core_machine.specs.seat.FitsAccess.{NamesField, IsGet}
use Rattle.core_rule.proofs.entries.Legality.{keeps_space_of_plain_said}

-- the command asks for a length
abbrev pub IsLen : Command → Type 0
IsLen (commands.Len r) = Unit {0}
IsLen _ = ⊥

-- what holds of these commands
get_only : (P : Command → Type 0) → ((d r i : ℕ) → P (commands.Get d r i)) → (command : Command) → IsGet command → P command
get_only P get (commands.Get d r i) is = get d r i
get_only P get _ is = absurd is

len_only : (P : Command → Type 0) → ((r : ℕ) → P (commands.Len r)) → (command : Command) → IsLen command → P command
len_only P len (commands.Len r) is = len r
len_only P len _ is = absurd is

field_only : (P : Command → Type 0) → ((d r i : ℕ) → P (commands.Get d r i)) → ((r i v : ℕ) → P (commands.Set r i v)) → ((r i a v : ℕ) → P (commands.Cas r i a v)) → (command : Command) → NamesField command → P command
field_only P get set cas (commands.Get d r i) is = get d r i
field_only P get set cas (commands.Set r i v) is = set r i v
field_only P get set cas (commands.Cas r i a v) is = cas r i a v
field_only P get set cas _ is = absurd is

-- a get's register is one of sixteen
pub target_within_registers : (command : Command) → IsGet command → IsCommand command → target_of command < 16
target_within_registers command is = get_only (λ c. IsCommand c → target_of c < 16) (λ d r i fits. omega (arith, fits.0)) command is

-- an object that is there has its cells
cell_there : (object : Option Node) (i : ℕ) → IsSome object → cell_or_refusal object i ≡ or_no_field (slice_get (node_in object).cells i)
cell_there None i is = absurd (false≢true is)
cell_there (Some x) i is = refl

length_there : (object : Option Node) → IsSome object → replies.Length (length (node_in object).cells) ≡ length_reply object
length_there None is = absurd (false≢true is)
length_there (Some x) is = refl

module _ (g : Graph) (number : ℕ) (id : Id) (command : Command) (ranges : IsCommand command) (present : IsPresent g number)
    (made : IsSome (node g id)) (held : register_value g number (object_of command) ≡ Object id) where
  -- the length is the object's
  pub accepts_length : IsLen command → Accepts g (Said number command (replies.Length (length (node_in (node g id)).cells)))
  accepts_length is =
      len_only (λ c. IsCommand c → register_value g number (object_of c) ≡ Object id → Accepts g (Said number c (replies.Length (length (node_in (node g id)).cells))))
      (λ r fits holds. (present, fits, rw holds (length_there (node g id) made))) command is ranges held

  -- a field past the end is none of it
  pub accepts_no_field : NamesField command → length (node_in (node g id)).cells ≤ field_of command → Accepts g (Said number command replies.NoField)
  accepts_no_field is past =
      field_only (λ c. IsCommand c → register_value g number (object_of c) ≡ Object id → length (node_in (node g id)).cells ≤ field_of c → Accepts g (Said number c replies.NoField))
      (λ d r i fits holds none. (present, fits, rw (holds, cell_there (node g id) i made, slice_get_past (node_in (node g id)).cells i none) refl))
      (λ r i v fits holds none. (present, fits, rw (holds, cell_there (node g id) i made, slice_get_past (node_in (node g id)).cells i none) refl))
      (λ r i a v fits holds none. (present, fits, rw (holds, cell_there (node g id) i made, slice_get_past (node_in (node g id)).cells i none) refl))
      command is ranges held past

  -- a get's value and stamp are the cell's
  pub accepts_got : IsGet command → (cell : Cell) → slice_get (node_in (node g id)).cells (field_of command) ≡ Some cell → Accepts g (Said number command (replies.Got cell.value cell.stamp))
  accepts_got is cell there =
      get_only (λ c. IsCommand c → register_value g number (object_of c) ≡ Object id → slice_get (node_in (node g id)).cells (field_of c) ≡ Some cell → Accepts g (Said number c (replies.Got cell.value cell.stamp)))
      (λ d r i fits holds at_field. (present, fits, rw (holds, cell_there (node g id) i made, at_field) refl)) command is ranges held there

-- a length changes nothing of the graph, nor does a field that isn't there
pub graph_same_after_length : (g : Graph) (number n : ℕ) (command : Command) → IsLen command → after_reply g number command (replies.Length n) ≡ g
graph_same_after_length g number n command is = len_only (λ c. after_reply g number c (replies.Length n) ≡ g) (λ r. refl) command is

pub graph_same_after_no_field : (g : Graph) (number : ℕ) (command : Command) → NamesField command → after_reply g number command replies.NoField ≡ g
graph_same_after_no_field g number command is = field_only (λ c. after_reply g number c replies.NoField ≡ g) (λ d r i. refl) (λ r i v. refl) (λ r i a v. refl) command is

-- what a get answers stands in its register
pub graph_after_got : (g : Graph) (number : ℕ) (value : Value) (stamp : ℕ) (command : Command) → IsGet command → after_reply g number command (replies.Got value stamp) ≡ with_register g number (target_of command) (record { value = value; stamp = stamp })
graph_after_got g number value stamp command is = get_only (λ c. after_reply g number c (replies.Got value stamp) ≡ with_register g number (target_of c) (record { value = value; stamp = stamp })) (λ d r i. refl) command is

module _ (heap : Heap) (play : Bool) (before : List Entry) (number : ℕ) (own : spent_of number before ≤ taken_of number before) (little : taken_of number before ≤ spent_of number before + 15) where
  -- a reply that makes nothing and shows no space and no phase keeps the rules of space
  keeps_bare : (command : Command) (reply : Reply) → made_by command reply ≡ 0 → most_kept command ≡ 15 → ShowsSpace heap play before number command reply
      → ShowsSpine heap play before number command reply → ShowsPhases heap play before number command reply → KeepsSpace heap play before (Said number command reply)
  keeps_bare command reply none most space spine phases = keeps_space_of_plain_said heap play before number command reply none space spine phases own (omega (arith, most, little))

  -- so these do
  pub keeps_space_of_length : (n : ℕ) (command : Command) → IsLen command → KeepsSpace heap play before (Said number command (replies.Length n))
  keeps_space_of_length n command is = len_only (λ c. KeepsSpace heap play before (Said number c (replies.Length n))) (λ r. keeps_bare (commands.Len r) (replies.Length n) refl refl tt tt tt) command is

  pub keeps_space_of_no_field : (command : Command) → NamesField command → KeepsSpace heap play before (Said number command replies.NoField)
  keeps_space_of_no_field command is =
      field_only (λ c. KeepsSpace heap play before (Said number c replies.NoField))
      (λ d r i. keeps_bare (commands.Get d r i) replies.NoField refl refl tt tt tt) (λ r i v. keeps_bare (commands.Set r i v) replies.NoField refl refl tt tt tt)
      (λ r i a v. keeps_bare (commands.Cas r i a v) replies.NoField refl refl tt tt tt) command is

  pub keeps_space_of_got : (value : Value) (stamp : ℕ) (command : Command) → IsGet command → KeepsSpace heap play before (Said number command (replies.Got value stamp))
  keeps_space_of_got value stamp command is =
      get_only (λ c. KeepsSpace heap play before (Said number c (replies.Got value stamp))) (λ d r i. keeps_bare (commands.Get d r i) (replies.Got value stamp) refl refl tt tt tt) command is
