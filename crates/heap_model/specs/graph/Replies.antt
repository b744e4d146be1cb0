-- Which replies the graph gives to a seat's command.
use Rattle.std.specs.Prelude.{◌≡◌, ◌≢◌, ℕ, ◌+◌, ◌<◌, length, Option, Some, None, Result, MatchResult}
use Rattle.heap_model.specs.Limits.{set_limit}
use Rattle.heap_model.specs.declared.id.Id.TheVariants.{Made}
use Rattle.heap_model.specs.declared.command.Command.{Command}
use Rattle.heap_model.specs.declared.command.Command.TheVariants as commands
use Rattle.heap_model.specs.declared.reply.Reply.{Reply}
use Rattle.heap_model.specs.declared.reply.Reply.TheVariants as replies
use Rattle.heap_model.specs.declared.graph.cell.Cell.{Cell}
use Rattle.heap_model.specs.graph.Objects.{graph_seat, register_cell, register_value, target_node, cell_at}
use Rattle.heap_model.specs.graph.Graph.{Node, Graph}

-- an object is made, under the seat's next count, or there is too little space
abbrev pub Makes : Graph → ℕ → Reply → Type 0
Makes g number (replies.Made id) = id ≡ Made number (length (graph_seat g number).objects)
Makes g number (replies.Full need found) = Unit {0}
Makes g number _ = ⊥

-- an array may lack spine words too
abbrev pub MakesArray : Graph → ℕ → Reply → Type 0
MakesArray g number (replies.SpineFull need used) = Unit {0}
MakesArray g number reply = Makes g number reply

-- a get answers the cell's value and stamp
abbrev pub Gets : Result Cell Reply → Reply → Type 0
Gets found reply = MatchResult found (λ cell. reply ≡ replies.Got cell.value cell.stamp) (λ refusal. reply ≡ refusal)

-- a set answers the stamp before it; and the seat may set once more
abbrev pub Sets : ℕ → Result Cell Reply → Reply → Type 0
Sets sets found reply = MatchResult found (λ cell. (reply ≡ replies.Was cell.stamp) × (sets + 1 < set_limit)) (λ refusal. reply ≡ refusal)

-- a cas finds the cell as the register was read, and answers its stamp as a set does; or it finds another value or stamp, and answers the stamp found
abbrev pub SwapsAt : ℕ → Cell → Cell → Reply → Type 0
SwapsAt sets seen cell (replies.Was stamp) = (cell ≡ seen) × (stamp ≡ cell.stamp) × (sets + 1 < set_limit)
SwapsAt sets seen cell (replies.Now stamp) = (cell ≢ seen) × (stamp ≡ cell.stamp)
SwapsAt sets seen cell _ = ⊥

-- a cas answers so where there is a cell, and else as a set does
abbrev pub Swaps : ℕ → Cell → Result Cell Reply → Reply → Type 0
Swaps sets seen found reply = MatchResult found (λ cell. SwapsAt sets seen cell reply) (λ refusal. reply ≡ refusal)

-- the length of an object, or that there is none
abbrev pub length_reply : Option Node → Reply
length_reply None = replies.NoObject
length_reply (Some object) = replies.Length (length object.cells)

-- the answer says whether the two are equal
abbrev pub Compares : {A : Type 0} → A → A → Reply → Type 0
Compares x y replies.Yes = x ≡ y
Compares x y replies.No = x ≢ y
Compares x y _ = ⊥

-- a poll answers a phase
abbrev pub Polls : Reply → Type 0
Polls (replies.Phase p) = Unit {0}
Polls _ = ⊥

-- a collect answers a cycle that ended, or the seat that it waits for
abbrev pub Collects : Reply → Type 0
Collects (replies.Cycle j) = Unit {0}
Collects (replies.Waits seat answered phase) = Unit {0}
Collects _ = ⊥

-- the graph gives this reply to the seat's command
abbrev pub Says : Graph → ℕ → Command → Reply → Type 0
Says g number (commands.New d fields) reply = Makes g number reply
Says g number (commands.Array d cells) reply = MakesArray g number reply
Says g number (commands.Get d r i) reply = Gets (cell_at g number r i) reply
Says g number (commands.Set r i v) reply = Sets (graph_seat g number).sets (cell_at g number r i) reply
Says g number (commands.Cas r i a v) reply = Swaps (graph_seat g number).sets (register_cell g number a) (cell_at g number r i) reply
Says g number (commands.Num d n) reply = reply ≡ replies.Done
Says g number (commands.Nil d) reply = reply ≡ replies.Done
Says g number (commands.Copy d r) reply = reply ≡ replies.Done
Says g number (commands.Same a b) reply = Compares (register_value g number a) (register_value g number b) reply
Says g number (commands.Len r) reply = reply ≡ length_reply (target_node g (register_value g number r))
Says g number commands.Poll reply = Polls reply
Says g number commands.Collect reply = Collects reply
Says g number commands.Leave reply = reply ≡ replies.Done
