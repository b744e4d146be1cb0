-- What the registers and cells of a graph hold, and how an entry of one seat changes that.
use Rattle.std.proofs.Common.{◌≡◌, ◌≢◌, ℕ, suc, ◌<◌, ◌⊎◌, ap}
use Rattle.heap_model.specs.declared.command.Command.{Command}
use Rattle.heap_model.specs.declared.command.Command.TheVariants.{New, Array, Get, Set, Cas, Same}
use Rattle.heap_model.specs.declared.graph.cell.Cell.{Cell}
use Rattle.heap_model.specs.declared.id.Id.{Id}
use Rattle.heap_model.specs.declared.id.Id.TheVariants.{Made}
use Rattle.heap_model.specs.declared.id.Value.{Value}
use Rattle.heap_model.specs.declared.id.Value.TheVariants.{Object}
use Rattle.heap_model.specs.declared.reply.Reply.{Reply}
use Rattle.heap_model.specs.declared.reply.Reply.TheVariants as replies
use Rattle.heap_model.specs.graph.Graph.{unset}
use Rattle.heap_queue.specs.Laws.{IsStampOf}

-- what a register of a seat holds with the stamp under which it was seen, what a cell of an object holds, how many cells the object has, and how many objects a seat made
pub record View : Type 0 where
  pub register : ℕ → ℕ → Cell
  pub cell : Id → ℕ → Cell
  pub size : Id → ℕ
  pub made : ℕ → ℕ

-- equal cells have equal values
pub same_value : {a b : Cell} → a ≡ b → a.value ≡ b.value
same_value same = ap (λ (c : Cell). c.value) same

-- nothing changes but registers of the seat
pub record OnlyRegisters (s : ℕ) (old new : View) : Type 0 where
  pub others : (t r : ℕ) → t ≢ s → new.register t r ≡ old.register t r
  pub cells : (x : Id) (i : ℕ) → new.cell x i ≡ old.cell x i
  pub sizes : (x : Id) → new.size x ≡ old.size x
  pub made : (t : ℕ) → new.made t ≡ old.made t

-- nothing changes
pub record Unchanged (s : ℕ) (old new : View) : Type 0 where
  pub only : OnlyRegisters s old new
  pub registers : (r : ℕ) → new.register s r ≡ old.register s r

-- register d of the seat holds this
pub record Fills (s d : ℕ) (held : Cell) (old new : View) : Type 0 where
  pub only : OnlyRegisters s old new
  pub here : new.register s d ≡ held
  pub rest : (r : ℕ) → r ≢ d → new.register s r ≡ old.register s r

-- cell i of this object has another value, under a stamp of the seat
pub record Writes (s : ℕ) (id : Id) (i : ℕ) (value : Value) (old new : View) : Type 0 where
  pub here : (new.cell id i).value ≡ value
  pub stamp : IsStampOf s (new.cell id i).stamp
  pub other_cells : (x : Id) (k : ℕ) → k ≢ i → new.cell x k ≡ old.cell x k
  pub other_objects : (x : Id) (k : ℕ) → x ≢ id → new.cell x k ≡ old.cell x k
  pub registers : (t r : ℕ) → new.register t r ≡ old.register t r
  pub sizes : (x : Id) → new.size x ≡ old.size x
  pub made : (t : ℕ) → new.made t ≡ old.made t

-- an object of so many cells is made, which register d of the seat holds
pub record Bears (s d cells : ℕ) (old new : View) : Type 0 where
  pub here : (new.register s d).value ≡ Object (Made s (old.made s))
  pub others : (t r : ℕ) → t ≢ s → new.register t r ≡ old.register t r
  pub nil : (i : ℕ) → new.cell (Made s (old.made s)) i ≡ unset
  pub cells_stay : (x : Id) (i : ℕ) → x ≢ Made s (old.made s) → new.cell x i ≡ old.cell x i
  pub size : new.size (Made s (old.made s)) ≡ cells
  pub sizes : (x : Id) → x ≢ Made s (old.made s) → new.size x ≡ old.size x
  pub more : new.made s ≡ suc (old.made s)
  pub made : (t : ℕ) → t ≢ s → new.made t ≡ old.made t

-- register r of the seat holds an object that has a cell i
pub record Reaches (view : View) (s r i : ℕ) (id : Id) : Type 0 where
  pub holds : (view.register s r).value ≡ Object id
  pub within : i < view.size id

-- a new is answered by the object, or refused
pub data IsBorn (s d cells : ℕ) (old new : View) : Reply → Type 0 where
  made : (id : Id) → Bears s d cells old new → IsBorn s d cells old new (replies.Made id)
  full : (need found : ℕ) → Unchanged s old new → IsBorn s d cells old new (replies.Full need found)

-- a get is answered by the cell
pub record IsGot (s d : ℕ) (cell : Cell) (reply : Reply) (old new : View) : Type 0 where
  pub is : reply ≡ replies.Got cell.value cell.stamp
  pub fills : Fills s d cell old new

-- a set writes the cell
pub record IsSet (s : ℕ) (id : Id) (i : ℕ) (value : Value) (reply : Reply) (old new : View) : Type 0 where
  pub stamp : ℕ
  pub is : reply ≡ replies.Was stamp
  pub writes : Writes s id i value old new

-- a cas finds the cell as the register was seen, and writes it
pub record IsSwapped (s : ℕ) (id : Id) (i : ℕ) (seen : Cell) (value : Value) (reply : Reply) (old new : View) : Type 0 where
  pub stamp : ℕ
  pub is : reply ≡ replies.Was stamp
  pub same : old.cell id i ≡ seen
  pub writes : Writes s id i value old new

-- or finds another one
pub record IsMissed (s : ℕ) (id : Id) (i : ℕ) (seen : Cell) (reply : Reply) (old new : View) : Type 0 where
  pub is : reply ≡ replies.Now (old.cell id i).stamp
  pub differs : old.cell id i ≢ seen
  pub unchanged : Unchanged s old new

-- a comparison tells whether two registers hold the same value
pub data IsCompared (s a b : ℕ) (old new : View) : Reply → Type 0 where
  yes : (old.register s a).value ≡ (old.register s b).value → Unchanged s old new → IsCompared s a b old new replies.Yes
  no : (old.register s a).value ≢ (old.register s b).value → Unchanged s old new → IsCompared s a b old new replies.No

-- what the reply to a command of the seat tells, and how it changes the view
abbrev pub Answers : ℕ → Command → Reply → View → View → Type 0
Answers s (New d fields) reply old new = IsBorn s d fields old new reply
Answers s (Array d cells) reply old new = Unit {0}
Answers s (Get d r i) reply old new = (id : Id) → Reaches old s r i id → IsGot s d (old.cell id i) reply old new
Answers s (Set r i v) reply old new = (id : Id) → Reaches old s r i id → IsSet s id i (old.register s v).value reply old new
Answers s (Cas r i a v) reply old new =
    (id : Id) → Reaches old s r i id → IsSwapped s id i (old.register s a) (old.register s v).value reply old new ⊎ IsMissed s id i (old.register s a) reply old new
Answers s (Same a b) reply old new = IsCompared s a b old new reply
Answers s command reply old new = OnlyRegisters s old new
