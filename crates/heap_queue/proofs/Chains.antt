-- What holds of the board, the nodes and the seats' registers while the queue stands.
use Rattle.std.proofs.Common.{◌≡◌, ◌≢◌, ℕ, zero, suc, ◌+◌, ◌<◌, ◌≤◌, ◌⊎◌, List, [], ◌∷◌}
use Rattle.heap_model.specs.declared.graph.cell.Cell.{Cell}
use Rattle.heap_model.specs.declared.id.Id.{Id}
use Rattle.heap_model.specs.declared.id.Id.TheVariants.{Board, Made}
use Rattle.heap_model.specs.declared.id.Value.{Value}
use Rattle.heap_model.specs.declared.id.Value.TheVariants.{Object}
use Rattle.heap_model.specs.graph.Graph.{unset}
use Rattle.heap_queue.specs.Effects.{Places}
use Rattle.heap_queue.specs.Laws.{IsStampOf, IsForeign}
use Rattle.heap_queue.specs.Places.{Place, MakesNode, SetsFirst, SetsLast, Waits, Rests, Gone, PutValue, PutLast, PutNext, PutHelps, PutLinks, PutSwings, TakeLast, TakeNext, TakeSame, TakeHelps, TakeValue, TakeUnlinks, TakeCopies, IsFree}
use Rattle.heap_queue.proofs.Views.{View}

-- all nodes that were ever linked, in their order: that which field 0 of the board holds, that which field 1 holds, and how many stand behind the first, which are those of the queue
pub record Chain : Type 0 where
  pub node : ℕ → Id
  pub first : ℕ
  pub last : ℕ
  pub queued : ℕ

-- the node at the end
abbrev pub end : Chain → ℕ
end chain = chain.first + chain.queued

-- the value of a node, and its next
abbrev pub value_at : View → Chain → ℕ → Value
value_at view chain j = (view.cell (chain.node j) 0).value

abbrev pub next_at : View → Chain → ℕ → Cell
next_at view chain j = view.cell (chain.node j) 1

-- the values of so many nodes behind this one
abbrev pub values_behind : (ℕ → Value) → ℕ → ℕ → List Value
values_behind value j zero = []
values_behind value j (suc n) = value (suc j) ∷ values_behind value (suc j) n

-- an object of two cells that some seat made
pub record IsNode (view : View) (id : Id) : Type 0 where
  pub maker : ℕ
  pub count : ℕ
  pub is : id ≡ Made maker count
  pub born : count < view.made maker
  pub two : view.size id ≡ 2

-- the seat has linked a node, and is about to move field 1 on
abbrev pub IsSwinging : Place → Type 0
IsSwinging (PutSwings v) = Unit {0}
IsSwinging place = ⊥

-- the seat that linked the node behind that of field 1 is still to move field 1 on
pub record Helper (seats : ℕ) (place : Places) (view : View) (chain : Chain) : Type 0 where
  pub seat : ℕ
  pub there : seat < seats
  pub swings : IsSwinging (place seat)
  pub holds : (view.register seat 14).value ≡ Object (chain.node chain.last)
  pub stamp : IsStampOf seat (next_at view chain chain.last).stamp

-- the board and the nodes are those of the chain, and the queue is the list of its values
pub record Linked (seats : ℕ) (place : Places) (view : View) (chain : Chain) (queue : List Value) : Type 0 where
  pub board : 2 ≤ view.size Board
  pub field_0 : (view.cell Board 0).value ≡ Object (chain.node chain.first)
  pub field_1 : (view.cell Board 1).value ≡ Object (chain.node chain.last)
  pub first_passed : chain.first ≤ chain.last
  pub last_within : chain.last ≤ end chain
  pub last_near : end chain ≤ suc chain.last
  pub nodes : (j : ℕ) → j ≤ end chain → IsNode view (chain.node j)
  pub apart : (i j : ℕ) → i < j → j ≤ end chain → chain.node i ≢ chain.node j
  pub nexts : (j : ℕ) → j < end chain → (next_at view chain j).value ≡ Object (chain.node (suc j))
  pub open_end : next_at view chain (end chain) ≡ unset
  pub helper : chain.last < end chain → Helper seats place view chain
  pub values : queue ≡ values_behind (value_at view chain) chain.first chain.queued

-- the put's own node, of which no other seat knows
pub record HasOwn (view : View) (chain : Chain) (t n : ℕ) : Type 0 where
  pub holds : (view.register t 15).value ≡ Object (Made t n)
  pub born : n < view.made t
  pub two : view.size (Made t n) ≡ 2
  pub alone : view.cell (Made t n) 1 ≡ unset
  pub unlinked : (j : ℕ) → j ≤ end chain → chain.node j ≢ Made t n

-- and it has the value of register v
pub record HasValued (view : View) (chain : Chain) (t v n : ℕ) : Type 0 where
  pub own : HasOwn view chain t n
  pub free : IsFree v
  pub value : (view.cell (Made t n) 0).value ≡ (view.register t v).value

-- register r got node i from field 1, and whoever links behind that node is another seat
pub record SawLast (seats : ℕ) (view : View) (chain : Chain) (t r i : ℕ) : Type 0 where
  pub holds : (view.register t r).value ≡ Object (chain.node i)
  pub passed : i ≤ chain.last
  pub foreign : (next_at view chain i ≡ unset) ⊎ IsForeign seats t (next_at view chain i).stamp

-- where field 1 still has the value that register 14 got from it, it has the stamp that was seen too
abbrev pub Matches : View → ℕ → Type 0
Matches view t = (view.cell Board 1).value ≡ (view.register t 14).value → view.cell Board 1 ≡ view.register t 14

-- register 14 got node i from field 0, and whoever changes that field is another seat
pub record SawFirst (seats : ℕ) (view : View) (chain : Chain) (t i : ℕ) : Type 0 where
  pub holds : (view.register t 14).value ≡ Object (chain.node i)
  pub passed : i ≤ chain.first
  pub foreign : (view.cell Board 0 ≡ view.register t 14) ⊎ IsForeign seats t (view.cell Board 0).stamp

-- register r holds the node behind node i
pub record HasNext (view : View) (chain : Chain) (t r i : ℕ) : Type 0 where
  pub holds : (view.register t r).value ≡ Object (chain.node (suc i))
  pub within : suc i ≤ end chain

-- a put has its node, and register 14 the last node that it saw
pub record PutSaw (seats : ℕ) (view : View) (chain : Chain) (t v : ℕ) : Type 0 where
  pub n : ℕ
  pub valued : HasValued view chain t v n
  pub i : ℕ
  pub saw : SawLast seats view chain t 14 i
  pub matches : Matches view t

-- a take knows the first node that it saw and the one behind it, which isn't behind the last one
pub record TakeSaw (seats : ℕ) (view : View) (chain : Chain) (t i : ℕ) : Type 0 where
  pub saw : SawFirst seats view chain t i
  pub last : ℕ
  pub before : i < last
  pub passed : last ≤ chain.last
  pub next : HasNext view chain t 12 i

-- what a seat's registers hold where it stands
abbrev pub At : ℕ → View → Chain → ℕ → Place → Type 0
At seats view chain t MakesNode = ⊥
At seats view chain t SetsFirst = ⊥
At seats view chain t SetsLast = ⊥
At seats view chain t Waits = Unit {0}
At seats view chain t Rests = Unit {0}
At seats view chain t Gone = Unit {0}
At seats view chain t PutValue = (n : ℕ) × HasOwn view chain t n
At seats view chain t (PutLast v) = (n : ℕ) × HasValued view chain t v n
At seats view chain t (PutNext v) = PutSaw seats view chain t v
At seats view chain t (PutHelps v stamp) = (i : ℕ) × SawLast seats view chain t 14 i × HasNext view chain t 13 i × IsForeign seats t stamp
At seats view chain t (PutLinks v) = PutSaw seats view chain t v × (view.register t 13 ≡ unset)
At seats view chain t (PutSwings v) = (i : ℕ) × ((view.register t 14).value ≡ Object (chain.node i)) × (i ≤ chain.last) × HasNext view chain t 15 i × Matches view t
At seats view chain t TakeLast = (i : ℕ) × SawFirst seats view chain t i
At seats view chain t TakeNext = (i : ℕ) × (j : ℕ) × SawFirst seats view chain t i × SawLast seats view chain t 13 j × (i ≤ j)
At seats view chain t (TakeSame stamp) =
    (i : ℕ) × (j : ℕ) × SawFirst seats view chain t i × SawLast seats view chain t 13 j × (i ≤ j) × HasNext view chain t 12 i × (i ≡ j → IsForeign seats t stamp)
At seats view chain t (TakeHelps stamp) = (j : ℕ) × SawLast seats view chain t 13 j × HasNext view chain t 12 j × IsForeign seats t stamp
At seats view chain t TakeValue = (i : ℕ) × TakeSaw seats view chain t i
At seats view chain t TakeUnlinks = (i : ℕ) × TakeSaw seats view chain t i × ((view.register t 11).value ≡ value_at view chain (suc i))
At seats view chain t TakeCopies = Unit {0}

-- the queue stands, and each seat where its registers say
pub record Stands (seats : ℕ) (place : Places) (view : View) (queue : List Value) : Type 0 where
  pub chain : Chain
  pub linked : Linked seats place view chain queue
  pub at : (t : ℕ) → At seats view chain t (place t)
