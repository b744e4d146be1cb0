-- What a whole history of a queue comes to.
use Rattle.std.proofs.Common.{◌≡◌, ◌≢◌, ℕ, ◌<◌, ◌≤◌, inl, inr, Bool, true, false, cond, List, [], ◌∷◌, ◌++◌, length, refl, sym, ap, ◌∙◌, subst, arith, length-set}
use Rattle.std.proofs.lemmas.Bool.{cases_eq}
use Rattle.std.proofs.lemmas.Bool.Decides.{eqb_tells}
use Rattle.std.proofs.lemmas.List.{get_or-replicate, length-replicate}
use Rattle.heap_model.specs.declared.command.Command.{Command}
use Rattle.heap_model.specs.declared.command.Command.TheVariants as commands
use Rattle.heap_model.specs.declared.entry.Entry.{Entry}
use Rattle.heap_model.specs.declared.entry.Entry.TheVariants.{Said}
use Rattle.heap_model.specs.declared.heap.Heap.{Heap}
use Rattle.heap_model.specs.declared.id.Id.TheVariants.{Board, Made}
use Rattle.heap_model.specs.declared.id.Value.{Value}
use Rattle.heap_model.specs.declared.id.Value.TheVariants.{Nil, Number, Object}
use Rattle.heap_model.specs.declared.graph.cell.Cell.{Cell}
use Rattle.heap_model.specs.declared.reply.Reply.{Reply}
use Rattle.heap_model.specs.declared.reply.Reply.TheVariants as replies
use Rattle.heap_model.specs.Board.{board_fields}
use Rattle.heap_model.specs.Logs.{log_of}
use Rattle.heap_model.specs.account.Cycles.{graph_of}
use Rattle.heap_model.specs.account.Effects.{is_of}
use Rattle.heap_model.specs.graph.Changes.{write, count_set}
use Rattle.heap_model.specs.graph.Graph.{Graph, opening, opening_graph_seat, unset}
use Rattle.heap_model.specs.graph.Growth.{after_entry, after_reply}
use Rattle.heap_model.specs.graph.Legal.{Accepts, AcceptsAll, IsObjectLegal}
use Rattle.heap_model.specs.graph.Objects.{graph_seat, register_value}
use Rattle.heap_model.proofs.Histories.{graph_after-more, AcceptsAll-more}
use Rattle.heap_model.proofs.call_lemmas.BoardLemmas.{first_register_holds_board}
use Rattle.heap_model.proofs.graph_changes.GraphGrowth.{present_seat_within_graph}
use Rattle.heap_model.proofs.graph_changes.GraphRegisters.{has_sixteen_registers}
use Rattle.heap_queue.specs.Effects.{Places, Effect, Put, Took, Empty, Serves, effects, effects_from, start, moved}
use Rattle.heap_queue.specs.Histories.{IsQueueLog, IsQueueHistory}
use Rattle.heap_queue.specs.Laws.{HoldsOfEach}
use Rattle.heap_queue.specs.Places.{Place, MakesNode, Waits, IsDue, after}
use Rattle.heap_queue.proofs.GraphViews.{view_of, answers}
use Rattle.heap_queue.proofs.Moves.{IsSound}
use Rattle.heap_queue.proofs.MakeMoves.{IsOutside, Making, Stage, unmade, every_move}

-- no entry changes how many seats there are
seats_by_write : (g : Graph) (value : Value) (i : ℕ) (cell : Cell) → length (write g value i cell).seats ≡ length g.seats
seats_by_write g Nil i cell = refl
seats_by_write g (Number n) i cell = refl
seats_by_write g (Object Board) i cell = refl
seats_by_write g (Object (Made number count)) i cell = length-set g.seats number _

seats_by_set : (g : Graph) (s : ℕ) (value : Value) (i : ℕ) (cell : Cell) → length (write (count_set g s) value i cell).seats ≡ length g.seats
seats_by_set g s value i cell = seats_by_write (count_set g s) value i cell ∙ length-set g.seats s _

seats_by_reply : (g : Graph) (s : ℕ) (command : Command) (reply : Reply) → length (after_reply g s command reply).seats ≡ length g.seats
seats_by_reply g s (commands.New d fields) (replies.Made id) = length-set g.seats s _
seats_by_reply g s (commands.Array d cells) (replies.Made id) = length-set g.seats s _
seats_by_reply g s (commands.Get d r i) (replies.Got value stamp) = length-set g.seats s _
seats_by_reply g s (commands.Set r i v) (replies.Was stamp) = seats_by_set g s (register_value g s r) i _
seats_by_reply g s (commands.Cas r i a v) (replies.Was stamp) = seats_by_set g s (register_value g s r) i _
seats_by_reply g s (commands.Num d n) reply = length-set g.seats s _
seats_by_reply g s (commands.Nil d) reply = length-set g.seats s _
seats_by_reply g s (commands.Copy d r) reply = length-set g.seats s _
seats_by_reply g s commands.Leave reply = length-set g.seats s _
seats_by_reply g s command reply = refl

-- the graph is that of some legal history
record IsReached (heap : Heap) (g : Graph) : Type 0 where
  pub history : List Entry
  pub legal : IsObjectLegal heap history
  pub is : graph_of heap history ≡ g
  pub seats : length g.seats ≡ heap.seats

reached_more : (heap : Heap) (g : Graph) (s : ℕ) (command : Command) (reply : Reply) → IsReached heap g → Accepts g (Said s command reply) → IsReached heap (after_reply g s command reply)
reached_more heap g s command reply reached accepts =
    let entry : Entry = Said s command reply in record {
      history = reached.history ++ entry ∷ [];
      legal = AcceptsAll-more (opening heap) reached.history entry reached.legal (subst (λ (x : Graph). Accepts x entry) (sym reached.is) accepts);
      is = graph_after-more (opening heap) reached.history entry ∙ ap (λ (x : Graph). after_entry x entry) reached.is;
      seats = seats_by_reply g s command reply ∙ reached.seats;
    }

-- a seat whose entry is accepted has its registers, and the board in the first
sized : (heap : Heap) (g : Graph) (s : ℕ) → IsReached heap g → (graph_seat g s).left ≡ false → length (graph_seat g s).registers ≡ 16
sized heap g s reached present = subst (λ (x : Graph). (graph_seat x s).left ≡ false → length (graph_seat x s).registers ≡ 16) reached.is (has_sixteen_registers heap reached.history s) present

boarded : (heap : Heap) (g : Graph) (s : ℕ) → IsReached heap g → (graph_seat g s).left ≡ false → register_value g s 0 ≡ Object Board
boarded heap g s reached present = subst (λ (x : Graph). (graph_seat x s).left ≡ false → register_value x s 0 ≡ Object Board) reached.is (first_register_holds_board heap reached.history s reached.legal) present

-- where the seats stand after a reply
pub moved_here : (place : Places) (s : ℕ) (command : Command) (reply : Reply) → moved place (Said s command reply) s ≡ after (place s) command reply
moved_here place s command reply = elim (eqb_tells s s) as (λ _. moved place (Said s command reply) s ≡ after (place s) command reply) [
  | inl same ↦ ap (λ (b : Bool). cond b (after (place s) command reply) (place s)) same.0
  | inr other ↦ absurd (other.1 refl)
]

pub moved_other : (place : Places) (s : ℕ) (command : Command) (reply : Reply) (t : ℕ) → t ≢ s → moved place (Said s command reply) t ≡ place t
moved_other place s command reply t apart = elim (eqb_tells t s) as (λ _. moved place (Said s command reply) t ≡ place t) [
  | inl same ↦ absurd (apart same.1)
  | inr other ↦ ap (λ (b : Bool). cond b (after (place s) command reply) (place t)) other.0
]

-- the logs go on behind the first entry
own_log : (p : Place) (s : ℕ) (command : Command) (reply : Reply) (history : List Entry) → IsQueueLog p (log_of s (Said s command reply ∷ history)) → IsDue p command × IsQueueLog (after p command reply) (log_of s history)
own_log p s command reply history log = elim (eqb_tells s s) as (λ _. IsDue p command × IsQueueLog (after p command reply) (log_of s history)) [
  | inl same ↦ subst (λ (b : Bool). IsQueueLog p (cond b (Said s command reply ∷ log_of s history) (log_of s history))) same.0 log
  | inr other ↦ absurd (other.1 refl)
]

other_log : (p : Place) (s t : ℕ) (command : Command) (reply : Reply) (history : List Entry) → t ≢ s → IsQueueLog p (log_of t (Said s command reply ∷ history)) → IsQueueLog p (log_of t history)
other_log p s t command reply history apart log = elim (eqb_tells s t) as (λ _. IsQueueLog p (log_of t history)) [
  | inl same ↦ absurd (apart (sym same.1))
  | inr other ↦ subst (λ (b : Bool). IsQueueLog p (cond b (Said s command reply ∷ log_of t history) (log_of t history))) other.0 log
]

-- each seat's log, from where it stands
abbrev AreLogs : Places → List Entry → Type 0
AreLogs place history = (t : ℕ) → IsQueueLog (place t) (log_of t history)

logs_said : (place : Places) (s : ℕ) (command : Command) (reply : Reply) (history : List Entry) → AreLogs place (Said s command reply ∷ history) → AreLogs (moved place (Said s command reply)) history
logs_said place s command reply history logs t = elim (cases_eq t s) as (λ _. IsQueueLog (moved place (Said s command reply) t) (log_of t history)) [
  | inl same ↦ subst (λ (x : ℕ). IsQueueLog (moved place (Said s command reply) x) (log_of x history)) (sym same)
      (subst (λ (p : Place). IsQueueLog p (log_of s history)) (sym (moved_here place s command reply)) (own_log (place s) s command reply history (logs s)).1)
  | inr apart ↦ subst (λ (p : Place). IsQueueLog p (log_of t history)) (sym (moved_other place s command reply t apart)) (other_log (place t) s t command reply history apart (logs t))
]

-- the entry is no reply to a seat
abbrev pub IsNoReply : Entry → Type 0
IsNoReply (Said s command reply) = ⊥
IsNoReply entry = Unit {0}

passed_by : (p : Place) (entry : Entry) (log : List Entry) → IsNoReply entry → IsQueueLog p (entry ∷ log) → IsQueueLog p log
passed_by p (Said s command reply) log quiet is = absurd quiet
passed_by p entry log quiet is = is

kept_or_not : (p : Place) (b : Bool) (entry : Entry) (log : List Entry) → IsNoReply entry → IsQueueLog p (cond b (entry ∷ log) log) → IsQueueLog p log
kept_or_not p true entry log quiet is = passed_by p entry log quiet is
kept_or_not p false entry log quiet is = is

logs_quiet : (place : Places) (entry : Entry) (history : List Entry) → IsNoReply entry → AreLogs place (entry ∷ history) → AreLogs place history
logs_quiet place entry history quiet logs t = kept_or_not (place t) (is_of t entry) entry (log_of t history) quiet (logs t)

-- effects one after another
serves_then : (queue middle last : List Value) (told more : List Effect) → Serves queue told middle → Serves middle more last → Serves queue (told ++ more) last
serves_then queue middle last [] more first then_ = subst (λ (q : List Value). Serves q more last) first then_
serves_then queue middle last (Put value ∷ told) more first then_ = serves_then (queue ++ value ∷ []) middle last told more first then_
serves_then [] middle last (Took value ∷ told) more first then_ = absurd first
serves_then (front ∷ queue) middle last (Took value ∷ told) more first then_ = (first.0, serves_then queue middle last told more first.1 then_)
serves_then [] middle last (Empty ∷ told) more first then_ = serves_then [] middle last told more first then_
serves_then (front ∷ queue) middle last (Empty ∷ told) more first then_ = absurd first

-- what the entries come to: their effects are served, and the calls that end with them are sound
pub record IsTold (heap : Heap) (g : Graph) (place : Places) (queue : List Value) (history : List Entry) : Type 0 where
  pub now : List Value
  pub serves : Serves queue (effects_from g place history) now
  pub sound : HoldsOfEach (IsSound heap.seats) place history

told : (heap : Heap) (maker : ℕ) (g : Graph) (place : Places) (queue : List Value) (history : List Entry) → IsReached heap g → Stage heap.seats maker place (view_of g) queue → AcceptsAll g history → AreLogs place history
    → IsTold heap g place queue history
told heap maker g place queue [] reached stage legal logs = record { now = queue; serves = refl; sound = tt }
told heap maker g place queue (Said s command reply ∷ history) reached stage legal logs =
    let accepts = legal.0 in
    let present = accepts.0 in
    let there : s < heap.seats = omega (arith, present_seat_within_graph g s present, reached.seats) in
    let next : Places = moved place (Said s command reply) in
    let comes = every_move heap.seats maker s (view_of g) (view_of (after_reply g s command reply)) place next queue command reply there (boarded heap g s reached present) (moved_other place s command reply) stage
    (own_log (place s) s command reply history (logs s)).0 (answers g s command reply (sized heap g s reached present) accepts) (moved_here place s command reply) in
    let rest = told heap maker (after_reply g s command reply) next comes.now history (reached_more heap g s command reply reached accepts) comes.stage legal.1 (logs_said place s command reply history logs) in record {
      now = rest.now;
      serves = serves_then queue comes.now rest.now (effects (register_value g s) (place s) reply) (effects_from (after_reply g s command reply) next history) comes.serves rest.serves;
      sound = (comes.sound, rest.sound);
    }
told heap maker g place queue (entry ∷ history) reached stage legal logs =
    let rest = told heap maker g place queue history reached stage legal.1 (logs_quiet place entry history tt logs) in record { now = rest.now; serves = rest.serves; sound = (tt, rest.sound) }

-- at the opening the queue isn't made, and the maker is to make it
start_maker : (maker : ℕ) → start maker maker ≡ MakesNode
start_maker maker = elim (eqb_tells maker maker) as (λ _. start maker maker ≡ MakesNode) [
  | inl same ↦ ap (λ (b : Bool). cond b MakesNode Waits) same.0
  | inr other ↦ absurd (other.1 refl)
]

start_other : (maker t : ℕ) → t ≢ maker → start maker t ≡ Waits
start_other maker t apart = elim (eqb_tells t maker) as (λ _. start maker t ≡ Waits) [
  | inl same ↦ absurd (apart same.1)
  | inr other ↦ ap (λ (b : Bool). cond b MakesNode Waits) other.0
]

opening_stage : (heap : Heap) (maker : ℕ) → 2 ≤ board_fields heap → Stage heap.seats maker (start maker) (view_of (opening heap)) []
opening_stage heap maker two = unmade (record {
  board = omega (arith, length-replicate {A = Cell} (board_fields heap) unset, two);
  field_1 = ap (λ (c : Cell). c.value) (get_or-replicate (board_fields heap) 1 unset unset (omega (arith, two)));
  making = subst (Making (view_of (opening heap)) maker) (sym (start_maker maker)) tt;
  others = λ t apart. subst IsOutside (sym (start_other maker t apart)) tt;
}) refl

opening_reached : (heap : Heap) → IsReached heap (opening heap)
opening_reached heap = record { history = []; legal = tt; is = refl; seats = length-replicate heap.seats opening_graph_seat }

-- every history of a queue
pub all_told : (heap : Heap) (maker : ℕ) (history : List Entry) → 2 ≤ board_fields heap → IsQueueHistory heap maker history → IsTold heap (opening heap) (start maker) [] history
all_told heap maker history two is = told heap maker (opening heap) (start maker) [] history (opening_reached heap) (opening_stage heap maker two) is.legal is.logs.each
