-- The view of a graph, and that each entry which the graph accepts changes it as its reply tells.
use Rattle.std.proofs.Common.{◌≡◌, ◌≢◌, ℕ, ◌+◌, ◌<◌, ◌⊎◌, inl, inr, false, true, List, [], length, get_or, set, replicate, Option, Some, None, Result, Ok, refl, sym, ap, ◌∙◌, subst, arith, length-set}
use Rattle.std.proofs.lemmas.Bool.{cases_eq, cases_lt}
use Rattle.std.proofs.lemmas.List.{get_or-set_same, get_or-set_other, get_or_past, get_or-replicate, length-replicate}
use Rattle.std.proofs.lemmas.Option.{slice_get-get_or}
use Rattle.heap_model.specs.declared.command.Command.{Command}
use Rattle.heap_model.specs.declared.command.Command.TheVariants.{New, Array, Get, Set, Cas, Num, Nil as NilCommand, Copy, Same, Len, Poll, Collect, Leave}
use Rattle.heap_model.specs.declared.entry.Entry.TheVariants.{Said}
use Rattle.heap_model.specs.declared.graph.cell.Cell.{Cell}
use Rattle.heap_model.specs.declared.id.Id.{Id}
use Rattle.heap_model.specs.declared.id.Id.TheVariants.{Board, Made}
use Rattle.heap_model.specs.declared.id.Value.{Value}
use Rattle.heap_model.specs.declared.id.Value.TheVariants.{Number, Object}
use Rattle.heap_model.specs.declared.reply.Reply.{Reply}
use Rattle.heap_model.specs.declared.reply.Reply.TheVariants as replies
use Rattle.heap_model.specs.Limits.{register_count, set_limit}
use Rattle.heap_model.specs.graph.Changes.{with_graph_seat, with_register, add, write, count_set, set_cell, set_stamp}
use Rattle.heap_model.specs.graph.Graph.{Graph, GraphSeat, Node, fresh, unseen, unset}
use Rattle.heap_model.specs.graph.Growth.{after_reply}
use Rattle.heap_model.specs.graph.Legal.{Accepts}
use Rattle.heap_model.specs.graph.Objects.{graph_seat, node, register_cell, register_value, target_node, cell_or_refusal, or_no_field, cell_at}
use Rattle.heap_model.specs.graph.Replies.{Makes, Gets, Sets, Swaps, SwapsAt, Compares}
use Rattle.heap_model.proofs.graph_changes.CellSet.{Sets as SetsCell, write_sets_cell}
use Rattle.heap_model.proofs.graph_changes.GraphGrowth.{other_party_stays_by_add, target_holds_new_object, objects_grow_by_add, added_node_is_object, other_nodes_stay_by_add}
use Rattle.heap_model.proofs.graph_changes.GraphSeats.{party_with_seat_is_new, other_party_stays, nodes_stay_with_seat}
use Rattle.heap_queue.specs.Laws.{IsStampOf}
use Rattle.heap_queue.proofs.Views.{View, same_value, OnlyRegisters, Unchanged, Fills, Writes, Bears, Reaches, IsBorn, made, full, IsGot, IsSet, IsSwapped, IsMissed, IsCompared, yes, no, Answers}

-- the cells of an object, and none where there is none
abbrev pub cells_in : Option Node → List Cell
cells_in None = []
cells_in (Some object) = object.cells

-- what a graph holds
abbrev pub view_of : Graph → View
view_of g = record {
  register = register_cell g;
  cell = λ id i. get_or (cells_in (node g id)) i unset;
  size = λ id. length (cells_in (node g id));
  made = λ s. length (graph_seat g s).objects;
}

-- two ids are the same, or not
same_or_other : (x y : Id) → (x ≡ y) ⊎ (x ≢ y)
same_or_other Board Board = inl refl
same_or_other Board (Made t n) = inr (λ e. cc)
same_or_other (Made t n) Board = inr (λ e. cc)
same_or_other (Made t n) (Made u m) = elim (cases_eq t u) as (λ _. (Made t n ≡ Made u m) ⊎ (Made t n ≢ Made u m)) [
  | inl a ↦ elim (cases_eq n m) as (λ _. (Made t n ≡ Made u m) ⊎ (Made t n ≢ Made u m)) [
    | inl b ↦ inl (cc)
    | inr b ↦ inr (λ e. let f : n ≡ m = cc in b f)
  ]
  | inr a ↦ inr (λ e. let f : t ≡ u = cc in a f)
]

unchanged : (g : Graph) (s : ℕ) → Unchanged s (view_of g) (view_of g)
unchanged g s = record { only = record { others = λ t r apart. refl; cells = λ x i. refl; sizes = λ x. refl; made = λ t. refl }; registers = λ r. refl }

module _ (g : Graph) (s : ℕ) (present : (graph_seat g s).left ≡ false) where
  -- another seat with the same objects in its place
  only_registers : (p : GraphSeat) → p.objects ≡ (graph_seat g s).objects → OnlyRegisters s (view_of g) (view_of (with_graph_seat g s p))
  only_registers p objects = record {
    others = λ t r apart. ap (λ (x : GraphSeat). get_or x.registers r unset) (other_party_stays g s p present t apart);
    cells = λ x i. ap (λ (o : Option Node). get_or (cells_in o) i unset) (nodes_stay_with_seat g s p present objects x);
    sizes = λ x. ap (λ (o : Option Node). length (cells_in o)) (nodes_stay_with_seat g s p present objects x);
    made = λ t. elim (cases_eq t s) as (λ _. length (graph_seat (with_graph_seat g s p) t).objects ≡ length (graph_seat g t).objects) [
      | inl same ↦ subst (λ n. length (graph_seat (with_graph_seat g s p) n).objects ≡ length (graph_seat g n).objects) (sym same)
          (ap (λ (x : GraphSeat). length x.objects) (party_with_seat_is_new g s p present) ∙ ap (λ (xs : List Node). length xs) objects)
      | inr apart ↦ ap (λ (x : GraphSeat). length x.objects) (other_party_stays g s p present t apart)
    ];
  }

  fills : (d : ℕ) (cell : Cell) → d < length (graph_seat g s).registers → Fills s d cell (view_of g) (view_of (with_register g s d cell))
  fills d cell within =
      let p : GraphSeat = record (graph_seat g s) { registers = set (graph_seat g s).registers d cell } in
      let here = party_with_seat_is_new g s p present in record {
        only = only_registers p refl;
        here = ap (λ (x : GraphSeat). get_or x.registers d unset) here ∙ get_or-set_same (graph_seat g s).registers d cell unset within;
        rest = λ r apart. ap (λ (x : GraphSeat). get_or x.registers r unset) here ∙ get_or-set_other (graph_seat g s).registers d r cell unset apart;
      }

  bears : (d fields : ℕ) → d < length (graph_seat g s).registers → Bears s d fields (view_of g) (view_of (add g s d (fresh false fields)))
  bears d fields within =
      let object : Node = fresh false fields in
      let born = added_node_is_object g s d object present in record {
        here = target_holds_new_object g s d object present within;
        others = λ t r apart. ap (λ (x : GraphSeat). get_or x.registers r unset) (other_party_stays_by_add g s d object present t apart);
        nil = λ i. ap (λ (o : Option Node). get_or (cells_in o) i unset) born ∙ elim (cases_lt i fields) as (λ _. get_or (replicate fields unset) i unset ≡ unset) [
          | inl there ↦ get_or-replicate fields i unset unset there
          | inr past ↦ get_or_past (replicate fields unset) i unset (omega (arith, past, length-replicate fields unset))
        ];
        cells_stay = λ x i apart. ap (λ (o : Option Node). get_or (cells_in o) i unset) (other_nodes_stay_by_add g s d object present x apart);
        size = ap (λ (o : Option Node). length (cells_in o)) born ∙ length-replicate fields unset;
        sizes = λ x apart. ap (λ (o : Option Node). length (cells_in o)) (other_nodes_stay_by_add g s d object present x apart);
        more = objects_grow_by_add g s d object present ∙ omega arith;
        made = λ t apart. ap (λ (x : GraphSeat). length x.objects) (other_party_stays_by_add g s d object present t apart);
      }

  -- after a set of the seat
  written : (id : Id) (i : ℕ) (cell : Cell) (now : Graph) → SetsCell g now s id i cell → (object : Node) → node g id ≡ Some object → i < length (cells_in (node g id)) → IsStampOf s cell.stamp → Writes s id i cell.value (view_of g) (view_of now)
  written id i cell now sets object there within by =
      let cells : cells_in (node now id) ≡ set (cells_in (node g id)) i cell = ap cells_in (sets.written object there) ∙ ap (λ (o : Option Node). set (cells_in o) i cell) (sym there) in
      let here : get_or (cells_in (node now id)) i unset ≡ cell = ap (λ (xs : List Cell). get_or xs i unset) cells ∙ get_or-set_same (cells_in (node g id)) i cell unset within in record {
        here = same_value here;
        stamp = (by.0, by.1, by.2, ap (λ (c : Cell). c.stamp) here ∙ by.3);
        other_cells = λ x k apart. elim (same_or_other x id) as (λ _. get_or (cells_in (node now x)) k unset ≡ get_or (cells_in (node g x)) k unset) [
          | inl same ↦ subst (λ (y : Id). get_or (cells_in (node now y)) k unset ≡ get_or (cells_in (node g y)) k unset) (sym same)
              (ap (λ (xs : List Cell). get_or xs k unset) cells ∙ get_or-set_other (cells_in (node g id)) i k cell unset apart)
          | inr off ↦ ap (λ (o : Option Node). get_or (cells_in o) k unset) (sets.rest x off)
        ];
        other_objects = λ x k apart. ap (λ (o : Option Node). get_or (cells_in o) k unset) (sets.rest x apart);
        registers = λ t r. elim (cases_eq t s) as (λ _. register_cell now t r ≡ register_cell g t r) [
          | inl same ↦ subst (λ n. register_cell now n r ≡ register_cell g n r) (sym same) (ap (λ (xs : List Cell). get_or xs r unset) sets.registers)
          | inr apart ↦ ap (λ (xs : List Cell). get_or xs r unset) (sets.others t apart).registers
        ];
        sizes = λ x. elim (same_or_other x id) as (λ _. length (cells_in (node now x)) ≡ length (cells_in (node g x))) [
          | inl same ↦ subst (λ (y : Id). length (cells_in (node now y)) ≡ length (cells_in (node g y))) (sym same) (ap (λ (xs : List Cell). length xs) cells ∙ length-set (cells_in (node g id)) i cell)
          | inr off ↦ ap (λ (o : Option Node). length (cells_in o)) (sets.rest x off)
        ];
        made = λ t. elim (cases_eq t s) as (λ _. length (graph_seat now t).objects ≡ length (graph_seat g t).objects) [
          | inl same ↦ subst (λ n. length (graph_seat now n).objects ≡ length (graph_seat g n).objects) (sym same) sets.objects
          | inr apart ↦ (sets.others t apart).objects
        ];
      }

-- an object that has a cell is there
object_in : (o : Option Node) (i : ℕ) → i < length (cells_in o) → (object : Node) × (o ≡ Some object)
object_in None i within = absurd (omega arith)
object_in (Some object) i within = (object, refl)

found_in : (o : Option Node) (i : ℕ) → i < length (cells_in o) → cell_or_refusal o i ≡ Ok (get_or (cells_in o) i unset)
found_in None i within = absurd (omega arith)
found_in (Some object) i within = ap or_no_field (slice_get-get_or object.cells i unset within)

-- the cell that a register reaches is found
found : (g : Graph) (s r i : ℕ) (id : Id) → Reaches (view_of g) s r i id → cell_at g s r i ≡ Ok ((view_of g).cell id i)
found g s r i id reaches = ap (λ (value : Value). cell_or_refusal (target_node g value) i) reaches.holds ∙ found_in (node g id) i reaches.within

module _ (g : Graph) (s : ℕ) (present : (graph_seat g s).left ≡ false) (sized : length (graph_seat g s).registers ≡ 16) where
  writes : (r i v : ℕ) (id : Id) → Reaches (view_of g) s r i id → (graph_seat g s).sets + 1 < set_limit → Writes s id i (register_value g s v) (view_of g) (view_of (set_cell g s r i v))
  writes r i v id reaches stamps =
      let cell : Cell = record { value = register_value g s v; stamp = set_stamp s ((graph_seat g s).sets + 1) } in
      let there = object_in (node g id) i reaches.within in
      subst (λ (value : Value). Writes s id i (register_value g s v) (view_of g) (view_of (write (count_set g s) value i cell))) (sym reaches.holds)
      (written g s present id i cell (write (count_set g s) (Object id) i cell) (write_sets_cell g s id i cell there.0 present there.1) there.0 there.1 reaches.within ((graph_seat g s).sets + 1, omega arith, stamps, refl))

  born : (d fields : ℕ) (reply : Reply) → d < length (graph_seat g s).registers → Makes g s reply → IsBorn s d fields (view_of g) (view_of (after_reply g s (New d fields) reply)) reply
  born d fields (replies.Made id) within makes = made id (bears g s present d fields within)
  born d fields (replies.Full need found) within makes = full need found (unchanged g s)
  born d fields _ within makes = absurd makes

  got : (d r i : ℕ) (reply : Reply) → d < length (graph_seat g s).registers → Gets (cell_at g s r i) reply → (id : Id) → Reaches (view_of g) s r i id
      → IsGot s d ((view_of g).cell id i) reply (view_of g) (view_of (after_reply g s (Get d r i) reply))
  got d r i reply within gets id reaches =
      let cell : Cell = (view_of g).cell id i in
      let is : reply ≡ replies.Got cell.value cell.stamp = subst (λ (x : Result Cell Reply). Gets x reply) (found g s r i id reaches) gets in
      record { is = is; fills = subst (λ (x : Reply). Fills s d cell (view_of g) (view_of (after_reply g s (Get d r i) x))) (sym is) (fills g s present d cell within) }

  set_at : (r i v : ℕ) (reply : Reply) → Sets (graph_seat g s).sets (cell_at g s r i) reply → (id : Id) → Reaches (view_of g) s r i id
      → IsSet s id i (register_value g s v) reply (view_of g) (view_of (after_reply g s (Set r i v) reply))
  set_at r i v reply sets id reaches =
      let cell : Cell = (view_of g).cell id i in
      let is : (reply ≡ replies.Was cell.stamp) × ((graph_seat g s).sets + 1 < set_limit) = subst (λ (x : Result Cell Reply). Sets (graph_seat g s).sets x reply) (found g s r i id reaches) sets in
      record { stamp = cell.stamp; is = is.0; writes = subst (λ (x : Reply). Writes s id i (register_value g s v) (view_of g) (view_of (after_reply g s (Set r i v) x))) (sym is.0) (writes r i v id reaches is.1) }

  swapped_at : (r i a v : ℕ) (reply : Reply) (id : Id) → Reaches (view_of g) s r i id → SwapsAt (graph_seat g s).sets (register_cell g s a) ((view_of g).cell id i) reply
      → IsSwapped s id i (register_cell g s a) (register_value g s v) reply (view_of g) (view_of (after_reply g s (Cas r i a v) reply)) ⊎ IsMissed s id i (register_cell g s a) reply (view_of g) (view_of (after_reply g s (Cas r i a v) reply))
  swapped_at r i a v (replies.Was stamp) id reaches swaps = inl (record { stamp = stamp; is = refl; same = swaps.0; writes = writes r i v id reaches swaps.2 })
  swapped_at r i a v (replies.Now stamp) id reaches swaps = inr (record { is = ap replies.Now swaps.1; differs = swaps.0; unchanged = unchanged g s })
  swapped_at r i a v _ id reaches swaps = absurd swaps

  swapped : (r i a v : ℕ) (reply : Reply) → Swaps (graph_seat g s).sets (register_cell g s a) (cell_at g s r i) reply → (id : Id) → Reaches (view_of g) s r i id
      → IsSwapped s id i (register_cell g s a) (register_value g s v) reply (view_of g) (view_of (after_reply g s (Cas r i a v) reply)) ⊎ IsMissed s id i (register_cell g s a) reply (view_of g) (view_of (after_reply g s (Cas r i a v) reply))
  swapped r i a v reply swaps id reaches =
      swapped_at r i a v reply id reaches (subst (λ (x : Result Cell Reply). Swaps (graph_seat g s).sets (register_cell g s a) x reply) (found g s r i id reaches) swaps)

  compared : (a b : ℕ) (reply : Reply) → Compares (register_value g s a) (register_value g s b) reply → IsCompared s a b (view_of g) (view_of g) reply
  compared a b replies.Yes same = yes same (unchanged g s)
  compared a b replies.No differs = no differs (unchanged g s)
  compared a b _ compares = absurd compares

-- each entry that the graph accepts changes the view as its reply tells
pub answers : (g : Graph) (s : ℕ) (command : Command) (reply : Reply) → length (graph_seat g s).registers ≡ 16 → Accepts g (Said s command reply) → Answers s command reply (view_of g) (view_of (after_reply g s command reply))
answers g s (New d fields) reply sized (present, range, says) = born g s present sized d fields reply (omega (arith, sized, range.0.1)) says
answers g s (Array d cells) reply sized accepts = tt
answers g s (Get d r i) reply sized (present, range, says) = got g s present sized d r i reply (omega (arith, sized, range.0.1)) says
answers g s (Set r i v) reply sized (present, range, says) = set_at g s present sized r i v reply says
answers g s (Cas r i a v) reply sized (present, range, says) = swapped g s present sized r i a v reply says
answers g s (Num d n) reply sized (present, range, says) = (fills g s present d (unseen (Number n)) (omega (arith, sized, range.0.1))).only
answers g s (NilCommand d) reply sized (present, range, says) = (fills g s present d unset (omega (arith, sized, range.1))).only
answers g s (Copy d r) reply sized (present, range, says) = (fills g s present d (register_cell g s r) (omega (arith, sized, range.0.1))).only
answers g s (Same a b) reply sized (present, range, says) = compared g s present sized a b reply says
answers g s (Len r) reply sized accepts = (unchanged g s).only
answers g s Poll reply sized accepts = (unchanged g s).only
answers g s Collect reply sized accepts = (unchanged g s).only
answers g s Leave reply sized (present, range, says) = only_registers g s present (record (graph_seat g s) { registers = replicate register_count unset; left = true }) refl
