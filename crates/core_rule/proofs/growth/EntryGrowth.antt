-- A graph grows by each entry that it accepts.
use Rattle.std.proofs.Common.{◌≡◌, ◌≢◌, ℕ, ◌+◌, ◌<◌, true, false, ◌⊎◌, inl, inr, get_or, slice_get, Option, Some, None, IsSomeAnd, MatchResult, refl, sym, ap, ◌∙◌, subst, arith}
use Rattle.std.proofs.lemmas.Bool.{cases_eq}
use Rattle.std.proofs.lemmas.List.{length-set}
use Rattle.std.proofs.lemmas.Option.{slice_get_within, get_or_from_slice_get}
use Rattle.core_rule.proofs.Terms.{Command, Entry, Id, Value, Reply, with_cell, count_set, set_cell, write, set_stamp, Graph, Node, after_entry, after_reply, Accepts, IsPresent, graph_seat, unset}
use Rattle.core_rule.proofs.Terms.{register_value, node, target_node, cell_or_refusal, or_no_field, PointsTo, Points}
use Rattle.heap_model.specs.declared.command.Command.TheVariants as commands
use Rattle.heap_model.specs.declared.entry.Entry.TheVariants as entries
use Rattle.heap_model.specs.declared.graph.cell.Cell.{Cell}
use Rattle.heap_model.specs.declared.id.Value.TheVariants.{Nil, Number, Object}
use Rattle.heap_model.specs.declared.reply.Reply.TheVariants as replies
use Rattle.heap_model.specs.Limits.{set_limit}
use Rattle.heap_model.specs.graph.Replies.{Says, Gets, SwapsAt}
use Rattle.core_rule.proofs.growth.Growing.{CameFrom, was_held, was_read, IsSameSize, GrowsFrom}
use Rattle.core_rule.proofs.growth.RegisterIds.{RegisterHolds}
use Rattle.core_rule.proofs.growth.SeatGrowth.{set_cases, same_size_unchanged, grows_by_nothing, grows_by_put, grows_by_leave, grows_by_add}
use Rattle.heap_model.proofs.graph_changes.CellSet.{Sets, write_sets_cell}
use Rattle.core_rule.proofs.graph.Numbering.{same_id_test_decides}
use Rattle.heap_model.specs.graph.Graph.{unseen}
use Rattle.heap_model.specs.graph.Objects.{register_cell}

-- a value refers to an object that has this cell
pub record HasCell (g : Graph) (value : Value) (i : ℕ) (cell : Cell) : Type 0 where
  pub id : Id
  pub object : Node
  pub refers : value ≡ Object id
  pub there : node g id ≡ Some object
  pub at_position : slice_get object.cells i ≡ Some cell

-- where the reply to a get or a set is no refusal, there is the cell
abbrev TellsOfCell : Graph → Value → ℕ → Reply → (Cell → Reply → Type 0) → Type 0
TellsOfCell g value i reply P = MatchResult (cell_or_refusal (target_node g value) i) (λ cell. P cell reply) (λ refusal. reply ≡ refusal)

found_cell : (g : Graph) (value : Value) (i : ℕ) (reply : Reply) (P : Cell → Reply → Type 0) → reply ≢ replies.NoObject → reply ≢ replies.NoField → TellsOfCell g value i reply P
    → (cell : Cell) × HasCell g value i cell × P cell reply
found_cell g Nil i reply P object field tells = absurd (object tells)
found_cell g (Number n) i reply P object field tells = absurd (object tells)
found_cell g (Object id) i reply P object field tells = by (node g id) refl tells
  where
    at_field : (o : Node) (c : Option Cell) → node g id ≡ Some o → slice_get o.cells i ≡ c
        → MatchResult (or_no_field c) (λ cell. P cell reply) (λ refusal. reply ≡ refusal) → (cell : Cell) × HasCell g (Object id) i cell × P cell reply
    at_field o None is none tells = absurd (field tells)
    at_field o (Some cell) is some tells = (cell, record { id = id; object = o; refers = refl; there = is; at_position = some }, tells)

    by : (o : Option Node) → node g id ≡ o → MatchResult (cell_or_refusal o i) (λ cell. P cell reply) (λ refusal. reply ≡ refusal) → (cell : Cell) × HasCell g (Object id) i cell × P cell reply
    by None is tells = absurd (object tells)
    by (Some o) is tells = at_field o (slice_get o.cells i) is refl tells

-- an id in the cell is one that its object points to
points_there : (g : Graph) (value : Value) (i : ℕ) (cell : Cell) (has : HasCell g value i cell) (id : Id) → cell.value ≡ Object id → Points g has.id id
points_there g value i cell has id is =
    subst (λ (o : Option Node). IsSomeAnd o (λ x. PointsTo x id)) (sym has.there)
    (i, cell, slice_get_within has.object.cells i cell has.at_position, get_or_from_slice_get has.object.cells i cell cell has.at_position, is)

module _ (g : Graph) (number : ℕ) (present : IsPresent g number) where
  -- what was got was read
  got_came : (r i : ℕ) (value : Value) (stamp : ℕ) → Gets (cell_or_refusal (target_node g (register_value g number r)) i) (replies.Got value stamp)
      → (id : Id) → value ≡ Object id → CameFrom g id
  got_came r i value stamp gets id is =
      let found = found_cell g (register_value g number r) i (replies.Got value stamp) (λ cell reply. reply ≡ replies.Got cell.value cell.stamp) (λ e. cc e) (λ e. cc e) gets in
      let same : value ≡ found.0.value = cc (found.2) in
      was_read found.1.id (record { number = number; register = r; holds = found.1.refers }) (points_there g (register_value g number r) i found.0 found.1 id (sym same ∙ is))

  -- a cell of an object gets what a register holds
  module _ (id : Id) (i v : ℕ) (cell : Cell) (object : Node) (there : node g id ≡ Some object) (value : cell.value ≡ register_value g number v) where
    abbrev written : Graph
    written = write (count_set g number) (Object id) i cell

    set_there : Sets g written number id i cell
    set_there = write_sets_cell g number id i cell object present there

    same_registers : (s r : ℕ) → register_value written s r ≡ register_value g s r
    same_registers s r = elim (cases_eq s number) [
      | inl e ↦ subst (λ t. register_value written t r ≡ register_value g t r) (sym e) (ap (λ rs. (get_or rs r unset).value) set_there.registers)
      | inr apart ↦ ap (λ rs. (get_or rs r unset).value) (set_there.others s apart).registers
    ]

    -- a cell of the object is the new one, or was there
    written_points : (x : Id) → PointsTo (with_cell object i cell) x → PointsTo object x ⊎ RegisterHolds g x
    written_points x points = elim (set_cases object.cells i points.0 cell points.1) [
      | inl new ↦ inr (record { number = number; register = v; holds = sym value ∙ ap (λ (c : Cell). c.value) (sym new ∙ points.3) ∙ points.4 })
      | inr old ↦ inl (points.0, points.1, omega (arith, points.2, length-set object.cells i cell), sym old ∙ points.3, points.4)
    ]

    written_cells : (holder x : Id) → Points written holder x → Points g holder x ⊎ RegisterHolds g x
    written_cells holder x points = elim (same_id_test_decides holder id) [
      | inl e ↦ elim (written_points x (subst (λ (o : Option Node). IsSomeAnd o (λ y. PointsTo y x)) (ap (node written) e.1 ∙ set_there.written object there) points)) [
        | inl old ↦ inl (subst (λ (o : Option Node). IsSomeAnd o (λ y. PointsTo y x)) (sym (ap (node g) e.1 ∙ there)) old)
        | inr its ↦ inr its
      ]
      | inr e ↦ inl (subst (λ (o : Option Node). IsSomeAnd o (λ y. PointsTo y x)) (set_there.rest holder e.1) points)
    ]

    written_objects : (x : Id) (o : Node) → node g x ≡ Some o → IsSameSize written x o
    written_objects x o is = elim (same_id_test_decides x id) [
      | inl e ↦ record {
        later = with_cell o i cell;
        there = ap (node written) e.1 ∙ set_there.written o (sym (ap (node g) e.1) ∙ is);
        kind = refl;
        cells = length-set o.cells i cell;
      }
      | inr e ↦ same_size_unchanged g written x o (set_there.rest x e.1) is
    ]

    grows_written : GrowsFrom g written
    grows_written = record {
      registers = λ s r x holds. was_held (record { number = s; register = r; holds = sym (same_registers s r) ∙ holds });
      cells = written_cells;
      objects = written_objects;
    }

  -- a set that is no refusal finds its cell
  pub set_finds_its_cell : (r i v stamp : ℕ) → Says g number (commands.Set r i v) (replies.Was stamp) → (cell : Cell) × HasCell g (register_value g number r) i cell
  set_finds_its_cell r i v stamp sets =
      let found = found_cell g (register_value g number r) i (replies.Was stamp) (λ cell reply. (reply ≡ replies.Was cell.stamp) × ((graph_seat g number).sets + 1 < set_limit)) (λ e. cc e) (λ e. cc e) sets in
      (found.0, found.1)

  -- nor is a cas that swapped
  pub swap_finds_its_cell : (r i a v stamp : ℕ) → Says g number (commands.Cas r i a v) (replies.Was stamp) → (cell : Cell) × HasCell g (register_value g number r) i cell
  swap_finds_its_cell r i a v stamp swaps =
      let found = found_cell g (register_value g number r) i (replies.Was stamp) (SwapsAt (graph_seat g number).sets (register_cell g number a)) (λ e. cc e) (λ e. cc e) swaps in
      (found.0, found.1)

  -- so it grows the graph
  grows_set : (r i v : ℕ) → ((cell : Cell) × HasCell g (register_value g number r) i cell) → GrowsFrom g (set_cell g number r i v)
  grows_set r i v found =
      subst (λ value. GrowsFrom g (write (count_set g number) value i (record { value = register_value g number v; stamp = set_stamp number ((graph_seat g number).sets + 1) }))) (sym found.1.refers)
      (grows_written found.1.id i v _ found.1.object found.1.there refl)

  -- each reply that the graph gives does
  grows_said : (command : Command) (reply : Reply) → Says g number command reply → GrowsFrom g (after_reply g number command reply)
  grows_said (commands.New d fields) (replies.Made id) says = grows_by_add g number present d false fields
  grows_said (commands.Array d cells) (replies.Made id) says = grows_by_add g number present d true cells
  grows_said (commands.Get d r i) (replies.Got value stamp) says = grows_by_put g number present d (record { value = value; stamp = stamp }) (got_came r i value stamp says)
  grows_said (commands.Set r i v) (replies.Was stamp) says = grows_set r i v (set_finds_its_cell r i v stamp says)
  grows_said (commands.Cas r i a v) (replies.Was stamp) says = grows_set r i v (swap_finds_its_cell r i a v stamp says)
  grows_said (commands.Num d n) reply says = grows_by_put g number present d (unseen (Number n)) (λ id e. cc e)
  grows_said (commands.Nil d) reply says = grows_by_put g number present d unset (λ id e. cc e)
  grows_said (commands.Copy d r) reply says = grows_by_put g number present d (register_cell g number r) (λ id e. was_held (record { number = number; register = r; holds = e }))
  grows_said commands.Leave reply says = grows_by_leave g number present
  grows_said command reply says = grows_by_nothing g

-- and each entry that the graph accepts
pub grows_by_entry : (g : Graph) (entry : Entry) → Accepts g entry → GrowsFrom g (after_entry g entry)
grows_by_entry g (entries.Said number command reply) accepts = grows_said g number accepts.0 command reply accepts.2
grows_by_entry g _ accepts = grows_by_nothing g
