-- Each seat of a graph has sixteen registers.
use Rattle.std.proofs.Common.{◌≡◌, ℕ, ◌<◌, inl, inr, false, List, [], ◌∷◌, length, sym, ap, ◌∙◌, subst, arith}
use Rattle.std.proofs.lemmas.Bool.{cases_eq}
use Rattle.std.proofs.lemmas.List.{get_or-set_same, get_or-set_other, length-set, length-replicate, get_or-replicate}
use Rattle.heap_model.specs.declared.graph.cell.Cell.{Cell}
use Rattle.heap_model.specs.declared.command.Command.TheVariants as commands
use Rattle.heap_model.specs.declared.entry.Entry.TheVariants as entries
use Rattle.heap_model.specs.declared.id.Value.TheVariants.{Nil, Number, Object}
use Rattle.heap_model.specs.declared.reply.Reply.TheVariants as replies
use Rattle.heap_model.specs.graph.Graph.{GraphSeat, unseen, unset, Graph, Node, opening, opening_graph_seat}
use Rattle.heap_model.proofs.graph_changes.GraphGrowth.{present_seat_within_graph}
use Rattle.heap_model.specs.declared.command.Command.{Command}
use Rattle.heap_model.specs.declared.entry.Entry.{Entry}
use Rattle.heap_model.specs.declared.heap.Heap.{Heap}
use Rattle.heap_model.specs.declared.id.Id.TheVariants.{Board, Made}
use Rattle.heap_model.specs.declared.id.Value.{Value}
use Rattle.heap_model.specs.declared.reply.Reply.{Reply}
use Rattle.heap_model.specs.graph.Changes.{with_graph_seat, with_register, add, write, count_set}
use Rattle.heap_model.specs.account.Cycles.{graph_of}
use Rattle.heap_model.specs.graph.Growth.{after_entry, after_reply, graph_after}
use Rattle.heap_model.specs.graph.Objects.{graph_seat, absent_graph_seat}

-- each seat of the graph has sixteen registers
pub record Sixteen (g : Graph) : Type 0 where
  pub each : (number : ℕ) → number < length g.seats → length (graph_seat g number).registers ≡ 16

-- another party with sixteen registers, where there was one
sixteen_with : (g : Graph) (s : ℕ) (p : GraphSeat) → (s < length g.seats → length p.registers ≡ 16) → Sixteen g → Sixteen (with_graph_seat g s p)
sixteen_with g s p new is = record {
  each = λ number below.
      let within : number < length g.seats = omega (arith, below, length-set g.seats s p) in
      elim (cases_eq number s) [
        | inl e ↦ let here : s < length g.seats = omega (arith, e, within) in
            subst (λ x. length (graph_seat (with_graph_seat g s p) x).registers ≡ 16) (sym e) (ap (λ (x : GraphSeat). length x.registers) (get_or-set_same g.seats s p absent_graph_seat here) ∙ new here)
        | inr apart ↦ ap (λ (x : GraphSeat). length x.registers) (get_or-set_other g.seats s number p absent_graph_seat apart) ∙ is.each number within
      ];
}

sixteen_put : (g : Graph) (s d : ℕ) (cell : Cell) → Sixteen g → Sixteen (with_register g s d cell)
sixteen_put g s d cell is = sixteen_with g s _ (λ here. length-set (graph_seat g s).registers d cell ∙ is.each s here) is

sixteen_add : (g : Graph) (s d : ℕ) (object : Node) → Sixteen g → Sixteen (add g s d object)
sixteen_add g s d object is = sixteen_with g s _ (λ here. length-set (graph_seat g s).registers d (unseen (Object (Made s (length (graph_seat g s).objects)))) ∙ is.each s here) is

sixteen_write : (g : Graph) (value : Value) (i : ℕ) (cell : Cell) → Sixteen g → Sixteen (write g value i cell)
sixteen_write g Nil i cell is = is
sixteen_write g (Number n) i cell is = is
sixteen_write g (Object Board) i cell is = record { each = is.each }
sixteen_write g (Object (Made number count)) i cell is = sixteen_with g number _ (λ here. is.each number here) is

sixteen_reply : (g : Graph) (s : ℕ) (command : Command) (reply : Reply) → Sixteen g → Sixteen (after_reply g s command reply)
sixteen_reply g s (commands.New d fields) (replies.Made id) is = sixteen_add g s d _ is
sixteen_reply g s (commands.Array d cells) (replies.Made id) is = sixteen_add g s d _ is
sixteen_reply g s (commands.Get d r i) (replies.Got value stamp) is = sixteen_put g s d _ is
sixteen_reply g s (commands.Set r i v) (replies.Was stamp) is = sixteen_write (count_set g s) _ i _ (sixteen_with g s _ (λ here. is.each s here) is)
sixteen_reply g s (commands.Cas r i a v) (replies.Was stamp) is = sixteen_write (count_set g s) _ i _ (sixteen_with g s _ (λ here. is.each s here) is)
sixteen_reply g s (commands.Num d n) reply is = sixteen_put g s d _ is
sixteen_reply g s (commands.Nil d) reply is = sixteen_put g s d _ is
sixteen_reply g s (commands.Copy d r) reply is = sixteen_put g s d _ is
sixteen_reply g s commands.Leave reply is = sixteen_with g s _ (λ here. length-replicate 16 unset) is
sixteen_reply g s _ _ is = is

sixteen_after : (g : Graph) (entry : Entry) → Sixteen g → Sixteen (after_entry g entry)
sixteen_after g (entries.Said s command reply) is = sixteen_reply g s command reply is
sixteen_after g _ is = is

sixteen_all : (g : Graph) (history : List Entry) → Sixteen g → Sixteen (graph_after g history)
sixteen_all g [] is = is
sixteen_all g (entry ∷ history) is = sixteen_all (after_entry g entry) history (sixteen_after g entry is)

pub opening_graph_has_opening_seats : (heap : Heap) (number : ℕ) → number < heap.seats → graph_seat (opening heap) number ≡ opening_graph_seat
opening_graph_has_opening_seats heap number below = get_or-replicate heap.seats number opening_graph_seat absent_graph_seat below

sixteen_opening : (heap : Heap) → Sixteen (opening heap)
sixteen_opening heap = record {
  each = λ number below. ap (λ (p : GraphSeat). length p.registers) (opening_graph_has_opening_seats heap number (subst (λ n. number < n) (length-replicate heap.seats opening_graph_seat) below));
}

-- a seat that hasn't left has sixteen registers
pub has_sixteen_registers : (heap : Heap) (history : List Entry) (number : ℕ) → (graph_seat (graph_of heap history) number).left ≡ false → length (graph_seat (graph_of heap history) number).registers ≡ 16
has_sixteen_registers heap history number present =
    let is = sixteen_all (opening heap) history (sixteen_opening heap) in
    is.each number (present_seat_within_graph (graph_of heap history) number present)
