-- How many objects each seat made, after an entry.
use Rattle.std.proofs.Common.{◌≡◌, ℕ, ◌+◌, true, false, [], ◌∷◌, length, get_or, set, refl, sym, ap, ◌∙◌, length-append, length-set}
use Rattle.std.proofs.Math.ListN.{get_or-map}
use Rattle.std.proofs.Math.Seq.{map-set_same}
use Rattle.std.proofs.lemmas.List.{map-set}
use Rattle.heap_model.specs.declared.id.Id.TheVariants.{Board, Made}
use Rattle.heap_model.specs.declared.id.Value.{Value}
use Rattle.heap_model.specs.declared.id.Value.TheVariants.{Nil, Number, Object}
use Rattle.heap_model.specs.declared.graph.cell.Cell.{Cell}
use Rattle.heap_model.specs.declared.command.Command.{Command}
use Rattle.heap_model.specs.declared.command.Command.TheVariants as commands
use Rattle.heap_model.specs.declared.reply.Reply.{Reply}
use Rattle.heap_model.specs.declared.reply.Reply.TheVariants as replies
use Rattle.heap_model.specs.declared.entry.Entry.{Entry}
use Rattle.heap_model.specs.declared.entry.Entry.TheVariants as entries
use Rattle.heap_model.specs.graph.Objects.{graph_seat, register_value, absent_graph_seat, made_counts}
use Rattle.heap_model.specs.graph.Graph.{Node, GraphSeat, Graph, fresh}
use Rattle.heap_model.specs.graph.Changes.{add, with_graph_seat, with_object_cell, write, count_set}
use Rattle.heap_model.specs.graph.Growth.{after_entry, after_reply, counts_after}

-- a seat that has as many objects as before
same_made : (g : Graph) (number : ℕ) (p : GraphSeat) → length p.objects ≡ length (graph_seat g number).objects → made_counts (with_graph_seat g number p) ≡ made_counts g
same_made g number p same = map-set_same (λ (seat : GraphSeat). length seat.objects) g.seats number p absent_graph_seat same

-- and one that has one more
one_made : (g : Graph) (number d : ℕ) (object : Node) → made_counts (add g number d object) ≡ set (made_counts g) number (get_or (made_counts g) number 0 + 1)
one_made g number d object =
    map-set (λ (seat : GraphSeat). length seat.objects) g.seats number _
    ∙ ap (set (made_counts g) number) (length-append (graph_seat g number).objects (object ∷ []) ∙ ap (λ n. n + 1) (sym (get_or-map (λ (seat : GraphSeat). length seat.objects) g.seats number absent_graph_seat)))

written_made : (g : Graph) (value : Value) (i : ℕ) (cell : Cell) → made_counts (write g value i cell) ≡ made_counts g
written_made g Nil i cell = refl
written_made g (Number n) i cell = refl
written_made g (Object Board) i cell = refl
written_made g (Object (Made other count)) i cell = same_made g other (with_object_cell (graph_seat g other) count i cell) (length-set (graph_seat g other).objects count _)

said_made : (g : Graph) (number : ℕ) (command : Command) (reply : Reply) → made_counts (after_reply g number command reply) ≡ counts_after (made_counts g) (entries.Said number command reply)
said_made g number (commands.New d fields) (replies.Made id) = one_made g number d (fresh false fields)
said_made g number (commands.Array d cells) (replies.Made id) = one_made g number d (fresh true cells)
said_made g number (commands.Get d r i) (replies.Got value stamp) = same_made g number _ refl
said_made g number (commands.Set r i v) (replies.Was stamp) = written_made (count_set g number) (register_value g number r) i _ ∙ same_made g number _ refl
said_made g number (commands.Cas r i a v) (replies.Was stamp) = written_made (count_set g number) (register_value g number r) i _ ∙ same_made g number _ refl
said_made g number (commands.Num d n) reply = same_made g number _ refl
said_made g number (commands.Nil d) reply = same_made g number _ refl
said_made g number (commands.Copy d r) reply = same_made g number _ refl
said_made g number commands.Leave reply = same_made g number _ refl
said_made g number command reply = refl

pub made_counts-after : (g : Graph) (entry : Entry) → made_counts (after_entry g entry) ≡ counts_after (made_counts g) entry
made_counts-after g (entries.Said number command reply) = said_made g number command reply
made_counts-after g entry = refl
