-- A seat that has left holds nothing.
use Rattle.std.proofs.Common.{◌≡◌, ℕ, true, false, List, [], ◌∷◌, get_or, set, length, replicate, refl, sym, ap, subst, inl, inr, arith, length-set}
use Rattle.std.proofs.lemmas.Bool.{cases_eq, cases_lt}
use Rattle.std.proofs.lemmas.List.{get_or-set_same, get_or-set_other, get_or_past, get_or-replicate, length-replicate}
use Rattle.heap_model.specs.declared.id.Value.TheVariants.{Nil, Number, Object}
use Rattle.heap_model.specs.declared.graph.cell.Cell.{Cell}
use Rattle.heap_model.specs.declared.command.Command.TheVariants as commands
use Rattle.heap_model.specs.declared.reply.Reply.TheVariants as replies
use Rattle.heap_model.specs.Limits.{register_count}
use Rattle.heap_model.specs.graph.Graph.{GraphSeat, unset, Graph, opening, opening_graph_seat}
use Rattle.heap_model.specs.declared.id.Id.TheVariants.{Board, Made}
use Rattle.heap_model.specs.declared.id.Value.{Value}
use Rattle.heap_model.specs.declared.command.Command.{Command}
use Rattle.heap_model.specs.declared.reply.Reply.{Reply}
use Rattle.heap_model.specs.declared.entry.Entry.{Entry}
use Rattle.heap_model.specs.declared.entry.Entry.TheVariants.{Said}
use Rattle.heap_model.specs.declared.heap.Heap.{Heap}
use Rattle.heap_model.specs.account.Cycles.{graph_of}
use Rattle.heap_model.specs.graph.Legal.{Accepts, AcceptsAll, IsObjectLegal, IsPresent}
use Rattle.heap_model.specs.graph.Objects.{graph_seat, register_value, absent_graph_seat}
use Rattle.heap_model.specs.graph.Changes.{with_graph_seat, write, count_set, set_cell, with_object_cell}
use Rattle.heap_model.specs.graph.Growth.{after_entry, after_reply, graph_after}

-- where the seat has left, its registers are empty
abbrev IsEmptied : GraphSeat → Type 0
IsEmptied seat = seat.left ≡ true → (r : ℕ) → (get_or seat.registers r unset).value ≡ Nil

-- a seat that isn't there has none
emptied_absent : IsEmptied absent_graph_seat
emptied_absent left r = refl

-- whichever seat changes
emptied_with : (g : Graph) (number q : ℕ) (p : GraphSeat) → IsEmptied (graph_seat g number) → (IsEmptied (graph_seat g q) → IsEmptied p) → IsEmptied (graph_seat (with_graph_seat g q p) number)
emptied_with g number q p has new = elim (cases_eq number q) [
  | inl same ↦ subst (λ n. IsEmptied (get_or (set g.seats q p) n absent_graph_seat)) (sym same) (elim (cases_lt q (length g.seats)) [
    | inl there ↦ subst IsEmptied (sym (get_or-set_same g.seats q p absent_graph_seat there)) (new (subst (λ n. IsEmptied (graph_seat g n)) same has))
    | inr past ↦ subst IsEmptied (sym (get_or_past (set g.seats q p) q absent_graph_seat (omega (arith, past, length-set g.seats q p)))) emptied_absent
  ])
  | inr other ↦ subst IsEmptied (sym (get_or-set_other g.seats q number p absent_graph_seat other)) has
]

-- a seat that hasn't left may hold anything
emptied_present : (seat : GraphSeat) → seat.left ≡ false → IsEmptied seat
emptied_present seat present left r = absurd (cc (present, left))

emptied_write : (g : Graph) (number : ℕ) (value : Value) (i : ℕ) (cell : Cell) → IsEmptied (graph_seat g number) → IsEmptied (graph_seat (write g value i cell) number)
emptied_write g number Nil i cell has = has
emptied_write g number (Number n) i cell has = has
emptied_write g number (Object Board) i cell has = has
emptied_write g number (Object (Made other count)) i cell has = emptied_with g number other (with_object_cell (graph_seat g other) count i cell) has (λ its. its)

emptied_set : (g : Graph) (number other r i v : ℕ) → IsEmptied (graph_seat g number) → IsEmptied (graph_seat (set_cell g other r i v) number)
emptied_set g number other r i v has = emptied_write (count_set g other) number (register_value g other r) i _ (emptied_with g number other _ has (λ its. its))

-- the registers of one that leaves
pub empty_register_is_nil : (r : ℕ) → (get_or (replicate register_count unset) r unset).value ≡ Nil
empty_register_is_nil r = elim (cases_lt r register_count) as (λ _. (get_or (replicate register_count unset) r unset).value ≡ Nil) [
  | inl there ↦ ap (λ (register : Cell). register.value) (get_or-replicate register_count r unset unset there)
  | inr past ↦ ap (λ (register : Cell). register.value) (get_or_past (replicate register_count unset) r unset (omega (arith, past, length-replicate register_count unset)))
]

emptied_said : (g : Graph) (number other : ℕ) (command : Command) (reply : Reply) → IsPresent g other → IsEmptied (graph_seat g number) → IsEmptied (graph_seat (after_reply g other command reply) number)
emptied_said g number other (commands.New d fields) (replies.Made id) present has = emptied_with g number other _ has (λ its left. absurd (cc (present, left)))
emptied_said g number other (commands.Array d cells) (replies.Made id) present has = emptied_with g number other _ has (λ its left. absurd (cc (present, left)))
emptied_said g number other (commands.Get d r i) (replies.Got value stamp) present has = emptied_with g number other _ has (λ its left. absurd (cc (present, left)))
emptied_said g number other (commands.Set r i v) (replies.Was stamp) present has = emptied_set g number other r i v has
emptied_said g number other (commands.Cas r i a v) (replies.Was stamp) present has = emptied_set g number other r i v has
emptied_said g number other (commands.Num d n) reply present has = emptied_with g number other _ has (λ its left. absurd (cc (present, left)))
emptied_said g number other (commands.Nil d) reply present has = emptied_with g number other _ has (λ its left. absurd (cc (present, left)))
emptied_said g number other (commands.Copy d r) reply present has = emptied_with g number other _ has (λ its left. absurd (cc (present, left)))
emptied_said g number other commands.Leave reply present has = emptied_with g number other _ has (λ its left. empty_register_is_nil)
emptied_said g number other command reply present has = has

emptied_after : (g : Graph) (number : ℕ) (entry : Entry) → Accepts g entry → IsEmptied (graph_seat g number) → IsEmptied (graph_seat (after_entry g entry) number)
emptied_after g number (Said other command reply) accepts has = emptied_said g number other command reply accepts.0 has
emptied_after g number entry accepts has = has

emptied_after_all : (g : Graph) (number : ℕ) (history : List Entry) → AcceptsAll g history → IsEmptied (graph_seat g number) → IsEmptied (graph_seat (graph_after g history) number)
emptied_after_all g number [] accepts has = has
emptied_after_all g number (entry ∷ history) accepts has = emptied_after_all (after_entry g entry) number history accepts.1 (emptied_after g number entry accepts.0 has)

-- it is so at the opening
emptied_opens : (heap : Heap) (number : ℕ) → IsEmptied (graph_seat (opening heap) number)
emptied_opens heap number = elim (cases_lt number heap.seats) [
  | inl there ↦ subst IsEmptied (sym (get_or-replicate heap.seats number opening_graph_seat absent_graph_seat there)) (emptied_present opening_graph_seat refl)
  | inr past ↦ subst IsEmptied (sym (get_or_past (replicate heap.seats opening_graph_seat) number absent_graph_seat (omega (arith, past, length-replicate heap.seats opening_graph_seat)))) emptied_absent
]

-- and after every legal history
pub left_registers_are_nil : (heap : Heap) (history : List Entry) (number : ℕ) → IsObjectLegal heap history → (graph_seat (graph_of heap history) number).left ≡ true
    → (r : ℕ) → register_value (graph_of heap history) number r ≡ Nil
left_registers_are_nil heap history number legal = emptied_after_all (opening heap) number history legal (emptied_opens heap number)
