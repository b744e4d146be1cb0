-- Which cells entries touch, and that each finds its cell's stamp.
use Rattle.std.proofs.Common.{◌≡◌, ℕ, ◌⊎◌, inl, inr, get_or, Some, Ok, refl, sym, ap, ◌∙◌, subst}
use Rattle.heap_model.specs.declared.id.Value.{Value}
use Rattle.heap_model.specs.declared.graph.cell.Cell.{Cell}
use Rattle.heap_model.specs.declared.command.Command.TheVariants as commands
use Rattle.heap_model.specs.declared.reply.Reply.{Reply}
use Rattle.heap_model.specs.declared.reply.Reply.TheVariants as replies
use Rattle.heap_model.specs.declared.entry.Entry.{Entry}
use Rattle.heap_model.specs.declared.entry.Entry.TheVariants as entries
use Rattle.heap_model.specs.account.Noting.{seat_of}
use Rattle.heap_model.specs.graph.Objects.{graph_seat, register_cell, register_value}
use Rattle.heap_model.specs.graph.Graph.{Graph, unset}
use Rattle.heap_model.specs.graph.Replies.{Says, Gets, Sets, Swaps, SwapsAt}
use Rattle.heap_model.specs.graph.Legal.{Accepts}
use Rattle.log_merge.specs.Merging.{IsGetOf, Writes}
use Rattle.log_merge.proofs.merge_lemmas.Changes.{Own, own}
use Rattle.log_merge.proofs.merge_lemmas.Places.{look}

-- the entry is a get, a set or a cas of this cell
abbrev pub Touches : Graph → Entry → Value → ℕ → Type 0
Touches g (entries.Said number (commands.Get d r i) reply) value j = (register_value g number r ≡ value) × (i ≡ j)
Touches g (entries.Said number (commands.Set r i v) reply) value j = (register_value g number r ≡ value) × (i ≡ j)
Touches g (entries.Said number (commands.Cas r i a v) reply) value j = (register_value g number r ≡ value) × (i ≡ j)
Touches g _ value j = ⊥

abbrev pub Finds : Graph → Entry → Value → ℕ → ℕ → Type 0
Finds g e value j t = IsGetOf g e value j t ⊎ Writes g e value j t

-- what is set is touched
pub set_cell_is_touched : (g : Graph) (e : Entry) (value : Value) (j t : ℕ) → Writes g e value j t → Touches g e value j
set_cell_is_touched g (entries.Said number (commands.Set r i v) (replies.Was stamp)) value j t writes = (writes.0, writes.1)
set_cell_is_touched g (entries.Said number (commands.Cas r i a v) (replies.Was stamp)) value j t writes = (writes.0, writes.1)
set_cell_is_touched g _ value j t writes = absurd writes

-- what an entry finds or writes is so wherever its seat has the same
module _ (g h : Graph) where
  abbrev HasSame : Entry → Type 0
  HasSame e = (number : ℕ) → seat_of e ≡ Some number → own h number ≡ own g number

  same_register : (number r : ℕ) → own h number ≡ own g number → register_value h number r ≡ register_value g number r
  same_register number r same = ap (λ (o : Own). (get_or o.registers r unset).value) same

  pub gets_elsewhere : (e : Entry) (value : Value) (j t : ℕ) → HasSame e → IsGetOf g e value j t → IsGetOf h e value j t
  gets_elsewhere (entries.Said number (commands.Get d r i) (replies.Got found stamp)) value j t same gets = (same_register number r (same number refl) ∙ gets.0, gets.1, gets.2)
  gets_elsewhere (entries.Said number (commands.Cas r i a v) (replies.Now stamp)) value j t same gets = (same_register number r (same number refl) ∙ gets.0, gets.1, gets.2)
  gets_elsewhere _ value j t same gets = absurd gets

  pub writes_elsewhere : (e : Entry) (value : Value) (j t : ℕ) → HasSame e → Writes g e value j t → Writes h e value j t
  writes_elsewhere (entries.Said number (commands.Set r i v) (replies.Was stamp)) value j t same writes = (same_register number r (same number refl) ∙ writes.0, writes.1, writes.2)
  writes_elsewhere (entries.Said number (commands.Cas r i a v) (replies.Was stamp)) value j t same writes = (same_register number r (same number refl) ∙ writes.0, writes.1, writes.2)
  writes_elsewhere _ value j t same writes = absurd writes

-- an entry that touches a cell finds its stamp
look_there : (g : Graph) (one other : Value) (i j : ℕ) (cell : Cell) → one ≡ other → i ≡ j → look g other j ≡ Ok cell → look g one i ≡ Ok cell
look_there g one other i j cell here at found = ap (λ x. look g x i) here ∙ ap (look g other) at ∙ found

got_stamp : (g : Graph) (number d r i : ℕ) (reply : Reply) (value : Value) (j : ℕ) (cell : Cell) → Says g number (commands.Get d r i) reply → register_value g number r ≡ value → i ≡ j
    → look g value j ≡ Ok cell → IsGetOf g (entries.Said number (commands.Get d r i) reply) value j cell.stamp
got_stamp g number d r i reply value j cell says here at found =
    let answer : reply ≡ replies.Got cell.value cell.stamp = subst (λ x. Gets x reply) (look_there g (register_value g number r) value i j cell here at found) says in
    subst (λ x. IsGetOf g (entries.Said number (commands.Get d r i) x) value j cell.stamp) (sym answer) (here, at, refl)

was_stamp : (g : Graph) (number r i v : ℕ) (reply : Reply) (value : Value) (j : ℕ) (cell : Cell) → Says g number (commands.Set r i v) reply → register_value g number r ≡ value → i ≡ j
    → look g value j ≡ Ok cell → Writes g (entries.Said number (commands.Set r i v) reply) value j cell.stamp
was_stamp g number r i v reply value j cell says here at found =
    let answer = subst (λ x. Sets (graph_seat g number).sets x reply) (look_there g (register_value g number r) value i j cell here at found) says in
    subst (λ x. Writes g (entries.Said number (commands.Set r i v) x) value j cell.stamp) (sym answer.0) (here, at, refl)

-- of a cas that swapped it is replaced, of one that didn't it is left
swapped_or_left : (g : Graph) (number r i a v : ℕ) (reply : Reply) (value : Value) (j : ℕ) (cell : Cell) → SwapsAt (graph_seat g number).sets (register_cell g number a) cell reply
    → register_value g number r ≡ value → i ≡ j → Finds g (entries.Said number (commands.Cas r i a v) reply) value j cell.stamp
swapped_or_left g number r i a v (replies.Was stamp) value j cell says here at = inr (here, at, says.1)
swapped_or_left g number r i a v (replies.Now stamp) value j cell says here at = inl (here, at, says.1)
swapped_or_left g number r i a v _ value j cell none here at = absurd none

pub touched_cell_is_found : (g : Graph) (e : Entry) (value : Value) (j : ℕ) (cell : Cell) → Accepts g e → Touches g e value j → look g value j ≡ Ok cell → Finds g e value j cell.stamp
touched_cell_is_found g (entries.Said number (commands.Get d r i) reply) value j cell accepts touches found = inl (got_stamp g number d r i reply value j cell accepts.2 touches.0 touches.1 found)
touched_cell_is_found g (entries.Said number (commands.Set r i v) reply) value j cell accepts touches found = inr (was_stamp g number r i v reply value j cell accepts.2 touches.0 touches.1 found)
touched_cell_is_found g (entries.Said number (commands.Cas r i a v) reply) value j cell accepts touches found =
    swapped_or_left g number r i a v reply value j cell
    (subst (λ x. Swaps (graph_seat g number).sets (register_cell g number a) x reply) (look_there g (register_value g number r) value i j cell touches.0 touches.1 found) accepts.2) touches.0 touches.1
touched_cell_is_found g _ value j cell accepts touches found = absurd touches
