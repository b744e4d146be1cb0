-- The spine words of objects as a graph grows: an entry makes one object at most, of the words that it is granted, and each object keeps its words.
use Rattle.std.proofs.Common.{◌≡◌, ℕ, ◌+◌, false, Bool, ◌⊎◌, inl, inr, true, List, [], ◌∷◌, length, Option, Some, None, IsSome, refl, sym, ap, ◌∙◌, subst}
use Rattle.std.specs.Option.{option_map_or}
use Rattle.std.proofs.lemmas.List.{length-replicate}
use Rattle.core_rule.proofs.Terms.{array_words, words_by, effect_of, Command, Entry, Id, Board, Made, Reply, with_graph_seat, add, write, count_set, set_cell, set_stamp, Graph, Node, fresh}
use Rattle.core_rule.proofs.Terms.{unset, after_entry, after_reply, graph_after, Accepts, AcceptsAll, graph_seat, node, register_value, IsMade, spine_words_of, spine_words_at}
use Rattle.heap_model.specs.declared.command.Command.TheVariants as commands
use Rattle.heap_model.specs.declared.entry.Entry.TheVariants as entries
use Rattle.heap_model.specs.declared.graph.cell.Cell.{Cell}
use Rattle.heap_model.specs.declared.reply.Reply.TheVariants as replies
use Rattle.heap_model.specs.graph.Graph.{GraphSeat}
use Rattle.heap_model.specs.graph.Replies.{Says}
use Rattle.heap_model.proofs.graph_changes.CellSet.{write_sets_cell}
use Rattle.heap_model.proofs.graph_changes.GraphGrowth.{added_node_is_object, other_nodes_stay_by_add}
use Rattle.heap_model.proofs.graph_changes.GraphSeats.{nodes_stay_with_seat}
use Rattle.core_rule.proofs.graph.Numbering.{same_id_test_decides}
use Rattle.core_rule.proofs.growth.EntryGrowth.{HasCell, grows_by_entry, set_finds_its_cell, swap_finds_its_cell}
use Rattle.core_rule.proofs.growth.Growing.{GrowsFrom}
use Rattle.core_rule.proofs.growth.LaterGraphs.{made_stays_after_entry}

-- no object is new but one, which has so many spine words
pub record MakesOne (g now : Graph) (words : ℕ) : Type 0 where
  pub new : Id
  pub others : (id : Id) → IsMade now id → IsMade g id ⊎ ((id ≡ new) × (spine_words_at now id ≡ words))

-- where each object is as it was none is new
makes_none : (g now : Graph) (words : ℕ) → ((id : Id) → node now id ≡ node g id) → MakesOne g now words
makes_none g now words same = record { new = Board; others = λ id made. inl (subst (λ (o : Option Node). IsSome o) (same id) made) }

module _ (g : Graph) (number : ℕ) (present : (graph_seat g number).left ≡ false) where
  -- a seat that makes an object makes that one
  makes_added : (d cells : ℕ) (array : Bool) (words : ℕ) → spine_words_of (fresh array cells) ≡ words → MakesOne g (add g number d (fresh array cells)) words
  makes_added d cells array words has = record {
    new = Made number (length (graph_seat g number).objects);
    others = λ id made. elim (same_id_test_decides id (Made number (length (graph_seat g number).objects))) [
      | inl same ↦ inr (same.1, ap (λ (o : Option Node). option_map_or spine_words_of o 0) (ap (node (add g number d (fresh array cells))) same.1 ∙ added_node_is_object g number d (fresh array cells) present) ∙ has)
      | inr apart ↦ inl (subst (λ (o : Option Node). IsSome o) (other_nodes_stay_by_add g number d (fresh array cells) present id apart.1) made)
    ];
  }

  -- one whose registers change makes none
  makes_seat : (p : GraphSeat) (words : ℕ) → p.objects ≡ (graph_seat g number).objects → MakesOne g (with_graph_seat g number p) words
  makes_seat p words objects = makes_none g (with_graph_seat g number p) words (nodes_stay_with_seat g number p present objects)

  -- nor does a set
  makes_set : (r i v words : ℕ) → ((cell : Cell) × HasCell g (register_value g number r) i cell) → MakesOne g (set_cell g number r i v) words
  makes_set r i v words found =
      let cell : Cell = record { value = register_value g number v; stamp = set_stamp number ((graph_seat g number).sets + 1) } in
      let there = write_sets_cell g number found.1.id i cell found.1.object present found.1.there in
      subst (λ value. MakesOne g (write (count_set g number) value i cell) words) (sym found.1.refers) record {
        new = Board;
        others = λ id made. elim (same_id_test_decides id found.1.id) [
          | inl same ↦ inl (subst (λ (o : Option Node). IsSome o) (sym (ap (node g) same.1 ∙ found.1.there)) refl)
          | inr apart ↦ inl (subst (λ (o : Option Node). IsSome o) (there.rest id apart.1) made)
        ];
      }

  makes_said : (command : Command) (reply : Reply) → Says g number command reply → MakesOne g (after_reply g number command reply) (words_by command reply)
  makes_said (commands.New d fields) (replies.Made id) says = makes_added d fields false 0 refl
  makes_said (commands.Array d cells) (replies.Made id) says = makes_added d cells true (array_words cells) (ap array_words (length-replicate cells unset))
  makes_said (commands.Get d r i) (replies.Got value stamp) says = makes_seat _ _ refl
  makes_said (commands.Set r i v) (replies.Was stamp) says = makes_set r i v 0 (set_finds_its_cell g number present r i v stamp says)
  makes_said (commands.Cas r i a v) (replies.Was stamp) says = makes_set r i v 0 (swap_finds_its_cell g number present r i a v stamp says)
  makes_said (commands.Num d n) reply says = makes_seat _ _ refl
  makes_said (commands.Nil d) reply says = makes_seat _ _ refl
  makes_said (commands.Copy d r) reply says = makes_seat _ _ refl
  makes_said commands.Leave reply says = makes_seat _ _ refl
  makes_said command reply says = makes_none g _ _ (λ id. refl)

-- so an entry makes one at most
pub entry_makes_one : (g : Graph) (entry : Entry) → Accepts g entry → MakesOne g (after_entry g entry) (effect_of entry).words
entry_makes_one g (entries.Said number command reply) accepts = makes_said g number accepts.0 command reply accepts.2
entry_makes_one g entry accepts = makes_none g _ _ (λ id. refl)

-- an object keeps its words as a graph grows
words_stay : (g now : Graph) → GrowsFrom g now → (id : Id) → IsMade g id → spine_words_at now id ≡ spine_words_at g id
words_stay g now grows id made = by (node g id) refl made
  where
    by : (o : Option Node) → node g id ≡ o → IsSome o → spine_words_at now id ≡ spine_words_at g id
    by None is none = cc none
    by (Some object) is some =
        let same = grows.objects id object is in
        ap (λ (o : Option Node). option_map_or spine_words_of o 0) same.there ∙ cc (same.kind, same.cells) ∙ sym (ap (λ (o : Option Node). option_map_or spine_words_of o 0) is)

-- and after a history
pub spine_words_stay_after_history : (g : Graph) (history : List Entry) → AcceptsAll g history → (id : Id) → IsMade g id → spine_words_at (graph_after g history) id ≡ spine_words_at g id
spine_words_stay_after_history g [] accepts id made = refl
spine_words_stay_after_history g (entry ∷ history) accepts id made =
    spine_words_stay_after_history (after_entry g entry) history accepts.1 id (made_stays_after_entry g entry accepts.0 id made) ∙ words_stay g (after_entry g entry) (grows_by_entry g entry accepts.0) id made
