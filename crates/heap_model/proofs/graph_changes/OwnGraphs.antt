-- The graph of a seat's own entries has of the seat what the graph of all entries has.
use Rattle.std.proofs.Common.{◌≡◌, ◌≢◌, ℕ, ◌+◌, Bool, true, false, List, [], ◌∷◌, ◌++◌, length, get_or, set, filter, replicate, refl, sym, ap, ◌∙◌, subst, inl, inr, arith}
use Rattle.std.specs.Prelude.{map, cond, ◌==◌}
use Rattle.std.proofs.lemmas.Bool.{cases_lt}
use Rattle.std.proofs.lemmas.Bool.Decides.{eqb_tells}
use Rattle.std.proofs.lemmas.List.{get_or_past, length-map, map-append, get_or-replicate, length-replicate}
use Rattle.heap_model.specs.declared.command.Command.TheVariants as commands
use Rattle.heap_model.specs.declared.entry.Entry.TheVariants as entries
use Rattle.heap_model.specs.declared.id.Value.TheVariants.{Object}
use Rattle.heap_model.specs.declared.reply.Reply.TheVariants as replies
use Rattle.heap_model.specs.graph.Graph.{GraphSeat, unseen, Graph, Node, fresh, opening, opening_graph_seat, unset}
use Rattle.heap_model.specs.graph.OwnGraphs.{Shape, shape_of, AgreeOn, EachOwnGraphIsWithin}
use Rattle.heap_model.proofs.graph_changes.AgreeingGraphs.{agree_on_itself, agree_on_reversed, agree_on_composed, agree_on_same_seat_change, agree_on_with_other_seat, agree_on_after_write}
use Rattle.heap_model.specs.declared.graph.cell.Cell.{Cell}
use Rattle.heap_model.specs.graph.Objects.{register_cell, graph_seat, absent_graph_seat, register_value}
use Rattle.heap_model.specs.account.Effects.{is_of}
use Rattle.heap_model.specs.declared.command.Command.{Command}
use Rattle.heap_model.specs.declared.entry.Entry.{Entry}
use Rattle.heap_model.specs.declared.heap.Heap.{Heap}
use Rattle.heap_model.specs.declared.id.Id.TheVariants.{Made}
use Rattle.heap_model.specs.declared.reply.Reply.{Reply}
use Rattle.heap_model.specs.graph.Changes.{with_register, add, count_set, set_cell}
use Rattle.heap_model.specs.graph.Growth.{after_entry, after_reply, graph_after}

-- an entry of a seat is no other's
pub seat_is_not_other : (number r : ℕ) → r ≢ number → (number == r) ≡ false
seat_is_not_other number r apart = elim (eqb_tells number r) as (λ _. (number == r) ≡ false) [
  | inl same ↦ absurd (apart (sym same.1))
  | inr other ↦ other.0
]

module _ (number : ℕ) (one other : Graph) (agrees : AgreeOn number one other) where
  -- as many objects were made
  pub as_many_objects_made : length (graph_seat one number).objects ≡ length (graph_seat other number).objects
  as_many_objects_made = sym (length-map (graph_seat one number).objects shape_of) ∙ ap (λ (l : List Shape). length l) agrees.seat.objects ∙ length-map (graph_seat other number).objects shape_of

  -- the registers hold the same
  pub same_register_cells : (r : ℕ) → register_cell one number r ≡ register_cell other number r
  same_register_cells r = ap (λ (l : List Cell). get_or l r unset) agrees.seat.registers

  pub same_register_values : (r : ℕ) → register_value one number r ≡ register_value other number r
  same_register_values r = ap (λ (register : Cell). register.value) (same_register_cells r)

  agree_put : (d : ℕ) (cell : Cell) → AgreeOn number (with_register one number d cell) (with_register other number d cell)
  agree_put d cell = agree_on_same_seat_change number one other _ _ agrees record {
    registers = ap (λ (l : List Cell). set l d cell) agrees.seat.registers;
    objects = agrees.seat.objects;
    sets = agrees.seat.sets;
    left = agrees.seat.left;
  }

  agree_add : (d : ℕ) (object : Node) → AgreeOn number (add one number d object) (add other number d object)
  agree_add d object = agree_on_same_seat_change number one other _ _ agrees record {
    registers = ap (λ (l : List Cell). set l d (unseen (Object (Made number (length (graph_seat one number).objects))))) agrees.seat.registers
        ∙ ap (λ n. set (graph_seat other number).registers d (unseen (Object (Made number n)))) as_many_objects_made;
    objects = map-append shape_of (graph_seat one number).objects (object ∷ []) ∙ ap (λ (l : List Shape). l ++ shape_of object ∷ []) agrees.seat.objects ∙ sym (map-append shape_of (graph_seat other number).objects (object ∷ []));
    sets = agrees.seat.sets;
    left = agrees.seat.left;
  }

  agree_count : AgreeOn number (count_set one number) (count_set other number)
  agree_count = agree_on_same_seat_change number one other _ _ agrees
      record { registers = agrees.seat.registers; objects = agrees.seat.objects; sets = ap (λ n. n + 1) agrees.seat.sets; left = agrees.seat.left }

  agree_set : (r i v : ℕ) → AgreeOn number (set_cell one number r i v) (set_cell other number r i v)
  agree_set r i v =
      agree_on_composed number (set_cell one number r i v) (count_set one number) (set_cell other number r i v)
      (agree_on_reversed number (count_set one number) (set_cell one number r i v) (agree_on_after_write number (count_set one number) (register_value one number r) i _))
      (agree_on_composed number (count_set one number) (count_set other number) (set_cell other number r i v) agree_count
      (agree_on_after_write number (count_set other number) (register_value other number r) i _))

  -- a reply to the seat changes both alike
  agree_said : (command : Command) (reply : Reply) → AgreeOn number (after_reply one number command reply) (after_reply other number command reply)
  agree_said (commands.New d fields) (replies.Made id) = agree_add d (fresh false fields)
  agree_said (commands.Array d cells) (replies.Made id) = agree_add d (fresh true cells)
  agree_said (commands.Get d r i) (replies.Got value stamp) = agree_put d _
  agree_said (commands.Set r i v) (replies.Was stamp) = agree_set r i v
  agree_said (commands.Cas r i a v) (replies.Was stamp) = agree_set r i v
  agree_said (commands.Num d n) reply = agree_put d _
  agree_said (commands.Nil d) reply = agree_put d _
  agree_said (commands.Copy d r) reply =
      subst (λ register. AgreeOn number (with_register one number d (register_cell one number r)) (with_register other number d register)) (same_register_cells r) (agree_put d (register_cell one number r))
  agree_said commands.Leave reply = agree_on_same_seat_change number one other _ _ agrees record { registers = refl; objects = agrees.seat.objects; sets = agrees.seat.sets; left = refl }
  agree_said command reply = agrees

agree_on_other_set : (number other : ℕ) (g : Graph) (r i v : ℕ) → number ≢ other → AgreeOn number g (set_cell g other r i v)
agree_on_other_set number other g r i v apart =
    agree_on_composed number g (count_set g other) (set_cell g other r i v) (agree_on_with_other_seat number other g _ apart) (agree_on_after_write number (count_set g other) (register_value g other r) i _)

-- a reply to another seat changes nothing of this one
agree_others : (number other : ℕ) (g : Graph) (command : Command) (reply : Reply) → number ≢ other → AgreeOn number g (after_reply g other command reply)
agree_others number other g (commands.Cas r i a v) (replies.Was stamp) apart = agree_on_other_set number other g r i v apart
agree_others number other g (commands.New d fields) (replies.Made id) apart = agree_on_with_other_seat number other g _ apart
agree_others number other g (commands.Array d cells) (replies.Made id) apart = agree_on_with_other_seat number other g _ apart
agree_others number other g (commands.Get d r i) (replies.Got value stamp) apart = agree_on_with_other_seat number other g _ apart
agree_others number other g (commands.Set r i v) (replies.Was stamp) apart = agree_on_other_set number other g r i v apart
agree_others number other g (commands.Num d n) reply apart = agree_on_with_other_seat number other g _ apart
agree_others number other g (commands.Nil d) reply apart = agree_on_with_other_seat number other g _ apart
agree_others number other g (commands.Copy d r) reply apart = agree_on_with_other_seat number other g _ apart
agree_others number other g commands.Leave reply apart = agree_on_with_other_seat number other g _ apart
agree_others number other g command reply apart = agree_on_itself number g

-- an entry of the seat changes both alike, and another one nothing of the seat
same_number : (number other : ℕ) → (other == number) ≡ true → other ≡ number
same_number number other is = elim (eqb_tells other number) [ inl e ↦ e.1 | inr e ↦ absurd (cc (is, e.0)) ]

other_number : (number other : ℕ) → (other == number) ≡ false → number ≢ other
other_number number other is = elim (eqb_tells other number) as (λ _. number ≢ other) [ inl e ↦ absurd (cc (is, e.0)) | inr e ↦ λ same. e.1 (sym same) ]

agree_own : (number : ℕ) (one other : Graph) (entry : Entry) → is_of number entry ≡ true → AgreeOn number one other → AgreeOn number (after_entry one entry) (after_entry other entry)
agree_own number one other (entries.Said maker command reply) own agrees =
    subst (λ n. AgreeOn number (after_reply one n command reply) (after_reply other n command reply)) (sym (same_number number maker own)) (agree_said number one other agrees command reply)
agree_own number one other entry own agrees = agrees

agree_apart : (number : ℕ) (g : Graph) (entry : Entry) → is_of number entry ≡ false → AgreeOn number g (after_entry g entry)
agree_apart number g (entries.Said maker command reply) apart = agree_others number maker g command reply (other_number number maker apart)
agree_apart number g entry apart = agree_on_itself number g

-- so after every history
agree_after : (number : ℕ) (one other : Graph) (history : List Entry) → AgreeOn number one other → AgreeOn number (graph_after one (filter (is_of number) history)) (graph_after other history)
agree_after number one other [] agrees = agrees
agree_after number one other (entry ∷ history) agrees =
    by (is_of number entry) refl (agree_after number (after_entry one entry) (after_entry other entry) history) (agree_after number one (after_entry other entry) history)
  where
    by : (own : Bool) → is_of number entry ≡ own
        → (AgreeOn number (after_entry one entry) (after_entry other entry) → AgreeOn number (graph_after (after_entry one entry) (filter (is_of number) history)) (graph_after (after_entry other entry) history))
        → (AgreeOn number one (after_entry other entry) → AgreeOn number (graph_after one (filter (is_of number) history)) (graph_after (after_entry other entry) history))
        → AgreeOn number (graph_after one (cond own (entry ∷ filter (is_of number) history) (filter (is_of number) history))) (graph_after (after_entry other entry) history)
    by true own both past = both (agree_own number one other entry own agrees)
    by false apart both past = past (agree_on_composed number one other (after_entry other entry) agrees (agree_apart number other entry apart))

-- without objects a seat stays so while it is alike
none_alike : (xs ys : List Node) → map shape_of xs ≡ map shape_of ys → xs ≡ [] → ys ≡ []
none_alike xs [] same none = refl
none_alike xs (y ∷ ys) same none = let empty : map shape_of [] ≡ map shape_of (y ∷ ys) = ap (map shape_of) (sym none) ∙ same in absurd (cc empty)

-- an entry is of one seat at most
not_both : (number other : ℕ) (entry : Entry) → other ≢ number → is_of number entry ≡ true → is_of other entry ≡ false
not_both number other (entries.Said maker command reply) apart own = seat_is_not_other maker other (λ e. apart (e ∙ same_number number maker own))
not_both number other (entries.Takes maker count) apart own = seat_is_not_other maker other (λ e. apart (e ∙ same_number number maker own))
not_both number other (entries.GivesBack maker count) apart own = seat_is_not_other maker other (λ e. apart (e ∙ same_number number maker own))
not_both number other (entries.Answers maker phase) apart own = seat_is_not_other maker other (λ e. apart (e ∙ same_number number maker own))
not_both number other entry apart own = refl

none_after : (number other : ℕ) (g : Graph) (history : List Entry) → other ≢ number → (graph_seat g other).objects ≡ [] → (graph_seat (graph_after g (filter (is_of number) history)) other).objects ≡ []
none_after number other g [] apart none = none
none_after number other g (entry ∷ history) apart none =
    by (is_of number entry) refl (none_after number other (after_entry g entry) history apart) (none_after number other g history apart none)
  where
    by : (own : Bool) → is_of number entry ≡ own
        → ((graph_seat (after_entry g entry) other).objects ≡ [] → (graph_seat (graph_after (after_entry g entry) (filter (is_of number) history)) other).objects ≡ [])
        → (graph_seat (graph_after g (filter (is_of number) history)) other).objects ≡ []
        → (graph_seat (graph_after g (cond own (entry ∷ filter (is_of number) history) (filter (is_of number) history))) other).objects ≡ []
    by true own goes past =
        goes (none_alike (graph_seat g other).objects (graph_seat (after_entry g entry) other).objects (agree_apart other g entry (not_both number other entry apart own)).seat.objects none)
    by false others goes past = past

none_at_opening : (heap : Heap) (other : ℕ) → (graph_seat (opening heap) other).objects ≡ []
none_at_opening heap other = elim (cases_lt other heap.seats) [
  | inl there ↦ ap (λ (p : GraphSeat). p.objects) (get_or-replicate heap.seats other opening_graph_seat absent_graph_seat there)
  | inr past ↦ ap (λ (p : GraphSeat). p.objects) (get_or_past (replicate heap.seats opening_graph_seat) other absent_graph_seat (omega (arith, past, length-replicate heap.seats opening_graph_seat)))
]

pub each_own_graph_is_within : EachOwnGraphIsWithin
unfolding EachOwnGraphIsWithin
each_own_graph_is_within heap history number = record {
  agrees = agree_after number (opening heap) (opening heap) history (agree_on_itself number (opening heap));
  others = λ other apart. none_after number other (opening heap) history apart (none_at_opening heap other);
}
