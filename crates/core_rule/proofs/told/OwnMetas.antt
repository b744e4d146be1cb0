-- The meta of an object that a seat's own graph has is that object's.
use Rattle.std.specs.Prelude.{IfSome, if◌then◌else◌, option_map}
use Rattle.std.proofs.Common.{◌≡◌, ℕ, ◌<◌, List, length, Option, Some, None, slice_get, filter, map, refl, sym, ap, ◌∙◌, subst, inl, inr}
use Rattle.std.proofs.lemmas.Bool.{cases_eq}
use Rattle.std.proofs.lemmas.Option.{slice_get-map}
use Rattle.core_rule.proofs.Terms.{graph_of, is_of, Entry, Heap, Id, Board, Made, Value, Graph, Node, graph_seat, node, register_value, target_node, Word, State, seat_at}
use Rattle.core_rule.proofs.Terms.{target_of, register_in, register_head, Register, Seat, at, Book, fragment_at, object_number, object_head, IsKept, NamesKept, node_in, node_at}
use Rattle.core_rule.proofs.Terms.{HoldsValue, IsAwaited, Rule}
use Rattle.heap_model.specs.calls.SeatState.{own_object, held_value}
use Rattle.heap_model.specs.declared.id.Value.TheVariants as values
use Rattle.core_machine.specs.declared.seat.register.Register.TheVariants.{Nil, Number, Object}
use Rattle.core_rule.specs.told.Found.{IsMetaOf, TellsMeta}
use Rattle.heap_model.specs.graph.OwnGraphs.{Shape, shape_of, IsSeatsSubgraph}
use Rattle.core_rule.proofs.graph.Numbering.{id_at_own_number}
use Rattle.core_rule.proofs.graph.SameValues.{held_value_is_value as value_held}
use Rattle.core_rule.specs.told.Told.{own_state}
use Rattle.core_rule.proofs.told.AsTold.{own_entries_make_seats_subgraph, seat_is_as_told}
use Rattle.core_rule.proofs.ways.KeptWords.{meta_tells_length, meta_tells_array_length}
use Rattle.core_rule.proofs.graph.ToldGraph.{told_graph}

-- an object that one list of objects has is one of that shape in each that is alike
shape_in : (o : Option Node) (object : Node) → option_map shape_of o ≡ Some (shape_of object) → shape_of (node_in o) ≡ shape_of object
shape_in None object is = absurd (cc is)
shape_in (Some other) object is = cc is

shape_found : (xs ys : List Node) (k : ℕ) (object : Node) → map shape_of xs ≡ map shape_of ys → slice_get xs k ≡ Some object → shape_of (node_in (slice_get ys k)) ≡ shape_of object
shape_found xs ys k object same there =
    shape_in (slice_get ys k) object
    (sym (slice_get-map shape_of ys k) ∙ ap (λ (l : List Shape). slice_get l k) (sym same) ∙ slice_get-map shape_of xs k ∙ ap (option_map shape_of) there)

-- an object of the seat's own graph is one of that shape in the whole
own_shape : (number : ℕ) (own whole : Graph) → IsSeatsSubgraph number own whole → (id : Id) (object : Node) → node own id ≡ Some object → shape_of (node_in (node whole id)) ≡ shape_of object
own_shape number own whole subgraph Board object there = let same : own.board ≡ object = cc there in sym subgraph.agrees.board ∙ ap shape_of same
own_shape number own whole subgraph (Made maker count) object there = elim (cases_eq maker number) [
  | inl same ↦ subst (λ n. shape_of (node_in (slice_get (graph_seat whole n).objects count)) ≡ shape_of object) (sym same)
      (shape_found (graph_seat own number).objects (graph_seat whole number).objects count object subgraph.agrees.seat.objects (subst (λ n. slice_get (graph_seat own n).objects count ≡ Some object) same there))
  | inr other ↦
      let none : slice_get (graph_seat own maker).objects count ≡ None = ap (λ (l : List Node). slice_get l count) (subgraph.others maker other) in
      absurd (cc (none, there))
]

-- what is told of each object that there is
pub if_some_of_present : {A : Type 0} (P : A → Type 0) (o : Option A) → ((x : A) → o ≡ Some x → P x) → IfSome o P
if_some_of_present P None has = tt
if_some_of_present P (Some x) has = has x refl

module _ (heap : Heap) (state : State) (book : Book) (number : ℕ) (rule : Rule heap state book) (here : number < heap.seats) where
  abbrev seat : Seat
  seat = seat_at state number

  -- a kept object's meta tells its length, and whether it is an array
  meta_is : (index : ℕ) (object : Node) → index < length book.made → IsKept book.owner book.fragments index → shape_of (node_at (told_graph heap book) book.made index) ≡ shape_of object
      → IsMetaOf object (at heap state.words (Word (fragment_at (book.fragments index) 0) 0))
  meta_is index object below kept shape = record {
    length_is = meta_tells_length heap state.words (told_graph heap book) book.made book.owner book.fragments rule.machine.limits rule.heap_stands.control_words rule.heap_stands.ids rule.heap_stands.objects index below kept
        ∙ ap (λ (x : Shape). x.cells) shape;
    kind_is = meta_tells_array_length heap state.words (told_graph heap book) book.made book.owner book.fragments rule.machine.limits rule.heap_stands.control_words rule.heap_stands.ids rule.heap_stands.objects index below kept
        ∙ ap (λ (x : Shape). if x.array then Some x.cells else None) shape;
  }

  -- while no reply of its own is awaited, the object of an id by the seat's own graph has the meta
  module _ (told : seat.mine ≡ filter (is_of number) book.history) where
    subgraph : IsSeatsSubgraph number (graph_of heap seat.mine) (told_graph heap book)
    subgraph = subst (λ (l : List Entry). IsSeatsSubgraph number (graph_of heap l) (told_graph heap book)) (sym told) (own_entries_make_seats_subgraph heap book.history number)

    named_meta : (id : Id) → NamesKept book.made book.owner book.fragments (values.Object id)
        → IfSome (node (graph_of heap seat.mine) id) (λ object. IsMetaOf object (at heap state.words (Word (object_head book.made book.fragments id) 0)))
    named_meta id kept = if_some_of_present (λ object. IsMetaOf object (at heap state.words (Word (object_head book.made book.fragments id) 0))) (node (graph_of heap seat.mine) id)
        (λ object there. meta_is (object_number book.made id) object kept.0 kept.1
        (ap (λ x. shape_of (node_in (node (told_graph heap book) x))) (id_at_own_number book.made id kept.0) ∙ own_shape number (graph_of heap seat.mine) (told_graph heap book) subgraph id object there))

    -- of each register
    held_meta : (r fragment : ℕ) (held : Register) (value : Value) → HoldsValue book.made book.owner book.fragments held value → held_value (own_state heap number seat) r ≡ value
        → register_head held ≡ Some fragment → IfSome (own_object (own_state heap number seat) r) (λ object. IsMetaOf object (at heap state.words (Word fragment 0)))
    held_meta r fragment Nil value holds is begins = absurd (cc begins)
    held_meta r fragment (Number n) value holds is begins = absurd (cc begins)
    held_meta r fragment (Object head id) value holds is begins =
        let first : object_head book.made book.fragments id ≡ fragment = let same : head ≡ fragment = cc begins in sym holds.2 ∙ same in
        subst (λ v. IfSome (target_node (graph_of heap seat.mine) v) (λ object. IsMetaOf object (at heap state.words (Word fragment 0)))) (sym (is ∙ holds.0))
        (subst (λ f. IfSome (node (graph_of heap seat.mine) id) (λ object. IsMetaOf object (at heap state.words (Word f 0)))) first (named_meta id holds.1))

    pub tells_meta_of_word : ((d r : ℕ) → ¬ IsAwaited seat.point d r) → (fragment : ℕ) → TellsMeta heap number seat fragment (at heap state.words (Word fragment 0))
    tells_meta_of_word free fragment r begins =
        let none = free (target_of seat.command) r in
        let holds = (rule.seats_stand number here).names.registers r none in
        held_meta r fragment (register_in seat.registers r) (register_value (told_graph heap book) number r) holds
        (sym ((seat_is_as_told heap state book number rule here).registers r none) ∙ sym (value_held book.made book.owner book.fragments (register_in seat.registers r) (register_value (told_graph heap book) number r) holds)) begins
