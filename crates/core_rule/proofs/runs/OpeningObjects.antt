-- The board is the one object when a heap opens.
use Rattle.std.specs.Int.{bit_at}
use Rattle.std.proofs.Common.{◌≡◌, ◌^◌, ℕ, ◌*◌, ◌/◌, ◌%◌, ◌<◌, ◌≤◌, inl, inr, true, false, List, [], ◌∷◌, length, nat_lt, replicate, slice_get, Some, IsSome, refl, sym, ap, ◌∙◌, subst, arith}
use Rattle.std.proofs.lemmas.Bool.{cases_lt, lt-ltb, false≢true}
use Rattle.std.proofs.lemmas.Bool.Decides.{eqb_tells}
use Rattle.std.proofs.lemmas.List.{get_or_past, length-replicate}
use Rattle.std.proofs.lemmas.List.FromFn.{length-range_with_len}
use Rattle.std.proofs.lemmas.Nat.Bits.{bit_at-zero}
use Rattle.core_rule.proofs.Terms.{born_at, marked_at, scanned_at, taken_at, Heap, Id, Board, Made, absent_graph_seat, graph_seat, IsMade, opening, opening_graph_seat, fresh}
use Rattle.core_rule.proofs.Terms.{unset, Control, Word, at, InTable, no_spot, White, fragment_at, id_at, object_number, object_head, Marks, Bits, FitsName, AreMade, IsKept}
use Rattle.core_rule.proofs.Terms.{NamesKept, KeptObject, Objects, node_at, cells_at, Kept, taken_bit, born_bit}
use Rattle.heap_words.specs.declared.spot.Spot.{Spot}
use Rattle.heap_model.specs.Board.{board_fields, board_fragments}
use Rattle.heap_model.specs.Heap.{IsHeap}
use Rattle.heap_model.specs.Needs.{record_fragments}
use Rattle.heap_model.specs.declared.graph.cell.Cell.{Cell}
use Rattle.heap_model.specs.graph.Graph.{GraphSeat}
use Rattle.core_machine.specs.declared.table.address.Address.{Address}
use Rattle.core_machine.specs.machine.Opening.{board, board_name, opening_word}
use Rattle.heap_model.proofs.graph_changes.GraphRegisters.{opening_graph_has_opening_seats}
use Rattle.core_rule.proofs.objects.Newborn.{object_word_is_fresh}
use Rattle.core_rule.proofs.objects.ObjectsGrowth.{fresh_cell_is_unset}
use Rattle.core_rule.proofs.runs.OpeningOwners.{opening_owner, opening_owner_cases, beyond_board_is_free, board_fragment_is_number, opening_keeps_board, board_bit_is_taken_bit, board_bit_is_born_bit, board_bit_is_unmarked}

-- the board is all that was made
abbrev pub opening_made : List Id
opening_made = Board ∷ []

abbrev pub opening_fragments : Heap → ℕ → List ℕ
opening_fragments heap i = board heap

-- it has no spine
abbrev pub opening_spines : ℕ → Spot
opening_spines i = no_spot

-- no seat has made an object
nothing_made : (heap : Heap) (s : ℕ) → (graph_seat (opening heap) s).objects ≡ []
nothing_made heap s = elim (cases_lt s heap.seats) [
  | inl below ↦ ap (λ (p : GraphSeat). p.objects) (opening_graph_has_opening_seats heap s below)
  | inr past ↦ ap (λ (p : GraphSeat). p.objects) (get_or_past (replicate heap.seats opening_graph_seat) s absent_graph_seat (omega (arith, past, length-replicate heap.seats opening_graph_seat)))
]

pub only_board : (heap : Heap) (id : Id) → IsMade (opening heap) id → Board ≡ id
only_board heap Board is = refl
only_board heap (Made s n) is = absurd (false≢true (subst (λ objects. IsSome (slice_get objects n)) (nothing_made heap s) is))

-- its id is the graph's one
pub opening_are_made : (heap : Heap) → AreMade (opening heap) opening_made
opening_are_made heap = record {
  board = refl;
  in_graph = λ i below. let none : 0 ≡ i = omega arith in subst (λ x. IsMade (opening heap) (id_at opening_made x)) none refl;
  numbered = λ id is. subst (λ x. (object_number opening_made x < length opening_made) × (id_at opening_made (object_number opening_made x) ≡ x)) (only_board heap id is) (omega arith, refl);
  distinct = λ i below. let none : 0 ≡ i = omega arith in subst (λ x. object_number opening_made (id_at opening_made x) ≡ x) none refl;
  fit = λ i below. let none : 0 ≡ i = omega arith in subst (λ x. FitsName (id_at opening_made x)) none tt;
}

module _ (heap : Heap) (words : List ℕ) (limits : IsHeap heap) (open_words : (address : Address) → InTable heap address → at heap words address ≡ opening_word heap address) where
  group_taken : (f : ℕ) → f < 16 * heap.groups → bit_at (opening_word heap (Control (f / 16))) (taken_at f) ≡ taken_bit (opening_owner heap f)
  group_taken f within = elim (eqb_tells (f / 16) 0) as (λ _. bit_at (opening_word heap (Control (f / 16))) (taken_at f) ≡ taken_bit (opening_owner heap f)) [
    | inl first ↦ let position : f % 16 ≡ f = omega (arith, first.1) in rw (first.0, position) (board_bit_is_taken_bit heap f (omega (arith, first.1)))
    | inr later ↦ rw (later.0, beyond_board_is_free heap f (omega (arith, later.1, limits.board_fits))) (bit_at-zero (f % 16))
  ]

  group_born : (f : ℕ) → f < 16 * heap.groups → bit_at (opening_word heap (Control (f / 16))) (born_at f) ≡ born_bit (opening_owner heap f)
  group_born f within = elim (eqb_tells (f / 16) 0) as (λ _. bit_at (opening_word heap (Control (f / 16))) (born_at f) ≡ born_bit (opening_owner heap f)) [
    | inl first ↦ let position : f % 16 ≡ f = omega (arith, first.1) in rw (first.0, position) (board_bit_is_born_bit heap limits f)
    | inr later ↦ rw (later.0, beyond_board_is_free heap f (omega (arith, later.1, limits.board_fits))) (bit_at-zero (born_at f))
  ]

  -- the control words have the bits of the owners
  pub opening_bits : Bits heap words (opening_owner heap)
  opening_bits = record {
    taken = λ f within. rw (open_words (Control (f / 16)) (omega arith)) (group_taken f within);
    born = λ f within. rw (open_words (Control (f / 16)) (omega arith)) (group_born f within);
    outside = λ f past. beyond_board_is_free heap f (omega (arith, past, limits.some_group, limits.board_fits));
  }

  -- nothing is marked or scanned
  plain : (g i : ℕ) → 32 ≤ i → bit_at (opening_word heap (Control g)) i ≡ 0
  plain g i past = elim (eqb_tells g 0) as (λ _. bit_at (opening_word heap (Control g)) i ≡ 0) [
    | inl first ↦ rw first.0 (board_bit_is_unmarked heap limits i past)
    | inr later ↦ rw later.0 (bit_at-zero i)
  ]

  pub opening_marks : Marks heap words (λ f. White)
  opening_marks = record {
    marked = λ f within. rw (open_words (Control (f / 16)) (omega (arith, within))) (plain (f / 16) (marked_at f) (omega arith));
    scanned = λ f within. rw (open_words (Control (f / 16)) (omega (arith, within))) (plain (f / 16) (scanned_at f) (omega arith));
    outside = λ f past. refl;
  }

  on_board : (k : ℕ) → k < length (board heap) → k < board_fragments heap
  on_board k below = subst (λ n. k < n) (length-range_with_len 0 (board_fragments heap)) below

  board_kept : KeptObject heap words (opening_owner heap) (object_head opening_made (opening_fragments heap)) 0 Board (fresh false (board_fields heap)) (board heap) no_spot
  board_kept = record {
    sized = omega (arith, length-replicate (board_fields heap) unset, limits.some_board, limits.board_fits);
    whole = length-range_with_len 0 (board_fragments heap) ∙ ap record_fragments (sym (length-replicate (board_fields heap) unset));
    owned = λ k below. let here : k < board_fragments heap = on_board k below in rw (board_fragment_is_number heap k here) (opening_owner_cases heap (λ o. o ≡ Kept 0 k) k (λ less. refl) (λ past. absurd (omega (arith, here, past))));
    stored = λ k part below fits.
        let here : k < board_fragments heap = on_board k below in
        rw (board_fragment_is_number heap k here, open_words (Word k part) (omega (arith, here, limits.some_group, limits.board_fits), fits))
        (let newborn = object_word_is_fresh (object_head opening_made (opening_fragments heap)) board_name false (board_fields heap) no_spot (board heap) k part in
        let first : nat_lt k (board_fragments heap) ≡ true = lt-ltb k (board_fragments heap) here in rw first (sym newborn));
    listed = λ j none. absurd (omega (arith, none));
  }

  -- it has the words of a record that was never set
  pub opening_objects : Objects heap words (opening heap) opening_made (opening_owner heap) (opening_fragments heap) opening_spines
  opening_objects = record {
    kept = λ i below is. let none : 0 ≡ i = omega arith in
        subst (λ x. KeptObject heap words (opening_owner heap) (object_head opening_made (opening_fragments heap)) x (id_at opening_made x) (node_at (opening heap) opening_made x) (opening_fragments heap x) (opening_spines x)) none board_kept;
    named = λ i j below is cell there. let none : i ≡ 0 = omega arith in
        let blank : cell ≡ unset = fresh_cell_is_unset (board_fields heap) j cell (subst (λ x. slice_get (cells_at (opening heap) opening_made x) j ≡ Some cell) none there) in
        subst (λ (c : Cell). NamesKept opening_made (opening_owner heap) (opening_fragments heap) c.value × (c.stamp < 2 ^ 32)) (sym blank) (tt, omega arith);
    back = λ f i k. opening_owner_cases heap (λ o. o ≡ Kept i k → (i < length opening_made) × IsKept (opening_owner heap) (opening_fragments heap) i × (k < length (opening_fragments heap i)) × (f ≡ fragment_at (opening_fragments heap i) k)) f
        (λ below is. let object : 0 ≡ i = cc in let position : f ≡ k = cc in
        subst (λ x. (x < length opening_made) × IsKept (opening_owner heap) (opening_fragments heap) x × (k < length (opening_fragments heap x)) × (f ≡ fragment_at (opening_fragments heap x) k)) object
        (let here : k < board_fragments heap = omega (arith, position, below) in
        (omega arith, opening_keeps_board heap, subst (λ n. k < n) (sym (length-range_with_len 0 (board_fragments heap))) here, position ∙ sym (board_fragment_is_number heap k here))))
        (λ past is. absurd (cc));
    board = board_fragment_is_number heap 0 (omega arith);
  }
