-- What stands of the heap and of another's seat when an entry is added that changes no object and nothing of what is in use, and no fragment's word changes.
use Rattle.std.proofs.Common.{◌≡◌, ℕ, ◌<◌, false, List, [], ◌∷◌, ◌++◌, length, refl, ◌∙◌, arith}
use Rattle.core_rule.proofs.Terms.{Entry, Heap, IsLegal, graph_of, effect_of, is_of, graph_seat, phase, last_answer, has_left, Graph, Control, Word, at, put, Seat, Book}
use Rattle.core_rule.proofs.Terms.{HeapInCycle, SeatInCycle, node_at, HeapStands, SeatStands}
use Rattle.heap_model.proofs.Histories.{total-more}
use Rattle.core_machine.specs.declared.table.address.Address.TheVariants.{Phase}
use Rattle.core_rule.proofs.words.Addresses.{at-put_apart}
use Rattle.core_rule.proofs.words.ControlLemmas.{bits_where_controls_same}
use Rattle.core_rule.proofs.objects.ObjectFrames.{objects_with_same_words}
use Rattle.core_rule.proofs.graph.SameNodes.{are_made_still, objects_with_same_nodes, same_shape_of_made}
use Rattle.heap_model.proofs.graph_changes.Shapes.{SameNodes}
use Rattle.core_rule.proofs.frames.SeatFrames.{with_entry, seat_stands_with_entry}
use Rattle.heap_model.proofs.graph_changes.SameParties.{same_party_of_same_graph}
use Rattle.core_rule.proofs.budgets.BudgetFrames.{SameGrants, SameTold}
use Rattle.core_rule.proofs.budgets.SameBooks.{same_grants_with_history}
use Rattle.core_rule.proofs.spines.OtherWords.{LeavesPlaces, leaves_places_of_spines, leaves_spines_of_itself, leaves_spines_after_phase}
use Rattle.core_rule.proofs.spines.SpineFrames.{same_kept_of_itself, spines_stand_at_same_places}

-- the control words and the fragments' words are as before
pub record SameFragments (heap : Heap) (words now : List ℕ) : Type 0 where
  pub controls : (group : ℕ) → group < heap.groups → at heap now (Control group) ≡ at heap words (Control group)
  pub parts : (f part : ℕ) → at heap now (Word f part) ≡ at heap words (Word f part)
  pub spines : LeavesPlaces heap words now

-- so they are where no word changes
pub same_fragments_of_itself : (heap : Heap) (words : List ℕ) → SameFragments heap words words
same_fragments_of_itself heap words = record { controls = λ group below. refl; parts = λ f part. refl; spines = leaves_places_of_spines heap words words (leaves_spines_of_itself heap words) }

-- and where the phase is written
pub same_fragments_after_phase : (heap : Heap) (words : List ℕ) (n : ℕ) → SameFragments heap words (put heap words Phase n)
same_fragments_after_phase heap words n = record {
  controls = λ group below. at-put_apart heap words Phase (Control group) n (λ e. omega (arith, e));
  parts = λ f part. at-put_apart heap words Phase (Word f part) n (λ e. omega (arith, e));
  spines = leaves_places_of_spines heap words (put heap words Phase n) (leaves_spines_after_phase heap words n);
}

-- the entry takes, gives and frees nothing
pub record UsesNothing (entry : Entry) : Type 0 where
  pub taken : (effect_of entry).taken ≡ 0
  pub given : (effect_of entry).given ≡ 0
  pub freed : (effect_of entry).freed ≡ 0

module _ (heap : Heap) (words now : List ℕ) (same : SameFragments heap words now) (book : Book) (entry : Entry)
    (nodes : SameNodes (graph_of heap book.history) (graph_of heap (book.history ++ entry ∷ []))) where
  abbrev later : Book
  later = with_entry book entry

  abbrev before : Graph
  before = graph_of heap book.history

  abbrev after : Graph
  after = graph_of heap later.history

  -- the heap stands
  pub heap_stands_after_entry : UsesNothing entry → IsLegal heap false later.history → HeapInCycle heap now (phase later.history) book.owner book.colour book.fragments
      → HeapStands heap words book → HeapStands heap now later
  heap_stands_after_entry uses legal cycle stands = record {
    control_words = bits_where_controls_same heap words now book.owner same.controls stands.control_words;
    owners = stands.owners;
    ids = are_made_still before after book.made nodes stands.ids;
    objects = objects_with_same_nodes before after book.made nodes book.owner book.fragments book.spines heap now
        (objects_with_same_words heap words now before book.made book.owner book.fragments book.spines (λ f i k part keeps within. same.parts f part) (λ i j below is within. same.spines.spines _ _) stands.objects);
    spines = spines_stand_at_same_places heap words now same.spines heap.seats (length book.made) book.spines book.fragments book.spine_owner (node_at before book.made) (node_at after book.made)
        book.owner book.owner (same_kept_of_itself book.owner) (same_shape_of_made before after book.made nodes) (λ f i k is. (is, same.parts f 0)) stands.spines;
    used = rw (total-more (λ e. e.given) book.history entry, total-more (λ e. e.freed) book.history entry, total-more (λ e. e.taken) book.history entry)
        (omega (arith, stands.used, uses.taken, uses.given, uses.freed));
    cycle = cycle;
    legal = legal;
  }

  -- a seat that it isn't of stands
  pub other_seat_stands_after_entry : (r : ℕ) (seat : Seat) → is_of r entry ≡ false → graph_seat after r ≡ graph_seat before r
      → SeatInCycle heap now (phase later.history) (last_answer r later.history) (has_left r later.history) book.owner book.colour r seat
      → SeatStands heap words book r seat → SeatStands heap now later r seat
  other_seat_stands_after_entry r seat other graph_seat cycle stands =
      seat_stands_with_entry heap words now book entry r seat other (same_party_of_same_graph before after r graph_seat)
      (same_shape_of_made before after book.made nodes) (λ u less. same.parts _ _ ∙ stands.own.stored u less) same.spines.spines cycle stands

  -- and as many spine words are granted
  pub same_grants_after_entry : SameTold book.history later.history → SameGrants heap book later
  same_grants_after_entry told = same_grants_with_history heap book later.history told (same_shape_of_made before after book.made nodes)
