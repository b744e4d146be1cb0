-- The graph when the registers of one seat change, or when it leaves: the objects stay, and the other seats.
use Rattle.std.proofs.Common.{◌≡◌, ◌≢◌, ℕ, false, inl, inr, List, length, slice_get, refl, sym, ap, ◌∙◌, subst}
use Rattle.std.proofs.lemmas.Bool.{cases_eq}
use Rattle.std.proofs.lemmas.List.{get_or-set_same, get_or-set_other}
use Rattle.heap_model.specs.graph.Graph.{GraphSeat, Graph, Node}
use Rattle.heap_model.proofs.graph_changes.GraphGrowth.{present_seat_within_graph}
use Rattle.heap_model.proofs.graph_changes.Shapes.{SameNodes, same_nodes_of_equal}
use Rattle.heap_model.specs.declared.id.Id.{Id}
use Rattle.heap_model.specs.declared.id.Id.TheVariants.{Board, Made}
use Rattle.heap_model.specs.graph.Changes.{with_graph_seat}
use Rattle.heap_model.specs.graph.Objects.{graph_seat, node, absent_graph_seat}

-- each object is as before, and each other seat
pub record SeatChanges (g now : Graph) (number : ℕ) : Type 0 where
  pub nodes : SameNodes g now
  pub others : (r : ℕ) → r ≢ number → graph_seat now r ≡ graph_seat g r
  pub objects : length (graph_seat now number).objects ≡ length (graph_seat g number).objects
  pub sets : (graph_seat now number).sets ≡ (graph_seat g number).sets

-- nothing changes
pub seat_changes_of_itself : (g : Graph) (number : ℕ) → SeatChanges g g number
seat_changes_of_itself g number = record { nodes = same_nodes_of_equal g g refl; others = λ r apart. refl; objects = refl; sets = refl }

module _ (g : Graph) (number : ℕ) (p : GraphSeat) (present : (graph_seat g number).left ≡ false) where
  -- the seat is another then
  pub party_with_seat_is_new : graph_seat (with_graph_seat g number p) number ≡ p
  party_with_seat_is_new = get_or-set_same g.seats number p absent_graph_seat (present_seat_within_graph g number present)

  pub other_party_stays : (r : ℕ) → r ≢ number → graph_seat (with_graph_seat g number p) r ≡ graph_seat g r
  other_party_stays r apart = get_or-set_other g.seats number r p absent_graph_seat apart

  module _ (objects : p.objects ≡ (graph_seat g number).objects) where
    -- its objects are the same, and so all are
    pub nodes_stay_with_seat : (id : Id) → node (with_graph_seat g number p) id ≡ node g id
    nodes_stay_with_seat Board = refl
    nodes_stay_with_seat (Made s n) = elim (cases_eq s number) [
      | inl e ↦ subst (λ t. node (with_graph_seat g number p) (Made t n) ≡ node g (Made t n)) (sym e) (ap (λ (x : GraphSeat). slice_get x.objects n) party_with_seat_is_new ∙ ap (λ (xs : List Node). slice_get xs n) objects)
      | inr apart ↦ ap (λ (x : GraphSeat). slice_get x.objects n) (other_party_stays s apart)
    ]

    pub seat_changes_with_seat : p.sets ≡ (graph_seat g number).sets → SeatChanges g (with_graph_seat g number p) number
    seat_changes_with_seat sets = record {
      nodes = record { nodes = nodes_stay_with_seat };
      others = other_party_stays;
      objects = ap (λ (x : GraphSeat). length x.objects) party_with_seat_is_new ∙ ap (λ (xs : List Node). length xs) objects;
      sets = ap (λ (x : GraphSeat). x.sets) party_with_seat_is_new ∙ sets;
    }
