-- What stands of a cycle is carried over a step that begins none.
use Rattle.std.specs.List.{list_any}
use Rattle.std.proofs.Common.{◌≡◌, ◌≢◌, ◌+◌, ◌%◌, false, List, ◌++◌, sym, ap, ◌∙◌, subst}
use Rattle.core_rule.proofs.Terms.{cycle_phases, Entry, Heap, Id, graph_of, bound, phase, total, up_to_cycle, begins_cycle, IsReach, State, Book}
use Rattle.heap_model.specs.PhasePlan.{rest as resting}
use Rattle.core_rule.specs.footprint.Footprint.{Footprint, CycleStands, is_inside}
use Rattle.core_rule.proofs.footprint.Bounds.{up_to_cycle_stays, bound_grows_by_taken}

pub cycle_stands_carried : (heap : Heap) (state new : State) (book now : Book) (added : List Entry) → now.history ≡ book.history ++ added → list_any begins_cycle added ≡ false
    → (phase now.history % cycle_phases ≢ resting → phase book.history % cycle_phases ≢ resting) → CycleStands heap state book
    → ((begun : List Id) → IsReach (graph_of heap (up_to_cycle book.history)) begun
    → Footprint heap state book begun (is_inside (graph_of heap (up_to_cycle book.history)) begun) (bound heap begun book.history)
    → Footprint heap new now begun (is_inside (graph_of heap (up_to_cycle book.history)) begun) (bound heap begun book.history + total (λ e. e.taken) added))
    → CycleStands heap new now
cycle_stands_carried heap state new book now added grown none runs stands goes running begun reach =
    let window : up_to_cycle now.history ≡ up_to_cycle book.history = ap up_to_cycle grown ∙ up_to_cycle_stays book.history added none in
    let most : bound heap begun now.history ≡ bound heap begun book.history + total (λ e. e.taken) added = ap (bound heap begun) grown ∙ bound_grows_by_taken heap begun book.history added none in
    let reached : IsReach (graph_of heap (up_to_cycle book.history)) begun = subst (λ h. IsReach (graph_of heap h) begun) window reach in
    let foot = goes begun reached (stands (runs running) begun reached) in
    subst (λ h. Footprint heap new now begun (is_inside (graph_of heap h) begun) (bound heap begun now.history)) (sym window)
    (subst (Footprint heap new now begun (is_inside (graph_of heap (up_to_cycle book.history)) begun)) (sym most) foot)
