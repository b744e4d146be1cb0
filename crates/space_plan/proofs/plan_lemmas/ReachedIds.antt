-- At most as many ids are reached as there are objects.
use Rattle.std.proofs.Common.{◌≡◌, ℕ, zero, suc, ◌+◌, ◌<◌, ◌≤◌, List, [], ◌∷◌, inl, inr, length, get_or, map, replicate, slice_get, is_some, AllPairs, Contains, refl, ap, ◌∙◌, arith}
use Rattle.std.specs.Prelude.{sum, IsSome}
use Rattle.std.proofs.Math.ListN.{get_or-map}
use Rattle.std.proofs.lemmas.Bool.{cases_lt}
use Rattle.std.proofs.lemmas.List.Elements.{Contains-get_or}
use Rattle.std.proofs.lemmas.List.Sums.{sum_by-cons}
use Rattle.std.proofs.lemmas.Option.{slice_get_past}
use Rattle.heap_model.specs.declared.heap.Heap.{Heap}
use Rattle.heap_model.specs.declared.id.Id.{Id}
use Rattle.heap_model.specs.declared.id.Id.TheVariants.{Board, Made}
use Rattle.heap_model.specs.graph.Graph.{GraphSeat, Graph, opening, opening_graph_seat}
use Rattle.heap_model.specs.graph.Objects.{absent_graph_seat, graph_seat, made_counts}
use Rattle.heap_model.specs.graph.Reach.{IsBefore, IsMade, IsReach, Reaches, from_register, from_cell}
use Rattle.heap_model.proofs.graph_lemmas.Heads.{contains_head, contains_tail, pairs_head, pairs_tail}

-- how many objects the seats before this one made
abbrev made_before : List ℕ → ℕ → ℕ
made_before [] number = 0
made_before (count ∷ counts) zero = 0
made_before (count ∷ counts) (suc number) = count + made_before counts number

-- the place of an id among all of them
abbrev place : List ℕ → Id → ℕ
place counts Board = 0
place counts (Made number count) = 1 + made_before counts number + count

made_before-rises : (counts : List ℕ) (number later : ℕ) → number < later → made_before counts number + get_or counts number 0 ≤ made_before counts later
made_before-rises [] number later lt = omega arith
made_before-rises (count ∷ counts) number zero lt = absurd (omega (arith, lt))
made_before-rises (count ∷ counts) zero (suc later) lt = omega arith
made_before-rises (count ∷ counts) (suc number) (suc later) lt = omega (arith, made_before-rises counts number later (omega (arith, lt)))

made_before-all : (counts : List ℕ) (number : ℕ) → made_before counts number + get_or counts number 0 ≤ sum counts
made_before-all [] number = omega arith
made_before-all (count ∷ counts) zero = omega (arith, sum_by-cons (λ (n : ℕ). n) count counts)
made_before-all (count ∷ counts) (suc number) = omega (arith, sum_by-cons (λ (n : ℕ). n) count counts, made_before-all counts number)

-- what is reached was made
reached_is_made : (g : Graph) (id : Id) → Reaches g id → IsMade g id
reached_is_made g _ (from_register id made root) = made
reached_is_made g _ (from_cell id made holder reaches points) = made

there : {A : Type 0} (xs : List A) (i : ℕ) → IsSome (slice_get xs i) → i < length xs
there xs i some = elim (cases_lt i (length xs)) [ inl within ↦ within | inr past ↦ absurd (cc (some, ap is_some (slice_get_past xs i past))) ]

-- a seat made more objects than the count of one of them
count_within : (g : Graph) (number count : ℕ) → IsMade g (Made number count) → count < get_or (made_counts g) number 0
count_within g number count made =
    omega (arith, there (graph_seat g number).objects count made, get_or-map (λ (seat : GraphSeat). length seat.objects) g.seats number absent_graph_seat)

place-within : (g : Graph) (id : Id) → IsMade g id → place (made_counts g) id < sum (made_counts g) + 1
place-within g Board made = omega arith
place-within g (Made number count) made = omega (arith, count_within g number count made, made_before-all (made_counts g) number)

place-rises : (g : Graph) (id later : Id) → IsMade g id → IsBefore id later → place (made_counts g) id < place (made_counts g) later
place-rises g Board Board made before = absurd before
place-rises g Board (Made t m) made before = omega arith
place-rises g (Made s n) Board made before = absurd before
place-rises g (Made s n) (Made t m) made (inl seat) = omega (arith, count_within g s n made, made_before-rises (made_counts g) s t seat)
place-rises g (Made s n) (Made t m) made (inr same) = omega (arith, ap (made_before (made_counts g)) same.0, same.1)

-- numbers that rise between two bounds are not many
rising_are_few : (f : Id → ℕ) (ids : List Id) (low most : ℕ) → AllPairs (λ id later. f id < f later) ids → ((id : Id) → Contains ids id → (low ≤ f id) × (f id < most)) → low ≤ most → low + length ids ≤ most
rising_are_few f [] low most rise within some = omega (arith, some)
rising_are_few f (id ∷ ids) low most rise within some =
    let here = within id (contains_head id ids) in
    let rest = rising_are_few f ids (f id + 1) most (pairs_tail (λ one later. f one < f later) id ids rise)
    (λ other held. (omega (arith, pairs_head (λ one later. f one < f later) id ids other rise held), (within other (contains_tail id ids other held)).1)) (omega (arith, here.1)) in
    omega (arith, here.0, rest)

-- so there are at most as many reached ids as objects
pub reach_is_short : (g : Graph) (ids : List Id) → IsReach g ids → length ids ≤ sum (made_counts g) + 1
reach_is_short g ids reach =
    let made : (id : Id) → Contains ids id → IsMade g id = λ id held. reached_is_made g id ((reach.reached id).0 held) in
    let few = rising_are_few (place (made_counts g)) ids 0 (sum (made_counts g) + 1)
    (λ i j d lt within. place-rises g (get_or ids i d) (get_or ids j d) (made (get_or ids i d) (Contains-get_or ids i d (omega (arith, lt, within)))) (reach.ordered i j d lt within))
    (λ id held. (omega arith, place-within g id (made id held))) (omega arith) in
    omega (arith, few)

none_made : (count : ℕ) → sum (map (λ (seat : GraphSeat). length seat.objects) (replicate count opening_graph_seat)) ≡ 0
none_made zero = refl
none_made (suc count) = sum_by-cons (λ (n : ℕ). n) 0 (map (λ (seat : GraphSeat). length seat.objects) (replicate count opening_graph_seat)) ∙ omega (arith, none_made count)

-- at the opening there is none
pub none_made_at_opening : (heap : Heap) → sum (made_counts (opening heap)) ≡ 0
none_made_at_opening heap = none_made heap.seats
