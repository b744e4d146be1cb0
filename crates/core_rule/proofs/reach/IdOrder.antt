-- Which ids are before a position in the order of the ids: before the next object's, the next seat's, and past the last.
use Rattle.std.proofs.Common.{◌≡◌, ℕ, suc, ◌<◌, ◌≤◌, ◌⊎◌, inl, inr, length, Option, IsSome, sym, ap, ◌∙◌, subst, arith}
use Rattle.std.proofs.lemmas.Bool.{cases_lt, false≢true}
use Rattle.std.proofs.lemmas.List.{get_or_past}
use Rattle.std.proofs.lemmas.Option.{slice_get_past}
use Rattle.core_rule.proofs.Terms.{Id, Board, Made, Graph, Node, graph_seat, absent_graph_seat, IsMade, IsBefore}
use Rattle.heap_model.specs.graph.Graph.{GraphSeat}

-- before the position after a seat's object is that object, and what is before it
pub before_next_or_same : (id : Id) (s c : ℕ) → IsBefore id (Made s (suc c)) → IsBefore id (Made s c) ⊎ (Made s c ≡ id)
before_next_or_same Board s c before = inl tt
before_next_or_same (Made t k) s c before = elim before [
  | inl seat ↦ inl (inl seat)
  | inr same ↦ elim (cases_lt k c) [
    | inl below ↦ inl (inr (same.0, below))
    | inr past ↦ let count : c ≡ k = omega (arith, same.1, past) in inr (ap (λ n. Made n c) (sym same.0) ∙ ap (Made t) count)
  ]
]

pub before_stays_at_next : (id : Id) (s c : ℕ) → IsBefore id (Made s c) → IsBefore id (Made s (suc c))
before_stays_at_next Board s c before = tt
before_stays_at_next (Made t k) s c before = elim before [ inl seat ↦ inl seat | inr same ↦ inr (same.0, omega (arith, same.1)) ]

-- what is before any object of a seat is before the next seat's
pub before_next_seat : (id : Id) (s c : ℕ) → IsBefore id (Made s c) → IsBefore id (Made (suc s) 0)
before_next_seat Board s c before = tt
before_next_seat (Made t k) s c before = elim before [ inl seat ↦ inl (omega (arith, seat)) | inr same ↦ inl (omega (arith, same.0)) ]

module _ (g : Graph) where
  -- and what was made and is before the next seat's is before the seat's end
  within_seat : (s c : ℕ) → IsMade g (Made s c) → c < length (graph_seat g s).objects
  within_seat s c made = elim (cases_lt c (length (graph_seat g s).objects)) [
    | inl below ↦ below
    | inr past ↦ absurd (false≢true (subst (λ (o : Option Node). IsSome o) (slice_get_past (graph_seat g s).objects c past) made))
  ]

  pub made_is_before_seat_end : (id : Id) (s : ℕ) → IsMade g id → IsBefore id (Made (suc s) 0) → IsBefore id (Made s (length (graph_seat g s).objects))
  made_is_before_seat_end Board s made before = tt
  made_is_before_seat_end (Made t c) s made before = elim (cases_lt t s) [
    | inl below ↦ inl below
    | inr past ↦ let here : t ≡ s = at_seat before past in inr (here, subst (λ n. c < length (graph_seat g n).objects) here (within_seat t c made))
  ]
    where
      at_seat : IsBefore (Made t c) (Made (suc s) 0) → s ≤ t → t ≡ s
      at_seat (inl seat) past = omega (arith, seat, past)
      at_seat (inr same) past = absurd (omega (arith, same.1))

  -- all that was made is before the end of all seats
  pub made_is_before_end : (id : Id) → IsMade g id → IsBefore id (Made (length g.seats) 0)
  made_is_before_end Board made = tt
  made_is_before_end (Made s c) made = elim (cases_lt s (length g.seats)) [
    | inl below ↦ inl below
    | inr past ↦ absurd (omega (arith, subst (λ (seat : GraphSeat). c < length seat.objects) (get_or_past g.seats s absent_graph_seat past) (within_seat s c made)))
  ]
