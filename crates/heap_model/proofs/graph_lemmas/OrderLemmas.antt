-- Listing the marked objects in their order.
use Rattle.std.proofs.Common.{◌≡◌, ℕ, ◌+◌, ◌<◌, ◌≤◌, ◌⊎◌, inl, inr, true, false, List, [], ◌∷◌, ◌++◌, length, get_or, slice_get, is_some, Contains, refl, sym, ap, ◌∙◌, subst, arith}
use Rattle.std.proofs.lemmas.Bool.{cases_lt}
use Rattle.std.proofs.lemmas.List.Elements.{Contains-append_left, Contains-push, Contains-push_cases, Contains-get_or}
use Rattle.std.proofs.lemmas.List.Quantifiers.{all_pairs_push}
use Rattle.std.proofs.lemmas.Option.{slice_get_past}
use Rattle.heap_model.specs.declared.id.Id.{Id}
use Rattle.heap_model.specs.declared.id.Id.TheVariants.{Board, Made}
use Rattle.heap_model.specs.graph.Objects.{graph_seat}
use Rattle.heap_model.specs.graph.Graph.{Graph}
use Rattle.heap_model.specs.graph.Reach.{IsBefore}
use Rattle.heap_model.specs.graph.Marking.{Marking, HasMark, HasMarks, IsListed}
use Rattle.heap_model.proofs.graph_lemmas.MarkLemmas.{mark_stands_where_node}

-- the next position after this one, in its seat
abbrev pub next_position : Id → Id
next_position Board = Made 0 0
next_position (Made number count) = Made number (count + 1)

IsBefore-next : (id position : Id) → IsBefore id position → IsBefore id (next_position position)
IsBefore-next Board Board before = absurd before
IsBefore-next (Made number count) Board before = absurd before
IsBefore-next Board (Made t later) before = tt
IsBefore-next (Made number count) (Made t later) before = elim before [
  | inl seat ↦ inl seat
  | inr same ↦ inr (same.0, omega (arith, same.1))
]

IsBefore-here : (position : Id) → IsBefore position (next_position position)
IsBefore-here Board = tt
IsBefore-here (Made number count) = inr (refl, omega arith)

-- before the next position is what is before this one, and this one
IsBefore-cases : (id position : Id) → IsBefore id (next_position position) → IsBefore id position ⊎ (position ≡ id)
IsBefore-cases Board Board before = inr refl
IsBefore-cases (Made number count) Board before = elim before [ inl seat ↦ absurd (omega (arith, seat)) | inr same ↦ absurd (omega (arith, same.1)) ]
IsBefore-cases Board (Made t later) before = inl tt
IsBefore-cases (Made number count) (Made t later) before = elim before [
  | inl seat ↦ inl (inl seat)
  | inr same ↦ elim (cases_lt count later) [
    | inl below ↦ inl (inr (same.0, below))
    | inr above ↦ (let equal : later ≡ count = omega (arith, same.1, above) in
        inr (ap (λ x. Made x later) (sym same.0) ∙ ap (λ x. Made number x) equal))
  ]
]

-- a marked object is listed after those before it
pub IsListed-push : (m : Marking) (position : Id) (ids : List Id) → IsListed m position ids → HasMark m position → IsListed m (next_position position) (ids ++ position ∷ [])
IsListed-push m position ids listed here = record {
  ordered = all_pairs_push IsBefore ids position listed.ordered (λ k d within. (listed.marked (get_or ids k d) (Contains-get_or ids k d within)).1);
  marked = λ id held. elim (Contains-push_cases ids position id held) [
    | inl old ↦ ((listed.marked id old).0, IsBefore-next id position (listed.marked id old).1)
    | inr new ↦ subst (λ x. HasMark m x × IsBefore x (next_position position)) new (here, IsBefore-here position)
  ];
  whole = λ id marked before. elim (IsBefore-cases id position before) [
    | inl old ↦ Contains-append_left ids (position ∷ []) id (listed.whole id marked old)
    | inr new ↦ subst (λ x. Contains (ids ++ position ∷ []) x) new (Contains-push ids position)
  ];
}

-- an object that isn't marked is passed over
pub IsListed-skip : (m : Marking) (position : Id) (ids : List Id) → IsListed m position ids → (HasMark m position → ⊥) → IsListed m (next_position position) ids
IsListed-skip m position ids listed unmarked = record {
  ordered = listed.ordered;
  marked = λ id held. ((listed.marked id held).0, IsBefore-next id position (listed.marked id held).1);
  whole = λ id marked before. elim (IsBefore-cases id position before) [
    | inl old ↦ listed.whole id marked old
    | inr new ↦ absurd (unmarked (subst (HasMark m) (sym new) marked))
  ];
}

false-true : false ≡ true → ⊥
false-true h = cc

-- after the last object of a seat come those of the next
pub IsListed-seat : (g : Graph) (m : Marking) (number : ℕ) (ids : List Id) → HasMarks g m → IsListed m (Made number (length (graph_seat g number).objects)) ids → IsListed m (Made (number + 1) 0) ids
IsListed-seat g m number ids objects listed = record {
  ordered = listed.ordered;
  marked = λ id held. ((listed.marked id held).0, later id (listed.marked id held).1);
  whole = λ id marked before. listed.whole id marked (earlier id marked before);
}
  where
    end : ℕ
    end = length (graph_seat g number).objects

    later : (id : Id) → IsBefore id (Made number end) → IsBefore id (Made (number + 1) 0)
    later Board before = tt
    later (Made t count) before = elim before [ inl seat ↦ inl (omega (arith, seat)) | inr same ↦ inl (omega (arith, same.0)) ]

    not_above : (t count : ℕ) → IsBefore (Made t count) (Made (number + 1) 0) → number ≤ t → t ≡ number
    not_above t count before above = elim before [ inl seat ↦ omega (arith, seat, above) | inr same ↦ absurd (omega (arith, same.1)) ]

    within : (t count : ℕ) → t ≡ number → HasMark m (Made t count) → count < end
    within t count here marked = elim (cases_lt count end) [
      | inl inside ↦ inside
      | inr past ↦ absurd (false-true (ap is_some (sym (slice_get_past (graph_seat g number).objects count past)) ∙ subst (λ x. is_some (slice_get (graph_seat g x).objects count) ≡ true) here (sym (mark_stands_where_node g m objects (Made t count)) ∙ ap is_some marked)))
    ]

    earlier : (id : Id) → HasMark m id → IsBefore id (Made (number + 1) 0) → IsBefore id (Made number end)
    earlier Board marked before = tt
    earlier (Made t count) marked before = elim (cases_lt t number) [
      | inl below ↦ inl below
      | inr above ↦ (let here : t ≡ number = not_above t count before above in inr (here, within t count here marked))
    ]
