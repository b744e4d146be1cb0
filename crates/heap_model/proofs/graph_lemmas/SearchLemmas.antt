-- How a search goes on, and what it has found at its end.
use Rattle.std.proofs.Common.{◌≡◌, ◌<◌, inl, inr, false, List, [], ◌∷◌, ◌++◌, length, slice_get, Option, Some, None, is_some, IsSome, IfSome, IsSomeAnd, All, Any, Contains, sym, ap, ◌∙◌, subst, arith, length-append}
use Rattle.std.proofs.lemmas.Bool.{cases_lt}
use Rattle.std.proofs.lemmas.List.{get_or_past}
use Rattle.std.proofs.lemmas.List.Elements.{All-weaker, Contains-append_left, Contains-push, Contains-push_cases}
use Rattle.std.proofs.lemmas.Option.{IfSome_then}
use Rattle.heap_model.specs.declared.id.Id.{Id}
use Rattle.heap_model.specs.declared.id.Id.TheVariants.{Board, Made}
use Rattle.heap_model.specs.declared.id.Value.{Value}
use Rattle.heap_model.specs.declared.id.Value.TheVariants.{Nil, Number, Object}
use Rattle.heap_model.specs.graph.Objects.{node, absent_graph_seat, made_counts}
use Rattle.heap_model.specs.graph.Graph.{Graph, Node, GraphSeat}
use Rattle.heap_model.specs.graph.Reach.{IsRoot, IsRegistered, PointsTo, Points, Reaches, from_register, from_cell, IsBefore, IsReach}
use Rattle.heap_model.specs.graph.Search.{Search, GoesOn, FoundFromSeat, FoundFromObject, IsSearch}
use Rattle.heap_model.specs.graph.Marking.{Marking, mark_of, with_mark, HasMark, IsFound, HasMarks, IsListed, no_marks}
use Rattle.heap_model.proofs.graph_lemmas.Heads.{contains_cases, contains_head, contains_tail}
use Rattle.heap_model.proofs.graph_lemmas.MarkLemmas.{with_mark-here, with_mark-other, unmarked-with_mark, mark_counts-with_mark, mark_counts-no_marks, equal_counts_same_marks, mark_stands_where_node, IsMarked-no_marks}

pub GoesOn-trans : {P : Id → Type 0} {a b c : Search} → GoesOn P a b → GoesOn P b c → GoesOn P a c
GoesOn-trans {P} {a} {b} {c} first then = record {
  marked_stay = λ id marked. then.marked_stay id (first.marked_stay id marked);
  marks_stay = then.marks_stay ∙ first.marks_stay;
  waiting_stay = λ id waits. then.waiting_stay id (first.waiting_stay id waits);
  marked_more = λ id marked. elim (then.marked_more id marked) [
    | inl before ↦ elim (first.marked_more id before) [ inl old ↦ inl old | inr new ↦ inr (then.waiting_stay id new.0, new.1) ]
    | inr new ↦ inr new
  ];
  waiting_more = λ id waits. elim (then.waiting_more id waits) [
    | inl before ↦ elim (first.waiting_more id before) [ inl old ↦ inl old | inr marked ↦ inr (then.marked_stay id marked) ]
    | inr marked ↦ inr marked
  ];
  work_stays = then.work_stays ∙ first.work_stays;
}

pub GoesOn-weaker : {P Q : Id → Type 0} {a b : Search} → ((id : Id) → P id → Q id) → GoesOn P a b → GoesOn Q a b
GoesOn-weaker weaker on = record {
  marked_stay = on.marked_stay;
  marks_stay = on.marks_stay;
  waiting_stay = on.waiting_stay;
  marked_more = λ id marked. elim (on.marked_more id marked) [ inl old ↦ inl old | inr new ↦ inr (new.0, weaker id new.1) ];
  waiting_more = on.waiting_more;
  work_stays = on.work_stays;
}

-- the object of an id was marked, and waits
abbrev pub noted : Search → Id → Search
noted walk id = record { marks = with_mark walk.marks id; waiting = walk.waiting ++ id ∷ [] }

pub GoesOn-noted : (walk : Search) (id : Id) → mark_of walk.marks id ≡ Some false → GoesOn (λ x. id ≡ x) walk (noted walk id)
GoesOn-noted walk id fresh = record {
  marked_stay = λ x marked. elim (with_mark-other walk.marks id x fresh) [
    | inl stays ↦ stays ∙ marked
    | inr here ↦ subst (λ y. HasMark (with_mark walk.marks id) y) here (with_mark-here walk.marks id fresh)
  ];
  marks_stay = mark_counts-with_mark walk.marks id;
  waiting_stay = λ x waits. Contains-append_left walk.waiting (id ∷ []) x waits;
  marked_more = λ x marked. elim (with_mark-other walk.marks id x fresh) [
    | inl stays ↦ inl (sym stays ∙ marked)
    | inr here ↦ inr (subst (λ y. Contains (walk.waiting ++ id ∷ []) y) here (Contains-push walk.waiting id), here)
  ];
  waiting_more = λ x waits. elim (Contains-push_cases walk.waiting id x waits) [
    | inl old ↦ inl old
    | inr here ↦ inr (subst (λ y. HasMark (with_mark walk.marks id) y) here (with_mark-here walk.marks id fresh))
  ];
  work_stays = omega (arith, length-append walk.waiting (id ∷ []), unmarked-with_mark walk.marks id fresh);
}

-- what a value refers to was marked, and waits
pub GoesOn-note : {old new : Search} {value : Value} (id : Id) → value ≡ Object id → mark_of old.marks id ≡ Some false → new ≡ noted old id → GoesOn (λ x. value ≡ Object x) old new
GoesOn-note {old} {new} {value} id is fresh noting =
    subst (GoesOn (λ x. value ≡ Object x) old) (sym noting) (GoesOn-weaker (λ x here. is ∙ ap Object here) (GoesOn-noted old id fresh))

pub IsFound-note : (m : Marking) {new : Marking} {value : Value} (id : Id) → value ≡ Object id → mark_of m id ≡ Some false → new ≡ with_mark m id → IsFound new value
IsFound-note m {new} {value} id is fresh noting =
    subst (λ x. IsFound x value) (sym noting) (subst (IsFound (with_mark m id)) (sym is) (λ there. with_mark-here m id fresh))

-- what was found stays found
pub IsFound-stays : {P : Id → Type 0} {a b : Search} → GoesOn P a b → (value : Value) → IsFound a.marks value → IsFound b.marks value
IsFound-stays on Nil found = tt
IsFound-stays on (Number n) found = tt
IsFound-stays {P} {a} {b} on (Object id) found = λ there. on.marked_stay id (found (sym (equal_counts_same_marks a.marks b.marks on.marks_stay id) ∙ there))

pub FoundFromSeat-stays : {P : Id → Type 0} {a b : Search} → GoesOn P a b → (seat : GraphSeat) → FoundFromSeat a.marks seat → FoundFromSeat b.marks seat
FoundFromSeat-stays {P} {a} {b} on seat found = All-weaker (λ register. IsFound a.marks register.value) (λ register. IsFound b.marks register.value) (λ register. IsFound-stays on register.value) seat.registers found

pub FoundFromObject-stays : {P : Id → Type 0} {a b : Search} → GoesOn P a b → (object : Node) → FoundFromObject a.marks object → FoundFromObject b.marks object
FoundFromObject-stays {P} {a} {b} on object found =
    All-weaker (λ cell. IsFound a.marks cell.value) (λ cell. IsFound b.marks cell.value) (λ cell. IsFound-stays on cell.value) object.cells found

-- an object whose mark is there was made
made_of_marked : (g : Graph) (m : Marking) (id : Id) → HasMarks g m → HasMark m id → IsSome (node g id)
made_of_marked g m id objects marked = sym (mark_stands_where_node g m objects id) ∙ ap is_some marked

-- a search that went on from the seats alone
pub IsSearch-start : (g : Graph) (walk : Search) → GoesOn (IsRoot g) (record { marks = no_marks (made_counts g); waiting = [] }) walk → All (FoundFromSeat walk.marks) g.seats → IsSearch g walk
IsSearch-start g walk on found =
    let objects : HasMarks g walk.marks = on.marks_stay ∙ mark_counts-no_marks (made_counts g) in
    record {
      objects = objects;
      reached = λ id marked. elim (on.marked_more id marked) [
        | inl old ↦ absurd (IsMarked-no_marks (made_counts g) id old)
        | inr new ↦ from_register id (made_of_marked g walk.marks id objects marked) new.1
      ];
      waiting = λ id waits. elim (on.waiting_more id waits) [ inl old ↦ absurd (omega (arith, old.1)) | inr marked ↦ marked ];
      from_seats = found;
      from_objects = λ id marked. elim (on.marked_more id marked) [
        | inl old ↦ absurd (IsMarked-no_marks (made_counts g) id old)
        | inr new ↦ inl new.0
      ];
    }

-- a search from which an object was taken whose cells were then looked at
pub IsSearch-step : (g : Graph) (walk : Search) (id : Id) (new : Search) → IsSearch g (record walk { waiting = id ∷ walk.waiting }) → GoesOn (Points g id) walk new → IfSome (node g id) (FoundFromObject new.marks) → IsSearch g new
IsSearch-step g walk id new is on found =
    let objects : HasMarks g new.marks = on.marks_stay ∙ is.objects in
    record {
      objects = objects;
      reached = λ x marked. elim (on.marked_more x marked) [
        | inl old ↦ is.reached x old
        | inr more ↦ from_cell x (made_of_marked g new.marks x objects marked) id (is.reached id (is.waiting id (contains_head id walk.waiting))) more.1
      ];
      waiting = λ x waits. elim (on.waiting_more x waits) [
        | inl old ↦ on.marked_stay x (is.waiting x (contains_tail id walk.waiting x old))
        | inr marked ↦ marked
      ];
      from_seats = All-weaker (FoundFromSeat walk.marks) (FoundFromSeat new.marks) (FoundFromSeat-stays on) g.seats is.from_seats;
      from_objects = λ x marked. elim (on.marked_more x marked) [
        | inl old ↦ elim (is.from_objects x old) [
          | inl waits ↦ elim (contains_cases id walk.waiting x waits) [
            | inl here ↦ inr (subst (λ y. IfSome (node g y) (FoundFromObject new.marks)) here found)
            | inr still ↦ inl (on.waiting_stay x still)
          ]
          | inr all ↦ inr (IfSome_then (node g x) all (FoundFromObject-stays on))
        ]
        | inr more ↦ inl more.0
      ];
    }

-- where all elements have one property and some has another, some has both
Any-All : {A : Type 0} (P Q : A → Type 0) (xs : List A) → Any P xs → All Q xs → (x : A) × P x × Q x
Any-All P Q xs any all = (any.1, any.4, subst Q any.3 (all any.0 any.1 any.2))

found_object : (m : Marking) (value : Value) (id : Id) → value ≡ Object id → IsFound m value → IsSome (mark_of m id) → HasMark m id
found_object m value id is found = subst (IsFound m) is found

-- at the end of a search each reached object is marked
pub IsMarked-reached : (g : Graph) (walk : Search) → IsSearch g walk → walk.waiting ≡ [] → (id : Id) → Reaches g id → HasMark walk.marks id
IsMarked-reached g walk is none _ (from_register id made root) =
    let seat = Any-All (λ seat. IsRegistered seat id) (FoundFromSeat walk.marks) g.seats root is.from_seats in
    let held = Any-All (λ register. register.value ≡ Object id) (λ register. IsFound walk.marks register.value) seat.0.registers seat.1 seat.2 in
    found_object walk.marks held.0.value id held.1 held.2 (mark_stands_where_node g walk.marks is.objects id ∙ made)
IsMarked-reached g walk is none _ (from_cell id made holder reached points) =
    let marked = IsMarked-reached g walk is none holder reached in
    elim (is.from_objects holder marked) [
      | inl waits ↦ absurd (omega (arith, subst (λ xs. waits.0 < length xs) none waits.1))
      | inr all ↦ pointed_at (node g holder) points all
    ]
  where
    pointed_at : (object : Option Node) → IsSomeAnd object (λ o. PointsTo o id) → IfSome object (FoundFromObject walk.marks) → HasMark walk.marks id
    pointed_at None some all = absurd some
    pointed_at (Some object) some all =
        let cell = Any-All (λ cell. cell.value ≡ Object id) (λ cell. IsFound walk.marks cell.value) object.cells some all in
        found_object walk.marks cell.0.value id cell.1 cell.2 (mark_stands_where_node g walk.marks is.objects id ∙ made)

-- a made object is before all those of a seat past the last
before_end : (g : Graph) (id : Id) → IsSome (node g id) → IsBefore id (Made (length g.seats) 0)
before_end g Board made = tt
before_end g (Made number count) made = elim (cases_lt number (length g.seats)) [
  | inl within ↦ inl within
  | inr past ↦ absurd (subst (λ seat. IsSome (slice_get seat.objects count) → ⊥) (sym (get_or_past g.seats number absent_graph_seat past)) (λ h. cc) made)
]

-- the marked objects in their order are the reached ones
pub IsReach-listed : (g : Graph) (walk : Search) (ids : List Id) → IsSearch g walk → walk.waiting ≡ [] → IsListed walk.marks (Made (length g.seats) 0) ids → IsReach g ids
IsReach-listed g walk ids is none listed = record {
  ordered = listed.ordered;
  reached = λ id. (
    (λ held. is.reached id (listed.marked id held).0),
    (λ reaches. let marked = IsMarked-reached g walk is none id reaches in
        listed.whole id marked (before_end g id (made_of_marked g walk.marks id is.objects marked))),
  );
}
