-- One more register, cell or seat of which the values were noted.
use Rattle.std.proofs.Common.{◌≡◌, ℕ, ◌+◌, ◌<◌, ◌≤◌, List, length, get_or, take, All, Any, subst, take_all, ◌∙◌}
use Rattle.std.proofs.lemmas.List.Elements.{All-more, All-weaker, Contains-get_or}
use Rattle.heap_model.specs.declared.id.Id.{Id}
use Rattle.heap_model.specs.declared.id.Value.{Value}
use Rattle.heap_model.specs.declared.id.Value.TheVariants.{Object}
use Rattle.heap_model.specs.declared.graph.cell.Cell.{Cell}
use Rattle.heap_model.specs.graph.Graph.{Graph, Node, GraphSeat}
use Rattle.heap_model.specs.graph.Reach.{IsRoot, IsRegistered, PointsTo}
use Rattle.heap_model.specs.graph.Search.{Search, GoesOn, FoundFromSeat}
use Rattle.heap_model.specs.graph.Marking.{IsFound}
use Rattle.heap_model.proofs.graph_lemmas.SearchLemmas.{GoesOn-trans, GoesOn-weaker, IsFound-stays, FoundFromSeat-stays}

Any-get_or : {A : Type 0} (P : A → Type 0) (xs : List A) (i : ℕ) (d : A) → i < length xs → P (get_or xs i d) → Any P xs
Any-get_or P xs i d within holds = let there = Contains-get_or xs i d within in (there.0, get_or xs i d, there.1, there.2, holds)

-- what holds of all up to the end holds of all
pub All-taken : {A : Type 0} (P : A → Type 0) (xs ys : List A) (i : ℕ) → xs ≡ ys → length xs ≤ i → All P (take i xs) → All P ys
All-taken P xs ys i same past all = subst (All P) (take_all i xs past ∙ same) all

-- the walk has gone on by what these objects lead to, and what the things up to the end hold is found
pub record HasNoted {A : Type 0} (value : A → Value) (Leads : Id → Type 0) (old now : Search) (noted : List A) : Type 0 where
  pub goes_on : GoesOn Leads old now
  pub found : All (λ x. IsFound now.marks (value x)) noted

-- and so it has once the next one's value is noted
pub has_noted_next : {A : Type 0} (value : A → Value) (Leads : Id → Type 0) (xs : List A) (i : ℕ) (d : A) {old now new : Search} → i < length xs → ((id : Id) → value (get_or xs i d) ≡ Object id → Leads id)
    → HasNoted value Leads old now (take i xs) → GoesOn (λ id. value (get_or xs i d) ≡ Object id) now new → IsFound new.marks (value (get_or xs i d)) → HasNoted value Leads old new (take (i + 1) xs)
has_noted_next value Leads xs i d {old} {now} {new} within leads before on here = record {
  goes_on = GoesOn-trans before.goes_on (GoesOn-weaker leads on);
  found = All-more (λ x. IsFound new.marks (value x)) xs i d within
      (All-weaker (λ x. IsFound now.marks (value x)) (λ x. IsFound new.marks (value x)) (λ x. IsFound-stays on (value x)) (take i xs) before.found) here;
}

-- a register holds what it leads to, and so does a cell
lead_is_held : (held cells : List Cell) (i : ℕ) (d : Cell) → cells ≡ held → i < length cells → (id : Id) → (get_or cells i d).value ≡ Object id → Any (λ cell. cell.value ≡ Object id) held
lead_is_held held cells i d same within id is = subst (Any (λ cell. cell.value ≡ Object id)) same (Any-get_or (λ cell. cell.value ≡ Object id) cells i d within is)

pub register_lead_is_registered : (seat : GraphSeat) (cells : List Cell) (i : ℕ) (d : Cell) → cells ≡ seat.registers → i < length cells → (id : Id) → (get_or cells i d).value ≡ Object id → IsRegistered seat id
register_lead_is_registered seat cells i d same within id is = lead_is_held seat.registers cells i d same within id is

pub cell_lead_is_pointed_to : (object : Node) (cells : List Cell) (i : ℕ) (d : Cell) → cells ≡ object.cells → i < length cells → (id : Id) → (get_or cells i d).value ≡ Object id → PointsTo object id
cell_lead_is_pointed_to object cells i d same within id is = lead_is_held object.cells cells i d same within id is

pub GoesOn-seat : (g : Graph) (i : ℕ) (seat : GraphSeat) {a b c : Search} → i < length g.seats → seat ≡ get_or g.seats i seat → GoesOn (IsRoot g) a b → GoesOn (IsRegistered seat) b c → GoesOn (IsRoot g) a c
GoesOn-seat g i seat within is before on =
    GoesOn-trans before (GoesOn-weaker (λ id held. Any-get_or (λ x. IsRegistered x id) g.seats i seat within (subst (λ x. IsRegistered x id) is held)) on)

pub found_from_seats : {P : Id → Type 0} (seats : List GraphSeat) (i : ℕ) (seat : GraphSeat) {b c : Search} → i < length seats → seat ≡ get_or seats i seat → GoesOn P b c → All (FoundFromSeat b.marks) (take i seats) → FoundFromSeat c.marks seat → All (FoundFromSeat c.marks) (take (i + 1) seats)
found_from_seats seats i seat {b} {c} within is on before here =
    All-more (FoundFromSeat c.marks) seats i seat within
    (All-weaker (FoundFromSeat b.marks) (FoundFromSeat c.marks) (FoundFromSeat-stays on) (take i seats) before) (subst (FoundFromSeat c.marks) is here)
