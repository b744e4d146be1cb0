-- The changes of two seats come to the same in either order, where they write no cell both.
use Rattle.std.proofs.Common.{◌≡◌, ℕ, ◌<◌, inl, inr, false, List, ◌++◌, length, get_or, set, refl, sym, ap, ◌∙◌, subst}
use Rattle.std.proofs.lemmas.Bool.{cases_eq}
use Rattle.std.proofs.lemmas.List.{get_or-set_same, get_or-set_other, get_or_append_left, set-set, set_comm, set-append_left}
use Rattle.heap_model.specs.declared.id.Id.{Id}
use Rattle.heap_model.specs.declared.id.Id.TheVariants.{Board, Made}
use Rattle.heap_model.specs.declared.id.Value.{Value}
use Rattle.heap_model.specs.declared.id.Value.TheVariants.{Nil, Number, Object}
use Rattle.heap_model.specs.declared.graph.cell.Cell.{Cell}
use Rattle.heap_model.specs.graph.Objects.{graph_seat, absent_graph_seat}
use Rattle.heap_model.specs.graph.Graph.{Node, GraphSeat, Graph, fresh}
use Rattle.heap_model.specs.graph.Changes.{with_cell, with_object_cell, write}
use Rattle.log_merge.proofs.merge_lemmas.Changes.{Change, grown, seat_changed, changed}
use Rattle.log_merge.proofs.merge_lemmas.Places.{IsKnown, object_seat_is_there, IsKnown-seat_changed}

-- the list with the element at a position put through a function
abbrev updated : {A : Type 0} → List A → ℕ → A → (A → A) → List A
updated xs i d f = set xs i (f (get_or xs i d))

-- at two positions, in either order
updated_apart : {A : Type 0} (xs : List A) (i j : ℕ) (d : A) (f h : A → A) → (i ≡ j → ⊥) → updated (updated xs i d f) j d h ≡ updated (updated xs j d h) i d f
updated_apart xs i j d f h apart =
    ap (λ x. set (set xs i (f (get_or xs i d))) j (h x)) (get_or-set_other xs i j (f (get_or xs i d)) d (λ e. apart (sym e)))
    ∙ set_comm xs i j (f (get_or xs i d)) (h (get_or xs j d)) apart
    ∙ ap (λ x. set (set xs j (h (get_or xs j d))) i (f x)) (sym (get_or-set_other xs j i (h (get_or xs j d)) d apart))

-- at one position, twice
updated_twice : {A : Type 0} (xs : List A) (i : ℕ) (d : A) (f h : A → A) → i < length xs → updated (updated xs i d f) i d h ≡ set xs i (h (f (get_or xs i d)))
updated_twice xs i d f h within =
    ap (λ x. set (set xs i (f (get_or xs i d))) i (h x)) (get_or-set_same xs i (f (get_or xs i d)) d within) ∙ set-set xs i (f (get_or xs i d)) (h (f (get_or xs i d)))

updated_both : {A : Type 0} (xs : List A) (i : ℕ) (d : A) (f h : A → A) → i < length xs → h (f (get_or xs i d)) ≡ f (h (get_or xs i d)) → updated (updated xs i d f) i d h ≡ updated (updated xs i d h) i d f
updated_both xs i d f h within same = updated_twice xs i d f h within ∙ ap (set xs i) same ∙ sym (updated_twice xs i d h f within)

with_seats : (g : Graph) (one other : List GraphSeat) → one ≡ other → let a : Graph = record g { seats = one } in let b : Graph = record g { seats = other } in a ≡ b
with_seats g one other same = ap (λ (seats : List GraphSeat). record g { seats = seats }) same

-- two seats grow
seat_changed_comm : (g : Graph) (p q : ℕ) (c d : Change) → (p ≡ q → ⊥) → seat_changed (seat_changed g p c) q d ≡ seat_changed (seat_changed g q d) p c
seat_changed_comm g p q c d apart = with_seats g _ _ (updated_apart g.seats p q absent_graph_seat (λ u. grown u c) (λ u. grown u d) apart)

-- a seat grows, and a cell of one of its objects is written
grown-with_object_cell : (s : GraphSeat) (count i : ℕ) (cell : Cell) (c : Change) → count < length s.objects → grown (with_object_cell s count i cell) c ≡ with_object_cell (grown s c) count i cell
grown-with_object_cell s count i cell c made =
    let put = λ (o : Node). with_cell o i cell in
    let objects : set s.objects count (put (get_or s.objects count (fresh false 0))) ++ c.more ≡ set (s.objects ++ c.more) count (put (get_or (s.objects ++ c.more) count (fresh false 0))) =
    sym (set-append_left s.objects c.more count (put (get_or s.objects count (fresh false 0))) made)
    ∙ ap (λ o. set (s.objects ++ c.more) count (put o)) (sym (get_or_append_left s.objects c.more (fresh false 0) count made)) in
    ap (λ (os : List Node). let t : GraphSeat = record { registers = c.registers; objects = os; sets = c.sets; left = c.left } in t) objects

write-seat_changed : (g : Graph) (q : ℕ) (c : Change) (value : Value) (i : ℕ) (cell : Cell) → IsKnown g value → write (seat_changed g q c) value i cell ≡ seat_changed (write g value i cell) q c
write-seat_changed g q c Nil i cell known = refl
write-seat_changed g q c (Number n) i cell known = refl
write-seat_changed g q c (Object Board) i cell known = refl
write-seat_changed g q c (Object (Made other count)) i cell known = elim (cases_eq q other) [
  | inr apart ↦ with_seats g _ _ (updated_apart g.seats q other absent_graph_seat (λ u. grown u c) (λ u. with_object_cell u count i cell) apart)
  | inl same ↦ (
      let P : ℕ → Type 0 = λ n. write (seat_changed g n c) (Object (Made other count)) i cell ≡ seat_changed (write g (Object (Made other count)) i cell) n c in
      subst P (sym same) (with_seats g _ _ (updated_both g.seats other absent_graph_seat (λ u. grown u c) (λ u. with_object_cell u count i cell) (object_seat_is_there g other count known)
      (sym (grown-with_object_cell (graph_seat g other) count i cell c known)))))
]

-- two cells of an object are written
with_cell_comm : (o : Node) (i j : ℕ) (c d : Cell) → (i ≡ j → ⊥) → with_cell (with_cell o i c) j d ≡ with_cell (with_cell o j d) i c
with_cell_comm o i j c d apart = ap (λ (cells : List Cell). record o { cells = cells }) (set_comm o.cells i j c d apart)

-- two cells of objects of a seat
with_object_cell_comm : (s : GraphSeat) (m n i j : ℕ) (c d : Cell) → m < length s.objects → (m ≡ n → i ≡ j → ⊥) → with_object_cell (with_object_cell s m i c) n j d ≡ with_object_cell (with_object_cell s n j d) m i c
with_object_cell_comm s m n i j c d made apart =
    let f = λ (o : Node). with_cell o i c in
    let h = λ (o : Node). with_cell o j d in
    let none = fresh false 0 in
    let objects : updated (updated s.objects m none f) n none h ≡ updated (updated s.objects n none h) m none f = elim (cases_eq m n) [
      | inr others ↦ updated_apart s.objects m n none f h others
      | inl same ↦ (
          let P : ℕ → Type 0 = λ k. updated (updated s.objects m none f) k none h ≡ updated (updated s.objects k none h) m none f in
          subst P same (updated_both s.objects m none f h made (with_cell_comm (get_or s.objects m none) i j c d (apart same))))
    ] in
    ap (λ (os : List Node). record s { objects = os }) objects

-- two cells
write_comm : (g : Graph) (value other : Value) (i j : ℕ) (c d : Cell) → IsKnown g value → ((id : Id) → value ≡ Object id → other ≡ Object id → i ≡ j → ⊥) → write (write g value i c) other j d ≡ write (write g other j d) value i c
write_comm g Nil other i j c d known apart = refl
write_comm g (Number n) other i j c d known apart = refl
write_comm g (Object Board) Nil i j c d known apart = refl
write_comm g (Object Board) (Number n) i j c d known apart = refl
write_comm g (Object Board) (Object Board) i j c d known apart = ap (λ (board : Node). record g { board = board }) (with_cell_comm g.board i j c d (apart Board refl refl))
write_comm g (Object Board) (Object (Made t n)) i j c d known apart = refl
write_comm g (Object (Made s m)) Nil i j c d known apart = refl
write_comm g (Object (Made s m)) (Number n) i j c d known apart = refl
write_comm g (Object (Made s m)) (Object Board) i j c d known apart = refl
write_comm g (Object (Made s m)) (Object (Made t n)) i j c d known apart = elim (cases_eq s t) [
  | inr others ↦ with_seats g _ _ (updated_apart g.seats s t absent_graph_seat (λ u. with_object_cell u m i c) (λ u. with_object_cell u n j d) others)
  | inl same ↦ (
      let P : ℕ → Type 0 = λ k. write (write g (Object (Made s m)) i c) (Object (Made k n)) j d ≡ write (write g (Object (Made k n)) j d) (Object (Made s m)) i c in
      let cells : m ≡ n → i ≡ j → ⊥ = λ counts indices. apart (Made s m) refl (ap (λ x. Object (Made x n)) (sym same) ∙ ap (λ x. Object (Made s x)) (sym counts)) indices in
      subst P same (with_seats g _ _ (updated_both g.seats s absent_graph_seat (λ u. with_object_cell u m i c) (λ u. with_object_cell u n j d) (object_seat_is_there g s m known)
      (with_object_cell_comm (graph_seat g s) m n i j c d known cells))))
]

-- the two changes
pub changes_commute : (g : Graph) (p q : ℕ) (c d : Change) → (p ≡ q → ⊥) → IsKnown g c.place → IsKnown g d.place
    → ((id : Id) → c.place ≡ Object id → d.place ≡ Object id → c.index ≡ d.index → ⊥) → changed (changed g p c) q d ≡ changed (changed g q d) p c
changes_commute g p q c d seats known others apart =
    let g_p = seat_changed g p c in
    let g_q = seat_changed g q d in
    ap (λ h. write h d.place d.index d.cell) (sym (write-seat_changed g_p q d c.place c.index c.cell (IsKnown-seat_changed g p c c.place known)))
    ∙ ap (λ h. write (write h c.place c.index c.cell) d.place d.index d.cell) (seat_changed_comm g p q c d seats)
    ∙ write_comm (seat_changed g_q p c) c.place d.place c.index d.index c.cell d.cell (IsKnown-seat_changed g_q p c c.place (IsKnown-seat_changed g q d c.place known)) apart
    ∙ ap (λ h. write h c.place c.index c.cell) (write-seat_changed g_q p c d.place d.index d.cell (IsKnown-seat_changed g q d d.place others))
