-- While a seat is there the board is kept, and begins with fragment 0.
use Rattle.std.proofs.Common.{◌≡◌, ℕ, ◌<◌, false, List, length, subst}
use Rattle.std.proofs.lemmas.Option.{slice_get_within, get_or_from_slice_get}
use Rattle.core_rule.proofs.Terms.{Heap, Id, Board, graph_of, graph_seat, Register, State, seat_at, target_of, register_in, Book, fragment_at, object_number, NamesKept, Owner}
use Rattle.core_rule.proofs.Terms.{Kept, HoldsValue, IsAwaited, Rule}
use Rattle.heap_model.specs.declared.id.Value.TheVariants as values
use Rattle.heap_model.proofs.call_lemmas.BoardLemmas.{first_register_holds_board}
use Rattle.core_machine.specs.declared.seat.register.Register.TheVariants as registers

-- a register that holds the board names a kept one
holds_kept : (made : List Id) (owner : ℕ → Owner) (fragments : ℕ → List ℕ) (held : Register) → HoldsValue made owner fragments held (values.Object Board)
    → NamesKept made owner fragments (values.Object Board)
holds_kept made owner fragments registers.Nil holds = absurd (cc holds)
holds_kept made owner fragments (registers.Number n) holds = absurd (cc holds.0)
holds_kept made owner fragments (registers.Object head id) holds = let same : values.Object Board ≡ values.Object id = holds.0 in let it : id ≡ Board = cc in
    subst (λ x. NamesKept made owner fragments (values.Object x)) it holds.1

pub board_is_kept : (heap : Heap) (state : State) (book : Book) (number : ℕ) (rule : Rule heap state book) (here : number < heap.seats)
    → (graph_seat (graph_of heap book.history) number).left ≡ false → ¬ IsAwaited (seat_at state number).point (target_of (seat_at state number).command) 0
    → book.owner 0 ≡ Kept 0 0
board_is_kept heap state book number rule here present awake =
    let stands = rule.heap_stands in
    let value = first_register_holds_board heap book.history number stands.legal.objects present in
    let kept : NamesKept book.made book.owner book.fragments (values.Object Board)
    = holds_kept book.made book.owner book.fragments (register_in (seat_at state number).registers 0)
    (subst (HoldsValue book.made book.owner book.fragments (register_in (seat_at state number).registers 0)) value ((rule.seats_stand number here).names.registers 0 awake)) in
    let some : 0 < length book.made = slice_get_within book.made 0 Board stands.ids.board in
    let first : object_number book.made Board ≡ 0 = subst (λ id. object_number book.made id ≡ 0) (get_or_from_slice_get book.made 0 Board Board stands.ids.board) (stands.ids.distinct 0 some) in
    let zeroth : book.owner (fragment_at (book.fragments 0) 0) ≡ Kept 0 0 = subst (λ i. book.owner (fragment_at (book.fragments i) 0) ≡ Kept i 0) first kept.1 in
    subst (λ f. book.owner f ≡ Kept 0 0) stands.objects.board zeroth
