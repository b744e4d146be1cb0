use Rattle.std.proofs.Common.{◌≡◌, ℕ, ◌<◌, ◌≤◌, List, [], ◌∷◌, length, map, drop, get_or, All, sym, ap, subst, ◌∙◌, arith}
use Rattle.std.specs.List.{range_with_len}
use Rattle.std.specs.Prelude.{slice_set}
use Rattle.std.proofs.lemmas.List.{length-map}
use Rattle.std.proofs.lemmas.List.Elements.{All-get_or}
use Rattle.std.proofs.lemmas.List.FromFn.{length-range_with_len}
use Rattle.std.proofs.lemmas.Result.{IfOk-from_err}
use Rattle.atomic_table.specs.Seated.{TableId}
use Rattle.heap_model.specs.declared.heap.Heap.{Heap}
use Rattle.heap_table.specs.SeatHeld.{SeatHeld}
use Rattle.heap_runs.specs.CollectCall.{IsPresent}
use Rattle.heap_queue.specs.Opening.{HasOpened}
use Rattle.heap_queue.specs.Running.{IsUntouched}
use Rattle.heap_queue.proofs.ClosedLogs.{number_is_place}
use Rattle.heap_queue.proofs.opening.open.Goals as goal

-- there is a first seat
some_seat : (seats : List SeatHeld) (count : ℕ) → 1 ≤ count → map (λ seat. seat.number) seats ≡ range_with_len 0 count → 0 < length seats
some_seat seats count some numbered = omega (arith, some, ap (length {A = ℕ}) numbered, length-map seats (λ (seat : SeatHeld). seat.number), length-range_with_len 0 count)

-- it is untouched
first_untouched : (table : TableId) (heap : Heap) (seats : List SeatHeld) (first : SeatHeld) → 1 ≤ heap.seats → map (λ seat. seat.number) seats ≡ range_with_len 0 heap.seats → All (IsUntouched table heap) seats → first ≡ get_or seats 0 first
    → IsUntouched table heap first
first_untouched table heap seats first some numbered untouched is = subst (IsUntouched table heap) (sym is) (All-get_or (IsUntouched table heap) seats 0 first (some_seat seats heap.seats some numbered) untouched)

-- another stands in its place
put_first : (seats rest news : List SeatHeld) (first : SeatHeld) → 0 < length seats → rest ≡ drop 1 seats → news ≡ first ∷ rest → news ≡ slice_set seats 0 first
put_first [] rest news first some behind is = absurd (omega (arith, some))
put_first (one ∷ seats) rest news first some behind is = is ∙ ap (λ (more : List SeatHeld). first ∷ more) behind

pub remove-requires : goal.remove-requires
remove-requires g c = let x = some_seat c.args.seats.now.items g.N.HeldName.heap.seats c.requires.some c.requires.numbered in let y = c.args.seats.now.ok.0 in omega (arith, x, y)

pub new-first-requires : goal.new-first-requires
new-first-requires g c = (first_untouched g.N.HeldName.table g.N.HeldName.heap c.args.seats.now.items c.remove.result c.requires.some c.requires.numbered c.requires.untouched c.remove.ensures.value).of_table

pub open_first-requires-clause-number : goal.open_first-requires-clause-number
open_first-requires-clause-number g c =
    ap (λ (seat : SeatHeld). seat.number) (c.new-first.ensures ∙ c.remove.ensures.value) ∙ number_is_place c.args.seats.now.items g.N.HeldName.heap.seats c.requires.numbered 0 c.remove.result c.requires.some

pub open_first-requires-clause-present : goal.open_first-requires-clause-present
open_first-requires-clause-present g c =
    let untouched = first_untouched g.N.HeldName.table g.N.HeldName.heap c.args.seats.now.items c.remove.result c.requires.some c.requires.numbered c.requires.untouched c.remove.ensures.value in
    subst IsPresent (sym c.new-first.ensures) untouched.present

pub open_first-requires-clause-silent : goal.open_first-requires-clause-silent
open_first-requires-clause-silent g c =
    let untouched = first_untouched g.N.HeldName.table g.N.HeldName.heap c.args.seats.now.items c.remove.result c.requires.some c.requires.numbered c.requires.untouched c.remove.ensures.value in
    ap (λ (seat : SeatHeld). seat.seat.mine) c.new-first.ensures ∙ untouched.silent

pub open_first-requires-clause-board : goal.open_first-requires-clause-board
open_first-requires-clause-board g c =
    let untouched = first_untouched g.N.HeldName.table g.N.HeldName.heap c.args.seats.now.items c.remove.result c.requires.some c.requires.numbered c.requires.untouched c.remove.ensures.value in
    omega (arith, c.requires.board, ap (λ (seat : SeatHeld). seat.heap.board) c.new-first.ensures, ap (λ (h : Heap). h.board) untouched.of_table.heap_is)

pub returns-in_err-refused : goal.returns-in_err-refused
returns-in_err-refused g c = IfOk-from_err c.from_residual.result _ c.from_residual.ensures.0

pub insert-requires : goal.insert-requires
insert-requires g c = omega arith

pub returns-in_err-insert : goal.returns-in_err-insert
returns-in_err-insert g c = IfOk-from_err c.from_residual-in_err-insert.result _ c.from_residual-in_err-insert.ensures.0

pub returns : goal.returns
returns g c =
    let first : SeatHeld = c.into_seat.result in record {
      first = first;
      of_table = c.into_seat.ensures.of_table;
      opened = subst (λ (seat : SeatHeld). HasOpened seat c.in_ok-refused.refused) (sym c.into_seat.ensures.seat) c.in_ok-refused.ensures;
      news_are = put_first c.args.seats.now.items c.remove.new.self.items c.insert.new.self.items first (some_seat c.args.seats.now.items g.N.HeldName.heap.seats c.requires.some c.requires.numbered) c.remove.ensures.items c.in_ok-insert.ensures.items;
    }
