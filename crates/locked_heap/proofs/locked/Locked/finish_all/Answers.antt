use Rattle.std.proofs.Common.{◌≡◌, ℕ, ◌+◌, ◌<◌, inl, inr, List, [], length, sym, ap, subst, ◌∙◌, arith}
use Rattle.std.specs.Prelude.{Vec, slice_index_or, map}
use Rattle.std.specs.Global.{Global}
use Rattle.std.proofs.lemmas.Bool.Decides.{eqb_tells}
use Rattle.std.proofs.lemmas.List.{length-map, get_or-map}
use Rattle.heap_model.specs.declared.command.Command.{Command}
use Rattle.heap_model.specs.declared.heap.Heap.{Heap}
use Rattle.locked_heap.specs.Locked.{SeatHasLeft, KeepsGone}
use Rattle.locked_heap.specs.declared.progress.Progress.{Progress}
use Rattle.locked_heap.proofs.Returning.{on_ok_at_err}
use Rattle.locked_heap.proofs.locked.Locked.finish_all.Goals as goal

-- with this seat one more has left
one_more_has_left : (old new : List Progress) (seat : ℕ) → ((number : ℕ) → number < seat → SeatHasLeft old number) → KeepsGone old new → SeatHasLeft new seat → (number : ℕ) → number < seat + 1 → SeatHasLeft new number
one_more_has_left old new seat all keeps left number below = elim (eqb_tells number seat) [
  | inl same ↦ subst (SeatHasLeft new) (sym same.1) left
  | inr apart ↦ keeps number (all number (omega (arith, below, apart.1)))
]

-- the seat's script is the one that was given for it
own_script : (scripts : List (Vec Command Global)) (given : List (List Command)) (seat : ℕ) (read : Vec Command Global) → map (λ (script : Vec Command Global). script.items) scripts ≡ given → seat < length scripts
    → read ≡ slice_index_or scripts seat read → read.items ≡ slice_index_or given seat []
own_script scripts given seat read same below is =
    ap (λ (script : Vec Command Global). script.items) is ∙ sym (get_or-map (λ (script : Vec Command Global). script.items) scripts seat read [] below) ∙ ap (λ (l : List (List Command)). slice_index_or l seat []) same

pub loop-seat-init : goal.loop-seat-init
loop-seat-init g c number below = absurd (omega (arith, below))

pub bounds-scripts-seat : goal.bounds-scripts-seat
bounds-scripts-seat g c =
    omega (
      arith,
      c.loop-seat-test.true,
      ap (λ (h : Heap). h.seats) c.heap-seat-end.ensures,
      ap (λ (h : Heap). h.seats) c.self.invariant.run.of_heap,
      c.self.invariant.run.given_right.seated,
      ap (length {A = List Command}) c.requires.scripts,
      length-map c.args.scripts.now (λ (script : Vec Command Global). script.items),
    )

pub finish_seat-requires-clause-within : goal.finish_seat-requires-clause-within
finish_seat-requires-clause-within g c = omega (arith, c.loop-seat-test.true, ap (λ (h : Heap). h.seats) c.heap-seat-end.ensures, ap (λ (h : Heap). h.seats) c.self.invariant.run.of_heap)

pub finish_seat-requires-clause-script : goal.finish_seat-requires-clause-script
finish_seat-requires-clause-script g c =
    c.as_slice.ensures.value ∙ own_script c.args.scripts.now _ c.loop-seat.seat c.index-scripts-seat.result c.requires.scripts
    (omega (
      arith,
      c.loop-seat-test.true,
      ap (λ (h : Heap). h.seats) c.heap-seat-end.ensures,
      ap (λ (h : Heap). h.seats) c.self.invariant.run.of_heap,
      c.self.invariant.run.given_right.seated,
      ap (length {A = List Command}) c.requires.scripts,
      length-map c.args.scripts.now (λ (script : Vec Command Global). script.items),
    )) c.index-scripts-seat.is

pub returns-in_err-finish_seat : goal.returns-in_err-finish_seat
returns-in_err-finish_seat g c = on_ok_at_err c.from_residual.result _ c.from_residual.ensures.0

pub loop-seat-preserved : goal.loop-seat-preserved
loop-seat-preserved g c = one_more_has_left c.loop-seat.self.seats c.finish_seat.new.self.seats c.loop-seat.seat c.loop-seat.invariant c.finish_seat.ensures.gone c.in_ok-finish_seat.ensures.left

pub returns : goal.returns
returns g c number below =
    c.loop-seat.invariant number (omega (arith, below, c.loop-seat-test.false, ap (λ (h : Heap). h.seats) c.heap-seat-end.ensures, ap (λ (h : Heap). h.seats) c.self.invariant.run.of_heap))
