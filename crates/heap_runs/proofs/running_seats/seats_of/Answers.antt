use Rattle.std.proofs.Common.{List, [], ◌∷◌, ◌++◌, sym, ap, ◌∙◌, append_assoc}
use Rattle.std.proofs.lemmas.List.Elements.{All-rest}
use Rattle.heap_table.specs.SeatHeld.{SeatHeld}
use Rattle.mutator_seat.specs.Resting.{IsBetweenCalls}
use Rattle.heap_runs.proofs.running_seats.seats_of.Goals as goal

pub loop-holder-preserved : goal.loop-holder-preserved
loop-holder-preserved c =
    let now = c.loop-holder in
    let rest = c.next.new.self.rest.items in
    let first = c.in-Some.ensures.steps.0 in (
      ap (λ (l : List SeatHeld). l ++ rest) (c.in_ok-push.ensures.items ∙ ap (λ (held : SeatHeld). now.seats.items ++ held ∷ []) c.make.ensures)
          ∙ append_assoc now.seats.items (c.in-Some.holder ∷ []) rest ∙ ap (λ (l : List SeatHeld). now.seats.items ++ l) (sym first) ∙ now.invariant.0,
      All-rest IsBetweenCalls c.in-Some.holder rest now.holder-iterator.rest.items first now.invariant.1,
    )
