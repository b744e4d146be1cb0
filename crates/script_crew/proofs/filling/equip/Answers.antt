use Rattle.std.proofs.Common.{◌≡◌, ◌+◌, ◌-◌, ◌∷◌, [], ◌++◌, length, map, sym, ap, subst, ◌∙◌, append_assoc, arith}
use Rattle.std.specs.Prelude.{All}
use Rattle.std.specs.Vec.Iter.{into_iter_items}
use Rattle.std.proofs.lemmas.List.{length-append, map-append}
use Rattle.std.proofs.lemmas.List.Elements.{All-push}
use Rattle.crossbeam_queue.specs.Passes.{view}
use Rattle.heap_table.specs.SeatHeld.{SeatHeld}
use Rattle.script_crew.specs.declared.position_rule.Tally.{Tally}
use Rattle.script_crew.specs.declared.worker.Worker.{Worker}
use Rattle.script_crew.specs.Positions.{tally}
use Rattle.script_crew.specs.Working.{HasFreshPass}
use Rattle.script_crew.proofs.PassMoves.{keeps-fork}
use Rattle.script_crew.proofs.filling.equip.Goals as goal

pub another-own-requires-clause-rule : goal.another-own-requires-clause-rule
another-own-requires-clause-rule c =
    keeps-fork _ _ (omega (arith, ap (λ (one : Tally). one.shares) c.loop-seat.invariant.1, c.loop-seat.invariant.2, ap (λ xs. length xs) c.in-Some.ensures.steps.0, c.requires.shares))

pub loop-seat-preserved : goal.loop-seat-preserved
loop-seat-preserved c =
    let had = c.loop-seat.invariant in
    let own = c.another-own.ensures in
    let seat : Worker → SeatHeld = λ worker. worker.seat in
    let workers = c.loop-seat.workers.items in
    let worker : Worker = record { seat = c.in-Some.seat; pass = c.another-own.result } in
    let rest = into_iter_items c.next.new.self in
    let count : length (c.loop-seat.yielded ++ c.in-Some.seat ∷ []) ≡ length c.loop-seat.yielded + 1 = length-append c.loop-seat.yielded (c.in-Some.seat ∷ []) in
    let shares : (view c.loop-seat.pass).shares - 1 ≡ (view c.args.pass.now).shares - length (c.loop-seat.yielded ++ c.in-Some.seat ∷ []) = omega (arith, count, ap (λ (one : Tally). one.shares) had.1) in
    let known : (view c.loop-seat.pass).known ≡ (view c.args.pass.now).known = ap (λ (one : Tally). one.known) had.1 in (
      (own.queue.0.0 ∙ had.0.0, own.queue.0.2 ∙ had.0.1),
      own.rule.0 ∙ (λ i. tally (shares i) (had.1 i).pushed (had.1 i).popped (had.1 i).known),
      omega (arith, count, ap (λ xs. length xs) c.in-Some.ensures.steps.0, had.2),
      ap (λ xs. map seat xs ++ rest) c.in_ok-push.ensures.items
          ∙ (ap (λ xs. xs ++ rest) (map-append seat workers (worker ∷ [])) ∙ (append_assoc (map seat workers) (c.in-Some.seat ∷ []) rest ∙ (ap (λ xs. map seat workers ++ xs) (sym c.in-Some.ensures.steps.0) ∙ had.3))),
      subst (All (HasFreshPass c.args.queue.now (view c.args.pass.now).known)) (sym c.in_ok-push.ensures.items)
          (All-push (HasFreshPass c.args.queue.now (view c.args.pass.now).known) workers worker had.4 (record { of_queue = own.queue.1; untouched = own.rule.1 ∙ ap (λ all. tally 1 [] [] all) known })),
    )
