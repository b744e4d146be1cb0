use Rattle.std.proofs.Common.{ℕ, ◌++◌, ◌∷◌, [], List, map, sym, ap, ◌∙◌, arith}
use Rattle.std.specs.List.{range_with_len}
use Rattle.std.proofs.lemmas.List.FromFn.{map-range_with_len_more}
use Rattle.core_machine.specs.machine.Machine.{seat_at}
use Rattle.locked_heap.proofs.locked.Locked.finds_of_all.Goals as goal

pub loop-seat-preserved : goal.loop-seat-preserved
loop-seat-preserved g c =
    let each = λ (number : ℕ). (seat_at c.args.self.now.recorded.machine.state number).looks.waits in
    c.in_ok-push.ensures.items ∙ ap (λ (l : List ℕ). l ++ c.finds.result ∷ []) c.loop-seat.invariant ∙ ap (λ (n : ℕ). map each (range_with_len 0 c.loop-seat.seat) ++ n ∷ []) c.finds.ensures
    ∙ sym (map-range_with_len_more each 0 c.loop-seat.seat c.loop-seat.seat (omega arith))
