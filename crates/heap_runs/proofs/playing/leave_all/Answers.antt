use Rattle.std.proofs.Common.{◌≡◌, ℕ, length, subst, arith}
use Rattle.heap_model.specs.declared.command.Command.TheVariants.{Leave}
use Rattle.heap_runs.specs.PlayHeap.{PlayState}
use Rattle.heap_runs.specs.Playing.{HaveLeft}
use Rattle.heap_runs.proofs.Leaves.{have_left_none, have_left_one_more}
use Rattle.heap_runs.proofs.NextLine.{next_seat_may_leave}
use Rattle.heap_runs.proofs.Told.{notes_call_by_entries}
use Rattle.heap_runs.proofs.playing.leave_all.Goals as goal

pub loop-seat-init : goal.loop-seat-init
loop-seat-init g c = have_left_none c.args.script.now.heap (g.H.PlayHeap.state c.args.whole.now) (length c.args.script.now.lines) c.requires

pub call-requires : goal.call-requires
call-requires g c =
    let now : PlayState = g.H.PlayHeap.state c.loop-seat.whole in
    let left = c.loop-seat.invariant in
    record { may = next_seat_may_leave now c.loop-seat.seat (rw left.of_heap c.loop-seat-test.true) (left.others c.loop-seat.seat (omega arith) c.loop-seat-test.true) }

pub loop-seat-preserved : goal.loop-seat-preserved
loop-seat-preserved g c =
    let laws = c.seat_laws.ensures in
    let now : PlayState = g.H.PlayHeap.state c.loop-seat.whole in
    let new : PlayState = g.H.PlayHeap.state c.call.new.self in
    have_left_one_more laws.counts laws.others c.args.script.now.heap (g.H.PlayHeap.state c.args.whole.now) now new c.loop-seat.seat c.loop-seat.invariant
    (notes_call_by_entries now new c.loop-seat.seat Leave c.in_ok-call.field-0 c.in_ok-call.ensures.answers)

pub returns : goal.returns
returns g c =
    let all : c.loop-seat.seat ≡ c.args.script.now.heap.seats = omega (arith, c.loop-seat-test.false, c.loop-seat.auto.seat-end) in
    subst (λ (n : ℕ). HaveLeft c.args.script.now.heap (g.H.PlayHeap.state c.args.whole.now) (g.H.PlayHeap.state c.loop-seat.whole) n) all c.loop-seat.invariant
