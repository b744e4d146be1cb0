use Rattle.heap_runs.specs.PlayHeap.{PlayState, AnswersCall}
use Rattle.heap_runs.proofs.PressCalls.{notes_press, press_seen_as}
use Rattle.heap_runs.proofs.playing.making.press_on.Goals as goal

pub returns : goal.returns
returns g c =
    let old : PlayState = g.H.PlayHeap.state c.args.whole in
    let new : PlayState = g.H.PlayHeap.state c.press.new.whole.whole in
    let press = c.in_ok-press.ensures in
    let calls = press_seen_as (λ pressed. g.H.PlayHeap.state pressed.whole) _ AnswersCall (λ old_ new_ number command reply calls. calls) _ _ c.args.seat c.args.command.now c.in_ok-press.field-0 press.called in
    notes_press old new c.args.seat c.args.command.now c.in_ok-press.field-0 press.adds (record { calls = calls; refuses = record { fragments = press.fragments; words = press.words; cycle = press.cycle } })
