use Rattle.std.proofs.Common.{sym, ◌∙◌}
use Rattle.heap_runs.proofs.PressCalls.{notes_one_call}
use Rattle.heap_runs.proofs.Told.{notes_call_by_entries}
use Rattle.heap_runs.proofs.playing.making.make_command.Goals.{in_default-via-in-Pressed+in_default, in_default-via-in_default}
use Rattle.heap_runs.proofs.playing.making.make_command.Goals as goal

pub returns-in_ok-call-in_default : goal.returns-in_ok-call-in_default
returns-in_ok-call-in_default g c =
    let notes = notes_call_by_entries _ _ c.args.seat c.args.command.now _ c.in_ok-call-in_default.ensures.answers in
    elim c.in_default.branch [
      | in_default-via-in-Pressed+in_default w ↦ notes_one_call c.args.way _ _ _ _ (λ pressed. record { no_record = w.in_default.not-New-1; no_array = w.in_default.not-Array-1 }) notes
      | in_default-via-in_default w ↦ notes_one_call c.args.way _ _ _ _ (λ pressed. let e = sym w.in_default.is-0 ∙ pressed in absurd (cc e)) notes
    ]
