use Rattle.std.proofs.Common.{ℕ, ◌++◌, ◌∷◌, [], List, map, sym, ap, ◌∙◌, arith}
use Rattle.std.specs.List.{range_with_len}
use Rattle.std.proofs.lemmas.List.{map-append}
use Rattle.std.proofs.lemmas.List.FromFn.{map-range_with_len_more}
use Rattle.heap_model.specs.declared.command.Command.{Command}
use Rattle.schism_program.specs.Running.{seat_commands}
use Rattle.schism_program.proofs.SeatScripts.{items}
use Rattle.schism_program.proofs.running.scripts_of.Goals as goal

pub loop-seat-preserved : goal.loop-seat-preserved
loop-seat-preserved c =
    let commands = λ (number : ℕ). seat_commands number c.args.script.now.lines in
    let told = c.in_ok-seat_commands.ensures ∙ ap (λ lines. seat_commands c.loop-seat.seat lines) c.as_slice.ensures in
    ap (map items) c.in_ok-push.ensures.items ∙ map-append items c.loop-seat.scripts.items (c.in_ok-seat_commands.field-0 ∷ []) ∙ ap (λ (l : List (List Command)). l ++ c.in_ok-seat_commands.field-0.items ∷ []) c.loop-seat.invariant
    ∙ ap (λ (l : List Command). map commands (range_with_len 0 c.loop-seat.seat) ++ l ∷ []) told ∙ sym (map-range_with_len_more commands 0 c.loop-seat.seat c.loop-seat.seat (omega arith))
