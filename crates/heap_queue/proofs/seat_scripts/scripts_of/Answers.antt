use Rattle.std.proofs.Common.{◌≡◌, ℕ, ◌++◌, ◌∷◌, [], List, Vec, Global, All, map, sym, ap, subst, ◌∙◌, arith}
use Rattle.std.specs.List.{range_with_len}
use Rattle.std.proofs.lemmas.List.{map-append}
use Rattle.std.proofs.lemmas.List.FromFn.{map-range_with_len_more}
use Rattle.heap_queue.specs.declared.queue_command.QueueCommand.{QueueCommand}
use Rattle.heap_queue.specs.Running.{IsQueueScript}
use Rattle.heap_queue.specs.SeatScripts.{commands_of}
use Rattle.heap_queue.proofs.ScriptLines.{seat_scripts_fit}
use Rattle.heap_queue.proofs.seat_scripts.scripts_of.Goals as goal

-- the commands in a list of them
abbrev items : Vec QueueCommand Global → List QueueCommand
items script = script.items

pub loop-seat-preserved : goal.loop-seat-preserved
loop-seat-preserved c =
    let commands = λ (number : ℕ). commands_of number c.args.script.now.lines in
    let told = c.in_ok-commands_of.ensures ∙ ap (λ lines. commands_of c.loop-seat.seat lines) c.as_slice.ensures in
    ap (map items) c.in_ok-push.ensures.items ∙ map-append items c.loop-seat.scripts.items (c.in_ok-commands_of.field-0 ∷ []) ∙ ap (λ (l : List (List QueueCommand)). l ++ c.in_ok-commands_of.field-0.items ∷ []) c.loop-seat.invariant
    ∙ ap (λ (l : List QueueCommand). map commands (range_with_len 0 c.loop-seat.seat) ++ l ∷ []) told ∙ sym (map-range_with_len_more commands 0 c.loop-seat.seat c.loop-seat.seat (omega arith))

pub returns-clause-fit : goal.returns-clause-fit
returns-clause-fit c =
    let script = c.args.script.now in
    let all : c.loop-seat.seat ≡ script.heap.seats = omega arith in
    let told = c.loop-seat.invariant ∙ ap (λ (count : ℕ). map (λ number. commands_of number script.lines) (range_with_len 0 count)) all in
    subst (All IsQueueScript) (sym told) (seat_scripts_fit script c.requires)
