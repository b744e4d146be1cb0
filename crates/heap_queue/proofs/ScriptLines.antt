-- The scripts that the lines of a queue's text tell are scripts for a run.
use Rattle.std.proofs.Common.{◌≡◌, ◌==◌, ℕ, ◌<◌, ◌≤◌, List, [], filter, length, All, arith}
use Rattle.std.specs.Prelude.{slice_index_or}
use Rattle.std.specs.List.{range_with_len}
use Rattle.std.proofs.lemmas.List.{length-map}
use Rattle.std.proofs.lemmas.List.Elements.{All-filter, All-from_recursion, All-map, All-weaker}
use Rattle.std.proofs.lemmas.List.FromFn.{get_or-map-range_with_len, length-map-range_with_len}
use Rattle.std.proofs.lemmas.List.Sums.{count_by-le-length, length-filter}
use Rattle.heap_queue.specs.declared.queue_line.QueueLine.{QueueLine}
use Rattle.heap_queue.specs.declared.queue_script.QueueScript.{QueueScript}
use Rattle.heap_queue.specs.QueueText.{IsQueueLine, queue_preamble}
use Rattle.heap_queue.specs.Running.{IsQueueScript, script_at}
use Rattle.heap_queue.specs.SeatScripts.{IsOfQueue, commands_of, seat_scripts}
use Rattle.heap_queue.specs.Serving.{IsQueueCommand}

-- there is one for each seat
pub length-seat_scripts : (script : QueueScript) → length (seat_scripts script) ≡ script.heap.seats
length-seat_scripts script = length-map-range_with_len (λ number. commands_of number script.lines) 0 script.heap.seats

-- and it has the commands of the seat's lines
pub script_at-seat_scripts : (script : QueueScript) (number : ℕ) → number < script.heap.seats → script_at (seat_scripts script) number ≡ commands_of number script.lines
script_at-seat_scripts script number within = get_or-map-range_with_len (λ n. commands_of n script.lines) 0 script.heap.seats number number [] within (omega arith)

-- of which there are not more than lines
few_commands : (number : ℕ) (lines : List QueueLine) → length (commands_of number lines) ≤ length lines
few_commands number lines =
    omega (
      arith,
      length-map (filter (λ (line : QueueLine). line.seat == number) lines) (λ line. line.command),
      length-filter (λ (line : QueueLine). line.seat == number) lines,
      count_by-le-length (λ (line : QueueLine). line.seat == number) lines,
    )

-- and each is one of a queue
commands_of_queue : (script : QueueScript) (number : ℕ) → IsOfQueue script → All IsQueueCommand (commands_of number script.lines)
commands_of_queue script number is =
    let front = queue_preamble script.heap in
    let each : All (λ (line : QueueLine). IsQueueCommand line.command) script.lines =
    All-weaker (IsQueueLine front) (λ (line : QueueLine). IsQueueCommand line.command) (λ line h. h.1) script.lines (All-from_recursion (IsQueueLine front) script.lines is.lines) in
    All-map IsQueueCommand (λ (line : QueueLine). line.command) (filter (λ line. line.seat == number) script.lines) (All-filter (λ line. line.seat == number) (λ (line : QueueLine). IsQueueCommand line.command) script.lines each)

-- so they are scripts for a run
pub seat_scripts_fit : (script : QueueScript) → IsOfQueue script → All IsQueueScript (seat_scripts script)
seat_scripts_fit script is =
    let numbers = range_with_len 0 script.heap.seats in
    All-map IsQueueScript (λ number. commands_of number script.lines) numbers
    (λ k d below.
    let number = slice_index_or numbers k d in
    (omega (arith, few_commands number script.lines, is.short), commands_of_queue script number is))
