use Rattle.std.proofs.Common.{◌≡◌, ℕ, ◌<◌, List, [], Vec, Global, length, map, get_or, sym, ap, subst, ◌∙◌, arith}
use Rattle.std.specs.Prelude.{IfOk}
use Rattle.std.proofs.lemmas.List.{length-map, get_or-map}
use Rattle.heap_queue.specs.declared.queue_command.QueueCommand.{QueueCommand}
use Rattle.heap_queue.specs.Running.{script_at}
use Rattle.heap_queue.specs.Working.{MayServe, HasWorked}
use Rattle.heap_queue.proofs.workers.fn.serve_seats.map_vec.Goals as goal

-- there is a script for the seat
script_within : (scripts : List (Vec QueueCommand Global)) (number its : ℕ) → number ≡ its → its < length (map (λ (script : Vec QueueCommand Global). script.items) scripts) → number < length scripts
script_within scripts number its is within = let n = length-map scripts (λ (script : Vec QueueCommand Global). script.items) in omega (arith, is, within, n)

-- what is read at the seat's number is its script
script_there : (scripts : List (Vec QueueCommand Global)) (number its : ℕ) (script : Vec QueueCommand Global) (read : List QueueCommand) → number ≡ its → its < length (map (λ (one : Vec QueueCommand Global). one.items) scripts)
    → script ≡ get_or scripts number script → read ≡ script.items → read ≡ script_at (map (λ (one : Vec QueueCommand Global). one.items) scripts) its
script_there scripts number its script read is within there reads =
    let items : Vec QueueCommand Global → List QueueCommand = λ one. one.items in
    reads ∙ ap items there ∙ sym (get_or-map items scripts number script [] (script_within scripts number its is within)) ∙ ap (λ (n : ℕ). script_at (map items scripts) n) is

pub overflow_cast-number : goal.overflow_cast-number
overflow_cast-number g c = let x = c.number-number.type_inv in omega (arith, x)

pub offset_bounds-scripts-number : goal.offset_bounds-scripts-number
offset_bounds-scripts-number g c = let x = c.number-number.type_inv in omega (arith, x)

pub bounds-scripts-number : goal.bounds-scripts-number
bounds-scripts-number g c = script_within c.captures.scripts.now c.number-number.result c.args.seat.number c.number-number.ensures c.requires.scripted

pub work-requires-clause-of_table : goal.work-requires-clause-of_table
work-requires-clause-of_table g c κs within = c.requires.of_table

pub work-requires-clause-may : goal.work-requires-clause-may
work-requires-clause-may g c κs within =
    let there = script_there c.captures.scripts.now c.number-number.result c.args.seat.number c.index-scripts-number.result c.as_slice.result.now c.number-number.ensures c.requires.scripted c.index-scripts-number.is c.as_slice.ensures.value in
    subst (λ (script : List QueueCommand). MayServe script c.args.seat) (sym there) c.requires.may

pub returns : goal.returns
returns g c =
    let there = script_there c.captures.scripts.now c.number-number.result c.args.seat.number c.index-scripts-number.result c.as_slice.result.now c.number-number.ensures c.requires.scripted c.index-scripts-number.is c.as_slice.ensures.value in
    subst (λ (script : List QueueCommand). IfOk c.work.result (HasWorked g.N.HeldName.table g.N.HeldName.heap c.args.seat.number script)) there c.work.ensures
