-- No fault is found in what is spelled.
use Rattle.std.proofs.Common.{◌≡◌, ℕ, ◌<◌, ◌^◌, inl, inr, List, ◌∷◌, true, Some, None, Ok, nat_lt, nat_le, codes, decimal, refl, sym, subst, arith, rules}
use Rattle.std.specs.Str.Parse.{AllDigits}
use Rattle.std.proofs.lemmas.Fmt.{decimal_is_IsNumeral}
use Rattle.heap_model.specs.declared.heap.Heap.{Heap}
use Rattle.heap_model.specs.Limits.{most_groups, most_spine, most_seats, most_fields}
use Rattle.heap_model.specs.Heap.{IsHeap}
use Rattle.heap_model.specs.Command.{IsWithin, IsTarget, IsRegister, IsIndex}
use Rattle.heap_model.specs.declared.command.Command.{Command}
use Rattle.heap_model.specs.declared.command.Command.TheVariants.{New, Array, Get, Set, Cas, Num, Nil, Copy, Same, Len, Poll, Collect, Leave}
use Rattle.heap_model.specs.declared.command.TurnCommand.{TurnCommand}
use Rattle.heap_model.specs.declared.command.TurnCommand.TheVariants as turns
use Rattle.script_text.specs.declared.command_set.CommandSet.{CommandSet}
use Rattle.script_text.specs.declared.preamble.Preamble.{Preamble}
use Rattle.script_text.specs.declared.script.Form.{Form}
use Rattle.script_text.specs.declared.script.Form.TheVariants.{Play, Run}
use Rattle.script_text.specs.declared.script.Line.{Line}
use Rattle.script_text.specs.declared.script.Line.TheVariants as lines
use Rattle.script_text.specs.Commands.{version_commands}
use Rattle.script_text.specs.HeapLine.{heap_named, heap_of}
use Rattle.script_text.specs.LineFaults.{command_fault, seat_command_fault, words_fault}
use Rattle.script_text.specs.Grammar.{IsScripted, IsTurnCommand, IsLine}
use Rattle.script_text.specs.Numbers.{number_of}
use Rattle.script_text.specs.Operands.{target_range, register_range, index_range, after_operand, turn_commands}
use Rattle.script_text.specs.Preamble.{IsPreamble, IsVersion}
use Rattle.script_text.specs.Words.{command_words, turn_words, line_words, heap_words}
use Rattle.script_text.proofs.Numbers.{number_below-decimal, number_below-None}

-- a number in the range is read
pub operand-decimal : (least most n : ℕ) (rest : List (List ℕ)) → most < 10 ^ 10 → IsWithin least most n → after_operand (least, most) (decimal n ∷ rest) ≡ Ok rest
operand-decimal least most n rest fits within =
    let above : nat_le least n ≡ true = search rules in
    let below : nat_le n most ≡ true = search rules in
    rw (number_below-decimal (10 ^ 10) n (omega arith) (omega arith), above, below) refl

target-decimal : (d : ℕ) (rest : List (List ℕ)) → IsTarget d → after_operand target_range (decimal d ∷ rest) ≡ Ok rest
target-decimal d rest h = operand-decimal 1 15 d rest (omega arith) h

register-decimal : (r : ℕ) (rest : List (List ℕ)) → IsRegister r → after_operand register_range (decimal r ∷ rest) ≡ Ok rest
register-decimal r rest h = operand-decimal 0 15 r rest (omega arith) (omega arith, h)

index-decimal : (i : ℕ) (rest : List (List ℕ)) → IsIndex i → after_operand index_range (decimal i ∷ rest) ≡ Ok rest
index-decimal i rest h = operand-decimal 0 4096 i rest (omega arith) (omega arith, h)

-- no fault is found in the words of a command
pub command_fault-none : (has : CommandSet) (command : Command) → IsScripted has command → seat_command_fault has (command_words command) ≡ None
command_fault-none has (New d fields) h = rw (target-decimal d _ h.0, operand-decimal 1 47 fields _ (omega arith) h.1) refl
command_fault-none has (Array d cells) h = rw (target-decimal d _ h.0, operand-decimal 1 4096 cells _ (omega arith) h.1) refl
command_fault-none has (Get d r i) h = rw (target-decimal d _ h.0, register-decimal r _ h.1, index-decimal i _ h.2) refl
command_fault-none has (Set r i v) h = rw (register-decimal r _ h.0, index-decimal i _ h.1, register-decimal v _ h.2) refl
command_fault-none has (Cas r i a v) h = rw (h.0, register-decimal r _ h.1.0, index-decimal i _ h.1.1, register-decimal a _ h.1.2, register-decimal v _ h.1.3) refl
command_fault-none has (Num d n) h = rw (target-decimal d _ h.0, operand-decimal 0 1073741823 n _ (omega arith) (omega arith, omega (arith, h.1))) refl
command_fault-none has (Nil d) h = rw (target-decimal d _ h) refl
command_fault-none has (Copy d r) h = rw (target-decimal d _ h.0, register-decimal r _ h.1) refl
command_fault-none has (Same a b) h = rw (register-decimal a _ h.0, register-decimal b _ h.1) refl
command_fault-none has (Len r) h = rw (register-decimal r _ h) refl
command_fault-none has Poll h = refl
command_fault-none has Collect h = rw h refl
command_fault-none has Leave h = absurd h

pub turn_fault-none : (command : TurnCommand) → IsTurnCommand command → command_fault turn_commands (turn_words command) ≡ None
turn_fault-none (turns.Turns n) h = rw (operand-decimal 0 1000000 n _ (omega arith) (omega arith, h)) refl
turn_fault-none turns.Cycle h = refl

-- the word of the collector is no number
pub number_of-c : number_of (codes "c") ≡ None
number_of-c = number_below-None (10 ^ 10) (codes "c") (λ n small e.
    let P : List ℕ → Type 0 = λ ds. AllDigits 10 ds in
    let digits = subst P (sym e) (decimal_is_IsNumeral n (omega arith)).0.1 in
    absurd (omega (arith, digits.0)))

-- nor in those of a line
pub words_fault-none : (form : Form) (preamble : Preamble) (line : Line) → IsPreamble preamble → IsLine form preamble line → words_fault form preamble (line_words line) ≡ None
words_fault-none form preamble (lines.Seat seat command) is h =
    let heap = is.heap in
    let below : nat_lt seat preamble.heap.seats ≡ true = search (rules, h.0) in
    rw (number_below-decimal (10 ^ 10) seat (omega arith) (omega (arith, h.0)), below) (command_fault-none (version_commands preamble.version) command h.1)
words_fault-none Play preamble (lines.Turns command) is h = rw number_of-c (turn_fault-none command h)
words_fault-none Run preamble (lines.Turns command) is h = absurd h

-- the words of a heap line ask for the heap
heap_named-words : (heap : Heap) → IsHeap heap → heap_named (codes "heap") (decimal heap.groups) (decimal heap.spine) (decimal heap.seats) (Some heap.board) ≡ Some heap
heap_named-words heap h =
    let groups : number_of (decimal heap.groups) ≡ Some heap.groups = number_below-decimal (10 ^ 10) heap.groups (omega arith) (omega arith) in
    let spine : number_of (decimal heap.spine) ≡ Some heap.spine = number_below-decimal (10 ^ 10) heap.spine (omega arith) (omega arith) in
    let seats : number_of (decimal heap.seats) ≡ Some heap.seats = number_below-decimal (10 ^ 10) heap.seats (omega arith) (omega arith) in
    let some_group : nat_le 1 heap.groups ≡ true = search (rules, h.some_group) in
    let groups_fit : nat_le heap.groups most_groups ≡ true = search (rules, h.groups_fit) in
    let spine_fits : nat_le heap.spine most_spine ≡ true = search (rules, h.spine_fits) in
    let some_seat : nat_le 1 heap.seats ≡ true = search (rules, h.some_seat) in
    let seats_fit : nat_le heap.seats most_seats ≡ true = search (rules, h.seats_fit) in
    let some_board : nat_le 1 heap.board ≡ true = search (rules, h.some_board) in
    let board_fits : nat_le heap.board most_fields ≡ true = search (rules, h.board_fits) in
    rw (groups, spine, seats, some_group, groups_fit, spine_fits, some_seat, seats_fit, some_board, board_fits) refl

pub heap_of-words : (preamble : Preamble) → IsPreamble preamble → heap_of preamble.version (codes "heap" ∷ heap_words preamble) ≡ Some preamble.heap
heap_of-words preamble h = by h.version where
  by : IsVersion preamble.version → heap_of preamble.version (codes "heap" ∷ heap_words preamble) ≡ Some preamble.heap
  by (inl first) = rw (first, ← h.board first) (heap_named-words preamble.heap h.heap)
  by (inr second) =
      let board : number_of (decimal preamble.heap.board) ≡ Some preamble.heap.board = number_below-decimal (10 ^ 10) preamble.heap.board (omega arith) (omega (arith, h.heap.board_fits)) in
      rw (second, board) (heap_named-words preamble.heap h.heap)
