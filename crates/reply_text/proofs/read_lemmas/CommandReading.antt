-- The command that was read by its words, or that there is none.
use Rattle.std.proofs.Common.{◌≡◌, ◌≢◌, ℕ, ◌<◌, ◌^◌, ◌&&◌, List, [], ◌∷◌, ◌++◌, Bool, true, false, cond, Option, Some, None, Ok, Err, option_map, bytes_eq, decimal, nat_le, refl, arith, rules}
use Rattle.std.specs.Map.{lookup}
use Rattle.std.proofs.lemmas.Bool.{eqb-true}
use Rattle.heap_model.specs.Command.{IsCommand, IsWithin, IsTarget, IsRegister, IsIndex}
use Rattle.heap_model.specs.declared.command.Command.{Command}
use Rattle.heap_model.specs.declared.command.Command.TheVariants.{New, Array, Get, Set, Cas, Num, Nil, Copy, Same, Len, Poll, Collect, Leave}
use Rattle.script_text.specs.declared.cause.Cause.{Cause}
use Rattle.script_text.specs.declared.cause.Cause.TheVariants.{OutOfRange, TooManyWords}
use Rattle.script_text.specs.Commands.{version_commands}
use Rattle.script_text.specs.Grammar.{IsScripted}
use Rattle.script_text.specs.LineFaults.{command_fault, named_fault}
use Rattle.script_text.specs.Numbers.{number_of}
use Rattle.script_text.specs.Operands.{Range, target_range, register_range, index_range, commands, commands_with, fault_or, after_number, operands_fault}
use Rattle.script_text.specs.Words.{command_words}
use Rattle.script_text.proofs.Numbers.{number_below-decimal}
use Rattle.reply_text.specs.read.Commands.{within, operand_of, operands_at, scripted_at, command_at}
use Rattle.reply_text.specs.read.Tokens.{◌>>=◌}
use Rattle.reply_text.specs.Written.{IsSpelled}

-- an operand in the range is read
operand_of-decimal : (least most n : ℕ) → most < 10 ^ 10 → IsWithin least most n → operand_of (least, most) (decimal n) ≡ Some n
operand_of-decimal least most n fits h =
    let above : nat_le least n ≡ true = search rules in
    let below : nat_le n most ≡ true = search rules in
    rw (number_below-decimal (10 ^ 10) n (omega arith) (omega arith), above, below) refl

target_of : (d : ℕ) → IsTarget d → operand_of target_range (decimal d) ≡ Some d
target_of d h = operand_of-decimal 1 15 d (omega arith) h

register_of : (r : ℕ) → IsRegister r → operand_of register_range (decimal r) ≡ Some r
register_of r h = operand_of-decimal 0 15 r (omega arith) (omega arith, h)

index_of : (i : ℕ) → IsIndex i → operand_of index_range (decimal i) ≡ Some i
index_of i h = operand_of-decimal 0 4096 i (omega arith) (omega arith, h)

-- the command that begins with the first word
abbrev pub first_command : ℕ → List (List ℕ) → Option (Command × List (List ℕ))
first_command version [] = None
first_command version (word ∷ rest) = command_at version word rest

-- what a script may have is spelled in a text of its version
pub scripted_command_is_spelled : (version : ℕ) (command : Command) → IsScripted (version_commands version) command → IsSpelled version command
scripted_command_is_spelled version (Cas r i a v) is = eqb-true version 2 is.0
scripted_command_is_spelled version _ is = tt

-- a command that was spelled is read
pub first_command-words : (version : ℕ) (command : Command) (rest : List (List ℕ)) → IsCommand command → IsSpelled version command →
    first_command version (command_words command ++ rest) ≡ Some (command, rest)
first_command-words version (New d fields) rest h is = rw (target_of d h.0, operand_of-decimal 1 47 fields (omega arith) h.1) refl
first_command-words version (Array d cells) rest h is = rw (target_of d h.0, operand_of-decimal 1 4096 cells (omega arith) h.1) refl
first_command-words version (Get d r i) rest h is = rw (target_of d h.0, register_of r h.1, index_of i h.2) refl
first_command-words version (Set r i v) rest h is = rw (register_of r h.0, index_of i h.1, register_of v h.2) refl
first_command-words version (Cas r i a v) rest h is = rw (is, register_of r h.0, index_of i h.1, register_of a h.2, register_of v h.3) refl
first_command-words version (Num d n) rest h is = rw (target_of d h.0, operand_of-decimal 0 1073741823 n (omega arith) (omega arith, omega (arith, h.1))) refl
first_command-words version (Nil d) rest h is = rw (target_of d h) refl
first_command-words version (Copy d r) rest h is = rw (target_of d h.0, register_of r h.1) refl
first_command-words version (Same a b) rest h is = rw (register_of a h.0, register_of b h.1) refl
first_command-words version (Len r) rest h is = rw (register_of r h) refl
first_command-words version Poll rest h is = refl
first_command-words version Collect rest h is = refl
first_command-words version Leave rest h is = refl

-- what follows the first operand
abbrev operands_after : List Range → Option (ℕ × List (List ℕ)) → Option (List ℕ × List (List ℕ))
operands_after ranges found = do
  first ← found
  more ← operands_at ranges first.1
  Some (first.0 ∷ more.0, more.1)

operands_after-None : (range : Range) (ranges : List Range) (n : Option ℕ) (rest : List (List ℕ)) (cause : Cause) →
    (operands_fault ranges rest ≡ Some cause → operands_at ranges rest ≡ None) →
    fault_or (operands_fault ranges) (after_number range n rest) ≡ Some cause →
    operands_after ranges (option_map (λ x. (x, rest)) (n >>= within range)) ≡ None
operands_after-None range ranges None rest cause none e = refl
operands_after-None range ranges (Some n) rest cause none e =
    let P : Bool → Type 0 = λ b. fault_or (operands_fault ranges) (cond b (Ok rest) (Err OutOfRange)) ≡ Some cause →
    operands_after ranges (option_map (λ x. (x, rest)) (cond b (Some n) None)) ≡ None in
    let parts : (b : Bool) → P b = λ b. elim b as P [ true ↦ λ e. rw (none e) refl | false ↦ λ e. refl ] in
    parts (nat_le range.0 n && nat_le n range.1) e

operands_at-None : (ranges : List Range) (words : List (List ℕ)) (cause : Cause) → cause ≢ TooManyWords → operands_fault ranges words ≡ Some cause → operands_at ranges words ≡ None
operands_at-None [] [] cause early e = cc
operands_at-None [] (word ∷ rest) cause early e = absurd (early (cc))
operands_at-None (range ∷ ranges) [] cause early e = refl
operands_at-None (range ∷ ranges) (word ∷ rest) cause early e =
    operands_after-None range ranges (number_of word) rest cause (operands_at-None ranges rest cause early) e

-- what follows the name, with the ranges that belong to it
abbrev command_after : List ℕ → Option (List Range) → List (List ℕ) → Option (Command × List (List ℕ))
command_after name found rest = do
  ranges ← found
  numbers ← operands_at ranges rest
  command ← lookup (bytes_eq name) (commands_with numbers.0)
  Some (command, numbers.1)

command_after-None : (name : List ℕ) (ranges : Option (List Range)) (rest : List (List ℕ)) (cause : Cause) → cause ≢ TooManyWords → named_fault ranges rest ≡ Some cause → command_after name ranges rest ≡ None
command_after-None name None rest cause early e = refl
command_after-None name (Some ranges) rest cause early e = rw (operands_at-None ranges rest cause early e) refl

-- where the words of a command have a fault before they end, they begin with none
pub scripted_at-None : (name : List ℕ) (rest : List (List ℕ)) (cause : Cause) → cause ≢ TooManyWords → command_fault commands (name ∷ rest) ≡ Some cause → scripted_at name rest ≡ None
scripted_at-None name rest cause early e = command_after-None name (lookup (bytes_eq name) commands) rest cause early e
