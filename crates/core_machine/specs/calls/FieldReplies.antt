-- What the replies of a call on an object stand on, and what the seat keeps after them.
use Rattle.std.specs.Prelude.{◌≡◌, ◌≢◌, ℕ, ◌+◌, ◌≤◌, slice_set, Option, Some, None}
use Rattle.heap_words.specs.Loaded.{head_of, length_of, stamp_of}
use Rattle.heap_model.specs.declared.command.Command.{Command}
use Rattle.heap_model.specs.declared.command.Command.TheVariants as commands
use Rattle.heap_model.specs.declared.id.Value.{Value}
use Rattle.heap_model.specs.graph.Growth.{set_stamp}
use Rattle.core_machine.specs.declared.seat.register.Register.{Register}
use Rattle.core_machine.specs.declared.seat.register.Register.TheVariants.{Object}
use Rattle.core_machine.specs.declared.step.Step.{Step}
use Rattle.core_machine.specs.declared.step.Step.TheVariants as steps
use Rattle.core_machine.specs.declared.step.AccessStep.TheVariants.{NameLoad, GetLoad, Swap, CompareSwap}
use Rattle.core_machine.specs.calls.Kept.{Kept, kept_replied, KeepsAll}
use Rattle.core_machine.specs.calls.Reaching.{HasOpened, ReachesField}
use Rattle.core_machine.specs.seat.Commands.{target_of, source_of, expected_of, field_of}
use Rattle.core_machine.specs.seat.FitsAccess.{IsGet, IsSet, IsCas, NamesField}
use Rattle.core_machine.specs.seat.Registers.{register_in, seen_in, register_word, value_of}
use Rattle.core_machine.specs.table.Decode.{id_of, plain_of}

-- what the register holds that got this field: its object where it refers to one, which was named
abbrev pub IsHeldOf : (Step → ℕ → Type 0) → ℕ → Register → Option ℕ → Type 0
IsHeldOf tells word register None = register ≡ plain_of word
IsHeldOf tells word register (Some head) = (name : ℕ) × tells (steps.Access (NameLoad head)) name × (register ≡ Object head (id_of name))

-- the field was reached and loaded: the register holds what it told
pub record IsGot (tells : Step → ℕ → Type 0) (command : Command) (before kept : Kept) (value : Value) (stamp : ℕ) : Type 0 where
  pub a_get : IsGet command
  pub reached : ℕ
  pub part : ℕ
  pub field : ReachesField tells command before reached part
  pub word : ℕ
  pub told : tells (steps.Access (GetLoad reached part)) word
  pub stamp_is : stamp ≡ stamp_of word
  pub register : Register
  pub held : IsHeldOf tells word register (head_of word)
  pub value_is : value ≡ value_of register
  pub kept_is : kept ≡ kept_replied kept.looks.seen (record before {
    registers = slice_set before.registers (target_of command) register;
    seen = slice_set before.seen (target_of command) stamp;
  })

-- what a set or a compare and swap puts into its field: the register's value, under the stamp of the seat's next set
abbrev pub word_to_set : ℕ → Command → Kept → ℕ
word_to_set number command before = register_word (register_in before.registers (source_of command)) (set_stamp number (before.sets + 1))

-- what a compare and swap expects there: the register's value, under the stamp that it was seen under
abbrev pub word_expected : Command → Kept → ℕ
word_expected command before = register_word (register_in before.registers (expected_of command)) (seen_in before.seen (expected_of command))

-- the field was reached and got the register's value: the seat has done one set more
pub record IsSetTo (tells : Step → ℕ → Type 0) (number : ℕ) (command : Command) (before kept : Kept) (stamp : ℕ) : Type 0 where
  pub a_set : IsSet command
  pub reached : ℕ
  pub part : ℕ
  pub field : ReachesField tells command before reached part
  pub word : ℕ
  pub told : tells (steps.Access (Swap reached part (word_to_set number command before))) word
  pub stamp_is : stamp ≡ stamp_of word
  pub kept_is : kept ≡ kept_replied kept.looks.seen (record before { sets = before.sets + 1 })

-- the field was reached and compared
pub record IsCompared (tells : Step → ℕ → Type 0) (number : ℕ) (command : Command) (before : Kept) (word : ℕ) : Type 0 where
  pub a_cas : IsCas command
  pub reached : ℕ
  pub part : ℕ
  pub field : ReachesField tells command before reached part
  pub told : tells (steps.Access (CompareSwap reached part (word_expected command before) (word_to_set number command before))) word

-- it had the expected word and got the register's value: the seat has done one set more
pub record IsSwapped (tells : Step → ℕ → Type 0) (number : ℕ) (command : Command) (before kept : Kept) (stamp : ℕ) : Type 0 where
  pub compared : IsCompared tells number command before (word_expected command before)
  pub stamp_is : stamp ≡ stamp_of (word_expected command before)
  pub kept_is : kept ≡ kept_replied kept.looks.seen (record before { sets = before.sets + 1 })

-- it had another word
pub record HasOther (tells : Step → ℕ → Type 0) (number : ℕ) (command : Command) (before kept : Kept) (stamp : ℕ) : Type 0 where
  pub word : ℕ
  pub compared : IsCompared tells number command before word
  pub other : word ≢ word_expected command before
  pub stamp_is : stamp ≡ stamp_of word
  pub keeps : KeepsAll before kept

-- the meta was loaded, by which there is no such field
pub record HasNoField (tells : Step → ℕ → Type 0) (command : Command) (before kept : Kept) : Type 0 where
  pub names : NamesField command
  pub head : ℕ
  pub meta : ℕ
  pub opened : HasOpened tells command before head meta
  pub past : length_of meta ≤ field_of command
  pub keeps : KeepsAll before kept

-- the meta was loaded, which tells the length
pub record HasLength (tells : Step → ℕ → Type 0) (command : Command) (before kept : Kept) (n : ℕ) : Type 0 where
  pub register : ℕ
  pub a_len : command ≡ commands.Len register
  pub head : ℕ
  pub meta : ℕ
  pub opened : HasOpened tells command before head meta
  pub length_is : n ≡ length_of meta
  pub keeps : KeepsAll before kept
