-- What the replies of a call that makes an object stand on, and what the seat keeps after them.
use Rattle.std.specs.Prelude.{◌≡◌, ℕ, ◌+◌, ◌*◌, ◌%◌, ◌/◌, ◌^◌, ◌<◌, Bool, All, List, length, slice_set, slice_index_or}
use Rattle.heap_words.specs.declared.spot.Spot.{Spot}
use Rattle.heap_model.specs.Limits.{group_fragments}
use Rattle.heap_model.specs.Needs.{need_of, spine_need_of}
use Rattle.heap_model.specs.declared.command.Command.{Command}
use Rattle.heap_model.specs.declared.entry.Entry.{Entry}
use Rattle.heap_model.specs.declared.heap.Heap.{Heap}
use Rattle.heap_model.specs.declared.id.Id.{Id}
use Rattle.heap_model.specs.declared.id.Id.TheVariants.{Made}
use Rattle.core_machine.specs.declared.seat.register.Register.TheVariants.{Object}
use Rattle.core_machine.specs.declared.step.Step.{Step}
use Rattle.core_machine.specs.declared.step.Step.TheVariants as steps
use Rattle.core_machine.specs.declared.step.MakingStep.TheVariants.{LastBirth}
use Rattle.core_machine.specs.declared.step.SpineStep.TheVariants.{BudgetAdd}
use Rattle.core_machine.specs.calls.Kept.{Kept, kept_replied, KeepsAll, WasMade}
use Rattle.core_machine.specs.calls.Claims.{Gathers}
use Rattle.core_machine.specs.calls.Making.{HasObject, HasSpine, name_after, HasStored, HasBorn}
use Rattle.core_machine.specs.seat.Commands.{MakesObject, IsArrayCall, target_of}
use Rattle.core_machine.specs.table.Fragments.{mask_of}

-- the object was gathered, stored and born: its register holds it, and the seat has made one more
pub record IsMade (tells : Step → ℕ → Type 0) (heap : Heap) (number : ℕ) (command : Command) (before kept : Kept) (told : List Entry) (id : Id) : Type 0 where
  pub an_object : MakesObject command
  pub id_is : id ≡ Made number before.made
  pub body : List ℕ
  pub between : Kept
  pub has : HasObject tells heap number command before between body told
  pub spine : Spot
  pub spined : IsArrayCall command → HasSpine tells command body spine (spine_need_of command)
  pub stored : HasStored tells command (name_after number before.made) spine body (4 * length body)
  pub last : List ℕ
  pub born : HasBorn tells last body
  pub group : ℕ
  pub black : Bool
  pub last_of_group : All (λ fragment. fragment / group_fragments ≡ group) last
  pub last_born : WasMade tells (steps.Making (LastBirth group (mask_of last) black))
  pub kept_is : kept
      ≡ kept_replied kept.looks.seen (record between {
        registers = slice_set before.registers (target_of command) (Object (slice_index_or body 0 0) id);
        seen = slice_set before.seen (target_of command) 0;
        made = before.made + 1;
      })

-- every group was claimed, and what the seat had and claimed is shown, which is too little
pub record IsFull (tells : Step → ℕ → Type 0) (heap : Heap) (number : ℕ) (command : Command) (before kept : Kept) (shown found : ℕ) : Type 0 where
  pub an_object : MakesObject command
  pub shown_is : shown ≡ need_of command
  pub claimed : List ℕ
  pub taken : List Entry
  pub gathered : Gathers tells heap number command before claimed heap.groups taken
  pub found_is : found ≡ length before.reserve + length claimed
  pub too_few : found < shown
  pub keeps : KeepsAll before kept

-- the spine words were asked for, and beside those that were found to be granted or asked for they are too many
pub record IsSpineFull (tells : Step → ℕ → Type 0) (heap : Heap) (command : Command) (before kept : Kept) (shown used : ℕ) : Type 0 where
  pub an_array : IsArrayCall command
  pub shown_is : shown ≡ spine_need_of command
  pub word : ℕ
  pub told : tells (steps.Spine (BudgetAdd (spine_need_of command))) word
  pub too_many : heap.spine < word + shown
  pub used_is : used ≡ word % 2 ^ 32
  pub keeps : KeepsAll before kept
