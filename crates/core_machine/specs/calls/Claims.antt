-- What a call has claimed for a new object, group by group, what it gives back of that, and what its own list got of both.
use Rattle.std.specs.Prelude.{◌≡◌, ℕ, ◌+◌, ◌/◌, ◌%◌, ◌<◌, ◌≤◌, List, [], ◌∷◌, ◌++◌, length, sum, All}
use Rattle.heap_model.specs.declared.command.Command.{Command}
use Rattle.heap_model.specs.declared.entry.Entry.{Entry}
use Rattle.heap_model.specs.declared.heap.Heap.{Heap}
use Rattle.heap_model.specs.calls.SeatCalls.{takes_of, gives_of, IsGroupCount}
use Rattle.heap_model.specs.Limits.{group_fragments}
use Rattle.heap_model.specs.Needs.{need_of, spine_need_of}
use Rattle.core_machine.specs.declared.step.Step.{Step}
use Rattle.core_machine.specs.declared.step.Step.TheVariants.{Making, Spine}
use Rattle.core_machine.specs.declared.step.MakingStep.TheVariants.{Claim}
use Rattle.core_machine.specs.declared.step.SpineStep.TheVariants.{BudgetAdd}
use Rattle.core_machine.specs.calls.Kept.{Kept}
use Rattle.core_machine.specs.seat.Commands.{IsArrayCall}
use Rattle.core_machine.specs.seat.Making.{first_group_of}
use Rattle.core_machine.specs.table.Fragments.{inside_group, outside_group, clear_in}

-- so many of the hand's fragments are of its first fragment's group, and so on with the others
abbrev pub AreGroupsOf : List ℕ → List ℕ → Type 0
AreGroupsOf [] hand = hand ≡ []
AreGroupsOf (count ∷ counts) hand = IsGroupCount count × (length (inside_group (first_group_of hand) hand) ≡ count) × AreGroupsOf counts (outside_group (first_group_of hand) hand)

-- what was claimed so far: before the last claim it was too little
pub record HasTaken (number unborn need : ℕ) (hand : List ℕ) (told : List Entry) : Type 0 where
  pub counts : List ℕ
  pub groups : AreGroupsOf counts hand
  pub shown : told ≡ takes_of number counts
  pub needed : (earlier : List ℕ) (last : ℕ) → counts ≡ earlier ++ last ∷ [] → unborn + sum earlier < need
  pub little_left : unborn + length hand ≤ need + 15

-- what was claimed is given back: with what is left every claim is
pub record GivesBackAll (number given : ℕ) (hand : List ℕ) (told : List Entry) : Type 0 where
  pub counts : List ℕ
  pub of_groups : All IsGroupCount counts
  pub all : sum counts ≡ length hand + given
  pub left : List ℕ
  pub groups : AreGroupsOf left hand
  pub shown : told ++ gives_of number left ≡ takes_of number counts ++ gives_of number counts

-- each of the fragments is of one of so many groups from the cursor's on, wrapping at the last
abbrev pub AreOfTried : ℕ → ℕ → ℕ → List ℕ → Type 0
AreOfTried groups cursor tried fragments = All (λ fragment. (i : ℕ) × (i < tried) × (fragment / group_fragments ≡ (cursor + i) % groups)) fragments

-- the group was claimed, and of its fragments the hand has just those that were clear in the word found
pub record ClaimsGroup (tells : Step → ℕ → Type 0) (hand : List ℕ) (group : ℕ) : Type 0 where
  pub word : ℕ
  pub told : tells (Making (Claim group)) word
  pub got : inside_group group hand ≡ clear_in group word

-- the spine words were asked for, and beside those that were found to be granted or asked for they aren't too many
pub record IsGranted (tells : Step → ℕ → Type 0) (heap : Heap) (command : Command) : Type 0 where
  pub word : ℕ
  pub told : tells (Spine (BudgetAdd (spine_need_of command))) word
  pub enough : word + spine_need_of command ≤ heap.spine

-- so many groups were claimed from the cursor's on, and all that they gave is in the hand, and told
pub record Gathers (tells : Step → ℕ → Type 0) (heap : Heap) (number : ℕ) (command : Command) (before : Kept) (hand : List ℕ) (tried : ℕ) (told : List Entry) : Type 0 where
  pub granted : IsArrayCall command → IsGranted tells heap command
  pub few : tried ≤ heap.groups
  pub takes : HasTaken number (length before.reserve) (need_of command) hand told
  pub of_tried : AreOfTried heap.groups before.cursor tried hand
  pub claims : (i : ℕ) → i < tried → ClaimsGroup tells hand ((before.cursor + i) % heap.groups)

-- every group was claimed, what was had and claimed is too little, and what was claimed is given back
pub record GivesUp (tells : Step → ℕ → Type 0) (heap : Heap) (number : ℕ) (command : Command) (before : Kept) (hand : List ℕ) (given : ℕ) (told : List Entry) : Type 0 where
  pub claimed : List ℕ
  pub taken : List Entry
  pub gathered : Gathers tells heap number command before claimed heap.groups taken
  pub too_few : length before.reserve + length claimed < need_of command
  pub all : length hand + given ≡ length claimed
  pub gives : GivesBackAll number given hand told
