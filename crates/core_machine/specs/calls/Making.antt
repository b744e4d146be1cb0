-- What a call has done for the object that it makes, once that has its fragments.
use Rattle.std.specs.Prelude.{◌≡◌, ℕ, ◌+◌, ◌-◌, ◌/◌, ◌%◌, ◌<◌, ◌≤◌, ◌==◌, if◌then◌else◌, Bool, List, [], ◌∷◌, ◌++◌, length, take, drop, slice_index_or, All}
use Rattle.heap_words.specs.declared.name.Name.{Name}
use Rattle.heap_words.specs.declared.spot.Spot.{Spot}
use Rattle.heap_words.specs.Spot.{spot_in}
use Rattle.heap_model.specs.declared.command.Command.{Command}
use Rattle.heap_model.specs.declared.entry.Entry.{Entry}
use Rattle.heap_model.specs.declared.heap.Heap.{Heap}
use Rattle.heap_model.specs.Limits.{group_fragments}
use Rattle.heap_model.specs.Needs.{need_of, spine_need_of}
use Rattle.core_machine.specs.declared.step.Step.{Step}
use Rattle.core_machine.specs.declared.step.Step.TheVariants as steps
use Rattle.core_machine.specs.declared.step.MakingStep.TheVariants.{NewbornStore, Birth}
use Rattle.core_machine.specs.declared.step.SpineStep.TheVariants.{SpotClaim, SpineStore}
use Rattle.core_machine.specs.calls.Kept.{Kept, WasMade}
use Rattle.core_machine.specs.calls.Claims.{Gathers}
use Rattle.core_machine.specs.seat.Making.{newborn_word}
use Rattle.core_machine.specs.table.Fragments.{mask_of}

-- of so many groups from the cursor's on the one that was claimed last; the cursor's where none was
abbrev pub last_tried : Heap → ℕ → ℕ → ℕ
last_tried heap cursor tried = if tried == 0 then cursor else (cursor + tried - 1) % heap.groups

-- the object has the first fragments of what the seat had and claimed, and the rest is the reserve, of the group that was claimed last
pub record HasObject (tells : Step → ℕ → Type 0) (heap : Heap) (number : ℕ) (command : Command) (before kept : Kept) (body : List ℕ) (told : List Entry) : Type 0 where
  pub claimed : List ℕ
  pub tried : ℕ
  pub gathered : Gathers tells heap number command before claimed tried told
  pub enough : need_of command ≤ length before.reserve + length claimed
  pub body_is : body ≡ take (need_of command) (before.reserve ++ claimed)
  pub kept_is : kept
      ≡ record before { reserve = drop (need_of command) (before.reserve ++ claimed); cursor = last_tried heap before.cursor tried }

-- the spine stands where the word tells that was found, and its first so many words were stored, of which each names its fragment
pub record HasSpine (tells : Step → ℕ → Type 0) (command : Command) (body : List ℕ) (spine : Spot) (listed : ℕ) : Type 0 where
  pub word : ℕ
  pub told : tells (steps.Spine (SpotClaim (spine_need_of command))) word
  pub place_is : spine ≡ spot_in word
  pub lists : (k : ℕ) → k < listed → WasMade tells (steps.Spine (SpineStore spine.half (spine.offset + k) (slice_index_or body (k + 1) 0)))

-- the name of the object that a seat makes which has made so many
abbrev pub name_after : ℕ → ℕ → Name
name_after number made = record { owner = number + 1; count = made }

-- the first so many words of the object were stored, fragment by fragment
abbrev pub HasStored : (Step → ℕ → Type 0) → Command → Name → Spot → List ℕ → ℕ → Type 0
HasStored tells command name spine body stored =
    (k : ℕ) → k < stored → WasMade tells (steps.Making (NewbornStore (slice_index_or body (k / 4) 0) (k % 4) (newborn_word command name spine body (k / 4) (k % 4))))

-- these fragments, all of one group, were born
pub record IsBirth (tells : Step → ℕ → Type 0) (fragments : List ℕ) : Type 0 where
  pub group : ℕ
  pub black : Bool
  pub of_group : All (λ fragment. fragment / group_fragments ≡ group) fragments
  pub made : WasMade tells (steps.Making (Birth group (mask_of fragments) black))

-- the fragments of the object behind those in the hand were born, group by group, here the latest first
abbrev pub AreBorn : (Step → ℕ → Type 0) → List ℕ → List ℕ → List (List ℕ) → Type 0
AreBorn tells hand body [] = body ≡ hand
AreBorn tells hand body (latest ∷ earlier) = IsBirth tells latest × AreBorn tells (hand ++ latest) body earlier

-- some of the object's fragments were born, and the others are in the hand
pub record HasBorn (tells : Step → ℕ → Type 0) (hand body : List ℕ) : Type 0 where
  pub births : List (List ℕ)
  pub are : AreBorn tells hand body births
