-- A call goes by links to a record's field.
use Rattle.std.specs.Prelude.{◌≡◌, ℕ, ◌<◌, ◌⊎◌, List, None}
use Rattle.heap_words.specs.Loaded.{link_of, length_of, array_length_of}
use Rattle.heap_words.specs.declared.meta.Meta.{Meta}
use Rattle.core_machine.specs.declared.point.Access.TheVariants.{LoadingMeta, Getting, LoadingOld, Swapping, ShadingSide, Replacing}
use Rattle.core_machine.specs.declared.point.Point.{Point}
use Rattle.core_machine.specs.declared.point.Point.TheVariants as points
use Rattle.core_machine.specs.declared.step.AccessStep.TheVariants.{WalkLoad}
use Rattle.core_machine.specs.declared.step.Step.{Step}
use Rattle.core_machine.specs.declared.step.Step.TheVariants.{Access}
use Rattle.core_machine.specs.seat.Commands.{field_of}
use Rattle.core_machine.specs.seat.FitsAccess.{NamesField}
use Rattle.core_machine.specs.seat.Seat.{Seat}
use Rattle.heap_table.specs.Begun.{next_seat}
use Rattle.heap_table.specs.Made.{Made, FoundIn}
use Rattle.heap_table.specs.SeatHeld.{SeatHeld}
use Rattle.heap_table.specs.Told.{ToldAtStep}

-- the word is a record's meta: it tells this length, and leads to this next fragment
pub record TellsMeta (word : ℕ) (meta : Meta) : Type 0 where
  pub a_record : array_length_of word ≡ None
  pub length_is : length_of word ≡ meta.length
  pub next_is : link_of word ≡ meta.next

-- the call in flight has just loaded this meta at the object's first fragment, where so much was told, and goes on to its field, which the object has
pub record BeginsWalking (held : SeatHeld) (head : ℕ) (meta : Meta) (field : ℕ) : Type 0 where
  pub before : Seat
  pub word : ℕ
  pub loading : before.point ≡ points.Access LoadingMeta
  pub head_is : before.reached ≡ head
  pub names : NamesField before.command
  pub field_is : field_of before.command ≡ field
  pub goes_on : held.seat ≡ next_seat held.heap held.number before word
  pub told : ToldAtStep held.heap held.number before word
  pub tells : TellsMeta word meta
  pub within : field < meta.length

-- one of these steps found the word, or it is the meta that was found at the first fragment before them
abbrev pub HasFound : List Made → ℕ → Meta → Step → ℕ → Type 0
HasFound made head meta step word = FoundIn made step word ⊎ ((step ≡ Access (WalkLoad head)) × TellsMeta word meta)

-- the seat is at the field: it is about to load it, to swap its word or to compare it, which a shade may come before
abbrev pub IsAtField : Point → Type 0
IsAtField (points.Access Getting) = Unit {0}
IsAtField (points.Access LoadingOld) = Unit {0}
IsAtField (points.Access Swapping) = Unit {0}
IsAtField (points.Access (ShadingSide side)) = Unit {0}
IsAtField (points.Access Replacing) = Unit {0}
IsAtField _ = ⊥
