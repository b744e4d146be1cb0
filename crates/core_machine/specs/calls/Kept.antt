-- What a seat keeps between two calls, and what is known of the steps that its call has made.
use Rattle.std.specs.Prelude.{◌≡◌, ℕ, Bool, List, []}
use Rattle.heap_model.specs.declared.entry.Entry.{Entry}
use Rattle.core_machine.specs.declared.seat.register.Register.{Register}
use Rattle.core_machine.specs.declared.step.Step.{Step}
use Rattle.core_machine.specs.seat.Looks.{Looks, forgotten, seen_phase}
use Rattle.core_machine.specs.seat.Seat.{Seat}

-- what a seat keeps between two calls, but for its last command and its entries
pub record Kept : Type 0 where
  -- the sixteen registers
  pub registers : List Register
  -- under which stamp each was read from a field
  pub seen : List ℕ
  -- own fragments that no call uses
  pub reserve : List ℕ
  -- the group at which the next gather begins
  pub cursor : ℕ
  -- the phase that it answered last
  pub answered : ℕ
  -- how many objects it made
  pub made : ℕ
  -- how many sets it did
  pub sets : ℕ
  -- what it found out by the inner calls of its collects
  pub looks : Looks
  -- whether it has left
  pub left : Bool

-- what this seat keeps
abbrev pub kept_of : Seat → Kept
kept_of seat = record {
  registers = seat.registers;
  seen = seat.seen;
  reserve = seat.reserve;
  cursor = seat.cursor;
  answered = seat.answered;
  made = seat.made;
  sets = seat.sets;
  looks = seat.looks;
  left = seat.left;
}

-- a reply forgets what was found since the one before it; this is the phase that was seen last
abbrev pub kept_replied : ℕ → Kept → Kept
kept_replied seen kept = record kept { looks = forgotten (seen_phase seen kept.looks) }

-- nothing that the seat keeps has changed but by its reply
abbrev pub KeepsAll : Kept → Kept → Type 0
KeepsAll before kept = kept ≡ kept_replied kept.looks.seen before

-- the step was made, and so much is told of the word that it found
abbrev pub WasMade : (Step → ℕ → Type 0) → Step → Type 0
WasMade tells step = (word : ℕ) × tells step word

-- nothing that the seat keeps has changed, and its own list got nothing
pub record IsUntold (before kept : Kept) (told : List Entry) : Type 0 where
  pub kept_stays : kept ≡ before
  pub none_told : told ≡ []

-- nothing is told of any word
abbrev pub tells_nothing : Step → ℕ → Type 0
tells_nothing step word = Unit {0}
