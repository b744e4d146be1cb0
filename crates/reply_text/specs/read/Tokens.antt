-- The parts of a line that are read one after the other: each function answers what stands first, and the words after it.
use Rattle.std.specs.Prelude.{◌≡◌, ℕ, ◌+◌, ◌*◌, ◌==◌, List, [], ◌∷◌, Option, Some, None, Result, MatchResult, option_map, bytes_eq, codes, if◌then◌else◌}
use Rattle.std.specs.List.{slice_split}
use Rattle.heap_model.specs.Limits.{most_seats, name_limit, stamp_limit}
use Rattle.heap_model.specs.declared.id.Id.{Id}
use Rattle.heap_model.specs.declared.id.Id.TheVariants.{Board, Made}
use Rattle.script_text.specs.Numbers.{number_below}

-- what the second step gives after the first, where both give something
infixl 10 ◌>>=◌
abbrev pub ◌>>=◌ : {A B : Type 0} → Option A → (A → Option B) → Option B
None >>= f = None
(Some x) >>= f = f x

-- what a read gave is what stands first, with these words behind it; where it failed, nothing stands there
abbrev pub ReadsAs : {A E : Type 0} → Result A E → Option (A × List (List ℕ)) → List (List ℕ) → Type 0
ReadsAs result first rest = MatchResult result (λ x. first ≡ Some (x, rest)) (λ _. first ≡ None)

-- what this reads the first word as, with the words after it
abbrev pub first_by : {A : Type 0} → (List ℕ → Option A) → List (List ℕ) → Option (A × List (List ℕ))
first_by read [] = None
first_by read (word ∷ rest) = option_map (λ x. (x, rest)) (read word)

-- what this makes of the first word and those after it
abbrev pub by_first : {A : Type 0} → (List ℕ → List (List ℕ) → Option A) → List (List ℕ) → Option A
by_first read [] = None
by_first read (word ∷ rest) = read word rest

-- the words after this one, where it stands first
abbrev pub after_word : List ℕ → List (List ℕ) → Option (List (List ℕ))
after_word text [] = None
after_word text (word ∷ rest) = if bytes_eq word text then Some rest else None

-- the first word as a number below the limit, with the words after it
abbrev pub number_at : ℕ → List (List ℕ) → Option (ℕ × List (List ℕ))
number_at limit words = first_by (number_below limit) words

-- the two parts, where there are just two
abbrev pub pair_of : List (List ℕ) → Option (List ℕ × List ℕ)
pair_of (first ∷ second ∷ []) = Some (first, second)
pair_of _ = None

-- the parts of a word before and after its only mark
abbrev pub word_parts : ℕ → List ℕ → Option (List ℕ × List ℕ)
word_parts mark word = pair_of (slice_split (λ b. b == mark) word)

-- the id of an object that a seat made, by its two parts
abbrev pub made_of : List ℕ × List ℕ → Option Id
made_of parts = do
  seat ← number_below most_seats parts.0
  count ← number_below name_limit parts.1
  Some (Made seat count)

-- the id that a word is
abbrev pub word_id : List ℕ → Option Id
word_id word = if bytes_eq word (codes "board") then Some Board else (word_parts 46 word >>= made_of)

-- the stamp of a seat's set of this count, which begins at 1
abbrev pub set_of : ℕ → ℕ → Option ℕ
set_of seat count = if count == 0 then None else Some ((seat + 1) * stamp_limit + count)

-- the stamp of a set, by its two parts
abbrev pub stamp_from : List ℕ × List ℕ → Option ℕ
stamp_from parts = do
  seat ← number_below most_seats parts.0
  count ← number_below stamp_limit parts.1
  set_of seat count

-- the stamp that a word is
abbrev pub word_stamp : List ℕ → Option ℕ
word_stamp word = if bytes_eq word (codes "-") then Some 0 else (word_parts 58 word >>= stamp_from)
