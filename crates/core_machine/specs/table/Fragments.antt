-- Lists of fragments, and their bits in the control words of the groups.
use Rattle.std.specs.Prelude.{ℕ, ◌+◌, ◌*◌, ◌/◌, ◌==◌, Bool, not, if◌then◌else◌, List, [], ◌∷◌, fold, filter, bit_or}
use Rattle.std.specs.List.{range_with_len}
pub use Rattle.heap_words.specs.Control.{is_clear}
use Rattle.heap_words.specs.Control.{fragment_bit_of}
use Rattle.heap_model.specs.Limits.{group_fragments}

-- the fragment is one of the group's sixteen
abbrev pub in_group : ℕ → ℕ → Bool
in_group group fragment = fragment / group_fragments == group

-- the fragment is of another group
abbrev pub out_of_group : ℕ → ℕ → Bool
out_of_group group fragment = not (in_group group fragment)

-- the fragments of the list that are in the group
abbrev pub inside_group : ℕ → List ℕ → List ℕ
inside_group group fragments = filter (in_group group) fragments

-- the fragments of the list that are in other groups
abbrev pub outside_group : ℕ → List ℕ → List ℕ
outside_group group fragments = filter (out_of_group group) fragments

-- the bits of these fragments, each by its position in its group
unfoldable pub mask_of : List ℕ → ℕ
mask_of fragments = fold (λ bits fragment. bit_or bits (fragment_bit_of fragment)) 0 fragments

-- of the first fragments of a group those whose taken bit isn't set, the lowest first
unfoldable pub clear_among : ℕ → ℕ → ℕ → List ℕ
clear_among group word count = filter (is_clear word) (range_with_len (group_fragments * group) count)

-- the fragments of a group whose taken bit isn't set
abbrev pub clear_in : ℕ → ℕ → List ℕ
clear_in group word = clear_among group word group_fragments

-- how often a fragment stands in a list
abbrev pub tally : ℕ → List ℕ → ℕ
tally fragment [] = 0
tally fragment (x ∷ xs) = (if x == fragment then 1 else 0) + tally fragment xs
