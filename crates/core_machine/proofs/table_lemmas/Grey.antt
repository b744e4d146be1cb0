-- The lowest grey fragment is one of the group's sixteen.
use Rattle.std.proofs.Common.{◌≡◌, ℕ, ◌<◌, true, false, Some, None, arith}
use Rattle.std.specs.Prelude.{IfSome}
use Rattle.std.specs.List.{range_with_len}
use Rattle.heap_words.specs.Control.{is_grey, lowest_grey_of}
use Rattle.core_machine.proofs.table_lemmas.FindLemmas.{found_is_within, found_number_passes, none_found_none_passes}

-- the position that is found
pub lowest_grey_within_group : (word : ℕ) → IfSome (lowest_grey_of word) (λ position. position < 16)
lowest_grey_within_group word = found_is_within (is_grey word) 0 16

pub grey_position_within_group : (word position : ℕ) → lowest_grey_of word ≡ Some position → position < 16
grey_position_within_group word position is = rw is at (lowest_grey_within_group word)

-- the one that is found is grey
pub found_position_is_grey : (word position : ℕ) → lowest_grey_of word ≡ Some position → is_grey word position ≡ true
found_position_is_grey word position is = found_number_passes (is_grey word) (range_with_len 0 16) position is

-- where none is found none of the sixteen is grey
pub none_found_none_grey : (word position : ℕ) → lowest_grey_of word ≡ None → position < 16 → is_grey word position ≡ false
none_found_none_grey word position none within = none_found_none_passes (is_grey word) 0 16 position none (omega arith) within
