-- Where a fragment leads: by its four words, and where it is an array's first by its spine's.
use Rattle.std.specs.Prelude.{◌≡◌, ℕ, ◌-◌, nat_lt, if◌then◌else◌, List, Option, Some, None}
use Rattle.heap_words.specs.Spot.{spot_in}
use Rattle.heap_model.specs.declared.heap.Heap.{Heap}
use Rattle.core_machine.specs.declared.table.address.Address.TheVariants.{Word}
use Rattle.core_machine.specs.table.Layout.{at, spine_place}
use Rattle.heap_words.specs.Loaded.{pointer_in, payload_in}
use Rattle.core_machine.specs.table.Decode.{spine_words_in}

-- the fragment's first word tells of no spine words, as an array's meta does
abbrev pub TellsNoSpine : Heap → List ℕ → ℕ → Type 0
TellsNoSpine heap words f = spine_words_in (at heap words (Word f 0)) ≡ 0

-- where word k of a fragment's spine leads, where its first word is the meta of an array with more spine words than k
abbrev pub spine_pointer : Heap → List ℕ → ℕ → ℕ → Option ℕ
spine_pointer heap words f k =
    if nat_lt k (spine_words_in (at heap words (Word f 0))) then Some (payload_in (at heap words (spine_place (spot_in (at heap words (Word f 2))) k))) else None

-- where a source of a fragment leads: each of its four words by a link or a reference, and behind them each word of its spine
abbrev pub source_pointer : Heap → List ℕ → ℕ → ℕ → Option ℕ
source_pointer heap words f source = if nat_lt source 4 then pointer_in source (at heap words (Word f source)) else spine_pointer heap words f (source - 4)
