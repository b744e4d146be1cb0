-- The spine words of which marked fragments tell, and the fragments of the arrays that begin at these.
use Rattle.std.specs.Prelude.{ℕ, zero, suc, ◌+◌, ◌-◌, ◌*◌, List}
use Rattle.std.specs.Int.{bit_at}
use Rattle.heap_words.specs.Control.{marked_at, scanned_at}
use Rattle.heap_model.specs.declared.heap.Heap.{Heap}
use Rattle.heap_model.specs.Limits.{group_fragments}
use Rattle.core_machine.specs.declared.table.address.Address.TheVariants.{Word}
use Rattle.core_machine.specs.machine.Sums.{sum_upto}
use Rattle.core_machine.specs.table.Decode.{spine_words_in}
use Rattle.core_machine.specs.table.Layout.{at}
use Rattle.core_rule.specs.turns.TurnsLeft.{scanned_count}
use Rattle.core_rule.specs.words.ControlWords.{control_of}

-- the number where the bit is set, and else 0
abbrev pub where_set : ℕ → ℕ → ℕ
where_set zero n = 0
where_set (suc bit) n = n

-- how many spine words a fragment's first word tells, where the fragment is marked
abbrev pub told_words : Heap → List ℕ → ℕ → ℕ
told_words heap words f = where_set (bit_at (control_of heap words f) (marked_at f)) (spine_words_in (at heap words (Word f 0)))

-- how many fragments an array has whose first word tells so many spine words; 0 where it tells none
abbrev pub fragments_told : ℕ → ℕ
fragments_told zero = 0
fragments_told (suc words) = words + 2

-- how many spine words all scanned fragments tell
abbrev pub scanned_words : Heap → List ℕ → ℕ
scanned_words heap words = sum_upto (group_fragments * heap.groups) (λ f. where_set (bit_at (control_of heap words f) (scanned_at f)) (told_words heap words f))

-- how many fragments the arrays have of which the fragments before this one tell
abbrev pub fragments_before : Heap → List ℕ → ℕ → ℕ
fragments_before heap words f = sum_upto f (λ g. fragments_told (told_words heap words g))

-- how many fragments aren't scanned yet
abbrev pub fragments_unscanned : Heap → List ℕ → ℕ
fragments_unscanned heap words = group_fragments * heap.groups - scanned_count heap words

-- how many spine words aren't scanned yet, since all arrays have no more than the heap has fragments
abbrev pub words_unscanned : Heap → List ℕ → ℕ
words_unscanned heap words = group_fragments * heap.groups - scanned_words heap words
