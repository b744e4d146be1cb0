-- How many turns are left of marking, for the fragments and the spine words that aren't scanned yet.
use Rattle.std.specs.Prelude.{ℕ, ◌+◌, ◌-◌, ◌*◌, ◌/◌, List}
use Rattle.heap_model.specs.declared.heap.Heap.{Heap}
use Rattle.heap_model.specs.Limits.{group_fragments}
use Rattle.core_machine.specs.declared.collector.stage.Scan.{Scan}
use Rattle.core_rule.specs.turns.TurnsLeft.{scanned_count}
use Rattle.space_plan.specs.cycle_turns.ToldWords.{words_unscanned}

-- what is left of marking and the flip: each fragment's scan with a pass behind it, two steps for each spine word, the groups from this one on, and a next pass
abbrev pub passes_left : ℕ → ℕ → ℕ → ℕ → ℕ → ℕ
passes_left groups fragments spine_words group again = fragments * (groups + 10) + 2 * spine_words + (groups - group) + again + 1

-- what is left while a fragment is scanned, which counts as scanned: so many spine words of it are behind, and so many steps come before its next spine word or its end
abbrev pub scan_left : Heap → List ℕ → Scan → ℕ → ℕ → ℕ
scan_left heap words scan behind steps =
    passes_left heap.groups (group_fragments * heap.groups - (scanned_count heap words + 1)) (words_unscanned heap words - behind) (scan.fragment / group_fragments) heap.groups + steps
