-- The phases of a cycle, by name: phase `7 * c + k` is the k-th of cycle c.
use Rattle.std.specs.Prelude.{ℕ}

-- how many phases a cycle has
abbrev pub cycle_phases : ℕ
cycle_phases = 7

-- no cycle is under way
abbrev pub rest : ℕ
rest = 0

-- every barrier is on once all have answered
abbrev pub barriers : ℕ
barriers = 1

-- every birth is black once all have answered
abbrev pub black_births : ℕ
black_births = 2

-- every seat's roots are shaded once all have answered, and marking begins
abbrev pub marking : ℕ
marking = 3

-- spines are copied, and arrays swing to the copies
abbrev pub copying : ℕ
copying = 4

-- what is dead is freed, and its spine words are returned
abbrev pub sweep : ℕ
sweep = 5

-- every barrier is off once all have answered, and the marks are cleared
abbrev pub clearing : ℕ
clearing = 6
