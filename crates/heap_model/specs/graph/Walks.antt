-- Marks by the numbers of the walks that set them: a mark of an earlier walk counts as none.
use Rattle.std.specs.Prelude.{ℕ, ◌==◌, ◌≤◌, Bool, List, map, All}
use Rattle.heap_model.specs.graph.Marking.{Marking}

-- a mark is set where its number is that of the walk now
abbrev pub marks_by : ℕ → List ℕ → List Bool
marks_by walk numbers = map (λ n. n == walk) numbers

-- the board's mark and those of the seats, by their numbers
abbrev pub marking_by : ℕ → ℕ → List (List ℕ) → Marking
marking_by walk mark rows = record { board = mark == walk; seats = map (marks_by walk) rows }

-- walks are numbered from 1 on, and none of the marks is of a walk to come
pub record AreOfWalks (walk mark : ℕ) (rows : List (List ℕ)) : Type 0 where
  pub begun : 1 ≤ walk
  pub board : mark ≤ walk
  pub seats : All (All (λ n. n ≤ walk)) rows
