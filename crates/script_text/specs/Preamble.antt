-- What the first two lines of a text tell.
use Rattle.std.specs.Prelude.{◌≡◌, ℕ, ◌⊎◌}
use Rattle.heap_model.specs.Heap.{IsHeap}
use Rattle.script_text.specs.declared.preamble.Preamble.{Preamble}

-- the number of a version
abbrev pub IsVersion : ℕ → Type 0
IsVersion version = (version ≡ 1) ⊎ (version ≡ 2)

-- the board's fields in version 1, whose heap line has no number for them
abbrev pub usual_board : ℕ
usual_board = 32

-- a version, and a heap that a text of this version may ask for
pub record IsPreamble (preamble : Preamble) : Type 0 where
  pub version : IsVersion preamble.version
  pub heap : IsHeap preamble.heap
  pub board : preamble.version ≡ 1 → preamble.heap.board ≡ usual_board
