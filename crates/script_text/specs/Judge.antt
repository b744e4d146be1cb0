-- What tells one kind of text from another, as far as its faults go.
use Rattle.std.specs.Prelude.{ℕ, Bool, List, Option}
use Rattle.heap_model.specs.declared.heap.Heap.{Heap}
use Rattle.script_text.specs.declared.cause.Cause.{Cause}
use Rattle.script_text.specs.declared.preamble.Preamble.{Preamble}

-- the version that a first line tells, whether a heap may be asked for, and what is wrong with the words of a further line
pub record Judge : Type 0 where
  pub version_of : List ℕ → Option ℕ
  pub takes : Heap → Bool
  pub words_fault : Preamble → List (List ℕ) → Option Cause
