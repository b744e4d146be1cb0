-- What each party has told in a history.
use Rattle.std.specs.Prelude.{◌≡◌, ℕ, List, [], ◌∷◌, ◌++◌, map, filter}
use Rattle.std.specs.List.{range_with_len}
use Rattle.heap_model.specs.declared.entry.Entry.{Entry}
use Rattle.heap_model.specs.declared.heap.Heap.{Heap}
use Rattle.heap_model.specs.account.Effects.{is_of}
use Rattle.heap_model.specs.account.Noting.{is_collectors}

-- what the history has of a seat
abbrev pub log_of : ℕ → List Entry → List Entry
log_of number history = filter (is_of number) history

-- the logs that go together to the history: each seat's entries, and the collector's behind them
abbrev pub logs_of : Heap → List Entry → List (List Entry)
logs_of heap history = map (λ number. log_of number history) (range_with_len 0 heap.seats) ++ filter is_collectors history ∷ []

-- in both orders each seat's own entries stand in the same order, and so do the collector's
pub record KeepsLogs (one other : List Entry) : Type 0 where
  pub seats : (number : ℕ) → log_of number other ≡ log_of number one
  pub collector : filter is_collectors other ≡ filter is_collectors one
