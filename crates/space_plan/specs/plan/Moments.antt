-- The entries of a history, each with what stands before it.
use Rattle.std.specs.Prelude.{List, [], ◌∷◌, ◌++◌, filter}
use Rattle.heap_model.specs.declared.entry.Entry.{Entry}
use Rattle.heap_model.specs.account.Windows.{begins_cycle}
use Rattle.reply_text.specs.write.Counts.{is_end}

-- an entry of a history, and all that stands before it
pub record Moment : Type 0 where
  pub before : List Entry
  pub entry : Entry

-- the history up to the moment, its entry included
abbrev pub through : Moment → List Entry
through at = at.before ++ at.entry ∷ []

-- the moments of a list of entries that stands behind others
abbrev pub moments_behind : List Entry → List Entry → List Moment
moments_behind before [] = []
moments_behind before (entry ∷ rest) = record { before = before; entry = entry } ∷ moments_behind (before ++ entry ∷ []) rest

-- the moments of a history, one for each entry
abbrev pub moments_of : List Entry → List Moment
moments_of history = moments_behind [] history

-- the moments at which a cycle begins
abbrev pub begins_of : List Entry → List Moment
begins_of history = filter (λ at. begins_cycle at.entry) (moments_of history)

-- the moments at which a cycle ends
abbrev pub ends_of : List Entry → List Moment
ends_of history = filter (λ at. is_end at.entry) (moments_of history)
