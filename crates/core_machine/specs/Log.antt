-- What contracts see of a party's log.
use Rattle.std.specs.Prelude.{ℕ, List}
use Rattle.heap_model.specs.declared.entry.Entry.{Entry}

-- the entries, and for how many more there is room
pub record LogWithRoom : Type 0 where
  pub entries : List Entry
  pub spare : ℕ

-- the entries, for how many more there is room, and how many of the first were forgotten
pub record RecentEntries : Type 0 where
  pub entries : List Entry
  pub spare : ℕ
  pub forgotten : ℕ
