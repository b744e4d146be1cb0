-- What the account keeps of a cycle that begins, compares where one ends, and prepares for an entry.
use Rattle.std.specs.Prelude.{◌≡◌, ℕ, ◌+◌, ◌-◌, ◌%◌, ◌≤◌, ◌↔◌, ◌⊎◌, Contains, true, false, sum_by}
use Rattle.std.specs.List.{range_with_len}
use Rattle.heap_model.specs.Board.{board_fragments}
use Rattle.heap_model.specs.PhasePlan.{cycle_phases, barriers}
use Rattle.heap_model.specs.declared.id.Id.{Id}
use Rattle.heap_model.specs.declared.entry.Entry.{Entry}
use Rattle.heap_model.specs.declared.entry.Entry.TheVariants as entries
use Rattle.heap_model.specs.declared.account.seat.SeatAccount.{SeatAccount}
use Rattle.heap_model.specs.declared.account.cycle.Cycle.{Cycle}
use Rattle.heap_model.specs.graph.Objects.{made_counts}
use Rattle.heap_model.specs.graph.Graph.{Graph}
use Rattle.heap_model.specs.graph.Reach.{AreReached}
use Rattle.heap_model.specs.graph.Growth.{makes, counts_after}
use Rattle.heap_model.specs.graph.Sizes.{fragments_of_all, spine_words_of_all}
use Rattle.heap_model.specs.account.Windows.{begins_cycle}
use Rattle.heap_model.specs.account.Books.{Books}
use Rattle.heap_model.specs.account.SeatBooks.{account_at}

-- what a seat brings into a cycle, by what is kept of it
abbrev pub brought_by : SeatAccount → ℕ
brought_by seat = seat.own.taken - (seat.own_then.given + seat.own_then.born)

-- what the account keeps of a cycle that begins with this graph
pub record IsBegun (books : Books) (g : Graph) (cycle : Cycle) : Type 0 where
  pub reached : AreReached g cycle.reached.items
  pub frags : cycle.frags ≡ fragments_of_all g cycle.reached.items
  pub words : cycle.words ≡ spine_words_of_all g cycle.reached.items
  pub brought : cycle.brought ≡ sum_by (λ number. brought_by (account_at books.seats number)) (range_with_len 0 books.heap.seats)
  pub taken : cycle.taken_then ≡ books.all.taken
  pub granted : cycle.words_then ≡ books.all.words

-- what is in use and what was kept are within the bounds, by what the account keeps
abbrev pub IsWithinBy : Books → ℕ → Type 0
IsWithinBy books kept =
    (board_fragments books.heap + books.all.taken ≤ books.all.given + books.all.freed + (books.cycle.frags + books.cycle.brought + (books.all.taken - books.cycle.taken_then)))
    × (books.all.words ≤ books.all.returned + books.cycle.words + (books.all.words - books.cycle.words_then))
    × (kept ≤ books.cycle.frags + books.cycle.brought + (books.all.taken - books.cycle.taken_then))

-- what the entry needs memory for is kept: an array that swings, a cycle that begins, a mark for an object that is made
pub record IsPrepared (old : Books) (g : Graph) (entry : Entry) (new : Books) : Type 0 where
  pub rest : new ≡ record old { cycle = new.cycle; swung = new.swung; made = new.made }
  pub swung : (id : Id) → Contains new.swung id ↔ Contains old.swung id ⊎ (entry ≡ entries.Swings id)
  -- what is kept of a cycle that begins, where each object of the graph had its mark
  pub begun : begins_cycle entry ≡ true → old.made ≡ made_counts g → IsBegun old g new.cycle
  pub same : begins_cycle entry ≡ false → new.cycle ≡ old.cycle
  pub made : new.made ≡ counts_after old.made entry

-- the entry needs memory: it makes an object, begins a cycle, or swings an array
abbrev pub WantsMemory : Entry → Type 0
WantsMemory (entries.Said number command reply) = makes (entries.Said number command reply) ≡ true
WantsMemory (entries.Advance p) = p % cycle_phases ≡ barriers
WantsMemory (entries.Swings id) = Unit {0}
WantsMemory _ = ⊥
