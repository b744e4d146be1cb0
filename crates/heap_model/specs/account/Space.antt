-- The counts of the heap after a history.
use Rattle.std.specs.Prelude.{ℕ, ◌+◌, ◌-◌, if◌then◌else◌, List, sum_by}
use Rattle.heap_model.specs.Board.{board_fragments}
use Rattle.heap_model.specs.declared.entry.Entry.{Entry}
use Rattle.heap_model.specs.declared.heap.Heap.{Heap}
use Rattle.heap_model.specs.declared.account.effect.Effect.{Effect}
pub use Rattle.heap_model.specs.Needs.{need_of, made_by, words_by, record_fragments}
pub use Rattle.heap_model.specs.account.Effects.{effect_of, is_of}

-- one count, summed over all entries
abbrev pub total : (Effect → ℕ) → List Entry → ℕ
total summand history = sum_by (λ e. summand (effect_of e)) history

-- one count, summed over a seat's own entries
abbrev pub total_of : ℕ → (Effect → ℕ) → List Entry → ℕ
total_of number summand history = sum_by (λ e. if is_of number e then summand (effect_of e) else 0) history

-- one count, summed over all but a seat's entries, the collector's among them
abbrev pub total_but : ℕ → (Effect → ℕ) → List Entry → ℕ
total_but number summand history = sum_by (λ e. if is_of number e then 0 else summand (effect_of e)) history

-- the board's fragments, and all that were ever taken
abbrev pub fragments_gained : Heap → List Entry → ℕ
fragments_gained heap history = board_fragments heap + total (λ e. e.taken) history

-- all fragments that were ever given back or freed
abbrev pub fragments_lost : List Entry → ℕ
fragments_lost history = total (λ e. e.given) history + total (λ e. e.freed) history

-- the fragments in use
abbrev pub fragments_used : Heap → List Entry → ℕ
fragments_used heap history = fragments_gained heap history - fragments_lost history

-- the spine words of all arrays that were ever made
abbrev pub words_granted : List Entry → ℕ
words_granted history = total (λ e. e.words) history

-- all spine words that were ever returned
abbrev pub words_returned : List Entry → ℕ
words_returned history = total (λ e. e.returned) history

-- the spine words in use
abbrev pub words_used : List Entry → ℕ
words_used history = words_granted history - words_returned history

-- what the seat took
abbrev pub taken_of : ℕ → List Entry → ℕ
taken_of number history = total_of number (λ e. e.taken) history

-- what the seat gave back or made into objects
abbrev pub spent_of : ℕ → List Entry → ℕ
spent_of number history = total_of number (λ e. e.given) history + total_of number (λ e. e.born) history

-- what the seat took and has neither given back nor made into objects
abbrev pub fragments_unborn : ℕ → List Entry → ℕ
fragments_unborn number history = taken_of number history - spent_of number history
