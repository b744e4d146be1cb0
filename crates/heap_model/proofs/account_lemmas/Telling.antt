-- What an account tells of its history.
use Rattle.std.proofs.Common.{◌≡◌, ℕ, ◌<◌, false, List, sym, ◌∙◌}
use Rattle.heap_model.specs.declared.entry.Entry.{Entry}
use Rattle.heap_model.specs.account.PhaseCounts.{phase, last_answer, has_left}
use Rattle.heap_model.specs.account.Books.{Books, Tells, IsUpToDate}

-- a seat that has answered in the books has in the history
pub answered_in_history : (books : Books) (history : List Entry) (number : ℕ) → Tells books history → number < books.heap.seats → IsUpToDate books number → has_left number history ≡ false → last_answer number history ≡ phase history
answered_in_history books history number t lt has present = let own = t.seats number lt in sym own.own.answers ∙ has (own.left ∙ present) ∙ t.all.phases

-- and the other way round
pub up_to_date_in_books : (books : Books) (history : List Entry) (number : ℕ) → Tells books history → number < books.heap.seats → (has_left number history ≡ false → last_answer number history ≡ phase history) → IsUpToDate books number
up_to_date_in_books books history number t lt all present = let own = t.seats number lt in own.own.answers ∙ all (sym own.left ∙ present) ∙ sym t.all.phases
