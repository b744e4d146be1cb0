-- A checker with an account is one of a play, and its account tells the entries of that heap.
use Rattle.std.proofs.Common.{◌≡◌, List, Some, sym, ap, subst, ◌∙◌}
use Rattle.heap_model.specs.declared.entry.Entry.{Entry}
use Rattle.heap_model.specs.declared.heap.Heap.{Heap}
use Rattle.heap_model.specs.account.Books.{Books, Tells}
use Rattle.heap_model.specs.account.Cycles.{graph_of}
use Rattle.heap_model.specs.graph.Graph.{Graph}
use Rattle.script_text.specs.declared.script.Form.{Form}
use Rattle.script_text.specs.declared.script.Form.TheVariants.{Play, Run}
use Rattle.log_merge.specs.Checking.{Accounts}

-- what follows of a play's account follows of it
pub follows_by_account : (P : Form → Heap → Type 0) (form : Form) (heap : Heap) (books : Books) (graph : Graph) (before : List Entry)
    → Accounts form heap (Some books) before → graph ≡ graph_of heap before
    → (Tells books before → graph ≡ graph_of books.heap before → P Play books.heap) → P form heap
follows_by_account P Play heap books graph before accounts is shown = subst (P Play) accounts.0 (shown accounts.1 (is ∙ ap (λ (h : Heap). graph_of h before) (sym accounts.0)))
follows_by_account P Run heap books graph before accounts is shown = absurd accounts
