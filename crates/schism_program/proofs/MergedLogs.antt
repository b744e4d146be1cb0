-- The logs of a closed table, put together, are a legal history of a run at whose end nothing is in use.
use Rattle.std.proofs.Common.{◌≡◌, ◌∙◌, List, sym, ap, subst, arith}
use Rattle.heap_model.specs.Logs.{logs_of}
use Rattle.heap_model.specs.account.Space.{fragments_gained, fragments_lost}
use Rattle.heap_model.specs.declared.entry.Entry.{Entry}
use Rattle.heap_model.specs.declared.heap.Heap.{Heap}
use Rattle.heap_model.specs.graph.Legal.{IsObjectLegal}
use Rattle.heap_table.specs.Closed.{ClosedTable}
use Rattle.heap_runs.specs.Finishing.{EndsUnused}
use Rattle.log_merge.specs.Legal.{IsLegalHistory}
use Rattle.log_merge.proofs.SameLogs.{same_totals}
use Rattle.script_text.specs.declared.preamble.Preamble.{Preamble}
use Rattle.schism_program.specs.Running.{merged_history}

module _ (front : Preamble) (closed : ClosedTable) (merged : List Entry) (heap_is : closed.heap ≡ front.heap) (legal : IsObjectLegal front.heap merged) (kept : closed.logs ≡ logs_of front.heap merged)
    (unused : EndsUnused closed) where
  -- the one legal history of the logs has the same ones
  pub same_logs : logs_of front.heap merged ≡ logs_of front.heap unused.one.history
  same_logs = sym kept ∙ unused.one.logs_are ∙ ap (λ (h : Heap). logs_of h unused.one.history) heap_is

  pub other_is_legal : IsObjectLegal front.heap unused.one.history
  other_is_legal = subst (λ (h : Heap). IsObjectLegal h unused.one.history) heap_is unused.one.legal.objects

  pub merged_is_legal : IsLegalHistory (merged_history front merged)
  merged_is_legal =
      let totals = same_totals front.heap merged unused.one.history legal other_is_legal same_logs in
      record {
        entries = legal;
        mark = tt;
        end_used = omega (arith, totals (λ e. e.taken), totals (λ e. e.given), totals (λ e. e.freed), subst (λ (h : Heap). fragments_gained h unused.one.history ≡ fragments_lost unused.one.history) heap_is unused.none_used);
      }
