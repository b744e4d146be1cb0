use Rattle.std.proofs.Common.{◌≡◌, ℕ, List, [], Option, None, Some, refl, sym, rules}
use Rattle.std.specs.Prelude.{OnOk, OnErr, Result, Ok, Err}
use Rattle.std.proofs.lemmas.List.{append-nil}
use Rattle.io_edge.specs.declared.writing.WriteFault.{WriteFault}
use Rattle.io_edge.specs.Taken.{Takes, TakesFront}
use Rattle.schism_program.specs.Status.{status_line}
use Rattle.schism_program.proofs.ending.report.Goals as goal
use Rattle.schism_program.proofs.ending.report.Goals.{then-ne, else-ne}

-- all of it is a front of it
wrote : {T : Type 0} (old new : Option (List ℕ)) (bytes : List ℕ) (result : Result T WriteFault) → OnOk result (Takes old new bytes) → OnErr result (TakesFront old new bytes) → TakesFront old new bytes
wrote old new bytes (Ok done) all front = ([], record { front = bytes; parts = append-nil bytes; next = all })
wrote old new bytes (Err fault) all front = front

-- and nothing is
none_wrote : (taken : Option (List ℕ)) → TakesFront taken taken []
none_wrote None = ([], record { front = []; parts = refl; next = tt })
none_wrote (Some bytes) = ([], record { front = []; parts = refl; next = sym (append-nil bytes) })

pub returns-clause-front : goal.returns-clause-front
returns-clause-front g c = elim c.if-ne.branch [
  | then-ne w ↦
      let same : w.as_bytes.result.now ≡ status_line c.args.status.now = search rules in
      rw (w.errors-is, ← same) (wrote _ _ w.as_bytes.result.now w.write_all.result w.write_all.ensures.ok w.write_all.ensures.err)
  | else-ne w ↦
      let none : status_line c.args.status.now ≡ [] = search rules in
      rw (w.errors-is, none) (none_wrote _)
]
