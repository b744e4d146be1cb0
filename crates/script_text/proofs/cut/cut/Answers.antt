use Rattle.std.proofs.Common.{◌==◌, sym}
use Rattle.script_text.proofs.Cuts.{slice_split-Some, slice_split-None}
use Rattle.script_text.proofs.cut.cut.Goals as goal

pub returns-in-None : goal.returns-in-None
returns-in-None c = slice_split-None (λ b. b == c.args.mark) c.args.text.now (sym c.in-None.ensures)

pub returns-in-Some : goal.returns-in-Some
returns-in-Some c =
    rw (c.split_at.ensures.front, c.split_at-in-Some.ensures.back, c.split_at.ensures.back)
    (slice_split-Some (λ b. b == c.args.mark) c.args.text.now c.in-Some.at (sym c.in-Some.ensures))
