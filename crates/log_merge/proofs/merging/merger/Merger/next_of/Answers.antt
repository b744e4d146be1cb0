use Rattle.std.proofs.Common.{◌≡◌, get_or, length, map, slice_get, [], arith}
use Rattle.std.specs.Prelude.{IfNone, IfSome}
use Rattle.std.proofs.lemmas.Grind.{common_steps}
use Rattle.std.proofs.lemmas.Option.{gets}
use Rattle.log_merge.specs.Merging.{IsNext, part_of}
use Rattle.log_merge.specs.Placing.{IsStuck}
use Rattle.log_merge.proofs.merge_lemmas.MergerLemmas.{read_entry_is_next, unread_log_is_stuck}
use Rattle.log_merge.proofs.merging.merger.Merger.next_of.Goals as goal

-- what was read of the log is the entry that is next of it, or it is stuck
read : (c : goal.After-copied)
    → IfSome c.copied.result (IsNext c.args.self.now.heap (map (λ log. log.items) c.args.logs.now) c.args.self.now.placed.items c.args.number)
    × IfNone c.copied.result (IsStuck (map (λ log. log.items) c.args.logs.now) c.args.self.now c.args.number)
read c =
    let logs = map (λ log. log.items) c.args.logs.now in
    let m = c.args.self.now in
    let log = c.as_slice.result.now in
    let count = c.index.result.now in
    let is_log : get_or logs c.args.number [] ≡ log = grind (arith, common_steps) in
    let counted : count ≡ length (part_of m.heap c.args.number m.placed.items) = grind (arith, common_steps, c.requires.merging.counts c.args.number) in
    let found : c.copied.result ≡ slice_get log count = grind (arith, common_steps, gets) in
    (read_entry_is_next m.heap logs m.placed.items c.args.number log count c.copied.result is_log counted found, unread_log_is_stuck logs m c.args.number log count c.copied.result is_log counted found)

pub returns-clause-next : goal.returns-clause-next
returns-clause-next c = (read c).0

pub returns-clause-none : goal.returns-clause-none
returns-clause-none c = (read c).1
