use Rattle.std.proofs.Common.{◌≡◌, ◌<◌, ◌+◌, ◌-◌, ◌∙◌, sym, ap, subst, count_by, length, map, arith, refl}
use Rattle.std.proofs.lemmas.Grind.{common_steps}
use Rattle.std.specs.Option.{option_to_list}
use Rattle.std.specs.Vec.{with_item}
use Rattle.log_merge.specs.declared.merging.merger.Merger.{Merger}
use Rattle.log_merge.specs.declared.merging.pending_gets.PendingGet.{PendingGet}
use Rattle.log_merge.specs.Merging.{IsReady}
use Rattle.log_merge.specs.Placing.{IsMerging, left_count, got_by}
use Rattle.log_merge.specs.PendingGets.{is_kind, pending_count}
use Rattle.log_merge.proofs.merge_lemmas.MergerLemmas.{log_is_stuck_by_gets, next_entry_is_ready, IsPlacing, IsMerging-placed, pending_count_falls_by_get, pending_count_falls_by_kept}
use Rattle.log_merge.proofs.merging.merger.Merger.place_next.Goals as goal
use Rattle.log_merge.proofs.merging.merger.Merger.place_next.Goals.{in-Some-got, in_default-got}

pub returns-then-must_wait-clause-stuck : goal.returns-then-must_wait-clause-stuck
returns-then-must_wait-clause-stuck c = λ is.
    let logs = map (λ log. log.items) c.args.logs.now in
    let within : c.args.number < length logs = grind (arith, common_steps) in
    log_is_stuck_by_gets logs c.args.self.now c.args.number c.in-Some.entry c.requires.merging within c.in-Some.ensures.next (λ accepts. c.if-must_wait.ensures.waits refl accepts)

taken : (c : goal.In_ok-push) (kind : PendingGet)
    → pending_count c.match-got.self.pending kind ≡ pending_count c.args.self.now.pending kind - count_by (is_kind kind) (option_to_list (got_by c.args.self.now.graph c.in-Some.entry))
taken c = elim c.match-got.branch [
  | in-Some-got w ↦ subst (λ p. (kind : PendingGet) → pending_count p kind ≡ pending_count c.args.self.now.pending kind - count_by (is_kind kind) (option_to_list (got_by c.args.self.now.graph c.in-Some.entry))) (sym (ap (λ (m : Merger). m.pending) w.self-is))
      (pending_count_falls_by_get c.args.self.now.pending w.take.new.self w.in-Some-got.get (got_by c.args.self.now.graph c.in-Some.entry) (sym (c.got_by-got.ensures c.in-Ok.ensures.accepted) ∙ w.in-Some-got.is) w.take.ensures.here w.take.ensures.others)
  | in_default-got w ↦ pending_count_falls_by_kept c.args.self.now.pending c.match-got.self.pending (got_by c.args.self.now.graph c.in-Some.entry) (sym (c.got_by-got.ensures c.in-Ok.ensures.accepted) ∙ w.in_default-got.is) (ap (λ (m : Merger). m.pending) w.self-is)
]

abbrev put : goal.In_ok-push → Merger
put c = record {
  heap = c.match-got.self.heap;
  graph = c.match-got.self.graph;
  pending = c.match-got.self.pending;
  counts = with_item c.match-got.self.counts c.args.number (c.index_mut.result.now + 1);
  placed = c.push.new.self;
}

placing : (c : goal.In_ok-push) → IsPlacing c.args.self.now (put c) c.args.number c.in-Some.entry
placing c = record {
  heap = elim c.match-got.branch [ in-Some-got w ↦ grind (arith, common_steps) | in_default-got w ↦ grind (arith, common_steps) ];
  graph = elim c.match-got.branch [ in-Some-got w ↦ grind (arith, common_steps) | in_default-got w ↦ grind (arith, common_steps) ];
  pending = taken c;
  counts = elim c.match-got.branch [ in-Some-got w ↦ grind (arith, common_steps) | in_default-got w ↦ grind (arith, common_steps) ];
  placed = elim c.match-got.branch [ in-Some-got w ↦ grind (arith, common_steps) | in_default-got w ↦ grind (arith, common_steps) ];
}

goes_on : (c : goal.In_ok-push) → IsMerging (map (λ log. log.items) c.args.logs.now) (put c) × (left_count (map (λ log. log.items) c.args.logs.now) (put c) < left_count (map (λ log. log.items) c.args.logs.now) c.args.self.now)
goes_on c =
    let logs = map (λ log. log.items) c.args.logs.now in
    let m = c.args.self.now in
    let x = c.in-Some.entry in
    let within : c.args.number < length logs = grind (arith, common_steps) in
    let ready : IsReady m.heap logs m.placed.items c.args.number x = next_entry_is_ready logs m c.args.number x c.requires.merging c.in-Ok.ensures.accepted (λ accepts. c.if-must_wait.ensures.goes refl accepts) in
    IsMerging-placed logs m (put c) c.args.number x c.requires.merging within c.requires.lowest c.in-Some.ensures.next ready (placing c)

pub returns-clause-placed : goal.returns-clause-placed
returns-clause-placed c = λ is. (goes_on c).0

pub returns-clause-less : goal.returns-clause-less
returns-clause-less c = λ is. (goes_on c).1
