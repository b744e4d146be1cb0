use Rattle.std.proofs.Common.{◌≡◌, ℕ, suc, ◌+◌, ◌<◌, List, [], ◌∷◌, length, drop, get_or, sym, ap, subst, ◌∙◌, append-nil, arith}
use Rattle.std.proofs.Math.Seq.{drop-cons}
use Rattle.std.proofs.lemmas.List.{drop_all}
use Rattle.std.proofs.lemmas.Result.{IfOk-from_err}
use Rattle.heap_model.specs.declared.entry.Entry.{Entry}
use Rattle.heap_model.specs.graph.Graph.{Graph}
use Rattle.heap_model.specs.graph.Growth.{after_entry}
use Rattle.heap_model.specs.graph.Legal.{Accepts, AcceptsAll}
use Rattle.heap_queue.specs.TellerState.{HasDone, HasTold}
use Rattle.heap_queue.specs.Telling.{effects_in}
use Rattle.heap_queue.proofs.teller.tell_calls.Goals as goal

-- the entry that comes next, and what is behind it
next_one : (history : List Entry) (n : ℕ) (other : Entry) → n < length history → drop n history ≡ get_or history n other ∷ drop (n + 1) history
next_one history n other within =
    let same : suc n ≡ n + 1 = omega arith in
    drop-cons history n other within ∙ ap (λ (k : ℕ). get_or history n other ∷ drop k history) same

-- the entry that comes next, and those behind it, are accepted
accepted_next : (g : Graph) (history : List Entry) (n : ℕ) (other : Entry) → n < length history → AcceptsAll g (drop n history) → Accepts g (get_or history n other) × AcceptsAll (after_entry g (get_or history n other)) (drop (n + 1) history)
accepted_next g history n other within legal = subst (AcceptsAll g) (next_one history n other within) legal

pub returns-in_err-teller-clause-told : goal.returns-in_err-teller-clause-told
returns-in_err-teller-clause-told c = IfOk-from_err c.from_residual.result _ c.from_residual.ensures.0

pub returns-in_err-teller-clause-effects : goal.returns-in_err-teller-clause-effects
returns-in_err-teller-clause-effects c = IfOk-from_err c.from_residual.result _ c.from_residual.ensures.0

pub pass-requires-clause-accepted : goal.pass-requires-clause-accepted
pass-requires-clause-accepted c = (accepted_next c.loop-entry.teller.graph c.args.history.now c.loop-entry.entry-index _ (omega arith) c.loop-entry.invariant.legal).0

pub returns-in_err-pass-clause-told : goal.returns-in_err-pass-clause-told
returns-in_err-pass-clause-told c = IfOk-from_err c.from_residual-in_err-pass.result _ c.from_residual-in_err-pass.ensures.0

pub returns-in_err-pass-clause-effects : goal.returns-in_err-pass-clause-effects
returns-in_err-pass-clause-effects c = IfOk-from_err c.from_residual-in_err-pass.result _ c.from_residual-in_err-pass.ensures.0

pub loop-entry-preserved : goal.loop-entry-preserved
loop-entry-preserved c =
    let heap = c.args.heap in
    let history : List Entry = c.args.history.now in
    let n : ℕ = c.loop-entry.entry-index in
    let teller = c.loop-entry.teller in
    let within : n < length history = omega arith in record {
      told = c.in_ok-pass.ensures.told heap history (drop (n + 1) history) (subst (λ (rest : List Entry). HasTold heap history rest teller) (next_one history n _ within) c.loop-entry.invariant.told);
      done = c.in_ok-pass.ensures.done heap history (drop (n + 1) history) (subst (λ (rest : List Entry). HasDone heap history rest teller) (next_one history n _ within) c.loop-entry.invariant.done);
      legal = subst (λ (g : Graph). AcceptsAll g (drop (n + 1) history)) (sym c.in_ok-pass.ensures.grown) (accepted_next teller.graph history n _ within c.loop-entry.invariant.legal).1;
      named = c.in_ok-pass.ensures.named;
    }

pub returns-clause-told : goal.returns-clause-told
returns-clause-told c =
    let teller = c.loop-entry.teller in
    let rest : drop c.loop-entry.entry-index c.args.history.now ≡ [] = drop_all c.loop-entry.entry-index c.args.history.now (omega arith) in
    sym (append-nil teller.calls.items) ∙ subst (λ (rest : List Entry). HasTold c.args.heap c.args.history.now rest teller) rest c.loop-entry.invariant.told

pub returns-clause-effects : goal.returns-clause-effects
returns-clause-effects c =
    let teller = c.loop-entry.teller in
    let rest : drop c.loop-entry.entry-index c.args.history.now ≡ [] = drop_all c.loop-entry.entry-index c.args.history.now (omega arith) in
    sym (append-nil (effects_in teller.calls.items)) ∙ subst (λ (rest : List Entry). HasDone c.args.heap c.args.history.now rest teller) rest c.loop-entry.invariant.done
