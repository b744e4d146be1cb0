use Rattle.std.proofs.Common.{sym, subst}
use Rattle.heap_runs.specs.PlayHeap.{PlayState}
use Rattle.heap_runs.specs.Turning.{AddsTurns}
use Rattle.heap_runs.proofs.TurnFacts.{adds_turns_of_each}
use Rattle.heap_runs.proofs.play_collector.make_slack.Goals as goal

pub returns-clause-adds : goal.returns-clause-adds
returns-clause-adds g c = subst (λ (s : PlayState). AddsTurns (g.H.PlayHeap.state c.args.whole) s) (sym c.collector.view_is) (adds_turns_of_each c.slack-done.result.made _ _ c.slack-done.ensures.each)
