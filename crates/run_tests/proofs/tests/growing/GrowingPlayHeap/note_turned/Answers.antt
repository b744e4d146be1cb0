use Rattle.std.proofs.Common.{◌≡◌, ◌∷◌, [], ◌++◌, List, sym, subst, rules}
use Rattle.heap_model.specs.account.Phases.{TurnShows}
use Rattle.heap_model.specs.declared.entry.Entry.{Entry}
use Rattle.heap_model.specs.declared.entry.Entry.TheVariants.{Turned}
use Rattle.run_tests.specs.Growing.{IsGrowing}
use Rattle.heap_runs.specs.PlayHeap.{PlayState}
use Rattle.run_tests.proofs.Growing.{is_growing_after_turned}
use Rattle.run_tests.proofs.tests.growing.GrowingPlayHeap.note_turned.Goals as goal

pub invariant_of-self-2 : goal.invariant_of-self-2
invariant_of-self-2 c =
    let inside = c.self.inside in
    let shows = subst (λ (s : PlayState). TurnShows s.heap s.entries c.args.reply) (sym c.self.view_is) c.requires.shows in
    let listed : c.note.new.list.items ≡ inside.entries.items ++ Turned c.args.command c.args.reply ∷ [] = search rules in
    subst (λ (es : List Entry). IsGrowing inside.heap es inside.graph) (sym listed) (is_growing_after_turned inside.heap inside.entries.items inside.graph c.args.command c.args.reply c.self.invariant shows)
