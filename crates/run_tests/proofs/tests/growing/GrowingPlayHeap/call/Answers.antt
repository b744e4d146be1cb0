use Rattle.std.proofs.Common.{◌≡◌, ◌∷◌, [], ◌++◌, List, true, refl, sym, ap, subst, ◌∙◌, rules}
use Rattle.heap_model.specs.declared.entry.Entry.{Entry}
use Rattle.heap_model.specs.declared.entry.Entry.TheVariants.{Said}
use Rattle.heap_model.specs.declared.reply.Reply.TheVariants.{Done}
use Rattle.run_tests.specs.Growing.{is_plain, IsGrowing}
use Rattle.heap_runs.specs.PlayHeap.{PlayState, AnswersCall}
use Rattle.run_tests.proofs.Growing.{is_growing_after_command, growing_answers_once}
use Rattle.run_tests.proofs.tests.growing.GrowingPlayHeap.call.Goals as goal

pub invariant_of-self-2 : goal.invariant_of-self-2
invariant_of-self-2 c =
    let heap = c.self.inside.heap in
    let plain : is_plain c.args.command.now ≡ true = search rules in
    let listed : c.note.new.list.items ≡ c.self.inside.entries.items ++ Said c.args.seat c.args.command.now Done ∷ [] = search rules in
    let growing = is_growing_after_command heap c.self.inside.entries.items c.self.inside.graph c.apply.new.self c.args.seat c.args.command.now c.self.invariant plain c.in-Ok.ensures.accepted c.in-Ok.ensures.grown in
    subst (λ (es : List Entry). IsGrowing heap es c.apply.new.self) (sym listed) growing

pub returns : goal.returns
returns c =
    let old : PlayState = record { heap = c.self.inside.heap; entries = c.self.inside.entries.items; spare = 0; turns = c.self.inside.turns; last_turn = c.self.inside.last_turn; turns_left = c.self.inside.turns_left } in
    let plain : is_plain c.args.command.now ≡ true = search rules in
    let listed : c.note.new.list.items ≡ old.entries ++ Said c.args.seat c.args.command.now Done ∷ [] = search rules in
    let new : PlayState = record old { entries = c.note.new.list.items } in
    record {
      answers = subst (λ (s : PlayState). AnswersCall s new c.args.seat c.args.command.now Done) c.self.view_is
          (record {
            once = λ apart. growing_answers_once old new c.args.seat c.args.command.now c.self.invariant.plain plain refl listed refl refl refl;
            collects = λ is. absurd (cc (sym plain ∙ ap is_plain is));
          });
    }
