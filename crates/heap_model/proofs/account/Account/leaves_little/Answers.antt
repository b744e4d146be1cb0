use Rattle.std.proofs.Common.{◌≡◌, subst, sym, ap, ◌∙◌, refl, arith}
use Rattle.std.proofs.lemmas.Bool.{both_ways, leb-true, le-leb}
use Rattle.heap_model.specs.graph.Marking.{HasMarks}
use Rattle.heap_model.specs.graph.Objects.{made_counts}
use Rattle.heap_model.specs.graph.Reach.{AreReachedAmong}
use Rattle.heap_model.specs.graph.Sizes.{fragments_of_all}
use Rattle.heap_model.specs.account.Cycles.{graph_of}
use Rattle.heap_model.specs.account.Books.{Books}
use Rattle.heap_model.proofs.account_lemmas.CycleLemmas.{within_bounds_by_books, keeps_reached_by_both}
use Rattle.heap_model.proofs.account.Account.leaves_little.Goals as goal

pub returns-then-not-is_within-clause-little : goal.returns-then-not-is_within-clause-little
returns-then-not-is_within-clause-little c history t same =
    let within = within_bounds_by_books c.args.self.now history c.args.kept t c.requires in
    (λ no. absurd (both_ways _ refl no), λ little. absurd (both_ways c.is_within.result c.if-not-is_within.true (c.is_within.ensures.1 (within.1 little.within))))

pub returns-clause-little : goal.returns-clause-little
returns-clause-little c history t same =
    let there : HasMarks c.args.graph.now c.self.inside.search.marks = ap (λ (b : Books). b.made) c.self.view_is ∙ t.made ∙ sym (ap made_counts same) in
    let sum = c.reached_frags-frags.ensures.sum there in
    let kept_ids : c.deref.result.now ≡ c.args.self.now.cycle.reached.items = c.deref.ensures.value ∙ ap (λ (b : Books). b.cycle.reached.items) c.self.view_is in
    let among : AreReachedAmong (graph_of c.args.self.now.heap history) c.args.self.now.cycle.reached.items sum.0 =
    subst (λ ids. AreReachedAmong (graph_of c.args.self.now.heap history) ids sum.0) kept_ids (subst (λ g. AreReachedAmong g c.deref.result.now sum.0) same sum.1) in
    let frags : c.reached_frags-frags.result ≡ fragments_of_all (graph_of c.args.self.now.heap history) sum.0 = sum.2 ∙ ap (λ g. fragments_of_all g sum.0) same in
    let within = within_bounds_by_books c.args.self.now history c.args.kept t c.requires in
    let reached = keeps_reached_by_both c.args.self.now history c.args.kept sum.0 t c.requires among in
    let holds = within.0 (c.is_within.ensures.0 c.if-not-is_within.false) in (
      λ few. record { within = holds; reached = reached.0 (omega (arith, frags, leb-true _ _ few)) },
      λ little. le-leb _ _ (omega (arith, frags, reached.1 little.reached)),
    )
