use Rattle.std.proofs.Common.{ap, arith}
use Rattle.heap_model.specs.declared.account.effect.Effect.{Effect}
use Rattle.heap_model.proofs.Histories.{total-more}
use Rattle.space_plan.proofs.planning.ledger.Ledger.count.Goals as goal

pub returns-clause-tells : goal.returns-clause-tells
returns-clause-tells c = λ history tells.
    let e = c.args.entry.now in
    let exact = c.of-effect.ensures.exact in
    record {
      gained = omega (arith, tells.gained, ap (λ (x : Effect). x.taken) exact, total-more (λ x. x.taken) history e);
      lost = omega (arith, tells.lost, ap (λ (x : Effect). x.given) exact, ap (λ (x : Effect). x.freed) exact, total-more (λ x. x.given) history e, total-more (λ x. x.freed) history e);
      section = c.section_after-self.ensures.tells history tells.section;
      seats = c.count.ensures.tells c.args.self.now.heap history c.requires.seat tells.seats;
    }

pub returns-clause-fits : goal.returns-clause-fits
returns-clause-fits c = λ n fits.
    let few = c.of-effect.ensures.few in
    record {
      gained = omega (arith, fits.gained, few.taken);
      lost = omega (arith, fits.lost, few.given, few.freed);
      section = omega (arith, fits.section, c.section_after-self.ensures.fits);
      seats = c.count.ensures.fits n fits.seats;
    }
