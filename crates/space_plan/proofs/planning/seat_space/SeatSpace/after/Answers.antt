use Rattle.std.proofs.Common.{sym, ◌∙◌}
use Rattle.std.proofs.lemmas.Bool.{cond-true, cond-false}
use Rattle.space_plan.proofs.plan_lemmas.SeatSpaces.{SeatTells-counted}
use Rattle.space_plan.proofs.planning.seat_space.SeatSpace.after.Goals as goal

pub returns-then-is_reply-clause-tells : goal.returns-then-is_reply-clause-tells
returns-then-is_reply-clause-tells c = λ number history is tells.
    let replies = sym (c.is_reply.ensures number is) ∙ c.if-is_reply.true in
    SeatTells-counted number history c.args.entry.now c.args.self _ _ _ is c.of-effect.ensures.exact (sym (cond-true _ _ c.args.self.taken_then replies)) (sym (cond-true _ _ c.args.self.spent_then replies)) tells

pub returns-clause-tells : goal.returns-clause-tells
returns-clause-tells c = λ number history is tells.
    let other = sym (c.is_reply.ensures number is) ∙ c.if-is_reply.false in
    SeatTells-counted number history c.args.entry.now c.args.self _ _ _ is c.of-effect.ensures.exact (sym (cond-false _ _ c.args.self.taken_then other)) (sym (cond-false _ _ c.args.self.spent_then other)) tells
