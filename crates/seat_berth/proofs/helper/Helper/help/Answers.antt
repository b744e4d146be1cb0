use Rattle.std.proofs.Common.{◌≡◌, ap, sym, subst, ◌∙◌, MatchOption}
use Rattle.std.specs.Arc.{arc_value}
use Rattle.heap_table.specs.SeatHeld.{SeatHeld}
use Rattle.seat_berth.specs.Helped.{AnswersBy, Stays, Helps}
use Rattle.seat_berth.specs.OnlyAnswered.{OnlyAnswered}
use Rattle.seat_berth.specs.Parties.{HelperSeen}
use Rattle.seat_berth.specs.Views.{helper_by}
use Rattle.seat_berth.proofs.Helps.{may_give, helps_by}
use Rattle.seat_berth.proofs.helper.Helper.help.Goals as goal

pub give_back-requires-clause-may : goal.give_back-requires-clause-may
give_back-requires-clause-may c =
    may_give c.in-Some.ensures.taken c.answer_for-answered.new.seat
    (subst (λ (s : SeatHeld). OnlyAnswered s c.answer_for-answered.new.seat) c.deref_mut.ensures.value c.answer_for-answered.ensures.only)

pub returns-clause-helps : goal.returns-clause-helps
returns-clause-helps c =
    let gave = c.answer_for-answered.new.seat in
    let seen = c.args.self.now in
    let new : HelperSeen = record { berth = c.give_back.new.token.table_id; home = (arc_value c.self.inside.place).shared.key; known = helper_by c.give_back.new.token.me.0 } in
    subst (λ helped. Helps seen new helped) (sym c.told.ensures)
    (helps_by c.in-Some.ensures.taken seen new
    (ap (λ (h : HelperSeen). h.home) (sym c.self.view_is) ∙ ap (λ place. place.shared.key) (sym c.deref.ensures))
    (ap (λ (h : HelperSeen). h.known) (sym c.self.view_is)) c.self.invariant.helper.free gave
    (ap (λ m. helper_by m.0) c.give_back.ensures.given) c.answer_for-answered.result
    (subst (λ (s : SeatHeld). MatchOption c.answer_for-answered.result (Stays s gave) (λ phase. AnswersBy phase s gave)) c.deref_mut.ensures.value c.answer_for-answered.ensures.answers))
