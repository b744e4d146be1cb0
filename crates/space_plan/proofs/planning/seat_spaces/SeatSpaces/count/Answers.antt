use Rattle.std.proofs.Common.{◌≡◌, ◌+◌, ◌<◌, ◌++◌, ◌∷◌, [], Some, IfSome, slice_set, sym, ◌∙◌, subst}
use Rattle.heap_model.specs.account.Noting.{seat_of}
use Rattle.space_plan.specs.plan.Seats.{SeatFits, SeatTells, space_at}
use Rattle.space_plan.proofs.plan_lemmas.SeatSpaces.{SeatFits-more, SeatFits-put, SeatTells-other, SeatTells-put}
use Rattle.space_plan.proofs.planning.seat_spaces.SeatSpaces.count.Goals as goal

pub returns-in-Some-clause-tells : goal.returns-in-Some-clause-tells
returns-in-Some-clause-tells c = λ heap history below tells number within.
    let e = c.args.entry.now in
    let i = c.in-Some.seat in
    let spaces = c.args.self.now.spaces in
    let own : seat_of e ≡ Some i = sym c.seat.ensures ∙ c.in-Some.is in
    let there : i < heap.seats = subst (λ o. IfSome o (λ n. n < heap.seats)) own below in
    let old : SeatTells i c.space.result history = subst (λ s. SeatTells i s history) (sym c.space.ensures) (tells i there) in
    let put : space_at (slice_set spaces i c.after-space.result) i ≡ c.after-space.result = subst (λ l. space_at l i ≡ c.after-space.result) c.put.ensures.puts c.put.ensures.put in
    subst (λ l. SeatTells number (space_at l number) (history ++ e ∷ [])) (sym c.put.ensures.puts)
    (SeatTells-put history e spaces i c.after-space.result own put (c.after-space.ensures.tells i history own old) number (tells number within))

pub returns-in-Some-clause-fits : goal.returns-in-Some-clause-fits
returns-in-Some-clause-fits c = λ n fits number.
    let i = c.in-Some.seat in
    let spaces = c.args.self.now.spaces in
    let old : SeatFits n c.space.result = subst (SeatFits n) (sym c.space.ensures) (fits i) in
    let put : space_at (slice_set spaces i c.after-space.result) i ≡ c.after-space.result = subst (λ l. space_at l i ≡ c.after-space.result) c.put.ensures.puts c.put.ensures.put in
    subst (λ l. SeatFits (n + 1) (space_at l number)) (sym c.put.ensures.puts) (SeatFits-put n spaces i c.after-space.result put (c.after-space.ensures.fits n old) fits number)

pub returns-in_default-clause-tells : goal.returns-in_default-clause-tells
returns-in_default-clause-tells c = λ heap history below tells number within.
    SeatTells-other number history c.args.entry.now (space_at c.args.self.now.spaces number) (λ own. c.in_default.not-Some number (c.seat.ensures ∙ own)) (tells number within)

pub returns-in_default-clause-fits : goal.returns-in_default-clause-fits
returns-in_default-clause-fits c = λ n fits number. SeatFits-more n (space_at c.args.self.now.spaces number) (fits number)
