use Rattle.std.proofs.Common.{◌≡◌, ℕ, ◌-◌, ◌<◌, refl, sym, ap, ◌∙◌, arith}
use Rattle.heap_table.specs.Ahead.{seat_in, on_way}
use Rattle.heap_table.proofs.Ways.{leads_nowhere, leads_join, step_leads, link_is_due, link_is_small, link_leads_on}
use Rattle.heap_table.proofs.way.follow.Goals as goal

pub loop-left-init : goal.loop-left-init
loop-left-init g c = record {
  same = refl;
  keeps = c.requires.keeps;
  at = c.requires.at;
  leads = leads_nowhere c.args.heap.now c.args.number _ _ refl;
}

pub step_next-link-requires-clause-due : goal.step_next-link-requires-clause-due
step_next-link-requires-clause-due g c =
    let more : 0 < c.loop-left.left = omega arith in
    link_is_due c.args.heap.now c.args.number c.args.party.now.seat c.args.command.now c.loop-left.fragment c.loop-left.left c.args.way.part c.args.party.now.seat.address more (seat_in c.loop-left.token.me) c.loop-left.invariant.at

pub link_in-fragment-requires : goal.link_in-fragment-requires
link_in-fragment-requires g c =
    let more : 0 < c.loop-left.left = omega arith in
    link_is_small c.args.heap.now c.args.number c.args.party.now.seat c.args.command.now c.loop-left.fragment c.loop-left.left c.args.way.part c.args.party.now.seat.address more (seat_in c.loop-left.token.me) c.loop-left.invariant.at
    c.step_next-link.result c.requires.keeps.limits c.step_next-link.ensures.told

pub loop-left-preserved : goal.loop-left-preserved
loop-left-preserved g c =
    let more : 0 < c.loop-left.left = omega arith in
    let heap = c.args.heap.now in
    let seat = c.args.party.now.seat in
    let mid = seat_in c.loop-left.token.me in
    let due = link_is_due heap c.args.number seat c.args.command.now c.loop-left.fragment c.loop-left.left c.args.way.part seat.address more mid c.loop-left.invariant.at in
    let on = link_leads_on heap c.args.number seat c.args.command.now c.loop-left.fragment c.loop-left.left c.args.way.part seat.address more mid c.loop-left.invariant.at c.step_next-link.result in
    record {
      same = c.step_next-link.ensures.same ∙ c.loop-left.invariant.same;
      keeps = c.step_next-link.ensures.keeps;
      at = c.step_next-link.ensures.seat ∙ on ∙ ap (λ (f : ℕ). on_way seat c.args.command.now f (c.loop-left.left - 1) c.args.way.part seat.address) (sym c.link_in-fragment.ensures);
      leads = leads_join heap c.args.number (seat_in c.args.token.now.me) mid (seat_in c.step_next-link.new.token.me) c.loop-left.invariant.leads
          (step_leads heap c.args.number mid (seat_in c.step_next-link.new.token.me) _ c.step_next-link.result due c.step_next-link.ensures.told c.step_next-link.ensures.seat);
    }

pub returns-clause-same : goal.returns-clause-same
returns-clause-same g c = c.loop-left.invariant.same

pub returns-clause-keeps : goal.returns-clause-keeps
returns-clause-keeps g c = c.loop-left.invariant.keeps

pub returns-clause-at : goal.returns-clause-at
returns-clause-at g c =
    let none : c.loop-left.left ≡ 0 = omega arith in
    c.loop-left.invariant.at ∙ ap (λ (n : ℕ). on_way c.args.party.now.seat c.args.command.now c.loop-left.fragment n c.args.way.part c.args.party.now.seat.address) none

pub returns-clause-leads : goal.returns-clause-leads
returns-clause-leads g c = c.loop-left.invariant.leads
