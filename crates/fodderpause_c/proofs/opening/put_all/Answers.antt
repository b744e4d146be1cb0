use Rattle.std.proofs.Common.{slice_set, ap, ◌∙◌}
use Rattle.fodderpause_c.proofs.Filling.{is_filling_after_next, is_filling_at_first, place_is_bare}
use Rattle.fodderpause_c.proofs.opening.put_all.Goals as goal

pub loop-party-init : goal.loop-party-init
loop-party-init c = is_filling_at_first c.args.boxes.items c.args.handles.now c.requires.each c.requires.bare

pub put-requires : goal.put-requires
put-requires c =
    let now = c.loop-party in
    place_is_bare c.args.boxes.items now.boxes.items c.pop.new.self.items c.in-Some.party now.handles c.index-handles-len.result c.len.result c.in-Some.ensures.items (c.len.ensures ∙ c.pop.new.self.ok.0) now.invariant

pub loop-party-preserved : goal.loop-party-preserved
loop-party-preserved c =
    let now = c.loop-party in
    is_filling_after_next c.args.boxes.items now.boxes.items c.pop.new.self.items c.in-Some.party now.handles _ c.put.new.self c.in-Some.ensures.items c.put.ensures (ap (λ k. slice_set now.handles k c.put.new.self) (c.len.ensures ∙ c.pop.new.self.ok.0)) now.invariant
