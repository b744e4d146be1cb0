use Rattle.fodderpause_c.proofs.HasGone.{folded_has_left}
use Rattle.fodderpause_c.proofs.folding.take_in.Goals as goal

pub fold_in-requires-clause-left : goal.fold_in-requires-clause-left
fold_in-requires-clause-left c =
    let made = c.into_holder-holder in
    folded_has_left c.args.into.now c.args.from c.in-OfCollector.collector c.in-OfSeat.seat made.result c.in-OfCollector.is c.in-OfSeat.is c.requires.may made.ensures.held (c.party.ensures.own made.ensures.between.idle).left
