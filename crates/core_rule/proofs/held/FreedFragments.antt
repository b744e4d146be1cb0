-- A turn of the collector clears the taken bits of fragments that are to be freed alone. What is held isn't to be freed, so it stays taken.
use Rattle.std.proofs.Common.{refl}
use Rattle.core_rule.specs.held.HeldLaws.{NoFreeTakesHeld}
use Rattle.core_rule.proofs.held.Alive.{alive_not_dead}
use Rattle.core_rule.proofs.held.HeldFragments.{held_is_alive, each_held_is_taken}
use Rattle.core_rule.proofs.owners.OwnerLemmas.{dead_bit_is_dead}
use Rattle.core_rule.proofs.steps.collector.{turn_kind_of_each_stage}

pub no_free_takes_held : NoFreeTakesHeld
no_free_takes_held heap state book f rule held =
    let taken = each_held_is_taken heap state book f rule held in
    (turn_kind_of_each_stage state.collector.stage).bits.spares_taken heap state book rule refl f taken.0
    (λ one. let dead = dead_bit_is_dead (book.owner f) one in alive_not_dead (book.owner f) dead.0 dead.1 (held_is_alive heap state book rule f held) dead.2) taken.1
