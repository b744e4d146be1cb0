-- What a refusal shows is right: what a gather over all groups found.
use Rattle.std.specs.List.{list_any}
use Rattle.std.specs.Prelude.{drop}
use Rattle.std.proofs.Common.{◌≡◌, ℕ, ◌+◌, ◌*◌, ◌<◌, false, List, arith}
use Rattle.core_rule.proofs.Terms.{Entry, Heap, effect_of, taken_of, spent_of, is_reply_to, AreUsed, GathersRight, Owner}
use Rattle.heap_model.specs.account.Refusals.{FindsSpace}
use Rattle.core_rule.proofs.counts.FreeSums.{taken_and_free_make_all, all_passed_is_all_free}
use Rattle.core_rule.proofs.entries.Others.{summand_but}
use Rattle.core_rule.proofs.gather.SinceCall.{call_sum_within_since_reply}

-- after a gather over all groups that found too little, what was found is right, in a run
pub finds_space_in_run : (heap : Heap) (owner : ℕ → Owner) (history : List Entry) (number begun cursor given reserve : ℕ) → cursor < heap.groups
    → AreUsed heap owner history → reserve + spent_of number history ≡ taken_of number history
    → list_any (is_reply_to number) (drop begun history) ≡ false
    → GathersRight heap owner number (drop begun history) cursor heap.groups given
    → FindsSpace heap false history number (reserve + given)
finds_space_in_run heap owner history number begun cursor given reserve within used own unanswered gathers =
    let all = taken_and_free_make_all (16 * heap.groups) owner in
    let passed = all_passed_is_all_free heap owner cursor within in
    let freed = call_sum_within_since_reply number (λ e. (effect_of e).freed) begun history unanswered in
    let gave = call_sum_within_since_reply number (summand_but number (λ x. x.given)) begun history unanswered in
    let took = call_sum_within_since_reply number (summand_but number (λ x. x.taken)) begun history unanswered in
    (omega (arith, all, passed, freed, gave, used, own, gathers.passed), omega (arith, all, took, used, own, gathers.returned))
