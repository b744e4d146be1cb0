-- What the rule says of a machine between calls, by the entries so far.
use Rattle.std.proofs.Common.{true, List, [], sym, subst, arith}
use Rattle.heap_model.specs.declared.heap.Heap.{Heap}
use Rattle.heap_model.specs.declared.entry.Entry.{Entry}
use Rattle.heap_model.specs.account.Account.{IsLegal}
use Rattle.core_machine.specs.machine.Machine.{State}
use Rattle.core_rule.specs.runs.Laws.{OneCallAtATime, StandsFor, EveryRunKeeps, WholeCallsPlay, WordsAreUsed}
use Rattle.core_rule.proofs.parties.Standing.{lost_within_gained, budget_word_is_words_used}
use Rattle.heap_record.proofs.Leading.{book_stands_for_state}
use Rattle.heap_runs.specs.MachineHeap.{IsBetweenCalls}
use Rattle.heap_runs.specs.PlayHeap.{IsPlayed}

-- some book stands for it
pub book_stands_for_run : EveryRunKeeps → (heap : Heap) (state : State) (told : List Entry) → IsBetweenCalls heap state told → StandsFor heap state [] told
book_stands_for_run runs heap state told between = book_stands_for_state OneCallAtATime heap state told between runs

-- the entries are a play
pub entries_are_played : EveryRunKeeps → WholeCallsPlay → WordsAreUsed → (heap : Heap) (state : State) (told : List Entry) → IsBetweenCalls heap state told → IsPlayed heap told
entries_are_played runs plays words heap state told between =
    let legal : IsLegal heap true told = subst (IsLegal heap true) (sym between.shown) (plays heap between.opening between.events between.limits between.opens between.run between.are) in
    let s = book_stands_for_run runs heap state told between in
    let used = budget_word_is_words_used heap state told s words between.all_idle in
    record { legal = legal; none_short = lost_within_gained heap state told s; words_fit = omega (arith, used.0, used.1) }
