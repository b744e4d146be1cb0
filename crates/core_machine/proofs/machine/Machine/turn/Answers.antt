use Rattle.core_machine.proofs.collector_lemmas.Turning.{turn_word_in_table, turn_finds_within_heap, turn_leaves_machine, turn_leaves_state, same_heap, turn_may, turn_found, turn_answer, collector_room, turn_spends}
use Rattle.core_machine.proofs.machine.Machine.turn.Goals as goal

pub perform-found-requires-clause-limits : goal.perform-found-requires-clause-limits
perform-found-requires-clause-limits g c = c.self.invariant.limits

pub perform-found-requires-clause-in_table : goal.perform-found-requires-clause-in_table
perform-found-requires-clause-in_table g c = turn_word_in_table _ _ _ _ _ _ _ c.args.step.now c.self.view_is c.requires.due c.self.invariant

pub learn-answer-requires-clause-limits : goal.learn-answer-requires-clause-limits
learn-answer-requires-clause-limits g c = c.self.invariant.limits

pub learn-answer-requires-clause-fits : goal.learn-answer-requires-clause-fits
learn-answer-requires-clause-fits g c = c.self.invariant.collector_fit

pub learn-answer-requires-clause-found : goal.learn-answer-requires-clause-found
learn-answer-requires-clause-found g c =
    turn_finds_within_heap _ _ _ _ _ _ _ c.args.step.now c.self.view_is c.requires.due _ c.perform-found.ensures.found c.self.invariant

pub learn-answer-requires-clause-spare : goal.learn-answer-requires-clause-spare
learn-answer-requires-clause-spare g c = collector_room _ _ _ _ _ _ _ c.args.step.now c.self.view_is c.requires.due c.requires.room

pub invariant_of-self : goal.invariant_of-self
invariant_of-self g c =
    turn_leaves_machine _ _ _ _ _ _ _ c.args.step.now c.self.view_is c.requires.due _ _ _
    c.perform-found.ensures.found c.perform-found.ensures.words c.learn-answer.ensures.collector c.learn-answer.ensures.may c.self.invariant

pub returns-clause-can : goal.returns-clause-can
returns-clause-can g c = turn_may _ _ _ _ _ _ _ c.args.step.now c.self.view_is c.requires.due c.learn-answer.ensures.may

pub returns-clause-heap : goal.returns-clause-heap
returns-clause-heap g c = same_heap _ _ _ _ _ _ _ c.args.step.now c.self.view_is c.requires.due

pub returns-clause-state : goal.returns-clause-state
returns-clause-state g c =
    turn_leaves_state _ _ _ _ _ _ _ c.args.step.now c.self.view_is c.requires.due _ _ _
    c.perform-found.ensures.found c.perform-found.ensures.words c.learn-answer.ensures.collector

pub returns-clause-found : goal.returns-clause-found
returns-clause-found g c = turn_found _ _ _ _ _ _ _ c.args.step.now c.self.view_is c.requires.due _ c.perform-found.ensures.found

pub returns-clause-answer : goal.returns-clause-answer
returns-clause-answer g c = turn_answer _ _ _ _ _ _ _ c.args.step.now c.self.view_is c.requires.due _ _ c.learn-answer.ensures.answer

pub returns-clause-spent : goal.returns-clause-spent
returns-clause-spent g c = turn_spends _ _ _ _ _ _ _ _ _ _ _ c.self.view_is c.learn-answer.ensures.forgotten c.learn-answer.ensures.spare c.learn-answer.ensures.no_more
