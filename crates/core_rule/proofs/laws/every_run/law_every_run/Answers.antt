use Rattle.core_machine.proofs.machine_lemmas.Runs.{event_leaves_machine}
use Rattle.core_rule.proofs.counts.FreeSums.{free_is_unused}
use Rattle.core_rule.proofs.held.DueWords.{each_step_has_its_word, each_turn_has_its_word}
use Rattle.core_rule.proofs.held.FreedFragments.{no_free_takes_held}
use Rattle.core_rule.proofs.held.HeldWordLaws.{no_place_takes_held, no_copy_takes_held, each_store_is_own, each_spine_store_is_own, each_copy_store_is_own}
use Rattle.core_rule.proofs.held.HeldFragments.{each_held_is_taken, no_claim_takes_held, each_held_is_marked}
use Rattle.core_rule.proofs.looks.Finds.{each_event_is_followed}
use Rattle.core_rule.proofs.runs.CountedFinds.{waits_are_finds}
use Rattle.core_rule.proofs.runs.BornWords.{each_birth_has_its_colour}
use Rattle.core_rule.proofs.runs.MarkedAnswers.{each_answer_is_marked}
use Rattle.core_rule.proofs.runs.Waits.{each_wait_is_behind}
use Rattle.core_rule.proofs.runs.ToldDead.{each_dead_is_told}
use Rattle.core_rule.proofs.runs.OpeningStands.{opening_stands}
use Rattle.core_rule.proofs.runs.LoneCalls.{each_lone_refusal_is_right}
use Rattle.core_rule.proofs.runs.PlayRuns.{whole_calls_play}
use Rattle.core_rule.proofs.runs.ComingTurns.{each_turn_comes_to}
use Rattle.core_rule.proofs.runs.KeptRuns.{event_keeps, run_keeps}
use Rattle.core_rule.proofs.budgets.IdleBudgets.{words_are_used}
use Rattle.core_rule.proofs.steps.Steps.{each_step_keeps, each_begin_keeps, each_inner_keeps, each_turn_keeps}
use Rattle.core_rule.proofs.told.AsTold.{each_seat_is_as_told}
use Rattle.core_rule.proofs.told.FoundWords.{each_found_is_told}
use Rattle.core_rule.proofs.told.ReachedFields.{each_reaches_own}
use Rattle.core_rule.proofs.turns.{each_turn_leaves_fewer}
use Rattle.core_rule.proofs.laws.every_run.law_every_run.Goals as goal

pub returns-clause-step : goal.returns-clause-step
returns-clause-step c = event_keeps

pub returns-clause-run : goal.returns-clause-run
returns-clause-run c = run_keeps

pub returns-clause-play : goal.returns-clause-play
returns-clause-play c = whole_calls_play event_leaves_machine each_step_keeps each_begin_keeps each_inner_keeps each_turn_keeps opening_stands

pub returns-clause-alone : goal.returns-clause-alone
returns-clause-alone c = each_lone_refusal_is_right

pub returns-clause-free : goal.returns-clause-free
returns-clause-free c = free_is_unused

pub returns-clause-words : goal.returns-clause-words
returns-clause-words c = words_are_used

pub returns-clause-births : goal.returns-clause-births
returns-clause-births c = each_birth_has_its_colour

pub returns-clause-answers : goal.returns-clause-answers
returns-clause-answers c = each_answer_is_marked

pub returns-clause-waits : goal.returns-clause-waits
returns-clause-waits c = each_wait_is_behind

pub returns-clause-dead : goal.returns-clause-dead
returns-clause-dead c = each_dead_is_told

pub returns-clause-turns : goal.returns-clause-turns
returns-clause-turns c = each_turn_comes_to event_keeps

pub returns-clause-held : goal.returns-clause-held
returns-clause-held c = each_held_is_taken

pub returns-clause-claims : goal.returns-clause-claims
returns-clause-claims c = no_claim_takes_held

pub returns-clause-frees : goal.returns-clause-frees
returns-clause-frees c = no_free_takes_held

pub returns-clause-marked : goal.returns-clause-marked
returns-clause-marked c = each_held_is_marked

pub returns-clause-places : goal.returns-clause-places
returns-clause-places c = no_place_takes_held

pub returns-clause-copies : goal.returns-clause-copies
returns-clause-copies c = no_copy_takes_held

pub returns-clause-stores : goal.returns-clause-stores
returns-clause-stores c = each_store_is_own

pub returns-clause-spine_stores : goal.returns-clause-spine_stores
returns-clause-spine_stores c = each_spine_store_is_own

pub returns-clause-copy_stores : goal.returns-clause-copy_stores
returns-clause-copy_stores c = each_copy_store_is_own

pub returns-clause-step_words : goal.returns-clause-step_words
returns-clause-step_words c = each_step_has_its_word

pub returns-clause-turn_words : goal.returns-clause-turn_words
returns-clause-turn_words c = each_turn_has_its_word

pub returns-clause-fewer : goal.returns-clause-fewer
returns-clause-fewer c = each_turn_leaves_fewer

pub returns-clause-finds : goal.returns-clause-finds
returns-clause-finds c = waits_are_finds event_keeps opening_stands

pub returns-clause-looks : goal.returns-clause-looks
returns-clause-looks c = each_event_is_followed

pub returns-clause-own : goal.returns-clause-own
returns-clause-own c = each_seat_is_as_told

pub returns-clause-found : goal.returns-clause-found
returns-clause-found c = each_found_is_told

pub returns-clause-reached : goal.returns-clause-reached
returns-clause-reached c = each_reaches_own
