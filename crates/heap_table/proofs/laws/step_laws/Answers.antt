-- The laws of steps.
use Rattle.std.proofs.Common.{List, ◌++◌}
use Rattle.std.proofs.lemmas.List.Elements.{Contains-append_right}
use Rattle.heap_table.specs.Made.{FoundIn, ToldIn}
use Rattle.heap_table.proofs.MadeSteps.{makes_no_steps, makes_one_step, makes_steps_of_append, makes_one_more, step_is_nearer, room_is_left_along_steps, stays_sound_along_steps, while_access_has_reached, stage_stands_after_step, stage_stands_along_steps}
use Rattle.heap_table.proofs.Since.{stage_stands_since}
use Rattle.heap_table.proofs.laws.step_laws.Goals as goal

pub returns-clause-none : goal.returns-clause-none
returns-clause-none c = makes_no_steps

pub returns-clause-one : goal.returns-clause-one
returns-clause-one c = λ old new step found due finds. makes_one_step old new step found due finds.told finds.stepped

pub returns-clause-joined : goal.returns-clause-joined
returns-clause-joined c = makes_steps_of_append

pub returns-clause-more : goal.returns-clause-more
returns-clause-more c = makes_one_more

pub returns-clause-nearer : goal.returns-clause-nearer
returns-clause-nearer c = step_is_nearer

pub returns-clause-room : goal.returns-clause-room
returns-clause-room c = room_is_left_along_steps

pub returns-clause-sound : goal.returns-clause-sound
returns-clause-sound c = stays_sound_along_steps

pub returns-clause-reached : goal.returns-clause-reached
returns-clause-reached c = λ old new found finds. while_access_has_reached old new found finds.stepped finds.told

pub returns-clause-stage : goal.returns-clause-stage
returns-clause-stage c = λ all heap number command old seat told step found limits few fits due here stage.
    stage_stands_after_step heap number seat limits few fits (FoundIn all) command old told step found due here stage

pub returns-clause-along : goal.returns-clause-along
returns-clause-along c = λ before made heap number command old seat new told limits few fits leads stage.
    stage_stands_along_steps (FoundIn (before ++ made)) heap number command old limits few made seat new told fits leads
    (λ step word here. Contains-append_right before made (record { step = step; found = word }) here) stage

pub returns-clause-told : goal.returns-clause-told
returns-clause-told c = λ old made command seat new told limits few fits leads stage.
    stage_stands_since old.heap old.number old.seat (ToldIn old made) command limits few made seat new told fits leads (λ step word here tells. (here, tells)) stage
