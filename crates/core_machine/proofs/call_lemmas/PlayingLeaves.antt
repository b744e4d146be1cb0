-- A leave that is made by itself, step by step.
use Rattle.std.proofs.Common.{◌≡◌, ◌∙◌}
use Rattle.core_machine.proofs.Terms.{Command, MakesObject, leaving_move, seat_at, state_after_move}
use Rattle.heap_model.specs.declared.command.Command.TheVariants as commands
use Rattle.heap_model.specs.declared.reply.Reply.TheVariants as replies
use Rattle.core_machine.specs.declared.point.Point.TheVariants as points
use Rattle.core_machine.specs.declared.point.Leaving.TheVariants.{Emptying, Parting}
use Rattle.core_machine.proofs.call_lemmas.Stages.{PointLeadsAlone}
use Rattle.core_machine.proofs.call_lemmas.PlayingEnds.{ended}

-- a leave makes no object, and is no poll
leave_makes_none : (command : Command) → command ≡ commands.Leave → MakesObject command → ⊥
leave_makes_none command leaves makes = rw leaves at makes

leave_no_poll : (command : Command) → command ≡ commands.Leave → command ≡ commands.Poll → ⊥
leave_no_poll command leaves polls = cc

-- the reserve was given back
pub empties_alone : PointLeadsAlone (points.Leaving Emptying)
empties_alone heap old number command now told here = tt

-- the seat has left
pub parting_alone : PointLeadsAlone (points.Leaving Parting)
parting_alone heap old number command now told here =
    let seat = seat_at now number in
    ended heap old number command told (state_after_move heap now number (leaving_move number seat Parting)) seat replies.Done here.same (leave_makes_none seat.command here.fits.1) (λ refusal. absurd refusal)
    (λ polls. absurd (leave_no_poll seat.command here.fits.1 (here.same ∙ polls)))
