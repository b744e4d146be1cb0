use Rattle.std.proofs.Common.{sym, ap, refl, ◌∙◌}
use Rattle.core_machine.specs.machine.Calls.{last_reply_of}
use Rattle.core_machine.specs.seat.Seat.{Seat}
use Rattle.mutator_seat.specs.Calls.{begun}
use Rattle.mutator_seat.proofs.Whole.{inside_may_begin, first_is_sound, first_has_room, call_replies_at_last, whole_call_is_made, seat_rests_then}
use Rattle.mutator_seat.proofs.seat.Seat.call.Goals as goal

pub run_whole-requires-clause-may : goal.run_whole-requires-clause-may
run_whole-requires-clause-may g c = inside_may_begin c.self.inside.holder c.args.self.now c.args.command.now c.self.view_is c.self.invariant c.requires.ready c.requires.served

pub run_whole-requires-clause-sound : goal.run_whole-requires-clause-sound
run_whole-requires-clause-sound g c =
    first_is_sound c.self.inside.holder c.args.self.now c.args.command.now c.self.view_is c.self.invariant c.requires.ready c.requires.served (begun c.self.inside.holder c.args.command.now) refl

pub run_whole-requires-clause-room : goal.run_whole-requires-clause-room
run_whole-requires-clause-room g c =
    first_has_room c.self.inside.holder c.args.self.now c.args.command.now c.self.view_is c.self.invariant c.requires.ready c.requires.served (begun c.self.inside.holder c.args.command.now) refl

pub unreachable-requires : goal.unreachable-requires
unreachable-requires g c =
    call_replies_at_last c.self.inside.holder c.args.self.now c.args.command.now c.self.view_is c.self.invariant c.requires.ready c.requires.served (begun c.self.inside.holder c.args.command.now) refl
    c.step_laws.ensures.told c.run_whole.new.holder c.run_whole.ensures.steps c.run_whole.ensures.over (ap (λ (s : Seat). last_reply_of s.mine) (sym c.party.ensures.seat) ∙ sym c.last_reply.ensures ∙ c.in-None.is)

pub returns : goal.returns
returns g c =
    whole_call_is_made c.self.inside.holder c.args.self.now c.args.command.now c.self.view_is c.self.invariant c.requires.ready c.requires.served (begun c.self.inside.holder c.args.command.now) refl
    c.step_laws.ensures.told c.run_whole.new.holder c.run_whole.ensures.steps c.run_whole.ensures.over c.in-Some.reply (ap (λ (s : Seat). last_reply_of s.mine) (sym c.party.ensures.seat) ∙ sym c.last_reply.ensures ∙ c.in-Some.is)

pub invariant_of-self : goal.invariant_of-self
invariant_of-self g c =
    seat_rests_then c.self.inside.holder c.args.self.now c.args.command.now c.self.view_is c.self.invariant c.requires.ready c.requires.served (begun c.self.inside.holder c.args.command.now) refl
    c.step_laws.ensures.told c.run_whole.new.holder c.run_whole.ensures.steps c.run_whole.ensures.over c.in-Some.reply (ap (λ (s : Seat). last_reply_of s.mine) (sym c.party.ensures.seat) ∙ sym c.last_reply.ensures ∙ c.in-Some.is)
    c.party.ensures.sound c.party.ensures.own
