use Rattle.mutator_seat.proofs.Inner.{may_begin_inner, begun_inner_is_sound, begun_inner_has_room, inner_call_is_made, seat_rests_after_inner}
use Rattle.mutator_seat.proofs.seat.Seat.make_inner.Goals as goal

pub begin_inner-requires : goal.begin_inner-requires
begin_inner-requires g c = record { may = may_begin_inner c.self.inside.holder c.args.self.now c.args.inner c.self.view_is c.self.invariant c.requires.ready c.requires.makes }

pub run-requires-clause-sound : goal.run-requires-clause-sound
run-requires-clause-sound g c = begun_inner_is_sound c.self.inside.holder c.args.self.now c.args.inner c.self.view_is c.self.invariant c.requires.ready c.requires.makes c.begin_inner.new.self c.begin_inner.ensures

pub run-requires-clause-room : goal.run-requires-clause-room
run-requires-clause-room g c = begun_inner_has_room c.self.inside.holder c.args.self.now c.args.inner c.self.view_is c.self.invariant c.requires.ready c.requires.makes c.begin_inner.new.self c.begin_inner.ensures

pub returns : goal.returns
returns g c =
    inner_call_is_made c.self.inside.holder c.args.self.now c.args.inner c.self.view_is c.self.invariant c.requires.ready c.requires.makes c.begin_inner.new.self c.begin_inner.ensures
    c.run.new.holder c.run.ensures.steps c.run.ensures.over

pub invariant_of-self : goal.invariant_of-self
invariant_of-self g c =
    seat_rests_after_inner c.self.inside.holder c.args.self.now c.args.inner c.self.view_is c.self.invariant c.requires.ready c.requires.makes c.begin_inner.new.self c.begin_inner.ensures
    c.run.new.holder c.run.ensures.steps c.run.ensures.over c.party.ensures.sound c.party.ensures.own
