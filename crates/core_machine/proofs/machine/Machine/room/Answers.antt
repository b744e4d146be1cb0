use Rattle.std.proofs.Common.{arith, ◌<◌, length, refl, ap, ◌∙◌}
use Rattle.core_machine.proofs.Terms.{SeatWithRoom}
use Rattle.core_machine.proofs.machine_lemmas.Parties.{party_numbers_stay}
use Rattle.core_machine.proofs.machine_lemmas.Stepping.{room_leaves_state, room_leaves_machine, spare_was_partys, own_spare_is_partys, other_spare_stays}
use Rattle.std.proofs.lemmas.Result.{on_err_weaker}
use Rattle.core_machine.proofs.machine_lemmas.PartyRoom.{same_party_leaves_value, same_collector_leaves_value, collector_room_leaves_machine, collector_room_leaves_value, collector_has_room, collector_gets_room, others_keep_room}
use Rattle.core_machine.proofs.machine.Machine.room.Goals as goal

pub invariant_of-self : goal.invariant_of-self
invariant_of-self g c =
    let m = c.self.inside in
    room_leaves_machine m.heap m.words.items m.seats.items m.collector.collector 0 0 c.args.party c.index_mut-seat.result.now c.room.new.self
    (omega arith) c.index_mut-seat.ensures.value c.room.ensures.same c.self.invariant

pub returns-then-party-len-clause-same : goal.returns-then-party-len-clause-same
returns-then-party-len-clause-same g c =
    let m = c.self.inside in
    let state = room_leaves_state m.heap m.words.items m.seats.items m.collector.collector 0 0 c.args.party c.index_mut-seat.result.now c.room.new.self
    (omega arith) c.index_mut-seat.ensures.value c.room.ensures.same in
    let forgot = party_numbers_stay (λ s. s.forgotten) m.seats.items c.args.party c.room.new.self c.index_mut-seat.result.now (c.room.ensures.forgotten ∙ ap (λ (s : SeatWithRoom). s.forgotten) c.index_mut-seat.ensures.value) in
    rw (← c.self.view_is, state, forgot) refl

pub returns-then-party-len-clause-more : goal.returns-then-party-len-clause-more
returns-then-party-len-clause-more g c =
    let m = c.self.inside in
    let room = m.collector.spare in
    let within : c.args.party < length m.seats.items = omega arith in
    let before = spare_was_partys m.heap m.words.items m.seats.items m.collector.collector room m.collector.forgotten c.args.party c.index_mut-seat.result.now c.room.new.self within c.index_mut-seat.ensures.value in
    let now = own_spare_is_partys m.heap m.words.items m.seats.items m.collector.collector room m.collector.forgotten c.args.party c.index_mut-seat.result.now c.room.new.self within c.index_mut-seat.ensures.value m.words.items in
    rw (← c.self.view_is, before, now) c.room.ensures.more

pub returns-then-party-len-clause-others : goal.returns-then-party-len-clause-others
returns-then-party-len-clause-others g c =
    let m = c.self.inside in
    let room = m.collector.spare in
    rw (← c.self.view_is) (λ other apart. other_spare_stays m.heap m.words.items m.seats.items m.collector.collector room m.collector.forgotten c.args.party c.index_mut-seat.result.now c.room.new.self
    (omega arith) c.index_mut-seat.ensures.value m.words.items other apart)

pub returns-then-party-len-clause-room : goal.returns-then-party-len-clause-room
returns-then-party-len-clause-room g c =
    let m = c.self.inside in
    let room = m.collector.spare in
    let now = own_spare_is_partys m.heap m.words.items m.seats.items m.collector.collector room m.collector.forgotten c.args.party c.index_mut-seat.result.now c.room.new.self
    (omega arith) c.index_mut-seat.ensures.value m.words.items in
    rw now c.room.ensures.room

pub index_mut-seat-requires : goal.index_mut-seat-requires
index_mut-seat-requires g c = omega (arith, c.if-party-len.true, c.len.ensures)

pub invariant_of-self-else-party-len : goal.invariant_of-self-else-party-len
invariant_of-self-else-party-len g c =
    let next = c.room-else-party-len.new.self in
    collector_room_leaves_machine _ _ _ _ _ _ _ c.self.view_is next.collector next.spare next.forgotten c.room-else-party-len.ensures.same c.self.invariant

pub returns-then-party-len-clause-memory : goal.returns-then-party-len-clause-memory
returns-then-party-len-clause-memory g c =
    on_err_weaker _ (same_party_leaves_value _ _ _ _ _ _ _ c.self.view_is c.args.party c.index_mut-seat.result.now c.room.new.self c.index_mut-seat.ensures.value) c.room.ensures.memory

pub returns-else-party-len-clause-same : goal.returns-else-party-len-clause-same
returns-else-party-len-clause-same g c =
    let next = c.room-else-party-len.new.self in
    collector_room_leaves_value _ _ _ _ _ _ _ c.self.view_is next.collector next.spare next.forgotten c.room-else-party-len.ensures.same c.room-else-party-len.ensures.forgotten

pub returns-else-party-len-clause-more : goal.returns-else-party-len-clause-more
returns-else-party-len-clause-more g c =
    let next = c.room-else-party-len.new.self in
    collector_gets_room _ _ _ _ _ _ _ c.self.view_is next.collector next.spare next.forgotten c.room-else-party-len.ensures.same c.args.party
    (omega (arith, c.if-party-len.false, c.len.ensures)) c.requires c.room-else-party-len.ensures.more

pub returns-else-party-len-clause-others : goal.returns-else-party-len-clause-others
returns-else-party-len-clause-others g c =
    let next = c.room-else-party-len.new.self in
    others_keep_room _ _ _ _ _ _ _ c.self.view_is next.collector next.spare next.forgotten c.room-else-party-len.ensures.same c.args.party
    (omega (arith, c.if-party-len.false, c.len.ensures)) c.requires

pub returns-else-party-len-clause-room : goal.returns-else-party-len-clause-room
returns-else-party-len-clause-room g c =
    let next = c.room-else-party-len.new.self in
    rw (collector_has_room _ _ _ _ _ _ _ c.self.view_is next.collector next.spare next.forgotten c.room-else-party-len.ensures.same c.args.party
    (omega (arith, c.if-party-len.false, c.len.ensures)) c.requires) c.room-else-party-len.ensures.room

pub returns-else-party-len-clause-memory : goal.returns-else-party-len-clause-memory
returns-else-party-len-clause-memory g c =
    on_err_weaker _ (same_collector_leaves_value _ _ _ _ _ _ _ c.self.view_is c.self.inside.collector c.room-else-party-len.new.self refl refl refl) c.room-else-party-len.ensures.memory
