use Rattle.std.proofs.Common.{◌≡◌, ◌≢◌, ℕ, ◌<◌, length, refl, subst, ap, arith}
use Rattle.std.proofs.Math.ListN.{length-map}
use Rattle.core_machine.proofs.Terms.{SeatWithRoom}
use Rattle.core_machine.proofs.machine_lemmas.Parties.{other_party_keeps_number, each_but_last}
use Rattle.core_machine.proofs.machine_lemmas.Stepping.{room_leaves_state, room_leaves_machine, spare_was_partys, own_spare_is_partys, own_forgotten_are_partys}
use Rattle.core_machine.specs.machine.Value.{CollectorWithRoom}
use Rattle.core_machine.proofs.machine_lemmas.PartyRoom.{collector_room_leaves_machine, collector_forgets, collector_gets_room, collector_has_forgotten}
use Rattle.core_machine.proofs.machine.Machine.forget.Goals as goal

pub invariant_of-self : goal.invariant_of-self
invariant_of-self g c =
    let m = c.self.inside in
    room_leaves_machine m.heap m.words.items m.seats.items m.collector.collector 0 0 c.args.party c.index_mut-seat.result.now c.forget.new.self
    (omega arith) c.index_mut-seat.ensures.value c.forget.ensures.same c.self.invariant

pub returns-then-party-len-clause-same : goal.returns-then-party-len-clause-same
returns-then-party-len-clause-same g c =
    let m = c.self.inside in
    let state = room_leaves_state m.heap m.words.items m.seats.items m.collector.collector 0 0 c.args.party c.index_mut-seat.result.now c.forget.new.self
    (omega arith) c.index_mut-seat.ensures.value c.forget.ensures.same in
    rw (← c.self.view_is, state) refl

pub returns-then-party-len-clause-more : goal.returns-then-party-len-clause-more
returns-then-party-len-clause-more g c =
    let m = c.self.inside in
    let within : c.args.party < length m.seats.items = omega arith in
    let before = spare_was_partys m.heap m.words.items m.seats.items m.collector.collector m.collector.spare m.collector.forgotten c.args.party c.index_mut-seat.result.now c.forget.new.self within c.index_mut-seat.ensures.value in
    let now = own_spare_is_partys m.heap m.words.items m.seats.items m.collector.collector m.collector.spare m.collector.forgotten c.args.party c.index_mut-seat.result.now c.forget.new.self within c.index_mut-seat.ensures.value m.words.items in
    rw (← c.self.view_is, before, now) c.forget.ensures.spare

pub returns-then-party-len-clause-others : goal.returns-then-party-len-clause-others
returns-then-party-len-clause-others g c =
    let m = c.self.inside in
    let within : c.args.party < length m.seats.items = omega arith in
    rw (← c.self.view_is) (λ other apart. (
      other_party_keeps_number (λ (p : SeatWithRoom). p.forgotten) m.seats.items m.collector.forgotten c.args.party c.forget.new.self other within apart,
      other_party_keeps_number (λ (p : SeatWithRoom). p.spare) m.seats.items m.collector.spare c.args.party c.forget.new.self other within apart,
    ))

pub returns-else-party-len-clause-others : goal.returns-else-party-len-clause-others
returns-else-party-len-clause-others g c =
    let m = c.self.inside in
    let long = length-map m.seats.items (λ (p : SeatWithRoom). p.seat) in
    let last : c.args.party ≡ length m.seats.items = omega (arith, c.if-party-len.false, c.len.ensures, rw (← c.self.view_is) at c.requires) in
    rw (← c.self.view_is) (λ other apart. (
      each_but_last (λ (p : SeatWithRoom). p.forgotten) m.seats.items m.collector.forgotten c.forget-else-party-len.new.self.forgotten other (subst (λ (n : ℕ). other ≢ n) last apart),
      each_but_last (λ (p : SeatWithRoom). p.spare) m.seats.items m.collector.spare c.forget-else-party-len.new.self.spare other (subst (λ (n : ℕ). other ≢ n) last apart),
    ))

pub index_mut-seat-requires : goal.index_mut-seat-requires
index_mut-seat-requires g c = omega (arith, c.if-party-len.true, c.len.ensures)

pub invariant_of-self-else-party-len : goal.invariant_of-self-else-party-len
invariant_of-self-else-party-len g c =
    let next = c.forget-else-party-len.new.self in
    let same = ap (λ (p : CollectorWithRoom). p.collector) c.forget-else-party-len.ensures.same in
    collector_room_leaves_machine _ _ _ _ _ _ _ c.self.view_is next.collector next.spare next.forgotten same c.self.invariant

pub returns-else-party-len-clause-same : goal.returns-else-party-len-clause-same
returns-else-party-len-clause-same g c =
    let next = c.forget-else-party-len.new.self in
    let same = ap (λ (p : CollectorWithRoom). p.collector) c.forget-else-party-len.ensures.same in
    collector_forgets _ _ _ _ _ _ _ c.self.view_is next.collector next.spare next.forgotten same

pub returns-else-party-len-clause-more : goal.returns-else-party-len-clause-more
returns-else-party-len-clause-more g c =
    let next = c.forget-else-party-len.new.self in
    let same = ap (λ (p : CollectorWithRoom). p.collector) c.forget-else-party-len.ensures.same in
    collector_gets_room _ _ _ _ _ _ _ c.self.view_is next.collector next.spare next.forgotten same c.args.party
    (omega (arith, c.if-party-len.false, c.len.ensures)) c.requires c.forget-else-party-len.ensures.spare

pub returns-then-party-len-clause-forgotten : goal.returns-then-party-len-clause-forgotten
returns-then-party-len-clause-forgotten g c =
    let m = c.self.inside in
    let within : c.args.party < length m.seats.items = omega arith in
    rw (← c.self.view_is) (own_forgotten_are_partys m.heap m.words.items m.seats.items m.collector.collector m.collector.spare m.collector.forgotten c.args.party c.index_mut-seat.result.now c.forget.new.self within c.index_mut-seat.ensures.value
    g.L.ShowsRecent.forgets c.forget.ensures.forgotten)

pub returns-else-party-len-clause-forgotten : goal.returns-else-party-len-clause-forgotten
returns-else-party-len-clause-forgotten g c =
    let next = c.forget-else-party-len.new.self in
    let same = ap (λ (p : CollectorWithRoom). p.collector) c.forget-else-party-len.ensures.same in
    collector_has_forgotten _ _ _ _ _ _ _ c.self.view_is next.collector next.spare next.forgotten same c.args.party
    (omega (arith, c.if-party-len.false, c.len.ensures)) c.requires g.L.ShowsRecent.forgets c.forget-else-party-len.ensures.forgotten
