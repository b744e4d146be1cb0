use Rattle.std.proofs.Common.{◌≡◌, ℕ, ◌+◌, ◌++◌, length, sym, ap, ◌∙◌, arith}
use Rattle.core_machine.specs.seat.Seat.{Seat}
use Rattle.frag_claim.specs.Due.{has_its_fragments}
use Rattle.frag_claim.proofs.Gathers.{gather_keeps_command, has_gathered_enough, gathered_is_what_is_needed, gathered_has_its_fragments, refused_heap_is_exhausted, refused_keeps_reserve, body_has_few_fragments}
use Rattle.frag_claim.proofs.gathering.gather.Goals as goal

pub take_over-requires-clause-reserve : goal.take_over-requires-clause-reserve
take_over-requires-clause-reserve g c = let seat = c.party-then-has_its_fragments.ensures in omega (arith, ap (λ (s : Seat). length s.reserve) seat.seat, seat.sound.fits.own.small_reserve)

pub take_over-requires-clause-body : goal.take_over-requires-clause-body
take_over-requires-clause-body g c =
    let e = ap has_its_fragments (sym (c.point.ensures ∙ ap (λ (s : Seat). s.point) c.party.ensures.seat)) ∙ sym c.has_its_fragments.ensures ∙ c.if-has_its_fragments.true in
    omega (arith, ap (λ (s : Seat). length s.body) c.party-then-has_its_fragments.ensures.seat, body_has_few_fragments c.claim_groups.new.holder c.claim_groups.ensures.sound e)

pub returns-then-has_its_fragments-clause-hand : goal.returns-then-has_its_fragments-clause-hand
returns-then-has_its_fragments-clause-hand g c =
    let e = ap has_its_fragments (sym (c.point.ensures ∙ ap (λ (s : Seat). s.point) c.party.ensures.seat)) ∙ sym c.has_its_fragments.ensures ∙ c.if-has_its_fragments.true in
    let is = c.take_over.ensures.hand ∙ ap (λ (s : Seat). s.body) c.party-then-has_its_fragments.ensures.seat in
    ap (length {A = ℕ}) is
    ∙ gathered_is_what_is_needed c.step_laws.ensures.along c.claim_groups.ensures.steps.0 c.args.holder.now c.claim_groups.new.holder c.args.reserve.now.fragments.items c.args.reserve.now.cursor c.args.need c.requires.begins
    c.claim_groups.ensures.begun c.claim_groups.ensures.steps.1 e

pub returns-then-has_its_fragments-clause-object : goal.returns-then-has_its_fragments-clause-object
returns-then-has_its_fragments-clause-object g c =
    let e = ap has_its_fragments (sym (c.point.ensures ∙ ap (λ (s : Seat). s.point) c.party.ensures.seat)) ∙ sym c.has_its_fragments.ensures ∙ c.if-has_its_fragments.true in
    let is = c.take_over.ensures.hand ∙ ap (λ (s : Seat). s.body) c.party-then-has_its_fragments.ensures.seat in
    gathered_has_its_fragments c.step_laws.ensures.along c.claim_groups.ensures.steps.0 c.args.holder.now c.claim_groups.new.holder c.args.reserve.now.fragments.items c.args.reserve.now.cursor c.args.need c.requires.begins
    c.claim_groups.ensures.begun c.claim_groups.ensures.steps.1 c.claim_groups.ensures.ends e c.take_over.new.hand.fragments.items is

pub returns-then-has_its_fragments-clause-gathered : goal.returns-then-has_its_fragments-clause-gathered
returns-then-has_its_fragments-clause-gathered g c = λ made makes.
    let e = ap has_its_fragments (sym (c.point.ensures ∙ ap (λ (s : Seat). s.point) c.party.ensures.seat)) ∙ sym c.has_its_fragments.ensures ∙ c.if-has_its_fragments.true in
    let hand_is = c.take_over.ensures.hand ∙ ap (λ (s : Seat). s.body) c.party-then-has_its_fragments.ensures.seat in
    let rest_is = c.take_over.ensures.reserve ∙ ap (λ (s : Seat). s.reserve) c.party-then-has_its_fragments.ensures.seat in
    let by = has_gathered_enough c.step_laws.ensures.along made c.args.holder.now c.claim_groups.new.holder c.args.reserve.now.fragments.items c.args.reserve.now.cursor c.args.need c.requires.begins c.claim_groups.ensures.begun makes e in
    record { claimed = by.claimed; tried = by.tried; claims = by.claims; hand_is = hand_is ∙ by.hand_is; rest_is = rest_is ∙ by.rest_is }

pub return_groups-requires-clause-returning : goal.return_groups-requires-clause-returning
return_groups-requires-clause-returning g c =
    c.claim_groups.ensures.ends.returning
    (ap has_its_fragments (sym (c.point.ensures ∙ ap (λ (s : Seat). s.point) c.party.ensures.seat)) ∙ sym c.has_its_fragments.ensures ∙ c.if-has_its_fragments.false)

pub return_groups-requires-clause-room : goal.return_groups-requires-clause-room
return_groups-requires-clause-room g c =
    c.claim_groups.ensures.ends.room_to_return
    (ap has_its_fragments (sym (c.point.ensures ∙ ap (λ (s : Seat). s.point) c.party.ensures.seat)) ∙ sym c.has_its_fragments.ensures ∙ c.if-has_its_fragments.false)

pub returns-clause-steps : goal.returns-clause-steps
returns-clause-steps g c =
    let one = c.claim_groups.ensures.steps in
    let two = c.return_groups.ensures.steps in
    (one.0 ++ two.0, c.step_laws.ensures.joined c.args.holder.now c.claim_groups.new.holder c.return_groups.new.holder one.0 two.0 one.1 two.1)

pub returns-clause-kept : goal.returns-clause-kept
returns-clause-kept g c =
    let one = c.claim_groups.ensures.steps in
    let two = c.return_groups.ensures.steps in
    refused_keeps_reserve c.step_laws.ensures.along (one.0 ++ two.0) c.args.holder.now c.return_groups.new.holder c.args.reserve.now.fragments.items c.args.reserve.now.cursor c.args.need c.requires.begins c.claim_groups.ensures.begun
    (c.step_laws.ensures.joined c.args.holder.now c.claim_groups.new.holder c.return_groups.new.holder one.0 two.0 one.1 two.1) c.return_groups.ensures.point

pub returns-clause-full : goal.returns-clause-full
returns-clause-full g c =
    let one = c.claim_groups.ensures.steps in
    let two = c.return_groups.ensures.steps in
    let held : length c.hand.result.now ≡ length c.claim_groups.new.holder.seat.hand = ap (length {A = ℕ}) c.hand.ensures ∙ ap (λ (s : Seat). length s.hand) c.party-2.ensures.seat in
    let counted : c.len.result + length c.hand.result.now ≡ length c.args.reserve.now.fragments.items + c.return_groups.new.holder.seat.given =
    omega (arith, c.len.ensures.value, held, c.return_groups.ensures.all, c.claim_groups.ensures.ends.none_given) in (
      c.from.ensures,
      (refused_heap_is_exhausted c.step_laws.ensures.along (one.0 ++ two.0) c.args.holder.now c.return_groups.new.holder c.args.reserve.now.fragments.items c.args.reserve.now.cursor c.args.need c.requires.begins c.claim_groups.ensures.begun
          (c.step_laws.ensures.joined c.args.holder.now c.claim_groups.new.holder c.return_groups.new.holder one.0 two.0 one.1 two.1) (c.len.result + length c.hand.result.now)
          c.return_groups.ensures.sound c.return_groups.ensures.point counted).1,
    )

pub returns-clause-exhausted : goal.returns-clause-exhausted
returns-clause-exhausted g c = λ made makes.
    let held : length c.hand.result.now ≡ length c.claim_groups.new.holder.seat.hand = ap (length {A = ℕ}) c.hand.ensures ∙ ap (λ (s : Seat). length s.hand) c.party-2.ensures.seat in
    let counted : c.len.result + length c.hand.result.now ≡ length c.args.reserve.now.fragments.items + c.return_groups.new.holder.seat.given =
    omega (arith, c.len.ensures.value, held, c.return_groups.ensures.all, c.claim_groups.ensures.ends.none_given) in
    (refused_heap_is_exhausted c.step_laws.ensures.along made c.args.holder.now c.return_groups.new.holder c.args.reserve.now.fragments.items c.args.reserve.now.cursor c.args.need c.requires.begins c.claim_groups.ensures.begun
    makes (c.len.result + length c.hand.result.now) c.return_groups.ensures.sound c.return_groups.ensures.point counted).0

pub returns-then-has_its_fragments-clause-command : goal.returns-then-has_its_fragments-clause-command
returns-then-has_its_fragments-clause-command g c =
    gather_keeps_command c.step_laws.ensures.along c.claim_groups.ensures.steps.0 c.args.holder.now c.claim_groups.new.holder c.args.reserve.now.fragments.items c.args.reserve.now.cursor c.args.need c.requires.begins
    c.claim_groups.ensures.begun c.claim_groups.ensures.steps.1

pub returns-clause-command : goal.returns-clause-command
returns-clause-command g c =
    let one = c.claim_groups.ensures.steps in
    let two = c.return_groups.ensures.steps in
    gather_keeps_command c.step_laws.ensures.along (one.0 ++ two.0) c.args.holder.now c.return_groups.new.holder c.args.reserve.now.fragments.items c.args.reserve.now.cursor c.args.need c.requires.begins c.claim_groups.ensures.begun
    (c.step_laws.ensures.joined c.args.holder.now c.claim_groups.new.holder c.return_groups.new.holder one.0 two.0 one.1 two.1)

pub returns-clause-found : goal.returns-clause-found
returns-clause-found g c =
    let held : length c.hand.result.now ≡ length c.claim_groups.new.holder.seat.hand = ap (length {A = ℕ}) c.hand.ensures ∙ ap (λ (s : Seat). length s.hand) c.party-2.ensures.seat in
    omega (arith, c.len.ensures.value, held, c.return_groups.ensures.all, c.claim_groups.ensures.ends.none_given)
