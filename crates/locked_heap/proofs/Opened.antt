-- At the opening no seat has begun its script.
use Rattle.std.specs.Prelude.{replicate}
use Rattle.std.proofs.Common.{◌≡◌, List, [], inl, refl, ap, ◌∙◌, arith}
use Rattle.std.proofs.lemmas.List.{get_or-replicate, length-replicate}
use Rattle.heap_model.specs.declared.entry.Entry.{Entry}
use Rattle.core_machine.specs.machine.Machine.{State}
use Rattle.core_machine.specs.seat.Seat.{Seat}
use Rattle.core_rule.proofs.parties.OpenedSeats.{holds_of_opened_seats}
use Rattle.locked_heap.specs.declared.progress.Progress.{Progress}
use Rattle.locked_heap.specs.Given.{Given, IsGiven}
use Rattle.locked_heap.specs.Locked.{AllHaveCome, IsParted}
use Rattle.locked_heap.specs.Progress.{at_begin, progress_at, HasCome}
use Rattle.locked_heap.proofs.Parting.{is_parted_with_seat_there}

pub all_have_come_at_opening : (given : Given) (state : State) (told : List Entry) (seats : List Progress) → IsGiven given → state ≡ given.opening → told ≡ [] → seats ≡ replicate given.heap.seats at_begin → AllHaveCome given told state seats
all_have_come_at_opening given state told seats right opening none begin = rw (opening, none, begin) (record {
  seated = length-replicate given.heap.seats at_begin;
  each = λ number below. rw (get_or-replicate given.heap.seats number at_begin at_begin below) (holds_of_opened_seats given.heap given.opening right.opens (λ (t : Seat). HasCome given [] number t at_begin) number below (record {
    within = omega arith;
    commands = refl;
    through = λ gone. absurd (cc gone);
    leaves = refl;
    few_objects = λ there. omega arith;
    few_sets = λ there. omega arith;
    paid = inl (omega arith);
    grown = omega arith;
    target = tt;
    collects = λ some. absurd (some refl);
  }));
})

-- and none has left
pub is_parted_at_opening : (given : Given) (told : List Entry) (seats : List Progress) → IsGiven given → seats ≡ replicate given.heap.seats at_begin → IsParted given told seats
is_parted_at_opening given told seats right begin =
    is_parted_with_seat_there given told seats 0 (omega (arith, right.limits.some_seat)) (ap (λ (l : List Progress). (progress_at l 0).gone) begin ∙ ap (λ (p : Progress). p.gone) (get_or-replicate given.heap.seats 0 at_begin at_begin (omega (arith, right.limits.some_seat))))
