-- What stays of what is known under the lock, and that nothing is told behind the last leave.
use Rattle.std.specs.Prelude.{slice_set}
use Rattle.std.proofs.Common.{◌≡◌, ℕ, ◌+◌, ◌<◌, false, List, [], ◌∷◌, ◌++◌, length, refl, sym, ap, ◌∙◌, append_assoc, arith}
use Rattle.std.proofs.lemmas.List.{get_or-set_same}
use Rattle.heap_model.specs.declared.command.Command.TheVariants.{Leave}
use Rattle.heap_model.specs.declared.entry.Entry.{Entry}
use Rattle.heap_model.specs.declared.entry.Entry.TheVariants.{Said}
use Rattle.heap_model.specs.declared.reply.Reply.{Reply}
use Rattle.locked_heap.specs.declared.progress.Progress.{Progress}
use Rattle.locked_heap.specs.Given.{Given}
use Rattle.locked_heap.specs.Locked.{LockedValue, IsParted, SomeAreThere, StandsLocked, ComesOneFurther}
use Rattle.locked_heap.specs.Progress.{at_begin, progress_at}
use Rattle.heap_record.specs.Recorded.{Recorded, StandsStill, MakesCall}
use Rattle.locked_heap.proofs.GivenRuns.{is_run_still}

-- where a seat is there not all have left
pub some_are_there : (given : Given) (seats : List Progress) (number : ℕ) → number < given.heap.seats → (progress_at seats number).gone ≡ false → SomeAreThere given seats
some_are_there given seats number below there all = let gone = all number below in absurd (cc (gone, there))

-- so there is no last leave yet
pub is_parted_while_there : (given : Given) (told : List Entry) (seats : List Progress) → SomeAreThere given seats → IsParted given told seats
is_parted_while_there given told seats some = record { behind_leave = λ all. absurd (some all) }

pub is_parted_with_seat_there : (given : Given) (told : List Entry) (seats : List Progress) (number : ℕ) → number < given.heap.seats → (progress_at seats number).gone ≡ false → IsParted given told seats
is_parted_with_seat_there given told seats number below there = is_parted_while_there given told seats (some_are_there given seats number below there)

-- nor where such a seat has come further
pub is_parted_after_progress : (given : Given) (told : List Entry) (seats : List Progress) (number : ℕ) (next : Progress) → length seats ≡ given.heap.seats → number < given.heap.seats → next.gone ≡ false → IsParted given told (slice_set seats number next)
is_parted_after_progress given told seats number next seated below there =
    is_parted_with_seat_there given told (slice_set seats number next) number below (ap (λ (p : Progress). p.gone) (get_or-set_same seats number next at_begin (omega (arith, below, seated))) ∙ there)

-- a leave is the last
pub is_parted_by_leave : (given : Given) (old new : Recorded) (seats : List Progress) (number : ℕ) (reply : Reply) → MakesCall old new number Leave reply → IsParted given new.history seats
is_parted_by_leave given old new seats number reply makes = record {
  behind_leave = λ all. record { before = old.history ++ makes.call.before; number = number; reply = reply; last = makes.noted ∙ sym (append_assoc old.history makes.call.before (Said number Leave reply ∷ [])) };
}

-- where nothing happened all stands
pub stands_locked_still : (given : Given) (locked : LockedValue) (new : Recorded) (patience : ℕ) → StandsLocked given locked patience → StandsStill locked.recorded new → StandsLocked given (record locked { recorded = new }) patience
stands_locked_still given locked new patience stands still = record {
  run = is_run_still given locked.recorded new stands.run still;
  come = rw (still.history_stays, still.state_stays) stands.come;
  parted = rw still.history_stays stands.parted;
  patient = stands.patient;
}

-- and no seat has come further
pub comes_no_further : (old new : LockedValue) (number : ℕ) → new.seats ≡ old.seats → new.over ≡ old.over → ComesOneFurther old new number
comes_no_further old new number same over = record {
  onward = rw same (omega arith);
  few = rw same (omega arith);
  gone_stays = λ gone. rw same gone;
  others = λ other apart. rw same refl;
  over_stays = over;
}
