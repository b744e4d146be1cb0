-- How far the seats have come after a call, an inner call or a turn.
use Rattle.std.proofs.Common.{◌≡◌, ◌≢◌, ℕ, ◌+◌, ◌-◌, ◌*◌, ◌^◌, ◌<◌, ◌≤◌, ◌⊎◌, true, false, List, [], ◌∷◌, ◌++◌, length, take, Some, inl, inr, refl, sym, ap, subst, ◌∙◌, arith}
use Rattle.std.specs.Prelude.{slice_set, slice_get, slice_index_or, Option, None}
use Rattle.std.proofs.lemmas.Bool.Decides.{eqb_tells}
use Rattle.std.proofs.lemmas.List.{append-nil, take_more, get_or-set_same, get_or-set_other, length-set}
use Rattle.std.proofs.lemmas.Option.{slice_get_within, get_or_from_slice_get, slice_get_read}
use Rattle.heap_model.specs.declared.command.Command.{Command}
use Rattle.heap_model.specs.declared.command.Command.TheVariants.{Leave}
use Rattle.heap_model.specs.declared.entry.Entry.{Entry}
use Rattle.core_machine.specs.machine.Machine.{State, seat_at}
use Rattle.heap_model.specs.PhasePlan.{cycle_phases}
use Rattle.core_machine.specs.seat.Looks.{FirstUpTo}
use Rattle.core_machine.specs.seat.Seat.{Seat}
use Rattle.core_rule.proofs.parties.OneSeat.{SameBut}
use Rattle.locked_heap.specs.declared.progress.Progress.{Progress}
use Rattle.locked_heap.specs.Given.{Given, script_of}
use Rattle.locked_heap.specs.Locked.{AllHaveCome}
use Rattle.locked_heap.specs.Progress.{at_begin, progress_at, leave_told, IsTargetOf, IsAtCollect, HasCome}
use Rattle.heap_model.specs.runs.Endings.{IsPaid}
use Rattle.heap_model.specs.runs.Told.{commands_told, waits_told}
use Rattle.heap_record.proofs.TellsOne.{TellsNone, TellsOne, commands_told_of_append, waits_told_of_append}

-- the seat is where it was with its objects and sets, has found another one behind as often at least, and looked first where it did
pub record StaysOn (seat now : Seat) : Type 0 where
  pub left_same : now.left ≡ seat.left
  pub made_same : now.made ≡ seat.made
  pub sets_same : now.sets ≡ seat.sets
  pub finds : seat.looks.waits ≤ now.looks.waits
  pub first_same : now.looks.first ≡ seat.looks.first

pub same_stays : (seat now : Seat) → now ≡ seat → StaysOn seat now
same_stays seat now is = subst (StaysOn seat) (sym is) (record { left_same = refl; made_same = refl; sets_same = refl; finds = omega arith; first_same = refl })

-- a seat whose next command is no collect has no target, and made no look
some_or_none : (o : Option ℕ) → (o ≢ None → ⊥) → o ≡ None
some_or_none None not = refl
some_or_none (Some n) not = absurd (not (λ e. cc e))

pub first_look_is_none : (first target : Option ℕ) → target ≡ None → IsTargetOf first target → first ≡ None
first_look_is_none None target none fits = refl
first_look_is_none (Some p) None none fits = absurd fits
first_look_is_none (Some p) (Some t) none fits = absurd (cc none)

-- a target begins at the first look or behind it
pub first_look_up_to_target : (first o : Option ℕ) (target : ℕ) → o ≡ Some target → IsTargetOf first o → FirstUpTo first (cycle_phases * target)
first_look_up_to_target None (Some t) target is fits = absurd fits
first_look_up_to_target None None target is fits = absurd (cc is)
first_look_up_to_target (Some p) None target is fits = absurd fits
first_look_up_to_target (Some p) (Some t) target is fits = let same : t ≡ target = cc is in omega (arith, fits.0, same)

-- neither is there outside a collect
pub record IsFresh (seat : Seat) (progress : Progress) : Type 0 where
  pub target : progress.target ≡ None
  pub first : seat.looks.first ≡ None

pub progress_is_fresh : (given : Given) (told : List Entry) (number : ℕ) (seat : Seat) (progress : Progress) → HasCome given told number seat progress → (IsAtCollect given number progress → ⊥) → IsFresh seat progress
progress_is_fresh given told number seat progress come not =
    let none = some_or_none progress.target (λ some. not (come.collects some)) in
    record { target = none; first = first_look_is_none seat.looks.first progress.target none come.target }

-- where there is none it fits
pub none_fits : (first target : Option ℕ) → first ≡ None → target ≡ None → IsTargetOf first target
none_fits first target none none_too = rw (none, none_too) tt

pub none_begun : (P : Type 0) (target : Option ℕ) → target ≡ None → target ≢ None → P
none_begun P target none some = absurd (some none)

-- a paid reply stays so, with as many finds or more
pub stays_paid : (patience replies finds more : ℕ) → finds ≤ more → IsPaid patience replies finds → IsPaid patience replies more
stays_paid patience replies finds more on (inl enough) = inl (omega (arith, enough, on))
stays_paid patience replies finds more on (inr last) = inr (omega (arith, last, on))

-- one reply more is paid where there were enough finds more
pub one_more_is_paid : (patience replies finds more : ℕ) → (finds + patience ≤ more) ⊎ (2 ^ 64 - 1 ≤ more) → finds ≤ more → IsPaid patience replies finds → IsPaid patience (replies + 1) more
one_more_is_paid patience replies finds more (inl enough) on (inl paid) = inl (let each : patience * (replies + 1) ≡ patience * replies + patience = grind arith in omega (arith, enough, paid, each))
one_more_is_paid patience replies finds more (inr last) on paid = inr last
one_more_is_paid patience replies finds more (inl enough) on (inr last) = inr (omega (arith, last, on))

module _ (given : Given) (told after : List Entry) (number : ℕ) (seat now : Seat) (progress : Progress) (come : HasCome given told number seat progress) (added : List Entry) (grown : after ≡ told ++ added) where
  -- where nothing is told of it, it stays as far
  pub come_still : TellsNone number added → StaysOn seat now → HasCome given after number now progress
  come_still none stays = record {
    within = come.within;
    commands = ap (commands_told number) grown ∙ commands_told_of_append number told added ∙ ap (λ (l : List Command). commands_told number told ++ l) none.commands ∙ append-nil (commands_told number told) ∙ come.commands;
    through = come.through;
    leaves = stays.left_same ∙ come.leaves;
    few_objects = λ there. omega (arith, stays.made_same, come.few_objects there);
    few_sets = λ there. omega (arith, stays.sets_same, come.few_sets there);
    paid = subst (λ (n : ℕ). IsPaid given.patience n progress.paid) (sym (ap (waits_told number) grown ∙ omega (arith, waits_told_of_append number told added, none.waits))) come.paid;
    grown = omega (arith, stays.finds, come.grown);
    target = subst (λ (o : Option ℕ). IsTargetOf o progress.target) (sym stays.first_same) come.target;
    collects = come.collects;
  }

  -- a seat that is there has told no leave
  there_told : progress.gone ≡ false → commands_told number told ≡ take progress.position (script_of given number)
  there_told there = come.commands ∙ ap (λ b. take progress.position (script_of given number) ++ leave_told b) there ∙ append-nil (take progress.position (script_of given number))

  -- it has answered its next command
  pub has_come_to_next : (command : Command) (waits : ℕ) (next : Progress) → slice_get (script_of given number) progress.position ≡ Some command → progress.gone ≡ false → TellsOne number command waits added
      → now.left ≡ seat.left → now.made ≤ seat.made + 1 → now.sets ≤ seat.sets + 1 → next.position ≡ progress.position + 1 → next.gone ≡ progress.gone
      → IsPaid given.patience (waits_told number told + waits) next.paid → next.paid ≤ now.looks.waits → IsFresh now next → HasCome given after number now next
  has_come_to_next command waits next here there one left made sets position gone paid finds fresh =
      let script : List Command = script_of given number in
      let within : progress.position < length script = slice_get_within script progress.position command here in
      let further : take next.position script ≡ take progress.position script ++ command ∷ []
      = ap (λ (n : ℕ). take n script) position ∙ take_more script progress.position command within ∙ ap (λ (c : Command). take progress.position script ++ c ∷ []) (get_or_from_slice_get script progress.position command command here) in
      record {
        within = omega (arith, position, within);
        commands = ap (commands_told number) grown ∙ commands_told_of_append number told added ∙ ap (λ (l : List Command). commands_told number told ++ l) one.commands
            ∙ ap (λ (l : List Command). l ++ command ∷ []) (there_told there) ∙ sym further ∙ sym (append-nil (take next.position script)) ∙ ap (λ b. take next.position script ++ leave_told b) (sym (gone ∙ there));
        through = λ left. absurd (cc (left, gone, there));
        leaves = left ∙ come.leaves ∙ sym gone;
        few_objects = λ still. omega (arith, made, come.few_objects there, position);
        few_sets = λ still. omega (arith, sets, come.few_sets there, position);
        paid = subst (λ (n : ℕ). IsPaid given.patience n next.paid) (sym (ap (waits_told number) grown ∙ omega (arith, waits_told_of_append number told added, one.counted))) paid;
        grown = finds;
        target = none_fits now.looks.first next.target fresh.first fresh.target;
        collects = none_begun (IsAtCollect given number next) next.target fresh.target;
      }

  -- it has left
  pub has_come_to_leave : (next : Progress) → progress.position ≡ length (script_of given number) → progress.gone ≡ false → TellsOne number Leave 0 added → now.left ≡ true
      → next.position ≡ progress.position → next.gone ≡ true → next.paid ≡ progress.paid → seat.looks.waits ≤ now.looks.waits → IsFresh now next → HasCome given after number now next
  has_come_to_leave next at_end there one left position gone paid finds fresh =
      let script : List Command = script_of given number in
      record {
        within = omega (arith, position, come.within);
        commands = ap (commands_told number) grown ∙ commands_told_of_append number told added ∙ ap (λ (l : List Command). commands_told number told ++ l) one.commands
            ∙ ap (λ (l : List Command). l ++ Leave ∷ []) (there_told there ∙ ap (λ (n : ℕ). take n script) (sym position)) ∙ ap (λ b. take next.position script ++ leave_told b) (sym gone);
        through = λ _. position ∙ at_end;
        leaves = left ∙ sym gone;
        few_objects = λ still. absurd (cc (still, gone));
        few_sets = λ still. absurd (cc (still, gone));
        paid = subst (λ (n : ℕ). IsPaid given.patience n next.paid) (sym (ap (waits_told number) grown ∙ omega (arith, waits_told_of_append number told added, one.counted)))
            (subst (λ (n : ℕ). IsPaid given.patience (waits_told number told) n) (sym paid) come.paid);
        grown = omega (arith, paid, come.grown, finds);
        target = none_fits now.looks.first next.target fresh.first fresh.target;
        collects = none_begun (IsAtCollect given number next) next.target fresh.target;
      }

  -- it has begun a collect
  pub has_come_to_collect : (next : Progress) → TellsNone number added → now.left ≡ seat.left → now.made ≡ seat.made → now.sets ≡ seat.sets → next.position ≡ progress.position → next.gone ≡ progress.gone
      → next.paid ≡ seat.looks.waits → seat.looks.waits ≤ now.looks.waits → IsTargetOf now.looks.first next.target → IsAtCollect given number next → HasCome given after number now next
  has_come_to_collect next none left made sets position gone paid finds target collects =
      record {
        within = omega (arith, position, come.within);
        commands = ap (commands_told number) grown ∙ commands_told_of_append number told added ∙ ap (λ (l : List Command). commands_told number told ++ l) none.commands ∙ append-nil (commands_told number told) ∙ come.commands
            ∙ ap (λ (n : ℕ). take n (script_of given number) ++ leave_told progress.gone) (sym position) ∙ ap (λ b. take next.position (script_of given number) ++ leave_told b) (sym gone);
        through = λ gone_now. position ∙ come.through (sym gone ∙ gone_now);
        leaves = left ∙ come.leaves ∙ sym gone;
        few_objects = λ there. omega (arith, made, position, come.few_objects (sym gone ∙ there));
        few_sets = λ there. omega (arith, sets, position, come.few_sets (sym gone ∙ there));
        paid = subst (λ (n : ℕ). IsPaid given.patience n next.paid) (sym (ap (waits_told number) grown ∙ omega (arith, waits_told_of_append number told added, none.waits)))
            (stays_paid given.patience (waits_told number told) progress.paid next.paid (omega (arith, paid, come.grown)) come.paid);
        grown = omega (arith, paid, finds);
        target = target;
        collects = λ some. collects;
      }

module _ (given : Given) (told after : List Entry) (old new : State) (seats : List Progress) (number : ℕ) (all : AllHaveCome given told old seats) (below : number < given.heap.seats) where
  -- one seat has come further, and the others are as they were
  pub all_have_come_with_one : (next : Progress) (added : List Entry) → SameBut number old new → after ≡ told ++ added → ((other : ℕ) → other ≢ number → TellsNone other added)
      → HasCome given after number (seat_at new number) next → AllHaveCome given after new (slice_set seats number next)
  all_have_come_with_one next added others grown none own = record {
    seated = length-set seats number next ∙ all.seated;
    each = λ other under. elim (eqb_tells other number) as (λ _. HasCome given after other (seat_at new other) (progress_at (slice_set seats number next) other)) [
      | inl same ↦ subst (λ (n : ℕ). HasCome given after n (seat_at new n) (progress_at (slice_set seats number next) n)) (sym same.1)
          (subst (HasCome given after number (seat_at new number)) (sym (get_or-set_same seats number next at_begin (omega (arith, below, all.seated)))) own)
      | inr apart ↦ subst (HasCome given after other (seat_at new other)) (sym (get_or-set_other seats number other next at_begin apart.1))
          (come_still given told after other (seat_at old other) (seat_at new other) (progress_at seats other) (all.each other under) added grown (none other apart.1) (same_stays (seat_at old other) (seat_at new other) (others.others other apart.1)))
    ];
  }

-- one seat has found something, and all are as far as they were
pub all_have_come_with_find : (given : Given) (told after added : List Entry) (old new : State) (seats : List Progress) (number : ℕ) → AllHaveCome given told old seats → SameBut number old new → after ≡ told ++ added → ((other : ℕ) → TellsNone other added) → StaysOn (seat_at old number) (seat_at new number) → AllHaveCome given after new seats
all_have_come_with_find given told after added old new seats number all others grown none stays = record {
  seated = all.seated;
  each = λ other under. come_still given told after other (seat_at old other) (seat_at new other) (progress_at seats other) (all.each other under) added grown (none other) (seat_stays other);
}
  where
    seat_stays : (other : ℕ) → StaysOn (seat_at old other) (seat_at new other)
    seat_stays other = elim (eqb_tells other number) [
      | inl same ↦ subst (λ (n : ℕ). StaysOn (seat_at old n) (seat_at new n)) (sym same.1) stays
      | inr apart ↦ same_stays (seat_at old other) (seat_at new other) (others.others other apart.1)
    ]

-- after a turn of the collector all are as far as they were
pub all_have_come_after_turn : (given : Given) (told added : List Entry) (old new : State) (seats : List Progress) → AllHaveCome given told old seats → new.seats ≡ old.seats → ((other : ℕ) → TellsNone other added)
    → AllHaveCome given (told ++ added) new seats
all_have_come_after_turn given told added old new seats all same none = record {
  seated = all.seated;
  each = λ other under. come_still given told (told ++ added) other (seat_at old other) (seat_at new other) (progress_at seats other) (all.each other under) added refl (none other)
      (same_stays (seat_at old other) (seat_at new other) (ap (λ (l : List Seat). seat_at (record old { seats = l }) other) same));
}

-- a progress that was read is the seat's
pub read_progress_is_seats : (seats : List Progress) (number : ℕ) (read : Progress) → number < length seats → read ≡ slice_index_or seats number read → progress_at seats number ≡ read
read_progress_is_seats seats number read below is = get_or_from_slice_get seats number read at_begin (slice_get_read seats (length seats) number read refl below is)
