-- The next command of a seat may be called, and what its call comes to.
use Rattle.std.proofs.Common.{◌≡◌, ◌≢◌, ℕ, ◌+◌, ◌==◌, ◌<◌, ◌≤◌, true, false, List, [], ◌∷◌, ◌++◌, length, Some, refl, sym, ap, subst, ◌∙◌, arith}
use Rattle.std.specs.Prelude.{slice_set}
use Rattle.std.proofs.lemmas.Bool.{eq-eqb, or_left, or_right}
use Rattle.std.proofs.lemmas.List.Folds.{list_any-append}
use Rattle.std.proofs.lemmas.Option.{slice_get_within, get_or_from_slice_get}
use Rattle.heap_model.specs.declared.command.Command.{Command}
use Rattle.heap_model.specs.declared.command.Command.TheVariants as commands
use Rattle.heap_model.specs.declared.entry.Entry.{Entry}
use Rattle.heap_model.specs.declared.entry.Entry.TheVariants.{Said}
use Rattle.heap_model.specs.declared.heap.Heap.{Heap}
use Rattle.heap_model.specs.declared.reply.Reply.{Reply}
use Rattle.heap_model.specs.Limits.{stamp_limit}
use Rattle.heap_model.specs.account.PhaseCounts.{has_left, is_leave_of}
use Rattle.core_machine.specs.machine.Machine.{seat_at, Begins, BeginsInner, Can}
use Rattle.heap_model.specs.declared.calls.collect.Inner.{Inner}
use Rattle.core_machine.specs.seat.Commands.{IsServed}
use Rattle.core_machine.specs.seat.Looks.{MayMake}
use Rattle.core_machine.specs.seat.Seat.{Seat, HasNumberLeft}
use Rattle.core_rule.specs.runs.Laws.{EveryRunKeeps}
use Rattle.core_rule.proofs.parties.OneSeat.{others_same_after_call}
use Rattle.locked_heap.specs.declared.progress.Progress.{Progress}
use Rattle.locked_heap.specs.Given.{Given, IsOfScript, IsSeatScript, script_of}
use Rattle.locked_heap.specs.Locked.{IsRunFrom, AllHaveCome, IsNext}
use Rattle.locked_heap.specs.Progress.{progress_at, IsAtCollect, HasCome}
use Rattle.heap_model.specs.runs.Endings.{IsPaid}
use Rattle.heap_record.specs.Recorded.{Recorded, MakesCall}
use Rattle.heap_model.specs.runs.Told.{waits_told}
use Rattle.locked_heap.proofs.Coming.{IsFresh, progress_is_fresh, has_come_to_next, has_come_to_leave, all_have_come_with_one}
use Rattle.locked_heap.proofs.FindsOn.{FindsOn, finds_grow_by_call}
use Rattle.locked_heap.proofs.GivenRuns.{book_stands_for_run, seat_count_is_heaps, is_run_after_call}
use Rattle.heap_record.proofs.TellsOne.{tells_one_of_call}
use Rattle.locked_heap.proofs.TellsNone.{tells_none_of_others_call}

-- every command but a collect is served
served_once : (command : Command) → command ≢ commands.Collect → IsServed command
served_once commands.Collect once = absurd (once refl)
served_once _ once = tt

-- where few commands were answered, a name and a stamp are left
number_few : (made sets position : ℕ) (command : Command) → made ≤ position → sets ≤ position → position + 1 < stamp_limit → HasNumberLeft made sets command
number_few made sets position (commands.New d fields) few_made few_sets few = omega (arith, few_made, few)
number_few made sets position (commands.Array d cells) few_made few_sets few = omega (arith, few_made, few)
number_few made sets position (commands.Set r i v) few_made few_sets few = omega (arith, few_sets, few)
number_few made sets position (commands.Cas r i a v) few_made few_sets few = omega (arith, few_sets, few)
number_few made sets position _ few_made few_sets few = tt

module _ (runs : EveryRunKeeps) (given : Given) (recorded : Recorded) (seats : List Progress) (number : ℕ) (run : IsRunFrom given recorded) (all : AllHaveCome given recorded.history recorded.machine.state seats)
    (below : number < given.heap.seats) where
  here : number < length recorded.machine.state.seats
  here = omega (arith, below, seat_count_is_heaps given recorded run runs)

  -- each script is one
  pub given_script_is_right : IsSeatScript (script_of given number)
  given_script_is_right = run.given_right.scripts number [] (omega (arith, below, run.given_right.seated))

  -- the next command of a seat may be called
  pub can_begin_command : (command : Command) → IsNext given seats number command → command ≢ commands.Collect → Can recorded.machine.heap recorded.machine.state (Begins number command)
  can_begin_command command next once =
      let come = all.each number below in
      let seat : Seat = seat_at recorded.machine.state number in
      let position : ℕ = (progress_at seats number).position in
      let within : position < length (script_of given number) = slice_get_within (script_of given number) position command next.next in
      let of_script : IsOfScript command = subst IsOfScript (get_or_from_slice_get (script_of given number) position command command next.next) (given_script_is_right.each position command within) in (
        here,
        record {
          idle = run.led.all_idle number here;
          present = come.leaves ∙ next.there;
          served = served_once command once;
          in_range = of_script.0;
          numbered = number_few seat.made seat.sets position command (come.few_objects next.there) (come.few_sets next.there) (omega (arith, within, given_script_is_right.few));
        },
      )

  -- so may an inner call of its collect
  pub can_begin_inner : (progress_at seats number).gone ≡ false → (inner : Inner) → MayMake recorded.machine.heap number (seat_at recorded.machine.state number).looks inner → Can recorded.machine.heap recorded.machine.state (BeginsInner number inner)
  can_begin_inner there inner makes = (here, record { idle = run.led.all_idle number here; present = (all.each number below).leaves ∙ there; makes = makes })

some_same : (one two : Command) → Some one ≡ Some two → one ≡ two
some_same one two is = cc is

-- a call of a seat that is in no collect leaves it in none
fresh_on : (given : Given) (told : List Entry) (number : ℕ) (seat now : Seat) (progress next : Progress) → HasCome given told number seat progress → FindsOn seat now → (IsAtCollect given number progress → ⊥)
    → next.target ≡ progress.target → IsFresh now next
fresh_on given told number seat now progress next come finds not is =
    let fresh = progress_is_fresh given told number seat progress come not in
    record { target = is ∙ fresh.target; first = finds.fresh fresh.first }

module _ (runs : EveryRunKeeps) (given : Given) (old new : Recorded) (seats : List Progress) (number : ℕ) (command : Command) (reply : Reply) (run : IsRunFrom given old)
    (all : AllHaveCome given old.history old.machine.state seats) (below : number < given.heap.seats) (makes : MakesCall old new number command reply) where
  -- once it was called the seat has come further
  pub all_have_come_after_call : (next : Progress) → IsNext given seats number command → command ≢ commands.Collect → next ≡ record (progress_at seats number) { position = (progress_at seats number).position + 1 }
      → AllHaveCome given new.history new.machine.state (slice_set seats number next)
  all_have_come_after_call next is_next once is =
      let come = all.each number below in
      let heap = old.machine.heap in
      let seat : Seat = seat_at old.machine.state number in
      let now : Seat = seat_at new.machine.state number in
      let within = slice_get_within (script_of given number) (progress_at seats number).position command is_next.next in
      let of_script : IsOfScript command = subst IsOfScript (get_or_from_slice_get (script_of given number) (progress_at seats number).position command command is_next.next)
      ((given_script_is_right runs given old seats number run all below).each (progress_at seats number).position command within) in
      let finds = finds_grow_by_call heap old.machine.state new.machine.state number command reply makes.call in
      let paid : IsPaid given.patience (waits_told number old.history + 0) next.paid = rw is (subst (λ (n : ℕ). IsPaid given.patience n (progress_at seats number).paid) (omega arith) come.paid) in
      all_have_come_with_one given old.history new.history old.machine.state new.machine.state seats number all below next (makes.call.before ++ Said number command reply ∷ [])
      (others_same_after_call heap old.machine.state new.machine.state number command reply makes.call) makes.noted
      (λ other apart. tells_none_of_others_call other number makes.call.before command reply apart makes.call.beside)
      (has_come_to_next given old.history new.history number seat now (progress_at seats number) come (makes.call.before ++ Said number command reply ∷ []) makes.noted command 0 next is_next.next is_next.there
      (tells_one_of_call number makes.call.before command reply once makes.call.beside) (makes.counts.present_stays of_script.1) makes.counts.made_more makes.counts.sets_more (ap (λ (p : Progress). p.position) is)
      (ap (λ (p : Progress). p.gone) is) paid (omega (arith, ap (λ (p : Progress). p.paid) is, come.grown, finds.finds))
      (fresh_on given old.history number seat now (progress_at seats number) next come finds (λ at_collect. once (some_same command commands.Collect (sym is_next.next ∙ at_collect.next))) (ap (λ (p : Progress). p.target) is)))

-- a leave is told
leave_said : (number : ℕ) (told before : List Entry) (reply : Reply) → has_left number (told ++ (before ++ Said number commands.Leave reply ∷ [])) ≡ true
leave_said number told before reply =
    let said : has_left number (Said number commands.Leave reply ∷ []) ≡ true = or_left (number == number) false (eq-eqb number number refl) in
    let behind : has_left number (before ++ Said number commands.Leave reply ∷ []) ≡ true = list_any-append (is_leave_of number) before (Said number commands.Leave reply ∷ []) ∙ or_right _ _ said in
    list_any-append (is_leave_of number) told (before ++ Said number commands.Leave reply ∷ []) ∙ or_right _ _ behind

-- a seat has left exactly where the history tells its leave
pub left_is_told : EveryRunKeeps → (given : Given) (recorded : Recorded) (number : ℕ) → IsRunFrom given recorded → number < given.heap.seats → (seat_at recorded.machine.state number).left ≡ has_left number recorded.history
left_is_told runs given recorded number run below =
    let s = book_stands_for_run given recorded run runs in
    sym (s.stands.rule.seats_stand number (subst (λ (h : Heap). number < h.seats) (sym run.of_heap) below)).cycle.answers_told.leaves ∙ ap (has_left number) s.grown

-- once it has left it has come to its end
pub all_have_come_after_leave : (runs : EveryRunKeeps) (given : Given) (old new : Recorded) (seats : List Progress) (number : ℕ) (reply : Reply) (next : Progress) → IsRunFrom given old
    → AllHaveCome given old.history old.machine.state seats → number < given.heap.seats → MakesCall old new number commands.Leave reply → (progress_at seats number).gone ≡ false
    → (progress_at seats number).position ≡ length (script_of given number) → next ≡ record (progress_at seats number) { gone = true } → AllHaveCome given new.history new.machine.state (slice_set seats number next)
all_have_come_after_leave runs given old new seats number reply next run all below makes there through is =
    let heap = old.machine.heap in
    let added : List Entry = makes.call.before ++ Said number commands.Leave reply ∷ [] in
    let finds = finds_grow_by_call heap old.machine.state new.machine.state number commands.Leave reply makes.call in
    let told = left_is_told runs given new number (is_run_after_call given old new run number commands.Leave reply makes) below in
    let left : (seat_at new.machine.state number).left ≡ true = told ∙ ap (has_left number) makes.noted ∙ leave_said number old.history makes.call.before reply in
    all_have_come_with_one given old.history new.history old.machine.state new.machine.state seats number all below next added (others_same_after_call heap old.machine.state new.machine.state number commands.Leave reply makes.call) makes.noted
    (λ other apart. tells_none_of_others_call other number makes.call.before commands.Leave reply apart makes.call.beside)
    (has_come_to_leave given old.history new.history number (seat_at old.machine.state number) (seat_at new.machine.state number) (progress_at seats number) (all.each number below) added makes.noted next through there
    (tells_one_of_call number makes.call.before commands.Leave reply (λ e. cc e) makes.call.beside) left (ap (λ (p : Progress). p.position) is) (ap (λ (p : Progress). p.gone) is) (ap (λ (p : Progress). p.paid) is)
    finds.finds
    (fresh_on given old.history number (seat_at old.machine.state number) (seat_at new.machine.state number) (progress_at seats number) next (all.each number below) finds
    (λ at_collect. let within = slice_get_within (script_of given number) (progress_at seats number).position commands.Collect at_collect.next in absurd (omega (arith, within, through))) (ap (λ (p : Progress). p.target) is)))
