-- A run all of whose seats have left, and whose last cycle has ended.
use Rattle.std.proofs.Common.{◌≡◌, ℕ, ◌-◌, ◌^◌, ◌<◌, ◌≤◌, min, true, false, List, [], ◌∷◌, ◌++◌, map, take, sym, ap, subst, ◌∙◌, append_assoc, arith}
use Rattle.std.specs.Prelude.{slice_index_or}
use Rattle.std.specs.List.{range_with_len}
use Rattle.std.proofs.lemmas.List.{take_all}
use Rattle.std.proofs.lemmas.List.FromFn.{fill_by_all, length-map-range_with_len, get_or-map-range_with_len}
use Rattle.heap_model.specs.declared.command.Command.{Command}
use Rattle.heap_model.specs.declared.command.Command.TheVariants.{Leave}
use Rattle.heap_model.specs.declared.entry.Entry.{Entry}
use Rattle.heap_model.specs.declared.entry.Entry.TheVariants.{Ends}
use Rattle.heap_model.specs.declared.heap.Heap.{Heap}
use Rattle.heap_model.specs.account.Account.{IsLegal}
use Rattle.heap_model.specs.account.PhaseCounts.{phase, has_left}
use Rattle.heap_model.specs.account.Space.{fragments_gained, fragments_lost, fragments_used, words_granted, words_returned, words_used}
use Rattle.core_machine.specs.machine.Machine.{State, seat_at}
use Rattle.core_machine.specs.seat.Seat.{Seat, absent_seat}
use Rattle.core_rule.specs.looks.Finds.{finds_in, WaitsAreFinds}
use Rattle.core_rule.specs.runs.Laws.{EveryRunKeeps, WordsAreUsed}
use Rattle.core_rule.specs.sweep_exact.SweepLaws.{EachLastCycleEmpties}
use Rattle.core_rule.proofs.runs.CountedFinds.{waits_are_capped_finds}
use Rattle.core_rule.proofs.parties.Standing.{lost_within_gained, budget_word_is_words_used as words_told}
use Rattle.core_rule.proofs.runs.CountedFinds.{waits_are_capped_finds}
use Rattle.locked_heap.specs.declared.ran.LockedRan.{LockedRan}
use Rattle.locked_heap.specs.Given.{Given, script_of}
use Rattle.locked_heap.specs.Locked.{IsRunFrom, LockedValue, AllHaveCome, AllGone, IsParted}
use Rattle.locked_heap.specs.Progress.{progress_at, leave_told}
use Rattle.heap_model.specs.runs.Endings.{EndsEmpty, IsPaid}
use Rattle.locked_heap.specs.Ran.{IsRun}
use Rattle.heap_record.specs.Recorded.{Recorded}
use Rattle.heap_model.specs.runs.Told.{commands_told, waits_told}
use Rattle.locked_heap.proofs.Calling.{left_is_told}
use Rattle.locked_heap.proofs.Coming.{stays_paid, all_have_come_after_turn}
use Rattle.heap_record.proofs.LastCycle.{left_before_last_cycle, last_leave_stays}
use Rattle.locked_heap.proofs.GivenRuns.{book_stands_for_run, run_is_from_opening}
use Rattle.locked_heap.proofs.TellsNone.{tells_none_of_collectors}
use Rattle.locked_heap.proofs.TurnsOn.{EndsWhole}

-- the history is legal
legal_told : EveryRunKeeps → (given : Given) (recorded : Recorded) → IsRunFrom given recorded → IsLegal given.heap false recorded.history
legal_told runs given recorded run =
    let s = book_stands_for_run given recorded run runs in
    subst (λ (h : Heap). IsLegal h false recorded.history) run.of_heap (subst (IsLegal recorded.machine.heap false) s.grown s.stands.rule.heap_stands.legal)

module _ (runs : EveryRunKeeps) (given : Given) (locked : LockedValue) (run : IsRunFrom given locked.recorded)
    (all : AllHaveCome given locked.recorded.history locked.recorded.machine.state locked.seats) where
  -- where a seat has left the history tells so
  gone_told : (number : ℕ) → number < given.heap.seats → (progress_at locked.seats number).gone ≡ true → has_left number locked.recorded.history ≡ true
  gone_told number below gone =
      sym (left_is_told runs given locked.recorded number run below) ∙ (all.each number below).leaves ∙ gone

  -- and its whole script
  all_told : (number : ℕ) → number < given.heap.seats → (progress_at locked.seats number).gone ≡ true → commands_told number locked.recorded.history ≡ script_of given number ++ Leave ∷ []
  all_told number below gone =
      let come = all.each number below in
      come.commands ∙ ap (λ b. take (progress_at locked.seats number).position (script_of given number) ++ leave_told b) gone
      ∙ ap (λ (l : List Command). l ++ Leave ∷ []) (take_all (progress_at locked.seats number).position (script_of given number) (omega (arith, come.through gone)))

-- the last cycle began after every seat had left, and is the first that did
ends_empty : EveryRunKeeps → (given : Given) (old : LockedValue) (new : Recorded) → IsRunFrom given old.recorded
    → AllHaveCome given old.recorded.history old.recorded.machine.state old.seats → AllGone given old.seats → IsParted given old.recorded.history old.seats → EndsWhole old.recorded new
    → IsLegal given.heap false new.history → EndsEmpty given.heap new.history
ends_empty runs given old new run all gone parted ends legal =
    let told = old.recorded.history in
    let before : List Entry = told ++ ends.earlier in
    let last : new.history ≡ before ++ Ends ends.cycle ends.kept ∷ [] = ends.told ∙ sym (append_assoc told ends.earlier (Ends ends.cycle ends.kept ∷ [])) in
    let leaves = last_leave_stays told ends.earlier (parted.behind_leave gone) ends.own in
    record {
      behind = record {
        before = before;
        cycle = ends.cycle;
        kept = ends.kept;
        last = last;
        left = λ number below. left_before_last_cycle given.heap false told ends.earlier ends.cycle ends.kept number (subst (IsLegal given.heap false) last legal) ends.began
            (gone_told runs given old run all number below (gone number below));
      };
      first = omega (arith, ends.first, ap phase leaves);
    }

-- nothing is in use
record NoneUsed (heap : Heap) (told : List Entry) : Type 0 where
  pub fragments : fragments_lost told ≡ fragments_gained heap told
  pub words : words_returned told ≡ words_granted told

none_used : EveryRunKeeps → WordsAreUsed → EachLastCycleEmpties → (given : Given) (recorded : Recorded) → IsRunFrom given recorded
    → IsLegal given.heap false recorded.history → EndsEmpty given.heap recorded.history → NoneUsed given.heap recorded.history
none_used runs words empties given recorded run legal ends =
    let told = recorded.history in
    let heap = recorded.machine.heap in
    let state = recorded.machine.state in
    let s = book_stands_for_run given recorded run runs in
    let short = subst (λ (h : Heap). fragments_lost told ≤ fragments_gained h told) run.of_heap (lost_within_gained heap state told s) in
    let granted = words_told heap state told s words run.led.all_idle in
    let none = empties given.heap false ends.behind.before ends.behind.cycle ends.behind.kept (subst (IsLegal given.heap false) ends.behind.last legal) ends.behind.left in
    let none_left : fragments_used given.heap told ≡ 0 = ap (fragments_used given.heap) ends.behind.last ∙ none.0 in
    let no_words : words_used told ≡ 0 = ap words_used ends.behind.last ∙ none.1 in
    record { fragments = omega (arith, short, none_left); words = omega (arith, granted.0, no_words) }

-- two functions that agree below a number tell the same of all below it
map_within : (n : ℕ) (f g : ℕ → ℕ) → ((k : ℕ) → k < n → f k ≡ g k) → map f (range_with_len 0 n) ≡ map g (range_with_len 0 n)
map_within n f g same = fill_by_all g (map f (range_with_len 0 n)) n 0 (length-map-range_with_len f 0 n) (λ k below. get_or-map-range_with_len f 0 n k k 0 below (omega arith) ∙ same k below)

-- as far as 64 bits count
paid_counted : (patience replies finds found : ℕ) → finds ≡ min found (2 ^ 64 - 1) → IsPaid patience replies finds → IsPaid patience replies found
paid_counted patience replies finds found is paid = stays_paid patience replies finds found (omega (arith, is)) paid

-- so it is the run that was asked for
pub run_is_as_asked : EveryRunKeeps → WordsAreUsed → WaitsAreFinds → EachLastCycleEmpties → (given : Given) (old : LockedValue) (new : Recorded) (ran : LockedRan)
    → IsRunFrom given old.recorded → AllHaveCome given old.recorded.history old.recorded.machine.state old.seats → AllGone given old.seats → IsParted given old.recorded.history old.seats
    → EndsWhole old.recorded new → ran.history.items ≡ new.listed → ran.end_used ≡ 0
    → ran.waits.items ≡ map (λ (number : ℕ). (seat_at old.recorded.machine.state number).looks.waits) (range_with_len 0 given.heap.seats) → IsRun given ran
run_is_as_asked runs words finds empties given old new ran one all gone parted ends listed_is none counts =
    let told = new.history in
    let two = ends.on.runs given one in
    let history_is : ran.history.items ≡ told = listed_is ∙ two.plain in
    let way = run_is_from_opening given new two in
    let legal = legal_told runs given new two in
    let last = ends_empty runs given old new one all gone parted ends legal in
    let used = none_used runs words empties given new two legal last in
    let turned = all_have_come_after_turn given old.recorded.history ends.on.turned old.recorded.machine.state new.machine.state old.seats all ends.on.seats_stay (λ other. tells_none_of_collectors other ends.on.turned ends.on.own) in
    let come : AllHaveCome given told new.machine.state old.seats = subst (λ (l : List Entry). AllHaveCome given l new.machine.state old.seats) (sym ends.on.grown) turned in
    let found = λ (number : ℕ) (below : number < given.heap.seats). ap (λ (s : State). (seat_at s number).looks.waits) way.ends
    ∙ waits_are_capped_finds finds given.heap given.opening way.events number one.given_right.limits one.given_right.opens way.run below in
    record {
      events = way.events;
      run = way.run;
      shown = history_is ∙ way.shown;
      legal = rw history_is legal;
      commands = λ number below. rw history_is (all_told runs given (record old { recorded = new }) two come number below (gone number below));
      last_cycle = rw history_is last;
      used = rw (history_is, none) (omega (arith, used.fragments));
      none_used = none;
      all_returned = rw history_is used.words;
      counts = counts ∙ map_within given.heap.seats _ _ (λ number below. ap (λ (l : List Seat). (slice_index_or l number absent_seat).looks.waits) (sym ends.on.seats_stay) ∙ found number below);
      patient = λ number below. rw history_is (paid_counted given.patience (waits_told number told) (seat_at new.machine.state number).looks.waits (finds_in given.heap given.opening way.events number) (found number below)
          (stays_paid given.patience (waits_told number told) (progress_at old.seats number).paid (seat_at new.machine.state number).looks.waits (come.each number below).grown (come.each number below).paid));
    }
