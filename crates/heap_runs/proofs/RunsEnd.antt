-- What a run on a shared table comes to, by what its workers came to and how it ended.
use Rattle.std.proofs.Common.{◌≡◌, ℕ, suc, ◌<◌, ◌==◌, ◌&&◌, Bool, true, false, if◌then◌else◌, List, [], ◌∷◌, ◌++◌, length, map, drop, Some, inl, inr, refl, sym, ap, ◌∙◌, append_assoc, arith}
use Rattle.std.specs.Prelude.{All, slice_get, slice_index_or}
use Rattle.std.specs.List.{AllByRecursion, list_all, list_any}
use Rattle.std.proofs.lemmas.Bool.{or_cases}
use Rattle.std.proofs.Math.Bool.{or-true, or-false}
use Rattle.std.proofs.lemmas.List.{take-append-drop}
use Rattle.std.proofs.lemmas.List.Concat.{flat_map-cons}
use Rattle.std.proofs.lemmas.List.Folds.{list_any-append}
use Rattle.std.proofs.lemmas.Option.{slice_get-get_or}
use Rattle.atomic_table.specs.Seated.{TableId}
use Rattle.heap_model.specs.account.PhaseCounts.{has_left, is_leave_of}
use Rattle.heap_model.specs.account.Turned.{is_of_heap}
use Rattle.heap_model.specs.declared.command.Command.{Command}
use Rattle.heap_model.specs.declared.command.Command.TheVariants.{Leave}
use Rattle.heap_model.specs.declared.entry.Entry.{Entry}
use Rattle.heap_model.specs.declared.entry.Entry.TheVariants.{Said}
use Rattle.heap_model.specs.declared.heap.Heap.{Heap}
use Rattle.heap_model.specs.declared.reply.Reply.{Reply}
use Rattle.heap_model.specs.runs.Told.{command_told, commands_told}
use Rattle.heap_table.specs.Closed.{ClosedTable}
use Rattle.heap_table.specs.SeatHeld.{SeatHeld}
use Rattle.core_rule.proofs.runs.LoneEntries.{all_of_append}
use Rattle.collector_turns.specs.Collector.{CollectorValue}
use Rattle.heap_runs.specs.Finishing.{HasGone, HasLogs}
use Rattle.heap_runs.specs.Role.{IsOfRun}
use Rattle.heap_runs.specs.SeatWork.{IsOfTable, IsReadyToWork, HasMade, HasWorked, HaveWorked, script_at}

-- the command is a leave
abbrev is_leaving : Command → Bool
is_leaving Leave = true
is_leaving _ = false

-- the entry of a command that is one is the seat's leave
leaves_if : (b : Bool) (command : Command) → list_any is_leaving (if b then command ∷ [] else []) ≡ true → (b ≡ true) × (is_leaving command ≡ true)
leaves_if true command some = (refl, sym (or-false (is_leaving command)) ∙ some)
leaves_if false command some = absurd (cc some)

leaves_by : (number other : ℕ) (command : Command) (reply : Reply) → list_any is_leaving (if other == number then command ∷ [] else []) ≡ true → is_leave_of number (Said other command reply) ≡ true
leaves_by number other Leave reply some = (leaves_if (other == number) Leave some).0
leaves_by number other command reply some = (leaves_if (other == number) command some).1

leave_by : (number : ℕ) (entry : Entry) → list_any is_leaving (command_told number entry) ≡ true → is_leave_of number entry ≡ true
leave_by number (Said other command reply) some = leaves_by number other command reply some
leave_by number _ some = absurd (cc some)

any_leave : (number : ℕ) (es : List Entry) → list_any is_leaving (commands_told number es) ≡ true → has_left number es ≡ true
any_leave number [] some = absurd (cc some)
any_leave number (entry ∷ es) some =
    elim (or_cases (list_any is_leaving (command_told number entry)) (list_any is_leaving (commands_told number es))
    (sym (list_any-append is_leaving (command_told number entry) (commands_told number es)) ∙ ap (list_any is_leaving) (sym (flat_map-cons (command_told number) entry es)) ∙ some)) as (λ _. has_left number (entry ∷ es) ≡ true) [
      | inl here ↦ rw (leave_by number entry here) refl
      | inr later ↦ rw (any_leave number es later) (or-true (is_leave_of number entry))
    ]

-- who has told its script and its leave has left
leave_told : (number : ℕ) (part : List Entry) (script : List Command) → commands_told number part ≡ script ++ Leave ∷ [] → has_left number part ≡ true
leave_told number part script told = any_leave number part (ap (list_any is_leaving) told ∙ list_any-append is_leaving script (Leave ∷ []) ∙ or-true (list_any is_leaving script))

-- a seat of the table whose last call was a leave has gone
pub has_gone : (patience : ℕ) (table : TableId) (heap : Heap) (old new : SeatHeld) (script : List Command) → IsOfTable table heap old → HasMade patience old new (script ++ Leave ∷ []) → new.seat.left ≡ true → HasGone table heap new
has_gone patience table heap old new script was made left =
    let told : has_left old.number (old.seat.mine ++ made.part) ≡ true
    = list_any-append (is_leave_of old.number) old.seat.mine made.part ∙ rw (leave_told old.number made.part script made.answered) (or-true (has_left old.number old.seat.mine)) in
    record {
      table_is = made.table_stays ∙ was.table_is;
      heap_is = made.heap_stays ∙ was.heap_is;
      left = left;
      told = ap (λ n. has_left n new.seat.mine) made.number_stays ∙ ap (has_left old.number) made.mine ∙ told;
    }

-- where each pair has the same number, all have the same numbers
pub same_numbers : (olds news : List SeatHeld) → length news ≡ length olds → ((k : ℕ) (old new : SeatHeld) → slice_get olds k ≡ Some old → slice_get news k ≡ Some new → new.number ≡ old.number)
    → map (λ held. held.number) news ≡ map (λ held. held.number) olds
same_numbers [] [] many each = refl
same_numbers [] (new ∷ news) many each = absurd (omega (arith, many))
same_numbers (old ∷ olds) [] many each = absurd (omega (arith, many))
same_numbers (old ∷ olds) (new ∷ news) many each =
    let first : new.number ≡ old.number = each 0 old new refl refl in
    let rest = same_numbers olds news (omega (arith, many)) (λ k o n was now. each (suc k) o n was now) in
    ap (λ n. n ∷ map (λ (held : SeatHeld). held.number) news) first ∙ ap (λ l. old.number ∷ l) rest

module _ (patience : ℕ) (scripts : List (List Command)) (table : TableId) (heap : Heap) (olds news : List SeatHeld) (ready : All (IsReadyToWork table heap scripts) olds)
    (worked : HaveWorked patience scripts olds news) where
  -- each seat has left
  pub all_have_gone : All (HasGone table heap) news
  all_have_gone k d below =
      let within : k < length olds = omega (arith, below, worked.each_once) in
      let old = slice_index_or olds k d in
      let new = slice_index_or news k d in
      let one : HasWorked patience old (script_at scripts old.number) new = worked.each k old new (slice_get-get_or olds k d within) (slice_get-get_or news k d below) in
      let was : IsReadyToWork table heap scripts old = ready k d within in
      has_gone patience table heap old new (script_at scripts old.number) was.of_table one.made one.left

  -- and has its number
  pub numbers_stay : map (λ held. held.number) news ≡ map (λ held. held.number) olds
  numbers_stay = same_numbers olds news worked.each_once (λ k old new was now. (worked.each k old new was now).made.number_stays)

all_true : (es : List Entry) → list_all is_of_heap es ≡ true → AllByRecursion (λ entry. is_of_heap entry ≡ true) es
all_true [] all = tt
all_true (entry ∷ es) all = by (all_true es) (is_of_heap entry) refl all
  where
    by : (list_all is_of_heap es ≡ true → AllByRecursion (λ e. is_of_heap e ≡ true) es) → (b : Bool) → is_of_heap entry ≡ b → (b && list_all is_of_heap es) ≡ true → AllByRecursion (λ e. is_of_heap e ≡ true) (entry ∷ es)
    by rest true its all_ = (its, rest all_)
    by rest false its all_ = absurd (cc all_)

-- what the collector told in the run goes on from what it had told before
pub has_logs_from_before : (table : TableId) (heap : Heap) (before : List Entry) (collector : CollectorValue) (seats : List SeatHeld) (closed : ClosedTable) → IsOfRun table heap before collector
    → HasLogs seats collector.holder.known.collector.log closed → HasLogs seats before closed
has_logs_from_before table heap before collector seats closed run logs =
    let log = collector.holder.known.collector.log in
    let rest = drop (length before) log in
    let whole : log ≡ before ++ rest = sym (take-append-drop (length before) log) ∙ ap (λ l. l ++ rest) run.goes_on in
    record {
      turned = rest ++ logs.turned;
      own = all_of_append (λ entry. is_of_heap entry ≡ true) rest logs.turned (all_true rest run.own) logs.own;
      logs_are = logs.logs_are ∙ ap (λ (l : List Entry). map (λ (held : SeatHeld). held.seat.mine) seats ++ l ∷ []) (ap (λ l. l ++ logs.turned) whole ∙ append_assoc before rest logs.turned);
    }
