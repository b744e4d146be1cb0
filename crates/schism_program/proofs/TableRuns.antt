-- What a run on a shared table came to is a run of the script.
use Rattle.std.proofs.Common.{◌≡◌, ℕ, suc, ◌+◌, ◌<◌, ◌≤◌, Bool, true, false, if◌then◌else◌, List, [], ◌∷◌, ◌++◌, count_by, length, map, filter, Some, inl, inr, refl, sym, ap, subst, ◌∙◌, arith}
use Rattle.std.specs.Prelude.{All, slice_get}
use Rattle.std.specs.List.{AllByRecursion, range_with_len}
use Rattle.std.proofs.lemmas.Bool.Decides.{eqb_tells}
use Rattle.std.proofs.lemmas.List.Concat.{flat_map-cons}
use Rattle.std.proofs.lemmas.List.Elements.{recursion_from_All}
use Rattle.std.proofs.lemmas.List.Sums.{count_by-le-length, sum_by-append}
use Rattle.atomic_table.specs.Seated.{TableId}
use Rattle.heap_model.specs.Limits.{stamp_limit}
use Rattle.heap_model.specs.Logs.{logs_of}
use Rattle.heap_model.specs.account.Effects.{is_of}
use Rattle.heap_model.specs.account.Noting.{is_collectors}
use Rattle.heap_model.specs.account.Turned.{is_of_heap}
use Rattle.heap_model.specs.declared.command.Command.{Command}
use Rattle.heap_model.specs.declared.command.Command.TheVariants.{Leave}
use Rattle.heap_model.specs.declared.entry.Entry.{Entry}
use Rattle.heap_model.specs.declared.entry.Entry.TheVariants as entries
use Rattle.heap_model.specs.declared.heap.Heap.{Heap}
use Rattle.heap_model.specs.graph.Legal.{IsObjectLegal}
use Rattle.heap_model.specs.runs.Endings.{EndsBehindLeaves}
use Rattle.heap_model.specs.runs.Told.{command_told, commands_told}
use Rattle.core_machine.specs.seat.Seat.{Seat}
use Rattle.heap_table.specs.Closed.{ClosedTable, HasOneHistory}
use Rattle.heap_table.specs.Opened.{IsOpened}
use Rattle.heap_table.specs.SeatHeld.{SeatHeld}
use Rattle.log_merge.specs.FewSets.{HaveFewSets}
use Rattle.log_merge.proofs.SetCounts.{few_by_parts, is_setting, sets_are_told}
use Rattle.log_merge.proofs.SameLogs.{snoc_is_injective, same_totals, keep_each_others_logs}
use Rattle.script_text.specs.declared.script.Script.{Script}
use Rattle.script_text.specs.Words.{preamble_of}
use Rattle.heap_model.specs.account.Account.{IsLegal}
use Rattle.heap_runs.specs.Finishing.{HasLogs, EndsUnused}
use Rattle.heap_runs.specs.SeatWork.{HasWorked, HaveWorked, script_at}
use Rattle.schism_program.specs.Running.{seat_commands, merged_history, IsRunOf, IsOfTable}
use Rattle.schism_program.proofs.MergedLogs.{merged_is_legal, other_is_legal, same_logs}

-- an entry that is another's tells none of the seat's commands
none_told : (number : ℕ) (entry : Entry) → is_of number entry ≡ false → command_told number entry ≡ []
none_told number (entries.Said other command reply) apart = rw apart refl
none_told number _ apart = refl

-- a seat's own entries tell the same commands of it as all do
own_told : (number : ℕ) (es : List Entry) → commands_told number es ≡ commands_told number (filter (is_of number) es)
own_told number [] = refl
own_told number (entry ∷ es) = by (own_told number es) (is_of number entry) refl
  where
    by : commands_told number es ≡ commands_told number (filter (is_of number) es) → (b : Bool) → is_of number entry ≡ b
        → commands_told number (entry ∷ es) ≡ commands_told number (if b then entry ∷ filter (is_of number) es else filter (is_of number) es)
    by rest true its =
        flat_map-cons (command_told number) entry es ∙ ap (λ l. command_told number entry ++ l) rest ∙ sym (flat_map-cons (command_told number) entry (filter (is_of number) es))
    by rest false its = flat_map-cons (command_told number) entry es ∙ ap (λ (l : List Command). l ++ commands_told number es) (none_told number entry its) ∙ rest

-- an entry that isn't the collector's answers no command of it
seats_of_heap : (entry : Entry) → is_collectors entry ≡ false → is_of_heap entry ≡ true
seats_of_heap (entries.Turned command reply) seats = absurd (cc seats)
seats_of_heap _ seats = refl

-- so none does where none of the collector's does
unturned_by : (es : List Entry) → AllByRecursion (λ entry. is_of_heap entry ≡ true) (filter is_collectors es) → AllByRecursion (λ entry. is_of_heap entry ≡ true) es
unturned_by [] own = tt
unturned_by (entry ∷ es) own = by (unturned_by es) (is_collectors entry) refl own
  where
    by : (AllByRecursion (λ e. is_of_heap e ≡ true) (filter is_collectors es) → AllByRecursion (λ e. is_of_heap e ≡ true) es) → (b : Bool) → is_collectors entry ≡ b
        → AllByRecursion (λ e. is_of_heap e ≡ true) (if b then entry ∷ filter is_collectors es else filter is_collectors es) → AllByRecursion (λ e. is_of_heap e ≡ true) (entry ∷ es)
    by rest true its own_ = (own_.0, rest own_.1)
    by rest false its own_ = (seats_of_heap entry its, rest own_)

-- the seat had told nothing
abbrev pub HasToldNone : SeatHeld → Type 0
HasToldNone held = held.seat.mine ≡ []

-- as no seat of a table that opens has
pub opened_holders_told_none : (table : TableId) (heap : Heap) (holders : List SeatHeld) → All (IsOpened table heap) holders → AllByRecursion HasToldNone holders
opened_holders_told_none table heap holders opened = recursion_from_All HasToldNone holders (λ k d below. ap (λ (s : Seat). s.mine) (opened k d below).seat_is)

module _ (patience : ℕ) (scripts : List (List Command)) (history : List Entry) where
  -- seats that follow one another, had told nothing, and whose lists are their parts of the history, have told their scripts and left
  told_from : (k : ℕ) (olds news : List SeatHeld) → map (λ held. held.number) olds ≡ range_with_len k (length olds) → length news ≡ length olds
      → ((position : ℕ) (old new : SeatHeld) → slice_get olds position ≡ Some old → slice_get news position ≡ Some new → HasWorked patience old (script_at scripts old.number) new)
      → AllByRecursion HasToldNone olds → map (λ held. held.seat.mine) news ≡ map (λ n. filter (is_of n) history) (range_with_len k (length olds))
      → (n : ℕ) → k ≤ n → n < k + length olds → commands_told n history ≡ script_at scripts n ++ Leave ∷ []
  told_from k [] news numbers many each none parts n from to = absurd (omega (arith, from, to))
  told_from k (old ∷ olds) [] numbers many each none parts n from to = absurd (omega (arith, many))
  told_from k (old ∷ olds) (new ∷ news) numbers many each none parts n from to =
      let number : old.number ≡ k = cc numbers in
      let mine : new.seat.mine ≡ filter (is_of k) history = cc parts in
      let one : HasWorked patience old (script_at scripts old.number) new = each 0 old new refl refl in
      let part : new.seat.mine ≡ one.made.part = one.made.mine ∙ ap (λ (l : List Entry). l ++ one.made.part) none.0 in
      let here : commands_told k history ≡ script_at scripts k ++ Leave ∷ []
      = own_told k history ∙ ap (commands_told k) (sym mine ∙ part) ∙ subst (λ m. commands_told m one.made.part ≡ script_at scripts m ++ Leave ∷ []) number one.made.answered in
      elim (eqb_tells n k) as (λ _. commands_told n history ≡ script_at scripts n ++ Leave ∷ []) [
        | inl same ↦ subst (λ m. commands_told m history ≡ script_at scripts m ++ Leave ∷ []) (sym same.1) here
        | inr apart ↦ told_from (k + 1) olds news (cc numbers) (omega (arith, many)) (λ position o w was now. each (suc position) o w was now) none.1 (cc parts) n (omega (arith, from, apart.1)) (omega (arith, to))
      ]

module _ (patience : ℕ) (scripts : List (List Command)) (script : Script) (closed : ClosedTable) (merged : List Entry) (olds news : List SeatHeld)
    (heap_is : closed.heap ≡ script.heap) (legal : IsObjectLegal script.heap merged) (kept : closed.logs ≡ logs_of script.heap merged) (unused : EndsUnused closed)
    (logs : HasLogs news [] closed) (numbers : map (λ held. held.number) olds ≡ range_with_len 0 script.heap.seats) (many : length olds ≡ script.heap.seats)
    (none : AllByRecursion HasToldNone olds) (worked : HaveWorked patience scripts olds news) where
  parts : (map (λ held. held.seat.mine) news ≡ map (λ n. filter (is_of n) merged) (range_with_len 0 script.heap.seats)) × (logs.turned ≡ filter is_collectors merged)
  parts = snoc_is_injective (map (λ (held : SeatHeld). held.seat.mine) news) (map (λ n. filter (is_of n) merged) (range_with_len 0 script.heap.seats)) logs.turned (filter is_collectors merged)
      (sym logs.logs_are ∙ kept)

  abbrev one : HasOneHistory closed
  one = unused.one

  same : logs_of script.heap merged ≡ logs_of script.heap one.history
  same = same_logs (preamble_of script) closed merged heap_is legal kept unused

  legal_too : IsObjectLegal script.heap one.history
  legal_too = other_is_legal (preamble_of script) closed merged heap_is legal kept unused

  -- each seat has told its script and left
  pub commands_are : (number : ℕ) → number < script.heap.seats → commands_told number merged ≡ script_at scripts number ++ Leave ∷ []
  commands_are number within =
      told_from patience scripts merged 0 olds news (numbers ∙ ap (range_with_len 0) (sym many)) worked.each_once worked.each none
      (parts.0 ∙ ap (λ m. map (λ n. filter (is_of n) merged) (range_with_len 0 m)) (sym many)) number (omega arith) (omega (arith, within, many))

  -- the merged entries are a run of the script
  pub merged_is_run_of_script : ((number : ℕ) → number < script.heap.seats → script_at scripts number ≡ seat_commands number script.lines) → IsRunOf false script (merged_history (preamble_of script) merged)
  merged_is_run_of_script handed =
      let totals = same_totals script.heap merged one.history legal legal_too same in
      record {
        version = refl;
        form = refl;
        heap = refl;
        unmarked = refl;
        legal = merged_is_legal (preamble_of script) closed merged heap_is legal kept unused;
        whole = (
          one.history,
          keep_each_others_logs script.heap merged one.history legal legal_too same,
          subst (λ (h : Heap). IsLegal h false one.history) heap_is one.legal,
          subst (λ (h : Heap). EndsBehindLeaves h one.history) heap_is unused.ends,
        );
        unturned = unturned_by merged (subst (AllByRecursion (λ entry. is_of_heap entry ≡ true)) parts.1 logs.own);
        commands = λ number within. commands_are number within ∙ ap (λ (l : List Command). l ++ Leave ∷ []) (handed number within);
        none_used = refl;
        all_returned = omega (arith, totals (λ e. e.words), totals (λ e. e.returned), unused.all_returned);
      }

  -- and the table's
  pub merged_is_of_table : IsOfTable (merged_history (preamble_of script) merged) closed
  merged_is_of_table = record { heap_is = heap_is; logs_are = kept; unused = unused }

-- a script's seats have few sets in their logs, since a script has fewer commands than a seat has stamps
pub logs_have_few_sets : (patience : ℕ) (scripts : List (List Command)) (script : Script) (closed : ClosedTable) (olds news : List SeatHeld) → closed.heap ≡ script.heap → EndsUnused closed
    → HasLogs news [] closed → map (λ held. held.number) olds ≡ range_with_len 0 script.heap.seats → length olds ≡ script.heap.seats → AllByRecursion HasToldNone olds → HaveWorked patience scripts olds news
    → ((number : ℕ) → number < script.heap.seats → length (script_at scripts number) < stamp_limit) → HaveFewSets closed.logs
logs_have_few_sets patience scripts script closed olds news heap_is unused logs numbers many none worked short =
    let one = unused.one in
    let kept : closed.logs ≡ logs_of script.heap one.history = one.logs_are ∙ ap (λ (h : Heap). logs_of h one.history) heap_is in
    let legal : IsObjectLegal script.heap one.history = subst (λ (h : Heap). IsObjectLegal h one.history) heap_is one.legal.objects in
    few_by_parts script.heap one.history closed.logs kept (λ number within.
    let told = ap (count_by is_setting) (commands_are patience scripts script closed one.history olds news heap_is legal kept unused logs numbers many none worked number within) in
    let sum = sum_by-append (λ (c : Command). if is_setting c then 1 else 0) (script_at scripts number) (Leave ∷ []) in
    let most = count_by-le-length is_setting (script_at scripts number) in
    let all = short number within in
    omega (arith, told, sum, most, all, sets_are_told number one.history))
