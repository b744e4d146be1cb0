-- A history whose seats have all left before its last cycle began.
use Rattle.std.proofs.Common.{◌≡◌, ℕ, ◌+◌, ◌*◌, ◌<◌, ◌≤◌, ◌||◌, Bool, true, false, List, [], ◌∷◌, ◌++◌, filter, if◌then◌else◌, refl, sym, ap, subst, ◌∙◌, append_assoc, arith}
use Rattle.std.specs.List.{list_any}
use Rattle.std.proofs.Math.Bool.{or-false, or-true}
use Rattle.std.proofs.lemmas.List.Folds.{list_any-append}
use Rattle.std.proofs.lemmas.List.Sums.{sum_by-append}
use Rattle.std.proofs.lemmas.Map.Views.{any-filter_same}
use Rattle.heap_model.specs.PhasePlan.{cycle_phases}
use Rattle.heap_model.specs.declared.command.Command.TheVariants.{Leave}
use Rattle.heap_model.specs.declared.entry.Entry.{Entry}
use Rattle.heap_model.specs.declared.entry.Entry.TheVariants as entries
use Rattle.heap_model.specs.declared.heap.Heap.{Heap}
use Rattle.heap_model.specs.account.Account.{IsLegal, KeepsSpaceAfter}
use Rattle.heap_model.specs.account.Effects.{effect_of, is_of}
use Rattle.heap_model.specs.account.Noting.{is_collectors}
use Rattle.heap_model.specs.account.PhaseCounts.{phase, has_left, is_leave_of}
use Rattle.heap_model.specs.account.Windows.{up_to_cycle}
use Rattle.core_rule.proofs.entries.PhaseEntries.{phase_stays_by_seats}
use Rattle.core_rule.proofs.runs.Plays.{keeps_space_of_each_entry}
use Rattle.heap_table.specs.Folded.{SeatsBefore}
use Rattle.heap_record.proofs.LastCycle.{left_before_last_cycle}
use Rattle.log_merge.proofs.merge_lemmas.Parts.{IsParted, parted_filter}
use Rattle.heap_model.specs.runs.Endings.{EndsBehindLeaves}

-- the list is parted at an element that passes the test
record PartsAt {X : Type 0} (test : X → Bool) (all : List X) : Type 0 where
  before : List X
  found : X
  rest : List X
  passes : test found ≡ true
  parts : all ≡ before ++ found ∷ rest

-- where some element passes there is such a position
first_passing : {X : Type 0} (test : X → Bool) (all : List X) → list_any test all ≡ true → PartsAt test all
first_passing test [] some = absurd (cc some)
first_passing {X} test (x ∷ all) some = by (first_passing test all) (test x) refl some
  where
    by : (list_any test all ≡ true → PartsAt test all) → (b : Bool) → test x ≡ b → (b || list_any test all) ≡ true → PartsAt test (x ∷ all)
    by later true passes some_ = record { before = []; found = x; rest = all; passes = passes; parts = refl }
    by later false fails some_ = let there = later some_ in
        record { before = x ∷ there.before; found = there.found; rest = there.rest; passes = there.passes; parts = ap (λ (l : List X). x ∷ l) there.parts }

-- a seat's leave is its own entry
leaves_own : (number : ℕ) (entry : Entry) → is_leave_of number entry ≡ true → is_of number entry ≡ true
leaves_own number (entries.Said other Leave reply) leaves = leaves
leaves_own number _ leaves = absurd (cc leaves)

-- and no collector's
leaves_seat : (number : ℕ) (entry : Entry) → is_leave_of number entry ≡ true → is_collectors entry ≡ false
leaves_seat number (entries.Said other command reply) leaves = refl
leaves_seat number _ leaves = absurd (cc leaves)

-- so the history tells it where the seat's own list does
pub gone_is_told : (number : ℕ) (history : List Entry) → has_left number (filter (is_of number) history) ≡ true → has_left number history ≡ true
gone_is_told number history left = sym (any-filter_same (is_leave_of number) (is_of number) true (leaves_own number) history) ∙ left

module _ (heap : Heap) (play : Bool) (history : List Entry) (legal : IsLegal heap play history) (folded : ℕ) (late : SeatsBefore folded history) (earlier : List Entry) (cycle kept : ℕ)
    (collectors : filter is_collectors history ≡ earlier ++ entries.Ends cycle kept ∷ []) (began : folded ≤ cycle_phases * cycle) where
  abbrev ends : Entry
  ends = entries.Ends cycle kept

  at : IsParted is_collectors history earlier [] ends
  at = parted_filter is_collectors history earlier [] ends collectors

  space : KeepsSpaceAfter heap play [] (at.front ++ ends ∷ at.back)
  space = subst (λ (h : List Entry). KeepsSpaceAfter heap play [] h) at.parted legal.space

  -- the cycle ends when its last phase is on
  through : phase at.front ≡ cycle_phases * cycle + 6
  through = (keeps_space_of_each_entry heap play [] at.front at.back ends space).ends.0.0

  phase_past : phase (at.front ++ ends ∷ []) ≡ phase at.front + 1
  phase_past = sum_by-append (λ e. (effect_of e).phases) at.front (ends ∷ [])

  -- so no entry of a seat stands behind its end
  none_behind : (rest : List Entry) → history ≡ (at.front ++ ends ∷ []) ++ rest → filter is_collectors rest ≡ [] → rest ≡ []
  none_behind [] parts none = refl
  none_behind (entry ∷ rest) parts none = by (is_collectors entry) refl none
    where
      by : (b : Bool) → is_collectors entry ≡ b → (if b then entry ∷ filter is_collectors rest else filter is_collectors rest) ≡ [] → entry ∷ rest ≡ []
      by true its none_ = absurd (cc none_)
      by false its none_ = absurd (omega (arith, late (at.front ++ ends ∷ []) rest entry parts its, phase_past, through, began))

  ended : history ≡ at.front ++ ends ∷ []
  ended =
      let parts : history ≡ (at.front ++ ends ∷ []) ++ at.back = at.parted ∙ sym (append_assoc at.front (ends ∷ []) at.back) in
      at.parted ∙ ap (λ (l : List Entry). at.front ++ ends ∷ l) (none_behind at.back parts at.behind)

  -- a seat's leave stands before the cycle's begin
  left_early : (number : ℕ) → has_left number history ≡ true → has_left number (up_to_cycle at.front) ≡ true
  left_early number left =
      let there : has_left number at.front ≡ true
      = sym (or-false (has_left number at.front)) ∙ sym (list_any-append (is_leave_of number) at.front (ends ∷ [])) ∙ ap (has_left number) (sym ended) ∙ left in
      let leave = first_passing (is_leave_of number) at.front there in
      let seats = leaves_seat number leave.found leave.passes in
      let parts : history ≡ leave.before ++ leave.found ∷ (leave.rest ++ ends ∷ [])
      = ended ∙ ap (λ (l : List Entry). l ++ ends ∷ []) leave.parts ∙ append_assoc leave.before (leave.found ∷ leave.rest) (ends ∷ []) in
      let no_phase : filter is_collectors (leave.found ∷ []) ≡ [] = rw seats refl in
      let front = leave.before ++ leave.found ∷ [] in
      let whole : at.front ≡ front ++ leave.rest = leave.parts ∙ sym (append_assoc leave.before (leave.found ∷ []) leave.rest) in
      let early : phase front ≤ cycle_phases * cycle
      = omega (arith, phase_stays_by_seats leave.before (leave.found ∷ []) no_phase, late leave.before (leave.rest ++ ends ∷ []) leave.found parts seats, began) in
      let in_front : has_left number front ≡ true
      = list_any-append (is_leave_of number) leave.before (leave.found ∷ []) ∙ rw leave.passes (or-true (has_left number leave.before)) in
      subst (λ (l : List Entry). has_left number (up_to_cycle l) ≡ true) (sym whole)
      (left_before_last_cycle heap play front leave.rest cycle kept number (subst (IsLegal heap play) (ended ∙ ap (λ (l : List Entry). l ++ ends ∷ []) whole) legal) early in_front)

  -- so it ends behind the leaves
  pub ends_behind_leaves : ((number : ℕ) → number < heap.seats → has_left number history ≡ true) → EndsBehindLeaves heap history
  ends_behind_leaves gone = record { before = at.front; cycle = cycle; kept = kept; last = ended; left = λ number below. left_early number (gone number below) }
