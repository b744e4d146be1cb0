-- The phase, the answers and the leaves of a history that grows.
use Rattle.std.proofs.Common.{◌||◌, if◌then◌else◌, ◌≡◌, ℕ, ◌+◌, ◌≤◌, List, [], ◌∷◌, ◌++◌, filter, false, true, Bool, refl, sym, ap, ◌∙◌, arith, ◌≢◌}
use Rattle.std.proofs.Math.Bool.{or-false, or-true}
use Rattle.std.proofs.lemmas.List.{append-nil, append_assoc}
use Rattle.core_rule.proofs.Terms.{Command, Entry, Reply, effect_of, is_of, phase, last_answer, has_left, is_leave_of}
use Rattle.heap_model.specs.declared.command.Command.TheVariants as commands
use Rattle.heap_model.specs.declared.entry.Entry.TheVariants as entries
use Rattle.heap_model.proofs.Histories.{total-more, total_of-more}
use Rattle.heap_model.proofs.account_lemmas.Windows.{any_with_entry_more}
use Rattle.core_rule.specs.counts.Counts.{is_collectors}
use Rattle.core_rule.proofs.entries.Others.{total_of_stays_by_other}

-- a reply that leaves nobody: that of any other command than leave
pub reply_is_no_leave : (number s : ℕ) (command : Command) (reply : Reply) → command ≢ commands.Leave → is_leave_of number (entries.Said s command reply) ≡ false
reply_is_no_leave number s commands.Leave reply other = absurd (other refl)
reply_is_no_leave number s _ reply other = refl

-- an entry is added
module _ (history : List Entry) (entry : Entry) where
  pub phase_stays : (effect_of entry).phases ≡ 0 → phase (history ++ entry ∷ []) ≡ phase history
  phase_stays none = omega (arith, none, total-more (λ e. e.phases) history entry)

  pub phase_rises : (effect_of entry).phases ≡ 1 → phase (history ++ entry ∷ []) ≡ phase history + 1
  phase_rises one = omega (arith, one, total-more (λ e. e.phases) history entry)

  module _ (number : ℕ) where
    pub answered_stays : (effect_of entry).answers ≡ 0 → last_answer number (history ++ entry ∷ []) ≡ last_answer number history
    answered_stays none = total_of-more number (λ e. e.answers) history entry ∙ by (is_of number entry)
      where
        by : (b : Bool) → last_answer number history + (if b then (effect_of entry).answers else 0) ≡ last_answer number history
        by true = omega (arith, none)
        by false = omega arith

    pub answered_stays_by_other : is_of number entry ≡ false → last_answer number (history ++ entry ∷ []) ≡ last_answer number history
    answered_stays_by_other other = total_of_stays_by_other number (λ e. e.answers) history entry other

    pub answered_rises : is_of number entry ≡ true → (effect_of entry).answers ≡ 1 → last_answer number (history ++ entry ∷ []) ≡ last_answer number history + 1
    answered_rises own one = total_of-more number (λ e. e.answers) history entry ∙ rw own (omega (arith, one))

    answered_grows : last_answer number history ≤ last_answer number (history ++ entry ∷ [])
    answered_grows = omega (arith, total_of-more number (λ e. e.answers) history entry)

    pub left_stays : is_leave_of number entry ≡ false → has_left number (history ++ entry ∷ []) ≡ has_left number history
    left_stays none = any_with_entry_more (is_leave_of number) history entry ∙ rw none (or-false (has_left number history))

    pub left_after_leave : is_leave_of number entry ≡ true → has_left number (history ++ entry ∷ []) ≡ true
    left_after_leave leave = any_with_entry_more (is_leave_of number) history entry ∙ rw leave (or-true (has_left number history))

    present_before : has_left number (history ++ entry ∷ []) ≡ false → has_left number history ≡ false
    present_before none = front (has_left number history) (is_leave_of number entry) (sym (any_with_entry_more (is_leave_of number) history entry) ∙ none)
      where
        front : (a b : Bool) → (a || b) ≡ false → a ≡ false
        front true b both = both
        front false b both = refl

    -- another's entry is no leave of the seat
    pub entry_is_no_leave : is_of number entry ≡ false → is_leave_of number entry ≡ false
    entry_is_no_leave other = by entry other
      where
        by : (e : Entry) → is_of number e ≡ false → is_leave_of number e ≡ false
        by (entries.Said s commands.Leave reply) same = same
        by _ same = refl

-- an entry that is no collector's begins no phase
seats_begin_none : (entry : Entry) → is_collectors entry ≡ false → (effect_of entry).phases ≡ 0
seats_begin_none (entries.Advance p) seats = cc
seats_begin_none (entries.Ends c kept) seats = cc
seats_begin_none _ seats = refl

-- some entries are added
abbrev grown_by : List Entry → Entry → List Entry → List Entry
grown_by before entry more = (before ++ entry ∷ []) ++ more

regroup : (before : List Entry) (entry : Entry) (more : List Entry) → grown_by before entry more ≡ before ++ entry ∷ more
regroup before entry more = append_assoc before (entry ∷ []) more

pub phase_stays_by_seats : (before added : List Entry) → filter is_collectors added ≡ [] → phase (before ++ added) ≡ phase before
phase_stays_by_seats before [] none = ap phase (append-nil before)
phase_stays_by_seats before (entry ∷ more) none = by (is_collectors entry) refl none (phase_stays_by_seats (before ++ entry ∷ []) more)
  where
    by : (b : Bool) → is_collectors entry ≡ b → (if b then entry ∷ filter is_collectors more else filter is_collectors more) ≡ []
        → (filter is_collectors more ≡ [] → phase (grown_by before entry more) ≡ phase (before ++ entry ∷ [])) → phase (before ++ entry ∷ more) ≡ phase before
    by true is some rest = cc
    by false is none_more rest = ap phase (sym (regroup before entry more)) ∙ rest none_more ∙ phase_stays before entry (seats_begin_none entry is)

pub last_answer_grows : (number : ℕ) (before added : List Entry) → last_answer number before ≤ last_answer number (before ++ added)
last_answer_grows number before [] = rw (append-nil before) (omega arith)
last_answer_grows number before (entry ∷ more) = rw (← regroup before entry more) (omega (arith, answered_grows before entry number, last_answer_grows number (before ++ entry ∷ []) more))

pub had_not_left : (number : ℕ) (before added : List Entry) → has_left number (before ++ added) ≡ false → has_left number before ≡ false
had_not_left number before [] present = ap (has_left number) (sym (append-nil before)) ∙ present
had_not_left number before (entry ∷ more) present =
    present_before before entry number (had_not_left number (before ++ entry ∷ []) more (ap (has_left number) (regroup before entry more) ∙ present))
