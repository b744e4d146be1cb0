-- The last cycle of a run began after every seat had left.
use Rattle.std.proofs.Common.{◌≡◌, ℕ, ◌+◌, ◌*◌, ◌%◌, ◌<◌, ◌≤◌, Bool, true, false, List, [], ◌∷◌, ◌++◌, inl, inr, refl, sym, ap, subst, ◌∙◌, append_assoc, arith}
use Rattle.std.specs.List.{list_any, AllByRecursion}
use Rattle.std.proofs.lemmas.Bool.{eq-eqb, or_left, or_right}
use Rattle.std.proofs.lemmas.Bool.Decides.{leb_tells}
use Rattle.std.proofs.lemmas.List.{append-nil}
use Rattle.std.proofs.lemmas.List.Sums.{sum_by-append, sum_by-cons}
use Rattle.heap_model.specs.PhasePlan.{cycle_phases}
use Rattle.heap_model.specs.declared.command.Command.TheVariants.{Leave}
use Rattle.heap_model.specs.declared.entry.Entry.{Entry}
use Rattle.heap_model.specs.declared.entry.Entry.TheVariants as entries
use Rattle.heap_model.specs.declared.heap.Heap.{Heap}
use Rattle.heap_model.specs.account.Account.{IsLegal, KeepsSpace, KeepsSpaceAfter}
use Rattle.heap_model.specs.account.Effects.{effect_of}
use Rattle.heap_model.specs.account.Noting.{is_collectors}
use Rattle.heap_model.specs.account.PhaseCounts.{phase, has_left}
use Rattle.heap_model.specs.account.Windows.{begins_cycle, up_to_cycle}
use Rattle.core_rule.proofs.parties.LeftStill.{left_stays_left, up_to_last_in_later}
use Rattle.core_rule.proofs.looks.Growth.{up_to_last_stays}
use Rattle.core_rule.proofs.runs.Plays.{keeps_space_of_each_entry}
use Rattle.heap_model.proofs.account_lemmas.Windows.{up_to_last-yes}
use Rattle.heap_model.specs.runs.Told.{is_leave, up_to_leaves, EndsWithLeave}

-- what is behind keeps the rules too
behind_kept : (heap : Heap) (play : Bool) (before front behind : List Entry) → KeepsSpaceAfter heap play before (front ++ behind) → KeepsSpaceAfter heap play (before ++ front) behind
behind_kept heap play before [] behind kept = subst (λ es. KeepsSpaceAfter heap play es behind) (sym (append-nil before)) kept
behind_kept heap play before (entry ∷ front) behind kept =
    subst (λ es. KeepsSpaceAfter heap play es behind) (append_assoc before (entry ∷ []) front) (behind_kept heap play (before ++ entry ∷ []) front behind kept.1)

-- each entry begins as many phases as it tells
phase_more : (before behind : List Entry) → phase (before ++ behind) ≡ phase before + phase behind
phase_more before behind = sum_by-append (λ e. (effect_of e).phases) before behind

module _ (heap : Heap) (play : Bool) (cycle : ℕ) where
  -- the entry with which a phase past the cycle's begin is reached begins it
  begins_here : (before : List Entry) (entry : Entry) → KeepsSpace heap play before entry → phase before ≤ cycle_phases * cycle → cycle_phases * cycle < phase before + (effect_of entry).phases → begins_cycle entry ≡ true
  begins_here before (entries.Advance p) keeps early past = eq-eqb (p % cycle_phases) 1 (omega (arith, keeps.begins.0, early, past))
  begins_here before (entries.Ends ended kept) keeps early past = absurd (omega (arith, keeps.ends.0.0, early, past))
  begins_here before _ keeps early past = absurd (omega (arith, early, past))

  -- so a cycle begins among entries that lead from before its begin to behind it
  begins_among : (before behind : List Entry) → KeepsSpaceAfter heap play before behind → phase before ≤ cycle_phases * cycle → cycle_phases * cycle < phase before + phase behind → list_any begins_cycle behind ≡ true
  begins_among before [] kept early past = absurd (omega (arith, early, past))
  begins_among before (entry ∷ behind) kept early past =
      let phases = sum_by-cons (λ e. (effect_of e).phases) entry behind in
      let one = phase_more before (entry ∷ []) in
      let alone = sum_by-cons (λ e. (effect_of e).phases) entry [] in
      elim (leb_tells (phase (before ++ entry ∷ [])) (cycle_phases * cycle)) as (λ _. list_any begins_cycle (entry ∷ behind) ≡ true) [
        | inl later ↦ or_right (begins_cycle entry) (list_any begins_cycle behind) (begins_among (before ++ entry ∷ []) behind kept.1 later.1 (omega (arith, past, phases, one, alone)))
        | inr now ↦ or_left (begins_cycle entry) (list_any begins_cycle behind) (begins_here before entry kept.0 early (omega (arith, now.1, one, alone)))
      ]

-- of a legal history that ends with the end of a cycle whatever has left before its begin has left up to there
pub left_before_last_cycle : (heap : Heap) (play : Bool) (front turned : List Entry) (cycle kept number : ℕ) → IsLegal heap play ((front ++ turned) ++ entries.Ends cycle kept ∷ []) → phase front ≤ cycle_phases * cycle
    → has_left number front ≡ true → has_left number (up_to_cycle (front ++ turned)) ≡ true
left_before_last_cycle heap play front turned cycle kept number legal early left =
    let through = (keeps_space_of_each_entry heap play [] (front ++ turned) [] (entries.Ends cycle kept) legal.space).ends.0 in
    let space = subst (λ es. KeepsSpaceAfter heap play [] es) (append_assoc front turned (entries.Ends cycle kept ∷ [])) legal.space in
    let some : list_any begins_cycle turned ≡ true = begins_among heap play cycle front turned (front_kept front (turned) (behind_kept heap play [] front (turned ++ entries.Ends cycle kept ∷ []) space)) early
    (omega (arith, through.0, phase_more front turned)) in
    ap (has_left number) (up_to_last_in_later begins_cycle front turned some) ∙ left_stays_left number front (up_to_cycle turned) left
  where
    -- what is before keeps them too
    front_kept : (before front : List Entry) → KeepsSpaceAfter heap play before (front ++ entries.Ends cycle kept ∷ []) → KeepsSpaceAfter heap play before front
    front_kept before [] kept_ = tt
    front_kept before (entry ∷ front) kept_ = (kept_.0, front_kept (before ++ entry ∷ []) front kept_.1)

-- no entry of the collector is a leave
no_leaves : (turned : List Entry) → AllByRecursion (λ entry. is_collectors entry ≡ true) turned → list_any is_leave turned ≡ false
no_leaves [] own = refl
no_leaves (entries.Said number command reply ∷ turned) own = absurd (cc own.0)
no_leaves (entry ∷ turned) own = no_leaves turned own.1

-- so behind a leave the last leave stays where turns are made
pub last_leave_stays : (front turned : List Entry) → EndsWithLeave front → AllByRecursion (λ entry. is_collectors entry ≡ true) turned → up_to_leaves (front ++ turned) ≡ front
last_leave_stays front turned parted own =
    up_to_last_stays is_leave front turned (no_leaves turned own)
    ∙ subst (λ (l : List Entry). up_to_leaves l ≡ l) (sym parted.last) (up_to_last-yes is_leave parted.before (entries.Said parted.number Leave parted.reply) refl)
