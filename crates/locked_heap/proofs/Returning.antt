-- What holds where a function returns a fault, or what its last call came to.
use Rattle.std.proofs.Common.{◌≡◌, ℕ, ◌+◌, ◌<◌, ◌≤◌, List, length, subst, ap, sym, ◌∙◌}
use Rattle.std.proofs.lemmas.Result.{IfOk-from_err}
use Rattle.std.proofs.lemmas.List.{get_or-set_same, get_or-set_other}
use Rattle.std.specs.Prelude.{Result, OnOk, slice_set}
use Rattle.std.specs.Result.{IsErr}
use Rattle.locked_heap.specs.declared.progress.Progress.{Progress}
use Rattle.locked_heap.specs.Locked.{LockedValue, SeatHasLeft, ComesOneFurther}
use Rattle.locked_heap.specs.Progress.{at_begin, progress_at}

-- at a fault nothing is asked of a value
pub on_ok_at_err : {T E : Type 0} (r : Result T E) (P : Type 0) → IsErr r → OnOk r P
on_ok_at_err r P is = IfOk-from_err r (λ _. P) is

-- a seat that has come further since the seats stood just so has come so since they began
pub comes_further_since : (old now new : LockedValue) (number : ℕ) → now.seats ≡ old.seats → now.over ≡ old.over → ComesOneFurther now new number → ComesOneFurther old new number
comes_further_since old now new number same over one = record {
  onward = subst (λ (l : List Progress). (progress_at l number).position ≤ (progress_at new.seats number).position) same one.onward;
  few = subst (λ (l : List Progress). (progress_at new.seats number).position ≤ (progress_at l number).position + 1) same one.few;
  gone_stays = λ gone. one.gone_stays (subst (λ (l : List Progress). SeatHasLeft l number) (sym same) gone);
  others = λ other apart. one.others other apart ∙ ap (λ (l : List Progress). progress_at l other) same;
  over_stays = one.over_stays ∙ over;
}

-- where only what is kept of the seat was set it has come further by as much
pub comes_further_by_set : (old was new : LockedValue) (number : ℕ) (next : Progress) → was ≡ old → new.seats ≡ slice_set was.seats number next → new.over ≡ was.over → number < length was.seats
    → (progress_at was.seats number).position ≤ next.position → next.position ≤ (progress_at was.seats number).position + 1 → ((progress_at was.seats number).gone ≡ next.gone) → ComesOneFurther old new number
comes_further_by_set old was new number next is set over below onward few gone_same =
    let here : progress_at new.seats number ≡ next = ap (λ (l : List Progress). progress_at l number) set ∙ get_or-set_same was.seats number next at_begin below in
    subst (λ (v : LockedValue). ComesOneFurther v new number) is (record {
      onward = subst (λ (p : Progress). (progress_at was.seats number).position ≤ p.position) (sym here) onward;
      few = subst (λ (p : Progress). p.position ≤ (progress_at was.seats number).position + 1) (sym here) few;
      gone_stays = λ gone. ap (λ (p : Progress). p.gone) here ∙ sym gone_same ∙ gone;
      others = λ other apart. ap (λ (l : List Progress). progress_at l other) set ∙ get_or-set_other was.seats number other next at_begin apart;
      over_stays = over;
    })
