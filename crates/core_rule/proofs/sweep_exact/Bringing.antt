-- What a seat has left of its fragments at its replies: a reserve at most, and nothing once it has left.
use Rattle.std.proofs.Common.{◌≡◌, ℕ, ◌+◌, ◌≤◌, List, [], ◌∷◌, ◌++◌, Bool, true, inl, inr, refl, sym, ap, ◌∙◌, subst, append_assoc, arith}
use Rattle.std.specs.List.{list_any}
use Rattle.std.proofs.lemmas.Bool.{cases_Bool, cond-true, eqb-true}
use Rattle.std.proofs.lemmas.List.{append-nil}
use Rattle.core_rule.proofs.Terms.{Command, Entry, Heap, IsLegal, KeepsSpaceAfter, is_reply_to, spent_of, taken_of, total_of}
use Rattle.heap_model.specs.declared.command.Command.TheVariants as commands
use Rattle.heap_model.specs.declared.entry.Entry.TheVariants as entries
use Rattle.heap_model.specs.account.Account.{MakesOfOwn, most_kept}
use Rattle.heap_model.specs.account.Space.{fragments_unborn, made_by}
use Rattle.heap_model.specs.account.Windows.{after_last, up_to_reply}
use Rattle.heap_model.proofs.Histories.{total_of-more}
use Rattle.heap_model.proofs.account_lemmas.Fronts.{back_keeps_rules}
use Rattle.heap_model.proofs.account_lemmas.LastEntries.{no_last, has_last, parted_at_last}
use Rattle.core_rule.specs.sweep_exact.SweepLaws.{EachSeatBringsLittle}
use Rattle.core_rule.proofs.sweep_exact.AllGone.{through_legal}

most_kept_is_small : (command : Command) → most_kept command ≤ 15
most_kept_is_small commands.Leave = omega arith
most_kept_is_small command = omega arith

-- after a reply a seat has a reserve at most
after_reply_is_small : (number : ℕ) (front : List Entry) (entry : Entry) → is_reply_to number entry ≡ true → MakesOfOwn front entry → fragments_unborn number (front ++ entry ∷ []) ≤ 15
after_reply_is_small number front (entries.Said other command reply) replies makes =
    let entry : Entry = entries.Said other command reply in
    let same : other ≡ number = eqb-true other number replies in
    let own : taken_of number front ≤ spent_of number front + made_by command reply + most_kept command =
    subst (λ x. taken_of x front ≤ spent_of x front + made_by command reply + most_kept command) same makes.1 in
    let given = total_of-more number (λ e. e.given) front entry ∙ ap (λ n. total_of number (λ e. e.given) front + n) (cond-true _ 0 0 replies) in
    let born = total_of-more number (λ e. e.born) front entry ∙ ap (λ n. total_of number (λ e. e.born) front + n) (cond-true _ (made_by command reply) 0 replies) in
    let taken = total_of-more number (λ e. e.taken) front entry ∙ ap (λ n. total_of number (λ e. e.taken) front + n) (cond-true _ 0 0 replies) in
    omega (arith, own, given, born, taken, most_kept_is_small command)
after_reply_is_small number front entry replies makes = absurd (cc replies)

-- so each seat has a reserve at most right after its last reply
pub reserve_is_small : (heap : Heap) (play : Bool) (history rest : List Entry) (number : ℕ) → KeepsSpaceAfter heap play [] (history ++ rest) → fragments_unborn number (up_to_reply number history) ≤ 15
reserve_is_small heap play history rest number kept = elim (cases_Bool (list_any (is_reply_to number) history)) [
  | inl any ↦ (let last = has_last (is_reply_to number) history any in
      let whole : history ++ rest ≡ last.front ++ last.entry ∷ (after_last (is_reply_to number) history ++ rest) =
      ap (λ es. es ++ rest) (parted_at_last (is_reply_to number) history last) ∙ append_assoc last.front (last.entry ∷ after_last (is_reply_to number) history) rest in
      let keeps = (back_keeps_rules heap play [] last.front _ (subst (λ es. KeepsSpaceAfter heap play [] es) whole kept)).0 in
      subst (λ es. fragments_unborn number es ≤ 15) (sym last.is) (after_reply_is_small number last.front last.entry last.passes keeps.makes))
  | inr none ↦ subst (λ es. fragments_unborn number es ≤ 15) (sym (no_last (is_reply_to number) history none).0) (omega arith)
]

-- and nothing where that was its leave
pub each_seat_brings_little : EachSeatBringsLittle
each_seat_brings_little heap play history number legal =
    let whole : IsLegal heap play (history ++ []) = subst (IsLegal heap play) (sym (append-nil history)) legal in
    record {
      small = reserve_is_small heap play history [] number whole.space;
      gone = λ left. (let through = through_legal heap play number history [] whole left in omega (arith, through.none));
    }
