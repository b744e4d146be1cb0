-- What an account that counted one more entry tells.
use Rattle.std.proofs.Common.{◌≡◌, ℕ, ◌+◌, List, [], ◌∷◌, ◌++◌, inl, inr, refl, sym, ap, ◌∙◌, subst, arith, Bool, true, false, cond}
use Rattle.std.proofs.lemmas.Bool.{cases_Bool, cond-true, cond-false}
use Rattle.heap_model.specs.declared.entry.Entry.{Entry}
use Rattle.heap_model.specs.declared.account.effect.Effect.{Effect}
use Rattle.heap_model.specs.declared.account.seat.SeatAccount.{SeatAccount}
use Rattle.heap_model.specs.account.Space.{total, total_of}
use Rattle.heap_model.specs.account.Effects.{effect_of, is_of}
use Rattle.heap_model.specs.account.Sums.{plus, IsMeasured}
use Rattle.heap_model.specs.account.Windows.{is_reply_to, up_to_reply}
use Rattle.heap_model.specs.account.SeatBooks.{TellsSince}
use Rattle.heap_model.proofs.Histories.{total-more, total_of-more}
use Rattle.heap_model.proofs.account_lemmas.Windows.{up_to_last-yes, up_to_last-no, others_total_since_reply, total_since_reply}

-- a summand that grows as its measure does
summand_grows : (b : Bool) (summand : Effect → ℕ) (sums effect : Effect) (was is : ℕ) → summand (plus sums effect) ≡ summand sums + summand effect → is ≡ was + cond b (summand effect) 0 → summand sums ≡ was → summand (cond b (plus sums effect) sums) ≡ is
summand_grows true summand sums effect was is adds more told = omega (arith, adds, more, told)
summand_grows false summand sums effect was is adds more told = omega (arith, more, told)

-- sums that grow as the measure does
measured_by : (b : Bool) (sums new effect : Effect) (f g : (Effect → ℕ) → ℕ) → new ≡ cond b (plus sums effect) sums → ((summand : Effect → ℕ) → g summand ≡ f summand + cond b (summand effect) 0) → IsMeasured sums f → IsMeasured new g
measured_by b sums new effect f g e more m = record {
  taken = grows (λ x. x.taken) refl m.taken;
  given = grows (λ x. x.given) refl m.given;
  born = grows (λ x. x.born) refl m.born;
  freed = grows (λ x. x.freed) refl m.freed;
  words = grows (λ x. x.words) refl m.words;
  returned = grows (λ x. x.returned) refl m.returned;
  phases = grows (λ x. x.phases) refl m.phases;
  answers = grows (λ x. x.answers) refl m.answers;
}
  where
    grows : (summand : Effect → ℕ) → summand (plus sums effect) ≡ summand sums + summand effect → summand sums ≡ f summand → summand new ≡ g summand
    grows summand adds told = ap summand e ∙ summand_grows b summand sums effect (f summand) (g summand) adds (more summand) told

-- what all did
pub all_measures_with_entry : (old new : Effect) (history : List Entry) (entry : Entry) → new ≡ plus old (effect_of entry) → IsMeasured old (λ summand. total summand history) → IsMeasured new (λ summand. total summand (history ++ entry ∷ []))
all_measures_with_entry old new history entry e m = measured_by true old new (effect_of entry) _ _ e (λ summand. total-more summand history entry) m

-- what the seat did
pub own_measures_with_entry : (number : ℕ) (old new : Effect) (history : List Entry) (entry : Entry) → new ≡ cond (is_of number entry) (plus old (effect_of entry)) old → IsMeasured old (λ summand. total_of number summand history) → IsMeasured new (λ summand. total_of number summand (history ++ entry ∷ []))
own_measures_with_entry number old new history entry e m = measured_by (is_of number entry) old new (effect_of entry) _ _ e (λ summand. total_of-more number summand history entry) m

-- what was done up to the seat's last reply
pub reply_measures_with_entry : (number : ℕ) (sums : (Effect → ℕ) → List Entry → ℕ) (old now new : Effect) (history : List Entry) (entry : Entry) → new ≡ cond (is_reply_to number entry) now old
    → IsMeasured now (λ summand. sums summand (history ++ entry ∷ [])) → IsMeasured old (λ summand. sums summand (up_to_reply number history)) → IsMeasured new (λ summand. sums summand (up_to_reply number (history ++ entry ∷ [])))
reply_measures_with_entry number sums old now new history entry e m o =
    elim (cases_Bool (is_reply_to number entry)) [
      | inl fits ↦ subst (λ h. IsMeasured new (λ summand. sums summand h)) (sym (up_to_last-yes (is_reply_to number) history entry fits))
          (subst (λ x. IsMeasured x (λ summand. sums summand (history ++ entry ∷ []))) (sym (e ∙ cond-true _ now old fits)) m)
      | inr fails ↦ subst (λ h. IsMeasured new (λ summand. sums summand h)) (sym (up_to_last-no (is_reply_to number) history entry fails))
          (subst (λ x. IsMeasured x (λ summand. sums summand (up_to_reply number history))) (sym (e ∙ cond-false _ now old fails)) o)
    ]

-- what was done since
pub tells_since_reply : (all : Effect) (number : ℕ) (seat : SeatAccount) (history : List Entry) → IsMeasured all (λ summand. total summand history) → IsMeasured seat.own (λ summand. total_of number summand history)
    → IsMeasured seat.own_then (λ summand. total_of number summand (up_to_reply number history)) → IsMeasured seat.all_then (λ summand. total summand (up_to_reply number history)) → TellsSince all number seat history
tells_since_reply all number seat history a o ot at = record {
  freed = omega (arith, total_since_reply number (λ e. e.freed) history, a.freed, at.freed);
  returned = omega (arith, total_since_reply number (λ e. e.returned) history, a.returned, at.returned);
  given = omega (arith, others_total_since_reply number (λ e. e.given) history, a.given, o.given, ot.given, at.given);
  taken = omega (arith, others_total_since_reply number (λ e. e.taken) history, a.taken, o.taken, ot.taken, at.taken);
  words = omega (arith, others_total_since_reply number (λ e. e.words) history, a.words, o.words, ot.words, at.words);
}
