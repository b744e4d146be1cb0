-- What some entries of a seat come to.
use Rattle.std.proofs.Common.{◌≡◌, ℕ, ◌+◌, List, [], ◌∷◌, ◌++◌, sum, cond, eqb, true, refl, sym, subst, eq-eqb, inl, inr, arith}
use Rattle.std.proofs.lemmas.Bool.Decides.{eqb_tells}
use Rattle.std.proofs.lemmas.List.Sums.{sum_by-append, sum_by-cons}
use Rattle.core_machine.proofs.Terms.{made_by, Command, Entry, Said, Takes, GivesBack, Reply}
use Rattle.heap_model.specs.account.Effects.{effect_of, is_of}
use Rattle.heap_model.specs.account.PhaseCounts.{last_answer}
use Rattle.heap_model.specs.account.Space.{taken_of, spent_of, total_of}
use Rattle.heap_model.specs.calls.SeatCalls.{takes_of, gives_of, last_gives}
use Rattle.heap_model.specs.declared.account.effect.Effect.{Effect}

module _ (number : ℕ) where
  -- the entries come to these sums
  pub record ComeTo (entries : List Entry) (taken spent answers : ℕ) : Type 0 where
    pub takes : taken_of number entries ≡ taken
    pub spends : spent_of number entries ≡ spent
    pub replies : last_answer number entries ≡ answers

  -- the sums of two lists are added
  total_of-append : (summand : Effect → ℕ) (front back : List Entry) → total_of number summand (front ++ back) ≡ total_of number summand front + total_of number summand back
  total_of-append summand front back = sum_by-append (λ e. cond (is_of number e) (summand (effect_of e)) 0) front back

  pub come_to-append : (front back : List Entry) {taken spent answers taken' spent' answers' : ℕ} → ComeTo front taken spent answers → ComeTo back taken' spent' answers'
      → ComeTo (front ++ back) (taken + taken') (spent + spent') (answers + answers')
  come_to-append front back first then = record {
    takes = omega (arith, total_of-append (λ e. e.taken) front back, first.takes, then.takes);
    spends = omega (arith, total_of-append (λ e. e.given) front back, total_of-append (λ e. e.born) front back, first.spends, then.spends);
    replies = omega (arith, total_of-append (λ e. e.answers) front back, first.replies, then.replies);
  }

  pub come_to-none : ComeTo [] 0 0 0
  come_to-none = record { takes = refl; spends = omega arith; replies = refl }

  own : eqb number number ≡ true
  own = eq-eqb number number refl

  pub come_to-said : (command : Command) (reply : Reply) → ComeTo (Said number command reply ∷ []) 0 (made_by command reply) 0
  come_to-said command reply = record { takes = rw own (omega arith); spends = rw own (omega arith); replies = rw own (omega arith) }

  come_to-take : (count : ℕ) → ComeTo (Takes number count ∷ []) count 0 0
  come_to-take count = record { takes = rw own (omega arith); spends = rw own (omega arith); replies = rw own (omega arith) }

  come_to-give : (count : ℕ) → ComeTo (GivesBack number count ∷ []) 0 count 0
  come_to-give count = record { takes = rw own (omega arith); spends = rw own (omega arith); replies = rw own (omega arith) }

  pub come_to-takes : (counts : List ℕ) → ComeTo (takes_of number counts) (sum counts) 0 0
  come_to-takes [] = come_to-none
  come_to-takes (count ∷ counts) =
      subst (λ n. ComeTo (takes_of number (count ∷ counts)) n 0 0) (sym (sum_by-cons (λ x. x) count counts)) (come_to-append (Takes number count ∷ []) (takes_of number counts) (come_to-take count) (come_to-takes counts))

  pub come_to-gives : (counts : List ℕ) → ComeTo (gives_of number counts) 0 (sum counts) 0
  come_to-gives [] = come_to-none
  come_to-gives (count ∷ counts) =
      subst (λ n. ComeTo (gives_of number (count ∷ counts)) 0 n 0) (sym (sum_by-cons (λ x. x) count counts)) (come_to-append (GivesBack number count ∷ []) (gives_of number counts) (come_to-give count) (come_to-gives counts))

  pub come_to-last_gives : (unborn : ℕ) → ComeTo (last_gives number unborn) 0 unborn 0
  come_to-last_gives unborn =
      elim (eqb_tells unborn 0) as (λ _. ComeTo (last_gives number unborn) 0 unborn 0) [
        | inl none ↦ rw none.0 (rw none.1 come_to-none)
        | inr some ↦ rw some.0 (come_to-give unborn)
      ]
