-- What is kept of a seat, with one more entry.
use Rattle.std.proofs.Common.{◌≡◌, ℕ, ◌+◌, List, [], ◌∷◌, ◌++◌, inl, inr, true, false, cond, Some, set, get_or-set_other, refl, sym, ap, ◌∙◌, subst, arith}
use Rattle.std.proofs.lemmas.Bool.{cases_Bool, cases_eq, cond-true, cond-false, eq-eqb}
use Rattle.heap_model.specs.declared.entry.Entry.{Entry}
use Rattle.heap_model.specs.declared.account.effect.Effect.{Effect}
use Rattle.heap_model.specs.account.Effects.{effect_of, is_of}
use Rattle.heap_model.specs.account.Noting.{seat_of}
use Rattle.heap_model.specs.account.Space.{total_of, taken_of, spent_of}
use Rattle.heap_model.specs.account.Windows.{is_reply_to, up_to_reply, since_reply}
use Rattle.heap_model.proofs.Histories.{total_of-more}
use Rattle.heap_model.proofs.account_lemmas.Noting.{entry_is_of_other}
use Rattle.heap_model.proofs.account_lemmas.Windows.{up_to_last-yes, up_to_last-no, sum_of_window_sections}
use Rattle.log_merge.proofs.merge_lemmas.Parts.{is_of-seat_of}
use Rattle.space_plan.specs.declared.planning.seat_space.SeatSpace.{SeatSpace}
use Rattle.space_plan.specs.plan.Seats.{SeatFits, SeatTells, space_at, no_space}

-- a sum over the seat's own entries, with one that is its own and with one that isn't
own_more : (number : ℕ) (summand : Effect → ℕ) (history : List Entry) (entry : Entry) → is_of number entry ≡ true → total_of number summand (history ++ entry ∷ []) ≡ total_of number summand history + summand (effect_of entry)
own_more number summand history entry own = total_of-more number summand history entry ∙ ap (λ n. total_of number summand history + n) (cond-true _ _ 0 own)

others_more : (number : ℕ) (summand : Effect → ℕ) (history : List Entry) (entry : Entry) → is_of number entry ≡ false → total_of number summand (history ++ entry ∷ []) ≡ total_of number summand history
others_more number summand history entry other = total_of-more number summand history entry ∙ omega (arith, cond-false (is_of number entry) (summand (effect_of entry)) 0 other)

-- what the seat itself counts with its own entry
pub record Counts (number : ℕ) (entry : Entry) (old new : SeatSpace) : Type 0 where
  pub own : seat_of entry ≡ Some number
  pub taken : new.taken ≡ old.taken + (effect_of entry).taken
  pub spent : new.spent ≡ old.spent + (effect_of entry).given + (effect_of entry).born
  pub taken_then : new.taken_then ≡ cond (is_reply_to number entry) new.taken old.taken_then
  pub spent_then : new.spent_then ≡ cond (is_reply_to number entry) new.spent old.spent_then

pub SeatTells-own : (number : ℕ) (history : List Entry) (entry : Entry) (old new : SeatSpace) → Counts number entry old new → SeatTells number old history → SeatTells number new (history ++ entry ∷ [])
SeatTells-own number history entry old new counts tells = record {
  taken = taken;
  spent = spent;
  taken_then = elim (cases_Bool (is_reply_to number entry)) [
    | inl replies ↦ counts.taken_then ∙ cond-true _ new.taken old.taken_then replies ∙ taken ∙ ap (taken_of number) (sym (up_to_last-yes (is_reply_to number) history entry replies))
    | inr other ↦ counts.taken_then ∙ cond-false _ new.taken old.taken_then other ∙ tells.taken_then ∙ ap (taken_of number) (sym (up_to_last-no (is_reply_to number) history entry other))
  ];
  spent_then = elim (cases_Bool (is_reply_to number entry)) [
    | inl replies ↦ counts.spent_then ∙ cond-true _ new.spent old.spent_then replies ∙ spent ∙ ap (spent_of number) (sym (up_to_last-yes (is_reply_to number) history entry replies))
    | inr other ↦ counts.spent_then ∙ cond-false _ new.spent old.spent_then other ∙ tells.spent_then ∙ ap (spent_of number) (sym (up_to_last-no (is_reply_to number) history entry other))
  ];
}
  where
    own : is_of number entry ≡ true
    own = is_of-seat_of number entry number counts.own ∙ eq-eqb number number refl

    taken : new.taken ≡ taken_of number (history ++ entry ∷ [])
    taken = omega (arith, counts.taken, tells.taken, own_more number (λ e. e.taken) history entry own)

    spent : new.spent ≡ spent_of number (history ++ entry ∷ [])
    spent = omega (arith, counts.spent, tells.spent, own_more number (λ e. e.given) history entry own, own_more number (λ e. e.born) history entry own)

-- so where it adds the entry's effect, and keeps the sums at the last reply by whether that is one
pub SeatTells-counted : (number : ℕ) (history : List Entry) (entry : Entry) (old : SeatSpace) (taken_then spent_then : ℕ) (effect : Effect) → seat_of entry ≡ Some number → effect ≡ effect_of entry
    → taken_then ≡ cond (is_reply_to number entry) (old.taken + effect.taken) old.taken_then → spent_then ≡ cond (is_reply_to number entry) (old.spent + effect.given + effect.born) old.spent_then
    → SeatTells number old history → SeatTells number (record { taken = old.taken + effect.taken; spent = old.spent + effect.given + effect.born; taken_then = taken_then; spent_then = spent_then }) (history ++ entry ∷ [])
SeatTells-counted number history entry old taken_then spent_then effect own exact taken_kept spent_kept tells = SeatTells-own number history entry old _ (record {
  own = own;
  taken = ap (λ (e : Effect). old.taken + e.taken) exact;
  spent = ap (λ (e : Effect). old.spent + e.given + e.born) exact;
  taken_then = taken_kept;
  spent_then = spent_kept;
}) tells

-- an entry that isn't its own changes nothing
pub SeatTells-other : (number : ℕ) (history : List Entry) (entry : Entry) (seat : SeatSpace) → (seat_of entry ≡ Some number → ⊥) → SeatTells number seat history → SeatTells number seat (history ++ entry ∷ [])
SeatTells-other number history entry seat not_own tells =
    let other = entry_is_of_other number entry not_own in
    let same : up_to_reply number (history ++ entry ∷ []) ≡ up_to_reply number history = up_to_last-no (is_reply_to number) history entry other.reply in
    record {
      taken = omega (arith, tells.taken, others_more number (λ e. e.taken) history entry other.of);
      spent = omega (arith, tells.spent, others_more number (λ e. e.given) history entry other.of, others_more number (λ e. e.born) history entry other.of);
      taken_then = tells.taken_then ∙ ap (taken_of number) (sym same);
      spent_then = tells.spent_then ∙ ap (spent_of number) (sym same);
    }

-- with one more entry the bounds are wider
pub SeatFits-more : (n : ℕ) (seat : SeatSpace) → SeatFits n seat → SeatFits (n + 1) seat
SeatFits-more n seat fits = record { taken = omega (arith, fits.taken); spent = omega (arith, fits.spent); taken_then = omega (arith, fits.taken_then); spent_then = omega (arith, fits.spent_then) }

-- what is kept of the seats, where that of the entry's seat is put anew
pub SeatTells-put : (history : List Entry) (entry : Entry) (seats : List SeatSpace) (i : ℕ) (new : SeatSpace) → seat_of entry ≡ Some i → space_at (set seats i new) i ≡ new → SeatTells i new (history ++ entry ∷ [])
    → (number : ℕ) → SeatTells number (space_at seats number) history → SeatTells number (space_at (set seats i new) number) (history ++ entry ∷ [])
SeatTells-put history entry seats i new is put here number tells = elim (cases_eq number i) [
  | inl same ↦ subst (λ n. SeatTells n (space_at (set seats i new) n) (history ++ entry ∷ [])) (sym same)
      (subst (λ x. SeatTells i x (history ++ entry ∷ [])) (sym put) here)
  | inr apart ↦ subst (λ x. SeatTells number x (history ++ entry ∷ [])) (sym (get_or-set_other seats i number new no_space apart))
      (SeatTells-other number history entry (space_at seats number) (λ own. apart (cc (own, is))) tells)
]

-- and so for the bounds of the counts
pub SeatFits-put : (n : ℕ) (seats : List SeatSpace) (i : ℕ) (new : SeatSpace) → space_at (set seats i new) i ≡ new → SeatFits (n + 1) new → ((number : ℕ) → SeatFits n (space_at seats number))
    → (number : ℕ) → SeatFits (n + 1) (space_at (set seats i new) number)
SeatFits-put n seats i new put here fits number = elim (cases_eq number i) [
  | inl same ↦ subst (λ k. SeatFits (n + 1) (space_at (set seats i new) k)) (sym same) (subst (SeatFits (n + 1)) (sym put) here)
  | inr apart ↦ subst (SeatFits (n + 1)) (sym (get_or-set_other seats i number new no_space apart)) (SeatFits-more n (space_at seats number) (fits number))
]

-- what a seat took is what it took up to its last reply, and since
pub taken_since_is_rest : (number : ℕ) (history : List Entry) (seat : SeatSpace) → SeatTells number seat history → seat.taken_then + taken_of number (since_reply number history) ≡ seat.taken
taken_since_is_rest number history seat tells =
    omega (arith, tells.taken, tells.taken_then, sum_of_window_sections (is_reply_to number) (λ e. cond (is_of number e) ((effect_of e).taken) 0) history)
