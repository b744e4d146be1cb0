-- Which phases a seat was seen behind in, once one more entry is counted.
use Rattle.std.proofs.Common.{◌≡◌, ℕ, ◌+◌, ◌<◌, ◌≤◌, List, ◌⊎◌, inl, inr, refl, sym, ap, ◌∙◌, subst, arith, Bool, true, false, cond, Option, Some, None, is_some, nat_lt}
use Rattle.std.proofs.lemmas.Bool.{cases_lt, cases_Bool, cond-true, cond-false, eqb-true, ltb-true, ltb-false}
use Rattle.std.specs.Option.{unwrap_or}
use Rattle.heap_model.specs.declared.heap.Heap.{Heap}
use Rattle.heap_model.specs.declared.command.Command.TheVariants as commands
use Rattle.heap_model.specs.declared.entry.Entry.{Entry}
use Rattle.heap_model.specs.declared.entry.Entry.TheVariants as entries
use Rattle.heap_model.specs.account.Effects.{effect_of, is_of}
use Rattle.heap_model.specs.account.PhaseCounts.{phase, last_answer, has_left, is_leave_of}
use Rattle.heap_model.specs.account.Account.{KeepsSpace}
use Rattle.heap_model.specs.account.SeatBooks.{IsFrom}

-- what an entry does to a seat: the phase in which it left, its answers, and the phase
pub data SeatStep (left : Option ℕ) (answers now : ℕ) (left_then : Option ℕ) (answers_then then : ℕ) : Type 0 where
  begins : left_then ≡ left → answers_then ≡ answers → then ≡ now + 1 → (is_some left ≡ false → answers ≡ now) → SeatStep left answers now left_then answers_then then
  answers_now : left_then ≡ left → answers_then ≡ answers + 1 → answers + 1 ≡ now → then ≡ now → SeatStep left answers now left_then answers_then then
  leaves : left_then ≡ Some (unwrap_or left now) → then ≡ now → SeatStep left answers now left_then answers_then then
  rests : left_then ≡ left → answers_then ≡ answers → then ≡ now → SeatStep left answers now left_then answers_then then

cond_none : (b : Bool) → cond {A = ℕ} b 0 0 ≡ 0
cond_none true = refl
cond_none false = refl

-- each entry does one of these
pub entry_is_seat_step : (heap : Heap) (play : Bool) (history : List Entry) (entry : Entry) (number : ℕ) → KeepsSpace heap play history entry → number < heap.seats
    → (left left_then : Option ℕ) (answers answers_then now then : ℕ) → is_some left ≡ has_left number history → answers ≡ last_answer number history → now ≡ phase history
    → left_then ≡ cond (is_leave_of number entry) (Some (unwrap_or left now)) left → answers_then ≡ answers + cond (is_of number entry) (effect_of entry).answers 0 → then ≡ now + (effect_of entry).phases
    → SeatStep left answers now left_then answers_then then
entry_is_seat_step heap play history (entries.Said q commands.Leave reply) number keeps lt left left_then answers answers_then now then has gave here l a p =
    elim (cases_Bool (is_of number (entries.Said q commands.Leave reply))) [
      | inl own ↦ leaves (l ∙ cond-true _ _ _ own) (omega (arith, p))
      | inr other ↦ rests (l ∙ cond-false _ _ _ other) (omega (arith, a ∙ ap (λ n. answers + n) (cond-false {A = ℕ} _ 0 0 other))) (omega (arith, p))
    ]
entry_is_seat_step heap play history (entries.Answers q given) number keeps lt left left_then answers answers_then now then has gave here l a p =
    elim (cases_Bool (is_of number (entries.Answers q given))) [
      | inl own ↦ (let same : q ≡ number = eqb-true q number own in
          let next : last_answer q history ≡ answers = ap (λ x. last_answer x history) same ∙ sym gave in
          answers_now l (a ∙ ap (λ n. answers + n) (cond-true {A = ℕ} _ 1 0 own)) (omega (arith, keeps.answers.0, keeps.answers.1, next, here)) (omega (arith, p)))
      | inr other ↦ rests l (omega (arith, a ∙ ap (λ n. answers + n) (cond-false {A = ℕ} _ 1 0 other))) (omega (arith, p))
    ]
entry_is_seat_step heap play history (entries.Advance q) number keeps lt left left_then answers answers_then now then has gave here l a p =
    begins l (omega (arith, a)) p (λ there. gave ∙ keeps.begins.2 number lt (sym has ∙ there) ∙ sym here)
entry_is_seat_step heap play history (entries.Ends cycle kept) number keeps lt left left_then answers answers_then now then has gave here l a p =
    begins l (omega (arith, a)) p (λ there. gave ∙ keeps.ends.0.1 number lt (sym has ∙ there) ∙ sym here)
entry_is_seat_step heap play history (entries.Said q command reply) number keeps lt left left_then answers answers_then now then has gave here l a p =
    rests l (omega (arith, a, cond_none (is_of number (entries.Said q command reply)))) (omega (arith, p))
entry_is_seat_step heap play history (entries.Takes q count) number keeps lt left left_then answers answers_then now then has gave here l a p =
    rests l (omega (arith, a, cond_none (is_of number (entries.Takes q count)))) (omega (arith, p))
entry_is_seat_step heap play history (entries.GivesBack q count) number keeps lt left left_then answers answers_then now then has gave here l a p =
    rests l (omega (arith, a, cond_none (is_of number (entries.GivesBack q count)))) (omega (arith, p))
entry_is_seat_step heap play history entry number keeps lt left left_then answers answers_then now then has gave here l a p = rests l (omega (arith, a)) (omega (arith, p))

-- behind by one, in numbers
abbrev pub IsOneBehind : Option ℕ → ℕ → ℕ → ℕ → Type 0
IsOneBehind left answers now answer = (is_some left ≡ false) × (answers ≡ answer) × (now ≡ answer + 1)

-- since an earlier reply of the one who looks
pub behind_since_earlier_reply : {Was : Type 0} (left left_then : Option ℕ) (answers answers_then now then first answer : ℕ) → SeatStep left answers now left_then answers_then then → first ≤ now + 1
    → (Was → IsFrom first (unwrap_or left now) (answer + 1)) × (IsFrom first (unwrap_or left now) (answer + 1) → Was) → (IsOneBehind left answers now answer → Was)
    → (Was ⊎ IsOneBehind left_then answers_then then answer → IsFrom first (unwrap_or left_then then) (answer + 1))
    × (IsFrom first (unwrap_or left_then then) (answer + 1) → Was ⊎ IsOneBehind left_then answers_then then answer)
behind_since_earlier_reply None left_then answers answers_then now then first answer (begins l a p all) early told here = (
  λ w. elim w [
    | inl was ↦ subst (λ o. IsFrom first (unwrap_or o then) (answer + 1)) (sym l) (let f = told.0 was in (f.0, omega (arith, f.1, p)))
    | inr is ↦ subst (λ o. IsFrom first (unwrap_or o then) (answer + 1)) (sym l) (omega (arith, is.2, p, early), omega (arith, is.2))
  ],
  λ f. let g : IsFrom first then (answer + 1) = subst (λ o. IsFrom first (unwrap_or o then) (answer + 1)) l f in
      elim (cases_lt now (answer + 1)) [
        | inl above ↦ inr (ap is_some l, omega (arith, a, all refl, above, g.1, p), omega (arith, above, g.1, p))
        | inr within ↦ inl (told.1 (g.0, within))
      ],
)
behind_since_earlier_reply (Some x) left_then answers answers_then now then first answer (begins l a p all) early told here = (
  λ w. elim w [
    | inl was ↦ subst (λ o. IsFrom first (unwrap_or o then) (answer + 1)) (sym l) (told.0 was)
    | inr is ↦ absurd (cc (ap is_some l, is.0))
  ],
  λ f. inl (told.1 (subst (λ o. IsFrom first (unwrap_or o then) (answer + 1)) l f)),
)
behind_since_earlier_reply left left_then answers answers_then now then first answer (answers_now l a last p) early told here = (
  λ w. elim w [
    | inl was ↦ subst (λ o. IsFrom first o (answer + 1)) (sym (ap (λ o. unwrap_or o then) l ∙ ap (unwrap_or left) p)) (told.0 was)
    | inr is ↦ absurd (omega (arith, is.1, is.2, a, last, p))
  ],
  λ f. inl (told.1 (subst (λ o. IsFrom first o (answer + 1)) (ap (λ o. unwrap_or o then) l ∙ ap (unwrap_or left) p) f)),
)
behind_since_earlier_reply left left_then answers answers_then now then first answer (leaves l p) early told here = (
  λ w. elim w [
    | inl was ↦ subst (λ o. IsFrom first o (answer + 1)) (sym (ap (λ o. unwrap_or o then) l)) (told.0 was)
    | inr is ↦ absurd (cc (ap is_some l, is.0))
  ],
  λ f. inl (told.1 (subst (λ o. IsFrom first o (answer + 1)) (ap (λ o. unwrap_or o then) l) f)),
)
behind_since_earlier_reply left left_then answers answers_then now then first answer (rests l a p) early told here = (
  λ w. elim w [
    | inl was ↦ subst (λ o. IsFrom first o (answer + 1)) (sym (ap (λ o. unwrap_or o then) l ∙ ap (unwrap_or left) p)) (told.0 was)
    | inr is ↦ subst (λ o. IsFrom first o (answer + 1)) (sym (ap (λ o. unwrap_or o then) l ∙ ap (unwrap_or left) p))
        (told.0 (here (ap is_some (sym l) ∙ is.0, sym a ∙ is.1, sym p ∙ is.2)))
  ],
  λ f. inl (told.1 (subst (λ o. IsFrom first o (answer + 1)) (ap (λ o. unwrap_or o then) l ∙ ap (unwrap_or left) p) f)),
)

-- right after a reply of the one who looks
pub behind_right_after_reply : (left : Option ℕ) (answers now answer : ℕ) → (is_some left ≡ false → now ≤ answers + 1) → unwrap_or left now ≤ now
    → (IsOneBehind left answers now answer → IsFrom (now + cond (cond (is_some left) false (nat_lt answers now)) 0 1) (unwrap_or left now) (answer + 1))
    × (IsFrom (now + cond (cond (is_some left) false (nat_lt answers now)) 0 1) (unwrap_or left now) (answer + 1) → IsOneBehind left answers now answer)
behind_right_after_reply (Some x) answers now answer up gone = (λ is. absurd (cc is.0), λ f. absurd (omega (arith, f.0, f.1, gone)))
behind_right_after_reply None answers now answer up gone =
    elim (cases_Bool (nat_lt answers now)) [
      | inl behind ↦ (let less : answers < now = ltb-true answers now behind in
          let first : now + cond (nat_lt answers now) 0 1 ≡ now = omega (arith, cond-true {A = ℕ} (nat_lt answers now) 0 1 behind) in
          (λ is. (omega (arith, first, is.2), omega (arith, is.2)), λ f. (refl, omega (arith, f.0, f.1, first, less, up refl), omega (arith, f.0, f.1, first))))
      | inr level ↦ (let above : now ≤ answers = ltb-false answers now level in
          let first : now + cond (nat_lt answers now) 0 1 ≡ now + 1 = omega (arith, cond-false {A = ℕ} (nat_lt answers now) 0 1 level) in
          (λ is. absurd (omega (arith, is.1, is.2, above)), λ f. absurd (omega (arith, f.0, f.1, first))))
    ]
