-- The sections of a history, and what the sums of the sections are.
use Rattle.std.proofs.Common.{◌≡◌, ℕ, ◌+◌, List, [], ◌∷◌, ◌++◌, refl, sym, ap, ◌∙◌, Bool, true, false, ◌||◌, cond, arith}
use Rattle.std.proofs.lemmas.List.Sums.{sum_by-append, sum_by-cons}
use Rattle.std.specs.List.{list_any, sum_by}
use Rattle.std.proofs.lemmas.Bool.{cond-true, cond-false, or_right}
use Rattle.std.proofs.lemmas.List.Folds.{list_any-append}
use Rattle.heap_model.specs.declared.entry.Entry.{Entry}
use Rattle.heap_model.specs.declared.account.effect.Effect.{Effect}
use Rattle.heap_model.specs.account.Space.{total, total_of, total_but}
use Rattle.heap_model.specs.account.Effects.{effect_of, is_of}
use Rattle.heap_model.specs.account.Windows.{is_reply_to, up_to_last, after_last, up_to_reply, since_reply}

-- the two sections are the history
pub window_sections_make_whole : (test : Entry → Bool) (history : List Entry) → up_to_last test history ++ after_last test history ≡ history
window_sections_make_whole test [] = refl
window_sections_make_whole test (entry ∷ history) =
    elim (list_any test (entry ∷ history)) as (λ b. (cond b (entry ∷ up_to_last test history) []) ++ (cond b (after_last test history) (entry ∷ history)) ≡ entry ∷ history)
    [ true ↦ ap (λ es. entry ∷ es) (window_sections_make_whole test history) | false ↦ refl ]

-- a sum over the history is the sum over its two sections
pub sum_of_window_sections : (test : Entry → Bool) (f : Entry → ℕ) (history : List Entry) → sum_by f history ≡ sum_by f (up_to_last test history) + sum_by f (after_last test history)
sum_of_window_sections test f history = ap (sum_by f) (sym (window_sections_make_whole test history)) ∙ sum_by-append f (up_to_last test history) (after_last test history)

-- all is the seat's and the others'
pub total_is_own_and_others : (number : ℕ) (summand : Effect → ℕ) (history : List Entry) → total summand history ≡ total_of number summand history + total_but number summand history
total_is_own_and_others number summand [] = refl
total_is_own_and_others number summand (entry ∷ history) =
    let all = sum_by-cons (λ e. summand (effect_of e)) entry history in
    let own = sum_by-cons (λ e. cond (is_of number e) (summand (effect_of e)) 0) entry history in
    let others = sum_by-cons (λ e. cond (is_of number e) 0 (summand (effect_of e))) entry history in
    let one : summand (effect_of entry) ≡ cond (is_of number entry) (summand (effect_of entry)) 0 + cond (is_of number entry) 0 (summand (effect_of entry)) = one_split (is_of number entry) (summand (effect_of entry)) in
    omega (arith, all, own, others, one, total_is_own_and_others number summand history)
  where
    one_split : (b : Bool) (n : ℕ) → n ≡ cond b n 0 + cond b 0 n
    one_split true n = omega arith
    one_split false n = omega arith

-- what others did since a seat's last reply, by sums over what led there and over all
pub others_total_since_reply : (number : ℕ) (summand : Effect → ℕ) (history : List Entry)
    → total_but number summand (since_reply number history) + total_of number summand history + total summand (up_to_reply number history) ≡ total summand history + total_of number summand (up_to_reply number history)
others_total_since_reply number summand history =
    let all = sum_of_window_sections (is_reply_to number) (λ e. summand (effect_of e)) history in
    let own = sum_of_window_sections (is_reply_to number) (λ e. cond (is_of number e) (summand (effect_of e)) 0) history in
    omega (arith, all, own, total_is_own_and_others number summand (since_reply number history))

-- what all did since
pub total_since_reply : (number : ℕ) (summand : Effect → ℕ) (history : List Entry) → total summand (since_reply number history) + total summand (up_to_reply number history) ≡ total summand history
total_since_reply number summand history = let all = sum_of_window_sections (is_reply_to number) (λ e. summand (effect_of e)) history in omega (arith, all)

or-false : (b : Bool) → (b || false) ≡ b
or-false true = refl
or-false false = refl

-- an entry of the history passes the test, or the one more does
pub any_with_entry_more : (test : Entry → Bool) (history : List Entry) (entry : Entry) → list_any test (history ++ entry ∷ []) ≡ (list_any test history || test entry)
any_with_entry_more test history entry = list_any-append test history (entry ∷ []) ∙ ap (λ b. list_any test history || b) (or-false (test entry))

-- a history with one more entry, which passes the test
pub up_to_last-yes : (test : Entry → Bool) (history : List Entry) (entry : Entry) → test entry ≡ true → up_to_last test (history ++ entry ∷ []) ≡ history ++ entry ∷ []
up_to_last-yes test [] entry fits = cond-true (list_any test (entry ∷ [])) (entry ∷ []) [] (any_with_entry_more test [] entry ∙ fits)
up_to_last-yes test (first ∷ history) entry fits =
    cond-true _ _ [] (any_with_entry_more test (first ∷ history) entry ∙ or_right _ _ fits) ∙ ap (λ es. first ∷ es) (up_to_last-yes test history entry fits)

pub after_last-yes : (test : Entry → Bool) (history : List Entry) (entry : Entry) → test entry ≡ true → after_last test (history ++ entry ∷ []) ≡ []
after_last-yes test [] entry fits = cond-true (list_any test (entry ∷ [])) [] (entry ∷ []) (any_with_entry_more test [] entry ∙ fits)
after_last-yes test (first ∷ history) entry fits =
    cond-true _ _ _ (any_with_entry_more test (first ∷ history) entry ∙ or_right _ _ fits) ∙ after_last-yes test history entry fits

-- one that doesn't
pub up_to_last-no : (test : Entry → Bool) (history : List Entry) (entry : Entry) → test entry ≡ false → up_to_last test (history ++ entry ∷ []) ≡ up_to_last test history
up_to_last-no test [] entry fails = cond-false (list_any test (entry ∷ [])) (entry ∷ []) [] (any_with_entry_more test [] entry ∙ fails)
up_to_last-no test (first ∷ history) entry fails =
    ap (λ es. cond (list_any test (first ∷ history ++ entry ∷ [])) (first ∷ es) []) (up_to_last-no test history entry fails)
    ∙ ap (λ b. cond b (first ∷ up_to_last test history) []) (any_with_entry_more test (first ∷ history) entry ∙ ap (λ b. list_any test (first ∷ history) || b) fails ∙ or-false _)

pub after_last-no : (test : Entry → Bool) (history : List Entry) (entry : Entry) → test entry ≡ false → after_last test (history ++ entry ∷ []) ≡ after_last test history ++ entry ∷ []
after_last-no test [] entry fails = cond-false (list_any test (entry ∷ [])) [] (entry ∷ []) (any_with_entry_more test [] entry ∙ fails)
after_last-no test (first ∷ history) entry fails =
    ap (λ es. cond (list_any test (first ∷ history ++ entry ∷ [])) es (first ∷ history ++ entry ∷ [])) (after_last-no test history entry fails)
    ∙ ap (λ b. cond b (after_last test history ++ entry ∷ []) (first ∷ history ++ entry ∷ [])) (any_with_entry_more test (first ∷ history) entry ∙ ap (λ b. list_any test (first ∷ history) || b) fails ∙ or-false _)
    ∙ either (list_any test (first ∷ history))
  where
    either : (b : Bool) → cond b (after_last test history ++ entry ∷ []) (first ∷ history ++ entry ∷ []) ≡ cond b (after_last test history) (first ∷ history) ++ entry ∷ []
    either true = refl
    either false = refl
