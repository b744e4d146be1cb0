-- The last entry of a history that passes a test, where one does.
use Rattle.std.proofs.Common.{◌≡◌, Bool, true, false, List, [], ◌∷◌, ◌++◌, inl, inr, append_assoc, refl, sym, ap, ◌∙◌, arith}
use Rattle.std.specs.List.{list_any}
use Rattle.std.proofs.lemmas.Bool.{cases_Bool, cond-true, cond-false}
use Rattle.heap_model.specs.declared.entry.Entry.{Entry}
use Rattle.heap_model.specs.account.Windows.{up_to_last, after_last}
use Rattle.heap_model.proofs.account_lemmas.Windows.{window_sections_make_whole}

-- where no entry passes the test, all entries stand after the last that does
pub no_last : (test : Entry → Bool) (history : List Entry) → list_any test history ≡ false → (up_to_last test history ≡ []) × (after_last test history ≡ history)
no_last test [] none = (refl, refl)
no_last test (x ∷ xs) none = (cond-false _ (x ∷ up_to_last test xs) [] none, cond-false _ (after_last test xs) (x ∷ xs) none)

-- the last entry that passes the test, and those before it
pub record HasLast (test : Entry → Bool) (history : List Entry) : Type 0 where
  pub front : List Entry
  pub entry : Entry
  pub passes : test entry ≡ true
  pub is : up_to_last test history ≡ front ++ entry ∷ []

-- where some entry passes the test there is a last one
pub has_last : (test : Entry → Bool) (history : List Entry) → list_any test history ≡ true → HasLast test history
has_last test [] any = absurd (cc any)
has_last test (x ∷ xs) any = elim (cases_Bool (list_any test xs)) [
  | inl later ↦ (let rest = has_last test xs later in record {
    front = x ∷ rest.front;
    entry = rest.entry;
    passes = rest.passes;
    is = cond-true _ (x ∷ up_to_last test xs) [] any ∙ ap (λ es. x ∷ es) rest.is;
  })
  | inr none ↦ record {
    front = [];
    entry = x;
    passes = here (test x) none any;
    is = cond-true _ (x ∷ up_to_last test xs) [] any ∙ ap (λ es. x ∷ es) (no_last test xs none).0;
  }
]
  where
    here : (b : Bool) → list_any test xs ≡ false → list_any test (x ∷ xs) ≡ true → test x ≡ true
    here b none any = grind (arith, none, any)

-- the history is the entries before that one, it, and those after it
pub parted_at_last : (test : Entry → Bool) (history : List Entry) (last : HasLast test history) → history ≡ last.front ++ last.entry ∷ after_last test history
parted_at_last test history last =
    sym (window_sections_make_whole test history) ∙ ap (λ es. es ++ after_last test history) last.is ∙ append_assoc last.front (last.entry ∷ []) (after_last test history)
