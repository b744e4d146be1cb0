-- Who has left stays so, and the begin of the last cycle comes behind what was told before it.
use Rattle.std.proofs.Common.{◌≡◌, ℕ, Bool, true, List, [], ◌∷◌, ◌++◌, refl, ap, ◌∙◌}
use Rattle.std.specs.List.{list_any}
use Rattle.std.proofs.lemmas.Bool.{cond-true, or_right, or_left}
use Rattle.std.proofs.lemmas.List.Folds.{list_any-append}
use Rattle.core_rule.proofs.Terms.{Entry, has_left, is_leave_of, up_to_last}

-- who has left stays so
pub left_stays_left : (number : ℕ) (front behind : List Entry) → has_left number front ≡ true → has_left number (front ++ behind) ≡ true
left_stays_left number front behind left = list_any-append (is_leave_of number) front behind ∙ or_left _ _ left

-- up to the last entry that passes a test, which is one of the later ones
pub up_to_last_in_later : (test : Entry → Bool) (front behind : List Entry) → list_any test behind ≡ true → up_to_last test (front ++ behind) ≡ front ++ up_to_last test behind
up_to_last_in_later test [] behind some = refl
up_to_last_in_later test (entry ∷ front) behind some =
    cond-true _ _ [] (list_any-append test (entry ∷ front) behind ∙ or_right _ _ some) ∙ ap (λ es. entry ∷ es) (up_to_last_in_later test front behind some)
