-- What is true of all of a list is true of its last element and of those before it.
use Rattle.std.proofs.Common.{◌≡◌, List, [], ◌∷◌, ◌++◌, All, subst}
use Rattle.std.proofs.lemmas.List.Elements.{All-cons, All-head, All-nil, All-tail}

pub all_of_popped_list : {A : Type 0} (P : A → Type 0) (front : List A) (last : A) → All P (front ++ last ∷ []) → All P front × P last
all_of_popped_list P [] last all = (All-nil P, All-head P last [] all)
all_of_popped_list P (x ∷ front) last all =
    let rest = all_of_popped_list P front last (All-tail P x (front ++ last ∷ []) all) in
    (All-cons P x front (All-head P x (front ++ last ∷ []) all) rest.0, rest.1)

-- and of its last two
pub all_of_last_two : {A : Type 0} (P : A → Type 0) (whole front rest : List A) (first last : A) → whole ≡ front ++ last ∷ [] → front ≡ rest ++ first ∷ [] → All P whole → P first × P last
all_of_last_two P whole front rest first last popped again all =
    let parted = all_of_popped_list P front last (subst (All P) popped all) in ((all_of_popped_list P rest first (subst (All P) again parted.0)).1, parted.1)
