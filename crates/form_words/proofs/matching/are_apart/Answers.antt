use Rattle.std.proofs.Common.{◌≡◌, ◌&&◌, ℕ, Bor, List, [], ◌∷◌, map, not, refl, ap, ◌∙◌, rules, tests}
use Rattle.std.specs.List.{list_all}
use Rattle.std.proofs.lemmas.Iterator.{YieldsList-from_slice}
use Rattle.std.proofs.lemmas.Iterator.Search.{all_from_yields_List}
use Rattle.form_words.specs.Joined.{are_apart, is_joined}
use Rattle.form_words.proofs.matching.are_apart.Goals as goal

apart_behind : (words : List (Bor (List ℕ))) → list_all (λ (w : Bor (List ℕ)). not (is_joined w.now)) words ≡ are_apart (map (λ (w : Bor (List ℕ)). w.now) words)
apart_behind [] = refl
apart_behind (w ∷ ws) = ap (λ b. not (is_joined w.now) && b) (apart_behind ws)

pub returns : goal.returns
returns c =
    let xs = c.args.words.now in
    all_from_yields_List (λ (w : Bor (List ℕ)). not (is_joined w.now)) _ _ c.all.result c.all.ensures.ran (YieldsList-from_slice xs cc) (λ x b q k. search (rules, tests)) ∙ apart_behind xs
