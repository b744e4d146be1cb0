-- The text of a plan, part by part.
use Rattle.std.proofs.Common.{◌≡◌, ◌∙◌, ℕ, List, [], ◌∷◌, ◌++◌, append_assoc, ap, sym}
use Rattle.std.proofs.lemmas.List.Concat.{flat_map-append}
use Rattle.script_text.specs.Text.{text_of}

-- two lines, and then two lists of lines, that are written one after the other
pub written_plan_is_whole : (head heap : List ℕ) (cycles totals : List (List ℕ)) (first second third fourth : List ℕ) →
    first ≡ head ++ 10 ∷ [] → second ≡ first ++ (heap ++ 10 ∷ []) → third ≡ second ++ text_of cycles → fourth ≡ third ++ text_of totals →
    fourth ≡ text_of (head ∷ heap ∷ cycles ++ totals)
written_plan_is_whole head heap cycles totals first second third fourth e f g h =
    let line : List ℕ → List ℕ = λ line. line ++ 10 ∷ [] in
    let joined : fourth ≡ ((line head ++ line heap) ++ text_of cycles) ++ text_of totals = cc in
    joined
    ∙ append_assoc (line head ++ line heap) (text_of cycles) (text_of totals)
    ∙ append_assoc (line head) (line heap) (text_of cycles ++ text_of totals)
    ∙ ap (λ (rest : List ℕ). line head ++ (line heap ++ rest)) (sym (flat_map-append line cycles totals))
