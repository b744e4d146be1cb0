-- The text of a brief, line by line.
use Rattle.std.proofs.Common.{◌≡◌, ◌∙◌, ℕ, List, [], ◌∷◌, ◌++◌, ap, refl, sym}
use Rattle.std.proofs.lemmas.List.{append-nil}
use Rattle.std.proofs.lemmas.List.Concat.{flat_map-append}
use Rattle.script_text.specs.Text.{text_of}

-- some lines behind others
lines_more : (lines more : List (List ℕ)) (text after : List ℕ) → text ≡ text_of lines → after ≡ text ++ text_of more → after ≡ text_of (lines ++ more)
lines_more lines more text after e f = f ∙ ap (λ t. t ++ text_of more) e ∙ sym (flat_map-append (λ line. line ++ 10 ∷ []) lines more)

-- one line behind others
line_more : (lines : List (List ℕ)) (line text after : List ℕ) → text ≡ text_of lines → after ≡ text ++ (line ++ 10 ∷ []) → after ≡ text_of (lines ++ line ∷ [])
line_more lines line text after e f = lines_more lines (line ∷ []) text after e (f ∙ ap (λ (l : List ℕ). text ++ l) (sym (append-nil (line ++ 10 ∷ []))))

-- six parts that are written one after the other
pub written_brief_is_whole : (head heap commands work end : List ℕ) (marks : List (List ℕ)) (first second third fourth fifth sixth : List ℕ) →
    first ≡ head ++ 10 ∷ [] → second ≡ first ++ (heap ++ 10 ∷ []) → third ≡ second ++ (commands ++ 10 ∷ []) → fourth ≡ third ++ (work ++ 10 ∷ []) →
    fifth ≡ fourth ++ text_of marks → sixth ≡ fifth ++ (end ++ 10 ∷ []) → sixth ≡ text_of (head ∷ heap ∷ commands ∷ work ∷ marks ++ end ∷ [])
written_brief_is_whole head heap commands work end marks first second third fourth fifth sixth e f g h i j =
    let one : first ≡ text_of (head ∷ []) = line_more [] head [] first refl e in
    let two : second ≡ text_of (head ∷ heap ∷ []) = line_more (head ∷ []) heap first second one f in
    let three : third ≡ text_of (head ∷ heap ∷ commands ∷ []) = line_more (head ∷ heap ∷ []) commands second third two g in
    let four : fourth ≡ text_of (head ∷ heap ∷ commands ∷ work ∷ []) = line_more (head ∷ heap ∷ commands ∷ []) work third fourth three h in
    let five : fifth ≡ text_of (head ∷ heap ∷ commands ∷ work ∷ marks) = lines_more (head ∷ heap ∷ commands ∷ work ∷ []) marks fourth fifth four i in
    line_more (head ∷ heap ∷ commands ∷ work ∷ marks) end fifth sixth five j
