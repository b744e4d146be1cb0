-- What is written of a queue, word by word and line by line.
use Rattle.std.proofs.Common.{◌≡◌, ◌∙◌, ℕ, List, [], ◌∷◌, ◌++◌, ap, sym, append_assoc}
use Rattle.std.proofs.lemmas.List.{append-nil}
use Rattle.std.proofs.lemmas.List.Concat.{flat_map-append}
use Rattle.script_text.specs.Text.{text_of, words_with_spaces}
use Rattle.script_text.proofs.Sentences.{sentence-cons}

pub ruleset spelling = (sentence-cons)

-- some words, and further words behind them
pub words_appended : (words more : List (List ℕ)) → words_with_spaces (words ++ more) ≡ words_with_spaces words ++ words_with_spaces more
words_appended words more = flat_map-append (λ (word : List ℕ). 32 ∷ word) words more

-- two lines, some lines, and two last ones, written one after the other
pub written_queue_is_whole : (head heap left last : List ℕ) (calls : List (List ℕ)) (first second third fourth fifth : List ℕ) → first ≡ head ++ 10 ∷ [] → second ≡ first ++ (heap ++ 10 ∷ []) → third ≡ second ++ text_of calls
    → fourth ≡ third ++ (left ++ 10 ∷ []) → fifth ≡ fourth ++ (last ++ 10 ∷ []) → fifth ≡ text_of (head ∷ heap ∷ calls ++ left ∷ last ∷ [])
written_queue_is_whole head heap left last calls first second third fourth fifth a b c d e =
    let ended : List ℕ → List ℕ = λ line. line ++ 10 ∷ [] in
    let end : (text_of calls ++ ended left) ++ ended last ≡ text_of (calls ++ left ∷ last ∷ []) =
    append_assoc (text_of calls) (ended left) (ended last)
    ∙ ap (λ (l : List ℕ). text_of calls ++ (ended left ++ l)) (sym (append-nil (ended last)))
    ∙ sym (flat_map-append ended calls (left ∷ last ∷ [])) in
    e ∙ ap (λ (t : List ℕ). t ++ ended last) (d ∙ ap (λ (t : List ℕ). t ++ ended left) (c ∙ ap (λ (t : List ℕ). t ++ text_of calls) (b ∙ ap (λ (t : List ℕ). t ++ ended heap) a))
    ∙ append_assoc (ended head ++ ended heap) (text_of calls) (ended left))
    ∙ append_assoc (ended head ++ ended heap) (text_of calls ++ ended left) (ended last)
    ∙ append_assoc (ended head) (ended heap) ((text_of calls ++ ended left) ++ ended last)
    ∙ ap (λ (t : List ℕ). ended head ++ (ended heap ++ t)) end

-- three lines, written one after the other
pub written_full_is_whole : (head heap last first second third : List ℕ) → first ≡ head ++ 10 ∷ [] → second ≡ first ++ (heap ++ 10 ∷ []) → third ≡ second ++ (last ++ 10 ∷ []) → third ≡ text_of (head ∷ heap ∷ last ∷ [])
written_full_is_whole head heap last first second third a b c =
    let ended : List ℕ → List ℕ = λ line. line ++ 10 ∷ [] in
    c ∙ ap (λ (t : List ℕ). t ++ ended last) (b ∙ ap (λ (t : List ℕ). t ++ ended heap) a)
    ∙ append_assoc (ended head) (ended heap) (ended last)
    ∙ ap (λ (t : List ℕ). ended head ++ (ended heap ++ t)) (sym (append-nil (ended last)))
