-- What is written of a crew, word by word and line by line.
use Rattle.std.proofs.Common.{◌≡◌, ◌∙◌, ◌⊎◌, inl, inr, ℕ, List, [], ◌∷◌, ◌++◌, length, ap, refl, sym, append_assoc, arith}
use Rattle.std.proofs.lemmas.List.{append-nil}
use Rattle.std.proofs.lemmas.List.Concat.{flat_map-append}
use Rattle.heap_model.specs.declared.entry.Entry.{Entry}
use Rattle.script_text.specs.Text.{text_of}
use Rattle.script_crew.specs.declared.job.Job.{Job}
use Rattle.script_crew.specs.declared.job.JobRun.{JobRun}
use Rattle.script_crew.specs.Telling.{run_lines}
use Rattle.script_text.proofs.Sentences.{sentence-cons}

pub ruleset spelling = (sentence-cons)

-- two lines, some lines, and a last one, written one after the other
pub written_crew_is_whole : (head heap last : List ℕ) (runs : List (List ℕ)) (first second third fourth : List ℕ) →
    first ≡ head ++ 10 ∷ [] → second ≡ first ++ (heap ++ 10 ∷ []) → third ≡ second ++ text_of runs → fourth ≡ third ++ (last ++ 10 ∷ []) →
    fourth ≡ text_of (head ∷ heap ∷ runs ++ last ∷ [])
written_crew_is_whole head heap last runs first second third fourth e f g h =
    let end : text_of runs ++ (last ++ 10 ∷ []) ≡ text_of (runs ++ last ∷ []) =
    ap (λ (l : List ℕ). text_of runs ++ l) (sym (append-nil (last ++ 10 ∷ []))) ∙ sym (flat_map-append (λ line. line ++ 10 ∷ []) runs (last ∷ [])) in
    h ∙ ap (λ (t : List ℕ). t ++ (last ++ 10 ∷ [])) (g ∙ ap (λ (t : List ℕ). t ++ text_of runs) (f ∙ ap (λ (t : List ℕ). t ++ (heap ++ 10 ∷ [])) e))
    ∙ append_assoc ((head ++ 10 ∷ []) ++ (heap ++ 10 ∷ [])) (text_of runs) (last ++ 10 ∷ [])
    ∙ append_assoc (head ++ 10 ∷ []) (heap ++ 10 ∷ []) (text_of runs ++ (last ++ 10 ∷ []))
    ∙ ap (λ (t : List ℕ). (head ++ 10 ∷ []) ++ ((heap ++ 10 ∷ []) ++ t)) end

-- where no job or no run is left, no line is
pub no_line_left : (logs : List (List Entry)) (jobs : List Job) (runs : List JobRun) → (length jobs ≡ 0) ⊎ (length runs ≡ 0) → run_lines logs jobs runs ≡ []
no_line_left logs [] runs none = refl
no_line_left logs (job ∷ jobs) [] none = refl
no_line_left logs (job ∷ jobs) (run ∷ runs) (inl none) = absurd (omega (arith, none))
no_line_left logs (job ∷ jobs) (run ∷ runs) (inr none) = absurd (omega (arith, none))

-- of two things that hold with something more, one holds
pub one_side : {U V P Q : Type 0} {X : U → Type 0} {Y : V → Type 0} → ((u : U) × (P × X u)) ⊎ ((v : V) × (Q × Y v)) → P ⊎ Q
one_side (inl (u, (p, x))) = inl p
one_side (inr (v, (q, y))) = inr q
