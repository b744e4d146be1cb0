-- A teller goes on by one entry.
use Rattle.std.proofs.Common.{◌≡◌, ℕ, List, [], ◌∷◌, ◌++◌, Some, sym, ap, ◌∙◌}
use Rattle.std.proofs.lemmas.List.{append_assoc, append-nil}
use Rattle.heap_model.specs.declared.entry.Entry.{Entry}
use Rattle.heap_model.specs.graph.Graph.{Graph}
use Rattle.heap_model.specs.graph.Growth.{after_entry}
use Rattle.heap_queue.specs.declared.told.ToldCall.{ToldCall}
use Rattle.heap_queue.specs.Effects.{Effect, Places, effects_at, effects_from, moved}
use Rattle.heap_queue.specs.Telling.{effects_in, effects_told, told_at, told_from}

-- places that are the same for each seat are the same
pub same_places : (one other : Places) → ((number : ℕ) → one number ≡ other number) → one ≡ other
same_places one other each = λ i number. each number i

-- what was told and what the rest tells stay the same together
pub told_goes_on : (calls new : List ToldCall) (g after : Graph) (place then : Places) (entry : Entry) (rest : List Entry) (all : List ToldCall) → new ≡ calls ++ told_at g place entry → after ≡ after_entry g entry
    → ((number : ℕ) → then number ≡ moved place entry number) → calls ++ told_from g place (entry ∷ rest) ≡ all → new ++ told_from after then rest ≡ all
told_goes_on calls new g after place then entry rest all more grown each before =
    ap (λ (l : List ToldCall). l ++ told_from after then rest) more
    ∙ append_assoc calls (told_at g place entry) (told_from after then rest)
    ∙ ap (λ (h : Graph). calls ++ (told_at g place entry ++ told_from h then rest)) grown
    ∙ ap (λ (p : Places). calls ++ (told_at g place entry ++ told_from (after_entry g entry) p rest)) (same_places then (moved place entry) each)
    ∙ before

-- what one more does is done behind the others
pub effects_in_more : (calls : List ToldCall) (call : ToldCall) → effects_in (calls ++ call ∷ []) ≡ effects_in calls ++ effects_told (Some call.told)
effects_in_more [] call = append-nil (effects_told (Some call.told))
effects_in_more (first ∷ calls) call =
    ap (λ (l : List Effect). effects_told (Some first.told) ++ l) (effects_in_more calls call)
    ∙ sym (append_assoc (effects_told (Some first.told)) (effects_in calls) (effects_told (Some call.told)))

-- so it is with what is done
pub done_goes_on : (done more : List Effect) (g after : Graph) (place then : Places) (entry : Entry) (rest : List Entry) (all : List Effect) → more ≡ done ++ effects_at g place entry → after ≡ after_entry g entry
    → ((number : ℕ) → then number ≡ moved place entry number) → done ++ effects_from g place (entry ∷ rest) ≡ all → more ++ effects_from after then rest ≡ all
done_goes_on done more g after place then entry rest all is grown each before =
    ap (λ (l : List Effect). l ++ effects_from after then rest) is
    ∙ append_assoc done (effects_at g place entry) (effects_from after then rest)
    ∙ ap (λ (h : Graph). done ++ (effects_at g place entry ++ effects_from h then rest)) grown
    ∙ ap (λ (p : Places). done ++ (effects_at g place entry ++ effects_from (after_entry g entry) p rest)) (same_places then (moved place entry) each)
    ∙ before
