-- Words that begin with the word of a form and don't go on as it does are no form.
use Rattle.std.proofs.Common.{◌≡◌, ℕ, Bool, Bor, List, [], ◌∷◌, length, map, Option, Some, None, refl, sym, ap, ◌∙◌, subst}
use Rattle.std.specs.Prelude.{codes, IfNone, IfSome}
use Rattle.form_words.specs.declared.kind.TextKind.{TextKind}
use Rattle.form_words.specs.declared.pace.PaceName.{PaceName}
use Rattle.form_words.specs.declared.work.Work.{Work}
use Rattle.form_words.specs.declared.work.Work.TheVariants.{Play, Run, Make, Migrate, Crew}
use Rattle.form_words.specs.Works.{form_word, AskFor, Completes, IsForm, IsWork}
use Rattle.form_words.proofs.AskedWork.{completed_work_is_in_range, work_of, work_of-asked}

-- words that are a form go on as the form of their first word does
goes_on : (form : List ℕ) (rest : List (List ℕ)) (work other : Work) → AskFor (form ∷ rest) work → work_of (form ∷ rest) ≡ Some other → Completes rest other
goes_on form rest work other asked told =
    let found = work_of-asked (form ∷ rest) work asked in
    let same : work ≡ other = cc in
    let begun : form ∷ rest ≡ form_word work ∷ asked.rest = asked.begins in
    let behind : asked.rest ≡ rest = cc in
    subst (Completes rest) same (subst (λ words. Completes words work) behind asked.completes)

-- so the words are no form where they don't
no_form : (form : List ℕ) (words rest : List (List ℕ)) (other : Work) → words ≡ form ∷ rest → work_of (form ∷ rest) ≡ Some other → ¬ Completes rest other → ¬ IsForm words
no_form form words rest other begins told none (work, asked) = none (goes_on form rest work other (subst (λ ws. AskFor ws work) begins asked) told)

pub none_found_no_play : (words rest : List (List ℕ)) (found : Option Work) → words ≡ codes "play" ∷ rest → IfNone found ((pace : Option PaceName) (brief press : Bool) → ¬ Completes rest (Play pace brief press)) → IfNone found (¬ IsForm words)
none_found_no_play words rest None begins none = no_form (codes "play") words rest _ begins refl (none _ _ _)
none_found_no_play words rest (Some work) begins none = tt

pub none_found_no_run : (words rest : List (List ℕ)) (found : Option Work) → words ≡ codes "run" ∷ rest → IfNone found ((pace : PaceName) (locked : Bool) (patience : ℕ) → ¬ Completes rest (Run pace locked patience)) → IfNone found (¬ IsForm words)
none_found_no_run words rest None begins none = no_form (codes "run") words rest _ begins refl (none _ _ _)
none_found_no_run words rest (Some work) begins none = tt

pub none_found_no_making : (words rest : List (List ℕ)) (found : Option Work) → words ≡ codes "make" ∷ rest → IfNone found ((start seats lines : ℕ) → ¬ Completes rest (Make start seats lines)) → IfNone found (¬ IsForm words)
none_found_no_making words rest None begins none = no_form (codes "make") words rest _ begins refl (none _ _ _)
none_found_no_making words rest (Some work) begins none = tt

pub none_found_no_migration : (words rest : List (List ℕ)) (found : Option Work) → words ≡ codes "migrate" ∷ rest → IfNone found ((kind : TextKind) → ¬ Completes rest (Migrate kind)) → IfNone found (¬ IsForm words)
none_found_no_migration words rest None begins none = no_form (codes "migrate") words rest _ begins refl (none _)
none_found_no_migration words rest (Some work) begins none = tt

pub none_found_no_crew : (words rest : List (List ℕ)) (found : Option Work) → words ≡ codes "crew" ∷ rest → IfNone found ((history : Bool) → ¬ Completes rest (Crew history)) → IfNone found (¬ IsForm words)
none_found_no_crew words rest None begins none = no_form (codes "crew") words rest _ begins refl (none _)
none_found_no_crew words rest (Some work) begins none = tt

-- what was found has its numbers in their ranges
pub found_work_is_in_range : (form : List ℕ) (rest : List (List ℕ)) (found : Option Work) → IfSome found (λ work. (form_word work ≡ form) × Completes rest work) → IfSome found IsWork
found_work_is_in_range form rest None is = tt
found_work_is_in_range form rest (Some work) is = completed_work_is_in_range rest work is.1

-- and the words ask for it
pub found_work_is_asked : (form : List ℕ) (words rest : List (List ℕ)) (found : Option Work) → words ≡ form ∷ rest → IfSome found (λ work. (form_word work ≡ form) × Completes rest work) → IfSome found (AskFor words)
found_work_is_asked form words rest None begins is = tt
found_work_is_asked form words rest (Some work) begins is = record { rest = rest; begins = begins ∙ ap (λ word. word ∷ rest) (sym is.0); completes = is.1 }

-- words that begin with no form's word are no form
pub no_word_no_form : (words : List (List ℕ)) (first : List ℕ) (rest : List (List ℕ)) → words ≡ first ∷ rest → ((work : Work) → ¬ (first ≡ form_word work)) → ¬ IsForm words
no_word_no_form words first rest begins none (work, asked) =
    let begun : words ≡ form_word work ∷ asked.rest = asked.begins in
    let same : first ≡ form_word work = cc in
    none work same

-- what the words say
abbrev pub said : List (Bor (List ℕ)) → List (List ℕ)
said words = map (λ (word : Bor (List ℕ)). word.now) words

-- no words are no form
pub no_words_no_form : (words : List (Bor (List ℕ))) → length words ≡ 0 → ¬ IsForm (said words)
no_words_no_form [] none (work, asked) =
    let begun : [] ≡ form_word work ∷ asked.rest = asked.begins in
    cc
no_words_no_form (word ∷ words) none form = cc

-- words of which the first says the form's word begin with it
pub said_begins : (words : List (Bor (List ℕ))) (first : Bor (List ℕ)) (rest : List (Bor (List ℕ))) (form : List ℕ) → words ≡ first ∷ rest → first.now ≡ form → said words ≡ form ∷ said rest
said_begins words first rest form parts is = ap said parts ∙ ap (λ word. word ∷ said rest) is

-- a work that no words stand behind
module _ (work : Work) (rest : List (Bor (List ℕ))) where
  pub found_alone_completes : (found : Option Work) → ((rest : List (List ℕ)) → rest ≡ [] → Completes rest work) → IfSome found (λ one. (one ≡ work) × (rest ≡ [])) → IfSome found (λ one. (form_word one ≡ form_word work) × Completes (said rest) one)
  found_alone_completes None completes is = tt
  found_alone_completes (Some one) completes is = (ap form_word is.0, subst (Completes (said rest)) (sym is.0) (completes (said rest) (ap said is.1)))

  pub none_found_not_alone : (words : List (List ℕ)) (found : Option Work) → words ≡ form_word work ∷ said rest → work_of (form_word work ∷ said rest) ≡ Some work → (Completes (said rest) work → said rest ≡ []) → IfNone found (¬ (rest ≡ [])) → IfNone found (¬ IsForm words)
  none_found_not_alone words (Some one) begins told only none = tt
  none_found_not_alone words None begins told only none = no_form (form_word work) words (said rest) work begins told (λ completes. none (empty rest (only completes))) where
    empty : (rest : List (Bor (List ℕ))) → said rest ≡ [] → rest ≡ []
    empty [] is = refl
    empty (word ∷ words) is = cc
