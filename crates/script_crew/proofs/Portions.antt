-- Scripts of positions are joined, and portions of positions grow.
use Rattle.std.proofs.Common.{◌≡◌, ℕ, zero, suc, ◌<◌, List, [], ◌∷◌, ◌++◌, length, map, get_or, set, refl, sym, ap, ◌∙◌, subst, append_assoc, append-nil, arith}
use Rattle.std.specs.Prelude.{sum_by}
use Rattle.std.specs.List.{AllZip, concat}
use Rattle.std.proofs.lemmas.List.{get_or-map, flat_map_more}
use Rattle.std.proofs.lemmas.List.Concat.{length-flat_map}
use Rattle.std.proofs.lemmas.List.Sums.{sum_by-append}
use Rattle.std.proofs.lemmas.Grind.{flat_map-append}
use Rattle.heap_model.specs.declared.command.Command.{Command}
use Rattle.heap_model.specs.declared.command.Command.TheVariants.{Leave}
use Rattle.heap_table.specs.SeatHeld.{SeatHeld}
use Rattle.heap_runs.specs.SeatWork.{HasMade, HasWorked}
use Rattle.heap_runs.proofs.CommandsOn.{made_then}
use Rattle.script_crew.specs.declared.job.Job.{Job}
use Rattle.script_crew.specs.Jobs.{calls_at, script_at, script_of_run, scripts_at}
use Rattle.script_crew.specs.Leaving.{HasLeft, HaveLeft}
use Rattle.script_crew.specs.Portions.{SeatBySeat, HaveMadeScripts, HaveMadeScriptsAndLeft}

-- the script at a position is that of the job there
pub script_here : (jobs : List Job) (position : ℕ) (job : Job) → position < length jobs → job ≡ get_or jobs position job → script_of_run job ≡ script_at jobs position
script_here jobs position job within is = ap script_of_run is ∙ sym (get_or-map script_of_run jobs position job [] within)

-- joined scripts have the calls of each
pub length_of_scripts : (jobs : List Job) (positions : List ℕ) → length (scripts_at jobs positions) ≡ sum_by (calls_at jobs) positions
length_of_scripts jobs positions = length-flat_map (script_at jobs) positions

-- one position more
pub scripts_more : (jobs : List Job) (positions : List ℕ) (position : ℕ) → scripts_at jobs positions ++ script_at jobs position ≡ scripts_at jobs (positions ++ position ∷ [])
scripts_more jobs positions position = flat_map_more (script_at jobs) [] positions position

-- some positions more
scripts_both : (jobs : List Job) (positions more : List ℕ) → scripts_at jobs positions ++ scripts_at jobs more ≡ scripts_at jobs (positions ++ more)
scripts_both jobs positions more = sym (flat_map-append (script_at jobs) positions more)

-- one portion more
pub concat_push : (portions : List (List ℕ)) (portion : List ℕ) → concat (portions ++ portion ∷ []) ≡ concat portions ++ portion
concat_push [] portion = append-nil portion
concat_push (one ∷ portions) portion = ap (λ xs. one ++ xs) (concat_push portions portion) ∙ sym (append_assoc one (concat portions) portion)

-- one seat more
pub seat_by_seat_push : (R : SeatHeld → List ℕ → SeatHeld → Type 0) (olds : List SeatHeld) (portions : List (List ℕ)) (news : List SeatHeld) (old : SeatHeld) (portion : List ℕ) (new : SeatHeld)
    → SeatBySeat R olds portions news → R old portion new → SeatBySeat R (olds ++ old ∷ []) (portions ++ portion ∷ []) (news ++ new ∷ [])
seat_by_seat_push R [] [] [] old portion new all one = (one, tt)
seat_by_seat_push R (x ∷ xs) (p ∷ ps) (y ∷ ys) old portion new all one = (all.0, seat_by_seat_push R xs ps ys old portion new all.1 one)
seat_by_seat_push R [] [] (y ∷ ys) old portion new all one = absurd all
seat_by_seat_push R [] (p ∷ ps) news old portion new all one = absurd all
seat_by_seat_push R (x ∷ xs) [] news old portion new all one = absurd all
seat_by_seat_push R (x ∷ xs) (p ∷ ps) [] old portion new all one = absurd all

-- the first portion, with these positions behind it
abbrev pub first_with : List ℕ → List (List ℕ) → List (List ℕ)
first_with more [] = []
first_with more (portion ∷ portions) = (portion ++ more) ∷ portions

-- by every measure there is as much more
pub sum_first_with : (measure : ℕ → ℕ) (more : List ℕ) (portions : List (List ℕ)) → 0 < length portions → sum_by measure (concat (first_with more portions)) ≡ sum_by measure (concat portions ++ more)
sum_first_with measure more [] some = absurd (omega (arith, some))
sum_first_with measure more (portion ∷ portions) some = omega (
  arith,
  sum_by-append measure (portion ++ more) (concat portions),
  sum_by-append measure portion more,
  sum_by-append measure (portion ++ concat portions) more,
  sum_by-append measure portion (concat portions),
)

-- there are as many portions as seats
pub as_many_portions : (R : SeatHeld → List ℕ → SeatHeld → Type 0) (olds : List SeatHeld) (portions : List (List ℕ)) (news : List SeatHeld) → SeatBySeat R olds portions news → length portions ≡ length news
as_many_portions R [] [] [] all = refl
as_many_portions R (x ∷ xs) (p ∷ ps) (y ∷ ys) all = ap suc (as_many_portions R xs ps ys all.1)
as_many_portions R [] [] (y ∷ ys) all = absurd all
as_many_portions R [] (p ∷ ps) news all = absurd all
as_many_portions R (x ∷ xs) [] news all = absurd all
as_many_portions R (x ∷ xs) (p ∷ ps) [] all = absurd all

-- the first seat has made the scripts of some positions more
pub first_made_more : (jobs : List Job) (olds : List SeatHeld) (portions : List (List ℕ)) (news : List SeatHeld) (more : List ℕ) (before after : SeatHeld) → HaveMadeScripts jobs olds portions news
    → before ≡ get_or news 0 before → HasMade 1 before after (scripts_at jobs more) → HaveMadeScripts jobs olds (first_with more portions) (set news 0 after)
first_made_more jobs [] [] [] more before after all is made = tt
first_made_more jobs (x ∷ xs) (p ∷ ps) (y ∷ ys) more before after all is made = (
  subst (HasMade 1 x after) (scripts_both jobs p more) (made_then 1 x before after (scripts_at jobs p) (scripts_at jobs more) (subst (λ seat. HasMade 1 x seat (scripts_at jobs p)) (sym is) all.0) made),
  all.1,
)
first_made_more jobs [] [] (y ∷ ys) more before after all is made = absurd all
first_made_more jobs [] (p ∷ ps) news more before after all is made = absurd all
first_made_more jobs (x ∷ xs) [] news more before after all is made = absurd all
first_made_more jobs (x ∷ xs) (p ∷ ps) [] more before after all is made = absurd all

-- where each seat has made its scripts and then left, it has made these and a leave
pub then_left : (jobs : List Job) (olds : List SeatHeld) (portions : List (List ℕ)) (news gone : List SeatHeld) → HaveMadeScripts jobs olds portions news → HaveLeft news gone → HaveMadeScriptsAndLeft jobs olds portions gone
then_left jobs [] [] [] [] all left = tt
then_left jobs (x ∷ xs) (p ∷ ps) (y ∷ ys) (z ∷ zs) all left = (
  record { made = made_then 1 x y z (scripts_at jobs p) (Leave ∷ []) all.0 left.0.made; left = left.0.left },
  then_left jobs xs ps ys zs all.1 left.1,
)
then_left jobs [] [] [] (z ∷ zs) all left = absurd left
then_left jobs [] [] (y ∷ ys) gone all left = absurd all
then_left jobs [] (p ∷ ps) news gone all left = absurd all
then_left jobs (x ∷ xs) [] news gone all left = absurd all
then_left jobs (x ∷ xs) (p ∷ ps) [] gone all left = absurd all
then_left jobs (x ∷ xs) (p ∷ ps) (y ∷ ys) [] all left = absurd left
