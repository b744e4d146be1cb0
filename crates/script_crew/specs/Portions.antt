-- Which positions each seat of a crew has taken, and what it has made of them.
use Rattle.std.specs.Prelude.{ℕ, List, [], ◌∷◌, IsPermutation}
use Rattle.std.specs.List.{concat}
use Rattle.heap_table.specs.SeatHeld.{SeatHeld}
use Rattle.heap_runs.specs.SeatWork.{HasMade, HasWorked}
use Rattle.script_crew.specs.declared.job.Job.{Job}
use Rattle.script_crew.specs.Jobs.{positions_of, scripts_at}

-- place by place, this is so of a seat, of its positions, and of the seat as it is then
abbrev pub SeatBySeat : (SeatHeld → List ℕ → SeatHeld → Type 0) → List SeatHeld → List (List ℕ) → List SeatHeld → Type 0
SeatBySeat R [] [] [] = Unit {0}
SeatBySeat R (old ∷ olds) (portion ∷ portions) (new ∷ news) = R old portion new × SeatBySeat R olds portions news
SeatBySeat R olds portions news = ⊥

-- each seat has made the scripts of its positions, joined, and no other command
abbrev pub HaveMadeScripts : List Job → List SeatHeld → List (List ℕ) → List SeatHeld → Type 0
HaveMadeScripts jobs olds portions news = SeatBySeat (λ old portion new. HasMade 1 old new (scripts_at jobs portion)) olds portions news

-- each seat has made the scripts of its positions, joined, then a leave, and no other command
abbrev pub HaveMadeScriptsAndLeft : List Job → List SeatHeld → List (List ℕ) → List SeatHeld → Type 0
HaveMadeScriptsAndLeft jobs olds portions news = SeatBySeat (λ old portion new. HasWorked 1 old (scripts_at jobs portion) new) olds portions news

-- the positions of all seats together are those of the jobs, each once
abbrev pub ArePortionsOf : List Job → List (List ℕ) → Type 0
ArePortionsOf jobs portions = IsPermutation (positions_of jobs) (concat portions)
