-- The rules of space and phases that each entry keeps. Sums are compared with sums, so that nothing is cut off at 0.
use Rattle.std.specs.Prelude.{ℕ, ◌+◌, ◌*◌, ◌≤◌, Bool, List, [], ◌∷◌, ◌++◌}
use Rattle.heap_model.specs.Limits.{group_fragments, most_reserve}
use Rattle.heap_model.specs.declared.heap.Heap.{Heap}
use Rattle.heap_model.specs.declared.command.Command.{Command}
use Rattle.heap_model.specs.declared.command.Command.TheVariants as commands
use Rattle.heap_model.specs.declared.entry.Entry.{Entry}
use Rattle.heap_model.specs.declared.entry.Entry.TheVariants as entries
use Rattle.heap_model.specs.graph.Legal.{IsObjectLegal}
use Rattle.heap_model.specs.account.Space.{fragments_gained, fragments_lost, taken_of, spent_of}
use Rattle.heap_model.specs.Needs.{made_by}
use Rattle.heap_model.specs.account.Phases.{AnswersPhase, BeginsPhase, ShowsRightly}
use Rattle.heap_model.specs.account.Cycles.{EndsCycle}
use Rattle.heap_model.specs.account.Preparing.{WantsMemory}
use Rattle.heap_model.specs.account.Sweep.{Sweeps}
use Rattle.heap_model.specs.account.Refusals.{RefusesRightly}
pub use Rattle.heap_model.specs.account.Refusals.{given_up, FindsSpace, ShowsSpace, RefusesSpine}

-- a seat takes some of what is free, and gives back some of what it has
abbrev pub TakesAndGives : Heap → List Entry → Entry → Type 0
TakesAndGives heap before (entries.Takes number count) = (1 ≤ count) × (fragments_gained heap before + count ≤ group_fragments * heap.groups + fragments_lost before)
TakesAndGives heap before (entries.GivesBack number count) = (1 ≤ count) × (spent_of number before + count ≤ taken_of number before)
TakesAndGives heap before _ = Unit {0}

-- the most fragments that a seat keeps after this command
abbrev pub most_kept : Command → ℕ
most_kept commands.Leave = 0
most_kept _ = most_reserve

-- an object is made of what its maker has; after a reply a seat keeps a reserve at most, and after a leave nothing
abbrev pub MakesOfOwn : List Entry → Entry → Type 0
MakesOfOwn before (entries.Said number command reply) =
    (spent_of number before + made_by command reply ≤ taken_of number before)
    × (taken_of number before ≤ spent_of number before + made_by command reply + most_kept command)
MakesOfOwn before _ = Unit {0}

-- the entry keeps the rules of space and phases after those before it, in a play or in a run
pub record KeepsSpace (heap : Heap) (play : Bool) (before : List Entry) (entry : Entry) : Type 0 where
  pub takes : TakesAndGives heap before entry
  pub makes : MakesOfOwn before entry
  pub refuses : RefusesRightly heap play before entry
  pub refuses_spine : RefusesSpine heap play before entry
  pub answers : AnswersPhase before entry
  pub begins : BeginsPhase heap before entry
  pub sweeps : Sweeps heap before entry
  pub ends : EndsCycle heap before entry
  pub shows : ShowsRightly heap play before entry

-- memory may be lacking only for an entry that keeps the rules, and that makes an object, begins a cycle or swings an array
abbrev pub MayLackMemory : Heap → Bool → List Entry → Entry → Type 0
MayLackMemory heap play before entry = KeepsSpace heap play before entry × WantsMemory entry

-- each entry keeps the rules of space and phases after those before it
abbrev pub KeepsSpaceAfter : Heap → Bool → List Entry → List Entry → Type 0
KeepsSpaceAfter heap play before [] = Unit {0}
KeepsSpaceAfter heap play before (entry ∷ rest) = KeepsSpace heap play before entry × KeepsSpaceAfter heap play (before ++ entry ∷ []) rest

-- the history keeps the rules of space and phases, as a play or as a run
abbrev pub IsSpaceLegal : Heap → Bool → List Entry → Type 0
IsSpaceLegal heap play history = KeepsSpaceAfter heap play [] history

-- the history is legal, as a play or as a run
pub record IsLegal (heap : Heap) (play : Bool) (history : List Entry) : Type 0 where
  pub objects : IsObjectLegal heap history
  pub space : IsSpaceLegal heap play history
