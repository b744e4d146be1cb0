-- The stages of the code, and the places that they stand for.
use Rattle.std.specs.Prelude.{ℕ, List, slice_index_or}
use Rattle.heap_model.specs.Command.{IsRegister}
use Rattle.heap_queue.specs.declared.stage.Stage.{Stage}
use Rattle.heap_queue.specs.declared.stage.Stage.TheVariants as stages
use Rattle.heap_queue.specs.declared.stages.Stages.{Stages}
use Rattle.heap_queue.specs.Effects.{Places}
use Rattle.heap_queue.specs.Places.{Place, MakesNode, SetsFirst, SetsLast, Waits, Rests, Gone, PutValue, PutLast, PutNext, PutHelps, PutLinks, PutSwings, TakeLast, TakeNext, TakeSame, TakeHelps, TakeValue, TakeUnlinks, TakeCopies}

-- the place that a stage stands for
abbrev pub place_of : Stage → Place
place_of stages.MakesNode = MakesNode
place_of stages.SetsFirst = SetsFirst
place_of stages.SetsLast = SetsLast
place_of stages.Waits = Waits
place_of stages.Rests = Rests
place_of stages.Gone = Gone
place_of stages.PutValue = PutValue
place_of (stages.PutLast v) = PutLast v
place_of (stages.PutNext v) = PutNext v
place_of (stages.PutHelps v stamp) = PutHelps v stamp
place_of (stages.PutLinks v) = PutLinks v
place_of (stages.PutSwings v) = PutSwings v
place_of stages.TakeLast = TakeLast
place_of stages.TakeNext = TakeNext
place_of (stages.TakeSame stamp) = TakeSame stamp
place_of (stages.TakeHelps stamp) = TakeHelps stamp
place_of stages.TakeValue = TakeValue
place_of stages.TakeUnlinks = TakeUnlinks
place_of stages.TakeCopies = TakeCopies

-- what a stage keeps of a put is the number of a register
abbrev pub IsNamed : Stage → Type 0
IsNamed (stages.PutLast v) = IsRegister v
IsNamed (stages.PutNext v) = IsRegister v
IsNamed (stages.PutHelps v stamp) = IsRegister v
IsNamed (stages.PutLinks v) = IsRegister v
IsNamed (stages.PutSwings v) = IsRegister v
IsNamed stage = Unit {0}

-- the stage is one of a put
abbrev pub IsOfPut : Stage → Type 0
IsOfPut stages.PutValue = Unit {0}
IsOfPut (stages.PutLast v) = Unit {0}
IsOfPut (stages.PutNext v) = Unit {0}
IsOfPut (stages.PutHelps v stamp) = Unit {0}
IsOfPut (stages.PutLinks v) = Unit {0}
IsOfPut (stages.PutSwings v) = Unit {0}
IsOfPut stage = ⊥

-- the stage is one of a take
abbrev pub IsOfTake : Stage → Type 0
IsOfTake stages.TakeLast = Unit {0}
IsOfTake stages.TakeNext = Unit {0}
IsOfTake (stages.TakeSame stamp) = Unit {0}
IsOfTake (stages.TakeHelps stamp) = Unit {0}
IsOfTake stages.TakeValue = Unit {0}
IsOfTake stages.TakeUnlinks = Unit {0}
IsOfTake stages.TakeCopies = Unit {0}
IsOfTake stage = ⊥

-- the stage is outside of puts and takes
abbrev pub IsOutside : Stage → Type 0
IsOutside stages.MakesNode = Unit {0}
IsOutside stages.SetsFirst = Unit {0}
IsOutside stages.SetsLast = Unit {0}
IsOutside stages.Waits = Unit {0}
IsOutside stages.Rests = Unit {0}
IsOutside stages.Gone = Unit {0}
IsOutside stage = ⊥

-- the stage at which a seat stands
abbrev pub stage_at : List Stage → ℕ → Stage
stage_at all number = slice_index_or all number stages.Waits

-- where each seat stands
abbrev pub places_of : Stages → Places
places_of all = λ number. place_of (stage_at all.stages number)

-- what each stage keeps of a put is the number of a register
abbrev pub AreNamed : Stages → Type 0
AreNamed all = (number : ℕ) → IsNamed (stage_at all.stages number)
