-- What a seat finds out by the inner calls of its collects.
use Rattle.std.specs.Prelude.{◌≡◌, ◌≢◌, ℕ, ◌+◌, ◌*◌, ◌^◌, ◌<◌, ◌≤◌, nat_lt, if◌then◌else◌, Option, Some, None, Result, Ok, Err}
use Rattle.heap_model.specs.PhasePlan.{cycle_phases}
use Rattle.heap_model.specs.Behind.{as_reply, behind_of, ended_or_behind}
use Rattle.heap_model.specs.declared.behind.Behind.{Behind}
use Rattle.heap_model.specs.declared.calls.collect.CollectReply.{CollectReply}
use Rattle.heap_model.specs.declared.calls.collect.Inner.{Inner}
use Rattle.heap_model.specs.declared.calls.collect.Inner.TheVariants as inners
use Rattle.heap_model.specs.declared.heap.Heap.{Heap}
use Rattle.heap_model.specs.declared.reply.Reply.{Reply}
use Rattle.heap_model.specs.declared.reply.Reply.TheVariants as replies
pub use Rattle.core_machine.specs.declared.seat.looks.Looks.{Looks}

-- at the opening nothing was found
abbrev pub no_looks : Looks
no_looks = record { first = None; seen = 0; behind = None; waits = 0 }

-- a reply forgets what was found since the one before it
abbrev pub forgotten : Looks → Looks
forgotten looks = record looks { first = None; behind = None }

-- the first phase that was found since the last reply: this one, where none was found before
abbrev pub first_of : Option ℕ → ℕ → Option ℕ
first_of None found = Some found
first_of (Some p) found = Some p

-- a look found this phase
abbrev pub looked : ℕ → Looks → Looks
looked found looks = record looks { first = first_of looks.first found; seen = found }

-- this phase was loaded
abbrev pub seen_phase : ℕ → Looks → Looks
seen_phase found looks = record looks { seen = found }

-- the count and one more, as far as 64 bits count
abbrev pub counted_once_more : ℕ → ℕ
counted_once_more n = if nat_lt (n + 1) (2 ^ 64) then n + 1 else n

-- a seat was found to be behind
abbrev pub found_behind : Behind → Looks → Looks
found_behind found looks = record looks { behind = Some found; waits = counted_once_more looks.waits }

-- the word of another seat was compared with the phase: the seat is behind where the word is below it
abbrev pub compared : ℕ → ℕ → ℕ → Looks → Looks
compared other phase word looks =
    if nat_lt word phase then found_behind (behind_of other word phase) looks
    else record looks { behind = None }

-- the first look since the last reply found this phase or an earlier one
abbrev pub FirstUpTo : Option ℕ → ℕ → Type 0
FirstUpTo None p = ⊥
FirstUpTo (Some first) p = first ≤ p

-- what was found allows a collect to tell this: a cycle that began after a look and was seen to end, or the seat that was found behind
abbrev pub MayTell : Looks → Result ℕ Behind → Type 0
MayTell looks (Ok j) = FirstUpTo looks.first (cycle_phases * j) × (cycle_phases * (j + 1) ≤ looks.seen)
MayTell looks (Err behind) = looks.behind ≡ Some behind

-- it allows the reply by which a collect tells that
abbrev pub MayNote : Looks → CollectReply → Type 0
MayNote looks reply = MayTell looks (ended_or_behind reply)

-- the seat may make the inner call: it asks another seat of the heap, and notes only what it has found
abbrev pub MayMake : Heap → ℕ → Looks → Inner → Type 0
MayMake heap number looks inners.Look = Unit {0}
MayMake heap number looks inners.Answer = Unit {0}
MayMake heap number looks (inners.Behind other) = (other < heap.seats) × (other ≢ number)
MayMake heap number looks (inners.Note reply) = MayNote looks reply

-- the reply that tells what a collect has come to
abbrev pub telling : Result ℕ Behind → Reply
telling (Ok j) = replies.Cycle j
telling (Err behind) = as_reply behind

-- the reply that is noted
abbrev pub noted_reply : CollectReply → Reply
noted_reply reply = telling (ended_or_behind reply)
