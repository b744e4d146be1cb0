-- What a log tells of puts and takes, where it goes on, and where none ends in it.
use Rattle.std.proofs.Common.{◌≡◌, ℕ, List, [], ◌∷◌, ◌++◌, Option, Some, None, refl, ap, ◌∙◌, subst}
use Rattle.heap_model.specs.declared.command.Command.{Command}
use Rattle.heap_model.specs.declared.entry.Entry.{Entry}
use Rattle.heap_model.specs.declared.entry.Entry.TheVariants.{Said}
use Rattle.heap_model.specs.declared.id.Value.{Value}
use Rattle.heap_model.specs.declared.reply.Reply.{Reply}
use Rattle.heap_model.specs.declared.reply.Reply.TheVariants.{Was}
use Rattle.heap_queue.specs.declared.told.Told.{Told}
use Rattle.heap_queue.specs.Calls.{Call, QueueMade, MakeRefused, calls_in, ends, if_ends}
use Rattle.heap_queue.specs.Histories.{IsQueueLog, place_after}
use Rattle.heap_queue.specs.Places.{Place, PutLinks, PutSwings, TakeUnlinks, TakeCopies, after}
use Rattle.heap_queue.specs.Telling.{told_by, told_if_ends}
use Rattle.heap_queue.specs.ToldBySeat.{held_after, if_told, told_along}

-- what the registers hold after a log
abbrev pub held_behind : (ℕ → Value) → List Entry → ℕ → Value
held_behind held [] = held
held_behind held (Said number command reply ∷ log) = held_behind (held_after held command reply) log
held_behind held (entry ∷ log) = held_behind held log

if_told-append : (told : Option Told) (one more : List Told) → if_told told (one ++ more) ≡ if_told told one ++ more
if_told-append None one more = refl
if_told-append (Some first) one more = refl

-- one log behind another
pub told_then : (held : ℕ → Value) (place : Place) (log more : List Entry) → told_along held place (log ++ more) ≡ told_along held place log ++ told_along (held_behind held log) (place_after place log) more
told_then held place [] more = refl
told_then held place (Said number command reply ∷ log) more =
    ap (if_told (told_by held place command reply)) (told_then (held_after held command reply) (after place command reply) log more)
    ∙ if_told-append (told_by held place command reply) (told_along (held_after held command reply) (after place command reply) log) (told_along (held_behind (held_after held command reply) log) (place_after (after place command reply) log) more)
told_then held place (entry ∷ log) more = told_then held place log more

-- at the place nothing was told of a call that is to come
abbrev pub IsBeside : Place → Type 0
IsBeside (PutSwings v) = ⊥
IsBeside TakeCopies = ⊥
IsBeside place = Unit {0}

-- the calls are makings
abbrev IsMaking : Call → Type 0
IsMaking QueueMade = Unit {0}
IsMaking (MakeRefused need found) = Unit {0}
IsMaking call = ⊥

abbrev pub AreMakings : List Call → Type 0
AreMakings [] = Unit {0}
AreMakings (call ∷ calls) = IsMaking call × AreMakings calls

-- of those nothing is told
making_tells_none : (held : ℕ → Value) (call : Option Call) (calls : List Call) → AreMakings (if_ends call calls) → (told_if_ends held call ≡ None) × AreMakings calls
making_tells_none held None calls are = (refl, are)
making_tells_none held (Some QueueMade) calls are = (refl, are.1)
making_tells_none held (Some (MakeRefused need found)) calls are = (refl, are.1)
making_tells_none held (Some call) calls are = absurd are.0

-- a put that linked ends, and so does a take that unlinked
swing_ends : (v : ℕ) (log : List Entry) → IsBeside (place_after (PutSwings v) log) → AreMakings (calls_in (PutSwings v) log) → ⊥
swing_ends v [] beside are = beside
swing_ends v (Said number command reply ∷ log) beside are = are.0
swing_ends v (entry ∷ log) beside are = swing_ends v log beside are

copy_ends : (log : List Entry) → IsQueueLog TakeCopies log → IsBeside (place_after TakeCopies log) → AreMakings (calls_in TakeCopies log) → ⊥
copy_ends [] due beside are = beside
copy_ends (Said number command reply ∷ log) due beside are =
    let taken = subst (λ (c : Command). AreMakings (if_ends (ends TakeCopies c reply) (calls_in (after TakeCopies c reply) log))) due.0.2 are in taken.0
copy_ends (entry ∷ log) due beside are = copy_ends log due beside are

-- a reply tells nothing where only makings end
reply_tells_none : (held : ℕ → Value) (place : Place) (command : Command) (reply : Reply) (log : List Entry) → IsQueueLog (after place command reply) log → IsBeside (place_after (after place command reply) log)
    → AreMakings (if_ends (ends place command reply) (calls_in (after place command reply) log)) → told_by held place command reply ≡ None
reply_tells_none held (PutLinks v) command (Was stamp) log due beside are = absurd (swing_ends v log beside are)
reply_tells_none held TakeUnlinks command (Was stamp) log due beside are = absurd (copy_ends log due beside are)
reply_tells_none held place command reply log due beside are = (making_tells_none held (ends place command reply) (calls_in (after place command reply) log) are).0

-- nor does a log
pub log_tells_none : (held : ℕ → Value) (place : Place) (log : List Entry) → IsQueueLog place log → IsBeside (place_after place log) → AreMakings (calls_in place log) → told_along held place log ≡ []
log_tells_none held place [] due beside are = refl
log_tells_none held place (Said number command reply ∷ log) due beside are =
    ap (λ (told : Option Told). if_told told (told_along (held_after held command reply) (after place command reply) log)) (reply_tells_none held place command reply log due.1 beside are)
    ∙ log_tells_none (held_after held command reply) (after place command reply) log due.1 beside (making_tells_none held (ends place command reply) (calls_in (after place command reply) log) are).1
log_tells_none held place (entry ∷ log) due beside are = log_tells_none held place log due beside are
