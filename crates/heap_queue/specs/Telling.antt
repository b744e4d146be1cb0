-- What a history tells of each put and take, in the order in which they did what they did.
use Rattle.std.specs.Prelude.{ℕ, List, [], ◌∷◌, ◌++◌, Option, Some, None}
use Rattle.heap_model.specs.declared.command.Command.{Command}
use Rattle.heap_model.specs.declared.entry.Entry.{Entry}
use Rattle.heap_model.specs.declared.entry.Entry.TheVariants.{Said}
use Rattle.heap_model.specs.declared.heap.Heap.{Heap}
use Rattle.heap_model.specs.declared.id.Value.{Value}
use Rattle.heap_model.specs.declared.reply.Reply.{Reply}
use Rattle.heap_model.specs.declared.reply.Reply.TheVariants.{Was}
use Rattle.heap_model.specs.graph.Graph.{Graph, opening}
use Rattle.heap_model.specs.graph.Growth.{after_entry}
use Rattle.heap_model.specs.graph.Objects.{register_value}
use Rattle.heap_queue.specs.declared.replies.PutReply.TheVariants as puts
use Rattle.heap_queue.specs.declared.replies.TakeReply.TheVariants as takes
use Rattle.heap_queue.specs.declared.told.Told.{Told}
use Rattle.heap_queue.specs.declared.told.Told.TheVariants.{Put, Took, Take}
use Rattle.heap_queue.specs.declared.told.ToldCall.{ToldCall}
use Rattle.heap_queue.specs.Calls.{Call, PutRefused, PutCall, TakeCall, ends}
use Rattle.heap_queue.specs.Effects as effects
use Rattle.heap_queue.specs.Effects.{Effect, Places, start, moved}
use Rattle.heap_queue.specs.Places.{Place, PutLinks, TakeUnlinks}
use Rattle.heap_queue.specs.Serving.{put_register}

-- what a call that ends tells, by the values of its seat's registers; a put that came through and a take that got a value were told where they linked and unlinked
abbrev pub told_of_end : (ℕ → Value) → Call → Option Told
told_of_end held (PutRefused need found) = Some (Put (held put_register) (puts.Full need found))
told_of_end held (PutCall v puts.Ok) = None
told_of_end held (PutCall v reply) = Some (Put (held v) reply)
told_of_end held (TakeCall reply) = Some (Take reply)
told_of_end held call = None

-- what a reply may end
abbrev pub told_if_ends : (ℕ → Value) → Option Call → Option Told
told_if_ends held None = None
told_if_ends held (Some call) = told_of_end held call

-- what a reply tells: a put where its node is linked, a take where the first node is unlinked, and what does neither where it ends
abbrev pub told_by : (ℕ → Value) → Place → Command → Reply → Option Told
told_by held (PutLinks v) command (Was stamp) = Some (Put (held v) puts.Ok)
told_by held TakeUnlinks command (Was stamp) = Some (Took (held 11))
told_by held place command reply = told_if_ends held (ends place command reply)

-- what is kept of what a seat's reply tells
abbrev pub kept : ℕ → Option Told → List ToldCall
kept seat None = []
kept seat (Some told) = record { seat = seat; told = told } ∷ []

-- what an entry tells
abbrev pub told_at : Graph → Places → Entry → List ToldCall
told_at g place (Said seat command reply) = kept seat (told_by (register_value g seat) (place seat) command reply)
told_at g place entry = []

-- what the entries tell, in their order
abbrev pub told_from : Graph → Places → List Entry → List ToldCall
told_from g place [] = []
told_from g place (entry ∷ history) = told_at g place entry ++ told_from (after_entry g entry) (moved place entry) history

-- what a history tells of the queue that this seat makes
abbrev pub told_of : Heap → ℕ → List Entry → List ToldCall
told_of heap maker history = told_from (opening heap) (start maker) history

-- what a told put or take did to the queue
abbrev pub effects_told : Option Told → List Effect
effects_told (Some (Put value puts.Ok)) = effects.Put value ∷ []
effects_told (Some (Took value)) = effects.Took value ∷ []
effects_told (Some (Take takes.Empty)) = effects.Empty ∷ []
effects_told told = []

-- what they did to the queue, in their order
abbrev pub effects_in : List ToldCall → List Effect
effects_in [] = []
effects_in (call ∷ calls) = effects_told (Some call.told) ++ effects_in calls
