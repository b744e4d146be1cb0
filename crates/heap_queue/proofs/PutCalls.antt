-- The first calls of a put: what it comes to by what comes after them, and what they spend.
use Rattle.std.proofs.Common.{◌≡◌, ℕ, ap, inl, refl, Result, Ok}
use Rattle.heap_model.specs.declared.command.Command.TheVariants.{New, Get, Set}
use Rattle.heap_model.specs.declared.id.Id.{Id}
use Rattle.heap_model.specs.declared.id.Value.{Value}
use Rattle.heap_model.specs.declared.refusal.Full.{Full}
use Rattle.heap_model.specs.declared.refusal.PlaceRefusal.{PlaceRefusal}
use Rattle.heap_model.specs.declared.reply.Reply.TheVariants.{Made, Got, Was}
use Rattle.heap_model.specs.calls.SeatCalls.{Adds}
use Rattle.heap_model.specs.calls.SeatReplies.{record_reply, get_reply, set_reply}
use Rattle.heap_model.specs.calls.SeatState.{SeatState}
use Rattle.heap_queue.specs.Calls.{Call}
use Rattle.heap_queue.specs.Grows.{Completes}
use Rattle.heap_queue.specs.Places.{Rests, PutValue, PutLast, PutNext, IsFree}
use Rattle.heap_queue.proofs.HeapCalls.{goes}

module _ {old first : SeatState} {made : Result Id Full} {id : Id} (adds : Adds old first (New 15 2) (record_reply made)) (is : made ≡ Ok id) where
  pub from_value : {new : SeatState} {call : Call} → Completes PutValue first new call → Completes Rests old new call
  from_value more = goes Rests (New 15 2) (Made id) adds (ap record_reply is) (inl refl) refl more

  module _ (v : ℕ) (free : IsFree v) {second : SeatState} {was : Result ℕ PlaceRefusal} {stamp : ℕ} (sets : Adds first second (Set 15 0 v) (set_reply was)) (set_is : was ≡ Ok stamp) where
    pub from_last : {new : SeatState} {call : Call} → Completes (PutLast v) second new call → Completes Rests old new call
    from_last more = from_value (goes PutValue (Set 15 0 v) (Was stamp) sets (ap set_reply set_is) (v, free, refl) refl more)

    module _ {third : SeatState} {got : Result (Value × ℕ) PlaceRefusal} {cell : Value × ℕ} (gets : Adds second third (Get 14 0 1) (get_reply got)) (got_is : got ≡ Ok cell) where
      pub from_next : {new : SeatState} {call : Call} → Completes (PutNext v) third new call → Completes Rests old new call
      from_next more = from_last (goes (PutLast v) (Get 14 0 1) (Got cell.0 cell.1) gets (ap get_reply got_is) refl refl more)
