-- A call that a seat makes from its begin to its reply, with no step of others between.
use Rattle.std.specs.Prelude.{◌≡◌, ◌≢◌, ℕ, ◌+◌, ◌≤◌, ◌<◌, ◌-◌, ◌%◌, ◌^◌, ◌⊎◌, List, [], ◌∷◌, ◌++◌, length, replicate, slice_get, Option, Some, None, option_and_then}
use Rattle.std.specs.List.{AllByRecursion}
use Rattle.heap_model.specs.declared.heap.Heap.{Heap}
use Rattle.heap_model.specs.declared.command.Command.{Command}
use Rattle.heap_model.specs.declared.command.Command.TheVariants.{Poll, Leave}
use Rattle.heap_model.specs.declared.entry.Entry.{Entry}
use Rattle.heap_model.specs.declared.entry.Entry.TheVariants.{Said, Takes, GivesBack, Answers}
use Rattle.heap_model.specs.declared.reply.Reply.{Reply}
use Rattle.heap_model.specs.declared.reply.Reply.TheVariants.{Made, Full, SpineFull, NoObject, NoField}
use Rattle.heap_model.specs.calls.SeatCalls.{ComesBefore, leave_entries}
use Rattle.heap_model.specs.Needs.{spine_need_of}
use Rattle.heap_model.specs.account.Space.{need_of}
use Rattle.core_machine.specs.declared.table.address.Address.TheVariants.{Phase, Budget, Control}
use Rattle.core_machine.specs.declared.point.Point.TheVariants.{Idle}
use Rattle.core_machine.specs.table.Fragments.{clear_in}
use Rattle.core_machine.specs.table.Layout.{at, SameTable}
use Rattle.core_machine.specs.machine.Machine.{State, seat_at, Event, Begins, Steps, Run, state_after_all, history}
use Rattle.core_machine.specs.seat.Making.{next_object_id}
use Rattle.core_machine.specs.seat.Seat.{Seat}
use Rattle.core_machine.specs.seat.Looks.{Looks, forgotten, seen_phase}
use Rattle.core_machine.specs.machine.Sums.{sum_upto}

-- a command is begun, and the seat makes this many steps
abbrev pub call_events : ℕ → Command → ℕ → List Event
call_events number command steps = Begins number command ∷ replicate steps (Steps number)

-- an entry of the seat that tells no reply: it takes or gives back fragments, or answers a phase
abbrev pub IsBeside : ℕ → Entry → Type 0
IsBeside number (Takes other count) = other ≡ number
IsBeside number (GivesBack other count) = other ≡ number
IsBeside number (Answers other phase) = other ≡ number
IsBeside number _ = ⊥

-- the phase word is the phase that the seat answered last, or the next
abbrev pub IsPhaseNear : Heap → State → ℕ → Type 0
IsPhaseNear heap state number =
    (at heap state.words Phase ≡ (seat_at state number).answered) ⊎ (at heap state.words Phase ≡ (seat_at state number).answered + 1)

-- the second state is the first after the call's steps; what was told is the seat's own entries, the reply last and no other
pub record PlaysCall (heap : Heap) (old new : State) (number : ℕ) (command : Command) (reply : Reply) : Type 0 where
  pub steps : ℕ
  pub can : Run heap old (call_events number command steps)
  pub ends : new ≡ state_after_all heap old (call_events number command steps)
  pub idle : (seat_at new number).point ≡ Idle
  pub before : List Entry
  pub shown : history heap old (call_events number command steps) ≡ before ++ Said number command reply ∷ []
  pub mine : (seat_at new number).mine ≡ (seat_at old number).mine ++ (before ++ Said number command reply ∷ [])
  pub beside : AllByRecursion (IsBeside number) before
  -- before the reply come the entries that are due by the seat's reserve and its last answer
  pub comes : (command ≡ Poll → IsPhaseNear heap old number)
      → ComesBefore number (length (seat_at old number).reserve) (seat_at old number).answered command reply before

-- the call makes one object at most and does one set at most, and only a leave makes the seat leave
pub record CountsCall (old new : Seat) (command : Command) : Type 0 where
  pub made_more : new.made ≤ old.made + 1
  pub sets_more : new.sets ≤ old.sets + 1
  pub present_stays : command ≢ Leave → new.left ≡ old.left

-- the seat has told that it gives back its reserve, where it has one, and that it leaves
abbrev pub TellsLeave : State → State → ℕ → Type 0
TellsLeave old new number =
    (seat_at new number).mine ≡ (seat_at old number).mine ++ leave_entries number (length (seat_at old number).reserve)

-- the fragments whose taken bit isn't set
abbrev pub free_count : Heap → List ℕ → ℕ
free_count heap words = sum_upto heap.groups (λ group. length (clear_in group (at heap words (Control group))))

-- what a seat can have: its reserve, and the fragments that are free
abbrev pub within_reach : Heap → State → ℕ → ℕ
within_reach heap state number = length (seat_at state number).reserve + free_count heap state.words

-- registers with their stamps, reserve, cursor and the number of objects made are as before
pub record KeepsOwn (old new : Seat) : Type 0 where
  pub registers_stay : new.registers ≡ old.registers
  pub seen_stays : new.seen ≡ old.seen
  pub reserve_stays : new.reserve ≡ old.reserve
  pub cursor_stays : new.cursor ≡ old.cursor
  pub made_stays : new.made ≡ old.made

-- the call was refused: it shows what is needed and what is within reach, and the words and what the seat keeps are as before
pub record IsRefused (heap : Heap) (old new : State) (number : ℕ) (command : Command) (reply : Reply) : Type 0 where
  pub shows : reply ≡ Full (need_of command) (within_reach heap old number)
  pub own_stays : KeepsOwn (seat_at old number) (seat_at new number)
  pub table_stays : SameTable heap old.words new.words

-- a record is made exactly where enough is within reach, and else the call is refused
pub record AnswersNew (heap : Heap) (old new : State) (number : ℕ) (command : Command) (reply : Reply) : Type 0 where
  pub made : need_of command ≤ within_reach heap old number → reply ≡ Made (next_object_id number (seat_at old number))
  pub refused : within_reach heap old number < need_of command → IsRefused heap old new number command reply

-- the array's spine words are more than the heap grants beside those that are in use or asked for
abbrev pub LacksSpineWords : Heap → State → Command → Type 0
LacksSpineWords heap state command = heap.spine < at heap state.words Budget + spine_need_of command

-- the spine words were refused: it shows what is needed and what was granted, and the words and what the seat keeps are as before
pub record IsSpineRefused (heap : Heap) (old new : State) (number : ℕ) (command : Command) (reply : Reply) : Type 0 where
  pub shows : reply ≡ SpineFull (spine_need_of command) (at heap old.words Budget % 2 ^ 32)
  pub own_stays : KeepsOwn (seat_at old number) (seat_at new number)
  pub table_stays : SameTable heap old.words new.words

-- an array is made exactly where spine words and fragments are both enough; where both are too few the spine words are refused
pub record AnswersArray (heap : Heap) (old new : State) (number : ℕ) (command : Command) (reply : Reply) : Type 0 where
  pub spine_refused : LacksSpineWords heap old command → IsSpineRefused heap old new number command reply
  pub made : ¬ LacksSpineWords heap old command → need_of command ≤ within_reach heap old number → reply ≡ Made (next_object_id number (seat_at old number))
  pub refused : ¬ LacksSpineWords heap old command → within_reach heap old number < need_of command → IsRefused heap old new number command reply

-- the reply refuses a get, a set or a len
abbrev pub IsPlaceRefusal : Reply → Type 0
IsPlaceRefusal NoObject = Unit {0}
IsPlaceRefusal NoField = Unit {0}
IsPlaceRefusal _ = ⊥

-- what the seat has found out after such a refusal: it has forgotten what it had found, and where it was told at a load of the phase it has seen that
abbrev pub looks_refused : Heap → List ℕ → Reply → Looks → Looks
looks_refused heap words NoObject looks = forgotten (seen_phase (at heap words Phase) looks)
looks_refused heap words _ looks = forgotten looks

-- no word was changed, and of the seat only its command, its entries and what it has found out
pub record LeavesAll (heap : Heap) (old new : State) (number : ℕ) (reply : Reply) : Type 0 where
  pub words_stay : new.words ≡ old.words
  pub seat_stays : seat_at new number
      ≡ record (seat_at old number) {
        command = (seat_at new number).command;
        looks = looks_refused heap old.words reply (seat_at old number).looks;
        mine = (seat_at new number).mine;
      }

-- the reply that an entry tells
abbrev pub reply_of : Entry → Option Reply
reply_of (Said number command reply) = Some reply
reply_of _ = None

-- the reply that the last of the entries tells
abbrev pub last_reply_of : List Entry → Option Reply
last_reply_of entries = option_and_then reply_of (slice_get entries (length entries - 1))
