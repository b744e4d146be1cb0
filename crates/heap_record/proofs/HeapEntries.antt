-- No event of a run tells an answer to a command of the collector.
use Rattle.std.proofs.Common.{◌≡◌, ℕ, ◌==◌, if◌then◌else◌, Bool, true, false, List, [], ◌∷◌, ◌++◌, length, Option, None, Some, refl, ap, subst, ◌∙◌}
use Rattle.std.specs.List.{AllByRecursion}
use Rattle.std.proofs.lemmas.List.{append-nil}
use Rattle.std.proofs.lemmas.List.Elements.{filter-append}
use Rattle.heap_words.specs.Loaded.{head_of}
use Rattle.heap_model.specs.account.Turned.{is_of_heap, without_turned}
use Rattle.heap_model.specs.declared.command.Command.{Command}
use Rattle.heap_model.specs.declared.command.Command.TheVariants.{Collect}
use Rattle.heap_model.specs.declared.entry.Entry.{Entry}
use Rattle.heap_model.specs.declared.entry.Entry.TheVariants.{Takes, Said}
use Rattle.heap_model.specs.declared.calls.collect.Inner.{Inner}
use Rattle.heap_model.specs.declared.heap.Heap.{Heap}
use Rattle.heap_model.specs.declared.reply.Reply.{Reply}
use Rattle.core_machine.specs.Moves.{move_at}
use Rattle.core_machine.specs.collector.Collector.{Collector, turn_at}
use Rattle.core_machine.specs.collector.CopyingTurns.{copying_adds}
use Rattle.core_machine.specs.declared.collector.stage.Copying.{Copying}
use Rattle.core_machine.specs.declared.collector.stage.Copying.TheVariants.{Swinging}
use Rattle.core_machine.specs.declared.collector.stage.Stage.{Stage}
use Rattle.core_machine.specs.declared.collector.stage.Stage.TheVariants as stages
use Rattle.core_machine.specs.declared.point.Access.{Access}
use Rattle.core_machine.specs.declared.point.Access.TheVariants as access
use Rattle.core_machine.specs.declared.point.Collecting.{Collecting}
use Rattle.core_machine.specs.declared.point.Collecting.TheVariants as collecting
use Rattle.core_machine.specs.declared.point.Leaving.{Leaving}
use Rattle.core_machine.specs.declared.point.Leaving.TheVariants as leaving
use Rattle.core_machine.specs.declared.point.Making.{Making}
use Rattle.core_machine.specs.declared.point.Making.TheVariants as making
use Rattle.core_machine.specs.declared.point.Point.{Point}
use Rattle.core_machine.specs.declared.point.Point.TheVariants as points
use Rattle.core_machine.specs.declared.point.Polling.{Polling}
use Rattle.core_machine.specs.declared.point.Polling.TheVariants as polling
use Rattle.core_machine.specs.machine.Calls.{PlaysCall, call_events}
use Rattle.core_machine.specs.machine.InnerCalls.{PlaysInner, inner_events, inner_entries}
use Rattle.core_machine.specs.machine.Machine.{State, seat_at, Event, Begins, BeginsInner, Steps, Turns, found_by, entries, entries_shown, state_after, history}
use Rattle.core_machine.specs.seat.Access.{meta_reply_of}
use Rattle.core_machine.specs.seat.AccessMoves.{reply_entries_if, got_shows, access_move}
use Rattle.core_machine.specs.seat.Collecting.{collecting_move}
use Rattle.core_machine.specs.seat.HandshakeMoves.{phase_told, polling_move, leaving_move}
use Rattle.core_machine.specs.seat.Making.{next_group_of}
use Rattle.core_machine.specs.seat.MakingMoves.{is_last_birth, last_birth_move, birth_move, making_move}
use Rattle.core_machine.specs.seat.Seat.{Seat}
use Rattle.core_machine.specs.table.Fragments.{clear_in}

-- none of them is an answer to a command of the collector
abbrev pub AreOfHeap : List Entry → Type 0
AreOfHeap told = AllByRecursion (λ entry. is_of_heap entry ≡ true) told

both_of_heap : (front behind : List Entry) → AreOfHeap front → AreOfHeap behind → AreOfHeap (front ++ behind)
both_of_heap [] behind plain more = more
both_of_heap (entry ∷ front) behind plain more = (plain.0, both_of_heap front behind plain.1 more)

either_of_heap : (first : Bool) (one other : List Entry) → AreOfHeap one → AreOfHeap other → AreOfHeap (if first then one else other)
either_of_heap true one other plain more = plain
either_of_heap false one other plain more = more

module _ (number : ℕ) (seat : Seat) (words : List ℕ) (found : ℕ) where
  phase_of_heap : (command : Command) (p : ℕ) → AreOfHeap (phase_told number command p)
  phase_of_heap Collect p = tt
  phase_of_heap _ p = (refl, tt)

  reply_of_heap : (reply : Option Reply) → AreOfHeap (reply_entries_if number seat reply)
  reply_of_heap None = tt
  reply_of_heap (Some reply) = (refl, tt)

  got_of_heap : (heap : Heap) (head : Option ℕ) → AreOfHeap (got_shows heap number seat words found head)
  got_of_heap heap None = (refl, tt)
  got_of_heap heap (Some head) = (refl, tt)

  born_of_heap : (last : Bool) → AreOfHeap ((if last then last_birth_move number seat else birth_move seat).shows words found)
  born_of_heap true = (refl, tt)
  born_of_heap false = tt

  -- what the move at a point tells, call by call
  making_of_heap : (heap : Heap) (point : Making) → AreOfHeap ((making_move heap number seat point).shows words found)
  making_of_heap heap making.Withdrawing = (refl, tt)
  making_of_heap heap making.Gathering = either_of_heap (length (clear_in (next_group_of heap seat) found) == 0) [] (Takes number (length (clear_in (next_group_of heap seat) found)) ∷ []) tt (refl, tt)
  making_of_heap heap making.GivingBack = (refl, tt)
  making_of_heap heap making.Refusing = (refl, tt)
  making_of_heap heap making.Bearing = born_of_heap (is_last_birth seat)
  making_of_heap heap _ = tt

  access_of_heap : (heap : Heap) (point : Access) → AreOfHeap ((access_move heap number seat point).shows words found)
  access_of_heap heap access.LoadingMeta = reply_of_heap (meta_reply_of seat.command found)
  access_of_heap heap access.Getting = got_of_heap heap (head_of found)
  access_of_heap heap access.Swapping = (refl, tt)
  access_of_heap heap access.Replacing = (refl, tt)
  access_of_heap heap _ = tt

  polling_of_heap : (point : Polling) → AreOfHeap ((polling_move number seat point).shows words found)
  polling_of_heap polling.Asking = either_of_heap (found == seat.answered) (phase_told number seat.command found) [] (phase_of_heap seat.command found) tt
  polling_of_heap polling.Shading = tt
  polling_of_heap polling.Answering = (refl, phase_of_heap seat.command seat.asked)

  collecting_of_heap : (point : Collecting) → AreOfHeap ((collecting_move number seat point).shows words found)
  collecting_of_heap (collecting.Noting reply) = (refl, tt)
  collecting_of_heap _ = tt

  leaving_of_heap : (point : Leaving) → AreOfHeap ((leaving_move number seat point).shows words found)
  leaving_of_heap leaving.Emptying = (refl, tt)
  leaving_of_heap leaving.Parting = (refl, tt)

point_of_heap : (heap : Heap) (state : State) (number : ℕ) (seat : Seat) (point : Point) → AreOfHeap (entries_shown heap state (move_at heap number seat point))
point_of_heap heap state number seat points.Idle = tt
point_of_heap heap state number seat (points.Making point) = making_of_heap number seat state.words (found_by heap state (making_move heap number seat point).step) heap point
point_of_heap heap state number seat points.Local = (refl, tt)
point_of_heap heap state number seat (points.Access point) = access_of_heap number seat state.words (found_by heap state (access_move heap number seat point).step) heap point
point_of_heap heap state number seat (points.Polling point) = polling_of_heap number seat state.words (found_by heap state (polling_move number seat point).step) point
point_of_heap heap state number seat (points.Collecting point) = collecting_of_heap number seat state.words (found_by heap state (collecting_move number seat point).step) point
point_of_heap heap state number seat (points.Leaving point) = leaving_of_heap number seat state.words (found_by heap state (leaving_move number seat point).step) point

-- what a turn tells
copying_of_heap : (stage : Copying) → AreOfHeap (copying_adds stage)
copying_of_heap (Swinging copy) = (refl, tt)
copying_of_heap _ = tt

turn_of_heap : (heap : Heap) (collector : Collector) (stage : Stage) → AreOfHeap (turn_at heap collector stage).adds
turn_of_heap heap collector (stages.Copying stage) = copying_of_heap stage
turn_of_heap heap collector (stages.Freeing group dead words) = (refl, tt)
turn_of_heap heap collector (stages.Returning group words) = (refl, tt)
turn_of_heap heap collector (stages.Ending kept) = (refl, tt)
turn_of_heap heap collector stages.Advancing = (refl, tt)
turn_of_heap heap collector _ = tt

-- what events tell
pub event_entries_are_of_heap : (heap : Heap) (state : State) (event : Event) → AreOfHeap (entries heap state event)
event_entries_are_of_heap heap state (Begins number command) = tt
event_entries_are_of_heap heap state (BeginsInner number inner) = tt
event_entries_are_of_heap heap state (Steps number) = point_of_heap heap state number (seat_at state number) (seat_at state number).point
event_entries_are_of_heap heap state Turns = turn_of_heap heap state.collector state.collector.stage

pub history_is_of_heap : (heap : Heap) (state : State) (events : List Event) → AreOfHeap (history heap state events)
history_is_of_heap heap state [] = tt
history_is_of_heap heap state (event ∷ events) =
    both_of_heap (entries heap state event) (history heap (state_after heap state event) events) (event_entries_are_of_heap heap state event) (history_is_of_heap heap (state_after heap state event) events)

-- entries of the heap are all left
pub all_left : (told : List Entry) → AreOfHeap told → without_turned told ≡ told
all_left [] plain = refl
all_left (entry ∷ told) plain = rw plain.0 (ap (λ es. entry ∷ es) (all_left told plain.1))

-- behind others too
pub without_turned_of_append : (before added : List Entry) → AreOfHeap added → without_turned (before ++ added) ≡ without_turned before ++ added
without_turned_of_append before added plain = filter-append is_of_heap before added ∙ ap (λ es. without_turned before ++ es) (all_left added plain)

-- an answer to a command of the collector isn't left
pub without_turned_drops_answer : (before : List Entry) (entry : Entry) → is_of_heap entry ≡ false → without_turned (before ++ entry ∷ []) ≡ without_turned before
without_turned_drops_answer before entry turned = filter-append is_of_heap before (entry ∷ []) ∙ rw turned (append-nil (without_turned before))

-- a call tells none
pub call_entries_are_of_heap : (heap : Heap) (old new : State) (number : ℕ) (command : Command) (reply : Reply) → (call : PlaysCall heap old new number command reply) → AreOfHeap (call.before ++ Said number command reply ∷ [])
call_entries_are_of_heap heap old new number command reply call = subst AreOfHeap call.shown (history_is_of_heap heap old (call_events number command call.steps))

-- nor does an inner call
pub inner_entries_are_of_heap : (heap : Heap) (old new : State) (number : ℕ) (inner : Inner) → PlaysInner heap old new number inner → AreOfHeap (inner_entries heap old.words number (seat_at old number).answered inner)
inner_entries_are_of_heap heap old new number inner plays = subst AreOfHeap plays.shown (history_is_of_heap heap old (inner_events number inner plays.steps))
