-- A play goes on with a seat's line, whose command is made by one call or by a press.
use Rattle.std.proofs.Common.{◌≡◌, ◌≢◌, ℕ, ◌+◌, length, Option, inl, inr, ap, ◌∙◌, arith}
use Rattle.heap_model.specs.declared.command.Command.{Command}
use Rattle.heap_model.specs.declared.command.Command.TheVariants.{New, Array, Collect, Leave}
use Rattle.heap_model.specs.declared.heap.Heap.{Heap}
use Rattle.heap_model.specs.declared.reply.Reply.{Reply}
use Rattle.heap_model.specs.account.Cycles.{graph_of}
use Rattle.heap_model.specs.calls.SeatLaws.{EachCallCounts, EachCallSparesOthers}
use Rattle.heap_model.specs.graph.Graph.{Graph, GraphSeat}
use Rattle.heap_model.specs.graph.Objects.{graph_seat}
use Rattle.heap_record.specs.Recorded.{claimed_by}
use Rattle.press_alloc.specs.Presses.{IsAllocation, IsPressed}
use Rattle.press_alloc.proofs.Calling.{graph_after_refusal, graph_after_collect}
use Rattle.heap_runs.specs.declared.playing.making.Allocating.{Allocating}
use Rattle.heap_runs.specs.declared.playing.making.Allocating.TheVariants.{Once, Pressed}
use Rattle.heap_runs.specs.PlayHeap.{PlayState, AnswersCall}
use Rattle.heap_runs.specs.Playing.{NotesSeatLine, IsPlaying}
use Rattle.heap_runs.specs.Pressed.{MakesCommand}
use Rattle.heap_runs.proofs.Answering.{graph_stays, plays_more, plays_call}
use Rattle.heap_runs.proofs.PressCalls.{adds_call_of_play}
use Rattle.heap_runs.proofs.Slacking.{pace_adds_slack}
use Rattle.heap_runs.proofs.Told.{tells_call, notes_call_by_entries}

-- where the graph stays, so does what a play asks of its seats
plays_as_before : (heap : Heap) (old new : PlayState) (calls : ℕ) → new.heap ≡ old.heap → graph_of old.heap new.entries ≡ graph_of old.heap old.entries → IsPlaying heap old calls → IsPlaying heap new calls
plays_as_before heap old new calls same_heap same plays = record {
  of_heap = same_heap ∙ plays.of_heap;
  present = λ number below. ap (λ (seat : GraphSeat). seat.left) (stays number) ∙ plays.present number below;
  few = λ number below.
      let few = plays.few number below in
      record {
        few_objects = omega (arith, ap (λ (seat : GraphSeat). length seat.objects) (stays number), few.few_objects);
        few_sets = omega (arith, ap (λ (seat : GraphSeat). seat.sets) (stays number), few.few_sets);
      };
}
  where
    stays : (number : ℕ) → graph_seat (graph_of new.heap new.entries) number ≡ graph_seat (graph_of old.heap old.entries) number
    stays number = ap (λ h. graph_seat (graph_of h new.entries) number) same_heap ∙ ap (λ (g : Graph). graph_seat g number) same

module _ (counts : EachCallCounts) (others : EachCallSparesOthers) (heap : Heap) (number calls : ℕ) where
  -- after one call
  plays_once : (command : Command) → command ≢ Leave → (old new : PlayState) (reply : Reply) → AnswersCall old new number command reply → IsPlaying heap old calls → IsPlaying heap new (calls + 1)
  plays_once command stays old new reply answers plays = plays_call counts others heap old new number command (notes_call_by_entries old new number command reply answers) calls stays plays

  -- after the calls of a press
  plays_press : (command : Command) → IsAllocation command → command ≢ Leave → (old new : PlayState) (reply : Reply) → IsPressed AnswersCall old new number command reply → IsPlaying heap old calls → IsPlaying heap new (calls + 1)
  plays_press command allocates stays old new reply (inl once) plays = plays_once command stays old new reply once.0 plays
  plays_press command allocates stays old new reply (inr again) plays =
      let first = plays_as_before heap old again.refused calls (tells_call old again.refused number command again.refusal again.first).heap
      (graph_after_refusal old.heap old.entries again.refused.entries number command again.refusal allocates again.refuses (adds_call_of_play old again.refused number command again.refusal again.first)) plays in
      let second = plays_as_before heap again.refused again.collected calls (tells_call again.refused again.collected number Collect again.answer again.collects).heap
      (graph_after_collect again.refused.heap again.refused.entries again.collected.entries number again.answer (adds_call_of_play again.refused again.collected number Collect again.answer again.collects)) first in
      plays_once command stays again.collected new reply again.again second

  -- after either
  plays_command : (way : Allocating) (command : Command) → command ≢ Leave → (old new : PlayState) (reply : Reply) → MakesCommand way old new number command reply → IsPlaying heap old calls → IsPlaying heap new (calls + 1)
  plays_command Once command stays old new reply answers plays = plays_once command stays old new reply answers plays
  plays_command Pressed (New d fields) stays old new reply presses plays = plays_press (New d fields) tt stays old new reply presses.calls plays
  plays_command Pressed (Array d cells) stays old new reply presses plays = plays_press (Array d cells) tt stays old new reply presses.calls plays
  plays_command Pressed command stays old new reply answers plays = plays_once command stays old new reply answers plays

-- after a seat's line
pub is_playing_after_line : EachCallCounts → EachCallSparesOthers → (way : Allocating) (asks : Option (ℕ → ℕ)) (heap : Heap) (old new : PlayState) (number : ℕ) (command : Command) → NotesSeatLine way asks old new number command → (calls : ℕ) → command ≢ Leave
    → IsPlaying heap old calls → IsPlaying heap new (calls + 1)
is_playing_after_line counts others way asks heap old new number command notes calls stays plays =
    let slack = pace_adds_slack asks (claimed_by notes.calls.added) notes.now new notes.slack in
    plays_more notes.now new slack.adds.added slack.adds.same_heap slack.adds.told (λ g. graph_stays g slack.adds.added slack.adds.turned) heap (calls + 1) (calls + 1) (omega arith)
    (plays_command counts others heap number calls way command stays old notes.now notes.calls.reply notes.calls.answers plays)
