-- A machine's entries, and the answers to the collector's commands that are noted between them.
use Rattle.std.proofs.Common.{◌≡◌, ℕ, true, List, [], ◌∷◌, ◌++◌, refl, sym, ap, subst, ◌∙◌, append_assoc, append-nil, arith}
use Rattle.heap_model.specs.declared.calls.collect.Inner.{Inner}
use Rattle.heap_model.specs.declared.calls.collector_calls.Turn.{Turn}
use Rattle.heap_model.specs.declared.command.Command.{Command}
use Rattle.heap_model.specs.declared.command.Command.TheVariants as commands
use Rattle.heap_model.specs.declared.command.TurnCommand.{TurnCommand}
use Rattle.heap_model.specs.declared.entry.Entry.{Entry}
use Rattle.heap_model.specs.declared.entry.Entry.TheVariants as entries
use Rattle.heap_model.specs.declared.heap.Heap.{Heap}
use Rattle.heap_model.specs.declared.reply.Reply.{Reply}
use Rattle.heap_model.specs.declared.reply.TurnReply.{TurnReply}
use Rattle.heap_model.specs.account.Phases.{TurnShows}
use Rattle.heap_model.specs.account.Turned.{is_of_heap, without_turned, AnswersRightly, AllAnswerRightly, TurnedMayStand, TurnedCountNothing}
use Rattle.core_machine.specs.machine.Machine.{Turns}
use Rattle.heap_record.specs.Recorded.{Recorded, StandsStill, MakesCall, MakesInner, MakesTurn}
use Rattle.heap_record.proofs.HeapEntries.{AreOfHeap, without_turned_of_append, without_turned_drops_answer, call_entries_are_of_heap, inner_entries_are_of_heap, event_entries_are_of_heap}
use Rattle.heap_runs.specs.MachineHeap.{NotesRightly, CallsMachine, play_state_of, run_state_of}
use Rattle.heap_runs.specs.PlayHeap.{IsPlayed}
use Rattle.heap_runs.proofs.WithAnswers.{bare}

-- an entry of the heap may stand anywhere
rightly_plain : (heap : Heap) (before : List Entry) (entry : Entry) → is_of_heap entry ≡ true → AnswersRightly heap before entry
rightly_plain heap before (entries.Turned command reply) plain = cc plain
rightly_plain heap before _ plain = tt

all_rightly : (heap : Heap) (before told : List Entry) → AreOfHeap told → AllAnswerRightly heap before told
all_rightly heap before [] plain = tt
all_rightly heap before (entry ∷ told) plain = (rightly_plain heap before entry plain.0, all_rightly heap (before ++ entry ∷ []) told plain.1)

rightly_more : (heap : Heap) (before front behind : List Entry) → AllAnswerRightly heap before front → AllAnswerRightly heap (before ++ front) behind → AllAnswerRightly heap before (front ++ behind)
rightly_more heap before [] behind right more = subst (λ es. AllAnswerRightly heap es behind) (append-nil before) more
rightly_more heap before (entry ∷ front) behind right more =
    (right.0, rightly_more heap (before ++ entry ∷ []) front behind right.1 (subst (λ es. AllAnswerRightly heap es behind) (sym (append_assoc before (entry ∷ []) front)) more))

module _ (old new : Recorded) (notes : NotesRightly old) where
  notes_more : (added : List Entry) → new.machine.heap ≡ old.machine.heap → new.history ≡ old.history ++ added → new.listed ≡ old.listed ++ added → AreOfHeap added → NotesRightly new
  notes_more added heap noted listed plain = record {
    same = ap without_turned listed ∙ without_turned_of_append old.listed added plain ∙ ap (λ (l : List Entry). l ++ added) notes.same ∙ sym noted;
    right = rw (heap, listed) (rightly_more old.machine.heap [] old.listed added notes.right (all_rightly old.machine.heap old.listed added plain));
  }

  -- behind the machine's entries all stands
  pub notes_rightly_after_call : (number : ℕ) (command : Command) (reply : Reply) → MakesCall old new number command reply → NotesRightly new
  notes_rightly_after_call number command reply makes =
      notes_more _ makes.same_heap makes.noted makes.listed (call_entries_are_of_heap old.machine.heap old.machine.state new.machine.state number command reply makes.call)

  pub notes_rightly_after_inner : (number : ℕ) (inner : Inner) → MakesInner old new number inner → NotesRightly new
  notes_rightly_after_inner number inner makes =
      notes_more _ makes.same_heap makes.noted makes.listed (inner_entries_are_of_heap old.machine.heap old.machine.state new.machine.state number inner makes.plays)

  pub notes_rightly_after_turn : (turn : Turn) → MakesTurn old new turn → NotesRightly new
  notes_rightly_after_turn turn makes = notes_more _ makes.same_heap makes.noted makes.listed (event_entries_are_of_heap old.machine.heap old.machine.state Turns)

  pub notes_rightly_still : StandsStill old new → NotesRightly new
  notes_rightly_still still = record { same = rw (still.listed_stays, still.history_stays) notes.same; right = rw (still.heap_stays, still.listed_stays) notes.right }

  -- and behind an answer that shows what is so
  pub notes_rightly_after_turned : (command : TurnCommand) (reply : TurnReply) → new ≡ record old { listed = old.listed ++ entries.Turned command reply ∷ [] } → TurnShows old.machine.heap old.listed reply → NotesRightly new
  notes_rightly_after_turned command reply is shows = rw is (record {
    same = without_turned_drops_answer old.listed (entries.Turned command reply) refl ∙ notes.same;
    right = rightly_more old.machine.heap [] old.listed (entries.Turned command reply ∷ []) notes.right (shows, tt);
  })

-- the machine's entries are those of the heap without the answers
pub bare_play_is_run : (whole : Recorded) → NotesRightly whole → bare (play_state_of whole) ≡ run_state_of whole
bare_play_is_run whole notes = ap (λ (es : List Entry). record (play_state_of whole) { entries = es }) notes.same

-- both lists have the same more
pub record GrowsBoth (old new : Recorded) : Type 0 where
  pub added : List Entry
  pub noted : new.history ≡ old.history ++ added
  pub listed : new.listed ≡ old.listed ++ added

-- after a call
pub grows_both_after_call : (old new : Recorded) (number : ℕ) (command : Command) (reply : Reply) → CallsMachine old new number command reply → GrowsBoth old new
grows_both_after_call old new number commands.Collect reply calls = let collects = calls.collects refl in record { added = collects.told; noted = collects.noted; listed = collects.listed }
grows_both_after_call old new number command reply calls = let once = calls.once (λ e. cc e) in record { added = _; noted = once.noted; listed = once.listed }

-- so the list without the answers has that more
pub without_turned_grows : (old new : Recorded) → (grows : GrowsBoth old new) → NotesRightly old → NotesRightly new → without_turned new.listed ≡ without_turned old.listed ++ grows.added
without_turned_grows old new grows before after = after.same ∙ grows.noted ∙ ap (λ (l : List Entry). l ++ grows.added) (sym before.same)

-- with the answers the entries are a play too
pub is_played_with_answers : TurnedMayStand → TurnedCountNothing → (whole : Recorded) → NotesRightly whole → IsPlayed whole.machine.heap whole.history → IsPlayed whole.machine.heap whole.listed
is_played_with_answers stand counts whole notes played =
    let heap = whole.machine.heap in
    let stay = counts whole.listed in
    let bare_played : IsPlayed heap (without_turned whole.listed) = subst (IsPlayed heap) (sym notes.same) played in
    record {
      legal = stand heap whole.listed bare_played.legal notes.right;
      none_short = omega (arith, bare_played.none_short, stay.lost_stay, stay.gained_stay heap);
      words_fit = omega (arith, bare_played.words_fit, stay.granted_stay, stay.returned_stay);
    }
