-- A play with one line of its script more.
use Rattle.std.proofs.Common.{◌≡◌, ◌≢◌, ℕ, ◌+◌, ◌<◌, ◌≤◌, ◌⊎◌, List, [], ◌∷◌, ◌++◌, length, inl, inr, refl, sym, ap, subst, ◌∙◌, append_assoc, arith}
use Rattle.std.proofs.lemmas.Bool.Decides.{eqb_tells}
use Rattle.std.proofs.lemmas.List.Sums.{fold-append}
use Rattle.std.proofs.lemmas.List.{get_or-replicate}
use Rattle.heap_model.specs.declared.heap.Heap.{Heap}
use Rattle.heap_model.specs.declared.command.Command.{Command}
use Rattle.heap_model.specs.declared.command.Command.TheVariants.{Collect, Leave}
use Rattle.heap_model.specs.declared.command.TurnCommand.{TurnCommand}
use Rattle.heap_model.specs.declared.entry.Entry.{Entry}
use Rattle.heap_model.specs.declared.entry.Entry.TheVariants as entries
use Rattle.heap_model.specs.calls.SeatLaws.{EachCallCounts, EachCallSparesOthers}
use Rattle.heap_model.specs.graph.Objects.{graph_seat, absent_graph_seat}
use Rattle.heap_model.specs.graph.Graph.{Graph, GraphSeat, opening, opening_graph_seat}
use Rattle.heap_model.specs.graph.Growth.{after_entry, graph_after}
use Rattle.heap_model.proofs.call_lemmas.SeatGrowth.{call_makes_one_at_most, call_stamps_once_at_most}
use Rattle.heap_runs.specs.Play.{AreTurns}
use Rattle.heap_runs.specs.PlayHeap.{PlayState, seat_state_of}
use Rattle.heap_runs.specs.Playing.{NotesCall, NotesTurns, IsThere, DoesFew, IsPlaying}
use Rattle.heap_runs.proofs.Serving.{served_turns_add}
use Rattle.heap_runs.proofs.Told.{graph_stays_by_collect, tells_call}

-- a command is a collect, or it isn't
is_collect : (command : Command) → (command ≡ Collect) ⊎ (command ≢ Collect)
is_collect Collect = inl refl
is_collect command = inr (λ e. cc e)

-- after a call
module _ (counts : EachCallCounts) (others : EachCallSparesOthers) (heap : Heap) (old new : PlayState) (seat : ℕ) (command : Command) (notes : NotesCall old new seat command) where
  -- a collect leaves every seat as it is
  stays_by_collect : (number : ℕ) → command ≡ Collect → graph_seat (graph_after (opening new.heap) new.entries) number ≡ graph_seat (graph_after (opening old.heap) old.entries) number
  stays_by_collect number is = ap (λ (g : Graph). graph_seat g number) (graph_stays_by_collect old new seat notes.reply (notes.answers.collects is))

  -- a seat is there, if it was and this isn't its leave
  there_once : command ≢ Collect → (number : ℕ) → (number ≡ seat → command ≢ Leave) → IsThere old number → IsThere new number
  there_once once number stays there = elim (eqb_tells number seat) as (λ _. IsThere new number) [
    | inl same ↦ subst (λ (n : ℕ). IsThere new n) (sym same.1)
        ((counts (seat_state_of old seat) (seat_state_of new seat) command notes.reply (notes.answers.once once).adds).present_stays (stays same.1) ∙ subst (λ (n : ℕ). IsThere old n) same.1 there)
    | inr apart ↦ (others (seat_state_of old seat) (seat_state_of new seat) command notes.reply number (notes.answers.once once).adds apart.1).leaves_same ∙ there
  ]

  few_once : command ≢ Collect → (number calls : ℕ) → DoesFew old number calls → DoesFew new number (calls + 1)
  few_once once number calls few = elim (eqb_tells number seat) as (λ _. DoesFew new number (calls + 1)) [
    | inl same ↦ subst (λ (n : ℕ). DoesFew new n (calls + 1)) (sym same.1) (more (subst (λ (n : ℕ). DoesFew old n calls) same.1 few))
    | inr apart ↦ (let stays = others (seat_state_of old seat) (seat_state_of new seat) command notes.reply number (notes.answers.once once).adds apart.1 in
        record { few_objects = omega (arith, stays.made_same, few.few_objects); few_sets = omega (arith, stays.sets_same, few.few_sets) })
  ]
    where
      more : DoesFew old seat calls → DoesFew new seat (calls + 1)
      more few =
          let up = counts (seat_state_of old seat) (seat_state_of new seat) command notes.reply (notes.answers.once once).adds in
          record { few_objects = omega (arith, up.made_more, call_makes_one_at_most command, few.few_objects); few_sets = omega (arith, up.sets_more, call_stamps_once_at_most command, few.few_sets) }

  pub seat_is_still_there : (number : ℕ) → (number ≡ seat → command ≢ Leave) → IsThere old number → IsThere new number
  seat_is_still_there number stays there = elim (is_collect command) [
    | inl is ↦ ap (λ (s : GraphSeat). s.left) (stays_by_collect number is) ∙ there
    | inr once ↦ there_once once number stays there
  ]

  few_still : (number calls : ℕ) → DoesFew old number calls → DoesFew new number (calls + 1)
  few_still number calls few = elim (is_collect command) [
    | inl is ↦ (let same = stays_by_collect number is in record {
      few_objects = omega (arith, ap (λ (s : GraphSeat). length s.objects) same, few.few_objects);
      few_sets = omega (arith, ap (λ (s : GraphSeat). s.sets) same, few.few_sets);
    })
    | inr once ↦ few_once once number calls few
  ]

  -- the play goes on with it
  pub plays_call : (calls : ℕ) → command ≢ Leave → IsPlaying heap old calls → IsPlaying heap new (calls + 1)
  plays_call calls stays plays = record {
    of_heap = (tells_call old new seat command notes.reply notes.answers).heap ∙ plays.of_heap;
    present = λ number below. seat_is_still_there number (λ same. stays) (plays.present number below);
    few = λ number below. few_still number calls (plays.few number below);
  }

-- turns change no graph
pub graph_stays : (g : Graph) (added : List Entry) → AreTurns added → graph_after g added ≡ g
graph_stays g [] turned = refl
graph_stays g (entries.Said number command reply ∷ added) turned = cc turned.0
graph_stays g (_ ∷ added) turned = graph_stays g added turned.1

-- so each seat is as it was where entries were added that change none
module _ (old new : PlayState) (added : List Entry) (same_heap : new.heap ≡ old.heap) (told : new.entries ≡ old.entries ++ added) (quiet : (g : Graph) → graph_after g added ≡ g) where
  seat_stays : (number : ℕ) → graph_seat (graph_after (opening new.heap) new.entries) number ≡ graph_seat (graph_after (opening old.heap) old.entries) number
  seat_stays number =
      ap (λ h. graph_seat (graph_after (opening h) new.entries) number) same_heap ∙ ap (λ es. graph_seat (graph_after (opening old.heap) es) number) told
      ∙ ap (λ g. graph_seat g number) (fold-append after_entry (opening old.heap) old.entries added ∙ quiet (graph_after (opening old.heap) old.entries))

  pub plays_more : (heap : Heap) (calls more : ℕ) → calls ≤ more → IsPlaying heap old calls → IsPlaying heap new more
  plays_more heap calls more less plays = record {
    of_heap = same_heap ∙ plays.of_heap;
    present = λ number below. ap (λ (seat : GraphSeat). seat.left) (seat_stays number) ∙ plays.present number below;
    few = λ number below.
        let same = seat_stays number in
        let few = plays.few number below in
        record {
          few_objects = omega (arith, ap (λ (seat : GraphSeat). length seat.objects) same, few.few_objects, less);
          few_sets = omega (arith, ap (λ (seat : GraphSeat). seat.sets) same, few.few_sets, less);
        };
  }

-- after the turns of a command
pub is_playing_after_turns : (heap : Heap) (old new : PlayState) (command : TurnCommand) → NotesTurns old new command → (calls : ℕ) → IsPlaying heap old calls → IsPlaying heap new (calls + 1)
is_playing_after_turns heap old new command notes calls plays =
    let adds = served_turns_add old notes.now command notes.reply notes.serves in
    let turned : List Entry = entries.Turned command notes.reply ∷ [] in
    plays_more old new (adds.added ++ turned) (ap (λ (s : PlayState). s.heap) notes.noted ∙ adds.same_heap)
    (ap (λ (s : PlayState). s.entries) notes.noted ∙ ap (λ es. es ++ turned) adds.told ∙ append_assoc old.entries adds.added turned)
    (λ g. fold-append after_entry g adds.added turned ∙ graph_stays g adds.added adds.turned) heap calls (calls + 1) (omega arith) plays

-- no line is answered yet
pub is_playing_at_first : (heap : Heap) (state : PlayState) → state.heap ≡ heap → state.entries ≡ [] → IsPlaying heap state 0
is_playing_at_first heap state of_heap fresh =
    let graphs : graph_after (opening state.heap) state.entries ≡ opening heap = ap (λ h. graph_after (opening h) state.entries) of_heap ∙ ap (graph_after (opening heap)) fresh in
    let open_ = λ (number : ℕ) (below : number < heap.seats). ap (λ (g : Graph). graph_seat g number) graphs ∙ get_or-replicate heap.seats number opening_graph_seat absent_graph_seat below in
    record {
      of_heap = of_heap;
      present = λ number below. ap (λ (seat : GraphSeat). seat.left) (open_ number below);
      few = λ number below. record {
        few_objects = omega (arith, ap (λ (seat : GraphSeat). length seat.objects) (open_ number below));
        few_sets = omega (arith, ap (λ (seat : GraphSeat). seat.sets) (open_ number below));
      };
    }
