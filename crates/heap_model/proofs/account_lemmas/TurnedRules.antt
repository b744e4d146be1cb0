-- Each entry of a play keeps the rules with answers to commands of the collector before it or without them.
use Rattle.std.proofs.Common.{◌≡◌, ℕ, ◌+◌, ◌*◌, ◌%◌, ◌≤◌, List, [], ◌∷◌, ◌++◌, refl, sym, ap, ◌∙◌, subst, arith, Bool, true, false, cond, Contains, append-nil}
use Rattle.std.proofs.lemmas.List.Elements.{filter-append}
use Rattle.heap_model.specs.PhasePlan.{cycle_phases}
use Rattle.heap_model.specs.declared.heap.Heap.{Heap}
use Rattle.heap_model.specs.declared.id.Id.{Id}
use Rattle.heap_model.specs.declared.command.Command.{Command}
use Rattle.heap_model.specs.declared.command.Command.TheVariants as commands
use Rattle.heap_model.specs.declared.reply.Reply.{Reply}
use Rattle.heap_model.specs.declared.reply.Reply.TheVariants as replies
use Rattle.heap_model.specs.declared.entry.Entry.{Entry}
use Rattle.heap_model.specs.declared.entry.Entry.TheVariants as entries
use Rattle.heap_model.specs.account.Windows.{is_reply_to, begins_phase, since_reply}
use Rattle.heap_model.specs.account.PhaseCounts.{AllAnswered, BeganSince}
use Rattle.heap_model.specs.account.Phases.{ShowsPhases, ShowsRightly, AnswersPhase, BeginsPhase}
use Rattle.heap_model.specs.account.Refusals.{ShowsSpace, ShowsSpine, RefusesRightly, RefusesSpine}
use Rattle.heap_model.specs.account.Cycles.{EndsCycle}
use Rattle.heap_model.specs.account.Sweep.{HasSwung, IsArray, Sweeps}
use Rattle.heap_model.specs.account.Account.{KeepsSpace, KeepsSpaceAfter, TakesAndGives, MakesOfOwn}
use Rattle.heap_model.specs.account.Turned.{is_of_heap, without_turned, AnswersRightly, AllAnswerRightly, TurnedMayStand}
use Rattle.heap_model.specs.graph.Graph.{Graph, opening}
use Rattle.heap_model.specs.graph.Growth.{after_entry}
use Rattle.heap_model.specs.graph.Legal.{AcceptsAll}
use Rattle.heap_model.specs.graph.Sizes.{fragments_of_all}
use Rattle.heap_model.proofs.account_lemmas.WithoutTurned.{after_last_without_turned, contained_was_in_history, contained_stays_without_turned}
use Rattle.heap_model.proofs.account_lemmas.TurnedCounts.{gained_without_turned, lost_without_turned, granted_without_turned, returned_without_turned, phase_without_turned, taken_without_turned, spent_without_turned, last_answer_without_turned, left_without_turned, graph_without_turned, cycle_graph_without_turned, bound_without_turned, spine_bound_without_turned, turned_hold_nobody}

module _ (heap : Heap) (history : List Entry) where
  all_answered : AllAnswered heap (without_turned history) → AllAnswered heap history
  all_answered all number below present = sym (last_answer_without_turned history number) ∙ all number below (left_without_turned history number ∙ present) ∙ phase_without_turned history

  ends_cycle : (entry : Entry) → EndsCycle heap (without_turned history) entry → EndsCycle heap history entry
  ends_cycle (entries.Ends cycle kept) ((at, all), leaves) = (
    (sym (phase_without_turned history) ∙ at, all_answered all),
    record {
      within = λ begun reach.
          let within = leaves.within begun (rw (cycle_graph_without_turned heap history) reach) in
          record {
            used = omega (arith, within.used, gained_without_turned history heap, lost_without_turned history, bound_without_turned heap history begun);
            spine = omega (arith, within.spine, granted_without_turned history, returned_without_turned history, spine_bound_without_turned heap history begun);
            at_most = omega (arith, within.at_most, bound_without_turned heap history begun);
          };
      reached = λ both reach.
          subst (λ g. fragments_of_all g both ≤ kept) (graph_without_turned history heap) (leaves.reached both (rw (cycle_graph_without_turned heap history, graph_without_turned history heap) reach));
    },
  )
  ends_cycle _ ends = tt

  began_since : (number cycle : ℕ) → BeganSince number cycle (without_turned history) → BeganSince number cycle history
  began_since number cycle began =
      let begin : Entry = entries.Advance (7 * cycle + 1) in
      contained_was_in_history (since_reply number history) begin (subst (λ es. Contains es begin) (after_last_without_turned (is_reply_to number) (λ c r. refl) history) began)

  shows_phases : (number : ℕ) (command : Command) (reply : Reply) → ShowsPhases heap true (without_turned history) number command reply → ShowsPhases heap true history number command reply
  shows_phases number commands.Poll (replies.Phase p) (now, last) = (now ∙ phase_without_turned history, last ∙ last_answer_without_turned history number)
  shows_phases number commands.Collect (replies.Cycle cycle) (ended, began) =
      ((ended.0, contained_was_in_history history (entries.Ends cycle ended.0) ended.1), began_since number cycle began)
  shows_phases number commands.Collect (replies.Waits other answer p) (below, apart, less, is) = (below, apart, less, turned_hold_nobody other answer p history is)
  shows_phases number _ _ shows = tt

  shows_space : (number : ℕ) (command : Command) (reply : Reply) → ShowsSpace heap true (without_turned history) number command reply → ShowsSpace heap true history number command reply
  shows_space number command (replies.Full need found) (needed, less, finds) =
      (needed, less, omega (arith, finds, gained_without_turned history heap, lost_without_turned history, taken_without_turned history number, spent_without_turned history number))
  shows_space number command _ shows = tt

  shows_spine : (number : ℕ) (command : Command) (reply : Reply) → ShowsSpine heap true (without_turned history) number command reply → ShowsSpine heap true history number command reply
  shows_spine number command (replies.SpineFull need shown) (needed, less, finds) = (needed, less, omega (arith, finds, granted_without_turned history, returned_without_turned history))
  shows_spine number command _ shows = tt

  swung_still : (id : Id) → HasSwung id history → HasSwung id (without_turned history)
  swung_still id has =
      subst (λ es. Contains es (entries.Swings id)) (sym (after_last_without_turned begins_phase (λ c r. refl) history)) (contained_stays_without_turned _ (entries.Swings id) refl has)

  takes_still : (entry : Entry) → TakesAndGives heap (without_turned history) entry → TakesAndGives heap history entry
  takes_still (entries.Takes number count) (some, enough) = (some, omega (arith, enough, gained_without_turned history heap, lost_without_turned history))
  takes_still (entries.GivesBack number count) (some, enough) = (some, omega (arith, enough, taken_without_turned history number, spent_without_turned history number))
  takes_still _ takes = tt

  makes_still : (entry : Entry) → MakesOfOwn (without_turned history) entry → MakesOfOwn history entry
  makes_still (entries.Said number command reply) (enough, little) =
      (omega (arith, enough, taken_without_turned history number, spent_without_turned history number), omega (arith, little, taken_without_turned history number, spent_without_turned history number))
  makes_still _ makes = tt

  refuses_still : (entry : Entry) → RefusesRightly heap true (without_turned history) entry → RefusesRightly heap true history entry
  refuses_still (entries.Said number command reply) refuses = shows_space number command reply refuses
  refuses_still _ refuses = tt

  refuses_spine_still : (entry : Entry) → RefusesSpine heap true (without_turned history) entry → RefusesSpine heap true history entry
  refuses_spine_still (entries.Said number command reply) refuses = shows_spine number command reply refuses
  refuses_spine_still _ refuses = tt

  answers_still : (entry : Entry) → AnswersPhase (without_turned history) entry → AnswersPhase history entry
  answers_still (entries.Answers number p) (now, next) = (now ∙ phase_without_turned history, next ∙ ap (λ n. n + 1) (last_answer_without_turned history number))
  answers_still _ answers = tt

  begins_still : (entry : Entry) → BeginsPhase heap (without_turned history) entry → BeginsPhase heap history entry
  begins_still (entries.Advance p) (next, no_rest, all) = (next ∙ ap (λ n. n + 1) (phase_without_turned history), no_rest, all_answered all)
  begins_still _ begins = tt

  sweeps_still : (entry : Entry) → Sweeps heap (without_turned history) entry → Sweeps heap history entry
  sweeps_still (entries.Frees count) (when, some, enough) =
      (ap (λ n. n % cycle_phases) (sym (phase_without_turned history)) ∙ when, some, omega (arith, enough, gained_without_turned history heap, lost_without_turned history))
  sweeps_still (entries.Returns count) (when, some, enough) =
      (ap (λ n. n % cycle_phases) (sym (phase_without_turned history)) ∙ when, some, omega (arith, enough, granted_without_turned history, returned_without_turned history))
  sweeps_still (entries.Swings id) (when, array, first) =
      (ap (λ n. n % cycle_phases) (sym (phase_without_turned history)) ∙ when, subst (λ g. IsArray g id) (graph_without_turned history heap) array, λ has. first (swung_still id has))
  sweeps_still _ sweeps = tt

  shows_still : (entry : Entry) → is_of_heap entry ≡ true → ShowsRightly heap true (without_turned history) entry → ShowsRightly heap true history entry
  shows_still (entries.Said number command reply) is shows = shows_phases number command reply shows
  shows_still (entries.Turned command reply) is shows = cc is
  shows_still _ is shows = tt

  -- so an entry that keeps the rules without such answers keeps them with them
  keeps_still : (entry : Entry) → is_of_heap entry ≡ true → KeepsSpace heap true (without_turned history) entry → KeepsSpace heap true history entry
  keeps_still entry is keeps = record {
    takes = takes_still entry keeps.takes;
    makes = makes_still entry keeps.makes;
    refuses = refuses_still entry keeps.refuses;
    refuses_spine = refuses_spine_still entry keeps.refuses_spine;
    answers = answers_still entry keeps.answers;
    begins = begins_still entry keeps.begins;
    sweeps = sweeps_still entry keeps.sweeps;
    ends = ends_cycle entry keeps.ends;
    shows = shows_still entry is keeps.shows;
  }

objects_still : (g : Graph) (history : List Entry) → AcceptsAll g (without_turned history) → AcceptsAll g history
objects_still g [] accepts = tt
objects_still g (entries.Turned command reply ∷ history) accepts = (tt, objects_still g history accepts)
objects_still g (entry ∷ history) accepts = (accepts.0, objects_still (after_entry g entry) history accepts.1)

turned_keeps : (heap : Heap) (before : List Entry) (entry : Entry) → is_of_heap entry ≡ false → AnswersRightly heap before entry → KeepsSpace heap true before entry
turned_keeps heap before (entries.Turned command reply) is shows =
    record { takes = tt; makes = tt; refuses = tt; refuses_spine = tt; answers = tt; begins = tt; sweeps = tt; ends = tt; shows = shows }
turned_keeps heap before _ is shows = cc is

space_still : (heap : Heap) (before history : List Entry) → KeepsSpaceAfter heap true (without_turned before) (without_turned history) → AllAnswerRightly heap before history
    → KeepsSpaceAfter heap true before history
space_still heap before [] keeps right = tt
space_still heap before (entry ∷ history) keeps right = by (is_of_heap entry) refl keeps (space_still heap (before ++ entry ∷ []) history)
  where
    more : (b : Bool) → is_of_heap entry ≡ b → without_turned (before ++ entry ∷ []) ≡ without_turned before ++ cond b (entry ∷ []) []
    more b is = filter-append is_of_heap before (entry ∷ []) ∙ ap (λ x. without_turned before ++ cond x (entry ∷ []) []) is

    by : (b : Bool) → is_of_heap entry ≡ b → KeepsSpaceAfter heap true (without_turned before) (cond b (entry ∷ without_turned history) (without_turned history))
        → (KeepsSpaceAfter heap true (without_turned (before ++ entry ∷ [])) (without_turned history) → AllAnswerRightly heap (before ++ entry ∷ []) history → KeepsSpaceAfter heap true (before ++ entry ∷ []) history)
        → KeepsSpaceAfter heap true before (entry ∷ history)
    by true is kept rest = (
      keeps_still heap before entry is kept.0,
      rest (subst (λ es. KeepsSpaceAfter heap true es (without_turned history)) (sym (more true is)) kept.1) right.1,
    )
    by false is kept rest = (
      turned_keeps heap before entry is right.0,
      rest (subst (λ es. KeepsSpaceAfter heap true es (without_turned history)) (sym (more false is ∙ append-nil (without_turned before))) kept) right.1,
    )

pub turned_may_stand : TurnedMayStand
turned_may_stand heap history legal right = record {
  objects = objects_still (opening heap) history legal.objects;
  space = space_still heap [] history legal.space right;
}
