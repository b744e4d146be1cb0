-- What a call and a turn come to by the machine's entries, they come to with the answers to the collector's commands among these.
use Rattle.std.proofs.Common.{◌≡◌, ℕ, ◌+◌, ◌≤◌, List, [], ◌∷◌, ◌++◌, length, filter, inl, inr, refl, sym, ap, subst, ◌∙◌, length-append, arith}
use Rattle.std.proofs.lemmas.List.{append-nil, append_cancel_left}
use Rattle.std.proofs.lemmas.List.Elements.{filter-append}
use Rattle.heap_model.specs.declared.calls.collector_calls.Turn.{Turn}
use Rattle.heap_model.specs.declared.calls.collector_calls.Turn.TheVariants as turns
use Rattle.heap_model.specs.declared.command.Command.{Command}
use Rattle.heap_model.specs.declared.command.Command.TheVariants as commands
use Rattle.heap_model.specs.declared.entry.Entry.{Entry}
use Rattle.heap_model.specs.declared.entry.Entry.TheVariants.{Ends}
use Rattle.heap_model.specs.declared.id.Id.TheVariants as ids
use Rattle.heap_model.specs.declared.reply.Reply.{Reply}
use Rattle.heap_model.specs.declared.reply.Reply.TheVariants.{Made}
use Rattle.heap_model.specs.account.Noting.{is_collectors}
use Rattle.heap_model.specs.account.PhaseCounts.{phase}
use Rattle.heap_model.specs.account.Turned.{without_turned}
use Rattle.heap_model.specs.calls.CollectorCalls.{ComesTo, StepsTo}
use Rattle.heap_model.specs.calls.SeatCalls.{Adds, ComesBefore, HasNumber}
use Rattle.heap_model.specs.calls.SeatReplies.{next_id}
use Rattle.heap_model.specs.calls.SeatState.{own_graph_seat}
use Rattle.heap_model.specs.graph.Graph.{Graph, GraphSeat}
use Rattle.heap_model.specs.graph.Objects.{graph_seat}
use Rattle.heap_model.proofs.account_lemmas.TurnedCounts.{gained_without_turned, lost_without_turned, granted_without_turned, returned_without_turned, phase_without_turned, taken_without_turned, spent_without_turned, last_answer_without_turned, graph_without_turned, turned_hold_nobody}
use Rattle.core_rule.proofs.parties.Collectors.{all_are_collectors}
use Rattle.heap_runs.specs.Play.{ComesInCollect}
use Rattle.heap_runs.specs.PlayHeap.{PlayState, MayCall, IsEnough, LacksWords, RefusesWords, RefusesFragments, AnswersArrayOnce, AnswersOnce, AnswersCollect, AnswersCall, WaitsRightly, TakesTurn, seat_state_of, collector_state_of}
use Rattle.heap_runs.proofs.TurnFacts.{turn_adds_just_more}

-- the state with the machine's entries alone
abbrev pub bare : PlayState → PlayState
bare state = record state { entries = without_turned state.entries }

module _ (state : PlayState) (number : ℕ) where
  own_same : own_graph_seat (seat_state_of (bare state) number) ≡ own_graph_seat (seat_state_of state number)
  own_same = ap (λ (g : Graph). graph_seat g number) (graph_without_turned state.entries state.heap)

  next_same : next_id (seat_state_of (bare state) number) ≡ next_id (seat_state_of state number)
  next_same = ap (λ (s : GraphSeat). ids.Made number (length s.objects)) own_same

  -- a call that may be made may be made without the answers
  pub may_call_when_bare : (command : Command) → MayCall state number command → MayCall (bare state) number command
  may_call_when_bare command may = record { within = may.within; present = ap (λ (s : GraphSeat). s.left) own_same ∙ may.present; in_range = may.in_range; numbered = numbered command may.numbered }
    where
      numbered : (command : Command) → HasNumber (seat_state_of state number) command → HasNumber (seat_state_of (bare state) number) command
      numbered (commands.New d fields) has = omega (arith, has, ap (λ (s : GraphSeat). length s.objects) own_same)
      numbered (commands.Array d cells) has = omega (arith, has, ap (λ (s : GraphSeat). length s.objects) own_same)
      numbered (commands.Set r i v) has = omega (arith, has, ap (λ (s : GraphSeat). s.sets) own_same)
      numbered (commands.Cas r i a v) has = omega (arith, has, ap (λ (s : GraphSeat). s.sets) own_same)
      numbered _ has = tt

  module _ (command : Command) where
    enough_with : IsEnough (bare state) number command → IsEnough state number command
    enough_with enough = omega (arith, enough, gained_without_turned state.entries state.heap, lost_without_turned state.entries, spent_without_turned state.entries number, taken_without_turned state.entries number)

    enough_bare : IsEnough state number command → IsEnough (bare state) number command
    enough_bare enough = omega (arith, enough, gained_without_turned state.entries state.heap, lost_without_turned state.entries, spent_without_turned state.entries number, taken_without_turned state.entries number)

    lacks_with : LacksWords (bare state) command → LacksWords state command
    lacks_with lacks = omega (arith, lacks, granted_without_turned state.entries, returned_without_turned state.entries)

    lacks_bare : LacksWords state command → LacksWords (bare state) command
    lacks_bare lacks = omega (arith, lacks, granted_without_turned state.entries, returned_without_turned state.entries)

    words_with : (reply : Reply) → RefusesWords (bare state) command reply → RefusesWords state command reply
    words_with reply (used, is, shows) = (used, omega (arith, is, granted_without_turned state.entries, returned_without_turned state.entries), shows)

    words_bare : (reply : Reply) → RefusesWords state command reply → RefusesWords (bare state) command reply
    words_bare reply (used, is, shows) = (used, omega (arith, is, granted_without_turned state.entries, returned_without_turned state.entries), shows)

    fragments_with : (reply : Reply) → RefusesFragments (bare state) number command reply → RefusesFragments state number command reply
    fragments_with reply (found, finds, shows) =
        (found, omega (arith, finds, gained_without_turned state.entries state.heap, lost_without_turned state.entries, spent_without_turned state.entries number, taken_without_turned state.entries number), shows)

    fragments_bare : (reply : Reply) → RefusesFragments state number command reply → RefusesFragments (bare state) number command reply
    fragments_bare reply (found, finds, shows) =
        (found, omega (arith, finds, gained_without_turned state.entries state.heap, lost_without_turned state.entries, spent_without_turned state.entries number, taken_without_turned state.entries number), shows)

    -- what an array is answered
    array_with : (reply : Reply) → AnswersArrayOnce (bare state) number command reply → AnswersArrayOnce state number command reply
    array_with reply once = record {
      made = (
        λ made. let both = once.made.0 (made ∙ ap Made (sym next_same)) in (λ lacks. both.0 (lacks_bare lacks), enough_with both.1),
        λ both. once.made.1 (λ lacks. both.0 (lacks_with lacks), enough_bare both.1) ∙ ap Made next_same,
      );
      no_words = (λ refuses. lacks_with (once.no_words.0 (words_bare reply refuses)), λ lacks. words_with reply (once.no_words.1 (lacks_bare lacks)));
      no_fragments = (
        λ refuses. let both = once.no_fragments.0 (fragments_bare reply refuses) in (λ lacks. both.0 (lacks_bare lacks), λ enough. both.1 (enough_bare enough)),
        λ both. fragments_with reply (once.no_fragments.1 (λ lacks. both.0 (lacks_with lacks), λ enough. both.1 (enough_with enough))),
      );
    }

module _ (old new : PlayState) (added : List Entry) (grown : new.entries ≡ old.entries ++ added) (left : without_turned new.entries ≡ without_turned old.entries ++ added) where
  -- what is more without the answers is so with them
  more_is : (more : List Entry) → without_turned new.entries ≡ without_turned old.entries ++ more → new.entries ≡ old.entries ++ more
  more_is more is = grown ∙ ap (λ (l : List Entry). old.entries ++ l) (append_cancel_left (without_turned old.entries) added more (sym left ∙ is))

  longer : (had has : ℕ) → had + length (without_turned old.entries) ≤ has + length (without_turned new.entries) → had + length old.entries ≤ has + length new.entries
  longer had has kept =
      omega (arith, kept, ap (length {A = Entry}) grown, length-append old.entries added, ap (length {A = Entry}) left, length-append (without_turned old.entries) added)

  module _ (number : ℕ) (command : Command) (reply : Reply) where
    adds_with : Adds (seat_state_of (bare old) number) (seat_state_of (bare new) number) command reply → Adds (seat_state_of old number) (seat_state_of new number) command reply
    adds_with adds = record {
      heap = adds.heap;
      number = refl;
      unborn = adds.unborn;
      had = omega (arith, adds.had, spent_without_turned old.entries number, taken_without_turned old.entries number);
      before = adds.before;
      comes = subst (λ (p : ℕ). ComesBefore number adds.unborn p command reply adds.before) (last_answer_without_turned old.entries number) adds.comes;
      entries = more_is _ adds.entries;
      spare = longer old.spare new.spare adds.spare;
      no_more = adds.no_more;
    }

    once_with : AnswersOnce (bare old) (bare new) number command reply → AnswersOnce old new number command reply
    once_with once = record {
      adds = adds_with once.adds;
      turns_stay = once.turns_stay;
      last_stays = once.last_stays;
      left = once.left;
      made = λ record_. (
        λ made. enough_with old number command ((once.made record_).0 (made ∙ ap Made (sym (next_same old number)))),
        λ enough. (once.made record_).1 (enough_bare old number command enough) ∙ ap Made (next_same old number),
      );
      array = λ array. array_with old number command reply (once.array array);
    }

    collect_with : AnswersCollect (bare old) (bare new) number reply → AnswersCollect old new number reply
    collect_with collects = record {
      heap = collects.heap;
      before = collects.before;
      comes = subst (λ (p : ℕ). ComesInCollect number p reply collects.before) (phase_without_turned old.entries) collects.comes;
      entries = more_is _ collects.entries;
      turns = collects.turns;
      some = collects.some;
      counted = collects.counted;
      last = collects.last;
      spare = longer old.spare new.spare collects.spare;
    }

    -- a call
    pub answers_call_with_answers : AnswersCall (bare old) (bare new) number command reply → AnswersCall old new number command reply
    answers_call_with_answers answers = record { once = λ apart. once_with (answers.once apart); collects = λ is. collect_with (answers.collects is) }

  module _ (turn : Turn) (takes : TakesTurn (bare old) (bare new) turn) where
    told_is : new.entries ≡ old.entries ++ takes.added
    told_is = more_is takes.added takes.entries

    -- the collector's part of both lists has what was added more
    own_more : (before : List Entry) → filter is_collectors (before ++ takes.added) ≡ filter is_collectors before ++ takes.added
    own_more before = filter-append is_collectors before takes.added ∙ ap (λ es. filter is_collectors before ++ es) (all_are_collectors takes.added takes.own)

    log_is : (collector_state_of new).log ≡ (collector_state_of old).log ++ takes.added
    log_is = ap (filter is_collectors) told_is ∙ own_more old.entries

    log_more : (more : List Entry) → (collector_state_of (bare new)).log ≡ (collector_state_of (bare old)).log ++ more → (collector_state_of new).log ≡ (collector_state_of old).log ++ more
    log_more more is = log_is ∙ ap (λ (l : List Entry). (collector_state_of old).log ++ l) (turn_adds_just_more (bare old) (bare new) turn takes more is)

    log_same : (collector_state_of (bare new)).log ≡ (collector_state_of (bare old)).log → (collector_state_of new).log ≡ (collector_state_of old).log
    log_same is = log_more [] (is ∙ sym (append-nil (collector_state_of (bare old)).log)) ∙ append-nil (collector_state_of old).log

    phase_same : phase (without_turned new.entries) ≡ phase (without_turned old.entries) → phase new.entries ≡ phase old.entries
    phase_same same = sym (phase_without_turned new.entries) ∙ same ∙ phase_without_turned old.entries

    comes_with : (turn : Turn) → ComesTo (collector_state_of (bare old)) (collector_state_of (bare new)) turn → ComesTo (collector_state_of old) (collector_state_of new) turn
    comes_with turns.Stepped (inl none) = inl (log_same none.0, phase_same none.1)
    comes_with turns.Stepped (inr steps) = inr (
      steps.0,
      subst (λ (p : ℕ). StepsTo p steps.0 (phase new.entries)) (phase_without_turned old.entries) (subst (λ (p : ℕ). StepsTo (phase (without_turned old.entries)) steps.0 p) (phase_without_turned new.entries) steps.1),
      log_more (steps.0 ∷ []) steps.2,
    )
    comes_with (turns.Waits seat answer p) comes = ((log_same comes.0.0, phase_same comes.0.1), comes.1, comes.2 ∙ phase_without_turned old.entries, comes.3, comes.4)
    comes_with (turns.Ended cycle kept) comes = (log_more (Ends cycle kept ∷ []) comes.0, sym (phase_without_turned old.entries) ∙ comes.1, sym (phase_without_turned new.entries) ∙ comes.2)

    waits_with : (turn : Turn) → WaitsRightly (bare old) turn → WaitsRightly old turn
    waits_with (turns.Waits seat answer p) waits = (waits.0, turned_hold_nobody seat answer p old.entries waits.1, waits.2)
    waits_with _ waits = tt

    -- a turn
    pub takes_turn_with_answers : TakesTurn old new turn
    takes_turn_with_answers = record {
      heap = takes.heap;
      added = takes.added;
      entries = told_is;
      own = takes.own;
      turned = record {
        comes_to = comes_with turn takes.turned.comes_to;
        no_more = takes.turned.no_more;
        spare = omega (
          arith,
          takes.turned.spare,
          ap (length {A = Entry}) (ap (filter is_collectors) takes.entries ∙ own_more (without_turned old.entries)),
          length-append (filter is_collectors (without_turned old.entries)) takes.added,
          ap (length {A = Entry}) log_is,
          length-append (filter is_collectors old.entries) takes.added,
        );
        counted = takes.turned.counted;
        last = takes.turned.last;
      };
      waits = waits_with turn takes.waits;
      fewer = takes.fewer;
    }
