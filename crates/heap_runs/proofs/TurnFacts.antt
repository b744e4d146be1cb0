-- What a turn of a heap that is played on adds.
use Rattle.std.proofs.Common.{◌≡◌, ◌≢◌, None, Some, ℕ, zero, suc, ◌+◌, ◌≤◌, true, List, [], ◌∷◌, ◌++◌, length, filter, inl, inr, refl, sym, ap, subst, ◌∙◌, append_assoc, length-append, arith}
use Rattle.std.proofs.lemmas.List.{append-nil, append_cancel_left}
use Rattle.std.proofs.lemmas.List.Elements.{filter-append}
use Rattle.std.proofs.lemmas.Option.{none-some, same_Some}
use Rattle.heap_model.specs.Behind.{as_turn, behind_of, behind_in_turn}
use Rattle.heap_model.specs.declared.behind.Behind.{Behind}
use Rattle.heap_model.specs.declared.calls.collector_calls.Turn.{Turn}
use Rattle.heap_model.specs.declared.calls.collector_calls.Turn.TheVariants as turns
use Rattle.heap_model.specs.declared.entry.Entry.{Entry}
use Rattle.heap_model.specs.declared.entry.Entry.TheVariants as entries
use Rattle.heap_model.specs.declared.reply.TurnReply.{TurnReply}
use Rattle.heap_model.specs.declared.reply.TurnReply.TheVariants as replies
use Rattle.heap_model.specs.account.Noting.{is_collectors}
use Rattle.heap_model.specs.account.Phases.{IsBehind, TurnShows}
use Rattle.heap_model.specs.calls.CollectorCalls.{ComesTo, StepsTo}
use Rattle.heap_runs.specs.Play.{tells_turn, AreTurns}
use Rattle.slack_pace.specs.Slack as slack
use Rattle.heap_runs.specs.PlayHeap.{PlayState, TakesTurn, collector_state_of}
use Rattle.heap_runs.specs.Turning.{AddsTurns, IsNoWait, IsStep, TakesTurns, HasTurned, HasComeTo}
use Rattle.core_rule.proofs.parties.Collectors.{all_are_collectors}

-- a turn that tells a seat waits for that one
pub turn_waits_for : (turn : Turn) (behind : Behind) → behind_in_turn turn ≡ Some behind → turn ≡ as_turn behind
turn_waits_for (turns.Waits number answer p) behind is = ap as_turn (same_Some _ _ is)
turn_waits_for turns.Stepped behind is = absurd (none-some behind is)
turn_waits_for (turns.Ended cycle kept) behind is = absurd (none-some behind is)

-- one that tells none waits for none
pub turn_waits_not : (turn : Turn) → behind_in_turn turn ≡ None → IsNoWait turn
turn_waits_not (turns.Waits number answer p) is = absurd (none-some (behind_of number answer p) (sym is))
turn_waits_not turns.Stepped is = tt
turn_waits_not (turns.Ended cycle kept) is = tt

-- and is a step where it ends no cycle either
pub turn_is_step : (turn : Turn) → behind_in_turn turn ≡ None → ((cycle kept : ℕ) → turn ≢ turns.Ended cycle kept) → IsStep turn
turn_is_step (turns.Waits number answer p) is none = absurd (none-some (behind_of number answer p) (sym is))
turn_is_step turns.Stepped is none = refl
turn_is_step (turns.Ended cycle kept) is none = absurd (none cycle kept refl)

step_tells : (now later : ℕ) (entry : Entry) → StepsTo now entry later → tells_turn entry ≡ true
step_tells now later (entries.Advance p) steps = refl
step_tells now later (entries.Frees count) steps = refl
step_tells now later (entries.Returns count) steps = refl
step_tells now later (entries.Swings id) steps = refl
step_tells now later _ steps = absurd steps

module _ (old new : PlayState) (turn : Turn) (takes : TakesTurn old new turn) where
  -- the collector's list has just what was added more
  pub turn_adds_just_more : (more : List Entry) → (collector_state_of new).log ≡ (collector_state_of old).log ++ more → takes.added ≡ more
  turn_adds_just_more more log =
      let own = ap (λ es. filter is_collectors old.entries ++ es) (sym (all_are_collectors takes.added takes.own)) in
      append_cancel_left (filter is_collectors old.entries) takes.added more (own ∙ sym (filter-append is_collectors old.entries takes.added) ∙ ap (filter is_collectors) (sym takes.entries) ∙ log)

  pub turn_adds_nothing : (collector_state_of new).log ≡ (collector_state_of old).log → takes.added ≡ []
  turn_adds_nothing log = turn_adds_just_more [] (log ∙ sym (append-nil (filter is_collectors old.entries)))

  told_by : (turn : Turn) → ComesTo (collector_state_of old) (collector_state_of new) turn → AreTurns takes.added
  told_by turns.Stepped (inl none) = rw (turn_adds_nothing none.0) tt
  told_by turns.Stepped (inr steps) = rw (turn_adds_just_more (steps.0 ∷ []) steps.2) (step_tells _ _ steps.0 steps.1, tt)
  told_by (turns.Waits number answer p) comes = rw (turn_adds_nothing comes.0.0) tt
  told_by (turns.Ended cycle kept) comes = rw (turn_adds_just_more (entries.Ends cycle kept ∷ []) comes.0) (refl, tt)

  -- what was added tells a turn
  pub turn_told : AreTurns takes.added
  turn_told = told_by turn takes.turned.comes_to

  few_by : (turn : Turn) → ComesTo (collector_state_of old) (collector_state_of new) turn → length takes.added ≤ 1
  few_by turns.Stepped (inl none) = omega (arith, ap (length {A = Entry}) (turn_adds_nothing none.0))
  few_by turns.Stepped (inr steps) = omega (arith, ap (length {A = Entry}) (turn_adds_just_more (steps.0 ∷ []) steps.2))
  few_by (turns.Waits number answer p) comes = omega (arith, ap (length {A = Entry}) (turn_adds_nothing comes.0.0))
  few_by (turns.Ended cycle kept) comes = omega (arith, ap (length {A = Entry}) (turn_adds_just_more (entries.Ends cycle kept ∷ []) comes.0))

  -- and is one entry at most
  pub few_added : length new.entries ≤ length old.entries + 1
  few_added = omega (arith, few_by turn takes.turned.comes_to, ap (length {A = Entry}) takes.entries, length-append old.entries takes.added)

-- a turn that waits adds nothing, and shows a seat that is behind
pub waiting_turn_shows : (old new : PlayState) (number answer p : ℕ) → TakesTurn old new (turns.Waits number answer p) → TurnShows new.heap new.entries (replies.Waits number answer p)
waiting_turn_shows old new number answer p takes =
    let none : takes.added ≡ [] = turn_adds_nothing old new (turns.Waits number answer p) takes takes.turned.comes_to.0.0 in
    let same : new.entries ≡ old.entries = takes.entries ∙ ap (λ es. old.entries ++ es) none ∙ append-nil old.entries in
    (rw takes.heap takes.waits.0, omega (arith, takes.waits.2), subst (IsBehind number answer p) (sym same) takes.waits.1)

-- a turn that ends a cycle adds that end alone
pub ending_turn_shows : (old new : PlayState) (cycle kept : ℕ) → TakesTurn old new (turns.Ended cycle kept) → TurnShows new.heap new.entries (replies.Cycle cycle)
ending_turn_shows old new cycle kept takes =
    (old.entries, kept, takes.entries ∙ ap (λ es. old.entries ++ es) (turn_adds_just_more old new (turns.Ended cycle kept) takes (entries.Ends cycle kept ∷ []) takes.turned.comes_to.0))

pub told_more : (front behind : List Entry) → AreTurns front → AreTurns behind → AreTurns (front ++ behind)
told_more [] behind turned more = more
told_more (entry ∷ front) behind turned more = (turned.0, told_more front behind turned.1 more)

-- no turn was made
abbrev pub turns_none : (old new : PlayState) → new.heap ≡ old.heap → new.entries ≡ old.entries → AddsTurns old new
turns_none old new heap same = record { same_heap = heap; added = []; told = same ∙ sym (append-nil old.entries); turned = tt }

-- one turn more
pub turns_more : (old now new : PlayState) (turn : Turn) → AddsTurns old now → TakesTurn now new turn → AddsTurns old new
turns_more old now new turn adds takes = record {
  same_heap = takes.heap ∙ adds.same_heap;
  added = adds.added ++ takes.added;
  told = takes.entries ∙ ap (λ es. es ++ takes.added) adds.told ∙ append_assoc old.entries adds.added takes.added;
  turned = told_more adds.added takes.added adds.turned (turn_told now new turn takes);
}

pub adds_turns_together : (Is : Turn → Type 0) (n : ℕ) (old new : PlayState) → TakesTurns Is n old new → AddsTurns old new
adds_turns_together Is zero old new same = turns_none old new (ap (λ s. s.heap) same) (ap (λ s. s.entries) same)
adds_turns_together Is (suc n) old new taken = turns_more old taken.0 new taken.1 (adds_turns_together Is n old taken.0 taken.2) taken.3

-- what turns add that a pace asked for
onward_adds : (n : ℕ) (old new : PlayState) → slack.MakesOnward TakesTurn n old new → AddsTurns old new
onward_adds zero old new same = turns_none old new (ap (λ s. s.heap) same) (ap (λ s. s.entries) same)
onward_adds (suc n) old new makes = turns_more old makes.0 new makes.1 (onward_adds n old makes.0 makes.2) makes.3

pub adds_turns_of_each : (n : ℕ) (old new : PlayState) → slack.MakesEach TakesTurn n old new → AddsTurns old new
adds_turns_of_each zero old new same = turns_none old new (ap (λ s. s.heap) same) (ap (λ s. s.entries) same)
adds_turns_of_each (suc n) old new makes = turns_more old makes.0 new makes.1 (onward_adds n old makes.0 makes.2) makes.3

-- so many turns added as many entries at most
pub turns_add_few_entries : (Is : Turn → Type 0) (n : ℕ) (old new : PlayState) → TakesTurns Is n old new → length new.entries ≤ length old.entries + n
turns_add_few_entries Is zero old new same = omega (arith, ap (λ (s : PlayState). length s.entries) same)
turns_add_few_entries Is (suc n) old new taken = omega (arith, turns_add_few_entries Is n old taken.0 taken.2, few_added taken.0 new taken.1 taken.3)

-- one more turn with such an answer, or a last one
pub has_turned_once_more : (Is : Turn → Type 0) (old now new : PlayState) (n : ℕ) (turn : Turn) → HasTurned Is old now n → TakesTurn now new turn → Is turn → HasTurned Is old new (suc n)
has_turned_once_more Is old now new n turn turned takes is = record { taken = (now, turn, turned.taken, takes, is); counted = omega (arith, turned.counted, takes.turned.counted) }

pub has_come_to_reply : (Is : Turn → Type 0) (old now new : PlayState) (n : ℕ) (last : Turn) (reply : TurnReply) → HasTurned Is old now n → TakesTurn now new last → TurnShows new.heap new.entries reply
    → HasComeTo Is old new last reply
has_come_to_reply Is old now new n last reply turned takes shows =
    record { earlier = n; now = now; turned = turned; takes = takes; counted = omega (arith, turned.counted, takes.turned.counted); shows = shows }

-- what was added up to an answer
pub adds_turns_that_came : (Is : Turn → Type 0) (old new : PlayState) (last : Turn) (reply : TurnReply) → HasComeTo Is old new last reply → AddsTurns old new
adds_turns_that_came Is old new last reply came = turns_more old came.now new last (adds_turns_together Is came.earlier old came.now came.turned.taken) came.takes
