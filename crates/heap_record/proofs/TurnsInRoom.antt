-- What turns of a collector come to, with the room that was made for each.
use Rattle.std.proofs.Common.{◌≡◌, ℕ, suc, ◌+◌, ◌*◌, ◌<◌, ◌≤◌, true, List, [], ◌∷◌, ◌++◌, inl, inr, refl, sym, ap, ◌∙◌, append_assoc, arith}
use Rattle.std.specs.List.{AllByRecursion}
use Rattle.std.proofs.lemmas.List.{append-nil}
use Rattle.heap_model.specs.declared.calls.collector_calls.Turn.{Turn}
use Rattle.heap_model.specs.declared.calls.collector_calls.Turn.TheVariants as turns
use Rattle.heap_model.specs.declared.entry.Entry.{Entry}
use Rattle.heap_model.specs.declared.entry.Entry.TheVariants as entries
use Rattle.heap_model.specs.declared.entry.Entry.TheVariants.{Ends}
use Rattle.heap_model.specs.account.Turned.{is_of_heap}
use Rattle.heap_model.specs.PhasePlan.{cycle_phases}
use Rattle.heap_model.specs.calls.CollectorCalls.{CollectorState, StepsTo, ComesTo, Turns}
use Rattle.slack_pace.specs.Slack.{CountsTurns}
use Rattle.core_rule.proofs.runs.LoneEntries.{all_of_append}
use Rattle.heap_record.specs.LastCycle.{MakesInRoom, EndsWholeCycle}

-- so many such turns were made, which told these entries
pub record HasMade {Whole : Type 0} (state : Whole → CollectorState) (Rooms : Whole → Whole → Type 0) (Does : Whole → Whole → Turn → Type 0) (old new : Whole) : Type 0 where
  pub turns : ℕ
  pub made : MakesInRoom Rooms Does turns old new
  pub counted : CountsTurns turns (state old) (state new)
  pub told : List Entry
  pub own : AllByRecursion (λ entry. is_of_heap entry ≡ true) told
  pub grown : (state new).log ≡ (state old).log ++ told

-- room changes neither the log nor the phase nor the turns
abbrev pub IsRoom : CollectorState → CollectorState → Type 0
IsRoom old new = new ≡ record old { spare = new.spare }

-- a step's entry answers no command of the collector
pub step_entry_is_of_heap : (now : ℕ) (entry : Entry) (later : ℕ) → StepsTo now entry later → is_of_heap entry ≡ true
step_entry_is_of_heap now (entries.Turned command reply) later steps = absurd steps
step_entry_is_of_heap now _ later steps = refl

-- what a turn tells
record Tells (old new : CollectorState) : Type 0 where
  more : List Entry
  own : AllByRecursion (λ entry. is_of_heap entry ≡ true) more
  grown : new.log ≡ old.log ++ more

told_by : (old new : CollectorState) (turn : Turn) → ComesTo old new turn → Tells old new
told_by old new turns.Stepped (inl none) = record { more = []; own = tt; grown = none.0 ∙ sym (append-nil old.log) }
told_by old new turns.Stepped (inr steps) = record { more = steps.0 ∷ []; own = (step_entry_is_of_heap old.phase steps.0 new.phase steps.1, tt); grown = steps.2 }
told_by old new (turns.Waits seat answered phase) comes = record { more = []; own = tt; grown = comes.0.0 ∙ sym (append-nil old.log) }
told_by old new (turns.Ended cycle kept) comes = record { more = Ends cycle kept ∷ []; own = (refl, tt); grown = comes.0 }

module _ (Whole : Type 0) (state : Whole → CollectorState) (Rooms : Whole → Whole → Type 0) (Does : Whole → Whole → Turn → Type 0) where
  -- none was made yet
  pub has_made_no_turn : (old : Whole) → HasMade state Rooms Does old old
  has_made_no_turn old = record { turns = 0; made = refl; counted = omega arith; told = []; own = tt; grown = sym (append-nil (state old).log) }

  module _ (old now ready new : Whole) (so_far : HasMade state Rooms Does old now) (is_room : IsRoom (state now) (state ready)) (rooms : Rooms now ready) where
    one_more : (turn : Turn) → Turns (state ready) (state new) turn → CountsTurns (suc so_far.turns) (state old) (state new)
    one_more turn turned = omega (arith, so_far.counted, turned.counted, ap (λ (s : CollectorState). s.turns) is_room)

    more_told : (more : List Entry) → (state new).log ≡ (state ready).log ++ more → (state new).log ≡ (state old).log ++ (so_far.told ++ more)
    more_told more grown =
        grown ∙ ap (λ (l : List Entry). l ++ more) (ap (λ (s : CollectorState). s.log) is_room ∙ so_far.grown) ∙ append_assoc (state old).log so_far.told more

    -- one more
    pub has_made_one_more : (turn : Turn) → Turns (state ready) (state new) turn → Does ready new turn → HasMade state Rooms Does old new
    has_made_one_more turn turned does =
        let tells = told_by (state ready) (state new) turn turned.comes_to in
        record {
          turns = suc so_far.turns;
          made = (now, ready, turn, so_far.made, rooms, does);
          counted = one_more turn turned;
          told = so_far.told ++ tells.more;
          own = all_of_append (λ entry. is_of_heap entry ≡ true) so_far.told tells.more so_far.own tells.own;
          grown = more_told tells.more tells.grown;
        }

    -- and one that ended the cycle that was wanted
    pub ends_whole_cycle_when_made : (cycle kept : ℕ) → Turns (state ready) (state new) (turns.Ended cycle kept) → Does ready new (turns.Ended cycle kept)
        → (state old).phase ≤ cycle_phases * cycle → cycle_phases * cycle < (state old).phase + cycle_phases → EndsWholeCycle state Rooms Does old new
    ends_whole_cycle_when_made cycle kept turned does began first = record {
      turns = suc so_far.turns;
      made = (now, ready, turns.Ended cycle kept, so_far.made, rooms, does);
      counted = one_more (turns.Ended cycle kept) turned;
      earlier = so_far.told;
      own = so_far.own;
      cycle = cycle;
      kept = kept;
      told = more_told (Ends cycle kept ∷ []) turned.comes_to.0;
      began = began;
      first = first;
      ended = turned.comes_to.2;
      last = turned.last;
    }
