-- What turns leave of a run, and the last cycle of one.
use Rattle.std.proofs.Common.{◌≡◌, ℕ, zero, suc, ◌+◌, ◌*◌, ◌<◌, ◌≤◌, true, List, [], ◌∷◌, ◌++◌, filter, refl, sym, ap, subst, ◌∙◌, append_assoc}
use Rattle.std.specs.List.{AllByRecursion}
use Rattle.std.proofs.lemmas.List.{append_cancel_left, append-nil}
use Rattle.std.proofs.lemmas.List.Elements.{filter-append}
use Rattle.heap_model.specs.declared.calls.collector_calls.Turn.{Turn}
use Rattle.heap_model.specs.declared.entry.Entry.{Entry}
use Rattle.heap_model.specs.declared.entry.Entry.TheVariants.{Ends}
use Rattle.heap_model.specs.PhasePlan.{cycle_phases}
use Rattle.heap_model.specs.account.Noting.{is_collectors}
use Rattle.heap_model.specs.account.PhaseCounts.{phase}
use Rattle.core_machine.specs.machine.Machine.{State, Turns, entries}
use Rattle.core_rule.proofs.parties.Collectors.{all_are_collectors}
use Rattle.heap_record.specs.LastCycle.{MakesInRoom, EndsWholeCycle}
use Rattle.heap_record.specs.Recorded.{Recorded, StandsStill, MakesTurn, collector_of}
use Rattle.locked_heap.specs.Given.{Given}
use Rattle.locked_heap.specs.Locked.{IsRunFrom}
use Rattle.locked_heap.proofs.GivenRuns.{is_run_after_turn, is_run_still}

-- the collector told them all
abbrev pub AreOwn : List Entry → Type 0
AreOwn told = AllByRecursion (λ entry. is_collectors entry ≡ true) told

-- turns were made, and nothing else
pub record TurnsOn (old new : Recorded) : Type 0 where
  pub turned : List Entry
  pub grown : new.history ≡ old.history ++ turned
  pub own : AreOwn turned
  pub seats_stay : new.machine.state.seats ≡ old.machine.state.seats
  pub runs : (given : Given) → IsRunFrom given old → IsRunFrom given new

-- they were made up to the end of the first cycle that begins not before the first of them
pub record EndsWhole (old new : Recorded) : Type 0 where
  pub on : TurnsOn old new
  pub earlier : List Entry
  pub own : AreOwn earlier
  pub cycle : ℕ
  pub kept : ℕ
  pub told : new.history ≡ old.history ++ (earlier ++ Ends cycle kept ∷ [])
  pub began : phase old.history ≤ cycle_phases * cycle
  pub first : cycle_phases * cycle < phase old.history + cycle_phases

-- no turn was made yet
pub turns_on_without_turn : (old : Recorded) → TurnsOn old old
turns_on_without_turn old = record { turned = []; grown = sym (append-nil old.history); own = tt; seats_stay = refl; runs = λ given run. run }

own_more : (front more : List Entry) → AreOwn front → AreOwn more → AreOwn (front ++ more)
own_more [] more own then_ = then_
own_more (entry ∷ front) more own then_ = (own.0, own_more front more own.1 then_)

-- and one more
pub turns_on_with_turn : (old now ready new : Recorded) (turn : Turn) → TurnsOn old now → StandsStill now ready → MakesTurn ready new turn → TurnsOn old new
turns_on_with_turn old now ready new turn on still makes =
    let added : List Entry = entries ready.machine.heap ready.machine.state Turns in
    record {
      turned = on.turned ++ added;
      grown = makes.noted ∙ ap (λ (l : List Entry). l ++ added) (still.history_stays ∙ on.grown) ∙ append_assoc old.history on.turned added;
      own = own_more on.turned added on.own makes.own;
      seats_stay = ap (λ (s : State). s.seats) makes.after ∙ ap (λ (s : State). s.seats) still.state_stays ∙ on.seats_stay;
      runs = λ given run. is_run_after_turn given ready new (is_run_still given now ready (on.runs given run) still) turn makes;
    }

-- nothing but turns was made where they were, with the room for each
room_on : (n : ℕ) (old new : Recorded) → MakesInRoom StandsStill MakesTurn n old new → TurnsOn old new
room_on zero old new same = subst (TurnsOn old) (sym same) (turns_on_without_turn old)
room_on (suc n) old new makes = turns_on_with_turn old makes.0 makes.1 new makes.2 (room_on n old makes.0 makes.3) makes.4 makes.5

front_own : (front more : List Entry) → AreOwn (front ++ more) → AreOwn front
front_own [] more own = tt
front_own (entry ∷ front) more own = (own.0, front_own front more own.1)

-- up to the end of a cycle all that is told is the collector's, and that end is the last of it
pub turns_end_whole : (old new : Recorded) → EndsWholeCycle collector_of StandsStill MakesTurn old new → EndsWhole old new
turns_end_whole old new ends =
    let on = room_on ends.turns old new ends.made in
    let all : List Entry = ends.earlier ++ Ends ends.cycle ends.kept ∷ [] in
    let own = filter-append is_collectors old.history on.turned ∙ ap (λ es. filter is_collectors old.history ++ es) (all_are_collectors on.turned on.own) in
    let turned_is : on.turned ≡ all = append_cancel_left (filter is_collectors old.history) on.turned all (sym own ∙ ap (filter is_collectors) (sym on.grown) ∙ ends.told) in
    record {
      on = on;
      earlier = ends.earlier;
      own = front_own ends.earlier (Ends ends.cycle ends.kept ∷ []) (subst AreOwn turned_is on.own);
      cycle = ends.cycle;
      kept = ends.kept;
      told = on.grown ∙ ap (λ (l : List Entry). old.history ++ l) turned_is;
      began = ends.began;
      first = ends.first;
    }
