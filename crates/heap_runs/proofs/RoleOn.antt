-- The collector of a run stays of its run, whatever turns are made.
use Rattle.std.proofs.Common.{◌≡◌, ℕ, zero, suc, ◌≤◌, List, [], ◌∷◌, ◌++◌, true, length, drop, inl, inr, refl, sym, ap, subst, ◌∙◌, append_assoc, append-nil, arith}
use Rattle.std.specs.List.{list_all}
use Rattle.std.proofs.lemmas.List.{length-take, take-append-le, drop-append-le}
use Rattle.std.proofs.lemmas.List.Folds.{list_all-append}
use Rattle.heap_model.specs.account.Turned.{is_of_heap}
use Rattle.atomic_table.specs.Seated.{TableId}
use Rattle.heap_model.specs.calls.CollectorCalls.{CollectorState, ComesTo, Turns}
use Rattle.heap_model.specs.declared.calls.collector_calls.Turn.{Turn}
use Rattle.heap_model.specs.declared.calls.collector_calls.Turn.TheVariants as turns
use Rattle.heap_model.specs.declared.entry.Entry.{Entry}
use Rattle.heap_model.specs.declared.entry.Entry.TheVariants.{Ends}
use Rattle.heap_model.specs.declared.heap.Heap.{Heap}
use Rattle.collector_turns.specs.Collector.{CollectorValue, state_of}
use Rattle.collector_turns.specs.Turning.{TakesTurn, MakesRoom}
use Rattle.slack_pace.specs.Slack.{MakesOnward, MakesEach, MakesTurns}
use Rattle.heap_record.proofs.TurnsInRoom.{step_entry_is_of_heap}
use Rattle.heap_runs.specs.Role.{BeginsWith, IsOfRun}

-- a list that is longer still begins so
pub begins_more : (before log added : List Entry) → BeginsWith before log → BeginsWith before (log ++ added)
begins_more before log added begins =
    let within : length before ≤ length log = omega (arith, ap (length {A = Entry}) begins, length-take (length before) log) in
    take-append-le (length before) log added within ∙ begins

-- and behind what it began with it has those and the added ones
pub behind_more : (before log added : List Entry) → BeginsWith before log → list_all is_of_heap (drop (length before) log) ≡ true → list_all is_of_heap added ≡ true
    → list_all is_of_heap (drop (length before) (log ++ added)) ≡ true
behind_more before log added begins own more =
    let within : length before ≤ length log = omega (arith, ap (length {A = Entry}) begins, length-take (length before) log) in
    ap (list_all is_of_heap) (drop-append-le (length before) log added within) ∙ list_all-append is_of_heap (drop (length before) log) added ∙ rw (own, more) refl

-- a turn adds entries at most, none of which answers a command of the collector
pub record AddsOn (old new : List Entry) : Type 0 where
  pub added : List Entry
  pub own : list_all is_of_heap added ≡ true
  pub grown : new ≡ old ++ added

adds_none : (old new : List Entry) → new ≡ old → AddsOn old new
adds_none old new same = record { added = []; own = refl; grown = same ∙ sym (append-nil old) }

turn_adds : (old new : CollectorState) (turn : Turn) → ComesTo old new turn → AddsOn old.log new.log
turn_adds old new turns.Stepped (inl none) = adds_none old.log new.log none.0
turn_adds old new turns.Stepped (inr steps) = record { added = steps.0 ∷ []; own = rw (step_entry_is_of_heap old.phase steps.0 new.phase steps.1) refl; grown = steps.2 }
turn_adds old new (turns.Waits seat answered phase) comes = adds_none old.log new.log comes.0.0
turn_adds old new (turns.Ended cycle kept) comes = record { added = Ends cycle kept ∷ []; own = refl; grown = comes.0 }

module _ (table : TableId) (heap : Heap) (before : List Entry) where
  pub is_of_run_after_room : (old new : CollectorValue) → MakesRoom old new → IsOfRun table heap before old → IsOfRun table heap before new
  is_of_run_after_room old new room run = record {
    table_is = ap (λ (v : CollectorValue). v.holder.table) room ∙ run.table_is;
    heap_is = ap (λ (v : CollectorValue). v.holder.heap) room ∙ run.heap_is;
    goes_on = subst (BeginsWith before) (sym (ap (λ (v : CollectorValue). v.holder.known.collector.log) room)) run.goes_on;
    own = ap (λ (v : CollectorValue). list_all is_of_heap (drop (length before) v.holder.known.collector.log)) room ∙ run.own;
  }

-- what is the table's and the heap's stays after many turns
stays_onward : (n : ℕ) (old new : CollectorValue) → MakesOnward TakesTurn n old new → (new.holder.table ≡ old.holder.table) × (new.holder.heap ≡ old.holder.heap)
stays_onward zero old new same = (ap (λ (v : CollectorValue). v.holder.table) same, ap (λ (v : CollectorValue). v.holder.heap) same)
stays_onward (suc n) old new makes =
    let before = stays_onward n old makes.0 makes.2 in
    (makes.3.turned.table_stays ∙ before.0, makes.3.turned.heap_stays ∙ before.1)

stays_each : (n : ℕ) (old new : CollectorValue) → MakesEach TakesTurn n old new → (new.holder.table ≡ old.holder.table) × (new.holder.heap ≡ old.holder.heap)
stays_each zero old new same = (ap (λ (v : CollectorValue). v.holder.table) same, ap (λ (v : CollectorValue). v.holder.heap) same)
stays_each (suc n) old new makes =
    let before = stays_onward n old makes.0 makes.2 in
    (makes.3.turned.table_stays ∙ before.0, makes.3.turned.heap_stays ∙ before.1)

-- and the entries grow
adds_then : (old now new : List Entry) → AddsOn old now → AddsOn now new → AddsOn old new
adds_then old now new one more = record {
  added = one.added ++ more.added;
  own = list_all-append is_of_heap one.added more.added ∙ rw (one.own, more.own) refl;
  grown = more.grown ∙ ap (λ (l : List Entry). l ++ more.added) one.grown ∙ append_assoc old one.added more.added;
}

adds_onward : (n : ℕ) (old new : CollectorState) → MakesOnward Turns n old new → AddsOn old.log new.log
adds_onward zero old new same = adds_none old.log new.log (ap (λ (s : CollectorState). s.log) same)
adds_onward (suc n) old new makes = adds_then old.log makes.0.log new.log (adds_onward n old makes.0 makes.2) (turn_adds makes.0 new makes.1 makes.3.comes_to)

adds_each : (n : ℕ) (old new : CollectorState) → MakesEach Turns n old new → AddsOn old.log new.log
adds_each zero old new same = adds_none old.log new.log (ap (λ (s : CollectorState). s.log) same)
adds_each (suc n) old new makes = adds_then old.log makes.0.log new.log (adds_onward n old makes.0 makes.2) (turn_adds makes.0 new makes.1 makes.3.comes_to)

module _ (table : TableId) (heap : Heap) (before : List Entry) where
  pub is_of_run_after_slack : (n : ℕ) (old new : CollectorValue) → MakesEach TakesTurn n old new → MakesTurns n (state_of old) (state_of new) → IsOfRun table heap before old → IsOfRun table heap before new
  is_of_run_after_slack n old new makes turned run =
      let stays = stays_each n old new makes in
      let adds = adds_each n (state_of old) (state_of new) turned in
      record {
        table_is = stays.0 ∙ run.table_is;
        heap_is = stays.1 ∙ run.heap_is;
        goes_on = subst (BeginsWith before) (sym adds.grown) (begins_more before old.holder.known.collector.log adds.added run.goes_on);
        own = ap (λ (l : List Entry). list_all is_of_heap (drop (length before) l)) adds.grown ∙ behind_more before old.holder.known.collector.log adds.added run.goes_on run.own adds.own;
      }
