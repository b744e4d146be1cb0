-- The collector's due turn is allowed by the rule: one lemma for every kind of turn.
use Rattle.std.proofs.Common.{suc, ◌≡◌, ℕ, ◌-◌, ◌<◌, ◌≤◌, ◌^◌, true, false, List, [], ◌∷◌, ◌++◌, length, filter, get_or, set, refl, sym, ap, subst, ◌∙◌, arith}
use Rattle.std.specs.List.{AllByRecursion}
use Rattle.std.proofs.lemmas.List.{length-set}
use mathlib.Core.Option.{Option as Found}
use lib.ListN.{get_elem?}
use Rattle.atomic_table.specs.Table.{State as Table, Allows, keeps}
use Rattle.atomic_table.proofs.Lists.{set_here, set_else}
use Rattle.heap_model.specs.declared.entry.Entry.{Entry}
use Rattle.heap_model.specs.declared.heap.Heap.{Heap}
use Rattle.heap_model.specs.account.Noting.{is_collectors as is_collectors_entry}
use Rattle.heap_model.specs.account.PhaseCounts.{phase}
use Rattle.heap_model.specs.calls.CollectorCalls.{ComesTo}
use Rattle.core_machine.specs.declared.collector.stage.Stage.{Stage}
use Rattle.core_machine.specs.declared.collector.stage.Stage.TheVariants as stages
use Rattle.core_machine.specs.declared.step.Step.{Step}
use Rattle.core_machine.specs.declared.table.address.Address.{Address}
use Rattle.core_machine.specs.table.Layout.{index_of, put, InTable}
use Rattle.core_machine.specs.table.Decode.{FoundPointsWithin}
use Rattle.core_machine.specs.table.Operation.{address_of, word_after}
use Rattle.core_machine.specs.collector.Collector.{Collector, next_turn, turn_at}
use Rattle.core_machine.specs.collector.FitsTurns.{CollectorFits}
use Rattle.core_machine.specs.machine.Machine.{State, seat_at, found_by, Turns, Can, state_after, state_after_turn, entries}
use Rattle.core_machine.proofs.collector_lemmas.{turn_stands}
use Rattle.core_rule.specs.Book.{Book}
use Rattle.core_rule.specs.runs.Laws.{IsToldBy, StandsFor}
use Rattle.core_rule.specs.Stands.{Stands}
use Rattle.core_rule.specs.runs.TableLaws.{EachTurnHasItsWord}
use Rattle.core_rule.proofs.held.DueWords.{each_turn_has_its_word}
use Rattle.core_rule.proofs.runs.ComingTurns.{each_turn_comes_to, turn_adds_collector_entries}
use Rattle.core_rule.proofs.runs.KeptRuns.{event_keeps}
use Rattle.heap_table.specs.Folded.{IsFolded, AllFolded, SeatsBefore}
use Rattle.heap_table.specs.Holds.{IsSeatOf, Holds}
use Rattle.heap_table.specs.Known.{CollectorKnown}
use Rattle.heap_table.specs.Told.{next_collector, next_known, TurnComesTo, TurnHasWord, ToldAtTurn, Tells}
use Rattle.heap_table.specs.Views.{collector_view}
use Rattle.heap_table.specs.declared.view.View.{View}
use Rattle.heap_table.proofs.Knowers.{IsCollectors, holder_is_collectors}
use Rattle.heap_table.proofs.SeatSteps.{at_is_read_at_index}

-- by the rule the next turn has its word
pub next_turn_has_word : (heap : Heap) (state : State) (book : Book) → Stands heap state book → TurnHasWord heap state.collector
unfolding EachTurnHasItsWord
next_turn_has_word heap state book stands = each_turn_has_its_word heap state book stands.rule

put_is : (heap : Heap) (words : List ℕ) (a : Address) (word : ℕ) → put heap words a word ≡ set words (index_of heap a) word
unfolding put
put_is heap words a word = refl

-- an entry of a seat stands in no list of the collector's
abbrev AreCollectors : List Entry → Type 0
AreCollectors added = AllByRecursion (λ entry. is_collectors_entry entry ≡ true) added

no_seats : (before rest added : List Entry) (entry : Entry) → AreCollectors added → added ≡ before ++ entry ∷ rest → is_collectors_entry entry ≡ false → ⊥
no_seats [] rest [] entry its is seats = cc
no_seats [] rest (a ∷ added) entry its is seats = let same : a ≡ entry = cc in let both : true ≡ false = sym its.0 ∙ (ap is_collectors_entry same ∙ seats) in cc
no_seats (b ∷ before) rest [] entry its is seats = cc
no_seats (b ∷ before) rest (a ∷ added) entry its is seats = let same : added ≡ before ++ entry ∷ rest = cc in no_seats before rest added entry its.1 same seats

-- behind entries of the collector's a seat's entry stands where it stood
stood_there : (old added before rest : List Entry) (entry : Entry) → AreCollectors added → old ++ added ≡ before ++ entry ∷ rest → is_collectors_entry entry ≡ false
    → (more : List Entry) × (old ≡ before ++ entry ∷ more)
stood_there [] added before rest entry its is seats = absurd (no_seats before rest added entry its is seats)
stood_there (x ∷ old) added [] rest entry its is seats = let same : x ≡ entry = cc in (old, ap (λ (e : Entry). e ∷ old) same)
stood_there (x ∷ old) added (b ∷ before) rest entry its is seats =
    let same : x ≡ b = cc in
    let further : old ++ added ≡ before ++ entry ∷ rest = cc in
    let there = stood_there old added before rest entry its further seats in
    (there.0, ap (λ (e : Entry). e ∷ old) same ∙ ap (λ (l : List Entry). b ∷ l) there.1)

-- so they go on standing before the phases before which they stood
pub seats_stay_before : (folded : ℕ) (history added now : List Entry) → SeatsBefore folded history → AreCollectors added → now ≡ history ++ added → SeatsBefore folded now
seats_stay_before folded history added now late its grown before rest entry is seats =
    let there = stood_there history added before rest entry its (sym grown ∙ is) seats in late before there.0 entry there.1 seats

module _ (heap : Heap) (known : CollectorKnown) (step : Step) (due : (next_turn heap known.collector).step ≡ step)
    (may : (next_turn heap known.collector).may) (open_ : known.closed ≡ []) where
  module _ (table : Table (Unit {0}) View) (holds : Holds heap table) (its : IsCollectors heap table 0 known holds) where
    abbrev found : ℕ
    found = get_or table.words (index_of heap (address_of step)) 0

    collector_is : holds.state.collector ≡ known.collector
    collector_is = holds.is.collector_is ∙ ap (λ (k : CollectorKnown). k.collector) its.known_is

    abbrev now : State
    now = record holds.state {
      words = set table.words (index_of heap (address_of step)) (word_after step found);
      collector = next_collector heap known.collector found;
    }

    finds : found_by heap holds.state step ≡ found
    finds = at_is_read_at_index heap holds.state.words (address_of step) ∙ ap (λ (l : List ℕ). get_or l (index_of heap (address_of step)) 0) holds.is.words_are

    state_is : state_after heap holds.state Turns ≡ now
    state_is =
        ap (λ (c : Collector). state_after_turn heap holds.state (next_turn heap c)) collector_is
        ∙ ap (λ (s : Step). record holds.state { words = put heap holds.state.words (address_of s) (word_after s (found_by heap holds.state s)); collector = next_collector heap known.collector (found_by heap holds.state s) }) due
        ∙ ap (λ (n : ℕ). record holds.state { words = put heap holds.state.words (address_of step) (word_after step n); collector = next_collector heap known.collector n }) finds
        ∙ ap (λ (l : List ℕ). record holds.state { words = l; collector = next_collector heap known.collector found })
        (put_is heap holds.state.words (address_of step) (word_after step found) ∙ ap (λ (l : List ℕ). set l (index_of heap (address_of step)) (word_after step found)) holds.is.words_are)

    can : Can heap holds.state Turns
    can = rw collector_is may

    kept : StandsFor heap (state_after heap holds.state Turns) holds.book.history (entries heap holds.state Turns)
    kept = event_keeps heap holds.state holds.book Turns holds.stands can

    stands : Stands heap now kept.book
    stands = subst (λ (s : State). Stands heap s kept.book) state_is kept.stands

    views_stay : (s : ℕ) (next : CollectorKnown) → get_elem? (set table.views 0 (collector_view next)) (suc s) ≡ get_elem? table.views (suc s)
    views_stay s next = set_else table.views 0 (suc s) (collector_view next) (λ e. omega arith)

    -- the rule goes on
    pub holds_turned : Holds heap (record {
      words = set table.words (index_of heap (address_of step)) (word_after step found);
      homes = table.homes;
      views = set table.views 0 (collector_view (next_known heap known found));
    })
    holds_turned = record {
      state = now;
      known = next_known heap known found;
      book = kept.book;
      is = record {
        words_are = refl;
        knows = set_here table.views 0 (collector_view (next_known heap known found)) its.has_view;
        collector_is = refl;
        counted = length-set table.views 0 (collector_view (next_known heap known found)) ∙ holds.is.counted ∙ ap (λ (k : CollectorKnown). suc k.handed) its.known_is;
        few = subst (λ (k : CollectorKnown). k.handed ≤ heap.seats) its.known_is holds.is.few;
        seat_slots = subst (λ (k : CollectorKnown). length k.seats ≡ heap.seats) its.known_is holds.is.seat_slots;
        seats_are = λ s below. subst (λ (v : Found View). IsSeatOf heap known.seats s v (seat_at holds.state s)) (sym (views_stay s (next_known heap known found)))
            (subst (λ (k : CollectorKnown). IsSeatOf heap k.seats s (get_elem? table.views (suc s)) (seat_at holds.state s)) its.known_is (holds.is.seats_are s below));
        spent = λ s kept_seat folded. views_stay s (next_known heap known found) ∙ holds.is.spent s kept_seat (subst (λ (k : CollectorKnown). IsFolded k.seats s kept_seat) (sym its.known_is) folded);
        gone = λ s kept_seat folded. holds.is.gone s kept_seat (subst (λ (k : CollectorKnown). IsFolded k.seats s kept_seat) (sym its.known_is) folded);
        closed_are = rw open_ refl;
        still = λ some_read. absurd (omega (arith, some_read, ap length open_));
      };
      stands = stands;
      late = λ all. seats_stay_before known.folded holds.book.history (entries heap holds.state Turns) kept.book.history
          (subst (λ (k : CollectorKnown). SeatsBefore k.folded holds.book.history) its.known_is (holds.late (subst (λ (k : CollectorKnown). AllFolded heap k.seats) (sym its.known_is) all)))
          (turn_adds_collector_entries heap holds.state) kept.grown;
    }

    -- the turn's answer by the state is that by the own data
    answer_is : (next_turn heap holds.state.collector).answer (found_by heap holds.state (next_turn heap holds.state.collector).step) ≡ (next_turn heap known.collector).answer found
    answer_is =
        ap (λ (c : Collector). (next_turn heap c).answer (found_by heap holds.state (next_turn heap c).step)) collector_is
        ∙ ap (λ (s : Step). (next_turn heap known.collector).answer (found_by heap holds.state s)) due
        ∙ ap (λ (n : ℕ). (next_turn heap known.collector).answer n) finds

    -- so it comes to what a turn may come to, since the book's history tells the collector's entries and phase, before it and after it
    comes_to : TurnComesTo heap known.collector found
    comes_to old new shown shown_after =
        let here = holds.stands.rule.collector_stands in
        let there = stands.rule.collector_stands in
        let before : IsToldBy holds.book.history old = record {
          log_told = shown.log_is ∙ ap (λ (c : Collector). c.log) (sym collector_is) ∙ here.log;
          phase_told = shown.phase_is ∙ ap (λ (c : Collector). c.phase) (sym collector_is) ∙ here.phase_told;
        } in
        let after : IsToldBy (holds.book.history ++ entries heap holds.state Turns) new = record {
          log_told = shown_after.log_is ∙ there.log ∙ ap (filter is_collectors_entry) kept.grown;
          phase_told = shown_after.phase_is ∙ there.phase_told ∙ ap phase kept.grown;
        } in
        subst (ComesTo old new) answer_is (each_turn_comes_to event_keeps heap holds.state holds.book old new holds.stands can before after).1

    -- and tells what it tells of the word found
    pub told_turned : ToldAtTurn heap known.collector found
    told_turned = record {
      leads = subst (λ (s : Step). FoundPointsWithin heap (address_of s) found) (sym due)
          (subst (FoundPointsWithin heap (address_of step)) finds
          (holds.stands.rule.machine.leads (address_of step)
          (subst (λ (s : Step). InTable heap (address_of s)) due (turn_stands heap known.collector holds.stands.rule.machine.limits (subst (CollectorFits heap) collector_is holds.stands.rule.machine.collector_fit)).step.in_table)));
      fits = stands.rule.machine.collector_fit;
      has_word = next_turn_has_word heap now kept.book stands;
      comes_to = comes_to;
    }

  pub rule_allows_turn : (id : ℕ) → Allows (Holds heap) 0 id (collector_view known, []) (index_of heap (address_of step)) (word_after step)
      (Tells (λ n. collector_view (next_known heap known n)) (ToldAtTurn heap known.collector) (collector_view known, []))
  rule_allows_turn id table holds none_home at_ small =
      let first = holder_is_collectors heap table id known holds at_ in
      let its = subst (λ (i : ℕ). IsCollectors heap table i known holds) first.id_is first in
      let n = get_or table.words (index_of heap (address_of step)) 0 in (
        collector_view (next_known heap known n),
        keeps,
        tt,
        subst (λ (i : ℕ). Holds heap (record { words = set table.words (index_of heap (address_of step)) (word_after step n); homes = table.homes; views = set table.views i (collector_view (next_known heap known n)) }))
            (sym first.id_is) (holds_turned table holds its),
        (refl, told_turned table holds its),
      )

-- a turn may be made while the collector's entries are few
module _ (heap : Heap) (collector : Collector) (fits : CollectorFits heap collector) (few : length collector.log < 2 ^ 64 - 2) where
  may_at : (stage : Stage) → (turn_at heap collector stage).may
  may_at (stages.Ending kept) = omega (arith, fits.phase_told, few)
  may_at stages.Advancing = omega (arith, fits.phase_told, few)
  may_at stages.Looking = tt
  may_at (stages.Passing group found) = tt
  may_at (stages.Scanning scan) = tt
  may_at (stages.Shading scan target next) = tt
  may_at (stages.Addressing scan words) = tt
  may_at (stages.Indexing scan) = tt
  may_at (stages.Spreading scan target) = tt
  may_at (stages.Blackening scan) = tt
  may_at stages.Flipping = tt
  may_at (stages.Copying stage) = tt
  may_at (stages.Sweeping group) = tt
  may_at (stages.Examining group dead position words) = tt
  may_at (stages.Freeing group dead words) = tt
  may_at (stages.Returning group words) = tt
  may_at (stages.Clearing group kept) = tt

  pub next_turn_may : (next_turn heap collector).may
  next_turn_may = may_at collector.stage
