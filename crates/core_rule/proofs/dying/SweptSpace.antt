-- The spine space where the sweep frees what is to be freed, and returns the words of arrays among it.
use Rattle.std.proofs.Common.{◌≡◌, ℕ, ◌+◌, ◌%◌, ◌<◌, ◌⊎◌, true, List, None, length, inl, inr, refl, sym, ap, ◌∙◌, arith}
use Rattle.core_rule.proofs.Terms.{cycle_phases, Entry, Heap, graph_of, words_granted, words_returned, Graph, Stage, Budget, State, seat_at, at, Book, fragment_at, BudgetsStand}
use Rattle.core_rule.proofs.Terms.{SweepCounts, kept_sum, words_of_object, words_in_half, nodes_in, copying_words, unreturned, returned_in_cycle, HalvesStand, AwaitsCopy}
use Rattle.core_rule.proofs.Terms.{IsBeforeNext, IsEarlyRange, IsLeaving, IsLeftBehind, WhileCopying, half_at, IsKept, node_at, Owner, copy_in, Rule, SpaceStands, next_spine}
use Rattle.heap_model.specs.PhasePlan.{sweep as sweep_phase}
use Rattle.heap_words.specs.declared.spot.Spot.{Spot}
use Rattle.core_machine.specs.declared.collector.stage.Copying.{Copying}
use Rattle.core_machine.specs.declared.collector.stage.Stage.TheVariants as stages
use Rattle.core_rule.proofs.objects.ObjectFrames.{SameKept}
use Rattle.core_rule.proofs.budgets.BudgetFrames.{kept_sum_stays}
use Rattle.core_rule.proofs.halves.Leaving.{arrays_in_next_spine_half}
use Rattle.core_rule.proofs.spines.OtherWords.{LeavesPlaces}
use Rattle.core_rule.proofs.halves.StagesOn.{copy_in_hand_at_stage}
use Rattle.core_rule.proofs.steps.TurnSteps.{after_turn}

-- nothing is copied at the stage
abbrev pub CopiesNone : Stage → Type 0
CopiesNone (stages.Copying stage) = ⊥
CopiesNone _ = Unit {0}

none_words : (stage : Stage) → CopiesNone stage → copying_words stage ≡ 0
none_words (stages.Copying stage) none = absurd none
none_words _ none = refl

none_copy : (stage : Stage) → CopiesNone stage → copy_in stage ≡ None
none_copy (stages.Copying stage) none = absurd none
none_copy _ none = refl

none_copies : (P : Copying → Type 0) (stage : Stage) → CopiesNone stage → WhileCopying P stage
none_copies P (stages.Copying stage) none = absurd none
none_copies P _ none = tt

none_awaits : (phase : ℕ) (stage : Stage) (f : ℕ) → phase % cycle_phases ≡ sweep_phase → CopiesNone stage → ¬ AwaitsCopy phase stage f
none_awaits phase stages.Looking f swept none waits = omega (arith, swept, waits)
none_awaits phase stages.Advancing f swept none waits = omega (arith, swept, waits)
none_awaits phase (stages.Copying stage) f swept none waits = none
none_awaits phase _ f swept none waits = waits

module _ (heap : Heap) (state : State) (book : Book) (rule : Rule heap state book) (swept : state.collector.phase % cycle_phases ≡ sweep_phase) (was_none : CopiesNone state.collector.stage) (stage : Stage) (none : CopiesNone stage)
    (words : List ℕ) (places : LeavesPlaces heap state.words words) (log history : List Entry) (graph : graph_of heap history ≡ graph_of heap book.history)
    (owner : ℕ → Owner) (same : SameKept book.owner owner) where
  abbrev p : ℕ
  p = state.collector.phase

  abbrev next : Spot
  next = next_spine heap state.words

  abbrev pub later : Book
  later = record book { history = history; owner = owner }

  abbrev pub turned : State
  turned = after_turn state words (record state.collector { stage = stage; log = log })

  -- so many words are returned by the turn
  pub record Sweeps (returns : ℕ) : Type 0 where
    pub less : unreturned heap state book ≡ unreturned heap turned later + returns
    pub budget : at heap words Budget + returns ≡ at heap state.words Budget
    pub granted : words_granted history ≡ words_granted book.history
    pub told : words_returned history ≡ words_returned book.history + returns
    pub in_cycle : returned_in_cycle history ≡ returned_in_cycle book.history + returns
    pub counts : SweepCounts (words_of_object (nodes_in heap later)) owner stage

  leaves : (stage : Stage) → IsLeaving p stage
  leaves stage = inr (inr swept)

  kept : kept_sum heap (words_of_object (nodes_in heap later)) owner ≡ kept_sum heap (words_of_object (nodes_in heap book)) book.owner
  kept = kept_sum_stays (words_of_object (nodes_in heap book)) (words_of_object (nodes_in heap later)) (λ i. ap (λ (g : Graph). words_of_object (node_at g book.made) i) graph) heap book.owner owner same

  here : kept_sum heap (words_in_half next.half (nodes_in heap later) book.spines) owner ≡ kept_sum heap (words_in_half next.half (nodes_in heap book) book.spines) book.owner
  here = kept_sum_stays (words_in_half next.half (nodes_in heap book) book.spines) (words_in_half next.half (nodes_in heap later) book.spines)
      (λ i. ap (λ (g : Graph). words_in_half next.half (node_at g book.made) book.spines i) graph) heap book.owner owner same

  budgets_swept : (returns : ℕ) → Sweeps returns → BudgetsStand heap turned later
  budgets_swept returns sweeps =
      let old = rule.space.budgets in
      let was = none_words state.collector.stage was_none in
      let is = none_words stage none in
      record {
        level = λ unleft. absurd (unleft (leaves stage));
        leaving = rw places.spot (λ left. omega (arith, old.leaving (leaves state.collector.stage), here, was, is));
        word = omega (arith, old.word, sweeps.budget, sweeps.less, kept);
        told = omega (arith, old.told, sweeps.granted, sweeps.told, sweeps.less, kept);
        low = omega (arith, old.low, sweeps.less, kept);
        returned = omega (arith, old.returned, sweeps.in_cycle, sweeps.less);
        early = λ between. let upto = between.upto in absurd (omega (arith, upto, swept));
        counts = sweeps.counts;
      }

  -- all that stands in a half stays where it is
  halves_swept : HalvesStand heap turned later
  halves_swept =
      let old = rule.space.halves in
      let fifth : 3 < p % cycle_phases = omega (arith, swept) in
      record {
        half = rw places.spot (old.half ∙ half_same);
        before = rw places.spot (λ half offset some. elim (old.before half offset some) as (λ _. IsBeforeNext next half offset ⊎ IsLeftBehind heap next p stage half offset) [
          | inl before ↦ inl before
          | inr behind ↦ inr record { leaving = leaves stage; a_half = behind.a_half; other = behind.other; before = behind.before }
        ]);
        arrays = rw places.spot (λ i below is kind. inl (array_here i below (same.was (fragment_at (book.fragments i) 0) i 0 is) (ap (λ (g : Graph). (node_at g book.made i).array) (sym graph) ∙ kind)));
        hands = rw places.spot (λ r below has. elim (old.hands r below has) as (λ _. ((seat_at state r).spine.half ≡ next.half) ⊎ IsEarlyRange p stage (seat_at state r).answered) [
          | inl there ↦ inl there
          | inr early ↦ inr record { leaving = leaves stage; behind = early.behind }
        ]);
        swung = λ copies. absurd (omega (arith, copies, swept));
        copies = none_copies _ stage none;
        copy = copy_in_hand_at_stage heap state.words words book.spine_owner state.collector.stage stage places.spines (none_copy stage none ∙ sym (none_copy state.collector.stage was_none)) old.copy;
      }
    where
      half_same : half_at p state.collector.stage ≡ half_at p stage
      half_same = rw swept refl

      array_here : (i : ℕ) → i < length book.made → IsKept book.owner book.fragments i → (nodes_in heap book i).array ≡ true → (book.spines i).half ≡ next.half
      array_here = arrays_in_next_spine_half heap state book rule.space.halves (λ f. none_awaits p state.collector.stage f swept was_none)

  -- so it stands
  pub space_stands_after_sweep : (returns : ℕ) → Sweeps returns → SpaceStands heap turned later
  space_stands_after_sweep returns sweeps = record { budgets = budgets_swept returns sweeps; halves = halves_swept }
