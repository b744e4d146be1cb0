-- In which half each spine stands stays so where a seat's step leaves the spine words, and where a turn leads to another stage.
use Rattle.std.proofs.Common.{◌≡◌, ◌≢◌, ℕ, ◌%◌, ◌<◌, List, length, slice_set, sym, ap, ◌∙◌, subst, inl, inr, Option, Some, None, slice_index_or, arith}
use Rattle.std.specs.Prelude.{◌⊎◌, IfSome}
use Rattle.std.proofs.lemmas.Bool.Decides.{eqb_tells}
use Rattle.std.proofs.lemmas.List.{get_or-set_same, get_or-set_other}
use Rattle.heap_words.specs.declared.spot.Spot.{Spot}
use Rattle.core_rule.proofs.Terms.{Heap, Id, barriers, cycle_phases, Collector, Stage, State, seat_at, Seat, absent_seat, Book, fragment_at, id_at, BudgetsStand, SweepCounts}
use Rattle.core_rule.proofs.Terms.{words_of_object, nodes_in, returning, copying_words, IsMarked, IsBetween, HalvesStand, AwaitsCopy, IsBeforeNext, IsEarlyRange, IsLeaving}
use Rattle.core_rule.proofs.Terms.{IsLeftBehind, WhileCopying, half_at, IsKept, Kept, SpineOwner, CopyingStands, CopyInHand, copy_in, HasPlace, next_spine}
use Rattle.heap_model.specs.account.Sweep.{HasSwung}
use Rattle.heap_model.specs.PhasePlan.{copying as copying_phase}
use Rattle.core_machine.specs.declared.collector.stage.Stage.TheVariants as stages
use Rattle.core_rule.proofs.budgets.BudgetFrames.{stepped, SameGrants, kept_words_same, dead_words_same, kept_words_in_half_same}
use Rattle.core_rule.proofs.halves.CopiesGo.{HeadStays, copying_stands_still}
use Rattle.core_rule.proofs.budgets.NoneMade.{SameRange}
use Rattle.core_rule.proofs.spines.OtherWords.{LeavesPlaces, LeavesSpines}
use Rattle.core_rule.proofs.words.Addresses.{SameSpines}

-- a seat's new data leave the other seats'
pub holds_of_each_seat : (P : ℕ → Seat → Type 0) (seats : List Seat) (number : ℕ) (seat : Seat) → number < length seats → P number seat
    → (r : ℕ) → (r ≢ number → P r (slice_index_or seats r absent_seat)) → P r (slice_index_or (slice_set seats number seat) r absent_seat)
holds_of_each_seat P seats number seat here self r other = elim (eqb_tells r number) as (λ _. P r (slice_index_or (slice_set seats number seat) r absent_seat)) [
  | inl same ↦ subst (λ n. P n (slice_index_or (slice_set seats number seat) n absent_seat)) (sym same.1) (subst (P number) (sym (get_or-set_same seats number seat absent_seat here)) self)
  | inr apart ↦ subst (P r) (sym (get_or-set_other seats number r seat absent_seat apart.1)) (other apart.1)
]

-- what is true of each value that there may be
pub if_some_of_each : {A : Type 0} {P Q : A → Type 0} (o : Option A) → ((a : A) → P a → Q a) → IfSome o P → IfSome o Q
if_some_of_each None f is = tt
if_some_of_each (Some a) f is = f a is

-- the seat's spine stands in the half of the next spine, or was claimed before the flip
abbrev pub InItsHalf : Heap → State → ℕ → Seat → Type 0
InItsHalf heap state number seat = HasPlace seat seat.point → (seat.spine.half ≡ (next_spine heap state.words).half) ⊎ IsEarlyRange state.collector.phase state.collector.stage seat.answered

module _ (heap : Heap) (book now : Book) (grants : SameGrants heap book now) where
  -- the same arrays are kept, with the same spines
  pub was_kept : (i : ℕ) → IsKept now.owner now.fragments i → IsKept book.owner book.fragments i
  was_kept i is = subst (λ (fragments : ℕ → List ℕ). IsKept book.owner fragments i) grants.fragments (grants.kept.was (fragment_at (now.fragments i) 0) i 0 is)

  pub was_made : (i : ℕ) → i < length now.made → i < length book.made
  was_made i = subst (λ (made : List Id). i < length made) grants.made

  pub head_same : (i : ℕ) → fragment_at (now.fragments i) 0 ≡ fragment_at (book.fragments i) 0
  head_same i = ap (λ (fragments : ℕ → List ℕ). fragment_at (fragments i) 0) grants.fragments

  pub spine_same : (i : ℕ) → now.spines i ≡ book.spines i
  spine_same i = ap (λ (spines : ℕ → Spot). spines i) grants.spines

  pub owner_same : (half offset : ℕ) → now.spine_owner half offset ≡ book.spine_owner half offset
  owner_same half offset = ap (λ (owner : ℕ → ℕ → SpineOwner). owner half offset) grants.spine_owner

  -- what is kept goes on with its name, its fragments and its spine
  heads_same : (f i : ℕ) → book.owner f ≡ Kept i 0
      → HeadStays (nodes_in heap book) (nodes_in heap now) book.made now.made now.owner book.fragments now.fragments book.spines now.spines f i
  heads_same f i is = record {
    kept = grants.kept.stays f i 0 is;
    id = ap (λ (made : List Id). id_at made i) grants.made;
    fragments_stay = ap (λ (fragments : ℕ → List ℕ). fragments i) grants.fragments;
    spine = spine_same i;
    shape = grants.shapes i;
  }

  -- and copying has found what it had found, where what was marked is
  pub while_copies_same : ((f : ℕ) → IsMarked book.colour f → IsMarked now.colour f) → (half : ℕ) (stage : Stage)
      → WhileCopying (CopyingStands (nodes_in heap book) book.made book.owner book.colour book.fragments book.spines half) stage
      → WhileCopying (CopyingStands (nodes_in heap now) now.made now.owner now.colour now.fragments now.spines half) stage
  while_copies_same marked = copying_stands_still (nodes_in heap book) (nodes_in heap now) book.made now.made book.owner now.owner book.colour now.colour book.fragments now.fragments book.spines now.spines marked heads_same

-- the copy in progress is right where the spine words are as before, and whose they are
pub copy_in_hand_where_same : (heap : Heap) (words now : List ℕ) (was later : ℕ → ℕ → SpineOwner) (stage : Stage) → SameSpines heap words now → ((half offset : ℕ) → later half offset ≡ was half offset)
    → CopyInHand heap words was stage → CopyInHand heap now later stage
copy_in_hand_where_same heap words now was later stage same owners old = record {
  placed = if_some_of_each (copy_in stage) (λ copy placed j less. owners _ _ ∙ placed j less) old.placed;
  own = λ half offset j is. old.own half offset j (sym (owners half offset) ∙ is);
  copied = if_some_of_each (copy_in stage) (λ copy copied j less. same _ _ ∙ copied j less ∙ sym (same _ _)) old.copied;
}

-- so spines stand in their halves after a seat's step
pub halves_stand_after_step : (heap : Heap) (state : State) (book : Book) (number : ℕ) (words : List ℕ) (seat : Seat) (now : Book) → number < heap.seats → length state.seats ≡ heap.seats
    → LeavesPlaces heap state.words words → SameRange (seat_at state number) seat → SameGrants heap book now → ((f : ℕ) → IsMarked book.colour f → IsMarked now.colour f)
    → HalvesStand heap state book → HalvesStand heap (stepped state number words seat) now
halves_stand_after_step heap state book number words seat now here seated leaves range grants marked old = record {
  half = rw leaves.spot old.half;
  before = rw leaves.spot (λ half offset some. old.before half offset (λ none. some (owner_same heap book now grants half offset ∙ none)));
  arrays = rw leaves.spot (λ i below is an_array.
      subst (λ f. ((now.spines i).half ≡ (next_spine heap state.words).half) ⊎ AwaitsCopy state.collector.phase state.collector.stage f) (sym (head_same heap book now grants i))
      (subst (λ (s : Spot). (s.half ≡ (next_spine heap state.words).half) ⊎ AwaitsCopy state.collector.phase state.collector.stage (fragment_at (book.fragments i) 0)) (sym (spine_same heap book now grants i))
      (old.arrays i (was_made heap book now grants i below) (was_kept heap book now grants i is) (sym (grants.shapes i).kind ∙ an_array))));
  hands = rw leaves.spot (λ r below. holds_of_each_seat (λ n s. InItsHalf heap state n s) state.seats number seat (subst (λ n. number < n) (sym seated) here)
      (λ has. let was = old.hands number here (range.had has) in
      subst (λ (a : ℕ). (seat.spine.half ≡ (next_spine heap state.words).half) ⊎ IsEarlyRange state.collector.phase state.collector.stage a) (sym (range.answered has))
      (subst (λ (s : Spot). (s.half ≡ (next_spine heap state.words).half) ⊎ IsEarlyRange state.collector.phase state.collector.stage (seat_at state number).answered) (sym (range.spine has)) was))
      r (λ apart. old.hands r below));
  swung = rw leaves.spot (λ in_copying i below is has. subst (λ (s : Spot). s.half ≡ (next_spine heap state.words).half) (sym (spine_same heap book now grants i))
      (old.swung in_copying i (was_made heap book now grants i below) (was_kept heap book now grants i is)
      (subst (λ (made : List Id). HasSwung (id_at made i) book.history) grants.made (grants.told.swung (id_at now.made i) has))));
  copies = rw leaves.spot (while_copies_same heap book now grants marked (next_spine heap state.words).half state.collector.stage old.copies);
  copy = copy_in_hand_where_same heap state.words words book.spine_owner now.spine_owner state.collector.stage leaves.spines (owner_same heap book now grants) old.copy;
}

-- what spines and budgets take of a turn: it leads to a stage from which the half of the next spine is told as before, and at which copying and the sweep have what they are to have
pub record StageGoesOn (heap : Heap) (words : List ℕ) (now : Book) (was is : Collector) : Type 0 where
  pub half : half_at is.phase is.stage ≡ half_at was.phase was.stage
  pub leaves : IsLeaving was.phase was.stage → IsLeaving is.phase is.stage
  pub left : IsLeaving is.phase is.stage → IsLeaving was.phase was.stage
  pub awaits : (f : ℕ) → AwaitsCopy was.phase was.stage f → AwaitsCopy is.phase is.stage f
  pub returns : returning is.stage ≡ returning was.stage
  pub copied : copying_words is.stage ≡ copying_words was.stage
  pub early : IsBetween barriers copying_phase is.phase → IsBetween barriers copying_phase was.phase
  pub in_copying : is.phase % cycle_phases ≡ copying_phase → was.phase % cycle_phases ≡ copying_phase
  pub counts : SweepCounts (words_of_object (nodes_in heap now)) now.owner is.stage
  pub copies : WhileCopying (CopyingStands (nodes_in heap now) now.made now.owner now.colour now.fragments now.spines (next_spine heap words).half) is.stage
  pub copy : CopyInHand heap words now.spine_owner is.stage

module _ (heap : Heap) (state : State) (book : Book) (words : List ℕ) (collector : Collector) (now : Book) (leaves : LeavesSpines heap state.words words) (grants : SameGrants heap book now)
    (on : StageGoesOn heap words now state.collector collector) where
  abbrev turned : State
  turned = record state { words = words; collector = collector }

  -- so the budget stands after the turn
  pub budgets_stand_after_turn : BudgetsStand heap state book → BudgetsStand heap turned now
  budgets_stand_after_turn old =
      let kept = kept_words_same heap book now grants in
      let dead = dead_words_same heap book now grants in
      record {
        level = rw leaves.spot (λ is. omega (arith, old.level (λ was. is (on.leaves was)), kept_words_in_half_same heap book now grants (next_spine heap state.words).half, dead, on.copied, on.returns));
        leaving = rw leaves.spot (λ is. omega (arith, old.leaving (on.left is), kept_words_in_half_same heap book now grants (next_spine heap state.words).half, on.copied));
        word = omega (arith, leaves.budget, old.word, kept, dead, on.returns);
        told = omega (arith, old.told, grants.told.granted, grants.told.returned, kept, dead, on.returns);
        low = omega (arith, old.low, kept, dead, on.returns);
        returned = omega (arith, old.returned, grants.told.in_cycle, dead, on.returns);
        early = λ is. grants.told.in_cycle ∙ old.early (on.early is);
        counts = on.counts;
      }

  -- and so do the spines in their halves
  pub halves_stand_after_turn : HalvesStand heap state book → HalvesStand heap turned now
  halves_stand_after_turn old = record {
    half = rw leaves.spot (old.half ∙ sym on.half);
    before = rw leaves.spot (λ half offset some. elim (old.before half offset (λ none. some (owner_same heap book now grants half offset ∙ none)))
        as (λ _. IsBeforeNext (next_spine heap state.words) half offset ⊎ IsLeftBehind heap (next_spine heap state.words) collector.phase collector.stage half offset) [
          | inl here ↦ inl here
          | inr behind ↦ inr record { leaving = on.leaves behind.leaving; a_half = behind.a_half; other = behind.other; before = behind.before }
        ]);
    arrays = rw leaves.spot (λ i below is an_array. elim (old.arrays i (was_made heap book now grants i below) (was_kept heap book now grants i is) (sym (grants.shapes i).kind ∙ an_array))
        as (λ _. ((now.spines i).half ≡ (next_spine heap state.words).half) ⊎ AwaitsCopy collector.phase collector.stage (fragment_at (now.fragments i) 0)) [
          | inl here ↦ inl (ap (λ (s : Spot). s.half) (spine_same heap book now grants i) ∙ here)
          | inr waits ↦ inr (subst (AwaitsCopy collector.phase collector.stage) (sym (head_same heap book now grants i)) (on.awaits (fragment_at (book.fragments i) 0) waits))
        ]);
    hands = rw leaves.spot (λ r below has. elim (old.hands r below has)
        as (λ _. ((seat_at state r).spine.half ≡ (next_spine heap state.words).half) ⊎ IsEarlyRange collector.phase collector.stage (seat_at state r).answered) [
          | inl here ↦ inl here
          | inr early ↦ inr record { leaving = on.leaves early.leaving; behind = early.behind }
        ]);
    swung = rw leaves.spot (λ in_copying i below is has. ap (λ (s : Spot). s.half) (spine_same heap book now grants i)
        ∙ old.swung (on.in_copying in_copying) i (was_made heap book now grants i below) (was_kept heap book now grants i is)
        (subst (λ (made : List Id). HasSwung (id_at made i) book.history) grants.made (grants.told.swung (id_at now.made i) has)));
    copies = on.copies;
    copy = on.copy;
  }

-- a stage at which nothing is copied, returned or counted, and that no flip has come before in its phase
abbrev pub IsPlain : Stage → Type 0
IsPlain stages.Looking = ⊥
IsPlain stages.Advancing = ⊥
IsPlain (stages.Copying stage) = ⊥
IsPlain (stages.Examining group dead position counted) = ⊥
IsPlain (stages.Freeing group dead counted) = ⊥
IsPlain (stages.Returning group counted) = ⊥
IsPlain _ = Unit {0}
