-- The spine space once marking has ended: the words of arrays that are to be freed are granted until the sweep returns them.
use Rattle.std.proofs.Common.{◌≡◌, ◌≢◌, ℕ, ◌+◌, ◌%◌, ◌<◌, ◌⊎◌, Bool, true, length, inl, inr, refl, sym, ap, ◌∙◌, subst, arith}
use Rattle.core_rule.proofs.Terms.{cycle_phases, Heap, Collector, State, Book, fragment_at, BudgetsStand, kept_weight, dead_weight, kept_sum, dead_sum, words_of_object}
use Rattle.core_rule.proofs.Terms.{words_in_half, nodes_in, returning, copying_words, returned_in_cycle, HalvesStand, AwaitsCopy, IsBeforeNext, IsLeftBehind, IsKept, Kept, Rule}
use Rattle.core_rule.proofs.Terms.{SpaceStands, next_spine}
use Rattle.heap_model.specs.PhasePlan.{marking as marking_phase}
use Rattle.core_machine.specs.declared.collector.stage.Stage.TheVariants as stages
use Rattle.core_rule.proofs.marking.Settled.{settled_kept_was_marked, settled_bit_same}
use Rattle.core_rule.proofs.dying.DyingWords.{settled_book, head_colour, settled_word, placed_before_settling}
use Rattle.core_rule.proofs.halves.HalfSums.{kept_sum_of_equal_weights, words_in_own_half, kept_and_dead_sums_same}
use Rattle.core_rule.proofs.halves.HalvesFrames.{IsPlain}
use Rattle.core_rule.proofs.halves.StagesOn.{plain_stage_goes_on}
use Rattle.core_rule.proofs.halves.Leaving.{marking_is_not_leaving, uncopied_is_not_placed, copy_in_hand_where_none, arrays_in_next_spine_half, seat_spine_in_next_half}
use Rattle.core_rule.proofs.steps.TurnSteps.{after_turn}

module _ (heap : Heap) (state : State) (book : Book) (rule : Rule heap state book) (group : ℕ) (found : Bool) (passing : state.collector.stage ≡ stages.Passing group found)
    (third : state.collector.phase % cycle_phases ≡ marking_phase) where
  abbrev now : Book
  now = settled_book book

  abbrev is : Collector
  is = record state.collector { stage = stages.Flipping }

  abbrev words : ℕ → ℕ
  words = words_of_object (nodes_in heap book)

  abbrev half : ℕ
  half = (next_spine heap state.words).half

  before_flip : state.collector.stage ≢ stages.Advancing
  before_flip advances = absurd (cc (passing, advances))

  -- all arrays stand in the half of the next spine
  stand_here : (i : ℕ) → i < length book.made → IsKept book.owner book.fragments i → (nodes_in heap book i).array ≡ true → (book.spines i).half ≡ half
  stand_here = arrays_in_next_spine_half heap state book rule.space.halves (λ f waits. subst (λ stage. AwaitsCopy state.collector.phase stage f) passing waits)

  -- so what is kept has all its words there, before and after
  kept_here : (f i k : ℕ) → book.owner f ≡ Kept i k → words_in_half half (nodes_in heap book) book.spines i ≡ words i
  kept_here f i k kept = let one = rule.heap_stands.objects.back f i k kept in words_in_own_half half (nodes_in heap book) book.spines i (stand_here i one.0 one.1)

  was_here : kept_sum heap (words_in_half half (nodes_in heap book) book.spines) book.owner ≡ kept_sum heap words book.owner
  was_here = kept_sum_of_equal_weights heap book.owner words (words_in_half half (nodes_in heap book) book.spines) kept_here

  is_here : kept_sum heap (words_in_half half (nodes_in heap book) book.spines) now.owner ≡ kept_sum heap words now.owner
  is_here = kept_sum_of_equal_weights heap now.owner words (words_in_half half (nodes_in heap book) book.spines)
      (λ f i k kept. kept_here f i k (settled_kept_was_marked (book.owner f) (book.colour f) i k kept).0)

  -- the words of what dies are those that are to be returned
  both_same : kept_sum heap words now.owner + dead_sum heap words now.owner ≡ kept_sum heap words book.owner + dead_sum heap words book.owner
  both_same = kept_and_dead_sums_same heap words book.owner now.owner
      (λ f. settled_bit_same (λ o. kept_weight words o + dead_weight words o) (λ i k. omega arith) (book.owner f) (book.colour f))

  none_returning : returning state.collector.stage ≡ 0
  none_returning = rw passing refl

  none_copying : copying_words state.collector.stage ≡ 0
  none_copying = rw passing refl

  early : returned_in_cycle book.history ≡ 0
  early = rule.space.budgets.early record { from = omega (arith, third); upto = omega (arith, third) }

  budgets_settle : BudgetsStand heap (after_turn state state.words is) now
  budgets_settle =
      let old = rule.space.budgets in
      record {
        level = λ unleft. omega (arith, old.level (marking_is_not_leaving state.collector.phase state.collector.stage third before_flip), was_here, is_here, both_same, none_returning, none_copying);
        leaving = λ leaving. absurd (marking_is_not_leaving state.collector.phase stages.Flipping third (λ e. cc) leaving);
        word = omega (arith, old.word, both_same, none_returning);
        told = omega (arith, old.told, both_same, none_returning);
        low = omega (arith, old.low, both_same, none_returning);
        returned = omega (arith, early, old.low, both_same, none_returning);
        early = λ between. early;
        counts = tt;
      }

  halves_settle : HalvesStand heap (after_turn state state.words is) now
  halves_settle =
      let old = rule.space.halves in
      let on = plain_stage_goes_on heap state.words state.words book state.collector is refl (subst IsPlain (sym passing) tt) tt (λ half offset. refl) old.copy in
      record {
        half = old.half ∙ sym on.half;
        before = λ half offset some. elim (old.before half offset (λ none. some (ap (settled_word (head_colour book.colour book.fragments)) none)))
            as (λ _. IsBeforeNext (next_spine heap state.words) half offset ⊎ IsLeftBehind heap (next_spine heap state.words) state.collector.phase stages.Flipping half offset) [
              | inl here ↦ inl here
              | inr behind ↦ absurd (marking_is_not_leaving state.collector.phase state.collector.stage third before_flip behind.leaving)
            ];
        arrays = λ i below kept kind. inl (stand_here i below (settled_kept_was_marked (book.owner (fragment_at (book.fragments i) 0)) (book.colour (fragment_at (book.fragments i) 0)) i 0 kept).0 kind);
        hands = λ r below has. inl (seat_spine_in_next_half heap state book old r below (λ range. marking_is_not_leaving state.collector.phase state.collector.stage third before_flip range.leaving) has);
        swung = λ copies. absurd (omega (arith, copies, third));
        copies = tt;
        copy = copy_in_hand_where_none heap state.words now.spine_owner stages.Flipping refl (λ half offset k placed. uncopied_is_not_placed heap state.words book.spine_owner state.collector.stage (rw passing refl) old.copy half offset k
            (placed_before_settling (head_colour book.colour book.fragments) (book.spine_owner half offset) heap.seats k placed));
      }

  -- the spine space stands before the flip
  pub space_stands_after_settling : SpaceStands heap (after_turn state state.words is) now
  space_stands_after_settling = record { budgets = budgets_settle; halves = halves_settle }
