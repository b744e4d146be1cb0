-- The budget at the steps that change it: spine words are asked for, taken back, get their place, and become an array's.
use Rattle.std.proofs.Common.{◌≡◌, ℕ, ◌+◌, ◌-◌, ◌%◌, ◌^◌, ◌<◌, ◌≤◌, List, length, refl, sym, ◌∙◌, subst, arith}
use Rattle.core_rule.proofs.Terms.{Entry, Heap, words_granted, words_returned, Stage, State, seat_at, IsMachine, Seat, at, Book, BudgetsStand, SweepCounts, of_seats, granted}
use Rattle.core_rule.proofs.Terms.{granted_at, placed_at, refused_at, kept_sum, dead_sum, words_of_object, words_in_half, nodes_in, placed_words, unreturned, returned_in_cycle}
use Rattle.core_rule.proofs.Terms.{SpineOwner, next_spine}
use Rattle.core_machine.specs.declared.table.address.Address.TheVariants as addresses
use Rattle.core_rule.proofs.budgets.BudgetFrames.{stepped, seat_sum_after_step, SameGrants, kept_words_same, dead_words_same, kept_words_in_half_same, sweep_counts_same}
use Rattle.core_rule.proofs.spines.OtherWords.{LeavesSpines}
use Rattle.core_rule.proofs.budgets.WeightSums.{seat_sums_within_limit}

-- how many words a call has granted, placed in this half, and refused
pub record HasWeights (half : ℕ) (seat : Seat) (given placed refused : ℕ) : Type 0 where
  pub given_is : granted_at seat seat.point ≡ given
  pub placed_is : placed_at half seat seat.point ≡ placed
  pub refused_is : refused_at seat seat.point ≡ refused

-- the new book tells of an array's words that are granted to it
pub record TellsBorn (history now : List Entry) (given : ℕ) : Type 0 where
  pub granted : words_granted now ≡ words_granted history + given
  pub returned : words_returned now ≡ words_returned history
  pub in_cycle : returned_in_cycle now ≡ returned_in_cycle history

-- it keeps an array with so many words, of which so many are in this half, and what is to be freed is as before
pub record KeepsBorn (heap : Heap) (book now : Book) (stage : Stage) (half given placed : ℕ) : Type 0 where
  pub kept : kept_sum heap (words_of_object (nodes_in heap now)) now.owner ≡ kept_sum heap (words_of_object (nodes_in heap book)) book.owner + given
  pub in_half : kept_sum heap (words_in_half half (nodes_in heap now) now.spines) now.owner ≡ kept_sum heap (words_in_half half (nodes_in heap book) book.spines) book.owner + placed
  pub dead : dead_sum heap (words_of_object (nodes_in heap now)) now.owner ≡ dead_sum heap (words_of_object (nodes_in heap book)) book.owner
  pub counts : SweepCounts (words_of_object (nodes_in heap book)) book.owner stage → SweepCounts (words_of_object (nodes_in heap now)) now.owner stage

module _ (heap : Heap) (state : State) (book : Book) (number : ℕ) (here : number < heap.seats) (seated : length state.seats ≡ heap.seats) (words : List ℕ) (seat : Seat)
    (given placed refused : ℕ) (was : HasWeights (next_spine heap state.words).half (seat_at state number) given placed refused)
    (new_given new_placed new_refused : ℕ) (is : HasWeights (next_spine heap state.words).half seat new_given new_placed new_refused) where
  abbrev half : ℕ
  half = (next_spine heap state.words).half

  given_change : of_seats heap (stepped state number words seat) granted_at + given ≡ of_seats heap state granted_at + new_given
  given_change = omega (arith, seat_sum_after_step heap state number words seat granted_at here seated, was.given_is, is.given_is)

  placed_change : of_seats heap (stepped state number words seat) (placed_at half) + placed ≡ of_seats heap state (placed_at half) + new_placed
  placed_change = omega (arith, seat_sum_after_step heap state number words seat (placed_at half) here seated, was.placed_is, is.placed_is)

  pub refused_sum_after_step : of_seats heap (stepped state number words seat) refused_at + refused ≡ of_seats heap state refused_at + new_refused
  refused_sum_after_step = omega (arith, seat_sum_after_step heap state number words seat refused_at here seated, was.refused_is, is.refused_is)

  -- where the words and what the seat has granted, placed and refused change together, and what is granted goes on to be little
  pub budgets_stand_after_change : (now : Book) → SameGrants heap book now → (next_spine heap words).half ≡ half
      → (next_spine heap words).offset + placed ≡ (next_spine heap state.words).offset + new_placed
      → at heap words addresses.Budget + given + refused ≡ at heap state.words addresses.Budget + new_given + new_refused
      → granted heap state book + new_given ≤ heap.spine + given
      → BudgetsStand heap state book → BudgetsStand heap (stepped state number words seat) now
  budgets_stand_after_change now grants same spot budget low old =
      let kept = kept_words_same heap book now grants in
      let dead = dead_words_same heap book now grants in
      record {
        level = λ stays. subst (λ h. (next_spine heap words).offset ≡ placed_words heap (stepped state number words seat) now h + unreturned heap (stepped state number words seat) now) (sym same)
            (omega (arith, old.level stays, spot, placed_change, kept_words_in_half_same heap book now grants half, dead));
        leaving = λ leaves. subst (λ h. (next_spine heap words).offset ≡ placed_words heap (stepped state number words seat) now h) (sym same)
            (omega (arith, old.leaving leaves, spot, placed_change, kept_words_in_half_same heap book now grants half));
        word = omega (arith, old.word, given_change, refused_sum_after_step, budget, kept, dead);
        told = omega (arith, old.told, given_change, grants.told.granted, grants.told.returned, kept, dead);
        low = omega (arith, low, given_change, kept, dead);
        returned = omega (arith, old.returned, grants.told.in_cycle, dead);
        early = λ between. grants.told.in_cycle ∙ old.early between;
        counts = sweep_counts_same heap book now grants state.collector.stage old.counts;
      }

  -- the seat's granted words become those of a new array, which the history tells
  pub budgets_stand_after_birth : (now : Book) → new_given ≡ 0 → new_placed ≡ 0 → new_refused ≡ refused → TellsBorn book.history now.history given
      → KeepsBorn heap book now state.collector.stage half given placed → LeavesSpines heap state.words words
      → BudgetsStand heap state book → BudgetsStand heap (stepped state number words seat) now
  budgets_stand_after_birth now none none_placed same_refused told keeps leaves old = record {
    level = rw leaves.spot (λ stays. omega (arith, old.level stays, placed_change, none_placed, keeps.in_half, keeps.dead));
    leaving = rw leaves.spot (λ leaving. omega (arith, old.leaving leaving, placed_change, none_placed, keeps.in_half));
    word = omega (arith, leaves.budget, old.word, given_change, refused_sum_after_step, none, same_refused, keeps.kept, keeps.dead);
    told = omega (arith, old.told, given_change, none, told.granted, told.returned, keeps.kept, keeps.dead);
    low = omega (arith, old.low, given_change, none, keeps.kept, keeps.dead);
    returned = omega (arith, old.returned, told.in_cycle, keeps.dead);
    early = λ between. told.in_cycle ∙ old.early between;
    counts = keeps.counts old.counts;
  }

-- it stands where no more changes than words, but not the budget's nor that of the next spine's place, than the collector's entries, and than the owners of spine words
budgets_beside : (heap : Heap) (state : State) (book : Book) (words : List ℕ) (log : List Entry) (spine_owner : ℕ → ℕ → SpineOwner)
    → at heap words addresses.Spot ≡ at heap state.words addresses.Spot → at heap words addresses.Budget ≡ at heap state.words addresses.Budget → BudgetsStand heap state book
    → BudgetsStand heap (record state { words = words; collector = record state.collector { log = log } }) (record book { spine_owner = spine_owner })
budgets_beside heap state book words log spine_owner spot budget old = record {
  level = rw spot old.level;
  leaving = rw spot old.leaving;
  word = budget ∙ old.word;
  told = old.told;
  low = old.low;
  returned = old.returned;
  early = old.early;
  counts = old.counts;
}

pub budgets_stand_with_words : (heap : Heap) (state : State) (book : Book) (words : List ℕ) → at heap words addresses.Spot ≡ at heap state.words addresses.Spot
    → at heap words addresses.Budget ≡ at heap state.words addresses.Budget → BudgetsStand heap state book → BudgetsStand heap (record state { words = words }) book
budgets_stand_with_words heap state book words spot budget old = budgets_beside heap state book words state.collector.log book.spine_owner spot budget old

pub budgets_stand_with_spine_owners : (heap : Heap) (state : State) (book : Book) (spine_owner : ℕ → ℕ → SpineOwner) → BudgetsStand heap state book → BudgetsStand heap state (record book { spine_owner = spine_owner })
budgets_stand_with_spine_owners heap state book spine_owner old = budgets_beside heap state book state.words state.collector.log spine_owner refl refl old

pub budgets_stand_with_log : (heap : Heap) (state : State) (book : Book) (log : List Entry) → BudgetsStand heap state book
    → BudgetsStand heap (record state { collector = record state.collector { log = log } }) book
budgets_stand_with_log heap state book log old = budgets_beside heap state book state.words log book.spine_owner refl refl old

-- the budget word is far below 2^64
pub budget_word_is_small : (heap : Heap) (state : State) (book : Book) → IsMachine heap state → BudgetsStand heap state book → at heap state.words addresses.Budget ≤ 32768
budget_word_is_small heap state book machine stands =
    omega (arith, stands.word, stands.low, seat_sums_within_limit heap state machine, machine.limits.seats_fit, machine.limits.spine_fits)

-- it grows by what is asked for, and falls by what is taken back
pub grown_budget_fits_word : (found need : ℕ) → found ≤ 32768 → need ≤ 1024 → (found + need) % 2 ^ 64 ≡ found + need
grown_budget_fits_word found need few little = grind (arith, few, little)

pub fallen_budget_fits_word : (found need : ℕ) → found ≤ 32768 → need ≤ found → (found + 2 ^ 64 - need) % 2 ^ 64 + need ≡ found
fallen_budget_fits_word found need few there = omega (arith, few, there)
