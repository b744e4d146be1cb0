-- The spine words that are granted stand as before where a step asks for none and gives none.
use Rattle.std.proofs.Common.{◌≡◌, ℕ, ◌+◌, ◌*◌, ◌<◌, ◌==◌, List, [], ◌∷◌, ◌++◌, length, slice_set, refl, sym, ap, ◌∙◌, subst, arith}
use Rattle.std.specs.Prelude.{if◌then◌else◌}
use Rattle.std.proofs.lemmas.List.{get_or-set_same, get_or-set_other}
use Rattle.core_rule.proofs.Terms.{Entry, Heap, Id, effect_of, words_granted, words_returned, Stage, sum_upto, Point, State, seat_at, Seat, absent_seat, Book, Colour, BudgetsStand}
use Rattle.core_rule.proofs.Terms.{SweepCounts, of_seats, granted_at, placed_at, refused_at, kept_weight, dead_weight, kept_sum, dead_sum, words_of_object, words_in_half, nodes_in}
use Rattle.core_rule.proofs.Terms.{returned_in_cycle, Owner, Kept, Dead, next_spine}
use Rattle.heap_words.specs.declared.spot.Spot.{Spot}
use Rattle.heap_model.specs.account.Sweep.{HasSwung}
use Rattle.heap_model.proofs.Histories.{total-more}
use Rattle.core_machine.specs.declared.collector.stage.Stage.TheVariants as stages
use Rattle.core_machine.proofs.table_lemmas.Free.{sum_of_same_functions, sum_but_one_number}
use Rattle.heap_model.proofs.graph_changes.Shapes.{SameShape, same_shape_same_words, same_shape_of_equal}
use Rattle.core_rule.proofs.objects.ObjectFrames.{SameKept}
use Rattle.core_rule.proofs.budgets.NoneMade.{SameWeights}
use Rattle.core_rule.proofs.spines.OtherWords.{LeavesSpines}

-- the state after a seat's step
abbrev pub stepped : State → ℕ → List ℕ → Seat → State
stepped state number words seat = record state { words = words; seats = slice_set state.seats number seat }

-- a sum over seats changes by what the seat that steps has more
pub seat_sum_after_step : (heap : Heap) (state : State) (number : ℕ) (words : List ℕ) (seat : Seat) (weight : Seat → Point → ℕ) → number < heap.seats → length state.seats ≡ heap.seats
    → of_seats heap (stepped state number words seat) weight + weight (seat_at state number) (seat_at state number).point ≡ of_seats heap state weight + weight seat seat.point
seat_sum_after_step heap state number words seat weight here seated =
    let of : Seat → ℕ = λ s. weight s s.point in
    let now : seat_at (stepped state number words seat) number ≡ seat = get_or-set_same state.seats number seat absent_seat (omega (arith, here, seated)) in
    subst (λ s. of_seats heap (stepped state number words seat) weight + of (seat_at state number) ≡ of_seats heap state weight + of s) now
    (sum_but_one_number heap.seats (λ r. of (seat_at (stepped state number words seat) r)) (λ r. of (seat_at state r)) number here
    (λ r below apart. ap of (get_or-set_other state.seats number r seat absent_seat apart)))

-- so it stays where the seat has as much as before
seats_stay : (heap : Heap) (state : State) (number : ℕ) (words : List ℕ) (seat : Seat) (weight : Seat → Point → ℕ) → number < heap.seats → length state.seats ≡ heap.seats
    → weight seat seat.point ≡ weight (seat_at state number) (seat_at state number).point → of_seats heap (stepped state number words seat) weight ≡ of_seats heap state weight
seats_stay heap state number words seat weight here seated same = omega (arith, seat_sum_after_step heap state number words seat weight here seated, same)

-- what is to be freed then was so before, and is so then where it was
pub record SameDead (owner now : ℕ → Owner) : Type 0 where
  pub stays : (f i k : ℕ) → owner f ≡ Dead i k → now f ≡ Dead i k
  pub was : (f i k : ℕ) → now f ≡ Dead i k → owner f ≡ Dead i k

pub same_dead_of_itself : (owner : ℕ → Owner) → SameDead owner owner
same_dead_of_itself owner = record { stays = λ f i k is. is; was = λ f i k is. is }

module _ (weight now_weight : ℕ → ℕ) (same : (i : ℕ) → now_weight i ≡ weight i) where
  -- a fragment counts as before where it is kept as before
  kept_weight_stays : (o now : Owner) → ((j k : ℕ) → o ≡ Kept j k → now ≡ Kept j k) → ((j k : ℕ) → now ≡ Kept j k → o ≡ Kept j k) → kept_weight now_weight now ≡ kept_weight weight o
  kept_weight_stays (Kept j k) now stays was = ap (kept_weight now_weight) (stays j k refl) ∙ ap (λ n. if k == 0 then n else 0) (same j)
  kept_weight_stays o (Kept j k) stays was = ap (λ n. if k == 0 then n else 0) (same j) ∙ ap (kept_weight weight) (sym (was j k refl))
  kept_weight_stays _ _ stays was = refl

  -- and where it is to be freed as before
  dead_weight_stays : (o now : Owner) → ((j k : ℕ) → o ≡ Dead j k → now ≡ Dead j k) → ((j k : ℕ) → now ≡ Dead j k → o ≡ Dead j k) → dead_weight now_weight now ≡ dead_weight weight o
  dead_weight_stays (Dead j k) now stays was = ap (dead_weight now_weight) (stays j k refl) ∙ ap (λ n. if k == 0 then n else 0) (same j)
  dead_weight_stays o (Dead j k) stays was = ap (λ n. if k == 0 then n else 0) (same j) ∙ ap (dead_weight weight) (sym (was j k refl))
  dead_weight_stays _ _ stays was = refl

  -- so all that is kept weighs what it weighed
  pub kept_sum_stays : (heap : Heap) (owner now : ℕ → Owner) → SameKept owner now → kept_sum heap now_weight now ≡ kept_sum heap weight owner
  kept_sum_stays heap owner now kept =
      sum_of_same_functions (16 * heap.groups) (λ f. kept_weight now_weight (now f)) (λ f. kept_weight weight (owner f)) (λ f below. kept_weight_stays (owner f) (now f) (kept.stays f) (kept.was f))

  pub dead_sum_stays : (heap : Heap) (owner now : ℕ → Owner) → SameDead owner now → dead_sum heap now_weight now ≡ dead_sum heap weight owner
  dead_sum_stays heap owner now dead =
      sum_of_same_functions (16 * heap.groups) (λ f. dead_weight now_weight (now f)) (λ f. dead_weight weight (owner f)) (λ f below. dead_weight_stays (owner f) (now f) (dead.stays f) (dead.was f))

-- an entry of this effect tells no spine words
pub granted_words_stay : (history : List Entry) (entry : Entry) → (effect_of entry).words ≡ 0 → words_granted (history ++ entry ∷ []) ≡ words_granted history
granted_words_stay history entry none = omega (arith, total-more (λ e. e.words) history entry, none)

pub returned_words_stay : (history : List Entry) (entry : Entry) → (effect_of entry).returned ≡ 0 → words_returned (history ++ entry ∷ []) ≡ words_returned history
returned_words_stay history entry none = omega (arith, total-more (λ e. e.returned) history entry, none)

-- the history tells as many spine words, also of its last cycle, and no array has swung more
pub record SameTold (history now : List Entry) : Type 0 where
  pub granted : words_granted now ≡ words_granted history
  pub returned : words_returned now ≡ words_returned history
  pub in_cycle : returned_in_cycle now ≡ returned_in_cycle history
  pub swung : (id : Id) → HasSwung id now → HasSwung id history

pub same_told_of_itself : (history : List Entry) → SameTold history history
same_told_of_itself history = record { granted = refl; returned = refl; in_cycle = refl; swung = λ id is. is }

pub told_on : (history middle now : List Entry) → SameTold history middle → SameTold middle now → SameTold history now
told_on history middle now first second = record {
  granted = second.granted ∙ first.granted;
  returned = second.returned ∙ first.returned;
  in_cycle = second.in_cycle ∙ first.in_cycle;
  swung = λ id is. first.swung id (second.swung id is);
}

-- the book tells as many spine words, and has the same objects, with their spines, and the same spine words of each
pub record SameGrants (heap : Heap) (book now : Book) : Type 0 where
  pub told : SameTold book.history now.history
  pub kept : SameKept book.owner now.owner
  pub dead : SameDead book.owner now.owner
  pub shapes : (i : ℕ) → SameShape (nodes_in heap now i) (nodes_in heap book i)
  pub made : now.made ≡ book.made
  pub fragments : now.fragments ≡ book.fragments
  pub spines : now.spines ≡ book.spines
  pub spine_owner : now.spine_owner ≡ book.spine_owner

-- so it is of one that differs by its colours and begins alone
pub same_grants_recoloured : (heap : Heap) (book : Book) (colour : ℕ → Colour) (begun : ℕ → ℕ) → SameGrants heap book (record book { colour = colour; begun = begun })
same_grants_recoloured heap book colour begun = record {
  told = same_told_of_itself book.history;
  kept = record { stays = λ f i k is. is; was = λ f i k is. is };
  dead = same_dead_of_itself book.owner;
  shapes = λ i. same_shape_of_equal (nodes_in heap book i) (nodes_in heap book i) refl;
  made = refl;
  fragments = refl;
  spines = refl;
  spine_owner = refl;
}

-- also where it went on twice
pub same_grants_twice : (heap : Heap) (book middle now : Book) → SameGrants heap book middle → SameGrants heap middle now → SameGrants heap book now
same_grants_twice heap book middle now first second = record {
  told = told_on book.history middle.history now.history first.told second.told;
  kept = record { stays = λ f i k is. second.kept.stays f i k (first.kept.stays f i k is); was = λ f i k is. first.kept.was f i k (second.kept.was f i k is) };
  dead = record { stays = λ f i k is. second.dead.stays f i k (first.dead.stays f i k is); was = λ f i k is. first.dead.was f i k (second.dead.was f i k is) };
  shapes = λ i. record { kind = (second.shapes i).kind ∙ (first.shapes i).kind; cells = (second.shapes i).cells ∙ (first.shapes i).cells };
  made = second.made ∙ first.made;
  fragments = second.fragments ∙ first.fragments;
  spines = second.spines ∙ first.spines;
  spine_owner = second.spine_owner ∙ first.spine_owner;
}

module _ (heap : Heap) (book now : Book) (grants : SameGrants heap book now) where
  -- what is kept, what of it stands in a half, and what is to be freed has as many words
  words_same : (i : ℕ) → words_of_object (nodes_in heap now) i ≡ words_of_object (nodes_in heap book) i
  words_same i = same_shape_same_words (nodes_in heap now i) (nodes_in heap book i) (grants.shapes i)

  pub kept_words_same : kept_sum heap (words_of_object (nodes_in heap now)) now.owner ≡ kept_sum heap (words_of_object (nodes_in heap book)) book.owner
  kept_words_same = kept_sum_stays (words_of_object (nodes_in heap book)) (words_of_object (nodes_in heap now)) words_same heap book.owner now.owner grants.kept

  pub dead_words_same : dead_sum heap (words_of_object (nodes_in heap now)) now.owner ≡ dead_sum heap (words_of_object (nodes_in heap book)) book.owner
  dead_words_same = dead_sum_stays (words_of_object (nodes_in heap book)) (words_of_object (nodes_in heap now)) words_same heap book.owner now.owner grants.dead

  pub kept_words_in_half_same : (half : ℕ) → kept_sum heap (words_in_half half (nodes_in heap now) now.spines) now.owner ≡ kept_sum heap (words_in_half half (nodes_in heap book) book.spines) book.owner
  kept_words_in_half_same half = kept_sum_stays (words_in_half half (nodes_in heap book) book.spines) (words_in_half half (nodes_in heap now) now.spines)
      (λ i. ap (λ n. if (now.spines i).half == half then n else 0) (words_same i) ∙ ap (λ (spines : ℕ → Spot). words_in_half half (nodes_in heap book) spines i) grants.spines)
      heap book.owner now.owner grants.kept

  -- and the sweep has counted what it counted
  group_same : (group n : ℕ) → sum_upto n (λ j. dead_weight (words_of_object (nodes_in heap now)) (now.owner (16 * group + j))) ≡ sum_upto n (λ j. dead_weight (words_of_object (nodes_in heap book)) (book.owner (16 * group + j)))
  group_same group n = sum_of_same_functions n (λ j. dead_weight (words_of_object (nodes_in heap now)) (now.owner (16 * group + j))) (λ j. dead_weight (words_of_object (nodes_in heap book)) (book.owner (16 * group + j)))
      (λ j below. dead_weight_stays (words_of_object (nodes_in heap book)) (words_of_object (nodes_in heap now)) words_same (book.owner (16 * group + j)) (now.owner (16 * group + j))
      (grants.dead.stays (16 * group + j)) (grants.dead.was (16 * group + j)))

  pub sweep_counts_same : (stage : Stage) → SweepCounts (words_of_object (nodes_in heap book)) book.owner stage → SweepCounts (words_of_object (nodes_in heap now)) now.owner stage
  sweep_counts_same (stages.Examining group dead position counted) is = is ∙ sym (group_same group position)
  sweep_counts_same (stages.Freeing group dead counted) is = is ∙ sym (group_same group 16)
  sweep_counts_same _ is = tt

-- so the budget stands after a seat's step
pub budgets_stand_after_step : (heap : Heap) (state : State) (book : Book) (number : ℕ) (words : List ℕ) (seat : Seat) (now : Book) → number < heap.seats → length state.seats ≡ heap.seats
    → LeavesSpines heap state.words words → SameWeights (seat_at state number) seat → SameGrants heap book now
    → BudgetsStand heap state book → BudgetsStand heap (stepped state number words seat) now
budgets_stand_after_step heap state book number words seat now here seated leaves weights grants old =
    let given = seats_stay heap state number words seat granted_at here seated weights.granted in
    let refused = seats_stay heap state number words seat refused_at here seated weights.refused in
    let placed : (half : ℕ) → of_seats heap (stepped state number words seat) (placed_at half) ≡ of_seats heap state (placed_at half) = λ half. seats_stay heap state number words seat (placed_at half) here seated (weights.placed half) in
    let kept = kept_words_same heap book now grants in
    let dead = dead_words_same heap book now grants in
    record {
      level = rw leaves.spot (λ is. omega (arith, old.level is, placed (next_spine heap state.words).half, kept_words_in_half_same heap book now grants (next_spine heap state.words).half, dead));
      leaving = rw leaves.spot (λ is. omega (arith, old.leaving is, placed (next_spine heap state.words).half, kept_words_in_half_same heap book now grants (next_spine heap state.words).half));
      word = omega (arith, leaves.budget, old.word, given, refused, kept, dead);
      told = omega (arith, old.told, given, grants.told.granted, grants.told.returned, kept, dead);
      low = omega (arith, old.low, given, kept, dead);
      returned = omega (arith, old.returned, grants.told.in_cycle, dead);
      early = λ is. grants.told.in_cycle ∙ old.early is;
      counts = sweep_counts_same heap book now grants state.collector.stage old.counts;
    }
