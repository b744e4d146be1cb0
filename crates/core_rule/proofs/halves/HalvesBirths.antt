-- In which half each spine stands once an array is made: its spine is the one that its maker had, which may still await its copy.
use Rattle.std.proofs.Common.{◌≡◌, ◌≢◌, ℕ, ◌+◌, ◌%◌, ◌<◌, ◌⊎◌, true, inl, inr, List, length, sym, ap, ◌∙◌, subst, arith}
use Rattle.std.proofs.lemmas.Bool.{cases_eq}
use Rattle.core_rule.proofs.Terms.{cycle_phases, Heap, Id, Stage, State, seat_at, Seat, Book, fragment_at, id_at, nodes_in, IsMarked, HalvesStand, AwaitsCopy, IsEarlyRange}
use Rattle.core_rule.proofs.Terms.{IsLeaving, IsKept, Kept, IsNear, copy_in, HasPlace, next_spine}
use Rattle.heap_model.specs.PhasePlan.{copying as copying_phase}
use Rattle.heap_words.specs.declared.spot.Spot.{Spot}
use Rattle.heap_model.specs.account.Sweep.{HasSwung}
use Rattle.core_machine.specs.collector.FitsTurns.{FitsStage}
use Rattle.core_rule.proofs.budgets.BudgetFrames.{stepped}
use Rattle.core_rule.proofs.halves.CopiesGo.{HeadStays, copying_stands_still}
use Rattle.core_rule.proofs.halves.HalvesFrames.{holds_of_each_seat, if_some_of_each, InItsHalf}
use Rattle.core_rule.proofs.halves.HalvesMoves.{copy_in_hand_where_left}
use Rattle.core_rule.proofs.spines.OtherWords.{LeavesPlaces}
use Rattle.core_rule.proofs.spines.SpineBirths.{born_words, spines_left_after_birth, open_was_open}
use Rattle.core_rule.proofs.steps.collector.{turn_kind_of_each_stage}
use Rattle.core_rule.proofs.spines.SpineFrames.{SpinesLeft}

-- a range that was claimed before the flip awaits its copy: while its seat hasn't answered the phase of copying, that hasn't begun to copy
pub early_claim_awaits_copy : (heap : Heap) (phase looked answered : ℕ) (stage : Stage) → FitsStage heap phase looked stage → IsNear phase answered → (looked ≡ heap.seats → answered ≡ phase)
    → IsEarlyRange phase stage answered → (f : ℕ) → AwaitsCopy phase stage f
early_claim_awaits_copy heap phase looked answered stage fits near all early f = by early.leaving
  where
    behind : phase % cycle_phases ≡ copying_phase → answered ≡ phase → ⊥
    behind copies same = let third = early.behind in omega (arith, copies, same, third)

    in_copying : phase % cycle_phases ≡ copying_phase → AwaitsCopy phase stage f
    in_copying copies = elim ((turn_kind_of_each_stage stage).looked heap phase looked fits) as (λ _. AwaitsCopy phase stage f) [
      | inl looking ↦ subst (λ s. AwaitsCopy phase s f) (sym looking) copies
      | inr seen ↦ absurd (behind copies (all seen))
    ]

    by : IsLeaving phase stage → AwaitsCopy phase stage f
    by (inl flipped) = subst (λ s. AwaitsCopy phase s f) (sym flipped.1) flipped.0
    by (inr (inl copies)) = in_copying copies
    by (inr (inr sweeps)) = absurd (elim near as (λ _. ⊥) [
      | inl same ↦ let third = early.behind in omega (arith, sweeps, same, third)
      | inr next ↦ let third = early.behind in omega (arith, sweeps, next, third)
    ])

-- the new book has one object more, whose spine is the seat's, and which hasn't swung; the others go on
pub record OneBorn (heap : Heap) (book now : Book) (number : ℕ) (seat : Seat) : Type 0 where
  pub longer : length now.made ≡ length book.made + 1
  pub owners : (half offset : ℕ) → now.spine_owner half offset ≡ born_words number (length book.made) book.spine_owner half offset
  pub older : (i : ℕ) → i ≢ length book.made → IsKept now.owner now.fragments i → IsKept book.owner book.fragments i
  pub heads : (f i : ℕ) → book.owner f ≡ Kept i 0
      → HeadStays (nodes_in heap book) (nodes_in heap now) book.made now.made now.owner book.fragments now.fragments book.spines now.spines f i
  pub spine : now.spines (length book.made) ≡ seat.spine
  pub has : (nodes_in heap now (length book.made)).array ≡ true → HasPlace seat seat.point
  pub swung : (id : Id) → HasSwung id now.history → HasSwung id book.history
  pub unswung : ¬ HasSwung (id_at now.made (length book.made)) book.history
  pub marked : (f : ℕ) → IsMarked book.colour f → IsMarked now.colour f

module _ (heap : Heap) (state : State) (book now : Book) (number : ℕ) (words : List ℕ) (after : Seat) (here : number < heap.seats) (seated : length state.seats ≡ heap.seats)
    (leaves : LeavesPlaces heap state.words words) (born : OneBorn heap book now number (seat_at state number)) (none : ¬ HasPlace after after.point)
    (awaits : IsEarlyRange state.collector.phase state.collector.stage (seat_at state number).answered → (f : ℕ) → AwaitsCopy state.collector.phase state.collector.stage f)
    (old : HalvesStand heap state book) where
  abbrev n : ℕ
  n = length book.made

  abbrev next : Spot
  next = next_spine heap state.words

  -- an array stands in the half of the next spine, or awaits its copy
  abbrev InHalf : Spot → ℕ → Type 0
  InHalf spine f = (spine.half ≡ next.half) ⊎ AwaitsCopy state.collector.phase state.collector.stage f

  new_array : (nodes_in heap now n).array ≡ true → InHalf (now.spines n) (fragment_at (now.fragments n) 0)
  new_array an_array = elim (old.hands number here (born.has an_array)) as (λ _. InHalf (now.spines n) (fragment_at (now.fragments n) 0)) [
    | inl same ↦ inl (ap (λ (s : Spot). s.half) born.spine ∙ same)
    | inr early ↦ inr (awaits early (fragment_at (now.fragments n) 0))
  ]

  old_array : (i : ℕ) → i < n → IsKept book.owner book.fragments i → (nodes_in heap now i).array ≡ true → InHalf (now.spines i) (fragment_at (now.fragments i) 0)
  old_array i below is an_array =
      let one = born.heads (fragment_at (book.fragments i) 0) i is in
      subst (λ f. InHalf (now.spines i) f) (ap (λ fs. fragment_at fs 0) (sym one.fragments_stay))
      (subst (λ (s : Spot). InHalf s (fragment_at (book.fragments i) 0)) (sym one.spine) (old.arrays i below is (sym one.shape.kind ∙ an_array)))

  array_now : (i : ℕ) → i < length now.made → IsKept now.owner now.fragments i → (nodes_in heap now i).array ≡ true → InHalf (now.spines i) (fragment_at (now.fragments i) 0)
  array_now i below is an_array = elim (cases_eq i n) as (λ _. InHalf (now.spines i) (fragment_at (now.fragments i) 0)) [
    | inl new ↦ subst (λ j. InHalf (now.spines j) (fragment_at (now.fragments j) 0)) (sym new) (new_array (subst (λ j. (nodes_in heap now j).array ≡ true) new an_array))
    | inr apart ↦ old_array i (omega (arith, below, born.longer, apart)) (born.older i apart is) an_array
  ]

  swung_now : state.collector.phase % cycle_phases ≡ copying_phase → (i : ℕ) → i < length now.made → IsKept now.owner now.fragments i → HasSwung (id_at now.made i) now.history → (now.spines i).half ≡ next.half
  swung_now copies i below is has = elim (cases_eq i n) as (λ _. (now.spines i).half ≡ next.half) [
    | inl new ↦ absurd (born.unswung (born.swung _ (subst (λ j. HasSwung (id_at now.made j) now.history) new has)))
    | inr apart ↦ let was = born.older i apart is in let one = born.heads (fragment_at (book.fragments i) 0) i was in
        ap (λ (s : Spot). s.half) one.spine ∙ old.swung copies i (omega (arith, below, born.longer, apart)) was (subst (λ id. HasSwung id book.history) one.id (born.swung _ has))
  ]

  born_others : SpinesLeft heap.seats book.spine_owner (born_words number n book.spine_owner)
  born_others = spines_left_after_birth number n book.spine_owner heap.seats (λ e. omega (arith, e, here))

  -- so spines stand in their halves then
  pub halves_stand_after_birth : HalvesStand heap (stepped state number words after) now
  halves_stand_after_birth = record {
    half = rw leaves.spot old.half;
    before = rw leaves.spot (λ half offset some. old.before half offset (λ nobodys. some (born.owners half offset ∙ open_was_open number n (book.spine_owner half offset) nobodys)));
    arrays = rw leaves.spot array_now;
    hands = rw leaves.spot (λ r below. holds_of_each_seat (λ m s. InItsHalf heap state m s) state.seats number after (subst (λ m. number < m) (sym seated) here) (λ has. absurd (none has)) r
        (λ apart. old.hands r below));
    swung = rw leaves.spot swung_now;
    copies = rw leaves.spot (copying_stands_still (nodes_in heap book) (nodes_in heap now) book.made now.made book.owner now.owner book.colour now.colour book.fragments now.fragments book.spines now.spines
        born.marked born.heads next.half state.collector.stage old.copies);
    copy = copy_in_hand_where_left heap state.words words book.spine_owner now.spine_owner state.collector.stage
        record {
          stays = λ half offset k is. born.owners half offset ∙ born_others.stays half offset k is;
          own = λ half offset k is. born_others.own half offset k (sym (born.owners half offset) ∙ is);
        }
        (if_some_of_each (copy_in state.collector.stage) (λ copy copied j less. leaves.spines _ _ ∙ copied j less ∙ sym (leaves.spines _ _)) old.copy.copied) old.copy;
  }
