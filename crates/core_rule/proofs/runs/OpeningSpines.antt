-- When a heap opens nobody has a spine word, and none is granted.
use Rattle.std.proofs.Common.{◌≡◌, ◌≢◌, ℕ, ◌*◌, ◌%◌, ◌<◌, ◌==◌, true, List, [], refl, sym, ap, ◌∙◌, subst, arith}
use Rattle.std.specs.Prelude.{if◌then◌else◌}
use Rattle.core_rule.proofs.Terms.{cycle_phases, spot_in, spot_word, Heap, opening, spine_words_of, Collector, opening_collector, Point, Budget, State, seat_at, Seat, no_spot, at}
use Rattle.core_rule.proofs.Terms.{Book, White, BudgetsStand, SweepCounts, of_seats, granted_at, placed_at, refused_at, kept_weight, dead_weight, kept_sum, dead_sum}
use Rattle.core_rule.proofs.Terms.{words_of_object, words_in_half, nodes_in, returning, copying_words, HalvesStand, WhileCopying, half_at, node_at, SpineOwner, Open, Dead}
use Rattle.core_rule.proofs.Terms.{CopyingStands, CopyInHand, SpinesStand, SpineInHand, HasPlace, next_spine}
use Rattle.heap_model.specs.PhasePlan.{copying as copying_phase}
use Rattle.heap_words.specs.declared.spot.Spot.{Spot as SpinePlace}
use Rattle.core_machine.specs.declared.point.Point.TheVariants as points
use Rattle.core_machine.specs.declared.table.address.Address.TheVariants.{Spot}
use Rattle.core_machine.specs.machine.Opening.{opening_seat, opening_word}
use Rattle.core_machine.proofs.table_lemmas.Free.{sum_of_nothing_is_zero}
use Rattle.core_rule.proofs.hand.GoesOn.{zero_either_way}
use Rattle.core_rule.proofs.runs.OpeningObjects.{opening_made, opening_fragments, opening_spines}
use Rattle.core_rule.proofs.runs.OpeningOwners.{opening_owner, opening_owner_cases}
use Rattle.core_rule.proofs.ways.ArrayWords.{spot_in-word}

-- nobody has a spine word
abbrev pub opening_spine_owner : ℕ → ℕ → SpineOwner
opening_spine_owner half offset = Open

-- so no seat has a spine
pub opening_spine_in_hand : (heap : Heap) (words : List ℕ) (number : ℕ) → SpineInHand heap words opening_spine_owner number (opening_seat heap number)
opening_spine_in_hand heap words number = record { placed = λ has. absurd has; own = λ half offset j is. absurd (cc); stored = λ has. absurd has }

module _ (heap : Heap) (words : List ℕ) (spot : at heap words Spot ≡ opening_word heap Spot) where
  -- the first spine stands at the beginning
  opening_next : next_spine heap words ≡ no_spot
  opening_next = ap spot_in spot ∙ spot_in-word no_spot record { half_within = omega arith; offset_within = omega arith }

  pub opening_spines_stand : (seats : ℕ) → SpinesStand heap words seats 1 (node_at (opening heap) opening_made) (opening_owner heap) (opening_fragments heap) opening_spines opening_spine_owner
  opening_spines_stand seats = record {
    spot = spot ∙ ap spot_word (sym opening_next);
    parties = λ half offset party k is. absurd (cc);
    kept = λ i j below is within. absurd (no_word i j below within);
    back = λ half offset i j is. absurd (cc);
    tells = λ f i k is. absurd (opening_owner_cases heap (λ o. o ≢ Dead i k) f (λ less e. cc) (λ past e. cc) is);
  }
    where
      no_word : (i j : ℕ) → i < 1 → j < spine_words_of (node_at (opening heap) opening_made i) → ⊥
      no_word i j below within =
          let board : i ≡ 0 = omega (arith, below) in
          let none : j < 0 = subst (λ x. j < spine_words_of (node_at (opening heap) opening_made x)) board within in omega (arith, none)

-- the book when a heap opens: nothing has happened, and there is the board alone
abbrev pub opening_book : Heap → Book
opening_book heap = record {
  history = [];
  made = opening_made;
  owner = opening_owner heap;
  fragments = opening_fragments heap;
  spines = opening_spines;
  spine_owner = opening_spine_owner;
  colour = λ f. White;
  begun = λ number. 0;
}

module _ (heap : Heap) (state : State) (seats : (number : ℕ) → number < heap.seats → seat_at state number ≡ opening_seat heap number) where
  -- no seat has asked for spine words
  none_of_seats : (weight : Seat → Point → ℕ) → ((number : ℕ) → weight (opening_seat heap number) points.Idle ≡ 0) → of_seats heap state weight ≡ 0
  none_of_seats weight none = sum_of_nothing_is_zero heap.seats (λ r. weight (seat_at state r) (seat_at state r).point)
      (λ r below. subst (λ (s : Seat). weight s s.point ≡ 0) (sym (seats r below)) (none r))

  -- the board has none, and nothing is to be freed
  none_kept : (weight : ℕ → ℕ) → weight 0 ≡ 0 → kept_sum heap weight (opening_owner heap) ≡ 0
  none_kept weight none = sum_of_nothing_is_zero (16 * heap.groups) (λ f. kept_weight weight (opening_owner heap f))
      (λ f below. opening_owner_cases heap (λ o. kept_weight weight o ≡ 0) f (λ less. ap (λ n. if f == 0 then n else 0) none ∙ zero_either_way (f == 0)) (λ past. refl))

  none_dead : (weight : ℕ → ℕ) → dead_sum heap weight (opening_owner heap) ≡ 0
  none_dead weight = sum_of_nothing_is_zero (16 * heap.groups) (λ f. dead_weight weight (opening_owner heap f)) (λ f below. opening_owner_cases heap (λ o. dead_weight weight o ≡ 0) f (λ less. refl) (λ past. refl))

  module _ (spot : at heap state.words Spot ≡ opening_word heap Spot) (done : state.collector ≡ opening_collector) where
    next : next_spine heap state.words ≡ no_spot
    next = opening_next heap state.words spot

    -- so none is granted
    pub opening_budgets_stand : at heap state.words Budget ≡ 0 → BudgetsStand heap state (opening_book heap)
    opening_budgets_stand budget =
        let given = none_of_seats granted_at (λ number. refl) in
        let refused = none_of_seats refused_at (λ number. refl) in
        let placed = none_of_seats (placed_at (next_spine heap state.words).half) (λ number. refl) in
        let kept = none_kept (words_of_object (nodes_in heap (opening_book heap))) refl in
        let in_half = none_kept (words_in_half (next_spine heap state.words).half (nodes_in heap (opening_book heap)) opening_spines) (zero_either_way ((opening_spines 0).half == (next_spine heap state.words).half)) in
        let dead = none_dead (words_of_object (nodes_in heap (opening_book heap))) in
        let copied : copying_words state.collector.stage ≡ 0 = ap (λ (c : Collector). copying_words c.stage) done in
        let returns : returning state.collector.stage ≡ 0 = ap (λ (c : Collector). returning c.stage) done in
        let first : (next_spine heap state.words).offset ≡ 0 = ap (λ (s : SpinePlace). s.offset) next in
        record {
          level = λ stays. omega (arith, first, placed, in_half, copied, dead, returns);
          leaving = λ leaves. omega (arith, first, placed, in_half, copied);
          word = omega (arith, budget, given, refused, kept, dead, returns);
          told = omega (arith, given, kept, dead, returns);
          low = omega (arith, given, kept, dead, returns);
          returned = omega (arith, dead, returns);
          early = λ between. refl;
          counts = subst (λ (c : Collector). SweepCounts (words_of_object (nodes_in heap (opening_book heap))) (opening_owner heap) c.stage) (sym done) tt;
        }

    -- and no spine stands anywhere
    pub opening_halves_stand : HalvesStand heap state (opening_book heap)
    opening_halves_stand = record {
      half = ap (λ (s : SpinePlace). s.half) next ∙ subst (λ (c : Collector). 0 ≡ half_at c.phase c.stage) (sym done) refl;
      before = λ half offset some. absurd (some refl);
      arrays = λ i below is an_array. absurd (no_array i below an_array);
      hands = λ number below has. absurd (subst (λ (s : Seat). ¬ HasPlace s s.point) (sym (seats number below)) (λ none. none) has);
      swung = λ copies. absurd (subst (λ (c : Collector). c.phase % cycle_phases ≢ copying_phase) (sym done) (λ e. omega (arith, e)) copies);
      copies = subst (λ (c : Collector). WhileCopying (CopyingStands (nodes_in heap (opening_book heap)) opening_made (opening_owner heap) (λ f. White) (opening_fragments heap) opening_spines (next_spine heap state.words).half) c.stage)
          (sym done) tt;
      copy = subst (λ (c : Collector). CopyInHand heap state.words opening_spine_owner c.stage) (sym done) record { placed = tt; own = λ half offset j is. absurd (cc); copied = tt };
    }
      where
        no_array : (i : ℕ) → i < 1 → (nodes_in heap (opening_book heap) i).array ≡ true → ⊥
        no_array i below an_array =
            let board : i ≡ 0 = omega (arith, below) in
            let is : (nodes_in heap (opening_book heap) 0).array ≡ true = subst (λ x. (nodes_in heap (opening_book heap) x).array ≡ true) board an_array in absurd (cc)
