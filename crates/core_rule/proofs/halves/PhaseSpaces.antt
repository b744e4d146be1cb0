-- The spine space where the next phase begins.
use Rattle.std.proofs.Common.{◌≡◌, ◌≢◌, ℕ, ◌+◌, ◌*◌, ◌%◌, ◌<◌, ◌≤◌, ◌⊎◌, Bool, true, false, List, [], ◌∷◌, ◌++◌, Contains, inl, inr, refl, sym, ap, ◌∙◌, subst, arith}
use Rattle.std.proofs.lemmas.Bool.Decides.{eqb_tells, nat_tests}
use Rattle.core_rule.proofs.Terms.{cycle_phases, Entry, Swings, Heap, Id, graph_of, effect_of, words_returned, begins_cycle, begins_phase, since_cycle, Graph, Stage, State}
use Rattle.core_rule.proofs.Terms.{seat_at, Book, fragment_at, id_at, BudgetsStand, dead_weight, kept_sum, dead_sum, words_of_object, words_in_half, nodes_in, placed_words}
use Rattle.core_rule.proofs.Terms.{unreturned, returned_in_cycle, HalvesStand, AwaitsCopy, IsBeforeNext, IsEarlyRange, IsLeaving, IsLeftBehind, half_at, node_at, Owner, Dead}
use Rattle.core_rule.proofs.Terms.{SpineOwner, Open, Rule, SpaceStands, HasPlace, next_spine}
use Rattle.heap_model.specs.PhasePlan.{marking as marking_phase, sweep as sweep_phase, rest as resting}
use Rattle.heap_words.specs.declared.spot.Spot.{Spot}
use Rattle.heap_model.specs.account.Sweep.{HasSwung}
use Rattle.heap_model.proofs.account_lemmas.Windows.{after_last-no, after_last-yes}
use Rattle.core_machine.specs.declared.collector.stage.Stage.TheVariants as stages
use Rattle.core_machine.proofs.table_lemmas.Free.{sum_of_nothing_is_zero}
use Rattle.core_rule.proofs.budgets.BudgetFrames.{granted_words_stay, returned_words_stay}
use Rattle.core_rule.proofs.halves.Leaving.{uncopied_is_not_placed, copy_in_hand_where_none}
use Rattle.core_rule.proofs.halves.LeftHalf.{let_go, owned_is_here_and_stays}
use Rattle.core_rule.proofs.spines.OtherWords.{LeavesSpines}
use Rattle.core_rule.proofs.halves.StagesOn.{IsIdle, idle_is_quiet, quiet_returns_none, quiet_copies_none, quiet_has_no_copy}
use Rattle.core_rule.proofs.steps.TurnSteps.{after_turn}

-- the phase ends at this stage: nothing is copied or returned, and behind the flip alone arrays await their copies
pub record EndsPhase (phase : ℕ) (stage : Stage) : Type 0 where
  pub idle : IsIdle stage
  pub flipped : phase % cycle_phases ≡ marking_phase → stage ≡ stages.Advancing
  pub waits : (f : ℕ) → AwaitsCopy phase stage f → phase % cycle_phases ≡ marking_phase

-- the half is left in the next phase where it is now, but for that of the sweep
leaves_next : (phase : ℕ) (stage : Stage) → phase % cycle_phases ≢ sweep_phase → IsLeaving phase stage → IsLeaving (phase + 1) stages.Looking
leaves_next phase stage other (inl flipped) = inr (inl (omega (arith, flipped.0)))
leaves_next phase stage other (inr (inl copies)) = inr (inr (omega (arith, copies)))
leaves_next phase stage other (inr (inr sweeps)) = absurd (other sweeps)

module _ (phase : ℕ) (stage : Stage) (ends : EndsPhase phase stage) where
  left_next : IsLeaving (phase + 1) stages.Looking → IsLeaving phase stage
  left_next (inl flipped) = absurd (cc (flipped.1))
  left_next (inr (inl copies)) = let third : phase % cycle_phases ≡ marking_phase = omega (arith, copies) in inl (third, ends.flipped third)
  left_next (inr (inr sweeps)) = inr (inl (omega (arith, sweeps)))

  -- and the half of the next spine is told as before
  half_next : half_at (phase + 1) stages.Looking ≡ half_at phase stage
  half_next = elim (eqb_tells (phase % cycle_phases) marking_phase) as (λ _. half_at (phase + 1) stages.Looking ≡ half_at phase stage) [
    | inl third ↦ rw (ends.flipped third.1) (grind (arith, nat_tests, third.1))
    | inr other ↦ rw other.0 (grind (arith, nat_tests, other.1))
  ]

-- the entry begins a phase, by which a cycle begins where the one before was at rest, and tells no spine words
pub record BeginsAt (phase : ℕ) (entry : Entry) : Type 0 where
  pub begins : begins_phase entry ≡ true
  pub anew : phase % cycle_phases ≡ resting → begins_cycle entry ≡ true
  pub granted : (effect_of entry).words ≡ 0
  pub returned : (effect_of entry).returned ≡ 0

-- where the sweep's phase ends, what is somebody's stands in this half; else each word is whose it was, or nobody's
pub record LetsGo (here phase : ℕ) (was now : ℕ → ℕ → SpineOwner) : Type 0 where
  pub stays : (half offset : ℕ) → now half offset ≢ Open → now half offset ≡ was half offset
  pub stands : phase % cycle_phases ≡ sweep_phase → (half offset : ℕ) → now half offset ≢ Open → half ≡ here

module _ (history : List Entry) (phase : ℕ) (entry : Entry) (begins : BeginsAt phase entry) where
  -- no array has swung in the next phase
  none_swung : (id : Id) → ¬ HasSwung id (history ++ entry ∷ [])
  none_swung id swung =
      let there = subst (λ (es : List Entry). Contains es (Swings id)) (after_last-yes begins_phase history entry begins.begins) swung in
      let within = there.1 in
      absurd (omega (arith, within))

  -- and no more words were returned in the cycle
  anew_returned : begins_cycle entry ≡ true → returned_in_cycle (history ++ entry ∷ []) ≡ 0
  anew_returned is = ap words_returned (after_last-yes begins_cycle history entry is)

  less_returned : returned_in_cycle (history ++ entry ∷ []) ≤ returned_in_cycle history
  less_returned = by (begins_cycle entry) refl
    where
      by : (b : Bool) → begins_cycle entry ≡ b → returned_in_cycle (history ++ entry ∷ []) ≤ returned_in_cycle history
      by true is = let none = anew_returned is in omega (arith, none)
      by false is =
          let same = ap words_returned (after_last-no begins_cycle history entry is) in
          let none = returned_words_stay (since_cycle history) entry begins.returned in
          omega (arith, same, none)

module _ (heap : Heap) (state : State) (book : Book) (rule : Rule heap state book) (ends : EndsPhase state.collector.phase state.collector.stage) (entry : Entry) (begins : BeginsAt state.collector.phase entry)
    (graph : graph_of heap (book.history ++ entry ∷ []) ≡ graph_of heap book.history) (words : List ℕ) (leaves : LeavesSpines heap state.words words) (log : List Entry)
    (spine_owner : ℕ → ℕ → SpineOwner) (lets : LetsGo (next_spine heap state.words).half state.collector.phase book.spine_owner spine_owner)
    (alive : state.collector.phase % cycle_phases ≡ sweep_phase → (f i k : ℕ) → book.owner f ≢ Dead i k)
    (answered : state.collector.phase % cycle_phases ≡ sweep_phase → (r : ℕ) → r < heap.seats → HasPlace (seat_at state r) (seat_at state r).point → (seat_at state r).answered % cycle_phases ≡ sweep_phase) where
  abbrev p : ℕ
  p = state.collector.phase

  abbrev next : Spot
  next = next_spine heap state.words

  abbrev now : Book
  now = record book { history = book.history ++ entry ∷ []; spine_owner = spine_owner }

  abbrev begun : State
  begun = after_turn state words (record state.collector { phase = p + 1; stage = stages.Looking; looked = 0; log = log })

  kept : kept_sum heap (words_of_object (nodes_in heap now)) book.owner ≡ kept_sum heap (words_of_object (nodes_in heap book)) book.owner
  kept = ap (λ (g : Graph). kept_sum heap (words_of_object (node_at g book.made)) book.owner) graph

  here : (half : ℕ) → kept_sum heap (words_in_half half (nodes_in heap now) book.spines) book.owner ≡ kept_sum heap (words_in_half half (nodes_in heap book) book.spines) book.owner
  here half = ap (λ (g : Graph). kept_sum heap (words_in_half half (node_at g book.made) book.spines) book.owner) graph

  dead : dead_sum heap (words_of_object (nodes_in heap now)) book.owner ≡ dead_sum heap (words_of_object (nodes_in heap book)) book.owner
  dead = ap (λ (g : Graph). dead_sum heap (words_of_object (node_at g book.made)) book.owner) graph

  -- at the end of the sweep's phase nothing is to be returned any more
  none_dead : p % cycle_phases ≡ sweep_phase → dead_sum heap (words_of_object (nodes_in heap book)) book.owner ≡ 0
  none_dead swept = sum_of_nothing_is_zero (16 * heap.groups) (λ f. dead_weight (words_of_object (nodes_in heap book)) (book.owner f)) (λ f below. undead (book.owner f) (alive swept f))
    where
      undead : (o : Owner) → ((i k : ℕ) → o ≢ Dead i k) → dead_weight (words_of_object (nodes_in heap book)) o ≡ 0
      undead (Dead i k) never = absurd (never i k refl)
      undead _ never = refl

  budgets_next : BudgetsStand heap begun now
  budgets_next =
      let old = rule.space.budgets in
      let granted = granted_words_stay book.history entry begins.granted in
      let returned = returned_words_stay book.history entry begins.returned in
      let in_cycle = less_returned book.history p entry begins in
      let none = quiet_returns_none state.collector.stage (idle_is_quiet state.collector.stage ends.idle) in
      let copied = quiet_copies_none state.collector.stage (idle_is_quiet state.collector.stage ends.idle) in
      record {
        level = rw leaves.spot (λ unleft. elim (eqb_tells (p % cycle_phases) sweep_phase) as (λ _. next.offset ≡ placed_words heap begun now next.half + unreturned heap begun now) [
          | inl swept ↦ omega (arith, old.leaving (inr (inr swept.1)), here next.half, dead, none_dead swept.1, copied)
          | inr other ↦ omega (arith, old.level (λ was. unleft (leaves_next p state.collector.stage other.1 was)), here next.half, dead, none, copied)
        ]);
        leaving = rw leaves.spot (λ left. omega (arith, old.leaving (left_next p state.collector.stage ends left), here next.half, copied));
        word = omega (arith, leaves.budget, old.word, kept, dead, none);
        told = omega (arith, old.told, granted, returned, kept, dead, none);
        low = omega (arith, old.low, kept, dead, none);
        returned = omega (arith, old.returned, in_cycle, dead, none);
        early = λ between. elim (eqb_tells (p % cycle_phases) resting) as (λ _. returned_in_cycle now.history ≡ 0) [
          | inl rests ↦ anew_returned book.history p entry begins (begins.anew rests.1)
          | inr other ↦
              let from = between.from in
              let upto = between.upto in
              let early = old.early record { from = omega (arith, from, upto, other.1); upto = omega (arith, from, upto, other.1) } in
              omega (arith, in_cycle, early)
        ];
        counts = tt;
      }

  -- what is somebody's was, and stands where it stood
  was_some : (half offset : ℕ) → spine_owner half offset ≢ Open → book.spine_owner half offset ≢ Open
  was_some half offset some none = some (lets.stays half offset some ∙ none)

  before_next : (half offset : ℕ) → spine_owner half offset ≢ Open → IsBeforeNext next half offset ⊎ IsLeftBehind heap next (p + 1) stages.Looking half offset
  before_next half offset some = elim (rule.space.halves.before half offset (was_some half offset some)) as (λ _. IsBeforeNext next half offset ⊎ IsLeftBehind heap next (p + 1) stages.Looking half offset) [
    | inl before ↦ inl before
    | inr behind ↦ inr record {
      leaving = leaves_next p state.collector.stage (λ swept. behind.other (lets.stands swept half offset some)) behind.leaving;
      a_half = behind.a_half;
      other = behind.other;
      before = behind.before;
    }
  ]

  hands_next : (r : ℕ) → r < heap.seats → HasPlace (seat_at state r) (seat_at state r).point
      → ((seat_at state r).spine.half ≡ next.half) ⊎ IsEarlyRange (p + 1) stages.Looking (seat_at state r).answered
  hands_next r below has = elim (rule.space.halves.hands r below has) as (λ _. ((seat_at state r).spine.half ≡ next.half) ⊎ IsEarlyRange (p + 1) stages.Looking (seat_at state r).answered) [
    | inl same ↦ inl same
    | inr early ↦ inr record {
      leaving = leaves_next p state.collector.stage (λ swept. let fifth = answered swept r below has in let third = early.behind in omega (arith, fifth, third)) early.leaving;
      behind = early.behind;
    }
  ]

  halves_next : HalvesStand heap begun now
  halves_next =
      let old = rule.space.halves in
      record {
        half = rw leaves.spot (old.half ∙ sym (half_next p state.collector.stage ends));
        before = rw leaves.spot before_next;
        arrays = rw leaves.spot (λ i below is kind. elim (old.arrays i below is (ap (λ (g : Graph). (node_at g book.made i).array) (sym graph) ∙ kind))
            as (λ _. ((book.spines i).half ≡ next.half) ⊎ AwaitsCopy (p + 1) stages.Looking (fragment_at (book.fragments i) 0)) [
              | inl same ↦ inl same
              | inr waits ↦ inr (let third = ends.waits (fragment_at (book.fragments i) 0) waits in omega (arith, third))
            ]);
        hands = rw leaves.spot hands_next;
        swung = λ copies i below is has. absurd (none_swung book.history p entry begins (id_at book.made i) has);
        copies = tt;
        copy = copy_in_hand_where_none heap words spine_owner stages.Looking refl (λ half offset k placed.
            uncopied_is_not_placed heap state.words book.spine_owner state.collector.stage (quiet_has_no_copy state.collector.stage (idle_is_quiet state.collector.stage ends.idle)) old.copy half offset k
            (sym (lets.stays half offset (λ none. absurd (cc (placed, none)))) ∙ placed));
      }

  -- so it stands in the next phase
  pub space_stands_next_phase : SpaceStands heap begun now
  space_stands_next_phase = record { budgets = budgets_next; halves = halves_next }

-- where each word stays whose it was, in any phase but that of the sweep
pub lets_go_of_none : (here phase : ℕ) (spine_owner : ℕ → ℕ → SpineOwner) → phase % cycle_phases ≢ sweep_phase → LetsGo here phase spine_owner spine_owner
lets_go_of_none here phase spine_owner other = record { stays = λ half offset some. refl; stands = λ swept. absurd (other swept) }

-- where the half that was left is let go
pub lets_go_of_left_half : (here phase : ℕ) (spine_owner : ℕ → ℕ → SpineOwner) → LetsGo here phase spine_owner (let_go here spine_owner)
lets_go_of_left_half here phase spine_owner = record {
  stays = λ half offset some. (owned_is_here_and_stays here spine_owner half offset some).1;
  stands = λ swept half offset some. (owned_is_here_and_stays here spine_owner half offset some).0;
}
