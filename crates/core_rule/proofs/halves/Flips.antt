-- The flip: the next spine's place is the first word of the other half, and all that stands is left behind.
use Rattle.std.proofs.Common.{◌≡◌, ◌≢◌, ℕ, ◌*◌, ◌/◌, ◌%◌, ◌<◌, ◌==◌, ◌⊎◌, if◌then◌else◌, true, List, length, inl, inr, refl, sym, ap, ◌∙◌, subst, arith}
use Rattle.std.proofs.lemmas.Bool.Decides.{nat_tests}
use Rattle.core_rule.proofs.Terms.{cycle_phases, spot_in, spot_word, Command, Heap, spine_need_of, IsMarking, Listing, Bearing, Point, State, seat_at, IsArrayCall, Seat, Book}
use Rattle.core_rule.proofs.Terms.{BudgetsStand, of_seats, placed_at, placed_words, kept_weight, kept_sum, words_in_half, nodes_in, returning, HalvesStand, AwaitsCopy}
use Rattle.core_rule.proofs.Terms.{IsBeforeNext, IsLeaving, IsLeftBehind, IsKept, Owner, Kept, Rule, SpaceStands, HasPlace, next_spine}
use Rattle.heap_model.specs.PhasePlan.{marking as marking_phase}
use Rattle.heap_words.specs.declared.spot.Spot.{Spot}
use Rattle.heap_model.specs.declared.command.Command.TheVariants.{Array}
use Rattle.core_machine.specs.collector.Collector.{next_half}
use Rattle.core_machine.specs.collector.FitsTurns.{FitsStage}
use Rattle.core_machine.specs.declared.collector.stage.Stage.TheVariants as stages
use Rattle.core_machine.specs.declared.point.Making.TheVariants.{Storing}
use Rattle.core_machine.specs.declared.point.Point.TheVariants as points
use Rattle.core_machine.proofs.table_lemmas.Free.{sum_of_nothing_is_zero}
use Rattle.core_rule.proofs.entries.AtRest.{seat_fits}
use Rattle.core_rule.proofs.marking.Marks.{each_seat_answered_phase}
use Rattle.core_rule.proofs.halves.HalfSums.{no_words_in_other_half}
use Rattle.core_rule.proofs.halves.Leaving.{marking_is_not_leaving, placed_seat_has_not_left, arrays_in_next_spine_half, seat_spine_in_next_half}
use Rattle.core_rule.proofs.budgets.OffsetWithin.{offset_within_granted}
use Rattle.core_rule.proofs.spines.SpotWritten.{spot_words, same_spines_after_spot, budget_same_after_spot, next_spine_is_written_spot}
use Rattle.core_rule.proofs.halves.StagesOn.{copy_in_hand_at_stage}
use Rattle.core_rule.proofs.steps.TurnSteps.{after_turn, quiet}
use Rattle.core_rule.proofs.ways.ArrayWords.{spot_in-word}

-- a call whose spine stands in another half has no words in this one
command_away : (command : Command) (half other : ℕ) → (IsArrayCall command → half ≢ other) → (if half == other then spine_need_of command else 0) ≡ 0
command_away (Array d cells) half other away = grind (arith, nat_tests, away tt)
command_away _ half other away = grind (arith, nat_tests)

placed_away : (half : ℕ) (seat : Seat) (point : Point) → (HasPlace seat point → seat.spine.half ≢ half) → placed_at half seat point ≡ 0
placed_away half seat (points.Making Listing) away = command_away seat.command seat.spine.half half away
placed_away half seat (points.Making Storing) away = command_away seat.command seat.spine.half half away
placed_away half seat (points.Making Bearing) away = command_away seat.command seat.spine.half half away
placed_away half seat _ away = refl

-- what is kept has no words in a half in which none of it stands
weight_away : (weight : ℕ → ℕ) (o : Owner) → ((i k : ℕ) → o ≡ Kept i k → weight i ≡ 0) → kept_weight weight o ≡ 0
weight_away weight (Kept i k) none = let nothing : weight i ≡ 0 = none i k refl in grind (arith, nat_tests, nothing)
weight_away weight _ none = refl

module _ (heap : Heap) (state : State) (book : Book) (rule : Rule heap state book) (flipping : state.collector.stage ≡ stages.Flipping) where
  abbrev p : ℕ
  p = state.collector.phase

  -- the place of the next spine behind the flip, and the word that tells it
  abbrev other : Spot
  other = record { half = next_half p; offset = 0 }

  abbrev next : Spot
  next = next_spine heap state.words

  abbrev pub flip_words : List ℕ
  flip_words = spot_words heap state book rule (spot_word other)

  abbrev flipped : State
  flipped = after_turn state flip_words (quiet (record state.collector { stage = stages.Advancing }))

  fits : IsMarking heap.seats p state.collector.looked
  fits = subst (FitsStage heap p state.collector.looked) flipping rule.machine.collector_fit.at_stage

  pub flip_phase_is_marking : p % cycle_phases ≡ marking_phase
  flip_phase_is_marking = fits.for_marking

  before_flip : ¬ IsLeaving p state.collector.stage
  before_flip = marking_is_not_leaving p state.collector.stage flip_phase_is_marking (λ advances. absurd (cc (flipping, advances)))

  leaves : IsLeaving p stages.Advancing
  leaves = inl (flip_phase_is_marking, refl)

  -- the word tells the place
  pub flipped_word_tells_spot : spot_in (spot_word other) ≡ other
  flipped_word_tells_spot = spot_in-word other record { half_within = omega arith; offset_within = omega arith }

  next_flipped : next_spine heap flip_words ≡ other
  next_flipped = next_spine_is_written_spot heap state book rule (spot_word other) ∙ flipped_word_tells_spot

  -- so far spines had their places in the half that is left
  half_before : next.half ≡ p / 7 % 2
  half_before = rule.space.halves.half ∙ rw (flipping, flip_phase_is_marking) (omega arith)

  half_apart : (half : ℕ) → half ≡ next.half → half ≢ next_half p
  half_apart half same now = absurd (omega (arith, same, now, half_before))

  stand_before : (i : ℕ) → i < length book.made → IsKept book.owner book.fragments i → (nodes_in heap book i).array ≡ true → (book.spines i).half ≡ next.half
  stand_before = arrays_in_next_spine_half heap state book rule.space.halves (λ f waits. subst (λ stage. AwaitsCopy p stage f) flipping waits)

  hand_before : (r : ℕ) → r < heap.seats → HasPlace (seat_at state r) (seat_at state r).point → (seat_at state r).spine.half ≡ next.half
  hand_before r below = seat_spine_in_next_half heap state book rule.space.halves r below (λ early. before_flip early.leaving)

  -- in the other half nothing stands
  none_placed : of_seats heap state (placed_at (next_half p)) ≡ 0
  none_placed = sum_of_nothing_is_zero heap.seats (λ r. placed_at (next_half p) (seat_at state r) (seat_at state r).point)
      (λ r below. placed_away (next_half p) (seat_at state r) (seat_at state r).point (λ has. half_apart (seat_at state r).spine.half (hand_before r below has)))

  none_kept : kept_sum heap (words_in_half (next_half p) (nodes_in heap book) book.spines) book.owner ≡ 0
  none_kept = sum_of_nothing_is_zero (16 * heap.groups) (λ f. kept_weight (words_in_half (next_half p) (nodes_in heap book) book.spines) (book.owner f))
      (λ f below. weight_away (words_in_half (next_half p) (nodes_in heap book) book.spines) (book.owner f)
      (λ i k kept. let one = rule.heap_stands.objects.back f i k kept in no_words_in_other_half (next_half p) (nodes_in heap book) book.spines i (λ kind. half_apart (book.spines i).half (stand_before i one.0 one.1 kind))))

  budgets_flip : BudgetsStand heap flipped book
  budgets_flip =
      let old = rule.space.budgets in
      let nothing : returning state.collector.stage ≡ 0 = rw flipping refl in
      record {
        level = λ unleft. absurd (unleft leaves);
        leaving = λ leaving. subst (λ (s : Spot). s.offset ≡ placed_words heap flipped book s.half) (sym next_flipped) (omega (arith, none_placed, none_kept));
        word = omega (arith, budget_same_after_spot heap state book rule (spot_word other), old.word, nothing);
        told = omega (arith, old.told, nothing);
        low = omega (arith, old.low, nothing);
        returned = omega (arith, old.returned, nothing);
        early = old.early;
        counts = tt;
      }

  -- a seat that has the place of a spine has answered the phase of marking
  has_answered : (r : ℕ) → r < heap.seats → HasPlace (seat_at state r) (seat_at state r).point → (seat_at state r).answered % cycle_phases ≡ marking_phase
  has_answered r below has = ap (λ n. n % cycle_phases) (each_seat_answered_phase heap state book rule fits.all r below (placed_seat_has_not_left heap (seat_at state r) (seat_fits rule r below) has)) ∙ flip_phase_is_marking

  -- what stood before the next spine is left behind
  left_behind : (half offset : ℕ) → IsBeforeNext next half offset → IsLeftBehind heap other p stages.Advancing half offset
  left_behind half offset here =
      let low = offset_within_granted heap state book rule in
      record {
        leaving = leaves;
        a_half = omega (arith, here.here, half_before);
        other = half_apart half here.here;
        before = omega (arith, here.before, low, rule.space.budgets.low);
      }

  halves_flip : HalvesStand heap flipped book
  halves_flip =
      let old = rule.space.halves in
      record {
        half = ap (λ (s : Spot). s.half) next_flipped ∙ rw flip_phase_is_marking refl;
        before = λ half offset some. subst (λ (s : Spot). IsBeforeNext s half offset ⊎ IsLeftBehind heap s p stages.Advancing half offset) (sym next_flipped)
            (inr (elim (old.before half offset some) as (λ _. IsLeftBehind heap other p stages.Advancing half offset) [
              | inl here ↦ left_behind half offset here
              | inr behind ↦ absurd (before_flip behind.leaving)
            ]));
        arrays = λ i below kept kind. inr flip_phase_is_marking;
        hands = λ r below has. inr record { leaving = leaves; behind = has_answered r below has };
        swung = λ copies. absurd (omega (arith, copies, flip_phase_is_marking));
        copies = tt;
        copy = copy_in_hand_at_stage heap state.words flip_words book.spine_owner state.collector.stage stages.Advancing (same_spines_after_spot heap state book rule (spot_word other)) (rw flipping refl) old.copy;
      }

  pub space_stands_after_flip : SpaceStands heap flipped book
  space_stands_after_flip = record { budgets = budgets_flip; halves = halves_flip }
