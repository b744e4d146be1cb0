-- The next spine's place, and what a call has granted without a place yet, are within the words that are granted.
use Rattle.std.proofs.Common.{◌≡◌, ◌≢◌, ℕ, zero, suc, ◌+◌, ◌*◌, ◌%◌, ◌<◌, ◌≤◌, ◌==◌, ◌⊎◌, Bool, true, false, inl, inr, List, refl, sym, ap, ◌∙◌, subst, arith}
use Rattle.std.specs.Prelude.{if◌then◌else◌}
use Rattle.std.proofs.lemmas.Bool.{cases_eq, cases_lt}
use Rattle.std.proofs.lemmas.Bool.Decides.{nat_tests}
use Rattle.core_rule.proofs.Terms.{cycle_phases, Heap, Id, Node, Stage, Listing, Bearing, Point, State, seat_at, sum_upto, Seat, spine_need, Book, Colour, BudgetsStand, granted}
use Rattle.core_rule.proofs.Terms.{granted_at, placed_at, kept_weight, kept_sum, words_of_object, words_in_half, nodes_in, copying_words, Bits, HalvesStand, IsLeaving}
use Rattle.core_rule.proofs.Terms.{WhileCopying, Owner, Free, Kept, Open, CopyingStands, IsToCopy, Rule, next_spine}
use Rattle.heap_model.specs.PhasePlan.{copying as copying_phase, sweep as sweep_phase, marking as marking_phase}
use Rattle.heap_words.specs.declared.spot.Spot.{Spot}
use Rattle.core_machine.specs.collector.CopyingTurns.{sentinel_at}
use Rattle.core_machine.specs.declared.collector.stage.ArrayAt.{ArrayAt}
use Rattle.core_machine.specs.declared.collector.stage.Copying.TheVariants as copying
use Rattle.core_machine.specs.declared.collector.stage.Stage.TheVariants as stages
use Rattle.core_machine.specs.declared.point.Making.TheVariants.{Storing}
use Rattle.core_machine.specs.declared.point.Point.TheVariants as points
use Rattle.core_rule.proofs.lists.SumLemmas.{sum-suc, sum_le}

-- a sum of numbers that are no more, and by how much one of them is less
pub sum_within : (n at : ℕ) (f g : ℕ → ℕ) → ((i : ℕ) → i < n → f i ≤ g i) → at < n → sum_upto n f + g at ≤ sum_upto n g + f at
sum_within zero at f g less there = absurd (omega (arith, there))
sum_within (suc n) at f g less there =
    let rest = λ (i : ℕ) (below : i < n). less i (omega (arith, below)) in
    rw (sum-suc n f, sum-suc n g) (elim (cases_eq at n) as (λ _. sum_upto n f + f n + g at ≤ sum_upto n g + g n + f at) [
      | inl last ↦ subst (λ i. sum_upto n f + f n + g i ≤ sum_upto n g + g n + f i) (sym last) (let all = sum_le n f g rest in omega (arith, all))
      | inr apart ↦ let more : f n ≤ g n = less n (omega arith) in let before = sum_within n at f g rest (omega (arith, there, apart)) in omega (arith, more, before)
    ])

-- the flip was made, and the sweep's phase isn't over; or not
pub leaving_or_not : (phase : ℕ) (stage : Stage) → IsLeaving phase stage ⊎ (¬ IsLeaving phase stage)
leaving_or_not phase stage = elim (cases_eq (phase % cycle_phases) copying_phase) as (λ _. IsLeaving phase stage ⊎ (¬ IsLeaving phase stage)) [
  | inl copies ↦ inl (inr (inl copies))
  | inr no_copies ↦ elim (cases_eq (phase % cycle_phases) sweep_phase) as (λ _. IsLeaving phase stage ⊎ (¬ IsLeaving phase stage)) [
    | inl sweeps ↦ inl (inr (inr sweeps))
    | inr no_sweeps ↦ elim (cases_eq (phase % cycle_phases) marking_phase) as (λ _. IsLeaving phase stage ⊎ (¬ IsLeaving phase stage)) [
      | inl third ↦ elim (behind_or_not stage) as (λ _. IsLeaving phase stage ⊎ (¬ IsLeaving phase stage)) [
        | inl behind ↦ inl (inl (third, behind))
        | inr before ↦ inr (never no_copies no_sweeps (λ flipped. before flipped.1))
      ]
      | inr other ↦ inr (never no_copies no_sweeps (λ flipped. other flipped.0))
    ]
  ]
]
  where
    behind_or_not : (stage : Stage) → (stage ≡ stages.Advancing) ⊎ (stage ≢ stages.Advancing)
    behind_or_not stages.Advancing = inl refl
    behind_or_not _ = inr (λ e. absurd (cc))

    never : phase % cycle_phases ≢ copying_phase → phase % cycle_phases ≢ sweep_phase → ¬ ((phase % cycle_phases ≡ marking_phase) × (stage ≡ stages.Advancing)) → ¬ IsLeaving phase stage
    never no_copies no_sweeps before (inl flipped) = before flipped
    never no_copies no_sweeps before (inr (inl copies)) = no_copies copies
    never no_copies no_sweeps before (inr (inr sweeps)) = no_sweeps sweeps

some_or_none : (b : Bool) (n : ℕ) → (if b then n else 0) ≤ n
some_or_none true n = omega arith
some_or_none false n = omega arith

-- a call has no more words placed in a half than it has granted
pub placed_within_granted : (half : ℕ) (seat : Seat) (point : Point) → placed_at half seat point ≤ granted_at seat point
placed_within_granted half seat (points.Making Listing) = some_or_none (seat.spine.half == half) (spine_need seat)
placed_within_granted half seat (points.Making Storing) = some_or_none (seat.spine.half == half) (spine_need seat)
placed_within_granted half seat (points.Making Bearing) = some_or_none (seat.spine.half == half) (spine_need seat)
placed_within_granted half seat _ = omega arith

module _ (nodes : ℕ → Node) (spines : ℕ → Spot) (half : ℕ) where
  -- so it is with what is kept
  pub kept_few : (o : Owner) → kept_weight (words_in_half half nodes spines) o ≤ kept_weight (words_of_object nodes) o
  kept_few (Kept i k) = by (k == 0)
    where
      by : (b : Bool) → (if b then words_in_half half nodes spines i else 0) ≤ (if b then words_of_object nodes i else 0)
      by true = some_or_none ((spines i).half == half) (words_of_object nodes i)
      by false = omega arith
  kept_few _ = omega arith

  module _ (heap : Heap) (words : List ℕ) (made : List Id) (owner : ℕ → Owner) (colour : ℕ → Colour) (fragments : ℕ → List ℕ) (bits : Bits heap words owner) where
    pub kept_in_half : kept_sum heap (words_in_half half nodes spines) owner ≤ kept_sum heap (words_of_object nodes) owner
    kept_in_half = sum_le (16 * heap.groups) (λ f. kept_weight (words_in_half half nodes spines) (owner f)) (λ f. kept_weight (words_of_object nodes) (owner f)) (λ f below. kept_few (owner f))

    -- an array that is copied has none of its words in this half
    pub copied_words_within_kept : (array : ArrayAt) (from : Spot) → IsToCopy nodes made owner colour spines half array from
        → kept_sum heap (words_in_half half nodes spines) owner + array.words ≤ kept_sum heap (words_of_object nodes) owner
    copied_words_within_kept array from copies =
        let f : ℕ = sentinel_at array in
        let i : ℕ = copies.found.begins.index in
        let kept : owner f ≡ Kept i 0 = copies.found.begins.kept in
        let away : (spines i).half ≢ half = λ same. copies.left (ap (λ (s : Spot). s.half) copies.own ∙ same) in
        let none : kept_weight (words_in_half half nodes spines) (owner f) ≡ 0 = ap (kept_weight (words_in_half half nodes spines)) kept ∙ grind (arith, nat_tests, away) in
        let all : kept_weight (words_of_object nodes) (owner f) ≡ words_of_object nodes i = ap (kept_weight (words_of_object nodes)) kept in
        let less = sum_within (16 * heap.groups) f (λ x. kept_weight (words_in_half half nodes spines) (owner x)) (λ x. kept_weight (words_of_object nodes) (owner x)) (λ x below. kept_few (owner x)) (inside f i kept) in
        omega (arith, less, none, all, copies.found.begins.as_many)
      where
        inside : (f i : ℕ) → owner f ≡ Kept i 0 → f < 16 * heap.groups
        inside f i kept = elim (cases_lt f (16 * heap.groups)) [
          | inl below ↦ below
          | inr past ↦ let none : Free ≡ Kept i 0 = sym (bits.outside f past) ∙ kept in absurd (cc)
        ]

    -- so it is with a copy in progress
    pub kept_beside_copy : (stage : Stage) → WhileCopying (CopyingStands nodes made owner colour fragments spines half) stage
        → kept_sum heap (words_in_half half nodes spines) owner + copying_words stage ≤ kept_sum heap (words_of_object nodes) owner
    kept_beside_copy (stages.Copying (copying.Loading copy)) copies = copied_words_within_kept copy.array copy.from copies.0
    kept_beside_copy (stages.Copying (copying.Storing copy word)) copies = copied_words_within_kept copy.array copy.from copies.0
    kept_beside_copy (stages.Copying (copying.Swinging copy)) copies = copied_words_within_kept copy.array copy.from copies.0
    kept_beside_copy _ copies = omega (arith, kept_in_half)

module _ (heap : Heap) (state : State) (book : Book) (bits : Bits heap state.words book.owner) (budgets : BudgetsStand heap state book) (halves : HalvesStand heap state book) where
  abbrev half : ℕ
  half = (next_spine heap state.words).half

  -- before the next spine there are no more words than are granted but for those that a seat has granted in another place or in none yet
  pub offset_within_granted_and_placed : (number : ℕ) → number < heap.seats
      → (next_spine heap state.words).offset + granted_at (seat_at state number) (seat_at state number).point ≤ granted heap state book + placed_at half (seat_at state number) (seat_at state number).point
  offset_within_granted_and_placed number here =
      let of : (Seat → Point → ℕ) → ℕ → ℕ = λ weight r. weight (seat_at state r) (seat_at state r).point in
      let seats = sum_within heap.seats number (of (placed_at half)) (of granted_at) (λ r below. placed_within_granted half (seat_at state r) (seat_at state r).point) here in
      let kept = kept_beside_copy (nodes_in heap book) book.spines half heap state.words book.made book.owner book.colour book.fragments bits state.collector.stage halves.copies in
      elim (leaving_or_not state.collector.phase state.collector.stage)
      as (λ _. (next_spine heap state.words).offset + granted_at (seat_at state number) (seat_at state number).point ≤ granted heap state book + placed_at half (seat_at state number) (seat_at state number).point) [
        | inl leaves ↦ let level = budgets.leaving leaves in omega (arith, level, seats, kept)
        | inr stays ↦ let level = budgets.level stays in omega (arith, level, seats, kept)
      ]

-- by the rule the next spine's place isn't behind the words that are granted
pub offset_within_granted : (heap : Heap) (state : State) (book : Book) → Rule heap state book → (next_spine heap state.words).offset ≤ granted heap state book
offset_within_granted heap state book rule =
    let some : 0 < heap.seats = rule.machine.limits.some_seat in
    let less = offset_within_granted_and_placed heap state book rule.heap_stands.control_words rule.space.budgets rule.space.halves 0 some in
    omega (arith, less, placed_within_granted (next_spine heap state.words).half (seat_at state 0) (seat_at state 0).point)

-- a spine word that is somebody's stands within the table
pub owned_offset_within_table : (heap : Heap) (state : State) (book : Book) → Rule heap state book → (half offset : ℕ) → book.spine_owner half offset ≢ Open → offset < 2 * heap.spine
owned_offset_within_table heap state book rule half offset some = elim (rule.space.halves.before half offset some) [
  | inl here ↦ omega (arith, here.before, offset_within_granted heap state book rule, rule.space.budgets.low)
  | inr behind ↦ omega (arith, behind.before)
]
