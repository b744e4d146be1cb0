-- The spine space stands once an array has swung to a copy in the half of the next spine: what is placed there is as much as before, and the visit goes on.
use Rattle.std.specs.Prelude.{if◌then◌else◌}
use Rattle.std.proofs.Common.{◌≡◌, ◌≢◌, ◌⊎◌, ℕ, zero, suc, ◌+◌, ◌*◌, ◌==◌, ◌<◌, true, List, [], ◌∷◌, ◌++◌, Contains, length, inl, inr, refl, sym, ap, ◌∙◌, subst, arith}
use Rattle.std.proofs.lemmas.Bool.{cases_eq}
use Rattle.std.proofs.lemmas.Bool.Decides.{eqb_tells}
use Rattle.std.proofs.lemmas.List.Elements.{Contains-push_cases}
use Rattle.heap_words.specs.declared.spot.Spot.{Spot}
use Rattle.core_rule.proofs.Terms.{Entry, Swings, Heap, Id, graph_of, after_last, begins_phase, Graph, Node, spine_words_of, Collector, Stage, Word, Budget, State, at, Book}
use Rattle.core_rule.proofs.Terms.{fragment_at, id_at, object_number, BudgetsStand, kept_weight, kept_sum, dead_sum, words_of_object, words_in_half, nodes_in, copying_words}
use Rattle.core_rule.proofs.Terms.{returning, HalvesStand, AwaitsCopy, IsKept, node_at, Owner, Kept, Rule, SpaceStands, next_spine}
use Rattle.heap_model.specs.account.Sweep.{HasSwung}
use Rattle.heap_model.proofs.account_lemmas.Windows.{after_last-no}
use Rattle.core_machine.specs.collector.Copying.{next_position_of, visit_on}
use Rattle.core_machine.specs.declared.collector.stage.Copying.TheVariants.{Swinging}
use Rattle.core_machine.specs.declared.collector.stage.SpineCopy.{SpineCopy}
use Rattle.core_machine.specs.declared.collector.stage.Stage.TheVariants as stages
use Rattle.core_machine.specs.declared.collector.stage.Visit.{Visit}
use Rattle.core_machine.proofs.table_lemmas.Free.{sum_but_one_number}
use Rattle.core_rule.proofs.copies.BegunArrays.{begun_by_one_object}
use Rattle.core_rule.proofs.copies.CopyingStages.{IsFree, phase_is_copying, copying_is_leaving, next_spine_in_next_half, copying_half_is_next, copying_returns_none, sweep_counts_while_copying, seen_stage_is_free}
use Rattle.core_rule.proofs.copies.SwungBook.{swung_is_to_copy, copy_in_next_half, i, s, swung_array_is_kept, swung_first_within_heap, now, places, entry, book_swung, graph_same_after_swing, spot_same_after_swing}
use Rattle.core_rule.proofs.copies.SwungWords.{swung_word, swung_spine_is_copy, other_spine_stays_at_swing, placed_before_swing}
use Rattle.core_rule.proofs.copies.Visits.{awaits_copy_after_seen, to_visit_at_next_position}
use Rattle.core_rule.proofs.copies.VisitsOn.{arrays_await_visit, copying_stands_after_seen}
use Rattle.core_rule.proofs.entries.ToldSpines.{returned_in_cycle_stays}
use Rattle.core_rule.proofs.budgets.BudgetFrames.{granted_words_stay, returned_words_stay}
use Rattle.core_rule.proofs.dying.DeadWords.{no_words_behind_first}
use Rattle.core_rule.proofs.halves.Leaving.{copy_in_hand_where_none}
use Rattle.core_rule.proofs.ways.KeptWords.{owned_within_heap}
use Rattle.core_rule.proofs.words.Addresses.{at-put_apart}

-- a number counts where two halves are the same, and there alone
counted : (a b n : ℕ) → a ≡ b → (if a == b then n else 0) ≡ n
counted a b n same = elim (eqb_tells a b) as (λ _. (if a == b then n else 0) ≡ n) [
  | inl is ↦ rw is.0 refl
  | inr other ↦ absurd (other.1 same)
]

uncounted : (a b n : ℕ) → a ≢ b → (if a == b then n else 0) ≡ 0
uncounted a b n apart = elim (eqb_tells a b) as (λ _. (if a == b then n else 0) ≡ 0) [
  | inl is ↦ absurd (apart is.1)
  | inr other ↦ rw other.0 refl
]

-- what has swung once another array swings had swung before
other_swung : (history : List Entry) (id mine : Id) → mine ≢ id → HasSwung id (history ++ Swings mine ∷ []) → HasSwung id history
other_swung history id mine other swung = elim (Contains-push_cases (after_last begins_phase history) (Swings mine) (Swings id)
    (subst (λ es. Contains es (Swings id)) (after_last-no begins_phase history (Swings mine) refl) swung)) [
      | inl there ↦ there
      | inr last ↦ absurd (other (cc (last)))
    ]

module _ (heap : Heap) (state : State) (book : Book) (rule : Rule heap state book) (copy : SpineCopy) (swinging : state.collector.stage ≡ stages.Copying (Swinging copy)) where
  abbrev words : List ℕ
  words = now heap state book rule copy swinging

  abbrev later : Book
  later = book_swung heap state book rule copy swinging

  abbrev n : ℕ
  n = i heap state book rule copy swinging

  abbrev f : ℕ
  f = s heap state book rule copy swinging

  abbrev nodes : ℕ → Node
  nodes = node_at (graph_of heap book.history) book.made

  abbrev spines : ℕ → Spot
  spines = places heap state book rule copy swinging

  abbrev half : ℕ
  half = (next_spine heap state.words).half

  abbrev visit : Visit
  visit = copy.array.visit

  abbrev pub stage : Stage
  stage = visit_on heap visit

  -- the collector then, with these entries
  abbrev pub collector_swung : List Entry → Collector
  collector_swung log = record state.collector { stage = stage; log = log }

  abbrev turned : List Entry → State
  turned log = record state { words = words; collector = collector_swung log }

  there : copy.to.half ≡ half
  there = copy_in_next_half heap state book rule copy swinging

  its_place : spines n ≡ copy.to
  its_place = swung_spine_is_copy n copy.to book.spines

  -- the fragment of the array counts in this half
  weight_here : kept_weight (words_in_half half nodes spines) (book.owner f) ≡ copy.array.words
  weight_here =
      let kept = (swung_is_to_copy heap state book rule copy swinging).found.begins.kept in
      let same : (spines n).half ≡ half = ap (λ (p : Spot). p.half) its_place ∙ there in
      ap (kept_weight (words_in_half half nodes spines)) kept ∙ counted (spines n).half half (spine_words_of (nodes n)) same ∙ sym (swung_is_to_copy heap state book rule copy swinging).found.begins.as_many

  weight_was : kept_weight (words_in_half half nodes book.spines) (book.owner f) ≡ 0
  weight_was =
      let copies = swung_is_to_copy heap state book rule copy swinging in
      let away : (book.spines n).half ≢ half = λ same. copies.left (ap (λ (p : Spot). p.half) copies.own ∙ same) in
      ap (kept_weight (words_in_half half nodes book.spines)) copies.found.begins.kept ∙ uncounted (book.spines n).half half (spine_words_of (nodes n)) away

  -- no other does otherwise than before
  weight_else : (x : ℕ) → x ≢ f → kept_weight (words_in_half half nodes spines) (book.owner x) ≡ kept_weight (words_in_half half nodes book.spines) (book.owner x)
  weight_else x apart = by (book.owner x) refl
    where
      by : (o : Owner) → book.owner x ≡ o → kept_weight (words_in_half half nodes spines) o ≡ kept_weight (words_in_half half nodes book.spines) o
      by (Kept j zero) is = ap (λ (p : Spot). if p.half == half then spine_words_of (nodes j) else 0)
          (other_spine_stays_at_swing n copy.to book.spines j (λ same. apart ((rule.heap_stands.objects.back x j 0 is).3 ∙ ap (λ m. fragment_at (book.fragments m) 0) same ∙ sym (swung_array_is_kept heap state book rule copy swinging).3)))
      by (Kept j (suc k)) is = no_words_behind_first (suc k) (words_in_half half nodes spines j) (omega arith) ∙ sym (no_words_behind_first (suc k) (words_in_half half nodes book.spines j) (omega arith))
      by _ is = refl

  -- so as much is placed there
  placed_swung : kept_sum heap (words_in_half half nodes spines) book.owner ≡ kept_sum heap (words_in_half half nodes book.spines) book.owner + copy.array.words
  placed_swung =
      let but = sum_but_one_number (16 * heap.groups) (λ x. kept_weight (words_in_half half nodes spines) (book.owner x)) (λ x. kept_weight (words_in_half half nodes book.spines) (book.owner x)) f
      (swung_first_within_heap heap state book rule copy swinging) (λ x below other. weight_else x other) in
      omega (arith, but, weight_here, weight_was)

  -- the objects are as before
  nodes_same : nodes_in heap later ≡ nodes
  nodes_same = ap (λ (g : Graph). node_at g book.made) (graph_same_after_swing heap state book rule copy swinging)

  pub swung_stage_is_free : IsFree stage
  swung_stage_is_free = seen_stage_is_free heap state.collector.phase visit.group visit.marked (next_position_of visit.marked (visit.position + 1))

  -- the granted words stand
  pub budgets_swung : (log : List Entry) → BudgetsStand heap (turned log) later
  budgets_swung log =
      let old = rule.space.budgets in
      let told = entry heap state book rule copy swinging in
      let none : returning stage ≡ returning state.collector.stage = copying_returns_none stage swung_stage_is_free.of_copying ∙ ap returning (sym swinging) in
      let was : copying_words state.collector.stage ≡ copy.array.words = ap copying_words swinging in
      let budget : at heap words Budget ≡ at heap state.words Budget = at-put_apart heap state.words (Word f 2) Budget _ (λ e. omega (arith, e)) in
      let granted = granted_words_stay book.history told refl in
      let given = returned_words_stay book.history told refl in
      let in_cycle = returned_in_cycle_stays book.history told refl refl in
      let kept : kept_sum heap (words_of_object (nodes_in heap later)) book.owner ≡ kept_sum heap (words_of_object nodes) book.owner = ap (λ ns. kept_sum heap (words_of_object ns) book.owner) nodes_same in
      let dead : dead_sum heap (words_of_object (nodes_in heap later)) book.owner ≡ dead_sum heap (words_of_object nodes) book.owner = ap (λ ns. dead_sum heap (words_of_object ns) book.owner) nodes_same in
      let here : kept_sum heap (words_in_half half (nodes_in heap later) spines) book.owner ≡ kept_sum heap (words_in_half half nodes spines) book.owner
      = ap (λ ns. kept_sum heap (words_in_half half ns spines) book.owner) nodes_same in
      record {
        level = λ goes. absurd (goes (copying_is_leaving heap state book rule (Swinging copy) swinging stage));
        leaving = λ _. rw (spot_same_after_swing heap state book rule copy swinging)
            (omega (arith, old.leaving (copying_is_leaving heap state book rule (Swinging copy) swinging state.collector.stage), here, placed_swung, swung_stage_is_free.no_words, was));
        word = omega (arith, budget, old.word, none, kept, dead);
        told = omega (arith, old.told, none, granted, given, kept, dead);
        low = omega (arith, old.low, none, kept, dead);
        returned = omega (arith, old.returned, none, in_cycle, dead);
        early = λ between. in_cycle ∙ old.early between;
        counts = sweep_counts_while_copying _ book.owner stage swung_stage_is_free.of_copying;
      }

  -- each array has its spine in this half, or is to be visited
  arrays_swung : (j : ℕ) → j < length book.made → IsKept book.owner book.fragments j → (nodes j).array ≡ true
      → ((spines j).half ≡ half) ⊎ AwaitsCopy state.collector.phase stage (fragment_at (book.fragments j) 0)
  arrays_swung j below kept an_array = elim (cases_eq j n) [
    | inl same ↦ inl (ap (λ m. (spines m).half) same ∙ ap (λ (p : Spot). p.half) its_place ∙ there)
    | inr other ↦ elim (arrays_await_visit heap state book rule (Swinging copy) swinging j below kept an_array) [
      | inl here ↦ inl (ap (λ (p : Spot). p.half) (other_spine_stays_at_swing n copy.to book.spines j other) ∙ here)
      | inr to ↦
          let head : ℕ = fragment_at (book.fragments j) 0 in
          inr (awaits_copy_after_seen heap state.collector.phase visit.group visit.marked (visit.position + 1) head (owned_within_heap heap state.words book.owner head j 0 rule.heap_stands.control_words kept)
          (to_visit_at_next_position visit head (λ same. other (begun_by_one_object heap state book rule f copy.array.words (swung_is_to_copy heap state book rule copy swinging).found.begins j same kept)) to))
    ]
  ]

  -- so has each that has swung
  halves_have : (j : ℕ) → j < length book.made → IsKept book.owner book.fragments j → HasSwung (id_at book.made j) later.history → (spines j).half ≡ half
  halves_have j below kept swung = elim (cases_eq j n) [
    | inl same ↦ ap (λ m. (spines m).half) same ∙ ap (λ (p : Spot). p.half) its_place ∙ there
    | inr other ↦ ap (λ (p : Spot). p.half) (other_spine_stays_at_swing n copy.to book.spines j other)
        ∙ rule.space.halves.swung (phase_is_copying heap state book rule (Swinging copy) swinging) j below kept (other_swung book.history (id_at book.made j) copy.array.id (λ same. other (one_number same)) swung)
  ]
    where
      one_number : copy.array.id ≡ id_at book.made j → j ≡ n
      one_number same =
          sym (rule.heap_stands.ids.distinct j below) ∙ ap (object_number book.made) (sym same ∙ (swung_is_to_copy heap state book rule copy swinging).found.named)
          ∙ rule.heap_stands.ids.distinct n (swung_array_is_kept heap state book rule copy swinging).0

  pub halves_swung : (log : List Entry) → HalvesStand heap (turned log) later
  halves_swung log =
      let old = rule.space.halves in
      let graph = graph_same_after_swing heap state book rule copy swinging in
      let next = spot_same_after_swing heap state book rule copy swinging in
      let fourth = phase_is_copying heap state book rule (Swinging copy) swinging in
      record {
        half = rw next (next_spine_in_next_half heap state book rule (Swinging copy) swinging ∙ sym (copying_half_is_next state.collector.phase stage fourth));
        before = rw next (λ h offset some. elim (old.before h offset (λ none. some (ap (swung_word heap.seats n) none))) [
          | inl here ↦ inl here
          | inr behind ↦ inr record { leaving = copying_is_leaving heap state book rule (Swinging copy) swinging stage; a_half = behind.a_half; other = behind.other; before = behind.before }
        ]);
        arrays = rw (graph, next) arrays_swung;
        hands = rw next (λ r below has. elim (old.hands r below has) [
          | inl here ↦ inl here
          | inr early ↦ inr record { leaving = copying_is_leaving heap state book rule (Swinging copy) swinging stage; behind = early.behind }
        ]);
        swung = rw next (λ copies j below kept swung. halves_have j below kept swung);
        copies = rw (graph, next) (copying_stands_after_seen heap nodes book.made book.owner book.colour book.fragments spines half state.collector.phase visit (swung_is_to_copy heap state book rule copy swinging).found.marked
            (next_position_of visit.marked (visit.position + 1)));
        copy = copy_in_hand_where_none heap words later.spine_owner stage swung_stage_is_free.none (λ h offset j is. (placed_before_swing heap.seats n (book.spine_owner h offset) heap.seats j is).1 refl);
      }

  pub space_stands_after_swing : (log : List Entry) → SpaceStands heap (turned log) later
  space_stands_after_swing log = record { budgets = budgets_swung log; halves = halves_swung log }
