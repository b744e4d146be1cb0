-- What stands in the phase of copying whichever of its stages the collector comes to.
use Rattle.std.proofs.Common.{◌≡◌, ◌≢◌, ◌⊎◌, ℕ, ◌+◌, ◌%◌, ◌<◌, true, List, [], length, Option, None, inl, inr, refl, sym, ap, ◌∙◌, subst, arith}
use Rattle.core_rule.proofs.Terms.{cycle_phases, spot_in, Entry, Heap, graph_of, FitsCopying, Stage, Budget, State, IsMachine, at, put, Book, Colour, fragment_at, BudgetsStand}
use Rattle.core_rule.proofs.Terms.{SweepCounts, copying_words, placed_words, returning, HalvesStand, IsBeforeNext, IsLeftBehind, AwaitsCopy, IsLeaving, WhileCopying, half_at}
use Rattle.core_rule.proofs.Terms.{ScanStands, IsFewWords, PassStands, AfterMarking, MarkingStands, IsKept, node_at, Owner, SpineOwner, Open, Placed, CopyingStands, CopyInHand}
use Rattle.core_rule.proofs.Terms.{copy_in, Rule, SpaceStands, next_spine, SweepStands}
use Rattle.heap_model.specs.PhasePlan.{copying as copying_phase}
use Rattle.core_machine.specs.collector.Copying.{next_half, left_half, after_seen}
use Rattle.core_machine.specs.collector.FitsTurns.{FitsStage}
use Rattle.core_machine.specs.declared.collector.stage.Copying.{Copying}
use Rattle.core_machine.specs.declared.collector.stage.Stage.TheVariants as stages
use Rattle.core_machine.specs.declared.table.address.Address.{Address}
use Rattle.core_machine.specs.declared.table.address.Address.TheVariants.{Spot}
use Rattle.core_rule.proofs.copies.Visits.{seen_cases}
use Rattle.core_rule.proofs.book.BookGoing.{book_goes_on_with_history}
use Rattle.core_rule.proofs.halves.Leaving.{uncopied_is_not_placed, copy_in_hand_where_none}
use Rattle.core_rule.proofs.steps.Assemble.{Keeps}
use Rattle.core_rule.proofs.steps.TurnSteps.{after_turn, quiet, keeps_rule_by_load_with_book}

-- a stage of copying, or the one behind the last
abbrev pub IsOfCopying : Stage → Type 0
IsOfCopying (stages.Copying stage) = Unit {0}
IsOfCopying stages.Advancing = Unit {0}
IsOfCopying _ = ⊥

-- at such a stage nothing is scanned, passed or swept
module _ (heap : Heap) (words : List ℕ) (owner : ℕ → Owner) (colour : ℕ → Colour) (fragments : ℕ → List ℕ) (phase : ℕ) (copies : phase % cycle_phases ≡ copying_phase) where
  no_scan : (stage : Stage) → IsOfCopying stage → ScanStands heap words owner colour fragments stage × PassStands colour stage × SweepStands heap owner colour phase stage
  no_scan (stages.Copying stage) of = (tt, tt, tt)
  no_scan stages.Advancing of = (tt, tt, λ swept. absurd (omega (arith, copies, swept)))
  no_scan _ of = absurd of

  -- so what stands of marking is what stands once that has ended
  pub marking_stands_while_copying : AfterMarking owner colour → (stage : Stage) → IsOfCopying stage → IsFewWords stage → MarkingStands heap words owner colour fragments phase stage
  marking_stands_while_copying after stage of few = record {
    grey = λ f grey. absurd (after.no_grey f grey);
    scan = (no_scan stage of).0;
    few = few;
    pass = (no_scan stage of).1;
    sweep_stands = (no_scan stage of).2;
    alive = λ going. absurd (going (inr (inl copies)));
    after = λ settled. after;
  }

-- nor is anything returned or counted
pub copying_returns_none : (stage : Stage) → IsOfCopying stage → returning stage ≡ 0
copying_returns_none (stages.Copying stage) of = refl
copying_returns_none stages.Advancing of = refl
copying_returns_none _ of = absurd of

pub sweep_counts_while_copying : (words : ℕ → ℕ) (owner : ℕ → Owner) (stage : Stage) → IsOfCopying stage → SweepCounts words owner stage
sweep_counts_while_copying words owner (stages.Copying stage) of = tt
sweep_counts_while_copying words owner stages.Advancing of = tt
sweep_counts_while_copying words owner _ of = absurd of

-- spines have their places in the half that this cycle's flip has gone to
pub copying_half_is_next : (phase : ℕ) (stage : Stage) → phase % cycle_phases ≡ copying_phase → half_at phase stage ≡ next_half phase
copying_half_is_next phase stage copies = rw copies refl

-- which is the other one
pub left_half_is_not_next : (phase : ℕ) → left_half phase ≢ next_half phase
left_half_is_not_next phase same = omega (arith, same)

-- no copy is in progress at the stage
pub record IsFree (stage : Stage) : Type 0 where
  pub of_copying : IsOfCopying stage
  pub few : IsFewWords stage
  pub none : copy_in stage ≡ None
  pub no_words : copying_words stage ≡ 0

-- behind a visit's fragment no copy is in progress
pub seen_stage_is_free : (heap : Heap) (phase group marked : ℕ) (o : Option ℕ) → IsFree (after_seen heap group marked o)
seen_stage_is_free heap phase group marked = seen_cases heap phase group marked IsFree
    (λ more. record { of_copying = tt; few = tt; none = refl; no_words = refl })
    (λ last. record { of_copying = tt; few = tt; none = refl; no_words = refl })
    (λ position. record { of_copying = tt; few = tt; none = refl; no_words = refl })

-- what is asked of the stage to which a turn leads that leaves these words, and places so many more spine words
pub record LeadsBy (heap : Heap) (state : State) (book : Book) (words : List ℕ) (more : ℕ) (stage : Stage) : Type 0 where
  pub of_copying : IsOfCopying stage
  pub few : IsFewWords stage
  pub as_many : copying_words stage ≡ copying_words state.collector.stage + more
  pub arrays : (i : ℕ) → i < length book.made → IsKept book.owner book.fragments i → (node_at (graph_of heap book.history) book.made i).array ≡ true
      → ((book.spines i).half ≡ (next_spine heap state.words).half) ⊎ AwaitsCopy state.collector.phase stage (fragment_at (book.fragments i) 0)
  pub copies : WhileCopying (CopyingStands (node_at (graph_of heap book.history) book.made) book.made book.owner book.colour book.fragments book.spines (next_spine heap state.words).half) stage
  pub copy : CopyInHand heap words book.spine_owner stage

-- and to which a load does
abbrev pub LeadsTo : Heap → State → Book → Stage → Type 0
LeadsTo heap state book stage = LeadsBy heap state book state.words 0 stage

module _ (heap : Heap) (state : State) (book : Book) (rule : Rule heap state book) (from : Copying) (was : state.collector.stage ≡ stages.Copying from) where
  fits_copying : (state.collector.looked ≡ heap.seats) × (state.collector.phase % cycle_phases ≡ copying_phase) × FitsCopying heap from
  fits_copying = let fits = subst (FitsStage heap state.collector.phase state.collector.looked) was rule.machine.collector_fit.at_stage in (fits.0.all, fits.0.for_copying, fits.1)

  -- the phase is that of copying
  pub phase_is_copying : state.collector.phase % cycle_phases ≡ copying_phase
  phase_is_copying = fits_copying.1

  pub fits_copying_from : FitsCopying heap from
  fits_copying_from = fits_copying.2

  -- the array that is copied has few words
  pub copied_array_has_few_words : IsFewWords (stages.Copying from)
  copied_array_has_few_words = subst IsFewWords was rule.marks_stand.heap_marks.few

  pub copying_is_leaving : (stage : Stage) → IsLeaving state.collector.phase stage
  copying_is_leaving stage = inr (inl phase_is_copying)

  pub copying_is_after_marking : AfterMarking book.owner book.colour
  copying_is_after_marking = rule.marks_stand.heap_marks.after (inr (inl phase_is_copying))

  pub next_spine_in_next_half : (next_spine heap state.words).half ≡ next_half state.collector.phase
  next_spine_in_next_half = rule.space.halves.half ∙ copying_half_is_next state.collector.phase state.collector.stage phase_is_copying

  -- the state after a turn
  abbrev pub turned : List ℕ → List Entry → Stage → State
  turned words log stage = after_turn state words (record state.collector { stage = stage; log = log })

  module _ (words : List ℕ) (spine_owner : ℕ → ℕ → SpineOwner) (more : ℕ) (log : List Entry) (stage : Stage) (leads : LeadsBy heap state (record book { spine_owner = spine_owner }) words more stage)
      (same : (next_spine heap words).half ≡ (next_spine heap state.words).half) where
    abbrev later : Book
    later = record book { spine_owner = spine_owner }

    -- where the next spine has its place in the half that it had, spines stand in their halves
    pub halves_stand_while_copying : ((half offset : ℕ) → spine_owner half offset ≢ Open
        → IsBeforeNext (next_spine heap words) half offset ⊎ IsLeftBehind heap (next_spine heap words) state.collector.phase state.collector.stage half offset)
        → HalvesStand heap (turned words log stage) later
    halves_stand_while_copying before = let old = rule.space.halves in record {
      half = same ∙ next_spine_in_next_half ∙ sym (copying_half_is_next state.collector.phase stage phase_is_copying);
      before = λ half offset some. elim (before half offset some) [
        | inl here ↦ inl here
        | inr behind ↦ inr record { leaving = copying_is_leaving stage; a_half = behind.a_half; other = behind.other; before = behind.before }
      ];
      arrays = λ i below kept an_array. elim (leads.arrays i below kept an_array) [
        | inl here ↦ inl (here ∙ sym same)
        | inr waits ↦ inr waits
      ];
      hands = λ r below has. elim (old.hands r below has) [
        | inl here ↦ inl (here ∙ sym same)
        | inr early ↦ inr record { leaving = copying_is_leaving stage; behind = early.behind }
      ];
      swung = λ copies i below kept swung. old.swung copies i below kept swung ∙ sym same;
      copies = subst (λ h. WhileCopying (CopyingStands (node_at (graph_of heap book.history) book.made) book.made book.owner book.colour book.fragments book.spines h) stage) (sym same) leads.copies;
      copy = leads.copy;
    }

    -- and as many words are granted, where its place is behind so many more
    pub budgets_stand_while_copying : (next_spine heap words).offset ≡ (next_spine heap state.words).offset + more → at heap words Budget ≡ at heap state.words Budget → BudgetsStand heap (turned words log stage) later
    budgets_stand_while_copying offset budget =
        let old = rule.space.budgets in
        let none : returning stage ≡ returning state.collector.stage = copying_returns_none stage leads.of_copying ∙ ap returning (sym was) in
        record {
          level = λ goes. absurd (goes (copying_is_leaving stage));
          leaving = λ _. subst (λ h. (next_spine heap words).offset ≡ placed_words heap (turned words log stage) later h) (sym same)
              (omega (arith, old.leaving (copying_is_leaving state.collector.stage), leads.as_many, offset));
          word = omega (arith, budget, old.word, none);
          told = omega (arith, old.told, none);
          low = omega (arith, old.low, none);
          returned = omega (arith, old.returned, none);
          early = old.early;
          counts = sweep_counts_while_copying _ book.owner stage leads.of_copying;
        }

  -- where that place and whose the words are stay, so does the spine space
  pub space_stands_while_copying : (words : List ℕ) → at heap words Spot ≡ at heap state.words Spot → at heap words Budget ≡ at heap state.words Budget → (log : List Entry) (stage : Stage)
      → LeadsBy heap state book words 0 stage → SpaceStands heap (turned words log stage) book
  space_stands_while_copying words spot budget log stage leads = record {
    budgets = budgets_stand_while_copying words book.spine_owner 0 log stage leads (ap (λ w. (spot_in w).half) spot) (omega (arith, ap (λ w. (spot_in w).offset) spot)) budget;
    halves = halves_stand_while_copying words book.spine_owner 0 log stage leads (ap (λ w. (spot_in w).half) spot) (rw spot rule.space.halves.before);
  }

  -- a load keeps the rule
  pub keeps_rule_by_copying_load : (stage : Stage) → LeadsTo heap state book stage → (a : Address)
      → IsMachine heap (after_turn state (put heap state.words a (at heap state.words a)) (quiet (record state.collector { stage = stage })))
      → Keeps heap state (after_turn state (put heap state.words a (at heap state.words a)) (quiet (record state.collector { stage = stage }))) book book.begun []
  keeps_rule_by_copying_load stage leads a machine = keeps_rule_by_load_with_book heap state book a (record state.collector { stage = stage }) book rule machine refl rule.heap_stands (λ r below stands. stands)
      record { log = rule.collector_stands.log; phase_told = rule.collector_stands.phase_told; looked = rule.collector_stands.looked }
      record {
        heap_marks = marking_stands_while_copying heap state.words book.owner book.colour book.fragments state.collector.phase phase_is_copying copying_is_after_marking stage leads.of_copying leads.few;
        roots = λ r below marks. absurd (omega (arith, marks.phase, phase_is_copying));
      }
      (space_stands_while_copying state.words refl refl state.collector.log stage leads)
      (book_goes_on_with_history heap state book book.history book.begun)

  module _ (free : IsFree (stages.Copying from)) where
    -- while no copy is in progress the collector has no spine words
    pub no_word_is_collectors : (half offset j : ℕ) → book.spine_owner half offset ≢ Placed heap.seats j
    no_word_is_collectors = uncopied_is_not_placed heap state.words book.spine_owner (stages.Copying from) free.none (subst (CopyInHand heap state.words book.spine_owner) was rule.space.halves.copy)

    -- and a stage without a copy may come, where arrays are in this half or to be visited, and copying has found what it is to have
    pub leads_to_stage_without_copy : (stage : Stage) → IsFree stage
        → ((i : ℕ) → i < length book.made → IsKept book.owner book.fragments i → (node_at (graph_of heap book.history) book.made i).array ≡ true
        → ((book.spines i).half ≡ (next_spine heap state.words).half) ⊎ AwaitsCopy state.collector.phase stage (fragment_at (book.fragments i) 0))
        → WhileCopying (CopyingStands (node_at (graph_of heap book.history) book.made) book.made book.owner book.colour book.fragments book.spines (next_spine heap state.words).half) stage
        → LeadsTo heap state book stage
    leads_to_stage_without_copy stage next arrays copies = record {
      of_copying = next.of_copying;
      few = next.few;
      as_many = omega (arith, next.no_words, ap copying_words was, free.no_words);
      arrays = arrays;
      copies = copies;
      copy = copy_in_hand_where_none heap state.words book.spine_owner stage next.none no_word_is_collectors;
    }
