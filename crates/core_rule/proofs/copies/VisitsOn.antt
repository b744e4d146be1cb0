-- A visit goes on behind a fragment: to the next marked one of its group, to the next group, or to the end of copying.
use Rattle.std.proofs.Common.{◌≡◌, ◌⊎◌, ℕ, ◌+◌, ◌<◌, true, List, length, Option, inl, inr, ap, subst}
use Rattle.std.proofs.lemmas.Bool.{cases_eq}
use Rattle.heap_words.specs.declared.spot.Spot.{Spot}
use Rattle.core_rule.proofs.Terms.{Heap, Id, graph_of, Node, State, Book, Colour, fragment_at, IsMarked, AwaitsCopy, AwaitsVisit, IsToVisit, WhileCopying, AfterMarking, IsKept}
use Rattle.core_rule.proofs.Terms.{node_at, Owner, Kept, born_bit, VisitIsMarked, CopyingStands, Rule, next_spine}
use Rattle.core_machine.specs.collector.Copying.{next_position_of, after_seen}
use Rattle.core_machine.specs.collector.CopyingTurns.{visited}
use Rattle.core_machine.specs.declared.collector.stage.Copying.{Copying}
use Rattle.core_machine.specs.declared.collector.stage.Stage.TheVariants as stages
use Rattle.core_machine.specs.declared.collector.stage.Visit.{Visit}
use Rattle.core_rule.proofs.copies.CopyingStages.{IsFree, LeadsTo, leads_to_stage_without_copy, seen_stage_is_free}
use Rattle.core_rule.proofs.copies.Visits.{seen_cases, awaits_copy_after_seen, to_visit_at_next_position}
use Rattle.core_rule.proofs.ways.KeptWords.{owned_within_heap}

-- once marking has ended what is kept is marked
pub kept_is_marked : (owner : ℕ → Owner) (colour : ℕ → Colour) → AfterMarking owner colour → (f i k : ℕ) → owner f ≡ Kept i k → IsMarked colour f
kept_is_marked owner colour after f i k kept white =
    let dead = after.white_dead f record { unmarked = white; born = ap born_bit kept } in
    cc (kept, dead.2)

-- copying has found what it is to have where a visit goes on
pub copying_stands_after_seen : (heap : Heap) (nodes : ℕ → Node) (made : List Id) (owner : ℕ → Owner) (colour : ℕ → Colour) (fragments : ℕ → List ℕ) (spines : ℕ → Spot) (half phase : ℕ) (visit : Visit)
    → VisitIsMarked colour visit → (o : Option ℕ) → WhileCopying (CopyingStands nodes made owner colour fragments spines half) (after_seen heap visit.group visit.marked o)
copying_stands_after_seen heap nodes made owner colour fragments spines half phase visit marked =
    seen_cases heap phase visit.group visit.marked (WhileCopying (CopyingStands nodes made owner colour fragments spines half)) (λ more. tt) (λ last. tt) (λ position. marked)

module _ (heap : Heap) (state : State) (book : Book) (rule : Rule heap state book) where
  abbrev head : ℕ → ℕ
  head i = fragment_at (book.fragments i) 0

  -- each array stands in the half of the next spine, or what is said of its first fragment
  abbrev pub ArraysOr : (ℕ → Type 0) → Type 0
  ArraysOr P = (i : ℕ) → i < length book.made → IsKept book.owner book.fragments i → (node_at (graph_of heap book.history) book.made i).array ≡ true
      → ((book.spines i).half ≡ (next_spine heap state.words).half) ⊎ P (fragment_at (book.fragments i) 0)

  -- of those that were to be visited from a position on
  pub arrays_seen : (visit : Visit) → ArraysOr (IsToVisit visit) → ArraysOr (AwaitsCopy state.collector.phase (after_seen heap visit.group visit.marked (next_position_of visit.marked visit.position)))
  arrays_seen visit arrays i below kept an_array = elim (arrays i below kept an_array) [
    | inl here ↦ inl here
    | inr to ↦ inr (awaits_copy_after_seen heap state.collector.phase visit.group visit.marked visit.position (head i) (owned_within_heap heap state.words book.owner (head i) i 0 rule.heap_stands.control_words kept) to)
  ]

  -- of those that were to be visited at a position on from the next one, where the array that begins there stands in this half already
  pub arrays_to_visit_behind : (visit : Visit)
      → ((i : ℕ) → i < length book.made → head i ≡ visited visit → IsKept book.owner book.fragments i → (node_at (graph_of heap book.history) book.made i).array ≡ true
      → (book.spines i).half ≡ (next_spine heap state.words).half)
      → ArraysOr (IsToVisit visit) → ArraysOr (IsToVisit (record visit { position = visit.position + 1 }))
  arrays_to_visit_behind visit here arrays i below kept an_array = elim (arrays i below kept an_array) [
    | inl there ↦ inl there
    | inr to ↦ elim (cases_eq (head i) (visited visit)) [
      | inl same ↦ inl (here i below same kept an_array)
      | inr other ↦ inr (to_visit_at_next_position visit (head i) other to)
    ]
  ]

  module _ (from : Copying) (was : state.collector.stage ≡ stages.Copying from) where
    -- what copying has found where it stands
    pub copying_stands_from_stage : CopyingStands (node_at (graph_of heap book.history) book.made) book.made book.owner book.colour book.fragments book.spines (next_spine heap state.words).half from
    copying_stands_from_stage = subst (WhileCopying (CopyingStands (node_at (graph_of heap book.history) book.made) book.made book.owner book.colour book.fragments book.spines (next_spine heap state.words).half)) was
        rule.space.halves.copies

    -- and which arrays it is to visit yet
    pub arrays_await_visit : ArraysOr (AwaitsVisit from)
    arrays_await_visit = λ i below kept an_array. subst (λ stage. ((book.spines i).half ≡ (next_spine heap state.words).half) ⊎ AwaitsCopy state.collector.phase stage (head i)) was
        (rule.space.halves.arrays i below kept an_array)

    -- so the collector may go on there
    pub leads_to_seen_stage : IsFree (stages.Copying from) → (visit : Visit) → VisitIsMarked book.colour visit → ArraysOr (IsToVisit visit)
        → LeadsTo heap state book (after_seen heap visit.group visit.marked (next_position_of visit.marked visit.position))
    leads_to_seen_stage free visit marked arrays = leads_to_stage_without_copy heap state book rule from was free (after_seen heap visit.group visit.marked (next_position_of visit.marked visit.position))
        (seen_stage_is_free heap state.collector.phase visit.group visit.marked (next_position_of visit.marked visit.position)) (arrays_seen visit arrays)
        (copying_stands_after_seen heap (node_at (graph_of heap book.history) book.made) book.made book.owner book.colour book.fragments book.spines (next_spine heap state.words).half state.collector.phase visit marked
        (next_position_of visit.marked visit.position))
