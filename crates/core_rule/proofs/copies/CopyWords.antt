-- The words of the copy in progress: the collector has them, from the claim of their place on, and the first ones equal those of the spine.
use Rattle.std.proofs.Common.{◌≡◌, ℕ, suc, ◌+◌, ◌<◌, ◌≤◌, List, Some, inl, inr, refl, subst}
use Rattle.std.proofs.lemmas.Bool.Decides.{leb_tells}
use Rattle.core_rule.proofs.Terms.{Heap, graph_of, Stage, State, at, spine_place, Book, copying_words, IsToVisit, node_at, SpineOwner, Placed, CopyInHand, IsToCopy, copy_in, Rule}
use Rattle.core_rule.proofs.Terms.{IsWordOf, next_spine}
use Rattle.core_machine.specs.collector.Copying.{copy_at}
use Rattle.core_machine.specs.declared.collector.stage.Copying.TheVariants.{Loading, Swinging}
use Rattle.core_machine.specs.declared.collector.stage.SpineCopy.{SpineCopy}
use Rattle.core_machine.specs.declared.collector.stage.Stage.TheVariants as stages
use Rattle.core_rule.proofs.copies.CopyingStages.{LeadsBy}
use Rattle.core_rule.proofs.copies.VisitsOn.{ArraysOr}

-- the copy comes to its next word, or is whole
pub copy_cases : (P : Stage → Type 0) (copy : SpineCopy) → P (stages.Copying (Loading copy)) → P (stages.Copying (Swinging copy)) → P (copy_at copy)
copy_cases P copy more whole = elim (leb_tells (suc copy.index) copy.array.words) as (λ _. P (copy_at copy)) [
  | inl next ↦ rw next.0 more
  | inr last ↦ rw last.0 whole
]

-- the collector has exactly the words of this copy, and the first ones equal those of the spine
pub record HasCopy (heap : Heap) (words : List ℕ) (spine_owner : ℕ → ℕ → SpineOwner) (copy : SpineCopy) : Type 0 where
  pub placed : (j : ℕ) → j < copy.array.words → spine_owner copy.to.half (copy.to.offset + j) ≡ Placed heap.seats j
  pub own : (half offset j : ℕ) → spine_owner half offset ≡ Placed heap.seats j → (j < copy.array.words) × IsWordOf copy.to half offset j
  pub copied : (j : ℕ) → j < copy.index → at heap words (spine_place copy.to j) ≡ at heap words (spine_place copy.from j)

-- so it is at each stage of a copy
pub copy_stage_has_copy : (heap : Heap) (words : List ℕ) (spine_owner : ℕ → ℕ → SpineOwner) (stage : Stage) (copy : SpineCopy) → copy_in stage ≡ Some copy → CopyInHand heap words spine_owner stage
    → HasCopy heap words spine_owner copy
copy_stage_has_copy heap words spine_owner stage copy is old = record {
  placed = rw is at old.placed;
  own = λ half offset j owned.
      let its = old.own half offset j owned in
      let same : its.copy ≡ copy = cc (its.progress, is) in
      subst (λ (c : SpineCopy). (j < c.array.words) × IsWordOf c.to half offset j) same (its.within, its.is);
  copied = rw is at old.copied;
}

pub copy_in_hand_of_stage : (heap : Heap) (words : List ℕ) (spine_owner : ℕ → ℕ → SpineOwner) (stage : Stage) (copy : SpineCopy) → copy_in stage ≡ Some copy → HasCopy heap words spine_owner copy
    → CopyInHand heap words spine_owner stage
copy_in_hand_of_stage heap words spine_owner stage copy is has = record {
  placed = rw is has.placed;
  own = λ half offset j owned. let its = has.own half offset j owned in record { copy = copy; progress = is; within = its.0; is = its.1 };
  copied = rw is has.copied;
}

-- and the collector may come to each, where arrays are in this half or to be visited, and the copy is that of a spine in the other one
pub leads_by_copy : (heap : Heap) (state : State) (book : Book) (rule : Rule heap state book) (words : List ℕ) (spine_owner : ℕ → ℕ → SpineOwner) (more : ℕ) (copy : SpineCopy) → copy.array.words ≤ 1024
    → copy.array.words ≡ copying_words state.collector.stage + more → ArraysOr heap state book rule (IsToVisit copy.array.visit)
    → IsToCopy (node_at (graph_of heap book.history) book.made) book.made book.owner book.colour book.spines (next_spine heap state.words).half copy.array copy.from
    → copy.to.half ≡ (next_spine heap state.words).half → HasCopy heap words spine_owner copy → LeadsBy heap state (record book { spine_owner = spine_owner }) words more (copy_at copy)
leads_by_copy heap state book rule words spine_owner more copy few same arrays to_copy here has = copy_cases (LeadsBy heap state (record book { spine_owner = spine_owner }) words more) copy
    record { of_copying = tt; few = few; as_many = same; arrays = arrays; copies = (to_copy, here); copy = copy_in_hand_of_stage heap words spine_owner (stages.Copying (Loading copy)) copy refl has }
    record { of_copying = tt; few = few; as_many = same; arrays = arrays; copies = (to_copy, here); copy = copy_in_hand_of_stage heap words spine_owner (stages.Copying (Swinging copy)) copy refl has }
