-- A turn within a phase leads from stage to stage as the spine space takes it.
use Rattle.std.proofs.Common.{◌≡◌, ◌≢◌, ℕ, ◌%◌, false, List, None, inl, inr, refl, sym, ◌∙◌, subst}
use Rattle.std.proofs.lemmas.Bool.Decides.{eqb_tells}
use Rattle.core_rule.proofs.Terms.{cycle_phases, Heap, Collector, Stage, Book, SweepCounts, words_of_object, nodes_in, returning, copying_words, AwaitsCopy, IsLeaving}
use Rattle.core_rule.proofs.Terms.{WhileCopying, half_at, is_advancing, Owner, SpineOwner, CopyingStands, CopyInHand, copy_in, next_spine}
use Rattle.heap_model.specs.PhasePlan.{marking as marking_phase, copying as copying_phase, sweep as sweep_phase}
use Rattle.core_machine.specs.declared.collector.stage.Copying.{Copying}
use Rattle.core_machine.specs.declared.collector.stage.Copying.TheVariants as copying
use Rattle.core_machine.specs.declared.collector.stage.Stage.TheVariants as stages
use Rattle.core_rule.proofs.halves.HalvesFrames.{StageGoesOn, IsPlain, copy_in_hand_where_same}
use Rattle.core_rule.proofs.words.Addresses.{SameSpines}

-- the copy in progress is right at another stage that has the same one, where the spine words are as before
pub copy_in_hand_at_stage : (heap : Heap) (words now : List ℕ) (spine_owner : ℕ → ℕ → SpineOwner) (from to : Stage) → SameSpines heap words now → copy_in to ≡ copy_in from
    → CopyInHand heap words spine_owner from → CopyInHand heap now spine_owner to
copy_in_hand_at_stage heap words now spine_owner from to same copy old =
    let still = copy_in_hand_where_same heap words now spine_owner spine_owner from same (λ half offset. refl) old in
    record {
      placed = rw copy still.placed;
      own = λ half offset j is. let one = still.own half offset j is in record { copy = one.copy; progress = copy ∙ one.progress; within = one.within; is = one.is };
      copied = rw copy still.copied;
    }

-- behind the flip stands one stage alone
isn't_advancing : (stage : Stage) → stage ≢ stages.Advancing → is_advancing stage ≡ false
isn't_advancing stages.Advancing apart = absurd (apart refl)
isn't_advancing _ apart = refl

-- no stage in the phase of marking stands behind the flip, before and after
pub record IsBeforeFlip (phase : ℕ) (from to : Stage) : Type 0 where
  pub from_before : phase % cycle_phases ≡ marking_phase → from ≢ stages.Advancing
  pub to_before : phase % cycle_phases ≡ marking_phase → to ≢ stages.Advancing

module _ (heap : Heap) (words : List ℕ) (now : Book) (was is : Collector) (phase : is.phase ≡ was.phase) (flip : IsBeforeFlip was.phase was.stage is.stage) where
  half_stays : half_at is.phase is.stage ≡ half_at was.phase was.stage
  half_stays = rw phase (elim (eqb_tells (was.phase % cycle_phases) marking_phase) as (λ _. half_at was.phase is.stage ≡ half_at was.phase was.stage) [
    | inl third ↦ rw (third.0, isn't_advancing was.stage (flip.from_before third.1), isn't_advancing is.stage (flip.to_before third.1)) refl
    | inr other ↦ rw other.0 refl
  ])

  leaves_on : IsLeaving was.phase was.stage → IsLeaving is.phase is.stage
  leaves_on (inl ended) = absurd (flip.from_before ended.0 ended.1)
  leaves_on (inr later) = inr (rw phase later)

  left_on : IsLeaving is.phase is.stage → IsLeaving was.phase was.stage
  left_on (inl ended) = absurd (flip.to_before (subst (λ p. p % cycle_phases ≡ marking_phase) phase ended.0) ended.1)
  left_on (inr (inl copies)) = inr (inl (subst (λ p. p % cycle_phases ≡ copying_phase) phase copies))
  left_on (inr (inr sweeps)) = inr (inr (subst (λ p. p % cycle_phases ≡ sweep_phase) phase sweeps))

  -- a turn within a phase that doesn't flip: what awaits a copy does, and as many words are copied and returned
  pub goes_within : ((f : ℕ) → AwaitsCopy was.phase was.stage f → AwaitsCopy was.phase is.stage f) → returning is.stage ≡ returning was.stage → copying_words is.stage ≡ copying_words was.stage
      → SweepCounts (words_of_object (nodes_in heap now)) now.owner is.stage
      → WhileCopying (CopyingStands (nodes_in heap now) now.made now.owner now.colour now.fragments now.spines (next_spine heap words).half) is.stage
      → CopyInHand heap words now.spine_owner is.stage → StageGoesOn heap words now was is
  goes_within awaits returns copied counts copies copy = record {
    half = half_stays;
    leaves = leaves_on;
    left = left_on;
    awaits = rw phase awaits;
    returns = returns;
    copied = copied;
    early = rw phase (λ is. is);
    in_copying = rw phase (λ is. is);
    counts = counts;
    copies = copies;
    copy = copy;
  }

-- nothing is copied or returned at the stage
abbrev pub IsQuiet : Stage → Type 0
IsQuiet (stages.Copying (copying.Visiting group)) = Unit {0}
IsQuiet (stages.Copying stage) = ⊥
IsQuiet (stages.Returning group counted) = ⊥
IsQuiet _ = Unit {0}

pub quiet_returns_none : (stage : Stage) → IsQuiet stage → returning stage ≡ 0
quiet_returns_none (stages.Returning group counted) still = absurd still
quiet_returns_none _ still = refl

pub quiet_copies_none : (stage : Stage) → IsQuiet stage → copying_words stage ≡ 0
quiet_copies_none (stages.Copying (copying.Visiting group)) still = refl
quiet_copies_none (stages.Copying stage) still = absurd still
quiet_copies_none _ still = refl

pub quiet_has_no_copy : (stage : Stage) → IsQuiet stage → copy_in stage ≡ None
quiet_has_no_copy (stages.Copying (copying.Visiting group)) still = refl
quiet_has_no_copy (stages.Copying stage) still = absurd still
quiet_has_no_copy _ still = refl

pub quiet_copies : (P : Copying → Type 0) → ((group : ℕ) → P (copying.Visiting group)) → (stage : Stage) → IsQuiet stage → WhileCopying P stage
quiet_copies P visiting (stages.Copying (copying.Visiting group)) still = visiting group
quiet_copies P visiting (stages.Copying stage) still = absurd still
quiet_copies P visiting _ still = tt

-- so a turn from one such stage to another goes on, where what awaits a copy does, and the sweep has counted
pub quiet_stage_goes_on : (heap : Heap) (words later : List ℕ) (now : Book) (was is : Collector) → is.phase ≡ was.phase → IsBeforeFlip was.phase was.stage is.stage → IsQuiet was.stage → IsQuiet is.stage
    → ((f : ℕ) → AwaitsCopy was.phase was.stage f → AwaitsCopy was.phase is.stage f) → SweepCounts (words_of_object (nodes_in heap now)) now.owner is.stage
    → SameSpines heap words later → CopyInHand heap words now.spine_owner was.stage → StageGoesOn heap later now was is
quiet_stage_goes_on heap words later now was is phase flip before after awaits counts same copy =
    goes_within heap later now was is phase flip awaits (quiet_returns_none is.stage after ∙ sym (quiet_returns_none was.stage before)) (quiet_copies_none is.stage after ∙ sym (quiet_copies_none was.stage before)) counts
    (quiet_copies (CopyingStands (nodes_in heap now) now.made now.owner now.colour now.fragments now.spines (next_spine heap later).half) (λ group. tt) is.stage after)
    (copy_in_hand_at_stage heap words later now.spine_owner was.stage is.stage same (quiet_has_no_copy is.stage after ∙ sym (quiet_has_no_copy was.stage before)) copy)

-- and nothing is counted
abbrev pub IsIdle : Stage → Type 0
IsIdle (stages.Examining group dead position counted) = ⊥
IsIdle (stages.Freeing group dead counted) = ⊥
IsIdle stage = IsQuiet stage

pub idle_is_quiet : (stage : Stage) → IsIdle stage → IsQuiet stage
idle_is_quiet (stages.Examining group dead position counted) idle = absurd idle
idle_is_quiet (stages.Freeing group dead counted) idle = absurd idle
idle_is_quiet _ idle = idle

idle_counts : (words : ℕ → ℕ) (owner : ℕ → Owner) (stage : Stage) → IsIdle stage → SweepCounts words owner stage
idle_counts words owner (stages.Examining group dead position counted) idle = absurd idle
idle_counts words owner (stages.Freeing group dead counted) idle = absurd idle
idle_counts words owner _ idle = tt

pub idle_stage_goes_on : (heap : Heap) (words later : List ℕ) (now : Book) (was is : Collector) → is.phase ≡ was.phase → IsBeforeFlip was.phase was.stage is.stage → IsIdle was.stage → IsIdle is.stage
    → ((f : ℕ) → AwaitsCopy was.phase was.stage f → AwaitsCopy was.phase is.stage f) → SameSpines heap words later → CopyInHand heap words now.spine_owner was.stage → StageGoesOn heap later now was is
idle_stage_goes_on heap words later now was is phase flip before after awaits =
    quiet_stage_goes_on heap words later now was is phase flip (idle_is_quiet was.stage before) (idle_is_quiet is.stage after) awaits (idle_counts (words_of_object (nodes_in heap now)) now.owner is.stage after)

-- at a plain stage nothing is, and nothing awaits a copy
plain_idle : (stage : Stage) → IsPlain stage → IsIdle stage
plain_idle (stages.Copying stage) plain = absurd plain
plain_idle (stages.Examining group dead position counted) plain = absurd plain
plain_idle (stages.Freeing group dead counted) plain = absurd plain
plain_idle (stages.Returning group counted) plain = absurd plain
plain_idle _ plain = tt

plain_before : (stage : Stage) → IsPlain stage → stage ≢ stages.Advancing
plain_before stages.Advancing plain same = plain
plain_before _ plain same = cc

plain_awaits : (phase : ℕ) (stage : Stage) (f : ℕ) → IsPlain stage → ¬ AwaitsCopy phase stage f
plain_awaits phase stages.Looking f plain waits = plain
plain_awaits phase stages.Advancing f plain waits = plain
plain_awaits phase (stages.Copying stage) f plain waits = plain
plain_awaits phase _ f plain waits = waits

-- so a turn from one plain stage to another goes on
pub plain_stage_goes_on : (heap : Heap) (words later : List ℕ) (now : Book) (was is : Collector) → is.phase ≡ was.phase → IsPlain was.stage → IsPlain is.stage
    → SameSpines heap words later → CopyInHand heap words now.spine_owner was.stage → StageGoesOn heap later now was is
plain_stage_goes_on heap words later now was is phase before after =
    idle_stage_goes_on heap words later now was is phase record { from_before = λ third. plain_before was.stage before; to_before = λ third. plain_before is.stage after }
    (plain_idle was.stage before) (plain_idle is.stage after) (λ f waits. absurd (plain_awaits was.phase was.stage f before waits))
