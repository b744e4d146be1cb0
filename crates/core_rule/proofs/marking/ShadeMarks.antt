-- A fragment of a kept object is marked: what stays of marking.
use Rattle.std.proofs.Common.{◌⊎◌, ◌≡◌, ℕ, ◌+◌, ◌≤◌, ◌/◌, List, Some, false, inl, inr, refl, sym, ap, ◌∙◌, subst, arith}
use Rattle.std.proofs.lemmas.Bool.Decides.{eqb_tells}
use Rattle.core_rule.proofs.Terms.{spot_in, Heap, Stage, spine_words_in, Colour, White, Grey, fragment_at, IsMarked, WordPointsTo, IsKeptFragment, MayMark, IsSeen, IsSeenWhole, IsSpineOf}
use Rattle.core_rule.proofs.Terms.{ScanStands, PassStands, AfterMarking, MarkingStands, SweepStands, Owner, Kept, Dead, born_bit, Guarded, from_grey, from_white, IsReached}
use Rattle.core_machine.specs.declared.collector.stage.SpineScan.{SpineScan}
use Rattle.core_machine.specs.declared.collector.stage.Stage.TheVariants as stages
use Rattle.core_rule.specs.marking.Sources.{TellsNoSpine}
use Rattle.core_rule.proofs.colours.LeadsFrames.{SameSources, led_before_where_same, leads_now_where_same, tells_no_spine_still}
use Rattle.core_rule.proofs.colours.ShadeColours.{with_mark, mark_keeps_other_colour, mark_keeps_marked}
use Rattle.core_rule.proofs.cycle.CycleFrames.{deletion_barrier_stays}
use Rattle.core_rule.proofs.marking.MarkingFrames.{OnlyClears}
use Rattle.core_rule.proofs.marking.Paths.{white_or_marked, grey_stays_grey, marked_colour_stays}

-- a path begins at a grey fragment
pub path_grey : (edge : ℕ → ℕ → Type 0) (white grey : ℕ → Type 0) (x : ℕ) → Guarded edge white grey x → (f : ℕ) × grey f
path_grey edge white grey x (from_grey f _ is leads whites) = (f, is)
path_grey edge white grey x (from_white f _ path leads whites) = path_grey edge white grey f path

module _ (heap : Heap) (words now : List ℕ) (owner : ℕ → Owner) (colour : ℕ → Colour) (fragments : ℕ → List ℕ) (m : ℕ) (kept : IsKeptFragment owner m)
    (same : (f : ℕ) → SameSources heap words now f) where
  abbrev shaded : ℕ → Colour
  shaded = with_mark colour m

  back : (f source g : ℕ) → WordPointsTo heap now f source g → WordPointsTo heap words f source g
  back f source g leads = led_before_where_same heap words now f (same f) source g leads

  pub is_seen_after_shade : (f part : ℕ) → IsSeen heap words colour f part → IsSeen heap now shaded f part
  is_seen_after_shade f part seen = record {
    grey = grey_stays_grey colour m f seen.grey;
    seen = λ p g below leads. mark_keeps_marked colour m g (seen.seen p g below (back f p g leads));
  }

  whole_on : (f : ℕ) → IsSeenWhole heap words colour f → IsSeenWhole heap now shaded f
  whole_on f seen = record {
    grey = grey_stays_grey colour m f seen.grey;
    seen = λ source g leads. mark_keeps_marked colour m g (seen.seen source g (back f source g leads));
  }

  none_on : (f : ℕ) → TellsNoSpine heap words f → TellsNoSpine heap now f
  none_on f none = tells_no_spine_still heap words now f (same f) none

  pub is_spine_after_shade : (s : SpineScan) → IsSpineOf heap words s → IsSpineOf heap now s
  is_spine_after_shade s is = record {
    as_many = is.as_many ∙ sym (ap spine_words_in ((same s.scan.fragment).parts 0 (omega arith)));
    there = is.there ∙ sym (ap spot_in ((same s.scan.fragment).parts 2 (omega arith)));
  }

  may_on : (f : ℕ) → MayMark owner colour fragments f → MayMark owner shaded fragments f
  may_on f may = record {
    kept_fragment = may.kept_fragment;
    first = elim may.first as (λ _. (may.kept_fragment.position ≡ 0) ⊎ IsMarked shaded (fragment_at (fragments may.kept_fragment.index) 0)) [
      | inl head ↦ inl head
      | inr marked ↦ inr (mark_keeps_marked colour m _ marked)
    ];
  }

  -- a fragment that is grey now was so, or is the one that was marked
  grey_was : (f : ℕ) → shaded f ≡ Grey → (colour f ≡ Grey) ⊎ ((f ≡ m) × (colour f ≡ White))
  grey_was f grey = elim (eqb_tells f m) as (λ _. (colour f ≡ Grey) ⊎ ((f ≡ m) × (colour f ≡ White))) [
    | inr other ↦ inl (sym (mark_keeps_other_colour colour m f other.1) ∙ grey)
    | inl same ↦ elim (white_or_marked colour f) as (λ _. (colour f ≡ Grey) ⊎ ((f ≡ m) × (colour f ≡ White))) [
      | inl white ↦ inr (same.1, white)
      | inr marked ↦ inl (sym (marked_colour_stays colour m f marked) ∙ grey)
    ]
  ]

  -- what is grey is a fragment of a kept object
  pub grey_is_kept_fragment : ((f : ℕ) → colour f ≡ Grey → IsKeptFragment owner f) → (f : ℕ) → shaded f ≡ Grey → IsKeptFragment owner f
  grey_is_kept_fragment kept_fragments f grey = elim (grey_was f grey) as (λ _. IsKeptFragment owner f) [
    | inl was ↦ kept_fragments f was
    | inr new ↦ subst (IsKeptFragment owner) (sym new.0) kept
  ]

  scan_shaded : (stage : Stage) → ScanStands heap words owner colour fragments stage → ScanStands heap now owner shaded fragments stage
  scan_shaded (stages.Scanning scan) stands = (is_seen_after_shade scan.fragment scan.part stands.0, λ later. none_on scan.fragment (stands.1 later))
  scan_shaded (stages.Shading scan target next) stands = (
    is_seen_after_shade scan.fragment scan.part stands.0,
    deletion_barrier_stays heap words now colour shaded (mark_keeps_marked colour m) scan.fragment scan.part (λ g leads. inl (back scan.fragment scan.part g leads)) (Some target) stands.1,
    may_on target stands.2,
    stands.3,
    none_on scan.fragment stands.4,
  )
  scan_shaded (stages.Addressing scan count) stands =
      (is_seen_after_shade scan.fragment 4 stands.0, stands.1 ∙ sym (ap spine_words_in ((same scan.fragment).parts 0 (omega arith))))
  scan_shaded (stages.Indexing s) stands = (is_seen_after_shade s.scan.fragment (4 + s.index) stands.0, is_spine_after_shade s stands.1)
  scan_shaded (stages.Spreading s target) stands = (
    is_seen_after_shade s.scan.fragment (4 + s.index) stands.0,
    is_spine_after_shade s stands.1,
    leads_now_where_same heap words now s.scan.fragment (same s.scan.fragment) (4 + s.index) target stands.2,
    may_on target stands.3,
  )
  scan_shaded (stages.Blackening scan) stands = whole_on scan.fragment stands
  scan_shaded _ stands = tt

  -- a pass has its grey fragment, where marking comes to the one that is marked
  pass_shaded : (stage : Stage) → ((group : ℕ) → stage ≡ stages.Passing group false → IsReached heap words owner colour m) → PassStands colour stage → PassStands shaded stage
  pass_shaded (stages.Passing group false) comes stands = λ f grey. elim (grey_was f grey) as (λ _. (x : ℕ) × (shaded x ≡ Grey) × (group ≤ x / 16)) [
    | inl was ↦ found (stands f was)
    | inr new ↦ elim (comes group refl) as (λ _. (x : ℕ) × (shaded x ≡ Grey) × (group ≤ x / 16)) [
      | inl marked ↦ absurd (marked (subst (λ x. colour x ≡ White) new.0 new.1))
      | inr path ↦ let first = path_grey _ _ _ m path in found (stands first.0 first.1)
    ]
  ]
    where
      found : ((x : ℕ) × (colour x ≡ Grey) × (group ≤ x / 16)) → (x : ℕ) × (shaded x ≡ Grey) × (group ≤ x / 16)
      found it = (it.0, grey_stays_grey colour m it.0 it.1, it.2)
  pass_shaded _ comes stands = tt

  -- after marking it was marked already
  after_shaded : AfterMarking owner colour → AfterMarking owner shaded
  after_shaded after = record {
    no_grey = λ f grey. elim (grey_was f grey) [
      | inl was ↦ after.no_grey f was
      | inr new ↦ was_marked (subst (λ x. colour x ≡ White) new.0 new.1)
    ];
    white_dead = λ f white. after.white_dead f record { unmarked = still f white.unmarked; born = white.born };
    dead_white = λ f i k dead. mark_keeps_other_colour colour m f (λ same. let both : Kept kept.index kept.position ≡ Dead i k = sym kept.kept ∙ ap owner (sym same) ∙ dead in absurd (cc)) ∙ after.dead_white f i k dead;
  }
    where
      was_marked : IsMarked colour m
      was_marked white = let dead = after.white_dead m record { unmarked = white; born = ap born_bit kept.kept } in
          let both : Kept kept.index kept.position ≡ Dead dead.0 dead.1 = sym kept.kept ∙ dead.2 in absurd (cc)

      still : (f : ℕ) → shaded f ≡ White → colour f ≡ White
      still f white = elim (white_or_marked colour f) as (λ _. colour f ≡ White) [
        | inl was ↦ was
        | inr marked ↦ absurd (mark_keeps_marked colour m f marked white)
      ]

  -- of a sweep nothing changes
  sweep_shaded : (phase : ℕ) (stage : Stage) → OnlyClears ⊥ stage → SweepStands heap owner colour phase stage → SweepStands heap owner shaded phase stage
  sweep_shaded phase (stages.Sweeping group) unclear stands = stands
  sweep_shaded phase (stages.Examining group dead position counted) unclear stands = stands
  sweep_shaded phase (stages.Freeing group dead counted) unclear stands = stands
  sweep_shaded phase (stages.Returning group counted) unclear stands = stands
  sweep_shaded phase (stages.Clearing group kept) unclear stands = absurd unclear
  sweep_shaded phase (stages.Ending kept) unclear stands = absurd unclear
  sweep_shaded phase stages.Advancing unclear stands = stands
  sweep_shaded phase _ unclear stands = tt

  -- all of it stands, where no marks are cleared
  pub marking_stands_after_shade : (phase : ℕ) (stage : Stage) → OnlyClears ⊥ stage → ((group : ℕ) → stage ≡ stages.Passing group false → IsReached heap words owner colour m)
      → MarkingStands heap words owner colour fragments phase stage → MarkingStands heap now owner shaded fragments phase stage
  marking_stands_after_shade phase stage unclear comes stands = record {
    grey = grey_is_kept_fragment stands.grey;
    scan = scan_shaded stage stands.scan;
    few = stands.few;
    pass = pass_shaded stage comes stands.pass;
    sweep_stands = sweep_shaded phase stage unclear stands.sweep_stands;
    alive = stands.alive;
    after = λ settled. after_shaded (stands.after settled);
  }
