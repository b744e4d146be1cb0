-- What a step leaves of marking that marks no fragment of an object.
use Rattle.std.proofs.Common.{◌⊎◌, ◌≡◌, ◌≢◌, ℕ, ◌<◌, ◌≤◌, List, Option, Some, false, inl, inr, sym, ap, ◌∙◌, subst, arith, ◌*◌, ◌+◌}
use Rattle.core_rule.proofs.Terms.{Heap, spot_in, Stage, Colour, White, Grey, Black, fragment_at, IsMarked, WordPointsTo, DeletionBarrier, IsKeptFragment, MayMark, IsSeen, IsSeenWhole}
use Rattle.core_rule.proofs.Terms.{IsSpineOf, ComesAfter, ScanStands, PassStands, AfterMarking, MarkingStands, IsSettled, AreFreed, AreDead, AreCleared, SweepStands, Owner, Kept}
use Rattle.core_rule.proofs.Terms.{Dead, born_bit, dead_bit, IsWhite, Edge, IsReached}
use Rattle.core_machine.specs.declared.collector.stage.SpineScan.{SpineScan}
use Rattle.core_machine.specs.declared.collector.stage.Stage.TheVariants as stages
use Rattle.core_rule.specs.marking.Sources.{TellsNoSpine}
use Rattle.core_rule.proofs.colours.SpineStays.{SpineStays}
use Rattle.core_rule.proofs.marking.Paths.{path_stays_guarded}
use Rattle.core_rule.proofs.owners.OwnerLemmas.{born_bit_within_one, dead_bit_within_one, dead_bit_is_dead, alike_bits_are_equal}

-- the born fragments have their colours, and stay born; what is kept stays so, and nothing more is to be freed; none that wasn't born is grey; until
-- marking has ended the sources of born fragments lead where they led but for what is marked, and spines stay; from then to the end of the sweep what is born now is black;
-- and while marks are cleared what is white stays so
pub record LeavesMarking (heap : Heap) (words now : List ℕ) (owner later : ℕ → Owner) (colour coloured : ℕ → Colour) (fragments bodies : ℕ → List ℕ) (marks settles clears : Type 0) : Type 0 where
  pub born : (f : ℕ) → born_bit (owner f) ≡ 1 → (born_bit (later f) ≡ 1) × (coloured f ≡ colour f)
  pub kept : (f i k : ℕ) → owner f ≡ Kept i k → (later f ≡ Kept i k) × (bodies i ≡ fragments i)
  pub dead : (f i k : ℕ) → owner f ≡ Dead i k → later f ≡ Dead i k
  pub was_dead : (f i k : ℕ) → later f ≡ Dead i k → owner f ≡ Dead i k
  pub fresh : (f : ℕ) → born_bit (owner f) ≡ 0 → coloured f ≢ Grey
  pub dark : settles → (f : ℕ) → born_bit (owner f) ≡ 0 → born_bit (later f) ≡ 1 → coloured f ≡ Black
  pub light : clears → (f : ℕ) → colour f ≡ White → coloured f ≡ White
  pub back : marks → (f source g : ℕ) → born_bit (owner f) ≡ 1 → WordPointsTo heap now f source g → WordPointsTo heap words f source g ⊎ IsMarked coloured g
  pub on : marks → (f source g : ℕ) → born_bit (owner f) ≡ 1 → WordPointsTo heap words f source g → WordPointsTo heap now f source g ⊎ IsMarked colour g
  pub spine : marks → (f : ℕ) → born_bit (owner f) ≡ 1 → SpineStays heap words now f

-- this is so at each stage of marking
abbrev pub OnlyMarks : Type 0 → Stage → Type 0
OnlyMarks marks (stages.Passing group found) = marks
OnlyMarks marks (stages.Scanning scan) = marks
OnlyMarks marks (stages.Shading scan target next) = marks
OnlyMarks marks (stages.Addressing scan count) = marks
OnlyMarks marks (stages.Indexing s) = marks × (s.index < s.words)
OnlyMarks marks (stages.Spreading s target) = marks × (s.index < s.words)
OnlyMarks marks (stages.Blackening scan) = marks
OnlyMarks marks _ = Unit {0}

-- and this while marks are cleared
abbrev pub OnlyClears : Type 0 → Stage → Type 0
OnlyClears clears (stages.Clearing group kept) = clears
OnlyClears clears (stages.Ending kept) = clears
OnlyClears clears _ = Unit {0}

-- a fragment is born or not
pub born_or_not : (o : Owner) → (born_bit o ≡ 0) ⊎ (born_bit o ≡ 1)
born_or_not o = by (born_bit o) (born_bit_within_one o)
  where
    by : (n : ℕ) → n ≤ 1 → (n ≡ 0) ⊎ (n ≡ 1)
    by n few = grind (arith, few)

module _ (heap : Heap) (words now : List ℕ) (owner later : ℕ → Owner) (colour coloured : ℕ → Colour) (fragments bodies : ℕ → List ℕ) (marks settles clears : Type 0)
    (leaves : LeavesMarking heap words now owner later colour coloured fragments bodies marks settles clears)
    (marked_born : (f : ℕ) → IsMarked colour f → born_bit (owner f) ≡ 1) where
  same_colour : (f : ℕ) → born_bit (owner f) ≡ 1 → coloured f ≡ colour f
  same_colour f born = (leaves.born f born).1

  grey_born : (f : ℕ) → colour f ≡ Grey → born_bit (owner f) ≡ 1
  grey_born f grey = marked_born f (λ white. absurd (cc (grey, white)))

  -- what was marked stays so
  pub marks_on : (f : ℕ) → IsMarked colour f → IsMarked coloured f
  marks_on f marked white = marked (sym (same_colour f (marked_born f marked)) ∙ white)

  -- and what is grey was
  grey_was : (f : ℕ) → coloured f ≡ Grey → colour f ≡ Grey
  grey_was f grey = elim (born_or_not (owner f)) as (λ _. colour f ≡ Grey) [
    | inl unborn ↦ absurd (leaves.fresh f unborn grey)
    | inr born ↦ sym (same_colour f born) ∙ grey
  ]

  grey_on : (f : ℕ) → colour f ≡ Grey → coloured f ≡ Grey
  grey_on f grey = same_colour f (grey_born f grey) ∙ grey

  kept_fragment_on : (f : ℕ) → IsKeptFragment owner f → IsKeptFragment later f
  kept_fragment_on f kept_fragment = record { index = kept_fragment.index; position = kept_fragment.position; kept = (leaves.kept f kept_fragment.index kept_fragment.position kept_fragment.kept).0 }

  may_on : (f : ℕ) → MayMark owner colour fragments f → MayMark later coloured bodies f
  may_on f may = record {
    kept_fragment = record { index = may.kept_fragment.index; position = may.kept_fragment.position; kept = (leaves.kept f may.kept_fragment.index may.kept_fragment.position may.kept_fragment.kept).0 };
    first = elim may.first as (λ _. (may.kept_fragment.position ≡ 0) ⊎ IsMarked coloured (fragment_at (bodies may.kept_fragment.index) 0)) [
      | inl head ↦ inl head
      | inr marked ↦ inr (subst (λ fs. IsMarked coloured (fragment_at fs 0)) (sym (leaves.kept f may.kept_fragment.index may.kept_fragment.position may.kept_fragment.kept).1) (marks_on _ marked))
    ];
  }

  module _ (is_marking : marks) where
    seen_on : (f part : ℕ) → IsSeen heap words colour f part → IsSeen heap now coloured f part
    seen_on f part seen = record {
      grey = grey_on f seen.grey;
      seen = λ p g below leads. elim (leaves.back is_marking f p g (grey_born f seen.grey) leads) as (λ _. IsMarked coloured g) [
        | inl before ↦ marks_on g (seen.seen p g below before)
        | inr marked ↦ marked
      ];
    }

    whole_on : (f : ℕ) → IsSeenWhole heap words colour f → IsSeenWhole heap now coloured f
    whole_on f seen = record {
      grey = grey_on f seen.grey;
      seen = λ source g leads. elim (leaves.back is_marking f source g (grey_born f seen.grey) leads) as (λ _. IsMarked coloured g) [
        | inl before ↦ marks_on g (seen.seen source g before)
        | inr marked ↦ marked
      ];
    }

    finds_on : (f part : ℕ) (old : Option ℕ) → colour f ≡ Grey → DeletionBarrier heap words colour f part old → DeletionBarrier heap now coloured f part old
    finds_on f part old grey finds g leads = elim (leaves.back is_marking f part g (grey_born f grey) leads) as (λ _. (old ≡ Some g) ⊎ IsMarked coloured g) [
      | inl before ↦ elim (finds g before) as (λ _. (old ≡ Some g) ⊎ IsMarked coloured g) [
        | inl same ↦ inl same
        | inr marked ↦ inr (marks_on g marked)
      ]
      | inr marked ↦ inr marked
    ]

    after_on : (f part next : ℕ) → ComesAfter owner f part next → ComesAfter later f part next
    after_on f part next comes = elim comes as (λ _. ComesAfter later f part next) [
      | inl on ↦ inl on
      | inr past ↦ inr (past.0, past.1, (past.2.0, (leaves.kept f past.2.0 0 past.2.1).0))
    ]

    none_on : (f : ℕ) → colour f ≡ Grey → TellsNoSpine heap words f → TellsNoSpine heap now f
    none_on f grey none = (leaves.spine is_marking f (grey_born f grey)).as_many ∙ none

    spine_on : (s : SpineScan) → colour s.scan.fragment ≡ Grey → s.index < s.words → IsSpineOf heap words s → IsSpineOf heap now s
    spine_on s grey within is =
        let stays = leaves.spine is_marking s.scan.fragment (grey_born s.scan.fragment grey) in
        record { as_many = is.as_many ∙ sym stays.as_many; there = is.there ∙ ap spot_in (sym (stays.there (omega (arith, within, is.as_many)))) }

    white_on : (f : ℕ) → IsWhite owner colour f → IsWhite later coloured f
    white_on f white = record { unmarked = same_colour f white.born ∙ white.unmarked; born = (leaves.born f white.born).0 }

    edge_on : (f g : ℕ) → IsWhite owner colour f ⊎ (colour f ≡ Grey) → Edge heap words f g → IsWhite owner colour g → Edge heap now f g
    edge_on f g from leads white =
        let born : born_bit (owner f) ≡ 1 = elim from as (λ _. born_bit (owner f) ≡ 1) [ inl w ↦ w.born | inr grey ↦ grey_born f grey ] in
        elim (leaves.on is_marking f leads.source g born leads.points) as (λ _. Edge heap now f g) [
          | inl points ↦ record { source = leads.source; points = points }
          | inr marked ↦ absurd (marked white.unmarked)
        ]

    -- marking comes to all that it came to
    pub reached_stays : (f : ℕ) → IsReached heap words owner colour f → IsReached heap now later coloured f
    reached_stays f reached = elim reached as (λ _. IsReached heap now later coloured f) [
      | inl marked ↦ inl (marks_on f marked)
      | inr path ↦ inr (path_stays_guarded (Edge heap words) (Edge heap now) (IsWhite owner colour) (IsWhite later coloured) (λ x. colour x ≡ Grey) (λ x. coloured x ≡ Grey)
          white_on (λ x g grey leads white. grey_on x grey) edge_on f path)
    ]

  after_stays : settles → AfterMarking owner colour → AfterMarking later coloured
  after_stays known after = record {
    no_grey = λ f grey. after.no_grey f (grey_was f grey);
    white_dead = λ f white. elim (born_or_not (owner f)) as (λ _. (i : ℕ) × (k : ℕ) × (later f ≡ Dead i k)) [
      | inl unborn ↦ absurd (let dark = leaves.dark known f unborn white.born in let light = white.unmarked in cc)
      | inr born ↦ let was = after.white_dead f record { unmarked = sym (same_colour f born) ∙ white.unmarked; born = born } in
          (was.0, was.1, leaves.dead f was.0 was.1 was.2)
    ];
    dead_white = λ f i k is. let was = leaves.was_dead f i k is in same_colour f (ap born_bit was) ∙ after.dead_white f i k was;
  }

  scan_stays : (stage : Stage) → OnlyMarks marks stage → ScanStands heap words owner colour fragments stage → ScanStands heap now later coloured bodies stage
  scan_stays (stages.Scanning scan) is stands =
      (seen_on is scan.fragment scan.part stands.0, λ later. none_on is scan.fragment stands.0.grey (stands.1 later))
  scan_stays (stages.Shading scan target next) is stands = (
    seen_on is scan.fragment scan.part stands.0,
    finds_on is scan.fragment scan.part (Some target) stands.0.grey stands.1,
    may_on target stands.2,
    after_on is scan.fragment scan.part next stands.3,
    none_on is scan.fragment stands.0.grey stands.4,
  )
  scan_stays (stages.Addressing scan count) is stands =
      (seen_on is scan.fragment 4 stands.0, stands.1 ∙ sym (leaves.spine is scan.fragment (grey_born scan.fragment stands.0.grey)).as_many)
  scan_stays (stages.Indexing s) is stands = (seen_on is.0 s.scan.fragment (4 + s.index) stands.0, spine_on is.0 s stands.0.grey is.1 stands.1)
  scan_stays (stages.Spreading s target) is stands = (
    seen_on is.0 s.scan.fragment (4 + s.index) stands.0,
    spine_on is.0 s stands.0.grey is.1 stands.1,
    (leaves.spine is.0 s.scan.fragment (grey_born s.scan.fragment stands.0.grey)).leads s.index target stands.2,
    may_on target stands.3,
  )
  scan_stays (stages.Blackening scan) is stands = whole_on is scan.fragment stands
  scan_stays _ is stands = tt

  pass_stays : (stage : Stage) → PassStands colour stage → PassStands coloured stage
  pass_stays (stages.Passing group false) stands = λ f grey. let found = stands f (grey_was f grey) in (found.0, grey_on found.0 found.1, found.2)
  pass_stays _ stands = tt

  freed_stays : (group : ℕ) → AreFreed owner group → AreFreed later group
  freed_stays group freed f i k below is = freed f i k below (leaves.was_dead f i k is)

  dead_same : (f : ℕ) → dead_bit (later f) ≡ dead_bit (owner f)
  dead_same f = alike_bits_are_equal (dead_bit (owner f)) (dead_bit (later f)) (dead_bit_within_one (owner f)) (dead_bit_within_one (later f))
      (λ one. let was = dead_bit_is_dead (owner f) one in ap dead_bit (leaves.dead f was.0 was.1 was.2))
      (λ one. let now_dead = dead_bit_is_dead (later f) one in ap dead_bit (leaves.was_dead f now_dead.0 now_dead.1 now_dead.2))

  dead_stays : (group bits : ℕ) → AreDead owner group bits → AreDead later group bits
  dead_stays group bits are position below = are position below ∙ sym (dead_same (16 * group + position))

  cleared_stays : clears → (group : ℕ) → AreCleared colour group → AreCleared coloured group
  cleared_stays known group cleared f below = leaves.light known f (cleared f below)

  sweep_stays : (phase : ℕ) (stage : Stage) → OnlyClears clears stage → SweepStands heap owner colour phase stage → SweepStands heap later coloured phase stage
  sweep_stays phase (stages.Sweeping group) is stands = freed_stays group stands
  sweep_stays phase (stages.Examining group dead position counted) is stands = (freed_stays group stands.0, dead_stays group dead stands.1)
  sweep_stays phase (stages.Freeing group dead counted) is stands = (freed_stays group stands.0, dead_stays group dead stands.1)
  sweep_stays phase (stages.Returning group counted) is stands = freed_stays (group + 1) stands
  sweep_stays phase (stages.Clearing group kept) is stands = cleared_stays is group stands
  sweep_stays phase (stages.Ending kept) is stands = cleared_stays is heap.groups stands
  sweep_stays phase stages.Advancing is stands = λ swept. freed_stays heap.groups (stands swept)
  sweep_stays phase _ is stands = tt

  -- all of it stands as before
  pub marking_stands_as_before : (phase : ℕ) (stage : Stage) → OnlyMarks marks stage → OnlyClears clears stage → (IsSettled phase stage → settles)
      → MarkingStands heap words owner colour fragments phase stage → MarkingStands heap now later coloured bodies phase stage
  marking_stands_as_before phase stage is clear known stands = record {
    grey = λ f grey. kept_fragment_on f (stands.grey f (grey_was f grey));
    scan = scan_stays stage is stands.scan;
    few = stands.few;
    pass = pass_stays stage stands.pass;
    sweep_stands = sweep_stays phase stage clear stands.sweep_stands;
    alive = λ goes_on f i k is_dead. stands.alive goes_on f i k (leaves.was_dead f i k is_dead);
    after = λ settled. after_stays (known settled) (stands.after settled);
  }
