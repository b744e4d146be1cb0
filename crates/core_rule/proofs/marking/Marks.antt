-- What a seat's step has to leave of marking.
use Rattle.std.proofs.Common.{◌≡◌, ◌≢◌, ℕ, ◌<◌, ◌%◌, false, List, inl, inr, refl, sym, ◌∙◌, subst, arith}
use Rattle.core_rule.proofs.Terms.{ShadingSide, Replacing, cycle_phases, Heap, phase, Collector, Stage, LoadingMeta, Walking, Indexing, Getting, LoadingOld, ShadingOld, ShadingNew, Swapping, Point, State}
use Rattle.core_rule.proofs.Terms.{seat_at, register_in, register_head, Seat, head_of, Book, Colour, Grey, WordPointsTo, IsBetween, WhileAccess, IsKeptFragment, ScanStands, IsFewWords}
use Rattle.core_rule.proofs.Terms.{PassStands, MarkingStands, SweepStands, HasMarked, IsSettled, Owner, Free, Taken, Borne, Kept, Dead, born_bit, IsReached, Rule}
use Rattle.heap_model.specs.PhasePlan.{clearing as clearing_phase, marking as marking_phase}
use Rattle.core_machine.specs.declared.collector.stage.Stage.TheVariants as stages
use Rattle.core_machine.specs.collector.FitsTurns.{FitsStage}
use Rattle.core_machine.specs.declared.point.Access.{Access}
use Rattle.core_machine.specs.declared.point.Access.TheVariants.{LoadingSpot, Naming}
use Rattle.core_machine.specs.declared.point.Point.TheVariants as call_points
use Rattle.core_rule.specs.roots.Roots.{IsInMarking, AtCall, OfRoots, RootsAreReached}
use Rattle.core_rule.proofs.colours.LeadsFrames.{SameSources, led_before_where_same, leads_now_where_same}
use Rattle.core_rule.proofs.colours.SpineStays.{spine_stays_where_same}
use Rattle.core_rule.proofs.cycle.CycleFrames.{while_access_goes_on}
use Rattle.core_rule.proofs.lists.Options.{if_some_goes_on}
use Rattle.core_rule.proofs.marking.Paths.{reached_follows_lead}
use Rattle.core_rule.proofs.marking.MarkingStages.{OfMarking, marking_has_not_ended}
use Rattle.core_rule.proofs.marking.MarkingFrames.{LeavesMarking, OnlyMarks, OnlyClears, marking_stands_as_before, reached_stays}

-- what is true of each root goes on to be
pub roots_hold_still : (P Q : ℕ → Type 0) → ((f : ℕ) → P f → Q f) → (seat : Seat) → OfRoots P seat → OfRoots Q seat
roots_hold_still P Q more seat roots = record {
  registers = λ r. if_some_goes_on P Q more (register_head (register_in seat.registers r)) (roots.registers r);
  call = while_access_goes_on (AtCall P seat) (AtCall Q seat) each seat.point roots.call;
}
  where
    each : (point : Access) → AtCall P seat point → AtCall Q seat point
    each LoadingMeta holds = more seat.reached holds
    each Walking holds = more seat.reached holds
    each LoadingSpot holds = more seat.reached holds
    each Indexing holds = more seat.reached holds
    each Getting holds = more seat.reached holds
    each Naming holds = if_some_goes_on P Q more (head_of seat.loaded) holds
    each LoadingOld holds = more seat.reached holds
    each ShadingOld holds = (more seat.reached holds.0, if_some_goes_on P Q more (head_of seat.loaded) holds.1)
    each ShadingNew holds = more seat.reached holds
    each Swapping holds = more seat.reached holds
    each (ShadingSide side) holds = more seat.reached holds
    each Replacing holds = more seat.reached holds

-- the call isn't on a way to a field
abbrev pub IsOffWay : Point → Type 0
IsOffWay (call_points.Access point) = ⊥
IsOffWay _ = Unit {0}

-- then its registers' objects are all its roots
pub roots_hold_off_way : (P : ℕ → Type 0) (seat next : Seat) → next.registers ≡ seat.registers → IsOffWay next.point → OfRoots P seat → OfRoots P next
roots_hold_off_way P seat next same off roots = record {
  registers = λ r. rw same (roots.registers r);
  call = nowhere next.point off;
}
  where
    nowhere : (point : Point) → IsOffWay point → WhileAccess (AtCall P next) point
    nowhere (call_points.Access point) off = absurd off
    nowhere _ off = tt

-- a seat's step leaves what is true of marking, and each root that it comes to; and it comes to the seat's own roots
pub record MarksGoOn (heap : Heap) (state : State) (book now : Book) (words : List ℕ) (next : Seat) : Type 0 where
  pub heap_on : MarkingStands heap words now.owner now.colour now.fragments state.collector.phase state.collector.stage
  pub reached_on : IsInMarking state.collector → (f : ℕ) → IsReached heap state.words book.owner book.colour f → IsReached heap words now.owner now.colour f
  pub own_on : RootsAreReached heap words now.owner now.colour state.collector next

-- all have answered the cycle's last phase
pub record IsLastAnswered (heap : Heap) (collector : Collector) : Type 0 where
  pub all : collector.looked ≡ heap.seats
  pub last : collector.phase % cycle_phases ≡ clearing_phase

-- from the end of marking to the end of the sweep the phase is one of three
pub settled_phase_is_between : (phase : ℕ) (stage : Stage) → IsSettled phase stage → IsBetween 3 5 phase
settled_phase_is_between phase stage (inl third) = record { from = omega (arith, third.0); upto = omega (arith, third.0) }
settled_phase_is_between phase stage (inr (inl copies)) = record { from = omega (arith, copies); upto = omega (arith, copies) }
settled_phase_is_between phase stage (inr (inr sweeps)) = record { from = omega (arith, sweeps); upto = omega (arith, sweeps) }

-- so it is at another stage of the same phase, but for the phase of marking
pub settled_at_other_stage : (phase : ℕ) (from to : Stage) → (phase % cycle_phases ≡ marking_phase → ¬ HasMarked from) → IsSettled phase from → IsSettled phase to
settled_at_other_stage phase from to goes (inl ended) = absurd (goes ended.0 ended.1)
settled_at_other_stage phase from to goes (inr later) = inr later

-- while it marks, marking hasn't ended
pub marking_is_not_settled : (phase : ℕ) (stage : Stage) → phase % cycle_phases ≡ marking_phase → ¬ HasMarked stage → ¬ IsSettled phase stage
marking_is_not_settled phase stage third goes (inl ended) = goes ended.1
marking_is_not_settled phase stage third goes (inr (inl copies)) = omega (arith, third, copies)
marking_is_not_settled phase stage third goes (inr (inr sweeps)) = omega (arith, third, sweeps)

-- what stands at a stage of marking: nothing is to be freed yet
pub marking_stands_at_stage : (heap : Heap) (words : List ℕ) (owner : ℕ → Owner) (colour : ℕ → Colour) (fragments : ℕ → List ℕ) (phase : ℕ) (stage : Stage) → phase % cycle_phases ≡ marking_phase → OfMarking stage
    → ((f : ℕ) → colour f ≡ Grey → IsKeptFragment owner f) → ScanStands heap words owner colour fragments stage → IsFewWords stage → PassStands colour stage → SweepStands heap owner colour phase stage
    → ((f i k : ℕ) → owner f ≢ Dead i k) → MarkingStands heap words owner colour fragments phase stage
marking_stands_at_stage heap words owner colour fragments phase stage third goes grey scan few pass sweep alive = record {
  grey = grey;
  scan = scan;
  few = few;
  pass = pass;
  sweep_stands = sweep;
  alive = λ going. alive;
  after = λ settled. absurd (marking_is_not_settled phase stage third (marking_has_not_ended stage goes) settled);
}

module _ (heap : Heap) (state : State) (book : Book) (rule : Rule heap state book) where
  -- in the phase of marking, until that has ended, nothing is to be freed
  pub nothing_is_dead : state.collector.phase % cycle_phases ≡ marking_phase → ¬ HasMarked state.collector.stage → (f i k : ℕ) → book.owner f ≢ Dead i k
  nothing_is_dead third goes = rule.marks_stand.heap_marks.alive (marking_is_not_settled state.collector.phase state.collector.stage third goes)

  -- what is true at a stage of marking is true in its phase alone, until marking has ended
  only_marks : (stage : Stage) → state.collector.stage ≡ stage → FitsStage heap state.collector.phase state.collector.looked stage → OnlyMarks (IsInMarking state.collector) stage
  only_marks (stages.Passing group found) is fits = record { phase = fits.marks.for_marking; goes_on = subst HasMarked is }
  only_marks (stages.Scanning scan) is fits = record { phase = fits.marks.for_marking; goes_on = subst HasMarked is }
  only_marks (stages.Shading scan target next) is fits = record { phase = fits.marks.for_marking; goes_on = subst HasMarked is }
  only_marks (stages.Addressing scan count) is fits = record { phase = fits.marks.for_marking; goes_on = subst HasMarked is }
  only_marks (stages.Indexing s) is fits = (record { phase = fits.on.marks.for_marking; goes_on = subst HasMarked is }, fits.on.index_within)
  only_marks (stages.Spreading s target) is fits = (record { phase = fits.on.marks.for_marking; goes_on = subst HasMarked is }, fits.on.index_within)
  only_marks (stages.Blackening scan) is fits = record { phase = fits.marks.for_marking; goes_on = subst HasMarked is }
  only_marks _ is fits = tt

  -- and what is true while marks are cleared in the last phase, which all have answered
  only_clears : (stage : Stage) → FitsStage heap state.collector.phase state.collector.looked stage → OnlyClears (IsLastAnswered heap state.collector) stage
  only_clears (stages.Clearing group kept) fits = record { all = fits.all; last = fits.for_clearing }
  only_clears (stages.Ending kept) fits = record { all = fits.all; last = fits.for_clearing }
  only_clears _ fits = tt

  -- where not all have answered the last phase no marks are cleared
  pub only_clears_never : ¬ IsLastAnswered heap state.collector → OnlyClears ⊥ state.collector.stage
  only_clears_never never = by state.collector.stage (only_clears state.collector.stage rule.machine.collector_fit.at_stage)
    where
      by : (stage : Stage) → OnlyClears (IsLastAnswered heap state.collector) stage → OnlyClears ⊥ stage
      by (stages.Clearing group kept) last = absurd (never last)
      by (stages.Ending kept) last = absurd (never last)
      by _ last = tt

  -- marking comes to what a fragment leads to that it comes to
  pub reached_leads_to_reached : IsInMarking state.collector → (f source g : ℕ) → born_bit (book.owner g) ≡ 1 → IsReached heap state.words book.owner book.colour f
      → WordPointsTo heap state.words f source g → IsReached heap state.words book.owner book.colour g
  reached_leads_to_reached marks f source g born reached leads =
      reached_follows_lead heap state.words book.owner book.colour
      (λ x p y dark points. rule.heap_stands.cycle.coloured.black (between marks) x p y dark points) f source g born reached leads
    where
      between : IsInMarking state.collector → IsBetween 2 5 (phase book.history)
      between marks = let same = rule.collector_stands.phase_told in let third = marks.phase in record { from = omega (arith, same, third); upto = omega (arith, same, third) }

  -- once the collector has looked at all seats each that hasn't left has answered the phase
  pub each_seat_answered_phase : state.collector.looked ≡ heap.seats → (number : ℕ) → number < heap.seats → (seat_at state number).left ≡ false
      → (seat_at state number).answered ≡ state.collector.phase
  each_seat_answered_phase all number here present =
      let told = (rule.seats_stand number here).cycle.answers_told in
      sym told.told ∙ rule.collector_stands.looked number (omega (arith, all, here)) here (told.leaves ∙ present) ∙ sym rule.collector_stands.phase_told

  -- what a step leaves of marking that marks no object's fragment
  abbrev pub Leaves : List ℕ → Book → Type 0
  Leaves words now = LeavesMarking heap state.words words book.owner now.owner book.colour now.colour book.fragments now.fragments (IsInMarking state.collector)
      (IsBetween 3 5 state.collector.phase) (IsLastAnswered heap state.collector)

  -- all that is born is as it was, and until marking has ended the sources of what is born are the same
  leaves_born : (words : List ℕ) → (IsInMarking state.collector → (f : ℕ) → born_bit (book.owner f) ≡ 1 → SameSources heap state.words words f) → Leaves words book
  leaves_born words same = record {
    born = λ f born. (born, refl);
    kept = λ f i k kept. (kept, refl);
    dead = λ f i k dead. dead;
    was_dead = λ f i k dead. dead;
    fresh = λ f unborn grey. unborn_grey f unborn grey;
    dark = λ known f unborn born. absurd (omega (arith, unborn, born));
    light = λ clears f white. white;
    back = λ marks f source g born leads. inl (led_before_where_same heap state.words words f (same marks f born) source g leads);
    on = λ marks f source g born leads. inl (leads_now_where_same heap state.words words f (same marks f born) source g leads);
    spine = λ marks f born. spine_stays_where_same heap state.words words f (same marks f born);
  }
    where
      unborn_grey : (f : ℕ) → born_bit (book.owner f) ≡ 0 → book.colour f ≢ Grey
      unborn_grey f unborn grey = let born = rule.heap_stands.cycle.coloured.born f (λ white. absurd (cc (grey, white))) in omega (arith, unborn, born)

  -- so it is where no source changes
  pub leaves_by_same_sources : (words : List ℕ) → ((f : ℕ) → SameSources heap state.words words f) → Leaves words book
  leaves_by_same_sources words same = leaves_born words (λ marks f born. same f)

  -- and where none of what is kept or borne does: until marking has ended nothing is to be freed
  pub leaves_by_alive_sources : (words : List ℕ) → ((f i k : ℕ) → book.owner f ≡ Kept i k → SameSources heap state.words words f) → ((f r : ℕ) → book.owner f ≡ Borne r → SameSources heap state.words words f)
      → Leaves words book
  leaves_by_alive_sources words kept borne = leaves_born words (λ marks f born. by marks f (book.owner f) refl born)
    where
      by : IsInMarking state.collector → (f : ℕ) (o : Owner) → book.owner f ≡ o → born_bit o ≡ 1 → SameSources heap state.words words f
      by marks f Free is born = absurd (omega (arith, born))
      by marks f (Taken number) is born = absurd (omega (arith, born))
      by marks f (Borne number) is born = borne f number is
      by marks f (Kept i k) is born = kept f i k is
      by marks f (Dead i k) is born = absurd (nothing_is_dead marks.phase marks.goes_on f i k is)

  module _ (words : List ℕ) (now : Book) (leaves : Leaves words now) where
    -- so the heap's marking stands
    pub marking_stands_after_step : MarkingStands heap words now.owner now.colour now.fragments state.collector.phase state.collector.stage
    marking_stands_after_step =
        marking_stands_as_before heap state.words words book.owner now.owner book.colour now.colour book.fragments now.fragments (IsInMarking state.collector)
        (IsBetween 3 5 state.collector.phase) (IsLastAnswered heap state.collector) leaves rule.heap_stands.cycle.coloured.born state.collector.phase state.collector.stage
        (only_marks state.collector.stage refl rule.machine.collector_fit.at_stage) (only_clears state.collector.stage rule.machine.collector_fit.at_stage)
        (settled_phase_is_between state.collector.phase state.collector.stage) rule.marks_stand.heap_marks

    -- and marking comes to what it came to
    pub reached_after_step : IsInMarking state.collector → (f : ℕ) → IsReached heap state.words book.owner book.colour f → IsReached heap words now.owner now.colour f
    reached_after_step marks =
        reached_stays heap state.words words book.owner now.owner book.colour now.colour book.fragments now.fragments (IsInMarking state.collector)
        (IsBetween 3 5 state.collector.phase) (IsLastAnswered heap state.collector) leaves rule.heap_stands.cycle.coloured.born marks

  module _ (number : ℕ) (here : number < heap.seats) where
    -- the roots of a seat that goes on are among those that marking came to
    abbrev pub RootsGoOn : Seat → Type 0
    RootsGoOn next = IsInMarking state.collector → OfRoots (IsReached heap state.words book.owner book.colour) (seat_at state number)
        → OfRoots (IsReached heap state.words book.owner book.colour) next

    -- so its step leaves marking
    pub marks_go_on : (words : List ℕ) (now : Book) (next : Seat) → Leaves words now → next.answered ≡ (seat_at state number).answered → RootsGoOn next → MarksGoOn heap state book now words next
    marks_go_on words now next leaves same roots = record {
      heap_on = marking_stands_after_step words now leaves;
      reached_on = reached_after_step words now leaves;
      own_on = λ marks answered. roots_hold_still (IsReached heap state.words book.owner book.colour) (IsReached heap words now.owner now.colour) (reached_after_step words now leaves marks) next
          (roots marks (rule.marks_stand.roots number here marks (sym same ∙ answered)));
    }

    -- and where its registers stay, and its call is on no way
    pub marks_go_on_off_way : (words : List ℕ) (now : Book) (next : Seat) → Leaves words now → next.answered ≡ (seat_at state number).answered
        → next.registers ≡ (seat_at state number).registers → IsOffWay next.point → MarksGoOn heap state book now words next
    marks_go_on_off_way words now next leaves same registers off =
        marks_go_on words now next leaves same (λ marks. roots_hold_off_way (IsReached heap state.words book.owner book.colour) (seat_at state number) next registers off)
