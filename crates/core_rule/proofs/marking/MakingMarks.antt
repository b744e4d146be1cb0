-- What the making of an object leaves of marking: fragments that no object has come and go, and are born black while it goes on.
use Rattle.std.proofs.Common.{◌⊎◌, ◌≡◌, ◌≢◌, ℕ, ◌*◌, ◌+◌, ◌%◌, ◌<◌, ◌≤◌, Bool, true, false, List, inl, inr, refl, ap, ◌∙◌, subst, arith}
use Rattle.core_rule.proofs.Terms.{cycle_phases, Heap, phase, Control, Word, State, seat_at, Seat, tally, put, Book, Grey, Black, White, IsBetween, Owner, Kept, Dead, born_bit}
use Rattle.core_rule.proofs.Terms.{owner_after, IsNear, Rule}
use Rattle.heap_model.specs.PhasePlan.{clearing as clearing_phase}
use Rattle.core_machine.specs.Moves.{bears_black_of}
use Rattle.core_rule.specs.roots.Roots.{IsInMarking}
use Rattle.core_rule.proofs.colours.BirthColours.{painted, painted_member_has_colour, painted_cases}
use Rattle.core_rule.proofs.colours.Births.{birth_colour}
use Rattle.core_rule.proofs.colours.LeadsFrames.{SameSources, same_sources_beside, led_before_where_same, leads_now_where_same, led_before_control_write, leads_after_control_write, same_sources_ahead}
use Rattle.core_rule.proofs.colours.SpineStays.{SpineStays, spine_stays_where_same}
use Rattle.core_rule.proofs.cycle.Barriers.{between_bears_black, black_births_are_between}
use Rattle.core_rule.proofs.marking.MarkingFrames.{LeavesMarking}
use Rattle.core_rule.proofs.marking.Marks.{IsLastAnswered, each_seat_answered_phase}
use Rattle.core_rule.proofs.owners.Handed.{handed_cases, unhanded_keeps_owner, none_or_some, dead_was_dead_before_handing}
use Rattle.core_rule.proofs.owners.OwnerLemmas.{born_bit_within_one}
use Rattle.core_rule.proofs.owners.Keeping.{kept_by, with_object, old_object_keeps_fragments, kept_by_cases, kept_by_others_stays, dead_was_dead_before_keeping}

-- what is kept, or is to be freed, is born
kept_born : (o : Owner) (i k : ℕ) → o ≡ Kept i k → born_bit o ≡ 1
kept_born o i k is = ap born_bit is

dead_born : (o : Owner) (i k : ℕ) → o ≡ Dead i k → born_bit o ≡ 1
dead_born o i k is = ap born_bit is

-- a birth makes nothing grey
never_grey : (black : Bool) → birth_colour black ≢ Grey
never_grey true is = cc
never_grey false is = cc

-- from marking to the sweep births are black
pub black_now : (phase : ℕ) (seat : Seat) → IsBetween 3 5 phase → IsNear phase seat.answered → bears_black_of seat ≡ true
black_now phase seat between near = between_bears_black seat (elim near [
  | inl same ↦ record { from = omega (arith, between.from, same); upto = omega (arith, between.upto, same) }
  | inr before ↦ record { from = omega (arith, between.from, between.upto, before); upto = omega (arith, between.from, between.upto, before) }
])

-- once a seat has answered the last phase they are white
pub white_then : (seat : Seat) → seat.answered % cycle_phases ≡ clearing_phase → bears_black_of seat ≡ false
white_then seat last = by (bears_black_of seat) refl
  where
    by : (black : Bool) → bears_black_of seat ≡ black → black ≡ false
    by false is = refl
    by true is = let between = black_births_are_between seat is in absurd (omega (arith, between.upto, last))

module _ (heap : Heap) (state : State) (book : Book) (rule : Rule heap state book) where
  abbrev marks : Type 0
  marks = IsInMarking state.collector

  abbrev settles : Type 0
  settles = IsBetween 3 5 state.collector.phase

  abbrev clears : Type 0
  clears = IsLastAnswered heap state.collector

  -- spines stay at a step on a control word
  spine_after_control : (g n : ℕ) → g < heap.groups → (f : ℕ) → SpineStays heap state.words (put heap state.words (Control g) n) f
  spine_after_control g n below f = spine_stays_where_same heap state.words (put heap state.words (Control g) n) f (same_sources_ahead heap state.words (Control g) n (omega (arith, below)) f)

  -- nothing that isn't born is grey
  unborn_grey : (f : ℕ) → born_bit (book.owner f) ≡ 0 → book.colour f ≢ Grey
  unborn_grey f unborn grey = let born = rule.heap_stands.cycle.coloured.born f (λ white. absurd (cc (grey, white))) in omega (arith, unborn, born)

  -- so what a seat bears then is black
  pub bears_black_while_marking : (number : ℕ) (here : number < heap.seats) → (seat_at state number).left ≡ false → settles → bears_black_of (seat_at state number) ≡ true
  bears_black_while_marking number here present known =
      black_now (phase book.history) (seat_at state number) (subst (IsBetween 3 5) rule.collector_stands.phase_told known) ((rule.seats_stand number here).cycle.answers_told.near present)

  -- and white once all have answered the last phase
  pub bears_white_when_answered : (number : ℕ) (here : number < heap.seats) → (seat_at state number).left ≡ false → clears → bears_black_of (seat_at state number) ≡ false
  bears_white_when_answered number here present clear = white_then (seat_at state number) (ap (λ p. p % cycle_phases) (each_seat_answered_phase heap state book rule clear.all number here present) ∙ clear.last)

  module _ (g n : ℕ) (below : g < heap.groups) (o : Owner) (fs : List ℕ) (unborn : (f : ℕ) → 1 ≤ tally f fs → born_bit (book.owner f) ≡ 0) (undead : (i k : ℕ) → o ≢ Dead i k) where
    abbrev later : ℕ → Owner
    later = owner_after o book.owner fs

    stays : (P : Owner → Type 0) (f : ℕ) → born_bit (book.owner f) ≡ 1 → P (book.owner f) → P (later f)
    stays P f born holds = handed_cases P o book.owner fs f (λ there. absurd (omega (arith, born, unborn f there))) (λ away. holds)

    was_dead : (f i k : ℕ) → later f ≡ Dead i k → book.owner f ≡ Dead i k
    was_dead = dead_was_dead_before_handing o book.owner fs undead

    -- they go to nobody or to a seat that hasn't borne them
    pub leaves_marking_when_handed : born_bit o ≡ 0 → LeavesMarking heap state.words (put heap state.words (Control g) n) book.owner later book.colour book.colour book.fragments book.fragments marks settles clears
    leaves_marking_when_handed none = record {
      born = λ f born. (stays (λ x. born_bit x ≡ 1) f born born, refl);
      kept = λ f i k is. (stays (λ x. x ≡ Kept i k) f (kept_born (book.owner f) i k is) is, refl);
      dead = λ f i k is. stays (λ x. x ≡ Dead i k) f (dead_born (book.owner f) i k is) is;
      was_dead = was_dead;
      fresh = unborn_grey;
      dark = λ known f fresh. handed_cases (λ x. born_bit x ≡ 1 → book.colour f ≡ Black) o book.owner fs f (λ there born. absurd (omega (arith, born, none))) (λ away born. absurd (omega (arith, born, fresh)));
      light = λ clear f white. white;
      back = λ marks f source x born leads. inl (led_before_control_write heap state.words g n below f source x leads);
      on = λ marks f source x born leads. inl (leads_after_control_write heap state.words g n below f source x leads);
      spine = λ marks f born. spine_after_control g n below f;
    }

    -- they are born, and not yet an object's
    pub leaves_marking_when_borne : (black : Bool) → (settles → black ≡ true) → (clears → black ≡ false)
        → LeavesMarking heap state.words (put heap state.words (Control g) n) book.owner later book.colour (painted (birth_colour black) book.colour fs) book.fragments book.fragments marks settles clears
    leaves_marking_when_borne black dark pale = record {
      born = λ f born. (stays (λ x. born_bit x ≡ 1) f born born, painted_cases (λ c. c ≡ book.colour f) (birth_colour black) book.colour fs f (λ there. absurd (omega (arith, born, unborn f there))) (λ away. refl));
      kept = λ f i k is. (stays (λ x. x ≡ Kept i k) f (kept_born (book.owner f) i k is) is, refl);
      dead = λ f i k is. stays (λ x. x ≡ Dead i k) f (dead_born (book.owner f) i k is) is;
      was_dead = was_dead;
      fresh = λ f fresh. painted_cases (λ c. c ≢ Grey) (birth_colour black) book.colour fs f (λ there. never_grey black) (λ away. unborn_grey f fresh);
      dark = λ known f fresh born. elim (in_or_out f) as (λ _. painted (birth_colour black) book.colour fs f ≡ Black) [
        | inl there ↦ painted_member_has_colour (birth_colour black) book.colour fs f there ∙ ap birth_colour (dark known)
        | inr away ↦ absurd (omega (arith, fresh, subst (λ x. born_bit x ≡ 1) (kept_out f away) born))
      ];
      light = λ clear f white. painted_cases (λ c. c ≡ White) (birth_colour black) book.colour fs f (λ there. ap birth_colour (pale clear)) (λ away. white);
      back = λ marks f source x born leads. inl (led_before_control_write heap state.words g n below f source x leads);
      on = λ marks f source x born leads. inl (leads_after_control_write heap state.words g n below f source x leads);
      spine = λ marks f born. spine_after_control g n below f;
    }
      where
        in_or_out : (f : ℕ) → (1 ≤ tally f fs) ⊎ (tally f fs ≡ 0)
        in_or_out f = elim (none_or_some (tally f fs)) as (λ _. (1 ≤ tally f fs) ⊎ (tally f fs ≡ 0)) [ inl none ↦ inr none | inr some ↦ inl some ]

        kept_out : (f : ℕ) → tally f fs ≡ 0 → later f ≡ book.owner f
        kept_out f away = unhanded_keeps_owner o book.owner fs f away

  -- a word of a fragment that isn't born is written
  pub leaves_marking_when_stored : (f part word : ℕ) → f < 16 * heap.groups → part < 4 → born_bit (book.owner f) ≡ 0
      → LeavesMarking heap state.words (put heap state.words (Word f part) word) book.owner book.owner book.colour book.colour book.fragments book.fragments marks settles clears
  leaves_marking_when_stored f part word within fits unborn = record {
    born = λ x born. (born, refl);
    kept = λ x i k is. (is, refl);
    dead = λ x i k is. is;
    was_dead = λ x i k is. is;
    fresh = unborn_grey;
    dark = λ known x fresh born. absurd (omega (arith, fresh, born));
    light = λ clear x white. white;
    back = λ marks x p g born leads. inl (led_before_where_same heap state.words (put heap state.words (Word f part) word) x (beside x born) p g leads);
    on = λ marks x p g born leads. inl (leads_now_where_same heap state.words (put heap state.words (Word f part) word) x (beside x born) p g leads);
    spine = λ marks x born. spine_stays_where_same heap state.words (put heap state.words (Word f part) word) x (beside x born);
  }
    where
      beside : (x : ℕ) → born_bit (book.owner x) ≡ 1 → SameSources heap state.words (put heap state.words (Word f part) word) x
      beside x born = same_sources_beside heap state.words f part word within fits x
          (λ same. let bit : born_bit (book.owner x) ≡ born_bit (book.owner f) = ap (λ y. born_bit (book.owner y)) same in omega (arith, bit, born, unborn))

  -- a seat's object is born, and keeps its fragments
  pub leaves_marking_when_kept : (g n : ℕ) → g < heap.groups → (number : ℕ) (body fs : List ℕ) (black : Bool) → (settles → black ≡ true) → (clears → black ≡ false)
      → ((f : ℕ) → born_bit (kept_by number body book.owner f) ≡ born_bit (book.owner f) + tally f fs) → ((f : ℕ) → 1 ≤ tally f fs → born_bit (book.owner f) ≡ 0)
      → ((f i k : ℕ) → 1 ≤ tally f body → book.owner f ≢ Kept i k) → ((f i k : ℕ) → 1 ≤ tally f body → book.owner f ≢ Dead i k) → ((f i k : ℕ) → book.owner f ≡ Kept i k → i ≢ number)
      → LeavesMarking heap state.words (put heap state.words (Control g) n) book.owner (kept_by number body book.owner) book.colour (painted (birth_colour black) book.colour fs)
      book.fragments (with_object book.fragments number body) marks settles clears
  leaves_marking_when_kept g n below number body fs black dark pale bears unborn unkept undead apart = record {
    born = λ f born. (
      omega (arith, bears f, born, born_bit_within_one (kept_by number body book.owner f)),
      painted_cases (λ c. c ≡ book.colour f) (birth_colour black) book.colour fs f (λ there. absurd (omega (arith, born, unborn f there))) (λ away. refl),
    );
    kept = λ f i k is. (kept_by_others_stays number body book.owner unkept f i k is, old_object_keeps_fragments book.fragments number body i (apart f i k is));
    dead = λ f i k is. kept_by_cases number body book.owner (λ x. x ≡ Dead i k) f (λ there. absurd (undead f i k there is)) (λ away. is);
    was_dead = dead_was_dead_before_keeping number body book.owner;
    fresh = λ f fresh. painted_cases (λ c. c ≢ Grey) (birth_colour black) book.colour fs f (λ there. never_grey black) (λ away. unborn_grey f fresh);
    dark = λ known f fresh born. painted_member_has_colour (birth_colour black) book.colour fs f (omega (arith, bears f, fresh, born)) ∙ ap birth_colour (dark known);
    light = λ clear f white. painted_cases (λ c. c ≡ White) (birth_colour black) book.colour fs f (λ there. ap birth_colour (pale clear)) (λ away. white);
    back = λ marks f source x born leads. inl (led_before_control_write heap state.words g n below f source x leads);
    on = λ marks f source x born leads. inl (leads_after_control_write heap state.words g n below f source x leads);
    spine = λ marks f born. spine_after_control g n below f;
  }
