-- A spine word that is stored is no kept array's, and none of an array that another seat bears: the sources of what is kept or borne are the same.
use Rattle.std.specs.Prelude.{IfSome}
use Rattle.std.proofs.lemmas.Bool.{cases_eq}
use Rattle.std.proofs.Common.{◌≡◌, ◌≢◌, ◌⊎◌, ℕ, zero, suc, ◌+◌, ◌*◌, ◌%◌, ◌^◌, ◌<◌, ◌≤◌, false, eqb, inl, inr, List, length, get_or, refl, sym, ap, ◌∙◌, subst, arith}
use Rattle.core_rule.proofs.Terms.{cycle_phases, spot_in, spot_word, Command, Heap, need_of, spine_need_of, graph_of, phase, Stage, Listing, Word, State, seat_at, MakesObject}
use Rattle.core_rule.proofs.Terms.{IsArrayCall, HasArrayBody, Fits, newborn_word, newborn_word_of, next_name, Seat, spine_need, spine_words_in, at, put, spine_place, Book, White}
use Rattle.core_rule.proofs.Terms.{Black, WordPointsTo, node_at, Owner, Free, Taken, Borne, Kept, Dead, born_bit, SpineOwner, Open, Placed, Rule, SeatStands, nodes_in}
use Rattle.core_rule.proofs.Terms.{WhileCopying, CopyingStands, CopyInHand, IsToCopy, copy_in, HasPlace, next_spine, HasMarked, IsSettled}
use Rattle.heap_model.specs.PhasePlan.{copying as copying_phase, sweep as sweep_phase, marking as marking_phase}
use Rattle.heap_words.specs.declared.name.Name.{Name}
use Rattle.heap_words.specs.declared.spot.Spot.{Spot}
use Rattle.heap_model.specs.declared.command.Command.TheVariants as commands
use Rattle.heap_model.specs.Command.{IsCommand}
use Rattle.core_machine.specs.collector.CopyingTurns.{sentinel_at}
use Rattle.core_machine.specs.collector.FitsTurns.{FitsStage}
use Rattle.core_machine.specs.declared.collector.stage.Copying.TheVariants as copying
use Rattle.core_machine.specs.declared.collector.stage.SpineCopy.{SpineCopy}
use Rattle.core_machine.specs.declared.collector.stage.Stage.TheVariants as stages
use Rattle.core_machine.specs.declared.point.Point.TheVariants as points
use Rattle.core_rule.proofs.colours.LeadsFrames.{SameSources, led_before_where_same}
use Rattle.core_rule.proofs.colours.NoSpines.{newborn_tells_no_spine}
use Rattle.core_rule.proofs.entries.AtRest.{seat_fits}
use Rattle.core_rule.proofs.frames.BesideFrames.{LeavesBeside, leaves_beside_spine_word, ArraysStay}
use Rattle.core_rule.proofs.held.BodyWords.{bearing_has_stored_all}
use Rattle.core_rule.proofs.lists.Members.{position_of, element_stands_at_position}
use Rattle.core_rule.proofs.marking.KeptSources.{same_sources_of_kept}
use Rattle.core_rule.proofs.marking.Marks.{marking_is_not_settled}
use Rattle.core_rule.proofs.objects.LastBirth.{all_words_are_stored}
use Rattle.core_rule.proofs.owners.Seated.{borne_is_in_seat_body}
use Rattle.core_rule.proofs.objects.SpinePlaces.{owned_place_fits_spot}
use Rattle.core_rule.proofs.spines.SpineFrames.{PlacesStay}
use Rattle.core_rule.proofs.spines.SpineStores.{unlisted_word_same_after_listing, others_word_same_after_listing, gone_word_same_after_listing, array_word_same_after_listing}
use Rattle.core_rule.proofs.ways.ArrayWords.{spine_words_in-meta, spot_in-word}

-- an object that makes an array needs a fragment
needs_some : (command : Command) → IsArrayCall command → 1 ≤ need_of command
needs_some (commands.Array d cells) array = omega arith
needs_some _ array = absurd array

-- a newborn object has a spine where it is an array, in its first fragment, which tells where it stands
module _ (name : Name) (spine : Spot) (body : List ℕ) (small : (i : ℕ) → i < length body → get_or body i 0 < 2 ^ 30) where
  newborn_spine : (command : Command) → MakesObject command → IsCommand command → (k j : ℕ) → j < spine_words_in (newborn_word command name spine body k 0)
      → (IsArrayCall command) × (j < spine_need_of command) × (newborn_word command name spine body k 2 ≡ spot_word spine)
  newborn_spine (commands.New d fields) made range k j less =
      let none : spine_words_in (newborn_word (commands.New d fields) name spine body k 0) ≡ 0 = newborn_tells_no_spine body small name fields k (omega (arith, range.1.1)) in absurd (omega (arith, less, none))
  newborn_spine (commands.Array d cells) made range zero j less = (tt, omega (arith, less, spine_words_in-meta cells (omega (arith, range.1.1))), refl)
  newborn_spine (commands.Array d cells) made range (suc k) j less =
      let later : eqb (suc k) 0 ≡ false = grind arith in
      let none : spine_words_in (newborn_word (commands.Array d cells) name spine body (suc k) 0) ≡ 0 = rw later refl in
      absurd (omega (arith, less, none))
  newborn_spine _ made range k j less = absurd made

ended_or_not : (stage : Stage) → HasMarked stage ⊎ (¬ HasMarked stage)
ended_or_not stages.Flipping = inl tt
ended_or_not stages.Advancing = inl tt
ended_or_not _ = inr (λ e. e)

-- marking has ended, and the sweep hasn't, or not
settled_or_not : (phase : ℕ) (stage : Stage) → IsSettled phase stage ⊎ (¬ IsSettled phase stage)
settled_or_not phase stage = elim (cases_eq (phase % cycle_phases) copying_phase) as (λ _. IsSettled phase stage ⊎ (¬ IsSettled phase stage)) [
  | inl copies ↦ inl (inr (inl copies))
  | inr no_copies ↦ elim (cases_eq (phase % cycle_phases) sweep_phase) as (λ _. IsSettled phase stage ⊎ (¬ IsSettled phase stage)) [
    | inl sweeps ↦ inl (inr (inr sweeps))
    | inr no_sweeps ↦ elim (cases_eq (phase % cycle_phases) marking_phase) as (λ _. IsSettled phase stage ⊎ (¬ IsSettled phase stage)) [
      | inl third ↦ elim (ended_or_not stage) as (λ _. IsSettled phase stage ⊎ (¬ IsSettled phase stage)) [
        | inl ended ↦ inl (inl (third, ended))
        | inr goes ↦ inr (marking_is_not_settled phase stage third goes)
      ]
      | inr other ↦ inr (never no_copies no_sweeps other)
    ]
  ]
]
  where
    never : phase % cycle_phases ≢ copying_phase → phase % cycle_phases ≢ sweep_phase → phase % cycle_phases ≢ marking_phase → ¬ IsSettled phase stage
    never no_copies no_sweeps other (inl ended) = other ended.0
    never no_copies no_sweeps other (inr (inl copies)) = no_copies copies
    never no_copies no_sweeps other (inr (inr sweeps)) = no_sweeps sweeps

-- what is to be freed is white
dead_is_white : (heap : Heap) (state : State) (book : Book) → Rule heap state book → (f i k : ℕ) → book.owner f ≡ Dead i k → book.colour f ≡ White
dead_is_white heap state book rule f i k dead = elim (settled_or_not state.collector.phase state.collector.stage) as (λ _. book.colour f ≡ White) [
  | inl settled ↦ (rule.marks_stand.heap_marks.after settled).dead_white f i k dead
  | inr going ↦ absurd (rule.marks_stand.heap_marks.alive going f i k dead)
]

module _ (heap : Heap) (state : State) (book : Book) (rule : Rule heap state book) (number : ℕ) (here : number < heap.seats) (point : (seat_at state number).point ≡ points.Making Listing) (n : ℕ) where
  abbrev seat : Seat
  seat = seat_at state number

  fits : HasArrayBody seat × (seat.listed < spine_need seat)
  fits = rw point at (seat_fits rule number here).at_point

  stands : SeatStands heap state.words book number seat
  stands = rule.seats_stand number here

  pub listing_has_place : HasPlace seat seat.point
  listing_has_place = subst (HasPlace seat) (sym point) fits.0.1

  small : seat.spine.half < 2
  small = (seat_fits rule number here).hand.spine_within.half_within

  -- the words after it
  abbrev pub words_now : List ℕ
  words_now = put heap state.words (spine_place seat.spine seat.listed) n

  pub leaves_beside_after_listing : LeavesBeside heap state.words words_now
  leaves_beside_after_listing = leaves_beside_spine_word heap state.words (spine_place seat.spine seat.listed) n (omega arith)

  -- each word that is somebody's stands in one of the two halves
  in_halves : (half offset : ℕ) → book.spine_owner half offset ≢ Open → half < 2
  in_halves half offset some = (owned_place_fits_spot heap state book rule.machine.limits rule.space.halves half offset some).half_within

  -- the spines of kept arrays stay
  pub arrays_stay_after_listing : ArraysStay heap state.words words_now book
  arrays_stay_after_listing = array_word_same_after_listing heap state.words book.spine_owner number seat stands.own.spine listing_has_place fits.1 small n in_halves heap.seats (length book.made) (node_at (graph_of heap book.history) book.made)
      book.owner book.fragments book.spines rule.heap_stands.spines

  -- so do the words that arrays have left
  pub places_stay_after_listing : PlacesStay heap state.words words_now (length book.made) book.spines book.spines book.spine_owner book.spine_owner
  places_stay_after_listing = record {
    stay = λ i below. refl;
    gone = λ half offset is. is;
    as_were = gone_word_same_after_listing heap state.words book.spine_owner number seat stands.own.spine listing_has_place fits.1 small n in_halves;
  }

  -- and what the collector has copied
  copied_listed : (copy : SpineCopy) → IsToCopy (nodes_in heap book) book.made book.owner book.colour book.spines (next_spine heap state.words).half copy.array copy.from → copy.index ≤ copy.array.words
      → ((j : ℕ) → j < copy.array.words → book.spine_owner copy.to.half (copy.to.offset + j) ≡ Placed heap.seats j)
      → ((j : ℕ) → j < copy.index → at heap state.words (spine_place copy.to j) ≡ at heap state.words (spine_place copy.from j))
      → (j : ℕ) → j < copy.index → at heap words_now (spine_place copy.to j) ≡ at heap words_now (spine_place copy.from j)
  copied_listed copy copies few placed copied j less =
      let begins = copies.found.begins in
      let there = rule.heap_stands.objects.back (sentinel_at copy.array) begins.index 0 begins.kept in
      let within : j < copy.array.words = omega (arith, less, few) in
      let to = others_word_same_after_listing heap state.words book.spine_owner number seat stands.own.spine listing_has_place fits.1 small n in_halves copy.to.half (copy.to.offset + j) heap.seats j (λ e. omega (arith, e, here)) (placed j within) in
      let from = arrays_stay_after_listing begins.index j there.0 there.1 (subst (λ m. j < m) begins.as_many within) in
      to ∙ copied j less ∙ sym (subst (λ (s : Spot). at heap words_now (spine_place s j) ≡ at heap state.words (spine_place s j)) (sym copies.own) from)

  pub copy_in_hand_after_listing : CopyInHand heap words_now book.spine_owner state.collector.stage
  copy_in_hand_after_listing =
      let halves = rule.space.halves in
      record {
        placed = halves.copy.placed;
        own = halves.copy.own;
        copied = by state.collector.stage rule.machine.collector_fit.at_stage halves.copies halves.copy.placed halves.copy.copied;
      }
    where
      by : (stage : Stage) → FitsStage heap state.collector.phase state.collector.looked stage
          → WhileCopying (CopyingStands (nodes_in heap book) book.made book.owner book.colour book.fragments book.spines (next_spine heap state.words).half) stage
          → IfSome (copy_in stage) (λ copy. (j : ℕ) → j < copy.array.words → book.spine_owner copy.to.half (copy.to.offset + j) ≡ Placed heap.seats j)
          → IfSome (copy_in stage) (λ copy. (j : ℕ) → j < copy.index → at heap state.words (spine_place copy.to j) ≡ at heap state.words (spine_place copy.from j))
          → IfSome (copy_in stage) (λ copy. (j : ℕ) → j < copy.index → at heap words_now (spine_place copy.to j) ≡ at heap words_now (spine_place copy.from j))
      by (stages.Copying (copying.Loading copy)) fit copies placed copied = copied_listed copy copies.0 fit.1.0.index_within placed copied
      by (stages.Copying (copying.Storing copy word)) fit copies placed copied = copied_listed copy copies.0 fit.1.copies.index_within placed copied
      by (stages.Copying (copying.Swinging copy)) fit copies placed copied = copied_listed copy copies.0 fit.1.0.index_within placed copied
      by _ fit copies placed copied = tt

  pub kept_sources_after_listing : (f i k : ℕ) → book.owner f ≡ Kept i k → SameSources heap state.words words_now f
  kept_sources_after_listing = same_sources_of_kept heap state book rule words_now leaves_beside_after_listing.parts arrays_stay_after_listing

  -- and those of arrays that others bear
  pub borne_sources_after_listing : (f r : ℕ) → book.owner f ≡ Borne r → SameSources heap state.words words_now f
  borne_sources_after_listing f r bears =
      let there = borne_is_in_seat_body heap state book rule r f bears in
      let other : Seat = seat_at state r in
      let other_fits : Fits heap other = seat_fits rule r there.0 in
      let its = bearing_has_stored_all heap state book rule r f bears other.point other_fits.at_point in
      let at_body = element_stands_at_position f other.body there.1 in
      let k : ℕ = position_of f other.body in
      let stored = all_words_are_stored heap state.words other.body (newborn_word_of r other) other.stored its.1 (rule.seats_stand r there.0).own.stored in
      let within : f < 16 * heap.groups = subst (λ x. x < 16 * heap.groups) at_body.1 (other_fits.hand.body_within k 0 at_body.0) in
      record {
        parts = λ part below. leaves_beside_after_listing.parts f part within below;
        spine = λ j less.
            let first : at heap state.words (Word f 0) ≡ newborn_word_of r other k 0 = subst (λ x. at heap state.words (Word x 0) ≡ newborn_word_of r other k 0) at_body.1 (stored k 0 at_body.0 (omega arith)) in
            let third : at heap state.words (Word f 2) ≡ newborn_word_of r other k 2 = subst (λ x. at heap state.words (Word x 2) ≡ newborn_word_of r other k 2) at_body.1 (stored k 2 at_body.0 (omega arith)) in
            let newborn = newborn_spine (next_name r other) other.spine other.body
            (λ i below. let inside : get_or other.body i 0 < 16 * heap.groups = other_fits.hand.body_within i 0 below in omega (arith, inside, rule.machine.limits.groups_fit))
            other.command its.0.makes.an_object its.0.makes.in_range k j (subst (λ w. j < spine_words_in w) first less) in
            let spot : spot_in (at heap state.words (Word f 2)) ≡ other.spine = ap spot_in (third ∙ newborn.2) ∙ spot_in-word other.spine other_fits.hand.spine_within in
            let owned = (rule.seats_stand r there.0).own.spine.placed (its.3 newborn.0) j newborn.1 in
            subst (λ (s : Spot). at heap words_now (spine_place s j) ≡ at heap state.words (spine_place s j)) (sym spot)
            (unlisted_word_same_after_listing heap state.words book.spine_owner number seat stands.own.spine listing_has_place fits.1 small n other.spine.half (other.spine.offset + j) other_fits.hand.spine_within.half_within
            (λ mine. another r its.1 its.0.whole (placed_by r number j seat.listed _ owned mine) newborn.0));
      }
    where
      placed_by : (r s j k : ℕ) (o : SpineOwner) → o ≡ Placed r j → o ≡ Placed s k → r ≡ s
      placed_by r s j k o a b = cc

      -- a seat that lists its spine has stored nothing of its object
      another : (r : ℕ) → (seat_at state r).stored ≡ 4 * length (seat_at state r).body → length (seat_at state r).body ≡ need_of (seat_at state r).command → r ≡ number → IsArrayCall (seat_at state r).command → ⊥
      another r all whole same array =
          let none : (seat_at state r).stored ≡ 0 = ap (λ x. (seat_at state x).stored) same ∙ fits.0.2.none_stored in
          omega (arith, none, all, whole, needs_some (seat_at state r).command array)

  -- and so are those of what is black
  pub black_led_before_listing : (f source x : ℕ) → book.colour f ≡ Black → WordPointsTo heap words_now f source x → WordPointsTo heap state.words f source x
  black_led_before_listing f source x dark leads = by (book.owner f) refl (rule.heap_stands.cycle.coloured.born f (λ white. absurd (cc (dark, white))))
    where
      by : (o : Owner) → book.owner f ≡ o → born_bit (book.owner f) ≡ 1 → WordPointsTo heap state.words f source x
      by Free is born = absurd (let none : born_bit (book.owner f) ≡ 0 = ap born_bit is in omega (arith, none, born))
      by (Taken r) is born = absurd (let none : born_bit (book.owner f) ≡ 0 = ap born_bit is in omega (arith, none, born))
      by (Borne r) is born = led_before_where_same heap state.words words_now f (borne_sources_after_listing f r is) source x leads
      by (Kept i k) is born = led_before_where_same heap state.words words_now f (kept_sources_after_listing f i k is) source x leads
      by (Dead i k) is born = absurd (cc (dark, dead_is_white heap state book rule f i k is))
