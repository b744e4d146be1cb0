-- The collector stores a word of its copy: no other spine word changes, and the copy has one word more.
use Rattle.std.specs.Option.{option_map_or}
use Rattle.std.proofs.Common.{◌≡◌, ◌≢◌, ℕ, ◌+◌, ◌*◌, ◌<◌, ◌≤◌, List, length, inl, inr, refl, sym, ap, ◌∙◌, subst, arith}
use Rattle.std.proofs.lemmas.Bool.{cases_eq}
use Rattle.heap_words.specs.declared.spot.Spot.{Spot}
use Rattle.core_rule.proofs.Terms.{Heap, array_words, graph_of, Node, State, seat_at, spine_need, at, put, spine_place, Book, Black, fragment_at, WordPointsTo, AfterMarking}
use Rattle.core_rule.proofs.Terms.{IsKept, node_at, Owner, Free, Taken, Borne, Kept, Dead, born_bit, SpineOwner, Open, Placed, Spined, Gone, CopyInHand, IsToCopy, Rule, HeapStands}
use Rattle.core_rule.proofs.Terms.{SeatStands, next_spine}
use Rattle.core_machine.specs.collector.CopyingTurns.{sentinel_at}
use Rattle.core_machine.specs.collector.FitsCopying.{FitsStoring}
use Rattle.core_machine.specs.declared.collector.stage.Copying.TheVariants.{Storing}
use Rattle.core_machine.specs.declared.collector.stage.SpineCopy.{SpineCopy}
use Rattle.core_machine.specs.declared.collector.stage.Stage.TheVariants as stages
use Rattle.core_machine.specs.declared.table.address.Address.TheVariants as addresses
use Rattle.core_machine.proofs.table_lemmas.Addresses.{at-put_same}
use Rattle.core_rule.proofs.colours.LeadsFrames.{SameSources, led_before_where_same}
use Rattle.core_rule.proofs.colours.SourceCases.{TellsNoSpine}
use Rattle.core_rule.proofs.copies.BegunArrays.{begun_is_kept_first}
use Rattle.core_rule.proofs.copies.CopyWords.{HasCopy, copy_stage_has_copy}
use Rattle.core_rule.proofs.copies.CopyingStages.{fits_copying_from, copying_is_after_marking}
use Rattle.core_rule.proofs.copies.InspectedWords.{borne_tells_no_array_length}
use Rattle.core_rule.proofs.copies.VisitsOn.{copying_stands_from_stage}
use Rattle.core_rule.proofs.entries.AtRest.{seat_fits}
use Rattle.core_rule.proofs.frames.BesideFrames.{LeavesBeside, leaves_beside_spine_word, ArraysStay, heap_stands_beside, seat_stands_beside}
use Rattle.core_rule.proofs.marking.KeptSources.{same_sources_of_kept}
use Rattle.core_rule.proofs.objects.SpinePlaces.{owned_place_fits_spot}
use Rattle.core_rule.proofs.dying.DeadWords.{dead_within_heap}
use Rattle.core_rule.proofs.budgets.OffsetWithin.{owned_offset_within_table}
use Rattle.core_rule.proofs.spines.SpineFrames.{same_kept_of_itself, same_shape_of_itself, spines_stand_at_same_spot, spines_left_of_itself, SpineIsStored}
use Rattle.core_rule.proofs.steps.making.ListingStep.{listed_within_need}
use Rattle.core_rule.proofs.words.Addresses.{at-put_apart, other_spine_word_stays}

-- a spine word is written that a party has
module _ (heap : Heap) (words : List ℕ) (spine_owner : ℕ → ℕ → SpineOwner) (party k half offset n : ℕ) (mine : spine_owner half offset ≡ Placed party k)
    (small : (h o : ℕ) → spine_owner h o ≢ Open → h < 2) where
  abbrev written : List ℕ
  written = put heap words (addresses.Spine half offset) n

  mine_small : half < 2
  mine_small = small half offset (λ none. absurd (cc (mine, none)))

  -- another word that is somebody's is as before
  pub others_written : (h o : ℕ) → spine_owner h o ≢ Open → spine_owner h o ≢ Placed party k → at heap written (addresses.Spine h o) ≡ at heap words (addresses.Spine h o)
  others_written h o some apart = other_spine_word_stays heap words n half offset h o mine_small (small h o some) (λ a b. apart (ap (λ x. spine_owner x o) a ∙ ap (spine_owner half) b ∙ mine))

  -- so are those of arrays, those that arrays have left, and those of other parties
  pub spined_written : (h o i j : ℕ) → spine_owner h o ≡ Spined i j → at heap written (addresses.Spine h o) ≡ at heap words (addresses.Spine h o)
  spined_written h o i j is = others_written h o (λ none. absurd (cc (is, none))) (λ own. absurd (cc (is, own)))

  pub gone_written : (h o : ℕ) → spine_owner h o ≡ Gone → at heap written (addresses.Spine h o) ≡ at heap words (addresses.Spine h o)
  gone_written h o is = others_written h o (λ none. absurd (cc (is, none))) (λ own. absurd (cc (is, own)))

  pub placed_written : (h o r j : ℕ) → r ≢ party → spine_owner h o ≡ Placed r j → at heap written (addresses.Spine h o) ≡ at heap words (addresses.Spine h o)
  placed_written h o r j other is = others_written h o (λ none. absurd (cc (is, none))) (λ own. other (party_of is own))
    where
      party_of : spine_owner h o ≡ Placed r j → spine_owner h o ≡ Placed party k → r ≡ party
      party_of a b = cc

-- where no word of a fragment changes, and none of a kept array's spine, what is black leads where it led
module _ (heap : Heap) (state : State) (book : Book) (rule : Rule heap state book) (now : List ℕ) (beside : LeavesBeside heap state.words now) (arrays : ArraysStay heap state.words now book) where
  -- what a seat has borne has no spine
  pub borne_sources : (f r : ℕ) → f < 16 * heap.groups → book.owner f ≡ Borne r → SameSources heap state.words now f
  borne_sources f r inside bears = record {
    parts = λ part below. beside.parts f part inside below;
    spine = λ j less.
        let none : TellsNoSpine heap state.words f = ap (λ o. option_map_or array_words o 0) (borne_tells_no_array_length heap state book rule f r bears) in
        absurd (omega (arith, less, none));
  }

  pub black_sources : AfterMarking book.owner book.colour → (f source x : ℕ) → book.colour f ≡ Black → WordPointsTo heap now f source x → WordPointsTo heap state.words f source x
  black_sources after f source x dark leads = by (book.owner f) refl (rule.heap_stands.cycle.coloured.born f (λ white. absurd (cc (dark, white))))
    where
      by : (o : Owner) → book.owner f ≡ o → born_bit (book.owner f) ≡ 1 → WordPointsTo heap state.words f source x
      by Free is born = absurd (let none : born_bit (book.owner f) ≡ 0 = ap born_bit is in omega (arith, none, born))
      by (Taken r) is born = absurd (let none : born_bit (book.owner f) ≡ 0 = ap born_bit is in omega (arith, none, born))
      by (Borne r) is born = led_before_where_same heap state.words now f (borne_sources f r leads.within is) source x leads
      by (Kept i k) is born = led_before_where_same heap state.words now f (same_sources_of_kept heap state book rule now beside.parts arrays f i k is) source x leads
      by (Dead i k) is born = absurd (cc (dark, after.dead_white f i k is))

-- the collector's next word is stored
module _ (heap : Heap) (state : State) (book : Book) (rule : Rule heap state book) (copy : SpineCopy) (word : ℕ) (storing : state.collector.stage ≡ stages.Copying (Storing copy word)) where
  abbrev nodes : ℕ → Node
  nodes = node_at (graph_of heap book.history) book.made

  fits : FitsStoring heap copy word
  fits = fits_copying_from heap state book rule (Storing copy word) storing

  pub store_is_to_copy : IsToCopy nodes book.made book.owner book.colour book.spines (next_spine heap state.words).half copy.array copy.from
  store_is_to_copy = (copying_stands_from_stage heap state book rule (Storing copy word) storing).0

  its : (store_is_to_copy.found.begins.index < length book.made) × IsKept book.owner book.fragments store_is_to_copy.found.begins.index
      × (0 < length (book.fragments store_is_to_copy.found.begins.index)) × (sentinel_at copy.array ≡ fragment_at (book.fragments store_is_to_copy.found.begins.index) 0)
  its = begun_is_kept_first heap state book rule (sentinel_at copy.array) copy.array.words store_is_to_copy.found.begins

  has : HasCopy heap state.words book.spine_owner copy
  has = copy_stage_has_copy heap state.words book.spine_owner (stages.Copying (Storing copy word)) copy refl (subst (CopyInHand heap state.words book.spine_owner) storing rule.space.halves.copy)

  abbrev offset : ℕ
  offset = copy.to.offset + copy.index

  -- the word is the collector's
  mine : book.spine_owner copy.to.half offset ≡ Placed heap.seats copy.index
  mine = has.placed copy.index fits.more

  small : (h o : ℕ) → book.spine_owner h o ≢ Open → h < 2
  small h o some = (owned_place_fits_spot heap state book rule.machine.limits rule.space.halves h o some).half_within

  -- the words after it
  abbrev pub now : List ℕ
  now = put heap state.words (addresses.Spine copy.to.half offset) word

  pub beside : LeavesBeside heap state.words now
  beside = leaves_beside_spine_word heap state.words (addresses.Spine copy.to.half offset) word (omega arith)

  arrays : ArraysStay heap state.words now book
  arrays i j below kept within =
      spined_written heap state.words book.spine_owner heap.seats copy.index copy.to.half offset word mine small (book.spines i).half ((book.spines i).offset + j) i j (rule.heap_stands.spines.kept i j below kept within)

  pub spot_same_after_copy_store : at heap now addresses.Spot ≡ at heap state.words addresses.Spot
  spot_same_after_copy_store = at-put_apart heap state.words (addresses.Spine copy.to.half offset) addresses.Spot word (λ e. omega (arith, e))

  pub budget_same_after_copy_store : at heap now addresses.Budget ≡ at heap state.words addresses.Budget
  budget_same_after_copy_store = at-put_apart heap state.words (addresses.Spine copy.to.half offset) addresses.Budget word (λ e. omega (arith, e))

  -- the heap stands
  pub heap_stands_after_copy_store : HeapStands heap now book
  heap_stands_after_copy_store = heap_stands_beside heap state book rule now beside arrays book.spine_owner
      (black_sources heap state book rule now beside arrays (copying_is_after_marking heap state book rule (Storing copy word) storing))
      (spines_stand_at_same_spot heap state.words now spot_same_after_copy_store heap.seats (length book.made) book.spines book.fragments book.spine_owner nodes nodes book.owner book.owner (same_kept_of_itself book.owner) (same_shape_of_itself nodes)
      (λ f i k is. (is, beside.parts f 0 (dead_within_heap heap state.words book.owner f i k rule.heap_stands.control_words is) (omega arith))) rule.heap_stands.spines)

  -- each seat has stored what it had
  seat_listed : (r : ℕ) → r < heap.seats → SpineIsStored heap now (seat_at state r)
  seat_listed r below placed j less =
      let seat = seat_at state r in
      let hand = (rule.seats_stand r below).own.spine in
      let few : seat.listed ≤ spine_need seat = listed_within_need heap seat seat.point (seat_fits rule r below).at_point placed in
      placed_written heap state.words book.spine_owner heap.seats copy.index copy.to.half offset word mine small seat.spine.half (seat.spine.offset + j) r j (λ e. omega (arith, e, below))
      (hand.placed placed j (omega (arith, less, few))) ∙ hand.stored placed j less

  pub seat_stands_after_copy_store : (r : ℕ) → r < heap.seats → SeatStands heap now book r (seat_at state r)
  seat_stands_after_copy_store r below = seat_stands_beside heap state book rule now beside arrays book.spine_owner r below (spines_left_of_itself r book.spine_owner) (seat_listed r below) record {
    stay = λ i less. refl;
    gone = λ h o is. is;
    as_were = gone_written heap state.words book.spine_owner heap.seats copy.index copy.to.half offset word mine small;
  }

  -- the word equals that of the spine
  from_same : (j : ℕ) → j < copy.array.words → at heap now (spine_place copy.from j) ≡ at heap state.words (spine_place copy.from j)
  from_same j within = subst (λ (p : Spot). at heap now (spine_place p j) ≡ at heap state.words (spine_place p j)) (sym store_is_to_copy.own)
      (arrays store_is_to_copy.found.begins.index j its.0 its.1 (subst (λ n. j < n) store_is_to_copy.found.begins.as_many within))

  spine_has : at heap state.words (spine_place copy.from copy.index) ≡ word
  unfolding store_is_to_copy
  spine_has = ap (λ (p : Spot). at heap state.words (spine_place p copy.index)) store_is_to_copy.own
      ∙ (rule.heap_stands.objects.kept store_is_to_copy.found.begins.index its.0 its.1).listed copy.index (subst (λ n. copy.index < n) store_is_to_copy.found.begins.as_many fits.more)
      ∙ sym (copying_stands_from_stage heap state book rule (Storing copy word) storing).1

  copied_next : (j : ℕ) → j < copy.index + 1 → at heap now (spine_place copy.to j) ≡ at heap now (spine_place copy.from j)
  copied_next j less = elim (cases_eq j copy.index) [
    | inl last ↦ subst (λ k. at heap now (spine_place copy.to k) ≡ at heap now (spine_place copy.from k)) (sym last)
        (at-put_same heap state.words (addresses.Spine copy.to.half offset) word rule.machine.table
        (small copy.to.half offset (λ none. absurd (cc (mine, none))), owned_offset_within_table heap state book rule copy.to.half offset (λ none. absurd (cc (mine, none))))
        ∙ sym spine_has ∙ sym (from_same copy.index fits.more))
    | inr before ↦
        let within : j < copy.array.words = omega (arith, less, before, fits.more) in
        let there = has.placed j within in
        others_written heap state.words book.spine_owner heap.seats copy.index copy.to.half offset word mine small copy.to.half (copy.to.offset + j) (λ none. absurd (cc (there, none)))
        (λ own. before (position_of there own)) ∙ has.copied j (omega (arith, less, before)) ∙ sym (from_same j within)
  ]
    where
      position_of : {o : SpineOwner} {j k : ℕ} → o ≡ Placed heap.seats j → o ≡ Placed heap.seats k → j ≡ k
      position_of a b = cc

  pub has_copy_after_store : HasCopy heap now book.spine_owner (record copy { index = copy.index + 1 })
  has_copy_after_store = record { placed = has.placed; own = has.own; copied = copied_next }
