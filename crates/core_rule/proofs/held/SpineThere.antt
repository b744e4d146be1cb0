-- A spine word that is somebody's is one that the table has, and so are those that the collector scans, copies and stores.
use Rattle.std.proofs.Common.{◌≡◌, ◌≢◌, ℕ, ◌+◌, ◌<◌, inr, refl, ap, ◌∙◌, subst, ◌/◌, inl, sym}
use Rattle.heap_words.specs.declared.spot.Spot.{Spot}
use Rattle.core_rule.proofs.Terms.{spot_in, graph_of, Heap, Node, Graph, Collector, IsIndexing, IsCopying, FitsCopying, Word, Spine, State, seat_at, spine_words_in, at, HasWord}
use Rattle.core_rule.proofs.Terms.{Book, fragment_at, IsSeen, IsSpineOf, node_at, Open, Spined, IsToCopy, copy_in, Rule, next_spine, HasPlace, Seat, spine_need, Listing, Indexing}
use Rattle.core_rule.proofs.Terms.{spine_words_of, field_of, FitsPoint, Locates}
use Rattle.core_machine.specs.declared.collector.stage.Copying.TheVariants as copying
use Rattle.core_machine.specs.declared.collector.stage.SpineCopy.{SpineCopy}
use Rattle.core_machine.specs.declared.collector.stage.SpineScan.{SpineScan}
use Rattle.core_machine.specs.declared.collector.stage.Stage.TheVariants as stages
use Rattle.core_rule.specs.held.HeldWords.{IsAmong, IsInCopy, IsHeldWord, IsInHandOf, IsLoadedBy}
use Rattle.core_rule.proofs.held.WordOwners.{kept_word_is_spined, held_word_is_owned}
use Rattle.core_rule.proofs.budgets.OffsetWithin.{owned_offset_within_table}
use Rattle.core_machine.specs.declared.point.Point.TheVariants as points
use Rattle.core_rule.proofs.entries.AtRest.{seat_fits}
use Rattle.core_rule.proofs.marking.ObjectEdges.{kept_tells_spine_words}
use Rattle.core_rule.proofs.ways.LoadedPlaces.{calls_object_of_first}
use Rattle.core_rule.proofs.ways.OnwardWays.{field_word_within_spine}

-- a word of a spine is the one of its index
pub of_itself : (spine : Spot) (words index : ℕ) → index < words → IsAmong spine words spine.half (spine.offset + index)
of_itself spine words index within = record { index = index; within = within; is = record { half_is = refl; offset_is = refl } }

module _ (heap : Heap) (state : State) (book : Book) (rule : Rule heap state book) where
  -- a spine word that is somebody's is one of the table's
  pub owned_word_is_there : (half offset : ℕ) → half < 2 → book.spine_owner half offset ≢ Open → HasWord heap (Spine half offset)
  owned_word_is_there half offset low some = (low, owned_offset_within_table heap state book rule half offset some)

  -- so is one that is held
  pub held_word_is_there : (half offset : ℕ) → half < 2 → IsHeldWord heap state half offset → HasWord heap (Spine half offset)
  held_word_is_there half offset low held = owned_word_is_there half offset low (held_word_is_owned heap state book rule half offset held)

  -- a seat stores a spine word that it has in its hand, and loads one of a spine whose place it has loaded
  module _ (number : ℕ) (here : number < heap.seats) where
    abbrev seat : Seat
    seat = seat_at state number

    pub listed_word_is_held : seat.point ≡ points.Making Listing → IsHeldWord heap state seat.spine.half (seat.spine.offset + seat.listed)
    listed_word_is_held point_is =
        let fits = subst (FitsPoint heap seat) point_is (seat_fits rule number here).at_point in
        let hand : IsInHandOf state number seat.spine.half (seat.spine.offset + seat.listed)
        = record { has = subst (HasPlace seat) (sym point_is) fits.0.1; among = of_itself seat.spine (spine_need seat) seat.listed fits.1 } in
        inr (inl (number, here, inl hand))

    pub indexed_word_is_held : seat.point ≡ points.Access Indexing → IsHeldWord heap state seat.address.half (seat.address.offset + field_of seat.command / 4)
    indexed_word_is_held point_is =
        let g : Graph = graph_of heap book.history in
        let stands = rule.heap_stands in
        let locates : Locates (node_at g book.made) book.made book.owner book.fragments seat = rw point_is at (rule.seats_stand number here).names.way in
        let i : ℕ = locates.index in
        let f : ℕ = fragment_at (book.fragments i) 0 in
        let ahead = field_word_within_spine heap state.words g book.made book.owner book.fragments rule.machine.limits stands.control_words stands.ids stands.objects seat locates in
        let many : spine_words_in (at heap state.words (Word f 0)) ≡ spine_words_of (node_at g book.made i) = (kept_tells_spine_words heap state book rule f i 0 locates.way.kept).1.told in
        let loads : IsLoadedBy heap state number seat.address.half (seat.address.offset + field_of seat.command / 4) = record {
          loaded = rw point_is tt;
          sentinel = f;
          calls = calls_object_of_first book.made book.owner book.fragments seat i 0 locates.way;
          among = of_itself seat.address (spine_words_in (at heap state.words (Word f 0))) (field_of seat.command / 4) (subst (λ n. field_of seat.command / 4 < n) (sym many) ahead);
        } in
        inr (inl (number, here, inr loads))

  -- the collector scans and copies the spine of a kept array, and stores into its copy
  abbrev collector : Collector
  collector = state.collector

  abbrev nodes : ℕ → Node
  nodes = node_at (graph_of heap book.history) book.made

  pub scanned_word_is_owned : (s : SpineScan) → collector.stage ≡ stages.Indexing s → book.spine_owner s.spine.half (s.spine.offset + s.index) ≢ Open
  scanned_word_is_owned s stage open_ =
      let fits : IsIndexing heap collector.phase collector.looked s = rw stage at rule.machine.collector_fit.at_stage in
      let seen : IsSeen heap state.words book.colour s.scan.fragment (4 + s.index) × IsSpineOf heap state.words s = rw stage at rule.marks_stand.heap_marks.scan in
      let f : ℕ = s.scan.fragment in
      let kept_fragment = rule.marks_stand.heap_marks.grey f seen.0.grey in
      let among : IsAmong (spot_in (at heap state.words (Word f 2))) (spine_words_in (at heap state.words (Word f 0))) s.spine.half (s.spine.offset + s.index)
      = subst (λ p. IsAmong p (spine_words_in (at heap state.words (Word f 0))) s.spine.half (s.spine.offset + s.index)) seen.1.there
      (of_itself s.spine (spine_words_in (at heap state.words (Word f 0))) s.index (subst (λ n. s.index < n) seen.1.as_many fits.on.index_within)) in
      let its = kept_word_is_spined heap state book rule s.spine.half (s.spine.offset + s.index) f kept_fragment.index kept_fragment.position kept_fragment.kept among in
      cc (its.2, open_)

  pub loaded_word_is_owned : (copy : SpineCopy) → collector.stage ≡ stages.Copying (copying.Loading copy) → book.spine_owner copy.from.half (copy.from.offset + copy.index) ≢ Open
  loaded_word_is_owned copy stage open_ =
      let copies : IsToCopy nodes book.made book.owner book.colour book.spines (next_spine heap state.words).half copy.array copy.from × (copy.to.half ≡ (next_spine heap state.words).half)
      = rw stage at rule.space.halves.copies in
      let fits : IsCopying heap.seats collector.phase collector.looked × FitsCopying heap (copying.Loading copy) = rw stage at rule.machine.collector_fit.at_stage in
      let begins = copies.0.found.begins in
      let back = rule.heap_stands.objects.back _ begins.index 0 begins.kept in
      let its : book.spine_owner copy.from.half (copy.from.offset + copy.index) ≡ Spined begins.index copy.index
      = ap (λ (s : Spot). book.spine_owner s.half (s.offset + copy.index)) copies.0.own
      ∙ rule.heap_stands.spines.kept begins.index copy.index back.0 back.1 (subst (λ n. copy.index < n) begins.as_many fits.1.1) in
      cc (its, open_)

  pub stored_word_is_held : (copy : SpineCopy) (word : ℕ) → collector.stage ≡ stages.Copying (copying.Storing copy word) → IsHeldWord heap state copy.to.half (copy.to.offset + copy.index)
  stored_word_is_held copy word stage =
      let fits : IsCopying heap.seats collector.phase collector.looked × FitsCopying heap (copying.Storing copy word) = rw stage at rule.machine.collector_fit.at_stage in
      let copies : IsInCopy state copy.to.half (copy.to.offset + copy.index)
      = record { copy = copy; progress = ap copy_in stage; among = of_itself copy.to copy.array.words copy.index fits.1.more } in
      inr (inr copies)
