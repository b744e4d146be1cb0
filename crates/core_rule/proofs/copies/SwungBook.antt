-- The heap and each seat stand once an array has swung to the collector's copy.
use Rattle.std.proofs.Common.{◌≡◌, ℕ, ◌+◌, ◌*◌, ◌<◌, List, [], ◌∷◌, ◌++◌, length, inl, inr, sym, ap, ◌∙◌, subst, arith}
use Rattle.std.proofs.lemmas.Bool.{cases_eq}
use Rattle.heap_words.specs.declared.spot.Spot.{Spot}
use Rattle.core_rule.proofs.Terms.{spot_word, Entry, Swings, Heap, graph_of, Graph, Node, opening, spine_words_of, Word, State, spine_words_in, at, put, spine_place, FitsSpot}
use Rattle.core_rule.proofs.Terms.{spine_word, Book, fragment_at, WordPointsTo, Objects, IsKept, node_at, SpineOwner, Spined, CopyInHand, IsToCopy, Rule, SpinesStand, IsWordOf}
use Rattle.core_rule.proofs.Terms.{next_spine}
use Rattle.heap_model.proofs.Histories.{graph_after-more}
use Rattle.core_machine.specs.collector.CopyingTurns.{sentinel_at}
use Rattle.core_machine.specs.collector.FitsCopying.{FitsCopy}
use Rattle.core_machine.specs.declared.collector.stage.Copying.TheVariants.{Swinging}
use Rattle.core_machine.specs.declared.collector.stage.SpineCopy.{SpineCopy}
use Rattle.core_machine.specs.declared.collector.stage.Stage.TheVariants as stages
use Rattle.core_machine.specs.declared.table.address.Address.TheVariants as addresses
use Rattle.core_rule.proofs.copies.BegunArrays.{begun_is_kept_first, begun_spine_fits}
use Rattle.core_rule.proofs.copies.CopyingStages.{fits_copying_from}
use Rattle.core_rule.proofs.copies.SwungObjects.{objects_with_moved_spine}
use Rattle.core_rule.proofs.copies.SwungSources.{led_before_moved_spine}
use Rattle.core_rule.proofs.copies.SwungWords.{swung_spines, swung_spine_is_copy, other_spine_stays_at_swing, swung_word, copied_word_is_spined, placed_before_swing, spined_word_stays_at_swing, spined_before_swing}
use Rattle.core_rule.proofs.copies.VisitsOn.{copying_stands_from_stage}
use Rattle.core_rule.proofs.objects.ObjectWords.{object_word_is_spot}
use Rattle.core_rule.proofs.dying.DeadWords.{dead_tell_still}
use Rattle.core_rule.proofs.spines.SpineFrames.{same_shape_of_itself}
use Rattle.core_rule.proofs.ways.KeptWords.{owned_within_heap, meta_tells_spine_words}
use Rattle.core_rule.proofs.words.Addresses.{at-put_apart}

module _ (heap : Heap) (state : State) (book : Book) (rule : Rule heap state book) (copy : SpineCopy) (swinging : state.collector.stage ≡ stages.Copying (Swinging copy)) where
  abbrev g : Graph
  g = graph_of heap book.history

  abbrev nodes : ℕ → Node
  nodes = node_at g book.made

  fits : FitsCopy heap copy × (copy.index ≡ copy.array.words)
  fits = fits_copying_from heap state book rule (Swinging copy) swinging

  -- the array is to be copied, and stands yet where it stood
  pub swung_is_to_copy : IsToCopy nodes book.made book.owner book.colour book.spines (next_spine heap state.words).half copy.array copy.from
  swung_is_to_copy = (copying_stands_from_stage heap state book rule (Swinging copy) swinging).0

  -- the copy stands in the half of the next spine
  pub copy_in_next_half : copy.to.half ≡ (next_spine heap state.words).half
  copy_in_next_half = (copying_stands_from_stage heap state book rule (Swinging copy) swinging).1

  -- its number, and its first fragment
  abbrev pub i : ℕ
  i = swung_is_to_copy.found.begins.index

  abbrev pub s : ℕ
  s = sentinel_at copy.array

  pub swung_array_is_kept : (i < length book.made) × IsKept book.owner book.fragments i × (0 < length (book.fragments i)) × (s ≡ fragment_at (book.fragments i) 0)
  swung_array_is_kept = begun_is_kept_first heap state book rule s copy.array.words swung_is_to_copy.found.begins

  pub swung_first_within_heap : s < 16 * heap.groups
  swung_first_within_heap = owned_within_heap heap state.words book.owner s i 0 rule.heap_stands.control_words swung_is_to_copy.found.begins.kept

  pub from_fits : FitsSpot copy.from
  from_fits = subst FitsSpot (sym swung_is_to_copy.own) (begun_spine_fits heap state book rule s copy.array.words swung_is_to_copy.found.begins)

  pub to_fits : FitsSpot copy.to
  to_fits = fits.0.to_within

  -- its first fragment tells how many words it has, and where they stand
  as_told : spine_words_in (at heap state.words (Word s 0)) ≡ copy.array.words
  as_told = ap (λ x. spine_words_in (at heap state.words (Word x 0))) swung_array_is_kept.3
      ∙ meta_tells_spine_words heap state.words g book.made book.owner book.fragments rule.machine.limits rule.heap_stands.control_words rule.heap_stands.ids rule.heap_stands.objects i swung_array_is_kept.0 swung_array_is_kept.1 swung_is_to_copy.found.begins.is_array
      ∙ sym swung_is_to_copy.found.begins.as_many

  pub place_told : at heap state.words (Word s 2) ≡ spot_word copy.from
  place_told = ap (λ x. at heap state.words (Word x 2)) swung_array_is_kept.3 ∙ (rule.heap_stands.objects.kept i swung_array_is_kept.0 swung_array_is_kept.1).stored 0 2 swung_array_is_kept.2 (omega arith)
      ∙ object_word_is_spot _ _ (book.spines i) (book.fragments i) (nodes i) swung_is_to_copy.found.begins.is_array ∙ ap spot_word (sym swung_is_to_copy.own)

  -- the copy is whole
  pub in_hand : CopyInHand heap state.words book.spine_owner (stages.Copying (Swinging copy))
  in_hand = subst (CopyInHand heap state.words book.spine_owner) swinging rule.space.halves.copy

  pub copied : (k : ℕ) → k < spine_words_in (at heap state.words (Word s 0)) → at heap state.words (spine_place copy.to k) ≡ at heap state.words (spine_place copy.from k)
  copied k within = in_hand.copied k (omega (arith, within, as_told, fits.1))

  pub swung_spine_names_payload : (j : ℕ) → j < spine_words_of (nodes i) → at heap state.words (spine_place (book.spines i) j) ≡ spine_word (fragment_at (book.fragments i) (j + 1))
  swung_spine_names_payload = (rule.heap_stands.objects.kept i swung_array_is_kept.0 swung_array_is_kept.1).listed

  copy_listed : (j : ℕ) → j < spine_words_of (nodes i) → at heap state.words (spine_place copy.to j) ≡ spine_word (fragment_at (book.fragments i) (j + 1))
  copy_listed j within = copied j (omega (arith, within, as_told, swung_is_to_copy.found.begins.as_many)) ∙ ap (λ (p : Spot). at heap state.words (spine_place p j)) swung_is_to_copy.own ∙ swung_spine_names_payload j within

  abbrev pub now : List ℕ
  now = put heap state.words (Word s 2) (spot_word copy.to)

  abbrev pub places : ℕ → Spot
  places = swung_spines i copy.to book.spines

  abbrev pub owners : ℕ → ℕ → SpineOwner
  owners half offset = swung_word heap.seats i (book.spine_owner half offset)

  abbrev pub entry : Entry
  entry = Swings copy.array.id

  -- the book then
  abbrev pub book_swung : Book
  book_swung = record book { history = book.history ++ entry ∷ []; spines = places; spine_owner = owners }

  pub graph_same_after_swing : graph_of heap book_swung.history ≡ g
  graph_same_after_swing = graph_after-more (opening heap) book.history entry

  pub objects_after_swing : Objects heap now g book.made book.owner book.fragments places
  objects_after_swing = objects_with_moved_spine heap state.words rule.machine.table g book.made book.owner book.fragments book.spines i s copy.to swung_first_within_heap swung_is_to_copy.found.begins.kept swung_array_is_kept.3 swung_is_to_copy.found.begins.is_array copy_listed
      rule.heap_stands.objects

  -- every fragment leads where it led
  pub led_before_swing : (f source x : ℕ) → WordPointsTo heap now f source x → WordPointsTo heap state.words f source x
  led_before_swing = led_before_moved_spine heap state.words rule.machine.table s swung_first_within_heap copy.from copy.to from_fits to_fits place_told copied

  -- the next spine has its place where it had it
  pub spot_same_after_swing : at heap now addresses.Spot ≡ at heap state.words addresses.Spot
  spot_same_after_swing = at-put_apart heap state.words (Word s 2) addresses.Spot (spot_word copy.to) (λ e. omega (arith, e))

  old : SpinesStand heap state.words heap.seats (length book.made) nodes book.owner book.fragments book.spines book.spine_owner
  old = rule.heap_stands.spines

  -- the words of the copy are the array's
  kept_now : (j k : ℕ) → j < length book.made → IsKept book.owner book.fragments j → k < spine_words_of (nodes j) → owners (places j).half ((places j).offset + k) ≡ Spined j k
  kept_now j k below is within = elim (cases_eq j i) [
    | inl same ↦
        let here : owners copy.to.half (copy.to.offset + k) ≡ Spined i k
        = copied_word_is_spined heap.seats i _ k (in_hand.placed k (omega (arith, subst (λ n. k < spine_words_of (nodes n)) same within, swung_is_to_copy.found.begins.as_many))) in
        subst (λ n. owners (places n).half ((places n).offset + k) ≡ Spined n k) (sym same)
        (subst (λ (p : Spot). owners p.half (p.offset + k) ≡ Spined i k) (sym (swung_spine_is_copy i copy.to book.spines)) here)
    | inr other ↦ subst (λ (p : Spot). owners p.half (p.offset + k) ≡ Spined j k) (sym (other_spine_stays_at_swing i copy.to book.spines j other))
        (spined_word_stays_at_swing heap.seats i _ j k other (old.kept j k below is within))
  ]

  -- and no others
  back_now : (half offset j k : ℕ) → owners half offset ≡ Spined j k → (j < length book.made) × IsKept book.owner book.fragments j × (k < spine_words_of (nodes j)) × IsWordOf (places j) half offset k
  back_now half offset j k is = elim (spined_before_swing heap.seats i (book.spine_owner half offset) j k is) [
    | inl mine ↦
        let c = in_hand.own half offset k mine.1 in
        let same : c.copy ≡ copy = cc (c.progress) in
        let word : IsWordOf copy.to half offset k = subst (λ (x : SpineCopy). IsWordOf x.to half offset k) same c.is in
        let within : k < copy.array.words = subst (λ (x : SpineCopy). k < x.array.words) same c.within in
        subst (λ n. (n < length book.made) × IsKept book.owner book.fragments n × (k < spine_words_of (nodes n)) × IsWordOf (places n) half offset k) (sym mine.0)
        (swung_array_is_kept.0, swung_array_is_kept.1, omega (arith, within, swung_is_to_copy.found.begins.as_many), subst (λ (p : Spot). IsWordOf p half offset k) (sym (swung_spine_is_copy i copy.to book.spines)) word)
    | inr others ↦
        let one = old.back half offset j k others.1 in
        (one.0, one.1, one.2, subst (λ (p : Spot). IsWordOf p half offset k) (sym (other_spine_stays_at_swing i copy.to book.spines j others.0)) one.3)
  ]

  pub spines_stand_after_swing : SpinesStand heap now heap.seats (length book.made) nodes book.owner book.fragments places owners
  spines_stand_after_swing = record {
    spot = rw spot_same_after_swing old.spot;
    parties = λ half offset party k is. old.parties half offset party k (placed_before_swing heap.seats i (book.spine_owner half offset) party k is).0;
    kept = kept_now;
    back = back_now;
    tells = dead_tell_still heap state.words now (length book.made) nodes nodes book.owner book.owner (λ j below. same_shape_of_itself nodes j)
        (λ f j k is. (is, at-put_apart heap state.words (Word s 2) (Word f 0) (spot_word copy.to) (λ e. omega (arith, e)))) old.tells;
  }
