-- The place of a kept array's spine fits into a word, and so does that of each spine word which is somebody's.
use Rattle.std.proofs.Common.{◌≡◌, ◌≢◌, ℕ, ◌+◌, ◌^◌, ◌<◌, true, inl, inr, length, sym, ◌∙◌, arith}
use Rattle.core_rule.proofs.Terms.{Heap, graph_of, spine_words_of, State, FitsSpot, Book, HalvesStand, IsKept, node_at, SpineOwner, Open, Spined, Rule, SpinesStand, next_spine}
use Rattle.heap_model.specs.Heap.{IsHeap}
use Rattle.core_rule.proofs.ways.KeptWords.{array_has_spine_words}

-- what is an object's is somebody's
spined_some : (o : SpineOwner) (i k : ℕ) → o ≡ Spined i k → o ≢ Open
spined_some o i k is none = let both : Spined i k ≡ Open = sym is ∙ none in cc both

module _ (heap : Heap) (state : State) (book : Book) (limits : IsHeap heap) (halves : HalvesStand heap state book) where
  -- a word that is somebody's has a place that a spot tells, since it stands before the next spine, or within the budget
  pub owned_place_fits_spot : (half offset : ℕ) → book.spine_owner half offset ≢ Open → FitsSpot (record { half = half; offset = offset })
  owned_place_fits_spot half offset some =
      let half_small : (next_spine heap state.words).half < 2 = omega arith in
      let offset_small : (next_spine heap state.words).offset < 2 ^ 31 = omega arith in
      elim (halves.before half offset some) as (λ _. FitsSpot (record { half = half; offset = offset })) [
        | inl here ↦ record { half_within = omega (arith, here.here, half_small); offset_within = omega (arith, here.before, offset_small) }
        | inr behind ↦ record { half_within = behind.a_half; offset_within = omega (arith, behind.before, limits.spine_fits) }
      ]

  -- so it is with the place of a kept array's spine
  pub spine_fits : SpinesStand heap state.words heap.seats (length book.made) (node_at (graph_of heap book.history) book.made) book.owner book.fragments book.spines book.spine_owner
      → (i : ℕ) → i < length book.made → IsKept book.owner book.fragments i → 0 < spine_words_of (node_at (graph_of heap book.history) book.made i) → FitsSpot (book.spines i)
  spine_fits stands i below kept some =
      let there = owned_place_fits_spot (book.spines i).half ((book.spines i).offset + 0) (spined_some _ i 0 (stands.kept i 0 below kept some)) in
      record { half_within = there.half_within; offset_within = omega (arith, there.offset_within) }

-- by the rule
pub array_spine_fits_spot : {heap : Heap} {state : State} {book : Book} → Rule heap state book → (i : ℕ) → i < length book.made → IsKept book.owner book.fragments i
    → (node_at (graph_of heap book.history) book.made i).array ≡ true → FitsSpot (book.spines i)
array_spine_fits_spot {heap} {state} {book} rule i below kept an_array =
    let stands = rule.heap_stands in
    spine_fits heap state book rule.machine.limits rule.space.halves stands.spines i below kept (array_has_spine_words _ (stands.objects.kept i below kept).sized an_array)
