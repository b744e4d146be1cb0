-- The array that begins with a fragment: its name, and the place of its spine.
use Rattle.std.proofs.Common.{◌≡◌, ℕ, ◌<◌, length, sym, ap, ◌∙◌}
use Rattle.core_rule.proofs.Terms.{spot_in, Heap, graph_of, Word, State, id_of, at, FitsSpot, Book, fragment_at, id_at, IsKept, node_at, Kept, BeginsArray, Rule}
use Rattle.core_rule.proofs.objects.SpinePlaces.{array_spine_fits_spot}
use Rattle.core_rule.proofs.ways.KeptWords.{name_tells_id, word_tells_spine_spot}

module _ (heap : Heap) (state : State) (book : Book) (rule : Rule heap state book) (f words : ℕ) (begins : BeginsArray (node_at (graph_of heap book.history) book.made) book.owner f words) where
  abbrev i : ℕ
  i = begins.index

  pub begun_is_kept_first : (i < length book.made) × IsKept book.owner book.fragments i × (0 < length (book.fragments i)) × (f ≡ fragment_at (book.fragments i) 0)
  begun_is_kept_first = rule.heap_stands.objects.back f i 0 begins.kept

  -- its name was found
  pub begun_names_object : id_of (at heap state.words (Word f 1)) ≡ id_at book.made i
  begun_names_object = ap (λ x. id_of (at heap state.words (Word x 1))) begun_is_kept_first.3
      ∙ name_tells_id heap state.words (graph_of heap book.history) book.made book.owner book.fragments rule.machine.limits rule.heap_stands.control_words rule.heap_stands.ids rule.heap_stands.objects
      i begun_is_kept_first.0 begun_is_kept_first.1

  pub begun_spine_fits : FitsSpot (book.spines i)
  begun_spine_fits = array_spine_fits_spot rule i begun_is_kept_first.0 begun_is_kept_first.1 begins.is_array

  -- and the place of its spine
  pub begun_tells_spine : spot_in (at heap state.words (Word f 2)) ≡ book.spines i
  begun_tells_spine = ap (λ x. spot_in (at heap state.words (Word x 2))) begun_is_kept_first.3
      ∙ word_tells_spine_spot heap state.words (graph_of heap book.history) book.made book.owner book.fragments rule.machine.limits rule.heap_stands.control_words rule.heap_stands.ids rule.heap_stands.objects
      i begun_is_kept_first.0 begun_is_kept_first.1 begins.is_array begun_spine_fits

  -- no other begins there
  pub begun_by_one_object : (j : ℕ) → fragment_at (book.fragments j) 0 ≡ f → IsKept book.owner book.fragments j → j ≡ i
  begun_by_one_object j same kept = index_of (sym (ap book.owner same) ∙ kept) begins.kept
    where
      index_of : book.owner f ≡ Kept j 0 → book.owner f ≡ Kept i 0 → j ≡ i
      index_of a b = cc
