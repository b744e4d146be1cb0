-- The sources of kept objects are the same where their fragments' words are, and those of their spines.
use Rattle.std.proofs.Common.{◌≡◌, ℕ, suc, zero, ◌*◌, ◌<◌, ◌≤◌, Bool, true, false, List, length, sym, ap, ◌∙◌, subst, arith, refl}
use Rattle.heap_words.specs.declared.spot.Spot.{Spot}
use Rattle.core_rule.proofs.Terms.{spot_in, Heap, graph_of, Node, spine_words_of, Word, State, spine_words_in, at, spine_place, Book, fragment_at, IsKept, node_at, Kept, Rule}
use Rattle.core_rule.proofs.colours.LeadsFrames.{SameSources}
use Rattle.core_rule.proofs.colours.SourceCases.{TellsNoSpine}
use Rattle.core_rule.proofs.marking.ObjectEdges.{kept_tells_no_spine}
use Rattle.core_rule.proofs.objects.SpinePlaces.{array_spine_fits_spot}
use Rattle.core_rule.proofs.ways.KeptWords.{owned_within_heap, meta_tells_spine_words, word_tells_spine_spot}

module _ (heap : Heap) (state : State) (book : Book) (rule : Rule heap state book) (now : List ℕ)
    (parts : (f part : ℕ) → f < 16 * heap.groups → part < 4 → at heap now (Word f part) ≡ at heap state.words (Word f part))
    (spines : (i j : ℕ) → i < length book.made → IsKept book.owner book.fragments i → j < spine_words_of (node_at (graph_of heap book.history) book.made i)
    → at heap now (spine_place (book.spines i) j) ≡ at heap state.words (spine_place (book.spines i) j))
    (f i k : ℕ) (kept : book.owner f ≡ Kept i k) where
  there : (i < length book.made) × IsKept book.owner book.fragments i × (k < length (book.fragments i)) × (f ≡ fragment_at (book.fragments i) k)
  there = rule.heap_stands.objects.back f i k kept

  abbrev object : Node
  object = node_at (graph_of heap book.history) book.made i

  -- word j of the spine of the fragment is the same
  abbrev WordSame : ℕ → Type 0
  WordSame j = at heap now (spine_place (spot_in (at heap state.words (Word f 2))) j) ≡ at heap state.words (spine_place (spot_in (at heap state.words (Word f 2))) j)

  -- where it is an array's first
  array_word : (j : ℕ) → k ≡ 0 → object.array ≡ true → j < spine_words_in (at heap state.words (Word f 0)) → WordSame j
  array_word j first kind within =
      let head : f ≡ fragment_at (book.fragments i) 0 = there.3 ∙ ap (fragment_at (book.fragments i)) first in
      let stands = rule.heap_stands in
      let many : spine_words_in (at heap state.words (Word f 0)) ≡ spine_words_of object = ap (λ x. spine_words_in (at heap state.words (Word x 0))) head
      ∙ meta_tells_spine_words heap state.words (graph_of heap book.history) book.made book.owner book.fragments rule.machine.limits stands.control_words stands.ids stands.objects i there.0 there.1 kind in
      let place : spot_in (at heap state.words (Word f 2)) ≡ book.spines i = ap (λ x. spot_in (at heap state.words (Word x 2))) head
      ∙ word_tells_spine_spot heap state.words (graph_of heap book.history) book.made book.owner book.fragments rule.machine.limits stands.control_words stands.ids stands.objects i there.0 there.1 kind
      (array_spine_fits_spot rule i there.0 there.1 kind) in
      subst (λ (s : Spot). at heap now (spine_place s j) ≡ at heap state.words (spine_place s j)) (sym place) (spines i j there.0 there.1 (subst (λ n. j < n) many within))

  -- no other has a spine
  none_there : (j : ℕ) → (object.array ≡ true → 1 ≤ k) → j < spine_words_in (at heap state.words (Word f 0)) → WordSame j
  none_there j behind within = let none : TellsNoSpine heap state.words f = kept_tells_no_spine heap state book rule f i k kept behind in absurd (omega (arith, within, none))

  pub same_sources_of_kept : SameSources heap state.words now f
  same_sources_of_kept = record {
    parts = λ part below. parts f part (owned_within_heap heap state.words book.owner f i k rule.heap_stands.control_words kept) below;
    spine = λ j within. by object.array refl k refl j within;
  }
    where
      by : (array : Bool) → object.array ≡ array → (n : ℕ) → k ≡ n → (j : ℕ) → j < spine_words_in (at heap state.words (Word f 0)) → WordSame j
      by true kind zero first j within = array_word j first kind within
      by true kind (suc n) later j within = none_there j (λ array. omega (arith, later)) within
      by false kind n is j within = none_there j (λ array. absurd (cc (kind, array))) within
