-- The objects stand once an array has swung: its first fragment tells the new place of its spine, where the spine's words stand too.
use Rattle.std.proofs.Common.{◌≡◌, ◌≢◌, ℕ, ◌+◌, ◌*◌, ◌<◌, true, List, length, inl, inr, refl, sym, ap, ◌∙◌, subst, arith}
use Rattle.std.proofs.lemmas.Bool.{cases_eq}
use Rattle.std.proofs.lemmas.Bool.Decides.{eqb_tells}
use Rattle.heap_words.specs.declared.name.Name.{Name}
use Rattle.heap_words.specs.declared.spot.Spot.{Spot}
use Rattle.core_rule.proofs.Terms.{spot_word, Heap, Id, Graph, Node, spine_words_of, Word, at, put, table_length, spine_place, spine_word, fragment_at, id_at, object_head, Objects}
use Rattle.core_rule.proofs.Terms.{KeptObject, IsKept, name_of, node_at, array_object_word, object_word, Owner, Kept}
use Rattle.core_rule.proofs.copies.SwungWords.{swung_spines, swung_spine_is_copy, other_spine_stays_at_swing}
use Rattle.heap_model.proofs.graph_changes.Shapes.{node_cases}
use Rattle.core_rule.proofs.objects.ObjectWords.{object_word_is_spot}
use Rattle.core_rule.proofs.words.Addresses.{written_word_is_read, other_fragment_word_stays, other_part_stays, same_spines_after_word}

-- no word of an object but the third of its first fragment tells where its spine stands
words_but_place : (head : Id → ℕ) (name : Name) (object : Node) (from to : Spot) (fragments : List ℕ) (k part : ℕ) → (k ≡ 0 → part ≢ 2)
    → object_word head name object to fragments k part ≡ object_word head name object from fragments k part
unfolding array_object_word
words_but_place head name object from to fragments k part other = node_cases (λ o. object_word head name o to fragments k part ≡ object_word head name o from fragments k part)
    (λ cells. elim (eqb_tells k 0) [
      | inl first ↦ elim (eqb_tells part 2) [
        | inl third ↦ absurd (other first.1 third.1)
        | inr apart ↦ rw (first.0, apart.0) refl
      ]
      | inr behind ↦ rw behind.0 refl
    ])
    (λ cells. refl) object

module _ (heap : Heap) (words : List ℕ) (table : length words ≡ table_length heap) (g : Graph) (made : List Id) (owner : ℕ → Owner) (fragments : ℕ → List ℕ) (spines : ℕ → Spot)
    (i s : ℕ) (to : Spot) (inside : s < 16 * heap.groups) (kept : owner s ≡ Kept i 0) (first : s ≡ fragment_at (fragments i) 0) (kind : (node_at g made i).array ≡ true)
    (listed : (j : ℕ) → j < spine_words_of (node_at g made i) → at heap words (spine_place to j) ≡ spine_word (fragment_at (fragments i) (j + 1)))
    (old : Objects heap words g made owner fragments spines) where
  abbrev now : List ℕ
  now = put heap words (Word s 2) (spot_word to)

  abbrev places : ℕ → Spot
  places = swung_spines i to spines

  abbrev KeptNow : ℕ → Spot → Type 0
  KeptNow j spine = KeptObject heap now owner (object_head made fragments) j (id_at made j) (node_at g made j) (fragments j) spine

  -- the array's words
  array_swung : i < length made → IsKept owner fragments i → KeptNow i to
  array_swung below is = let one = old.kept i below is in record {
    sized = one.sized;
    whole = one.whole;
    owned = one.owned;
    stored = stored;
    listed = λ j within. same_spines_after_word heap words (spot_word to) s 2 inside (omega arith) to.half (to.offset + j) ∙ listed j within;
  }
    where
      apart_from : (k : ℕ) → owner (fragment_at (fragments i) k) ≡ Kept i k → fragment_at (fragments i) k ≡ s → k ≡ 0
      apart_from k owned same = position_of (sym (ap owner same) ∙ owned) kept
        where
          position_of : owner s ≡ Kept i k → owner s ≡ Kept i 0 → k ≡ 0
          position_of a b = cc

      stored : (k part : ℕ) → k < length (fragments i) → part < 4
          → at heap now (Word (fragment_at (fragments i) k) part) ≡ object_word (object_head made fragments) (name_of (id_at made i)) (node_at g made i) to (fragments i) k part
      stored k part within fits = elim (cases_eq (fragment_at (fragments i) k) s) [
        | inr other ↦ other_fragment_word_stays heap words (spot_word to) s 2 (fragment_at (fragments i) k) part (omega arith) fits other ∙ (old.kept i below is).stored k part within fits
            ∙ sym (words_but_place (object_head made fragments) (name_of (id_at made i)) (node_at g made i) (spines i) to (fragments i) k part
            (λ zero. absurd (other (ap (fragment_at (fragments i)) zero ∙ sym first))))
        | inl same ↦ elim (cases_eq part 2) [
          | inr other ↦ other_part_stays heap words (spot_word to) s 2 (fragment_at (fragments i) k) part other same ∙ (old.kept i below is).stored k part within fits
              ∙ sym (words_but_place (object_head made fragments) (name_of (id_at made i)) (node_at g made i) (spines i) to (fragments i) k part (λ zero. other))
          | inl third ↦
              let zero : k ≡ 0 = apart_from k ((old.kept i below is).owned k within) same in
              ap (at heap now) (cc (same, third)) ∙ written_word_is_read heap words (spot_word to) s 2 table inside (omega arith)
              ∙ sym (object_word_is_spot (object_head made fragments) (name_of (id_at made i)) to (fragments i) (node_at g made i) kind)
              ∙ sym (cc (zero, third))
        ]
      ]

  -- no word of another object
  other_swung : (j : ℕ) → j ≢ i → j < length made → IsKept owner fragments j → KeptNow j (spines j)
  other_swung j apart below is = let one = old.kept j below is in record {
    sized = one.sized;
    whole = one.whole;
    owned = one.owned;
    stored = λ k part within fits. other_fragment_word_stays heap words (spot_word to) s 2 (fragment_at (fragments j) k) part (omega arith) fits (λ same. apart (object_of k same (one.owned k within)))
        ∙ one.stored k part within fits;
    listed = λ k within. same_spines_after_word heap words (spot_word to) s 2 inside (omega arith) (spines j).half ((spines j).offset + k) ∙ one.listed k within;
  }
    where
      object_of : (k : ℕ) → fragment_at (fragments j) k ≡ s → owner (fragment_at (fragments j) k) ≡ Kept j k → j ≡ i
      object_of k same owned = number_of (sym (ap owner same) ∙ owned) kept
        where
          number_of : owner s ≡ Kept j k → owner s ≡ Kept i 0 → j ≡ i
          number_of a b = cc

  pub objects_with_moved_spine : Objects heap now g made owner fragments places
  objects_with_moved_spine = record {
    kept = λ j below is. elim (cases_eq j i) as (λ _. KeptNow j (places j)) [
      | inl same ↦ subst (λ n. KeptNow n (places n)) (sym same) (subst (KeptNow i) (sym (swung_spine_is_copy i to spines)) (array_swung (subst (λ n. n < length made) same below) (subst (IsKept owner fragments) same is)))
      | inr other ↦ subst (KeptNow j) (sym (other_spine_stays_at_swing i to spines j other)) (other_swung j other below is)
    ];
    named = old.named;
    back = old.back;
    board = old.board;
  }
