-- The objects stand as before where no word of a kept fragment or of a kept array's spine changes, and the same fragments are kept.
use Rattle.std.proofs.Common.{◌≡◌, ◌≢◌, ℕ, ◌*◌, ◌<◌, ◌≤◌, List, length, ◌∙◌, subst, sym}
use Rattle.heap_words.specs.declared.spot.Spot.{Spot}
use Rattle.core_rule.proofs.Terms.{Heap, Id, Value, Graph, spine_words_of, Word, Control, tally, at, put, spine_place, NamesKept, IsKept, Objects, node_at, Owner, Free, Taken}
use Rattle.core_rule.proofs.Terms.{Borne, Kept, owner_after}
use Rattle.heap_model.specs.declared.id.Value.TheVariants as values
use Rattle.core_rule.proofs.words.Addresses.{word_same_after_control, other_fragment_word_stays, same_spines_after_control, same_spines_after_word}
use Rattle.core_rule.proofs.owners.Handed.{handed_cases}

module _ (heap : Heap) (words now : List ℕ) (g : Graph) (made : List Id) (owner : ℕ → Owner) (fragments : ℕ → List ℕ) (spines : ℕ → Spot) where
  -- no word of a kept fragment changes, nor one of a kept array's spine
  pub objects_with_same_words : ((f i k part : ℕ) → owner f ≡ Kept i k → part < 4 → at heap now (Word f part) ≡ at heap words (Word f part))
      → ((i j : ℕ) → i < length made → IsKept owner fragments i → j < spine_words_of (node_at g made i) → at heap now (spine_place (spines i) j) ≡ at heap words (spine_place (spines i) j))
      → Objects heap words g made owner fragments spines → Objects heap now g made owner fragments spines
  objects_with_same_words same same_spine old = record {
    kept = λ i below is. let one = old.kept i below is in record {
      sized = one.sized;
      whole = one.whole;
      owned = one.owned;
      stored = λ k part p number. same _ i k part (one.owned k p) number ∙ one.stored k part p number;
      listed = λ j p. same_spine i j below is p ∙ one.listed j p;
    };
    named = old.named;
    back = old.back;
    board = old.board;
  }

-- a control word changes
pub objects_after_control : (heap : Heap) (words : List ℕ) (g : Graph) (made : List Id) (owner : ℕ → Owner) (fragments : ℕ → List ℕ) (spines : ℕ → Spot) (group n : ℕ)
    → group < heap.groups → Objects heap words g made owner fragments spines → Objects heap (put heap words (Control group) n) g made owner fragments spines
objects_after_control heap words g made owner fragments spines group n below old =
    objects_with_same_words heap words (put heap words (Control group) n) g made owner fragments spines (λ f i k part is p. word_same_after_control heap words n group f part below)
    (λ i j less is within. same_spines_after_control heap words n group below _ _) old

-- a word of a fragment that no object keeps changes
pub objects_after_store : (heap : Heap) (words : List ℕ) (g : Graph) (made : List Id) (owner : ℕ → Owner) (fragments : ℕ → List ℕ) (spines : ℕ → Spot) (f part n : ℕ)
    → f < 16 * heap.groups → part < 4 → ((i k : ℕ) → owner f ≢ Kept i k) → Objects heap words g made owner fragments spines
    → Objects heap (put heap words (Word f part) n) g made owner fragments spines
objects_after_store heap words g made owner fragments spines f part n inside within free old =
    objects_with_same_words heap words (put heap words (Word f part) n) g made owner fragments spines
    (λ x i k p is number. other_fragment_word_stays heap words n f part x p within number (λ e. free i k (subst (λ y. owner y ≡ Kept i k) e is)))
    (λ i j less is there. same_spines_after_word heap words n f part inside within _ _) old

-- the same fragments are kept, at the same positions of the same objects
pub record SameKept (owner now : ℕ → Owner) : Type 0 where
  pub stays : (f i k : ℕ) → owner f ≡ Kept i k → now f ≡ Kept i k
  pub was : (f i k : ℕ) → now f ≡ Kept i k → owner f ≡ Kept i k

-- fragments that no object keeps go to an owner that keeps none
pub same_kept_after_handing : (o : Owner) (owner : ℕ → Owner) (fs : List ℕ) → ((i k : ℕ) → o ≢ Kept i k) → ((f i k : ℕ) → 1 ≤ tally f fs → owner f ≢ Kept i k)
    → SameKept owner (owner_after o owner fs)
same_kept_after_handing o owner fs none free = record {
  stays = λ f i k is. handed_cases (λ x. x ≡ Kept i k) o owner fs f (λ there. absurd (free f i k there is)) (λ away. is);
  was = λ f i k. handed_cases (λ x. x ≡ Kept i k → owner f ≡ Kept i k) o owner fs f (λ there is. absurd (none i k is)) (λ away is. is);
}

-- nobody's and a seat's fragments are no object's
pub taken_is_not_kept : (number i k : ℕ) → Taken number ≢ Kept i k
taken_is_not_kept number i k e = cc

pub borne_is_not_kept : (number i k : ℕ) → Borne number ≢ Kept i k
borne_is_not_kept number i k e = cc

pub free_is_not_kept : (i k : ℕ) → Free ≢ Kept i k
free_is_not_kept i k e = cc

-- so where fragments that a seat holds do, the same are kept
pub same_kept_after_taken_handed : (owner : ℕ → Owner) (number : ℕ) (fs : List ℕ) (o : Owner) → ((i k : ℕ) → o ≢ Kept i k) → ((f : ℕ) → 1 ≤ tally f fs → owner f ≡ Taken number) → SameKept owner (owner_after o owner fs)
same_kept_after_taken_handed owner number fs o none held = same_kept_after_handing o owner fs none (λ f i k there is. taken_is_not_kept number i k (sym (held f there) ∙ is))

module _ (owner now : ℕ → Owner) (same : SameKept owner now) (made : List Id) (fragments : ℕ → List ℕ) where
  pub names_kept_by_same_kept : (value : Value) → NamesKept made owner fragments value → NamesKept made now fragments value
  names_kept_by_same_kept values.Nil names = tt
  names_kept_by_same_kept (values.Number n) names = names
  names_kept_by_same_kept (values.Object id) names = (names.0, same.stays _ _ _ names.1)

  -- so the objects stand
  pub objects_with_same_kept : (spines : ℕ → Spot) (heap : Heap) (words : List ℕ) (g : Graph) → Objects heap words g made owner fragments spines → Objects heap words g made now fragments spines
  objects_with_same_kept spines heap words g old = record {
    kept = λ i below is. let one = old.kept i below (same.was _ _ _ is) in record {
      sized = one.sized;
      whole = one.whole;
      owned = λ k p. same.stays _ _ _ (one.owned k p);
      stored = one.stored;
      listed = one.listed;
    };
    named = λ i j below is cell there. let one = old.named i j below (same.was _ _ _ is) cell there in (names_kept_by_same_kept cell.value one.0, one.1);
    back = λ f i k is. let one = old.back f i k (same.was f i k is) in (one.0, same.stays _ _ _ one.1, one.2, one.3);
    board = old.board;
  }
