-- A spine word is stored: the spines of others stay, and the seat has stored one more.
use Rattle.std.proofs.Common.{◌≡◌, ◌≢◌, ℕ, ◌+◌, ◌*◌, ◌<◌, ◌≤◌, inl, inr, List, length, sym, ap, ◌∙◌, subst, arith}
use Rattle.std.proofs.lemmas.Bool.{cases_eq}
use Rattle.heap_words.specs.declared.spot.Spot.{Spot}
use Rattle.core_rule.proofs.Terms.{Heap, Node, spine_words_of, Seat, spine_need, at, put, spine_place, table_length, spine_word, fragment_at, IsKept, Owner, SpineOwner, Open}
use Rattle.core_rule.proofs.Terms.{Placed, Spined, Gone, SpinesStand, SpineInHand, HasPlace}
use Rattle.core_machine.specs.declared.table.address.Address.TheVariants as addresses
use Rattle.core_machine.proofs.table_lemmas.Addresses.{at-put_same}
use Rattle.core_rule.proofs.spines.SpineFrames.{SpineIsStored}
use Rattle.core_rule.proofs.words.Addresses.{at-put_apart, other_spine_word_stays}

-- whose a word is that isn't somebody else's
placed_apart : (o : SpineOwner) (number r j k : ℕ) → o ≡ Placed number j → o ≡ Placed r k → r ≡ number
placed_apart o number r j k here there = cc

placed_unspined : (o : SpineOwner) (number j i k : ℕ) → o ≡ Placed number j → o ≢ Spined i k
placed_unspined o number j i k here there = absurd (cc (here, there))

module _ (heap : Heap) (words : List ℕ) (spine_owner : ℕ → ℕ → SpineOwner) (number : ℕ) (seat : Seat) (hand : SpineInHand heap words spine_owner number seat)
    (has : HasPlace seat seat.point) (more : seat.listed < spine_need seat) (small : seat.spine.half < 2) (n : ℕ) where
  abbrev pub words_listed : List ℕ
  words_listed = put heap words (spine_place seat.spine seat.listed) n

  -- the word is the seat's
  mine : spine_owner seat.spine.half (seat.spine.offset + seat.listed) ≡ Placed number seat.listed
  mine = hand.placed has seat.listed more

  -- another word is as before
  other_word : (half offset : ℕ) → half < 2 → (half ≡ seat.spine.half → offset ≡ seat.spine.offset + seat.listed → ⊥)
      → at heap words_listed (addresses.Spine half offset) ≡ at heap words (addresses.Spine half offset)
  other_word half offset within apart = other_spine_word_stays heap words n seat.spine.half (seat.spine.offset + seat.listed) half offset small within apart

  -- so is one that isn't the seat's next
  pub unlisted_word_same_after_listing : (half offset : ℕ) → half < 2 → spine_owner half offset ≢ Placed number seat.listed
      → at heap words_listed (addresses.Spine half offset) ≡ at heap words (addresses.Spine half offset)
  unlisted_word_same_after_listing half offset within apart = other_word half offset within (λ a b. apart (ap (λ h. spine_owner h offset) a ∙ ap (λ o. spine_owner seat.spine.half o) b ∙ mine))

  -- what another seat has stored of its spine
  pub others_spine_is_stored : (r : ℕ) (other : Seat) → r ≢ number → SpineInHand heap words spine_owner r other → other.spine.half < 2 → (HasPlace other other.point → other.listed ≤ spine_need other)
      → SpineIsStored heap words_listed other
  others_spine_is_stored r other apart theirs within few placed j less =
      let its = theirs.placed placed j (omega (arith, less, few placed)) in
      unlisted_word_same_after_listing other.spine.half (other.spine.offset + j) within (λ own. apart (placed_apart _ number r seat.listed j own its)) ∙ theirs.stored placed j less

  module _ (halves : (half offset : ℕ) → spine_owner half offset ≢ Open → half < 2) where
    -- a word that is another party's, or that arrays have left
    pub others_word_same_after_listing : (half offset r k : ℕ) → r ≢ number → spine_owner half offset ≡ Placed r k → at heap words_listed (addresses.Spine half offset) ≡ at heap words (addresses.Spine half offset)
    others_word_same_after_listing half offset r k apart its = unlisted_word_same_after_listing half offset (halves half offset (λ none. absurd (cc (its, none)))) (λ own. apart (placed_apart _ number r seat.listed k own its))

    pub gone_word_same_after_listing : (half offset : ℕ) → spine_owner half offset ≡ Gone → at heap words_listed (addresses.Spine half offset) ≡ at heap words (addresses.Spine half offset)
    gone_word_same_after_listing half offset its = unlisted_word_same_after_listing half offset (halves half offset (λ none. absurd (cc (its, none)))) (λ own. absurd (cc (its, own)))

    -- and the spines of kept arrays
    pub array_word_same_after_listing : (seats made : ℕ) (nodes : ℕ → Node) (owner : ℕ → Owner) (fragments : ℕ → List ℕ) (spines : ℕ → Spot) → SpinesStand heap words seats made nodes owner fragments spines spine_owner
        → (i j : ℕ) → i < made → IsKept owner fragments i → j < spine_words_of (nodes i) → at heap words_listed (spine_place (spines i) j) ≡ at heap words (spine_place (spines i) j)
    array_word_same_after_listing seats made nodes owner fragments spines stands i j below is within =
        let its = stands.kept i j below is within in
        unlisted_word_same_after_listing (spines i).half ((spines i).offset + j) (halves (spines i).half ((spines i).offset + j) (λ none. absurd (cc (its, none)))) (λ own. placed_unspined _ number seat.listed i j own its)

  -- the seat has stored one more
  pub spine_in_hand_after_listing : (new : Seat) → length words ≡ table_length heap → seat.spine.offset + seat.listed < 2 * heap.spine → n ≡ spine_word (fragment_at seat.body (seat.listed + 1))
      → HasPlace new new.point → spine_need new ≡ spine_need seat → new.spine ≡ seat.spine → new.body ≡ seat.body → new.listed ≡ seat.listed + 1
      → SpineInHand heap words_listed spine_owner number new
  spine_in_hand_after_listing new table inside is new_has need spine body listed = record {
    placed = λ placed. rw (need, spine) (hand.placed has);
    own = λ half offset j e. let one = hand.own half offset j e in (new_has, rw need one.1, rw spine one.2);
    stored = λ placed j less. rw (spine, body) (by j (omega (arith, less, listed)));
  }
    where
      by : (j : ℕ) → j < seat.listed + 1 → at heap words_listed (spine_place seat.spine j) ≡ spine_word (fragment_at seat.body (j + 1))
      by j less = elim (cases_eq j seat.listed) as (λ _. at heap words_listed (spine_place seat.spine j) ≡ spine_word (fragment_at seat.body (j + 1))) [
        | inl last ↦ subst (λ x. at heap words_listed (spine_place seat.spine x) ≡ spine_word (fragment_at seat.body (x + 1))) (sym last)
            (at-put_same heap words (spine_place seat.spine seat.listed) n table (small, inside) ∙ is)
        | inr before ↦ other_word seat.spine.half (seat.spine.offset + j) small (λ same e. before (omega (arith, e))) ∙ hand.stored has j (omega (arith, less, before))
      ]

  -- the spot and the budget are as before
  pub spot_same_after_listing : at heap words_listed addresses.Spot ≡ at heap words addresses.Spot
  spot_same_after_listing = at-put_apart heap words (spine_place seat.spine seat.listed) addresses.Spot n (λ e. omega (arith, e))

  pub budget_same_after_listing : at heap words_listed addresses.Budget ≡ at heap words addresses.Budget
  budget_same_after_listing = at-put_apart heap words (spine_place seat.spine seat.listed) addresses.Budget n (λ e. omega (arith, e))
