-- Each fragment of a kept object but the first is led to by the one before it, or by the first one's spine.
use Rattle.std.specs.Prelude.{unwrap_or}
use Rattle.std.proofs.Common.{◌≡◌, ◌≢◌, ℕ, zero, suc, ◌+◌, ◌*◌, ◌<◌, true, false, List, length, Option, Some, None, ap, sym, ◌∙◌, subst, arith}
use Rattle.heap_words.specs.declared.spot.Spot.{Spot}
use Rattle.core_rule.proofs.Terms.{Heap, Id, Graph, spine_words_of, Word, at, spine_place, FitsSpot, pointer_in, payload_in, spine_words_in, fragment_at, WordPointsTo, Bits}
use Rattle.core_rule.proofs.Terms.{AreMade, Objects, IsKept, node_at, Owner, OwnersStand}
use Rattle.heap_model.specs.Heap.{IsHeap}
use Rattle.core_rule.proofs.colours.SourceCases.{leads_by_word, source_is_spine_pointer, spine_pointer_is_payload}
use Rattle.core_rule.proofs.objects.BoardFragment.{chain_fragment_is_not_zero}
use Rattle.core_rule.proofs.ways.KeptWords.{owned_within_heap, array_or_record_cases, object_has_fragment, link_tells_next_fragment, meta_tells_spine_words, word_tells_spine_spot, spine_word_tells_payload, payload_within_spine_words}

-- an option that stands for a number but 0 has it
some_lead : (o : Option ℕ) (n : ℕ) → unwrap_or o 0 ≡ n → n ≢ 0 → o ≡ Some n
some_lead None n is some = absurd (some (sym is))
some_lead (Some m) n is some = ap Some is

module _ (heap : Heap) (words : List ℕ) (g : Graph) (made : List Id) (owner : ℕ → Owner) (fragments : ℕ → List ℕ) {spines : ℕ → Spot}
    (limits : IsHeap heap) (bits : Bits heap words owner) (ids : AreMade g made) (owners : OwnersStand heap.seats owner) (objects : Objects heap words g made owner fragments spines)
    (i : ℕ) (below : i < length made) (kept : IsKept owner fragments i) where
  inside : (k : ℕ) → k < length (fragments i) → fragment_at (fragments i) k < 16 * heap.groups
  inside k within = owned_within_heap heap words owner (fragment_at (fragments i) k) i k bits ((objects.kept i below kept).owned k within)

  -- since a link of 0 leads nowhere, but no fragment behind the first is 0
  pub chain_leads_to_next : (node_at g made i).array ≡ false → (k : ℕ) → k + 1 < length (fragments i) → WordPointsTo heap words (fragment_at (fragments i) k) 0 (fragment_at (fragments i) (k + 1))
  chain_leads_to_next kind k more =
      leads_by_word heap words (fragment_at (fragments i) k) 0 (fragment_at (fragments i) (k + 1)) (inside k (omega (arith, more))) (omega arith)
      (some_lead (pointer_in 0 (at heap words (Word (fragment_at (fragments i) k) 0))) (fragment_at (fragments i) (k + 1))
      (link_tells_next_fragment heap words g made owner fragments limits bits ids objects i below kept kind k more)
      (chain_fragment_is_not_zero heap.seats owner owners heap words g made fragments objects i (k + 1) below kept more (omega arith)))

  -- an array's first fragment leads to each of the others by a word of its spine
  pub spine_leads_to_payload : (node_at g made i).array ≡ true → FitsSpot (spines i) → (j : ℕ) → j < spine_words_of (node_at g made i)
      → WordPointsTo heap words (fragment_at (fragments i) 0) (4 + j) (fragment_at (fragments i) (j + 1))
  spine_leads_to_payload kind fits j within =
      let first = fragment_at (fragments i) 0 in
      let many : j < spine_words_in (at heap words (Word first 0)) = subst (λ n. j < n) (sym (meta_tells_spine_words heap words g made owner fragments limits bits ids objects i below kept kind)) within in
      record {
        within = inside 0 (object_has_fragment heap words g made owner fragments limits bits ids objects i below kept);
        to = source_is_spine_pointer heap words first j ∙ spine_pointer_is_payload heap words first j many
            ∙ ap (λ s. Some (payload_in (at heap words (spine_place s j)))) (word_tells_spine_spot heap words g made owner fragments limits bits ids objects i below kept kind fits)
            ∙ ap Some (spine_word_tells_payload heap words g made owner fragments limits bits ids objects i below kept j within).1;
      }

  -- so what is true of the first, and goes on from each fragment to what it leads to, is true of all of them
  pub holds_of_all_fragments : (P : ℕ → Type 0) → ((node_at g made i).array ≡ true → FitsSpot (spines i)) → P (fragment_at (fragments i) 0)
      → ((f source x : ℕ) → P f → WordPointsTo heap words f source x → P x) → (k : ℕ) → k < length (fragments i) → P (fragment_at (fragments i) k)
  holds_of_all_fragments P fits first on zero within = first
  holds_of_all_fragments P fits first on (suc k) within =
      let next : k + 1 ≡ suc k = omega arith in
      subst (λ n. P (fragment_at (fragments i) n)) next
      (array_or_record_cases heap words g made owner fragments limits bits ids objects i below kept (P (fragment_at (fragments i) (k + 1)))
      (λ kind. on (fragment_at (fragments i) 0) (4 + k) (fragment_at (fragments i) (k + 1)) first
      (spine_leads_to_payload kind (fits kind) k (payload_within_spine_words heap words g made owner fragments limits bits ids objects i below kept kind k (omega (arith, within)))))
      (λ kind. on (fragment_at (fragments i) k) 0 (fragment_at (fragments i) (k + 1)) (holds_of_all_fragments P fits first on k (omega (arith, within))) (chain_leads_to_next kind k (omega (arith, within)))))
