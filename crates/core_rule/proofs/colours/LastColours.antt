-- The colours when the last fragments of an object are born: the object has one colour.
use Rattle.std.specs.List.{list_all}
use Rattle.std.proofs.Common.{◌≡◌, ◌≢◌, ℕ, ◌+◌, ◌≤◌, inl, inr, Bool, true, List, length, refl, sym, ap, ◌∙◌, subst, arith}
use Rattle.core_rule.proofs.Terms.{Heap, in_group, inside_group, tally, Colour, fragment_at, IsMarked, IsBetween, Coloured, Holding, Owner, Taken, Borne, Kept, born_bit, bears_bit}
use Rattle.core_rule.proofs.colours.BirthAhead.{owner_is_borne}
use Rattle.core_rule.proofs.colours.Births.{birth_colour, AreBorne}
use Rattle.core_rule.proofs.colours.BirthColours.{painted, painted_member_has_colour, painted_other_keeps_colour}
use Rattle.core_rule.proofs.hand.Bodies.{body_tally_is_hand_and_borne}
use Rattle.core_rule.proofs.owners.Handed.{none_or_some}
use Rattle.core_rule.proofs.hand.HandMoves.{hand_fragment_is_taken}
use Rattle.core_rule.proofs.owners.Keeping.{kept_by, with_object, new_object_has_body, old_object_keeps_fragments, kept_by_cases, kept_is_body_or_before}
use Rattle.core_rule.proofs.owners.KeptOwners.{born_bit_grows_when_kept}
use Rattle.core_rule.proofs.lists.Members.{element_is_tallied}
use Rattle.core_rule.proofs.lists.GroupLists.{filter_keeps_all, zero_where_not_positive}
use Rattle.core_rule.proofs.lists.Tallies.{one_at_same_is_one}

module _ (owner : ℕ → Owner) (colour : ℕ → Colour) (number : ℕ) (reserve hand body : List ℕ) (holding : Holding owner number reserve hand body) (some : 1 ≤ length body)
    (g n : ℕ) (all : list_all (in_group g) hand ≡ true) (black : Bool) (births : AreBorne owner colour number black) where
  abbrev group_hand : List ℕ
  group_hand = inside_group g hand

  abbrev later : ℕ → Owner
  later = kept_by n body owner

  abbrev borne : ℕ → Colour
  borne = painted (birth_colour black) colour group_hand

  group_hand_is_whole : (f : ℕ) → tally f group_hand ≡ tally f hand
  group_hand_is_whole f = ap (tally f) (filter_keeps_all (in_group g) hand all)

  -- the hand's fragments are born
  pub born_bit_after_last_birth : (f : ℕ) → born_bit (later f) ≡ born_bit (owner f) + tally f group_hand
  born_bit_after_last_birth f = omega (arith, born_bit_grows_when_kept owner number reserve hand body holding some n f, group_hand_is_whole f)

  -- and each of the body has the colour of the births
  pub body_has_birth_colour : (f : ℕ) → 1 ≤ tally f body → borne f ≡ birth_colour black
  body_has_birth_colour f there = elim (none_or_some (tally f group_hand)) as (λ _. borne f ≡ birth_colour black) [
    | inl none ↦
        let before : owner f ≡ Borne number = owner_is_borne number (owner f) (omega (arith, there, none, group_hand_is_whole f, body_tally_is_hand_and_borne owner number reserve hand body holding some f)) in
        painted_other_keeps_colour (birth_colour black) colour group_hand f none ∙ births f before
    | inr now ↦ painted_member_has_colour (birth_colour black) colour group_hand f now
  ]

  -- nothing is borne by the seat any more
  pub own_borne_has_birth_colour : (f : ℕ) → later f ≡ Borne number → borne f ≡ birth_colour black
  own_borne_has_birth_colour f = kept_by_cases n body owner (λ o. o ≡ Borne number → borne f ≡ birth_colour black) f
      (λ there is. body_has_birth_colour f there)
      (λ away is. let bit : bears_bit number (owner f) ≡ 1 = ap (bears_bit number) is ∙ one_at_same_is_one number number refl in
      absurd (omega (arith, away, bit, body_tally_is_hand_and_borne owner number reserve hand body holding some f)))

  -- what others bear stays
  pub other_borne_stays : (r f : ℕ) → later f ≡ Borne r → (owner f ≡ Borne r) × (borne f ≡ colour f)
  other_borne_stays r f = kept_by_cases n body owner (λ o. o ≡ Borne r → (owner f ≡ Borne r) × (borne f ≡ colour f)) f
      (λ there is. absurd (cc))
      (λ away is. (is, painted_other_keeps_colour (birth_colour black) colour group_hand f (omega (arith, away, group_hand_is_whole f, body_tally_is_hand_and_borne owner number reserve hand body holding some f))))

  module _ (heap : Heap) (words : List ℕ) (fragments : ℕ → List ℕ) (phase : ℕ) (stands : Coloured heap words owner colour fragments phase)
      (marks : (f : ℕ) → IsMarked colour f → IsMarked borne f) (old : (f i k : ℕ) → owner f ≡ Kept i k → i ≢ n) where
    -- a kept object with a marked fragment is marked by its first
    pub marked_object_has_marked_first : IsBetween 1 5 phase → (f i k : ℕ) → later f ≡ Kept i k → IsMarked borne f → IsMarked borne (fragment_at (with_object fragments n body i) 0)
    marked_object_has_marked_first marking f i k keeps marked = elim (kept_is_body_or_before n body owner f i k keeps) [
      | inl new ↦
          let f_in : 1 ≤ tally f body = subst (λ x. 1 ≤ tally x body) (sym new.2) (element_is_tallied body k new.1) in
          let head_in : 1 ≤ tally (fragment_at body 0) body = element_is_tallied body 0 some in
          let coloured : IsMarked borne (fragment_at body 0) = λ white. marked (body_has_birth_colour f f_in ∙ sym (body_has_birth_colour (fragment_at body 0) head_in) ∙ white) in
          subst (λ x. IsMarked borne (fragment_at (with_object fragments n body x) 0)) (sym new.0) (subst (λ fs. IsMarked borne (fragment_at fs 0)) (sym (new_object_has_body fragments n body)) coloured)
      | inr before ↦
          let out : tally f group_hand ≡ 0 = zero_where_not_positive (tally f group_hand) (λ there. apart (hand_fragment_is_taken owner number reserve hand body holding f (omega (arith, there, group_hand_is_whole f))) before) in
          let was : IsMarked colour f = λ white. marked (painted_other_keeps_colour (birth_colour black) colour group_hand f out ∙ white) in
          subst (λ fs. IsMarked borne (fragment_at fs 0)) (sym (old_object_keeps_fragments fragments n body i (old f i k before))) (marks _ (stands.first marking f i k before was))
    ]
      where
        apart : owner f ≡ Taken number → owner f ≡ Kept i k → ⊥
        apart held kept = let both : Taken number ≡ Kept i k = sym held ∙ kept in absurd (cc)
