-- How whose the fragments are goes on by each kind of step.
use Rattle.std.proofs.Common.{◌≡◌, ℕ, ◌≤◌, List, inl, inr, refl, sym, ap, subst, arith}
use Rattle.core_rule.proofs.Terms.{tally, Colour, White, Grey, Black, Owner, Free, Taken, Borne, Kept, Dead, taken_bit, owner_after}
use Rattle.core_rule.proofs.book.Going.{OwnerGoes, stays, is_taken, is_given, is_borne, taken_becomes_kept, borne_becomes_kept, is_settled, is_freed, OwnersGoOn}
use Rattle.core_rule.proofs.marking.Settled.{settled_owner, settled_owners, settled_bit_same}
use Rattle.core_rule.proofs.owners.Handed.{handed_cases}
use Rattle.core_rule.proofs.owners.Keeping.{kept_by, kept_by_cases}
use Rattle.core_rule.proofs.owners.OwnerLemmas.{IsOwn, own_is_taken}

module _ (made : ℕ) (owner : ℕ → Owner) (fs : List ℕ) where
  -- some fragments go to another owner
  handed_goes : (o : Owner) → ((f : ℕ) → 1 ≤ tally f fs → OwnerGoes made (owner f) o) → (f : ℕ) → OwnerGoes made (owner f) (owner_after o owner fs f)
  handed_goes o goes f = handed_cases (OwnerGoes made (owner f)) o owner fs f (goes f) (λ away. stays (owner f))

  -- free ones are taken
  pub owners_go_on_by_claim : (number : ℕ) → ((f : ℕ) → 1 ≤ tally f fs → owner f ≡ Free) → OwnersGoOn made owner (owner_after (Taken number) owner fs)
  owners_go_on_by_claim number free = record {
    each = handed_goes (Taken number) (λ f there. subst (λ o. OwnerGoes made o (Taken number)) (sym (free f there)) (is_taken number));
    one_way = inr (λ f. handed_cases (λ o. taken_bit (owner f) ≤ taken_bit o) (Taken number) owner fs f (λ there. omega (arith, ap taken_bit (free f there))) (λ away. omega arith));
  }

  module _ (number : ℕ) (held : (f : ℕ) → 1 ≤ tally f fs → owner f ≡ Taken number) where
    -- a seat's are given back, or borne
    pub owners_go_on_by_giving : OwnersGoOn made owner (owner_after Free owner fs)
    owners_go_on_by_giving = record {
      each = handed_goes Free (λ f there. subst (λ o. OwnerGoes made o Free) (sym (held f there)) (is_given number));
      one_way = inl (λ f. handed_cases (λ o. taken_bit o ≤ taken_bit (owner f)) Free owner fs f (λ there. omega arith) (λ away. omega arith));
    }

    pub owners_go_on_by_birth : OwnersGoOn made owner (owner_after (Borne number) owner fs)
    owners_go_on_by_birth = record {
      each = handed_goes (Borne number) (λ f there. subst (λ o. OwnerGoes made o (Borne number)) (sym (held f there)) (is_borne number));
      one_way = inl (λ f. handed_cases (λ o. taken_bit o ≤ taken_bit (owner f)) (Borne number) owner fs f (λ there. omega (arith, ap taken_bit (held f there))) (λ away. omega arith));
    }

  -- those that are to be freed are freed
  pub owners_go_on_by_freeing : ((f : ℕ) → 1 ≤ tally f fs → (i : ℕ) × (k : ℕ) × (owner f ≡ Dead i k)) → OwnersGoOn made owner (owner_after Free owner fs)
  owners_go_on_by_freeing dead = record {
    each = handed_goes Free (λ f there. let is = dead f there in subst (λ o. OwnerGoes made o Free) (sym is.2) (is_freed is.0 is.1));
    one_way = inl (λ f. handed_cases (λ o. taken_bit o ≤ taken_bit (owner f)) Free owner fs f (λ there. omega arith) (λ away. omega arith));
  }

  -- a seat's are a new object's
  pub owners_go_on_by_keeping : (number : ℕ) → ((f : ℕ) → 1 ≤ tally f fs → IsOwn number (owner f)) → OwnersGoOn made owner (kept_by made fs owner)
  owners_go_on_by_keeping number own = record {
    each = λ f. kept_by_cases made fs owner (OwnerGoes made (owner f)) f (λ there. becomes_kept (owner f) _ (own f there)) (λ away. stays (owner f));
    one_way = inl (λ f. kept_by_cases made fs owner (λ o. taken_bit o ≤ taken_bit (owner f)) f (λ there. omega (arith, own_is_taken number (owner f) (own f there))) (λ away. omega arith));
  }
    where
      becomes_kept : (o : Owner) (k : ℕ) → IsOwn number o → OwnerGoes made o (Kept made k)
      becomes_kept (Taken r) k own = taken_becomes_kept r made k (omega arith)
      becomes_kept (Borne r) k own = borne_becomes_kept r made k (omega arith)
      becomes_kept _ k own = absurd (omega (arith, own))

-- marking ends
pub owners_go_on_by_settling : (made : ℕ) (owner : ℕ → Owner) (colour : ℕ → Colour) → OwnersGoOn made owner (settled_owners owner colour)
owners_go_on_by_settling made owner colour = record { each = λ f. goes (owner f) (colour f); one_way = inl (λ f. omega (arith, settled_bit_same taken_bit (λ i k. refl) (owner f) (colour f))) }
  where
    goes : (o : Owner) (c : Colour) → OwnerGoes made o (settled_owner o c)
    goes (Kept i k) White = is_settled i k
    goes (Kept i k) Grey = stays (Kept i k)
    goes (Kept i k) Black = stays (Kept i k)
    goes o c = stays o
