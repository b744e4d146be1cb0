-- Fragments that are a seat's or a kept object's.
use Rattle.std.proofs.Common.{◌≡◌, ◌≢◌, ℕ, ◌*◌, ◌<◌, inl, inr, List, refl, ap, ◌∙◌, subst, arith}
use Rattle.std.proofs.lemmas.Bool.{cases_lt}
use Rattle.core_rule.proofs.Terms.{Heap, Id, Bits, Owner, Free, Taken, Borne, Kept, Dead, taken_bit}
use Rattle.core_rule.proofs.owners.OwnerLemmas.{IsOwn}
use Rattle.core_rule.proofs.ways.LoadedObjects.{KeptHead}

-- the fragment is a seat's, or one of a kept object
abbrev pub IsAlive : Owner → Type 0
IsAlive Free = ⊥
IsAlive (Taken number) = Unit {0}
IsAlive (Borne number) = Unit {0}
IsAlive (Kept i k) = Unit {0}
IsAlive (Dead i k) = ⊥

-- what a seat has is
pub own_is_alive : (number : ℕ) (o : Owner) → IsOwn number o → IsAlive o
own_is_alive number (Taken r) own = tt
own_is_alive number (Borne r) own = tt
own_is_alive number (Kept i k) own = tt
own_is_alive number Free own = absurd (omega (arith, own))
own_is_alive number (Dead i k) own = absurd (omega (arith, own))

-- so is what an object keeps
pub kept_is_alive : (o : Owner) (i k : ℕ) → o ≡ Kept i k → IsAlive o
kept_is_alive o i k is = rw is tt

pub head_is_alive : (made : List Id) (owner : ℕ → Owner) (fragments : ℕ → List ℕ) (f : ℕ) → KeptHead made owner fragments f → IsAlive (owner f)
head_is_alive made owner fragments f head = kept_is_alive (owner f) head.index 0 (ap owner head.is ∙ head.kept)

-- it isn't to be freed
pub alive_not_dead : (o : Owner) (i k : ℕ) → IsAlive o → o ≢ Dead i k
alive_not_dead o i k alive dead = subst IsAlive dead alive

-- it is taken
pub alive_is_taken : (o : Owner) → IsAlive o → taken_bit o ≡ 1
alive_is_taken (Taken number) alive = refl
alive_is_taken (Borne number) alive = refl
alive_is_taken (Kept i k) alive = refl
alive_is_taken Free alive = absurd alive
alive_is_taken (Dead i k) alive = absurd alive

-- and one of the heap's
pub alive_within_heap : (heap : Heap) (words : List ℕ) (owner : ℕ → Owner) (f : ℕ) → Bits heap words owner → IsAlive (owner f) → f < 16 * heap.groups
alive_within_heap heap words owner f bits alive = elim (cases_lt f (16 * heap.groups)) as (λ _. f < 16 * heap.groups) [
  | inl below ↦ below
  | inr past ↦ absurd (subst IsAlive (bits.outside f past) alive)
]
