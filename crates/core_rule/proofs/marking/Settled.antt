-- Whose each fragment is once marking has ended: what is white of a kept object is to be freed.
use Rattle.std.proofs.Common.{◌≡◌, ◌≢◌, ◌⊎◌, ℕ, inl, inr, refl, sym, subst}
use Rattle.core_rule.proofs.Terms.{Colour, White, Grey, Black, Owner, Borne, Kept, Dead, born_bit}

-- what becomes of a fragment by its colour
abbrev pub settled_owner : Owner → Colour → Owner
settled_owner (Kept i k) White = Dead i k
settled_owner o colour = o

-- whose each is then
abbrev pub settled_owners : (ℕ → Owner) → (ℕ → Colour) → ℕ → Owner
settled_owners owner colour f = settled_owner (owner f) (colour f)

-- what holds of a fragment that is kept or to be freed, whichever it is, goes on to hold
pub holds_of_settled_owner : (P : Owner → Type 0) → ((i k : ℕ) → P (Kept i k) → P (Dead i k)) → (o : Owner) (c : Colour) → P o → P (settled_owner o c)
holds_of_settled_owner P more (Kept i k) White holds = more i k holds
holds_of_settled_owner P more (Kept i k) Grey holds = holds
holds_of_settled_owner P more (Kept i k) Black holds = holds
holds_of_settled_owner P more _ c holds = holds

-- so does a bit that doesn't tell the two apart
pub settled_bit_same : (bit : Owner → ℕ) → ((i k : ℕ) → bit (Dead i k) ≡ bit (Kept i k)) → (o : Owner) (c : Colour) → bit (settled_owner o c) ≡ bit o
settled_bit_same bit same (Kept i k) White = same i k
settled_bit_same bit same (Kept i k) Grey = refl
settled_bit_same bit same (Kept i k) Black = refl
settled_bit_same bit same _ c = refl

-- what is kept then was, and is marked
pub settled_kept_was_marked : (o : Owner) (c : Colour) (i k : ℕ) → settled_owner o c ≡ Kept i k → (o ≡ Kept i k) × (c ≢ White)
settled_kept_was_marked (Kept j m) Grey i k is = (is, λ white. cc)
settled_kept_was_marked (Kept j m) Black i k is = (is, λ white. cc)
settled_kept_was_marked _ c i k is = absurd (cc)

-- and what was kept and is marked is kept
pub marked_kept_stays_kept : (o : Owner) (c : Colour) (i k : ℕ) → o ≡ Kept i k → c ≢ White → settled_owner o c ≡ Kept i k
marked_kept_stays_kept o c i k is marked = subst (λ x. settled_owner x c ≡ Kept i k) (sym is) (by c marked)
  where
    by : (colour : Colour) → colour ≢ White → settled_owner (Kept i k) colour ≡ Kept i k
    by White some = absurd (some refl)
    by Grey some = refl
    by Black some = refl

-- what is to be freed then is white, or was to be freed
pub settled_dead_was_or_white : (o : Owner) (c : Colour) (i k : ℕ) → settled_owner o c ≡ Dead i k → (o ≡ Dead i k) ⊎ (c ≡ White)
settled_dead_was_or_white (Kept j m) White i k is = inr refl
settled_dead_was_or_white (Dead j m) c i k is = inl is
settled_dead_was_or_white _ c i k is = absurd (cc)

-- or was kept
pub settled_dead_was_or_kept : (o : Owner) (c : Colour) (i k : ℕ) → settled_owner o c ≡ Dead i k → (o ≡ Dead i k) ⊎ (o ≡ Kept i k)
settled_dead_was_or_kept (Kept j m) White i k is = inr (cc)
settled_dead_was_or_kept (Dead j m) c i k is = inl is
settled_dead_was_or_kept _ c i k is = absurd (cc)

-- what a seat has borne then it has borne
pub settled_borne_was_borne : (o : Owner) (c : Colour) (number : ℕ) → settled_owner o c ≡ Borne number → o ≡ Borne number
settled_borne_was_borne (Borne r) c number is = is
settled_borne_was_borne (Kept j m) White number is = absurd (cc)
settled_borne_was_borne _ c number is = absurd (cc)

-- a white born fragment is to be freed, where no seat has borne it
pub settled_white_is_dead : (o : Owner) → ((number : ℕ) → o ≢ Borne number) → born_bit (settled_owner o White) ≡ 1 → (i : ℕ) × (k : ℕ) × (settled_owner o White ≡ Dead i k)
settled_white_is_dead (Kept i k) others born = (i, k, refl)
settled_white_is_dead (Dead i k) others born = (i, k, refl)
settled_white_is_dead (Borne number) others born = absurd (others number refl)
settled_white_is_dead _ others born = absurd (cc)
