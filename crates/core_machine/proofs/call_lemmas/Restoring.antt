-- The words of a table while a call has claimed what is in its hand, and that giving it all back leaves them as they were.
use Rattle.std.proofs.Common.{◌≡◌, ◌≢◌, ℕ, ◌/◌, ◌^◌, ◌<◌, ◌⊎◌, List, [], ◌∷◌, ◌++◌, length, refl, sym, ap, subst, ◌∙◌, inl, inr, bit_or, append-nil, eq-eqb, arith}
use Rattle.std.specs.List.{All}
use Rattle.std.proofs.lemmas.Bool.{ne_eqb}
use Rattle.std.proofs.lemmas.List.{nil_from_length}
use Rattle.std.proofs.lemmas.Bool.Decides.{eqb_tells}
use Rattle.std.proofs.lemmas.List.Elements.{filter-append, All-head, All-tail}
use Rattle.core_machine.proofs.Terms.{Heap, Address, Phase, Answer, Budget, Control, Word, clear_in, inside_group, outside_group, in_group, mask_of, at, put, InTable, table_length}
use Rattle.core_machine.proofs.Terms.{SameTable, all_taken, word_without_taken}
use Rattle.core_machine.specs.declared.table.address.Address.TheVariants.{Spot, Spine}
use Rattle.core_machine.proofs.table_lemmas.Addresses.{at-put_same, at-put_other}
use Rattle.core_machine.proofs.table_lemmas.Masks.{full_group_stays_when_claimed, give_back_undoes_claim}
use Rattle.core_machine.proofs.table_lemmas.Free.{claimed_group_has_none_clear}
use Rattle.core_machine.proofs.table_lemmas.Owned.{clear_is_of_group}

-- the fragments of a group that the hand has, or not
abbrev pub IsUntouched : ℕ → ℕ → List ℕ → Type 0
IsUntouched old now group_hand = (group_hand ≡ []) × (now ≡ old)

-- a group whose clear fragments were claimed, and which are in the hand
abbrev pub IsClaimed : ℕ → ℕ → ℕ → List ℕ → Type 0
IsClaimed group old now group_hand = (0 < length group_hand) × (clear_in group now ≡ []) × (old ≡ word_without_taken (mask_of group_hand) now)

-- the words now are the old ones, but for the claims of what is in the hand
pub record Claims (heap : Heap) (old now hand : List ℕ) : Type 0 where
  pub controls : (g : ℕ) → g < heap.groups
      → IsUntouched (at heap old (Control g)) (at heap now (Control g)) (inside_group g hand) ⊎ IsClaimed g (at heap old (Control g)) (at heap now (Control g)) (inside_group g hand)
  pub others : (a : Address) → InTable heap a → ((g : ℕ) → a ≢ Control g) → at heap now a ≡ at heap old a

-- nothing is claimed yet
pub nothing_is_claimed : (heap : Heap) (words : List ℕ) → Claims heap words words []
nothing_is_claimed heap words = record { controls = λ g within. inl (refl, refl); others = λ a within other. refl }

-- all fragments of a group are of it, and none of another
pub inside_own_group_is_all : (g : ℕ) (fragments : List ℕ) → All (λ f. f / 16 ≡ g) fragments → inside_group g fragments ≡ fragments
inside_own_group_is_all g [] each = refl
inside_own_group_is_all g (f ∷ more) each =
    rw (eq-eqb (f / 16) g (All-head (λ f. f / 16 ≡ g) f more each)) (ap (λ (l : List ℕ). f ∷ l) (inside_own_group_is_all g more (All-tail (λ f. f / 16 ≡ g) f more each)))

pub inside_other_group_is_empty : (g k : ℕ) (fragments : List ℕ) → g ≢ k → All (λ f. f / 16 ≡ g) fragments → inside_group k fragments ≡ []
inside_other_group_is_empty g k [] other each = refl
inside_other_group_is_empty g k (f ∷ more) other each =
    let here = All-head (λ f. f / 16 ≡ g) f more each in
    rw (ne_eqb (f / 16) k (λ e. other (sym here ∙ e))) (inside_other_group_is_empty g k more other (All-tail (λ f. f / 16 ≡ g) f more each))

-- what is inside one group stays where another group's is left out
pub inside_group_stays_without_other : (g k : ℕ) (fragments : List ℕ) → k ≢ g → inside_group k (outside_group g fragments) ≡ inside_group k fragments
inside_group_stays_without_other g k [] other = refl
inside_group_stays_without_other g k (f ∷ more) other =
    let rest = inside_group_stays_without_other g k more other in
    elim (eqb_tells (f / 16) g) as (λ _. inside_group k (outside_group g (f ∷ more)) ≡ inside_group k (f ∷ more)) [
      | inl here ↦ rw (here.0, ne_eqb (f / 16) k (λ e. other (sym e ∙ here.1))) rest
      | inr there ↦ rw there.0 (elim (eqb_tells (f / 16) k) as (λ _. inside_group k (f ∷ outside_group g more) ≡ inside_group k (f ∷ more)) [ inl same ↦ rw same.0 (ap (λ (l : List ℕ). f ∷ l) rest) | inr away ↦ rw away.0 rest ])
    ]

-- nothing of a group stays where it is left out
inside_group-outside_same : (g : ℕ) (fragments : List ℕ) → inside_group g (outside_group g fragments) ≡ []
inside_group-outside_same g [] = refl
inside_group-outside_same g (f ∷ more) =
    let rest = inside_group-outside_same g more in
    elim (eqb_tells (f / 16) g) as (λ _. inside_group g (outside_group g (f ∷ more)) ≡ []) [ inl here ↦ rw here.0 rest | inr there ↦ rw (there.0, there.0) rest ]

-- the group that was claimed
more_here : (g old n : ℕ) (group_hand : List ℕ) → old < 2 ^ 64 → IsUntouched old n group_hand ⊎ IsClaimed g old n group_hand
    → IsUntouched old (bit_or n all_taken) (group_hand ++ clear_in g n) ⊎ IsClaimed g old (bit_or n all_taken) (group_hand ++ clear_in g n)
more_here g old n group_hand small (inl untouched) =
    elim (eqb_tells (length (clear_in g n)) 0) as (λ _. IsUntouched old (bit_or n all_taken) (group_hand ++ clear_in g n) ⊎ IsClaimed g old (bit_or n all_taken) (group_hand ++ clear_in g n)) [
      | inl none ↦
          let empty : clear_in g n ≡ [] = nil_from_length (clear_in g n) none.1 in
          inl (rw (untouched.0, empty) refl, full_group_stays_when_claimed g n empty ∙ untouched.1)
      | inr some ↦
          let fits : n < 2 ^ 64 = omega (arith, untouched.1) in
          inr (rw untouched.0 (omega (arith, some.1)), claimed_group_has_none_clear g n, rw untouched.0 (sym untouched.1 ∙ sym (give_back_undoes_claim g n fits)))
    ]
more_here g old n group_hand small (inr claimed) =
    inr (rw (claimed.1, append-nil group_hand) claimed.0, claimed_group_has_none_clear g n, rw (claimed.1, append-nil group_hand, full_group_stays_when_claimed g n claimed.1) claimed.2)

-- a group was claimed
pub claims_one_group_more : (heap : Heap) (old now hand : List ℕ) (group : ℕ) → length now ≡ table_length heap → group < heap.groups
    → ((a : Address) → InTable heap a → at heap old a < 2 ^ 64) → Claims heap old now hand
    → Claims heap old (put heap now (Control group) (bit_or (at heap now (Control group)) all_taken)) (hand ++ clear_in group (at heap now (Control group)))
claims_one_group_more heap old now hand group table within small claims =
    let n = at heap now (Control group) in
    let after = put heap now (Control group) (bit_or n all_taken) in
    let got = clear_in group n in
    record {
      controls = λ g below. elim (eqb_tells g group)
          as (λ _. IsUntouched (at heap old (Control g)) (at heap after (Control g)) (inside_group g (hand ++ got)) ⊎ IsClaimed g (at heap old (Control g)) (at heap after (Control g)) (inside_group g (hand ++ got))) [
            | inl here ↦
                let same : inside_group group (hand ++ got) ≡ inside_group group hand ++ got =
                filter-append (in_group group) hand got ∙ ap (λ (l : List ℕ). inside_group group hand ++ l) (inside_own_group_is_all group got (clear_is_of_group group n)) in
                subst (λ (k : ℕ). IsUntouched (at heap old (Control k)) (at heap after (Control k)) (inside_group k (hand ++ got)) ⊎ IsClaimed k (at heap old (Control k)) (at heap after (Control k)) (inside_group k (hand ++ got))) (sym here.1)
                (rw (same, at-put_same heap now (Control group) (bit_or n all_taken) table within)
                (more_here group (at heap old (Control group)) n (inside_group group hand) (small (Control group) within) (claims.controls group within)))
            | inr there ↦
                let same : inside_group g (hand ++ got) ≡ inside_group g hand =
                filter-append (in_group g) hand got ∙ ap (λ (l : List ℕ). inside_group g hand ++ l) (inside_other_group_is_empty group g got (λ e. there.1 (sym e)) (clear_is_of_group group n)) ∙ append-nil (inside_group g hand) in
                rw (same, at-put_other heap now (Control group) (Control g) (bit_or n all_taken) within below (λ e. there.1 (cc e))) (claims.controls g below)
          ];
      others = λ a there other. at-put_other heap now (Control group) a (bit_or n all_taken) within there (other group) ∙ claims.others a there other;
    }

-- the group that was given back
less_here : (g old n : ℕ) (group_hand : List ℕ) → 0 < length group_hand → IsUntouched old n group_hand ⊎ IsClaimed g old n group_hand → word_without_taken (mask_of group_hand) n ≡ old
less_here g old n group_hand some (inl untouched) = absurd (omega (arith, ap length untouched.0))
less_here g old n group_hand some (inr claimed) = sym claimed.2

-- the fragments of a group were given back
pub claims_one_group_less : (heap : Heap) (old now hand : List ℕ) (group : ℕ) → length now ≡ table_length heap → group < heap.groups
    → 0 < length (inside_group group hand) → Claims heap old now hand
    → Claims heap old (put heap now (Control group) (word_without_taken (mask_of (inside_group group hand)) (at heap now (Control group)))) (outside_group group hand)
claims_one_group_less heap old now hand group table within some claims =
    let n = at heap now (Control group) in
    let word = word_without_taken (mask_of (inside_group group hand)) n in
    let after = put heap now (Control group) word in
    record {
      controls = λ g below. elim (eqb_tells g group)
          as (λ _. IsUntouched (at heap old (Control g)) (at heap after (Control g)) (inside_group g (outside_group group hand)) ⊎ IsClaimed g (at heap old (Control g)) (at heap after (Control g)) (inside_group g (outside_group group hand))) [
            | inl here ↦
                subst (λ (k : ℕ). IsUntouched (at heap old (Control k)) (at heap after (Control k)) (inside_group k (outside_group group hand)) ⊎ IsClaimed k (at heap old (Control k)) (at heap after (Control k)) (inside_group k (outside_group group hand))) (sym here.1)
                (inl (
                  inside_group-outside_same group hand,
                  at-put_same heap now (Control group) word table within ∙ less_here group (at heap old (Control group)) n (inside_group group hand) some (claims.controls group within),
                ))
            | inr there ↦
                rw (inside_group_stays_without_other group g hand there.1, at-put_other heap now (Control group) (Control g) word within below (λ e. there.1 (cc e))) (claims.controls g below)
          ];
      others = λ a there other. at-put_other heap now (Control group) a word within there (other group) ∙ claims.others a there other;
    }

-- once nothing is in the hand, every word is as it was
pub same_table_without_claims : (heap : Heap) (old now : List ℕ) → Claims heap old now [] → SameTable heap old now
same_table_without_claims heap old now claims (Control g) within = elim (claims.controls g within) as (λ _. at heap now (Control g) ≡ at heap old (Control g)) [ inl same ↦ same.1 | inr claimed ↦ absurd (omega (arith, claimed.0)) ]
same_table_without_claims heap old now claims Phase within = claims.others Phase within (λ g e. cc)
same_table_without_claims heap old now claims (Answer s) within = claims.others (Answer s) within (λ g e. cc)
same_table_without_claims heap old now claims Budget within = claims.others Budget within (λ g e. cc)
same_table_without_claims heap old now claims Spot within = claims.others Spot within (λ g e. cc)
same_table_without_claims heap old now claims (Word f j) within = claims.others (Word f j) within (λ g e. cc)
same_table_without_claims heap old now claims (Spine half offset) within = claims.others (Spine half offset) within (λ g e. cc)
