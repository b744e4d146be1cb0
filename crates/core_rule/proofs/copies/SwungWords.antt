-- Whose the spine words are once an array has swung to the collector's copy: the words that it had are gone, and those of the copy are its.
use Rattle.std.specs.Prelude.{if◌then◌else◌}
use Rattle.std.proofs.Common.{◌≡◌, ◌≢◌, ◌⊎◌, ℕ, ◌==◌, inl, inr, refl, ap, ◌∙◌}
use Rattle.std.proofs.lemmas.Bool.Decides.{eqb_tells}
use Rattle.heap_words.specs.declared.spot.Spot.{Spot}
use Rattle.core_rule.proofs.Terms.{SpineOwner, Placed, Spined, Gone}

-- where the spines stand then
abbrev pub swung_spines : ℕ → Spot → (ℕ → Spot) → ℕ → Spot
swung_spines i to spines j = if j == i then to else spines j

pub swung_spine_is_copy : (i : ℕ) (to : Spot) (spines : ℕ → Spot) → swung_spines i to spines i ≡ to
swung_spine_is_copy i to spines = elim (eqb_tells i i) as (λ _. swung_spines i to spines i ≡ to) [
  | inl same ↦ rw same.0 refl
  | inr other ↦ absurd (other.1 refl)
]

pub other_spine_stays_at_swing : (i : ℕ) (to : Spot) (spines : ℕ → Spot) (j : ℕ) → j ≢ i → swung_spines i to spines j ≡ spines j
other_spine_stays_at_swing i to spines j apart = elim (eqb_tells j i) as (λ _. swung_spines i to spines j ≡ spines j) [
  | inl same ↦ absurd (apart same.1)
  | inr other ↦ rw other.0 refl
]

-- what becomes of a spine word
abbrev pub swung_word : ℕ → ℕ → SpineOwner → SpineOwner
swung_word seats i (Placed party k) = if party == seats then Spined i k else Placed party k
swung_word seats i (Spined j k) = if j == i then Gone else Spined j k
swung_word seats i o = o

module _ (seats i : ℕ) where
  by_party : (P : SpineOwner → Type 0) (party k : ℕ) → (party ≡ seats → P (Spined i k)) → (party ≢ seats → P (Placed party k)) → P (swung_word seats i (Placed party k))
  by_party P party k mine other = elim (eqb_tells party seats) as (λ _. P (swung_word seats i (Placed party k))) [
    | inl same ↦ rw same.0 (mine same.1)
    | inr apart ↦ rw apart.0 (other apart.1)
  ]

  by_array : (P : SpineOwner → Type 0) (j k : ℕ) → (j ≡ i → P Gone) → (j ≢ i → P (Spined j k)) → P (swung_word seats i (Spined j k))
  by_array P j k mine other = elim (eqb_tells j i) as (λ _. P (swung_word seats i (Spined j k))) [
    | inl same ↦ rw same.0 (mine same.1)
    | inr apart ↦ rw apart.0 (other apart.1)
  ]

  -- the array's words are gone
  pub left_word_is_gone : (o : SpineOwner) (k : ℕ) → o ≡ Spined i k → swung_word seats i o ≡ Gone
  left_word_is_gone o k is = ap (swung_word seats i) is ∙ by_array (λ n. n ≡ Gone) i k (λ same. refl) (λ apart. absurd (apart refl))

  -- those of the copy are its
  pub copied_word_is_spined : (o : SpineOwner) (k : ℕ) → o ≡ Placed seats k → swung_word seats i o ≡ Spined i k
  copied_word_is_spined o k is = ap (swung_word seats i) is ∙ by_party (λ n. n ≡ Spined i k) seats k (λ same. refl) (λ apart. absurd (apart refl))

  -- the other parties and arrays have what they had
  pub placed_word_stays_at_swing : (o : SpineOwner) (r k : ℕ) → r ≢ seats → o ≡ Placed r k → swung_word seats i o ≡ Placed r k
  placed_word_stays_at_swing o r k other is = ap (swung_word seats i) is ∙ by_party (λ n. n ≡ Placed r k) r k (λ same. absurd (other same)) (λ apart. refl)

  pub spined_word_stays_at_swing : (o : SpineOwner) (j k : ℕ) → j ≢ i → o ≡ Spined j k → swung_word seats i o ≡ Spined j k
  spined_word_stays_at_swing o j k other is = ap (swung_word seats i) is ∙ by_array (λ n. n ≡ Spined j k) j k (λ same. absurd (other same)) (λ apart. refl)

  -- and nothing else
  pub placed_before_swing : (o : SpineOwner) (r k : ℕ) → swung_word seats i o ≡ Placed r k → (o ≡ Placed r k) × (r ≢ seats)
  placed_before_swing (Placed party j) r k = by_party (λ n. n ≡ Placed r k → (Placed party j ≡ Placed r k) × (r ≢ seats)) party j (λ same e. absurd (cc e))
      (λ apart e. (e, λ same. apart (party_of e ∙ same)))
    where
      party_of : Placed party j ≡ Placed r k → party ≡ r
      party_of e = cc
  placed_before_swing (Spined j m) r k = by_array (λ n. n ≡ Placed r k → (Spined j m ≡ Placed r k) × (r ≢ seats)) j m (λ same e. absurd (cc e)) (λ apart e. absurd (cc e))
  placed_before_swing _ r k = λ e. absurd (cc e)

  pub spined_before_swing : (o : SpineOwner) (j k : ℕ) → swung_word seats i o ≡ Spined j k → ((j ≡ i) × (o ≡ Placed seats k)) ⊎ ((j ≢ i) × (o ≡ Spined j k))
  spined_before_swing (Placed party m) j k = by_party (λ n. n ≡ Spined j k → ((j ≡ i) × (Placed party m ≡ Placed seats k)) ⊎ ((j ≢ i) × (Placed party m ≡ Spined j k))) party m
      (λ same e. inl (cc, cc)) (λ apart e. absurd (cc e))
  spined_before_swing (Spined n m) j k = by_array (λ x. x ≡ Spined j k → ((j ≡ i) × (Spined n m ≡ Placed seats k)) ⊎ ((j ≢ i) × (Spined n m ≡ Spined j k))) n m
      (λ same e. absurd (cc e)) (λ apart e. inr ((λ same. apart (array_of e ∙ same)), e))
    where
      array_of : Spined n m ≡ Spined j k → n ≡ j
      array_of e = cc
  spined_before_swing _ j k = λ e. absurd (cc e)
