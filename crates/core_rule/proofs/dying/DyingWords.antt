-- The spine words of arrays that are to be freed are nobody's once marking has ended.
use Rattle.std.proofs.Common.{◌≡◌, ◌≢◌, ℕ, ◌<◌, ◌⊎◌, List, refl, sym, ap, ◌∙◌, inl, inr}
use Rattle.heap_words.specs.declared.spot.Spot.{Spot}
use Rattle.core_rule.proofs.Terms.{Heap, Node, Point, Seat, Book, Colour, White, Grey, Black, fragment_at, Owner, Kept, SpineOwner, Placed, Spined, Gone, IsLeftReplica}
use Rattle.core_rule.proofs.Terms.{AddressStands, SpinesStand, SpineInHand, TellsWords, Word, at}
use Rattle.core_rule.proofs.marking.Settled.{settled_owners, settled_kept_was_marked, marked_kept_stays_kept, settled_dead_was_or_kept}
use Rattle.core_rule.proofs.ways.LoadedPlaces.{while_loaded_goes_on}

-- what becomes of an array's spine word by the colour of the array's first fragment
abbrev pub settled_array : Colour → ℕ → ℕ → SpineOwner
settled_array White i k = Gone
settled_array _ i k = Spined i k

-- what becomes of a spine word by the colours of first fragments
abbrev pub settled_word : (ℕ → Colour) → SpineOwner → SpineOwner
settled_word heads (Spined i k) = settled_array (heads i) i k
settled_word heads o = o

-- the colour of an object's first fragment
abbrev pub head_colour : (ℕ → Colour) → (ℕ → List ℕ) → ℕ → Colour
head_colour colour fragments i = colour (fragment_at (fragments i) 0)

-- the book once marking has ended: what is white of kept objects is to be freed, and the spine words of those are gone
abbrev pub settled_book : Book → Book
settled_book book = record book {
  owner = settled_owners book.owner book.colour;
  spine_owner = λ half offset. settled_word (head_colour book.colour book.fragments) (book.spine_owner half offset);
}

module _ (heads : ℕ → Colour) where
  -- what a seat has it had
  pub placed_before_settling : (o : SpineOwner) (number k : ℕ) → settled_word heads o ≡ Placed number k → o ≡ Placed number k
  placed_before_settling (Spined i j) number k is = absurd (by (heads i) is)
    where
      by : (c : Colour) → settled_array c i j ≢ Placed number k
      by White e = cc
      by Grey e = cc
      by Black e = cc
  placed_before_settling _ number k is = is

  -- and an array, whose first fragment is marked
  spined_was : (o : SpineOwner) (i k : ℕ) → settled_word heads o ≡ Spined i k → (o ≡ Spined i k) × (heads i ≢ White)
  spined_was (Spined j m) i k is = by (heads j) refl is
    where
      same : (c : Colour) → heads j ≡ c → c ≢ White → Spined j m ≡ Spined i k → (Spined j m ≡ Spined i k) × (heads i ≢ White)
      same c is_c dark e = let index : j ≡ i = cc in (e, λ white. dark (sym is_c ∙ ap heads index ∙ white))

      by : (c : Colour) → heads j ≡ c → settled_array c j m ≡ Spined i k → (Spined j m ≡ Spined i k) × (heads i ≢ White)
      by White is_c e = absurd (cc)
      by Grey is_c e = same Grey is_c (λ white. absurd (cc)) e
      by Black is_c e = same Black is_c (λ white. absurd (cc)) e
  spined_was _ i k is = absurd (cc)

  -- an array whose first fragment is marked keeps its own
  spined_stays : (o : SpineOwner) (i k : ℕ) → o ≡ Spined i k → heads i ≢ White → settled_word heads o ≡ Spined i k
  spined_stays o i k is dark = ap (settled_word heads) is ∙ by (heads i) dark
    where
      by : (c : Colour) → c ≢ White → settled_array c i k ≡ Spined i k
      by White some = absurd (some refl)
      by Grey some = refl
      by Black some = refl

  -- and a seat its own
  placed_stays : (o : SpineOwner) (number k : ℕ) → o ≡ Placed number k → settled_word heads o ≡ Placed number k
  placed_stays o number k is = ap (settled_word heads) is

module _ (heap : Heap) (words : List ℕ) (owner : ℕ → Owner) (colour : ℕ → Colour) (fragments : ℕ → List ℕ) (spine_owner : ℕ → ℕ → SpineOwner) where
  abbrev later : ℕ → Owner
  later = settled_owners owner colour

  abbrev heads : ℕ → Colour
  heads = head_colour colour fragments

  abbrev words_later : ℕ → ℕ → SpineOwner
  words_later half offset = settled_word heads (spine_owner half offset)

  -- so the spine words stand, where what is kept tells how many it has
  pub spines_stand_after_settling : (seats made : ℕ) (nodes : ℕ → Node) (spines : ℕ → Spot) → ((f i k : ℕ) → owner f ≡ Kept i k → (i < made) × TellsWords (nodes i) k (at heap words (Word f 0)))
      → SpinesStand heap words seats made nodes owner fragments spines spine_owner
      → SpinesStand heap words seats made nodes later fragments spines words_later
  spines_stand_after_settling seats made nodes spines kept_tell old = record {
    spot = old.spot;
    parties = λ half offset party k is. old.parties half offset party k (placed_before_settling heads (spine_owner half offset) party k is);
    kept = λ i j below is within.
        let was = settled_kept_was_marked (owner (fragment_at (fragments i) 0)) (colour (fragment_at (fragments i) 0)) i 0 is in
        spined_stays heads _ i j (old.kept i j below was.0 within) was.1;
    back = λ half offset i j is.
        let was = spined_was heads (spine_owner half offset) i j is in
        let one = old.back half offset i j was.0 in
        (one.0, marked_kept_stays_kept _ _ i 0 one.1 was.1, one.2, one.3);
    tells = λ f i k is. elim (settled_dead_was_or_kept (owner f) (colour f) i k is) as (λ _. (i < made) × TellsWords (nodes i) k (at heap words (Word f 0))) [
      | inl dead ↦ old.tells f i k dead
      | inr kept ↦ kept_tell f i k kept
    ];
  }

  -- and those that a seat has
  pub spine_in_hand_after_settling : (number : ℕ) (seat : Seat) → SpineInHand heap words spine_owner number seat → SpineInHand heap words words_later number seat
  spine_in_hand_after_settling number seat old = record {
    placed = λ has j less. placed_stays heads _ number j (old.placed has j less);
    own = λ half offset j is. old.own half offset j (placed_before_settling heads (spine_owner half offset) number j is);
    stored = old.stored;
  }

  -- and the place of a spine that a call has loaded
  pub address_stands_after_settling : (nodes : ℕ → Node) (spines : ℕ → Spot) (seat : Seat) (point : Point)
      → AddressStands heap words nodes owner fragments spines spine_owner seat point → AddressStands heap words nodes later fragments spines words_later seat point
  address_stands_after_settling nodes spines seat point = while_loaded_goes_on point (λ has reads i f calls is an_array.
      elim (reads i f calls (settled_kept_was_marked (owner f) (colour f) i 0 is).0 an_array)
      as (λ _. (seat.address ≡ spines i) ⊎ IsLeftReplica heap words (nodes i) (fragments i) words_later seat.answered seat.address) [
        | inl own ↦ inl own
        | inr replica ↦ inr record { late = replica.late; left = λ k less. ap (settled_word heads) (replica.left k less); listed = replica.listed }
      ])
