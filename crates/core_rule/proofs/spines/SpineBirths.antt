-- A seat's spine becomes its new array's.
use Rattle.std.proofs.Common.{◌≡◌, ◌≢◌, ℕ, ◌+◌, ◌<◌, ◌≤◌, ◌==◌, inl, inr, List, length, refl, sym, ap, ◌∙◌, subst, arith}
use Rattle.std.specs.Prelude.{if◌then◌else◌}
use Rattle.std.proofs.lemmas.Bool.{cases_eq}
use Rattle.std.proofs.lemmas.Bool.Decides.{eqb_tells, nat_tests}
use Rattle.heap_words.specs.declared.spot.Spot.{Spot}
use Rattle.core_rule.proofs.Terms.{Heap, Node, spine_words_of, Seat, spine_need, tally, fragment_at, IsKept, Owner, Kept, SpineOwner, Open, Placed, Spined, Gone, SpinesStand}
use Rattle.core_rule.proofs.Terms.{SpineInHand, HasPlace, IsWordOf}
use Rattle.heap_model.proofs.graph_changes.Shapes.{SameShape, same_shape_same_words}
use Rattle.core_rule.proofs.objects.ObjectsGrowth.{with_spine, new_spine_is_spine, old_spine_stays}
use Rattle.core_rule.proofs.owners.Keeping.{kept_by, with_object, new_object_has_body, old_object_keeps_fragments, kept_by_others_was, kept_by_others_stays}
use Rattle.core_rule.proofs.spines.OtherWords.{LeavesSpines}
use Rattle.core_rule.proofs.spines.SpineFrames.{SpinesLeft}
use Rattle.core_rule.proofs.dying.DeadWords.{DeadStay, dead_tell_still}

-- whose a spine word is once the seat's are those of the object of this number
abbrev pub born_word : ℕ → ℕ → SpineOwner → SpineOwner
born_word number n (Placed r k) = if r == number then Spined n k else Placed r k
born_word number n o = o

abbrev pub born_words : ℕ → ℕ → (ℕ → ℕ → SpineOwner) → ℕ → ℕ → SpineOwner
born_words number n spine_owner half offset = born_word number n (spine_owner half offset)

module _ (number n : ℕ) where
  -- the seat's words are the object's
  born_own : (o : SpineOwner) (k : ℕ) → o ≡ Placed number k → born_word number n o ≡ Spined n k
  born_own o k is = ap (born_word number n) is ∙ grind (arith, nat_tests)

  -- another seat's stay its
  born_other : (o : SpineOwner) (r k : ℕ) → r ≢ number → o ≡ Placed r k → born_word number n o ≡ Placed r k
  born_other o r k apart is = ap (born_word number n) is ∙ grind (arith, nat_tests, apart)

  -- and those of objects theirs
  born_arrays : (o : SpineOwner) (i k : ℕ) → o ≡ Spined i k → born_word number n o ≡ Spined i k
  born_arrays o i k is = ap (born_word number n) is

  -- what a seat has then it had, and it isn't the one
  seats_were : (o : SpineOwner) (r k : ℕ) → born_word number n o ≡ Placed r k → (o ≡ Placed r k) × (r ≢ number)
  seats_were (Placed s m) r k is = elim (eqb_tells s number) as (λ _. (Placed s m ≡ Placed r k) × (r ≢ number)) [
    | inl same ↦ absurd (let it : Spined n m ≡ Placed r k = rw same.0 at is in cc)
    | inr apart ↦ let it : Placed s m ≡ Placed r k = rw apart.0 at is in (it, λ e. apart.1 (cc (it, e)))
  ]
  seats_were _ r k is = absurd (cc)

  -- what an object has then it had, or it is the new one and the seat had it
  arrays_were : (P : Type 0) (o : SpineOwner) (i k : ℕ) → born_word number n o ≡ Spined i k → (o ≡ Spined i k → P) → (i ≡ n → o ≡ Placed number k → P) → P
  arrays_were P (Spined j m) i k is old new = old is
  arrays_were P (Placed s m) i k is old new = elim (eqb_tells s number) as (λ _. P) [
    | inl same ↦ let it : Spined n m ≡ Spined i k = rw same.0 at is in new (cc) (ap (λ r. Placed r m) same.1 ∙ ap (Placed number) (cc))
    | inr apart ↦ absurd (let it : Placed s m ≡ Spined i k = rw apart.0 at is in cc)
  ]
  arrays_were P _ i k is old new = absurd (cc)

  -- nobody's were so
  pub open_was_open : (o : SpineOwner) → o ≡ Open → born_word number n o ≡ Open
  open_was_open o is = ap (born_word number n) is

  -- each other party has what it had
  pub spines_left_after_birth : (spine_owner : ℕ → ℕ → SpineOwner) (r : ℕ) → r ≢ number → SpinesLeft r spine_owner (born_words number n spine_owner)
  spines_left_after_birth spine_owner r apart = record {
    stays = λ half offset k is. born_other _ r k apart is;
    own = λ half offset k is. (seats_were (spine_owner half offset) r k is).0;
  }

  -- and what arrays have left stays left
  pub gone_stays_at_birth : (o : SpineOwner) → o ≡ Gone → born_word number n o ≡ Gone
  gone_stays_at_birth o is = ap (born_word number n) is

-- and the seat has none
pub spine_in_hand_after_birth : (heap : Heap) (words : List ℕ) (spine_owner : ℕ → ℕ → SpineOwner) (number n : ℕ) (new : Seat) → ¬ HasPlace new new.point
    → SpineInHand heap words (born_words number n spine_owner) number new
spine_in_hand_after_birth heap words spine_owner number n new none = record {
  placed = λ has. absurd (none has);
  own = λ half offset j is. absurd ((seats_were number n (spine_owner half offset) number j is).1 refl);
  stored = λ has. absurd (none has);
}

module _ (n : ℕ) (nodes now_nodes : ℕ → Node) (owner : ℕ → Owner) (fragments : ℕ → List ℕ) (body : List ℕ)
    (some : 1 ≤ length body) (unkept : (f i k : ℕ) → 1 ≤ tally f body → owner f ≢ Kept i k) (shapes : (i : ℕ) → i < n → SameShape (now_nodes i) (nodes i)) where
  abbrev now : ℕ → Owner
  now = kept_by n body owner

  abbrev bodies : ℕ → List ℕ
  bodies = with_object fragments n body

  module _ (heap : Heap) (words now_words : List ℕ) (seats : ℕ) (spines : ℕ → Spot) (spine_owner : ℕ → ℕ → SpineOwner) (number : ℕ) (seat : Seat)
      (leaves : LeavesSpines heap words now_words) (hand : SpineInHand heap words spine_owner number seat) (as_many : spine_words_of (now_nodes n) ≡ spine_need seat)
      (has : 0 < spine_need seat → HasPlace seat seat.point) (head : now (fragment_at body 0) ≡ Kept n 0) (dead : DeadStay heap words now_words owner now) where
    head_new : IsKept now bodies n
    head_new = ap (λ fs. now (fragment_at fs 0)) (new_object_has_body fragments n body) ∙ head

    kept_old : (i : ℕ) → i ≢ n → IsKept now bodies i → IsKept owner fragments i
    kept_old i apart is = kept_by_others_was n body owner (fragment_at (fragments i) 0) i 0 apart (ap (λ fs. now (fragment_at fs 0)) (sym (old_object_keeps_fragments fragments n body i apart)) ∙ is)

    kept_on : (i : ℕ) → i ≢ n → IsKept owner fragments i → IsKept now bodies i
    kept_on i apart is = ap (λ fs. now (fragment_at fs 0)) (old_object_keeps_fragments fragments n body i apart) ∙ kept_by_others_stays n body owner unkept (fragment_at (fragments i) 0) i 0 is

    -- the spine words stand then
    pub spines_stand_after_birth : SpinesStand heap words seats n nodes owner fragments spines spine_owner
        → SpinesStand heap now_words seats (n + 1) now_nodes now bodies (with_spine spines n seat.spine) (born_words number n spine_owner)
    spines_stand_after_birth old = record {
      spot = rw leaves.spot old.spot;
      parties = λ half offset r k is. old.parties half offset r k (seats_were number n (spine_owner half offset) r k is).0;
      kept = λ i j below is within. elim (cases_eq i n) as (λ _. born_words number n spine_owner (with_spine spines n seat.spine i).half ((with_spine spines n seat.spine i).offset + j) ≡ Spined i j) [
        | inl same ↦ of_new i j same within
        | inr apart ↦ of_old i j apart (omega (arith, below, apart)) (kept_old i apart is) within
      ];
      back = λ half offset i j is. arrays_were number n
          ((i < n + 1) × IsKept now bodies i × (j < spine_words_of (now_nodes i)) × IsWordOf (with_spine spines n seat.spine i) half offset j) (spine_owner half offset) i j is
          (λ was. let one = old.back half offset i j was in back_old half offset i j one.0 one.1 one.2 one.3)
          (λ new was. let one = hand.own half offset j was in back_new half offset i j new one.1 one.2);
      tells = λ f i k is. let one = dead_tell_still heap words now_words n nodes now_nodes owner now shapes dead old.tells f i k is in (omega (arith, one.0), one.1);
    }
      where
        of_new : (i j : ℕ) → i ≡ n → j < spine_words_of (now_nodes i) → born_words number n spine_owner (with_spine spines n seat.spine i).half ((with_spine spines n seat.spine i).offset + j) ≡ Spined i j
        of_new i j same within =
            let less : j < spine_need seat = omega (arith, subst (λ x. j < spine_words_of (now_nodes x)) same within, as_many) in
            subst (λ x. born_words number n spine_owner (with_spine spines n seat.spine x).half ((with_spine spines n seat.spine x).offset + j) ≡ Spined x j) (sym same)
            (subst (λ (s : Spot). born_words number n spine_owner s.half (s.offset + j) ≡ Spined n j) (sym (new_spine_is_spine spines n seat.spine))
            (born_own number n _ j (hand.placed (has (omega (arith, less))) j less)))

        of_old : (i j : ℕ) → i ≢ n → i < n → IsKept owner fragments i → j < spine_words_of (now_nodes i)
            → born_words number n spine_owner (with_spine spines n seat.spine i).half ((with_spine spines n seat.spine i).offset + j) ≡ Spined i j
        of_old i j apart below is within =
            subst (λ (s : Spot). born_words number n spine_owner s.half (s.offset + j) ≡ Spined i j) (sym (old_spine_stays spines n seat.spine i apart))
            (born_arrays number n _ i j (old.kept i j below is (subst (λ m. j < m) (same_shape_same_words (now_nodes i) (nodes i) (shapes i below)) within)))

        back_old : (half offset i j : ℕ) → i < n → IsKept owner fragments i → j < spine_words_of (nodes i) → IsWordOf (spines i) half offset j
            → (i < n + 1) × IsKept now bodies i × (j < spine_words_of (now_nodes i)) × IsWordOf (with_spine spines n seat.spine i) half offset j
        back_old half offset i j below is within word =
            let apart : i ≢ n = λ e. omega (arith, e, below) in (
              omega (arith, below),
              kept_on i apart is,
              subst (λ m. j < m) (sym (same_shape_same_words (now_nodes i) (nodes i) (shapes i below))) within,
              subst (λ (s : Spot). IsWordOf s half offset j) (sym (old_spine_stays spines n seat.spine i apart)) word,
            )

        back_new : (half offset i j : ℕ) → i ≡ n → j < spine_need seat → IsWordOf seat.spine half offset j
            → (i < n + 1) × IsKept now bodies i × (j < spine_words_of (now_nodes i)) × IsWordOf (with_spine spines n seat.spine i) half offset j
        back_new half offset i j same less word =
            subst (λ x. (x < n + 1) × IsKept now bodies x × (j < spine_words_of (now_nodes x)) × IsWordOf (with_spine spines n seat.spine x) half offset j) (sym same)
            (omega arith, head_new, omega (arith, less, as_many), subst (λ (s : Spot). IsWordOf s half offset j) (sym (new_spine_is_spine spines n seat.spine)) word)
