-- The words that a seat has stored into its new object stand as before.
use Rattle.std.proofs.Common.{ℕ, ◌*◌, ◌/◌, ◌%◌, ◌<◌, ◌≤◌, List, length, ◌∙◌, subst, arith, ◌≡◌, ◌≢◌}
use Rattle.core_rule.proofs.Terms.{Heap, Word, Control, put, at, Seat, fragment_at, Holding, IsStored, Owner, Kept}
use Rattle.core_rule.proofs.words.Addresses.{word_same_after_control, other_fragment_word_stays}
use Rattle.core_rule.proofs.hand.Bodies.{body_fragment_is_own}
use Rattle.core_rule.proofs.owners.OwnerLemmas.{IsOwn, own_is_not_kept}
use Rattle.core_rule.proofs.spines.OtherWords.{LeavesSpines}

-- a control word changes
pub is_stored_after_control : (heap : Heap) (words : List ℕ) (number : ℕ) (seat : Seat) (group n : ℕ) → group < heap.groups → IsStored heap words number seat → IsStored heap (put heap words (Control group) n) number seat
is_stored_after_control heap words number seat group n below old = λ u less. word_same_after_control heap words n group _ _ below ∙ old u less

-- a word of a fragment changes that isn't the seat's
pub is_stored_after_store : (heap : Heap) (words : List ℕ) (owner : ℕ → Owner) (number : ℕ) (seat : Seat) (f part n : ℕ)
    → Holding owner number seat.reserve seat.hand seat.body → seat.stored ≤ 4 * length seat.body → part < 4 → (IsOwn number (owner f) → ⊥)
    → IsStored heap words number seat → IsStored heap (put heap words (Word f part) n) number seat
is_stored_after_store heap words owner number seat f part n holding within fits other old = λ u less.
    let row : u / 4 < length seat.body = omega (arith, less, within) in
    other_fragment_word_stays heap words n f part (fragment_at seat.body (u / 4)) (u % 4) fits (omega arith)
    (λ e. other (subst (λ x. IsOwn number (owner x)) e (body_fragment_is_own owner number seat.reserve seat.hand seat.body holding (u / 4) row)))
    ∙ old u less

-- the control words, the words of fragments that no object keeps, the spine words and the budget are as before
pub record SameUnkept (heap : Heap) (owner : ℕ → Owner) (words now : List ℕ) : Type 0 where
  pub controls : (group : ℕ) → group < heap.groups → at heap now (Control group) ≡ at heap words (Control group)
  pub unkept : (f part : ℕ) → ((i k : ℕ) → owner f ≢ Kept i k) → part < 4 → at heap now (Word f part) ≡ at heap words (Word f part)
  pub spines : LeavesSpines heap words now

-- so what a seat has stored stands
pub is_stored_still : (heap : Heap) (owner : ℕ → Owner) (words now : List ℕ) (r : ℕ) (seat : Seat) → SameUnkept heap owner words now → Holding owner r seat.reserve seat.hand seat.body
    → seat.stored ≤ 4 * length seat.body → IsStored heap words r seat → IsStored heap now r seat
is_stored_still heap owner words now r seat same holding within old = λ u less.
    let row : u / 4 < length seat.body = omega (arith, less, within) in
    same.unkept _ _ (λ i k. own_is_not_kept r i k _ (body_fragment_is_own owner r seat.reserve seat.hand seat.body holding (u / 4) row)) (omega arith) ∙ old u less
