-- A state in which a heap opens is a machine's.
use Rattle.std.proofs.Common.{◌≡◌, ℕ, suc, ◌+◌, ◌-◌, ◌*◌, ◌/◌, ◌%◌, ◌<◌, ◌≤◌, ◌^◌, inl, inr, List, All, refl, sym, subst, arith, ◌∙◌, get_or, ltb, true, lt-ltb}
use Rattle.std.proofs.lemmas.Bool.Decides.{leb_tells, eqb_tells}
use Rattle.std.proofs.lemmas.Grind.{get_or_default_zero}
use Rattle.heap_model.specs.Board.{board_fields, board_fragments}
use Rattle.core_machine.proofs.Terms.{Heap, IsHeap, Address, Phase, Answer, Budget, Control, Word, table_length, index_of, InTable, at, State, IsMachine}
use Rattle.core_machine.specs.declared.table.address.Address.TheVariants.{Spot, Spine}
use Rattle.core_machine.specs.machine.Opening.{IsOpening, opening_word, board, board_name}
use Rattle.core_machine.proofs.machine_lemmas.BoardPlace.{board_within, board_bits_fit_group}
use Rattle.core_machine.proofs.machine_lemmas.Opens.{opened_is_machine}
use Rattle.core_machine.proofs.table_lemmas.Wide.{listed_fragment_is_small, record_word_fits_bits}

-- the address of the word at an index of the table
record Addressed (heap : Heap) (i : ℕ) : Type 0 where
  address : Address
  there : InTable heap address
  is : index_of heap address ≡ i

spine_at : (heap : Heap) (i : ℕ) → 19 + 65 * heap.groups ≤ i → i < table_length heap → Addressed heap i
spine_at heap i past within = elim (leb_tells (suc i) (19 + 65 * heap.groups + 2 * heap.spine)) [
  | inl first ↦ let low : ltb (i - (19 + 65 * heap.groups)) (2 * heap.spine) ≡ true = lt-ltb _ _ (omega (arith, first.1, past)) in
      record { address = Spine 0 (i - (19 + 65 * heap.groups)); there = omega arith; is = rw low (omega (arith, past)) }
  | inr second ↦ let high : ltb (i - (19 + 65 * heap.groups + 2 * heap.spine)) (2 * heap.spine) ≡ true = lt-ltb _ _ (omega (arith, second.1, within)) in
      record { address = Spine 1 (i - (19 + 65 * heap.groups + 2 * heap.spine)); there = omega arith; is = rw high (omega (arith, second.1)) }
]

fragment_at_index : (heap : Heap) (i : ℕ) → 19 + heap.groups ≤ i → i < table_length heap → Addressed heap i
fragment_at_index heap i past within = elim (leb_tells (suc i) (19 + 65 * heap.groups)) [
  | inl word ↦ record {
    address = Word ((i - (19 + heap.groups)) / 4) ((i - (19 + heap.groups)) % 4);
    there = (omega (arith, word.1, past), omega arith);
    is = omega (arith, past);
  }
  | inr spine ↦ spine_at heap i (omega (arith, spine.1)) within
]

control_at : (heap : Heap) (i : ℕ) → 19 ≤ i → i < table_length heap → Addressed heap i
control_at heap i past within = elim (leb_tells (suc i) (19 + heap.groups)) [
  | inl control ↦ record { address = Control (i - 19); there = omega (arith, control.1, past); is = omega (arith, past) }
  | inr more ↦ fragment_at_index heap i (omega (arith, more.1)) within
]

addressed : (heap : Heap) (i : ℕ) → i < table_length heap → Addressed heap i
addressed heap i within = elim (eqb_tells i 0) [
  | inl phase ↦ record { address = Phase; there = tt; is = sym phase.1 }
  | inr later ↦ elim (leb_tells i 16) [
    | inl answer ↦ record { address = Answer (i - 1); there = omega (arith, answer.1, later.1); is = omega (arith, later.1) }
    | inr past ↦ elim (eqb_tells i 17) [
      | inl budget ↦ record { address = Budget; there = tt; is = sym budget.1 }
      | inr other ↦ elim (eqb_tells i 18) [
        | inl spot ↦ record { address = Spot; there = tt; is = sym spot.1 }
        | inr control ↦ control_at heap i (omega (arith, past.1, other.1, control.1)) within
      ]
    ]
  ]
]

-- each word at the opening is a word
opening_wide : (heap : Heap) → IsHeap heap → (a : Address) → opening_word heap a < 2 ^ 64
opening_wide heap limits Phase = omega arith
opening_wide heap limits (Answer number) = elim (leb_tells (suc number) heap.seats) as (λ _. opening_word heap (Answer number) < 2 ^ 64) [ inl seat ↦ rw seat.0 (omega arith) | inr gone ↦ rw gone.0 (omega arith) ]
opening_wide heap limits Budget = omega arith
opening_wide heap limits Spot = omega arith
opening_wide heap limits (Control group) = elim (eqb_tells group 0) as (λ _. opening_word heap (Control group) < 2 ^ 64) [ inl first ↦ rw first.0 (omega (arith, board_bits_fit_group heap limits)) | inr later ↦ rw later.0 (omega arith) ]
opening_wide heap limits (Word fragment part) = elim (leb_tells (suc fragment) (board_fragments heap)) as (λ _. opening_word heap (Word fragment part) < 2 ^ 64) [
  | inl of_board ↦ rw of_board.0 (record_word_fits_bits board_name (board_fields heap) (board heap) fragment part (omega arith) (omega arith) (omega (arith, limits.board_fits)) (λ i. listed_fragment_is_small heap (board heap) i limits (board_within heap limits)))
  | inr free ↦ rw free.0 (omega arith)
]
opening_wide heap limits (Spine half offset) = omega arith

word_at : (heap : Heap) (words : List ℕ) (a : Address) → at heap words a ≡ get_or words (index_of heap a) 0
unfolding at
word_at heap words a = refl

pub opening_is_machine : (heap : Heap) (state : State) → IsHeap heap → IsOpening heap state → IsMachine heap state
opening_is_machine heap state limits opens =
    opened_is_machine heap state.words state.seats state.collector limits opens.table wide opens.words_open opens.seats_open opens.nothing_done
  where
    wide : All (λ word. word < 2 ^ 64) state.words
    wide i d below =
        let one : Addressed heap i = addressed heap i (subst (λ n. i < n) opens.table below) in
        let same : get_or state.words i 0 ≡ opening_word heap one.address = subst (λ n. get_or state.words n 0 ≡ opening_word heap one.address) one.is (sym (word_at heap state.words one.address) ∙ opens.words_open one.address one.there) in
        let other : get_or state.words i d ≡ get_or state.words i 0 = get_or_default_zero state.words i d below in
        subst (λ n. n < 2 ^ 64) (sym (other ∙ same)) (opening_wide heap limits one.address)
