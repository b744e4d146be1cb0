-- A free clears the taken bits of fragments that are to be freed alone, and bears nothing.
use Rattle.std.specs.Int.{bit_at}
use Rattle.std.proofs.Common.{◌≡◌, ◌≢◌, ℕ, ◌*◌, ◌/◌, ◌%◌, ◌<◌, List, inl, inr, sym, ap, ◌∙◌, subst, arith, bit_and}
use Rattle.std.proofs.lemmas.Bool.Decides.{eqb_tells}
use Rattle.std.proofs.lemmas.Nat.Bits.{bit_at-lt, bit_at_and}
use Rattle.core_rule.proofs.Terms.{born_at, taken_at, Heap, IsFreeing, Control, State, at, put, Book, IsTaken, IsBorn, control_of, dead_bit, Rule, SweepStands, AreDead}
use Rattle.core_machine.specs.declared.collector.stage.Stage.TheVariants as stages
use Rattle.core_machine.specs.table.Operation.{free_mask_of}
use Rattle.core_rule.proofs.owners.DeadOwners.{dead_has_its_bit}
use Rattle.core_rule.proofs.steps.TurnKinds.{OnBits}
use Rattle.core_rule.proofs.words.Addresses.{written_control_is_read, other_control_stays}
use Rattle.core_rule.proofs.words.SweepBits.{freeing_clears_taken_bits}

module _ (heap : Heap) (state : State) (book : Book) (rule : Rule heap state book) (f : ℕ) (within : f < 16 * heap.groups) (g dead counted : ℕ) where
  abbrev words : List ℕ
  words = state.words

  abbrev word : ℕ
  word = bit_and (at heap words (Control g)) (free_mask_of dead)

  abbrev freed : List ℕ
  freed = put heap words (Control g) word

  -- what is true of the word that the free leaves, if it is the fragment's, and else of its word before
  either : (P : ℕ → Type 0) → (f / 16 ≡ g → P word) → P (control_of heap words f) → P (control_of heap freed f)
  either P here other = elim (eqb_tells (f / 16) g) as (λ _. P (control_of heap freed f)) [
    | inl same ↦ subst P (sym (there same.1)) (here same.1)
    | inr apart ↦ subst P (sym (other_control_stays heap words word g (f / 16) apart.1)) other
  ]
    where
      there : f / 16 ≡ g → control_of heap freed f ≡ word
      there same = rw same (written_control_is_read heap words word g rule.machine.table (omega (arith, same, within)))

  -- the bit of the word found
  found_bit : (i : ℕ) → f / 16 ≡ g → bit_at (at heap words (Control g)) i ≡ bit_at (control_of heap words f) i
  found_bit i here = ap (λ h. bit_at (at heap words (Control h)) i) (sym here)

  spares_alive : state.collector.stage ≡ stages.Freeing g dead counted → dead_bit (book.owner f) ≢ 1 → IsTaken heap words f → IsTaken heap freed f
  spares_alive freeing alive taken = either (λ w. bit_at w (taken_at f) ≡ 1) (λ here.
      let fits : IsFreeing heap state.collector.phase state.collector.looked g dead counted = rw freeing at rule.machine.collector_fit.at_stage in
      let are : AreDead book.owner g dead = (subst (SweepStands heap book.owner book.colour state.collector.phase) freeing rule.marks_stand.heap_marks.sweep_stands).1 in
      omega (
        arith,
        freeing_clears_taken_bits (at heap words (Control g)) dead fits.dead_within (f % 16) (omega arith),
        found_bit (f % 16) here ∙ taken,
        dead_has_its_bit book.owner g dead fits.dead_within are f here,
        bit_at-lt dead (f % 16),
        alive,
      )) taken

  bears_nothing : ¬ IsBorn heap words f → ¬ IsBorn heap freed f
  bears_nothing unborn = either (λ w. ¬ (bit_at w (born_at f) ≡ 1)) (λ here born.
      let both = bit_at_and (at heap words (Control g)) (free_mask_of dead) (born_at f) in
      unborn (sym (found_bit (born_at f) here) ∙ omega (arith, both, born, bit_at-lt (at heap words (Control g)) (born_at f), bit_at-lt (free_mask_of dead) (born_at f)))) unborn

pub on_bits_of_freeing : (group dead counted : ℕ) → OnBits (stages.Freeing group dead counted)
on_bits_of_freeing group dead counted = record {
  spares_taken = λ heap state book rule freeing f within alive taken. spares_alive heap state book rule f within group dead counted freeing alive taken;
  bears_none = λ heap state book rule f within unborn. bears_nothing heap state book rule f within group dead counted unborn;
}
