-- Which steps lose nothing: all but those that free and clear, if a give back clears taken bits alone and a store meets no array's first word.
use Rattle.std.specs.Int.{bit_at}
use Rattle.std.proofs.Common.{◌≡◌, ◌≢◌, ℕ, ◌*◌, ◌/◌, ◌<◌, ◌≤◌, ◌^◌, List, length, inl, inr, refl, sym, ap, subst, bit_or, arith}
use Rattle.std.proofs.lemmas.Bool.Decides.{eqb_tells}
use Rattle.std.proofs.lemmas.Nat.Bits.{bit_at_or}
use Rattle.core_rule.proofs.Terms.{control_of, marked_at, scanned_at, Heap, Control, Spine, Word, spine_words_in, at, put, index_of, table_length, HasWord, address_of, word_after}
use Rattle.core_machine.specs.declared.step.AccessStep.TheVariants as accesses
use Rattle.core_machine.specs.declared.step.CopyingStep.TheVariants as copyings
use Rattle.core_machine.specs.declared.step.HandshakeStep.TheVariants as handshakes
use Rattle.core_machine.specs.declared.step.MakingStep.TheVariants as makings
use Rattle.core_machine.specs.declared.step.SpineStep.TheVariants as spines
use Rattle.core_machine.specs.declared.step.Step.{Step}
use Rattle.core_machine.specs.declared.step.Step.TheVariants as steps
use Rattle.core_machine.specs.declared.step.TurningStep.TheVariants as turnings
use Rattle.core_machine.specs.declared.table.address.Address.{Address}
use Rattle.core_machine.proofs.table_lemmas.Addresses.{put_of_read_changes_nothing}
use Rattle.core_rule.proofs.words.Addresses.{at-put_apart, written_control_is_read, other_control_stays, word_same_after_control, control_same_after_word, other_fragment_word_stays, other_part_stays}
use Rattle.core_rule.proofs.words.MarkBits.{giving_keeps_higher_bits}
use Rattle.space_plan.specs.cycle_turns.ToldWords.{told_words}
use Rattle.space_plan.proofs.cycle_turns.LosesNothing.{LosesNothing}
use Rattle.space_plan.proofs.cycle_turns.Sums.{where_set_grows}

-- what a step may not do: give back other bits than taken ones, write the first word of an array that is told, free, or clear
abbrev pub Spares : Heap → List ℕ → Step → Type 0
Spares heap words (steps.Making (makings.GiveBack group bits)) = bits < 2 ^ 16
Spares heap words (steps.Making (makings.NewbornStore fragment part word)) = part ≡ 0 → told_words heap words fragment ≡ 0
Spares heap words (steps.Access (accesses.Swap fragment part word)) = part ≡ 0 → told_words heap words fragment ≡ 0
Spares heap words (steps.Access (accesses.CompareSwap fragment part old new)) = part ≡ 0 → told_words heap words fragment ≡ 0
Spares heap words (steps.Turning (turnings.Free group bits)) = ⊥
Spares heap words (steps.Turning (turnings.Clear group)) = ⊥
Spares heap words _ = Unit {0}

module _ (heap : Heap) (words : List ℕ) where
  -- the bits of marks stay, and the first words
  loses_nothing_by_bits : (now : List ℕ) → ((f i : ℕ) → f < 16 * heap.groups → 32 ≤ i → i < 64 → bit_at (control_of heap words f) i ≤ bit_at (control_of heap now f) i)
      → ((f : ℕ) → f < 16 * heap.groups → at heap now (Word f 0) ≡ at heap words (Word f 0)) → LosesNothing heap words now
  loses_nothing_by_bits now bits same = record {
    scanned = λ f below. bits f (scanned_at f) below (omega arith) (omega arith);
    told = λ f below. where_set_grows _ _ _ _ (bits f (marked_at f) below (omega arith) (omega arith)) (omega (arith, ap spine_words_in (same f below)));
  }

  loses_nothing_of_itself : LosesNothing heap words words
  loses_nothing_of_itself = loses_nothing_by_bits words (λ f i below from upto. omega arith) (λ f below. refl)

  module _ (whole : length words ≡ table_length heap) where
    -- beside the control words and the fragments' words
    beside : (a : Address) (n : ℕ) → ((g : ℕ) → g < heap.groups → index_of heap (Control g) ≢ index_of heap a) → ((f : ℕ) → f < 16 * heap.groups → index_of heap (Word f 0) ≢ index_of heap a)
        → LosesNothing heap words (put heap words a n)
    beside a n control word = loses_nothing_by_bits (put heap words a n)
        (λ f i below from upto. omega (arith, ap (λ w. bit_at w i) (at-put_apart heap words a (Control (f / 16)) n (control (f / 16) (omega (arith, below))))))
        (λ f below. at-put_apart heap words a (Word f 0) n (word f below))

    -- before the control words, and behind the fragments' words
    early : (a : Address) (n : ℕ) → index_of heap a < 19 → LosesNothing heap words (put heap words a n)
    early a n before = beside a n (λ g below e. omega (arith, e, before)) (λ f below e. omega (arith, e, before))

    on_spine : (half offset n : ℕ) → LosesNothing heap words (put heap words (Spine half offset) n)
    on_spine half offset n = beside (Spine half offset) n (λ g below e. omega (arith, e, below)) (λ f below e. omega (arith, e, below))

    -- on a control word, of which no bit of a mark falls
    on_control : (g n : ℕ) → g < heap.groups → ((i : ℕ) → 32 ≤ i → i < 64 → bit_at (at heap words (Control g)) i ≤ bit_at n i) → LosesNothing heap words (put heap words (Control g) n)
    on_control g n within rises = loses_nothing_by_bits (put heap words (Control g) n)
        (λ f i below from upto. elim (eqb_tells (f / 16) g) as (λ _. bit_at (control_of heap words f) i ≤ bit_at (control_of heap (put heap words (Control g) n) f) i) [
          | inl here ↦ subst (λ h. bit_at (at heap words (Control h)) i ≤ bit_at (at heap (put heap words (Control g) n) (Control h)) i) (sym here.1)
              (omega (arith, rises i from upto, ap (λ w. bit_at w i) (written_control_is_read heap words n g whole within)))
          | inr apart ↦ omega (arith, ap (λ w. bit_at w i) (other_control_stays heap words n g (f / 16) apart.1))
        ])
        (λ f below. word_same_after_control heap words n g f 0 within)

    by_or : (g mask : ℕ) → g < heap.groups → LosesNothing heap words (put heap words (Control g) (bit_or (at heap words (Control g)) mask))
    by_or g mask within = on_control g _ within (λ i from upto. omega (arith, bit_at_or (at heap words (Control g)) mask i))

    -- on a word of a fragment
    on_word : (x part n : ℕ) → (x < 16 * heap.groups) × (part < 4) → (part ≡ 0 → told_words heap words x ≡ 0) → LosesNothing heap words (put heap words (Word x part) n)
    on_word x part n there untold = record {
      scanned = λ f below. omega (arith, ap (λ w. bit_at w (scanned_at f)) (control_same_after_word heap words n x part (f / 16) (omega (arith, below))));
      told = λ f below. elim (eqb_tells f x) as (λ _. told_words heap words f ≤ told_words heap (put heap words (Word x part) n) f) [
        | inl same ↦ elim (eqb_tells part 0) as (λ _. told_words heap words f ≤ told_words heap (put heap words (Word x part) n) f) [
          | inl first ↦ omega (arith, ap (told_words heap words) same.1, untold first.1)
          | inr behind ↦ stays f below (other_part_stays heap words n x part f 0 (λ e. behind.1 (sym e)) same.1)
        ]
        | inr apart ↦ stays f below (other_fragment_word_stays heap words n x part f 0 there.1 (omega arith) apart.1)
      ];
    }
      where
        stays : (f : ℕ) → f < 16 * heap.groups → at heap (put heap words (Word x part) n) (Word f 0) ≡ at heap words (Word f 0) → told_words heap words f ≤ told_words heap (put heap words (Word x part) n) f
        stays f below same =
            let later : List ℕ = put heap words (Word x part) n in
            let bit : bit_at (control_of heap words f) (marked_at f) ≤ bit_at (control_of heap later f) (marked_at f)
            = omega (arith, ap (λ w. bit_at w (marked_at f)) (control_same_after_word heap words n x part (f / 16) (omega (arith, below)))) in
            let word : spine_words_in (at heap words (Word f 0)) ≤ spine_words_in (at heap later (Word f 0)) = omega (arith, ap spine_words_in same) in
            where_set_grows _ _ _ _ bit word

    loaded : (a : Address) → LosesNothing heap words (put heap words a (at heap words a))
    loaded a = subst (LosesNothing heap words) (sym (put_of_read_changes_nothing heap words a)) loses_nothing_of_itself

    -- so each step that spares them
    pub step_loses_nothing : (step : Step) → HasWord heap (address_of step) → Spares heap words step → LosesNothing heap words (put heap words (address_of step) (word_after step (at heap words (address_of step))))
    step_loses_nothing (steps.Making (makings.Claim group)) there spares = by_or group _ there
    step_loses_nothing (steps.Making (makings.GiveBack group bits)) there spares =
        on_control group _ there (λ i from upto. omega (arith, giving_keeps_higher_bits (at heap words (Control group)) bits spares i (omega (arith, from)) upto))
    step_loses_nothing (steps.Making (makings.NewbornStore fragment part word)) there spares = on_word fragment part _ there spares
    step_loses_nothing (steps.Making (makings.Birth group bits black)) there spares = by_or group _ there
    step_loses_nothing (steps.Making (makings.LastBirth group bits black)) there spares = by_or group _ there
    step_loses_nothing steps.PollLoad there spares = loaded _
    step_loses_nothing (steps.Access (accesses.WalkLoad fragment)) there spares = loaded _
    step_loses_nothing (steps.Access (accesses.NameLoad head)) there spares = loaded _
    step_loses_nothing (steps.Access (accesses.GetLoad fragment part)) there spares = loaded _
    step_loses_nothing (steps.Access (accesses.OldLoad fragment part)) there spares = loaded _
    step_loses_nothing (steps.Access (accesses.Shade fragment)) there spares = by_or (fragment / 16) _ there
    step_loses_nothing (steps.Access (accesses.Swap fragment part word)) there spares = on_word fragment part _ there spares
    step_loses_nothing (steps.Access (accesses.CompareSwap fragment part old new)) there spares = on_word fragment part _ there spares
    step_loses_nothing (steps.Spine (spines.BudgetAdd n)) there spares = early _ _ (omega arith)
    step_loses_nothing (steps.Spine (spines.BudgetTakeBack n)) there spares = early _ _ (omega arith)
    step_loses_nothing (steps.Spine (spines.SpotClaim n)) there spares = early _ _ (omega arith)
    step_loses_nothing (steps.Spine (spines.SpineStore half offset fragment)) there spares = on_spine half offset _
    step_loses_nothing (steps.Spine (spines.AddressLoad sentinel)) there spares = loaded _
    step_loses_nothing (steps.Spine (spines.WordLoad half offset)) there spares = loaded _
    step_loses_nothing (steps.Handshake (handshakes.AnswerStore seat phase)) there spares = early _ _ (omega (arith, there))
    step_loses_nothing (steps.Handshake (handshakes.LeaveStore seat)) there spares = early _ _ (omega (arith, there))
    step_loses_nothing (steps.Copying (copyings.FlipStore half)) there spares = early _ _ (omega arith)
    step_loses_nothing (steps.Copying (copyings.CopyClaim n)) there spares = early _ _ (omega arith)
    step_loses_nothing (steps.Copying (copyings.CopyLoad half offset)) there spares = loaded _
    step_loses_nothing (steps.Copying (copyings.CopyStore half offset word)) there spares = on_spine half offset _
    step_loses_nothing (steps.Copying (copyings.SwingStore sentinel spot)) there spares = on_word sentinel 2 _ there (λ first. absurd (omega (arith, first)))
    step_loses_nothing (steps.Copying (copyings.BudgetReturn n)) there spares = early _ _ (omega arith)
    step_loses_nothing (steps.Turning (turnings.LookLoad seat)) there spares = loaded _
    step_loses_nothing (steps.Turning (turnings.AdvanceStore phase)) there spares = early _ _ (omega arith)
    step_loses_nothing (steps.Turning (turnings.GroupLoad group)) there spares = loaded _
    step_loses_nothing (steps.Turning (turnings.ScanLoad fragment part)) there spares = loaded _
    step_loses_nothing (steps.Turning (turnings.MarkShade fragment)) there spares = by_or (fragment / 16) _ there
    step_loses_nothing (steps.Turning (turnings.Blacken fragment)) there spares = by_or (fragment / 16) _ there
    step_loses_nothing (steps.Turning (turnings.MetaLoad fragment)) there spares = loaded _
    step_loses_nothing (steps.Turning (turnings.Free group bits)) there spares = absurd spares
    step_loses_nothing (steps.Turning (turnings.Clear group)) there spares = absurd spares
    step_loses_nothing (steps.Turning (turnings.EndAdvance phase kept)) there spares = early _ _ (omega arith)
