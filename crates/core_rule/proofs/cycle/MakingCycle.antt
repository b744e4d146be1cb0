-- What a step of making leaves of the heap's and of each seat's standing in a cycle.
use Rattle.std.proofs.Common.{◌≡◌, ◌≢◌, ℕ, ◌<◌, ◌≤◌, inl, inr, Bool, List, refl, sym, ◌∙◌, subst, arith}
use Rattle.core_rule.proofs.Terms.{Heap, Control, tally, at, put, Seat, Colour, Marks, IsMarked, BornColours, HeapInCycle, SeatInCycle, Owner, Borne, born_bit, owner_after}
use Rattle.core_machine.specs.declared.table.address.Address.TheVariants.{Phase, Answer}
use Rattle.core_rule.proofs.words.Addresses.{at-put_apart}
use Rattle.core_rule.proofs.colours.Births.{birth_colour, AreBorne, born_colours_stay}
use Rattle.core_rule.proofs.colours.BirthColours.{painted, painted_member_has_colour, painted_other_keeps_colour}
use Rattle.core_rule.proofs.cycle.CycleFrames.{seat_in_cycle_stays, coloured_stays, SameAnswer, WatchesBorn}
use Rattle.core_rule.proofs.owners.Handed.{none_or_some, handed_is_new_owners, unhanded_keeps_owner, handed_cases, handed_bit_stays}
use Rattle.core_rule.proofs.colours.LeadsFrames.{led_before_control_write}
use Rattle.core_rule.proofs.objects.ObjectFrames.{SameKept}
use Rattle.core_rule.proofs.cycle.Unwatched.{IsApart, seat_in_cycle_apart}

module _ (heap : Heap) (words : List ℕ) (n : ℕ) where
  -- a control word isn't the phase, nor an answer
  pub phase_same_after_control : (g : ℕ) → at heap (put heap words (Control g) n) Phase ≡ at heap words Phase
  phase_same_after_control g = at-put_apart heap words (Control g) Phase n (λ e. omega (arith, e))

  pub answer_same_after_control : (g number : ℕ) → number < 16 → at heap (put heap words (Control g) n) (Answer number) ≡ at heap words (Answer number)
  answer_same_after_control g number few = at-put_apart heap words (Control g) (Answer number) n (λ e. omega (arith, e, few))

-- another seat's standing stays
pub seat_in_cycle_after_control : (heap : Heap) (words : List ℕ) (owner later : ℕ → Owner) (colour coloured : ℕ → Colour) (now answers : ℕ) (gone : Bool) (r : ℕ) (seat : Seat) (g word : ℕ)
    → g < heap.groups → r < 16 → ((f : ℕ) → IsMarked colour f → IsMarked coloured f) → ((f : ℕ) → later f ≡ Borne r → (owner f ≡ Borne r) × (coloured f ≡ colour f)) → WatchesBorn owner seat
    → SeatInCycle heap words now answers gone owner colour r seat → SeatInCycle heap (put heap words (Control g) word) now answers gone later coloured r seat
seat_in_cycle_after_control heap words owner later colour coloured now answers gone r seat g word below few marks births watched cycle =
    seat_in_cycle_stays heap words (put heap words (Control g) word) owner later colour coloured now answers gone r seat
    record {
      answer = answer_same_after_control heap words word g r few;
      leads = λ marking f source x born leads. inl (led_before_control_write heap words g word below f source x leads);
      marks = marks;
      births = births;
    }
    watched cycle

-- a seat that goes on with the same answer, and bears no more, has its standing in the cycle
pub seat_in_cycle_goes_on : (heap : Heap) (words later_words : List ℕ) (owner later : ℕ → Owner) (colour : ℕ → Colour) (now answers : ℕ) (gone : Bool) (number : ℕ) (seat next : Seat)
    → SameAnswer seat next → IsApart next.point → at heap later_words (Answer number) ≡ at heap words (Answer number) → ((f : ℕ) → later f ≡ Borne number → owner f ≡ Borne number)
    → SeatInCycle heap words now answers gone owner colour number seat → SeatInCycle heap later_words now answers gone later colour number next
seat_in_cycle_goes_on heap words later_words owner later colour now answers gone number seat next same apart word before cycle =
    seat_in_cycle_apart heap words later_words owner later colour colour now answers gone number seat next same apart word
    (born_colours_stay owner later colour colour number next.answered (λ f borne. (before f borne, refl)) (subst (BornColours owner colour number) (sym same.answered) cycle.births)) cycle

-- no seat bears more
pub was_borne_before : (o : Owner) (owner : ℕ → Owner) (fs : List ℕ) (r f : ℕ) → o ≢ Borne r → owner_after o owner fs f ≡ Borne r → owner f ≡ Borne r
was_borne_before o owner fs r f none = handed_cases (λ x. x ≡ Borne r → owner f ≡ Borne r) o owner fs f (λ there is. absurd (none is)) (λ away is. is)

-- the heap's standing stays
pub heap_in_cycle_after_handing : (heap : Heap) (words : List ℕ) (owner : ℕ → Owner) (colour : ℕ → Colour) (fragments : ℕ → List ℕ) (now g word : ℕ) (o : Owner) (fs : List ℕ)
    → g < heap.groups → born_bit o ≡ 0 → ((f : ℕ) → 1 ≤ tally f fs → born_bit (owner f) ≡ 0) → SameKept owner (owner_after o owner fs) → Marks heap (put heap words (Control g) word) colour
    → HeapInCycle heap words now owner colour fragments → HeapInCycle heap (put heap words (Control g) word) now (owner_after o owner fs) colour fragments
heap_in_cycle_after_handing heap words owner colour fragments now g word o fs below unborn none same marks cycle = record {
  word = phase_same_after_control heap words word g ∙ cycle.word;
  marks = marks;
  coloured = coloured_stays heap words (put heap words (Control g) word) owner (owner_after o owner fs) colour fragments now
      (λ marking f source x born leads. inl (led_before_control_write heap words g word below f source x leads))
      (λ f marked born. handed_bit_stays born_bit o owner fs (λ x there. none x there ∙ sym unborn) f ∙ born)
      same.was cycle.coloured;
}

module _ (owner : ℕ → Owner) (colour : ℕ → Colour) (fs : List ℕ) (number : ℕ) (black : Bool) where
  -- what a seat bears has the colour of its births
  pub are_borne_after_birth : AreBorne owner colour number black → AreBorne (owner_after (Borne number) owner fs) (painted (birth_colour black) colour fs) number black
  are_borne_after_birth births f borne = elim (none_or_some (tally f fs)) as (λ _. painted (birth_colour black) colour fs f ≡ birth_colour black) [
    | inl away ↦ painted_other_keeps_colour (birth_colour black) colour fs f away ∙ births f (sym (unhanded_keeps_owner (Borne number) owner fs f away) ∙ borne)
    | inr there ↦ painted_member_has_colour (birth_colour black) colour fs f there
  ]

  -- what others bear stays
  pub other_borne_keeps_colour : (r : ℕ) → r ≢ number → (f : ℕ) → owner_after (Borne number) owner fs f ≡ Borne r → (owner f ≡ Borne r) × (painted (birth_colour black) colour fs f ≡ colour f)
  other_borne_keeps_colour r apart f borne = elim (none_or_some (tally f fs)) as (λ _. (owner f ≡ Borne r) × (painted (birth_colour black) colour fs f ≡ colour f)) [
    | inl away ↦ (sym (unhanded_keeps_owner (Borne number) owner fs f away) ∙ borne, painted_other_keeps_colour (birth_colour black) colour fs f away)
    | inr there ↦ let both : Borne number ≡ Borne r = sym (handed_is_new_owners (Borne number) owner fs f there) ∙ borne in absurd (apart (let same : number ≡ r = cc in sym same))
  ]
