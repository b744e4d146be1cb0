-- What the collector's scan led to is marked: the new colours are right.
use Rattle.std.proofs.Common.{◌≡◌, ℕ, ◌*◌, ◌<◌, ◌%◌, inl, inr, sym, ap, ◌∙◌, subst, arith}
use Rattle.core_rule.proofs.Terms.{cycle_phases, Heap, phase, State, Book, Colour, fragment_at, IsMarked, MayMark, IsKeptFragment, Borne, Kept, Rule}
use Rattle.heap_model.specs.PhasePlan.{marking as marking_phase}
use Rattle.core_rule.proofs.colours.OneBit.{bits_after_mark}
use Rattle.core_rule.proofs.colours.ShadeColours.{with_mark, mark_keeps_marked, mark_marks_fragment, mark_keeps_other_colour, marks_after_shade, coloured_after_shade}
use Rattle.core_rule.proofs.frames.Recoloured.{Recolours}
use Rattle.core_rule.proofs.marking.SeatShades.{words_marked}

module _ (heap : Heap) (state : State) (book : Book) (rule : Rule heap state book) (marks : state.collector.phase % cycle_phases ≡ marking_phase) (m : ℕ) (within : m < 16 * heap.groups)
    (may : MayMark book.owner book.colour book.fragments m) where
  abbrev coloured : ℕ → Colour
  coloured = with_mark book.colour m

  abbrev target_fragment : IsKeptFragment book.owner m
  target_fragment = may.kept_fragment

  third : phase book.history % cycle_phases ≡ marking_phase
  third = ap (λ p. p % cycle_phases) (sym rule.collector_stands.phase_told) ∙ marks

  -- the object's first fragment is marked then
  first : IsMarked coloured (fragment_at (book.fragments target_fragment.index) 0)
  first = elim may.first as (λ _. IsMarked coloured (fragment_at (book.fragments target_fragment.index) 0)) [
    | inl head ↦ subst (IsMarked coloured) ((rule.heap_stands.objects.back m target_fragment.index target_fragment.position target_fragment.kept).3 ∙ ap (fragment_at (book.fragments target_fragment.index)) head) (mark_marks_fragment book.colour m)
    | inr marked ↦ mark_keeps_marked book.colour m _ marked
  ]

  pub marked_target_recolours : Recolours heap (words_marked heap state book rule m within) book coloured
  marked_target_recolours = record {
    bits = bits_after_mark heap state.words book.owner 32 m rule.machine.table within (omega arith) rule.heap_stands.control_words;
    marks = marks_after_shade heap state.words book.owner book.colour m rule.machine.table within rule.heap_stands.cycle.marks;
    right = coloured_after_shade heap state.words book.owner book.colour m rule.machine.table within book.fragments (phase book.history) target_fragment.index target_fragment.position target_fragment.kept first
        (λ rests. omega (arith, third, rests)) rule.heap_stands.cycle.coloured;
    keeps = mark_keeps_marked book.colour m;
    births = λ r x borne. mark_keeps_other_colour book.colour m x (λ same. apart r (sym borne ∙ ap book.owner same ∙ target_fragment.kept));
  }
    where
      apart : (r : ℕ) {i k : ℕ} → Borne r ≡ Kept i k → ⊥
      apart r e = cc
