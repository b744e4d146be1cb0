-- The flip keeps the rule: spines have their places in the other half from now on.
use Rattle.std.proofs.Common.{◌≡◌, ℕ, [], inl, sym, ap, subst, arith, refl}
use Rattle.std.proofs.lemmas.List.{append-nil}
use Rattle.core_rule.proofs.Terms.{spot_word, Heap, State, Book, MarkingStands, Rule, IsSettled}
use Rattle.core_machine.specs.collector.Collector.{next_half}
use Rattle.core_machine.specs.declared.collector.stage.Stage.TheVariants as stages
use Rattle.core_rule.proofs.book.BookGoing.{book_goes_on_with_history}
use Rattle.core_rule.proofs.halves.Flips.{flip_words, flipped_word_tells_spot, space_stands_after_flip, flip_phase_is_marking}
use Rattle.core_rule.proofs.spines.SpotWritten.{heap_stands_after_spot, seat_stands_after_spot}
use Rattle.core_rule.proofs.steps.TurnSteps.{StageKeeps, quiet, keeps_rule_after_turn}
use Rattle.core_rule.proofs.steps.collector.ColourTurn.{at_stage, collector_agrees_at_stage}
use Rattle.core_rule.proofs.steps.TurnKinds.{TurnKind, shape_of_quiet_step, beside, stage_keeps_whole, on_bits_of_same_bits, has_looked_at_stage}
use Rattle.core_rule.proofs.turns.MarkingTurns.{flip_leaves_fewer}

module _ (heap : Heap) (state : State) (book : Book) (rule : Rule heap state book) (flipping : state.collector.stage ≡ stages.Flipping) where
  -- what is white is to be freed, as before
  marks : MarkingStands heap (flip_words heap state book rule flipping) book.owner book.colour book.fragments state.collector.phase stages.Advancing
  marks =
      let old = rule.marks_stand.heap_marks in
      let third = flip_phase_is_marking heap state book rule flipping in
      record {
        grey = old.grey;
        scan = tt;
        few = tt;
        pass = tt;
        sweep_stands = λ swept. absurd (omega (arith, swept, third));
        alive = λ going. absurd (going (inl (third, tt)));
        after = λ settled. old.after (subst (IsSettled state.collector.phase) (sym flipping) (inl (third, tt)));
      }

pub flip_keeps : StageKeeps stages.Flipping
flip_keeps heap state book rule flipping machine =
    let word : ℕ = spot_word (record { half = next_half state.collector.phase; offset = 0 }) in
    keeps_rule_after_turn heap state book (flip_words heap state book rule flipping) (quiet (at_stage state.collector stages.Advancing)) book [] rule machine (sym (append-nil book.history))
    (heap_stands_after_spot heap state book rule word (ap spot_word (flipped_word_tells_spot heap state book rule flipping)))
    (λ r below stands. seat_stands_after_spot heap state book rule word r below)
    (collector_agrees_at_stage heap state book rule stages.Advancing)
    record { heap_marks = marks heap state book rule flipping; roots = λ r below is. absurd (is.goes_on tt) }
    (space_stands_after_flip heap state book rule flipping)
    (book_goes_on_with_history heap state book book.history book.begun)

-- all that is asked of it
pub turn_kind_of_flipping : TurnKind stages.Flipping
turn_kind_of_flipping = record {
  keeps = stage_keeps_whole stages.Flipping flip_keeps;
  fewer = λ few. flip_leaves_fewer;
  inside = λ heap state book rule cycle is. tt;
  shape = λ heap collector found. shape_of_quiet_step heap collector found stages.Flipping refl refl;
  looked = has_looked_at_stage stages.Flipping (λ heap phase looked fits. fits.all);
  bits = on_bits_of_same_bits stages.Flipping (λ heap collector. beside (λ g below e. omega (arith, e, below)));
  spines = record {
    there = λ heap state book rule is there. there;
    stores = λ heap collector half offset word due. absurd (cc due);
    claims = λ heap collector words due. absurd (cc due);
  };
}
