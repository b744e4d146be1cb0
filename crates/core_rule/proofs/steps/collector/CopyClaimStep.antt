-- The collector claims the place of a copy: that keeps the rule.
use Rattle.std.proofs.Common.{◌≡◌, ℕ, ◌+◌, List, [], ◌++◌, refl, sym, ap, arith}
use Rattle.std.proofs.lemmas.List.{append-nil}
use Rattle.heap_words.specs.declared.spot.Spot.{Spot}
use Rattle.core_rule.proofs.Terms.{Entry, Heap, Stage, State, Book, copying_words, SpineOwner, Rule, SpaceStands, next_spine}
use Rattle.core_machine.specs.collector.Copying.{copy_at}
use Rattle.core_machine.specs.declared.collector.stage.ArrayAt.{ArrayAt}
use Rattle.core_machine.specs.declared.collector.stage.Copying.TheVariants.{Claiming}
use Rattle.core_machine.specs.declared.collector.stage.Stage.TheVariants as stages
use Rattle.core_rule.proofs.copies.CopyClaims.{claim_is_to_copy, claimed_offset_is_small, copy, now, owners, later, has_copy_after_claim, budget_same_after_copy_claim, heap_stands_after_copy_claim, seat_stands_after_copy_claim}
use Rattle.core_rule.proofs.copies.CopyWords.{leads_by_copy}
use Rattle.core_rule.proofs.copies.CopyingStages.{LeadsBy, turned, phase_is_copying, copying_is_after_marking, copied_array_has_few_words, marking_stands_while_copying, halves_stand_while_copying, budgets_stand_while_copying}
use Rattle.core_rule.proofs.copies.VisitsOn.{arrays_await_visit}
use Rattle.core_rule.proofs.book.BookGoing.{book_goes_on_with_spine_owners}
use Rattle.core_rule.proofs.spines.SpotClaims.{next_spine_after_claim, claimed_is_before_next}
use Rattle.core_rule.proofs.steps.collector.ColourTurn.{collector_agrees_at_stage, at_stage}
use Rattle.core_rule.proofs.steps.TurnSteps.{StageKeeps, quiet, keeps_rule_after_turn}
use Rattle.core_rule.proofs.steps.TurnKinds.{TurnKind, shape_of_quiet_step, Inside, beside, stage_keeps_whole, on_bits_of_same_bits, has_looked_at_stage}
use Rattle.core_rule.proofs.turns.CopyTurns.{copy_turn_leaves_fewer, claiming_leaves_fewer}
use Rattle.core_rule.proofs.turns.WorkCases.{copy_at_cases}

module _ (heap : Heap) (state : State) (book : Book) (rule : Rule heap state book) (array : ArrayAt) (from : Spot) (claiming : state.collector.stage ≡ stages.Copying (Claiming array from)) where
  abbrev next : Stage
  next = copy_at (copy heap state book rule array from claiming)

  abbrev words : List ℕ
  words = now heap state book rule array from claiming

  abbrev owner : ℕ → ℕ → SpineOwner
  owner = owners heap state book rule array from claiming

  leads : LeadsBy heap state (record book { spine_owner = owner }) words array.words next
  leads = leads_by_copy heap state book rule words owner array.words (copy heap state book rule array from claiming) (copied_array_has_few_words heap state book rule (Claiming array from) claiming)
      (omega (arith, ap copying_words claiming)) (arrays_await_visit heap state book rule (Claiming array from) claiming) (claim_is_to_copy heap state book rule array from claiming) refl
      (has_copy_after_claim heap state book rule array from claiming)

  -- the next spine has its place behind the copy
  behind : next_spine heap words ≡ record (next_spine heap state.words) { offset = (next_spine heap state.words).offset + array.words }
  behind = next_spine_after_claim heap state book heap.seats array.words rule.machine.table rule.space.halves rule.heap_stands.spines (claimed_offset_is_small heap state book rule array from claiming)

  space : (log : List Entry) → SpaceStands heap (turned heap state book rule (Claiming array from) claiming words log next) (later heap state book rule array from claiming)
  space log = record {
    budgets = budgets_stand_while_copying heap state book rule (Claiming array from) claiming words owner array.words log next leads (ap (λ (p : Spot). p.half) behind) (ap (λ (p : Spot). p.offset) behind)
        (budget_same_after_copy_claim heap state book rule array from claiming);
    halves = halves_stand_while_copying heap state book rule (Claiming array from) claiming words owner array.words log next leads (ap (λ (p : Spot). p.half) behind)
        (claimed_is_before_next heap state book heap.seats array.words rule.machine.table rule.space.halves rule.heap_stands.spines (claimed_offset_is_small heap state book rule array from claiming));
  }

pub copy_claim_keeps : (array : ArrayAt) (from : Spot) → StageKeeps (stages.Copying (Claiming array from))
copy_claim_keeps array from heap state book rule claiming machine =
    let fourth = phase_is_copying heap state book rule (Claiming array from) claiming in
    let to : Stage = next heap state book rule array from claiming in
    let led = leads heap state book rule array from claiming in
    keeps_rule_after_turn heap state book (words heap state book rule array from claiming) (quiet (at_stage state.collector to)) (later heap state book rule array from claiming) [] rule machine (sym (append-nil book.history))
    (heap_stands_after_copy_claim heap state book rule array from claiming) (λ r below stands. seat_stands_after_copy_claim heap state book rule array from claiming r below) (collector_agrees_at_stage heap state book rule to)
    record {
      heap_marks = marking_stands_while_copying heap (words heap state book rule array from claiming) book.owner book.colour book.fragments state.collector.phase fourth
          (copying_is_after_marking heap state book rule (Claiming array from) claiming) to led.of_copying led.few;
      roots = λ r below marks. absurd (omega (arith, marks.phase, fourth));
    }
    (space heap state book rule array from claiming (state.collector.log ++ []))
    (book_goes_on_with_spine_owners heap state book (owner heap state book rule array from claiming))

-- all that is asked of it
pub turn_kind_of_copy_claiming : (array : ArrayAt) (from : Spot) → TurnKind (stages.Copying (Claiming array from))
turn_kind_of_copy_claiming array from = record {
  keeps = stage_keeps_whole (stages.Copying (Claiming array from)) (copy_claim_keeps array from);
  fewer = copy_turn_leaves_fewer (Claiming array from) (claiming_leaves_fewer array from);
  inside = λ heap state book rule cycle is. copy_at_cases (Inside heap state book rule cycle) (λ stage. tt) tt heap _;
  shape = λ heap collector found. shape_of_quiet_step heap collector found (stages.Copying (Claiming array from)) refl refl;
  looked = has_looked_at_stage (stages.Copying (Claiming array from)) (λ heap phase looked fits. fits.0.all);
  bits = on_bits_of_same_bits (stages.Copying (Claiming array from)) (λ heap collector. beside (λ g below e. omega (arith, e, below)));
  spines = record {
    there = λ heap state book rule is there. there;
    stores = λ heap collector half offset word due. absurd (cc due);
    claims = λ heap collector words due. (array, from, refl, cc due);
  };
}
