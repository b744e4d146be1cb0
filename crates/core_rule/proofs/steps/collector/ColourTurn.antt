-- A turn of the collector that colours a fragment keeps the rule.
use Rattle.std.proofs.Common.{◌≡◌, ℕ, ◌<◌, List, [], refl, sym, subst}
use Rattle.std.proofs.lemmas.List.{append-nil}
use Rattle.core_rule.proofs.Terms.{Heap, Collector, Stage, Control, State, seat_at, IsMachine, at, put, Book, Colour, MarkingStands, IsReached, CollectorAgrees, Rule, HasMarked}
use Rattle.core_machine.specs.declared.table.address.Address.{Address}
use Rattle.core_rule.specs.roots.Roots.{RootsAreReached}
use Rattle.core_rule.proofs.book.BookGoing.{ColoursGoOn, book_goes_on_with_colours}
use Rattle.core_rule.proofs.frames.Recoloured.{Recolours, leaves_spines_after_recolouring, heap_stands_after_recolouring, seat_stands_after_recolouring}
use Rattle.core_rule.proofs.marking.MarkingStages.{OfMarking, marking_has_not_ended, marking_is_plain}
use Rattle.core_rule.proofs.marking.Marks.{roots_hold_still}
use Rattle.core_rule.proofs.budgets.BudgetFrames.{same_grants_recoloured}
use Rattle.core_rule.proofs.halves.HalvesFrames.{StageGoesOn, IsPlain}
use Rattle.core_rule.proofs.halves.StagesOn.{plain_stage_goes_on}
use Rattle.core_rule.proofs.steps.Assemble.{Keeps}
use Rattle.core_rule.proofs.steps.TurnSteps.{after_turn, quiet, keeps_rule_after_turn, space_stands_after_turn, keeps_rule_by_load_turn}

-- the collector at another stage
abbrev pub at_stage : Collector → Stage → Collector
at_stage collector stage = record collector { stage = stage }

-- it stands as before, wherever it goes on in its phase
pub collector_agrees_at_stage : (heap : Heap) (state : State) (book : Book) → Rule heap state book → (stage : Stage) → CollectorAgrees heap (quiet (at_stage state.collector stage)) book.history
collector_agrees_at_stage heap state book rule stage =
    let stands = rule.collector_stands in
    record { log = rw (append-nil state.collector.log) stands.log; phase_told = stands.phase_told; looked = stands.looked }

module _ (heap : Heap) (state : State) (book : Book) (rule : Rule heap state book) (from stage : Stage) (was : state.collector.stage ≡ from) where
  -- until marking has ended a stage leads on to another one, and each root that was reached is
  pub roots_at : (words : List ℕ) (coloured : ℕ → Colour) → ¬ HasMarked from
      → ((f : ℕ) → IsReached heap state.words book.owner book.colour f → IsReached heap words book.owner coloured f)
      → (r : ℕ) → r < heap.seats → RootsAreReached heap words book.owner coloured (quiet (at_stage state.collector stage)) (seat_at state r)
  roots_at words coloured goes reached r below marks answered =
      roots_hold_still (IsReached heap state.words book.owner book.colour) (IsReached heap words book.owner coloured) reached (seat_at state r)
      (rule.marks_stand.roots r below record { phase = marks.phase; goes_on = λ ended. goes (subst HasMarked was ended) } answered)

  -- a turn that colours
  pub keeps_rule_by_colour_turn : (g n : ℕ) (below : g < heap.groups) (coloured : ℕ → Colour) → Recolours heap (put heap state.words (Control g) n) book coloured
      → IsMachine heap (after_turn state (put heap state.words (Control g) n) (quiet (at_stage state.collector stage)))
      → MarkingStands heap (put heap state.words (Control g) n) book.owner coloured book.fragments state.collector.phase stage
      → OfMarking from → OfMarking stage
      → ((f : ℕ) → IsReached heap state.words book.owner book.colour f → IsReached heap (put heap state.words (Control g) n) book.owner coloured f)
      → ColoursGoOn heap state book book.owner coloured
      → Keeps heap state (after_turn state (put heap state.words (Control g) n) (quiet (at_stage state.collector stage))) book book.begun []
  keeps_rule_by_colour_turn g n below coloured new machine marks before after reached named =
      keeps_rule_after_turn heap state book (put heap state.words (Control g) n) (quiet (at_stage state.collector stage)) (record book { colour = coloured }) [] rule machine (sym (append-nil book.history))
      (heap_stands_after_recolouring heap state book rule g n below coloured new) (λ r less stands. seat_stands_after_recolouring heap state book rule g n below coloured new r less stands)
      (collector_agrees_at_stage heap state book rule stage)
      record { heap_marks = marks; roots = roots_at (put heap state.words (Control g) n) coloured (marking_has_not_ended from before) reached }
      (space_stands_after_turn heap state book rule (put heap state.words (Control g) n) (quiet (at_stage state.collector stage)) (record book { colour = coloured })
      (leaves_spines_after_recolouring heap state book rule g n below coloured new) (same_grants_recoloured heap book coloured book.begun)
      (plain_stage_goes_on heap state.words (put heap state.words (Control g) n) (record book { colour = coloured }) state.collector (quiet (at_stage state.collector stage)) refl
      (subst IsPlain (sym was) (marking_is_plain from before)) (marking_is_plain stage after) (leaves_spines_after_recolouring heap state book rule g n below coloured new).spines rule.space.halves.copy))
      (book_goes_on_with_colours heap state book coloured named)

  -- a turn that loads
  pub keeps_rule_by_load_on : (a : Address) → IsMachine heap (after_turn state (put heap state.words a (at heap state.words a)) (quiet (at_stage state.collector stage)))
      → MarkingStands heap state.words book.owner book.colour book.fragments state.collector.phase stage → ¬ HasMarked from → StageGoesOn heap state.words book state.collector (at_stage state.collector stage)
      → Keeps heap state (after_turn state (put heap state.words a (at heap state.words a)) (quiet (at_stage state.collector stage))) book book.begun []
  keeps_rule_by_load_on a machine marks goes on =
      keeps_rule_by_load_turn heap state book a (at_stage state.collector stage) rule machine record { log = rule.collector_stands.log; phase_told = rule.collector_stands.phase_told; looked = rule.collector_stands.looked }
      record {
        heap_marks = marks;
        roots = λ r below is_marking answered. rule.marks_stand.roots r below record { phase = is_marking.phase; goes_on = λ ended. goes (subst HasMarked was ended) } answered;
      } on

  -- one that loads and leads from a stage of marking to another
  pub keeps_rule_by_marking_load : (a : Address) → IsMachine heap (after_turn state (put heap state.words a (at heap state.words a)) (quiet (at_stage state.collector stage)))
      → MarkingStands heap state.words book.owner book.colour book.fragments state.collector.phase stage → OfMarking from → OfMarking stage
      → Keeps heap state (after_turn state (put heap state.words a (at heap state.words a)) (quiet (at_stage state.collector stage))) book book.begun []
  keeps_rule_by_marking_load a machine marks before after = keeps_rule_by_load_on a machine marks (marking_has_not_ended from before)
      (plain_stage_goes_on heap state.words state.words book state.collector (at_stage state.collector stage) refl (subst IsPlain (sym was) (marking_is_plain from before)) (marking_is_plain stage after)
      (λ half offset. refl) rule.space.halves.copy)
