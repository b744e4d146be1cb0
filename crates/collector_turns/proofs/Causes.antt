-- Why a turn answers what it does, stage by stage.
use Rattle.std.proofs.Common.{◌≡◌, ◌≢◌, ℕ, ◌+◌, ◌*◌, ◌/◌, Bool, true, false, if◌then◌else◌, inl, inr, refl, sym, ap, ◌∙◌, arith}
use Rattle.std.specs.Prelude.{◌↔◌}
use Rattle.std.proofs.lemmas.Bool.Decides.{eqb_tells}
use Rattle.heap_words.specs.declared.phase.TheConstants.{LEFT}
use Rattle.heap_model.specs.declared.heap.Heap.{Heap}
use Rattle.heap_model.specs.declared.calls.collector_calls.Turn.{Turn}
use Rattle.heap_model.specs.declared.calls.collector_calls.Turn.TheVariants.{Stepped, Waits, Ended}
use Rattle.core_machine.specs.collector.Collector.{Collector, next_turn, turn_at, has_answered_of}
use Rattle.core_machine.specs.declared.collector.stage.Copying.TheVariants.{Visiting}
use Rattle.core_machine.specs.declared.collector.stage.Stage.{Stage}
use Rattle.core_machine.specs.declared.collector.stage.Stage.TheVariants as stages
use Rattle.core_machine.specs.declared.step.Step.TheVariants.{Turning}
use Rattle.core_machine.specs.declared.step.TurningStep.TheVariants.{LookLoad, EndAdvance}
use Rattle.heap_table.specs.CollectorHeld.{CollectorHeld}
use Rattle.collector_turns.specs.Turning.{FindsUnanswered, EndsCycle}

-- a word shows no answer exactly where it is neither the phase nor that of a seat that has left
no_answer : (p word : ℕ) → has_answered_of p word ≡ false ↔ ((word ≢ p) × (word ≢ LEFT))
no_answer p word = elim (eqb_tells word p) [
  | inl same ↦ (λ none. absurd (cc (none, same.0)), λ neither. absurd (neither.0 same.1))
  | inr other ↦ elim (eqb_tells word LEFT) [
    | inl left ↦ (λ none. absurd (cc (none, other.0, left.0)), λ neither. absurd (neither.1 left.1))
    | inr neither ↦ (λ none. (other.1, neither.1), λ both. cc (other.0, neither.0))
  ]
]

module _ (heap : Heap) (collector : Collector) (found : ℕ) where
  -- where the turn at a stage waits, it looks at the seat, whose word shows no answer
  record WaitsAt (stage : Stage) (seat answered phase : ℕ) : Type 0 where
    pub looks : (turn_at heap collector stage).step ≡ Turning (LookLoad seat)
    pub word : found ≡ answered
    pub here : collector.phase ≡ phase
    pub none : has_answered_of collector.phase found ≡ false

  waits_at : (seat answered phase : ℕ) (stage : Stage) → (turn_at heap collector stage).answer found ≡ Waits seat answered phase → WaitsAt stage seat answered phase
  waits_at seat answered phase stages.Looking is = by (has_answered_of collector.phase found) refl is
    where
      by : (b : Bool) → has_answered_of collector.phase found ≡ b → (if b then Stepped else Waits collector.looked found collector.phase) ≡ Waits seat answered phase
          → WaitsAt stages.Looking seat answered phase
      by true none is = absurd (cc is)
      by false none is = let looked : collector.looked ≡ seat = cc in record { looks = ap (λ (s : ℕ). Turning (LookLoad s)) looked; word = cc; here = cc; none = none }
  waits_at seat answered phase _ is = absurd (cc is)

  -- and where it looks at a seat whose word shows no answer, it waits
  looks_at : (seat : ℕ) (stage : Stage) → (turn_at heap collector stage).step ≡ Turning (LookLoad seat) → has_answered_of collector.phase found ≡ false
      → (turn_at heap collector stage).answer found ≡ Waits seat found collector.phase
  looks_at seat stages.Looking is none = let looked : collector.looked ≡ seat = cc in rw (none, looked) refl
  looks_at seat (stages.Copying (Visiting group)) is none = absurd (cc is)
  looks_at seat _ is none = absurd (cc is)

  -- where the turn at a stage ends a cycle, it is the end advance
  ends_at : (cycle kept : ℕ) (stage : Stage) → (turn_at heap collector stage).answer found ≡ Ended cycle kept → (turn_at heap collector stage).step ≡ Turning (EndAdvance (collector.phase + 1) kept)
  ends_at cycle kept stages.Looking is = by (has_answered_of collector.phase found) is
    where
      by : (b : Bool) → (if b then Stepped else Waits collector.looked found collector.phase) ≡ Ended cycle kept → Turning (LookLoad collector.looked) ≡ Turning (EndAdvance (collector.phase + 1) kept)
      by true is = absurd (cc is)
      by false is = absurd (cc is)
  ends_at cycle kept (stages.Ending counted) is = let same : counted ≡ kept = cc in rw same refl
  ends_at cycle kept _ is = absurd (cc is)

  -- and the end advance ends the cycle
  advance_ends : (kept : ℕ) (stage : Stage) → (turn_at heap collector stage).step ≡ Turning (EndAdvance (collector.phase + 1) kept) → (turn_at heap collector stage).answer found ≡ Ended (collector.phase / 7) kept
  advance_ends kept (stages.Ending counted) is = let same : counted ≡ kept = cc in rw same refl
  advance_ends kept (stages.Copying (Visiting group)) is = absurd (cc is)
  advance_ends kept _ is = absurd (cc is)

-- the turn waits exactly where it finds that a seat has yet to answer
pub waits_exactly : (held : CollectorHeld) (found : ℕ) (turn : Turn) → turn ≡ (next_turn held.heap held.known.collector).answer found
    → (seat answered phase : ℕ) → turn ≡ Waits seat answered phase ↔ FindsUnanswered held found seat answered phase
waits_exactly held found turn is seat answered phase =
    let collector = held.known.collector in (
      λ waits.
          let at = waits_at held.heap collector found seat answered phase collector.stage (sym is ∙ waits) in
          let neither = (no_answer collector.phase found).0 at.none in
          record {
            looks = at.looks;
            word = at.word;
            here = at.here;
            unanswered = λ same. neither.0 (at.word ∙ same ∙ sym at.here);
            there = λ left. neither.1 (at.word ∙ left);
          },
      λ finds.
          let none = (no_answer collector.phase found).1 (λ same. finds.unanswered (sym finds.word ∙ same ∙ finds.here), λ left. finds.there (sym finds.word ∙ left)) in
          is ∙ looks_at held.heap collector found seat collector.stage finds.looks none ∙ ap (λ (n : ℕ). Waits seat n collector.phase) finds.word ∙ ap (λ (p : ℕ). Waits seat answered p) finds.here,
    )

-- and a cycle ends exactly at its end
pub ends_exactly : (held : CollectorHeld) (found : ℕ) (turn : Turn) → turn ≡ (next_turn held.heap held.known.collector).answer found
    → ((cycle kept : ℕ) → turn ≡ Ended cycle kept → held.known.collector.phase ≡ 7 * cycle + 6) → (cycle kept : ℕ) → turn ≡ Ended cycle kept ↔ EndsCycle held cycle kept
ends_exactly held found turn is last cycle kept =
    let collector = held.known.collector in (
      λ ended. record { ends = ends_at held.heap collector found cycle kept collector.stage (sym is ∙ ended); cycle_is = last cycle kept ended },
      λ ends.
          let cycle_is : collector.phase / 7 ≡ cycle = omega (arith, ends.cycle_is) in
          is ∙ advance_ends held.heap collector found kept collector.stage ends.ends ∙ ap (λ (c : ℕ). Ended c kept) cycle_is,
    )
