-- A turn of the collector that the token's view tells: it is allowed, and what is kept of the view is kept after it.
use Rattle.std.proofs.Common.{◌≡◌, ℕ, [], sym, ap, subst, ◌∙◌}
use Rattle.atomic_table.specs.Seated.{TableId}
use Rattle.atomic_table.specs.Table.{Me, Allows}
use Rattle.heap_model.specs.calls.CollectorCalls.{ComesTo}
use Rattle.heap_model.specs.declared.heap.Heap.{Heap}
use Rattle.core_machine.specs.collector.Collector.{Collector, next_turn}
use Rattle.core_machine.specs.collector.FitsTurns.{CollectorFits}
use Rattle.core_machine.specs.declared.step.Step.{Step}
use Rattle.core_machine.specs.declared.step.operation.Operation.{Operation}
use Rattle.core_machine.specs.declared.step.operation.Operation.TheVariants.{Store}
use Rattle.core_machine.specs.table.Decode.{FoundPointsWithin}
use Rattle.core_machine.specs.table.Layout.{index_of, HasWord}
use Rattle.core_machine.specs.table.Operation.{address_of, operation_of, operation_result, word_after}
use Rattle.core_machine.proofs.collector_lemmas.{turn_stands}
use Rattle.heap_table.specs.Holds.{Holds}
use Rattle.heap_table.specs.Known.{CollectorKnown}
use Rattle.heap_table.specs.ManyTurns.{KeepsAhead}
use Rattle.heap_table.specs.Told.{next_collector, next_known, Shows, TurnHasWord, ToldAtTurn, Tells, TellsStored}
use Rattle.heap_table.specs.TokenOf.{IsTokenOf}
use Rattle.heap_table.specs.Views.{collector_view, known_by}
use Rattle.heap_table.specs.declared.view.View.{View}
use Rattle.heap_table.proofs.Quiet.{quiet_collector_ignores_word, quiet_answer_ignores_word, store_is_quiet}
use Rattle.heap_table.proofs.Stored.{tells_stored_of_store}
use Rattle.heap_table.proofs.Turns.{rule_allows_turn}

-- what is told at the due turn of the collector whose view this is
abbrev pub TurnTells : Heap → Me (Unit {0}) View → ℕ → Me (Unit {0}) View → Type 0
TurnTells heap me = Tells (λ n. collector_view (next_known heap (known_by me.0) n)) (ToldAtTurn heap (known_by me.0).collector) me

module _ (shared : TableId) (key : Heap) (mine : TableId) (me : Me (Unit {0}) View) (heap : Heap) (keeps : KeepsAhead shared key mine me heap) where
  abbrev known : CollectorKnown
  known = known_by me.0

  module _ (step : Step) (due : (next_turn heap known.collector).step ≡ step) where
    -- the turn has its word
    pub ahead_has_its_word : HasWord heap (address_of step)
    ahead_has_its_word = subst (λ (s : Step). HasWord heap (address_of s)) due keeps.has_word

    -- the rule allows it
    pub ahead_is_allowed : (slots id : ℕ) (key' : Heap) → (next_turn heap known.collector).may → slots ≡ shared.slots → key' ≡ key
        → Allows (Holds key') slots id me (index_of heap (address_of step)) (word_after step) (TurnTells heap me)
    ahead_is_allowed slots id key' may slots_are key_is =
        let none_ : slots ≡ 0 = slots_are ∙ ap (λ (z : TableId). z.slots) (sym keeps.token.of.table) ∙ keeps.token.of.slots in
        subst (λ (k : Heap). Allows (Holds k) slots id me (index_of heap (address_of step)) (word_after step) (TurnTells heap me)) (sym (key_is ∙ keeps.token.of.key_is))
        (subst (λ (k : ℕ). Allows (Holds heap) k id me (index_of heap (address_of step)) (word_after step) (TurnTells heap me)) (sym none_)
        (subst (λ (m : Me (Unit {0}) View). Allows (Holds heap) 0 id m (index_of heap (address_of step)) (word_after step) (Tells (λ n. collector_view (next_known heap known n)) (ToldAtTurn heap known.collector) m)) (sym keeps.token.knows)
        (rule_allows_turn heap known step due may keeps.unread id)))

    -- of a store, it tells what goes with the word stored
    pub ahead_tells_stored : TellsStored (operation_of step) (TurnTells heap me)
    ahead_tells_stored = tells_stored_of_store (operation_of step) (TurnTells heap me) (λ word is found after tells.
        let stores : operation_of (next_turn heap known.collector).step ≡ Store word = ap operation_of due ∙ is in
        let quiet = store_is_quiet (next_turn heap known.collector).step word stores in
        let same = quiet_collector_ignores_word heap known.collector found word quiet in
        let stands = turn_stands heap known.collector keeps.token.limits keeps.fits in (
          tells.0 ∙ ap (λ (c : Collector). (collector_view (record known { collector = c }), me.1)) same,
          record {
            leads = subst (λ (o : Operation). FoundPointsWithin heap (address_of (next_turn heap known.collector).step) (operation_result o found)) stores (stands.step.leads found tells.1.leads);
            fits = subst (CollectorFits heap) same tells.1.fits;
            has_word = subst (TurnHasWord heap) same tells.1.has_word;
            comes_to = λ old new shown shown_after. subst (ComesTo old new) (quiet_answer_ignores_word heap known.collector found word quiet)
                (tells.1.comes_to old new shown (subst (Shows new) (sym same) shown_after));
          },
        ))

  module _ (mine' : TableId) (me' : Me (Unit {0}) View) (found : ℕ) (tells : TurnTells heap me found me') where
    -- what is known after the turn
    pub ahead_knows : known_by me'.0 ≡ next_known heap known found
    ahead_knows = ap (λ (m : Me (Unit {0}) View). known_by m.0) tells.0

    -- and what is kept
    pub keeps_ahead_after_turn : mine' ≡ mine → KeepsAhead shared key mine' me' heap
    keeps_ahead_after_turn same =
        let collector_is : (known_by me'.0).collector ≡ next_collector heap known.collector found = ap (λ (k : CollectorKnown). k.collector) ahead_knows in
        record {
          token = record {
            of = subst (λ (z : TableId). IsTokenOf shared key z heap) (sym same) keeps.token.of;
            limits = keeps.token.limits;
            knows = tells.0 ∙ ap (λ (m : Me (Unit {0}) View). (collector_view (next_known heap known found), m.1)) keeps.token.knows ∙ ap (λ (k : CollectorKnown). (collector_view k, [])) (sym ahead_knows);
          };
          unread = ap (λ (k : CollectorKnown). k.closed) ahead_knows ∙ keeps.unread;
          fits = subst (CollectorFits heap) (sym collector_is) tells.1.fits;
          has_word = subst (TurnHasWord heap) (sym collector_is) tells.1.has_word;
        }
