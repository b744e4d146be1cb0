-- On a heap with one seat a cycle begins and ends in each collect.
use Rattle.std.specs.Prelude.{Contains}
use Rattle.std.proofs.Common.{◌≡◌, ℕ, ◌+◌, ◌*◌, ◌<◌, true, List, [], ◌∷◌, ◌++◌, inl, inr, sym, ap, ◌∙◌, subst, append_assoc, arith}
use Rattle.std.specs.List.{AllByRecursion}
use Rattle.std.proofs.lemmas.List.Elements.{Contains-append_cases}
use Rattle.std.proofs.lemmas.List.Sums.{sum_by-cons}
use Rattle.heap_model.specs.PhasePlan.{cycle_phases, barriers}
use Rattle.heap_model.specs.declared.command.Command.TheVariants.{Collect}
use Rattle.heap_model.specs.declared.entry.Entry.{Entry}
use Rattle.heap_model.specs.declared.entry.Entry.TheVariants.{Said, Advance, Ends}
use Rattle.heap_model.specs.declared.heap.Heap.{Heap}
use Rattle.heap_model.specs.declared.reply.Reply.{Reply}
use Rattle.heap_model.specs.declared.reply.Reply.TheVariants.{Cycle, Waits}
use Rattle.heap_model.specs.account.Account.{IsLegal}
use Rattle.heap_model.specs.account.Effects.{effect_of}
use Rattle.heap_model.specs.account.PhaseCounts.{phase, HasEnded, BeganSince}
use Rattle.heap_model.specs.account.Phases.{ShowsPhases}
use Rattle.heap_model.specs.account.Windows.{is_reply_to, since_reply}
use Rattle.heap_model.specs.graph.Replies.{Collects}
use Rattle.heap_model.proofs.account_lemmas.Fronts.{front_is_legal, entry_is_accepted, entry_keeps_rules}
use Rattle.heap_model.proofs.account_lemmas.Sections.{after_last_grows, total-append, IsAt, contained_is_at}
use Rattle.press_alloc.specs.Calls.{IsNoReply}
use Rattle.press_alloc.specs.Refusals.{HoldsCycle}
use Rattle.press_alloc.proofs.Silence.{none_replies}

-- the entry that begins the cycle
abbrev pub begin_of : ℕ → Entry
begin_of cycle = Advance (cycle_phases * cycle + barriers)

-- what ends a cycle doesn't begin one, so it stands behind the begin
end_is_behind : (begun cycle kept : ℕ) (back front rest : List Entry) → begin_of begun ∷ back ≡ front ++ Ends cycle kept ∷ rest → IsAt (Ends cycle kept) back
end_is_behind begun cycle kept back [] rest parts = absurd (cc)
end_is_behind begun cycle kept back (first ∷ front) rest parts = record { front = front; back = rest; parts = cc }

module _ (heap : Heap) (number : ℕ) (within : number < heap.seats) (one : heap.seats ≡ 1) (before told : List Entry) where
  -- no cycle has ended before it began
  ends_later : (cycle kept : ℕ) (front back : List Entry) → IsLegal heap true (front ++ begin_of cycle ∷ back) → Contains front (Ends cycle kept) → ⊥
  ends_later cycle kept front back legal early =
      let at = contained_is_at front (Ends cycle kept) early in
      let begins = entry_keeps_rules heap true front back (begin_of cycle) legal in
      let ends = entry_keeps_rules heap true at.front at.back (Ends cycle kept) (subst (IsLegal heap true) at.parts (front_is_legal heap true front (begin_of cycle ∷ back) legal)) in
      omega (
        arith,
        begins.begins.0,
        ends.ends.0.0,
        ap phase at.parts,
        total-append (λ e. e.phases) at.front (Ends cycle kept ∷ at.back),
        sum_by-cons (λ e. (effect_of e).phases) (Ends cycle kept) at.back,
      )

  ended_behind_begin : (cycle : ℕ) → IsLegal heap true (before ++ told) → HasEnded cycle (before ++ told) → IsAt (begin_of cycle) told → HoldsCycle told
  ended_behind_begin cycle legal ended began =
      let whole : before ++ told ≡ (before ++ began.front) ++ begin_of cycle ∷ began.back =
      ap (λ es. before ++ es) began.parts ∙ sym (append_assoc before began.front (begin_of cycle ∷ began.back)) in
      elim (Contains-append_cases (before ++ began.front) (begin_of cycle ∷ began.back) (Ends cycle ended.0) (subst (λ es. Contains es (Ends cycle ended.0)) whole ended.1)) [
        | inl early ↦ absurd (ends_later cycle ended.0 (before ++ began.front) began.back (subst (IsLegal heap true) whole legal) early)
        | inr late ↦ (
            let at = contained_is_at (begin_of cycle ∷ began.back) (Ends cycle ended.0) late in
            let end = end_is_behind cycle cycle ended.0 began.back at.front at.back at.parts in record {
              cycle = cycle;
              before = began.front;
              within = end.front;
              kept = ended.0;
              behind = end.back;
              parts = began.parts ∙ ap (λ es. began.front ++ begin_of cycle ∷ es) end.parts;
            })
      ]

  -- there is no other seat to wait for, so a cycle is told
  tells_cycle : (reply : Reply) → Collects reply → ShowsPhases heap true (before ++ told) number Collect reply
      → (cycle : ℕ) × HasEnded cycle (before ++ told) × BeganSince number cycle (before ++ told)
  tells_cycle (Cycle cycle) collects shows = (cycle, shows.0, shows.1)
  tells_cycle (Waits other answered p) collects shows =
      let below : other < heap.seats = shows.0 in
      absurd (shows.1 (omega (arith, below, within, one)))
  tells_cycle reply collects shows = absurd collects

  pub cycle_in_collect : (answer : Reply) → since_reply number before ≡ [] → AllByRecursion IsNoReply told → IsLegal heap true ((before ++ told) ++ Said number Collect answer ∷ []) → HoldsCycle told
  cycle_in_collect answer fresh silent legal =
      let accepted = entry_is_accepted heap true (before ++ told) [] (Said number Collect answer) legal in
      let keeps = entry_keeps_rules heap true (before ++ told) [] (Said number Collect answer) legal in
      let cycle = tells_cycle answer accepted.2 keeps.shows in
      let since : since_reply number (before ++ told) ≡ told = after_last_grows (is_reply_to number) before told (none_replies number told silent) ∙ ap (λ es. es ++ told) fresh in
      ended_behind_begin cycle.0 (front_is_legal heap true (before ++ told) (Said number Collect answer ∷ []) legal) cycle.1
      (contained_is_at told (begin_of cycle.0) (subst (λ es. Contains es (begin_of cycle.0)) since cycle.2))
