-- What is in use behind a cycle that began and ended in a collect of the one seat.
use Rattle.std.proofs.Common.{◌≡◌, ℕ, ◌+◌, ◌*◌, ◌%◌, ◌<◌, ◌≤◌, true, false, List, [], ◌∷◌, ◌++◌, refl, sym, ap, ◌∙◌, subst, append_assoc, arith}
use Rattle.std.specs.List.{AllByRecursion, list_any, range_with_len, sum_by}
use Rattle.std.proofs.lemmas.Bool.{eq-eqb, ne_eqb, or_from}
use Rattle.std.proofs.lemmas.List.Sums.{fold-append, sum_by-cons}
use Rattle.heap_model.specs.Board.{board_fragments}
use Rattle.heap_model.specs.PhasePlan.{cycle_phases, barriers}
use Rattle.heap_model.specs.declared.entry.Entry.{Entry}
use Rattle.heap_model.specs.declared.entry.Entry.TheVariants.{Advance, Ends}
use Rattle.heap_model.specs.declared.heap.Heap.{Heap}
use Rattle.heap_model.specs.declared.id.Id.{Id}
use Rattle.heap_model.specs.account.Account.{IsLegal, KeepsSpace, KeepsSpaceAfter}
use Rattle.heap_model.specs.account.Cycles.{graph_of, brings, all_bring, IsWithinBounds}
use Rattle.heap_model.specs.account.Effects.{effect_of}
use Rattle.heap_model.specs.account.PhaseCounts.{phase}
use Rattle.heap_model.specs.account.Space.{total, taken_of, fragments_unborn}
use Rattle.heap_model.specs.account.Windows.{is_reply_to, begins_cycle, up_to_reply, since_reply, up_to_cycle, since_cycle}
use Rattle.heap_model.specs.graph.Graph.{opening}
use Rattle.heap_model.specs.graph.Growth.{after_entry}
use Rattle.heap_model.specs.graph.Reach.{IsReach}
use Rattle.heap_model.specs.graph.Sizes.{fragments_of_all, spine_words_of_all}
use Rattle.heap_model.proofs.Histories.{total-more}
use Rattle.heap_model.proofs.account_lemmas.Fronts.{front_keeps_rules, back_keeps_rules, entry_keeps_rules}
use Rattle.heap_model.proofs.account_lemmas.Sections.{up_to_last_stays, after_last_grows, total-append}
use Rattle.heap_model.proofs.account_lemmas.Windows.{total_is_own_and_others, up_to_last-yes, after_last-yes, up_to_last-no, after_last-no}
use Rattle.press_alloc.specs.Calls.{IsNoReply, MovesNothing}
use Rattle.press_alloc.specs.Refusals.{HoldsCycle}
use Rattle.press_alloc.proofs.Collected.{begin_of}
use Rattle.press_alloc.proofs.Silence.{all_of_parts, graph_stays, none_replies, nothing_taken, nothing_given, nothing_granted}

-- entries that are no replies change nothing of the graph of a history
pub graph_of-silent : (heap : Heap) (history added : List Entry) → AllByRecursion IsNoReply added → graph_of heap (history ++ added) ≡ graph_of heap history
graph_of-silent heap history added silent = fold-append after_entry (opening heap) history added ∙ graph_stays (graph_of heap history) added silent

-- the begin of a cycle is one
begins : (cycle : ℕ) → begins_cycle (begin_of cycle) ≡ true
begins cycle = eq-eqb ((cycle_phases * cycle + barriers) % cycle_phases) barriers (omega arith)

-- between the begin of a cycle and its end no other begins
module _ (heap : Heap) (cycle : ℕ) where
  begins_none : (before : List Entry) (entry : Entry) → KeepsSpace heap true before entry → cycle_phases * cycle + 1 ≤ phase before → phase before + (effect_of entry).phases ≤ cycle_phases * cycle + 6 → begins_cycle entry ≡ false
  begins_none before (Advance p) keeps later earlier =
      let next : p ≡ phase before + 1 = keeps.begins.0 in
      ne_eqb (p % cycle_phases) barriers (λ same. omega (arith, same, next, later, earlier))
  begins_none before entry keeps later earlier = refl

  none_begins : (before added : List Entry) → KeepsSpaceAfter heap true before added → cycle_phases * cycle + 1 ≤ phase before → phase before + phase added ≤ cycle_phases * cycle + 6 → list_any begins_cycle added ≡ false
  none_begins before [] keeps later earlier = refl
  none_begins before (entry ∷ added) keeps later earlier =
      let more = total-more (λ e. e.phases) before entry in
      let both = sum_by-cons (λ e. (effect_of e).phases) entry added in
      or_from (begins_cycle entry) (list_any begins_cycle added) (begins_none before entry keeps.0 later (omega (arith, earlier, both)))
      (none_begins (before ++ entry ∷ []) added keeps.1 (omega (arith, later, more)) (omega (arith, earlier, more, both)))

module _ (heap : Heap) (number : ℕ) (within : number < heap.seats) (one : heap.seats ≡ 1) (before told : List Entry) (held : HoldsCycle told)
    (parted : up_to_reply number before ≡ before) (fresh : since_reply number before ≡ [])
    (silent : AllByRecursion IsNoReply told) (moves : AllByRecursion MovesNothing told) (legal : IsLegal heap true (before ++ told)) where
  -- the history up to the begin of the cycle, that up to its end, and all of it
  abbrev start : List Entry
  start = before ++ held.before

  abbrev begun : List Entry
  begun = start ++ begin_of held.cycle ∷ []

  abbrev till : List Entry
  till = begun ++ held.within

  abbrev end : Entry
  end = Ends held.cycle held.kept

  whole : before ++ told ≡ till ++ end ∷ held.behind
  whole = ap (λ es. before ++ es) held.parts ∙ simp append_assoc

  legal_whole : IsLegal heap true (till ++ end ∷ held.behind)
  legal_whole = subst (IsLegal heap true) whole legal

  ends : KeepsSpace heap true till end
  ends = entry_keeps_rules heap true till held.behind end legal_whole

  -- what was told before the begin, and between that and the end
  silent_parts : AllByRecursion IsNoReply held.before × AllByRecursion IsNoReply (begin_of held.cycle ∷ (held.within ++ end ∷ held.behind))
  silent_parts = all_of_parts IsNoReply held.before _ (subst (AllByRecursion IsNoReply) held.parts silent)

  silent_within : AllByRecursion IsNoReply held.within
  silent_within = (all_of_parts IsNoReply held.within _ silent_parts.1.1).0

  moves_parts : AllByRecursion MovesNothing held.before × AllByRecursion MovesNothing (begin_of held.cycle ∷ (held.within ++ end ∷ held.behind))
  moves_parts = all_of_parts MovesNothing held.before _ (subst (AllByRecursion MovesNothing) held.parts moves)

  moves_within : AllByRecursion MovesNothing held.within
  moves_within = (all_of_parts MovesNothing held.within _ moves_parts.1.1).0

  -- the last cycle begins there
  begin_keeps : KeepsSpace heap true start (begin_of held.cycle)
  begin_keeps = entry_keeps_rules heap true start (held.within ++ end ∷ held.behind) (begin_of held.cycle) (subst (IsLegal heap true) (simp append_assoc) legal_whole)

  none_within : list_any begins_cycle held.within ≡ false
  none_within =
      let rules = back_keeps_rules heap true [] begun held.within (front_keeps_rules heap true [] till (end ∷ held.behind) legal_whole.space) in
      let first : cycle_phases * held.cycle + barriers ≡ phase start + 1 = begin_keeps.begins.0 in
      let more = total-more (λ e. e.phases) start (begin_of held.cycle) in
      none_begins heap held.cycle begun held.within rules (omega (arith, first, more)) (omega (arith, ends.ends.0.0, total-append (λ e. e.phases) begun held.within))

  up_to : up_to_cycle till ≡ begun
  up_to = up_to_last_stays begins_cycle begun held.within none_within ∙ up_to_last-yes begins_cycle start (begin_of held.cycle) (begins held.cycle)

  since : since_cycle till ≡ held.within
  since = after_last_grows begins_cycle begun held.within none_within ∙ ap (λ es. es ++ held.within) (after_last-yes begins_cycle start (begin_of held.cycle) (begins held.cycle))

  same_graph : graph_of heap begun ≡ graph_of heap before
  same_graph = graph_of-silent heap start (begin_of held.cycle ∷ []) (tt, tt) ∙ graph_of-silent heap before held.before silent_parts.0

  -- and the seat brings what it had after its refusal
  up_to_refusal : up_to_reply number begun ≡ before
  up_to_refusal =
      up_to_last-no (is_reply_to number) start (begin_of held.cycle) refl
      ∙ up_to_last_stays (is_reply_to number) before held.before (none_replies number held.before silent_parts.0) ∙ parted

  since_refusal : since_reply number begun ≡ held.before ++ begin_of held.cycle ∷ []
  since_refusal =
      after_last-no (is_reply_to number) start (begin_of held.cycle) refl
      ∙ ap (λ es. es ++ begin_of held.cycle ∷ []) (after_last_grows (is_reply_to number) before held.before (none_replies number held.before silent_parts.0) ∙ ap (λ es. es ++ held.before) fresh)

  brings_rest : brings number begun ≡ fragments_unborn number before
  brings_rest = omega (
    arith,
    ap (fragments_unborn number) up_to_refusal,
    ap (taken_of number) since_refusal,
    total_is_own_and_others number (λ e. e.taken) (held.before ++ begin_of held.cycle ∷ []),
    total-more (λ e. e.taken) held.before (begin_of held.cycle),
    nothing_taken held.before moves_parts.0,
  )

  all_bring_rest : all_bring heap begun ≡ fragments_unborn number before
  all_bring_rest =
      let all : all_bring heap begun ≡ sum_by (λ n. brings n begun) (range_with_len 0 1) = ap (λ n. sum_by (λ n. brings n begun) (range_with_len 0 n)) one in
      let first : 0 ≡ number = omega (arith, within, one) in
      omega (arith, all, sum_by-cons (λ n. brings n begun) 0 [], ap (λ n. brings n begun) first, brings_rest)

  module _ (reached : List Id) (reaches : IsReach (graph_of heap before) reached) where
    -- so the cycle leaves no more than what is reached and what the seat had
    bounds : IsWithinBounds heap till held.kept reached
    bounds = ends.ends.1.within reached (subst (λ g. IsReach g reached) (sym (ap (graph_of heap) up_to ∙ same_graph)) reaches)

    reached_then : fragments_of_all (graph_of heap (up_to_cycle till)) reached ≡ fragments_of_all (graph_of heap before) reached
    reached_then = ap (λ g. fragments_of_all g reached) (ap (graph_of heap) up_to ∙ same_graph)

    words_then : spine_words_of_all (graph_of heap (up_to_cycle till)) reached ≡ spine_words_of_all (graph_of heap before) reached
    words_then = ap (λ g. spine_words_of_all g reached) (ap (graph_of heap) up_to ∙ same_graph)

    pub fragments_left : board_fragments heap + total (λ e. e.taken) before
        ≤ total (λ e. e.given) before + total (λ e. e.freed) (before ++ told) + fragments_of_all (graph_of heap before) reached + fragments_unborn number before
    fragments_left = omega (
      arith,
      bounds.used,
      reached_then,
      ap (all_bring heap) up_to,
      all_bring_rest,
      ap (total (λ e. e.taken)) since,
      nothing_taken held.within moves_within,
      nothing_given held.within moves_within,
      nothing_given held.before moves_parts.0,
      total-append (λ e. e.taken) begun held.within,
      total-more (λ e. e.taken) start (begin_of held.cycle),
      total-append (λ e. e.taken) before held.before,
      total-append (λ e. e.given) begun held.within,
      total-more (λ e. e.given) start (begin_of held.cycle),
      total-append (λ e. e.given) before held.before,
      ap (total (λ e. e.freed)) whole,
      total-append (λ e. e.freed) till (end ∷ held.behind),
    )

    pub words_left : total (λ e. e.words) before ≤ total (λ e. e.returned) (before ++ told) + spine_words_of_all (graph_of heap before) reached
    words_left = omega (
      arith,
      bounds.spine,
      words_then,
      ap (total (λ e. e.words)) since,
      nothing_granted held.within silent_within,
      total-append (λ e. e.words) begun held.within,
      total-more (λ e. e.words) start (begin_of held.cycle),
      total-append (λ e. e.words) before held.before,
      ap (total (λ e. e.returned)) whole,
      total-append (λ e. e.returned) till (end ∷ held.behind),
    )
