-- How many sets a seat has done is how many its log has; so logs have few where their seats have done few, or were told few commands that set.
use Rattle.std.proofs.Common.{◌≡◌, ℕ, ◌+◌, ◌<◌, ◌≤◌, inl, inr, Bool, true, false, cond, count_by, List, [], ◌∷◌, ◌++◌, length, get_or, refl, sym, ap, ◌∙◌, arith}
use Rattle.std.specs.List.{filter}
use Rattle.std.proofs.lemmas.Bool.{cases_lt, cases_Bool}
use Rattle.std.proofs.lemmas.List.{get_or_default, get_or_past, get_or-replicate}
use Rattle.std.proofs.lemmas.List.Concat.{flat_map-cons}
use Rattle.std.proofs.lemmas.List.Elements.{filter-append}
use Rattle.std.proofs.lemmas.List.Sums.{fold-append, sum_by-append}
use Rattle.heap_model.specs.Limits.{stamp_limit}
use Rattle.heap_model.specs.Logs.{logs_of}
use Rattle.heap_model.specs.declared.heap.Heap.{Heap}
use Rattle.heap_model.specs.declared.command.Command.{Command}
use Rattle.heap_model.specs.declared.command.Command.TheVariants as commands
use Rattle.heap_model.specs.declared.reply.Reply.{Reply}
use Rattle.heap_model.specs.declared.reply.Reply.TheVariants as replies
use Rattle.heap_model.specs.declared.entry.Entry.{Entry}
use Rattle.heap_model.specs.declared.entry.Entry.TheVariants as entries
use Rattle.heap_model.specs.account.Effects.{is_of}
use Rattle.heap_model.specs.account.Noting.{is_collectors}
use Rattle.heap_model.specs.graph.Objects.{absent_graph_seat, graph_seat, opening}
use Rattle.heap_model.specs.graph.Graph.{Graph, GraphSeat, opening_graph_seat}
use Rattle.heap_model.specs.graph.Growth.{after_entry, graph_after}
use Rattle.heap_model.specs.runs.Told.{command_told, commands_told}
use Rattle.log_merge.specs.FewSets.{is_set, set_count, HaveFewSets}
use Rattle.log_merge.proofs.merge_lemmas.Changes.{own, seat_count_after_entry}
use Rattle.log_merge.proofs.merge_lemmas.FewSets.{one_at_most, sets_by_entry}
use Rattle.log_merge.proofs.merge_lemmas.Parts.{filter-yes, filter-no, length-logs_of, log_at, part_of-collector, part_of-seat}
use Rattle.log_merge.proofs.merge_lemmas.Rests.{seat_count_after_history, seat_count_at_opening}

-- the first entry's sets, and those of the rest
split : (p : Entry → Bool) (e : Entry) (es : List Entry) → set_count (filter p (e ∷ es)) ≡ set_count (filter p (e ∷ [])) + set_count (filter p es)
split p e es = ap set_count (filter-append p (e ∷ []) es) ∙ sum_by-append (λ (x : Entry). cond (is_set x) 1 0) (filter p (e ∷ [])) (filter p es)

-- a seat's count grows by its own sets
pub sets_by_history : (g : Graph) (es : List Entry) (number : ℕ) → number < length g.seats → (own (graph_after g es) number).sets ≡ (own g number).sets + set_count (filter (is_of number) es)
sets_by_history g [] number within = omega arith
sets_by_history g (e ∷ es) number within =
    let rest = sets_by_history (after_entry g e) es number (omega (arith, within, seat_count_after_entry g e)) in
    let first = sets_by_entry g e number within in
    omega (arith, rest, first, split (is_of number) e es)

-- and no seat's by more, be it there or not
pub sets_at_most : (g : Graph) (es : List Entry) (number : ℕ) → (own (graph_after g es) number).sets ≤ (own g number).sets + set_count (filter (is_of number) es)
sets_at_most g es number = elim (cases_lt number (length g.seats)) [
  | inl within ↦ omega (arith, sets_by_history g es number within)
  | inr past ↦ (let none = ap (λ (s : GraphSeat). s.sets) (get_or_past (graph_after g es).seats number absent_graph_seat (omega (arith, past, seat_count_after_history g es))) in omega (arith, none))
]

-- a part of a list is its own part
filter_again : (p : Entry → Bool) (es : List Entry) → filter p (filter p es) ≡ filter p es
filter_again p [] = refl
filter_again p (e ∷ es) = elim (cases_Bool (p e)) [
  | inl passes ↦ ap (filter p) (filter-yes p e es passes) ∙ filter-yes p e (filter p es) passes ∙ ap (λ xs. e ∷ xs) (filter_again p es) ∙ sym (filter-yes p e es passes)
  | inr fails ↦ ap (filter p) (filter-no p e es fails) ∙ filter_again p es ∙ sym (filter-no p e es fails)
]

-- the collector's log has no set
collector_sets_none : (es : List Entry) → set_count (filter is_collectors es) ≡ 0
collector_sets_none [] = refl
collector_sets_none (e ∷ es) = omega (arith, split is_collectors e es, collector_sets_none es, none e)
  where
    none : (e : Entry) → set_count (filter is_collectors (e ∷ [])) ≡ 0
    none (entries.Said number command reply) = refl
    none (entries.Takes number count) = refl
    none (entries.GivesBack number count) = refl
    none (entries.Answers number phase) = refl
    none (entries.Advance phase) = refl
    none (entries.Frees count) = refl
    none (entries.Returns count) = refl
    none (entries.Swings id) = refl
    none (entries.Ends cycle kept) = refl
    none (entries.Turned command reply) = refl

module _ (heap : Heap) (history : List Entry) (logs : List (List Entry)) (kept : logs ≡ logs_of heap history) where
  -- logs have few sets where the seats' parts of the history have
  pub few_by_parts : ((number : ℕ) → number < heap.seats → set_count (filter (is_of number) history) < stamp_limit) → HaveFewSets logs
  few_by_parts few number other below =
      let within : number < heap.seats + 1 = omega (arith, below, ap length kept, length-logs_of heap history) in
      let is : get_or logs number other ≡ get_or (logs_of heap history) number [] = get_or_default logs number other [] below ∙ ap (λ ls. get_or ls number []) kept in
      elim (cases_lt number heap.seats) [
        | inl seat ↦ (let log = ap set_count (is ∙ log_at heap history number (omega arith) ∙ part_of-seat heap number history seat) in let all = few number seat in omega (arith, log, all))
        | inr past ↦ (let log = ap set_count (is ∙ log_at heap history number (omega (arith, within)) ∙ part_of-collector heap number history past) in omega (arith, log, collector_sets_none history))
      ]

  -- and where each seat has done few by its own log
  pub few_by_seats : ((number : ℕ) → number < heap.seats → (graph_seat (graph_after (opening heap) (get_or logs number [])) number).sets < stamp_limit) → HaveFewSets logs
  few_by_seats few = few_by_parts (λ number within.
      let mine : get_or logs number [] ≡ filter (is_of number) history = ap (λ ls. get_or ls number []) kept ∙ log_at heap history number (omega arith) ∙ part_of-seat heap number history within in
      let counted = sets_by_history (opening heap) (get_or logs number []) number (omega (arith, within, seat_count_at_opening heap)) in
      let none = ap (λ (s : GraphSeat). s.sets) (get_or-replicate heap.seats number opening_graph_seat absent_graph_seat within) in
      let own_part = ap (λ log. set_count (filter (is_of number) log)) mine ∙ ap set_count (filter_again (is_of number) history) in
      let all = few number within in
      omega (arith, counted, none, own_part, all))

-- the command sets where it is done
abbrev pub is_setting : Command → Bool
is_setting (commands.Set r i v) = true
is_setting (commands.Cas r i a v) = true
is_setting _ = false

set_is_setting : (seat : ℕ) (command : Command) (reply : Reply) → cond (is_set (entries.Said seat command reply)) 1 0 ≤ cond (is_setting command) 1 0
set_is_setting seat (commands.Set r i v) (replies.Was stamp) = omega arith
set_is_setting seat (commands.Cas r i a v) (replies.Was stamp) = omega arith
set_is_setting seat _ reply = omega arith

-- a seat's log has at most as many sets as it was told commands that set
pub sets_are_told : (number : ℕ) (es : List Entry) → set_count (filter (is_of number) es) ≤ count_by is_setting (commands_told number es)
sets_are_told number [] = omega arith
sets_are_told number (e ∷ es) =
    let told = ap (count_by is_setting) (flat_map-cons (command_told number) e es) in
    let sum = sum_by-append (λ (x : Command). cond (is_setting x) 1 0) (command_told number e) (commands_told number es) in
    omega (arith, split (is_of number) e es, sets_are_told number es, told, sum, first e)
  where
    said : (other : ℕ) (command : Command) (reply : Reply) (b : Bool) → is_of number (entries.Said other command reply) ≡ b
        → set_count (filter (is_of number) (entries.Said other command reply ∷ [])) ≤ count_by is_setting (command_told number (entries.Said other command reply))
    said other command reply true mine =
        let one = set_is_setting other command reply in
        rw mine (omega (arith, one))
    said other command reply false apart = rw apart (omega arith)

    first : (e : Entry) → set_count (filter (is_of number) (e ∷ [])) ≤ count_by is_setting (command_told number e)
    first (entries.Said other command reply) = said other command reply (is_of number (entries.Said other command reply)) refl
    first (entries.Takes other count) = (let few = one_at_most (is_of number) (entries.Takes other count) in omega (arith, few))
    first (entries.GivesBack other count) = (let few = one_at_most (is_of number) (entries.GivesBack other count) in omega (arith, few))
    first (entries.Answers other phase) = (let few = one_at_most (is_of number) (entries.Answers other phase) in omega (arith, few))
    first _ = omega arith

-- by what it tells further a seat does at most as many sets more as that answers commands that set
pub sets_grow_as_told : (heap : Heap) (log part : List Entry) (number : ℕ) (told : List Command) → commands_told number part ≡ told
    → (graph_seat (graph_after (opening heap) (log ++ part)) number).sets ≤ (graph_seat (graph_after (opening heap) log) number).sets + count_by is_setting told
sets_grow_as_told heap log part number told is =
    let both = ap (λ (g : Graph). (graph_seat g number).sets) (fold-append after_entry (opening heap) log part) in
    omega (arith, both, sets_at_most (graph_after (opening heap) log) part number, sets_are_told number part, ap (count_by is_setting) is)
