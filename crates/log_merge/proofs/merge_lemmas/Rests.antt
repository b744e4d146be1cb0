-- What is left of the logs has an order in which it is legal, and its first entry is ready.
use Rattle.std.proofs.Common.{◌≡◌, ℕ, ◌+◌, ◌<◌, inl, inr, true, false, List, [], ◌∷◌, ◌++◌, get_or, length, Some, is_none, refl, sym, ap, ◌∙◌, subst, arith}
use Rattle.std.specs.List.{filter}
use Rattle.std.proofs.lemmas.Bool.{cases_lt, cases_Bool, eqb-true, eq-eqb, both_ways}
use Rattle.std.proofs.lemmas.List.{get_or-replicate, length-replicate}
use Rattle.std.proofs.lemmas.List.Sums.{fold-append}
use Rattle.heap_model.specs.Limits.{stamp_limit}
use Rattle.heap_model.specs.Logs.{logs_of}
use Rattle.heap_model.specs.declared.heap.Heap.{Heap}
use Rattle.heap_model.specs.declared.id.Value.{Value}
use Rattle.heap_model.specs.declared.command.Command.{Command}
use Rattle.heap_model.specs.declared.command.Command.TheVariants as commands
use Rattle.heap_model.specs.declared.reply.Reply.{Reply}
use Rattle.heap_model.specs.declared.reply.Reply.TheVariants as replies
use Rattle.heap_model.specs.declared.entry.Entry.{Entry}
use Rattle.heap_model.specs.declared.entry.Entry.TheVariants as entries
use Rattle.heap_model.specs.account.Effects.{is_of}
use Rattle.heap_model.specs.account.Noting.{seat_of}
use Rattle.heap_model.specs.account.Cycles.{graph_of}
use Rattle.heap_model.specs.graph.Objects.{absent_graph_seat, opening}
use Rattle.heap_model.specs.graph.Graph.{Graph, GraphSeat, opening_graph_seat}
use Rattle.heap_model.specs.graph.Growth.{after_entry, after_reply, graph_after}
use Rattle.heap_model.specs.graph.Legal.{Accepts, AcceptsAll}
use Rattle.log_merge.specs.Merging.{is_in_log, part_of, left_of, IsGetOf, Writes, HasGet, HasPendingGet, IsReady}
use Rattle.log_merge.specs.FewSets.{set_count, HaveFewSets}
use Rattle.log_merge.specs.Placing.{IsCompletion}
use Rattle.log_merge.proofs.merge_lemmas.Changes.{own, own_after, change_of, after_reply-changed, own-changed, seat_count_after_entry}
use Rattle.log_merge.proofs.merge_lemmas.FewSets.{AllFew, AllFew-counted, AllFew-parts}
use Rattle.log_merge.proofs.merge_lemmas.Sound.{IsSound}
use Rattle.log_merge.proofs.merge_lemmas.Finding.{present_seat_is_there, IsSound-opening, IsSound-after, own_seat_stays_by_other, NoGets, IsGone-written, NoGets-gone}
use Rattle.log_merge.proofs.merge_lemmas.Touching.{gets_elsewhere}
use Rattle.log_merge.proofs.merge_lemmas.Parts.{filter-yes, filter-no, no_more, parted_filter, seat_log_has_own_entries, collector_log_has_own_entries, part_of-seat, part_of-append, length-logs_of, log_at, left_of-rest, left_of-past, is_of-seat_of}

-- the entries before, and those behind
pub AcceptsAll-parts : (g : Graph) (front back : List Entry) → AcceptsAll g (front ++ back) → AcceptsAll g front × AcceptsAll (graph_after g front) back
AcceptsAll-parts g [] back accepts = (tt, accepts)
AcceptsAll-parts g (e ∷ front) back accepts = (let more = AcceptsAll-parts (after_entry g e) front back accepts.1 in ((accepts.0, more.0), more.1))

pub AcceptsAll-both : (g : Graph) (front back : List Entry) → AcceptsAll g front → AcceptsAll (graph_after g front) back → AcceptsAll g (front ++ back)
AcceptsAll-both g [] back accepts more = more
AcceptsAll-both g (e ∷ front) back accepts more = (accepts.0, AcceptsAll-both (after_entry g e) front back accepts.1 more)

pub IsSound-history : (g : Graph) (es : List Entry) → IsSound g → AcceptsAll g es → IsSound (graph_after g es)
IsSound-history g [] sound accepts = sound
IsSound-history g (e ∷ es) sound accepts = IsSound-history (after_entry g e) es (IsSound-after g e sound accepts.0) accepts.1

-- the seats stay the same number
pub seat_count_after_history : (g : Graph) (es : List Entry) → length (graph_after g es).seats ≡ length g.seats
seat_count_after_history g [] = refl
seat_count_after_history g (e ∷ es) = seat_count_after_history (after_entry g e) es ∙ seat_count_after_entry g e

pub seat_count_at_opening : (heap : Heap) → length (opening heap).seats ≡ heap.seats
seat_count_at_opening heap = length-replicate heap.seats opening_graph_seat

-- what a seat alone decides comes from its own entries
said_step : (g h : Graph) (number : ℕ) (command : Command) (reply : Reply) → own g number ≡ own h number → number < length g.seats → number < length h.seats
    → own (after_reply g number command reply) number ≡ own (after_reply h number command reply) number
said_step g h number command reply same within there =
    ap (λ x. own x number) (after_reply-changed g number command reply)
    ∙ own-changed g number (change_of (own g number) number command reply) within
    ∙ ap (λ o. own_after o (change_of o number command reply)) same
    ∙ sym (own-changed h number (change_of (own h number) number command reply) there)
    ∙ ap (λ x. own x number) (sym (after_reply-changed h number command reply))

own_step : (g h : Graph) (e : Entry) (number : ℕ) → is_of number e ≡ true → own g number ≡ own h number → number < length g.seats → number < length h.seats
    → own (after_entry g e) number ≡ own (after_entry h e) number
own_step g h (entries.Said other command reply) number is same within there =
    subst (λ n. own (after_reply g n command reply) number ≡ own (after_reply h n command reply) number) (sym (eqb-true other number is)) (said_step g h number command reply same within there)
own_step g h _ number is same within there = same

pub not_of : (number : ℕ) (e : Entry) → is_of number e ≡ false → seat_of e ≡ Some number → ⊥
not_of number e not_mine is = both_ways (is_of number e) not_mine (is_of-seat_of number e number is ∙ eq-eqb number number refl)

own_history : (es : List Entry) (g h : Graph) (number : ℕ) → own g number ≡ own h number → number < length g.seats → number < length h.seats
    → own (graph_after g es) number ≡ own (graph_after h (filter (is_of number) es)) number
own_history [] g h number same within there = same
own_history (e ∷ es) g h number same within there = elim (cases_Bool (is_of number e)) [
  | inl mine ↦ own_history es (after_entry g e) (after_entry h e) number (own_step g h e number mine same within there) (omega (arith, seat_count_after_entry g e)) (omega (arith, seat_count_after_entry h e))
      ∙ ap (λ xs. own (graph_after h xs) number) (sym (filter-yes (is_of number) e es mine))
  | inr other ↦ own_history es (after_entry g e) h number (own_seat_stays_by_other g e number (not_of number e other) ∙ same) (omega (arith, seat_count_after_entry g e)) there
      ∙ ap (λ xs. own (graph_after h xs) number) (sym (filter-no (is_of number) e es other))
]

pub own_seat_by_parts : (heap : Heap) (number : ℕ) (placed front : List Entry) → number < heap.seats → own (graph_of heap (placed ++ front)) number ≡ own (graph_of heap (part_of heap number placed ++ part_of heap number front)) number
own_seat_by_parts heap number placed front within =
    let there : number < length (opening heap).seats = omega (arith, seat_count_at_opening heap) in
    own_history (placed ++ front) (opening heap) (opening heap) number refl there there
    ∙ ap (λ es. own (graph_of heap es) number) (sym (part_of-seat heap number (placed ++ front) within) ∙ part_of-append heap number placed front)

pub graph_of-append : (heap : Heap) (placed front : List Entry) → graph_of heap (placed ++ front) ≡ graph_after (graph_of heap placed) front
graph_of-append heap placed front = fold-append after_entry (opening heap) placed front

pub rest_is_accepted : (heap : Heap) (logs : List (List Entry)) (placed rest : List Entry) → IsCompletion heap logs placed rest → AcceptsAll (graph_of heap placed) rest
rest_is_accepted heap logs placed rest completion = (AcceptsAll-parts (opening heap) placed rest completion.legal).1

pub placed_is_sound : (heap : Heap) (logs : List (List Entry)) (placed rest : List Entry) → IsCompletion heap logs placed rest → IsSound (graph_of heap placed)
placed_is_sound heap logs placed rest completion = IsSound-history (opening heap) placed (IsSound-opening heap) (AcceptsAll-parts (opening heap) placed rest completion.legal).0

-- the sets of each seat are those of its log
log_has_few_sets : (heap : Heap) (logs : List (List Entry)) (history : List Entry) (number : ℕ) → HaveFewSets logs → logs ≡ logs_of heap history → number < heap.seats → set_count (filter (is_of number) history) < stamp_limit
log_has_few_sets heap logs history number few kept within =
    let log = log_at heap history number (omega arith) ∙ part_of-seat heap number history within in
    let all : set_count (get_or (logs_of heap history) number []) < stamp_limit =
    subst (λ ls. set_count (get_or ls number []) < stamp_limit) kept (few number [] (omega (arith, within, ap length kept, length-logs_of heap history))) in
    omega (arith, all, ap set_count log)

pub rest_has_few_sets : (heap : Heap) (logs : List (List Entry)) (placed rest : List Entry) → IsCompletion heap logs placed rest → AllFew (graph_of heap placed) rest
rest_has_few_sets heap logs placed rest completion =
    let few : (number : ℕ) → number < length (opening heap).seats → (own (opening heap) number).sets + set_count (filter (is_of number) (placed ++ rest)) < stamp_limit = λ number there.
    let within : number < heap.seats = omega (arith, there, seat_count_at_opening heap) in
    let none = ap (λ (s : GraphSeat). s.sets) (get_or-replicate heap.seats number opening_graph_seat absent_graph_seat within) in
    omega (arith, none, log_has_few_sets heap logs (placed ++ rest) number completion.few completion.kept within) in
    AllFew-parts (opening heap) placed rest (AllFew-counted (opening heap) (placed ++ rest) few)

-- gets by their positions
pub no_gets_by_positions : (g : Graph) (es : List Entry) (value : Value) (j t : ℕ) → ((front back : List Entry) (x : Entry) → es ≡ front ++ x ∷ back → IsGetOf (graph_after g front) x value j t → ⊥) → NoGets g es value j t
no_gets_by_positions g [] value j t none = tt
no_gets_by_positions g (e ∷ es) value j t none = (none [] es e refl, no_gets_by_positions (after_entry g e) es value j t (λ front back x parted gets. none (e ∷ front) back x (ap (λ xs. e ∷ xs) parted) gets))

no_get_at : (g : Graph) (front back : List Entry) (x : Entry) (value : Value) (j t : ℕ) → NoGets g (front ++ x ∷ back) value j t → IsGetOf (graph_after g front) x value j t → ⊥
no_get_at g [] back x value j t none gets = none.0 gets
no_get_at g (e ∷ front) back x value j t none gets = no_get_at (after_entry g e) front back x value j t none.1 gets

-- in which log a seat's entry stands
pub seat_entry_in_own_log : (heap : Heap) (number seat : ℕ) (x : Entry) → seat_of x ≡ Some seat → is_in_log heap number x ≡ true → (number < heap.seats) × (seat ≡ number)
seat_entry_in_own_log heap number seat x its is = elim (cases_lt number heap.seats) [
  | inl within ↦ (within, eqb-true seat number (sym (is_of-seat_of number x seat its) ∙ sym (seat_log_has_own_entries heap number within x) ∙ is))
  | inr past ↦ absurd (let none : is_none (seat_of x) ≡ true = sym (collector_log_has_own_entries heap number past x) ∙ is in let no : false ≡ true = sym (ap is_none its) ∙ none in cc)
]

seat_in_log : (heap : Heap) (seat : ℕ) (x : Entry) → seat_of x ≡ Some seat → seat < heap.seats → is_in_log heap seat x ≡ true
seat_in_log heap seat x its within = seat_log_has_own_entries heap seat within x ∙ is_of-seat_of seat x seat its ∙ eq-eqb seat seat refl

-- a get has a seat, which is there
pub get_has_seat : (g : Graph) (x : Entry) (value : Value) (j t : ℕ) → IsGetOf g x value j t → (seat : ℕ) × (seat_of x ≡ Some seat)
get_has_seat g (entries.Said seat (commands.Get d r i) (replies.Got found stamp)) value j t gets = (seat, refl)
get_has_seat g (entries.Said seat (commands.Cas r i a v) (replies.Now stamp)) value j t gets = (seat, refl)
get_has_seat g _ value j t gets = absurd gets

accepted_seat_is_there : (g : Graph) (x : Entry) (seat : ℕ) → Accepts g x → seat_of x ≡ Some seat → seat < length g.seats
accepted_seat_is_there g (entries.Said number command reply) seat accepts its = let same : number ≡ seat = cc in subst (λ n. n < length g.seats) same (present_seat_is_there g number accepts.0)
accepted_seat_is_there g (entries.Takes number count) seat accepts its = let same : number ≡ seat = cc in subst (λ n. n < length g.seats) same (present_seat_is_there g number accepts)
accepted_seat_is_there g (entries.GivesBack number count) seat accepts its = let same : number ≡ seat = cc in subst (λ n. n < length g.seats) same (present_seat_is_there g number accepts)
accepted_seat_is_there g (entries.Answers number phase) seat accepts its = let same : number ≡ seat = cc in subst (λ n. n < length g.seats) same (present_seat_is_there g number accepts)
accepted_seat_is_there g _ seat accepts its = absurd cc

-- a get that is left of a log stands in the rest
get_in_rest : (heap : Heap) (logs : List (List Entry)) (placed rest : List Entry) (other : ℕ) (value : Value) (i t : ℕ) → IsCompletion heap logs placed rest
    → HasGet heap (part_of heap other placed) (left_of heap logs placed other) value i t → NoGets (graph_of heap placed) rest value i t → ⊥
get_in_rest heap logs placed rest other value i t completion has none = elim (cases_lt heap.seats other) [
  | inl past ↦ no_more has.earlier has.later _ (sym (left_of-past heap logs placed rest other completion.kept past) ∙ has.parted)
  | inr within ↦ (
      let g = graph_of heap placed in
      let own_part = part_of heap other placed ++ has.earlier in
      let there = parted_filter (is_in_log heap other) rest has.earlier has.later has.entry (sym (left_of-rest heap logs placed rest other completion.kept within) ∙ has.parted) in
      let same : (seat : ℕ) → seat_of has.entry ≡ Some seat → own (graph_after g there.front) seat ≡ own (graph_of heap own_part) seat = λ seat its.
      let log = seat_entry_in_own_log heap other seat has.entry its there.passes in
      subst (λ n. own (graph_after g there.front) n ≡ own (graph_of heap own_part) n) (sym log.1)
      (ap (λ h. own h other) (sym (graph_of-append heap placed there.front)) ∙ own_seat_by_parts heap other placed there.front log.0 ∙ ap (λ es. own (graph_of heap (part_of heap other placed ++ es)) other) there.before) in
      no_get_at g there.front there.back has.entry value i t (subst (λ es. NoGets g es value i t) there.parted none)
      (gets_elsewhere (graph_of heap own_part) (graph_after g there.front) has.entry value i t same has.gets))
]

-- and the other way round, for another log
pub recorded_get_is_pending : (heap : Heap) (logs : List (List Entry)) (placed rest front back : List Entry) (x : Entry) (value : Value) (j t number : ℕ) → IsCompletion heap logs placed rest → rest ≡ front ++ x ∷ back
    → (is_in_log heap number x ≡ true → ⊥) → IsGetOf (graph_after (graph_of heap placed) front) x value j t → HasPendingGet heap logs placed number value j t
recorded_get_is_pending heap logs placed rest front back x value j t number completion parted out gets =
    let g = graph_of heap placed in
    let by = get_has_seat (graph_after g front) x value j t gets in
    let seat = by.0 in
    let accepted : Accepts (graph_after g front) x = (AcceptsAll-parts g front (x ∷ back) (subst (AcceptsAll g) parted (rest_is_accepted heap logs placed rest completion))).1.0 in
    let there = accepted_seat_is_there (graph_after g front) x seat accepted by.1 in
    let within : seat < heap.seats = omega (arith, there, seat_count_after_history g front, seat_count_after_history (opening heap) placed, seat_count_at_opening heap) in
    let mine = seat_in_log heap seat x by.1 within in
    let own_part = part_of heap seat placed ++ part_of heap seat front in
    let left : left_of heap logs placed seat ≡ part_of heap seat front ++ x ∷ part_of heap seat back =
    left_of-rest heap logs placed rest seat completion.kept (omega arith) ∙ ap (part_of heap seat) parted ∙ part_of-append heap seat front (x ∷ back)
    ∙ ap (λ es. part_of heap seat front ++ es) (filter-yes (is_in_log heap seat) x back mine) in
    let same : (other : ℕ) → seat_of x ≡ Some other → own (graph_of heap own_part) other ≡ own (graph_after g front) other = λ other its.
    let one : seat ≡ other = (let e : Some seat ≡ Some other = sym by.1 ∙ its in cc) in
    subst (λ n. own (graph_of heap own_part) n ≡ own (graph_after g front) n) one (sym (own_seat_by_parts heap seat placed front within) ∙ ap (λ h. own h seat) (graph_of-append heap placed front)) in
    record {
      other = seat;
      apart = λ one. out (subst (λ n. is_in_log heap n x ≡ true) one mine);
      gets = record {
        earlier = part_of heap seat front;
        entry = x;
        later = part_of heap seat back;
        parted = left;
        gets = gets_elsewhere (graph_after g front) (graph_of heap own_part) x value j t same gets;
      };
    }

-- the first of the rest replaces no stamp that any log has yet to get
pub first_replaces_no_pending : (heap : Heap) (logs : List (List Entry)) (placed rest : List Entry) (e : Entry) (other : ℕ) (value : Value) (j t : ℕ) → IsCompletion heap logs placed (e ∷ rest)
    → Writes (graph_of heap placed) e value j t → HasGet heap (part_of heap other placed) (left_of heap logs placed other) value j t → ⊥
first_replaces_no_pending heap logs placed rest e other value j t completion writes has =
    let g = graph_of heap placed in
    let accepts = rest_is_accepted heap logs placed (e ∷ rest) completion in
    let few = rest_has_few_sets heap logs placed (e ∷ rest) completion in
    let sound = placed_is_sound heap logs placed (e ∷ rest) completion in
    get_in_rest heap logs placed (e ∷ rest) other value j t completion has
    (sets_get_none g e value j t writes, NoGets-gone (after_entry g e) rest value j t (IsSound-after g e sound accepts.0) accepts.1 few.1 (IsGone-written g e value j t sound accepts.0 few.0 writes))
  where
    sets_get_none : (g : Graph) (e : Entry) (value : Value) (j t : ℕ) → Writes g e value j t → IsGetOf g e value j t → ⊥
    sets_get_none g (entries.Said number (commands.Set r i v) (replies.Was stamp)) value j t writes gets = gets
    sets_get_none g (entries.Said number (commands.Cas r i a v) (replies.Was stamp)) value j t writes gets = gets
    sets_get_none g _ value j t writes gets = writes

-- so it is ready
pub first_is_ready : (heap : Heap) (logs : List (List Entry)) (placed rest : List Entry) (e : Entry) (number : ℕ) → IsCompletion heap logs placed (e ∷ rest) → IsReady heap logs placed number e
first_is_ready heap logs placed rest e number completion = record {
  accepted = (rest_is_accepted heap logs placed (e ∷ rest) completion).0;
  waits = λ value i stamp writes pending. first_replaces_no_pending heap logs placed rest e pending.other value i stamp completion writes pending.gets;
}
