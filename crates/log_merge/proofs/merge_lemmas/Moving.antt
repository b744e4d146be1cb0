-- What is next and ready in its log may stand first of what is left.
use Rattle.std.proofs.Common.{◌≡◌, ℕ, ◌≤◌, inl, inr, Bool, true, false, eqb, List, [], ◌∷◌, ◌++◌, map, Some, is_none, refl, sym, ap, ◌∙◌, subst, append_assoc}
use Rattle.std.specs.List.{filter, range_with_len}
use Rattle.std.proofs.lemmas.Bool.{cases_lt, cases_Bool, eqb-true, both_ways}
use Rattle.std.proofs.lemmas.List.Elements.{filter-append}
use Rattle.heap_model.specs.declared.heap.Heap.{Heap}
use Rattle.heap_model.specs.declared.entry.Entry.{Entry}
use Rattle.heap_model.specs.declared.entry.Entry.TheVariants as entries
use Rattle.heap_model.specs.account.Effects.{is_of}
use Rattle.heap_model.specs.account.Noting.{seat_of, is_collectors}
use Rattle.heap_model.specs.account.Cycles.{graph_of}
use Rattle.heap_model.specs.Logs.{logs_of}
use Rattle.heap_model.specs.graph.Objects.{opening}
use Rattle.heap_model.specs.graph.Legal.{AcceptsAll}
use Rattle.log_merge.specs.Merging.{is_in_log, part_of, WaitsForNone, IsReady, IsNext}
use Rattle.log_merge.specs.Placing.{IsCompletion}
use Rattle.log_merge.proofs.merge_lemmas.FewSets.{AllFew}
use Rattle.log_merge.proofs.merge_lemmas.Exchange.{AllApart, NoneIsDue, accepts_all_after_first}
use Rattle.log_merge.proofs.merge_lemmas.Parts.{filter-yes, filter-no, no_more, parted_filter, seat_log_has_own_entries, collector_log_has_own_entries, part_of-collector, part_of-append, left_of-rest, filter-moved, is_of-seat_of}
use Rattle.log_merge.proofs.merge_lemmas.Rests.{AcceptsAll-both, AcceptsAll-parts, no_gets_by_positions, placed_is_sound, recorded_get_is_pending, rest_has_few_sets, rest_is_accepted}

-- entries of other logs are other seats'
two_seats : (heap : Heap) (number seat : ℕ) (e a : Entry) → is_in_log heap number e ≡ true → is_in_log heap number a ≡ false → seat_of e ≡ Some seat → seat_of a ≡ Some seat → ⊥
two_seats heap number seat e a mine other is too = elim (cases_lt number heap.seats) [
  | inl within ↦ (let one : eqb seat number ≡ true = sym (is_of-seat_of number e seat is) ∙ sym (seat_log_has_own_entries heap number within e) ∙ mine in
      let two : eqb seat number ≡ false = sym (is_of-seat_of number a seat too) ∙ sym (seat_log_has_own_entries heap number within a) ∙ other in both_ways (eqb seat number) two one)
  | inr past ↦ (let none : is_none (seat_of e) ≡ true = sym (collector_log_has_own_entries heap number past e) ∙ mine in let no : false ≡ true = sym (ap is_none is) ∙ none in cc)
]

all_apart : (heap : Heap) (number : ℕ) (e : Entry) (front : List Entry) → is_in_log heap number e ≡ true → part_of heap number front ≡ [] → AllApart e front
all_apart heap number e [] mine none = tt
all_apart heap number e (a ∷ front) mine none = elim (cases_Bool (is_in_log heap number a)) [
  | inl here ↦ absurd (let no : (a ∷ part_of heap number front) ≡ [] = sym (filter-yes (is_in_log heap number) a front here) ∙ none in cc)
  | inr out ↦ ((λ seat is too. two_seats heap number seat e a mine out is too), all_apart heap number e front mine (sym (filter-no (is_in_log heap number) a front out) ∙ none))
]

-- entries that are not in the log
out_of_log : (heap : Heap) (number : ℕ) (front back : List Entry) (x : Entry) → part_of heap number (front ++ x ∷ back) ≡ [] → is_in_log heap number x ≡ true → ⊥
out_of_log heap number front back x none here =
    no_more (part_of heap number front) (part_of heap number back) x
    (sym none ∙ part_of-append heap number front (x ∷ back) ∙ ap (λ es. part_of heap number front ++ es) (filter-yes (is_in_log heap number) x back here))

-- none of the entries before it is due
none_is_due : (heap : Heap) (logs : List (List Entry)) (placed rest front back : List Entry) (e : Entry) (number : ℕ) → IsCompletion heap logs placed rest → rest ≡ front ++ e ∷ back → part_of heap number front ≡ []
    → WaitsForNone heap logs placed number e → NoneIsDue (graph_of heap placed) front e
none_is_due heap logs placed rest front back e number completion parted none waits = λ value j t writes.
    no_gets_by_positions (graph_of heap placed) front value j t (λ one other x split gets.
    let whole : rest ≡ one ++ x ∷ (other ++ e ∷ back) = parted ∙ ap (λ es. es ++ e ∷ back) split ∙ append_assoc one (x ∷ other) (e ∷ back) in
    waits value j t writes (recorded_get_is_pending heap logs placed rest one (other ++ e ∷ back) x value j t number completion whole (out_of_log heap number one other x (ap (part_of heap number) (sym split) ∙ none)) gets))

-- the seat of an entry of a seat's log
pub log_entry_has_seat : (number : ℕ) (e : Entry) → is_of number e ≡ true → seat_of e ≡ Some number
log_entry_has_seat number (entries.Said other command reply) is = ap Some (eqb-true other number is)
log_entry_has_seat number (entries.Takes other count) is = ap Some (eqb-true other number is)
log_entry_has_seat number (entries.GivesBack other count) is = ap Some (eqb-true other number is)
log_entry_has_seat number (entries.Answers other phase) is = ap Some (eqb-true other number is)
log_entry_has_seat number _ is = absurd cc

none_of : (number : ℕ) (e : Entry) (front : List Entry) → seat_of e ≡ Some number → AllApart e front → filter (is_of number) front ≡ []
none_of number e [] is apart = refl
none_of number e (a ∷ front) is apart = elim (cases_Bool (is_of number a)) [
  | inl too ↦ absurd (apart.0 number is (log_entry_has_seat number a too))
  | inr out ↦ filter-no (is_of number) a front out ∙ none_of number e front is apart.1
]

no_collectors : (heap : Heap) (number : ℕ) (e : Entry) (front : List Entry) → is_in_log heap number e ≡ true → part_of heap number front ≡ [] → is_collectors e ≡ true → filter is_collectors front ≡ []
no_collectors heap number e front mine none is = elim (cases_lt number heap.seats) [
  | inl within ↦ absurd (let seat = log_entry_has_seat number e (sym (seat_log_has_own_entries heap number within e) ∙ mine) in let no : false ≡ true = sym (ap is_none seat) ∙ is in cc)
  | inr past ↦ sym (part_of-collector heap number front past) ∙ none
]

map_same : (f h : ℕ → List Entry) (numbers : List ℕ) → ((n : ℕ) → f n ≡ h n) → map f numbers ≡ map h numbers
map_same f h [] same = refl
map_same f h (n ∷ numbers) same = ap (λ x. x ∷ map f numbers) (same n) ∙ ap (λ xs. h n ∷ xs) (map_same f h numbers same)

-- each log is the same where the entry goes first
logs_of-moved : (heap : Heap) (placed front back : List Entry) (e : Entry) (number : ℕ) → is_in_log heap number e ≡ true → part_of heap number front ≡ []
    → logs_of heap (placed ++ (front ++ e ∷ back)) ≡ logs_of heap (placed ++ e ∷ (front ++ back))
logs_of-moved heap placed front back e number mine none =
    let apart = all_apart heap number e front mine none in
    let moved : (p : Entry → Bool) → (p e ≡ true → filter p front ≡ []) → filter p (placed ++ (front ++ e ∷ back)) ≡ filter p (placed ++ e ∷ (front ++ back)) = λ p first.
    filter-append p placed (front ++ e ∷ back) ∙ ap (λ es. filter p placed ++ es) (filter-moved p front back e first) ∙ sym (filter-append p placed (e ∷ (front ++ back))) in
    let f = λ (n : ℕ). filter (is_of n) (placed ++ (front ++ e ∷ back)) in
    let h = λ (n : ℕ). filter (is_of n) (placed ++ e ∷ (front ++ back)) in
    let seats : map f (range_with_len 0 heap.seats) ≡ map h (range_with_len 0 heap.seats) =
    map_same f h (range_with_len 0 heap.seats) (λ n. moved (is_of n) (λ is. none_of n e front (log_entry_has_seat n e is) apart)) in
    ap (λ ls. ls ++ filter is_collectors (placed ++ (front ++ e ∷ back)) ∷ []) seats
    ∙ ap (λ l. map h (range_with_len 0 heap.seats) ++ l ∷ []) (moved is_collectors (no_collectors heap number e front mine none))

-- a rest in which the entry stands first
pub record IsFirstOf (heap : Heap) (logs : List (List Entry)) (placed : List Entry) (e : Entry) : Type 0 where
  pub rest : List Entry
  pub completion : IsCompletion heap logs placed (e ∷ rest)

-- what is next and ready in its log may stand first
pub ready_stands_first : (heap : Heap) (logs : List (List Entry)) (placed rest : List Entry) (number : ℕ) (e : Entry) → IsCompletion heap logs placed rest → number ≤ heap.seats
    → IsNext heap logs placed number e → IsReady heap logs placed number e → IsFirstOf heap logs placed e
ready_stands_first heap logs placed rest number e completion within next ready =
    let g = graph_of heap placed in
    let there = parted_filter (is_in_log heap number) rest [] next.others e (sym (left_of-rest heap logs placed rest number completion.kept within) ∙ next.left) in
    let due = none_is_due heap logs placed rest there.front there.back e number completion there.parted there.before ready.waits in
    let apart = all_apart heap number e there.front there.passes there.before in
    let all = subst (AcceptsAll g) there.parted (rest_is_accepted heap logs placed rest completion) in
    let few = subst (AllFew g) there.parted (rest_has_few_sets heap logs placed rest completion) in
    let later = accepts_all_after_first g there.front there.back e (placed_is_sound heap logs placed rest completion) ready.accepted due apart all few in
    record {
      rest = there.front ++ there.back;
      completion = record {
        legal = AcceptsAll-both (opening heap) placed (e ∷ (there.front ++ there.back)) (AcceptsAll-parts (opening heap) placed rest completion.legal).0 (ready.accepted, later);
        kept = completion.kept ∙ ap (λ es. logs_of heap (placed ++ es)) there.parted ∙ logs_of-moved heap placed there.front there.back e number there.passes there.before;
        few = completion.few;
      };
    }

-- and is placed
pub completion_with_placed : (heap : Heap) (logs : List (List Entry)) (placed rest : List Entry) (e : Entry) → IsCompletion heap logs placed (e ∷ rest) → IsCompletion heap logs (placed ++ e ∷ []) rest
completion_with_placed heap logs placed rest e completion = record {
  legal = subst (AcceptsAll (opening heap)) (sym (append_assoc placed (e ∷ []) rest)) completion.legal;
  kept = completion.kept ∙ ap (logs_of heap) (sym (append_assoc placed (e ∷ []) rest));
  few = completion.few;
}
