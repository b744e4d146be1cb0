-- The steps of a merge.
use Rattle.std.proofs.Common.{is_none, ◌≡◌, ℕ, ◌+◌, ◌<◌, ◌≤◌, ◌⊎◌, inl, inr, true, false, cond, List, [], ◌∷◌, ◌++◌, length, get_or, sum_by, count_by, Some, refl, sym, ap, ◌∙◌, subst, arith}
use Rattle.std.specs.List.{range_with_len}
use Rattle.std.specs.Option.{option_to_list}
use Rattle.std.proofs.lemmas.Bool.{cases_lt, cases_Bool, eq-eqb}
use Rattle.std.proofs.lemmas.List.{append-nil}
use Rattle.std.proofs.lemmas.List.Sums.{sum_by-append, fold-append}
use Rattle.heap_model.specs.declared.heap.Heap.{Heap}
use Rattle.heap_model.specs.declared.id.Value.TheVariants.{Nil}
use Rattle.heap_model.specs.declared.command.Command.TheVariants as commands
use Rattle.heap_model.specs.declared.reply.Reply.TheVariants as replies
use Rattle.heap_model.specs.declared.entry.Entry.{Entry}
use Rattle.heap_model.specs.declared.entry.Entry.TheVariants as entries
use Rattle.heap_model.specs.account.Effects.{is_of}
use Rattle.heap_model.specs.account.Noting.{seat_of, is_collectors}
use Rattle.heap_model.specs.account.Cycles.{graph_of}
use Rattle.heap_model.specs.Logs.{logs_of}
use Rattle.heap_model.specs.graph.Objects.{register_value, opening}
use Rattle.heap_model.specs.graph.Legal.{Accepts, IsPresent}
use Rattle.log_merge.specs.declared.merging.pending_gets.PendingGet.{PendingGet}
use Rattle.log_merge.specs.Merging.{is_in_log, part_of, left_of, IsReady, IsNext, IsFirstReady, TakesFirstReady}
use Rattle.log_merge.specs.PendingGets.{is_kind}
use Rattle.log_merge.specs.Registers.{opening_registers, registers_after, registers_of, kind_of, get_of, gets_in}
use Rattle.log_merge.specs.Placing.{IsCompletion, count_in, count_left, got_by}
use Rattle.log_merge.proofs.merge_lemmas.Changes.{own, value_of_register}
use Rattle.log_merge.proofs.merge_lemmas.Finding.{present_seat_is_there}
use Rattle.log_merge.proofs.merge_lemmas.Counting.{sum_grows_at_one, own_registers_are_shown}
use Rattle.log_merge.proofs.merge_lemmas.Parts.{filter-yes, filter-no, no_more, parted_filter, seat_log_has_own_entries, collector_log_has_own_entries, part_of-append, left_of-rest}
use Rattle.log_merge.proofs.merge_lemmas.Rests.{AcceptsAll-parts, seat_count_after_history, seat_count_at_opening, seat_entry_in_own_log, rest_is_accepted, first_is_ready}
use Rattle.log_merge.proofs.merge_lemmas.Moving.{log_entry_has_seat, completion_with_placed}

-- an entry stands in one log
pub one_log : (heap : Heap) (number other : ℕ) (e : Entry) → number ≤ heap.seats → other ≤ heap.seats → is_in_log heap number e ≡ true → is_in_log heap other e ≡ true → number ≡ other
one_log heap number other e within there mine too = elim (cases_lt number heap.seats) [
  | inl seat ↦ elim (cases_lt other heap.seats) [
    | inl seat_too ↦ (let one = log_entry_has_seat number e (sym (seat_log_has_own_entries heap number seat e) ∙ mine) in let two = log_entry_has_seat other e (sym (seat_log_has_own_entries heap other seat_too e) ∙ too) in
        let same : Some number ≡ Some other = sym one ∙ two in cc)
    | inr past ↦ absurd (let one = log_entry_has_seat number e (sym (seat_log_has_own_entries heap number seat e) ∙ mine) in let two : is_collectors e ≡ true = sym (collector_log_has_own_entries heap other past e) ∙ too in
        let clash : false ≡ true = sym (ap is_none one) ∙ two in cc)
  ]
  | inr past ↦ elim (cases_lt other heap.seats) [
    | inl seat_too ↦ absurd (let one = log_entry_has_seat other e (sym (seat_log_has_own_entries heap other seat_too e) ∙ too) in let two : is_collectors e ≡ true = sym (collector_log_has_own_entries heap number past e) ∙ mine in
        let clash : false ≡ true = sym (ap is_none one) ∙ two in cc)
    | inr past_too ↦ omega (arith, within, there, past, past_too)
  ]
]

-- the entry that comes next is in its log
pub next_entry_is_in_log : (heap : Heap) (logs : List (List Entry)) (placed rest : List Entry) (number : ℕ) (e : Entry) → IsCompletion heap logs placed rest → number ≤ heap.seats → IsNext heap logs placed number e → is_in_log heap number e ≡ true
next_entry_is_in_log heap logs placed rest number e completion within next =
    (parted_filter (is_in_log heap number) rest [] next.others e (sym (left_of-rest heap logs placed rest number completion.kept within) ∙ next.left)).passes

-- what is left of each log once it is placed
pub left_of-placed : (heap : Heap) (logs : List (List Entry)) (placed rest : List Entry) (e : Entry) (number : ℕ) → IsCompletion heap logs placed (e ∷ rest) → number ≤ heap.seats → is_in_log heap number e ≡ true
    → left_of heap logs placed number ≡ e ∷ left_of heap logs (placed ++ e ∷ []) number
left_of-placed heap logs placed rest e number completion within mine =
    left_of-rest heap logs placed (e ∷ rest) number completion.kept within ∙ filter-yes (is_in_log heap number) e rest mine
    ∙ ap (λ es. e ∷ es) (sym (left_of-rest heap logs (placed ++ e ∷ []) rest number (completion_with_placed heap logs placed rest e completion).kept within))

pub left_of-others : (heap : Heap) (logs : List (List Entry)) (placed rest : List Entry) (e : Entry) (number : ℕ) → IsCompletion heap logs placed (e ∷ rest) → number ≤ heap.seats → is_in_log heap number e ≡ false
    → left_of heap logs placed number ≡ left_of heap logs (placed ++ e ∷ []) number
left_of-others heap logs placed rest e number completion within other =
    left_of-rest heap logs placed (e ∷ rest) number completion.kept within ∙ filter-no (is_in_log heap number) e rest other
    ∙ sym (left_of-rest heap logs (placed ++ e ∷ []) rest number (completion_with_placed heap logs placed rest e completion).kept within)

-- what is placed of it
pub part_of-placed : (heap : Heap) (placed : List Entry) (e : Entry) (number : ℕ) → is_in_log heap number e ≡ true → part_of heap number (placed ++ e ∷ []) ≡ part_of heap number placed ++ e ∷ []
part_of-placed heap placed e number mine = part_of-append heap number placed (e ∷ []) ∙ ap (λ es. part_of heap number placed ++ es) (filter-yes (is_in_log heap number) e [] mine)

pub part_of-others : (heap : Heap) (placed : List Entry) (e : Entry) (number : ℕ) → is_in_log heap number e ≡ false → part_of heap number (placed ++ e ∷ []) ≡ part_of heap number placed
part_of-others heap placed e number other =
    part_of-append heap number placed (e ∷ []) ∙ ap (λ es. part_of heap number placed ++ es) (filter-no (is_in_log heap number) e [] other) ∙ append-nil (part_of heap number placed)

pub not_in_other_log : (heap : Heap) (number other : ℕ) (e : Entry) → number ≤ heap.seats → other ≤ heap.seats → is_in_log heap number e ≡ true → (other ≡ number → ⊥) → is_in_log heap other e ≡ false
not_in_other_log heap number other e within there mine apart = elim (cases_Bool (is_in_log heap other e)) [
  | inl too ↦ absurd (apart (sym (one_log heap number other e within there mine too)))
  | inr out ↦ out
]

-- one entry less is left
pub left_count_falls_by_placed : (heap : Heap) (logs : List (List Entry)) (placed rest : List Entry) (number : ℕ) (e : Entry) → IsCompletion heap logs placed (e ∷ rest) → number ≤ heap.seats → is_in_log heap number e ≡ true
    → sum_by (λ n. length (left_of heap logs placed n)) (range_with_len 0 (heap.seats + 1)) ≡ sum_by (λ n. length (left_of heap logs (placed ++ e ∷ []) n)) (range_with_len 0 (heap.seats + 1)) + 1
left_count_falls_by_placed heap logs placed rest number e completion within mine =
    sum_grows_at_one (λ n. length (left_of heap logs (placed ++ e ∷ []) n)) (λ n. length (left_of heap logs placed n)) 0 (heap.seats + 1) number 1
    (λ n there apart. ap length (left_of-others heap logs placed rest e n completion (omega (arith, there)) (not_in_other_log heap number n e within (omega (arith, there)) mine apart)))
    (let one = ap length (left_of-placed heap logs placed rest e number completion within mine) in omega (arith, one)) (omega arith) (omega (arith, within))

-- the get that the entry is, by the graph
kind_shown : (heap : Heap) (logs : List (List Entry)) (placed rest : List Entry) (number seat r i stamp : ℕ) (e : Entry) → IsCompletion heap logs placed (e ∷ rest) → seat_of e ≡ Some seat → is_in_log heap number e ≡ true
    → kind_of (get_or (registers_of (part_of heap number placed)) r Nil) i stamp ≡ kind_of (register_value (graph_of heap placed) seat r) i stamp
kind_shown heap logs placed rest number seat r i stamp e completion its mine =
    let log = seat_entry_in_own_log heap number seat e its mine in
    let accepted = (AcceptsAll-parts (opening heap) placed (e ∷ rest) completion.legal).0 in
    ap (λ rs. kind_of (get_or rs r Nil) i stamp) (sym (own_registers_are_shown heap placed number accepted log.0)) ∙ ap (λ v. kind_of v i stamp) (value_of_register (own (graph_of heap placed) number) r) ∙ ap (λ n. kind_of (register_value (graph_of heap placed) n r) i stamp) (sym log.1)

got_shown : (heap : Heap) (logs : List (List Entry)) (placed rest : List Entry) (number : ℕ) (e : Entry) → IsCompletion heap logs placed (e ∷ rest) → is_in_log heap number e ≡ true
    → get_of (registers_of (part_of heap number placed)) e ≡ got_by (graph_of heap placed) e
got_shown heap logs placed rest number (entries.Said seat (commands.Get d r i) (replies.Got found stamp)) completion mine = kind_shown heap logs placed rest number seat r i stamp _ completion refl mine
got_shown heap logs placed rest number (entries.Said seat (commands.Cas r i a v) (replies.Now stamp)) completion mine = kind_shown heap logs placed rest number seat r i stamp _ completion refl mine
got_shown heap logs placed rest number _ completion mine = refl

-- its kind of get is counted once less
pub kind_count_falls_by_placed : (heap : Heap) (logs : List (List Entry)) (placed rest : List Entry) (number : ℕ) (e : Entry) (kind : PendingGet) → IsCompletion heap logs placed (e ∷ rest) → number ≤ heap.seats → is_in_log heap number e ≡ true
    → count_left heap logs placed kind ≡ count_left heap logs (placed ++ e ∷ []) kind + count_by (is_kind kind) (option_to_list (got_by (graph_of heap placed) e))
kind_count_falls_by_placed heap logs placed rest number e kind completion within mine =
    sum_grows_at_one (count_in heap logs (placed ++ e ∷ []) kind) (count_in heap logs placed kind) 0 (heap.seats + 1) number (count_by (is_kind kind) (option_to_list (got_by (graph_of heap placed) e))) others here (omega arith) (omega (arith, within))
  where
    others : (n : ℕ) → n < 0 + (heap.seats + 1) → (n ≡ number → ⊥) → count_in heap logs placed kind n ≡ count_in heap logs (placed ++ e ∷ []) kind n
    others n there apart =
        let out = not_in_other_log heap number n e within (omega (arith, there)) mine apart in
        ap (λ es. count_by (is_kind kind) (gets_in (registers_of (part_of heap n placed)) es)) (left_of-others heap logs placed rest e n completion (omega (arith, there)) out)
        ∙ ap (λ es. count_by (is_kind kind) (gets_in (registers_of es) (left_of heap logs (placed ++ e ∷ []) n))) (sym (part_of-others heap placed e n out))

    here : count_in heap logs placed kind number ≡ count_in heap logs (placed ++ e ∷ []) kind number + count_by (is_kind kind) (option_to_list (got_by (graph_of heap placed) e))
    here =
        let held = registers_of (part_of heap number placed) in
        let left = left_of heap logs (placed ++ e ∷ []) number in
        let first = ap (λ es. count_by (is_kind kind) (gets_in held es)) (left_of-placed heap logs placed rest e number completion within mine) in
        let split = sum_by-append (λ k. cond (is_kind kind k) 1 0) (option_to_list (get_of held e)) (gets_in (registers_after held e) left) in
        let got = ap (λ o. count_by (is_kind kind) (option_to_list o)) (got_shown heap logs placed rest number e completion mine) in
        let after : registers_of (part_of heap number (placed ++ e ∷ [])) ≡ registers_after held e = ap registers_of (part_of-placed heap placed e number mine) ∙ fold-append registers_after opening_registers (part_of heap number placed) (e ∷ []) in
        let rest_same = ap (λ rs. count_by (is_kind kind) (gets_in rs left)) after in
        omega (arith, first, split, got, rest_same)

-- a list with one more at its end, parted
split_push : (placed before rest : List Entry) (e x : Entry) → placed ++ e ∷ [] ≡ before ++ x ∷ rest → ((placed ≡ before) × (e ≡ x)) ⊎ ((more : List Entry) × (placed ≡ before ++ x ∷ more))
split_push [] [] rest e x same = (let is : e ≡ x = cc in inl (refl, is))
split_push [] (b ∷ before) rest e x same = absurd (let none : let nil : List Entry = [] in nil ≡ before ++ x ∷ rest = cc in no_more before rest x none)
split_push (p ∷ placed) [] rest e x same = (let is : p ≡ x = cc in inr (placed, ap (λ z. z ∷ placed) is))
split_push (p ∷ placed) (b ∷ before) rest e x same =
    let is : p ≡ b = cc in
    let others : placed ++ e ∷ [] ≡ before ++ x ∷ rest = cc in
    elim (split_push placed before rest e x others) [
      | inl last ↦ inl (ap (λ es. p ∷ es) last.0 ∙ ap (λ z. z ∷ before) is, last.1)
      | inr more ↦ inr (more.0, ap (λ es. p ∷ es) more.1 ∙ ap (λ z. z ∷ (before ++ x ∷ more.0)) is)
    ]

-- one more that is the first ready one
pub TakesFirstReady-more : (heap : Heap) (logs : List (List Entry)) (placed : List Entry) (e : Entry) → TakesFirstReady heap logs placed → IsFirstReady heap logs placed e → TakesFirstReady heap logs (placed ++ e ∷ [])
TakesFirstReady-more heap logs placed e all first before rest x same = elim (split_push placed before rest e x same) [
  | inl last ↦ subst (λ es. IsFirstReady heap logs es x) last.0 (subst (IsFirstReady heap logs placed) last.1 first)
  | inr more ↦ all before more.0 x more.1
]

-- each accepted entry stands in a log
seats_entry : (heap : Heap) (placed : List Entry) (seat : ℕ) (e : Entry) → IsPresent (graph_of heap placed) seat → is_of seat e ≡ true → (number : ℕ) × (number ≤ heap.seats) × (is_in_log heap number e ≡ true)
seats_entry heap placed seat e present mine =
    let within : seat < heap.seats = omega (arith, present_seat_is_there (graph_of heap placed) seat present, seat_count_after_history (opening heap) placed, seat_count_at_opening heap) in
    (seat, omega arith, seat_log_has_own_entries heap seat within e ∙ mine)

log_of : (heap : Heap) (placed : List Entry) (e : Entry) → Accepts (graph_of heap placed) e → (number : ℕ) × (number ≤ heap.seats) × (is_in_log heap number e ≡ true)
log_of heap placed (entries.Said seat command reply) accepts = seats_entry heap placed seat (entries.Said seat command reply) accepts.0 (eq-eqb seat seat refl)
log_of heap placed (entries.Takes seat count) accepts = seats_entry heap placed seat (entries.Takes seat count) accepts (eq-eqb seat seat refl)
log_of heap placed (entries.GivesBack seat count) accepts = seats_entry heap placed seat (entries.GivesBack seat count) accepts (eq-eqb seat seat refl)
log_of heap placed (entries.Answers seat phase) accepts = seats_entry heap placed seat (entries.Answers seat phase) accepts (eq-eqb seat seat refl)
log_of heap placed (entries.Advance phase) accepts = (heap.seats, omega arith, collector_log_has_own_entries heap heap.seats (omega arith) (entries.Advance phase))
log_of heap placed (entries.Frees count) accepts = (heap.seats, omega arith, collector_log_has_own_entries heap heap.seats (omega arith) (entries.Frees count))
log_of heap placed (entries.Returns count) accepts = (heap.seats, omega arith, collector_log_has_own_entries heap heap.seats (omega arith) (entries.Returns count))
log_of heap placed (entries.Swings id) accepts = (heap.seats, omega arith, collector_log_has_own_entries heap heap.seats (omega arith) (entries.Swings id))
log_of heap placed (entries.Ends cycle kept) accepts = (heap.seats, omega arith, collector_log_has_own_entries heap heap.seats (omega arith) (entries.Ends cycle kept))
log_of heap placed (entries.Turned command reply) accepts = (heap.seats, omega arith, collector_log_has_own_entries heap heap.seats (omega arith) (entries.Turned command reply))

-- where no log's next entry is ready, nothing is left
pub nothing_is_left : (heap : Heap) (logs : List (List Entry)) (placed rest : List Entry) → IsCompletion heap logs placed rest
    → ((number : ℕ) → number ≤ heap.seats → (e : Entry) → IsNext heap logs placed number e → IsReady heap logs placed number e → ⊥) → logs ≡ logs_of heap placed
nothing_is_left heap logs placed [] completion stuck = completion.kept ∙ ap (logs_of heap) (append-nil placed)
nothing_is_left heap logs placed (e ∷ rest) completion stuck =
    let log = log_of heap placed e (rest_is_accepted heap logs placed (e ∷ rest) completion).0 in
    let next : IsNext heap logs placed log.0 e = record { others = _; left = left_of-placed heap logs placed rest e log.0 completion log.1 log.2 } in
    absurd (stuck log.0 log.1 e next (first_is_ready heap logs placed rest e log.0 completion))
