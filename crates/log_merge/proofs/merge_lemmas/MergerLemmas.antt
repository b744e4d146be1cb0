-- What a merger knows after each step.
use Rattle.std.proofs.Common.{◌≡◌, ℕ, ◌+◌, ◌-◌, ◌<◌, ◌≤◌, inl, inr, true, false, List, [], ◌∷◌, ◌++◌, length, map, drop, get_or, replicate, set, slice_get, sum_by, count_by, Option, Some, None, refl, sym, ap, ◌∙◌, subst, arith, length-append, length-set}
use Rattle.std.specs.List.{range_with_len}
use Rattle.std.specs.Option.{option_to_list, ForSome, IfSome, IfNone, IsSomeAnd}
use Rattle.std.proofs.lemmas.Bool.{cases_lt, cases_eq, cases_Bool}
use Rattle.std.proofs.lemmas.List.{drop_more, get_or-set_same, get_or-set_other, get_or-replicate, length-replicate, drop_all}
use Rattle.std.proofs.lemmas.List.FromFn.{fill_by_all}
use Rattle.std.proofs.lemmas.List.Sums.{sum_by-cons}
use Rattle.std.proofs.lemmas.Option.{slice_get_within, slice_get-get_or, get_or_from_slice_get}
use Rattle.heap_model.specs.declared.heap.Heap.{Heap}
use Rattle.heap_model.specs.declared.entry.Entry.{Entry}
use Rattle.heap_model.specs.graph.Objects.{opening}
use Rattle.heap_model.specs.graph.Growth.{after_entry}
use Rattle.heap_model.specs.graph.Legal.{Accepts, IsObjectLegal}
use Rattle.heap_model.specs.account.Cycles.{graph_of}
use Rattle.heap_model.specs.Logs.{logs_of}
use Rattle.heap_model.proofs.Histories.{graph_after-more}
use Rattle.log_merge.specs.declared.merging.merger.Merger.{Merger}
use Rattle.log_merge.specs.declared.merging.pending_gets.PendingGet.{PendingGet}
use Rattle.log_merge.specs.declared.merging.pending_gets.PendingGets.{PendingGets}
use Rattle.log_merge.specs.FewSets.{HaveFewSets}
use Rattle.log_merge.specs.Merging.{HasOrder, part_of, left_of, IsReady, IsNext, IsFirstReady, TakesFirstReady}
use Rattle.log_merge.specs.PendingGets.{is_kind, pending_count}
use Rattle.log_merge.specs.Registers.{opening_registers, gets_in}
use Rattle.log_merge.specs.Placing.{IsCompletion, IsMerging, IsStuck, AreStuck, count_left, left_count, replaced_by, got_by}
use Rattle.log_merge.proofs.merge_lemmas.Kinds.{kind_is_tied_with_itself}
use Rattle.log_merge.proofs.merge_lemmas.Counting.{cond_true_is_one, cond_false_is_none, count_of_first_and_rest, equal_kinds_are_same}
use Rattle.log_merge.proofs.merge_lemmas.Parts.{length-logs_of, no_more}
use Rattle.log_merge.proofs.merge_lemmas.Rests.{AcceptsAll-parts}
use Rattle.log_merge.proofs.merge_lemmas.Moving.{ready_stands_first, completion_with_placed}
use Rattle.log_merge.proofs.merge_lemmas.Waiting.{waiting_is_not_ready, waits_for_none}
use Rattle.log_merge.proofs.merge_lemmas.Merges.{next_entry_is_in_log, part_of-placed, part_of-others, not_in_other_log, left_count_falls_by_placed, kind_count_falls_by_placed, TakesFirstReady-more, nothing_is_left}

-- an entry that is read at the count of what is placed is next
pub IsNext-read : (heap : Heap) (logs : List (List Entry)) (placed : List Entry) (number : ℕ) (log : List Entry) (count : ℕ) (x : Entry) → get_or logs number [] ≡ log → count ≡ length (part_of heap number placed) → slice_get log count ≡ Some x → IsNext heap logs placed number x
IsNext-read heap logs placed number log count x is counted read = record {
  others = drop (count + 1) log;
  left = ap (drop (length (part_of heap number placed))) is ∙ ap (λ n. drop n log) (sym counted) ∙ drop_more log count x (slice_get_within log count x read)
      ∙ ap (λ y. y ∷ drop (count + 1) log) (get_or_from_slice_get log count x x read);
}

-- past the log's end nothing is
pub none_next : (heap : Heap) (logs : List (List Entry)) (placed : List Entry) (number : ℕ) (log : List Entry) (count : ℕ) (x : Entry) → get_or logs number [] ≡ log → count ≡ length (part_of heap number placed) → length log ≤ count → IsNext heap logs placed number x → ⊥
none_next heap logs placed number log count x is counted past next =
    let none : left_of heap logs placed number ≡ [] = ap (drop (length (part_of heap number placed))) is ∙ ap (λ n. drop n log) (sym counted) ∙ drop_all count log past in
    let clash : (x ∷ next.others) ≡ [] = sym next.left ∙ none in cc

same_next : (heap : Heap) (logs : List (List Entry)) (placed : List Entry) (number : ℕ) (x y : Entry) → IsNext heap logs placed number x → IsNext heap logs placed number y → x ≡ y
same_next heap logs placed number x y one other = (let same : (x ∷ one.others) ≡ y ∷ other.others = sym one.left ∙ other.left in cc)

some_and : {A : Type 0} (P : A → Type 0) (o : Option A) → IsSomeAnd o P → (x : A) × (o ≡ Some x) × P x
some_and P None is = absurd is
some_and P (Some x) is = (x, refl, is)

for_some : {A : Type 0} (P : A → Type 0) (o : Option A) (x : A) → ForSome o P → o ≡ Some x → P x
for_some P o x all is = all x is

-- a log's number
pub number_there : (logs : List (List Entry)) (m : Merger) (number : ℕ) → IsMerging logs m → number < length logs → number ≤ m.heap.seats
number_there logs m number merging within = omega (arith, within, ap length merging.completion.kept, length-logs_of m.heap (m.placed.items ++ merging.rest))

-- a set of which gets are left is stuck
pub log_is_stuck_by_gets : (logs : List (List Entry)) (m : Merger) (number : ℕ) (x : Entry) → IsMerging logs m → number < length logs → IsNext m.heap logs m.placed.items number x
    → (Accepts m.graph x → IsSomeAnd (replaced_by m.graph x) (λ get. 0 < pending_count m.pending get)) → IsStuck logs m number
log_is_stuck_by_gets logs m number x merging within next waits entry is ready =
    let same = same_next m.heap logs m.placed.items number entry x is next in
    let here : IsReady m.heap logs m.placed.items number x = subst (IsReady m.heap logs m.placed.items number) same ready in
    let some = some_and (λ get. 0 < pending_count m.pending get) (replaced_by m.graph x) (waits (subst (λ g. Accepts g x) (sym merging.graph) here.accepted)) in
    waiting_is_not_ready m.heap logs m.placed.items merging.rest number x some.0 merging.completion (number_there logs m number merging within) next
    (ap (λ g. replaced_by g x) (sym merging.graph) ∙ some.1) (let all = merging.pending some.0 in let more = some.2 in omega (arith, all, more)) here

-- an entry that neither stops is ready
pub next_entry_is_ready : (logs : List (List Entry)) (m : Merger) (number : ℕ) (x : Entry) → IsMerging logs m → Accepts m.graph x
    → (Accepts m.graph x → ForSome (replaced_by m.graph x) (λ get. 0 < pending_count m.pending get → ⊥)) → IsReady m.heap logs m.placed.items number x
next_entry_is_ready logs m number x merging accepts goes =
    let accepted = subst (λ g. Accepts g x) merging.graph accepts in
    record {
      accepted = accepted;
      waits = waits_for_none m.heap logs m.placed.items merging.rest number x merging.completion accepted (λ kind is some.
          for_some (λ get. 0 < pending_count m.pending get → ⊥) (replaced_by m.graph x) kind (goes accepts) (ap (λ g. replaced_by g x) merging.graph ∙ is) (let all = merging.pending kind in omega (arith, all, some)));
    }

-- what a merger keeps of an entry that it places
pub record IsPlacing (m new : Merger) (number : ℕ) (x : Entry) : Type 0 where
  pub heap : new.heap ≡ m.heap
  pub graph : new.graph ≡ after_entry m.graph x
  pub pending : (kind : PendingGet) → pending_count new.pending kind ≡ pending_count m.pending kind - count_by (is_kind kind) (option_to_list (got_by m.graph x))
  pub counts : new.counts.items ≡ set m.counts.items number (get_or m.counts.items number 0 + 1)
  pub placed : new.placed.items ≡ m.placed.items ++ x ∷ []

-- a get that is taken away
pub pending_count_falls_by_get : (old new : PendingGets) (get : PendingGet) (o : Option PendingGet) → o ≡ Some get → pending_count new get ≡ pending_count old get - 1 → ((other : PendingGet) → (other ≡ get → ⊥) → pending_count new other ≡ pending_count old other)
    → (kind : PendingGet) → pending_count new kind ≡ pending_count old kind - count_by (is_kind kind) (option_to_list o)
pending_count_falls_by_get old new get o is here others kind =
    let first = count_of_first_and_rest kind get [] in
    let counted = ap (λ x. count_by (is_kind kind) (option_to_list x)) is in
    elim (cases_Bool (is_kind kind get)) [
      | inl tied ↦ (let one = cond_true_is_one (is_kind kind get) tied in
          let at : pending_count new kind ≡ pending_count old kind - 1 = subst (λ k. pending_count new k ≡ pending_count old k - 1) (sym (equal_kinds_are_same kind get tied)) here in
          omega (arith, one, at, first, counted))
      | inr apart ↦ (let none = cond_false_is_none (is_kind kind get) apart in
          let at = others kind (λ same. let clash : true ≡ false = sym (kind_is_tied_with_itself kind) ∙ ap (is_kind kind) same ∙ apart in cc) in
          omega (arith, none, at, first, counted))
    ]

pub pending_count_falls_by_kept : (old new : PendingGets) (o : Option PendingGet) → o ≡ None → new ≡ old → (kind : PendingGet) → pending_count new kind ≡ pending_count old kind - count_by (is_kind kind) (option_to_list o)
pending_count_falls_by_kept old new o is same kind =
    let counted = ap (λ x. count_by (is_kind kind) (option_to_list x)) is in
    let at = ap (λ p. pending_count p kind) same in
    omega (arith, counted, at)

-- what a merger knows, by a heap and a list that are its own
pub record IsAfter (logs : List (List Entry)) (m : Merger) (heap : Heap) (placed : List Entry) : Type 0 where
  pub rest : List Entry
  pub completion : IsCompletion heap logs placed rest
  pub graph : m.graph ≡ graph_of heap placed
  pub counted : length m.counts.items ≡ length logs
  pub counts : (number : ℕ) → number < length logs → get_or m.counts.items number 0 ≡ length (part_of heap number placed)
  pub pending : (kind : PendingGet) → pending_count m.pending kind ≡ count_left heap logs placed kind
  pub first : TakesFirstReady heap logs placed

pub merging_after : (logs : List (List Entry)) (m : Merger) (heap : Heap) (placed : List Entry) → m.heap ≡ heap → m.placed.items ≡ placed → IsAfter logs m heap placed → IsMerging logs m
merging_after logs m heap placed same_heap same_placed after =
    let own : IsAfter logs m m.heap m.placed.items = subst (λ h. IsAfter logs m h m.placed.items) (sym same_heap) (subst (IsAfter logs m heap) (sym same_placed) after) in
    record {
      rest = own.rest;
      completion = own.completion;
      graph = own.graph;
      counted = own.counted;
      counts = own.counts;
      pending = own.pending;
      first = own.first;
    }

-- it goes on from there
pub IsMerging-placed : (logs : List (List Entry)) (m new : Merger) (number : ℕ) (x : Entry) → IsMerging logs m → number < length logs → AreStuck logs m number → IsNext m.heap logs m.placed.items number x
    → IsReady m.heap logs m.placed.items number x → IsPlacing m new number x → IsMerging logs new × (left_count logs new < left_count logs m)
IsMerging-placed logs m new number x merging within stuck next ready placing =
    let heap = m.heap in
    let placed = m.placed.items in
    let there = number_there logs m number merging within in
    let inside = next_entry_is_in_log heap logs placed merging.rest number x merging.completion there next in
    let first = ready_stands_first heap logs placed merging.rest number x merging.completion there next ready in
    let taken : IsFirstReady heap logs placed x = record { number = number; next = next; ready = ready; lowest = λ lower other below is. stuck lower below other is } in
    let long = length-logs_of heap (placed ++ merging.rest) in
    let count_kept = ap length merging.completion.kept in
    let counts : (n : ℕ) → n < length logs → get_or new.counts.items n 0 ≡ length (part_of heap n (placed ++ x ∷ [])) = λ n below. elim (cases_eq n number) [
      | inl same ↦ (
          let P : ℕ → Type 0 = λ k. get_or new.counts.items k 0 ≡ length (part_of heap k (placed ++ x ∷ [])) in
          let old = merging.counts number within in
          let more = ap length (part_of-placed heap placed x number inside) in
          let sum = length-append (part_of heap number placed) (x ∷ []) in
          let one : get_or new.counts.items number 0 ≡ get_or m.counts.items number 0 + 1 =
          ap (λ xs. get_or xs number 0) placing.counts ∙ get_or-set_same m.counts.items number (get_or m.counts.items number 0 + 1) 0 (let counted = merging.counted in omega (arith, counted, within)) in
          subst P (sym same) (omega (arith, old, more, sum, one)))
      | inr apart ↦ ap (λ xs. get_or xs n 0) placing.counts ∙ get_or-set_other m.counts.items number n (get_or m.counts.items number 0 + 1) 0 apart ∙ merging.counts n below
          ∙ ap length (sym (part_of-others heap placed x n (not_in_other_log heap number n x there (omega (arith, below, count_kept, long)) inside apart)))
    ] in
    let less = left_count_falls_by_placed heap logs placed first.rest number x first.completion there inside in
    let pending : (kind : PendingGet) → pending_count new.pending kind ≡ count_left heap logs (placed ++ x ∷ []) kind = λ kind.
    let now = placing.pending kind in
    let old = merging.pending kind in
    let step = kind_count_falls_by_placed heap logs placed first.rest number x kind first.completion there inside in
    let got = ap (λ g. count_by (is_kind kind) (option_to_list (got_by g x))) merging.graph in
    omega (arith, now, old, step, got) in
    let all : IsAfter logs new heap (placed ++ x ∷ []) = record {
      rest = first.rest;
      completion = completion_with_placed heap logs placed first.rest x first.completion;
      graph = placing.graph ∙ ap (λ g. after_entry g x) merging.graph ∙ sym (graph_after-more (opening heap) placed x);
      counted = ap length placing.counts ∙ length-set m.counts.items number (get_or m.counts.items number 0 + 1) ∙ merging.counted;
      counts = counts;
      pending = pending;
      first = TakesFirstReady-more heap logs placed x merging.first taken;
    } in (
      merging_after logs new heap (placed ++ x ∷ []) placing.heap placing.placed all,
      (let same : left_count logs new ≡ sum_by (λ n. length (left_of heap logs (placed ++ x ∷ []) n)) (range_with_len 0 (heap.seats + 1)) =
          ap (λ h. sum_by (λ n. length (left_of h logs new.placed.items n)) (range_with_len 0 (h.seats + 1))) placing.heap
          ∙ ap (λ es. sum_by (λ n. length (left_of heap logs es n)) (range_with_len 0 (heap.seats + 1))) placing.placed in
          omega (arith, same, less)),
    )

-- the entry that is read, if there is one, is next; else nothing is
pub read_entry_is_next : (heap : Heap) (logs : List (List Entry)) (placed : List Entry) (number : ℕ) (log : List Entry) (count : ℕ) (o : Option Entry) → get_or logs number [] ≡ log → count ≡ length (part_of heap number placed) → o ≡ slice_get log count → IfSome o (IsNext heap logs placed number)
read_entry_is_next heap logs placed number log count None is counted read = tt
read_entry_is_next heap logs placed number log count (Some x) is counted read = IsNext-read heap logs placed number log count x is counted (sym read)

pub unread_log_is_stuck : (logs : List (List Entry)) (m : Merger) (number : ℕ) (log : List Entry) (count : ℕ) (o : Option Entry) → get_or logs number [] ≡ log → count ≡ length (part_of m.heap number m.placed.items) → o ≡ slice_get log count → IfNone o (IsStuck logs m number)
unread_log_is_stuck logs m number log count None is counted read = λ entry next ready. elim (cases_lt count (length log)) [
  | inl within ↦ (let there = slice_get-get_or log count entry within in let clash : None ≡ Some (get_or log count entry) = read ∙ there in cc)
  | inr past ↦ none_next m.heap logs m.placed.items number log count entry is counted past next
]
unread_log_is_stuck logs m number log count (Some x) is counted read = tt

-- with no log left that is ready, all is placed
pub all_logs_are_placed : (logs : List (List Entry)) (m : Merger) → IsMerging logs m → AreStuck logs m (length logs) → logs ≡ logs_of m.heap m.placed.items
all_logs_are_placed logs m merging stuck =
    let long = length-logs_of m.heap (m.placed.items ++ merging.rest) in
    let same = ap length merging.completion.kept in
    nothing_is_left m.heap logs m.placed.items merging.rest merging.completion (λ number within e next ready. stuck number (omega (arith, long, same, within)) e next ready)

-- one more log that is stuck
pub AreStuck-more : (logs : List (List Entry)) (m : Merger) (count : ℕ) → AreStuck logs m count → IsStuck logs m count → AreStuck logs m (count + 1)
AreStuck-more logs m count stuck here number within = elim (cases_eq number count) [
  | inl same ↦ subst (IsStuck logs m) (sym same) here
  | inr apart ↦ stuck number (omega (arith, within, apart))
]

-- what is legal of a whole merge
pub IsObjectLegal-placed : (logs : List (List Entry)) (m : Merger) → IsMerging logs m → IsObjectLegal m.heap m.placed.items
IsObjectLegal-placed logs m merging = (AcceptsAll-parts (opening m.heap) m.placed.items merging.rest merging.completion.legal).0

-- a sum over what a function makes
sum_by-map : {A B : Type 0} (f : B → ℕ) (g : A → B) (xs : List A) → sum_by f (map g xs) ≡ sum_by (λ x. f (g x)) xs
sum_by-map f g [] = refl
sum_by-map f g (x ∷ xs) = sum_by-cons f (g x) (map g xs) ∙ ap (λ n. f (g x) + n) (sum_by-map f g xs) ∙ sym (sum_by-cons (λ y. f (g y)) x xs)

-- before anything is placed
pub count_left-none : (heap : Heap) (logs : List (List Entry)) (kind : PendingGet) → length logs ≡ heap.seats + 1 → count_left heap logs [] kind ≡ sum_by (λ log. count_by (is_kind kind) (gets_in opening_registers log)) logs
count_left-none heap logs kind long =
    let f = λ (log : List Entry). count_by (is_kind kind) (gets_in opening_registers log) in
    let g = λ (n : ℕ). get_or logs n [] in
    sym (ap (sum_by f) (fill_by_all g logs (heap.seats + 1) [] long (λ k within. refl)) ∙ sum_by-map f g (range_with_len 0 (heap.seats + 1)))

pub IsMerging-none : (logs : List (List Entry)) (m : Merger) → HasOrder m.heap logs → HaveFewSets logs → m.placed.items ≡ [] → m.graph ≡ opening m.heap → m.counts.items ≡ replicate (length logs) 0
    → ((kind : PendingGet) → pending_count m.pending kind ≡ sum_by (λ log. count_by (is_kind kind) (gets_in opening_registers log)) logs) → IsMerging logs m
IsMerging-none logs m order few none fresh counts pending =
    let long : length logs ≡ m.heap.seats + 1 = ap length order.kept ∙ length-logs_of m.heap order.history in
    merging_after logs m m.heap [] refl none (record {
      rest = order.history;
      completion = record { legal = order.legal; kept = order.kept; few = few };
      graph = fresh;
      counted = ap length counts ∙ length-replicate (length logs) 0;
      counts = λ number within. ap (λ xs. get_or xs number 0) counts ∙ get_or-replicate (length logs) number 0 0 within;
      pending = λ kind. pending kind ∙ sym (count_left-none m.heap logs kind long);
      first = λ before rest entry same. absurd (no_more before rest entry same);
    })
