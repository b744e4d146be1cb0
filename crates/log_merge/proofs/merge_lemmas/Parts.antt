-- The logs' parts of a history, and where their entries stand in it.
use Rattle.std.proofs.Common.{◌≡◌, ℕ, ◌+◌, ◌<◌, ◌≤◌, inl, inr, Bool, true, false, cond, eqb, List, [], ◌∷◌, ◌++◌, length, map, drop, get_or, Some, refl, sym, ap, ◌∙◌, subst, arith}
use Rattle.std.specs.List.{filter, range_with_len}
use Rattle.std.proofs.lemmas.Bool.{cases_lt, cases_Bool, lt-ltb, le-ltb}
use Rattle.std.proofs.lemmas.List.{get_or_append_left, get_or_past, get_or_at, drop_all, drop_at, length-append}
use Rattle.std.proofs.lemmas.List.FromFn.{length-map-range_with_len, get_or-map-range_with_len}
use Rattle.std.proofs.lemmas.List.Elements.{filter-append, filter_agree}
use Rattle.heap_model.specs.declared.heap.Heap.{Heap}
use Rattle.heap_model.specs.declared.entry.Entry.{Entry}
use Rattle.heap_model.specs.declared.entry.Entry.TheVariants as entries
use Rattle.heap_model.specs.account.Effects.{is_of}
use Rattle.heap_model.specs.account.Noting.{seat_of, is_collectors}
use Rattle.heap_model.specs.Logs.{logs_of}
use Rattle.log_merge.specs.Merging.{is_in_log, part_of, left_of}

-- a filter's first element
pub filter-yes : (p : Entry → Bool) (x : Entry) (xs : List Entry) → p x ≡ true → filter p (x ∷ xs) ≡ x ∷ filter p xs
filter-yes p x xs passes = ap (λ b. cond b (x ∷ filter p xs) (filter p xs)) passes

pub filter-no : (p : Entry → Bool) (x : Entry) (xs : List Entry) → p x ≡ false → filter p (x ∷ xs) ≡ filter p xs
filter-no p x xs fails = ap (λ b. cond b (x ∷ filter p xs) (filter p xs)) fails

-- a list parted at an element that a filter keeps
pub record IsParted (p : Entry → Bool) (xs earlier later : List Entry) (x : Entry) : Type 0 where
  pub front : List Entry
  pub back : List Entry
  pub parted : xs ≡ front ++ x ∷ back
  pub before : filter p front ≡ earlier
  pub behind : filter p back ≡ later
  pub passes : p x ≡ true

pub no_more : (earlier later : List Entry) (x : Entry) → let none : List Entry = [] in (none ≡ earlier ++ x ∷ later) → ⊥
no_more [] later x same = cc
no_more (y ∷ earlier) later x same = cc

parted_here : (p : Entry → Bool) (y : Entry) (ys earlier later : List Entry) (x : Entry) → ((es : List Entry) → filter p ys ≡ es ++ x ∷ later → IsParted p ys es later x)
    → p y ≡ true → (y ∷ filter p ys) ≡ earlier ++ x ∷ later → IsParted p (y ∷ ys) earlier later x
parted_here p y ys [] later x more passes same =
    let e : y ≡ x = cc in
    record {
      front = [];
      back = ys;
      parted = ap (λ z. z ∷ ys) e;
      before = refl;
      behind = cc;
      passes = subst (λ z. p z ≡ true) e passes;
    }
parted_here p y ys (z ∷ earlier) later x more passes same =
    let e : y ≡ z = cc in
    let others : filter p ys ≡ earlier ++ x ∷ later = cc in
    let rest = more earlier others in
    record {
      front = y ∷ rest.front;
      back = rest.back;
      parted = ap (λ zs. y ∷ zs) rest.parted;
      before = filter-yes p y rest.front passes ∙ ap (λ zs. y ∷ zs) rest.before ∙ ap (λ w. w ∷ earlier) e;
      behind = rest.behind;
      passes = rest.passes;
    }

-- what a filter keeps stands in the list
pub parted_filter : (p : Entry → Bool) (xs earlier later : List Entry) (x : Entry) → filter p xs ≡ earlier ++ x ∷ later → IsParted p xs earlier later x
parted_filter p [] earlier later x same = absurd (no_more earlier later x same)
parted_filter p (y ∷ ys) earlier later x same = elim (cases_Bool (p y)) [
  | inl passes ↦ parted_here p y ys earlier later x (λ es is. parted_filter p ys es later x is) passes (sym (filter-yes p y ys passes) ∙ same)
  | inr fails ↦ (let rest = parted_filter p ys earlier later x (sym (filter-no p y ys fails) ∙ same) in record {
    front = y ∷ rest.front;
    back = rest.back;
    parted = ap (λ zs. y ∷ zs) rest.parted;
    before = filter-no p y rest.front fails ∙ rest.before;
    behind = rest.behind;
    passes = rest.passes;
  })
]

-- which log an entry stands in
pub seat_log_has_own_entries : (heap : Heap) (number : ℕ) → number < heap.seats → (e : Entry) → is_in_log heap number e ≡ is_of number e
seat_log_has_own_entries heap number within e = ap (λ b. cond b (is_of number e) (is_collectors e)) (lt-ltb number heap.seats within)

pub collector_log_has_own_entries : (heap : Heap) (number : ℕ) → heap.seats ≤ number → (e : Entry) → is_in_log heap number e ≡ is_collectors e
collector_log_has_own_entries heap number past e = ap (λ b. cond b (is_of number e) (is_collectors e)) (le-ltb number heap.seats past)

pub part_of-seat : (heap : Heap) (number : ℕ) (es : List Entry) → number < heap.seats → part_of heap number es ≡ filter (is_of number) es
part_of-seat heap number es within = filter_agree (is_in_log heap number) (is_of number) (seat_log_has_own_entries heap number within) es

pub part_of-collector : (heap : Heap) (number : ℕ) (es : List Entry) → heap.seats ≤ number → part_of heap number es ≡ filter is_collectors es
part_of-collector heap number es past = filter_agree (is_in_log heap number) is_collectors (collector_log_has_own_entries heap number past) es

pub part_of-append : (heap : Heap) (number : ℕ) (one other : List Entry) → part_of heap number (one ++ other) ≡ part_of heap number one ++ part_of heap number other
part_of-append heap number one other = filter-append (is_in_log heap number) one other

pub length-logs_of : (heap : Heap) (history : List Entry) → length (logs_of heap history) ≡ heap.seats + 1
length-logs_of heap history =
    omega (arith, length-append (map (λ number. filter (is_of number) history) (range_with_len 0 heap.seats)) (filter is_collectors history ∷ []), length-map-range_with_len (λ number. filter (is_of number) history) 0 heap.seats)

pub log_at : (heap : Heap) (history : List Entry) (number : ℕ) → number ≤ heap.seats → get_or (logs_of heap history) number [] ≡ part_of heap number history
log_at heap history number within =
    let f = λ (n : ℕ). filter (is_of n) history in
    let seats = map f (range_with_len 0 heap.seats) in
    let count = length-map-range_with_len f 0 heap.seats in
    elim (cases_lt number heap.seats) [
      | inl seat ↦ get_or_append_left seats (filter is_collectors history ∷ []) [] number (omega (arith, count, seat))
          ∙ get_or-map-range_with_len f 0 heap.seats number number [] seat (omega arith) ∙ sym (part_of-seat heap number history seat)
      | inr past ↦ get_or_at seats (filter is_collectors history) [] [] number (omega (arith, count, past, within)) ∙ sym (part_of-collector heap number history past)
    ]

-- what is left of a log is its part of the rest
pub left_of-rest : (heap : Heap) (logs : List (List Entry)) (placed rest : List Entry) (number : ℕ) → logs ≡ logs_of heap (placed ++ rest) → number ≤ heap.seats → left_of heap logs placed number ≡ part_of heap number rest
left_of-rest heap logs placed rest number kept within =
    let front = part_of heap number placed in
    ap (λ ls. drop (length front) (get_or ls number [])) kept
    ∙ ap (drop (length front)) (log_at heap (placed ++ rest) number within ∙ part_of-append heap number placed rest)
    ∙ drop_at front (part_of heap number rest) (length front) refl

-- past the last log nothing is left
pub left_of-past : (heap : Heap) (logs : List (List Entry)) (placed rest : List Entry) (number : ℕ) → logs ≡ logs_of heap (placed ++ rest) → heap.seats < number → left_of heap logs placed number ≡ []
left_of-past heap logs placed rest number kept past =
    ap (drop (length (part_of heap number placed))) (ap (λ ls. get_or ls number []) kept ∙ get_or_past (logs_of heap (placed ++ rest)) number [] (omega (arith, length-logs_of heap (placed ++ rest), past))) ∙ drop_all (length (part_of heap number placed)) [] (omega arith)

-- one entry that goes before others of other logs leaves each log as it is
pub filter-moved : (p : Entry → Bool) (front back : List Entry) (e : Entry) → (p e ≡ true → filter p front ≡ []) → filter p (front ++ e ∷ back) ≡ filter p (e ∷ (front ++ back))
filter-moved p front back e first = elim (cases_Bool (p e)) [
  | inl passes ↦ filter-append p front (e ∷ back) ∙ ap (λ es. es ++ filter p (e ∷ back)) (first passes) ∙ filter-yes p e back passes
      ∙ ap (λ es. e ∷ (es ++ filter p back)) (sym (first passes)) ∙ ap (λ es. e ∷ es) (sym (filter-append p front back)) ∙ sym (filter-yes p e (front ++ back) passes)
  | inr fails ↦ filter-append p front (e ∷ back) ∙ ap (λ es. filter p front ++ es) (filter-no p e back fails) ∙ sym (filter-append p front back) ∙ sym (filter-no p e (front ++ back) fails)
]

-- the seat of an entry
pub is_of-seat_of : (number : ℕ) (e : Entry) (seat : ℕ) → seat_of e ≡ Some seat → is_of number e ≡ eqb seat number
is_of-seat_of number (entries.Said other command reply) seat is = (let e : other ≡ seat = cc in ap (λ s. eqb s number) e)
is_of-seat_of number (entries.Takes other count) seat is = (let e : other ≡ seat = cc in ap (λ s. eqb s number) e)
is_of-seat_of number (entries.GivesBack other count) seat is = (let e : other ≡ seat = cc in ap (λ s. eqb s number) e)
is_of-seat_of number (entries.Answers other phase) seat is = (let e : other ≡ seat = cc in ap (λ s. eqb s number) e)
is_of-seat_of number _ seat is = absurd cc
