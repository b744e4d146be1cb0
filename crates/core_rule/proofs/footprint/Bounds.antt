-- How the bound of a cycle goes on: it grows by what is taken, and is another once a cycle begins.
use Rattle.std.proofs.Common.{◌≡◌, ℕ, ◌+◌, true, false, List, [], ◌∷◌, ◌++◌, refl, sym, ap, ◌∙◌, append_assoc, arith}
use Rattle.std.specs.List.{list_any, range_with_len, sum_by}
use Rattle.std.proofs.lemmas.Bool.{or_parts}
use Rattle.std.proofs.lemmas.List.{append-nil}
use Rattle.std.proofs.lemmas.List.Sums.{sum_by-append, sum_by-cons}
use Rattle.core_rule.proofs.Terms.{graph_of, brings, all_bring, bound, effect_of, is_of, total, begins_cycle, is_reply_to, up_to_cycle, since_cycle, since_reply, Entry, Heap, Id}
use Rattle.core_rule.proofs.Terms.{Graph, after_entry, fragments_of_all}
use Rattle.heap_model.specs.declared.entry.Entry.TheVariants as entries
use Rattle.heap_model.proofs.Histories.{graph_after-more, total_of-more}
use Rattle.heap_model.proofs.account_lemmas.Windows.{up_to_last-yes, after_last-yes, up_to_last-no, after_last-no}

-- where no entry that is added begins a cycle, the last one began where it did
pub up_to_cycle_stays : (history added : List Entry) → list_any begins_cycle added ≡ false → up_to_cycle (history ++ added) ≡ up_to_cycle history
up_to_cycle_stays history [] none = ap up_to_cycle (append-nil history)
up_to_cycle_stays history (entry ∷ more) none =
    let sides = or_parts (begins_cycle entry) (list_any begins_cycle more) none in
    ap up_to_cycle (sym (append_assoc history (entry ∷ []) more)) ∙ up_to_cycle_stays (history ++ entry ∷ []) more sides.1 ∙ up_to_last-no begins_cycle history entry sides.0

pub since_cycle-none : (history added : List Entry) → list_any begins_cycle added ≡ false → since_cycle (history ++ added) ≡ since_cycle history ++ added
since_cycle-none history [] none = ap since_cycle (append-nil history) ∙ sym (append-nil (since_cycle history))
since_cycle-none history (entry ∷ more) none =
    let sides = or_parts (begins_cycle entry) (list_any begins_cycle more) none in
    ap since_cycle (sym (append_assoc history (entry ∷ []) more)) ∙ since_cycle-none (history ++ entry ∷ []) more sides.1
    ∙ ap (λ es. es ++ more) (after_last-no begins_cycle history entry sides.0) ∙ append_assoc (since_cycle history) (entry ∷ []) more

-- so the bound grows by what is taken
pub bound_grows_by_taken : (heap : Heap) (begun : List Id) (history added : List Entry) → list_any begins_cycle added ≡ false
    → bound heap begun (history ++ added) ≡ bound heap begun history + total (λ e. e.taken) added
bound_grows_by_taken heap begun history added none =
    rw (up_to_cycle_stays history added none, since_cycle-none history added none)
    (omega (arith, sum_by-append (λ e. (effect_of e).taken) (since_cycle history) added))

-- where an entry begins a cycle, it begins there
pub up_to_cycle_at_begin : (history : List Entry) (entry : Entry) → begins_cycle entry ≡ true → up_to_cycle (history ++ entry ∷ []) ≡ history ++ entry ∷ []
up_to_cycle_at_begin history entry begins = up_to_last-yes begins_cycle history entry begins

pub since_cycle-begin : (history : List Entry) (entry : Entry) → begins_cycle entry ≡ true → since_cycle (history ++ entry ∷ []) ≡ []
since_cycle-begin history entry begins = after_last-yes begins_cycle history entry begins

-- it is no seat's, and changes no graph, nor what the seats bring
same_graph : (g : Graph) (entry : Entry) → begins_cycle entry ≡ true → after_entry g entry ≡ g
same_graph g (entries.Advance p) begins = refl
same_graph g (entries.Said number command reply) begins = absurd (cc)
same_graph g _ begins = refl

no_seats : (number : ℕ) (entry : Entry) → begins_cycle entry ≡ true → is_of number entry ≡ false
no_seats number (entries.Advance p) begins = refl
no_seats number _ begins = absurd (cc)

pub graph_same_at_begin : (heap : Heap) (history : List Entry) (entry : Entry) → begins_cycle entry ≡ true → graph_of heap (history ++ entry ∷ []) ≡ graph_of heap history
graph_same_at_begin heap history entry begins = graph_after-more _ history entry ∙ same_graph (graph_of heap history) entry begins

-- another's entry changes nothing of what a seat brings
pub brings_stays_by_other : (number : ℕ) (history : List Entry) (entry : Entry) → is_of number entry ≡ false → brings number (history ++ entry ∷ []) ≡ brings number history
brings_stays_by_other number history entry other =
    let more = total_of-more number (λ e. e.taken) (since_reply number history) entry in
    rw (up_to_last-no (is_reply_to number) history entry (no_reply entry other), after_last-no (is_reply_to number) history entry (no_reply entry other), more, other) (omega arith)
  where
    no_reply : (e : Entry) → is_of number e ≡ false → is_reply_to number e ≡ false
    no_reply (entries.Said s command reply) its = its
    no_reply _ its = refl

pub all_bring_same_at_begin : (heap : Heap) (history : List Entry) (entry : Entry) → begins_cycle entry ≡ true → all_bring heap (history ++ entry ∷ []) ≡ all_bring heap history
all_bring_same_at_begin heap history entry begins = same_sums (range_with_len 0 heap.seats)
  where
    same_sums : (ns : List ℕ) → sum_by (λ number. brings number (history ++ entry ∷ [])) ns ≡ sum_by (λ number. brings number history) ns
    same_sums [] = refl
    same_sums (n ∷ ns) =
        omega (arith, sum_by-cons (λ number. brings number (history ++ entry ∷ [])) n ns, sum_by-cons (λ number. brings number history) n ns, brings_stays_by_other n history entry (no_seats n entry begins), same_sums ns)

-- so the bound is what is reached and what the seats bring
pub bound_at_begin : (heap : Heap) (begun : List Id) (history : List Entry) (entry : Entry) → begins_cycle entry ≡ true
    → bound heap begun (history ++ entry ∷ []) ≡ fragments_of_all (graph_of heap history) begun + all_bring heap history
bound_at_begin heap begun history entry begins =
    rw (up_to_cycle_at_begin history entry begins, since_cycle-begin history entry begins, graph_same_at_begin heap history entry begins, all_bring_same_at_begin heap history entry begins) (omega arith)
