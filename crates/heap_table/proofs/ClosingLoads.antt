-- Closing reads the words one by one; once it has read all, the state is known whole.
use Rattle.std.proofs.Common.{suc, ◌≡◌, ℕ, ◌<◌, ◌≤◌, List, [], ◌∷◌, ◌++◌, length, length-append, get_or, set, take, refl, sym, ap, subst, ◌∙◌, arith}
use Rattle.std.proofs.Math.Seq.{take-suc, take-length}
use Rattle.std.proofs.lemmas.List.{length-set, set-get_or}
use mathlib.Core.Option.{Option as Found, some}
use lib.ListN.{get_elem?}
use Rattle.atomic_table.specs.Table.{State as Table, Allows, keeps}
use Rattle.atomic_table.proofs.Lists.{set_here, set_else}
use Rattle.heap_model.specs.declared.heap.Heap.{Heap}
use Rattle.core_machine.specs.machine.Machine.{seat_at}
use Rattle.core_machine.specs.table.Layout.{table_length}
use Rattle.heap_table.specs.Closed.{EndsWhole}
use Rattle.heap_table.specs.Folded.{IsFolded, AllFolded, SeatsBefore}
use Rattle.heap_table.specs.Handing.{with_closed}
use Rattle.heap_table.specs.Holds.{IsSeatOf, Holds}
use Rattle.heap_table.specs.Known.{CollectorKnown}
use Rattle.heap_table.specs.Told.{Tells}
use Rattle.heap_table.specs.Views.{collector_view}
use Rattle.heap_table.specs.declared.view.View.{View}
use Rattle.heap_table.specs.declared.view.View.TheVariants.{Spent}
use Rattle.heap_table.proofs.Knowers.{IsCollectors, holder_is_collectors}

module _ (heap : Heap) (known : CollectorKnown) (all : AllFolded heap known.seats) (more : length known.closed < table_length heap) where
  module _ (table : Table (Unit {0}) View) (holds : Holds heap table) (its : IsCollectors heap table 0 known holds) where
    abbrev word : ℕ
    word = get_or table.words (length known.closed) 0

    whole_length : length table.words ≡ table_length heap
    whole_length = ap length (sym holds.is.words_are) ∙ holds.stands.rule.machine.table

    closed_now : known.closed ++ word ∷ [] ≡ take (suc (length known.closed)) table.words
    closed_now =
        ap (λ (l : List ℕ). l ++ word ∷ []) (subst (λ (k : CollectorKnown). k.closed ≡ take (length k.closed) table.words) its.known_is holds.is.closed_are)
        ∙ sym (take-suc table.words (length known.closed) 0 (omega (arith, more, whole_length)))

    long_closed : length (known.closed ++ word ∷ []) ≡ suc (length known.closed)
    long_closed = omega (arith, length-append known.closed (word ∷ []))

    view_stays : (s : ℕ) → get_elem? (set table.views 0 (collector_view (with_closed known word))) (suc s) ≡ get_elem? table.views (suc s)
    view_stays s = set_else table.views 0 (suc s) (collector_view (with_closed known word)) (λ e. omega arith)

    spent_all : (s : ℕ) → s < heap.seats → get_elem? table.views (suc s) ≡ some Spent
    spent_all s within = holds.is.spent s (all s within).0 (subst (λ (k : CollectorKnown). IsFolded k.seats s (all s within).0) (sym its.known_is) (all s within).1)

    seat_folded : (s : ℕ) → s < heap.seats → IsFolded known.seats s (seat_at holds.state s)
    seat_folded s within = subst (λ (v : Found View). IsSeatOf heap known.seats s v (seat_at holds.state s)) (spent_all s within)
        (subst (λ (k : CollectorKnown). IsSeatOf heap k.seats s (get_elem? table.views (suc s)) (seat_at holds.state s)) its.known_is (holds.is.seats_are s within))

    late_now : SeatsBefore known.folded holds.book.history
    late_now = subst (λ (k : CollectorKnown). SeatsBefore k.folded holds.book.history) its.known_is (holds.late (subst (λ (k : CollectorKnown). AllFolded heap k.seats) (sym its.known_is) all))

    holds_read : Holds heap (record { words = table.words; homes = table.homes; views = set table.views 0 (collector_view (with_closed known word)) })
    holds_read = record {
      state = holds.state;
      known = with_closed known word;
      book = holds.book;
      is = record {
        words_are = holds.is.words_are;
        knows = set_here table.views 0 (collector_view (with_closed known word)) its.has_view;
        collector_is = holds.is.collector_is ∙ ap (λ (k : CollectorKnown). k.collector) its.known_is;
        counted = length-set table.views 0 (collector_view (with_closed known word)) ∙ holds.is.counted ∙ ap (λ (k : CollectorKnown). suc k.handed) its.known_is;
        few = subst (λ (k : CollectorKnown). k.handed ≤ heap.seats) its.known_is holds.is.few;
        seat_slots = subst (λ (k : CollectorKnown). length k.seats ≡ heap.seats) its.known_is holds.is.seat_slots;
        seats_are = λ s within. subst (λ (v : Found View). IsSeatOf heap known.seats s v (seat_at holds.state s)) (sym (view_stays s))
            (subst (λ (k : CollectorKnown). IsSeatOf heap k.seats s (get_elem? table.views (suc s)) (seat_at holds.state s)) its.known_is (holds.is.seats_are s within));
        spent = λ s seat folded. view_stays s ∙ holds.is.spent s seat (subst (λ (k : CollectorKnown). IsFolded k.seats s seat) (sym its.known_is) folded);
        gone = λ s seat folded. holds.is.gone s seat (subst (λ (k : CollectorKnown). IsFolded k.seats s seat) (sym its.known_is) folded);
        closed_are = closed_now ∙ ap (λ (n : ℕ). take n table.words) (sym long_closed);
        still = λ some_read s within. view_stays s ∙ spent_all s within;
      };
      stands = holds.stands;
      late = λ again. late_now;
    }

    ends_whole : EndsWhole heap (with_closed known word)
    ends_whole whole = record {
      state = holds.state;
      book = holds.book;
      stands = holds.stands;
      words_are = holds.is.words_are ∙ sym (closed_now ∙ ap (λ (n : ℕ). take n table.words) (sym long_closed ∙ whole ∙ sym whole_length) ∙ take-length table.words);
      seats_are = seat_folded;
      gone = λ s within. holds.is.gone s (seat_at holds.state s) (subst (λ (k : CollectorKnown). IsFolded k.seats s (seat_at holds.state s)) (sym its.known_is) (seat_folded s within));
      collector_is = holds.is.collector_is ∙ ap (λ (k : CollectorKnown). k.collector) its.known_is;
      late = late_now;
    }

  pub reading_is_allowed : (id : ℕ) → Allows (Holds heap) 0 id (collector_view known, []) (length known.closed) (λ n. n)
      (Tells (λ n. collector_view (with_closed known n)) (λ n. EndsWhole heap (with_closed known n)) (collector_view known, []))
  reading_is_allowed id table holds none_home at small =
      let first = holder_is_collectors heap table id known holds at in
      let its = subst (λ (i : ℕ). IsCollectors heap table i known holds) first.id_is first in
      let n = get_or table.words (length known.closed) 0 in (
        collector_view (with_closed known n),
        keeps,
        tt,
        subst (λ (i : ℕ). Holds heap (record { words = set table.words (length known.closed) n; homes = table.homes; views = set table.views i (collector_view (with_closed known n)) })) (sym first.id_is)
            (subst (λ (l : List ℕ). Holds heap (record { words = l; homes = table.homes; views = set table.views 0 (collector_view (with_closed known n)) })) (sym (set-get_or table.words (length known.closed) 0)) (holds_read table holds its)),
        (refl, ends_whole table holds its),
      )
