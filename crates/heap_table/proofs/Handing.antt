-- Handing out a seat leaves the state as it is.
use Rattle.std.proofs.Common.{suc, ◌≡◌, ℕ, ◌<◌, ◌≤◌, List, [], ◌∷◌, ◌++◌, length, length-append, set, refl, sym, ap, subst, ◌∙◌, inl, inr, arith}
use Rattle.std.proofs.lemmas.Bool.Decides.{eqb_tells, leb_tells}
use Rattle.std.proofs.lemmas.List.{length-set}
use mathlib.Core.Option.{Option as Found, none}
use lib.ListN.{get_elem?}
use Rattle.atomic_table.specs.Table.{State as Table, Splits}
use Rattle.atomic_table.proofs.Lists.{set_here, set_else, at_last}
use Rattle.heap_model.specs.declared.heap.Heap.{Heap}
use Rattle.core_machine.specs.machine.Machine.{seat_at}
use Rattle.core_machine.specs.machine.Opening.{opening_seat}
use Rattle.heap_table.specs.Folded.{IsFolded, AllFolded, SeatsBefore}
use Rattle.heap_table.specs.Handing.{with_handed, handing_view, handed_view}
use Rattle.heap_table.specs.Holds.{IsSeatOf, Holds}
use Rattle.heap_table.specs.Known.{CollectorKnown}
use Rattle.heap_table.specs.Views.{collector_view}
use Rattle.heap_table.specs.declared.view.View.{View}
use Rattle.heap_table.specs.declared.view.View.TheVariants.{Spent}
use Rattle.heap_table.proofs.Knowers.{IsCollectors, holder_is_collectors}
use Rattle.heap_table.proofs.Positions.{position_within_list, get_stays_by_append, get_past_end_is_none}

module _ (heap : Heap) (known : CollectorKnown) (few : known.handed < heap.seats) (open_ : known.closed ≡ []) where
  module _ (table : Table (Unit {0}) View) (holds : Holds heap table) (its : IsCollectors heap table 0 known holds) where
    abbrev first : List View
    first = set table.views 0 (handing_view (collector_view known))

    abbrev views : List View
    views = set table.views 0 (handing_view (collector_view known)) ++ handed_view heap (collector_view known) ∷ []

    counted : length table.views ≡ suc known.handed
    counted = holds.is.counted ∙ ap (λ (k : CollectorKnown). suc k.handed) its.known_is

    long : length first ≡ suc known.handed
    long = length-set table.views 0 (handing_view (collector_view known)) ∙ counted

    view_before : (s : ℕ) → s < known.handed → get_elem? views (suc s) ≡ get_elem? table.views (suc s)
    view_before s below = get_stays_by_append first (handed_view heap (collector_view known) ∷ []) (suc s) (omega (arith, long, below))
        ∙ set_else table.views 0 (suc s) (handing_view (collector_view known)) (λ e. omega arith)

    seat_was : (s : ℕ) → s < heap.seats → IsSeatOf heap known.seats s (get_elem? table.views (suc s)) (seat_at holds.state s)
    seat_was s within = subst (λ (k : CollectorKnown). IsSeatOf heap k.seats s (get_elem? table.views (suc s)) (seat_at holds.state s)) its.known_is (holds.is.seats_are s within)

    none_yet : (s : ℕ) → known.handed ≤ s → get_elem? table.views (suc s) ≡ none
    none_yet s past = get_past_end_is_none table.views (suc s) (omega (arith, past, counted))

    holds_handed : Holds heap (record { words = table.words; homes = table.homes; views = set table.views 0 (handing_view (collector_view known)) ++ handed_view heap (collector_view known) ∷ [] })
    holds_handed = record {
      state = holds.state;
      known = with_handed known;
      book = holds.book;
      is = record {
        words_are = holds.is.words_are;
        knows = get_stays_by_append first (handed_view heap (collector_view known) ∷ []) 0 (omega (arith, long)) ∙ set_here table.views 0 (handing_view (collector_view known)) its.has_view;
        collector_is = holds.is.collector_is ∙ ap (λ (k : CollectorKnown). k.collector) its.known_is;
        counted = omega (arith, length-append first (handed_view heap (collector_view known) ∷ []), long);
        few = few;
        seat_slots = subst (λ (k : CollectorKnown). length k.seats ≡ heap.seats) its.known_is holds.is.seat_slots;
        seats_are = λ s within. elim (leb_tells (suc s) known.handed) as (λ _. IsSeatOf heap known.seats s (get_elem? views (suc s)) (seat_at holds.state s)) [
          | inl before ↦ subst (λ (v : Found View). IsSeatOf heap known.seats s v (seat_at holds.state s)) (sym (view_before s before.1)) (seat_was s within)
          | inr past ↦ elim (eqb_tells s known.handed) as (λ _. IsSeatOf heap known.seats s (get_elem? views (suc s)) (seat_at holds.state s)) [
            | inl here ↦
                let opened : seat_at holds.state s ≡ opening_seat heap s = subst (λ (v : Found View). IsSeatOf heap known.seats s v (seat_at holds.state s)) (none_yet s (omega (arith, past.1))) (seat_was s within) in
                subst (λ (v : Found View). IsSeatOf heap known.seats s v (seat_at holds.state s))
                (sym (ap (λ (i : ℕ). get_elem? views (suc i)) here.1 ∙ at_last first (handed_view heap (collector_view known)) (suc known.handed) long))
                (sym here.1, ap (opening_seat heap) (sym here.1) ∙ sym opened)
            | inr other ↦
                let beyond : get_elem? views (suc s) ≡ none = get_past_end_is_none views (suc s) (omega (arith, past.1, other.1, length-append first (handed_view heap (collector_view known) ∷ []), long)) in
                subst (λ (v : Found View). IsSeatOf heap known.seats s v (seat_at holds.state s)) (none_yet s (omega (arith, past.1)) ∙ sym beyond) (seat_was s within)
          ]
        ];
        spent = λ s seat folded.
            let was = holds.is.spent s seat (subst (λ (k : CollectorKnown). IsFolded k.seats s seat) (sym its.known_is) folded) in
            let there = position_within_list table.views (suc s) Spent was in
            view_before s (omega (arith, there, counted)) ∙ was;
        gone = λ s seat folded. holds.is.gone s seat (subst (λ (k : CollectorKnown). IsFolded k.seats s seat) (sym its.known_is) folded);
        closed_are = rw open_ refl;
        still = λ some_read. absurd (omega (arith, some_read, ap length open_));
      };
      stands = holds.stands;
      late = λ all. subst (λ (k : CollectorKnown). SeatsBefore k.folded holds.book.history) its.known_is (holds.late (subst (λ (k : CollectorKnown). AllFolded heap k.seats) (sym its.known_is) all));
    }

  pub handing_is_allowed : (id : ℕ) → Splits (Holds heap) id (collector_view known) (handing_view (collector_view known)) (handed_view heap (collector_view known))
  handing_is_allowed id table holds at =
      let first_view = holder_is_collectors heap table id known holds at in
      let its = subst (λ (i : ℕ). IsCollectors heap table i known holds) first_view.id_is first_view in
      subst (λ (i : ℕ). Holds heap (record { words = table.words; homes = table.homes; views = set table.views i (handing_view (collector_view known)) ++ handed_view heap (collector_view known) ∷ [] })) (sym first_view.id_is) (holds_handed table holds its)
