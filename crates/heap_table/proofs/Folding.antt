-- Folding in a seat that has left leaves the state as it is.
use Rattle.std.proofs.Common.{suc, ◌≡◌, ◌≢◌, ℕ, ◌+◌, ◌≤◌, true, List, [], ◌∷◌, length, set, Option, Some, refl, sym, ap, subst, ◌∙◌, inl, inr, arith}
use Rattle.std.proofs.lemmas.Bool.Decides.{eqb_tells}
use Rattle.std.proofs.lemmas.List.{length-set}
use Rattle.std.proofs.lemmas.List.Sums.{sum_by-append}
use mathlib.Core.Option.{Option as Found, none, some}
use lib.ListN.{get_elem?}
use Rattle.atomic_table.specs.Table.{State as Table, Joins}
use Rattle.atomic_table.proofs.Lists.{set_here, set_else}
use Rattle.heap_model.specs.declared.entry.Entry.{Entry}
use Rattle.heap_model.specs.declared.heap.Heap.{Heap}
use Rattle.heap_model.specs.account.Effects.{effect_of}
use Rattle.heap_model.specs.account.PhaseCounts.{phase}
use Rattle.core_machine.specs.collector.Collector.{Collector}
use Rattle.core_machine.specs.machine.Machine.{seat_at}
use Rattle.core_machine.specs.seat.Seat.{Seat}
use Rattle.heap_table.specs.Folded.{IsFolded, SeatsBefore}
use Rattle.heap_table.specs.Handing.{with_folded, folding_view}
use Rattle.heap_table.specs.Holds.{IsSeatOf, Holds}
use Rattle.heap_table.specs.Known.{CollectorKnown}
use Rattle.heap_table.specs.Views.{seat_view, collector_view}
use Rattle.heap_table.specs.declared.view.View.{View}
use Rattle.heap_table.specs.declared.view.View.TheVariants.{OfSeat, OfCollector, Spent}
use Rattle.heap_table.proofs.Knowers.{IsSeats, holder_is_seats, IsCollectors, holder_is_collectors}
use Rattle.heap_table.proofs.Positions.{equal_somes_equal_values}

-- no phase before some entry of a history is above the phase that is now
pub seats_stand_before : (history : List Entry) (now : ℕ) → now ≡ phase history → SeatsBefore now history
seats_stand_before history now is before rest entry split seats =
    let sum : phase history ≡ phase before + phase (entry ∷ rest) = ap phase split ∙ sum_by-append (λ (e : Entry). (effect_of e).phases) before (entry ∷ rest) in
    omega (arith, sum, is)

module _ (heap : Heap) (known : CollectorKnown) (number : ℕ) (seat : Seat) (left : seat.left ≡ true) where
  module _ (table : Table (Unit {0}) View) (holds : Holds heap table) (its : IsCollectors heap table 0 known holds) (seats : IsSeats heap table (suc number) number seat holds) where
    abbrev folded_view : View
    folded_view = folding_view (collector_view known) (seat_view number seat)

    abbrev first : List View
    first = set table.views 0 (folding_view (collector_view known) (seat_view number seat))

    abbrev seats_now : List (Option Seat)
    seats_now = set known.seats number (Some seat)

    unread : known.closed ≡ []
    unread = ap (λ (k : CollectorKnown). k.closed) (sym its.known_is) ∙ seats.unread

    view_else : (s : ℕ) → s ≢ number → get_elem? (set first (suc number) Spent) (suc s) ≡ get_elem? table.views (suc s)
    view_else s other = set_else first (suc number) (suc s) Spent (λ e. other (omega arith)) ∙ set_else table.views 0 (suc s) folded_view (λ e. omega arith)

    view_here : get_elem? (set first (suc number) Spent) (suc number) ≡ some Spent
    view_here = set_here first (suc number) Spent (omega (arith, seats.has_view, length-set table.views 0 folded_view))

    seat_slots_are : length known.seats ≡ heap.seats
    seat_slots_are = subst (λ (k : CollectorKnown). length k.seats ≡ heap.seats) its.known_is holds.is.seat_slots

    folded_here : IsFolded seats_now number seat
    folded_here = set_here known.seats number (Some seat) (omega (arith, seat_slots_are, seats.within))

    stays_seat : (v : Found View) (s : ℕ) → s ≢ number → IsSeatOf heap known.seats s v (seat_at holds.state s) → IsSeatOf heap seats_now s v (seat_at holds.state s)
    stays_seat (some (OfSeat view)) s other is = is
    stays_seat (some (OfCollector view)) s other is = is
    stays_seat (some Spent) s other is = set_else known.seats number s (Some seat) other ∙ is
    stays_seat none s other is = is

    -- who was folded in before
    was_folded : (s : ℕ) (kept : Seat) → s ≢ number → IsFolded seats_now s kept → IsFolded holds.known.seats s kept
    was_folded s kept other folded = subst (λ (k : CollectorKnown). IsFolded k.seats s kept) (sym its.known_is) (sym (set_else known.seats number s (Some seat) other) ∙ folded)

    holds_folded : Holds heap (record { words = table.words; homes = table.homes; views = set (set table.views 0 (folding_view (collector_view known) (seat_view number seat))) (suc number) Spent })
    holds_folded = record {
      state = holds.state;
      known = with_folded known number seat;
      book = holds.book;
      is = record {
        words_are = holds.is.words_are;
        knows = set_else first (suc number) 0 Spent (λ e. omega arith) ∙ set_here table.views 0 folded_view its.has_view;
        collector_is = holds.is.collector_is ∙ ap (λ (k : CollectorKnown). k.collector) its.known_is;
        counted = length-set first (suc number) Spent ∙ length-set table.views 0 folded_view ∙ holds.is.counted ∙ ap (λ (k : CollectorKnown). suc k.handed) its.known_is;
        few = subst (λ (k : CollectorKnown). k.handed ≤ heap.seats) its.known_is holds.is.few;
        seat_slots = length-set known.seats number (Some seat) ∙ seat_slots_are;
        seats_are = λ s within. elim (eqb_tells s number) as (λ _. IsSeatOf heap seats_now s (get_elem? (set first (suc number) Spent) (suc s)) (seat_at holds.state s)) [
          | inl here ↦ subst (λ (i : ℕ). IsSeatOf heap seats_now i (get_elem? (set first (suc number) Spent) (suc i)) (seat_at holds.state i)) (sym here.1)
              (subst (λ (v : Found View). IsSeatOf heap seats_now number v (seat_at holds.state number)) (sym view_here) (folded_here ∙ ap (λ (x : Seat). some (Some x)) (sym seats.seat_is)))
          | inr other ↦ subst (λ (v : Found View). IsSeatOf heap seats_now s v (seat_at holds.state s)) (sym (view_else s other.1))
              (stays_seat (get_elem? table.views (suc s)) s other.1 (subst (λ (k : CollectorKnown). IsSeatOf heap k.seats s (get_elem? table.views (suc s)) (seat_at holds.state s)) its.known_is (holds.is.seats_are s within)))
        ];
        spent = λ s kept folded. elim (eqb_tells s number) as (λ _. get_elem? (set first (suc number) Spent) (suc s) ≡ some Spent) [
          | inl here ↦ ap (λ (i : ℕ). get_elem? (set first (suc number) Spent) (suc i)) here.1 ∙ view_here
          | inr other ↦ view_else s other.1 ∙ holds.is.spent s kept (was_folded s kept other.1 folded)
        ];
        gone = λ s kept folded. elim (eqb_tells s number) as (λ _. kept.left ≡ true) [
          | inl here ↦ ap (λ (x : Seat). x.left) (equal_somes_equal_values kept seat (sym folded ∙ ap (get_elem? seats_now) here.1 ∙ folded_here)) ∙ left
          | inr other ↦ holds.is.gone s kept (was_folded s kept other.1 folded)
        ];
        closed_are = rw unread refl;
        still = λ some_read. absurd (omega (arith, some_read, ap length unread));
      };
      stands = holds.stands;
      late = λ all. seats_stand_before holds.book.history known.collector.phase
          (ap (λ (c : Collector). c.phase) (sym (holds.is.collector_is ∙ ap (λ (k : CollectorKnown). k.collector) its.known_is)) ∙ holds.stands.rule.collector_stands.phase_told);
    }

  pub folding_is_allowed : (id other : ℕ) → Joins (Holds heap) id (collector_view known) other (seat_view number seat) (folding_view (collector_view known) (seat_view number seat)) Spent
  folding_is_allowed id other table holds at apart at_other =
      let first_view = holder_is_collectors heap table id known holds at in
      let its = subst (λ (i : ℕ). IsCollectors heap table i known holds) first_view.id_is first_view in
      let there : get_elem? table.views other ≡ some (seat_view number seat) = sym (set_else table.views id other (folding_view (collector_view known) (seat_view number seat)) apart) ∙ at_other in
      let its_view = holder_is_seats heap table other number seat holds there in
      let seats = subst (λ (i : ℕ). IsSeats heap table i number seat holds) its_view.id_is its_view in
      subst (λ (i : ℕ). Holds heap (record { words = table.words; homes = table.homes; views = set (set table.views i (folding_view (collector_view known) (seat_view number seat))) other Spent })) (sym first_view.id_is)
      (subst (λ (i : ℕ). Holds heap (record { words = table.words; homes = table.homes; views = set (set table.views 0 (folding_view (collector_view known) (seat_view number seat))) i Spent })) (sym its_view.id_is) (holds_folded table holds its seats))
