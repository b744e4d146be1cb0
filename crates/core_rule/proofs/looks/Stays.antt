-- What the seats have found stands after each event.
use Rattle.std.specs.List.{AllByRecursion}
use Rattle.std.proofs.Common.{◌≡◌, ◌≢◌, ℕ, ◌<◌, true, false, List, [], ◌∷◌, ◌++◌, Option, Some, None, length, slice_set, slice_index_or, inl, inr, refl, sym, subst}
use Rattle.std.proofs.lemmas.Bool.Decides.{eqb_tells}
use Rattle.std.proofs.lemmas.List.{append-nil, get_or-set_same, get_or-set_other}
use Rattle.heap_model.specs.declared.calls.collect.Inner.{Inner}
use Rattle.heap_model.specs.declared.calls.collect.Inner.TheVariants as inners
use Rattle.core_rule.proofs.Terms.{Command, Entry, Said, Heap, is_reply_to, turn_at, Stage, Point, State, seat_at, Begins, BeginsInner, Steps, state_after, state_after_due}
use Rattle.core_rule.proofs.Terms.{state_after_turn, entries, entries_shown, after_begin, after_inner_begin, MayBegin, MayBeginInner, Move, move_at, Seat, absent_seat, Book, Rule}
use Rattle.heap_model.specs.account.Noting.{is_collectors}
use Rattle.core_machine.specs.declared.point.Collecting.TheVariants.{Comparing}
use Rattle.core_machine.specs.declared.point.Point.TheVariants as points
use Rattle.core_machine.specs.seat.Collecting.{inner_point}
use Rattle.core_machine.specs.declared.seat.looks.Looks.{Looks}
use Rattle.core_machine.specs.seat.Looks.{MayMake}
use Rattle.core_rule.specs.looks.Looks.{LooksStand, AllLooksStand, CollectingStands, WhileCollecting}
use Rattle.core_rule.proofs.looks.Growth.{NoneOf, looks_stand_without_reply, looks_stand_elsewhere}
use Rattle.core_rule.proofs.looks.Moves.{GoesBy, NoneToOthers}
use Rattle.core_rule.proofs.entries.TurnShapes.{shape_adds_collector_entries}
use Rattle.core_rule.proofs.steps.collector.{turn_kind_of_each_stage}
use Rattle.core_rule.proofs.steps.Seats.{step_kind_of_each_point}
use Rattle.core_rule.proofs.looks.Ways.{stays_found_after_begin}

-- what the collector adds tells no seat a reply
none_turned : (r : ℕ) (added : List Entry) → AllByRecursion (λ entry. is_collectors entry ≡ true) added → NoneOf (is_reply_to r) added
none_turned r [] its = refl
none_turned r (entry ∷ added) its = rw (by entry its.0) (none_turned r added its.1)
  where
    by : (one : Entry) → is_collectors one ≡ true → is_reply_to r one ≡ false
    by (Said number command reply) its = absurd (cc its)
    by _ its = refl

pub all_looks_stand_after_turn : (heap : Heap) (state : State) (before now : List Entry) (stage : Stage) → AllLooksStand heap state before → now ≡ before ++ (turn_at heap state.collector stage).adds
    → AllLooksStand heap (state_after_turn heap state (turn_at heap state.collector stage)) now
all_looks_stand_after_turn heap state before now stage looks grown r below =
    subst (λ es. LooksStand heap es r (seat_at state r).point (seat_at state r).looks) (sym grown)
    (looks_stand_without_reply heap r before (turn_at heap state.collector stage).adds (none_turned r (turn_at heap state.collector stage).adds (shape_adds_collector_entries heap state.collector 0 stage ((turn_kind_of_each_stage stage).shape heap state.collector 0))) (seat_at state r).point (seat_at state r).looks (looks r below))

module _ (heap : Heap) (state : State) (number : ℕ) (here : number < length state.seats) where
  abbrev IsRight : List Entry → Seat → ℕ → Type 0
  IsRight history seat n = LooksStand heap history n seat.point seat.looks

  -- where one seat is another, and the others were told no reply
  one_seat : (before added : List Entry) (now : Seat) → AllLooksStand heap state before → NoneToOthers number added
      → IsRight (before ++ added) now number → AllLooksStand heap (record state { seats = slice_set state.seats number now }) (before ++ added)
  one_seat before added now looks others own r below = elim (eqb_tells r number) as (λ _. IsRight (before ++ added) (slice_index_or (slice_set state.seats number now) r absent_seat) r) [
    | inl same ↦ subst (λ n. IsRight (before ++ added) (slice_index_or (slice_set state.seats number now) n absent_seat) n) (sym same.1)
        (subst (λ (s : Seat). IsRight (before ++ added) s number) (sym (get_or-set_same state.seats number now absent_seat here)) own)
    | inr apart ↦ subst (λ (s : Seat). IsRight (before ++ added) s r) (sym (get_or-set_other state.seats number r now absent_seat apart.1))
        (looks_stand_without_reply heap r before added (others r apart.1) (seat_at state r).point (seat_at state r).looks (looks r below))
  ]

-- by a step
pub all_looks_stand_after_step : (heap : Heap) (state : State) (book : Book) (now : List Entry) (number : ℕ) → Rule heap state book → number < heap.seats → AllLooksStand heap state book.history
    → now ≡ book.history ++ entries heap state (Steps number) → AllLooksStand heap (state_after heap state (Steps number)) now
all_looks_stand_after_step heap state book now number rule here looks grown =
    subst (AllLooksStand heap (state_after heap state (Steps number))) (sym grown) (by (seat_at state number).point refl)
  where
    by : (point : Point) → (seat_at state number).point ≡ point
        → AllLooksStand heap (state_after_due heap state number (move_at heap number (seat_at state number) point)) (book.history ++ entries_shown heap state (move_at heap number (seat_at state number) point))
    by point point_is = moves (move_at heap number (seat_at state number) point) ((step_kind_of_each_point point).looks.goes heap state book rule number point_is)
      where
        moves : (move : Option Move) → GoesBy heap state book rule number move → AllLooksStand heap (state_after_due heap state number move) (book.history ++ entries_shown heap state move)
        moves None goes = subst (AllLooksStand heap state) (sym (append-nil book.history)) looks
        moves (Some move) goes = one_seat heap state number (rw rule.machine.seated here) book.history _ _ looks goes.others (goes.stands (looks number here))

-- by a begin
pub all_looks_stand_after_begin : (heap : Heap) (state : State) (before now : List Entry) (number : ℕ) (command : Command) → number < length state.seats → number < heap.seats → MayBegin (seat_at state number) command
    → AllLooksStand heap state before → now ≡ before ++ [] → AllLooksStand heap (state_after heap state (Begins number command)) now
all_looks_stand_after_begin heap state before now number command there here may looks grown =
    let seat : Seat = seat_at state number in
    let next : Seat = after_begin heap seat command in
    let stays = stays_found_after_begin heap seat command may.idle in
    subst (AllLooksStand heap (state_after heap state (Begins number command))) (sym grown)
    (one_seat heap state number there before [] next looks (λ r apart. refl)
    (subst (λ es. LooksStand heap es number next.point next.looks) (sym (append-nil before))
    (subst (LooksStand heap before number next.point) (sym stays.looks)
    (looks_stand_elsewhere heap before number seat.point next.point seat.looks (λ named. cc (may.idle, named)) stays.elsewhere (looks number here)))))

-- what an inner call asks for
inner_asks : (heap : Heap) (before : List Entry) (number : ℕ) (looks : Looks) (inner : Inner) → MayMake heap number looks inner → WhileCollecting (CollectingStands heap before number) (inner_point inner)
inner_asks heap before number looks inners.Look may = tt
inner_asks heap before number looks inners.Answer may = tt
inner_asks heap before number looks (inners.Behind other) may = record { below = may.0; apart = may.1 }
inner_asks heap before number looks (inners.Note reply) may = tt

inner_uncompared : (inner : Inner) (other p : ℕ) → inner_point inner ≢ points.Collecting (Comparing other p)
inner_uncompared inners.Look other p comparing = cc comparing
inner_uncompared inners.Answer other p comparing = cc comparing
inner_uncompared (inners.Behind one) other p comparing = cc comparing
inner_uncompared (inners.Note reply) other p comparing = cc comparing

pub all_looks_stand_after_inner : (heap : Heap) (state : State) (before now : List Entry) (number : ℕ) (inner : Inner) → number < length state.seats → number < heap.seats → MayBeginInner heap number (seat_at state number) inner
    → AllLooksStand heap state before → now ≡ before ++ [] → AllLooksStand heap (state_after heap state (BeginsInner number inner)) now
all_looks_stand_after_inner heap state before now number inner there here may looks grown =
    let seat : Seat = seat_at state number in
    let stands = looks number here in
    subst (AllLooksStand heap (state_after heap state (BeginsInner number inner))) (sym grown)
    (one_seat heap state number there before [] (after_inner_begin seat inner) looks (λ r apart. refl)
    (subst (λ es. LooksStand heap es number (inner_point inner) seat.looks) (sym (append-nil before)) record {
      seen = stands.seen;
      found = λ unnamed. stands.found (λ named. cc (may.idle, named));
      asks = inner_asks heap before number seat.looks inner may.makes;
      compares = λ other p comparing. absurd (inner_uncompared inner other p comparing);
    }))
