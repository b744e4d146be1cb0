-- What stands of a cycle goes on by each event of a seat.
use Rattle.std.proofs.Common.{◌≡◌, ◌≢◌, ℕ, ◌+◌, ◌%◌, ◌<◌, ◌⊎◌, inl, inr, true, List, [], length, Option, Some, None, refl, sym, ap, ◌∙◌, subst, arith}
use Rattle.std.proofs.lemmas.Bool.Decides.{eqb_tells}
use Rattle.std.proofs.lemmas.List.{get_or-set_same, get_or-set_other}
use Rattle.core_rule.proofs.Terms.{cycle_phases, Command, Entry, Heap, Id, graph_of, bound, phase, total, up_to_cycle, Graph, register_value, IsReach, LoadingOld, ShadingOld, Word}
use Rattle.core_rule.proofs.Terms.{Collector, State, seat_at, Begins, BeginsInner, Steps, Can, state_after, state_after_due, entries, found_by, after_begin, Move, next_move}
use Rattle.core_rule.proofs.Terms.{move_at, seat_after_due, has_barrier_of, after_old_load, object_of, target_of, register_in, Seat, absent_seat, head_of, at, Book, id_at, node_at}
use Rattle.core_rule.proofs.Terms.{Kept, HoldsValue, IsAwaited, Rule, Finds}
use Rattle.core_machine.specs.declared.point.Point.TheVariants as points
use Rattle.core_machine.specs.seat.FitsAccess.{SeatIsAtSet}
use Rattle.core_rule.specs.footprint.Footprint.{CycleStands, StageStandsInside, is_inside}
use Rattle.core_rule.specs.Stands.{Stands}
use Rattle.core_rule.proofs.entries.AtRest.{seat_fits}
use Rattle.core_rule.proofs.footprint.CarryCycle.{cycle_stands_carried}
use Rattle.core_rule.proofs.footprint.Closed.{register_ids_are_inside}
use Rattle.core_rule.proofs.footprint.FootprintGoes.{footprint_goes_on, stage_stands_inside_still, old_value_is_inside}
use Rattle.core_rule.proofs.footprint.Named.{cell_target_is_inside}
use Rattle.core_rule.proofs.looks.Origins.{ComesFrom, IsOld, begin_is_not_old, inner_is_not_old}
use Rattle.core_rule.proofs.looks.Stays.{all_looks_stand_after_step, all_looks_stand_after_begin, all_looks_stand_after_inner}
use Rattle.core_machine.specs.seat.Collecting.{inner_point}
use Rattle.heap_model.specs.declared.calls.collect.Inner.{Inner}
use Rattle.core_rule.proofs.footprint.Mute.{AreMute, mute_begin_no_cycle, mute_tell_no_phase}
use Rattle.core_rule.proofs.entries.StepTells.{shown_are_mute}
use Rattle.core_rule.proofs.steps.Seats.{step_kind_of_each_point}
use Rattle.core_rule.proofs.footprint.StaysInside.{kept_stays_inside}
use Rattle.core_rule.proofs.kept.WeightGrowth.{total_of_appended}
use Rattle.core_rule.proofs.steps.Assemble.{Keeps}
use Rattle.core_rule.proofs.ways.LoadedObjects.{loaded_field_refers}

-- an old value was loaded
old_loaded : (seat : Seat) (head : Option ℕ) → (after_old_load seat head).loaded ≡ seat.loaded
old_loaded seat None = refl
old_loaded seat (Some f) = refl

-- the collector stays
due_collector : (heap : Heap) (state : State) (number : ℕ) (move : Option Move) → (state_after_due heap state number move).collector ≡ state.collector
due_collector heap state number None = refl
due_collector heap state number (Some move) = refl

-- and each other seat
due_other : (heap : Heap) (state : State) (number r : ℕ) (move : Option Move) → r ≢ number → seat_at (state_after_due heap state number move) r ≡ seat_at state r
due_other heap state number r None apart = refl
due_other heap state number r (Some move) apart = get_or-set_other state.seats number r _ absent_seat apart

-- the seat makes its move
due_own : (heap : Heap) (state : State) (number : ℕ) (move : Option Move) → number < length state.seats
    → (found : ℕ) × (seat_at (state_after_due heap state number move) number ≡ seat_after_due (seat_at state number) move found)
due_own heap state number None here = (0, refl)
due_own heap state number (Some move) here = (found_by heap state move.step, get_or-set_same state.seats number _ absent_seat here)

module _ (heap : Heap) (state new : State) (book : Book) (begun_at : ℕ → ℕ) (added : List Entry) (stands : Stands heap state book) (keeps : Keeps heap state new book begun_at added) (mute : AreMute added) where
  abbrev rule : Rule heap state book
  rule = stands.rule

  abbrev now : Book
  now = keeps.now

  phase_same : phase now.history ≡ phase book.history
  phase_same = omega (arith, ap phase keeps.grown, total_of_appended (λ e. e.phases) book.history added, mute_tell_no_phase added mute)

  -- the cycle goes on where the collector stays, and what sets have loaded is inside
  pub quiet_cycle : new.collector ≡ state.collector
      → ((begun : List Id) → IsReach (graph_of heap (up_to_cycle book.history)) begun → (number f i k : ℕ) → number < heap.seats → (seat_at new number).point ≡ points.Access ShadingOld
      → head_of (seat_at new number).loaded ≡ Some f → (seat_at new number ≡ seat_at state number)
      ⊎ (book.owner f ≡ Kept i k → is_inside (graph_of heap (up_to_cycle book.history)) begun (id_at book.made i) ≡ true))
      → CycleStands heap new now
  quiet_cycle same olds = cycle_stands_carried heap state new book now added keeps.grown (mute_begin_no_cycle added mute) (λ running rests. running (ap (λ p. p % cycle_phases) phase_same ∙ rests)) stands.cycle (λ begun reach foot.
      let most : ℕ = bound heap begun book.history in
      footprint_goes_on heap state new book now added rule keeps.rule keeps.grown keeps.goes begun reach most foot
      (λ last f i k owned. foot.kept f i k owned (inr (ap (λ p. p % cycle_phases) (sym phase_same) ∙ last)))
      (λ number f i k here point_is loads owned. elim (olds begun reach number f i k here point_is loads) [
        | inl stays ↦ old_value_is_inside heap state new book now added rule keeps.rule keeps.grown keeps.goes begun reach most foot number f i k here
            (ap (λ (s : Seat). s.point) (sym stays) ∙ point_is) (ap (λ (s : Seat). head_of s.loaded) (sym stays) ∙ loads) owned
        | inr its ↦ kept_stays_inside heap state new book now rule keeps.rule keeps.goes begun reach f i k owned (λ was below. its was)
      ])
      (subst (λ (c : Collector). StageStandsInside heap now.made begun (is_inside (graph_of heap (up_to_cycle book.history)) begun) now.owner (most + total (λ e. e.taken) added) c.stage) (sym same)
      (stage_stands_inside_still heap state new book now added rule keeps.rule keeps.grown keeps.goes begun reach most state.collector.stage foot.stage)))

module _ (heap : Heap) (state : State) (book : Book) (stands : Stands heap state book) (number : ℕ) (here : number < heap.seats) where
  abbrev seat : Seat
  seat = seat_at state number

  abbrev g : Graph
  g = graph_of heap book.history

  seated : number < length state.seats
  seated = rw stands.rule.machine.seated here

  -- what a set loads from its field is inside
  loads_inside : (begun : List Id) → IsReach (graph_of heap (up_to_cycle book.history)) begun → seat.point ≡ points.Access LoadingOld → (f i k : ℕ)
      → head_of (at heap state.words (Word seat.reached seat.part)) ≡ Some f → book.owner f ≡ Kept i k → is_inside (graph_of heap (up_to_cycle book.history)) begun (id_at book.made i) ≡ true
  loads_inside begun reach point_is f i k loads owned =
      let rule = stands.rule in
      let seat_stands = rule.seats_stand number here in
      let fits : SeatIsAtSet seat × (has_barrier_of seat ≡ true) × (seat.loaded ≡ 0) = rw point_is at (seat_fits rule number here).way_at_point in
      let finds : Finds (node_at g book.made) book.made book.owner book.fragments seat = rw point_is at seat_stands.names.way in
      let r : ℕ = object_of seat.command in
      let holds : HoldsValue book.made book.owner book.fragments (register_in seat.registers r) (register_value g number r)
      = seat_stands.names.registers r (λ awaited. subst (λ x. IsAwaited x (target_of seat.command) r) point_is awaited) in
      let held = subst (λ held. HoldsValue book.made book.owner book.fragments held (register_value g number r)) finds.way.holds holds in
      let holder = register_ids_are_inside heap book.history begun rule.heap_stands.legal.objects reach number r (id_at book.made finds.index) held.0 in
      cell_target_is_inside heap state book rule begun reach finds.index f i k holder
      (loaded_field_refers heap state.words g book.made book.owner book.fragments rule.machine.limits rule.heap_stands.control_words rule.heap_stands.ids rule.heap_stands.objects seat fits.0.2.arrived finds f loads) owned

  abbrev after : State
  after = state_after heap state (Steps number)

  step_mute : AreMute (entries heap state (Steps number))
  step_mute = shown_are_mute number seat seat.point (entries heap state (Steps number)) ((step_kind_of_each_point seat.point).shows heap state number)

  step_olds : (begun : List Id) → IsReach (graph_of heap (up_to_cycle book.history)) begun → (r f i k : ℕ) → r < heap.seats → (seat_at after r).point ≡ points.Access ShadingOld
      → head_of (seat_at after r).loaded ≡ Some f → (seat_at after r ≡ seat_at state r)
      ⊎ (book.owner f ≡ Kept i k → is_inside (graph_of heap (up_to_cycle book.history)) begun (id_at book.made i) ≡ true)
  step_olds begun reach r f i k below point_is loads = elim (eqb_tells r number) [
    | inr apart ↦ inl (due_other heap state number r (next_move heap number seat) apart.1)
    | inl same ↦ inr (own same.1)
  ]
    where
      own : r ≡ number → book.owner f ≡ Kept i k → is_inside (graph_of heap (up_to_cycle book.history)) begun (id_at book.made i) ≡ true
      own same =
          let moved = due_own heap state number (next_move heap number seat) seated in
          let is_now : (seat_at after number).point ≡ points.Access ShadingOld = subst (λ n. (seat_at after n).point ≡ points.Access ShadingOld) same point_is in
          let old : (seat_after_due seat (move_at heap number seat seat.point) moved.0).point ≡ points.Access ShadingOld = sym (ap (λ (s : Seat). s.point) moved.1) ∙ is_now in
          let before : seat.point ≡ points.Access LoadingOld = subst (ComesFrom seat.point) old ((step_kind_of_each_point seat.point).looks.comes heap number seat moved.0 refl) in
          let loaded : head_of (seat_at after number).loaded ≡ Some f = subst (λ n. head_of (seat_at after n).loaded ≡ Some f) same loads in
          loads_inside begun reach before f i k (sym (ap head_of (found_now before)) ∙ loaded)
        where
          found_now : seat.point ≡ points.Access LoadingOld → (seat_at after number).loaded ≡ at heap state.words (Word seat.reached seat.part)
          found_now before = subst (λ p. (seat_at (state_after_due heap state number (move_at heap number seat p)) number).loaded ≡ at heap state.words (Word seat.reached seat.part)) (sym before)
              (ap (λ (s : Seat). s.loaded) (get_or-set_same state.seats number _ absent_seat seated) ∙ old_loaded (record seat { loaded = at heap state.words (Word seat.reached seat.part) }) (head_of (at heap state.words (Word seat.reached seat.part))))

  -- by a step of a seat
  pub stands_after_seat_step : (keeps : Keeps heap state after book book.begun (entries heap state (Steps number))) → Stands heap after keeps.now
  stands_after_seat_step keeps = record {
    rule = keeps.rule;
    cycle = quiet_cycle heap state after book book.begun (entries heap state (Steps number)) stands keeps step_mute (due_collector heap state number (next_move heap number seat)) step_olds;
    looks = all_looks_stand_after_step heap state book keeps.now.history number stands.rule here stands.looks keeps.grown;
  }

  -- where a seat comes to stand elsewhere than at an old value, what the others have loaded stays
  olds_stay : (new : State) → ((r : ℕ) → r ≢ number → seat_at new r ≡ seat_at state r) → ¬ IsOld (seat_at new number).point → (begun : List Id) → IsReach (graph_of heap (up_to_cycle book.history)) begun
      → (r f i k : ℕ) → r < heap.seats → (seat_at new r).point ≡ points.Access ShadingOld → head_of (seat_at new r).loaded ≡ Some f → (seat_at new r ≡ seat_at state r)
      ⊎ (book.owner f ≡ Kept i k → is_inside (graph_of heap (up_to_cycle book.history)) begun (id_at book.made i) ≡ true)
  olds_stay new others elsewhere begun reach r f i k below point_is loads = elim (eqb_tells r number) [
    | inr apart ↦ inl (others r apart.1)
    | inl same ↦ absurd (elsewhere (subst IsOld (sym (subst (λ n. (seat_at new n).point ≡ points.Access ShadingOld) same.1 point_is)) tt))
  ]

  -- so it is by the begin of a call
  pub stands_after_begin : (command : Command) (begun_at : ℕ → ℕ) → Can heap state (Begins number command)
      → (keeps : Keeps heap state (state_after heap state (Begins number command)) book begun_at []) → Stands heap (state_after heap state (Begins number command)) keeps.now
  stands_after_begin command begun_at can keeps =
      let new = state_after heap state (Begins number command) in
      let point : (seat_at new number).point ≡ (after_begin heap seat command).point = ap (λ (s : Seat). s.point) (get_or-set_same state.seats number _ absent_seat seated) in
      record {
        rule = keeps.rule;
        cycle = quiet_cycle heap state new book begun_at [] stands keeps tt refl
            (olds_stay new (λ r. get_or-set_other state.seats number r _ absent_seat) (λ old. begin_is_not_old heap seat command can.1.idle (subst IsOld point old)));
        looks = all_looks_stand_after_begin heap state book.history keeps.now.history number command seated here can.1 stands.looks keeps.grown;
      }

  -- and by that of an inner call
  pub stands_after_inner_begin : (inner : Inner) (begun_at : ℕ → ℕ) → Can heap state (BeginsInner number inner)
      → (keeps : Keeps heap state (state_after heap state (BeginsInner number inner)) book begun_at []) → Stands heap (state_after heap state (BeginsInner number inner)) keeps.now
  stands_after_inner_begin inner begun_at can keeps =
      let new = state_after heap state (BeginsInner number inner) in
      let point : (seat_at new number).point ≡ inner_point inner = ap (λ (s : Seat). s.point) (get_or-set_same state.seats number _ absent_seat seated) in
      record {
        rule = keeps.rule;
        cycle = quiet_cycle heap state new book begun_at [] stands keeps tt refl
            (olds_stay new (λ r. get_or-set_other state.seats number r _ absent_seat) (λ old. inner_is_not_old inner (subst IsOld point old)));
        looks = all_looks_stand_after_inner heap state book.history keeps.now.history number inner seated here can.1 stands.looks keeps.grown;
      }
