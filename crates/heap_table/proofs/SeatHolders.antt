-- A seat's holder: its step is allowed, and what it keeps true it keeps true after a begin and after a step.
use Rattle.std.proofs.Common.{◌≡◌, ℕ, ◌<◌, Bool, true, false, cond, nat_lt, nat_le, length, Option, Some, None, sym, ap, subst, ◌∙◌, arith}
use Rattle.std.specs.Prelude.{IfSome, option_map}
use Rattle.atomic_table.specs.Seated.{TableId}
use Rattle.atomic_table.specs.Table.{Me, Allows}
use Rattle.heap_model.specs.declared.calls.collect.Inner.{Inner}
use Rattle.heap_model.specs.declared.calls.collect.Inner.TheVariants.{Look, Answer, Behind, Note}
use Rattle.heap_model.specs.declared.command.Command.{Command}
use Rattle.heap_model.specs.declared.command.Command.TheVariants as commands
use Rattle.heap_model.specs.declared.heap.Heap.{Heap}
use Rattle.core_machine.specs.declared.point.Point.TheVariants.{Idle, Making}
use Rattle.core_machine.specs.declared.point.Making.TheVariants.{Gathering}
use Rattle.core_machine.specs.declared.seat.register.Register.{Register}
use Rattle.core_machine.specs.declared.seat.register.Register.TheVariants.{Nil, Number, Object}
use Rattle.core_machine.specs.declared.step.Step.{Step}
use Rattle.core_machine.specs.declared.step.operation.Operation.{Operation}
use Rattle.core_machine.specs.declared.step.operation.Operation.TheVariants.{Store}
use Rattle.core_machine.specs.machine.Machine.{MayBegin, MayBeginInner, after_begin, after_inner_begin}
use Rattle.core_machine.specs.Moves.{Move, next_move, due_step}
use Rattle.core_machine.specs.seat.Access.{access_start}
use Rattle.core_machine.specs.seat.Commands.{IsServed}
use Rattle.core_machine.specs.seat.Fits.{Fits}
use Rattle.core_machine.specs.seat.Making.{fragments_gathered, after_gather, after_shortage}
use Rattle.core_machine.specs.seat.Registers.{register_in}
use Rattle.core_machine.specs.seat.Seat.{Seat, need}
use Rattle.core_machine.specs.table.Decode.{FoundPointsWithin}
use Rattle.core_machine.specs.table.Layout.{index_of, HasWord}
use Rattle.core_machine.specs.table.Operation.{address_of, operation_of, operation_result, word_after}
use Rattle.core_machine.proofs.moves.{due_move_stands, begin_stands}
use Rattle.core_machine.proofs.moves.Collect.{inner_stands}
use Rattle.core_machine.proofs.moves.Standing.{MoveStands}
use Rattle.core_rule.specs.cycle.Flight.{WhileAccess}
use Rattle.core_rule.specs.told.Reached.{HasReached}
use Rattle.core_rule.specs.told.Told.{IsAsTold}
use Rattle.core_rule.proofs.told.StoredWords.{store_tells_found}
use Rattle.heap_table.specs.Begun.{MayHaveBegun, Same, Begun, BegunInner, next_seat, NextHasWord}
use Rattle.heap_table.specs.Holds.{Holds}
use Rattle.heap_table.specs.Quiet.{is_quiet}
use Rattle.heap_table.specs.SeatHeld.{SeatHeld, KeepsSeat, IsStepped}
use Rattle.heap_table.specs.Told.{ToldAtStep, Tells, TellsStored}
use Rattle.heap_table.specs.TokenOf.{IsTokenOf}
use Rattle.heap_table.specs.Views.{seat_view}
use Rattle.heap_table.specs.declared.view.View.{View}
use Rattle.heap_table.proofs.Quiet.{quiet_seat_ignores_word, store_is_quiet}
use Rattle.heap_table.proofs.SeatSteps.{rule_allows_seat_step}
use Rattle.heap_table.proofs.Stored.{tells_stored_of_store}

-- a call that was begun is in flight
opened_busy : (seat : Seat) (register : Register) → (access_start seat register).point ≡ Idle → ⊥
opened_busy seat Nil e = cc
opened_busy seat (Number n) e = cc
opened_busy seat (Object head id) e = cc

gathered_busy : (heap : Heap) (seat : Seat) (enough more : Bool)
    → (cond enough (after_gather heap seat) (cond more (record seat { point = Making Gathering }) (after_shortage seat))).point ≡ Idle → ⊥
gathered_busy heap seat true more e = cc
gathered_busy heap seat false true e = cc
gathered_busy heap seat false false e = cc

begun_busy : (heap : Heap) (seat : Seat) (command : Command) → IsServed command → (after_begin heap seat command).point ≡ Idle → ⊥
begun_busy heap seat (commands.New d fields) served e =
    let s : Seat = record seat { command = commands.New d fields } in
    gathered_busy heap s (nat_le (need s) (length (fragments_gathered s))) (nat_lt s.tried heap.groups) e
begun_busy heap seat (commands.Array d cells) served e = cc
begun_busy heap seat (commands.Get d r i) served e = opened_busy (record seat { command = commands.Get d r i }) (register_in seat.registers r) e
begun_busy heap seat (commands.Set r i v) served e = opened_busy (record seat { command = commands.Set r i v }) (register_in seat.registers r) e
begun_busy heap seat (commands.Cas r i a v) served e = opened_busy (record seat { command = commands.Cas r i a v }) (register_in seat.registers r) e
begun_busy heap seat (commands.Num d n) served e = cc
begun_busy heap seat (commands.Nil d) served e = cc
begun_busy heap seat (commands.Copy d r) served e = cc
begun_busy heap seat (commands.Same a b) served e = cc
begun_busy heap seat (commands.Len r) served e = opened_busy (record seat { command = commands.Len r }) (register_in seat.registers r) e
begun_busy heap seat commands.Poll served e = cc
begun_busy heap seat commands.Collect served e = served
begun_busy heap seat commands.Leave served e = cc

inner_busy : (seat : Seat) (inner : Inner) → (after_inner_begin seat inner).point ≡ Idle → ⊥
inner_busy seat Look e = cc
inner_busy seat Answer e = cc
inner_busy seat (Behind other) e = cc
inner_busy seat (Note reply) e = cc

-- so a seat without one is that of the view
pub idle_same : (heap : Heap) (number : ℕ) (old seat : Seat) → MayHaveBegun heap number old seat → seat.point ≡ Idle → seat ≡ old
idle_same heap number old seat (Same e) idle = e
idle_same heap number old seat (Begun command may e) idle = absurd (begun_busy heap old command may.served (ap (λ (s : Seat). s.point) (sym e) ∙ idle))
idle_same heap number old seat (BegunInner inner may e) idle = absurd (inner_busy old inner (ap (λ (s : Seat). s.point) (sym e) ∙ idle))

-- the word that a seat's step stores leads within the heap where the word there before did
stored_leads : (heap : Heap) (number : ℕ) (seat : Seat) (move : Option Move) (step : Step) (word found : ℕ) → option_map (λ (m : Move). m.step) move ≡ Some step → operation_of step ≡ Store word
    → IfSome move (MoveStands heap number seat seat.point) → IfSome move (λ (m : Move). FoundPointsWithin heap (address_of m.step) found) → IfSome move (λ (m : Move). FoundPointsWithin heap (address_of m.step) word)
stored_leads heap number seat None step word found due stores stands leads = tt
stored_leads heap number seat (Some move) step word found due stores stands leads =
    let is : move.step ≡ step = cc in
    subst (λ (o : Operation). FoundPointsWithin heap (address_of move.step) (operation_result o found)) (ap operation_of is ∙ stores) (stands.step.leads found leads)

module _ (shared : TableId) (key : Heap) (mine : TableId) (me : Me (Unit {0}) View) (heap : Heap) (number : ℕ) (seat : Seat) (keeps : KeepsSeat shared key mine me heap number seat) where
  -- what is told at its due step
  abbrev pub SeatTells : ℕ → Me (Unit {0}) View → Type 0
  SeatTells = Tells (λ n. seat_view number (next_seat heap number seat n)) (ToldAtStep heap number seat) me

  module _ (step : Step) (due : due_step heap number seat ≡ Some step) where
    -- the step has its word
    pub step_has_its_word : HasWord heap (address_of step)
    step_has_its_word = of_due (due_step heap number seat) due (keeps.has_word seat keeps.begun)
      where
        of_due : (it : Option Step) → it ≡ Some step → IfSome it (λ s. HasWord heap (address_of s)) → HasWord heap (address_of step)
        of_due None is has = cc
        of_due (Some other) is has = let same : other ≡ step = cc in subst (λ (s : Step). HasWord heap (address_of s)) same has

    -- the rule allows it
    pub step_is_allowed : (slots id : ℕ) (key' : Heap) → slots ≡ shared.slots → key' ≡ key → Allows (Holds key') slots id me (index_of heap (address_of step)) (word_after step) SeatTells
    step_is_allowed slots id key' slots_are key_is =
        let none_ : slots ≡ 0 = slots_are ∙ ap (λ (z : TableId). z.slots) (sym keeps.of.table) ∙ keeps.of.slots in
        subst (λ (k : Heap). Allows (Holds k) slots id me (index_of heap (address_of step)) (word_after step) SeatTells) (sym (key_is ∙ keeps.of.key_is))
        (subst (λ (k : ℕ). Allows (Holds heap) k id me (index_of heap (address_of step)) (word_after step) SeatTells) (sym none_)
        (subst (λ (m : Me (Unit {0}) View). Allows (Holds heap) 0 id m (index_of heap (address_of step)) (word_after step) (Tells (λ n. seat_view number (next_seat heap number seat n)) (ToldAtStep heap number seat) m)) (sym keeps.knows)
        (rule_allows_seat_step heap number keeps.old seat step keeps.begun due id)))

    -- of a store, it tells what goes with the word stored
    pub step_tells_stored : TellsStored (operation_of step) SeatTells
    step_tells_stored = tells_stored_of_store (operation_of step) SeatTells (λ word is found after tells.
        let same = quiet_seat_ignores_word heap number seat step found word due (store_is_quiet step word is) in (
          tells.0 ∙ ap (λ (s : Seat). (seat_view number s, me.1)) same,
          record {
            leads = stored_leads heap number seat (next_move heap number seat) step word found due is (due_move_stands heap number seat keeps.limits few keeps.fits) tells.1.leads;
            fits = subst (Fits heap) same tells.1.fits;
            has_word = subst (NextHasWord heap number) same tells.1.has_word;
            tells = store_tells_found heap number seat word word step is due;
            own = subst (IsAsTold heap number) same tells.1.own;
            comes = subst (λ (s : Seat). WhileAccess (HasReached heap number s) s.point) same tells.1.comes;
          },
        ))
      where
        few : number < 16
        few = omega (arith, keeps.within, keeps.limits.seats_fit)

  -- without a call in flight the seat has what its own list tells
  pub idle_is_as_told : seat.point ≡ Idle → IsAsTold heap number seat
  idle_is_as_told idle = subst (IsAsTold heap number) (sym (idle_same heap number keeps.old seat keeps.begun idle)) keeps.own

  -- what it keeps after the step
  pub keeps_seat_after_step : (mine' : TableId) (me' : Me (Unit {0}) View) (next : Seat) (found : ℕ) → mine' ≡ mine → SeatTells found me' → next ≡ next_seat heap number seat found
      → KeepsSeat shared key mine' me' heap number next
  keeps_seat_after_step mine' me' next found same tells is = record {
    of = subst (λ (z : TableId). IsTokenOf shared key z heap) (sym same) keeps.of;
    limits = keeps.limits;
    within = keeps.within;
    old = next_seat heap number seat found;
    knows = tells.0 ∙ ap (λ (m : Me (Unit {0}) View). (seat_view number (next_seat heap number seat found), m.1)) keeps.knows;
    begun = Same is;
    fits = subst (Fits heap) (sym is) tells.1.fits;
    has_word = tells.1.has_word;
    own = tells.1.own;
  }

  -- and with a seat that may have begun a call since
  keeps_for : (next : Seat) → MayHaveBegun heap number keeps.old next → Fits heap next → KeepsSeat shared key mine me heap number next
  keeps_for next begun fits = record {
    of = keeps.of;
    limits = keeps.limits;
    within = keeps.within;
    old = keeps.old;
    knows = keeps.knows;
    begun = begun;
    fits = fits;
    has_word = keeps.has_word;
    own = keeps.own;
  }

  -- so after a begin
  pub keeps_seat_after_begin : (command : Command) (next : Seat) → MayBegin seat command → next ≡ after_begin heap seat command → KeepsSeat shared key mine me heap number next
  keeps_seat_after_begin command next may is =
      let same = idle_same heap number keeps.old seat keeps.begun may.idle in
      keeps_for next (Begun command (subst (λ (s : Seat). MayBegin s command) same may) (is ∙ ap (λ (s : Seat). after_begin heap s command) same))
      (subst (Fits heap) (sym is) (begin_stands heap number seat command keeps.limits keeps.fits may).fits)

  pub keeps_seat_after_inner : (inner : Inner) (next : Seat) → MayBeginInner heap number seat inner → next ≡ after_inner_begin seat inner → KeepsSeat shared key mine me heap number next
  keeps_seat_after_inner inner next may is =
      let same = idle_same heap number keeps.old seat keeps.begun may.idle in
      keeps_for next (BegunInner inner (subst (λ (s : Seat). MayBeginInner heap number s inner) same may) (is ∙ ap (λ (s : Seat). after_inner_begin s inner) same))
      (subst (Fits heap) (sym is) (inner_stands heap number seat inner keeps.fits may).fits)

-- what holds of the holder as contracts see it holds of its fields
pub due_step_is_step : (whole value : SeatHeld) (step : Step) → whole ≡ value → due_step value.heap value.number value.seat ≡ Some step → due_step whole.heap whole.number whole.seat ≡ Some step
due_step_is_step whole value step is due = subst (λ (h : SeatHeld). due_step h.heap h.number h.seat ≡ Some step) (sym is) due

pub holder_may_begin : (whole value : SeatHeld) (command : Command) → whole ≡ value → MayBegin value.seat command → MayBegin whole.seat command
holder_may_begin whole value command is may = subst (λ (h : SeatHeld). MayBegin h.seat command) (sym is) may

pub holder_may_begin_inner : (whole value : SeatHeld) (inner : Inner) → whole ≡ value → MayBeginInner value.heap value.number value.seat inner → MayBeginInner whole.heap whole.number whole.seat inner
holder_may_begin_inner whole value inner is may = subst (λ (h : SeatHeld). MayBeginInner h.heap h.number h.seat inner) (sym is) may

pub holder_is_as_told : (whole value : SeatHeld) → whole ≡ value → (whole.seat.point ≡ Idle → IsAsTold whole.heap whole.number whole.seat) → value.seat.point ≡ Idle → IsAsTold value.heap value.number value.seat
holder_is_as_told whole value is told = subst (λ (h : SeatHeld). h.seat.point ≡ Idle → IsAsTold h.heap h.number h.seat) is told

-- after a quiet step no found word matters
pub quiet_step_is_stepped : (old new : SeatHeld) (step : Step) (found : ℕ) → due_step old.heap old.number old.seat ≡ Some step → is_quiet step ≡ true → IsStepped old new found → IsStepped old new 0
quiet_step_is_stepped old new step found due quiet stepped = record {
  table_stays = stepped.table_stays;
  heap_stays = stepped.heap_stays;
  number_stays = stepped.number_stays;
  seat_is = stepped.seat_is ∙ quiet_seat_ignores_word old.heap old.number old.seat step found 0 due quiet;
  room_stays = stepped.room_stays;
  no_more = stepped.no_more;
}
