-- The laws over runs, from what each step keeps.
use Rattle.std.specs.Prelude.{IsSome}
use Rattle.std.proofs.Common.{◌≡◌, ℕ, ◌<◌, inl, inr, List, [], ◌∷◌, ◌++◌, length, sym, ap, ◌∙◌, subst, append_assoc, refl}
use Rattle.std.proofs.lemmas.Bool.Decides.{leb_tells}
use Rattle.std.proofs.lemmas.List.{append-nil}
use Rattle.std.proofs.Math.ListN.{get_or-eq_default}
use Rattle.std.proofs.lemmas.Bool.{false≢true}
use Rattle.heap_model.specs.declared.calls.collect.Inner.{Inner}
use Rattle.core_rule.proofs.Terms.{Command, Heap, State, seat_at, Event, Begins, BeginsInner, Steps, Turns, Can, state_after, entries, Run, state_after_all, history, next_move}
use Rattle.core_rule.proofs.Terms.{Seat, absent_seat, IsMachine, Book, StandsFor, EachEventKeeps, EveryRunKeeps, Rule}
use Rattle.heap_model.specs.Heap.{IsHeap}
use Rattle.core_machine.specs.machine.Opening.{IsOpening}
use Rattle.core_rule.specs.looks.Looks.{LooksStand}
use Rattle.core_rule.specs.Stands.{Stands}
use Rattle.core_rule.proofs.sweep_exact.EndsRightly.{cycle_ends_rightly}
use Rattle.core_rule.proofs.footprint.SeatCycle.{stands_after_seat_step, stands_after_begin, stands_after_inner_begin}
use Rattle.core_rule.proofs.footprint.TurnCycle.{stands_after_turn}
use Rattle.core_rule.proofs.steps.Assemble.{Keeps}
use Rattle.core_rule.proofs.entries.Begins.{begins}
use Rattle.core_rule.proofs.steps.TurnSteps.{MayEnd}

-- each step of a seat keeps the rule, where what it has found for a collect is so
abbrev pub EachStepKeeps : Type 0
EachStepKeeps = (heap : Heap) (state : State) (book : Book) (number : ℕ) → Rule heap state book → number < heap.seats
    → LooksStand heap book.history number (seat_at state number).point (seat_at state number).looks
    → IsMachine heap (state_after heap state (Steps number)) → Keeps heap state (state_after heap state (Steps number)) book book.begun (entries heap state (Steps number))

-- so does each begin
abbrev pub EachBeginKeeps : Type 0
EachBeginKeeps = (heap : Heap) (state : State) (book : Book) (number : ℕ) (command : Command) → Rule heap state book → Can heap state (Begins number command)
    → IsMachine heap (state_after heap state (Begins number command)) → Keeps heap state (state_after heap state (Begins number command)) book (begins number (length book.history) book.begun) []

-- and that of an inner call of a collect
abbrev pub EachInnerKeeps : Type 0
EachInnerKeeps = (heap : Heap) (state : State) (book : Book) (number : ℕ) (inner : Inner) → Rule heap state book → Can heap state (BeginsInner number inner)
    → IsMachine heap (state_after heap state (BeginsInner number inner)) → Keeps heap state (state_after heap state (BeginsInner number inner)) book (begins number (length book.history) book.begun) []

-- and each turn of the collector, where a cycle that it is about to end may end
abbrev pub EachTurnKeeps : Type 0
EachTurnKeeps = (heap : Heap) (state : State) (book : Book) → Rule heap state book → MayEnd heap state book → Can heap state Turns
    → IsMachine heap (state_after heap state Turns) → Keeps heap state (state_after heap state Turns) book book.begun (entries heap state Turns)

-- who makes a step is a seat
pub stepping_seat_is_there : (heap : Heap) (state : State) (book : Book) (number : ℕ) → Rule heap state book → Can heap state (Steps number) → number < heap.seats
stepping_seat_is_there heap state book number rule can = elim (leb_tells heap.seats number) as (λ _. number < heap.seats) [
  | inl past ↦ absurd (nothing_due (seat_at state number) (get_or-eq_default state.seats absent_seat (rw rule.machine.seated past.1)) can)
  | inr below ↦ below.1
]
  where
    nothing_due : (seat : Seat) → seat ≡ absent_seat → IsSome (next_move heap number seat) → ⊥
    nothing_due seat none due = false≢true (subst (λ s. IsSome (next_move heap number s)) none due)

-- the machine's own facts are kept by each event
abbrev pub MachineStays : Type 0
MachineStays = (heap : Heap) (state : State) (event : Event) → IsMachine heap state → Can heap state event → IsMachine heap (state_after heap state event)

-- an opening machine has a book
abbrev pub OpeningStands : Type 0
OpeningStands = (heap : Heap) (state : State) → IsHeap heap → IsOpening heap state → StandsFor heap state [] []

-- so each event does
pub each_event_keeps : MachineStays → EachStepKeeps → EachBeginKeeps → EachInnerKeeps → EachTurnKeeps → EachEventKeeps
each_event_keeps stays steps begin inners turn heap state book (Begins number command) stands can =
    let here : number < heap.seats = rw (← stands.rule.machine.seated) can.0 in
    let keeps = begin heap state book number command stands.rule can (stays heap state (Begins number command) stands.rule.machine can) in
    record { book = keeps.now; grown = keeps.grown; stands = stands_after_begin heap state book stands number here command (begins number (length book.history) book.begun) can keeps }
each_event_keeps stays steps begin inners turn heap state book (BeginsInner number inner) stands can =
    let here : number < heap.seats = rw (← stands.rule.machine.seated) can.0 in
    let keeps = inners heap state book number inner stands.rule can (stays heap state (BeginsInner number inner) stands.rule.machine can) in
    record { book = keeps.now; grown = keeps.grown; stands = stands_after_inner_begin heap state book stands number here inner (begins number (length book.history) book.begun) can keeps }
each_event_keeps stays steps begin inners turn heap state book (Steps number) stands can =
    let here : number < heap.seats = stepping_seat_is_there heap state book number stands.rule can in
    let keeps = steps heap state book number stands.rule here (stands.looks number here) (stays heap state (Steps number) stands.rule.machine can) in
    record { book = keeps.now; grown = keeps.grown; stands = stands_after_seat_step heap state book stands number here keeps }
each_event_keeps stays steps begin inners turn heap state book Turns stands can =
    let keeps = turn heap state book stands.rule (cycle_ends_rightly heap state book stands) can (stays heap state Turns stands.rule.machine can) in
    record { book = keeps.now; grown = keeps.grown; stands = stands_after_turn heap state book stands state.collector.stage refl keeps }

-- each run keeps the rule
run_keeps : EachEventKeeps → (heap : Heap) (state : State) (book : Book) (events : List Event) → Stands heap state book → Run heap state events
    → StandsFor heap (state_after_all heap state events) book.history (history heap state events)
run_keeps each heap state book [] stands run = record { book = book; grown = sym (append-nil book.history); stands = stands }
run_keeps each heap state book (event ∷ events) stands run =
    let first = each heap state book event stands run.0 in
    let rest = run_keeps each heap (state_after heap state event) first.book events first.stands run.1 in
    record {
      book = rest.book;
      grown = rest.grown ∙ ap (λ es. es ++ history heap (state_after heap state event) events) first.grown
          ∙ append_assoc book.history (entries heap state event) (history heap (state_after heap state event) events);
      stands = rest.stands;
    }

-- from the opening on
pub every_run_keeps : EachEventKeeps → OpeningStands → EveryRunKeeps
every_run_keeps each opens heap state events limits opening run =
    let first = opens heap state limits opening in
    let rest = run_keeps each heap state first.book events first.stands run in
    record { book = rest.book; grown = rest.grown ∙ ap (λ es. es ++ history heap state events) first.grown; stands = rest.stands }
