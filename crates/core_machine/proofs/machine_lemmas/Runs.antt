-- Runs with one event more, and what every run keeps.
use Rattle.std.proofs.Common.{suc, ◌≡◌, ℕ, ◌+◌, ◌<◌, ◌^◌, List, [], ◌∷◌, ◌++◌, length, replicate, get_or, set, Option, Some, None, refl, sym, ap, subst, ◌∙◌, inl, inr, append_assoc, append-nil, arith}
use Rattle.std.specs.Prelude.{IsSome, IfSome, option_map}
use Rattle.std.specs.List.{All}
use Rattle.std.proofs.lemmas.Bool.Decides.{eqb_tells, leb_tells}
use Rattle.std.proofs.lemmas.List.{length-set, get_or-set_other, get_or_past}
use Rattle.std.proofs.lemmas.Grind.{replicate_next}
use Rattle.core_machine.proofs.Terms.{Heap, Entry, put, InTable, PointersWithin, FoundPointsWithin, address_of, word_after, Seat, absent_seat, Step, Move, next_move, due_step}
use Rattle.core_machine.proofs.Terms.{seat_after, State, seat_at, found_by, Event, Begins, BeginsInner, Steps, Turns, state_after_turn, Can, state_after, state_after_due, entries}
use Rattle.core_machine.proofs.Terms.{Run, state_after_all, history, after_begin, after_inner_begin, Fits, IsMachine}
use Rattle.core_machine.specs.collector.Collector.{next_turn}
use Rattle.core_machine.proofs.machine_lemmas.Parties.{set_seat_is_read}
use Rattle.core_machine.proofs.moves.Standing.{MoveStands}
use Rattle.core_machine.proofs.moves.{due_move_stands, begin_stands}
use Rattle.core_machine.proofs.moves.Collect.{inner_stands}
use Rattle.core_machine.proofs.table_lemmas.Addresses.{length-put, All-put, read_word_is_small}
use Rattle.core_machine.proofs.seat_lemmas.FittingEntries.{fits_with_entries}
use Rattle.core_machine.proofs.collector_lemmas.{turn_stands}
use Rattle.core_machine.proofs.table_lemmas.Leading.{put_leads_within_heap}

pub Run-more : (heap : Heap) (state : State) (events : List Event) (event : Event) → Run heap state events → Can heap (state_after_all heap state events) event
    → Run heap state (events ++ event ∷ [])
Run-more heap state [] event run can = (can, tt)
Run-more heap state (first ∷ events) event run can = (run.0, Run-more heap (state_after heap state first) events event run.1 can)

pub after_all-more : (heap : Heap) (state : State) (events : List Event) (event : Event)
    → state_after_all heap state (events ++ event ∷ []) ≡ state_after heap (state_after_all heap state events) event
after_all-more heap state [] event = refl
after_all-more heap state (first ∷ events) event = after_all-more heap (state_after heap state first) events event

pub history-more : (heap : Heap) (state : State) (events : List Event) (event : Event)
    → history heap state (events ++ event ∷ []) ≡ history heap state events ++ entries heap (state_after_all heap state events) event
history-more heap state [] event = append-nil (entries heap state event)
history-more heap state (first ∷ events) event =
    ap (λ (l : List Entry). entries heap state first ++ l) (history-more heap (state_after heap state first) events event)
    ∙ sym (append_assoc (entries heap state first) (history heap (state_after heap state first) events) (entries heap (state_after_all heap (state_after heap state first) events) event))

-- these events lead here, and their entries are these
pub record RunsTo (heap : Heap) (old now : State) (events : List Event) (told : List Entry) : Type 0 where
  pub can : Run heap old events
  pub ends : now ≡ state_after_all heap old events
  pub shows : history heap old events ≡ told

-- so do they with one more
pub runs_one_event_more : (heap : Heap) (old now : State) (events more : List Event) (event : Event) (told : List Entry) → more ≡ events ++ event ∷ [] → RunsTo heap old now events told
    → Can heap now event → RunsTo heap old (state_after heap now event) more (told ++ entries heap now event)
runs_one_event_more heap old now events more event told is runs can = record {
  can = subst (Run heap old) (sym is) (Run-more heap old events event runs.can (subst (λ (s : State). Can heap s event) runs.ends can));
  ends = ap (λ (s : State). state_after heap s event) runs.ends ∙ sym (after_all-more heap old events event) ∙ ap (state_after_all heap old) (sym is);
  shows = ap (history heap old) is ∙ history-more heap old events event
      ∙ ap (λ (l : List Entry). l ++ entries heap (state_after_all heap old events) event) runs.shows
      ∙ ap (λ (s : State). told ++ entries heap s event) (sym runs.ends);
}

-- a begin with one step more
pub begun_with_step_more : (first : Event) (number n : ℕ) → first ∷ replicate (n + 1) (Steps number) ≡ (first ∷ replicate n (Steps number)) ++ Steps number ∷ []
begun_with_step_more first number n = ap (λ (l : List Event). first ∷ l) (replicate_next n (Steps number))

-- another seat in the place of one, and other words
pub machine_with : (heap : Heap) (state : State) (words : List ℕ) (number : ℕ) (seat : Seat) → IsMachine heap state → number < length state.seats
    → length words ≡ length state.words → All (λ word. word < 2 ^ 64) words → PointersWithin heap words → Fits heap seat
    → IsMachine heap (record state { words = words; seats = set state.seats number seat })
machine_with heap state words number seat machine within same wide leads fits =
    let long = length-set state.seats number seat in
    record {
      limits = machine.limits;
      table = same ∙ machine.table;
      wide = wide;
      leads = leads;
      seated = long ∙ machine.seated;
      fit = λ n below. elim (eqb_tells n number) as (λ _. Fits heap (get_or (set state.seats number seat) n absent_seat)) [
        | inl here ↦ subst (Fits heap) (sym (ap (λ (i : ℕ). get_or (set state.seats number seat) i absent_seat) here.1 ∙ set_seat_is_read state.seats number seat within)) fits
        | inr there ↦ subst (Fits heap) (sym (get_or-set_other state.seats number n seat absent_seat there.1)) (machine.fit n (omega arith))
      ];
      collector_fit = machine.collector_fit;
    }

-- each move of one of the seats stands
pub each_move_stands : (heap : Heap) (state : State) (number : ℕ) → IsMachine heap state → number < length state.seats
    → IfSome (next_move heap number (seat_at state number)) (MoveStands heap number (seat_at state number) (seat_at state number).point)
each_move_stands heap state number machine within =
    due_move_stands heap number (seat_at state number) machine.limits (omega (arith, within, machine.seated, machine.limits.seats_fit)) (machine.fit number within)

machine_moved : (heap : Heap) (state : State) (number : ℕ) (move : Option Move) → IsMachine heap state → number < length state.seats
    → IfSome move (MoveStands heap number (seat_at state number) (seat_at state number).point) → IsMachine heap (state_after_due heap state number move)
machine_moved heap state number None machine within stands = machine
machine_moved heap state number (Some move) machine within stands =
    let found = found_by heap state move.step in
    let there = stands.step.in_table in
    let small = read_word_is_small heap state.words (address_of move.step) machine.wide in
    let led = machine.leads (address_of move.step) there in
    machine_with heap state (put heap state.words (address_of move.step) (word_after move.step found)) number (seat_after move found) machine within
    (length-put heap state.words (address_of move.step) (word_after move.step found))
    (All-put heap state.words (address_of move.step) (word_after move.step found) (stands.step.wide found small) machine.wide)
    (put_leads_within_heap heap state.words (address_of move.step) (word_after move.step found) there (stands.step.leads found led) machine.leads)
    (fits_with_entries heap (move.told found) (move.adds found) (stands.fits found small led))

-- the collector's turn leaves a machine
machine_turned : (heap : Heap) (state : State) → IsMachine heap state → (next_turn heap state.collector).may → IsMachine heap (state_after_turn heap state (next_turn heap state.collector))
machine_turned heap state machine may =
    let step = (next_turn heap state.collector).step in
    let found = found_by heap state step in
    let stands = turn_stands heap state.collector machine.limits machine.collector_fit in
    let there = stands.step.in_table in
    record {
      limits = machine.limits;
      table = length-put heap state.words (address_of step) (word_after step found) ∙ machine.table;
      wide = All-put heap state.words (address_of step) (word_after step found) (stands.step.wide found (read_word_is_small heap state.words (address_of step) machine.wide)) machine.wide;
      leads = put_leads_within_heap heap state.words (address_of step) (word_after step found) there (stands.step.leads found (machine.leads (address_of step) there)) machine.leads;
      seated = machine.seated;
      fit = machine.fit;
      collector_fit = stands.fits found (read_word_is_small heap state.words (address_of step) machine.wide) (machine.leads (address_of step) there) may;
    }

-- who has a move is a seat
pub mover_within : (heap : Heap) (state : State) (number : ℕ) → IsSome (next_move heap number (seat_at state number)) → number < length state.seats
mover_within heap state number some =
    elim (leb_tells (suc number) (length state.seats)) as (λ _. number < length state.seats) [
      | inl within ↦ within.1
      | inr past ↦ absurd (none (subst (λ (s : Seat). IsSome (next_move heap number s)) (get_or_past state.seats number absent_seat (omega (arith, past.1))) some))
    ]
  where
    none : IsSome (next_move heap number absent_seat) → ⊥
    none e = cc

-- the due step touches a word of the table, and finds one there that leads within the heap
due_at_move : (heap : Heap) (state : State) (number : ℕ) (move : Option Move) (step : Step) → IsMachine heap state → option_map (λ m. m.step) move ≡ Some step
    → IfSome move (MoveStands heap number (seat_at state number) (seat_at state number).point)
    → InTable heap (address_of step) × IfSome move (λ m. FoundPointsWithin heap (address_of m.step) (found_by heap state step))
due_at_move heap state number None step machine due stands = cc
due_at_move heap state number (Some move) step machine due stands =
    let there = stands.step.in_table in
    let same : move.step ≡ step = cc in (
      subst (λ (s : Step). InTable heap (address_of s)) same there,
      subst (λ (s : Step). FoundPointsWithin heap (address_of move.step) (found_by heap state s)) same (machine.leads (address_of move.step) there),
    )

pub due_word_in_table : (heap : Heap) (state : State) (number : ℕ) (step : Step) → IsMachine heap state → number < length state.seats → due_step heap number (seat_at state number) ≡ Some step
    → InTable heap (address_of step) × IfSome (next_move heap number (seat_at state number)) (λ m. FoundPointsWithin heap (address_of m.step) (found_by heap state step))
due_word_in_table heap state number step machine within due =
    due_at_move heap state number (next_move heap number (seat_at state number)) step machine due (each_move_stands heap state number machine within)

-- every event leaves a machine
pub event_leaves_machine : (heap : Heap) (state : State) (event : Event) → IsMachine heap state → Can heap state event → IsMachine heap (state_after heap state event)
event_leaves_machine heap state (Begins number command) machine can =
    machine_with heap state state.words number (after_begin heap (seat_at state number) command) machine can.0 refl machine.wide machine.leads (begin_stands heap number (seat_at state number) command machine.limits (machine.fit number can.0) can.1).fits
event_leaves_machine heap state (BeginsInner number inner) machine can =
    machine_with heap state state.words number (after_inner_begin (seat_at state number) inner) machine can.0 refl machine.wide machine.leads (inner_stands heap number (seat_at state number) inner (machine.fit number can.0) can.1).fits
event_leaves_machine heap state (Steps number) machine can =
    let within = mover_within heap state number can in
    machine_moved heap state number (next_move heap number (seat_at state number)) machine within (each_move_stands heap state number machine within)
event_leaves_machine heap state Turns machine can = machine_turned heap state machine can
