-- A run of whole calls, one after another, has a history that is legal as a play.
use Rattle.std.specs.List.{list_all}
use Rattle.std.specs.Prelude.{Option, None, Some, IsSome}
use Rattle.std.proofs.Common.{◌≡◌, ◌≢◌, ℕ, zero, suc, ◌<◌, ◌≤◌, true, false, inl, inr, List, [], ◌∷◌, ◌++◌, length, drop, refl, sym, ap, ◌∙◌, subst, append_assoc}
use Rattle.std.proofs.lemmas.Bool.{false≢true, eq-eqb}
use Rattle.std.proofs.lemmas.Bool.Decides.{eqb_tells}
use Rattle.std.proofs.lemmas.List.{append-nil, get_or-set_same, get_or-set_other, drop-append-le}
use Rattle.std.proofs.lemmas.List.Folds.{list_all-append}
use Rattle.core_rule.proofs.Terms.{Command, Entry, Heap, IsLegal, is_of, opening, next_turn, State, seat_at, found_by, state_after_due, Event, Begins, BeginsInner, Steps, Turns}
use Rattle.core_rule.proofs.Terms.{Can, state_after, entries, Run, history, after_inner_begin, Move, move_at, next_move, Seat, absent_seat, Book, IsAlone, AllIdle, OneCallAtATime}
use Rattle.core_rule.proofs.Terms.{WholeCallsPlay, HappensAlone, NotesNow}
use Rattle.core_machine.specs.declared.point.Point.TheVariants as points
use Rattle.heap_model.specs.declared.calls.collect.Inner.{Inner}
use Rattle.core_rule.specs.Stands.{Stands}
use Rattle.core_rule.proofs.entries.Begins.{begins}
use Rattle.core_rule.proofs.sweep_exact.EndsRightly.{cycle_ends_rightly}
use Rattle.core_rule.proofs.footprint.SeatCycle.{stands_after_seat_step, stands_after_begin, stands_after_inner_begin}
use Rattle.core_rule.proofs.footprint.TurnCycle.{stands_after_turn}
use Rattle.core_rule.proofs.steps.Assemble.{Keeps}
use Rattle.core_rule.proofs.steps.Seats.{step_kind_of_each_point}
use Rattle.core_rule.proofs.runs.PlayEntries.{AddsPlay, FoundNow, adds_entries_of_play}
use Rattle.core_rule.proofs.runs.PlayNotes.{found_now_when_idle, found_now_when_alone, found_now_after_step, found_now_after_begin, found_now_after_inner, found_now_at_opening}
use Rattle.core_rule.proofs.entries.TurnShapes.{shape_may_play}
use Rattle.core_rule.proofs.steps.collector.{turn_kind_of_each_stage}
use Rattle.core_rule.proofs.runs.Plays.{MayPlay, legal_play_grows}
use Rattle.core_rule.proofs.runs.Runs.{MachineStays, OpeningStands, EachStepKeeps, EachBeginKeeps, EachInnerKeeps, EachTurnKeeps, stepping_seat_is_there}

-- the history is a play's, what a seat has found is so, and since the call of a seat began all entries are its own
pub record PlaysOn (heap : Heap) (state : State) (book : Book) : Type 0 where
  pub stands : Stands heap state book
  pub legal : IsLegal heap true book.history
  pub noted : (number : ℕ) → number < heap.seats → FoundNow heap state.words book.history (seat_at state number) (seat_at state number).point
  pub own : (number : ℕ) → number < heap.seats → (seat_at state number).point ≢ points.Idle → list_all (is_of number) (drop (book.begun number) book.history) ≡ true

own_more : (number begun : ℕ) (before added : List Entry) → begun ≤ length before → list_all (is_of number) (drop begun before) ≡ true → list_all (is_of number) added ≡ true
    → list_all (is_of number) (drop begun (before ++ added)) ≡ true
own_more number begun before added earlier own more = rw (drop-append-le begun before added earlier, list_all-append (is_of number) (drop begun before) added, own, more) refl

pub other_seat_same_after_move : (heap : Heap) (state : State) (number r : ℕ) (move : Option Move) → r ≢ number → seat_at (state_after_due heap state number move) r ≡ seat_at state r
other_seat_same_after_move heap state number r None apart = refl
other_seat_same_after_move heap state number r (Some move) apart = get_or-set_other state.seats number r _ absent_seat apart

busy : (heap : Heap) (number : ℕ) (seat : Seat) → IsSome (next_move heap number seat) → seat.point ≢ points.Idle
busy heap number seat due idle = false≢true (subst (λ point. IsSome (move_at heap number seat point)) idle due)

-- some book stands for the state with this history, which plays on
pub record PlaysNext (heap : Heap) (state : State) (before added : List Entry) : Type 0 where
  pub now : Book
  pub grown : now.history ≡ before ++ added
  pub plays : PlaysOn heap state now

-- where the others have no call in flight and stay, what the seat that goes on has told is enough
own_alone : (heap : Heap) (state new : State) (now : Book) (number : ℕ) → IsAlone state number → length state.seats ≡ heap.seats
    → ((r : ℕ) → r ≢ number → seat_at new r ≡ seat_at state r) → list_all (is_of number) (drop (now.begun number) now.history) ≡ true
    → (r : ℕ) → r < heap.seats → (seat_at new r).point ≢ points.Idle → list_all (is_of r) (drop (now.begun r) now.history) ≡ true
own_alone heap state new now number alone all stay own r below active =
    elim (eqb_tells r number) as (λ _. list_all (is_of r) (drop (now.begun r) now.history) ≡ true) [
      | inl same ↦ subst (λ n. list_all (is_of n) (drop (now.begun n) now.history) ≡ true) (sym same.1) own
      | inr apart ↦ absurd (active (ap (λ s. s.point) (stay r apart.1) ∙ alone r (rw all below) apart.1))
    ]

-- so it is after the rule is kept, where what is added may stand in a play
plays_next : {heap : Heap} {before new : State} {book : Book} {begun : ℕ → ℕ} {added : List Entry} (keeps : Keeps heap before new book begun added) → Stands heap new keeps.now → MayPlay heap book.history added → IsLegal heap true book.history
    → ((r : ℕ) → r < heap.seats → FoundNow heap new.words (book.history ++ added) (seat_at new r) (seat_at new r).point)
    → ((r : ℕ) → r < heap.seats → (seat_at new r).point ≢ points.Idle → list_all (is_of r) (drop (keeps.now.begun r) keeps.now.history) ≡ true) → PlaysNext heap new book.history added
plays_next {heap} {before} {new} {book} {begun} {added} keeps stands may legal noted own =
    let run : IsLegal heap false (book.history ++ added) = subst (IsLegal heap false) keeps.grown keeps.rule.heap_stands.legal in
    record {
      now = keeps.now;
      grown = keeps.grown;
      plays = record { stands = stands; legal = subst (IsLegal heap true) (sym keeps.grown) (legal_play_grows heap book.history added may legal run); noted = λ r below. subst (λ es. FoundNow heap new.words es (seat_at new r) (seat_at new r).point) (sym keeps.grown) (noted r below); own = own };
    }

step_plays : MachineStays → EachStepKeeps → (heap : Heap) (state : State) (book : Book) (number : ℕ) → PlaysOn heap state book → IsAlone state number → Can heap state (Steps number)
    → PlaysNext heap (state_after heap state (Steps number)) book.history (entries heap state (Steps number))
step_plays stays steps heap state book number plays alone can =
    let here : number < heap.seats = stepping_seat_is_there heap state book number plays.stands.rule can in
    let here_seated : number < length state.seats = rw plays.stands.rule.machine.seated here in
    let active : (seat_at state number).point ≢ points.Idle = busy heap number (seat_at state number) can in
    let keeps = steps heap state book number plays.stands.rule here (plays.stands.looks number here) (stays heap state (Steps number) plays.stands.rule.machine can) in
    let adds : AddsPlay heap book.history number (entries heap state (Steps number))
    = adds_entries_of_play heap state book number plays.stands.rule here (plays.own number here active) (plays.noted number here) _ ((step_kind_of_each_point (seat_at state number).point).shows heap state number) in
    let earlier : book.begun number ≤ length book.history = (plays.stands.rule.seats_stand number here).told.began.earlier in
    let own_now : list_all (is_of number) (drop (keeps.now.begun number) keeps.now.history) ≡ true
    = rw (keeps.calls, keeps.grown) (own_more number (book.begun number) book.history (entries heap state (Steps number)) earlier (plays.own number here active) adds.own) in
    plays_next keeps (stands_after_seat_step heap state book plays.stands number here keeps) adds.may plays.legal (found_now_when_alone heap state (state_after heap state (Steps number)) (book.history ++ entries heap state (Steps number)) number alone plays.stands.rule.machine.seated
    (λ r apart. other_seat_same_after_move heap state number r (next_move heap number (seat_at state number)) apart) (found_now_after_step heap state book number plays.stands.rule alone here_seated (plays.noted number here))) (own_alone heap state (state_after heap state (Steps number)) keeps.now number alone plays.stands.rule.machine.seated
    (λ r apart. other_seat_same_after_move heap state number r (next_move heap number (seat_at state number)) apart) own_now)

nothing_since : (number : ℕ) (history : List Entry) → list_all (is_of number) (drop (length history) history) ≡ true
nothing_since number [] = refl
nothing_since number (entry ∷ history) = nothing_since number history

begin_plays : MachineStays → EachBeginKeeps → (heap : Heap) (state : State) (book : Book) (number : ℕ) (command : Command) → PlaysOn heap state book → IsAlone state number
    → Can heap state (Begins number command) → PlaysNext heap (state_after heap state (Begins number command)) book.history []
begin_plays stays begin heap state book number command plays alone can =
    let keeps = begin heap state book number command plays.stands.rule can (stays heap state (Begins number command) plays.stands.rule.machine can) in
    let same : keeps.now.history ≡ book.history = keeps.grown ∙ append-nil book.history in
    let first : begins number (length book.history) book.begun number ≡ length book.history = rw (eq-eqb number number refl) refl in
    let own_now : list_all (is_of number) (drop (keeps.now.begun number) keeps.now.history) ≡ true
    = rw (keeps.calls, same, first) (nothing_since number book.history) in
    plays_next keeps (stands_after_begin heap state book plays.stands number (rw (← plays.stands.rule.machine.seated) can.0) command (begins number (length book.history) book.begun) can keeps) tt plays.legal (found_now_when_alone heap state (state_after heap state (Begins number command)) (book.history ++ []) number alone plays.stands.rule.machine.seated
    (λ r apart. get_or-set_other state.seats number r _ absent_seat apart) (found_now_after_begin heap state (book.history ++ []) number command can)) (own_alone heap state (state_after heap state (Begins number command)) keeps.now number alone plays.stands.rule.machine.seated
    (λ r apart. get_or-set_other state.seats number r _ absent_seat apart) own_now)

inner_plays : MachineStays → EachInnerKeeps → (heap : Heap) (state : State) (book : Book) (number : ℕ) (inner : Inner) → PlaysOn heap state book → IsAlone state number → NotesNow heap state inner
    → Can heap state (BeginsInner number inner) → PlaysNext heap (state_after heap state (BeginsInner number inner)) book.history []
inner_plays stays inners heap state book number inner plays alone now can =
    let keeps = inners heap state book number inner plays.stands.rule can (stays heap state (BeginsInner number inner) plays.stands.rule.machine can) in
    let same : keeps.now.history ≡ book.history = keeps.grown ∙ append-nil book.history in
    let first : begins number (length book.history) book.begun number ≡ length book.history = rw (eq-eqb number number refl) refl in
    let own_now : list_all (is_of number) (drop (keeps.now.begun number) keeps.now.history) ≡ true
    = rw (keeps.calls, same, first) (nothing_since number book.history) in
    plays_next keeps (stands_after_inner_begin heap state book plays.stands number (rw (← plays.stands.rule.machine.seated) can.0) inner (begins number (length book.history) book.begun) can keeps) tt plays.legal
    (found_now_when_alone heap state (state_after heap state (BeginsInner number inner)) (book.history ++ []) number alone plays.stands.rule.machine.seated (λ r apart. get_or-set_other state.seats number r _ absent_seat apart)
    (subst (λ (s : Seat). FoundNow heap state.words (book.history ++ []) s s.point) (sym (get_or-set_same state.seats number (after_inner_begin (seat_at state number) inner) absent_seat can.0)) (found_now_after_inner heap state (book.history ++ []) (after_inner_begin (seat_at state number) inner) inner now)))
    (own_alone heap state (state_after heap state (BeginsInner number inner)) keeps.now number alone plays.stands.rule.machine.seated
    (λ r apart. get_or-set_other state.seats number r _ absent_seat apart) own_now)

turn_plays : MachineStays → EachTurnKeeps → (heap : Heap) (state : State) (book : Book) → PlaysOn heap state book → AllIdle state → Can heap state Turns
    → PlaysNext heap (state_after heap state Turns) book.history (entries heap state Turns)
turn_plays stays turn heap state book plays idle can =
    let found : ℕ = found_by heap state (next_turn heap state.collector).step in
    let keeps = turn heap state book plays.stands.rule (cycle_ends_rightly heap state book plays.stands) can (stays heap state Turns plays.stands.rule.machine can) in
    plays_next keeps (stands_after_turn heap state book plays.stands state.collector.stage refl keeps) (shape_may_play heap book.history state.collector found state.collector.stage ((turn_kind_of_each_stage state.collector.stage).shape heap state.collector found)) plays.legal (λ r below. found_now_when_idle heap (state_after heap state Turns).words (book.history ++ entries heap state Turns) (seat_at state r) (idle r (rw plays.stands.rule.machine.seated below))) (λ r below active. absurd (active (idle r (rw plays.stands.rule.machine.seated below))))

module _ (stays : MachineStays) (steps : EachStepKeeps) (begin : EachBeginKeeps) (inners_keep : EachInnerKeeps) (turn : EachTurnKeeps) where
  event_plays : (heap : Heap) (state : State) (book : Book) (event : Event) → PlaysOn heap state book → HappensAlone heap state event → Can heap state event
      → PlaysNext heap (state_after heap state event) book.history (entries heap state event)
  event_plays heap state book (Begins number command) plays alone can = begin_plays stays begin heap state book number command plays alone can
  event_plays heap state book (BeginsInner number inner) plays alone can = inner_plays stays inners_keep heap state book number inner plays alone.0 alone.1 can
  event_plays heap state book (Steps number) plays alone can = step_plays stays steps heap state book number plays alone can
  event_plays heap state book Turns plays alone can = turn_plays stays turn heap state book plays alone can

  run_plays : (heap : Heap) (state : State) (book : Book) (events : List Event) → PlaysOn heap state book → Run heap state events → OneCallAtATime heap state events
      → IsLegal heap true (book.history ++ history heap state events)
  run_plays heap state book [] plays run alone = subst (IsLegal heap true) (sym (append-nil book.history)) plays.legal
  run_plays heap state book (event ∷ events) plays run alone =
      let next = event_plays heap state book event plays alone.0 run.0 in
      let rest = run_plays heap (state_after heap state event) next.now events next.plays run.1 alone.1 in
      subst (IsLegal heap true) (ap (λ es. es ++ history heap (state_after heap state event) events) next.grown
      ∙ append_assoc book.history (entries heap state event) (history heap (state_after heap state event) events)) rest

  -- so does the whole run, from the opening on
  pub whole_calls_play : OpeningStands → WholeCallsPlay
  whole_calls_play opens heap state events limits opening run alone =
      let first = opens heap state limits opening in
      subst (λ before. IsLegal heap true (before ++ history heap state events)) first.grown
      (run_plays heap state first.book events
      record {
        stands = first.stands;
        legal = subst (IsLegal heap true) (sym first.grown) record { objects = tt; space = tt };
        noted = λ number below. found_now_at_opening heap state first.book.history opening number below;
        own = λ number below active. rw first.grown (own_of_none number (first.book.begun number));
      } run alone)
    where
      own_of_none : (number begun : ℕ) → list_all (is_of number) (drop {A = Entry} begun []) ≡ true
      own_of_none number zero = refl
      own_of_none number (suc begun) = refl
