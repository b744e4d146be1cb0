-- A call that a seat makes by itself, or an inner call of its collect, under way: no other party made a step since its begin.
use Rattle.std.proofs.Common.{◌≡◌, ℕ, ◌+◌, ◌<◌, List, [], ◌∷◌, ◌++◌, length, replicate, set, Option, Some, None, refl, sym, ap, subst, ◌∙◌, append_assoc, arith}
use Rattle.std.specs.Prelude.{IsSome, IfSome}
use Rattle.std.proofs.lemmas.List.{length-set}
use Rattle.core_machine.proofs.Terms.{Heap, Entry, Seat, entries_awaited, Move, next_move, seat_after, State, seat_at, found_by, state_after_move, Event, Steps, Can, state_after}
use Rattle.core_machine.proofs.Terms.{state_after_due, entries_shown, entries, Run, state_after_all, history, IsMachine}
use Rattle.core_machine.proofs.call_lemmas.Awaits.{Adds}
use Rattle.core_machine.proofs.moves.Standing.{MoveStands}
use Rattle.core_machine.proofs.machine_lemmas.Parties.{set_seat_is_read}
use Rattle.core_machine.proofs.machine_lemmas.Runs.{runs_one_event_more, begun_with_step_more, event_leaves_machine, each_move_stands}

-- from the old state on this event was made, and then steps of the seat alone, and this was told; by its own list and what it awaits the seat goes on as the history does
pub record Underway (heap : Heap) (old now : State) (number : ℕ) (first : Event) (told : List Entry) : Type 0 where
  pub steps : ℕ
  pub can : Run heap old (first ∷ replicate steps (Steps number))
  pub ends : now ≡ state_after_all heap old (first ∷ replicate steps (Steps number))
  pub machine : IsMachine heap now
  pub within : number < length now.seats
  pub shows : history heap old (first ∷ replicate steps (Steps number)) ≡ told
  pub mine : (seat_at now number).mine ++ entries_awaited heap now.words number (seat_at now number) ≡ (seat_at old number).mine ++ told

-- it is when the seat's begin was made, which tells nothing
pub underway_after_begin : (heap : Heap) (old : State) (number : ℕ) (first : Event) (begun_ : Seat) → IsMachine heap old → Can heap old first → number < length old.seats
    → state_after heap old first ≡ record old { seats = set old.seats number begun_ } → entries heap old first ≡ []
    → begun_.mine ≡ (seat_at old number).mine → entries_awaited heap old.words number begun_ ≡ [] → Underway heap old (state_after heap old first) number first []
underway_after_begin heap old number first begun_ machine can within is tells kept awaits =
    let now : State = record old { seats = set old.seats number begun_ } in
    let here : seat_at now number ≡ begun_ = set_seat_is_read old.seats number begun_ within in
    subst (λ (s : State). Underway heap old s number first []) (sym is) (record {
      steps = 0;
      can = (can, tt);
      ends = sym is;
      machine = subst (IsMachine heap) is (event_leaves_machine heap old first machine can);
      within = omega (arith, within, length-set old.seats number begun_);
      shows = rw tells refl;
      mine = subst (λ (s : Seat). s.mine ++ entries_awaited heap old.words number s ≡ (seat_at old number).mine ++ []) (sym here) (rw (kept, awaits) refl);
    })

-- the seat's own list, with what is awaited, goes on as the history does
mine_by : (heap : Heap) (old : Seat) (now : State) (number : ℕ) (told : List Entry) (move : Move) → number < length now.seats → Adds heap now number (seat_at now number) move
    → (seat_at now number).mine ++ entries_awaited heap now.words number (seat_at now number) ≡ old.mine ++ told
    → let next = seat_at (state_after_move heap now number move) number in
    next.mine ++ entries_awaited heap (state_after_move heap now number move).words number next ≡ old.mine ++ (told ++ move.shows now.words (found_by heap now move.step))
mine_by heap old now number told move within adds mine =
    let found = found_by heap now move.step in
    let next = seat_after move found in
    let words = (state_after_move heap now number move).words in
    let awaited = entries_awaited heap words number next in
    let shows = move.shows now.words found in
    subst (λ (s : Seat). s.mine ++ entries_awaited heap words number s ≡ old.mine ++ (told ++ shows)) (sym (set_seat_is_read now.seats number next within))
    (ap (λ (l : List Entry). (l ++ move.adds found) ++ awaited) adds.kept ∙ append_assoc (seat_at now number).mine (move.adds found) awaited
    ∙ ap (λ (l : List Entry). (seat_at now number).mine ++ l) adds.told ∙ sym (append_assoc (seat_at now number).mine (entries_awaited heap now.words number (seat_at now number)) shows)
    ∙ ap (λ (l : List Entry). l ++ shows) mine ∙ append_assoc old.mine told shows)

mine_more : (heap : Heap) (old : Seat) (now : State) (number : ℕ) (told : List Entry) (move : Option Move) → number < length now.seats → IsSome move
    → IfSome move (MoveStands heap number (seat_at now number) (seat_at now number).point)
    → (seat_at now number).mine ++ entries_awaited heap now.words number (seat_at now number) ≡ old.mine ++ told
    → let next = state_after_due heap now number move in
    (seat_at next number).mine ++ entries_awaited heap next.words number (seat_at next number) ≡ old.mine ++ (told ++ entries_shown heap now move)
mine_more heap old now number told None within some stands mine = cc
mine_more heap old now number told (Some m) within some stands mine = mine_by heap old now number told m within (stands.adds now) mine

-- so it is after one more step of the seat
pub underway_after_step : (heap : Heap) (old now : State) (number : ℕ) (first : Event) (told : List Entry) → Underway heap old now number first told → IsSome (next_move heap number (seat_at now number))
    → Underway heap old (state_after heap now (Steps number)) number first (told ++ entries heap now (Steps number))
underway_after_step heap old now number first told under some =
    let events : List Event = first ∷ replicate under.steps (Steps number) in
    let runs = runs_one_event_more heap old now events _ (Steps number) told (begun_with_step_more first number under.steps) (record { can = under.can; ends = under.ends; shows = under.shows }) some in
    let machine = event_leaves_machine heap now (Steps number) under.machine some in
    record {
      steps = under.steps + 1;
      can = runs.can;
      ends = runs.ends;
      machine = machine;
      within = omega (arith, under.within, machine.seated, under.machine.seated);
      shows = runs.shows;
      mine = mine_more heap (seat_at old number) now number told (next_move heap number (seat_at now number)) under.within some
          (each_move_stands heap now number under.machine under.within) under.mine;
    }

-- what the seat's own list gets by a due move that found this word
abbrev pub more_listed : Option Move → ℕ → List Entry
more_listed None found = []
more_listed (Some move) found = move.adds found

-- the word that a due move finds; 0 where none is due
abbrev pub found_due : Heap → State → Option Move → ℕ
found_due heap now None = 0
found_due heap now (Some move) = found_by heap now move.step
