-- A call that is made by itself, from its begin on.
use Rattle.std.proofs.Common.{◌≡◌, ℕ, ◌^◌, ◌<◌, List, [], ◌++◌, length, Option, Some, None, refl, sym, subst, arith}
use Rattle.std.specs.Prelude.{IsSome, IfSome}
use Rattle.core_machine.proofs.Terms.{Heap, Command, Entry, Address, Budget, at, InTable, call_over, Move, next_move, seat_after, State, seat_at, found_by, state_after_move}
use Rattle.core_machine.proofs.Terms.{after_begin, Begins, Steps, Can, state_after, state_after_due, entries_shown, entries, IsMachine, tells_nothing}
use Rattle.core_machine.proofs.table_lemmas.Addresses.{read_word_is_small}
use Rattle.core_machine.proofs.call_lemmas.Stages.{Stage, AloneAfter}
use Rattle.core_machine.proofs.call_lemmas.PlayingOn.{move_leads_alone}
use Rattle.core_machine.proofs.call_lemmas.PlayingBegins.{alone_stands_at_begin}
use Rattle.core_machine.proofs.own_stages.{own_leads, own_begins}
use Rattle.core_machine.proofs.seat_lemmas.Aside.{idle_call_over_same}
use Rattle.core_machine.proofs.moves.{begin_stands}
use Rattle.core_machine.proofs.call_lemmas.Underway.{Underway, underway_after_begin, underway_after_step, more_listed, found_due}
use Rattle.core_machine.proofs.machine_lemmas.Parties.{set_seat_is_read}

-- a call is under way, and no other party made a step since its begin
pub record Playing (heap : Heap) (old now : State) (number : ℕ) (command : Command) : Type 0 where
  pub told : List Entry
  pub under : Underway heap old now number (Begins number command) told
  pub listed : List Entry
  pub stage : Stage heap old now number command told listed (seat_at now number)
  pub resting : call_over (seat_at old number) ≡ seat_at old number

pub playing_after_begin : (heap : Heap) (old : State) (number : ℕ) (command : Command) → IsMachine heap old → Can heap old (Begins number command)
    → Playing heap old (state_after heap old (Begins number command)) number command
playing_after_begin heap old number command machine can =
    let seat = seat_at old number in
    let begun_ = after_begin heap seat command in
    let now = state_after heap old (Begins number command) in
    let stands = begin_stands heap number seat command machine.limits (machine.fit number can.0) can.1 in
    record {
      told = [];
      under = underway_after_begin heap old number (Begins number command) begun_ machine can can.0 refl refl stands.kept (stands.awaits now.words);
      listed = [];
      stage = subst (Stage heap old now number command [] []) (sym (set_seat_is_read old.seats number begun_ can.0)) (record {
        own = own_begins tells_nothing heap number seat command machine.limits (machine.fit number can.0) can.1;
        alone = alone_stands_at_begin heap old number now (machine.fit number can.0) can.1.idle refl (read_word_is_small heap old.words Budget machine.wide) command can.1.served;
      });
      resting = idle_call_over_same heap seat (machine.fit number can.0) can.1.idle;
    }

-- the stage that a move leaves
stage_by : (heap : Heap) (old now : State) (number : ℕ) (command : Command) (told listed : List Entry) (move : Option Move) → next_move heap number (seat_at now number) ≡ move
    → IsMachine heap now → number < length now.seats → Stage heap old now number command told listed (seat_at now number) → IfSome move (AloneAfter heap old number command now told) → IsSome move
    → Stage heap old (state_after_due heap now number move) number command (told ++ entries_shown heap now move) (listed ++ more_listed move (found_due heap now move)) (seat_at (state_after_due heap now number move) number)
stage_by heap old now number command told listed None is machine within stage alone some = cc
stage_by heap old now number command told listed (Some m) is machine within stage alone some =
    let found = found_by heap now m.step in
    let here : seat_at (state_after_move heap now number m) number ≡ seat_after m found = set_seat_is_read now.seats number (seat_after m found) within in
    subst (Stage heap old (state_after_move heap now number m) number command (told ++ m.shows now.words found) (listed ++ m.adds found)) (sym here) (record {
      own = own_leads tells_nothing heap number command (seat_at old number) (seat_at now number) listed m found machine.limits (omega (arith, within, machine.seated, machine.limits.seats_fit)) (machine.fit number within) is tt stage.own;
      alone = alone;
    })

pub playing_after_step : (heap : Heap) (old now : State) (number : ℕ) (command : Command) → ((a : Address) → InTable heap a → at heap old.words a < 2 ^ 64)
    → Playing heap old now number command → IsSome (next_move heap number (seat_at now number))
    → Playing heap old (state_after heap now (Steps number)) number command
playing_after_step heap old now number command small playing some =
    let under = playing.under in
    let move = next_move heap number (seat_at now number) in
    record {
      told = playing.told ++ entries heap now (Steps number);
      under = underway_after_step heap old now number (Begins number command) playing.told under some;
      listed = playing.listed ++ more_listed move (found_due heap now move);
      stage = stage_by heap old now number command playing.told playing.listed move refl under.machine under.within playing.stage
          (move_leads_alone heap old number command now playing.told under.within playing.resting under.machine small playing.listed playing.stage) some;
      resting = playing.resting;
    }
