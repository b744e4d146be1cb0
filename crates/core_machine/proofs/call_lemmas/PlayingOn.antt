-- A call that is made by itself goes on, whatever point it stands at.
use Rattle.std.proofs.Common.{◌≡◌, ℕ, ◌^◌, ◌<◌, List, length, refl}
use Rattle.std.specs.Prelude.{IfSome}
use Rattle.core_machine.proofs.Terms.{Heap, Command, Entry, Address, at, InTable, call_over, next_move, State, seat_at, IsMachine}
use Rattle.core_machine.proofs.call_lemmas.Stages.{Stage, AloneAfter}
use Rattle.core_machine.proofs.kinds.{point_kind}

-- its next move leads on
pub move_leads_alone : (heap : Heap) (old : State) (number : ℕ) (command : Command) (now : State) (told : List Entry) → number < length now.seats → call_over (seat_at old number) ≡ seat_at old number
    → IsMachine heap now → ((a : Address) → InTable heap a → at heap old.words a < 2 ^ 64) → (mine : List Entry) → Stage heap old now number command told mine (seat_at now number)
    → IfSome (next_move heap number (seat_at now number)) (AloneAfter heap old number command now told)
move_leads_alone heap old number command now told within resting machine small mine stage =
    let fits = machine.fit number within in
    (point_kind (seat_at now number).point).alone heap old number command now told record {
      machine = machine;
      small = small;
      within = within;
      resting = resting;
      point_is = refl;
      fits = fits.at_point;
      way = fits.way_at_point;
      same = stage.own.same;
      mine = mine;
      own = stage.own.stage;
      alone = stage.alone;
    }
