-- A call begins, by the seat's own view.
use Rattle.std.proofs.Common.{◌≡◌, ℕ, List, [], ◌∷◌, refl, sym, ap, subst, ◌∙◌, append-nil}
use Rattle.core_machine.proofs.Terms.{IsHeap, Command, Entry, Heap, kept_of, IsUntold, StageAt, OwnStage, Register, Nil, Number, Object, Step, MayBegin, after_begin, access_start}
use Rattle.core_machine.proofs.Terms.{IsArrayCall, IsAtRest, FitsPoint, Fits, gather_next, register_in, Seat, with_entries}
use Rattle.heap_model.specs.declared.command.Command.TheVariants as commands
use Rattle.core_machine.specs.declared.point.Point.TheVariants as points
use Rattle.core_machine.specs.seat.Handshake.{leave_point}
use Rattle.core_machine.proofs.call_lemmas.Awaits.{own_list_same_going_on}
use Rattle.core_machine.proofs.own_stages.Claiming.{gathers_without_claim}
use Rattle.core_machine.proofs.own_stages.Gather.{going_on_keeps_command, stage_stands_going_on}

-- no entries more
with_none : (seat : Seat) → with_entries seat [] ≡ seat
with_none seat = ap (λ (mine : List Entry). record seat { mine = mine }) (append-nil seat.mine)

module _ (tells : Step → ℕ → Type 0) (heap : Heap) (number : ℕ) (old : Seat) where
  -- nothing has changed, and nothing was told
  first : IsUntold (kept_of old) (kept_of old) []
  first = record { kept_stays = refl; none_told = refl }

  -- the way begins at an object, or the call looks at no word
  opens : (command : Command) (register : Register) → OwnStage tells heap number command old (access_start (record old { command = command }) register) []
  opens command Nil = record { same = refl; mine = sym (append-nil old.mine); stage = first }
  opens command (Number n) = record { same = refl; mine = sym (append-nil old.mine); stage = first }
  opens command (Object head id) = record { same = refl; mine = sym (append-nil old.mine); stage = (first, tt) }

  -- a record is gathered
  gathers : (command : Command) → Fits heap old → old.point ≡ points.Idle → (IsArrayCall command → ⊥) → OwnStage tells heap number command old (gather_next heap (record old { command = command })) []
  gathers command fits idle no_array =
      let rest : IsAtRest old = subst (FitsPoint heap old) idle fits.at_point in
      let next : Seat = record old { command = command } in
      record {
        same = going_on_keeps_command heap next;
        mine = own_list_same_going_on heap next ∙ sym (append-nil old.mine);
        stage = subst (λ (s : Seat). StageAt tells heap number (kept_of old) s [] (gather_next heap next).point) (with_none (gather_next heap next))
            (stage_stands_going_on tells heap number next [] [] rest.none_given rest.none_stored
            (gathers_without_claim tells heap number command (kept_of old) old.hand old.tried [] (λ an_array. absurd (no_array an_array)) fits.own.small_reserve rest.empty_hand rest.none_tried refl));
      }

  -- a leave gives back a reserve first
  leaves : (reserve : List ℕ) → old.reserve ≡ reserve → OwnStage tells heap number commands.Leave old (record old { command = commands.Leave; point = points.Leaving (leave_point reserve) }) []
  leaves [] is = record {
    same = refl;
    mine = sym (append-nil old.mine);
    stage = record { kept_is = ap (λ (reserve : List ℕ). record (kept_of old) { reserve = reserve }) is; gives = rw is refl };
  }
  leaves (fragment ∷ more) is = record { same = refl; mine = sym (append-nil old.mine); stage = first }

  -- the command is begun
  pub own_stage_stands_at_begin : (command : Command) → IsHeap heap → Fits heap old → MayBegin old command → OwnStage tells heap number command old (after_begin heap old command) []
  own_stage_stands_at_begin (commands.New d fields) limits fits may = gathers (commands.New d fields) fits may.idle (λ e. e)
  own_stage_stands_at_begin (commands.Array d cells) limits fits may = record { same = refl; mine = sym (append-nil old.mine); stage = first }
  own_stage_stands_at_begin (commands.Get d r i) limits fits may = opens (commands.Get d r i) (register_in old.registers r)
  own_stage_stands_at_begin (commands.Set r i v) limits fits may = opens (commands.Set r i v) (register_in old.registers r)
  own_stage_stands_at_begin (commands.Cas r i a v) limits fits may = opens (commands.Cas r i a v) (register_in old.registers r)
  own_stage_stands_at_begin (commands.Num d n) limits fits may = record { same = refl; mine = sym (append-nil old.mine); stage = first }
  own_stage_stands_at_begin (commands.Nil d) limits fits may = record { same = refl; mine = sym (append-nil old.mine); stage = first }
  own_stage_stands_at_begin (commands.Copy d r) limits fits may = record { same = refl; mine = sym (append-nil old.mine); stage = first }
  own_stage_stands_at_begin (commands.Same a b) limits fits may = record { same = refl; mine = sym (append-nil old.mine); stage = first }
  own_stage_stands_at_begin (commands.Len r) limits fits may = opens (commands.Len r) (register_in old.registers r)
  own_stage_stands_at_begin commands.Poll limits fits may = record { same = refl; mine = sym (append-nil old.mine); stage = (refl, first) }
  own_stage_stands_at_begin commands.Collect limits fits may = absurd may.served
  own_stage_stands_at_begin commands.Leave limits fits may = leaves old.reserve refl
