-- A call in one go: what the view tells after each step, and that the steps lead there.
use Rattle.std.proofs.Common.{◌≡◌, ℕ, ◌+◌, ◌≤◌, List, [], ◌∷◌, length, Some, sym, ap, subst, ◌∙◌}
use Rattle.atomic_table.specs.Seated.{TableId}
use Rattle.atomic_table.specs.Table.{Me}
use Rattle.heap_model.specs.declared.command.Command.{Command}
use Rattle.heap_model.specs.declared.heap.Heap.{Heap}
use Rattle.core_machine.specs.declared.step.Step.{Step}
use Rattle.core_machine.specs.machine.Machine.{MayBegin, after_begin}
use Rattle.core_machine.specs.Moves.{due_step}
use Rattle.core_machine.specs.seat.Seat.{Seat, HasNoCall}
use Rattle.core_machine.proofs.seat_lemmas.Resting.{rest_is_over}
use Rattle.heap_table.specs.Ahead.{seat_in, begun}
use Rattle.heap_table.specs.Begun.{next_seat}
use Rattle.heap_table.specs.Made.{Made, LeadsTo, MakesSteps}
use Rattle.heap_table.specs.SeatHeld.{SeatHeld, KeepsSeat}
use Rattle.heap_table.specs.Told.{Tells, ToldAtStep}
use Rattle.heap_table.specs.Views.{seat_view}
use Rattle.heap_table.specs.declared.view.View.{View}
use Rattle.heap_table.proofs.SeatHolders.{idle_same, keeps_seat_after_begin, keeps_seat_after_step}

-- what a step tells that this seat makes
abbrev pub TellsAt : Heap → ℕ → Seat → Me (Unit {0}) View → ℕ → Me (Unit {0}) View → Type 0
TellsAt heap number seat = Tells (λ n. seat_view number (next_seat heap number seat n)) (ToldAtStep heap number seat)

-- the view after it tells the seat's next data
pub view_after_step : (heap : Heap) (number : ℕ) (seat : Seat) (me after : Me (Unit {0}) View) (found : ℕ) → TellsAt heap number seat me found after → seat_in after ≡ next_seat heap number seat found
view_after_step heap number seat me after found tells = ap (λ (m : Me (Unit {0}) View). seat_in m) tells.0

module _ (shared : TableId) (key : Heap) (mine : TableId) (me : Me (Unit {0}) View) (heap : Heap) (number : ℕ) (seat : Seat) (keeps : KeepsSeat shared key mine me heap number seat) where
  -- of these the holder keeps what it keeps of its seat
  pub keeps_view_after_step : (mine' : TableId) (after : Me (Unit {0}) View) (found : ℕ) → mine' ≡ mine → TellsAt heap number seat me found after → KeepsSeat shared key mine' after heap number (seat_in after)
  keeps_view_after_step mine' after found same tells =
      keeps_seat_after_step shared key mine me heap number seat keeps mine' after (seat_in after) found same tells (view_after_step heap number seat me after found tells)

  -- it keeps as much of a seat that is the same
  pub keeps_same : (next : Seat) → next ≡ seat → KeepsSeat shared key mine me heap number next
  keeps_same next is = subst (KeepsSeat shared key mine me heap number) (sym is) keeps

  module _ (command : Command) (may : MayBegin seat command) where
    -- a seat without a call in flight is the one that the view tells
    pub view_tells_seat : seat_in me ≡ seat
    view_tells_seat = ap (λ (m : Me (Unit {0}) View). seat_in m) keeps.knows ∙ sym (idle_same heap number keeps.old seat keeps.begun may.idle)

    -- it has nothing of a call
    pub no_call_is_left : HasNoCall seat
    no_call_is_left = rest_is_over heap seat keeps.fits may.idle

    -- and the command may be begun there
    pub keeps_begun_in_view : KeepsSeat shared key mine me heap number (after_begin heap (seat_in me) command)
    keeps_begun_in_view =
        keeps_seat_after_begin shared key mine me heap number seat keeps command (after_begin heap (seat_in me) command) may (ap (λ (s : Seat). after_begin heap s command) view_tells_seat)

    module _ (after : Me (Unit {0}) View) (found : ℕ) (leads : seat_in after ≡ next_seat heap number (after_begin heap (seat_in me) command) found) (told : ToldAtStep heap number (after_begin heap (seat_in me) command) found) where
      -- the view after the first step tells where that has led the seat
      pub view_after_first : seat_in after ≡ next_seat heap number (after_begin heap seat command) found
      view_after_first = leads ∙ ap (λ (s : Seat). next_seat heap number (after_begin heap s command) found) view_tells_seat

      -- to which that step alone has led
      pub first_leads : (step : Step) → due_step heap number (after_begin heap seat command) ≡ Some step → (made : List Made) × LeadsTo heap number (after_begin heap seat command) made (seat_in after)
      first_leads step due = (record { step = step; found = found } ∷ [], (due, subst (λ (s : Seat). ToldAtStep heap number (after_begin heap s command) found) view_tells_seat told, view_after_first))

-- such steps are those of the holder, which stays as it was but for its seat and its room
pub steps_are_made : (inside old new : SeatHeld) (command : Command) → inside ≡ old → new.table ≡ inside.table → new.heap ≡ inside.heap → new.number ≡ inside.number
    → ((made : List Made) × LeadsTo inside.heap inside.number (after_begin inside.heap inside.seat command) made new.seat)
    → inside.spare + length (after_begin inside.heap inside.seat command).mine ≤ new.spare + length new.seat.mine → new.spare ≤ inside.spare
    → (steps : List Made) × MakesSteps (begun old command) new steps
steps_are_made inside old new command view table heap number leads room no_more =
    subst (λ (held : SeatHeld). (steps : List Made) × MakesSteps (begun held command) new steps) view
    (leads.0, record { table_stays = table; heap_stays = heap; number_stays = number; leads = leads.1; room_stays = room; no_more = no_more })
