-- A call that is made by itself, at its begin.
use Rattle.std.proofs.Common.{◌≡◌, ℕ, ◌^◌, ◌<◌, []}
use Rattle.core_machine.proofs.Terms.{Heap, Command, Budget, at, Register, Nil, Number, Object, IsServed, register_in, access_start, State, seat_at, after_begin, Fits}
use Rattle.heap_model.specs.declared.command.Command.TheVariants as commands
use Rattle.core_machine.specs.declared.point.Point.TheVariants as points
use Rattle.core_machine.proofs.call_lemmas.GoingOn.{alone_stands_at_new}
use Rattle.core_machine.proofs.call_lemmas.Stages.{AloneStage}

module _ (heap : Heap) (old : State) (number : ℕ) (now : State) (fits : Fits heap (seat_at old number)) (idle : (seat_at old number).point ≡ points.Idle) (same : now.words ≡ old.words)
    (small : at heap old.words Budget < 2 ^ 64) where
  opened_alone : (command : Command) (register : Register)
      → AloneStage heap old now number command [] (access_start (record (seat_at old number) { command = command }) register) (access_start (record (seat_at old number) { command = command }) register).point
  opened_alone command Nil = same
  opened_alone command (Number n) = same
  opened_alone command (Object head id) = same

  -- the command is begun
  pub alone_stands_at_begin : (command : Command) → IsServed command
      → AloneStage heap old now number command [] (after_begin heap (seat_at old number) command) (after_begin heap (seat_at old number) command).point
  alone_stands_at_begin (commands.New d fields) served = alone_stands_at_new heap old number (commands.New d fields) now fits idle same small tt
  alone_stands_at_begin (commands.Array d cells) served = same
  alone_stands_at_begin (commands.Get d r i) served = opened_alone (commands.Get d r i) (register_in (seat_at old number).registers r)
  alone_stands_at_begin (commands.Set r i v) served = opened_alone (commands.Set r i v) (register_in (seat_at old number).registers r)
  alone_stands_at_begin (commands.Cas r i a v) served = opened_alone (commands.Cas r i a v) (register_in (seat_at old number).registers r)
  alone_stands_at_begin (commands.Num d n) served = same
  alone_stands_at_begin (commands.Nil d) served = same
  alone_stands_at_begin (commands.Copy d r) served = same
  alone_stands_at_begin (commands.Same a b) served = same
  alone_stands_at_begin (commands.Len r) served = opened_alone (commands.Len r) (register_in (seat_at old number).registers r)
  alone_stands_at_begin commands.Poll served = same
  alone_stands_at_begin commands.Collect served = absurd served
  alone_stands_at_begin commands.Leave served = tt
