-- What a step leads to by the seat's own view, whatever word it has found.
use Rattle.std.proofs.Common.{◌≡◌, ℕ, List, [], ◌∷◌, ◌++◌, refl, sym, subst, append-nil}
use Rattle.std.specs.Prelude.{IfSome}
use Rattle.core_machine.proofs.Terms.{Command, Entry, Said, Heap, Reply, Kept, IsUntold, StageAt, StandsOn, ComesFirst, IsAnswered, Point, Step, Move, move_at, seat_after, Seat}
use Rattle.heap_model.specs.declared.command.Command.TheVariants as commands
use Rattle.core_machine.proofs.call_lemmas.RepliesAlone.{RepliesAlone}
use Rattle.core_machine.proofs.moves.Standing.{IsAt}

module _ (tells : Step → ℕ → Type 0) where
  -- a seat that stands so goes on: its list has what it had and the move's entries, its command is the same, and it stands as it is to
  pub record Leads (heap : Heap) (number : ℕ) (before : Kept) (seat : Seat) (told : List Entry) (move : Move) (found : ℕ) : Type 0 where
    pub kept : (move.told found).mine ≡ seat.mine
    pub same : (move.told found).command ≡ seat.command
    pub stage : StageAt tells heap number before (seat_after move found) (told ++ move.adds found) (seat_after move found).point

  -- so does each move of a point, whatever word it found of which so much is told
  abbrev pub LeadsOn : Heap → ℕ → Kept → Seat → List Entry → Move → Type 0
  LeadsOn heap number before seat told move = (found : ℕ) → tells move.step found → Leads heap number before seat told move found

  abbrev pub PointLeads : Point → Type 0
  PointLeads point =
      (heap : Heap) (number : ℕ) (before : Kept) (seat : Seat) (told : List Entry) → IsAt heap number seat point → StageAt tells heap number before seat told point
      → IfSome (move_at heap number seat point) (LeadsOn heap number before seat told)

-- nothing more is told
pub holds_with_nothing_told : (P : List Entry → Type 0) (told : List Entry) → P told → P (told ++ [])
holds_with_nothing_told P told is = subst P (sym (append-nil told)) is

-- what is true of a seat that has told nothing is true of one that has changed nothing and told nothing
pub holds_of_untold : (P : Kept → List Entry → Type 0) {before kept : Kept} {told : List Entry} → IsUntold before kept told → P kept [] → P before told
holds_of_untold P {before} {kept} {told} is holds = subst (λ (b : Kept). P b told) is.kept_stays (subst (λ (t : List Entry). P kept t) (sym is.none_told) holds)

-- nothing comes before the reply of a call that tells it alone
alone_first : (number : ℕ) (before : Kept) (command : Command) (reply : Reply) → RepliesAlone command → ComesFirst number before command reply []
alone_first number before (commands.New d fields) reply alone = absurd alone
alone_first number before (commands.Array d cells) reply alone = absurd alone
alone_first number before commands.Poll reply alone = absurd alone
alone_first number before commands.Collect reply alone = absurd alone
alone_first number before commands.Leave reply alone = absurd alone
alone_first number before _ reply alone = refl

-- such a call was answered
pub reply_alone_answers : (tells : Step → ℕ → Type 0) (heap : Heap) (number : ℕ) (command : Command) (before kept : Kept) (reply : Reply) → RepliesAlone command
    → StandsOn tells heap number command before kept [] reply → IsAnswered tells heap number command before kept (Said number command reply ∷ [])
reply_alone_answers tells heap number command before kept reply alone stands = record {
  reply = reply;
  first = [];
  last = refl;
  beside = tt;
  comes = alone_first number before command reply alone;
  stands = stands;
}
