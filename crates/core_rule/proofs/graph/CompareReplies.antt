-- The replies to a compare and swap: when they are the graph's, and what they change.
use Rattle.std.proofs.Common.{◌≡◌, ◌≢◌, ℕ, ◌+◌, ◌≤◌, ◌<◌, ◌^◌, false, List, Option, Result, refl, sym, ap, ◌∙◌, subst, arith}
use Rattle.heap_model.specs.declared.command.Command.TheVariants as commands
use Rattle.heap_model.specs.declared.graph.cell.Cell.{Cell}
use Rattle.heap_model.specs.declared.reply.Reply.TheVariants as replies
use Rattle.heap_model.specs.Command.{IsCommand}
use Rattle.heap_model.specs.graph.Objects.{register_cell}
use Rattle.heap_model.specs.graph.Replies.{Says, Swaps}
use Rattle.core_machine.specs.seat.FitsAccess.{IsCas}
use Rattle.core_rule.proofs.Terms.{Command, Entry, Said, Heap, Id, Value, Reply, Owner, KeepsSpace, Accepts, IsPresent, after_reply, graph_seat, target_node, cell_or_refusal, or_no_field, Graph, Node}
use Rattle.core_rule.proofs.Terms.{spent_of, taken_of, stamp_of, expected_of, HasNumberLeft}
use Rattle.core_rule.proofs.entries.Legality.{keeps_space_of_plain_said}
use Rattle.core_rule.proofs.graph.FoundCells.{IsWrite, FindsCell}

-- what holds of this command
cas_only : (P : Command → Type 0) → ((r i a v : ℕ) → P (commands.Cas r i a v)) → (command : Command) → IsCas command → P command
cas_only P cas (commands.Cas r i a v) is = cas r i a v
cas_only P cas _ is = absurd is

module _ (command : Command) (is : IsCas command) where
  -- the register with the expected value is one of sixteen, and the command has a number left and doesn't leave
  pub expected_within_registers : IsCommand command → expected_of command < 16
  expected_within_registers = cas_only (λ c. IsCommand c → expected_of c < 16) (λ r i a v ranges. omega (arith, ranges.2)) command is

  pub cas_numbered : (made sets : ℕ) → HasNumberLeft made sets command → sets + 1 < 2 ^ 63
  cas_numbered made sets = cas_only (λ c. HasNumberLeft made sets c → sets + 1 < 2 ^ 63) (λ r i a v numbered. numbered) command is

  pub cas_is_no_leave : command ≢ commands.Leave
  cas_is_no_leave leaves = subst IsCas leaves is

  -- it puts its register's value into its field where it tells the stamp before
  pub cas_is_write : (g : Graph) (number stamp : ℕ) → IsWrite g number command stamp
  cas_is_write g number stamp = cas_only (λ c. IsWrite g number c stamp) (λ r i a v. record { grown = refl; shows = λ heap history. tt; most = refl; stays = λ e. cc e }) command is

  -- and changes nothing where it tells the stamp that it found
  pub graph_same_after_now : (g : Graph) (number stamp : ℕ) → after_reply g number command (replies.Now stamp) ≡ g
  graph_same_after_now g number stamp = cas_only (λ c. after_reply g number c (replies.Now stamp) ≡ g) (λ r i a v. refl) command is

  pub keeps_space_of_now : (heap : Heap) (before : List Entry) (number stamp : ℕ) → spent_of number before ≤ taken_of number before → taken_of number before ≤ spent_of number before + 15
      → KeepsSpace heap false before (Said number command (replies.Now stamp))
  keeps_space_of_now heap before number stamp own little =
      cas_only (λ c. KeepsSpace heap false before (Said number c (replies.Now stamp)))
      (λ r i a v. keeps_space_of_plain_said heap false before number (commands.Cas r i a v) (replies.Now stamp) refl tt tt tt own (omega (arith, little))) command is

  module _ (g : Graph) (made : List Id) (owner : ℕ → Owner) (fragments : ℕ → List ℕ) (number word : ℕ) where
    -- the cell is the one that the register was read with: the reply is the stamp before
    pub says_was : (finds : FindsCell g made owner fragments number command word) → finds.cell ≡ register_cell g number (expected_of command) → (graph_seat g number).sets + 1 < 2 ^ 63
        → Says g number command (replies.Was (stamp_of word))
    says_was =
        cas_only (λ c. (finds : FindsCell g made owner fragments number c word) → finds.cell ≡ register_cell g number (expected_of c) → (graph_seat g number).sets + 1 < 2 ^ 63 → Says g number c (replies.Was (stamp_of word)))
        (λ r i a v finds same few. subst (λ (x : Result Cell Reply). Swaps (graph_seat g number).sets (register_cell g number a) x (replies.Was (stamp_of word)))
        (sym (ap (λ (x : Value). cell_or_refusal (target_node g x) i) finds.refers ∙ ap (λ (o : Option Node). cell_or_refusal o i) finds.there ∙ ap (λ (c : Option Cell). or_no_field c) finds.has))
        (same, finds.stamp_is, few)) command is

    -- it is another: the reply is the stamp found
    pub says_now : (finds : FindsCell g made owner fragments number command word) → finds.cell ≢ register_cell g number (expected_of command) → Says g number command (replies.Now (stamp_of word))
    says_now =
        cas_only (λ c. (finds : FindsCell g made owner fragments number c word) → finds.cell ≢ register_cell g number (expected_of c) → Says g number c (replies.Now (stamp_of word)))
        (λ r i a v finds other. subst (λ (x : Result Cell Reply). Swaps (graph_seat g number).sets (register_cell g number a) x (replies.Now (stamp_of word)))
        (sym (ap (λ (x : Value). cell_or_refusal (target_node g x) i) finds.refers ∙ ap (λ (o : Option Node). cell_or_refusal o i) finds.there ∙ ap (λ (c : Option Cell). or_no_field c) finds.has))
        (other, finds.stamp_is)) command is

    pub accepts_now : IsPresent g number → IsCommand command → (finds : FindsCell g made owner fragments number command word) → finds.cell ≢ register_cell g number (expected_of command)
        → Accepts g (Said number command (replies.Now (stamp_of word)))
    accepts_now present ranges finds other = (present, ranges, says_now finds other)
