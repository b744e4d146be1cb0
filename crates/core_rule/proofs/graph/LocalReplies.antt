-- The replies of calls that look at no word: what they are to the graph, and that they may stand.
use Rattle.std.proofs.Common.{◌≡◌, ℕ, ◌≤◌, ◌<◌, ◌^◌, Bool, true, false, List, length, set, Option, None, refl, sym, ap, ◌∙◌, subst, arith}
use Rattle.std.proofs.lemmas.List.{length-map}
use Rattle.core_rule.proofs.Terms.{Command, Entry, Heap, Id, Reply, most_kept, with_register, after_reply, made_by, graph_seat, register_value, target_node, cell_or_refusal, unset}
use Rattle.core_rule.proofs.Terms.{Graph, Node, Register, IsLocal, register_in, value_of, is_same_value, register_head, Owner, HoldsValue, SeenStands}
use Rattle.heap_model.specs.declared.command.Command.TheVariants as commands
use Rattle.heap_model.specs.declared.id.Value.TheVariants as values
use Rattle.heap_model.specs.declared.reply.Reply.TheVariants as replies
use Rattle.heap_model.specs.Command.{IsCommand}
use Rattle.heap_model.specs.account.Phases.{ShowsPhases}
use Rattle.heap_model.specs.account.Refusals.{ShowsSpace, ShowsSpine}
use Rattle.heap_model.specs.graph.Replies.{Says, Gets, Sets, Swaps, Compares, length_reply}
use Rattle.core_machine.specs.declared.seat.register.Register.TheVariants as registers
use Rattle.core_machine.specs.seat.Local.{answer_of, local_reply_of, local_registers, local_seen}
use Rattle.core_rule.proofs.graph.PutRegister.{holds_value_after_put}
use Rattle.heap_model.proofs.graph_changes.PutRegister.{OnlyRegisters, put_changes_only_registers, only_registers_of_itself}
use Rattle.core_rule.proofs.graph.SameValues.{compares_as_held, held_value_targets_none}
use Rattle.heap_model.specs.graph.Graph.{unseen}
use Rattle.heap_model.specs.declared.graph.cell.Cell.{Cell}
use Rattle.heap_model.specs.graph.Objects.{register_cell, seen_stamp}
use Rattle.core_machine.specs.seat.Registers.{seen_in}
use Rattle.core_rule.proofs.graph.SeenStamps.{seen_after_put, seen_is_graphs, seen_is_small}

module _ (heap : Heap) (history : List Entry) (g : Graph) (number : ℕ) (made : List Id) (owner : ℕ → Owner) (fragments : ℕ → List ℕ) where
  -- each register holds its value in the graph
  abbrev pub HoldAll : Graph → List Register → Type 0
  HoldAll now held = (i : ℕ) → HoldsValue made owner fragments (register_in held i) (register_value now number i)

  -- the reply makes no object, and what it shows of space and phase is right
  pub record IsPlain (command : Command) (reply : Reply) : Type 0 where
    pub none : made_by command reply ≡ 0
    pub space : ShowsSpace heap false history number command reply
    pub spine : ShowsSpine heap false history number command reply
    pub phases : ShowsPhases heap false history number command reply
    pub most : most_kept command ≡ 15

  -- it is the graph's, and the registers hold what they do in the graph after it, under its stamps
  pub record IsLocalReply (command : Command) (reply : Reply) (held : List Register) (seen : List ℕ) : Type 0 where
    pub plain : IsPlain command reply
    pub says : Says g number command reply
    pub only : OnlyRegisters g (after_reply g number command reply) number
    pub registers : HoldAll (after_reply g number command reply) held
    pub seen_right : SeenStands (after_reply g number command reply) number seen

  module _ (held : List Register) (present : (graph_seat g number).left ≡ false) (whole : length held ≡ 16) (sixteen : length (graph_seat g number).registers ≡ 16) (holds : HoldAll g held)
      (seen : List ℕ) (stands : SeenStands g number seen) where
    -- a register that is set
    set_holds : (d : ℕ) (filled : Register) (cell : Cell) → d ≤ 15 → HoldsValue made owner fragments filled cell.value → HoldAll (with_register g number d cell) (set held d filled)
    set_holds d filled cell within new =
        holds_value_after_put made owner fragments g number d cell held filled present (omega (arith, whole, within)) (omega (arith, sixteen, within)) new (λ i apart. holds i)

    -- a register that was copied is seen under the other's stamp
    copied_seen : (d r : ℕ) → r ≤ 15 → SeenStands (with_register g number d (register_cell g number r)) number (set seen d (seen_in seen r))
    copied_seen d r within =
        let is : seen_in seen r ≡ seen_stamp g number r = seen_is_graphs g number seen stands r (omega (arith, sixteen, within)) in
        let long : length seen ≡ 16 = ap length stands.stamps ∙ length-map (graph_seat g number).registers (λ (c : Cell). c.stamp) ∙ sixteen in
        subst (λ s. SeenStands (with_register g number d (register_cell g number r)) number (set seen d s)) (sym is)
        (seen_after_put g number seen stands d (register_cell g number r) present (subst (λ s. s < 2 ^ 32) is (seen_is_small g number seen stands r (omega (arith, long, within)))))

    -- whether two values are the same
    same_reply : (a b : ℕ) (same : Bool) → Compares (register_value g number a) (register_value g number b) (answer_of same) → IsLocalReply (commands.Same a b) (answer_of same) held seen
    same_reply a b true says = record { plain = record { none = refl; space = tt; spine = tt; phases = tt; most = refl }; says = says; only = only_registers_of_itself g number; registers = holds; seen_right = stands }
    same_reply a b false says = record { plain = record { none = refl; space = tt; spine = tt; phases = tt; most = refl }; says = says; only = only_registers_of_itself g number; registers = holds; seen_right = stands }

    no_target : (r : ℕ) → register_head (register_in held r) ≡ None → target_node g (register_value g number r) ≡ None
    no_target r none = held_value_targets_none made owner fragments g (register_in held r) (register_value g number r) (holds r) none

    pub computed_reply_is_local : (command : Command) → IsCommand command → IsLocal held command → IsLocalReply command (local_reply_of held command) (local_registers held command) (local_seen seen command)
    computed_reply_is_local (commands.Num d n) ranges local = record {
      plain = record { none = refl; space = tt; spine = tt; phases = tt; most = refl };
      says = refl;
      only = put_changes_only_registers g number d (unseen (values.Number n)) present;
      registers = set_holds d (registers.Number n) (unseen (values.Number n)) ranges.0.1 (refl, ranges.1);
      seen_right = seen_after_put g number seen stands d (unseen (values.Number n)) present (omega arith);
    }
    computed_reply_is_local (commands.Nil d) ranges local = record {
      plain = record { none = refl; space = tt; spine = tt; phases = tt; most = refl };
      says = refl;
      only = put_changes_only_registers g number d unset present;
      registers = set_holds d registers.Nil unset ranges.1 refl;
      seen_right = seen_after_put g number seen stands d unset present (omega arith);
    }
    computed_reply_is_local (commands.Copy d r) ranges local = record {
      plain = record { none = refl; space = tt; spine = tt; phases = tt; most = refl };
      says = refl;
      only = put_changes_only_registers g number d (register_cell g number r) present;
      registers = set_holds d (register_in held r) (register_cell g number r) ranges.0.1 (holds r);
      seen_right = copied_seen d r ranges.1;
    }
    computed_reply_is_local (commands.Same a b) ranges local =
        same_reply a b (is_same_value (value_of (register_in held a)) (value_of (register_in held b)))
        (compares_as_held made owner fragments (register_in held a) (register_in held b) (register_value g number a) (register_value g number b) (holds a) (holds b))
    computed_reply_is_local (commands.Get d r i) ranges local = record {
      plain = record { none = refl; space = tt; spine = tt; phases = tt; most = refl };
      says = subst (λ (o : Option Node). Gets (cell_or_refusal o i) replies.NoObject) (sym (no_target r local)) refl;
      only = only_registers_of_itself g number;
      registers = holds;
      seen_right = stands;
    }
    computed_reply_is_local (commands.Set r i v) ranges local = record {
      plain = record { none = refl; space = tt; spine = tt; phases = tt; most = refl };
      says = subst (λ (o : Option Node). Sets (graph_seat g number).sets (cell_or_refusal o i) replies.NoObject) (sym (no_target r local)) refl;
      only = only_registers_of_itself g number;
      registers = holds;
      seen_right = stands;
    }
    computed_reply_is_local (commands.Cas r i a v) ranges local = record {
      plain = record { none = refl; space = tt; spine = tt; phases = tt; most = refl };
      says = subst (λ (o : Option Node). Swaps (graph_seat g number).sets (register_cell g number a) (cell_or_refusal o i) replies.NoObject) (sym (no_target r local)) refl;
      only = only_registers_of_itself g number;
      registers = holds;
      seen_right = stands;
    }
    computed_reply_is_local (commands.Len r) ranges local = record {
      plain = record { none = refl; space = tt; spine = tt; phases = tt; most = refl };
      says = subst (λ (o : Option Node). replies.NoObject ≡ length_reply o) (sym (no_target r local)) refl;
      only = only_registers_of_itself g number;
      registers = holds;
      seen_right = stands;
    }
    computed_reply_is_local _ ranges local = absurd local
