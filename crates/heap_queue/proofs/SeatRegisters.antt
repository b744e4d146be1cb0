-- What a seat's registers hold goes by its own commands and their replies.
use Rattle.std.proofs.Common.{◌≡◌, ◌≢◌, ℕ, zero, suc, ◌<◌, inl, inr, Bool, true, false, cond, List, [], ◌∷◌, ◌++◌, length, get_or, replicate, refl, sym, ap, ◌∙◌, arith}
use Rattle.std.proofs.lemmas.Bool.{cases_lt}
use Rattle.std.proofs.lemmas.Bool.Decides.{eqb_tells}
use Rattle.std.proofs.lemmas.List.{append-nil, get_or_past, get_or-replicate, length-replicate}
use Rattle.std.proofs.lemmas.List.Elements.{filter-append}
use Rattle.heap_model.specs.declared.command.Command.{Command}
use Rattle.heap_model.specs.declared.command.Command.TheVariants as commands
use Rattle.heap_model.specs.declared.entry.Entry.{Entry}
use Rattle.heap_model.specs.declared.graph.cell.Cell.{Cell}
use Rattle.heap_model.specs.declared.heap.Heap.{Heap}
use Rattle.heap_model.specs.declared.id.Id.{Id}
use Rattle.heap_model.specs.declared.id.Id.TheVariants.{Board, Made}
use Rattle.heap_model.specs.declared.id.Value.{Value}
use Rattle.heap_model.specs.declared.id.Value.TheVariants.{Nil, Number, Object}
use Rattle.heap_model.specs.declared.reply.Reply.{Reply}
use Rattle.heap_model.specs.declared.reply.Reply.TheVariants as replies
use Rattle.heap_model.specs.Command.{IsCommand, IsTarget}
use Rattle.heap_model.specs.Limits.{last_register}
use Rattle.heap_model.specs.Logs.{log_of}
use Rattle.heap_model.specs.account.Cycles.{graph_of}
use Rattle.heap_model.specs.account.Effects.{is_of}
use Rattle.heap_model.specs.graph.Changes.{with_register, add, set_cell, count_set}
use Rattle.heap_model.specs.graph.Graph.{Graph, GraphSeat, Node, fresh, opening, unseen, unset}
use Rattle.heap_model.specs.graph.Growth.{after_reply}
use Rattle.heap_model.specs.graph.Objects.{graph_seat, register_cell, register_value}
use Rattle.heap_model.specs.graph.OwnGraphs.{EachOwnGraphIsWithin}
use Rattle.heap_model.specs.graph.Replies.{Says}
use Rattle.heap_model.proofs.graph_changes.AgreeingGraphs.{agree_on_after_write}
use Rattle.heap_model.proofs.graph_changes.GraphGrowth.{target_holds_new_object, other_registers_stay_by_add}
use Rattle.heap_model.proofs.graph_changes.GraphRegisters.{opening_graph_has_opening_seats}
use Rattle.heap_model.proofs.graph_changes.GraphSeats.{party_with_seat_is_new}
use Rattle.heap_model.proofs.graph_changes.LeftSeats.{empty_register_is_nil}
use Rattle.heap_model.proofs.graph_changes.OwnGraphs.{same_register_values, each_own_graph_is_within}
use Rattle.heap_model.proofs.graph_changes.PutRegister.{put_register_holds_value, other_registers_stay_by_put}
use Rattle.heap_queue.specs.ToldBySeat.{held_after, opening_held, with_held}

-- one of some registers holds another value
holds_with : (held now : ℕ → Value) (d : ℕ) (value : Value) → now d ≡ value → ((r : ℕ) → r ≢ d → now r ≡ held r) → (r : ℕ) → now r ≡ with_held held d value r
holds_with held now d value here rest r = elim (eqb_tells r d) as (λ _. now r ≡ with_held held d value r) [
  | inl same ↦ ap now same.1 ∙ here ∙ sym (ap (λ (b : Bool). cond b value (held r)) same.0)
  | inr other ↦ rest r other.1 ∙ sym (ap (λ (b : Bool). cond b value (held r)) other.0)
]

module _ (g : Graph) (s : ℕ) (present : (graph_seat g s).left ≡ false) (sized : length (graph_seat g s).registers ≡ 16) where
  holds_put : (d : ℕ) (cell : Cell) → IsTarget d → (r : ℕ) → register_value (with_register g s d cell) s r ≡ with_held (register_value g s) d cell.value r
  holds_put d cell target =
      holds_with (register_value g s) (register_value (with_register g s d cell) s) d cell.value (put_register_holds_value g s d cell present (omega (arith, sized, target.1))) (other_registers_stay_by_put g s d cell present)

  holds_new : (d : ℕ) (object : Node) (id : Id) → IsTarget d → id ≡ Made s (length (graph_seat g s).objects) → (r : ℕ) → register_value (add g s d object) s r ≡ with_held (register_value g s) d (Object id) r
  holds_new d object id target is =
      holds_with (register_value g s) (register_value (add g s d object) s) d (Object id)
      (target_holds_new_object g s d object present (omega (arith, sized, target.1)) ∙ ap Object (sym is)) (other_registers_stay_by_add g s d object present)

  holds_same : (r i v x : ℕ) → register_value (set_cell g s r i v) s x ≡ register_value g s x
  holds_same r i v x =
      sym (same_register_values s (count_set g s) (set_cell g s r i v) (agree_on_after_write s (count_set g s) (register_value g s r) i _) x)
      ∙ ap (λ (p : GraphSeat). (get_or p.registers x unset).value) (party_with_seat_is_new g s _ present)

  holds_after : (command : Command) (reply : Reply) → IsCommand command → Says g s command reply → (r : ℕ) → register_value (after_reply g s command reply) s r ≡ held_after (register_value g s) command reply r
  holds_after (commands.New d fields) (replies.Made id) range says = holds_new d (fresh false fields) id range.0 says
  holds_after (commands.Array d cells) (replies.Made id) range says = holds_new d (fresh true cells) id range.0 says
  holds_after (commands.Get d r i) (replies.Got value stamp) range says = holds_put d (record { value = value; stamp = stamp }) range.0
  holds_after (commands.Set r i v) (replies.Was stamp) range says = holds_same r i v
  holds_after (commands.Cas r i a v) (replies.Was stamp) range says = holds_same r i v
  holds_after (commands.Num d n) reply range says = holds_put d (unseen (Number n)) range.0
  holds_after (commands.Nil d) reply range says = holds_put d unset range
  holds_after (commands.Copy d r) reply range says = holds_put d (register_cell g s r) range.0
  holds_after commands.Leave reply range says = λ r. ap (λ (p : GraphSeat). (get_or p.registers r unset).value) (party_with_seat_is_new g s _ present) ∙ empty_register_is_nil r
  holds_after command reply range says = λ r. refl

-- registers that hold the same are the same
same_held : (one other : ℕ → Value) → ((r : ℕ) → one r ≡ other r) → one ≡ other
same_held one other each = λ i r. each r i

-- a seat's registers after its own command, where they held these values
pub held_by_reply : (g : Graph) (s : ℕ) (command : Command) (reply : Reply) → (graph_seat g s).left ≡ false → length (graph_seat g s).registers ≡ 16 → IsCommand command → Says g s command reply
    → register_value (after_reply g s command reply) s ≡ held_after (register_value g s) command reply
held_by_reply g s command reply present sized range says = same_held _ _ (holds_after g s present sized command reply range says)

-- its own entries tell what they hold
held_by_log : (heap : Heap) (history : List Entry) (s r : ℕ) → register_value (graph_of heap (log_of s history)) s r ≡ register_value (graph_of heap history) s r
unfolding EachOwnGraphIsWithin
held_by_log heap history s r = same_register_values s (graph_of heap (log_of s history)) (graph_of heap history) (each_own_graph_is_within heap history s).agrees r

-- so another one's entry changes none
pub held_by_other : (heap : Heap) (history : List Entry) (entry : Entry) (s : ℕ) → is_of s entry ≡ false → register_value (graph_of heap (history ++ entry ∷ [])) s ≡ register_value (graph_of heap history) s
held_by_other heap history entry s apart =
    let same : log_of s (history ++ entry ∷ []) ≡ log_of s history =
    filter-append (is_of s) history (entry ∷ []) ∙ ap (λ (b : Bool). log_of s history ++ cond b (entry ∷ []) []) apart ∙ append-nil (log_of s history) in
    same_held _ _ (λ r. sym (held_by_log heap (history ++ entry ∷ []) s r) ∙ ap (λ (log : List Entry). register_value (graph_of heap log) s r) same ∙ held_by_log heap history s r)

-- what they hold at the opening
nil_at_first : (r : ℕ) → (get_or (replicate last_register unset) r unset).value ≡ Nil
nil_at_first r = elim (cases_lt r last_register) as (λ _. (get_or (replicate last_register unset) r unset).value ≡ Nil) [
  | inl there ↦ ap (λ (cell : Cell). cell.value) (get_or-replicate last_register r unset unset there)
  | inr past ↦ ap (λ (cell : Cell). cell.value) (get_or_past (replicate last_register unset) r unset (omega (arith, past, length-replicate last_register unset)))
]

first_or_nil : (r : ℕ) → (get_or (unseen (Object Board) ∷ replicate last_register unset) r unset).value ≡ opening_held r
first_or_nil zero = refl
first_or_nil (suc r) = elim (eqb_tells (suc r) 0) as (λ _. (get_or (replicate last_register unset) r unset).value ≡ opening_held (suc r)) [
  | inl same ↦ absurd (omega (arith, same.1))
  | inr other ↦ nil_at_first r ∙ sym (ap (λ (b : Bool). cond b (Object Board) Nil) other.0)
]

pub held_at_opening : (heap : Heap) (s : ℕ) → s < heap.seats → register_value (opening heap) s ≡ opening_held
held_at_opening heap s there = same_held _ _ (λ r. ap (λ (p : GraphSeat). (get_or p.registers r unset).value) (opening_graph_has_opening_seats heap s there) ∙ first_or_nil r)
