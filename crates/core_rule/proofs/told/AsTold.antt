-- A seat's data are what its own list tells.
use Rattle.std.proofs.Common.{◌≡◌, ℕ, ◌<◌, List, [], ◌∷◌, ◌++◌, length, filter, refl, sym, ap, ◌∙◌, subst, arith}
use Rattle.std.proofs.lemmas.List.{append-nil}
use Rattle.core_rule.proofs.Terms.{graph_of, is_of, no_effect, total_of, Command, Entry, Heap, Said, Value, stamp_of, Graph, Node, register_value, Point, State, seat_at, target_of}
use Rattle.core_rule.proofs.Terms.{FitsWay, register_in, Seat, Book, Awaits, OwnList, IsAwaited, Rule}
use Rattle.heap_model.specs.declared.account.effect.Effect.{Effect}
use Rattle.heap_model.specs.declared.command.Command.TheVariants as commands
use Rattle.heap_model.specs.declared.id.Value.TheVariants as values
use Rattle.heap_model.specs.declared.reply.Reply.TheVariants.{Got}
use Rattle.core_machine.specs.declared.point.Access.TheVariants.{Naming}
use Rattle.core_machine.specs.declared.point.Point.TheVariants as points
use Rattle.core_machine.specs.seat.FitsAccess.{IsGet}
use Rattle.heap_model.specs.graph.OwnGraphs.{IsSeatsSubgraph, EachOwnGraphIsWithin}
use Rattle.core_rule.specs.told.Told.{IsAsTold, EachSeatIsAsTold}
use Rattle.core_rule.proofs.entries.AtRest.{seat_fits}
use Rattle.core_rule.proofs.graph.SameValues.{held_value_is_value as value_held}
use Rattle.heap_model.proofs.graph_changes.OwnGraphs.{same_register_values, as_many_objects_made, each_own_graph_is_within}
use Rattle.core_rule.proofs.told.OwnLists.{TellsAlike, tells_alike_where_whole, tells_alike_but_target, total_of_own_entries}

-- the graph of the seat's entries in the history is the seat's subgraph of the whole
pub own_entries_make_seats_subgraph : (heap : Heap) (history : List Entry) (number : ℕ) → IsSeatsSubgraph number (graph_of heap (filter (is_of number) history)) (graph_of heap history)
unfolding EachOwnGraphIsWithin
own_entries_make_seats_subgraph heap history number = each_own_graph_is_within heap history number

module _ (heap : Heap) (state : State) (book : Book) (number : ℕ) (rule : Rule heap state book) (here : number < heap.seats) where
  abbrev seat : Seat
  seat = seat_at state number

  abbrev whole : Graph
  whole = graph_of heap book.history

  abbrev own_entries : List Entry
  own_entries = filter (is_of number) book.history

  abbrev awaited : ℕ → Type 0
  awaited = IsAwaited seat.point (target_of seat.command)

  list : OwnList whole book.history book.made book.owner book.fragments number seat
  list = (rule.seats_stand number here).told.list

  -- while a get awaits its name its own list is a reply behind
  named : (command : Command) (value : Value) (stamp : ℕ) (more : List Entry) → IsGet command → more ≡ Said number command (Got value stamp) ∷ []
      → TellsAlike heap number (λ x. x ≡ target_of command) seat.mine (seat.mine ++ more)
  named (commands.Get d r i) value stamp more get is =
      subst (λ (l : List Entry). TellsAlike heap number (λ x. x ≡ d) seat.mine (seat.mine ++ l)) (sym is) (tells_alike_but_target heap number d r i stamp value seat.mine)
  named command value stamp more get is = absurd get

  alike_at : (point : Point) → FitsWay seat point → Awaits whole book.made book.owner book.fragments number seat point list.awaited
      → TellsAlike heap number (IsAwaited point (target_of seat.command)) seat.mine (seat.mine ++ list.awaited)
  alike_at (points.Access Naming) fits awaits = named seat.command (values.Object awaits.id) (stamp_of seat.loaded) list.awaited fits.0.1 awaits.told
  alike_at point fits awaits = tells_alike_where_whole heap number (IsAwaited point (target_of seat.command)) seat.mine (seat.mine ++ list.awaited) (sym (append-nil seat.mine) ∙ ap (λ (l : List Entry). seat.mine ++ l) (sym awaits))

  -- its own list tells of it what the history does
  alike : TellsAlike heap number awaited seat.mine own_entries
  alike = subst (TellsAlike heap number awaited seat.mine) list.own (alike_at seat.point (seat_fits rule number here).way_at_point list.awaits)

  own_total : (count : Effect → ℕ) → count no_effect ≡ 0 → total_of number count seat.mine ≡ total_of number count book.history
  own_total count none = alike.totals count none ∙ total_of_own_entries number count book.history

  is_subgraph : IsSeatsSubgraph number (graph_of heap own_entries) whole
  is_subgraph = own_entries_make_seats_subgraph heap book.history number

  pub seat_is_as_told : IsAsTold heap number seat
  seat_is_as_told =
      let told = (rule.seats_stand number here).told in
      let answers = (rule.seats_stand number here).cycle.answers_told in
      record {
        registers = λ r free.
            sym (value_held book.made book.owner book.fragments (register_in seat.registers r) (register_value whole number r) ((rule.seats_stand number here).names.registers r free))
            ∙ sym (same_register_values number (graph_of heap own_entries) whole is_subgraph.agrees r) ∙ sym (alike.registers r free);
        made = told.counts.numbered ∙ sym (as_many_objects_made number (graph_of heap own_entries) whole is_subgraph.agrees) ∙ sym (ap (λ (l : List Node). length l) alike.objects);
        sets = told.counts.stamped ∙ sym is_subgraph.agrees.seat.sets ∙ sym alike.sets;
        left = sym told.counts.leaves ∙ sym is_subgraph.agrees.seat.left ∙ sym alike.left;
        answered = sym answers.told ∙ sym (own_total (λ e. e.answers) refl);
        unborn = omega (arith, told.counts.unborn, own_total (λ e. e.given) refl, own_total (λ e. e.born) refl, own_total (λ e. e.taken) refl);
      }

pub each_seat_is_as_told : EachSeatIsAsTold
unfolding EachSeatIsAsTold
each_seat_is_as_told heap state book number rule here = seat_is_as_told heap state book number rule here
