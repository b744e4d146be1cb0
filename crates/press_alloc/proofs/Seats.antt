-- On a heap with one seat whatever seats told is that seat's.
use Rattle.std.proofs.Common.{◌≡◌, ℕ, ◌+◌, ◌<◌, ◌==◌, cond, List, [], ◌∷◌, length, refl, ◌∙◌, subst, arith}
use Rattle.std.specs.List.{AllByRecursion}
use Rattle.std.proofs.Math.ListN.{length-set}
use Rattle.std.proofs.lemmas.Bool.{eq-eqb, cond-true}
use Rattle.std.proofs.lemmas.List.{length-replicate}
use Rattle.std.proofs.lemmas.List.Sums.{sum_by-cons}
use Rattle.heap_model.specs.declared.account.effect.Effect.{Effect}
use Rattle.heap_model.specs.declared.command.Command.{Command}
use Rattle.heap_model.specs.declared.command.Command.TheVariants as commands
use Rattle.heap_model.specs.declared.entry.Entry.{Entry}
use Rattle.heap_model.specs.declared.entry.Entry.TheVariants as entries
use Rattle.heap_model.specs.declared.graph.cell.Cell.{Cell}
use Rattle.heap_model.specs.declared.heap.Heap.{Heap}
use Rattle.heap_model.specs.declared.id.Id.TheVariants.{Made}
use Rattle.heap_model.specs.declared.id.Value.{Value}
use Rattle.heap_model.specs.declared.id.Value.TheVariants.{Object}
use Rattle.heap_model.specs.declared.reply.Reply.{Reply}
use Rattle.heap_model.specs.declared.reply.Reply.TheVariants as replies
use Rattle.heap_model.specs.account.Effects.{effect_of, is_of}
use Rattle.heap_model.specs.account.Noting.{IsSeatBelow}
use Rattle.heap_model.specs.account.Space.{total, total_but, taken_of, spent_of}
use Rattle.heap_model.specs.graph.Changes.{write, count_set}
use Rattle.heap_model.specs.graph.Graph.{Graph, opening, opening_graph_seat}
use Rattle.heap_model.specs.graph.Growth.{after_entry, after_reply}
use Rattle.heap_model.specs.graph.Legal.{Accepts, AcceptsAll, IsObjectLegal}
use Rattle.heap_model.proofs.account_lemmas.Windows.{total_is_own_and_others}
use Rattle.heap_model.proofs.graph_changes.GraphGrowth.{present_seat_within_graph}

-- no entry changes how many seats there are
seats_after_write : (g : Graph) (value : Value) (i : ℕ) (cell : Cell) → length (write g value i cell).seats ≡ length g.seats
seats_after_write g (Object (Made other count)) i cell = length-set g.seats other _
seats_after_write g value i cell = refl

seats_after_reply : (g : Graph) (number : ℕ) (command : Command) (reply : Reply) → length (after_reply g number command reply).seats ≡ length g.seats
seats_after_reply g number (commands.New d fields) (replies.Made id) = length-set g.seats number _
seats_after_reply g number (commands.Array d cells) (replies.Made id) = length-set g.seats number _
seats_after_reply g number (commands.Get d r i) (replies.Got value stamp) = length-set g.seats number _
seats_after_reply g number (commands.Set r i v) (replies.Was stamp) = seats_after_write (count_set g number) _ i _ ∙ length-set g.seats number _
seats_after_reply g number (commands.Cas r i a v) (replies.Was stamp) = seats_after_write (count_set g number) _ i _ ∙ length-set g.seats number _
seats_after_reply g number (commands.Num d n) reply = length-set g.seats number _
seats_after_reply g number (commands.Nil d) reply = length-set g.seats number _
seats_after_reply g number (commands.Copy d r) reply = length-set g.seats number _
seats_after_reply g number commands.Leave reply = length-set g.seats number _
seats_after_reply g number command reply = refl

seats_after_entry : (g : Graph) (entry : Entry) → length (after_entry g entry).seats ≡ length g.seats
seats_after_entry g (entries.Said number command reply) = seats_after_reply g number command reply
seats_after_entry g entry = refl

-- so each entry is the collector's, or one seat's of the graph
seat_is_there : (g : Graph) (entry : Entry) → Accepts g entry → IsSeatBelow (length g.seats) entry
seat_is_there g (entries.Said number command reply) accepts = present_seat_within_graph g number accepts.0
seat_is_there g (entries.Takes number count) accepts = present_seat_within_graph g number accepts
seat_is_there g (entries.GivesBack number count) accepts = present_seat_within_graph g number accepts
seat_is_there g (entries.Answers number phase) accepts = present_seat_within_graph g number accepts
seat_is_there g entry accepts = tt

seats_are_there : (g : Graph) (history : List Entry) → AcceptsAll g history → AllByRecursion (IsSeatBelow (length g.seats)) history
seats_are_there g [] accepts = tt
seats_are_there g (entry ∷ history) accepts =
    (seat_is_there g entry accepts.0, subst (λ n. AllByRecursion (IsSeatBelow n) history) (seats_after_entry g entry) (seats_are_there (after_entry g entry) history accepts.1))

-- what the one seat told comes to what all told
pub record TellsAll (number : ℕ) (history : List Entry) : Type 0 where
  pub taken : taken_of number history ≡ total (λ e. e.taken) history
  pub spent : spent_of number history ≡ total (λ e. e.given) history + total (λ e. e.born) history

module _ (heap : Heap) (number : ℕ) (within : number < heap.seats) (one : heap.seats ≡ 1) where
  -- a count to which only seats add is the one seat's
  abbrev OfSeats : (Effect → ℕ) → Type 0
  OfSeats summand = (entry : Entry) → IsSeatBelow 1 entry → cond (is_of number entry) 0 (summand (effect_of entry)) ≡ 0

  own : (other n : ℕ) → other < 1 → cond (other == number) 0 n ≡ 0
  own other n below = cond-true (other == number) 0 n (eq-eqb other number (omega (arith, below, within, one)))

  taken_of_seats : OfSeats (λ e. e.taken)
  taken_of_seats (entries.Said other command reply) below = own other _ below
  taken_of_seats (entries.Takes other count) below = own other _ below
  taken_of_seats (entries.GivesBack other count) below = own other _ below
  taken_of_seats (entries.Answers other phase) below = own other _ below
  taken_of_seats entry below = refl

  given_of_seats : OfSeats (λ e. e.given)
  given_of_seats (entries.Said other command reply) below = own other _ below
  given_of_seats (entries.Takes other count) below = own other _ below
  given_of_seats (entries.GivesBack other count) below = own other _ below
  given_of_seats (entries.Answers other phase) below = own other _ below
  given_of_seats entry below = refl

  born_of_seats : OfSeats (λ e. e.born)
  born_of_seats (entries.Said other command reply) below = own other _ below
  born_of_seats (entries.Takes other count) below = own other _ below
  born_of_seats (entries.GivesBack other count) below = own other _ below
  born_of_seats (entries.Answers other phase) below = own other _ below
  born_of_seats entry below = refl

  others_do_nothing : (summand : Effect → ℕ) → OfSeats summand → (history : List Entry) → AllByRecursion (IsSeatBelow 1) history → total_but number summand history ≡ 0
  others_do_nothing summand of_seats [] below = refl
  others_do_nothing summand of_seats (entry ∷ history) below =
      omega (arith, sum_by-cons (λ e. cond (is_of number e) 0 (summand (effect_of e))) entry history, of_seats entry below.0, others_do_nothing summand of_seats history below.1)

  pub one_seat_tells_all : (history : List Entry) → IsObjectLegal heap history → TellsAll number history
  one_seat_tells_all history legal =
      let there = seats_are_there (opening heap) history legal in
      let below : AllByRecursion (IsSeatBelow 1) history = subst (λ n. AllByRecursion (IsSeatBelow n) history) (length-replicate heap.seats opening_graph_seat ∙ one) there in record {
        taken = omega (arith, total_is_own_and_others number (λ e. e.taken) history, others_do_nothing (λ e. e.taken) taken_of_seats history below);
        spent = omega (
          arith,
          total_is_own_and_others number (λ e. e.given) history,
          others_do_nothing (λ e. e.given) given_of_seats history below,
          total_is_own_and_others number (λ e. e.born) history,
          others_do_nothing (λ e. e.born) born_of_seats history below,
        );
      }
