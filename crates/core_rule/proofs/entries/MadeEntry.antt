-- What the entry of a made object adds to the counts, and that it may stand.
use Rattle.std.proofs.Common.{◌≡◌, ℕ, ◌+◌, ◌≤◌, false, List, [], ◌∷◌, ◌++◌, length, refl, sym, ap, ◌∙◌, arith}
use Rattle.std.proofs.lemmas.Bool.{eq-eqb}
use Rattle.core_rule.proofs.Terms.{Entry, Heap, Made, IsLegal, add, graph_of, graph_seat, taken_of, spent_of, Graph, Node, fresh, opening, MakesObject, target_of, next_object_id}
use Rattle.core_rule.proofs.Terms.{made_entry, last_birth_move, Seat, need, CountsAgree, AreUsed, Owner, SeenStands}
use Rattle.heap_model.specs.Command.{IsCommand}
use Rattle.heap_model.proofs.Histories.{graph_after-more, total-more}
use Rattle.core_machine.specs.Moves.{seat_after}
use Rattle.core_rule.proofs.hand.Bodies.{in_hand_is_body}
use Rattle.heap_model.proofs.graph_changes.GraphGrowth.{objects_grow_by_add, has_not_left_by_add, sets_same_by_add}
use Rattle.core_rule.proofs.entries.Legality.{legal_after_entry}
use Rattle.core_rule.proofs.entries.OwnEntries.{counts_agree_after_own}
use Rattle.core_rule.proofs.entries.MakingCommands.{makes_array, size_made, made_reply_adds_object, accepts_made, keeps_space_of_made}

-- the entry is its seat's
-- the graph after it
pub graph_after_made_entry : (heap : Heap) (history : List Entry) (number : ℕ) (seat : Seat) → MakesObject seat.command
    → graph_of heap (history ++ made_entry number seat ∷ []) ≡ add (graph_of heap history) number (target_of seat.command) (fresh (makes_array seat.command) (size_made seat.command))
graph_after_made_entry heap history number seat made =
    graph_after-more (opening heap) history (made_entry number seat) ∙ made_reply_adds_object seat.command made (graph_of heap history) number (next_object_id number seat)

-- as many are in use
pub used_after_made_entry : (heap : Heap) (owner : ℕ → Owner) (history : List Entry) (number : ℕ) (seat : Seat) → AreUsed heap owner history → AreUsed heap owner (history ++ made_entry number seat ∷ [])
used_after_made_entry heap owner history number seat used =
    rw (total-more (λ e. e.given) history (made_entry number seat), total-more (λ e. e.freed) history (made_entry number seat), total-more (λ e. e.taken) history (made_entry number seat))
    (omega (arith, used))

module _ (g : Graph) (history : List Entry) (number : ℕ) (seat : Seat) (counts : CountsAgree g history number seat) (whole : length seat.body ≡ need seat) (some : 1 ≤ length seat.body) (present : (graph_seat g number).left ≡ false) where
  -- it has its reserve, and what the object is made of
  all_own : length seat.reserve + need seat + spent_of number history ≡ taken_of number history
  all_own =
      let body = ap length (in_hand_is_body seat.hand seat.body some) in
      omega (arith, counts.unborn, body, whole)

  -- the seat's counts after it
  pub counts_agree_after_made : (d : ℕ) (object : Node) (found : ℕ) → SeenStands (add g number d object) number (seat_after (last_birth_move number seat) found).seen → CountsAgree (add g number d object) (history ++ made_entry number seat ∷ []) number (seat_after (last_birth_move number seat) found)
  counts_agree_after_made d object found seen =
      counts_agree_after_own g (add g number d object) history number seat (seat_after (last_birth_move number seat) found) counts (made_entry number seat) (eq-eqb number number refl)
      (ap (λ n. n + 1) counts.numbered ∙ sym (objects_grow_by_add g number d object present)) (counts.stamped ∙ sym (sets_same_by_add g number d object present)) seen
      (has_not_left_by_add g number d object present ∙ sym present ∙ counts.leaves)
      (omega (arith, ap length (in_hand_is_body seat.hand seat.body some), whole))

  -- it may stand
  pub legal_after_made_entry : (heap : Heap) → graph_of heap history ≡ g → MakesObject seat.command → IsCommand seat.command → length seat.reserve ≤ 15
      → IsLegal heap false history → IsLegal heap false (history ++ made_entry number seat ∷ [])
  legal_after_made_entry heap same made ranges small legal =
      legal_after_entry heap false history (made_entry number seat) legal
      (rw same (accepts_made seat.command made g number (next_object_id number seat) ranges present (ap (Made number) counts.numbered)))
      (keeps_space_of_made seat.command made heap false history number (next_object_id number seat) (omega (arith, all_own)) (omega (arith, all_own, small)))
