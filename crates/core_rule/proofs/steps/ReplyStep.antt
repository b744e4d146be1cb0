-- A reply that makes no object keeps the rule, where the words that it changes are none but a seat's answer or a kept object's.
use Rattle.std.proofs.Common.{subst, ◌≡◌, ◌≢◌, ℕ, ◌<◌, false, List, [], ◌∷◌, ◌++◌, length, filter, drop, slice_set, refl, sym, ◌∙◌, arith, append-nil, ap}
use Rattle.std.proofs.lemmas.List.{get_or-set_same, length-set}
use Rattle.core_rule.proofs.Terms.{Command, Entry, Heap, Reply, IsLegal, graph_of, is_of, after_reply, made_by, words_by, graph_seat, register_value, phase, last_answer, has_left}
use Rattle.core_rule.proofs.Terms.{taken_of, spent_of, Graph, opening, Fits, IsAtRest, State, seat_at, register_in, Seat, absent_seat, IsMachine, Book, HeapInCycle, SeatInCycle}
use Rattle.core_rule.proofs.Terms.{SeenStands, AreMade, Objects, node_at, Rule, OwnStands, NamesStand, ToldStands, dead_bit}
use Rattle.heap_model.specs.declared.entry.Entry.TheVariants as entries
use Rattle.heap_model.proofs.Histories.{graph_after-more}
use Rattle.core_machine.specs.declared.point.Point.TheVariants as points
use Rattle.core_rule.specs.graph.Registers as regs
use Rattle.core_rule.proofs.marking.Marks.{MarksGoOn}
use Rattle.core_rule.proofs.steps.Assemble.{Keeps, seat_fits, keeps_rule_after_step, space_stands_after_step}
use Rattle.core_rule.proofs.entries.AtRest.{reserve_and_spent_is_taken}
use Rattle.core_rule.proofs.words.ControlLemmas.{bits_where_controls_same}
use Rattle.core_rule.proofs.cycle.CycleFrames.{LeavesCycle, seat_in_cycle_stays}
use Rattle.core_rule.proofs.cycle.FieldFrames.{watched_is_born}
use Rattle.core_rule.proofs.cycle.CycleHistory.{heap_in_cycle_after_entry, seat_in_cycle_after_other}
use Rattle.core_rule.proofs.hand.EmptyHand.{together_where_empty, is_stored_where_none, gathers_right_unbegun, holding_of_equal_hand, bare_unborn_holds_reserve}
use Rattle.heap_model.proofs.graph_changes.GraphSeats.{SeatChanges}
use Rattle.core_rule.proofs.entries.InFlight.{began_idle_after_reply, stored_within_body}
use Rattle.heap_model.proofs.graph_changes.OwnGraphs.{seat_is_not_other}
use Rattle.core_rule.proofs.entries.OwnEntries.{own_list_grows}
use Rattle.core_rule.proofs.entries.ReplyEntries.{said_is_own, used_after_said, taken_stays_by_said, spent_stays_by_said}
use Rattle.core_rule.proofs.graph.SameNodes.{are_made_still, objects_with_same_nodes, same_shape_of_made}
use Rattle.heap_model.proofs.graph_changes.Shapes.{SameShape}
use Rattle.core_rule.proofs.book.BookGoing.{book_goes_on_with_history}
use Rattle.core_rule.proofs.frames.SeatFrames.{with_entry, seat_stands_with_entry}
use Rattle.heap_model.proofs.graph_changes.SameParties.{SameParty, same_party_of_same_graph}
use Rattle.core_rule.proofs.hand.StoredFrames.{SameUnkept, is_stored_still}
use Rattle.core_rule.proofs.budgets.SameBooks.{same_grants_with_history}
use Rattle.core_rule.proofs.entries.ToldSpines.{seat_entry_tells_no_spine, same_told_after_entry}
use Rattle.core_rule.proofs.budgets.NoneMade.{MakesNone, SameWeights, no_place_where_none_made, same_weights_where_none_made, no_words_by_reply}
use Rattle.core_rule.proofs.spines.SpineFrames.{same_kept_of_itself, spines_stand_with_budget, spine_in_hand_away}
use Rattle.core_rule.proofs.owners.DeadOwners.{dead_is_not_kept}

-- the graph has the same objects of the same shapes, with the cells that their words have, and the other seats' data
pub record GraphReplies (heap : Heap) (words : List ℕ) (book : Book) (g now : Graph) (number : ℕ) : Type 0 where
  pub ids : AreMade now book.made
  pub objects : Objects heap words now book.made book.owner book.fragments book.spines
  pub shapes : (i : ℕ) → SameShape (node_at now book.made i) (node_at g book.made i)
  pub others : (r : ℕ) → r ≢ number → SameParty g now r

-- so it is where the registers of a seat change alone
pub graph_replies_of_registers : (g now : Graph) (number : ℕ) → SeatChanges g now number → (heap : Heap) (words : List ℕ) (book : Book) → AreMade g book.made → Objects heap words g book.made book.owner book.fragments book.spines
    → GraphReplies heap words book g now number
graph_replies_of_registers g now number changes heap words book ids objects = record {
  ids = are_made_still g now book.made changes.nodes ids;
  objects = objects_with_same_nodes g now book.made changes.nodes book.owner book.fragments book.spines heap words objects;
  shapes = same_shape_of_made g now book.made changes.nodes;
  others = λ r apart. same_party_of_same_graph g now r (changes.others r apart);
}

-- the seat stands idle, has told the reply, and what it has is the graph's
pub record SeatReplies (book : Book) (g : Graph) (number : ℕ) (old now : Seat) (entry : Entry) : Type 0 where
  pub idle : now.point ≡ points.Idle
  pub reserve : now.reserve ≡ old.reserve
  pub mine : now.mine ≡ old.mine ++ entry ∷ []
  pub made : now.made ≡ length (graph_seat g number).objects
  pub sets : now.sets ≡ (graph_seat g number).sets
  pub left : (graph_seat g number).left ≡ now.left
  pub seen : SeenStands g number now.seen
  pub registers : (i : ℕ) → regs.HoldsValue book.made book.owner book.fragments (register_in now.registers i) (register_value g number i)

module _ (heap : Heap) (state : State) (book : Book) (number : ℕ) (words : List ℕ) (now : Seat) (command : Command) (reply : Reply)
    (rule : Rule heap state book) (here : number < heap.seats) (machine : IsMachine heap (record state { words = words; seats = slice_set state.seats number now })) where
  abbrev seat : Seat
  seat = seat_at state number

  abbrev entry : Entry
  entry = entries.Said number command reply

  abbrev before : Graph
  before = graph_of heap book.history

  abbrev after : Graph
  after = after_reply before number command reply

  abbrev later : Book
  later = with_entry book entry

  graph : graph_of heap later.history ≡ after
  graph = graph_after-more (opening heap) book.history entry

  -- the seat's own data fit together after it
  fit_after : Fits heap now
  fit_after =
      let below : number < length state.seats = rw rule.machine.seated here in
      subst (Fits heap) (get_or-set_same state.seats number now absent_seat below) (machine.fit number (rw (length-set state.seats number now) below))

  -- the rule is kept where the heap, the seat and the others have their standing in the cycle, and marking goes on
  abbrev KeepsInCycle : Type 0
  KeepsInCycle = HeapInCycle heap words (phase book.history) book.owner book.colour book.fragments
      → SeatInCycle heap words (phase later.history) (last_answer number later.history) (has_left number later.history) book.owner book.colour number now
      → ((r : ℕ) → r < heap.seats → r ≢ number → LeavesCycle heap state.words words book.owner book.owner book.colour book.colour (phase book.history) r)
      → MarksGoOn heap state book later words now
      → Keeps heap state (record state { words = words; seats = slice_set state.seats number now }) book book.begun (entry ∷ [])

  -- a reply is told, and what the seat has, names and is told of stands
  pub keeps_in_cycle_when_told : IsLegal heap false later.history → SameUnkept heap book.owner state.words words → GraphReplies heap words book before after number
      → SameWeights seat now → words_by command reply ≡ 0
      → OwnStands heap words book.owner book.spine_owner number now → NamesStand heap words after book.made book.owner book.fragments book.spines book.spine_owner number now
      → ToldStands heap after later.history book.made book.owner book.fragments (book.begun number) number now
      → KeepsInCycle
  keeps_in_cycle_when_told legal same grows weights wordless own names told heap_cycle cycle leaves marks =
      keeps_rule_after_step heap state book number words now later (entry ∷ []) rule here machine refl refl
      record {
        control_words = bits_where_controls_same heap state.words words book.owner same.controls rule.heap_stands.control_words;
        owners = rule.heap_stands.owners;
        ids = rw graph grows.ids;
        objects = rw graph grows.objects;
        spines = rw graph (spines_stand_with_budget heap state.words words same.spines heap.seats (length book.made) book.spines book.fragments book.spine_owner (node_at before book.made) (node_at after book.made)
            book.owner book.owner (same_kept_of_itself book.owner) grows.shapes
            (λ f i k is. (is, same.unkept f 0 (λ j m. dead_is_not_kept j m (book.owner f) (ap dead_bit is)) (omega arith))) rule.heap_stands.spines);
        used = used_after_said book.history number command reply heap book.owner rule.heap_stands.used;
        cycle = heap_in_cycle_after_entry heap words book.owner book.colour book.history entry refl book.fragments heap_cycle;
        legal = legal;
      }
      record { own = own; names = rw graph names; told = rw graph told; cycle = cycle }
      (λ r below apart other. seat_stands_with_entry heap state.words words book entry r (seat_at state r) (seat_is_not_other number r apart)
      (rw graph (grows.others r apart))
      (rw graph grows.shapes)
      (is_stored_still heap book.owner state.words words r (seat_at state r) same other.own.holding (stored_within_body heap (seat_at state r) (seat_at state r).point (seat_fits rule r below).at_point) other.own.stored)
      same.spines.spines
      (seat_in_cycle_after_other heap words book.owner book.colour book.history entry refl r (seat_at state r)
      (seat_in_cycle_stays heap state.words words book.owner book.owner book.colour book.colour (phase book.history) (last_answer r book.history) (has_left r book.history) r (seat_at state r)
      (leaves r below apart) (watched_is_born heap state book rule r below) other.cycle) (seat_is_not_other number r apart))
      other)
      marks
      (space_stands_after_step heap state book number rule here words now later same.spines weights
      (same_grants_with_history heap book later.history (same_told_after_entry book.history entry (seat_entry_tells_no_spine entry refl wordless)) (rw graph grows.shapes)) (λ f dark. dark))
      (book_goes_on_with_history heap state book later.history book.begun)

  -- the seat stands idle then
  pub keeps_in_cycle_when_idle : made_by command reply ≡ 0 → MakesNone seat.point → IsAtRest seat → seat.mine ≡ filter (is_of number) book.history → IsLegal heap false later.history
      → SameUnkept heap book.owner state.words words → GraphReplies heap words book before after number → SeatReplies book after number seat now entry
      → KeepsInCycle
  keeps_in_cycle_when_idle none makes rest told legal same grows replies heap_cycle cycle leaves marks =
      let stands = rule.seats_stand number here in
      let idle : IsAtRest now = rw replies.idle at fit_after.at_point in
      let own = reserve_and_spent_is_taken heap state book number rule here rest in
      let ends : MakesNone now.point = rw replies.idle tt in
      keeps_in_cycle_when_told legal same grows (same_weights_where_none_made seat now makes ends) (no_words_by_reply command reply none)
      record {
        holding = holding_of_equal_hand book.owner number seat.reserve seat.hand seat.body now.reserve now.hand now.body replies.reserve
            (idle.empty_hand ∙ sym rest.empty_hand) (idle.no_body ∙ sym rest.no_body) stands.own.holding;
        stored = is_stored_where_none heap words number now idle.none_stored;
        together = together_where_empty heap now.cursor now.tried now.hand now.body idle.empty_hand idle.no_body;
        spine = spine_in_hand_away heap state.words words book.spine_owner number seat now (no_place_where_none_made seat seat.point makes) (no_place_where_none_made now now.point ends) stands.own.spine;
      }
      record { registers = λ i awake. replies.registers i; way = rw replies.idle tt; address = rw replies.idle tt }
      record {
        list = record {
          awaited = [];
          own = append-nil now.mine ∙ replies.mine ∙ own_list_grows number book.history seat.mine entry (said_is_own book.history number command reply) told;
          awaits = rw replies.idle refl;
        };
        counts = record {
          numbered = replies.made;
          stamped = replies.sets;
          seen = rw replies.idle replies.seen;
          leaves = replies.left;
          unborn = bare_unborn_holds_reserve seat.reserve now.reserve now.hand now.body (spent_of number later.history) (taken_of number later.history) replies.reserve idle.empty_hand idle.no_body
              (omega (arith, own, taken_stays_by_said book.history number command reply none, spent_stays_by_said book.history number command reply none));
        };
        began = rw replies.idle (began_idle_after_reply book.history entry number (book.begun number) seat.point stands.told.began);
        gathers = gathers_right_unbegun heap book.owner number (drop (book.begun number) later.history) now.cursor now.tried now.given idle.none_tried idle.none_given;
        used = rw replies.idle tt;
      }
      heap_cycle cycle leaves marks
