-- A step that changes no word keeps the rule, where its seat stands after it.
use Rattle.std.proofs.Common.{◌≡◌, ℕ, ◌<◌, false, List, [], ◌∷◌, ◌++◌, slice_set, refl, sym, ◌∙◌, subst, arith, ap}
use Rattle.std.proofs.lemmas.Bool.{eq-eqb}
use Rattle.std.proofs.lemmas.List.{append-nil}
use Rattle.heap_words.specs.declared.spot.Spot.{Spot}
use Rattle.core_rule.proofs.Terms.{Command, Entry, Said, Heap, Reply, KeepsSpace, graph_of, effect_of, no_effect, after_reply, Accepts, phase, last_answer, has_left, is_leave_of}
use Rattle.core_rule.proofs.Terms.{Graph, Point, Register, target_of, IsAtRest, IsSilent, at, put, State, seat_at, Seat, no_spot, with_entries, call_over}
use Rattle.core_rule.proofs.Terms.{SeenStands, stamps_at, after_call, IsMachine, Book, OwnList, SeatInCycle, Began, IsAnswered, node_at, Registers, Rule, OwnStands, AddressStands, WayStands}
use Rattle.core_machine.specs.declared.table.address.Address.{Address}
use Rattle.core_machine.specs.declared.point.Point.TheVariants as points
use Rattle.core_machine.specs.declared.seat.looks.Looks.{Looks}
use Rattle.core_machine.specs.seat.Looks.{forgotten}
use Rattle.core_machine.proofs.table_lemmas.Addresses.{put_of_read_changes_nothing}
use Rattle.core_machine.proofs.seat_lemmas.Aside.{call_over_clears_way}
use Rattle.core_rule.proofs.budgets.BudgetFrames.{same_grants_recoloured}
use Rattle.core_rule.proofs.frames.SeatFrames.{AddressAt, with_entry}
use Rattle.core_rule.proofs.colours.SpineStays.{same_sources_of_itself}
use Rattle.core_rule.proofs.marking.Marks.{Leaves, RootsGoOn, marks_go_on, leaves_by_same_sources}
use Rattle.core_rule.proofs.book.BookGoing.{book_goes_on_with_history}
use Rattle.core_rule.proofs.steps.Assemble.{Keeps, keeps_rule_after_step, space_stands_after_step}
use Rattle.core_rule.proofs.budgets.NoneMade.{MakesNone, no_place_where_none_made, used_stands_where_none_made, same_weights_where_none_made}
use Rattle.core_rule.proofs.spines.OtherWords.{leaves_spines_of_itself}
use Rattle.core_rule.proofs.spines.SpineFrames.{spine_in_hand_away}
use Rattle.core_rule.proofs.cycle.CycleHistory.{seat_in_cycle_after_own}
use Rattle.core_rule.proofs.entries.Others.{gathers_right_after_entry}
use Rattle.core_rule.proofs.entries.OwnEntries.{counts_agree_after_own, counts_agree_without_entry}
use Rattle.heap_model.proofs.graph_changes.PutRegister.{OnlyRegisters}
use Rattle.core_rule.proofs.frames.Replying.{effect_summand_is_none, began_after_reply}
use Rattle.core_rule.proofs.steps.ReplyStep.{graph_replies_of_registers, keeps_in_cycle_when_told}
use Rattle.core_rule.proofs.entries.Legality.{legal_after_entry}
use Rattle.core_rule.proofs.cycle.CycleFrames.{leaves_cycle_unchanged}
use Rattle.core_rule.proofs.cycle.Unwatched.{IsUnwatchedAt, seat_in_cycle_unwatched}

-- the seat with other registers and their stamps, elsewhere on its way, with what it has found for its collects, and with more entries
abbrev pub went : Seat → List Register → List ℕ → ℕ → ℕ → ℕ → Spot → ℕ → Point → Looks → List Entry → Seat
went seat registers seen reached links part address loaded point looks added =
    record seat { registers = registers; seen = seen; reached = reached; links = links; part = part; address = address; loaded = loaded; point = point; looks = looks; mine = seat.mine ++ added }

-- the state after a load, which writes back what it found
abbrev pub loaded_state : Heap → State → ℕ → Address → Seat → State
loaded_state heap state number a seat = record state { words = put heap state.words a (at heap state.words a); seats = slice_set state.seats number seat }

-- a call that has its way alone is over where its way is
pub keeps_rule_by_ending_load : (heap : Heap) (state : State) (book : Book) (number : ℕ) (a : Address) (registers : List Register) (seen : List ℕ) (looks : Looks) (added shown : List Entry)
    → IsAtRest (seat_at state number) → IsSilent (seat_at state number)
    → (IsMachine heap (loaded_state heap state number a (went (seat_at state number) registers seen 0 0 0 no_spot 0 points.Idle looks added))
    → Keeps heap state (loaded_state heap state number a (went (seat_at state number) registers seen 0 0 0 no_spot 0 points.Idle looks added)) book book.begun shown)
    → IsMachine heap (loaded_state heap state number a (with_entries (record (call_over (record (seat_at state number) { registers = registers; seen = seen })) { looks = looks }) added))
    → Keeps heap state (loaded_state heap state number a (with_entries (record (call_over (record (seat_at state number) { registers = registers; seen = seen })) { looks = looks }) added)) book book.begun shown
keeps_rule_by_ending_load heap state book number a registers seen looks added shown rest silent keeps =
    let seat : Seat = seat_at state number in
    let same : with_entries (record (call_over (record seat { registers = registers; seen = seen })) { looks = looks }) added ≡ went seat registers seen 0 0 0 no_spot 0 points.Idle looks added
    = ap (λ (s : Seat). record s { registers = registers; seen = seen; looks = looks; mine = seat.mine ++ added }) (call_over_clears_way seat rest silent) in
    subst (λ (s : Seat). IsMachine heap (loaded_state heap state number a s) → Keeps heap state (loaded_state heap state number a s) book book.begun shown) (sym same) keeps

-- and has forgotten what was found before where it ends with its reply
pub keeps_rule_by_forgetting_load : (heap : Heap) (state : State) (book : Book) (number : ℕ) (a : Address) (registers : List Register) (seen : List ℕ) (added shown : List Entry)
    → IsAtRest (seat_at state number) → IsSilent (seat_at state number)
    → (IsMachine heap (loaded_state heap state number a (went (seat_at state number) registers seen 0 0 0 no_spot 0 points.Idle (forgotten (seat_at state number).looks) added))
    → Keeps heap state (loaded_state heap state number a (went (seat_at state number) registers seen 0 0 0 no_spot 0 points.Idle (forgotten (seat_at state number).looks) added)) book book.begun shown)
    → IsMachine heap (loaded_state heap state number a (with_entries (after_call (record (seat_at state number) { registers = registers; seen = seen })) added))
    → Keeps heap state (loaded_state heap state number a (with_entries (after_call (record (seat_at state number) { registers = registers; seen = seen })) added)) book book.begun shown
keeps_rule_by_forgetting_load heap state book number a registers seen added shown rest silent keeps = keeps_rule_by_ending_load heap state book number a registers seen (forgotten (seat_at state number).looks) added shown rest silent keeps

module _ (heap : Heap) (state : State) (book : Book) (number : ℕ) (rule : Rule heap state book) (here : number < heap.seats) (a : Address)
    (registers : List Register) (seen : List ℕ) (reached links part : ℕ) (address : Spot) (loaded : ℕ) (point : Point) (looks : Looks) (added : List Entry)
    (machine : IsMachine heap (loaded_state heap state number a (went (seat_at state number) registers seen reached links part address loaded point looks added))) where
  abbrev new : Seat
  new = went (seat_at state number) registers seen reached links part address loaded point looks added

  -- the words are written back
  same_machine : IsMachine heap (record state { words = state.words; seats = slice_set state.seats number new })
  same_machine = subst (λ words. IsMachine heap (record state { words = words; seats = slice_set state.seats number new })) (put_of_read_changes_nothing heap state.words a) machine

  from_same : (begun : ℕ → ℕ) (shown : List Entry) → Keeps heap state (record state { words = state.words; seats = slice_set state.seats number new }) book begun shown
      → Keeps heap state (loaded_state heap state number a new) book begun shown
  from_same begun shown keeps = subst (λ words. Keeps heap state (record state { words = words; seats = slice_set state.seats number new }) book begun shown) (sym (put_of_read_changes_nothing heap state.words a)) keeps

  -- the seat has its standing in the cycle where it shades nothing
  pub seat_in_cycle_after_load : IsUnwatchedAt new point
      → SeatInCycle heap state.words (phase book.history) (last_answer number book.history) (has_left number book.history) book.owner book.colour number new
  seat_in_cycle_after_load unwatched =
      let cycle = (rule.seats_stand number here).cycle in
      seat_in_cycle_unwatched heap state.words state.words book.owner book.owner book.colour book.colour (phase book.history) (last_answer number book.history) (has_left number book.history)
      number (seat_at state number) new record { answered = refl; left = refl; asked = refl } unwatched refl cycle.births cycle

  -- each word leads where it led
  words_lead : Leaves heap state book rule state.words book
  words_lead = leaves_by_same_sources heap state book rule state.words (same_sources_of_itself heap state.words)

  -- what the seat has is as before, where it makes no object
  own_stays : MakesNone (seat_at state number).point → MakesNone point → OwnStands heap state.words book.owner book.spine_owner number new
  own_stays before after =
      let own = (rule.seats_stand number here).own in
      record {
        holding = own.holding;
        stored = own.stored;
        together = own.together;
        spine = spine_in_hand_away heap state.words state.words book.spine_owner number (seat_at state number) new (no_place_where_none_made (seat_at state number) (seat_at state number).point before)
            (no_place_where_none_made new point after) own.spine;
      }

  -- nothing is shown
  pub keeps_rule_by_silent_load : MakesNone (seat_at state number).point → MakesNone point → stamps_at new point ≡ stamps_at (seat_at state number) (seat_at state number).point
      → Registers (graph_of heap book.history) book.made book.owner book.fragments number registers point (target_of (seat_at state number).command)
      → OwnList (graph_of heap book.history) book.history book.made book.owner book.fragments number new
      → WayStands (node_at (graph_of heap book.history) book.made) book.made book.owner book.fragments new point
      → AddressAt heap state.words book new point
      → Began book.history number (book.begun number) point
      → SeatInCycle heap state.words (phase book.history) (last_answer number book.history) (has_left number book.history) book.owner book.colour number new
      → RootsGoOn heap state book rule number here new
      → Keeps heap state (loaded_state heap state number a new) book book.begun []
  keeps_rule_by_silent_load before after same_stamps held list way address began cycle roots =
      let stands = rule.seats_stand number here in
      from_same book.begun []
      (keeps_rule_after_step heap state book number state.words new book [] rule here same_machine (sym (append-nil book.history)) refl rule.heap_stands
      record {
        own = own_stays before after;
        names = record { registers = held; way = way; address = address };
        told = record {
          list = list;
          counts = counts_agree_without_entry (graph_of heap book.history) book.history number (seat_at state number) new refl refl same_stamps refl refl stands.told.counts;
          began = began;
          gathers = stands.told.gathers;
          used = used_stands_where_none_made heap book.history number new point after;
        };
        cycle = cycle;
      }
      (λ r below apart other. other)
      (marks_go_on heap state book rule number here state.words book new words_lead refl roots)
      (space_stands_after_step heap state book number rule here state.words new book (leaves_spines_of_itself heap state.words) (same_weights_where_none_made (seat_at state number) new before after)
      (same_grants_recoloured heap book book.colour book.begun) (λ f dark. dark))
      (book_goes_on_with_history heap state book book.history book.begun))

  module _ (command : Command) (reply : Reply) (nothing : effect_of (Said number command reply) ≡ no_effect)
      (after : Graph) (grows : after_reply (graph_of heap book.history) number command reply ≡ after) (only : OnlyRegisters (graph_of heap book.history) after number) where
    -- a reply is shown
    pub keeps_rule_by_telling_load : MakesNone (seat_at state number).point → MakesNone point → Accepts (graph_of heap book.history) (Said number command reply) → KeepsSpace heap false book.history (Said number command reply)
        → SeenStands after number (stamps_at new point) → Registers after book.made book.owner book.fragments number registers point (target_of (seat_at state number).command)
        → OwnList after (book.history ++ Said number command reply ∷ []) book.made book.owner book.fragments number new
        → WayStands (node_at after book.made) book.made book.owner book.fragments new point
        → AddressStands heap state.words (node_at after book.made) book.owner book.fragments book.spines book.spine_owner new point
        → IsAnswered point → is_leave_of number (Said number command reply) ≡ false
        → SeatInCycle heap state.words (phase book.history) (last_answer number book.history) (has_left number book.history) book.owner book.colour number new
        → RootsGoOn heap state book rule number here new
        → Keeps heap state (loaded_state heap state number a new) book book.begun (Said number command reply ∷ [])
    keeps_rule_by_telling_load before then accepts keeps seen_right held list way address answers stays cycle roots =
        let entry : Entry = Said number command reply in
        let g : Graph = graph_of heap book.history in
        let stands = rule.seats_stand number here in
        from_same book.begun (entry ∷ [])
        (keeps_in_cycle_when_told heap state book number state.words new command reply rule here same_machine
        (legal_after_entry heap false book.history entry rule.heap_stands.legal accepts keeps)
        record { controls = λ group below. refl; unkept = λ f part free within. refl; spines = leaves_spines_of_itself heap state.words }
        (graph_replies_of_registers g (after_reply g number command reply) number (rw grows only.changes) heap state.words book rule.heap_stands.ids rule.heap_stands.objects)
        (same_weights_where_none_made (seat_at state number) new before then) (effect_summand_is_none entry (λ e. e.words) nothing refl)
        (own_stays before then)
        (rw grows record { registers = held; way = way; address = address })
        (rw grows record {
          list = list;
          counts = counts_agree_after_own g after book.history number (seat_at state number) new stands.told.counts entry (eq-eqb number number refl)
              (stands.told.counts.numbered ∙ sym only.changes.objects) (stands.told.counts.stamped ∙ sym only.changes.sets) seen_right (only.left ∙ stands.told.counts.leaves)
              (omega (arith, effect_summand_is_none entry (λ e. e.given) nothing refl, effect_summand_is_none entry (λ e. e.born) nothing refl, effect_summand_is_none entry (λ e. e.taken) nothing refl));
          began = began_after_reply book.history entry number (book.begun number) (seat_at state number).point point answers stands.told.began;
          gathers = gathers_right_after_entry heap book.owner number book.history (book.begun number) entry (seat_at state number).cursor (seat_at state number).tried (seat_at state number).given stands.told.began.earlier stands.told.gathers;
          used = used_stands_where_none_made heap (book.history ++ entry ∷ []) number new point then;
        })
        rule.heap_stands.cycle
        (seat_in_cycle_after_own heap state.words book.owner book.colour book.history entry (effect_summand_is_none entry (λ e. e.phases) nothing refl) number new cycle (effect_summand_is_none entry (λ e. e.answers) nothing refl) stays)
        (λ r below apart. leaves_cycle_unchanged heap state.words book.owner book.colour (phase book.history) r)
        (marks_go_on heap state book rule number here state.words (with_entry book entry) new words_lead refl roots))
