-- A refusal that is told keeps the rule: of a record at a load, of an array where its spine words are taken back.
use Rattle.std.proofs.Common.{◌≡◌, ℕ, ◌+◌, ◌-◌, ◌%◌, ◌^◌, ◌<◌, ◌≤◌, false, List, [], ◌∷◌, ◌++◌, length, drop, refl, sym, ◌∙◌, subst, arith, ap, Some}
use Rattle.core_rule.proofs.Terms.{spot_in, Command, Entry, Heap, Reply, spine_need_of, KeepsSpace, Accepts, graph_of, taken_of, spent_of, opening, Budget, Refusing, MakesObject}
use Rattle.core_rule.proofs.Terms.{SeatIsRefusing, at, put, InTable, HasWord, State, seat_at, Move, refusal_step, refusal_looks, refusal_move, full_entry, Seat, need, spine_need}
use Rattle.core_rule.proofs.Terms.{after_call, seat_after_reply, IsMachine, Book, BudgetsStand, granted_at, GathersRight, Rule, HeapStands, SeatStands, HasPlace, next_spine}
use Rattle.core_rule.proofs.Terms.{address_of}
use Rattle.heap_words.specs.declared.spot.Spot.{Spot}
use Rattle.heap_model.specs.declared.command.Command.TheVariants as commands
use Rattle.heap_model.specs.declared.reply.Reply.TheVariants.{Full}
use Rattle.heap_model.specs.account.Refusals.{FindsSpace}
use Rattle.heap_model.proofs.Histories.{graph_after-more}
use Rattle.core_machine.specs.declared.table.address.Address.TheVariants.{Phase}
use Rattle.core_machine.specs.declared.point.Point.TheVariants as points
use Rattle.core_machine.specs.declared.step.Step.{Step}
use Rattle.core_machine.specs.declared.step.Step.TheVariants as steps
use Rattle.core_machine.specs.declared.step.SpineStep.TheVariants.{BudgetTakeBack}
use Rattle.core_machine.specs.Moves.{plain_move}
use Rattle.core_machine.specs.declared.seat.looks.Looks.{Looks}
use Rattle.core_machine.specs.seat.Looks.{forgotten, seen_phase}
use Rattle.core_machine.proofs.table_lemmas.Addresses.{put_of_read_changes_nothing, at-put_same}
use Rattle.core_rule.proofs.spines.NoPlaces.{same_range_away}
use Rattle.core_rule.proofs.colours.LeadsFrames.{SameSources}
use Rattle.core_rule.proofs.colours.SpineStays.{same_sources_of_itself}
use Rattle.core_rule.proofs.frames.BudgetWritten.{budget_words, budget_words_leave_places, same_sources_after_budget, heap_stands_after_budget, seat_stands_after_budget}
use Rattle.core_rule.proofs.frames.SeatFrames.{with_entry}
use Rattle.core_rule.proofs.steps.Assemble.{making_seat_has_not_left, Keeps, MoveKeeps, StepKeeps, seat_fits}
use Rattle.core_rule.proofs.steps.making.ToldRefusal.{same_grants_after_refusal, keeps_rule_by_refusal}
use Rattle.core_rule.proofs.hand.Bodies.{bare_seat_holds_reserve}
use Rattle.core_rule.proofs.entries.InFlight.{making_is_not_answered}
use Rattle.core_rule.proofs.entries.MakingCommands.{graph_same_after_full, accepts_full, keeps_space_of_full}
use Rattle.core_rule.proofs.gather.Refusals.{finds_space_in_run}
use Rattle.core_rule.proofs.budgets.BudgetFrames.{stepped, SameGrants, seat_sum_after_step, budgets_stand_after_step}
use Rattle.core_rule.proofs.budgets.BudgetSteps.{budgets_stand_after_change, budget_word_is_small, fallen_budget_fits_word}
use Rattle.core_rule.proofs.spines.OtherWords.{LeavesPlaces, leaves_places_of_spines, leaves_spines_of_itself}
use Rattle.core_rule.proofs.steps.StepKinds.{StepKind, shows_one, refuses, looks_follow_refusal, looks_go_at_refusal, tells_at_refusal, LeavesBits, only_loads, beside, on_words_of_plain_step, IsStore}

-- a record's refusal is told at a load, an array's at the step that takes its spine words back
refusal_cases : (P : Step → (ℕ → Looks → Looks) → Type 0) (command : Command) (words : ℕ) → MakesObject command → (spine_need_of command ≡ 0 → P steps.PollLoad seen_phase)
    → P (steps.Spine (BudgetTakeBack words)) (λ found looks. looks) → P (refusal_step command words) (refusal_looks command)
refusal_cases P (commands.New d fields) words makes a_record an_array = a_record refl
refusal_cases P (commands.Array d cells) words makes a_record an_array = an_array
refusal_cases P _ words makes a_record an_array = absurd makes

-- the move by which it is told at this step, where the seat finds this out
abbrev refusal_at : ℕ → Seat → Step → (ℕ → Looks → Looks) → Move
refusal_at number seat step sees = plain_move step (λ found. after_call (record seat { looks = sees found seat.looks })) (λ found. full_entry number seat ∷ [])

module _ (heap : Heap) (state : State) (book : Book) (number : ℕ) (rule : Rule heap state book) (here : number < heap.seats) (point : (seat_at state number).point ≡ points.Making Refusing) where
  abbrev seat : Seat
  seat = seat_at state number

  abbrev found : ℕ
  found = length seat.reserve + seat.given

  abbrev reply : Reply
  reply = Full (need seat) found

  abbrev entry : Entry
  entry = full_entry number seat

  abbrev refused : Looks → Seat
  refused looks = record (seat_after_reply number seat reply) { looks = looks }

  stands : SeatStands heap state.words book number seat
  stands = rule.seats_stand number here

  at_point : SeatIsRefusing heap seat × (seat.hand ≡ [])
  at_point = rw point at (seat_fits rule number here).at_point

  makes : MakesObject seat.command
  makes = at_point.0.makes.an_object

  graph : graph_of heap (book.history ++ entry ∷ []) ≡ graph_of heap book.history
  graph = graph_after-more (opening heap) book.history entry ∙ graph_same_after_full seat.command makes (graph_of heap book.history) number (need seat) found

  -- what the seat has is what is to be found
  own : length seat.reserve + spent_of number book.history ≡ taken_of number book.history
  own = bare_seat_holds_reserve seat.reserve seat.hand seat.body (spent_of number book.history) (taken_of number book.history) at_point.1 at_point.0.no_body stands.told.counts.unborn

  finds : FindsSpace heap false book.history number found
  finds = finds_space_in_run heap book.owner book.history number (book.begun number) seat.cursor seat.given (length seat.reserve) (seat_fits rule number here).own.cursor_within
      rule.heap_stands.used own (stands.told.began.unanswered (making_is_not_answered Refusing seat.point point))
      (subst (λ n. GathersRight heap book.owner number (drop (book.begun number) book.history) seat.cursor n seat.given) at_point.0.all_tried stands.told.gathers)

  accepts : Accepts (graph_of heap book.history) entry
  accepts = accepts_full seat.command makes (graph_of heap book.history) number (need seat) found at_point.0.makes.in_range (making_seat_has_not_left heap state book number Refusing rule here point)

  keeps : KeepsSpace heap false book.history entry
  keeps = keeps_space_of_full seat.command makes heap false book.history number found (omega (arith, own)) (omega (arith, own, (seat_fits rule number here).own.small_reserve))
      (omega (arith, at_point.0.too_few)) finds

  no_place : ¬ HasPlace seat seat.point
  no_place has = rw point at has

  module _ (words : List ℕ) (heap_stands : HeapStands heap words book) (seats_stand : (r : ℕ) → r < heap.seats → SeatStands heap words book r (seat_at state r))
      (sources : (f : ℕ) → SameSources heap state.words words f) (looks : Looks) where
    -- as many spine words are granted by the book
    grants : SameGrants heap book (with_entry book entry)
    grants = same_grants_after_refusal heap state book number rule here Refusing point reply looks makes refl graph words heap_stands seats_stand sources

    -- so it is told where the heap, each seat and the budget stand
    tells : LeavesPlaces heap state.words words → BudgetsStand heap (stepped state number words (refused looks)) (with_entry book entry) → IsMachine heap (stepped state number words (refused looks))
        → Keeps heap state (stepped state number words (refused looks)) book book.begun (entry ∷ [])
    tells = keeps_rule_by_refusal heap state book number rule here Refusing point reply looks makes refl graph words heap_stands seats_stand sources at_point.1 at_point.0.no_body no_place accepts keeps

  -- at a load, where the call needs no spine words
  at_load : spine_need seat ≡ 0 → MoveKeeps heap state book number (refusal_at number seat steps.PollLoad seen_phase)
  at_load none machine =
      let looks : Looks = forgotten (seen_phase (at heap state.words Phase) seat.looks) in
      let words_stay : put heap state.words Phase (at heap state.words Phase) ≡ state.words = put_of_read_changes_nothing heap state.words Phase in
      subst (λ words. Keeps heap state (stepped state number words (refused looks)) book book.begun (entry ∷ [])) (sym words_stay)
      (tells state.words rule.heap_stands rule.seats_stand (same_sources_of_itself heap state.words) looks (leaves_places_of_spines heap state.words state.words (leaves_spines_of_itself heap state.words))
      (budgets_stand_after_step heap state book number state.words (refused looks) (with_entry book entry) here rule.machine.seated (leaves_spines_of_itself heap state.words)
      record { granted = sym (rw point none); placed = λ half. sym (rw point refl); refused = sym (rw point refl); range = same_range_away seat (refused looks) (λ has. has) }
      (grants state.words rule.heap_stands rule.seats_stand (same_sources_of_itself heap state.words) looks) rule.space.budgets)
      (subst (λ words. IsMachine heap (stepped state number words (refused looks))) words_stay machine))

  -- and where the spine words are taken back
  at_budget : MoveKeeps heap state book number (refusal_at number seat (steps.Spine (BudgetTakeBack (spine_need seat))) (λ found looks. looks))
  at_budget machine =
      let looks : Looks = forgotten seat.looks in
      let was : ℕ = at heap state.words Budget in
      let word : ℕ = (was + 2 ^ 64 - spine_need seat) % 2 ^ 64 in
      let words : List ℕ = budget_words heap state book rule word in
      let old = rule.space.budgets in
      let given : granted_at seat seat.point ≡ spine_need seat = rw point refl in
      let change = seat_sum_after_step heap state number words (refused looks) granted_at here rule.machine.seated in
      let spot : next_spine heap words ≡ next_spine heap state.words = ap spot_in (budget_words_leave_places heap state book rule word).spot in
      let there : spine_need seat ≤ was = omega (arith, old.word, change, given) in
      let falls = fallen_budget_fits_word was (spine_need seat) (budget_word_is_small heap state book rule.machine old) there in
      let now : at heap words Budget ≡ word = at-put_same heap state.words Budget word rule.machine.table tt in
      tells words (heap_stands_after_budget heap state book rule word) (seat_stands_after_budget heap state book rule word) (same_sources_after_budget heap state book rule word) looks (budget_words_leave_places heap state book rule word)
      (budgets_stand_after_change heap state book number here rule.machine.seated words (refused looks) (spine_need seat) 0 0
      record { given_is = given; placed_is = rw point refl; refused_is = rw point refl } 0 0 0 record { given_is = refl; placed_is = refl; refused_is = refl } (with_entry book entry)
      (grants words (heap_stands_after_budget heap state book rule word) (seat_stands_after_budget heap state book rule word) (same_sources_after_budget heap state book rule word) looks)
      (ap (λ (s : Spot). s.half) spot) (ap (λ (s : Spot). s.offset + 0) spot) (omega (arith, now, falls)) (omega (arith, old.low)) old)
      machine

-- a refusal that is told keeps the rule
pub refusal_keeps : StepKeeps (points.Making Refusing) (λ heap. refusal_move)
refusal_keeps heap state book number rule here point =
    refusal_cases (λ step sees. MoveKeeps heap state book number (refusal_at number (seat_at state number) step sees)) (seat_at state number).command (spine_need (seat_at state number))
    (makes heap state book number rule here point) (at_load heap state book number rule here point) (at_budget heap state book number rule here point)

-- its step stores no word of an object, is on a word that the table has, and leaves the born bits
refuses_none : (command : Command) (words : ℕ) → ¬ IsStore (Some (refusal_step command words))
refuses_none (commands.Array d cells) words is = is
refuses_none _ words is = is

refusing_there : (heap : Heap) (command : Command) (words : ℕ) → InTable heap (address_of (refusal_step command words)) → HasWord heap (address_of (refusal_step command words))
refusing_there heap (commands.Array d cells) words there = there
refusing_there heap _ words there = there

refusal_bits : (heap : Heap) (command : Command) (words : ℕ) → LeavesBits heap 16 32 (refusal_step command words)
refusal_bits heap (commands.Array d cells) words = beside (λ g below e. omega (arith, e, below))
refusal_bits heap _ words = only_loads (λ word. refl)

-- all that is asked of it
pub step_kind_of_refusing : StepKind (points.Making Refusing)
step_kind_of_refusing = record {
  keeps = λ heap state book number rule here looks. refusal_keeps heap state book number rule here;
  shows = λ heap state number. shows_one _ (refuses refl);
  looks = record {
    follows = λ heap state number seat compares point_is. looks_follow_refusal heap state number seat seat.command (spine_need seat);
    goes = λ heap state book rule number point_is. looks_go_at_refusal heap state book rule number (seat_at state number).command (spine_need (seat_at state number)) _ _ point_is;
    comes = λ heap number seat found point_is. tt;
  };
  words = on_words_of_plain_step (points.Making Refusing) (λ heap. refusal_move) (λ heap number seat. refl) (λ heap number seat. refuses_none seat.command (spine_need seat)) (λ heap number seat. refusing_there heap seat.command (spine_need seat))
      (λ heap state book rule number here. refusal_bits heap (seat_at state number).command (spine_need (seat_at state number)));
  found = λ heap state book number stands here point_is. tells_at_refusal heap state book number stands here (λ idle. cc (point_is, idle)) (seat_at state number).command;
}
