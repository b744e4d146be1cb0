-- A step that asks for an array's spine words keeps the rule: they are granted, or found to be too many.
use Rattle.std.specs.Prelude.{if◌then◌else◌}
use Rattle.std.proofs.Common.{◌≡◌, ℕ, ◌+◌, ◌%◌, ◌^◌, ◌<◌, ◌≤◌, suc, Bool, nat_lt, inl, inr, List, [], length, drop, slice_set, refl, sym, ap, ◌∙◌, subst, arith}
use Rattle.std.proofs.lemmas.Bool.Decides.{leb_tells}
use Rattle.std.proofs.lemmas.List.{append-nil}
use Rattle.core_rule.proofs.Terms.{spot_in, Heap, graph_of, phase, last_answer, has_left, Graph, Granting, Withdrawing, Budget, State, seat_at, IsMachine, grant_move, IsArrayCall}
use Rattle.core_rule.proofs.Terms.{target_of, IsAtRest, MakesNext, gather_next, Seat, spine_need, with_entries, at, Book, BudgetsStand, UsedStands, GathersRight, Holding}
use Rattle.core_rule.proofs.Terms.{fragments_in_hand, Rule, SeatStands, HasPlace, next_spine}
use Rattle.heap_words.specs.declared.spot.Spot.{Spot}
use Rattle.core_machine.specs.declared.point.Point.TheVariants as points
use Rattle.core_machine.proofs.table_lemmas.Addresses.{at-put_same}
use Rattle.core_rule.specs.hand.Together.{AreTogether}
use Rattle.core_rule.proofs.spines.NoPlaces.{same_range_away}
use Rattle.core_rule.proofs.halves.HalvesFrames.{halves_stand_after_step}
use Rattle.core_rule.proofs.budgets.BudgetFrames.{same_grants_recoloured}
use Rattle.core_rule.proofs.cycle.MakingCycle.{seat_in_cycle_goes_on}
use Rattle.core_rule.proofs.entries.InFlight.{making_awaits_none, began_without_entry, making_is_not_answered}
use Rattle.core_rule.proofs.entries.OwnEntries.{counts_agree_without_entry}
use Rattle.core_rule.proofs.entries.SeatLists.{making_list_is_all_told, own_list_of_making}
use Rattle.core_rule.proofs.book.BookGoing.{book_goes_on_with_history}
use Rattle.core_rule.proofs.hand.ClaimOrder.{together_after_going_on}
use Rattle.core_rule.proofs.hand.EmptyHand.{is_stored_where_none}
use Rattle.core_rule.proofs.hand.GoesOn.{StaysMaking, holding_goes_on, held_length_goes_on, gathers_right_goes_on, stays_making_goes_on, unplaced_goes_on}
use Rattle.core_rule.proofs.marking.Marks.{leaves_by_same_sources, marks_go_on_off_way}
use Rattle.core_rule.proofs.budgets.BudgetSteps.{HasWeights, budgets_stand_after_change, budget_word_is_small, grown_budget_fits_word}
use Rattle.core_rule.proofs.spines.SpineFrames.{spine_in_hand_away}
use Rattle.core_rule.proofs.budgets.UsedFound.{finds_spine_by_budget}
use Rattle.core_rule.proofs.budgets.WeightSums.{spine_need_within_limit}
use Rattle.core_rule.proofs.frames.BudgetWritten.{budget_words, budget_words_leave_places, same_sources_after_budget, heap_stands_after_budget, seat_stands_after_budget}
use Rattle.core_rule.proofs.graph.SeenStamps.{stamps_stay}
use Rattle.core_rule.proofs.steps.Assemble.{Keeps, keeps_rule_after_step, StepKeeps, seat_fits}
use Rattle.core_rule.proofs.steps.StepKinds.{StepKind, beside, comes_from_grant, stays_found_after_budget, step_kind_of_way, on_words_of_plain_step}

module _ (heap : Heap) (state : State) (book : Book) (number : ℕ) (rule : Rule heap state book) (here : number < heap.seats) (point : (seat_at state number).point ≡ points.Making Granting) where
  abbrev seat : Seat
  seat = seat_at state number

  abbrev found : ℕ
  found = at heap state.words Budget

  abbrev needs : ℕ
  needs = spine_need seat

  abbrev words : List ℕ
  words = budget_words heap state book rule ((found + needs) % 2 ^ 64)

  abbrev g : Graph
  g = graph_of heap book.history

  stands : SeatStands heap state.words book number seat
  stands = rule.seats_stand number here

  fits : IsAtRest seat × MakesNext seat.command seat.made × IsArrayCall seat.command
  fits = rw point at (seat_fits rule number here).at_point

  -- nothing is granted to the seat yet
  nothing : HasWeights (next_spine heap state.words).half seat 0 0 0
  nothing = record { given_is = rw point refl; placed_is = rw point refl; refused_is = rw point refl }

  -- what it asks for is added to the budget
  grown : at heap words Budget ≡ found + needs
  grown = at-put_same heap state.words Budget _ rule.machine.table tt
      ∙ grown_budget_fits_word found needs (budget_word_is_small heap state book rule.machine rule.space.budgets) (spine_need_within_limit seat.command fits.1.in_range)

  same_place : next_spine heap words ≡ next_spine heap state.words
  same_place = ap spot_in (budget_words_leave_places heap state book rule ((found + needs) % 2 ^ 64)).spot

  -- the seat goes on with what it has, where its budget stands
  goes : (next : Seat) → StaysMaking seat next → Holding book.owner number next.reserve next.hand next.body → AreTogether heap next.cursor next.tried next.hand next.body
      → length next.reserve + length (fragments_in_hand next.hand next.body) ≡ length seat.reserve + length (fragments_in_hand seat.hand seat.body)
      → GathersRight heap book.owner number (drop (book.begun number) book.history) next.cursor next.tried next.given
      → ¬ HasPlace next next.point → UsedStands heap book.history number next next.point
      → BudgetsStand heap (record state { words = words; seats = slice_set state.seats number (with_entries next []) }) book
      → IsMachine heap (record state { words = words; seats = slice_set state.seats number (with_entries next []) })
      → Keeps heap state (record state { words = words; seats = slice_set state.seats number (with_entries next []) }) book book.begun []
  goes next stays holding together as_many gathers no_place used budgets machine =
      let new : Seat = with_entries next [] in
      let same = stays.same in
      let after = seat_stands_after_budget heap state book rule ((found + needs) % 2 ^ 64) number here in
      keeps_rule_after_step heap state book number words new book [] rule here machine (sym (append-nil book.history)) refl
      (heap_stands_after_budget heap state book rule ((found + needs) % 2 ^ 64))
      record {
        own = record {
          holding = holding;
          stored = is_stored_where_none heap words number new (same.stored ∙ fits.0.none_stored);
          together = together;
          spine = spine_in_hand_away heap state.words words book.spine_owner number seat new (λ has. rw point at has) no_place stands.own.spine;
        };
        names = record {
          registers = rw same.registers (λ r fresh. stands.names.registers r (making_awaits_none Granting seat.point (target_of seat.command) r point));
          way = rw stays.point_is tt;
          address = rw stays.point_is tt;
        };
        told = record {
          list = own_list_of_making g book.history book.made book.owner book.fragments number new stays.making stays.point_is
              (append-nil next.mine ∙ same.mine ∙ making_list_is_all_told g book.history book.made book.owner book.fragments number seat Granting point stands.told.list);
          counts = counts_agree_without_entry g book.history number seat new same.made same.sets (stamps_stay seat new (points.Making Granting) (points.Making stays.making) point stays.point_is tt tt same.seen) same.left as_many stands.told.counts;
          began = began_without_entry book.history number (book.begun number) seat.point next.point (making_is_not_answered Granting seat.point point) stands.told.began;
          gathers = gathers;
          used = used;
        };
        cycle = seat_in_cycle_goes_on heap words words book.owner book.owner book.colour (phase book.history) (last_answer number book.history) (has_left number book.history) number seat new
            record { answered = same.answered; left = same.left; asked = same.asked } (rw stays.point_is tt) refl (λ f borne. borne) after.cycle;
      }
      (λ r below apart other. seat_stands_after_budget heap state book rule ((found + needs) % 2 ^ 64) r below)
      (marks_go_on_off_way heap state book rule number here words book new (leaves_by_same_sources heap state book rule words (same_sources_after_budget heap state book rule ((found + needs) % 2 ^ 64))) same.answered same.registers (rw stays.point_is tt))
      record {
        budgets = budgets;
        halves = halves_stand_after_step heap state book number words new book here rule.machine.seated (budget_words_leave_places heap state book rule ((found + needs) % 2 ^ 64)) (same_range_away seat new no_place)
            (same_grants_recoloured heap book book.colour book.begun) (λ f dark. dark) rule.space.halves;
      }
      (book_goes_on_with_history heap state book book.history book.begun)

  -- they were too many
  refused : heap.spine < found + needs → IsMachine heap (record state { words = words; seats = slice_set state.seats number (with_entries (record seat { used = found; point = points.Making Withdrawing }) []) })
      → Keeps heap state (record state { words = words; seats = slice_set state.seats number (with_entries (record seat { used = found; point = points.Making Withdrawing }) []) }) book book.begun []
  refused many =
      let next : Seat = record seat { used = found; point = points.Making Withdrawing } in
      goes next
      record {
        same = record { registers = refl; seen = refl; stored = refl; mine = refl; made = refl; sets = refl; answered = refl; left = refl; asked = refl };
        making = Withdrawing;
        point_is = refl;
      }
      stands.own.holding stands.own.together refl stands.told.gathers (λ has. has)
      (finds_spine_by_budget heap state book rule.machine rule.space.budgets number here nothing, omega (arith, budget_word_is_small heap state book rule.machine rule.space.budgets))
      (budgets_stand_after_change heap state book number here rule.machine.seated words (with_entries next []) 0 0 0 nothing 0 0 needs record { given_is = refl; placed_is = refl; refused_is = refl }
      book (same_grants_recoloured heap book book.colour book.begun) (ap (λ (s : Spot). s.half) same_place) (ap (λ (s : Spot). s.offset + 0) same_place) (omega (arith, grown)) (omega (arith, rule.space.budgets.low)) rule.space.budgets)

  -- they were granted, and the seat gathers
  granted : found + needs ≤ heap.spine → IsMachine heap (record state { words = words; seats = slice_set state.seats number (with_entries (gather_next heap seat) []) })
      → Keeps heap state (record state { words = words; seats = slice_set state.seats number (with_entries (gather_next heap seat) []) }) book book.begun []
  granted few =
      let next : Seat = gather_next heap seat in
      let unplaced = unplaced_goes_on heap seat fits.1.an_object in
      goes next (stays_making_goes_on heap seat)
      (holding_goes_on heap book.owner number seat fits.0.no_body stands.own.holding)
      (together_after_going_on heap seat fits.0.no_body (seat_fits rule number here).own.cursor_within (seat_fits rule number here).own.reserve_of_cursor stands.own.together)
      (held_length_goes_on heap seat fits.0.no_body)
      (gathers_right_goes_on heap book.owner number (drop (book.begun number) book.history) seat fits.0.none_given stands.told.gathers)
      unplaced.no_place (unplaced.none_used heap book.history number)
      (budgets_stand_after_change heap state book number here rule.machine.seated words (with_entries next []) 0 0 0 nothing needs 0 0
      record { given_is = unplaced.granted; placed_is = unplaced.placed (next_spine heap state.words).half; refused_is = unplaced.refused }
      book (same_grants_recoloured heap book book.colour book.begun) (ap (λ (s : Spot). s.half) same_place) (ap (λ (s : Spot). s.offset + 0) same_place) (omega (arith, grown))
      (omega (arith, few, rule.space.budgets.word)) rule.space.budgets)

  abbrev Answered : Bool → Type 0
  Answered many = IsMachine heap (record state { words = words; seats = slice_set state.seats number (with_entries (if many then record seat { used = found; point = points.Making Withdrawing } else gather_next heap seat) []) })
      → Keeps heap state (record state { words = words; seats = slice_set state.seats number (with_entries (if many then record seat { used = found; point = points.Making Withdrawing } else gather_next heap seat) []) })
      book book.begun []

  answered : Answered (nat_lt heap.spine (found + needs))
  answered = elim (leb_tells (suc heap.spine) (found + needs)) as (λ _. Answered (nat_lt heap.spine (found + needs))) [
    | inl many ↦ subst Answered (sym many.0) (refused (omega (arith, many.1)))
    | inr few ↦ subst Answered (sym few.0) (granted (omega (arith, few.1)))
  ]

pub grant_keeps : StepKeeps (points.Making Granting) grant_move
grant_keeps heap state book number rule here point = answered heap state book number rule here point

-- all that is asked of it
pub step_kind_of_granting : StepKind (points.Making Granting)
step_kind_of_granting = step_kind_of_way (points.Making Granting) grant_move (λ heap number seat. refl) (λ e. cc e) (λ heap number seat. tt) (λ heap number seat words found. refl) record {
  keeps = grant_keeps;
  stays = λ heap number seat found point_is. stays_found_after_budget heap seat found;
  comes = λ heap number seat found. comes_from_grant heap seat found;
  words = on_words_of_plain_step (points.Making Granting) grant_move (λ heap number seat. refl) (λ heap number seat is. is) (λ heap number seat low. low)
      (λ heap state book rule number here. beside (λ g below e. omega (arith, e, below)));
  found = λ heap state book number stands here point_is. omega (arith, budget_word_is_small heap state book stands.rule.machine stands.rule.space.budgets);
}
