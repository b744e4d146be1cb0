-- A step that takes refused spine words back, and tells the refusal, keeps the rule.
use Rattle.std.proofs.Common.{◌≡◌, ℕ, ◌+◌, ◌-◌, ◌%◌, ◌^◌, ◌<◌, false, List, length, refl, sym, ap, ◌∙◌, subst, arith}
use Rattle.core_rule.proofs.Terms.{spot_in, Entry, Heap, KeepsSpace, Accepts, graph_of, taken_of, spent_of, Graph, opening, Withdrawing, Budget, State, seat_at, withdraw_move}
use Rattle.core_rule.proofs.Terms.{spine_full_entry, SeatIsWithdrawing, Seat, spine_need, at, Book, UsedStands, Rule, SeatStands, next_spine}
use Rattle.heap_words.specs.declared.spot.Spot.{Spot}
use Rattle.heap_model.specs.declared.reply.Reply.TheVariants.{SpineFull}
use Rattle.heap_model.specs.account.Refusals.{FindsSpine}
use Rattle.heap_model.proofs.Histories.{graph_after-more}
use Rattle.core_machine.specs.declared.point.Point.TheVariants as points
use Rattle.core_machine.specs.Moves.{seat_after}
use Rattle.core_machine.specs.seat.Looks.{forgotten}
use Rattle.core_machine.proofs.table_lemmas.Addresses.{at-put_same}
use Rattle.core_rule.proofs.entries.MakingCommands.{graph_same_after_spine_full, accepts_spine_full, keeps_space_of_spine_full}
use Rattle.core_rule.proofs.frames.SeatFrames.{with_entry}
use Rattle.core_rule.proofs.hand.Bodies.{bare_seat_holds_reserve}
use Rattle.core_rule.proofs.budgets.BudgetSteps.{HasWeights, refused_sum_after_step, budgets_stand_after_change, budget_word_is_small, fallen_budget_fits_word}
use Rattle.core_rule.proofs.frames.BudgetWritten.{budget_words, budget_words_leave_places, same_sources_after_budget, heap_stands_after_budget, seat_stands_after_budget}
use Rattle.core_rule.proofs.steps.Assemble.{making_seat_has_not_left, MoveKeeps, StepKeeps, seat_fits}
use Rattle.core_rule.proofs.steps.making.ToldRefusal.{same_grants_after_refusal, keeps_rule_by_refusal}
use Rattle.core_rule.proofs.steps.StepKinds.{StepKind, beside, shows_one, refuses_words, on_looks_of_reply, on_words_of_plain_step}
use Rattle.heap_model.specs.declared.reply.Reply.TheVariants as replies

module _ (heap : Heap) (state : State) (book : Book) (number : ℕ) (rule : Rule heap state book) (here : number < heap.seats) (point : (seat_at state number).point ≡ points.Making Withdrawing) where
  abbrev seat : Seat
  seat = seat_at state number

  abbrev needs : ℕ
  needs = spine_need seat

  abbrev word : ℕ
  word = (at heap state.words Budget + 2 ^ 64 - needs) % 2 ^ 64

  abbrev words : List ℕ
  words = budget_words heap state book rule word

  abbrev entry : Entry
  entry = spine_full_entry number seat

  abbrev later : Book
  later = with_entry book entry

  abbrev new : Seat
  new = seat_after (withdraw_move number seat) (at heap state.words Budget)

  abbrev g : Graph
  g = graph_of heap book.history

  stands : SeatStands heap state.words book number seat
  stands = rule.seats_stand number here

  fits : SeatIsWithdrawing heap seat
  fits = rw point at (seat_fits rule number here).at_point

  -- what it asked for was refused, and nothing is once it is taken back
  asked : HasWeights (next_spine heap state.words).half seat 0 0 needs
  asked = record { given_is = rw point refl; placed_is = rw point refl; refused_is = rw point refl }

  nothing : HasWeights (next_spine heap state.words).half new 0 0 0
  nothing = record { given_is = refl; placed_is = refl; refused_is = refl }

  fallen : at heap words Budget + needs ≡ at heap state.words Budget
  fallen =
      let less = refused_sum_after_step heap state book number here rule.machine.seated words new 0 0 needs asked 0 0 0 nothing in
      omega (
        arith,
        at-put_same heap state.words Budget word rule.machine.table tt,
        fallen_budget_fits_word (at heap state.words Budget) needs (budget_word_is_small heap state book rule.machine rule.space.budgets) (omega (arith, less, rule.space.budgets.word)),
      )

  same_place : next_spine heap words ≡ next_spine heap state.words
  same_place = ap spot_in (budget_words_leave_places heap state book rule word).spot

  -- the refusal shows what was found
  finds : FindsSpine heap false book.history number seat.used
  finds = (subst (UsedStands heap book.history number seat) point stands.told.used).0

  shown : seat.used % 2 ^ 32 ≡ seat.used
  shown = omega (arith, (subst (UsedStands heap book.history number seat) point stands.told.used).1)

  own : length seat.reserve + spent_of number book.history ≡ taken_of number book.history
  own = bare_seat_holds_reserve seat.reserve seat.hand seat.body (spent_of number book.history) (taken_of number book.history) fits.rests.empty_hand fits.rests.no_body stands.told.counts.unborn

  graph : graph_of heap later.history ≡ g
  graph = graph_after-more (opening heap) book.history entry ∙ graph_same_after_spine_full seat.command fits.an_array g number needs (seat.used % 2 ^ 32)

  accepts : Accepts g entry
  accepts = accepts_spine_full seat.command fits.an_array g number needs (seat.used % 2 ^ 32) fits.makes.in_range (making_seat_has_not_left heap state book number Withdrawing rule here point)

  keeps : KeepsSpace heap false book.history entry
  keeps = keeps_space_of_spine_full seat.command fits.an_array heap false book.history number (seat.used % 2 ^ 32)
      (omega (arith, own)) (omega (arith, own, (seat_fits rule number here).own.small_reserve)) (omega (arith, shown, fits.too_many)) (subst (FindsSpine heap false book.history number) (sym shown) finds)

  -- so they are taken back, and the refusal is told
  withdraws : MoveKeeps heap state book number (withdraw_move number seat)
  withdraws =
      keeps_rule_by_refusal heap state book number rule here Withdrawing point (SpineFull needs (seat.used % 2 ^ 32)) (forgotten seat.looks) fits.makes.an_object refl graph words
      (heap_stands_after_budget heap state book rule word) (seat_stands_after_budget heap state book rule word) (same_sources_after_budget heap state book rule word)
      fits.rests.empty_hand fits.rests.no_body (λ has. rw point at has) accepts keeps (budget_words_leave_places heap state book rule word)
      (budgets_stand_after_change heap state book number here rule.machine.seated words new 0 0 needs asked 0 0 0 nothing later
      (same_grants_after_refusal heap state book number rule here Withdrawing point (SpineFull needs (seat.used % 2 ^ 32)) (forgotten seat.looks) fits.makes.an_object refl graph words
      (heap_stands_after_budget heap state book rule word) (seat_stands_after_budget heap state book rule word) (same_sources_after_budget heap state book rule word))
      (ap (λ (s : Spot). s.half) same_place) (ap (λ (s : Spot). s.offset + 0) same_place) (omega (arith, fallen)) (omega (arith, rule.space.budgets.low)) rule.space.budgets)

pub withdraw_keeps : StepKeeps (points.Making Withdrawing) (λ heap. withdraw_move)
withdraw_keeps heap state book number rule here point = withdraws heap state book number rule here point

-- all that is asked of it
pub step_kind_of_withdrawing : StepKind (points.Making Withdrawing)
step_kind_of_withdrawing = record {
  keeps = λ heap state book number rule here looks. withdraw_keeps heap state book number rule here;
  shows = λ heap state number. shows_one _ (refuses_words refl);
  looks = on_looks_of_reply (points.Making Withdrawing) (λ heap. withdraw_move) (λ seat found. replies.SpineFull (spine_need seat) (seat.used % 2 ^ 32)) (λ heap number seat. refl) (λ heap number seat. tt)
      (λ heap number seat found. refl) (λ heap number seat found. refl) (λ heap number seat words found. refl);
  words = on_words_of_plain_step (points.Making Withdrawing) (λ heap. withdraw_move) (λ heap number seat. refl) (λ heap number seat is. is) (λ heap number seat low. low)
      (λ heap state book rule number here. beside (λ g below e. omega (arith, e, below)));
  found = λ heap state book number stands here point_is. tt;
}
