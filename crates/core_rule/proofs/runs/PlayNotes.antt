-- What a seat has found, in a run of whole calls: one that it notes stands behind by its word, and so many spine words are in use as it tells.
use Rattle.std.specs.Prelude.{Option, None, Some, IsSome}
use Rattle.std.proofs.Common.{◌≡◌, ◌≢◌, ◌++◌, ℕ, ◌+◌, ◌<◌, inl, inr, List, length, refl, sym, ap, ◌∙◌, subst, arith}
use Rattle.std.proofs.lemmas.Bool.{false≢true}
use Rattle.std.proofs.lemmas.Bool.Decides.{eqb_tells}
use Rattle.std.proofs.lemmas.List.{append-nil, get_or-set_same}
use Rattle.core_rule.proofs.Terms.{Command, Entry, Heap, words_granted, words_returned, Granting, Withdrawing, Point, Budget, at, Rule, State, seat_at, state_after_due, Begins}
use Rattle.core_rule.proofs.Terms.{Steps, Can, state_after, after_begin, entries, entries_shown, found_by, Move, move_at, next_move, seat_after_due, Seat, absent_seat, Book}
use Rattle.core_rule.proofs.Terms.{granted_at, refused_at, of_seats, IsAlone, NotesNow}
use Rattle.core_machine.specs.declared.point.Collecting.TheVariants.{Looking, Asking, Comparing, Noting}
use Rattle.core_machine.specs.declared.point.Point.TheVariants as points
use Rattle.heap_model.specs.declared.calls.collect.Inner.{Inner}
use Rattle.heap_model.specs.declared.calls.collect.Inner.TheVariants as inners
use Rattle.heap_model.specs.declared.calls.collect.CollectReply.TheVariants as notes
use Rattle.core_machine.proofs.table_lemmas.Free.{sum_of_nothing_is_zero}
use Rattle.core_machine.specs.machine.Opening.{IsOpening}
use Rattle.core_machine.specs.seat.Collecting.{inner_point}
use Rattle.core_machine.specs.Moves.{seat_after}
use Rattle.core_rule.proofs.runs.PlayEntries.{FoundNow}
use Rattle.core_rule.proofs.looks.Moves.{GoesBy}
use Rattle.core_rule.proofs.steps.Seats.{step_kind_of_each_point}
use Rattle.core_rule.proofs.looks.Origins.{IsUsual, ComesFrom, used_is_found_at_grant, begin_is_usual}
use Rattle.core_rule.proofs.looks.Ways.{IsNote, elsewhere_is_no_note, stays_found_after_begin}
use Rattle.core_rule.proofs.runs.OpeningStands.{seat_at_opening}

-- a seat without a call in flight has found nothing
pub found_now_when_idle : (heap : Heap) (words : List ℕ) (history : List Entry) (seat : Seat) → seat.point ≡ points.Idle → FoundNow heap words history seat seat.point
found_now_when_idle heap words history seat idle = subst (FoundNow heap words history seat) (sym idle) tt

pub found_now_when_alone : (heap : Heap) (state new : State) (history : List Entry) (number : ℕ) → IsAlone state number → length state.seats ≡ heap.seats → ((r : ℕ) → r ≢ number → seat_at new r ≡ seat_at state r)
    → FoundNow heap new.words history (seat_at new number) (seat_at new number).point → (r : ℕ) → r < heap.seats → FoundNow heap new.words history (seat_at new r) (seat_at new r).point
found_now_when_alone heap state new history number alone all stay own r below =
    elim (eqb_tells r number) as (λ _. FoundNow heap new.words history (seat_at new r) (seat_at new r).point) [
      | inl same ↦ subst (λ n. FoundNow heap new.words history (seat_at new n) (seat_at new n).point) (sym same.1) own
      | inr apart ↦ found_now_when_idle heap new.words history (seat_at new r) (ap (λ s. s.point) (stay r apart.1) ∙ alone r (rw all below) apart.1)
    ]

-- nor has one that stands at no note, and takes no spine words back
elsewhere_noted : (heap : Heap) (words : List ℕ) (history : List Entry) (seat : Seat) (point : Point) → ¬ IsNote point → (point ≡ points.Making Withdrawing → words_granted history ≡ seat.used + words_returned history)
    → FoundNow heap words history seat point
elsewhere_noted heap words history seat (points.Collecting (Noting reply)) none granted = absurd (none tt)
elsewhere_noted heap words history seat (points.Collecting Looking) none granted = tt
elsewhere_noted heap words history seat (points.Collecting (Asking other)) none granted = tt
elsewhere_noted heap words history seat (points.Collecting (Comparing other p)) none granted = tt
elsewhere_noted heap words history seat (points.Making Withdrawing) none granted = granted refl
elsewhere_noted heap words history seat _ none granted = tt

module _ (heap : Heap) (state : State) (book : Book) (number : ℕ) (rule : Rule heap state book) (alone : IsAlone state number) where
  abbrev seat : Seat
  seat = seat_at state number

  -- a number of each seat is that of this one alone, where it is none without a call in flight
  none_summed : (weight : Seat → Point → ℕ) → ((s : Seat) → weight s points.Idle ≡ 0) → weight seat seat.point ≡ 0 → of_seats heap state weight ≡ 0
  none_summed weight idle own = sum_of_nothing_is_zero heap.seats (λ r. weight (seat_at state r) (seat_at state r).point) (λ r below. elim (eqb_tells r number) as (λ _. weight (seat_at state r) (seat_at state r).point ≡ 0) [
    | inl same ↦ subst (λ n. weight (seat_at state n) (seat_at state n).point ≡ 0) (sym same.1) own
    | inr apart ↦ ap (weight (seat_at state r)) (alone r (rw rule.machine.seated below) apart.1) ∙ idle (seat_at state r)
  ])

  -- so a grant finds what is in use
  grant_tells : seat.point ≡ points.Making Granting → words_granted book.history ≡ at heap state.words Budget + words_returned book.history
  grant_tells point_is =
      let refused : of_seats heap state refused_at ≡ 0 = none_summed refused_at (λ s. refl) (ap (refused_at seat) point_is) in
      let others : of_seats heap state granted_at ≡ 0 = none_summed granted_at (λ s. refl) (ap (granted_at seat) point_is) in
      omega (arith, rule.space.budgets.word, rule.space.budgets.told, refused, others)

  -- where a step comes to take spine words back it has found them
  abbrev TellsBy : Option Move → Type 0
  TellsBy None = Unit {0}
  TellsBy (Some move) = (seat_after move (found_by heap state move.step)).point ≡ points.Making Withdrawing
      → words_granted (book.history ++ move.shows state.words (found_by heap state move.step))
      ≡ (seat_after move (found_by heap state move.step)).used + words_returned (book.history ++ move.shows state.words (found_by heap state move.step))

  no_grant : (point : Point) → point ≢ points.Making Granting → (move : Option Move) → ((found : ℕ) → ComesFrom point (seat_after_due seat move found).point) → TellsBy move
  no_grant point apart None comes = tt
  no_grant point apart (Some move) comes = λ is. absurd (apart (subst (ComesFrom point) is (comes (found_by heap state move.step))))

  tells_at : (point : Point) → seat.point ≡ point → TellsBy (move_at heap number seat point)
  tells_at (points.Making Granting) point_is = λ is.
      rw (append-nil book.history) (grant_tells point_is ∙ ap (λ n. n + words_returned book.history) (sym (used_is_found_at_grant heap seat (at heap state.words Budget) is)))
  tells_at point point_is = no_grant point (λ e. cc) (move_at heap number seat point) (λ found. (step_kind_of_each_point point).looks.comes heap number seat found point_is)

  -- so where a seat has come to take spine words back it has found those that are in use
  pub granted_is_used_and_returned : number < length state.seats → Can heap state (Steps number) → (seat_at (state_after heap state (Steps number)) number).point ≡ points.Making Withdrawing
      → words_granted (book.history ++ entries heap state (Steps number))
      ≡ (seat_at (state_after heap state (Steps number)) number).used + words_returned (book.history ++ entries heap state (Steps number))
  granted_is_used_and_returned here can = moves (next_move heap number seat) (tells_at seat.point refl) can
    where
      moves : (move : Option Move) → TellsBy move → IsSome move → (seat_at (state_after_due heap state number move) number).point ≡ points.Making Withdrawing
          → words_granted (book.history ++ entries_shown heap state move) ≡ (seat_at (state_after_due heap state number move) number).used + words_returned (book.history ++ entries_shown heap state move)
      moves None tells due = absurd (false≢true due)
      moves (Some move) tells due =
          let shown : List Entry = book.history ++ move.shows state.words (found_by heap state move.step) in
          subst (λ (s : Seat). s.point ≡ points.Making Withdrawing → words_granted shown ≡ s.used + words_returned shown)
          (sym (get_or-set_same state.seats number (seat_after move (found_by heap state move.step)) absent_seat here)) tells

  -- so what a seat has found is so after its step
  pub found_now_after_step : number < length state.seats → FoundNow heap state.words book.history seat seat.point
      → FoundNow heap (state_after heap state (Steps number)).words (book.history ++ entries heap state (Steps number)) (seat_at (state_after heap state (Steps number)) number)
      (seat_at (state_after heap state (Steps number)) number).point
  found_now_after_step here was = moves (next_move heap number seat) ((step_kind_of_each_point seat.point).looks.goes heap state book rule number refl) (tells_at seat.point refl)
    where
      moves : (move : Option Move) → GoesBy heap state book rule number move → TellsBy move
          → FoundNow heap (state_after_due heap state number move).words (book.history ++ entries_shown heap state move) (seat_at (state_after_due heap state number move) number)
          (seat_at (state_after_due heap state number move) number).point
      moves None goes tells = subst (λ es. FoundNow heap state.words es seat seat.point) (sym (append-nil book.history)) was
      moves (Some move) goes tells =
          let next : Seat = seat_after move (found_by heap state move.step) in
          let now : List Entry = book.history ++ move.shows state.words (found_by heap state move.step) in
          subst (λ (s : Seat). FoundNow heap (state_after_due heap state number (Some move)).words now s s.point) (sym (get_or-set_same state.seats number next absent_seat here))
          (elsewhere_noted heap (state_after_due heap state number (Some move)).words now next next.point goes.unnoted tells)

-- no call begins with something found
pub found_now_after_begin : (heap : Heap) (state : State) (history : List Entry) (number : ℕ) (command : Command) → Can heap state (Begins number command)
    → FoundNow heap state.words history (seat_at (state_after heap state (Begins number command)) number) (seat_at (state_after heap state (Begins number command)) number).point
found_now_after_begin heap state history number command can =
    let begun : Seat = after_begin heap (seat_at state number) command in
    subst (λ (s : Seat). FoundNow heap state.words history s s.point) (sym (get_or-set_same state.seats number begun absent_seat can.0))
    (elsewhere_noted heap state.words history begun begun.point
    (elsewhere_is_no_note begun.point (stays_found_after_begin heap (seat_at state number) command can.1.idle).elsewhere)
    (λ is. absurd (subst IsUsual is (begin_is_usual heap (seat_at state number) command can.1.idle))))

-- an inner call does where what it notes is so now
pub found_now_after_inner : (heap : Heap) (state : State) (history : List Entry) (begun : Seat) (inner : Inner) → NotesNow heap state inner → FoundNow heap state.words history begun (inner_point inner)
found_now_after_inner heap state history begun inners.Look now = tt
found_now_after_inner heap state history begun inners.Answer now = tt
found_now_after_inner heap state history begun (inners.Behind other) now = tt
found_now_after_inner heap state history begun (inners.Note (notes.Cycle j)) now = tt
found_now_after_inner heap state history begun (inners.Note (notes.Waits other answer p)) now = now

pub found_now_at_opening : (heap : Heap) (state : State) (history : List Entry) → IsOpening heap state → (number : ℕ) → number < heap.seats
    → FoundNow heap state.words history (seat_at state number) (seat_at state number).point
found_now_at_opening heap state history opens number below =
    found_now_when_idle heap state.words history (seat_at state number) (ap (λ (s : Seat). s.point) (seat_at_opening heap state number opens below))
