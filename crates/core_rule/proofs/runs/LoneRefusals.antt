-- A call that goes on while the collector makes turns and no other seat makes a step: what its refusal shows.
use Rattle.std.specs.List.{AllByRecursion, list_any, sum_by}
use Rattle.std.specs.Prelude.{if◌then◌else◌}
use Rattle.std.proofs.Common.{◌≡◌, ℕ, ◌+◌, ◌*◌, ◌<◌, ◌≤◌, false, List, [], ◌++◌, length, drop, sym, ap, ◌∙◌, subst, arith}
use Rattle.std.proofs.Math.Seq.{drop-append_seam}
use Rattle.std.proofs.lemmas.List.Sums.{sum_by-append}
use Rattle.core_rule.proofs.Terms.{effect_of, is_of, total, fragments_gained, fragments_lost, taken_of, spent_of, words_granted, words_returned, is_reply_to, Entry, Heap}
use Rattle.core_rule.proofs.Terms.{Withdrawing, Refusing, State, seat_at, history, SeatIsRefusing, Seat, Book, GathersRight, IsAlone, Rule}
use Rattle.heap_model.specs.declared.entry.Entry.TheVariants as entries
use Rattle.heap_model.specs.declared.reply.Reply.TheVariants as replies
use Rattle.heap_model.proofs.account_lemmas.Windows.{total_is_own_and_others}
use Rattle.core_machine.specs.declared.point.Point.TheVariants as points
use Rattle.core_rule.specs.runs.LoneLaws.{ShowsWhatWas}
use Rattle.core_rule.specs.Stands.{Stands}
use Rattle.core_rule.proofs.counts.FreeSums.{taken_and_free_make_all, all_passed_is_all_free}
use Rattle.core_rule.proofs.entries.AtRest.{refusing_reserve_is_taken, seat_fits}
use Rattle.core_rule.proofs.entries.InFlight.{making_is_not_answered}
use Rattle.core_rule.proofs.runs.LoneEntries.{IsNoOthers, added_makes_none, others_take_none, others_give_none, RefusesAt, IsShown}

-- a sum over the history is one over what was before and one over what was added
pub sum_of_grown_history : (f : Entry → ℕ) (before added history : List Entry) → history ≡ before ++ added → sum_by f history ≡ sum_by f before + sum_by f added
sum_of_grown_history f before added history grown = ap (sum_by f) grown ∙ sum_by-append f before added

module _ (heap : Heap) (number : ℕ) (before : List Entry) where
  -- what came since the call began
  since_begun : (book : Book) (added : List Entry) → book.begun number ≡ length before → book.history ≡ before ++ added → drop (book.begun number) book.history ≡ added
  since_begun book added calls grown = ap (λ n. drop n book.history) calls ∙ ap (drop (length before)) grown ∙ drop-append_seam before added

  -- a call that isn't answered has made nothing since then
  pub unanswered_makes_none : (book : Book) (added : List Entry) → book.begun number ≡ length before → book.history ≡ before ++ added → AllByRecursion (IsNoOthers number) added
      → list_any (is_reply_to number) (drop (book.begun number) book.history) ≡ false → (total (λ e. e.born) added ≡ 0) × (total (λ e. e.words) added ≡ 0)
  unanswered_makes_none book added calls grown own unanswered = added_makes_none number added own (ap (list_any (is_reply_to number)) (sym (since_begun book added calls grown)) ∙ unanswered)

  -- since the call began after this history, the entries are the seat's and the collector's; where it takes spine words back, no more were in use then than it found
  pub record GoesAlone (state : State) (book : Book) : Type 0 where
    pub stands : Stands heap state book
    pub alone : IsAlone state number
    pub calls : book.begun number ≡ length before
    pub added : List Entry
    pub grown : book.history ≡ before ++ added
    pub own : AllByRecursion (IsNoOthers number) added
    pub found : (seat_at state number).point ≡ points.Making Withdrawing → (seat_at state number).used + words_returned before ≤ words_granted before

  -- so much was within the seat's reach then
  abbrev pub WasWithin : ℕ → Type 0
  WasWithin reach = reach + fragments_gained heap before + spent_of number before ≡ 16 * heap.groups + fragments_lost before + taken_of number before

  module _ (state : State) (book : Book) (goes : GoesAlone state book) (here : number < heap.seats) where
    abbrev seat : Seat
    seat = seat_at state number

    abbrev rule : Rule heap state book
    rule = goes.stands.rule

    grown_by : (f : Entry → ℕ) → sum_by f book.history ≡ sum_by f before + sum_by f goes.added
    grown_by f = sum_of_grown_history f before goes.added book.history goes.grown

    -- a refusal of fragments: what was free then was claimed, or came free meanwhile
    refuses_rightly : (reach : ℕ) → WasWithin reach → seat.point ≡ points.Making Refusing → reach ≤ length seat.reserve + seat.given
    refuses_rightly reach was point_is =
        let stands = rule.seats_stand number here in
        let fits = seat_fits rule number here in
        let refuses : SeatIsRefusing heap seat × (seat.hand ≡ []) = rw point_is at fits.at_point in
        let own = refusing_reserve_is_taken heap state book number rule here refuses in
        let gathers : GathersRight heap book.owner number goes.added seat.cursor heap.groups seat.given
        = subst (λ es. GathersRight heap book.owner number es seat.cursor heap.groups seat.given) (since_begun book goes.added goes.calls goes.grown)
        (subst (λ n. GathersRight heap book.owner number (drop (book.begun number) book.history) seat.cursor n seat.given) refuses.0.all_tried stands.told.gathers) in
        let all = taken_and_free_make_all (16 * heap.groups) book.owner in
        let passed = all_passed_is_all_free heap book.owner seat.cursor fits.own.cursor_within in
        let made = unanswered_makes_none book goes.added goes.calls goes.grown goes.own (stands.told.began.unanswered (making_is_not_answered Refusing seat.point point_is)) in
        omega (
          arith,
          was,
          own,
          all,
          passed,
          gathers.passed,
          rule.heap_stands.used,
          made.0,
          others_take_none number goes.added goes.own,
          others_give_none number goes.added goes.own,
          grown_by (λ e. (effect_of e).taken),
          grown_by (λ e. (effect_of e).given),
          grown_by (λ e. (effect_of e).freed),
          grown_by (λ e. if is_of number e then (effect_of e).taken else 0),
          grown_by (λ e. if is_of number e then (effect_of e).given else 0),
          grown_by (λ e. if is_of number e then (effect_of e).born else 0),
          total_is_own_and_others number (λ e. e.taken) goes.added,
          total_is_own_and_others number (λ e. e.given) goes.added,
          total_is_own_and_others number (λ e. e.born) goes.added,
        )

    -- a refusal by a step shows what was there when the call began
    pub refusal_shows_what_was : (reach : ℕ) → WasWithin reach → (entry : Entry) → IsShown number seat entry → ShowsWhatWas reach before entry
    refusal_shows_what_was reach was entry shown = by entry shown.refuses
      where
        by : (e : Entry) → RefusesAt seat e → ShowsWhatWas reach before e
        by (entries.Said other command (replies.Full need found)) refuses = subst (λ n. reach ≤ n) (sym refuses.1) (refuses_rightly reach was refuses.0)
        by (entries.Said other command (replies.SpineFull need shown)) refuses = omega (arith, refuses.1, goes.found refuses.0)
        by _ refuses = tt
