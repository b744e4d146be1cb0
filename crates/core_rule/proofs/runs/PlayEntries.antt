-- What a step adds to the history may stand in a play, where no other seat made a step since the call began.
use Rattle.std.specs.List.{list_all}
use Rattle.std.proofs.Common.{◌≡◌, ℕ, ◌+◌, ◌%◌, ◌^◌, ◌<◌, ◌≤◌, true, false, List, [], ◌∷◌, ◌++◌, length, drop, refl, sym, ◌∙◌, subst, arith}
use Rattle.std.proofs.lemmas.Bool.{eq-eqb}
use Rattle.core_rule.proofs.Terms.{Command, Entry, Heap, KeepsSpace, is_of, words_granted, words_returned, phase, Withdrawing, Refusing, Point, SeatIsRefusing, State, seat_at}
use Rattle.core_rule.proofs.Terms.{full_entry, spine_full_entry, Seat, need, spine_need, Book, GathersRight, IsBehindNow, Rule}
use Rattle.heap_model.specs.Behind.{behind_of}
use Rattle.heap_model.specs.declared.command.Command.TheVariants as commands
use Rattle.heap_model.specs.declared.entry.Entry.TheVariants as entries
use Rattle.heap_model.specs.declared.reply.Reply.TheVariants as replies
use Rattle.heap_model.specs.account.Refusals.{FindsSpace}
use Rattle.heap_model.specs.account.Phases.{IsBehind, ShowsWait, ShowsPhases}
use Rattle.heap_model.specs.declared.calls.collect.CollectReply.TheVariants as notes
use Rattle.core_machine.specs.declared.point.Collecting.TheVariants.{Noting}
use Rattle.core_machine.specs.seat.HandshakeMoves.{phase_told}
use Rattle.core_machine.specs.declared.point.Point.TheVariants as points
use Rattle.core_rule.proofs.entries.AtRest.{refusing_reserve_is_taken, seat_fits}
use Rattle.core_rule.proofs.entries.PhasesTold.{told_cases}
use Rattle.core_rule.proofs.looks.Words.{word_is_last_answer}
use Rattle.core_rule.proofs.entries.StepTells.{SeatTells, SeatShows, takes, gives, says, refuses, refuses_words, waits, shows_none, shows_one, shows_answer}
use Rattle.core_rule.proofs.runs.Plays.{keeps_space_of_waits, keeps_space_of_spine_refusal, MayPlay, taking, giving, answering, saying, keeps_space_of_plain, finds_space_in_play}
use Rattle.core_rule.proofs.entries.MakingCommands.{keeps_space_of_full}

-- what a seat has found is so now: one that it is about to note stands behind by its word, and as many spine words are in use as its refusal tells
abbrev pub FoundNow : Heap → List ℕ → List Entry → Seat → Point → Type 0
FoundNow heap words history seat (points.Collecting (Noting (notes.Waits other answer p))) = IsBehindNow heap words other answer p
FoundNow heap words history seat (points.Making Withdrawing) = words_granted history ≡ seat.used + words_returned history
FoundNow heap words history seat _ = Unit {0}

-- the entries are the seat's, and may stand in a play where they may in a run
pub record AddsPlay (heap : Heap) (before : List Entry) (number : ℕ) (added : List Entry) : Type 0 where
  pub own : list_all (is_of number) added ≡ true
  pub may : MayPlay heap before added

module _ (heap : Heap) (before : List Entry) (number : ℕ) where
  one : (entry : Entry) → is_of number entry ≡ true → (KeepsSpace heap false before entry → KeepsSpace heap true before entry) → AddsPlay heap before number (entry ∷ [])
  one entry own keeps = record { own = rw own refl; may = (keeps, tt) }

  answered : (command : Command) (p : ℕ) → AddsPlay heap before number (entries.Answers number p ∷ phase_told number command p)
  answered command p = told_cases (λ told. AddsPlay heap before number (entries.Answers number p ∷ told)) number command p
      (one (entries.Answers number p) (eq-eqb number number refl) (keeps_space_of_plain heap before (entries.Answers number p) (answering number p)))
      record {
        own = rw (eq-eqb number number refl) refl;
        may = (
          keeps_space_of_plain heap before (entries.Answers number p) (answering number p),
          (keeps_space_of_plain heap (before ++ entries.Answers number p ∷ []) (entries.Said number command (replies.Phase p)) (saying number command (replies.Phase p) tt), tt),
        );
      }

refusal : (heap : Heap) (state : State) (book : Book) (number : ℕ) → Rule heap state book → number < heap.seats → (seat_at state number).point ≡ points.Making Refusing
    → list_all (is_of number) (drop (book.begun number) book.history) ≡ true → AddsPlay heap book.history number (full_entry number (seat_at state number) ∷ [])
refusal heap state book number rule here point_is alone =
    let seat : Seat = seat_at state number in
    let stands = rule.seats_stand number here in
    let fits = seat_fits rule number here in
    let refuses : SeatIsRefusing heap seat × (seat.hand ≡ []) = rw point_is at fits.at_point in
    let own = refusing_reserve_is_taken heap state book number rule here refuses in
    let finds : FindsSpace heap true book.history number (length seat.reserve + seat.given)
    = finds_space_in_play heap book.owner book.history number (book.begun number) seat.cursor seat.given (length seat.reserve) fits.own.cursor_within
    rule.heap_stands.used own alone
    (subst (λ n. GathersRight heap book.owner number (drop (book.begun number) book.history) seat.cursor n seat.given) refuses.0.all_tried stands.told.gathers) in
    let less : length seat.reserve + seat.given < need seat = omega (arith, refuses.0.too_few) in
    one heap book.history number (full_entry number seat) (eq-eqb number number refl)
    (λ run. keeps_space_of_full seat.command refuses.0.makes.an_object heap true book.history number (length seat.reserve + seat.given)
    (omega (arith, own)) (omega (arith, own, fits.own.small_reserve)) less finds)

spine_refusal : (heap : Heap) (state : State) (book : Book) (number : ℕ) → Rule heap state book → words_granted book.history ≡ (seat_at state number).used + words_returned book.history
    → AddsPlay heap book.history number (spine_full_entry number (seat_at state number) ∷ [])
spine_refusal heap state book number rule found =
    let seat : Seat = seat_at state number in
    let budgets = rule.space.budgets in
    let few : seat.used ≤ heap.spine = omega (arith, found, budgets.told, budgets.low) in
    let shown : seat.used % 2 ^ 32 ≡ seat.used = omega (arith, few, rule.machine.limits.spine_fits) in
    one heap book.history number (spine_full_entry number seat) (eq-eqb number number refl)
    (keeps_space_of_spine_refusal heap book.history number seat.command (spine_need seat) (seat.used % 2 ^ 32) (omega (arith, shown, found)))

-- where a seat that is noted stands behind by its word, it does so by the history
noted_behind : (heap : Heap) (state : State) (book : Book) (number : ℕ) → Rule heap state book → (other answer p : ℕ) → IsBehindNow heap state.words other answer p → (command : Command)
    → ShowsPhases heap false book.history number command (replies.Waits other answer p) → command ≡ commands.Collect → IsBehind other answer p book.history
noted_behind heap state book number rule other answer p now command shows collects =
    let shown : ShowsWait heap false book.history number (behind_of other answer p)
    = subst (λ c. ShowsPhases heap false book.history number c (replies.Waits other answer p)) collects shows in
    let is_phase : phase book.history ≡ p = sym rule.heap_stands.cycle.word ∙ now.here in
    let told = (rule.seats_stand other shown.0).cycle.answers_told in
    let found = word_is_last_answer heap state book rule other shown.0 answer now.word (omega (arith, is_phase, shown.2)) in
    record { present = found.0; answered = found.1; here = is_phase }

-- what the step due of a seat adds, where all entries since its call began are its own
module _ (heap : Heap) (state : State) (book : Book) (number : ℕ) (rule : Rule heap state book) (here : number < heap.seats)
    (alone : list_all (is_of number) (drop (book.begun number) book.history) ≡ true) (now : FoundNow heap state.words book.history (seat_at state number) (seat_at state number).point) where
  abbrev seat : Seat
  seat = seat_at state number

  told_plays : (entry : Entry) → SeatTells number seat seat.point entry → AddsPlay heap book.history number (entry ∷ [])
  told_plays _ (takes count) = one heap book.history number _ (eq-eqb number number refl) (keeps_space_of_plain heap book.history _ (taking number count))
  told_plays _ (gives count) = one heap book.history number _ (eq-eqb number number refl) (keeps_space_of_plain heap book.history _ (giving number count))
  told_plays _ (says reply plain) = one heap book.history number _ (eq-eqb number number refl) (keeps_space_of_plain heap book.history _ (saying number seat.command reply plain))
  told_plays _ (refuses is) = refusal heap state book number rule here is alone
  told_plays _ (refuses_words is) = spine_refusal heap state book number rule (subst (FoundNow heap state.words book.history seat) is now)
  told_plays _ (waits other answered p is) =
      one heap book.history number _ (eq-eqb number number refl)
      (keeps_space_of_waits heap book.history number seat.command other answered p (noted_behind heap state book number rule other answered p (subst (FoundNow heap state.words book.history seat) is now) seat.command))

  pub adds_entries_of_play : (added : List Entry) → SeatShows number seat seat.point added → AddsPlay heap book.history number added
  adds_entries_of_play _ shows_none = record { own = refl; may = tt }
  adds_entries_of_play _ (shows_one entry tells) = told_plays entry tells
  adds_entries_of_play _ (shows_answer is) = answered heap book.history number seat.command seat.asked
