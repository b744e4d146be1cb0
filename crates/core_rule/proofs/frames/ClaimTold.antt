-- What a claim of free fragments tells: an entry where it got some, and nothing where it got none.
use Rattle.std.proofs.Common.{◌≡◌, ◌≢◌, ℕ, ◌+◌, ◌*◌, ◌/◌, ◌%◌, ◌<◌, ◌≤◌, ◌==◌, inl, inr, false, List, [], ◌∷◌, ◌++◌, length, drop, filter, refl, sym, ◌∙◌, subst, arith}
use Rattle.std.proofs.lemmas.Bool.{eq-eqb}
use Rattle.std.proofs.lemmas.Bool.Decides.{eqb_tells}
use Rattle.std.proofs.lemmas.List.{append-nil}
use Rattle.core_rule.proofs.Terms.{SeenStands, stamps_at, Entry, Heap, IsLegal, graph_of, is_of, graph_seat, phase, last_answer, has_left, Point, tally, State, seat_at, takes_some, Seat, Book, Colour}
use Rattle.core_rule.proofs.Terms.{CountsAgree, AreUsed, HeapInCycle, SeatInCycle, GathersRight, Began, IsAnswered, fragments_in_hand, Owner, Free, Taken, free_bit, owner_after}
use Rattle.core_rule.proofs.Terms.{Rule}
use Rattle.heap_model.specs.declared.entry.Entry.TheVariants as entries
use Rattle.core_rule.specs.counts.Counts.{is_collectors}
use Rattle.core_rule.proofs.counts.CountMoves.{used_after_claim, used_after_empty_claim, claim_fits_room}
use Rattle.core_rule.proofs.cycle.CycleHistory.{heap_in_cycle_after_entry, seat_in_cycle_after_own}
use Rattle.core_rule.proofs.gather.GatherSteps.{equal_by_no_difference, own_claim_gathers_right, own_empty_claim_gathers_right, other_claim_gathers_right, other_empty_claim_gathers_right}
use Rattle.core_rule.proofs.entries.InFlight.{began_after_entry}
use Rattle.heap_model.proofs.graph_changes.OwnGraphs.{seat_is_not_other}
use Rattle.core_rule.proofs.entries.OwnEntries.{counts_agree_after_own, counts_agree_without_entry, own_list_grows}
use Rattle.core_rule.proofs.frames.SeatFrames.{SameTold, seat_told_same_without_entry, seat_told_same_after_other}
use Rattle.core_rule.proofs.budgets.BudgetFrames as budgets
use Rattle.core_rule.proofs.entries.ToldSpines.{seat_entry_tells_no_spine, same_told_after_entry}
use Rattle.core_rule.proofs.entries.SpaceEntries.{graph_same_after_takes, legal_after_takes}

-- what is as it has to be of the history after a claim, with the new owners
pub record ClaimTold (heap : Heap) (state : State) (book : Book) (number : ℕ) (owner : ℕ → Owner) (count : ℕ) (history added : List Entry) : Type 0 where
  pub log : filter is_collectors added ≡ []
  pub graph : graph_of heap history ≡ graph_of heap book.history
  pub used : AreUsed heap owner history
  pub spines : budgets.SameTold book.history history
  pub legal : IsLegal heap false history
  pub phases : (words : List ℕ) (owner : ℕ → Owner) (colour : ℕ → Colour) (fragments : ℕ → List ℕ)
      → HeapInCycle heap words (phase book.history) owner colour fragments → HeapInCycle heap words (phase history) owner colour fragments
  pub cycles : (words : List ℕ) (owner : ℕ → Owner) (colour : ℕ → Colour) (r : ℕ) (seat : Seat)
      → SeatInCycle heap words (phase book.history) (last_answer r book.history) (has_left r book.history) owner colour r seat
      → SeatInCycle heap words (phase history) (last_answer r history) (has_left r history) owner colour r seat
  pub own : (mine : List Entry) → mine ≡ filter (is_of number) book.history → mine ++ added ≡ filter (is_of number) history
  pub others : (r : ℕ) → r ≢ number → SameTold r book.history history
  pub counts : (now : Seat) → now.made ≡ (seat_at state number).made → now.sets ≡ (seat_at state number).sets → stamps_at now now.point ≡ stamps_at (seat_at state number) (seat_at state number).point → now.left ≡ (seat_at state number).left
      → length now.reserve + length (fragments_in_hand now.hand now.body) ≡ length (seat_at state number).reserve + length (fragments_in_hand (seat_at state number).hand (seat_at state number).body) + count
      → CountsAgree (graph_of heap book.history) history number now
  pub began : (now : Point) → Began history number (book.begun number) now
  pub gathers : GathersRight heap owner number (drop (book.begun number) history) (seat_at state number).cursor ((seat_at state number).tried + 1) 0
  pub other_gathers : (r : ℕ) → r < heap.seats → r ≢ number
      → GathersRight heap owner r (drop (book.begun r) history) (seat_at state r).cursor (seat_at state r).tried (seat_at state r).given

module _ (heap : Heap) (state : State) (book : Book) (number : ℕ) (fs : List ℕ) (rule : Rule heap state book) (here : number < heap.seats)
    (busy : ¬ IsAnswered (seat_at state number).point) (present : (graph_seat (graph_of heap book.history) number).left ≡ false) (none_given : (seat_at state number).given ≡ 0)
    (once : (f : ℕ) → tally f fs ≤ 1) (below : (f : ℕ) → 1 ≤ tally f fs → f < 16 * heap.groups) (free : (f : ℕ) → 1 ≤ tally f fs → book.owner f ≡ Free)
    (none : (f : ℕ) → f / 16 ≡ ((seat_at state number).cursor + (seat_at state number).tried) % heap.groups → free_bit (owner_after (Taken number) book.owner fs f) ≡ 0) where
  nothing_given : GathersRight heap book.owner number (drop (book.begun number) book.history) (seat_at state number).cursor (seat_at state number).tried 0
  nothing_given = subst (λ n. GathersRight heap book.owner number (drop (book.begun number) book.history) (seat_at state number).cursor (seat_at state number).tried n) none_given (rule.seats_stand number here).told.gathers

  -- it got some
  told_some : 1 ≤ length fs → ClaimTold heap state book number (owner_after (Taken number) book.owner fs) (length fs) (book.history ++ entries.Takes number (length fs) ∷ []) (entries.Takes number (length fs) ∷ [])
  told_some some =
      let entry : Entry = entries.Takes number (length fs) in
      let stands = rule.seats_stand number here in
      let used = rule.heap_stands.used in
      record {
        log = refl;
        graph = graph_same_after_takes heap book.history number (length fs);
        spines = same_told_after_entry book.history entry (seat_entry_tells_no_spine entry refl refl);
        used = used_after_claim heap book.owner book.history number fs once below used free;
        legal = legal_after_takes heap book.history number (length fs) rule.heap_stands.legal present some (claim_fits_room heap book.owner book.history number fs once below used free);
        phases = λ words owner colour fragments cycle. heap_in_cycle_after_entry heap words owner colour book.history entry refl fragments cycle;
        cycles = λ words owner colour r seat cycle. seat_in_cycle_after_own heap words owner colour book.history entry refl r seat cycle refl refl;
        own = λ mine was. own_list_grows number book.history mine entry (eq-eqb number number refl) was;
        others = λ r apart. seat_told_same_after_other r book.history entry (seat_is_not_other number r apart);
        counts = λ now same sets seen left more. counts_agree_after_own (graph_of heap book.history) (graph_of heap book.history) book.history number (seat_at state number) now stands.told.counts entry (eq-eqb number number refl)
            (same ∙ stands.told.counts.numbered) (sets ∙ stands.told.counts.stamped) (subst (SeenStands (graph_of heap book.history) number) (sym seen) stands.told.counts.seen) (stands.told.counts.leaves ∙ sym left) (omega (arith, more));
        began = λ now. began_after_entry book.history entry number (book.begun number) (seat_at state number).point now refl (λ still. busy) stands.told.began;
        gathers = own_claim_gathers_right heap book.owner book.history number fs once below used (book.begun number) stands.told.began.earlier (seat_at state number).cursor (seat_at state number).tried 0 free none nothing_given;
        other_gathers = λ r under apart. other_claim_gathers_right heap book.owner book.history number fs once below used (book.begun r) (rule.seats_stand r under).told.began.earlier
            (seat_at state r).cursor (seat_at state r).tried (seat_at state r).given free r apart (rule.seats_stand r under).told.gathers;
      }

  -- it got none
  told_same : length fs ≡ 0 → ClaimTold heap state book number (owner_after (Taken number) book.owner fs) (length fs) book.history []
  told_same nothing =
      let stands = rule.seats_stand number here in
      let used = rule.heap_stands.used in
      record {
        log = refl;
        graph = refl;
        spines = budgets.same_told_of_itself book.history;
        used = used_after_empty_claim heap book.owner book.history number fs once below used free nothing;
        legal = rule.heap_stands.legal;
        phases = λ words owner colour fragments cycle. cycle;
        cycles = λ words owner colour r seat cycle. cycle;
        own = λ mine was. append-nil mine ∙ was;
        others = λ r apart. seat_told_same_without_entry r book.history;
        counts = λ now same sets seen left more. counts_agree_without_entry (graph_of heap book.history) book.history number (seat_at state number) now same sets seen left (equal_by_no_difference _ _ (length fs) more nothing) stands.told.counts;
        began = λ now. record { earlier = stands.told.began.earlier; unanswered = λ active. stands.told.began.unanswered busy };
        gathers = own_empty_claim_gathers_right heap book.owner book.history number fs once below used (book.begun number) stands.told.began.earlier (seat_at state number).cursor (seat_at state number).tried 0 free none nothing_given;
        other_gathers = λ r under apart. other_empty_claim_gathers_right heap book.owner book.history number fs once below used (book.begun r) (rule.seats_stand r under).told.began.earlier
            (seat_at state r).cursor (seat_at state r).tried (seat_at state r).given free nothing r (rule.seats_stand r under).told.gathers;
      }

  told_none : length fs ≡ 0 → ClaimTold heap state book number (owner_after (Taken number) book.owner fs) (length fs) (book.history ++ []) []
  told_none nothing = subst (λ h. ClaimTold heap state book number (owner_after (Taken number) book.owner fs) (length fs) h []) (sym (append-nil book.history)) (told_same nothing)

  none_taken : (k : ℕ) → k ≡ 0 → takes_some number k ≡ []
  none_taken k nothing = rw nothing refl

  some_taken : (k : ℕ) → (k == 0) ≡ false → takes_some number k ≡ entries.Takes number k ∷ []
  some_taken k some = rw some refl

  -- either way it tells what it has to
  pub claim_is_told : ClaimTold heap state book number (owner_after (Taken number) book.owner fs) (length fs) (book.history ++ takes_some number (length fs)) (takes_some number (length fs))
  claim_is_told = elim (eqb_tells (length fs) 0) as (λ _. ClaimTold heap state book number (owner_after (Taken number) book.owner fs) (length fs) (book.history ++ takes_some number (length fs)) (takes_some number (length fs))) [
    | inl nothing ↦ subst (λ a. ClaimTold heap state book number (owner_after (Taken number) book.owner fs) (length fs) (book.history ++ a) a) (sym (none_taken (length fs) nothing.1)) (told_none nothing.1)
    | inr some ↦ subst (λ a. ClaimTold heap state book number (owner_after (Taken number) book.owner fs) (length fs) (book.history ++ a) a) (sym (some_taken (length fs) some.0)) (told_some (omega (arith, some.1)))
  ]
