-- What a seat has found stands as the history grows.
use Rattle.std.specs.List.{list_any}
use Rattle.std.proofs.Common.{◌≡◌, ◌≢◌, ◌||◌, ℕ, ◌+◌, ◌≤◌, Bool, true, false, List, [], ◌∷◌, ◌++◌, refl, sym, ap, ◌∙◌, subst, arith, append_assoc}
use Rattle.std.proofs.lemmas.List.{append-nil}
use Rattle.core_rule.proofs.Terms.{Entry, Heap, phase, last_answer, up_to_last, after_last, up_to_reply, since_reply, is_reply_to, Point}
use Rattle.heap_model.specs.account.Phases.{IsBehind, WasBehind}
use Rattle.heap_model.proofs.account_lemmas.Windows.{up_to_last-no, after_last-no}
use Rattle.core_machine.specs.declared.point.Access.TheVariants.{Naming}
use Rattle.core_machine.specs.declared.point.Collecting.{Collecting}
use Rattle.core_machine.specs.declared.point.Collecting.TheVariants.{Looking, Asking, Comparing, Noting}
use Rattle.core_machine.specs.declared.point.Point.TheVariants as points
use Rattle.core_machine.specs.declared.seat.looks.Looks.{Looks}
use Rattle.heap_model.specs.declared.behind.Behind.{Behind}
use Rattle.core_machine.specs.seat.Looks.{forgotten}
use Rattle.core_rule.specs.looks.Looks.{WasSeen, WasFound, HasCompared, CollectingStands, WhileCollecting, LooksStand}
use Rattle.core_rule.proofs.entries.PhaseEntries.{last_answer_grows, had_not_left}
use Rattle.core_rule.proofs.kept.WeightGrowth.{total_of_appended}
use Rattle.core_rule.proofs.lists.Options.{if_some_goes_on}

-- none of the entries passes the test
abbrev pub NoneOf : (Entry → Bool) → List Entry → Type 0
NoneOf test added = list_any test added ≡ false

neither_holds : (a b : Bool) → (a || b) ≡ false → (a ≡ false) × (b ≡ false)
neither_holds true b none = cc
neither_holds false b none = (refl, none)

pub up_to_last_stays : (test : Entry → Bool) (before added : List Entry) → NoneOf test added → up_to_last test (before ++ added) ≡ up_to_last test before
up_to_last_stays test before [] none = ap (up_to_last test) (append-nil before)
up_to_last_stays test before (entry ∷ more) none =
    let sides = neither_holds (test entry) (list_any test more) none in
    ap (up_to_last test) (sym (append_assoc before (entry ∷ []) more)) ∙ up_to_last_stays test (before ++ entry ∷ []) more sides.1 ∙ up_to_last-no test before entry sides.0

pub after_last-none : (test : Entry → Bool) (before added : List Entry) → NoneOf test added → after_last test (before ++ added) ≡ after_last test before ++ added
after_last-none test before [] none = ap (after_last test) (append-nil before) ∙ sym (append-nil (after_last test before))
after_last-none test before (entry ∷ more) none =
    let sides = neither_holds (test entry) (list_any test more) none in
    ap (after_last test) (sym (append_assoc before (entry ∷ []) more)) ∙ after_last-none test (before ++ entry ∷ []) more sides.1
    ∙ ap (λ es. es ++ more) (after_last-no test before entry sides.0) ∙ append_assoc (after_last test before) (entry ∷ []) more

phase_grows : (before added : List Entry) → phase before ≤ phase (before ++ added)
phase_grows before added = omega (arith, total_of_appended (λ e. e.phases) before added)

module _ (heap : Heap) (number : ℕ) (before added : List Entry) (none : NoneOf (is_reply_to number) added) where
  abbrev now : List Entry
  now = before ++ added

  up_to : up_to_reply number now ≡ up_to_reply number before
  up_to = up_to_last_stays (is_reply_to number) before added none

  since : since_reply number now ≡ since_reply number before ++ added
  since = after_last-none (is_reply_to number) before added none

  behind_on : (other answer p : ℕ) → WasBehind number other answer p before → WasBehind number other answer p now
  behind_on other answer p was = (
    was.0,
    was.1 ++ added,
    since ∙ ap (λ es. es ++ added) was.2 ∙ append_assoc was.0 was.1 added,
    subst (λ es. IsBehind other answer p (es ++ was.0)) (sym up_to) was.3,
  )

  seen_on : (p : ℕ) → WasSeen before number p → WasSeen now number p
  seen_on p seen = record { since = rw up_to seen.since; begun = omega (arith, seen.begun, phase_grows before added) }

  found_on : (found : Behind) → WasFound heap before number found → WasFound heap now number found
  found_on found was = record { below = was.below; other = was.other; next = was.next; behind = behind_on found.seat found.answered found.phase was.behind }

  compares_on : (other p : ℕ) → HasCompared heap before number other p → HasCompared heap now number other p
  compares_on other p was = record {
    asked = was.asked;
    begun = omega (arith, was.begun, phase_grows before added);
    behind = λ present less.
        let grows = last_answer_grows other before added in
        let old = was.behind (had_not_left other before added present) (omega (arith, less, grows)) in
        let same : last_answer other now ≡ last_answer other before = omega (arith, old.0, less, grows) in
        (old.0 ∙ ap (λ n. n + 1) (sym same), behind_on other (last_answer other now) p (subst (λ a. WasBehind number other a p before) (sym same) old.1));
  }

  collecting_on : (point : Collecting) → CollectingStands heap before number point → CollectingStands heap now number point
  collecting_on Looking stands = tt
  collecting_on (Asking other) stands = stands
  collecting_on (Comparing other p) stands = compares_on other p stands
  collecting_on (Noting reply) stands = tt

  asks_on : (point : Point) → WhileCollecting (CollectingStands heap before number) point → WhileCollecting (CollectingStands heap now number) point
  asks_on (points.Collecting point) stands = collecting_on point stands
  asks_on _ stands = tt

  -- where none of the entries is a reply to the seat
  pub looks_stand_without_reply : (point : Point) (looks : Looks) → LooksStand heap before number point looks → LooksStand heap now number point looks
  looks_stand_without_reply point looks stands = record {
    seen = omega (arith, stands.seen, phase_grows before added);
    found = λ unnamed. let was = stands.found unnamed in record {
      first = if_some_goes_on (WasSeen before number) (WasSeen now number) seen_on looks.first was.first;
      behind = if_some_goes_on (WasFound heap before number) (WasFound heap now number) found_on looks.behind was.behind;
    };
    asks = asks_on point stands.asks;
    compares = stands.compares;
  }

-- the point is none of an inner call of its own
abbrev pub IsElsewhere : Point → Type 0
IsElsewhere (points.Collecting point) = ⊥
IsElsewhere _ = Unit {0}

nothing_asked : (P : Collecting → Type 0) (point : Point) → IsElsewhere point → WhileCollecting P point
nothing_asked P (points.Collecting point) elsewhere = absurd elsewhere
nothing_asked P _ elsewhere = tt

-- there nothing is compared
nothing_compared : (point : Point) (looks : Looks) → IsElsewhere point → (other p : ℕ) → point ≡ points.Collecting (Comparing other p) → p ≡ looks.seen
nothing_compared point looks elsewhere other p comparing = absurd (subst IsElsewhere comparing elsewhere)

-- where the seat goes elsewhere
pub looks_stand_elsewhere : (heap : Heap) (history : List Entry) (number : ℕ) (point next : Point) (looks : Looks) → point ≢ points.Access Naming → IsElsewhere next
    → LooksStand heap history number point looks → LooksStand heap history number next looks
looks_stand_elsewhere heap history number point next looks unnamed elsewhere stands =
    record { seen = stands.seen; found = λ still. stands.found unnamed; asks = nothing_asked (CollectingStands heap history number) next elsewhere; compares = nothing_compared next looks elsewhere }

-- after a reply all is forgotten
pub looks_stand_after_reply : (heap : Heap) (before added : List Entry) (number : ℕ) (point : Point) (looks : Looks) → LooksStand heap before number point looks
    → LooksStand heap (before ++ added) number points.Idle (forgotten looks)
looks_stand_after_reply heap before added number point looks stands =
    record { seen = omega (arith, stands.seen, phase_grows before added); found = λ unnamed. record { first = tt; behind = tt }; asks = tt; compares = nothing_compared points.Idle (forgotten looks) tt }

-- and where a name is awaited it is about to be
pub looks_stand_while_awaiting : (heap : Heap) (before added : List Entry) (number : ℕ) (point : Point) (looks : Looks) → LooksStand heap before number point looks
    → LooksStand heap (before ++ added) number (points.Access Naming) looks
looks_stand_while_awaiting heap before added number point looks stands =
    record { seen = omega (arith, stands.seen, phase_grows before added); found = λ unnamed. absurd (unnamed refl); asks = tt; compares = nothing_compared (points.Access Naming) looks tt }
