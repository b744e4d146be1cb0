-- A walk that has gone over one more entry, and over all.
use Rattle.std.proofs.Common.{◌≡◌, ℕ, ◌<◌, ◌≤◌, inl, inr, max, List, [], ◌∷◌, ◌++◌, get_or, length, sym, ap, ◌∙◌, subst, arith}
use Rattle.std.specs.List.{AllByRecursion, AllZip}
use Rattle.std.proofs.lemmas.Bool.{cases_lt}
use Rattle.std.proofs.lemmas.List.Elements.{All-from_recursion, All-get_or}
use Rattle.heap_model.specs.declared.entry.Entry.{Entry}
use Rattle.heap_model.specs.declared.heap.Heap.{Heap}
use Rattle.heap_model.specs.account.Books.{Tells}
use Rattle.heap_model.specs.account.Cycles.{graph_of}
use Rattle.heap_model.specs.account.Noting.{IsSeatBelow}
use Rattle.heap_model.specs.graph.Graph.{opening}
use Rattle.heap_model.specs.graph.Growth.{after_entry}
use Rattle.heap_model.proofs.Histories.{graph_after-more}
use Rattle.space_plan.specs.declared.planning.walk.Walk.{Walk}
use Rattle.space_plan.specs.plan.Cycles.{IsCyclePlan}
use Rattle.space_plan.specs.plan.Moments.{ends_of}
use Rattle.space_plan.specs.plan.Takes.{IsTaken, IsTakenAtAny, taken_since_end}
use Rattle.space_plan.specs.plan.Totals.{IsGreatest, IsReached}
use Rattle.space_plan.specs.plan.Seats.{SeatFits, space_at}
use Rattle.space_plan.specs.plan.Walking.{BegunTells, EndedTells, LedgerTells, Passed, WalkFits}

-- each part has gone over the entry
pub Passed-more : (old new : Walk) (history : List Entry) (entry : Entry) → Passed old history → new.ledger.heap ≡ old.ledger.heap → new.graph ≡ after_entry old.graph entry → old.account.heap ≡ old.ledger.heap → new.account.heap ≡ old.account.heap
    → (old.graph ≡ graph_of old.account.heap history → Tells new.account (history ++ entry ∷ [])) → LedgerTells old.ledger.heap new.ledger (history ++ entry ∷ [])
    → (BegunTells new.ledger.heap old.begun history → LedgerTells new.ledger.heap new.ledger (history ++ entry ∷ []) → new.account.heap ≡ new.ledger.heap → Tells new.account (history ++ entry ∷ []) → BegunTells new.ledger.heap new.begun (history ++ entry ∷ []))
    → EndedTells old.ledger.heap new.ended (ends_of (history ++ entry ∷ [])) → Passed new (history ++ entry ∷ [])
Passed-more old new history entry passed same grown one still counts ledger begins ended =
    let graph : new.graph ≡ graph_of new.ledger.heap (history ++ entry ∷ [])
    = grown ∙ ap (λ g. after_entry g entry) passed.graph ∙ sym (graph_after-more (opening old.ledger.heap) history entry) ∙ ap (λ (h : Heap). graph_of h (history ++ entry ∷ [])) (sym same) in
    let told : LedgerTells new.ledger.heap new.ledger (history ++ entry ∷ []) = subst (λ h. LedgerTells h new.ledger (history ++ entry ∷ [])) (sym same) ledger in
    let of_heap : new.account.heap ≡ new.ledger.heap = still ∙ one ∙ sym same in
    let account : Tells new.account (history ++ entry ∷ []) = counts (passed.graph ∙ ap (λ (h : Heap). graph_of h history) (sym one)) in
    record {
      graph = graph;
      account = account;
      ledger = told;
      begun = begins (subst (λ h. BegunTells h old.begun history) (sym same) passed.begun) told of_heap account;
      ended = subst (λ h. EndedTells h new.ended (ends_of (history ++ entry ∷ []))) (sym same) ended;
    }

-- each entry has a seat of the heap, if it has one
pub seat_at : (heap other : Heap) → other ≡ heap → (entries : List Entry) → AllByRecursion (IsSeatBelow heap.seats) entries → (i : ℕ) (d : Entry) → i < length entries → IsSeatBelow other.seats (get_or entries i d)
seat_at heap other same entries seats i d within =
    subst (λ (h : Heap). IsSeatBelow h.seats (get_or entries i d)) (sym same) (All-get_or (IsSeatBelow heap.seats) entries i d within (All-from_recursion (IsSeatBelow heap.seats) entries seats))

-- bounds for more entries are wider
SeatFits-wider : (n m : ℕ) (walk : Walk) → n ≤ m → WalkFits n walk → (number : ℕ) → SeatFits m (space_at walk.ledger.seats.spaces number)
SeatFits-wider n m walk wider fits number =
    let seat = fits.ledger.seats number in
    record { taken = omega (arith, wider, seat.taken); spent = omega (arith, wider, seat.spent); taken_then = omega (arith, wider, seat.taken_then); spent_then = omega (arith, wider, seat.spent_then) }

pub WalkFits-wider : (n m : ℕ) (walk : Walk) → n ≤ m → WalkFits n walk → WalkFits m walk
WalkFits-wider n m walk wider fits = record {
  of_heap = fits.of_heap;
  counted = omega (arith, wider, fits.counted);
  ledger = record {
    gained = omega (arith, wider, fits.ledger.gained);
    lost = omega (arith, wider, fits.ledger.lost);
    section = omega (arith, wider, fits.ledger.section);
    seats = SeatFits-wider n m walk wider fits;
  };
  begun = record {
    reach = omega (arith, wider, fits.begun.reach);
    reserves = omega (arith, wider, fits.begun.reserves);
    since = omega (arith, wider, fits.begun.since);
    most_reach = omega (arith, wider, fits.begun.most_reach);
  };
  most_taken = omega (arith, wider, fits.most_taken);
}

-- at the end of a history what was taken since the last end counts as well
pub IsTaken-all : (heap : Heap) (history : List Entry) (n section : ℕ) → section ≡ taken_since_end history → IsGreatest (IsTakenAtAny heap (ends_of history)) n → IsGreatest (IsTaken heap history) (max n section)
IsTaken-all heap history n section is greatest = record {
  holds = elim (cases_lt section n) [
    | inl below ↦ subst (IsTaken heap history) (omega (arith, below)) (above below greatest.holds)
    | inr over ↦ inl (omega (arith, is, over))
  ];
  most = λ other holds. within other holds;
}
  where
    above : section < n → IsTakenAtAny heap (ends_of history) n → IsTaken heap history n
    above below (inl none) = absurd (omega (arith, below, none))
    above below (inr there) = inr there

    within : (other : ℕ) → IsTaken heap history other → other ≤ max n section
    within other (inl here) = omega (arith, here, is)
    within other (inr there) = omega (arith, greatest.most other (inr there))

-- the numbers that a walk over all entries has found
pub record HasFound (heap : Heap) (history : List Entry) (walk : Walk) : Type 0 where
  pub cycles : AllZip (IsCyclePlan heap) (ends_of history) walk.ended.cycles.items
  pub reach : IsGreatest (IsReached heap history) walk.begun.most_reach
  pub takes : IsGreatest (IsTaken heap history) (max walk.ended.most_taken walk.ledger.section)

pub HasFound-passed : (walk : Walk) (heap : Heap) (entries history : List Entry) → walk.ledger.heap ≡ heap → entries ≡ history → Passed walk entries → HasFound heap history walk
HasFound-passed walk heap entries history same is passed =
    let here : HasFound walk.ledger.heap entries walk = record {
      cycles = passed.ended.cycles;
      reach = passed.begun.most_reach;
      takes = IsTaken-all walk.ledger.heap entries walk.ended.most_taken walk.ledger.section passed.ledger.section passed.ended.most_taken;
    } in
    subst (λ es. HasFound heap es walk) is (subst (λ h. HasFound h entries walk) same here)
