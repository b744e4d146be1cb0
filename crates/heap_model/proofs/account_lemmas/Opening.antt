-- The account of a heap in which nothing was done yet.
use Rattle.std.proofs.Common.{◌≡◌, ℕ, ◌+◌, ◌<◌, ◌≤◌, List, [], ◌∷◌, ◌++◌, refl, sym, subst, arith, false, None, Contains, replicate}
use Rattle.std.proofs.lemmas.List.{get_or-replicate}
use Rattle.heap_model.specs.declared.heap.Heap.{Heap}
use Rattle.heap_model.specs.declared.entry.Entry.{Entry}
use Rattle.heap_model.specs.declared.entry.Entry.TheVariants as entries
use Rattle.heap_model.specs.declared.account.seat.SeatAccount.{SeatAccount}
use Rattle.heap_model.specs.declared.account.cycle.Cycle.{Cycle}
use Rattle.heap_model.specs.Heap.{IsHeap}
use Rattle.heap_model.specs.graph.Objects.{made_counts}
use Rattle.heap_model.specs.graph.Graph.{opening}
use Rattle.heap_model.specs.account.Effects.{no_effect}
use Rattle.heap_model.specs.account.Phases.{WasBehind}
use Rattle.heap_model.specs.account.PhaseCounts.{phase}
use Rattle.heap_model.specs.account.Books.{Tells}
use Rattle.heap_model.specs.account.SeatBooks.{account_at, no_seat, IsFrom, first_behind, last_phase, TellsSeat}

-- a seat that did nothing yet
abbrev pub opening_seat : SeatAccount
opening_seat = record { own = no_effect; own_then = no_effect; all_then = no_effect; behind_then = replicate 16 false; left = None }

no_element : {A : Type 0} (x : A) → Contains [] x → ⊥
no_element x h = omega (arith, h.1)

never_behind : (number other answer : ℕ) → WasBehind number other answer (answer + 1) [] → ⊥
never_behind number other answer w = absurd (later w.0 w.1 w.2 w.3.here)
  where
    later : (xs ys : List Entry) → [] ≡ xs ++ ys → phase xs ≡ answer + 1 → ⊥
    later [] ys e here = omega (arith, here)
    later (x ∷ xs) ys e here = cc e

opening_tells : (heap : Heap) (seats : List SeatAccount) (number : ℕ) → heap.seats ≤ 16 → ((q : ℕ) → q < 16 → account_at seats q ≡ opening_seat) → number < heap.seats → TellsSeat heap no_effect seats number opening_seat []
opening_tells heap seats number few all lt = record {
  own = record { taken = refl; given = refl; born = refl; freed = refl; words = refl; returned = refl; phases = refl; answers = refl };
  own_then = record { taken = refl; given = refl; born = refl; freed = refl; words = refl; returned = refl; phases = refl; answers = refl };
  all_then = record { taken = refl; given = refl; born = refl; freed = refl; words = refl; returned = refl; phases = refl; answers = refl };
  since = record { freed = refl; returned = refl; given = refl; taken = refl; words = refl };
  left = refl;
  solvent = omega arith;
  richer = omega arith;
  earlier = omega arith;
  kept_up = λ there. omega arith;
  gone = omega arith;
  began = λ p. (λ h. absurd (no_element (entries.Advance p) h), λ h. absurd (omega (arith, h.0, h.1)));
  behind = λ other answer below ne. (λ w. absurd (never_behind number other answer w), λ f. absurd (not_yet other answer (omega (arith, below, few)) f));
}
  where
    not_yet : (other answer : ℕ) → other < 16 → IsFrom (first_behind opening_seat other) (last_phase (account_at seats other) 0) (answer + 1) → ⊥
    not_yet other answer below f =
        let g = subst (λ (x : SeatAccount). answer + 1 ≤ last_phase x 0) (all other below) f.1 in
        omega (arith, g)

-- nothing is told
pub opening_tells_empty_history : (heap : Heap) (cycle : Cycle) (made : List ℕ) → IsHeap heap → made ≡ made_counts (opening heap)
    → Tells (record { heap = heap; entries = 0; all = no_effect; seats = replicate 16 opening_seat; cycle = cycle; swung = []; ended = None; made = made }) []
opening_tells_empty_history heap cycle made fits none = record {
  entries = refl;
  all = record { taken = refl; given = refl; born = refl; freed = refl; words = refl; returned = refl; phases = refl; answers = refl };
  seats = λ number lt. let each : (other : ℕ) → other < 16 → account_at (replicate 16 opening_seat) other ≡ opening_seat = λ other below. get_or-replicate 16 other opening_seat no_seat below in
      subst (λ x. TellsSeat heap no_effect (replicate 16 opening_seat) number x []) (sym (each number (omega (arith, lt, fits.seats_fit)))) (opening_tells heap (replicate 16 opening_seat) number fits.seats_fit each lt);
  ended = λ c. (λ h. absurd (no_element (entries.Ends c h.0) h.1), λ h. absurd (omega (arith, h)));
  just_ended = λ c. (λ h. absurd (empty h.0 (entries.Ends c h.1) h.2), λ h. cc h);
  swung = λ id. (λ h. absurd (no_element (entries.Swings id) h), λ h. absurd (no_element id h));
  cycle = λ some. absurd (omega (arith, some));
  made = none;
}
  where
    empty : (xs : List Entry) (x : Entry) → [] ≡ xs ++ x ∷ [] → ⊥
    empty [] x e = cc e
    empty (y ∷ xs) x e = cc e
