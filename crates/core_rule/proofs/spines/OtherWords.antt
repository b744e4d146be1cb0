-- The spine words, the budget and the place of the next spine stay at a step on another word.
use Rattle.std.proofs.Common.{◌≡◌, ◌≢◌, ℕ, ◌+◌, ◌*◌, ◌<◌, List, refl, sym, arith}
use Rattle.core_rule.proofs.Terms.{Heap, index_of, at, put}
use Rattle.core_machine.specs.declared.table.address.Address.{Address}
use Rattle.core_machine.specs.declared.table.address.Address.TheVariants as addresses
use Rattle.core_rule.proofs.words.Addresses.{at-put_apart, SameSpines, same_spines_elsewhere}

-- each spine word and the spot are as before
pub record LeavesPlaces (heap : Heap) (words now : List ℕ) : Type 0 where
  pub spines : SameSpines heap words now
  pub spot : at heap now addresses.Spot ≡ at heap words addresses.Spot

-- and so is the budget
pub record LeavesSpines (heap : Heap) (words now : List ℕ) : Type 0 where
  pub spines : SameSpines heap words now
  pub spot : at heap now addresses.Spot ≡ at heap words addresses.Spot
  pub budget : at heap now addresses.Budget ≡ at heap words addresses.Budget

pub leaves_places_of_spines : (heap : Heap) (words now : List ℕ) → LeavesSpines heap words now → LeavesPlaces heap words now
leaves_places_of_spines heap words now leaves = record { spines = leaves.spines; spot = leaves.spot }

-- so they are where no word changes
pub leaves_spines_of_itself : (heap : Heap) (words : List ℕ) → LeavesSpines heap words words
leaves_spines_of_itself heap words = record { spines = λ half offset. refl; spot = refl; budget = refl }

module _ (heap : Heap) (words : List ℕ) (n : ℕ) where
  left_elsewhere : (a : Address) → index_of heap a < 19 + 65 * heap.groups → index_of heap a ≢ 17 → index_of heap a ≢ 18 → LeavesSpines heap words (put heap words a n)
  left_elsewhere a before no_budget no_spot = record {
    spines = same_spines_elsewhere heap words n a before;
    spot = at-put_apart heap words a addresses.Spot n (λ e. no_spot (sym e));
    budget = at-put_apart heap words a addresses.Budget n (λ e. no_budget (sym e));
  }

  -- a control word, a fragment's word, the phase or an answer changes
  pub leaves_spines_after_control : (g : ℕ) → g < heap.groups → LeavesSpines heap words (put heap words (addresses.Control g) n)
  leaves_spines_after_control g below = left_elsewhere (addresses.Control g) (omega (arith, below)) (λ e. omega (arith, e)) (λ e. omega (arith, e))

  pub leaves_spines_after_word : (f part : ℕ) → f < 16 * heap.groups → part < 4 → LeavesSpines heap words (put heap words (addresses.Word f part) n)
  leaves_spines_after_word f part below within = left_elsewhere (addresses.Word f part) (omega (arith, below, within)) (λ e. omega (arith, e)) (λ e. omega (arith, e))

  pub leaves_spines_after_phase : LeavesSpines heap words (put heap words addresses.Phase n)
  leaves_spines_after_phase = left_elsewhere addresses.Phase (omega arith) (λ e. omega (arith, e)) (λ e. omega (arith, e))

  -- the budget changes
  pub leaves_places_after_budget : LeavesPlaces heap words (put heap words addresses.Budget n)
  leaves_places_after_budget = record {
    spines = same_spines_elsewhere heap words n addresses.Budget (omega arith);
    spot = at-put_apart heap words addresses.Budget addresses.Spot n (λ e. omega (arith, e));
  }

  pub leaves_spines_after_answer : (r : ℕ) → r < 16 → LeavesSpines heap words (put heap words (addresses.Answer r) n)
  leaves_spines_after_answer r below = left_elsewhere (addresses.Answer r) (omega (arith, below)) (λ e. omega (arith, e, below)) (λ e. omega (arith, e, below))
