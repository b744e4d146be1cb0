-- A heap whose sizes are out of their limits isn't opened, and C is told so.
use Rattle.std.proofs.Common.{◌≡◌, ℕ, List, Option, Result, Err, inr, refl, ap}
use Rattle.heap_model.specs.Heap.{IsHeap}
use Rattle.heap_model.specs.declared.heap.Heap.{Heap}
use Rattle.fodderpause_c.specs.Codes.{answer_code, refusal_code}
use Rattle.fodderpause_c.specs.Opening.{OpensWithin}
use Rattle.fodderpause_c.specs.declared.handle.Handle.{Handle}
use Rattle.fodderpause_c.specs.declared.party.Party.{Party}
use Rattle.fodderpause_c.specs.declared.refusal.Refusal.{Refusal}
use Rattle.fodderpause_c.specs.declared.refusal.Refusal.TheVariants.{OutOfRange}

abbrev refused : Refusal → Result (Unit {0}) Refusal
refused refusal = Err refusal

pub refused_within : (heap : Heap) (collector : Option Party) (seats : List Handle) (refusal : Refusal) (code : ℕ) → refusal ≡ OutOfRange → ¬ IsHeap heap → code ≡ refusal_code refusal
    → (answer : Result (Unit {0}) Refusal) × OpensWithin heap collector collector seats seats answer × (code ≡ answer_code answer)
refused_within heap collector seats refusal code same beyond told = (refused refusal, inr (beyond, ap refused same, (refl, refl)), told)
