-- What an inner call of a collect tells.
use Rattle.std.proofs.Common.{ℕ, ◌≤◌, List, length, inl, inr, arith}
use Rattle.std.proofs.lemmas.Bool.Decides.{eqb_tells}
use Rattle.heap_model.specs.declared.calls.collect.Inner.{Inner}
use Rattle.heap_model.specs.declared.calls.collect.Inner.TheVariants as inners
use Rattle.core_rule.proofs.Terms.{Heap, at}
use Rattle.core_machine.specs.declared.table.address.Address.TheVariants.{Phase}
use Rattle.core_machine.specs.machine.InnerCalls.{inner_entries}

-- it tells one entry at most
pub inner_tells_one_at_most : (heap : Heap) (words : List ℕ) (number answered : ℕ) (inner : Inner) → length (inner_entries heap words number answered inner) ≤ 1
inner_tells_one_at_most heap words number answered inners.Look = omega arith
inner_tells_one_at_most heap words number answered inners.Answer = elim (eqb_tells (at heap words Phase) answered) [
  | inl same ↦ rw same.0 (omega arith)
  | inr apart ↦ rw apart.0 (omega arith)
]
inner_tells_one_at_most heap words number answered (inners.Behind other) = omega arith
inner_tells_one_at_most heap words number answered (inners.Note reply) = omega arith
