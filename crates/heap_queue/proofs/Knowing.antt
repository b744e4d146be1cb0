-- What a seat knows stays true by an entry that changes others of its registers.
use Rattle.std.proofs.Common.{◌≡◌, ℕ, ◌⊎◌, inl, inr, sym, ◌∙◌, subst, arith}
use Rattle.heap_model.specs.declared.graph.cell.Cell.{Cell}
use Rattle.heap_model.specs.declared.id.Id.TheVariants.{Board, Made}
use Rattle.heap_model.specs.graph.Graph.{unset}
use Rattle.heap_queue.specs.Laws.{IsForeign}
use Rattle.heap_queue.proofs.Views.{View, same_value, OnlyRegisters}
use Rattle.heap_queue.proofs.Chains.{Chain, HasOwn, HasValued, SawFirst, SawLast, HasNext, Matches}

own_kept : (old new : View) (chain : Chain) (s n : ℕ) → OnlyRegisters s old new → new.register s 15 ≡ old.register s 15 → HasOwn old chain s n → HasOwn new chain s n
own_kept old new chain s n only same own = record {
  holds = same_value same ∙ own.holds;
  born = let e = only.made s in let b = own.born in omega arith;
  two = only.sizes (Made s n) ∙ own.two;
  alone = only.cells (Made s n) 1 ∙ own.alone;
  unlinked = own.unlinked;
}

pub valued_kept : (old new : View) (chain : Chain) (s v n : ℕ) → OnlyRegisters s old new → new.register s 15 ≡ old.register s 15 → new.register s v ≡ old.register s v → HasValued old chain s v n → HasValued new chain s v n
valued_kept old new chain s v n only same value_same valued = record {
  own = own_kept old new chain s n only same valued.own;
  free = valued.free;
  value = same_value (only.cells (Made s n) 0) ∙ valued.value ∙ same_value (sym value_same);
}

pub saw_kept : (seats : ℕ) (old new : View) (chain : Chain) (s r i : ℕ) → OnlyRegisters s old new → new.register s r ≡ old.register s r → SawLast seats old chain s r i → SawLast seats new chain s r i
saw_kept seats old new chain s r i only same saw = record {
  holds = same_value same ∙ saw.holds;
  passed = saw.passed;
  foreign = subst (λ (c : Cell). (c ≡ unset) ⊎ IsForeign seats s c.stamp) (sym (only.cells (chain.node i) 1)) saw.foreign;
}

pub matches_kept : (old new : View) (s : ℕ) → OnlyRegisters s old new → new.register s 14 ≡ old.register s 14 → Matches old s → Matches new s
matches_kept old new s only same matches equal = only.cells Board 1 ∙ matches (same_value (sym (only.cells Board 1)) ∙ equal ∙ same_value same) ∙ sym same

pub first_kept : (seats : ℕ) (old new : View) (chain : Chain) (s i : ℕ) → OnlyRegisters s old new → new.register s 14 ≡ old.register s 14 → SawFirst seats old chain s i → SawFirst seats new chain s i
first_kept seats old new chain s i only same saw = record {
  holds = same_value same ∙ saw.holds;
  passed = saw.passed;
  foreign = elim saw.foreign as (λ _. (new.cell Board 0 ≡ new.register s 14) ⊎ IsForeign seats s (new.cell Board 0).stamp) [
    | inl held ↦ inl (only.cells Board 0 ∙ held ∙ sym same)
    | inr foreign ↦ inr (subst (λ (c : Cell). IsForeign seats s c.stamp) (sym (only.cells Board 0)) foreign)
  ];
}

pub next_kept : (old new : View) (chain : Chain) (s r i : ℕ) → new.register s r ≡ old.register s r → HasNext old chain s r i → HasNext new chain s r i
next_kept old new chain s r i same has = record { holds = same_value same ∙ has.holds; within = has.within }
