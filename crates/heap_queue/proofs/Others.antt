-- What the other seats rely on while one seat goes on, and that what they know stays true by it.
use Rattle.std.proofs.Common.{◌≡◌, ◌≢◌, ℕ, suc, ◌<◌, ◌≤◌, ◌⊎◌, inl, inr, sym, ap, ◌∙◌, subst, arith}
use Rattle.heap_model.specs.declared.graph.cell.Cell.{Cell}
use Rattle.heap_model.specs.declared.id.Id.{Id}
use Rattle.heap_model.specs.declared.id.Id.TheVariants.{Board, Made}
use Rattle.heap_model.specs.declared.id.Value.TheVariants.{Object}
use Rattle.heap_model.specs.graph.Graph.{unset}
use Rattle.heap_queue.specs.Laws.{IsStampOf, IsForeign}
use Rattle.heap_queue.specs.Places.{Place, MakesNode, SetsFirst, SetsLast, Waits, Rests, Gone, PutValue, PutLast, PutNext, PutHelps, PutLinks, PutSwings, TakeLast, TakeNext, TakeSame, TakeHelps, TakeValue, TakeUnlinks, TakeCopies}
use Rattle.heap_queue.proofs.Views.{View, same_value}
use Rattle.heap_queue.proofs.Chains.{Chain, end, next_at, HasOwn, HasValued, SawLast, SawFirst, HasNext, Matches, PutSaw, TakeSaw, At}

-- the object of this id is no node of the chain
abbrev pub IsUnlinked : Chain → Id → Type 0
IsUnlinked chain id = (j : ℕ) → j ≤ end chain → chain.node j ≢ id

-- what an entry of seat s keeps for all others
pub record Later (s : ℕ) (old new : View) (before now : Chain) : Type 0 where
  pub registers : (t r : ℕ) → t ≢ s → new.register t r ≡ old.register t r
  pub made : (t : ℕ) → old.made t ≤ new.made t
  pub sizes : (t n : ℕ) → n < old.made t → new.size (Made t n) ≡ old.size (Made t n)
  pub nodes : (j : ℕ) → j ≤ end before → now.node j ≡ before.node j
  pub first : before.first ≤ now.first
  pub last : before.last ≤ now.last
  pub ends : end before ≤ end now
  pub value : (j : ℕ) → j ≤ end before → new.cell (before.node j) 0 ≡ old.cell (before.node j) 0
  pub next : (j : ℕ) → j ≤ end before → (new.cell (before.node j) 1 ≡ old.cell (before.node j) 1) ⊎ IsStampOf s (new.cell (before.node j) 1).stamp
  pub own : (t n i : ℕ) → t ≢ s → n < old.made t → IsUnlinked before (Made t n) → new.cell (Made t n) i ≡ old.cell (Made t n) i
  pub unlinked : (t n : ℕ) → t ≢ s → n < old.made t → IsUnlinked before (Made t n) → IsUnlinked now (Made t n)
  pub field_0 : (new.cell Board 0 ≡ old.cell Board 0) ⊎ IsStampOf s (new.cell Board 0).stamp
  pub field_1 : (new.cell Board 1 ≡ old.cell Board 1) ⊎ (((new.cell Board 1).value ≡ Object (now.node now.last)) × (before.last < now.last))

-- before and after it the chain is one: its first and last nodes are among its nodes, which are apart
pub record Fits (s seats : ℕ) (before now : Chain) : Type 0 where
  pub there : s < seats
  pub first_within : before.first ≤ end before
  pub last_within : before.last ≤ end before
  pub now_within : now.last ≤ end now
  pub apart : (i j : ℕ) → i < j → j ≤ end now → now.node i ≢ now.node j

module _ (seats s : ℕ) (old new : View) (before now : Chain) (fits : Fits s seats before now) (later : Later s old new before now) (t : ℕ) (other : t ≢ s) where
  -- a stamp of that seat is foreign to this one
  by_other : (stamp : ℕ) → IsStampOf s stamp → IsForeign seats t stamp
  by_other stamp is = (s, (λ same. other (sym same)), fits.there, is)

  own_stays : (n : ℕ) → HasOwn old before t n → HasOwn new now t n
  own_stays n own = record {
    holds = same_value (later.registers t 15 other) ∙ own.holds;
    born = let more = later.made t in let b = own.born in omega arith;
    two = later.sizes t n own.born ∙ own.two;
    alone = later.own t n 1 other own.born own.unlinked ∙ own.alone;
    unlinked = later.unlinked t n other own.born own.unlinked;
  }

  valued_stays : (v n : ℕ) → HasValued old before t v n → HasValued new now t v n
  valued_stays v n valued = record {
    own = own_stays n valued.own;
    free = valued.free;
    value = same_value (later.own t n 0 other valued.own.born valued.own.unlinked) ∙ valued.value ∙ same_value (sym (later.registers t v other));
  }

  abbrev IsOpenOrForeign : Cell → Type 0
  IsOpenOrForeign cell = (cell ≡ unset) ⊎ IsForeign seats t cell.stamp

  next_foreign : (i : ℕ) → i ≤ end before → IsOpenOrForeign (next_at old before i) → IsOpenOrForeign (next_at new now i)
  next_foreign i within was = subst (λ (x : Id). IsOpenOrForeign (new.cell x 1)) (sym (later.nodes i within)) (elim (later.next i within) as (λ _. IsOpenOrForeign (new.cell (before.node i) 1)) [
    | inl same ↦ subst IsOpenOrForeign (sym same) was
    | inr by ↦ inr (by_other (new.cell (before.node i) 1).stamp by)
  ])

  last_stays : (r i : ℕ) → SawLast seats old before t r i → SawLast seats new now t r i
  last_stays r i saw = let p = saw.passed in let l = later.last in let w = fits.last_within in record {
    holds = same_value (later.registers t r other) ∙ saw.holds ∙ ap Object (sym (later.nodes i (omega arith)));
    passed = omega arith;
    foreign = next_foreign i (omega arith) saw.foreign;
  }

  next_stays : (r i : ℕ) → HasNext old before t r i → HasNext new now t r i
  next_stays r i has = let w = has.within in let e = later.ends in record {
    holds = same_value (later.registers t r other) ∙ has.holds ∙ ap Object (sym (later.nodes (suc i) has.within));
    within = omega arith;
  }

  first_stays : (i : ℕ) → SawFirst seats old before t i → SawFirst seats new now t i
  first_stays i saw = let p = saw.passed in let l = later.first in let w = fits.first_within in record {
    holds = same_value (later.registers t 14 other) ∙ saw.holds ∙ ap Object (sym (later.nodes i (omega arith)));
    passed = omega arith;
    foreign = elim later.field_0 as (λ _. (new.cell Board 0 ≡ new.register t 14) ⊎ IsForeign seats t (new.cell Board 0).stamp) [
      | inl same ↦ elim saw.foreign as (λ _. (new.cell Board 0 ≡ new.register t 14) ⊎ IsForeign seats t (new.cell Board 0).stamp) [
        | inl held ↦ inl (same ∙ held ∙ sym (later.registers t 14 other))
        | inr foreign ↦ inr (subst (λ (c : Cell). IsForeign seats t c.stamp) (sym same) foreign)
      ]
      | inr by ↦ inr (by_other (new.cell Board 0).stamp by)
    ];
  }

  matches_stay : (i : ℕ) → (old.register t 14).value ≡ Object (before.node i) → i ≤ before.last → Matches old t → Matches new t
  matches_stay i holds passed matches equal = elim later.field_1 as (λ _. new.cell Board 1 ≡ new.register t 14) [
    | inl same ↦ same ∙ matches (same_value (sym same) ∙ equal ∙ same_value (later.registers t 14 other)) ∙ sym (later.registers t 14 other)
    | inr moved ↦
        let up = moved.1 in let w = fits.last_within in
        let held : Object (before.node i) ≡ Object (now.node now.last) = sym holds ∙ same_value (sym (later.registers t 14 other)) ∙ sym equal ∙ moved.0 in
        let ids : before.node i ≡ now.node now.last = cc in
        absurd (fits.apart i now.last (omega arith) fits.now_within (later.nodes i (omega arith) ∙ ids))
  ]

  put_stays : (v : ℕ) → PutSaw seats old before t v → PutSaw seats new now t v
  put_stays v put = record {
    n = put.n;
    valued = valued_stays v put.n put.valued;
    i = put.i;
    saw = last_stays 14 put.i put.saw;
    matches = matches_stay put.i put.saw.holds put.saw.passed put.matches;
  }

  take_stays : (i : ℕ) → TakeSaw seats old before t i → TakeSaw seats new now t i
  take_stays i take = let l = later.last in let p = take.passed in
      record { saw = first_stays i take.saw; last = take.last; before = take.before; passed = omega arith; next = next_stays 12 i take.next }

  -- another seat stands as it stood
  pub at_stays : (place : Place) → At seats old before t place → At seats new now t place
  at_stays MakesNode at = absurd at
  at_stays SetsFirst at = absurd at
  at_stays SetsLast at = absurd at
  at_stays Waits at = tt
  at_stays Rests at = tt
  at_stays Gone at = tt
  at_stays PutValue (n, own) = (n, own_stays n own)
  at_stays (PutLast v) (n, valued) = (n, valued_stays v n valued)
  at_stays (PutNext v) put = put_stays v put
  at_stays (PutHelps v stamp) (i, saw, next, foreign) = (i, last_stays 14 i saw, next_stays 13 i next, foreign)
  at_stays (PutLinks v) (put, nil) = (put_stays v put, later.registers t 13 other ∙ nil)
  at_stays (PutSwings v) (i, holds, passed, next, matches) = let l = later.last in let w = fits.last_within in
      (i, same_value (later.registers t 14 other) ∙ holds ∙ ap Object (sym (later.nodes i (omega arith))), omega arith, next_stays 15 i next, matches_stay i holds passed matches)
  at_stays TakeLast (i, saw) = (i, first_stays i saw)
  at_stays TakeNext (i, j, saw, last, order) = (i, j, first_stays i saw, last_stays 13 j last, order)
  at_stays (TakeSame stamp) (i, j, saw, last, order, next, foreign) = (i, j, first_stays i saw, last_stays 13 j last, order, next_stays 12 i next, foreign)
  at_stays (TakeHelps stamp) (j, last, next, foreign) = (j, last_stays 13 j last, next_stays 12 j next, foreign)
  at_stays TakeValue (i, take) = (i, take_stays i take)
  at_stays TakeUnlinks (i, take, value) = (
    i,
    take_stays i take,
    same_value (later.registers t 11 other) ∙ value
        ∙ sym (ap (λ (x : Id). (new.cell x 0).value) (later.nodes (suc i) take.next.within) ∙ same_value (later.value (suc i) take.next.within)),
  )
  at_stays TakeCopies at = tt
