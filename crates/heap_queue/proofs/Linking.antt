-- One more node is linked behind the end.
use Rattle.std.proofs.Common.{◌≡◌, ◌≢◌, ℕ, suc, ◌<◌, ◌≤◌, ◌⊎◌, inl, inr, Bool, cond, eqb, List, [], ◌∷◌, ◌++◌, refl, sym, ap, ◌∙◌, subst, arith}
use Rattle.std.proofs.lemmas.Bool.{cases_lt}
use Rattle.std.proofs.lemmas.Bool.Decides.{eqb_tells}
use Rattle.heap_model.specs.declared.id.Id.{Id}
use Rattle.heap_model.specs.declared.id.Id.TheVariants.{Board, Made}
use Rattle.heap_model.specs.declared.id.Value.{Value}
use Rattle.heap_model.specs.declared.id.Value.TheVariants.{Object}
use Rattle.heap_queue.specs.Effects.{Places}
use Rattle.heap_queue.specs.Laws.{IsStampOf}
use Rattle.heap_queue.specs.Places.{PutSwings}
use Rattle.heap_queue.proofs.Views.{View, same_value, Writes}
use Rattle.heap_queue.proofs.Chains.{Chain, end, value_at, next_at, values_behind, IsNode, IsSwinging, Linked, HasOwn, HasValued, Matches, Stands}
use Rattle.heap_queue.proofs.Others.{Later}
use Rattle.heap_queue.proofs.Moves.{Before, values_same, values_grow, node_stays, node_is_no_board, stand}

-- the chain with one more node at its end
abbrev pub longer : Chain → Id → Chain
longer chain id = record { node = λ j. cond (eqb j (suc (end chain))) id (chain.node j); first = chain.first; last = chain.last; queued = suc chain.queued }

longer_before : (chain : Chain) (id : Id) (j : ℕ) → j ≤ end chain → (longer chain id).node j ≡ chain.node j
longer_before chain id j within = elim (eqb_tells j (suc (end chain))) as (λ _. cond (eqb j (suc (end chain))) id (chain.node j) ≡ chain.node j) [
  | inl same ↦ let e = same.1 in absurd (omega arith)
  | inr other ↦ ap (λ (b : Bool). cond b id (chain.node j)) other.0
]

longer_end : (chain : Chain) (id : Id) (j : ℕ) → j ≡ suc (end chain) → (longer chain id).node j ≡ id
longer_end chain id j last = elim (eqb_tells j (suc (end chain))) as (λ _. cond (eqb j (suc (end chain))) id (chain.node j) ≡ id) [
  | inl same ↦ ap (λ (b : Bool). cond b id (chain.node j)) same.0
  | inr other ↦ absurd (other.1 last)
]

-- what holds of each node before, and of the new one, holds of each node then
of_longer : (chain : Chain) (id : Id) (P : ℕ → Id → Type 0) → ((j : ℕ) → j ≤ end chain → P j (chain.node j)) → ((j : ℕ) → j ≡ suc (end chain) → P j id) → (j : ℕ) → j ≤ suc (end chain) → P j ((longer chain id).node j)
of_longer chain id P old added j within = elim (cases_lt (end chain) j) as (λ _. P j ((longer chain id).node j)) [
  | inl past ↦ let e : j ≡ suc (end chain) = omega arith in subst (P j) (sym (longer_end chain id j e)) (added j e)
  | inr not ↦ let b : j ≤ end chain = omega arith in subst (P j) (sym (longer_before chain id j b)) (old j b)
]

module _ (seats s : ℕ) (old new : View) (place next : Places) (queue : List Value) (chain : Chain) (before : Before seats s old place next queue chain)
    (v n : ℕ) (valued : HasValued old chain s v n) (writes : Writes s (chain.node (end chain)) 1 (Object (Made s n)) old new) where
  abbrev now : Chain
  now = longer chain (Made s n)

  linked : Linked seats place old chain queue
  linked = before.linked

  own : HasOwn old chain s n
  own = valued.own

  end_is_no_board : Board ≢ chain.node (end chain)
  end_is_no_board same = node_is_no_board old (chain.node (end chain)) (linked.nodes (end chain) (omega arith)) (sym same)

  later : Later s old new chain now
  later = record {
    registers = λ t r other. writes.registers t r;
    made = λ t. let e = writes.made t in omega arith;
    sizes = λ t m born. writes.sizes (Made t m);
    nodes = λ j within. longer_before chain (Made s n) j within;
    first = omega arith;
    last = omega arith;
    ends = omega arith;
    value = λ j within. writes.other_cells (chain.node j) 0 (omega arith);
    next = λ j within. elim (cases_lt j (end chain)) as (λ _. (next_at new chain j ≡ next_at old chain j) ⊎ IsStampOf s (next_at new chain j).stamp) [
      | inl lower ↦ inl (writes.other_objects (chain.node j) 1 (linked.apart j (end chain) lower (omega arith)))
      | inr not ↦ let e : j ≡ end chain = omega arith in inr (subst (λ (x : ℕ). IsStampOf s (next_at new chain x).stamp) (sym e) writes.stamp)
    ];
    own = λ t m i other born unlinked. writes.other_objects (Made t m) i (λ same. unlinked (end chain) (omega arith) (sym same));
    unlinked = λ t m other born unlinked j within. of_longer chain (Made s n) (λ _ x. x ≢ Made t m) (λ i below. unlinked i below) (λ i last same. let e : s ≡ t = cc in other (sym e)) j (omega arith);
    field_0 = inl (writes.other_objects Board 0 end_is_no_board);
    field_1 = inl (writes.other_objects Board 1 end_is_no_board);
  }

  module _ (full : chain.last ≡ end chain) (goes : next s ≡ PutSwings v) (holds : (old.register s 14).value ≡ Object (chain.node (end chain))) where
    last_node : now.node now.last ≡ chain.node (end chain)
    last_node = longer_before chain (Made s n) chain.last linked.last_within ∙ ap chain.node full

    new_value : value_at new now (suc (end chain)) ≡ (old.register s v).value
    new_value = ap (λ (x : Id). (new.cell x 0).value) (longer_end chain (Made s n) (suc (end chain)) refl) ∙ same_value (writes.other_cells (Made s n) 0 (omega arith)) ∙ valued.value

    old_values : values_behind (value_at old chain) chain.first chain.queued ≡ values_behind (value_at new now) chain.first chain.queued
    old_values = values_same (value_at old chain) (value_at new now) chain.first chain.queued
        (λ j above within. sym (ap (λ (x : Id). (new.cell x 0).value) (longer_before chain (Made s n) j within) ∙ same_value (writes.other_cells (chain.node j) 0 (omega arith))))

    after : Linked seats next new now (queue ++ (old.register s v).value ∷ [])
    after = let passed = linked.first_passed in record {
      board = let b = linked.board in let e = writes.sizes Board in omega arith;
      field_0 = same_value (writes.other_objects Board 0 end_is_no_board) ∙ linked.field_0 ∙ ap Object (sym (longer_before chain (Made s n) chain.first (omega arith)));
      field_1 = same_value (writes.other_objects Board 1 end_is_no_board) ∙ linked.field_1 ∙ ap Object (sym (longer_before chain (Made s n) chain.last linked.last_within));
      first_passed = passed;
      last_within = omega arith;
      last_near = omega arith;
      nodes = λ j within. of_longer chain (Made s n) (λ _ x. IsNode new x) (λ i below. node_stays s old new chain now (chain.node i) later (linked.nodes i below))
          (λ i last. record { maker = s; count = n; is = refl; born = let e = writes.made s in let b = own.born in omega arith; two = writes.sizes (Made s n) ∙ own.two }) j (omega arith);
      apart = λ i j lower within. subst (λ (x : Id). x ≢ now.node j) (sym (longer_before chain (Made s n) i (omega arith)))
          (of_longer chain (Made s n) (λ x y. i < x → chain.node i ≢ y) (λ x below above. linked.apart i x above below) (λ x last above. own.unlinked i (omega arith)) j (omega arith) lower);
      nexts = λ j within. elim (cases_lt j (end chain)) as (λ _. (next_at new now j).value ≡ Object (now.node (suc j))) [
        | inl lower ↦ ap (λ (x : Id). (new.cell x 1).value) (longer_before chain (Made s n) j (omega arith))
            ∙ same_value (writes.other_objects (chain.node j) 1 (linked.apart j (end chain) lower (omega arith))) ∙ linked.nexts j lower
            ∙ ap Object (sym (longer_before chain (Made s n) (suc j) (omega arith)))
        | inr not ↦ let e : j ≡ end chain = omega arith in
            ap (λ (x : Id). (new.cell x 1).value) (longer_before chain (Made s n) j (omega arith) ∙ ap chain.node e) ∙ writes.here ∙ ap Object (sym (longer_end chain (Made s n) (suc j) (omega arith)))
      ];
      open_end = ap (λ (x : Id). new.cell x 1) (longer_end chain (Made s n) (end now) (omega arith)) ∙ writes.other_objects (Made s n) 1 (λ same. own.unlinked (end chain) (omega arith) (sym same)) ∙ own.alone;
      helper = λ short. record {
        seat = s;
        there = before.there;
        swings = swinging;
        holds = same_value (writes.registers s 14) ∙ holds ∙ ap Object (sym last_node);
        stamp = subst (λ (x : Id). IsStampOf s (new.cell x 1).stamp) (sym last_node) writes.stamp;
      };
      values = ap (λ (vs : List Value). vs ++ (old.register s v).value ∷ []) (linked.values ∙ old_values) ∙ ap (λ (x : Value). values_behind (value_at new now) chain.first chain.queued ++ x ∷ []) (sym new_value)
          ∙ sym (values_grow (value_at new now) chain.first chain.queued);
    }
      where
        swinging : IsSwinging (next s)
        swinging = subst IsSwinging (sym goes) tt

    -- the queue has the put's value behind the others, and the seat is about to move field 1 on
    pub node_linked : Matches old s → Stands seats next new (queue ++ (old.register s v).value ∷ [])
    node_linked matches =
        let board : new.cell Board 1 ≡ old.cell Board 1 = writes.other_objects Board 1 end_is_no_board in
        stand seats s old new place next queue chain before (PutSwings v) now (queue ++ (old.register s v).value ∷ []) goes later after (
          end chain,
          same_value (writes.registers s 14) ∙ holds ∙ ap Object (sym (longer_before chain (Made s n) (end chain) (omega arith))),
          omega arith,
          record { holds = same_value (writes.registers s 15) ∙ own.holds ∙ ap Object (sym (longer_end chain (Made s n) (suc (end chain)) refl)); within = omega arith },
          (λ equal. board ∙ matches (same_value (sym board) ∙ equal ∙ same_value (writes.registers s 14)) ∙ sym (writes.registers s 14)),
        )
