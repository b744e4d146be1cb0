-- What an entry of a seat comes to while the queue stands, and what one that leaves the chain alone keeps.
use Rattle.std.proofs.Common.{◌≡◌, ◌≢◌, ℕ, zero, suc, ◌+◌, ◌<◌, ◌≤◌, ◌⊎◌, inl, inr, List, [], ◌∷◌, ◌++◌, refl, sym, ap, ◌∙◌, subst, arith}
use Rattle.std.specs.Option.{IfSome}
use Rattle.std.proofs.lemmas.Bool.{cases_eq, cases_lt}
use Rattle.heap_model.specs.declared.command.Command.{Command}
use Rattle.heap_model.specs.declared.graph.cell.Cell.{Cell}
use Rattle.heap_model.specs.declared.id.Id.{Id}
use Rattle.heap_model.specs.declared.id.Id.TheVariants.{Board, Made}
use Rattle.heap_model.specs.declared.id.Value.{Value}
use Rattle.heap_model.specs.declared.id.Value.TheVariants.{Object}
use Rattle.heap_model.specs.declared.reply.Reply.{Reply}
use Rattle.heap_model.specs.graph.Graph.{unset}
use Rattle.heap_queue.specs.Calls.{Call, ends}
use Rattle.heap_queue.specs.Effects.{Places, effects, Serves}
use Rattle.heap_queue.specs.Laws.{IsStampOf, IsForeign, FindsQueue, ShowsForeign}
use Rattle.heap_queue.specs.Places.{Place}
use Rattle.heap_queue.proofs.Views.{View, same_value, OnlyRegisters, Writes}
use Rattle.heap_queue.proofs.Chains.{Chain, end, value_at, next_at, values_behind, IsNode, IsSwinging, Helper, Linked, At, Stands}
use Rattle.heap_queue.proofs.Others.{IsUnlinked, Later, Fits, at_stays}

-- the call is of a seat that is there, finds the queue, and shows another seat's stamp where it is to be made again
pub record IsSound (seats s : ℕ) (call : Call) : Type 0 where
  pub there : s < seats
  pub finds : FindsQueue call
  pub foreign : ShowsForeign seats s call

-- after an entry the queue has served its effects and stands, and the call that ends with it is sound
pub record Outcome (seats s : ℕ) (old new : View) (next : Places) (queue : List Value) (place : Place) (command : Command) (reply : Reply) : Type 0 where
  pub now : List Value
  pub serves : Serves queue (effects (λ r. (old.register s r).value) place reply) now
  pub stands : Stands seats next new now
  pub sound : IfSome (ends place command reply) (IsSound seats s)

-- what stands before an entry of seat s, where all other seats stay where they are
pub record Before (seats s : ℕ) (old : View) (place next : Places) (queue : List Value) (chain : Chain) : Type 0 where
  pub linked : Linked seats place old chain queue
  pub at : (t : ℕ) → At seats old chain t (place t)
  pub there : s < seats
  pub others : (t : ℕ) → t ≢ s → next t ≡ place t
  pub board : (old.register s 0).value ≡ Object Board

-- nodes of equal values have equal lists of them
pub values_same : (v w : ℕ → Value) (j n : ℕ) → ((i : ℕ) → j < i → i ≤ j + n → v i ≡ w i) → values_behind v j n ≡ values_behind w j n
values_same v w j zero same = refl
values_same v w j (suc n) same =
    let head : v (suc j) ≡ w (suc j) = same (suc j) (omega arith) (omega arith) in
    let tail : values_behind v (suc j) n ≡ values_behind w (suc j) n = values_same v w (suc j) n (λ i above within. same i (omega arith) (omega arith)) in
    cc

-- one more node behind the others
pub values_grow : (v : ℕ → Value) (j n : ℕ) → values_behind v j (suc n) ≡ values_behind v j n ++ v (suc (j + n)) ∷ []
values_grow v j zero = let e : suc (j + 0) ≡ suc j = omega arith in ap (λ (i : ℕ). v i ∷ []) (sym e)
values_grow v j (suc n) =
    let e : suc (suc j + n) ≡ suc (j + suc n) = omega arith in
    ap (λ (vs : List Value). v (suc j) ∷ vs) (values_grow v (suc j) n ∙ ap (λ (i : ℕ). values_behind v (suc j) n ++ v i ∷ []) e)

-- nodes stay nodes
pub node_stays : (s : ℕ) (old new : View) (before now : Chain) (id : Id) → Later s old new before now → IsNode old id → IsNode new id
node_stays s old new before now id later node = record {
  maker = node.maker;
  count = node.count;
  is = node.is;
  born = let more = later.made node.maker in let b = node.born in omega arith;
  two = ap (λ (x : Id). new.size x) node.is ∙ later.sizes node.maker node.count node.born ∙ sym (ap (λ (x : Id). old.size x) node.is) ∙ node.two;
}

-- a node isn't the board, nor an object that is still to be made
pub node_is_no_board : (view : View) (id : Id) → IsNode view id → id ≢ Board
node_is_no_board view id node same = let e : Made node.maker node.count ≡ Board = sym node.is ∙ same in cc

pub made_is_no_board : (t n : ℕ) → Made t n ≢ Board
made_is_no_board t n same = cc

pub born_is_not_next : (view : View) (t n s : ℕ) → n < view.made t → Made t n ≢ Made s (view.made s)
born_is_not_next view t n s born same =
    let e : t ≡ s = cc in let f : n ≡ view.made s = cc in
    let m : view.made t ≡ view.made s = ap view.made e in omega arith

pub node_is_not_next : (view : View) (s : ℕ) (id : Id) → IsNode view id → id ≢ Made s (view.made s)
node_is_not_next view s id node same = born_is_not_next view node.maker node.count s node.born (sym node.is ∙ same)

-- an entry that changes registers of the seat alone
pub later_by_registers : (s : ℕ) (old new : View) (chain : Chain) → OnlyRegisters s old new → Later s old new chain chain
later_by_registers s old new chain only = record {
  registers = only.others;
  made = λ t. let e = only.made t in omega arith;
  sizes = λ t n born. only.sizes (Made t n);
  nodes = λ j within. refl;
  first = omega arith;
  last = omega arith;
  ends = omega arith;
  value = λ j within. only.cells (chain.node j) 0;
  next = λ j within. inl (only.cells (chain.node j) 1);
  own = λ t n i other born unlinked. only.cells (Made t n) i;
  unlinked = λ t n other born unlinked. unlinked;
  field_0 = inl (only.cells Board 0);
  field_1 = inl (only.cells Board 1);
}

-- the nodes are the same, and the first and the last go on among them
pub record KeepsNodes (before now : Chain) : Type 0 where
  pub nodes : (j : ℕ) → now.node j ≡ before.node j
  pub first : before.first ≤ now.first
  pub last : before.last ≤ now.last
  pub ends : end now ≡ end before

-- an entry that writes a cell of an object which is no node, nor made by another seat
pub later_by_write : (s i : ℕ) (value : Value) (id : Id) (old new : View) (before now : Chain) → Writes s id i value old new → IsUnlinked before id → ((t n : ℕ) → t ≢ s → Made t n ≢ id) → KeepsNodes before now
    → (new.cell Board 0 ≡ old.cell Board 0) ⊎ IsStampOf s (new.cell Board 0).stamp → (new.cell Board 1 ≡ old.cell Board 1) ⊎ (((new.cell Board 1).value ≡ Object (now.node now.last)) × (before.last < now.last)) → Later s old new before now
later_by_write s i value id old new before now writes unlinked others keeps field_0 field_1 = record {
  registers = λ t r other. writes.registers t r;
  made = λ t. let e = writes.made t in omega arith;
  sizes = λ t n born. writes.sizes (Made t n);
  nodes = λ j within. keeps.nodes j;
  first = keeps.first;
  last = keeps.last;
  ends = let e = keeps.ends in omega arith;
  value = λ j within. writes.other_objects (before.node j) 0 (unlinked j within);
  next = λ j within. inl (writes.other_objects (before.node j) 1 (unlinked j within));
  own = λ t n k other born away. writes.other_objects (Made t n) k (others t n other);
  unlinked = λ t n other born away j within same. away j (let e = keeps.ends in omega arith) (sym (keeps.nodes j) ∙ same);
  field_0 = field_0;
  field_1 = field_1;
}

module _ (seats s : ℕ) (old new : View) (place next : Places) (queue : List Value) (chain : Chain) (before : Before seats s old place next queue chain) where
  -- each seat stands where it should
  pub stand : (p : Place) (now : Chain) (values : List Value) → next s ≡ p → Later s old new chain now → Linked seats next new now values → At seats new now s p → Stands seats next new values
  stand p now values goes later after here = record {
    chain = now;
    linked = after;
    at = λ t. elim (cases_eq t s) as (λ _. At seats new now t (next t)) [
      | inl same ↦ subst (λ (x : ℕ). At seats new now x (next x)) (sym same) (subst (λ (x : Place). At seats new now s x) (sym goes) here)
      | inr other ↦ subst (λ (x : Place). At seats new now t x) (sym (before.others t other)) (at_stays seats s old new chain now fits later t other (place t) (before.at t))
    ];
  }
    where
      fits : Fits s seats chain now
      fits = let p = before.linked.first_passed in let w = before.linked.last_within in
          record { there = before.there; first_within = omega arith; last_within = omega arith; now_within = after.last_within; apart = after.apart }

  -- the helper is another seat, and still is one
  pub helper_stays : (now : Chain) → Later s old new chain now → (helper : Helper seats place old chain) → helper.seat ≢ s → now.last ≡ chain.last → next_at new chain chain.last ≡ next_at old chain chain.last
      → Helper seats next new now
  helper_stays now later helper other last same =
      let node : now.node now.last ≡ chain.node chain.last = ap now.node last ∙ later.nodes chain.last before.linked.last_within in record {
        seat = helper.seat;
        there = helper.there;
        swings = subst IsSwinging (sym (before.others helper.seat other)) helper.swings;
        holds = same_value (later.registers helper.seat 14 other) ∙ helper.holds ∙ ap Object (sym node);
        stamp = subst (λ (x : Id). IsStampOf helper.seat (new.cell x 1).stamp) (sym node) (subst (λ (c : Cell). IsStampOf helper.seat c.stamp) (sym same) helper.stamp);
      }

  -- a seat that isn't about to move field 1 on is no helper
  pub is_no_helper : (p : Place) → place s ≡ p → ¬ IsSwinging p → (helper : Helper seats place old chain) → helper.seat ≢ s
  is_no_helper p stands still helper same = still (subst IsSwinging (ap place same ∙ stands) helper.swings)

  -- an entry that changes no next of a node and no field of the board
  pub linked_stays : Later s old new chain chain → new.cell Board 0 ≡ old.cell Board 0 → new.cell Board 1 ≡ old.cell Board 1 → new.size Board ≡ old.size Board
      → ((j : ℕ) → j ≤ end chain → next_at new chain j ≡ next_at old chain j) → ((helper : Helper seats place old chain) → helper.seat ≢ s) → Linked seats next new chain queue
  linked_stays later field_0 field_1 size nexts other = record {
    board = let b = before.linked.board in omega arith;
    field_0 = same_value field_0 ∙ before.linked.field_0;
    field_1 = same_value field_1 ∙ before.linked.field_1;
    first_passed = before.linked.first_passed;
    last_within = before.linked.last_within;
    last_near = before.linked.last_near;
    nodes = λ j within. node_stays s old new chain chain (chain.node j) later (before.linked.nodes j within);
    apart = before.linked.apart;
    nexts = λ j within. same_value (nexts j (omega arith)) ∙ before.linked.nexts j within;
    open_end = nexts (end chain) (omega arith) ∙ before.linked.open_end;
    helper = λ short. let helper = before.linked.helper short in helper_stays chain later helper (other helper) refl (nexts chain.last before.linked.last_within);
    values = before.linked.values ∙ values_same (value_at old chain) (value_at new chain) chain.first chain.queued (λ j above within. same_value (sym (later.value j within)));
  }

  -- an entry that changes registers of the seat alone, which is no helper
  pub stand_by_registers : OnlyRegisters s old new → ((helper : Helper seats place old chain) → helper.seat ≢ s) → (q : Place) → next s ≡ q → At seats new chain s q → Stands seats next new queue
  stand_by_registers only other q goes here =
      let later = later_by_registers s old new chain only in
      stand q chain queue goes later (linked_stays later (only.cells Board 0) (only.cells Board 1) (only.sizes Board) (λ j within. only.cells (chain.node j) 1) other) here

  pub quietly : (p q : Place) → place s ≡ p → ¬ IsSwinging p → next s ≡ q → OnlyRegisters s old new → At seats new chain s q → Stands seats next new queue
  quietly p q stands still goes only here = stand_by_registers only (is_no_helper p stands still) q goes here

  -- nodes that are equal have one number
  pub same_number : (i j : ℕ) → i ≤ j → j ≤ end chain → chain.node i ≡ chain.node j → i ≡ j
  same_number i j order within same = elim (cases_lt i j) as (λ _. i ≡ j) [
    | inl lower ↦ absurd (before.linked.apart i j lower within same)
    | inr not ↦ omega arith
  ]

  -- two registers or fields that hold nodes of equal values
  pub same_position : (a b : Value) (i j : ℕ) → a ≡ Object (chain.node i) → b ≡ Object (chain.node j) → a ≡ b → i ≤ j → j ≤ end chain → i ≡ j
  same_position a b i j a_is b_is same order within = same_number i j order within (let e : Object (chain.node i) ≡ Object (chain.node j) = sym a_is ∙ same ∙ b_is in cc)

  -- a node has a next one, or is the end
  pub next_cases : (i : ℕ) → i ≤ end chain → ((i < end chain) × ((next_at old chain i).value ≡ Object (chain.node (suc i)))) ⊎ ((i ≡ end chain) × (next_at old chain i ≡ unset))
  next_cases i within = elim (cases_lt i (end chain)) as (λ _. ((i < end chain) × ((next_at old chain i).value ≡ Object (chain.node (suc i)))) ⊎ ((i ≡ end chain) × (next_at old chain i ≡ unset))) [
    | inl lower ↦ inl (lower, before.linked.nexts i lower)
    | inr not ↦ let e : i ≡ end chain = omega arith in inr (e, ap (next_at old chain) e ∙ before.linked.open_end)
  ]

  -- whoever linked behind the node of field 1 is another seat than one that isn't about to move that field on
  pub last_foreign : (p : Place) → place s ≡ p → ¬ IsSwinging p → (next_at old chain chain.last ≡ unset) ⊎ IsForeign seats s (next_at old chain chain.last).stamp
  last_foreign p stands still = elim (cases_lt chain.last (end chain)) as (λ _. (next_at old chain chain.last ≡ unset) ⊎ IsForeign seats s (next_at old chain chain.last).stamp) [
    | inl short ↦ let helper = before.linked.helper short in inr (helper.seat, is_no_helper p stands still helper, helper.there, helper.stamp)
    | inr full ↦ let w = before.linked.last_within in let e : chain.last ≡ end chain = omega arith in inl (ap (next_at old chain) e ∙ before.linked.open_end)
  ]

  -- field 1 moves on from node i, which register a saw in it, to the next one, which register v holds
  pub swung : (i a v : ℕ) → (old.register s a).value ≡ Object (chain.node i) → i ≤ chain.last → (old.register s v).value ≡ Object (chain.node (suc i)) → suc i ≤ end chain → old.cell Board 1 ≡ old.register s a
      → Writes s Board 1 (old.register s v).value old new → (q : Place) → next s ≡ q → ((now : Chain) → At seats new now s q) → Stands seats next new queue
  swung i a v holds passed next_holds within same writes q goes here =
      let position : i ≡ chain.last = same_position (old.register s a).value (old.cell Board 1).value i chain.last holds before.linked.field_1 (sym (same_value same)) passed before.linked.last_within in
      let now : Chain = record chain { last = suc chain.last } in
      let field : (new.cell Board 1).value ≡ Object (chain.node (suc chain.last)) = writes.here ∙ next_holds ∙ ap (λ (j : ℕ). Object (chain.node (suc j))) position in
      let unlinked : IsUnlinked chain Board = λ j below. node_is_no_board old (chain.node j) (before.linked.nodes j below) in
      let nodes : (j k : ℕ) → j ≤ end chain → new.cell (chain.node j) k ≡ old.cell (chain.node j) k = λ j k below. writes.other_objects (chain.node j) k (unlinked j below) in
      let keeps : KeepsNodes chain now = record { nodes = λ j. refl; first = omega arith; last = omega arith; ends = refl } in
      let later = later_by_write s 1 (old.register s v).value Board old new chain now writes unlinked (λ t n other. made_is_no_board t n) keeps (inl (writes.other_cells Board 0 (omega arith))) (inr (field, omega arith)) in
      let passed_first = before.linked.first_passed in let near = before.linked.last_near in
      stand q now queue goes later record {
        board = let b = before.linked.board in let e = writes.sizes Board in omega arith;
        field_0 = same_value (writes.other_cells Board 0 (omega arith)) ∙ before.linked.field_0;
        field_1 = field;
        first_passed = omega arith;
        last_within = omega arith;
        last_near = omega arith;
        nodes = λ j below. node_stays s old new chain now (chain.node j) later (before.linked.nodes j below);
        apart = before.linked.apart;
        nexts = λ j below. same_value (nodes j 1 (omega arith)) ∙ before.linked.nexts j below;
        open_end = nodes (end chain) 1 (omega arith) ∙ before.linked.open_end;
        helper = λ short. absurd (omega arith);
        values = before.linked.values ∙ values_same (value_at old chain) (value_at new now) chain.first chain.queued (λ j above below. same_value (sym (nodes j 0 below)));
      } (here now)
