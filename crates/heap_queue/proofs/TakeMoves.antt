-- What each heap call of a take comes to.
use Rattle.std.proofs.Common.{◌≡◌, ◌≢◌, ℕ, zero, suc, ◌<◌, ◌≤◌, inl, inr, List, [], ◌∷◌, refl, sym, ap, ◌∙◌, subst, arith}
use Rattle.heap_model.specs.declared.command.Command.TheVariants.{Get, Cas, Copy, Same}
use Rattle.heap_model.specs.declared.graph.cell.Cell.{Cell}
use Rattle.heap_model.specs.declared.id.Id.TheVariants.{Board}
use Rattle.heap_model.specs.declared.id.Value.{Value}
use Rattle.heap_model.specs.declared.id.Value.TheVariants.{Nil, Object}
use Rattle.heap_model.specs.declared.reply.Reply.{Reply}
use Rattle.heap_model.specs.declared.reply.Reply.TheVariants.{Got}
use Rattle.heap_queue.specs.Effects.{Places, Took, Empty, Serves}
use Rattle.heap_queue.specs.Laws.{IsForeign}
use Rattle.heap_queue.specs.Places.{Place, Rests, TakeLast, TakeNext, TakeSame, TakeHelps, TakeValue, TakeUnlinks, TakeCopies, after}
use Rattle.heap_queue.proofs.Views.{View, same_value, OnlyRegisters, Writes, IsMissed, IsSwapped, IsCompared, yes, no, Answers}
use Rattle.heap_queue.proofs.Chains.{Chain, end, value_at, next_at, values_behind, IsSwinging, SawFirst, HasNext, TakeSaw, At, Stands}
use Rattle.heap_queue.proofs.Others.{IsUnlinked}
use Rattle.heap_queue.proofs.Moves.{Outcome, Before, KeepsNodes, later_by_write, values_same, node_stays, node_is_no_board, made_is_no_board, stand, quietly, is_no_helper, helper_stays, same_position, next_cases, swung}
use Rattle.heap_queue.proofs.Knowing.{first_kept, saw_kept, next_kept}
use Rattle.heap_queue.proofs.PutMoves.{saw_now, on_board, on_node}

-- what a queue serves of which one knows what it holds
empty_serves : (queue : List Value) → queue ≡ [] → Serves queue (Empty ∷ []) queue
empty_serves [] none = refl
empty_serves (front ∷ queue) none = absurd (cc)

took_serves : (queue : List Value) (value : Value) (rest : List Value) → queue ≡ value ∷ rest → Serves queue (Took value ∷ []) rest
took_serves [] value rest is = absurd (cc)
took_serves (front ∷ queue) value rest is = (cc, cc)

-- a number that isn't 0 is that behind another one
one_less : (n : ℕ) → 0 < n → (m : ℕ) × (n ≡ suc m)
one_less zero some = absurd (omega arith)
one_less (suc n) some = (n, refl)

module _ (seats s : ℕ) (old new : View) (place next : Places) (queue : List Value) (chain : Chain) (before : Before seats s old place next queue chain) where
  take_quietly : (p q : Place) → place s ≡ p → ¬ IsSwinging p → next s ≡ q → OnlyRegisters s old new → At seats new chain s q → Stands seats next new queue
  take_quietly = quietly seats s old new place next queue chain before

  -- get 14 0 0
  pub take_first : (reply : Reply) → place s ≡ Rests → Answers s (Get 14 0 0) reply old new → next s ≡ after Rests (Get 14 0 0) reply → Outcome seats s old new next queue Rests (Get 14 0 0) reply
  take_first reply stands answers goes =
      let got = answers Board (on_board seats s old new place next queue chain before 0 (omega arith)) in
      let fills = got.fills in
      subst (λ (x : Reply). Outcome seats s old new next queue Rests (Get 14 0 0) x) (sym got.is) record {
        now = queue;
        serves = refl;
        stands = take_quietly Rests TakeLast stands (λ e. e) (goes ∙ ap (after Rests (Get 14 0 0)) got.is) fills.only
            (chain.first, record { holds = same_value fills.here ∙ before.linked.field_0; passed = omega arith; foreign = inl (fills.only.cells Board 0 ∙ sym fills.here) });
        sound = tt;
      }

  -- get 13 0 1
  pub take_last : (reply : Reply) → place s ≡ TakeLast → Answers s (Get 13 0 1) reply old new → next s ≡ after TakeLast (Get 13 0 1) reply → At seats old chain s TakeLast
      → Outcome seats s old new next queue TakeLast (Get 13 0 1) reply
  take_last reply stands answers goes (i, saw) =
      let got = answers Board (on_board seats s old new place next queue chain before 1 (omega arith)) in
      let fills = got.fills in let passed = saw.passed in let first = before.linked.first_passed in
      subst (λ (x : Reply). Outcome seats s old new next queue TakeLast (Get 13 0 1) x) (sym got.is) record {
        now = queue;
        serves = refl;
        stands = take_quietly TakeLast TakeNext stands (λ e. e) (goes ∙ ap (after TakeLast (Get 13 0 1)) got.is) fills.only (
          i,
          chain.last,
          first_kept seats old new chain s i fills.only (fills.rest 14 (omega arith)) saw,
          saw_now seats s old new place next queue chain before 13 TakeLast stands (λ e. e) fills.only fills.here,
          omega arith,
        );
        sound = tt;
      }

  -- get 12 14 1
  pub take_next : (reply : Reply) → place s ≡ TakeNext → Answers s (Get 12 14 1) reply old new → next s ≡ after TakeNext (Get 12 14 1) reply → At seats old chain s TakeNext
      → Outcome seats s old new next queue TakeNext (Get 12 14 1) reply
  take_next reply stands answers goes (i, j, saw, last, order) =
      let passed = saw.passed in let first = before.linked.first_passed in let w = before.linked.last_within in
      let got = answers (chain.node i) (on_node seats s old new place next queue chain before 14 1 i saw.holds (omega arith) (omega arith)) in
      let fills = got.fills in
      let cell : Cell = next_at old chain i in
      elim (next_cases seats s old new place next queue chain before i (omega arith)) as (λ _. Outcome seats s old new next queue TakeNext (Get 12 14 1) reply) [
        | inl more ↦
            let is : reply ≡ Got (Object (chain.node (suc i))) cell.stamp = got.is ∙ ap (λ (x : Value). Got x cell.stamp) more.1 in
            let foreign : i ≡ j → IsForeign seats s cell.stamp = λ same. elim last.foreign as (λ _. IsForeign seats s cell.stamp) [
              | inl none ↦ let e : Object (chain.node (suc i)) ≡ Nil = sym more.1 ∙ same_value (ap (next_at old chain) same ∙ none) in absurd (cc)
              | inr by ↦ subst (λ (n : ℕ). IsForeign seats s (next_at old chain n).stamp) (sym same) by
            ] in
            subst (λ (x : Reply). Outcome seats s old new next queue TakeNext (Get 12 14 1) x) (sym is) record {
              now = queue;
              serves = refl;
              stands = take_quietly TakeNext (TakeSame cell.stamp) stands (λ e. e) (goes ∙ ap (after TakeNext (Get 12 14 1)) is) fills.only (
                i,
                j,
                first_kept seats old new chain s i fills.only (fills.rest 14 (omega arith)) saw,
                saw_kept seats old new chain s 13 j fills.only (fills.rest 13 (omega arith)) last,
                order,
                record { holds = same_value fills.here ∙ more.1; within = let m = more.0 in omega arith },
                foreign,
              );
              sound = tt;
            }
        | inr end_is ↦
            let is : reply ≡ Got Nil 0 = got.is ∙ ap (λ (c : Cell). Got c.value c.stamp) end_is.1 in
            let e = end_is.0 in
            let none : queue ≡ [] = (let zero_queued : chain.queued ≡ 0 = omega arith in before.linked.values ∙ ap (values_behind (value_at old chain) chain.first) zero_queued) in
            subst (λ (x : Reply). Outcome seats s old new next queue TakeNext (Get 12 14 1) x) (sym is) record {
              now = queue;
              serves = empty_serves queue none;
              stands = take_quietly TakeNext Rests stands (λ e. e) (goes ∙ ap (after TakeNext (Get 12 14 1)) is) fills.only tt;
              sound = record { there = before.there; finds = tt; foreign = tt };
            }
      ]

  -- same 14 13
  pub take_same : (stamp : ℕ) {reply : Reply} → place s ≡ TakeSame stamp → IsCompared s 14 13 old new reply → next s ≡ after (TakeSame stamp) (Same 14 13) reply → At seats old chain s (TakeSame stamp)
      → Outcome seats s old new next queue (TakeSame stamp) (Same 14 13) reply
  take_same stamp stands (yes same unchanged) goes (i, j, saw, last, order, has, foreign) =
      let passed = last.passed in let w = before.linked.last_within in
      let position : i ≡ j = same_position seats s old new place next queue chain before (old.register s 14).value (old.register s 13).value i j saw.holds last.holds same order (omega arith) in record {
        now = queue;
        serves = refl;
        stands = take_quietly (TakeSame stamp) (TakeHelps stamp) stands (λ e. e) goes unchanged.only (
          j,
          saw_kept seats old new chain s 13 j unchanged.only (unchanged.registers 13) last,
          subst (λ (x : ℕ). HasNext new chain s 12 x) position (next_kept old new chain s 12 i (unchanged.registers 12) has),
          foreign position,
        );
        sound = tt;
      }
  take_same stamp stands (no differs unchanged) goes (i, j, saw, last, order, has, foreign) =
      let unlike : i ≢ j = λ same. differs (saw.holds ∙ ap (λ (x : ℕ). Object (chain.node x)) same ∙ sym last.holds) in record {
        now = queue;
        serves = refl;
        stands = take_quietly (TakeSame stamp) TakeValue stands (λ e. e) goes unchanged.only (
          i,
          record {
            saw = first_kept seats old new chain s i unchanged.only (unchanged.registers 14) saw;
            last = j;
            before = omega arith;
            passed = last.passed;
            next = next_kept old new chain s 12 i (unchanged.registers 12) has;
          },
        );
        sound = tt;
      }

  -- cas 0 1 13 12
  pub take_helps : (stamp : ℕ) (reply : Reply) → place s ≡ TakeHelps stamp → Answers s (Cas 0 1 13 12) reply old new → next s ≡ Rests → At seats old chain s (TakeHelps stamp)
      → Outcome seats s old new next queue (TakeHelps stamp) (Cas 0 1 13 12) reply
  take_helps stamp reply stands answers goes (j, last, has, foreign) = record {
    now = queue;
    serves = refl;
    stands = elim (answers Board (on_board seats s old new place next queue chain before 1 (omega arith))) as (λ _. Stands seats next new queue) [
      | inl hit ↦ swung seats s old new place next queue chain before j 13 12 last.holds last.passed has.holds has.within hit.same hit.writes Rests goes (λ now. tt)
      | inr miss ↦ take_quietly (TakeHelps stamp) Rests stands (λ e. e) goes miss.unchanged.only tt
    ];
    sound = record { there = before.there; finds = tt; foreign = foreign };
  }

  take_kept : (i : ℕ) → OnlyRegisters s old new → new.register s 14 ≡ old.register s 14 → new.register s 12 ≡ old.register s 12 → TakeSaw seats old chain s i → TakeSaw seats new chain s i
  take_kept i only same_14 same_12 take =
      record { saw = first_kept seats old new chain s i only same_14 take.saw; last = take.last; before = take.before; passed = take.passed; next = next_kept old new chain s 12 i same_12 take.next }

  -- get 11 12 0
  pub take_value : (reply : Reply) → place s ≡ TakeValue → Answers s (Get 11 12 0) reply old new → next s ≡ after TakeValue (Get 11 12 0) reply → At seats old chain s TakeValue
      → Outcome seats s old new next queue TakeValue (Get 11 12 0) reply
  take_value reply stands answers goes (i, take) =
      let got = answers (chain.node (suc i)) (on_node seats s old new place next queue chain before 12 0 (suc i) take.next.holds take.next.within (omega arith)) in
      let fills = got.fills in
      subst (λ (x : Reply). Outcome seats s old new next queue TakeValue (Get 11 12 0) x) (sym got.is) record {
        now = queue;
        serves = refl;
        stands = take_quietly TakeValue TakeUnlinks stands (λ e. e) (goes ∙ ap (after TakeValue (Get 11 12 0)) got.is) fills.only
            (i, take_kept i fills.only (fills.rest 14 (omega arith)) (fills.rest 12 (omega arith)) take, same_value (fills.here ∙ sym (fills.only.cells (chain.node (suc i)) 0)));
        sound = tt;
      }

  -- cas 0 0 14 12
  unlink_missed : (reply : Reply) → place s ≡ TakeUnlinks → next s ≡ after TakeUnlinks (Cas 0 0 14 12) reply → (i : ℕ) → SawFirst seats old chain s i → IsMissed s Board 0 (old.register s 14) reply old new
      → Outcome seats s old new next queue TakeUnlinks (Cas 0 0 14 12) reply
  unlink_missed reply stands goes i saw miss =
      subst (λ (x : Reply). Outcome seats s old new next queue TakeUnlinks (Cas 0 0 14 12) x) (sym miss.is) record {
        now = queue;
        serves = refl;
        stands = take_quietly TakeUnlinks Rests stands (λ e. e) (goes ∙ ap (after TakeUnlinks (Cas 0 0 14 12)) miss.is) miss.unchanged.only tt;
        sound = record {
          there = before.there;
          finds = tt;
          foreign = elim saw.foreign as (λ _. IsForeign seats s (old.cell Board 0).stamp) [
            | inl held ↦ absurd (miss.differs held)
            | inr foreign ↦ foreign
          ];
        };
      }

  -- the node behind the first is the first now, and its value is taken
  unlinked : (i left : ℕ) → place s ≡ TakeUnlinks → next s ≡ TakeCopies → TakeSaw seats old chain s i → i ≡ chain.first → chain.queued ≡ suc left → Writes s Board 0 (old.register s 12).value old new
      → Stands seats next new (values_behind (value_at old chain) (suc chain.first) left)
  unlinked i left stands goes take position queued writes =
      let passed = take.passed in let first = before.linked.first_passed in let w = before.linked.last_within in let near = before.linked.last_near in let order = take.before in
      let now : Chain = record { node = chain.node; first = suc chain.first; last = chain.last; queued = left } in
      let apart : IsUnlinked chain Board = λ x within. node_is_no_board old (chain.node x) (before.linked.nodes x within) in
      let nodes : (x y : ℕ) → x ≤ end chain → new.cell (chain.node x) y ≡ old.cell (chain.node x) y = λ x y within. writes.other_objects (chain.node x) y (apart x within) in
      let keeps : KeepsNodes chain now = record { nodes = λ x. refl; first = omega arith; last = omega arith; ends = omega arith } in
      let later = later_by_write s 0 (old.register s 12).value Board old new chain now writes apart (λ t n other. made_is_no_board t n) keeps (inr writes.stamp) (inl (writes.other_cells Board 1 (omega arith))) in
      let end_is : end now ≡ end chain = omega arith in
      stand seats s old new place next queue chain before TakeCopies now (values_behind (value_at old chain) (suc chain.first) left) goes later record {
        board = let b = before.linked.board in let e = writes.sizes Board in omega arith;
        field_0 = writes.here ∙ take.next.holds ∙ ap (λ (x : ℕ). Object (chain.node (suc x))) position;
        field_1 = same_value (writes.other_cells Board 1 (omega arith)) ∙ before.linked.field_1;
        first_passed = omega arith;
        last_within = omega arith;
        last_near = omega arith;
        nodes = λ x within. node_stays s old new chain now (chain.node x) later (before.linked.nodes x (omega arith));
        apart = λ x y lower within. before.linked.apart x y lower (omega arith);
        nexts = λ x within. same_value (nodes x 1 (omega arith)) ∙ before.linked.nexts x (omega arith);
        open_end = ap (next_at new chain) end_is ∙ nodes (end chain) 1 (omega arith) ∙ before.linked.open_end;
        helper = λ short. let helper = before.linked.helper (omega arith) in
            helper_stays seats s old new place next queue chain before now later helper (is_no_helper seats s old new place next queue chain before TakeUnlinks stands (λ e. e) helper) refl (nodes chain.last 1 w);
        values = values_same (value_at old chain) (value_at new now) (suc chain.first) left (λ x above within. same_value (sym (nodes x 0 (omega arith))));
      } tt

  unlink_hit : (reply : Reply) → place s ≡ TakeUnlinks → next s ≡ after TakeUnlinks (Cas 0 0 14 12) reply → (i : ℕ) → TakeSaw seats old chain s i → (old.register s 11).value ≡ value_at old chain (suc i)
      → IsSwapped s Board 0 (old.register s 14) (old.register s 12).value reply old new → Outcome seats s old new next queue TakeUnlinks (Cas 0 0 14 12) reply
  unlink_hit reply stands goes i take value hit =
      let sp = take.saw.passed in let passed = take.passed in let first = before.linked.first_passed in let w = before.linked.last_within in let order = take.before in
      let position : i ≡ chain.first = same_position seats s old new place next queue chain before (old.register s 14).value (old.cell Board 0).value i chain.first take.saw.holds before.linked.field_0 (sym (same_value hit.same)) sp (omega arith) in
      let left = one_less chain.queued (omega arith) in
      let rest : List Value = values_behind (value_at old chain) (suc chain.first) left.0 in
      let split : queue ≡ (old.register s 11).value ∷ rest =
      before.linked.values ∙ ap (values_behind (value_at old chain) chain.first) left.1 ∙ ap (λ (x : Value). x ∷ rest) (ap (λ (x : ℕ). value_at old chain (suc x)) (sym position) ∙ sym value) in
      subst (λ (x : Reply). Outcome seats s old new next queue TakeUnlinks (Cas 0 0 14 12) x) (sym hit.is) record {
        now = rest;
        serves = took_serves queue (old.register s 11).value rest split;
        stands = unlinked i left.0 stands (goes ∙ ap (after TakeUnlinks (Cas 0 0 14 12)) hit.is) take position left.1 hit.writes;
        sound = tt;
      }

  pub take_unlinks : (reply : Reply) → place s ≡ TakeUnlinks → Answers s (Cas 0 0 14 12) reply old new → next s ≡ after TakeUnlinks (Cas 0 0 14 12) reply → At seats old chain s TakeUnlinks
      → Outcome seats s old new next queue TakeUnlinks (Cas 0 0 14 12) reply
  take_unlinks reply stands answers goes (i, take, value) =
      elim (answers Board (on_board seats s old new place next queue chain before 0 (omega arith))) as (λ _. Outcome seats s old new next queue TakeUnlinks (Cas 0 0 14 12) reply) [
        | inl hit ↦ unlink_hit reply stands goes i take value hit
        | inr miss ↦ unlink_missed reply stands goes i take.saw miss
      ]

  -- copy d 11
  pub take_copies : (d : ℕ) (reply : Reply) → place s ≡ TakeCopies → OnlyRegisters s old new → next s ≡ Rests → Outcome seats s old new next queue TakeCopies (Copy d 11) reply
  take_copies d reply stands only goes = record { now = queue; serves = refl; stands = take_quietly TakeCopies Rests stands (λ e. e) goes only tt; sound = record { there = before.there; finds = tt; foreign = tt } }
