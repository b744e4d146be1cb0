-- What each heap call of a put comes to.
use Rattle.std.proofs.Common.{◌≡◌, ◌≢◌, ℕ, suc, ◌<◌, ◌≤◌, ◌⊎◌, inl, inr, List, [], ◌∷◌, ◌++◌, refl, sym, ap, ◌∙◌, subst, arith}
use Rattle.std.proofs.lemmas.Bool.{cases_eq}
use Rattle.heap_model.specs.declared.command.Command.TheVariants.{New, Get, Set, Cas}
use Rattle.heap_model.specs.declared.graph.cell.Cell.{Cell}
use Rattle.heap_model.specs.declared.id.Id.TheVariants.{Board, Made}
use Rattle.heap_model.specs.declared.id.Value.{Value}
use Rattle.heap_model.specs.declared.id.Value.TheVariants.{Nil, Object}
use Rattle.heap_model.specs.declared.reply.Reply.{Reply}
use Rattle.heap_model.specs.declared.reply.Reply.TheVariants.{Got}
use Rattle.heap_model.specs.graph.Graph.{unset}
use Rattle.heap_queue.specs.Effects.{Places}
use Rattle.heap_queue.specs.Laws.{IsForeign}
use Rattle.heap_queue.specs.Places.{Place, Rests, PutValue, PutLast, PutNext, PutHelps, PutLinks, PutSwings, IsFree, after}
use Rattle.heap_queue.proofs.Views.{View, same_value, OnlyRegisters, Writes, Reaches, IsBorn, made, full, IsMissed, IsSwapped, Answers}
use Rattle.heap_queue.proofs.Chains.{Chain, end, next_at, IsSwinging, Helper, SawLast, PutSaw, At, Stands}
use Rattle.heap_queue.proofs.Others.{Later}
use Rattle.heap_queue.proofs.Moves.{Outcome, Before, KeepsNodes, later_by_write, made_is_no_board, born_is_not_next, node_is_not_next, stand, linked_stays, stand_by_registers, quietly, is_no_helper, next_cases, last_foreign, swung}
use Rattle.heap_queue.proofs.Linking.{node_linked}
use Rattle.heap_queue.proofs.Knowing.{valued_kept, saw_kept, matches_kept}

module _ (seats s : ℕ) (old new : View) (place next : Places) (queue : List Value) (chain : Chain) (before : Before seats s old place next queue chain) where
  still_quietly : (p q : Place) → place s ≡ p → ¬ IsSwinging p → next s ≡ q → OnlyRegisters s old new → At seats new chain s q → Stands seats next new queue
  still_quietly = quietly seats s old new place next queue chain before

  -- the board has fields 0 and 1
  pub on_board : (i : ℕ) → i < 2 → Reaches old s 0 i Board
  on_board i low = record { holds = before.board; within = let b = before.linked.board in omega arith }

  -- a node has two fields
  pub on_node : (r i j : ℕ) → (old.register s r).value ≡ Object (chain.node j) → j ≤ end chain → i < 2 → Reaches old s r i (chain.node j)
  on_node r i j holds within low = record { holds = holds; within = let two = (before.linked.nodes j within).two in omega arith }

  -- what is got from field 1 now, by a seat that isn't about to move it on
  pub saw_now : (r : ℕ) (p : Place) → place s ≡ p → ¬ IsSwinging p → OnlyRegisters s old new → new.register s r ≡ old.cell Board 1 → SawLast seats new chain s r chain.last
  saw_now r p stands still only here = record {
    holds = same_value here ∙ before.linked.field_1;
    passed = omega arith;
    foreign = subst (λ (c : Cell). (c ≡ unset) ⊎ IsForeign seats s c.stamp) (sym (only.cells (chain.node chain.last) 1)) (last_foreign seats s old new place next queue chain before p stands still);
  }

  -- new 15 2
  pub put_new : {reply : Reply} → place s ≡ Rests → IsBorn s 15 2 old new reply → next s ≡ after Rests (New 15 2) reply → Outcome seats s old new next queue Rests (New 15 2) reply
  put_new stands (made id bears) goes =
      let nodes : (j i : ℕ) → j ≤ end chain → new.cell (chain.node j) i ≡ old.cell (chain.node j) i = λ j i within. bears.cells_stay (chain.node j) i (node_is_not_next old s (chain.node j) (before.linked.nodes j within)) in
      let no : Board ≢ Made s (old.made s) = λ same. made_is_no_board s (old.made s) (sym same) in
      let later : Later s old new chain chain = record {
        registers = bears.others;
        made = λ t. elim (cases_eq t s) as (λ _. old.made t ≤ new.made t) [
          | inl same ↦ subst (λ (x : ℕ). old.made x ≤ new.made x) (sym same) (let e = bears.more in omega arith)
          | inr other ↦ let e = bears.made t other in omega arith
        ];
        sizes = λ t n born. bears.sizes (Made t n) (born_is_not_next old t n s born);
        nodes = λ j within. refl;
        first = omega arith;
        last = omega arith;
        ends = omega arith;
        value = λ j within. nodes j 0 within;
        next = λ j within. inl (nodes j 1 within);
        own = λ t n i other born unlinked. bears.cells_stay (Made t n) i (born_is_not_next old t n s born);
        unlinked = λ t n other born unlinked. unlinked;
        field_0 = inl (bears.cells_stay Board 0 no);
        field_1 = inl (bears.cells_stay Board 1 no);
      } in record {
        now = queue;
        serves = refl;
        stands = stand seats s old new place next queue chain before PutValue chain queue goes later
            (linked_stays seats s old new place next queue chain before later (bears.cells_stay Board 0 no) (bears.cells_stay Board 1 no) (bears.sizes Board no) (λ j within. nodes j 1 within)
            (is_no_helper seats s old new place next queue chain before Rests stands (λ e. e)))
            (old.made s, record { holds = bears.here; born = let e = bears.more in omega arith; two = bears.size; alone = bears.nil 1; unlinked = λ j within. node_is_not_next old s (chain.node j) (before.linked.nodes j within) });
        sound = tt;
      }
  put_new stands (full need found unchanged) goes = record { now = queue; serves = refl; stands = still_quietly Rests Rests stands (λ e. e) goes unchanged.only tt; sound = record { there = before.there; finds = tt; foreign = tt } }

  -- set 15 0 v
  pub put_value : (v : ℕ) (reply : Reply) → IsFree v → place s ≡ PutValue → Answers s (Set 15 0 v) reply old new → next s ≡ after PutValue (Set 15 0 v) reply → At seats old chain s PutValue
      → Outcome seats s old new next queue PutValue (Set 15 0 v) reply
  put_value v reply free stands answers goes (n, own) =
      let is_set = answers (Made s n) (record { holds = own.holds; within = let two = own.two in omega arith }) in
      let writes = is_set.writes in
      let moves : next s ≡ PutLast v = goes ∙ ap (after PutValue (Set 15 0 v)) is_set.is in
      let nodes : (j i : ℕ) → j ≤ end chain → new.cell (chain.node j) i ≡ old.cell (chain.node j) i = λ j i within. writes.other_objects (chain.node j) i (own.unlinked j within) in
      let board : (i : ℕ) → new.cell Board i ≡ old.cell Board i = λ i. writes.other_objects Board i (λ same. made_is_no_board s n (sym same)) in
      let keeps : KeepsNodes chain chain = record { nodes = λ j. refl; first = omega arith; last = omega arith; ends = refl } in
      let later =
      later_by_write s 0 (old.register s v).value (Made s n) old new chain chain writes own.unlinked (λ t m other same. let e : t ≡ s = cc in other e) keeps (inl (board 0)) (inl (board 1)) in
      subst (λ (x : Reply). Outcome seats s old new next queue PutValue (Set 15 0 v) x) (sym is_set.is) record {
        now = queue;
        serves = refl;
        stands = stand seats s old new place next queue chain before (PutLast v) chain queue moves later
            (linked_stays seats s old new place next queue chain before later (board 0) (board 1) (writes.sizes Board) (λ j within. nodes j 1 within)
            (is_no_helper seats s old new place next queue chain before PutValue stands (λ e. e))) (
              n,
              record {
                own = record {
                  holds = same_value (writes.registers s 15) ∙ own.holds;
                  born = let e = writes.made s in let b = own.born in omega arith;
                  two = writes.sizes (Made s n) ∙ own.two;
                  alone = writes.other_cells (Made s n) 1 (omega arith) ∙ own.alone;
                  unlinked = own.unlinked;
                };
                free = free;
                value = writes.here ∙ same_value (sym (writes.registers s v));
              },
            );
        sound = tt;
      }

  -- get 14 0 1
  pub put_last : (v : ℕ) (reply : Reply) → place s ≡ PutLast v → Answers s (Get 14 0 1) reply old new → next s ≡ after (PutLast v) (Get 14 0 1) reply → At seats old chain s (PutLast v)
      → Outcome seats s old new next queue (PutLast v) (Get 14 0 1) reply
  put_last v reply stands answers goes (n, valued) =
      let got = answers Board (on_board 1 (omega arith)) in
      let fills = got.fills in let free = valued.free in
      let moves : next s ≡ PutNext v = goes ∙ ap (after (PutLast v) (Get 14 0 1)) got.is in
      subst (λ (x : Reply). Outcome seats s old new next queue (PutLast v) (Get 14 0 1) x) (sym got.is) record {
        now = queue;
        serves = refl;
        stands = still_quietly (PutLast v) (PutNext v) stands (λ e. e) moves fills.only record {
          n = n;
          valued = valued_kept old new chain s v n fills.only (fills.rest 15 (omega arith)) (fills.rest v (omega (arith, free.1))) valued;
          i = chain.last;
          saw = saw_now 14 (PutLast v) stands (λ e. e) fills.only fills.here;
          matches = λ equal. fills.only.cells Board 1 ∙ sym fills.here;
        };
        sound = tt;
      }

  -- get 13 14 1
  pub put_next : (v : ℕ) (reply : Reply) → place s ≡ PutNext v → Answers s (Get 13 14 1) reply old new → next s ≡ after (PutNext v) (Get 13 14 1) reply → At seats old chain s (PutNext v)
      → Outcome seats s old new next queue (PutNext v) (Get 13 14 1) reply
  put_next v reply stands answers goes put =
      let passed = put.saw.passed in let w = before.linked.last_within in
      let got = answers (chain.node put.i) (on_node 14 1 put.i put.saw.holds (omega arith) (omega arith)) in
      let fills = got.fills in let free = put.valued.free in
      let cell : Cell = next_at old chain put.i in
      elim (next_cases seats s old new place next queue chain before put.i (omega arith)) as (λ _. Outcome seats s old new next queue (PutNext v) (Get 13 14 1) reply) [
        | inl more ↦
            let is : reply ≡ Got (Object (chain.node (suc put.i))) cell.stamp = got.is ∙ ap (λ (x : Value). Got x cell.stamp) more.1 in
            let foreign : IsForeign seats s cell.stamp = elim put.saw.foreign as (λ _. IsForeign seats s cell.stamp) [
              | inl none ↦ let e : Object (chain.node (suc put.i)) ≡ Nil = sym more.1 ∙ same_value none in absurd (cc)
              | inr by ↦ by
            ] in
            subst (λ (x : Reply). Outcome seats s old new next queue (PutNext v) (Get 13 14 1) x) (sym is) record {
              now = queue;
              serves = refl;
              stands = still_quietly (PutNext v) (PutHelps v cell.stamp) stands (λ e. e) (goes ∙ ap (after (PutNext v) (Get 13 14 1)) is) fills.only (
                put.i,
                saw_kept seats old new chain s 14 put.i fills.only (fills.rest 14 (omega arith)) put.saw,
                record { holds = same_value fills.here ∙ more.1; within = let m = more.0 in omega arith },
                foreign,
              );
              sound = tt;
            }
        | inr last ↦
            let is : reply ≡ Got Nil 0 = got.is ∙ ap (λ (c : Cell). Got c.value c.stamp) last.1 in
            subst (λ (x : Reply). Outcome seats s old new next queue (PutNext v) (Get 13 14 1) x) (sym is) record {
              now = queue;
              serves = refl;
              stands = still_quietly (PutNext v) (PutLinks v) stands (λ e. e) (goes ∙ ap (after (PutNext v) (Get 13 14 1)) is) fills.only (
                record {
                  n = put.n;
                  valued = valued_kept old new chain s v put.n fills.only (fills.rest 15 (omega arith)) (fills.rest v (omega (arith, free.1))) put.valued;
                  i = put.i;
                  saw = saw_kept seats old new chain s 14 put.i fills.only (fills.rest 14 (omega arith)) put.saw;
                  matches = matches_kept old new s fills.only (fills.rest 14 (omega arith)) put.matches;
                },
                fills.here ∙ last.1,
              );
              sound = tt;
            }
      ]

  -- cas 0 1 14 13
  pub put_helps : (v stamp : ℕ) (reply : Reply) → place s ≡ PutHelps v stamp → Answers s (Cas 0 1 14 13) reply old new → next s ≡ Rests → At seats old chain s (PutHelps v stamp)
      → Outcome seats s old new next queue (PutHelps v stamp) (Cas 0 1 14 13) reply
  put_helps v stamp reply stands answers goes (i, saw, has, foreign) = record {
    now = queue;
    serves = refl;
    stands = elim (answers Board (on_board 1 (omega arith))) as (λ _. Stands seats next new queue) [
      | inl hit ↦ swung seats s old new place next queue chain before i 14 13 saw.holds saw.passed has.holds has.within hit.same hit.writes Rests goes (λ now. tt)
      | inr miss ↦ still_quietly (PutHelps v stamp) Rests stands (λ e. e) goes miss.unchanged.only tt
    ];
    sound = record { there = before.there; finds = tt; foreign = foreign };
  }

  -- cas 0 1 14 15
  pub put_swings : (v : ℕ) (reply : Reply) → Answers s (Cas 0 1 14 15) reply old new → next s ≡ Rests → At seats old chain s (PutSwings v)
      → Outcome seats s old new next queue (PutSwings v) (Cas 0 1 14 15) reply
  put_swings v reply answers goes (i, holds, passed, has, matches) = record {
    now = queue;
    serves = refl;
    stands = elim (answers Board (on_board 1 (omega arith))) as (λ _. Stands seats next new queue) [
      | inl hit ↦ swung seats s old new place next queue chain before i 14 15 holds passed has.holds has.within hit.same hit.writes Rests goes (λ now. tt)
      | inr miss ↦ stand_by_registers seats s old new place next queue chain before miss.unchanged.only
          (λ (helper : Helper seats place old chain) same. miss.differs (matches (before.linked.field_1 ∙ sym helper.holds ∙ ap (λ (t : ℕ). (old.register t 14).value) same))) Rests goes tt
    ];
    sound = record { there = before.there; finds = tt; foreign = tt };
  }

  -- cas 14 1 13 15
  link_missed : (v : ℕ) (reply : Reply) → place s ≡ PutLinks v → next s ≡ after (PutLinks v) (Cas 14 1 13 15) reply → (put : PutSaw seats old chain s v) → old.register s 13 ≡ unset
      → IsMissed s (chain.node put.i) 1 (old.register s 13) reply old new → Outcome seats s old new next queue (PutLinks v) (Cas 14 1 13 15) reply
  link_missed v reply stands goes put nil miss =
      subst (λ (x : Reply). Outcome seats s old new next queue (PutLinks v) (Cas 14 1 13 15) x) (sym miss.is) record {
        now = queue;
        serves = refl;
        stands = still_quietly (PutLinks v) Rests stands (λ e. e) (goes ∙ ap (after (PutLinks v) (Cas 14 1 13 15)) miss.is) miss.unchanged.only tt;
        sound = record {
          there = before.there;
          finds = tt;
          foreign = elim put.saw.foreign as (λ _. IsForeign seats s (next_at old chain put.i).stamp) [
            | inl none ↦ absurd (miss.differs (none ∙ sym nil))
            | inr by ↦ by
          ];
        };
      }

  link_hit : (v : ℕ) (reply : Reply) → next s ≡ after (PutLinks v) (Cas 14 1 13 15) reply → (put : PutSaw seats old chain s v) → old.register s 13 ≡ unset
      → IsSwapped s (chain.node put.i) 1 (old.register s 13) (old.register s 15).value reply old new → Outcome seats s old new next queue (PutLinks v) (Cas 14 1 13 15) reply
  link_hit v reply goes put nil hit =
      let passed = put.saw.passed in let w = before.linked.last_within in
      let position : put.i ≡ end chain = elim (next_cases seats s old new place next queue chain before put.i (omega arith)) as (λ _. put.i ≡ end chain) [
        | inl more ↦ let e : Object (chain.node (suc put.i)) ≡ Nil = sym more.1 ∙ same_value (hit.same ∙ nil) in absurd (cc)
        | inr last ↦ last.0
      ] in
      let full_chain : chain.last ≡ end chain = omega arith in
      let writes : Writes s (chain.node (end chain)) 1 (Object (Made s put.n)) old new =
      subst (λ (x : Value). Writes s (chain.node (end chain)) 1 x old new) put.valued.own.holds (subst (λ (j : ℕ). Writes s (chain.node j) 1 (old.register s 15).value old new) position hit.writes) in
      subst (λ (x : Reply). Outcome seats s old new next queue (PutLinks v) (Cas 14 1 13 15) x) (sym hit.is) record {
        now = queue ++ (old.register s v).value ∷ [];
        serves = refl;
        stands = node_linked seats s old new place next queue chain before v put.n put.valued writes full_chain (goes ∙ ap (after (PutLinks v) (Cas 14 1 13 15)) hit.is)
            (put.saw.holds ∙ ap (λ (j : ℕ). Object (chain.node j)) position) put.matches;
        sound = tt;
      }

  pub put_links : (v : ℕ) (reply : Reply) → place s ≡ PutLinks v → Answers s (Cas 14 1 13 15) reply old new → next s ≡ after (PutLinks v) (Cas 14 1 13 15) reply → At seats old chain s (PutLinks v)
      → Outcome seats s old new next queue (PutLinks v) (Cas 14 1 13 15) reply
  put_links v reply stands answers goes (put, nil) =
      let passed = put.saw.passed in let w = before.linked.last_within in
      elim (answers (chain.node put.i) (on_node 14 1 put.i put.saw.holds (omega arith) (omega arith))) as (λ _. Outcome seats s old new next queue (PutLinks v) (Cas 14 1 13 15) reply) [
        | inl hit ↦ link_hit v reply goes put nil hit
        | inr miss ↦ link_missed v reply stands goes put nil miss
      ]
