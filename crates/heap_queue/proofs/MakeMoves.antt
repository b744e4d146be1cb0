-- What each entry comes to while the queue isn't made yet, and every entry.
use Rattle.std.proofs.Common.{◌≡◌, ◌≢◌, ℕ, ◌<◌, ◌≤◌, inl, inr, List, [], refl, sym, ap, ◌∙◌, subst, arith}
use Rattle.std.specs.Option.{IfSome}
use Rattle.std.proofs.lemmas.Bool.{cases_eq}
use Rattle.heap_model.specs.declared.command.Command.{Command}
use Rattle.heap_model.specs.declared.command.Command.TheVariants.{New, Get, Set, Num, Nil as NilCommand, Poll, Leave}
use Rattle.heap_model.specs.declared.id.Id.TheVariants.{Board, Made}
use Rattle.heap_model.specs.declared.id.Value.{Value}
use Rattle.heap_model.specs.declared.id.Value.TheVariants.{Nil, Object}
use Rattle.heap_model.specs.declared.reply.Reply.{Reply}
use Rattle.heap_model.specs.declared.reply.Reply.TheVariants.{Got}
use Rattle.heap_model.specs.graph.Graph.{unset}
use Rattle.heap_queue.specs.Calls.{ends}
use Rattle.heap_queue.specs.Effects.{Places, effects, Serves}
use Rattle.heap_queue.specs.Places.{Place, MakesNode, SetsFirst, SetsLast, Waits, Rests, Gone, IsBetween, IsDue, after}
use Rattle.heap_queue.proofs.Views.{View, same_value, OnlyRegisters, Reaches, IsBorn, made, full, Answers}
use Rattle.heap_queue.proofs.Chains.{Chain, At, Stands}
use Rattle.heap_queue.proofs.Moves.{IsSound, made_is_no_board}
use Rattle.heap_queue.proofs.EveryMove.{comes}

-- the first node, which no other seat has seen
pub record IsFirstNode (view : View) (maker n : ℕ) : Type 0 where
  pub holds : (view.register maker 15).value ≡ Object (Made maker n)
  pub born : n < view.made maker
  pub two : view.size (Made maker n) ≡ 2
  pub alone : view.cell (Made maker n) 1 ≡ unset

-- how far the maker is
abbrev pub Making : View → ℕ → Place → Type 0
Making view maker MakesNode = Unit {0}
Making view maker SetsFirst = (n : ℕ) × IsFirstNode view maker n
Making view maker SetsLast = (n : ℕ) × IsFirstNode view maker n × ((view.cell Board 0).value ≡ Object (Made maker n))
Making view maker Gone = Unit {0}
Making view maker place = ⊥

-- the seat waits for the queue, or does nothing more
abbrev pub IsOutside : Place → Type 0
IsOutside Waits = Unit {0}
IsOutside Gone = Unit {0}
IsOutside place = ⊥

-- the queue isn't made yet
pub record Unmade (maker : ℕ) (place : Places) (view : View) : Type 0 where
  pub board : 2 ≤ view.size Board
  pub field_1 : (view.cell Board 1).value ≡ Nil
  pub making : Making view maker (place maker)
  pub others : (t : ℕ) → t ≢ maker → IsOutside (place t)

-- what is true after every entry
pub data Stage (seats maker : ℕ) (place : Places) (view : View) (queue : List Value) : Type 0 where
  unmade : Unmade maker place view → queue ≡ [] → Stage seats maker place view queue
  stands : Stands seats place view queue → Stage seats maker place view queue

-- what an entry comes to at any stage
pub record Comes (seats maker s : ℕ) (old new : View) (next : Places) (queue : List Value) (place : Place) (command : Command) (reply : Reply) : Type 0 where
  pub now : List Value
  pub serves : Serves queue (effects (λ r. (old.register s r).value) place reply) now
  pub stage : Stage seats maker next new now
  pub sound : IfSome (ends place command reply) (IsSound seats s)

-- what stands before an entry of seat s while the queue isn't made
pub record Prior (seats maker s : ℕ) (old : View) (place next : Places) : Type 0 where
  pub unmade : Unmade maker place old
  pub there : s < seats
  pub others : (t : ℕ) → t ≢ s → next t ≡ place t
  pub board : (old.register s 0).value ≡ Object Board

first_node_kept : (old new : View) (maker n : ℕ) → new.register maker 15 ≡ old.register maker 15 → ((t : ℕ) → new.made t ≡ old.made t) → new.size (Made maker n) ≡ old.size (Made maker n) → new.cell (Made maker n) 1 ≡ old.cell (Made maker n) 1
    → IsFirstNode old maker n → IsFirstNode new maker n
first_node_kept old new maker n same made_same size cell node =
    record { holds = same_value same ∙ node.holds; born = let e = made_same maker in let b = node.born in omega arith; two = size ∙ node.two; alone = cell ∙ node.alone }

making_kept : (s : ℕ) (old new : View) (maker : ℕ) (p : Place) → maker ≢ s → OnlyRegisters s old new → Making old maker p → Making new maker p
making_kept s old new maker MakesNode other only making = tt
making_kept s old new maker SetsFirst other only (n, node) = (n, first_node_kept old new maker n (only.others maker 15 other) only.made (only.sizes (Made maker n)) (only.cells (Made maker n) 1) node)
making_kept s old new maker SetsLast other only (n, node, first) =
    (n, first_node_kept old new maker n (only.others maker 15 other) only.made (only.sizes (Made maker n)) (only.cells (Made maker n) 1) node, same_value (only.cells Board 0) ∙ first)
making_kept s old new maker Gone other only making = tt
making_kept s old new maker p other only making = absurd making

outside_stands : (seats : ℕ) (view : View) (chain : Chain) (t : ℕ) (p : Place) → IsOutside p → At seats view chain t p
outside_stands seats view chain t Waits outside = tt
outside_stands seats view chain t Gone outside = tt
outside_stands seats view chain t p outside = absurd outside

module _ (seats maker s : ℕ) (old new : View) (place next : Places) (prior : Prior seats maker s old place next) where
  abbrev MakeComes : Place → Command → Reply → Type 0
  MakeComes p command reply = Comes seats maker s old new next [] p command reply

  on_the_board : (i : ℕ) → i < 2 → Reaches old s 0 i Board
  on_the_board i low = record { holds = prior.board; within = let b = prior.unmade.board in omega arith }

  -- another seat than the maker waits on, or leaves
  waits_on : (q : Place) → s ≢ maker → next s ≡ q → IsOutside q → OnlyRegisters s old new → Unmade maker next new
  waits_on q other goes outside only = record {
    board = let e = only.sizes Board in let b = prior.unmade.board in omega arith;
    field_1 = same_value (only.cells Board 1) ∙ prior.unmade.field_1;
    making = let away : maker ≢ s = λ same. other (sym same) in
        subst (Making new maker) (sym (prior.others maker away)) (making_kept s old new maker (place maker) away only prior.unmade.making);
    others = λ t apart. elim (cases_eq t s) as (λ _. IsOutside (next t)) [
      | inl same ↦ subst IsOutside (sym (ap next same ∙ goes)) outside
      | inr off ↦ subst IsOutside (sym (prior.others t off)) (prior.unmade.others t apart)
    ];
  }

  wait_comes : (command : Command) (reply : Reply) (q : Place) → s ≢ maker → next s ≡ q → IsOutside q → OnlyRegisters s old new → MakeComes Waits command reply
  wait_comes command reply q other goes outside only = record { now = []; serves = refl; stage = unmade (waits_on q other goes outside only) refl; sound = tt }

  wait_get : (reply : Reply) → s ≢ maker → Answers s (Get 14 0 1) reply old new → next s ≡ after Waits (Get 14 0 1) reply → MakeComes Waits (Get 14 0 1) reply
  wait_get reply other answers goes =
      let got = answers Board (on_the_board 1 (omega arith)) in
      let is : reply ≡ Got Nil (old.cell Board 1).stamp = got.is ∙ ap (λ (x : Value). Got x (old.cell Board 1).stamp) prior.unmade.field_1 in
      wait_comes (Get 14 0 1) reply Waits other (goes ∙ ap (after Waits (Get 14 0 1)) is) tt got.fills.only

  waits_more : (command : Command) (reply : Reply) → s ≢ maker → IsBetween command → Answers s command reply old new → next s ≡ after Waits command reply → MakeComes Waits command reply
  waits_more (Num d n) reply other between only goes = wait_comes (Num d n) reply Waits other goes tt only
  waits_more (NilCommand d) reply other between only goes = wait_comes (NilCommand d) reply Waits other goes tt only
  waits_more Poll reply other between only goes = wait_comes Poll reply Waits other goes tt only
  waits_more Leave reply other between only goes = wait_comes Leave reply Gone other goes tt only
  waits_more (Get d r i) reply other between answers goes =
      subst (λ (c : Command). MakeComes Waits c reply) (sym between)
      (wait_get reply other (subst (λ (c : Command). Answers s c reply old new) between answers) (goes ∙ ap (λ (c : Command). after Waits c reply) between))
  waits_more _ reply other between answers goes = absurd between

  -- the others while the maker goes on
  others_wait : s ≡ maker → (t : ℕ) → t ≢ maker → IsOutside (next t)
  others_wait same t apart = subst IsOutside (sym (prior.others t (λ e. apart (e ∙ same)))) (prior.unmade.others t apart)

  makers : s ≡ maker → (q : Place) → next s ≡ q → Making new s q → Making new maker (next maker)
  makers same q goes making = subst (λ (x : ℕ). Making new x (next x)) same (subst (Making new s) (sym goes) making)

  -- new 15 2
  make_node : {reply : Reply} → s ≡ maker → IsBorn s 15 2 old new reply → next s ≡ after MakesNode (New 15 2) reply → MakeComes MakesNode (New 15 2) reply
  make_node same (made id bears) goes =
      let apart : Board ≢ Made s (old.made s) = λ e. made_is_no_board s (old.made s) (sym e) in record {
        now = [];
        serves = refl;
        stage = unmade (record {
          board = let e = bears.sizes Board apart in let b = prior.unmade.board in omega arith;
          field_1 = same_value (bears.cells_stay Board 1 apart) ∙ prior.unmade.field_1;
          making = makers same SetsFirst goes (old.made s, record { holds = bears.here; born = let e = bears.more in omega arith; two = bears.size; alone = bears.nil 1 });
          others = others_wait same;
        }) refl;
        sound = tt;
      }
  make_node same (full need found unchanged) goes =
      let only = unchanged.only in record {
        now = [];
        serves = refl;
        stage = unmade (record {
          board = let e = only.sizes Board in let b = prior.unmade.board in omega arith;
          field_1 = same_value (only.cells Board 1) ∙ prior.unmade.field_1;
          making = makers same Gone goes tt;
          others = others_wait same;
        }) refl;
        sound = record { there = prior.there; finds = tt; foreign = tt };
      }

  -- set 0 0 15
  set_first : (reply : Reply) → s ≡ maker → Answers s (Set 0 0 15) reply old new → next s ≡ SetsLast → (n : ℕ) → IsFirstNode old s n → MakeComes SetsFirst (Set 0 0 15) reply
  set_first reply same answers goes n node =
      let writes = (answers Board (on_the_board 0 (omega arith))).writes in record {
        now = [];
        serves = refl;
        stage = unmade (record {
          board = let e = writes.sizes Board in let b = prior.unmade.board in omega arith;
          field_1 = same_value (writes.other_cells Board 1 (omega arith)) ∙ prior.unmade.field_1;
          making = makers same SetsLast goes
              (n, first_node_kept old new s n (writes.registers s 15) writes.made (writes.sizes (Made s n)) (writes.other_objects (Made s n) 1 (made_is_no_board s n)) node, writes.here ∙ node.holds);
          others = others_wait same;
        }) refl;
        sound = tt;
      }

  -- set 0 1 15: the queue stands, and is empty
  set_last : (reply : Reply) → s ≡ maker → Answers s (Set 0 1 15) reply old new → next s ≡ Rests → (n : ℕ) → IsFirstNode old s n → (old.cell Board 0).value ≡ Object (Made s n) → MakeComes SetsLast (Set 0 1 15) reply
  set_last reply same answers goes n node first =
      let writes = (answers Board (on_the_board 1 (omega arith))).writes in
      let chain : Chain = record { node = λ j. Made s n; first = 0; last = 0; queued = 0 } in
      let kept = first_node_kept old new s n (writes.registers s 15) writes.made (writes.sizes (Made s n)) (writes.other_objects (Made s n) 1 (made_is_no_board s n)) node in record {
        now = [];
        serves = refl;
        stage = stands record {
          chain = chain;
          linked = record {
            board = let e = writes.sizes Board in let b = prior.unmade.board in omega arith;
            field_0 = same_value (writes.other_cells Board 0 (omega arith)) ∙ first;
            field_1 = writes.here ∙ node.holds;
            first_passed = omega arith;
            last_within = omega arith;
            last_near = omega arith;
            nodes = λ j within. record { maker = s; count = n; is = refl; born = kept.born; two = kept.two };
            apart = λ i j lower within. absurd (omega arith);
            nexts = λ j within. absurd (omega arith);
            open_end = kept.alone;
            helper = λ short. absurd (omega arith);
            values = refl;
          };
          at = λ t. elim (cases_eq t s) as (λ _. At seats new chain t (next t)) [
            | inl here ↦ subst (At seats new chain t) (sym (ap next here ∙ goes)) tt
            | inr off ↦ outside_stands seats new chain t (next t) (others_wait same t (λ e. off (e ∙ sym same)))
          ];
        };
        sound = record { there = prior.there; finds = tt; foreign = tt };
      }

  maker_comes : (p : Place) (command : Command) (reply : Reply) → s ≡ maker → IsDue p command → Answers s command reply old new → next s ≡ after p command reply → Making old s p → MakeComes p command reply
  maker_comes MakesNode command reply same due answers goes making = subst (λ (c : Command). MakeComes MakesNode c reply) (sym due)
      (make_node same (subst (λ (c : Command). Answers s c reply old new) due answers) (goes ∙ ap (λ (c : Command). after MakesNode c reply) due))
  maker_comes SetsFirst command reply same due answers goes (n, node) = subst (λ (c : Command). MakeComes SetsFirst c reply) (sym due)
      (set_first reply same (subst (λ (c : Command). Answers s c reply old new) due answers) goes n node)
  maker_comes SetsLast command reply same due answers goes (n, node, first) = subst (λ (c : Command). MakeComes SetsLast c reply) (sym due)
      (set_last reply same (subst (λ (c : Command). Answers s c reply old new) due answers) goes n node first)
  maker_comes Gone command reply same due answers goes making = absurd due
  maker_comes p command reply same due answers goes making = absurd making

  other_comes : (p : Place) (command : Command) (reply : Reply) → s ≢ maker → IsOutside p → IsDue p command → Answers s command reply old new → next s ≡ after p command reply → MakeComes p command reply
  other_comes Waits command reply other outside due answers goes = waits_more command reply other due answers goes
  other_comes Gone command reply other outside due answers goes = absurd due
  other_comes p command reply other outside due answers goes = absurd outside

  unmade_comes : (command : Command) (reply : Reply) → IsDue (place s) command → Answers s command reply old new → next s ≡ after (place s) command reply → MakeComes (place s) command reply
  unmade_comes command reply due answers goes = elim (cases_eq s maker) as (λ _. MakeComes (place s) command reply) [
    | inl same ↦ maker_comes (place s) command reply same due answers goes (subst (λ (x : ℕ). Making old x (place x)) (sym same) prior.unmade.making)
    | inr other ↦ other_comes (place s) command reply other (prior.unmade.others s other) due answers goes
  ]

-- every entry of a seat that is there, and has the board in its register 0
pub every_move : (seats maker s : ℕ) (old new : View) (place next : Places) (queue : List Value) (command : Command) (reply : Reply) → s < seats → (old.register s 0).value ≡ Object Board → ((t : ℕ) → t ≢ s → next t ≡ place t)
    → Stage seats maker place old queue → IsDue (place s) command → Answers s command reply old new → next s ≡ after (place s) command reply → Comes seats maker s old new next queue (place s) command reply
every_move seats maker s old new place next queue command reply there board others (unmade before none) due answers goes =
    subst (λ (q : List Value). Comes seats maker s old new next q (place s) command reply) (sym none)
    (unmade_comes seats maker s old new place next (record { unmade = before; there = there; others = others; board = board }) command reply due answers goes)
every_move seats maker s old new place next queue command reply there board others (stands it) due answers goes =
    let outcome = comes seats s old new place next queue it.chain (record { linked = it.linked; at = it.at; there = there; others = others; board = board }) (place s) command reply refl due answers goes (it.at s) in
    record { now = outcome.now; serves = outcome.serves; stage = stands outcome.stands; sound = outcome.sound }
