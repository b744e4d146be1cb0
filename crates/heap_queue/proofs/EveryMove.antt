-- What each entry of a seat comes to while the queue stands.
use Rattle.std.proofs.Common.{◌≡◌, ℕ, inl, inr, List, refl, sym, ap, ◌∙◌, subst, arith}
use Rattle.heap_model.specs.declared.command.Command.{Command}
use Rattle.heap_model.specs.declared.command.Command.TheVariants.{New, Get, Set, Cas, Num, Nil as NilCommand, Copy, Same, Poll, Leave}
use Rattle.heap_model.specs.declared.id.Id.TheVariants.{Board}
use Rattle.heap_model.specs.declared.id.Value.{Value}
use Rattle.heap_model.specs.declared.id.Value.TheVariants.{Object}
use Rattle.heap_model.specs.declared.reply.Reply.{Reply}
use Rattle.heap_model.specs.declared.reply.Reply.TheVariants.{Got}
use Rattle.heap_queue.specs.Effects.{Places}
use Rattle.heap_queue.specs.Places.{Place, MakesNode, SetsFirst, SetsLast, Waits, Rests, Gone, PutValue, PutLast, PutNext, PutHelps, PutLinks, PutSwings, TakeLast, TakeNext, TakeSame, TakeHelps, TakeValue, TakeUnlinks, TakeCopies, IsBetween, IsStep, IsDue, after}
use Rattle.heap_queue.proofs.Views.{View, Answers}
use Rattle.heap_queue.proofs.Chains.{Chain, At}
use Rattle.heap_queue.proofs.Moves.{Outcome, Before, quietly}
use Rattle.heap_queue.proofs.PutMoves as puts
use Rattle.heap_queue.proofs.TakeMoves as takes

module _ (seats s : ℕ) (old new : View) (place next : Places) (queue : List Value) (chain : Chain) (before : Before seats s old place next queue chain) where
  abbrev Comes : Place → Command → Reply → Type 0
  Comes p command reply = Outcome seats s old new next queue p command reply

  -- a seat that waits, and finds the queue
  waits_get : (reply : Reply) → place s ≡ Waits → Answers s (Get 14 0 1) reply old new → next s ≡ after Waits (Get 14 0 1) reply → Comes Waits (Get 14 0 1) reply
  waits_get reply stands answers goes =
      let got = answers Board (puts.on_board seats s old new place next queue chain before 1 (omega arith)) in
      let is : reply ≡ Got (Object (chain.node chain.last)) (old.cell Board 1).stamp = got.is ∙ ap (λ (x : Value). Got x (old.cell Board 1).stamp) before.linked.field_1 in
      subst (λ (x : Reply). Comes Waits (Get 14 0 1) x) (sym is)
      record { now = queue; serves = refl; stands = quietly seats s old new place next queue chain before Waits Rests stands (λ e. e) (goes ∙ ap (after Waits (Get 14 0 1)) is) got.fills.only tt; sound = tt }

  rests_get : (reply : Reply) → place s ≡ Rests → Answers s (Get 14 0 1) reply old new → next s ≡ after Rests (Get 14 0 1) reply → Comes Rests (Get 14 0 1) reply
  rests_get reply stands answers goes =
      let got = answers Board (puts.on_board seats s old new place next queue chain before 1 (omega arith)) in
      subst (λ (x : Reply). Comes Rests (Get 14 0 1) x) (sym got.is)
      record { now = queue; serves = refl; stands = quietly seats s old new place next queue chain before Rests Rests stands (λ e. e) (goes ∙ ap (after Rests (Get 14 0 1)) got.is) got.fills.only tt; sound = tt }

  -- the command that is due
  as_due : (p : Place) (command due : Command) (reply : Reply) → command ≡ due → Answers s command reply old new → next s ≡ after p command reply
      → (Answers s due reply old new → next s ≡ after p due reply → Comes p due reply) → Comes p command reply
  as_due p command due reply same answers goes comes =
      subst (λ (c : Command). Comes p c reply) (sym same) (comes (subst (λ (c : Command). Answers s c reply old new) same answers) (goes ∙ ap (λ (c : Command). after p c reply) same))

  waits : (command : Command) (reply : Reply) → place s ≡ Waits → IsBetween command → Answers s command reply old new → next s ≡ after Waits command reply → Comes Waits command reply
  waits (Num d n) reply stands between only goes = record { now = queue; serves = refl; stands = quietly seats s old new place next queue chain before Waits Waits stands (λ e. e) goes only tt; sound = tt }
  waits (NilCommand d) reply stands between only goes = record { now = queue; serves = refl; stands = quietly seats s old new place next queue chain before Waits Waits stands (λ e. e) goes only tt; sound = tt }
  waits Poll reply stands between only goes = record { now = queue; serves = refl; stands = quietly seats s old new place next queue chain before Waits Waits stands (λ e. e) goes only tt; sound = tt }
  waits Leave reply stands between only goes = record { now = queue; serves = refl; stands = quietly seats s old new place next queue chain before Waits Gone stands (λ e. e) goes only tt; sound = tt }
  waits (Get d r i) reply stands between answers goes = as_due Waits (Get d r i) (Get 14 0 1) reply between answers goes (λ a g. waits_get reply stands a g)
  waits _ reply stands between answers goes = absurd between

  rests : (command : Command) (reply : Reply) → place s ≡ Rests → IsBetween command → Answers s command reply old new → next s ≡ after Rests command reply → Comes Rests command reply
  rests (Num d n) reply stands between only goes = record { now = queue; serves = refl; stands = quietly seats s old new place next queue chain before Rests Rests stands (λ e. e) goes only tt; sound = tt }
  rests (NilCommand d) reply stands between only goes = record { now = queue; serves = refl; stands = quietly seats s old new place next queue chain before Rests Rests stands (λ e. e) goes only tt; sound = tt }
  rests Poll reply stands between only goes = record { now = queue; serves = refl; stands = quietly seats s old new place next queue chain before Rests Rests stands (λ e. e) goes only tt; sound = tt }
  rests Leave reply stands between only goes = record { now = queue; serves = refl; stands = quietly seats s old new place next queue chain before Rests Gone stands (λ e. e) goes only tt; sound = tt }
  rests (Get d r i) reply stands between answers goes = as_due Rests (Get d r i) (Get 14 0 1) reply between answers goes (λ a g. rests_get reply stands a g)
  rests _ reply stands between answers goes = absurd between

  begins : (command : Command) (reply : Reply) → place s ≡ Rests → IsStep Rests command → Answers s command reply old new → next s ≡ after Rests command reply → Comes Rests command reply
  begins command reply stands step answers goes = elim step as (λ _. Comes Rests command reply) [
    | inl new_node ↦ as_due Rests command (New 15 2) reply new_node answers goes (λ a g. puts.put_new seats s old new place next queue chain before stands a g)
    | inr get ↦ as_due Rests command (Get 14 0 0) reply get answers goes (λ a g. takes.take_first seats s old new place next queue chain before reply stands a g)
  ]

  pub comes : (p : Place) (command : Command) (reply : Reply) → place s ≡ p → IsDue p command → Answers s command reply old new → next s ≡ after p command reply → At seats old chain s p → Comes p command reply
  comes MakesNode command reply stands due answers goes at = absurd at
  comes SetsFirst command reply stands due answers goes at = absurd at
  comes SetsLast command reply stands due answers goes at = absurd at
  comes Gone command reply stands due answers goes at = absurd due
  comes Waits command reply stands due answers goes at = waits command reply stands due answers goes
  comes Rests command reply stands due answers goes at = elim due as (λ _. Comes Rests command reply) [
    | inl between ↦ rests command reply stands between answers goes
    | inr step ↦ begins command reply stands step answers goes
  ]
  comes PutValue command reply stands (v, free, due) answers goes at = as_due PutValue command (Set 15 0 v) reply due answers goes (λ a g. puts.put_value seats s old new place next queue chain before v reply free stands a g at)
  comes (PutLast v) command reply stands due answers goes at = as_due (PutLast v) command (Get 14 0 1) reply due answers goes (λ a g. puts.put_last seats s old new place next queue chain before v reply stands a g at)
  comes (PutNext v) command reply stands due answers goes at = as_due (PutNext v) command (Get 13 14 1) reply due answers goes (λ a g. puts.put_next seats s old new place next queue chain before v reply stands a g at)
  comes (PutHelps v stamp) command reply stands due answers goes at =
      as_due (PutHelps v stamp) command (Cas 0 1 14 13) reply due answers goes (λ a g. puts.put_helps seats s old new place next queue chain before v stamp reply stands a g at)
  comes (PutLinks v) command reply stands due answers goes at = as_due (PutLinks v) command (Cas 14 1 13 15) reply due answers goes (λ a g. puts.put_links seats s old new place next queue chain before v reply stands a g at)
  comes (PutSwings v) command reply stands due answers goes at = as_due (PutSwings v) command (Cas 0 1 14 15) reply due answers goes (λ a g. puts.put_swings seats s old new place next queue chain before v reply a g at)
  comes TakeLast command reply stands due answers goes at = as_due TakeLast command (Get 13 0 1) reply due answers goes (λ a g. takes.take_last seats s old new place next queue chain before reply stands a g at)
  comes TakeNext command reply stands due answers goes at = as_due TakeNext command (Get 12 14 1) reply due answers goes (λ a g. takes.take_next seats s old new place next queue chain before reply stands a g at)
  comes (TakeSame stamp) command reply stands due answers goes at =
      as_due (TakeSame stamp) command (Same 14 13) reply due answers goes (λ a g. takes.take_same seats s old new place next queue chain before stamp stands a g at)
  comes (TakeHelps stamp) command reply stands due answers goes at =
      as_due (TakeHelps stamp) command (Cas 0 1 13 12) reply due answers goes (λ a g. takes.take_helps seats s old new place next queue chain before stamp reply stands a g at)
  comes TakeValue command reply stands due answers goes at = as_due TakeValue command (Get 11 12 0) reply due answers goes (λ a g. takes.take_value seats s old new place next queue chain before reply stands a g at)
  comes TakeUnlinks command reply stands due answers goes at = as_due TakeUnlinks command (Cas 0 0 14 12) reply due answers goes (λ a g. takes.take_unlinks seats s old new place next queue chain before reply stands a g at)
  comes TakeCopies command reply stands (d, free, due) answers goes at = as_due TakeCopies command (Copy d 11) reply due answers goes (λ a g. takes.take_copies seats s old new place next queue chain before d reply stands a g)
