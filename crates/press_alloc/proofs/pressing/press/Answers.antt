use Rattle.std.proofs.Common.{◌<◌, refl, sym, subst, ◌∙◌, rules}
use Rattle.std.proofs.lemmas.Result.{IfOk-weaker}
use Rattle.heap_model.specs.declared.heap.Heap.{Heap}
use Rattle.press_alloc.proofs.Calling.{refused_may_collect, collected_may_try_again}
use Rattle.press_alloc.proofs.Pressed.{third_call_is_final}
use Rattle.press_alloc.proofs.pressing.press.Goals as goal

pub call-requires-2 : goal.call-requires-2
call-requires-2 g c = record {
  may = refused_may_collect (g.W.Caller.heap c.args.whole.now) (g.W.Caller.history c.args.whole.now) (g.W.Caller.history c.call.new.self) c.args.seat c.args.command.now c.in_ok-reply.reply
      c.requires.may c.requires.allocates (c.if-not-refuses_space.ensures.0 refl) c.in_ok-reply.ensures.adds (g.W.Caller.heap c.call.new.self) c.in_ok-reply.ensures.heap;
}

pub call-requires-3 : goal.call-requires-3
call-requires-3 g c = record {
  may = collected_may_try_again (g.W.Caller.heap c.args.whole.now) (g.W.Caller.history c.args.whole.now) (g.W.Caller.history c.call.new.self) c.args.seat c.args.command.now c.in_ok-reply.reply
      c.requires.may c.requires.allocates (c.if-not-refuses_space.ensures.0 refl) c.in_ok-reply.ensures.adds (g.W.Caller.history c.call-2.new.self) c.in_ok-call.field-0 c.in_ok-call.ensures.adds
      (g.W.Caller.heap c.call-2.new.self) (c.in_ok-call.ensures.heap ∙ c.in_ok-reply.ensures.heap);
}

pub returns : goal.returns
returns g c =
    let final = third_call_is_final (g.W.Caller.heap c.call-2.new.self) (g.W.Caller.heap c.call-3.new.self) c.args.seat c.args.command.now
    (g.W.Caller.history c.args.whole.now) (g.W.Caller.history c.call.new.self) (g.W.Caller.history c.call-2.new.self) (g.W.Caller.history c.call-3.new.self)
    c.in_ok-reply.reply c.in_ok-call.field-0 c.call-3.result
    (subst (λ (h : Heap). c.args.seat < h.seats) (sym (c.in_ok-call.ensures.heap ∙ c.in_ok-reply.ensures.heap)) c.requires.may.within)
    c.requires.allocates (c.if-not-refuses_space.ensures.0 refl) c.in_ok-reply.ensures.adds c.in_ok-call.ensures.adds
    c.call-3.ensures.heap c.call-3.ensures.adds c.call-3.ensures.legal in record {
      heap = search rules;
      adds = search rules;
      called = search rules;
      legal = search rules;
      fragments = IfOk-weaker c.call-3.result _ _ (λ reply f. f.fragments) final;
      words = IfOk-weaker c.call-3.result _ _ (λ reply f. f.words) final;
      cycle = IfOk-weaker c.call-3.result _ _ (λ reply f. f.cycle) final;
    }
