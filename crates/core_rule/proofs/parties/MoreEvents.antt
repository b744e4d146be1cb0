-- Events that come after others.
use Rattle.std.proofs.Common.{◌≡◌, List, [], ◌∷◌, ◌++◌, refl, sym, ap, ◌∙◌, append_assoc}
use Rattle.core_rule.proofs.Terms.{Heap, Entry, State, Event, state_after, entries, Run, state_after_all, history, OneCallAtATime}

pub Run-append : (heap : Heap) (state : State) (events more : List Event) → Run heap state events → Run heap (state_after_all heap state events) more → Run heap state (events ++ more)
Run-append heap state [] more run then_ = then_
Run-append heap state (event ∷ events) more run then_ = (run.0, Run-append heap (state_after heap state event) events more run.1 then_)

pub OneCall-append : (heap : Heap) (state : State) (events more : List Event) → OneCallAtATime heap state events → OneCallAtATime heap (state_after_all heap state events) more
    → OneCallAtATime heap state (events ++ more)
OneCall-append heap state [] more whole then_ = then_
OneCall-append heap state (event ∷ events) more whole then_ = (whole.0, OneCall-append heap (state_after heap state event) events more whole.1 then_)

pub after_all-append : (heap : Heap) (state : State) (events more : List Event) → state_after_all heap state (events ++ more) ≡ state_after_all heap (state_after_all heap state events) more
after_all-append heap state [] more = refl
after_all-append heap state (event ∷ events) more = after_all-append heap (state_after heap state event) events more

pub history-append : (heap : Heap) (state : State) (events more : List Event)
    → history heap state (events ++ more) ≡ history heap state events ++ history heap (state_after_all heap state events) more
history-append heap state [] more = refl
history-append heap state (event ∷ events) more =
    ap (λ (l : List Entry). entries heap state event ++ l) (history-append heap (state_after heap state event) events more)
    ∙ sym (append_assoc (entries heap state event) (history heap (state_after heap state event) events) (history heap (state_after_all heap (state_after heap state event) events) more))
