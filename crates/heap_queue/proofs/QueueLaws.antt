-- The laws of every history of a queue.
use Rattle.std.proofs.Common.{◌≡◌, ℕ, ◌<◌, List, [], ◌∷◌, Option, Some, None, sym, subst, arith}
use Rattle.std.specs.Option.{IfSome}
use Rattle.heap_model.specs.declared.entry.Entry.{Entry}
use Rattle.heap_model.specs.declared.entry.Entry.TheVariants.{Said}
use Rattle.heap_queue.specs.declared.replies.PutReply.TheVariants as puts
use Rattle.heap_queue.specs.declared.replies.TakeReply.TheVariants as takes
use Rattle.heap_queue.specs.Calls.{Call, PutCall, TakeCall, calls_in, QueueMade, ends}
use Rattle.heap_queue.specs.Effects.{Places, start, moved}
use Rattle.heap_queue.specs.Histories.{IsQueueLog}
use Rattle.heap_queue.specs.Laws.{ShowsForeign, IsDone, FindsQueue, HoldsOfEach, EffectsAreLegal, EachFindsQueue, AgainsAreForeign, EachIsDoneAlone, OrdersAreHistories}
use Rattle.heap_queue.specs.Places.{MakesNode}
use Rattle.heap_queue.proofs.Moves.{IsSound}
use Rattle.heap_queue.proofs.EveryHistory.{all_told}

-- what is weaker holds of each call too
if_some_weaker : (P Q : Call → Type 0) → ((call : Call) → P call → Q call) → (o : Option Call) → IfSome o P → IfSome o Q
if_some_weaker P Q weaker None holds = tt
if_some_weaker P Q weaker (Some call) holds = weaker call holds

each_weaker : (P Q : ℕ → Call → Type 0) → ((s : ℕ) (call : Call) → P s call → Q s call) → (place : Places) (history : List Entry) → HoldsOfEach P place history → HoldsOfEach Q place history
each_weaker P Q weaker place [] holds = tt
each_weaker P Q weaker place (Said s command reply ∷ history) holds =
    (if_some_weaker (P s) (Q s) (weaker s) (ends (place s) command reply) holds.0, each_weaker P Q weaker (moved place (Said s command reply)) history holds.1)
each_weaker P Q weaker place (entry ∷ history) holds = (tt, each_weaker P Q weaker place history holds.1)

-- no stamp is another seat's where there is one
alone_is_done : (s : ℕ) (call : Call) → s < 1 → ShowsForeign 1 s call → IsDone call
alone_is_done s (PutCall v (puts.Again stamp)) there foreign = absurd (foreign.1 (let below = foreign.2 in omega arith))
alone_is_done s (TakeCall (takes.Again stamp)) there foreign = absurd (foreign.1 (let below = foreign.2 in omega arith))
alone_is_done s call there foreign = tt

pub effects_are_legal : EffectsAreLegal
effects_are_legal heap maker history two is = let it = all_told heap maker history two is in (it.now, it.serves)

pub each_finds_queue : EachFindsQueue
each_finds_queue heap maker history two is = each_weaker (IsSound heap.seats) (λ s call. FindsQueue call) (λ s call sound. sound.finds) (start maker) history (all_told heap maker history two is).sound

pub agains_are_foreign : AgainsAreForeign
agains_are_foreign heap maker history two is = each_weaker (IsSound heap.seats) (ShowsForeign heap.seats) (λ s call sound. sound.foreign) (start maker) history (all_told heap maker history two is).sound

pub each_is_done_alone : EachIsDoneAlone
each_is_done_alone heap maker history two is alone = each_weaker (IsSound 1) (λ s call. IsDone call) (λ s call sound. alone_is_done s call sound.there sound.foreign) (start maker) history
    (subst (λ (seats : ℕ). HoldsOfEach (IsSound seats) (start maker) history) alone (all_told heap maker history two is).sound)

-- what holds of the logs holds of their order
pub orders_are_histories : OrdersAreHistories
orders_are_histories heap maker log history logs legal same = record {
  legal = legal;
  logs = record {
    each = λ t. subst (IsQueueLog (start maker t)) (sym (same t)) (logs.each t);
    later = logs.later;
    made = subst (λ (x : List Entry). calls_in MakesNode x ≡ QueueMade ∷ logs.later) (sym (same maker)) logs.made;
  };
}
