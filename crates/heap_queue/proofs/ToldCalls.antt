-- Of a whole put or take one is told.
use Rattle.std.proofs.Common.{◌≡◌, ℕ, zero, inl, inr, Bool, false, cond, eqb, List, [], ◌∷◌, Option, Some, None, refl, sym, ap, ◌∙◌, subst}
use Rattle.heap_model.specs.declared.command.Command.{Command}
use Rattle.heap_model.specs.declared.command.Command.TheVariants.{New, Array, Get, Set, Cas, Num, Nil as NilCommand, Copy, Same, Leave}
use Rattle.heap_model.specs.declared.entry.Entry.{Entry}
use Rattle.heap_model.specs.declared.entry.Entry.TheVariants.{Said}
use Rattle.heap_model.specs.declared.id.Value.{Value}
use Rattle.heap_model.specs.declared.id.Value.TheVariants.{Nil, Object}
use Rattle.heap_model.specs.declared.reply.Reply.{Reply}
use Rattle.heap_model.specs.declared.reply.Reply.TheVariants as replies
use Rattle.heap_queue.specs.declared.replies.PutReply.TheVariants as puts
use Rattle.heap_queue.specs.declared.replies.TakeReply.TheVariants as takes
use Rattle.heap_queue.specs.declared.told.Told.{Told}
use Rattle.heap_queue.specs.declared.told.Told.TheVariants.{Put, Took, Take}
use Rattle.heap_queue.specs.Calls.{Call, PutRefused, PutCall, TookInto, TakeCall, IsWhole, ends, if_refused}
use Rattle.heap_queue.specs.Places.{Place, MakesNode, SetsFirst, SetsLast, Waits, Rests, Gone, PutValue, PutLast, PutNext, PutHelps, PutLinks, PutSwings, TakeLast, TakeNext, TakeSame, TakeHelps, TakeValue, TakeUnlinks, TakeCopies, IsStep, after}
use Rattle.heap_queue.specs.Serving.{put_register}
use Rattle.heap_queue.specs.Telling.{told_by, told_if_ends, told_of_end}
use Rattle.heap_queue.specs.ToldBySeat.{held_after, if_told, told_along}
use Rattle.heap_queue.proofs.WholeCalls.{ended_is}

-- this is told of the call, where the register that a script puts holds this value
abbrev pub IsToldAs : Value → Call → Told → Type 0
IsToldAs value (PutRefused need found) told = told ≡ Put value (puts.Full need found)
IsToldAs value (PutCall v reply) told = v ≡ put_register → told ≡ Put value reply
IsToldAs value (TookInto d) told = (taken : Value) × (told ≡ Took taken)
IsToldAs value (TakeCall reply) told = told ≡ Take reply
IsToldAs value call told = ⊥

-- one is told of it, and nothing else
pub record TellsOne (value : Value) (call : Call) (all : List Told) : Type 0 where
  pub told : Told
  pub only : all ≡ told ∷ []
  pub is : IsToldAs value call told

-- what a call tells from this place on: nothing where its put has linked or its take has unlinked
abbrev Tells : Value → Place → Call → List Told → Type 0
Tells value MakesNode call all = Unit {0}
Tells value SetsFirst call all = Unit {0}
Tells value SetsLast call all = Unit {0}
Tells value (PutSwings v) call all = (call ≡ PutCall v puts.Ok) × (all ≡ [])
Tells value TakeCopies call all = (d : ℕ) × (call ≡ TookInto d) × (all ≡ [])
Tells value place call all = TellsOne value call all

-- the command leaves the register that a script puts
abbrev Leaves : Command → Type 0
Leaves (New d fields) = eqb put_register d ≡ false
Leaves (Get d r i) = eqb put_register d ≡ false
Leaves (Set r i v) = Unit {0}
Leaves (Cas r i a v) = Unit {0}
Leaves (Same a b) = Unit {0}
Leaves command = ⊥

left_alone : (held : ℕ → Value) (command : Command) (reply : Reply) → Leaves command → held_after held command reply put_register ≡ held put_register
left_alone held (New d fields) (replies.Made id) leaves = ap (λ (b : Bool). cond b (Object id) (held put_register)) leaves
left_alone held (Get d r i) (replies.Got value stamp) leaves = ap (λ (b : Bool). cond b value (held put_register)) leaves
left_alone held (Array d cells) reply leaves = absurd leaves
left_alone held (Num d n) reply leaves = absurd leaves
left_alone held (NilCommand d) reply leaves = absurd leaves
left_alone held (Copy d r) reply leaves = absurd leaves
left_alone held Leave reply leaves = absurd leaves
left_alone held command reply leaves = refl

-- a copy ends its call
copy_ends_call : (command : Command) (reply : Reply) → IsStep TakeCopies command → ends TakeCopies command reply ≡ None → ⊥
copy_ends_call command reply (d, free, is) none = let taken : Some (TookInto d) ≡ None = subst (λ (c : Command). ends TakeCopies c reply ≡ None) is none in absurd (cc)

-- each other step leaves it so
step_leaves : (place : Place) (command : Command) (reply : Reply) → IsStep place command → ends place command reply ≡ None → Leaves command
step_leaves MakesNode command reply step none = subst Leaves (sym step) refl
step_leaves SetsFirst command reply step none = subst Leaves (sym step) tt
step_leaves SetsLast command reply step none = subst Leaves (sym step) tt
step_leaves Waits command reply step none = absurd step
step_leaves Rests command reply step none = elim step as (λ _. Leaves command) [ inl new ↦ subst Leaves (sym new) refl | inr get ↦ subst Leaves (sym get) refl ]
step_leaves Gone command reply step none = absurd step
step_leaves PutValue command reply step none = subst Leaves (sym step.2) tt
step_leaves (PutLast v) command reply step none = subst Leaves (sym step) refl
step_leaves (PutNext v) command reply step none = subst Leaves (sym step) refl
step_leaves (PutHelps v stamp) command reply step none = subst Leaves (sym step) tt
step_leaves (PutLinks v) command reply step none = subst Leaves (sym step) tt
step_leaves (PutSwings v) command reply step none = subst Leaves (sym step) tt
step_leaves TakeLast command reply step none = subst Leaves (sym step) refl
step_leaves TakeNext command reply step none = subst Leaves (sym step) refl
step_leaves (TakeSame stamp) command reply step none = subst Leaves (sym step) tt
step_leaves (TakeHelps stamp) command reply step none = subst Leaves (sym step) tt
step_leaves TakeValue command reply step none = subst Leaves (sym step) refl
step_leaves TakeUnlinks command reply step none = subst Leaves (sym step) tt
step_leaves TakeCopies command reply step none = absurd (copy_ends_call command reply step none)

module _ (held : ℕ → Value) (value : Value) (is : held put_register ≡ value) where
  -- what is told of a call where it ends
  abbrev IsToldLast : Call → Type 0
  IsToldLast (PutRefused need found) = Unit {0}
  IsToldLast (PutCall v puts.Ok) = ⊥
  IsToldLast (PutCall v reply) = Unit {0}
  IsToldLast (TakeCall reply) = Unit {0}
  IsToldLast call = ⊥

  told_last : (call : Call) → IsToldLast call → TellsOne value call (if_told (told_of_end held call) [])
  told_last (PutRefused need found) last = record { told = Put (held put_register) (puts.Full need found); only = refl; is = ap (λ (x : Value). Put x (puts.Full need found)) is }
  told_last (PutCall v puts.Ok) last = absurd last
  told_last (PutCall v reply) last = record { told = Put (held v) reply; only = refl; is = λ same. ap (λ (x : Value). Put x reply) (ap held same ∙ is) }
  told_last (TakeCall reply) last = record { told = Take reply; only = refl; is = refl }
  told_last call last = absurd last

  -- a call that ends, whatever it is, and one that is refused
  ended : (one call : Call) → Some one ≡ Some call → IsToldLast one → TellsOne value call (if_told (told_of_end held one) [])
  ended one call same last = subst (λ (c : Call). TellsOne value c (if_told (told_of_end held one) [])) (ended_is one call same) (told_last one last)

  refused : (one call : Call) (reply : Reply) → if_refused one reply ≡ Some call → IsToldLast one → TellsOne value call (if_told (told_if_ends held (if_refused one reply)) [])
  refused one call replies.NoObject same last = ended one call same last
  refused one call replies.NoField same last = ended one call same last
  refused one call reply same last = absurd (cc)

  -- a reply that ends a call
  end_tells : (place : Place) (command : Command) (reply : Reply) (call : Call) → IsStep place command → ends place command reply ≡ Some call → Tells value place call (if_told (told_by held place command reply) [])
  end_tells MakesNode command reply call step same = tt
  end_tells SetsFirst command reply call step same = tt
  end_tells SetsLast command reply call step same = tt
  end_tells Rests (New d fields) (replies.Full need found) call step same = ended (PutRefused need found) call same tt
  end_tells Rests (Get d r zero) reply call step same = refused (TakeCall takes.NoQueue) call reply same tt
  end_tells PutValue (Set r i v) reply call step same = refused (PutCall v puts.NoQueue) call reply same tt
  end_tells (PutLast v) command reply call step same = refused (PutCall v puts.NoQueue) call reply same tt
  end_tells (PutNext v) command reply call step same = refused (PutCall v puts.NoQueue) call reply same tt
  end_tells (PutHelps v stamp) command reply call step same = ended (PutCall v (puts.Again stamp)) call same tt
  end_tells (PutLinks v) command (replies.Now stamp) call step same = ended (PutCall v (puts.Again stamp)) call same tt
  end_tells (PutLinks v) command (replies.Was stamp) call step same = absurd (cc)
  end_tells (PutLinks v) command reply call step same = refused (PutCall v puts.NoQueue) call reply same tt
  end_tells (PutSwings v) command reply call step same = (sym (ended_is (PutCall v puts.Ok) call same), refl)
  end_tells TakeLast command reply call step same = refused (TakeCall takes.NoQueue) call reply same tt
  end_tells TakeNext command (replies.Got Nil stamp) call step same = ended (TakeCall takes.Empty) call same tt
  end_tells TakeNext command reply call step same = refused (TakeCall takes.NoQueue) call reply same tt
  end_tells (TakeHelps stamp) command reply call step same = ended (TakeCall (takes.Again stamp)) call same tt
  end_tells TakeValue command reply call step same = refused (TakeCall takes.NoQueue) call reply same tt
  end_tells TakeUnlinks command (replies.Now stamp) call step same = ended (TakeCall (takes.Again stamp)) call same tt
  end_tells TakeUnlinks command (replies.Was stamp) call step same = absurd (cc)
  end_tells TakeUnlinks command reply call step same = refused (TakeCall takes.NoQueue) call reply same tt
  end_tells TakeCopies (Copy d r) reply call step same = (d, sym (ended_is (TookInto d) call same), refl)
  end_tells place command reply call step same = absurd (cc)

  -- a reply that ends none tells none
  unspoken : (one : Option Call) (call : Call) (rest : List Told) → one ≡ None → TellsOne value call rest → TellsOne value call (if_told (told_if_ends held one) rest)
  unspoken one call rest none tells = subst (λ (o : Option Call). TellsOne value call (if_told (told_if_ends held o) rest)) (sym none) tells

  -- but where it links or unlinks
  step_tells : (place : Place) (command : Command) (reply : Reply) (call : Call) (rest : List Told) → IsStep place command → ends place command reply ≡ None → Tells value (after place command reply) call rest
      → Tells value place call (if_told (told_by held place command reply) rest)
  step_tells MakesNode command reply call rest step none tells = tt
  step_tells SetsFirst command reply call rest step none tells = tt
  step_tells SetsLast command reply call rest step none tells = tt
  step_tells Waits command reply call rest step none tells = absurd step
  step_tells Rests Leave reply call rest step none tells = tells
  step_tells Rests (New d fields) (replies.Made id) call rest step none tells = tells
  step_tells Rests (Get d r zero) (replies.Got value stamp) call rest step none tells = tells
  step_tells Gone command reply call rest step none tells = absurd step
  step_tells PutValue (Set r i v) (replies.Was stamp) call rest step none tells = tells
  step_tells (PutLast v) command (replies.Got value stamp) call rest step none tells = tells
  step_tells (PutNext v) command (replies.Got (Object id) stamp) call rest step none tells = tells
  step_tells (PutNext v) command (replies.Got value stamp) call rest step none tells = tells
  step_tells (PutLinks v) command (replies.Was stamp) call rest step none (call_is, none_more) = record {
    told = Put (held v) puts.Ok;
    only = ap (λ (more : List Told). Put (held v) puts.Ok ∷ more) none_more;
    is = subst (λ (c : Call). IsToldAs value c (Put (held v) puts.Ok)) (sym call_is) (λ same. ap (λ (x : Value). Put x puts.Ok) (ap held same ∙ is));
  }
  step_tells (PutSwings v) command reply call rest step none tells = absurd (cc)
  step_tells TakeLast command (replies.Got value stamp) call rest step none tells = tells
  step_tells TakeNext command (replies.Got Nil stamp) call rest step none tells = absurd (cc)
  step_tells TakeNext command (replies.Got value stamp) call rest step none tells = tells
  step_tells (TakeSame stamp) command replies.Yes call rest step none tells = tells
  step_tells (TakeSame stamp) command replies.No call rest step none tells = tells
  step_tells TakeValue command (replies.Got value stamp) call rest step none tells = tells
  step_tells TakeUnlinks command (replies.Was stamp) call rest step none (d, call_is, none_more) = record {
    told = Took (held 11);
    only = ap (λ (more : List Told). Took (held 11) ∷ more) none_more;
    is = subst (λ (c : Call). IsToldAs value c (Took (held 11))) (sym call_is) (held 11, refl);
  }
  step_tells TakeCopies command reply call rest step none tells = absurd (copy_ends_call command reply step none)
  step_tells place command reply call rest step none tells = unspoken (ends place command reply) call rest none tells

-- a call from any of its places on
whole_tells : (held : ℕ → Value) (value : Value) (place : Place) (log : List Entry) (call : Call) → held put_register ≡ value → IsWhole place log call → Tells value place call (told_along held place log)
whole_tells held value place [] call is whole = absurd whole
whole_tells held value place (Said number command reply ∷ log) call is (step, rest) = elim rest as (λ _. Tells value place call (told_along held place (Said number command reply ∷ log))) [
  | inl last ↦ subst (λ (x : List Entry). Tells value place call (told_along held place (Said number command reply ∷ x))) (sym last.1) (end_tells held value is place command reply call step last.0)
  | inr more ↦ step_tells held value is place command reply call (told_along (held_after held command reply) (after place command reply) log) step more.0
      (whole_tells (held_after held command reply) value (after place command reply) log call (left_alone held command reply (step_leaves place command reply step more.0) ∙ is) more.1)
]
whole_tells held value place (entry ∷ log) call is whole = whole_tells held value place log call is whole

-- a put or a take from its first call of the heap on
pub call_tells : (held : ℕ → Value) (log : List Entry) (call : Call) → IsWhole Rests log call → TellsOne (held put_register) call (told_along held Rests log)
call_tells held log call whole = whole_tells held (held put_register) Rests log call refl whole
