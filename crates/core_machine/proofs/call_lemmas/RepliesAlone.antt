-- Commands whose calls tell their reply alone, and refusals that leave the registers.
use Rattle.std.specs.Prelude.{nat_lt, if◌then◌else◌}
use Rattle.std.proofs.Common.{◌≡◌, ℕ, Bool, true, false, List, Option, Some, None, refl}
use Rattle.core_machine.proofs.Terms.{Command, Reply, Register, IsPlaceRefusal, MakesObject, field_reply_of, meta_reply_of, register_in, value_of, is_same_value, length_of, IsGet}
use Rattle.core_machine.proofs.Terms.{IsSet, IsCas, NamesObject, IsLocal}
use Rattle.heap_model.specs.declared.command.Command.TheVariants as commands
use Rattle.heap_model.specs.declared.reply.Reply.TheVariants.{NoObject, NoField}
use Rattle.core_machine.specs.seat.Local.{answer_of, local_reply_of, local_registers, local_seen}

-- the command makes no object, asks for no phase, isn't a leave, and is a single call
abbrev pub RepliesAlone : Command → Type 0
RepliesAlone (commands.New d fields) = ⊥
RepliesAlone (commands.Array d cells) = ⊥
RepliesAlone commands.Poll = ⊥
RepliesAlone commands.Collect = ⊥
RepliesAlone commands.Leave = ⊥
RepliesAlone _ = Unit {0}

pub local_replies_alone : (registers : List Register) (command : Command) → IsLocal registers command → RepliesAlone command
local_replies_alone registers (commands.New d fields) local = local
local_replies_alone registers (commands.Array d cells) local = local
local_replies_alone registers commands.Poll local = local
local_replies_alone registers commands.Collect local = local
local_replies_alone registers commands.Leave local = local
local_replies_alone registers _ local = tt

pub object_replies_alone : (command : Command) → NamesObject command → RepliesAlone command
object_replies_alone (commands.Get d r i) names = tt
object_replies_alone (commands.Set r i v) names = tt
object_replies_alone (commands.Cas r i a v) names = tt
object_replies_alone (commands.Len r) names = tt
object_replies_alone _ names = absurd names

pub get_replies_alone : (command : Command) → IsGet command → RepliesAlone command
get_replies_alone (commands.Get d r i) a_get = tt
get_replies_alone _ a_get = absurd a_get

pub set_replies_alone : (command : Command) → IsSet command → RepliesAlone command
set_replies_alone (commands.Set r i v) a_set = tt
set_replies_alone _ a_set = absurd a_set

pub cas_replies_alone : (command : Command) → IsCas command → RepliesAlone command
cas_replies_alone (commands.Cas r i a v) a_cas = tt
cas_replies_alone _ a_cas = absurd a_cas

-- such a command makes no object
pub alone_makes_no_object : (command : Command) → RepliesAlone command → MakesObject command → ⊥
alone_makes_no_object (commands.New d fields) alone makes = alone
alone_makes_no_object (commands.Array d cells) alone makes = alone
alone_makes_no_object _ alone makes = makes

-- such a call that looks at no word is refused without an object alone
pub local_reply_is_no_object : (registers : List Register) (command : Command) → IsPlaceRefusal (local_reply_of registers command) → local_reply_of registers command ≡ NoObject
local_reply_is_no_object registers (commands.Num d n) refusal = absurd refusal
local_reply_is_no_object registers (commands.Nil d) refusal = absurd refusal
local_reply_is_no_object registers (commands.Copy d r) refusal = absurd refusal
local_reply_is_no_object registers (commands.Same a b) refusal = by (is_same_value (value_of (register_in registers a)) (value_of (register_in registers b))) refusal
  where
    by : (same : Bool) → IsPlaceRefusal (answer_of same) → answer_of same ≡ NoObject
    by true refused = absurd refused
    by false refused = absurd refused
local_reply_is_no_object registers _ refusal = refl

-- the reply, where there is one, isn't that of a call without an object
abbrev pub IsBeyond : Option Reply → Type 0
IsBeyond (Some NoObject) = ⊥
IsBeyond _ = Unit {0}

field_beyond : (field found : ℕ) → IsBeyond (field_reply_of field found)
field_beyond field found = by (nat_lt field (length_of found))
  where
    by : (b : Bool) → IsBeyond (if b then None else Some NoField)
    by true = tt
    by false = tt

pub meta_reply_is_beyond : (command : Command) (found : ℕ) → IsBeyond (meta_reply_of command found)
meta_reply_is_beyond (commands.Get d r i) found = field_beyond i found
meta_reply_is_beyond (commands.Set r i v) found = field_beyond i found
meta_reply_is_beyond (commands.Cas r i a v) found = field_beyond i found
meta_reply_is_beyond _ found = tt

-- a refusal leaves the registers
pub refusal_leaves_registers : (registers : List Register) (command : Command) → IsPlaceRefusal (local_reply_of registers command) → local_registers registers command ≡ registers
refusal_leaves_registers registers (commands.Num d n) refusal = absurd refusal
refusal_leaves_registers registers (commands.Nil d) refusal = absurd refusal
refusal_leaves_registers registers (commands.Copy d r) refusal = absurd refusal
refusal_leaves_registers registers _ refusal = refl

-- and the stamps under which they were seen
pub refusal_leaves_seen : (registers : List Register) (seen : List ℕ) (command : Command) → IsPlaceRefusal (local_reply_of registers command) → local_seen seen command ≡ seen
refusal_leaves_seen registers seen (commands.Num d n) refusal = absurd refusal
refusal_leaves_seen registers seen (commands.Nil d) refusal = absurd refusal
refusal_leaves_seen registers seen (commands.Copy d r) refusal = absurd refusal
refusal_leaves_seen registers seen _ refusal = refl
