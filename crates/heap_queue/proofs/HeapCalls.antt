-- What each call of the heap adds to a making, a put or a take, and what it spends.
use Rattle.std.proofs.Common.{◌≡◌, ◌≢◌, ℕ, ◌+◌, ◌*◌, ◌≤◌, inl, inr, Bool, true, false, cond, eqb, List, [], ◌∷◌, ◌++◌, Some, None, refl, sym, ap, ◌∙◌, subst, append_assoc, arith}
use Rattle.heap_model.specs.declared.command.Command.{Command}
use Rattle.heap_model.specs.declared.command.Command.TheVariants as commands
use Rattle.heap_model.specs.declared.entry.Entry.{Entry}
use Rattle.heap_model.specs.declared.entry.Entry.TheVariants.{Said, GivesBack}
use Rattle.heap_model.specs.declared.refusal.PlaceRefusal.{PlaceRefusal}
use Rattle.heap_model.specs.declared.refusal.PlaceRefusal.TheVariants as refusals
use Rattle.heap_model.specs.declared.reply.Reply.{Reply}
use Rattle.heap_model.specs.declared.reply.Reply.TheVariants as replies
use Rattle.heap_model.specs.Command.{IsCommand}
use Rattle.heap_model.specs.Needs.{need_of, record_fragments, array_fragments}
use Rattle.heap_model.specs.calls.SeatCalls.{HasNumber, IsReady, Adds, ComesBefore, ClaimsBefore, ArrayBefore, AnswersBefore, takes_of, gives_of}
use Rattle.heap_model.specs.calls.SeatLaws.{most_made, most_stamped}
use Rattle.heap_model.specs.calls.SeatReplies.{refusal_reply}
use Rattle.heap_model.specs.calls.SeatState.{SeatState}
use Rattle.heap_model.proofs.call_lemmas.SeatCallLemmas.{each_call_leaves_room}
use Rattle.heap_model.proofs.call_lemmas.SeatGrowth.{each_call_counts}
use Rattle.heap_queue.specs.Calls.{Call, ends, IsWhole}
use Rattle.heap_queue.specs.Grows.{HasLeft, Completes, Spends}
use Rattle.heap_queue.specs.Places.{Place, IsStep, after}

-- claims, answers and fragments given back stand aside
module _ (place : Place) (call : Call) (rest : List Entry) (whole : IsWhole place rest call) where
  behind_takes : (number : ℕ) (counts : List ℕ) → IsWhole place (takes_of number counts ++ rest) call
  behind_takes number [] = whole
  behind_takes number (count ∷ counts) = behind_takes number counts

  behind_gives : (number : ℕ) (counts : List ℕ) → IsWhole place (gives_of number counts ++ rest) call
  behind_gives number [] = whole
  behind_gives number (count ∷ counts) = behind_gives number counts

behind_both : (place : Place) (call : Call) (rest : List Entry) (number : ℕ) (takes gives : List ℕ) → IsWhole place rest call → IsWhole place ((takes_of number takes ++ gives_of number gives) ++ rest) call
behind_both place call rest number takes gives whole =
    subst (λ (log : List Entry). IsWhole place log call) (sym (append_assoc (takes_of number takes) (gives_of number gives) rest))
    (behind_takes place call (gives_of number gives ++ rest) (behind_gives place call rest whole number gives) number takes)

behind_claims : (place : Place) (call : Call) (rest : List Entry) (number unborn need : ℕ) (reply : Reply) (before : List Entry) → IsWhole place rest call → ClaimsBefore number unborn need reply before → IsWhole place (before ++ rest) call
behind_claims place call rest number unborn need (replies.Made id) before whole claims =
    subst (λ (log : List Entry). IsWhole place (log ++ rest) call) (sym claims.2) (behind_takes place call rest whole number claims.0)
behind_claims place call rest number unborn need (replies.Full shown found) before whole claims =
    subst (λ (log : List Entry). IsWhole place (log ++ rest) call) (sym claims.3) (behind_both place call rest number claims.0 claims.0 whole)
behind_claims place call rest number unborn need _ before whole claims = absurd claims

behind_array : (place : Place) (call : Call) (rest : List Entry) (number unborn need : ℕ) (reply : Reply) (before : List Entry) → IsWhole place rest call → ArrayBefore number unborn need reply before → IsWhole place (before ++ rest) call
behind_array place call rest number unborn need (replies.SpineFull shown used) before whole none = subst (λ (log : List Entry). IsWhole place (log ++ rest) call) (sym none) whole
behind_array place call rest number unborn need reply before whole claims = behind_claims place call rest number unborn need reply before whole claims

behind_answer : (place : Place) (call : Call) (rest : List Entry) (number last : ℕ) (reply : Reply) (before : List Entry) → IsWhole place rest call → AnswersBefore number last reply before → IsWhole place (before ++ rest) call
behind_answer place call rest number last (replies.Phase p) before whole answers = elim answers as (λ _. IsWhole place (before ++ rest) call) [
  | inl none ↦ subst (λ (log : List Entry). IsWhole place (log ++ rest) call) (sym none.1) whole
  | inr one ↦ subst (λ (log : List Entry). IsWhole place (log ++ rest) call) (sym one.1) whole
]
behind_answer place call rest number last _ before whole answers = absurd answers

behind_last : (place : Place) (call : Call) (rest : List Entry) (number unborn : ℕ) (none : Bool) → IsWhole place rest call → IsWhole place (cond none [] (GivesBack number unborn ∷ []) ++ rest) call
behind_last place call rest number unborn true whole = whole
behind_last place call rest number unborn false whole = whole

behind : (place : Place) (call : Call) (rest : List Entry) (number unborn last : ℕ) (command : Command) (reply : Reply) (before : List Entry) → IsWhole place rest call → ComesBefore number unborn last command reply before → IsWhole place (before ++ rest) call
behind place call rest number unborn last (commands.New d fields) reply before whole comes = behind_claims place call rest number unborn (record_fragments fields) reply before whole comes
behind place call rest number unborn last (commands.Array d cells) reply before whole comes = behind_array place call rest number unborn (array_fragments cells) reply before whole comes
behind place call rest number unborn last commands.Poll reply before whole comes = behind_answer place call rest number last reply before whole comes
behind place call rest number unborn last commands.Leave reply before whole comes = subst (λ (log : List Entry). IsWhole place (log ++ rest) call) (sym comes) (behind_last place call rest number unborn (eqb unborn 0) whole)
behind place call rest number unborn last commands.Collect reply before whole comes = absurd comes
behind place call rest number unborn last command reply before whole comes = subst (λ (log : List Entry). IsWhole place (log ++ rest) call) (sym comes) whole

-- the call goes on with this call of the heap
pub goes : {old now new : SeatState} {shown : Reply} {call : Call} (place : Place) (command : Command) (reply : Reply) → Adds old now command shown → shown ≡ reply → IsStep place command → ends place command reply ≡ None
    → Completes (after place command reply) now new call → Completes place old new call
goes {old} {now} {new} {shown} {call} place command reply adds same step none more =
    let said : Entry = Said old.number command reply in
    let whole : IsWhole place (said ∷ more.added) call = (step, inr (none, more.whole)) in record {
      added = adds.before ++ said ∷ more.added;
      told = more.told ∙ ap (λ (mine : List Entry). mine ++ more.added) (adds.entries ∙ ap (λ (x : Reply). old.mine ++ (adds.before ++ Said old.number command x ∷ [])) same)
          ∙ append_assoc old.mine (adds.before ++ said ∷ []) more.added ∙ ap (λ (log : List Entry). old.mine ++ log) (append_assoc adds.before (said ∷ []) more.added);
      whole = behind place call (said ∷ more.added) old.number adds.unborn _ command shown adds.before whole adds.comes;
    }

-- the call ends with it
pub ends_so : {old new : SeatState} {shown : Reply} {call : Call} (place : Place) (command : Command) (reply : Reply) → Adds old new command shown → shown ≡ reply → IsStep place command → ends place command reply ≡ Some call → Completes place old new call
ends_so {old} {new} {shown} {call} place command reply adds same step is =
    let said : Entry = Said old.number command reply in
    let whole : IsWhole place (said ∷ []) call = (step, inl (is, refl)) in record {
      added = adds.before ++ said ∷ [];
      told = adds.entries ∙ ap (λ (x : Reply). old.mine ++ (adds.before ++ Said old.number command x ∷ [])) same;
      whole = behind place call (said ∷ []) old.number adds.unborn _ command shown adds.before whole adds.comes;
    }

-- it ends where there was no object or no field
ends_refused : (place : Place) (command : Command) (call : Call) → ends place command replies.NoObject ≡ Some call → ends place command replies.NoField ≡ Some call → (refusal : PlaceRefusal) → ends place command (refusal_reply refusal) ≡ Some call
ends_refused place command call no_object no_field refusals.NoObject = no_object
ends_refused place command call no_object no_field refusals.NoField = no_field

pub refused : {old new : SeatState} {shown : Reply} {call : Call} (place : Place) (command : Command) (refusal : PlaceRefusal) → Adds old new command shown → shown ≡ refusal_reply refusal → IsStep place command
    → ends place command replies.NoObject ≡ Some call → ends place command replies.NoField ≡ Some call → Completes place old new call
refused {old} {new} {shown} {call} place command refusal adds same step no_object no_field = ends_so place command (refusal_reply refusal) adds same step (ends_refused place command call no_object no_field refusal)

-- what one call of the heap spends
pub spends : {old new : SeatState} {reply : Reply} (command : Command) → command ≢ commands.Leave → Adds old new command reply → Spends (most_made command) (most_stamped command) (2 * need_of command + 2) old new
spends {old} {new} {reply} command other adds =
    let counts = each_call_counts old new command reply adds in
    record { heap = adds.heap; number = adds.number; left = counts.present_stays other; made = counts.made_more; sets = counts.sets_more; spare = let r = each_call_leaves_room old new command reply adds in omega arith }

-- what is spent in two steps
pub spends_both : {a b c d e f : ℕ} {old now new : SeatState} → Spends a b c old now → Spends d e f now new → Spends (a + d) (b + e) (c + f) old new
spends_both one two = record {
  heap = two.heap ∙ one.heap;
  number = two.number ∙ one.number;
  left = two.left ∙ one.left;
  made = let x = one.made in let y = two.made in omega arith;
  sets = let x = one.sets in let y = two.sets in omega arith;
  spare = let x = one.spare in let y = two.spare in omega arith;
}

-- and with one call of the heap more
pub spends_more : {a b c : ℕ} {old now new : SeatState} {reply : Reply} (command : Command) → command ≢ commands.Leave → Spends a b c old now → Adds now new command reply
    → Spends (a + most_made command) (b + most_stamped command) (c + (2 * need_of command + 2)) old new
spends_more command other one adds = spends_both one (spends command other adds)

-- that is no more than so much
pub spends_most : {a b c : ℕ} {old new : SeatState} (names stamps room : ℕ) → Spends a b c old new → a ≤ names → b ≤ stamps → c ≤ room → Spends names stamps room old new
spends_most names stamps room one n s r = record {
  heap = one.heap;
  number = one.number;
  left = one.left;
  made = let x = one.made in omega arith;
  sets = let x = one.sets in omega arith;
  spare = let x = one.spare in omega arith;
}

-- what is left then
pub left_then : {names stamps room a b c : ℕ} {old new : SeatState} (n s r : ℕ) → HasLeft names stamps room old → Spends a b c old new → n + a ≤ names → s + b ≤ stamps → r + c ≤ room → HasLeft n s r new
left_then n s r has one x y z = record {
  present = one.left ∙ has.present;
  names_left = let e = has.names_left in let f = one.made in omega arith;
  sets_left = let e = has.sets_left in let f = one.sets in omega arith;
  room_left = let e = has.room_left in let f = one.spare in omega arith;
}

-- a number is left for the command
numbered : (seat : SeatState) (command : Command) (room : ℕ) → HasLeft (most_made command) (most_stamped command) room seat → HasNumber seat command
numbered seat (commands.New d fields) room has = has.names_left
numbered seat (commands.Array d cells) room has = has.names_left
numbered seat (commands.Set r i v) room has = has.sets_left
numbered seat (commands.Cas r i a v) room has = has.sets_left
numbered seat command room has = tt

-- the seat may be given the command, first
pub is_ready : {seat : SeatState} (command : Command) → HasLeft (most_made command) (most_stamped command) (2 * need_of command + 4) seat → IsCommand command → IsReady seat command
is_ready {seat} command has in_range = record { present = has.present; in_range = in_range; room = has.room_left; numbered = numbered seat command (2 * need_of command + 4) has }

-- and after others
pub is_ready_then : {names stamps room a b c : ℕ} {old now : SeatState} (command : Command) → HasLeft names stamps room old → Spends a b c old now → most_made command + a ≤ names → most_stamped command + b ≤ stamps → 2 * need_of command + 4 + c ≤ room
    → IsCommand command → IsReady now command
is_ready_then command has one x y z in_range = is_ready command (left_then (most_made command) (most_stamped command) (2 * need_of command + 4) has one x y z) in_range

-- the seat has at least so much left
pub left_less : {names stamps room : ℕ} {seat : SeatState} (n s r : ℕ) → HasLeft names stamps room seat → n ≤ names → s ≤ stamps → r ≤ room → HasLeft n s r seat
left_less n s r has x y z = record {
  present = has.present;
  names_left = let e = has.names_left in omega arith;
  sets_left = let e = has.sets_left in omega arith;
  room_left = let e = has.room_left in omega arith;
}
