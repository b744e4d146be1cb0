-- How a seat goes on with its script, by what it tells and uses up.
use Rattle.std.proofs.Common.{◌≡◌, ◌≢◌, ℕ, ◌+◌, ◌*◌, ◌≤◌, inl, inr, List, [], ◌∷◌, ◌++◌, refl, sym, ap, ◌∙◌, subst, append_assoc, append-nil, arith}
use Rattle.heap_model.specs.declared.command.Command.{Command}
use Rattle.heap_model.specs.declared.command.Command.TheVariants.{Poll, Leave}
use Rattle.heap_model.specs.declared.entry.Entry.{Entry}
use Rattle.heap_model.specs.declared.entry.Entry.TheVariants.{Said}
use Rattle.heap_model.specs.declared.reply.Reply.{Reply}
use Rattle.heap_model.specs.declared.reply.Reply.TheVariants.{Phase}
use Rattle.heap_model.specs.account.PhaseCounts.{last_answer}
use Rattle.heap_model.specs.calls.SeatCalls.{Adds, AnswersBefore}
use Rattle.heap_model.specs.calls.SeatLaws.{most_made, most_stamped}
use Rattle.heap_model.specs.calls.SeatState.{SeatState}
use Rattle.heap_model.proofs.call_lemmas.SeatGrowth.{each_call_counts}
use Rattle.heap_queue.specs.Grows.{Spends}
use Rattle.heap_queue.specs.Serving.{IsPolled, HasLeftFor, GoesOnBy}

-- nothing was told
pub goes_nowhere : (Tells : List Entry → Type 0) (seat : SeatState) → Tells [] → GoesOnBy 0 Tells seat seat
goes_nowhere Tells seat tells = record { heap = refl; number = refl; present = refl; made = omega arith; sets = omega arith; added = []; told = sym (append-nil seat.mine); tells = tells }

-- there was room made
pub goes_with_room : {puts : ℕ} {Tells : List Entry → Type 0} {old now new : SeatState} → GoesOnBy puts Tells old now → new ≡ record now { spare = new.spare } → GoesOnBy puts Tells old new
goes_with_room {puts} {Tells} {old} {now} {new} one room =
    subst (GoesOnBy puts Tells old) (sym room) (record { heap = one.heap; number = one.number; present = one.present; made = one.made; sets = one.sets; added = one.added; told = one.told; tells = one.tells })

-- one behind the other
pub goes_both : {a b : ℕ} {P Q : List Entry → Type 0} {old now new : SeatState} (n : ℕ) (R : List Entry → Type 0) → a + b ≤ n → ((one more : List Entry) → P one → Q more → R (one ++ more)) → GoesOnBy a P old now → GoesOnBy b Q now new → GoesOnBy n R old new
goes_both {a} {b} {P} {Q} {old} {now} {new} n R few both one more = record {
  heap = more.heap ∙ one.heap;
  number = more.number ∙ one.number;
  present = more.present ∙ one.present;
  made = let x = one.made in let y = more.made in omega (arith, few, x, y);
  sets = let x = one.sets in let y = more.sets in omega (arith, few, x, y);
  added = one.added ++ more.added;
  told = more.told ∙ (ap (λ (l : List Entry). l ++ more.added) one.told ∙ append_assoc old.mine one.added more.added);
  tells = both one.added more.added one.tells more.tells;
}

-- what is weaker is told as well
pub goes_weaker : {n : ℕ} {P : List Entry → Type 0} {old new : SeatState} (R : List Entry → Type 0) → ((log : List Entry) → P log → R log) → GoesOnBy n P old new → GoesOnBy n R old new
goes_weaker R weaker one = record { heap = one.heap; number = one.number; present = one.present; made = one.made; sets = one.sets; added = one.added; told = one.told; tells = weaker one.added one.tells }

-- a call of the heap
pub goes_by : {old new : SeatState} {reply : Reply} (puts : ℕ) (Tells : List Entry → Type 0) (command : Command) (adds : Adds old new command reply) → command ≢ Leave → most_made command ≤ puts → most_stamped command ≤ 3 * puts
    → Tells (adds.before ++ Said old.number command reply ∷ []) → GoesOnBy puts Tells old new
goes_by {old} {new} {reply} puts Tells command adds stays made sets tells =
    let counts = each_call_counts old new command reply adds in
    record {
      heap = adds.heap;
      number = adds.number;
      present = counts.present_stays stays;
      made = let x = counts.made_more in omega (arith, x, made);
      sets = let x = counts.sets_more in omega (arith, x, sets);
      added = adds.before ++ Said old.number command reply ∷ [];
      told = adds.entries;
      tells = tells;
    }

-- a whole put or take
pub goes_whole : {old new : SeatState} (Tells : List Entry → Type 0) (added : List Entry) → new.mine ≡ old.mine ++ added → Spends 1 3 14 old new → Tells added → GoesOnBy 1 Tells old new
goes_whole Tells added told spends tells = record { heap = spends.heap; number = spends.number; present = spends.left; made = spends.made; sets = spends.sets; added = added; told = told; tells = tells }

-- what comes before a poll's reply is nothing or that the phase is answered
polled_by : (number last p : ℕ) (before : List Entry) → AnswersBefore number last (Phase p) before → IsPolled number (before ++ Said number Poll (Phase p) ∷ [])
polled_by number last p before (inl none) = (p, inl (ap (λ (l : List Entry). l ++ Said number Poll (Phase p) ∷ []) none.1))
polled_by number last p before (inr one) = (p, inr (ap (λ (l : List Entry). l ++ Said number Poll (Phase p) ∷ []) one.1))

pub goes_by_poll : {old new : SeatState} (p : ℕ) → Adds old new Poll (Phase p) → GoesOnBy 0 (IsPolled old.number) old new
goes_by_poll {old} {new} p adds = goes_by 0 (IsPolled old.number) Poll adds (λ e. cc) (omega arith) (omega arith) (polled_by old.number (last_answer old.number old.mine) p adds.before adds.comes)

-- what is left then
pub left_for : {a b : ℕ} {P : List Entry → Type 0} {old now : SeatState} (n : ℕ) → HasLeftFor a old → GoesOnBy b P old now → n + b ≤ a → HasLeftFor n now
left_for {a} {b} {P} {old} {now} n has one few = record {
  present = one.present ∙ has.present;
  names = let x = one.made in let y = has.names in omega (arith, x, y, few);
  stamps = let x = one.sets in let y = has.stamps in omega (arith, x, y, few);
}
