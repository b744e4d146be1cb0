-- What a seat sees for itself of the end of its collect, and notes.
use Rattle.std.proofs.Common.{◌≡◌, ◌≢◌, ℕ, ◌+◌, ◌*◌, ◌%◌, ◌<◌, ◌≤◌, List, [], ◌∷◌, ◌++◌, Option, None, Some, refl, sym, ap, subst, ◌∙◌, append_assoc, lt-ltb, arith}
use Rattle.std.specs.Prelude.{IfSome}
use Rattle.std.proofs.lemmas.List.{append-nil}
use Rattle.heap_model.specs.Behind.{behind_of}
use Rattle.heap_model.specs.PhasePlan.{cycle_phases}
use Rattle.heap_model.specs.declared.calls.collect.CollectReply.{CollectReply}
use Rattle.heap_model.specs.declared.calls.collect.CollectReply.TheVariants as replies
use Rattle.heap_model.specs.declared.calls.collect.Inner.{Inner}
use Rattle.heap_model.specs.declared.calls.collect.Inner.TheVariants as inners
use Rattle.heap_model.specs.declared.command.Command.TheVariants.{Collect}
use Rattle.heap_model.specs.declared.entry.Entry.{Entry}
use Rattle.heap_model.specs.declared.entry.Entry.TheVariants.{Said, Ends}
use Rattle.heap_model.specs.account.PhaseCounts.{phase}
use Rattle.heap_model.specs.account.Phases.{IsBehind}
use Rattle.core_machine.specs.declared.seat.looks.Looks.{Looks}
use Rattle.core_machine.specs.declared.table.address.Address.TheVariants.{Phase, Answer}
use Rattle.core_machine.specs.machine.InnerCalls.{inner_entries}
use Rattle.core_machine.specs.machine.Machine.{BeginsInner, Can, seat_at}
use Rattle.core_machine.specs.seat.Looks.{first_of, looked, compared, seen_phase, FirstUpTo, MayMake, noted_reply}
use Rattle.core_machine.specs.seat.Seat.{Seat}
use Rattle.core_machine.specs.table.Layout.{at}
use Rattle.core_rule.specs.runs.Laws.{StandsFor}
use Rattle.core_rule.specs.looks.Looks.{WasSeen}
use Rattle.core_rule.proofs.parties.OneSeat.{others_same_after_inner}
use Rattle.core_rule.proofs.parties.Standing.{phase_word_is_phase, answer_word_is_answer}
use Rattle.heap_record.specs.Recorded.{MakesInner, Recorded}
use Rattle.heap_runs.specs.Collecting.{MayGoOn, IsStillThere, IsUnderWayAt, LastTurnIs, EndsFor, EndsWholeFor, seen_by}
use Rattle.heap_runs.specs.MachineHeap.{IsBetweenCalls, CollectsMachine, run_state_of}
use Rattle.heap_runs.specs.Play.{IsFirstFrom, TellsFirstCycle}
use Rattle.heap_runs.specs.PlayHeap.{AnswersCollect, TellsTurn}
use Rattle.heap_runs.proofs.Collecting.{collect_goes_on_twice, machine_then, machine_inner}

-- a seat is there after an inner call
pub present_still : (old new : Recorded) (number : ℕ) (inner : Inner) → MakesInner old new number inner → IsStillThere old number → IsStillThere new number
present_still old new number inner makes present =
    let others = others_same_after_inner old.machine.heap old.machine.state new.machine.state number inner makes.plays in
    record { within = omega (arith, present.within, others.seats); there = ap (λ (s : Seat). s.left) makes.plays.seat ∙ present.there }

-- between two calls it may begin an inner call that what it found allows
can_begin : (whole : Recorded) (number : ℕ) (inner : Inner) → IsStillThere whole number → IsBetweenCalls whole.machine.heap whole.machine.state whole.history
    → MayMake whole.machine.heap number (seat_at whole.machine.state number).looks inner → Can whole.machine.heap whole.machine.state (BeginsInner number inner)
can_begin whole number inner present between makes = (present.within, record { idle = between.all_idle number present.within; present = present.there; makes = makes })

-- the first look found no phase later than the one now
first_now : (history : List Entry) (number found : ℕ) (first : Option ℕ) → IfSome first (WasSeen history number) → found ≡ phase history → FirstUpTo (first_of first found) (phase history)
first_now history number found None seen is = omega (arith, is)
first_now history number found (Some p) seen is = seen.begun

pub first_look_up_to_phase : (old new : Recorded) (number : ℕ) → StandsFor old.machine.heap old.machine.state [] old.history → IsBetweenCalls old.machine.heap old.machine.state old.history → IsStillThere old number
    → MakesInner old new number inners.Look → FirstUpTo (seat_at new.machine.state number).looks.first (phase new.history)
first_look_up_to_phase old new number s between present makes =
    let idle = between.all_idle number present.within in
    let below : number < old.machine.heap.seats = omega (arith, present.within, s.stands.rule.machine.seated) in
    let found = (s.stands.looks number below).found (λ naming. cc (sym idle ∙ naming)) in
    let seen = subst (λ (h : List Entry). IfSome (seat_at old.machine.state number).looks.first (WasSeen h number)) s.grown found.first in
    let upto = first_now old.history number (at old.machine.heap old.machine.state.words Phase) (seat_at old.machine.state number).looks.first seen (phase_word_is_phase old.machine.heap old.machine.state old.history s) in
    let same : new.history ≡ old.history = makes.noted ∙ append-nil old.history in
    subst (λ (h : List Entry). FirstUpTo (seat_at new.machine.state number).looks.first (phase h)) (sym same) (subst (λ (l : Looks). FirstUpTo l.first (phase old.history)) (sym (ap (λ (t : Seat). t.looks) makes.plays.seat)) upto)

first_kept : (first : Option ℕ) (found p q : ℕ) → FirstUpTo first p → p ≤ q → FirstUpTo (first_of first found) q
first_kept None found p q upto less = absurd upto
first_kept (Some first) found p q upto less = omega (arith, upto, less)

-- where the word is below the phase the seat was found to be behind
found_then : (other p word : ℕ) (looks : Looks) → word < p → (compared other p word looks).behind ≡ Some (behind_of other word p)
found_then other p word looks less = rw (lt-ltb word p less) refl

module _ (old new : Recorded) (number p : ℕ) (one : StandsFor old.machine.heap old.machine.state [] old.history) (two : StandsFor new.machine.heap new.machine.state [] new.history)
    (between : IsBetweenCalls new.machine.heap new.machine.state new.history) (present : IsStillThere old number) (upto : FirstUpTo (seat_at old.machine.state number).looks.first p) where
  -- what it has seen it may note
  pub seat_may_note : (reply : CollectReply) → MakesInner old new number (seen_by reply) → LastTurnIs old number reply → ((cycle : ℕ) → reply ≡ replies.Cycle cycle → p ≤ cycle_phases * cycle) → MayGoOn new number (inners.Note reply)
  seat_may_note (replies.Cycle cycle) makes comes whole =
      let here = present_still old new number inners.Look makes present in
      let looks : (seat_at new.machine.state number).looks ≡ looked (at old.machine.heap old.machine.state.words Phase) (seat_at old.machine.state number).looks = ap (λ (t : Seat). t.looks) makes.plays.seat in
      let kept = first_kept (seat_at old.machine.state number).looks.first (at old.machine.heap old.machine.state.words Phase) p (cycle_phases * cycle) upto (whole cycle refl) in
      record {
        can = can_begin new number (inners.Note (replies.Cycle cycle)) here between (
          subst (λ (l : Looks). FirstUpTo l.first (cycle_phases * cycle)) (sym looks) kept,
          omega (arith, ap (λ (l : Looks). l.seen) looks, phase_word_is_phase old.machine.heap old.machine.state old.history one, comes.2),
        );
        now = tt;
      }
  seat_may_note (replies.Waits other answer q) makes comes whole =
      let here = present_still old new number (inners.Behind other) makes present in
      let behind : IsBehind other answer q old.history = comes.3 in
      let below : other < old.machine.heap.seats = comes.2 in
      let same : new.history ≡ old.history = makes.noted ∙ append-nil old.history in
      let later : IsBehind other answer q new.history = subst (IsBehind other answer q) (sym same) behind in
      let there : other < new.machine.heap.seats = rw makes.same_heap below in
      let phase_word : at old.machine.heap old.machine.state.words Phase ≡ q = phase_word_is_phase old.machine.heap old.machine.state old.history one ∙ behind.here in
      let own_word : at old.machine.heap old.machine.state.words (Answer other) ≡ answer = answer_word_is_answer old.machine.heap old.machine.state old.history one other answer below behind.present behind.answered in
      let looks : (seat_at new.machine.state number).looks ≡ compared other (at old.machine.heap old.machine.state.words Phase) (at old.machine.heap old.machine.state.words (Answer other))
      (seen_phase (at old.machine.heap old.machine.state.words Phase) (seat_at old.machine.state number).looks) = ap (λ (t : Seat). t.looks) makes.plays.seat in
      record {
        can = can_begin new number (inners.Note (replies.Waits other answer q)) here between
            (ap (λ (l : Looks). l.behind) looks ∙ (rw (phase_word, own_word) (found_then other q answer (seen_phase q (seat_at old.machine.state number).looks) comes.4)));
        now = record {
          word = answer_word_is_answer new.machine.heap new.machine.state new.history two other answer there later.present later.answered;
          here = phase_word_is_phase new.machine.heap new.machine.state new.history two ∙ later.here;
        };
      }

-- behind the end of a cycle that was under way a whole one is made
pub ends_whole_behind : (old now new : Recorded) (number first : ℕ) (reply : CollectReply) → phase old.history % cycle_phases ≢ 0 → EndsFor old now number (replies.Cycle first) → EndsFor now new number reply → EndsWholeFor old new number reply
unfolding collect_goes_on_twice
ends_whole_behind old now new number first reply past ended next =
    let some : 0 < ended.ends.goes.turns + next.ends.goes.turns = omega (arith, next.ends.some) in
    record {
      ends = record {
        goes = collect_goes_on_twice old now new number ended.ends.goes next.ends.goes;
        some = some;
        comes = next.ends.comes;
        last = λ cycle is.
            let ends = next.ends.last cycle is in
            (ended.ends.goes.machine.told ++ ends.0, ends.1, ap (λ (es : List Entry). ended.ends.goes.machine.told ++ es) ends.2 ∙ sym (append_assoc ended.ends.goes.machine.told ends.0 (Ends cycle ends.1 ∷ [])));
      };
      first = λ cycle is. first_from cycle (ended.under_way first refl) (next.under_way cycle is) ended.ends.comes.2;
    }
  where
    first_from : (cycle : ℕ) → IsUnderWayAt (phase old.history) first → IsUnderWayAt (phase now.history) cycle → phase now.history ≡ cycle_phases * first + cycle_phases → IsFirstFrom (phase old.history) cycle
    first_from cycle one two here =
        let apart : cycle_phases * first ≡ phase old.history → ⊥ = λ same. past (omega (arith, same)) in
        let next_one : cycle ≡ first + 1 = omega (arith, two.0, two.1, here) in
        (omega (arith, one.1, next_one), omega (arith, one.0, next_one, apart))

-- seeing tells nothing
seen_none : (whole : Recorded) (number : ℕ) (reply : CollectReply) → inner_entries whole.machine.heap whole.machine.state.words number (seat_at whole.machine.state number).answered (seen_by reply) ≡ []
seen_none whole number (replies.Cycle cycle) = refl
seen_none whole number (replies.Waits other answer p) = refl

tells_turn : (two : Recorded) (number : ℕ) (reply : CollectReply) → LastTurnIs two number reply → TellsTurn number two.last_turn (noted_reply reply)
tells_turn two number (replies.Cycle cycle) comes = (comes.0, comes.1)
tells_turn two number (replies.Waits other answer p) comes = (comes.0, comes.1)

-- what it tells of a cycle
tells_first : (one two : Recorded) (number p : ℕ) (reply : CollectReply) → (whole : EndsWholeFor one two number reply) → phase one.history ≡ p → TellsFirstCycle p (noted_reply reply) whole.ends.goes.machine.told
tells_first one two number p (replies.Cycle cycle) whole here = (subst (λ q. IsFirstFrom q cycle) here (whole.first cycle refl), whole.ends.last cycle refl)
tells_first one two number p (replies.Waits other answer q) whole here = tt

-- the whole collect
module _ (start one two three four : Recorded) (number : ℕ) (reply : CollectReply) (look : MakesInner start one number inners.Look) (whole : EndsWholeFor one two number reply)
    (sees : MakesInner two three number (seen_by reply)) (notes : MakesInner three four number (inners.Note reply)) where
  pub machine_collects : CollectsMachine start four number
  machine_collects =
      machine_then start three four number (machine_then start two three number (machine_then start one two number (machine_inner start one number inners.Look look) whole.ends.goes.machine)
      (machine_inner two three number (seen_by reply) sees)) (machine_inner three four number (inners.Note reply) notes)

  pub note_answers_collect : AnswersCollect (run_state_of start) (run_state_of four) number (noted_reply reply)
  note_answers_collect =
      let goes = whole.ends.goes in
      let said : List Entry = Said number Collect (noted_reply reply) ∷ [] in
      let seen : three.history ≡ two.history = sees.noted ∙ ap (λ (l : List Entry). two.history ++ l) (seen_none two number reply) ∙ append-nil two.history in
      record {
        heap = notes.same_heap ∙ sees.same_heap ∙ goes.machine.same_heap ∙ look.same_heap;
        before = goes.machine.told;
        comes = record { told = goes.quiet; first = tells_first one two number (phase start.history) reply whole (ap phase (look.noted ∙ append-nil start.history)) };
        entries = notes.noted ∙ ap (λ (l : List Entry). l ++ said) (seen ∙ goes.machine.noted ∙ ap (λ (l : List Entry). l ++ goes.machine.told) (look.noted ∙ append-nil start.history)) ∙ append_assoc start.history goes.machine.told said;
        turns = goes.turns;
        some = whole.ends.some;
        counted = omega (arith, goes.counted, look.turns_stay, sees.turns_stay, notes.turns_stay);
        last = subst (λ l. TellsTurn number l (noted_reply reply)) (sym (notes.last_stays ∙ sees.last_stays)) (tells_turn two number reply whole.ends.comes);
        spare = omega (arith, look.spare, goes.spare, sees.spare, notes.spare);
      }
