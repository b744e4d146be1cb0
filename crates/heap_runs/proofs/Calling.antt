-- A machine between calls after one call more.
use Rattle.std.proofs.Common.{◌≡◌, ◌≢◌, ℕ, ◌+◌, ◌*◌, ◌<◌, false, [], ◌∷◌, ◌++◌, length, inl, inr, refl, sym, ap, subst, ◌∙◌, arith}
use Rattle.std.proofs.lemmas.Bool.Decides.{leb_tells}
use Rattle.std.proofs.lemmas.List.{append_cancel_left}
use Rattle.heap_model.proofs.account_lemmas.Snoc.{equal_snocs_equal_last}
use Rattle.heap_model.specs.declared.command.Command.{Command}
use Rattle.heap_model.specs.declared.command.Command.TheVariants as commands
use Rattle.heap_model.specs.declared.entry.Entry.TheVariants.{Said}
use Rattle.heap_model.specs.declared.reply.Reply.{Reply}
use Rattle.heap_model.specs.declared.reply.Reply.TheVariants.{Made, Done}
use Rattle.heap_model.specs.declared.id.Id.TheVariants as heap_ids
use Rattle.heap_model.specs.account.Space.{need_of, fragments_gained, fragments_lost, taken_of, spent_of}
use Rattle.heap_model.specs.calls.SeatCalls.{ComesBefore, HasNumber, last_gives, leave_entries}
use Rattle.heap_model.specs.calls.SeatReplies.{next_id}
use Rattle.core_machine.specs.machine.Calls.{PlaysCall, AnswersNew, TellsLeave, free_count, within_reach}
use Rattle.core_machine.specs.machine.Machine.{seat_at, Begins, Can}
use Rattle.core_machine.specs.seat.Commands.{IsServed}
use Rattle.core_machine.specs.seat.Making.{next_object_id}
use Rattle.core_machine.specs.seat.Seat.{Seat}
use Rattle.core_rule.specs.runs.Laws.{StandsFor, FreeIsUnused, WordsAreUsed}
use Rattle.core_rule.proofs.parties.Standing.{budget_word_is_words_used, reserve_is_taken_unspent, answered_is_last_answer, left_is_graphs_left, made_is_object_count, phase_word_is_near, has_number_left}
use Rattle.heap_record.specs.Recorded.{Recorded, MakesCall}
use Rattle.heap_runs.specs.Collecting.{IsStillThere}
use Rattle.heap_runs.specs.MachineHeap.{run_state_of, IsBetweenCalls}
use Rattle.heap_runs.specs.PlayHeap.{MayCall, AnswersOnce, IsEnough, seat_state_of}
use Rattle.heap_runs.proofs.ArrayCalls.{answers_array_once}

-- every command but a collect is served
served_once : (command : Command) → command ≢ commands.Collect → IsServed command
served_once commands.Collect once = absurd (once refl)
served_once _ once = tt

-- a seat that may be called is there
pub callable_is_still_there : (whole : Recorded) (number : ℕ) (command : Command) → StandsFor whole.machine.heap whole.machine.state [] whole.history
    → IsBetweenCalls whole.machine.heap whole.machine.state whole.history → MayCall (run_state_of whole) number command → IsStillThere whole number
callable_is_still_there whole number command s between may =
    let within : number < length whole.machine.state.seats = rw s.stands.rule.machine.seated may.within in
    record { within = within; there = sym (left_is_graphs_left whole.machine.heap whole.machine.state whole.history s number may.within (between.all_idle number within)) ∙ may.present }

-- a command that may be called may be begun
pub callable_may_begin : (whole : Recorded) (number : ℕ) (command : Command) → command ≢ commands.Collect → StandsFor whole.machine.heap whole.machine.state [] whole.history
    → IsBetweenCalls whole.machine.heap whole.machine.state whole.history → MayCall (run_state_of whole) number command → Can whole.machine.heap whole.machine.state (Begins number command)
callable_may_begin whole number command once s between may =
    let heap = whole.machine.heap in
    let state = whole.machine.state in
    let still = callable_is_still_there whole number command s between may in
    let idle = between.all_idle number still.within in (
      still.within,
      record {
        idle = idle;
        present = still.there;
        served = served_once command once;
        in_range = may.in_range;
        numbered = has_number_left heap state whole.history s number may.within idle command (number_again command may.numbered);
      },
    )
  where
    number_again : (command : Command) → HasNumber (seat_state_of (run_state_of whole) number) command
        → HasNumber (record { heap = whole.machine.heap; number = number; mine = whole.history; spare = 0 }) command
    number_again (commands.New d fields) has = has
    number_again (commands.Array d cells) has = has
    number_again (commands.Set r i v) has = has
    number_again (commands.Cas r i a v) has = has
    number_again _ has = tt

-- the machine's call is one of a heap that is played on
pub call_answers_once : FreeIsUnused → WordsAreUsed → (old new : Recorded) (number : ℕ) (command : Command) (reply : Reply) → StandsFor old.machine.heap old.machine.state [] old.history
    → IsBetweenCalls old.machine.heap old.machine.state old.history → MayCall (run_state_of old) number command → MakesCall old new number command reply
    → AnswersOnce (run_state_of old) (run_state_of new) number command reply
call_answers_once unused words old new number command reply s between may calls =
    let heap = old.machine.heap in
    let state = old.machine.state in
    let within : number < length state.seats = rw s.stands.rule.machine.seated may.within in
    let idle = between.all_idle number within in
    let seat : Seat = seat_at state number in
    let present : seat.left ≡ false = sym (left_is_graphs_left heap state old.history s number may.within idle) ∙ may.present in
    let had = reserve_is_taken_unspent heap state old.history s number may.within idle in
    let last_is = answered_is_last_answer heap state old.history s number may.within idle in
    let free : free_count heap state.words + fragments_gained heap old.history ≡ 16 * heap.groups + fragments_lost old.history
    = subst (λ es. free_count heap state.words + fragments_gained heap es ≡ 16 * heap.groups + fragments_lost es) s.grown (unused heap state s.book s.stands.rule) in
    let next : next_object_id number seat ≡ next_id (seat_state_of (run_state_of old) number) = ap (heap_ids.Made number) (made_is_object_count heap state old.history s number may.within idle) in
    record {
      adds = record {
        heap = calls.same_heap;
        number = refl;
        unborn = length seat.reserve;
        had = had;
        before = calls.call.before;
        comes = subst (λ (p : ℕ). ComesBefore number (length seat.reserve) p command reply calls.call.before) last_is
            (calls.call.comes (λ poll. phase_word_is_near heap state old.history s number may.within idle present));
        entries = calls.noted;
        spare = calls.spare;
        no_more = calls.no_more;
      };
      turns_stay = calls.turns_stay;
      last_stays = calls.last_stays;
      left = λ leaves. leave_is_done leaves calls.call (calls.leave leaves);
      made = λ record_. (
        λ made. enough_where_made (calls.answer record_) made had free,
        λ enough. (calls.answer record_).made (omega (arith, enough, had, free))
            ∙ ap Made next,
      );
      array = λ array. answers_array_once old new.machine.state number command reply (calls.array array) between.limits (budget_word_is_words_used heap state old.history s words between.all_idle) had free next;
    }
  where
    leave_is_done : command ≡ commands.Leave → (call : PlaysCall old.machine.heap old.machine.state new.machine.state number command reply) → TellsLeave old.machine.state new.machine.state number → reply ≡ Done
    leave_is_done leaves call tells =
        let mine = (seat_at old.machine.state number).mine in
        let said = append_cancel_left mine (call.before ++ Said number command reply ∷ []) (leave_entries number (length (seat_at old.machine.state number).reserve)) (sym call.mine ∙ tells) in
        cc (equal_snocs_equal_last call.before (last_gives number (length (seat_at old.machine.state number).reserve)) (Said number command reply) (Said number commands.Leave Done) said)

    enough_where_made : AnswersNew old.machine.heap old.machine.state new.machine.state number command reply → reply ≡ Made (next_id (seat_state_of (run_state_of old) number))
        → spent_of number old.history + length (seat_at old.machine.state number).reserve ≡ taken_of number old.history
        → free_count old.machine.heap old.machine.state.words + fragments_gained old.machine.heap old.history ≡ 16 * old.machine.heap.groups + fragments_lost old.history
        → IsEnough (run_state_of old) number command
    enough_where_made answer made had free = elim (leb_tells (need_of command) (within_reach old.machine.heap old.machine.state number)) [
      | inl enough ↦ (let e = enough.1 in omega (arith, e, had, free))
      | inr less ↦ (let shows = (answer.refused less.1).shows in absurd (cc (sym made ∙ shows)))
    ]
