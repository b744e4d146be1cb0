-- A call that makes an array by itself asks for its spine words.
use Rattle.std.proofs.Common.{◌≡◌, ℕ, ◌%◌, ◌^◌, ◌<◌, List, [], ◌∷◌, ◌++◌, length, refl, sym, ap, subst, arith}
use Rattle.core_machine.proofs.Terms.{Heap, Command, spine_need_of, Entry, Said, IsArrayCall, Address, Budget, at, InTable, Seat, spine_need, with_entries, Move, seat_after}
use Rattle.core_machine.proofs.Terms.{grant_move, withdraw_move, State, seat_at, found_by, state_after_move, SeatIsGranting, SeatIsWithdrawing, KeepsOwn, IsMachine, Kept, kept_of}
use Rattle.heap_model.specs.declared.reply.Reply.TheVariants as replies
use Rattle.core_machine.proofs.seat_lemmas.Fitting.{budget_cases, array_words_within_limits}
use Rattle.core_machine.proofs.call_lemmas.Asking.{AsksWords, asks_words_some, free_count_same_when_asked, same_table_after_take_back}
use Rattle.core_machine.proofs.call_lemmas.Restoring.{nothing_is_claimed}
use Rattle.core_machine.proofs.machine_lemmas.Parties.{set_seat_is_read}
use Rattle.core_machine.proofs.call_lemmas.Stages.{WhileWithdrawing, AloneStage, AloneAfter}
use Rattle.core_machine.proofs.call_lemmas.GoingOn.{keeps_own_data, array_is_no_record, alone_stands_going_on}

module _ (heap : Heap) (old : State) (number : ℕ) (command : Command) (now : State) (told : List Entry) (machine : IsMachine heap now) (within : number < length now.seats)
    (small : (a : Address) → InTable heap a → at heap old.words a < 2 ^ 64) where
  abbrev the_seat : Seat
  the_seat = seat_at now number

  abbrev Leads : Move → Type 0
  Leads = AloneAfter heap old number command now told

  -- the spine words were asked for: they are too many, or what is gathered goes on
  pub grant_leads_alone : SeatIsGranting the_seat → the_seat.command ≡ command → kept_of the_seat ≡ kept_of (seat_at old number) → now.words ≡ old.words → Leads (grant_move heap number the_seat)
  grant_leads_alone is same kept stay =
      let seat = the_seat in
      let rest = is.0 in
      let fits = machine.fit number within in
      let found = at heap now.words Budget in
      let after_ = state_after_move heap now number (grant_move heap number seat) in
      let words : found ≡ at heap old.words Budget = ap (λ (w : List ℕ). at heap w Budget) stay in
      let need_ : spine_need seat ≡ spine_need_of command = ap spine_need_of same in
      let asked : AsksWords heap (spine_need_of command) old.words after_.words =
      subst (λ (n : ℕ). AsksWords heap n old.words after_.words) need_ (subst (λ (w : List ℕ). AsksWords heap (spine_need seat) w after_.words) stay (asks_words_some heap (spine_need seat) now.words machine.table)) in
      budget_cases (λ s. AloneStage heap old after_ number command (told ++ []) (with_entries s []) s.point) heap seat found
      (λ lacks. record { lacks = omega (arith, lacks, words, need_); found = words; asked = asked })
      (λ grants. alone_stands_going_on heap old number command after_ (told ++ []) [] seat same rest.none_given fits.own.cursor_within (ap (λ (k : Kept). k.reserve) kept) (record {
        free = rw rest.empty_hand (omega (arith, free_count_same_when_asked heap (spine_need_of command) old.words after_.words asked));
        passed = λ i below. absurd (omega (arith, rest.none_tried));
        claims = record { base = after_.words; asked = asked; granted = λ an_array lacks. absurd (omega (arith, grants, lacks, words, need_)); claims = rw rest.empty_hand (nothing_is_claimed heap after_.words) };
      }))

  -- they were taken back, and the refusal was told
  pub withdrawal_leads_alone : SeatIsWithdrawing heap the_seat → the_seat.command ≡ command → kept_of the_seat ≡ kept_of (seat_at old number)
      → WhileWithdrawing heap old now.words command (seat_at now number).used → Leads (withdraw_move number the_seat)
  withdrawal_leads_alone is same kept while =
      let seat = the_seat in
      let move = withdraw_move number seat in
      let after_ = state_after_move heap now number move in
      let here : seat_at after_ number ≡ seat_after move (found_by heap now move.step) = set_seat_is_read now.seats number _ within in
      let an_array : IsArrayCall command = subst IsArrayCall same is.an_array in
      let few = array_words_within_limits seat.command is.an_array is.makes.in_range in
      let need_ : spine_need seat ≡ spine_need_of command = ap spine_need_of same in
      record {
        reply = replies.SpineFull (spine_need seat) (seat.used % 2 ^ 32);
        before = told;
        last = ap (λ (c : Command). told ++ Said number c (replies.SpineFull (spine_need seat) (seat.used % 2 ^ 32)) ∷ []) same;
        refused = λ refusal. absurd refusal;
        phase = λ a_poll p e. cc;
        answer = λ a_record. absurd (array_is_no_record command an_array a_record);
        array = λ an_array_. record {
          spine_refused = λ lacks. record {
            shows = rw (while.found, same) refl;
            own_stays = subst (KeepsOwn (seat_at old number)) (sym here) (keeps_own_data (seat_at old number) seat _ kept refl refl refl refl refl);
            table_stays = same_table_after_take_back heap (spine_need seat) old.words now.words (subst (λ (n : ℕ). AsksWords heap n old.words now.words) (sym need_) while.asked) now.words machine.table small
                (omega (arith, few.1)) (λ a there. refl);
          };
          made = λ granted enough. absurd (granted while.lacks);
          refused = λ granted lacks. absurd (granted while.lacks);
        };
      }
