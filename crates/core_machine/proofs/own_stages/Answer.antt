-- A call that looks at no word tells its reply, a poll answers the phase, and a seat leaves.
use Rattle.std.proofs.Common.{◌≡◌, ◌≢◌, ℕ, ◌+◌, Bool, true, false, List, [], ◌∷◌, ◌++◌, length, replicate, refl, sym, ap, subst, inl, inr, arith}
use Rattle.std.specs.List.{AllByRecursion}
use Rattle.std.specs.Prelude.{nat_lt}
use Rattle.std.proofs.lemmas.Bool.Decides.{eqb_tells}
use Rattle.heap_model.specs.Limits.{register_count}
use Rattle.heap_model.specs.calls.SeatCalls.{last_gives}
use Rattle.core_machine.proofs.Terms.{Command, Entry, Said, GivesBack, Answers, Heap, Kept, kept_of, kept_replied, StageAt, HasAsked, HasEmptied, AnswersLocally, HasLeft, IsDoneBy}
use Rattle.core_machine.proofs.Terms.{StandsOn, AnswersFirst, ComesFirst, IsAnswered, Nil, Step, IsBeside, local_move, IsLocal, register_in, value_of, is_same_value, Seat}
use Rattle.core_machine.proofs.Terms.{with_seen, after_call, with_entries}
use Rattle.heap_model.specs.declared.command.Command.TheVariants as commands
use Rattle.heap_model.specs.declared.reply.Reply.TheVariants as replies
use Rattle.core_machine.specs.declared.point.Leaving.TheVariants.{Emptying, Parting}
use Rattle.core_machine.specs.declared.point.Point.TheVariants as points
use Rattle.core_machine.specs.declared.point.Polling.TheVariants.{Asking, Shading, Answering}
use Rattle.core_machine.specs.declared.step.Step.TheVariants as steps
use Rattle.core_machine.specs.seat.Handshake.{roots, answer_next, after_phase_load}
use Rattle.core_machine.specs.seat.HandshakeMoves.{poll_adds, empty_move, leave_move}
use Rattle.core_machine.specs.seat.Local.{answer_of, local_reply_of}
use Rattle.core_machine.specs.seat.Looks.{forgotten}
use Rattle.core_machine.proofs.call_lemmas.RepliesAlone.{local_replies_alone}
use Rattle.core_machine.proofs.own_stages.Leading.{PointLeads, holds_with_nothing_told, holds_of_untold, reply_alone_answers}
use Rattle.core_machine.proofs.seat_lemmas.PollingOver.{polling_over_cases}
use Rattle.core_machine.proofs.table_lemmas.Bits.{true_or_false}

no_collect : (command : Command) → command ≡ commands.Collect → command ≡ commands.Poll → ⊥
no_collect command collects polls = cc

-- a reserve that isn't empty is told as it is given back
gives_some : (number unborn : ℕ) → (unborn ≡ 0 → ⊥) → GivesBack number unborn ∷ [] ≡ last_gives number unborn
gives_some number unborn some =
    elim (eqb_tells unborn 0) as (λ _. GivesBack number unborn ∷ [] ≡ last_gives number unborn) [ inl none ↦ absurd (some none.1) | inr there ↦ rw there.0 refl ]

-- and that stands beside the reply
gives_beside_leave : (number unborn : ℕ) → AllByRecursion (IsBeside number) (last_gives number unborn)
gives_beside_leave number unborn =
    elim (eqb_tells unborn 0) as (λ _. AllByRecursion (IsBeside number) (last_gives number unborn)) [ inl none ↦ rw none.0 tt | inr there ↦ rw there.0 (refl, tt) ]

module _ (tells : Step → ℕ → Type 0) where
  -- what a reply stands on that the registers give
  local_stands : (heap : Heap) (number : ℕ) (command : Command) (before kept : Kept) → IsLocal before.registers command
      → AnswersLocally command before kept (local_reply_of before.registers command) → StandsOn tells heap number command before kept [] (local_reply_of before.registers command)
  local_stands heap number (commands.Num d n) before kept local answers = answers
  local_stands heap number (commands.Nil d) before kept local answers = answers
  local_stands heap number (commands.Copy d r) before kept local answers = answers
  local_stands heap number (commands.Same a b) before kept local answers = by (is_same_value (value_of (register_in before.registers a)) (value_of (register_in before.registers b))) answers
    where
      by : (same : Bool) → AnswersLocally (commands.Same a b) before kept (answer_of same) → StandsOn tells heap number (commands.Same a b) before kept [] (answer_of same)
      by true is = is
      by false is = is
  local_stands heap number (commands.Get d r i) before kept local answers = answers
  local_stands heap number (commands.Set r i v) before kept local answers = answers
  local_stands heap number (commands.Cas r i a v) before kept local answers = answers
  local_stands heap number (commands.Len r) before kept local answers = answers
  local_stands heap number _ before kept local answers = absurd local

  -- the reply was told
  pub point_leads_at_local : PointLeads tells points.Local
  point_leads_at_local heap number before seat told here stage found tell =
      let last = kept_of ((local_move number seat).told found) in
      let reply = local_reply_of seat.registers seat.command in
      record {
        kept = refl;
        same = refl;
        stage = holds_of_untold (λ b t. IsAnswered tells heap number seat.command b last (t ++ Said number seat.command reply ∷ [])) stage
            (reply_alone_answers tells heap number seat.command (kept_of seat) last reply (local_replies_alone seat.registers seat.command here.hand.2)
            (local_stands heap number seat.command (kept_of seat) last here.hand.2 (record { local = here.hand.2; reply_is = refl; kept_is = refl })));
      }

  -- an answer is under way, whatever comes next
  asked_stage : (heap : Heap) (number : ℕ) (before : Kept) (seat : Seat) (told : List Entry) → seat.command ≡ commands.Poll → HasAsked tells before (kept_of seat) seat.asked told
      → StageAt tells heap number before (with_entries (answer_next seat) []) (told ++ []) (answer_next seat).point
  asked_stage heap number before seat told polls asked =
      let still = holds_with_nothing_told (HasAsked tells before (kept_of seat) seat.asked) told asked in
      elim (true_or_false (nat_lt seat.shaded (length (roots seat)))) as (λ _. StageAt tells heap number before (with_entries (answer_next seat) []) (told ++ []) (answer_next seat).point) [
        | inl more ↦ rw more (polls, still)
        | inr all ↦ rw all (polls, still)
      ]

  -- a poll was answered
  answered_poll : (heap : Heap) (number : ℕ) (command : Command) (before kept : Kept) (phase : ℕ) (first : List Entry) → command ≡ commands.Poll → tells steps.PollLoad phase
      → AllByRecursion (IsBeside number) first → AnswersFirst number before.answered (replies.Phase phase) first → kept ≡ kept_replied phase (record before { answered = phase })
      → IsAnswered tells heap number command before kept (first ++ Said number command (replies.Phase phase) ∷ [])
  answered_poll heap number command before kept phase first polls tell beside comes is = record {
    reply = replies.Phase phase;
    first = first;
    last = refl;
    beside = beside;
    comes = subst (λ (c : Command). ComesFirst number before c (replies.Phase phase) first) (sym polls) comes;
    stands = record { a_poll = polls; told = tell; kept_is = is };
  }

  -- the phase was loaded
  pub point_leads_at_poll_asking : PointLeads tells (points.Polling Asking)
  point_leads_at_poll_asking heap number before seat told here stage found tell = record {
    kept = elim (eqb_tells found seat.answered) as (λ _. (after_phase_load seen found).mine ≡ seat.mine) [
      | inl known ↦ rw known.0 (polling_over_cases (λ s more. s.mine ≡ seat.mine) number seat.command seen found (λ collects. refl) (λ tells_. refl))
      | inr new ↦ rw new.0 refl
    ];
    same = elim (eqb_tells found seat.answered) as (λ _. (after_phase_load seen found).command ≡ seat.command) [
      | inl known ↦ rw known.0 (polling_over_cases (λ s more. s.command ≡ seat.command) number seat.command seen found (λ collects. refl) (λ tells_. refl))
      | inr new ↦ rw new.0 refl
    ];
    stage = elim (eqb_tells found seat.answered) as (λ _. StageAt tells heap number before (with_entries (after_phase_load seen found) (poll_adds number seat found)) (told ++ poll_adds number seat found) (after_phase_load seen found).point) [
      | inl known ↦ rw known.0 (polling_over_cases (λ s more. StageAt tells heap number before (with_entries s more) (told ++ more) s.point) number seat.command seen found
          (λ collects. absurd (no_collect seat.command collects stage.0))
          (λ tells_. holds_of_untold (λ b t. IsAnswered tells heap number seat.command b (kept_of (after_call seen)) (t ++ Said number seat.command (replies.Phase found) ∷ [])) stage.1
          (answered_poll heap number seat.command (kept_of seat) (kept_of (after_call seen)) found [] stage.0 tell tt (inl (known.1, refl))
          (ap (λ (p : ℕ). kept_replied found (record (kept_of seat) { answered = p })) (sym known.1)))))
      | inr new ↦ rw new.0 (asked_stage heap number before (record seen { asked = found }) told stage.0
          (holds_of_untold (λ b t. HasAsked tells b (kept_of seen) found t) stage.1 (record { told_of = tell; kept_is = refl; none_told = refl })))
    ];
  }
    where
      seen : Seat
      seen = with_seen found seat

  -- a root was shaded
  pub point_leads_at_shading : PointLeads tells (points.Polling Shading)
  point_leads_at_shading heap number before seat told here stage found tell =
      record { kept = refl; same = refl; stage = asked_stage heap number before (record seat { shaded = seat.shaded + 1 }) told stage.0 stage.1 }

  -- the answer was stored
  pub point_leads_at_answering : PointLeads tells (points.Polling Answering)
  point_leads_at_answering heap number before seat told here stage found tell =
      let asked = stage.1 in
      let answer = Answers number seat.asked in
      let stored : Seat = record seat { answered = seat.asked } in
      let anew = subst (λ (n : ℕ). seat.asked ≢ n) (ap (λ (k : Kept). k.answered) asked.kept_is) here.answer.0.anew in
      record {
        kept = polling_over_cases (λ s more. s.mine ≡ seat.mine) number seat.command stored seat.asked (λ collects. refl) (λ tells_. refl);
        same = polling_over_cases (λ s more. s.command ≡ seat.command) number seat.command stored seat.asked (λ collects. refl) (λ tells_. refl);
        stage = polling_over_cases (λ s more. StageAt tells heap number before (with_entries s (answer ∷ more)) (told ++ answer ∷ more) s.point) number seat.command stored seat.asked
            (λ collects. absurd (no_collect seat.command collects stage.0))
            (λ tells_. subst (λ (t : List Entry). IsAnswered tells heap number seat.command before (kept_of (after_call stored)) (t ++ answer ∷ Said number seat.command (replies.Phase seat.asked) ∷ [])) (sym asked.none_told)
            (answered_poll heap number seat.command before (kept_of (after_call stored)) seat.asked (answer ∷ []) stage.0 asked.told_of (refl, tt) (inr (anew, refl))
            (ap (λ (k : Kept). record k { answered = seat.asked; looks = forgotten k.looks }) asked.kept_is)));
      }

  -- the reserve was given back
  pub point_leads_at_emptying : PointLeads tells (points.Leaving Emptying)
  point_leads_at_emptying heap number before seat told here stage found tell = record {
    kept = refl;
    same = refl;
    stage = holds_of_untold (λ b t. HasEmptied number b (kept_of ((empty_move number seat).told found)) (t ++ GivesBack number (length seat.reserve) ∷ [])) stage
        (record { kept_is = refl; gives = gives_some number (length seat.reserve) (λ none. absurd (omega (arith, none, here.hand.2))) });
  }

  -- the seat has left
  pub point_leads_at_parting : PointLeads tells (points.Leaving Parting)
  point_leads_at_parting heap number before seat told here stage found tell =
      let last = kept_of ((leave_move number seat).told found) in
      let left : HasLeft before last = ap (λ (k : Kept). kept_replied seat.looks.seen (record k { registers = replicate register_count Nil; seen = replicate register_count 0; left = true })) stage.kept_is in
      record {
        kept = refl;
        same = refl;
        stage = record {
          reply = replies.Done;
          first = told;
          last = refl;
          beside = subst (AllByRecursion (IsBeside number)) (sym stage.gives) (gives_beside_leave number (length before.reserve));
          comes = subst (λ (c : Command). ComesFirst number before c replies.Done told) (sym here.hand.1) stage.gives;
          stands = subst (IsDoneBy before last) (sym here.hand.1) left;
        };
      }
