-- A call that is made by itself and makes no object is over: its reply was told.
use Rattle.std.proofs.Common.{◌≡◌, ℕ, ◌<◌, length, List, [], ◌∷◌, ◌++◌, Option, Some, None, refl, sym, ap, subst, ◌∙◌}
use Rattle.core_machine.proofs.Terms.{Heap, Command, Entry, Said, Reply, Phase, Register, IsPlaceRefusal, looks_refused, LeavesAll, MakesObject, IsRecordCall, IsArrayCall, at}
use Rattle.core_machine.proofs.Terms.{put, address_of, word_after, Seat, call_over, Move, local_move, seat_after, State, seat_at, found_by, state_after_move, Kept, kept_of}
use Rattle.heap_model.specs.declared.command.Command.TheVariants as commands
use Rattle.heap_model.specs.declared.reply.Reply.TheVariants as replies
use Rattle.core_machine.specs.declared.point.Point.TheVariants as points
use Rattle.core_machine.specs.seat.Local.{local_reply_of, local_seen}
use Rattle.core_machine.specs.seat.Looks.{Looks, forgotten, seen_phase}
use Rattle.core_machine.proofs.table_lemmas.Addresses.{put_of_read_changes_nothing}
use Rattle.core_machine.proofs.seat_lemmas.Fitting.{array_makes_object, record_makes_object}
use Rattle.core_machine.proofs.call_lemmas.Stages.{Answered}
use Rattle.core_machine.proofs.machine_lemmas.Parties.{set_seat_is_read}
use Rattle.core_machine.proofs.call_lemmas.RepliesAlone.{RepliesAlone, local_replies_alone, alone_makes_no_object, local_reply_is_no_object, refusal_leaves_registers, refusal_leaves_seen, IsBeyond}
use Rattle.core_machine.proofs.call_lemmas.Stages.{PointLeadsAlone}

-- the reply is a refusal, where there is one, and leaves all
abbrev pub LeavesAllOf : Heap → State → State → ℕ → Option Reply → Type 0
LeavesAllOf heap old new number None = Unit {0}
LeavesAllOf heap old new number (Some reply) = IsPlaceRefusal reply → LeavesAll heap old new number reply

-- a refusal beyond an object forgets what was found
pub beyond_forgets : (heap : Heap) (words : List ℕ) (reply : Reply) (looks : Looks) → IsBeyond (Some reply) → looks_refused heap words reply looks ≡ forgotten looks
beyond_forgets heap words replies.NoObject looks beyond = absurd beyond
beyond_forgets heap words _ looks beyond = refl

-- a poll tells no reply alone
alone_no_poll : (command : Command) → RepliesAlone command → command ≡ commands.Poll → ⊥
alone_no_poll command alone polls = rw polls at alone

-- a seat that keeps what it kept without a call is as it was once its call is over, but for its command, its looks and its entries
as_before : (old seat : Seat) (looks : Looks) (mine : List Entry) → call_over old ≡ old → kept_of seat ≡ kept_of old
    → record (call_over seat) { looks = looks; mine = mine } ≡ record old { command = seat.command; looks = looks; mine = mine }
as_before old seat looks mine resting kept =
    ap (λ (k : Kept). record (call_over old) {
      registers = k.registers;
      seen = k.seen;
      reserve = k.reserve;
      cursor = k.cursor;
      answered = k.answered;
      made = k.made;
      sets = k.sets;
      left = k.left;
      command = seat.command;
      looks = looks;
      mine = mine;
    }) kept
    ∙ ap (λ (s : Seat). record s { command = seat.command; looks = looks; mine = mine }) resting

module _ (heap : Heap) (old : State) (number : ℕ) (command : Command) (told : List Entry) where
  -- the reply of a call that makes no object was told
  pub ended : (new : State) (seat : Seat) (reply : Reply) → seat.command ≡ command → (MakesObject seat.command → ⊥) → (IsPlaceRefusal reply → LeavesAll heap old new number reply)
      → (command ≡ commands.Poll → (p : ℕ) → reply ≡ replies.Phase p → p ≡ at heap old.words Phase) → Answered heap old new number command (told ++ Said number seat.command reply ∷ [])
  ended new seat reply same none refused phase = record {
    reply = reply;
    before = told;
    last = ap (λ (c : Command). told ++ Said number c reply ∷ []) same;
    answer = λ a_record. absurd (none (record_makes_object seat.command (subst IsRecordCall (sym same) a_record)));
    array = λ an_array. absurd (none (array_makes_object seat.command (subst IsArrayCall (sym same) an_array)));
    refused = refused;
    phase = phase;
  }

  -- so was that of a call which tells it alone
  pub ended_alone : (new : State) (seat : Seat) (reply : Reply) → seat.command ≡ command → RepliesAlone seat.command → (IsPlaceRefusal reply → LeavesAll heap old new number reply)
      → Answered heap old new number command (told ++ Said number seat.command reply ∷ [])
  ended_alone new seat reply same alone refused =
      ended new seat reply same (alone_makes_no_object seat.command alone) refused (λ polls. absurd (alone_no_poll seat.command alone (same ∙ polls)))

module _ (heap : Heap) (old : State) (number : ℕ) (now : State) (within : number < length now.seats) (resting : call_over (seat_at old number) ≡ seat_at old number) where
  -- the state after the seat's last step, where its word was loaded
  pub leaves_all : (seat : Seat) (move : Move) (reply : Reply) (looks : Looks) (mine : List Entry) → now.words ≡ old.words → put heap now.words (address_of move.step) (word_after move.step (found_by heap now move.step)) ≡ now.words
      → seat_after move (found_by heap now move.step) ≡ record (call_over seat) { looks = looks; mine = mine } → kept_of seat ≡ kept_of (seat_at old number)
      → looks ≡ looks_refused heap old.words reply (seat_at old number).looks → LeavesAll heap old (state_after_move heap now number move) number reply
  leaves_all seat move reply looks mine stay words next kept seen =
      let last = seat_after move (found_by heap now move.step) in
      let there : seat_at (state_after_move heap now number move) number ≡ record (seat_at old number) { command = seat.command; looks = looks; mine = mine } =
      set_seat_is_read now.seats number last within ∙ next ∙ as_before (seat_at old number) seat looks mine resting kept in
      record {
        words_stay = words ∙ stay;
        seat_stays = subst (λ (s : Seat). s ≡ record (seat_at old number) { command = s.command; looks = looks_refused heap old.words reply (seat_at old number).looks; mine = s.mine }) (sym there)
            (ap (λ (l : Looks). record (seat_at old number) { command = seat.command; looks = l; mine = mine }) seen);
      }

-- what is seen of the phase at the refusal of a command without an object
seen_refused : (heap : Heap) (old now : State) (number : ℕ) (reply : Reply) → reply ≡ replies.NoObject → kept_of (seat_at now number) ≡ kept_of (seat_at old number) → now.words ≡ old.words
    → forgotten (seen_phase (at heap now.words Phase) (seat_at now number).looks) ≡ looks_refused heap old.words reply (seat_at old number).looks
seen_refused heap old now number reply none kept stay =
    ap (λ (k : Kept). forgotten (seen_phase (at heap now.words Phase) k.looks)) kept
    ∙ ap (λ (words : List ℕ). forgotten (seen_phase (at heap words Phase) (seat_at old number).looks)) stay
    ∙ ap (λ (r : Reply). looks_refused heap old.words r (seat_at old number).looks) (sym none)

-- a command that looks at no word was answered
pub tells_alone : PointLeadsAlone points.Local
tells_alone heap old number command now told here =
    let seat = seat_at now number in
    let move = local_move number seat in
    let found = found_by heap now move.step in
    let reply = local_reply_of seat.registers seat.command in
    let looks = forgotten (seen_phase found seat.looks) in
    let mine = seat.mine ++ Said number seat.command reply ∷ [] in
    ended_alone heap old number command told (state_after_move heap now number move) seat reply here.same (local_replies_alone seat.registers seat.command here.fits.2) (λ refusal.
    leaves_all heap old number now here.within here.resting seat move reply looks mine here.alone (put_of_read_changes_nothing heap now.words Phase)
    (ap (λ (r : List Register). record (call_over seat) { registers = r; seen = local_seen seat.seen seat.command; looks = looks; mine = mine }) (refusal_leaves_registers seat.registers seat.command refusal)
    ∙ ap (λ (s : List ℕ). record (call_over seat) { seen = s; looks = looks; mine = mine }) (refusal_leaves_seen seat.registers seat.seen seat.command refusal)) here.own.kept_stays
    (seen_refused heap old now number reply (local_reply_is_no_object seat.registers seat.command refusal) here.own.kept_stays here.alone))
