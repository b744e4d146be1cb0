-- How a seat goes on with its script, by what its own entries tell.
use Rattle.std.proofs.Common.{◌≡◌, ◌≢◌, ℕ, ◌+◌, ◌*◌, ◌<◌, ◌≤◌, List, [], ◌∷◌, ◌++◌, length, take, refl, sym, ap, subst, ◌∙◌, inl, inr, append_assoc, append-nil, length-append, arith}
use Rattle.std.specs.Prelude.{slice_index_or}
use Rattle.std.proofs.lemmas.List.{take_more}
use Rattle.heap_model.specs.Needs.{need_of}
use Rattle.heap_model.specs.calls.SeatCalls.{HasNumber, IsReady}
use Rattle.heap_model.specs.calls.SeatState.{own_graph_seat}
use Rattle.heap_model.specs.calls.SeatLaws.{EachCallCounts, CountsUp}
use Rattle.heap_model.specs.declared.calls.collect.CollectReply.{CollectReply}
use Rattle.heap_model.specs.declared.calls.collect.CollectReply.TheVariants as notes
use Rattle.heap_model.specs.declared.command.Command.{Command}
use Rattle.heap_model.specs.declared.command.Command.TheVariants as commands
use Rattle.heap_model.specs.declared.entry.Entry.{Entry}
use Rattle.heap_model.specs.declared.entry.Entry.TheVariants.{Said}
use Rattle.heap_model.specs.declared.reply.Reply.{Reply}
use Rattle.heap_model.specs.graph.Graph.{GraphSeat}
use Rattle.heap_model.specs.runs.Told.{commands_told, waits_told}
use Rattle.heap_model.proofs.call_lemmas.SeatGrowth.{call_makes_one_at_most, call_stamps_once_at_most}
use Rattle.core_machine.specs.seat.Looks.{noted_reply}
use Rattle.heap_table.specs.SeatHeld.{SeatHeld}
use Rattle.mutator_seat.specs.Calls.{MakesCall}
use Rattle.mutator_seat.specs.Resting.{seat_state, MakesRoom}
use Rattle.mutator_seat.proofs.Entries.{call_adds_its_entries}
use Rattle.heap_record.proofs.TellsOne.{commands_told_of_append, waits_told_of_append, waits_of, tells_one_of_call}
use Rattle.heap_runs.specs.CollectCall.{IsPresent, IsCauseOf, AnswersCollect}
use Rattle.heap_runs.specs.SeatWork.{MayMakeNext, IsPaidSince, HasMade, GoesOn}
use Rattle.heap_runs.proofs.LooksOn.{looks_around_by_room, own_graph_seat_stays, is_present_still}
use Rattle.heap_runs.proofs.SeatTells.{tells_one_collect}

-- replies are paid by the finds of their time
pub none_paid : (patience before now : ℕ) → before ≤ now → IsPaidSince patience 0 before now
none_paid patience before now on = let none : patience * 0 ≡ 0 = grind arith in inl (omega (arith, none, on))

paid_then : (patience first later all before now new : ℕ) → all ≡ first + later → IsPaidSince patience first before now → IsPaidSince patience later now new → IsPaidSince patience all before new
paid_then patience first later all before now new is paid (inr last) = inr last
paid_then patience first later all before now new is (inr last) (inl more) = let none : 0 ≤ patience * later = grind arith in inr (omega (arith, last, more, none))
paid_then patience first later all before now new is (inl one) (inl more) =
    let each : patience * (first + later) ≡ patience * first + patience * later = grind arith in
    inl (subst (λ (n : ℕ). before + patience * n ≤ new) (sym is) (omega (arith, one, more, each)))

-- what was told of one part and of the next is told of both
pub made_then : (patience : ℕ) (old now new : SeatHeld) (front behind : List Command) → HasMade patience old now front → HasMade patience now new behind → HasMade patience old new (front ++ behind)
made_then patience old now new front behind one more =
    let same : commands_told old.number more.part ≡ behind = ap (λ (n : ℕ). commands_told n more.part) (sym one.number_stays) ∙ more.answered in
    record {
      table_stays = more.table_stays ∙ one.table_stays;
      heap_stays = more.heap_stays ∙ one.heap_stays;
      number_stays = more.number_stays ∙ one.number_stays;
      part = one.part ++ more.part;
      mine = more.mine ∙ ap (λ (l : List Entry). l ++ more.part) one.mine ∙ append_assoc old.seat.mine one.part more.part;
      answered = commands_told_of_append old.number one.part more.part ∙ ap (λ (l : List Command). l ++ commands_told old.number more.part) one.answered ∙ ap (λ (l : List Command). front ++ l) same;
      paid = paid_then patience (waits_told old.number one.part) (waits_told now.number more.part) (waits_told old.number (one.part ++ more.part)) old.seat.looks.waits now.seat.looks.waits new.seat.looks.waits
          (waits_told_of_append old.number one.part more.part ∙ ap (λ (n : ℕ). waits_told old.number one.part + waits_told n more.part) (sym one.number_stays)) one.paid more.paid;
    }

-- where nothing is told but that a seat is the same, no command is answered
pub room_made : (patience : ℕ) (old new : SeatHeld) → MakesRoom old new → HasMade patience old new []
room_made patience old new room = record {
  table_stays = ap (λ (h : SeatHeld). h.table) room;
  heap_stays = ap (λ (h : SeatHeld). h.heap) room;
  number_stays = ap (λ (h : SeatHeld). h.number) room;
  part = [];
  mine = ap (λ (h : SeatHeld). h.seat.mine) room ∙ sym (append-nil old.seat.mine);
  answered = refl;
  paid = none_paid patience old.seat.looks.waits new.seat.looks.waits (omega (arith, ap (λ (h : SeatHeld). h.seat.looks.waits) room));
}

-- a whole call answers its command
pub call_made : (patience : ℕ) (old new : SeatHeld) (command : Command) (reply : Reply) → command ≢ commands.Collect → MakesCall old new command reply → HasMade patience old new (command ∷ [])
call_made patience old new command reply once call =
    let one = tells_one_of_call old.number call.first command reply once call.beside in
    record {
      table_stays = call.makes.table_stays;
      heap_stays = call.makes.heap_stays;
      number_stays = call.makes.number_stays;
      part = call.first ++ Said old.number command reply ∷ [];
      mine = call.told;
      answered = one.commands;
      paid = subst (λ (n : ℕ). IsPaidSince patience n old.seat.looks.waits new.seat.looks.waits) (sym one.counted)
          (none_paid patience old.seat.looks.waits new.seat.looks.waits (omega (arith, call.waits_stay)));
    }

-- a collect is paid where it was answered that it waits
collect_paid : (patience : ℕ) (old new : SeatHeld) (reply : CollectReply) → AnswersCollect patience old new reply → (came : CollectReply) → (looked found : SeatHeld) → IsCauseOf patience old looked found came
    → new.seat.looks.waits ≡ found.seat.looks.waits → IsPaidSince patience (waits_of came) old.seat.looks.waits new.seat.looks.waits
collect_paid patience old new reply answers (notes.Cycle cycle) looked found cause same = none_paid patience old.seat.looks.waits new.seat.looks.waits answers.waits
collect_paid patience old new reply answers (notes.Waits other answered phase) looked found cause same =
    let once : patience * 1 ≡ patience = grind arith in
    elim cause.0 as (λ _. IsPaidSince patience 1 old.seat.looks.waits new.seat.looks.waits) [
      | inl enough ↦ inl (omega (arith, enough, same, once))
      | inr last ↦ inr (omega (arith, last, same))
    ]

pub collect_made : (patience : ℕ) (old new : SeatHeld) (reply : CollectReply) → AnswersCollect patience old new reply → HasMade patience old new (commands.Collect ∷ [])
collect_made patience old new reply answers =
    let one = tells_one_collect old.number answers.answers reply answers.own in
    record {
      table_stays = answers.same.table_stays;
      heap_stays = answers.same.heap_stays;
      number_stays = answers.same.number_stays;
      part = answers.answers ++ Said old.number commands.Collect (noted_reply reply) ∷ [];
      mine = answers.mine;
      answered = one.commands;
      paid = subst (λ (n : ℕ). IsPaidSince patience n old.seat.looks.waits new.seat.looks.waits) (sym one.counted)
          (collect_paid patience old new reply answers reply answers.looked answers.found answers.cause answers.finds_stay);
    }

-- by its own entries the seat is as before: it goes on
same_goes : (patience : ℕ) (old new : SeatHeld) (made : List Command) → HasMade patience old new made → own_graph_seat (seat_state new) ≡ own_graph_seat (seat_state old) → IsPresent old → GoesOn patience old new made
same_goes patience old new made has stays present = record {
  made = has;
  present = ap (λ (s : GraphSeat). s.left) stays ∙ present;
  objects = omega (arith, ap (λ (s : GraphSeat). length s.objects) stays);
  sets = omega (arith, ap (λ (s : GraphSeat). s.sets) stays);
}

-- so it is after a collect, and with more room
pub goes_on_after_collect : (patience : ℕ) (old new : SeatHeld) (reply : CollectReply) → AnswersCollect patience old new reply → IsPresent old → GoesOn patience old new (commands.Collect ∷ [])
goes_on_after_collect patience old new reply answers present =
    same_goes patience old new (commands.Collect ∷ []) (collect_made patience old new reply answers) (own_graph_seat_stays old new answers.same) present

room_goes : (patience : ℕ) (old new : SeatHeld) → MakesRoom old new → IsPresent old → GoesOn patience old new []
room_goes patience old new room present = same_goes patience old new [] (room_made patience old new room) (own_graph_seat_stays old new (looks_around_by_room old new room).same) present

-- a whole call that is no leave goes on too
call_goes : EachCallCounts → (patience : ℕ) (old new : SeatHeld) (command : Command) (reply : Reply) → command ≢ commands.Collect → command ≢ commands.Leave → MakesCall old new command reply → IsPresent old
    → GoesOn patience old new (command ∷ [])
call_goes counts patience old new command reply once stays call present =
    let up : CountsUp (seat_state old) (seat_state new) command = counts (seat_state old) (seat_state new) command reply (call_adds_its_entries old new command reply call) in
    record {
      made = call_made patience old new command reply once call;
      present = up.present_stays stays ∙ present;
      objects = omega (arith, up.made_more, call_makes_one_at_most command);
      sets = omega (arith, up.sets_more, call_stamps_once_at_most command);
    }

-- and so do commands and more of them
pub goes_then : (patience : ℕ) (old now new : SeatHeld) (front behind : List Command) → GoesOn patience old now front → GoesOn patience now new behind → GoesOn patience old new (front ++ behind)
goes_then patience old now new front behind one more = record {
  made = made_then patience old now new front behind one.made more.made;
  present = more.present;
  objects = omega (arith, one.objects, more.objects, length-append front behind);
  sets = omega (arith, one.sets, more.sets, length-append front behind);
}

pub goes_on_after_call : EachCallCounts → (patience : ℕ) (old ready new : SeatHeld) (command : Command) (reply : Reply) → command ≢ commands.Collect → command ≢ commands.Leave → MakesRoom old ready → MakesCall ready new command reply
    → IsPresent old → GoesOn patience old new (command ∷ [])
goes_on_after_call counts patience old ready new command reply once stays room call present =
    let first = room_goes patience old ready room present in
    goes_then patience old ready new [] (command ∷ []) first (call_goes counts patience ready new command reply once stays call first.present)

-- with more room the seat may be given the same command
number_same : (old new : SeatHeld) (command : Command) → own_graph_seat (seat_state new) ≡ own_graph_seat (seat_state old) → HasNumber (seat_state old) command → HasNumber (seat_state new) command
number_same old new (commands.New d fields) same has = omega (arith, has, ap (λ (s : GraphSeat). length s.objects) same)
number_same old new (commands.Array d cells) same has = omega (arith, has, ap (λ (s : GraphSeat). length s.objects) same)
number_same old new (commands.Set r i v) same has = omega (arith, has, ap (λ (s : GraphSeat). s.sets) same)
number_same old new (commands.Cas r i a v) same has = omega (arith, has, ap (λ (s : GraphSeat). s.sets) same)
number_same old new _ same has = tt

pub next_command_is_ready : (old ready : SeatHeld) (command : Command) → MayMakeNext old command → MakesRoom old ready → 2 * need_of command + 4 ≤ ready.spare → IsReady (seat_state ready) command
next_command_is_ready old ready command may room enough =
    let same = (looks_around_by_room old ready room).same in
    record {
      present = is_present_still old ready same may.present;
      in_range = may.of_script.0;
      room = enough;
      numbered = number_same old ready command (own_graph_seat_stays old ready same) may.numbered;
    }

-- one command more
pub goes_on_one_command : (patience : ℕ) (old now new : SeatHeld) (script : List Command) (position : ℕ) (command other : Command) → position < length script → command ≡ slice_index_or script position other → GoesOn patience old now (take position script)
    → GoesOn patience now new (command ∷ []) → GoesOn patience old new (take (position + 1) script)
goes_on_one_command patience old now new script position command other within is one more =
    let further : take (position + 1) script ≡ take position script ++ command ∷ [] = take_more script position other within ∙ ap (λ (c : Command). take position script ++ c ∷ []) (sym is) in
    subst (GoesOn patience old new) (sym further) (goes_then patience old now new (take position script) (command ∷ []) one more)
