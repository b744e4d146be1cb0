-- What a whole call comes to by the seat's own entries.
use Rattle.std.proofs.Common.{◌≡◌, ℕ, ◌+◌, List, [], ◌∷◌, ◌++◌, length, sum, Result, Ok, Err, refl, sym, ap, subst, ◌∙◌, mod-eq_of_lt, arith}
use Rattle.std.specs.Prelude.{IfOk, IfErr}
use Rattle.heap_model.specs.Needs.{need_of, made_by, record_fragments}
use Rattle.heap_model.specs.account.PhaseCounts.{last_answer}
use Rattle.heap_model.specs.account.Space.{taken_of, spent_of}
use Rattle.heap_model.specs.calls.SeatCalls.{HasNumber, IsReady, ClaimsBefore, ComesBefore, Adds, takes_of, gives_of}
use Rattle.heap_model.specs.calls.SeatReplies.{record_reply, array_reply, next_id, LacksFragments, LacksSpace, KeepsNothing}
use Rattle.heap_model.specs.declared.command.Command.{Command}
use Rattle.heap_model.specs.declared.command.Command.TheVariants as commands
use Rattle.heap_model.specs.declared.entry.Entry.{Entry}
use Rattle.heap_model.specs.declared.entry.Entry.TheVariants.{Said}
use Rattle.heap_model.specs.declared.id.Id.{Id}
use Rattle.heap_model.specs.declared.id.Id.TheVariants.{Made}
use Rattle.heap_model.specs.declared.refusal.Full.{Full}
use Rattle.heap_model.specs.declared.refusal.SpaceRefusal.{SpaceRefusal}
use Rattle.heap_model.specs.declared.refusal.SpaceRefusal.TheVariants as spaces
use Rattle.heap_model.specs.declared.reply.Reply.{Reply}
use Rattle.heap_model.specs.declared.reply.Reply.TheVariants as replies
use Rattle.core_machine.specs.calls.Kept.{kept_of}
use Rattle.core_machine.specs.calls.Replies.{StandsOn}
use Rattle.core_machine.specs.machine.Machine.{MayBegin}
use Rattle.core_machine.specs.seat.Commands.{IsServed, MakesObject}
use Rattle.core_machine.specs.seat.Fits.{FitsPoint, IsAtRest}
use Rattle.core_machine.specs.seat.Seat.{HasNumberLeft}
use Rattle.core_machine.proofs.own_stages.Sums.{ComeTo, come_to-append, come_to-said, come_to-takes, come_to-gives, come_to-last_gives}
use Rattle.core_rule.specs.hand.Holding.{fragments_in_hand}
use Rattle.heap_table.specs.SeatHeld.{SeatHeld}
use Rattle.heap_table.specs.Made.{ToldIn}
use Rattle.mutator_seat.specs.Calls.{MakesCall}
use Rattle.mutator_seat.specs.Resting.{seat_state, Rests}

-- what a seat that rests has of its own is its reserve
pub unborn_at_rest : (held : SeatHeld) → Rests held → spent_of held.number held.seat.mine + length held.seat.reserve ≡ taken_of held.number held.seat.mine
unborn_at_rest held rests =
    let rest : IsAtRest held.seat = subst (FitsPoint held.heap held.seat) rests.between.idle rests.sound.fits.at_point in
    let none : fragments_in_hand held.seat.hand held.seat.body ≡ [] = ap (fragments_in_hand held.seat.hand) rest.no_body ∙ rest.empty_hand in
    omega (arith, rests.told.unborn, ap (length {A = ℕ}) none)

-- a seat that is ready by its entries may begin the command
number_left : (held : SeatHeld) (command : Command) → Rests held → HasNumber (seat_state held) command → HasNumberLeft held.seat.made held.seat.sets command
number_left held (commands.New d fields) rests has = omega (arith, rests.told.made, has)
number_left held (commands.Array d cells) rests has = omega (arith, rests.told.made, has)
number_left held (commands.Set r i v) rests has = omega (arith, rests.told.sets, has)
number_left held (commands.Cas r i a v) rests has = omega (arith, rests.told.sets, has)
number_left held (commands.Get d r i) rests has = tt
number_left held (commands.Num d n) rests has = tt
number_left held (commands.Nil d) rests has = tt
number_left held (commands.Copy d r) rests has = tt
number_left held (commands.Same a b) rests has = tt
number_left held (commands.Len r) rests has = tt
number_left held commands.Poll rests has = tt
number_left held commands.Collect rests has = tt
number_left held commands.Leave rests has = tt

pub ready_may_begin : (held : SeatHeld) (command : Command) → Rests held → IsServed command → IsReady (seat_state held) command → MayBegin held.seat command
ready_may_begin held command rests served ready = record {
  idle = rests.between.idle;
  present = rests.told.left ∙ ready.present;
  served = served;
  in_range = ready.in_range;
  numbered = number_left held command rests ready.numbered;
}

module _ (old new : SeatHeld) (command : Command) (reply : Reply) (call : MakesCall old new command reply) where
  -- its entries are those of the command
  pub call_adds_its_entries : Adds (seat_state old) (seat_state new) command reply
  call_adds_its_entries = record {
    heap = call.makes.heap_stays;
    number = call.makes.number_stays;
    unborn = length old.seat.reserve;
    had = unborn_at_rest old call.rested;
    before = call.first;
    comes = subst (λ (n : ℕ). ComesBefore old.number (length old.seat.reserve) n command reply call.first) call.rested.told.answered call.comes;
    entries = call.told;
    spare = call.room;
    no_more = call.no_more;
  }

  -- an object is made under the seat's next number
  pub call_names : (id : Id) → reply ≡ replies.Made id → id ≡ next_id (seat_state old)
  call_names id is =
      let stands = subst (StandsOn (ToldIn old call.made) old.heap old.number command (kept_of old.seat) (kept_of new.seat) call.first) is call.stands in
      stands.id_is ∙ ap (Made old.number) call.rested.told.made

  -- where fragments are too few, what was claimed is given back
  claims_full : (command : Command) (need found : ℕ) → MakesObject command → ComesBefore old.number (length old.seat.reserve) old.seat.answered command (replies.Full need found) call.first
      → ClaimsBefore old.number (length old.seat.reserve) (need_of command) (replies.Full need found) call.first
  claims_full (commands.New d fields) need found makes comes = comes
  claims_full (commands.Array d cells) need found makes comes = comes
  claims_full _ need found makes comes = absurd makes

  pub call_lacks : (need found : ℕ) → reply ≡ replies.Full need found → MakesObject command → LacksFragments (seat_state old) (seat_state new) (need_of command) need found
  call_lacks need found is makes =
      let comes : ComesBefore old.number (length old.seat.reserve) old.seat.answered command (replies.Full need found) call.first =
      subst (λ (r : Reply). ComesBefore old.number (length old.seat.reserve) old.seat.answered command r call.first) is call.comes in
      let claims = claims_full command need found makes comes in
      let counts : List ℕ = claims.0 in
      let lacks = claims.2 in
      let said : Entry = Said old.number command reply in
      let before : ComeTo old.number old.seat.mine (taken_of old.number old.seat.mine) (spent_of old.number old.seat.mine) (last_answer old.number old.seat.mine) = record { takes = refl; spends = refl; replies = refl } in
      let between : ComeTo old.number call.first (sum counts + 0) (0 + sum counts) (0 + 0) =
      subst (λ (l : List Entry). ComeTo old.number l (sum counts + 0) (0 + sum counts) (0 + 0)) (sym claims.3)
      (come_to-append old.number (takes_of old.number counts) (gives_of old.number counts) (come_to-takes old.number counts) (come_to-gives old.number counts)) in
      let whole = come_to-append old.number old.seat.mine (call.first ++ said ∷ []) before (come_to-append old.number call.first (said ∷ []) between (come_to-said old.number command reply)) in
      let none : made_by command reply ≡ 0 = ap (made_by command) is in
      let taken = ap (taken_of old.number) call.told ∙ whole.takes in
      let spent = ap (spent_of old.number) call.told ∙ whole.spends in
      record {
        needed = claims.1;
        too_few = omega (arith, lacks.too_few, claims.1);
        all_found = omega (arith, taken, lacks.all_found, unborn_at_rest old call.rested);
        given_back = omega (arith, taken, spent, none);
      }

-- as the trait says it of a record
pub record_gets_next_id : (old new : SeatHeld) (d fields : ℕ) (result : Result Id Full) → MakesCall old new (commands.New d fields) (record_reply result) → IfOk result (λ id. id ≡ next_id (seat_state old))
record_gets_next_id old new d fields (Ok id) call = call_names old new (commands.New d fields) (replies.Made id) call id refl
record_gets_next_id old new d fields (Err full) call = tt

pub refused_record_lacks_fragments : (old new : SeatHeld) (d fields : ℕ) (result : Result Id Full) → MakesCall old new (commands.New d fields) (record_reply result)
    → IfErr result (λ full. LacksFragments (seat_state old) (seat_state new) (record_fragments fields) full.need full.found)
refused_record_lacks_fragments old new d fields (Ok id) call = tt
refused_record_lacks_fragments old new d fields (Err full) call = call_lacks old new (commands.New d fields) (replies.Full full.need full.found) call full.need full.found refl tt

-- and of an array
pub array_gets_next_id : (old new : SeatHeld) (d cells : ℕ) (result : Result Id SpaceRefusal) → MakesCall old new (commands.Array d cells) (array_reply result) → IfOk result (λ id. id ≡ next_id (seat_state old))
array_gets_next_id old new d cells (Ok id) call = call_names old new (commands.Array d cells) (replies.Made id) call id refl
array_gets_next_id old new d cells (Err refusal) call = tt

array_refused : (old new : SeatHeld) (d cells : ℕ) (refusal : SpaceRefusal) → MakesCall old new (commands.Array d cells) (array_reply (Err refusal)) → LacksSpace (seat_state old) (seat_state new) cells refusal
array_refused old new d cells (spaces.Full need found) call = call_lacks old new (commands.Array d cells) (replies.Full need found) call need found refl tt
array_refused old new d cells (spaces.SpineFull need used) call =
    let stands = call.stands in
    (stands.shown_is, omega (arith, stands.too_many, stands.used_is ∙ mod-eq_of_lt stands.told.1))

pub refused_array_lacks_space : (old new : SeatHeld) (d cells : ℕ) (result : Result Id SpaceRefusal) → MakesCall old new (commands.Array d cells) (array_reply result)
    → IfErr result (LacksSpace (seat_state old) (seat_state new) cells)
refused_array_lacks_space old new d cells (Ok id) call = tt
refused_array_lacks_space old new d cells (Err refusal) call = array_refused old new d cells refusal call

-- a seat that has left keeps nothing
pub left_keeps_nothing : (old new : SeatHeld) → MakesCall old new commands.Leave replies.Done → KeepsNothing (seat_state new)
left_keeps_nothing old new call =
    let said : Entry = Said old.number commands.Leave replies.Done in
    let before : ComeTo old.number old.seat.mine (taken_of old.number old.seat.mine) (spent_of old.number old.seat.mine) (last_answer old.number old.seat.mine) = record { takes = refl; spends = refl; replies = refl } in
    let between : ComeTo old.number call.first 0 (length old.seat.reserve) 0 = subst (λ (l : List Entry). ComeTo old.number l 0 (length old.seat.reserve) 0) (sym call.comes) (come_to-last_gives old.number (length old.seat.reserve)) in
    let whole = come_to-append old.number old.seat.mine (call.first ++ said ∷ []) before (come_to-append old.number call.first (said ∷ []) between (come_to-said old.number commands.Leave replies.Done)) in
    let taken = ap (taken_of old.number) call.told ∙ whole.takes in
    let spent = ap (spent_of old.number) call.told ∙ whole.spends in
    subst (λ (n : ℕ). spent_of n new.seat.mine ≡ taken_of n new.seat.mine) (sym call.makes.number_stays) (omega (arith, taken, spent, unborn_at_rest old call.rested))
