-- Steps that a seat has made: they go on by one more, one list of them behind another, and the call stands after them as it is to.
use Rattle.std.proofs.Common.{◌≡◌, ℕ, ◌+◌, ◌<◌, ◌≤◌, List, [], ◌∷◌, ◌++◌, length, Option, Some, None, refl, sym, ap, subst, ◌∙◌, append-nil, append_assoc, length-append, arith}
use Rattle.std.specs.Prelude.{IfSome, option_map, replicate}
use Rattle.std.proofs.lemmas.List.{get_or_push, length-replicate}
use Rattle.std.proofs.lemmas.List.Elements.{Contains-append_left, Contains-append_right, Contains-push}
use Rattle.heap_model.specs.Heap.{IsHeap}
use Rattle.heap_model.specs.declared.command.Command.{Command}
use Rattle.heap_model.specs.declared.entry.Entry.{Entry}
use Rattle.heap_model.specs.declared.heap.Heap.{Heap}
use Rattle.core_machine.specs.declared.step.Step.{Step}
use Rattle.core_machine.specs.declared.table.address.Address.{Address}
use Rattle.core_machine.specs.Moves.{Move, next_move, due_step, seat_after_due}
use Rattle.core_machine.specs.calls.OwnStage.{OwnStage}
use Rattle.core_machine.specs.collector.Collector.{opening_collector}
use Rattle.core_machine.specs.machine.Machine.{State}
use Rattle.core_machine.specs.seat.Fits.{Fits}
use Rattle.core_machine.specs.seat.Seat.{Seat}
use Rattle.core_machine.specs.table.Layout.{at, index_of}
use Rattle.core_machine.specs.table.Operation.{address_of}
use Rattle.core_machine.specs.calls.Owes.{owes, steps_left}
use Rattle.core_machine.proofs.moves.{due_move_stands}
use Rattle.core_machine.proofs.moves.Standing.{MoveStands}
use Rattle.core_machine.proofs.own_stages.{own_leads}
use Rattle.core_rule.specs.cycle.Flight.{WhileAccess}
use Rattle.core_rule.specs.told.Reached.{HasReached}
use Rattle.heap_table.specs.Begun.{next_seat}
use Rattle.heap_table.specs.Made.{Made, FoundIn, LeadsTo, MakesSteps, IsSound}
use Rattle.heap_table.specs.SeatHeld.{SeatHeld, IsStepped, StepFinds}
use Rattle.heap_table.specs.StepLaws.{IsNearer}
use Rattle.heap_table.specs.Told.{ToldAtStep}
use Rattle.heap_table.proofs.SeatSteps.{at_is_read_at_index}

-- steps behind other steps
pub leads_append : (heap : Heap) (number : ℕ) (first mid last : Seat) (made more : List Made) → LeadsTo heap number first made mid → LeadsTo heap number mid more last
    → LeadsTo heap number first (made ++ more) last
leads_append heap number first mid last [] more here there = subst (λ (s : Seat). LeadsTo heap number s more last) here there
leads_append heap number first mid last (m ∷ made) more here there = (here.0, here.1, leads_append heap number (next_seat heap number first m.found) mid last made more here.2 there)

-- a holder that has made no step yet
pub makes_no_steps : (held : SeatHeld) → MakesSteps held held []
makes_no_steps held = record { table_stays = refl; heap_stays = refl; number_stays = refl; leads = refl; room_stays = omega arith; no_more = omega arith }

-- and one that makes one list of steps behind another
pub makes_steps_of_append : (first mid last : SeatHeld) (made more : List Made) → MakesSteps first mid made → MakesSteps mid last more → MakesSteps first last (made ++ more)
makes_steps_of_append first mid last made more one two = record {
  table_stays = two.table_stays ∙ one.table_stays;
  heap_stays = two.heap_stays ∙ one.heap_stays;
  number_stays = two.number_stays ∙ one.number_stays;
  leads = leads_append first.heap first.number first.seat mid.seat last.seat made more one.leads
      (subst (λ (n : ℕ). LeadsTo first.heap n mid.seat more last.seat) one.number_stays (subst (λ (h : Heap). LeadsTo h mid.number mid.seat more last.seat) one.heap_stays two.leads));
  room_stays = omega (arith, one.room_stays, two.room_stays);
  no_more = omega (arith, one.no_more, two.no_more);
}

-- one step alone
pub makes_one_step : (old new : SeatHeld) (step : Step) (found : ℕ) → due_step old.heap old.number old.seat ≡ Some step → ToldAtStep old.heap old.number old.seat found → IsStepped old new found
    → MakesSteps old new (record { step = step; found = found } ∷ [])
makes_one_step old new step found due told stepped = record {
  table_stays = stepped.table_stays;
  heap_stays = stepped.heap_stays;
  number_stays = stepped.number_stays;
  leads = (due, told, stepped.seat_is);
  room_stays = stepped.room_stays;
  no_more = stepped.no_more;
}

-- to what it has led a call on an object
pub while_access_has_reached : (old new : SeatHeld) (found : ℕ) → IsStepped old new found → ToldAtStep old.heap old.number old.seat found → WhileAccess (HasReached new.heap new.number new.seat) new.seat.point
while_access_has_reached old new found stepped told =
    subst (λ (h : Heap). WhileAccess (HasReached h new.number new.seat) new.seat.point) (sym stepped.heap_stays)
    (subst (λ (n : ℕ). WhileAccess (HasReached old.heap n new.seat) new.seat.point) (sym stepped.number_stays)
    (subst (λ (s : Seat). WhileAccess (HasReached old.heap old.number s) s.point) (sym stepped.seat_is) told.comes))

-- each of the steps is one of these and those
pub found_in_longer_steps : (made : List Made) (m : Made) (step : Step) (word : ℕ) → FoundIn made step word → FoundIn (m ∷ made) step word
found_in_longer_steps made m step word there = Contains-append_right (m ∷ []) made (record { step = step; found = word }) there

pub found_in_first_step : (made : List Made) (m : Made) → FoundIn (m ∷ made) m.step m.found
found_in_first_step made m = Contains-append_left (m ∷ []) made m (Contains-push [] m)

-- some words have this one at an address
some_words : (heap : Heap) (a : Address) (found : ℕ) → (words : List ℕ) × (at heap words a ≡ found)
some_words heap a found =
    let before : List ℕ = replicate (index_of heap a) 0 in
    (before ++ found ∷ [], at_is_read_at_index heap (before ++ found ∷ []) a ∙ get_or_push before found 0 (index_of heap a) (length-replicate (index_of heap a) 0))

-- the move that is due
module _ (heap : Heap) (number : ℕ) (seat : Seat) (limits : IsHeap heap) (few : number < 16) (fits : Fits heap seat) where
  near_by : (move : Option Move) (step : Step) (found : ℕ) (next : Seat) → option_map (λ (m : Move). m.step) move ≡ Some step → IfSome move (MoveStands heap number seat seat.point)
      → next ≡ seat_after_due seat move found → (steps_left heap next < steps_left heap seat) × (owes next + length next.mine ≤ owes seat + length seat.mine)
  near_by None step found next due stands same = cc
  near_by (Some m) step found next due stands same =
      let near = stands.near found in
      let words = some_words heap (address_of m.step) found in
      let now : State = record { words = words.0; seats = []; collector = opening_collector } in
      let kept : (m.told found).mine ≡ seat.mine = subst (λ (n : ℕ). (m.told n).mine ≡ seat.mine) words.1 (stands.adds now).kept in
      let long = length-append (m.told found).mine (m.adds found) in
      subst (λ (s : Seat). (steps_left heap s < steps_left heap seat) × (owes s + length s.mine ≤ owes seat + length seat.mine)) (sym same)
      (near.fewer, omega (arith, near.paid, long, ap (length {A = Entry}) kept))

  -- by it fewer steps are left, and no more entries are added than were owed
  pub step_nears_end : (step : Step) (found : ℕ) (next : Seat) → due_step heap number seat ≡ Some step → next ≡ next_seat heap number seat found
      → (steps_left heap next < steps_left heap seat) × (owes next + length next.mine ≤ owes seat + length seat.mine)
  step_nears_end step found next due is = near_by (next_move heap number seat) step found next due (due_move_stands heap number seat limits few fits) is

  on_by : (tells : Step → ℕ → Type 0) (command : Command) (old : Seat) (told : List Entry) (move : Option Move) (step : Step) (found : ℕ) → next_move heap number seat ≡ move
      → option_map (λ (m : Move). m.step) move ≡ Some step → tells step found → OwnStage tells heap number command old seat told
      → (more : List Entry) × OwnStage tells heap number command old (seat_after_due seat move found) (told ++ more)
  on_by tells command old told None step found next due tell stage = cc
  on_by tells command old told (Some m) step found next due tell stage =
      let same : m.step ≡ step = cc in
      (m.adds found, own_leads tells heap number command old seat told m found limits few fits next (subst (λ (s : Step). tells s found) (sym same) tell) stage)

  -- and the call stands after it as it is to, whatever word it found of which so much is told
  pub stage_stands_after_step : (tells : Step → ℕ → Type 0) (command : Command) (old : Seat) (told : List Entry) (step : Step) (found : ℕ) → due_step heap number seat ≡ Some step → tells step found
      → OwnStage tells heap number command old seat told → (more : List Entry) × OwnStage tells heap number command old (next_seat heap number seat found) (told ++ more)
  stage_stands_after_step tells command old told step found due tell stage = on_by tells command old told (next_move heap number seat) step found refl due tell stage

-- one step behind those that were made
pub makes_one_more : (first now new : SeatHeld) (made : List Made) (step : Step) (found : ℕ) → MakesSteps first now made → due_step now.heap now.number now.seat ≡ Some step → StepFinds now new found
    → MakesSteps first new (made ++ record { step = step; found = found } ∷ [])
makes_one_more first now new made step found makes due finds =
    makes_steps_of_append first now new made (record { step = step; found = found } ∷ []) makes (makes_one_step now new step found due finds.told finds.stepped)

-- a holder's call is nearer to its end after its step
pub step_is_nearer : (old new : SeatHeld) (step : Step) (found : ℕ) → IsSound old → due_step old.heap old.number old.seat ≡ Some step → StepFinds old new found → IsNearer old new
step_is_nearer old new step found sound due finds =
    let near = step_nears_end old.heap old.number old.seat sound.limits (omega (arith, sound.within, sound.limits.seats_fit)) sound.fits step found new.seat due finds.stepped.seat_is in
    record { fewer = subst (λ (h : Heap). steps_left h new.seat < steps_left old.heap old.seat) (sym finds.stepped.heap_stays) near.0; paid = near.1 }

-- the data fit together after all these steps
fits_along : (heap : Heap) (number : ℕ) (first now : Seat) (made : List Made) → Fits heap first → LeadsTo heap number first made now → Fits heap now
fits_along heap number first now [] fits leads = subst (Fits heap) (sym leads) fits
fits_along heap number first now (m ∷ made) fits leads = fits_along heap number (next_seat heap number first m.found) now made leads.1.fits leads.2

pub stays_sound_along_steps : (old new : SeatHeld) (made : List Made) → IsSound old → MakesSteps old new made → IsSound new
stays_sound_along_steps old new made sound makes = record {
  limits = subst IsHeap (sym makes.heap_stays) sound.limits;
  within = omega (arith, sound.within, makes.number_stays, ap (λ (h : Heap). h.seats) makes.heap_stays);
  fits = subst (λ (h : Heap). Fits h new.seat) (sym makes.heap_stays) (fits_along old.heap old.number old.seat new.seat made sound.fits makes.leads);
}

-- what a call owes and what its seat has told grow by no step
owes_no_more : (heap : Heap) (number : ℕ) → IsHeap heap → number < 16 → (first now : Seat) → Fits heap first → (made : List Made) → LeadsTo heap number first made now
    → owes now + length now.mine ≤ owes first + length first.mine
owes_no_more heap number limits few first now fits [] leads = subst (λ (s : Seat). owes s + length s.mine ≤ owes first + length first.mine) (sym leads) (omega arith)
owes_no_more heap number limits few first now fits (m ∷ made) leads =
    let near = step_nears_end heap number first limits few fits m.step m.found (next_seat heap number first m.found) leads.0 refl in
    let rest = owes_no_more heap number limits few (next_seat heap number first m.found) now leads.1.fits made leads.2 in
    omega (arith, near.1, rest)

-- so the room that was enough is enough for what is still owed
pub room_is_left_along_steps : (old new : SeatHeld) (made : List Made) → IsSound old → MakesSteps old new made → owes old.seat + 2 ≤ old.spare → owes new.seat + 2 ≤ new.spare
room_is_left_along_steps old new made sound makes room =
    let owed = owes_no_more old.heap old.number sound.limits (omega (arith, sound.within, sound.limits.seats_fit)) old.seat new.seat sound.fits made makes.leads in
    omega (arith, owed, room, makes.room_stays)

-- a call that stands so stands after all these steps as it is to, where so much is told of each of them
pub stage_stands_along_steps : (tells : Step → ℕ → Type 0) (heap : Heap) (number : ℕ) (command : Command) (old : Seat) → IsHeap heap → number < 16
    → (made : List Made) (seat new : Seat) (told : List Entry) → Fits heap seat → LeadsTo heap number seat made new → ((step : Step) (word : ℕ) → FoundIn made step word → tells step word)
    → OwnStage tells heap number command old seat told → (more : List Entry) × OwnStage tells heap number command old new (told ++ more)
stage_stands_along_steps tells heap number command old limits few [] seat new told fits leads tell stage =
    ([], subst (λ (t : List Entry). OwnStage tells heap number command old new t) (sym (append-nil told)) (subst (λ (s : Seat). OwnStage tells heap number command old s told) (sym leads) stage))
stage_stands_along_steps tells heap number command old limits few (m ∷ made) seat new told fits leads tell stage =
    let on = stage_stands_after_step heap number seat limits few fits tells command old told m.step m.found leads.0 (tell m.step m.found (found_in_first_step made m)) stage in
    let rest = stage_stands_along_steps tells heap number command old limits few made (next_seat heap number seat m.found) new (told ++ on.0) leads.1.fits leads.2
    (λ step word there. tell step word (found_in_longer_steps made m step word there)) on.1 in
    (on.0 ++ rest.0, subst (λ (t : List Entry). OwnStage tells heap number command old new t) (append_assoc told on.0 rest.0) rest.1)
