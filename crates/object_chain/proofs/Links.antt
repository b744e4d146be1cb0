-- A walk goes by one link after another to its field.
use Rattle.std.proofs.Common.{◌≡◌, ℕ, zero, suc, ◌+◌, ◌<◌, ◌≤◌, List, [], ◌∷◌, ◌++◌, Option, Some, None, refl, sym, ap, subst, ◌∙◌, inl, inr, arith}
use Rattle.std.proofs.lemmas.Bool.Decides.{eqb_tells, leb_tells}
use Rattle.std.proofs.lemmas.List.Elements.{Contains-append_left, Contains-append_right}
use Rattle.std.specs.Prelude.{option_map}
use Rattle.heap_words.specs.Loaded.{length_of}
use Rattle.heap_words.specs.declared.meta.Meta.{Meta}
use Rattle.heap_model.specs.declared.command.Command.{Command}
use Rattle.heap_model.specs.declared.command.Command.TheVariants as commands
use Rattle.heap_model.specs.declared.heap.Heap.{Heap}
use Rattle.heap_model.specs.declared.reply.Reply.{Reply}
use Rattle.core_machine.specs.Moves.{Move, move_at, due_step, seat_after_due}
use Rattle.core_machine.specs.calls.Reaching.{LeadsTo}
use Rattle.core_machine.specs.declared.point.Access.TheVariants.{Walking, Getting, LoadingOld, Swapping, ShadingSide, Replacing}
use Rattle.core_machine.specs.declared.point.Point.{Point}
use Rattle.core_machine.specs.declared.point.Point.TheVariants as points
use Rattle.core_machine.specs.declared.step.AccessStep.TheVariants.{WalkLoad}
use Rattle.core_machine.specs.declared.step.Step.{Step}
use Rattle.core_machine.specs.declared.step.Step.TheVariants as steps
use Rattle.core_machine.specs.seat.Access.{row_of, part_of, at_access, with_field_place, field_point_of, way_point_of, after_link, after_walk, after_length, after_meta, meta_reply_of}
use Rattle.core_machine.specs.seat.AccessMoves.{reply_entries_if}
use Rattle.core_machine.specs.declared.seat.register.Register.{Register}
use Rattle.core_machine.specs.seat.Commands.{object_of, field_of}
use Rattle.core_machine.specs.seat.Registers.{register_in, register_head}
use Rattle.core_machine.specs.seat.FitsAccess.{NamesField}
use Rattle.core_machine.specs.seat.Seat.{Seat, with_entries}
use Rattle.core_machine.specs.calls.Owes.{owes, owes_at, steps_left}
use Rattle.core_machine.proofs.seat_lemmas.FieldPoints.{field_point_cases}
use Rattle.core_rule.specs.cycle.Flight.{WhileAccess}
use Rattle.core_rule.specs.told.Reached.{HasReached}
use Rattle.heap_table.specs.Made.{Made, FoundIn, MakesSteps, IsSound}
use Rattle.heap_table.specs.SeatHeld.{SeatHeld, IsStepped, StepFinds}
use Rattle.heap_table.specs.StepLaws.{EachMakesNone, OneMoreIsMade, EachStepIsNearer, EachStepReaches}
use Rattle.heap_table.specs.Told.{ToldAtStep}
use Rattle.object_chain.specs.Due.{due_of_walk}
use Rattle.object_chain.specs.FieldPlace.{IsPlaceOfField}
use Rattle.object_chain.specs.Walking.{BeginsWalking, HasFound, IsAtField}
use Rattle.object_chain.proofs.FieldPlaces.{HoldsHead, loaded_meta_is_heads, reached_place_is_fields}

-- what is told of each word by fewer is told by more
leads_by : (few more : Step → ℕ → Type 0) (links head reached : ℕ) → ((step : Step) (word : ℕ) → few step word → more step word) → LeadsTo few links head reached → LeadsTo more links head reached
leads_by few more zero head reached on leads = leads
leads_by few more (suc links) head reached on leads =
    (leads.0, leads.1, leads_by few more links head leads.0 on leads.2, on (steps.Access (WalkLoad leads.0)) leads.1 leads.3, leads.4)

-- so far the way has come where so many links are left, or at the field
abbrev pub WayAt : (Step → ℕ → Type 0) → ℕ → ℕ → ℕ → ℕ → Point → Type 0
WayAt tells head rows links reached (points.Access Walking) = (passed : ℕ) × (passed + links ≡ rows) × LeadsTo tells passed head reached
WayAt tells head rows links reached (points.Access Getting) = LeadsTo tells rows head reached
WayAt tells head rows links reached (points.Access LoadingOld) = LeadsTo tells rows head reached
WayAt tells head rows links reached (points.Access Swapping) = LeadsTo tells rows head reached
WayAt tells head rows links reached (points.Access (ShadingSide side)) = LeadsTo tells rows head reached
WayAt tells head rows links reached (points.Access Replacing) = LeadsTo tells rows head reached
WayAt tells head rows links reached _ = ⊥

way_by : (few more : Step → ℕ → Type 0) (head rows links reached : ℕ) (point : Point) → ((step : Step) (word : ℕ) → few step word → more step word) → WayAt few head rows links reached point → WayAt more head rows links reached point
way_by few more head rows links reached (points.Access Walking) on way = (way.0, way.1, leads_by few more way.0 head reached on way.2)
way_by few more head rows links reached (points.Access Getting) on way = leads_by few more rows head reached on way
way_by few more head rows links reached (points.Access LoadingOld) on way = leads_by few more rows head reached on way
way_by few more head rows links reached (points.Access Swapping) on way = leads_by few more rows head reached on way
way_by few more head rows links reached (points.Access (ShadingSide side)) on way = leads_by few more rows head reached on way
way_by few more head rows links reached (points.Access Replacing) on way = leads_by few more rows head reached on way
way_by few more head rows links reached _ on way = absurd way

module _ (tells : Step → ℕ → Type 0) (head rows : ℕ) where
  -- the way of this seat
  abbrev pub WayOf : Seat → Type 0
  WayOf seat = WayAt tells head rows seat.links seat.reached seat.point

  -- where no link is left it is at the field
  at_field : (seat : Seat) → LeadsTo tells rows head seat.reached → WayOf (at_access seat (field_point_of seat seat.command))
  at_field seat leads = field_point_cases (λ a. WayAt tells head rows seat.links seat.reached (points.Access a)) seat seat.command leads (λ on. leads) (λ off. leads) (λ on some. leads) (λ on none some. leads) (λ none. leads)

  on_way : (seat : Seat) → (passed : ℕ) → passed + seat.links ≡ rows → LeadsTo tells passed head seat.reached → WayAt tells head rows seat.links seat.reached (points.Access (way_point_of seat))
  on_way seat passed all leads =
      elim (eqb_tells seat.links 0) as (λ _. WayAt tells head rows seat.links seat.reached (points.Access (way_point_of seat))) [
        | inl none ↦
            let whole : passed ≡ rows = omega (arith, all, none.1) in
            rw none.0 (at_field seat (subst (λ (n : ℕ). LeadsTo tells n head seat.reached) whole leads))
        | inr some ↦ rw some.0 (passed, all, leads)
      ]

  -- one link more
  walked : (seat : Seat) (found passed : ℕ) → passed + seat.links ≡ rows → LeadsTo tells passed head seat.reached → tells (steps.Access (WalkLoad seat.reached)) found → WayOf (after_walk seat found)
  walked seat found passed all leads tell =
      elim (eqb_tells seat.links 0) as (λ _. WayOf (after_walk seat found)) [
        | inl none ↦
            let whole : passed ≡ rows = omega (arith, all, none.1) in
            rw none.0 (at_field seat (subst (λ (n : ℕ). LeadsTo tells n head seat.reached) whole leads))
        | inr some ↦ rw some.0 (on_way (after_link seat found) (suc passed) (omega (arith, all, some.1)) (seat.reached, found, leads, tell, refl))
      ]

-- the call is the same, and its field's part
abbrev SameCall : Seat → Seat → Type 0
SameCall old new = (new.part ≡ old.part) × (new.registers ≡ old.registers) × (new.command ≡ old.command)

walking_stays : (seat : Seat) (found : ℕ) → SameCall seat (after_walk seat found)
walking_stays seat found = elim (eqb_tells seat.links 0) as (λ _. SameCall seat (after_walk seat found)) [ inl none ↦ rw none.0 (refl, refl, refl) | inr some ↦ rw some.0 (refl, refl, refl) ]

stays_by : (old walked_to new : Seat) → new ≡ with_entries walked_to [] → SameCall old walked_to → SameCall old new
stays_by old walked_to new is same = (ap (λ (s : Seat). s.part) is ∙ same.0, ap (λ (s : Seat). s.registers) is ∙ same.1, ap (λ (s : Seat). s.command) is ∙ same.2)

holds_on : (old new : Seat) (head : ℕ) → SameCall old new → HoldsHead old head → HoldsHead new head
holds_on old new head same holds =
    ap (λ (l : List Register). register_head (register_in l (object_of new.command))) same.1 ∙ ap (λ (c : Command). register_head (register_in old.registers (object_of c))) same.2 ∙ holds

-- a field that the object has is not refused
none_refused : (command : Command) (word : ℕ) → NamesField command → field_of command < length_of word → meta_reply_of command word ≡ None
none_refused (commands.Get d r i) word names within = elim (leb_tells (suc i) (length_of word)) as (λ _. meta_reply_of (commands.Get d r i) word ≡ None) [ inl yes_ ↦ rw yes_.0 refl | inr past ↦ absurd (omega (arith, past.1, within)) ]
none_refused (commands.Set r i v) word names within = elim (leb_tells (suc i) (length_of word)) as (λ _. meta_reply_of (commands.Set r i v) word ≡ None) [ inl yes_ ↦ rw yes_.0 refl | inr past ↦ absurd (omega (arith, past.1, within)) ]
none_refused (commands.Cas r i a v) word names within = elim (leb_tells (suc i) (length_of word)) as (λ _. meta_reply_of (commands.Cas r i a v) word ≡ None) [ inl yes_ ↦ rw yes_.0 refl | inr past ↦ absurd (omega (arith, past.1, within)) ]
none_refused _ word names within = absurd names

-- while the way goes on
pub record WhileWalking (head : ℕ) (meta : Meta) (field : ℕ) (first now : SeatHeld) : Type 0 where
  pub made : List Made
  pub makes : MakesSteps first now made
  pub way : WayOf (HasFound made head meta) head (row_of field) now.seat
  pub part_is : now.seat.part ≡ part_of field
  pub holds : HoldsHead now.seat head
  pub field_is : field_of now.seat.command ≡ field
  pub comes : WhileAccess (HasReached now.heap now.number now.seat) now.seat.point
  pub room : owes now.seat + 2 ≤ now.spare

-- each point of it owes one entry
way_owes : (tells : Step → ℕ → Type 0) (head rows links reached : ℕ) (seat : Seat) (point : Point) → WayAt tells head rows links reached point → owes_at seat point ≡ 1
way_owes tells head rows links reached seat (points.Access point) way = refl
way_owes tells head rows links reached seat _ way = absurd way

pub while_walking_at_begin : EachMakesNone → (held : SeatHeld) (head : ℕ) (meta : Meta) (field : ℕ) → BeginsWalking held head meta field → 3 ≤ held.spare → WhileWalking head meta field held held
while_walking_at_begin none held head meta field begins room =
    let before = begins.before in
    let start = with_field_place before in
    let tells = HasFound [] head meta in
    let within : field_of before.command < length_of begins.word = omega (arith, begins.within, begins.field_is, begins.tells.length_is) in
    let is : held.seat ≡ with_entries (after_walk start begins.word) [] =
    begins.goes_on ∙ ap (λ (p : Point). seat_after_due before (move_at held.heap held.number before p) begins.word) begins.loading
    ∙ ap (λ (r : Option Reply). with_entries (after_meta before begins.word r) (reply_entries_if held.number before r)) (none_refused before.command begins.word begins.names within)
    ∙ ap (λ (n : Option ℕ). with_entries (after_length before begins.word n) []) begins.tells.a_record in
    let rows : row_of (field_of before.command) ≡ row_of field = ap row_of begins.field_is in
    let tell : tells (steps.Access (WalkLoad start.reached)) begins.word = inr (ap (λ (n : ℕ). steps.Access (WalkLoad n)) begins.head_is, begins.tells) in
    let way : WayOf tells head (row_of field) (after_walk start begins.word) = walked tells head (row_of field) start begins.word 0 (omega (arith, rows)) begins.head_is tell in
    let here : WayOf tells head (row_of field) held.seat = subst (λ (s : Seat). WayOf tells head (row_of field) s) (sym is) way in
    let same = stays_by start (after_walk start begins.word) held.seat is (walking_stays start begins.word) in
    record {
      made = [];
      makes = none held;
      way = here;
      part_is = same.0 ∙ ap part_of begins.field_is;
      holds = holds_on start held.seat head same (subst (HoldsHead before) begins.head_is (loaded_meta_is_heads held.heap held.number before begins.word begins.loading begins.told));
      field_is = ap field_of same.2 ∙ begins.field_is;
      comes = subst (λ (s : Seat). WhileAccess (HasReached held.heap held.number s) s.point) (sym begins.goes_on) begins.told.comes;
      room = omega (arith, room, way_owes tells head (row_of field) held.seat.links held.seat.reached held.seat held.seat.point here);
    }

of_walk : (point : Point) (due : Option Step) (step : Step) → due_of_walk point due ≡ Some step → (point ≡ points.Access Walking) × (due ≡ Some step)
of_walk (points.Access Walking) due step e = (refl, e)
of_walk _ due step e = cc

same_step : {a b : Step} → Some a ≡ Some b → a ≡ b
same_step e = cc

pub while_walking_after_step : OneMoreIsMade → EachStepIsNearer → EachStepReaches → (head : ℕ) (meta : Meta) (field : ℕ) (first now new : SeatHeld) (step : Step) (found : ℕ) → IsSound now → WhileWalking head meta field first now
    → due_of_walk now.seat.point (due_step now.heap now.number now.seat) ≡ Some step → IsStepped now new found → ToldAtStep now.heap now.number now.seat found
    → WhileWalking head meta field first new × (steps_left new.heap new.seat < steps_left now.heap now.seat)
while_walking_after_step more nearer reached head meta field first now new step found sound while is stepped told =
    let finds : StepFinds now new found = record { stepped = stepped; told = told } in
    let at = of_walk now.seat.point (due_step now.heap now.number now.seat) step is in
    let near = nearer now new step found sound at.1 finds in
    let made = while.made ++ record { step = step; found = found } ∷ [] in
    let tells = HasFound made head meta in
    let loads : steps.Access (WalkLoad now.seat.reached) ≡ step =
    same_step (sym (ap (λ (p : Point). option_map (λ (m : Move). m.step) (move_at now.heap now.number now.seat p)) at.0) ∙ at.1) in
    let last : FoundIn made step found = Contains-append_right while.made (record { step = step; found = found } ∷ []) (record { step = step; found = found }) (0, omega arith, refl) in
    let tell : tells (steps.Access (WalkLoad now.seat.reached)) found = inl (subst (λ (s : Step). FoundIn made s found) (sym loads) last) in
    let way : WayAt (HasFound while.made head meta) head (row_of field) now.seat.links now.seat.reached (points.Access Walking) =
    subst (WayAt (HasFound while.made head meta) head (row_of field) now.seat.links now.seat.reached) at.0 while.way in
    let wider = way_by (HasFound while.made head meta) tells head (row_of field) now.seat.links now.seat.reached (points.Access Walking) (λ s w. found_on s w) way in
    let next : new.seat ≡ with_entries (after_walk now.seat found) [] =
    stepped.seat_is ∙ ap (λ (p : Point). seat_after_due now.seat (move_at now.heap now.number now.seat p) found) at.0 in
    let same = stays_by now.seat (after_walk now.seat found) new.seat next (walking_stays now.seat found) in (
      record {
        made = made;
        makes = more first now new while.made step found while.makes at.1 finds;
        way = subst (λ (s : Seat). WayOf tells head (row_of field) s) (sym next) (walked tells head (row_of field) now.seat found wider.0 wider.1 wider.2 tell);
        part_is = same.0 ∙ while.part_is;
        holds = holds_on now.seat new.seat head same while.holds;
        field_is = ap field_of same.2 ∙ while.field_is;
        comes = reached now new found finds;
        room = omega (arith, while.room, near.paid, stepped.room_stays);
      },
      near.fewer,
    )
  where
    found_on : (s : Step) (w : ℕ) → HasFound while.made head meta s w → HasFound (while.made ++ record { step = step; found = found } ∷ []) head meta s w
    found_on s w (inl here) = inl (Contains-append_left while.made (record { step = step; found = found } ∷ []) (record { step = s; found = w }) here)
    found_on s w (inr first_) = inr first_

-- once no link is to be loaded the seat is at the field
module _ (head : ℕ) (meta : Meta) (field : ℕ) (first held : SeatHeld) (while : WhileWalking head meta field first held) (none : due_of_walk held.seat.point (due_step held.heap held.number held.seat) ≡ None) where
  abbrev tells : Step → ℕ → Type 0
  tells = HasFound while.made head meta

  some_due : {step : Step} → due_step held.heap held.number held.seat ≡ None → due_step held.heap held.number held.seat ≡ Some step → ⊥
  some_due a b = cc

  ends_at : (point : Point) → held.seat.point ≡ point → WayAt tells head (row_of field) held.seat.links held.seat.reached point → LeadsTo tells (row_of field) head held.seat.reached × IsAtField point
  ends_at (points.Access Walking) is way =
      absurd (some_due (ap (λ (p : Point). due_of_walk p (due_step held.heap held.number held.seat)) (sym is) ∙ none)
      (ap (λ (p : Point). option_map (λ (m : Move). m.step) (move_at held.heap held.number held.seat p)) is))
  ends_at (points.Access Getting) is way = (way, tt)
  ends_at (points.Access LoadingOld) is way = (way, tt)
  ends_at (points.Access Swapping) is way = (way, tt)
  ends_at (points.Access (ShadingSide side)) is way = (way, tt)
  ends_at (points.Access Replacing) is way = (way, tt)
  ends_at _ is way = absurd way

  pub walk_leads_to_field : LeadsTo (HasFound while.made head meta) (row_of field) head held.seat.reached × IsAtField held.seat.point
  walk_leads_to_field = ends_at held.seat.point refl while.way

  -- which is the one of its object
  pub walked_place_is_fields : IsPlaceOfField held head field held.seat.reached held.seat.part
  walked_place_is_fields = subst (λ (i : ℕ). IsPlaceOfField held head i held.seat.reached held.seat.part) while.field_is (reached_place_is_fields held head while.holds walk_leads_to_field.1 while.comes)

  pub walk_leaves_room : 3 ≤ held.spare
  walk_leaves_room = omega (arith, while.room, way_owes tells head (row_of field) held.seat.links held.seat.reached held.seat held.seat.point while.way)
