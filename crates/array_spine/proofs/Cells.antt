-- The steps by which a cell is reached through the spine.
use Rattle.std.proofs.Common.{◌≡◌, ℕ, ◌+◌, ◌/◌, ◌%◌, Bool, cond, List, [], ◌∷◌, Some, refl, sym, ap, subst, ◌∙◌, append-nil, arith}
use Rattle.std.specs.Prelude.{option_map}
use Rattle.heap_words.specs.Spot.{spot_in}
use Rattle.heap_model.specs.declared.entry.Entry.{Entry}
use Rattle.core_machine.specs.Moves.{Move, move_at, due_step, seat_after_due}
use Rattle.core_machine.specs.declared.point.Point.{Point}
use Rattle.core_machine.specs.declared.point.Point.TheVariants as points
use Rattle.core_machine.specs.declared.step.SpineStep.TheVariants.{AddressLoad, WordLoad}
use Rattle.core_machine.specs.declared.step.Step.{Step}
use Rattle.core_machine.specs.declared.step.Step.TheVariants.{Spine}
use Rattle.core_machine.specs.declared.point.Access.TheVariants.{LoadingSpot}
use Rattle.core_machine.specs.seat.Commands.{field_of}
use Rattle.core_machine.specs.seat.Registers.{register_head}
use Rattle.core_machine.specs.seat.Access.{after_address, after_index, at_payload, part_of}
use Rattle.core_machine.specs.seat.Seat.{Seat, with_entries}
use Rattle.core_rule.specs.cycle.Flight.{WhileAccess}
use Rattle.core_rule.specs.told.Reached.{ReachesInBook}
use Rattle.heap_table.specs.Made.{Made, MakesSteps}
use Rattle.core_machine.proofs.seat_lemmas.FieldPoints.{field_point_cases}
use Rattle.heap_table.specs.SeatHeld.{SeatHeld, IsStepped}
use Rattle.heap_table.specs.Told.{ToldAtStep}
use Rattle.heap_table.specs.StepLaws.{EachStepIsMade, StepsJoin, EachStepReaches}
use Rattle.object_chain.specs.FieldPlace.{IsPlaceOfField}
use Rattle.object_chain.specs.Walking.{IsAtField}
use Rattle.object_chain.proofs.FieldPlaces.{HoldsHead, reached_place_is_fields}
use Rattle.array_spine.specs.Locating.{BeginsLocating, IsNamedBySpine}

no_entries : (seat : Seat) → with_entries seat [] ≡ seat
no_entries seat = ap (λ (mine : List Entry). record seat { mine = mine }) (append-nil seat.mine)

module _ (old mid new : SeatHeld) (sentinel index address word : ℕ) (begins : BeginsLocating old sentinel index) (stepped : IsStepped old mid address) (told : ToldAtStep old.heap old.number old.seat address)
    (stepped_then : IsStepped mid new word) (told_then : ToldAtStep mid.heap mid.number mid.seat word) where
  abbrev loads_address : Made
  loads_address = record { step = Spine (AddressLoad sentinel); found = address }

  abbrev word_step : Step
  word_step = Spine (WordLoad (spot_in address).half ((spot_in address).offset + index / 4))

  abbrev loads_word : Made
  loads_word = record { step = word_step; found = word }

  address_due : due_step old.heap old.number old.seat ≡ Some (Spine (AddressLoad sentinel))
  address_due =
      ap (λ (p : Point). option_map (λ (m : Move). m.step) (move_at old.heap old.number old.seat p)) begins.point_is
      ∙ ap (λ (n : ℕ). Some (Spine (AddressLoad n))) begins.sentinel_is

  located : mid.seat ≡ after_address old.seat address
  located =
      stepped.seat_is ∙ ap (λ (p : Point). seat_after_due old.seat (move_at old.heap old.number old.seat p) address) begins.point_is
      ∙ no_entries (after_address old.seat address)

  word_due : due_step mid.heap mid.number mid.seat ≡ Some word_step
  word_due =
      ap (λ (s : Seat). due_step mid.heap mid.number s) located
      ∙ ap (λ (n : ℕ). Some (Spine (WordLoad (spot_in address).half ((spot_in address).offset + n / 4)))) begins.index_is

  indexed : new.seat ≡ after_index (after_address old.seat address) word
  indexed =
      stepped_then.seat_is ∙ ap (λ (s : Seat). seat_after_due s (move_at mid.heap mid.number s s.point) word) located ∙ no_entries (after_index (after_address old.seat address) word)

  -- the call's register holds the array with this first fragment
  holds_first : HoldsHead old.seat sentinel
  holds_first =
      let reached : ReachesInBook old.heap old.number old.seat address LoadingSpot = subst (WhileAccess (ReachesInBook old.heap old.number old.seat address)) begins.point_is told.tells.reached in
      let array = reached.there.reaches in
      ap register_head array.on.holds ∙ ap (λ (n : ℕ). Some n) (sym array.on.in_order ∙ begins.sentinel_is)

  -- the word of the fragment is the cell's, since what the register holds is an array
  pub reached_part_is_cells : new.seat.part ≡ index % 4
  reached_part_is_cells =
      let reached : ReachesInBook old.heap old.number old.seat address LoadingSpot = subst (WhileAccess (ReachesInBook old.heap old.number old.seat address)) begins.point_is told.tells.reached in
      let array = reached.there.reaches in
      let field = field_of old.seat.command in
      ap (λ (s : Seat). s.part) indexed ∙ array.field.part_is ∙ ap (λ (b : Bool). cond b (field % 4) (part_of field)) array.an_array ∙ ap (λ (n : ℕ). n % 4) begins.index_is

  -- the seat is at its cell
  pub seat_is_at_cell : IsAtField new.seat.point
  seat_is_at_cell =
      let there = at_payload (after_address old.seat address) word in
      subst (λ (s : Seat). IsAtField s.point) (sym indexed) (field_point_cases (λ a. IsAtField (points.Access a)) there there.command tt (λ on. tt) (λ off. tt) (λ on some. tt) (λ on none some. tt) (λ none. tt))

  -- and the place that it has reached is that of the cell
  pub reached_place_is_cells : EachStepReaches → IsPlaceOfField new sentinel index new.seat.reached new.seat.part
  reached_place_is_cells reaches =
      let holds : HoldsHead new.seat sentinel = subst (λ (s : Seat). HoldsHead s sentinel) (sym indexed) holds_first in
      let same : field_of new.seat.command ≡ index = ap (λ (s : Seat). field_of s.command) indexed ∙ begins.index_is in
      subst (λ (i : ℕ). IsPlaceOfField new sentinel i new.seat.reached new.seat.part) same (reached_place_is_fields new sentinel holds seat_is_at_cell (reaches mid new word (record { stepped = stepped_then; told = told_then })))

  pub located_steps_name_fragment : EachStepIsMade → StepsJoin → (fragment : ℕ) → fragment ≡ new.seat.reached → (made : List Made) × MakesSteps old new made × IsNamedBySpine made sentinel index fragment
  located_steps_name_fragment one joined fragment is = (
    loads_address ∷ loads_word ∷ [],
    joined old mid new (loads_address ∷ []) (loads_word ∷ []) (one old mid (Spine (AddressLoad sentinel)) address address_due (record { stepped = stepped; told = told }))
        (one mid new word_step word word_due (record { stepped = stepped_then; told = told_then })),
    record {
      address = address;
      located = (0, omega arith, refl);
      word = word;
      named = (1, omega arith, refl);
      fragment_is = is ∙ ap (λ (s : Seat). s.reached) indexed;
    },
  )
