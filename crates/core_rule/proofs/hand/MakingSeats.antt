-- What is true of a seat that makes an object.
use Rattle.std.proofs.Common.{◌≡◌, ℕ, ◌+◌, ◌-◌, ◌%◌, ◌<◌, ◌≤◌, false, List, length, refl, ◌∙◌, arith}
use Rattle.core_rule.proofs.Terms.{cycle_phases, Command, Heap, spine_need_of, phase, MakesObject, IsArrayCall, Fits, HasBody, SpineIsListed, State, seat_at, last_group_of}
use Rattle.core_rule.proofs.Terms.{first_group_of, newborn_word, Seat, spine_need, at, spine_place, spine_word, Book, fragment_at, IsSized, SpineOwner, Rule, SpineInHand, HasPlace}
use Rattle.heap_words.specs.declared.name.Name.{Name}
use Rattle.heap_words.specs.declared.spot.Spot.{Spot}
use Rattle.heap_model.specs.declared.command.Command.TheVariants as commands
use Rattle.core_machine.specs.declared.point.Making.{Making}
use Rattle.core_machine.specs.declared.point.Point.TheVariants as points
use Rattle.core_machine.specs.Moves.{bears_black_of}
use Rattle.core_machine.proofs.table_lemmas.Owned.{fragments_group_within_heap}
use Rattle.core_rule.proofs.entries.AtRest.{in_flight_has_not_left}
use Rattle.core_rule.proofs.colours.BirthColours.{bears_no_black_early}
use Rattle.core_rule.proofs.entries.MakingCommands.{makes_array, size_made, need_is_fresh_fragments, made_command_in_range}
use Rattle.core_rule.proofs.objects.Newborn.{fresh_word}
use Rattle.core_rule.proofs.objects.ObjectsGrowth.{fresh_fragments, fresh_body_is_some}

-- a seat that makes an object bears no black fragments at rest and in the first phase
pub making_bears_no_black : (heap : Heap) (state : State) (book : Book) (number : ℕ) (making : Making) → Rule heap state book → number < heap.seats → (seat_at state number).point ≡ points.Making making
    → phase book.history % cycle_phases ≤ 1 → bears_black_of (seat_at state number) ≡ false
making_bears_no_black heap state book number making rule here point early =
    let present = in_flight_has_not_left rule number here (λ idle. absurd (cc (point, idle))) in
    bears_no_black_early (phase book.history) (seat_at state number) ((rule.seats_stand number here).cycle.answers_told.near present) early

-- the groups of its hand's first and last fragments are the heap's
pub first_group_within_heap : (heap : Heap) (seat : Seat) → Fits heap seat → 0 < length seat.hand → first_group_of seat.hand < heap.groups
first_group_within_heap heap seat fits some = fragments_group_within_heap heap seat.hand 0 some fits.hand.hand_within

pub last_group_within_heap : (heap : Heap) (seat : Seat) → Fits heap seat → 0 < length seat.hand → last_group_of seat.hand < heap.groups
last_group_within_heap heap seat fits some = fragments_group_within_heap heap seat.hand (length seat.hand - 1) (omega (arith, some)) fits.hand.hand_within

-- an object that has its fragments has as many as it needs, and no more cells than fit
module _ (seat : Seat) (has : HasBody seat) where
  pub made_object_is_sized : IsSized (makes_array seat.command) (size_made seat.command)
  made_object_is_sized = (made_command_in_range seat.command has.makes.an_object has.makes.in_range).2

  pub made_body_is_whole : length seat.body ≡ fresh_fragments (makes_array seat.command) (size_made seat.command)
  made_body_is_whole = has.whole ∙ need_is_fresh_fragments seat.command has.makes.an_object

  pub made_body_is_some : 1 ≤ length seat.body
  made_body_is_some = fresh_body_is_some (makes_array seat.command) (size_made seat.command) seat.body made_body_is_whole

-- its words are those of a record or an array whose cells were never set
pub newborn_word_is_fresh : (command : Command) → MakesObject command → (name : Name) (spine : Spot) (fragments : List ℕ) (k part : ℕ)
    → newborn_word command name spine fragments k part ≡ fresh_word (makes_array command) name (size_made command) spine fragments k part
newborn_word_is_fresh (commands.New d fields) made name spine fragments k part = refl
newborn_word_is_fresh (commands.Array d cells) made name spine fragments k part = refl
newborn_word_is_fresh _ made name spine fragments k part = absurd made

-- once the words of its spine are stored, they are all that it needs
pub needed_word_is_listed : (command : Command) (spine : Spot) (listed j : ℕ) → MakesObject command → SpineIsListed command spine listed → j < spine_need_of command → (IsArrayCall command) × (j < listed)
needed_word_is_listed (commands.New d fields) spine listed j made all within = absurd (omega (arith, within))
needed_word_is_listed (commands.Array d cells) spine listed j made all within = (tt, omega (arith, all, within))
needed_word_is_listed _ spine listed j made all within = absurd made

-- where the object's words are to be stored or its fragments to be born, each word of its spine names a payload fragment
pub listed_word_names_payload : (heap : Heap) (words : List ℕ) (spine_owner : ℕ → ℕ → SpineOwner) (number : ℕ) (seat : Seat) → SpineInHand heap words spine_owner number seat
    → (IsArrayCall seat.command → HasPlace seat seat.point) → MakesObject seat.command → SpineIsListed seat.command seat.spine seat.listed
    → (j : ℕ) → j < spine_need seat → at heap words (spine_place seat.spine j) ≡ spine_word (fragment_at seat.body (j + 1))
listed_word_names_payload heap words spine_owner number seat hand placed made all j within =
    let there = needed_word_is_listed seat.command seat.spine seat.listed j made all within in
    hand.stored (placed there.0) j there.1
