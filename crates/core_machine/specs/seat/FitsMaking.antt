-- What is true of a seat's own data while it makes an object, and while it has nothing in its hand.
use Rattle.std.specs.Prelude.{◌≡◌, ℕ, ◌+◌, ◌*◌, ◌<◌, ◌≤◌, List, [], length, All}
use Rattle.heap_words.specs.declared.spot.Spot.{Spot}
use Rattle.heap_model.specs.declared.heap.Heap.{Heap}
use Rattle.heap_model.specs.declared.command.Command.{Command}
use Rattle.heap_model.specs.declared.command.Command.TheVariants.{Array}
use Rattle.heap_model.specs.Command.{IsCommand}
use Rattle.heap_model.specs.Limits.{group_fragments, name_limit}
use Rattle.heap_model.specs.Needs.{array_words, spine_need_of}
use Rattle.heap_model.specs.account.Space.{need_of}
use Rattle.core_machine.specs.declared.point.Making.{Making}
use Rattle.core_machine.specs.declared.point.Making.TheVariants.{Granting, Withdrawing, Gathering, GivingBack, Refusing, Placing, Listing, Storing, Bearing}
use Rattle.core_machine.specs.seat.Commands.{MakesObject, IsArrayCall}
use Rattle.core_machine.specs.seat.Seat.{Seat, spine_need, no_spot}

-- each is a fragment of the heap
abbrev pub AreFragments : Heap → List ℕ → Type 0
AreFragments heap fragments = All (λ fragment. fragment < group_fragments * heap.groups) fragments

-- a spine has no place yet, none of its words is stored, and no spine words were found to be too many
pub record HasNoSpine (used : ℕ) (spine : Spot) (listed : ℕ) : Type 0 where
  pub none_used : used ≡ 0
  pub no_place : spine ≡ no_spot
  pub none_listed : listed ≡ 0

-- nothing is in the hand, and nothing was claimed or stored
pub record HasNoHand (hand body : List ℕ) (stored tried given used : ℕ) (spine : Spot) (listed : ℕ) : Type 0 where
  pub empty_hand : hand ≡ []
  pub no_body : body ≡ []
  pub none_stored : stored ≡ 0
  pub none_tried : tried ≡ 0
  pub none_given : given ≡ 0
  pub no_spine : HasNoSpine used spine listed

-- the seat has nothing in its hand
abbrev pub IsAtRest : Seat → Type 0
IsAtRest seat = HasNoHand seat.hand seat.body seat.stored seat.tried seat.given seat.used seat.spine seat.listed

-- the command makes an object, and a name is left for it where so many objects were made
pub record MakesNext (command : Command) (made : ℕ) : Type 0 where
  pub an_object : MakesObject command
  pub in_range : IsCommand command
  pub numbered : made + 1 < name_limit

-- the seat's call makes an array, for which nothing was claimed yet
abbrev pub SeatIsGranting : Seat → Type 0
SeatIsGranting seat = IsAtRest seat × MakesNext seat.command seat.made × IsArrayCall seat.command

-- an array's spine words were found to be too many beside those granted or asked for, and nothing was claimed
pub record IsWithdrawing (heap : Heap) (command : Command) (made : ℕ) (hand body : List ℕ) (stored tried given used : ℕ) (spine : Spot) (listed : ℕ) : Type 0 where
  pub makes : MakesNext command made
  pub an_array : IsArrayCall command
  pub rests : HasNoHand hand body stored tried given 0 spine listed
  pub too_many : heap.spine < used + spine_need_of command

-- the seat takes its spine words back
abbrev pub SeatIsWithdrawing : Heap → Seat → Type 0
SeatIsWithdrawing heap seat =
    IsWithdrawing heap seat.command seat.made seat.hand seat.body seat.stored seat.tried seat.given seat.used seat.spine seat.listed

-- too little is gathered, some group wasn't claimed, and nothing is stored or given back yet
pub record IsGathering (heap : Heap) (command : Command) (made : ℕ) (reserve hand body : List ℕ) (stored tried given used : ℕ) (spine : Spot) (listed : ℕ) : Type 0 where
  pub makes : MakesNext command made
  pub no_spine : HasNoSpine used spine listed
  pub no_body : body ≡ []
  pub none_stored : stored ≡ 0
  pub none_given : given ≡ 0
  pub groups_left : tried < heap.groups
  pub too_few : length reserve + length hand < need_of command

-- the seat is still gathering
abbrev pub SeatIsGathering : Heap → Seat → Type 0
SeatIsGathering heap seat = IsGathering heap seat.command seat.made seat.reserve seat.hand seat.body seat.stored seat.tried seat.given seat.used seat.spine seat.listed

-- every group was claimed, and what was gathered is too little, with what was given back since
pub record IsRefusing (heap : Heap) (command : Command) (made : ℕ) (reserve hand body : List ℕ) (stored tried given used : ℕ) (spine : Spot) (listed : ℕ) : Type 0 where
  pub makes : MakesNext command made
  pub no_spine : HasNoSpine used spine listed
  pub no_body : body ≡ []
  pub none_stored : stored ≡ 0
  pub all_tried : tried ≡ heap.groups
  pub too_few : length reserve + length hand + given < need_of command

-- the seat gives back what it claimed, or tells its refusal
abbrev pub SeatIsRefusing : Heap → Seat → Type 0
SeatIsRefusing heap seat = IsRefusing heap seat.command seat.made seat.reserve seat.hand seat.body seat.stored seat.tried seat.given seat.used seat.spine seat.listed

-- the object has its fragments
pub record HasFragments (command : Command) (made : ℕ) (body : List ℕ) (tried given used : ℕ) : Type 0 where
  pub makes : MakesNext command made
  pub whole : length body ≡ need_of command
  pub none_tried : tried ≡ 0
  pub none_given : given ≡ 0
  pub none_used : used ≡ 0

-- the seat's new object has its fragments
abbrev pub HasBody : Seat → Type 0
HasBody seat = HasFragments seat.command seat.made seat.body seat.tried seat.given seat.used

-- all words of an array's spine are stored; a record has none
abbrev pub SpineIsListed : Command → Spot → ℕ → Type 0
SpineIsListed (Array d cells) spine listed = listed ≡ array_words cells
SpineIsListed _ spine listed = (spine ≡ no_spot) × (listed ≡ 0)

-- nothing is stored of the object yet
pub record IsUnstored (hand body : List ℕ) (stored : ℕ) : Type 0 where
  pub all_unborn : hand ≡ body
  pub none_stored : stored ≡ 0

-- the object is an array, which has its fragments
abbrev pub HasArrayBody : Seat → Type 0
HasArrayBody seat = HasBody seat × IsArrayCall seat.command × IsUnstored seat.hand seat.body seat.stored

-- what is true of the seat's data at each point of making
abbrev pub FitsMaking : Heap → Seat → Making → Type 0
FitsMaking heap seat Granting = SeatIsGranting seat
FitsMaking heap seat Withdrawing = SeatIsWithdrawing heap seat
FitsMaking heap seat Gathering = SeatIsGathering heap seat
FitsMaking heap seat GivingBack = SeatIsRefusing heap seat × (0 < length seat.hand)
FitsMaking heap seat Refusing = SeatIsRefusing heap seat × (seat.hand ≡ [])
FitsMaking heap seat Placing = HasArrayBody seat × HasNoSpine seat.used seat.spine seat.listed
FitsMaking heap seat Listing = HasArrayBody seat × (seat.listed < spine_need seat)
FitsMaking heap seat Storing =
    HasBody seat × (seat.hand ≡ seat.body) × (seat.stored < 4 * length seat.body) × SpineIsListed seat.command seat.spine seat.listed
FitsMaking heap seat Bearing =
    HasBody seat × (0 < length seat.hand) × (length seat.hand ≤ length seat.body) × (seat.stored ≡ 4 * length seat.body)
    × SpineIsListed seat.command seat.spine seat.listed
