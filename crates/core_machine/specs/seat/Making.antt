-- How a seat goes on while it makes an object: gathering, refusing, storing, bearing.
use Rattle.std.specs.Prelude.{ℕ, ◌+◌, ◌-◌, ◌*◌, ◌/◌, ◌%◌, ◌==◌, nat_lt, nat_le, if◌then◌else◌, List, [], ◌∷◌, ◌++◌, length, take, drop, slice_index_or}
use Rattle.std.specs.List.{suffix_len}
use Rattle.heap_words.specs.declared.name.Name.{Name}
use Rattle.heap_words.specs.declared.spot.Spot.{Spot}
use Rattle.heap_words.specs.Spot.{spot_in}
use Rattle.heap_model.specs.declared.command.Command.{Command}
use Rattle.heap_model.specs.declared.command.Command.TheVariants as commands
use Rattle.heap_model.specs.declared.heap.Heap.{Heap}
use Rattle.heap_model.specs.declared.id.Id.{Id}
use Rattle.heap_model.specs.declared.id.Id.TheVariants.{Made}
use Rattle.heap_model.specs.Limits.{group_fragments}
use Rattle.core_machine.specs.declared.point.Making.{Making}
use Rattle.core_machine.specs.declared.point.Making.TheVariants.{Withdrawing, Gathering, GivingBack, Refusing, Placing, Listing, Storing, Bearing}
use Rattle.core_machine.specs.declared.point.Point.TheVariants as points
use Rattle.core_machine.specs.declared.seat.register.Register.TheVariants.{Object}
use Rattle.core_machine.specs.seat.Commands.{target_of, fields_of}
use Rattle.core_machine.specs.table.Fragments.{in_group, inside_group, outside_group, clear_in}
use Rattle.heap_words.specs.Newborn.{record_word_of, array_word_of}
use Rattle.core_machine.specs.seat.Seat.{Seat, need, spine_need, with_held, after_call}

-- the group that is claimed next: from the cursor's on, wrapping at the last
abbrev pub next_group_of : Heap → Seat → ℕ
next_group_of heap seat = (seat.cursor + seat.tried) % heap.groups

-- the group that was claimed last; the cursor's where none was
abbrev pub last_claimed : Heap → Seat → ℕ
last_claimed heap seat = if seat.tried == 0 then seat.cursor else (seat.cursor + seat.tried - 1) % heap.groups

-- the reserve, and then what the call claimed
abbrev pub fragments_gathered : Seat → List ℕ
fragments_gathered seat = seat.reserve ++ seat.hand

-- what comes once an object has its fragments: an array's spine gets its place, a record's words are stored
abbrev pub settled_point : Command → Making
settled_point (commands.Array d cells) = Placing
settled_point _ = Storing

-- enough is gathered: the new object has the first fragments, and the rest is the reserve, of the group claimed last
abbrev pub after_gather : Heap → Seat → Seat
after_gather heap seat = record seat {
  reserve = drop (need seat) (fragments_gathered seat);
  cursor = last_claimed heap seat;
  hand = take (need seat) (fragments_gathered seat);
  body = take (need seat) (fragments_gathered seat);
  tried = 0;
  point = points.Making (settled_point seat.command);
}

-- where a refusal stands while these fragments are to be given back
abbrev pub refusal_point : List ℕ → Making
refusal_point [] = Refusing
refusal_point (fragment ∷ more) = GivingBack

-- too little is gathered: what was claimed is given back
abbrev pub after_shortage : Seat → Seat
after_shortage seat = record seat { point = points.Making (refusal_point seat.hand) }

-- enough is gathered, or the next group is claimed, or, after all groups, the call is refused
abbrev pub gather_next : Heap → Seat → Seat
gather_next heap seat =
    if nat_le (need seat) (length (fragments_gathered seat)) then after_gather heap seat
    else if nat_lt seat.tried heap.groups then record seat { point = points.Making Gathering }
    else after_shortage seat

-- a group was claimed: what was clear in its control word is in the hand
abbrev pub after_claim : Heap → Seat → ℕ → Seat
after_claim heap seat found =
    gather_next heap (record seat { hand = seat.hand ++ clear_in (next_group_of heap seat) found; tried = seat.tried + 1 })

-- the spine words were asked for: beside those granted or asked for they are too many, or the gathering begins
abbrev pub after_budget : Heap → Seat → ℕ → Seat
after_budget heap seat found =
    if nat_lt heap.spine (found + spine_need seat) then record seat { used = found; point = points.Making Withdrawing } else gather_next heap seat

-- the group of the first fragment
abbrev pub first_group_of : List ℕ → ℕ
first_group_of fragments = slice_index_or fragments 0 0 / group_fragments

-- the group of the last fragment
abbrev pub last_group_of : List ℕ → ℕ
last_group_of fragments = slice_index_or fragments (length fragments - 1) 0 / group_fragments

-- how many of the last fragments are of the last one's group
abbrev pub last_run : List ℕ → ℕ
last_run fragments = suffix_len (in_group (last_group_of fragments)) fragments

-- the fragments before those
abbrev pub before_run : List ℕ → List ℕ
before_run fragments = take (length fragments - last_run fragments) fragments

-- the last fragments, as far as they are of one group
abbrev pub run_of : List ℕ → List ℕ
run_of fragments = drop (length fragments - last_run fragments) fragments

-- the fragments of the hand's first group were given back
abbrev pub after_give_back : Seat → Seat
after_give_back seat = record seat {
  hand = outside_group (first_group_of seat.hand) seat.hand;
  given = seat.given + length (inside_group (first_group_of seat.hand) seat.hand);
  point = points.Making (refusal_point (outside_group (first_group_of seat.hand) seat.hand));
}

-- the name of the seat's next object
abbrev pub next_name : ℕ → Seat → Name
next_name number seat = record { owner = number + 1; count = seat.made }

-- the id of the seat's next object
abbrev pub next_object_id : ℕ → Seat → Id
next_object_id number seat = Made number seat.made

-- word `part` of fragment k of a new object of this name, with its spine at this place
abbrev pub newborn_word : Command → Name → Spot → List ℕ → ℕ → ℕ → ℕ
newborn_word (commands.Array d cells) name spine fragments k part = array_word_of name cells spine k part
newborn_word command name spine fragments k part = record_word_of name (fields_of command) fragments k part

-- word `part` of fragment k of the object that is made
abbrev pub newborn_word_of : ℕ → Seat → ℕ → ℕ → ℕ
newborn_word_of number seat k part = newborn_word seat.command (next_name number seat) seat.spine seat.body k part

-- the spine got its place, as the word that was found tells
abbrev pub after_placing : Seat → ℕ → Seat
after_placing seat found = record seat { spine = spot_in found; point = points.Making Listing }

-- what comes once so many words of the spine are stored
abbrev pub list_point : ℕ → ℕ → Making
list_point listed words = if nat_lt listed words then Listing else Storing

-- one more word of the spine was stored
abbrev pub after_listing : Seat → Seat
after_listing seat = record seat { listed = seat.listed + 1; point = points.Making (list_point (seat.listed + 1) (spine_need seat)) }

-- what comes once so many words of the new object are stored
abbrev pub store_point : ℕ → List ℕ → Making
store_point stored body = if stored == 4 * length body then Bearing else Storing

-- one more word was stored
abbrev pub after_store : Seat → Seat
after_store seat = record seat { stored = seat.stored + 1; point = points.Making (store_point (seat.stored + 1) seat.body) }

-- the hand's last fragments were born, those of one group
abbrev pub after_birth : Seat → Seat
after_birth seat = record seat { hand = before_run seat.hand }

-- the last fragments were born: the register holds the new object
abbrev pub after_last_birth : ℕ → Seat → Seat
after_last_birth number seat =
    after_call (record (with_held seat (target_of seat.command) (Object (slice_index_or seat.body 0 0) (next_object_id number seat)) 0) { made = seat.made + 1 })
