-- What the machine keeps of a seat. The seat's number is its position among the seats, and stands nowhere in it.
use Rattle.std.specs.Prelude.{◌≡◌, ℕ, ◌+◌, ◌<◌, Bool, true, List, [], ◌∷◌, ◌++◌, slice_set}
use Rattle.heap_words.specs.declared.spot.Spot.{Spot}
use Rattle.heap_model.specs.declared.entry.Entry.{Entry}
use Rattle.heap_model.specs.declared.entry.Entry.TheVariants.{Said}
use Rattle.heap_model.specs.declared.command.Command.{Command}
use Rattle.heap_model.specs.declared.command.Command.TheVariants as commands
use Rattle.heap_model.specs.declared.reply.Reply.{Reply}
use Rattle.heap_model.specs.Limits.{name_limit, set_limit}
use Rattle.heap_model.specs.Needs.{spine_need_of}
use Rattle.heap_model.specs.account.Space.{need_of}
use Rattle.core_machine.specs.declared.point.Point.{Point}
use Rattle.core_machine.specs.declared.point.Point.TheVariants.{Idle}
use Rattle.core_machine.specs.declared.seat.register.Register.{Register}
use Rattle.core_machine.specs.seat.Looks.{Looks, no_looks, forgotten, seen_phase}

-- the place of a spine while the seat knows of none
abbrev pub no_spot : Spot
no_spot = record { half = 0; offset = 0 }

-- a seat's own data
pub record Seat : Type 0 where
  -- the sixteen registers
  pub registers : List Register
  -- under which stamp each was read from a field; 0 where it wasn't read from one
  pub seen : List ℕ
  -- own fragments that no call uses, all of the cursor's group
  pub reserve : List ℕ
  -- the group at which the next gather begins
  pub cursor : ℕ
  -- the fragments of the call in flight that aren't born
  pub hand : List ℕ
  -- the fragments of the object that is being made, born ones among them
  pub body : List ℕ
  -- how many words of these have been stored
  pub stored : ℕ
  -- how many groups the call in flight has claimed
  pub tried : ℕ
  -- how many fragments it has given back
  pub given : ℕ
  -- how many spine words were found to be granted or asked for, where the call's own were too many beside them
  pub used : ℕ
  -- where the spine stands of the array that is being made, once it has its place
  pub spine : Spot
  -- how many of its words have been stored
  pub listed : ℕ
  -- the call in flight, or the last one
  pub command : Command
  -- where the seat stands in it
  pub point : Point
  -- the phase that it answered last
  pub answered : ℕ
  -- how many objects it made
  pub made : ℕ
  -- the fragment that its call has reached on the way to a field
  pub reached : ℕ
  -- how many links lead on from there to the field; 0 until the object's meta is loaded
  pub links : ℕ
  -- the word of its fragment in which the field stands; 0 until the object's meta is loaded
  pub part : ℕ
  -- where the spine stands of the array that its call is in, once that was loaded
  pub address : Spot
  -- the field that the call has loaded: for a get while it awaits a name, and for a set with the barrier on
  pub loaded : ℕ
  -- the phase that it is about to answer
  pub asked : ℕ
  -- how many objects of its registers it has shaded for that
  pub shaded : ℕ
  -- how many sets it did, its compare and swaps that swapped among them
  pub sets : ℕ
  -- what it found out by the inner calls of its collects
  pub looks : Looks
  -- whether it has left
  pub left : Bool
  -- its entries, in their order
  pub mine : List Entry

-- what stands for a seat that isn't there: one that has left, without anything
abbrev pub absent_seat : Seat
absent_seat = record {
  registers = [];
  seen = [];
  reserve = [];
  cursor = 0;
  hand = [];
  body = [];
  stored = 0;
  tried = 0;
  given = 0;
  used = 0;
  spine = no_spot;
  listed = 0;
  command = commands.Poll;
  point = Idle;
  answered = 0;
  made = 0;
  reached = 0;
  links = 0;
  part = 0;
  address = no_spot;
  loaded = 0;
  asked = 0;
  shaded = 0;
  sets = 0;
  looks = no_looks;
  left = true;
  mine = [];
}

-- the fragments that its call needs
abbrev pub need : Seat → ℕ
need seat = need_of seat.command

-- the spine words that its call needs
abbrev pub spine_need : Seat → ℕ
spine_need seat = spine_need_of seat.command

-- where so many objects were made and sets done, a name is left for the object that the command makes, or a set for the field that it sets
abbrev pub HasNumberLeft : ℕ → ℕ → Command → Type 0
HasNumberLeft made sets (commands.New d fields) = made + 1 < name_limit
HasNumberLeft made sets (commands.Array d cells) = made + 1 < name_limit
HasNumberLeft made sets (commands.Get d r i) = Unit {0}
HasNumberLeft made sets (commands.Set r i v) = sets + 1 < set_limit
HasNumberLeft made sets (commands.Cas r i a v) = sets + 1 < set_limit
HasNumberLeft made sets (commands.Num d n) = Unit {0}
HasNumberLeft made sets (commands.Nil d) = Unit {0}
HasNumberLeft made sets (commands.Copy d r) = Unit {0}
HasNumberLeft made sets (commands.Same a b) = Unit {0}
HasNumberLeft made sets (commands.Len r) = Unit {0}
HasNumberLeft made sets commands.Poll = Unit {0}
HasNumberLeft made sets commands.Collect = Unit {0}
HasNumberLeft made sets commands.Leave = Unit {0}

-- register d holds this, seen under this stamp
abbrev pub with_held : Seat → ℕ → Register → ℕ → Seat
with_held seat d register stamp = record seat { registers = slice_set seat.registers d register; seen = slice_set seat.seen d stamp }

-- the seat has loaded this phase
abbrev pub with_seen : ℕ → Seat → Seat
with_seen found seat = record seat { looks = seen_phase found seat.looks }

-- the call is over, and nothing of it is left: but for what the seat keeps between calls it is as one that isn't there
abbrev pub call_over : Seat → Seat
call_over seat = record absent_seat {
  registers = seat.registers;
  seen = seat.seen;
  reserve = seat.reserve;
  cursor = seat.cursor;
  command = seat.command;
  answered = seat.answered;
  made = seat.made;
  sets = seat.sets;
  looks = seat.looks;
  left = seat.left;
  mine = seat.mine;
}

-- the seat has nothing of a call: the end of one would change nothing
abbrev pub HasNoCall : Seat → Type 0
HasNoCall seat = call_over seat ≡ seat

-- the call is over with its reply, and the seat forgets what it has found since the one before
abbrev pub after_call : Seat → Seat
after_call seat = record (call_over seat) { looks = forgotten seat.looks }

-- the seat with more entries
abbrev pub with_entries : Seat → List Entry → Seat
with_entries seat entries = record seat { mine = seat.mine ++ entries }

-- the seat's call is over, with this reply
abbrev pub seat_after_reply : ℕ → Seat → Reply → Seat
seat_after_reply number seat reply = with_entries (after_call seat) (Said number seat.command reply ∷ [])
