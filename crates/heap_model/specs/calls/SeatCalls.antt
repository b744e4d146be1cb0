-- When a seat may be called, and which entries each call adds.
use Rattle.std.specs.Prelude.{◌≡◌, ℕ, ◌+◌, ◌*◌, ◌==◌, ◌<◌, ◌≤◌, ◌⊎◌, if◌then◌else◌, false, List, [], ◌∷◌, ◌++◌, length, map, sum, All}
use Rattle.heap_model.specs.Limits.{group_fragments, most_reserve, name_limit, set_limit}
use Rattle.heap_model.specs.declared.command.Command.{Command}
use Rattle.heap_model.specs.declared.command.Command.TheVariants as commands
use Rattle.heap_model.specs.declared.reply.Reply.{Reply}
use Rattle.heap_model.specs.declared.reply.Reply.TheVariants as replies
use Rattle.heap_model.specs.declared.entry.Entry.{Entry}
use Rattle.heap_model.specs.declared.entry.Entry.TheVariants.{Said, Takes, GivesBack, Answers}
use Rattle.heap_model.specs.Command.{IsCommand, IsWithin}
use Rattle.heap_model.specs.Needs.{need_of, record_fragments, array_fragments}
use Rattle.heap_model.specs.account.PhaseCounts.{last_answer}
use Rattle.heap_model.specs.account.Space.{taken_of, spent_of}
use Rattle.heap_model.specs.calls.SeatState.{SeatState, own_graph_seat}

-- a name is left for an object that the command makes, or one of its sets for a cell that it sets
abbrev pub HasNumber : SeatState → Command → Type 0
HasNumber seat (commands.New d fields) = length (own_graph_seat seat).objects + 1 < name_limit
HasNumber seat (commands.Array d cells) = length (own_graph_seat seat).objects + 1 < name_limit
HasNumber seat (commands.Set r i v) = (own_graph_seat seat).sets + 1 < set_limit
HasNumber seat (commands.Cas r i a v) = (own_graph_seat seat).sets + 1 < set_limit
HasNumber seat _ = Unit {0}

-- the seat may be given the command
pub record IsReady (seat : SeatState) (command : Command) : Type 0 where
  pub present : (own_graph_seat seat).left ≡ false
  pub in_range : IsCommand command
  pub room : 2 * need_of command + 4 ≤ seat.spare
  pub numbered : HasNumber seat command

-- the seat takes so many fragments of one group after another
abbrev pub takes_of : ℕ → List ℕ → List Entry
takes_of number counts = map (Takes number) counts

-- the seat gives so many fragments back to one group after another
abbrev pub gives_of : ℕ → List ℕ → List Entry
gives_of number counts = map (GivesBack number) counts

-- some or all fragments of a group
abbrev pub IsGroupCount : ℕ → Type 0
IsGroupCount count = IsWithin 1 group_fragments count

-- with what a seat had these claims are enough for an object, before the last they weren't, and at most a reserve is left over
pub record GathersEnough (unborn need : ℕ) (counts : List ℕ) : Type 0 where
  pub of_groups : All IsGroupCount counts
  pub needed : (earlier : List ℕ) (last : ℕ) → counts ≡ earlier ++ last ∷ [] → unborn + sum earlier < need
  pub enough : need ≤ unborn + sum counts
  pub little_left : unborn + sum counts ≤ need + most_reserve

-- what a seat had of its own and all its claims are what was found, which is too little
pub record GathersTooLittle (unborn need found : ℕ) (counts : List ℕ) : Type 0 where
  pub of_groups : All IsGroupCount counts
  pub all_found : unborn + sum counts ≡ found
  pub too_few : found < need

-- what is lacking is claimed before an object is made; before a refusal each claim is given back as well, in the same order
abbrev pub ClaimsBefore : ℕ → ℕ → ℕ → Reply → List Entry → Type 0
ClaimsBefore number unborn need (replies.Made id) before = (counts : List ℕ) × GathersEnough unborn need counts × (before ≡ takes_of number counts)
ClaimsBefore number unborn need (replies.Full shown found) before =
    (counts : List ℕ) × (shown ≡ need) × GathersTooLittle unborn need found counts × (before ≡ takes_of number counts ++ gives_of number counts)
ClaimsBefore number unborn need _ before = ⊥

-- an array is refused for want of spine words before anything is claimed
abbrev pub ArrayBefore : ℕ → ℕ → ℕ → Reply → List Entry → Type 0
ArrayBefore number unborn need (replies.SpineFull shown used) before = before ≡ []
ArrayBefore number unborn need reply before = ClaimsBefore number unborn need reply before

-- a poll tells the phase that the seat has answered last, or answers the next one and tells that
abbrev pub AnswersBefore : ℕ → ℕ → Reply → List Entry → Type 0
AnswersBefore number last (replies.Phase p) before = ((p ≡ last) × (before ≡ [])) ⊎ ((p ≡ last + 1) × (before ≡ Answers number p ∷ []))
AnswersBefore number last _ before = ⊥

-- what a seat with so many fragments of its own gives back as it leaves
abbrev pub last_gives : ℕ → ℕ → List Entry
last_gives number unborn = if unborn == 0 then [] else GivesBack number unborn ∷ []

-- what a seat with so many fragments of its own tells as it leaves: it gives them back, if it has any, and is done
abbrev pub leave_entries : ℕ → ℕ → List Entry
leave_entries number unborn = last_gives number unborn ++ Said number commands.Leave replies.Done ∷ []

-- the entries right before the reply to a command, by the seat's own fragments and its last answer; a collect is no single call
abbrev pub ComesBefore : ℕ → ℕ → ℕ → Command → Reply → List Entry → Type 0
ComesBefore number unborn last (commands.New d fields) reply before = ClaimsBefore number unborn (record_fragments fields) reply before
ComesBefore number unborn last (commands.Array d cells) reply before = ArrayBefore number unborn (array_fragments cells) reply before
ComesBefore number unborn last commands.Poll reply before = AnswersBefore number last reply before
ComesBefore number unborn last commands.Leave reply before = before ≡ last_gives number unborn
ComesBefore number unborn last commands.Collect reply before = ⊥
ComesBefore number unborn last _ reply before = before ≡ []

-- the seat got its entries for the command, the reply last; it lost no more room than they take, and got none
pub record Adds (old new : SeatState) (command : Command) (reply : Reply) : Type 0 where
  pub heap : new.heap ≡ old.heap
  pub number : new.number ≡ old.number
  pub unborn : ℕ
  pub had : spent_of old.number old.mine + unborn ≡ taken_of old.number old.mine
  pub before : List Entry
  pub comes : ComesBefore old.number unborn (last_answer old.number old.mine) command reply before
  pub entries : new.mine ≡ old.mine ++ (before ++ Said old.number command reply ∷ [])
  pub spare : old.spare + length old.mine ≤ new.spare + length new.mine
  pub no_more : new.spare ≤ old.spare
