-- What a refusal for want of space shows. Sums are compared with sums, so that nothing is cut off at 0.
use Rattle.std.specs.Prelude.{◌≡◌, ℕ, ◌+◌, ◌-◌, ◌*◌, ◌<◌, ◌≤◌, Bool, true, false, List}
use Rattle.heap_model.specs.Limits.{group_fragments, most_cells}
use Rattle.heap_model.specs.declared.heap.Heap.{Heap}
use Rattle.heap_model.specs.declared.command.Command.{Command}
use Rattle.heap_model.specs.declared.reply.Reply.{Reply}
use Rattle.heap_model.specs.declared.reply.Reply.TheVariants as replies
use Rattle.heap_model.specs.declared.entry.Entry.{Entry}
use Rattle.heap_model.specs.declared.entry.Entry.TheVariants as entries
use Rattle.heap_model.specs.account.Space.{total, total_but, fragments_gained, fragments_lost, words_granted, words_returned, taken_of, spent_of}
use Rattle.heap_model.specs.Needs.{array_words, need_of, spine_need_of}
use Rattle.heap_model.specs.account.Windows.{since_reply}

-- what was given up beside the seat: what was freed, and what others gave back
abbrev pub given_up : ℕ → List Entry → ℕ
given_up number history = total (λ e. e.freed) history + total_but number (λ e. e.given) history

-- in a play just what is free and the seat's own is found; in a run up to what was given up or others took since its last reply
abbrev pub FindsSpace : Heap → Bool → List Entry → ℕ → ℕ → Type 0
FindsSpace heap true before number found = found + fragments_gained heap before + spent_of number before ≡ group_fragments * heap.groups + fragments_lost before + taken_of number before
FindsSpace heap false before number found =
    (group_fragments * heap.groups + fragments_lost before + taken_of number before ≤ found + fragments_gained heap before + spent_of number before + given_up number (since_reply number before))
    × (found + fragments_gained heap before + spent_of number before ≤ group_fragments * heap.groups + fragments_lost before + taken_of number before + total_but number (λ e. e.taken) (since_reply number before))

-- a refusal shows what the command needs, and what was found, which is less
abbrev pub ShowsSpace : Heap → Bool → List Entry → ℕ → Command → Reply → Type 0
ShowsSpace heap play before number command (replies.Full need found) = (need ≡ need_of command) × (found < need) × FindsSpace heap play before number found
ShowsSpace heap play before number command _ = Unit {0}

-- an entry that refuses fragments shows what is needed and what was found, which is less
abbrev pub RefusesRightly : Heap → Bool → List Entry → Entry → Type 0
RefusesRightly heap play before (entries.Said number command reply) = ShowsSpace heap play before number command reply
RefusesRightly heap play before _ = Unit {0}

-- in a play the spine words in use are found; in a run up to what was returned or others made since its last reply, or ask for
abbrev pub FindsSpine : Heap → Bool → List Entry → ℕ → ℕ → Type 0
FindsSpine heap true before number shown = shown + words_returned before ≡ words_granted before
FindsSpine heap false before number shown =
    (words_granted before ≤ shown + words_returned before + total_but number (λ e. e.words) (since_reply number before))
    × (shown + words_returned before ≤ words_granted before + words_returned (since_reply number before) + array_words most_cells * (heap.seats - 1))

-- an array is refused where its spine words are too many beside those that were found
abbrev pub ShowsSpine : Heap → Bool → List Entry → ℕ → Command → Reply → Type 0
ShowsSpine heap play before number command (replies.SpineFull need shown) =
    (need ≡ spine_need_of command) × (heap.spine < shown + need) × FindsSpine heap play before number shown
ShowsSpine heap play before number command _ = Unit {0}

-- an entry that refuses spine words shows what is needed and what was found, together too many
abbrev pub RefusesSpine : Heap → Bool → List Entry → Entry → Type 0
RefusesSpine heap play before (entries.Said number command reply) = ShowsSpine heap play before number command reply
RefusesSpine heap play before _ = Unit {0}
