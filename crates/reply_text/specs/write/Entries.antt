-- The words that spell an entry.
use Rattle.std.specs.Prelude.{ℕ, ◌==◌, if◌then◌else◌, List, [], ◌∷◌, ◌++◌, codes, decimal}
use Rattle.heap_model.specs.graph.Changes.{stamp_seat, stamp_count}
use Rattle.heap_model.specs.declared.id.Id.{Id}
use Rattle.heap_model.specs.declared.id.Id.TheVariants.{Board, Made}
use Rattle.heap_model.specs.declared.id.Value.{Value}
use Rattle.heap_model.specs.declared.id.Value.TheVariants as values
use Rattle.heap_model.specs.declared.reply.Reply.{Reply}
use Rattle.heap_model.specs.declared.reply.Reply.TheVariants as replies
use Rattle.heap_model.specs.declared.reply.TurnReply.{TurnReply}
use Rattle.heap_model.specs.declared.reply.TurnReply.TheVariants as turns
use Rattle.heap_model.specs.declared.entry.Entry.{Entry}
use Rattle.heap_model.specs.declared.entry.Entry.TheVariants as entries
use Rattle.script_text.specs.Text.{sentence}
use Rattle.script_text.specs.Words.{command_words, turn_words}

-- the word of an id: the board's, or the seat that made the object and its count
abbrev pub id_word : Id → List ℕ
id_word Board = codes "board"
id_word (Made seat count) = decimal seat ++ codes "." ++ decimal count

-- the word of a stamp: none, or the seat that set the cell and the count of that set
abbrev pub stamp_word : ℕ → List ℕ
stamp_word stamp = if stamp == 0 then codes "-" else decimal (stamp_seat stamp) ++ codes ":" ++ decimal (stamp_count stamp)

-- the words of a value
abbrev pub value_words : Value → List (List ℕ)
value_words values.Nil = codes "nil" ∷ []
value_words (values.Number n) = codes "number" ∷ decimal n ∷ []
value_words (values.Object id) = codes "object" ∷ id_word id ∷ []

-- the words of a wait: the seat that is waited for, what it answered, and the phase
abbrev pub waits_words : ℕ → ℕ → ℕ → List (List ℕ)
waits_words seat answered phase = codes "waits" ∷ decimal seat ∷ codes "answered" ∷ decimal answered ∷ codes "phase" ∷ decimal phase ∷ []

-- the words of a refusal of space: what is needed, and what was there instead
abbrev pub lack_words : List ℕ → ℕ → List ℕ → ℕ → List (List ℕ)
lack_words kind need shown number = kind ∷ codes "need" ∷ decimal need ∷ shown ∷ decimal number ∷ []

-- the words of a reply
abbrev pub reply_words : Reply → List (List ℕ)
reply_words (replies.Made id) = id_word id ∷ []
reply_words (replies.Got value stamp) = value_words value ++ codes "at" ∷ stamp_word stamp ∷ []
reply_words (replies.Was stamp) = codes "was" ∷ stamp_word stamp ∷ []
reply_words (replies.Now stamp) = codes "now" ∷ stamp_word stamp ∷ []
reply_words replies.Done = codes "ok" ∷ []
reply_words replies.Yes = codes "yes" ∷ []
reply_words replies.No = codes "no" ∷ []
reply_words (replies.Length n) = decimal n ∷ []
reply_words (replies.Phase p) = decimal p ∷ []
reply_words (replies.Cycle j) = codes "cycle" ∷ decimal j ∷ []
reply_words (replies.Waits seat answered phase) = waits_words seat answered phase
reply_words replies.NoObject = codes "no" ∷ codes "object" ∷ []
reply_words replies.NoField = codes "no" ∷ codes "field" ∷ []
reply_words (replies.Full need found) = lack_words (codes "full") need (codes "found") found
reply_words (replies.SpineFull need used) = lack_words (codes "spine") need (codes "used") used

-- the words of a reply to a command of the collector
abbrev pub turn_reply_words : TurnReply → List (List ℕ)
turn_reply_words turns.Done = codes "done" ∷ []
turn_reply_words (turns.Cycle j) = codes "cycle" ∷ decimal j ∷ []
turn_reply_words (turns.Waits seat answered phase) = waits_words seat answered phase

-- the words of an entry
abbrev pub entry_words : Entry → List (List ℕ)
entry_words (entries.Said seat command reply) = decimal seat ∷ command_words command ++ codes "=" ∷ reply_words reply
entry_words (entries.Takes seat count) = decimal seat ∷ codes "takes" ∷ decimal count ∷ []
entry_words (entries.GivesBack seat count) = decimal seat ∷ codes "gives" ∷ codes "back" ∷ decimal count ∷ []
entry_words (entries.Answers seat phase) = decimal seat ∷ codes "answers" ∷ decimal phase ∷ []
entry_words (entries.Advance phase) = codes "c" ∷ codes "phase" ∷ decimal phase ∷ []
entry_words (entries.Frees count) = codes "c" ∷ codes "frees" ∷ decimal count ∷ []
entry_words (entries.Returns count) = codes "c" ∷ codes "returns" ∷ decimal count ∷ []
entry_words (entries.Swings id) = codes "c" ∷ codes "swings" ∷ id_word id ∷ []
entry_words (entries.Ends cycle kept) = codes "c" ∷ codes "ends" ∷ decimal cycle ∷ codes "kept" ∷ decimal kept ∷ []
entry_words (entries.Turned command reply) = codes "c" ∷ turn_words command ++ codes "=" ∷ turn_reply_words reply

-- the line of an entry, without a line feed
abbrev pub entry_text : Entry → List ℕ
entry_text entry = sentence (entry_words entry)
