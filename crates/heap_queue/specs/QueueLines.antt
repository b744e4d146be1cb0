-- The text that tells what came of a queue's puts and takes, line by line.
use Rattle.std.specs.Prelude.{ℕ, ◌-◌, Bool, true, false, List, [], ◌∷◌, ◌++◌, codes, count_by, decimal, map}
use Rattle.heap_model.specs.declared.heap.Heap.{Heap}
use Rattle.heap_model.specs.declared.id.Value.{Value}
use Rattle.heap_model.specs.declared.id.Value.TheVariants.{Number}
use Rattle.script_text.specs.Text.{sentence}
use Rattle.script_text.specs.Words.{heap_line}
use Rattle.reply_text.specs.write.Entries.{lack_words, stamp_word, value_words}
use Rattle.heap_queue.specs.declared.replies.PutReply.{PutReply}
use Rattle.heap_queue.specs.declared.replies.PutReply.TheVariants as puts
use Rattle.heap_queue.specs.declared.replies.TakeReply.{TakeReply}
use Rattle.heap_queue.specs.declared.replies.TakeReply.TheVariants as takes
use Rattle.heap_queue.specs.declared.told.Told.{Told}
use Rattle.heap_queue.specs.declared.told.Told.TheVariants.{Put, Took, Take}
use Rattle.heap_queue.specs.declared.told.ToldCall.{ToldCall}
use Rattle.heap_queue.specs.QueueText.{queue_preamble}

-- the words of a value in the queue: a number by its digits alone, and others as in a history
abbrev pub queued_words : Value → List (List ℕ)
queued_words (Number n) = decimal n ∷ []
queued_words value = value_words value

-- the words of an Again
abbrev pub again_words : ℕ → List (List ℕ)
again_words stamp = codes "again" ∷ stamp_word stamp ∷ []

-- the words of a Full
abbrev pub full_words : ℕ → ℕ → List (List ℕ)
full_words need found = lack_words (codes "full") need (codes "found") found

-- the words of a reply that there is no queue
abbrev pub no_queue_words : List (List ℕ)
no_queue_words = codes "no" ∷ codes "queue" ∷ []

-- the words of a put's reply
abbrev pub put_reply_words : PutReply → List (List ℕ)
put_reply_words puts.Ok = codes "ok" ∷ []
put_reply_words (puts.Again stamp) = again_words stamp
put_reply_words (puts.Full need found) = full_words need found
put_reply_words puts.NoQueue = no_queue_words

-- the words of a take's reply that has no value
abbrev pub take_reply_words : TakeReply → List (List ℕ)
take_reply_words takes.Took = codes "took" ∷ []
take_reply_words takes.Empty = codes "empty" ∷ []
take_reply_words (takes.Again stamp) = again_words stamp
take_reply_words takes.NoQueue = no_queue_words

-- the words of what a put or take came to
abbrev pub told_words : Told → List (List ℕ)
told_words (Put value reply) = codes "put" ∷ queued_words value ++ codes "=" ∷ put_reply_words reply
told_words (Took value) = codes "take" ∷ codes "=" ∷ queued_words value
told_words (Take reply) = codes "take" ∷ codes "=" ∷ take_reply_words reply

-- the line of a put or take of a seat
abbrev pub call_line : ToldCall → List ℕ
call_line call = sentence (decimal call.seat ∷ told_words call.told)

-- it is a put that came through
abbrev pub has_put : Told → Bool
has_put (Put value puts.Ok) = true
has_put told = false

-- it is a take that got a value
abbrev pub has_taken : Told → Bool
has_taken (Took value) = true
has_taken told = false

-- how many values are left: the puts that came through, less the takes that got one
abbrev pub left_in : List ToldCall → ℕ
left_in calls = count_by (λ call. has_put call.told) calls - count_by (λ call. has_taken call.told) calls

-- the line of how many are left
abbrev pub left_line : ℕ → List ℕ
left_line left = sentence (codes "left" ∷ decimal left ∷ [])

-- the lines of the text
abbrev pub queue_lines : Heap → List ToldCall → List (List ℕ)
queue_lines heap calls = codes "queue 1" ∷ heap_line (queue_preamble heap) ∷ map call_line calls ++ left_line (left_in calls) ∷ codes "end used 0" ∷ []

-- the lines of the text where the heap has no room for the queue
abbrev pub full_lines : Heap → List (List ℕ)
full_lines heap = codes "queue 1" ∷ heap_line (queue_preamble heap) ∷ codes "full need 1 found 0" ∷ []
