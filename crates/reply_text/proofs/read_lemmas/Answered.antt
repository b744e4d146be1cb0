-- Each reply that was spelled is read again, as one that its command can give.
use Rattle.std.proofs.Common.{◌≡◌, ℕ, ◌^◌, inr, List, [], ◌∷◌, true, Some, bytes_eq, codes, decimal, refl, arith}
use Rattle.heap_model.specs.Behind.{behind_of}
use Rattle.heap_model.specs.declared.command.Command.{Command}
use Rattle.heap_model.specs.declared.command.Command.TheVariants.{New, Array, Get, Set, Cas, Num, Nil, Copy, Same, Len, Poll, Collect, Leave}
use Rattle.heap_model.specs.declared.command.TurnCommand.TheVariants as commands
use Rattle.heap_model.specs.declared.id.Id.TheVariants.{Board, Made}
use Rattle.heap_model.specs.declared.id.Value.TheVariants as values
use Rattle.heap_model.specs.declared.reply.Reply.{Reply}
use Rattle.heap_model.specs.declared.reply.Reply.TheVariants as replies
use Rattle.heap_model.specs.declared.reply.TurnReply.{TurnReply}
use Rattle.heap_model.specs.declared.reply.TurnReply.TheVariants as turns
use Rattle.script_text.proofs.Numbers.{number_below-decimal}
use Rattle.reply_text.specs.read.Parts.{lack_at, wait_at}
use Rattle.reply_text.specs.read.Answers.{making_at, arraying_at, getting_at, setting_at, swapping_at, done_at, comparing_at, measuring_at, polling_at, collecting_at, answer_at}
use Rattle.reply_text.specs.read.TurnAnswers.{turning_at, cycling_at}
use Rattle.reply_text.specs.write.Entries.{stamp_word, reply_words, turn_reply_words}
use Rattle.reply_text.specs.read.Tokens.{by_first}
use Rattle.reply_text.specs.Values.{IsWait, IsLack}
use Rattle.reply_text.specs.Replies.{IsMaking, IsArraying, IsGetting, IsSetting, IsSwapping, IsComparing, IsMeasuring, IsPolling, IsCollecting, IsReply, IsTurnReply}
use Rattle.reply_text.proofs.read_lemmas.Reread.{number_at-decimal, decimal-other, id_word-other, id_of-word, stamp_of-word}

-- what is needed, and what was there
lack-again : (shown : List ℕ) (need number : ℕ) → bytes_eq shown shown ≡ true → IsLack need number →
    lack_at shown (codes "need" ∷ decimal need ∷ shown ∷ decimal number ∷ []) ≡ Some ((need, number), [])
lack-again shown need number is h =
    rw (number_at-decimal (2 ^ 32) need (shown ∷ decimal number ∷ []) (omega arith) h.0, is, number_at-decimal (2 ^ 32) number [] (omega arith) h.1) refl

-- a seat that is waited for
wait-again : (seat answered phase : ℕ) → IsWait seat answered phase →
    wait_at (decimal seat ∷ codes "answered" ∷ decimal answered ∷ codes "phase" ∷ decimal phase ∷ []) ≡ Some (behind_of seat answered phase, [])
wait-again seat answered phase h =
    rw (
      number_at-decimal 16 seat (codes "answered" ∷ decimal answered ∷ codes "phase" ∷ decimal phase ∷ []) (omega arith) (omega (arith, h.0)),
      number_at-decimal (2 ^ 64) answered (codes "phase" ∷ decimal phase ∷ []) (omega arith) h.1,
      number_at-decimal (2 ^ 64) phase [] (omega arith) h.2,
    ) refl

-- the word of an id is none that begins with a letter, unless it is the board
making-again : (reply : Reply) → IsMaking reply → by_first making_at (reply_words reply) ≡ Some (reply, [])
making-again (replies.Made Board) h = refl
making-again (replies.Made (Made seat count)) h =
    rw (id_word-other seat count 102 (117 ∷ 108 ∷ 108 ∷ []) h (inr (omega arith)), id_of-word (Made seat count) h) refl
making-again (replies.Full need found) h = rw (lack-again (codes "found") need found refl h) refl
making-again _ h = absurd h

arraying-again : (reply : Reply) → IsArraying reply → by_first arraying_at (reply_words reply) ≡ Some (reply, [])
arraying-again (replies.Made Board) h = refl
arraying-again (replies.Made (Made seat count)) h =
    rw (id_word-other seat count 115 (112 ∷ 105 ∷ 110 ∷ 101 ∷ []) h (inr (omega arith))) (making-again (replies.Made (Made seat count)) h)
arraying-again (replies.Full need found) h = making-again (replies.Full need found) h
arraying-again (replies.SpineFull need used) h = rw (lack-again (codes "used") need used refl h) refl
arraying-again _ h = absurd h

getting-again : (reply : Reply) → IsGetting reply → by_first getting_at (reply_words reply) ≡ Some (reply, [])
getting-again (replies.Got values.Nil stamp) h = rw (stamp_of-word stamp h.1) refl
getting-again (replies.Got (values.Number n) stamp) h =
    rw (number_at-decimal 1073741824 n (codes "at" ∷ stamp_word stamp ∷ []) (omega arith) (omega (arith, h.0)), stamp_of-word stamp h.1) refl
getting-again (replies.Got (values.Object id) stamp) h = rw (id_of-word id h.0, stamp_of-word stamp h.1) refl
getting-again replies.NoObject h = refl
getting-again replies.NoField h = refl
getting-again _ h = absurd h

setting-again : (reply : Reply) → IsSetting reply → by_first setting_at (reply_words reply) ≡ Some (reply, [])
setting-again (replies.Was stamp) h = rw (stamp_of-word stamp h) refl
setting-again replies.NoObject h = refl
setting-again replies.NoField h = refl
setting-again _ h = absurd h

swapping-again : (reply : Reply) → IsSwapping reply → by_first swapping_at (reply_words reply) ≡ Some (reply, [])
swapping-again (replies.Now stamp) h = rw (stamp_of-word stamp h) refl
swapping-again (replies.Was stamp) h = setting-again (replies.Was stamp) h
swapping-again replies.NoObject h = refl
swapping-again replies.NoField h = refl
swapping-again _ h = absurd h

done-again : (reply : Reply) → reply ≡ replies.Done → by_first done_at (reply_words reply) ≡ Some (reply, [])
done-again reply e = rw e refl

comparing-again : (reply : Reply) → IsComparing reply → by_first comparing_at (reply_words reply) ≡ Some (reply, [])
comparing-again replies.Yes h = refl
comparing-again replies.No h = refl
comparing-again _ h = absurd h

measuring-again : (reply : Reply) → IsMeasuring reply → by_first measuring_at (reply_words reply) ≡ Some (reply, [])
measuring-again (replies.Length n) h =
    rw (decimal-other n 110 (111 ∷ []) (omega arith) (inr (omega arith)), number_below-decimal (2 ^ 16) n (omega arith) h) refl
measuring-again replies.NoObject h = refl
measuring-again _ h = absurd h

polling-again : (reply : Reply) → IsPolling reply → by_first polling_at (reply_words reply) ≡ Some (reply, [])
polling-again (replies.Phase p) h = rw (number_below-decimal (2 ^ 64) p (omega arith) h) refl
polling-again _ h = absurd h

collecting-again : (reply : Reply) → IsCollecting reply → by_first collecting_at (reply_words reply) ≡ Some (reply, [])
collecting-again (replies.Cycle j) h = rw (number_at-decimal (2 ^ 64) j [] (omega arith) h) refl
collecting-again (replies.Waits seat answered phase) h = rw (wait-again seat answered phase h) refl
collecting-again _ h = absurd h

-- a reply to a command
pub answer_at-words : (command : Command) (reply : Reply) → IsReply command reply → answer_at command (reply_words reply) ≡ Some (reply, [])
answer_at-words (New d fields) reply h = making-again reply h
answer_at-words (Array d cells) reply h = arraying-again reply h
answer_at-words (Get d r i) reply h = getting-again reply h
answer_at-words (Set r i v) reply h = setting-again reply h
answer_at-words (Cas r i a v) reply h = swapping-again reply h
answer_at-words (Num d n) reply h = done-again reply h
answer_at-words (Nil d) reply h = done-again reply h
answer_at-words (Copy d r) reply h = done-again reply h
answer_at-words (Same a b) reply h = comparing-again reply h
answer_at-words (Len r) reply h = measuring-again reply h
answer_at-words Poll reply h = polling-again reply h
answer_at-words Collect reply h = collecting-again reply h
answer_at-words Leave reply h = done-again reply h

-- a reply of the collector
pub turning_at-words : (n : ℕ) (reply : TurnReply) → IsTurnReply (commands.Turns n) reply → turning_at (turn_reply_words reply) ≡ Some (reply, [])
turning_at-words n turns.Done h = refl
turning_at-words n (turns.Cycle j) h = absurd h
turning_at-words n (turns.Waits seat answered phase) h = rw (wait-again seat answered phase h) refl

pub cycling_at-words : (reply : TurnReply) → IsTurnReply commands.Cycle reply → cycling_at (turn_reply_words reply) ≡ Some (reply, [])
cycling_at-words turns.Done h = absurd h
cycling_at-words (turns.Cycle j) h = rw (number_at-decimal (2 ^ 64) j [] (omega arith) h) refl
cycling_at-words (turns.Waits seat answered phase) h = rw (wait-again seat answered phase h) refl
