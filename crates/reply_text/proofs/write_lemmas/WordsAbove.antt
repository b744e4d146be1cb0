-- The words of lines have no space and no line feed.
use Rattle.std.proofs.Common.{◌≡◌, ◌==◌, ℕ, ◌-◌, ◌/◌, ◌%◌, ◌<◌, ◌^◌, inl, inr, List, [], ◌∷◌, ◌++◌, Bool, true, false, cond, codes, decimal, refl, arith}
use Rattle.std.specs.List.{AllByRecursion}
use Rattle.heap_model.specs.declared.command.Command.{Command}
use Rattle.heap_model.specs.declared.command.Command.TheVariants.{New, Array, Get, Set, Cas, Num, Nil, Copy, Same, Len, Poll, Collect, Leave}
use Rattle.heap_model.specs.declared.command.TurnCommand.{TurnCommand}
use Rattle.heap_model.specs.declared.command.TurnCommand.TheVariants as commands
use Rattle.heap_model.specs.declared.entry.Entry.{Entry}
use Rattle.heap_model.specs.declared.entry.Entry.TheVariants as entries
use Rattle.heap_model.specs.declared.id.Id.{Id}
use Rattle.heap_model.specs.declared.id.Id.TheVariants.{Board, Made}
use Rattle.heap_model.specs.declared.id.Value.TheVariants as values
use Rattle.heap_model.specs.declared.reply.Reply.{Reply}
use Rattle.heap_model.specs.declared.reply.Reply.TheVariants as replies
use Rattle.heap_model.specs.declared.reply.TurnReply.{TurnReply}
use Rattle.heap_model.specs.declared.reply.TurnReply.TheVariants as turns
use Rattle.script_text.specs.declared.preamble.Preamble.{Preamble}
use Rattle.script_text.specs.declared.script.Form.{Form}
use Rattle.script_text.specs.declared.script.Form.TheVariants.{Play, Run}
use Rattle.script_text.specs.Words.{command_words, turn_words}
use Rattle.script_text.proofs.Tokens.{IsAbove, IsAbove-append, IsAbove-decimal, IsAbove-from_test}
use Rattle.script_text.proofs.WordBytes.{command_words-above, turn_words-above}
use Rattle.reply_text.specs.declared.history_line.HistoryLine.{HistoryLine}
use Rattle.reply_text.specs.declared.history_line.HistoryLine.TheVariants as lines
use Rattle.reply_text.specs.write.Entries.{id_word, stamp_word, waits_words, lack_words, reply_words, turn_reply_words, entry_words}
use Rattle.reply_text.specs.write.Lines.{history_words, IsHistoryLine}
use Rattle.reply_text.specs.Values.{IsId, IsStamp, IsWait, IsLack}
use Rattle.reply_text.specs.Replies.{IsMaking, IsArraying, IsGetting, IsSetting, IsSwapping, IsComparing, IsMeasuring, IsPolling, IsCollecting, IsReply, IsTurnReply}
use Rattle.reply_text.specs.Written.{IsWritten}

-- the words have bytes above the space alone
abbrev pub AreWords : List (List ℕ) → Type 0
AreWords words = AllByRecursion (IsAbove 32) words

AreWords-append : (xs ys : List (List ℕ)) → AreWords xs → AreWords ys → AreWords (xs ++ ys)
AreWords-append [] ys f g = g
AreWords-append (x ∷ xs) ys f g = (f.0, AreWords-append xs ys f.1 g)

id-above : (id : Id) → IsId id → IsAbove 32 (id_word id)
id-above Board h = IsAbove-from_test 32 (codes "board") refl
id-above (Made seat count) h =
    IsAbove-append 32 (decimal seat ++ codes ".") (decimal count)
    (IsAbove-append 32 (decimal seat) (codes ".") (IsAbove-decimal seat (omega (arith, h.0))) (IsAbove-from_test 32 (codes ".") refl))
    (IsAbove-decimal count (omega (arith, h.1)))

set-above : (seat count : ℕ) → seat < 2 ^ 64 → count < 2 ^ 64 → IsAbove 32 (decimal seat ++ codes ":" ++ decimal count)
set-above seat count first second =
    IsAbove-append 32 (decimal seat ++ codes ":") (decimal count)
    (IsAbove-append 32 (decimal seat) (codes ":") (IsAbove-decimal seat first) (IsAbove-from_test 32 (codes ":") refl))
    (IsAbove-decimal count second)

stamp-above : (stamp : ℕ) → IsStamp stamp → IsAbove 32 (stamp_word stamp)
stamp-above stamp (inl none) = rw none (IsAbove-from_test 32 (codes "-") refl)
stamp-above stamp (inr set) =
    let made = set-above (stamp / 2 ^ 26 - 1) (stamp % 2 ^ 26) (omega arith) (omega arith) in
    let P : Bool → Type 0 = λ b. IsAbove 32 (cond b (codes "-") (decimal (stamp / 2 ^ 26 - 1) ++ codes ":" ++ decimal (stamp % 2 ^ 26))) in
    let parts : (b : Bool) → P b = λ b. elim b as P [ true ↦ IsAbove-from_test 32 (codes "-") refl | false ↦ made ] in
    parts (stamp == 0)

waits-above : (seat answered phase : ℕ) → IsWait seat answered phase → AreWords (waits_words seat answered phase)
waits-above seat answered phase h = (
  IsAbove-from_test 32 (codes "waits") refl,
  (
    IsAbove-decimal seat (omega (arith, h.0)),
    (
      IsAbove-from_test 32 (codes "answered") refl,
      (IsAbove-decimal answered h.1, (IsAbove-from_test 32 (codes "phase") refl, (IsAbove-decimal phase h.2, tt))),
    ),
  ),
)

lack-above : (kind shown : List ℕ) (need number : ℕ) → IsAbove 32 kind → IsAbove 32 shown → IsLack need number → AreWords (lack_words kind need shown number)
lack-above kind shown need number f g h =
    (f, (IsAbove-from_test 32 (codes "need") refl, (IsAbove-decimal need (omega (arith, h.0)), (g, (IsAbove-decimal number (omega (arith, h.1)), tt)))))

making-above : (reply : Reply) → IsMaking reply → AreWords (reply_words reply)
making-above (replies.Made id) h = (id-above id h, tt)
making-above (replies.Full need found) h = lack-above (codes "full") (codes "found") need found (IsAbove-from_test 32 (codes "full") refl) (IsAbove-from_test 32 (codes "found") refl) h
making-above _ h = absurd h

arraying-above : (reply : Reply) → IsArraying reply → AreWords (reply_words reply)
arraying-above (replies.SpineFull need used) h = lack-above (codes "spine") (codes "used") need used (IsAbove-from_test 32 (codes "spine") refl) (IsAbove-from_test 32 (codes "used") refl) h
arraying-above (replies.Made id) h = (id-above id h, tt)
arraying-above (replies.Full need found) h = making-above (replies.Full need found) h
arraying-above _ h = absurd h

no-above : (text : List ℕ) → IsAbove 32 text → AreWords (codes "no" ∷ text ∷ [])
no-above text f = (IsAbove-from_test 32 (codes "no") refl, (f, tt))

getting-above : (reply : Reply) → IsGetting reply → AreWords (reply_words reply)
getting-above (replies.Got values.Nil stamp) h =
    (IsAbove-from_test 32 (codes "nil") refl, (IsAbove-from_test 32 (codes "at") refl, (stamp-above stamp h.1, tt)))
getting-above (replies.Got (values.Number n) stamp) h =
    (IsAbove-from_test 32 (codes "number") refl, (IsAbove-decimal n (omega (arith, h.0)), (IsAbove-from_test 32 (codes "at") refl, (stamp-above stamp h.1, tt))))
getting-above (replies.Got (values.Object id) stamp) h =
    (IsAbove-from_test 32 (codes "object") refl, (id-above id h.0, (IsAbove-from_test 32 (codes "at") refl, (stamp-above stamp h.1, tt))))
getting-above replies.NoObject h = no-above (codes "object") (IsAbove-from_test 32 (codes "object") refl)
getting-above replies.NoField h = no-above (codes "field") (IsAbove-from_test 32 (codes "field") refl)
getting-above _ h = absurd h

setting-above : (reply : Reply) → IsSetting reply → AreWords (reply_words reply)
setting-above (replies.Was stamp) h = (IsAbove-from_test 32 (codes "was") refl, (stamp-above stamp h, tt))
setting-above replies.NoObject h = no-above (codes "object") (IsAbove-from_test 32 (codes "object") refl)
setting-above replies.NoField h = no-above (codes "field") (IsAbove-from_test 32 (codes "field") refl)
setting-above _ h = absurd h

swapping-above : (reply : Reply) → IsSwapping reply → AreWords (reply_words reply)
swapping-above (replies.Now stamp) h = (IsAbove-from_test 32 (codes "now") refl, (stamp-above stamp h, tt))
swapping-above (replies.Was stamp) h = setting-above (replies.Was stamp) h
swapping-above replies.NoObject h = no-above (codes "object") (IsAbove-from_test 32 (codes "object") refl)
swapping-above replies.NoField h = no-above (codes "field") (IsAbove-from_test 32 (codes "field") refl)
swapping-above _ h = absurd h

done-above : (reply : Reply) → reply ≡ replies.Done → AreWords (reply_words reply)
done-above reply e = rw e (IsAbove-from_test 32 (codes "ok") refl, tt)

comparing-above : (reply : Reply) → IsComparing reply → AreWords (reply_words reply)
comparing-above replies.Yes h = (IsAbove-from_test 32 (codes "yes") refl, tt)
comparing-above replies.No h = (IsAbove-from_test 32 (codes "no") refl, tt)
comparing-above _ h = absurd h

measuring-above : (reply : Reply) → IsMeasuring reply → AreWords (reply_words reply)
measuring-above (replies.Length n) h = (IsAbove-decimal n (omega arith), tt)
measuring-above replies.NoObject h = no-above (codes "object") (IsAbove-from_test 32 (codes "object") refl)
measuring-above _ h = absurd h

polling-above : (reply : Reply) → IsPolling reply → AreWords (reply_words reply)
polling-above (replies.Phase p) h = (IsAbove-decimal p h, tt)
polling-above _ h = absurd h

collecting-above : (reply : Reply) → IsCollecting reply → AreWords (reply_words reply)
collecting-above (replies.Cycle j) h = (IsAbove-from_test 32 (codes "cycle") refl, (IsAbove-decimal j h, tt))
collecting-above (replies.Waits seat answered phase) h = waits-above seat answered phase h
collecting-above _ h = absurd h

reply-above : (command : Command) (reply : Reply) → IsReply command reply → AreWords (reply_words reply)
reply-above (Num d n) = done-above
reply-above (Nil d) = done-above
reply-above (Copy d r) = done-above
reply-above Leave = done-above
reply-above (New d fields) = making-above
reply-above (Array d cells) = arraying-above
reply-above (Get d r i) = getting-above
reply-above (Set r i v) = setting-above
reply-above (Cas r i a v) = swapping-above
reply-above (Same a b) = comparing-above
reply-above (Len r) = measuring-above
reply-above Poll = polling-above
reply-above Collect = collecting-above

turn_reply-above : (command : TurnCommand) (reply : TurnReply) → IsTurnReply command reply → AreWords (turn_reply_words reply)
turn_reply-above command turns.Done h = (IsAbove-from_test 32 (codes "done") refl, tt)
turn_reply-above (commands.Turns n) (turns.Cycle j) h = absurd h
turn_reply-above commands.Cycle (turns.Cycle j) h = (IsAbove-from_test 32 (codes "cycle") refl, (IsAbove-decimal j h, tt))
turn_reply-above (commands.Turns n) (turns.Waits seat answered phase) h = waits-above seat answered phase h
turn_reply-above commands.Cycle (turns.Waits seat answered phase) h = waits-above seat answered phase h

entry-above : (form : Form) (preamble : Preamble) (entry : Entry) → preamble.heap.seats < 2 ^ 8 → IsWritten form preamble entry → AreWords (entry_words entry)
entry-above form preamble (entries.Said seat command reply) few h = (
  IsAbove-decimal seat (omega (arith, h.0)),
  AreWords-append (command_words command) (codes "=" ∷ reply_words reply) (command_words-above command h.1)
      (IsAbove-from_test 32 (codes "=") refl, reply-above command reply h.2),
)
entry-above form preamble (entries.Takes seat count) few h =
    (IsAbove-decimal seat (omega (arith, h.0)), (IsAbove-from_test 32 (codes "takes") refl, (IsAbove-decimal count (omega (arith, h.1)), tt)))
entry-above form preamble (entries.GivesBack seat count) few h =
    (IsAbove-decimal seat (omega (arith, h.0)), (IsAbove-from_test 32 (codes "gives") refl, (IsAbove-from_test 32 (codes "back") refl, (IsAbove-decimal count (omega (arith, h.1)), tt))))
entry-above form preamble (entries.Answers seat phase) few h =
    (IsAbove-decimal seat (omega (arith, h.0)), (IsAbove-from_test 32 (codes "answers") refl, (IsAbove-decimal phase h.1, tt)))
entry-above form preamble (entries.Advance phase) few h =
    (IsAbove-from_test 32 (codes "c") refl, (IsAbove-from_test 32 (codes "phase") refl, (IsAbove-decimal phase h, tt)))
entry-above form preamble (entries.Frees count) few h =
    (IsAbove-from_test 32 (codes "c") refl, (IsAbove-from_test 32 (codes "frees") refl, (IsAbove-decimal count (omega arith), tt)))
entry-above form preamble (entries.Returns count) few h =
    (IsAbove-from_test 32 (codes "c") refl, (IsAbove-from_test 32 (codes "returns") refl, (IsAbove-decimal count (omega arith), tt)))
entry-above form preamble (entries.Swings id) few h =
    (IsAbove-from_test 32 (codes "c") refl, (IsAbove-from_test 32 (codes "swings") refl, (id-above id h, tt)))
entry-above form preamble (entries.Ends cycle kept) few h =
    (IsAbove-from_test 32 (codes "c") refl, (IsAbove-from_test 32 (codes "ends") refl, (IsAbove-decimal cycle h.0, (IsAbove-from_test 32 (codes "kept") refl, (IsAbove-decimal kept h.1, tt)))))
entry-above Play preamble (entries.Turned command reply) few h = (
  IsAbove-from_test 32 (codes "c") refl,
  AreWords-append (turn_words command) (codes "=" ∷ turn_reply_words reply) (turn_words-above command h.0)
      (IsAbove-from_test 32 (codes "=") refl, turn_reply-above command reply h.1),
)
entry-above Run preamble (entries.Turned command reply) few h = absurd h

-- each word of a line
pub line_words_are_above : (form : Form) (preamble : Preamble) (line : HistoryLine) → preamble.heap.seats < 2 ^ 8 → IsHistoryLine form preamble line → AreWords (history_words line)
line_words_are_above form preamble (lines.Entry entry) few h = entry-above form preamble entry few h
line_words_are_above form preamble (lines.Space used total spine budget) few h = (
  IsAbove-from_test 32 (codes "space") refl,
  (
    IsAbove-from_test 32 (codes "used") refl,
    (
      IsAbove-decimal used h.0,
      (
        IsAbove-from_test 32 (codes "of") refl,
        (IsAbove-decimal total h.1, (IsAbove-from_test 32 (codes "spine") refl, (IsAbove-decimal spine h.2, (IsAbove-from_test 32 (codes "of") refl, (IsAbove-decimal budget h.3, tt))))),
      ),
    ),
  ),
)
line_words_are_above form preamble (lines.End used) few h =
    (IsAbove-from_test 32 (codes "end") refl, (IsAbove-from_test 32 (codes "used") refl, (IsAbove-decimal used h, tt)))
