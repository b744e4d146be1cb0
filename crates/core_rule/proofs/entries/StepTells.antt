-- What one step of a seat tells: nothing, one entry of its own, or its answer with the reply to a poll.
use Rattle.std.proofs.Common.{◌≡◌, ℕ, ◌==◌, Bool, true, false, if◌then◌else◌, List, [], ◌∷◌, Option, Some, None, refl}
use Rattle.std.specs.Prelude.{IfSome}
use Rattle.heap_model.specs.declared.calls.collect.CollectReply.{CollectReply}
use Rattle.heap_model.specs.declared.calls.collect.CollectReply.TheVariants as notes
use Rattle.core_rule.proofs.Terms.{Entry, Heap, Reply, Withdrawing, Refusing, Point, full_entry, spine_full_entry, takes_some, Seat, Command, Register, meta_reply_of, register_in}
use Rattle.core_rule.proofs.Terms.{value_of, is_same_value}
use Rattle.heap_model.specs.declared.entry.Entry.TheVariants as entries
use Rattle.heap_model.specs.declared.reply.Reply.TheVariants as replies
use Rattle.core_machine.specs.declared.point.Collecting.TheVariants.{Noting}
use Rattle.core_machine.specs.declared.point.Point.TheVariants as points
use Rattle.core_machine.specs.declared.point.Polling.TheVariants.{Answering}
use Rattle.core_machine.specs.seat.AccessMoves.{got_shows, reply_entries_if}
use Rattle.core_machine.specs.seat.HandshakeMoves.{phase_told}
use Rattle.core_machine.specs.seat.Looks.{noted_reply}
use Rattle.heap_model.specs.declared.command.Command.TheVariants as commands
use Rattle.core_machine.specs.seat.Local.{answer_of, local_reply_of}
use Rattle.core_rule.proofs.entries.PhasesTold.{told_cases, told_if_cases}
use Rattle.core_rule.proofs.footprint.Mute.{AreMute, one_entry_is_mute}
use Rattle.core_rule.proofs.runs.Plays.{IsPlainReply}

-- the seat may tell this entry at the point: it takes or gives fragments, it is refused, it waits, or it has another reply
pub data SeatTells (number : ℕ) (seat : Seat) (point : Point) : Entry → Type 0 where
  takes : (count : ℕ) → SeatTells number seat point (entries.Takes number count)
  gives : (count : ℕ) → SeatTells number seat point (entries.GivesBack number count)
  says : (reply : Reply) → IsPlainReply reply → SeatTells number seat point (entries.Said number seat.command reply)
  refuses : point ≡ points.Making Refusing → SeatTells number seat point (full_entry number seat)
  refuses_words : point ≡ points.Making Withdrawing → SeatTells number seat point (spine_full_entry number seat)
  waits : (other answered p : ℕ) → point ≡ points.Collecting (Noting (notes.Waits other answered p)) → SeatTells number seat point (entries.Said number seat.command (replies.Waits other answered p))

-- its step tells nothing, or one such entry, or its answer
pub data SeatShows (number : ℕ) (seat : Seat) (point : Point) : List Entry → Type 0 where
  shows_none : SeatShows number seat point []
  shows_one : (entry : Entry) → SeatTells number seat point entry → SeatShows number seat point (entry ∷ [])
  shows_answer : point ≡ points.Polling Answering → SeatShows number seat point (entries.Answers number seat.asked ∷ phase_told number seat.command seat.asked)

-- a reply of a call that looks at no word is plain
answer_plain : (b : Bool) → IsPlainReply (answer_of b)
answer_plain true = tt
answer_plain false = tt

pub local_reply_is_plain : (registers : List Register) (command : Command) → IsPlainReply (local_reply_of registers command)
local_reply_is_plain registers (commands.Same a b) = answer_plain (is_same_value (value_of (register_in registers a)) (value_of (register_in registers b)))
local_reply_is_plain registers _ = tt

field_plain : (b : Bool) → IfSome (if b then None else Some replies.NoField) IsPlainReply
field_plain true = tt
field_plain false = tt

pub meta_reply_is_plain : (command : Command) (found : ℕ) → IfSome (meta_reply_of command found) IsPlainReply
meta_reply_is_plain (commands.Len r) found = tt
meta_reply_is_plain (commands.Get d r i) found = field_plain _
meta_reply_is_plain (commands.Set r i v) found = field_plain _
meta_reply_is_plain (commands.Cas r i a v) found = field_plain _
meta_reply_is_plain _ found = tt

module _ (number : ℕ) (seat : Seat) (point : Point) where
  pub shows_plain : (reply : Reply) → IsPlainReply reply → SeatShows number seat point (entries.Said number seat.command reply ∷ [])
  shows_plain reply plain = shows_one _ (says reply plain)

  -- the entries of a claim, of a poll's load, of a reply at the meta, of a get, and of a note
  pub shows_claim : (count : ℕ) → SeatShows number seat point (takes_some number count)
  shows_claim count = by (count == 0)
    where
      by : (b : Bool) → SeatShows number seat point (if b then [] else entries.Takes number count ∷ [])
      by true = shows_none
      by false = shows_one _ (takes count)

  pub shows_poll : (b : Bool) (p : ℕ) → SeatShows number seat point (if b then phase_told number seat.command p else [])
  shows_poll b p = told_if_cases (SeatShows number seat point) number seat.command p b shows_none (shows_plain (replies.Phase p) tt)

  pub shows_reply_if : (reply : Option Reply) → IfSome reply IsPlainReply → SeatShows number seat point (reply_entries_if number seat reply)
  shows_reply_if None plain = shows_none
  shows_reply_if (Some reply) plain = shows_plain reply plain

  pub shows_get : (heap : Heap) (words : List ℕ) (found : ℕ) (head : Option ℕ) → SeatShows number seat point (got_shows heap number seat words found head)
  shows_get heap words found None = shows_plain _ tt
  shows_get heap words found (Some head) = shows_plain _ tt

  -- no phase begins by it
  tells_mute : (entry : Entry) → SeatTells number seat point entry → AreMute (entry ∷ [])
  tells_mute _ (takes count) = one_entry_is_mute _ refl refl
  tells_mute _ (gives count) = one_entry_is_mute _ refl refl
  tells_mute _ (says reply plain) = one_entry_is_mute _ refl refl
  tells_mute _ (refuses is) = one_entry_is_mute _ refl refl
  tells_mute _ (refuses_words is) = one_entry_is_mute _ refl refl
  tells_mute _ (waits other answered p is) = one_entry_is_mute _ refl refl

  pub shown_are_mute : (added : List Entry) → SeatShows number seat point added → AreMute added
  shown_are_mute _ shows_none = tt
  shown_are_mute _ (shows_one entry tells) = tells_mute entry tells
  shown_are_mute _ (shows_answer is) = (record { no_begin = refl; no_phase = refl }, told_cases AreMute number seat.command seat.asked tt (one_entry_is_mute (entries.Said number seat.command (replies.Phase seat.asked)) refl refl))

pub shows_note : (number : ℕ) (seat : Seat) (reply : CollectReply) → SeatShows number seat (points.Collecting (Noting reply)) (entries.Said number seat.command (noted_reply reply) ∷ [])
shows_note number seat (notes.Cycle j) = shows_one _ (says (replies.Cycle j) tt)
shows_note number seat (notes.Waits other answered p) = shows_one _ (waits other answered p refl)
