-- What a seat has found stands after each of its moves.
use Rattle.std.specs.Prelude.{if◌then◌else◌}
use Rattle.std.proofs.Common.{◌≡◌, ◌≢◌, ◌||◌, ◌==◌, ◌++◌, ℕ, Bool, true, false, List, [], ◌∷◌, Option, Some, None, refl, sym, subst}
use Rattle.std.proofs.lemmas.List.{append-nil}
use Rattle.core_rule.proofs.Terms.{Command, Entry, Heap, Reply, is_reply_to, LoadingMeta, Refusing, Bearing, State, seat_at, found_by, Move, last_birth_move, birth_move}
use Rattle.core_rule.proofs.Terms.{refusal_step, refusal_looks, takes_some, array_length_of, at, after_meta, after_get, after_old_load, Seat, with_seen, after_call, Book, Rule}
use Rattle.heap_model.specs.declared.command.Command.TheVariants as commands
use Rattle.heap_model.specs.declared.entry.Entry.TheVariants as entries
use Rattle.core_machine.specs.declared.point.Access.TheVariants.{Naming}
use Rattle.core_machine.specs.declared.point.Collecting.TheVariants.{Comparing}
use Rattle.core_machine.specs.declared.point.Point.TheVariants as points
use Rattle.core_machine.specs.Moves.{seat_after}
use Rattle.core_machine.specs.declared.table.address.Address.TheVariants.{Phase}
use Rattle.core_machine.specs.seat.AccessMoves.{got_shows, reply_entries_if}
use Rattle.core_machine.specs.seat.Handshake.{answer_next, polling_over}
use Rattle.core_machine.specs.seat.HandshakeMoves.{phase_told}
use Rattle.core_machine.specs.seat.Looks.{forgotten}
use Rattle.core_rule.specs.looks.Looks.{LooksStand}
use Rattle.heap_model.proofs.graph_changes.OwnGraphs.{seat_is_not_other}
use Rattle.core_rule.proofs.looks.Finding.{looks_stand_after_seen}
use Rattle.core_rule.proofs.looks.Ways.{StaysFound, IsNote, elsewhere_is_no_note, stays_found_after_length}
use Rattle.core_rule.proofs.looks.Growth.{NoneOf, IsElsewhere, looks_stand_without_reply, looks_stand_elsewhere, looks_stand_after_reply, looks_stand_while_awaiting}

-- none of the entries is a reply to another seat
abbrev pub NoneToOthers : ℕ → List Entry → Type 0
NoneToOthers number added = (r : ℕ) → r ≢ number → NoneOf (is_reply_to r) added

-- none is a reply at all
abbrev pub NoReplies : List Entry → Type 0
NoReplies added = (r : ℕ) → NoneOf (is_reply_to r) added

pub empty_has_no_replies : NoReplies []
empty_has_no_replies r = refl

pub other_is_not_own : (number r : ℕ) → r ≢ number → ((number == r) || false) ≡ false
other_is_not_own number r apart = rw (seat_is_not_other number r apart) refl

-- how a seat goes by a move
module _ (heap : Heap) (number : ℕ) (before : List Entry) (seat : Seat) where
  pub record LooksGo (now : Seat) (shown : List Entry) : Type 0 where
    pub others : NoneToOthers number shown
    pub unnoted : ¬ IsNote now.point
    pub stands : LooksStand heap before number seat.point seat.looks → LooksStand heap (before ++ shown) number now.point now.looks

  -- nothing is told, and it stays with what it has found
  pub looks_go_quiet : (now : Seat) (shown : List Entry) → seat.point ≢ points.Access Naming → NoReplies shown → StaysFound seat now → LooksGo now shown
  looks_go_quiet now shown unnamed none stays = record {
    others = λ r apart. none r;
    unnoted = elsewhere_is_no_note now.point stays.elsewhere;
    stands = λ stands. subst (LooksStand heap (before ++ shown) number now.point) (sym stays.looks)
        (looks_stand_without_reply heap number before shown (none number) now.point seat.looks (looks_stand_elsewhere heap before number seat.point now.point seat.looks unnamed stays.elsewhere stands));
  }

  -- a reply is told
  pub looks_go_at_end : (now : Seat) (shown : List Entry) → now.looks ≡ forgotten seat.looks → now.point ≡ points.Idle → NoneToOthers number shown → LooksGo now shown
  looks_go_at_end now shown looks idle others = record {
    others = others;
    unnoted = λ note. subst IsNote idle note;
    stands = λ stands. rw (looks, idle) (looks_stand_after_reply heap before shown number seat.point seat.looks stands);
  }

  -- a reply is told, and a name is awaited
  awaits : (now : Seat) (shown : List Entry) → now.looks ≡ seat.looks → now.point ≡ points.Access Naming → NoneToOthers number shown → LooksGo now shown
  awaits now shown looks naming others = record {
    others = others;
    unnoted = λ note. subst IsNote naming note;
    stands = λ stands. rw (looks, naming) (looks_stand_while_awaiting heap before shown number seat.point seat.looks stands);
  }

-- a poll tells its reply, and the answer of a collect ends without one
polling_ends : (heap : Heap) (number : ℕ) (before : List Entry) (seat : Seat) (command : Command) (answered p : ℕ) (adds : List Entry) → seat.point ≢ points.Access Naming
    → LooksGo heap number before seat (record (polling_over command (record seat { answered = answered })) { mine = adds }) (phase_told number command p)
polling_ends heap number before seat commands.Collect answered p adds unnamed = looks_go_quiet heap number before seat _ _ unnamed empty_has_no_replies record { looks = refl; elsewhere = tt }
polling_ends heap number before seat _ answered p adds unnamed = looks_go_at_end heap number before seat _ _ refl refl (other_is_not_own number)

-- a phase that was answered is told, and a new one is about to be answered
pub looks_go_at_polling : (heap : Heap) (number : ℕ) (before : List Entry) (seat : Seat) (b : Bool) (p : ℕ) (adds : List Entry) → seat.point ≢ points.Access Naming
    → LooksGo heap number before seat (record (if b then polling_over seat.command seat else answer_next (record seat { asked = p })) { mine = adds }) (if b then phase_told number seat.command p else [])
looks_go_at_polling heap number before seat true p adds unnamed = polling_ends heap number before seat seat.command seat.answered p adds unnamed
looks_go_at_polling heap number before seat false p adds unnamed = looks_go_quiet heap number before seat _ _ unnamed empty_has_no_replies record { looks = refl; elsewhere = tt }

-- what a claim tells is no reply
pub claim_has_no_replies : (number count : ℕ) → NoReplies (takes_some number count)
claim_has_no_replies number count r = by (count == 0)
  where
    by : (b : Bool) → NoneOf (is_reply_to r) (if b then [] else entries.Takes number count ∷ [])
    by true = refl
    by false = refl

module _ (heap : Heap) (state : State) (book : Book) (rule : Rule heap state book) (number : ℕ) where
  abbrev seat : Seat
  seat = seat_at state number

  abbrev pub Goes : Seat → List Entry → Type 0
  Goes now shown = LooksGo heap number book.history seat now shown

  -- a way goes on without an entry
  pub way_goes : (now : Seat) → seat.point ≢ points.Access Naming → StaysFound seat now → Goes now []
  way_goes now unnamed stays = looks_go_quiet heap number book.history seat now [] unnamed empty_has_no_replies stays

  pub looks_go_at_reply : (now : Seat) (reply : Reply) → now.looks ≡ forgotten seat.looks → now.point ≡ points.Idle → Goes now (entries.Said number seat.command reply ∷ [])
  looks_go_at_reply now reply looks idle = looks_go_at_end heap number book.history seat now (entries.Said number seat.command reply ∷ []) looks idle (other_is_not_own number)

  -- the seat after the move, and what it shows
  abbrev pub GoesBy : Option Move → Type 0
  GoesBy None = Unit {0}
  GoesBy (Some move) = Goes (seat_after move (found_by heap state move.step)) (move.shows state.words (found_by heap state move.step))

  pub looks_go_at_birth : (last : Bool) → seat.point ≡ points.Making Bearing → GoesBy (Some (if last then last_birth_move number seat else birth_move seat))
  looks_go_at_birth true point_is = looks_go_at_reply _ _ refl refl
  looks_go_at_birth false point_is = way_goes _ (λ named. cc (point_is, named)) record { looks = refl; elsewhere = subst IsElsewhere (sym point_is) tt }

  pub looks_go_at_meta : (found : ℕ) (reply : Option Reply) → seat.point ≡ points.Access LoadingMeta → (adds : List Entry) → Goes (record (after_meta seat found reply) { mine = adds }) (reply_entries_if number seat reply)
  looks_go_at_meta found None point_is adds =
      let stays = stays_found_after_length seat found (array_length_of found) in
      way_goes _ (λ named. cc (point_is, named)) record { looks = stays.looks; elsewhere = stays.elsewhere }
  looks_go_at_meta found (Some reply) point_is adds = looks_go_at_reply _ reply refl refl

  pub looks_go_at_get : (found : ℕ) (head : Option ℕ) (adds : List Entry) → Goes (record (after_get seat found head) { mine = adds }) (got_shows heap number seat state.words found head)
  looks_go_at_get found None adds = looks_go_at_reply _ _ refl refl
  looks_go_at_get found (Some head) adds = awaits heap number book.history seat _ _ refl refl (other_is_not_own number)

  pub looks_go_at_old_load : (found : ℕ) (head : Option ℕ) (adds : List Entry) → seat.point ≢ points.Access Naming → Goes (record (after_old_load (record seat { loaded = found }) head) { mine = adds }) []
  looks_go_at_old_load found None adds unnamed = way_goes _ unnamed record { looks = refl; elsewhere = tt }
  looks_go_at_old_load found (Some head) adds unnamed = way_goes _ unnamed record { looks = refl; elsewhere = tt }

  pub looks_go_at_answer : (command : Command) (answered p : ℕ) (adds : List Entry) → seat.point ≢ points.Access Naming
      → Goes (record (polling_over command (record seat { answered = answered })) { mine = adds }) (entries.Answers number p ∷ phase_told number command p)
  looks_go_at_answer commands.Collect answered p adds unnamed = looks_go_quiet heap number book.history seat _ _ unnamed (λ r. refl) record { looks = refl; elsewhere = tt }
  looks_go_at_answer _ answered p adds unnamed = looks_go_at_end heap number book.history seat _ _ refl refl (other_is_not_own number)

  -- the phase is loaded, and the seat goes on from there
  abbrev pub found : ℕ
  found = at heap state.words Phase

  pub looks_go_at_first_seen : (now : Seat) (shown : List Entry) → ((other p : ℕ) → seat.point ≢ points.Collecting (Comparing other p)) → LooksGo heap number book.history (with_seen found seat) now shown → Goes now shown
  looks_go_at_first_seen now shown uncompared goes =
      record { others = goes.others; unnoted = goes.unnoted; stands = λ was. goes.stands (looks_stand_after_seen heap state book rule number seat.point seat.looks uncompared was) }

  -- a refusal is told, where the phase is loaded or an array's spine words are taken back
  pub looks_go_at_refusal : (command : Command) (words : ℕ) (reply : Reply) (adds : List Entry) → seat.point ≡ points.Making Refusing
      → Goes (record (after_call (record seat { looks = refusal_looks command (found_by heap state (refusal_step command words)) seat.looks })) { mine = adds }) (entries.Said number seat.command reply ∷ [])
  looks_go_at_refusal (commands.Array d cells) words reply adds point_is = looks_go_at_reply _ _ refl refl
  looks_go_at_refusal _ words reply adds point_is = looks_go_at_first_seen _ _ (λ other p comparing. cc (point_is, comparing)) (looks_go_at_end heap number book.history (with_seen found seat) _ _ refl refl (other_is_not_own number))

  pub looks_go_at_find : (now : Seat) → ¬ IsNote now.point → (LooksStand heap book.history number seat.point seat.looks → LooksStand heap book.history number now.point now.looks) → Goes now []
  looks_go_at_find now unnoted stands = record { others = λ r apart. refl; unnoted = unnoted; stands = λ was. subst (λ es. LooksStand heap es number now.point now.looks) (sym (append-nil book.history)) (stands was) }
