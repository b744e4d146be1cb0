-- What stands of the heap and of the seats when a seat begins a call.
use Rattle.std.specs.Prelude.{if◌then◌else◌}
use Rattle.std.proofs.Common.{◌≡◌, ◌≢◌, ℕ, ◌==◌, length, refl, sym, arith, List}
use Rattle.std.proofs.lemmas.Bool.{eq-eqb}
use Rattle.core_rule.proofs.Terms.{Command, Heap, Point, Seat, Book, Began, HeapStands, SeatStands}
use Rattle.heap_model.proofs.graph_changes.OwnGraphs.{seat_is_not_other}
use Rattle.core_rule.proofs.gather.SinceCall.{no_reply_yet}

-- the call of q begins when the history has this length
abbrev pub begins : ℕ → ℕ → (ℕ → ℕ) → ℕ → ℕ
begins number n begun r = if r == number then n else begun r

-- all that a seat has is as before, but what it gathers, its point and its way
pub record SameData (seat next : Seat) : Type 0 where
  pub registers : next.registers ≡ seat.registers
  pub seen : next.seen ≡ seat.seen
  pub stored : next.stored ≡ seat.stored
  pub mine : next.mine ≡ seat.mine
  pub made : next.made ≡ seat.made
  pub sets : next.sets ≡ seat.sets
  pub answered : next.answered ≡ seat.answered
  pub left : next.left ≡ seat.left
  pub asked : next.asked ≡ seat.asked

pub begun_has_same_data : (seat : Seat) (point : Point) (command : Command) (reached cursor tried given : ℕ) (reserve hand body : List ℕ)
    → SameData seat (record seat { point = point; command = command; reached = reached; cursor = cursor; tried = tried; given = given; reserve = reserve; hand = hand; body = body })
begun_has_same_data seat point command reached cursor tried given reserve hand body =
    record { registers = refl; seen = refl; stored = refl; mine = refl; made = refl; sets = refl; answered = refl; left = refl; asked = refl }

module _ (heap : Heap) (words : List ℕ) (book : Book) (number : ℕ) where
  -- the book after it
  abbrev pub book_begun : Book
  book_begun = record book { begun = begins number (length book.history) book.begun }

  -- the heap stands
  pub heap_stands_after_begin : HeapStands heap words book → HeapStands heap words book_begun
  heap_stands_after_begin stands = record {
    control_words = stands.control_words;
    owners = stands.owners;
    ids = stands.ids;
    objects = stands.objects;
    spines = stands.spines;
    used = stands.used;
    cycle = stands.cycle;
    legal = stands.legal;
  }

  -- the call began, and isn't answered yet
  pub began_at_begin : (point : Point) → Began book.history number (book_begun.begun number) point
  began_at_begin point = rw begun_now record { earlier = omega arith; unanswered = λ active. no_reply_yet number book.history }
    where
      begun_now : book_begun.begun number ≡ length book.history
      begun_now = rw (eq-eqb number number refl) refl

  -- each other seat stands
  pub other_seat_stands_after_begin : (r : ℕ) (seat : Seat) → r ≢ number → SeatStands heap words book r seat → SeatStands heap words book_begun r seat
  other_seat_stands_after_begin r seat apart other = record {
    own = other.own;
    names = other.names;
    told = rw (seat_is_not_other r number (λ e. apart (sym e))) other.told;
    cycle = other.cycle;
  }
