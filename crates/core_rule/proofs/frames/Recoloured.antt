-- A control word gets other marks: what stays of the heap and of each seat.
use Rattle.std.proofs.Common.{◌≡◌, ℕ, ◌<◌, List, length, inl, ◌∙◌, arith}
use Rattle.core_rule.proofs.Terms.{Heap, graph_of, phase, last_answer, has_left, Control, State, seat_at, put, Book, Colour, Marks, IsMarked, Coloured, Bits, Borne, node_at, Rule}
use Rattle.core_rule.proofs.Terms.{HeapStands, SeatStands}
use Rattle.core_machine.specs.declared.table.address.Address.TheVariants.{Answer, Phase}
use Rattle.core_rule.proofs.frames.SeatFrames.{names_stand_with_words}
use Rattle.core_rule.proofs.colours.LeadsFrames.{led_before_control_write}
use Rattle.core_rule.proofs.cycle.CycleFrames.{LeavesCycle, seat_in_cycle_stays}
use Rattle.core_rule.proofs.cycle.FieldFrames.{watched_is_born}
use Rattle.core_rule.proofs.hand.StoredFrames.{is_stored_after_control}
use Rattle.core_rule.proofs.objects.ObjectFrames.{objects_after_control}
use Rattle.core_rule.proofs.spines.OtherWords.{LeavesSpines, leaves_spines_after_control}
use Rattle.core_rule.proofs.spines.SpineFrames.{spines_stand_with_words, spine_in_hand_with_words}
use Rattle.core_rule.proofs.words.Addresses.{at-put_apart}
use Rattle.core_rule.proofs.dying.DeadWords.{dead_stay_after_control}

-- the control words tell the same owners and the new colours, which are right; what was marked is, and what seats bear has its colour
pub record Recolours (heap : Heap) (words : List ℕ) (book : Book) (coloured : ℕ → Colour) : Type 0 where
  pub bits : Bits heap words book.owner
  pub marks : Marks heap words coloured
  pub right : Coloured heap words book.owner coloured book.fragments (phase book.history)
  pub keeps : (f : ℕ) → IsMarked book.colour f → IsMarked coloured f
  pub births : (r f : ℕ) → book.owner f ≡ Borne r → coloured f ≡ book.colour f

-- the book with other colours
abbrev pub with_colours : Book → (ℕ → Colour) → Book
with_colours book coloured = record book { colour = coloured }

module _ (heap : Heap) (state : State) (book : Book) (rule : Rule heap state book) (g n : ℕ) (below : g < heap.groups) (coloured : ℕ → Colour)
    (new : Recolours heap (put heap state.words (Control g) n) book coloured) where
  abbrev words : List ℕ
  words = put heap state.words (Control g) n

  -- the spine words and the budget are as before
  pub leaves_spines_after_recolouring : LeavesSpines heap state.words words
  leaves_spines_after_recolouring = leaves_spines_after_control heap state.words n g below

  -- the heap stands
  pub heap_stands_after_recolouring : HeapStands heap words (with_colours book coloured)
  heap_stands_after_recolouring = let old = rule.heap_stands in record {
    control_words = new.bits;
    owners = old.owners;
    ids = old.ids;
    objects = objects_after_control heap state.words (graph_of heap book.history) book.made book.owner book.fragments book.spines g n below old.objects;
    spines = spines_stand_with_words heap state.words words leaves_spines_after_recolouring heap.seats (length book.made) book.spines book.fragments book.spine_owner
        (node_at (graph_of heap book.history) book.made) book.owner (dead_stay_after_control heap state.words book.owner book.owner g n below (λ f i k is. is)) old.spines;
    used = old.used;
    cycle = record {
      word = at-put_apart heap state.words (Control g) Phase n (λ e. omega (arith, e)) ∙ old.cycle.word;
      marks = new.marks;
      coloured = new.right;
    };
    legal = old.legal;
  }

  -- what a seat needs of it is left
  pub leaves_recoloured : (r : ℕ) → r < heap.seats → LeavesCycle heap state.words words book.owner book.owner book.colour coloured (phase book.history) r
  leaves_recoloured r less = record {
    answer = at-put_apart heap state.words (Control g) (Answer r) n (λ e. omega (arith, e, less, rule.machine.limits.seats_fit));
    leads = λ making x source y born leads. inl (led_before_control_write heap state.words g n below x source y leads);
    marks = new.keeps;
    births = λ f borne. (borne, new.births r f borne);
  }

  -- so each seat stands that makes no step
  pub seat_stands_after_recolouring : (r : ℕ) → r < heap.seats → SeatStands heap state.words book r (seat_at state r) → SeatStands heap words (with_colours book coloured) r (seat_at state r)
  seat_stands_after_recolouring r less stands = record {
    own = record { holding = stands.own.holding; stored = is_stored_after_control heap state.words r (seat_at state r) g n below stands.own.stored; together = stands.own.together; spine = spine_in_hand_with_words heap state.words words book.spine_owner r (seat_at state r) leaves_spines_after_recolouring stands.own.spine };
    names = names_stand_with_words heap state.words words leaves_spines_after_recolouring.spines (graph_of heap book.history) book.made book.owner book.fragments book.spines book.spine_owner r (seat_at state r) stands.names;
    told = stands.told;
    cycle = seat_in_cycle_stays heap state.words words book.owner book.owner book.colour coloured (phase book.history) (last_answer r book.history) (has_left r book.history)
        r (seat_at state r) (leaves_recoloured r less) (watched_is_born heap state book rule r less) stands.cycle;
  }
