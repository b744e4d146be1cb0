-- What stays of a seat at another's step: all of it, where that leaves what the seat has, what it names and what is told of it.
use Rattle.std.proofs.Common.{◌≡◌, ℕ, ◌<◌, false, List, [], ◌∷◌, ◌++◌, length, filter, drop, get_or, refl, sym, ◌∙◌, subst, arith}
use Rattle.heap_words.specs.declared.spot.Spot.{Spot}
use Rattle.core_rule.proofs.Terms.{Entry, Heap, Id, graph_of, is_of, register_value, phase, last_answer, has_left, spent_of, taken_of, Graph, Point, Register}
use Rattle.core_rule.proofs.Terms.{Seat, Book, SeatInCycle, IsStored, GathersRight, Began, UsedStands, node_at, IsKept, Owner, SpineOwner, Registers, AddressStands, NamesStand}
use Rattle.core_rule.proofs.Terms.{SeatStands, WayStands, stamps_at}
use Rattle.heap_model.specs.declared.id.Value.TheVariants as values
use Rattle.core_machine.specs.declared.seat.register.Register.TheVariants as registers
use Rattle.core_rule.specs.graph.Registers as regs
use Rattle.core_rule.proofs.entries.Others.{own_entries_stay_by_other, total_of_stays_by_other, began_after_other_entry, gathers_right_after_entry}
use Rattle.core_rule.proofs.entries.SeatLists.{own_list_stays, NamesStay, holds_value_still}
use Rattle.core_rule.proofs.hand.HandMoves.{SameHand, same_hand_of_itself, holding_stays}
use Rattle.heap_model.proofs.graph_changes.Shapes.{SameShape, same_shape_of_equal}
use Rattle.core_rule.proofs.objects.ObjectFrames.{SameKept, names_kept_by_same_kept}
use Rattle.core_rule.proofs.spines.SpineFrames.{SpineIsStored, spine_is_stored_by_words, SpinesLeft, spines_left_of_itself, spine_in_hand_stays, PlacesStay, places_stay_where_same, address_stands_still, address_stands_with_words}
use Rattle.core_rule.proofs.budgets.UsedWords.{used_stands_after_other_entry}
use Rattle.core_rule.proofs.ways.WayFrames.{ObjectStays, way_stands_still}
use Rattle.core_rule.proofs.graph.SeenStamps.{seen_of_same_registers}
use Rattle.core_rule.proofs.words.Addresses.{SameSpines}
use Rattle.heap_model.proofs.graph_changes.SameParties.{SameParty, register_stays}

-- the later history tells no more of the seat
pub record SameTold (r : ℕ) (history later : List Entry) : Type 0 where
  pub own : filter (is_of r) later ≡ filter (is_of r) history
  pub spent : spent_of r later ≡ spent_of r history
  pub taken : taken_of r later ≡ taken_of r history
  pub began : (begun : ℕ) (point : Point) → Began history r begun point → Began later r begun point
  pub used : (heap : Heap) (seat : Seat) (point : Point) → UsedStands heap history r seat point → UsedStands heap later r seat point

-- so it is where nothing is added
pub seat_told_same_without_entry : (r : ℕ) (history : List Entry) → SameTold r history history
seat_told_same_without_entry r history = record { own = refl; spent = refl; taken = refl; began = λ begun point began. began; used = λ heap seat point used. used }

-- and where an entry of another is
pub seat_told_same_after_other : (r : ℕ) (history : List Entry) (entry : Entry) → is_of r entry ≡ false → SameTold r history (history ++ entry ∷ [])
seat_told_same_after_other r history entry other = record {
  own = own_entries_stay_by_other r history entry other;
  spent = rw (total_of_stays_by_other r (λ e. e.given) history entry other, total_of_stays_by_other r (λ e. e.born) history entry other) refl;
  taken = total_of_stays_by_other r (λ e. e.taken) history entry other;
  began = λ begun point began. began_after_other_entry history entry r begun point other began;
  used = λ heap seat point used. used_stands_after_other_entry heap r history entry other seat point used;
}

-- what is kept stays kept, by the same names and in the same fragments
pub record KeptStays (g now : Graph) (made now_made : List Id) (owner now_owner : ℕ → Owner) (fragments now_fragments : ℕ → List ℕ) : Type 0 where
  pub names : NamesStay made now_made owner now_owner fragments now_fragments
  pub objects : (i : ℕ) → i < length made → IsKept owner fragments i
      → ObjectStays (node_at g made) (node_at now now_made) made now_made owner now_owner fragments now_fragments i

-- so it is where the same fragments are kept
pub kept_stays_with_owners : (g : Graph) (made : List Id) (owner now : ℕ → Owner) (fragments : ℕ → List ℕ) → SameKept owner now → KeptStays g g made made owner now fragments fragments
kept_stays_with_owners g made owner now fragments same = record {
  names = record { names = λ id kept. names_kept_by_same_kept owner now same made fragments (values.Object id) kept; heads = λ id kept. refl };
  objects = λ i below kept. record { below = below; kept = same.stays _ _ _ kept; id = refl; fragments_stay = refl; shape = same_shape_of_equal (node_at g made i) (node_at g made i) refl };
}

-- and where each object has its shape
pub kept_shapes : (g now : Graph) (made : List Id) (owner : ℕ → Owner) (fragments : ℕ → List ℕ) → ((i : ℕ) → SameShape (node_at now made i) (node_at g made i))
    → KeptStays g now made made owner owner fragments fragments
kept_shapes g now made owner fragments shapes = record {
  names = record { names = λ id kept. kept; heads = λ id kept. refl };
  objects = λ i below kept. record { below = below; kept = kept; id = refl; fragments_stay = refl; shape = shapes i };
}

-- so registers hold what they held
pub registers_stay_with_owners : (owner now : ℕ → Owner) → SameKept owner now → (made : List Id) (fragments : ℕ → List ℕ) (g : Graph) (number : ℕ) (held : List Register) (point : Point) (d : ℕ)
    → Registers g made owner fragments number held point d → Registers g made now fragments number held point d
registers_stay_with_owners owner now same made fragments g number held point d old =
    λ r fresh. holds_value_still made made owner now fragments fragments (kept_stays_with_owners g made owner now fragments same).names _ _ (old r fresh)

-- the place that a seat's call has loaded is right by the book
abbrev pub AddressAt : Heap → List ℕ → Book → Seat → Point → Type 0
AddressAt heap words book seat = AddressStands heap words (node_at (graph_of heap book.history) book.made) book.owner book.fragments book.spines book.spine_owner seat

-- so it is where what is kept stays kept, with its spine
pub address_at_stays : (heap : Heap) (words now_words : List ℕ) (book now : Book) (seat : Seat)
    → KeptStays (graph_of heap book.history) (graph_of heap now.history) book.made now.made book.owner now.owner book.fragments now.fragments
    → PlacesStay heap words now_words (length book.made) book.spines now.spines book.spine_owner now.spine_owner
    → WayStands (node_at (graph_of heap book.history) book.made) book.made book.owner book.fragments seat seat.point → AddressAt heap words book seat seat.point → AddressAt heap now_words now seat seat.point
address_at_stays heap words now_words book now seat kept places =
    address_stands_still heap words now_words (node_at (graph_of heap book.history) book.made) (node_at (graph_of heap now.history) now.made) book.made now.made book.owner now.owner
    book.fragments now.fragments book.spines now.spines book.spine_owner now.spine_owner places kept.objects seat seat.point

-- what a seat names stands where no more than words change, and no spine word
pub names_stand_with_words : (heap : Heap) (words now : List ℕ) → SameSpines heap words now → (g : Graph) (made : List Id) (owner : ℕ → Owner) (fragments : ℕ → List ℕ) (spines : ℕ → Spot) (spine_owner : ℕ → ℕ → SpineOwner)
    (number : ℕ) (seat : Seat) → NamesStand heap words g made owner fragments spines spine_owner number seat → NamesStand heap now g made owner fragments spines spine_owner number seat
names_stand_with_words heap words now same g made owner fragments spines spine_owner number seat old = record {
  registers = old.registers;
  way = old.way;
  address = address_stands_with_words heap words now same (node_at g made) owner fragments spines spine_owner seat seat.point old.address;
}

-- what a step of another leaves of a seat
pub record LeavesSeat (heap : Heap) (words : List ℕ) (book now : Book) (r : ℕ) (seat : Seat) : Type 0 where
  pub calls : now.begun ≡ book.begun
  pub party : SameParty (graph_of heap book.history) (graph_of heap now.history) r
  pub told : SameTold r book.history now.history
  pub kept : KeptStays (graph_of heap book.history) (graph_of heap now.history) book.made now.made book.owner now.owner book.fragments now.fragments
  pub hand : SameHand r book.owner now.owner
  pub stored : IsStored heap words r seat
  pub spines : SpinesLeft r book.spine_owner now.spine_owner
  pub spine_stored : SpineIsStored heap words seat
  pub address : AddressAt heap words now seat seat.point
  pub gathers : GathersRight heap now.owner r (drop (book.begun r) now.history) seat.cursor seat.tried seat.given
  pub cycle : SeatInCycle heap words (phase now.history) (last_answer r now.history) (has_left r now.history) now.owner now.colour r seat

-- so all of it stands
pub seat_stands_where_left_alone : (heap : Heap) (words now_words : List ℕ) (book now : Book) (r : ℕ) (seat : Seat) → LeavesSeat heap now_words book now r seat
    → SeatStands heap words book r seat → SeatStands heap now_words now r seat
seat_stands_where_left_alone heap words now_words book now r seat leaves old =
    let g : Graph = graph_of heap book.history in
    let after : Graph = graph_of heap now.history in
    let same : (i : ℕ) → register_value after r i ≡ register_value g r i = register_stays g after r leaves.party in
    record {
      own = record {
        holding = holding_stays book.owner now.owner r seat.reserve seat.hand seat.body leaves.hand old.own.holding;
        stored = leaves.stored;
        together = old.own.together;
        spine = spine_in_hand_stays heap words now_words book.spine_owner now.spine_owner r seat leaves.spines leaves.spine_stored old.own.spine;
      };
      names = record {
        registers = λ i awake. subst (regs.HoldsValue now.made now.owner now.fragments (get_or seat.registers i registers.Nil)) (sym (same i))
            (holds_value_still book.made now.made book.owner now.owner book.fragments now.fragments leaves.kept.names _ _ (old.names.registers i awake));
        way = way_stands_still (node_at g book.made) (node_at after now.made) book.made now.made book.owner now.owner book.fragments now.fragments leaves.kept.objects seat seat.point old.names.way;
        address = leaves.address;
      };
      told = rw leaves.calls record {
        list = own_list_stays g after book.made now.made book.owner now.owner book.fragments now.fragments r seat leaves.kept.names same book.history now.history leaves.told.own old.told.list;
        counts = record {
          numbered = old.told.counts.numbered ∙ sym leaves.party.objects;
          stamped = old.told.counts.stamped ∙ sym leaves.party.sets;
          seen = seen_of_same_registers g r (stamps_at seat seat.point) old.told.counts.seen after leaves.party.registers;
          leaves = leaves.party.left ∙ old.told.counts.leaves;
          unborn = omega (arith, old.told.counts.unborn, leaves.told.spent, leaves.told.taken);
        };
        began = leaves.told.began (book.begun r) seat.point old.told.began;
        gathers = leaves.gathers;
        used = leaves.told.used heap seat seat.point old.told.used;
      };
      cycle = leaves.cycle;
    }

-- the book with one more entry
abbrev pub with_entry : Book → Entry → Book
with_entry book entry = record book { history = book.history ++ entry ∷ [] }

-- it stands where an entry of another is added, and the graph has its registers and counts as before
pub seat_stands_with_entry : (heap : Heap) (words now : List ℕ) (book : Book) (entry : Entry) (r : ℕ) (seat : Seat) → is_of r entry ≡ false
    → SameParty (graph_of heap book.history) (graph_of heap (book.history ++ entry ∷ [])) r
    → ((i : ℕ) → SameShape (node_at (graph_of heap (book.history ++ entry ∷ [])) book.made i) (node_at (graph_of heap book.history) book.made i))
    → IsStored heap now r seat → SameSpines heap words now
    → SeatInCycle heap now (phase (book.history ++ entry ∷ [])) (last_answer r (book.history ++ entry ∷ [])) (has_left r (book.history ++ entry ∷ [])) book.owner book.colour r seat
    → SeatStands heap words book r seat → SeatStands heap now (with_entry book entry) r seat
seat_stands_with_entry heap words now book entry r seat other same shapes stored spines cycle old =
    let kept = kept_shapes (graph_of heap book.history) (graph_of heap (book.history ++ entry ∷ [])) book.made book.owner book.fragments shapes in
    seat_stands_where_left_alone heap words now book (with_entry book entry) r seat record {
      calls = refl;
      party = same;
      told = seat_told_same_after_other r book.history entry other;
      kept = kept;
      hand = same_hand_of_itself r book.owner;
      stored = stored;
      spines = spines_left_of_itself r book.spine_owner;
      spine_stored = spine_is_stored_by_words heap words now seat spines old.own.spine.stored;
      address = address_at_stays heap words now book (with_entry book entry) seat kept (places_stay_where_same heap words now (length book.made) book.spines book.spine_owner spines) old.names.way old.names.address;
      gathers = gathers_right_after_entry heap book.owner r book.history (book.begun r) entry seat.cursor seat.tried seat.given old.told.began.earlier old.told.gathers;
      cycle = cycle;
    } old
