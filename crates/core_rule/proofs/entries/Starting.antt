-- Where a seat stands that begins a call which makes no record.
use Rattle.std.proofs.Common.{◌≡◌, ℕ, List, [], refl, sym, ap, ◌∙◌}
use Rattle.heap_words.specs.declared.spot.Spot.{Spot}
use Rattle.core_rule.proofs.Terms.{Command, Entry, Heap, Id, Value, Graph, Node, Point, LoadingMeta, Granting, Register, IsRecordCall, IsServed, object_of, call_start}
use Rattle.core_rule.proofs.Terms.{access_start, register_in, Seat, fragment_at, object_number, Awaits, granted_at, placed_at, refused_at, UsedStands, Owner, SpineOwner}
use Rattle.core_rule.proofs.Terms.{HoldsValue, AddressStands, HasPlace, WayStands, SetsOut}
use Rattle.heap_model.specs.declared.command.Command.TheVariants as commands
use Rattle.core_machine.specs.declared.point.Point.TheVariants as points
use Rattle.core_machine.specs.declared.point.Polling.TheVariants.{Asking}
use Rattle.core_machine.specs.declared.seat.register.Register.TheVariants as registers
use Rattle.core_rule.proofs.entries.Begins.{SameData, begun_has_same_data}
use Rattle.core_rule.proofs.graph.Numbering.{id_at_own_number}
use Rattle.core_rule.proofs.graph.SeenStamps.{IsUnnamed}

-- all that the seat had is as before, whatever its point and its way
pub record SameOwn (old now : Seat) : Type 0 where
  pub same : SameData old now
  pub reserve : now.reserve ≡ old.reserve
  pub hand : now.hand ≡ old.hand
  pub body : now.body ≡ old.body
  pub tried : now.tried ≡ old.tried
  pub given : now.given ≡ old.given

-- a seat that has another point, command or way
at_point : (seat : Seat) (point : Point) (command : Command) (reached : ℕ) → SameOwn seat (record seat { point = point; command = command; reached = reached })
at_point seat point command reached = record { same = begun_has_same_data seat _ _ _ _ _ _ _ _ _; reserve = refl; hand = refl; body = refl; tried = refl; given = refl }

-- the point is no later than the first of a way or of an answer
abbrev pub IsFresh : Point → Type 0
IsFresh (points.Access LoadingMeta) = Unit {0}
IsFresh (points.Access _) = ⊥
IsFresh (points.Polling Asking) = Unit {0}
IsFresh (points.Polling _) = ⊥
IsFresh _ = Unit {0}

pub fresh_is_unnamed : (point : Point) → IsFresh point → IsUnnamed point
fresh_is_unnamed (points.Access LoadingMeta) fresh = tt
fresh_is_unnamed (points.Access _) fresh = absurd fresh
fresh_is_unnamed _ fresh = tt

-- no spine word is granted there, and the place of no spine is in hand
abbrev pub IsBare : Point → Type 0
IsBare (points.Making Granting) = Unit {0}
IsBare (points.Making _) = ⊥
IsBare (points.Access LoadingMeta) = Unit {0}
IsBare (points.Access _) = ⊥
IsBare _ = Unit {0}

-- so a seat there has no spine, and has found no words to be in use
pub record IsSpineless (number : ℕ) (seat : Seat) (point : Point) : Type 0 where
  pub no_place : ¬ HasPlace seat point
  pub no_address : (heap : Heap) (words : List ℕ) (nodes : ℕ → Node) (owner : ℕ → Owner) (fragments : ℕ → List ℕ) (spines : ℕ → Spot) (spine_owner : ℕ → ℕ → SpineOwner)
      → AddressStands heap words nodes owner fragments spines spine_owner seat point
  pub none_used : (heap : Heap) (history : List Entry) → UsedStands heap history number seat point
  pub none_granted : granted_at seat point ≡ 0
  pub none_placed : (half : ℕ) → placed_at half seat point ≡ 0
  pub none_refused : refused_at seat point ≡ 0

pub bare_is_spineless : (number : ℕ) (seat : Seat) (point : Point) → IsBare point → IsSpineless number seat point
bare_is_spineless number seat (points.Making Granting) bare =
    record { no_place = λ has. has; no_address = λ heap words nodes owner fragments spines spine_owner. tt; none_used = λ heap history. tt; none_granted = refl; none_placed = λ half. refl; none_refused = refl }
bare_is_spineless number seat (points.Making _) bare = absurd bare
bare_is_spineless number seat (points.Access LoadingMeta) bare =
    record { no_place = λ has. has; no_address = λ heap words nodes owner fragments spines spine_owner. tt; none_used = λ heap history. tt; none_granted = refl; none_placed = λ half. refl; none_refused = refl }
bare_is_spineless number seat (points.Access _) bare = absurd bare
bare_is_spineless number seat _ bare =
    record { no_place = λ has. has; no_address = λ heap words nodes owner fragments spines spine_owner. tt; none_used = λ heap history. tt; none_granted = refl; none_placed = λ half. refl; none_refused = refl }

module _ (g : Graph) (nodes : ℕ → Node) (made : List Id) (owner : ℕ → Owner) (fragments : ℕ → List ℕ) (number : ℕ) where
  -- the seat has what it had, awaits nothing, and its way sets out from its first point
  pub record Starts (old now : Seat) : Type 0 where
    pub own : SameOwn old now
    pub awaits : Awaits g made owner fragments number now now.point []
    pub way : WayStands nodes made owner fragments now now.point
    pub fresh : IsFresh now.point
    pub bare : IsBare now.point

  -- the way begins at the register's object
  sets_out : (seat : Seat) (head : ℕ) (id : Id) (value : Value) → HoldsValue made owner fragments (registers.Object head id) value
      → registers.Object head id ≡ register_in seat.registers (object_of seat.command) → SetsOut made owner fragments (access_start seat (registers.Object head id))
  sets_out seat head id value holds is = record {
    index = object_number made id;
    way = record {
      below = holds.1.0;
      kept = holds.1.1;
      holds = sym is ∙ ap (λ f. registers.Object f id) holds.2 ∙ ap (λ i. registers.Object (fragment_at (fragments (object_number made id)) 0) i) (sym (id_at_own_number made id holds.1.0));
      here = holds.2;
    };
  }

  -- the call of an object opens its way, and is told at once where the register holds none
  opened_starts : (seat : Seat) (held : Register) (value : Value) → HoldsValue made owner fragments held value
      → held ≡ register_in seat.registers (object_of seat.command) → Starts seat (access_start seat held)
  opened_starts seat registers.Nil value holds is = record { own = at_point seat _ _ _; awaits = refl; way = tt; fresh = tt; bare = tt }
  opened_starts seat (registers.Number n) value holds is = record { own = at_point seat _ _ _; awaits = refl; way = tt; fresh = tt; bare = tt }
  opened_starts seat (registers.Object head id) value holds is = record { own = at_point seat _ _ _; awaits = refl; way = sets_out seat head id value holds is; fresh = tt; bare = tt }

  -- any other call stands at its first step
  pub other_call_starts : (heap : Heap) (seat : Seat) (command : Command) → (IsRecordCall command → ⊥) → IsServed command → seat.command ≡ command
      → ((r : ℕ) → (value : Value) × HoldsValue made owner fragments (register_in seat.registers r) value) → Starts seat (call_start heap seat command)
  other_call_starts heap seat (commands.Get d r i) other served is holds = opened_starts seat (register_in seat.registers r) (holds r).0 (holds r).1 (ap (λ c. register_in seat.registers (object_of c)) (sym is))
  other_call_starts heap seat (commands.Set r i v) other served is holds = opened_starts seat (register_in seat.registers r) (holds r).0 (holds r).1 (ap (λ c. register_in seat.registers (object_of c)) (sym is))
  other_call_starts heap seat (commands.Cas r i a v) other served is holds = opened_starts seat (register_in seat.registers r) (holds r).0 (holds r).1 (ap (λ c. register_in seat.registers (object_of c)) (sym is))
  other_call_starts heap seat (commands.Len r) other served is holds = opened_starts seat (register_in seat.registers r) (holds r).0 (holds r).1 (ap (λ c. register_in seat.registers (object_of c)) (sym is))
  other_call_starts heap seat (commands.New d fields) other served is holds = absurd (other tt)
  other_call_starts heap seat commands.Collect other served is holds = absurd served
  other_call_starts heap seat _ other served is holds = record { own = at_point seat _ _ _; awaits = refl; way = tt; fresh = tt; bare = tt }
