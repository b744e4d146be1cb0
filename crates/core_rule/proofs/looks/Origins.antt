-- A seat comes to the shade of an old value by the load of it alone, and to the taking back of spine words by their grant alone.
use Rattle.std.proofs.Common.{◌≡◌, ℕ, ◌+◌, ◌*◌, ◌==◌, ◌++◌, Bool, true, false, if◌then◌else◌, List, length, Option, Some, None, refl, sym, subst}
use Rattle.core_rule.proofs.Terms.{Replacing, guard_point_of, Command, Heap, Reply, Walking, LoadingOld, ShadingOld, Swapping, Granting, Withdrawing, Bearing, Point, Register, after_begin, source_of}
use Rattle.core_rule.proofs.Terms.{has_barrier_of, field_point_of, way_point_of, after_link, after_walk, at_access, with_field_place, after_length, after_meta, after_get}
use Rattle.core_rule.proofs.Terms.{new_point_of, after_old, after_old_load, access_start, gather_next, next_group_of, after_claim, after_budget, store_point, array_length_of}
use Rattle.core_rule.proofs.Terms.{clear_in, register_in, register_head, Seat}
use Rattle.heap_model.specs.declared.calls.collect.Inner.{Inner}
use Rattle.heap_model.specs.declared.calls.collect.Inner.TheVariants as inners
use Rattle.core_machine.specs.seat.Collecting.{inner_point}
use Rattle.heap_model.specs.declared.command.Command.TheVariants as commands
use Rattle.core_machine.specs.declared.point.Making.TheVariants.{Storing}
use Rattle.core_machine.specs.declared.point.Point.TheVariants as points
use Rattle.core_machine.specs.declared.seat.register.Register.TheVariants as registers
use Rattle.core_machine.specs.seat.Handshake.{answer_next, after_phase_load, polling_over}
use Rattle.core_machine.proofs.seat_lemmas.FieldPoints.{guard_point_cases}
use Rattle.core_machine.proofs.seat_lemmas.Fitting.{goes_on_cases, settled_cases, returning_cases, budget_cases}
use Rattle.core_rule.proofs.entries.PhasesTold.{over_cases}

-- the point is neither that of the shade nor that of the taking back
abbrev pub IsUsual : Point → Type 0
IsUsual (points.Access ShadingOld) = ⊥
IsUsual (points.Making Withdrawing) = ⊥
IsUsual _ = Unit {0}

-- a step from the first point may lead to the second
abbrev pub ComesFrom : Point → Point → Type 0
ComesFrom point (points.Access ShadingOld) = point ≡ points.Access LoadingOld
ComesFrom point (points.Making Withdrawing) = point ≡ points.Making Granting
ComesFrom point _ = Unit {0}

pub comes_from_usual : (point next : Point) → IsUsual next → ComesFrom point next
comes_from_usual point (points.Access ShadingOld) usual = absurd usual
comes_from_usual point (points.Making Withdrawing) usual = absurd usual
comes_from_usual point _ usual = tt

gather_usual : (heap : Heap) (seat : Seat) → IsUsual (gather_next heap seat).point
gather_usual heap seat = goes_on_cases (λ s. IsUsual s.point) heap seat (λ enough. settled_cases (λ point. IsUsual (points.Making point)) seat.command (λ array. tt) (λ other. tt)) (λ few more. tt)
    (λ few all. returning_cases (λ point. IsUsual (points.Making point)) seat.hand (λ none. tt) (λ some. tt))

pub claim_is_usual : (heap : Heap) (seat : Seat) (found : ℕ) → IsUsual (after_claim heap seat found).point
claim_is_usual heap seat found = gather_usual heap (record seat { hand = seat.hand ++ clear_in (next_group_of heap seat) found; tried = seat.tried + 1 })

pub field_point_is_usual : (seat : Seat) (command : Command) → IsUsual (points.Access (field_point_of seat command))
field_point_is_usual seat (commands.Set r i v) = by (has_barrier_of seat)
  where
    by : (b : Bool) → IsUsual (points.Access (if b then LoadingOld else Swapping))
    by true = tt
    by false = tt
field_point_is_usual seat (commands.Cas r i a v) = by (has_barrier_of seat)
  where
    by : (b : Bool) → IsUsual (points.Access (if b then guard_point_of seat else Replacing))
    by true = guard_point_cases (λ p. IsUsual (points.Access p)) seat (λ some. tt) (λ none some. tt) (λ none neither. tt)
    by false = tt
field_point_is_usual seat _ = tt

way_usual : (seat : Seat) → IsUsual (points.Access (way_point_of seat))
way_usual seat = by (seat.links == 0)
  where
    by : (b : Bool) → IsUsual (points.Access (if b then field_point_of seat seat.command else Walking))
    by true = field_point_is_usual seat seat.command
    by false = tt

pub walk_is_usual : (seat : Seat) (found : ℕ) → IsUsual (after_walk seat found).point
walk_is_usual seat found = by (seat.links == 0)
  where
    by : (b : Bool) → IsUsual (if b then at_access seat (way_point_of seat) else at_access (after_link seat found) (way_point_of (after_link seat found))).point
    by true = way_usual seat
    by false = way_usual (after_link seat found)

length_usual : (seat : Seat) (found : ℕ) (length : Option ℕ) → IsUsual (after_length seat found length).point
length_usual seat found None = walk_is_usual (with_field_place seat) found
length_usual seat found (Some cells) = tt

pub meta_is_usual : (seat : Seat) (found : ℕ) (reply : Option Reply) → IsUsual (after_meta seat found reply).point
meta_is_usual seat found None = length_usual seat found (array_length_of found)
meta_is_usual seat found (Some reply) = tt

pub get_is_usual : (seat : Seat) (found : ℕ) (head : Option ℕ) → IsUsual (after_get seat found head).point
get_is_usual seat found None = tt
get_is_usual seat found (Some head) = tt

pub new_point_is_usual : (head : Option ℕ) → IsUsual (points.Access (new_point_of head))
new_point_is_usual None = tt
new_point_is_usual (Some head) = tt

pub polling_over_is_usual : (command : Command) (seat : Seat) → IsUsual (polling_over command seat).point
polling_over_is_usual command seat = over_cases (λ (s : Seat). IsUsual s.point) command seat tt tt

pub phase_load_is_usual : (seat : Seat) (found : ℕ) → IsUsual (after_phase_load seat found).point
phase_load_is_usual seat found = by (found == seat.answered)
  where
    by : (b : Bool) → IsUsual (if b then polling_over seat.command seat else answer_next (record seat { asked = found })).point
    by true = polling_over_is_usual seat.command seat
    by false = tt

pub store_point_is_usual : (stored : ℕ) (body : List ℕ) → IsUsual (points.Making (store_point stored body))
store_point_is_usual stored body = by (stored == 4 * length body)
  where
    by : (b : Bool) → IsUsual (points.Making (if b then Bearing else Storing))
    by true = tt
    by false = tt

-- to these two points lead the grant and the load
pub comes_from_grant : (heap : Heap) (seat : Seat) (found : ℕ) → ComesFrom (points.Making Granting) (after_budget heap seat found).point
comes_from_grant heap seat found =
    budget_cases (λ s. ComesFrom (points.Making Granting) s.point) heap seat found (λ many. refl) (λ few. comes_from_usual (points.Making Granting) (gather_next heap seat).point (gather_usual heap seat))

pub comes_from_old_load : (seat : Seat) (head : Option ℕ) → ComesFrom (points.Access LoadingOld) (after_old_load seat head).point
comes_from_old_load seat None = comes_from_usual (points.Access LoadingOld) (after_old seat).point (new_point_is_usual (register_head (register_in seat.registers (source_of seat.command))))
comes_from_old_load seat (Some head) = refl

-- the taking back comes with what was found at the grant
pub used_is_found_at_grant : (heap : Heap) (seat : Seat) (found : ℕ) → (after_budget heap seat found).point ≡ points.Making Withdrawing → (after_budget heap seat found).used ≡ found
used_is_found_at_grant heap seat found = budget_cases (λ s. s.point ≡ points.Making Withdrawing → s.used ≡ found) heap seat found (λ many is. refl) (λ few is. absurd (subst IsUsual is (gather_usual heap seat)))

-- it is the point of the shade
abbrev pub IsOld : Point → Type 0
IsOld (points.Access ShadingOld) = Unit {0}
IsOld _ = ⊥

usual_old : (point : Point) → IsUsual point → ¬ IsOld point
usual_old (points.Access ShadingOld) usual old = usual
usual_old _ usual old = old

start_usual : (seat : Seat) (held : Register) → IsUsual (access_start seat held).point
start_usual seat (registers.Object head id) = tt
start_usual seat registers.Nil = tt
start_usual seat (registers.Number n) = tt

-- no call begins at either point
pub begin_is_usual : (heap : Heap) (seat : Seat) (command : Command) → seat.point ≡ points.Idle → IsUsual (after_begin heap seat command).point
begin_is_usual heap seat (commands.New d fields) idle = gather_usual heap (record seat { command = commands.New d fields })
begin_is_usual heap seat (commands.Get d r i) idle = start_usual (record seat { command = commands.Get d r i }) (register_in seat.registers r)
begin_is_usual heap seat (commands.Set r i v) idle = start_usual (record seat { command = commands.Set r i v }) (register_in seat.registers r)
begin_is_usual heap seat (commands.Cas r i a v) idle = start_usual (record seat { command = commands.Cas r i a v }) (register_in seat.registers r)
begin_is_usual heap seat (commands.Len r) idle = start_usual (record seat { command = commands.Len r }) (register_in seat.registers r)
begin_is_usual heap seat commands.Collect idle = subst IsUsual (sym idle) tt
begin_is_usual heap seat _ idle = tt

pub begin_is_not_old : (heap : Heap) (seat : Seat) (command : Command) → seat.point ≡ points.Idle → ¬ IsOld (after_begin heap seat command).point
begin_is_not_old heap seat command idle = usual_old (after_begin heap seat command).point (begin_is_usual heap seat command idle)

pub inner_is_not_old : (inner : Inner) → ¬ IsOld (inner_point inner)
inner_is_not_old inners.Look old = old
inner_is_not_old inners.Answer old = old
inner_is_not_old (inners.Behind other) old = old
inner_is_not_old (inners.Note reply) old = old
