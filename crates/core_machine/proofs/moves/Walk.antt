-- The way to a field.
use Rattle.std.proofs.Common.{◌≡◌, ℕ, ◌+◌, ◌-◌, ◌*◌, ◌<◌, ◌≤◌, [], inl, inr, refl, arith, List, subst, sym, Option, Some, None, ◌⊎◌}
use Rattle.std.proofs.lemmas.Bool.Decides.{eqb_tells}
use Rattle.std.specs.Prelude.{unwrap_or}
use Rattle.core_machine.proofs.Terms.{Command, Get, Set, Cas, Entry, Heap, Walking, found_by, entries_awaited_at, entries_awaited, field_of, Fits, FitsAccess, IsAtField, IsGet, IsSet, IsCas}
use Rattle.core_machine.proofs.Terms.{NamesField, WorksOnObject, after_walk, at_access, row_of, has_barrier_of, field_point_of, way_point_of, after_link, Seat, with_entries}
use Rattle.core_machine.proofs.Terms.{pointer_in, link_of, IsWithinHeap, access_steps, Nears}
use Rattle.core_machine.specs.declared.point.Point.TheVariants as points
use Rattle.core_machine.specs.seat.AccessMoves.{walk_move}
use Rattle.core_machine.proofs.call_lemmas.Awaits.{adds_where_none_awaited, after_words}
use Rattle.core_machine.proofs.moves.Standing.{PointStands, access_point_rests}
use Rattle.core_machine.proofs.seat_lemmas.FieldPoints.{field_point_cases, guard_point_cases}
use Rattle.core_machine.proofs.seat_lemmas.FittingAccess.{Rests, fits_at_access}
use Rattle.core_machine.proofs.table_lemmas.Bits.{true_or_false}
use Rattle.core_machine.proofs.table_lemmas.StepStands.{load_step_stands}

-- a link that leads within the heap, or to fragment 0 where there is none
unwrap_within : (heap : Heap) (fragment : Option ℕ) → 0 < heap.groups → IsWithinHeap heap fragment → unwrap_or fragment 0 < 16 * heap.groups
unwrap_within heap None some led = omega arith
unwrap_within heap (Some f) some led = led

-- the field was reached
pub field_point_fits : (seat : Seat) (command : Command) → seat.command ≡ command → WorksOnObject seat → NamesField command → IsAtField seat.links seat.part → seat.loaded ≡ 0
    → FitsAccess seat (field_point_of seat command)
field_point_fits seat (Get d r i) is works names there empty = ((works, subst IsGet (sym is) tt, there), empty)
field_point_fits seat (Set r i v) is works names there empty =
    elim (true_or_false (has_barrier_of seat)) as (λ _. FitsAccess seat (field_point_of seat (Set r i v))) [
      | inl on ↦ rw on ((works, subst IsSet (sym is) tt, there), on, empty)
      | inr off ↦ rw off ((works, subst IsSet (sym is) tt, there), λ e. empty)
    ]
field_point_fits seat (Cas r i a v) is works names there empty =
    elim (true_or_false (has_barrier_of seat)) as (λ _. FitsAccess seat (field_point_of seat (Cas r i a v))) [
      | inl on ↦ rw on (guard_point_cases (FitsAccess seat) seat (λ some. ((works, subst IsCas (sym is) tt, there, empty), on, some))
          (λ none some. ((works, subst IsCas (sym is) tt, there, empty), on, some)) (λ none neither. (works, subst IsCas (sym is) tt, there, empty)))
      | inr off ↦ rw off (works, subst IsCas (sym is) tt, there, empty)
    ]
field_point_fits seat _ is works names there empty = absurd names

-- the way stands at a fragment
way_fits : (heap : Heap) (seat : Seat) (reached links part : ℕ) → Rests heap seat → WorksOnObject seat → NamesField seat.command → seat.loaded ≡ 0
    → reached < 16 * heap.groups → links < row_of (field_of seat.command) ⊎ (links ≡ 0) → part < 4
    → Fits heap (at_access (record seat { reached = reached; links = links; part = part }) (way_point_of (record seat { reached = reached; links = links; part = part })))
way_fits heap seat reached links part rests works names empty within fewer field =
    elim (eqb_tells links 0) as (λ _. Fits heap (at_access (record seat { reached = reached; links = links; part = part }) (way_point_of (record seat { reached = reached; links = links; part = part })))) [
      | inl none ↦ rw none.0 (fits_at_access heap seat reached links part seat.loaded (field_point_of seat seat.command) rests within rests.fits.way.loaded_within
          (field_fits_there none.1))
      | inr some ↦ rw some.0 (fits_at_access heap seat reached links part seat.loaded Walking rests within rests.fits.way.loaded_within
          (record { works = works; names = names; more = omega (arith, some.1); some_done = less some.1 fewer; part_within = field; none_loaded = empty }))
    ]
  where
    field_fits_there : links ≡ 0 → FitsAccess (record seat { reached = reached; links = links; part = part; point = points.Access (field_point_of seat seat.command) }) (field_point_of seat seat.command)
    field_fits_there none =
        field_point_fits (record seat { reached = reached; links = links; part = part; point = points.Access (field_point_of seat seat.command) }) seat.command refl works names (record { arrived = none; part_within = field }) empty

    less : (links ≡ 0 → ⊥) → links < row_of (field_of seat.command) ⊎ (links ≡ 0) → links < row_of (field_of seat.command)
    less some (inl l) = l
    less some (inr none) = absurd (some none)

-- the way went on by a link that leads within the heap
pub fits_onward : (heap : Heap) (seat : Seat) (links part found : ℕ) → Rests heap seat → WorksOnObject seat → NamesField seat.command → seat.loaded ≡ 0
    → links ≤ row_of (field_of seat.command) → part < 4 → IsWithinHeap heap (pointer_in 0 found) → Fits heap (after_walk (record seat { links = links; part = part }) found)
fits_onward heap seat links part found rests works names empty fewer field led =
    elim (eqb_tells links 0) as (λ _. Fits heap (after_walk (record seat { links = links; part = part }) found)) [
      | inl none ↦ let fit = way_fits heap seat seat.reached links part rests works names empty rests.fits.way.reached_within (inr none.1) field in rw none.0 (rw none.0 at fit)
      | inr some ↦ rw some.0 (way_fits heap seat (link_of found) (links - 1) part rests works names empty
          (unwrap_within heap (pointer_in 0 found) (omega (arith, rests.fits.own.cursor_within)) led) (inl (omega (arith, some.1, fewer))) field)
    ]

-- few steps are left where the field was reached
pub field_has_few_steps : (rows links : ℕ) (seat : Seat) (command : Command) → access_steps rows links (field_point_of seat command) ≤ 4
field_has_few_steps rows links seat command = field_point_cases (λ p. access_steps rows links p ≤ 4) seat command (omega arith) (λ on. omega arith) (λ off. omega arith)
    (λ on some. omega arith) (λ on none some. omega arith) (λ none. omega arith)

way_few : (rows : ℕ) (seat : Seat) → access_steps rows seat.links (way_point_of seat) ≤ seat.links + 4
way_few rows seat =
    elim (eqb_tells seat.links 0) as (λ _. access_steps rows seat.links (way_point_of seat) ≤ seat.links + 4) [
      | inl none ↦ rw none.0 (let few = field_has_few_steps rows seat.links seat seat.command in omega arith)
      | inr some ↦ rw some.0 (omega arith)
    ]

-- the way went on
pub nears_onward : (heap : Heap) (seat : Seat) (found steps : ℕ) → seat.links + 4 < steps ⊎ ((0 < seat.links) × (seat.links + 4 ≡ steps))
    → Nears heap (with_entries (after_walk seat found) []) 1 steps 0
nears_onward heap seat found steps more =
    elim (eqb_tells seat.links 0) as (λ _. Nears heap (with_entries (after_walk seat found) []) 1 steps 0) [
      | inl none ↦ let near : Nears heap (with_entries (at_access seat (way_point_of seat)) []) 1 steps 0 = record { fewer = none_more none.1 (way_few rows seat) more; paid = omega arith } in rw none.0 (rw none.0 at near)
      | inr some ↦ rw some.0 (let few = way_few rows (after_link seat found) in record { fewer = some_more some.1 few more; paid = omega arith })
    ]
  where
    rows : ℕ
    rows = row_of (field_of seat.command)

    none_more : seat.links ≡ 0 → access_steps rows seat.links (way_point_of seat) ≤ seat.links + 4 → seat.links + 4 < steps ⊎ ((0 < seat.links) × (seat.links + 4 ≡ steps))
        → access_steps rows seat.links (way_point_of seat) < steps
    none_more none few (inl l) = omega arith
    none_more none few (inr e) = absurd (omega (arith, e.0))

    some_more : (seat.links ≡ 0 → ⊥) → access_steps rows (seat.links - 1) (way_point_of (after_link seat found)) ≤ (seat.links - 1) + 4 → seat.links + 4 < steps ⊎ ((0 < seat.links) × (seat.links + 4 ≡ steps))
        → access_steps rows (seat.links - 1) (way_point_of (after_link seat found)) < steps
    some_more some few (inl l) = omega (arith, some)
    some_more some few (inr e) = omega (arith, some, e.0, e.1)

-- no way awaits a name
pub field_awaits_none : (heap : Heap) (words : List ℕ) (number : ℕ) (seat s : Seat) (command : Command) → entries_awaited_at heap words number s (points.Access (field_point_of seat command)) ≡ []
field_awaits_none heap words number seat s command = field_point_cases (λ p. entries_awaited_at heap words number s (points.Access p) ≡ []) seat command refl (λ on. refl) (λ off. refl) (λ on some. refl) (λ on none some. refl) (λ none. refl)

way_awaits : (heap : Heap) (words : List ℕ) (number : ℕ) (seat s : Seat) → entries_awaited_at heap words number s (points.Access (way_point_of seat)) ≡ []
way_awaits heap words number seat s =
    elim (eqb_tells seat.links 0) as (λ _. entries_awaited_at heap words number s (points.Access (way_point_of seat)) ≡ []) [ inl none ↦ rw none.0 (field_awaits_none heap words number seat s seat.command) | inr some ↦ rw some.0 refl ]

pub onward_awaits_none : (heap : Heap) (words : List ℕ) (number : ℕ) (seat : Seat) (found : ℕ) (more : List Entry) → entries_awaited heap words number (with_entries (after_walk seat found) more) ≡ []
onward_awaits_none heap words number seat found more =
    elim (eqb_tells seat.links 0) as (λ _. entries_awaited heap words number (with_entries (after_walk seat found) more) ≡ []) [
      | inl none ↦ let way = way_awaits heap words number seat (with_entries (at_access seat (way_point_of seat)) more) in rw none.0 (rw none.0 at way)
      | inr some ↦ rw some.0 (way_awaits heap words number (after_link seat found) (with_entries (at_access (after_link seat found) (way_point_of (after_link seat found))) more))
    ]

pub onward_keeps_list : (seat : Seat) (found : ℕ) → (after_walk seat found).mine ≡ seat.mine
onward_keeps_list seat found = elim (eqb_tells seat.links 0) as (λ _. (after_walk seat found).mine ≡ seat.mine) [ inl none ↦ rw none.0 refl | inr some ↦ rw some.0 refl ]

-- a link is loaded
pub point_stands_at_walking : PointStands (points.Access Walking)
point_stands_at_walking heap number seat here =
    let move = walk_move seat in
    record {
      step = load_step_stands heap move.step refl (here.fits.way.reached_within, omega arith);
      fits = λ found small led. fits_onward heap seat seat.links seat.part found (access_point_rests heap number seat Walking here) here.way.works here.way.names here.way.none_loaded (omega (arith, here.way.some_done)) here.way.part_within led;
      near = λ found. nears_onward heap seat found (seat.links + 4) (inr (here.way.more, refl));
      adds = λ now. let found = found_by heap now move.step in
          adds_where_none_awaited heap now number seat move (onward_keeps_list seat found) (rw here.point_is refl) (onward_awaits_none heap (after_words heap now number seat move) number seat found []) refl;
    }
