-- How a set with the barrier on goes on, up to its swap.
use Rattle.std.proofs.Common.{◌≡◌, ℕ, ◌<◌, true, [], filter, Option, Some, None, refl, sym, subst, arith, ◌/◌, slice_set}
use Rattle.std.proofs.lemmas.List.{append-nil}
use Rattle.core_rule.proofs.Terms.{Heap, is_of, register_value, phase, last_answer, has_left, Word, ShadingNew, Swapping, target_of, State, seat_at, has_barrier_of, new_point_of}
use Rattle.core_rule.proofs.Terms.{register_in, Seat, IsMachine, Book, Colour, WordPointsTo, IsBetween, Awaits, FieldStands, ShadedStands, IsAnswered, node_at, IsAwaited}
use Rattle.core_rule.proofs.Terms.{HoldsValue, Rule, AccessStands}
use Rattle.core_machine.specs.declared.point.Point.TheVariants as points
use Rattle.core_machine.specs.declared.point.Access.{Access}
use Rattle.core_rule.specs.roots.Roots.{IsInMarking, AtCall, OfRoots}
use Rattle.core_rule.proofs.frames.SeatFrames.{AddressAt}
use Rattle.core_rule.proofs.steps.Assemble.{Keeps}
use Rattle.core_rule.proofs.ways.AtObject.{answer_is_near_phase}
use Rattle.core_rule.proofs.cycle.Barriers.{barrier_is_between, barrier_is_not_resting}
use Rattle.core_rule.proofs.cycle.CycleFrames.{seat_in_cycle_by_flight}
use Rattle.core_rule.proofs.entries.InFlight.{began_without_entry}
use Rattle.core_rule.proofs.colours.Births.{born_colours_stay}
use Rattle.core_rule.proofs.colours.LeadsFrames.{led_before_control_write}
use Rattle.core_rule.proofs.book.BookGoing.{IsNamed}
use Rattle.core_rule.proofs.ways.LoadedObjects.{KeptHead}
use Rattle.core_rule.proofs.roots.CallRoots.{IsReachedNow, roots_hold_on_way}
use Rattle.core_rule.proofs.steps.Loads.{went, loaded_state, keeps_rule_by_silent_load}
use Rattle.core_rule.proofs.entries.SeatLists.{own_list_after_entry}
use Rattle.core_rule.proofs.colours.ShadeColours.{with_mark}
use Rattle.core_rule.proofs.steps.ShadeStep.{shading, words_shaded, keeps_rule_by_shade, shaded_within_heap, answer_same_after_shade, borne_colour_same_after_shade}
use Rattle.core_rule.proofs.graph.SeenStamps.{stamps_stay, busy_is_unnamed, awaits_none_is_unnamed}
use Rattle.core_rule.proofs.graph.ToldGraph.{told_graph}

-- where the new value goes next
pub new_point_cases : (P : Access → Type 0) (head : Option ℕ) → (head ≡ None → P Swapping) → ((f : ℕ) → head ≡ Some f → P ShadingNew) → P (new_point_of head)
new_point_cases P None swaps shades = swaps refl
new_point_cases P (Some f) swaps shades = shades f refl

module _ (heap : Heap) (state : State) (book : Book) (number : ℕ) (rule : Rule heap state book) (here : number < heap.seats)
    (from : Access) (point : (seat_at state number).point ≡ points.Access from)
    (unanswered : ¬ IsAnswered (points.Access from)) (unnamed : (d r : ℕ) → ¬ IsAwaited (points.Access from) d r) where
  abbrev seat : Seat
  seat = seat_at state number

  abbrev p : ℕ
  p = phase book.history

  busy : ¬ IsAnswered seat.point
  busy last_answer = unanswered (subst IsAnswered point last_answer)

  awake : (d r : ℕ) → ¬ IsAwaited seat.point d r
  awake d r awaited = unnamed d r (subst (λ x. IsAwaited x d r) point awaited)

  pub registers_hold_values : (r : ℕ) → HoldsValue book.made book.owner book.fragments (register_in seat.registers r) (register_value (told_graph heap book) number r)
  registers_hold_values r = (rule.seats_stand number here).names.registers r (awake (target_of seat.command) r)

  -- what marking comes to when it comes to the roots that the seat had
  abbrev CallGoesOn : Seat → Access → Type 0
  CallGoesOn next to = IsInMarking state.collector → OfRoots (IsReachedNow heap state book) seat → AtCall (IsReachedNow heap state book) next to

  -- what a call has at a point other than a name's
  abbrev Unnamed : Access → Type 0
  Unnamed next = (seat_now : Seat) → Awaits (told_graph heap book) book.made book.owner book.fragments number seat_now (points.Access next) []

  -- a load that leads on
  pub keeps_rule_by_leading_load : (loaded : ℕ) (next : Access) → Unnamed next
      → AddressAt heap state.words book (went seat seat.registers seat.seen seat.reached seat.links seat.part seat.address loaded (points.Access next) seat.looks []) (points.Access next)
      → AccessStands (node_at (told_graph heap book) book.made) book.made book.owner book.fragments (went seat seat.registers seat.seen seat.reached seat.links seat.part seat.address loaded (points.Access next) seat.looks []) next
      → (IsBetween 2 5 p → FieldStands heap state.words book.colour (went seat seat.registers seat.seen seat.reached seat.links seat.part seat.address loaded (points.Access next) seat.looks []) next)
      → ShadedStands book.colour (went seat seat.registers seat.seen seat.reached seat.links seat.part seat.address loaded (points.Access next) seat.looks []) next
      → CallGoesOn (went seat seat.registers seat.seen seat.reached seat.links seat.part seat.address loaded (points.Access next) seat.looks []) next
      → IsMachine heap (loaded_state heap state number (Word seat.reached seat.part) (went seat seat.registers seat.seen seat.reached seat.links seat.part seat.address loaded (points.Access next) seat.looks []))
      → Keeps heap state (loaded_state heap state number (Word seat.reached seat.part) (went seat seat.registers seat.seen seat.reached seat.links seat.part seat.address loaded (points.Access next) seat.looks [])) book book.begun []
  keeps_rule_by_leading_load loaded next names address way field shaded comes machine =
      let stands = rule.seats_stand number here in
      let new : Seat = went seat seat.registers seat.seen seat.reached seat.links seat.part seat.address loaded (points.Access next) seat.looks [] in
      keeps_rule_by_silent_load heap state book number rule here (Word seat.reached seat.part) seat.registers seat.seen seat.reached seat.links seat.part seat.address loaded (points.Access next) seat.looks [] machine (rw point tt) tt
      (stamps_stay seat new (points.Access from) (points.Access next) point refl (busy_is_unnamed (points.Access from) unanswered)
      (awaits_none_is_unnamed (told_graph heap book) book.made book.owner book.fragments number new (points.Access next) (names new)) refl)
      (λ r unawaited. registers_hold_values r)
      (own_list_after_entry (told_graph heap book) book.made book.owner book.fragments number seat book.history busy stands.told.list (told_graph heap book) book.history new [] [] [] refl refl (sym (append-nil (filter (is_of number) book.history))) (names new))
      way address
      (began_without_entry book.history number (book.begun number) seat.point (points.Access next) busy stands.told.began)
      (seat_in_cycle_by_flight heap state.words state.words book.owner book.owner book.colour book.colour p (last_answer number book.history) (has_left number book.history) number seat new
      record { answered = refl; left = refl; asked = refl } refl tt
      record { set = λ making snapped. field making; shaded = λ making. shaded; roots = λ begins. tt }
      stands.cycle.births stands.cycle)
      (λ marks roots. roots_hold_on_way (IsReachedNow heap state book) seat new next refl refl (comes marks roots) roots)

  module _ (f : ℕ) (head : KeptHead book.made book.owner book.fragments f) (on : has_barrier_of seat ≡ true) where
    abbrev coloured : ℕ → Colour
    coloured = with_mark book.colour f

    abbrev shaded_state : Seat → State
    shaded_state next = record state { words = words_shaded heap state book number rule here f head.index head.kept head.is; seats = slice_set state.seats number next }

    -- what the field leads to is as before
    pub field_leads_as_before : (x : ℕ) → WordPointsTo heap (words_shaded heap state book number rule here f head.index head.kept head.is) seat.reached seat.part x
        → WordPointsTo heap state.words seat.reached seat.part x
    field_leads_as_before x leads = led_before_control_write heap state.words (f / 16) _ (omega (arith, shaded_within_heap heap state book number rule here f head.index head.kept head.is)) _ _ x leads

    -- a shade that leads on
    pub keeps_rule_by_leading_shade : (next : Access) → Unnamed next → AddressAt heap state.words book (shading seat seat.shaded (points.Access next)) (points.Access next)
        → AccessStands (node_at (told_graph heap book) book.made) book.made book.owner book.fragments (shading seat seat.shaded (points.Access next)) next
        → (IsBetween 2 5 p → IsBetween 2 5 seat.answered → FieldStands heap (words_shaded heap state book number rule here f head.index head.kept head.is) coloured (shading seat seat.shaded (points.Access next)) next)
        → (IsBetween 1 5 p → ShadedStands coloured (shading seat seat.shaded (points.Access next)) next)
        → (IsInMarking state.collector → seat.answered ≡ state.collector.phase → IsReachedNow heap state book f)
        → CallGoesOn (shading seat seat.shaded (points.Access next)) next
        → IsNamed heap state book f
        → IsMachine heap (shaded_state (shading seat seat.shaded (points.Access next)))
        → Keeps heap state (shaded_state (shading seat seat.shaded (points.Access next))) book book.begun []
    keeps_rule_by_leading_shade next names address way field shaded marked comes named machine =
        let stands = rule.seats_stand number here in
        let new : Seat = shading seat seat.shaded (points.Access next) in
        keeps_rule_by_shade heap state book number rule here f head.index head.kept head.is seat.shaded (points.Access next) (barrier_is_not_resting p seat.answered (answer_is_near_phase heap state book number rule here from point) (barrier_is_between seat on)) machine
        (λ r unawaited. registers_hold_values r)
        (own_list_after_entry (told_graph heap book) book.made book.owner book.fragments number seat book.history busy stands.told.list (told_graph heap book) book.history new [] [] [] refl refl (sym (append-nil (filter (is_of number) book.history))) (names new))
        way (rw point tt) tt (awaits_none_is_unnamed (told_graph heap book) book.made book.owner book.fragments number new (points.Access next) (names new)) address busy
        (seat_in_cycle_by_flight heap state.words (words_shaded heap state book number rule here f head.index head.kept head.is) book.owner book.owner book.colour coloured p
        (last_answer number book.history) (has_left number book.history) number seat new
        record { answered = refl; left = refl; asked = refl } (answer_same_after_shade heap state book number rule here f head.index head.kept head.is number here) tt
        record { set = field; shaded = shaded; roots = λ begins. tt }
        (born_colours_stay book.owner book.owner book.colour coloured number seat.answered (λ x borne. (borne, borne_colour_same_after_shade heap state book number rule here f head.index head.kept head.is number x borne)) stands.cycle.births) stands.cycle)
        marked (λ marks roots. roots_hold_on_way (IsReachedNow heap state book) seat new next refl refl (comes marks roots) roots)
        (λ last. omega (arith, (barrier_is_between seat on).upto, last)) named
