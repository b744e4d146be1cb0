-- What a seat holds is alive.
use Rattle.std.specs.Prelude.{IsSome}
use Rattle.std.proofs.Common.{◌≡◌, ℕ, ◌<◌, ◌⊎◌, inl, inr, Some, None, refl, sym, ap, ◌∙◌, subst, arith}
use Rattle.core_rule.proofs.Terms.{ShadingSide, Replacing, Heap, Node, register_value, Point, LoadingMeta, Walking, Indexing, Getting, LoadingOld, ShadingOld, ShadingNew, Swapping, State, seat_at}
use Rattle.core_rule.proofs.Terms.{FitsWay, register_in, Seat, head_of, tally, Book, fragment_at, object_number, object_head, Awaits, Holding, node_at, Rule, SeatStands, SetsOut}
use Rattle.core_rule.proofs.Terms.{Finds, Locates, LoadedKept, OldKept, WayStands}
use Rattle.core_machine.specs.declared.point.Point.TheVariants as points
use Rattle.core_machine.specs.declared.point.Access.{Access}
use Rattle.core_machine.specs.declared.point.Access.TheVariants.{LoadingSpot, Naming}
use Rattle.core_rule.specs.held.Held.{OwnsFragment, IsInRegister, AccessHolds, CallHolds, SeatHolds}
use Rattle.core_rule.proofs.entries.AtRest.{seat_fits}
use Rattle.core_rule.proofs.hand.Bodies.{body_is_own}
use Rattle.core_rule.proofs.held.Alive.{IsAlive, own_is_alive, kept_is_alive, head_is_alive}
use Rattle.core_rule.proofs.owners.Handed.{none_or_some}
use Rattle.core_rule.proofs.owners.OwnerLemmas.{own_bits_within_one}
use Rattle.core_rule.proofs.ways.KeptWords.{way_row_within_object}
use Rattle.core_rule.proofs.ways.LoadedObjects.{referred_is_kept_head, held_value_refers}
use Rattle.core_rule.proofs.graph.ToldGraph.{told_graph}

module _ (heap : Heap) (state : State) (book : Book) (rule : Rule heap state book) (number : ℕ) (here : number < heap.seats) where
  abbrev seat : Seat
  seat = seat_at state number

  abbrev nodes : ℕ → Node
  nodes = node_at (told_graph heap book) book.made

  stands : SeatStands heap state.words book number seat
  stands = rule.seats_stand number here

  abbrev AliveNow : ℕ → Type 0
  AliveNow f = IsAlive (book.owner f)

  -- what it has
  owned_alive : (f : ℕ) → OwnsFragment seat f → AliveNow f
  owned_alive f has =
      let holding : Holding book.owner number seat.reserve seat.hand seat.body = stands.own.holding in
      elim (none_or_some (tally f seat.body)) as (λ _. AliveNow f) [
        | inr some ↦ own_is_alive number (book.owner f) (body_is_own book.owner number seat.reserve seat.hand seat.body holding f some)
        | inl none ↦ own_is_alive number (book.owner f) (omega (arith, has, none, holding.held f, own_bits_within_one number (book.owner f)))
      ]

  -- what its registers hold
  register_alive : (f : ℕ) → IsInRegister seat f → AliveNow f
  register_alive f held =
      head_is_alive book.made book.owner book.fragments f
      (referred_is_kept_head book.made book.owner book.fragments (register_value (told_graph heap book) number held.register) f (held_value_refers book.made book.owner book.fragments (register_in seat.registers held.register) (register_value (told_graph heap book) number held.register) (stands.names.registers held.register held.counts) f held.holds))

  -- what its call has reached
  start_alive : SetsOut book.made book.owner book.fragments seat → AliveNow seat.reached
  start_alive start = kept_is_alive (book.owner seat.reached) start.index 0 (ap book.owner start.way.here ∙ start.way.kept)

  sentinel_alive : Locates nodes book.made book.owner book.fragments seat → AliveNow seat.reached
  sentinel_alive locates = kept_is_alive (book.owner seat.reached) locates.index 0 (ap book.owner locates.way.here ∙ locates.way.kept)

  reached_alive : Finds nodes book.made book.owner book.fragments seat → AliveNow seat.reached
  reached_alive finds =
      let heap_stands = rule.heap_stands in
      let ahead = way_row_within_object heap state.words (told_graph heap book) book.made book.owner book.fragments rule.machine.limits heap_stands.control_words heap_stands.ids heap_stands.objects seat finds in
      kept_is_alive (book.owner seat.reached) finds.index finds.row (ap book.owner finds.way.here ∙ (heap_stands.objects.kept finds.index finds.way.below finds.way.kept).owned finds.row (omega (arith, ahead)))

  -- and loaded
  loaded_alive : LoadedKept book.made book.owner book.fragments seat → (f : ℕ) → head_of seat.loaded ≡ Some f → AliveNow f
  loaded_alive loaded f is =
      let same : f ≡ fragment_at (book.fragments loaded.index) 0 = cc (is, loaded.loads) in
      kept_is_alive (book.owner f) loaded.index 0 (ap book.owner same ∙ loaded.kept)

  old_alive : OldKept book.made book.owner book.fragments seat → (f : ℕ) → head_of seat.loaded ≡ Some f → AliveNow f
  old_alive old f is = loaded_alive (old (subst (λ o. IsSome o) (sym is) refl)) f is

  nothing_loaded : seat.loaded ≡ 0 → (f : ℕ) → head_of seat.loaded ≡ Some f → AliveNow f
  nothing_loaded none f is = let nowhere : head_of seat.loaded ≡ None = rw none refl in absurd (cc (nowhere, is))

  named_alive : (f : ℕ) → Awaits (told_graph heap book) book.made book.owner book.fragments number seat (points.Access Naming) stands.told.list.awaited → head_of seat.loaded ≡ Some f → AliveNow f
  named_alive f awaits is =
      let same : f ≡ object_head book.made book.fragments awaits.id = cc (is, awaits.loads) in
      kept_is_alive (book.owner f) (object_number book.made awaits.id) 0 (ap book.owner same ∙ awaits.kept.1)

  either : (f : ℕ) → AliveNow seat.reached → ((x : ℕ) → head_of seat.loaded ≡ Some x → AliveNow x) → (f ≡ seat.reached) ⊎ (head_of seat.loaded ≡ Some f) → AliveNow f
  either f reached loaded (inl is) = rw is reached
  either f reached loaded (inr is) = loaded f is

  access_alive : (f : ℕ) (point : Access) → FitsWay seat (points.Access point) → WayStands nodes book.made book.owner book.fragments seat (points.Access point)
      → Awaits (told_graph heap book) book.made book.owner book.fragments number seat (points.Access point) stands.told.list.awaited → AccessHolds seat point f → AliveNow f
  access_alive f LoadingMeta fits way awaits holds = either f (start_alive way) (nothing_loaded fits.none_loaded) holds
  access_alive f Walking fits way awaits holds = either f (reached_alive way) (nothing_loaded fits.none_loaded) holds
  access_alive f LoadingSpot fits way awaits holds = either f (sentinel_alive way) (nothing_loaded fits.none_loaded) holds
  access_alive f Indexing fits way awaits holds = either f (sentinel_alive way) (nothing_loaded fits.none_loaded) holds
  access_alive f Getting fits way awaits holds = either f (reached_alive way) (nothing_loaded fits.1) holds
  access_alive f Naming fits way awaits holds = named_alive f awaits holds
  access_alive f LoadingOld fits way awaits holds = either f (reached_alive way) (nothing_loaded fits.2) holds
  access_alive f ShadingOld fits way awaits holds = either f (reached_alive way.0) (loaded_alive way.1) holds
  access_alive f ShadingNew fits way awaits holds = either f (reached_alive way.0) (old_alive way.1) holds
  access_alive f Swapping fits way awaits holds = either f (reached_alive way.0) (old_alive way.1) holds
  access_alive f (ShadingSide side) fits way awaits holds = either f (reached_alive way) (nothing_loaded fits.0.3) holds
  access_alive f Replacing fits way awaits holds = either f (reached_alive way) (nothing_loaded fits.3) holds

  call_alive : (f : ℕ) (point : Point) → FitsWay seat point → WayStands nodes book.made book.owner book.fragments seat point
      → Awaits (told_graph heap book) book.made book.owner book.fragments number seat point stands.told.list.awaited → CallHolds seat point f → AliveNow f
  call_alive f (points.Access point) fits way awaits holds = access_alive f point fits way awaits holds
  call_alive f _ fits way awaits holds = absurd holds

  -- so is all that it holds
  pub held_by_holder_is_alive : (f : ℕ) → SeatHolds seat f → AliveNow f
  held_by_holder_is_alive f (inl has) = owned_alive f has
  held_by_holder_is_alive f (inr (inl held)) = register_alive f held
  held_by_holder_is_alive f (inr (inr holds)) = call_alive f seat.point (seat_fits rule number here).way_at_point stands.names.way stands.told.list.awaits holds
