-- The roots of a call: what its way and its registers lead to.
use Rattle.std.proofs.Common.{◌≡◌, ℕ, ◌+◌, ◌<◌, true, false, List, length, Some, IfSome, refl, sym, ap, ◌∙◌, subst, arith}
use Rattle.core_rule.proofs.Terms.{Command, Heap, spine_words_of, Word, Register, access_start, IsRecordCall, IsServed, IsLocal, register_in, register_head, Seat, head_of, link_of}
use Rattle.core_rule.proofs.Terms.{is_meta, at, State, seat_at, call_start, Book, fragment_at, WhileAccess, IsKept, node_at, born_bit, IsReached, Rule, Finds}
use Rattle.heap_model.specs.declared.command.Command.TheVariants as commands
use Rattle.heap_model.specs.Command.{IsCommand}
use Rattle.core_machine.specs.declared.point.Access.{Access}
use Rattle.core_machine.specs.declared.point.Point.TheVariants as points
use Rattle.core_machine.specs.declared.seat.register.Register.TheVariants as registers
use Rattle.core_machine.specs.seat.Local.{local_registers}
use Rattle.core_rule.specs.roots.Roots.{IsInMarking, AtCall, OfRoots}
use Rattle.core_rule.proofs.colours.SourceCases.{leads_by_word}
use Rattle.core_rule.proofs.entries.AtRest.{seat_fits}
use Rattle.core_rule.proofs.marking.Marks.{IsOffWay, reached_leads_to_reached, roots_hold_off_way}
use Rattle.core_rule.proofs.roots.RegisterRoots.{OfHeads, heads_hold_after_put}
use Rattle.core_rule.proofs.ways.ArrayWords.{plain_pointer_is_head}
use Rattle.core_rule.proofs.ways.Chains.{chain_leads_to_next, spine_leads_to_payload}
use Rattle.core_rule.proofs.ways.KeptWords.{link_tells_next_row, way_row_within_object, linked_object_is_record, spine_word_tells_payload}
use Rattle.core_rule.proofs.objects.SpinePlaces.{array_spine_fits_spot}
use Rattle.core_rule.proofs.ways.LoadedObjects.{KeptHead}
use Rattle.core_rule.proofs.graph.ToldGraph.{told_graph}

module _ (P : ℕ → Type 0) where
  -- what holds of the roots of a call holds of what it has reached and loaded
  pub roots_hold_at_call : (seat : Seat) (point : Access) → seat.point ≡ points.Access point → OfRoots P seat → AtCall P seat point
  roots_hold_at_call seat point point_is roots = subst (WhileAccess (AtCall P seat)) point_is roots.call

  -- the call goes on with the registers that it had
  pub roots_hold_on_way : (seat next : Seat) (point : Access) → next.registers ≡ seat.registers → next.point ≡ points.Access point → AtCall P next point → OfRoots P seat → OfRoots P next
  roots_hold_on_way seat next point same point_is call roots = record { registers = rw same roots.registers; call = subst (WhileAccess (AtCall P next)) (sym point_is) call }

  -- it is over: its registers' objects are all its roots
  pub roots_hold_when_over : (next : Seat) → IsOffWay next.point → OfHeads P next.registers → OfRoots P next
  roots_hold_when_over next off heads = roots_hold_off_way P (record next { point = points.Idle }) next refl off record { registers = heads; call = tt }

  -- a call that looks at no word puts no other object into a register
  pub local_heads_hold : (held : List Register) → length held ≡ 16 → OfHeads P held → (command : Command) → IsCommand command → IsLocal held command → OfHeads P (local_registers held command)
  local_heads_hold held whole heads (commands.Num d n) ranges local = heads_hold_after_put P held d (registers.Number n) (omega (arith, whole, ranges.0.1)) tt heads
  local_heads_hold held whole heads (commands.Nil d) ranges local = heads_hold_after_put P held d registers.Nil (omega (arith, whole, ranges.1)) tt heads
  local_heads_hold held whole heads (commands.Copy d r) ranges local = heads_hold_after_put P held d (register_in held r) (omega (arith, whole, ranges.0.1)) (heads r) heads
  local_heads_hold held whole heads _ ranges local = heads

  -- a call that begins reaches its register's object
  start_roots : (seat : Seat) (held : Register) → OfHeads P seat.registers → IfSome (register_head held) P → OfRoots P (access_start seat held)
  start_roots seat registers.Nil heads first = record { registers = heads; call = tt }
  start_roots seat (registers.Number n) heads first = record { registers = heads; call = tt }
  start_roots seat (registers.Object head id) heads first = record { registers = heads; call = first }

  pub roots_hold_at_begin : (heap : Heap) (seat : Seat) (command : Command) → (IsRecordCall command → ⊥) → IsServed command → OfHeads P seat.registers → OfRoots P (call_start heap seat command)
  roots_hold_at_begin heap seat (commands.Get d r i) other served heads = start_roots seat (register_in seat.registers r) heads (heads r)
  roots_hold_at_begin heap seat (commands.Set r i v) other served heads = start_roots seat (register_in seat.registers r) heads (heads r)
  roots_hold_at_begin heap seat (commands.Cas r i a v) other served heads = start_roots seat (register_in seat.registers r) heads (heads r)
  roots_hold_at_begin heap seat (commands.Len r) other served heads = start_roots seat (register_in seat.registers r) heads (heads r)
  roots_hold_at_begin heap seat (commands.New d fields) other served heads = absurd (other tt)
  roots_hold_at_begin heap seat commands.Collect other served heads = absurd served
  roots_hold_at_begin heap seat _ other served heads = record { registers = heads; call = tt }

-- marking comes to the fragment
abbrev pub IsReachedNow : Heap → State → Book → ℕ → Type 0
IsReachedNow heap state book = IsReached heap state.words book.owner book.colour

module _ (heap : Heap) (state : State) (book : Book) (number : ℕ) (rule : Rule heap state book) (here : number < heap.seats) where
  abbrev seat : Seat
  seat = seat_at state number

  module _ (marks : IsInMarking state.collector) (comes : IsReachedNow heap state book seat.reached) where
    -- so it comes to the next fragment of the way
    pub link_is_reached : (links part : ℕ) → 0 < links → Finds (node_at (told_graph heap book) book.made) book.made book.owner book.fragments (record seat { links = links; part = part })
        → IsReachedNow heap state book (link_of (at heap state.words (Word seat.reached 0)))
    link_is_reached links part more finds =
        let stands = rule.heap_stands in
        let on : Seat = record seat { links = links; part = part } in
        let i : ℕ = finds.index in
        let k : ℕ = finds.row in
        let next : k + 1 < length (book.fragments i)
        = omega (arith, more, way_row_within_object heap state.words (told_graph heap book) book.made book.owner book.fragments rule.machine.limits stands.control_words stands.ids stands.objects on finds) in
        subst (IsReachedNow heap state book)
        (sym (link_tells_next_row heap state.words (told_graph heap book) book.made book.owner book.fragments rule.machine.limits stands.control_words stands.ids stands.objects on finds more))
        (reached_leads_to_reached heap state book rule marks (fragment_at (book.fragments i) k) 0 (fragment_at (book.fragments i) (k + 1))
        (ap born_bit ((stands.objects.kept i finds.way.below finds.way.kept).owned (k + 1) next)) (subst (IsReachedNow heap state book) finds.way.here comes)
        (chain_leads_to_next heap state.words (told_graph heap book) book.made book.owner book.fragments rule.machine.limits stands.control_words stands.ids stands.owners stands.objects i finds.way.below finds.way.kept
        (linked_object_is_record heap state.words (told_graph heap book) book.made book.owner book.fragments rule.machine.limits stands.control_words stands.ids stands.objects on finds more) k next))

    -- to the fragment of an array that a word of its spine names
    pub payload_is_reached : (i j : ℕ) → i < length book.made → IsKept book.owner book.fragments i → seat.reached ≡ fragment_at (book.fragments i) 0 → (node_at (told_graph heap book) book.made i).array ≡ true
        → j < spine_words_of (node_at (told_graph heap book) book.made i) → IsReachedNow heap state book (fragment_at (book.fragments i) (j + 1))
    payload_is_reached i j below kept at_first kind within =
        let stands = rule.heap_stands in
        let payload = spine_word_tells_payload heap state.words (told_graph heap book) book.made book.owner book.fragments rule.machine.limits stands.control_words stands.ids stands.objects i below kept j within in
        reached_leads_to_reached heap state book rule marks (fragment_at (book.fragments i) 0) (4 + j) (fragment_at (book.fragments i) (j + 1))
        (ap born_bit ((stands.objects.kept i below kept).owned (j + 1) payload.0)) (subst (IsReachedNow heap state book) at_first comes)
        (spine_leads_to_payload heap state.words (told_graph heap book) book.made book.owner book.fragments rule.machine.limits stands.control_words stands.ids stands.owners stands.objects i below kept kind (array_spine_fits_spot rule i below kept kind) j within)

    -- and to the object that the call's field refers to
    pub field_target_is_reached : seat.part < 4 → is_meta (at heap state.words (Word seat.reached seat.part)) ≡ false → (f : ℕ) → KeptHead book.made book.owner book.fragments f
        → head_of (at heap state.words (Word seat.reached seat.part)) ≡ Some f → IsReachedNow heap state book f
    field_target_is_reached below plain f head leads =
        reached_leads_to_reached heap state book rule marks seat.reached seat.part f (ap born_bit (ap book.owner head.is ∙ head.kept)) comes
        (leads_by_word heap state.words seat.reached seat.part f (seat_fits rule number here).way.reached_within below (plain_pointer_is_head seat.part (at heap state.words (Word seat.reached seat.part)) plain ∙ leads))
