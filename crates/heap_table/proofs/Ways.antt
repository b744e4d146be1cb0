-- The way of a call to its field: which step is due after which, and where each leads.
use Rattle.std.proofs.Common.{◌≡◌, ℕ, ◌+◌, ◌-◌, ◌*◌, ◌/◌, ◌%◌, ◌<◌, ◌≤◌, ◌==◌, ◌^◌, true, false, cond, nat_lt, List, [], ◌∷◌, ◌++◌, Option, Some, None, refl, ap, subst, ◌∙◌, append-nil, arith}
use Rattle.std.specs.Prelude.{IfSome}
use Rattle.std.specs.Option.{is_some}
use Rattle.std.proofs.lemmas.Bool.Decides.{nat_tests}
use Rattle.atomic_table.specs.Seated.{TableId}
use Rattle.atomic_table.specs.Table.{Me}
use Rattle.heap_model.specs.Heap.{IsHeap}
use Rattle.heap_model.specs.Limits.{group_fragments}
use Rattle.heap_model.specs.declared.command.Command.{Command}
use Rattle.heap_model.specs.declared.command.Command.TheVariants as commands
use Rattle.heap_model.specs.declared.entry.Entry.{Entry}
use Rattle.heap_model.specs.declared.heap.Heap.{Heap}
use Rattle.heap_model.specs.declared.reply.Reply.{Reply}
use Rattle.heap_model.specs.declared.reply.Reply.TheVariants.{NoField}
use Rattle.heap_words.specs.declared.spot.Spot.{Spot}
use Rattle.heap_words.specs.Loaded.{array_length_of, length_of, link_of, payload_in, pointer_in}
use Rattle.heap_words.specs.Spot.{spot_in}
use Rattle.core_machine.specs.declared.point.Access.{Access as AccessPoint}
use Rattle.core_machine.specs.declared.point.Access.TheVariants.{Indexing, Walking}
use Rattle.core_machine.specs.declared.step.AccessStep.TheVariants.{WalkLoad}
use Rattle.core_machine.specs.declared.step.SpineStep.TheVariants.{AddressLoad, WordLoad}
use Rattle.core_machine.specs.declared.step.Step.{Step}
use Rattle.core_machine.specs.declared.step.Step.TheVariants.{Access, Spine}
use Rattle.core_machine.specs.Moves.{due_step}
use Rattle.core_machine.specs.machine.Machine.{after_begin}
use Rattle.core_machine.specs.seat.Access.{after_length, after_meta, after_walk, at_access, field_point_of, meta_reply_of, part_of, row_of}
use Rattle.core_machine.specs.seat.AccessMoves.{reply_entries_if}
use Rattle.core_machine.specs.seat.Commands.{field_of}
use Rattle.core_machine.specs.seat.Seat.{Seat, with_entries}
use Rattle.core_machine.specs.table.Decode.{IsWithinHeap}
use Rattle.core_machine.proofs.seat_lemmas.StepNeeds.{within_heap_is_small}
use Rattle.heap_table.specs.Ahead.{seat_in, Leads, at_head, at_sentinel, on_way, BeginsAt}
use Rattle.heap_table.specs.Begun.{next_seat}
use Rattle.heap_table.specs.SeatHeld.{KeepsSeat}
use Rattle.heap_table.specs.Told.{ToldAtStep}
use Rattle.heap_table.specs.declared.view.View.{View}
use Rattle.heap_table.proofs.MadeSteps.{leads_append}

-- no step leads to the same seat
pub leads_nowhere : (heap : Heap) (number : ℕ) (old new : Seat) → new ≡ old → Leads heap number old new
leads_nowhere heap number old new same = ([], same)

-- the due step leads to the seat after it
pub step_leads : (heap : Heap) (number : ℕ) (old new : Seat) (step : Step) (found : ℕ) → due_step heap number old ≡ Some step → ToldAtStep heap number old found → new ≡ next_seat heap number old found
    → Leads heap number old new
step_leads heap number old new step found due told is = (record { step = step; found = found } ∷ [], (due, told, is))

-- and what leads on leads there
pub leads_join : (heap : Heap) (number : ℕ) (old between new : Seat) → Leads heap number old between → Leads heap number between new → Leads heap number old new
leads_join heap number old between new first then = (first.0 ++ then.0, leads_append heap number old between new first.0 then.0 first.1 then.1)

-- a step that adds no entries leaves the seat that it tells of
pub nothing_added : (seat : Seat) → with_entries seat [] ≡ seat
nothing_added seat = ap (λ (mine : List Entry). record seat { mine = mine }) (append-nil seat.mine)

-- what isn't some is none
pub none_where_not_some : (o : Option ℕ) → is_some o ≡ false → o ≡ None
none_where_not_some None not = refl
none_where_not_some (Some n) not = cc

-- a fragment of the heap fits sixteen bits
fragment_is_small : (heap : Heap) (fragment : ℕ) → IsHeap heap → fragment < group_fragments * heap.groups → fragment < 2 ^ 16
fragment_is_small heap fragment limits within = omega arith

-- what is some isn't none
positive_is_not_zero : (n : ℕ) → 0 < n → (n == 0) ≡ false
positive_is_not_zero n some = grind (arith, nat_tests)

-- what is done at a field doesn't depend on where the seat stands
same_field_point : (seat here : Seat) (command : Command) → here.answered ≡ seat.answered → here.registers ≡ seat.registers → here.command ≡ seat.command → field_point_of here command ≡ field_point_of seat command
same_field_point seat here (commands.New d fields) answered registers is = refl
same_field_point seat here (commands.Array d cells) answered registers is = refl
same_field_point seat here (commands.Get d r i) answered registers is = refl
same_field_point seat here (commands.Set r i v) answered registers is = rw answered refl
same_field_point seat here (commands.Cas r i a v) answered registers is = rw (answered, registers, is) refl
same_field_point seat here (commands.Num d n) answered registers is = refl
same_field_point seat here (commands.Nil d) answered registers is = refl
same_field_point seat here (commands.Copy d r) answered registers is = refl
same_field_point seat here (commands.Same a b) answered registers is = refl
same_field_point seat here (commands.Len r) answered registers is = refl
same_field_point seat here commands.Poll answered registers is = refl
same_field_point seat here commands.Collect answered registers is = refl
same_field_point seat here commands.Leave answered registers is = refl

module _ (heap : Heap) (number : ℕ) (seat : Seat) (command : Command) where
  abbrev field_point : AccessPoint
  field_point = field_point_of (record seat { command = command }) command

  -- where links are left
  module _ (fragment left part : ℕ) (address : Spot) (more : 0 < left) (mid : Seat) (at : mid ≡ on_way seat command fragment left part address) where
    abbrev here : Seat
    here = at_access (record seat { command = command; reached = fragment; links = left; part = part; address = address }) Walking

    more_left : (left == 0) ≡ false
    more_left = positive_is_not_zero left more

    at_link : mid ≡ here
    at_link = at ∙ ap (λ b. at_access (record seat { command = command; reached = fragment; links = left; part = part; address = address }) (cond b field_point Walking)) more_left

    -- the load of the next is due
    pub link_is_due : due_step heap number mid ≡ Some (Access (WalkLoad fragment))
    link_is_due = ap (due_step heap number) at_link

    -- which finds a fragment of the heap
    pub link_is_small : (found : ℕ) → IsHeap heap → ToldAtStep heap number mid found → IfSome (pointer_in 0 found) (λ f. f < 2 ^ 16)
    link_is_small found limits told = within_heap_is_small heap (pointer_in 0 found) limits (subst (λ (s : Seat). ToldAtStep heap number s found) at_link told).leads

    -- and leads there
    pub link_leads_on : (found : ℕ) → next_seat heap number mid found ≡ on_way seat command (link_of found) (left - 1) part address
    link_leads_on found =
        let there : Seat = record here { reached = link_of found; links = left - 1 } in
        ap (λ (s : Seat). next_seat heap number s found) at_link
        ∙ ap (λ b. with_entries (cond b (at_access here (cond b (field_point_of here command) Walking)) (at_access there (cond (left - 1 == 0) (field_point_of there command) Walking))) []) more_left
        ∙ nothing_added (at_access there (cond (left - 1 == 0) (field_point_of there command) Walking))
        ∙ ap (λ (p : AccessPoint). at_access there (cond (left - 1 == 0) p Walking)) (same_field_point (record seat { command = command }) there command refl refl refl)

  -- at the meta of an array
  module _ (head : ℕ) (first : Seat) (at : first ≡ at_sentinel seat command head) where
    -- the load of the place of its spine is due
    pub address_is_due : due_step heap number first ≡ Some (Spine (AddressLoad head))
    address_is_due = ap (due_step heap number) at

    module _ (word : ℕ) (second : Seat) (leads : second ≡ next_seat heap number first word) where
      abbrev at_index : Seat
      at_index = at_access (record (at_sentinel seat command head) { address = spot_in word }) Indexing

      indexing : second ≡ at_index
      indexing = leads ∙ ap (λ (s : Seat). next_seat heap number s word) at ∙ nothing_added at_index

      -- then that of the spine word
      pub index_is_due : due_step heap number second ≡ Some (Spine (WordLoad (spot_in word).half ((spot_in word).offset + field_of command / 4)))
      index_is_due = ap (due_step heap number) indexing

      -- which names a fragment of the heap
      pub cell_is_small : (found : ℕ) → IsHeap heap → ToldAtStep heap number second found → payload_in found < 2 ^ 16
      cell_is_small found limits told = fragment_is_small heap (payload_in found) limits (subst (λ (s : Seat). ToldAtStep heap number s found) indexing told).leads

      -- and leads there
      pub cell_is_reached : (found : ℕ) → next_seat heap number second found ≡ on_way seat command (payload_in found) 0 (field_of command % 4) (spot_in word)
      cell_is_reached found =
          let there : Seat = record at_index { reached = payload_in found } in
          ap (λ (s : Seat). next_seat heap number s found) indexing
          ∙ nothing_added (at_access there (field_point_of there command))
          ∙ ap (λ (p : AccessPoint). at_access there p) (same_field_point (record seat { command = command }) there command refl refl refl)

  -- at the meta of a record
  module _ (head meta : ℕ) (first : Seat) (at : first ≡ after_length (at_head seat command head) meta (array_length_of meta)) where
    -- the meta of an array leads to its spine
    pub array_is_next : (cells : ℕ) → array_length_of meta ≡ Some cells → first ≡ at_sentinel seat command head
    array_is_next cells is = at ∙ ap (λ (o : Option ℕ). after_length (at_head seat command head) meta o) is

    module _ (of_record : array_length_of meta ≡ None) where
      abbrev placed : ℕ → Seat
      placed links = record (at_head seat command head) { links = links; part = part_of (field_of command) }

      at_record : first ≡ after_walk (placed (row_of (field_of command))) meta
      at_record = at ∙ ap (λ (o : Option ℕ). after_length (at_head seat command head) meta o) of_record

      -- that of a record to its first fragment
      pub near_is_reached : field_of command < 2 → first ≡ on_way seat command head 0 (part_of (field_of command)) seat.address
      near_is_reached near =
          let none : row_of (field_of command) ≡ 0 = omega (arith, near) in
          at_record ∙ ap (λ (n : ℕ). after_walk (placed n) meta) none
          ∙ ap (λ (p : AccessPoint). at_access (placed 0) p) (same_field_point (record seat { command = command }) (placed 0) command refl refl refl)

      -- or to its links
      pub links_are_next : 2 ≤ field_of command → first ≡ on_way seat command (link_of meta) (row_of (field_of command) - 1) (part_of (field_of command)) seat.address
      links_are_next far =
          let row = row_of (field_of command) in
          let some : (row == 0) ≡ false = positive_is_not_zero row (omega (arith, far)) in
          let there : Seat = record (placed row) { reached = link_of meta; links = row - 1 } in
          at_record
          ∙ ap (λ b. cond b (at_access (placed row) (cond b (field_point_of (placed row) command) Walking)) (at_access there (cond (row - 1 == 0) (field_point_of there command) Walking))) some
          ∙ ap (λ (p : AccessPoint). at_access there (cond (row - 1 == 0) p Walking)) (same_field_point (record seat { command = command }) there command refl refl refl)

  -- a command on a field begins at its object's meta
  module _ (head field : ℕ) (begins : BeginsAt heap seat command head field) where
    pub meta_is_due : due_step heap number (after_begin heap seat command) ≡ Some (Access (WalkLoad head))
    meta_is_due = ap (due_step heap number) begins.opens

    -- nothing is told yet
    pub begin_tells_nothing : (after_begin heap seat command).mine ≡ seat.mine
    begin_tells_nothing = ap (λ (s : Seat). s.mine) begins.opens

    -- the meta leads within the heap
    pub meta_leads_within : (meta : ℕ) → ToldAtStep heap number (after_begin heap seat command) meta → IsWithinHeap heap (pointer_in 0 meta)
    meta_leads_within meta told = (subst (λ (s : Seat). ToldAtStep heap number s meta) begins.opens told).leads

    -- and where it tells of the field, on to it
    pub field_is_next : (meta : ℕ) → field < length_of meta → next_seat heap number (after_begin heap seat command) meta ≡ after_length (at_head seat command head) meta (array_length_of meta)
    field_is_next meta has =
        let test : nat_lt field (length_of meta) ≡ true = grind (arith, has) in
        let none : meta_reply_of command meta ≡ None = begins.replies meta ∙ ap (λ b. cond b None (Some NoField)) test in
        let here : Seat = at_head seat command head in
        ap (λ (s : Seat). next_seat heap number s meta) begins.opens
        ∙ ap (λ (o : Option Reply). with_entries (after_meta here meta o) (reply_entries_if number here o)) none
        ∙ nothing_added (after_length here meta (array_length_of meta))

-- a call that follows links has followed some of them
pub record WhileFollowing (shared : TableId) (key : Heap) (mine : TableId) (heap : Heap) (number : ℕ) (seat : Seat) (command : Command) (part : ℕ) (first : Seat) (now : TableId) (me : Me (Unit {0}) View) (fragment left : ℕ) : Type 0 where
  pub same : now ≡ mine
  pub keeps : KeepsSeat shared key now me heap number (seat_in me)
  pub at : seat_in me ≡ on_way seat command fragment left part seat.address
  pub leads : Leads heap number first (seat_in me)
