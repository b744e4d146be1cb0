-- Calls at their field: which step is due there, and what ends them.
use Rattle.std.proofs.Common.{◌≡◌, ℕ, ◌+◌, ◌<◌, ◌==◌, ◌^◌, Bool, true, false, Option, Some, None, refl, sym, ap, subst, ◌∙◌}
use Rattle.std.specs.Prelude.{unwrap_or, IfSome}
use Rattle.heap_model.specs.Heap.{IsHeap}
use Rattle.heap_words.specs.Loaded.{head_of, stamp_of}
use Rattle.heap_model.specs.declared.command.Command.TheVariants.{Get, Set, Cas}
use Rattle.heap_model.specs.declared.heap.Heap.{Heap}
use Rattle.heap_model.specs.declared.id.Value.TheVariants.{Object as Referred}
use Rattle.heap_model.specs.declared.reply.Reply.TheVariants.{Got, Was}
use Rattle.heap_model.specs.graph.Growth.{set_stamp}
use Rattle.core_machine.specs.declared.point.Access.TheVariants.{Getting, Naming, Swapping, Replacing}
use Rattle.core_machine.specs.declared.seat.register.Register.TheVariants.{Object}
use Rattle.core_machine.specs.declared.step.AccessStep.TheVariants.{GetLoad, NameLoad, Swap, CompareSwap}
use Rattle.core_machine.specs.declared.step.Step.TheVariants.{Access}
use Rattle.core_machine.specs.Moves.{due_step}
use Rattle.core_machine.specs.seat.Access.{after_get, after_name, after_replace, after_swap, at_access, with_register_filled}
use Rattle.core_machine.specs.seat.AccessMoves.{got_adds, got_reply, replaced_reply, reply_entries}
use Rattle.core_machine.specs.seat.Fits.{Fits}
use Rattle.core_machine.specs.seat.Registers.{register_in, register_word, seen_in}
use Rattle.core_machine.specs.seat.Seat.{Seat, with_entries}
use Rattle.core_machine.specs.table.Decode.{IsWithinHeap, id_of, plain_of}
use Rattle.core_machine.proofs.seat_lemmas.StepNeeds.{within_heap_is_small}
use Rattle.heap_table.specs.Ahead.{IsAtField, StandsAt}
use Rattle.heap_table.specs.Begun.{next_seat}
use Rattle.heap_table.specs.Told.{ToldAtStep}
use Rattle.heap_table.proofs.Ways.{nothing_added}

-- an option that is no value is none
pub none_where_not_some : (o : Option ℕ) → ((n : ℕ) → o ≡ Some n → ⊥) → o ≡ None
none_where_not_some None not = refl
none_where_not_some (Some n) not = absurd (not n refl)

-- a get at its field
module _ (heap : Heap) (number : ℕ) (seat : Seat) (d r i fragment part : ℕ) (mid : Seat) (field : IsAtField seat (Get d r i) fragment part mid) where
  abbrev at_get : Seat
  at_get = at_access (record seat { command = Get d r i; reached = fragment; links = 0; part = part; address = field.0 }) Getting

  -- the load of the field is due
  pub get_is_due : due_step heap number mid ≡ Some (Access (GetLoad fragment part))
  get_is_due = ap (due_step heap number) field.1

  module _ (found : ℕ) where
    found_within : (to : Option ℕ) → to ≡ head_of found → Fits heap (with_entries (after_get at_get found to) (got_adds number at_get found to)) → IsWithinHeap heap to
    found_within None is fits = tt
    found_within (Some f) is fits = subst (IsWithinHeap heap) (sym is) fits.way.loaded_within

    -- and finds no reference but into the heap
    pub field_refers_within : IsHeap heap → ToldAtStep heap number mid found → IfSome (head_of found) (λ f. f < 2 ^ 16)
    field_refers_within limits told =
        within_heap_is_small heap (head_of found) limits (found_within (head_of found) refl (subst (λ (s : Seat). Fits heap (next_seat heap number s found)) field.1 told.fits))

    -- it ends the get where it finds no reference
    pub plain_get_is_over : head_of found ≡ None → next_seat heap number mid found ≡ with_entries (with_register_filled (record seat { command = Get d r i }) (plain_of found) (stamp_of found))
        (reply_entries number (record seat { command = Get d r i }) (got_reply (plain_of found) found))
    plain_get_is_over plain =
        ap (λ (s : Seat). next_seat heap number s found) field.1 ∙ ap (λ (o : Option ℕ). with_entries (after_get at_get found o) (got_adds number at_get found o)) plain

    module _ (to : ℕ) (refers : head_of found ≡ Some to) where
      abbrev at_name : Seat
      at_name = at_access (record at_get { loaded = found }) Naming

      -- and else leads to the load of the name
      name_is_next : next_seat heap number mid found ≡ at_name
      name_is_next =
          ap (λ (s : Seat). next_seat heap number s found) field.1 ∙ ap (λ (o : Option ℕ). with_entries (after_get at_get found o) (got_adds number at_get found o)) refers
          ∙ nothing_added at_name

      module _ (there : Seat) (leads : there ≡ next_seat heap number mid found) where
        pub name_is_due : due_step heap number there ≡ Some (Access (NameLoad to))
        name_is_due = ap (due_step heap number) (leads ∙ name_is_next) ∙ ap (λ (o : Option ℕ). Some (Access (NameLoad (unwrap_or o 0)))) refers

        -- which ends it
        pub named_get_is_over : (name : ℕ) → next_seat heap number there name ≡ with_entries (with_register_filled (record seat { command = Get d r i }) (Object to (id_of name)) (stamp_of found))
            (reply_entries number (record seat { command = Get d r i }) (Got (Referred (id_of name)) (stamp_of found)))
        named_get_is_over name =
            ap (λ (s : Seat). next_seat heap number s name) (leads ∙ name_is_next)
            ∙ ap (λ (o : Option ℕ). with_entries (after_name at_name (unwrap_or o 0) (id_of name)) (reply_entries number at_name (Got (Referred (id_of name)) (stamp_of found)))) refers

-- a set behind its shades
module _ (heap : Heap) (number : ℕ) (seat : Seat) (r i v fragment part loaded : ℕ) (mid : Seat) (stands : StandsAt seat (Set r i v) fragment part loaded Swapping mid) where
  -- the swap is due
  pub swap_is_due : due_step heap number mid ≡ Some (Access (Swap fragment part (register_word (register_in seat.registers v) (set_stamp number (seat.sets + 1)))))
  swap_is_due = ap (due_step heap number) stands.at

  -- which ends the set
  pub set_is_over : (found : ℕ) → next_seat heap number mid found ≡ with_entries (after_swap (record seat { command = Set r i v })) (reply_entries number (record seat { command = Set r i v }) (Was (stamp_of found)))
  set_is_over found = ap (λ (s : Seat). next_seat heap number s found) stands.at

-- a compare and swap behind its own
module _ (heap : Heap) (number : ℕ) (seat : Seat) (r i a v fragment part loaded : ℕ) (mid : Seat) (stands : StandsAt seat (Cas r i a v) fragment part loaded Replacing mid) where
  abbrev expected : ℕ
  expected = register_word (register_in seat.registers a) (seen_in seat.seen a)

  abbrev at_cas : Seat
  at_cas = at_access (record seat { command = Cas r i a v; reached = fragment; links = 0; part = part; address = stands.address; loaded = loaded }) Replacing

  -- the comparison is due
  pub replace_is_due : due_step heap number mid ≡ Some (Access (CompareSwap fragment part expected (register_word (register_in seat.registers v) (set_stamp number (seat.sets + 1)))))
  replace_is_due = ap (due_step heap number) stands.at

  -- which ends it
  pub cas_is_over : (found : ℕ) → next_seat heap number mid found ≡ with_entries (after_replace (record seat { command = Cas r i a v }) (found == expected))
      (reply_entries number (record seat { command = Cas r i a v }) (replaced_reply found (found == expected)))
  cas_is_over found = ap (λ (s : Seat). next_seat heap number s found) stands.at ∙ same_over (found == expected)
    where
      same_over : (b : Bool) → with_entries (after_replace at_cas b) (reply_entries number at_cas (replaced_reply found b))
          ≡ with_entries (after_replace (record seat { command = Cas r i a v }) b) (reply_entries number (record seat { command = Cas r i a v }) (replaced_reply found b))
      same_over true = refl
      same_over false = refl
