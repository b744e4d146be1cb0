-- The shades of a set and of a compare and swap with the barrier on: which is due, and where it leads.
use Rattle.std.proofs.Common.{◌≡◌, ℕ, ◌<◌, ◌^◌, [], Option, Some, None, refl, sym, ap, subst, ◌∙◌}
use Rattle.std.specs.Prelude.{unwrap_or, IfSome}
use Rattle.heap_model.specs.Heap.{IsHeap}
use Rattle.heap_model.specs.declared.command.Command.{Command}
use Rattle.heap_model.specs.declared.heap.Heap.{Heap}
use Rattle.heap_words.specs.declared.spot.Spot.{Spot}
use Rattle.heap_words.specs.Loaded.{head_of}
use Rattle.core_machine.specs.declared.point.Access.{Access as AccessPoint}
use Rattle.core_machine.specs.declared.point.Access.TheVariants.{LoadingOld, ShadingOld, Swapping, Replacing}
use Rattle.core_machine.specs.declared.step.AccessStep.TheVariants.{OldLoad, Shade}
use Rattle.core_machine.specs.declared.step.Step.TheVariants.{Access}
use Rattle.core_machine.specs.Moves.{due_step}
use Rattle.core_machine.specs.seat.Access.{after_old_load, at_access, expect_point_of, field_point_of, new_point_of, offer_point_of}
use Rattle.core_machine.specs.seat.Commands.{expected_of, source_of}
use Rattle.core_machine.specs.seat.Fits.{Fits}
use Rattle.core_machine.specs.seat.Registers.{register_head, register_in}
use Rattle.core_machine.specs.seat.Seat.{Seat, with_entries}
use Rattle.core_machine.specs.table.Decode.{IsWithinHeap}
use Rattle.core_machine.proofs.seat_lemmas.StepNeeds.{within_heap_is_small}
use Rattle.heap_table.specs.Ahead.{IsAtField, StandsAt, IsShaded}
use Rattle.heap_table.specs.Begun.{next_seat}
use Rattle.heap_table.proofs.Ways.{nothing_added}

module _ (heap : Heap) (number : ℕ) (seat : Seat) (command : Command) (fragment part : ℕ) where
  -- the seat at the word, with what it has loaded
  abbrev here : Spot → ℕ → Seat
  here address loaded = record seat { command = command; reached = fragment; links = 0; part = part; address = address; loaded = loaded }

  -- what stands in the registers that the command names
  abbrev new_head : Option ℕ
  new_head = register_head (register_in seat.registers (source_of command))

  abbrev expected_head : Option ℕ
  expected_head = register_head (register_in seat.registers (expected_of command))

  -- the new value's shade, where the seat has come there
  module _ (address : Spot) (loaded : ℕ) (mid : Seat) (at : mid ≡ at_access (here address loaded) (new_point_of new_head)) where
    at_new : (head : Option ℕ) → head ≡ new_head → mid ≡ at_access (here address loaded) (new_point_of head)
    at_new head is = at ∙ ap (λ (o : Option ℕ). at_access (here address loaded) (new_point_of o)) (sym is)

    pub new_shade_is_due : (head : Option ℕ) → head ≡ new_head → IfSome head (λ f. due_step heap number mid ≡ Some (Access (Shade f)))
    new_shade_is_due None is = tt
    new_shade_is_due (Some f) is = ap (due_step heap number) (at_new (Some f) is) ∙ ap (λ (o : Option ℕ). Some (Access (Shade (unwrap_or o 0)))) (sym is)

    -- leads to the swap
    pub new_is_shaded : (head : Option ℕ) → head ≡ new_head → (after : Seat) → IsShaded heap number head mid after → after ≡ at_access (here address loaded) Swapping
    new_is_shaded None is after shaded = shaded ∙ at_new None is
    new_is_shaded (Some f) is after shaded = shaded.1 ∙ ap (λ (s : Seat). next_seat heap number s shaded.0) (at_new (Some f) is) ∙ nothing_added (at_access (here address loaded) Swapping)

  -- the old value's shade
  module _ (first : Seat) (stands : StandsAt seat command fragment part seat.loaded LoadingOld first) where
    -- its load is due
    pub old_is_due : due_step heap number first ≡ Some (Access (OldLoad fragment part))
    old_is_due = ap (due_step heap number) stands.at

    module _ (old : ℕ) (second : Seat) (leads : second ≡ next_seat heap number first old) where
      abbrev with_old : Seat
      with_old = here stands.address old

      leads_to : (head : Option ℕ) → head ≡ head_of old → second ≡ with_entries (after_old_load (record (at_access (here stands.address seat.loaded) LoadingOld) { loaded = old }) head) []
      leads_to head is = leads ∙ ap (λ (s : Seat). next_seat heap number s old) stands.at
          ∙ ap (λ (o : Option ℕ). with_entries (after_old_load (record (at_access (here stands.address seat.loaded) LoadingOld) { loaded = old }) o) []) (sym is)

      at_plain : None ≡ head_of old → second ≡ at_access with_old (new_point_of new_head)
      at_plain is = leads_to None is ∙ nothing_added (at_access with_old (new_point_of new_head))

      at_old : (f : ℕ) → Some f ≡ head_of old → second ≡ at_access with_old ShadingOld
      at_old f is = leads_to (Some f) is ∙ nothing_added (at_access with_old ShadingOld)

      old_within : (head : Option ℕ) → head ≡ head_of old → Fits heap second → IsWithinHeap heap head
      old_within None is fits = tt
      old_within (Some f) is fits = subst (IsWithinHeap heap) (sym is) (subst (Fits heap) (at_old f is) fits).way.loaded_within

      -- it refers into the heap, if at all
      pub old_is_small : IsHeap heap → Fits heap second → IfSome (head_of old) (λ f. f < 2 ^ 16)
      old_is_small limits fits = within_heap_is_small heap (head_of old) limits (old_within (head_of old) refl fits)

      pub old_shade_is_due : (head : Option ℕ) → head ≡ head_of old → IfSome head (λ f. due_step heap number second ≡ Some (Access (Shade f)))
      old_shade_is_due None is = tt
      old_shade_is_due (Some f) is = ap (due_step heap number) (at_old f is) ∙ ap (λ (o : Option ℕ). Some (Access (Shade (unwrap_or o 0)))) (sym is)

      -- its shade leads to that of the new value
      pub old_is_shaded : (head : Option ℕ) → head ≡ head_of old → (after : Seat) → IsShaded heap number head second after → after ≡ at_access with_old (new_point_of new_head)
      old_is_shaded None is after shaded = shaded ∙ at_plain is
      old_is_shaded (Some f) is after shaded = shaded.1 ∙ ap (λ (s : Seat). next_seat heap number s shaded.0) (at_old f is) ∙ nothing_added (at_access with_old (new_point_of new_head))

  -- the shade of what a compare and swap puts in
  module _ (address : Spot) (loaded : ℕ) (mid : Seat) (at : mid ≡ at_access (here address loaded) (offer_point_of new_head)) where
    at_offer : (head : Option ℕ) → head ≡ new_head → mid ≡ at_access (here address loaded) (offer_point_of head)
    at_offer head is = at ∙ ap (λ (o : Option ℕ). at_access (here address loaded) (offer_point_of o)) (sym is)

    pub offer_is_due : (head : Option ℕ) → head ≡ new_head → IfSome head (λ f. due_step heap number mid ≡ Some (Access (Shade f)))
    offer_is_due None is = tt
    offer_is_due (Some f) is = ap (due_step heap number) (at_offer (Some f) is) ∙ ap (λ (o : Option ℕ). Some (Access (Shade (unwrap_or o 0)))) (sym is)

    -- leads to the comparison
    pub offer_is_shaded : (head : Option ℕ) → head ≡ new_head → (after : Seat) → IsShaded heap number head mid after → after ≡ at_access (here address loaded) Replacing
    offer_is_shaded None is after shaded = shaded ∙ at_offer None is
    offer_is_shaded (Some f) is after shaded = shaded.1 ∙ ap (λ (s : Seat). next_seat heap number s shaded.0) (at_offer (Some f) is) ∙ nothing_added (at_access (here address loaded) Replacing)

  -- that of what it expects
  module _ (address : Spot) (loaded : ℕ) (mid : Seat) (at : mid ≡ at_access (here address loaded) (expect_point_of expected_head new_head)) where
    at_expected : (head : Option ℕ) → head ≡ expected_head → mid ≡ at_access (here address loaded) (expect_point_of head new_head)
    at_expected head is = at ∙ ap (λ (o : Option ℕ). at_access (here address loaded) (expect_point_of o new_head)) (sym is)

    pub expected_is_due : (head : Option ℕ) → head ≡ expected_head → IfSome head (λ f. due_step heap number mid ≡ Some (Access (Shade f)))
    expected_is_due None is = tt
    expected_is_due (Some f) is = ap (due_step heap number) (at_expected (Some f) is) ∙ ap (λ (o : Option ℕ). Some (Access (Shade (unwrap_or o 0)))) (sym is)

    -- leads there
    pub expected_is_shaded : (head : Option ℕ) → head ≡ expected_head → (after : Seat) → IsShaded heap number head mid after → after ≡ at_access (here address loaded) (offer_point_of new_head)
    expected_is_shaded None is after shaded = shaded ∙ at_expected None is
    expected_is_shaded (Some f) is after shaded = shaded.1 ∙ ap (λ (s : Seat). next_seat heap number s shaded.0) (at_expected (Some f) is) ∙ nothing_added (at_access (here address loaded) (offer_point_of new_head))

-- at its field a call stands before what is done there
pub stands_at_field : (seat : Seat) (command : Command) (fragment part : ℕ) (point : AccessPoint) (now : Seat) → field_point_of (record seat { command = command }) command ≡ point → IsAtField seat command fragment part now
    → StandsAt seat command fragment part seat.loaded point now
stands_at_field seat command fragment part point now is field = record {
  address = field.0;
  at = field.1 ∙ ap (λ (p : AccessPoint). at_access (record seat { command = command; reached = fragment; links = 0; part = part; address = field.0 }) p) is;
}
