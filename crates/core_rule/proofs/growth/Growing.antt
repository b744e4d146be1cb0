-- How a graph may grow: from where the ids in its registers and cells come, and that its objects stay.
use Rattle.std.proofs.Common.{◌≡◌, ℕ, ◌⊎◌, inl, inr, length, Option, Some, None, IsSome, refl, sym, ap, ◌∙◌, subst}
use Rattle.std.specs.Option.{option_map_or, IsSomeAnd}
use Rattle.core_rule.proofs.Terms.{Id, Graph, Node, node, register_value, IsMade, Points, PointsTo, Reaches, from_register, from_cell, fragments_of, fragments_at}
use Rattle.heap_model.specs.declared.id.Value.TheVariants.{Object}
use Rattle.core_rule.proofs.growth.RegisterIds.{RegisterHolds, register_id_is_root, root_is_in_register}

-- an id was in a register, or in a cell of what was in one, or wasn't made yet
pub data CameFrom (g : Graph) (id : Id) : Type 0 where
  was_held : RegisterHolds g id → CameFrom g id
  was_read : (holder : Id) → RegisterHolds g holder → Points g holder id → CameFrom g id
  was_unmade : ¬ IsMade g id → CameFrom g id

-- there is an object of the id that is of the same kind and has as many cells
pub record IsSameSize (now : Graph) (id : Id) (object : Node) : Type 0 where
  pub later : Node
  pub there : node now id ≡ Some later
  pub kind : later.array ≡ object.array
  pub cells : length later.cells ≡ length object.cells

-- registers hold what was held, read or made, cells what they held or what was in a register, and each object stays
pub record GrowsFrom (g now : Graph) : Type 0 where
  pub registers : (number r : ℕ) (id : Id) → register_value now number r ≡ Object id → CameFrom g id
  pub cells : (holder id : Id) → Points now holder id → Points g holder id ⊎ RegisterHolds g id
  pub objects : (id : Id) (object : Node) → node g id ≡ Some object → IsSameSize now id object

-- an object with a cell was made
pub holder_is_made : (g : Graph) (holder id : Id) → Points g holder id → IsMade g holder
holder_is_made g holder id points = by (node g holder) points
  where
    by : (object : Option Node) → IsSomeAnd object (λ o. PointsTo o id) → IsSome object
    by None some = absurd some
    by (Some object) some = refl

module _ (g now : Graph) (grows : GrowsFrom g now) where
  -- what is reached then was reached before, or is new
  came_reached : (id : Id) → IsMade g id → CameFrom g id → Reaches g id
  came_reached id made (was_held its) = from_register id made (register_id_is_root g id its)
  came_reached id made (was_read holder its points) = from_cell id made holder (from_register holder (holder_is_made g holder id points) (register_id_is_root g holder its)) points
  came_reached id made (was_unmade unmade) = absurd (unmade made)

  or_new : (id : Id) → (IsMade g id → Reaches g id) → Reaches g id ⊎ ¬ IsMade g id
  or_new id reaches = by (node g id) reaches
    where
      by : (object : Option Node) → (IsSome object → Reaches g id) → Reaches g id ⊎ ¬ IsSome object
      by None reaches = inr (λ made. cc made)
      by (Some object) reaches = inl (reaches refl)

  pub reached_before_or_unmade : (id : Id) → Reaches now id → Reaches g id ⊎ ¬ IsMade g id
  reached_before_or_unmade _ (from_register id made root) =
      let its : RegisterHolds now id = root_is_in_register now id root in
      or_new id (λ was. came_reached id was (grows.registers its.number its.register id its.holds))
  reached_before_or_unmade _ (from_cell id made holder reached points) = or_new id (λ was. elim (grows.cells holder id points) [
    | inl old ↦ elim (reached_before_or_unmade holder reached) [
      | inl before ↦ from_cell id was holder before old
      | inr unmade ↦ absurd (unmade (holder_is_made g holder id old))
    ]
    | inr its ↦ from_register id was (register_id_is_root g id its)
  ])

  -- what was made stays so
  object_made : (id : Id) → IsMade g id → (object : Node) × (node g id ≡ Some object)
  object_made id made = by (node g id) made
    where
      by : (o : Option Node) → IsSome o → (object : Node) × (o ≡ Some object)
      by None some = cc some
      by (Some object) some = (object, refl)

  same_size : (id : Id) (made : IsMade g id) → IsSameSize now id (object_made id made).0
  same_size id made = grows.objects id (object_made id made).0 (object_made id made).1

  pub made_stays : (id : Id) → IsMade g id → IsMade now id
  made_stays id made = subst (λ (o : Option Node). IsSome o) (sym (same_size id made).there) refl

  -- and has as many fragments
  pub fragments_stay : (id : Id) → IsMade g id → fragments_at now id ≡ fragments_at g id
  fragments_stay id made =
      let object = object_made id made in
      let same = same_size id made in
      ap (λ (o : Option Node). option_map_or fragments_of o 0) same.there ∙ cc (same.kind, same.cells) ∙ sym (ap (λ (o : Option Node). option_map_or fragments_of o 0) object.1)
