-- Two words of cells that name what is kept are the same exactly where the cells are.
use Rattle.std.proofs.Common.{◌≡◌, ℕ, ◌^◌, ◌<◌, List, sym, ap, ◌∙◌}
use Rattle.heap_model.specs.declared.graph.cell.Cell.{Cell}
use Rattle.heap_model.specs.declared.id.Value.TheVariants as values
use Rattle.core_rule.proofs.Terms.{Id, Value, head_of, plain_of, stamp_of, id_at, object_number, object_head, NamesKept, Owner, Kept, value_word}
use Rattle.core_rule.proofs.graph.Numbering.{id_at_own_number}
use Rattle.core_rule.proofs.ways.Told.{HasRoom, named_head, register_plain, stamp_in-value, head_in-value, plain_in-value}

module _ (made : List Id) (owner : ℕ → Owner) (fragments : ℕ → List ℕ) where
  abbrev head : Id → ℕ
  head = object_head made fragments

  -- two kept objects with the same first fragment are the same
  same_kept_id : (one other : Id) → NamesKept made owner fragments (values.Object one) → NamesKept made owner fragments (values.Object other) → head one ≡ head other → one ≡ other
  same_kept_id one other first second same =
      let both : Kept (object_number made one) 0 ≡ Kept (object_number made other) 0 = sym first.1 ∙ ap owner same ∙ second.1 in
      let number : object_number made one ≡ object_number made other = cc in
      sym (id_at_own_number made one first.0) ∙ ap (id_at made) number ∙ id_at_own_number made other second.0

  -- so are two values of which the same is told
  same_kept_value : (one other : Value) → NamesKept made owner fragments one → NamesKept made owner fragments other → named_head head one ≡ named_head head other → register_plain one ≡ register_plain other → one ≡ other
  same_kept_value values.Nil values.Nil first second named plain = cc
  same_kept_value values.Nil (values.Number m) first second named plain = absurd (cc (plain))
  same_kept_value values.Nil (values.Object id) first second named plain = absurd (cc (named))
  same_kept_value (values.Number n) values.Nil first second named plain = absurd (cc (plain))
  same_kept_value (values.Number n) (values.Number m) first second named plain = cc
  same_kept_value (values.Number n) (values.Object id) first second named plain = absurd (cc (named))
  same_kept_value (values.Object id) values.Nil first second named plain = absurd (cc (named))
  same_kept_value (values.Object id) (values.Number m) first second named plain = absurd (cc (named))
  same_kept_value (values.Object id) (values.Object other) first second named plain = let same : head id ≡ head other = cc in ap values.Object (same_kept_id id other first second same)

  -- and two cells with the same word
  pub same_cell_of_same_word : (one other : Cell) → NamesKept made owner fragments one.value → NamesKept made owner fragments other.value → HasRoom head one.value → HasRoom head other.value
      → one.stamp < 2 ^ 32 → other.stamp < 2 ^ 32 → value_word head one.value one.stamp ≡ value_word head other.value other.stamp → one ≡ other
  same_cell_of_same_word one other first second room space small low same =
      let stamps : one.stamp ≡ other.stamp = sym (stamp_in-value head one.value one.stamp room small) ∙ ap stamp_of same ∙ stamp_in-value head other.value other.stamp space low in
      let heads = sym (head_in-value head one.value one.stamp room small) ∙ ap head_of same ∙ head_in-value head other.value other.stamp space low in
      let plains = sym (plain_in-value head one.value one.stamp room small) ∙ ap plain_of same ∙ plain_in-value head other.value other.stamp space low in
      let value : one.value ≡ other.value = same_kept_value one.value other.value first second heads plains in
      ap (λ (v : Value). record one { value = v }) value ∙ ap (λ (s : ℕ). record other { stamp = s }) stamps
