-- What the last birth of an object changes of the seat that made it.
use Rattle.std.proofs.Common.{◌≡◌, ◌≢◌, ℕ, ◌+◌, ◌*◌, ◌/◌, ◌%◌, ◌<◌, ◌≤◌, false, List, [], ◌∷◌, ◌++◌, length, None, get_or, set, refl, sym, ap, ◌∙◌, subst, arith, length-append}
use Rattle.core_rule.proofs.Terms.{Heap, Id, Made, Value, add, node, graph_seat, register_value, Graph, Node, Word, Register, tally, at, fragment_at, object_number, IsKept, Owner}
use Rattle.core_rule.proofs.Terms.{Kept}
use Rattle.heap_model.specs.declared.id.Value.TheVariants as values
use Rattle.core_machine.specs.declared.seat.register.Register.TheVariants as registers
use Rattle.core_rule.specs.graph.Registers as regs
use Rattle.heap_model.proofs.graph_changes.GraphGrowth.{new_id_has_no_node, added_node_is_object, other_nodes_stay_by_add, target_holds_new_object, other_registers_stay_by_add}
use Rattle.core_rule.proofs.graph.IdsGrowth.{OneMore}
use Rattle.core_rule.proofs.owners.Keeping.{kept_by, with_object, new_object_has_body}
use Rattle.core_rule.proofs.objects.NamesGrowth.{new_object_is_kept, names_stay_after_growth}
use Rattle.core_rule.proofs.entries.SeatLists.{holds_value_still}
use Rattle.core_rule.proofs.graph.Numbering.{new_number_is_next}
use Rattle.core_rule.proofs.graph.PutRegister.{holds_value_after_set}

-- the graph has one object more
pub one_more_by_add : (g : Graph) (number d : ℕ) (object : Node) (count : ℕ) → (graph_seat g number).left ≡ false → count ≡ length (graph_seat g number).objects
    → OneMore g (add g number d object) (Made number count) object
one_more_by_add g number d object count present numbered = record {
  none = subst (λ n. node g (Made number n) ≡ None) (sym numbered) (new_id_has_no_node g number d object present);
  new = ap (λ n. node (add g number d object) (Made number n)) numbered ∙ added_node_is_object g number d object present;
  others = λ id apart. other_nodes_stay_by_add g number d object present id (λ e. apart (e ∙ ap (Made number) (sym numbered)));
}

-- the words that were stored are those of all parts of all fragments
pub all_words_are_stored : (heap : Heap) (words body : List ℕ) (word : ℕ → ℕ → ℕ) (stored : ℕ) → stored ≡ 4 * length body
    → ((u : ℕ) → u < stored → at heap words (Word (fragment_at body (u / 4)) (u % 4)) ≡ word (u / 4) (u % 4))
    → (k part : ℕ) → k < length body → part < 4 → at heap words (Word (fragment_at body k) part) ≡ word k part
all_words_are_stored heap words body word stored whole each k part row fits =
    let within : 4 * k + part < stored = omega arith in
    let quotient : (4 * k + part) / 4 ≡ k = omega (arith, fits) in
    let rest : (4 * k + part) % 4 ≡ part = omega (arith, fits) in
    subst (λ p. at heap words (Word (fragment_at body k) p) ≡ word k p) rest
    (subst (λ i. at heap words (Word (fragment_at body i) ((4 * k + part) % 4)) ≡ word i ((4 * k + part) % 4)) quotient (each (4 * k + part) within))

module _ (g : Graph) (number d : ℕ) (object : Node) (present : (graph_seat g number).left ≡ false) (made : List Id) (id : Id) (owner : ℕ → Owner) (fragments : ℕ → List ℕ) (body : List ℕ)
    (free : (f i k : ℕ) → 1 ≤ tally f body → owner f ≢ Kept i k) where
  abbrev now_owner : ℕ → Owner
  now_owner = kept_by (length made) body owner

  abbrev now_fragments : ℕ → List ℕ
  now_fragments = with_object fragments (length made) body

  abbrev Now : Register → Value → Type 0
  Now held value = regs.HoldsValue (made ++ id ∷ []) now_owner now_fragments held value

  module _ (once : (f : ℕ) → tally f body ≤ 1) (some : 1 ≤ length body) (new : object_number made id ≡ length made) where
    holds_new : Now (registers.Object (get_or body 0 0) id) (values.Object id)
    holds_new =
        let index : object_number (made ++ id ∷ []) id ≡ length made = new_number_is_next made id new in (
          refl,
          (omega (arith, index, length-append made (id ∷ [])), subst (λ i. IsKept now_owner now_fragments i) (sym index) (new_object_is_kept made id owner fragments body free once some)),
          sym (ap (λ i. fragment_at (now_fragments i) 0) index ∙ ap (λ fs. fragment_at fs 0) (new_object_has_body fragments (length made) body)),
        )

    -- its own do too, but for the one that holds the new object
    pub own_registers_hold_new : (held : List Register) → d < length held → d < length (graph_seat g number).registers → id ≡ Made number (length (graph_seat g number).objects)
        → ((i : ℕ) → regs.HoldsValue made owner fragments (get_or held i registers.Nil) (register_value g number i))
        → (i : ℕ) → Now (get_or (set held d (registers.Object (get_or body 0 0) id)) i registers.Nil) (register_value (add g number d object) number i)
    own_registers_hold_new held within there next old =
        holds_value_after_set (made ++ id ∷ []) now_owner now_fragments (add g number d object) number d held (registers.Object (get_or body 0 0) id) within
        (subst (Now (registers.Object (get_or body 0 0) id)) (ap values.Object next ∙ sym (target_holds_new_object g number d object present there)) holds_new)
        (λ i apart. subst (Now (get_or held i registers.Nil)) (sym (other_registers_stay_by_add g number d object present i apart)) (holds_value_still made (made ++ id ∷ []) owner now_owner fragments now_fragments (names_stay_after_growth made id owner fragments body free) _ _ (old i)))
