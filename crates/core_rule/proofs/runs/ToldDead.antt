-- The word that the sweep finds of a fragment that is to be freed tells how many spine words its array has.
use Rattle.std.proofs.Common.{◌≡◌, ℕ, zero, suc, ◌+◌, ◌*◌, ◌==◌, ◌<◌, Bool, true, false, if◌then◌else◌, refl, sym, ◌∙◌, subst, arith, length}
use Rattle.core_rule.proofs.Terms.{Heap, graph_of, Node, spine_words_of, turn_at, IsExamining, Word, State, found_by, at, Book, IsDeadTold, EachDeadIsTold, node_at, IsSized, Dead}
use Rattle.core_rule.proofs.Terms.{dead_bit, Rule, SweepStands, AreDead}
use Rattle.core_machine.specs.declared.collector.stage.Stage.TheVariants as stages
use Rattle.core_rule.proofs.owners.OwnerLemmas.{dead_bit_is_dead}
use Rattle.core_rule.proofs.ways.KeptWords.{array_has_spine_words}
use Rattle.core_rule.proofs.dying.DeadWords.{no_words_behind_first}

-- an array's first fragment has spine words, and no other has
words_some : (object : Node) (position n : ℕ) → IsSized object.array (length object.cells) → n ≡ (if position == 0 then spine_words_of object else 0)
    → position ≡ 0 → object.array ≡ true → 0 < n
words_some object zero n sized is first kind = omega (arith, is, array_has_spine_words object sized kind)
words_some object (suc position) n sized is first kind = absurd (omega (arith, first))

words_only : (object : Node) (position n : ℕ) → n ≡ (if position == 0 then spine_words_of object else 0) → 0 < n → (position ≡ 0) × (object.array ≡ true)
words_only object (suc position) n is more = let none : n ≡ 0 = is ∙ no_words_behind_first (suc position) (spine_words_of object) (omega arith) in absurd (omega (arith, none, more))
words_only object zero n is more = (refl, by object.array refl)
  where
    by : (array : Bool) → object.array ≡ array → object.array ≡ true
    by true kind = kind
    by false kind = let none : spine_words_of object ≡ 0 = rw kind refl in absurd (omega (arith, is, more, none))

module _ (heap : Heap) (state : State) (book : Book) (rule : Rule heap state book) where
  -- so the first word of one that is to be freed tells
  dead_told : (f object position : ℕ) → book.owner f ≡ Dead object position → IsDeadTold heap book f (at heap state.words (Word f 0))
  dead_told f object position dead =
      let told = rule.heap_stands.spines.tells f object position dead in
      let node : Node = node_at (graph_of heap book.history) book.made object in
      record {
        object = object;
        position = position;
        below = told.0;
        dead = dead;
        told = told.1.told;
        some = words_some node position _ told.1.sized told.1.told;
        only = words_only node position _ told.1.told;
      }

  -- and the one that is examined is to be freed
  module _ (group dead position words : ℕ) (examining : state.collector.stage ≡ stages.Examining group dead position words) where
    fits : IsExamining heap state.collector.phase state.collector.looked group dead position words
    fits = rw examining at rule.machine.collector_fit.at_stage

    are : AreDead book.owner group dead
    are = (subst (SweepStands heap book.owner book.colour state.collector.phase) examining rule.marks_stand.heap_marks.sweep_stands).1

    pub examined_told : IsDeadTold heap book (16 * group + position) (found_by heap state (turn_at heap state.collector (stages.Examining group dead position words)).step)
    examined_told =
        let one : dead_bit (book.owner (16 * group + position)) ≡ 1 = sym (are position fits.position_within) ∙ fits.is_dead in
        let is = dead_bit_is_dead (book.owner (16 * group + position)) one in
        dead_told (16 * group + position) is.0 is.1 is.2

pub each_dead_is_told : EachDeadIsTold
each_dead_is_told heap state book group dead position words rule examining =
    subst (λ stage. IsDeadTold heap book (16 * group + position) (found_by heap state (turn_at heap state.collector stage).step)) (sym examining)
    (examined_told heap state book rule group dead position words examining)
