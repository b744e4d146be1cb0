-- What a seat's own list tells of the seat as the history does, also while the reply of a get is awaited.
use Rattle.std.proofs.Common.{◌≡◌, ℕ, ◌+◌, Bool, true, false, List, [], ◌∷◌, ◌++◌, get_or, set, filter, length, refl, sym, ap, ◌∙◌, subst, inl, inr, arith, length-set, zero-add}
use Rattle.std.specs.Prelude.{cond}
use Rattle.std.proofs.lemmas.Bool.{cases_lt, eq-eqb}
use Rattle.std.proofs.lemmas.List.{get_or-set_same, get_or-set_other, get_or_past}
use Rattle.std.proofs.lemmas.List.Sums.{sum_by-cons}
use Rattle.core_rule.proofs.Terms.{graph_of, effect_of, is_of, no_effect, total_of, Entry, Heap, Value, with_register, Graph, opening, graph_seat, absent_graph_seat, unset}
use Rattle.core_rule.proofs.Terms.{register_value}
use Rattle.heap_model.specs.declared.account.effect.Effect.{Effect}
use Rattle.heap_model.specs.declared.command.Command.TheVariants as commands
use Rattle.heap_model.specs.declared.entry.Entry.TheVariants as entries
use Rattle.heap_model.specs.declared.reply.Reply.TheVariants as replies
use Rattle.heap_model.specs.graph.Graph.{GraphSeat}
use Rattle.heap_model.proofs.Histories.{graph_after-more}
use Rattle.core_rule.proofs.entries.OwnEntries.{total_of_grows_by_own}
use Rattle.heap_model.specs.declared.graph.cell.Cell.{Cell}

-- a count of the seat's own entries is that of its entries in the history
pub total_of_own_entries : (number : ℕ) (summand : Effect → ℕ) (history : List Entry) → total_of number summand (filter (is_of number) history) ≡ total_of number summand history
total_of_own_entries number summand [] = refl
total_of_own_entries number summand (entry ∷ history) = by (is_of number entry) refl (total_of_own_entries number summand history)
  where
    by : (own : Bool) → is_of number entry ≡ own → total_of number summand (filter (is_of number) history) ≡ total_of number summand history
        → total_of number summand (cond own (entry ∷ filter (is_of number) history) (filter (is_of number) history)) ≡ total_of number summand (entry ∷ history)
    by true own same =
        sum_by-cons (λ e. cond (is_of number e) (summand (effect_of e)) 0) entry (filter (is_of number) history) ∙ ap (λ n. cond (is_of number entry) (summand (effect_of entry)) 0 + n) same
        ∙ sym (sum_by-cons (λ e. cond (is_of number e) (summand (effect_of e)) 0) entry history)
    by false others same =
        same ∙ sym (zero-add (total_of number summand history)) ∙ ap (λ b. cond b (summand (effect_of entry)) 0 + total_of number summand history) (sym others)
        ∙ sym (sum_by-cons (λ e. cond (is_of number e) (summand (effect_of e)) 0) entry history)

-- the one list tells of the seat as the other does, but for the registers that are awaited
pub record TellsAlike (heap : Heap) (number : ℕ) (awaited : ℕ → Type 0) (mine all : List Entry) : Type 0 where
  pub objects : (graph_seat (graph_of heap mine) number).objects ≡ (graph_seat (graph_of heap all) number).objects
  pub sets : (graph_seat (graph_of heap mine) number).sets ≡ (graph_seat (graph_of heap all) number).sets
  pub left : (graph_seat (graph_of heap mine) number).left ≡ (graph_seat (graph_of heap all) number).left
  pub registers : (r : ℕ) → ¬ awaited r → register_value (graph_of heap mine) number r ≡ register_value (graph_of heap all) number r
  pub totals : (summand : Effect → ℕ) → summand no_effect ≡ 0 → total_of number summand mine ≡ total_of number summand all

-- where nothing is awaited it is the same list
pub tells_alike_where_whole : (heap : Heap) (number : ℕ) (awaited : ℕ → Type 0) (mine all : List Entry) → mine ≡ all → TellsAlike heap number awaited mine all
tells_alike_where_whole heap number awaited mine all same = subst (TellsAlike heap number awaited mine) same
    record { objects = refl; sets = refl; left = refl; registers = λ r free. refl; totals = λ summand none. refl }

-- with another value in a register the seat is as it was, or has it there
put_cases : (P : GraphSeat → Type 0) (g : Graph) (number d : ℕ) (cell : Cell) → P (graph_seat g number)
    → P (record (graph_seat g number) { registers = set (graph_seat g number).registers d cell }) → P (graph_seat (with_register g number d cell) number)
put_cases P g number d cell was has =
    let new : GraphSeat = record (graph_seat g number) { registers = set (graph_seat g number).registers d cell } in
    elim (cases_lt number (length g.seats)) [
      | inl there ↦ subst P (sym (get_or-set_same g.seats number new absent_graph_seat there)) has
      | inr past ↦ subst P (get_or_past g.seats number absent_graph_seat past ∙ sym (get_or_past (set g.seats number new) number absent_graph_seat (omega (arith, past, length-set g.seats number new)))) was
    ]

-- the reply of a get changes the register that it is for, and nothing else
pub tells_alike_but_target : (heap : Heap) (number d r i stamp : ℕ) (value : Value) (mine : List Entry)
    → TellsAlike heap number (λ x. x ≡ d) mine (mine ++ entries.Said number (commands.Get d r i) (replies.Got value stamp) ∷ [])
tells_alike_but_target heap number d r i stamp value mine = record {
  objects = put_cases (λ p. before.objects ≡ p.objects) (graph_of heap mine) number d cell refl refl ∙ ap (λ (g : Graph). (graph_seat g number).objects) later;
  sets = put_cases (λ p. before.sets ≡ p.sets) (graph_of heap mine) number d cell refl refl ∙ ap (λ (g : Graph). (graph_seat g number).sets) later;
  left = put_cases (λ p. before.left ≡ p.left) (graph_of heap mine) number d cell refl refl ∙ ap (λ (g : Graph). (graph_seat g number).left) later;
  registers = λ x free.
      put_cases (λ p. (get_or before.registers x unset).value ≡ (get_or p.registers x unset).value) (graph_of heap mine) number d cell refl
      (sym (ap (λ (register : Cell). register.value) (get_or-set_other before.registers d x cell unset free))) ∙ ap (λ (g : Graph). register_value g number x) later;
  totals = λ summand none. let nothing : summand (effect_of entry) ≡ 0 = none in omega (arith, total_of_grows_by_own number summand mine entry (eq-eqb number number refl), nothing);
}
  where
    entry : Entry
    entry = entries.Said number (commands.Get d r i) (replies.Got value stamp)

    cell : Cell
    cell = record { value = value; stamp = stamp }

    before : GraphSeat
    before = graph_seat (graph_of heap mine) number

    later : with_register (graph_of heap mine) number d cell ≡ graph_of heap (mine ++ entries.Said number (commands.Get d r i) (replies.Got value stamp) ∷ [])
    later = sym (graph_after-more (opening heap) mine (entries.Said number (commands.Get d r i) (replies.Got value stamp)))
