-- The graph of a legal history stays sound.
use Rattle.std.proofs.Common.{◌≡◌, ℕ, ◌+◌, ◌<◌, ◌≤◌, inl, inr, Bool, true, false, List, [], length, get_or, set, replicate, refl, sym, ap, ◌∙◌, subst, arith}
use Rattle.std.specs.List.{All}
use Rattle.std.proofs.lemmas.Bool.{cases_lt, cases_eq, cases_order}
use Rattle.std.proofs.lemmas.List.{get_or-set_same, get_or-set_other, set_past}
use Rattle.std.proofs.lemmas.List.Elements.{All-nil, All-cons, All-weaker, All-replicate}
use Rattle.heap_model.specs.Limits.{register_count}
use Rattle.heap_model.specs.declared.id.Id.TheVariants.{Made}
use Rattle.heap_model.specs.declared.id.Value.TheVariants.{Nil, Number, Object}
use Rattle.heap_model.specs.declared.graph.cell.Cell.{Cell}
use Rattle.heap_model.specs.declared.command.Command.{Command}
use Rattle.heap_model.specs.declared.command.Command.TheVariants as commands
use Rattle.heap_model.specs.declared.reply.Reply.{Reply}
use Rattle.heap_model.specs.declared.reply.Reply.TheVariants as replies
use Rattle.heap_model.specs.graph.Objects.{register_cell, register_value}
use Rattle.heap_model.specs.graph.Replies.{Says}
use Rattle.heap_model.specs.graph.Graph.{Node, Graph, fresh, unseen, unset}
use Rattle.heap_model.specs.graph.Changes.{set_stamp}
use Rattle.log_merge.proofs.merge_lemmas.Changes.{Own, own, Change, with_object, with_set, change_of, seat_changed, changed, own-changed, own-changed_other}
use Rattle.log_merge.proofs.merge_lemmas.Places.{IsKnown}
use Rattle.log_merge.proofs.merge_lemmas.Sound.{AllCells, AllCells-look, AllCells-seat_changed, AllCells-weaker, AllCells-write, Grows, Grows-changed, IsKnown-grows, IsOld, IsOld-grows, IsSound, IsSoundCell, get_finds_its_cell, all_holds_or_default}

-- a change that keeps the graph sound
pub record IsSoundChange (g : Graph) (number : ℕ) (c : Change) : Type 0 where
  pub registers : (r : ℕ) → IsKnown (changed g number c) (get_or c.registers r unset).value
  pub more : All (λ (o : Node). All (λ cell. cell ≡ unset) o.cells) c.more
  pub sets : (own g number).sets ≤ c.sets
  pub place : IsKnown g c.place
  pub cell : IsSoundCell (changed g number c) c.cell

-- the stamps 0 and of a set that was done are old
pub IsOld-none : (g : Graph) → IsOld g 0
IsOld-none g = λ seat n later few is. omega (arith, is)

IsOld-stamp : (g : Graph) (number sets : ℕ) → (own g number).sets ≡ sets → IsOld g (set_stamp number sets)
IsOld-stamp g number sets is = λ seat n later below same. elim (cases_order seat number) [
  | inl equal ↦ (let mine : (own g number).sets < n = subst (λ s. (own g s).sets < n) equal later in omega (arith, mine, is, same, equal, below))
  | inr apart ↦ elim apart [ inl before ↦ omega (arith, before, same) | inr behind ↦ omega (arith, behind, same) ]
]

-- a sound value in a register
set_known : (g : Graph) (registers : List Cell) (d : ℕ) (cell : Cell) → ((r : ℕ) → IsKnown g (get_or registers r unset).value) → IsKnown g cell.value → (r : ℕ) → IsKnown g (get_or (set registers d cell) r unset).value
set_known g registers d cell all known r = elim (cases_eq r d) [
  | inr apart ↦ subst (λ (x : Cell). IsKnown g x.value) (sym (get_or-set_other registers d r cell unset apart)) (all r)
  | inl same ↦ elim (cases_lt d (length registers)) [
    | inl within ↦ subst (λ (x : Cell). IsKnown g x.value) (sym (ap (λ x. get_or (set registers d cell) x unset) same ∙ get_or-set_same registers d cell unset within)) known
    | inr past ↦ subst (λ xs. IsKnown g (get_or xs r unset).value) (sym (set_past registers d cell past)) (all r)
  ]
]

-- only the registers change
quiet_change : (g : Graph) (number : ℕ) (registers : List Cell) (left : Bool) → number < length g.seats → ((r : ℕ) → IsKnown g (get_or registers r unset).value)
    → IsSoundChange g number (record { registers = registers; more = []; sets = (own g number).sets; left = left; place = Nil; index = 0; cell = unset })
quiet_change g number registers left within known =
    let c : Change = record { registers = registers; more = []; sets = (own g number).sets; left = left; place = Nil; index = 0; cell = unset } in
    let grows : Grows g (changed g number c) = Grows-changed g number c within (omega arith) in
    record {
      registers = λ r. IsKnown-grows g (changed g number c) (get_or registers r unset).value grows (known r);
      more = All-nil (λ (o : Node). All (λ (cell : Cell). cell ≡ unset) o.cells);
      sets = omega arith;
      place = tt;
      cell = (tt, IsOld-none (changed g number c));
    }

-- an object is made
made_change : (g : Graph) (number d : ℕ) (array : Bool) (cells : ℕ) → number < length g.seats → ((r : ℕ) → IsKnown g (register_value g number r)) → IsSoundChange g number (with_object (own g number) number d (fresh array cells))
made_change g number d array cells within known =
    let c = with_object (own g number) number d (fresh array cells) in
    let h = changed g number c in
    let grows : Grows g h = Grows-changed g number c within (omega arith) in
    let one_more = ap (λ (o : Own). o.made) (own-changed g number c within) in
    let made : (own g number).made < (own h number).made = omega (arith, one_more) in
    record {
      registers = λ r. set_known h (own g number).registers d (unseen (Object (Made number (own g number).made))) (λ q. IsKnown-grows g h (register_value g number q) grows (known q)) made r;
      more = All-cons (λ (o : Node). All (λ (cell : Cell). cell ≡ unset) o.cells) (fresh array cells) [] (All-replicate (λ (cell : Cell). cell ≡ unset) cells unset refl) (All-nil (λ (o : Node). All (λ (cell : Cell). cell ≡ unset) o.cells));
      sets = omega arith;
      place = tt;
      cell = (tt, IsOld-none h);
    }

-- a cell is set
set_change : (g : Graph) (number r i v : ℕ) → number < length g.seats → ((q : ℕ) → IsKnown g (register_value g number q)) → IsSoundChange g number (with_set (own g number) number r i v)
set_change g number r i v within known =
    let c = with_set (own g number) number r i v in
    let h = changed g number c in
    let grows : Grows g h = Grows-changed g number c within (omega arith) in
    record {
      registers = λ q. IsKnown-grows g h (register_value g number q) grows (known q);
      more = All-nil (λ (o : Node). All (λ (cell : Cell). cell ≡ unset) o.cells);
      sets = omega arith;
      place = known r;
      cell = (IsKnown-grows g h (register_value g number v) grows (known v), IsOld-stamp h number ((own g number).sets + 1) (ap (λ (o : Own). o.sets) (own-changed g number c within)));
    }

-- registers that are nil
nil_known : (g : Graph) (r : ℕ) → IsKnown g (get_or (replicate register_count unset) r unset).value
nil_known g r = all_holds_or_default (λ (register : Cell). IsKnown g register.value) (replicate register_count unset) r unset (All-replicate (λ (register : Cell). IsKnown g register.value) register_count unset tt) tt

-- what a seat does keeps the graph sound
pub call_changes_soundly : (g : Graph) (number : ℕ) (command : Command) (reply : Reply) → IsSound g → number < length g.seats → Says g number command reply → IsSoundChange g number (change_of (own g number) number command reply)
call_changes_soundly g number (commands.New d fields) (replies.Made id) sound within says = made_change g number d false fields within (sound.registers number)
call_changes_soundly g number (commands.Array d cells) (replies.Made id) sound within says = made_change g number d true cells within (sound.registers number)
call_changes_soundly g number (commands.Get d r i) (replies.Got value stamp) sound within says =
    let got = get_finds_its_cell g number d r i value stamp says in
    let known : IsKnown g value = subst (IsKnown g) got.2 (AllCells-look (IsSoundCell g) g (register_value g number r) i got.0 sound.cells got.1).0 in
    let cell : Cell = record { value = value; stamp = stamp } in
    quiet_change g number (set (own g number).registers d cell) (own g number).left within (set_known g (own g number).registers d cell (sound.registers number) known)
call_changes_soundly g number (commands.Set r i v) (replies.Was stamp) sound within says = set_change g number r i v within (sound.registers number)
call_changes_soundly g number (commands.Cas r i a v) (replies.Was stamp) sound within says = set_change g number r i v within (sound.registers number)
call_changes_soundly g number (commands.Num d n) reply sound within says =
    quiet_change g number (set (own g number).registers d (unseen (Number n))) (own g number).left within (set_known g (own g number).registers d (unseen (Number n)) (sound.registers number) tt)
call_changes_soundly g number (commands.Nil d) reply sound within says =
    quiet_change g number (set (own g number).registers d unset) (own g number).left within (set_known g (own g number).registers d unset (sound.registers number) tt)
call_changes_soundly g number (commands.Copy d r) reply sound within says =
    quiet_change g number (set (own g number).registers d (register_cell g number r)) (own g number).left within (set_known g (own g number).registers d (register_cell g number r) (sound.registers number) (sound.registers number r))
call_changes_soundly g number commands.Leave reply sound within says = quiet_change g number (replicate register_count unset) true within (nil_known g)
call_changes_soundly g number _ reply sound within says = quiet_change g number (own g number).registers (own g number).left within (sound.registers number)

-- the graph stays sound
pub IsSound-changed : (g : Graph) (number : ℕ) (c : Change) → IsSound g → number < length g.seats → IsSoundChange g number c → IsSound (changed g number c)
IsSound-changed g number c sound within keeps =
    let h = changed g number c in
    let grows : Grows g h = Grows-changed g number c within keeps.sets in
    let Q = λ (o : Node). All (IsSoundCell h) o.cells in
    let old : AllCells (IsSoundCell h) g = AllCells-weaker (IsSoundCell g) (IsSoundCell h) g (λ cell is. (IsKnown-grows g h cell.value grows is.0, IsOld-grows g h cell.stamp grows is.1)) sound.cells in
    let blank : (cell : Cell) → cell ≡ unset → IsSoundCell h cell = λ cell is. subst (IsSoundCell h) (sym is) (tt, IsOld-none h) in
    let more : All Q c.more = All-weaker (λ (o : Node). All (λ (cell : Cell). cell ≡ unset) o.cells) Q (λ o. All-weaker (λ (cell : Cell). cell ≡ unset) (IsSoundCell h) blank o.cells) c.more keeps.more in
    record {
      registers = λ seat r. elim (cases_eq seat number) [
        | inl same ↦ subst (λ n. IsKnown h (register_value h n r)) (sym same) (subst (λ (o : Own). IsKnown h (get_or o.registers r unset).value) (sym (own-changed g number c within)) (keeps.registers r))
        | inr apart ↦ subst (λ (o : Own). IsKnown h (get_or o.registers r unset).value) (sym (own-changed_other g number seat c apart)) (IsKnown-grows g h (register_value g seat r) grows (sound.registers seat r))
      ];
      cells = AllCells-write (IsSoundCell h) (seat_changed g number c) c.place c.index c.cell (AllCells-seat_changed (IsSoundCell h) g number c old more) keeps.cell;
    }
