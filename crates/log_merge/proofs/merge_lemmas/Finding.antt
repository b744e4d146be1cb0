-- What entries find and write, and that a stamp which was replaced doesn't come back where no seat uses up its stamps.
use Rattle.std.proofs.Common.{◌≡◌, ℕ, ◌+◌, ◌<◌, ◌⊎◌, inl, inr, true, false, List, [], ◌∷◌, length, get_or, replicate, Some, Ok, refl, sym, ap, ◌∙◌, subst, arith}
use Rattle.std.specs.List.{All}
use Rattle.std.proofs.lemmas.Bool.{cases_lt, cases_eq}
use Rattle.std.proofs.lemmas.List.{get_or_past, get_or-replicate, length-replicate}
use Rattle.std.proofs.lemmas.List.Elements.{All-nil, All-cons, All-replicate}
use Rattle.heap_model.specs.Limits.{last_register}
use Rattle.heap_model.specs.Board.{board_fields}
use Rattle.heap_model.specs.declared.heap.Heap.{Heap}
use Rattle.heap_model.specs.declared.id.Id.{Id}
use Rattle.heap_model.specs.declared.id.Id.TheVariants.{Board}
use Rattle.heap_model.specs.declared.id.Value.{Value}
use Rattle.heap_model.specs.declared.id.Value.TheVariants.{Object}
use Rattle.heap_model.specs.declared.graph.cell.Cell.{Cell}
use Rattle.heap_model.specs.declared.command.Command.{Command}
use Rattle.heap_model.specs.declared.command.Command.TheVariants as commands
use Rattle.heap_model.specs.declared.reply.Reply.{Reply}
use Rattle.heap_model.specs.declared.reply.Reply.TheVariants as replies
use Rattle.heap_model.specs.declared.entry.Entry.{Entry}
use Rattle.heap_model.specs.declared.entry.Entry.TheVariants as entries
use Rattle.heap_model.specs.account.Noting.{seat_of}
use Rattle.heap_model.specs.graph.Objects.{graph_seat, register_value, absent_graph_seat, opening}
use Rattle.heap_model.specs.graph.Graph.{Node, GraphSeat, Graph, unseen, unset, opening_graph_seat}
use Rattle.heap_model.specs.graph.Changes.{set_stamp}
use Rattle.heap_model.specs.graph.Growth.{after_entry}
use Rattle.heap_model.specs.graph.Legal.{Accepts, AcceptsAll, IsPresent}
use Rattle.log_merge.specs.Merging.{IsGetOf, Writes}
use Rattle.log_merge.proofs.merge_lemmas.Changes.{Own, own, change_of, changed, with_set, after_reply-changed, own-changed, own-changed_other, seat_count_after_entry}
use Rattle.log_merge.proofs.merge_lemmas.Places.{look, IsKnown, found_look_is_known, values_equal_or_apart, look-changed_other, look-changed_same}
use Rattle.log_merge.proofs.merge_lemmas.Sound.{IsOld, IsSoundCell, IsSound, AllOfSeat, AllCells-look, Grows, Grows-changed, all_holds_or_default, IsKnown-grows, IsOld-grows, IsSetAt, set_stands_at_cell, swap_stands_at_cell, cas_finds_its_cell, get_finds_its_cell}
use Rattle.log_merge.proofs.merge_lemmas.FewSets.{HasFewSets, AllFew}
use Rattle.log_merge.proofs.merge_lemmas.Touching.{Finds}
use Rattle.log_merge.proofs.merge_lemmas.SoundChanges.{IsOld-none, call_changes_soundly, IsSound-changed}

-- a seat that is present is there
pub present_seat_is_there : (g : Graph) (number : ℕ) → IsPresent g number → number < length g.seats
present_seat_is_there g number present = elim (cases_lt number (length g.seats)) [
  | inl within ↦ within
  | inr past ↦ absurd (let gone : (graph_seat g number).left ≡ true = ap (λ (s : GraphSeat). s.left) (get_or_past g.seats number absent_graph_seat past) in let no : true ≡ false = sym gone ∙ present in cc)
]

-- nothing is wrong at the opening
pub IsSound-opening : (heap : Heap) → IsSound (opening heap)
IsSound-opening heap = record {
  registers = λ seat r. first_known (graph_seat (opening heap) seat) r (elim (cases_lt seat heap.seats) [
    | inl within ↦ inl (get_or-replicate heap.seats seat opening_graph_seat absent_graph_seat within)
    | inr past ↦ inr (get_or_past (replicate heap.seats opening_graph_seat) seat absent_graph_seat (omega (arith, length-replicate heap.seats opening_graph_seat)))
  ]);
  cells = record {
    board = All-replicate (IsSoundCell (opening heap)) (board_fields heap) unset (tt, IsOld-none (opening heap));
    seats = All-replicate (AllOfSeat (IsSoundCell (opening heap))) heap.seats opening_graph_seat (All-nil (λ (o : Node). All (IsSoundCell (opening heap)) o.cells));
  };
}
  where
    Holds : Cell → Type 0
    Holds register = IsKnown (opening heap) register.value

    nil_or_board : (r : ℕ) → IsKnown (opening heap) (get_or (unseen (Object Board) ∷ replicate last_register unset) r unset).value
    nil_or_board r = all_holds_or_default Holds (unseen (Object Board) ∷ replicate last_register unset) r unset (All-cons Holds (unseen (Object Board)) (replicate last_register unset) tt (All-replicate Holds last_register unset tt)) tt

    first_known : (s : GraphSeat) (r : ℕ) → (s ≡ opening_graph_seat) ⊎ (s ≡ absent_graph_seat) → IsKnown (opening heap) (get_or s.registers r unset).value
    first_known s r (inl is) = subst (λ (x : GraphSeat). IsKnown (opening heap) (get_or x.registers r unset).value) (sym is) (nil_or_board r)
    first_known s r (inr is) = subst (λ (x : GraphSeat). IsKnown (opening heap) (get_or x.registers r unset).value) (sym is) tt

-- an accepted entry keeps the graph sound
pub IsSound-after : (g : Graph) (e : Entry) → IsSound g → Accepts g e → IsSound (after_entry g e)
IsSound-after g (entries.Said number command reply) sound accepts =
    let within = present_seat_is_there g number accepts.0 in
    subst IsSound (sym (after_reply-changed g number command reply))
    (IsSound-changed g number (change_of (own g number) number command reply) sound within (call_changes_soundly g number command reply sound within accepts.2))
IsSound-after g _ sound accepts = sound

Grows-same : (g : Graph) → Grows g g
Grows-same g = record { made = λ seat. omega arith; sets = λ seat. omega arith }

-- and grows
pub Grows-after : (g : Graph) (e : Entry) → IsSound g → Accepts g e → Grows g (after_entry g e)
Grows-after g (entries.Said number command reply) sound accepts =
    let within = present_seat_is_there g number accepts.0 in
    subst (Grows g) (sym (after_reply-changed g number command reply))
    (Grows-changed g number (change_of (own g number) number command reply) within (call_changes_soundly g number command reply sound within accepts.2).sets)
Grows-after g _ sound accepts = Grows-same g

-- it leaves other seats what they alone decide
pub own_seat_stays_by_other : (g : Graph) (a : Entry) (number : ℕ) → (seat_of a ≡ Some number → ⊥) → own (after_entry g a) number ≡ own g number
own_seat_stays_by_other g (entries.Said other command reply) number apart =
    ap (λ h. own h number) (after_reply-changed g other command reply) ∙ own-changed_other g other number (change_of (own g other) other command reply) (λ e. apart (ap Some (sym e)))
own_seat_stays_by_other g _ number apart = refl

-- none of the entries gets it
abbrev pub NoGets : Graph → List Entry → Value → ℕ → ℕ → Type 0
NoGets g [] value j t = Unit {0}
NoGets g (a ∷ rest) value j t = (IsGetOf g a value j t → ⊥) × NoGets (after_entry g a) rest value j t

-- where an object's cell changes, it was set
pub changed_place_is_written : (g : Graph) (number : ℕ) (command : Command) (reply : Reply) (id : Id) → (change_of (own g number) number command reply).place ≡ Object id
    → (t : ℕ) × Writes g (entries.Said number command reply) (change_of (own g number) number command reply).place (change_of (own g number) number command reply).index t
changed_place_is_written g number (commands.Set r i v) (replies.Was stamp) id is = (stamp, (refl, refl, refl))
changed_place_is_written g number (commands.Cas r i a v) (replies.Was stamp) id is = (stamp, (refl, refl, refl))
changed_place_is_written g number (commands.New d fields) (replies.Made other) id is = absurd cc
changed_place_is_written g number (commands.Array d cells) (replies.Made other) id is = absurd cc
changed_place_is_written g number (commands.Get d r i) (replies.Got value stamp) id is = absurd cc
changed_place_is_written g number _ reply id is = absurd cc

-- it is set, or not
abbrev IsHere : Value → Value → ℕ → ℕ → ℕ → ℕ → Type 0
IsHere one other i j stamp t = (one ≡ other) × (i ≡ j) × (stamp ≡ t)

here_or_not : (one other : Value) (i j stamp : ℕ) → ((t : ℕ) × IsHere one other i j stamp t) ⊎ ((t : ℕ) → IsHere one other i j stamp t → ⊥)
here_or_not one other i j stamp = elim (values_equal_or_apart one other) [
  | inr apart ↦ inr (λ t is. apart is.0)
  | inl same ↦ elim (cases_eq i j) [ inl here ↦ inl (stamp, (same, here, refl)) | inr apart ↦ inr (λ t is. apart is.1) ]
]

set_or_not : (g : Graph) (e : Entry) (value : Value) (j : ℕ) → ((t : ℕ) × Writes g e value j t) ⊎ ((t : ℕ) → Writes g e value j t → ⊥)
set_or_not g (entries.Said number (commands.Set r i v) (replies.Was stamp)) value j = here_or_not (register_value g number r) value i j stamp
set_or_not g (entries.Said number (commands.Cas r i a v) (replies.Was stamp)) value j = here_or_not (register_value g number r) value i j stamp
set_or_not g _ value j = inr (λ t writes. writes)

-- what isn't set stays
pub look_stays_by_other : (g : Graph) (e : Entry) (value : Value) (j : ℕ) → IsKnown g value → ((t : ℕ) → Writes g e value j t → ⊥) → look (after_entry g e) value j ≡ look g value j
look_stays_by_other g (entries.Said number command reply) value j known apart =
    ap (λ h. look h value j) (after_reply-changed g number command reply)
    ∙ look-changed_other g number (change_of (own g number) number command reply) value j known (λ id is same here.
    let set = changed_place_is_written g number command reply id is in
    apart set.0 (subst (λ v. Writes g (entries.Said number command reply) v j set.0) (sym same) (subst (λ k. Writes g (entries.Said number command reply) (change_of (own g number) number command reply).place k set.0) (sym here) set.1)))
look_stays_by_other g _ value j known apart = refl

-- what a set finds and leaves
pub record IsWritten (g : Graph) (e : Entry) (value : Value) (j t : ℕ) : Type 0 where
  pub old : Cell
  pub found : look g value j ≡ Ok old
  pub shown : old.stamp ≡ t
  pub new : Cell
  pub left : look (after_entry g e) value j ≡ Ok new
  pub seat : ℕ
  pub there : seat < length (after_entry g e).seats
  pub counted : (own (after_entry g e) seat).sets ≡ (own g seat).sets + 1
  pub stamp : new.stamp ≡ set_stamp seat ((own g seat).sets + 1)

module _ (g : Graph) (number r i v stamp : ℕ) (command : Command) (sets : change_of (own g number) number command (replies.Was stamp) ≡ with_set (own g number) number r i v)
    (sound : IsSound g) (within : number < length g.seats) (at : IsSetAt g number (register_value g number r) i stamp) where
  abbrev its_entry : Entry
  its_entry = entries.Said number command (replies.Was stamp)

  written_at : IsWritten g its_entry (register_value g number r) i stamp
  written_at =
      let c = with_set (own g number) number r i v in
      record {
        old = at.cell;
        found = at.found;
        shown = at.shown;
        new = c.cell;
        left = ap (λ h. look h (register_value g number r) i) (after_reply-changed g number command (replies.Was stamp) ∙ ap (changed g number) sets)
            ∙ look-changed_same g number c at.cell (sound.registers number r) at.found;
        seat = number;
        there = omega (arith, within, seat_count_after_entry g its_entry);
        counted = ap (λ h. (own h number).sets) (after_reply-changed g number command (replies.Was stamp) ∙ ap (changed g number) sets) ∙ ap (λ (o : Own). o.sets) (own-changed g number c within);
        stamp = refl;
      }

  written_there : (value : Value) (j t : ℕ) → ((register_value g number r ≡ value) × (i ≡ j) × (stamp ≡ t)) → IsWritten g its_entry value j t
  written_there value j t is =
      subst (λ x. IsWritten g its_entry x j t) is.0 (subst (λ x. IsWritten g its_entry (register_value g number r) x t) is.1 (subst (λ x. IsWritten g its_entry (register_value g number r) i x) is.2 written_at))

pub changed_cell_is_written : (g : Graph) (e : Entry) (value : Value) (j t : ℕ) → IsSound g → Accepts g e → Writes g e value j t → IsWritten g e value j t
changed_cell_is_written g (entries.Said number (commands.Set r i v) (replies.Was stamp)) value j t sound accepts writes =
    written_there g number r i v stamp (commands.Set r i v) refl sound (present_seat_is_there g number accepts.0) (set_stands_at_cell g number r i v stamp accepts.2) value j t writes
changed_cell_is_written g (entries.Said number (commands.Cas r i a v) (replies.Was stamp)) value j t sound accepts writes =
    written_there g number r i v stamp (commands.Cas r i a v) refl sound (present_seat_is_there g number accepts.0) (swap_stands_at_cell g number r i a v stamp accepts.2) value j t writes
changed_cell_is_written g _ value j t sound accepts writes = absurd writes

-- the cell is there, without this stamp, which no set will give again before its seat's stamps are used up
pub record IsGone (g : Graph) (value : Value) (j t : ℕ) : Type 0 where
  pub known : IsKnown g value
  pub old : IsOld g t
  pub apart : (cell : Cell) → look g value j ≡ Ok cell → cell.stamp ≡ t → ⊥

ok_same : (g : Graph) (value : Value) (j : ℕ) (a b : Cell) → look g value j ≡ Ok a → look g value j ≡ Ok b → a.stamp ≡ b.stamp
ok_same g value j a b one other = let same : a ≡ b = cc in ap (λ (c : Cell). c.stamp) same

-- a set leaves a stamp that is not old, where its seat's stamps aren't used up
fresh_apart : (g : Graph) (e : Entry) (value : Value) (j was t : ℕ) → IsWritten g e value j was → HasFewSets (after_entry g e) → IsOld g t → (cell : Cell) → look (after_entry g e) value j ≡ Ok cell → cell.stamp ≡ t → ⊥
fresh_apart g e value j was t is few old cell found same =
    let equal : is.new.stamp ≡ cell.stamp = ok_same (after_entry g e) value j is.new cell is.left found in
    old is.seat ((own g is.seat).sets + 1) (omega arith) (let below = few is.seat is.there in omega (arith, below, is.counted)) (sym same ∙ sym equal ∙ is.stamp)

-- what is gone stays so
pub IsGone-after : (g : Graph) (e : Entry) (value : Value) (j t : ℕ) → IsSound g → Accepts g e → HasFewSets (after_entry g e) → IsGone g value j t → IsGone (after_entry g e) value j t
IsGone-after g e value j t sound accepts few gone =
    let grows = Grows-after g e sound accepts in
    record {
      known = IsKnown-grows g (after_entry g e) value grows gone.known;
      old = IsOld-grows g (after_entry g e) t grows gone.old;
      apart = elim (set_or_not g e value j) [
        | inl set ↦ fresh_apart g e value j set.0 t (changed_cell_is_written g e value j set.0 sound accepts set.1) few gone.old
        | inr none ↦ (λ cell found. gone.apart cell (sym (look_stays_by_other g e value j gone.known none) ∙ found))
      ];
    }

-- what a set replaces is gone
pub IsGone-written : (g : Graph) (e : Entry) (value : Value) (j t : ℕ) → IsSound g → Accepts g e → HasFewSets (after_entry g e) → Writes g e value j t → IsGone (after_entry g e) value j t
IsGone-written g e value j t sound accepts few writes =
    let is = changed_cell_is_written g e value j t sound accepts writes in
    let grows = Grows-after g e sound accepts in
    let old : IsOld g t = subst (IsOld g) is.shown (AllCells-look (IsSoundCell g) g value j is.old sound.cells is.found).1 in
    record {
      known = IsKnown-grows g (after_entry g e) value grows (found_look_is_known g value j is.old is.found);
      old = IsOld-grows g (after_entry g e) t grows old;
      apart = fresh_apart g e value j t t is few old;
    }

-- what an accepted get, set or cas finds is there
found_there : (g : Graph) (one other : Value) (i j stamp t : ℕ) (cell : Cell) → look g one i ≡ Ok cell → cell.stamp ≡ stamp → ((one ≡ other) × (i ≡ j) × (stamp ≡ t)) → (found : Cell) × (look g other j ≡ Ok found) × (found.stamp ≡ t)
found_there g one other i j stamp t cell there shown is = (cell, subst (λ x. look g x j ≡ Ok cell) is.0 (subst (λ x. look g one x ≡ Ok cell) is.1 there), shown ∙ is.2)

finds_there : (g : Graph) (e : Entry) (value : Value) (j t : ℕ) → IsSound g → Accepts g e → Finds g e value j t → (cell : Cell) × (look g value j ≡ Ok cell) × (cell.stamp ≡ t)
finds_there g e value j t sound accepts (inr writes) = (let is = changed_cell_is_written g e value j t sound accepts writes in (is.old, is.found, is.shown))
finds_there g (entries.Said number (commands.Get d r i) (replies.Got found stamp)) value j t sound accepts (inl gets) =
    let got = get_finds_its_cell g number d r i found stamp accepts.2 in found_there g (register_value g number r) value i j stamp t got.0 got.1 got.3 gets
finds_there g (entries.Said number (commands.Cas r i a v) (replies.Now stamp)) value j t sound accepts (inl gets) =
    let left = cas_finds_its_cell g number r i a v stamp accepts.2 in found_there g (register_value g number r) value i j stamp t left.0 left.1 left.2 gets
finds_there g _ value j t sound accepts (inl gets) = absurd gets

-- so it finds nothing that is gone
pub found_is_not_gone : (g : Graph) (e : Entry) (value : Value) (j t : ℕ) → IsSound g → Accepts g e → IsGone g value j t → Finds g e value j t → ⊥
found_is_not_gone g e value j t sound accepts gone finds = (let there = finds_there g e value j t sound accepts finds in gone.apart there.0 there.1 there.2)

pub NoGets-gone : (g : Graph) (rest : List Entry) (value : Value) (j t : ℕ) → IsSound g → AcceptsAll g rest → AllFew g rest → IsGone g value j t → NoGets g rest value j t
NoGets-gone g [] value j t sound accepts few gone = tt
NoGets-gone g (a ∷ rest) value j t sound accepts few gone = (
  (λ gets. found_is_not_gone g a value j t sound accepts.0 gone (inl gets)),
  NoGets-gone (after_entry g a) rest value j t (IsSound-after g a sound accepts.0) accepts.1 few.1 (IsGone-after g a value j t sound accepts.0 few.0 gone),
)
