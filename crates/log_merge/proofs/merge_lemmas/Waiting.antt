-- Which gets of other logs an entry waits for.
use Rattle.std.proofs.Common.{◌≡◌, ℕ, ◌+◌, ◌<◌, ◌≤◌, inl, inr, List, ◌∷◌, ◌++◌, fold, get_or, count_by, Some, Ok, refl, sym, ap, ◌∙◌, subst, arith, append_assoc}
use Rattle.std.proofs.lemmas.Bool.{cases_lt}
use Rattle.std.proofs.lemmas.List.Sums.{fold-append}
use Rattle.std.proofs.lemmas.Option.{none-some}
use Rattle.heap_model.specs.declared.heap.Heap.{Heap}
use Rattle.heap_model.specs.declared.id.Id.{Id}
use Rattle.heap_model.specs.declared.id.Value.{Value}
use Rattle.heap_model.specs.declared.id.Value.TheVariants.{Nil, Number, Object}
use Rattle.heap_model.specs.declared.graph.cell.Cell.{Cell}
use Rattle.heap_model.specs.declared.command.Command.TheVariants as commands
use Rattle.heap_model.specs.declared.reply.Reply.TheVariants as replies
use Rattle.heap_model.specs.declared.entry.Entry.{Entry}
use Rattle.heap_model.specs.declared.entry.Entry.TheVariants as entries
use Rattle.heap_model.specs.account.Cycles.{graph_of}
use Rattle.heap_model.specs.account.Noting.{seat_of}
use Rattle.heap_model.specs.graph.Objects.{register_value, opening}
use Rattle.heap_model.specs.graph.Graph.{Graph}
use Rattle.heap_model.specs.graph.Legal.{Accepts, AcceptsAll}
use Rattle.log_merge.specs.declared.merging.pending_gets.PendingGet.{PendingGet}
use Rattle.log_merge.specs.Merging.{is_in_log, part_of, left_of, IsGetOf, Writes, HasGet, WaitsForNone, IsReady, IsNext}
use Rattle.log_merge.specs.PendingGets.{is_kind}
use Rattle.log_merge.specs.Registers.{opening_registers, registers_after, registers_of, kind_of, get_of, gets_in}
use Rattle.log_merge.specs.Placing.{IsCompletion, count_in, count_left, replaced_by}
use Rattle.log_merge.proofs.merge_lemmas.Changes.{own, values_of, value_of_register}
use Rattle.log_merge.proofs.merge_lemmas.Places.{look}
use Rattle.log_merge.proofs.merge_lemmas.Finding.{changed_cell_is_written}
use Rattle.log_merge.proofs.merge_lemmas.Counting.{part-le-sum, positive_sum_has_part, HasKind-counted, kept_kind_is_counted, own_registers_are_shown}
use Rattle.log_merge.proofs.merge_lemmas.Parts.{no_more, parted_filter, part_of-append, left_of-rest, left_of-past}
use Rattle.log_merge.proofs.merge_lemmas.Rests.{AcceptsAll-parts, own_seat_by_parts, seat_entry_in_own_log, get_has_seat, placed_is_sound, first_replaces_no_pending}
use Rattle.log_merge.proofs.merge_lemmas.Moving.{ready_stands_first}

-- what a kind says of the value, the index and the stamp
kind_is : (value : Value) (i stamp : ℕ) (kind : PendingGet) → kind_of value i stamp ≡ Some kind → (value ≡ Object kind.object) × (i ≡ kind.index) × (stamp ≡ kind.stamp)
kind_is Nil i stamp kind is = absurd cc
kind_is (Number n) i stamp kind is = absurd cc
kind_is (Object id) i stamp kind is =
    let made : PendingGet = record { object = id; index = i; stamp = stamp } in
    let same : made ≡ kind = cc in
    (ap (λ (k : PendingGet). Object k.object) same, ap (λ (k : PendingGet). k.index) same, ap (λ (k : PendingGet). k.stamp) same)

-- and the kind of these
abbrev kind_at : Id → ℕ → ℕ → PendingGet
kind_at id i stamp = record { object = id; index = i; stamp = stamp }

is_of_kind : (value : Value) (i stamp : ℕ) (kind : PendingGet) → ((value ≡ Object kind.object) × (i ≡ kind.index) × (stamp ≡ kind.stamp)) → kind_of value i stamp ≡ Some kind
is_of_kind value i stamp kind is = ap (λ v. kind_of v i stamp) is.0 ∙ ap (λ j. Some (kind_at kind.object j stamp)) is.1 ∙ ap (λ t. Some (kind_at kind.object kind.index t)) is.2

-- a seat's registers, as its log shows them, somewhere in the rest
shown_at : (heap : Heap) (logs : List (List Entry)) (placed rest front back : List Entry) (number : ℕ) → IsCompletion heap logs placed rest → rest ≡ front ++ back → number < heap.seats
    → values_of (own (graph_of heap (part_of heap number placed ++ part_of heap number front)) number) ≡ fold registers_after (registers_of (part_of heap number placed)) (part_of heap number front)
shown_at heap logs placed rest front back number completion parted within =
    let whole : AcceptsAll (opening heap) ((placed ++ front) ++ back) = subst (AcceptsAll (opening heap)) (ap (λ es. placed ++ es) parted ∙ sym (append_assoc placed front back)) completion.legal in
    ap values_of (sym (own_seat_by_parts heap number placed front within))
    ∙ own_registers_are_shown heap (placed ++ front) number (AcceptsAll-parts (opening heap) (placed ++ front) back whole).0 within
    ∙ ap registers_of (part_of-append heap number placed front)
    ∙ fold-append registers_after opening_registers (part_of heap number placed) (part_of heap number front)

-- and somewhere in the log
shown_before : (heap : Heap) (logs : List (List Entry)) (placed rest earlier later : List Entry) (x : Entry) (number seat : ℕ) → IsCompletion heap logs placed rest → number ≤ heap.seats
    → left_of heap logs placed number ≡ earlier ++ x ∷ later → seat_of x ≡ Some seat
    → (seat ≡ number) × (values_of (own (graph_of heap (part_of heap number placed ++ earlier)) number) ≡ fold registers_after (registers_of (part_of heap number placed)) earlier)
shown_before heap logs placed rest earlier later x number seat completion within parted its =
    let there = parted_filter (is_in_log heap number) rest earlier later x (sym (left_of-rest heap logs placed rest number completion.kept within) ∙ parted) in
    let log = seat_entry_in_own_log heap number seat x its there.passes in (
      log.1,
      subst (λ es. values_of (own (graph_of heap (part_of heap number placed ++ es)) number) ≡ fold registers_after (registers_of (part_of heap number placed)) es) there.before
          (shown_at heap logs placed rest there.front (x ∷ there.back) number completion there.parted log.0),
    )

-- a get by the log's registers is one by the graph's
module _ (heap : Heap) (placed earlier : List Entry) (number : ℕ) (kind : PendingGet)
    (shown : values_of (own (graph_of heap (part_of heap number placed ++ earlier)) number) ≡ fold registers_after (registers_of (part_of heap number placed)) earlier) where
  abbrev held : List Value
  held = fold registers_after (registers_of (part_of heap number placed)) earlier

  abbrev there : Graph
  there = graph_of heap (part_of heap number placed ++ earlier)

  shown_register : (seat r : ℕ) → seat ≡ number → get_or held r Nil ≡ register_value there seat r
  shown_register seat r its = ap (λ rs. get_or rs r Nil) (sym shown) ∙ value_of_register (own there number) r ∙ ap (λ n. register_value there n r) (sym its)

  cell_there : (seat r i stamp : ℕ) → seat ≡ number → kind_of (get_or held r Nil) i stamp ≡ Some kind → (register_value there seat r ≡ Object kind.object) × (i ≡ kind.index) × (stamp ≡ kind.stamp)
  cell_there seat r i stamp its is = let all = kind_is (get_or held r Nil) i stamp kind is in (sym (shown_register seat r its) ∙ all.0, all.1, all.2)

  got_there : (x : Entry) → ((seat : ℕ) → seat_of x ≡ Some seat → seat ≡ number) → get_of held x ≡ Some kind → IsGetOf there x (Object kind.object) kind.index kind.stamp
  got_there (entries.Said seat (commands.Get d r i) (replies.Got found stamp)) its is = cell_there seat r i stamp (its seat refl) is
  got_there (entries.Said seat (commands.Cas r i a v) (replies.Now stamp)) its is = cell_there seat r i stamp (its seat refl) is
  got_there _ its is = absurd (none-some kind is)

  kind_there : (seat r i stamp : ℕ) → seat ≡ number → ((register_value there seat r ≡ Object kind.object) × (i ≡ kind.index) × (stamp ≡ kind.stamp)) → kind_of (get_or held r Nil) i stamp ≡ Some kind
  kind_there seat r i stamp its is = is_of_kind (get_or held r Nil) i stamp kind (shown_register seat r its ∙ is.0, is.1, is.2)

  kind_of_get : (x : Entry) → ((seat : ℕ) → seat_of x ≡ Some seat → seat ≡ number) → IsGetOf there x (Object kind.object) kind.index kind.stamp → get_of held x ≡ Some kind
  kind_of_get (entries.Said seat (commands.Get d r i) (replies.Got found stamp)) its gets = kind_there seat r i stamp (its seat refl) gets
  kind_of_get (entries.Said seat (commands.Cas r i a v) (replies.Now stamp)) its gets = kind_there seat r i stamp (its seat refl) gets
  kind_of_get _ its gets = absurd gets

seat_of_kind : (held : List Value) (x : Entry) (kind : PendingGet) → get_of held x ≡ Some kind → (seat : ℕ) × (seat_of x ≡ Some seat)
seat_of_kind held (entries.Said seat command reply) kind is = (seat, refl)
seat_of_kind held _ kind is = absurd (none-some kind is)

-- a get that is counted is one that the log has
has_get : (heap : Heap) (logs : List (List Entry)) (placed rest : List Entry) (number : ℕ) (kind : PendingGet) → IsCompletion heap logs placed rest → number ≤ heap.seats
    → 0 < count_in heap logs placed kind number → HasGet heap (part_of heap number placed) (left_of heap logs placed number) (Object kind.object) kind.index kind.stamp
has_get heap logs placed rest number kind completion within some =
    let has = HasKind-counted (registers_of (part_of heap number placed)) (left_of heap logs placed number) kind some in
    let its = λ (seat : ℕ) (is : seat_of has.entry ≡ Some seat). shown_before heap logs placed rest has.earlier has.later has.entry number seat completion within has.parted is in
    let seat = seat_of_kind (fold registers_after (registers_of (part_of heap number placed)) has.earlier) has.entry kind has.is in
    record {
      earlier = has.earlier;
      entry = has.entry;
      later = has.later;
      parted = has.parted;
      gets = got_there heap placed has.earlier number kind (its seat.0 seat.1).1 has.entry (λ s is. (its s is).0) has.is;
    }

-- and one that the log has is counted
counted_get : (heap : Heap) (logs : List (List Entry)) (placed rest : List Entry) (number : ℕ) (id : Id) (i stamp : ℕ) → IsCompletion heap logs placed rest → number ≤ heap.seats
    → HasGet heap (part_of heap number placed) (left_of heap logs placed number) (Object id) i stamp → 0 < count_in heap logs placed (kind_at id i stamp) number
counted_get heap logs placed rest number id i stamp completion within has =
    let kind = kind_at id i stamp in
    let held = registers_of (part_of heap number placed) in
    let its = λ (seat : ℕ) (is : seat_of has.entry ≡ Some seat). shown_before heap logs placed rest has.earlier has.later has.entry number seat completion within has.parted is in
    let seat = get_has_seat (graph_of heap (part_of heap number placed ++ has.earlier)) has.entry (Object id) i stamp has.gets in
    let is = kind_of_get heap placed has.earlier number kind (its seat.0 seat.1).1 has.entry (λ s is. (its s is).0) has.gets in
    subst (λ es. 0 < count_by (is_kind kind) (gets_in held es)) (sym has.parted) (kept_kind_is_counted held has.earlier has.later has.entry kind is)

-- what a set replaces
replaced_writes : (g : Graph) (e : Entry) (kind : PendingGet) → replaced_by g e ≡ Some kind → Writes g e (Object kind.object) kind.index kind.stamp
replaced_writes g (entries.Said seat (commands.Set r i v) (replies.Was stamp)) kind is = kind_is (register_value g seat r) i stamp kind is
replaced_writes g (entries.Said seat (commands.Cas r i a v) (replies.Was stamp)) kind is = kind_is (register_value g seat r) i stamp kind is
replaced_writes g _ kind is = absurd (none-some kind is)

written_is_replaced : (g : Graph) (e : Entry) (kind : PendingGet) → Writes g e (Object kind.object) kind.index kind.stamp → replaced_by g e ≡ Some kind
written_is_replaced g (entries.Said seat (commands.Set r i v) (replies.Was stamp)) kind writes = is_of_kind (register_value g seat r) i stamp kind writes
written_is_replaced g (entries.Said seat (commands.Cas r i a v) (replies.Was stamp)) kind writes = is_of_kind (register_value g seat r) i stamp kind writes
written_is_replaced g _ kind writes = absurd writes

-- where gets are left of what it replaces, it isn't ready
pub waiting_is_not_ready : (heap : Heap) (logs : List (List Entry)) (placed rest : List Entry) (number : ℕ) (e : Entry) (kind : PendingGet) → IsCompletion heap logs placed rest → number ≤ heap.seats → IsNext heap logs placed number e
    → replaced_by (graph_of heap placed) e ≡ Some kind → 0 < count_left heap logs placed kind → IsReady heap logs placed number e → ⊥
waiting_is_not_ready heap logs placed rest number e kind completion within next is some ready =
    let first = ready_stands_first heap logs placed rest number e completion within next ready in
    let log = positive_sum_has_part (count_in heap logs placed kind) 0 (heap.seats + 1) some in
    let there : log.0 ≤ heap.seats = omega (arith, log.1) in
    first_replaces_no_pending heap logs placed first.rest e log.0 (Object kind.object) kind.index kind.stamp first.completion (replaced_writes (graph_of heap placed) e kind is)
    (has_get heap logs placed (e ∷ first.rest) log.0 kind first.completion there log.2)

-- where a cell is found, the value is an object
object_there : (g : Graph) (value : Value) (i : ℕ) (cell : Cell) → look g value i ≡ Ok cell → (id : Id) × (value ≡ Object id)
object_there g Nil i cell found = absurd cc
object_there g (Number n) i cell found = absurd cc
object_there g (Object id) i cell found = (id, refl)

-- where none are left, it waits for none
pub waits_for_none : (heap : Heap) (logs : List (List Entry)) (placed rest : List Entry) (number : ℕ) (e : Entry) → IsCompletion heap logs placed rest → Accepts (graph_of heap placed) e
    → ((kind : PendingGet) → replaced_by (graph_of heap placed) e ≡ Some kind → 0 < count_left heap logs placed kind → ⊥) → WaitsForNone heap logs placed number e
waits_for_none heap logs placed rest number e completion accepts none = λ value i stamp writes pending.
    let g = graph_of heap placed in
    let at = changed_cell_is_written g e value i stamp (placed_is_sound heap logs placed rest completion) accepts writes in
    let object = object_there g value i at.old at.found in
    let kind = kind_at object.0 i stamp in
    let gets : HasGet heap (part_of heap pending.other placed) (left_of heap logs placed pending.other) (Object object.0) i stamp =
    subst (λ w. HasGet heap (part_of heap pending.other placed) (left_of heap logs placed pending.other) w i stamp) object.1 pending.gets in
    elim (cases_lt heap.seats pending.other) [
      | inl past ↦ no_more gets.earlier gets.later gets.entry (sym (left_of-past heap logs placed rest pending.other completion.kept past) ∙ gets.parted)
      | inr there ↦ none kind (written_is_replaced g e kind (subst (λ w. Writes g e w i stamp) object.1 writes))
          (let one = counted_get heap logs placed rest pending.other object.0 i stamp completion there gets in
          let all = part-le-sum (count_in heap logs placed kind) 0 (heap.seats + 1) pending.other (omega arith) (omega (arith, there)) in omega (arith, one, all))
    ]
