-- How many gets of a kind the logs still have.
use Rattle.std.proofs.Common.{◌≡◌, ℕ, zero, suc, ◌+◌, ◌<◌, ◌≤◌, ◌⊎◌, inl, inr, Bool, true, false, cond, List, [], ◌∷◌, ◌++◌, fold, set, sum_by, count_by, Option, Some, None, refl, sym, ap, ◌∙◌, subst, arith}
use Rattle.std.specs.List.{filter, range_with_len}
use Rattle.std.specs.Option.{option_to_list}
use Rattle.std.specs.declared.cmp.Ordering.{Ordering}
use Rattle.std.specs.declared.cmp.Ordering.TheVariants.{Less, Equal, Greater}
use Rattle.std.specs.Ordering.{is_eq}
use Rattle.std.proofs.lemmas.Bool.{cases_lt, cases_eq, cases_Bool, eqb-true}
use Rattle.std.proofs.lemmas.List.{get_or-replicate, map-set}
use Rattle.std.proofs.lemmas.List.Sums.{sum_by-append, sum_by-cons}
use Rattle.heap_model.specs.declared.heap.Heap.{Heap}
use Rattle.heap_model.specs.declared.id.Id.{Id}
use Rattle.heap_model.specs.declared.id.Id.TheVariants.{Made}
use Rattle.heap_model.specs.declared.id.Value.{Value}
use Rattle.heap_model.specs.declared.id.Value.TheVariants.{Object}
use Rattle.heap_model.specs.declared.graph.cell.Cell.{Cell}
use Rattle.heap_model.specs.declared.command.Command.{Command}
use Rattle.heap_model.specs.declared.command.Command.TheVariants as commands
use Rattle.heap_model.specs.declared.reply.Reply.{Reply}
use Rattle.heap_model.specs.declared.reply.Reply.TheVariants as replies
use Rattle.heap_model.specs.declared.entry.Entry.{Entry}
use Rattle.heap_model.specs.declared.entry.Entry.TheVariants as entries
use Rattle.heap_model.specs.account.Effects.{is_of}
use Rattle.heap_model.specs.account.Cycles.{graph_of}
use Rattle.heap_model.specs.graph.Objects.{absent_graph_seat, opening}
use Rattle.heap_model.specs.graph.Graph.{Graph, GraphSeat, opening_graph_seat}
use Rattle.heap_model.specs.graph.Growth.{after_entry, after_reply, graph_after}
use Rattle.heap_model.specs.graph.Replies.{Says}
use Rattle.heap_model.specs.graph.Legal.{Accepts, AcceptsAll}
use Rattle.log_merge.specs.declared.merging.pending_gets.PendingGet.{PendingGet}
use Rattle.log_merge.specs.Merging.{part_of}
use Rattle.log_merge.specs.PendingGets.{is_kind, kind_order}
use Rattle.log_merge.specs.Registers.{registers_after, registers_of, get_of, gets_in}
use Rattle.log_merge.proofs.merge_lemmas.Changes.{Own, own, values_in, values_of, value_of_register, change_of, after_reply-changed, own-changed}
use Rattle.log_merge.proofs.merge_lemmas.Kinds.{tied_kinds_are_equal, kind_is_tied_with_itself}
use Rattle.log_merge.proofs.merge_lemmas.Finding.{present_seat_is_there, own_seat_stays_by_other}
use Rattle.log_merge.proofs.merge_lemmas.Parts.{filter-yes, filter-no, part_of-seat}
use Rattle.log_merge.proofs.merge_lemmas.Rests.{not_of}

-- sums that differ nowhere
pub sum_of_same_parts : (f h : ℕ → ℕ) (from count : ℕ) → ((n : ℕ) → from ≤ n → n < from + count → h n ≡ f n) → sum_by h (range_with_len from count) ≡ sum_by f (range_with_len from count)
sum_of_same_parts f h from zero same = refl
sum_of_same_parts f h from (suc count) same =
    let first : h from ≡ f from = same from (omega arith) (omega arith) in
    let rest = sum_of_same_parts f h (from + 1) count (λ n above within. same n (omega (arith, above)) (omega (arith, within))) in
    let one = sum_by-cons f from (range_with_len (from + 1) count) in
    let other = sum_by-cons h from (range_with_len (from + 1) count) in
    omega (arith, first, rest, one, other)

-- sums that differ at one position
pub sum_grows_at_one : (f h : ℕ → ℕ) (from count at more : ℕ) → ((n : ℕ) → n < from + count → (n ≡ at → ⊥) → h n ≡ f n) → h at ≡ f at + more → from ≤ at → at < from + count
    → sum_by h (range_with_len from count) ≡ sum_by f (range_with_len from count) + more
sum_grows_at_one f h from zero at more same here above below = absurd (omega arith)
sum_grows_at_one f h from (suc count) at more same here above below =
    let one = sum_by-cons f from (range_with_len (from + 1) count) in
    let other = sum_by-cons h from (range_with_len (from + 1) count) in
    elim (cases_eq from at) [
      | inl equal ↦ (
          let first : h from ≡ f from + more = subst (λ n. h n ≡ f n + more) (sym equal) here in
          let rest = sum_of_same_parts f h (from + 1) count (λ n above within. same n (omega (arith, within)) (λ e. absurd (omega (arith, e, equal, above)))) in
          omega (arith, first, rest, one, other))
      | inr apart ↦ (
          let first : h from ≡ f from = same from (omega arith) apart in
          let rest = sum_grows_at_one f h (from + 1) count at more (λ n within others. same n (omega (arith, within)) others) here (omega (arith, above, apart)) (omega (arith, below)) in
          omega (arith, first, rest, one, other))
    ]

-- a part is at most the sum
pub part-le-sum : (f : ℕ → ℕ) (from count at : ℕ) → from ≤ at → at < from + count → f at ≤ sum_by f (range_with_len from count)
part-le-sum f from zero at above below = absurd (omega arith)
part-le-sum f from (suc count) at above below =
    let one = sum_by-cons f from (range_with_len (from + 1) count) in
    elim (cases_eq from at) [
      | inl equal ↦ (let here : f from ≡ f at = ap f equal in omega (arith, one, here))
      | inr apart ↦ (let rest = part-le-sum f (from + 1) count at (omega (arith, above, apart)) (omega (arith, below)) in omega (arith, rest, one))
    ]

-- a sum that isn't 0 has a part that isn't
pub positive_sum_has_part : (f : ℕ → ℕ) (from count : ℕ) → 0 < sum_by f (range_with_len from count) → (at : ℕ) × (at < from + count) × (0 < f at)
positive_sum_has_part f from zero more = absurd (omega (arith, more))
positive_sum_has_part f from (suc count) more =
    let one = sum_by-cons f from (range_with_len (from + 1) count) in
    elim (cases_lt 0 (f from)) [
      | inl here ↦ (from, omega arith, here)
      | inr none ↦ (let rest = positive_sum_has_part f (from + 1) count (omega (arith, more, none, one)) in (rest.0, omega (arith, rest.1), rest.2))
    ]

-- a log that has a get of a kind
pub record HasKind (held : List Value) (es : List Entry) (kind : PendingGet) : Type 0 where
  pub earlier : List Entry
  pub entry : Entry
  pub later : List Entry
  pub parted : es ≡ earlier ++ entry ∷ later
  pub is : get_of (fold registers_after held earlier) entry ≡ Some kind

HasKind-more : (held : List Value) (e : Entry) (es : List Entry) (kind : PendingGet) → HasKind (registers_after held e) es kind → HasKind held (e ∷ es) kind
HasKind-more held e es kind has = record {
  earlier = e ∷ has.earlier;
  entry = has.entry;
  later = has.later;
  parted = ap (λ xs. e ∷ xs) has.parted;
  is = has.is;
}

-- a count of one more, or of none
pub cond_true_is_one : (b : Bool) → b ≡ true → let n : ℕ = cond b 1 0 in n ≡ 1
cond_true_is_one b is = ap (λ x. let n : ℕ = cond x 1 0 in n) is

pub cond_false_is_none : (b : Bool) → b ≡ false → let n : ℕ = cond b 1 0 in n ≡ 0
cond_false_is_none b is = ap (λ x. let n : ℕ = cond x 1 0 in n) is

pub count_of_first_and_rest : (kind k : PendingGet) (rest : List PendingGet) → count_by (is_kind kind) (k ∷ rest) ≡ cond (is_kind kind k) 1 0 + count_by (is_kind kind) rest
count_of_first_and_rest kind k rest = sum_by-cons (λ (x : PendingGet). cond (is_kind kind x) 1 0) k rest

is_equal : (o : Ordering) → is_eq o ≡ true → o ≡ Equal
is_equal Less is = absurd cc
is_equal Equal is = refl
is_equal Greater is = absurd cc

pub equal_kinds_are_same : (a b : PendingGet) → is_kind a b ≡ true → a ≡ b
equal_kinds_are_same a b tied = tied_kinds_are_equal a b (is_equal (kind_order a b) tied)

first_counted : (held : List Value) (e : Entry) (es : List Entry) (kind : PendingGet) (o : Option PendingGet) → get_of held e ≡ o
    → (0 < count_by (is_kind kind) (gets_in (registers_after held e) es) → HasKind (registers_after held e) es kind)
    → 0 < count_by (is_kind kind) (option_to_list o ++ gets_in (registers_after held e) es) → HasKind held (e ∷ es) kind
first_counted held e es kind None is more some = HasKind-more held e es kind (more some)
first_counted held e es kind (Some k) is more some =
    let first = count_of_first_and_rest kind k (gets_in (registers_after held e) es) in
    elim (cases_Bool (is_kind kind k)) [
      | inl tied ↦ record { earlier = []; entry = e; later = es; parted = refl; is = is ∙ ap Some (sym (equal_kinds_are_same kind k tied)) }
      | inr apart ↦ HasKind-more held e es kind (more (let none = cond_false_is_none (is_kind kind k) apart in omega (arith, some, none, first)))
    ]

pub HasKind-counted : (held : List Value) (es : List Entry) (kind : PendingGet) → 0 < count_by (is_kind kind) (gets_in held es) → HasKind held es kind
HasKind-counted held [] kind some = absurd (omega (arith, some))
HasKind-counted held (e ∷ es) kind some = first_counted held e es kind (get_of held e) refl (HasKind-counted (registers_after held e) es kind) some

pub kept_kind_is_counted : (held : List Value) (earlier later : List Entry) (e : Entry) (kind : PendingGet) → get_of (fold registers_after held earlier) e ≡ Some kind → 0 < count_by (is_kind kind) (gets_in held (earlier ++ e ∷ later))
kept_kind_is_counted held [] later e kind is =
    subst (λ o. 0 < count_by (is_kind kind) (option_to_list o ++ gets_in (registers_after held e) later)) (sym is)
    (let one = cond_true_is_one (is_kind kind kind) (kind_is_tied_with_itself kind) in let first = count_of_first_and_rest kind kind (gets_in (registers_after held e) later) in omega (arith, one, first))
kept_kind_is_counted held (x ∷ earlier) later e kind is =
    let rest = kept_kind_is_counted (registers_after held x) earlier later e kind is in
    let all = sum_by-append (λ (k : PendingGet). cond (is_kind kind k) 1 0) (option_to_list (get_of held x)) (gets_in (registers_after held x) (earlier ++ e ∷ later)) in
    omega (arith, rest, all)

-- the registers that a seat's log shows are those of the graph
put_in : (o : Own) (d : ℕ) (cell : Cell) → values_in (set o.registers d cell) ≡ set (values_of o) d cell.value
put_in o d cell = map-set (λ (register : Cell). register.value) o.registers d cell

registers_said : (o : Own) (number : ℕ) (command : Command) (reply : Reply) → ((id : Id) → reply ≡ replies.Made id → (d n : ℕ) → (command ≡ commands.New d n) ⊎ (command ≡ commands.Array d n) → id ≡ Made number o.made)
    → values_in (change_of o number command reply).registers ≡ registers_after (values_of o) (entries.Said number command reply)
registers_said o number (commands.New d fields) (replies.Made id) next = put_in o d _ ∙ ap (λ x. set (values_of o) d (Object x)) (sym (next id refl d fields (inl refl)))
registers_said o number (commands.Array d cells) (replies.Made id) next = put_in o d _ ∙ ap (λ x. set (values_of o) d (Object x)) (sym (next id refl d cells (inr refl)))
registers_said o number (commands.Get d r i) (replies.Got value stamp) next = put_in o d _
registers_said o number (commands.Num d n) reply next = put_in o d _
registers_said o number (commands.Nil d) reply next = put_in o d _
registers_said o number (commands.Copy d r) reply next = put_in o d _ ∙ ap (set (values_of o) d) (sym (value_of_register o r))
registers_said o number commands.Leave reply next = refl
registers_said o number (commands.Set r i v) (replies.Was stamp) next = refl
registers_said o number (commands.Cas r i a v) (replies.Was stamp) next = refl
registers_said o number _ reply next = refl

next_made : (g : Graph) (number : ℕ) (command : Command) (reply : Reply) → Says g number command reply → (id : Id) → reply ≡ replies.Made id → (d n : ℕ) → (command ≡ commands.New d n) ⊎ (command ≡ commands.Array d n)
    → id ≡ Made number (own g number).made
next_made g number command reply says id is d n (inl new) =
    let said : Says g number (commands.New d n) (replies.Made id) = subst (λ c. Says g number c (replies.Made id)) new (subst (Says g number command) is says) in said
next_made g number command reply says id is d n (inr array) =
    let said : Says g number (commands.Array d n) (replies.Made id) = subst (λ c. Says g number c (replies.Made id)) array (subst (Says g number command) is says) in said

registers_step : (g : Graph) (e : Entry) (number : ℕ) → Accepts g e → is_of number e ≡ true → values_of (own (after_entry g e) number) ≡ registers_after (values_of (own g number)) e
registers_step g (entries.Said other command reply) number accepts is =
    subst (λ n. values_of (own (after_reply g other command reply) n) ≡ registers_after (values_of (own g n)) (entries.Said other command reply)) (eqb-true other number is)
    (ap (λ h. values_of (own h other)) (after_reply-changed g other command reply)
    ∙ ap values_of (own-changed g other (change_of (own g other) other command reply) (present_seat_is_there g other accepts.0))
    ∙ registers_said (own g other) other command reply (next_made g other command reply accepts.2))
registers_step g _ number accepts is = refl

pub registers_history : (es : List Entry) (g : Graph) (number : ℕ) → AcceptsAll g es → values_of (own (graph_after g es) number) ≡ fold registers_after (values_of (own g number)) (filter (is_of number) es)
registers_history [] g number accepts = refl
registers_history (e ∷ es) g number accepts = elim (cases_Bool (is_of number e)) [
  | inl mine ↦ registers_history es (after_entry g e) number accepts.1 ∙ ap (λ held. fold registers_after held (filter (is_of number) es)) (registers_step g e number accepts.0 mine)
      ∙ ap (fold registers_after (values_of (own g number))) (sym (filter-yes (is_of number) e es mine))
  | inr other ↦ registers_history es (after_entry g e) number accepts.1
      ∙ ap (λ (o : Own). fold registers_after (values_of o) (filter (is_of number) es)) (own_seat_stays_by_other g e number (not_of number e other))
      ∙ ap (fold registers_after (values_of (own g number))) (sym (filter-no (is_of number) e es other))
]

-- from the opening on
pub own_registers_are_shown : (heap : Heap) (es : List Entry) (number : ℕ) → AcceptsAll (opening heap) es → number < heap.seats → values_of (own (graph_of heap es) number) ≡ registers_of (part_of heap number es)
own_registers_are_shown heap es number accepts within =
    registers_history es (opening heap) number accepts
    ∙ ap (λ held. fold registers_after held (filter (is_of number) es)) (ap (λ (s : GraphSeat). values_in s.registers) (get_or-replicate heap.seats number opening_graph_seat absent_graph_seat within))
    ∙ ap registers_of (sym (part_of-seat heap number es within))
