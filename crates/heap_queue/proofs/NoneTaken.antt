-- Where no seat has taken a fragment and one was refused the first one, the board has all fragments of the heap.
use Rattle.std.proofs.Common.{◌≡◌, ℕ, ◌*◌, ◌≤◌, Bool, true, false, cond, inl, inr, List, [], ◌∷◌, ◌++◌, filter, refl, sym, ap, ◌∙◌, subst, append_assoc, append-nil, arith}
use Rattle.std.proofs.lemmas.Bool.{cases_Bool, eq-eqb, eqb-true}
use Rattle.std.proofs.lemmas.List.Sums.{sum_by-append, sum_by-cons}
use Rattle.heap_model.specs.Heap.{IsHeap}
use Rattle.heap_model.specs.Limits.{group_fragments}
use Rattle.heap_model.specs.Logs.{log_of}
use Rattle.heap_model.specs.Needs.{record_fragments}
use Rattle.heap_model.specs.account.Account.{IsLegal, KeepsSpace, KeepsSpaceAfter}
use Rattle.heap_model.specs.account.Effects.{effect_of, is_of}
use Rattle.heap_model.specs.account.Space.{total, total_of, taken_of, spent_of}
use Rattle.heap_model.specs.account.Refusals.{FindsSpace}
use Rattle.heap_model.specs.account.Windows.{since_reply}
use Rattle.heap_model.specs.declared.account.effect.Effect.{Effect}
use Rattle.heap_model.specs.declared.command.Command.TheVariants.{New}
use Rattle.heap_model.specs.declared.entry.Entry.{Entry}
use Rattle.heap_model.specs.declared.entry.Entry.TheVariants.{Said, Takes}
use Rattle.heap_model.specs.declared.heap.Heap.{Heap}
use Rattle.heap_model.specs.declared.reply.Reply.TheVariants.{Full}
use Rattle.heap_model.proofs.account_lemmas.Windows.{total_is_own_and_others, total_since_reply}
use Rattle.core_rule.proofs.told.OwnLists.{total_of_own_entries}

-- an entry takes nothing where its seat has taken nothing by it
takes_nothing : (entry : Entry) → ((number : ℕ) → cond (is_of number entry) (effect_of entry).taken 0 ≡ 0) → (effect_of entry).taken ≡ 0
takes_nothing (Takes number count) none = ap (λ own. cond own count 0) (sym (eq-eqb number number refl)) ∙ none number
takes_nothing _ none = refl

-- where no seat has taken something, nothing is taken
pub none_taken : (history : List Entry) → ((number : ℕ) → taken_of number history ≡ 0) → total (λ e. e.taken) history ≡ 0
none_taken [] none = refl
none_taken (entry ∷ history) none =
    let apart = λ (number : ℕ). sum_by-cons (λ e. cond (is_of number e) (effect_of e).taken 0) entry history in
    omega (
      arith,
      sum_by-cons (λ e. (effect_of e).taken) entry history,
      takes_nothing entry (λ number. omega (arith, apart number, none number)),
      none_taken history (λ number. omega (arith, apart number, none number)),
    )

-- each entry of a legal history keeps the rules of space after those before it
pub keeps_there : (heap : Heap) (play : Bool) (before front back : List Entry) (entry : Entry) → KeepsSpaceAfter heap play before (front ++ entry ∷ back) → KeepsSpace heap play (before ++ front) entry
keeps_there heap play before [] back entry keeps = subst (λ (b : List Entry). KeepsSpace heap play b entry) (sym (append-nil before)) keeps.0
keeps_there heap play before (first ∷ front) back entry keeps =
    subst (λ (b : List Entry). KeepsSpace heap play b entry) (append_assoc before (first ∷ []) front) (keeps_there heap play (before ++ first ∷ []) front back entry keeps.1)

-- where an entry stands that a filter keeps
pub record Stands (test : Entry → Bool) (earlier : List Entry) (entry : Entry) (history : List Entry) : Type 0 where
  pub front : List Entry
  pub back : List Entry
  pub parted : history ≡ front ++ entry ∷ back
  pub before : filter test front ≡ earlier
  pub passes : test entry ≡ true

no_more : (earlier later : List Entry) (x : Entry) → let none : List Entry = [] in (none ≡ earlier ++ x ∷ later) → ⊥
no_more [] later x same = cc
no_more (y ∷ earlier) later x same = cc

stands_here : (test : Entry → Bool) (y : Entry) (ys earlier later : List Entry) (x : Entry) → ((es : List Entry) → filter test ys ≡ es ++ x ∷ later → Stands test es x ys) → test y ≡ true
    → (y ∷ filter test ys) ≡ earlier ++ x ∷ later → Stands test earlier x (y ∷ ys)
stands_here test y ys [] later x more passes same =
    let e : y ≡ x = cc in
    record { front = []; back = ys; parted = ap (λ z. z ∷ ys) e; before = refl; passes = subst (λ z. test z ≡ true) e passes }
stands_here test y ys (z ∷ earlier) later x more passes same =
    let e : y ≡ z = cc in
    let others : filter test ys ≡ earlier ++ x ∷ later = cc in
    let rest = more earlier others in
    record {
      front = y ∷ rest.front;
      back = rest.back;
      parted = ap (λ zs. y ∷ zs) rest.parted;
      before = ap (λ own. cond own (y ∷ filter test rest.front) (filter test rest.front)) passes ∙ ap (λ zs. y ∷ zs) rest.before ∙ ap (λ w. w ∷ earlier) e;
      passes = rest.passes;
    }

pub stands : (test : Entry → Bool) (history earlier later : List Entry) (x : Entry) → filter test history ≡ earlier ++ x ∷ later → Stands test earlier x history
stands test [] earlier later x same = absurd (no_more earlier later x same)
stands test (y ∷ ys) earlier later x same = elim (cases_Bool (test y)) [
  | inl passes ↦ stands_here test y ys earlier later x (λ es is. stands test ys es later x is) passes (sym (ap (λ own. cond own (y ∷ filter test ys) (filter test ys)) passes) ∙ same)
  | inr fails ↦ (
      let rest = stands test ys earlier later x (sym (ap (λ own. cond own (y ∷ filter test ys) (filter test ys)) fails) ∙ same) in
      record {
        front = y ∷ rest.front;
        back = rest.back;
        parted = ap (λ zs. y ∷ zs) rest.parted;
        before = ap (λ own. cond own (y ∷ filter test rest.front) (filter test rest.front)) fails ∙ rest.before;
        passes = rest.passes;
      })
]

module _ (heap : Heap) (history : List Entry) (legal : IsLegal heap false history) (none : (number : ℕ) → taken_of number history ≡ 0) where
  -- what was found before a refusal that found nothing
  found_by : (front back : List Entry) → history ≡ front ++ Said 0 (New 15 2) (Full 1 0) ∷ back → spent_of 0 front ≡ 0 → group_fragments * heap.groups ≤ record_fragments heap.board
  found_by front back parted spent =
      let refusal : Entry = Said 0 (New 15 2) (Full 1 0) in
      let keeps : KeepsSpace heap false front refusal = keeps_there heap false [] front back refusal (subst (KeepsSpaceAfter heap false []) parted legal.space) in
      let finds : FindsSpace heap false front 0 0 = keeps.refuses.2 in
      let taken : total (λ e. e.taken) front ≡ 0
      = omega (arith, none_taken history none, ap (total (λ e. e.taken)) parted, sum_by-append (λ e. (effect_of e).taken) front (refusal ∷ back)) in
      let freed = total_since_reply 0 (λ e. e.freed) front in
      let given = total_since_reply 0 (λ e. e.given) front in
      let apart = total_is_own_and_others 0 (λ e. e.given) (since_reply 0 front) in
      omega (arith, finds.0, taken, freed, given, apart, spent)

  -- where a seat's log has a refusal that found nothing, behind entries that spent nothing
  pub board_has_all : IsHeap heap → (number : ℕ) (before behind : List Entry) → spent_of 0 before ≡ 0 → log_of 0 history ≡ before ++ Said number (New 15 2) (Full 1 0) ∷ behind
      → group_fragments * heap.groups ≡ record_fragments heap.board
  board_has_all limits number before behind spent log =
      let at = stands (is_of 0) history before behind (Said number (New 15 2) (Full 1 0)) log in
      let own : number ≡ 0 = eqb-true number 0 at.passes in
      let parted : history ≡ at.front ++ Said 0 (New 15 2) (Full 1 0) ∷ at.back = at.parted ∙ ap (λ (n : ℕ). at.front ++ Said n (New 15 2) (Full 1 0) ∷ at.back) own in
      let same = λ (summand : Effect → ℕ). sym (total_of_own_entries 0 summand at.front) ∙ ap (total_of 0 summand) at.before in
      let most = found_by at.front at.back parted (omega (arith, same (λ e. e.given), same (λ e. e.born), spent)) in
      omega (arith, most, limits.board_fits, limits.some_group)
