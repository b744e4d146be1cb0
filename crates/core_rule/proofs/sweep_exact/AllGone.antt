-- Where all seats have left before a cycle begins, its bound is nothing.
use Rattle.std.proofs.Common.{◌≡◌, ℕ, ◌<◌, ◌==◌, Bool, true, inl, inr, List, [], ◌∷◌, ◌++◌, refl, sym, ◌∙◌, subst, append_assoc, arith}
use Rattle.std.proofs.lemmas.Bool.{cases_lt, or_cases, eqb-true, eq-eqb}
use Rattle.std.proofs.lemmas.List.{append-nil}
use Rattle.core_rule.proofs.Terms.{KeepsSpace, KeepsSpaceAfter, IsLegal, graph_of, brings, all_bring, bound, has_left, is_leave_of, total, begins_cycle, is_reply_to, up_to_cycle}
use Rattle.core_rule.proofs.Terms.{since_cycle, Entry, Heap, Id, Reply, Graph, opening, after_entry, Accepts, AcceptsAll, IsObjectLegal, Reaches, from_register, from_cell, IsRoot}
use Rattle.core_rule.proofs.Terms.{IsReach}
use Rattle.heap_model.specs.declared.command.Command.TheVariants as commands
use Rattle.heap_model.specs.declared.entry.Entry.TheVariants as entries
use Rattle.heap_model.proofs.Histories.{graph_after-more, total_of-more}
use Rattle.heap_model.proofs.account_lemmas.Windows.{window_sections_make_whole, any_with_entry_more, up_to_last-yes, after_last-yes}
use Rattle.core_machine.proofs.table_lemmas.Free.{sum_of_nothing_is_zero}
use Rattle.core_rule.proofs.footprint.Bounds.{brings_stays_by_other}
use Rattle.core_rule.proofs.footprint.Brought.{range_sum_is_counted_sum}
use Rattle.core_rule.proofs.sweep_exact.GoneSeats.{IsGone, gone_stays_after_entry, gone_after_leave, gone_has_no_entry, gone_stays_after_history, gone_at_opening, gone_take_none, gone_make_no_words}
use Rattle.heap_model.proofs.graph_changes.LeftSeats.{left_registers_are_nil}
use Rattle.core_rule.proofs.growth.LaterGraphs.{accepts_later}
use Rattle.core_rule.proofs.growth.RegisterIds.{root_is_in_register}

-- a seat that has left is gone, and brings nothing
pub record IsThrough (heap : Heap) (number : ℕ) (history : List Entry) : Type 0 where
  pub gone : IsGone (graph_of heap history) number
  pub none : brings number history ≡ 0

-- it has given all back when it leaves
leave_brings : (heap : Heap) (play : Bool) (history : List Entry) (number : ℕ) (reply : Reply) → KeepsSpace heap play history (entries.Said number commands.Leave reply)
    → brings number (history ++ entries.Said number commands.Leave reply ∷ []) ≡ 0
leave_brings heap play history number reply keeps =
    let leave : Entry = entries.Said number commands.Leave reply in
    let own : (number == number) ≡ true = eq-eqb number number refl in
    rw (
      up_to_last-yes (is_reply_to number) history leave own,
      after_last-yes (is_reply_to number) history leave own,
      total_of-more number (λ e. e.taken) history leave,
      total_of-more number (λ e. e.given) history leave,
      total_of-more number (λ e. e.born) history leave,
      own,
    )
    (omega (arith, keeps.makes.1))

module _ (heap : Heap) (play : Bool) (number : ℕ) where
  abbrev pub WhereLeft : List Entry → Type 0
  WhereLeft history = has_left number history ≡ true → IsThrough heap number history

  -- an entry that makes it leave, or another's
  through_more : (history : List Entry) (entry : Entry) → Accepts (graph_of heap history) entry → KeepsSpace heap play history entry → WhereLeft history → WhereLeft (history ++ entry ∷ [])
  through_more history entry accepts keeps through left =
      elim (or_cases (has_left number history) (is_leave_of number entry) (sym (any_with_entry_more (is_leave_of number) history entry) ∙ left)) [
        | inl before ↦ record {
          gone = subst (λ g. IsGone g number) (sym (graph_after-more (opening heap) history entry)) (gone_stays_after_entry (graph_of heap history) number entry accepts (through before).gone);
          none = brings_stays_by_other number history entry (gone_has_no_entry (graph_of heap history) number entry accepts (through before).gone) ∙ (through before).none;
        }
        | inr leaves ↦ record {
          gone = subst (λ g. IsGone g number) (sym (graph_after-more (opening heap) history entry)) (gone_after_leave (graph_of heap history) number entry accepts leaves);
          none = by entry keeps leaves;
        }
      ]
    where
      by : (e : Entry) → KeepsSpace heap play history e → is_leave_of number e ≡ true → brings number (history ++ e ∷ []) ≡ 0
      by (entries.Said other commands.Leave reply) its here =
          subst (λ n. brings n (history ++ entries.Said other commands.Leave reply ∷ []) ≡ 0) (eqb-true other number here) (leave_brings heap play history other reply its)
      by _ its here = absurd (cc)

  -- so after the later section of a legal history
  through_after : (before later rest : List Entry) → AcceptsAll (graph_of heap before) (later ++ rest) → KeepsSpaceAfter heap play before (later ++ rest) → WhereLeft before
      → WhereLeft (before ++ later)
  through_after before [] rest accepts keeps through = subst WhereLeft (sym (append-nil before)) through
  through_after before (entry ∷ later) rest accepts keeps through =
      subst WhereLeft (append_assoc before (entry ∷ []) later)
      (through_after (before ++ entry ∷ []) later rest (subst (λ g. AcceptsAll g (later ++ rest)) (sym (graph_after-more (opening heap) before entry)) accepts.1) keeps.1
      (through_more before entry accepts.0 keeps.0 through))

  pub through_legal : (history rest : List Entry) → IsLegal heap play (history ++ rest) → WhereLeft history
  through_legal history rest legal = through_after [] history rest legal.objects legal.space (λ left. absurd (cc))

-- the first section of what a graph accepts
pub accepts_first_section : (g : Graph) (history later : List Entry) → AcceptsAll g (history ++ later) → AcceptsAll g history
accepts_first_section g [] later accepts = tt
accepts_first_section g (entry ∷ history) later accepts = (accepts.0, accepts_first_section (after_entry g entry) history later accepts.1)

module _ (heap : Heap) (play : Bool) (history : List Entry) (legal : IsLegal heap play history) (left : (number : ℕ) → number < heap.seats → has_left number (up_to_cycle history) ≡ true) where
  abbrev earlier : Graph
  earlier = graph_of heap (up_to_cycle history)

  legal_sections : IsLegal heap play (up_to_cycle history ++ since_cycle history)
  legal_sections = subst (IsLegal heap play) (sym (window_sections_make_whole begins_cycle history)) legal

  legal_then : IsObjectLegal heap (up_to_cycle history)
  legal_then = accepts_first_section (opening heap) (up_to_cycle history) (since_cycle history) legal_sections.objects

  through : (number : ℕ) → number < heap.seats → IsThrough heap number (up_to_cycle history)
  through number below = through_legal heap play number (up_to_cycle history) (since_cycle history) legal_sections (left number below)

  all_left : (number : ℕ) → IsGone earlier number
  all_left number = elim (cases_lt number heap.seats) [
    | inl below ↦ (through number below).gone
    | inr past ↦ gone_stays_after_history (opening heap) number (up_to_cycle history) legal_then (gone_at_opening heap number past)
  ]

  no_root : (id : Id) → ¬ IsRoot earlier id
  no_root id root =
      let its = root_is_in_register earlier id root in
      absurd (cc (left_registers_are_nil heap (up_to_cycle history) its.number legal_then (all_left its.number) its.register, its.holds))

  no_reached : (id : Id) → ¬ Reaches earlier id
  no_reached _ (from_register id made root) = no_root id root
  no_reached _ (from_cell id made holder reached points) = no_reached holder reached

  -- nothing is reached then
  pub nothing_is_reached : IsReach earlier []
  nothing_is_reached = record {
    ordered = λ i j d less within. absurd (omega (arith, within));
    reached = λ id. (λ there. absurd (omega (arith, there.1)), λ its. absurd (no_reached id its));
  }

  -- and the seats bring nothing, and take nothing later
  pub none_brought : all_bring heap (up_to_cycle history) ≡ 0
  none_brought = range_sum_is_counted_sum heap.seats (λ q. brings q (up_to_cycle history)) ∙ sum_of_nothing_is_zero heap.seats (λ q. brings q (up_to_cycle history)) (λ q below. (through q below).none)

  pub none_since : total (λ e. e.taken) (since_cycle history) ≡ 0
  none_since = gone_take_none earlier (since_cycle history) (accepts_later (opening heap) (up_to_cycle history) (since_cycle history) legal_sections.objects) all_left

  pub bound_is_none : bound heap [] history ≡ 0
  bound_is_none = omega (arith, none_brought, none_since)

  -- no array was made since
  pub no_words_granted_since : total (λ e. e.words) (since_cycle history) ≡ 0
  no_words_granted_since = gone_make_no_words earlier (since_cycle history) (accepts_later (opening heap) (up_to_cycle history) (since_cycle history) legal_sections.objects) all_left
