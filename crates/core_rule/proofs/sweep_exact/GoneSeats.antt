-- A seat that has left does no more: it stays so, and no entry is its.
use Rattle.std.proofs.Common.{◌≡◌, ℕ, ◌≤◌, ◌==◌, true, false, inl, inr, List, [], ◌∷◌, length, set, get_or, replicate, refl, ap, ◌∙◌, subst, arith, length-set}
use Rattle.std.proofs.lemmas.Bool.{cases_eq, cases_lt, eqb-true, ne_eqb}
use Rattle.std.proofs.lemmas.List.{get_or-set_same, get_or-set_other, get_or_past, length-replicate}
use Rattle.std.proofs.lemmas.List.Sums.{sum_by-cons}
use Rattle.core_rule.proofs.Terms.{effect_of, is_of, is_leave_of, total, Command, Entry, Heap, Board, Made, Value, Reply, with_graph_seat, write, count_set, with_object_cell}
use Rattle.core_rule.proofs.Terms.{Graph, opening, opening_graph_seat, after_entry, after_reply, graph_after, Accepts, AcceptsAll, IsPresent, graph_seat, register_value}
use Rattle.core_rule.proofs.Terms.{absent_graph_seat}
use Rattle.heap_model.specs.declared.command.Command.TheVariants as commands
use Rattle.heap_model.specs.declared.account.effect.Effect.{Effect}
use Rattle.heap_model.specs.declared.entry.Entry.TheVariants as entries
use Rattle.heap_model.specs.declared.graph.cell.Cell.{Cell}
use Rattle.heap_model.specs.declared.id.Value.TheVariants.{Nil, Number, Object}
use Rattle.heap_model.specs.declared.reply.Reply.TheVariants as replies
use Rattle.heap_model.specs.graph.Graph.{GraphSeat}
use Rattle.heap_model.proofs.graph_changes.GraphSeats.{party_with_seat_is_new}

-- the seat has left, or isn't there
abbrev pub IsGone : Graph → ℕ → Type 0
IsGone g number = (graph_seat g number).left ≡ true

-- whichever seat changes, if one that has left stays so
gone_with : (g : Graph) (number q : ℕ) (p : GraphSeat) → IsGone g number → (IsGone g q → p.left ≡ true) → IsGone (with_graph_seat g q p) number
gone_with g number q p gone stays = elim (cases_eq number q) [
  | inl same ↦ elim (cases_lt q (length g.seats)) [
    | inl there ↦ ap (λ n. (get_or (set g.seats q p) n absent_graph_seat).left) same ∙ ap (λ (s : GraphSeat). s.left) (get_or-set_same g.seats q p absent_graph_seat there) ∙ stays (subst (IsGone g) same gone)
    | inr past ↦ ap (λ n. (get_or (set g.seats q p) n absent_graph_seat).left) same
        ∙ ap (λ (s : GraphSeat). s.left) (get_or_past (set g.seats q p) q absent_graph_seat (omega (arith, past, length-set g.seats q p)))
  ]
  | inr other ↦ ap (λ (s : GraphSeat). s.left) (get_or-set_other g.seats q number p absent_graph_seat other) ∙ gone
]

gone_write : (g : Graph) (number : ℕ) (value : Value) (i : ℕ) (cell : Cell) → IsGone g number → IsGone (write g value i cell) number
gone_write g number Nil i cell gone = gone
gone_write g number (Number n) i cell gone = gone
gone_write g number (Object Board) i cell gone = gone
gone_write g number (Object (Made other count)) i cell gone = gone_with g number other (with_object_cell (graph_seat g other) count i cell) gone (λ its. its)

gone_said : (g : Graph) (number other : ℕ) (command : Command) (reply : Reply) → IsPresent g other → IsGone g number → IsGone (after_reply g other command reply) number
gone_said g number other (commands.New d fields) (replies.Made id) present gone = gone_with g number other _ gone (λ its. its)
gone_said g number other (commands.Array d cells) (replies.Made id) present gone = gone_with g number other _ gone (λ its. its)
gone_said g number other (commands.Get d r i) (replies.Got value stamp) present gone = gone_with g number other _ gone (λ its. its)
gone_said g number other (commands.Set r i v) (replies.Was stamp) present gone = gone_write (count_set g other) number (register_value g other r) i _ (gone_with g number other _ gone (λ its. its))
gone_said g number other (commands.Cas r i a v) (replies.Was stamp) present gone = gone_write (count_set g other) number (register_value g other r) i _ (gone_with g number other _ gone (λ its. its))
gone_said g number other (commands.Num d n) reply present gone = gone_with g number other _ gone (λ its. its)
gone_said g number other (commands.Nil d) reply present gone = gone_with g number other _ gone (λ its. its)
gone_said g number other (commands.Copy d r) reply present gone = gone_with g number other _ gone (λ its. its)
gone_said g number other commands.Leave reply present gone = gone_with g number other _ gone (λ its. refl)
gone_said g number other command reply present gone = gone

module _ (g : Graph) (number : ℕ) (entry : Entry) (accepts : Accepts g entry) where
  pub gone_stays_after_entry : IsGone g number → IsGone (after_entry g entry) number
  gone_stays_after_entry gone = by entry accepts
    where
      by : (e : Entry) → Accepts g e → IsGone (after_entry g e) number
      by (entries.Said other command reply) its = gone_said g number other command reply its.0 gone
      by _ its = gone

  -- its leave makes it so
  pub gone_after_leave : is_leave_of number entry ≡ true → IsGone (after_entry g entry) number
  gone_after_leave leaves = by entry accepts leaves
    where
      by : (e : Entry) → Accepts g e → is_leave_of number e ≡ true → IsGone (after_entry g e) number
      by (entries.Said other commands.Leave reply) its here =
          subst (IsGone (after_reply g other commands.Leave reply)) (eqb-true other number here) (ap (λ (s : GraphSeat). s.left) (party_with_seat_is_new g other _ its.0))
      by _ its here = absurd (cc)

  -- none of its entries is accepted
  pub gone_has_no_entry : IsGone g number → is_of number entry ≡ false
  gone_has_no_entry gone = by entry accepts
    where
      apart : (other : ℕ) → IsPresent g other → (other == number) ≡ false
      apart other present = ne_eqb other number (λ same. absurd (cc (subst (IsPresent g) same present, gone)))

      by : (e : Entry) → Accepts g e → is_of number e ≡ false
      by (entries.Said other command reply) its = apart other its.0
      by (entries.Takes other count) its = apart other its
      by (entries.GivesBack other count) its = apart other its
      by (entries.Answers other p) its = apart other its
      by _ its = refl

pub gone_stays_after_history : (g : Graph) (number : ℕ) (history : List Entry) → AcceptsAll g history → IsGone g number → IsGone (graph_after g history) number
gone_stays_after_history g number [] accepts gone = gone
gone_stays_after_history g number (entry ∷ history) accepts gone = gone_stays_after_history (after_entry g entry) number history accepts.1 (gone_stays_after_entry g number entry accepts.0 gone)

-- a seat past the last never was there
pub gone_at_opening : (heap : Heap) (number : ℕ) → heap.seats ≤ number → IsGone (opening heap) number
gone_at_opening heap number past = ap (λ (s : GraphSeat). s.left) (get_or_past (replicate heap.seats opening_graph_seat) number absent_graph_seat (omega (arith, past, length-replicate heap.seats opening_graph_seat)))

-- where all have left, nothing is taken, and no array is made
takes_none : (g : Graph) (entry : Entry) → Accepts g entry → ((number : ℕ) → IsGone g number) → (effect_of entry).taken ≡ 0
takes_none g (entries.Takes number count) accepts gone = absurd (cc (accepts, gone number))
takes_none g _ accepts gone = refl

grants_none : (g : Graph) (entry : Entry) → Accepts g entry → ((number : ℕ) → IsGone g number) → (effect_of entry).words ≡ 0
grants_none g (entries.Said number command reply) accepts gone = absurd (let present = accepts.0 in cc (present, gone number))
grants_none g _ accepts gone = refl

-- a sum over what such entries do is none
none_done : (summand : Effect → ℕ) → ((g : Graph) (entry : Entry) → Accepts g entry → ((number : ℕ) → IsGone g number) → summand (effect_of entry) ≡ 0)
    → (g : Graph) (history : List Entry) → AcceptsAll g history → ((number : ℕ) → IsGone g number) → total summand history ≡ 0
none_done summand none g [] accepts gone = refl
none_done summand none g (entry ∷ history) accepts gone =
    omega (
      arith,
      sum_by-cons (λ e. summand (effect_of e)) entry history,
      none g entry accepts.0 gone,
      none_done summand none (after_entry g entry) history accepts.1 (λ number. gone_stays_after_entry g number entry accepts.0 (gone number)),
    )

pub gone_take_none : (g : Graph) (history : List Entry) → AcceptsAll g history → ((number : ℕ) → IsGone g number) → total (λ e. e.taken) history ≡ 0
gone_take_none = none_done (λ e. e.taken) takes_none

pub gone_make_no_words : (g : Graph) (history : List Entry) → AcceptsAll g history → ((number : ℕ) → IsGone g number) → total (λ e. e.words) history ≡ 0
gone_make_no_words = none_done (λ e. e.words) grants_none
