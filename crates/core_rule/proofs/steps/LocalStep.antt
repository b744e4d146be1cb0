-- A reply that stands at a load, and changes no word, keeps the rule.
use Rattle.std.proofs.Common.{◌≡◌, ℕ, ◌<◌, false, List, [], ◌∷◌, ◌++◌, filter, slice_set, refl, sym, ap, ◌∙◌, subst, arith}
use Rattle.core_rule.proofs.Terms.{Entry, Heap, Reply, graph_of, is_of, after_reply, graph_seat, phase, last_answer, has_left, is_leave_of, Graph, IsAtRest, at, put, State}
use Rattle.core_rule.proofs.Terms.{seat_at, Seat, IsMachine, Book, BornColours, HeapInCycle, Rule}
use Rattle.heap_model.specs.declared.entry.Entry.TheVariants as entries
use Rattle.heap_model.specs.Command.{IsCommand}
use Rattle.core_machine.specs.declared.table.address.Address.{Address}
use Rattle.core_machine.specs.declared.table.address.Address.TheVariants.{Answer}
use Rattle.core_machine.specs.declared.point.Point.TheVariants as points
use Rattle.core_machine.proofs.table_lemmas.Addresses.{put_of_read_changes_nothing}
use Rattle.core_rule.proofs.frames.SeatFrames.{with_entry}
use Rattle.core_rule.proofs.colours.SpineStays.{same_sources_of_itself}
use Rattle.core_rule.proofs.marking.Marks.{MarksGoOn, RootsGoOn, marks_go_on, leaves_by_same_sources}
use Rattle.core_rule.proofs.steps.Assemble.{Keeps}
use Rattle.core_rule.proofs.entries.AtRest.{spent_within_taken, taken_is_few_unspent}
use Rattle.core_rule.proofs.cycle.CycleFrames.{LeavesCycle, leaves_cycle_unchanged}
use Rattle.core_rule.proofs.cycle.CycleHistory.{seat_in_cycle_after_own}
use Rattle.core_rule.proofs.entries.Legality.{legal_after_entry, keeps_space_of_plain_said}
use Rattle.core_rule.proofs.graph.LocalReplies.{IsLocalReply}
use Rattle.core_rule.proofs.steps.ReplyStep.{keeps_in_cycle_when_idle, graph_replies_of_registers}
use Rattle.core_rule.proofs.hand.StoredFrames.{SameUnkept}
use Rattle.core_rule.proofs.budgets.NoneMade.{MakesNone}
use Rattle.core_rule.proofs.spines.OtherWords.{leaves_spines_of_itself}
use Rattle.core_rule.proofs.cycle.Unwatched.{IsApart, seat_in_cycle_apart}

-- a load leaves all words
load_leaves : (heap : Heap) (book : Book) (words : List ℕ) (a : Address) → SameUnkept heap book.owner words (put heap words a (at heap words a))
load_leaves heap book words a = rw (put_of_read_changes_nothing heap words a) record { controls = λ group below. refl; unkept = λ f part free within. refl; spines = leaves_spines_of_itself heap words }

-- the seat stands idle and has told the reply; of its own data its registers alone are others
pub record SeatTells (old now : Seat) (entry : Entry) : Type 0 where
  pub idle : now.point ≡ points.Idle
  pub reserve : now.reserve ≡ old.reserve
  pub mine : now.mine ≡ old.mine ++ entry ∷ []
  pub answered : now.answered ≡ old.answered
  pub asked : now.asked ≡ old.asked
  pub made : now.made ≡ old.made
  pub sets : now.sets ≡ old.sets
  pub left : now.left ≡ old.left

-- a load at which such a reply stands keeps the rule
pub keeps_rule_by_local_reply : (heap : Heap) (state : State) (book : Book) (number : ℕ) (a : Address) (now : Seat) (reply : Reply) → (rule : Rule heap state book) → (here : number < heap.seats)
    → IsMachine heap (record state { words = put heap state.words a (at heap state.words a); seats = slice_set state.seats number now })
    → MakesNone (seat_at state number).point → IsAtRest (seat_at state number) → (seat_at state number).mine ≡ filter (is_of number) book.history → (graph_seat (graph_of heap book.history) number).left ≡ false → IsCommand (seat_at state number).command
    → IsLocalReply heap book.history (graph_of heap book.history) number book.made book.owner book.fragments (seat_at state number).command reply now.registers now.seen
    → is_leave_of number (entries.Said number (seat_at state number).command reply) ≡ false
    → SeatTells (seat_at state number) now (entries.Said number (seat_at state number).command reply)
    → RootsGoOn heap state book rule number here now
    → Keeps heap state (record state { words = put heap state.words a (at heap state.words a); seats = slice_set state.seats number now }) book book.begun (entries.Said number (seat_at state number).command reply ∷ [])
keeps_rule_by_local_reply heap state book number a now reply rule here machine makes rest told present ranges local stays tells roots =
    let seat : Seat = seat_at state number in
    let g : Graph = graph_of heap book.history in
    let stands = rule.seats_stand number here in
    let counts = stands.told.counts in
    let words : List ℕ = put heap state.words a (at heap state.words a) in
    let same : words ≡ state.words = put_of_read_changes_nothing heap state.words a in
    keeps_in_cycle_when_idle heap state book number (put heap state.words a (at heap state.words a)) now seat.command reply rule here machine
    local.plain.none makes rest told
    (legal_after_entry heap false book.history (entries.Said number seat.command reply) rule.heap_stands.legal (present, ranges, local.says)
    (keeps_space_of_plain_said heap false book.history number seat.command reply local.plain.none local.plain.space local.plain.spine local.plain.phases (spent_within_taken heap state book number rule here rest)
    (omega (arith, local.plain.most, taken_is_few_unspent heap state book number rule here rest))))
    (load_leaves heap book state.words a)
    (rw (put_of_read_changes_nothing heap state.words a) (graph_replies_of_registers g (after_reply g number seat.command reply) number local.only.changes heap state.words book rule.heap_stands.ids rule.heap_stands.objects))
    record {
      idle = tells.idle;
      reserve = tells.reserve;
      mine = tells.mine;
      made = tells.made ∙ counts.numbered ∙ sym local.only.changes.objects;
      sets = tells.sets ∙ counts.stamped ∙ sym local.only.changes.sets;
      left = local.only.left ∙ counts.leaves ∙ sym tells.left;
      seen = local.seen_right;
      registers = local.registers;
    }
    (subst (λ ws. HeapInCycle heap ws (phase book.history) book.owner book.colour book.fragments) (sym same) rule.heap_stands.cycle)
    (seat_in_cycle_after_own heap words book.owner book.colour book.history (entries.Said number seat.command reply) refl number now
    (seat_in_cycle_apart heap state.words words book.owner book.owner book.colour book.colour (phase book.history) (last_answer number book.history) (has_left number book.history) number seat now
    record { answered = tells.answered; left = tells.left; asked = tells.asked } (subst IsApart (sym tells.idle) tt) (ap (λ ws. at heap ws (Answer number)) same)
    (subst (BornColours book.owner book.colour number) (sym tells.answered) stands.cycle.births) stands.cycle)
    refl stays)
    (λ r below apart. subst (λ ws. LeavesCycle heap state.words ws book.owner book.owner book.colour book.colour (phase book.history) r) (sym same)
    (leaves_cycle_unchanged heap state.words book.owner book.colour (phase book.history) r))
    (subst (λ ws. MarksGoOn heap state book (with_entry book (entries.Said number seat.command reply)) ws now) (sym same)
    (marks_go_on heap state book rule number here state.words (with_entry book (entries.Said number seat.command reply)) now
    (leaves_by_same_sources heap state book rule state.words (same_sources_of_itself heap state.words)) tells.answered roots))
