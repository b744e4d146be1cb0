-- What the first seat tells as it makes the queue, or is refused its first node.
use Rattle.std.proofs.Common.{◌≡◌, ℕ, inl, inr, List, [], ◌∷◌, ◌++◌, length, replicate, get_or, false, Option, Some, None, sym, ap, ◌∙◌, subst, arith}
use Rattle.std.proofs.lemmas.Bool.{cases_lt}
use Rattle.std.proofs.lemmas.List.{get_or-replicate, get_or_past, length-replicate}
use Rattle.heap_model.specs.account.Space.{spent_of, taken_of}
use Rattle.heap_model.specs.calls.SeatReplies.{LacksFragments}
use Rattle.heap_model.specs.calls.SeatState.{SeatState, own_graph_seat}
use Rattle.heap_model.specs.declared.command.Command.{Command}
use Rattle.heap_model.specs.declared.command.Command.TheVariants.{New}
use Rattle.heap_model.specs.declared.entry.Entry.{Entry}
use Rattle.heap_model.specs.declared.entry.Entry.TheVariants.{Said}
use Rattle.heap_model.specs.declared.reply.Reply.{Reply}
use Rattle.heap_model.specs.declared.reply.Reply.TheVariants as replies
use Rattle.heap_model.specs.graph.Graph.{GraphSeat, opening_graph_seat}
use Rattle.heap_model.specs.graph.Objects.{absent_graph_seat}
use Rattle.heap_model.specs.Needs.{record_fragments}
use Rattle.heap_model.specs.declared.refusal.Full.{Full}
use Rattle.heap_table.specs.SeatHeld.{SeatHeld}
use Rattle.mutator_seat.specs.Resting.{seat_state}
use Rattle.heap_queue.specs.Calls.{Call, QueueMade, MakeRefused, ends, IsWhole}
use Rattle.heap_queue.specs.Grows.{Completes, MakesFirst, MakesAtOnce, Spends}
use Rattle.heap_queue.specs.Histories.{Leads}
use Rattle.heap_queue.specs.Opening.{OpensBy, HasOpened}
use Rattle.heap_queue.specs.Places.{MakesNode, SetsFirst, SetsLast, Rests, Gone, after}
use Rattle.heap_queue.proofs.WholeCalls.{whole_leads}

-- a seat that has told nothing has made no object and done no set
module _ (seat : SeatState) (silent : seat.mine ≡ []) where
  abbrev opened : GraphSeat
  opened = get_or (replicate seat.heap.seats opening_graph_seat) seat.number absent_graph_seat

  fresh_by : (length opened.objects ≡ 0) × (opened.sets ≡ 0)
  fresh_by = elim (cases_lt seat.number seat.heap.seats) [
    | inl there ↦ (
        let same = get_or-replicate seat.heap.seats seat.number opening_graph_seat absent_graph_seat there in
        (ap (λ (s : GraphSeat). length s.objects) same, ap (λ (s : GraphSeat). s.sets) same))
    | inr past ↦ (
        let same = get_or_past (replicate seat.heap.seats opening_graph_seat) seat.number absent_graph_seat (omega (arith, past, length-replicate seat.heap.seats opening_graph_seat)) in
        (ap (λ (s : GraphSeat). length s.objects) same, ap (λ (s : GraphSeat). s.sets) same))
  ]

  pub fresh : (length (own_graph_seat seat).objects ≡ 0) × ((own_graph_seat seat).sets ≡ 0)
  fresh =
      subst (λ (log : List Entry). let s : SeatState = record seat { mine = log } in (length (own_graph_seat s).objects ≡ 0) × ((own_graph_seat s).sets ≡ 0)) (sym silent) fresh_by

-- no call ends where a making was refused
gone_ends_none : (log : List Entry) (call : Call) → IsWhole Gone log call → ⊥
gone_ends_none [] call whole = whole
gone_ends_none (Said number command reply ∷ log) call whole = whole.0
gone_ends_none (_ ∷ log) call whole = gone_ends_none log call whole

-- once its node is made, a making isn't refused
last_makes : (log : List Entry) (need found : ℕ) → IsWhole SetsLast log (MakeRefused need found) → ⊥
last_makes [] need found whole = whole
last_makes (Said number command reply ∷ log) need found (step, inl ended) = cc (ended.0)
last_makes (Said number command reply ∷ log) need found (step, inr more) = cc (more.0)
last_makes (_ ∷ log) need found whole = last_makes log need found whole

first_makes : (log : List Entry) (need found : ℕ) → IsWhole SetsFirst log (MakeRefused need found) → ⊥
first_makes [] need found whole = whole
first_makes (Said number command reply ∷ log) need found (step, inl ended) = cc (ended.0)
first_makes (Said number command reply ∷ log) need found (step, inr more) = last_makes log need found more.1
first_makes (_ ∷ log) need found whole = first_makes log need found whole

-- the log's last entry is the refusal
pub record EndsRefused (need found : ℕ) (log : List Entry) : Type 0 where
  pub before : List Entry
  pub number : ℕ
  pub log_is : log ≡ before ++ Said number (New 15 2) (replies.Full need found) ∷ []

ends_here : (number : ℕ) (command : Command) (reply : Reply) (need found : ℕ) → command ≡ New 15 2 → ends MakesNode command reply ≡ Some (MakeRefused need found) → EndsRefused need found (Said number command reply ∷ [])
ends_here number command (replies.Full need' found') need found step same = record {
  before = [];
  number = number;
  log_is =
      let n : need' ≡ need = cc in
      let f : found' ≡ found = cc in
      λ i. Said number (step i) (replies.Full (n i) (f i)) ∷ [];
}
ends_here number command reply need found step same = absurd (cc)

goes_past : (command : Command) (reply : Reply) (log : List Entry) (need found : ℕ) → ends MakesNode command reply ≡ None → IsWhole (after MakesNode command reply) log (MakeRefused need found) → ⊥
goes_past command (replies.Made id) log need found none whole = first_makes log need found whole
goes_past command reply log need found none whole = gone_ends_none log (MakeRefused need found) whole

one_before : (entry : Entry) (need found : ℕ) (log : List Entry) → EndsRefused need found log → EndsRefused need found (entry ∷ log)
one_before entry need found log ended = record { before = entry ∷ ended.before; number = ended.number; log_is = ap (λ (l : List Entry). entry ∷ l) ended.log_is }

pub ends_refused : (log : List Entry) (need found : ℕ) → IsWhole MakesNode log (MakeRefused need found) → EndsRefused need found log
ends_refused [] need found whole = absurd whole
ends_refused (Said number command reply ∷ log) need found (step, inl ended) =
    subst (λ (rest : List Entry). EndsRefused need found (Said number command reply ∷ rest)) (sym ended.1) (ends_here number command reply need found step ended.0)
ends_refused (Said number command reply ∷ log) need found (step, inr more) = absurd (goes_past command reply log need found more.0 more.1)
ends_refused (entry ∷ log) need found whole = one_before entry need found log (ends_refused log need found whole)

-- the first seat, which had told nothing, once it had room
module _ (old : SeatState) (new : SeatHeld) (number : old.number ≡ 0) (present : (own_graph_seat old).left ≡ false) (silent : old.mine ≡ []) (spends : Spends 1 3 14 old (seat_state new)) where
  opens : (refused : Option Full) → OpensBy new.seat.mine refused → HasOpened new refused
  opens refused told =
      let none = fresh old silent in
      record {
        number_is = spends.number ∙ number;
        present = spends.left ∙ present;
        objects = omega (arith, spends.made, none.0);
        sets = omega (arith, spends.sets, none.1);
        told = told;
      }

  -- has made the queue
  pub has_made : Completes MakesNode old (seat_state new) QueueMade → MakesAtOnce old (seat_state new) → HasOpened new None
  has_made called at_once =
      let log : new.seat.mine ≡ called.added = called.told ∙ ap (λ (l : List Entry). l ++ called.added) silent in
      let made : new.seat.mine ≡ at_once.added = at_once.told ∙ ap (λ (l : List Entry). l ++ at_once.added) silent in
      opens None (record {
        leads = subst (λ (l : List Entry). Leads MakesNode l Rests (QueueMade ∷ [])) (sym log) (whole_leads MakesNode called.added QueueMade called.whole);
        at_once = λ first. subst MakesFirst (sym made) at_once.makes;
      })

  -- or was refused its node
  pub was_refused : (full : Full) → Completes MakesNode old (seat_state new) (MakeRefused full.need full.found) → LacksFragments old (seat_state new) (record_fragments 2) full.need full.found → HasOpened new (Some full)
  was_refused full called lacks =
      let need : full.need ≡ 1 = lacks.needed in
      let found : full.found ≡ 0 = omega (arith, lacks.too_few, need) in
      let ended = ends_refused called.added full.need full.found called.whole in
      let log : new.seat.mine ≡ called.added = called.told ∙ ap (λ (l : List Entry). l ++ called.added) silent in
      let took : taken_of old.number old.mine ≡ 0 = ap (taken_of old.number) silent in
      let spent : spent_of old.number old.mine ≡ 0 = ap (spent_of old.number) silent in
      opens (Some full) (record {
        need_is = need;
        found_is = found;
        before = ended.before;
        number = ended.number;
        log_is = log ∙ (ended.log_is ∙ (λ i. ended.before ++ Said ended.number (New 15 2) (replies.Full (need i) (found i)) ∷ []));
        took = ap (λ (n : ℕ). taken_of n new.seat.mine) (sym number) ∙ omega (arith, lacks.all_found, found, spent);
        spent = ap (λ (n : ℕ). spent_of n new.seat.mine) (sym number) ∙ omega (arith, lacks.all_found, lacks.given_back, found, spent, took);
      })
