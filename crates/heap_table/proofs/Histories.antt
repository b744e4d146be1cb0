-- Once all is read, one legal history has exactly the logs.
use Rattle.std.proofs.Common.{zero, suc, ◌≡◌, ℕ, ◌+◌, ◌<◌, List, [], ◌∷◌, ◌++◌, length, map, filter, Option, Some, None, refl, sym, ap, subst, ◌∙◌, arith}
use Rattle.std.proofs.lemmas.List.{length-map}
use Rattle.std.specs.List.{range_with_len}
use Rattle.std.specs.Option.{option_map_or}
use Rattle.std.specs.Prelude.{option_map}
use mathlib.Core.Option.{some, some-injective}
use lib.ListN.{get_elem?}
use Rattle.atomic_table.specs.Seated.{TableId}
use Rattle.atomic_table.specs.Table.{Me, Allows}
use Rattle.heap_model.specs.declared.entry.Entry.{Entry}
use Rattle.heap_model.specs.declared.heap.Heap.{Heap}
use Rattle.heap_model.specs.account.Cycles.{graph_of}
use Rattle.heap_model.specs.account.Effects.{is_of}
use Rattle.core_machine.specs.collector.Collector.{Collector}
use Rattle.core_machine.specs.machine.Machine.{seat_at}
use Rattle.core_machine.specs.machine.Value.{SeatWithRoom}
use Rattle.core_machine.specs.seat.Seat.{Seat}
use Rattle.core_machine.specs.table.Layout.{table_length}
use Rattle.core_rule.proofs.entries.AtRest.{seat_fits}
use Rattle.core_rule.proofs.entries.SeatLists.{idle_list_is_all_told}
use Rattle.heap_table.specs.Closed.{IsWhole, EndsWhole, logs_in, logs_known, HasOneHistory, HaveOneHistory, AreWordsOf, AreLastWords}
use Rattle.heap_table.specs.CollectorHeld.{CollectorHeld, KeepsToken, seats_in}
use Rattle.heap_table.specs.Folded.{AllFolded, SeatsBefore}
use Rattle.heap_table.specs.Handing.{with_closed}
use Rattle.heap_table.specs.Holds.{Holds}
use Rattle.heap_table.specs.Known.{CollectorKnown}
use Rattle.heap_table.specs.Told.{Tells}
use Rattle.heap_table.specs.TokenOf.{IsTokenOf}
use Rattle.heap_table.specs.Views.{collector_view, known_by}
use Rattle.heap_table.specs.declared.view.View.{View}
use Rattle.heap_table.proofs.ClosingLoads.{reading_is_allowed}

-- a list that has f of each number at its position is the row of these
row_of : {A B : Type 0} (g : A → B) (f : ℕ → B) (l : List A) (a n : ℕ) → length l ≡ n → ((i : ℕ) → i < n → (x : A) × (get_elem? l i ≡ some x) × (g x ≡ f (a + i))) → map g l ≡ map f (range_with_len a n)
row_of g f [] a zero long each = refl
row_of g f [] a (suc n) long each = absurd (omega (arith, long))
row_of g f (x ∷ l) a zero long each = absurd (omega (arith, long))
row_of {A} {B} g f (x ∷ l) a (suc n) long each =
    let first = each 0 (omega arith) in
    let head : g x ≡ f a = ap g (some-injective _ _ first.1) ∙ first.2 ∙ ap f (omega arith) in
    let rest = row_of g f l (a + 1) n (omega (arith, long)) (λ i below. let it = each (suc i) (omega (arith, below)) in (it.0, it.1, it.2 ∙ ap f (omega arith))) in
    ap (λ (b : B). b ∷ map g l) head ∙ ap (λ (m : List B). f a ∷ m) rest

-- what is whole has one history
pub one_history : (heap : Heap) (known : CollectorKnown) → length known.seats ≡ heap.seats → IsWhole heap known
    → HasOneHistory (record { heap = heap; words = known.closed; logs = logs_known known; folded = known.folded })
one_history heap known seat_slots whole =
    let rule = whole.stands.rule in
    record {
      history = whole.book.history;
      legal = rule.heap_stands.legal;
      logs_are =
          ap (λ (l : List (List Entry)). l ++ known.collector.log ∷ [])
          (row_of (λ (slot : Option Seat). option_map_or (λ (seat : Seat). seat.mine) slot []) (λ (number : ℕ). filter (is_of number) whole.book.history) known.seats 0 heap.seats seat_slots
          (λ number within. (Some (seat_at whole.state number), whole.seats_are number within, own number within)))
          ∙ ap (λ (l : List Entry). map (λ (number : ℕ). filter (is_of number) whole.book.history) (range_with_len 0 heap.seats) ++ l ∷ [])
          (ap (λ (c : Collector). c.log) (sym whole.collector_is) ∙ rule.collector_stands.log);
      state = whole.state;
      book = whole.book;
      stands = whole.stands;
      its_history = refl;
      words_are = whole.words_are;
      seats_before = whole.late;
    }
  where
    own : (number : ℕ) → number < heap.seats → (seat_at whole.state number).mine ≡ filter (is_of (0 + number)) whole.book.history
    own number within =
        let rule = whole.stands.rule in
        let idle = ((seat_fits rule number within).gone (whole.gone number within)).idle in
        idle_list_is_all_told (graph_of heap whole.book.history) whole.book.history whole.book.made whole.book.owner whole.book.fragments number (seat_at whole.state number) idle (rule.seats_stand number within).told.list
        ∙ ap (λ (n : ℕ). filter (is_of n) whole.book.history) (omega arith)

-- the logs in the slots are those that are known
pub logs_in_slots : (seat_slots : List (Option SeatWithRoom)) → logs_in seat_slots ≡ map (λ slot. option_map_or (λ (seat : Seat). seat.mine) slot []) (seats_in seat_slots)
logs_in_slots [] = refl
logs_in_slots (None ∷ seat_slots) = ap (λ (l : List (List Entry)). [] ∷ l) (logs_in_slots seat_slots)
logs_in_slots (Some party ∷ seat_slots) = ap (λ (l : List (List Entry)). party.seat.mine ∷ l) (logs_in_slots seat_slots)

-- what is told of the next word that closing reads
abbrev pub ReadTells : Heap → Me (Unit {0}) View → ℕ → Me (Unit {0}) View → Type 0
ReadTells heap me = Tells (λ n. collector_view (with_closed (known_by me.0) n)) (λ n. EndsWhole heap (with_closed (known_by me.0) n)) me

module _ (shared : TableId) (key : Heap) (mine : TableId) (me : Me (Unit {0}) View) (heap : Heap) (keeps : KeepsToken shared key mine me heap) where
  -- reading it is allowed
  pub word_read_is_allowed : (slots id word : ℕ) (key' : Heap) → slots ≡ shared.slots → key' ≡ key → AllFolded heap (known_by me.0).seats → word ≡ length (known_by me.0).closed → word < table_length heap
      → Allows (Holds key') slots id me word (λ n. n) (ReadTells heap me)
  word_read_is_allowed slots id word key' slots_are key_is all next within =
      let none_ : slots ≡ 0 = slots_are ∙ ap (λ (z : TableId). z.slots) (sym keeps.of.table) ∙ keeps.of.slots in
      subst (λ (k : Heap). Allows (Holds k) slots id me word (λ n. n) (ReadTells heap me)) (sym (key_is ∙ keeps.of.key_is))
      (subst (λ (k : ℕ). Allows (Holds heap) k id me word (λ n. n) (ReadTells heap me)) (sym none_)
      (subst (λ (k : ℕ). Allows (Holds heap) 0 id me k (λ n. n) (ReadTells heap me)) (sym next)
      (subst (λ (m : Me (Unit {0}) View). Allows (Holds heap) 0 id m (length (known_by me.0).closed) (λ n. n) (Tells (λ n. collector_view (with_closed (known_by me.0) n)) (λ n. EndsWhole heap (with_closed (known_by me.0) n)) m)) (sym keeps.knows)
      (reading_is_allowed heap (known_by me.0) all (rw (← next) within) id))))

  -- and leaves the collector's token
  pub keeps_token_after_read : (mine' : TableId) (me' : Me (Unit {0}) View) (found : ℕ) → mine' ≡ mine → ReadTells heap me found me' → KeepsToken shared key mine' me' heap
  keeps_token_after_read mine' me' found same tells = record {
    of = subst (λ (z : TableId). IsTokenOf shared key z heap) (sym same) keeps.of;
    limits = keeps.limits;
    knows = tells.0 ∙ ap (λ (m : Me (Unit {0}) View). (collector_view (with_closed (known_by me.0) found), m.1)) keeps.knows
        ∙ ap (λ (m : Me (Unit {0}) View). (collector_view (known_by m.0), [])) (sym tells.0);
  }

-- while words are read: those read so far are the closed ones
pub record IsReading (shared : TableId) (key : Heap) (mine : TableId) (me : Me (Unit {0}) View) (heap : Heap) (start : CollectorKnown) (words : List ℕ) : Type 0 where
  pub token : KeepsToken shared key mine me heap
  pub known_is : known_by me.0 ≡ record start { closed = words }
  pub ends : EndsWhole heap (known_by me.0)

-- one word more
pub reads_on : (start old new : CollectorKnown) (found : ℕ) → old ≡ record start { closed = old.closed } → new ≡ with_closed old found → new ≡ record start { closed = new.closed }
reads_on start old new found is read =
    read ∙ ap (λ (k : CollectorKnown). with_closed k found) is ∙ ap (λ (words : List ℕ). record start { closed = words }) (sym (ap (λ (k : CollectorKnown). k.closed) read))

-- while logs are moved: those moved so far stand behind those before, and the others are still in their slots
pub record IsMoving (before : List (List Entry)) (seat_slots : List (Option SeatWithRoom)) (logs : List (List Entry)) (rest : List (Option SeatWithRoom)) : Type 0 where
  pub together : logs ++ logs_in rest ≡ before ++ logs_in seat_slots

-- so all logs stand behind one another
pub closed_logs_are_known : (seat_slots : List (Option SeatWithRoom)) (known : CollectorKnown) (collector : Collector) (before moved all : List (List Entry)) (log : List Entry) → seats_in seat_slots ≡ known.seats → known.collector ≡ collector
    → log ≡ collector.log → before ≡ [] → moved ≡ before ++ logs_in seat_slots → all ≡ moved ++ log ∷ [] → all ≡ logs_known known
closed_logs_are_known seat_slots known collector before moved all log seats its its_log none_ moved_are all_are =
    all_are
    ∙ ap (λ (l : List (List Entry)). l ++ log ∷ []) (moved_are ∙ ap (λ (l : List (List Entry)). l ++ logs_in seat_slots) none_ ∙ logs_in_slots seat_slots ∙ ap (map (λ slot. option_map_or (λ (seat : Seat). seat.mine) slot [])) seats)
    ∙ ap (λ (l : List Entry). map (λ slot. option_map_or (λ (seat : Seat). seat.mine) slot []) known.seats ++ l ∷ []) (its_log ∙ ap (λ (c : Collector). c.log) (sym its))

-- so the words read are those of what was known
pub read_words_are_known : (heap : Heap) (known read : CollectorKnown) (words : List ℕ) → read ≡ record known { closed = words } → EndsWhole heap read → length words ≡ table_length heap → AreWordsOf heap known words
read_words_are_known heap known read words read_is ends long = subst (IsWhole heap) read_is (ends (ap (λ (k : CollectorKnown). length k.closed) read_is ∙ long))

-- which a holder shows that holds the same
pub shown_words_are_known : (held shown : CollectorHeld) (words : List ℕ) → held ≡ shown → AreWordsOf held.heap held.known words → AreWordsOf shown.heap shown.known words
shown_words_are_known held shown words same = subst (λ (v : CollectorHeld). AreWordsOf v.heap v.known words) same

-- and one history has them
pub closed_has_one_history : (heap : Heap) (known read : CollectorKnown) (seat_slots : List (Option SeatWithRoom)) (words : List ℕ) (logs : List (List Entry)) (folded : ℕ) → read ≡ record known { closed = words } → seats_in seat_slots ≡ known.seats → length seat_slots ≡ heap.seats
    → EndsWhole heap read → length words ≡ table_length heap → logs ≡ logs_known known → known.folded ≡ folded → HasOneHistory (record { heap = heap; words = words; logs = logs; folded = folded })
closed_has_one_history heap known read seat_slots words logs folded read_is seats seat_slots_are ends long logs_are folded_is =
    let whole = read_words_are_known heap known read words read_is ends long in
    let one = one_history heap (record known { closed = words }) (ap length (sym seats) ∙ length-map seat_slots (λ slot. option_map (λ (party : SeatWithRoom). party.seat) slot) ∙ seat_slots_are) whole in
    subst (λ (n : ℕ). HasOneHistory (record { heap = heap; words = words; logs = logs; folded = n })) folded_is
    (subst (λ (l : List (List Entry)). HasOneHistory (record { heap = heap; words = words; logs = l; folded = known.folded })) (sym logs_are) one)

-- which a holder shows that holds the same
pub shown_have_one_history : (held shown : CollectorHeld) (words : List ℕ) → held ≡ shown → HaveOneHistory held.heap held.known words → HaveOneHistory shown.heap shown.known words
shown_have_one_history held shown words same = subst (λ (v : CollectorHeld). HaveOneHistory v.heap v.known words) same

-- of a table that is closed without logs, they are the last words
pub read_words_are_last : (heap : Heap) (known : CollectorKnown) (words : List ℕ) (folded : ℕ) → AreWordsOf heap known words → length words ≡ table_length heap → known.folded ≡ folded
    → AreLastWords (record { heap = heap; words = words; folded = folded })
read_words_are_last heap known words folded whole long folded_is = record {
  each = long;
  state = whole.state;
  book = whole.book;
  stands = whole.stands;
  words_are = whole.words_are;
  gone = whole.gone;
  seats_before = subst (λ (n : ℕ). SeatsBefore n whole.book.history) folded_is whole.late;
}
