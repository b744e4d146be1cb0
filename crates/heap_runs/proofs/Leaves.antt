-- The seats leave one after another.
use Rattle.std.proofs.Common.{◌≡◌, ℕ, zero, suc, ◌+◌, ◌<◌, ◌==◌, if◌then◌else◌, true, false, List, [], ◌∷◌, ◌++◌, inl, inr, refl, sym, ap, ◌∙◌, append_assoc, append-nil, arith}
use Rattle.std.specs.List.{flat_map, range_with_len}
use Rattle.std.proofs.lemmas.Bool.{eq-eqb, ne_eqb, or_left, or_right}
use Rattle.std.proofs.lemmas.Bool.Decides.{eqb_tells}
use Rattle.std.proofs.lemmas.List.Folds.{list_any-append}
use Rattle.std.proofs.lemmas.Grind.{flat_map-append}
use Rattle.std.proofs.lemmas.List.{append_cancel_left, map-id}
use Rattle.std.proofs.lemmas.List.FromFn.{map-range_with_len_more}
use Rattle.heap_model.specs.declared.heap.Heap.{Heap}
use Rattle.heap_model.specs.declared.command.Command.TheVariants.{Leave}
use Rattle.heap_model.specs.declared.entry.Entry.{Entry}
use Rattle.heap_model.specs.declared.entry.Entry.TheVariants.{Said}
use Rattle.heap_model.specs.declared.reply.Reply.{Reply}
use Rattle.heap_model.specs.account.PhaseCounts.{has_left, is_leave_of}
use Rattle.heap_model.specs.calls.SeatCalls.{leave_entries, last_gives}
use Rattle.heap_model.specs.calls.SeatLaws.{EachCallCounts, EachCallSparesOthers}
use Rattle.core_rule.proofs.parties.LeftStill.{left_stays_left}
use Rattle.heap_runs.specs.PlayHeap.{PlayState}
use Rattle.heap_runs.specs.Playing.{NotesCall, IsPlaying, HaveLeft}
use Rattle.heap_runs.proofs.Answering.{seat_is_still_there}

-- one number more
range_more : (n : ℕ) → range_with_len 0 (n + 1) ≡ range_with_len 0 n ++ n ∷ []
range_more n =
    sym (map-id (range_with_len 0 (n + 1))) ∙ map-range_with_len_more (λ (i : ℕ). i) 0 n n (omega arith) ∙ ap (λ (l : List ℕ). l ++ n ∷ []) (map-id (range_with_len 0 n))

each_more : (f : ℕ → List Entry) (n : ℕ) → flat_map f (range_with_len 0 (n + 1)) ≡ flat_map f (range_with_len 0 n) ++ f n
each_more f n =
    ap (flat_map f) (range_more n) ∙ flat_map-append f (range_with_len 0 n) (n ∷ []) ∙ ap (λ (l : List Entry). flat_map f (range_with_len 0 n) ++ l) (append-nil (f n))

-- lists that agree below a number are the same up to there
same_below : (f g : ℕ → List Entry) (n : ℕ) → ((k : ℕ) → k < n → f k ≡ g k) → flat_map f (range_with_len 0 n) ≡ flat_map g (range_with_len 0 n)
same_below f g zero agree = refl
same_below f g (suc n) agree =
    let one : suc n ≡ n + 1 = omega arith in
    ap (λ (k : ℕ). flat_map f (range_with_len 0 k)) one ∙ each_more f n
    ∙ ap (λ (l : List Entry). l ++ f n) (same_below f g n (λ k below. agree k (omega (arith, below)))) ∙ ap (λ (l : List Entry). flat_map g (range_with_len 0 n) ++ l) (agree n (omega arith))
    ∙ sym (each_more g n) ∙ ap (λ (k : ℕ). flat_map g (range_with_len 0 k)) (sym one)

-- it has left then, and those before it stay so
gone_then : (number n : ℕ) (told before : List Entry) (reply : Reply) (after : List Entry) → after ≡ told ++ (before ++ Said n Leave reply ∷ []) → (number < n → has_left number told ≡ true) → number < n + 1
    → has_left number after ≡ true
gone_then number n told before reply after is gone under = elim (eqb_tells number n) [
  | inl same ↦ (
      let said : has_left number (Said n Leave reply ∷ []) ≡ true = or_left (n == number) false (eq-eqb n number (sym same.1)) in
      let behind : has_left number (before ++ Said n Leave reply ∷ []) ≡ true = list_any-append (is_leave_of number) before (Said n Leave reply ∷ []) ∙ or_right _ _ said in
      ap (has_left number) is ∙ list_any-append (is_leave_of number) told (before ++ Said n Leave reply ∷ []) ∙ or_right _ _ behind)
  | inr apart ↦ ap (has_left number) is ∙ left_stays_left number told (before ++ Said n Leave reply ∷ []) (gone (omega (arith, under, apart.1)))
]

-- the next seat leaves
pub have_left_one_more : EachCallCounts → EachCallSparesOthers → (heap : Heap) (start now new : PlayState) (n : ℕ) → HaveLeft heap start now n → NotesCall now new n Leave → HaveLeft heap start new (n + 1)
have_left_one_more counts others heap start now new n left notes =
    let once = notes.answers.once (λ e. cc e) in
    let adds = once.adds in
    let more = λ (k : ℕ). if k == n then adds.unborn else left.left k in
    let each = λ (k : ℕ). leave_entries k (left.left k) in
    let leaves = λ (k : ℕ). leave_entries k (more k) in
    let here : leaves n ≡ leave_entries n adds.unborn = rw (eq-eqb n n refl) refl in
    let earlier : flat_map each (range_with_len 0 n) ≡ flat_map leaves (range_with_len 0 n) = same_below each leaves n (λ k below. rw (ne_eqb k n (λ e. omega (arith, e, below))) refl) in
    let said : adds.before ++ Said n Leave notes.reply ∷ [] ≡ leaves n
    = ap (λ (l : List Entry). l ++ Said n Leave notes.reply ∷ []) adds.comes ∙ ap (λ (r : Reply). last_gives n adds.unborn ++ Said n Leave r ∷ []) (once.left refl) ∙ sym here in
    let added : notes.added ≡ adds.before ++ Said n Leave notes.reply ∷ [] = append_cancel_left now.entries notes.added _ (sym notes.told ∙ adds.entries) in
    record {
      of_heap = adds.heap ∙ left.of_heap;
      others = λ number past below. seat_is_still_there counts others heap now new n Leave notes number (λ same. absurd (omega (arith, same, past))) (left.others number (omega (arith, past)) below);
      gone = λ number under. gone_more number under;
      left = more;
      leaves = notes.told ∙ ap (λ (l : List Entry). now.entries ++ l) (added ∙ said) ∙ ap (λ (l : List Entry). l ++ leaves n) left.leaves
          ∙ append_assoc start.entries (flat_map each (range_with_len 0 n)) (leaves n) ∙ ap (λ (l : List Entry). start.entries ++ (l ++ leaves n)) earlier ∙ ap (λ (l : List Entry). start.entries ++ l) (sym (each_more leaves n));
    }
  where
    gone_more : (number : ℕ) → number < n + 1 → has_left number new.entries ≡ true
    gone_more number under = gone_then number n now.entries (notes.answers.once (λ e. cc e)).adds.before notes.reply new.entries (notes.answers.once (λ e. cc e)).adds.entries (left.gone number) under

-- no seat has left yet
pub have_left_none : (heap : Heap) (state : PlayState) (calls : ℕ) → IsPlaying heap state calls → HaveLeft heap state state 0
have_left_none heap state calls plays =
    record { of_heap = plays.of_heap; others = λ number past below. plays.present number below; gone = λ number under. absurd (omega (arith, under)); left = λ number. 0; leaves = sym (append-nil state.entries) }
