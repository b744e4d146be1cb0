-- Where the first seat has made a node before it answered a phase, the heap has more fragments than the board.
use Rattle.std.proofs.Common.{◌≡◌, ℕ, ◌+◌, ◌*◌, ◌<◌, ◌≤◌, ◌⊎◌, inl, inr, Bool, false, ◌||◌, cond, List, [], ◌∷◌, ◌++◌, refl, sym, ap, ◌∙◌, subst, arith}
use Rattle.std.proofs.lemmas.Bool.{cases_Bool}
use Rattle.heap_model.specs.Limits.{group_fragments}
use Rattle.heap_model.specs.Logs.{log_of, logs_of}
use Rattle.heap_model.specs.Needs.{record_fragments, made_by}
use Rattle.heap_model.specs.account.Account.{KeepsSpace, KeepsSpaceAfter, IsLegal}
use Rattle.heap_model.specs.account.Effects.{effect_of, is_of}
use Rattle.heap_model.specs.account.PhaseCounts.{has_left, is_leave_of, last_answer, phase}
use Rattle.heap_model.specs.account.Space.{total, taken_of, spent_of}
use Rattle.heap_model.specs.declared.command.Command.{Command}
use Rattle.heap_model.specs.declared.command.Command.TheVariants.{New, Leave}
use Rattle.heap_model.specs.declared.entry.Entry.{Entry}
use Rattle.heap_model.specs.declared.entry.Entry.TheVariants as entries
use Rattle.heap_model.specs.declared.heap.Heap.{Heap}
use Rattle.heap_model.specs.declared.reply.Reply.TheVariants.{Made}
use Rattle.heap_model.proofs.Histories.{total-more, total_of-more}
use Rattle.heap_model.proofs.account_lemmas.Windows.{any_with_entry_more, total_is_own_and_others}
use Rattle.collector_turns.specs.Collector.{CollectorValue}
use Rattle.heap_queue.specs.declared.queue_command.QueueCommand.{QueueCommand}
use Rattle.heap_queue.specs.declared.queue_run.QueueRan.{QueueRan}
use Rattle.heap_queue.specs.Grows.{MakesFirst}
use Rattle.heap_queue.specs.Running.{IsQueueRan}
use Rattle.heap_queue.proofs.ServedSeats.{first_makes}

-- nothing was taken, given back or freed yet, the first cycle has at most begun, and the first seat is there and has answered nothing
record IsEarly (before : List Entry) : Type 0 where
  taken : total (λ e. e.taken) before ≡ 0
  given : total (λ e. e.given) before ≡ 0
  freed : total (λ e. e.freed) before ≡ 0
  begun : phase before ≤ 1
  present : has_left 0 before ≡ false
  silent : last_answer 0 before ≡ 0

early_opening : IsEarly []
early_opening = record { taken = refl; given = refl; freed = refl; begun = omega arith; present = refl; silent = refl }

-- the leave of a seat is its own
leave_is_own : (entry : Entry) → is_of 0 entry ≡ false → is_leave_of 0 entry ≡ false
leave_is_own (entries.Said number Leave reply) other = other
leave_is_own _ other = refl

-- behind an entry of another seat, or of the collector, that takes, gives back and frees nothing
early_still : (before : List Entry) (entry : Entry) → (effect_of entry).taken ≡ 0 → (effect_of entry).given ≡ 0 → (effect_of entry).freed ≡ 0 → phase before + (effect_of entry).phases ≤ 1 → is_of 0 entry ≡ false → IsEarly before
    → IsEarly (before ++ entry ∷ [])
early_still before entry taken given freed phases other early = record {
  taken = omega (arith, total-more (λ e. e.taken) before entry, taken, early.taken);
  given = omega (arith, total-more (λ e. e.given) before entry, given, early.given);
  freed = omega (arith, total-more (λ e. e.freed) before entry, freed, early.freed);
  begun = omega (arith, total-more (λ e. e.phases) before entry, phases);
  present = any_with_entry_more (is_leave_of 0) before entry ∙ (λ i. early.present i || leave_is_own entry other i);
  silent = total_of-more 0 (λ e. e.answers) before entry ∙ (λ i. early.silent i + cond (other i) (effect_of entry).answers 0);
}

module _ (heap : Heap) (some : 1 ≤ heap.seats) where
  abbrev HasRoom : Type 0
  HasRoom = record_fragments heap.board < group_fragments * heap.groups

  -- no seat has taken anything
  took_none : (before : List Entry) (number : ℕ) → IsEarly before → taken_of number before ≡ 0
  took_none before number early = omega (arith, total_is_own_and_others number (λ e. e.taken) before, early.taken)

  -- no seat gives back what none has taken
  gives_none : (before : List Entry) (number count : ℕ) → IsEarly before → KeepsSpace heap false before (entries.GivesBack number count) → ⊥
  gives_none before number count early keeps = absurd (omega (arith, keeps.takes.0, keeps.takes.1, took_none before number early))

  -- the first claim finds more than the board has
  claims : (before : List Entry) (number count : ℕ) → IsEarly before → KeepsSpace heap false before (entries.Takes number count) → HasRoom
  claims before number count early keeps = omega (arith, keeps.takes.0, keeps.takes.1, early.taken, early.given, early.freed)

  -- and none makes a node of nothing
  makes_none : (before : List Entry) (number : ℕ) (command : Command) (id : _) → command ≡ New 15 2 → IsEarly before → KeepsSpace heap false before (entries.Said number command (Made id)) → ⊥
  makes_none before number command id asks early keeps =
      let makes : spent_of number before + made_by (New 15 2) (Made id) ≤ taken_of number before
      = subst (λ (c : Command). spent_of number before + made_by c (Made id) ≤ taken_of number before) asks keeps.makes.0 in
      absurd (omega (arith, makes, took_none before number early))

  -- with the first seat's first entry
  first_own : (before rest : List Entry) (entry : Entry) → MakesFirst (entry ∷ rest) → IsEarly before → KeepsSpace heap false before entry → HasRoom
  first_own before rest (entries.Takes number count) makes early keeps = claims before number count early keeps
  first_own before rest (entries.Said number command (Made id)) makes early keeps = absurd (makes_none before number command id makes early keeps)
  first_own before rest entry makes early keeps = absurd makes

  -- any other entry
  another : (before : List Entry) (entry : Entry) → is_of 0 entry ≡ false → IsEarly before → KeepsSpace heap false before entry → HasRoom ⊎ IsEarly (before ++ entry ∷ [])
  another before (entries.Takes number count) other early keeps = inl (claims before number count early keeps)
  another before (entries.GivesBack number count) other early keeps = absurd (gives_none before number count early keeps)
  another before (entries.Frees count) other early keeps = absurd (omega (arith, keeps.sweeps.0, early.begun))
  another before (entries.Advance p) other early keeps =
      let none : 0 ≡ phase before = sym early.silent ∙ keeps.begins.2 0 (omega (arith, some)) early.present in
      inr (early_still before (entries.Advance p) refl refl refl (omega (arith, none)) other early)
  another before (entries.Ends cycle kept) other early keeps = absurd (omega (arith, keeps.ends.0.0, early.begun))
  another before entry other early keeps = inr (early_still before entry refl refl refl (omega (arith, early.begun)) other early)

  -- up to that one
  room_behind : (before rest : List Entry) → MakesFirst (log_of 0 rest) → IsEarly before → KeepsSpaceAfter heap false before rest → HasRoom
  room_behind before [] makes early keeps = absurd makes
  room_behind before (entry ∷ rest) makes early keeps = elim (cases_Bool (is_of 0 entry)) [
    | inl mine ↦ (
        let own = subst (λ (b : Bool). MakesFirst (cond b (entry ∷ log_of 0 rest) (log_of 0 rest))) mine makes in
        first_own before (log_of 0 rest) entry own early keeps.0)
    | inr other ↦ (
        let own = subst (λ (b : Bool). MakesFirst (cond b (entry ∷ log_of 0 rest) (log_of 0 rest))) other makes in
        elim (another before entry other early keeps.0) [
          | inl room ↦ room
          | inr still ↦ room_behind (before ++ entry ∷ []) rest own still keeps.1
        ])
  ]

  -- in a legal history in which the first seat's entries begin so
  has_room : (history : List Entry) → MakesFirst (log_of 0 history) → IsLegal heap false history → HasRoom
  has_room history makes legal = room_behind [] history makes early_opening legal.space

-- so a heap on which a queue was run has room
pub ran_has_room : (scripts : List (List QueueCommand)) (collector : CollectorValue) (ran : QueueRan) → 1 ≤ collector.holder.heap.seats → IsQueueRan scripts collector ran
    → record_fragments collector.holder.heap.board < group_fragments * collector.holder.heap.groups
ran_has_room scripts collector ran some is =
    let heap = collector.holder.heap in
    let one = is.unused.one in
    let legal : IsLegal heap false one.history = subst (λ (h : Heap). IsLegal h false one.history) is.of_heap one.legal in
    let same = sym is.logs.logs_are ∙ (one.logs_are ∙ ap (λ (h : Heap). logs_of h one.history) is.of_heap) in
    has_room heap some one.history (first_makes heap scripts is.seats is.numbered is.served _ one.history legal.objects same some) legal
