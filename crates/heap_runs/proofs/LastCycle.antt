-- Turns up to the end of a cycle, and a last cycle once every seat has left.
use Rattle.std.proofs.Common.{◌≡◌, ◌≢◌, ℕ, zero, suc, ◌+◌, ◌%◌, ◌==◌, ◌<◌, ◌||◌, Bool, true, false, ◌⊎◌, List, [], ◌∷◌, ◌++◌, inl, inr, refl, sym, ap, subst, ◌∙◌, append_assoc, arith}
use Rattle.std.specs.List.{list_any}
use Rattle.std.proofs.Math.Bool.{or-false}
use Rattle.std.proofs.lemmas.Bool.{eq-eqb, ne_eqb, or_right}
use Rattle.std.proofs.lemmas.List.{append-nil}
use Rattle.heap_model.specs.PhasePlan.{cycle_phases, rest}
use Rattle.heap_model.specs.declared.calls.collector_calls.Turn.{Turn}
use Rattle.heap_model.specs.declared.calls.collector_calls.Turn.TheVariants as turns
use Rattle.heap_model.specs.declared.entry.Entry.{Entry}
use Rattle.heap_model.specs.declared.entry.Entry.TheVariants as entries
use Rattle.heap_model.specs.declared.reply.TurnReply.{TurnReply}
use Rattle.heap_model.specs.declared.reply.TurnReply.TheVariants as replies
use Rattle.heap_model.specs.declared.heap.Heap.{Heap}
use Rattle.heap_model.specs.account.PhaseCounts.{phase, has_left}
use Rattle.heap_model.specs.account.Windows.{begins_cycle}
use Rattle.heap_model.specs.calls.CollectorCalls.{StepsTo}
use Rattle.heap_model.proofs.account_lemmas.Windows.{any_with_entry_more}
use Rattle.core_rule.proofs.parties.LeftStill.{left_stays_left}
use Rattle.heap_runs.specs.Play.{tells_step, AreSteps, ReachesCycleEnd}
use Rattle.heap_runs.specs.PlayHeap.{PlayState, TakesTurn}
use Rattle.heap_runs.specs.Playing.{AllHaveLeft, NotesCycle, NotesLastCycle}
use Rattle.heap_runs.specs.Turning.{IsStep, TakesTurns, HasComeTo, ServesCycle}
use Rattle.heap_runs.proofs.TurnFacts.{turn_adds_just_more, turn_adds_nothing, adds_turns_that_came}

steps_more : (told : List Entry) (entry : Entry) → AreSteps told → tells_step entry ≡ true → AreSteps (told ++ entry ∷ [])
steps_more [] entry own more = (more, tt)
steps_more (first ∷ told) entry own more = (own.0, steps_more told entry own.1 more)

-- of a phase at which steps began, the phase now, and whether a cycle began among them: while none is under way none has begun; else one has begun among them
-- where none was under way at first
abbrev pub Begins : ℕ → ℕ → Bool → Type 0
Begins first now begun = ((now % cycle_phases ≡ rest) × (first % cycle_phases ≡ rest) × (begun ≡ false)) ⊎ ((now % cycle_phases ≢ rest) × (begun ≡ (first % cycle_phases == rest)))

begins_none : (first : ℕ) → Begins first first false
begins_none first = begins (first % cycle_phases) refl
  where
    begins : (k : ℕ) → first % cycle_phases ≡ k → Begins first first false
    begins zero at_rest = inl (at_rest, at_rest, refl)
    begins (suc k) past = inr (λ at_rest. absurd (omega (arith, past, at_rest)), sym (ne_eqb (first % cycle_phases) rest (λ at_rest. omega (arith, past, at_rest))))

-- so it is after a phase more has begun
begins_next : (first now next : ℕ) (begun : Bool) → next ≡ now + 1 → next % cycle_phases ≢ rest → Begins first now begun → Begins first next (begun || begins_cycle (entries.Advance next))
begins_next first now next begun is past (inl none) =
    let here : begins_cycle (entries.Advance next) ≡ true = eq-eqb (next % cycle_phases) 1 (omega (arith, is, none.0)) in
    inr (past, or_right begun _ here ∙ sym (eq-eqb (first % cycle_phases) rest none.1))
begins_next first now next begun is past (inr some) =
    let later : begins_cycle (entries.Advance next) ≡ false = ne_eqb (next % cycle_phases) 1 (λ one. some.0 (omega (arith, one, is))) in
    inr (past, ap (λ b. begun || b) later ∙ or-false begun ∙ some.1)

-- so it is after an entry of a step
begins_step : (first now later : ℕ) (begun : Bool) (entry : Entry) → StepsTo now entry later → Begins first now begun → Begins first later (begun || begins_cycle entry)
begins_step first now later begun (entries.Advance next) steps begins = rw steps.2 (begins_next first now next begun steps.0 steps.1 begins)
begins_step first now later begun (entries.Frees count) steps begins = rw (steps.2, or-false begun) begins
begins_step first now later begun (entries.Returns count) steps begins = rw (steps.2, or-false begun) begins
begins_step first now later begun (entries.Swings id) steps begins = rw (steps.1, or-false begun) begins
begins_step first now later begun _ steps begins = absurd steps

step_told : (now later : ℕ) (entry : Entry) → StepsTo now entry later → tells_step entry ≡ true
step_told now later (entries.Advance next) steps = refl
step_told now later (entries.Frees count) steps = refl
step_told now later (entries.Returns count) steps = refl
step_told now later (entries.Swings id) steps = refl
step_told now later _ steps = absurd steps

-- steps alone were made
pub record MadeSteps (old new : PlayState) : Type 0 where
  pub same_heap : new.heap ≡ old.heap
  pub steps : List Entry
  pub told : new.entries ≡ old.entries ++ steps
  pub own : AreSteps steps
  pub begins : Begins (phase old.entries) (phase new.entries) (list_any begins_cycle steps)

step_more : (old now new : PlayState) → MadeSteps old now → TakesTurn now new turns.Stepped → MadeSteps old new
step_more old now new made takes = elim takes.turned.comes_to [
  | inl none ↦ (
      let same : new.entries ≡ now.entries = takes.entries ∙ ap (λ es. now.entries ++ es) (turn_adds_nothing now new turns.Stepped takes none.0) ∙ append-nil now.entries in
      record {
        same_heap = takes.heap ∙ made.same_heap;
        steps = made.steps;
        told = same ∙ made.told;
        own = made.own;
        begins = subst (λ p. Begins (phase old.entries) p (list_any begins_cycle made.steps)) (sym none.1) made.begins;
      })
  | inr some ↦ (
      let is : takes.added ≡ some.0 ∷ [] = turn_adds_just_more now new turns.Stepped takes (some.0 ∷ []) some.2 in
      record {
        same_heap = takes.heap ∙ made.same_heap;
        steps = made.steps ++ some.0 ∷ [];
        told = takes.entries ∙ ap (λ es. now.entries ++ es) is ∙ ap (λ es. es ++ some.0 ∷ []) made.told ∙ append_assoc old.entries made.steps (some.0 ∷ []);
        own = steps_more made.steps some.0 made.own (step_told _ _ some.0 some.1);
        begins = rw (any_with_entry_more begins_cycle made.steps some.0) (begins_step (phase old.entries) (phase now.entries) (phase new.entries) (list_any begins_cycle made.steps) some.0 some.1 made.begins);
      })
]

pub steps_are_made : (n : ℕ) (old new : PlayState) → TakesTurns IsStep n old new → MadeSteps old new
steps_are_made zero old new same = rw same (record { same_heap = refl; steps = []; told = sym (append-nil old.entries); own = tt; begins = begins_none (phase old.entries) })
steps_are_made (suc n) old new taken = step_more old taken.0 new (steps_are_made n old taken.0 taken.2) (subst (λ (turn : Turn). TakesTurn taken.0 new turn) taken.4 taken.3)

-- turns up to the end of a cycle are those of one
pub comes_to_end : (old new : PlayState) (cycle kept : ℕ) (reply : TurnReply) → HasComeTo IsStep old new (turns.Ended cycle kept) reply → NotesCycle old new
comes_to_end old new cycle kept reply came =
    let made = steps_are_made came.earlier old came.now came.turned.taken in
    let takes = came.takes in
    let comes = takes.turned.comes_to in
    let is : takes.added ≡ entries.Ends cycle kept ∷ [] = turn_adds_just_more came.now new (turns.Ended cycle kept) takes (entries.Ends cycle kept ∷ []) comes.0 in
    record {
      same_heap = takes.heap ∙ made.same_heap;
      turned = made.steps ++ entries.Ends cycle kept ∷ [];
      told = takes.entries ∙ ap (λ es. came.now.entries ++ es) is ∙ ap (λ es. es ++ entries.Ends cycle kept ∷ []) made.told ∙ append_assoc old.entries made.steps (entries.Ends cycle kept ∷ []);
      ended = record { steps = made.steps; own = made.own; begins = begun (phase old.entries) (phase came.now.entries) _ made.begins (omega (arith, comes.1)); cycle = cycle; kept = kept; ends = refl };
      at_rest = omega (arith, comes.2);
    }
  where
    begun : (first now : ℕ) (some : Bool) → Begins first now some → now % cycle_phases ≡ 6 → some ≡ (first % cycle_phases == rest)
    begun first now some (inl none) last = absurd (omega (arith, none.0, last))
    begun first now some (inr there) last = there.1

-- once every seat has left no turn waits, so the cycle ends
pub notes_cycle_unhindered : (old new : PlayState) (reply : TurnReply) → AllHaveLeft old → ServesCycle old new reply → NotesCycle old new
notes_cycle_unhindered old new replies.Done gone serves = absurd serves
notes_cycle_unhindered old new (replies.Cycle cycle) gone serves = comes_to_end old new cycle serves.0 (replies.Cycle cycle) serves.1
notes_cycle_unhindered old new (replies.Waits number answer p) gone serves =
    let adds = adds_turns_that_came IsStep old new _ _ serves in
    let left : has_left number new.entries ≡ true = ap (has_left number) adds.told ∙ left_stays_left number old.entries adds.added (gone number (subst (λ (h : Heap). number < h.seats) adds.same_heap serves.shows.0)) in
    absurd cc (left, serves.shows.2.present)

-- so it stays after turns
pub all_stay_left : (old new : PlayState) (added : List Entry) → new.heap ≡ old.heap → new.entries ≡ old.entries ++ added → AllHaveLeft old → AllHaveLeft new
all_stay_left old new added same told gone number under = ap (has_left number) told ∙ left_stays_left number old.entries added (gone number (subst (λ (h : Heap). number < h.seats) same under))

-- where no cycle is under way, the next one is the last
pub last_cycle_from_rest : (old new : PlayState) → phase old.entries % cycle_phases ≡ rest → NotesCycle old new → NotesLastCycle old new
last_cycle_from_rest old new at_rest notes = record {
  same_heap = notes.same_heap;
  turned = notes.turned;
  told = notes.told;
  cycle = record { under_way = []; whole = notes.turned; first = inl refl; last = subst (λ b. ReachesCycleEnd b notes.turned) (eq-eqb _ rest at_rest) notes.ended; both = refl };
}

-- where one is, it ends first
pub last_cycle_behind_current : (old now new : PlayState) → phase old.entries % cycle_phases ≢ rest → NotesCycle old now → NotesCycle now new → NotesLastCycle old new
last_cycle_behind_current old now new past first then_ = record {
  same_heap = then_.same_heap ∙ first.same_heap;
  turned = first.turned ++ then_.turned;
  told = then_.told ∙ ap (λ es. es ++ then_.turned) first.told ∙ append_assoc old.entries first.turned then_.turned;
  cycle = record {
    under_way = first.turned;
    whole = then_.turned;
    first = inr (subst (λ b. ReachesCycleEnd b first.turned) (ne_eqb _ rest past) first.ended);
    last = subst (λ b. ReachesCycleEnd b then_.turned) (eq-eqb _ rest first.at_rest) then_.ended;
    both = refl;
  };
}
