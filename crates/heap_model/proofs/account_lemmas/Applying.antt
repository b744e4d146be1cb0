-- An account that was prepared for an entry, and noted it, tells the history with that entry.
use Rattle.std.proofs.Common.{◌≡◌, ℕ, zero, suc, ◌+◌, ◌-◌, ◌%◌, ◌<◌, ◌≤◌, List, [], ◌∷◌, ◌++◌, ◌⊎◌, inl, inr, refl, sym, ap, ◌∙◌, subst, arith, Bool, true, false, cond, Contains, sum_by, add-zero}
use Rattle.std.proofs.lemmas.List.Sums.{sum_by-cons}
use Rattle.std.proofs.lemmas.Bool.{cases_lt, cases_Bool, cond-true, cond-false, eqb-true, eq-eqb}
use Rattle.std.proofs.lemmas.List.Elements.{Contains-append_left, Contains-push, Contains-push_cases}
use Rattle.std.specs.List.{range_with_len}
use Rattle.heap_model.specs.PhasePlan.{cycle_phases, barriers as barriers_phase}
use Rattle.heap_model.specs.declared.heap.Heap.{Heap}
use Rattle.heap_model.specs.declared.id.Id.{Id}
use Rattle.heap_model.specs.declared.entry.Entry.{Entry}
use Rattle.heap_model.specs.declared.entry.Entry.TheVariants as entries
use Rattle.heap_model.specs.declared.account.effect.Effect.{Effect}
use Rattle.heap_model.specs.declared.account.seat.SeatAccount.{SeatAccount}
use Rattle.heap_model.specs.declared.account.cycle.Cycle.{Cycle}
use Rattle.heap_model.specs.graph.Graph.{opening}
use Rattle.heap_model.specs.graph.Growth.{counts_after}
use Rattle.heap_model.specs.graph.Objects.{made_counts}
use Rattle.heap_model.specs.graph.Reach.{AreReached}
use Rattle.heap_model.specs.graph.Sizes.{fragments_of_all, spine_words_of_all}
use Rattle.heap_model.specs.account.Space.{total, words_granted}
use Rattle.heap_model.specs.account.Effects.{effect_of, is_of}
use Rattle.heap_model.specs.account.Windows.{begins_phase, begins_cycle, after_last, is_reply_to, up_to_cycle}
use Rattle.heap_model.specs.account.Cycles.{graph_of, brings, all_bring}
use Rattle.heap_model.specs.account.Sweep.{HasSwung}
use Rattle.heap_model.specs.account.Account.{KeepsSpace}
use Rattle.heap_model.specs.account.Books.{Books, Tells, TellsCycle}
use Rattle.heap_model.specs.account.SeatBooks.{account_at, TellsSeat}
use Rattle.heap_model.specs.account.Noting.{IsCounted, IsNoted}
use Rattle.heap_model.specs.account.Preparing.{IsPrepared, IsBegun, brought_by}
use Rattle.heap_model.proofs.Histories.{graph_after-more, total-more}
use Rattle.heap_model.proofs.graph_lemmas.MadeLemmas.{made_counts-after}
use Rattle.heap_model.proofs.account_lemmas.Windows.{up_to_last-yes, up_to_last-no, after_last-yes, after_last-no, sum_of_window_sections}
use Rattle.heap_model.proofs.account_lemmas.Turns.{entry_turn_cases}
use Rattle.heap_model.proofs.account_lemmas.Counting.{Counts, tells_seat_with_entry, tells_all_with_entry}

-- what was prepared and noted was counted
counted : (old mid new : Books) (entry : Entry) → mid ≡ record old { cycle = mid.cycle; swung = mid.swung; made = mid.made } → IsCounted mid entry new → IsCounted old entry new
counted old mid new entry rest n = go mid.cycle mid.swung mid.made (subst (λ m. IsCounted m entry new) rest n)
  where
    go : (cycle : Cycle) (swung : List Id) (made : List ℕ) → IsCounted (record old { cycle = cycle; swung = swung; made = made }) entry new → IsCounted old entry new
    go cycle swung made n = record { heap = n.heap; entries = n.entries; all = n.all; seats = n.seats; ended = n.ended }

-- the arrays that have swung in the phase
swung-more : (history : List Entry) (entry : Entry) (old mid new : List Id) → new ≡ cond (begins_phase entry) [] mid
    → ((id : Id) → (Contains mid id → Contains old id ⊎ (entry ≡ entries.Swings id)) × (Contains old id ⊎ (entry ≡ entries.Swings id) → Contains mid id))
    → ((id : Id) → (HasSwung id history → Contains old id) × (Contains old id → HasSwung id history))
    → (id : Id) → (HasSwung id (history ++ entry ∷ []) → Contains new id) × (Contains new id → HasSwung id (history ++ entry ∷ []))
swung-more history entry old mid new e prepared told id =
    elim (cases_Bool (begins_phase entry)) [
      | inl fits ↦ (let none = after_last-yes begins_phase history entry fits in
          let empty = e ∙ cond-true (begins_phase entry) [] mid fits in
          (λ h. absurd (nothing (subst (λ es. Contains es (entries.Swings id)) none h)), λ h. absurd (nothing (subst (λ es. Contains es id) empty h))))
      | inr fails ↦ (let more = after_last-no begins_phase history entry fails in
          let same = e ∙ cond-false (begins_phase entry) [] mid fails in (
            λ h. subst (λ es. Contains es id) (sym same) ((prepared id).1 (elim (Contains-push_cases _ entry (entries.Swings id) (subst (λ es. Contains es (entries.Swings id)) more h)) [
              | inl past ↦ inl ((told id).0 past)
              | inr now ↦ inr now
            ])),
            λ h. subst (λ es. Contains es (entries.Swings id)) (sym more) (elim ((prepared id).0 (subst (λ es. Contains es id) same h)) [
              | inl past ↦ Contains-append_left _ (entry ∷ []) (entries.Swings id) ((told id).1 past)
              | inr now ↦ subst (λ x. Contains (after_last begins_phase history ++ entry ∷ []) x) now (Contains-push _ entry)
            ]),
          ))
    ]
  where
    nothing : {A : Type 0} {x : A} → Contains [] x → ⊥
    nothing h = omega (arith, h.1)

-- sums of equal numbers
sum-range-same : (f g : ℕ → ℕ) (a n : ℕ) → ((number : ℕ) → a ≤ number → number < a + n → f number ≡ g number) → sum_by f (range_with_len a n) ≡ sum_by g (range_with_len a n)
sum-range-same f g a zero same = refl
sum-range-same f g a (suc n) same =
    omega (
      arith,
      sum_by-cons f a (range_with_len (a + 1) n),
      sum_by-cons g a (range_with_len (a + 1) n),
      same a (omega arith) (omega arith),
      sum-range-same f g (a + 1) n (λ number above below. same number (omega (arith, above)) (omega (arith, below))),
    )

-- what a seat brings is so by what is kept
brings_is : (heap : Heap) (all : Effect) (seats : List SeatAccount) (number : ℕ) (history : List Entry) → TellsSeat heap all seats number (account_at seats number) history → brings number history ≡ brought_by (account_at seats number)
brings_is heap all seats number history told =
    omega (
      arith,
      told.own.taken,
      told.own_then.taken,
      told.own_then.given,
      told.own_then.born,
      told.solvent,
      told.richer,
      sum_of_window_sections (is_reply_to number) (λ e. cond (is_of number e) (effect_of e).taken 0) history,
    )

-- a cycle that begins is told
begun-tells : (play : Bool) (old new : Books) (history : List Entry) (p : ℕ) → Counts play old new history (entries.Advance p) → p % cycle_phases ≡ barriers_phase → (cycle : Cycle) → IsBegun old (graph_of old.heap history) cycle
    → TellsCycle old.heap cycle (history ++ entries.Advance p ∷ [])
begun-tells play old new history p c one cycle begun =
    let here : up_to_cycle (history ++ entries.Advance p ∷ []) ≡ history ++ entries.Advance p ∷ [] = up_to_last-yes begins_cycle history (entries.Advance p) (eq-eqb (p % cycle_phases) barriers_phase one) in
    let graph : graph_of old.heap (up_to_cycle (history ++ entries.Advance p ∷ [])) ≡ graph_of old.heap history = ap (graph_of old.heap) here ∙ graph_after-more (opening old.heap) history (entries.Advance p) in
    record {
      reached = subst (λ g. AreReached g cycle.reached.items) (sym graph) begun.reached;
      frags = begun.frags ∙ ap (λ g. fragments_of_all g cycle.reached.items) (sym graph);
      words = begun.words ∙ ap (λ g. spine_words_of_all g cycle.reached.items) (sym graph);
      brought = begun.brought ∙ sum-range-same _ _ 0 old.heap.seats (λ number above below. each number (omega (arith, below))) ∙ ap (all_bring old.heap) (sym here);
      taken = begun.taken ∙ c.tells.all.taken ∙ sym (total-more (λ e. e.taken) history (entries.Advance p) ∙ add-zero _) ∙ ap (total (λ e. e.taken)) (sym here);
      granted = begun.granted ∙ c.tells.all.words ∙ sym (total-more (λ e. e.words) history (entries.Advance p) ∙ add-zero _) ∙ ap (total (λ e. e.words)) (sym here);
    }
  where
    each : (number : ℕ) → number < old.heap.seats → brought_by (account_at old.seats number) ≡ brings number (history ++ entries.Advance p ∷ [])
    each number lt =
        let noted = c.counted.seats number lt in
        ap (λ (x : Effect). x.taken - ((account_at old.seats number).own_then.given + (account_at old.seats number).own_then.born)) (sym noted.own)
        ∙ ap (λ (x : Effect). (account_at new.seats number).own.taken - (x.given + x.born)) (sym noted.own_then)
        ∙ sym (brings_is old.heap new.all new.seats number (history ++ entries.Advance p ∷ []) (tells_seat_with_entry play old new history (entries.Advance p) c number lt))

-- what is told of a cycle stays so until the next begins
cycle-stays : (heap : Heap) (cycle : Cycle) (history later : List Entry) → up_to_cycle later ≡ up_to_cycle history → TellsCycle heap cycle history → TellsCycle heap cycle later
cycle-stays heap cycle history later same told = record {
  reached = subst (λ h. AreReached (graph_of heap h) cycle.reached.items) (sym same) told.reached;
  frags = told.frags ∙ ap (λ h. fragments_of_all (graph_of heap h) cycle.reached.items) (sym same);
  words = told.words ∙ ap (λ h. spine_words_of_all (graph_of heap h) cycle.reached.items) (sym same);
  brought = told.brought ∙ ap (all_bring heap) (sym same);
  taken = told.taken ∙ ap (total (λ e. e.taken)) (sym same);
  granted = told.granted ∙ ap words_granted (sym same);
}

-- an entry that begins a cycle is an advance
advance_of : (entry : Entry) → begins_cycle entry ≡ true → (p : ℕ) × (entry ≡ entries.Advance p) × (p % cycle_phases ≡ barriers_phase)
advance_of (entries.Advance p) begins = (p, refl, eqb-true (p % cycle_phases) barriers_phase begins)
advance_of entry begins = cc begins

-- the account tells the history with the entry
pub account_tells_entry : (play : Bool) (old mid new : Books) (history : List Entry) (entry : Entry) → Tells old history → KeepsSpace old.heap play history entry
    → IsPrepared old (graph_of old.heap history) entry mid → IsNoted mid entry new → Tells new (history ++ entry ∷ [])
account_tells_entry play old mid new history entry t keeps prepared noted =
    tells_all_with_entry play old new history entry c (swung-more history entry old.swung mid.swung new.swung noted.swung prepared.swung t.swung) (λ some. cycle some (cases_Bool (begins_cycle entry))) made
  where
    c : Counts play old new history entry
    c = record { tells = t; keeps = keeps; counted = counted old mid new entry prepared.rest noted.counted }

    made : new.made ≡ made_counts (graph_of old.heap (history ++ entry ∷ []))
    made = noted.made ∙ prepared.made ∙ ap (λ counts. counts_after counts entry) t.made ∙ sym (ap made_counts (graph_after-more (opening old.heap) history entry) ∙ made_counts-after (graph_of old.heap history) entry)

    begun : (entry : Entry) → Counts play old new history entry → (p : ℕ) → entry ≡ entries.Advance p → p % cycle_phases ≡ barriers_phase → IsBegun old (graph_of old.heap history) mid.cycle → TellsCycle old.heap mid.cycle (history ++ entry ∷ [])
    begun entry c p is one b = subst (λ e. TellsCycle old.heap mid.cycle (history ++ e ∷ [])) (sym is) (begun-tells play old new history p (subst (λ e. Counts play old new history e) is c) one mid.cycle b)

    earlier : begins_cycle entry ≡ false → 1 ≤ new.all.phases → 1 ≤ old.all.phases
    earlier fails some = elim (entry_turn_cases old.heap play history entry keeps) [
      | inl a ↦ (elim (cases_lt 0 old.all.phases) [
        | inl above ↦ above
        | inr none ↦ absurd (first a.to (omega (arith, a.next, t.all.phases, none)) (ap begins_cycle (sym a.is) ∙ fails))
      ])
      | inr (inl f) ↦ omega (arith, f.at, t.all.phases)
      | inr (inr s) ↦ omega (arith, some, s.none, ap (λ (x : Effect). x.phases) c.counted.all)
    ]
      where
        first : (p : ℕ) → p ≡ 1 → begins_cycle (entries.Advance p) ≡ false → ⊥
        first p is fails = cc (subst (λ p. begins_cycle (entries.Advance p) ≡ false) is fails)

    cycle : 1 ≤ new.all.phases → (begins_cycle entry ≡ true) ⊎ (begins_cycle entry ≡ false) → TellsCycle old.heap new.cycle (history ++ entry ∷ [])
    cycle some (inl fits) =
        let a = advance_of entry fits in
        subst (λ x. TellsCycle old.heap x (history ++ entry ∷ [])) (sym noted.cycle) (begun entry c a.0 a.1 a.2 (prepared.begun fits t.made))
    cycle some (inr fails) =
        subst (λ x. TellsCycle old.heap x (history ++ entry ∷ [])) (sym (noted.cycle ∙ prepared.same fails))
        (cycle-stays old.heap old.cycle history (history ++ entry ∷ []) (up_to_last-no begins_cycle history entry fails) (t.cycle (earlier fails some)))
