-- An account that counted one more entry tells the history with that entry.
use Rattle.std.proofs.Common.{◌≡◌, ◌≢◌, ℕ, ◌+◌, ◌<◌, ◌≤◌, List, [], ◌∷◌, ◌++◌, inl, inr, refl, sym, ap, ◌∙◌, subst, arith, Bool, true, false, cond, Option, Some, is_some, Contains, slice_index_or, length-append}
use Rattle.std.proofs.lemmas.Bool.{cases_Bool, cond-true, cond-false, eqb-true}
use Rattle.std.specs.Option.{unwrap_or}
use Rattle.heap_model.specs.declared.heap.Heap.{Heap}
use Rattle.heap_model.specs.declared.id.Id.{Id}
use Rattle.heap_model.specs.declared.entry.Entry.{Entry}
use Rattle.heap_model.specs.declared.entry.Entry.TheVariants as entries
use Rattle.heap_model.specs.declared.account.effect.Effect.{Effect}
use Rattle.heap_model.specs.graph.Objects.{made_counts}
use Rattle.heap_model.specs.account.Cycles.{graph_of}
use Rattle.heap_model.specs.account.Space.{total, total_of}
use Rattle.heap_model.specs.account.Effects.{effect_of, is_of}
use Rattle.heap_model.specs.account.Sums.{plus, IsMeasured}
use Rattle.heap_model.specs.account.Windows.{is_reply_to}
use Rattle.heap_model.specs.account.Phases.{IsBehind, WasBehind}
use Rattle.heap_model.specs.account.PhaseCounts.{phase, last_answer, has_left, is_leave_of, JustEnded}
use Rattle.heap_model.specs.account.Sweep.{HasSwung}
use Rattle.heap_model.specs.account.Account.{KeepsSpace}
use Rattle.heap_model.specs.account.Books.{Books, Tells, TellsCycle}
use Rattle.heap_model.specs.account.SeatBooks.{account_at, first_behind, last_phase, IsFrom, TellsSeat}
use Rattle.heap_model.specs.account.Noting.{IsNotedSeat, IsCounted, is_behind_now, seat_of}
use Rattle.heap_model.proofs.account_lemmas.Windows.{any_with_entry_more, sum_of_window_sections, total_since_reply}
use Rattle.heap_model.proofs.account_lemmas.Noting.{entry_is_of_other}
use Rattle.heap_model.proofs.account_lemmas.Turns.{entry_turn_cases, ended_cycles_with_entry, just_ended_by_entry}
use Rattle.heap_model.proofs.account_lemmas.TellsMore.{all_measures_with_entry, own_measures_with_entry, reply_measures_with_entry, tells_since_reply}
use Rattle.heap_model.proofs.account_lemmas.SeatsMore.{left_if_had_or_leaves, gone_phase_within_phase, spent_within_taken, began_since_with_entry, was_behind_at_reply, was_behind_with_entry, behind_at_end_was_behind}
use Rattle.heap_model.proofs.account_lemmas.BehindLemmas.{SeatStep, begins, answers_now, leaves, rests, entry_is_seat_step, IsOneBehind, behind_since_earlier_reply, behind_right_after_reply}

-- an account that is to count one more entry, which keeps the rules
pub record Counts (play : Bool) (old new : Books) (history : List Entry) (entry : Entry) : Type 0 where
  pub tells : Tells old history
  pub keeps : KeepsSpace old.heap play history entry
  pub counted : IsCounted old entry new

-- behind by one, in the history and in numbers
to_numbers : (number answer : ℕ) (history : List Entry) (left : Option ℕ) (answers now : ℕ) → is_some left ≡ has_left number history → answers ≡ last_answer number history → now ≡ phase history
    → IsBehind number answer (answer + 1) history → IsOneBehind left answers now answer
to_numbers number answer history left answers now has gave here b = (has ∙ b.present, gave ∙ b.answered, here ∙ b.here)

from_numbers : (number answer : ℕ) (history : List Entry) (left : Option ℕ) (answers now : ℕ) → is_some left ≡ has_left number history → answers ≡ last_answer number history → now ≡ phase history
    → IsOneBehind left answers now answer → IsBehind number answer (answer + 1) history
from_numbers number answer history left answers now has gave here b = record { present = sym has ∙ b.0; answered = sym gave ∙ b.1; here = sym here ∙ b.2 }

-- what stays of a seat, whatever the entry
pub record SeatStays (play : Bool) (old new : Books) (history : List Entry) (entry : Entry) (number : ℕ) : Type 0 where
  pub own : IsMeasured (account_at new.seats number).own (λ summand. total_of number summand (history ++ entry ∷ []))
  pub left : is_some (account_at new.seats number).left ≡ has_left number (history ++ entry ∷ [])
  pub step : SeatStep (account_at old.seats number).left (account_at old.seats number).own.answers old.all.phases (account_at new.seats number).left (account_at new.seats number).own.answers new.all.phases

phases_grow : (old new : Books) (entry : Entry) → IsCounted old entry new → new.all.phases ≡ old.all.phases + (effect_of entry).phases
phases_grow old new entry n = ap (λ (x : Effect). x.phases) n.all

pub seat_stays : (play : Bool) (old new : Books) (history : List Entry) (entry : Entry) → Counts play old new history entry → (number : ℕ) → number < old.heap.seats → SeatStays play old new history entry number
seat_stays play old new history entry c number lt =
    let told = c.tells.seats number lt in
    let noted = c.counted.seats number lt in
    let all = c.tells.all in
    record {
      own = own_measures_with_entry number (account_at old.seats number).own (account_at new.seats number).own history entry noted.own told.own;
      left = left_if_had_or_leaves (is_leave_of number entry) (has_left number history) (account_at old.seats number).left (account_at new.seats number).left old.all.phases noted.left told.left ∙ sym (any_with_entry_more (is_leave_of number) history entry);
      step = entry_is_seat_step old.heap play history entry number c.keeps lt (account_at old.seats number).left (account_at new.seats number).left (account_at old.seats number).own.answers (account_at new.seats number).own.answers
          old.all.phases new.all.phases told.left told.own.answers all.phases noted.left
          (ap (λ (x : Effect). x.answers) noted.own ∙ answers_by (is_of number entry) (account_at old.seats number).own) (phases_grow old new entry c.counted);
    }
  where
    answers_by : (b : Bool) (sums : Effect) → (cond b (plus sums (effect_of entry)) sums).answers ≡ sums.answers + cond b (effect_of entry).answers 0
    answers_by true sums = refl
    answers_by false sums = omega arith

-- a seat that is there has answered the phase before, at least
kept_up : (left left_then : Option ℕ) (answers answers_then now then : ℕ) → SeatStep left answers now left_then answers_then then → (is_some left ≡ false → now ≤ answers + 1) → is_some left_then ≡ false → then ≤ answers_then + 1
kept_up left left_then answers answers_then now then (begins l a p all) up there = omega (arith, a, p, all (ap is_some (sym l) ∙ there))
kept_up left left_then answers answers_then now then (answers_now l a last p) up there = omega (arith, a, p, last)
kept_up left left_then answers answers_then now then (leaves l p) up there = absurd (cc (ap is_some l, there))
kept_up left left_then answers answers_then now then (rests l a p) up there = omega (arith, a, p, up (ap is_some (sym l) ∙ there))

-- a reply is of its seat, and begins no phase
reply_seat : (number : ℕ) (entry : Entry) → is_reply_to number entry ≡ true → seat_of entry ≡ Some number
reply_seat number (entries.Said other command reply) fits = ap Some (eqb-true other number fits)
reply_seat number entry fits = cc fits

reply_phases : (number : ℕ) (entry : Entry) → is_reply_to number entry ≡ true → (effect_of entry).phases ≡ 0
reply_phases number (entries.Said other command reply) fits = refl
reply_phases number entry fits = cc fits

-- in which phases another was seen behind
behind-more : (play : Bool) (old new : Books) (history : List Entry) (entry : Entry) → Counts play old new history entry → (number : ℕ) → number < old.heap.seats → (other answer : ℕ) → other < old.heap.seats → other ≢ number
    → (WasBehind number other answer (answer + 1) (history ++ entry ∷ []) → IsFrom (first_behind (account_at new.seats number) other) (last_phase (account_at new.seats other) new.all.phases) (answer + 1))
    × (IsFrom (first_behind (account_at new.seats number) other) (last_phase (account_at new.seats other) new.all.phases) (answer + 1) → WasBehind number other answer (answer + 1) (history ++ entry ∷ []))
behind-more play old new history entry c number lt other answer below ne = elim (cases_Bool (is_reply_to number entry)) [ inl fits ↦ replied fits | inr fails ↦ went_on fails ]
  where
    here : SeatStays play old new history entry other
    here = seat_stays play old new history entry c other below

    now : new.all.phases ≡ phase (history ++ entry ∷ [])
    now = (all_measures_with_entry old.all new.all history entry c.counted.all c.tells.all).phases

    Goal : Type 0
    Goal = (WasBehind number other answer (answer + 1) (history ++ entry ∷ []) → IsFrom (first_behind (account_at new.seats number) other) (last_phase (account_at new.seats other) new.all.phases) (answer + 1))
        × (IsFrom (first_behind (account_at new.seats number) other) (last_phase (account_at new.seats other) new.all.phases) (answer + 1) → WasBehind number other answer (answer + 1) (history ++ entry ∷ []))

    replied : is_reply_to number entry ≡ true → Goal
    replied fits =
        let them = c.tells.seats other below in
        let noted = c.counted.seats number lt in
        let theirs = c.counted.seats other below in
        let quiet = entry_is_of_other other entry (λ e. ne (sym (cc (sym (reply_seat number entry fits) ∙ e)))) in
        let left : (account_at new.seats other).left ≡ (account_at old.seats other).left = theirs.left ∙ cond-false (is_leave_of other entry) _ _ quiet.leave in
        let own : (account_at new.seats other).own ≡ (account_at old.seats other).own = theirs.own ∙ cond-false (is_of other entry) _ _ quiet.of in
        let same : new.all.phases ≡ old.all.phases = omega (arith, phases_grow old new entry c.counted, reply_phases number entry fits) in
        let all_then : (account_at new.seats number).all_then.phases ≡ old.all.phases =
        ap (λ (x : Effect). x.phases) (noted.all_then ∙ cond-true (is_reply_to number entry) _ _ fits ∙ sym c.counted.all) ∙ same in
        let behind_then : slice_index_or (account_at new.seats number).behind_then other false ≡ is_behind_now old.all old.seats other = noted.behind_then other below ∙ cond-true (is_reply_to number entry) _ _ fits in
        let first : first_behind (account_at new.seats number) other ≡ old.all.phases + cond (is_behind_now old.all old.seats other) 0 1 =
        ap (λ n. n + cond (slice_index_or (account_at new.seats number).behind_then other false) 0 1) all_then ∙ ap (λ b. old.all.phases + cond b 0 1) behind_then in
        let last : last_phase (account_at new.seats other) new.all.phases ≡ unwrap_or (account_at old.seats other).left old.all.phases =
        ap (λ o. unwrap_or o new.all.phases) left ∙ ap (unwrap_or (account_at old.seats other).left) same in
        let at = behind_right_after_reply (account_at old.seats other).left (account_at old.seats other).own.answers old.all.phases answer them.kept_up them.gone in
        let all = was_behind_at_reply number other answer (answer + 1) history entry fits in
        let gave : (account_at new.seats other).own.answers ≡ (account_at old.seats other).own.answers = ap (λ (x : Effect). x.answers) own in (
          λ w. let n = to_numbers other answer (history ++ entry ∷ []) _ _ _ here.left here.own.answers now (all.0 w) in
              subst (λ f. IsFrom f (last_phase (account_at new.seats other) new.all.phases) (answer + 1)) (sym first)
              (subst (λ l. IsFrom (old.all.phases + cond (is_behind_now old.all old.seats other) 0 1) l (answer + 1)) (sym last)
              (at.0 (ap is_some (sym left) ∙ n.0, sym gave ∙ n.1, sym same ∙ n.2))),
          λ f. let n = at.1 (subst (λ l. IsFrom (old.all.phases + cond (is_behind_now old.all old.seats other) 0 1) l (answer + 1)) last
              (subst (λ x. IsFrom x (last_phase (account_at new.seats other) new.all.phases) (answer + 1)) first f)) in
              all.1 (from_numbers other answer (history ++ entry ∷ []) _ _ _ here.left here.own.answers now (ap is_some left ∙ n.0, gave ∙ n.1, same ∙ n.2)),
        )

    went_on : is_reply_to number entry ≡ false → Goal
    went_on fails =
        let told = c.tells.seats number lt in
        let seen = told.behind other answer below ne in
        let them = c.tells.seats other below in
        let noted = c.counted.seats number lt in
        let all_then : (account_at new.seats number).all_then ≡ (account_at old.seats number).all_then = noted.all_then ∙ cond-false (is_reply_to number entry) _ _ fails in
        let behind_then : slice_index_or (account_at new.seats number).behind_then other false ≡ slice_index_or (account_at old.seats number).behind_then other false = noted.behind_then other below ∙ cond-false (is_reply_to number entry) _ _ fails in
        let first : first_behind (account_at new.seats number) other ≡ first_behind (account_at old.seats number) other =
        ap (λ (x : Effect). x.phases + cond (slice_index_or (account_at new.seats number).behind_then other false) 0 1) all_then ∙ ap (λ b. (account_at old.seats number).all_then.phases + cond b 0 1) behind_then in
        let early : first_behind (account_at old.seats number) other ≤ old.all.phases + 1 = first_early (slice_index_or (account_at old.seats number).behind_then other false) (account_at old.seats number).all_then.phases old.all.phases told.earlier in
        let by = behind_since_earlier_reply {Was = WasBehind number other answer (answer + 1) history} (account_at old.seats other).left (account_at new.seats other).left (account_at old.seats other).own.answers (account_at new.seats other).own.answers
        old.all.phases new.all.phases (first_behind (account_at old.seats number) other) answer here.step early seen
        (λ b. behind_at_end_was_behind number other answer (answer + 1) history (from_numbers other answer history _ _ _ them.left them.own.answers c.tells.all.phases b)) in
        let more = was_behind_with_entry number other answer (answer + 1) history entry fails in (
          λ w. subst (λ f. IsFrom f (last_phase (account_at new.seats other) new.all.phases) (answer + 1)) (sym first)
              (by.0 (elim (more.0 w) [ inl was ↦ inl was | inr is ↦ inr (to_numbers other answer (history ++ entry ∷ []) _ _ _ here.left here.own.answers now is) ])),
          λ f. more.1 (elim (by.1 (subst (λ f. IsFrom f (last_phase (account_at new.seats other) new.all.phases) (answer + 1)) first f))
              [ inl was ↦ inl was | inr is ↦ inr (from_numbers other answer (history ++ entry ∷ []) _ _ _ here.left here.own.answers now is) ]),
        )
      where
        first_early : (b : Bool) (then now : ℕ) → then ≤ now → then + cond b 0 1 ≤ now + 1
        first_early true then now le = omega (arith, le)
        first_early false then now le = omega (arith, le)

-- what is kept of a seat is so with the entry
pub tells_seat_with_entry : (play : Bool) (old new : Books) (history : List Entry) (entry : Entry) → Counts play old new history entry → (number : ℕ) → number < old.heap.seats
    → TellsSeat old.heap new.all new.seats number (account_at new.seats number) (history ++ entry ∷ [])
tells_seat_with_entry play old new history entry c number lt =
    let told = c.tells.seats number lt in
    let noted = c.counted.seats number lt in
    let stays = seat_stays play old new history entry c number lt in
    let all = all_measures_with_entry old.all new.all history entry c.counted.all c.tells.all in
    let own_then = reply_measures_with_entry number (λ summand h. total_of number summand h) (account_at old.seats number).own_then (account_at new.seats number).own (account_at new.seats number).own_then history entry noted.own_then stays.own told.own_then in
    let all_then = reply_measures_with_entry number (λ summand h. total summand h) (account_at old.seats number).all_then (plus old.all (effect_of entry)) (account_at new.seats number).all_then history entry noted.all_then
    (subst (λ x. IsMeasured x (λ summand. total summand (history ++ entry ∷ []))) c.counted.all all) told.all_then in
    record {
      own = stays.own;
      own_then = own_then;
      all_then = all_then;
      since = tells_since_reply new.all number (account_at new.seats number) (history ++ entry ∷ []) all stays.own own_then all_then;
      left = stays.left;
      solvent = solvent (is_reply_to number entry) refl noted stays told;
      richer = omega (arith, own_then.taken, stays.own.taken, sum_of_window_sections (is_reply_to number) (λ e. cond (is_of number e) (effect_of e).taken 0) (history ++ entry ∷ []));
      earlier = omega (arith, all_then.phases, all.phases, total_since_reply number (λ e. e.phases) (history ++ entry ∷ []));
      kept_up = kept_up _ _ _ _ _ _ stays.step told.kept_up;
      gone = gone_phase_within_phase (is_leave_of number entry) (account_at old.seats number).left (account_at new.seats number).left old.all.phases new.all.phases noted.left (omega (arith, phases_grow old new entry c.counted)) told.gone;
      began = began_since_with_entry old.heap number history entry (entry_turn_cases old.heap play history entry c.keeps) (account_at old.seats number).all_then.phases (account_at new.seats number).all_then.phases old.all.phases new.all.phases
          c.tells.all.phases (phases_grow old new entry c.counted) (then_phases noted) told.earlier told.began;
      behind = behind-more play old new history entry c number lt;
    }
  where
    solvent : (b : Bool) → is_reply_to number entry ≡ b → IsNotedSeat old.heap old.all old.seats number entry (account_at old.seats number) (account_at new.seats number) → SeatStays play old new history entry number
        → TellsSeat old.heap old.all old.seats number (account_at old.seats number) history → (account_at new.seats number).own_then.given + (account_at new.seats number).own_then.born ≤ (account_at new.seats number).own_then.taken
    solvent true fits noted stays told =
        let same : (account_at new.seats number).own_then ≡ (account_at new.seats number).own = noted.own_then ∙ cond-true (is_reply_to number entry) _ _ fits in
        omega (arith, ap (λ (x : Effect). x.given) same, ap (λ (x : Effect). x.born) same, ap (λ (x : Effect). x.taken) same, stays.own.given, stays.own.born, stays.own.taken, spent_within_taken number history entry fits c.keeps.makes)
    solvent false fails noted stays told =
        let same : (account_at new.seats number).own_then ≡ (account_at old.seats number).own_then = noted.own_then ∙ cond-false (is_reply_to number entry) _ _ fails in
        omega (arith, ap (λ (x : Effect). x.given) same, ap (λ (x : Effect). x.born) same, ap (λ (x : Effect). x.taken) same, told.solvent)

    phases_by : (b : Bool) (x y : Effect) → (cond b x y).phases ≡ cond b x.phases y.phases
    phases_by true x y = refl
    phases_by false x y = refl

    then_phases : IsNotedSeat old.heap old.all old.seats number entry (account_at old.seats number) (account_at new.seats number) → (account_at new.seats number).all_then.phases ≡ cond (is_reply_to number entry) new.all.phases (account_at old.seats number).all_then.phases
    then_phases noted = ap (λ (x : Effect). x.phases) noted.all_then ∙ phases_by (is_reply_to number entry) (plus old.all (effect_of entry)) (account_at old.seats number).all_then
        ∙ ap (λ n. cond (is_reply_to number entry) n (account_at old.seats number).all_then.phases) (sym (phases_grow old new entry c.counted))

-- the account tells all, where what swung, the cycle and the objects are so too
pub tells_all_with_entry : (play : Bool) (old new : Books) (history : List Entry) (entry : Entry) → Counts play old new history entry
    → ((id : Id) → (HasSwung id (history ++ entry ∷ []) → Contains new.swung id) × (Contains new.swung id → HasSwung id (history ++ entry ∷ [])))
    → (1 ≤ new.all.phases → TellsCycle old.heap new.cycle (history ++ entry ∷ [])) → new.made ≡ made_counts (graph_of old.heap (history ++ entry ∷ [])) → Tells new (history ++ entry ∷ [])
tells_all_with_entry play old new history entry c swung cycle made = record {
  entries = c.counted.entries ∙ ap (λ n. n + 1) c.tells.entries ∙ sym (length-append history (entry ∷ []));
  all = all_measures_with_entry old.all new.all history entry c.counted.all c.tells.all;
  seats = λ number lt. subst (λ h. TellsSeat h new.all new.seats number (account_at new.seats number) (history ++ entry ∷ [])) (sym c.counted.heap)
      (tells_seat_with_entry play old new history entry c number (subst (λ (h : Heap). number < h.seats) c.counted.heap lt));
  ended = λ cycle. ended_cycles_with_entry old.heap history entry (entry_turn_cases old.heap play history entry c.keeps) old.all.phases new.all.phases c.tells.all.phases (phases_grow old new entry c.counted) cycle (c.tells.ended cycle);
  just_ended = λ cycle. subst (λ o. (JustEnded cycle (history ++ entry ∷ []) → o ≡ Some cycle) × (o ≡ Some cycle → JustEnded cycle (history ++ entry ∷ []))) (sym c.counted.ended) (just_ended_by_entry history entry cycle);
  swung = swung;
  cycle = λ some. subst (λ h. TellsCycle h new.cycle (history ++ entry ∷ [])) (sym c.counted.heap) (cycle some);
  made = made ∙ ap (λ h. made_counts (graph_of h (history ++ entry ∷ []))) (sym c.counted.heap);
}
