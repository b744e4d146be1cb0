-- What is kept of a seat once one more entry is counted.
use Rattle.std.proofs.Common.{◌≡◌, ◌≢◌, ℕ, ◌+◌, ◌%◌, ◌<◌, ◌≤◌, List, [], ◌∷◌, ◌++◌, ◌⊎◌, inl, inr, refl, sym, ap, ◌∙◌, subst, arith, Bool, true, false, ◌||◌, cond, Option, Some, None, is_some, Contains, append_assoc}
use Rattle.std.proofs.lemmas.Bool.{cases_lt, cases_Bool, cond-true, cond-false, eqb-true}
use Rattle.std.proofs.lemmas.List.{append-nil}
use Rattle.std.proofs.lemmas.List.Elements.{Contains-append_left, Contains-push, Contains-push_cases}
use Rattle.std.specs.Option.{unwrap_or}
use Rattle.heap_model.specs.PhasePlan.{cycle_phases, rest as resting}
use Rattle.heap_model.specs.declared.heap.Heap.{Heap}
use Rattle.heap_model.specs.declared.entry.Entry.{Entry}
use Rattle.heap_model.specs.declared.entry.Entry.TheVariants as entries
use Rattle.heap_model.specs.account.Space.{total_of, taken_of, spent_of}
use Rattle.heap_model.specs.account.Effects.{effect_of, is_of}
use Rattle.heap_model.specs.Needs.{made_by}
use Rattle.heap_model.specs.account.Windows.{is_reply_to, up_to_reply, since_reply}
use Rattle.heap_model.specs.account.Phases.{IsBehind, WasBehind}
use Rattle.heap_model.specs.account.PhaseCounts.{phase}
use Rattle.heap_model.specs.account.Account.{MakesOfOwn}
use Rattle.heap_model.proofs.Histories.{total_of-more}
use Rattle.heap_model.proofs.account_lemmas.Windows.{window_sections_make_whole, up_to_last-yes, up_to_last-no, after_last-yes, after_last-no}
use Rattle.heap_model.proofs.account_lemmas.Snoc.{front_of_snoc_cases}
use Rattle.heap_model.proofs.account_lemmas.Turns.{Advances, Finishes, Stays}

-- the phase in which the seat left
pub left_if_had_or_leaves : (leaves had : Bool) (old new : Option ℕ) (now : ℕ) → new ≡ cond leaves (Some (unwrap_or old now)) old → is_some old ≡ had → is_some new ≡ (had || leaves)
left_if_had_or_leaves true true old new now e h = ap is_some e
left_if_had_or_leaves true false old new now e h = ap is_some e
left_if_had_or_leaves false true old new now e h = ap is_some e ∙ h
left_if_had_or_leaves false false old new now e h = ap is_some e ∙ h

-- its last phase stays at most the phase
pub gone_phase_within_phase : (leaves : Bool) (old new : Option ℕ) (now then : ℕ) → new ≡ cond leaves (Some (unwrap_or old now)) old → now ≤ then → unwrap_or old now ≤ now → unwrap_or new then ≤ then
gone_phase_within_phase true old new now then e later gone = subst (λ o. unwrap_or o then ≤ then) (sym e) (omega (arith, later, gone))
gone_phase_within_phase false None new now then e later gone = subst (λ o. unwrap_or o then ≤ then) (sym e) (omega arith)
gone_phase_within_phase false (Some x) new now then e later gone = subst (λ o. unwrap_or o then ≤ then) (sym e) (omega (arith, later, gone))

-- after a reply the seat has spent at most what it took
pub spent_within_taken : (number : ℕ) (history : List Entry) (entry : Entry) → is_reply_to number entry ≡ true → MakesOfOwn history entry → spent_of number (history ++ entry ∷ []) ≤ taken_of number (history ++ entry ∷ [])
spent_within_taken number history (entries.Said other command reply) replies makes =
    let entry : Entry = entries.Said other command reply in
    let same : other ≡ number = eqb-true other number replies in
    let own : spent_of number history + made_by command reply ≤ taken_of number history = subst (λ x. spent_of x history + made_by command reply ≤ taken_of x history) same makes.0 in
    let given = total_of-more number (λ e. e.given) history entry ∙ ap (λ n. total_of number (λ e. e.given) history + n) (cond-true (is_of number entry) 0 0 replies) in
    let born = total_of-more number (λ e. e.born) history entry ∙ ap (λ n. total_of number (λ e. e.born) history + n) (cond-true (is_of number entry) (made_by command reply) 0 replies) in
    let taken = total_of-more number (λ e. e.taken) history entry ∙ ap (λ n. total_of number (λ e. e.taken) history + n) (cond-true (is_of number entry) 0 0 replies) in
    omega (arith, own, given, born, taken)
spent_within_taken number history entry replies makes = absurd (cc replies)

-- the phases that began since the seat's last reply
pub began_since_with_entry : (heap : Heap) (number : ℕ) (history : List Entry) (entry : Entry) → Advances heap history entry ⊎ (Finishes heap history entry ⊎ Stays entry) → (old_then new_then old new : ℕ)
    → old ≡ phase history → new ≡ old + (effect_of entry).phases → new_then ≡ cond (is_reply_to number entry) new old_then → old_then ≤ old
    → ((p : ℕ) → (Contains (since_reply number history) (entries.Advance p) → (old_then < p) × (p ≤ old) × (p % cycle_phases ≢ resting)) × ((old_then < p) × (p ≤ old) × (p % cycle_phases ≢ resting) → Contains (since_reply number history) (entries.Advance p)))
    → (p : ℕ) → (Contains (since_reply number (history ++ entry ∷ [])) (entries.Advance p) → (new_then < p) × (p ≤ new) × (p % cycle_phases ≢ resting))
    × ((new_then < p) × (p ≤ new) × (p % cycle_phases ≢ resting) → Contains (since_reply number (history ++ entry ∷ [])) (entries.Advance p))
began_since_with_entry heap number history entry turns old_then new_then old new here grows then earlier told p =
    elim (cases_Bool (is_reply_to number entry)) [
      | inl fits ↦ (let none : since_reply number (history ++ entry ∷ []) ≡ [] = after_last-yes (is_reply_to number) history entry fits in
          let now : new_then ≡ new = then ∙ cond-true _ new old_then fits in
          (λ h. absurd (nothing p (subst (λ es. Contains es (entries.Advance p)) none h)), λ h. absurd (omega (arith, h.0, h.1, now))))
      | inr fails ↦ (let more : since_reply number (history ++ entry ∷ []) ≡ since_reply number history ++ entry ∷ [] = after_last-no (is_reply_to number) history entry fails in
          let same : new_then ≡ old_then = then ∙ cond-false _ new old_then fails in (
            λ h. to same (Contains-push_cases _ entry (entries.Advance p) (subst (λ es. Contains es (entries.Advance p)) more h)),
            λ h. subst (λ es. Contains es (entries.Advance p)) (sym more) (from same turns h),
          ))
    ]
  where
    nothing : (p : ℕ) → Contains [] (entries.Advance p) → ⊥
    nothing p h = omega (arith, h.1)

    to : new_then ≡ old_then → Contains (since_reply number history) (entries.Advance p) ⊎ (entry ≡ entries.Advance p) → (new_then < p) × (p ≤ new) × (p % cycle_phases ≢ resting)
    to same (inl past) = let t = (told p).0 past in (omega (arith, t.0, same), omega (arith, t.1, grows), t.2)
    to same (inr now) = elim turns [
      | inl a ↦ (let it : a.to ≡ p = cc (a.is, now) in
          (omega (arith, it, a.next, here, same, earlier), omega (arith, it, a.next, here, a.one, grows), λ z. a.not_seven (ap (λ n. n % cycle_phases) it ∙ z)))
      | inr (inl f) ↦ absurd (cc (f.is, now))
      | inr (inr t) ↦ absurd (t.no_advance p now)
    ]

    past : new_then ≡ old_then → p ≤ old → (new_then < p) × (p ≤ new) × (p % cycle_phases ≢ resting) → Contains (since_reply number history ++ entry ∷ []) (entries.Advance p)
    past same within h = Contains-append_left _ (entry ∷ []) (entries.Advance p) ((told p).1 (omega (arith, h.0, same), within, h.2))

    from : new_then ≡ old_then → Advances heap history entry ⊎ (Finishes heap history entry ⊎ Stays entry) → (new_then < p) × (p ≤ new) × (p % cycle_phases ≢ resting) → Contains (since_reply number history ++ entry ∷ []) (entries.Advance p)
    from same (inl a) h = elim (cases_lt old p) [
      | inl above ↦ (let it : a.to ≡ p = omega (arith, above, h.1, a.next, here, a.one, grows) in
          subst (λ x. Contains (since_reply number history ++ entry ∷ []) x) (a.is ∙ ap entries.Advance it) (Contains-push (since_reply number history) entry))
      | inr within ↦ past same within h
    ]
    from same (inr (inl f)) h = elim (cases_lt old p) [
      | inl above ↦ absurd (h.2 (omega (arith, above, h.1, f.at, here, f.one, grows)))
      | inr within ↦ past same within h
    ]
    from same (inr (inr t)) h = past same (omega (arith, h.1, t.none, grows)) h

-- another seat was behind since a reply if it is now
pub was_behind_at_reply : (number other answer p : ℕ) (history : List Entry) (entry : Entry) → is_reply_to number entry ≡ true
    → (WasBehind number other answer p (history ++ entry ∷ []) → IsBehind other answer p (history ++ entry ∷ [])) × (IsBehind other answer p (history ++ entry ∷ []) → WasBehind number other answer p (history ++ entry ∷ []))
was_behind_at_reply number other answer p history entry fits = (to, from)
  where
    none : since_reply number (history ++ entry ∷ []) ≡ []
    none = after_last-yes (is_reply_to number) history entry fits

    all : up_to_reply number (history ++ entry ∷ []) ≡ history ++ entry ∷ []
    all = up_to_last-yes (is_reply_to number) history entry fits

    first_is_empty : (xs ys : List Entry) → [] ≡ xs ++ ys → xs ≡ []
    first_is_empty [] ys e = refl
    first_is_empty (x ∷ xs) ys e = cc e

    to : WasBehind number other answer p (history ++ entry ∷ []) → IsBehind other answer p (history ++ entry ∷ [])
    to w = subst (λ h. IsBehind other answer p h) (ap (λ es. up_to_reply number (history ++ entry ∷ []) ++ es) (first_is_empty w.0 w.1 (sym none ∙ w.2)) ∙ append-nil _ ∙ all) w.3

    from : IsBehind other answer p (history ++ entry ∷ []) → WasBehind number other answer p (history ++ entry ∷ [])
    from b = ([], [], none, subst (λ h. IsBehind other answer p h) (sym (append-nil _ ∙ all)) b)

-- or it was before, or is now
pub was_behind_with_entry : (number other answer p : ℕ) (history : List Entry) (entry : Entry) → is_reply_to number entry ≡ false
    → (WasBehind number other answer p (history ++ entry ∷ []) → WasBehind number other answer p history ⊎ IsBehind other answer p (history ++ entry ∷ []))
    × (WasBehind number other answer p history ⊎ IsBehind other answer p (history ++ entry ∷ []) → WasBehind number other answer p (history ++ entry ∷ []))
was_behind_with_entry number other answer p history entry fails = (to, from)
  where
    more : since_reply number (history ++ entry ∷ []) ≡ since_reply number history ++ entry ∷ []
    more = after_last-no (is_reply_to number) history entry fails

    same : up_to_reply number (history ++ entry ∷ []) ≡ up_to_reply number history
    same = up_to_last-no (is_reply_to number) history entry fails

    whole : up_to_reply number (history ++ entry ∷ []) ++ (since_reply number history ++ entry ∷ []) ≡ history ++ entry ∷ []
    whole = ap (λ es. up_to_reply number (history ++ entry ∷ []) ++ es) (sym more) ∙ window_sections_make_whole (is_reply_to number) (history ++ entry ∷ [])

    to : WasBehind number other answer p (history ++ entry ∷ []) → WasBehind number other answer p history ⊎ IsBehind other answer p (history ++ entry ∷ [])
    to w = elim (front_of_snoc_cases w.0 w.1 (since_reply number history) entry (sym more ∙ w.2)) [
      | inl all ↦ inr (subst (λ h. IsBehind other answer p h) (ap (λ es. up_to_reply number (history ++ entry ∷ []) ++ es) all ∙ whole) w.3)
      | inr fewer ↦ inl (w.0, fewer.0, fewer.1, subst (λ h. IsBehind other answer p (h ++ w.0)) same w.3)
    ]

    from : WasBehind number other answer p history ⊎ IsBehind other answer p (history ++ entry ∷ []) → WasBehind number other answer p (history ++ entry ∷ [])
    from (inl w) = (w.0, w.1 ++ entry ∷ [], more ∙ ap (λ es. es ++ entry ∷ []) w.2 ∙ append_assoc w.0 w.1 (entry ∷ []), subst (λ h. IsBehind other answer p (h ++ w.0)) (sym same) w.3)
    from (inr b) = (since_reply number history ++ entry ∷ [], [], more ∙ sym (append-nil _), subst (λ h. IsBehind other answer p h) (sym whole) b)

-- a seat that is behind at the end was so since the reply
pub behind_at_end_was_behind : (number other answer p : ℕ) (history : List Entry) → IsBehind other answer p history → WasBehind number other answer p history
behind_at_end_was_behind number other answer p history b =
    (since_reply number history, [], sym (append-nil _), subst (λ h. IsBehind other answer p h) (sym (window_sections_make_whole (is_reply_to number) history)) b)
