-- A play on as many groups as its plan names refuses nothing for want of fragments.
use Rattle.std.proofs.Common.{◌≡◌, ℕ, ◌+◌, ◌*◌, ◌≤◌, List, [], ◌∷◌, ◌++◌, inl, inr, true, cond, get_or, map, Contains, append_assoc, refl, sym, ap, ◌∙◌, subst, arith}
use Rattle.std.specs.Prelude.{count_by}
use Rattle.std.specs.List.{AllZip, list_any, range_with_len}
use Rattle.std.proofs.lemmas.Bool.{cases_Bool, cond-false}
use Rattle.std.proofs.lemmas.Grind.{div_ceil_times}
use Rattle.std.proofs.lemmas.List.{append-nil, map-append}
use Rattle.std.proofs.lemmas.List.Elements.{Contains-append_right}
use Rattle.std.proofs.lemmas.List.FromFn.{length-range_with_len}
use Rattle.std.proofs.lemmas.List.Sums.{sum_by-cons, sum_by-le}
use Rattle.heap_model.specs.Board.{board_fragments}
use Rattle.heap_model.specs.declared.entry.Entry.{Entry}
use Rattle.heap_model.specs.declared.entry.Entry.TheVariants as entries
use Rattle.heap_model.specs.declared.account.effect.Effect.{Effect}
use Rattle.heap_model.specs.declared.heap.Heap.{Heap}
use Rattle.heap_model.specs.declared.id.Id.{Id}
use Rattle.heap_model.specs.declared.reply.Reply.TheVariants.{Full}
use Rattle.heap_model.specs.account.Account.{KeepsSpace, KeepsSpaceAfter}
use Rattle.heap_model.specs.account.Cycles.{graph_of, bound}
use Rattle.heap_model.specs.account.Effects.{effect_of}
use Rattle.heap_model.specs.account.Space.{total, fragments_gained, fragments_lost, fragments_unborn, need_of}
use Rattle.heap_model.specs.account.Windows.{begins_cycle, up_to_reply, up_to_cycle, since_cycle, after_last}
use Rattle.heap_model.specs.graph.Reach.{IsReach}
use Rattle.heap_model.proofs.Histories.{total-more}
use Rattle.heap_model.proofs.graph_lemmas.Heads.{contains_cases, contains_head}
use Rattle.heap_model.proofs.account_lemmas.Windows.{sum_of_window_sections, window_sections_make_whole}
use Rattle.reply_text.specs.write.Counts.{is_end}
use Rattle.space_plan.specs.declared.report.CyclePlan.{CyclePlan}
use Rattle.heap_model.specs.graph.Sizes.{HasReach}
use Rattle.space_plan.specs.plan.Cycles.{IsCyclePlan, cycle_takes}
use Rattle.space_plan.specs.plan.Moments.{Moment, begins_of, ends_of}
use Rattle.space_plan.specs.plan.Takes.{IsTaken, taken_since_end}
use Rattle.space_plan.specs.plan.Totals.{IsGreatest, IsNeeded, IsReached, groups_for, is_full, need_told}
use Rattle.space_plan.specs.plan.Seats.{unborn_at_replies}
use Rattle.space_plan.proofs.plan_lemmas.CycleSums.{bound_is_sum, taken_since_end-more}
use Rattle.heap_model.proofs.account_lemmas.Fronts.{back_keeps_rules}
use Rattle.heap_model.proofs.account_lemmas.LastEntries.{has_last, no_last, parted_at_last}
use Rattle.space_plan.proofs.plan_lemmas.LegalFronts.{begun_before_end}
use Rattle.core_rule.proofs.sweep_exact.Bringing.{reserve_is_small}
use Rattle.space_plan.proofs.plan_lemmas.MomentLemmas.{passing_stands}

-- each element has one that stands beside it
zipped : {A B : Type 0} (R : A → B → Type 0) (xs : List A) (ys : List B) (x : A) → AllZip R xs ys → Contains xs x → (y : B) × R x y
zipped R [] ys x each held = absurd (omega (arith, held.1))
zipped R (z ∷ xs) [] x each held = absurd each
zipped R (z ∷ xs) (y ∷ ys) x each held = elim (contains_cases z xs x held) [
  | inl same ↦ (y, subst (λ a. R a y) same each.0)
  | inr later ↦ zipped R xs ys x each.1 later
]

-- each of the moments has its line
line_of : (heap : Heap) (ends : List Moment) (lines : List CyclePlan) (at : Moment) → AllZip (IsCyclePlan heap) ends lines → Contains ends at → (line : CyclePlan) × IsCyclePlan heap at line
line_of heap ends lines at each held = zipped (IsCyclePlan heap) ends lines at each held

module _ (heap : Heap) (history : List Entry) (lines : List CyclePlan) (reach takes need : ℕ)
    (kept : KeepsSpaceAfter heap true [] history) (cycles : AllZip (IsCyclePlan heap) (ends_of history) lines)
    (most_reach : IsGreatest (IsReached heap history) reach) (most_takes : IsGreatest (IsTaken heap history) takes) (most_need : IsGreatest (IsNeeded history) need) where
  -- an entry keeps the rules after those before it
  keeps_at : (front : List Entry) (entry : Entry) (rest : List Entry) → history ≡ front ++ entry ∷ rest → KeepsSpace heap true front entry
  keeps_at front entry rest parted = (back_keeps_rules heap true [] front (entry ∷ rest) (subst (λ es. KeepsSpaceAfter heap true [] es) parted kept)).0

  -- the seats had a reserve each at most
  reserves_are_small : (front rest : List Entry) → history ≡ front ++ rest → unborn_at_replies heap front ≤ 15 * heap.seats
  reserves_are_small front rest parted =
      let each = sum_by-le (λ number. fragments_unborn number (up_to_reply number front)) 15 (range_with_len 0 heap.seats)
      (λ k d within. reserve_is_small heap true front rest (get_or (range_with_len 0 heap.seats) k d) (subst (λ es. KeepsSpaceAfter heap true [] es) parted kept)) in
      omega (arith, each, length-range_with_len 0 heap.seats)

  -- since the last end no more was taken than the most
  section_is_within : (front rest : List Entry) → history ≡ front ++ rest → taken_since_end front ≤ takes
  section_is_within front [] parted = most_takes.most (taken_since_end front) (inl (ap taken_since_end (sym (parted ∙ append-nil front))))
  section_is_within front (entry ∷ rest) parted = elim (cases_Bool (is_end entry)) [
    | inl ends ↦ most_takes.most (taken_since_end front) (inr (record { before = front; entry = entry }, subst (λ es. Contains (ends_of es) (record { before = front; entry = entry })) (sym parted) (passing_stands is_end front entry rest ends), inl refl))
    | inr other ↦ omega (arith, section_is_within (front ++ entry ∷ []) rest (parted ∙ sym (append_assoc front (entry ∷ []) rest)), taken_since_end-more front entry other)
  ]

  -- what was reached when a cycle began is no more than the most, where one has begun
  reach_is_within : (front rest : List Entry) (n : ℕ) → history ≡ front ++ rest → list_any begins_cycle front ≡ true → HasReach (graph_of heap (up_to_cycle front)) n → n ≤ reach
  reach_is_within front rest n parted any here =
      let last = has_last begins_cycle front any in
      let at : Moment = record { before = last.front; entry = last.entry } in
      let whole : history ≡ last.front ++ last.entry ∷ (after_last begins_cycle front ++ rest) =
      parted ∙ ap (λ es. es ++ rest) (parted_at_last begins_cycle front last) ∙ append_assoc last.front (last.entry ∷ after_last begins_cycle front) rest in
      most_reach.most n (inr (
        at,
        subst (λ es. Contains (begins_of es) at) (sym whole) (passing_stands begins_cycle last.front last.entry _ last.passes),
        subst (λ es. HasReach (graph_of heap es) n) last.is here,
      ))

  -- at the end of a cycle no more is in use than the greatest numbers say
  end_is_within : (front : List Entry) (entry : Entry) (rest : List Entry) → history ≡ front ++ entry ∷ rest → is_end entry ≡ true → fragments_gained heap front ≤ fragments_lost front + reach + 15 * heap.seats + takes
  end_is_within front entry rest parted ends =
      let at : Moment = record { before = front; entry = entry } in
      let held : Contains (ends_of history) at = subst (λ es. Contains (ends_of es) at) (sym parted) (passing_stands is_end front entry rest ends) in
      let line = line_of heap (ends_of history) lines at cycles held in
      let begun = begun_before_end heap front entry rest (subst (λ es. KeepsSpaceAfter heap true [] es) parted kept) ends in
      let last = has_last begins_cycle front begun in
      let whole : history ≡ up_to_cycle front ++ (since_cycle front ++ entry ∷ rest) =
      parted ∙ ap (λ es. es ++ entry ∷ rest) (sym (window_sections_make_whole begins_cycle front)) ∙ append_assoc (up_to_cycle front) (since_cycle front) (entry ∷ rest) in
      omega (
        arith,
        left_within front entry (keeps_at front entry rest parted) ends line.1.reach.ids line.1.reach.reached,
        bound_is_sum heap line.1.reach.ids front,
        line.1.reach.counted,
        reach_is_within front (entry ∷ rest) line.0.reach parted begun line.1.reach,
        reserves_are_small (up_to_cycle front) _ whole,
        most_takes.most (cycle_takes heap front) (inr (at, held, inr refl)),
      )
    where
      left_within : (front : List Entry) (entry : Entry) → KeepsSpace heap true front entry → is_end entry ≡ true → (ids : List Id) → IsReach (graph_of heap (up_to_cycle front)) ids → fragments_gained heap front ≤ fragments_lost front + bound heap ids front
      left_within front (entries.Ends cycle left) keeps ends ids reached = (keeps.ends.1.within ids reached).used
      left_within front entry keeps ends ids reached = absurd (cc ends)

  -- and at no time more than that and what was taken since
  use_is_within : (front rest : List Entry) → history ≡ front ++ rest → fragments_gained heap front ≤ fragments_lost front + reach + 15 * heap.seats + 2 * takes
  use_is_within front rest parted = elim (cases_Bool (list_any is_end front)) [
    | inl any ↦ (let last = has_last is_end front any in
        let whole : history ≡ last.front ++ last.entry ∷ (after_last is_end front ++ rest) =
        parted ∙ ap (λ es. es ++ rest) (parted_at_last is_end front last) ∙ append_assoc last.front (last.entry ∷ after_last is_end front) rest in
        let sums : (part : Effect → ℕ) → total part front ≡ total part last.front + part (effect_of last.entry) + total part (after_last is_end front) = λ part.
        sum_of_window_sections is_end (λ e. part (effect_of e)) front ∙ ap (λ es. total part es + total part (after_last is_end front)) last.is ∙ ap (λ n. n + total part (after_last is_end front)) (total-more part last.front last.entry) in
        omega (arith, end_is_within last.front last.entry _ whole last.passes, section_is_within front rest parted, sums (λ e. e.taken), sums (λ e. e.given), sums (λ e. e.freed), end_takes_none last.entry last.passes))
    | inr none ↦ omega (arith, section_is_within front rest parted, ap (total (λ e. e.taken)) (no_last is_end front none).1, most_reach.most (board_fragments heap) (inl refl))
  ]
    where
      end_takes_none : (entry : Entry) → is_end entry ≡ true → (effect_of entry).taken ≡ 0
      end_takes_none (entries.Ends cycle left) ends = refl
      end_takes_none entry ends = absurd (cc ends)

  module _ (enough : groups_for reach takes heap.seats need ≤ heap.groups) where
    -- so none is refused
    refuses_none : (front : List Entry) (entry : Entry) (rest : List Entry) → history ≡ front ++ entry ∷ rest → is_full entry ≡ true → ⊥
    refuses_none front (entries.Said number command (Full asked found)) rest parted full =
        let keeps = keeps_at front (entries.Said number command (Full asked found)) rest parted in
        let asks : need_of command ≤ need = most_need.most (need_of command) (inr (needed front _ rest parted)) in
        omega (arith, keeps.makes.0, keeps.refuses.0, keeps.refuses.1, keeps.refuses.2, asks, use_is_within front _ parted, enough, (div_ceil_times (reach + 2 * takes + 15 * heap.seats + need) 16 (omega arith)).0)
      where
        needed : (front : List Entry) (entry : Entry) (rest : List Entry) → history ≡ front ++ entry ∷ rest → Contains (map need_told history) (need_told entry)
        needed front entry rest parted = subst (λ ns. Contains ns (need_told entry)) (sym (ap (map need_told) parted ∙ map-append need_told front (entry ∷ rest)))
            (Contains-append_right (map need_told front) (need_told entry ∷ map need_told rest) (need_told entry) (contains_head (need_told entry) (map need_told rest)))
    refuses_none front entry rest parted full = cc full

    none_in : (front rest : List Entry) → history ≡ front ++ rest → count_by is_full rest ≡ 0
    none_in front [] parted = refl
    none_in front (entry ∷ rest) parted = elim (cases_Bool (is_full entry)) [
      | inl full ↦ absurd (refuses_none front entry rest parted full)
      | inr other ↦ sum_by-cons (λ e. cond (is_full e) 1 0) entry rest ∙ omega (arith, cond-false {A = ℕ} (is_full entry) 1 0 other, none_in (front ++ entry ∷ []) rest (parted ∙ sym (append_assoc front (entry ∷ []) rest)))
    ]

    -- no command is refused for want of fragments
    pub enough_refuses_none : count_by is_full history ≡ 0
    enough_refuses_none = none_in [] history refl
