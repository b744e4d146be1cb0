-- What has been seen of a legal history may be noted: a cycle that began since the seat's last reply and has ended.
use Rattle.std.specs.Prelude.{Contains}
use Rattle.std.proofs.Common.{Bool, ◌≡◌, ℕ, ◌+◌, ◌*◌, ◌<◌, ◌≤◌, ◌⊎◌, inl, inr, false, List, [], ◌∷◌, ◌++◌, refl, sym, ap, ◌∙◌, subst, arith, append_assoc}
use Rattle.std.proofs.lemmas.Bool.Decides.{leb_tells}
use Rattle.std.proofs.lemmas.List.{append-nil}
use Rattle.std.proofs.lemmas.List.Elements.{Contains-append_left, Contains-append_right, Contains-push}
use Rattle.core_rule.proofs.Terms.{Entry, Heap, KeepsSpace, KeepsSpaceAfter, IsLegal, effect_of, phase, HasEnded, BeganSince, up_to_reply, since_reply, is_reply_to}
use Rattle.heap_model.specs.declared.entry.Entry.TheVariants as entries
use Rattle.heap_model.proofs.Histories.{total-more}
use Rattle.heap_model.proofs.account_lemmas.Windows.{window_sections_make_whole}

-- an entry that begins this phase
pub record IsBegun (heap : Heap) (before more : List Entry) (q : ℕ) : Type 0 where
  pub earlier : List Entry
  pub entry : Entry
  pub rest : List Entry
  pub there : more ≡ earlier ++ entry ∷ rest
  pub keeps : KeepsSpace heap false (before ++ earlier) entry
  pub last : phase (before ++ earlier) + 1 ≡ q
  pub begins : (effect_of entry).phases ≡ 1

-- no entry begins more than one phase
few_phases : (entry : Entry) → ((effect_of entry).phases ≡ 0) ⊎ ((effect_of entry).phases ≡ 1)
few_phases (entries.Advance p) = inr refl
few_phases (entries.Ends cycle kept) = inr refl
few_phases _ = inl refl

-- each phase between was begun by an entry
pub each_begun : (heap : Heap) (before more : List Entry) (q : ℕ) → KeepsSpaceAfter heap false before more → phase before < q → q ≤ phase (before ++ more) → IsBegun heap before more q
each_begun heap before [] q kept above below = absurd (omega (arith, above, below, ap phase (append-nil before)))
each_begun heap before (entry ∷ more) q kept above below = elim (few_phases entry) as (λ _. IsBegun heap before (entry ∷ more) q) [
  | inl none ↦ later (each_begun heap (before ++ entry ∷ []) more q kept.1 (omega (arith, none, total-more (λ e. e.phases) before entry, above)) (omega (arith, below, ap phase (append_assoc before (entry ∷ []) more))))
  | inr one ↦ elim (leb_tells q (phase before + 1)) as (λ _. IsBegun heap before (entry ∷ more) q) [
    | inl first ↦ record {
      earlier = [];
      entry = entry;
      rest = more;
      there = refl;
      keeps = subst (λ es. KeepsSpace heap false es entry) (sym (append-nil before)) kept.0;
      last = omega (arith, first.1, above, ap phase (append-nil before));
      begins = one;
    }
    | inr after ↦ later (each_begun heap (before ++ entry ∷ []) more q kept.1 (omega (arith, one, after.1, total-more (λ e. e.phases) before entry)) (omega (arith, below, ap phase (append_assoc before (entry ∷ []) more))))
  ]
]
  where
    later : IsBegun heap (before ++ entry ∷ []) more q → IsBegun heap before (entry ∷ more) q
    later its = record {
      earlier = entry ∷ its.earlier;
      entry = its.entry;
      rest = its.rest;
      there = ap (λ es. entry ∷ es) its.there;
      keeps = subst (λ es. KeepsSpace heap false es its.entry) (append_assoc before (entry ∷ []) its.earlier) its.keeps;
      last = ap (λ es. phase es + 1) (sym (append_assoc before (entry ∷ []) its.earlier)) ∙ its.last;
      begins = its.begins;
    }

-- what keeps the rules after a section keeps them after more of it
later_keeps : (heap : Heap) (play : Bool) (before first more : List Entry) → KeepsSpaceAfter heap play before (first ++ more) → KeepsSpaceAfter heap play (before ++ first) more
later_keeps heap play before [] more kept = subst (λ es. KeepsSpaceAfter heap play es more) (sym (append-nil before)) kept
later_keeps heap play before (entry ∷ first) more kept =
    subst (λ es. KeepsSpaceAfter heap play es more) (append_assoc before (entry ∷ []) first) (later_keeps heap play (before ++ entry ∷ []) first more kept.1)

-- the entry stands there
is_there : (earlier rest : List Entry) (entry : Entry) → Contains (earlier ++ entry ∷ rest) entry
is_there earlier rest entry = Contains-append_right earlier (entry ∷ rest) entry (Contains-append_left (entry ∷ []) rest entry (Contains-push [] entry))

-- the phase that a cycle's end begins
ends_there : (heap : Heap) (before : List Entry) (entry : Entry) (cycle : ℕ) → KeepsSpace heap false before entry → phase before + 1 ≡ 7 * (cycle + 1) → (effect_of entry).phases ≡ 1
    → (kept : ℕ) × (entry ≡ entries.Ends cycle kept)
ends_there heap before (entries.Advance p) cycle keeps last begins = absurd (keeps.begins.1 (omega (arith, keeps.begins.0, last)))
ends_there heap before (entries.Ends c kept) cycle keeps last begins = (kept, ap (λ n. entries.Ends n kept) (omega (arith, keeps.ends.0.0, last)))
ends_there heap before _ cycle keeps last begins = cc

-- and the first phase of a cycle
begins_there : (heap : Heap) (before : List Entry) (entry : Entry) (cycle : ℕ) → KeepsSpace heap false before entry → phase before + 1 ≡ 7 * cycle + 1 → (effect_of entry).phases ≡ 1
    → entry ≡ entries.Advance (7 * cycle + 1)
begins_there heap before (entries.Advance p) cycle keeps last begins = ap entries.Advance (keeps.begins.0 ∙ last)
begins_there heap before (entries.Ends c kept) cycle keeps last begins = absurd (omega (arith, keeps.ends.0.0, last))
begins_there heap before _ cycle keeps last begins = cc

module _ (heap : Heap) (history : List Entry) (legal : IsLegal heap false history) (cycle : ℕ) where
  -- a cycle after which a phase has begun has ended
  pub cycle_has_ended : 7 * (cycle + 1) ≤ phase history → HasEnded cycle history
  cycle_has_ended over =
      let begun = each_begun heap [] history (7 * (cycle + 1)) legal.space (omega arith) over in
      let its = ends_there heap begun.earlier begun.entry cycle begun.keeps begun.last begun.begins in
      (its.0, subst (Contains history) its.1 (subst (λ es. Contains es begun.entry) (sym begun.there) (is_there begun.earlier begun.rest begun.entry)))

  -- one whose first phase was still to come at the seat's last reply has begun since
  pub cycle_began_since : (number : ℕ) → phase (up_to_reply number history) ≤ 7 * cycle → 7 * (cycle + 1) ≤ phase history → BeganSince number cycle history
  cycle_began_since number before over =
      let whole : up_to_reply number history ++ since_reply number history ≡ history = window_sections_make_whole (is_reply_to number) history in
      let begun = each_begun heap (up_to_reply number history) (since_reply number history) (7 * cycle + 1)
      (later_keeps heap false [] (up_to_reply number history) (since_reply number history) (subst (KeepsSpaceAfter heap false []) (sym whole) legal.space))
      (omega (arith, before)) (omega (arith, over, ap phase whole)) in
      let its = begins_there heap (up_to_reply number history ++ begun.earlier) begun.entry cycle begun.keeps begun.last begun.begins in
      subst (Contains (since_reply number history)) its (subst (λ es. Contains es begun.entry) (sym begun.there) (is_there begun.earlier begun.rest begun.entry))
