-- The visits of copying: the bits that a group's control word tells, which fragments are yet to be visited, and where a visit goes on.
use Rattle.std.specs.Int.{bit_at}
use Rattle.std.proofs.Common.{◌≡◌, ◌≢◌, ℕ, suc, ◌+◌, ◌*◌, ◌/◌, ◌%◌, ◌<◌, ◌≤◌, List, length, Option, Some, None, inl, inr, refl, sym, ap, ◌∙◌, arith}
use Rattle.std.proofs.lemmas.Bool.Decides.{leb_tells}
use Rattle.core_rule.proofs.Terms.{taken_at, Heap, Stage, Control, at, table_length, Colour, White, Grey, Black, Marks, IsMarked, marked_bit, IsToVisit, AwaitsCopy, VisitIsMarked}
use Rattle.core_machine.specs.collector.Copying.{marked_bits_of, next_position_of, after_visited, after_seen}
use Rattle.core_machine.specs.collector.CopyingTurns.{visited}
use Rattle.core_machine.specs.declared.collector.stage.Copying.TheVariants as copying
use Rattle.core_machine.specs.declared.collector.stage.Stage.TheVariants as stages
use Rattle.core_machine.specs.declared.collector.stage.Visit.{Visit}
use Rattle.core_machine.proofs.table_lemmas.DeadBits.{no_position_no_bit}
use Rattle.core_rule.proofs.colours.MarkWords.{word_has_marked_bit}
use Rattle.core_rule.proofs.words.MarkedPositions.{marked_bit_is_words_bit, marked_position_within_group, none_marked_before_next}

-- what is marked has its bit, and only that
marked_one : (c : Colour) → c ≢ White → marked_bit c ≡ 1
marked_one White some = absurd (some refl)
marked_one Grey some = refl
marked_one Black some = refl

one_marked : (c : Colour) → marked_bit c ≡ 1 → c ≢ White
one_marked White one white = absurd (omega (arith, one))
one_marked Grey one white = absurd (cc)
one_marked Black one white = absurd (cc)

module _ (heap : Heap) (words : List ℕ) (colour : ℕ → Colour) (group : ℕ) (whole : length words ≡ table_length heap) (below : group < heap.groups) (marks : Marks heap words colour) where
  abbrev bits : ℕ
  bits = marked_bits_of (at heap words (Control group))

  bit_told : (f : ℕ) → f / 16 ≡ group → bit_at bits (taken_at f) ≡ marked_bit (colour f)
  bit_told f here = marked_bit_is_words_bit (at heap words (Control group)) (f % 16) (omega arith) ∙ word_has_marked_bit heap words colour colour group 0 whole below marks f here

  -- so each marked fragment of the group has its bit
  pub marked_has_visit_bit : (f : ℕ) → f / 16 ≡ group → IsMarked colour f → bit_at bits (taken_at f) ≡ 1
  marked_has_visit_bit f here marked = bit_told f here ∙ marked_one (colour f) marked

  -- and each bit is one's
  pub visit_bits_are_marked : (position : ℕ) → VisitIsMarked colour (record { group = group; marked = bits; position = position })
  visit_bits_are_marked first position one =
      let within : position < 16 = marked_position_within_group (at heap words (Control group)) position one in
      let rest : (16 * group + position) % 16 ≡ position = omega (arith, within) in
      one_marked (colour (16 * group + position)) (sym (bit_told (16 * group + position) (omega (arith, within))) ∙ ap (bit_at bits) rest ∙ one)

module _ (heap : Heap) (phase group : ℕ) where
  -- where the next group's turn comes, or the phase is done
  pub visited_cases : (P : Stage → Type 0) → (group + 1 < heap.groups → P (stages.Copying (copying.Visiting (group + 1)))) → (heap.groups ≤ group + 1 → P stages.Advancing) → P (after_visited heap group)
  visited_cases P on end = elim (leb_tells (suc (group + 1)) heap.groups) as (λ _. P (after_visited heap group)) [
    | inl more ↦ rw more.0 (on (omega (arith, more.1)))
    | inr last ↦ rw last.0 (end (omega (arith, last.1)))
  ]

  -- a fragment of a later group is yet to be visited
  later_awaits : (f : ℕ) → f < 16 * heap.groups → group < f / 16 → AwaitsCopy phase (after_visited heap group) f
  later_awaits f below later = visited_cases (λ stage. AwaitsCopy phase stage f) (λ more. omega (arith, later)) (λ last. absurd (omega (arith, below, later, last)))

  module _ (marked : ℕ) where
    -- what comes after a fragment was seen
    pub seen_cases : (P : Stage → Type 0) → (group + 1 < heap.groups → P (stages.Copying (copying.Visiting (group + 1)))) → (heap.groups ≤ group + 1 → P stages.Advancing)
        → ((position : ℕ) → P (stages.Copying (copying.Inspecting (record { group = group; marked = marked; position = position })))) → (o : Option ℕ) → P (after_seen heap group marked o)
    seen_cases P on end next None = visited_cases P on end
    seen_cases P on end next (Some position) = next position

    -- what was yet to be visited from a position on is so where the visit goes on
    pub awaits_copy_after_seen : (from f : ℕ) → f < 16 * heap.groups → IsToVisit (record { group = group; marked = marked; position = from }) f → AwaitsCopy phase (after_seen heap group marked (next_position_of marked from)) f
    awaits_copy_after_seen from f below (inl later) = seen_later (next_position_of marked from)
      where
        seen_later : (o : Option ℕ) → AwaitsCopy phase (after_seen heap group marked o) f
        seen_later None = later_awaits f below later
        seen_later (Some position) = inl later
    awaits_copy_after_seen from f below (inr here) = seen_here (next_position_of marked from) refl
      where
        seen_here : (o : Option ℕ) → next_position_of marked from ≡ o → AwaitsCopy phase (after_seen heap group marked o) f
        seen_here None none = absurd (omega (arith, no_position_no_bit marked from (f % 16) none here.1 (omega arith), here.2))
        seen_here (Some position) is = inr (
          here.0,
          (elim (leb_tells position (f % 16)) as (λ _. position ≤ f % 16) [
            | inl from_ ↦ from_.1
            | inr before ↦ absurd (omega (arith, none_marked_before_next marked from position (f % 16) is here.1 (omega (arith, before.1)), here.2))
          ]),
          here.2,
        )

-- what is yet to be visited and isn't where the visit stands is so from the next position on
pub to_visit_at_next_position : (visit : Visit) (f : ℕ) → f ≢ visited visit → IsToVisit visit f → IsToVisit (record visit { position = visit.position + 1 }) f
to_visit_at_next_position visit f other (inl later) = inl later
to_visit_at_next_position visit f other (inr here) = inr (here.0, omega (arith, here.0, here.1, λ (same : f % 16 ≡ visit.position). other (omega (arith, here.0, same))), here.2)
