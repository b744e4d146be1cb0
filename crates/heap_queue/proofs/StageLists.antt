-- One seat's stage is another.
use Rattle.std.proofs.Common.{ℕ, ◌<◌, length, inl, inr, List, slice_set, sym, subst}
use Rattle.std.proofs.lemmas.Bool.{cases_eq}
use Rattle.std.proofs.lemmas.List.{get_or-set_same, get_or-set_other}
use Rattle.heap_queue.specs.declared.stage.Stage.{Stage}
use Rattle.heap_queue.specs.declared.stage.Stage.TheVariants as stages
use Rattle.heap_queue.specs.Stages.{IsNamed, stage_at}

-- so each is named as before
pub named_after_set : (all : List Stage) (seat : ℕ) (stage : Stage) → seat < length all → IsNamed stage → ((number : ℕ) → IsNamed (stage_at all number)) → (number : ℕ) → IsNamed (stage_at (slice_set all seat stage) number)
named_after_set all seat stage within here others number = elim (cases_eq number seat) [
  | inl e ↦ subst (λ n. IsNamed (stage_at (slice_set all seat stage) n)) (sym e) (subst IsNamed (sym (get_or-set_same all seat stage stages.Waits within)) here)
  | inr apart ↦ subst IsNamed (sym (get_or-set_other all seat number stage stages.Waits apart)) (others number)
]
