use Rattle.std.proofs.Common.{arith, ◌≡◌, ℕ, ◌/◌, true, false, not, List, get_or, set, sym, ap, ◌∙◌, eq-eqb, refl, length, ◌<◌, ◌++◌, take, drop, append-nil}
use Rattle.std.proofs.lemmas.Bool.{ne_eqb}
use Rattle.std.proofs.lemmas.Grind.{get_or_default_zero}
use Rattle.std.proofs.lemmas.List.{length-set, take_all, drop_all}
use Rattle.std.proofs.lemmas.List.Filters.{FiltersInPlace-more_no, FiltersInPlace-more_set}
use Rattle.core_machine.proofs.Terms.{out_of_group}
use Rattle.core_machine.proofs.table.fragments.leave_out.Goals as goal
use Rattle.core_machine.proofs.table.fragments.leave_out.Goals.{then-fragment-group, else-fragment-group}

-- a list in the place of one as long
refilled : (xs ws : List ℕ) → length ws ≡ length xs → take (length xs) (ws ++ drop (length ws) xs) ≡ ws
refilled xs ws same = rw (drop_all (length ws) xs (omega arith), append-nil ws) (take_all (length xs) ws (omega arith))

pub loop-position-init : goal.loop-position-init
loop-position-init c = record { front = refl; rest = refl; behind = omega arith; within = omega arith; long = refl }

pub loop-position-preserved : goal.loop-position-preserved
loop-position-preserved c =
    let hand = c.loop-position.hand.items in
    let here = get_or c.deref.result.now c.loop-position.position 0 in
    let within : c.loop-position.position < length hand = omega (arith, c.loop-position-test.true, c.len-position-end.ensures.value, c.loop-position.invariant.long) in
    let read : here ≡ get_or hand c.loop-position.position here = ap (λ (l : List ℕ). get_or l c.loop-position.position 0) c.deref.ensures.0 ∙ sym (get_or_default_zero hand c.loop-position.position here within) in
    elim c.if-fragment-group.branch [
      | then-fragment-group w ↦
          let out : out_of_group c.args.group here ≡ true = ap not (ne_eqb (here / 16) c.args.group w.if-fragment-group.true) in
          let written : c.if-fragment-group.hand.items ≡ set hand c.loop-position.kept here =
          rw (w.hand-is, w.deref_mut.ensures.value) (refilled hand (set hand c.loop-position.kept here) (length-set hand c.loop-position.kept here)) in
          rw (written, w.kept-is) (FiltersInPlace-more_set c.loop-position.invariant within out read)
      | else-fragment-group w ↦
          let in_ : out_of_group c.args.group here ≡ false = ap not (eq-eqb (here / 16) c.args.group w.if-fragment-group.false) in
          rw (w.hand-is, w.kept-is) (FiltersInPlace-more_no c.loop-position.invariant within in_ read)
    ]
