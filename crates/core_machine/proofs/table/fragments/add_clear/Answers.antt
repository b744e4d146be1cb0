use Rattle.std.proofs.Common.{arith, ◌≡◌, true, false, sym, append-nil, append_assoc, ◌+◌, ◌*◌, [], ◌∷◌, lit<, refl, length, length-append, ap, ◌∙◌}
use Rattle.core_machine.proofs.Terms.{is_clear, clear_among}
use Rattle.core_machine.proofs.table_lemmas.Clear.{clear_among-zero, clear_among-clear, clear_among-taken, length-clear_among}
use Rattle.core_machine.proofs.table.fragments.add_clear.Goals as goal
use Rattle.core_machine.proofs.table.fragments.add_clear.Goals.{then-is_clear, else-is_clear}

pub loop-position-init : goal.loop-position-init
loop-position-init c = grind (arith, clear_among-zero, append-nil)

pub push-requires : goal.push-requires
push-requires c =
    let few = length-clear_among c.args.group c.args.word c.loop-position.position in
    let long = ap length c.loop-position.invariant ∙ length-append c.args.hand.now.items (clear_among c.args.group c.args.word c.loop-position.position) in
    (lit< tt, omega (arith, c.requires.room))

pub loop-position-preserved : goal.loop-position-preserved
loop-position-preserved c =
    elim c.if-is_clear.branch [
      | then-is_clear w ↦
          let clear : is_clear c.args.word (16 * c.args.group + c.loop-position.position) ≡ true = sym c.is_clear.ensures ∙ w.if-is_clear.true in
          rw (w.hand-is, w.push.ensures.items, c.loop-position.invariant, clear_among-clear c.args.group c.args.word c.loop-position.position clear) (append_assoc c.args.hand.now.items (clear_among c.args.group c.args.word c.loop-position.position) ((16 * c.args.group + c.loop-position.position) ∷ []))
      | else-is_clear w ↦
          let taken : is_clear c.args.word (16 * c.args.group + c.loop-position.position) ≡ false = sym c.is_clear.ensures ∙ w.if-is_clear.false in
          rw (w.hand-is, c.loop-position.invariant, clear_among-taken c.args.group c.args.word c.loop-position.position taken) refl
    ]

pub returns-clause-few : goal.returns-clause-few
returns-clause-few c =
    let few = length-clear_among c.args.group c.args.word c.loop-position.position in
    let long = ap length c.loop-position.invariant ∙ length-append c.args.hand.now.items (clear_among c.args.group c.args.word c.loop-position.position) in
    omega arith
