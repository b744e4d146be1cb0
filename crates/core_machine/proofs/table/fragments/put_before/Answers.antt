use Rattle.std.proofs.Common.{◌≡◌, ℕ, ◌-◌, List, ◌++◌, length, take, drop, ap, subst, ◌∙◌}
use Rattle.core_machine.proofs.seat_lemmas.Held.{refilled_is_kept_and_held}
use Rattle.core_machine.proofs.table.fragments.put_before.Goals as goal

pub returns : goal.returns
returns g c =
    let held = c.as_mut_slice.ensures.value in let turns = c.rotate_right.ensures in let kept = length c.args.fragments.now in
    refilled_is_kept_and_held c.args.buffer.now.items c.args.fragments.now c.append.new.buffer.items c.rotate_right.new.self c.append.ensures
    (turns.len ∙ ap (λ (l : List ℕ). length l) held)
    (subst (λ (l : List ℕ). c.rotate_right.new.self ≡ drop (length l - kept) l ++ take (length l - kept) l) held turns.after)
