use Rattle.std.proofs.Common.{◌≡◌, ℕ, ◌∷◌, [], ◌++◌, map, slice_index_or, slice_set, sym, ap, ◌∙◌, arith}
use Rattle.std.proofs.lemmas.List.{get_or-map, map-set}
use Rattle.script_crew.proofs.parting.add.Goals as goal

pub returns-in_ok-push : goal.returns-in_ok-push
returns-in_ok-push c =
    let slots = c.args.slots.now.items in
    let commands = map (λ slot. slot.items) slots in
    let place = c.from.result in
    let more = c.args.line.now.command ∷ [] in
    let old : slice_index_or commands place [] ≡ c.in-Some.slot.now.items =
    get_or-map (λ slot. slot.items) slots place c.in-Some.slot.now [] (omega (arith, c.requires, c.args.slots.now.ok, c.from.ensures))
    ∙ sym (ap (λ slot. slot.items) c.in-Some.ensures.value) in
    let new : c.push.new.self.items ≡ slice_index_or commands place [] ++ more = c.in_ok-push.ensures.items ∙ ap (λ xs. xs ++ more) (sym old) in
    map-set (λ slot. slot.items) slots place c.push.new.self ∙ ap (λ xs. slice_set commands place xs) new
    ∙ ap (λ (n : ℕ). slice_set commands n (slice_index_or commands n [] ++ more)) c.from.ensures
