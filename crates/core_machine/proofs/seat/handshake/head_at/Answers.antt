use Rattle.std.proofs.Common.{rules, tests, ◌≡◌, ℕ, List, get_or, Option, Some, None, ap, ◌∙◌}
use Rattle.std.specs.Prelude.{slice_get, option_map, unwrap_or}
use Rattle.std.proofs.lemmas.Option.{unwrap_or-slice_get}
use Rattle.std.proofs.lemmas.Iterator.{YieldsList-from_slice}
use Rattle.std.proofs.lemmas.Iterator.Consumers.{YieldsList-from_filter_map, nth_from_yields_List}
use Rattle.core_machine.proofs.Terms.{register_head, heads_of}
use Rattle.core_machine.proofs.seat.handshake.head_at.Goals as goal

-- the item of this number, where there may be none
pick : (item : Option ℕ) (items : List ℕ) (n out : ℕ) → option_map (λ y. y) item ≡ slice_get items n → out ≡ unwrap_or item 0 → out ≡ get_or items n 0
pick None items n out is got = got ∙ ap (λ (o : Option ℕ). unwrap_or o 0) is ∙ unwrap_or-slice_get items n 0
pick (Some x) items n out is got = got ∙ ap (λ (o : Option ℕ). unwrap_or o 0) is ∙ unwrap_or-slice_get items n 0

pub returns : goal.returns
returns c =
    let found = nth_from_yields_List c.nth.result c.nth.new.self c.args.n c.nth.ensures.ran
    (YieldsList-from_filter_map _ register_head (YieldsList-from_slice c.args.registers.now cc) c.filter_map.ensures.closure (λ x r number k. search (rules, tests))) in
    pick c.nth.result (heads_of c.args.registers.now) c.args.n c.unwrap_or.result found c.unwrap_or.ensures
