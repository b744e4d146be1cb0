use Rattle.std.proofs.Common.{◌≡◌, ◌==◌, ℕ, Bool, [], ◌∷◌, IfSome, codes, cond, decimal, false, sym, subst, arith}
use Rattle.std.proofs.lemmas.Grind.{common_steps}
use Rattle.script_text.specs.Text.{words_of}
use Rattle.script_text.specs.Words.{heap_words}
use Rattle.script_text.proofs.TextLemmas.{heap_line-words_of}
use Rattle.script_text.proofs.heap_line.read_heap.Goals as goal

pub returns-then-version-eq2-clause-found : goal.returns-then-version-eq2-clause-found
returns-then-version-eq2-clause-found c =
    let Spells : ℕ → Type 0 = λ version. IfSome c.heap_of_four.result (λ heap. words_of c.args.line.now ≡ codes "heap" ∷ heap_words (record { version = version; heap = heap })) in
    heap_line-words_of c.args.line.now c.args.version c.heap_of_four.result (subst Spells (sym c.if-version-eq2.true) c.heap_of_four.ensures.found)

pub returns-else-version-eq2-clause-found : goal.returns-else-version-eq2-clause-found
returns-else-version-eq2-clause-found c =
    let other : (c.args.version == 2) ≡ false = grind (arith, common_steps, c.if-version-eq2.false) in
    let Spells : Bool → Type 0 = λ has. IfSome c.heap_of_three.result (λ heap. words_of c.args.line.now
    ≡ codes "heap" ∷ decimal heap.groups ∷ decimal heap.spine ∷ decimal heap.seats ∷ cond has (decimal heap.board ∷ []) []) in
    heap_line-words_of c.args.line.now c.args.version c.heap_of_three.result (subst Spells (sym other) c.heap_of_three.ensures.found)
