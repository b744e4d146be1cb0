use Rattle.std.proofs.Common.{◌≡◌, ◌++◌, ◌∷◌, [], decimal, rules, sym, append_assoc}
use Rattle.reply_text.proofs.read_lemmas.Parts.{parted_word_is_joined}
use Rattle.reply_text.proofs.read.tokens.read_id.Goals as goal

pub returns-clause-found : goal.returns-clause-found
returns-clause-found c =
    let whole : c.args.word.now ≡ c.in_ok-seat.seat.now ++ 46 ∷ c.in_ok-seat.count.now = parted_word_is_joined 46 c.args.word.now _ _ (search rules) in
    rw (whole, c.in_ok-seat-2.ensures.found, c.in_ok-count.ensures.found)
    (sym (append_assoc (decimal c.in_ok-seat-2.field-0) (46 ∷ []) (decimal c.in_ok-count.field-0)))
