use Rattle.std.proofs.Common.{◌≡◌, ◌++◌, ◌∷◌, decimal, rules, sym}
use Rattle.std.proofs.lemmas.Result.{IfOk-weaker}
use Rattle.reply_text.specs.write.Entries.{stamp_word}
use Rattle.reply_text.proofs.read_lemmas.Parts.{parted_word_is_joined}
use Rattle.reply_text.proofs.read.tokens.read_stamp.Goals as goal

pub returns-clause-found : goal.returns-clause-found
returns-clause-found c =
    let whole : c.args.word.now ≡ c.in_ok-seat.seat.now ++ 58 ∷ c.in_ok-seat.count.now = parted_word_is_joined 58 c.args.word.now _ _ (search rules) in
    IfOk-weaker c.stamp_of_set.result (λ stamp. stamp_word stamp ≡ decimal c.in_ok-seat-2.field-0 ++ 58 ∷ decimal c.in_ok-count.field-0) (λ stamp. c.args.word.now ≡ stamp_word stamp)
    (λ stamp spelled. rw (whole, c.in_ok-seat-2.ensures.found, c.in_ok-count.ensures.found) (sym spelled)) c.stamp_of_set.ensures.found
