-- The line of an entry, as it is written word by word.
use Rattle.std.proofs.Common.{◌≡◌, ℕ, List, [], ◌∷◌, ◌++◌, sym, ap, ◌∙◌, append_assoc, decimal, codes}
use Rattle.std.proofs.lemmas.List.Concat.{flat_map-append}
use Rattle.heap_model.specs.declared.command.Command.{Command}
use Rattle.heap_model.specs.declared.reply.Reply.{Reply}
use Rattle.heap_model.specs.declared.entry.Entry.TheVariants.{Said, GivesBack}
use Rattle.script_text.specs.Text.{sentence, words_with_spaces}
use Rattle.script_text.specs.Words.{command_words}
use Rattle.script_text.proofs.Sentences.{sentence-cons}
use Rattle.reply_text.specs.write.Entries.{reply_words, entry_text}

-- a first word, some words, and further words
pub sentence-append : (word : List ℕ) (words more : List (List ℕ)) → sentence (word ∷ words ++ more) ≡ word ++ (words_with_spaces words ++ words_with_spaces more)
sentence-append word words more = sentence-cons word (words ++ more) ∙ ap (λ (rest : List ℕ). word ++ rest) (flat_map-append (λ w. 32 ∷ w) words more)

-- the line of a reply
pub said_text_is_words : (seat : ℕ) (command : Command) (reply : Reply) → entry_text (Said seat command reply) ≡ decimal seat ++ (words_with_spaces (command_words command) ++ 32 ∷ 61 ∷ words_with_spaces (reply_words reply))
said_text_is_words seat command reply = sentence-append (decimal seat) (command_words command) (codes "=" ∷ reply_words reply)

-- the line of a seat that gives back
pub gives_back_text : (seat count : ℕ) → decimal seat ++ words_with_spaces (codes "gives" ∷ codes "back" ∷ decimal count ∷ []) ≡ entry_text (GivesBack seat count)
gives_back_text seat count = sym (sentence-cons (decimal seat) (codes "gives" ∷ codes "back" ∷ decimal count ∷ []))

-- a line that is written in two parts
pub written_line_is_appended : (text first_written both_written first rest line : List ℕ) → first_written ≡ text ++ first → both_written ≡ first_written ++ rest → first ++ rest ≡ line → both_written ≡ text ++ line
written_line_is_appended text first_written both_written first rest line p q r = q ∙ ap (λ t. t ++ rest) p ∙ append_assoc text first rest ∙ ap (λ l. text ++ l) r

pub ruleset spelling = (sentence-append, sentence-cons)
