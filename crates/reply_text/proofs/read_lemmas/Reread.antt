-- Each part of a line that was spelled is read again.
use Rattle.std.proofs.Common.{◌≡◌, ◌==◌, ℕ, ◌+◌, ◌-◌, ◌*◌, ◌/◌, ◌%◌, ◌<◌, ◌≤◌, ◌^◌, inl, inr, List, [], ◌∷◌, ◌++◌, true, false, Some, bytes_eq, codes, decimal, append_assoc, refl, sym, ap, ◌∙◌, arith}
use Rattle.std.proofs.lemmas.Grind.{common_steps}
use Rattle.std.proofs.lemmas.List.{append-nil}
use Rattle.std.proofs.lemmas.List.Splits.{slice_split_at, slice_split_none}
use Rattle.heap_model.specs.declared.id.Id.{Id}
use Rattle.heap_model.specs.declared.id.Id.TheVariants.{Board, Made}
use Rattle.script_text.proofs.Numbers.{number_below-decimal}
use Rattle.reply_text.specs.write.Entries.{id_word, stamp_word}
use Rattle.reply_text.specs.read.Tokens.{number_at, word_parts, word_id, word_stamp, set_of}
use Rattle.reply_text.specs.Values.{IsId, IsStamp}
use Rattle.reply_text.proofs.read_lemmas.Digits.{IsMark, decimal-apart, number-apart}

-- a number
pub number_at-decimal : (limit n : ℕ) (rest : List (List ℕ)) → limit ≤ 2 ^ 64 → n < limit → number_at limit (decimal n ∷ rest) ≡ Some (n, rest)
number_at-decimal limit n rest fits small = rw (number_below-decimal limit n fits small) refl

-- a number is no word that begins with another byte
pub decimal-other : (n c : ℕ) (cs : List ℕ) → n < 2 ^ 64 → IsMark c → bytes_eq (decimal n) (c ∷ cs) ≡ false
decimal-other n c cs small h = ap (λ t. bytes_eq t (c ∷ cs)) (sym (append-nil (decimal n))) ∙ number-apart n [] c cs small h

-- two numbers with a mark between them
parted-decimals : (mark m n : ℕ) → (mark == mark) ≡ true → IsMark mark → m < 2 ^ 64 → n < 2 ^ 64 → word_parts mark (decimal m ++ mark ∷ decimal n) ≡ Some (decimal m, decimal n)
parted-decimals mark m n is h first second =
    rw (slice_split_at (λ b. b == mark) (decimal m) mark (decimal n) (decimal-apart mark m h first) is, slice_split_none (λ b. b == mark) (decimal n) (decimal-apart mark n h second)) refl

-- the word of an id begins with a digit, unless it is the board
pub id_word-other : (seat count c : ℕ) (cs : List ℕ) → IsId (Made seat count) → IsMark c → bytes_eq (id_word (Made seat count)) (c ∷ cs) ≡ false
id_word-other seat count c cs h mark =
    rw (append_assoc (decimal seat) (46 ∷ []) (decimal count)) (number-apart seat (46 ∷ decimal count) c cs (omega (arith, h.0)) mark)

-- an id
pub id_of-word : (id : Id) → IsId id → word_id (id_word id) ≡ Some id
id_of-word Board h = refl
id_of-word (Made seat count) h =
    rw (
      id_word-other seat count 98 (111 ∷ 97 ∷ 114 ∷ 100 ∷ []) h (inr (omega arith)),
      append_assoc (decimal seat) (46 ∷ []) (decimal count),
      parted-decimals 46 seat count refl (inl (omega arith)) (omega (arith, h.0)) (omega (arith, h.1)),
      number_below-decimal 16 seat (omega arith) (omega (arith, h.0)),
      number_below-decimal (2 ^ 32) count (omega arith) h.1,
    ) refl

set_of-count : (seat count : ℕ) → 1 ≤ count → set_of seat count ≡ Some ((seat + 1) * 2 ^ 26 + count)
set_of-count seat count some = let is : (count == 0) ≡ false = grind (arith, common_steps) in rw is refl

stamp_of-set : (seat count : ℕ) → seat ≤ 15 → 1 ≤ count → count < 2 ^ 26 → word_stamp (decimal seat ++ codes ":" ++ decimal count) ≡ Some ((seat + 1) * 2 ^ 26 + count)
stamp_of-set seat count last some few =
    rw (
      append_assoc (decimal seat) (58 ∷ []) (decimal count),
      number-apart seat (58 ∷ decimal count) 45 [] (omega arith) (inl (omega arith)),
      parted-decimals 58 seat count refl (inr (omega arith)) (omega arith) (omega arith),
      number_below-decimal 16 seat (omega arith) (omega arith),
      number_below-decimal (2 ^ 26) count (omega arith) few,
    ) (set_of-count seat count some)

-- a stamp
pub stamp_of-word : (stamp : ℕ) → IsStamp stamp → word_stamp (stamp_word stamp) ≡ Some stamp
stamp_of-word stamp (inl none) = rw none refl
stamp_of-word stamp (inr set) =
    let is : (stamp == 0) ≡ false = grind (arith, common_steps) in
    let seat : (stamp / 2 ^ 26 - 1) ≤ 15 = omega arith in
    let whole : (stamp / 2 ^ 26 - 1 + 1) * 2 ^ 26 + stamp % 2 ^ 26 ≡ stamp = omega arith in
    rw is (stamp_of-set (stamp / 2 ^ 26 - 1) (stamp % 2 ^ 26) seat set.1 (omega arith) ∙ ap Some whole)
