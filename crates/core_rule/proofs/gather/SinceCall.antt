-- Sums over what came since a call began are at most those over what came since its seat's last reply.
use Rattle.std.specs.List.{list_any, sum_by}
use Rattle.std.proofs.Common.{◌≡◌, ℕ, zero, suc, ◌≤◌, Bool, true, false, cond, List, [], ◌∷◌, length, drop, refl, arith}
use Rattle.std.proofs.lemmas.List.Sums.{sum_by-cons}
use Rattle.core_rule.proofs.Terms.{Entry, after_last, is_reply_to, since_reply}

sum_dropped : (f : Entry → ℕ) (n : ℕ) (history : List Entry) → sum_by f (drop n history) ≤ sum_by f history
sum_dropped f zero history = omega arith
sum_dropped f (suc n) [] = omega arith
sum_dropped f (suc n) (entry ∷ history) = rw (sum_by-cons f entry history) (omega (arith, sum_dropped f n history))

-- where no entry of the end passes the test, the end is a section of what comes after the last that does
sum_after_last : (test : Entry → Bool) (f : Entry → ℕ) (n : ℕ) (history : List Entry) → list_any test (drop n history) ≡ false
    → sum_by f (drop n history) ≤ sum_by f (after_last test history)
sum_after_last test f zero [] none = omega arith
sum_after_last test f (suc n) [] none = omega arith
sum_after_last test f zero (entry ∷ history) none = rw none (omega arith)
sum_after_last test f (suc n) (entry ∷ history) none =
    by_test (list_any test (entry ∷ history)) (sum_after_last test f n history none)
  where
    by_test : (b : Bool) → sum_by f (drop n history) ≤ sum_by f (after_last test history)
        → sum_by f (drop n history) ≤ sum_by f (cond b (after_last test history) (entry ∷ history))
    by_test true rest = rest
    by_test false rest = rw (sum_by-cons f entry history) (omega (arith, sum_dropped f n history))

-- a call that wasn't answered began after its seat's last reply
pub call_sum_within_since_reply : (number : ℕ) (f : Entry → ℕ) (n : ℕ) (history : List Entry) → list_any (is_reply_to number) (drop n history) ≡ false
    → sum_by f (drop n history) ≤ sum_by f (since_reply number history)
call_sum_within_since_reply number f n history none = sum_after_last (is_reply_to number) f n history none

-- a call that begins now has no reply yet
pub no_reply_yet : (number : ℕ) (history : List Entry) → list_any (is_reply_to number) (drop (length history) history) ≡ false
no_reply_yet number [] = refl
no_reply_yet number (entry ∷ history) = no_reply_yet number history
