-- What was appended and turned to the front.
use Rattle.std.proofs.Common.{◌≡◌, ℕ, ◌-◌, List, ◌++◌, length, take, drop, ap, ◌∙◌, take_all, append-nil, drop_of_length-le, arith}
use Rattle.std.proofs.lemmas.List.{length-append}
use Rattle.std.proofs.Math.Seq.{drop-append_seam, take-append_seam}
use Rattle.std.specs.List.{refill}

-- it stands before the rest
turned : (held kept : List ℕ) (back : ℕ) → back ≡ length held → drop back (held ++ kept) ++ take back (held ++ kept) ≡ kept ++ held
turned held kept back is =
    rw is (ap (λ l. l ++ take (length held) (held ++ kept)) (drop-append_seam held kept) ∙ ap (λ l. kept ++ l) (take-append_seam held kept))

-- a buffer of as many as before is what was written
pub written_over : (xs ws : List ℕ) → length ws ≡ length xs → refill (length xs) xs ws ≡ ws
written_over xs ws same =
    ap (λ l. take (length xs) (ws ++ l)) (drop_of_length-le xs {i = length ws} (omega (arith, same))) ∙ ap (take (length xs)) (append-nil ws) ∙ take_all (length xs) ws (omega (arith, same))

-- so what was appended, and turned to the front, stands before the rest
pub refilled_is_kept_and_held : (held kept appended turned_ : List ℕ) → appended ≡ held ++ kept → length turned_ ≡ length appended
    → turned_ ≡ drop (length appended - length kept) appended ++ take (length appended - length kept) appended → refill (length appended) appended turned_ ≡ kept ++ held
refilled_is_kept_and_held held kept appended turned_ is same turns =
    written_over appended turned_ same ∙ turns
    ∙ ap (λ l. drop (length appended - length kept) l ++ take (length appended - length kept) l) is
    ∙ turned held kept (length appended - length kept) (omega (arith, ap (λ (l : List ℕ). length l) is, length-append held kept))
