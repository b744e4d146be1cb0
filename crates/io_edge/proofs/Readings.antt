-- What reads in a row do to the bytes that are left in a source.
use Rattle.std.proofs.Common.{◌≡◌, ℕ, ◌+◌, ◌≤◌, List, ◌++◌, length, take, Option, refl, arith, length-append, length-take}
use Rattle.std.specs.Io.KnownBytes.{Consumes}
use Rattle.std.proofs.KnownBytes.{Consumes-trans}
use Rattle.io_edge.specs.Left.{LosesNext, LosesUpTo}

-- a reader that lost some bytes, and then n others, lost both
pub LosesNext-append : (old mid new : Option (List ℕ)) (first into : List ℕ) (n both : ℕ)
    → Consumes old mid first → Consumes mid new (take n into) → n ≤ length into → length first + n ≡ both
    → LosesNext old new both
LosesNext-append old mid new first into n both p q fits sum =
    let second = take n into in (
      first ++ second,
      Consumes-trans old mid new first second p q,
      omega (arith, length-append first second, length-take n into),
    )

-- as many are no more than these
pub LosesUpTo-append : (old mid new : Option (List ℕ)) (first into : List ℕ) (n most : ℕ)
    → Consumes old mid first → Consumes mid new (take n into) → n ≤ length into → length first + n ≤ most
    → LosesUpTo old new most
LosesUpTo-append old mid new first into n most p q fits small =
    (length first + n, small, LosesNext-append old mid new first into n (length first + n) p q fits refl)
