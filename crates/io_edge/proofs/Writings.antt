-- What writes in a row do to the bytes that a sink has taken.
use Rattle.std.proofs.Common.{ℕ, List, ◌++◌, Option, None, Some, ap, ◌∙◌, append_assoc, take, drop, take-append-drop}
use Rattle.io_edge.specs.Taken.{Takes, TakesUpTo}

-- a sink that took some bytes, and then others, took them all
pub Takes-append : (old mid new : Option (List ℕ)) (first second : List ℕ)
    → Takes old mid first → Takes mid new second → Takes old new (first ++ second)
Takes-append old mid None first second p q = tt
Takes-append old None (Some new) first second p q = absurd q
Takes-append None (Some mid) (Some new) first second p q = p
Takes-append (Some old) (Some mid) (Some new) first second p q =
    q ∙ ap (λ bytes. bytes ++ second) p ∙ append_assoc old first second

-- a write of the rest takes its front
pub TakesUpTo-more : (old mid new : Option (List ℕ)) (bytes rest : List ℕ) (n : ℕ)
    → TakesUpTo old mid bytes rest → Takes mid new (take n rest) → TakesUpTo old new bytes (drop n rest)
TakesUpTo-more old mid new bytes rest n before step = record {
  front = before.front ++ take n rest;
  parts = append_assoc before.front (take n rest) (drop n rest)
      ∙ ap (λ end. before.front ++ end) (take-append-drop n rest)
      ∙ before.parts;
  next = Takes-append old mid new before.front (take n rest) before.next step;
}
