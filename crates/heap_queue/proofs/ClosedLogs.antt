-- The logs of a closed table are the parts that its seats have of a history.
use Rattle.std.proofs.Common.{◌≡◌, ℕ, ◌<◌, ◌≤◌, cond, List, [], ◌∷◌, ◌++◌, length, map, filter, get_or, refl, sym, ap, ◌∙◌, zero-add, arith}
use Rattle.std.specs.List.{range_with_len}
use Rattle.std.proofs.lemmas.List.{get_or_append_left, get_or-map, length-map}
use Rattle.std.proofs.lemmas.List.FromFn.{length-range_with_len, get_or-range_with_len, length-map-range_with_len, get_or-map-range_with_len}
use Rattle.heap_model.specs.Logs.{log_of, logs_of}
use Rattle.heap_model.specs.account.Effects.{is_of}
use Rattle.heap_model.specs.account.Noting.{is_collectors}
use Rattle.heap_model.specs.declared.entry.Entry.{Entry}
use Rattle.heap_model.specs.declared.heap.Heap.{Heap}
use Rattle.heap_model.specs.graph.Graph.{Graph, opening}
use Rattle.heap_model.specs.graph.Growth.{after_entry}
use Rattle.heap_model.specs.graph.Legal.{AcceptsAll, IsObjectLegal}
use Rattle.core_rule.proofs.sweep_exact.GoneSeats.{IsGone, gone_at_opening, gone_has_no_entry, gone_stays_after_entry}
use Rattle.heap_table.specs.SeatHeld.{SeatHeld}

module _ (seats : List SeatHeld) (n : ℕ) (numbered : map (λ seat. seat.number) seats ≡ range_with_len 0 n) where
  -- as many seats as numbers
  pub as_many : length seats ≡ n
  as_many = sym (length-map seats (λ (seat : SeatHeld). seat.number)) ∙ (ap (λ (l : List ℕ). length l) numbered ∙ length-range_with_len 0 n)

  -- each has its place as its number
  pub number_is_place : (k : ℕ) (d : SeatHeld) → k < n → (get_or seats k d).number ≡ k
  number_is_place k d below =
      sym (get_or-map (λ (seat : SeatHeld). seat.number) seats k d 0 (omega (arith, below, as_many))) ∙ (ap (λ (l : List ℕ). get_or l k 0) numbered ∙ (get_or-range_with_len 0 n k 0 below ∙ zero-add k))

-- what the history has of each seat is that seat's own log
pub log_there : (heap : Heap) (seats : List SeatHeld) (last history : List Entry) → length seats ≡ heap.seats → map (λ seat. seat.seat.mine) seats ++ last ∷ [] ≡ logs_of heap history
    → (k : ℕ) (d : SeatHeld) → k < heap.seats → log_of k history ≡ (get_or seats k d).seat.mine
log_there heap seats last history many same k d below =
    let mine : SeatHeld → List Entry = λ seat. seat.seat.mine in
    let part : ℕ → List Entry = λ number. log_of number history in
    let there : get_or (logs_of heap history) k [] ≡ log_of k history
    = get_or_append_left (map part (range_with_len 0 heap.seats)) (filter is_collectors history ∷ []) [] k (omega (arith, length-map-range_with_len part 0 heap.seats, below))
    ∙ get_or-map-range_with_len part 0 heap.seats k k [] below (omega arith) in
    let here : get_or (map mine seats ++ last ∷ []) k [] ≡ (get_or seats k d).seat.mine
    = get_or_append_left (map mine seats) (last ∷ []) [] k (omega (arith, length-map seats mine, many, below)) ∙ get_or-map mine seats k d [] (omega (arith, many, below)) in
    sym there ∙ (ap (λ (ls : List (List Entry)). get_or ls k []) (sym same) ∙ here)

-- it has nothing of a seat that isn't there
none_of_gone : (g : Graph) (k : ℕ) (history : List Entry) → AcceptsAll g history → IsGone g k → log_of k history ≡ []
none_of_gone g k [] accepts gone = refl
none_of_gone g k (entry ∷ history) accepts gone =
    let rest = filter (is_of k) history in
    ap (λ own. cond own (entry ∷ rest) rest) (gone_has_no_entry g k entry accepts.0 gone) ∙ none_of_gone (after_entry g entry) k history accepts.1 (gone_stays_after_entry g k entry accepts.0 gone)

pub none_past : (heap : Heap) (history : List Entry) → IsObjectLegal heap history → (k : ℕ) → heap.seats ≤ k → log_of k history ≡ []
none_past heap history legal k past = none_of_gone (opening heap) k history legal (gone_at_opening heap k past)
