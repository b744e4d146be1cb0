-- What a collector knows once it has folded in all seats.
use Rattle.std.proofs.Common.{◌≡◌, ℕ, suc, ◌+◌, ◌<◌, ◌≤◌, List, [], ◌∷◌, ◌++◌, length, map, take, drop, fold, Some, Option, refl, sym, ap, subst, ◌∙◌, append_assoc, arith}
use Rattle.std.specs.Prelude.{slice_set, All}
use Rattle.std.specs.List.{range_with_len}
use Rattle.std.proofs.lemmas.List.{length-map, take-append-drop, drop_all, append-nil, length-set, drop-set-lt}
use Rattle.std.proofs.Math.Seq.{take-suc-set}
use Rattle.std.proofs.lemmas.List.Elements.{All-rest}
use Rattle.std.proofs.lemmas.List.FromFn.{length-range_with_len}
use Rattle.core_machine.specs.seat.Seat.{Seat}
use Rattle.heap_table.specs.CollectorHeld.{CollectorHeld}
use Rattle.heap_table.specs.Known.{CollectorKnown}
use Rattle.heap_table.specs.SeatHeld.{SeatHeld}
use Rattle.heap_runs.specs.Finishing.{HasGone, folded_in}

-- the slots of these seats
abbrev pub slots_of : List SeatHeld → List (Option Seat)
slots_of seats = map (λ held. Some held.seat) seats

-- the seats that follow one another stand in the slots that do
seats_from : (seats : List SeatHeld) (known : CollectorKnown) (k : ℕ) → map (λ held. held.number) seats ≡ range_with_len k (length seats) → k + length seats ≤ length known.seats
    → (fold folded_in known seats).seats ≡ take k known.seats ++ (slots_of seats ++ drop (k + length seats) known.seats)
seats_from [] known k numbers fits = sym (take-append-drop k known.seats) ∙ ap (λ n. take k known.seats ++ drop n known.seats) (omega arith)
seats_from (held ∷ seats) known k numbers fits =
    let number : held.number ≡ k = cc numbers in
    let there : slice_set known.seats held.number (Some held.seat) ≡ slice_set known.seats k (Some held.seat) = ap (λ (n : ℕ). slice_set known.seats n (Some held.seat)) number in
    let many = length-set known.seats held.number (Some held.seat) in
    let later = seats_from seats (folded_in known held) (k + 1) (cc numbers) (omega (arith, fits, many)) in
    let slot : Option Seat = Some held.seat in
    let after = k + 1 + length seats in
    let next : k + 1 ≡ suc k = omega arith in
    let front : take (k + 1) (slice_set known.seats k slot) ≡ take k known.seats ++ slot ∷ []
    = ap (λ n. take n (slice_set known.seats k slot)) next ∙ take-suc-set known.seats k slot (omega (arith, fits)) in
    later ∙ ap (λ l. take (k + 1) l ++ (slots_of seats ++ drop after l)) there
    ∙ ap (λ l. l ++ (slots_of seats ++ drop after (slice_set known.seats k slot))) front
    ∙ ap (λ l. (take k known.seats ++ slot ∷ []) ++ (slots_of seats ++ l)) (drop-set-lt after known.seats k slot (omega arith))
    ∙ append_assoc (take k known.seats) (slot ∷ []) (slots_of seats ++ drop after known.seats)
    ∙ ap (λ n. take k known.seats ++ (slot ∷ (slots_of seats ++ drop n known.seats))) (omega arith)

-- all seats stand in all slots
pub folded_seats_are_slots : (seats : List SeatHeld) (known : CollectorKnown) → map (λ held. held.number) seats ≡ range_with_len 0 (length known.seats) → (fold folded_in known seats).seats ≡ slots_of seats
folded_seats_are_slots seats known numbers =
    let many : length seats ≡ length known.seats = sym (length-map seats (λ (held : SeatHeld). held.number)) ∙ ap length numbers ∙ length-range_with_len 0 (length known.seats) in
    let same : map (λ held. held.number) seats ≡ range_with_len 0 (length seats) = numbers ∙ ap (range_with_len 0) (sym many) in
    seats_from seats known 0 same (omega (arith, many)) ∙ ap (λ l. slots_of seats ++ l) (drop_all (0 + length seats) known.seats (omega (arith, many))) ∙ append-nil (slots_of seats)

-- folding in changes nothing else but the phase of the last fold
pub folding_keeps_collector : (seats : List SeatHeld) (known : CollectorKnown) → (fold folded_in known seats).collector ≡ known.collector
folding_keeps_collector [] known = refl
folding_keeps_collector (held ∷ seats) known = folding_keeps_collector seats (folded_in known held)

-- which is the phase that is on
pub folded_phase_is_current : (seats : List SeatHeld) (known : CollectorKnown) → 0 < length seats → (fold folded_in known seats).folded ≡ known.collector.phase
folded_phase_is_current [] known some = absurd (omega (arith, some))
folded_phase_is_current (held ∷ []) known some = refl
folded_phase_is_current (held ∷ (other ∷ seats)) known some = folded_phase_is_current (other ∷ seats) (folded_in known held) (omega arith)

-- so far some seats were folded in, and these are left
pub record IsFolding (old : CollectorHeld) (all : List SeatHeld) (now : CollectorHeld) (rest : List SeatHeld) : Type 0 where
  pub leads : record now { known = fold folded_in now.known rest } ≡ record old { known = fold folded_in old.known all }
  pub gone : All (HasGone old.table old.heap) rest
  pub table_stays : now.table ≡ old.table
  pub heap_stays : now.heap ≡ old.heap

-- one more was
pub is_folding_after_next : (old : CollectorHeld) (all : List SeatHeld) (now new : CollectorHeld) (held : SeatHeld) (left rest : List SeatHeld) → IsFolding old all now left → left ≡ held ∷ rest
    → new ≡ record now { known = folded_in now.known held } → IsFolding old all new rest
is_folding_after_next old all now new held left rest is first new_is = subst (λ n. IsFolding old all n rest) (sym new_is) (record {
  leads = ap (λ (l : List SeatHeld). record now { known = fold folded_in now.known l }) (sym first) ∙ is.leads;
  gone = All-rest (HasGone old.table old.heap) held rest left first is.gone;
  table_stays = is.table_stays;
  heap_stays = is.heap_stays;
})
