-- A machine's value as its parties make it up.
use Rattle.std.proofs.Common.{suc, ◌≡◌, ◌↔◌, Bool, false, ◌≢◌, ℕ, ◌<◌, ◌≤◌, List, [], ◌∷◌, ◌++◌, length, map, get_or, set, subst, sym, ap, ◌∙◌, inl, inr, arith, length-append}
use Rattle.std.specs.Prelude.{IsTrue}
use Rattle.std.proofs.lemmas.Bool.{false≢true}
use Rattle.std.proofs.lemmas.Bool.Decides.{leb_tells}
use Rattle.std.proofs.lemmas.List.{length-set, map-set, get_or-map, get_or_past, get_or-set_same, get_or-set_other, set-append_left}
use Rattle.std.proofs.Math.ListN.{get_or-append, length-map}
use Rattle.std.proofs.Math.Seq.{get_or-append_seam, map-set_same}
use Rattle.core_machine.proofs.Terms.{Heap, Command, MayBegin, MayBeginInner, Seat, absent_seat, State, seat_at, Fits, SeatWithRoom, MachineValue, IsMachine}
use Rattle.heap_model.specs.declared.calls.collect.Inner.{Inner}
use Rattle.core_machine.specs.collector.Collector.{Collector}

-- the state of these words and parties
abbrev pub state_of : List ℕ → List SeatWithRoom → Collector → State
state_of words parties collector = record { words = words; seats = map (λ p. p.seat) parties; collector = collector }

-- the value of a machine of these
abbrev pub value_of : Heap → List ℕ → List SeatWithRoom → Collector → ℕ → ℕ → MachineValue
value_of heap words parties collector room gone = record {
  heap = heap;
  state = state_of words parties collector;
  spares = map (λ p. p.spare) parties ++ room ∷ [];
  forgotten = map (λ p. p.forgotten) parties ++ gone ∷ [];
}

-- a seat's data are its party's
pub seat_is_partys : (words : List ℕ) (parties : List SeatWithRoom) (collector : Collector) (number : ℕ) (d : SeatWithRoom) → number < length parties
    → seat_at (state_of words parties collector) number ≡ (get_or parties number d).seat
seat_is_partys words parties collector number d within = get_or-map (λ p. p.seat) parties number d absent_seat within

pub partys_seat_fits : (heap : Heap) (words : List ℕ) (parties : List SeatWithRoom) (collector : Collector) (number : ℕ) (p : SeatWithRoom) → number < length parties
    → p ≡ get_or parties number p → IsMachine heap (state_of words parties collector) → Fits heap p.seat
partys_seat_fits heap words parties collector number p within is machine =
    let fits = machine.fit number (omega (arith, length-map parties (λ (s : SeatWithRoom). s.seat))) in
    subst (Fits heap) (seat_is_partys words parties collector number p within ∙ sym (ap (λ (s : SeatWithRoom). s.seat) is)) fits

-- the seats after another party came into the place of one
pub seats_after_party_set : (parties : List SeatWithRoom) (number : ℕ) (p : SeatWithRoom) (seat : Seat) → p.seat ≡ seat
    → map (λ s. s.seat) (set parties number p) ≡ set (map (λ s. s.seat) parties) number seat
seats_after_party_set parties number p seat is = map-set (λ s. s.seat) parties number p ∙ ap (set (map (λ s. s.seat) parties) number) is

-- a number of each party stays where the party that comes into the place of one has the same
pub party_numbers_stay : (of : SeatWithRoom → ℕ) (parties : List SeatWithRoom) (number : ℕ) (p d : SeatWithRoom) → of p ≡ of (get_or parties number d)
    → map of (set parties number p) ≡ map of parties
party_numbers_stay of parties number p d is = map-set_same of parties number p d is

-- and a seat has its party's, where the collector's stands behind those of the seats
pub seat_number_is_partys : (of : SeatWithRoom → ℕ) (parties : List SeatWithRoom) (last number : ℕ) (d : SeatWithRoom) → number < length parties
    → get_or (map of parties ++ last ∷ []) number 0 ≡ of (get_or parties number d)
seat_number_is_partys of parties last number d within =
    get_or-append (map of parties) (last ∷ []) 0 number (omega (arith, length-map parties of)) ∙ get_or-map of parties number d 0 within

-- the party that came into the place of one has its own there, and the others theirs
pub set_party_has_own_number : (of : SeatWithRoom → ℕ) (parties : List SeatWithRoom) (last number : ℕ) (p : SeatWithRoom) → number < length parties
    → get_or (map of (set parties number p) ++ last ∷ []) number 0 ≡ of p
set_party_has_own_number of parties last number p within =
    seat_number_is_partys of (set parties number p) last number p (omega (arith, length-set parties number p)) ∙ ap of (get_or-set_same parties number p p within)

pub other_party_keeps_number : (of : SeatWithRoom → ℕ) (parties : List SeatWithRoom) (last number : ℕ) (p : SeatWithRoom) (other : ℕ) → number < length parties → other ≢ number
    → get_or (map of (set parties number p) ++ last ∷ []) other 0 ≡ get_or (map of parties ++ last ∷ []) other 0
other_party_keeps_number of parties last number p other within apart =
    let long = length-map parties of in
    rw (map-set of parties number p, ← set-append_left (map of parties) (last ∷ []) number (of p) (omega arith))
    (get_or-set_other (map of parties ++ last ∷ []) number other (of p) 0 apart)

-- of every party but the collector it says the same, whatever stands for the collector
pub each_but_last : (of : SeatWithRoom → ℕ) (parties : List SeatWithRoom) (last now other : ℕ) → other ≢ length parties
    → get_or (map of parties ++ now ∷ []) other 0 ≡ get_or (map of parties ++ last ∷ []) other 0
each_but_last of parties last now other apart =
    let long = length-map parties of in
    elim (leb_tells (suc other) (length parties)) as (λ _. get_or (map of parties ++ now ∷ []) other 0 ≡ get_or (map of parties ++ last ∷ []) other 0) [
      | inl within ↦ get_or-append (map of parties) (now ∷ []) 0 other (omega (arith, within.1)) ∙ sym (get_or-append (map of parties) (last ∷ []) 0 other (omega (arith, within.1)))
      | inr past ↦
          let far = length-append (map of parties) (now ∷ []) in
          let far_too = length-append (map of parties) (last ∷ []) in
          get_or_past (map of parties ++ now ∷ []) other 0 (omega (arith, past.1)) ∙ sym (get_or_past (map of parties ++ last ∷ []) other 0 (omega (arith, past.1)))
    ]

-- and of the collector what stands for it
pub last_here : (of : SeatWithRoom → ℕ) (parties : List SeatWithRoom) (last : ℕ) → get_or (map of parties ++ last ∷ []) (length parties) 0 ≡ last
last_here of parties last = subst (λ (n : ℕ). get_or (map of parties ++ last ∷ []) n 0 ≡ last) (length-map parties of) (get_or-append_seam (map of parties) last [] 0)

-- a seat that is there may begin what its party may
pub begins_of : {told : Bool} (words : List ℕ) (parties : List SeatWithRoom) (collector : Collector) (number : ℕ) (p : SeatWithRoom) (command : Command) → number < length parties
    → p ≡ get_or parties number p → (IsTrue told ↔ MayBegin p.seat command)
    → (IsTrue told ↔ (number < length (state_of words parties collector).seats) × MayBegin (seat_at (state_of words parties collector) number) command)
begins_of words parties collector number p command within is tells =
    let long = length-map parties (λ (s : SeatWithRoom). s.seat) in
    rw (seat_is_partys words parties collector number p within ∙ sym (ap (λ (s : SeatWithRoom). s.seat) is)) (λ may. (omega (arith, long, within), tells.0 may), λ both. tells.1 both.1)

-- and the same of an inner call
pub inner_begins_of : {told : Bool} (heap : Heap) (words : List ℕ) (parties : List SeatWithRoom) (collector : Collector) (number : ℕ) (p : SeatWithRoom) (inner : Inner) → number < length parties
    → p ≡ get_or parties number p → (IsTrue told ↔ MayBeginInner heap number p.seat inner)
    → (IsTrue told ↔ (number < length (state_of words parties collector).seats) × MayBeginInner heap number (seat_at (state_of words parties collector) number) inner)
inner_begins_of heap words parties collector number p inner within is tells =
    let long = length-map parties (λ (s : SeatWithRoom). s.seat) in
    rw (seat_is_partys words parties collector number p within ∙ sym (ap (λ (s : SeatWithRoom). s.seat) is)) (λ may. (omega (arith, long, within), tells.0 may), λ both. tells.1 both.1)

-- a number past those of the seats may begin nothing
pub none_begins : (parties : List SeatWithRoom) (number : ℕ) (May : Type 0) → length parties ≤ number
    → (IsTrue false ↔ (number < length (map (λ (p : SeatWithRoom). p.seat) parties)) × May)
none_begins parties number May past =
    let long = length-map parties (λ (s : SeatWithRoom). s.seat) in
    (λ is. absurd (false≢true is), λ both. absurd (omega (arith, long, both.0)))

-- a seat that was put in its position
pub set_seat_is_read : (seats : List Seat) (number : ℕ) (seat : Seat) → number < length seats → get_or (set seats number seat) number absent_seat ≡ seat
set_seat_is_read seats number seat within = get_or-set_same seats number seat absent_seat within
