-- A spine gets its place: the next words of the spine space are its, and the next spine stands behind them.
use Rattle.std.proofs.Common.{◌≡◌, ◌≢◌, ℕ, ◌+◌, ◌-◌, ◌%◌, ◌^◌, ◌<◌, ◌≤◌, ◌==◌, ◌⊎◌, nat_lt, nat_le, suc, inl, inr, List, length, refl, sym, ap, ◌∙◌, subst, arith}
use Rattle.std.specs.Prelude.{if◌then◌else◌}
use Rattle.std.proofs.lemmas.Bool.Decides.{eqb_tells, leb_tells}
use Rattle.heap_words.specs.declared.spot.Spot.{Spot}
use Rattle.core_rule.proofs.Terms.{spot_in, spot_word, Heap, graph_of, State, seat_at, Seat, spine_need, at, put, table_length, FitsSpot, Book, fragment_at, HalvesStand}
use Rattle.core_rule.proofs.Terms.{AwaitsCopy, IsBeforeNext, IsEarlyRange, IsLeftBehind, WhileCopying, node_at, SpineOwner, Open, Placed, Spined, Gone, CopyingStands, copy_in}
use Rattle.core_rule.proofs.Terms.{SpinesStand, SpineInHand, HasPlace, IsWordOf, next_spine}
use Rattle.core_machine.specs.declared.table.address.Address.TheVariants as addresses
use Rattle.core_machine.proofs.table_lemmas.Addresses.{at-put_same}
use Rattle.core_machine.proofs.collector_lemmas.SpineTurns.{told_spot_fits}
use Rattle.core_rule.proofs.halves.HalvesFrames.{if_some_of_each}
use Rattle.core_rule.proofs.halves.HalvesMoves.{copy_in_hand_where_left}
use Rattle.core_rule.proofs.spines.SpineFrames.{SpinesLeft, PlacesStay, same_shape_of_itself}
use Rattle.core_rule.proofs.ways.ArrayWords.{spot_in-word}
use Rattle.core_rule.proofs.dying.DeadWords.{dead_tell_still}
use Rattle.core_rule.proofs.words.Addresses.{SameSpines, at-put_apart, same_spines_elsewhere}

-- the place of the next spine behind so many words
abbrev pub spot_after : Spot → ℕ → Spot
spot_after spot need = record spot { offset = spot.offset + need }

-- the word is among so many from the spot on
pub record IsClaimed (spot : Spot) (need half offset : ℕ) : Type 0 where
  pub half_is : half ≡ spot.half
  pub from : spot.offset ≤ offset
  pub upto : offset < spot.offset + need

-- whose a word is once so many from the spot on are the party's
abbrev pub claimed : ℕ → Spot → ℕ → (ℕ → ℕ → SpineOwner) → ℕ → ℕ → SpineOwner
claimed number spot need spine_owner half offset =
    if half == spot.half then (if nat_le spot.offset offset then (if nat_lt offset (spot.offset + need) then Placed number (offset - spot.offset) else spine_owner half offset) else spine_owner half offset)
    else spine_owner half offset

module _ (number : ℕ) (spot : Spot) (need : ℕ) (spine_owner : ℕ → ℕ → SpineOwner) where
  -- what is true of both is true of it
  pub claim_cases : (P : SpineOwner → Type 0) (half offset : ℕ) → (IsClaimed spot need half offset → P (Placed number (offset - spot.offset))) → (¬ IsClaimed spot need half offset → P (spine_owner half offset))
      → P (claimed number spot need spine_owner half offset)
  claim_cases P half offset there away = elim (eqb_tells half spot.half) as (λ _. P (claimed number spot need spine_owner half offset)) [
    | inr other ↦ rw other.0 (away (λ is. other.1 is.half_is))
    | inl same ↦ rw same.0 (elim (leb_tells spot.offset offset)
        as (λ _. P (if nat_le spot.offset offset then (if nat_lt offset (spot.offset + need) then Placed number (offset - spot.offset) else spine_owner half offset) else spine_owner half offset)) [
          | inr before ↦ rw before.0 (away (λ is. absurd (omega (arith, is.from, before.1))))
          | inl from ↦ rw from.0 (elim (leb_tells (suc offset) (spot.offset + need))
              as (λ _. P (if nat_lt offset (spot.offset + need) then Placed number (offset - spot.offset) else spine_owner half offset)) [
                | inr behind ↦ rw behind.0 (away (λ is. absurd (omega (arith, is.upto, behind.1))))
                | inl upto ↦ rw upto.0 (there record { half_is = same.1; from = from.1; upto = omega (arith, upto.1) })
              ])
        ])
  ]

  -- the party has each of them
  pub claimed_is_placed : (j : ℕ) → j < need → claimed number spot need spine_owner spot.half (spot.offset + j) ≡ Placed number j
  claimed_is_placed j less = claim_cases (λ o. o ≡ Placed number j) spot.half (spot.offset + j) (λ is. ap (Placed number) (omega arith))
      (λ away. absurd (away record { half_is = refl; from = omega arith; upto = omega (arith, less) }))

  module _ (open_ : (half offset : ℕ) → IsClaimed spot need half offset → spine_owner half offset ≡ Open) where
    -- what was somebody's stays so
    claim_stays : (half offset : ℕ) → spine_owner half offset ≢ Open → claimed number spot need spine_owner half offset ≡ spine_owner half offset
    claim_stays half offset some = claim_cases (λ o. o ≡ spine_owner half offset) half offset (λ is. absurd (some (open_ half offset is))) (λ away. refl)

    -- an array's words were its
    claim_arrays : (half offset i k : ℕ) → claimed number spot need spine_owner half offset ≡ Spined i k → spine_owner half offset ≡ Spined i k
    claim_arrays half offset i k = claim_cases (λ o. o ≡ Spined i k → spine_owner half offset ≡ Spined i k) half offset (λ is e. absurd (cc)) (λ away e. e)

    -- each other party has what it had
    pub claim_leaves : (r : ℕ) → r ≢ number → SpinesLeft r spine_owner (claimed number spot need spine_owner)
    claim_leaves r apart = record {
      stays = λ half offset k is. claim_stays half offset (λ none. absurd (cc (is, none))) ∙ is;
      own = λ half offset k. claim_cases (λ o. o ≡ Placed r k → spine_owner half offset ≡ Placed r k) half offset (λ is e. absurd (apart (cc))) (λ away e. e);
    }

    -- and what arrays have left stays left
    pub claim_gone : (half offset : ℕ) → spine_owner half offset ≡ Gone → claimed number spot need spine_owner half offset ≡ Gone
    claim_gone half offset is = claim_stays half offset (λ none. absurd (cc (is, none))) ∙ is

-- the spot's word grows by the words that are claimed
spot_grows : (spot : Spot) (need : ℕ) → FitsSpot spot → spot.offset + need < 2 ^ 31 → (spot_word spot + need) % 2 ^ 64 ≡ spot_word (spot_after spot need)
spot_grows spot need fits few =
    let half_small : spot.half < 2 = fits.half_within in
    grind (arith, half_small, few)

-- so it tells the place behind them
spot_claimed : (spot : Spot) (need : ℕ) → FitsSpot spot → spot.offset + need < 2 ^ 31 → spot_in (spot_word (spot_after spot need)) ≡ spot_after spot need
spot_claimed spot need fits few = spot_in-word (spot_after spot need) record { half_within = fits.half_within; offset_within = few }

-- what is somebody's in the half of the next spine stands before that
pub stands_before : (heap : Heap) (state : State) (book : Book) → HalvesStand heap state book → (half offset : ℕ) → book.spine_owner half offset ≢ Open → half ≡ (next_spine heap state.words).half
    → offset < (next_spine heap state.words).offset
stands_before heap state book halves half offset some same = elim (halves.before half offset some) [
  | inl here ↦ here.before
  | inr behind ↦ absurd (behind.other same)
]

module _ (heap : Heap) (state : State) (book : Book) (number need : ℕ) (table : length state.words ≡ table_length heap) where
  abbrev spot : Spot
  spot = next_spine heap state.words

  -- the words after the claim, and whose the spine words are then
  abbrev pub words_claimed : List ℕ
  words_claimed = put heap state.words addresses.Spot ((at heap state.words addresses.Spot + need) % 2 ^ 64)

  abbrev pub owner_claimed : ℕ → ℕ → SpineOwner
  owner_claimed = claimed number spot need book.spine_owner

  abbrev pub book_claimed : Book
  book_claimed = record book { spine_owner = owner_claimed }

  -- the spine words are as before
  pub same_spines_after_spot_claim : SameSpines heap state.words words_claimed
  same_spines_after_spot_claim = same_spines_elsewhere heap state.words _ addresses.Spot (omega arith)

  -- the party has exactly these words then
  pub spine_in_hand_after_claim : (old new : Seat) → ¬ HasPlace old old.point → HasPlace new new.point → spine_need new ≡ need → new.spine ≡ spot → new.listed ≡ 0
      → SpineInHand heap state.words book.spine_owner number old → SpineInHand heap words_claimed owner_claimed number new
  spine_in_hand_after_claim old new before has same there none hand = record {
    placed = λ placed j less. rw there (claimed_is_placed number spot need book.spine_owner j (subst (λ n. j < n) same less));
    own = λ half offset j. claim_cases number spot need book.spine_owner (λ o. o ≡ Placed number j → HasPlace new new.point × (j < spine_need new) × IsWordOf new.spine half offset j) half offset
        (λ is e. let position : offset - spot.offset ≡ j = cc in
        (has, rw same (omega (arith, position, is.from, is.upto)), rw there record { half_is = is.half_is; offset_is = omega (arith, position, is.from) }))
        (λ away e. absurd (before (hand.own half offset j e).0));
    stored = λ placed j less. absurd (omega (arith, less, none));
  }

  module _ (halves : HalvesStand heap state book) where
    -- they were nobody's
    pub unclaimed : (half offset : ℕ) → IsClaimed spot need half offset → book.spine_owner half offset ≡ Open
    unclaimed half offset is = by (book.spine_owner half offset) refl
      where
        by : (o : SpineOwner) → book.spine_owner half offset ≡ o → book.spine_owner half offset ≡ Open
        by Open same = same
        by _ same = let there = stands_before heap state book halves half offset (λ none. absurd (cc (same, none))) is.half_is in absurd (omega (arith, there, is.from))

    -- each other party has what it had, and what arrays have left stays left
    pub spines_left_after_claim : (r : ℕ) → r ≢ number → SpinesLeft r book.spine_owner owner_claimed
    spines_left_after_claim = claim_leaves number spot need book.spine_owner unclaimed

    pub places_stay_after_claim : PlacesStay heap state.words words_claimed (length book.made) book.spines book.spines book.spine_owner owner_claimed
    places_stay_after_claim = record {
      stay = λ i below. refl;
      gone = claim_gone number spot need book.spine_owner unclaimed;
      as_were = λ half offset is. same_spines_after_spot_claim half offset;
    }

    module _ (old : SpinesStand heap state.words heap.seats (length book.made) (node_at (graph_of heap book.history) book.made) book.owner book.fragments book.spines book.spine_owner)
        (few : spot.offset + need < 2 ^ 31) where
      fits : FitsSpot spot
      fits = told_spot_fits (at heap state.words addresses.Spot)

      found_spot : at heap words_claimed addresses.Spot ≡ spot_word (spot_after spot need)
      found_spot = at-put_same heap state.words addresses.Spot _ table tt ∙ ap (λ w. (w + need) % 2 ^ 64) old.spot ∙ spot_grows spot need fits few

      -- the next spine stands behind them
      pub next_spine_after_claim : next_spine heap words_claimed ≡ spot_after spot need
      next_spine_after_claim = ap spot_in found_spot ∙ spot_claimed spot need fits few

      -- and the spine words stand
      pub spines_stand_after_claim : number ≤ heap.seats
          → SpinesStand heap words_claimed heap.seats (length book.made) (node_at (graph_of heap book.history) book.made) book.owner book.fragments book.spines owner_claimed
      spines_stand_after_claim here = record {
        spot = found_spot ∙ ap spot_word (sym next_spine_after_claim);
        parties = λ half offset r k. claim_cases number spot need book.spine_owner (λ o. o ≡ Placed r k → r ≤ heap.seats) half offset
            (λ is e. let same : number ≡ r = cc in subst (λ n. n ≤ heap.seats) same here) (λ away e. old.parties half offset r k e);
        kept = λ i j below is within. let was = old.kept i j below is within in claim_stays number spot need book.spine_owner unclaimed _ _ (λ none. absurd (cc (was, none))) ∙ was;
        back = λ half offset i j is. old.back half offset i j (claim_arrays number spot need book.spine_owner unclaimed half offset i j is);
        tells = dead_tell_still heap state.words words_claimed (length book.made) (node_at (graph_of heap book.history) book.made) (node_at (graph_of heap book.history) book.made) book.owner book.owner
            (λ i below. same_shape_of_itself (node_at (graph_of heap book.history) book.made) i)
            (λ f i k is. (is, at-put_apart heap state.words addresses.Spot (addresses.Word f 0) _ (λ e. omega (arith, e)))) old.tells;
      }

      same_half : (next_spine heap words_claimed).half ≡ spot.half
      same_half = ap (λ (s : Spot). s.half) next_spine_after_claim

      -- they stand before the next spine, and in its half
      pub claimed_is_before_next : (half offset : ℕ) → owner_claimed half offset ≢ Open
          → IsBeforeNext (next_spine heap words_claimed) half offset ⊎ IsLeftBehind heap (next_spine heap words_claimed) state.collector.phase state.collector.stage half offset
      claimed_is_before_next half offset = subst (λ (s : Spot). owner_claimed half offset ≢ Open → IsBeforeNext s half offset ⊎ IsLeftBehind heap s state.collector.phase state.collector.stage half offset)
          (sym next_spine_after_claim) (claim_cases number spot need book.spine_owner
          (λ o. o ≢ Open → IsBeforeNext (spot_after spot need) half offset ⊎ IsLeftBehind heap (spot_after spot need) state.collector.phase state.collector.stage half offset) half offset
          (λ is some. inl record { here = is.half_is; before = is.upto })
          (λ away some. elim (halves.before half offset some)
          as (λ _. IsBeforeNext (spot_after spot need) half offset ⊎ IsLeftBehind heap (spot_after spot need) state.collector.phase state.collector.stage half offset) [
            | inl here ↦ inl record { here = here.here; before = omega (arith, here.before) }
            | inr behind ↦ inr record { leaving = behind.leaving; a_half = behind.a_half; other = behind.other; before = behind.before }
          ]))

      -- so spines stand in their halves after a seat's claim
      pub halves_stand_after_claim : number < heap.seats → HalvesStand heap (record state { words = words_claimed }) book_claimed
      halves_stand_after_claim here = record {
        half = same_half ∙ halves.half;
        before = claimed_is_before_next;
        arrays = λ i below is an_array. subst (λ h. ((book.spines i).half ≡ h) ⊎ AwaitsCopy state.collector.phase state.collector.stage (fragment_at (book.fragments i) 0)) (sym same_half)
            (halves.arrays i below is an_array);
        hands = λ r below has. subst (λ h. ((seat_at state r).spine.half ≡ h) ⊎ IsEarlyRange state.collector.phase state.collector.stage (seat_at state r).answered) (sym same_half) (halves.hands r below has);
        swung = λ in_copying i below is has. halves.swung in_copying i below is has ∙ sym same_half;
        copies = subst (λ h. WhileCopying (CopyingStands (node_at (graph_of heap book.history) book.made) book.made book.owner book.colour book.fragments book.spines h) state.collector.stage)
            (sym same_half) halves.copies;
        copy = copy_in_hand_where_left heap state.words words_claimed book.spine_owner owner_claimed state.collector.stage (spines_left_after_claim heap.seats (λ e. omega (arith, e, here)))
            (if_some_of_each (copy_in state.collector.stage) (λ copy copied j less. same_spines_after_spot_claim _ _ ∙ copied j less ∙ sym (same_spines_after_spot_claim _ _)) halves.copy.copied) halves.copy;
      }
