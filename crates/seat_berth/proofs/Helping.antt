-- The helpers' steps keep the rule of a berth.
use Rattle.std.proofs.Common.{◌≡◌, ℕ, ◌<◌, ◌≢◌, eqb, List, [], ◌∷◌, ◌++◌, ◌⊎◌, length, get_or, set, Option, Some, None, inl, inr, refl, sym, ap, subst, ◌∙◌, ⊎_elim, arith}
use Rattle.std.specs.declared.alloc.Global.{Global}
use Rattle.std.specs.declared.boxed.Box.{Box}
use mathlib.Core.Option.{Option as Found, none, some}
use prog.Atomic.{either}
use lib.ListN.{get_elem?}
use Rattle.atomic_table.specs.Table.{State, Act, Allows, Enters, Valid, stepped, carried_after, keeps, takes, gives, rest}
use Rattle.atomic_table.proofs.Lists.{set_here, set_else, at_longer}
use Rattle.heap_table.specs.SeatHeld.{SeatHeld}
use Rattle.seat_berth.specs.Known.{HelperKnown, Taken, opening_helper}
use Rattle.seat_berth.specs.OnlyAnswered.{OnlyAnswered}
use Rattle.seat_berth.specs.Plays.{Party, HasCome, Took, HasGiven}
use Rattle.seat_berth.specs.Resting.{IsOf, NoneHas, HasAlone, IsResting, IsHelped, StandsOwner, StandsBy, Holds}
use Rattle.seat_berth.specs.Views.{Slot, slot_of, helper_view, helper_by, taken_by, missed_by, given_by}
use Rattle.seat_berth.specs.declared.view.View.{View}
use Rattle.seat_berth.specs.declared.view.View.TheVariants.{Opening, OfOwner, OfHelper}
use Rattle.seat_berth.proofs.Owning.{word_read}
use Rattle.seat_berth.proofs.Parties.{each_by_free, each_by_coming, alone_by_taking, none_by_giving}

-- the first view, where how the berth stands is told by it
first_there : (home : SeatHeld) (word : ℕ) (homes : List (Found Slot)) (views : List View) (first : Found View) → StandsBy home word homes views first → (view : View) × (first ≡ some view)
first_there home word homes views (some view) stands = (view, refl)
first_there home word homes views none stands = absurd stands

-- nothing that the rule says of helpers hangs on who of them has nothing
pub Spreads : List View → List View → Type 1
Spreads views more = (Is : ℕ → Option Taken → Type 0) → ((party : ℕ) → Is party None) → ((party : ℕ) (known : HelperKnown) → get_elem? views party ≡ some (helper_view known) → Is party known.has)
    → (party : ℕ) (known : HelperKnown) → get_elem? more party ≡ some (helper_view known) → Is party known.has

module _ (home : SeatHeld) (word : ℕ) (homes : List (Found Slot)) (views more : List View) (spread : Spreads views more) where
  free_still : NoneHas views → NoneHas more
  unfolding Spreads
  free_still free = spread (λ party has. has ≡ None) (λ _. refl) free

  owner_still : (parked : Option SeatHeld) → StandsOwner home word homes views parked → StandsOwner home word homes more parked
  unfolding Spreads
  owner_still None stands = (stands.0, free_still stands.1)
  owner_still (Some parked) stands = (
    stands.0,
    ⊎_elim
        (λ rests. inl (record { word_is = rests.word_is; boxed = rests.boxed; home = rests.home; answered = rests.answered; free = free_still rests.free }))
        (λ helped. inr (record { word_is = helped.word_is; one = helped.one; alone = spread (HasAlone helped.one parked) (λ _. tt) helped.alone })) stands.1,
  )

  -- so the berth stands as it did
  stands_still : (first : Found View) → StandsBy home word homes views first → StandsBy home word homes more first
  stands_still (some Opening) stands = (stands.0, stands.1, free_still stands.2)
  stands_still (some (OfOwner view)) stands = owner_still view.known.parked stands
  stands_still (some (OfHelper view)) stands = absurd stands
  stands_still none stands = absurd stands

module _ (home : SeatHeld) (slots : ℕ) where
  comes : Enters (Holds home) slots 0 (λ _ (view : View). HasCome (view, []))
  unfolding Spreads
  comes s holds count small =
      let more = s.views ++ helper_view opening_helper ∷ [] in
      let first = first_there home holds.word s.homes s.views (get_elem? s.views 0) holds.stands in
      let still = stands_still home holds.word s.homes s.views more (λ Is nothing each. each_by_coming s.views Is each nothing) (get_elem? s.views 0) holds.stands in (
        helper_view opening_helper,
        record { word = holds.word; words_are = holds.words_are; stands = subst (λ (v : Found View). StandsBy home holds.word s.homes more v) (first.1 ∙ sym (at_longer s.views (helper_view opening_helper ∷ []) 0 first.0 first.1)) still },
        refl,
      )

  pub allows_come : Enters (Holds home) slots 0 (λ _ (view : View). HasCome (view, []))
  allows_come = comes

  -- a helper isn't the first party
  other_party : (word : ℕ) (homes : List (Found Slot)) (views : List View) (known : HelperKnown) → StandsBy home word homes views (get_elem? views 0) → (id : ℕ) → get_elem? views id ≡ some (helper_view known) → 0 ≢ id
  other_party word homes views known stands id at is =
      let here : get_elem? views 0 ≡ some (helper_view known) = ap (λ (n : ℕ). get_elem? views n) is ∙ at in
      let not_owner : StandsBy home word homes views (some (helper_view known)) = subst (λ (v : Found View). StandsBy home word homes views v) here stands in
      absurd not_owner

  -- the first view is as it was where a helper has another
  first_stays : (s : State Slot View) → Holds home s → (id : ℕ) (old new : HelperKnown) → get_elem? s.views id ≡ some (helper_view old) → get_elem? (set s.views id (helper_view new)) 0 ≡ get_elem? s.views 0
  first_stays s holds id old new at = set_else s.views id 0 (helper_view new) (other_party holds.word s.homes s.views old holds.stands id at)

  -- the berth with this word, these slots and another view of a helper's
  stepped_helper : (s : State Slot View) (holds : Holds home s) (id : ℕ) (old new : HelperKnown) → get_elem? s.views id ≡ some (helper_view old) → (word : ℕ) (homes : List (Found Slot)) (first : Found View)
      → get_elem? s.views 0 ≡ first → StandsBy home word homes (set s.views id (helper_view new)) first
      → Holds home (record { words = set s.words 0 word; homes = homes; views = set s.views id (helper_view new) })
  stepped_helper s holds id old new at word homes first is stands = record {
    word = word;
    words_are = ap (λ (l : List ℕ). set l 0 word) holds.words_are;
    stands = subst (λ (v : Found View). StandsBy home word homes (set s.views id (helper_view new)) v) (sym (first_stays s holds id old new at ∙ is)) stands;
  }

  -- what a helper's try comes to, where it has found this word
  Tries : State Slot View → ℕ → HelperKnown → ℕ → Type 0
  Tries s id known n = let me : Party = (helper_view known, []) in
      (w : View) × (a : Act Slot) × Valid s.homes [] a × Holds home (stepped s 0 (either (eqb n 1) 2 n) id [] w a) × Took home me n (w, carried_after [] a)

  module _ (s : State Slot View) (holds : Holds home s) (id : ℕ) (known : HelperKnown) (at : get_elem? s.views id ≡ some (helper_view known)) where
    takes_it : (view : View) (parked : SeatHeld) → get_elem? s.views 0 ≡ some view → ((word : ℕ) (homes : List (Found Slot)) (views : List View) → StandsOwner home word homes views (Some parked) → StandsBy home word homes views (some view))
        → IsOf home parked → IsResting holds.word s.homes s.views parked → Tries s id known 1
    unfolding Tries
    takes_it view parked first by of rests =
        let taken : Taken = record { parked = parked; took = rests.boxed.value } in
        let new = taken_by known taken in
        let helped : IsHelped 2 (set s.views id (helper_view new)) parked = record { word_is = refl; one = id; alone = alone_by_taking s.views id new taken rests.free refl } in (
          helper_view new,
          takes 0 (slot_of rests.boxed),
          rests.home,
          stepped_helper s holds id known new at 2 (set s.homes 0 none) (some view) first (by 2 (set s.homes 0 none) (set s.views id (helper_view new)) (of, inr helped)),
          record { rested = λ _. record { boxed = rests.boxed; parked = parked; of = of; answered = rests.answered; after_is = refl }; missed = λ other. absurd (other refl) },
        )

    -- a word that isn't that of a seat that rests
    misses : known.has ≡ None → (n : ℕ) → holds.word ≡ n → n ≢ 1 → either (eqb n 1) 2 n ≡ n → Tries s id known n
    unfolding Tries Spreads
    misses free n word other stays =
        let new = missed_by known n in
        let more = set s.views id (helper_view new) in
        let still = stands_still home holds.word s.homes s.views more (λ Is nothing each. each_by_free s.views Is each id new (subst (λ (has : Option Taken). Is id has) (sym free) (nothing id))) (get_elem? s.views 0) holds.stands in (
          helper_view new,
          keeps,
          tt,
          stepped_helper s holds id known new at (either (eqb n 1) 2 n) s.homes (get_elem? s.views 0) refl (subst (λ (m : ℕ). StandsBy home m s.homes more (get_elem? s.views 0)) (word ∙ sym stays) still),
          record { rested = λ is. absurd (other is); missed = λ _. refl },
        )

    tries_owner : known.has ≡ None → (view : View) → get_elem? s.views 0 ≡ some view → (parked : Option SeatHeld)
        → ((word : ℕ) (homes : List (Found Slot)) (views : List View) → StandsOwner home word homes views parked → StandsBy home word homes views (some view))
        → StandsOwner home holds.word s.homes s.views parked → Tries s id known holds.word
    tries_owner free view first None by stands = subst (Tries s id known) (sym stands.0) (misses free 0 stands.0 (λ is. absurd (omega (arith, is))) refl)
    tries_owner free view first (Some parked) by stands = elim stands.1 [
      | inl rests ↦ subst (Tries s id known) (sym rests.word_is) (takes_it view parked first by stands.0 rests)
      | inr helped ↦ subst (Tries s id known) (sym helped.word_is) (misses free 2 helped.word_is (λ is. absurd (omega (arith, is))) refl)
    ]

    tries : known.has ≡ None → (first : Found View) → get_elem? s.views 0 ≡ first → StandsBy home holds.word s.homes s.views first → Tries s id known holds.word
    tries free (some Opening) is stands = subst (Tries s id known) (sym stands.0) (misses free 0 stands.0 (λ is. absurd (omega (arith, is))) refl)
    tries free (some (OfOwner view)) is stands = tries_owner free (OfOwner view) is view.known.parked (λ word homes views by. by) stands
    tries free (some (OfHelper view)) is stands = absurd stands
    tries free none is stands = absurd stands

  takes_by : (id : ℕ) (known : HelperKnown) → known.has ≡ None → Allows (Holds home) slots id (helper_view known, []) 0 (λ n. either (eqb n 1) 2 n) (Took home (helper_view known, []))
  unfolding Tries
  takes_by id known free s holds count at small =
      subst (Tries s id known) (sym (word_read s.words holds.word holds.words_are)) (tries s holds id known at free (get_elem? s.views 0) refl holds.stands)

  pub allows_take : (id : ℕ) (me : Party) (known : HelperKnown) → me ≡ (helper_view known, []) → known.has ≡ None → Allows (Holds home) slots id me 0 (λ n. either (eqb n 1) 2 n) (Took home me)
  allows_take id me known is free = subst (λ (m : Party). Allows (Holds home) slots id m 0 (λ n. either (eqb n 1) 2 n) (Took home m)) (sym is) (takes_by id known free)

  module _ (s : State Slot View) (holds : Holds home s) (id : ℕ) (known : HelperKnown) (at : get_elem? s.views id ≡ some (helper_view known)) (taken : Taken) (has : known.has ≡ Some taken)
      (boxed : Box SeatHeld Global) (answered : OnlyAnswered taken.parked boxed.value) (room : 0 < length s.homes) (new : HelperKnown) (nothing : new.has ≡ None) where
    -- one helper has the seat, so it is this one
    rests_again : (parked : SeatHeld) → IsHelped holds.word s.views parked → IsResting 1 (set s.homes 0 (some (slot_of boxed))) (set s.views id (helper_view new)) parked
    rests_again parked helped =
        let mine : HasAlone helped.one parked id (Some taken) = subst (λ (h : Option Taken). HasAlone helped.one parked id h) has (helped.alone id known at) in
        record {
          word_is = refl;
          boxed = boxed;
          home = set_here s.homes 0 (some (slot_of boxed)) room;
          answered = subst (λ (p : SeatHeld). OnlyAnswered p boxed.value) mine.1 answered;
          free = subst (λ (n : ℕ). NoneHas (set s.views n (helper_view new))) (sym mine.0) (none_by_giving s.views helped.one parked new helped.alone nothing);
        }

    -- it isn't so that none has it
    not_free : NoneHas s.views → ⊥
    not_free free = let both : Some taken ≡ None = sym has ∙ free id known at in absurd cc

    gives_owner : (parked : Option SeatHeld) → StandsOwner home holds.word s.homes s.views parked → StandsOwner home 1 (set s.homes 0 (some (slot_of boxed))) (set s.views id (helper_view new)) parked
    gives_owner None stands = absurd (not_free stands.1)
    gives_owner (Some parked) stands = (stands.0, ⊎_elim (λ rests. absurd (not_free rests.free)) (λ helped. inl (rests_again parked helped)) stands.1)

    gives_by : (first : Found View) → StandsBy home holds.word s.homes s.views first → StandsBy home 1 (set s.homes 0 (some (slot_of boxed))) (set s.views id (helper_view new)) first
    gives_by (some Opening) stands = absurd (not_free stands.2)
    gives_by (some (OfOwner view)) stands = gives_owner view.known.parked stands
    gives_by (some (OfHelper view)) stands = absurd stands
    gives_by none stands = absurd stands

  gives_it : (id : ℕ) (known : HelperKnown) (taken : Taken) → known.has ≡ Some taken → (boxed : Box SeatHeld Global) → OnlyAnswered taken.parked boxed.value → slots ≡ 1
      → Allows (Holds home) slots id (helper_view known, (0, slot_of boxed) ∷ []) 0 (λ _. 1) (λ _. HasGiven (helper_view known, (0, slot_of boxed) ∷ []))
  gives_it id known taken has boxed answered one s holds count at small =
      let new = given_by known (Some boxed.value) in (
        helper_view new,
        gives,
        tt,
        stepped_helper s holds id known new at 1 (set s.homes 0 (some (slot_of boxed))) (get_elem? s.views 0) refl
            (gives_by s holds id known at taken has boxed answered (omega (arith, count, one)) new refl (get_elem? s.views 0) holds.stands),
        refl,
      )

  pub allows_give : (id : ℕ) (me : Party) (known : HelperKnown) (taken : Taken) (boxed : Box SeatHeld Global) → me ≡ (helper_view known, (0, slot_of boxed) ∷ []) → known.has ≡ Some taken
      → OnlyAnswered taken.parked boxed.value → slots ≡ 1 → Allows (Holds home) slots id me 0 (λ _. 1) (λ _. HasGiven me)
  allows_give id me known taken boxed is has answered one = subst (λ (m : Party). Allows (Holds home) slots id m 0 (λ _. 1) (λ _. HasGiven m)) (sym is) (gives_it id known taken has boxed answered one)

-- the helper with this seat in its slot
pub filled_by_helper : (me : Party) (boxed : Box SeatHeld Global) → me ≡ (helper_view (helper_by me.0), (0, None) ∷ []) → ◌≡◌ {A = Party} (me.0, (0, slot_of boxed) ∷ rest me.1) (helper_view (helper_by me.0), (0, slot_of boxed) ∷ [])
filled_by_helper me boxed empty = ap (λ (m : Party). (m.0, (0, slot_of boxed) ∷ rest m.1)) empty

-- a helper's try is allowed at the berth of the seat for which that was made
pub allows_take_of : (home key : SeatHeld) → key ≡ home → (slots id : ℕ) (me : Party) (known : HelperKnown) → me ≡ (helper_view known, []) → known.has ≡ None
    → Allows (Holds key) slots id me 0 (λ n. either (eqb n 1) 2 n) (Took home me)
allows_take_of home key same slots id me known is free =
    subst (λ (k : SeatHeld). Allows (Holds k) slots id me 0 (λ n. either (eqb n 1) 2 n) (Took home me)) (sym same) (allows_take home slots id me known is free)

-- a helper has the seat in the slot where its try has found that this rests
pub taken_slot : (home : SeatHeld) (before after : Party) (found : ℕ) → found ≡ 1 → Took home before found after → (old : Slot) × (after.1 ≡ (0, old) ∷ rest after.1)
taken_slot home before after found is took =
    let taken = took.rested is in
    (slot_of taken.boxed, ap (λ (m : Party). m.1) taken.after_is ∙ ap (λ (m : Party). (0, slot_of taken.boxed) ∷ rest m.1) (sym taken.after_is))
