-- The owner's steps keep the rule of a berth.
use Rattle.std.proofs.Common.{◌≡◌, ℕ, zero, suc, ◌<◌, ◌≢◌, eqb, List, [], ◌∷◌, ◌⊎◌, length, get_or, set, Option, Some, None, IfSome, IsSome, inl, inr, refl, sym, ap, subst, ◌∙◌, arith}
use Rattle.std.specs.declared.alloc.Global.{Global}
use Rattle.std.specs.declared.boxed.Box.{Box}
use mathlib.Core.Option.{Option as Found, none, some}
use prog.Atomic.{either}
use lib.ListN.{get_elem?}
use Rattle.atomic_table.specs.Table.{State, opening, Act, Allows, Valid, stepped, carried_after, keeps, takes, gives, rest}
use Rattle.atomic_table.proofs.Lists.{set_here}
use Rattle.heap_table.specs.SeatHeld.{SeatHeld}
use Rattle.seat_berth.specs.Known.{OwnerKnown, HelperKnown, Taken, opening_owner}
use Rattle.seat_berth.specs.OnlyAnswered.{OnlyAnswered}
use Rattle.seat_berth.specs.Owned.{IsOwner, slots_of}
use Rattle.seat_berth.specs.Plays.{Party, HasOpened, HasParked, Resumed}
use Rattle.seat_berth.specs.Resting.{IsOf, NoneHas, HasAlone, IsResting, IsHelped, StandsOwner, StandsBy, Holds}
use Rattle.seat_berth.specs.Views.{Slot, slot_of, owner_view, owner_by, parked_by, resumed_by, refused_by}
use Rattle.seat_berth.specs.declared.view.View.{View}
use Rattle.seat_berth.specs.declared.view.View.TheVariants.{Opening}
use Rattle.seat_berth.proofs.Answered.{only_same}
use Rattle.seat_berth.proofs.Parties.{replaced, each_by_owner}

-- what the word is, by what is read of it
pub word_read : (words : List ℕ) (word : ℕ) → words ≡ word ∷ [] → get_or words 0 0 ≡ word
word_read words word are = ap (λ (l : List ℕ). get_or l 0 0) are

-- what is there
found_in : {A : Type 0} → (held : Option A) → IsSome held → (a : A) × (held ≡ Some a)
found_in (Some a) there = (a, refl)
found_in None there = cc

module _ (home : SeatHeld) (slots : ℕ) where
  -- how the berth stands by this view, which is the first
  pub standing : (s : State Slot View) (holds : Holds home s) (view : View) → get_elem? s.views 0 ≡ some view → StandsBy home holds.word s.homes s.views (some view)
  standing s holds view at = subst (λ (v : Found View). StandsBy home holds.word s.homes s.views v) at holds.stands

  -- the berth with this word, these slots and another view of the owner's
  stepped_owner : (s : State Slot View) → Holds home s → (old : View) → get_elem? s.views 0 ≡ some old → (word : ℕ) (homes : List (Found Slot)) (known : OwnerKnown)
      → StandsOwner home word homes (set s.views 0 (owner_view known)) known.parked
      → Holds home (record { words = set s.words 0 word; homes = homes; views = set s.views 0 (owner_view known) })
  stepped_owner s holds old at word homes known stands = record {
    word = word;
    words_are = ap (λ (l : List ℕ). set l 0 word) holds.words_are;
    stands = subst (λ (v : Found View). StandsBy home word homes (set s.views 0 (owner_view known)) v) (sym (replaced s.views 0 old (owner_view known) at)) stands;
  }

  opens : Allows (Holds home) slots 0 (Opening, []) 0 (λ _. 0) (λ _. HasOpened)
  opens s holds count at small =
      let is = standing s holds Opening at in
      (owner_view opening_owner, takes 0 None, is.1, stepped_owner s holds Opening at 0 (set s.homes 0 none) opening_owner (refl, each_by_owner s.views (λ party has. has ≡ None) is.2 opening_owner), refl)

  pub allows_open : (id : ℕ) → id ≡ 0 → (me : Party) → me ≡ (Opening, []) → Allows (Holds home) slots id me 0 (λ _. 0) (λ _. HasOpened)
  allows_open id first me is = subst (λ (n : ℕ). Allows (Holds home) slots n me 0 (λ _. 0) (λ _. HasOpened)) (sym first)
      (subst (λ (m : Party). Allows (Holds home) slots 0 m 0 (λ _. 0) (λ _. HasOpened)) (sym is) opens)

  parks : (words : List ℕ) (boxed : Box SeatHeld Global) → IsOf home boxed.value → slots ≡ 1
      → Allows (Holds home) slots 0 (owner_view (record { parked = None; words = words }), (0, slot_of boxed) ∷ []) 0 (λ _. 1) (λ _. HasParked (owner_view (record { parked = None; words = words }), (0, slot_of boxed) ∷ []))
  parks words boxed of one s holds count at small =
      let old = owner_view (record { parked = None; words = words }) in
      let new : OwnerKnown = record { parked = Some boxed.value; words = words } in
      let is = standing s holds old at in
      let resting : IsResting 1 (set s.homes 0 (some (slot_of boxed))) (set s.views 0 (owner_view new)) boxed.value = record {
        word_is = refl;
        boxed = boxed;
        home = set_here s.homes 0 (some (slot_of boxed)) (omega (arith, count, one));
        answered = only_same boxed.value;
        free = each_by_owner s.views (λ party has. has ≡ None) is.1 new;
      } in
      (owner_view new, gives, tt, stepped_owner s holds old at 1 (set s.homes 0 (some (slot_of boxed))) new (of, inl resting), refl)

  pub allows_park : (id : ℕ) → id ≡ 0 → (me : Party) (known : OwnerKnown) (boxed : Box SeatHeld Global) → me ≡ (owner_view known, (0, slot_of boxed) ∷ []) → known.parked ≡ None → IsOf home boxed.value → slots ≡ 1
      → Allows (Holds home) slots id me 0 (λ _. 1) (λ _. HasParked me)
  allows_park id first me known boxed is away of one =
      let view : me ≡ (owner_view (record { parked = None; words = known.words }), (0, slot_of boxed) ∷ []) = is ∙ ap (λ (p : Option SeatHeld). (owner_view (record { parked = p; words = known.words }), (0, slot_of boxed) ∷ [])) away in
      subst (λ (n : ℕ). Allows (Holds home) slots n me 0 (λ _. 1) (λ _. HasParked me)) (sym first)
      (subst (λ (m : Party). Allows (Holds home) slots 0 m 0 (λ _. 1) (λ _. HasParked m)) (sym view) (parks known.words boxed of one))

  -- what the owner's try comes to, where it has found this word
  Tries : State Slot View → List ℕ → SeatHeld → ℕ → Type 0
  Tries s words parked n = let me : Party = (owner_view (record { parked = Some parked; words = words }), []) in
      (w : View) × (a : Act Slot) × Valid s.homes [] a × Holds home (stepped s 0 (either (eqb n 1) 0 n) 0 [] w a) × Resumed me n (w, carried_after [] a)

  has_back : (s : State Slot View) (holds : Holds home s) (words : List ℕ) (parked : SeatHeld) → get_elem? s.views 0 ≡ some (owner_view (record { parked = Some parked; words = words }))
      → IsOf home parked → IsResting holds.word s.homes s.views parked → Tries s words parked 1
  unfolding Tries
  has_back s holds words parked at of rests =
      let new : OwnerKnown = record { parked = None; words = 1 ∷ words } in (
        owner_view new,
        takes 0 (slot_of rests.boxed),
        rests.home,
        stepped_owner s holds (owner_view (record { parked = Some parked; words = words })) at 0 (set s.homes 0 none) new (refl, each_by_owner s.views (λ party has. has ≡ None) rests.free new),
        record { rested = λ _. record { boxed = rests.boxed; answered = rests.answered; after_is = refl }; busy = λ other. absurd (other refl) },
      )

  is_refused : (s : State Slot View) (holds : Holds home s) (words : List ℕ) (parked : SeatHeld) → get_elem? s.views 0 ≡ some (owner_view (record { parked = Some parked; words = words }))
      → IsOf home parked → IsHelped holds.word s.views parked → Tries s words parked 2
  unfolding Tries
  is_refused s holds words parked at of helped =
      let new : OwnerKnown = record { parked = Some parked; words = 2 ∷ words } in
      let still : IsHelped 2 (set s.views 0 (owner_view new)) parked = record { word_is = refl; one = helped.one; alone = each_by_owner s.views (HasAlone helped.one parked) helped.alone new } in (
        owner_view new,
        keeps,
        tt,
        stepped_owner s holds (owner_view (record { parked = Some parked; words = words })) at 2 s.homes new (of, inr still),
        record { rested = λ is. absurd (omega (arith, is)); busy = λ _. record { helped = refl; after_is = refl } },
      )

  resumes : (words : List ℕ) (parked : SeatHeld) → Allows (Holds home) slots 0 (owner_view (record { parked = Some parked; words = words }), []) 0 (λ n. either (eqb n 1) 0 n) (Resumed (owner_view (record { parked = Some parked; words = words }), []))
  unfolding Tries
  resumes words parked s holds count at small =
      let is = standing s holds (owner_view (record { parked = Some parked; words = words })) at in
      let read = word_read s.words holds.word holds.words_are in
      elim is.1 [
        | inl rests ↦ subst (Tries s words parked) (sym (read ∙ rests.word_is)) (has_back s holds words parked at is.0 rests)
        | inr helped ↦ subst (Tries s words parked) (sym (read ∙ helped.word_is)) (is_refused s holds words parked at is.0 helped)
      ]

  pub allows_resume : (id : ℕ) → id ≡ 0 → (me : Party) (known : OwnerKnown) (parked : SeatHeld) → me ≡ (owner_view known, []) → known.parked ≡ Some parked
      → Allows (Holds home) slots id me 0 (λ n. either (eqb n 1) 0 n) (Resumed me)
  allows_resume id first me known parked is has =
      let view : me ≡ (owner_view (record { parked = Some parked; words = known.words }), []) = is ∙ ap (λ (p : Option SeatHeld). (owner_view (record { parked = p; words = known.words }), [])) has in
      subst (λ (n : ℕ). Allows (Holds home) slots n me 0 (λ n. either (eqb n 1) 0 n) (Resumed me)) (sym first)
      (subst (λ (m : Party). Allows (Holds home) slots 0 m 0 (λ n. either (eqb n 1) 0 n) (Resumed m)) (sym view) (resumes known.words parked))

-- the owner with this seat in its slot
pub filled_by_owner : (id : ℕ) (me : Party) (boxed : Box SeatHeld Global) → IsOwner id me → (owner_by me.0).parked ≡ None → ◌≡◌ {A = Party} (me.0, (0, slot_of boxed) ∷ rest me.1) (owner_view (owner_by me.0), (0, slot_of boxed) ∷ [])
filled_by_owner id me boxed owner away =
    let empty : me ≡ (owner_view (owner_by me.0), (0, None) ∷ []) = owner.knows ∙ ap (λ (p : Option SeatHeld). (owner_view (owner_by me.0), slots_of p)) away in
    ap (λ (m : Party). (m.0, (0, slot_of boxed) ∷ rest m.1)) empty

-- the owner's try is allowed while its seat is parked
pub allows_try : (home : SeatHeld) (slots id : ℕ) (me : Party) → IsOwner id me → IsSome (owner_by me.0).parked → Allows (Holds home) slots id me 0 (λ n. either (eqb n 1) 0 n) (Resumed me)
allows_try home slots id me owner parked =
    let has = found_in (owner_by me.0).parked parked in
    allows_resume home slots id owner.first me (owner_by me.0) has.0 (owner.knows ∙ ap (λ (p : Option SeatHeld). (owner_view (owner_by me.0), slots_of p)) has.1) has.1

-- the owner has no slot while its seat is parked
pub parked_empty : (id : ℕ) (me : Party) → IsOwner id me → IsSome (owner_by me.0).parked → me.1 ≡ []
parked_empty id me owner parked = ap (λ (m : Party). m.1) owner.knows ∙ ap slots_of (found_in (owner_by me.0).parked parked).1

-- the owner has its seat in the slot where its try has found that this rests
pub back_slot : (before after : Party) (found : ℕ) → found ≡ 1 → Resumed before found after → (old : Slot) × (after.1 ≡ (0, old) ∷ rest after.1)
back_slot before after found is resumed =
    let back = resumed.rested is in
    (slot_of back.boxed, ap (λ (m : Party). m.1) back.after_is ∙ ap (λ (m : Party). (0, slot_of back.boxed) ∷ rest m.1) (sym back.after_is))
